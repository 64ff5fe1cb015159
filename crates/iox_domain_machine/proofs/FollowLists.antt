-- Which ports a list of ports by place contains.
use Rattle.std.proofs.Common.{◌≡◌, ◌≢◌, ◌<◌, ◌∷◌, ◌&&◌, ◌||◌, [], ℕ, zero, suc, Bool, true, false, cond, List, get_or, length, map}
use Rattle.std.proofs.Common.{Option, None, Some, refl, sym, ap, ◌∙◌, arith}
use Rattle.std.proofs.lemmas.Bool.{eqb-true, eq-eqb}
use Rattle.std.specs.List.{filter, list_all}
use Rattle.std.specs.Prelude.{option_map, ◌==◌}
use Rattle.iox_domain.proofs.Numbered.{bool_false}
use Rattle.iox_domain_machine.proofs.Found.{same_some, never_some, never_true}
use Rattle.iox_machine.specs.PortList.{those}
use Rattle.iox_machine.specs.Table.{contains}

-- what is at each place of a list of others
pub mapped_at : {V W : Type 0} (f : V → W) (xs : List (Option V)) (place : ℕ)
    → get_or (map (option_map f) xs) place None ≡ option_map f (get_or xs place None)
mapped_at f [] place = refl
mapped_at f (x ∷ xs) zero = refl
mapped_at f (x ∷ xs) (suc place) = mapped_at f xs place

-- lists of the same at each place are the same
pub same_places : {V : Type 0} (xs ys : List (Option V)) → length xs ≡ length ys
    → ((place : ℕ) → place < length xs → get_or xs place None ≡ get_or ys place None) → xs ≡ ys
same_places [] [] long same = refl
same_places [] (y ∷ ys) long same = absurd (omega (arith, long))
same_places (x ∷ xs) [] long same = absurd (omega (arith, long))
same_places (x ∷ xs) (y ∷ ys) long same =
    ap (λ first. first ∷ xs) (same zero (omega arith))
    ∙ ap (λ rest. y ∷ rest) (same_places xs ys (omega (arith, long)) (λ place below. same (suc place) (omega (arith, below))))

-- who is at a place is in the list
pub contains_there : (xs : List (Option ℕ)) (place port : ℕ) → get_or xs place None ≡ Some port → contains (those xs) port ≡ true
contains_there [] place port is = never_some port is
contains_there (None ∷ xs) zero port is = never_some port is
contains_there (None ∷ xs) (suc place) port is = contains_there xs place port is
contains_there (Some x ∷ xs) zero port is = ap (λ b. b || contains (those xs) port) (eq-eqb x port (same_some x port is))
contains_there (Some x ∷ xs) (suc place) port is = by (x == port) (contains_there xs place port is)
  where
    by : (b : Bool) → contains (those xs) port ≡ true → b || contains (those xs) port ≡ true
    by true rest = refl
    by false rest = rest

-- and who is in it is at a place
pub contained_at : (xs : List (Option ℕ)) (port : ℕ) → contains (those xs) port ≡ true → (place : ℕ) × (get_or xs place None ≡ Some port)
contained_at [] port is = never_true is
contained_at (None ∷ xs) port is = let rest = contained_at xs port is in (suc rest.0, rest.1)
contained_at (Some x ∷ xs) port is = by (x == port) refl (λ rest. contained_at xs port rest) is
  where
    by : (b : Bool) → (x == port) ≡ b
        → (contains (those xs) port ≡ true → (place : ℕ) × (get_or xs place None ≡ Some port))
        → b || contains (those xs) port ≡ true
        → (place : ℕ) × (get_or (Some x ∷ xs) place None ≡ Some port)
    by true same at_rest is = (zero, ap (λ n. Some n) (eqb-true x port same))
    by false same at_rest is = let rest = at_rest is in (suc rest.0, rest.1)

-- nobody is in it who is at no place
pub contained_nowhere : (xs : List (Option ℕ)) (port : ℕ) → ((place : ℕ) → get_or xs place None ≢ Some port)
    → contains (those xs) port ≡ false
contained_nowhere xs port nowhere = bool_false _ (λ is. let there = contained_at xs port is in nowhere there.0 there.1)

-- who passes a test is in a list of those that do
contains_cons : (test : ℕ → Bool) (x port : ℕ) (rest : Bool) (b : Bool) → test x ≡ b → (xs : List ℕ)
    → contains (filter test xs) port ≡ (test port && contains xs port)
    → contains (cond b (x ∷ filter test xs) (filter test xs)) port ≡ (test port && ((x == port) || contains xs port))
contains_cons test x port rest true passes xs same = by (x == port) refl
  where
    by : (b : Bool) → (x == port) ≡ b
        → (b || contains (filter test xs) port) ≡ (test port && (b || contains xs port))
    by true is = sym (ap (λ n. test n && true) (sym (eqb-true x port is)) ∙ ap (λ b. b && true) passes)
    by false is = same
contains_cons test x port rest false passes xs same = by (x == port) refl
  where
    by : (b : Bool) → (x == port) ≡ b → contains (filter test xs) port ≡ (test port && (b || contains xs port))
    by true is =
        let fails : test port ≡ false = ap test (sym (eqb-true x port is)) ∙ passes in
        same ∙ ap (λ b. b && contains xs port) fails ∙ sym (ap (λ b. b && true) fails)
    by false is = same

pub contains_filter : (test : ℕ → Bool) (xs : List ℕ) (port : ℕ) → contains (filter test xs) port ≡ (test port && contains xs port)
contains_filter test [] port = sym (never_and (test port))
  where
    never_and : (b : Bool) → b && false ≡ false
    never_and true = refl
    never_and false = refl
contains_filter test (x ∷ xs) port = contains_cons test x port true (test x) refl xs (contains_filter test xs port)

-- a test that all pass who are in a list
pub all_pass : (test : ℕ → Bool) (xs : List ℕ) → ((port : ℕ) → contains xs port ≡ true → test port ≡ true) → list_all test xs ≡ true
all_pass test [] each = refl
all_pass test (x ∷ xs) each =
    ap (λ b. b && list_all test xs) (each x (ap (λ b. b || contains xs x) (eq-eqb x x refl)))
    ∙ all_pass test xs (λ port is. each port (by port (x == port) is))
  where
    by : (port : ℕ) (b : Bool) → contains xs port ≡ true → b || contains xs port ≡ true
    by port true is = refl
    by port false is = is
