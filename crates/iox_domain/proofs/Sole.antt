-- Each number has at most one entry.
use Rattle.std.proofs.Common.{◌≡◌, ◌∷◌, [], ℕ, Bool, true, false, cond, List, Option, None, Some, refl, sym, ap, ◌∙◌, inl, inr}
use Rattle.std.proofs.lemmas.Bool.{cases_eq}
use Rattle.std.specs.BTreeMap.{insert_entry}
use Rattle.std.specs.Map.{lookup, set_value, remove_entry}
use Rattle.std.specs.Ordering.{nat_cmp, match_ordering}
use Rattle.std.specs.declared.cmp.Ordering.{Ordering}
use Rattle.std.specs.declared.cmp.Ordering.TheVariants.{Less, Equal, Greater}
use Rattle.iox_domain.proofs.Numbered.{at_number, other_came}

-- after an entry of this number is none of it
abbrev pub IsSole : {X : Type 0} → ℕ → List (ℕ × X) → Type 0
IsSole number [] = Unit {0}
IsSole number (e ∷ es) = (at_number number e.0 ≡ true → lookup (at_number number) es ≡ None) × IsSole number es

-- where none is found, none is after an entry changed or went
none_cases : {X : Type 0} (passes : Bool) (x : X) (found : Option X) → cond passes (Some x) found ≡ None → (passes ≡ false) × (found ≡ None)
none_cases true x found is = absurd (cc)
none_cases false x found is = (refl, is)

none_set_by : {X : Type 0} (number : ℕ) (test : ℕ → Bool) (passes : Bool) (e : ℕ × X) (es : List (ℕ × X)) (x : X)
    → at_number number e.0 ≡ false → lookup (at_number number) es ≡ None → lookup (at_number number) (set_value test es x) ≡ None
    → lookup (at_number number) (cond passes ((e.0, x) ∷ es) (e ∷ set_value test es x)) ≡ None
none_set_by number test true e es x fails none rest = ap (λ b. cond b (Some x) (lookup (at_number number) es)) fails ∙ none
none_set_by number test false e es x fails none rest
    = ap (λ b. cond b (Some e.1) (lookup (at_number number) (set_value test es x))) fails ∙ rest

none_set : {X : Type 0} (number : ℕ) (test : ℕ → Bool) (es : List (ℕ × X)) (x : X) → lookup (at_number number) es ≡ None
    → lookup (at_number number) (set_value test es x) ≡ None
none_set number test [] x none = refl
none_set number test (e ∷ es) x none =
    let cases = none_cases (at_number number e.0) e.1 (lookup (at_number number) es) none in
    none_set_by number test (test e.0) e es x cases.0 cases.1 (none_set number test es x cases.1)

none_gone_by : {X : Type 0} (number : ℕ) (test : ℕ → Bool) (passes : Bool) (e : ℕ × X) (es : List (ℕ × X))
    → at_number number e.0 ≡ false → lookup (at_number number) es ≡ None → lookup (at_number number) (remove_entry test es) ≡ None
    → lookup (at_number number) (cond passes es (e ∷ remove_entry test es)) ≡ None
none_gone_by number test true e es fails none rest = none
none_gone_by number test false e es fails none rest
    = ap (λ b. cond b (Some e.1) (lookup (at_number number) (remove_entry test es))) fails ∙ rest

none_gone : {X : Type 0} (number : ℕ) (test : ℕ → Bool) (es : List (ℕ × X)) → lookup (at_number number) es ≡ None
    → lookup (at_number number) (remove_entry test es) ≡ None
none_gone number test [] none = refl
none_gone number test (e ∷ es) none =
    let cases = none_cases (at_number number e.0) e.1 (lookup (at_number number) es) none in
    none_gone_by number test (test e.0) e es cases.0 cases.1 (none_gone number test es cases.1)

-- an entry changed
sole_set_by : {X : Type 0} (number : ℕ) (test : ℕ → Bool) (passes : Bool) (e : ℕ × X) (es : List (ℕ × X)) (x : X)
    → IsSole number (e ∷ es) → IsSole number (set_value test es x) → IsSole number (cond passes ((e.0, x) ∷ es) (e ∷ set_value test es x))
sole_set_by number test true e es x sole rest = (sole.0, sole.1)
sole_set_by number test false e es x sole rest = (λ is. none_set number test es x (sole.0 is), rest)

pub sole_set : {X : Type 0} (number : ℕ) (test : ℕ → Bool) (es : List (ℕ × X)) (x : X) → IsSole number es
    → IsSole number (set_value test es x)
sole_set number test [] x sole = sole
sole_set number test (e ∷ es) x sole = sole_set_by number test (test e.0) e es x sole (sole_set number test es x sole.1)

-- an entry went
sole_gone_by : {X : Type 0} (number : ℕ) (test : ℕ → Bool) (passes : Bool) (e : ℕ × X) (es : List (ℕ × X)) → IsSole number (e ∷ es)
    → IsSole number (remove_entry test es) → IsSole number (cond passes es (e ∷ remove_entry test es))
sole_gone_by number test true e es sole rest = sole.1
sole_gone_by number test false e es sole rest = (λ is. none_gone number test es (sole.0 is), rest)

pub sole_gone : {X : Type 0} (number : ℕ) (test : ℕ → Bool) (es : List (ℕ × X)) → IsSole number es → IsSole number (remove_entry test es)
sole_gone number test [] sole = sole
sole_gone number test (e ∷ es) sole = sole_gone_by number test (test e.0) e es sole (sole_gone number test es sole.1)

-- an entry came, of a number that had none
sole_came_by : {X : Type 0} (number came : ℕ) (order : Ordering) (e : ℕ × X) (es : List (ℕ × X)) (x : X)
    → (number ≡ came → lookup (at_number number) (e ∷ es) ≡ None) → IsSole number (e ∷ es) → IsSole number (insert_entry nat_cmp es came x)
    → (at_number number e.0 ≡ true → lookup (at_number number) (insert_entry nat_cmp es came x) ≡ None)
    → (at_number number came ≡ true → number ≡ came)
    → IsSole number (match_ordering order ((came, x) ∷ e ∷ es) ((e.0, x) ∷ es) (e ∷ insert_entry nat_cmp es came x))
sole_came_by number came Less e es x fresh sole rest behind same = (λ is. fresh (same is), sole)
sole_came_by number came Equal e es x fresh sole rest behind same = (sole.0, sole.1)
sole_came_by number came Greater e es x fresh sole rest behind same = (behind, rest)

pub sole_came : {X : Type 0} (number came : ℕ) (es : List (ℕ × X)) (x : X) → ((at : ℕ) → at_number number at ≡ true → number ≡ at)
    → (number ≡ came → lookup (at_number number) es ≡ None) → IsSole number es → IsSole number (insert_entry nat_cmp es came x)
sole_came number came [] x is_number fresh sole = (λ is. refl, tt)
sole_came number came (e ∷ es) x is_number fresh sole =
    let rest_fresh : number ≡ came → lookup (at_number number) es ≡ None
    = λ same. (none_cases (at_number number e.0) e.1 (lookup (at_number number) es) (fresh same)).1 in
    sole_came_by number came (nat_cmp came e.0) e es x fresh sole (sole_came number came es x is_number rest_fresh sole.1)
    (λ is. elim (cases_eq number came) [
      | inl same ↦
          let fails : at_number number e.0 ≡ false
          = (none_cases (at_number number e.0) e.1 (lookup (at_number number) es) (fresh same)).0 in
          let no : true ≡ false = sym is ∙ fails in absurd (cc)
      | inr apart ↦ other_came came number es x apart ∙ sole.0 is
    ])
    (is_number came)

-- the entry went, and none is found
none_left_by : {X : Type 0} (number : ℕ) (passes : Bool) (e : ℕ × X) (es : List (ℕ × X)) → at_number number e.0 ≡ passes
    → (at_number number e.0 ≡ true → lookup (at_number number) es ≡ None)
    → lookup (at_number number) (remove_entry (at_number number) es) ≡ None
    → lookup (at_number number) (cond passes es (e ∷ remove_entry (at_number number) es)) ≡ None
none_left_by number true e es is sole rest = sole is
none_left_by number false e es is sole rest
    = ap (λ b. cond b (Some e.1) (lookup (at_number number) (remove_entry (at_number number) es))) is ∙ rest

pub none_left : {X : Type 0} (number : ℕ) (es : List (ℕ × X)) → IsSole number es
    → lookup (at_number number) (remove_entry (at_number number) es) ≡ None
none_left number [] sole = refl
none_left number (e ∷ es) sole = none_left_by number (at_number number e.0) e es refl sole.0 (none_left number es sole.1)
