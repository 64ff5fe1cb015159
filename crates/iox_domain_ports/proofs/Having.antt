-- Whether one of the connections is there.
use Rattle.std.proofs.Common.{rules, arith, ◌≡◌, ◌<◌, ◌≤◌, ◌+◌, ◌||◌, ◌∷◌, [], ℕ, zero, suc, Bool, true, false, nat_lt, List, length}
use Rattle.std.proofs.Common.{get_or, refl, sym, ap, ◌∙◌}
use Rattle.std.specs.List.{list_any}
use Rattle.iox_domain_slots.specs.Uses.{Connection, nobody, is_there}

-- none of the first n is there
abbrev pub NoneBelow : {X : Type 0} → List (Connection X) → ℕ → Type 0
NoneBelow connections count = (index : ℕ) → index < count → is_there (get_or connections index nobody) ≡ false

or_true : (b : Bool) → (b || true) ≡ true
or_true true = refl
or_true false = refl

pub some_there : {X : Type 0} (connections : List (Connection X)) (index : ℕ) → is_there (get_or connections index nobody) ≡ true
    → list_any is_there connections ≡ true
some_there [] index is = search (rules, is)
some_there (c ∷ rest) zero is = rw is refl
some_there (c ∷ rest) (suc index) is = rw (some_there rest index is) (or_true (is_there c))

pub none_there : {X : Type 0} (connections : List (Connection X)) (count : ℕ) → length connections < count + 1
    → NoneBelow connections count → list_any is_there connections ≡ false
none_there [] count few none = refl
none_there (c ∷ rest) zero few none = absurd (omega (arith, few))
none_there (c ∷ rest) (suc count) few none =
    rw (none zero (omega arith)) (none_there rest count (omega (arith, few)) (λ index below. none (suc index) (omega (arith, below))))

-- a connection is there exactly if the index after the last one isn't 0
pub any_there : {X : Type 0} (connections : List (Connection X)) (top : ℕ)
    → ((index : ℕ) → top ≤ index → get_or connections index nobody ≡ nobody)
    → ((index : ℕ) → index + 1 ≡ top → is_there (get_or connections index nobody) ≡ true)
    → nat_lt 0 top ≡ list_any is_there connections
any_there connections zero none last = sym (none_there connections (length connections) (omega arith)
    (λ index below. ap is_there (none index (omega arith))))
any_there connections (suc top) none last =
    let some : nat_lt 0 (suc top) ≡ true = grind arith in
    some ∙ sym (some_there connections top (last top (omega arith)))
