-- To which connections no place is tied.
use Rattle.std.proofs.Common.{◌≡◌, ◌≢◌, ◌||◌, ℕ, zero, suc, Bool, true, false, List, [], ◌∷◌, get_or, Option, None, Some, refl, sym}
use Rattle.std.proofs.Common.{ap, ◌∙◌}
use Rattle.std.proofs.lemmas.Bool.{eq-eqb, eqb-true}
use Rattle.std.specs.List.{list_any}
use Rattle.iox_domain_ports.specs.Ties.{TiesState, is_tie, has_tie}

or_second : (a b : Bool) → b ≡ true → (a || b) ≡ true
or_second true b is = refl
or_second false b is = is

tied_one : (index : ℕ) (tie : Option ℕ) → tie ≡ Some index → is_tie index tie ≡ true
tied_one index None is = let no : None ≡ Some index = is in cc
tied_one index (Some tie) is = let same : tie ≡ index = cc in eq-eqb tie index same

or_first : (a b : Bool) → a ≡ true → (a || b) ≡ true
or_first true b is = refl
or_first false b is = cc

-- a place that is tied to a number is one of those that are
pub tied_among : (index place : ℕ) (items : List (Option ℕ)) → get_or items place None ≡ Some index → list_any (is_tie index) items ≡ true
tied_among index place [] is = let no : None ≡ Some index = is in cc
tied_among index zero (tie ∷ items) is = or_first (is_tie index tie) (list_any (is_tie index) items) (tied_one index tie is)
tied_among index (suc place) (tie ∷ items) is
    = or_second (is_tie index tie) (list_any (is_tie index) items) (tied_among index place items is)

by_either : {A : Type 0} (a b : Bool) → (a || b) ≡ true → (a ≡ true → A) → (b ≡ true → A) → A
by_either true b is first second = first refl
by_either false b is first second = second is

some_one : (index : ℕ) (tie : Option ℕ) → is_tie index tie ≡ true → tie ≡ Some index
some_one index None is = cc
some_one index (Some tie) is = ap (λ n. Some n) (eqb-true tie index is)

some_among : (index : ℕ) (items : List (Option ℕ)) → list_any (is_tie index) items ≡ true
    → (place : ℕ) × (get_or items place None ≡ Some index)
some_among index [] is = cc
some_among index (tie ∷ items) is = by_either (is_tie index tie) (list_any (is_tie index) items) is
    (λ here. (zero, some_one index tie here))
    (λ behind. let it = some_among index items behind in (suc it.0, it.1))

-- where some is tied to a number, a place is
pub some_tied : (index : ℕ) (ties : TiesState) → has_tie index ties ≡ true → (place : ℕ) × (get_or ties.items place None ≡ Some index)
some_tied index ties is = some_among index ties.items is

-- where none is tied to a number, no place is
pub none_tied : (index : ℕ) (ties : TiesState) → has_tie index ties ≡ false → (place : ℕ) → get_or ties.items place None ≢ Some index
none_tied index ties none place is = let no : true ≡ false = sym (tied_among index place ties.items is) ∙ none in cc
