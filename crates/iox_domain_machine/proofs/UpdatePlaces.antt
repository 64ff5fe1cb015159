-- Who parts at places that are left to be gone over, and which place is the first where something failed.
use Rattle.std.proofs.Common.{◌≡◌, ◌≢◌, ◌⊎◌, ◌∷◌, [], ◌||◌, ℕ, zero, suc, true, false, not, List, get_or, Option, None, Some}
use Rattle.std.proofs.Common.{refl, ap, ◌∙◌, inl, inr}
use Rattle.std.proofs.lemmas.Bool.{eq-eqb, ne_eqb}
use Rattle.std.proofs.lemmas.List.Elements.{filter_map-append}
use Rattle.std.proofs.lemmas.List.Sums.{fold-append}
use Rattle.std.specs.Prelude.{filter, filter_map, fold, is_some, if◌then◌else◌}
use Rattle.iox_machine.proofs.Shorthands.{parting, gone_from}

-- at a place that lists somebody
abbrev pub Place : Type 0
Place = Option ℕ × Option ℕ

-- who leaves a place where another is listed
abbrev pub leaving_first : List Place → List ℕ
leaving_first places = filter_map gone_from (filter (λ place. is_some place.1) places)

-- who leaves a place where none is
abbrev pub leaving_then : List Place → List ℕ
leaving_then places = filter_map gone_from (filter (λ place. not (is_some place.1)) places)

pub parting_in_two : {S : Type 0} (step : S → ℕ → S) (start : S) (places : List Place)
    → fold step start (parting places) ≡ fold step (fold step start (leaving_first places)) (leaving_then places)
parting_in_two step start places =
    ap (λ all. fold step start all) (filter_map-append gone_from (filter (λ place. is_some place.1) places)
    (filter (λ place. not (is_some place.1)) places))
    ∙ fold-append step start (leaving_first places) (leaving_then places)

-- who is listed is at its place, or another is
pub gone_same : (connected listed : ℕ) → listed ≡ connected → gone_from (Some connected, Some listed) ≡ None
gone_same connected listed same = ap (λ b. if b || false then None else Some connected) (eq-eqb listed connected same)

pub gone_other : (connected listed : ℕ) → listed ≢ connected → gone_from (Some connected, Some listed) ≡ Some connected
gone_other connected listed off = ap (λ b. if b || false then None else Some connected) (ne_eqb listed connected off)

pub first_same : (connected listed : ℕ) (more : List Place) → listed ≡ connected
    → leaving_first ((Some connected, Some listed) ∷ more) ≡ leaving_first more
first_same connected listed more same = rw (gone_same connected listed same) refl

pub first_other : (connected listed : ℕ) (more : List Place) → listed ≢ connected
    → leaving_first ((Some connected, Some listed) ∷ more) ≡ connected ∷ leaving_first more
first_other connected listed more off = rw (gone_other connected listed off) refl

pub none_first : (places : List Place) → ((place : ℕ) → (get_or places place (None, None)).1 ≡ None) → leaving_first places ≡ []
none_first [] none = refl
none_first ((connected, None) ∷ places) none = none_first places (λ place. none (suc place))
none_first ((connected, Some listed) ∷ places) none = let no : Some listed ≡ None = none zero in cc

pub none_then : (places : List Place)
    → ((place : ℕ) → (is_some (get_or places place (None, None)).1 ≡ true) ⊎ ((get_or places place (None, None)).0 ≡ None))
    → leaving_then places ≡ []
none_then [] none = refl
none_then ((connected, Some listed) ∷ places) none = none_then places (λ place. none (suc place))
none_then ((None, None) ∷ places) none = none_then places (λ place. none (suc place))
none_then ((Some connected, None) ∷ places) none = by (none zero)
  where
    by : (false ≡ true) ⊎ (Some connected ≡ None) → leaving_then ((Some connected, None) ∷ places) ≡ []
    by (inl wrong) = cc
    by (inr wrong) = cc
