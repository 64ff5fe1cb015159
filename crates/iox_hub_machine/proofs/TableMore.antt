-- Tables of a hub and of a machine with one more after the others.
use Rattle.std.proofs.Common.{◌≡◌, ◌≢◌, ◌≤◌, ◌<◌, ◌⊎◌, ◌^◌, ◌+◌, ℕ, Bool, true, false, cond, List, [], ◌∷◌, ◌++◌, length, map, Option}
use Rattle.std.proofs.Common.{None, Some}
use Rattle.std.proofs.Common.{refl, sym, ap, ◌∙◌, inl, inr, arith}
use Rattle.std.proofs.Math.Logic.{⊎_elim}
use Rattle.std.proofs.lemmas.Bool.{eq-eqb, eqb-true}
use Rattle.std.proofs.lemmas.Bool.Decides.{eqb_tells}
use Rattle.std.specs.Map.{keys_of, lookup}
use Rattle.std.specs.Option.{option_or, unwrap_or}
use Rattle.std.specs.Prelude.{filter, nat_eq, is_some, ◌==◌}
use Rattle.iox_container.specs.NumberTable.{Rises}
use Rattle.iox_domain.proofs.Keeping.{kept_is_there}
use Rattle.iox_domain.proofs.Keys.{adds, adds_same, adds_other}
use Rattle.iox_domain.specs.Tries.{how_often}
use Rattle.iox_domain_machine.proofs.Found.{same_some, never_some, at_head, at_behind}
use Rattle.iox_domain_machine.specs.Services.{those_of, ComesOnce}
use Rattle.iox_hub_base.specs.Hubs.{factories_of, one_more, with_factory}
use Rattle.iox_hub_base.specs.Numbered.{others_beside}
use Rattle.iox_hub_machine.specs.Ports.{among}
use Rattle.iox_machine.specs.Service.{Service}
use Rattle.iox_machine.specs.Table.{at}

-- ---- what goes by a number of a hub

module _ {V : Type 0} (next : ℕ) (v : V) where
  still_by : (number : ℕ) (w : V) (entry : ℕ × V) (entries : List (ℕ × V)) (b : Bool)
      → (lookup (nat_eq number) entries ≡ Some w → lookup (nat_eq number) (entries ++ (next, v) ∷ []) ≡ Some w)
      → cond b (Some entry.1) (lookup (nat_eq number) entries) ≡ Some w
      → cond b (Some entry.1) (lookup (nat_eq number) (entries ++ (next, v) ∷ [])) ≡ Some w
  still_by number w entry entries true rest is = is
  still_by number w entry entries false rest is = rest is

  -- what went by a number goes by it still
  pub still_goes : (number : ℕ) (w : V) (entries : List (ℕ × V)) → lookup (nat_eq number) entries ≡ Some w
      → lookup (nat_eq number) (entries ++ (next, v) ∷ []) ≡ Some w
  still_goes number w [] is = never_some w is
  still_goes number w (entry ∷ entries) is =
      still_by number w entry entries (nat_eq number entry.0) (still_goes number w entries) is

  new_by : (entry : ℕ × V) (entries : List (ℕ × V)) (b : Bool)
      → (lookup (nat_eq next) entries ≡ None → lookup (nat_eq next) (entries ++ (next, v) ∷ []) ≡ Some v)
      → cond b (Some entry.1) (lookup (nat_eq next) entries) ≡ None
      → cond b (Some entry.1) (lookup (nat_eq next) (entries ++ (next, v) ∷ [])) ≡ Some v
  new_by entry entries true rest none = never_some entry.1 (sym none)
  new_by entry entries false rest none = rest none

  -- the new one goes by its number
  pub new_goes : (entries : List (ℕ × V)) → lookup (nat_eq next) entries ≡ None
      → lookup (nat_eq next) (entries ++ (next, v) ∷ []) ≡ Some v
  new_goes [] none = ap (λ (b : Bool). cond b (Some v) None) (eq-eqb next next refl)
  new_goes (entry ∷ entries) none = new_by entry entries (nat_eq next entry.0) (new_goes entries) none

  abbrev WentOrNew : ℕ → V → List (ℕ × V) → Type 0
  WentOrNew number w entries = (lookup (nat_eq number) entries ≡ Some w) ⊎ ((number ≡ next) × (v ≡ w))

  end_by : (number : ℕ) (w : V) (b : Bool) → nat_eq number next ≡ b → cond b (Some v) None ≡ Some w → WentOrNew number w []
  end_by number w true same is = inr (eqb-true number next same, same_some v w is)
  end_by number w false other is = never_some w is

  went_by : (number : ℕ) (w : V) (entry : ℕ × V) (entries : List (ℕ × V)) (b : Bool)
      → (lookup (nat_eq number) (entries ++ (next, v) ∷ []) ≡ Some w → WentOrNew number w entries)
      → cond b (Some entry.1) (lookup (nat_eq number) (entries ++ (next, v) ∷ [])) ≡ Some w
      → (cond b (Some entry.1) (lookup (nat_eq number) entries) ≡ Some w) ⊎ ((number ≡ next) × (v ≡ w))
  went_by number w entry entries true rest is = inl is
  went_by number w entry entries false rest is = rest is

  -- what goes by a number then went by it before, or is the new one
  pub went_or_new : (number : ℕ) (w : V) (entries : List (ℕ × V)) → lookup (nat_eq number) (entries ++ (next, v) ∷ []) ≡ Some w
      → WentOrNew number w entries
  went_or_new number w [] is = end_by number w (nat_eq number next) refl is
  went_or_new number w (entry ∷ entries) is =
      went_by number w entry entries (nat_eq number entry.0) (went_or_new number w entries) is

-- numbers that rise are fewer than those that were given
pub rising_few : {V : Type 0} (low next : ℕ) (entries : List (ℕ × V)) → Rises low entries next → length entries + low ≤ next
rising_few low next [] rises = omega (arith, rises)
rising_few low next (entry ∷ entries) rises = omega (arith, rises.0, rising_few (entry.0 + 1) next entries rises.1)

-- ---- how often

pub often_few : (number : ℕ) (numbers : List ℕ) → how_often number numbers ≤ length numbers
often_few number [] = omega arith
often_few number (one ∷ numbers) = there (number == one) (often_few number numbers)
  where
    there : (b : Bool) → how_often number numbers ≤ length numbers → cond b 1 0 + how_often number numbers ≤ length (one ∷ numbers)
    there true few = omega (arith, few)
    there false few = omega (arith, few)

-- how many factories a service has that got one more, and how many others have
pub counted_more : (number other : ℕ) (counts : List (ℕ × ℕ)) → factories_of number counts + 1 < 2 ^ 64
    → factories_of other (with_factory number counts) ≡ factories_of other counts + adds other number
counted_more number other counts few = ⊎_elim
    (λ same. ap (λ (n : ℕ). factories_of n (with_factory number counts)) same.1
    ∙ ap (λ (found : Option ℕ). unwrap_or found 0) (kept_is_there number (one_more (factories_of number counts)) counts)
    ∙ one_there (factories_of number counts) (adds other number) (factories_of other counts) few
    (ap (λ (n : ℕ). factories_of n counts) same.1) (adds_same other number same.1))
    (λ off. ap (λ (found : Option ℕ). unwrap_or found 0)
    (others_beside number other counts (one_more (factories_of number counts)) (λ same. off.1 (sym same)))
    ∙ none_there (factories_of other counts) (adds other number) (adds_other other number off.1))
    (eqb_tells other number)
  where
    one_there : (many added same : ℕ) → many + 1 < 2 ^ 64 → same ≡ many → added ≡ 1 → one_more many ≡ same + added
    one_there many added same few is one = omega (arith, few, is, one)

    none_there : (many added : ℕ) → added ≡ 0 → many ≡ many + added
    none_there many added none = omega (arith, none)

-- ---- what goes by a number of the machine

-- a service that has nothing has nothing that goes by a number
pub among_end : {T V : Type 0} (table : Service T → List (ℕ × V)) (number : ℕ) (services : List (Service T)) (one : Service T)
    → table one ≡ [] → among table number (services ++ one ∷ []) ≡ among table number services
among_end table number [] one none = ap (λ found. option_or (at number found) None) none
among_end table number (service ∷ services) one none =
    ap (option_or (at number (table service))) (among_end table number services one none)

module _ {V : Type 0} where
  -- what goes by a number after the first does so among all
  pub some_behind : (number : ℕ) (entry : ℕ × V) (table : List (ℕ × V)) → is_some (at number table) ≡ true
      → is_some (at number (entry ∷ table)) ≡ true
  some_behind number entry table is = ⊎_elim
      (λ same. ap is_some (at_head number entry table same.0))
      (λ off. ap is_some (at_behind number entry table off.0) ∙ is) (eqb_tells entry.0 number)

  -- a number by which something goes stands there
  pub number_there : (number : ℕ) (v : V) (table : List (ℕ × V)) → at number table ≡ Some v → 0 < how_often number (keys_of table)
  number_there number v [] is = never_some v is
  number_there number v (entry ∷ table) is = ⊎_elim
      (λ same. omega (arith, adds_same number entry.0 (sym same.1)))
      (λ off. omega (arith, number_there number v table (sym (at_behind number entry table off.0) ∙ is)))
      (eqb_tells entry.0 number)

module _ {V : Type 0} where
  abbrev bare : ℕ × (ℕ × V) → ℕ × V
  bare entry = (entry.0, entry.1.1)

  passed_by : (domain : ℕ) (entry : ℕ × (ℕ × V)) (rest : List (ℕ × (ℕ × V))) (b : Bool) → b ≡ false → map bare rest ≡ []
      → map bare (cond b (entry ∷ rest) rest) ≡ []
  passed_by domain entry rest true is none = absurd (differ is)
    where
      differ : true ≡ false → ⊥
      differ e = cc
  passed_by domain entry rest false is none = none

  -- where nothing that goes by a number is a domain's, it has nothing
  pub none_of : (domain : ℕ) (table : List (ℕ × (ℕ × V))) → ComesOnce table
      → ((number : ℕ) (one : ℕ × V) → at number table ≡ Some one → one.0 ≢ domain) → those_of domain table ≡ []
  none_of domain [] once off = refl
  none_of domain (entry ∷ table) once off =
      passed_by domain entry (filter (λ (one : ℕ × (ℕ × V)). one.1.0 == domain) table) (entry.1.0 == domain)
      (⊎_elim (λ same. absurd (off entry.0 entry.1 (at_head entry.0 entry table (eq-eqb entry.0 entry.0 refl)) same.1))
      (λ other. other.0) (eqb_tells entry.1.0 domain))
      (none_of domain table (λ number. omega (arith, once number)) later)
    where
      later : (number : ℕ) (one : ℕ × V) → at number table ≡ Some one → one.0 ≢ domain
      later number one is = ⊎_elim
          (λ same. absurd (omega (arith, once number, adds_same number entry.0 (sym same.1), number_there number one table is)))
          (λ other. off number one (at_behind number entry table other.0 ∙ is)) (eqb_tells entry.0 number)
