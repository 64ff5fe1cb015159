-- A table in which one value more goes by the number that comes next, of a hub and of the machine.
use Rattle.std.proofs.Common.{◌≡◌, ◌≢◌, ◌≤◌, ◌+◌, ◌⊎◌, ℕ, Bool, true, false, cond, List, [], ◌∷◌, ◌++◌, map, Option, None, Some, refl, sym}
use Rattle.std.proofs.Common.{ap, inl, inr, ◌∙◌, arith}
use Rattle.std.proofs.Math.Logic.{⊎_elim}
use Rattle.std.proofs.lemmas.Bool.{eq-eqb}
use Rattle.std.proofs.lemmas.Bool.Decides.{eqb_tells}
use Rattle.std.specs.Map.{keys_of, lookup}
use Rattle.std.specs.Prelude.{filter, nat_eq, ◌==◌, if◌then◌else◌}
use Rattle.iox_container.specs.NumberTable.{NumberTable, Rises, value_at, inserted}
use Rattle.iox_domain.specs.Tries.{how_often}
use Rattle.iox_domain_machine.specs.ServiceLaws.{ChangesAt}
use Rattle.iox_domain_machine.specs.Services.{those_of, ComesOnce}
use Rattle.iox_domain_machine.proofs.Found.{same_some, never_some, at_head, at_behind}
use Rattle.iox_machine.specs.Table.{at}

-- ---- the number that comes next

apart_so : (one other : ℕ) → one ≢ other → (one == other) ≡ false
apart_so one other off = ⊎_elim (λ same. absurd (off same.1)) (λ not. not.0) (eqb_tells one other)

reaches : {V : Type 0} (low next : ℕ) (entries : List (ℕ × V)) → Rises low entries next → low ≤ next
reaches low next [] rises = rises
reaches low next (entry ∷ entries) (first, rest) = omega (arith, first, reaches (entry.0 + 1) next entries rest)

-- nothing goes by it yet
pub none_next : {V : Type 0} (low next : ℕ) (entries : List (ℕ × V)) → Rises low entries next → at next entries ≡ None
none_next low next [] rises = refl
none_next low next (entry ∷ entries) (first, rest) =
    at_behind next entry entries (apart_so entry.0 next (λ same. omega (arith, same, reaches (entry.0 + 1) next entries rest)))
    ∙ none_next (entry.0 + 1) next entries rest

-- ---- what comes after

module _ {V W : Type 0} (f : V → W) where
  abbrev told_so : ℕ × V → ℕ × W
  told_so entry = (entry.0, f entry.1)

  pub one_added : (number : ℕ) (v : V) (entries : List (ℕ × V))
      → map told_so (entries ++ (number, v) ∷ []) ≡ map told_so entries ++ (number, f v) ∷ []
  one_added number v [] = refl
  one_added number v (entry ∷ entries) = ap (λ (more : List (ℕ × W)). told_so entry ∷ more) (one_added number v entries)

abbrev one_if : Bool → ℕ
one_if b = cond b 1 0

abbrev ticking : ℕ → ℕ → ℕ
ticking number key = if number == key then 1 else 0

module _ {V : Type 0} (number : ℕ) where
  -- where nothing goes by a number it doesn't come
  comes_nowhere : (table : List (ℕ × V)) → at number table ≡ None → how_often number (keys_of table) ≡ 0
  comes_nowhere [] none = refl
  comes_nowhere (entry ∷ table) none = ⊎_elim
      (λ same. never_some entry.1 (sym none ∙ at_head number entry table (eq-eqb entry.0 number (sym same.1))))
      (λ off. omega (
        arith,
        ap one_if off.0,
        comes_nowhere table (sym (at_behind number entry table (apart_so entry.0 number (λ same. off.1 (sym same)))) ∙ none),
      ))
      (eqb_tells number entry.0)

  often_added : (which : ℕ) (v : V) (table : List (ℕ × V))
      → how_often which (keys_of (table ++ (number, v) ∷ [])) ≡ how_often which (keys_of table) + ticking which number
  often_added which v [] = omega arith
  often_added which v (entry ∷ table) = omega (arith, often_added which v table)

  -- each number comes once still
  once_added : (v : V) (table : List (ℕ × V)) → ComesOnce table → at number table ≡ None → ComesOnce (table ++ (number, v) ∷ [])
  once_added v table once none which = ⊎_elim
      (λ same. omega (
        arith,
        often_added which v table,
        ap one_if same.0,
        ap (λ (n : ℕ). how_often n (keys_of table)) same.1,
        comes_nowhere table none,
      ))
      (λ off. omega (arith, often_added which v table, ap one_if off.0, once which)) (eqb_tells which number)

module _ {V : Type 0} (number : ℕ) (v : V) where
  abbrev of_domain : ℕ → List (ℕ × (ℕ × V)) → List (ℕ × (ℕ × V))
  of_domain domain table = filter (λ (one : ℕ × (ℕ × V)). one.1.0 == domain) table

  abbrev without_domain : ℕ × (ℕ × V) → ℕ × V
  without_domain entry = (entry.0, entry.1.1)

  behind_by : (b : Bool) (entry : ℕ × (ℕ × V)) (others later : List (ℕ × (ℕ × V))) (more : List (ℕ × V))
      → map without_domain later ≡ map without_domain others ++ more
      → map without_domain (cond b (entry ∷ later) later) ≡ map without_domain (cond b (entry ∷ others) others) ++ more
  behind_by true entry others later more rest = ap (λ (these : List (ℕ × V)). without_domain entry ∷ these) rest
  behind_by false entry others later more rest = rest

  -- what comes of a domain comes after its own
  pub its_added : (domain : ℕ) (table : List (ℕ × (ℕ × V)))
      → those_of domain (table ++ (number, (domain, v)) ∷ []) ≡ those_of domain table ++ (number, v) ∷ []
  its_added domain [] = ap (λ (b : Bool). map without_domain (cond b ((number, (domain, v)) ∷ []) [])) (eq-eqb domain domain refl)
  its_added domain (entry ∷ table) =
      behind_by (entry.1.0 == domain) entry (of_domain domain table) (of_domain domain (table ++ (number, (domain, v)) ∷ []))
      ((number, v) ∷ []) (its_added domain table)

  none_by : (b : Bool) (entry : ℕ × (ℕ × V)) (others later : List (ℕ × (ℕ × V))) → map without_domain later ≡ map without_domain others
      → map without_domain (cond b (entry ∷ later) later) ≡ map without_domain (cond b (entry ∷ others) others)
  none_by true entry others later rest = ap (λ (these : List (ℕ × V)). without_domain entry ∷ these) rest
  none_by false entry others later rest = rest

  -- another domain gets nothing
  others_added : (domain other : ℕ) (table : List (ℕ × (ℕ × V))) → other ≢ domain
      → those_of other (table ++ (number, (domain, v)) ∷ []) ≡ those_of other table
  others_added domain other [] off = ap (λ (b : Bool). map without_domain (cond b ((number, (domain, v)) ∷ []) []))
      (apart_so domain other (λ same. off (sym same)))
  others_added domain other (entry ∷ table) off =
      none_by (entry.1.0 == other) entry (of_domain other table) (of_domain other (table ++ (number, (domain, v)) ∷ []))
      (others_added domain other table off)

  pub changes_more : (domain : ℕ) (table : List (ℕ × (ℕ × V))) → ComesOnce table → at number table ≡ None
      → ChangesAt domain table (table ++ (number, (domain, v)) ∷ [])
  changes_more domain table once none =
      ((λ other off. others_added domain other table off), once_added number (domain, v) table once none)

-- ---- what goes by a number of a table that has one more

module _ {V : Type 0} (number : ℕ) (value v : V) where
  last_by : (b : Bool) → cond b (Some value) None ≡ Some v → value ≡ v
  last_by true is = same_some value v is
  last_by false is = never_some v is

  passed_by : (b : Bool) (one : V) (later was : Option V) → cond b (Some one) later ≡ Some v
      → (later ≡ Some v → (value ≡ v) ⊎ (was ≡ Some v)) → (value ≡ v) ⊎ (cond b (Some one) was ≡ Some v)
  passed_by true one later was is rest = inr is
  passed_by false one later was is rest = rest is

  found_behind : (next : ℕ) (entries : List (ℕ × V)) → lookup (nat_eq number) (entries ++ (next, value) ∷ []) ≡ Some v
      → (value ≡ v) ⊎ (lookup (nat_eq number) entries ≡ Some v)
  found_behind next [] is = inl (last_by (nat_eq number next) is)
  found_behind next (entry ∷ entries) is =
      passed_by (nat_eq number entry.0) entry.1 (lookup (nat_eq number) (entries ++ (next, value) ∷ []))
      (lookup (nat_eq number) entries) is (found_behind next entries)

  -- it is the new one, or was there
  pub came_or_was : (table : NumberTable V) → value_at (inserted table value) number ≡ Some v
      → (value ≡ v) ⊎ (value_at table number ≡ Some v)
  came_or_was table is = found_behind table.next table.entries is
