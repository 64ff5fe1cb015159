-- A table in which nothing goes by a number any longer, of a hub and of the machine.
use Rattle.std.proofs.Common.{◌≡◌, ◌≢◌, ◌≤◌, ℕ, Bool, true, false, cond, List, [], ◌∷◌, map, None, Some, refl, sym, ap, ◌∙◌, arith}
use Rattle.std.proofs.Math.Logic.{⊎_elim}
use Rattle.std.proofs.lemmas.Bool.{eq-eqb}
use Rattle.std.proofs.lemmas.Bool.Decides.{eqb_tells}
use Rattle.std.specs.Map.{keys_of, lookup, remove_entry}
use Rattle.std.specs.Option.{option_map}
use Rattle.std.specs.Prelude.{filter, nat_eq, ◌==◌, if◌then◌else◌}
use Rattle.iox_container.proofs.Telling.{lookup-removed_other}
use Rattle.iox_container.specs.NumberTable as numbers
use Rattle.iox_container.specs.NumberTable.{NumberTable, value_at}
use Rattle.iox_domain.specs.Tries.{how_often}
use Rattle.iox_domain_machine.specs.ServiceLaws.{ChangesAt}
use Rattle.iox_domain_machine.specs.Services.{those_of, ComesOnce}
use Rattle.iox_domain_machine.proofs.Found.{same_some, never_some, at_head, at_behind, at_mapped}
use Rattle.iox_domain_machine.proofs.Removing.{gone_on, gone_off, often_removed}
use Rattle.iox_hub_machine.proofs.Numbered.{found_so}
use Rattle.iox_machine.specs.Table.{at, removed}

abbrev counted : ℕ → ℕ → ℕ
counted number key = if number == key then 1 else 0

counts_itself : (number key : ℕ) → key ≡ number → counted number key ≡ 1
counts_itself number key same = ap (λ (b : Bool). cond b 1 0) (eq-eqb number key (sym same))

module _ {V : Type 0} (number : ℕ) where
  -- where it doesn't come nothing is removed
  pub none_removed : (table : List (ℕ × V)) → how_often number (keys_of table) ≡ 0 → removed number table ≡ table
  none_removed [] none = refl
  none_removed (entry ∷ table) none = ⊎_elim
      (λ same. absurd (omega (arith, none, counts_itself number entry.0 same.1)))
      (λ off. gone_off number entry table off.0
      ∙ ap (λ (more : List (ℕ × V)). entry ∷ more) (none_removed table (omega (arith, none)))) (eqb_tells entry.0 number)

  -- nothing goes by it then
  pub none_goes : (table : List (ℕ × V)) → at number (removed number table) ≡ None
  none_goes [] = refl
  none_goes (entry ∷ table) = ⊎_elim
      (λ same. ap (at number) (gone_on number entry table same.0) ∙ none_goes table)
      (λ off. ap (at number) (gone_off number entry table off.0) ∙ at_behind number entry (removed number table) off.0 ∙ none_goes table)
      (eqb_tells entry.0 number)

module _ {V W : Type 0} (number : ℕ) (f : V → W) where
  abbrev so : ℕ × V → ℕ × W
  so entry = (entry.0, f entry.1)

  same_kept : (b : Bool) (entry : ℕ × V) (rest : List (ℕ × V)) → nat_eq number entry.0 ≡ b
      → map so (remove_entry (nat_eq number) (entry ∷ rest)) ≡ map so (cond b rest (entry ∷ remove_entry (nat_eq number) rest))
  same_kept b entry rest is = ap (λ (b : Bool). map so (cond b rest (entry ∷ remove_entry (nat_eq number) rest))) is

  -- a hub removes the one that goes by the number
  pub one_removed : (entries : List (ℕ × V)) → how_often number (keys_of (map so entries)) ≤ 1
      → map so (remove_entry (nat_eq number) entries) ≡ removed number (map so entries)
  one_removed [] once = refl
  one_removed (entry ∷ rest) once = ⊎_elim
      (λ same. same_kept true entry rest (eq-eqb number entry.0 (sym same.1))
      ∙ sym (gone_on number (so entry) (map so rest) same.0
      ∙ none_removed number (map so rest) (omega (arith, once, counts_itself number entry.0 same.1))))
      (λ off. same_kept false entry rest (⊎_elim (λ same. absurd (off.1 (sym same.1))) (λ other. other.0) (eqb_tells number entry.0))
      ∙ ap (λ (more : List (ℕ × W)). so entry ∷ more) (one_removed rest (omega (arith, once)))
      ∙ sym (gone_off number (so entry) (map so rest) off.0)) (eqb_tells entry.0 number)

module _ {V : Type 0} (number : ℕ) where
  abbrev of_one : ℕ → List (ℕ × (ℕ × V)) → List (ℕ × (ℕ × V))
  of_one domain table = filter (λ (one : ℕ × (ℕ × V)). one.1.0 == domain) table

  abbrev bare : ℕ × (ℕ × V) → ℕ × V
  bare entry = (entry.0, entry.1.1)

  -- what is removed of a domain's is removed of all
  hit_by : (b : Bool) (entry : ℕ × (ℕ × V)) (others : List (ℕ × (ℕ × V))) → (entry.0 == number) ≡ true
      → removed number (map bare (cond b (entry ∷ others) others)) ≡ removed number (map bare others)
  hit_by true entry others on = gone_on number (bare entry) (map bare others) on
  hit_by false entry others on = refl

  missed_by : (b : Bool) (entry : ℕ × (ℕ × V)) (others later : List (ℕ × (ℕ × V))) → (entry.0 == number) ≡ false
      → map bare later ≡ removed number (map bare others)
      → map bare (cond b (entry ∷ later) later) ≡ removed number (map bare (cond b (entry ∷ others) others))
  missed_by true entry others later off rest = ap (λ (more : List (ℕ × V)). bare entry ∷ more) rest
      ∙ sym (gone_off number (bare entry) (map bare others) off)
  missed_by false entry others later off rest = rest

  pub its_removed : (domain : ℕ) (table : List (ℕ × (ℕ × V)))
      → those_of domain (removed number table) ≡ removed number (those_of domain table)
  its_removed domain [] = refl
  its_removed domain (entry ∷ table) = ⊎_elim
      (λ same. ap (those_of domain) (gone_on number entry table same.0) ∙ its_removed domain table
      ∙ sym (hit_by (entry.1.0 == domain) entry (of_one domain table) same.0))
      (λ off. ap (those_of domain) (gone_off number entry table off.0)
      ∙ missed_by (entry.1.0 == domain) entry (of_one domain table) (of_one domain (removed number table)) off.0
      (its_removed domain table)) (eqb_tells entry.0 number)

  pass_by : (b : Bool) (entry : ℕ × (ℕ × V)) (others later : List (ℕ × (ℕ × V))) → map bare later ≡ map bare others
      → map bare (cond b (entry ∷ later) later) ≡ map bare (cond b (entry ∷ others) others)
  pass_by true entry others later rest = ap (λ (more : List (ℕ × V)). bare entry ∷ more) rest
  pass_by false entry others later rest = rest

  -- of another domain nothing is
  others_removed : (domain other : ℕ) (v : V) (table : List (ℕ × (ℕ × V))) → other ≢ domain → how_often number (keys_of table) ≤ 1
      → at number table ≡ Some (domain, v) → those_of other (removed number table) ≡ those_of other table
  others_removed domain other v [] off once is = refl
  others_removed domain other v (entry ∷ table) off once is = ⊎_elim
      (λ same.
      let it : entry.1 ≡ (domain, v) = same_some entry.1 (domain, v) (sym (at_head number entry table same.0) ∙ is) in
      let not_its : (entry.1.0 == other) ≡ false = ⊎_elim
      (λ mine. absurd (off (sym mine.1 ∙ ap (λ (one : ℕ × V). one.0) it))) (λ apart. apart.0) (eqb_tells entry.1.0 other) in
      ap (those_of other) (gone_on number entry table same.0
      ∙ none_removed number table (omega (arith, once, counts_itself number entry.0 same.1)))
      ∙ ap (λ (b : Bool). map bare (cond b (entry ∷ of_one other table) (of_one other table))) (sym not_its))
      (λ apart. ap (those_of other) (gone_off number entry table apart.0)
      ∙ pass_by (entry.1.0 == other) entry (of_one other table) (of_one other (removed number table))
      (others_removed domain other v table off (omega (arith, once)) (sym (at_behind number entry table apart.0) ∙ is)))
      (eqb_tells entry.0 number)

  pub changes_less : (domain : ℕ) (v : V) (table : List (ℕ × (ℕ × V))) → ComesOnce table → at number table ≡ Some (domain, v)
      → ChangesAt domain table (removed number table)
  changes_less domain v table once is = (
    λ other off. others_removed domain other v table off (once number) is,
    λ which. omega (arith, often_removed number which table, once which),
  )

-- what goes by a number of a hub that has one less went by it before
pub went_so : {V W : Type 0} (f : V → W) (number other : ℕ) (v : V) (table : NumberTable V)
    → how_often number (keys_of (map (λ (entry : ℕ × V). (entry.0, f entry.1)) table.entries)) ≤ 1
    → value_at (numbers.removed table number) other ≡ Some v → value_at table other ≡ Some v
went_so {V} {W} f number other v table once is = ⊎_elim
    (λ same. never_some (f v) (sym (
    ap (λ (n : ℕ). option_map f (lookup (nat_eq n) left)) same.1
    ∙ sym (at_mapped f number left ∙ ap (option_map f) (found_so number left))
    ∙ ap (at number) (one_removed number f table.entries once)
    ∙ none_goes number (map (λ (entry : ℕ × V). (entry.0, f entry.1)) table.entries)
    ) ∙ ap (option_map f) is))
    (λ off. sym (lookup-removed_other number other table.entries off.1) ∙ is) (eqb_tells other number)
  where
    left : List (ℕ × V)
    left = remove_entry (nat_eq number) table.entries
