-- What goes by a number, in a hub and in the services of a machine.
use Rattle.std.proofs.Common.{◌≡◌, ℕ, Bool, true, false, cond, List, [], ◌∷◌, map, Option, None, Some, refl, sym, ap, ◌∙◌}
use Rattle.std.proofs.Math.Logic.{⊎_elim}
use Rattle.std.proofs.lemmas.Bool.{eq-eqb}
use Rattle.std.proofs.lemmas.Bool.Decides.{eqb_tells}
use Rattle.std.specs.Map.{lookup}
use Rattle.std.specs.Option.{option_map}
use Rattle.std.specs.Prelude.{filter, find, is_some, nat_eq, ◌==◌}
use Rattle.iox_container.specs.NumberTable.{NumberTable, value_at}
use Rattle.iox_domain.specs.DomainPorts.declared.attached.Taken.{Taken}
use Rattle.iox_domain.specs.declared.ports.service_ports.ServicePorts.{ServicePorts}
use Rattle.iox_domain_machine.specs.Naming.{Naming}
use Rattle.iox_domain_machine.specs.Services.{those_of, StandInTurn}
use Rattle.iox_domain_machine.specs.Tables.{LentSlot, loan_as, sample_as}
use Rattle.iox_domain_machine.proofs.Found.{same_some, never_some, at_head, at_behind, at_mapped}
use Rattle.iox_machine.specs.Service.{Service}
use Rattle.iox_machine.specs.Table.{at}

module _ {V : Type 0} (number : ℕ) where
  abbrev there : List (ℕ × V) → Option V
  there entries = lookup (nat_eq number) entries

  -- a number is found in a table of a hub as in one of the machine
  pub found_so : (entries : List (ℕ × V)) → at number entries ≡ there entries
  found_so [] = refl
  found_so (entry ∷ entries) = ⊎_elim
      (λ same. at_head number entry entries same.0
      ∙ ap (λ (b : Bool). cond b (Some entry.1) (there entries)) (sym (eq-eqb number entry.0 (sym same.1))))
      (λ off. at_behind number entry entries off.0 ∙ found_so entries
      ∙ ap (λ (b : Bool). cond b (Some entry.1) (there entries)) (sym (apart off.1))) (eqb_tells entry.0 number)
    where
      apart : (entry.0 ≡ number → ⊥) → nat_eq number entry.0 ≡ false
      apart off = ⊎_elim (λ same. absurd (off (sym same.1))) (λ other. other.0) (eqb_tells number entry.0)

  -- what goes by a number of a hub goes by it as it is to the machine
  pub goes_so : {W : Type 0} (f : V → W) (table : NumberTable V)
      → at number (map (λ (entry : ℕ × V). (entry.0, f entry.1)) table.entries) ≡ option_map f (value_at table number)
  goes_so f table = at_mapped f number table.entries ∙ ap (option_map f) (found_so table.entries)

module _ {V : Type 0} (domain number : ℕ) where
  abbrev bare : ℕ × (ℕ × V) → ℕ × V
  bare entry = (entry.0, entry.1.1)

  passed : (b : Bool) (entry : ℕ × (ℕ × V)) (others : List (ℕ × (ℕ × V))) → (entry.0 == number) ≡ false
      → at number (map bare (cond b (entry ∷ others) others)) ≡ at number (map bare others)
  passed true entry others off = at_behind number (bare entry) (map bare others) off
  passed false entry others off = refl

  abbrev others_of : List (ℕ × (ℕ × V)) → List (ℕ × (ℕ × V))
  others_of table = filter (λ (one : ℕ × (ℕ × V)). one.1.0 == domain) table

  -- what goes by a number and is a domain's is among those of the domain
  pub is_its_own : (v : V) (table : List (ℕ × (ℕ × V))) → at number table ≡ Some (domain, v)
      → at number (those_of domain table) ≡ Some v
  is_its_own v [] is = never_some (domain, v) is
  is_its_own v (entry ∷ table) is = ⊎_elim
      (λ same.
      let it : entry.1 ≡ (domain, v) = same_some entry.1 (domain, v) (sym (at_head number entry table same.0) ∙ is) in
      ap (λ (b : Bool). at number (map bare (cond b (entry ∷ others_of table) (others_of table))))
      (eq-eqb entry.1.0 domain (ap (λ (one : ℕ × V). one.0) it))
      ∙ at_head number (bare entry) (map bare (others_of table)) same.0 ∙ ap (λ (one : ℕ × V). Some one.1) it)
      (λ off. passed (entry.1.0 == domain) entry (others_of table) off.0
      ∙ is_its_own v table (sym (at_behind number entry table off.0) ∙ is)) (eqb_tells entry.0 number)

  -- what nothing goes by is no domain's
  pub is_nobodys : (table : List (ℕ × (ℕ × V))) → at number table ≡ None → at number (those_of domain table) ≡ None
  is_nobodys [] none = refl
  is_nobodys (entry ∷ table) none = ⊎_elim
      (λ same. never_some entry.1 (sym none ∙ at_head number entry table same.0))
      (λ off. passed (entry.1.0 == domain) entry (others_of table) off.0
      ∙ is_nobodys table (sym (at_behind number entry table off.0) ∙ none)) (eqb_tells entry.0 number)

module _ {T U : Type 0} (names : ℕ → Naming) (lent : List (ℕ × (ℕ × LentSlot))) (held : List (ℕ × (ℕ × Taken))) (buffer number : ℕ) where
  -- where no loan of a hub goes by a number, none of a machine does
  pub no_loan : at number lent ≡ None → (domains : List (ℕ × ServicePorts T U)) (services : List (Service T))
      → StandInTurn names lent held buffer domains services
      → find (λ (service : Service T). is_some (at number service.loans)) services ≡ None
  no_loan none [] services stands = ap (find (λ (service : Service T). is_some (at number service.loans))) stands
  no_loan none (one ∷ domains) [] stands = absurd stands
  no_loan none (one ∷ domains) (service ∷ services) (it, rest) =
      ap (λ (b : Bool). cond b (Some service) (find (λ (other : Service T). is_some (at number other.loans)) services))
      (ap (λ loans. is_some (at number loans)) it.loans.same
      ∙ ap is_some (at_mapped (loan_as (names one.0) one.1) number (those_of one.0 lent)
      ∙ ap (option_map (loan_as (names one.0) one.1)) (is_nobodys one.0 number lent none)))
      ∙ no_loan none domains services rest

  -- so it is with samples
  pub no_sample : at number held ≡ None → (domains : List (ℕ × ServicePorts T U)) (services : List (Service T))
      → StandInTurn names lent held buffer domains services
      → find (λ (service : Service T). is_some (at number service.samples)) services ≡ None
  no_sample none [] services stands = ap (find (λ (service : Service T). is_some (at number service.samples))) stands
  no_sample none (one ∷ domains) [] stands = absurd stands
  no_sample none (one ∷ domains) (service ∷ services) (it, rest) =
      ap (λ (b : Bool). cond b (Some service) (find (λ (other : Service T). is_some (at number other.samples)) services))
      (ap (λ samples. is_some (at number samples)) it.samples.same
      ∙ ap is_some (at_mapped (sample_as (names one.0) one.1) number (those_of one.0 held)
      ∙ ap (option_map (sample_as (names one.0) one.1)) (is_nobodys one.0 number held none)))
      ∙ no_sample none domains services rest
