-- A user header is written, and the header of a sample is read.
use Rattle.std.proofs.Common.{◌≡◌, ◌≢◌, ◌⊎◌, [], ℕ, Bool, true, false, List, map, Option, None, Some, refl, sym, ap, subst, inl, inr, ◌∙◌}
use Rattle.std.proofs.lemmas.Bool.{cases_eq}
use Rattle.std.proofs.lemmas.Map.Steps.{set_value_same}
use Rattle.std.specs.Option.{option_map_or}
use Rattle.std.specs.Prelude.{option_and_then, option_map}
use Rattle.iox_domain.proofs.Numbered.{at_number}
use Rattle.iox_domain.specs.DomainPorts.Messages.{Loan, Message, write_user_header}
use Rattle.iox_domain.specs.DomainPorts.Publishers.{changed_at_port, port_of, with_port}
use Rattle.iox_domain.specs.DomainPorts.Writing.{changed_if, changed_there}
use Rattle.iox_domain.specs.DomainPorts.declared.attached.Taken.{Taken}
use Rattle.iox_domain.specs.DomainPorts.declared.publisher_port.PublisherPort.{PublisherPort}
use Rattle.iox_domain.specs.Lending.{loan_at_port, loan_in}
use Rattle.iox_domain.specs.Reading.{header_at_port, header_of, sample_at_port}
use Rattle.iox_domain.specs.declared.ports.service_ports.ServicePorts.{ServicePorts}
use Rattle.iox_domain_machine.specs.HeaderLaws.{HeaderMatches, UserHeaderStands}
use Rattle.iox_domain_machine.specs.Naming.{Naming}
use Rattle.iox_domain_machine.specs.Standing.{StandsFor}
use Rattle.iox_domain_machine.specs.Tables.{LentSlot, LoansStandFor, loan_as, sample_as}
use Rattle.iox_domain_machine.proofs.Changing.{with_one}
use Rattle.iox_domain_machine.proofs.Found.{never_some, other_found, same_everywhere}
use Rattle.iox_domain_machine.proofs.Kept.{slots_by}
use Rattle.iox_domain_machine.proofs.Loans.{change_in, found_changed, found_other, in_slot}
use Rattle.iox_domain_machine.proofs.Reading.{message_there, sample_there}
use Rattle.iox_domain_machine.proofs.Rewriting.{rewritten_now, rewritten_slots, rewritten_stands}
use Rattle.iox_machine.specs.Service.{Service}

-- the values of a loan; none without one
abbrev values_in : {T U : Type 0} → Option (Loan T U) → List (Option T)
values_in found = option_map_or (λ (one : Loan _ _). one.values) found []

module _ {T U : Type 0} (slot : ℕ) (user_header : U) where
  abbrev change : Loan T U → Loan T U
  change = write_user_header user_header

  still_these : (found : Option (Loan T U)) → values_in (option_map change found) ≡ values_in found
  still_these None = refl
  still_these (Some loan) = refl

  -- each loan has the values that it had
  still_in_slot : (other : ℕ) (loans : List (Loan T U)) → values_in (in_slot other (change_in slot change loans))
      ≡ values_in (in_slot other loans)
  still_in_slot other loans = elim (cases_eq other slot) [
    | inl same ↦
        ap (λ n. values_in (in_slot n (change_in slot change loans))) same
        ∙ ap values_in (found_changed slot change (λ one. refl) loans) ∙ still_these (in_slot slot loans)
        ∙ sym (ap (λ n. values_in (in_slot n loans)) same)
    | inr off ↦ ap values_in (found_other slot change (λ one. refl) other loans off)
  ]

  module _ (names : Naming) (lent : List (ℕ × LentSlot)) (held : List (ℕ × Taken)) (buffer : ℕ) (ports : ServicePorts T U)
      (service : Service T) (stands : StandsFor names lent held buffer ports service) (number : ℕ) where
    module _ (port : PublisherPort T U) (there : port_of number ports.publishers ≡ Some port) where
      abbrev after : PublisherPort T U
      after = changed_there slot change port

      abbrev new : ServicePorts T U
      new = with_one number after ports

      still_at : (other : LentSlot) → (other.publisher ≡ number) ⊎ (other.publisher ≢ number)
          → values_in (loan_in other.publisher other.slot new) ≡ values_in (loan_in other.publisher other.slot ports)
      still_at other (inl same) =
          ap (λ n. values_in (loan_in n other.slot new)) same
          ∙ ap (λ it. values_in (loan_at_port other.slot it)) (rewritten_now ports number slot port there change)
          ∙ still_in_slot other.slot port.sender.uses.loans
          ∙ sym (ap (λ n. values_in (loan_in n other.slot ports)) same ∙ ap (λ it. values_in (loan_at_port other.slot it)) there)
      still_at other (inr off) =
          ap (λ it. values_in (loan_at_port other.slot it)) (other_found number other.publisher after ports.publishers off)

      still_as : (other : LentSlot) → loan_as names ports other ≡ loan_as names new other
      still_as other =
          ap (λ (values : List (Option T)). record {
            publisher = names.publisher other.publisher;
            number = names.message other.publisher other.slot;
            values = values;
          }) (sym (still_at other (cases_eq other.publisher number)))

      still_loans : LoansStandFor names new lent service.loans
      still_loans = record {
        same = stands.loans.same
            ∙ ap (λ f. map (λ (entry : ℕ × LentSlot). (entry.0, f entry.1)) lent)
            (same_everywhere (loan_as names ports) (loan_as names new) still_as);
        once = stands.loans.once;
        all = λ other. stands.loans.all other ∙ slots_by (port_of other ports.publishers)
            ∙ rewritten_slots ports number slot port there change (λ one. refl) other (cases_eq other number)
            ∙ sym (slots_by (port_of other new.publishers));
      }

      header_stands : StandsFor names lent held buffer new service
      header_stands =
          rewritten_stands names lent held buffer ports service stands number slot port there change (λ one. refl) service.loans
          still_loans

      header_stands_if : (b : Bool)
          → StandsFor names lent held buffer
          (record ports { publishers = with_port number ports.publishers (changed_if b slot change port) })
          service
      header_stands_if true = header_stands
      header_stands_if false =
          subst (λ (publishers : List (ℕ × PublisherPort T U)). StandsFor names lent held buffer (record ports { publishers = publishers })
          service) (sym (set_value_same (at_number number) ports.publishers port there)) stands

    header_stands_at : (test : PublisherPort T U → Bool) (found : Option (PublisherPort T U)) → port_of number ports.publishers ≡ found
        → StandsFor names lent held buffer (record ports {
          publishers = changed_at_port number (λ (one : PublisherPort T U). changed_if (test one) slot change one) found ports.publishers;
        }) service
    header_stands_at test None none = stands
    header_stands_at test (Some port) there = header_stands_if port there (test port)

pub user_header_stands : (T U : Type 0) → UserHeaderStands T U
user_header_stands T U names lent held buffer ports service publisher slot test user_header stands =
    header_stands_at slot user_header names lent held buffer ports service stands publisher test (port_of publisher ports.publishers) refl

-- ---- what a header tells

pub header_by : {T U : Type 0} (taken : Taken) (message : Message T U) (found : Option (PublisherPort T U))
    → sample_at_port taken found ≡ Some message
    → (port : PublisherPort T U) × (found ≡ Some port) × (header_at_port taken found ≡ Some (header_of port message))
header_by taken message None is = never_some message is
header_by taken message (Some port) is = (port, refl, ap (option_map (header_of port)) is)

pub header_matches : (T U : Type 0) → HeaderMatches T U
header_matches T U names lent held buffer ports service number taken stands held_there =
    let (message, is) = message_there names lent held buffer ports service number taken stands held_there in
    let (port, there, found) = header_by taken message (port_of taken.publisher ports.publishers) is in (
      sample_as names ports taken,
      sample_there names lent held buffer ports service number taken stands held_there,
      record {
        header = header_of port message;
        found = found;
        sequence = sym (ap (option_and_then (λ (one : Message T U). one.sequence)) is);
        publisher = ap names.publisher (stands.numbered taken.publisher port there);
      },
    )
