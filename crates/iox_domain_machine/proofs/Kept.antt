-- Loans and samples are the same where those of one publisher are.
use Rattle.std.proofs.Common.{◌≡◌, ◌≢◌, ◌⊎◌, ℕ, List, [], get_or, map, Option, None, Some, refl, sym, ap, inl, inr, ◌∙◌}
use Rattle.std.proofs.lemmas.Bool.{cases_eq}
use Rattle.std.specs.Option.{option_map_or}
use Rattle.std.specs.Prelude.{find, option_and_then, ◌==◌}
use Rattle.iox_domain.proofs.Numbered.{at_number, same_set}
use Rattle.iox_domain.specs.DomainPorts.Messages.{Message, Loan}
use Rattle.iox_domain.specs.DomainPorts.Publishers.{port_of, connection_in, connection_at_port}
use Rattle.iox_domain.specs.DomainPorts.Reading.{borrowed_in}
use Rattle.iox_domain.specs.DomainPorts.declared.attached.Taken.{Taken}
use Rattle.iox_domain.specs.DomainPorts.declared.publisher_port.PublisherPort.{PublisherPort}
use Rattle.iox_domain.specs.DomainSlots.Uses.{Connection, nobody}
use Rattle.iox_domain.specs.Lending.{loan_at_port}
use Rattle.iox_domain.specs.Reading.{sample_in, sample_at_port}
use Rattle.iox_domain.specs.declared.ports.service_ports.ServicePorts.{ServicePorts}
use Rattle.iox_domain_machine.specs.Naming.{Naming}
use Rattle.iox_domain_machine.specs.Tables.{LentSlot, LoansStandFor, SamplesStandFor, loan_as, sample_as, loans_at_port}
use Rattle.iox_domain_machine.proofs.Changing.{with_one}
use Rattle.iox_domain_machine.proofs.Found.{other_found, same_everywhere}
use Rattle.iox_machine.specs.Message.{Sample}
use Rattle.iox_machine.specs.Message as machine

module _ {T U : Type 0} where
  -- the loans of a publisher; none without one
  abbrev pub out_of : Option (PublisherPort T U) → List (Loan T U)
  out_of None = []
  out_of (Some port) = port.sender.uses.loans

  pub loan_by : (slot : ℕ) (port : Option (PublisherPort T U))
      → loan_at_port slot port ≡ find (λ (loan : Loan T U). loan.slot == slot) (out_of port)
  loan_by slot None = refl
  loan_by slot (Some port) = refl

  pub slots_by : (port : Option (PublisherPort T U)) → loans_at_port port ≡ map (λ (loan : Loan T U). loan.slot) (out_of port)
  slots_by None = refl
  slots_by (Some port) = refl

  by_connection : (taken : Taken) (port : Option (PublisherPort T U))
      → sample_at_port taken port ≡ borrowed_in taken.slot (connection_at_port taken.index port)
  by_connection taken None = refl
  by_connection taken (Some port) = refl

  -- a sample is what is borrowed of its connection
  pub sample_by : (taken : Taken) (ports : ServicePorts T U)
      → sample_in taken ports ≡ borrowed_in taken.slot (connection_in taken.publisher taken.index ports.publishers)
  sample_by taken ports = by_connection taken (port_of taken.publisher ports.publishers)

  module _ (number : ℕ) (port after : PublisherPort T U) (old : ServicePorts T U) (there : port_of number old.publishers ≡ Some port) where
    kept_by : (other index : ℕ) → after.sender.uses.connections ≡ port.sender.uses.connections → (other ≡ number) ⊎ (other ≢ number)
        → connection_in other index (with_one number after old).publishers ≡ connection_in other index old.publishers
    kept_by other index same (inl is) =
        ap (λ n. connection_in n index (with_one number after old).publishers) is
        ∙ ap (λ found. connection_at_port index found) (same_set (at_number number) old.publishers after port there)
        ∙ ap (λ connections. get_or connections index nobody) same
        ∙ sym (ap (λ n. connection_in n index old.publishers) is ∙ ap (λ found. connection_at_port index found) there)
    kept_by other index same (inr off) = ap (λ found. connection_at_port index found) (other_found number other after old.publishers off)

    -- all connections are as they were, where those of one publisher are
    pub connections_kept : after.sender.uses.connections ≡ port.sender.uses.connections → (other index : ℕ)
        → connection_in other index (with_one number after old).publishers ≡ connection_in other index old.publishers
    connections_kept same other index = kept_by other index same (cases_eq other number)

    out_by : (other : ℕ) → after.sender.uses.loans ≡ port.sender.uses.loans → (other ≡ number) ⊎ (other ≢ number)
        → out_of (port_of other (with_one number after old).publishers) ≡ out_of (port_of other old.publishers)
    out_by other same (inl is) =
        ap (λ n. out_of (port_of n (with_one number after old).publishers)) is
        ∙ ap out_of (same_set (at_number number) old.publishers after port there)
        ∙ same ∙ sym (ap (λ n. out_of (port_of n old.publishers)) is ∙ ap out_of there)
    out_by other same (inr off) = ap out_of (other_found number other after old.publishers off)

    -- loans are the same where those of that publisher are
    pub loans_kept : (names : Naming) (lent : List (ℕ × LentSlot)) (loans : List (ℕ × machine.Loan T))
        → after.sender.uses.loans ≡ port.sender.uses.loans → LoansStandFor names old lent loans
        → LoansStandFor names (with_one number after old) lent loans
    loans_kept names lent loans same stands = record {
      same = stands.same
          ∙ ap (λ (name : LentSlot → machine.Loan T). map (λ (entry : ℕ × LentSlot). (entry.0, name entry.1)) lent)
          (same_everywhere (loan_as names old) (loan_as names (with_one number after old)) each);
      once = stands.once;
      all = λ other. stands.all other ∙ slots_by (port_of other old.publishers)
          ∙ ap (λ (out : List (Loan T U)). map (λ (loan : Loan T U). loan.slot) out) (sym (out_by other same (cases_eq other number)))
          ∙ sym (slots_by (port_of other (with_one number after old).publishers));
    }
      where
        each : (lent : LentSlot) → loan_as names old lent ≡ loan_as names (with_one number after old) lent
        each lent =
            ap (λ (found : Option (Loan T U)). record {
              publisher = names.publisher lent.publisher;
              number = names.message lent.publisher lent.slot;
              values = option_map_or (λ (loan : Loan T U). loan.values) found [];
            }) (loan_by lent.slot (port_of lent.publisher old.publishers)
            ∙ ap (λ (out : List (Loan T U)). find (λ (loan : Loan T U). loan.slot == lent.slot) out) (sym (out_by lent.publisher same
            (cases_eq lent.publisher number)))
            ∙ sym (loan_by lent.slot (port_of lent.publisher (with_one number after old).publishers)))

    -- and so are samples
    pub samples_kept : (names : Naming) (held : List (ℕ × Taken)) (samples : List (ℕ × Sample T))
        → after.sender.uses.connections ≡ port.sender.uses.connections → SamplesStandFor names old held samples
        → SamplesStandFor names (with_one number after old) held samples
    samples_kept names held samples same stands = record {
      same = stands.same ∙ ap (λ (name : Taken → Sample T). map (λ (entry : ℕ × Taken). (entry.0, name entry.1)) held) (same_everywhere
          (sample_as names old) (sample_as names (with_one number after old)) each);
      once = stands.once;
      all = λ other index. stands.all other index
          ∙ ap (λ (connection : Connection (Message T U)). map (λ (message : Message T U). message.slot) connection.borrowed) (sym
          (connections_kept same other index));
      whose = stands.whose;
      counted = stands.counted;
    }
      where
        each : (taken : Taken) → sample_as names old taken ≡ sample_as names (with_one number after old) taken
        each taken =
            ap (λ (found : Option (Message T U)). record {
              publisher = names.publisher taken.publisher;
              subscriber = names.subscriber taken.subscriber;
              message = record {
                number = names.message taken.publisher taken.slot;
                sequence = option_and_then (λ (message : Message T U). message.sequence) found;
                values = option_map_or (λ
                    (message : Message T U). message.values) found [];
              };
            }) (sample_by taken old
            ∙ ap (λ connection. borrowed_in taken.slot connection) (sym (connections_kept same taken.publisher taken.index))
            ∙ sym (sample_by taken (with_one number after old)))
