-- Samples are the same where as much is borrowed of each connection.
use Rattle.std.proofs.Common.{◌≡◌, ◌≢◌, ◌⊎◌, [], ℕ, List, map, Option, Some, sym, ap, inl, inr, ◌∙◌}
use Rattle.std.proofs.lemmas.Bool.{cases_eq}
use Rattle.std.specs.Option.{option_map_or}
use Rattle.std.specs.Prelude.{find, option_and_then, ◌==◌}
use Rattle.iox_domain.proofs.Numbered.{at_number, same_set}
use Rattle.iox_domain.specs.DomainPorts.Messages.{Message}
use Rattle.iox_domain.specs.DomainPorts.Ports.{connection_of}
use Rattle.iox_domain.specs.DomainPorts.Publishers.{port_of, connection_in, connection_at_port}
use Rattle.iox_domain.specs.DomainPorts.declared.attached.Taken.{Taken}
use Rattle.iox_domain.specs.DomainPorts.declared.publisher_port.PublisherPort.{PublisherPort}
use Rattle.iox_domain.specs.declared.ports.service_ports.ServicePorts.{ServicePorts}
use Rattle.iox_domain_machine.specs.Naming.{Naming}
use Rattle.iox_domain_machine.specs.Tables.{SamplesStandFor, sample_as}
use Rattle.iox_domain_machine.proofs.Changing.{with_one}
use Rattle.iox_domain_machine.proofs.Found.{same_everywhere, other_found}
use Rattle.iox_domain_machine.proofs.Kept.{sample_by}
use Rattle.iox_machine.specs.Message.{Sample}

module _ {T U : Type 0} (names : Naming) (held : List (ℕ × Taken)) (old : ServicePorts T U) (number : ℕ) (port after : PublisherPort T U)
    (there : port_of number old.publishers ≡ Some port)
    (same_borrowed : (index : ℕ) → (connection_of index after).borrowed ≡ (connection_of index port).borrowed) where
  abbrev new : ServicePorts T U
  new = with_one number after old

  now : port_of number new.publishers ≡ Some after
  now = same_set (at_number number) old.publishers after port there

  borrowed_alike : (other index : ℕ) → (other ≡ number) ⊎ (other ≢ number)
      → (connection_in other index new.publishers).borrowed ≡ (connection_in other index old.publishers).borrowed
  borrowed_alike other index (inl same) =
      ap (λ n. (connection_in n index new.publishers).borrowed) same ∙ ap (λ found. (connection_at_port index found).borrowed) now
      ∙ same_borrowed index
      ∙ sym (ap (λ n. (connection_in n index old.publishers).borrowed) same
      ∙ ap (λ found. (connection_at_port index found).borrowed) there)
  borrowed_alike other index (inr off) =
      ap (λ found. (connection_at_port index found).borrowed) (other_found number other after old.publishers off)

  sample_alike : (taken : Taken) → sample_as names old taken ≡ sample_as names new taken
  sample_alike taken =
      ap (λ (found : Option (Message T U)). record {
        publisher = names.publisher taken.publisher;
        subscriber = names.subscriber taken.subscriber;
        message = record {
          number = names.message taken.publisher taken.slot;
          sequence = option_and_then (λ (message : Message T U). message.sequence) found;
          values = option_map_or (λ (message : Message T U). message.values) found [];
        };
      }) (sample_by taken old
      ∙ ap (find (λ (message : Message T U). message.slot == taken.slot))
      (sym (borrowed_alike taken.publisher taken.index (cases_eq taken.publisher number))) ∙ sym (sample_by taken new))

  pub samples_alike : (samples : List (ℕ × Sample T)) → SamplesStandFor names old held samples → SamplesStandFor names new held samples
  samples_alike samples stands = record {
    same = stands.same ∙ ap (λ (one : Taken → Sample T). map (λ (entry : ℕ × Taken). (entry.0, one entry.1)) held)
        (same_everywhere (sample_as names old) (sample_as names new) sample_alike);
    once = stands.once;
    all = λ other index. stands.all other index
        ∙ ap (map (λ (message : Message T U). message.slot)) (sym (borrowed_alike other index (cases_eq other number)));
    whose = stands.whose;
    counted = stands.counted;
  }
