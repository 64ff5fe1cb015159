-- What a publisher has that is to send, of ports that are roomy.
use Rattle.std.proofs.Common.{◌≡◌, ◌≤◌, ℕ, true, false, List, length, get_or, None, Some, ap, ◌∙◌}
use Rattle.std.specs.Option.{option_map_or}
use Rattle.iox_command.specs.DomainValues.declared.backpressure.BackpressureDecision.{BackpressureDecision}
use Rattle.iox_command.specs.DomainValues.declared.backpressure.BackpressureInfo.{BackpressureInfo}
use Rattle.iox_domain.proofs.Numbered.{at_number, found_of_all}
use Rattle.iox_domain.specs.DomainPorts.Places.{is_attached}
use Rattle.iox_domain.specs.DomainPorts.Ports.{connection_of, is_live}
use Rattle.iox_domain.specs.DomainPorts.Publishers.{port_of}
use Rattle.iox_domain.specs.DomainPorts.declared.attached.Taken.{Taken}
use Rattle.iox_domain.specs.DomainPorts.declared.publisher_port.PublisherPort.{PublisherPort}
use Rattle.iox_domain.specs.DomainValues.declared.service_sizes.ServiceSizes.{ServiceSizes}
use Rattle.iox_domain.specs.PortLawsLaws.{AreTiesApart, IsTiedWell, IsWellEntry}
use Rattle.iox_domain.specs.Roomy.{AreRoomy}
use Rattle.iox_domain.specs.SizeLaws.{IsMadeFor, MadeFor, allowed_by}
use Rattle.iox_domain.specs.declared.ports.service_ports.ServicePorts.{ServicePorts}
use Rattle.iox_domain_machine.specs.Naming.{Naming}
use Rattle.iox_domain_machine.specs.SendLaws.{DecidesAs}
use Rattle.iox_domain_machine.specs.Standing.{StandsFor}
use Rattle.iox_domain_machine.specs.Tables.{LentSlot}
use Rattle.iox_domain_machine.proofs.SendReaders.{reads_still, reader_known}
use Rattle.iox_machine.specs.Service.{Service, Publisher}
use Rattle.iox_machine.specs.Table.{at}
use Rattle.iox_machine.specs.Choices.{Choices}

module _ {T U : Type 0} (ports : ServicePorts T U) (roomy : AreRoomy ports) (number : ℕ) (port : PublisherPort T U)
    (there : port_of number ports.publishers ≡ Some port) where
  -- its ties are apart, and to connections that go on
  pub tied_well : port.stands ≡ true → IsTiedWell ports.next_port ports.subscriber_list.places port
  tied_well standing =
      (found_of_all (IsWellEntry ports.next_port ports.subscriber_list.places) (at_number number) ports.publishers port roomy.tied.well
      there).holds standing

  allowed : IsMadeFor (allowed_by ports.sizes) (number, port)
  allowed =
      let found = found_of_all (IsMadeFor (allowed_by ports.sizes)) (at_number number) ports.publishers port roomy.allowed there in
      (found.holds.0, found.holds.1)

  -- it lets the oldest message go, or doesn't, and keeps as many messages, as the service says
  pub overflows_as : port.sender.uses.overflows ≡ ports.sizes.enable_safe_overflow
  overflows_as = ap (λ (made : MadeFor). made.overflows) allowed.0

  pub keeps_as : port.sender.uses.kept ≡ ports.sizes.history_size
  keeps_as = ap (λ (made : MadeFor). made.history) allowed.0

  -- no more wait at a connection than may
  pub within_limit : (index : ℕ) → length (connection_of index port).waiting ≤ (connection_of index port).limit
  within_limit index = (allowed.1 index).0

-- What ensures that each message is sent alike in a domain and in the machine.
pub record IsReadyToSend {T U : Type 0} (choices : Choices T) (may : BackpressureInfo → BackpressureDecision → Type 0) (reader : ℕ → ℕ)
    (number : ℕ)
    (publisher : Publisher T) (service : Service T) (port : PublisherPort T U) : Type 0 where
  pub overflows : port.sender.uses.overflows ≡ service.settings.enable_safe_overflow
  pub keeps : port.sender.uses.kept ≡ service.settings.history_size
  pub apart : AreTiesApart port
  pub live : (place index : ℕ) → get_or port.ties.items place None ≡ Some index → is_live index port ≡ true
  pub readers : (index : ℕ) → is_live index port ≡ true
      → option_map_or (reads_still number) (at (reader index) service.subscribers) false ≡ is_attached (get_or port.readers index None)
  pub decides : DecidesAs choices may number publisher

module _ {T U : Type 0} (choices : Choices T) (names : Naming) (lent : List (ℕ × LentSlot)) (held : List (ℕ × Taken)) (buffer : ℕ)
    (ports : ServicePorts T U)
    (service : Service T) (stands : StandsFor names lent held buffer ports service) (roomy : AreRoomy ports) (number : ℕ)
    (port : PublisherPort T U) (there : port_of number ports.publishers ≡ Some port) (standing : port.stands ≡ true)
    (may : BackpressureInfo → BackpressureDecision → Type 0) (publisher : Publisher T) where
  -- so it is with a publisher that stands
  pub is_ready : DecidesAs choices may (names.publisher number) publisher
      → IsReadyToSend choices may (names.reader number) (names.publisher number) publisher service port
  is_ready decides =
      let well = tied_well ports roomy number port there standing in
      record {
        overflows = overflows_as ports roomy number port there
            ∙ ap (λ (sizes : ServiceSizes). sizes.enable_safe_overflow) stands.sizes;
        keeps = keeps_as ports roomy number port there ∙ ap (λ (sizes : ServiceSizes). sizes.history_size) stands.sizes;
        apart = well.apart;
        live = well.live;
        readers = λ index live. reader_known names lent held buffer ports service stands roomy number index port there standing live;
        decides = decides;
      }
