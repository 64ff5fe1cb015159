-- The number of a sample's message is what its header tells.
use Rattle.std.proofs.Common.{◌≡◌, Option, None, Some, refl}
use Rattle.std.specs.Option.{option_map}
use Rattle.iox_domain.specs.DomainPorts.Messages.{Message}
use Rattle.iox_domain.specs.DomainPorts.Publishers.{port_of}
use Rattle.iox_domain.specs.DomainPorts.declared.attached.Taken.{Taken}
use Rattle.iox_domain.specs.DomainPorts.declared.publisher_port.PublisherPort.{PublisherPort}
use Rattle.iox_domain.specs.Reading.{header_of, header_at_port, header_in, sample_at_port, sample_in}
use Rattle.iox_domain.specs.declared.ports.service_ports.ServicePorts.{ServicePorts}

module _ {T U : Type 0} where
  of_message : (port : PublisherPort T U) (message : Option (Message T U))
      → option_map (λ header. header.sequence) (option_map (header_of port) message) ≡ option_map (λ it. it.sequence) message
  of_message port None = refl
  of_message port (Some message) = refl

  at_port : (taken : Taken) (port : Option (PublisherPort T U))
      → option_map (λ header. header.sequence) (header_at_port taken port) ≡ option_map (λ it. it.sequence) (sample_at_port taken port)
  at_port taken None = refl
  at_port taken (Some port) = of_message port (sample_at_port taken (Some port))

  -- the number that a header tells is that of the message
  pub header_sequence : (taken : Taken) (ports : ServicePorts T U)
      → option_map (λ header. header.sequence) (header_in taken ports) ≡ option_map (λ it. it.sequence) (sample_in taken ports)
  header_sequence taken ports = at_port taken (port_of taken.publisher ports.publishers)
