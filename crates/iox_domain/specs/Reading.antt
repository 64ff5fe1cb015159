-- What is read of a sample.
use Rattle.std.specs.Prelude.{Option, None, Some, option_map}
use Rattle.iox_describe_base.specs.declared.header.Header.{Header}
use Rattle.iox_domain_ports.specs.Messages.{Message}
use Rattle.iox_domain_ports.specs.Ports.{connection_of}
use Rattle.iox_domain_ports.specs.declared.publisher_port.PublisherPort.{PublisherPort}
use Rattle.iox_domain_ports.specs.Publishers.{port_of}
use Rattle.iox_domain_ports.specs.Reading.{borrowed_in}
use Rattle.iox_domain_ports.specs.declared.attached.Taken.{Taken}
use Rattle.iox_domain.specs.declared.ports.service_ports.ServicePorts.{ServicePorts}

-- The message of a sample that is held of the publisher, if there is one.
abbrev pub sample_at_port : {T U : Type 0} → Taken → Option (PublisherPort T U) → Option (Message T U)
sample_at_port sample None = None
sample_at_port sample (Some port) = borrowed_in sample.slot (connection_of sample.index port)

-- The message of a sample that is held.
abbrev pub sample_in : {T U : Type 0} → Taken → ServicePorts T U → Option (Message T U)
sample_in sample ports = sample_at_port sample (port_of sample.publisher ports.publishers)

-- What a header says: the node and the publisher that sent the message, how many elements the message has, and its sequence
-- number.
abbrev pub header_of : {T U : Type 0} → PublisherPort T U → Message T U → Header
header_of port message = record {
  node_id = port.owner.node_id;
  publisher_id = port.number;
  number_of_elements = message.elements;
  sequence = message.sequence;
}

-- The header of a sample that is held of the publisher, if there is one.
abbrev pub header_at_port : {T U : Type 0} → Taken → Option (PublisherPort T U) → Option Header
header_at_port sample None = None
header_at_port sample (Some port) = option_map (header_of port) (sample_at_port sample (Some port))

-- The header of a sample that is held.
abbrev pub header_in : {T U : Type 0} → Taken → ServicePorts T U → Option Header
header_in sample ports = header_at_port sample (port_of sample.publisher ports.publishers)
