-- What a home has of a port, a loan or a sample, which the calls of these require. `ports` are the ports of the domain, if the
-- home contains it.
use Rattle.std.specs.Prelude.{ℕ, ◌==◌, ◌&&◌, Bool, true, false, is_some, slice_get, Option, None, Some, Result, Ok, Err}
use Rattle.iox_domain.specs.DomainPorts.Messages.{Loan, Message}
use Rattle.iox_domain.specs.DomainPorts.MessagesSending.{is_written_loan}
use Rattle.iox_domain.specs.DomainPorts.Writing.{value_at}
use Rattle.iox_domain.specs.DomainPorts.declared.publisher_port.PublisherPort.{PublisherPort}
use Rattle.iox_domain.specs.DomainPorts.Publishers.{port_of}
use Rattle.iox_domain.specs.DomainPorts.declared.attached.Taken.{Taken}
use Rattle.iox_domain.specs.DomainPorts.declared.subscriber_port.SubscriberPort.{SubscriberPort}
use Rattle.iox_domain.specs.Lending.{passes_port, loan_at_port}
use Rattle.iox_domain.specs.PortsPublishing.{is_blocked}
use Rattle.iox_domain.specs.Reading.{sample_in}
use Rattle.iox_domain.specs.Subscribers.{subscriber_of}
use Rattle.iox_domain.specs.declared.ports.service_ports.ServicePorts.{ServicePorts}

-- The publisher with this number, if the home has it.
abbrev pub publisher_found : {T U : Type 0} → ℕ → Option (ServicePorts T U) → Option (PublisherPort T U)
publisher_found number None = None
publisher_found number (Some ports) = port_of number ports.publishers

-- Whether the publisher with this number exists and is open.
abbrev pub publisher_stands : {T U : Type 0} → ℕ → Option (ServicePorts T U) → Bool
publisher_stands number ports = passes_port (λ port. port.stands) (publisher_found number ports)

-- Whether the publisher with this number exists and a send of it is blocked.
abbrev pub publisher_blocked : {T U : Type 0} → ℕ → Option (ServicePorts T U) → Bool
publisher_blocked number ports = passes_port is_blocked (publisher_found number ports)

-- The loan in this slot of the publisher with this number, if the home has it.
abbrev pub loan_found : {T U : Type 0} → ℕ → ℕ → Option (ServicePorts T U) → Option (Loan T U)
loan_found number slot ports = loan_at_port slot (publisher_found number ports)

-- Whether the loan may be sent and read as a single value: it is completely written, and it has a value.
abbrev pub is_sample : {T U : Type 0} → Option (Loan T U) → Bool
is_sample loan = is_written_loan loan && is_some (value_at 0 loan)

-- The subscriber with this number, if the home has it.
abbrev pub subscriber_found : {T U : Type 0} → ℕ → Option (ServicePorts T U) → Option SubscriberPort
subscriber_found number None = None
subscriber_found number (Some ports) = subscriber_of number ports.subscribers

-- Whether the subscriber exists and is open.
abbrev pub stands_there : Option SubscriberPort → Bool
stands_there None = false
stands_there (Some port) = port.stands

-- Whether the subscriber with this number exists and is open.
abbrev pub subscriber_stands : {T U : Type 0} → ℕ → Option (ServicePorts T U) → Bool
subscriber_stands number ports = stands_there (subscriber_found number ports)

-- The message of a held sample, if the home has it.
abbrev pub message_found : {T U : Type 0} → Taken → Option (ServicePorts T U) → Option (Message T U)
message_found taken None = None
message_found taken (Some ports) = sample_in taken ports

-- The value at this place of the message, if both exist.
abbrev pub value_found : {T U : Type 0} → ℕ → Option (Message T U) → Option T
value_found place None = None
value_found place (Some message) = slice_get message.values place

-- Whether the subscriber with this number received the sample and holds it, and the sample has a value.
abbrev pub holds_sample : {T U : Type 0} → ℕ → Taken → Option (ServicePorts T U) → Bool
holds_sample number taken ports =
    (is_some (subscriber_found number ports) && is_some (value_found 0 (message_found taken ports))) && (taken.subscriber == number)

-- Whether the subscriber with this number received the sample and holds it.
abbrev pub holds_message : {T U : Type 0} → ℕ → Taken → Option (ServicePorts T U) → Bool
holds_message number taken ports =
    (is_some (subscriber_found number ports) && is_some (message_found taken ports)) && (taken.subscriber == number)

-- What dropping a port, a loan or a sample answers: Ok if it was ended, and otherwise the value itself.
abbrev pub left_or_given_back : {P : Type 0} → Bool → P → Result (Unit {0}) P
left_or_given_back true port = Ok tt
left_or_given_back false port = Err port
