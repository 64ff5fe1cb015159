-- Messages of a publisher that are alone in their slots.
use Rattle.std.specs.Prelude.{ℕ, ◌≡◌, ◌+◌, ◌<◌, ◌⊎◌, List, length, slice_get, slice_index, Some}
use Rattle.iox_domain.specs.DomainPorts.Messages.{Message}
use Rattle.iox_domain.specs.DomainPorts.Ports.{connection_of}
use Rattle.iox_domain.specs.DomainPorts.Publishers.{port_of}
use Rattle.iox_domain.specs.DomainPorts.declared.publisher_port.PublisherPort.{PublisherPort}
use Rattle.iox_domain.specs.DomainPorts.declared.subscriber_port.SubscriberPort.{SubscriberPort}
use Rattle.iox_domain.specs.Subscribers.{subscriber_of}
use Rattle.iox_domain.specs.declared.ports.service_ports.ServicePorts.{ServicePorts}
use Rattle.iox_lanes.specs.Tied.{tie_for}

-- The message is one of the publisher's: it is in the history, or waits at a connection.
abbrev pub IsMessageOf : {T U : Type 0} → PublisherPort T U → Message T U → Type 0
IsMessageOf port message = ((at : ℕ) × (slice_get port.sender.uses.history at ≡ Some message))
    ⊎ ((index : ℕ) × (at : ℕ) × (slice_get (connection_of index port).waiting at ≡ Some message))

-- All messages of the publisher that are in this slot are the same one.
abbrev pub HasOne : {T U : Type 0} → PublisherPort T U → ℕ → Type 0
HasOne {T} {U} port slot = (one other : Message T U) → IsMessageOf port one → IsMessageOf port other → one.slot ≡ slot
    → other.slot ≡ slot → one ≡ other

-- The message is in a slot of its publisher that no other message is in.
pub record IsAlone {T U : Type 0} (port : PublisherPort T U) (message : Message T U) : Type 0 where
  pub inside : message.slot < port.sender.uses.first + port.sender.uses.size
  pub only : HasOne port message.slot

-- The message at this place of the list, if there is one, is alone in its slot.
abbrev pub IsAloneAt : {T U : Type 0} → PublisherPort T U → List (Message T U) → ℕ → Type 0
IsAloneAt {T} {U} port messages at = (message : Message T U) → slice_get messages at ≡ Some message → IsAlone port message

-- Each of these messages is alone in its slot.
abbrev pub AreAlone : {T U : Type 0} → PublisherPort T U → List (Message T U) → Type 0
AreAlone port messages = (at : ℕ) → IsAloneAt port messages at

-- Each message of the publisher's history, and each that waits at its connections to the subscribers with these numbers, is alone in its
-- slot.
pub record KeepsAlone {T U : Type 0} (readers : List (ℕ × SubscriberPort)) (subscribers : List ℕ) (port : PublisherPort T U) : Type 0 where
  pub remembered : AreAlone port port.sender.uses.history
  pub waiting : (other : ℕ) → other < length subscribers
      → AreAlone port (connection_of (tie_for port (subscriber_of (slice_index subscribers other) readers)) port).waiting

-- The publisher whose number is at this place keeps each message alone in its slot.
abbrev pub KeepAloneAt : {T U : Type 0} → ServicePorts T U → List ℕ → List ℕ → ℕ → Type 0
KeepAloneAt {T} {U} ports publishers subscribers place = (number : ℕ) (port : PublisherPort T U) → slice_get publishers place ≡ Some number
    → port_of number ports.publishers ≡ Some port → KeepsAlone ports.subscribers subscribers port

-- Each of these publishers keeps each message alone in its slot.
abbrev pub KeepAlone : {T U : Type 0} → ServicePorts T U → List ℕ → List ℕ → Type 0
KeepAlone ports publishers subscribers = (place : ℕ) → KeepAloneAt ports publishers subscribers place
