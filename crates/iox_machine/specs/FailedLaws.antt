-- Which failure an update returns.
use Rattle.std.specs.Prelude.{ℕ, ◌≡◌, ◌⊎◌, List, ◌∷◌, ◌++◌, find, zip, Option, None, Some, is_some}
use Rattle.std.specs.List.{AllByRecursion}
use Rattle.iox_machine.specs.Choices.{Choices}
use Rattle.iox_machine.specs.Ports.{publisher_in, subscriber_in}
use Rattle.iox_machine.specs.Run.{Step}
use Rattle.iox_machine.specs.Service.{Publisher, Service, Subscriber}
use Rattle.iox_machine.specs.State.{State}
use Rattle.iox_command.specs.DomainValues.declared.connection_failure.ConnectionFailure.{ConnectionFailure}
use Rattle.iox_command.specs.DomainValues.declared.connection_failure.ConnectionFailure.TheVariants.{FailedToEstablishConnection}
use Rattle.iox_command.specs.DomainValues.declared.connection_failure.ZeroCopyCreationError.{ZeroCopyCreationError}
use Rattle.iox_command.specs.DomainValues.declared.connection_failure.ZeroCopyCreationError.TheVariants.{OutOfMemory}
use Rattle.iox_command.specs.DomainValues.declared.connection_failure.ZeroCopyCreationError.TheVariants.{ExpiredConnectionBufferFull}
use Rattle.iox_command.specs.DomainValues.declared.degradation.DegradationAction.{DegradationAction}
use Rattle.iox_command.specs.DomainValues.declared.degradation.DegradationAction.TheVariants.{DegradeAndFail, Warn, Ignore}
use Rattle.iox_command.specs.NegotiateBase.DescribeBase.declared.message_type.MessageTypeDetails.{MessageTypeDetails}
use Rattle.iox_command.specs.declared.command.Command.TheVariants as command
use Rattle.iox_command.specs.declared.port.PortNumber.TheVariants as port
use Rattle.iox_command.specs.declared.refusal.Refusal.TheVariants as refusal
use Rattle.iox_command.specs.declared.reply.Reply.TheVariants as reply

-- No connection failed at this place, given who is listed there and to whom the port is connected: none is listed, or the port is connected
-- to the listed one.
abbrev pub HasNotFailed : Option ℕ × Option ℕ → Type 0
HasNotFailed place = (place.0 ≡ None) ⊎ (place.1 ≡ place.0)

-- The connection to the port that is listed at this place failed for this cause: memory ran out, and the port is connected to none there;
-- or no more connections may be expired, and the port is still connected to another one.
abbrev pub HasFailed : ZeroCopyCreationError → Option ℕ × Option ℕ → Type 0
HasFailed cause place =
    (listed : ℕ) × (place.0 ≡ Some listed)
    × (((place.1 ≡ None) × (cause ≡ OutOfMemory))
    ⊎ ((other : ℕ) × (place.1 ≡ Some other) × (other ≡ listed → ⊥) × (cause ≡ ExpiredConnectionBufferFull)))

-- This is the failure at the first place at which the port is to fail. At each place before it no connection failed, or the port may go on.
abbrev pub IsFirstFailure : (DegradationAction → Type 0) → List (Option ℕ × Option ℕ) → ConnectionFailure → Type 0
IsFirstFailure May places failure =
    (before : List (Option ℕ × Option ℕ)) × (place : Option ℕ × Option ℕ) × (behind : List (Option ℕ × Option ℕ))
    × (cause : ZeroCopyCreationError) × (places ≡ before ++ place ∷ behind)
    × AllByRecursion (λ earlier. HasNotFailed earlier ⊎ (May Warn ⊎ May Ignore)) before
    × HasFailed cause place × May DegradeAndFail × (failure ≡ FailedToEstablishConnection cause)

module _ {T : Type 0} (choices : Choices T) where
  -- An update of a publisher that fails returns the first failure at which the publisher is to fail, once it has followed the list of
  -- subscribers.
  abbrev pub PublisherTellsFirst : Type 0
  PublisherTellsFirst = (types : MessageTypeDetails) (buffer number : ℕ) (failure : ConnectionFailure) (old new : State T)
      → Step types choices buffer (command.Update (port.Publisher number)) old (reply.Refused (refusal.Connection failure)) new
      → (service : Service T) × (one : Publisher T)
      × (find (λ other. is_some (publisher_in number other)) new.services ≡ Some service) × (publisher_in number service ≡ Some one)
      × (one.seen ≡ service.subscriber_list.changes)
      × IsFirstFailure (choices.publisher_acts number one.degradation) (zip service.subscriber_list.places one.connected) failure

  -- An update of a subscriber that fails returns the first failure at which the subscriber is to fail, once it has followed the list of
  -- publishers.
  abbrev pub SubscriberTellsFirst : Type 0
  SubscriberTellsFirst = (types : MessageTypeDetails) (buffer number : ℕ) (failure : ConnectionFailure) (old new : State T)
      → Step types choices buffer (command.Update (port.Subscriber number)) old (reply.Refused (refusal.Connection failure)) new
      → (service : Service T) × (one : Subscriber)
      × (find (λ other. is_some (subscriber_in number other)) new.services ≡ Some service) × (subscriber_in number service ≡ Some one)
      × (one.seen ≡ service.publisher_list.changes)
      × IsFirstFailure (choices.subscriber_acts number one.degradation) (zip service.publisher_list.places one.connected) failure
