-- Theorems about what keeps a factory from being closed.
use Rattle.std.specs.Prelude.{ℕ, ◌≡◌, true, ◌&&◌, List, Some, bytes_eq}
use Rattle.std.specs.List.{AllByRecursion}
use Rattle.iox_machine.specs.Choices.{Choices}
use Rattle.iox_machine.specs.Message.{Loan, Sample}
use Rattle.iox_machine.specs.Phase.{same_pattern}
use Rattle.iox_machine.specs.Run.{Runs}
use Rattle.iox_machine.specs.Service.{Service, Publisher, Subscriber}
use Rattle.iox_machine.specs.State.{State, Factory, new_state}
use Rattle.iox_machine.specs.Table.{at}
use Rattle.iox_command.specs.NegotiateBase.DescribeBase.declared.message_type.MessageTypeDetails.{MessageTypeDetails}
use Rattle.iox_command.specs.NegotiateBase.DescribeBase.declared.pattern.MessagingPattern.TheVariants as pattern
use Rattle.iox_command.specs.declared.command.Command.{Command}
use Rattle.iox_command.specs.declared.reply.Reply.{Reply}

-- The factory with this number is open, and is of the publish-subscribe service of this name.
abbrev pub IsOpen : List (ℕ × Factory) → List ℕ → ℕ → Type 0
IsOpen factories name number =
    (factory : Factory) × (at number factories ≡ Some factory)
    × ((same_pattern factory.pattern pattern.PublishSubscribe && bytes_eq name factory.name) ≡ true)

module _ {T : Type 0} (factories : List (ℕ × Factory)) where
  -- Each open port of the service belongs to an open factory of the service, and so do the publisher of each loan and the subscriber of
  -- each sample.
  pub record IsOfOpenFactories (service : Service T) : Type 0 where
    pub publishers : (number : ℕ) (one : Publisher T) → at number service.publishers ≡ Some one → one.stands ≡ true
        → IsOpen factories service.name one.factory
    pub loans : (number : ℕ) (out : Loan T) → at number service.loans ≡ Some out
        → (one : Publisher T) × (at out.publisher service.publishers ≡ Some one) × IsOpen factories service.name one.factory
    pub subscribers : (number : ℕ) (one : Subscriber) → at number service.subscribers ≡ Some one → one.stands ≡ true
        → IsOpen factories service.name one.factory
    pub samples : (number : ℕ) (held : Sample T) → at number service.samples ≡ Some held
        → (one : Subscriber) × (at held.subscriber service.subscribers ≡ Some one) × IsOpen factories service.name one.factory

module _ {T : Type 0} (choices : Choices T) where
  -- In every run of a new machine, the factory of each open port, of each loan's publisher and of each sample's subscriber is open.
  abbrev pub UseIsOwned : Type 0
  UseIsOwned = (types : MessageTypeDetails) (buffer : ℕ) (asked : List (Command T)) (answers : List (Reply T)) (new : State T)
      → Runs types choices buffer asked new_state answers new → AllByRecursion (IsOfOpenFactories new.factories) new.services
