-- What a receive borrows.
use Rattle.std.specs.Prelude.{ℕ, ◌≡◌, [], ◌∷◌, ◌++◌, is_some}
use Rattle.std.specs.Global.{Vec}
use Rattle.std.specs.Vec.{vec_items}
use Rattle.iox_machine.specs.Choices.{Choices}
use Rattle.iox_machine.specs.Message.{Message}
use Rattle.iox_machine.specs.Ports.{subscriber_in}
use Rattle.iox_machine.specs.Run.{Step}
use Rattle.iox_machine.specs.Service.{Service, Subscriber, mailbox}
use Rattle.iox_machine.specs.State.{State, replaced}
use Rattle.iox_machine.specs.WaitingLaws.{IsAttended}
use Rattle.iox_command.specs.NegotiateBase.DescribeBase.declared.message_type.MessageTypeDetails.{MessageTypeDetails}
use Rattle.iox_command.specs.declared.command.Command.TheVariants as command
use Rattle.iox_command.specs.declared.reply.Reply.TheVariants as reply

module _ {T : Type 0} where
  -- The message was the oldest that waited in the connection of a publisher and a subscriber. It waits no longer there, and is the newest
  -- of those that are borrowed. All other mailboxes stay.
  abbrev pub IsBorrowed : Message T → (publisher subscriber : ℕ) → Service T → Service T → Type 0
  IsBorrowed message publisher subscriber old new =
      ((mailbox publisher subscriber old).waiting ≡ message ∷ (mailbox publisher subscriber new).waiting)
      × ((mailbox publisher subscriber new).borrowed ≡ (mailbox publisher subscriber old).borrowed ++ message ∷ [])
      × ((mailbox publisher subscriber new).limit ≡ (mailbox publisher subscriber old).limit)
      × ((one other : ℕ) → ((one ≡ publisher) × (other ≡ subscriber) → ⊥) → mailbox one other new ≡ mailbox one other old)

module _ {T : Type 0} (choices : Choices T) where
  -- A receive that gives values updates the subscriber's connections, borrows one message from one of them, with these values, and holds it
  -- as a sample of the number that it reports. Otherwise it changes at most the subscriber itself.
  abbrev pub ReceivesBorrow : Type 0
  ReceivesBorrow = (types : MessageTypeDetails) (buffer number sample : ℕ) (values : Vec T) (old new : State T)
      → Step types choices buffer (command.Receive number) old (reply.Received sample values) new
      → (mid : State T) × (service : Service T) × (one : Subscriber) × (after : Service T) × (publisher : ℕ) × (message : Message T)
      × IsAttended types choices buffer number old mid service one
      × (new.services ≡ replaced (λ other. is_some (subscriber_in number other)) after old.services)
      × (vec_items values ≡ message.values) × IsBorrowed message publisher number service after
      × (after.samples
      ≡ service.samples ++ (sample, record { publisher = publisher; subscriber = number; message = message }) ∷ [])
      × (after ≡ record service { subscribers = after.subscribers; mailboxes = after.mailboxes; samples = after.samples })
