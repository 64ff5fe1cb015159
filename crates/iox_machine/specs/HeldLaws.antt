-- That what is borrowed is what samples hold.
use Rattle.std.specs.Prelude.{ℕ, ◌≡◌, ◌≤◌, ◌&&◌, ◌==◌, List, filter, length, map}
use Rattle.std.specs.List.{AllByRecursion}
use Rattle.iox_machine.specs.Choices.{Choices}
use Rattle.iox_machine.specs.Message.{Sample}
use Rattle.iox_machine.specs.Run.{Runs}
use Rattle.iox_machine.specs.Service.{Service, mailbox}
use Rattle.iox_machine.specs.State.{State, new_state}
use Rattle.iox_command.specs.NegotiateBase.DescribeBase.declared.message_type.MessageTypeDetails.{MessageTypeDetails}
use Rattle.iox_command.specs.declared.command.Command.{Command}
use Rattle.iox_command.specs.declared.reply.Reply.{Reply}

module _ {T : Type 0} where
  -- The samples of this subscriber that it received from this publisher, in the order in which they were received.
  abbrev pub held_from : ℕ → ℕ → List (ℕ × Sample T) → List (Sample T)
  held_from publisher subscriber samples =
      filter (λ one. (one.subscriber == subscriber) && (one.publisher == publisher)) (map (λ entry. entry.1) samples)

module _ {T : Type 0} (choices : Choices T) where
  -- In every run of a new machine, the messages that are borrowed from a connection are exactly those of the samples that its subscriber
  -- holds of its publisher, in this order; so as many are borrowed as samples are held, and no more than the service allows.
  abbrev pub HeldIsBorrowed : Type 0
  HeldIsBorrowed = (types : MessageTypeDetails) (buffer : ℕ) (asked : List (Command T)) (answers : List (Reply T)) (new : State T)
      → Runs types choices buffer asked new_state answers new
      → AllByRecursion (λ (service : Service T). (publisher subscriber : ℕ)
      → ((mailbox publisher subscriber service).borrowed
      ≡ map (λ (one : Sample T). one.message) (held_from publisher subscriber service.samples))
      × (length (mailbox publisher subscriber service).borrowed ≡ length (held_from publisher subscriber service.samples))
      × (length (held_from publisher subscriber service.samples) ≤ service.settings.subscriber_max_borrowed_samples)) new.services
