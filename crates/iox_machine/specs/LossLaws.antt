-- The cause of each loss that a gap in the sequence numbers shows: the message was dropped or skipped.
use Rattle.std.specs.Prelude.{ℕ, ◌+◌, ◌≡◌, ◌⊎◌, Bool, true, false, List, [], ◌∷◌, ◌++◌, length, filter, find, Some, is_some}
use Rattle.std.specs.List.{AllByRecursion}
use Rattle.std.specs.Option.{option_map_or}
use Rattle.iox_machine.specs.Choices.{Choices}
use Rattle.iox_machine.specs.Mailbox.{Mailbox, newest, put}
use Rattle.iox_machine.specs.Message.{Message}
use Rattle.iox_machine.specs.MessageLaws.{begun_by, first_in, received_by, received_from, sent_by, with_one}
use Rattle.iox_machine.specs.PortList.{those}
use Rattle.iox_machine.specs.Run.{Runs, Step}
use Rattle.iox_machine.specs.SequenceLaws.{has_message, is_between, on_way, passed_by, to_come, waiting_for}
use Rattle.iox_machine.specs.Service.{Publisher, Service, mailbox}
use Rattle.iox_machine.specs.State.{State, new_state}
use Rattle.iox_machine.specs.Table.{at, contains}
use Rattle.iox_command.specs.NegotiateBase.DescribeBase.declared.message_type.MessageTypeDetails.{MessageTypeDetails}
use Rattle.iox_command.specs.declared.command.Command.{Command}
use Rattle.iox_command.specs.declared.command.Command.TheVariants as command
use Rattle.iox_command.specs.declared.reply.Reply.{Reply}
use Rattle.iox_command.specs.declared.reply.Reply.TheVariants as reply

module _ {T : Type 0} where
  -- The command drops a message from the mailbox of a publisher and a subscriber: the message waited there, isn't received now, and isn't
  -- on its way any longer. The service has safe overflow, and a later message that the publisher sent was put into the mailbox, after those
  -- that waited. Of all these, the newest wait there now: as many as the mailbox's maximum.
  abbrev pub IsDropped : ℕ → ℕ → Message T → Command T → State T → Reply T → State T → Type 0
  IsDropped publisher subscriber message asked old answer new =
      (has_message (waiting_for publisher subscriber old) message ≡ true)
      × (has_message (with_one (received_by publisher subscriber asked answer new) (on_way publisher subscriber new)) message ≡ false)
      × ((service : Service T) × (later : Message T)
      × (find (λ other. is_some (at publisher other.publishers)) new.services ≡ Some service)
      × (service.settings.enable_safe_overflow ≡ true)
      × (has_message (to_come publisher subscriber old ++ with_one (begun_by publisher asked old answer) []) later ≡ true)
      × ((mailbox publisher subscriber service).waiting
      ≡ newest (mailbox publisher subscriber service).limit (waiting_for publisher subscriber old ++ later ∷ [])))

  -- Whether the mailbox takes the message, and keeps it.
  abbrev pub takes_it : Bool → Message T → Mailbox T → Bool
  takes_it overflows message box = option_map_or (λ after. has_message after.waiting message) (put overflows message box) false

  -- The command skips a subscriber with this message, whose send begins now, or was blocked and still had to bring it to the subscriber.
  -- Either the send is given up; or it goes past the subscriber's mailbox, which is full and takes no message, and the publisher is
  -- connected to the subscriber.
  abbrev pub IsPassedOver : ℕ → ℕ → Message T → Command T → State T → Reply T → State T → Type 0
  IsPassedOver publisher subscriber message asked old answer new =
      (has_message (passed_by publisher subscriber asked old answer new) message ≡ true)
      × ((asked ≡ command.GiveUp publisher)
      ⊎ ((service : Service T) × (one : Publisher T)
      × (find (λ other. is_some (at publisher other.publishers)) new.services ≡ Some service)
      × (at publisher service.publishers ≡ Some one) × (contains (those one.connected) subscriber ≡ true)
      × (takes_it service.settings.enable_safe_overflow message (mailbox publisher subscriber service) ≡ false)))

module _ {T : Type 0} (types : MessageTypeDetails) (choices : Choices T) (buffer : ℕ) where
  -- The message isn't on its way to the subscriber at the start of the run or after any command of it.
  abbrev pub StaysOff : ℕ → ℕ → Message T → (asked : List (Command T)) (old : State T) (answers : List (Reply T)) (new : State T)
      → Runs types choices buffer asked old answers new → Type 0
  StaysOff publisher subscriber message [] old answers new run = has_message (on_way publisher subscriber old) message ≡ false
  StaysOff publisher subscriber message (one ∷ more) old answers new run =
      (has_message (on_way publisher subscriber old) message ≡ false)
      × StaysOff publisher subscriber message more run.1 run.2 new run.4

  -- At some command of the run the message is lost in this way, and it isn't on its way from then on.
  abbrev pub IsLostBy : (ℕ → ℕ → Message T → Command T → State T → Reply T → State T → Type 0) → ℕ → ℕ → Message T
      → (asked : List (Command T)) (old : State T) (answers : List (Reply T)) (new : State T)
      → Runs types choices buffer asked old answers new → Type 0
  IsLostBy Loses publisher subscriber message [] old answers new run = ⊥
  IsLostBy Loses publisher subscriber message (one ∷ more) old answers new run =
      (Loses publisher subscriber message one old run.0 run.1 × StaysOff publisher subscriber message more run.1 run.2 new run.4)
      ⊎ IsLostBy Loses publisher subscriber message more run.1 run.2 new run.4

module _ {T : Type 0} (choices : Choices T) where
  -- In every run of a new machine, let a subscriber receive two messages from a publisher, one directly after the other, with sequence
  -- numbers; samples report these numbers while they are held. The number of messages that the publisher sent with sequence numbers between
  -- these two is the number of integers between them. Each of these messages was lost for exactly one cause: it was dropped from the
  -- mailbox of the two ports, or it was skipped there.
  abbrev pub GapsHaveCauses : Type 0
  GapsHaveCauses = (types : MessageTypeDetails) (buffer : ℕ) (asked : List (Command T)) (answers : List (Reply T)) (new : State T)
      (run : Runs types choices buffer asked new_state answers new) (publisher subscriber : ℕ)
      (earlier later : List (Message T)) (one next : Message T) (low high : ℕ)
      → received_from types choices buffer publisher subscriber asked new_state answers new run ≡ earlier ++ one ∷ next ∷ later
      → one.sequence ≡ Some low → next.sequence ≡ Some high
      → let gap = filter (is_between low high) (sent_by types choices buffer publisher asked new_state answers new run) in
      let Tells = λ (message : Message T) (number : ℕ). ((sample : ℕ) (answer : Reply T) (after : State T)
      → first_in (λ service. at sample service.samples) new
      ≡ Some (record { publisher = publisher; subscriber = subscriber; message = message })
      → Step types choices buffer (command.Sequence sample) new answer after → answer ≡ reply.Sequence (Some number)) in
      Tells one low × Tells next high × (length gap + low + 1 ≡ high)
      × AllByRecursion (λ message.
      let Dropped = IsLostBy types choices buffer IsDropped publisher subscriber message asked new_state answers new run in
      let PassedOver = IsLostBy types choices buffer IsPassedOver publisher subscriber message asked new_state answers new run in
      (Dropped × (PassedOver → ⊥)) ⊎ (PassedOver × (Dropped → ⊥))) gap
