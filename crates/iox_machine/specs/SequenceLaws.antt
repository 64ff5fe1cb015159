-- Theorems about sequence numbers in every run of the machine: they rise by one, none changes, and a gap between them shows what was lost.
use Rattle.std.specs.Prelude.{ℕ, ◌+◌, ◌≡◌, ⊤, Bool, true, false, not, ◌&&◌, nat_lt, List, [], ◌∷◌, ◌++◌, length, map, filter, find, Option}
use Rattle.std.specs.Prelude.{None, Some, is_some, if◌then◌else◌}
use Rattle.std.specs.Global.{Vec}
use Rattle.std.specs.List.{AllByRecursion, list_any}
use Rattle.std.specs.Option.{option_map_or}
use Rattle.iox_machine.specs.Choices.{Choices}
use Rattle.iox_machine.specs.Message.{Message}
use Rattle.iox_machine.specs.MessageLaws.{begun_by, first_in, is_release_of, received_by, received_from, sent_by, with_one}
use Rattle.iox_machine.specs.Run.{Runs, Step}
use Rattle.iox_machine.specs.Service.{Publisher, Send, Service, mailbox}
use Rattle.iox_machine.specs.State.{State, new_state}
use Rattle.iox_machine.specs.Table.{at, contains}
use Rattle.iox_command.specs.DomainValues.Sequences.{before_first, next_sequence}
use Rattle.iox_command.specs.NegotiateBase.DescribeBase.declared.message_type.MessageTypeDetails.{MessageTypeDetails}
use Rattle.iox_command.specs.declared.command.Command.{Command}
use Rattle.iox_command.specs.declared.command.Command.TheVariants as command
use Rattle.iox_command.specs.declared.reply.Reply.{Reply}
use Rattle.iox_command.specs.declared.reply.Reply.TheVariants as reply

module _ {T : Type 0} where
  -- The sequence number of each message is one more than that of the message before it, and the first is one more than `last`; if `last` is
  -- none, no message has one.
  abbrev pub GoOnBehind : Option ℕ → List (Message T) → Type 0
  GoOnBehind last [] = ⊤
  GoOnBehind last (message ∷ more) = (message.sequence ≡ next_sequence last) × GoOnBehind message.sequence more

  -- The sequence number of the last of these messages; if there are no messages, `last`.
  abbrev pub last_behind : Option ℕ → List (Message T) → Option ℕ
  last_behind last [] = last
  last_behind last (message ∷ more) = last_behind message.sequence more

  -- Whether this message is one of these messages, which are all of one publisher.
  abbrev pub has_message : List (Message T) → Message T → Bool
  has_message messages message = contains (map (λ one. one.number) messages) message.number

  -- Whether the message has a sequence number between these two.
  abbrev pub is_between : ℕ → ℕ → Message T → Bool
  is_between low high message = option_map_or (λ number. nat_lt low number && nat_lt number high) message.sequence false

  -- The messages of this publisher that wait for this subscriber.
  abbrev pub waiting_for : ℕ → ℕ → State T → List (Message T)
  waiting_for publisher subscriber state = option_map_or (λ service. (mailbox publisher subscriber service).waiting)
      (find (λ service. is_some (at publisher service.publishers)) state.services) []

  -- The message that a blocked send still has to bring to this subscriber, if a send is blocked and the subscriber is left to try.
  abbrev pub still_brought : ℕ → Option (Send T) → List (Message T)
  still_brought subscriber None = []
  still_brought subscriber (Some send) = if contains send.left subscriber then send.message ∷ [] else []

  -- The message that a blocked send of this publisher still has to bring to this subscriber, if there is one.
  abbrev pub to_come : ℕ → ℕ → State T → List (Message T)
  to_come publisher subscriber state = option_map_or (λ one. still_brought subscriber one.blocked)
      (first_in (λ service. at publisher service.publishers) state) []

  -- The messages of this publisher that are on their way to this subscriber: they wait, or a blocked send still has to bring them.
  abbrev pub on_way : ℕ → ℕ → State T → List (Message T)
  on_way publisher subscriber state = waiting_for publisher subscriber state ++ to_come publisher subscriber state

  -- The messages that a command drops from those of this publisher that wait for this subscriber: they wait no longer, and weren't
  -- received.
  abbrev pub dropped_by : ℕ → ℕ → Command T → State T → Reply T → State T → List (Message T)
  dropped_by publisher subscriber asked old answer new =
      filter
      (λ message. not (has_message (with_one (received_by publisher subscriber asked answer new) (waiting_for publisher subscriber new))
      message)) (waiting_for publisher subscriber old)

  -- The messages with which a command skips a subscriber. The send of such a message begins now, or was blocked and still had to bring it
  -- to the subscriber; after the command the message doesn't wait, and no send still has to bring it. This happens at a full mailbox, if
  -- that is decided there; when a send is given up; and if the publisher isn't connected to the subscriber.
  abbrev pub passed_by : ℕ → ℕ → Command T → State T → Reply T → State T → List (Message T)
  passed_by publisher subscriber asked old answer new =
      filter (λ message. not (has_message (on_way publisher subscriber new) message))
      (to_come publisher subscriber old ++ with_one (begun_by publisher asked old answer) [])

module _ {T : Type 0} (types : MessageTypeDetails) (choices : Choices T) (buffer : ℕ) where
  -- The messages of this publisher that were lost to this subscriber in the run, command by command: dropped or skipped.
  abbrev pub lost_to : ℕ → ℕ → (asked : List (Command T)) (old : State T) (answers : List (Reply T)) (new : State T)
      → Runs types choices buffer asked old answers new → List (Message T)
  lost_to publisher subscriber [] old answers new run = []
  lost_to publisher subscriber (one ∷ more) old answers new run =
      (dropped_by publisher subscriber one old run.0 run.1 ++ passed_by publisher subscriber one old run.0 run.1)
      ++ lost_to publisher subscriber more run.1 run.2 new run.4

module _ {T : Type 0} (choices : Choices T) where
  -- In every run of a new machine, the sequence numbers of a publisher's messages are 1, 2, 3 and so on, in the order of sending; or none
  -- of them has one. While the publisher is of a service, they have one exactly if the service numbers messages, and the publisher's last
  -- sequence number is that of its last message.
  abbrev pub SequencesGoUp : Type 0
  SequencesGoUp = (types : MessageTypeDetails) (buffer : ℕ) (asked : List (Command T)) (answers : List (Reply T)) (new : State T)
      (run : Runs types choices buffer asked new_state answers new) (publisher : ℕ)
      → ((numbered : Bool) × GoOnBehind (before_first numbered 1) (sent_by types choices buffer publisher asked new_state answers new run))
      × ((service : Service T) (one : Publisher T)
      → find (λ other. is_some (at publisher other.publishers)) new.services ≡ Some service → at publisher service.publishers ≡ Some one
      → GoOnBehind (before_first service.settings.sequence_numbers 1)
      (sent_by types choices buffer publisher asked new_state answers new run)
      × (one.last_sequence ≡ last_behind (before_first service.settings.sequence_numbers 1)
      (sent_by types choices buffer publisher asked new_state answers new run)))

  -- A sample reports the sequence number of the received message until its own release, whatever other commands come between.
  abbrev pub SequenceStays : Type 0
  SequenceStays = (types : MessageTypeDetails) (buffer : ℕ) (asked : List (Command T)) (answers : List (Reply T)) (old : State T)
      → Runs types choices buffer asked new_state answers old
      → (subscriber sample : ℕ) (values : Vec T) (mid : State T)
      → Step types choices buffer (command.Receive subscriber) old (reply.Received sample values) mid
      → (publisher : ℕ) × (message : Message T)
      × (received_by publisher subscriber (command.Receive subscriber) (reply.Received sample values) mid ≡ Some message)
      × ((meanwhile : List (Command T)) (told : List (Reply T)) (later : State T) → Runs types choices buffer meanwhile mid told later
      → list_any (is_release_of sample) meanwhile ≡ false
      → (answer : Reply T) (new : State T) → Step types choices buffer (command.Sequence sample) later answer new
      → answer ≡ reply.Sequence message.sequence)

  -- In every run of a new machine, let a subscriber receive two messages from a publisher, one directly after the other, with sequence
  -- numbers. The number of messages that the publisher sent with sequence numbers between these two is the number of integers between them.
  -- Each of these messages was lost to the subscriber, was never received, and isn't on its way. No other message with a sequence number
  -- between the two was lost.
  abbrev pub GapsAreLosses : Type 0
  GapsAreLosses = (types : MessageTypeDetails) (buffer : ℕ) (asked : List (Command T)) (answers : List (Reply T)) (new : State T)
      (run : Runs types choices buffer asked new_state answers new) (publisher subscriber : ℕ)
      (earlier later : List (Message T)) (one next : Message T) (low high : ℕ)
      → received_from types choices buffer publisher subscriber asked new_state answers new run ≡ earlier ++ one ∷ next ∷ later
      → one.sequence ≡ Some low → next.sequence ≡ Some high
      → let gap = filter (is_between low high) (sent_by types choices buffer publisher asked new_state answers new run) in
      (length gap + low + 1 ≡ high)
      × AllByRecursion (λ message.
      (has_message (lost_to types choices buffer publisher subscriber asked new_state answers new run) message ≡ true)
      × (has_message (received_from types choices buffer publisher subscriber asked new_state answers new run
      ++ on_way publisher subscriber new) message ≡ false)) gap
      × AllByRecursion (λ message. is_between low high message ≡ true → has_message gap message ≡ true)
      (lost_to types choices buffer publisher subscriber asked new_state answers new run)
