-- Theorems about what happens at most once: a loan is sent or dropped, and a message is sent and received.
use Rattle.std.specs.Prelude.{ℕ, Bool, true, false, ◌==◌, List, map, filter_map, zip, Option, None, Some, if◌then◌else◌}
use Rattle.std.specs.List.{IsDistinct}
use Rattle.iox_machine.specs.Choices.{Choices}
use Rattle.iox_machine.specs.Message.{Message}
use Rattle.iox_machine.specs.MessageLaws.{sent_by, received_from}
use Rattle.iox_machine.specs.NumberLaws.{AreToldOnce, loan_told}
use Rattle.iox_machine.specs.Run.{Runs}
use Rattle.iox_machine.specs.State.{State, new_state}
use Rattle.iox_command.specs.NegotiateBase.DescribeBase.declared.message_type.MessageTypeDetails.{MessageTypeDetails}
use Rattle.iox_command.specs.declared.command.Command.{Command}
use Rattle.iox_command.specs.declared.command.Command.TheVariants as command
use Rattle.iox_command.specs.declared.reply.Reply.{Reply}
use Rattle.iox_command.specs.declared.reply.Reply.TheVariants as reply

module _ {T : Type 0} where
  -- Whether the reply says that the command was skipped.
  abbrev pub is_skipped : Reply T → Bool
  is_skipped reply.Skipped = true
  is_skipped other = false

  -- The loan that the command consumes: the command is to send or drop this loan, and isn't skipped.
  abbrev pub spent_by : Command T → Reply T → Option ℕ
  spent_by (command.Send loan) answer = if is_skipped answer then None else Some loan
  spent_by (command.Drop loan) answer = if is_skipped answer then None else Some loan
  spent_by other answer = None

  -- The loans that these commands consume, in order, if these are the replies.
  abbrev pub spent_in : List (Command T) → List (Reply T) → List ℕ
  spent_in asked answers = filter_map (λ step. spent_by step.0 step.1) (zip asked answers)

  -- No two of these messages of one publisher have the same number.
  abbrev pub AreDifferent : List (Message T) → Type 0
  AreDifferent messages = IsDistinct (λ one other. one == other) (map (λ message. message.number) messages)

module _ {T : Type 0} (choices : Choices T) where
  -- In every run of a new machine, each loan is sent or dropped at most once, and was made in that run. This speaks of commands and replies
  -- alone.
  abbrev pub LoansAreSpentOnce : Type 0
  LoansAreSpentOnce = (types : MessageTypeDetails) (buffer : ℕ) (asked : List (Command T)) (answers : List (Reply T)) (new : State T)
      → Runs types choices buffer asked new_state answers new → AreToldOnce (filter_map loan_told answers) (spent_in asked answers)

  -- In every run of a new machine, a publisher sends each of its messages at most once, from a loan or by a put, and a subscriber receives
  -- each at most once.
  abbrev pub MessagesGoOnce : Type 0
  MessagesGoOnce = (types : MessageTypeDetails) (buffer : ℕ) (asked : List (Command T)) (answers : List (Reply T)) (new : State T)
      (run : Runs types choices buffer asked new_state answers new) (publisher subscriber : ℕ)
      → AreDifferent (sent_by types choices buffer publisher asked new_state answers new run)
      × AreDifferent (received_from types choices buffer publisher subscriber asked new_state answers new run)
