-- Theorems about the numbers of nodes, factories, ports, loans and samples.
use Rattle.std.specs.Prelude.{ℕ, ◌+◌, ◌≡◌, ⊤, true, ◌==◌, List, [], ◌∷◌, map, filter_map, flat_map, Option, None, Some}
use Rattle.std.specs.List.{AllByRecursion, IsDistinct}
use Rattle.iox_machine.specs.Choices.{Choices}
use Rattle.iox_machine.specs.Run.{Runs}
use Rattle.iox_machine.specs.State.{State, new_state}
use Rattle.iox_machine.specs.Table.{contains}
use Rattle.iox_command.specs.NegotiateBase.DescribeBase.declared.message_type.MessageTypeDetails.{MessageTypeDetails}
use Rattle.iox_command.specs.declared.command.Command.{Command}
use Rattle.iox_command.specs.declared.reply.Reply.{Reply}
use Rattle.iox_command.specs.declared.reply.Reply.TheVariants as reply

module _ {T : Type 0} where
  -- The number of the new node, if the reply reports one.
  abbrev pub node_told : Reply T → Option ℕ
  node_told (reply.NodeMade number) = Some number
  node_told other = None

  -- The number of the new factory, if the reply reports one.
  abbrev pub factory_told : Reply T → Option ℕ
  factory_told (reply.FactoryMade number) = Some number
  factory_told other = None

  -- The number of the new publisher, if the reply reports one.
  abbrev pub publisher_told : Reply T → Option ℕ
  publisher_told (reply.PublisherMade number) = Some number
  publisher_told other = None

  -- The number of the new subscriber, if the reply reports one.
  abbrev pub subscriber_told : Reply T → Option ℕ
  subscriber_told (reply.SubscriberMade number) = Some number
  subscriber_told other = None

  -- The number of the new loan, if the reply reports one.
  abbrev pub loan_told : Reply T → Option ℕ
  loan_told (reply.LoanMade number) = Some number
  loan_told other = None

  -- The number of the new sample, if the reply reports one.
  abbrev pub sample_told : Reply T → Option ℕ
  sample_told (reply.Received number values) = Some number
  sample_told other = None

-- The numbers that the table has.
abbrev pub numbers_in : {V : Type 0} → List (ℕ × V) → List ℕ
numbers_in table = map (λ entry. entry.0) table

-- Each number of the list is one more than the one before it; the first is one more than `last`.
abbrev pub GoOn : ℕ → List ℕ → Type 0
GoOn last [] = ⊤
GoOn last (number ∷ more) = (number ≡ last + 1) × GoOn number more

-- No number occurs twice, and each was reported.
abbrev pub AreToldOnce : List ℕ → List ℕ → Type 0
AreToldOnce told numbers =
    IsDistinct (λ one other. one == other) numbers × AllByRecursion (λ number. contains told number ≡ true) numbers

module _ {T : Type 0} (choices : Choices T) where
  -- In every run of a new machine, the numbers of one kind that replies report are 1, 2, 3 and so on, in this order: those of nodes, of
  -- factories, of publishers, of subscribers, of loans, and of samples. So no number of a kind is given twice.
  abbrev pub NumbersGoUp : Type 0
  NumbersGoUp = (types : MessageTypeDetails) (buffer : ℕ) (asked : List (Command T)) (answers : List (Reply T)) (new : State T)
      → Runs types choices buffer asked new_state answers new
      → GoOn 0 (filter_map node_told answers) × GoOn 0 (filter_map factory_told answers) × GoOn 0 (filter_map publisher_told answers)
      × GoOn 0 (filter_map subscriber_told answers) × GoOn 0 (filter_map loan_told answers) × GoOn 0 (filter_map sample_told answers)

  -- In every run of a new machine, no two factories have the same number, nor two publishers, subscribers, loans or samples, in whichever
  -- services; and each of these numbers was reported.
  abbrev pub NumbersNameOne : Type 0
  NumbersNameOne = (types : MessageTypeDetails) (buffer : ℕ) (asked : List (Command T)) (answers : List (Reply T)) (new : State T)
      → Runs types choices buffer asked new_state answers new
      → AreToldOnce (filter_map factory_told answers) (numbers_in new.factories)
      × AreToldOnce (filter_map publisher_told answers) (flat_map (λ service. numbers_in service.publishers) new.services)
      × AreToldOnce (filter_map subscriber_told answers) (flat_map (λ service. numbers_in service.subscribers) new.services)
      × AreToldOnce (filter_map loan_told answers) (flat_map (λ service. numbers_in service.loans) new.services)
      × AreToldOnce (filter_map sample_told answers) (flat_map (λ service. numbers_in service.samples) new.services)
