-- That no more loans of a publisher are out than its limit.
use Rattle.std.specs.Prelude.{ℕ, ◌≤◌, ◌≡◌, List, Some}
use Rattle.std.specs.List.{AllByRecursion}
use Rattle.iox_machine.specs.Choices.{Choices}
use Rattle.iox_machine.specs.LoanLaws.{loans_out}
use Rattle.iox_machine.specs.Run.{Runs}
use Rattle.iox_machine.specs.Service.{Publisher, Service}
use Rattle.iox_machine.specs.State.{State, new_state}
use Rattle.iox_machine.specs.Table.{at}
use Rattle.iox_command.specs.NegotiateBase.DescribeBase.declared.message_type.MessageTypeDetails.{MessageTypeDetails}
use Rattle.iox_command.specs.declared.command.Command.{Command}
use Rattle.iox_command.specs.declared.reply.Reply.{Reply}

module _ {T : Type 0} (choices : Choices T) where
  -- In every run of a new machine, no more loans of a publisher are out than its limit, be the publisher open or closed.
  abbrev pub LoansAreLimited : Type 0
  LoansAreLimited = (types : MessageTypeDetails) (buffer : ℕ) (asked : List (Command T)) (answers : List (Reply T)) (new : State T)
      → Runs types choices buffer asked new_state answers new
      → AllByRecursion (λ (service : Service T). (number : ℕ) (one : Publisher T) → at number service.publishers ≡ Some one
      → loans_out number one service ≤ one.max_loaned_samples) new.services
