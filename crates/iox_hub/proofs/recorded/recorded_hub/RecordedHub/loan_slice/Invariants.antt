use Rattle.iox_command.specs.declared.command.Command.TheVariants as command
use Rattle.iox_hub.proofs.Recording.{calls_lent}
use Rattle.iox_hub.proofs.recorded.recorded_hub.RecordedHub.loan_slice.Given as goal

abbrev pub ghost-given : goal.ghost-given
ghost-given g a = a._from.now.calls.made.loans.next

abbrev pub ghost-told_lent : goal.ghost-told_lent
ghost-told_lent g a = calls_lent (command.Loan a.number.now.value a._len) a._answer.now a.history.now.calls
