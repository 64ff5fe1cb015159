use Rattle.std.proofs.Common.{refl}
use Rattle.iox_command.specs.declared.command.Command.TheVariants as command
use Rattle.iox_hub_commands.specs.DescribeBase.declared.type_detail.TypeVariant.TheVariants.{Dynamic}
use Rattle.iox_hub_commands.specs.Calls.{may_lend}
use Rattle.iox_hub_base.specs.AsHome.{hub_ports}
use Rattle.iox_hub.proofs.RecordedLoans.{defaults_recorded, defaults_so, lent_so, loan_goes_by, loans_keep}
use Rattle.iox_hub.proofs.RecordedRuns.{for_all, for_one}
use Rattle.iox_hub.proofs.recorded.recorded_hub.RecordedHub.loan_slice.Goals as goal

pub invariant_of-self : goal.invariant_of-self
invariant_of-self g c = rw c.told_lent-self-inside.ensures
    (for_all _ (λ handed. defaults_recorded _ refl handed (c.typed_calls_are_a_run.ensures.goes_on handed g.B.PublisherHandlers.fixed
    g.D.SubscriberHandler.fixed
    Dynamic)
    (c.typed_publisher_calls_are_steps.ensures handed g.B.PublisherHandlers.fixed g.D.SubscriberHandler.fixed Dynamic).loan
    c.self.inside.history.calls c.self.inside.hub c.lend_if-answer.new.home c.args.publisher.now.number.value c.args.len
    c.args.publisher.now.it.port c.lend_if-answer.result (rw (← c.self.view_is) at c.requires) c.lend_if-answer.ensures.lends
    c.lend_if-answer.ensures.default (for_one _ c.self.invariant handed)))

pub returns-clause-lent : goal.returns-clause-lent
returns-clause-lent g c = rw (c.with_number.ensures, ← c.self.view_is, c.told_lent-self-inside.ensures)
    (lent_so c.self.inside.history.calls (command.Loan c.args.publisher.now.number.value c.args.len) c.given-number.result
    c.lend_if-answer.result)

pub returns-clause-number : goal.returns-clause-number
returns-clause-number g c = rw (c.with_number.ensures, ← c.self.view_is, c.told_lent-self-inside.ensures)
    (loan_goes_by c.self.inside.history.calls (command.Loan c.args.publisher.now.number.value c.args.len) c.given-number.result
    c.lend_if-answer.result c.given-number.ensures c.self.invariant.rise.3)

pub returns-clause-lends : goal.returns-clause-lends
returns-clause-lends g c = rw c.with_number.ensures
    (defaults_so c.args.publisher.now.it.port c.args.len c.given-number.result c.self.inside.hub c.lend_if-answer.new.home
    (λ value. g.T.Default.is_default value)
    (may_lend hub_ports c.args.publisher.now.it.port c.self.inside.hub) c.lend_if-answer.result c.lend_if-answer.ensures.lends)

pub returns-clause-others : goal.returns-clause-others
returns-clause-others g c = rw (← c.self.view_is, c.told_lent-self-inside.ensures)
    (loans_keep c.self.inside.history.calls (command.Loan c.args.publisher.now.number.value c.args.len) c.given-number.result
    c.lend_if-answer.result)
