use Rattle.iox_machine.specs.Choices.{chosen_by}
use Rattle.iox_hub_base.specs.DescribeBase.Detail.{detail}
use Rattle.iox_hub_base.specs.DescribeBase.declared.type_detail.TypeVariant.TheVariants.{Dynamic, FixedSize}
use Rattle.iox_hub_machine.proofs.AllCommands.{decided_commands_go_on}
use Rattle.iox_hub_machine.proofs.runs.decided_runs_go_on.Goals as goal

pub returns : goal.returns
returns g c = λ handed. decided_commands_go_on
    (detail FixedSize g.T.ZeroCopySend.name g.T.ZeroCopySend.size g.T.ZeroCopySend.alignment)
    (detail FixedSize g.U.ZeroCopySend.name g.U.ZeroCopySend.size g.U.ZeroCopySend.alignment) Dynamic
    (chosen_by (λ value. g.T.Default.is_default value) (λ handlers. g.B.Decides.decides handlers)
    (λ handlers. g.B.Degrades.degrades handlers) (λ handler. g.D.Degrades.degrades handler) handed)
    (λ header. g.U.Default.is_default header) (λ handlers. g.B.Degrades.degrades handlers)
    (λ handlers. g.B.Decides.decides handlers) (λ handler. g.D.Degrades.degrades handler)
