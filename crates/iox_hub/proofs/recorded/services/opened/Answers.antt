use Rattle.std.proofs.Common.{IfOk, IfSome, subst}
use Rattle.iox_hub_commands.specs.Asked.{types_of}
use Rattle.iox_hub_commands.specs.DescribeBase.Attributes.{Required}
use Rattle.iox_hub.specs.Recording.{IsMetAsAsked}
use Rattle.iox_hub.proofs.recorded.services.opened.Goals as goal

pub returns-clause-opens : goal.returns-clause-opens
returns-clause-opens g c = rw c.requires.1.1.1.1 at (c.open_if-answer.ensures.opens c.args.history.now.calls.factories)

pub returns-clause-agreed : goal.returns-clause-agreed
returns-clause-agreed g c = subst (λ (required : Required). IfSome c.open_if-answer.result (λ answer. IfOk answer (λ factory.
    IsMetAsAsked (types_of g.T.ZeroCopySend.name g.T.ZeroCopySend.size g.T.ZeroCopySend.alignment g.U.ZeroCopySend.name
    g.U.ZeroCopySend.size g.U.ZeroCopySend.alignment) c.args.name c.args.asked.now required factory.service.membership.service)))
    c.requires.1.1.1.1 c.open_if-answer.ensures.agreed
