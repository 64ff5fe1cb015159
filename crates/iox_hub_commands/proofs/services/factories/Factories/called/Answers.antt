use Rattle.std.proofs.Common.{◌∙◌, None, Some, Err, ap, refl, sym}
use Rattle.iox_hub_base.specs.DescribeBase.Detail.{detail}
use Rattle.iox_hub_base.specs.DescribeBase.declared.type_detail.TypeVariant.TheVariants.{FixedSize}
use Rattle.iox_hub_commands.specs.Asked.{types_of}
use Rattle.iox_hub_commands.proofs.FirstLook.{answers, goes_on, is_skipped, none_told, told_at_first_look}
use Rattle.iox_hub_commands.proofs.services.factories.Factories.called.Goals as goal

pub returns-then-not-has_node-clause-calls : goal.returns-then-not-has_node-clause-calls
returns-then-not-has_node-clause-calls g c =
    rw (sym c.has_node.ensures ∙ c.if-not-has_node.true) (is_skipped
    (detail FixedSize g.T.ZeroCopySend.name g.T.ZeroCopySend.size g.T.ZeroCopySend.alignment)
    (detail FixedSize g.U.ZeroCopySend.name g.U.ZeroCopySend.size g.U.ZeroCopySend.alignment)
    (types_of g.T.ZeroCopySend.name g.T.ZeroCopySend.size g.T.ZeroCopySend.alignment g.U.ZeroCopySend.name g.U.ZeroCopySend.size
    g.U.ZeroCopySend.alignment)
    c.args.asked.now c.args.steps.now c.args.self.now.made c.args.hub.now c.args.call)

pub returns-in-Some-clause-calls : goal.returns-in-Some-clause-calls
returns-in-Some-clause-calls g c =
    rw (sym c.has_node.ensures ∙ c.if-not-has_node.false) (told_at_first_look
    (detail FixedSize g.T.ZeroCopySend.name g.T.ZeroCopySend.size g.T.ZeroCopySend.alignment)
    (detail FixedSize g.U.ZeroCopySend.name g.U.ZeroCopySend.size g.U.ZeroCopySend.alignment)
    (types_of g.T.ZeroCopySend.name g.T.ZeroCopySend.size g.T.ZeroCopySend.alignment g.U.ZeroCopySend.name g.U.ZeroCopySend.size
    g.U.ZeroCopySend.alignment)
    c.args.asked.now c.args.steps.now c.args.self.now.made c.args.hub.now c.args.hub.now c.in-Some.refusal
    refl c.args.call c.in-Some.ensures)

pub returns-in-Some-clause-told_first : goal.returns-in-Some-clause-told_first
returns-in-Some-clause-told_first g c is_there refusal is =
    (ap (λ why. Some (Err why)) (answers (is (Some c.in-Some.refusal) c.in-Some.ensures)), refl, refl)

pub returns-in-None-clause-calls : goal.returns-in-None-clause-calls
returns-in-None-clause-calls g c =
    rw (sym c.has_node.ensures ∙ c.if-not-has_node.false) (goes_on
    (detail FixedSize g.T.ZeroCopySend.name g.T.ZeroCopySend.size g.T.ZeroCopySend.alignment)
    (detail FixedSize g.U.ZeroCopySend.name g.U.ZeroCopySend.size g.U.ZeroCopySend.alignment)
    (types_of g.T.ZeroCopySend.name g.T.ZeroCopySend.size g.T.ZeroCopySend.alignment g.U.ZeroCopySend.name g.U.ZeroCopySend.size
    g.U.ZeroCopySend.alignment)
    c.args.asked.now c.args.steps.now c.args.self.now.made c.args.hub.now _ _ _ c.args.call c.in-None.ensures
    c.looked.ensures)

pub returns-in-None-clause-told_first : goal.returns-in-None-clause-told_first
returns-in-None-clause-told_first g c is_there refusal is = absurd (none_told refl (sym (is None c.in-None.ensures)))
