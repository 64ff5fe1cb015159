use Rattle.std.proofs.Common.{Err, ap, sym, ◌∙◌}
use Rattle.iox_negotiate_table.specs.NegotiateBase.declared.failure.CreateFailure.TheVariants as uncreated
use Rattle.iox_hub_base.proofs.Settled.{opens-in-hub}
use Rattle.iox_hub_base.proofs.Lacking.{lacks_creating}
use Rattle.iox_hub_base.proofs.opening.create.Goals as goal

pub returns-in_default : goal.returns-in_default
returns-in_default g c =
    let (refusal, refused, is) = c.lacking_create.ensures in
    lacks_creating _ _ _ _ _ _ _ _ _ _ _ _ refusal refused (ap Err is) c.in_default.ensures.err

pub returns : goal.returns
returns g c =
    opens-in-hub _ _ _ (λ was_new. g.P.Negotiated.create_error uncreated.OutOfMemory) _ c.args.steps.items
    c.args.hub.now c.lend_parts.new.self _ _ _ _ _ _ _ c.in-Ok.ensures.table c.in-Ok.ensures.rest c.created-answer.ensures.creates
    (c.settle.ensures (λ was_new. g.P.Negotiated.create_error uncreated.OutOfMemory)
    (sym (ap (λ errors. errors.opened) c.either_way-lacking.ensures ∙ c.create_error.ensures))
    (sym (ap (λ errors. errors.created) c.either_way-lacking.ensures ∙ c.create_error.ensures)))
