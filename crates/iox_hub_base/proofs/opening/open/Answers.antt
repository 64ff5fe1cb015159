use Rattle.std.proofs.Common.{Err, ap, sym, ◌∙◌}
use Rattle.iox_negotiate_table.specs.NegotiateBase.declared.failure.OpenFailure.TheVariants as unopened
use Rattle.iox_hub_base.proofs.Lacking.{lacks_opening}
use Rattle.iox_hub_base.proofs.Settled.{opens-in-hub}
use Rattle.iox_hub_base.proofs.opening.open.Goals as goal

pub returns-in_default : goal.returns-in_default
returns-in_default g c =
    lacks_opening _ _ _ _ c.args.steps.items c.args.hub.now _ c.in_default.ensures.err _ _ _
    (ap Err (rw (← c.as_slice.ensures.value, ← c.acts_first-acts.ensures, ← c.in_default.ensures.err) c.lacking_open.ensures))

pub returns : goal.returns
returns g c =
    opens-in-hub _ _ _ (λ was_new. g.P.Negotiated.open_error unopened.OutOfMemory) _ c.args.steps.items
    c.args.hub.now c.lend_parts.new.self _ _ _ _ _ _ _ c.in-Ok.ensures.table c.in-Ok.ensures.rest c.opened-answer.ensures.opens
    (c.settle.ensures (λ was_new. g.P.Negotiated.open_error unopened.OutOfMemory)
    (sym (ap (λ errors. errors.opened) c.either_way-lacking.ensures ∙ c.open_error.ensures))
    (sym (ap (λ errors. errors.created) c.either_way-lacking.ensures ∙ c.open_error.ensures)))
