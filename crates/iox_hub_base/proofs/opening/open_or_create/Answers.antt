use Rattle.std.proofs.Common.{Err, ap, sym}
use Rattle.iox_hub_base.specs.Opening.{lacking_either}
use Rattle.iox_hub_base.proofs.Lacking.{lacks_either}
use Rattle.iox_hub_base.proofs.Settled.{opens-in-hub}
use Rattle.iox_hub_base.proofs.opening.open_or_create.Goals as goal

pub returns-in_default : goal.returns-in_default
returns-in_default g c =
    let (refusal, refused, within, is) = c.lacking_open_or_create.ensures in
    lacks_either _ _ _ _ c.args.steps.items c.args.hub.now _ c.in_default.ensures.err _ _ _ _ _ refusal _ refused within
    (ap Err (rw (← c.as_slice.ensures.value, ← c.acts_first-acts.ensures, ← c.in_default.ensures.err) is))

pub returns : goal.returns
returns g c =
    opens-in-hub _ _ _ (λ was_new. g.P.Negotiated.open_or_create_error (lacking_either was_new)) _ c.args.steps.items
    c.args.hub.now c.lend_parts.new.self _ _ _ _ _ _ _ c.in-Ok.ensures.table c.in-Ok.ensures.rest
    c.opened_or_created-answer.ensures.either
    (c.settle.ensures (λ was_new. g.P.Negotiated.open_or_create_error (lacking_either was_new))
    (sym c.lacking_either-lacking.ensures.opened) (sym c.lacking_either-lacking.ensures.created))
