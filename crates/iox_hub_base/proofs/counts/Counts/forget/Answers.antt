use Rattle.std.proofs.Common.{◌∙◌}
use Rattle.iox_hub_base.proofs.Counted.{counted_out, rises_forgotten, still_uncounted}
use Rattle.iox_hub_base.proofs.counts.Counts.forget.Goals as goal

pub invariant_of-self : goal.invariant_of-self
invariant_of-self c =
    rises_forgotten c.args.number c.self.inside.entries.items _
    (c.remove.ensures.items ∙ counted_out c.args.number _ c.self.inside.entries.items c.deref.ensures.value c.self.invariant c.in-Ok.place
    c.in-Ok.ensures.position c.in-Ok.ensures.bound c.remove.result) c.self.invariant

pub returns-in-Ok : goal.returns-in-Ok
returns-in-Ok c =
    rw (← c.self.view_is) (c.remove.ensures.items
    ∙ counted_out c.args.number _ c.self.inside.entries.items c.deref.ensures.value c.self.invariant c.in-Ok.place
    c.in-Ok.ensures.position c.in-Ok.ensures.bound c.remove.result)

pub returns-in-Err : goal.returns-in-Err
returns-in-Err c =
    rw (← c.self.view_is) (still_uncounted c.args.number _ c.self.inside.entries.items c.deref.ensures.value c.self.invariant
    c.in-Err.field-0 c.in-Err.ensures.position)
