use Rattle.std.proofs.Common.{sym, ap}
use Rattle.std.specs.Option.{unwrap_or}
use Rattle.iox_hub_base.proofs.Counted.{counted, uncounted}
use Rattle.iox_hub_base.proofs.counts.Counts.of.Goals as goal

pub returns-in-Ok : goal.returns-in-Ok
returns-in-Ok c =
    rw (← c.self.view_is) (sym (ap (λ found. unwrap_or found 0)
    (counted c.args.number _ c.self.inside.entries.items c.deref.ensures.value c.self.invariant c.in-Ok.place c.in-Ok.ensures.position
    c.in-Ok.ensures.bound c.index.result.now c.index.ensures)))

pub returns-in-Err : goal.returns-in-Err
returns-in-Err c =
    rw (← c.self.view_is) (sym (ap (λ found. unwrap_or found 0)
    (uncounted c.args.number _ c.self.inside.entries.items c.deref.ensures.value c.self.invariant c.in-Err.field-0
    c.in-Err.ensures.position)))
