use Rattle.std.proofs.Common.{Ok, Err, refl, subst}
use Rattle.iox_negotiate_table.specs.Stepped.{ActsAll}
use Rattle.iox_hub_base.proofs.hub.Hub.foreign.Goals as goal

pub returns-in-Ok : goal.returns-in-Ok
returns-in-Ok g c = (
  (
    Ok c.in-Ok.field-0,
    subst (λ hash. ActsAll hash c.args.steps.now c.args.self.now.table (Ok c.in-Ok.field-0) c.act_all.new.table)
        c.service_hash-hash.ensures.value
        (subst (λ steps. ActsAll c.service_hash-hash.result steps c.args.self.now.table (Ok c.in-Ok.field-0) c.act_all.new.table)
        c.as_slice.ensures c.in-Ok.ensures),
    refl,
  ),
  refl,
)

pub returns-in-Err : goal.returns-in-Err
returns-in-Err g c = (
  (
    Err c.in-Err.field-0,
    subst (λ hash. ActsAll hash c.args.steps.now c.args.self.now.table (Err c.in-Err.field-0) c.act_all.new.table)
        c.service_hash-hash.ensures.value
        (subst (λ steps. ActsAll c.service_hash-hash.result steps c.args.self.now.table (Err c.in-Err.field-0) c.act_all.new.table)
        c.as_slice.ensures c.in-Err.ensures),
    refl,
  ),
  refl,
)
