use Rattle.std.proofs.Common.{Ok, Err, refl, ap}
use Rattle.iox_hub_commands.specs.declared.services.made.MadeFactory.TheVariants as made
use Rattle.iox_hub_commands.proofs.services.ByRules.{opens_by_rules}
use Rattle.iox_hub_commands.proofs.services.factories.Factories.prepared.Goals as goal

pub returns-in-Ok : goal.returns-in-Ok
returns-in-Ok g c =
    opens_by_rules _ _ _ _ _ _ _ _ _ _ _ c.args.call c.args.asked.now.options
    (rw c.in-PublishSubscribe.is (c.in-Ok.ensures c.args.self.now.made c.number.new.self.made (Ok c.number.result) (
      made.PublishSubscribe c.in-Ok.factory,
      refl,
      refl,
      c.number.ensures.table,
      ap Ok c.number.ensures.number,
      c.number.ensures.form,
    )))

pub returns-in-Err : goal.returns-in-Err
returns-in-Err g c =
    opens_by_rules _ _ _ _ _ _ _ _ _ _ _ c.args.call c.args.asked.now.options
    (rw c.in-PublishSubscribe.is (c.in-Err.ensures c.args.self.now.made c.args.self.now.made (Err c.in-Err.refusal) (refl, refl)))

pub returns-in-Ok-built : goal.returns-in-Ok-built
returns-in-Ok-built g c =
    opens_by_rules _ _ _ _ _ _ _ _ _ _ _ c.args.call c.args.asked.now.options
    (rw c.in-Event.is (c.in-Ok-built.ensures c.args.self.now.made c.number-in-Ok-built.new.self.made (Ok c.number-in-Ok-built.result) (
      made.Event c.in-Ok-built.factory,
      refl,
      refl,
      c.number-in-Ok-built.ensures.table,
      ap Ok c.number-in-Ok-built.ensures.number,
      c.number-in-Ok-built.ensures.form,
    )))

pub returns-in-Err-built : goal.returns-in-Err-built
returns-in-Err-built g c =
    opens_by_rules _ _ _ _ _ _ _ _ _ _ _ c.args.call c.args.asked.now.options
    (rw c.in-Event.is (c.in-Err-built.ensures c.args.self.now.made c.args.self.now.made (Err c.in-Err-built.refusal) (refl, refl)))

pub returns-in-Ok-built-2 : goal.returns-in-Ok-built-2
returns-in-Ok-built-2 g c =
    opens_by_rules _ _ _ _ _ _ _ _ _ _ _ c.args.call c.args.asked.now.options
    (rw c.in-RequestResponse.is (c.in-Ok-built-2.ensures c.args.self.now.made c.number-in-Ok-built-2.new.self.made
    (Ok c.number-in-Ok-built-2.result) (
      made.RequestResponse c.in-Ok-built-2.factory,
      refl,
      refl,
      c.number-in-Ok-built-2.ensures.table,
      ap Ok c.number-in-Ok-built-2.ensures.number,
      c.number-in-Ok-built-2.ensures.form,
    )))

pub returns-in-Err-built-2 : goal.returns-in-Err-built-2
returns-in-Err-built-2 g c =
    opens_by_rules _ _ _ _ _ _ _ _ _ _ _ c.args.call c.args.asked.now.options
    (rw c.in-RequestResponse.is (c.in-Err-built-2.ensures c.args.self.now.made c.args.self.now.made (Err c.in-Err-built-2.refusal)
    (refl, refl)))
