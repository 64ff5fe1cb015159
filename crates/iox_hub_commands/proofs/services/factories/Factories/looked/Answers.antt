use Rattle.std.proofs.Common.{Ok, Err, refl}
use Rattle.iox_hub_commands.proofs.services.Told.{lacks}
use Rattle.iox_hub_commands.proofs.services.factories.Factories.looked.Goals as goal

pub returns-in-Ok : goal.returns-in-Ok
returns-in-Ok g c = (
  Ok c.in-Ok.lists.items,
  c.prepare.new.self.made,
  c.prepared.result,
  rw c.message_types.ensures at c.in-Ok.ensures.prepares,
  c.prepared.ensures,
  refl,
)

pub returns-in-Err : goal.returns-in-Err
returns-in-Err g c = (
  Err c.in-Err._lack,
  c.prepare.new.self.made,
  Err c.lacking.result,
  c.in-Err.ensures.prepares,
  lacks c.args.call c.args.asked.now.options c.lacking.result c.prepare.new.self.made c.args.hub.now c.lacking.ensures,
  refl,
)
