use Rattle.std.proofs.Common.{inl}
use Rattle.iox_hub_commands.proofs.services.acting.foreign.Goals as goal

pub returns-in-Ok : goal.returns-in-Ok
returns-in-Ok g c = inl (
  rw (c.in-Ok.ensures.list, c.message_types-types.ensures) at c.foreign.ensures,
  rw (c.in-Ok.ensures.list, c.message_types-types.ensures) at c.in-Ok.ensures.form,
)
