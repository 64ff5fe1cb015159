use Rattle.iox_hub_commands.proofs.arriving.publisher.Goals as goal

pub returns-clause-step : goal.returns-clause-step
returns-clause-step g c = (
  c.default.result,
  c.default.ensures,
  c.make_publisher.result,
  rw (c.publisher_config.ensures, c.named_slots-slots.ensures) at c.make_publisher.ensures.makes,
  c.publisher_reply.ensures,
)
