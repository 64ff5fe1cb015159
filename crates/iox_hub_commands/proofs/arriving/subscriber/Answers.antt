use Rattle.iox_hub_commands.proofs.arriving.subscriber.Goals as goal

pub returns-clause-step : goal.returns-clause-step
returns-clause-step g c = (
  c.make_subscriber.result,
  rw c.subscriber_config-config.ensures at c.make_subscriber.ensures.makes,
  c.subscriber_reply.ensures,
)
