use Rattle.std.proofs.Common.{le_refl, refl}
use Rattle.iox_domain.specs.Homes as homes
use Rattle.iox_delivery.specs.Domain.Steps.{why_no_subscriber}
use Rattle.iox_hub_commands.specs.Making.{with_subscriber}
use Rattle.iox_hub_commands.specs.Naming.{subscriber_config}
use Rattle.iox_hub_commands.proofs.Refused.{refused}
use Rattle.iox_hub_commands.proofs.arriving.subscriber_refused.Goals as goal

pub returns : goal.returns
returns g c = λ made handler. (
  c.why_no_subscriber.result,
  (
    made,
    ((refl, refl, le_refl _), (refl, refl, le_refl _), (refl, refl, le_refl _), (refl, refl, le_refl _)),
    refused (λ after. homes.with_ports g.H.LendsDomains.changed c.args.domain after c.args.home.now)
        (λ number held. homes.with_subscriber g.H.LendsDomains.changed c.args.domain number handler held) _
        (λ ports. why_no_subscriber (subscriber_config c.args.owner c.args.options.now) ports)
        (homes.ports_of g.H.LendsDomains.domain_of c.args.domain c.args.home.now) (with_subscriber c.args.domain) made c.args.home.now
        c.why_no_subscriber.result made.subscribers.next
        (rw c.subscriber_config-config.ensures at c.why_no_subscriber.ensures),
  ),
  c.subscriber_reply.ensures,
)
