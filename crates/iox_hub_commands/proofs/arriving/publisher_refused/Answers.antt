use Rattle.std.proofs.Common.{le_refl, refl, true}
use Rattle.iox_domain.specs.Homes as homes
use Rattle.iox_delivery.specs.Domain.Steps.{why_no_publisher}
use Rattle.iox_hub_commands.specs.Making.{with_publisher}
use Rattle.iox_hub_commands.specs.Naming.{publisher_config}
use Rattle.iox_hub_commands.proofs.Refused.{refused}
use Rattle.iox_hub_commands.proofs.arriving.publisher_refused.Goals as goal

pub returns : goal.returns
returns g c = λ made handlers. (
  c.default-user_header.result,
  c.default-user_header.ensures,
  c.why_no_publisher.result,
  (
    made,
    ((refl, refl, le_refl _), (refl, refl, le_refl _), (refl, refl, le_refl _), (refl, refl, le_refl _)),
    refused (λ after. homes.with_ports g.H.LendsDomains.changed c.args.domain after c.args.home.now)
        (λ number held. homes.with_publisher g.H.LendsDomains.changed c.args.domain number handlers held) _
        (λ ports. why_no_publisher (publisher_config c.args.owner c.args.options.now) ports)
        (homes.ports_of g.H.LendsDomains.domain_of c.args.domain c.args.home.now) (with_publisher c.args.domain true) made c.args.home.now
        c.why_no_publisher.result made.publishers.next
        (rw c.publisher_config-config.ensures at c.why_no_publisher.ensures),
  ),
  c.publisher_reply.ensures,
)
