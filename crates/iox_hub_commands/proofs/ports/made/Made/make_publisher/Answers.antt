use Rattle.std.proofs.Common.{refl, le_refl}
use Rattle.iox_domain.specs.Homes as homes
use Rattle.iox_delivery.specs.Domain.Steps.{why_no_publisher}
use Rattle.iox_hub_commands.proofs.GrowingFor.{numbered_messages}
use Rattle.iox_hub_commands.proofs.Refused.{refused}
use Rattle.iox_hub_commands.specs.Making.{with_publisher}
use Rattle.iox_hub_commands.specs.declared.ports.made.Made.{Made}
use Rattle.iox_hub_commands.proofs.ports.made.Made.make_publisher.Goals as goal

pub returns-then-is_err-clause-makes : goal.returns-then-is_err-clause-makes
returns-then-is_err-clause-makes g c =
    let roomier : Made = record {
      publishers = c.room_for_one.new.numbers;
      subscribers = c.args.self.now.subscribers;
      loans = c.args.self.now.loans;
      samples = c.args.self.now.samples;
    } in (
      roomier,
      (c.room_for_one.ensures.same, (refl, refl, le_refl _), (refl, refl, le_refl _), (refl, refl, le_refl _)),
      refused (λ after. homes.with_ports g.H.LendsDomains.changed c.args.domain after c.args.home.now)
          (λ number held. homes.with_publisher g.H.LendsDomains.changed c.args.domain number c.args.parts.handlers held) _
          (λ ports. why_no_publisher c.args.parts.config ports) (homes.ports_of g.H.LendsDomains.domain_of c.args.domain c.args.home.now)
          (with_publisher c.args.domain c.args.parts.holds_slices) roomier c.args.home.now c.why_no_publisher.result
          c.args.self.now.publishers.next c.why_no_publisher.ensures,
    )

pub returns-clause-messages : goal.returns-clause-messages
returns-clause-messages g c =
    let roomier : Made = record {
      publishers = c.room_for_one.new.numbers;
      subscribers = c.args.self.now.subscribers;
      loans = c.args.self.now.loans;
      samples = c.args.self.now.samples;
    } in
    numbered_messages (with_publisher c.args.domain c.args.parts.holds_slices) (λ number made. (refl, refl))
    c.room_for_one.new.numbers.next c.create_publisher.ensures.0 roomier c.create_publisher.result c.create_publisher.new.self
    c.create_publisher.ensures.2
