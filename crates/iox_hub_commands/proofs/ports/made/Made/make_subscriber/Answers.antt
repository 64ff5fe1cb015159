use Rattle.std.proofs.Common.{refl, le_refl}
use Rattle.iox_domain.specs.Homes as homes
use Rattle.iox_delivery.specs.Domain.Steps.{why_no_subscriber}
use Rattle.iox_hub_commands.proofs.GrowingFor.{numbered_messages}
use Rattle.iox_hub_commands.proofs.Refused.{refused}
use Rattle.iox_hub_commands.specs.Making.{with_subscriber}
use Rattle.iox_hub_commands.specs.declared.ports.made.Made.{Made}
use Rattle.iox_hub_commands.proofs.ports.made.Made.make_subscriber.Goals as goal

pub returns-then-is_err-clause-makes : goal.returns-then-is_err-clause-makes
returns-then-is_err-clause-makes g c =
    let roomier : Made = record {
      publishers = c.args.self.now.publishers;
      subscribers = c.room_for_one.new.numbers;
      loans = c.args.self.now.loans;
      samples = c.args.self.now.samples;
    } in (
      roomier,
      ((refl, refl, le_refl _), c.room_for_one.ensures.same, (refl, refl, le_refl _), (refl, refl, le_refl _)),
      refused (λ after. homes.with_ports g.H.LendsDomains.changed c.args.domain after c.args.home.now)
          (λ number held. homes.with_subscriber g.H.LendsDomains.changed c.args.domain number c.args.handler held) _
          (λ ports. why_no_subscriber c.args.config ports) (homes.ports_of g.H.LendsDomains.domain_of c.args.domain c.args.home.now)
          (with_subscriber c.args.domain) roomier c.args.home.now c.why_no_subscriber.result c.args.self.now.subscribers.next
          c.why_no_subscriber.ensures,
    )

pub returns-clause-messages : goal.returns-clause-messages
returns-clause-messages g c =
    let roomier : Made = record {
      publishers = c.args.self.now.publishers;
      subscribers = c.room_for_one.new.numbers;
      loans = c.args.self.now.loans;
      samples = c.args.self.now.samples;
    } in
    numbered_messages (with_subscriber c.args.domain) (λ number made. (refl, refl)) c.room_for_one.new.numbers.next
    c.create_subscriber.ensures.0 roomier c.create_subscriber.result c.create_subscriber.new.self c.create_subscriber.ensures.2
