use Rattle.std.proofs.Common.{sym, subst}
use Rattle.iox_domain.proofs.Homely.{at_here}
use Rattle.iox_delivery.specs.Domain.Handling.{kept_degrades}
use Rattle.iox_delivery.specs.Domain.Kept.{kept_under}
use Rattle.iox_delivery.specs.Domain.States.{subscriber_handler_in}
use Rattle.iox_delivery.specs.Domain.Steps.{ReceivesBy}
use Rattle.iox_hub_commands.specs.Receiving.{RepliesTo}
use Rattle.iox_hub_commands.proofs.Arrived.{left_at_home, received_held}
use Rattle.iox_hub_commands.proofs.receiving.receive_at.Goals as goal

pub reply_to-requires : goal.reply_to-requires
reply_to-requires g c =
    let domain = c.domain_mut_at-domain.result.now in record {
      held = received_held (kept_degrades (λ kept. g.H.ForSubscribers.Degrades.degrades kept)
          (kept_under c.args.port.number domain.subscriber_handlers)) c.args.port.number domain.ports c.receive-received.new.self.ports
          c.receive-received.result c.receive-received.ensures.receives;
      room = c.requires.room;
      number = c.requires.number;
    }

pub returns : goal.returns
returns g c =
    let port = c.args.port in
    let domain = c.domain_mut_at-domain.result.now in
    let after = c.receive-received.new.self in (
      c.receive-received.result,
      at_here g.H.LendsDomains.domain_of g.H.LendsDomains.changed g.met.H.LendsDomains.alike port.domain
          (λ found. ReceivesBy (kept_degrades (λ kept. g.H.ForSubscribers.Degrades.degrades kept)
          (subscriber_handler_in port.number found)) port.number) c.args.home.now domain after c.receive-received.result
          c.domain_mut_at-domain.ensures.value c.receive-received.ensures.receives c.receive-received.ensures.rest,
      subst (λ found. RepliesTo port found c.receive-received.result c.args.samples.now c.reply_to.result c.reply_to.new.samples)
          (sym (left_at_home g.H.LendsDomains.domain_of g.H.LendsDomains.changed g.met.H.LendsDomains.changed_found port.domain
          c.args.home.now domain after c.domain_mut_at-domain.ensures.value)) c.reply_to.ensures,
    )
