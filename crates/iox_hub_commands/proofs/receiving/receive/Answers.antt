use Rattle.std.proofs.Common.{◌∙◌, rules, sym}
use Rattle.iox_domain.specs.Homes as homes
use Rattle.iox_hub_commands.proofs.Arrived.{lacks_number, nobody_receives, received_under}
use Rattle.iox_hub_commands.proofs.receiving.receive.Goals as goal

pub returns-in_default-clause-receives : goal.returns-in_default-clause-receives
returns-in_default-clause-receives g c =
    nobody_receives (homes.ports_of g.H.LendsDomains.domain_of) (homes.with_ports g.H.LendsDomains.changed)
    (homes.subscriber_degrades (λ kept. g.H.ForSubscribers.Degrades.degrades kept) g.H.LendsDomains.domain_of) c.args.subscriber
    c.args.made.now c.args.home.now _ c.subscriber.ensures c.in_default.not-Some

pub returns-in_err-room_for_one-clause-receives : goal.returns-in_err-room_for_one-clause-receives
returns-in_err-room_for_one-clause-receives g c =
    lacks_number (homes.ports_of g.H.LendsDomains.domain_of) (homes.with_ports g.H.LendsDomains.changed)
    (homes.subscriber_degrades (λ kept. g.H.ForSubscribers.Degrades.degrades kept) g.H.LendsDomains.domain_of) c.args.subscriber
    c.args.made.now c.room_for_one.new.numbers c.args.home.now _ _ c.in_err-room_for_one.ensures.full
    c.in_err-room_for_one.ensures.unchanged (search rules)

pub returns-clause-receives : goal.returns-clause-receives
returns-clause-receives g c =
    received_under (homes.ports_of g.H.LendsDomains.domain_of) (homes.with_ports g.H.LendsDomains.changed)
    (homes.subscriber_degrades (λ kept. g.H.ForSubscribers.Degrades.degrades kept) g.H.LendsDomains.domain_of) c.args.subscriber
    c.in-Some.port c.args.made.now c.room_for_one.new.numbers c.receive_at.new.samples c.args.home.now c.receive_at.new.home
    c.receive_at.result (sym c.in-Some.is ∙ c.subscriber.ensures) c.room_for_one.ensures.same c.receive_at.ensures
