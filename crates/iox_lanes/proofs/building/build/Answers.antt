use Rattle.std.proofs.Common.{rules, ◌≡◌, length, subst, ◌∙◌, ap}
use Rattle.iox_lanes_opening.specs.Middles.{middle_count}
use Rattle.iox_lanes.specs.Alone.{KeepAlone}
use Rattle.iox_lanes.specs.Built.{HaveSlots}
use Rattle.iox_lanes.specs.Failing.{asked, failing}
use Rattle.iox_lanes.specs.Laid.{publishers_behind}
use Rattle.iox_lanes.specs.Ordered.{readers_behind}
use Rattle.iox_lanes.specs.Sized.{AreAgreed}
use Rattle.iox_lanes.specs.Spelling.{spelling_of}
use Rattle.iox_lanes.proofs.Built.{are_built}
use Rattle.iox_lanes.proofs.Exact.{are_exact}
use Rattle.iox_lanes.proofs.Presence.{are_there}
use Rattle.iox_lanes.proofs.Sizing.{built}
use Rattle.iox_lanes.proofs.building.build.Goals as goal

-- src/building.rt:22:1
pub returns-clause-sized : goal.returns-clause-sized
returns-clause-sized g c =
    let publishers : length c.in_ok-publishers.publishers.items ≡ c.len.result = search rules in
    let subscribers : length c.in_ok-subscribers.subscribers.items ≡ c.len-2.result = search rules in
    rw (publishers, subscribers) (built _ _ _ _ _ c.sizes_of.result _ c.into_lanes.result c.sizes_of.ensures.agreed
    c.into_lanes.ensures.found.was (search rules))

pub returns-clause-exact : goal.returns-clause-exact
returns-clause-exact g c =
    let counted : c.deref.result.now ≡ c.in_ok-publishers.publishers.items = search rules in
    let publishers : c.len.result ≡ length c.in_ok-publishers.publishers.items = search rules in
    let subscribers : c.len-2.result ≡ length c.in_ok-subscribers.subscribers.items = search rules in
    are_exact g.T.Words.WORDS (middle_count c.args.domain.now.state.ports.sizes.sequence_numbers g.U.Words.WORDS)
    c.args.domain.now.state.ports c.sizes_of.result _ c.deref.result.now
    c.in_ok-publishers.publishers.items c.len.result c.len-2.result (length c.in_ok-subscribers.subscribers.items) c.into_lanes.result
    c.sizes_of.ensures.exact counted publishers subscribers c.into_lanes.ensures.found (search rules)

pub find_publishers-requires-clause-there : goal.find_publishers-requires-clause-there
find_publishers-requires-clause-there g c = are_there g.B.FixedDecision.decision g.D.AsksCaller.asks c.args.domain.now c.deref-2.result.now
    c.requires (search rules)

pub returns-clause-fails : goal.returns-clause-fails
returns-clause-fails g c =
    let same : c.deref-2.result.now ≡ c.in_ok-publishers.publishers.items = search rules in
    ap failing c.into_lanes.ensures.lanes ∙ c.find_orders.ensures.fails ∙ c.in_ok-find_publishers.ensures.fails
    ∙ ap (asked g.B.FixedDecision.decision c.args.domain.now.state.publisher_handlers) same

pub returns-clause-ties : goal.returns-clause-ties
returns-clause-ties g c =
    let publishers : c.deref-2.result.now ≡ c.in_ok-publishers.publishers.items = search rules in
    let subscribers : c.deref-3.result.now ≡ c.in_ok-subscribers.subscribers.items = search rules in
    rw publishers at (rw subscribers at c.in_ok-find_publishers.ensures.ties)

pub returns-clause-built : goal.returns-clause-built
returns-clause-built g c =
    let counted : c.deref.result.now ≡ c.in_ok-publishers.publishers.items = search rules in
    let publishers : c.deref-2.result.now ≡ c.in_ok-publishers.publishers.items = search rules in
    let subscribers : c.deref-3.result.now ≡ c.in_ok-subscribers.subscribers.items = search rules in
    let ordered : c.deref-4.result.now ≡ c.in_ok-publishers.publishers.items = search rules in
    let ordering : c.deref-5.result.now ≡ c.in_ok-subscribers.subscribers.items = search rules in
    let publisher_count : c.len.result ≡ length c.in_ok-publishers.publishers.items = search rules in
    let subscriber_count : c.len-2.result ≡ length c.in_ok-subscribers.subscribers.items = search rules in
    are_built g.B.FixedDecision.decision
    (spelling_of c.args.domain.now.state.ports.sizes.sequence_numbers g.T.Words.parts g.T.Words.WORDS g.U.Words.parts g.U.Words.WORDS)
    c.args.domain.now
    c.in_ok-publishers.publishers.items
    c.in_ok-subscribers.subscribers.items c.sizes_of.result _
    c.in_ok-lanes.lanes.lanes c.find_publishers.new.lanes.lanes c.find_orders.new.lanes.lanes c.into_lanes.result
    (subst (λ n. AreAgreed c.args.domain.now.state.ports.sizes n (length c.in_ok-subscribers.subscribers.items) g.T.Words.WORDS
    (middle_count c.args.domain.now.state.ports.sizes.sequence_numbers g.U.Words.WORDS) c.sizes_of.result) publisher_count
    (subst (λ n. AreAgreed c.args.domain.now.state.ports.sizes c.len.result n g.T.Words.WORDS
    (middle_count c.args.domain.now.state.ports.sizes.sequence_numbers g.U.Words.WORDS) c.sizes_of.result)
    subscriber_count c.sizes_of.ensures.agreed))
    c.into_lanes.ensures.found.was (search rules)
    (subst (λ p. HaveSlots c.args.domain.now.state.ports.publishers p c.sizes_of.result.slots) counted c.sizes_of.ensures.room)
    c.in_ok-lanes.ensures.small
    (subst (λ s. KeepAlone c.args.domain.now.state.ports c.in_ok-publishers.publishers.items s) subscribers
    (subst (λ p. KeepAlone c.args.domain.now.state.ports p c.deref-3.result.now) publishers c.in_ok-find_publishers.ensures.alone))
    c.in_ok-lanes.ensures.start
    (subst (λ s. c.find_publishers.new.lanes.lanes
    ≡ publishers_behind g.B.FixedDecision.decision
    (spelling_of c.args.domain.now.state.ports.sizes.sequence_numbers g.T.Words.parts g.T.Words.WORDS g.U.Words.parts g.U.Words.WORDS)
    c.args.domain.now
    c.in_ok-publishers.publishers.items s c.in_ok-lanes.lanes.lanes (length c.in_ok-publishers.publishers.items)) subscribers
    (subst (λ p. c.find_publishers.new.lanes.lanes
    ≡ publishers_behind g.B.FixedDecision.decision
    (spelling_of c.args.domain.now.state.ports.sizes.sequence_numbers g.T.Words.parts g.T.Words.WORDS g.U.Words.parts g.U.Words.WORDS)
    c.args.domain.now p
    c.deref-3.result.now
    c.in_ok-lanes.lanes.lanes (length p)) publishers c.in_ok-find_publishers.ensures.behind))
    (subst (λ s. c.find_orders.new.lanes.lanes
    ≡ readers_behind c.in_ok-publishers.publishers.items c.args.domain.now.state.ports.subscribers s
    c.find_publishers.new.lanes.lanes (length s)) ordering
    (subst (λ p. c.find_orders.new.lanes.lanes
    ≡ readers_behind p c.args.domain.now.state.ports.subscribers c.deref-5.result.now c.find_publishers.new.lanes.lanes
    (length c.deref-5.result.now)) ordered c.in_ok-find_orders.ensures.behind))
    c.into_lanes.ensures.lanes
