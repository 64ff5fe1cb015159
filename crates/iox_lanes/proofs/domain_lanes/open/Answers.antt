use Rattle.std.proofs.Common.{◌≡◌, ◌<◌, ◌^◌, length, refl, subst, sym}
use Rattle.iox_lanes_laws.specs.Numbered.{found_messages}
use Rattle.iox_lanes_machine.specs.Resting.{AllBetween}
use Rattle.iox_lanes_machine.specs.WholeReads.{CameTo}
use Rattle.iox_lanes_opening.specs.Middles.{middle_count}
use Rattle.iox_lanes.specs.Exact.{sizes_for}
use Rattle.iox_lanes.specs.Failing.{FailAsAsked}
use Rattle.iox_lanes.specs.Finding.{NothingCameBack}
use Rattle.iox_lanes.specs.Holding.{LanesHold}
use Rattle.iox_lanes.specs.Joined.{IsJoined}
use Rattle.iox_lanes.specs.Sized.{AreSized}
use Rattle.iox_lanes.specs.Spelling.{spelling_of}
use Rattle.iox_lanes.proofs.Built.{few_slots}
use Rattle.iox_lanes.proofs.Holds.{lanes_hold}
use Rattle.iox_lanes.proofs.Joins.{are_joined}
use Rattle.iox_lanes.proofs.domain_lanes.open.Goals as goal

pub returns-clause-holds : goal.returns-clause-holds
returns-clause-holds g c =
    subst (λ made. LanesHold
    (spelling_of c.args.domain.now.state.ports.sizes.sequence_numbers g.T.Words.parts g.T.Words.WORDS g.U.Words.parts g.U.Words.WORDS)
    c.args.domain.now
    made.lanes.lanes
    made.publishers.items made.subscribers.items made.connections.items) (sym c.in_ok-kept.ensures.made)
    (lanes_hold g.B.FixedDecision.decision g.D.AsksCaller.asks
    (spelling_of c.args.domain.now.state.ports.sizes.sequence_numbers g.T.Words.parts g.T.Words.WORDS g.U.Words.parts g.U.Words.WORDS)
    c.args.domain.now
    c.in_ok-opened.opened.publishers.items c.in_ok-opened.opened.subscribers.items c.in_ok-opened.opened.connections.items
    c.in_ok-opened.opened.lanes c.in_ok-opened.ensures.built c.requires c.in_ok-opened.ensures.publishers
    c.in_ok-opened.ensures.subscribers c.in_ok-opened.ensures.ties)

pub returns-clause-joined : goal.returns-clause-joined
returns-clause-joined g c =
    subst (λ made. IsJoined
    (spelling_of c.args.domain.now.state.ports.sizes.sequence_numbers g.T.Words.parts g.T.Words.WORDS g.U.Words.parts g.U.Words.WORDS)
    (length made.one.items) made.lanes.lanes
    c.args.domain.now.state.ports.publishers made.publishers.items (length made.subscribers.items) made.connections.items)
    (sym c.in_ok-kept.ensures.made)
    (are_joined g.B.FixedDecision.decision g.D.AsksCaller.asks
    (spelling_of c.args.domain.now.state.ports.sizes.sequence_numbers g.T.Words.parts g.T.Words.WORDS g.U.Words.parts g.U.Words.WORDS)
    c.args.domain.now c.in_ok-opened.opened.lanes
    c.in_ok-opened.opened.publishers.items c.in_ok-opened.opened.subscribers.items c.in_ok-opened.opened.connections.items c.requires
    c.in_ok-opened.ensures.sized
    (lanes_hold g.B.FixedDecision.decision g.D.AsksCaller.asks
    (spelling_of c.args.domain.now.state.ports.sizes.sequence_numbers g.T.Words.parts g.T.Words.WORDS g.U.Words.parts g.U.Words.WORDS)
    c.args.domain.now
    c.in_ok-opened.opened.publishers.items c.in_ok-opened.opened.subscribers.items c.in_ok-opened.opened.connections.items
    c.in_ok-opened.opened.lanes c.in_ok-opened.ensures.built c.requires c.in_ok-opened.ensures.publishers
    c.in_ok-opened.ensures.subscribers c.in_ok-opened.ensures.ties)
    (length c.in_ok-opened.opened.one.items) c.in_ok-opened.ensures.some c.in_ok-opened.ensures.ties)

pub returns-clause-came : goal.returns-clause-came
returns-clause-came g c = subst (λ made. CameTo made.lanes.lanes) (sym c.in_ok-kept.ensures.made) c.in_ok-opened.ensures.came

pub returns-clause-between : goal.returns-clause-between
returns-clause-between g c = subst (λ made. AllBetween made.lanes.lanes) (sym c.in_ok-kept.ensures.made) c.in_ok-opened.ensures.between

pub returns-clause-sized : goal.returns-clause-sized
returns-clause-sized g c =
    subst (λ made. AreSized c.args.domain.now.state.ports.sizes (length made.publishers.items) (length made.subscribers.items)
    g.T.Words.WORDS (middle_count c.args.domain.now.state.ports.sizes.sequence_numbers g.U.Words.WORDS) made.lanes.lanes)
    (sym c.in_ok-kept.ensures.made) c.in_ok-opened.ensures.sized

pub returns-clause-exact : goal.returns-clause-exact
returns-clause-exact g c =
    subst (λ made. NothingCameBack (sizes_for g.T.Words.WORDS (middle_count c.args.domain.now.state.ports.sizes.sequence_numbers
    g.U.Words.WORDS) c.args.domain.now.state.ports made.publishers.items
    (length made.subscribers.items)) made.lanes.lanes) (sym c.in_ok-kept.ensures.made) c.in_ok-opened.ensures.exact

pub returns-clause-fails : goal.returns-clause-fails
returns-clause-fails g c =
    subst (λ made. FailAsAsked g.B.FixedDecision.decision c.args.domain.now made.lanes.lanes made.publishers.items) (sym
    c.in_ok-kept.ensures.made)
    c.in_ok-opened.ensures.fails

pub returns-clause-few : goal.returns-clause-few
returns-clause-few g c =
    subst (λ made. made.lanes.lanes.table.sizes.slots < 2 ^ 64) (sym c.in_ok-kept.ensures.made)
    (few_slots g.B.FixedDecision.decision
    (spelling_of c.args.domain.now.state.ports.sizes.sequence_numbers g.T.Words.parts g.T.Words.WORDS g.U.Words.parts g.U.Words.WORDS)
    c.args.domain.now
    c.in_ok-opened.opened.publishers.items c.in_ok-opened.opened.subscribers.items c.in_ok-opened.opened.lanes
    c.in_ok-opened.ensures.built)

pub returns-clause-messages : goal.returns-clause-messages
returns-clause-messages g c =
    subst (λ made. made.lanes.messages ≡ found_messages made.lanes.lanes) (sym c.in_ok-kept.ensures.made) refl
