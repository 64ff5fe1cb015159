use Rattle.std.proofs.Common.{◌≡◌, ◌<◌, ◌^◌, length, subst, sym}
use Rattle.iox_lanes_laws.specs.Numbered.{found_messages}
use Rattle.iox_lanes_laws.specs.Recorded.{AreAsHeld, ArePast}
use Rattle.iox_lanes_opening.specs.Middles.{middle_count}
use Rattle.iox_lanes.specs.Exact.{sizes_for}
use Rattle.iox_lanes.specs.Failing.{FailAsAsked}
use Rattle.iox_lanes.specs.Finding.{NothingCameBack}
use Rattle.iox_lanes.specs.Holding.{LanesHold}
use Rattle.iox_lanes.specs.Joined.{IsJoined}
use Rattle.iox_lanes.specs.Spelling.{spelling_of}
use Rattle.iox_lanes.proofs.domain_lanes.into_lanes.Goals as goal

pub returns-in-Ok-clause-lanes : goal.returns-in-Ok-clause-lanes
returns-in-Ok-clause-lanes g c =
    subst (λ made. LanesHold
    (spelling_of c.args.domain.state.ports.sizes.sequence_numbers g.T.Words.parts g.T.Words.WORDS g.U.Words.parts g.U.Words.WORDS)
    c.args.domain made.lanes.lanes
    made.publishers.items made.subscribers.items made.connections.items) (sym c.with.ensures) c.in-Ok.ensures.holds

pub returns-in-Ok-clause-fails : goal.returns-in-Ok-clause-fails
returns-in-Ok-clause-fails g c
    = subst (λ made. FailAsAsked g.B.FixedDecision.decision c.args.domain made.lanes.lanes made.publishers.items) (sym c.with.ensures)
    c.in-Ok.ensures.fails

pub returns-in-Ok-clause-exact : goal.returns-in-Ok-clause-exact
returns-in-Ok-clause-exact g c =
    subst (λ made. NothingCameBack (sizes_for g.T.Words.WORDS
    (middle_count c.args.domain.state.ports.sizes.sequence_numbers g.U.Words.WORDS) c.args.domain.state.ports made.publishers.items
    (length made.subscribers.items)) made.lanes.lanes) (sym c.with.ensures) c.in-Ok.ensures.exact

pub returns-in-Ok-clause-few : goal.returns-in-Ok-clause-few
returns-in-Ok-clause-few g c = subst (λ made. made.lanes.lanes.table.sizes.slots < 2 ^ 64) (sym c.with.ensures) c.in-Ok.ensures.few

pub returns-in-Ok-clause-messages : goal.returns-in-Ok-clause-messages
returns-in-Ok-clause-messages g c
    = subst (λ made. made.lanes.messages ≡ found_messages made.lanes.lanes) (sym c.with.ensures) c.in-Ok.ensures.messages

pub returns-in-Ok-clause-held : goal.returns-in-Ok-clause-held
returns-in-Ok-clause-held g c =
    subst (λ made. AreAsHeld made.lanes.lanes made.lanes.messages × ArePast made.lanes.lanes made.lanes.messages) (sym c.with.ensures)
    c.in-Ok.ensures.held

pub returns-in-Ok-clause-joined : goal.returns-in-Ok-clause-joined
returns-in-Ok-clause-joined g c =
    subst (λ made. IsJoined
    (spelling_of c.args.domain.state.ports.sizes.sequence_numbers g.T.Words.parts g.T.Words.WORDS g.U.Words.parts g.U.Words.WORDS)
    (length made.one.items) made.lanes.lanes c.args.domain.state.ports.publishers made.publishers.items (length made.subscribers.items)
    made.connections.items) (sym c.with.ensures) c.in-Ok.ensures.joined
