use Rattle.std.proofs.Common.{ℕ, ◌≡◌, ◌<◌, ◌++◌, take, slice_index}
use Rattle.iox_domain.specs.DomainPorts.Ports.{connection_of}
use Rattle.iox_domain.specs.Subscribers.{subscriber_of}
use Rattle.iox_lanes.specs.Alone.{AreAlone}
use Rattle.iox_lanes.specs.Behind.{behind_findings}
use Rattle.iox_lanes.specs.Failing.{failing}
use Rattle.iox_lanes.specs.Laid.{flat_listed, link_findings}
use Rattle.iox_lanes.specs.Spelling.{spelling_of}
use Rattle.iox_lanes.specs.Tied.{tie_for, ties_for}
use Rattle.iox_lanes.proofs.building.find_connections.Given as goal

abbrev pub invariant-loop-other : goal.invariant-loop-other
invariant-loop-other g l = (l.lanes.sizes ≡ l.fn.lanes.sizes) × (failing l.lanes.lanes ≡ failing l.fn.lanes.lanes)
    × (l.connections.items ≡ l.fn.connections.items ++ ties_for l.domain.state.ports.subscribers (take l.other l.subscribers) l.port)
    × (l.lanes.lanes ≡ behind_findings l.fn.lanes.lanes
    (flat_listed (λ other. link_findings
    (spelling_of l.domain.state.ports.sizes.sequence_numbers g.T.Words.parts g.T.Words.WORDS g.U.Words.parts g.U.Words.WORDS)
    l.place other l.first
    l.port (tie_for l.port (subscriber_of (slice_index l.subscribers other) l.domain.state.ports.subscribers))) l.other))
    × ((k : ℕ) → k < l.other → AreAlone l.port
    (connection_of (tie_for l.port (subscriber_of (slice_index l.subscribers k) l.domain.state.ports.subscribers)) l.port).waiting)
