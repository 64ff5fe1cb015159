use Rattle.std.proofs.Common.{◌≡◌, ◌++◌, ◌*◌, ◌<◌, ℕ, Some, length, slice_get, take, drop}
use Rattle.iox_domain.specs.DomainPorts.Publishers.{port_of}
use Rattle.iox_domain.specs.DomainPorts.declared.publisher_port.PublisherPort.{PublisherPort}
use Rattle.iox_lanes.specs.Alone.{KeepAloneAt}
use Rattle.iox_lanes.specs.Failing.{asked, failing}
use Rattle.iox_lanes.specs.Joined.{row_of}
use Rattle.iox_lanes.specs.Laid.{publishers_behind}
use Rattle.iox_lanes.specs.Spelling.{spelling_of}
use Rattle.iox_lanes.specs.Tied.{ties_for}
use Rattle.iox_lanes.proofs.building.find_publishers.Given as goal

abbrev pub invariant-loop-place : goal.invariant-loop-place
invariant-loop-place g l = (l.lanes.sizes ≡ l.fn.lanes.sizes)
    × (failing l.lanes.lanes ≡ take l.place (asked g.B.FixedDecision.decision l.domain.state.publisher_handlers l.publishers)
    ++ drop l.place (failing l.fn.lanes.lanes))
    × (length l.connections.items ≡ l.place * length l.subscribers)
    × ((at : ℕ) → at < l.place → (number : ℕ) (port : PublisherPort g.row.T.Denot g.row.U.Denot)
    → slice_get l.publishers at ≡ Some number → port_of number l.domain.state.ports.publishers ≡ Some port
    → row_of (length l.subscribers) l.connections.items at ≡ ties_for l.domain.state.ports.subscribers l.subscribers port)
    × (l.lanes.lanes ≡ publishers_behind g.B.FixedDecision.decision
    (spelling_of l.domain.state.ports.sizes.sequence_numbers g.T.Words.parts g.T.Words.WORDS g.U.Words.parts g.U.Words.WORDS)
    l.domain l.publishers
    l.subscribers l.fn.lanes.lanes l.place)
    × ((k : ℕ) → k < l.place → KeepAloneAt l.domain.state.ports l.publishers l.subscribers k)
