use Rattle.std.proofs.Common.{ℕ, ◌≡◌, ◌<◌, take}
use Rattle.iox_domain.specs.DomainPorts.Ports.{connection_of}
use Rattle.iox_lanes.specs.Alone.{IsAloneAt}
use Rattle.iox_lanes.specs.Behind.{behind_findings}
use Rattle.iox_lanes.specs.Failing.{failing}
use Rattle.iox_lanes.specs.Laid.{waiting_findings}
use Rattle.iox_lanes.specs.Spelling.{spelling_of}
use Rattle.iox_lanes.proofs.building.find_waiting.Given as goal

abbrev pub invariant-loop-at : goal.invariant-loop-at
invariant-loop-at g l = (l.lanes.sizes ≡ l.fn.lanes.sizes) × (failing l.lanes.lanes ≡ failing l.fn.lanes.lanes)
    × (l.lanes.lanes ≡ behind_findings l.fn.lanes.lanes
    (waiting_findings (spelling_of l.numbered g.T.Words.parts g.T.Words.WORDS g.U.Words.parts g.U.Words.WORDS)
    l.place l.other l.first l.port
    (take l.at (connection_of l.index l.port).waiting)))
    × ((k : ℕ) → k < l.at → IsAloneAt l.port (connection_of l.index l.port).waiting k)
