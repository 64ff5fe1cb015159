use Rattle.std.proofs.Common.{ℕ, ◌≡◌, ◌<◌, take}
use Rattle.iox_lanes.specs.Alone.{IsAloneAt}
use Rattle.iox_lanes.specs.Behind.{behind_findings}
use Rattle.iox_lanes.specs.Failing.{failing}
use Rattle.iox_lanes.specs.Laid.{history_findings}
use Rattle.iox_lanes.specs.Spelling.{spelling_of}
use Rattle.iox_lanes.proofs.building.find_history.Given as goal

abbrev pub invariant-loop-at : goal.invariant-loop-at
invariant-loop-at g l = (l.lanes.sizes ≡ l.fn.lanes.sizes) × (failing l.lanes.lanes ≡ failing l.fn.lanes.lanes)
    × (l.lanes.lanes ≡ behind_findings l.fn.lanes.lanes
    (history_findings (spelling_of l.numbered g.T.Words.parts g.T.Words.WORDS g.U.Words.parts g.U.Words.WORDS) l.place l.first l.port
    (take l.at l.port.sender.uses.history)))
    × ((k : ℕ) → k < l.at → IsAloneAt l.port l.port.sender.uses.history k)
