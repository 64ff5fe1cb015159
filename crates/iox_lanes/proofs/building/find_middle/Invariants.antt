use Rattle.std.proofs.Common.{◌≡◌}
use Rattle.iox_lanes_opening.specs.Middles.{middle_count, middle_words}
use Rattle.iox_lanes.specs.Behind.{behind_findings}
use Rattle.iox_lanes.specs.Failing.{failing}
use Rattle.iox_lanes.specs.Laid.{header_findings}
use Rattle.iox_lanes.proofs.building.find_middle.Given as goal

abbrev pub invariant-loop-word : goal.invariant-loop-word
invariant-loop-word g l = (l.lanes.sizes ≡ l.fn.lanes.sizes) × (failing l.lanes.lanes ≡ failing l.fn.lanes.lanes)
    × (l.lanes.lanes ≡ behind_findings l.fn.lanes.lanes (header_findings (middle_words l.numbered g.U.Words.parts) l.word l.slot
    (l.sequence, l.user_header)))
    × (l.word-end ≡ middle_count l.numbered g.U.Words.WORDS)
