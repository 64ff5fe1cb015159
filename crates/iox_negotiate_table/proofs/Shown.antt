-- A look shows the phase.
use Rattle.std.proofs.Common.{◌≡◌, ℕ, List, Option, None, Some, ◌⊎◌}
use Rattle.iox_negotiate_base.specs.declared.answer.LookAnswer.{LookAnswer}
use Rattle.iox_negotiate_base.specs.declared.answer.LookAnswer.TheVariants as look
use Rattle.iox_negotiate_table.specs.declared.entry.Entry.{Entry}
use Rattle.iox_negotiate_table.specs.declared.entry.Entry.TheVariants.{Locked, Described}
use Rattle.iox_negotiate_table.specs.declared.segment.Segment.{Segment}
use Rattle.iox_negotiate_table.specs.declared.segment.Segment.TheVariants as segment
use Rattle.iox_negotiate_table.specs.Contents.{entry_at, segment_at}
use Rattle.iox_negotiate_table.specs.Phases.{phase_by, described_phase, Shows, LookShowsThePhase}
use Rattle.iox_negotiate_table.specs.Sights.{Looks}

described : (number : ℕ) (bytes : List ℕ) (answer : LookAnswer) (found : Option Segment) → (answer ≡ look.Found number bytes)
    ⊎ (answer ≡ look.OutOfMemory)
    → Shows (described_phase number bytes found) answer
described number bytes answer (Some (segment.Open nodes)) h = h
described number bytes answer (Some (segment.Emptied by)) h = h
described number bytes answer None h = h

by_entry : (answer : LookAnswer) (entry : Option Entry) (segments : ℕ → Option Segment) → Looks entry answer
    → Shows (phase_by entry segments) answer
by_entry answer None segments h = h
by_entry answer (Some (Locked by number)) segments h = h
by_entry answer (Some (Described number bytes)) segments h = described number bytes answer (segments number) h

pub shows : LookShowsThePhase
shows hash answer old new h = (by_entry answer (entry_at hash old) (λ number. segment_at hash number old) h.0, h.1)
