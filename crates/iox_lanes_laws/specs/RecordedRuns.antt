-- Runs of lanes that keep messages, as runs of the lanes alone.
use Rattle.std.specs.Prelude.{ℕ, ◌≡◌, ◌+◌, ◌⊎◌, true, List, [], ◌∷◌, ◌++◌, length}
use Rattle.iox_lanes_machine.specs.QueuesSteps.Schedule.{count_of}
use Rattle.iox_lanes_machine.specs.QueuesSteps.declared.schedule.Stepped.{Stepped}
use Rattle.iox_lanes_machine.specs.LanesParties.declared.call.Entry.{Entry}
use Rattle.iox_lanes_machine.specs.LanesParties.declared.call.Move.{Move}
use Rattle.iox_lanes_machine.specs.LanesParties.declared.call.Party.{Party}
use Rattle.iox_lanes_machine.specs.World.{World, RunsTo, fits, happens}
use Rattle.iox_lanes_laws.specs.Messages.{MessageState}
use Rattle.iox_lanes_laws.specs.Recorded.{RecordState, RecordsTo, RecordsRun, recorded_after}
use Rattle.iox_lanes_laws.specs.WholeMessages.{SendsThrough}

-- The first list is part of the second, in the same order.
abbrev pub AreSomeOf : List Entry → List Entry → Type 0
AreSomeOf [] entries = Unit {0}
AreSomeOf (one ∷ some) [] = ⊥
AreSomeOf (one ∷ some) (entry ∷ entries) = ((one ≡ entry) × AreSomeOf some entries) ⊎ AreSomeOf (one ∷ some) entries

-- The run is one of the lanes alone, by exactly those of its entries that were made, in their order, as many as the run answers. The
-- messages whose sends these entries began are appended to the others.
pub record IsRunOfLanes (r : RecordState) (entries : List Entry) (made : ℕ) (n : RecordState) : Type 0 where
  pub steps : List Entry
  pub some_of : AreSomeOf steps entries
  pub count : length steps ≡ made
  pub runs : RunsTo r.lanes steps made n.lanes
  pub sent : List MessageState
  pub through : SendsThrough r.lanes steps sent n.lanes
  pub kept : n.messages ≡ r.messages ++ sent

-- A run of lanes that keep messages is a run of the lanes alone, as `IsRunOfLanes` says.
abbrev pub RecordsRunLanes : Type 0
RecordsRunLanes = (r : RecordState) (entries : List Entry) (made : ℕ) (n : RecordState) → RecordsRun r entries made n
    → IsRunOfLanes r entries made n

-- A step is a run of one entry, whatever it answers.
abbrev pub RecordedStepsAreRuns : Type 0
RecordedStepsAreRuns = (r : RecordState) (party : Party) (step : Move) (answer : Stepped) (n : RecordState)
    → RecordsTo r party step answer n → RecordsRun r (record { party = party; step = step } ∷ []) (count_of answer) n

-- A run, and another one that goes on from its end, are one run.
abbrev pub RecordedRunsFollow : Type 0
RecordedRunsFollow = (r : RecordState) (entries : List Entry) (made : ℕ) (m : RecordState) (more : List Entry) (count : ℕ)
    (n : RecordState) → RecordsRun r entries made m → RecordsRun m more count n → RecordsRun r (entries ++ more) (made + count) n

-- Each of these entries fits when its turn comes, and is made.
abbrev pub AllGo : World → List Entry → World → Type 0
AllGo m [] n = n ≡ m
AllGo m (entry ∷ entries) n = (fits m entry.party entry.step ≡ true) × AllGo (happens m entry.party entry.step) entries n

-- Each of these entries fits when its turn comes, and is made on lanes that keep messages.
abbrev pub AllAreRecorded : RecordState → List Entry → RecordState → Type 0
AllAreRecorded r [] n = n ≡ r
AllAreRecorded r (entry ∷ entries) n =
    (fits r.lanes entry.party entry.step ≡ true) × AllAreRecorded (recorded_after r entry.party entry.step) entries n

-- A run that made as many entries as it has made each of them.
abbrev pub FullRunsGo : Type 0
FullRunsGo = (m : World) (entries : List Entry) (n : World) → RunsTo m entries (length entries) n → AllGo m entries n

-- A run of lanes that keep messages, if it made as many entries as it has, made each of them.
abbrev pub FullRunsAreRecorded : Type 0
FullRunsAreRecorded = (r : RecordState) (entries : List Entry) (n : RecordState) → RecordsRun r entries (length entries) n
    → AllAreRecorded r entries n
