-- The outcomes of the steps of a machine with parties, for machines of any kind.
use Rattle.std.specs.Prelude.{ℕ, ◌≡◌, ◌+◌, ◌⊎◌, Bool, true, false, Option, Some, None, List, [], ◌∷◌, ◌++◌}
use Rattle.iox_queues_steps.specs.declared.schedule.Stepped.{Stepped}
use Rattle.iox_queues_steps.specs.declared.schedule.Stepped.TheVariants as stepped
use Rattle.iox_queues.specs.Spans.{AddsOne}
use Rattle.iox_queues.specs.declared.bits.machine.Event.{Event}

-- The outcome of a step and the machine after it, given which steps are possible, which are the last of their call, and what they do.
abbrev pub StepsBy : {M S : Type 0} → (M → S → Bool) → (M → S → Bool) → (M → S → M) → M → S → Stepped → M → Type 0
StepsBy fits ends happens m step stepped.Went n = (fits m step ≡ true) × (ends m step ≡ false) × (n ≡ happens m step)
StepsBy fits ends happens m step stepped.Finished n = (fits m step ≡ true) × (ends m step ≡ true) × (n ≡ happens m step)
StepsBy fits ends happens m step stepped.Skipped n = (fits m step ≡ false) × (n ≡ m)
StepsBy fits ends happens m step stepped.NoMemory n = (fits m step ≡ true) × (n ≡ m)

-- A list of steps of which `made` were made and the others were skipped; it may stop where memory for a possible step runs out.
abbrev pub RunsBy : {M S : Type 0} → (M → S → Bool) → (M → S → M) → M → List S → ℕ → M → Type 0
RunsBy fits happens m [] made n = (made ≡ 0) × (n ≡ m)
RunsBy fits happens m (step ∷ steps) made n =
    ((fits m step ≡ false) × RunsBy fits happens m steps made n)
    ⊎ (((fits m step ≡ true) × ((fewer : ℕ) × (made ≡ fewer + 1) × RunsBy fits happens (happens m step) steps fewer n))
    ⊎ ((fits m step ≡ true) × (made ≡ 0) × (n ≡ m)))

-- The calls in progress before and after a step of one party: afterwards this party is in the call `hand`, and the others are in the same
-- calls as before.
pub record LeavesCalls (C : Type 0) (before after : ℕ → Option C) (party : ℕ) (hand : Option C) : Type 0 where
  pub its : after party ≡ hand
  pub others : (q : ℕ) → (q ≡ party → ⊥) → after q ≡ before q

-- Where a machine of type `M` records its calls: the steps made, the finished calls, the party and the call of each of them, and the call
-- that each party has in progress.
pub record CallsOf (M C F : Type 0) : Type 0 where
  pub events : M → List Event
  pub finished : M → List F
  pub whose : F → ℕ
  pub which : F → C
  pub hands : M → ℕ → Option C

-- One more call finished: it is this party's, and it is the call that the party had in progress.
pub record EndsOne (C F : Type 0) (whose : F → ℕ) (which : F → C) (before after : List F) (party : ℕ) (hand : Option C) : Type 0 where
  pub ended : F
  pub added : after ≡ before ++ ended ∷ []
  pub its : whose ended ≡ party
  pub is : hand ≡ Some (which ended)

-- A step that was made is one event of the requested party, whose call is `hand`. The last step of the call finishes it, and leaves the
-- party in no call; any other step leaves the party in it.
abbrev pub TellsCalls : (M C F : Type 0) → CallsOf M C F → M → ℕ → Option C → Stepped → M → Type 0
TellsCalls M C F of m party hand stepped.Went n =
    AddsOne (of.events m) (of.events n) party × LeavesCalls C (of.hands m) (of.hands n) party hand × (of.finished n ≡ of.finished m)
TellsCalls M C F of m party hand stepped.Finished n =
    AddsOne (of.events m) (of.events n) party × LeavesCalls C (of.hands m) (of.hands n) party None
    × EndsOne C F of.whose of.which (of.finished m) (of.finished n) party hand
TellsCalls M C F of m party hand stepped.Skipped n = n ≡ m
TellsCalls M C F of m party hand stepped.NoMemory n = n ≡ m
