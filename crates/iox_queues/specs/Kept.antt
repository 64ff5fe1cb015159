-- The invariant of each step of a set's machine.
use Rattle.std.specs.Prelude.{ℕ, ◌≡◌, ◌+◌, ◌<◌, ◌≤◌, ◌^◌, Bool, true, false, List, length, drop}
use Rattle.std.specs.List.{list_any}
use Rattle.iox_queues.specs.Machine.{SetState, AreTold, IsBalanced, seat_at, stage_at}
use Rattle.iox_queues.specs.Asked.{ChangesByActs, StepsAreOfCalls, IsRecorded}
use Rattle.iox_queues.specs.Sums.{cleared, taken_out}
use Rattle.iox_queues.specs.Told.{AddNone, TakeNone, Tells, finds_none, own}
use Rattle.iox_queues.specs.declared.bits.call.SetCall.{SetCall}
use Rattle.iox_queues.specs.declared.bits.call.SetCall.TheVariants.{Idle, Add, Adding, Next, Sweep, Taking, Found, Done}
use Rattle.iox_queues.specs.declared.bits.machine.Event.{Event}

-- Place `i` is none of the `left` places from `place` on, wrapping around.
abbrev pub IsBehind : ℕ → ℕ → ℕ → ℕ → Type 0
IsBehind n place left i = (place ≤ i → place + left ≤ i) × (i < place → place + left ≤ i + n)

-- A scan with `left` places left raised no count. It found each place that it has passed at 0, or reset it; and it reset none if it
-- is to reset only one.
pub record Sweeps (n : ℕ) (events : List Event) (place : ℕ) (left : ℕ) (capacity : ℕ) (all : Bool) : Type 0 where
  pub whole : capacity ≡ n
  pub there : place < n
  pub few : left ≤ n
  pub adds : AddNone n events
  pub takes : all ≡ false → TakeNone n events
  pub passed : (i : ℕ) → i < n → IsBehind n place left i → list_any (finds_none n i) events ≡ true

-- What a call did by its own steps up to its stage.
abbrev pub Knows : ℕ → ℕ → List Event → SetCall → Type 0
Knows max n events Idle = Unit {0}
Knows max n events (Add place top) = (top ≡ max) × (place < n) × AddNone n events × TakeNone n events
Knows max n events (Adding place top count) =
    (top ≡ max) × (place < n) × AddNone n events × TakeNone n events × (count < max)
Knows max n events (Next capacity) = (capacity ≡ n) × AddNone n events × TakeNone n events
Knows max n events (Sweep place left capacity all) = Sweeps n events place left capacity all
Knows max n events (Taking place left capacity all count) = Sweeps n events place left capacity all × (0 < count)
Knows max n events (Found place after) =
    AddNone n events × (place < n) × (0 < taken_out n place events) × ((i : ℕ) → (place ≡ i → ⊥) → taken_out n i events ≡ 0)
    × (cleared n place events ≡ 1)
Knows max n events (Done c answer) = Tells max n c answer events

-- The invariant: the counts balance, each finished call did what its result says, each call in progress did what its stage says, each step
-- is recorded and belongs to one call, and counts change only by acts.
pub record IsKept (m : SetState) : Type 0 where
  pub balanced : IsBalanced m
  pub told : AreTold m.max (length m.words.cells) m.events m.finished
  pub few : length m.words.cells < 2 ^ 64
  pub small : m.max < 2 ^ 64
  pub knows : (party : ℕ) → Knows m.max (length m.words.cells) (own party (drop (seat_at m.seats party).first m.events))
      (stage_at m.seats party)
  pub began : (party : ℕ) → (seat_at m.seats party).first ≤ length m.events
  pub recorded : IsRecorded m
  pub counted : StepsAreOfCalls m
  pub acts : ChangesByActs m
