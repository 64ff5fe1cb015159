-- How long a member stays in a container without recoveries: until the party that added it removes it.
use Rattle.std.specs.Prelude.{ℕ, ◌≡◌, ◌+◌, ◌*◌, ◌<◌, Bool, true, false, if◌then◌else◌, ◌==◌, nat_lt, Ok, Err, Option, Some, None, List, []}
use Rattle.std.specs.Prelude.{◌∷◌, ◌++◌, take, drop}
use Rattle.iox_queues_steps.specs.declared.access.Word.TheVariants.{Write, Read, Cell}
use Rattle.iox_queues_steps.specs.declared.access.Access.{Access}
use Rattle.iox_queues_steps.specs.declared.access.Access.TheVariants.{Load, Store, Exchange, Local}
use Rattle.iox_queues.specs.Spans.{EachIsOfCall, Span}
use Rattle.iox_queues.specs.Told.{own}
use Rattle.iox_queues.specs.declared.bits.machine.Event.{Event}
use Rattle.iox_robust_steps.specs.ContainerSteps.{is_shown, member_is_idle, value_cell}
use Rattle.iox_robust_steps.specs.ContainerMachine.{ContainerParts, member_seat}
use Rattle.iox_robust_steps.specs.Told.{Holds}
use Rattle.iox_robust_steps.specs.declared.container.call.ContainerCall.{ContainerCall}
use Rattle.iox_robust_steps.specs.declared.container.call.ContainerCall.TheVariants as stage
use Rattle.iox_robust_steps.specs.declared.container.call.MemberAnswer.{MemberAnswer}
use Rattle.iox_robust_steps.specs.declared.container.call.MemberAnswer.TheVariants.{Added, Removed, Updated}
use Rattle.iox_robust_steps.specs.declared.container.call.MemberCall.{MemberCall}
use Rattle.iox_robust_steps.specs.declared.container.call.MemberCall.TheVariants as call
use Rattle.iox_robust_steps.specs.declared.container.MemberFinished.{MemberFinished}
use Rattle.iox_robust_steps.specs.declared.container.state.MemberSeat.{MemberSeat}

-- The party whose member is at a place, after this access: a store of the place's count adds a member of its own party, or removes one.
abbrev pub stored_by : ℕ → ℕ → Access → Option ℕ → Option ℕ
stored_by place party (Load word) now = now
stored_by place party (Store Write value) now = now
stored_by place party (Store Read value) now = now
stored_by place party (Store (Cell cell) value) now =
    if cell == place then (if is_shown value then Some party else None) else now
stored_by place party (Exchange word old new) now = now
stored_by place party Local now = now

-- The party whose member is at a place, after these further steps.
abbrev pub whose_after : ℕ → Option ℕ → List Event → Option ℕ
whose_after place now [] = now
whose_after place now (event ∷ events) = whose_after place (stored_by place event.party event.access now) events

-- A store is permitted while no member, or one of a party, is at the place: it doesn't remove a member where none is, only the member's own
-- party removes it, no member is added over another one, and no word of the value of a member that is there is stored.
abbrev pub MayBeStored : ℕ → ℕ → ℕ → Option ℕ → ℕ → ℕ → ℕ → Type 0
MayBeStored n width place None party cell value = cell ≡ place → is_shown value ≡ true
MayBeStored n width place (Some owner) party cell value =
    (cell ≡ place → (party ≡ owner) × (is_shown value ≡ false))
    × ((j : ℕ) → j < width → cell ≡ value_cell n width place j → ⊥)

-- A step of a party is permitted: it stores the count of a place or a word of a value as permitted, and it doesn't exchange a cell.
abbrev pub MayBeMade : ℕ → ℕ → ℕ → Option ℕ → ℕ → Access → Type 0
MayBeMade n width place now party (Load word) = Unit {0}
MayBeMade n width place now party (Store Write value) = Unit {0}
MayBeMade n width place now party (Store Read value) = Unit {0}
MayBeMade n width place now party (Store (Cell cell) value) = (cell < n + n * width) × MayBeStored n width place now party cell value
MayBeMade n width place now party (Exchange Write old new) = Unit {0}
MayBeMade n width place now party (Exchange Read old new) = Unit {0}
MayBeMade n width place now party (Exchange (Cell cell) old new) = ⊥
MayBeMade n width place now party Local = Unit {0}

-- A member stays at a place, with the words of its value, until the party that added it removes it, and no member is added over it.
abbrev pub StaysTillTakenOut : ℕ → ℕ → ℕ → Option ℕ → List Event → Type 0
StaysTillTakenOut n width place now [] = Unit {0}
StaysTillTakenOut n width place now (event ∷ events) =
    MayBeMade n width place now event.party event.access
    × StaysTillTakenOut n width place (stored_by place event.party event.access now) events

-- What the count of a place shows: no member is there, or the one of this party, which holds the index according to these steps of the set.
abbrev pub ShowsWhose : ℕ → Option ℕ → ℕ → List Event → Type 0
ShowsWhose place None count events = is_shown count ≡ false
ShowsWhose place (Some party) count events = (is_shown count ≡ true) × Holds party place events

-- A member is added or removed at a place.
pub record Passing : Type 0 where
  pub place : ℕ
  pub comes_in : Bool

-- What a step adds or removes at one of `n` places by storing the place's count; what a recovery removes, by an exchange, isn't listed
-- here.
abbrev pub passed_by : ℕ → Access → List Passing
passed_by n (Load word) = []
passed_by n (Store Write value) = []
passed_by n (Store Read value) = []
passed_by n (Store (Cell cell) value) =
    if nat_lt cell n then record { place = cell; comes_in = is_shown value } ∷ [] else []
passed_by n (Exchange word old new) = []
passed_by n Local = []

-- What these steps add and remove, one after another.
abbrev pub passed_in : ℕ → List Event → List Passing
passed_in n [] = []
passed_in n (event ∷ events) = passed_by n event.access ++ passed_in n events

-- What a call adds or removes, by its result: an addition that isn't refused adds its member at the index that it returns, a removal
-- removes its member at its index, and any other call stores no count.
abbrev pub passed_with : MemberCall → MemberAnswer → List Passing
passed_with (call.Add number owner) (Added (Ok index)) = record { place = index; comes_in = true } ∷ []
passed_with (call.Add number owner) (Added (Err why)) = []
passed_with (call.Add number owner) (Removed state) = []
passed_with (call.Add number owner) (Updated copied) = []
passed_with (call.Remove owner index mode) (Added got) = []
passed_with (call.Remove owner index mode) (Removed state) = record { place = index; comes_in = false } ∷ []
passed_with (call.Remove owner index mode) (Updated copied) = []
passed_with call.Update answer = []
passed_with (call.Recover owner number mode) answer = []

-- What a call in progress has added or removed so far.
abbrev pub passed_so_far : ContainerCall → List Passing
passed_so_far stage.Idle = []
passed_so_far (stage.Enter number owner) = []
passed_so_far (stage.Fill number owner index next) = []
passed_so_far (stage.Show number owner index seen) = []
passed_so_far (stage.Sink owner index mode) = []
passed_so_far (stage.Hide owner index mode seen) = []
passed_so_far (stage.Leave owner index mode) = record { place = index; comes_in = false } ∷ []
passed_so_far (stage.Drop owner index mode) = record { place = index; comes_in = false } ∷ []
passed_so_far (stage.Count c answer) = passed_with c answer
passed_so_far (stage.Raise c answer seen) = passed_with c answer
passed_so_far stage.Look = []
passed_so_far (stage.Visit place) = []
passed_so_far (stage.Gather place seen next) = []
passed_so_far (stage.Search owner number mode) = []
passed_so_far (stage.Watch owner number mode i) = []
passed_so_far (stage.Ask owner number mode i seen) = []
passed_so_far (stage.Expel owner number mode i seen) = []
passed_so_far (stage.Clear owner number mode i) = []
passed_so_far (stage.Close owner number mode) = []
passed_so_far (stage.Done c answer) = passed_with c answer

-- By its own steps, each finished call adds and removes exactly what its result says.
abbrev pub EachLetsPass : ℕ → List Event → List MemberFinished → Type 0
EachLetsPass n events [] = Unit {0}
EachLetsPass n events (f ∷ finished) =
    (passed_in n (own f.party (drop f.first (take f.last events))) ≡ passed_with f.call f.answer) × EachLetsPass n events finished

-- By its own steps, a party's call in progress has added and removed exactly what its stage says.
abbrev pub LetsPassSoFar : ℕ → ContainerCall → List Event → Type 0
LetsPassSoFar n stage events = member_is_idle stage ≡ false → passed_in n events ≡ passed_so_far stage

-- The first and the last step of a finished call.
abbrev pub member_span : MemberFinished → Span
member_span f = record { party = f.party; first = f.first; last = f.last }

-- The first and the last step of each of these calls.
abbrev pub member_spans : List MemberFinished → List Span
member_spans [] = []
member_spans (f ∷ finished) = member_span f ∷ member_spans finished

-- The number of the first step of a party's call in progress, if any.
abbrev pub member_begun_at : MemberSeat → Option ℕ
member_begun_at seat = if member_is_idle seat.stage then None else Some seat.first

-- Each step belongs to exactly one call.
abbrev pub MembersAreOfCalls : ContainerParts → Type 0
MembersAreOfCalls m = EachIsOfCall m.events (member_spans m.finished) (λ (party : ℕ). member_begun_at (member_seat m.seats party))
