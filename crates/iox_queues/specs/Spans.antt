-- Which steps belong to which calls, for calls of any kind, by the numbers of their first and their last step.
use Rattle.std.specs.Prelude.{ℕ, ◌≡◌, ◌+◌, ◌<◌, Bool, true, false, if◌then◌else◌, ◌==◌, ◌&&◌, Option, Some, None, List, [], ◌∷◌}
use Rattle.std.specs.Prelude.{◌++◌, length, take, drop}
use Rattle.iox_queues_steps.specs.declared.access.Access.{Access}
use Rattle.iox_queues_steps.specs.declared.access.Access.TheVariants.{Load, Store, Exchange, Local}
use Rattle.iox_queues.specs.Told.{own}
use Rattle.iox_queues.specs.Recorded.{LiesWithin}
use Rattle.iox_queues.specs.declared.bits.machine.Event.{Event}

-- A finished call: its party, and the numbers of its first and its last step.
pub record Span : Type 0 where
  pub party : ℕ
  pub first : ℕ
  pub last : ℕ

-- The steps of a finished call, from its first to its last one, if it is of this party.
abbrev pub span_of : ℕ → List Event → Span → List Event
span_of party events s = if s.party == party then own party (drop s.first (take (s.last + 1) events)) else []

-- The steps of a party's finished calls, one call after another.
abbrev pub spans : ℕ → List Event → List Span → List Event
spans party events [] = []
spans party events (s ∷ ended) = span_of party events s ++ spans party events ended

-- The steps of a party's call in progress, if there is one, from its first step on.
abbrev pub span_in_hand : ℕ → List Event → Option ℕ → List Event
span_in_hand party events None = []
span_in_hand party events (Some first) = own party (drop first events)

-- Whether the access touches no word.
abbrev pub is_local : Access → Bool
is_local (Load word) = false
is_local (Store word value) = false
is_local (Exchange word old new) = false
is_local Local = true

-- The number of a step, if it is a local one of this party.
abbrev pub local_number : ℕ → ℕ → Event → List ℕ
local_number party number event = if (event.party == party) && is_local event.access then number ∷ [] else []

-- The numbers of a party's local steps, where the first of all these steps has the number `from`.
abbrev pub local_numbers : ℕ → ℕ → List Event → List ℕ
local_numbers party from [] = []
local_numbers party from (event ∷ events) = local_number party from event ++ local_numbers party (from + 1) events

-- The numbers of the first and the last step of a finished call, if it is of this party.
abbrev pub bounds_of : ℕ → Span → List ℕ
bounds_of party s = if s.party == party then s.first ∷ s.last ∷ [] else []

-- The numbers of the first and the last step of each of a party's finished calls, one call after another.
abbrev pub bounds : ℕ → List Span → List ℕ
bounds party [] = []
bounds party (s ∷ ended) = bounds_of party s ++ bounds party ended

-- The number of the first step of a party's call in progress, if there is one.
abbrev pub bound_in_hand : Option ℕ → List ℕ
bound_in_hand None = []
bound_in_hand (Some first) = first ∷ []

-- Each of these calls lies within the steps made.
abbrev pub AreWithin : List Event → List Span → Type 0
AreWithin events [] = Unit {0}
AreWithin events (s ∷ ended) = LiesWithin events s.first s.last × AreWithin events ended

-- Each step belongs to exactly one call: the steps of a party are those of its calls, one call after another, and its local steps are
-- exactly the first and the last one of each call. So every finished call has two local steps, and a call in progress has one.
pub record AreOfCalls (events : List Event) (ended : List Span) (going : ℕ → Option ℕ) : Type 0 where
  pub steps : (party : ℕ) → own party events ≡ spans party events ended ++ span_in_hand party events (going party)
  pub locals : (party : ℕ) → local_numbers party 0 events ≡ bounds party ended ++ bound_in_hand (going party)
  pub within : AreWithin events ended
  pub begun : (party first : ℕ) → going party ≡ Some first → first < length events

-- Each step belongs to exactly one call: the steps of a party are those of its calls, one call after another.
pub record EachIsOfCall (events : List Event) (ended : List Span) (going : ℕ → Option ℕ) : Type 0 where
  pub steps : (party : ℕ) → own party events ≡ spans party events ended ++ span_in_hand party events (going party)
  pub within : AreWithin events ended
  pub begun : (party first : ℕ) → going party ≡ Some first → first < length events

-- One event was appended, and this party made it.
pub record AddsOne (before after : List Event) (party : ℕ) : Type 0 where
  pub event : Event
  pub added : after ≡ before ++ event ∷ []
  pub its : event.party ≡ party
