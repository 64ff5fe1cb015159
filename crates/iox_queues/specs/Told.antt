-- What the result of a call says of the call's own steps.
use Rattle.std.specs.Prelude.{ℕ, ◌≡◌, ◌%◌, ◌<◌, Bool, true, false, if◌then◌else◌, ◌==◌, ◌&&◌, ◌||◌, nat_lt, nat_le, Some, None, List, []}
use Rattle.std.specs.Prelude.{◌∷◌}
use Rattle.std.specs.List.{list_any}
use Rattle.iox_queues_steps.specs.declared.access.Word.TheVariants.{Write, Read, Cell}
use Rattle.iox_queues_steps.specs.declared.access.Access.{Access}
use Rattle.iox_queues_steps.specs.declared.access.Access.TheVariants.{Load, Store, Exchange, Local}
use Rattle.iox_queues.specs.Sums.{cleared, increments, taken_out, taken_by}
use Rattle.iox_queues.specs.declared.bits.call.Call.{Call}
use Rattle.iox_queues.specs.declared.bits.call.Call.TheVariants as call
use Rattle.iox_queues.specs.declared.bits.call.Answer.{Answer}
use Rattle.iox_queues.specs.declared.bits.call.Answer.TheVariants.{Added, Taken, Swept}
use Rattle.iox_queues.specs.declared.bits.machine.Event.{Event}

-- The steps of one party.
abbrev pub own : ℕ → List Event → List Event
own party [] = []
own party (event ∷ events) = if event.party == party then event ∷ own party events else own party events

-- Whether the result of the access is what place `i` of `n` held.
abbrev pub shows : ℕ → ℕ → Access → Bool
shows n i (Load Write) = false
shows n i (Load Read) = false
shows n i (Load (Cell place)) = place % n == i
shows n i (Store word value) = false
shows n i (Exchange Write old new) = false
shows n i (Exchange Read old new) = false
shows n i (Exchange (Cell place) old new) = place % n == i
shows n i Local = false

-- Whether the step found place `i` at 0, or took out its count.
abbrev pub finds_none : ℕ → ℕ → Event → Bool
finds_none n i event =
    (shows n i event.access && (event.answer == 0)) || nat_lt 0 (taken_by n i event.access event.answer)

-- Whether the step found place `i` at the largest count.
abbrev pub finds_full : ℕ → ℕ → ℕ → Event → Bool
finds_full max n i event = shows n i event.access && nat_le max event.answer

-- The steps raise no count.
abbrev pub AddNone : ℕ → List Event → Type 0
AddNone n events = (i : ℕ) → increments n i events ≡ 0

-- The steps take no count out.
abbrev pub TakeNone : ℕ → List Event → Type 0
TakeNone n events = (i : ℕ) → taken_out n i events ≡ 0

-- For each place, one of the steps found it at 0 or took out its count.
abbrev pub FindEachNone : ℕ → List Event → Type 0
FindEachNone n events = (i : ℕ) → i < n → list_any (finds_none n i) events ≡ true

-- What a call's result says of its steps, in a set of `n` places whose largest count is `max`. A `Set` raised the count of its place by one
-- and changed nothing else, or found its place full. A reset of the next place reset that place once and no other, or found that each place
-- has count 0. A reset of all places reset each place or found that its count is 0, and raised none.
abbrev pub Tells : ℕ → ℕ → Call → Answer → List Event → Type 0
Tells max n (call.Set place) (Added true) events =
    (place < n) × ((i : ℕ) → increments n i events ≡ (if place == i then 1 else 0)) × TakeNone n events
Tells max n (call.Set place) (Added false) events =
    (place < n) × AddNone n events × TakeNone n events × (list_any (finds_full max n place) events ≡ true)
Tells max n (call.Set place) (Taken got) events = ⊥
Tells max n (call.Set place) Swept events = ⊥
Tells max n call.ResetNext (Taken (Some place)) events =
    AddNone n events × (place < n) × (0 < taken_out n place events) × ((i : ℕ) → (place ≡ i → ⊥) → taken_out n i events ≡ 0)
    × (cleared n place events ≡ 1)
Tells max n call.ResetNext (Taken None) events = AddNone n events × TakeNone n events × FindEachNone n events
Tells max n call.ResetNext (Added added) events = ⊥
Tells max n call.ResetNext Swept events = ⊥
Tells max n call.ResetAll Swept events = AddNone n events × FindEachNone n events
Tells max n call.ResetAll (Added added) events = ⊥
Tells max n call.ResetAll (Taken got) events = ⊥
