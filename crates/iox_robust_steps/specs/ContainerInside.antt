-- How long a member stays in a container, whoever is recovered: until the party that added it removes it, or a recovery does.
use Rattle.std.specs.Prelude.{ℕ, ◌≡◌, ◌+◌, ◌*◌, ◌<◌, true, false, if◌then◌else◌, ◌==◌, ◌&&◌, Option, Some, None, List, [], ◌∷◌, take, drop}
use Rattle.iox_queues_steps.specs.Access.{RingWords}
use Rattle.iox_queues_steps.specs.declared.access.Word.TheVariants.{Write, Read, Cell}
use Rattle.iox_queues_steps.specs.declared.access.Access.{Access}
use Rattle.iox_queues_steps.specs.declared.access.Access.TheVariants.{Load, Store, Exchange, Local}
use Rattle.iox_queues.specs.Told.{own}
use Rattle.iox_queues.specs.declared.bits.machine.Event.{Event}
use Rattle.iox_robust_steps.specs.ContainerSteps.{is_shown}
use Rattle.iox_robust_steps.specs.ContainerStays.{MayBeStored}
use Rattle.iox_robust_steps.specs.ContainerThroughout.{IfCopied, IsSoUpTo, ShowsStaying}
use Rattle.iox_robust_steps.specs.ContainerTold.{shown_at}
use Rattle.iox_robust_steps.specs.declared.container.MemberFinished.{MemberFinished}

-- The party whose member is at a place, after a step with this result: a step that stores the place's count adds a member of its own party
-- or removes one, and a successful exchange of the count removes one.
abbrev pub inside_by : ℕ → ℕ → Access → ℕ → Option ℕ → Option ℕ
inside_by place party (Load word) answer now = now
inside_by place party (Store Write value) answer now = now
inside_by place party (Store Read value) answer now = now
inside_by place party (Store (Cell cell) value) answer now =
    if cell == place then (if is_shown value then Some party else None) else now
inside_by place party (Exchange Write old new) answer now = now
inside_by place party (Exchange Read old new) answer now = now
inside_by place party (Exchange (Cell cell) old new) answer now = if (cell == place) && (answer == old) then None else now
inside_by place party Local answer now = now

-- The party whose member is at a place, after these further steps.
abbrev pub inside_after : ℕ → Option ℕ → List Event → Option ℕ
inside_after place now [] = now
inside_after place now (event ∷ events) = inside_after place (inside_by place event.party event.access event.answer now) events

-- A successful exchange of a place's count finds a member there.
abbrev pub FindsMember : ℕ → Option ℕ → ℕ → ℕ → ℕ → Type 0
FindsMember place None cell old answer = cell ≡ place → answer ≡ old → ⊥
FindsMember place (Some owner) cell old answer = Unit {0}

-- A step is permitted while no member, or a member of this party, is at the place: what it stores is permitted as if nobody was recovered,
-- and an exchange of a count only removes a member.
abbrev pub MayBeMadeSo : ℕ → ℕ → ℕ → Option ℕ → ℕ → Access → ℕ → Type 0
MayBeMadeSo n width place now party (Load word) answer = Unit {0}
MayBeMadeSo n width place now party (Store Write value) answer = Unit {0}
MayBeMadeSo n width place now party (Store Read value) answer = Unit {0}
MayBeMadeSo n width place now party (Store (Cell cell) value) answer =
    (cell < n + n * width) × MayBeStored n width place now party cell value
MayBeMadeSo n width place now party (Exchange Write old new) answer = Unit {0}
MayBeMadeSo n width place now party (Exchange Read old new) answer = Unit {0}
MayBeMadeSo n width place now party (Exchange (Cell cell) old new) answer =
    (cell < n) × (is_shown old ≡ true) × (is_shown new ≡ false) × FindsMember place now cell old answer
MayBeMadeSo n width place now party Local answer = Unit {0}

-- A member stays at a place, with the words of its value, until the party that added it removes it or an exchange of its count does, and no
-- member is added over it.
abbrev pub StaysTillOut : ℕ → ℕ → ℕ → Option ℕ → List Event → Type 0
StaysTillOut n width place now [] = Unit {0}
StaysTillOut n width place now (event ∷ events) =
    MayBeMadeSo n width place now event.party event.access event.answer
    × StaysTillOut n width place (inside_by place event.party event.access event.answer now) events

-- After these steps a member of this party is at the place.
abbrev pub IsInside : ℕ → ℕ → List Event → Type 0
IsInside owner place events = inside_after place None events ≡ Some owner

-- A copy, which began with the step `first` and made the steps `own`, shows each member that is in the container at each moment of the
-- copy.
abbrev pub ShowsInside : ℕ → ℕ → RingWords → ℕ → List Event → List Event → Type 0
ShowsInside n width start first events own =
    (owner place : ℕ) → place < n → IsSoUpTo (IsInside owner place) first events
    → ShowsStaying n width start first events place (shown_at n place own)

-- Each finished call that copied shows each member that was in the container at each moment of the copy.
abbrev pub EachShowsInside : ℕ → ℕ → RingWords → List Event → List MemberFinished → Type 0
EachShowsInside n width start events [] = Unit {0}
EachShowsInside n width start events (f ∷ finished) =
    IfCopied f.call f.answer
    (ShowsInside n width start f.first (take f.last events) (own f.party (drop f.first (take f.last events))))
    × EachShowsInside n width start events finished
