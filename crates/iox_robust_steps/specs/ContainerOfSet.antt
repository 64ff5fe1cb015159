-- How the calls on a container and those on its index set belong together.
use Rattle.std.specs.Prelude.{ℕ, ◌≡◌, Bool, if◌then◌else◌, ◌==◌, Ok, List, [], ◌∷◌, ◌++◌, take, drop}
use Rattle.iox_queues.specs.Told.{own}
use Rattle.iox_queues.specs.declared.bits.machine.Event.{Event}
use Rattle.iox_robust_steps.specs.ContainerMachine.{ContainerParts, member_stage}
use Rattle.iox_robust_steps.specs.Machine.{RobustSetState, is_locked}
use Rattle.iox_robust_steps.specs.Told.{Tells}
use Rattle.iox_robust_steps.specs.declared.call.Answer.{Answer}
use Rattle.iox_robust_steps.specs.declared.call.Answer.TheVariants.{Acquired, Settled}
use Rattle.iox_robust_steps.specs.declared.call.Call.{Call}
use Rattle.iox_robust_steps.specs.declared.call.Call.TheVariants as set_call
use Rattle.iox_robust_steps.specs.declared.container.call.ContainerCall.{ContainerCall}
use Rattle.iox_robust_steps.specs.declared.container.call.ContainerCall.TheVariants as stage
use Rattle.iox_robust_steps.specs.declared.container.call.MemberAnswer.{MemberAnswer}
use Rattle.iox_robust_steps.specs.declared.container.call.MemberAnswer.TheVariants.{Added, Removed, Updated}
use Rattle.iox_robust_steps.specs.declared.container.call.MemberCall.{MemberCall}
use Rattle.iox_robust_steps.specs.declared.container.call.MemberCall.TheVariants as call
use Rattle.iox_robust_steps.specs.declared.container.MemberFinished.{MemberFinished}
use Rattle.iox_robust_steps.specs.declared.machine.Finished.{Finished}

-- A call on the index set, with its result.
pub record AnsweredCall : Type 0 where
  pub call : Call
  pub answer : Answer

-- The call on the set that gave a call on the container its result: an addition acquires an index for its owner, a removal releases its
-- member's index in its mode, and a recovery recovers the indices of its owner; a copy makes no call on the set.
abbrev pub asks_set : MemberCall → MemberAnswer → List AnsweredCall
asks_set (call.Add number owner) (Added got) = record { call = set_call.Acquire owner; answer = Acquired got } ∷ []
asks_set (call.Add number owner) (Removed state) = []
asks_set (call.Add number owner) (Updated copied) = []
asks_set (call.Remove owner index mode) (Added got) = []
asks_set (call.Remove owner index mode) (Removed state) =
    record { call = set_call.Release owner index mode; answer = Settled state } ∷ []
asks_set (call.Remove owner index mode) (Updated copied) = []
asks_set call.Update answer = []
asks_set (call.Recover owner number mode) (Added got) = []
asks_set (call.Recover owner number mode) (Removed state) =
    record { call = set_call.Recover owner number mode; answer = Settled state } ∷ []
asks_set (call.Recover owner number mode) (Updated copied) = []

-- The call on the set that gave a call in progress its result, once the set has returned it.
abbrev pub asked_so_far : ContainerCall → List AnsweredCall
asked_so_far stage.Idle = []
asked_so_far (stage.Enter number owner) = []
asked_so_far (stage.Fill number owner index next) = asks_set (call.Add number owner) (Added (Ok index))
asked_so_far (stage.Show number owner index seen) = asks_set (call.Add number owner) (Added (Ok index))
asked_so_far (stage.Sink owner index mode) = []
asked_so_far (stage.Hide owner index mode seen) = []
asked_so_far (stage.Leave owner index mode) = []
asked_so_far (stage.Drop owner index mode) = []
asked_so_far (stage.Count c answer) = asks_set c answer
asked_so_far (stage.Raise c answer seen) = asks_set c answer
asked_so_far stage.Look = []
asked_so_far (stage.Visit place) = []
asked_so_far (stage.Gather place seen next) = []
asked_so_far (stage.Search owner number mode) = []
asked_so_far (stage.Watch owner number mode i) = []
asked_so_far (stage.Ask owner number mode i seen) = []
asked_so_far (stage.Expel owner number mode i seen) = []
asked_so_far (stage.Clear owner number mode i) = []
asked_so_far (stage.Close owner number mode) = []
asked_so_far (stage.Done c answer) = asks_set c answer

-- The calls on the set that gave a party's finished calls on the container their results, in their order.
abbrev pub asked_for : ℕ → List MemberFinished → List AnsweredCall
asked_for party [] = []
asked_for party (f ∷ finished) = (if f.party == party then asks_set f.call f.answer else []) ++ asked_for party finished

-- A party's finished calls on the set, in their order.
abbrev pub answered_to : ℕ → List Finished → List AnsweredCall
answered_to party [] = []
answered_to party (f ∷ finished) =
    (if f.party == party then record { call = f.call; answer = f.answer } ∷ [] else []) ++ answered_to party finished

-- A party's finished calls on the set are exactly those of its additions, removals and recoveries, in their order and with their results:
-- of the finished ones, and of the one in progress once the set has returned its result.
abbrev pub AsksSet : ContainerParts → ℕ → Type 0
AsksSet m party = answered_to party m.indices.finished ≡ asked_for party m.finished ++ asked_so_far (member_stage m.seats party)

-- Among these finished calls on the set of `n` indices is this call of the party with this result, and its own steps did what the result
-- says.
pub record IsAnswered (n : ℕ) (locked : Bool) (events : List Event) (finished : List Finished) (party : ℕ) (c : Call) (a : Answer) : Type 0
  where
    pub before : List Finished
    pub ended : Finished
    pub after : List Finished
    pub whole : finished ≡ before ++ ended ∷ after
    pub its : ended.party ≡ party
    pub is : ended.call ≡ c
    pub so : ended.answer ≡ a
    pub tells : Tells n locked (own party (drop ended.first (take ended.last events))) c a

-- Among the set's finished calls is this call of the party with this result, and its own steps did what the result says.
abbrev pub SetAnswered : RobustSetState → ℕ → Call → Answer → Type 0
SetAnswered m party c a = IsAnswered m.capacity (is_locked m) m.events m.finished party c a

-- The reason of a call's result: its call on the set has that result, and did what it says. So an addition is out of indices only if it saw
-- the cell of each index filled, and is refused as locked only if the set is locked. A removal in the default mode returns that the set
-- isn't locked; a removal that is to lock returns that it is locked, which is so, or that it isn't, if it saw another index held.
abbrev pub HasReason : RobustSetState → ℕ → MemberCall → MemberAnswer → Type 0
HasReason set party (call.Add number owner) (Added got) = SetAnswered set party (set_call.Acquire owner) (Acquired got)
HasReason set party (call.Add number owner) (Removed state) = Unit {0}
HasReason set party (call.Add number owner) (Updated copied) = Unit {0}
HasReason set party (call.Remove owner index mode) (Added got) = Unit {0}
HasReason set party (call.Remove owner index mode) (Removed state) =
    SetAnswered set party (set_call.Release owner index mode) (Settled state)
HasReason set party (call.Remove owner index mode) (Updated copied) = Unit {0}
HasReason set party call.Update answer = Unit {0}
HasReason set party (call.Recover owner number mode) (Added got) = Unit {0}
HasReason set party (call.Recover owner number mode) (Removed state) =
    SetAnswered set party (set_call.Recover owner number mode) (Settled state)
HasReason set party (call.Recover owner number mode) (Updated copied) = Unit {0}

-- Each of these calls has the reason of its result in its call on the set.
abbrev pub HaveReasons : RobustSetState → List MemberFinished → Type 0
HaveReasons set [] = Unit {0}
HaveReasons set (f ∷ finished) = HasReason set f.party f.call f.answer × HaveReasons set finished
