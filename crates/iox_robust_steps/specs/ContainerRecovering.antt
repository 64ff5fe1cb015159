-- What a recovery does to the members of a container.
use Rattle.std.specs.Prelude.{ℕ, ◌≡◌, ◌<◌, ◌⊎◌, Bool, true, false, Option, Some, None, List, [], ◌∷◌, length, slice_index, drop}
use Rattle.iox_queues_steps.specs.declared.access.Word.TheVariants.{Write, Read, Cell}
use Rattle.iox_queues_steps.specs.declared.access.Access.{Access}
use Rattle.iox_queues_steps.specs.declared.access.Access.TheVariants.{Load, Store, Exchange, Local}
use Rattle.iox_queues.specs.declared.bits.machine.Event.{Event}
use Rattle.iox_robust_steps.specs.ContainerMachine.{ContainerParts, member_call, width_of}
use Rattle.iox_robust_steps.specs.ContainerSteps.{is_shown, value_cell}
use Rattle.iox_robust_steps.specs.Machine.{RobustSetState}
use Rattle.iox_robust_steps.specs.Steps.{call_in_hand, decided}
use Rattle.iox_robust_steps.specs.declared.call.Call.TheVariants as set_call
use Rattle.iox_robust_steps.specs.declared.call.RobustCall.{RobustCall}
use Rattle.iox_robust_steps.specs.declared.call.RobustCall.TheVariants as set_stage
use Rattle.iox_robust_steps.specs.declared.container.call.ContainerCall.{ContainerCall}
use Rattle.iox_robust_steps.specs.declared.container.call.ContainerCall.TheVariants as stage
use Rattle.iox_robust_steps.specs.declared.container.call.MemberCall.{MemberCall}
use Rattle.iox_robust_steps.specs.declared.container.call.MemberCall.TheVariants as call
use Rattle.iox_robust_steps.specs.declared.container.MemberFinished.{MemberFinished}
use Rattle.iox_robust_steps.specs.declared.container.MemberMove.{MemberMove}

-- The step doesn't exchange a cell.
abbrev pub IsCalmAccess : Access → Type 0
IsCalmAccess (Load word) = Unit {0}
IsCalmAccess (Store word value) = Unit {0}
IsCalmAccess (Exchange Write old new) = Unit {0}
IsCalmAccess (Exchange Read old new) = Unit {0}
IsCalmAccess (Exchange (Cell cell) old new) = ⊥
IsCalmAccess Local = Unit {0}

-- None of these steps exchanges a cell.
abbrev pub IsCalm : List Event → Type 0
IsCalm [] = Unit {0}
IsCalm (event ∷ events) = IsCalmAccess event.access × IsCalm events

-- A recovery removes the member at a place: the decisions select it, a member was there, the set's cell of its index named the owner, and
-- no member is there now.
pub record TakesOut (indices : RobustSetState) (cells cells' : List ℕ) (owner number i : ℕ) : Type 0 where
  pub wanted : decided indices.decisions number i ≡ true
  pub in_before : is_shown (slice_index cells i) ≡ true
  pub owned : slice_index indices.words.cells i ≡ owner
  pub out : is_shown (slice_index cells' i) ≡ false

-- A step of a recovery leaves the count of each of `n` places unchanged or removes its member, and leaves each word of a value unchanged.
pub record RecoversMembersSo (n width : ℕ) (indices : RobustSetState) (cells cells' : List ℕ) (owner number : ℕ) : Type 0 where
  pub each : (i : ℕ) → i < n → (slice_index cells' i ≡ slice_index cells i) ⊎ TakesOut indices cells cells' owner number i
  pub values : (i j : ℕ) → i < n → j < width
      → slice_index cells' (value_cell n width i j) ≡ slice_index cells (value_cell n width i j)

-- If the call is a recovery, its step changes the members only as a recovery may; the steps of any other call exchange no count.
abbrev pub IfRecoversMembers : ℕ → ℕ → RobustSetState → List ℕ → List ℕ → List Event → Option MemberCall → Type 0
IfRecoversMembers n width indices cells cells' added None = IsCalm added
IfRecoversMembers n width indices cells cells' added (Some (call.Add number owner)) = IsCalm added
IfRecoversMembers n width indices cells cells' added (Some (call.Remove owner index mode)) = IsCalm added
IfRecoversMembers n width indices cells cells' added (Some call.Update) = IsCalm added
IfRecoversMembers n width indices cells cells' added (Some (call.Recover owner number mode)) =
    RecoversMembersSo n width indices cells cells' owner number

-- Each step of a recovery removes one selected member of its owner, or none, and changes no other member; and only a recovery exchanges the
-- count of a place.
abbrev pub TakesOutOnlyItsOwn : ContainerParts → MemberMove → ContainerParts → Type 0
TakesOutOnlyItsOwn m step n = IfRecoversMembers m.indices.capacity (width_of m) m.indices m.words.cells n.words.cells
    (drop (length m.events) n.events) (member_call m step)

-- Whether a call on the set has no more indices to free.
abbrev pub is_settling : RobustCall → Bool
is_settling set_stage.Idle = false
is_settling (set_stage.Acquire owner) = false
is_settling (set_stage.Claim owner i count) = false
is_settling (set_stage.Count owner i count) = false
is_settling (set_stage.Confirm owner i) = false
is_settling (set_stage.Undo owner i) = false
is_settling (set_stage.Free owner i mode) = false
is_settling (set_stage.Look owner number mode i) = false
is_settling (set_stage.Clear owner number mode i seen) = false
is_settling (set_stage.Settle c) = true
is_settling (set_stage.Scan c i count) = true
is_settling (set_stage.Lock c count) = true
is_settling (set_stage.Done c answer) = true

-- A recovery that visits a place is beside the set's recovery, which reads the owner of the place's index or is about to free it; a
-- recovery that has visited each place is beside one that has no more indices to free.
abbrev pub StandsBeside : ContainerCall → RobustCall → Type 0
StandsBeside stage.Idle s = Unit {0}
StandsBeside (stage.Enter number owner) s = Unit {0}
StandsBeside (stage.Fill number owner index next) s = Unit {0}
StandsBeside (stage.Show number owner index seen) s = Unit {0}
StandsBeside (stage.Sink owner index mode) s = Unit {0}
StandsBeside (stage.Hide owner index mode seen) s = Unit {0}
StandsBeside (stage.Leave owner index mode) s = Unit {0}
StandsBeside (stage.Drop owner index mode) s = Unit {0}
StandsBeside (stage.Count c answer) s = Unit {0}
StandsBeside (stage.Raise c answer seen) s = Unit {0}
StandsBeside stage.Look s = Unit {0}
StandsBeside (stage.Visit i) s = Unit {0}
StandsBeside (stage.Gather i seen next) s = Unit {0}
StandsBeside (stage.Search owner number mode) s = Unit {0}
StandsBeside (stage.Watch owner number mode i) s = s ≡ set_stage.Look owner number mode i
StandsBeside (stage.Ask owner number mode i seen) s = s ≡ set_stage.Look owner number mode i
StandsBeside (stage.Expel owner number mode i seen) s = (x : ℕ) × (s ≡ set_stage.Clear owner number mode i x)
StandsBeside (stage.Clear owner number mode i) s = (x : ℕ) × (s ≡ set_stage.Clear owner number mode i x)
StandsBeside (stage.Close owner number mode) s = (call_in_hand s ≡ Some (set_call.Recover owner number mode)) × (is_settling s ≡ true)
StandsBeside (stage.Done c answer) s = Unit {0}

-- After a recovery none of its selected members is there: where a selected place has a member, the set's cell doesn't name the owner.
abbrev pub LeavesNone : RobustSetState → List ℕ → MemberCall → Type 0
LeavesNone indices cells (call.Add number owner) = Unit {0}
LeavesNone indices cells (call.Remove owner index mode) = Unit {0}
LeavesNone indices cells call.Update = Unit {0}
LeavesNone indices cells (call.Recover owner number mode) =
    (i : ℕ) → i < indices.capacity → decided indices.decisions number i ≡ true → is_shown (slice_index cells i) ≡ true
    → slice_index indices.words.cells i ≡ owner → ⊥

-- Each of these recoveries leaves none of its selected members.
abbrev pub LeaveNone : RobustSetState → List ℕ → List MemberFinished → Type 0
LeaveNone indices cells [] = Unit {0}
LeaveNone indices cells (f ∷ finished) = LeavesNone indices cells f.call × LeaveNone indices cells finished
