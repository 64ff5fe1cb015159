-- The steps of a call on a container: a local one that begins it, and the accesses that the call requested.
use Rattle.std.specs.Prelude.{ℕ, ◌≡◌, Bool, Option, Some, None, List, [], ◌∷◌, take, drop}
use Rattle.std.specs.Global.{Vec}
use Rattle.iox_queues.specs.Recorded.{local_step}
use Rattle.iox_queues.specs.Told.{own}
use Rattle.iox_queues.specs.declared.bits.machine.Event.{Event}
use Rattle.iox_robust_steps.specs.ContainerSteps.{member_begun, member_next, member_take}
use Rattle.iox_robust_steps.specs.declared.call.Answer.{Answer}
use Rattle.iox_robust_steps.specs.declared.container.call.ContainerCall.{ContainerCall}
use Rattle.iox_robust_steps.specs.declared.container.call.ContainerCall.TheVariants as stage
use Rattle.iox_robust_steps.specs.declared.container.call.MemberCall.{MemberCall}
use Rattle.iox_robust_steps.specs.declared.container.MemberFinished.{MemberFinished}

-- From one stage to another, each step made the access that its stage requests, and the next stage took its result, together with the count
-- that the party's last copy read, the result of the index set, and whether the set is about to free an index.
abbrev pub MemberGoes : ℕ → ℕ → List (Vec ℕ) → ContainerCall → List Event → ContainerCall → Type 0
MemberGoes n width values stage [] end = end ≡ stage
MemberGoes n width values stage (event ∷ events) end =
    (event.access ≡ member_next n width values stage) × (saw : ℕ) × (got : Option Answer) × (finds : Bool)
    × MemberGoes n width values (member_take n width saw got finds stage event.answer) events end

-- The steps of a call up to a stage: a local one that begins it, and the accesses that the call requested.
pub record IsMemberAsked (n width : ℕ) (values : List (Vec ℕ)) (party : ℕ) (c : MemberCall) (stage : ContainerCall) (events : List Event)
    : Type 0 where
  pub between : List Event
  pub whole : events ≡ local_step party ∷ between
  pub goes : MemberGoes n width values (member_begun c) between stage

-- The steps of the call in progress, if there is one, up to its stage.
abbrev pub IsMemberAskedSoFar : ℕ → ℕ → List (Vec ℕ) → ℕ → Option MemberCall → ContainerCall → List Event → Type 0
IsMemberAskedSoFar n width values party None stage events = Unit {0}
IsMemberAskedSoFar n width values party (Some c) stage events = IsMemberAsked n width values party c stage events

-- The steps of each finished call, up to its result.
abbrev pub AreMembersAsked : ℕ → ℕ → List (Vec ℕ) → List Event → List MemberFinished → Type 0
AreMembersAsked n width values events [] = Unit {0}
AreMembersAsked n width values events (f ∷ finished) =
    IsMemberAsked n width values f.party f.call (stage.Done f.call f.answer) (own f.party (drop f.first (take f.last events)))
    × AreMembersAsked n width values events finished
