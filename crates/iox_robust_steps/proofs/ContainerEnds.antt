-- The member of an addition is in the container when the call ends, unless a recovery of its owner began.
use Rattle.std.proofs.Common.{◌≡◌, ℕ, ◌<◌, true, false, Ok, Err, Option, Some, None, List, [], ◌∷◌, ◌++◌, length, slice_index}
use Rattle.std.proofs.Common.{take, sym, ◌∙◌, ap, subst, arith}
use Rattle.std.specs.Global.{Vec}
use Rattle.std.proofs.Math.Seq.{take-append_seam}
use Rattle.std.proofs.lemmas.List.{take-append-le}
use Rattle.iox_queues_steps.specs.Access.{RingWords}
use Rattle.iox_queues.specs.declared.bits.machine.Event.{Event}
use Rattle.iox_robust_steps.specs.ContainerInside.{inside_after}
use Rattle.iox_robust_steps.specs.ContainerKept.{EachWasIn, FitsWhose, HoldsFor, IsInStill, KnowsMember, WasIn}
use Rattle.iox_robust_steps.specs.ContainerMachine.{member_ended}
use Rattle.iox_robust_steps.specs.ContainerSteps.{is_shown}
use Rattle.iox_robust_steps.specs.ContainerTold.{AreMembersTold, MemberTells}
use Rattle.iox_robust_steps.specs.Machine.{RobustSetState, is_lost, place_of}
use Rattle.iox_robust_steps.specs.declared.call.RobustCall.{RobustCall}
use Rattle.iox_robust_steps.specs.declared.container.call.ContainerCall.{ContainerCall}
use Rattle.iox_robust_steps.specs.declared.container.call.ContainerCall.TheVariants as stage
use Rattle.iox_robust_steps.specs.declared.container.call.MemberAnswer.{MemberAnswer}
use Rattle.iox_robust_steps.specs.declared.container.call.MemberAnswer.TheVariants.{Added, Removed, Updated}
use Rattle.iox_robust_steps.specs.declared.container.call.MemberCall.{MemberCall}
use Rattle.iox_robust_steps.specs.declared.container.call.MemberCall.TheVariants as call
use Rattle.iox_robust_steps.specs.declared.container.MemberFinished.{MemberFinished}
use Rattle.iox_robust_steps.specs.declared.state.Place.{Place}
use Rattle.iox_robust_steps.specs.declared.state.Place.TheVariants as place

pub was_append : (lost : List ℕ) (events : List Event) (xs ys : List MemberFinished) → EachWasIn lost events xs → EachWasIn lost events ys
    → EachWasIn lost events (xs ++ ys)
was_append lost events [] ys h g = g
was_append lost events (x ∷ xs) ys h g = (h.0, was_append lost events xs ys h.1 g)

module _ (n width : ℕ) (values : List (Vec ℕ)) (start : RingWords) (lost lost' : List ℕ)
    (alive : (o : ℕ) → is_lost o lost' ≡ false → is_lost o lost ≡ false) (events : List Event) (e : Event) where
  fewer_lost : (party : ℕ) (before : List Event) (c : MemberCall) (a : MemberAnswer) → WasIn lost party before c a
      → WasIn lost' party before c a
  fewer_lost party before (call.Add number owner) (Added (Ok index)) h = λ live. h (alive owner live)
  fewer_lost party before (call.Add number owner) (Added (Err why)) h = tt
  fewer_lost party before (call.Add number owner) (Removed state) h = tt
  fewer_lost party before (call.Add number owner) (Updated copied) h = tt
  fewer_lost party before (call.Remove owner index mode) a h = tt
  fewer_lost party before call.Update a h = tt
  fewer_lost party before (call.Recover owner number mode) a h = tt

  -- a member that was in then was, after one more step
  pub was_on : (finished : List MemberFinished) → AreMembersTold n width values start events finished → EachWasIn lost events finished
      → EachWasIn lost' (events ++ e ∷ []) finished
  was_on [] told h = tt
  was_on (f ∷ finished) told h = (
    subst (λ (es : List Event). WasIn lost' f.party es f.call f.answer)
        (sym (take-append-le f.last events (e ∷ []) (omega (arith, told.0.1.ended))))
        (fewer_lost f.party (take f.last events) f.call f.answer h.0),
    was_on finished told.1 h.1,
  )

module _ (n width : ℕ) (values : List (Vec ℕ)) (start : RingWords) (cells : List ℕ) (indices : RobustSetState) (lost' : List ℕ)
    (alive : (o : ℕ) → is_lost o lost' ≡ false → is_lost o indices.lost ≡ false) (party first : ℕ) (events : List Event) (e : Event)
    (s : RobustCall) (own : List Event)
    (fits : (i : ℕ) → i < n → FitsWhose (inside_after i None events) (slice_index cells i) (place_of indices.places i)) where
  -- a member is in at the place whose index the party holds: its own
  is_own : (o : Option ℕ) (count : ℕ) (x : Place) → FitsWhose o count x → is_shown count ≡ true → x ≡ place.Held party → o ≡ Some party
  is_own None count x h shown held = absurd (let wrong : true ≡ false = sym shown ∙ h in cc)
  is_own (Some q) count x h shown held =
      let both : place.Held q ≡ place.Held party = sym h.1 ∙ held in
      let same : q ≡ party = cc in ap (λ (r : ℕ). Some r) same

  was_so : (c : MemberCall) (a : MemberAnswer) → MemberTells n width values start 1 party first events own c a
      → IsInStill indices cells party c a → WasIn lost' party events c a
  was_so (call.Add number owner) (Added (Ok index)) told h = λ live.
      let still : HoldsFor indices party owner index × (is_shown (slice_index cells index) ≡ true) = h (alive owner live) in
      is_own (inside_after index None events) (slice_index cells index) (place_of indices.places index) (fits index told.0) still.1
      still.0.0
  was_so (call.Add number owner) (Added (Err why)) told h = tt
  was_so (call.Add number owner) (Removed state) told h = tt
  was_so (call.Add number owner) (Updated copied) told h = tt
  was_so (call.Remove owner index mode) a told h = tt
  was_so call.Update a told h = tt
  was_so (call.Recover owner number mode) a told h = tt

  -- a call that ends with this step
  pub was_ended : (t : ContainerCall) → KnowsMember n width values start cells indices party s first events own t
      → EachWasIn lost' (events ++ e ∷ []) (member_ended party first (length events) t)
  was_ended stage.Idle k = tt
  was_ended (stage.Enter number owner) k = tt
  was_ended (stage.Fill number owner index next) k = tt
  was_ended (stage.Show number owner index seen) k = tt
  was_ended (stage.Sink owner index mode) k = tt
  was_ended (stage.Hide owner index mode seen) k = tt
  was_ended (stage.Leave owner index mode) k = tt
  was_ended (stage.Drop owner index mode) k = tt
  was_ended (stage.Count c a) k = tt
  was_ended (stage.Raise c a seen) k = tt
  was_ended stage.Look k = tt
  was_ended (stage.Visit i) k = tt
  was_ended (stage.Gather i seen next) k = tt
  was_ended (stage.Search o j mode) k = tt
  was_ended (stage.Watch o j mode i) k = tt
  was_ended (stage.Ask o j mode i seen) k = tt
  was_ended (stage.Expel o j mode i seen) k = tt
  was_ended (stage.Clear o j mode i) k = tt
  was_ended (stage.Close o j mode) k = tt
  was_ended (stage.Done c a) k = (
    subst (λ (es : List Event). WasIn lost' party es c a) (sym (take-append_seam events (e ∷ []))) (was_so c a k.0 k.1),
    tt,
  )
