-- What a step of a set's machine is to the calls of its party.
use Rattle.std.proofs.Common.{◌≡◌, ℕ, inl, inr, Bool, false, if◌then◌else◌, Some, None, List, [], ◌∷◌, ◌++◌, refl, ap}
use Rattle.iox_queues.specs.Steps.{call_is_idle, call_next, call_take}
use Rattle.iox_queues.specs.Machine.{call_ended}
use Rattle.iox_queues.specs.Asked.{begun_at, call_in_hand, spans_ended}
use Rattle.iox_queues.specs.Spans.{Span}
use Rattle.iox_queues.specs.declared.bits.call.Call.{Call}
use Rattle.iox_queues.specs.declared.bits.call.SetCall.{SetCall}
use Rattle.iox_queues.specs.declared.bits.call.SetCall.TheVariants.{Idle, Add, Adding, Next, Sweep, Taking, Found, Done}
use Rattle.iox_queues.specs.declared.bits.machine.Event.{Event}
use Rattle.iox_queues.specs.declared.bits.machine.Finished.{Finished}
use Rattle.iox_queues.proofs.Asked.{same_call}
use Rattle.iox_queues.proofs.Spans.{IsOneOf}

pub ended_more : (xs ys : List Finished) → spans_ended (xs ++ ys) ≡ spans_ended xs ++ spans_ended ys
ended_more [] ys = refl
ended_more (x ∷ xs) ys = ap (λ (ss : List Span). record { party = x.party; first = x.first; last = x.last } ∷ ss) (ended_more xs ys)

pub under_way : (stage : SetCall) (c : Call) → call_in_hand stage ≡ Some c → call_is_idle stage ≡ false
under_way Idle c h = absurd (cc)
under_way (Add place top) c h = refl
under_way (Adding place top count) c h = refl
under_way (Next capacity) c h = refl
under_way (Sweep place left capacity all) c h = refl
under_way (Taking place left capacity all count) c h = refl
under_way (Found place after) c h = refl
under_way (Done c' answer) c h = refl

module _ (party first number answer : ℕ) where
  abbrev step : SetCall → Event
  step stage = record { party = party; access = call_next stage; answer = answer }

  stays : (stage : SetCall) (c : Call) → call_in_hand stage ≡ Some c → begun_at (record { stage = stage; first = first }) ≡ Some first
  stays stage c h = ap (λ (b : Bool). if b then None else Some first) (under_way stage c h)

  pub went_one : (stage : SetCall) → call_is_idle stage ≡ false
      → IsOneOf (step stage) number (begun_at (record { stage = stage; first = first }))
      (begun_at (record { stage = call_take stage answer; first = first })) (spans_ended (call_ended party first number stage))
  went_one Idle in_call = absurd (cc)
  went_one (Add place top) in_call
      = inr (inl (first, refl, refl, stays (call_take (Add place top) answer) _ (same_call (Add place top) answer refl), refl))
  went_one (Adding place top count) in_call = inr (inl (
    first,
    refl,
    refl,
    stays (call_take (Adding place top count) answer) _ (same_call (Adding place top count) answer refl),
    refl,
  ))
  went_one (Next capacity) in_call
      = inr (inl (first, refl, refl, stays (call_take (Next capacity) answer) _ (same_call (Next capacity) answer refl), refl))
  went_one (Sweep place left capacity all) in_call = inr (inl (
    first,
    refl,
    refl,
    stays (call_take (Sweep place left capacity all) answer) _ (same_call (Sweep place left capacity all) answer refl),
    refl,
  ))
  went_one (Taking place left capacity all count) in_call = inr (inl (
    first,
    refl,
    refl,
    stays (call_take (Taking place left capacity all count) answer) _ (same_call (Taking place left capacity all count) answer refl),
    refl,
  ))
  went_one (Found place after) in_call = inr (inl (first, refl, refl, refl, refl))
  went_one (Done c answered) in_call = inr (inr (first, refl, refl, refl, refl))
