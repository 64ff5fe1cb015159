-- One more step continues its party's call in progress, or ends it.
use Rattle.std.proofs.Common.{◌≡◌, ℕ, suc, ◌+◌, Bool, true, false, List, [], ◌∷◌, ◌++◌, length, refl, sym, ◌∙◌, ap, subst, arith}
use Rattle.std.proofs.Common.{append_assoc, append-nil}
use Rattle.iox_queues_steps.specs.Access.{RingWords, answer_of, after_access}
use Rattle.iox_queues_steps.specs.Told.{Answered, Timed, own_one, own, local, Goes, IsWhole, InHand, Spans}
use Rattle.iox_queues_steps.specs.declared.access.Access.{Access}
use Rattle.iox_queues_steps.specs.declared.schedule.Event.{Event}
use Rattle.iox_queues_steps.specs.declared.schedule.Party.{Party}

pub answered_more : (words : RingWords) (events : List Event) (after : RingWords) (event : Event)
    → event.answer ≡ answer_of after event.access → Answered words events after
    → Answered words (events ++ event ∷ []) (after_access after event.access)
answered_more words [] after event e h
    = (subst (λ (w : RingWords). event.answer ≡ answer_of w event.access) h e, ap (λ (w : RingWords). after_access w event.access) h)
answered_more words (x ∷ events) after event e h = (h.0, answered_more (after_access words x.access) events after event e h.1)

pub own_more : (party : Party) (from : ℕ) (events : List Event) (event : Event)
    → own party from (events ++ event ∷ []) ≡ own party from events ++ own_one party (from + length events) event
own_more party from [] event = append-nil (own_one party from event) ∙ ap (λ (m : ℕ). own_one party m event) (here from)
  where
    here : (from : ℕ) → from ≡ from + 0
    here from = omega arith
own_more party from (x ∷ events) event =
    ap (λ (ts : List Timed). own_one party from x ++ ts)
    (own_more party (from + 1) events event ∙ ap (λ (m : ℕ). own party (from + 1) events ++ own_one party m event)
    (on from (length events)))
    ∙ sym (append_assoc (own_one party from x) (own party (from + 1) events) (own_one party (from + length (x ∷ events)) event))
  where
    on : (from n : ℕ) → from + 1 + n ≡ from + (suc n)
    on from n = omega arith

pub goes_more : {S : Type 0} (next : S → Access) (take : S → ℕ → S) (begun stage : S) (between : List Timed) (step : Timed)
    → step.event.access ≡ next stage → Goes next take begun between stage
    → Goes next take begun (between ++ step ∷ []) (take stage step.event.answer)
goes_more next take begun stage [] step e h
    = (subst (λ (s : _). step.event.access ≡ next s) h e, ap (λ (s : _). take s step.event.answer) h)
goes_more next take begun stage (x ∷ between) step e h = (h.0, goes_more next take (take begun x.event.answer) stage between step e h.1)

-- the steps in hand grow, and no call ends
pub spans_on : {C : Type 0} (IsCall : C → List Timed → Type 0) (IsHand IsHand' : List Timed → Type 0) (calls : List C)
    (steps more : List Timed) → ((hand : List Timed) → IsHand hand → IsHand' (hand ++ more)) → Spans IsCall IsHand calls steps
    → Spans IsCall IsHand' calls (steps ++ more)
spans_on IsCall IsHand IsHand' [] steps more grows h = grows steps h
spans_on IsCall IsHand IsHand' (call ∷ calls) steps more grows h = (
  h.0,
  h.1 ++ more,
  ap (λ (ts : List Timed). ts ++ more) h.2 ∙ append_assoc h.0 h.1 more,
  h.3,
  spans_on IsCall IsHand IsHand' calls h.1
      more grows h.4,
)

-- the call in hand ends
pub spans_end : {C : Type 0} (IsCall : C → List Timed → Type 0) (IsHand IsHand' : List Timed → Type 0) (calls : List C) (call : C)
    (steps more : List Timed) → ((hand : List Timed) → IsHand hand → IsCall call (hand ++ more)) → IsHand' []
    → Spans IsCall IsHand calls steps → Spans IsCall IsHand' (calls ++ call ∷ []) (steps ++ more)
spans_end IsCall IsHand IsHand' [] call steps more ends none h = (steps ++ more, [], sym (append-nil (steps ++ more)), ends steps h, none)
spans_end IsCall IsHand IsHand' (x ∷ calls) call steps more ends none h = (
  h.0,
  h.1 ++ more,
  ap (λ (ts : List Timed). ts ++ more) h.2 ∙ append_assoc h.0 h.1 more,
  h.3,
  spans_end IsCall IsHand IsHand' calls
      call h.1 more ends none h.4,
)

-- a call begins
pub open_begun : (S : Type 0) (next : S → Access) (take : S → ℕ → S) (party : Party) (b b' : Bool) (begun stage begun' : S)
    (first first' : ℕ) (hand : List Timed) → b ≡ true → b' ≡ false → InHand S next take party b begun stage first hand
    → InHand S next take party b' begun' begun' first' (hand ++ local party first' ∷ [])
open_begun S next take party true false begun stage begun' first first' hand e e' h = record {
  between = [];
  all = ap (λ (ts : List Timed). ts ++ local party first' ∷ []) h;
  goes = refl;
}
open_begun S next take party true true begun stage begun' first first' hand e e' h = absurd (cc)
open_begun S next take party false b' begun stage begun' first first' hand e e' h = absurd (cc)

-- a call goes on
pub open_more : (S : Type 0) (next : S → Access) (take : S → ℕ → S) (party : Party) (b b' : Bool) (begun stage begun' stage' : S)
    (first : ℕ) (hand : List Timed) (step : Timed) → b ≡ false → b' ≡ false → begun' ≡ begun → stage' ≡ take stage step.event.answer
    → step.event.access ≡ next stage → InHand S next take party b begun stage first hand
    → InHand S next take party b' begun' stage' first (hand ++ step ∷ [])
open_more S next take party false false begun stage begun' stage' first hand step e e' same on asked h = record {
  between = h.between ++ step ∷ [];
  all = ap (λ (ts : List Timed). ts ++ step ∷ []) h.all;
  goes = subst (λ (s : S). Goes next take s (h.between ++ step ∷ []) stage') (sym same)
      (subst (λ (s : S). Goes next take begun (h.between ++ step ∷ []) s) (sym on)
      (goes_more next take begun stage h.between step asked h.goes));
}
open_more S next take party false true begun stage begun' stage' first hand step e e' same on asked h = absurd (cc)
open_more S next take party true b' begun stage begun' stage' first hand step e e' same on asked h = absurd (cc)

-- a call ends
pub open_end : (S : Type 0) (next : S → Access) (take : S → ℕ → S) (party : Party) (b : Bool) (begun stage : S) (first last : ℕ)
    (hand : List Timed) → b ≡ false → InHand S next take party b begun stage first hand
    → IsWhole S next take party begun stage first last (hand ++ local party last ∷ [])
open_end S next take party false begun stage first last hand e h = record {
  between = h.between;
  all = ap (λ (ts : List Timed). ts ++ local party last ∷ []) h.all;
  goes = h.goes;
}
open_end S next take party true begun stage first last hand e h = absurd (cc)
