-- Each step of a container's machine is one of one call.
use Rattle.std.proofs.Common.{◌≡◌, ℕ, inl, inr, Bool, true, false, if◌then◌else◌, nat_lt, ◌&&◌, ◌==◌, not, Option, Some, None, List, []}
use Rattle.std.proofs.Common.{◌∷◌, ◌++◌, length, replicate, refl, sym, ◌∙◌, ap, subst, append-nil}
use Rattle.std.specs.Global.{Vec}
use Rattle.std.proofs.lemmas.Bool.{and_parts, ltb-true}
use Rattle.iox_queues_steps.specs.Access.{answer_of}
use Rattle.iox_queues_steps.specs.declared.access.Access.{Access}
use Rattle.iox_queues_steps.specs.declared.access.Access.TheVariants.{Local}
use Rattle.iox_queues.specs.Spans.{EachIsOfCall, Span, span_in_hand}
use Rattle.iox_queues.specs.declared.bits.machine.Event.{Event}
use Rattle.iox_queues.proofs.Spans.{IsStepOf, each_of_call_on}
use Rattle.iox_robust_steps.specs.ContainerSteps.{answer_at, is_clearing, member_begun, member_in_hand, member_is_idle, member_is_over}
use Rattle.iox_robust_steps.specs.ContainerSteps.{member_next}
use Rattle.iox_robust_steps.specs.ContainerSteps.{member_take}
use Rattle.iox_robust_steps.specs.ContainerMachine.{ContainerParts, asked_at}
use Rattle.iox_robust_steps.specs.ContainerMachine.{empty_parts, is_look, may_ask, member_begins, member_ended, member_fits}
use Rattle.iox_robust_steps.specs.ContainerMachine.{member_seat, member_stage, member_went, resting, seat_after, width_of}
use Rattle.iox_robust_steps.specs.ContainerStays.{MembersAreOfCalls, member_begun_at, member_spans}
use Rattle.iox_robust_steps.specs.Machine.{RobustSetState, stage_at}
use Rattle.iox_robust_steps.specs.declared.container.call.ContainerCall.{ContainerCall}
use Rattle.iox_robust_steps.specs.declared.container.call.ContainerCall.TheVariants as stage
use Rattle.iox_robust_steps.specs.declared.container.call.MemberCall.{MemberCall}
use Rattle.iox_robust_steps.specs.declared.container.MemberFinished.{MemberFinished}
use Rattle.iox_robust_steps.specs.declared.container.MemberMove.TheVariants.{Begin, GoOn}
use Rattle.iox_robust_steps.specs.declared.container.state.MemberSeat.{MemberSeat}
use Rattle.iox_robust_steps.proofs.ContainerCalls.{begun_call, same_call}
use Rattle.iox_robust_steps.proofs.ContainerRuns.{either_seat}
use Rattle.iox_robust_steps.proofs.ContainerSeats.{all_resting, member_seat_else, member_seat_here}

spans_more : (xs ys : List MemberFinished) → member_spans (xs ++ ys) ≡ member_spans xs ++ member_spans ys
spans_more [] ys = refl
spans_more (x ∷ xs) ys = ap (λ (ss : List Span). record { party = x.party; first = x.first; last = x.last } ∷ ss) (spans_more xs ys)

-- a call in hand is in progress
busy : (t : ContainerCall) (c : MemberCall) → member_in_hand t ≡ Some c → member_is_idle t ≡ false
busy stage.Idle c h = absurd (cc)
busy (stage.Enter number owner) c h = refl
busy (stage.Fill number owner index next) c h = refl
busy (stage.Show number owner index seen) c h = refl
busy (stage.Sink owner index mode) c h = refl
busy (stage.Hide owner index mode seen) c h = refl
busy (stage.Leave owner index mode) c h = refl
busy (stage.Drop owner index mode) c h = refl
busy (stage.Count d a) c h = refl
busy (stage.Raise d a seen) c h = refl
busy stage.Look c h = refl
busy (stage.Visit i) c h = refl
busy (stage.Gather i seen next) c h = refl
busy (stage.Search o j mode) c h = refl
busy (stage.Watch o j mode i) c h = refl
busy (stage.Ask o j mode i seen) c h = refl
busy (stage.Expel o j mode i seen) c h = refl
busy (stage.Clear o j mode i) c h = refl
busy (stage.Close o j mode) c h = refl
busy (stage.Done d a) c h = refl

-- the first step of its call, by the stage
abbrev begun_with : ℕ → ContainerCall → Option ℕ
begun_with first t = if member_is_idle t then None else Some first

module _ (n width saw : ℕ) (set : RobustSetState) (finds : Bool) (e : Event) (first number answer : ℕ) where
  abbrev next : ContainerCall → ContainerCall
  next t = member_take n width saw (answer_at (stage_at set.seats e.party)) finds t answer

  goes_on : (t : ContainerCall) (c : MemberCall) → member_in_hand t ≡ Some c → member_is_over t ≡ false
      → begun_with first (next t) ≡ Some first
  goes_on t c h over = ap (λ (b : Bool). if b then None else Some first)
      (busy (next t) c (same_call n width saw (answer_at (stage_at set.seats e.party)) finds t answer over ∙ h))

  went_one : (t : ContainerCall) → may_ask set e.party t ≡ true
      → IsStepOf e number (begun_with first t) (begun_with first (next t)) (member_spans (member_ended e.party first number t))
  went_one stage.Idle fit = absurd (cc)
  went_one (stage.Enter value owner) fit = inr (inl (first, refl, goes_on (stage.Enter value owner) _ refl refl, refl))
  went_one (stage.Fill value owner index j) fit = inr (inl (first, refl, goes_on (stage.Fill value owner index j) _ refl refl, refl))
  went_one (stage.Show value owner index seen) fit = inr (inl (first, refl, refl, refl))
  went_one (stage.Sink owner index mode) fit = inr (inl (first, refl, refl, refl))
  went_one (stage.Hide owner index mode seen) fit = inr (inl (first, refl, refl, refl))
  went_one (stage.Leave owner index mode) fit = inr (inl (first, refl, refl, refl))
  went_one (stage.Drop owner index mode) fit = inr (inl (first, refl, goes_on (stage.Drop owner index mode) _ refl refl, refl))
  went_one (stage.Count c a) fit = inr (inl (first, refl, refl, refl))
  went_one (stage.Raise c a seen) fit = inr (inl (first, refl, goes_on (stage.Raise c a seen) c refl refl, refl))
  went_one stage.Look fit = inr (inl (first, refl, goes_on stage.Look _ refl refl, refl))
  went_one (stage.Visit i) fit = inr (inl (first, refl, goes_on (stage.Visit i) _ refl refl, refl))
  went_one (stage.Gather i seen j) fit = inr (inl (first, refl, goes_on (stage.Gather i seen j) _ refl refl, refl))
  went_one (stage.Search o j mode) fit = inr (inl (first, refl, goes_on (stage.Search o j mode) _ refl refl, refl))
  went_one (stage.Watch o j mode i) fit = inr (inl (first, refl, refl, refl))
  went_one (stage.Ask o j mode i seen) fit = inr (inl (first, refl, goes_on (stage.Ask o j mode i seen) _ refl refl, refl))
  went_one (stage.Expel o j mode i seen) fit = inr (inl (first, refl, refl, refl))
  went_one (stage.Clear o j mode i) fit = inr (inl (first, refl, goes_on (stage.Clear o j mode i) _ refl refl, refl))
  went_one (stage.Close o j mode) fit = inr (inl (first, refl, goes_on (stage.Close o j mode) _ refl refl, refl))
  went_one (stage.Done c a) fit = inr (inr (first, refl, refl, refl))

pub member_went_counted : (m : ContainerParts) (party : ℕ) → member_fits m (GoOn party) ≡ true → MembersAreOfCalls m
    → MembersAreOfCalls (member_went m party)
member_went_counted m party fit k =
    let seat : MemberSeat = member_seat m.seats party in
    let n : ℕ = m.indices.capacity in
    let parts : (nat_lt party (length m.seats) ≡ true) × (may_ask m.indices party seat.stage ≡ true)
    = and_parts (nat_lt party (length m.seats)) (may_ask m.indices party seat.stage) fit in
    let access : Access = member_next n (width_of m) m.values seat.stage in
    let answer : ℕ = answer_of m.words access in
    let e : Event = record { party = party; access = access; answer = answer } in
    let finds : Bool = is_clearing (stage_at (asked_at m.indices party seat.stage).seats party) in
    let onward : ContainerCall = member_take n (width_of m) seat.saw (answer_at (stage_at m.indices.seats party)) finds seat.stage answer in
    let ended : List MemberFinished = member_ended party seat.first (length m.events) seat.stage in
    let after : MemberSeat = seat_after seat onward answer (length m.events) in
    subst (λ (ss : List Span). EachIsOfCall (member_went m party).events ss
    (λ (q : ℕ). member_begun_at (member_seat (member_went m party).seats q)))
    (sym (spans_more m.finished ended))
    (each_of_call_on m.events e (member_spans m.finished) (member_spans ended) (λ (q : ℕ). member_begun_at (member_seat m.seats q))
    (λ (q : ℕ). member_begun_at (member_seat (member_went m party).seats q)) k
    (subst (λ (s : MemberSeat). IsStepOf e (length m.events) (member_begun_at seat) (member_begun_at s) (member_spans ended))
    (sym (member_seat_here m.seats party after (ltb-true party (length m.seats) parts.0)))
    (either_seat (λ (s : MemberSeat). IsStepOf e (length m.events) (member_begun_at seat) (member_begun_at s) (member_spans ended))
    (is_look seat.stage && not (answer == seat.saw))
    (record { stage = onward; first = seat.first; saw = answer; since = length m.events }) (record seat { stage = onward })
    (went_one n (width_of m) seat.saw m.indices finds e seat.first (length m.events) answer seat.stage parts.1)
    (went_one n (width_of m) seat.saw m.indices finds e seat.first (length m.events) answer seat.stage parts.1)))
    (λ q differs. ap member_begun_at (member_seat_else m.seats party q after (λ same. differs (sym same)))))

pub member_begun_counted : (m : ContainerParts) (party : ℕ) (c : MemberCall) → member_fits m (Begin party c) ≡ true
    → MembersAreOfCalls m → MembersAreOfCalls (member_begins m party c)
member_begun_counted m party c fit k =
    let parts : (nat_lt party (length m.seats) ≡ true) × (_ ≡ true) = and_parts (nat_lt party (length m.seats)) _ fit in
    let idle : (member_is_idle (member_stage m.seats party) ≡ true) × (_ ≡ true)
    = and_parts (member_is_idle (member_stage m.seats party)) _ parts.1 in
    let seat : MemberSeat = record (member_seat m.seats party) { stage = member_begun c; first = length m.events } in
    let begin : Event = record { party = party; access = Local; answer = 0 } in
    subst (λ (ss : List Span). EachIsOfCall (member_begins m party c).events ss
    (λ (q : ℕ). member_begun_at (member_seat (member_begins m party c).seats q)))
    (append-nil (member_spans m.finished))
    (each_of_call_on m.events begin (member_spans m.finished) [] (λ (q : ℕ). member_begun_at (member_seat m.seats q))
    (λ (q : ℕ). member_begun_at (member_seat (member_begins m party c).seats q)) k
    (inl (
      ap (λ (b : Bool). if b then None else Some (member_seat m.seats party).first) idle.0,
      ap member_begun_at (member_seat_here m.seats party seat (ltb-true party (length m.seats) parts.0))
          ∙ ap (λ (b : Bool). if b then None else Some (length m.events)) (busy (member_begun c) c (begun_call c)),
      refl,
    ))
    (λ q differs. ap member_begun_at (member_seat_else m.seats party q seat (λ same. differs (sym same)))))

pub empty_counted : (capacity parties : ℕ) (values : List (Vec ℕ)) (decisions : List (Vec Bool))
    → MembersAreOfCalls (empty_parts capacity parties values decisions)
empty_counted capacity parties values decisions = record {
  steps = λ q. subst (λ (o : Option ℕ). [] ≡ [] ++ span_in_hand q [] o) (sym (nobody q)) refl;
  within = tt;
  begun = λ q first is. absurd (let none : None ≡ Some first = sym (nobody q) ∙ is in cc);
}
  where
    nobody : (q : ℕ) → member_begun_at (member_seat (replicate parties resting) q) ≡ None
    nobody q = ap member_begun_at (all_resting parties q)
