-- Every step of a ring preserves the invariant.
use Rattle.std.proofs.Common.{◌≡◌, ℕ, ◌+◌, ◌^◌, ◌<◌, ◌≤◌, Bool, true, false, not, if◌then◌else◌, List, [], ◌∷◌, ◌++◌, map, length, refl}
use Rattle.std.proofs.Common.{sym, ◌∙◌, ap, subst, arith, append-nil, length-append, inl, inr}
use Rattle.std.proofs.lemmas.List.{length-map}
use Rattle.std.specs.List.{AllZip}
use Rattle.iox_queues_steps.specs.Access.{answer_of, after_access}
use Rattle.iox_queues_steps.specs.Order.{Acts, after_acts, acts_of, at, puts, takes, push_call, pop_call, PutInside, TakeInside, PutNow}
use Rattle.iox_queues_steps.specs.Schedule.{count_of, is_stopped_of}
use Rattle.iox_queues_steps.specs.Told.{Timed, InHand, same_party, own}
use Rattle.iox_queues_steps.specs.declared.access.Access.TheVariants.{Local}
use Rattle.iox_queues_steps.specs.declared.order.Act.{Act}
use Rattle.iox_queues_steps.specs.declared.order.Placed.{Placed}
use Rattle.iox_queues_steps.specs.declared.order.PopAnswer.{PopAnswer}
use Rattle.iox_queues_steps.specs.declared.schedule.Event.{Event}
use Rattle.iox_queues_steps.specs.declared.schedule.Party.TheVariants.{Producer, Consumer}
use Rattle.iox_queues_steps.specs.declared.schedule.Call.TheVariants as call
use Rattle.iox_queues_steps.specs.declared.schedule.Move.{Move}
use Rattle.iox_queues_steps.specs.declared.schedule.Move.TheVariants.{Begin, GoOn}
use Rattle.iox_queues_steps.specs.declared.schedule.Stepped.{Stepped}
use Rattle.iox_queues_steps.specs.declared.schedule.Stepped.TheVariants as stepped
use Rattle.iox_queues_steps.proofs.Orders.{acts_more, Acts-append, after_acts-append, rises_more, put_step, put_keep, take_step, take_keep}
use Rattle.iox_queues_steps.proofs.Told.{answered_more}
use Rattle.iox_queues_steps.specs.Ends.{overflows, push_idle, push_value, pop_idle, pop_looks, push_begun, push_next, push_take}
use Rattle.iox_queues_steps.specs.Ends.{push_is_idle, push_is_over, push_ended, put_in_hand, placed_by_push, pop_first, pop_next}
use Rattle.iox_queues_steps.specs.Ends.{pop_take, pop_is_idle, pop_is_over, pop_ended, placed_by_pop, Shape}
use Rattle.iox_queues_steps.specs.RingMachine.{RingState, IsKept, IsTold, IsMade, Tells, StepsTo, RunsTo, ArePushesTold, ArePopsTold}
use Rattle.iox_queues_steps.specs.RingMachine.{ended_calls, first_words, start, fits, ends, happens, waiting, push_goes_on, pop_goes_on}
use Rattle.iox_queues_steps.specs.RingMachine.{push_begins, pop_begins}
use Rattle.iox_queues_steps.specs.declared.rings.ends.RingKind.{RingKind}
use Rattle.iox_queues_steps.specs.declared.rings.ends.RingKind.TheVariants as kind
use Rattle.iox_queues_steps.specs.declared.rings.ends.Push.{Push}
use Rattle.iox_queues_steps.specs.declared.rings.ends.Pop.{Pop}
use Rattle.iox_queues_steps.proofs.EitherRing.{holds, push_goes, pop_goes, push_grows, pop_grows, push_ends_one, pop_ends_one}
use Rattle.iox_queues_steps.proofs.EitherRing.{push_begins_shape, pop_begins_shape, start_overflowing, start_refusing}
use Rattle.iox_queues_steps.proofs.Calls.{own_grows, push_begun_told, push_told, pop_begun_told, pop_told}

-- the list after more acts
waits : (o : Bool) (limit : ℕ) (initial : List ℕ) (order : List Placed) (moment : ℕ) (new : List Act) (list : List ℕ)
    → after_acts o limit (after_acts o limit initial (acts_of order)) new ≡ list
    → after_acts o limit initial (acts_of (order ++ at moment new)) ≡ list
waits o limit initial order moment new list e =
    ap (after_acts o limit initial) (acts_more order moment new) ∙ after_acts-append o limit initial (acts_of order) new ∙ e

more_acts : (o : Bool) (limit : ℕ) (initial : List ℕ) (order : List Placed) (moment : ℕ) (new : List Act)
    → Acts o limit initial (acts_of order) → Acts o limit (after_acts o limit initial (acts_of order)) new
    → Acts o limit initial (acts_of (order ++ at moment new))
more_acts o limit initial order moment new h g =
    subst (Acts o limit initial) (sym (acts_more order moment new)) (Acts-append o limit initial (acts_of order) new h g)

one_more : (m : RingState) (event : Event) → length m.log.events ≡ m.log.moments → length (m.log.events ++ event ∷ []) ≡ m.log.moments + 1
one_more m event h = omega (arith, length-append m.log.events (event ∷ []))

nothing_then : (b : Bool) (steps : List Timed) → b ≡ false → (if b then steps else []) ≡ []
nothing_then true steps e = absurd (cc)
nothing_then false steps e = refl

-- the steps of the end that did nothing
quiet_pushes : (m : RingState) (event : Event) → event.party ≡ Consumer → IsTold m
    → ArePushesTold m.kind m.limit m.producer.push m.producer.first m.producer.calls (own Producer 0 (m.log.events ++ event ∷ []))
quiet_pushes m event e t =
    subst (ArePushesTold m.kind m.limit m.producer.push m.producer.first m.producer.calls)
    (sym (own_grows m Producer event t ∙ ap (λ (ts : List Timed). own Producer 0 m.log.events ++ ts)
    (nothing_then (same_party Producer event.party) (record { moment = m.log.moments; event = event } ∷ [])
    (ap (same_party Producer) e)) ∙ append-nil (own Producer 0 m.log.events))) t.pushes

quiet_pops : (m : RingState) (event : Event) → event.party ≡ Producer → IsTold m
    → ArePopsTold m.kind m.consumer.pop m.consumer.first m.consumer.calls (own Consumer 0 (m.log.events ++ event ∷ []))
quiet_pops m event e t =
    subst (ArePopsTold m.kind m.consumer.pop m.consumer.first m.consumer.calls)
    (sym (own_grows m Consumer event t ∙ ap (λ (ts : List Timed). own Consumer 0 m.log.events ++ ts)
    (nothing_then (same_party Consumer event.party) (record { moment = m.log.moments; event = event } ∷ [])
    (ap (same_party Consumer) e)) ∙ append-nil (own Consumer 0 m.log.events))) t.pops

push_goes_on_keeps : (m : RingState) → m.log.moments < 2 ^ 63 → push_is_idle m.producer.push ≡ false → IsKept m → IsKept (push_goes_on m)
push_goes_on_keeps m bound busy k =
    let s : Shape m.kind m.limit m.words (waiting m) m.producer.push m.consumer.pop = k.shape in
    let hold = holds m.kind m.limit m.words (waiting m) m.producer.push m.consumer.pop s in
    let fits : m.words.write + 1 < 2 ^ 64 = omega (arith, k.few, hold.small) in
    let g = push_goes m.kind m.limit m.words (waiting m) m.producer.push m.consumer.pop fits s in
    let new : List Act = placed_by_push m.limit m.words.read m.producer.push in
    let event : Event = record
    { party = Producer; access = push_next m.producer.push; answer = answer_of m.words (push_next m.producer.push) } in
    record {
      shape = subst (λ (q : List ℕ). Shape m.kind m.limit (after_access m.words (push_next m.producer.push)) q
          (push_take m.producer.push (answer_of m.words (push_next m.producer.push))) m.consumer.pop)
          (sym (waits (overflows m.kind) m.limit m.initial m.log.order m.log.moments
          (placed_by_push m.limit m.words.read m.producer.push) g.list g.after)) g.shape;
      order = record {
        acts = more_acts (overflows m.kind) m.limit m.initial m.log.order m.log.moments
            (placed_by_push m.limit m.words.read m.producer.push) k.order.acts g.acts;
        rises = rises_more 0 m.log.order m.log.moments (placed_by_push m.limit m.words.read m.producer.push) k.order.rises;
        puts_match = put_step m.producer.calls m.producer.first m.log.moments (push_ended m.producer.push)
            (put_in_hand m.words.read m.producer.push) _ m.log.order (placed_by_push m.limit m.words.read m.producer.push) k.push_began
            g.in_hand k.order.puts_match;
        takes_match = take_keep m.consumer.calls m.consumer.first m.log.moments (pop_ended m.consumer.pop) m.log.order
            (placed_by_push m.limit m.words.read m.producer.push) g.takes k.order.takes_match;
      };
      told = record {
        counted = one_more m event k.told.counted;
        answered = answered_more (first_words m.kind m.limit m.initial) m.log.events m.words event refl k.told.answered;
        pushes = subst (ArePushesTold m.kind m.limit (push_take m.producer.push (answer_of m.words (push_next m.producer.push)))
            m.producer.first (m.producer.calls ++ map (push_call m.producer.first m.log.moments) (push_ended m.producer.push)))
            (sym (own_grows m Producer event k.told))
            (push_told m.kind m.limit m.producer.first m.log.moments m.producer.calls m.producer.push m.words
            (own Producer 0 m.log.events) busy hold.same_kind k.told.pushes);
        pops = quiet_pops m event refl k.told;
      };
      few = omega (arith, k.few, push_grows m.kind m.limit m.words (waiting m) m.producer.push m.consumer.pop s);
      push_began = omega (arith, k.push_began);
      pop_began = omega (arith, k.pop_began);
    }

pop_goes_on_keeps : (m : RingState) → m.log.moments < 2 ^ 63 → pop_is_idle m.consumer.pop ≡ false → IsKept m → IsKept (pop_goes_on m)
pop_goes_on_keeps m bound busy k =
    let s : Shape m.kind m.limit m.words (waiting m) m.producer.push m.consumer.pop = k.shape in
    let hold = holds m.kind m.limit m.words (waiting m) m.producer.push m.consumer.pop s in
    let fits : m.words.write + 1 < 2 ^ 64 = omega (arith, k.few, hold.small) in
    let g = pop_goes m.kind m.limit m.words (waiting m) m.producer.push m.consumer.pop fits s in
    let event : Event = record
    { party = Consumer; access = pop_next m.consumer.pop; answer = answer_of m.words (pop_next m.consumer.pop) } in
    record {
      shape = subst (λ (q : List ℕ). Shape m.kind m.limit (after_access m.words (pop_next m.consumer.pop)) q m.producer.push
          (pop_take m.consumer.pop (answer_of m.words (pop_next m.consumer.pop))))
          (sym (waits (overflows m.kind) m.limit m.initial m.log.order m.log.moments
          (placed_by_pop m.words m.producer.push m.consumer.pop) g.list g.after)) g.shape;
      order = record {
        acts = more_acts (overflows m.kind) m.limit m.initial m.log.order m.log.moments
            (placed_by_pop m.words m.producer.push m.consumer.pop) k.order.acts g.acts;
        rises = rises_more 0 m.log.order m.log.moments (placed_by_pop m.words m.producer.push m.consumer.pop) k.order.rises;
        puts_match = put_keep m.producer.calls m.producer.first m.log.moments (put_in_hand m.words.read m.producer.push) _ m.log.order
            (placed_by_pop m.words m.producer.push m.consumer.pop) k.push_began g.in_hand k.order.puts_match;
        takes_match = take_step m.consumer.calls m.consumer.first m.log.moments (pop_ended m.consumer.pop) _ m.log.order
            (placed_by_pop m.words m.producer.push m.consumer.pop) k.pop_began g.ended k.order.takes_match;
      };
      told = record {
        counted = one_more m event k.told.counted;
        answered = answered_more (first_words m.kind m.limit m.initial) m.log.events m.words event refl k.told.answered;
        pushes = quiet_pushes m event refl k.told;
        pops = subst (ArePopsTold m.kind (pop_take m.consumer.pop (answer_of m.words (pop_next m.consumer.pop))) m.consumer.first
            (m.consumer.calls ++ map (pop_call m.consumer.first m.log.moments) (pop_ended m.consumer.pop)))
            (sym (own_grows m Consumer event k.told))
            (pop_told m.kind m.consumer.first m.log.moments m.consumer.calls m.consumer.pop m.words (own Consumer 0 m.log.events)
            busy hold.same_pop k.told.pops);
      };
      few = omega (arith, k.few, pop_grows m.words m.consumer.pop);
      push_began = omega (arith, k.push_began);
      pop_began = omega (arith, k.pop_began);
    }

none_placed : (o : Bool) (limit : ℕ) (initial : List ℕ) (order : List Placed) (moment : ℕ)
    → after_acts o limit initial (acts_of (order ++ at moment [])) ≡ after_acts o limit initial (acts_of order)
none_placed o limit initial order moment = waits o limit initial order moment [] _ refl

push_begins_keeps : (m : RingState) (value : ℕ) → push_is_idle m.producer.push ≡ true → IsKept m → IsKept (push_begins m value)
push_begins_keeps m value idle k =
    let g = push_begins_shape m.kind m.limit m.words (waiting m) m.producer.push m.consumer.pop value idle k.shape in
    let event : Event = record { party = Producer; access = Local; answer = 0 } in
    let quiet : AllZip PutInside (m.producer.calls ++ []) (puts m.log.order) =
    subst (λ (hand : List PutNow). AllZip PutInside (m.producer.calls ++ map (push_call m.producer.first m.log.moments) hand)
    (puts m.log.order)) g.before k.order.puts_match in
    record {
      shape = subst (λ (q : List ℕ). Shape m.kind m.limit m.words q (push_begun m.kind m.limit value) m.consumer.pop)
          (sym (none_placed (overflows m.kind) m.limit m.initial m.log.order m.log.moments)) g.shape;
      order = record {
        acts = more_acts (overflows m.kind) m.limit m.initial m.log.order m.log.moments [] k.order.acts tt;
        rises = rises_more 0 m.log.order m.log.moments [] k.order.rises;
        puts_match = subst (λ (hand : List PutNow). AllZip PutInside
            (m.producer.calls ++ map (push_call m.log.moments (m.log.moments + 1)) hand) (puts (m.log.order ++ at m.log.moments [])))
            (sym g.hand)
            (put_keep m.producer.calls m.log.moments m.log.moments [] [] m.log.order [] (omega arith) refl quiet);
        takes_match = take_keep m.consumer.calls m.consumer.first m.log.moments (pop_ended m.consumer.pop) m.log.order [] refl
            k.order.takes_match;
      };
      told = record {
        counted = one_more m event k.told.counted;
        answered = answered_more (first_words m.kind m.limit m.initial) m.log.events m.words event refl k.told.answered;
        pushes = subst (ArePushesTold m.kind m.limit (push_begun m.kind m.limit value) m.log.moments m.producer.calls)
            (sym (own_grows m Producer event k.told))
            (push_begun_told m.kind m.limit value m.producer.first m.log.moments m.producer.calls m.producer.push
            (own Producer 0 m.log.events) idle k.told.pushes);
        pops = quiet_pops m event refl k.told;
      };
      few = omega (arith, k.few);
      push_began = omega arith;
      pop_began = omega (arith, k.pop_began);
    }

pop_begins_keeps : (m : RingState) (looks : Bool) → pop_is_idle m.consumer.pop ≡ true → IsKept m
    → IsKept (pop_begins m (pop_first m.kind looks))
pop_begins_keeps m looks idle k =
    let g = pop_begins_shape m.kind m.limit m.words (waiting m) m.producer.push m.consumer.pop looks idle k.shape in
    let event : Event = record { party = Consumer; access = Local; answer = 0 } in
    let quiet : AllZip TakeInside (m.consumer.calls ++ []) (takes m.log.order) =
    subst (λ (hand : List PopAnswer). AllZip TakeInside (m.consumer.calls ++ map (pop_call m.consumer.first m.log.moments) hand)
    (takes m.log.order)) g.before k.order.takes_match in
    record {
      shape = subst (λ (q : List ℕ). Shape m.kind m.limit m.words q m.producer.push (pop_first m.kind looks))
          (sym (none_placed (overflows m.kind) m.limit m.initial m.log.order m.log.moments)) g.shape;
      order = record {
        acts = more_acts (overflows m.kind) m.limit m.initial m.log.order m.log.moments [] k.order.acts tt;
        rises = rises_more 0 m.log.order m.log.moments [] k.order.rises;
        puts_match = put_keep m.producer.calls m.producer.first m.log.moments (put_in_hand m.words.read m.producer.push) _ m.log.order
            [] k.push_began (sym (append-nil (put_in_hand m.words.read m.producer.push))) k.order.puts_match;
        takes_match = subst (λ (hand : List PopAnswer). AllZip TakeInside
            (m.consumer.calls ++ map (pop_call m.log.moments (m.log.moments + 1)) hand) (takes (m.log.order ++ at m.log.moments [])))
            (sym g.hand)
            (take_keep m.consumer.calls m.log.moments m.log.moments [] m.log.order [] refl quiet);
      };
      told = record {
        counted = one_more m event k.told.counted;
        answered = answered_more (first_words m.kind m.limit m.initial) m.log.events m.words event refl k.told.answered;
        pushes = quiet_pushes m event refl k.told;
        pops = subst (ArePopsTold m.kind (pop_first m.kind looks) m.log.moments m.consumer.calls)
            (sym (own_grows m Consumer event k.told))
            (pop_begun_told m.kind looks m.consumer.first m.log.moments m.consumer.calls m.consumer.pop
            (own Consumer 0 m.log.events) idle k.told.pops);
      };
      few = omega (arith, k.few);
      push_began = omega (arith, k.push_began);
      pop_began = omega arith;
    }

is_busy : (b : Bool) → not b ≡ true → b ≡ false
is_busy true h = absurd (cc)
is_busy false h = refl

happens_keeps : (m : RingState) (step : Move) → fits m step ≡ true → m.log.moments < 2 ^ 63 → IsKept m → IsKept (happens m step)
happens_keeps m (Begin (call.Push value)) fit bound k = push_begins_keeps m value fit k
happens_keeps m (Begin call.Pop) fit bound k = pop_begins_keeps m false fit k
happens_keeps m (Begin call.Look) fit bound k = pop_begins_keeps m true fit k
happens_keeps m (GoOn Producer) fit bound k = push_goes_on_keeps m bound (is_busy (push_is_idle m.producer.push) fit) k
happens_keeps m (GoOn Consumer) fit bound k = pop_goes_on_keeps m bound (is_busy (pop_is_idle m.consumer.pop) fit) k

pub steps_keep : (m : RingState) (step : Move) (r : Stepped) (n : RingState) → StepsTo m step r n → m.log.moments < 2 ^ 63 → IsKept m
    → IsKept n
steps_keep m step stepped.Went n h bound k = subst IsKept (sym h.2) (happens_keeps m step h.0 bound k)
steps_keep m step stepped.Finished n h bound k = subst IsKept (sym h.2) (happens_keeps m step h.0 bound k)
steps_keep m step stepped.Skipped n h bound k = subst IsKept (sym h.1) k
steps_keep m step stepped.NoMemory n h bound k = subst IsKept (sym h.1) k

pub has_cells : (m : RingState) → IsKept m → 0 < length m.words.cells
has_cells m k = let hold = holds m.kind m.limit m.words (waiting m) m.producer.push m.consumer.pop k.shape in hold.cells

-- a step that was made is one event of the end that was asked
made : (m : RingState) (step : Move) → IsMade m step (happens m step)
made m (Begin (call.Push value)) = record
    { event = record { party = Producer; access = Local; answer = 0 }; added = refl; party = refl; asked = refl }
made m (Begin call.Pop)
    = record { event = record { party = Consumer; access = Local; answer = 0 }; added = refl; party = refl; asked = refl }
made m (Begin call.Look)
    = record { event = record { party = Consumer; access = Local; answer = 0 }; added = refl; party = refl; asked = refl }
made m (GoOn Producer)
    = record {
      event = record
          { party = Producer; access = push_next m.producer.push; answer = answer_of m.words (push_next m.producer.push) };
      added = refl;
      party = refl;
      asked = tt;
    }
made m (GoOn Consumer)
    = record {
      event = record
          { party = Consumer; access = pop_next m.consumer.pop; answer = answer_of m.words (pop_next m.consumer.pop) };
      added = refl;
      party = refl;
      asked = tt;
    }

ended_pushes : (m : RingState) (b : Bool) → push_is_over m.producer.push ≡ b
    → ended_calls (push_goes_on m) ≡ ended_calls m + (if b then 1 else 0)
ended_pushes m true e
    = omega (
      arith,
      length-append m.producer.calls (map (push_call m.producer.first m.log.moments) (push_ended m.producer.push)),
      length-map (push_ended m.producer.push) (push_call m.producer.first m.log.moments),
      push_ends_one m.producer.push ∙ ap (λ (b : Bool). if b then 1 else 0) e,
    )
ended_pushes m false e
    = omega (
      arith,
      length-append m.producer.calls (map (push_call m.producer.first m.log.moments) (push_ended m.producer.push)),
      length-map (push_ended m.producer.push) (push_call m.producer.first m.log.moments),
      push_ends_one m.producer.push ∙ ap (λ (b : Bool). if b then 1 else 0) e,
    )

ended_pops : (m : RingState) (b : Bool) → pop_is_over m.consumer.pop ≡ b
    → ended_calls (pop_goes_on m) ≡ ended_calls m + (if b then 1 else 0)
ended_pops m true e = omega (
  arith,
  length-append m.consumer.calls (map (pop_call m.consumer.first m.log.moments) (pop_ended m.consumer.pop)),
  length-map
      (pop_ended m.consumer.pop) (pop_call m.consumer.first m.log.moments),
  pop_ends_one m.consumer.pop ∙ ap (λ (b : Bool). if b then 1 else 0) e,
)
ended_pops m false e = omega (
  arith,
  length-append m.consumer.calls (map (pop_call m.consumer.first m.log.moments) (pop_ended m.consumer.pop)),
  length-map
      (pop_ended m.consumer.pop) (pop_call m.consumer.first m.log.moments),
  pop_ends_one m.consumer.pop ∙ ap (λ (b : Bool). if b then 1 else 0) e,
)

-- a call more is among those that ended exactly with the last step of a call
ended_by : (m : RingState) (step : Move) (b : Bool) → ends m step ≡ b → ended_calls (happens m step) ≡ ended_calls m + (if b then 1 else 0)
ended_by m (Begin (call.Push value)) true e = absurd (cc)
ended_by m (Begin (call.Push value)) false e = omega arith
ended_by m (Begin call.Pop) true e = absurd (cc)
ended_by m (Begin call.Pop) false e = omega arith
ended_by m (Begin call.Look) true e = absurd (cc)
ended_by m (Begin call.Look) false e = omega arith
ended_by m (GoOn Producer) b e = ended_pushes m b e
ended_by m (GoOn Consumer) b e = ended_pops m b e

pub steps_tell : (m : RingState) (step : Move) (r : Stepped) (n : RingState) → StepsTo m step r n → Tells m step r n
steps_tell m step stepped.Went n h =
    subst (λ (x : RingState). IsMade m step x × (ended_calls x ≡ ended_calls m)) (sym h.2)
    (made m step, ended_by m step false h.1 ∙ nothing (ended_calls m))
  where
    nothing : (k : ℕ) → k + 0 ≡ k
    nothing k = omega arith
steps_tell m step stepped.Finished n h
    = subst (λ (x : RingState). IsMade m step x × (ended_calls x ≡ ended_calls m + 1)) (sym h.2) (made m step, ended_by m step true h.1)
steps_tell m step stepped.Skipped n h = h.1
steps_tell m step stepped.NoMemory n h = h.1

-- a step takes at most one moment
happens_moments : (m : RingState) (step : Move) → (happens m step).log.moments ≡ m.log.moments + 1
happens_moments m (Begin (call.Push value)) = refl
happens_moments m (Begin call.Pop) = refl
happens_moments m (Begin call.Look) = refl
happens_moments m (GoOn Producer) = refl
happens_moments m (GoOn Consumer) = refl

pub steps_moments : (m : RingState) (step : Move) (r : Stepped) (n : RingState) → StepsTo m step r n → n.log.moments ≤ m.log.moments + 1
steps_moments m step stepped.Went n h = omega (arith, ap (λ (x : RingState). x.log.moments) h.2, happens_moments m step)
steps_moments m step stepped.Finished n h = omega (arith, ap (λ (x : RingState). x.log.moments) h.2, happens_moments m step)
steps_moments m step stepped.Skipped n h = omega (arith, ap (λ (x : RingState). x.log.moments) h.1)
steps_moments m step stepped.NoMemory n h = omega (arith, ap (λ (x : RingState). x.log.moments) h.1)

-- a new ring
start_kept : (kind : RingKind) (limit : ℕ) (q : List ℕ) → Shape kind limit (first_words kind limit q) q (push_idle kind) (pop_idle kind)
    → put_in_hand 0 (push_idle kind) ≡ [] → pop_ended (pop_idle kind) ≡ [] → push_is_idle (push_idle kind) ≡ true
    → pop_is_idle (pop_idle kind) ≡ true → length q ≤ limit → IsKept (start kind limit q)
start_kept kind limit q shape hand ended idle rest room = record {
  shape = shape;
  order = record {
    acts = tt;
    rises = omega arith;
    puts_match = subst (λ (vs : List PutNow). AllZip PutInside (map (push_call 0 0) vs) []) (sym hand) tt;
    takes_match = subst (λ (vs : List PopAnswer). AllZip TakeInside (map (pop_call 0 0) vs) []) (sym ended) tt;
  };
  told = record {
    counted = refl;
    answered = refl;
    pushes = subst (λ (b : Bool). InHand Push push_next push_take Producer b (push_begun kind limit (push_value (push_idle kind)))
        (push_idle kind) 0 []) (sym idle) refl;
    pops = subst (λ (b : Bool). InHand Pop pop_next pop_take Consumer b (pop_first kind (pop_looks (pop_idle kind))) (pop_idle kind) 0
        []) (sym rest) refl;
  };
  few = omega arith;
  push_began = omega arith;
  pop_began = omega arith;
}

pub overflowing_kept : (limit : ℕ) (q : List ℕ) → 0 < limit → limit < 2 ^ 62 → length q ≤ limit → IsKept (start kind.Overflowing limit q)
overflowing_kept limit q some small room
    = start_kept kind.Overflowing limit q (start_overflowing limit q some small room) refl refl refl refl room

pub refusing_kept : (limit : ℕ) (q : List ℕ) → limit < 2 ^ 62 → length q ≤ limit → IsKept (start kind.Refusing limit q)
refusing_kept limit q small room = start_kept kind.Refusing limit q (start_refusing limit q small room) refl refl refl refl room

pub run_more : (m : RingState) (step : Move) (steps : List Move) (r : Stepped) (m' n : RingState) (k made : ℕ) → StepsTo m step r m'
    → is_stopped_of r ≡ false → made ≡ count_of r + k → RunsTo m' steps k n → RunsTo m (step ∷ steps) made n
run_more m step steps stepped.Went m' n k made h go e g
    = inr (inl (h.0, (k, omega arith, subst (λ (x : RingState). RunsTo x steps k n) h.2 g)))
run_more m step steps stepped.Finished m' n k made h go e g
    = inr (inl (h.0, (k, omega arith, subst (λ (x : RingState). RunsTo x steps k n) h.2 g)))
run_more m step steps stepped.Skipped m' n k made h go e g =
    inl (h.0, subst (λ (i : ℕ). RunsTo m steps i n) (omega arith) (subst (λ (x : RingState). RunsTo x steps k n) h.1 g))
run_more m step steps stepped.NoMemory m' n k made h go e g = absurd (cc)

pub run_stops : (m : RingState) (step : Move) (steps : List Move) (r : Stepped) (m' : RingState) → StepsTo m step r m'
    → is_stopped_of r ≡ true → RunsTo m (step ∷ steps) 0 m'
run_stops m step steps stepped.Went m' h go = absurd (cc)
run_stops m step steps stepped.Finished m' h go = absurd (cc)
run_stops m step steps stepped.Skipped m' h go = absurd (cc)
run_stops m step steps stepped.NoMemory m' h go = inr (inr (h.0, refl, h.1))

pub counts_one : (r : Stepped) (n : ℕ) → n ≡ count_of r → n ≤ 1
counts_one stepped.Went n e = omega arith
counts_one stepped.Finished n e = omega arith
counts_one stepped.Skipped n e = omega arith
counts_one stepped.NoMemory n e = omega arith

pub none_left : (xs : List Move) → length xs ≡ 0 → xs ≡ []
none_left [] h = refl
none_left (x ∷ xs) h = absurd (omega arith)
