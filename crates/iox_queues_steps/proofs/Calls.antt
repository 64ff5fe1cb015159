-- One more step of an end continues its call in progress, or ends it.
use Rattle.std.proofs.Common.{◌≡◌, ℕ, ◌-◌, Bool, true, false, if◌then◌else◌, ◌==◌, ◌%◌, nat_lt, Some, None, slice_index, List, [], ◌∷◌}
use Rattle.std.proofs.Common.{◌++◌, map, length, refl, sym, ◌∙◌, ap, subst, arith, append-nil}
use Rattle.iox_queues_steps.specs.Access.{RingWords, answer_of, successor}
use Rattle.iox_queues_steps.specs.Order.{push_call, pop_call}
use Rattle.iox_queues_steps.specs.Told.{Timed, InHand, local, own, own_one}
use Rattle.iox_queues_steps.specs.declared.order.PushAnswer.TheVariants.{Kept, Refused}
use Rattle.iox_queues_steps.specs.declared.order.PopAnswer.TheVariants.{Got, Saw}
use Rattle.iox_queues_steps.specs.declared.order.PushCall.{PushCall}
use Rattle.iox_queues_steps.specs.declared.order.PopCall.{PopCall}
use Rattle.iox_queues_steps.specs.declared.schedule.Event.{Event}
use Rattle.iox_queues_steps.specs.declared.schedule.Party.{Party}
use Rattle.iox_queues_steps.specs.declared.schedule.Party.TheVariants.{Producer, Consumer}
use Rattle.iox_queues_steps.proofs.Told.{own_more, spans_on, spans_end, open_begun, open_more, open_end}
use Rattle.iox_queues_steps.specs.Overflowing as overflowing
use Rattle.iox_queues_steps.specs.declared.rings.overflowing.push.Push.TheVariants as ov_push
use Rattle.iox_queues_steps.specs.declared.rings.overflowing.pop.Pop.TheVariants as ov_pop
use Rattle.iox_queues_steps.specs.Refusing as refusing
use Rattle.iox_queues_steps.specs.declared.rings.refusing.push.Push.TheVariants as re_push
use Rattle.iox_queues_steps.specs.declared.rings.refusing.pop.Pop.TheVariants as re_pop
use Rattle.iox_queues_steps.specs.Ends.{push_begun, push_kind, push_next, push_take, push_is_idle, push_value, push_ended, pop_begun}
use Rattle.iox_queues_steps.specs.Ends.{pop_look, pop_first, pop_kind, pop_next, pop_take, pop_is_idle, pop_looks, pop_ended}
use Rattle.iox_queues_steps.specs.RingMachine.{RingState, IsTold, IsPushTold, IsPopTold, ArePushesTold, ArePopsTold}
use Rattle.iox_queues_steps.specs.declared.rings.ends.RingKind.{RingKind}
use Rattle.iox_queues_steps.specs.declared.rings.ends.RingKind.TheVariants as kind
use Rattle.iox_queues_steps.specs.declared.rings.ends.Push.{Push}
use Rattle.iox_queues_steps.specs.declared.rings.ends.Push.TheVariants as push
use Rattle.iox_queues_steps.specs.declared.rings.ends.Pop.{Pop}
use Rattle.iox_queues_steps.specs.declared.rings.ends.Pop.TheVariants as pop

-- the steps of an end, with one more event
pub own_grows : (m : RingState) (party : Party) (event : Event) → IsTold m
    → own party 0 (m.log.events ++ event ∷ []) ≡ own party 0 m.log.events ++ own_one party m.log.moments event
own_grows m party event t =
    own_more party 0 m.log.events event ∙ ap (λ (k : ℕ). own party 0 m.log.events ++ own_one party k event)
    (let e : length m.log.events ≡ m.log.moments = t.counted in omega arith)

-- the step of an end at a moment
abbrev pub push_step : ℕ → Push → ℕ → Timed
push_step m p answer = record { moment = m; event = record { party = Producer; access = push_next p; answer = answer } }

abbrev pub pop_step : ℕ → Pop → ℕ → Timed
pop_step m p answer = record { moment = m; event = record { party = Consumer; access = pop_next p; answer = answer } }

-- a push begins
pub push_begun_told : (kind : RingKind) (limit value first m : ℕ) (calls : List PushCall) (p : Push) (steps : List Timed)
    → push_is_idle p ≡ true → ArePushesTold kind limit p first calls steps
    → ArePushesTold kind limit (push_begun kind limit value) m calls (steps ++ local Producer m ∷ [])
push_begun_told kind.Overflowing limit value first m calls p steps idle h =
    spans_on (IsPushTold kind.Overflowing limit)
    (InHand Push push_next push_take Producer (push_is_idle p) (push_begun kind.Overflowing limit (push_value p)) p first)
    (InHand Push push_next push_take Producer false (push_begun kind.Overflowing limit value)
    (push_begun kind.Overflowing limit value) m) calls steps (local Producer m ∷ [])
    (λ hand g. open_begun Push push_next push_take Producer (push_is_idle p) false (push_begun kind.Overflowing limit (push_value p)) p
    (push_begun kind.Overflowing limit value) first m hand idle refl g) h
push_begun_told kind.Refusing limit value first m calls p steps idle h =
    spans_on (IsPushTold kind.Refusing limit)
    (InHand Push push_next push_take Producer (push_is_idle p) (push_begun kind.Refusing limit (push_value p)) p first)
    (InHand Push push_next push_take Producer false (push_begun kind.Refusing limit value) (push_begun kind.Refusing limit value) m)
    calls steps (local Producer m ∷ [])
    (λ hand g. open_begun Push push_next push_take Producer (push_is_idle p) false (push_begun kind.Refusing limit (push_value p)) p
    (push_begun kind.Refusing limit value) first m hand idle refl g) h

-- a push that goes on
push_on : (kind : RingKind) (limit first m : ℕ) (calls : List PushCall) (p p' : Push) (answer : ℕ) (steps : List Timed)
    → push_is_idle p ≡ false → push_is_idle p' ≡ false → push_value p' ≡ push_value p → p' ≡ push_take p answer
    → ArePushesTold kind limit p first calls steps → ArePushesTold kind limit p' first (calls ++ []) (steps ++ push_step m p answer ∷ [])
push_on kind limit first m calls p p' answer steps busy busy' value on h =
    subst (λ (cs : List PushCall). ArePushesTold kind limit p' first cs (steps ++ push_step m p answer ∷ [])) (sym (append-nil calls))
    (spans_on (IsPushTold kind limit) (InHand Push push_next push_take Producer (push_is_idle p) (push_begun kind limit (push_value p))
    p first) (InHand Push push_next push_take Producer (push_is_idle p') (push_begun kind limit (push_value p')) p' first) calls
    steps (push_step m p answer ∷ [])
    (λ hand g. open_more Push push_next push_take Producer (push_is_idle p) (push_is_idle p') (push_begun kind limit (push_value p)) p
    (push_begun kind limit (push_value p')) p' first hand (push_step m p answer) busy busy' (ap (push_begun kind limit) value) on
    refl g) h)

-- a push of a ring that overflows, after its store of the write position
filled_busy : (value next seen : ℕ) (b : Bool)
    → (overflowing.push_is_idle (if b then ov_push.Full value seen next else ov_push.Pushed value Kept) ≡ false)
    × (overflowing.push_value (if b then ov_push.Full value seen next else ov_push.Pushed value Kept) ≡ value)
filled_busy value next seen true = (refl, refl)
filled_busy value next seen false = (refl, refl)

measured_busy : (value write next : ℕ) (b : Bool)
    → (refusing.push_is_idle (if b then re_push.SawRoom value write next else re_push.Pushed value Refused) ≡ false)
    × (refusing.push_value (if b then re_push.SawRoom value write next else re_push.Pushed value Refused) ≡ value)
measured_busy value write next true = (refl, refl)
measured_busy value write next false = (refl, refl)

-- each step inside a push
pub push_told : (kind : RingKind) (limit first m : ℕ) (calls : List PushCall) (p : Push) (words : RingWords) (steps : List Timed)
    → push_is_idle p ≡ false → push_kind p ≡ kind → ArePushesTold kind limit p first calls steps
    → ArePushesTold kind limit (push_take p (answer_of words (push_next p))) first (calls ++ map (push_call first m) (push_ended p))
    (steps ++ push_step m p (answer_of words (push_next p)) ∷ [])
push_told kind limit first m calls (push.Overflowing ov_push.Idle) words steps i k h = absurd (cc)
push_told kind limit first m calls (push.Overflowing (ov_push.Begun l v)) words steps i k h
    = push_on kind limit first m calls (push.Overflowing (ov_push.Begun l v)) _ words.write steps refl refl refl refl h
push_told kind limit first m calls (push.Overflowing (ov_push.SawWrite l v w n)) words steps i k h
    = push_on kind limit first m calls (push.Overflowing (ov_push.SawWrite l v w n)) _ words.read steps refl refl refl refl h
push_told kind limit first m calls (push.Overflowing (ov_push.SawRead l v w n seen)) words steps i k h
    = push_on kind limit first m calls (push.Overflowing (ov_push.SawRead l v w n seen)) _ 0 steps refl refl refl refl h
push_told kind limit first m calls (push.Overflowing (ov_push.Filled l v w n seen)) words steps i k h =
    let busy = filled_busy v (successor seen) seen (nat_lt l (n - seen)) in
    push_on kind limit first m calls (push.Overflowing (ov_push.Filled l v w n seen))
    (push.Overflowing (overflowing.push_filled l v n seen)) 0 steps refl busy.0 busy.1 refl h
push_told kind limit first m calls (push.Overflowing (ov_push.Full v seen n)) words steps i k h
    = push_on kind limit first m calls (push.Overflowing (ov_push.Full v seen n)) _
    (slice_index words.cells (seen % length words.cells)) steps refl refl refl refl h
push_told kind limit first m calls (push.Overflowing (ov_push.SawOldest v seen n oldest)) words steps i k h
    = push_on kind limit first m calls (push.Overflowing (ov_push.SawOldest v seen n oldest)) _ words.read steps refl refl refl refl h
push_told kind.Overflowing limit first m calls (push.Overflowing (ov_push.Pushed v a)) words steps i k h =
    spans_end (IsPushTold kind.Overflowing limit)
    (InHand Push push_next push_take Producer false (push_begun kind.Overflowing limit v) (push.Overflowing (ov_push.Pushed v a))
    first) (InHand Push push_next push_take Producer true (push_begun kind.Overflowing limit 0) (push.Overflowing ov_push.Idle)
    first) calls (record { value = v; answer = a; first = first; last = m }) steps (local Producer m ∷ [])
    (λ hand g. open_end Push push_next push_take Producer false (push_begun kind.Overflowing limit v)
    (push.Overflowing (ov_push.Pushed v a)) first m hand refl g) refl h
push_told kind.Refusing limit first m calls (push.Overflowing (ov_push.Pushed v a)) words steps i k h = absurd (cc)
push_told kind limit first m calls (push.Refusing re_push.Idle) words steps i k h = absurd (cc)
push_told kind limit first m calls (push.Refusing (re_push.Begun l v)) words steps i k h
    = push_on kind limit first m calls (push.Refusing (re_push.Begun l v)) _ words.write steps refl refl refl refl h
push_told kind limit first m calls (push.Refusing (re_push.SawWrite l v w n)) words steps i k h =
    let busy = measured_busy v w n (nat_lt (w - words.read) l) in
    push_on kind limit first m calls (push.Refusing (re_push.SawWrite l v w n))
    (push.Refusing (refusing.push_measured l v w n words.read)) words.read steps refl busy.0 busy.1 refl h
push_told kind limit first m calls (push.Refusing (re_push.SawRoom v w n)) words steps i k h
    = push_on kind limit first m calls (push.Refusing (re_push.SawRoom v w n)) _ 0 steps refl refl refl refl h
push_told kind limit first m calls (push.Refusing (re_push.Filled v n)) words steps i k h
    = push_on kind limit first m calls (push.Refusing (re_push.Filled v n)) _ 0 steps refl refl refl refl h
push_told kind.Refusing limit first m calls (push.Refusing (re_push.Pushed v a)) words steps i k h =
    spans_end (IsPushTold kind.Refusing limit)
    (InHand Push push_next push_take Producer false (push_begun kind.Refusing limit v) (push.Refusing (re_push.Pushed v a)) first)
    (InHand Push push_next push_take Producer true (push_begun kind.Refusing limit 0) (push.Refusing re_push.Idle) first) calls
    (record { value = v; answer = a; first = first; last = m }) steps (local Producer m ∷ [])
    (λ hand g. open_end Push push_next push_take Producer false (push_begun kind.Refusing limit v) (push.Refusing (re_push.Pushed v a))
    first m hand refl g) refl h
push_told kind.Overflowing limit first m calls (push.Refusing (re_push.Pushed v a)) words steps i k h = absurd (cc)

looks_same : (kind : RingKind) (looks : Bool) → pop_looks (pop_first kind looks) ≡ looks
looks_same kind.Overflowing true = refl
looks_same kind.Overflowing false = refl
looks_same kind.Refusing true = refl
looks_same kind.Refusing false = refl

first_busy : (kind : RingKind) (looks : Bool) → pop_is_idle (pop_first kind looks) ≡ false
first_busy kind.Overflowing true = refl
first_busy kind.Overflowing false = refl
first_busy kind.Refusing true = refl
first_busy kind.Refusing false = refl

-- a pop or a look begins
pub pop_begun_told : (kind : RingKind) (looks : Bool) (first m : ℕ) (calls : List PopCall) (p : Pop) (steps : List Timed)
    → pop_is_idle p ≡ true → ArePopsTold kind p first calls steps
    → ArePopsTold kind (pop_first kind looks) m calls (steps ++ local Consumer m ∷ [])
pop_begun_told kind looks first m calls p steps idle h =
    spans_on (IsPopTold kind) (InHand Pop pop_next pop_take Consumer (pop_is_idle p) (pop_first kind (pop_looks p)) p first)
    (InHand Pop pop_next pop_take Consumer (pop_is_idle (pop_first kind looks)) (pop_first kind (pop_looks (pop_first kind looks)))
    (pop_first kind looks) m) calls steps (local Consumer m ∷ [])
    (λ hand g. subst (λ (b : Bool). InHand Pop pop_next pop_take Consumer (pop_is_idle (pop_first kind looks)) (pop_first kind b)
    (pop_first kind looks) m (hand ++ local Consumer m ∷ [])) (sym (looks_same kind looks))
    (open_begun Pop pop_next pop_take Consumer (pop_is_idle p) (pop_is_idle (pop_first kind looks)) (pop_first kind (pop_looks p)) p
    (pop_first kind looks) first m hand idle (first_busy kind looks) g)) h

-- a pop or a look that goes on
pop_on : (kind : RingKind) (first m : ℕ) (calls : List PopCall) (p p' : Pop) (answer : ℕ) (steps : List Timed) → pop_is_idle p ≡ false
    → pop_is_idle p' ≡ false → pop_looks p' ≡ pop_looks p → p' ≡ pop_take p answer → ArePopsTold kind p first calls steps
    → ArePopsTold kind p' first (calls ++ []) (steps ++ pop_step m p answer ∷ [])
pop_on kind first m calls p p' answer steps busy busy' looks on h =
    subst (λ (cs : List PopCall). ArePopsTold kind p' first cs (steps ++ pop_step m p answer ∷ [])) (sym (append-nil calls))
    (spans_on (IsPopTold kind) (InHand Pop pop_next pop_take Consumer (pop_is_idle p) (pop_first kind (pop_looks p)) p first)
    (InHand Pop pop_next pop_take Consumer (pop_is_idle p') (pop_first kind (pop_looks p')) p' first) calls steps
    (pop_step m p answer ∷ [])
    (λ hand g. open_more Pop pop_next pop_take Consumer (pop_is_idle p) (pop_is_idle p') (pop_first kind (pop_looks p)) p
    (pop_first kind (pop_looks p')) p' first hand (pop_step m p answer) busy busy' (ap (pop_first kind) looks) on refl g) h)

-- a pop or a look that was answered ends
pop_end : (kind : RingKind) (first m : ℕ) (calls : List PopCall) (p p' : Pop) (call : PopCall) (steps : List Timed)
    → pop_is_idle p ≡ false → pop_is_idle p' ≡ true
    → ((hand : List Timed) → InHand Pop pop_next pop_take Consumer (pop_is_idle p) (pop_first kind (pop_looks p)) p first hand
    → IsPopTold kind call (hand ++ local Consumer m ∷ [])) → ArePopsTold kind p first calls steps
    → ArePopsTold kind p' first (calls ++ call ∷ []) (steps ++ local Consumer m ∷ [])
pop_end kind first m calls p p' call steps busy idle whole h =
    spans_end (IsPopTold kind) (InHand Pop pop_next pop_take Consumer (pop_is_idle p) (pop_first kind (pop_looks p)) p first)
    (InHand Pop pop_next pop_take Consumer (pop_is_idle p') (pop_first kind (pop_looks p')) p' first) calls call steps
    (local Consumer m ∷ []) whole (none (pop_is_idle p') (pop_first kind (pop_looks p')) p' first idle) h
  where
    none : (b : Bool) (begun stage : Pop) (first : ℕ) → b ≡ true → InHand Pop pop_next pop_take Consumer b begun stage first []
    none true begun stage first e = refl
    none false begun stage first e = absurd (cc)

emptied_busy : (seen next : ℕ) (b : Bool)
    → (overflowing.pop_is_idle (if b then ov_pop.Popped None else ov_pop.Nonempty seen next) ≡ false)
    × (overflowing.pop_looks (if b then ov_pop.Popped None else ov_pop.Nonempty seen next) ≡ false)
emptied_busy seen next true = (refl, refl)
emptied_busy seen next false = (refl, refl)

swapped_busy : (seen next value : ℕ) (b : Bool)
    → (overflowing.pop_is_idle (if b then ov_pop.Popped (Some value) else ov_pop.Nonempty seen next) ≡ false)
    × (overflowing.pop_looks (if b then ov_pop.Popped (Some value) else ov_pop.Nonempty seen next) ≡ false)
swapped_busy seen next value true = (refl, refl)
swapped_busy seen next value false = (refl, refl)

refusing_busy : (seen next : ℕ) (b : Bool)
    → (refusing.pop_is_idle (if b then re_pop.Popped None else re_pop.Nonempty seen next) ≡ false)
    × (refusing.pop_looks (if b then re_pop.Popped None else re_pop.Nonempty seen next) ≡ false)
refusing_busy seen next true = (refl, refl)
refusing_busy seen next false = (refl, refl)

-- each step inside a pop or a look
pub pop_told : (kind : RingKind) (first m : ℕ) (calls : List PopCall) (p : Pop) (words : RingWords) (steps : List Timed)
    → pop_is_idle p ≡ false → pop_kind p ≡ kind → ArePopsTold kind p first calls steps
    → ArePopsTold kind (pop_take p (answer_of words (pop_next p))) first (calls ++ map (pop_call first m) (pop_ended p))
    (steps ++ pop_step m p (answer_of words (pop_next p)) ∷ [])
pop_told kind first m calls (pop.Overflowing ov_pop.Idle) words steps i k h = absurd (cc)
pop_told kind first m calls (pop.Overflowing ov_pop.Begun) words steps i k h
    = pop_on kind first m calls (pop.Overflowing ov_pop.Begun) _ words.read steps refl refl refl refl h
pop_told kind first m calls (pop.Overflowing (ov_pop.SawRead seen)) words steps i k h =
    let busy = emptied_busy seen (successor seen) (words.write == seen) in
    pop_on kind first m calls (pop.Overflowing (ov_pop.SawRead seen))
    (pop.Overflowing (overflowing.pop_emptied (words.write == seen) seen)) words.write steps refl busy.0 busy.1 refl h
pop_told kind first m calls (pop.Overflowing (ov_pop.Nonempty seen n)) words steps i k h
    = pop_on kind first m calls (pop.Overflowing (ov_pop.Nonempty seen n)) _ (slice_index words.cells (seen % length words.cells)) steps
    refl refl refl refl h
pop_told kind first m calls (pop.Overflowing (ov_pop.SawCell seen n v)) words steps i k h =
    let busy = swapped_busy words.read (successor words.read) v (words.read == seen) in
    pop_on kind first m calls (pop.Overflowing (ov_pop.SawCell seen n v))
    (pop.Overflowing (overflowing.pop_swapped (words.read == seen) words.read v)) words.read steps refl busy.0 busy.1 refl h
pop_told kind.Overflowing first m calls (pop.Overflowing (ov_pop.Popped got)) words steps i k h =
    pop_end kind.Overflowing first m calls (pop.Overflowing (ov_pop.Popped got)) (pop.Overflowing ov_pop.Idle)
    (record { answer = Got got; first = first; last = m }) steps refl refl
    (λ hand g. open_end Pop pop_next pop_take Consumer false (pop_begun kind.Overflowing) (pop.Overflowing (ov_pop.Popped got)) first m
    hand refl g) h
pop_told kind.Refusing first m calls (pop.Overflowing (ov_pop.Popped got)) words steps i k h = absurd (cc)
pop_told kind first m calls (pop.Overflowing ov_pop.LookBegun) words steps i k h
    = pop_on kind first m calls (pop.Overflowing ov_pop.LookBegun) _ words.read steps refl refl refl refl h
pop_told kind first m calls (pop.Overflowing (ov_pop.LookRead seen)) words steps i k h
    = pop_on kind first m calls (pop.Overflowing (ov_pop.LookRead seen)) _ words.write steps refl refl refl refl h
pop_told kind.Overflowing first m calls (pop.Overflowing (ov_pop.Looked some)) words steps i k h =
    pop_end kind.Overflowing first m calls (pop.Overflowing (ov_pop.Looked some)) (pop.Overflowing ov_pop.Idle)
    (record { answer = Saw some; first = first; last = m }) steps refl refl
    (λ hand g. open_end Pop pop_next pop_take Consumer false (pop_look kind.Overflowing) (pop.Overflowing (ov_pop.Looked some)) first m
    hand refl g) h
pop_told kind.Refusing first m calls (pop.Overflowing (ov_pop.Looked some)) words steps i k h = absurd (cc)
pop_told kind first m calls (pop.Refusing re_pop.Idle) words steps i k h = absurd (cc)
pop_told kind first m calls (pop.Refusing re_pop.Begun) words steps i k h
    = pop_on kind first m calls (pop.Refusing re_pop.Begun) _ words.read steps refl refl refl refl h
pop_told kind first m calls (pop.Refusing (re_pop.SawRead seen)) words steps i k h =
    let busy = refusing_busy seen (successor seen) (words.write == seen) in
    pop_on kind first m calls (pop.Refusing (re_pop.SawRead seen)) (pop.Refusing (refusing.pop_emptied (words.write == seen) seen))
    words.write steps refl busy.0 busy.1 refl h
pop_told kind first m calls (pop.Refusing (re_pop.Nonempty seen n)) words steps i k h
    = pop_on kind first m calls (pop.Refusing (re_pop.Nonempty seen n)) _ (slice_index words.cells (seen % length words.cells)) steps
    refl refl refl refl h
pop_told kind first m calls (pop.Refusing (re_pop.SawCell n v)) words steps i k h
    = pop_on kind first m calls (pop.Refusing (re_pop.SawCell n v)) _ 0 steps refl refl refl refl h
pop_told kind.Refusing first m calls (pop.Refusing (re_pop.Popped got)) words steps i k h =
    pop_end kind.Refusing first m calls (pop.Refusing (re_pop.Popped got)) (pop.Refusing re_pop.Idle)
    (record { answer = Got got; first = first; last = m }) steps refl refl
    (λ hand g. open_end Pop pop_next pop_take Consumer false (pop_begun kind.Refusing) (pop.Refusing (re_pop.Popped got)) first m hand
    refl g) h
pop_told kind.Overflowing first m calls (pop.Refusing (re_pop.Popped got)) words steps i k h = absurd (cc)
pop_told kind first m calls (pop.Refusing re_pop.LookBegun) words steps i k h
    = pop_on kind first m calls (pop.Refusing re_pop.LookBegun) _ words.read steps refl refl refl refl h
pop_told kind first m calls (pop.Refusing (re_pop.LookRead seen)) words steps i k h
    = pop_on kind first m calls (pop.Refusing (re_pop.LookRead seen)) _ words.write steps refl refl refl refl h
pop_told kind.Refusing first m calls (pop.Refusing (re_pop.Looked some)) words steps i k h =
    pop_end kind.Refusing first m calls (pop.Refusing (re_pop.Looked some)) (pop.Refusing re_pop.Idle)
    (record { answer = Saw some; first = first; last = m }) steps refl refl
    (λ hand g. open_end Pop pop_next pop_take Consumer false (pop_look kind.Refusing) (pop.Refusing (re_pop.Looked some)) first m hand
    refl g) h
pop_told kind.Overflowing first m calls (pop.Refusing (re_pop.Looked some)) words steps i k h = absurd (cc)
