-- Orders with the numbers of their messages in place of slots.
use Rattle.std.proofs.Common.{ℕ, zero, suc, ◌≡◌, ◌<◌, ◌≤◌, ◌==◌, ◌&&◌, Bool, true, false, nat_le, nat_lt, if◌then◌else◌, List}
use Rattle.std.proofs.Common.{[], ◌∷◌, ◌++◌, length, map, drop, get_or, option_map, slice_get, slice_index, unwrap_or, Option, None, Some}
use Rattle.std.proofs.Common.{refl, sym, ◌∙◌, ap, ap₂, subst, inl, inr, arith}
use Rattle.std.specs.List.{All}
use Rattle.std.proofs.lemmas.Bool.{le-leb, lt-leb}
use Rattle.std.proofs.lemmas.Bool.Decides.{eqb_tells}
use Rattle.std.proofs.lemmas.List.{length-append, length-map}
use Rattle.std.proofs.lemmas.List.Elements.{All-append, All-cons, All-get_or, All-head, All-nil, All-tail, All-weaker}
use Rattle.std.proofs.lemmas.Option.{get_or_from_slice_get, slice_get_within}
use Rattle.iox_lanes_machine.specs.QueuesSteps.Order.{Acts, IsAnswered, acts_of, after_act, after_acts, after_put, at}
use Rattle.iox_lanes_machine.specs.QueuesSteps.declared.order.Act.{Act}
use Rattle.iox_lanes_machine.specs.QueuesSteps.declared.order.Act.TheVariants.{Put, Take}
use Rattle.iox_lanes_machine.specs.QueuesSteps.declared.order.Placed.{Placed}
use Rattle.iox_lanes_machine.specs.QueuesSteps.declared.order.PopAnswer.TheVariants.{Got, Saw}
use Rattle.iox_lanes_machine.specs.QueuesSteps.declared.order.PushAnswer.{PushAnswer}
use Rattle.iox_lanes_machine.specs.QueuesSteps.declared.order.PushAnswer.TheVariants.{Kept, LeftOut, Refused}
use Rattle.iox_lanes_machine.proofs.QueuesSteps.Orders.{acts_more, Acts-append, after_acts-append}
use Rattle.iox_lanes_laws.specs.Messages.{MessageState}
use Rattle.iox_lanes_laws.specs.Numbered.{last_number, number_by, numbered, numbered_act, numbered_put, was_sent_by}

-- the first of a list, with a function on each
first_of : (f : ℕ → ℕ) (q : List ℕ) (v : ℕ) → f (slice_index (q ++ v ∷ []) 0) ≡ slice_index (map f q ++ f v ∷ []) 0
first_of f [] v = refl
first_of f (x ∷ xs) v = refl

one_more_of : (f : ℕ → ℕ) (q : List ℕ) (v : ℕ) → map f (q ++ v ∷ []) ≡ map f q ++ f v ∷ []
one_more_of f [] v = refl
one_more_of f (x ∷ xs) v = ap (λ (ys : List ℕ). f x ∷ ys) (one_more_of f xs v)

rest_of : (f : ℕ → ℕ) (q : List ℕ) → map f (drop 1 q) ≡ drop 1 (map f q)
rest_of f [] = refl
rest_of f (x ∷ xs) = refl

head_of : (f : ℕ → ℕ) (q : List ℕ) → option_map f (slice_get q 0) ≡ slice_get (map f q) 0
head_of f [] = refl
head_of f (x ∷ xs) = refl

-- what a put answers on a list, by whether it is full and whether it overflows
answered_so : (f : ℕ → ℕ) (o fits : Bool) (q : List ℕ) (v : ℕ)
    → numbered_put f (if fits then Kept else (if o then LeftOut (slice_index (q ++ v ∷ []) 0) else Refused))
    ≡ (if fits then Kept else (if o then LeftOut (slice_index (map f q ++ f v ∷ []) 0) else Refused))
answered_so f o true q v = refl
answered_so f true false q v = ap (λ (slot : ℕ). LeftOut slot) (first_of f q v)
answered_so f false false q v = refl

put_over_so : (f : ℕ → ℕ) (fits : Bool) (q : List ℕ) (v : ℕ)
    → map f (if fits then q ++ v ∷ [] else drop 1 (q ++ v ∷ [])) ≡ (if fits then map f q ++ f v ∷ [] else drop 1 (map f q ++ f v ∷ []))
put_over_so f true q v = one_more_of f q v
put_over_so f false q v = rest_of f (q ++ v ∷ []) ∙ ap (drop 1) (one_more_of f q v)

put_so : (f : ℕ → ℕ) (fits : Bool) (q : List ℕ) (v : ℕ)
    → map f (if fits then q ++ v ∷ [] else q) ≡ (if fits then map f q ++ f v ∷ [] else map f q)
put_so f true q v = one_more_of f q v
put_so f false q v = refl

after_put_so : (f : ℕ → ℕ) (o : Bool) (limit : ℕ) (q : List ℕ) (v : ℕ)
    → map f (after_put o limit q v) ≡ after_put o limit (map f q) (f v)
after_put_so f true limit q v = put_over_so f (nat_lt (length q) limit) q v
    ∙ ap (λ (n : ℕ). if nat_lt n limit then map f q ++ f v ∷ [] else drop 1 (map f q ++ f v ∷ [])) (sym (length-map q f))
after_put_so f false limit q v = put_so f (nat_lt (length q) limit) q v
    ∙ ap (λ (n : ℕ). if nat_lt n limit then map f q ++ f v ∷ [] else map f q) (sym (length-map q f))

after_so : (f : ℕ → ℕ) (o : Bool) (limit : ℕ) (q : List ℕ) (act : Act)
    → map f (after_act o limit q act) ≡ after_act o limit (map f q) (numbered_act f act)
after_so f o limit q (Put value answer) = after_put_so f o limit q value
after_so f o limit q (Take (Got got)) = rest_of f q
after_so f o limit q (Take (Saw some)) = refl

answer_so : (f : ℕ → ℕ) (o : Bool) (limit : ℕ) (q : List ℕ) (act : Act) → IsAnswered o limit q act
    → IsAnswered o limit (map f q) (numbered_act f act)
answer_so f o limit q (Put value answer) is =
    ap (numbered_put f) is ∙ answered_so f o (nat_lt (length q) limit) q value
    ∙ ap (λ (n : ℕ). if nat_lt n limit then Kept else (if o then LeftOut (slice_index (map f q ++ f value ∷ []) 0) else Refused))
    (sym (length-map q f))
answer_so f o limit q (Take (Got got)) is = ap (option_map f) is ∙ head_of f q
answer_so f o limit q (Take (Saw some)) is = is ∙ ap (nat_lt 0) (sym (length-map q f))

-- acts with a function on each slot answer as the list of what it gives does
pub acts_so : (f : ℕ → ℕ) (o : Bool) (limit : ℕ) (q : List ℕ) (acts : List Act) → Acts o limit q acts
    → Acts o limit (map f q) (map (numbered_act f) acts)
acts_so f o limit q [] h = tt
acts_so f o limit q (act ∷ acts) h = (
  answer_so f o limit q act h.0,
  subst (λ (w : List ℕ). Acts o limit w (map (numbered_act f) acts)) (after_so f o limit q act)
      (acts_so f o limit (after_act o limit q act) acts h.1),
)

pub after_acts_so : (f : ℕ → ℕ) (o : Bool) (limit : ℕ) (q : List ℕ) (acts : List Act)
    → map f (after_acts o limit q acts) ≡ after_acts o limit (map f q) (map (numbered_act f) acts)
after_acts_so f o limit q [] = refl
after_acts_so f o limit q (act ∷ acts) = after_acts_so f o limit (after_act o limit q act) acts
    ∙ ap (λ (w : List ℕ). after_acts o limit w (map (numbered_act f) acts)) (after_so f o limit q act)

-- acts of a whole order answer, so those after some of them do
behind : (o : Bool) (limit : ℕ) (q : List ℕ) (xs ys : List Act) → Acts o limit q (xs ++ ys) → Acts o limit (after_acts o limit q xs) ys
behind o limit q [] ys h = h
behind o limit q (x ∷ xs) ys h = behind o limit (after_act o limit q x) xs ys h.1

-- an order that some acts of one moment stand after
numbered_more : (ms : List MessageState) (order : List Placed) (moment : ℕ) (acts : List Act)
    → numbered ms (order ++ at moment acts) ≡ numbered ms order ++ map (numbered_act (number_by ms moment)) acts
numbered_more ms [] moment [] = refl
numbered_more ms [] moment (act ∷ acts)
    = ap (λ (xs : List Act). numbered_act (number_by ms moment) act ∷ xs) (numbered_more ms [] moment acts)
numbered_more ms (placed ∷ order) moment acts
    = ap (λ (xs : List Act). numbered_act (number_by ms placed.moment) placed.act ∷ xs) (numbered_more ms order moment acts)

-- what stands before the end of a list stands there with more after it
pub kept_at : (ms more : List MessageState) (k : ℕ) → k < length ms → slice_get (ms ++ more) k ≡ slice_get ms k
kept_at [] more k below = absurd (omega (arith, below))
kept_at (m ∷ ms) more zero below = refl
kept_at (m ∷ ms) more (suc k) below = kept_at ms more k (omega (arith, below))

last_kept : (ms more : List MessageState) (slot moment count : ℕ) → count ≤ length ms
    → last_number (ms ++ more) slot moment count ≡ last_number ms slot moment count
last_kept ms more slot moment zero within = refl
last_kept ms more slot moment (suc count) within =
    ap₂ (λ (b : Bool) (rest : Option ℕ). if b then Some count else rest)
    (ap (was_sent_by slot moment) (kept_at ms more count (omega (arith, within))))
    (last_kept ms more slot moment count (omega (arith, within)))

-- the one after a list
pub next_at : (ms : List MessageState) (one : MessageState) → slice_get (ms ++ one ∷ []) (length ms) ≡ Some one
next_at [] one = refl
next_at (m ∷ ms) one = next_at ms one

-- one message more that isn't of the slot, or comes later, leaves the number
pub same_last : (ms : List MessageState) (one : MessageState) (slot moment : ℕ) → was_sent_by slot moment (Some one) ≡ false
    → last_number (ms ++ one ∷ []) slot moment (length (ms ++ one ∷ [])) ≡ last_number ms slot moment (length ms)
same_last ms one slot moment not =
    let long : length (ms ++ one ∷ []) ≡ suc (length ms) = length-append ms (one ∷ []) ∙ omega arith in
    let none : was_sent_by slot moment (slice_get (ms ++ one ∷ []) (length ms)) ≡ false
    = ap (was_sent_by slot moment) (next_at ms one) ∙ not in
    ap (last_number (ms ++ one ∷ []) slot moment) long
    ∙ ap (λ (b : Bool). if b then Some (length ms) else last_number (ms ++ one ∷ []) slot moment (length ms)) none
    ∙ last_kept ms (one ∷ []) slot moment (length ms) (omega arith)

same_number : (ms : List MessageState) (one : MessageState) (slot moment : ℕ) → was_sent_by slot moment (Some one) ≡ false
    → number_by (ms ++ one ∷ []) moment slot ≡ number_by ms moment slot
same_number ms one slot moment not = ap (λ (n : Option ℕ). unwrap_or n 0) (same_last ms one slot moment not)

-- and one that is of the slot, and doesn't come later, gives its own
pub own_last : (ms : List MessageState) (one : MessageState) (slot moment : ℕ) → was_sent_by slot moment (Some one) ≡ true
    → last_number (ms ++ one ∷ []) slot moment (length (ms ++ one ∷ [])) ≡ Some (length ms)
own_last ms one slot moment is =
    let long : length (ms ++ one ∷ []) ≡ suc (length ms) = length-append ms (one ∷ []) ∙ omega arith in
    let own : was_sent_by slot moment (slice_get (ms ++ one ∷ []) (length ms)) ≡ true
    = ap (was_sent_by slot moment) (next_at ms one) ∙ is in
    ap (last_number (ms ++ one ∷ []) slot moment) long
    ∙ ap (λ (b : Bool). if b then Some (length ms) else last_number (ms ++ one ∷ []) slot moment (length ms)) own

-- of messages that are early, the number is the same at any later moment
was_early : (slot early late : ℕ) (one : Option MessageState) → ((message : MessageState) → one ≡ Some message → message.moment ≤ early)
    → early ≤ late → was_sent_by slot late one ≡ was_sent_by slot early one
was_early slot early late None h up = refl
was_early slot early late (Some one) h up =
    let before : one.moment ≤ early = h one refl in
    ap (λ (b : Bool). (one.slot == slot) && b)
    (le-leb one.moment late (omega (arith, before, up)) ∙ sym (le-leb one.moment early before))

got_early : (early : ℕ) (ms : List MessageState) (k : ℕ) (one : MessageState) → All (λ (message : MessageState). message.moment ≤ early) ms
    → slice_get ms k ≡ Some one → one.moment ≤ early
got_early early ms k one all is =
    let here : get_or ms k one ≡ one = get_or_there ms k one is in
    subst (λ (message : MessageState). message.moment ≤ early) here
    (All-get_or (λ (message : MessageState). message.moment ≤ early) ms k one (slice_get_within ms k one is) all)
  where
    get_or_there : (xs : List MessageState) (at : ℕ) (x : MessageState) → slice_get xs at ≡ Some x → get_or xs at x ≡ x
    get_or_there xs at x found = get_or_from_slice_get xs at x x found

pub late_number : (ms : List MessageState) (slot early late count : ℕ) → All (λ (message : MessageState). message.moment ≤ early) ms
    → early ≤ late
    → last_number ms slot late count ≡ last_number ms slot early count
late_number ms slot early late zero all up = refl
late_number ms slot early late (suc count) all up =
    ap₂ (λ (b : Bool) (rest : Option ℕ). if b then Some count else rest)
    (was_early slot early late (slice_get ms count) (λ message is. got_early early ms count message all is) up)
    (late_number ms slot early late count all up)

pub number_late : (ms : List MessageState) (slot early late : ℕ) → All (λ (message : MessageState). message.moment ≤ early) ms
    → early ≤ late
    → number_by ms late slot ≡ number_by ms early slot
number_late ms slot early late all up = ap (λ (n : Option ℕ). unwrap_or n 0) (late_number ms slot early late (length ms) all up)

-- a message that comes later, or in another slot, isn't the one
pub comes_later : (one : MessageState) (slot moment : ℕ) → moment < one.moment → was_sent_by slot moment (Some one) ≡ false
comes_later one slot moment late = by_test (one.slot == slot) (nat_le one.moment moment) (lt-leb one.moment moment late)
  where
    by_test : (b c : Bool) → c ≡ false → b && c ≡ false
    by_test true c e = e
    by_test false c e = refl

pub in_another : (one : MessageState) (slot moment : ℕ) → (one.slot ≡ slot → ⊥) → was_sent_by slot moment (Some one) ≡ false
in_another one slot moment other = elim (eqb_tells one.slot slot) [
  | inl same ↦ absurd (other same.1)
  | inr not ↦ ap (λ (b : Bool). b && nat_le one.moment moment) not.0
]

-- functions that agree on a list give the same of it
pub map_same : (f g : ℕ → ℕ) (q : List ℕ) → ((k slot : ℕ) → slice_get q k ≡ Some slot → f slot ≡ g slot) → map f q ≡ map g q
map_same f g [] same = refl
map_same f g (x ∷ xs) same = ap₂ (λ (y : ℕ) (ys : List ℕ). y ∷ ys) (same 0 x refl) (map_same f g xs (λ k. same (suc k)))

-- an order whose entries came before one message more keeps its numbers
numbers_stay : (ms : List MessageState) (one : MessageState) (order : List Placed)
    → All (λ (placed : Placed). placed.moment < one.moment) order
    → numbered (ms ++ one ∷ []) order ≡ numbered ms order
numbers_stay ms one [] past = refl
numbers_stay ms one (placed ∷ order) past =
    ap₂ (λ (act : Act) (acts : List Act). act ∷ acts)
    (act_same (number_by (ms ++ one ∷ []) placed.moment) (number_by ms placed.moment)
    (λ slot. same_number ms one slot placed.moment (comes_later one slot placed.moment
    (All-head (λ (entry : Placed). entry.moment < one.moment) placed order past))) placed.act)
    (numbers_stay ms one order (All-tail (λ (entry : Placed). entry.moment < one.moment) placed order past))
  where
    got_same : (f g : ℕ → ℕ) → ((slot : ℕ) → f slot ≡ g slot) → (got : Option ℕ) → option_map f got ≡ option_map g got
    got_same f g same None = refl
    got_same f g same (Some slot) = ap (λ (n : ℕ). Some n) (same slot)

    put_same : (f g : ℕ → ℕ) → ((slot : ℕ) → f slot ≡ g slot) → (answer : PushAnswer) → numbered_put f answer ≡ numbered_put g answer
    put_same f g same Kept = refl
    put_same f g same (LeftOut slot) = ap (λ (n : ℕ). LeftOut n) (same slot)
    put_same f g same Refused = refl

    act_same : (f g : ℕ → ℕ) → ((slot : ℕ) → f slot ≡ g slot) → (act : Act) → numbered_act f act ≡ numbered_act g act
    act_same f g same (Put value answer) = ap₂ (λ (v : ℕ) (a : PushAnswer). Put v a) (same value) (put_same f g same answer)
    act_same f g same (Take (Got got)) = ap (λ (x : Option ℕ). Take (Got x)) (got_same f g same got)
    act_same f g same (Take (Saw some)) = refl

-- An order answers by numbers, from these numbers on, and leaves those of what waits; all its entries are of the past.
pub record NumberedSo (overflows : Bool) (limit : ℕ) (start : List ℕ) (found : List ℕ) (now : ℕ) (ms : List MessageState)
    (order : List Placed) : Type 0 where
  pub acts : Acts overflows limit start (numbered ms order)
  pub left : after_acts overflows limit start (numbered ms order)
      ≡ map (number_by ms now) (after_acts overflows limit found (acts_of order))
  pub past : All (λ (placed : Placed). placed.moment < now) order

all_past : (order : List Placed) (now next : ℕ) → now ≤ next → All (λ (placed : Placed). placed.moment < now) order
    → All (λ (placed : Placed). placed.moment < next) order
all_past order now next up all = All-weaker (λ (placed : Placed). placed.moment < now) (λ (placed : Placed). placed.moment < next)
    (λ placed before. omega (arith, up, before)) order all

at_past : (now next : ℕ) (acts : List Act) → now < next → All (λ (placed : Placed). placed.moment < next) (at now acts)
at_past now next [] up = All-nil (λ (placed : Placed). placed.moment < next)
at_past now next (act ∷ acts) up
    = All-cons (λ (placed : Placed). placed.moment < next) (record { act = act; moment = now }) (at now acts) up
    (at_past now next acts up)

past_more : (order : List Placed) (now next : ℕ) (acts : List Act) → now < next → All (λ (placed : Placed). placed.moment < now) order
    → All (λ (placed : Placed). placed.moment < next) (order ++ at now acts)
past_more order now next acts up all = All-append (λ (placed : Placed). placed.moment < next) order (at now acts)
    (all_past order now next (omega (arith, up)) all) (at_past now next acts up)

module _ (o : Bool) (limit : ℕ) (start found : List ℕ) (now next : ℕ) (ms : List MessageState) (up : now < next)
    (early : All (λ (message : MessageState). message.moment ≤ now) ms) where
  -- nothing stands at the step, and nothing begins
  pub stays_so : (order : List Placed) → NumberedSo o limit start found now ms order → NumberedSo o limit start found next ms order
  stays_so order h = record {
    acts = h.acts;
    left = h.left ∙ map_same (number_by ms now) (number_by ms next) (after_acts o limit found (acts_of order))
        (λ k slot is. sym (number_late ms slot now next early (omega (arith, up))));
    past = all_past order now next (omega (arith, up)) h.past;
  }

  -- a message begins in a slot that doesn't wait
  pub begins_so : (order : List Placed) (one : MessageState) → one.moment ≡ now
      → ((k slot : ℕ) → slice_get (after_acts o limit found (acts_of order)) k ≡ Some slot → one.slot ≡ slot → ⊥)
      → NumberedSo o limit start found now ms order → NumberedSo o limit start found next (ms ++ one ∷ []) order
  begins_so order one is other h =
      let same : numbered (ms ++ one ∷ []) order ≡ numbered ms order
      = numbers_stay ms one order (all_past order now one.moment (omega (arith, is)) h.past) in
      record {
        acts = subst (Acts o limit start) (sym same) h.acts;
        left = ap (after_acts o limit start) same ∙ h.left
            ∙ map_same (number_by ms now) (number_by (ms ++ one ∷ []) next) (after_acts o limit found (acts_of order))
            (λ k slot got. sym (same_number ms one slot next (in_another one slot next (λ e. other k slot got e))
            ∙ number_late ms slot now next early (omega (arith, up))));
        past = all_past order now next (omega (arith, up)) h.past;
      }

  -- some acts stand at the step
  pub stands_so : (order : List Placed) (stood : List Act) → Acts o limit found (acts_of (order ++ at now stood))
      → NumberedSo o limit start found now ms order → NumberedSo o limit start found next ms (order ++ at now stood)
  stands_so order stood answers h =
      let waits : List ℕ = after_acts o limit found (acts_of order) in
      let f : ℕ → ℕ = number_by ms now in
      let whole : Acts o limit found (acts_of order ++ stood) = subst (Acts o limit found) (acts_more order now stood) answers in
      let new : Acts o limit (map f waits) (map (numbered_act f) stood)
      = acts_so f o limit waits stood (behind o limit found (acts_of order) stood whole) in
      let split : numbered ms (order ++ at now stood) ≡ numbered ms order ++ map (numbered_act f) stood
      = numbered_more ms order now stood in
      record {
        acts = subst (Acts o limit start) (sym split)
            (Acts-append o limit start (numbered ms order) (map (numbered_act f) stood) h.acts
            (subst (λ (w : List ℕ). Acts o limit w (map (numbered_act f) stood)) (sym h.left) new));
        left = ap (after_acts o limit start) split
            ∙ after_acts-append o limit start (numbered ms order) (map (numbered_act f) stood)
            ∙ ap (λ (w : List ℕ). after_acts o limit w (map (numbered_act f) stood)) h.left
            ∙ sym (after_acts_so f o limit waits stood)
            ∙ ap (map f) (sym (ap (after_acts o limit found) (acts_more order now stood)
            ∙ after_acts-append o limit found (acts_of order) stood))
            ∙ map_same f (number_by ms next) (after_acts o limit found (acts_of (order ++ at now stood)))
            (λ k slot is. sym (number_late ms slot now next early (omega (arith, up))));
        past = past_more order now next stood up h.past;
      }
