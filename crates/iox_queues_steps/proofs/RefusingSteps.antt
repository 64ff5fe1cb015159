-- Each step on the ring that refuses preserves the shape, and its acts are in the order as required.
use Rattle.std.proofs.Common.{◌≡◌, ℕ, ◌+◌, ◌-◌, ◌^◌, ◌%◌, ◌<◌, ◌≤◌, Bool, true, false, not, if◌then◌else◌, ◌==◌, nat_lt, List, [], ◌∷◌}
use Rattle.std.proofs.Common.{◌++◌, length, set, drop, slice_get, slice_index, Some, None, refl, sym, ◌∙◌, ap, subst, arith}
use Rattle.std.proofs.Common.{length-append, length-set}
use Rattle.std.proofs.Math.ListN.{get_or-append}
use Rattle.std.proofs.lemmas.Bool.{ltb-true, ltb-false, lt-ltb, le-ltb, eqb-true, eqb-false, cond-true, cond-false}
use Rattle.iox_queues_steps.specs.Access.{RingWords, successor, answer_of, after_access}
use Rattle.iox_queues_steps.specs.Order.{Acts, after_acts, put_answer, put_values, take_values}
use Rattle.iox_queues_steps.specs.Kept.{Held}
use Rattle.iox_queues_steps.specs.declared.order.PushAnswer.TheVariants.{Kept, Refused}
use Rattle.iox_queues_steps.specs.declared.order.PopAnswer.TheVariants.{Got, Saw}
use Rattle.iox_queues_steps.specs.declared.order.Act.{Act}
use Rattle.iox_queues_steps.specs.declared.order.Act.TheVariants.{Put, Take}
use Rattle.iox_queues_steps.proofs.Held.{held-push, held-drop, store_cell, successor_fits}
use Rattle.iox_queues_steps.specs.QueuesBase.Waiting.{put}
use Rattle.iox_queues_steps.specs.Refusing.{push_next, push_take, push_measured, pop_next, pop_take, pop_emptied, placed_by_push}
use Rattle.iox_queues_steps.specs.Refusing.{placed_by_pop, push_ended, pop_ended, push_is_idle, push_is_over, pop_is_idle, pop_is_over}
use Rattle.iox_queues_steps.specs.Refusing.{PushKnows, PopKnows, Shape}
use Rattle.iox_queues_steps.specs.declared.rings.refusing.push.Push.{Push}
use Rattle.iox_queues_steps.specs.declared.rings.refusing.push.Push.TheVariants as push
use Rattle.iox_queues_steps.specs.declared.rings.refusing.pop.Pop.{Pop}
use Rattle.iox_queues_steps.specs.declared.rings.refusing.pop.Pop.TheVariants as pop

pub record Goes (limit : ℕ) (q : List ℕ) (new : List Act) (words : RingWords) (push : Push) (pop : Pop) : Type 0 where
  pub list : List ℕ
  pub acts : Acts false limit q new
  pub after : after_acts false limit q new ≡ list
  pub shape : Shape limit words list push pop

-- a step that places nothing
quiet : (limit : ℕ) (words : RingWords) (q : List ℕ) (push : Push) (pop : Pop) → Shape limit words q push pop
    → Goes limit q [] words push pop
quiet limit words q push pop s = record { list = q; acts = tt; after = refl; shape = s }

-- only the stages changed
pub restage : (limit : ℕ) (words : RingWords) (q : List ℕ) (push push' : Push) (pop pop' : Pop) → Shape limit words q push pop
    → PushKnows limit words q push' → PopKnows words.read q pop' → Shape limit words q push' pop'
restage limit words q push push' pop pop' s k l = record {
  small = s.small;
  some = s.some;
  wide = s.wide;
  room = s.room;
  level = s.level;
  held = s.held;
  push_knows = k;
  pop_knows = l;
}

put-room : (limit : ℕ) (q : List ℕ) (value : ℕ) → length q < limit → put limit q value ≡ q ++ value ∷ []
put-room limit q value h = cond-true (nat_lt (length q) limit) _ _ (lt-ltb (length q) limit h)

answer-room : (limit : ℕ) (q : List ℕ) (value : ℕ) → length q < limit → put_answer false limit q value ≡ Kept
answer-room limit q value h = cond-true (nat_lt (length q) limit) _ _ (lt-ltb (length q) limit h)

put-full : (limit : ℕ) (q : List ℕ) (value : ℕ) → limit ≤ length q → put limit q value ≡ q
put-full limit q value h = cond-false (nat_lt (length q) limit) _ _ (le-ltb (length q) limit h)

answer-full : (limit : ℕ) (q : List ℕ) (value : ℕ) → limit ≤ length q → put_answer false limit q value ≡ Refused
answer-full limit q value h = cond-false (nat_lt (length q) limit) _ _ (le-ltb (length q) limit h)

longer : (read : ℕ) (q : List ℕ) (value : ℕ) (pop : Pop) → PopKnows read q pop → PopKnows read (q ++ value ∷ []) pop
longer read q value pop.Idle h = tt
longer read q value pop.Begun h = tt
longer read q value (pop.SawRead seen) h = h
longer read q value (pop.Nonempty seen next) h = (h.0, omega (arith, length-append q (value ∷ [])), h.2)
longer read q value (pop.SawCell next found) h
    = (h.0, omega (arith, length-append q (value ∷ [])), h.2 ∙ sym (get_or-append q (value ∷ []) 0 0 h.1))
longer read q value (pop.Popped got) h = tt
longer read q value pop.LookBegun h = tt
longer read q value (pop.LookRead seen) h = h
longer read q value (pop.Looked some) h = tt

shorter : (limit : ℕ) (words : RingWords) (q rest : List ℕ) (read : ℕ) (push : Push) → length rest ≤ length q
    → PushKnows limit words q push → PushKnows limit (record words { read = read }) rest push
shorter limit words q rest read push.Idle le h = tt
shorter limit words q rest read (push.Begun l value) le h = h
shorter limit words q rest read (push.SawWrite l value write next) le h = h
shorter limit words q rest read (push.SawRoom value write next) le h = (h.0, h.1, omega (arith, h))
shorter limit words q rest read (push.Filled value next) le h = (h.0, omega (arith, h), h.2)
shorter limit words q rest read (push.Pushed value answer) le h = tt

measured : (limit : ℕ) (words : RingWords) (q : List ℕ) (pop : Pop) (value next : ℕ) (b : Bool)
    → nat_lt (words.write - words.read) limit ≡ b → next ≡ words.write + 1
    → Shape limit words q (push.SawWrite limit value words.write next) pop
    → Goes limit q (if b then [] else Put value Refused ∷ []) words
    (if b then push.SawRoom value words.write next else push.Pushed value Refused) pop
measured limit words q pop value next true e on s =
    let h : words.write - words.read < limit = ltb-true (words.write - words.read) limit e in
    let level : words.read + length q ≡ words.write = s.level in
    quiet limit words q (push.SawRoom value words.write next) pop
    (restage limit words q (push.SawWrite limit value words.write next) (push.SawRoom value words.write next) pop pop s
    (refl, on, omega arith) s.pop_knows)
measured limit words q pop value next false e on s =
    let h : limit ≤ words.write - words.read = ltb-false (words.write - words.read) limit e in
    let level : words.read + length q ≡ words.write = s.level in
    let full : limit ≤ length q = omega arith in
    record {
      list = q;
      acts = (sym (answer-full limit q value full), tt);
      after = put-full limit q value full;
      shape = restage limit words q (push.SawWrite limit value words.write next) (push.Pushed value Refused) pop pop s tt s.pop_knows;
    }

pub push_goes : (limit : ℕ) (words : RingWords) (q : List ℕ) (push : Push) (pop : Pop) → words.write + 1 < 2 ^ 64
    → Shape limit words q push pop
    → Goes limit q (placed_by_push words.read push) (after_access words (push_next push))
    (push_take push (answer_of words (push_next push))) pop
push_goes limit words q push.Idle pop fits s = quiet limit words q push.Idle pop s
push_goes limit words q (push.Begun l value) pop fits s =
    quiet limit words q (push.SawWrite l value words.write (successor words.write)) pop
    (restage limit words q (push.Begun l value) (push.SawWrite l value words.write (successor words.write)) pop pop s
    (s.push_knows, refl, successor_fits words.write fits) s.pop_knows)
push_goes limit words q (push.SawWrite l value write next) pop fits s =
    let k : PushKnows limit words q (push.SawWrite l value write next) = s.push_knows in
    subst (λ (w : ℕ). Goes limit q (if nat_lt (w - words.read) l then [] else Put value Refused ∷ []) words
    (push_measured l value w next words.read) pop) (sym k.1)
    (subst (λ (m : ℕ). Goes limit q (if nat_lt (words.write - words.read) m then [] else Put value Refused ∷ []) words
    (push_measured m value words.write next words.read) pop) (sym k.0)
    (measured limit words q pop value next (nat_lt (words.write - words.read) limit) refl (k.2 ∙ ap (λ (x : ℕ). x + 1) k.1)
    (restage limit words q (push.SawWrite l value write next) (push.SawWrite limit value words.write next) pop pop s
    (refl, refl, k.2 ∙ ap (λ (x : ℕ). x + 1) k.1) s.pop_knows)))
push_goes limit words q (push.SawRoom value write next) pop fits s =
    let k : PushKnows limit words q (push.SawRoom value write next) = s.push_knows in
    let level : words.read + length q ≡ words.write = s.level in
    let is : write ≡ words.read + length q = omega (arith, k) in
    let n : ℕ = length words.cells in
    let after : List ℕ = set words.cells (write % length words.cells) value in
    let size : length (set words.cells (write % length words.cells) value) ≡ length words.cells
    = length-set words.cells (write % length words.cells) value in
    let cell : Held (length words.cells) (set words.cells (write % length words.cells) value) words.read q
    × (slice_index (set words.cells (write % length words.cells) value) (write % length words.cells) ≡ value) =
    store_cell (length words.cells) words.cells words.read q write value refl is (omega (arith, k, s.wide)) s.held in
    quiet limit (record words { cells = set words.cells (write % length words.cells) value }) q (push.Filled value next) pop
    (record {
      small = s.small;
      some = omega (arith, s.some);
      wide = omega (arith, s.wide);
      room = s.room;
      level = s.level;
      held = subst (λ (m : ℕ). Held m (set words.cells (write % length words.cells) value) words.read q) (sym size) cell.0;
      push_knows = (
        k.1 ∙ ap (λ (x : ℕ). x + 1) k.0,
        k.2,
        subst (λ (m : ℕ). slice_index (set words.cells (write % length words.cells) value) (words.write % m) ≡ value) (sym size)
            (subst (λ (w : ℕ). slice_index (set words.cells (write % length words.cells) value) (w % length words.cells) ≡ value) k.0
            cell.1),
      );
      pop_knows = s.pop_knows;
    })
push_goes limit words q (push.Filled value next) pop fits s =
    let k : PushKnows limit words q (push.Filled value next) = s.push_knows in
    let level : words.read + length q ≡ words.write = s.level in
    record {
      list = q ++ value ∷ [];
      acts = (sym (answer-room limit q value k.1), tt);
      after = put-room limit q value k.1;
      shape = record {
        small = s.small;
        some = s.some;
        wide = s.wide;
        room = omega (arith, k, length-append q (value ∷ []));
        level = omega (arith, k, length-append q (value ∷ []));
        held = held-push (length words.cells) words.cells words.read q value s.held (rw level k.2);
        push_knows = tt;
        pop_knows = longer words.read q value pop s.pop_knows;
      };
    }
push_goes limit words q (push.Pushed value answer) pop fits s =
    quiet limit words q push.Idle pop (restage limit words q (push.Pushed value answer) push.Idle pop pop s tt s.pop_knows)

none_at : (q : List ℕ) → length q ≡ 0 → None ≡ slice_get q 0
none_at [] h = refl
none_at (x ∷ q) h = absurd (omega arith)

nothing_left : (q : List ℕ) → length q ≡ 0 → drop 1 q ≡ q
nothing_left [] h = refl
nothing_left (x ∷ q) h = absurd (omega arith)

emptied : (limit : ℕ) (words : RingWords) (q : List ℕ) (push : Push) (seen : ℕ) (b : Bool) → (words.write == seen) ≡ b
    → words.write + 1 < 2 ^ 64
    → Shape limit words q push (pop.SawRead seen)
    → Goes limit q (if b then Take (Got None) ∷ [] else []) words push (pop_emptied b seen)
emptied limit words q push seen true e fits s =
    let k : seen ≡ words.read = s.pop_knows in
    let level : words.read + length q ≡ words.write = s.level in
    let same : words.write ≡ seen = eqb-true words.write seen e in
    let none : length q ≡ 0 = omega arith in
    record {
      list = q;
      acts = (none_at q none, tt);
      after = nothing_left q none;
      shape = restage limit words q push push (pop.SawRead seen) (pop.Popped None) s s.push_knows tt;
    }
emptied limit words q push seen false e fits s =
    let k : seen ≡ words.read = s.pop_knows in
    let level : words.read + length q ≡ words.write = s.level in
    let differ : words.write ≡ seen → ⊥ = eqb-false words.write seen e in
    quiet limit words q push (pop.Nonempty seen (successor seen))
    (restage limit words q push push (pop.SawRead seen) (pop.Nonempty seen (successor seen)) s s.push_knows
    (k, omega arith, successor_fits seen (omega arith)))

looked : (q : List ℕ) (read write seen : ℕ) (b : Bool) → (write == seen) ≡ b → seen ≡ read → read + length q ≡ write
    → not (write == seen) ≡ nat_lt 0 (length q)
looked q read write seen true e is level
    = ap not e ∙ sym (le-ltb 0 (length q) (let same : write ≡ seen = eqb-true write seen e in omega arith))
looked q read write seen false e is level
    = ap not e ∙ sym (lt-ltb 0 (length q) (let differ : write ≡ seen → ⊥ = eqb-false write seen e in omega arith))

taken : (limit : ℕ) (words : RingWords) (q : List ℕ) (push : Push) (next value : ℕ) → Shape limit words q push (pop.SawCell next value)
    → Goes limit q (Take (Got (Some value)) ∷ []) (record words { read = next }) push (pop.Popped (Some value))
taken limit words [] push next value s =
    let k : PopKnows words.read [] (pop.SawCell next value) = s.pop_knows in absurd (omega (arith, k))
taken limit words (x ∷ rest) push next value s =
    let k : PopKnows words.read (x ∷ rest) (pop.SawCell next value) = s.pop_knows in
    let level : words.read + length (x ∷ rest) ≡ words.write = s.level in
    let room : length (x ∷ rest) ≤ limit = s.room in
    record {
      list = rest;
      acts = (ap (λ (v : ℕ). Some v) k.2, tt);
      after = refl;
      shape = record {
        small = s.small;
        some = s.some;
        wide = s.wide;
        room = omega arith;
        level = omega (arith, k);
        held = subst (λ (r : ℕ). Held (length words.cells) words.cells r rest) (sym k.0)
            (held-drop (length words.cells) words.cells words.read (x ∷ rest) s.held);
        push_knows = shorter limit words (x ∷ rest) rest next push (omega arith) s.push_knows;
        pop_knows = tt;
      };
    }

pub pop_goes : (limit : ℕ) (words : RingWords) (q : List ℕ) (push : Push) (pop : Pop) → words.write + 1 < 2 ^ 64
    → Shape limit words q push pop
    → Goes limit q (placed_by_pop words.write pop) (after_access words (pop_next pop)) push (pop_take pop (answer_of words (pop_next pop)))
pop_goes limit words q push pop.Idle fits s = quiet limit words q push pop.Idle s
pop_goes limit words q push pop.Begun fits s =
    quiet limit words q push (pop.SawRead words.read)
    (restage limit words q push push pop.Begun (pop.SawRead words.read) s s.push_knows refl)
pop_goes limit words q push (pop.SawRead seen) fits s = emptied limit words q push seen (words.write == seen) refl fits s
pop_goes limit words q push (pop.Nonempty seen next) fits s =
    let k : PopKnows words.read q (pop.Nonempty seen next) = s.pop_knows in
    let at : words.read + 0 ≡ seen = omega (arith, k) in
    quiet limit words q push (pop.SawCell next (slice_index words.cells (seen % length words.cells)))
    (restage limit words q push push (pop.Nonempty seen next) (pop.SawCell next (slice_index words.cells (seen % length words.cells))) s
    s.push_knows (
      k.2 ∙ ap (λ (x : ℕ). x + 1) k.0,
      k.1,
      subst (λ (p : ℕ). slice_index words.cells (p % length words.cells) ≡ slice_index q 0) at (s.held.each 0 k.1),
    ))
pop_goes limit words q push (pop.SawCell next value) fits s = taken limit words q push next value s
pop_goes limit words q push (pop.Popped got) fits s
    = quiet limit words q push pop.Idle (restage limit words q push push (pop.Popped got) pop.Idle s s.push_knows tt)
pop_goes limit words q push pop.LookBegun fits s =
    quiet limit words q push (pop.LookRead words.read)
    (restage limit words q push push pop.LookBegun (pop.LookRead words.read) s s.push_knows refl)
pop_goes limit words q push (pop.LookRead seen) fits s =
    record {
      list = q;
      acts = (looked q words.read words.write seen (words.write == seen) refl s.pop_knows s.level, tt);
      after = refl;
      shape = restage limit words q push push (pop.LookRead seen) (pop.Looked (not (words.write == seen))) s s.push_knows tt;
    }
pop_goes limit words q push (pop.Looked some) fits s
    = quiet limit words q push pop.Idle (restage limit words q push push (pop.Looked some) pop.Idle s s.push_knows tt)

-- what a step places is what its call then has in hand
pub push_hand : (words : RingWords) (push : Push) (answer : ℕ) → answer ≡ answer_of words (push_next push)
    → push_ended (push_take push answer) ≡ put_values (placed_by_push words.read push)
push_hand words push.Idle answer e = refl
push_hand words (push.Begun l value) answer e = refl
push_hand words (push.SawWrite l value write next) answer e =
    subst (λ (a : ℕ). push_ended (push_measured l value write next a)
    ≡ put_values (placed_by_push words.read (push.SawWrite l value write next))) (sym e) (both (nat_lt (write - words.read) l))
  where
    both : (b : Bool) → push_ended (if b then push.SawRoom value write next else push.Pushed value Refused)
        ≡ put_values (if b then [] else Put value Refused ∷ [])
    both true = refl
    both false = refl
push_hand words (push.SawRoom value write next) answer e = refl
push_hand words (push.Filled value next) answer e = refl
push_hand words (push.Pushed value answered) answer e = refl

pub push_takes : (read : ℕ) (push : Push) → take_values (placed_by_push read push) ≡ []
push_takes read push.Idle = refl
push_takes read (push.Begun l value) = refl
push_takes read (push.SawWrite l value write next) = both value (nat_lt (write - read) l)
  where
    both : (value : ℕ) (b : Bool) → take_values (if b then [] else Put value Refused ∷ []) ≡ []
    both value true = refl
    both value false = refl
push_takes read (push.SawRoom value write next) = refl
push_takes read (push.Filled value next) = refl
push_takes read (push.Pushed value answered) = refl

pub pop_hand : (words : RingWords) (pop : Pop) (answer : ℕ) → answer ≡ answer_of words (pop_next pop)
    → pop_ended (pop_take pop answer) ≡ take_values (placed_by_pop words.write pop)
pop_hand words pop.Idle answer e = refl
pop_hand words pop.Begun answer e = refl
pop_hand words (pop.SawRead seen) answer e =
    subst (λ (a : ℕ). pop_ended (pop_emptied (a == seen) seen) ≡ take_values (placed_by_pop words.write (pop.SawRead seen))) (sym e)
    (both (words.write == seen))
  where
    both : (b : Bool) → pop_ended (pop_emptied b seen) ≡ take_values (if b then Take (Got None) ∷ [] else [])
    both true = refl
    both false = refl
pop_hand words (pop.Nonempty seen next) answer e = refl
pop_hand words (pop.SawCell next value) answer e = refl
pop_hand words (pop.Popped got) answer e = refl
pop_hand words pop.LookBegun answer e = refl
pop_hand words (pop.LookRead seen) answer e = ap (λ (a : ℕ). Saw (not (a == seen)) ∷ []) e
pop_hand words (pop.Looked some) answer e = refl

pub pop_puts : (write : ℕ) (pop : Pop) → put_values (placed_by_pop write pop) ≡ []
pop_puts write pop.Idle = refl
pop_puts write pop.Begun = refl
pop_puts write (pop.SawRead seen) = both (write == seen)
  where
    both : (b : Bool) → put_values (if b then Take (Got None) ∷ [] else []) ≡ []
    both true = refl
    both false = refl
pop_puts write (pop.Nonempty seen next) = refl
pop_puts write (pop.SawCell next value) = refl
pop_puts write (pop.Popped got) = refl
pop_puts write pop.LookBegun = refl
pop_puts write (pop.LookRead seen) = refl
pop_puts write (pop.Looked some) = refl

pub push_grows : (limit : ℕ) (words : RingWords) (q : List ℕ) (push : Push) → PushKnows limit words q push
    → (after_access words (push_next push)).write ≤ words.write + 1
push_grows limit words q push.Idle k = omega arith
push_grows limit words q (push.Begun l value) k = omega arith
push_grows limit words q (push.SawWrite l value write next) k = omega arith
push_grows limit words q (push.SawRoom value write next) k = omega arith
push_grows limit words q (push.Filled value next) k = omega (arith, k)
push_grows limit words q (push.Pushed value answer) k = omega arith

pub pop_grows : (words : RingWords) (pop : Pop) → (after_access words (pop_next pop)).write ≡ words.write
pop_grows words pop.Idle = refl
pop_grows words pop.Begun = refl
pop_grows words (pop.SawRead seen) = refl
pop_grows words (pop.Nonempty seen next) = refl
pop_grows words (pop.SawCell next value) = refl
pop_grows words (pop.Popped got) = refl
pop_grows words pop.LookBegun = refl
pop_grows words (pop.LookRead seen) = refl
pop_grows words (pop.Looked some) = refl

pub idle_push : (p : Push) → push_is_idle p ≡ true → p ≡ push.Idle
idle_push push.Idle h = refl
idle_push (push.Begun l value) h = absurd (cc)
idle_push (push.SawWrite l value write next) h = absurd (cc)
idle_push (push.SawRoom value write next) h = absurd (cc)
idle_push (push.Filled value next) h = absurd (cc)
idle_push (push.Pushed value answer) h = absurd (cc)

pub idle_pop : (p : Pop) → pop_is_idle p ≡ true → p ≡ pop.Idle
idle_pop pop.Idle h = refl
idle_pop pop.Begun h = absurd (cc)
idle_pop (pop.SawRead seen) h = absurd (cc)
idle_pop (pop.Nonempty seen next) h = absurd (cc)
idle_pop (pop.SawCell next value) h = absurd (cc)
idle_pop (pop.Popped got) h = absurd (cc)
idle_pop pop.LookBegun h = absurd (cc)
idle_pop (pop.LookRead seen) h = absurd (cc)
idle_pop (pop.Looked some) h = absurd (cc)

-- the last step of a call, and no other, ends one
pub push_ends_one : (p : Push) → length (push_ended p) ≡ (if push_is_over p then 1 else 0)
push_ends_one push.Idle = refl
push_ends_one (push.Begun l value) = refl
push_ends_one (push.SawWrite l value write next) = refl
push_ends_one (push.SawRoom value write next) = refl
push_ends_one (push.Filled value next) = refl
push_ends_one (push.Pushed value answer) = refl

-- the last step of a call, and no other, ends one
pub pop_ends_one : (p : Pop) → length (pop_ended p) ≡ (if pop_is_over p then 1 else 0)
pop_ends_one pop.Idle = refl
pop_ends_one pop.Begun = refl
pop_ends_one (pop.SawRead seen) = refl
pop_ends_one (pop.Nonempty seen next) = refl
pop_ends_one (pop.SawCell next value) = refl
pop_ends_one (pop.Popped got) = refl
pop_ends_one pop.LookBegun = refl
pop_ends_one (pop.LookRead seen) = refl
pop_ends_one (pop.Looked some) = refl
