-- Each step of a push on the overflowing ring preserves the shape, and its acts are in the order as required.
use Rattle.std.proofs.Common.{◌≡◌, ℕ, ◌+◌, ◌-◌, ◌^◌, ◌%◌, ◌<◌, ◌≤◌, Bool, true, false, if◌then◌else◌, ◌==◌, nat_lt, List, [], ◌∷◌, ◌++◌}
use Rattle.std.proofs.Common.{length, set, drop, slice_index, refl, sym, ◌∙◌, ap, subst, arith, length-append, length-set, append-nil}
use Rattle.std.proofs.Math.ListN.{get_or-append}
use Rattle.std.proofs.lemmas.Bool.{ltb-true, ltb-false, lt-ltb, le-ltb, eqb-true, eqb-false, eq-eqb, ne_eqb, cond-true, cond-false}
use Rattle.iox_queues_steps.specs.QueuesBase.Waiting.{put_over}
use Rattle.iox_queues_steps.specs.Access.{RingWords, successor, after_access, answer_of}
use Rattle.iox_queues_steps.specs.Order.{Acts, after_acts, put_answer, put_values, take_values, PutNow}
use Rattle.iox_queues_steps.specs.Kept.{Held}
use Rattle.iox_queues_steps.specs.Overflowing.{push_next, push_take, push_filled, push_swapped, push_is_idle, push_is_over}
use Rattle.iox_queues_steps.specs.OverflowingRing.{placed_by_push, put_in_hand, push_ended, IsLate, PushKnows, PopKnows, Shape}
use Rattle.iox_queues_steps.specs.declared.order.PushAnswer.TheVariants.{Kept, LeftOut}
use Rattle.iox_queues_steps.specs.declared.order.Act.{Act}
use Rattle.iox_queues_steps.specs.declared.order.Act.TheVariants.{Put}
use Rattle.iox_queues_steps.specs.declared.rings.overflowing.push.Push.{Push}
use Rattle.iox_queues_steps.specs.declared.rings.overflowing.push.Push.TheVariants as push
use Rattle.iox_queues_steps.specs.declared.rings.overflowing.pop.Pop.{Pop}
use Rattle.iox_queues_steps.specs.declared.rings.overflowing.pop.Pop.TheVariants as pop
use Rattle.iox_queues_steps.proofs.Held.{held-push, held-drop, store_cell, successor_fits}

pub record PushGoes (limit : ℕ) (q : List ℕ) (pop : Pop) (ended hand : List PutNow) (new : List Act) (words : RingWords) (push : Push) :
    Type 0 where
  pub list : List ℕ
  pub acts : Acts true limit q new
  pub after : after_acts true limit q new ≡ list
  pub shape : Shape limit words list push pop
  pub in_hand : ended ++ put_in_hand words.read push ≡ hand ++ put_values new
  pub takes : take_values new ≡ []

-- a put with room goes after the rest
pub put_over-room : (limit : ℕ) (q : List ℕ) (value : ℕ) → length q < limit → put_over limit q value ≡ q ++ value ∷ []
put_over-room limit q value h = cond-true (nat_lt (length q) limit) _ _ (lt-ltb (length q) limit h)

pub put_answer-room : (limit : ℕ) (q : List ℕ) (value : ℕ) → length q < limit → put_answer true limit q value ≡ Kept
put_answer-room limit q value h = cond-true (nat_lt (length q) limit) _ _ (lt-ltb (length q) limit h)

-- a put into a full list drops the oldest
pub put_over-full : (limit : ℕ) (q : List ℕ) (value : ℕ) → limit ≤ length q → put_over limit q value ≡ drop 1 (q ++ value ∷ [])
put_over-full limit q value h = cond-false (nat_lt (length q) limit) _ _ (le-ltb (length q) limit h)

pub put_answer-full : (limit : ℕ) (q : List ℕ) (value : ℕ) → limit ≤ length q
    → put_answer true limit q value ≡ LeftOut (slice_index (q ++ value ∷ []) 0)
put_answer-full limit q value h = cond-false (nat_lt (length q) limit) _ _ (le-ltb (length q) limit h)

-- a longer list tells a pop nothing new
pub pop_longer : (read : ℕ) (q : List ℕ) (value : ℕ) (pop : Pop) → PopKnows read q pop → PopKnows read (q ++ value ∷ []) pop
pop_longer read q value pop.Idle h = tt
pop_longer read q value pop.Begun h = tt
pop_longer read q value (pop.SawRead seen) h = (h.0, λ less. omega (arith, length-append q (value ∷ [])))
pop_longer read q value (pop.Nonempty seen next) h = (h.0, omega (arith, length-append q (value ∷ [])), h.2)
pop_longer read q value (pop.SawCell seen next found) h =
    (h.0, omega (arith, length-append q (value ∷ [])), h.2, λ same. h.3 same ∙ sym (get_or-append q (value ∷ []) 0 0 h.1))
pop_longer read q value (pop.Popped got) h = tt
pop_longer read q value pop.LookBegun h = tt
pop_longer read q value (pop.LookRead seen) h = (h.0, λ less. omega (arith, length-append q (value ∷ [])))
pop_longer read q value (pop.Looked waiting) h = tt

-- nor does a position that moved on
pub pop_moved : (read read' : ℕ) (q q' : List ℕ) (pop : Pop) → read < read' → 0 < length q' → PopKnows read q pop → PopKnows read' q' pop
pop_moved read read' q q' pop.Idle on some h = tt
pop_moved read read' q q' pop.Begun on some h = tt
pop_moved read read' q q' (pop.SawRead seen) on some h = (omega arith, λ less. some)
pop_moved read read' q q' (pop.Nonempty seen next) on some h = (omega arith, some, h.2)
pop_moved read read' q q' (pop.SawCell seen next found) on some h = (omega arith, some, h.2, λ same. absurd (omega arith))
pop_moved read read' q q' (pop.Popped got) on some h = tt
pop_moved read read' q q' pop.LookBegun on some h = tt
pop_moved read read' q q' (pop.LookRead seen) on some h = (omega arith, λ less. some)
pop_moved read read' q q' (pop.Looked waiting) on some h = tt

-- only the push's stage changed
pub reshape : (limit : ℕ) (words : RingWords) (q : List ℕ) (push push' : Push) (pop : Pop) → Shape limit words q push pop
    → PushKnows limit words q push' → Shape limit words q push' pop
reshape limit words q push push' pop s k = record {
  some = s.some;
  small = s.small;
  size = s.size;
  room = s.room;
  held = s.held;
  push_knows = k;
  pop_knows = s.pop_knows;
}

-- a step that places nothing
pub quiet : (limit : ℕ) (words : RingWords) (q : List ℕ) (push : Push) (pop : Pop) (ended hand : List PutNow)
    → Shape limit words q push pop → ended ++ put_in_hand words.read push ≡ hand → PushGoes limit q pop ended hand [] words push
quiet limit words q push pop ended hand s e = record {
  list = q;
  acts = tt;
  after = refl;
  shape = s;
  in_hand = e ∙ sym (append-nil hand);
  takes = refl;
}

filled : (limit : ℕ) (words : RingWords) (q : List ℕ) (pop : Pop) (value next seen : ℕ) (b b2 : Bool)
    → nat_lt limit (next - words.read) ≡ b → nat_lt limit (next - seen) ≡ b2 → words.write + 1 < 2 ^ 64
    → Shape limit words q (push.Filled limit value words.write next seen) pop
    → PushGoes limit q pop [] [] (if b then [] else Put value Kept ∷ []) (record words { write = next })
    (if b2 then push.Full value seen (successor seen) else push.Pushed value Kept)
filled limit words q pop value next seen true true e e2 fits s =
    let k : PushKnows limit words q (push.Filled limit value words.write next seen) = s.push_knows in
    let h1 : limit < next - words.read = ltb-true limit (next - words.read) e in
    let h2 : limit < next - seen = ltb-true limit (next - seen) e2 in
    let level : words.read + length q ≡ words.write = k.0 in
    let same : words.read ≡ seen = omega (arith, k) in
    let there : slice_index words.cells (words.write % (limit + 1)) ≡ value = k.6 in
    let place : words.read + limit ≡ words.write = omega (arith, k, s.room) in
    quiet limit (record words { write = next }) q (push.Full value seen (successor seen)) pop [] []
    (record {
      some = s.some;
      small = s.small;
      size = s.size;
      room = s.room;
      held = s.held;
      pop_knows = s.pop_knows;
      push_knows = (
        record {
          written = omega (arith, k);
          seen_before = omega arith;
          moved = λ less. absurd (omega arith);
          full = λ _. omega (arith, k, s.room);
          behind = λ _. rw place there;
        },
        successor_fits seen (omega (arith, k)),
      );
    })
    (cond-true (words.read == seen) [] _ (eq-eqb words.read seen same))
filled limit words q pop value next seen true false e e2 fits s =
    let k : PushKnows limit words q (push.Filled limit value words.write next seen) = s.push_knows in
    absurd (omega (arith, k, ltb-true limit (next - words.read) e, ltb-false limit (next - seen) e2))
filled limit words q pop value next seen false true e e2 fits s =
    let k : PushKnows limit words q (push.Filled limit value words.write next seen) = s.push_knows in
    let h1 : next - words.read ≤ limit = ltb-false limit (next - words.read) e in
    let h2 : limit < next - seen = ltb-true limit (next - seen) e2 in
    let level : words.read + length q ≡ words.write = k.0 in
    let space : length q < limit = omega (arith, k) in
    let less : seen < words.read = omega (arith, k) in
    let there : slice_index words.cells (words.write % (limit + 1)) ≡ value = k.6 in
    record {
      list = q ++ value ∷ [];
      acts = (sym (put_answer-room limit q value space), tt);
      after = put_over-room limit q value space;
      shape = record {
        some = s.some;
        small = s.small;
        size = s.size;
        room = omega (arith, length-append q (value ∷ []));
        held = held-push (limit + 1) words.cells words.read q value s.held (rw level there);
        push_knows = (
          record {
            written = omega (arith, k);
            seen_before = omega arith;
            moved = λ _. omega (arith, k, length-append q (value ∷ []));
            full = λ same. absurd (omega arith);
            behind = λ same. absurd (omega arith);
          },
          successor_fits seen (omega (arith, k)),
        );
        pop_knows = pop_longer words.read q value pop s.pop_knows;
      };
      in_hand = cond-false (words.read == seen) _ _ (ne_eqb words.read seen (λ same. omega arith));
      takes = refl;
    }
filled limit words q pop value next seen false false e e2 fits s =
    let k : PushKnows limit words q (push.Filled limit value words.write next seen) = s.push_knows in
    let h1 : next - words.read ≤ limit = ltb-false limit (next - words.read) e in
    let level : words.read + length q ≡ words.write = k.0 in
    let space : length q < limit = omega (arith, k) in
    let there : slice_index words.cells (words.write % (limit + 1)) ≡ value = k.6 in
    record {
      list = q ++ value ∷ [];
      acts = (sym (put_answer-room limit q value space), tt);
      after = put_over-room limit q value space;
      shape = record {
        some = s.some;
        small = s.small;
        size = s.size;
        room = omega (arith, length-append q (value ∷ []));
        held = held-push (limit + 1) words.cells words.read q value s.held (rw level there);
        push_knows = omega (arith, k, length-append q (value ∷ []));
        pop_knows = pop_longer words.read q value pop s.pop_knows;
      };
      in_hand = refl;
      takes = refl;
    }

swapped : (limit : ℕ) (words : RingWords) (q : List ℕ) (pop : Pop) (value seen next oldest : ℕ) (b : Bool) → (words.read == seen) ≡ b
    → Shape limit words q (push.SawOldest value seen next oldest) pop
    → PushGoes limit q pop [] (if b then [] else record { value = value; answer = Kept } ∷ [])
    (if b then Put value (LeftOut oldest) ∷ [] else []) (if b then record words { read = next } else words)
    (push_swapped value b oldest)
swapped limit words q pop value seen next oldest true e s =
    let k : PushKnows limit words q (push.SawOldest value seen next oldest) = s.push_knows in
    let late : IsLate limit words q value seen = k.0 in
    let same : seen ≡ words.read = sym (eqb-true words.read seen e) in
    let full : length q ≡ limit = late.full same in
    let there : slice_index words.cells ((words.read + limit) % (limit + 1)) ≡ value = late.behind same in
    let longer : length (q ++ value ∷ []) ≡ limit + 1 = omega (arith, length-append q (value ∷ [])) in
    let shorter : length (drop 1 (q ++ value ∷ [])) ≡ limit = dropped (q ++ value ∷ []) limit longer in
    let some : 0 < length q = omega (arith, s.some) in
    let on : next ≡ words.read + 1 = omega (arith, k) in
    record {
      list = drop 1 (q ++ value ∷ []);
      acts = (
        sym (put_answer-full limit q value (omega arith) ∙ ap (λ (x : ℕ). LeftOut x)
            (get_or-append q (value ∷ []) 0 0 some ∙ sym (k.2 same))),
        tt,
      );
      after = put_over-full limit q value (omega arith);
      shape = record {
        some = s.some;
        small = s.small;
        size = s.size;
        room = omega arith;
        held = subst (λ (r : ℕ). Held (limit + 1) words.cells r (drop 1 (q ++ value ∷ []))) (sym on)
            (held-drop (limit + 1) words.cells words.read (q ++ value ∷ [])
            (held-push (limit + 1) words.cells words.read q value s.held (rw full there)));
        push_knows = let w : words.write ≡ seen + limit + 1 = late.written in omega (arith, k);
        pop_knows = pop_moved words.read next q (drop 1 (q ++ value ∷ [])) pop (omega arith) (omega (arith, s.some)) s.pop_knows;
      };
      in_hand = refl;
      takes = refl;
    }
  where
    dropped : (xs : List ℕ) (n : ℕ) → length xs ≡ n + 1 → length (drop 1 xs) ≡ n
    dropped [] n h = omega arith
    dropped (x ∷ xs) n h = omega arith
swapped limit words q pop value seen next oldest false e s =
    let k : PushKnows limit words q (push.SawOldest value seen next oldest) = s.push_knows in
    let late : IsLate limit words q value seen = k.0 in
    let before : seen ≤ words.read = late.seen_before in
    let differ : words.read ≡ seen → ⊥ = eqb-false words.read seen e in
    let less : seen < words.read = elim_lt words.read seen before differ in
    quiet limit words q (push.Pushed value Kept) pop [] _
    (reshape limit words q (push.SawOldest value seen next oldest) (push.Pushed value Kept) pop s (late.moved less)) refl
  where
    elim_lt : (a b : ℕ) → b ≤ a → (a ≡ b → ⊥) → b < a
    elim_lt a b le ne = omega arith

-- every step of a push
pub push_goes : (limit : ℕ) (words : RingWords) (q : List ℕ) (push : Push) (pop : Pop) → words.write + 1 < 2 ^ 64
    → Shape limit words q push pop
    → PushGoes limit q pop (push_ended push) (put_in_hand words.read push) (placed_by_push limit words.read push)
    (after_access words (push_next push)) (push_take push (answer_of words (push_next push)))
push_goes limit words q push.Idle pop fits s = quiet limit words q push.Idle pop [] [] s refl
push_goes limit words q (push.Begun l value) pop fits s =
    let k : PushKnows limit words q (push.Begun l value) = s.push_knows in
    quiet limit words q (push.SawWrite l value words.write (successor words.write)) pop [] []
    (reshape limit words q (push.Begun l value) (push.SawWrite l value words.write (successor words.write)) pop s
    (k.0, k.1, refl, successor_fits words.write fits)) refl
push_goes limit words q (push.SawWrite l value write next) pop fits s =
    let k : PushKnows limit words q (push.SawWrite l value write next) = s.push_knows in
    let level : words.read + length q ≡ words.write = k.0 in
    quiet limit words q (push.SawRead l value write next words.read) pop [] []
    (reshape limit words q (push.SawWrite l value write next) (push.SawRead l value write next words.read) pop s
    (k.0, k.1, k.2, k.3, omega arith, omega (arith, k, s.room))) refl
push_goes limit words q (push.SawRead l value write next seen) pop fits s =
    let k : PushKnows limit words q (push.SawRead l value write next seen) = s.push_knows in
    let level : words.read + length q ≡ words.write = k.0 in
    let is : write ≡ words.read + length q = omega (arith, k) in
    let cell : Held (limit + 1) (set words.cells (write % length words.cells) value) words.read q
    × (slice_index (set words.cells (write % length words.cells) value) (write % (limit + 1)) ≡ value) =
    store_cell (limit + 1) words.cells words.read q write value s.size is (omega (arith, s.room)) s.held in
    quiet limit (record words { cells = set words.cells (write % length words.cells) value }) q (push.Filled l value write next seen)
    pop [] []
    (record {
      some = s.some;
      small = s.small;
      size = length-set words.cells (write % length words.cells) value ∙ s.size;
      room = s.room;
      held = cell.0;
      push_knows = (k.0, k.1, k.2, k.3, k.4, k.5, cell.1);
      pop_knows = s.pop_knows;
    }) refl
push_goes limit words q (push.Filled l value write next seen) pop fits s =
    let k : PushKnows limit words q (push.Filled l value write next seen) = s.push_knows in
    subst (λ (m : ℕ). PushGoes limit q pop [] [] (if nat_lt limit (next - words.read) then [] else Put value Kept ∷ [])
    (record words { write = next }) (push_filled m value next seen)) (sym k.1)
    (filled limit words q pop value next seen (nat_lt limit (next - words.read)) (nat_lt limit (next - seen)) refl refl fits
    (reshape limit words q (push.Filled l value write next seen) (push.Filled limit value words.write next seen) pop s (
      k.0,
      refl,
      refl,
      k.3 ∙ ap (λ (x : ℕ). x + 1) k.2,
      k.4,
      subst (λ (x : ℕ). x ≤ seen + limit) k.2 k.5,
      subst
          (λ (x : ℕ). slice_index words.cells (x % (limit + 1)) ≡ value) k.2 k.6,
    )))
push_goes limit words q (push.Full value seen next) pop fits s =
    let k : PushKnows limit words q (push.Full value seen next) = s.push_knows in
    let first : seen ≡ words.read → slice_index words.cells (seen % length words.cells) ≡ slice_index q 0
    = λ same. oldest_at limit words q seen (s.some) s.size s.held same ((k.0).full same) in
    quiet limit words q (push.SawOldest value seen next (slice_index words.cells (seen % length words.cells))) pop [] _
    (reshape limit words q (push.Full value seen next)
    (push.SawOldest value seen next (slice_index words.cells (seen % length words.cells))) pop s (k.0, k.1, first)) refl
  where
    oldest_at : (limit : ℕ) (words : RingWords) (q : List ℕ) (seen : ℕ) → 0 < limit → length words.cells ≡ limit + 1
        → Held (limit + 1) words.cells words.read q → seen ≡ words.read → length q ≡ limit
        → slice_index words.cells (seen % length words.cells) ≡ slice_index q 0
    oldest_at limit words q seen some size held same full =
        let at : words.read + 0 ≡ seen = omega arith in
        rw size (subst (λ (p : ℕ). slice_index words.cells (p % (limit + 1)) ≡ slice_index q 0) at (held.each 0 (omega arith)))
push_goes limit words q (push.SawOldest value seen next oldest) pop fits s
    = swapped limit words q pop value seen next oldest (words.read == seen) refl s
push_goes limit words q (push.Pushed value answer) pop fits s =
    quiet limit words q push.Idle pop _ _ (reshape limit words q (push.Pushed value answer) push.Idle pop s s.push_knows) refl

-- the write position grows by at most one
pub push_grows : (limit : ℕ) (words : RingWords) (q : List ℕ) (push : Push) → PushKnows limit words q push
    → (after_access words (push_next push)).write ≤ words.write + 1
push_grows limit words q push.Idle k = omega arith
push_grows limit words q (push.Begun l value) k = omega arith
push_grows limit words q (push.SawWrite l value write next) k = omega arith
push_grows limit words q (push.SawRead l value write next seen) k = omega arith
push_grows limit words q (push.Filled l value write next seen) k = omega (arith, k)
push_grows limit words q (push.Full value seen next) k = omega arith
push_grows limit words q (push.SawOldest value seen next oldest) k = won words next (words.read == seen)
  where
    won : (words : RingWords) (next : ℕ) (b : Bool) → (if b then record words { read = next } else words).write ≤ words.write + 1
    won words next true = omega arith
    won words next false = omega arith
push_grows limit words q (push.Pushed value answer) k = omega arith

pub idle_push : (p : Push) → push_is_idle p ≡ true → p ≡ push.Idle
idle_push push.Idle h = refl
idle_push (push.Begun l value) h = absurd (cc)
idle_push (push.SawWrite l value write next) h = absurd (cc)
idle_push (push.SawRead l value write next seen) h = absurd (cc)
idle_push (push.Filled l value write next seen) h = absurd (cc)
idle_push (push.Full value seen next) h = absurd (cc)
idle_push (push.SawOldest value seen next oldest) h = absurd (cc)
idle_push (push.Pushed value answer) h = absurd (cc)

-- the last step of a call, and no other, ends one
pub ends_one : (p : Push) → length (push_ended p) ≡ (if push_is_over p then 1 else 0)
ends_one push.Idle = refl
ends_one (push.Begun l value) = refl
ends_one (push.SawWrite l value write next) = refl
ends_one (push.SawRead l value write next seen) = refl
ends_one (push.Filled l value write next seen) = refl
ends_one (push.Full value seen next) = refl
ends_one (push.SawOldest value seen next oldest) = refl
ends_one (push.Pushed value answer) = refl
