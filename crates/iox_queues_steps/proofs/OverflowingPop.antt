-- Each step of a pop on the overflowing ring preserves the shape, and its acts are in the order as required.
use Rattle.std.proofs.Common.{◌≡◌, ℕ, ◌+◌, ◌^◌, ◌%◌, ◌<◌, ◌≤◌, ◌⊎◌, Bool, true, false, if◌then◌else◌, ◌==◌, nat_lt, List, [], ◌∷◌, ◌++◌}
use Rattle.std.proofs.Common.{length, drop, slice_get, slice_index, not, Some, None, refl, sym, ◌∙◌, ap, subst, inl, inr, arith}
use Rattle.std.proofs.Common.{length-append, append-nil}
use Rattle.std.proofs.lemmas.Bool.{cases_lt, lt-ltb, le-ltb, eqb-true, eqb-false, ne_eqb, cond-false}
use Rattle.iox_queues_steps.specs.Access.{RingWords, successor, after_access, answer_of}
use Rattle.iox_queues_steps.specs.Order.{Acts, after_acts, put_values, take_values, PutNow}
use Rattle.iox_queues_steps.specs.Kept.{Held}
use Rattle.iox_queues_steps.specs.Overflowing.{pop_next, pop_take, pop_emptied, pop_swapped, pop_is_idle, pop_is_over}
use Rattle.iox_queues_steps.specs.OverflowingRing.{placed_by_pop, late_put, put_in_hand, pop_ended, IsLate, PushKnows, PopKnows, WasRead}
use Rattle.iox_queues_steps.specs.OverflowingRing.{Shape}
use Rattle.iox_queues_steps.specs.declared.order.PushAnswer.TheVariants.{Kept}
use Rattle.iox_queues_steps.specs.declared.order.PopAnswer.{PopAnswer}
use Rattle.iox_queues_steps.specs.declared.order.PopAnswer.TheVariants.{Got}
use Rattle.iox_queues_steps.specs.declared.order.Act.{Act}
use Rattle.iox_queues_steps.specs.declared.order.Act.TheVariants.{Put, Take}
use Rattle.iox_queues_steps.specs.declared.rings.overflowing.push.Push.{Push}
use Rattle.iox_queues_steps.specs.declared.rings.overflowing.push.Push.TheVariants as push
use Rattle.iox_queues_steps.specs.declared.rings.overflowing.pop.Pop.{Pop}
use Rattle.iox_queues_steps.specs.declared.rings.overflowing.pop.Pop.TheVariants as pop
use Rattle.iox_queues_steps.proofs.Held.{held-push, held-drop, successor_fits}
use Rattle.iox_queues_steps.proofs.OverflowingPush.{put_over-room, put_answer-room}

pub record PopGoes (limit : ℕ) (q : List ℕ) (push : Push) (hand : List PutNow) (new : List Act) (words : RingWords) (pop : Pop) : Type 0
  where
    pub list : List ℕ
    pub acts : Acts true limit q new
    pub after : after_acts true limit q new ≡ list
    pub shape : Shape limit words list push pop
    pub in_hand : put_in_hand words.read push ≡ hand ++ put_values new
    pub ended : pop_ended pop ≡ take_values new

-- how far apart the positions are, whatever the push does
pub record Span (limit : ℕ) (words : RingWords) (q : List ℕ) : Type 0 where
  pub apart : (words.read + length q ≡ words.write) ⊎ ((words.write ≡ words.read + limit + 1) × (length q ≡ limit))

late_span : (limit : ℕ) (words : RingWords) (q : List ℕ) (value seen : ℕ) → IsLate limit words q value seen → (seen < words.read)
    ⊎ (words.read ≤ seen) → Span limit words q
late_span limit words q value seen late (inl less) = record { apart = inl (late.moved less) }
late_span limit words q value seen late (inr same) =
    let before : seen ≤ words.read = late.seen_before in
    let w : words.write ≡ seen + limit + 1 = late.written in
    record { apart = inr (omega arith, late.full (omega arith)) }

pub span : (limit : ℕ) (words : RingWords) (q : List ℕ) (push : Push) → PushKnows limit words q push → Span limit words q
span limit words q push.Idle k = record { apart = inl k }
span limit words q (push.Begun l value) k = record { apart = inl k.0 }
span limit words q (push.SawWrite l value write next) k = record { apart = inl k.0 }
span limit words q (push.SawRead l value write next seen) k = record { apart = inl k.0 }
span limit words q (push.Filled l value write next seen) k = record { apart = inl k.0 }
span limit words q (push.Full value seen next) k = late_span limit words q value seen k.0 (cases_lt seen words.read)
span limit words q (push.SawOldest value seen next oldest) k = late_span limit words q value seen k.0 (cases_lt seen words.read)
span limit words q (push.Pushed value answer) k = record { apart = inl k }

pub empty_since : (limit : ℕ) (words : RingWords) (q : List ℕ) → 0 < limit → Span limit words q → words.write ≤ words.read → length q ≡ 0
empty_since limit words q some s le = elim s.apart [ inl h ↦ omega arith | inr h ↦ absurd (omega arith) ]

pub some_since : (limit : ℕ) (words : RingWords) (q : List ℕ) → 0 < limit → Span limit words q → (words.write ≡ words.read → ⊥)
    → 0 < length q
some_since limit words q some s ne = elim s.apart [ inl h ↦ omega arith | inr h ↦ omega arith ]

pub reads_below : (limit : ℕ) (words : RingWords) (q : List ℕ) → Span limit words q → words.read ≤ words.write
reads_below limit words q s = elim s.apart [ inl h ↦ omega arith | inr h ↦ omega arith ]

-- only the pop's stage changed
pub repop : (limit : ℕ) (words : RingWords) (q : List ℕ) (push : Push) (pop pop' : Pop) → Shape limit words q push pop
    → PopKnows words.read q pop' → Shape limit words q push pop'
repop limit words q push pop pop' s k = record {
  some = s.some;
  small = s.small;
  size = s.size;
  room = s.room;
  held = s.held;
  push_knows = s.push_knows;
  pop_knows = k;
}

-- a step that places nothing
pub still : (limit : ℕ) (words : RingWords) (q : List ℕ) (push : Push) (pop : Pop) → Shape limit words q push pop → pop_ended pop ≡ []
    → PopGoes limit q push (put_in_hand words.read push) [] words pop
still limit words q push pop s e = record {
  list = q;
  acts = tt;
  after = refl;
  shape = s;
  in_hand = sym (append-nil (put_in_hand words.read push));
  ended = e;
}

none_at : (q : List ℕ) → length q ≡ 0 → None ≡ slice_get q 0
none_at [] h = refl
none_at (x ∷ q) h = absurd (omega arith)

nothing_left : (q : List ℕ) → length q ≡ 0 → drop 1 q ≡ q
nothing_left [] h = refl
nothing_left (x ∷ q) h = absurd (omega arith)

emptied : (limit : ℕ) (words : RingWords) (q : List ℕ) (push : Push) (seen : ℕ) (b : Bool) → (words.write == seen) ≡ b
    → words.write + 1 < 2 ^ 64
    → Shape limit words q push (pop.SawRead seen)
    → PopGoes limit q push (put_in_hand words.read push) ((if b then Take (Got None) ∷ [] else []) ++ []) words (pop_emptied b seen)
emptied limit words q push seen true e fits s =
    let k : WasRead words.read q seen = s.pop_knows in
    let same : words.write ≡ seen = eqb-true words.write seen e in
    let none : length q ≡ 0 = empty_since limit words q s.some (span limit words q push s.push_knows) (omega (arith, k)) in
    record {
      list = q;
      acts = (none_at q none, tt);
      after = nothing_left q none;
      shape = repop limit words q push (pop.SawRead seen) (pop.Popped None) s tt;
      in_hand = sym (append-nil (put_in_hand words.read push));
      ended = refl;
    }
emptied limit words q push seen false e fits s =
    let k : WasRead words.read q seen = s.pop_knows in
    let differ : words.write ≡ seen → ⊥ = eqb-false words.write seen e in
    let there : Span limit words q = span limit words q push s.push_knows in
    let below : words.read ≤ words.write = reads_below limit words q there in
    still limit words q push (pop.Nonempty seen (successor seen))
    (repop limit words q push (pop.SawRead seen) (pop.Nonempty seen (successor seen)) s (
      k.0,
      elim (cases_lt seen words.read)
          [ inl less ↦ k.1 less | inr ge ↦ some_since limit words q s.some there (λ same. differ (omega (arith, same, k))) ],
      successor_fits seen (omega (arith, k)),
    ))
    refl

looked : (q : List ℕ) (read write seen : ℕ) (b : Bool) → (write == seen) ≡ b → (b ≡ true → length q ≡ 0) → (b ≡ false → 0 < length q)
    → not (write == seen) ≡ nat_lt 0 (length q)
looked q read write seen true e none some = ap not e ∙ sym (le-ltb 0 (length q) (let h : length q ≡ 0 = none refl in omega arith))
looked q read write seen false e none some = ap not e ∙ sym (lt-ltb 0 (length q) (some refl))

-- the put that waited goes after what is left, when the pop has taken the oldest
pub record LateGoes (limit : ℕ) (rest : List ℕ) (write read next : ℕ) (cells : List ℕ) (push : Push) : Type 0 where
  pub list : List ℕ
  pub acts : Acts true limit rest (late_put read push)
  pub after : after_acts true limit rest (late_put read push) ≡ list
  pub longer : length rest ≤ length list
  pub room : length list ≤ limit
  pub held : Held (limit + 1) cells next list
  pub push_knows : PushKnows limit (record { cells = cells; write = write; read = next }) list push
  pub in_hand : put_in_hand next push ≡ put_in_hand read push ++ put_values (late_put read push)
  pub no_takes : take_values (late_put read push) ≡ []

-- what a put that waited did once the oldest is taken: it was made and kept, or waits on
abbrev made_late : Bool → ℕ → List Act
made_late b value = if b then Put value Kept ∷ [] else []

-- the same of a put that knew a read position, by whether it was still that of the ring
record LateComes (limit : ℕ) (words : RingWords) (rest : List ℕ) (next value seen : ℕ) (b : Bool) : Type 0 where
  list : List ℕ
  acts : Acts true limit rest (made_late b value)
  after : after_acts true limit rest (made_late b value) ≡ list
  longer : length rest ≤ length list
  room : length list ≤ limit
  held : Held (limit + 1) words.cells next list
  is_late : IsLate limit (record words { read = next }) list value seen
  in_hand : put_in_hand next (push.Full value seen next) ≡ (if b then [] else record { value = value; answer = Kept } ∷ [])
      ++ put_values (made_late b value)
  no_takes : take_values (made_late b value) ≡ []
  before : seen < next

late : (limit : ℕ) (words : RingWords) (x : ℕ) (rest : List ℕ) (next value seen : ℕ) (b : Bool) → (words.read == seen) ≡ b
    → next ≡ words.read + 1 → length (x ∷ rest) ≤ limit → Held (limit + 1) words.cells words.read (x ∷ rest)
    → IsLate limit words (x ∷ rest) value seen
    → LateComes limit words rest next value seen b
late limit words x rest next value seen true e on room held l =
    let same : seen ≡ words.read = sym (eqb-true words.read seen e) in
    let full : length (x ∷ rest) ≡ limit = l.full same in
    let w : words.write ≡ seen + limit + 1 = l.written in
    let space : length rest < limit = omega arith in
    let there : slice_index words.cells ((words.read + limit) % (limit + 1)) ≡ value = l.behind same in
    let dropped : Held (limit + 1) words.cells next rest
    = subst (λ (r : ℕ). Held (limit + 1) words.cells r rest) (sym on) (held-drop (limit + 1) words.cells words.read (x ∷ rest) held) in
    let place : next + length rest ≡ words.read + limit = omega arith in record {
      list = rest ++ value ∷ [];
      acts = (sym (put_answer-room limit rest value space), tt);
      after = put_over-room limit rest value space;
      longer = omega (arith, length-append rest (value ∷ []));
      room = omega (arith, length-append rest (value ∷ []));
      held = held-push (limit + 1) words.cells next rest value dropped (rw place there);
      is_late = record {
        written = w;
        seen_before = omega arith;
        moved = λ _. omega (arith, length-append rest (value ∷ []));
        full = λ same'. absurd (omega arith);
        behind = λ same'. absurd (omega arith);
      };
      in_hand = cond-false (next == seen) _ _ (ne_eqb next seen (λ same'. omega arith));
      no_takes = refl;
      before = omega arith;
    }
late limit words x rest next value seen false e on room held l =
    let differ : words.read ≡ seen → ⊥ = eqb-false words.read seen e in
    let before : seen ≤ words.read = l.seen_before in
    let less : seen < words.read = omega arith in
    let level : words.read + length (x ∷ rest) ≡ words.write = l.moved less in record {
      list = rest;
      acts = tt;
      after = refl;
      longer = omega arith;
      room = omega arith;
      held = subst (λ (r : ℕ). Held (limit + 1) words.cells r rest) (sym on) (held-drop (limit + 1) words.cells words.read (x ∷ rest) held);
      is_late = record {
        written = l.written;
        seen_before = omega arith;
        moved = λ _. omega arith;
        full = λ same'. absurd (omega arith);
        behind = λ same'. absurd (omega arith);
      };
      in_hand = cond-false (next == seen) _ _ (ne_eqb next seen (λ same'. omega arith));
      no_takes = refl;
      before = omega arith;
    }

-- a push that has no put waiting
level_goes : (limit : ℕ) (words : RingWords) (x : ℕ) (rest : List ℕ) (next : ℕ) (push : Push) → next ≡ words.read + 1
    → length (x ∷ rest) ≤ limit → Held (limit + 1) words.cells words.read (x ∷ rest)
    → PushKnows limit (record words { read = next }) rest push → late_put words.read push ≡ []
    → put_in_hand next push ≡ put_in_hand words.read push → LateGoes limit rest words.write words.read next words.cells push
level_goes limit words x rest next push on room held k none hand = record {
  list = rest;
  acts = subst (Acts true limit rest) (sym none) tt;
  after = ap (after_acts true limit rest) none;
  longer = omega arith;
  room = omega arith;
  held = subst (λ (r : ℕ). Held (limit + 1) words.cells r rest) (sym on) (held-drop (limit + 1) words.cells words.read (x ∷ rest) held);
  push_knows = k;
  in_hand = hand ∙ sym (append-nil (put_in_hand words.read push)) ∙ ap (λ (n : List Act). put_in_hand words.read push ++ put_values n)
      (sym none);
  no_takes = ap take_values none;
}

pub late_goes : (limit : ℕ) (words : RingWords) (x : ℕ) (rest : List ℕ) (next : ℕ) (push : Push) → next ≡ words.read + 1
    → length (x ∷ rest) ≤ limit → Held (limit + 1) words.cells words.read (x ∷ rest) → PushKnows limit words (x ∷ rest) push
    → LateGoes limit rest words.write words.read next words.cells push
late_goes limit words x rest next push.Idle on room held k
    = level_goes limit words x rest next push.Idle on room held (omega arith) refl refl
late_goes limit words x rest next (push.Begun l value) on room held k
    = level_goes limit words x rest next (push.Begun l value) on room held (omega arith, k.1) refl refl
late_goes limit words x rest next (push.SawWrite l value write n) on room held k
    = level_goes limit words x rest next (push.SawWrite l value write n) on room held (omega arith, k.1, k.2, k.3) refl refl
late_goes limit words x rest next (push.SawRead l value write n seen) on room held k
    = level_goes limit words x rest next (push.SawRead l value write n seen) on room held (omega arith, k.1, k.2, k.3, omega arith, k.5)
    refl refl
late_goes limit words x rest next (push.Filled l value write n seen) on room held k
    = level_goes limit words x rest next (push.Filled l value write n seen) on room held
    (omega arith, k.1, k.2, k.3, omega arith, k.5, k.6) refl refl
late_goes limit words x rest next (push.Full value seen n) on room held k =
    let g = late limit words x rest next value seen (words.read == seen) refl on room held k.0 in
    record {
      list = g.list;
      acts = g.acts;
      after = g.after;
      longer = g.longer;
      room = g.room;
      held = g.held;
      push_knows
          = (g.is_late, k.1);
      in_hand = g.in_hand;
      no_takes = g.no_takes;
    }
late_goes limit words x rest next (push.SawOldest value seen n oldest) on room held k =
    let g = late limit words x rest next value seen (words.read == seen) refl on room held k.0 in
    record {
      list = g.list;
      acts = g.acts;
      after = g.after;
      longer = g.longer;
      room = g.room;
      held = g.held;
      push_knows
          = (g.is_late, k.1, λ same. absurd (let less : seen < next = g.before in omega arith));
      in_hand = g.in_hand;
      no_takes = g.no_takes;
    }
late_goes limit words x rest next (push.Pushed value answer) on room held k
    = level_goes limit words x rest next (push.Pushed value answer) on room held (omega arith) refl refl

swapped : (limit : ℕ) (words : RingWords) (q : List ℕ) (push : Push) (seen next value : ℕ) (b : Bool) → (words.read == seen) ≡ b
    → words.write + 1 < 2 ^ 64
    → Shape limit words q push (pop.SawCell seen next value)
    → PopGoes limit q push (put_in_hand words.read push)
    ((if b then Take (Got (Some value)) ∷ [] else []) ++ (if b then late_put words.read push else []))
    (if b then record words { read = next } else words) (pop_swapped b words.read value)
swapped limit words [] push seen next value true e fits s =
    let k : PopKnows words.read [] (pop.SawCell seen next value) = s.pop_knows in absurd (omega (arith, k))
swapped limit words (x ∷ rest) push seen next value true e fits s =
    let k : PopKnows words.read (x ∷ rest) (pop.SawCell seen next value) = s.pop_knows in
    let same : seen ≡ words.read = sym (eqb-true words.read seen e) in
    let on : next ≡ words.read + 1 = omega (arith, k) in
    let g : LateGoes limit rest words.write words.read next words.cells push
    = late_goes limit words x rest next push on s.room s.held s.push_knows in
    record {
      list = g.list;
      acts = (ap (λ (v : ℕ). Some v) (k.3 same), g.acts);
      after = g.after;
      shape = record {
        some = s.some;
        small = s.small;
        size = s.size;
        room = g.room;
        held = g.held;
        push_knows = g.push_knows;
        pop_knows = tt;
      };
      in_hand = g.in_hand;
      ended = ap (λ (l : List PopAnswer). Got (Some value) ∷ l) (sym g.no_takes);
    }
swapped limit words q push seen next value false e fits s =
    let k : PopKnows words.read q (pop.SawCell seen next value) = s.pop_knows in
    let below : words.read ≤ words.write = reads_below limit words q (span limit words q push s.push_knows) in
    still limit words q push (pop.Nonempty words.read (successor words.read))
    (repop limit words q push (pop.SawCell seen next value) (pop.Nonempty words.read (successor words.read)) s
    (omega arith, k.1, successor_fits words.read (omega arith))) refl

-- every step of a pop or a look
pub pop_goes : (limit : ℕ) (words : RingWords) (q : List ℕ) (push : Push) (pop : Pop) → words.write + 1 < 2 ^ 64
    → Shape limit words q push pop
    → PopGoes limit q push (put_in_hand words.read push) (placed_by_pop words push pop) (after_access words (pop_next pop))
    (pop_take pop (answer_of words (pop_next pop)))
pop_goes limit words q push pop.Idle fits s = still limit words q push pop.Idle s refl
pop_goes limit words q push pop.Begun fits s =
    still limit words q push (pop.SawRead words.read)
    (repop limit words q push pop.Begun (pop.SawRead words.read) s (omega arith, λ less. absurd (omega arith))) refl
pop_goes limit words q push (pop.SawRead seen) fits s = emptied limit words q push seen (words.write == seen) refl fits s
pop_goes limit words q push (pop.Nonempty seen next) fits s =
    let k : PopKnows words.read q (pop.Nonempty seen next) = s.pop_knows in
    still limit words q push (pop.SawCell seen next (slice_index words.cells (seen % length words.cells)))
    (repop limit words q push (pop.Nonempty seen next) (pop.SawCell seen next (slice_index words.cells (seen % length words.cells))) s (
      k.0,
      k.1,
      k.2,
      λ same. let at : words.read + 0 ≡ seen = omega arith in
          rw s.size (subst (λ (p : ℕ). slice_index words.cells (p % (limit + 1)) ≡ slice_index q 0) at (s.held.each 0 k.1)),
    )) refl
pop_goes limit words q push (pop.SawCell seen next value) fits s
    = swapped limit words q push seen next value (words.read == seen) refl fits s
pop_goes limit words q push (pop.Popped got) fits s
    = still limit words q push pop.Idle (repop limit words q push (pop.Popped got) pop.Idle s tt) refl
pop_goes limit words q push pop.LookBegun fits s =
    still limit words q push (pop.LookRead words.read)
    (repop limit words q push pop.LookBegun (pop.LookRead words.read) s (omega arith, λ less. absurd (omega arith))) refl
pop_goes limit words q push (pop.LookRead seen) fits s =
    let k : WasRead words.read q seen = s.pop_knows in
    let there : Span limit words q = span limit words q push s.push_knows in
    record {
      list = q;
      acts = (
        looked q words.read words.write seen (words.write == seen) refl
            (λ t. let same : words.write ≡ seen = eqb-true words.write seen t in empty_since limit words q s.some there (omega (arith, k)))
            (λ f. let differ : words.write ≡ seen → ⊥ = eqb-false words.write seen f in
            elim (cases_lt seen words.read)
            [ inl less ↦ k.1 less | inr ge ↦ some_since limit words q s.some there (λ same. differ (omega (arith, same, k))) ]),
        tt,
      );
      after = refl;
      shape = repop limit words q push (pop.LookRead seen) (pop.Looked (not (words.write == seen))) s tt;
      in_hand = sym (append-nil (put_in_hand words.read push));
      ended = refl;
    }
pop_goes limit words q push (pop.Looked waiting) fits s
    = still limit words q push pop.Idle (repop limit words q push (pop.Looked waiting) pop.Idle s tt) refl

pub pop_grows : (words : RingWords) (pop : Pop) → (after_access words (pop_next pop)).write ≡ words.write
pop_grows words pop.Idle = refl
pop_grows words pop.Begun = refl
pop_grows words (pop.SawRead seen) = refl
pop_grows words (pop.Nonempty seen next) = refl
pop_grows words (pop.SawCell seen next value) = won words next (words.read == seen)
  where
    won : (words : RingWords) (next : ℕ) (b : Bool) → (if b then record words { read = next } else words).write ≡ words.write
    won words next true = refl
    won words next false = refl
pop_grows words (pop.Popped got) = refl
pop_grows words pop.LookBegun = refl
pop_grows words (pop.LookRead seen) = refl
pop_grows words (pop.Looked some) = refl

pub idle_pop : (p : Pop) → pop_is_idle p ≡ true → p ≡ pop.Idle
idle_pop pop.Idle h = refl
idle_pop pop.Begun h = absurd (cc)
idle_pop (pop.SawRead seen) h = absurd (cc)
idle_pop (pop.Nonempty seen next) h = absurd (cc)
idle_pop (pop.SawCell seen next value) h = absurd (cc)
idle_pop (pop.Popped got) h = absurd (cc)
idle_pop pop.LookBegun h = absurd (cc)
idle_pop (pop.LookRead seen) h = absurd (cc)
idle_pop (pop.Looked some) h = absurd (cc)

-- the last step of a call, and no other, ends one
pub ends_one : (p : Pop) → length (pop_ended p) ≡ (if pop_is_over p then 1 else 0)
ends_one pop.Idle = refl
ends_one pop.Begun = refl
ends_one (pop.SawRead seen) = refl
ends_one (pop.Nonempty seen next) = refl
ends_one (pop.SawCell seen next value) = refl
ends_one (pop.Popped got) = refl
ends_one pop.LookBegun = refl
ends_one (pop.LookRead seen) = refl
ends_one (pop.Looked some) = refl
