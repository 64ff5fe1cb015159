-- A step of a ring's end moves a value from place to place: no value comes or goes but by what the step puts, takes or hands out.
use Rattle.std.proofs.Common.{ℕ, suc, ◌≡◌, ◌+◌, ◌-◌, ◌%◌, ◌<◌, ◌≤◌, ◌==◌, Bool, true, false, if◌then◌else◌, nat_lt, List, [], ◌∷◌, ◌++◌}
use Rattle.std.proofs.Common.{length, drop, slice_index, Some, None, refl, sym, ◌∙◌, ap, subst, arith, append-nil}
use Rattle.std.proofs.lemmas.Bool.{ltb-true, ltb-false, eq-eqb, ne_eqb, eqb-true}
use Rattle.iox_lanes_parties.specs.QueuesSteps.Access.{RingWords, successor, after_store, answer_of, after_access}
use Rattle.iox_lanes_parties.specs.QueuesSteps.Kept.{Held}
use Rattle.iox_lanes_parties.specs.QueuesSteps.Order.{Acts, after_acts, put_answer, after_put}
use Rattle.iox_lanes_parties.specs.QueuesSteps.declared.access.Word.TheVariants.{Read}
use Rattle.iox_lanes_parties.specs.QueuesSteps.declared.order.Act.{Act}
use Rattle.iox_lanes_parties.specs.QueuesSteps.declared.order.Act.TheVariants.{Put, Take}
use Rattle.iox_lanes_parties.specs.QueuesSteps.declared.order.PopAnswer.TheVariants.{Got, Saw}
use Rattle.iox_lanes_parties.specs.QueuesSteps.declared.order.PushAnswer.{PushAnswer}
use Rattle.iox_lanes_parties.specs.QueuesSteps.declared.order.PushAnswer.TheVariants.{Kept, LeftOut, Refused}
use Rattle.iox_lanes_parties.specs.QueuesSteps.Overflowing as overflowing
use Rattle.iox_lanes_parties.specs.QueuesSteps.OverflowingRing as overflowing_ring
use Rattle.iox_lanes_parties.specs.QueuesSteps.declared.rings.overflowing.push.Push as overflowing_push_type
use Rattle.iox_lanes_parties.specs.QueuesSteps.declared.rings.overflowing.push.Push.TheVariants as overflowing_push
use Rattle.iox_lanes_parties.specs.QueuesSteps.declared.rings.overflowing.pop.Pop as overflowing_pop_type
use Rattle.iox_lanes_parties.specs.QueuesSteps.declared.rings.overflowing.pop.Pop.TheVariants as overflowing_pop
use Rattle.iox_lanes_parties.specs.QueuesSteps.Refusing as refusing
use Rattle.iox_lanes_parties.specs.QueuesSteps.declared.rings.refusing.push.Push as refusing_push_type
use Rattle.iox_lanes_parties.specs.QueuesSteps.declared.rings.refusing.push.Push.TheVariants as refusing_push
use Rattle.iox_lanes_parties.specs.QueuesSteps.declared.rings.refusing.pop.Pop as refusing_pop_type
use Rattle.iox_lanes_parties.specs.QueuesSteps.declared.rings.refusing.pop.Pop.TheVariants as refusing_pop
use Rattle.iox_lanes_parties.specs.QueuesSteps.Ends.{overflows, placed_by_push, placed_by_pop, push_next, push_take, push_idle}
use Rattle.iox_lanes_parties.specs.QueuesSteps.Ends.{push_begun, pop_next, Shape}
use Rattle.iox_lanes_parties.specs.QueuesSteps.declared.rings.ends.RingKind.{RingKind}
use Rattle.iox_lanes_parties.specs.QueuesSteps.declared.rings.ends.RingKind.TheVariants as kind
use Rattle.iox_lanes_parties.specs.QueuesSteps.declared.rings.ends.Push.{Push}
use Rattle.iox_lanes_parties.specs.QueuesSteps.declared.rings.ends.Push.TheVariants as push
use Rattle.iox_lanes_parties.specs.QueuesSteps.declared.rings.ends.Pop.{Pop}
use Rattle.iox_lanes_parties.specs.QueuesSteps.declared.rings.ends.Pop.TheVariants as pop
use Rattle.iox_lanes_parties.specs.LanesBase.Answers.{push_answer}
use Rattle.iox_lanes_machine.specs.LedgerUses.{one_if, count}
use Rattle.iox_lanes_machine.specs.Stored.{taken_in, put_in, aside, cells_from, between}
use Rattle.iox_lanes_machine.proofs.Entries.{count_append}

-- what a put hands out
abbrev pub handed : PushAnswer → List ℕ
handed Kept = []
handed (LeftOut oldest) = oldest ∷ []
handed Refused = []

-- what some puts hand out
abbrev pub handed_out : List Act → List ℕ
handed_out [] = []
handed_out (Put value answer ∷ acts) = handed answer ++ handed_out acts
handed_out (Take answer ∷ acts) = handed_out acts

-- what some takes give
abbrev pub given_out : List Act → List ℕ
given_out [] = []
given_out (Put value answer ∷ acts) = given_out acts
given_out (Take (Got (Some value)) ∷ acts) = value ∷ given_out acts
given_out (Take (Got None) ∷ acts) = given_out acts
given_out (Take (Saw some) ∷ acts) = given_out acts

put_count : (s : ℕ) (o : Bool) (limit : ℕ) (q : List ℕ) (value : ℕ)
    → count s (after_put o limit q value) + count s (handed (put_answer o limit q value))
    ≡ count s q + count s (taken_in value (put_answer o limit q value))
put_count s true limit q value = by_test (nat_lt (length q) limit) q
  where
    by_test : (b : Bool) (q : List ℕ) → count s (if b then q ++ value ∷ [] else drop 1 (q ++ value ∷ [])) + count s
        (handed (if b then Kept else LeftOut (slice_index (q ++ value ∷ []) 0)))
        ≡ count s q + count s (taken_in value (if b then Kept else LeftOut (slice_index (q ++ value ∷ []) 0)))
    by_test true q = omega (arith, count_append s q (value ∷ []))
    by_test false [] = omega arith
    by_test false (x ∷ q) = omega (arith, count_append s q (value ∷ []))
put_count s false limit q value = by_test (nat_lt (length q) limit)
  where
    by_test : (b : Bool) → count s (if b then q ++ value ∷ [] else q) + count s (handed (if b then Kept else Refused))
        ≡ count s q + count s (taken_in value (if b then Kept else Refused))
    by_test true = omega (arith, count_append s q (value ∷ []))
    by_test false = omega arith

-- what waits after some acts, what they hand out and what they give, are what waited and what was put in
pub acts_count : (s : ℕ) (o : Bool) (limit : ℕ) (q : List ℕ) (acts : List Act) → Acts o limit q acts
    → count s (after_acts o limit q acts) + count s (handed_out acts) + count s (given_out acts) ≡ count s q + count s (put_in acts)
acts_count s o limit q [] h = omega arith
acts_count s o limit q (Put value answer ∷ acts) h =
    let more = acts_count s o limit (after_put o limit q value) acts h.1 in
    let one = put_count s o limit q value in
    omega (
      arith,
      more,
      one,
      count_append s (handed answer) (handed_out acts),
      count_append s (taken_in value answer) (put_in acts),
      ap (λ (a : PushAnswer). count s (handed a)) h.0,
      ap (λ (a : PushAnswer). count s (taken_in value a)) h.0,
    )
acts_count s o limit [] (Take (Got None) ∷ acts) h = acts_count s o limit [] acts h.1
acts_count s o limit (x ∷ q) (Take (Got None) ∷ acts) h = absurd (cc (h.0))
acts_count s o limit [] (Take (Got (Some got)) ∷ acts) h = absurd (cc (h.0))
acts_count s o limit (x ∷ q) (Take (Got (Some got)) ∷ acts) h =
    let same : got ≡ x = cc (h.0) in
    omega (arith, acts_count s o limit q acts h.1, ap (λ (y : ℕ). one_if (y == s)) same)
acts_count s o limit q (Take (Saw some) ∷ acts) h = acts_count s o limit q acts h.1

-- the value that a push stores with its next step, at its store of the write position
abbrev pub storing : overflowing_push_type.Push → List ℕ
storing overflowing_push.Idle = []
storing (overflowing_push.Begun limit value) = []
storing (overflowing_push.SawWrite limit value write next) = []
storing (overflowing_push.SawRead limit value write next seen) = []
storing (overflowing_push.Filled limit value write next seen) = value ∷ []
storing (overflowing_push.Full value seen next) = []
storing (overflowing_push.SawOldest value seen next oldest) = []
storing (overflowing_push.Pushed value answer) = []

-- one on a ring that refuses
abbrev pub storing_refusing : refusing_push_type.Push → List ℕ
storing_refusing refusing_push.Idle = []
storing_refusing (refusing_push.Begun limit value) = []
storing_refusing (refusing_push.SawWrite limit value write next) = []
storing_refusing (refusing_push.SawRoom value write next) = []
storing_refusing (refusing_push.Filled value next) = value ∷ []
storing_refusing (refusing_push.Pushed value answer) = []

-- a push on a ring of either kind
abbrev pub stores_now : Push → List ℕ
stores_now (push.Overflowing p) = storing p
stores_now (push.Refusing p) = storing_refusing p

-- what a push hands out with its next step, by where the read position stands
abbrev pub handing : ℕ → overflowing_push_type.Push → List ℕ
handing read overflowing_push.Idle = []
handing read (overflowing_push.Begun limit value) = []
handing read (overflowing_push.SawWrite limit value write next) = []
handing read (overflowing_push.SawRead limit value write next seen) = []
handing read (overflowing_push.Filled limit value write next seen) = []
handing read (overflowing_push.Full value seen next) = []
handing read (overflowing_push.SawOldest value seen next oldest) = if read == seen then oldest ∷ [] else []
handing read (overflowing_push.Pushed value answer) = []

-- a push on a ring of either kind
abbrev pub hands_now : ℕ → Push → List ℕ
hands_now read (push.Overflowing p) = handing read p
hands_now read (push.Refusing p) = []

-- what lies aside at a ring that lets its oldest go
abbrev late : ℕ → overflowing_push_type.Push → List ℕ
late read p = put_in (overflowing_ring.late_put read p)

-- a step of a push puts what lies aside, or what it stores, or lays that aside
overflowing_aside : (limit : ℕ) (words : RingWords) (q : List ℕ) (p : overflowing_push_type.Push) (c : overflowing_pop_type.Pop)
    → overflowing_ring.Shape limit words q p c
    → put_in (overflowing_ring.placed_by_push limit words.read p)
    ++ late (after_access words (overflowing.push_next p)).read
    (overflowing.push_take p (answer_of words (overflowing.push_next p))) ≡ late words.read p ++ storing p
overflowing_aside limit words q overflowing_push.Idle c s = refl
overflowing_aside limit words q (overflowing_push.Begun l value) c s = refl
overflowing_aside limit words q (overflowing_push.SawWrite l value write next) c s = refl
overflowing_aside limit words q (overflowing_push.SawRead l value write next seen) c s = refl
overflowing_aside limit words q (overflowing_push.Filled l value write next seen) c s =
    by_tests (nat_lt limit (next - words.read)) (nat_lt l (next - seen)) (words.read == seen) refl refl refl
  where
    k : overflowing_ring.PushKnows limit words q (overflowing_push.Filled l value write next seen)
    k = s.push_knows

    wide : l ≡ limit
    wide = k.1

    before : seen ≤ words.read
    before = k.4

    near : write ≤ seen + limit
    near = k.5

    after : next ≡ write + 1
    after = k.3

    by_tests : (behind full same : Bool) → nat_lt limit (next - words.read) ≡ behind → nat_lt l (next - seen) ≡ full
        → (words.read == seen) ≡ same
        → put_in (if behind then [] else Put value Kept ∷ [])
        ++ put_in (overflowing_ring.late_put words.read
        (if full then overflowing_push.Full value seen (successor seen) else overflowing_push.Pushed value Kept)) ≡ value ∷ []
    by_tests true true true e f g = ap (λ (b : Bool). put_in (if b then Put value Kept ∷ [] else [])) g
    by_tests true true false e f g =
        let less : limit < next - words.read = ltb-true limit (next - words.read) e in
        let same : words.read ≡ seen = omega (arith, less, before, near, after) in
        absurd (cc (g, eq-eqb words.read seen same))
    by_tests true false same e f g =
        let less : limit < next - words.read = ltb-true limit (next - words.read) e in
        let more : next - seen ≤ l = ltb-false l (next - seen) f in
        absurd (omega (arith, less, more, before, wide))
    by_tests false true true e f g =
        let more : next - words.read ≤ limit = ltb-false limit (next - words.read) e in
        let less : l < next - seen = ltb-true l (next - seen) f in
        let same : words.read ≡ seen = eqb-true words.read seen g in
        absurd (omega (arith, less, more, same, wide))
    by_tests false true false e f g = ap (λ (b : Bool). value ∷ put_in (if b then Put value Kept ∷ [] else [])) g
    by_tests false false same e f g = refl
overflowing_aside limit words q (overflowing_push.Full value seen next) c s
    = sym (append-nil (late words.read (overflowing_push.Full value seen next)))
overflowing_aside limit words q (overflowing_push.SawOldest value seen next oldest) c s = by_test (words.read == seen)
  where
    by_test : (b : Bool) → put_in (if b then Put value (LeftOut oldest) ∷ [] else []) ++ []
        ≡ put_in (if b then Put value Kept ∷ [] else []) ++ []
    by_test true = refl
    by_test false = refl
overflowing_aside limit words q (overflowing_push.Pushed value answer) c s = refl

overflowing_hands : (limit read : ℕ) (p : overflowing_push_type.Push)
    → handed_out (overflowing_ring.placed_by_push limit read p) ≡ handing read p
overflowing_hands limit read overflowing_push.Idle = refl
overflowing_hands limit read (overflowing_push.Begun l value) = refl
overflowing_hands limit read (overflowing_push.SawWrite l value write next) = refl
overflowing_hands limit read (overflowing_push.SawRead l value write next seen) = refl
overflowing_hands limit read (overflowing_push.Filled l value write next seen) = by_test (nat_lt limit (next - read))
  where
    by_test : (b : Bool) → handed_out (if b then [] else Put value Kept ∷ []) ≡ []
    by_test true = refl
    by_test false = refl
overflowing_hands limit read (overflowing_push.Full value seen next) = refl
overflowing_hands limit read (overflowing_push.SawOldest value seen next oldest) = by_test (read == seen)
  where
    by_test : (b : Bool) → handed_out (if b then Put value (LeftOut oldest) ∷ [] else []) ≡ (if b then oldest ∷ [] else [])
    by_test true = refl
    by_test false = refl
overflowing_hands limit read (overflowing_push.Pushed value answer) = refl

overflowing_gives : (limit read : ℕ) (p : overflowing_push_type.Push) → given_out (overflowing_ring.placed_by_push limit read p) ≡ []
overflowing_gives limit read overflowing_push.Idle = refl
overflowing_gives limit read (overflowing_push.Begun l value) = refl
overflowing_gives limit read (overflowing_push.SawWrite l value write next) = refl
overflowing_gives limit read (overflowing_push.SawRead l value write next seen) = refl
overflowing_gives limit read (overflowing_push.Filled l value write next seen) = by_test (nat_lt limit (next - read))
  where
    by_test : (b : Bool) → given_out (if b then [] else Put value Kept ∷ []) ≡ []
    by_test true = refl
    by_test false = refl
overflowing_gives limit read (overflowing_push.Full value seen next) = refl
overflowing_gives limit read (overflowing_push.SawOldest value seen next oldest) = by_test (read == seen)
  where
    by_test : (b : Bool) → given_out (if b then Put value (LeftOut oldest) ∷ [] else []) ≡ []
    by_test true = refl
    by_test false = refl
overflowing_gives limit read (overflowing_push.Pushed value answer) = refl

-- a push on a ring that refuses lays nothing aside
refusing_puts : (read : ℕ) (p : refusing_push_type.Push) → put_in (refusing.placed_by_push read p) ≡ storing_refusing p
refusing_puts read refusing_push.Idle = refl
refusing_puts read (refusing_push.Begun limit value) = refl
refusing_puts read (refusing_push.SawWrite limit value write next) = by_test (nat_lt (write - read) limit)
  where
    by_test : (b : Bool) → put_in (if b then [] else Put value Refused ∷ []) ≡ []
    by_test true = refl
    by_test false = refl
refusing_puts read (refusing_push.SawRoom value write next) = refl
refusing_puts read (refusing_push.Filled value next) = refl
refusing_puts read (refusing_push.Pushed value answer) = refl

refusing_hands : (read : ℕ) (p : refusing_push_type.Push) → handed_out (refusing.placed_by_push read p) ≡ []
refusing_hands read refusing_push.Idle = refl
refusing_hands read (refusing_push.Begun limit value) = refl
refusing_hands read (refusing_push.SawWrite limit value write next) = by_test (nat_lt (write - read) limit)
  where
    by_test : (b : Bool) → handed_out (if b then [] else Put value Refused ∷ []) ≡ []
    by_test true = refl
    by_test false = refl
refusing_hands read (refusing_push.SawRoom value write next) = refl
refusing_hands read (refusing_push.Filled value next) = refl
refusing_hands read (refusing_push.Pushed value answer) = refl

refusing_gives : (read : ℕ) (p : refusing_push_type.Push) → given_out (refusing.placed_by_push read p) ≡ []
refusing_gives read refusing_push.Idle = refl
refusing_gives read (refusing_push.Begun limit value) = refl
refusing_gives read (refusing_push.SawWrite limit value write next) = by_test (nat_lt (write - read) limit)
  where
    by_test : (b : Bool) → given_out (if b then [] else Put value Refused ∷ []) ≡ []
    by_test true = refl
    by_test false = refl
refusing_gives read (refusing_push.SawRoom value write next) = refl
refusing_gives read (refusing_push.Filled value next) = refl
refusing_gives read (refusing_push.Pushed value answer) = refl

-- a step of a push, counted
pub push_counts : (s : ℕ) (k : RingKind) (limit : ℕ) (words : RingWords) (q : List ℕ) (p : Push) (c : Pop) → Shape k limit words q p c
    → Acts (overflows k) limit q (placed_by_push limit words.read p)
    → count s (after_acts (overflows k) limit q (placed_by_push limit words.read p)) + count s
    (aside (after_access words (push_next p)).read (push_take p (answer_of words (push_next p)))) + count s (hands_now words.read p)
    ≡ count s q + count s (aside words.read p) + count s (stores_now p)
push_counts s kind.Overflowing limit words q (push.Overflowing p) (pop.Overflowing c) h acts =
    let placed : List Act = overflowing_ring.placed_by_push limit words.read p in
    omega (
      arith,
      acts_count s true limit q (overflowing_ring.placed_by_push limit words.read p) acts,
      ap (count s) (overflowing_hands limit words.read p),
      ap (count s) (overflowing_gives limit words.read p),
      ap (count s) (overflowing_aside limit words q p c h),
      count_append s (put_in (overflowing_ring.placed_by_push limit words.read p))
          (late (after_access words (overflowing.push_next p)).read (overflowing.push_take p (answer_of words (overflowing.push_next p)))),
      count_append s (late words.read p) (storing p),
    )
push_counts s kind.Overflowing limit words q (push.Overflowing p) (pop.Refusing c) h acts = absurd h
push_counts s kind.Overflowing limit words q (push.Refusing p) (pop.Overflowing c) h acts = absurd h
push_counts s kind.Overflowing limit words q (push.Refusing p) (pop.Refusing c) h acts = absurd h
push_counts s kind.Refusing limit words q (push.Overflowing p) (pop.Overflowing c) h acts = absurd h
push_counts s kind.Refusing limit words q (push.Overflowing p) (pop.Refusing c) h acts = absurd h
push_counts s kind.Refusing limit words q (push.Refusing p) (pop.Overflowing c) h acts = absurd h
push_counts s kind.Refusing limit words q (push.Refusing p) (pop.Refusing c) h acts =
    omega (
      arith,
      acts_count s false limit q (refusing.placed_by_push words.read p) acts,
      ap (count s) (refusing_hands words.read p),
      ap (count s) (refusing_gives words.read p),
      ap (count s) (refusing_puts words.read p),
    )

-- the slot that a pop takes with its next step, by where the read position stands
abbrev pub taking : ℕ → overflowing_pop_type.Pop → List ℕ
taking read overflowing_pop.Idle = []
taking read overflowing_pop.Begun = []
taking read (overflowing_pop.SawRead seen) = []
taking read (overflowing_pop.Nonempty seen next) = []
taking read (overflowing_pop.SawCell seen next value) = if read == seen then value ∷ [] else []
taking read (overflowing_pop.Popped got) = []
taking read overflowing_pop.LookBegun = []
taking read (overflowing_pop.LookRead seen) = []
taking read (overflowing_pop.Looked some) = []

-- one on a ring that refuses
abbrev pub taking_refusing : refusing_pop_type.Pop → List ℕ
taking_refusing refusing_pop.Idle = []
taking_refusing refusing_pop.Begun = []
taking_refusing (refusing_pop.SawRead seen) = []
taking_refusing (refusing_pop.Nonempty seen next) = []
taking_refusing (refusing_pop.SawCell next value) = value ∷ []
taking_refusing (refusing_pop.Popped got) = []
taking_refusing refusing_pop.LookBegun = []
taking_refusing (refusing_pop.LookRead seen) = []
taking_refusing (refusing_pop.Looked some) = []

-- a pop on a ring of either kind
abbrev pub takes_now : ℕ → Pop → List ℕ
takes_now read (pop.Overflowing c) = taking read c
takes_now read (pop.Refusing c) = taking_refusing c

-- a put that waits hands nothing out, and gives nothing
late_hands : (read : ℕ) (p : overflowing_push_type.Push) → (handed_out (overflowing_ring.late_put read p) ≡ [])
    × (given_out (overflowing_ring.late_put read p) ≡ [])
late_hands read overflowing_push.Idle = (refl, refl)
late_hands read (overflowing_push.Begun l value) = (refl, refl)
late_hands read (overflowing_push.SawWrite l value write next) = (refl, refl)
late_hands read (overflowing_push.SawRead l value write next seen) = (refl, refl)
late_hands read (overflowing_push.Filled l value write next seen) = (refl, refl)
late_hands read (overflowing_push.Full value seen next) = by_test (read == seen)
  where
    by_test : (b : Bool) → (handed_out (if b then Put value Kept ∷ [] else []) ≡ [])
        × (given_out (if b then Put value Kept ∷ [] else []) ≡ [])
    by_test true = (refl, refl)
    by_test false = (refl, refl)
late_hands read (overflowing_push.SawOldest value seen next oldest) = by_test (read == seen)
  where
    by_test : (b : Bool) → (handed_out (if b then Put value Kept ∷ [] else []) ≡ [])
        × (given_out (if b then Put value Kept ∷ [] else []) ≡ [])
    by_test true = (refl, refl)
    by_test false = (refl, refl)
late_hands read (overflowing_push.Pushed value answer) = (refl, refl)

-- nothing lies aside once the read position moved on
late_gone : (limit : ℕ) (words : RingWords) (q : List ℕ) (next : ℕ) (p : overflowing_push_type.Push) → next ≡ words.read + 1
    → overflowing_ring.PushKnows limit words q p → late next p ≡ []
late_gone limit words q next overflowing_push.Idle e k = refl
late_gone limit words q next (overflowing_push.Begun l value) e k = refl
late_gone limit words q next (overflowing_push.SawWrite l value write at) e k = refl
late_gone limit words q next (overflowing_push.SawRead l value write at seen) e k = refl
late_gone limit words q next (overflowing_push.Filled l value write at seen) e k = refl
late_gone limit words q next (overflowing_push.Full value seen at) e k =
    ap (λ (b : Bool). put_in (if b then Put value Kept ∷ [] else []))
    (ne_eqb next seen (λ same. absurd (omega (arith, same, e, (k.0).seen_before))))
late_gone limit words q next (overflowing_push.SawOldest value seen at oldest) e k =
    ap (λ (b : Bool). put_in (if b then Put value Kept ∷ [] else []))
    (ne_eqb next seen (λ same. absurd (omega (arith, same, e, (k.0).seen_before))))
late_gone limit words q next (overflowing_push.Pushed value answer) e k = refl

-- what a step of a pop places: what it puts, what it hands out and what it gives
record Stands (placed : List Act) (rest before taken : List ℕ) : Type 0 where
  puts : put_in placed ++ rest ≡ before
  hands : handed_out placed ≡ []
  gives : given_out placed ≡ taken

-- a step of a pop takes one from what waits, and puts what lies aside if it moves the read position
pop_stands : (limit : ℕ) (words : RingWords) (q : List ℕ) (p : overflowing_push_type.Push) (c : overflowing_pop_type.Pop)
    → overflowing_ring.Shape limit words q p c
    → Stands (overflowing_ring.placed_by_pop words p c) (late (after_access words (overflowing.pop_next c)).read p) (late words.read p)
    (taking words.read c)
pop_stands limit words q p overflowing_pop.Idle s = record { puts = refl; hands = refl; gives = refl }
pop_stands limit words q p overflowing_pop.Begun s = record { puts = refl; hands = refl; gives = refl }
pop_stands limit words q p (overflowing_pop.SawRead seen) s = by_test (words.write == seen)
  where
    by_test : (b : Bool) → Stands ((if b then Take (Got None) ∷ [] else []) ++ []) (late words.read p) (late words.read p) []
    by_test true = record { puts = refl; hands = refl; gives = refl }
    by_test false = record { puts = refl; hands = refl; gives = refl }
pop_stands limit words q p (overflowing_pop.Nonempty seen next) s = record { puts = refl; hands = refl; gives = refl }
pop_stands limit words q p (overflowing_pop.SawCell seen next value) s = by_test (words.read == seen) refl
  where
    by_test : (b : Bool) → (words.read == seen) ≡ b
        → Stands ((if b then Take (Got (Some value)) ∷ [] else []) ++ (if b then overflowing_ring.late_put words.read p else []))
        (late (if b then after_store words Read next else words).read p) (late words.read p) (if b then value ∷ [] else [])
    by_test true e = record {
      puts = ap (λ (xs : List ℕ). late words.read p ++ xs)
          (late_gone limit words q next p (omega (arith, (s.pop_knows).2, eqb-true words.read seen e)) s.push_knows) ∙ append-nil
          (late words.read p);
      hands = (late_hands words.read p).0;
      gives = ap (λ (xs : List ℕ). value ∷ xs) ((late_hands words.read p).1);
    }
    by_test false e = record { puts = refl; hands = refl; gives = refl }
pop_stands limit words q p (overflowing_pop.Popped got) s = record { puts = refl; hands = refl; gives = refl }
pop_stands limit words q p overflowing_pop.LookBegun s = record { puts = refl; hands = refl; gives = refl }
pop_stands limit words q p (overflowing_pop.LookRead seen) s = record { puts = refl; hands = refl; gives = refl }
pop_stands limit words q p (overflowing_pop.Looked some) s = record { puts = refl; hands = refl; gives = refl }

refusing_stands : (write : ℕ) (c : refusing_pop_type.Pop) → Stands (refusing.placed_by_pop write c) [] [] (taking_refusing c)
refusing_stands write refusing_pop.Idle = record { puts = refl; hands = refl; gives = refl }
refusing_stands write refusing_pop.Begun = record { puts = refl; hands = refl; gives = refl }
refusing_stands write (refusing_pop.SawRead seen) = by_test (write == seen)
  where
    by_test : (b : Bool) → Stands (if b then Take (Got None) ∷ [] else []) [] [] []
    by_test true = record { puts = refl; hands = refl; gives = refl }
    by_test false = record { puts = refl; hands = refl; gives = refl }
refusing_stands write (refusing_pop.Nonempty seen next) = record { puts = refl; hands = refl; gives = refl }
refusing_stands write (refusing_pop.SawCell next value) = record { puts = refl; hands = refl; gives = refl }
refusing_stands write (refusing_pop.Popped got) = record { puts = refl; hands = refl; gives = refl }
refusing_stands write refusing_pop.LookBegun = record { puts = refl; hands = refl; gives = refl }
refusing_stands write (refusing_pop.LookRead seen) = record { puts = refl; hands = refl; gives = refl }
refusing_stands write (refusing_pop.Looked some) = record { puts = refl; hands = refl; gives = refl }

-- a step of a pop, counted
pub pop_counts : (s : ℕ) (k : RingKind) (limit : ℕ) (words : RingWords) (q : List ℕ) (p : Push) (c : Pop) → Shape k limit words q p c
    → Acts (overflows k) limit q (placed_by_pop words p c)
    → count s (after_acts (overflows k) limit q (placed_by_pop words p c)) + count s (aside (after_access words (pop_next c)).read p) +
    count s (takes_now words.read c) ≡ count s q + count s (aside words.read p)
pop_counts s kind.Overflowing limit words q (push.Overflowing p) (pop.Overflowing c) h acts =
    let st = pop_stands limit words q p c h in
    omega (
      arith,
      acts_count s true limit q (overflowing_ring.placed_by_pop words p c) acts,
      ap (count s) st.hands,
      ap (count s) st.gives,
      ap (count s) st.puts,
      count_append s (put_in (overflowing_ring.placed_by_pop words p c)) (late (after_access words (overflowing.pop_next c)).read p),
    )
pop_counts s kind.Overflowing limit words q (push.Overflowing p) (pop.Refusing c) h acts = absurd h
pop_counts s kind.Overflowing limit words q (push.Refusing p) (pop.Overflowing c) h acts = absurd h
pop_counts s kind.Overflowing limit words q (push.Refusing p) (pop.Refusing c) h acts = absurd h
pop_counts s kind.Refusing limit words q (push.Overflowing p) (pop.Overflowing c) h acts = absurd h
pop_counts s kind.Refusing limit words q (push.Overflowing p) (pop.Refusing c) h acts = absurd h
pop_counts s kind.Refusing limit words q (push.Refusing p) (pop.Overflowing c) h acts = absurd h
pop_counts s kind.Refusing limit words q (push.Refusing p) (pop.Refusing c) h acts =
    let none : refusing.placed_by_pop words.write c ++ [] ≡ refusing.placed_by_pop words.write c
    = append-nil (refusing.placed_by_pop words.write c) in
    let plain : Acts false limit q (refusing.placed_by_pop words.write c) = subst (Acts false limit q) none acts in
    let st = refusing_stands words.write c in
    omega (
      arith,
      acts_count s false limit q (refusing.placed_by_pop words.write c) plain,
      ap (λ (xs : List Act). count s (after_acts false limit q xs)) none,
      ap (count s) st.hands,
      ap (count s) st.gives,
      ap (count s) st.puts,
      count_append s (put_in (refusing.placed_by_pop words.write c)) [],
    )

-- a step at a ring of samples given back, counted
pub back_push_counts : (s cells read : ℕ) (q : List ℕ) (p : refusing_push_type.Push) → Acts false cells q (refusing.placed_by_push read p)
    → count s (after_acts false cells q (refusing.placed_by_push read p)) ≡ count s q + count s (storing_refusing p)
back_push_counts s cells read q p acts =
    omega (
      arith,
      acts_count s false cells q (refusing.placed_by_push read p) acts,
      ap (count s) (refusing_hands read p),
      ap (count s) (refusing_gives read p),
      ap (count s) (refusing_puts read p),
    )

pub back_pop_counts : (s cells write : ℕ) (q : List ℕ) (c : refusing_pop_type.Pop) → Acts false cells q (refusing.placed_by_pop write c)
    → count s (after_acts false cells q (refusing.placed_by_pop write c)) + count s (taking_refusing c) ≡ count s q
back_pop_counts s cells write q c acts =
    let st = refusing_stands write c in
    omega (
      arith,
      acts_count s false cells q (refusing.placed_by_pop write c) acts,
      ap (count s) st.hands,
      ap (count s) st.gives,
      ap (count s) st.puts,
      count_append s (put_in (refusing.placed_by_pop write c)) [],
    )

-- the cells between the two positions hold the list
pub cells_are : (words : RingWords) (at : ℕ) (q : List ℕ) → Held (length words.cells) words.cells at q → cells_from words at (length q) ≡ q
cells_are words at [] h = refl
cells_are words at (x ∷ q) h =
    let here : at + 0 ≡ at = omega arith in
    let first : slice_index words.cells ((at + 0) % length words.cells) ≡ x = h.each 0 (omega arith) in
    let head : slice_index words.cells (at % length words.cells) ≡ x
    = subst (λ (n : ℕ). slice_index words.cells (n % length words.cells) ≡ x) here first in
    let rest : cells_from words (at + 1) (length q) ≡ q = cells_are words (at + 1) q (record { each = λ k below. next k below }) in
    ap (λ (y : ℕ). y ∷ cells_from words (at + 1) (length q)) head ∙ ap (λ (ys : List ℕ). x ∷ ys) rest
  where
    next : (k : ℕ) → k < length q → slice_index words.cells ((at + 1 + k) % length words.cells) ≡ slice_index q k
    next k below =
        let same : at + suc k ≡ at + 1 + k = omega arith in
        subst (λ (n : ℕ). slice_index words.cells (n % length words.cells) ≡ slice_index q k) same (h.each (suc k) (omega (arith, below)))

pub between_is : (cells : ℕ) (words : RingWords) (q : List ℕ) (p : refusing_push_type.Push) (c : refusing_pop_type.Pop)
    → refusing.Shape cells words q p c → between words ≡ q
between_is cells words q p c s =
    let size : words.write - words.read ≡ length q = omega (arith, s.level) in
    ap (cells_from words words.read) size ∙ cells_are words words.read q s.held

-- nothing lies aside where no push is in progress, one has just begun, or one was answered
pub idle_aside : (read : ℕ) (k : RingKind) → aside read (push_idle k) ≡ []
idle_aside read kind.Overflowing = refl
idle_aside read kind.Refusing = refl

pub begun_aside : (read : ℕ) (k : RingKind) (limit value : ℕ) → aside read (push_begun k limit value) ≡ []
begun_aside read kind.Overflowing limit value = refl
begun_aside read kind.Refusing limit value = refl

pub answered_aside : (read : ℕ) (p : Push) (answer : PushAnswer) → push_answer p ≡ Some answer → aside read p ≡ []
answered_aside read (push.Overflowing overflowing_push.Idle) answer e = refl
answered_aside read (push.Overflowing (overflowing_push.Begun limit value)) answer e = refl
answered_aside read (push.Overflowing (overflowing_push.SawWrite limit value write next)) answer e = refl
answered_aside read (push.Overflowing (overflowing_push.SawRead limit value write next seen)) answer e = refl
answered_aside read (push.Overflowing (overflowing_push.Filled limit value write next seen)) answer e = refl
answered_aside read (push.Overflowing (overflowing_push.Full value seen next)) answer e = absurd (cc e)
answered_aside read (push.Overflowing (overflowing_push.SawOldest value seen next oldest)) answer e = absurd (cc e)
answered_aside read (push.Overflowing (overflowing_push.Pushed value answered)) answer e = refl
answered_aside read (push.Refusing p) answer e = refl
