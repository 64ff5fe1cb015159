-- What acts take goes up where what they put does; and what was put, was not taken and does not wait, was lost.
use Rattle.std.proofs.Common.{ℕ, zero, suc, ◌≡◌, ◌+◌, ◌-◌, ◌<◌, ◌≤◌, ◌==◌, Bool, true, false, if◌then◌else◌, nat_lt, List, [], ◌∷◌}
use Rattle.std.proofs.Common.{◌++◌, length, map, drop, slice_get, Some, None, append-nil, append_assoc, refl, sym, ◌∙◌, ap, subst, inl, inr}
use Rattle.std.proofs.Common.{arith}
use Rattle.std.proofs.lemmas.Bool.Decides.{eqb_tells}
use Rattle.iox_lanes_machine.specs.QueuesSteps.Order.{Acts, after_acts, after_put}
use Rattle.iox_lanes_machine.specs.QueuesSteps.declared.order.Act.{Act}
use Rattle.iox_lanes_machine.specs.QueuesSteps.declared.order.Act.TheVariants.{Put, Take}
use Rattle.iox_lanes_machine.specs.QueuesSteps.declared.order.PopAnswer.TheVariants.{Got, Saw}
use Rattle.iox_lanes_machine.specs.QueuesSteps.declared.order.PushAnswer.TheVariants.{Kept, LeftOut, Refused}
use Rattle.iox_lanes_machine.specs.LedgerUses.{count, one_if}
use Rattle.iox_lanes_machine.specs.Stored.{put_in}
use Rattle.iox_lanes_machine.proofs.Entries.{count_append}
use Rattle.iox_lanes_machine.proofs.Rings.{acts_count, given_out, handed_out}
use Rattle.iox_lanes_laws.specs.Messages.{MessageState}
use Rattle.iox_lanes_laws.specs.Sequences.{CountUp, GoUpTo, IsMissed, sequence_of, sequences_lost, sequences_taken}

-- numbers that go up from somewhere go up from below it, too
go_lower : (less low : ℕ) (xs : List ℕ) (high : ℕ) → less ≤ low → GoUpTo low xs high → GoUpTo less xs high
go_lower less low [] high le h = omega (arith, le, h)
go_lower less low (x ∷ xs) high le h = (omega (arith, le, h.0), h.1)

-- and so without one of them
go_skip : (low x : ℕ) (xs : List ℕ) (high : ℕ) → GoUpTo low (x ∷ xs) high → GoUpTo low xs high
go_skip low x xs high h = go_lower low x xs high (omega (arith, h.0)) h.1

go_without : (low : ℕ) (xs : List ℕ) (x : ℕ) (ys : List ℕ) (high : ℕ) → GoUpTo low (xs ++ x ∷ ys) high → GoUpTo low (xs ++ ys) high
go_without low [] x ys high h = go_skip low x ys high h
go_without low (y ∷ xs) x ys high h = (h.0, go_without y xs x ys high h.1)

go_end : (low : ℕ) (xs : List ℕ) (high : ℕ) → GoUpTo low xs high → low ≤ high
go_end low [] high h = h
go_end low (x ∷ xs) high h = omega (arith, h.0, go_end x xs high h.1)

go_above : (low : ℕ) (xs : List ℕ) (x : ℕ) (ys : List ℕ) (high : ℕ) → GoUpTo low (xs ++ x ∷ ys) high → low < x
go_above low [] x ys high h = h.0
go_above low (y ∷ xs) x ys high h = omega (arith, h.0, go_above y xs x ys high h.1)

go_behind : (low : ℕ) (xs : List ℕ) (x : ℕ) (ys : List ℕ) (high : ℕ) → GoUpTo low (xs ++ x ∷ ys) high → GoUpTo x ys high
go_behind low [] x ys high h = h.1
go_behind low (y ∷ xs) x ys high h = go_behind y xs x ys high h.1

go_append : (low : ℕ) (xs : List ℕ) (middle : ℕ) (ys : List ℕ) (high : ℕ) → GoUpTo low xs middle → GoUpTo middle ys high
    → GoUpTo low (xs ++ ys) high
go_append low [] middle ys high h g = go_lower low middle ys high h g
go_append low (x ∷ xs) middle ys high h g = (h.0, go_append x xs middle ys high h.1 g)

-- no number stands among those above it, among those below it, or between two that follow one another
one_other : (x k : ℕ) → (x ≡ k → ⊥) → one_if (x == k) ≡ 0
one_other x k not = elim (eqb_tells x k) [
  | inl same ↦ absurd (not same.1)
  | inr other ↦ ap one_if other.0
]

none_below : (k low : ℕ) (xs : List ℕ) (high : ℕ) → GoUpTo low xs high → k ≤ low → count k xs ≡ 0
none_below k low [] high h le = refl
none_below k low (x ∷ xs) high h le = omega (
  arith,
  one_other x k (λ same. absurd (omega (arith, same, h.0, le))),
  none_below k x xs high h.1 (omega (arith, le, h.0)),
)

none_above : (k low : ℕ) (xs : List ℕ) (high : ℕ) → GoUpTo low xs high → high < k → count k xs ≡ 0
none_above k low [] high h lt = refl
none_above k low (x ∷ xs) high h lt = omega (
  arith,
  one_other x k (λ same. absurd (omega (arith, same, go_end x xs high h.1, lt))),
  none_above k x xs high h.1 lt,
)

none_between : (k low : ℕ) (xs : List ℕ) (one next : ℕ) (ys : List ℕ) (high : ℕ) → GoUpTo low (xs ++ one ∷ next ∷ ys) high → one < k
    → k < next → count k (xs ++ one ∷ next ∷ ys) ≡ 0
none_between k low [] one next ys high h above below = omega (
  arith,
  one_other one k (λ same. absurd (omega (arith, same, above))),
  one_other next k (λ same. absurd (omega (arith, same, below))),
  none_below k next ys high (h.1).1 (omega (arith, below)),
)
none_between k low (x ∷ xs) one next ys high h above below = omega (
  arith,
  one_other x k (λ same. absurd (omega (arith, same, above, go_above x xs one (next ∷ ys) high h.1))),
  none_between k x xs one next ys high h.1 above below,
)

-- the numbers of the messages that acts put, whatever they are answered
abbrev pub sequences_put : List Act → List ℕ
sequences_put [] = []
sequences_put (Put value answer ∷ acts) = value ∷ sequences_put acts
sequences_put (Take answer ∷ acts) = sequences_put acts

go_drop : (low high value : ℕ) (more q : List ℕ) → GoUpTo low ((q ++ value ∷ []) ++ more) high
    → GoUpTo low (drop 1 (q ++ value ∷ []) ++ more) high
go_drop low high value more [] h = go_skip low value more high h
go_drop low high value more (x ∷ q) h = go_skip low x ((q ++ value ∷ []) ++ more) high h

go_put : (o : Bool) (limit low high : ℕ) (q : List ℕ) (value : ℕ) (more : List ℕ) → GoUpTo low (q ++ value ∷ more) high
    → GoUpTo low (after_put o limit q value ++ more) high
go_put true limit low high q value more h = by_test (nat_lt (length q) limit)
  where
    whole : GoUpTo low ((q ++ value ∷ []) ++ more) high
    whole = subst (λ (xs : List ℕ). GoUpTo low xs high) (sym (append_assoc q (value ∷ []) more)) h

    by_test : (b : Bool) → GoUpTo low ((if b then q ++ value ∷ [] else drop 1 (q ++ value ∷ [])) ++ more) high
    by_test true = whole
    by_test false = go_drop low high value more q whole
go_put false limit low high q value more h = by_test (nat_lt (length q) limit)
  where
    by_test : (b : Bool) → GoUpTo low ((if b then q ++ value ∷ [] else q) ++ more) high
    by_test true = subst (λ (xs : List ℕ). GoUpTo low xs high) (sym (append_assoc q (value ∷ []) more)) h
    by_test false = go_without low q value more high h

-- what is taken, and after it what waits then, goes up if what waited, and after it what is put, does
taken_go : (o : Bool) (limit low high : ℕ) (q : List ℕ) (acts : List Act) → Acts o limit q acts
    → GoUpTo low (q ++ sequences_put acts) high → GoUpTo low (sequences_taken acts ++ after_acts o limit q acts) high
taken_go o limit low high q [] answers h = subst (λ (xs : List ℕ). GoUpTo low xs high) (append-nil q) h
taken_go o limit low high q (Put value answer ∷ acts) answers h =
    taken_go o limit low high (after_put o limit q value) acts answers.1 (go_put o limit low high q value (sequences_put acts) h)
taken_go o limit low high [] (Take (Got None) ∷ acts) answers h = taken_go o limit low high [] acts answers.1 h
taken_go o limit low high (x ∷ q) (Take (Got None) ∷ acts) answers h = absurd (cc (answers.0))
taken_go o limit low high [] (Take (Got (Some got)) ∷ acts) answers h = absurd (cc (answers.0))
taken_go o limit low high (x ∷ q) (Take (Got (Some got)) ∷ acts) answers h =
    let same : got ≡ x = cc (answers.0) in (
      omega (arith, same, h.0),
      taken_go o limit got high q acts answers.1
          (subst (λ (n : ℕ). GoUpTo n (q ++ sequences_put acts) high) (sym same) h.1),
    )
taken_go o limit low high q (Take (Saw some) ∷ acts) answers h = taken_go o limit low high q acts answers.1 h

given_are : (acts : List Act) → given_out acts ≡ sequences_taken acts
given_are [] = refl
given_are (Put value answer ∷ acts) = given_are acts
given_are (Take (Got None) ∷ acts) = given_are acts
given_are (Take (Got (Some value)) ∷ acts) = ap (λ (xs : List ℕ). value ∷ xs) (given_are acts)
given_are (Take (Saw some) ∷ acts) = given_are acts

lost_count : (k : ℕ) (acts : List Act) → count k (sequences_put acts) + count k (handed_out acts)
    ≡ count k (put_in acts) + count k (sequences_lost acts)
lost_count k [] = refl
lost_count k (Put value Kept ∷ acts) = omega (arith, lost_count k acts)
lost_count k (Put value (LeftOut oldest) ∷ acts) = omega (arith, lost_count k acts)
lost_count k (Put value Refused ∷ acts) = omega (arith, lost_count k acts)
lost_count k (Take answer ∷ acts) = lost_count k acts

-- what waited and was put was taken, was lost, or waits
all_counted : (k : ℕ) (o : Bool) (limit : ℕ) (q : List ℕ) (acts : List Act) → Acts o limit q acts
    → count k q + count k (sequences_put acts)
    ≡ count k (sequences_taken acts) + count k (sequences_lost acts) + count k (after_acts o limit q acts)
all_counted k o limit q acts answers =
    omega (arith, acts_count k o limit q acts answers, ap (count k) (given_are acts), lost_count k acts)

-- numbers that count up
counts_go : (last : ℕ) (xs : List ℕ) → CountUp last xs → GoUpTo last xs (last + length xs)
counts_go last [] h = omega arith
counts_go last (x ∷ xs) h =
    let top : x + length xs ≡ last + length (x ∷ xs) = omega (arith, h.0) in
    (omega (arith, h.0), subst (GoUpTo x xs) top (counts_go x xs h.1))

counts_once : (k last : ℕ) (xs : List ℕ) → CountUp last xs → last < k → k ≤ last + length xs → count k xs ≡ 1
counts_once k last [] h above below = absurd (omega (arith, above, below))
counts_once k last (x ∷ xs) h above below = elim (eqb_tells x k) [
  | inl same ↦ omega (
    arith,
    ap one_if same.0,
    none_below k x xs (x + length xs) (counts_go x xs h.1) (omega (arith, same.1)),
  )
  | inr other ↦ omega (
    arith,
    ap one_if other.0,
    counts_once k x xs h.1 (omega (arith, h.0, above, other.1)) (omega (arith, h.0, below)),
  )
]

pub counts_more : (last : ℕ) (xs : List ℕ) (x : ℕ) → CountUp last xs → x ≡ last + length xs + 1 → CountUp last (xs ++ x ∷ [])
counts_more last [] x h is = (omega (arith, is), tt)
counts_more last (y ∷ xs) x h is = (h.0, counts_more y xs x h.1 (omega (arith, is, h.0)))

counts_at : (last : ℕ) (sent : List MessageState) (j number : ℕ) → CountUp last (map sequence_of sent) → j < length sent
    → number ≡ last + j + 1
    → (message : MessageState) × (slice_get sent j ≡ Some message) × (sequence_of message ≡ number)
counts_at last [] j number h below is = absurd (omega (arith, below))
counts_at last (one ∷ sent) zero number h below is = (one, refl, omega (arith, is, h.0))
counts_at last (one ∷ sent) (suc j) number h below is =
    counts_at (sequence_of one) sent j number h.1 (omega (arith, below)) (omega (arith, is, h.0))

-- two that are taken one directly after the other
module _ (o : Bool) (limit last : ℕ) (found : List ℕ) (acts : List Act) (sent : List MessageState) (answers : Acts o limit found acts)
    (goes : GoUpTo 0 found last) (puts : CountUp last (sequences_put acts)) (few : length (sequences_put acts) ≤ length sent)
    (counts : CountUp last (map sequence_of sent)) (earlier later : List ℕ) (low high : ℕ)
    (split : sequences_taken acts ≡ earlier ++ low ∷ high ∷ later) where
  abbrev waits : List ℕ
  waits = after_acts o limit found acts

  abbrev top : ℕ
  top = last + length (sequences_put acts)

  in_turn : GoUpTo 0 (earlier ++ low ∷ high ∷ (later ++ waits)) top
  in_turn = subst (λ (xs : List ℕ). GoUpTo 0 xs top)
      (ap (λ (xs : List ℕ). xs ++ waits) split ∙ append_assoc earlier (low ∷ high ∷ later) waits)
      (taken_go o limit 0 top found acts answers
      (go_append 0 found last (sequences_put acts) top goes (counts_go last (sequences_put acts) puts)))

  next_up : GoUpTo low (high ∷ (later ++ waits)) top
  next_up = go_behind 0 earlier low (high ∷ (later ++ waits)) top in_turn

  pub rises : low < high
  rises = next_up.0

  pub missed : (k : ℕ) → low < k → k < high → IsMissed last sent found waits acts k
  missed k above below =
      let all : count k (sequences_taken acts) + count k waits ≡ 0
      = sym (count_append k (sequences_taken acts) waits)
      ∙ ap (count k) (ap (λ (xs : List ℕ). xs ++ waits) split ∙ append_assoc earlier (low ∷ high ∷ later) waits)
      ∙ none_between k 0 earlier low high (later ++ waits) top in_turn above below in
      let under : high ≤ top = go_end high (later ++ waits) top next_up.1 in
      let whole = all_counted k o limit found acts answers in
      record {
        not_taken = omega (arith, all);
        not_waiting = omega (arith, all);
        sent_here = λ new.
            let at = counts_at last sent (k - last - 1) k counts (omega (arith, new, below, under, few)) (omega (arith, new)) in
            record { message = at.0; there = at.1; same = at.2 };
        lost_here = λ new. omega (
          arith,
          all,
          whole,
          none_above k 0 found last goes new,
          counts_once k last (sequences_put acts) puts new (omega (arith, below, under)),
        );
        found_here = λ old. omega (
          arith,
          all,
          whole,
          none_below k last (sequences_put acts) top (counts_go last (sequences_put acts) puts) old,
        );
      }
