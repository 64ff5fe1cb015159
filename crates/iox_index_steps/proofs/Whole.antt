-- What each kind of step leaves of the words, the holders and the counts.
use Rattle.std.proofs.Common.{◌≡◌, ℕ, ◌+◌, ◌-◌, ◌%◌, ◌^◌, ◌<◌, ◌⊎◌, inl, inr, ⊎_elim, Bool, true, false, if◌then◌else◌, ◌==◌, ◌&&◌, not}
use Rattle.std.proofs.Common.{nat_lt, Option, Some, None, List, [], ◌∷◌, ◌++◌, length, set, slice_index, refl, sym, ◌∙◌, ap, subst, arith}
use Rattle.std.proofs.Common.{length-set}
use Rattle.std.proofs.lemmas.Bool.{eqb-true, eq-eqb, ne_eqb, ltb-true, and_parts, cases_eq}
use Rattle.iox_queues_steps.specs.Access.{RingWords}
use Rattle.iox_queues_steps.specs.declared.access.Access.TheVariants.{Exchange}
use Rattle.iox_queues_steps.specs.declared.access.Word.TheVariants.{Read}
use Rattle.iox_container.specs.Head.{head_of_word}
use Rattle.iox_container.specs.declared.release.ReleaseMode.{ReleaseMode}
use Rattle.iox_queues.specs.Told.{own}
use Rattle.iox_queues.specs.declared.bits.machine.Event.{Event}
use Rattle.iox_index_steps.specs.Steps.{next_free, borrowed_count, lock_mark, head_taken, head_given, is_locked_by, locks_last}
use Rattle.iox_index_steps.specs.Changes.{holds_more, changed_by, took_by, gave_by, head_changes, times_taken, times_given}
use Rattle.iox_index_steps.specs.Machine.{holder_of}
use Rattle.iox_index_steps.specs.Kept.{HoldsIndex, WordsFit, LeadsThrough, count_taken, one_if_taken, times_among}
use Rattle.iox_index_steps.specs.Machine.{one_if_holder}
use Rattle.iox_queues.proofs.OwnSteps.{own_more, own_else}
use Rattle.iox_index_steps.proofs.Counts.{more_changes, more_taken, more_given, turns_on}
use Rattle.iox_index_steps.proofs.Heads.{taken_free, taken_aba, taken_held, given_free, given_aba, given_held, one_locks}
use Rattle.iox_index_steps.proofs.Places.{at_most_one, held_within, is_holder_of, leads_on, leads_within, moves_one, none_taken, not_all}
use Rattle.iox_index_steps.proofs.Places.{not_holder, one_fewer, one_more, zero_if}

-- the head counts its changes, the taken indices or none after the mark
abbrev pub Counts : ℕ → List (Option ℕ) → Type 0
Counts word holders = (borrowed_count word ≡ count_taken holders) ⊎ ((borrowed_count word ≡ lock_mark) × (count_taken holders ≡ 0))

-- what one more step adds to the counts of all steps, and of each party's
module _ (words words' : RingWords) (holders holders' : List (Option ℕ)) (events : List Event) (e : Event)
    (w : WordsFit words holders events) where
  abbrev Adds : (Option ℕ → ℕ) → Type 0
  Adds f = (i : ℕ) → took_by i e.access e.answer + f (holder_of holders i) ≡ gave_by i e.access e.answer + f (holder_of holders' i)

  taken_on : Adds one_if_taken → (i : ℕ)
      → times_taken i (events ++ e ∷ []) ≡ times_given i (events ++ e ∷ []) + one_if_taken (holder_of holders' i)
  taken_on adds i = omega (arith, more_taken i events (e ∷ []), more_given i events (e ∷ []), w.taken i, adds i)

  own_on : Adds (one_if_holder e.party) → (i : ℕ)
      → times_taken i (own e.party events ++ e ∷ [])
      ≡ times_given i (own e.party events ++ e ∷ []) + one_if_holder e.party (holder_of holders' i)
  own_on adds i = omega
      (arith, more_taken i (own e.party events) (e ∷ []), more_given i (own e.party events) (e ∷ []), w.each e.party i, adds i)

  each_on : Adds (one_if_holder e.party)
      → ((q i : ℕ) → (e.party ≡ q → ⊥) → one_if_holder q (holder_of holders i) ≡ one_if_holder q (holder_of holders' i))
      → (q i : ℕ) → times_taken i (own q (events ++ e ∷ []))
      ≡ times_given i (own q (events ++ e ∷ [])) + one_if_holder q (holder_of holders' i)
  each_on adds others q i =
      ⊎_elim
      (λ (same : e.party ≡ q). subst (λ (q : ℕ). times_taken i (own q (events ++ e ∷ []))
      ≡ times_given i (own q (events ++ e ∷ [])) + one_if_holder q (holder_of holders' i)) same
      (subst (λ (es : List Event). times_taken i es ≡ times_given i es + one_if_holder e.party (holder_of holders' i))
      (sym (own_more e.party events e refl)) (own_on adds i)))
      (λ (differs : e.party ≡ q → ⊥). subst
      (λ (es : List Event). times_taken i es ≡ times_given i es + one_if_holder q (holder_of holders' i))
      (sym (own_else q events e differs))
      (w.each q i ∙ ap (λ (k : ℕ). times_given i (own q events) + k) (others q i differs)))
      (cases_eq e.party q)

  whole_on : (free : List ℕ) → LeadsThrough (length words'.cells) words'.cells (next_free words'.read) free
      → ((i : ℕ) → i < length words'.cells → times_among i free + one_if_taken (holder_of holders' i) ≡ 1)
      → (head_of_word words'.read).aba ≡ (head_changes events + changed_by e.access e.answer) % 2 ^ 16
      → Counts words'.read holders' → Adds one_if_taken → Adds (one_if_holder e.party)
      → ((q i : ℕ) → (e.party ≡ q → ⊥) → one_if_holder q (holder_of holders i) ≡ one_if_holder q (holder_of holders' i))
      → WordsFit words' holders' (events ++ e ∷ [])
  whole_on free leads once changes counts adds own_adds others = record {
    free = free;
    leads = leads;
    once = once;
    changes = changes ∙ ap (λ (k : ℕ). k % 2 ^ 16) (omega (arith, more_changes events (e ∷ [])));
    counts = counts;
    taken = taken_on adds;
    each = each_on own_adds others;
    turns = λ i k. turns_on i k events e (λ k. w.turns i k) (
      omega (arith, taken_on adds i, at_most_one (holder_of holders' i)),
      omega
          (arith, taken_on adds i, at_most_one (holder_of holders' i)),
    );
  }

-- a step that does nothing to the head
module _ (holders : List (Option ℕ)) (events : List Event) (e : Event) (unchanged : changed_by e.access e.answer ≡ 0)
    (took : (j : ℕ) → took_by j e.access e.answer ≡ 0) (gave : (j : ℕ) → gave_by j e.access e.answer ≡ 0) where
  pub whole_kept : (words : RingWords) → WordsFit words holders events → WordsFit words holders (events ++ e ∷ [])
  whole_kept words w =
      whole_on words words holders holders events e w w.free w.leads w.once
      (w.changes ∙ ap (λ (k : ℕ). k % 2 ^ 16) (omega arith)) w.counts
      (λ i. omega (arith, took i, gave i)) (λ i. omega (arith, took i, gave i)) (λ q i differs. refl)

  -- the cell of an index that a party took
  pub whole_stored : (words : RingWords) (p j v : ℕ) → length holders ≡ length words.cells → HoldsIndex holders p j
      → WordsFit words holders events
      → WordsFit (record words { cells = set words.cells j v }) holders (events ++ e ∷ [])
  whole_stored words p j v size holds w =
      let long : length (set words.cells j v) ≡ length words.cells = length-set words.cells j v in
      let taken : one_if_taken (holder_of holders j) ≡ 1 = ap one_if_taken holds in
      let apart : times_among j w.free ≡ 0 = omega (arith, w.once j (omega (arith, held_within holders j p holds, size)), taken) in
      whole_on words (record words { cells = set words.cells j v }) holders holders events e w w.free
      (subst (λ (n : ℕ). LeadsThrough n (set words.cells j v) (next_free words.read) w.free) (sym long)
      (leads_on (length words.cells) words.cells (next_free words.read) w.free j v apart w.leads))
      (λ i within. w.once i (omega (arith, within, long)))
      (w.changes ∙ ap (λ (k : ℕ). k % 2 ^ 16) (omega arith)) w.counts
      (λ i. omega (arith, took i, gave i)) (λ i. omega (arith, took i, gave i)) (λ q i differs. refl)

-- what an exchange that was won says
one_if_all : (a b c : Bool) → a ≡ true → b ≡ true → ◌≡◌ {A = ℕ} (if a && (b && c) then 1 else 0) (if c then 1 else 0)
one_if_all true true c x y = refl
one_if_all true false c x y = absurd (cc)
one_if_all false b c x y = absurd (cc)

none_if_not : (a b c : Bool) → b ≡ false → ◌≡◌ {A = ℕ} (if a && (b && c) then 1 else 0) 0
none_if_not true true c y = absurd (cc)
none_if_not true false c y = refl
none_if_not false b c y = refl

pub won : (old new : ℕ) → changed_by (Exchange Read old new) old ≡ 1
won old new = ap (λ (b : Bool). if b then 1 else 0) (eq-eqb old old refl)

pub took_more : (i old new : ℕ) → holds_more old new ≡ true → took_by i (Exchange Read old new) old ≡ (if next_free old == i then 1 else 0)
took_more i old new more = one_if_all (old == old) (holds_more old new) (next_free old == i) (eq-eqb old old refl) more

pub gave_more : (i old new : ℕ) → holds_more old new ≡ true → gave_by i (Exchange Read old new) old ≡ 0
gave_more i old new more = none_if_not (old == old) (not (holds_more old new)) (next_free new == i) (ap not more)

pub took_less : (i old new : ℕ) → holds_more old new ≡ false → took_by i (Exchange Read old new) old ≡ 0
took_less i old new less = none_if_not (old == old) (holds_more old new) (next_free old == i) less

pub gave_less : (i old new : ℕ) → holds_more old new ≡ false → gave_by i (Exchange Read old new) old ≡ (if next_free new == i then 1 else 0)
gave_less i old new less = one_if_all (old == old) (not (holds_more old new)) (next_free new == i) (eq-eqb old old refl) (ap not less)

-- the first of the free indices, where the head names one
free_first : (n : ℕ) (cells : List ℕ) (from : ℕ) (free : List ℕ) → from < n → LeadsThrough n cells from free
    → (rest : List ℕ) × (free ≡ from ∷ rest) × LeadsThrough n cells (slice_index cells from) rest
free_first n cells from [] within h = absurd (omega (arith, within, h))
free_first n cells from (i ∷ rest) within h =
    (rest, ap (λ (j : ℕ). j ∷ rest) (sym h.0), subst (λ (j : ℕ). LeadsThrough n cells (slice_index cells j) rest) (sym h.0) h.2)

open_count : (word : ℕ) (holders : List (Option ℕ)) → (borrowed_count word ≡ lock_mark → ⊥) → Counts word holders
    → borrowed_count word ≡ count_taken holders
open_count word holders unmarked (inl h) = h
open_count word holders unmarked (inr h) = absurd (unmarked h.0)

-- the index that the head names is free
pub head_free : (words : RingWords) (holders : List (Option ℕ)) (events : List Event) → WordsFit words holders events
    → next_free words.read < length words.cells
    → holder_of holders (next_free words.read) ≡ None
head_free words holders events w there =
    let rests : (rest : List ℕ) × (w.free ≡ next_free words.read ∷ rest)
    × LeadsThrough (length words.cells) words.cells (slice_index words.cells (next_free words.read)) rest =
    free_first (length words.cells) words.cells (next_free words.read) w.free there w.leads in
    let among : times_among (next_free words.read) w.free
    ≡ (if next_free words.read == next_free words.read then 1 else 0) + times_among (next_free words.read) rests.0
    = ap (times_among (next_free words.read)) rests.1 in
    none_taken (holder_of holders (next_free words.read))
    (omega (
      arith,
      w.once (next_free words.read) there,
      among,
      ap (λ (b : Bool). ◌+◌ (if b then 1 else 0) 0)
          (eq-eqb (next_free words.read) (next_free words.read) refl),
    ))

-- an index is taken out
module _ (words : RingWords) (holders : List (Option ℕ)) (events : List Event) (p : ℕ) (w : WordsFit words holders events)
    (small : length words.cells < 2 ^ 24) (size : length holders ≡ length words.cells)
    (there : next_free words.read < length words.cells) (unmarked : borrowed_count words.read ≡ lock_mark → ⊥) where
  abbrev head : ℕ
  head = next_free words.read

  abbrev next : ℕ
  next = slice_index words.cells head

  abbrev new : ℕ
  new = head_taken words.read next

  abbrev rests : (rest : List ℕ) × (w.free ≡ head ∷ rest) × LeadsThrough (length words.cells) words.cells next rest
  rests = free_first (length words.cells) words.cells head w.free there w.leads

  among : (i : ℕ) → times_among i w.free ≡ (if head == i then 1 else 0) + times_among i rests.0
  among i = ap (times_among i) rests.1

  was_free : holder_of holders head ≡ None
  was_free = head_free words holders events w there

  held : borrowed_count words.read ≡ count_taken holders
  held = open_count words.read holders unmarked w.counts

  room : borrowed_count words.read + 1 < 2 ^ 24
  room = omega (arith, held, not_all holders head (omega (arith, there, size)) was_free, small, size)

  next_small : next < 2 ^ 24
  next_small = omega (arith, leads_within (length words.cells) words.cells next rests.0 rests.2, small)

  pub more : holds_more words.read new ≡ true
  more = eq-eqb (borrowed_count new) (borrowed_count words.read + 1) (taken_held words.read next next_small room)

  moves : (f : Option ℕ → ℕ) (x : Option ℕ) (a b i : ℕ) → a + f None ≡ b + f x
      → (if head == i then a else 0) + f (holder_of holders i) ≡ (if head == i then b else 0) + f (holder_of (set holders head x) i)
  moves f x a b i fit = moves_one f holders head i x a b (omega (arith, there, size)) (ap (λ (y : Option ℕ). a + f y) was_free ∙ fit)

  adds : (f : Option ℕ → ℕ) (x : Option ℕ) → f None ≡ 0 → f x ≡ 1 → (i : ℕ)
      → took_by i (Exchange Read words.read new) words.read + f (holder_of holders i)
      ≡ gave_by i (Exchange Read words.read new) words.read + f (holder_of (set holders head x) i)
  adds f x none some i =
      omega (
        arith,
        took_more i words.read new more,
        gave_more i words.read new more,
        moves f x 1 0 i (omega (arith, none, some)),
        zero_if
            (head == i),
      )

  pub whole_taken : WordsFit (record words { read = new }) (set holders head (Some p))
      (events ++ record { party = p; access = Exchange Read words.read new; answer = words.read } ∷ [])
  whole_taken =
      whole_on words (record words { read = new }) holders (set holders head (Some p)) events
      (record { party = p; access = Exchange Read words.read new; answer = words.read }) w
      rests.0
      (subst (λ (from : ℕ). LeadsThrough (length words.cells) words.cells from rests.0)
      (sym (taken_free words.read next next_small room)) rests.2)
      (λ i within. omega (arith, w.once i within, among i, moves one_if_taken (Some p) 1 0 i refl, zero_if (head == i)))
      (taken_aba words.read next next_small room ∙ (omega (arith, w.changes, won words.read new)))
      (inl (taken_held words.read next next_small room ∙ omega
      (arith, held, one_more holders head p (omega (arith, there, size)) was_free)))
      (adds one_if_taken (Some p) refl refl)
      (adds (one_if_holder p) (Some p) refl (is_holder_of p (Some p) refl))
      (λ q i differs. omega (arith, moves (one_if_holder q) (Some p) 0 0 i (omega (arith, not_holder q p differs)), zero_if (head == i)))

-- of a locked set none is taken
pub locked_free : (words : RingWords) (holders : List (Option ℕ)) (events : List Event) → WordsFit words holders events
    → length words.cells < 2 ^ 24 → length holders ≡ length words.cells
    → is_locked_by (length words.cells) words.read ≡ true → count_taken holders ≡ 0
locked_free words holders events w small size locked = of w.counts
  where
    parts : (nat_lt (next_free words.read) (length words.cells) ≡ true) × ((borrowed_count words.read == lock_mark) ≡ true)
    parts = and_parts (nat_lt (next_free words.read) (length words.cells)) (borrowed_count words.read == lock_mark) locked

    there : next_free words.read < length words.cells
    there = ltb-true (next_free words.read) (length words.cells) parts.0

    mark : borrowed_count words.read ≡ lock_mark
    mark = eqb-true (borrowed_count words.read) lock_mark parts.1

    of : Counts words.read holders → count_taken holders ≡ 0
    of (inl h) = absurd (omega (
      arith,
      h,
      mark,
      not_all holders (next_free words.read) (omega (arith, there, size)) (head_free words holders events w there),
      size,
      small,
    ))
    of (inr h) = h.1

-- an index is given back
module _ (words : RingWords) (holders : List (Option ℕ)) (events : List Event) (p index : ℕ) (mode : ReleaseMode)
    (w : WordsFit words holders events)
    (small : length words.cells < 2 ^ 24) (size : length holders ≡ length words.cells)
    (holds : HoldsIndex holders p index) (linked : slice_index words.cells index ≡ next_free words.read) where
  abbrev given : ℕ
  given = head_given index mode words.read

  abbrev locks : Bool
  locks = locks_last mode (borrowed_count words.read)

  pub within_holders : index < length holders
  within_holders = held_within holders index p holds

  pub index_small : index < 2 ^ 24
  index_small = omega (arith, within_holders, small, size)

  pub fewer : count_taken (set holders index None) + 1 ≡ count_taken holders
  fewer = one_fewer holders index p holds

  pub counted : borrowed_count words.read ≡ count_taken holders
  counted = of w.counts
    where
      of : Counts words.read holders → borrowed_count words.read ≡ count_taken holders
      of (inl h) = h
      of (inr h) = absurd (omega (arith, h.1, fewer))

  pub some : 0 < borrowed_count words.read
  some = omega (arith, counted, fewer)

  given_count : (b : Bool) → locks ≡ b → borrowed_count given ≡ (if b then lock_mark else borrowed_count words.read - 1)
      → Counts given (set holders index None)
  given_count true e h = inr (h, omega (arith, one_locks mode (borrowed_count words.read) e, counted, fewer))
  given_count false e h = inl (omega (arith, h, counted, fewer))

  given_counts : Counts given (set holders index None)
  given_counts = given_count locks refl (given_held index words.read index_small some mode)

  pub fewer_held : holds_more words.read given ≡ false
  fewer_held = ne_eqb (borrowed_count given) (borrowed_count words.read + 1)
      (differs locks refl (given_held index words.read index_small some mode))
    where
      differs : (b : Bool) → locks ≡ b → borrowed_count given ≡ (if b then lock_mark else borrowed_count words.read - 1)
          → borrowed_count given ≡ borrowed_count words.read + 1 → ⊥
      differs true e h same = omega (arith, one_locks mode (borrowed_count words.read) e, h, same)
      differs false e h same = omega (arith, h, same)

  gone : (f : Option ℕ → ℕ) (a b i : ℕ) → a + f (Some p) ≡ b + f None
      → (if index == i then a else 0) + f (holder_of holders i) ≡ (if index == i then b else 0) + f (holder_of (set holders index None) i)
  gone f a b i fit = moves_one f holders index i None a b within_holders (ap (λ (y : Option ℕ). a + f y) holds ∙ fit)

  gave_index : (i : ℕ) → gave_by i (Exchange Read words.read given) words.read ≡ (if index == i then 1 else 0)
  gave_index i = gave_less i words.read given fewer_held ∙ ap (λ (k : ℕ). if k == i then 1 else 0)
      (given_free index words.read index_small some mode)

  less_by : (f : Option ℕ → ℕ) → f None ≡ 0 → f (Some p) ≡ 1 → (i : ℕ)
      → took_by i (Exchange Read words.read given) words.read + f (holder_of holders i)
      ≡ gave_by i (Exchange Read words.read given) words.read + f (holder_of (set holders index None) i)
  less_by f none one i = omega
      (arith, took_less i words.read given fewer_held, gave_index i, gone f 0 1 i (omega (arith, none, one)), zero_if (index == i))

  pub whole_given : WordsFit (record words { read = given }) (set holders index None)
      (events ++ record { party = p; access = Exchange Read words.read given; answer = words.read } ∷ [])
  whole_given =
      whole_on words (record words { read = given }) holders (set holders index None) events
      (record { party = p; access = Exchange Read words.read given; answer = words.read }) w
      (index ∷ w.free) (
        given_free index words.read index_small some mode,
        omega (arith, within_holders, size),
        subst
            (λ (from : ℕ). LeadsThrough (length words.cells) words.cells from w.free) (sym linked) w.leads,
      )
      (λ i within. omega (arith, w.once i within, gone one_if_taken 0 1 i refl, zero_if (index == i)))
      (given_aba index words.read index_small some mode ∙ (omega (arith, w.changes, won words.read given)))
      given_counts
      (less_by one_if_taken refl refl)
      (less_by (one_if_holder p) refl (is_holder_of p (Some p) refl))
      (λ q i differs. omega (arith, gone (one_if_holder q) 0 0 i (omega (arith, not_holder q p differs)), zero_if (index == i)))
