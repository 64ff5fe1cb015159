-- What a party's own step leaves.
use Rattle.std.proofs.Common.{◌≡◌, ℕ, ◌+◌, ◌-◌, ◌^◌, ◌<◌, ◌≤◌, Bool, true, false, if◌then◌else◌, ◌==◌, nat_le, nat_lt, Option, Some, None}
use Rattle.std.proofs.Common.{Ok, Err, List, [], ◌∷◌, ◌++◌, length, set, slice_index, drop, refl, sym, ◌∙◌, ap, subst, arith, length-set}
use Rattle.std.proofs.Math.Seq.{get_or-set_same, get_or-set_other}
use Rattle.std.proofs.lemmas.Bool.{and_from, and_parts, eqb-true, eqb-false, eq-eqb, lt-ltb, leb-true, leb-false}
use Rattle.iox_queues_steps.specs.Access.{RingWords}
use Rattle.iox_queues_steps.specs.declared.access.Access.TheVariants.{Exchange}
use Rattle.iox_queues_steps.specs.declared.access.Word.TheVariants.{Read}
use Rattle.iox_container.specs.Release.{state_of}
use Rattle.iox_container.specs.declared.error.UniqueIndexSetAcquireFailure.TheVariants.{OutOfIndices, IsLocked}
use Rattle.iox_container.specs.declared.release.ReleaseMode.{ReleaseMode}
use Rattle.iox_container.specs.declared.release.ReleaseMode.TheVariants.{LockIfLastIndex, Default}
use Rattle.iox_queues.specs.Told.{own}
use Rattle.iox_queues.specs.declared.bits.machine.Event.{Event}
use Rattle.iox_index_steps.specs.Steps.{next_free, borrowed_count, lock_mark, is_locked_by, head_taken, head_given, locks_last}
use Rattle.iox_index_steps.specs.Steps.{seen_by_acquire}
use Rattle.iox_index_steps.specs.Changes.{changed_by, took_by, gave_by, head_changes, holds_more, sees_head, times_given}
use Rattle.iox_index_steps.specs.Told.{GaveBeside, GiveOnly, MoveNone, TakeOnly, Tells, has_locked, is_locking}
use Rattle.iox_index_steps.specs.Machine.{holder_of}
use Rattle.iox_index_steps.specs.Kept.{count_taken, HoldsIndex, WordsFit, Knows, LeadsThrough, one_if_taken, times_among}
use Rattle.iox_index_steps.specs.declared.call.Answer.TheVariants.{Acquired, Released}
use Rattle.iox_index_steps.specs.declared.call.Call.TheVariants as call
use Rattle.iox_index_steps.specs.declared.call.IndexCall.{IndexCall}
use Rattle.iox_index_steps.specs.declared.call.IndexCall.TheVariants.{Follow, Give, Done}
use Rattle.iox_queues.proofs.OwnSteps.{own_more_since}
use Rattle.iox_index_steps.proofs.Counts.{more_changes, more_taken, more_given, moves_none_on}
use Rattle.iox_index_steps.proofs.Heads.{given_free, given_held}
use Rattle.iox_index_steps.proofs.Places.{held_within, holder_else, holder_here, at_most_all, one_fewer, one_more, some_taken}
use Rattle.iox_index_steps.proofs.Whole.{counted, fewer, fewer_held, gave_less, gave_more, head_free, index_small, locked_free, more}
use Rattle.iox_index_steps.proofs.Whole.{some, took_less, took_more, whole_given, whole_kept, whole_stored, whole_taken, within_holders}
use Rattle.iox_index_steps.proofs.Whole.{won}
use Rattle.iox_index_steps.proofs.Knowing.{LeavesToOthers}
use Rattle.std.proofs.Common.{◌⊎◌, inl, inr}

-- the words stay whole, no other party loses what it knows, and this one knows its new stage
pub record MadeStep (p first : ℕ) (words words' : RingWords) (holders holders' : List (Option ℕ)) (events : List Event) (e : Event)
    (stage : IndexCall) : Type 0 where
  pub whole : WordsFit words' holders' (events ++ e ∷ [])
  pub leaves : (q : ℕ) → (p ≡ q → ⊥) → LeavesToOthers q words words' holders holders' e
  pub knows : Knows words' holders' (events ++ e ∷ []) p first stage
  pub locks : is_locked_by (length words'.cells) words'.read ≡ true
      → (is_locked_by (length words.cells) words.read ≡ true) ⊎ (is_locking stage ≡ true)

-- a step that changes no word leaves all
pub leaves_all : (q : ℕ) (words : RingWords) (holders : List (Option ℕ)) (e : Event) → LeavesToOthers q words words holders holders e
leaves_all q words holders e = record
    { size = refl; held = λ i h. h; cells = λ i h. refl; head = λ none. refl; behind = λ none there. refl; locked = λ h. h }

empty_free : (n : ℕ) (cells : List ℕ) (from : ℕ) (free : List ℕ) (i : ℕ) → n ≤ from → LeadsThrough n cells from free
    → times_among i free ≡ 0
empty_free n cells from [] i past h = refl
empty_free n cells from (j ∷ free) i past h = absurd (omega (arith, past, h.0, h.1))

module _ (p first : ℕ) (words : RingWords) (holders : List (Option ℕ)) (events : List Event) (w : WordsFit words holders events)
    (small : length words.cells < 2 ^ 24) (size : length holders ≡ length words.cells) (began : first ≤ length events)
    (none : MoveNone (own p (drop first events))) where
  -- one more step of its own that moves no index
  pub none_more : (e : Event) → e.party ≡ p → ((j : ℕ) → took_by j e.access e.answer ≡ 0) → ((j : ℕ) → gave_by j e.access e.answer ≡ 0)
      → MoveNone (own p (drop first (events ++ e ∷ [])))
  none_more e its took gave = subst MoveNone (sym (own_more_since p first events e began its))
      (moves_none_on (own p (drop first events)) e took gave none)

  -- an acquire that saw the head
  module _ (e : Event) (its : e.party ≡ p) (looks : sees_head e.access ≡ true) (unchanged : changed_by e.access e.answer ≡ 0)
      (took : (j : ℕ) → took_by j e.access e.answer ≡ 0) (gave : (j : ℕ) → gave_by j e.access e.answer ≡ 0) where
    seen_if : (full marked : Bool) → nat_le (length words.cells) (next_free words.read) ≡ full
        → (borrowed_count words.read == lock_mark) ≡ marked
        → Knows words holders (events ++ e ∷ []) p first
        (if full then Done call.Acquire (Acquired (Err OutOfIndices)) else if marked then Done call.Acquire (Acquired (Err IsLocked))
        else Follow (length words.cells) words.read)
    seen_if true marked f m =
        let past : length words.cells ≤ next_free words.read = leb-true (length words.cells) (next_free words.read) f in (
          none_more e its took gave,
          (record {
            before = events;
            look = e;
            after = [];
            whole = refl;
            inside = began;
            its = its;
            looks = looks;
            last = refl;
            out = λ i within. omega (
              arith,
              w.taken i,
              w.once i within,
              empty_free (length words.cells) words.cells (next_free words.read) w.free i past
                  w.leads,
            );
          }),
        )
    seen_if false true f m =
        let there : next_free words.read < length words.cells = leb-false (length words.cells) (next_free words.read) f in (
          none_more e its took gave,
          and_from (nat_lt (next_free words.read) (length words.cells)) (borrowed_count words.read == lock_mark)
              (lt-ltb (next_free words.read) (length words.cells) there) m,
        )
    seen_if false false f m = (
      none_more e its took gave,
      (record {
        before = head_changes events;
        since = 0;
        whole = omega (arith, more_changes events (e ∷ []), unchanged);
        few = omega arith;
        seen = w.changes;
        there = leb-false (length words.cells) (next_free words.read) f;
        unmarked = eqb-false (borrowed_count words.read) lock_mark m;
        still = λ now. refl;
      }),
    )

    pub seen_made : MadeStep p first words words holders holders events e (seen_by_acquire (length words.cells) words.read)
    seen_made = record {
      whole = whole_kept holders events e unchanged took gave words w;
      leaves = λ q differs. leaves_all q words holders e;
      knows = seen_if (nat_le (length words.cells) (next_free words.read)) (borrowed_count words.read == lock_mark) refl refl;
      locks = λ h. inl h;
    }

  -- an acquire that won its exchange
  module _ (there : next_free words.read < length words.cells) (unmarked : borrowed_count words.read ≡ lock_mark → ⊥) where
    abbrev taken : ℕ
    taken = head_taken words.read (slice_index words.cells (next_free words.read))

    abbrev taking : Event
    taking = record { party = p; access = Exchange Read words.read taken; answer = words.read }

    one_more_held : holds_more words.read taken ≡ true
    one_more_held = more words holders events p w small size there unmarked

    not_head : (q i : ℕ) → HoldsIndex holders q i → i ≡ next_free words.read → ⊥
    not_head q i h same =
        let free : holder_of holders i ≡ None = ap (holder_of holders) same ∙ head_free words holders events w there in
        let is : ◌≡◌ {A = ℕ} 1 0 = ap one_if_taken (sym h ∙ free) in omega (arith, is)

    take_only : TakeOnly (next_free words.read) (own p (drop first (events ++ taking ∷ [])))
    take_only = subst (TakeOnly (next_free words.read)) (sym (own_more_since p first events taking began refl)) (
      λ j. omega (arith, more_taken j (own p (drop first events)) (taking ∷ []), none.0 j, took_more j words.read taken one_more_held),
      λ j. omega (arith, more_given j (own p (drop first events)) (taking ∷ []), none.1 j, gave_more j words.read taken one_more_held),
    )

    pub taken_made : MadeStep p first words (record words { read = taken }) holders (set holders (next_free words.read) (Some p)) events
        taking (Done call.Acquire (Acquired (Ok (next_free words.read))))
    taken_made = record {
      whole = whole_taken words holders events p w small size there unmarked;
      leaves = λ q differs. record {
        size = refl;
        held = λ i h. holder_else holders (next_free words.read) i (Some p) (not_head q i h) ∙ h;
        cells = λ i h. refl;
        head = λ unchanged. absurd (omega (arith, unchanged, won words.read taken));
        behind = λ unchanged. absurd (omega (arith, unchanged, won words.read taken));
        locked = λ h. absurd (unmarked (eqb-true (borrowed_count words.read) lock_mark
            (and_parts (nat_lt (next_free words.read) (length words.cells)) (borrowed_count words.read == lock_mark) h).1));
      };
      knows = (there, take_only);
      locks = λ h. absurd (omega (
        arith,
        locked_free (record words { read = taken }) (set holders (next_free words.read) (Some p)) (events ++ taking ∷ [])
            (whole_taken words holders events p w small size there unmarked) small
            (length-set holders (next_free words.read) (Some p) ∙ size) h,
        one_more holders (next_free words.read) p (omega (arith, there, size)) (head_free words holders events w there),
      ));
    }

  -- a release that stored its link
  module _ (index : ℕ) (holds : HoldsIndex holders p index) (e : Event) (its : e.party ≡ p) (unchanged : changed_by e.access e.answer ≡ 0)
      (took : (j : ℕ) → took_by j e.access e.answer ≡ 0) (gave : (j : ℕ) → gave_by j e.access e.answer ≡ 0) where
    pub linked_made : (mode : ReleaseMode) (word place : ℕ) → place ≡ index
        → MadeStep p first words (record words { cells = set words.cells place (next_free word) }) holders holders events e
        (Give index mode word)
    linked_made mode word place same = subst
        (λ (k : ℕ). MadeStep p first words (record words { cells = set words.cells k (next_free word) }) holders holders events e
        (Give index mode word)) (sym same) (record {
          whole = whole_stored holders events e unchanged took gave words p index (next_free word) size holds w;
          leaves = λ q differs. record {
            size = length-set words.cells index (next_free word);
            held = λ i h. h;
            cells = λ i h. get_or-set_other words.cells index i (next_free word) 0 (λ is. differs (one_holder q i h is));
            head = λ none. refl;
            behind = λ none there. get_or-set_other words.cells index (next_free words.read) (next_free word) 0 (λ is. free_held there is);
            locked = λ h. subst (λ (n : ℕ). is_locked_by n words.read ≡ true) (sym (length-set words.cells index (next_free word))) h;
          };
          knows = (
            none_more e its took gave,
            holds,
            get_or-set_same words.cells index (next_free word) 0
                (omega (arith, held_within holders index p holds, size)),
          );
          locks = λ h. inl (subst (λ (n : ℕ). is_locked_by n words.read ≡ true) (length-set words.cells index (next_free word)) h);
        })
      where
        one_holder : (q i : ℕ) → HoldsIndex holders q i → i ≡ index → p ≡ q
        one_holder q i h is = let same : Some p ≡ Some q = sym holds ∙ ap (holder_of holders) (sym is) ∙ h in cc

        free_held : next_free words.read < length words.cells → next_free words.read ≡ index → ⊥
        free_held there is = let same : ◌≡◌ {A = ℕ} 1 0
            = ap one_if_taken (sym holds ∙ ap (holder_of holders) (sym is) ∙ head_free words holders events w there) in omega (arith, same)

  -- a release that won its exchange
  module _ (index : ℕ) (mode : ReleaseMode) (holds : HoldsIndex holders p index)
      (linked : slice_index words.cells index ≡ next_free words.read) where
    abbrev given : ℕ
    given = head_given index mode words.read

    abbrev giving : Event
    giving = record { party = p; access = Exchange Read words.read given; answer = words.read }

    one_fewer_held : holds_more words.read given ≡ false
    one_fewer_held = fewer_held words holders events p index mode w small size holds linked

    free_given : next_free given ≡ index
    free_given = given_free index words.read (index_small words holders events p index mode w small size holds linked)
        (some words holders events p index mode w small size holds linked) mode

    held_given : borrowed_count given ≡ (if locks_last mode (borrowed_count words.read) then lock_mark else borrowed_count words.read - 1)
    held_given = given_held index words.read (index_small words holders events p index mode w small size holds linked)
        (some words holders events p index mode w small size holds linked) mode

    give_only : GiveOnly index (own p (drop first (events ++ giving ∷ [])))
    give_only = subst (GiveOnly index) (sym (own_more_since p first events giving began refl)) (
      λ j. omega (arith, more_taken j (own p (drop first events)) (giving ∷ []), none.0 j, took_less j words.read given one_fewer_held),
      λ j. omega (
        arith,
        more_given j (own p (drop first events)) (giving ∷ []),
        none.1 j,
        gave_less j words.read given one_fewer_held,
        ap
            (λ (k : ℕ). ◌+◌ (if k == j then 1 else 0) 0) free_given,
      ),
    )

    -- where it wasn't the last index
    beside : (borrowed_count words.read ≡ 1 → ⊥) → GaveBeside index p first (events ++ giving ∷ [])
    beside many =
        let left : 0 < count_taken (set holders index None) =
        omega (
          arith,
          many,
          counted words holders events p index mode w small size holds linked,
          fewer words holders events p index mode w
              small size holds linked,
          some words holders events p index mode w small size holds linked,
        ) in
        let one : (j : ℕ) × (one_if_taken (holder_of (set holders index None) j) ≡ 1) = some_taken (set holders index None) left in
        let other : one.0 ≡ index → ⊥ = not_given one.0 one.1 in
        record {
          before = events;
          give = giving;
          after = [];
          whole = refl;
          inside = began;
          its = refl;
          gives = gave_less index words.read given one_fewer_held ∙ ap (λ (b : Bool). if b then 1 else 0)
              (eq-eqb (next_free given) index free_given);
          other = one.0;
          differs = other;
          out = w.taken one.0 ∙ ap (λ (k : ℕ). times_given one.0 events + k)
              (ap one_if_taken (sym (holder_else holders index one.0 None other)) ∙ one.1);
        }
      where
        not_given : (j : ℕ) → one_if_taken (holder_of (set holders index None) j) ≡ 1 → j ≡ index → ⊥
        not_given j taken is =
            let none : holder_of (set holders index None) j ≡ None
            = ap (holder_of (set holders index None)) is ∙ holder_here holders index None
            (within_holders words holders events p index mode w small size holds linked) in
            let no : one_if_taken (holder_of (set holders index None) j) ≡ 0 = ap one_if_taken none in omega (arith, taken, no)

    locked_now : locks_last mode (borrowed_count words.read) ≡ true → is_locked_by (length words.cells) given ≡ true
    locked_now e = and_from (nat_lt (next_free given) (length words.cells)) (borrowed_count given == lock_mark)
        (lt-ltb (next_free given) (length words.cells)
        (omega (arith, free_given, within_holders words holders events p index mode w small size holds linked, size)))
        (eq-eqb (borrowed_count given) lock_mark (held_given ∙ ap (λ (b : Bool). if b then lock_mark else borrowed_count words.read - 1) e))

    told : (m : ReleaseMode) (b : Bool) → m ≡ mode → locks_last m (borrowed_count words.read) ≡ b
        → Tells (length words.cells) (is_locked_by (length words.cells) given) p first (events ++ giving ∷ []) (call.Release index m)
        (Released (state_of b))
    told LockIfLastIndex true is e
        = (give_only, locked_now (ap (λ (m : ReleaseMode). locks_last m (borrowed_count words.read)) (sym is) ∙ e))
    told LockIfLastIndex false is e = (give_only, beside (eqb-false (borrowed_count words.read) 1 e))
    told Default true is e = absurd (cc)
    told Default false is e = give_only

    -- the set is locked then only where this release was to lock it
    locking : (m : ReleaseMode) (b : Bool) → m ≡ mode → locks_last m (borrowed_count words.read) ≡ b
        → is_locked_by (length words.cells) given ≡ true
        → has_locked (call.Release index m) (Released (state_of b)) ≡ true
    locking LockIfLastIndex true is e h = refl
    locking Default true is e h = absurd (cc)
    locking m false is e h =
        let last : locks_last mode (borrowed_count words.read) ≡ false
        = ap (λ (m : ReleaseMode). locks_last m (borrowed_count words.read)) (sym is) ∙ e in
        let marked : borrowed_count given ≡ lock_mark = eqb-true (borrowed_count given) lock_mark
        (and_parts (nat_lt (next_free given) (length words.cells)) (borrowed_count given == lock_mark) h).1 in
        absurd (omega (
          arith,
          marked,
          held_given ∙ ap (λ (b : Bool). if b then lock_mark else borrowed_count words.read - 1) last,
          counted words holders events p index mode w small size holds linked,
          at_most_all holders,
          small,
          size,
        ))

    pub given_made : MadeStep p first words (record words { read = given }) holders (set holders index None) events giving
        (Done (call.Release index mode) (Released (state_of (locks_last mode (borrowed_count words.read)))))
    given_made = record {
      whole = whole_given words holders events p index mode w small size holds linked;
      leaves = λ q differs. record {
        size = refl;
        held = λ i h. holder_else holders index i None (λ is. differs (one_holder q i h is)) ∙ h;
        cells = λ i h. refl;
        head = λ unchanged. absurd (omega (arith, unchanged, won words.read given));
        behind = λ unchanged. absurd (omega (arith, unchanged, won words.read given));
        locked = λ h. absurd (omega (arith, locked_free words holders events w small size h, one_fewer holders index p holds));
      };
      knows = told mode (locks_last mode (borrowed_count words.read)) refl refl;
      locks = λ h. inr (locking mode (locks_last mode (borrowed_count words.read)) refl refl h);
    }
      where
        one_holder : (q i : ℕ) → HoldsIndex holders q i → i ≡ index → p ≡ q
        one_holder q i h is = let same : Some p ≡ Some q = sym holds ∙ ap (holder_of holders) (sym is) ∙ h in cc
