-- What a party's own step leaves of a set, at each stage of its call.
use Rattle.std.proofs.Common.{◌≡◌, ℕ, ◌+◌, ◌-◌, ◌%◌, ◌^◌, ◌<◌, ◌≤◌, ◌⊎◌, inl, inr, ⊎_elim, Bool, true, false, not, if◌then◌else◌, ◌==◌}
use Rattle.std.proofs.Common.{◌&&◌, ◌||◌, nat_lt, Ok, Err, List, [], ◌∷◌, ◌++◌, length, set, slice_index, refl, sym, ◌∙◌, ap, subst, arith}
use Rattle.std.proofs.Common.{length-append, mod-eq_of_lt}
use Rattle.std.specs.List.{list_any}
use Rattle.std.specs.Global.{Vec}
use Rattle.std.proofs.lemmas.Bool.{and_left, and_parts, and_right, cases_eq, eq-eqb, eqb-false, eqb-true, lt-ltb, ltb-false, ltb-true}
use Rattle.std.proofs.lemmas.Bool.{ne_eqb}
use Rattle.std.proofs.lemmas.Bool.{or_cases, or_left, or_right}
use Rattle.std.proofs.lemmas.List.Folds.{list_any-append}
use Rattle.iox_container.specs.declared.error.UniqueIndexSetAcquireFailure.TheVariants.{OutOfIndices, IsLocked}
use Rattle.iox_container.specs.declared.release.ReleaseMode.{ReleaseMode}
use Rattle.iox_container.specs.declared.release.ReleaseMode.TheVariants.{LockIfLastIndex, Default}
use Rattle.iox_container.specs.declared.release.ReleaseState.TheVariants.{Locked, Unlocked}
use Rattle.iox_queues_steps.specs.Access.{RingWords, after_access, after_store, answer_of, successor}
use Rattle.iox_queues_steps.specs.declared.access.Access.{Access}
use Rattle.iox_queues_steps.specs.declared.access.Access.TheVariants.{Load, Store, Exchange, Local}
use Rattle.iox_queues_steps.specs.declared.access.Word.TheVariants.{Read, Cell}
use Rattle.iox_queues.specs.declared.bits.machine.Event.{Event}
use Rattle.iox_robust_steps.specs.Steps.{call_is_idle, call_next, call_take, claims_from, decided, is_freed, lock_mark}
use Rattle.iox_robust_steps.specs.Steps.{looks_from, reserved, scans_from, settles}
use Rattle.iox_robust_steps.specs.Changes.{gave_by, is_owner, named_after, named_by, saw_filled, took_by}
use Rattle.iox_robust_steps.specs.Told.{GiveNone, GiveOnly, MoveNone, SawOther, TakeNone, Tells, has_locked, is_locking}
use Rattle.iox_robust_steps.specs.Machine.{CellFits, is_halted, is_lost, one_if_held, place_of, places_after}
use Rattle.iox_robust_steps.specs.Kept.{IsOwner, IsQuiet, Knows, QuietBelow, Settles, WordsFit}
use Rattle.iox_robust_steps.specs.declared.call.Answer.TheVariants.{Acquired, Settled}
use Rattle.iox_robust_steps.specs.declared.call.Call.{Call}
use Rattle.iox_robust_steps.specs.declared.call.Call.TheVariants as call
use Rattle.iox_robust_steps.specs.declared.call.RobustCall.{RobustCall}
use Rattle.iox_robust_steps.specs.declared.call.RobustCall.TheVariants as stage
use Rattle.iox_robust_steps.specs.declared.state.Place.{Place}
use Rattle.iox_robust_steps.specs.declared.state.Place.TheVariants as place
use Rattle.iox_robust_steps.proofs.Counts.{more_given, more_taken}
use Rattle.iox_robust_steps.proofs.Whole.{BelongsTo, LeavesTo, each_place, leaves_all, leaves_set, place_here, whole_kept, whole_on}
use Rattle.iox_robust_steps.proofs.Whole.{whole_set}
use Rattle.iox_robust_steps.proofs.Whole.{cell_here}

-- the words fit still, no other party loses what it knows, this one knows its new stage, and who locked the set is in hand
pub record MadeStep (n p : ℕ) (words words' : RingWords) (places places' : List Place) (lost : List ℕ) (events own : List Event)
    (e : Event) (s : RobustCall) : Type 0 where
  pub whole : WordsFit n words' places' (events ++ e ∷ [])
  pub leaves : (q : ℕ) → (p ≡ q → ⊥) → LeavesTo q words words' places places' lost
  pub stays : words.read ≡ lock_mark → words'.read ≡ lock_mark
  pub knows : Knows n words' places' lost p (own ++ e ∷ []) s
  pub locks : words'.read ≡ lock_mark → (words.read ≡ lock_mark) ⊎ (is_locking s ≡ true)

-- the name of an index after one more step
named_more : (i now : ℕ) (es : List Event) (e : Event) → named_after i now (es ++ e ∷ []) ≡ named_by i e.access (named_after i now es)
named_more i now [] e = refl
named_more i now (x ∷ es) e = named_more i (named_by i x.access now) es e

-- what own steps are after one more
takes_none : (es : List Event) (e : Event) → ((j : ℕ) → took_by j e.access ≡ 0) → TakeNone es → TakeNone (es ++ e ∷ [])
takes_none es e took k j = omega (arith, more_taken j es (e ∷ []), took j, k j)

gives_none : (es : List Event) (e : Event) → ((j : ℕ) → gave_by j e.access e.answer ≡ 0) → GiveNone es → GiveNone (es ++ e ∷ [])
gives_none es e gave k j = omega (arith, more_given j es (e ∷ []), gave j, k j)

settles_on : (c : Call) (es : List Event) (e : Event) → ((j : ℕ) → took_by j e.access ≡ 0)
    → ((j : ℕ) → gave_by j e.access e.answer ≡ 0) → Settles c es → Settles c (es ++ e ∷ [])
settles_on (call.Acquire owner) es e took gave k = k
settles_on (call.Release owner i LockIfLastIndex) es e took gave k =
    (takes_none es e took k.0, λ j. omega (arith, more_given j es (e ∷ []), gave j, k.1 j))
settles_on (call.Release owner i Default) es e took gave k = k
settles_on (call.Recover owner number LockIfLastIndex) es e took gave k = takes_none es e took k
settles_on (call.Recover owner number Default) es e took gave k = k

settled_locked : (n : ℕ) (l : Bool) (c : Call) (es : List Event) → l ≡ true → Settles c es → Tells n l es c (Settled Locked)
settled_locked n l (call.Acquire owner) es locked k = k
settled_locked n l (call.Release owner i LockIfLastIndex) es locked k = (k, locked)
settled_locked n l (call.Release owner i Default) es locked k = k
settled_locked n l (call.Recover owner number LockIfLastIndex) es locked k = (k, locked)
settled_locked n l (call.Recover owner number Default) es locked k = k

settled_unlocked : (n : ℕ) (l : Bool) (c : Call) (es : List Event) → Settles c es → SawOther n es → Tells n l es c (Settled Unlocked)
settled_unlocked n l (call.Acquire owner) es k saw = k
settled_unlocked n l (call.Release owner i LockIfLastIndex) es k saw = (k, saw)
settled_unlocked n l (call.Release owner i Default) es k saw = absurd k
settled_unlocked n l (call.Recover owner number LockIfLastIndex) es k saw = (k, saw)
settled_unlocked n l (call.Recover owner number Default) es k saw = absurd k

locking : (c : Call) (es : List Event) → Settles c es → has_locked c (Settled Locked) ≡ true
locking (call.Acquire owner) es k = absurd k
locking (call.Release owner i LockIfLastIndex) es k = refl
locking (call.Release owner i Default) es k = absurd k
locking (call.Recover owner number LockIfLastIndex) es k = refl
locking (call.Recover owner number Default) es k = absurd k

-- a test of an exchange that cannot be won, and of one on another cell
zero_if : (b c : Bool) → c ≡ false → ◌≡◌ {A = ℕ} (if b && c then 1 else 0) 0
zero_if true c h = ap (λ (b : Bool). if b then 1 else 0) h
zero_if false c h = refl

zero_else : (b c : Bool) → b ≡ false → ◌≡◌ {A = ℕ} (if b && c then 1 else 0) 0
zero_else b c h = ap (λ (b : Bool). if b && c then 1 else 0) h

one_if : (b c : Bool) → b ≡ true → c ≡ true → ◌≡◌ {A = ℕ} (if b && c then 1 else 0) 1
one_if true c h g = ap (λ (b : Bool). if b then 1 else 0) g
one_if false c h g = absurd (cc)

itself : (k : ℕ) → (k == k) ≡ true
itself k = eq-eqb k k refl

owner_is : (owner : ℕ) → IsOwner owner → is_owner owner ≡ true
owner_is owner h = ap (λ (b : Bool). b && nat_lt owner (2 ^ 63)) (lt-ltb 0 owner h.0) ∙ lt-ltb owner (2 ^ 63) h.1

not_owner : (cell : ℕ) → 2 ^ 63 ≤ cell → is_owner cell ≡ false
not_owner cell h = and_right (nat_lt 0 cell) (nat_lt cell (2 ^ 63)) (past (nat_lt cell (2 ^ 63)) refl)
  where
    past : (b : Bool) → nat_lt cell (2 ^ 63) ≡ b → b ≡ false
    past true e = absurd (let low : cell < 2 ^ 63 = ltb-true cell (2 ^ 63) e in omega (arith, low, h))
    past false e = refl

same_party : (p q : ℕ) → ◌≡◌ {A = Place} (place.Held p) (place.Held q) → p ≡ q
same_party p q h = cc

-- one step of a party at each stage
module _ (n p : ℕ) (decisions : List (Vec Bool)) (insists : Bool) (words : RingWords) (places : List Place) (lost : List ℕ)
    (events es : List Event)
    (w : WordsFit n words places events) (small : n < 2 ^ 62) (size : length words.cells ≡ n + 1) (many : length places ≡ n)
    (few : length events + 1 < 2 ^ 64 - 1) where
  abbrev cell : ℕ → ℕ
  cell i = slice_index words.cells (i % length words.cells)

  abbrev of : Access → ℕ → Event
  of access answer = record { party = p; access = access; answer = answer }

  at_place : (i : ℕ) → i < n → i % length words.cells ≡ i
  at_place i within = mod-eq_of_lt (omega (arith, within, size))

  cell_is : (i : ℕ) → i < n → cell i ≡ slice_index words.cells i
  cell_is i within = ap (λ (k : ℕ). slice_index words.cells k) (at_place i within)

  on_by_one : (i : ℕ) → i < n → successor i ≡ i + 1
  on_by_one i within = omega (arith, within, small)

  below_mark : (words.read == lock_mark) ≡ false → words.read < lock_mark
  below_mark h = go w.count
    where
      go : (words.read ≡ lock_mark) ⊎ (words.read ≤ length events) → words.read < lock_mark
      go (inl is) = absurd (eqb-false words.read lock_mark h is)
      go (inr le) = omega (arith, le, few)

  -- a step that changes nothing
  quiet_made : (access : Access) (answer : ℕ) (s : RobustCall) → ((j : ℕ) → took_by j access ≡ 0) → ((j : ℕ) → gave_by j access answer ≡ 0)
      → Knows n words places lost p (es ++ of access answer ∷ []) s
      → MadeStep n p words words places places lost events es (of access answer) s
  quiet_made access answer s took gave knows = record {
    whole = whole_kept n words places events (of access answer) w took gave;
    leaves = λ q differs. leaves_all q words places lost;
    stays = λ locked. locked;
    knows = knows;
    locks = λ locked. inl locked;
  }

  -- an acquire goes on to a cell
  claims_known : (owner i count : ℕ) (own : List Event) (b : Bool) → nat_lt i n ≡ b → IsOwner owner → MoveNone own → count < lock_mark
      → ((j : ℕ) → j < i → list_any (saw_filled j) own ≡ true)
      → Knows n words places lost p own
      (if b then stage.Claim owner i count else stage.Done (call.Acquire owner) (Acquired (Err OutOfIndices)))
  claims_known owner i count own true e owns none below saw = (owns, none, ltb-true i n e, below, saw)
  claims_known owner i count own false e owns none below saw
      = (none, λ j within. saw j (omega (arith, within, ltb-false i n e)))

  acquire_made : (owner : ℕ) → IsOwner owner → MoveNone es
      → MadeStep n p words words places places lost events es (of (Load Read) words.read)
      (call_take n decisions insists (stage.Acquire owner) words.read)
  acquire_made owner owns none = quiet_made (Load Read) words.read _ (λ j. refl) (λ j. refl)
      (test (words.read == lock_mark) refl)
    where
      moves : MoveNone (es ++ of (Load Read) words.read ∷ [])
      moves = (takes_none es (of (Load Read) words.read) (λ j. refl) none.0, gives_none es (of (Load Read) words.read) (λ j. refl) none.1)

      test : (b : Bool) → (words.read == lock_mark) ≡ b
          → Knows n words places lost p (es ++ of (Load Read) words.read ∷ [])
          (if b then stage.Done (call.Acquire owner) (Acquired (Err IsLocked)) else claims_from n owner 0 words.read)
      test true is = (moves, is)
      test false is = claims_known owner 0 words.read _ (nat_lt 0 n) refl owns moves (below_mark is)
          (λ j below. absurd (omega (arith, below)))

  -- it reserves a cell, or finds it filled
  claim_made : (owner i count : ℕ) → IsOwner owner → MoveNone es → i < n → count < lock_mark
      → ((j : ℕ) → j < i → list_any (saw_filled j) es ≡ true)
      → MadeStep n p words (after_access words (Exchange (Cell i) 0 (reserved owner))) places
      (places_after places p (stage.Claim owner i count) (cell i)) lost events es (of (Exchange (Cell i) 0 (reserved owner)) (cell i))
      (call_take n decisions insists (stage.Claim owner i count) (cell i))
  claim_made owner i count owns none within below saw = test (cell i == 0) refl
    where
      gave : (j : ℕ) → gave_by j (Exchange (Cell i) 0 (reserved owner)) (cell i) ≡ 0
      gave j = zero_if (i == j) ((cell i == 0) && ((reserved owner == 0) && is_owner 0))
          (and_right (cell i == 0) ((reserved owner == 0) && is_owner 0) (and_right (reserved owner == 0) (is_owner 0) refl))

      moves : MoveNone (es ++ of (Exchange (Cell i) 0 (reserved owner)) (cell i) ∷ [])
      moves = (
        takes_none es (of (Exchange (Cell i) 0 (reserved owner)) (cell i)) (λ j. refl) none.0,
        gives_none es (of (Exchange (Cell i) 0 (reserved owner)) (cell i)) gave none.1,
      )

      empty_is : (q : Place) → CellFits q 0 → q ≡ place.Empty
      empty_is place.Empty h = refl
      empty_is (place.Claimed q) h = absurd (omega (arith, h))
      empty_is (place.Counted q) h = absurd (omega (arith, h))
      empty_is (place.Held q) h = absurd (omega (arith, h.0))

      was_empty : cell i ≡ 0 → place_of places i ≡ place.Empty
      was_empty is = empty_is (place_of places i) (subst (CellFits (place_of places i)) (sym (cell_is i within) ∙ is) (w.cells i within))

      test : (b : Bool) → (cell i == 0) ≡ b
          → MadeStep n p words (if b then after_store words (Cell i) (reserved owner) else words) places
          (if b then set places i (place.Claimed p) else places) lost events es (of (Exchange (Cell i) 0 (reserved owner)) (cell i))
          (if b then stage.Count owner i count else claims_from n owner (successor i) count)
      test true is =
          let empty : place_of places i ≡ place.Empty = was_empty (eqb-true (cell i) 0 is) in
          let e : Event = of (Exchange (Cell i) 0 (reserved owner)) (cell i) in
          record {
            whole = whole_set n words places events e w i (place.Claimed p) within many (reserved owner) (i % length words.cells)
                (at_place i within) size (omega (arith, owns.0, owns.1)) (λ locked. tt) (λ q is. absurd (cc))
                (omega (arith, gave i, ap one_if_held empty)) (λ j differs. (refl, gave j));
            leaves = λ q differs. leaves_set n words places events e w i (place.Claimed p) within many (reserved owner)
                (i % length words.cells) (at_place i within) size q lost (λ quiet. tt)
                (λ other stand live owner its stands holds. subst (BelongsTo q) (sym stands ∙ empty) its);
            stays = λ locked. locked;
            knows = (
              owns,
              moves,
              within,
              below,
              λ live. (
                place_here n words places events e w i (place.Claimed p) within many,
                cell_here n words places events e w i (place.Claimed p) within many (reserved owner) (i % length words.cells)
                    (at_place i within) size,
              ),
            );
            locks = λ locked. inl locked;
          }
      test false is = quiet_made (Exchange (Cell i) 0 (reserved owner)) (cell i) _ (λ j. refl) gave
          (claims_known owner (successor i) count _ (nat_lt (successor i) n) refl owns moves below
          (λ j lower. ⊎_elim (λ (same : j ≡ i). any_last (saw_filled j) es (of (Exchange (Cell i) 0 (reserved owner)) (cell i))
          (filled j same))
          (λ (differs : j ≡ i → ⊥). any_first (saw_filled j) es (of (Exchange (Cell i) 0 (reserved owner)) (cell i))
          (saw j (omega (arith, lower, on_by_one i within, differs))))
          (cases_eq j i)))
        where
          filled : (j : ℕ) → j ≡ i → ((i == j) && ((0 == 0) && not (cell i == 0))) ≡ true
          filled j same = ap (λ (k : ℕ). (i == k) && ((0 == 0) && not (cell i == 0))) same
              ∙ ap (λ (b : Bool). b && ((0 == 0) && not (cell i == 0))) (itself i)
              ∙ ap not is

          any_first : (f : Event → Bool) (xs : List Event) (e : Event) → list_any f xs ≡ true → list_any f (xs ++ e ∷ []) ≡ true
          any_first f xs e h = list_any-append f xs (e ∷ []) ∙ or_left (list_any f xs) (list_any f (e ∷ [])) h

          any_last : (f : Event → Bool) (xs : List Event) (e : Event) → f e ≡ true → list_any f (xs ++ e ∷ []) ≡ true
          any_last f xs e h = list_any-append f xs (e ∷ []) ∙ or_right (list_any f xs) (list_any f (e ∷ [])) (or_left (f e) false h)

  -- it counts, or looks again
  count_made : (owner i count : ℕ) → IsOwner owner → MoveNone es → i < n → count < lock_mark
      → (place_of places i ≡ place.Claimed p) × (slice_index words.cells i ≡ reserved owner)
      → MadeStep n p words (after_access words (Exchange Read count (successor count))) places
      (places_after places p (stage.Count owner i count) words.read) lost events es (of (Exchange Read count (successor count)) words.read)
      (call_take n decisions insists (stage.Count owner i count) words.read)
  count_made owner i count owns none within below stands = test (words.read == count) refl
    where
      moves : MoveNone (es ++ of (Exchange Read count (successor count)) words.read ∷ [])
      moves = (
        takes_none es (of (Exchange Read count (successor count)) words.read) (λ j. refl) none.0,
        gives_none es (of (Exchange Read count (successor count)) words.read) (λ j. refl) none.1,
      )

      test : (b : Bool) → (words.read == count) ≡ b
          → MadeStep n p words (if b then after_store words Read (successor count) else words) places
          (if b then set places i (place.Counted p) else places) lost events es (of (Exchange Read count (successor count)) words.read)
          (if b then stage.Confirm owner i else if words.read == lock_mark then stage.Undo owner i else stage.Count owner i words.read)
      test true is =
          let e : Event = of (Exchange Read count (successor count)) words.read in
          let same : words.read ≡ count = eqb-true words.read count is in
          let low : words.read ≤ length events = low_of w.count same in
          let here : place_of (set places i (place.Counted p)) i ≡ place.Counted p
          = place_here n words places events e w i (place.Counted p) within many in
          record {
            whole = whole_on n words places events e w (record words { read = successor count }) (set places i (place.Counted p))
                (each_place n words places events e w i (place.Counted p) within many
                (λ (j : ℕ) (x : Place). j < n → CellFits x (slice_index words.cells j))
                (λ inside. subst (λ (k : ℕ). 2 ^ 63 < k) (sym stands.1) (omega (arith, owns.0, owns.1)))
                (λ j differs inside. w.cells j inside))
                (λ locked. absurd (omega (arith, locked, same, low, few)))
                (inr (omega (arith, same, low, few, length-append events (e ∷ []))))
                (each_place n words places events e w i (place.Counted p) within many
                (λ (j : ℕ) (x : Place). 0 + one_if_held (place_of places j) ≡ 0 + one_if_held x)
                (ap (λ (x : Place). 0 + one_if_held x) stands.0) (λ j differs. refl))
                (each_place n words places events e w i (place.Counted p) within many
                (λ (j : ℕ) (x : Place). (q : ℕ) → x ≡ place.Held q
                → (place_of places j ≡ place.Held q) ⊎ ((p ≡ q) × (◌≡◌ {A = ℕ} 0 1)))
                (λ q is. absurd (cc)) (λ j differs q is. inl is));
            leaves = λ q differs. record {
              keeps = λ other j stand live owner its is holds. (
                ⊎_elim (λ (at : j ≡ i). absurd (differs (its_party q stand (ap (place_of places) (sym at) ∙ is) its)))
                    (λ (apart : j ≡ i → ⊥). each_place n words places events e w i (place.Counted p) within many
                    (λ (k : ℕ) (x : Place). (k ≡ i → ⊥) → place_of places k ≡ stand → x ≡ stand)
                    (λ wrong same. absurd (wrong refl)) (λ k apart ok same. same) j apart is)
                    (cases_eq j i),
                refl,
              );
              quiets = inr (omega (arith, same, below));
              locked = λ locked. absurd (omega (arith, locked, same, below));
            };
            stays = λ locked. absurd (omega (arith, locked, same, below));
            knows = (owns, moves, within, λ live. (here, stands.1));
            locks = λ locked. absurd (omega (arith, locked, same, low, few));
          }
        where
          low_of : (words.read ≡ lock_mark) ⊎ (words.read ≤ length events) → words.read ≡ count → words.read ≤ length events
          low_of (inl locked) same = absurd (omega (arith, locked, same, below))
          low_of (inr le) same = le

          its_party : (q : ℕ) (stand : Place) → place_of places i ≡ stand → BelongsTo q stand → p ≡ q
          its_party q stand is its = subst (BelongsTo q) (sym is ∙ stands.0) its
      test false is = quiet_made (Exchange Read count (successor count)) words.read _ (λ j. refl) (λ j. refl)
          (marked (words.read == lock_mark) refl)
        where
          marked : (b : Bool) → (words.read == lock_mark) ≡ b
              → Knows n words places lost p (es ++ of (Exchange Read count (successor count)) words.read ∷ [])
              (if b then stage.Undo owner i else stage.Count owner i words.read)
          marked true e = (owns, moves, within, eqb-true words.read lock_mark e, λ live. stands)
          marked false e = (owns, moves, within, below_mark e, λ live. stands)

  -- whose cell it is: no other party's
  module _ (i : ℕ) (stand : Place) (is : place_of places i ≡ stand) (mine : (q : ℕ) → BelongsTo q stand → p ≡ q) where
    nobody_else : (q : ℕ) → (p ≡ q → ⊥) → (owner : ℕ) (other : Place) → is_lost owner lost ≡ false → IsOwner owner → BelongsTo q other
        → place_of places i ≡ other → (slice_index words.cells i ≡ owner) ⊎ (slice_index words.cells i ≡ reserved owner) → ⊥
    nobody_else q differs owner other live owns its at holds = differs (mine q (subst (BelongsTo q) (sym at ∙ is) its))

  -- it takes the index
  confirm_made : (owner i : ℕ) → IsOwner owner → MoveNone es → i < n
      → (place_of places i ≡ place.Counted p) × (slice_index words.cells i ≡ reserved owner)
      → MadeStep n p words (after_store words (Cell i) owner) places (set places i (place.Held p)) lost events es
      (of (Store (Cell i) owner) 0) (stage.Done (call.Acquire owner) (Acquired (Ok i)))
  confirm_made owner i owns none within stands = record {
    whole = whole_set n words places events (of (Store (Cell i) owner) 0) w i (place.Held p) within many owner (i % length words.cells)
        (at_place i within) size owns (λ locked. subst IsQuiet stands.0 (w.quiet locked i within))
        (λ q is. inr (same_party p q is, took_own))
        (omega (arith, took_own, ap one_if_held stands.0)) (λ j differs. (took_else j differs, refl));
    leaves = λ q differs. leaves_set n words places events (of (Store (Cell i) owner) 0) w i (place.Held p) within many owner
        (i % length words.cells) (at_place i within) size q lost (λ quiet. absurd (subst IsQuiet stands.0 quiet))
        (nobody_else i (place.Counted p) stands.0 (λ q same. same) q differs);
    stays = λ locked. locked;
    knows = (
      within,
      (
        (λ j. omega (arith, more_taken j es (of (Store (Cell i) owner) 0 ∷ []), none.0 j, took_if j)),
        gives_none es (of (Store (Cell i) owner) 0) (λ j. refl) none.1,
      ),
      named_more i 0 es (of (Store (Cell i) owner) 0) ∙ ap (λ (b : Bool). if b then owner else named_after i 0 es) (itself i),
    );
    locks = λ locked. inl locked;
  }
    where
      some : nat_lt 0 owner ≡ true
      some = lt-ltb 0 owner owns.0

      took_own : took_by i (Store (Cell i) owner) ≡ 1
      took_own = one_if (i == i) (nat_lt 0 owner) (itself i) some

      took_else : (j : ℕ) → (j ≡ i → ⊥) → took_by j (Store (Cell i) owner) ≡ 0
      took_else j differs = zero_else (i == j) (nat_lt 0 owner) (ne_eqb i j (λ same. differs (sym same)))

      took_if : (j : ℕ) → took_by j (Store (Cell i) owner) ≡ (if i == j then 1 else 0)
      took_if j = go (i == j) (nat_lt 0 owner) some
        where
          go : (b c : Bool) → c ≡ true → ◌≡◌ {A = ℕ} (if b && c then 1 else 0) (if b then 1 else 0)
          go true c h = ap (λ (b : Bool). if b then 1 else 0) h
          go false c h = refl

  -- it empties the cell again, since the set was locked
  undo_made : (owner i : ℕ) → MoveNone es → i < n → words.read ≡ lock_mark → place_of places i ≡ place.Claimed p
      → MadeStep n p words (after_store words (Cell i) 0) places (set places i place.Empty) lost events es
      (of (Store (Cell i) 0) 0) (stage.Done (call.Acquire owner) (Acquired (Err IsLocked)))
  undo_made owner i none within locked stands = record {
    whole = whole_set n words places events (of (Store (Cell i) 0) 0) w i place.Empty within many 0 (i % length words.cells)
        (at_place i within) size refl (λ locked. tt) (λ q is. absurd (cc)) (omega (arith, took i, ap one_if_held stands))
        (λ j differs. (took j, refl));
    leaves = λ q differs. leaves_set n words places events (of (Store (Cell i) 0) 0) w i place.Empty within many 0
        (i % length words.cells) (at_place i within) size q lost (λ quiet. tt)
        (nobody_else i (place.Claimed p) stands (λ q same. same) q differs);
    stays = λ locked. locked;
    knows = (
      (takes_none es (of (Store (Cell i) 0) 0) took none.0, gives_none es (of (Store (Cell i) 0) 0) (λ j. refl) none.1),
      eq-eqb words.read lock_mark locked,
    );
    locks = λ locked. inl locked;
  }
    where
      took : (j : ℕ) → took_by j (Store (Cell i) 0) ≡ 0
      took j = zero_if (i == j) (nat_lt 0 0) refl

  -- a release empties its cell
  free_made : (owner i : ℕ) (mode : ReleaseMode) → IsOwner owner → MoveNone es → i < n
      → (place_of places i ≡ place.Held p) × (slice_index words.cells i ≡ owner)
      → MadeStep n p words (after_access words (Exchange (Cell i) owner 0)) places
      (places_after places p (stage.Free owner i mode) (cell i)) lost events es (of (Exchange (Cell i) owner 0) (cell i))
      (settles mode (call.Release owner i mode))
  free_made owner i mode owns none within stands = test (cell i == owner) refl
    where
      won : (cell i == owner) ≡ true
      won = eq-eqb (cell i) owner (cell_is i within ∙ stands.1)

      gave_own : gave_by i (Exchange (Cell i) owner 0) (cell i) ≡ 1
      gave_own = one_if (i == i) ((cell i == owner) && is_owner owner) (itself i)
          (ap (λ (b : Bool). b && is_owner owner) won ∙ owner_is owner owns)

      gave_else : (j : ℕ) → (j ≡ i → ⊥) → gave_by j (Exchange (Cell i) owner 0) (cell i) ≡ 0
      gave_else j differs = zero_else (i == j) ((cell i == owner) && is_owner owner) (ne_eqb i j (λ same. differs (sym same)))

      gave_if : (j : ℕ) → gave_by j (Exchange (Cell i) owner 0) (cell i) ≡ (if i == j then 1 else 0)
      gave_if j = ⊎_elim
          (λ (same : j ≡ i). subst (λ (k : ℕ). gave_by k (Exchange (Cell i) owner 0) (cell i) ≡ (if i == k then 1 else 0)) (sym same)
          (gave_own ∙ ap (λ (b : Bool). if b then 1 else 0) (sym (itself i))))
          (λ (differs : j ≡ i → ⊥). gave_else j differs
          ∙ ap (λ (b : Bool). if b then 1 else 0) (sym (ne_eqb i j (λ same. differs (sym same)))))
          (cases_eq j i)

      test : (b : Bool) → (cell i == owner) ≡ b
          → MadeStep n p words (if b then after_store words (Cell i) 0 else words) places (if b then set places i place.Empty else places)
          lost events es (of (Exchange (Cell i) owner 0) (cell i)) (settles mode (call.Release owner i mode))
      test true is = record {
        whole = whole_set n words places events (of (Exchange (Cell i) owner 0) (cell i)) w i place.Empty within many 0
            (i % length words.cells) (at_place i within) size refl (λ locked. tt) (λ q is. absurd (cc))
            (omega (arith, gave_own, ap one_if_held stands.0)) (λ j differs. (refl, gave_else j differs));
        leaves = λ q differs. leaves_set n words places events (of (Exchange (Cell i) owner 0) (cell i)) w i place.Empty within many 0
            (i % length words.cells) (at_place i within) size q lost (λ quiet. tt)
            (nobody_else i (place.Held p) stands.0 (λ q same. same) q differs);
        stays = λ locked. locked;
        knows = freed mode;
        locks = λ locked. inl locked;
      }
        where
          gives : GiveOnly i (es ++ of (Exchange (Cell i) owner 0) (cell i) ∷ [])
          gives = (
            takes_none es (of (Exchange (Cell i) owner 0) (cell i)) (λ j. refl) none.0,
            λ j. omega (arith, more_given j es (of (Exchange (Cell i) owner 0) (cell i) ∷ []), none.1 j, gave_if j),
          )

          freed : (m : ReleaseMode) → Knows n (after_store words (Cell i) 0) (set places i place.Empty) lost p
              (es ++ of (Exchange (Cell i) owner 0) (cell i) ∷ []) (settles m (call.Release owner i m))
          freed LockIfLastIndex = gives
          freed Default = gives
      test false is = absurd (let wrong : true ≡ false = sym won ∙ is in cc)

  -- a recovery goes on to a cell
  looks_known : (own : List Event) (words' : RingWords) (places' : List Place) (owner number i : ℕ) (mode : ReleaseMode) (b : Bool)
      → nat_lt i n ≡ b → IsOwner owner → TakeNone own → is_lost owner lost ≡ true
      → Knows n words' places' lost p own (if b then stage.Look owner number mode i else settles mode (call.Recover owner number mode))
  looks_known own words' places' owner number i mode true e owns none is = (owns, none, ltb-true i n e, is)
  looks_known own words' places' owner number i LockIfLastIndex false e owns none is = none
  looks_known own words' places' owner number i Default false e owns none is = none

  look_made : (owner number i : ℕ) (mode : ReleaseMode) → IsOwner owner → TakeNone es → i < n → is_lost owner lost ≡ true
      → MadeStep n p words words places places lost events es (of (Load (Cell i)) (cell i))
      (call_take n decisions insists (stage.Look owner number mode i) (cell i))
  look_made owner number i mode owns none within is =
      quiet_made (Load (Cell i)) (cell i) _ (λ j. refl) (λ j. refl) (test (is_freed decisions insists owner number i (cell i)) refl)
    where
      takes : TakeNone (es ++ of (Load (Cell i)) (cell i) ∷ [])
      takes = takes_none es (of (Load (Cell i)) (cell i)) (λ j. refl) none

      seen : is_freed decisions insists owner number i (cell i) ≡ true → (cell i ≡ owner) ⊎ (cell i ≡ reserved owner)
      seen h = go (or_cases (cell i == owner) (cell i == reserved owner)
          (and_parts ((cell i == owner) || (cell i == reserved owner)) (insists || decided decisions number i) h).0)
        where
          go : ((cell i == owner) ≡ true) ⊎ ((cell i == reserved owner) ≡ true) → (cell i ≡ owner) ⊎ (cell i ≡ reserved owner)
          go (inl e) = inl (eqb-true (cell i) owner e)
          go (inr e) = inr (eqb-true (cell i) (reserved owner) e)

      test : (b : Bool) → is_freed decisions insists owner number i (cell i) ≡ b
          → Knows n words places lost p (es ++ of (Load (Cell i)) (cell i) ∷ [])
          (if b then stage.Clear owner number mode i (cell i) else looks_from n owner number mode (successor i))
      test true e = (owns, takes, within, is, seen e)
      test false e = looks_known _ words places owner number (successor i) mode (nat_lt (successor i) n) refl owns takes is

  clear_made : (owner number i seen : ℕ) (mode : ReleaseMode) → IsOwner owner → TakeNone es → i < n → is_lost owner lost ≡ true
      → (seen ≡ owner) ⊎ (seen ≡ reserved owner)
      → MadeStep n p words (after_access words (Exchange (Cell i) seen 0)) places
      (places_after places p (stage.Clear owner number mode i seen) (cell i)) lost events es (of (Exchange (Cell i) seen 0) (cell i))
      (looks_from n owner number mode (successor i))
  clear_made owner number i seen mode owns none within is seen_is = test (cell i == seen) refl
    where
      takes : TakeNone (es ++ of (Exchange (Cell i) seen 0) (cell i) ∷ [])
      takes = takes_none es (of (Exchange (Cell i) seen 0) (cell i)) (λ j. refl) none

      gave_else : (j : ℕ) → (j ≡ i → ⊥) → gave_by j (Exchange (Cell i) seen 0) (cell i) ≡ 0
      gave_else j differs = zero_else (i == j) ((cell i == seen) && is_owner seen) (ne_eqb i j (λ same. differs (sym same)))

      some_seen : 0 < seen
      some_seen = go seen_is
        where
          go : (seen ≡ owner) ⊎ (seen ≡ reserved owner) → 0 < seen
          go (inl h) = omega (arith, h, owns.0)
          go (inr h) = omega (arith, h, owns.0)

      gave_own : (b : Bool) → (cell i == seen) ≡ b → b ≡ true
          → one_if_held (place_of places i) ≡ gave_by i (Exchange (Cell i) seen 0) (cell i)
      gave_own b e won = go (place_of places i) (subst (CellFits (place_of places i)) (sym (cell_is i within) ∙ same) (w.cells i within))
        where
          same : cell i ≡ seen
          same = eqb-true (cell i) seen (e ∙ won)

          tested : gave_by i (Exchange (Cell i) seen 0) (cell i) ≡ (if is_owner seen then 1 else 0)
          tested = ap (λ (b : Bool). if b && ((cell i == seen) && is_owner seen) then 1 else 0) (itself i)
              ∙ ap (λ (b : Bool). if b && is_owner seen then 1 else 0) (e ∙ won)

          go : (x : Place) → CellFits x seen → one_if_held x ≡ gave_by i (Exchange (Cell i) seen 0) (cell i)
          go place.Empty h = absurd (omega (arith, h, some_seen))
          go (place.Claimed q) h = sym (tested ∙ ap (λ (b : Bool). if b then 1 else 0) (not_owner seen (omega (arith, h))))
          go (place.Counted q) h = sym (tested ∙ ap (λ (b : Bool). if b then 1 else 0) (not_owner seen (omega (arith, h))))
          go (place.Held q) h = sym (tested ∙ ap (λ (b : Bool). if b then 1 else 0) (owner_is seen h))

      its_owner : (other : ℕ) → IsOwner other → (seen ≡ owner) ⊎ (seen ≡ reserved owner)
          → (seen ≡ other) ⊎ (seen ≡ reserved other) → owner ≡ other
      its_owner other ok (inl h) (inl g) = sym h ∙ g
      its_owner other ok (inl h) (inr g) = absurd (omega (arith, h, g, owns.1, ok.0))
      its_owner other ok (inr h) (inl g) = absurd (omega (arith, h, g, owns.0, ok.1))
      its_owner other ok (inr h) (inr g) = omega (arith, h, g, owns.1, ok.1)

      test : (b : Bool) → (cell i == seen) ≡ b
          → MadeStep n p words (if b then after_store words (Cell i) 0 else words) places (if b then set places i place.Empty else places)
          lost events es (of (Exchange (Cell i) seen 0) (cell i)) (looks_from n owner number mode (successor i))
      test true e = record {
        whole = whole_set n words places events (of (Exchange (Cell i) seen 0) (cell i)) w i place.Empty within many 0
            (i % length words.cells) (at_place i within) size refl (λ locked. tt) (λ q is. absurd (cc))
            (omega (arith, gave_own (cell i == seen) refl e)) (λ j differs. (refl, gave_else j differs));
        leaves = λ q differs. leaves_set n words places events (of (Exchange (Cell i) seen 0) (cell i)) w i place.Empty within many 0
            (i % length words.cells) (at_place i within) size q lost (λ quiet. tt)
            (λ other stand live ok its at holds.
            let same : owner ≡ other = its_owner other ok seen_is (seen_holds other holds) in
            let wrong : true ≡ false = sym is ∙ ap (λ (o : ℕ). is_lost o lost) same ∙ live in cc);
        stays = λ locked. locked;
        knows = looks_known _ (after_store words (Cell i) 0) (set places i place.Empty) owner number (successor i) mode
            (nat_lt (successor i) n) refl owns takes is;
        locks = λ locked. inl locked;
      }
        where
          cell_seen : slice_index words.cells i ≡ seen
          cell_seen = sym (cell_is i within) ∙ eqb-true (cell i) seen e

          seen_holds : (other : ℕ) → (slice_index words.cells i ≡ other) ⊎ (slice_index words.cells i ≡ reserved other)
              → (seen ≡ other) ⊎ (seen ≡ reserved other)
          seen_holds other (inl h) = inl (sym cell_seen ∙ h)
          seen_holds other (inr h) = inr (sym cell_seen ∙ h)
      test false e = quiet_made (Exchange (Cell i) seen 0) (cell i) _ (λ j. refl)
          (λ j. zero_if (i == j) ((cell i == seen) && is_owner seen) (and_left (cell i == seen) (is_owner seen) e))
          (looks_known _ words places owner number (successor i) mode (nat_lt (successor i) n) refl owns takes is)

  -- a call that is to lock goes on to a cell
  scans_known : (own : List Event) (c : Call) (count i : ℕ) (b : Bool) → nat_lt i n ≡ b → Settles c own → QuietBelow words places count i
      → Knows n words places lost p own (if b then stage.Scan c i count else stage.Lock c count)
  scans_known own c count i true e k quiet = (k, ltb-true i n e, quiet)
  scans_known own c count i false e k quiet
      = (k, (quiet.0, quiet.1, λ is j below. quiet.2 is j (omega (arith, below, ltb-false i n e))))

  settle_made : (c : Call) → Settles c es
      → MadeStep n p words words places places lost events es (of (Load Read) words.read)
      (call_take n decisions insists (stage.Settle c) words.read)
  settle_made c k = quiet_made (Load Read) words.read _ (λ j. refl) (λ j. refl) (test (words.read == lock_mark) refl)
    where
      still : Settles c (es ++ of (Load Read) words.read ∷ [])
      still = settles_on c es (of (Load Read) words.read) (λ j. refl) (λ j. refl) k

      test : (b : Bool) → (words.read == lock_mark) ≡ b
          → Knows n words places lost p (es ++ of (Load Read) words.read ∷ [])
          (if b then stage.Done c (Settled Locked) else scans_from n c 0 words.read)
      test true e = settled_locked n (words.read == lock_mark) c _ e still
      test false e = scans_known _ c words.read 0 (nat_lt 0 n) refl still
          (below_mark e, omega arith, λ is j below. absurd (omega (arith, below)))

  scan_made : (c : Call) (i count : ℕ) → Settles c es → i < n → QuietBelow words places count i
      → MadeStep n p words words places places lost events es (of (Load (Cell i)) (cell i))
      (call_take n decisions insists (stage.Scan c i count) (cell i))
  scan_made c i count k within quiet = quiet_made (Load (Cell i)) (cell i) _ (λ j. refl) (λ j. refl) (test (cell i == 0) refl)
    where
      still : Settles c (es ++ of (Load (Cell i)) (cell i) ∷ [])
      still = settles_on c es (of (Load (Cell i)) (cell i)) (λ j. refl) (λ j. refl) k

      quiet_at : (x : Place) → CellFits x 0 → IsQuiet x
      quiet_at place.Empty h = tt
      quiet_at (place.Claimed q) h = tt
      quiet_at (place.Counted q) h = absurd (omega (arith, h))
      quiet_at (place.Held q) h = absurd (omega (arith, h.0))

      test : (b : Bool) → (cell i == 0) ≡ b
          → Knows n words places lost p (es ++ of (Load (Cell i)) (cell i) ∷ [])
          (if b then scans_from n c (successor i) count else stage.Done c (Settled Unlocked))
      test true e = scans_known _ c count (successor i) (nat_lt (successor i) n) refl still (
        quiet.0,
        quiet.1,
        λ is j below. ⊎_elim
            (λ (same : j ≡ i). subst (λ (k : ℕ). IsQuiet (place_of places k)) (sym same)
            (quiet_at (place_of places i) (subst (CellFits (place_of places i)) (sym (cell_is i within) ∙ eqb-true (cell i) 0 e)
            (w.cells i within))))
            (λ (differs : j ≡ i → ⊥). quiet.2 is j (omega (arith, below, on_by_one i within, differs)))
            (cases_eq j i),
      )
      test false e = settled_unlocked n (words.read == lock_mark) c _ still (record {
        before = es;
        look = of (Load (Cell i)) (cell i);
        whole = refl;
        saw = ap (λ (b : Bool). b && not (cell i == 0)) (lt-ltb i n within) ∙ ap not e;
      })

  lock_made : (c : Call) (count : ℕ) → Settles c es → QuietBelow words places count n
      → MadeStep n p words (after_access words (Exchange Read count lock_mark)) places places lost events es
      (of (Exchange Read count lock_mark) words.read) (call_take n decisions insists (stage.Lock c count) words.read)
  lock_made c count k quiet = test (words.read == count) refl
    where
      still : Settles c (es ++ of (Exchange Read count lock_mark) words.read ∷ [])
      still = settles_on c es (of (Exchange Read count lock_mark) words.read) (λ j. refl) (λ j. refl) k

      test : (b : Bool) → (words.read == count) ≡ b
          → MadeStep n p words (if b then after_store words Read lock_mark else words) places places lost events es
          (of (Exchange Read count lock_mark) words.read)
          (if b || (words.read == lock_mark) then stage.Done c (Settled Locked) else stage.Done c (Settled Unlocked))
      test true e =
          let same : words.read ≡ count = eqb-true words.read count e in
          record {
            whole = whole_on n words places events (of (Exchange Read count lock_mark) words.read) w (record words { read = lock_mark })
                places w.cells (λ locked i within. quiet.2 same i within) (inl refl) (λ i. refl) (λ i q is. inl is);
            leaves = λ q differs. record {
              keeps = λ owner i stand live owns its is holds. (is, refl);
              quiets = inr (omega (arith, same, quiet.0));
              locked = λ locked. refl;
            };
            stays = λ locked. refl;
            knows = settled_locked n (lock_mark == lock_mark) c _ (itself lock_mark) still;
            locks = λ locked. inr (locking c _ still);
          }
      test false e = quiet_made (Exchange Read count lock_mark) words.read _ (λ j. refl) (λ j. refl)
          (marked (words.read == lock_mark) refl)
        where
          marked : (b : Bool) → (words.read == lock_mark) ≡ b
              → Knows n words places lost p (es ++ of (Exchange Read count lock_mark) words.read ∷ [])
              (if b then stage.Done c (Settled Locked) else stage.Done c (Settled Unlocked))
          marked true g = settled_locked n (words.read == lock_mark) c _ g still
          marked false g = settled_unlocked n (words.read == lock_mark) c _ still
              (record {
                before = es;
                look = of (Exchange Read count lock_mark) words.read;
                whole = refl;
                saw = ap (λ (b : Bool). not b && not (words.read == lock_mark)) e ∙ ap not g;
              })

  pub made : (s : RobustCall) → call_is_idle s ≡ false → is_halted lost s ≡ false → Knows n words places lost p es s
      → MadeStep n p words (after_access words (call_next s)) places (places_after places p s (answer_of words (call_next s))) lost
      events es (of (call_next s) (answer_of words (call_next s))) (call_take n decisions insists s (answer_of words (call_next s)))
  made stage.Idle busy live k = absurd (cc)
  made (stage.Acquire owner) busy live k = acquire_made owner k.0 k.1
  made (stage.Claim owner i count) busy live k = claim_made owner i count k.0 k.1 k.2 k.3 k.4
  made (stage.Count owner i count) busy live k = count_made owner i count k.0 k.1 k.2 k.3 (k.4 live)
  made (stage.Confirm owner i) busy live k = confirm_made owner i k.0 k.1 k.2 (k.3 live)
  made (stage.Undo owner i) busy live k = undo_made owner i k.1 k.2 k.3 (k.4 live).0
  made (stage.Free owner i mode) busy live k = free_made owner i mode k.0 k.1 k.2 (k.3 live)
  made (stage.Look owner number mode i) busy live k = look_made owner number i mode k.0 k.1 k.2 k.3
  made (stage.Clear owner number mode i seen) busy live k = clear_made owner number i seen mode k.0 k.1 k.2 k.3 k.4
  made (stage.Settle c) busy live k = settle_made c k
  made (stage.Scan c i count) busy live k = scan_made c i count k.0 k.1 k.2
  made (stage.Lock c count) busy live k = lock_made c count k.0 k.1
  made (stage.Done c answer) busy live k = quiet_made Local 0 stage.Idle (λ j. refl) (λ j. refl) tt
