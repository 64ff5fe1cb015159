-- A recovery leaves its owner no index that it was to free, since nobody acts for that owner any longer.
use Rattle.std.proofs.Common.{◌≡◌, ℕ, ◌+◌, ◌%◌, ◌^◌, ◌<◌, ◌⊎◌, inl, inr, ⊎_elim, Bool, true, false, if◌then◌else◌, ◌==◌, ◌&&◌, ◌||◌}
use Rattle.std.proofs.Common.{nat_lt, List, [], ◌∷◌, ◌++◌, length, set, slice_index, refl, sym, ◌∙◌, ap, subst, arith, mod-eq_of_lt}
use Rattle.std.specs.Global.{Vec}
use Rattle.std.proofs.Math.Seq.{get_or-set_same, get_or-set_other}
use Rattle.std.proofs.lemmas.Bool.{cases_eq, eq-eqb, eqb-false, ltb-false, or_left, or_right}
use Rattle.iox_container.specs.declared.release.ReleaseMode.{ReleaseMode}
use Rattle.iox_container.specs.declared.release.ReleaseMode.TheVariants.{LockIfLastIndex, Default}
use Rattle.iox_container.specs.declared.release.ReleaseState.TheVariants.{Locked, Unlocked}
use Rattle.iox_queues_steps.specs.Access.{RingWords, after_access, after_store, answer_of, successor, word_of}
use Rattle.iox_queues_steps.specs.declared.access.Word.TheVariants.{Cell}
use Rattle.iox_queues.specs.declared.bits.machine.Event.{Event}
use Rattle.iox_robust_steps.specs.Steps.{call_next, call_take, claims_from, decided, is_freed, is_marked_by, lock_mark, looks_from}
use Rattle.iox_robust_steps.specs.Steps.{is_seen_of}
use Rattle.iox_robust_steps.specs.Steps.{reserved, scans_from, settles}
use Rattle.iox_robust_steps.specs.Told.{AreFreed, FreedBelow, FreedBy}
use Rattle.iox_robust_steps.specs.Machine.{call_ended, is_halted, is_lost}
use Rattle.iox_robust_steps.specs.Kept.{FreesSoFar, IsOwner, Knows}
use Rattle.iox_robust_steps.specs.declared.call.Answer.TheVariants.{Settled}
use Rattle.iox_robust_steps.specs.declared.call.Call.{Call}
use Rattle.iox_robust_steps.specs.declared.call.Call.TheVariants as call
use Rattle.iox_robust_steps.specs.declared.call.RobustCall.{RobustCall}
use Rattle.iox_robust_steps.specs.declared.call.RobustCall.TheVariants as stage
use Rattle.iox_robust_steps.specs.declared.machine.Finished.{Finished}
use Rattle.iox_robust_steps.specs.declared.state.Place.{Place}
use Rattle.iox_robust_steps.proofs.Knowing.{lost_still}

-- the number is no owner's, nor what a cell holds while that owner is about to take it
abbrev pub IsNotOf : ℕ → ℕ → Type 0
IsNotOf owner cell = (cell ≡ owner → ⊥) × (cell ≡ reserved owner → ⊥)

-- each cell stays, or holds nothing of an owner whose recovery began
abbrev pub NothingNew : List ℕ → List ℕ → List ℕ → Type 0
NothingNew lost cells cells' = (owner j : ℕ) → is_lost owner lost ≡ true → IsOwner owner
    → (slice_index cells' j ≡ slice_index cells j) ⊎ IsNotOf owner (slice_index cells' j)

stays_so : (lost cells : List ℕ) → NothingNew lost cells cells
stays_so lost cells = λ owner j gone owns. inl refl

set_new : (lost cells : List ℕ) (pos v : ℕ) → pos < length cells
    → ((owner : ℕ) → is_lost owner lost ≡ true → IsOwner owner → IsNotOf owner v) → NothingNew lost cells (set cells pos v)
set_new lost cells pos v within other = λ owner j gone owns. ⊎_elim
    (λ (same : j ≡ pos). inr (subst (IsNotOf owner) (sym (ap (λ (k : ℕ). slice_index (set cells pos v) k) same
    ∙ get_or-set_same cells pos v 0 within)) (other owner gone owns)))
    (λ (differs : j ≡ pos → ⊥). inl (get_or-set_other cells pos j v 0 differs))
    (cases_eq j pos)

if_new : (lost : List ℕ) (words : RingWords) (b : Bool) (pos v : ℕ) → NothingNew lost words.cells (set words.cells pos v)
    → NothingNew lost words.cells (if b then record words { cells = set words.cells pos v } else words).cells
if_new lost words true pos v h = h
if_new lost words false pos v h = stays_so lost words.cells

if_read : (lost : List ℕ) (words : RingWords) (b : Bool) (v : ℕ)
    → NothingNew lost words.cells (if b then record words { read = v } else words).cells
if_read lost words true v = stays_so lost words.cells
if_read lost words false v = stays_so lost words.cells

module _ (n p : ℕ) (words : RingWords) (places : List Place) (lost : List ℕ) (size : length words.cells ≡ n + 1) where
  at : (i : ℕ) → i < n → i % length words.cells < length words.cells
  at i within = subst (λ (k : ℕ). k < length words.cells) (sym (mod-eq_of_lt (omega (arith, within, size)))) (omega (arith, within, size))

  -- what a live owner stores, and nothing
  live_new : (owner v : ℕ) → IsOwner owner → is_lost owner lost ≡ false → (v ≡ owner) ⊎ (v ≡ reserved owner)
      → (other : ℕ) → is_lost other lost ≡ true → IsOwner other → IsNotOf other v
  live_new owner v owns live value other gone ok = (
    λ same. clash (is_first value same),
    λ same. clash (is_second value same),
  )
    where
      clash : owner ≡ other → ⊥
      clash same = let wrong : true ≡ false = sym gone ∙ ap (λ (o : ℕ). is_lost o lost) (sym same) ∙ live in cc

      is_first : (v ≡ owner) ⊎ (v ≡ reserved owner) → v ≡ other → owner ≡ other
      is_first (inl h) g = sym h ∙ g
      is_first (inr h) g = absurd (omega (arith, h, g, owns.0, ok.1))

      is_second : (v ≡ owner) ⊎ (v ≡ reserved owner) → v ≡ reserved other → owner ≡ other
      is_second (inl h) g = absurd (omega (arith, h, g, owns.1, ok.0))
      is_second (inr h) g = omega (arith, h, g, owns.1, ok.1)

  none_new : (other : ℕ) → is_lost other lost ≡ true → IsOwner other → IsNotOf other 0
  none_new other gone ok = ((λ h. omega (arith, h, ok.0)), λ h. omega (arith, h, ok.0))

  pub nothing_new : (es : List Event) (s : RobustCall) → is_halted lost s ≡ false → Knows n words places lost p es s
      → NothingNew lost words.cells (after_access words (call_next s)).cells
  nothing_new es stage.Idle live k = stays_so lost words.cells
  nothing_new es (stage.Acquire owner) live k = stays_so lost words.cells
  nothing_new es (stage.Claim owner i count) live k
      = if_new lost words (word_of words (Cell i) == 0) (i % length words.cells) (reserved owner)
      (set_new lost words.cells (i % length words.cells) (reserved owner) (at i k.2) (live_new owner (reserved owner) k.0 live (inr refl)))
  nothing_new es (stage.Count owner i count) live k = if_read lost words (words.read == count) (successor count)
  nothing_new es (stage.Confirm owner i) live k =
      set_new lost words.cells (i % length words.cells) owner (at i k.2) (live_new owner owner k.0 live (inl refl))
  nothing_new es (stage.Undo owner i) live k = set_new lost words.cells (i % length words.cells) 0 (at i k.2) none_new
  nothing_new es (stage.Free owner i mode) live k = if_new lost words (word_of words (Cell i) == owner) (i % length words.cells) 0
      (set_new lost words.cells (i % length words.cells) 0 (at i k.2) none_new)
  nothing_new es (stage.Look owner number mode i) live k = stays_so lost words.cells
  nothing_new es (stage.Clear owner number mode i seen) live k = if_new lost words (word_of words (Cell i) == seen)
      (i % length words.cells) 0 (set_new lost words.cells (i % length words.cells) 0 (at i k.2) none_new)
  nothing_new es (stage.Settle c) live k = stays_so lost words.cells
  nothing_new es (stage.Scan c i count) live k = stays_so lost words.cells
  nothing_new es (stage.Lock c count) live k = if_read lost words (words.read == count) lock_mark
  nothing_new es (stage.Done c answer) live k = stays_so lost words.cells

-- what was freed stays so
still_not : (owner cell cell' : ℕ) → (cell' ≡ cell) ⊎ IsNotOf owner cell' → IsNotOf owner cell → IsNotOf owner cell'
still_not owner cell cell' (inl same) h = subst (IsNotOf owner) (sym same) h
still_not owner cell cell' (inr not_of) h = not_of

module _ (n : ℕ) (decisions : List (Vec Bool)) (lost cells cells' : List ℕ) (new : NothingNew lost cells cells') where
  below_on : (owner number m : ℕ) → FreedBelow decisions lost cells owner number m → FreedBelow decisions lost cells' owner number m
  below_on owner number m h = (
    h.0,
    h.1,
    h.2,
    λ j low is. still_not owner (slice_index cells j) (slice_index cells' j) (new owner j h.2 (h.0, h.1)) (h.3 j low is),
  )

  by_on : (c : Call) → FreedBy decisions lost cells n c → FreedBy decisions lost cells' n c
  by_on (call.Acquire owner) h = tt
  by_on (call.Release owner i mode) h = tt
  by_on (call.Recover owner number mode) h = below_on owner number n h

  pub frees_on : (s : RobustCall) → FreesSoFar n decisions lost cells s → FreesSoFar n decisions lost cells' s
  frees_on stage.Idle h = tt
  frees_on (stage.Acquire owner) h = tt
  frees_on (stage.Claim owner i count) h = tt
  frees_on (stage.Count owner i count) h = tt
  frees_on (stage.Confirm owner i) h = tt
  frees_on (stage.Undo owner i) h = tt
  frees_on (stage.Free owner i mode) h = tt
  frees_on (stage.Look owner number mode i) h = below_on owner number i h
  frees_on (stage.Clear owner number mode i seen) h = (below_on owner number i h.0, of h.1 (new owner i h.0.2 (h.0.0, h.0.1)))
    where
      of : (slice_index cells i ≡ seen) ⊎ IsNotOf owner (slice_index cells i)
          → (slice_index cells' i ≡ slice_index cells i) ⊎ IsNotOf owner (slice_index cells' i)
          → (slice_index cells' i ≡ seen) ⊎ IsNotOf owner (slice_index cells' i)
      of (inl is) (inl same) = inl (same ∙ is)
      of (inr not_of) (inl same) = inr (subst (IsNotOf owner) (sym same) not_of)
      of h (inr not_of) = inr not_of
  frees_on (stage.Settle c) h = by_on c h
  frees_on (stage.Scan c i count) h = by_on c h
  frees_on (stage.Lock c count) h = by_on c h
  frees_on (stage.Done c answer) h = by_on c h

  pub freed_on : (finished : List Finished) → AreFreed decisions lost cells n finished → AreFreed decisions lost cells' n finished
  freed_on [] h = tt
  freed_on (f ∷ finished) h = (by_on f.call h.0, freed_on finished h.1)

-- one more recovery began
module _ (n : ℕ) (decisions : List (Vec Bool)) (lost cells : List ℕ) (other : ℕ) where
  below_lost : (owner number m : ℕ) → FreedBelow decisions lost cells owner number m
      → FreedBelow decisions (lost ++ other ∷ []) cells owner number m
  below_lost owner number m h = (h.0, h.1, lost_still owner other lost h.2, h.3)

  by_lost : (c : Call) → FreedBy decisions lost cells n c → FreedBy decisions (lost ++ other ∷ []) cells n c
  by_lost (call.Acquire owner) h = tt
  by_lost (call.Release owner i mode) h = tt
  by_lost (call.Recover owner number mode) h = below_lost owner number n h

  pub frees_lost : (s : RobustCall) → FreesSoFar n decisions lost cells s → FreesSoFar n decisions (lost ++ other ∷ []) cells s
  frees_lost stage.Idle h = tt
  frees_lost (stage.Acquire owner) h = tt
  frees_lost (stage.Claim owner i count) h = tt
  frees_lost (stage.Count owner i count) h = tt
  frees_lost (stage.Confirm owner i) h = tt
  frees_lost (stage.Undo owner i) h = tt
  frees_lost (stage.Free owner i mode) h = tt
  frees_lost (stage.Look owner number mode i) h = below_lost owner number i h
  frees_lost (stage.Clear owner number mode i seen) h = (below_lost owner number i h.0, h.1)
  frees_lost (stage.Settle c) h = by_lost c h
  frees_lost (stage.Scan c i count) h = by_lost c h
  frees_lost (stage.Lock c count) h = by_lost c h
  frees_lost (stage.Done c answer) h = by_lost c h

  pub freed_lost : (finished : List Finished) → AreFreed decisions lost cells n finished
      → AreFreed decisions (lost ++ other ∷ []) cells n finished
  freed_lost [] h = tt
  freed_lost (f ∷ finished) h = (by_lost f.call h.0, freed_lost finished h.1)

-- a recovery goes on to a cell
pub looks_freed : (n : ℕ) (decisions : List (Vec Bool)) (lost cells : List ℕ) (owner number i : ℕ) (mode : ReleaseMode) (b : Bool)
    → nat_lt i n ≡ b → FreedBelow decisions lost cells owner number i
    → FreesSoFar n decisions lost cells (if b then stage.Look owner number mode i else settles mode (call.Recover owner number mode))
looks_freed n decisions lost cells owner number i mode true e h = h
looks_freed n decisions lost cells owner number i LockIfLastIndex false e h
    = (h.0, h.1, h.2, λ j low is. h.3 j (omega (arith, low, ltb-false i n e)) is)
looks_freed n decisions lost cells owner number i Default false e h
    = (h.0, h.1, h.2, λ j low is. h.3 j (omega (arith, low, ltb-false i n e)) is)

-- the call of a party in hand after its own step
module _ (n p : ℕ) (decisions : List (Vec Bool)) (insists : Bool) (words : RingWords) (places : List Place) (lost : List ℕ)
    (es : List Event)
    (small : n < 2 ^ 62)
    (size : length words.cells ≡ n + 1) where
  abbrev after : RobustCall → List ℕ
  after s = (after_access words (call_next s)).cells

  cell_at : (i : ℕ) → i < n → word_of words (Cell i) ≡ slice_index words.cells i
  cell_at i within = ap (λ (k : ℕ). slice_index words.cells k) (mod-eq_of_lt (omega (arith, within, size)))

  -- one index more
  one_more : (cells : List ℕ) (owner number i : ℕ) → i < n → FreedBelow decisions lost cells owner number i
      → (decided decisions number i ≡ true → IsNotOf owner (slice_index cells i))
      → FreedBelow decisions lost cells owner number (successor i)
  one_more cells owner number i within h here = (
    h.0,
    h.1,
    h.2,
    λ j low is. ⊎_elim
        (λ (same : j ≡ i). subst (λ (k : ℕ). IsNotOf owner (slice_index cells k)) (sym same)
        (here (ap (decided decisions number) (sym same) ∙ is)))
        (λ (differs : j ≡ i → ⊥). h.3 j (omega (arith, low, within, small, differs)) is)
        (cases_eq j i),
  )

  either_free : (cells : List ℕ) (b : Bool) (one other : RobustCall) → FreesSoFar n decisions lost cells one
      → FreesSoFar n decisions lost cells other → FreesSoFar n decisions lost cells (if b then one else other)
  either_free cells true one other h g = h
  either_free cells false one other h g = g

  settles_freed : (cells : List ℕ) (owner i : ℕ) (mode : ReleaseMode)
      → FreesSoFar n decisions lost cells (settles mode (call.Release owner i mode))
  settles_freed cells owner i LockIfLastIndex = tt
  settles_freed cells owner i Default = tt

  claims_freed : (cells : List ℕ) (owner i count : ℕ) → FreesSoFar n decisions lost cells (claims_from n owner i count)
  claims_freed cells owner i count = either_free cells (nat_lt i n) (stage.Claim owner i count) _ tt tt

  scans_freed : (cells : List ℕ) (c : Call) (i count : ℕ) → FreedBy decisions lost cells n c
      → FreesSoFar n decisions lost cells (scans_from n c i count)
  scans_freed cells c i count h = either_free cells (nat_lt i n) (stage.Scan c i count) (stage.Lock c count) h h

  abbrev answer : RobustCall → ℕ
  answer s = answer_of words (call_next s)

  pub frees_next : (s : RobustCall) → Knows n words places lost p es s → FreesSoFar n decisions lost (after s) s
      → FreesSoFar n decisions lost (after s) (call_take n decisions insists s (answer s))
  frees_next stage.Idle k h = tt
  frees_next (stage.Acquire owner) k h
      = either_free words.cells (words.read == lock_mark) _ _ tt (claims_freed words.cells owner 0 words.read)
  frees_next (stage.Claim owner i count) k h = either_free (after (stage.Claim owner i count)) (word_of words (Cell i) == 0)
      (stage.Count owner i count) _ tt (claims_freed (after (stage.Claim owner i count)) owner (successor i) count)
  frees_next (stage.Count owner i count) k h = either_free (after (stage.Count owner i count)) (words.read == count)
      (stage.Confirm owner i) _ tt
      (either_free (after (stage.Count owner i count)) (words.read == lock_mark) (stage.Undo owner i) (stage.Count owner i words.read) tt
      tt)
  frees_next (stage.Confirm owner i) k h = tt
  frees_next (stage.Undo owner i) k h = tt
  frees_next (stage.Free owner i mode) k h = settles_freed (after (stage.Free owner i mode)) owner i mode
  frees_next (stage.Look owner number mode i) k h = test (is_freed decisions insists owner number i (word_of words (Cell i))) refl
    where
      other_cell : is_freed decisions insists owner number i (word_of words (Cell i)) ≡ false → decided decisions number i ≡ true
          → IsNotOf owner (slice_index words.cells i)
      other_cell not_freed is = (
        λ same. differs (or_left (word_of words (Cell i) == owner) (word_of words (Cell i) == reserved owner)
            (eq-eqb (word_of words (Cell i)) owner (cell_at i k.2 ∙ same))),
        λ same. differs (or_right (word_of words (Cell i) == owner) (word_of words (Cell i) == reserved owner)
            (eq-eqb (word_of words (Cell i)) (reserved owner) (cell_at i k.2 ∙ same))),
      )
        where
          freed_if : (b : Bool) → is_seen_of owner (word_of words (Cell i)) ≡ b → b ≡ true
              → is_freed decisions insists owner number i (word_of words (Cell i)) ≡ true
          freed_if b seen so = ap (λ (c : Bool). c && (insists || decided decisions number i)) (seen ∙ so)
              ∙ or_right insists (decided decisions number i) is

          differs : is_seen_of owner (word_of words (Cell i)) ≡ true → ⊥
          differs seen = let wrong : true ≡ false = sym (freed_if true seen refl) ∙ not_freed in cc

      test : (b : Bool) → is_freed decisions insists owner number i (word_of words (Cell i)) ≡ b
          → FreesSoFar n decisions lost words.cells (if b then stage.Clear owner number mode i (word_of words (Cell i))
          else looks_from n owner number mode (successor i))
      test true e = (h, inl (sym (cell_at i k.2)))
      test false e = looks_freed n decisions lost words.cells owner number (successor i) mode (nat_lt (successor i) n) refl
          (one_more words.cells owner number i k.2 h (other_cell e))
  frees_next (stage.Clear owner number mode i seen) k h = test (word_of words (Cell i) == seen) refl h
    where
      test : (b : Bool) → (word_of words (Cell i) == seen) ≡ b
          → FreesSoFar n decisions lost (if b then after_store words (Cell i) 0 else words).cells (stage.Clear owner number mode i seen)
          → FreesSoFar n decisions lost (if b then after_store words (Cell i) 0 else words).cells
          (looks_from n owner number mode (successor i))
      test true e h = looks_freed n decisions lost (after_store words (Cell i) 0).cells owner number (successor i) mode
          (nat_lt (successor i) n) refl
          (one_more (after_store words (Cell i) 0).cells owner number i k.2 h.0
          (λ is. subst (IsNotOf owner) (sym emptied) ((λ same. omega (arith, same, k.0.0)), λ same. omega (arith, same, k.0.0))))
        where
          emptied : slice_index (set words.cells (i % length words.cells) 0) i ≡ 0
          emptied = ap (λ (j : ℕ). slice_index (set words.cells j 0) i) (mod-eq_of_lt (omega (arith, k.2, size)))
              ∙ get_or-set_same words.cells i 0 0 (omega (arith, k.2, size))
      test false e h = looks_freed n decisions lost words.cells owner number (successor i) mode (nat_lt (successor i) n) refl
          (one_more words.cells owner number i k.2 h.0 (λ is. gone h.1))
        where
          gone : (slice_index words.cells i ≡ seen) ⊎ IsNotOf owner (slice_index words.cells i) → IsNotOf owner (slice_index words.cells i)
          gone (inl same) = absurd (eqb-false (word_of words (Cell i)) seen e (cell_at i k.2 ∙ same))
          gone (inr not_of) = not_of
  frees_next (stage.Settle c) k h = either_free words.cells (words.read == lock_mark) (stage.Done c (Settled Locked)) _ h
      (scans_freed words.cells c 0 words.read h)
  frees_next (stage.Scan c i count) k h = either_free words.cells (word_of words (Cell i) == 0) _ (stage.Done c (Settled Unlocked))
      (scans_freed words.cells c (successor i) count h) h
  frees_next (stage.Lock c count) k h = either_free (after (stage.Lock c count)) (is_marked_by count words.read)
      (stage.Done c (Settled Locked)) (stage.Done c (Settled Unlocked)) h h
  frees_next (stage.Done c answered) k h = tt

-- a recovery that ends is among those that freed
pub ended_freed : (n : ℕ) (decisions : List (Vec Bool)) (lost cells : List ℕ) (party first last : ℕ) (s : RobustCall)
    → FreesSoFar n decisions lost cells s → AreFreed decisions lost cells n (call_ended party first last s)
ended_freed n decisions lost cells party first last stage.Idle h = tt
ended_freed n decisions lost cells party first last (stage.Acquire owner) h = tt
ended_freed n decisions lost cells party first last (stage.Claim owner i count) h = tt
ended_freed n decisions lost cells party first last (stage.Count owner i count) h = tt
ended_freed n decisions lost cells party first last (stage.Confirm owner i) h = tt
ended_freed n decisions lost cells party first last (stage.Undo owner i) h = tt
ended_freed n decisions lost cells party first last (stage.Free owner i mode) h = tt
ended_freed n decisions lost cells party first last (stage.Look owner number mode i) h = tt
ended_freed n decisions lost cells party first last (stage.Clear owner number mode i seen) h = tt
ended_freed n decisions lost cells party first last (stage.Settle c) h = tt
ended_freed n decisions lost cells party first last (stage.Scan c i count) h = tt
ended_freed n decisions lost cells party first last (stage.Lock c count) h = tt
ended_freed n decisions lost cells party first last (stage.Done c answer) h = (h, tt)

pub freed_append : (n : ℕ) (decisions : List (Vec Bool)) (lost cells : List ℕ) (xs ys : List Finished) → AreFreed decisions lost cells n xs
    → AreFreed decisions lost cells n ys → AreFreed decisions lost cells n (xs ++ ys)
freed_append n decisions lost cells [] ys h g = g
freed_append n decisions lost cells (x ∷ xs) ys h g = (h.0, freed_append n decisions lost cells xs ys h.1 g)
