-- What the heads say that a taking and a giving back leave.
use Rattle.std.proofs.Common.{◌≡◌, ℕ, ◌+◌, ◌-◌, ◌%◌, ◌^◌, ◌<◌, Bool, true, false, if◌then◌else◌, ◌∙◌, arith}
use Rattle.std.proofs.lemmas.Bool.{eqb-true}
use Rattle.iox_container.specs.Head.{word_of_head, head_of_word, head_after_acquire, head_after_release}
use Rattle.iox_container.specs.declared.head.HeadDetails.{HeadDetails}
use Rattle.iox_container.specs.declared.release.ReleaseMode.{ReleaseMode}
use Rattle.iox_container.specs.declared.release.ReleaseMode.TheVariants.{LockIfLastIndex, Default}
use Rattle.iox_index_steps.specs.Steps.{next_free, borrowed_count, lock_mark, head_taken, head_given, locks_last, marked_if}

-- the three parts of a word that has room for them
free_back : (d : HeadDetails) → d.head < 2 ^ 24 → d.aba < 2 ^ 16 → d.borrowed_indices < 2 ^ 24 → next_free (word_of_head d) ≡ d.head
free_back d h a b = omega arith

aba_back : (d : HeadDetails) → d.head < 2 ^ 24 → d.aba < 2 ^ 16 → d.borrowed_indices < 2 ^ 24 → (head_of_word (word_of_head d)).aba ≡ d.aba
aba_back d h a b = omega arith

held_back : (d : HeadDetails) → d.head < 2 ^ 24 → d.aba < 2 ^ 16 → d.borrowed_indices < 2 ^ 24
    → borrowed_count (word_of_head d) ≡ d.borrowed_indices
held_back d h a b = omega arith

-- the head once an index is taken
module _ (word next : ℕ) (small : next < 2 ^ 24) (room : borrowed_count word + 1 < 2 ^ 24) where
  abbrev after : HeadDetails
  after = head_after_acquire (next % 2 ^ 24) (head_of_word word)

  pub taken_free : next_free (head_taken word next) ≡ next
  taken_free = free_back after (omega arith) (omega arith) (omega arith) ∙ omega arith

  pub taken_aba : (head_of_word (head_taken word next)).aba ≡ ((head_of_word word).aba + 1) % 2 ^ 16
  taken_aba = aba_back after (omega arith) (omega arith) (omega arith)

  pub taken_held : borrowed_count (head_taken word next) ≡ borrowed_count word + 1
  taken_held = held_back after (omega arith) (omega arith) (omega arith) ∙ omega arith

-- the head once an index is given back
module _ (index word : ℕ) (small : index < 2 ^ 24) (some : 0 < borrowed_count word) where
  abbrev less : HeadDetails
  less = head_after_release index (head_of_word word)

  given_fits : (b : Bool) → (marked_if b less).borrowed_indices < 2 ^ 24
  given_fits true = omega arith
  given_fits false = omega arith

  free_if : (b : Bool) → next_free (word_of_head (marked_if b less)) ≡ index
  free_if true = free_back (marked_if true less) small (omega arith) (omega arith)
  free_if false = free_back (marked_if false less) small (omega arith) (omega arith)

  aba_if : (b : Bool) → (head_of_word (word_of_head (marked_if b less))).aba ≡ ((head_of_word word).aba + 1) % 2 ^ 16
  aba_if true = aba_back (marked_if true less) small (omega arith) (omega arith)
  aba_if false = aba_back (marked_if false less) small (omega arith) (omega arith)

  held_if : (b : Bool) → borrowed_count (word_of_head (marked_if b less)) ≡ (if b then lock_mark else borrowed_count word - 1)
  held_if true = held_back (marked_if true less) small (omega arith) (omega arith)
  held_if false = held_back (marked_if false less) small (omega arith) (omega arith) ∙ omega arith

  pub given_free : (mode : ReleaseMode) → next_free (head_given index mode word) ≡ index
  given_free mode = free_if (locks_last mode (borrowed_count word))

  pub given_aba : (mode : ReleaseMode) → (head_of_word (head_given index mode word)).aba ≡ ((head_of_word word).aba + 1) % 2 ^ 16
  given_aba mode = aba_if (locks_last mode (borrowed_count word))

  pub given_held : (mode : ReleaseMode)
      → borrowed_count (head_given index mode word) ≡ (if locks_last mode (borrowed_count word) then lock_mark else borrowed_count word - 1)
  given_held mode = held_if (locks_last mode (borrowed_count word))

-- a release locks only where one index was held
pub one_locks : (mode : ReleaseMode) (held : ℕ) → locks_last mode held ≡ true → held ≡ 1
one_locks LockIfLastIndex held e = eqb-true held 1 e
one_locks Default held e = absurd (cc)
