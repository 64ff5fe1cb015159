-- Which numbers changes give out, and what becomes of one through them.
use Rattle.std.proofs.Common.{◌≡◌, ℕ, suc, ◌+◌, ◌<◌, ◌≤◌, List, [], ◌∷◌, length, get_or, Some, None, inl, inr, refl, sym, ap, ◌∙◌, arith}
use Rattle.std.proofs.Common.{subst}
use Rattle.std.specs.Prelude.{All, nat_eq}
use Rattle.std.specs.List.{AllPairs, range_with_len}
use Rattle.std.specs.Map.{lookup, remove_entry, set_value}
use Rattle.std.proofs.lemmas.Bool.{cases_eq}
use Rattle.std.proofs.lemmas.List.FromFn.{get_or-range_with_len}
use Rattle.iox_container.specs.NumberTable.{NumberTable, Rises, value_at}
use Rattle.iox_container.specs.NumberLaws.{Change, Inserts, Removes, Writes, Reserves, GivenOnce, LeavesAlone, changed, all_changed, given}
use Rattle.iox_container.proofs.Joined.{remove-absent, set_value-absent}
use Rattle.iox_container.proofs.Rising.{Rises-push, Rises-removed, Rises-set_value}
use Rattle.iox_container.proofs.Telling.{put_others, lookup-removed_other, lookup-written_other}

module _ {V : Type 0} where
  -- the numbers given out follow one another from the next on
  given_exact : (table : NumberTable V) (changes : List (Change V))
      → given table changes ≡ range_with_len table.next (length (given table changes))
  given_exact table [] = refl
  given_exact table (Inserts value ∷ changes) = ap (λ numbers. table.next ∷ numbers) (given_exact (changed table (Inserts value)) changes)
  given_exact table (Removes number ∷ changes) = given_exact (changed table (Removes number)) changes
  given_exact table (Writes number value ∷ changes) = given_exact (changed table (Writes number value)) changes
  given_exact table (Reserves room ∷ changes) = given_exact (changed table (Reserves room)) changes

  -- and the next number is after them
  next_after : (table : NumberTable V) (changes : List (Change V))
      → (all_changed table changes).next ≡ table.next + length (given table changes)
  next_after table [] = omega arith
  next_after table (Inserts value ∷ changes) = let later = next_after (changed table (Inserts value)) changes in omega arith
  next_after table (Removes number ∷ changes) = next_after (changed table (Removes number)) changes
  next_after table (Writes number value ∷ changes) = next_after (changed table (Writes number value)) changes
  next_after table (Reserves room ∷ changes) = next_after (changed table (Reserves room)) changes

  given_at : (table : NumberTable V) (changes : List (Change V)) (place default : ℕ) → place < length (given table changes)
      → get_or (given table changes) place default ≡ table.next + place
  given_at table changes place default within =
      ap (λ numbers. get_or numbers place default) (given_exact table changes) ∙ get_or-range_with_len table.next
      (length (given table changes)) place default within

  given_rise : (table : NumberTable V) (changes : List (Change V)) → AllPairs (λ earlier later. earlier < later) (given table changes)
  given_rise table changes i j default before within =
      omega (arith, given_at table changes i default (omega arith), given_at table changes j default within)

  given_new : (table : NumberTable V) (changes : List (Change V)) → All (λ number. table.next ≤ number) (given table changes)
  given_new table changes place default within = omega (arith, given_at table changes place default within)

  given_below : (table : NumberTable V) (changes : List (Change V))
      → All (λ number. number < (all_changed table changes).next) (given table changes)
  given_below table changes place default within = omega (arith, given_at table changes place default within, next_after table changes)

  one_rises : (table : NumberTable V) (change : Change V) → Rises 1 table.entries table.next
      → Rises 1 (changed table change).entries (changed table change).next
  one_rises table (Inserts value) rises = Rises-push 1 table.next table.entries value rises
  one_rises table (Removes number) rises = Rises-removed number 1 table.next table.entries rises
  one_rises table (Writes number value) rises = Rises-set_value number 1 table.next value table.entries rises
  one_rises table (Reserves room) rises = rises

  all_rise : (table : NumberTable V) (changes : List (Change V)) → Rises 1 table.entries table.next
      → Rises 1 (all_changed table changes).entries (all_changed table changes).next
  all_rise table [] rises = rises
  all_rise table (change ∷ changes) rises = all_rise (changed table change) changes (one_rises table change rises)

  -- the next number never falls
  next_rises : (table : NumberTable V) (change : Change V) → table.next ≤ (changed table change).next
  next_rises table (Inserts value) = omega arith
  next_rises table (Removes number) = omega arith
  next_rises table (Writes number value) = omega arith
  next_rises table (Reserves room) = omega arith

  -- a change that leaves a number alone leaves its value
  one_stays : (table : NumberTable V) (change : Change V) (number : ℕ) → number < table.next → LeavesAlone number change
      → value_at (changed table change) number ≡ value_at table number
  one_stays table (Inserts value) number below alone = put_others table value number (λ same. omega arith)
  one_stays table (Removes other) number below alone = lookup-removed_other other number table.entries (λ same. alone (sym same))
  one_stays table (Writes other value) number below alone = lookup-written_other other number value table.entries (λ same. alone (sym same))
  one_stays table (Reserves room) number below alone = refl

  -- no change puts a value under a number that was given out
  none_stays : (table : NumberTable V) (change : Change V) (number : ℕ) → number < table.next → value_at table number ≡ None
      → value_at (changed table change) number ≡ None
  none_stays table (Inserts value) number below none = put_others table value number (λ same. omega arith) ∙ none
  none_stays table (Removes other) number below none = elim (cases_eq other number) [
    | inl same ↦ (let Stays : ℕ → Type 0 = λ n. lookup (nat_eq number) (remove_entry (nat_eq n) table.entries) ≡ None in
        subst Stays (sym same) (ap (λ entries. lookup (nat_eq number) entries) (remove-absent (nat_eq number) table.entries none) ∙ none))
    | inr apart ↦ lookup-removed_other other number table.entries (λ same. apart (sym same)) ∙ none
  ]
  none_stays table (Writes other value) number below none = elim (cases_eq other number) [
    | inl same ↦ (let Stays : ℕ → Type 0 = λ n. lookup (nat_eq number) (set_value (nat_eq n) table.entries value) ≡ None in
        subst Stays (sym same) (ap (λ entries. lookup (nat_eq number) entries)
        (set_value-absent (nat_eq number) table.entries value none) ∙ none))
    | inr apart ↦ lookup-written_other other number value table.entries (λ same. apart (sym same)) ∙ none
  ]
  none_stays table (Reserves room) number below none = none

  gone_stays : (table : NumberTable V) (changes : List (Change V)) (number : ℕ) → number < table.next → value_at table number ≡ None
      → value_at (all_changed table changes) number ≡ None
  gone_stays table [] number below none = none
  gone_stays table (change ∷ changes) number below none =
      gone_stays (changed table change) changes number (omega (arith, next_rises table change)) (none_stays table change number below none)

  value_stays : (table : NumberTable V) (changes : List (Change V)) (number : ℕ) (value : V) → number < table.next
      → value_at table number ≡ Some value → All (LeavesAlone number) changes
      → value_at (all_changed table changes) number ≡ Some value
  value_stays table [] number value below here alone = here
  value_stays table (change ∷ changes) number value below here alone =
      value_stays (changed table change) changes number value (omega (arith, next_rises table change))
      (one_stays table change number below (alone 0 change (omega arith)) ∙ here)
      (λ place default within. alone (suc place) default (omega arith))

pub given_once : (V : Type 0) → GivenOnce V
given_once V = record {
  rises = all_rise;
  given_rise = given_rise;
  given_new = given_new;
  given_below = given_below;
  gone_stays = gone_stays;
  stays = value_stays;
}
