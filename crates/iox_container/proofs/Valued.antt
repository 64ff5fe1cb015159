-- Values by number: what a search for an entry tells of its value, and what they are where a value comes or goes.
use Rattle.std.proofs.Common.{ℕ, zero, suc, ◌≡◌, ◌≢◌, ◌+◌, ◌<◌, ◌≤◌, List, [], ◌∷◌, length, get_or, set, cond, Bool, true, false}
use Rattle.std.proofs.Common.{Option, None, Some, is_some, Result, Ok, Err, inl, inr, refl, sym, ap, subst, ◌∙◌, arith}
use Rattle.std.proofs.lemmas.Bool.{cases_lt}
use Rattle.std.proofs.lemmas.Map.Keys.{sorted_head}
use Rattle.std.specs.BTreeMap.{insert_entry, is_at}
use Rattle.std.specs.List.{AllByRecursion, HoldsAt, filter, insert, remove}
use Rattle.std.specs.List.Sorted.{IsStrictlySortedBy, IsBinarySearchResult}
use Rattle.std.specs.Map.{keys_of, lookup, remove_entry, set_value}
use Rattle.std.specs.Option.{option_map}
use Rattle.std.specs.Ordering.{nat_cmp, is_eq, match_ordering}
use Rattle.std.specs.Prelude.{IfNone}
use Rattle.std.specs.Result.{result_ok}
use Rattle.std.specs.declared.boxed.Box.{Box}
use Rattle.std.specs.declared.cmp.Ordering.TheVariants.{Less, Equal, Greater}
use Rattle.iox_container.specs.ByNumber.{shown_before, values_in}
use Rattle.iox_container.proofs.Numbers.{absent_stays, before, behind, first_below, here, higher-from}
use Rattle.iox_container.proofs.Numbers.{insert_above, lookup_above, lower-before}
use Rattle.iox_container.proofs.Numbers.{not_number, rising_rest}

off : (number key : ℕ) → key < number → is_at (nat_cmp number) key ≡ false
off number key below = ap is_eq (behind number key below)

all_kept : {V : Type 0} (P : ℕ → Type 0) (test : ℕ × V → Bool) (entries : List (ℕ × V)) → AllByRecursion P (keys_of entries)
    → AllByRecursion P (keys_of (filter test entries))
all_kept P test [] all = tt
all_kept P test (entry ∷ rest) all =
    elim (test entry) as (λ passes. AllByRecursion P (keys_of (cond passes (entry ∷ filter test rest) (filter test rest)))) [
      | true ↦ (all.0, all_kept P test rest all.1)
      | false ↦ all_kept P test rest all.1
    ]

-- entries that stay still rise
pub rising-kept : {V : Type 0} (test : ℕ × V → Bool) (entries : List (ℕ × V)) → IsStrictlySortedBy nat_cmp (keys_of entries)
    → IsStrictlySortedBy nat_cmp (keys_of (filter test entries))
unfolding IsStrictlySortedBy
rising-kept test [] rising = tt
rising-kept test (entry ∷ rest) rising =
    elim (test entry) as (λ passes. IsStrictlySortedBy nat_cmp (keys_of (cond passes (entry ∷ filter test rest) (filter test rest)))) [
      | true ↦ (all_kept (λ key. nat_cmp entry.0 key ≡ Less) test rest rising.0, rising-kept test rest rising.1)
      | false ↦ rising-kept test rest rising.1
    ]

module _ {X Z : Type 0} where
  -- what is in an entry's box, if there is one
  abbrev pub value_of : Option (Box X Z) → Option X
  value_of slot = option_map (λ boxed. boxed.value) slot

  -- there is a value where there is a box
  pub some_value : (slot : Option (Box X Z)) → is_some (value_of slot) ≡ is_some slot
  some_value None = refl
  some_value (Some boxed) = refl

  -- and none where there is none
  pub no_value : (slot : Option (Box X Z)) → is_some slot ≡ false → value_of slot ≡ None
  no_value None none = refl
  no_value (Some boxed) none = cc

  -- what holds of all numbers of entries holds of those that have a value
  all_shown : (P : ℕ → Type 0) (entries : List (ℕ × Option (Box X Z))) → AllByRecursion P (keys_of entries)
      → AllByRecursion P (keys_of (values_in entries))
  all_shown P [] all = tt
  all_shown P (entry ∷ rest) all =
      elim entry.1 as (λ slot. AllByRecursion P (keys_of (shown_before entry.0 slot (values_in rest)))) [
        | None ↦ all_shown P rest all.1
        | Some boxed ↦ (all.0, all_shown P rest all.1)
      ]

  -- the numbers of the values rise where those of the entries do
  pub rising_shown : (entries : List (ℕ × Option (Box X Z))) → IsStrictlySortedBy nat_cmp (keys_of entries)
      → IsStrictlySortedBy nat_cmp (keys_of (values_in entries))
  unfolding IsStrictlySortedBy
  rising_shown [] rising = tt
  rising_shown (entry ∷ rest) rising =
      elim entry.1 as (λ slot. IsStrictlySortedBy nat_cmp (keys_of (shown_before entry.0 slot (values_in rest)))) [
        | None ↦ rising_shown rest rising.1
        | Some boxed ↦ (all_shown (λ key. nat_cmp entry.0 key ≡ Less) rest rising.0, rising_shown rest rising.1)
      ]

  module _ (number : ℕ) where
    -- the values of entries behind that of the number are above it
    above_rest : (first : ℕ × Option (Box X Z)) (rest : List (ℕ × Option (Box X Z)))
        → IsStrictlySortedBy nat_cmp (keys_of (first ∷ rest)) → first.0 ≡ number
        → AllByRecursion (λ key. nat_cmp number key ≡ Less) (keys_of (values_in rest))
    above_rest first rest rising same =
        all_shown (λ key. nat_cmp number key ≡ Less) rest
        (subst (λ low. AllByRecursion (λ key. nat_cmp low key ≡ Less) (keys_of rest)) same
        (sorted_head nat_cmp first.0 (keys_of rest) rising))

    module _ (key : ℕ) (rest : List (ℕ × X)) where
      -- behind an entry of another number
      lookup_behind : (slot : Option (Box X Z)) → is_at (nat_cmp number) key ≡ false
          → lookup (is_at (nat_cmp number)) (shown_before key slot rest) ≡ lookup (is_at (nat_cmp number)) rest
      lookup_behind None other = refl
      lookup_behind (Some boxed) other = ap (λ passes. cond passes (Some boxed.value) (lookup (is_at (nat_cmp number)) rest)) other

      remove_behind : (slot : Option (Box X Z)) → is_at (nat_cmp number) key ≡ false
          → remove_entry (is_at (nat_cmp number)) (shown_before key slot rest)
          ≡ shown_before key slot (remove_entry (is_at (nat_cmp number)) rest)
      remove_behind None other = refl
      remove_behind (Some boxed) other =
          ap (λ passes. cond passes rest ((key, boxed.value) ∷ remove_entry (is_at (nat_cmp number)) rest)) other

      set_behind : (slot : Option (Box X Z)) (value : X) → is_at (nat_cmp number) key ≡ false
          → set_value (is_at (nat_cmp number)) (shown_before key slot rest) value
          ≡ shown_before key slot (set_value (is_at (nat_cmp number)) rest value)
      set_behind None value other = refl
      set_behind (Some boxed) value other =
          ap (λ passes. cond passes ((key, value) ∷ rest) ((key, boxed.value) ∷ set_value (is_at (nat_cmp number)) rest value)) other

      insert_behind : (slot : Option (Box X Z)) (value : X) → nat_cmp number key ≡ Greater
          → insert_entry nat_cmp (shown_before key slot rest) number value
          ≡ shown_before key slot (insert_entry nat_cmp rest number value)
      insert_behind None value greater = refl
      insert_behind (Some boxed) value greater =
          ap (λ order. match_ordering order ((number, value) ∷ (key, boxed.value) ∷ rest) ((key, value) ∷ rest)
          ((key, boxed.value) ∷ insert_entry nat_cmp rest number value)) greater

      -- at the number's own entry
      lookup_here : (slot : Option (Box X Z)) → nat_cmp number key ≡ Equal → lookup (is_at (nat_cmp number)) rest ≡ None
          → lookup (is_at (nat_cmp number)) (shown_before key slot rest) ≡ value_of slot
      lookup_here None same none = none
      lookup_here (Some boxed) same none =
          ap (λ order. cond (is_eq order) (Some boxed.value) (lookup (is_at (nat_cmp number)) rest)) same

      remove_here : (slot : Option (Box X Z)) → nat_cmp number key ≡ Equal → lookup (is_at (nat_cmp number)) rest ≡ None
          → remove_entry (is_at (nat_cmp number)) (shown_before key slot rest) ≡ rest
      remove_here None same none = absent_stays (is_at (nat_cmp number)) rest none
      remove_here (Some boxed) same none =
          ap (λ order. cond (is_eq order) rest ((key, boxed.value) ∷ remove_entry (is_at (nat_cmp number)) rest)) same

      set_here : (boxed : Box X Z) (value : X) → nat_cmp number key ≡ Equal
          → set_value (is_at (nat_cmp number)) (shown_before key (Some boxed) rest) value ≡ (key, value) ∷ rest
      set_here boxed value same =
          ap (λ order. cond (is_eq order) ((key, value) ∷ rest)
          ((key, boxed.value) ∷ set_value (is_at (nat_cmp number)) rest value)) same

      insert_here : (slot : Option (Box X Z)) (value : X) → key ≡ number
          → AllByRecursion (λ key. nat_cmp number key ≡ Less) (keys_of rest)
          → insert_entry nat_cmp (shown_before key slot rest) number value ≡ (number, value) ∷ rest
      insert_here None value same above = insert_above number rest value above
      insert_here (Some boxed) value same above =
          ap (λ order. match_ordering order ((number, value) ∷ (key, boxed.value) ∷ rest) ((key, value) ∷ rest)
          ((key, boxed.value) ∷ insert_entry nat_cmp rest number value)) (here number key same)
          ∙ ap (λ key. (key, value) ∷ rest) same

      -- before an entry of a higher number
      insert_before : (slot : Option (Box X Z)) (value : X) → nat_cmp number key ≡ Less
          → AllByRecursion (λ key. nat_cmp number key ≡ Less) (keys_of rest)
          → insert_entry nat_cmp (shown_before key slot rest) number value ≡ (number, value) ∷ shown_before key slot rest
      insert_before None value less above = insert_above number rest value above
      insert_before (Some boxed) value less above =
          ap (λ order. match_ordering order ((number, value) ∷ (key, boxed.value) ∷ rest) ((key, value) ∷ rest)
          ((key, boxed.value) ∷ insert_entry nat_cmp rest number value)) less

    -- what is found of a number is what its entry has
    pub lookup-entry : (place : ℕ) (entry : ℕ × Option (Box X Z)) (entries : List (ℕ × Option (Box X Z)))
        → IsStrictlySortedBy nat_cmp (keys_of entries) → place < length entries → HoldsAt (λ entry. entry.0 ≡ number) entries place
        → entry ≡ get_or entries place entry → lookup (is_at (nat_cmp number)) (values_in entries) ≡ value_of entry.1
    lookup-entry place entry [] rising within found stands = absurd (omega arith)
    lookup-entry zero entry (first ∷ rest) rising within found stands =
        lookup_here first.0 (values_in rest) first.1 (here number first.0 (found entry))
        (lookup_above number (values_in rest) (above_rest first rest rising (found entry)))
        ∙ ap (λ entry. value_of entry.1) (sym stands)
    lookup-entry (suc place) entry (first ∷ rest) rising within found stands =
        lookup_behind first.0 (values_in rest) first.1
        (off number first.0 (omega (arith, first_below first rest place entry rising (omega arith), found entry)))
        ∙ lookup-entry place entry rest (rising_rest first rest rising) (omega arith) found stands

    -- where its entry loses its value, or goes, the number is removed
    pub empty-entry : (place : ℕ) (default : ℕ × Option (Box X Z)) (entries : List (ℕ × Option (Box X Z))) (key : ℕ)
        → IsStrictlySortedBy nat_cmp (keys_of entries) → place < length entries → HoldsAt (λ entry. entry.0 ≡ number) entries place
        → values_in (set entries place (key, None)) ≡ remove_entry (is_at (nat_cmp number)) (values_in entries)
    empty-entry place default [] key rising within found = absurd (omega arith)
    empty-entry zero default (first ∷ rest) key rising within found =
        sym (remove_here first.0 (values_in rest) first.1 (here number first.0 (found default))
        (lookup_above number (values_in rest) (above_rest first rest rising (found default))))
    empty-entry (suc place) default (first ∷ rest) key rising within found =
        ap (shown_before first.0 first.1) (empty-entry place default rest key (rising_rest first rest rising) (omega arith) found)
        ∙ sym (remove_behind first.0 (values_in rest) first.1
        (off number first.0 (omega (arith, first_below first rest place default rising (omega arith), found default))))

    pub drop-entry : (place : ℕ) (default : ℕ × Option (Box X Z)) (entries : List (ℕ × Option (Box X Z)))
        → IsStrictlySortedBy nat_cmp (keys_of entries) → place < length entries → HoldsAt (λ entry. entry.0 ≡ number) entries place
        → values_in (remove entries place) ≡ remove_entry (is_at (nat_cmp number)) (values_in entries)
    drop-entry place default [] rising within found = absurd (omega arith)
    drop-entry zero default (first ∷ rest) rising within found =
        sym (remove_here first.0 (values_in rest) first.1 (here number first.0 (found default))
        (lookup_above number (values_in rest) (above_rest first rest rising (found default))))
    drop-entry (suc place) default (first ∷ rest) rising within found =
        ap (shown_before first.0 first.1) (drop-entry place default rest (rising_rest first rest rising) (omega arith) found)
        ∙ sym (remove_behind first.0 (values_in rest) first.1
        (off number first.0 (omega (arith, first_below first rest place default rising (omega arith), found default))))

    -- another value in its entry is another value of the number
    pub change-entry : (place : ℕ) (old : Box X Z) (key : ℕ) (boxed : Box X Z) (entries : List (ℕ × Option (Box X Z)))
        → key ≡ number → IsStrictlySortedBy nat_cmp (keys_of entries) → place < length entries
        → HoldsAt (λ entry. entry.0 ≡ number) entries place
        → ((default : ℕ × Option (Box X Z)) → (get_or entries place default).1 ≡ Some old)
        → values_in (set entries place (key, Some boxed)) ≡ set_value (is_at (nat_cmp number)) (values_in entries) boxed.value
    change-entry place old key boxed [] same rising within found had = absurd (omega arith)
    change-entry zero old key boxed (first ∷ rest) same rising within found had =
        ap (λ key. (key, boxed.value) ∷ values_in rest) (same ∙ sym (found first))
        ∙ sym (ap (λ slot. set_value (is_at (nat_cmp number)) (shown_before first.0 slot (values_in rest)) boxed.value) (had first)
        ∙ set_here first.0 (values_in rest) old boxed.value (here number first.0 (found first)))
    change-entry (suc place) old key boxed (first ∷ rest) same rising within found had =
        ap (shown_before first.0 first.1)
        (change-entry place old key boxed rest same (rising_rest first rest rising) (omega arith) found had)
        ∙ sym (set_behind first.0 (values_in rest) first.1 boxed.value
        (off number first.0 (omega (arith, first_below first rest place (key, Some boxed) rising (omega arith), found (key, Some boxed)))))

    -- a value that comes into the number's entry is inserted
    pub fill-entry : (place : ℕ) (key : ℕ) (boxed : Box X Z) (entries : List (ℕ × Option (Box X Z)))
        → key ≡ number → IsStrictlySortedBy nat_cmp (keys_of entries) → place < length entries
        → HoldsAt (λ entry. entry.0 ≡ number) entries place
        → values_in (set entries place (key, Some boxed)) ≡ insert_entry nat_cmp (values_in entries) number boxed.value
    fill-entry place key boxed [] same rising within found = absurd (omega arith)
    fill-entry zero key boxed (first ∷ rest) same rising within found =
        ap (λ key. (key, boxed.value) ∷ values_in rest) same
        ∙ sym (insert_here first.0 (values_in rest) first.1 boxed.value (found first) (above_rest first rest rising (found first)))
    fill-entry (suc place) key boxed (first ∷ rest) same rising within found =
        ap (shown_before first.0 first.1) (fill-entry place key boxed rest same (rising_rest first rest rising) (omega arith) found)
        ∙ sym (insert_behind first.0 (values_in rest) first.1 boxed.value (behind number first.0
        (omega (arith, first_below first rest place (key, Some boxed) rising (omega arith), found (key, Some boxed)))))

    -- so is one that comes with an entry of its own, between lower and higher numbers
    above_all : (entries : List (ℕ × Option (Box X Z)))
        → ((at : ℕ) (default : ℕ × Option (Box X Z)) → at < length entries → number < (get_or entries at default).0)
        → AllByRecursion (λ key. nat_cmp number key ≡ Less) (keys_of entries)
    above_all [] higher = tt
    above_all (first ∷ rest) higher =
        (before number first.0 (higher 0 first (omega arith)), above_all rest (λ at default within. higher (suc at) default (omega arith)))

    pub new-entry : (place : ℕ) (boxed : Box X Z) (entries : List (ℕ × Option (Box X Z))) → place ≤ length entries
        → ((at : ℕ) (default : ℕ × Option (Box X Z)) → at < place → (get_or entries at default).0 < number)
        → ((at : ℕ) (default : ℕ × Option (Box X Z)) → place ≤ at → at < length entries → number < (get_or entries at default).0)
        → values_in (insert entries place (number, Some boxed)) ≡ insert_entry nat_cmp (values_in entries) number boxed.value
    new-entry zero boxed [] within lower higher = refl
    new-entry (suc place) boxed [] within lower higher = absurd (omega arith)
    new-entry zero boxed (first ∷ rest) within lower higher =
        let above = above_all (first ∷ rest) (λ at default within. higher at default (omega arith) within) in
        sym (insert_before first.0 (values_in rest) first.1 boxed.value above.0
        (all_shown (λ key. nat_cmp number key ≡ Less) rest above.1))
    new-entry (suc place) boxed (first ∷ rest) within lower higher =
        ap (shown_before first.0 first.1)
        (new-entry place boxed rest (omega arith) (λ at default before. lower (suc at) default (omega arith))
        (λ at default from within. higher (suc at) default (omega arith) (omega arith)))
        ∙ sym (insert_behind first.0 (values_in rest) first.1 boxed.value (behind number first.0 (lower 0 first (omega arith))))

    -- a number without an entry has no value
    lookup_nowhere : (entries : List (ℕ × Option (Box X Z)))
        → ((place : ℕ) (default : ℕ × Option (Box X Z)) → place < length entries → (get_or entries place default).0 ≢ number)
        → lookup (is_at (nat_cmp number)) (values_in entries) ≡ None
    lookup_nowhere [] nowhere = refl
    lookup_nowhere (first ∷ rest) nowhere =
        lookup_behind first.0 (values_in rest) first.1 (not_number number first.0 (λ same. nowhere 0 first (omega arith) (sym same)))
        ∙ lookup_nowhere rest (λ place default within. nowhere (suc place) default (omega arith))

    pub found-nowhere : (entries : List (ℕ × Option (Box X Z))) → IsStrictlySortedBy nat_cmp (keys_of entries) → (answer : Result ℕ ℕ)
        → IsBinarySearchResult (λ entry. nat_cmp entry.0 number) entries answer
        → IfNone (result_ok answer) (lookup (is_at (nat_cmp number)) (values_in entries) ≡ None)
    found-nowhere entries rising (Ok place) equal = tt
    found-nowhere entries rising (Err place) parted = lookup_nowhere entries (λ at default within same. elim (cases_lt at place) [
      | inl before ↦ omega (arith, lower-before number entries rising place parted at default before)
      | inr from ↦ omega (arith, higher-from number entries rising place parted at default from within)
    ])

  shown_at : (slot : Option (Box X Z)) (key : ℕ) (rest kept : List (ℕ × Option (Box X Z))) → values_in kept ≡ values_in rest
      → values_in (cond (is_some slot) ((key, slot) ∷ kept) kept) ≡ shown_before key slot (values_in rest)
  shown_at None key rest kept same = same
  shown_at (Some boxed) key rest kept same = ap (λ values. (key, boxed.value) ∷ values) same

  -- entries without values show nothing: without them the values are the same
  pub shown-kept : (entries : List (ℕ × Option (Box X Z))) → values_in (filter (λ entry. is_some entry.1) entries) ≡ values_in entries
  shown-kept [] = refl
  shown-kept (entry ∷ rest) = shown_at entry.1 entry.0 rest (filter (λ entry. is_some entry.1) rest) (shown-kept rest)

  shown_few : (slot : Option (Box X Z)) (key count : ℕ) (rest : List (ℕ × X)) → length rest ≤ count
      → length (shown_before key slot rest) ≤ count + 1
  shown_few None key count rest few = omega (arith, few)
  shown_few (Some boxed) key count rest few = omega (arith, few)

  -- there are at most as many values as entries
  pub shown-few : (entries : List (ℕ × Option (Box X Z))) → length (values_in entries) ≤ length entries
  shown-few [] = omega arith
  shown-few (entry ∷ rest) =
      let few : length (shown_before entry.0 entry.1 (values_in rest)) ≤ length rest + 1
      = shown_few entry.1 entry.0 (length rest) (values_in rest) (shown-few rest) in
      omega (arith, few)
