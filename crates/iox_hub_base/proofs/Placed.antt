-- Values by rising number: what stands at a place, comes there and goes from there.
use Rattle.std.proofs.Common.{ℕ, zero, suc, ◌≡◌, ◌<◌, ◌≤◌, List, [], ◌∷◌, length, get_or, map, set, cond, Some, sym, ap, ◌∙◌, refl}
use Rattle.std.proofs.Common.{arith}
use Rattle.std.specs.BTreeMap.{insert_entry, is_at}
use Rattle.std.specs.Cmp.{nat_cmp_is}
use Rattle.std.specs.List.{HoldsAt, insert, remove}
use Rattle.std.specs.List.Sorted.{IsStrictlySortedBy}
use Rattle.std.specs.Map.{keys_of, lookup, remove_entry}
use Rattle.std.specs.Ordering.{nat_cmp, is_eq, match_ordering}
use Rattle.std.specs.declared.cmp.Ordering.TheVariants.{Less}
use Rattle.iox_container.proofs.Numbers.{behind, first_below, here, rising_rest}

module _ {V X : Type 0} (value : V → X) where
  -- what is seen of values under numbers
  abbrev seen : List (ℕ × V) → List (ℕ × X)
  seen entries = map (λ entry. (entry.0, value entry.1)) entries

  module _ (number : ℕ) where
    -- what stands at the place of its number is found
    pub lookup-place : (place : ℕ) (entry : ℕ × V) (entries : List (ℕ × V)) → IsStrictlySortedBy nat_cmp (keys_of entries)
        → place < length entries → HoldsAt (λ entry. entry.0 ≡ number) entries place → entry ≡ get_or entries place entry
        → lookup (is_at (nat_cmp number)) (seen entries) ≡ Some (value entry.1)
    lookup-place place entry [] rising within found stands = absurd (omega arith)
    lookup-place zero entry (first ∷ rest) rising within found stands =
        ap (λ order. cond (is_eq order) (Some (value first.1)) (lookup (is_at (nat_cmp number)) (seen rest)))
        (here number first.0 (found entry)) ∙ ap (λ entry. Some (value entry.1)) (sym stands)
    lookup-place (suc place) entry (first ∷ rest) rising within found stands =
        ap (λ order. cond (is_eq order) (Some (value first.1)) (lookup (is_at (nat_cmp number)) (seen rest)))
        (behind number first.0 (omega (arith, first_below first rest place entry rising (omega arith), found entry)))
        ∙ lookup-place place entry rest (rising_rest first rest rising) (omega arith) found stands

    -- it goes from there when its number goes
    pub remove-place : (place : ℕ) (default : ℕ × V) (entries : List (ℕ × V)) → IsStrictlySortedBy nat_cmp (keys_of entries)
        → place < length entries → HoldsAt (λ entry. entry.0 ≡ number) entries place
        → seen (remove entries place) ≡ remove_entry (is_at (nat_cmp number)) (seen entries)
    remove-place place default [] rising within found = absurd (omega arith)
    remove-place zero default (first ∷ rest) rising within found =
        sym (ap (λ order. cond (is_eq order) (seen rest)
        ((first.0, value first.1) ∷ remove_entry (is_at (nat_cmp number)) (seen rest))) (here number first.0 (found default)))
    remove-place (suc place) default (first ∷ rest) rising within found =
        ap (λ rest. (first.0, value first.1) ∷ rest) (remove-place place default rest (rising_rest first rest rising) (omega arith) found)
        ∙ sym (ap (λ order. cond (is_eq order) (seen rest)
        ((first.0, value first.1) ∷ remove_entry (is_at (nat_cmp number)) (seen rest)))
        (behind number first.0 (omega (arith, first_below first rest place default rising (omega arith), found default))))

    -- another value there is what is inserted under its number
    pub replace-place : (place : ℕ) (after : ℕ × V) (entries : List (ℕ × V)) → after.0 ≡ number
        → IsStrictlySortedBy nat_cmp (keys_of entries) → place < length entries → HoldsAt (λ entry. entry.0 ≡ number) entries place
        → seen (set entries place after) ≡ insert_entry nat_cmp (seen entries) number (value after.1)
    replace-place place after [] same rising within found = absurd (omega arith)
    replace-place zero after (first ∷ rest) same rising within found =
        ap (λ key. (key, value after.1) ∷ seen rest) (same ∙ sym (found after))
        ∙ sym (ap (λ order. match_ordering order ((number, value after.1) ∷ seen (first ∷ rest))
        ((first.0, value after.1) ∷ seen rest)
        ((first.0, value first.1) ∷ insert_entry nat_cmp (seen rest) number (value after.1))) (here number first.0 (found after)))
    replace-place (suc place) after (first ∷ rest) same rising within found =
        ap (λ rest. (first.0, value first.1) ∷ rest) (replace-place place after rest same
        (rising_rest first rest rising) (omega arith) found)
        ∙ sym (ap (λ order. match_ordering order ((number, value after.1) ∷ seen (first ∷ rest))
        ((first.0, value after.1) ∷ seen rest)
        ((first.0, value first.1) ∷ insert_entry nat_cmp (seen rest) number (value after.1)))
        (behind number first.0 (omega (arith, first_below first rest place after rising (omega arith), found after))))

    -- what comes between lower and higher numbers is inserted under its own
    pub insert-place : (place : ℕ) (boxed : V) (entries : List (ℕ × V)) → place ≤ length entries
        → ((at : ℕ) (default : ℕ × V) → at < place → (get_or entries at default).0 < number)
        → ((at : ℕ) (default : ℕ × V) → place ≤ at → at < length entries → number < (get_or entries at default).0)
        → seen (insert entries place (number, boxed)) ≡ insert_entry nat_cmp (seen entries) number (value boxed)
    insert-place zero boxed [] within lower higher = refl
    insert-place (suc place) boxed [] within lower higher = absurd (omega arith)
    insert-place zero boxed (first ∷ rest) within lower higher =
        sym (ap (λ order. match_ordering order ((number, value boxed) ∷ seen (first ∷ rest)) ((first.0, value boxed) ∷ seen rest)
        ((first.0, value first.1) ∷ insert_entry nat_cmp (seen rest) number (value boxed)))
        (sym (nat_cmp_is number first.0 Less (higher 0 first (omega arith) (omega arith)))))
    insert-place (suc place) boxed (first ∷ rest) within lower higher =
        ap (λ rest. (first.0, value first.1) ∷ rest)
        (insert-place place boxed rest (omega arith) (λ at default before. lower (suc at) default (omega arith))
        (λ at default from within. higher (suc at) default (omega arith) (omega arith)))
        ∙ sym (ap (λ order. match_ordering order ((number, value boxed) ∷ seen (first ∷ rest))
        ((first.0, value boxed) ∷ seen rest) ((first.0, value first.1) ∷ insert_entry nat_cmp (seen rest) number (value boxed)))
        (behind number first.0 (lower 0 first (omega arith))))
