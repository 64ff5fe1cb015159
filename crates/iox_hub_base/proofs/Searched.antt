-- What a search by number tells of values by rising number.
use Rattle.std.proofs.Common.{ℕ, suc, ◌≡◌, ◌≢◌, ◌<◌, List, [], ◌∷◌, length, map, get_or, Result, Ok, Err, None, inl, inr, refl, sym}
use Rattle.std.proofs.Common.{arith}
use Rattle.std.proofs.lemmas.Bool.{cases_lt}
use Rattle.std.specs.BTreeMap.{is_at}
use Rattle.std.specs.List.Sorted.{IsStrictlySortedBy, IsBinarySearchResult}
use Rattle.std.specs.Map.{keys_of, lookup}
use Rattle.std.specs.Ordering.{nat_cmp}
use Rattle.std.specs.Prelude.{IfNone}
use Rattle.std.specs.Result.{result_ok}
use Rattle.iox_container.proofs.Numbers.{higher-from, lower-before, not_number}

module _ {V X : Type 0} (value : V → X) where
  -- a number that stands at no place has no value
  lookup-nowhere : (number : ℕ) (entries : List (ℕ × V))
      → ((place : ℕ) (default : ℕ × V) → place < length entries → (get_or entries place default).0 ≢ number)
      → lookup (is_at (nat_cmp number)) (map (λ entry. (entry.0, value entry.1)) entries) ≡ None
  lookup-nowhere number [] nowhere = refl
  lookup-nowhere number (first ∷ rest) nowhere =
      rw (not_number number first.0 (λ same. nowhere 0 first (omega arith) (sym same)))
      (lookup-nowhere number rest (λ place default within. nowhere (suc place) default (omega arith)))

  module _ (number : ℕ) (entries : List (ℕ × V)) (rising : IsStrictlySortedBy nat_cmp (keys_of entries)) where
    -- where none was found there is none
    pub found-nowhere : (answer : Result ℕ ℕ) → IsBinarySearchResult (λ entry. nat_cmp entry.0 number) entries answer
        → IfNone (result_ok answer) (lookup (is_at (nat_cmp number)) (map (λ entry. (entry.0, value entry.1)) entries) ≡ None)
    found-nowhere (Ok place) equal = tt
    found-nowhere (Err place) parted = lookup-nowhere number entries (λ at default within same. elim (cases_lt at place) [
      | inl before ↦ omega (arith, lower-before number entries rising place parted at default before)
      | inr from ↦ omega (arith, higher-from number entries rising place parted at default from within)
    ])
