-- What a search by number finds among entries that rise.
use Rattle.std.proofs.Common.{◌≡◌, ℕ, ◌≤◌, List, get_or, None, Result, Ok, Err, inl, inr, arith}
use Rattle.std.specs.Prelude.{nat_eq, IfSome, IfNone}
use Rattle.std.specs.List.{HoldsAt}
use Rattle.std.specs.List.Sorted.{IsBinarySearchResult, IsNonDecreasingBy}
use Rattle.std.specs.Map.{lookup}
use Rattle.std.specs.Ordering.{nat_cmp, ordering_index}
use Rattle.std.specs.Result.{result_ok}
use Rattle.std.proofs.lemmas.Bool.{cases_lt}
use Rattle.std.proofs.lemmas.Bool.Decides.{nat_tests}
use Rattle.iox_container.specs.NumberTable.{Rises}
use Rattle.iox_container.proofs.Rising.{numbers_rise, lookup-nowhere}

module _ {V : Type 0} (number next : ℕ) (entries : List (ℕ × V)) (rises : Rises 1 entries next) where
  comparisons_rise : IsNonDecreasingBy (λ entry. ordering_index (nat_cmp entry.0 number)) entries
  comparisons_rise i j default le within =
      let numbers : (get_or entries i default).0 ≤ (get_or entries j default).0 = numbers_rise 1 next entries rises i j default le within in
      grind (arith, nat_tests)

  -- at the place that was found stands the number
  pub found-at : (answer : Result ℕ ℕ) → IsBinarySearchResult (λ entry. nat_cmp entry.0 number) entries answer
      → IfSome (result_ok answer) (λ place. HoldsAt (λ entry. entry.0 ≡ number) entries place)
  found-at (Ok place) equal = λ default. let here = equal default in grind (arith, nat_tests)
  found-at (Err place) parted = tt

  -- where none was found there is none
  pub found-nowhere : (answer : Result ℕ ℕ) → IsBinarySearchResult (λ entry. nat_cmp entry.0 number) entries answer
      → IfNone (result_ok answer) (lookup (nat_eq number) entries ≡ None)
  found-nowhere (Ok place) equal = tt
  found-nowhere (Err place) parted = lookup-nowhere number entries (λ at default within same. elim (cases_lt at place) [
    | inl before ↦ (let less = (parted comparisons_rise).0 at default (omega arith) before in grind (arith, nat_tests))
    | inr behind ↦ (let greater = (parted comparisons_rise).1 at default behind within in grind (arith, nat_tests))
  ])
