-- Entries in the order of their numbers: what a search finds, and what adding or removing an entry changes.
use Rattle.std.proofs.Common.{◌≡◌, ◌≢◌, ℕ, zero, suc, ◌+◌, ◌<◌, ◌≤◌, List, [], ◌∷◌, ◌++◌, length, get_or, set, cond, true, false, Some}
use Rattle.std.proofs.Common.{None, refl, sym, ap, ◌∙◌, arith}
use Rattle.std.specs.Prelude.{nat_eq}
use Rattle.std.specs.List.{remove}
use Rattle.std.specs.Map.{lookup, remove_entry, set_value}
use Rattle.std.proofs.lemmas.Bool.Decides.{nat_tests}
use Rattle.iox_container.specs.NumberTable.{Rises}

module _ {V : Type 0} where
  -- what rises from a number on rises from any below it
  pub Rises-lower : (low high next : ℕ) (entries : List (ℕ × V)) → low ≤ high → Rises high entries next → Rises low entries next
  Rises-lower low high next [] below rises = omega arith
  Rises-lower low high next (entry ∷ rest) below rises = (omega (arith, rises.0), rises.1)

  -- and ends below any number above its end
  pub Rises-higher : (low next more : ℕ) (entries : List (ℕ × V)) → next ≤ more → Rises low entries next → Rises low entries more
  Rises-higher low next more [] above rises = omega arith
  Rises-higher low next more (entry ∷ rest) above rises = (rises.0, Rises-higher (entry.0 + 1) next more rest above rises.1)

  -- where entries rise from is not above where they end
  pub Rises-le : (low next : ℕ) (entries : List (ℕ × V)) → Rises low entries next → low ≤ next
  Rises-le low next [] rises = rises
  Rises-le low next (entry ∷ rest) rises = omega (arith, rises.0, Rises-le (entry.0 + 1) next rest rises.1)

  -- entries that rise, and after them entries that rise from where they end
  pub Rises-append : (low middle next : ℕ) (front back : List (ℕ × V)) → Rises low front middle → Rises middle back next
      → Rises low (front ++ back) next
  Rises-append low middle next [] back front_rises back_rises = Rises-lower low middle next back front_rises back_rises
  Rises-append low middle next (entry ∷ front) back front_rises back_rises
      = (front_rises.0, Rises-append (entry.0 + 1) middle next front back front_rises.1 back_rises)

  -- a value more, under the number at which they end
  pub Rises-push : (low next : ℕ) (entries : List (ℕ × V)) (value : V) → Rises low entries next
      → Rises low (entries ++ (next, value) ∷ []) (next + 1)
  Rises-push low next entries value rises = Rises-append low next (next + 1) entries ((next, value) ∷ []) rises (omega arith, omega arith)

  -- what is removed leaves the others rising
  pub Rises-removed : (number low next : ℕ) (entries : List (ℕ × V)) → Rises low entries next
      → Rises low (remove_entry (nat_eq number) entries) next
  Rises-removed number low next [] rises = rises
  Rises-removed number low next (entry ∷ rest) rises =
      elim (nat_eq number entry.0) as (λ same. Rises low (cond same rest (entry ∷ remove_entry (nat_eq number) rest)) next) [
        | true ↦ Rises-lower low (entry.0 + 1) next rest (omega (arith, rises.0)) rises.1
        | false ↦ (rises.0, Rises-removed number (entry.0 + 1) next rest rises.1)
      ]

  -- another value under a number leaves them rising
  pub Rises-set_value : (number low next : ℕ) (value : V) (entries : List (ℕ × V)) → Rises low entries next
      → Rises low (set_value (nat_eq number) entries value) next
  Rises-set_value number low next value [] rises = rises
  Rises-set_value number low next value (entry ∷ rest) rises =
      elim (nat_eq number entry.0) as (λ same. Rises low
      (cond same ((entry.0, value) ∷ rest) (entry ∷ set_value (nat_eq number) rest value)) next) [
        | true ↦ rises
        | false ↦ (rises.0, Rises-set_value number (entry.0 + 1) next value rest rises.1)
      ]

  -- a number below the first is nowhere
  pub lookup-below : (number low next : ℕ) (entries : List (ℕ × V)) → Rises low entries next → number < low
      → lookup (nat_eq number) entries ≡ None
  lookup-below number low next [] rises below = refl
  lookup-below number low next (entry ∷ rest) rises below =
      grind (arith, nat_tests, rises.0, lookup-below number (entry.0 + 1) next rest rises.1 (omega (arith, rises.0)))

  -- nor is one from the end on
  pub lookup-above : (number low next : ℕ) (entries : List (ℕ × V)) → Rises low entries next → next ≤ number
      → lookup (nat_eq number) entries ≡ None
  lookup-above number low next [] rises above = refl
  lookup-above number low next (entry ∷ rest) rises above =
      grind (arith, nat_tests, Rises-le (entry.0 + 1) next rest rises.1, lookup-above number (entry.0 + 1) next rest rises.1 above)

  -- each number is at least what they rise from
  pub number-from : (low next place : ℕ) (entries : List (ℕ × V)) (default : ℕ × V) → Rises low entries next → place < length entries
      → low ≤ (get_or entries place default).0
  number-from low next place [] default rises within = absurd (omega arith)
  number-from low next zero (entry ∷ rest) default rises within = rises.0
  number-from low next (suc place) (entry ∷ rest) default rises within =
      omega (arith, rises.0, number-from (entry.0 + 1) next place rest default rises.1 (omega arith))

  -- a number at a later place is not lower
  pub numbers_rise : (low next : ℕ) (entries : List (ℕ × V)) → Rises low entries next → (i j : ℕ) (default : ℕ × V) → i ≤ j
      → j < length entries
      → (get_or entries i default).0 ≤ (get_or entries j default).0
  numbers_rise low next [] rises i j default le within = absurd (omega arith)
  numbers_rise low next (entry ∷ rest) rises zero zero default le within = omega arith
  numbers_rise low next (entry ∷ rest) rises zero (suc j) default le within
      = omega (arith, number-from (entry.0 + 1) next j rest default rises.1 (omega arith))
  numbers_rise low next (entry ∷ rest) rises (suc i) zero default le within = absurd (omega arith)
  numbers_rise low next (entry ∷ rest) rises (suc i) (suc j) default le within
      = numbers_rise (entry.0 + 1) next rest rises.1 i j default (omega arith) (omega arith)

  -- a number that stands at no place isn't found
  pub lookup-nowhere : (number : ℕ) (entries : List (ℕ × V))
      → ((place : ℕ) (default : ℕ × V) → place < length entries → (get_or entries place default).0 ≢ number)
      → lookup (nat_eq number) entries ≡ None
  lookup-nowhere number [] nowhere = refl
  lookup-nowhere number (entry ∷ rest) nowhere =
      let apart : entry.0 ≢ number = nowhere 0 entry (omega arith) in
      let later : lookup (nat_eq number) rest ≡ None
      = lookup-nowhere number rest (λ place default within. nowhere (suc place) default (omega arith)) in
      grind (arith, nat_tests, apart, later)

  module _ (number : ℕ) (entry : ℕ × V) (same : entry.0 ≡ number) where
    -- an entry after another has a number above that
    later-apart : (first : ℕ × V) (next place : ℕ) (rest : List (ℕ × V)) → Rises (first.0 + 1) rest next → place < length rest
        → entry ≡ get_or rest place entry → first.0 < number
    later-apart first next place rest rises within here =
        omega (arith, number-from (first.0 + 1) next place rest entry rises within, ap (λ e. e.0) here)

    -- what stands at a place is found under its number
    pub lookup-place : (low next place : ℕ) (entries : List (ℕ × V)) → Rises low entries next → place < length entries
        → entry ≡ get_or entries place entry
        → lookup (nat_eq number) entries ≡ Some entry.1
    lookup-place low next place [] rises within here = absurd (omega arith)
    lookup-place low next zero (first ∷ rest) rises within here =
        let number_is : first.0 ≡ number = sym (ap (λ e. e.0) here) ∙ same in
        let value_is : entry.1 ≡ first.1 = ap (λ e. e.1) here in
        grind (arith, nat_tests)
    lookup-place low next (suc place) (first ∷ rest) rises within here =
        let later : lookup (nat_eq number) rest ≡ Some entry.1 = lookup-place (first.0 + 1) next place rest rises.1 (omega arith) here in
        let apart : first.0 < number = later-apart first next place rest rises.1 (omega arith) here in
        grind (arith, nat_tests)

    -- and goes from there when its number goes
    pub remove-place : (low next place : ℕ) (entries : List (ℕ × V)) → Rises low entries next → place < length entries
        → entry ≡ get_or entries place entry
        → remove entries place ≡ remove_entry (nat_eq number) entries
    remove-place low next place [] rises within here = absurd (omega arith)
    remove-place low next zero (first ∷ rest) rises within here =
        let number_is : first.0 ≡ number = sym (ap (λ e. e.0) here) ∙ same in
        grind (arith, nat_tests)
    remove-place low next (suc place) (first ∷ rest) rises within here =
        let later : remove rest place ≡ remove_entry (nat_eq number) rest
        = remove-place (first.0 + 1) next place rest rises.1 (omega arith) here in
        let apart : first.0 < number = later-apart first next place rest rises.1 (omega arith) here in
        grind (arith, nat_tests)

    -- another value at its place is another value under its number
    pub set-place : (low next place : ℕ) (value : V) (entries : List (ℕ × V)) → Rises low entries next → place < length entries
        → entry ≡ get_or entries place entry
        → set entries place (entry.0, value) ≡ set_value (nat_eq number) entries value
    set-place low next place value [] rises within here = absurd (omega arith)
    set-place low next zero value (first ∷ rest) rises within here =
        let number_is : first.0 ≡ number = sym (ap (λ e. e.0) here) ∙ same in
        let like : entry.0 ≡ first.0 = ap (λ e. e.0) here in
        grind (arith, nat_tests)
    set-place low next (suc place) value (first ∷ rest) rises within here =
        let later : set rest place (entry.0, value) ≡ set_value (nat_eq number) rest value
        = set-place (first.0 + 1) next place value rest rises.1 (omega arith) here in
        let apart : first.0 < number = later-apart first next place rest rises.1 (omega arith) here in
        grind (arith, nat_tests)
