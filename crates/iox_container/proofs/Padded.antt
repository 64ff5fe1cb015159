-- Lists of places that end with empty places: what a change of an earlier cell results in, and which place is the lowest empty one.
use Rattle.std.proofs.Common.{ℕ, zero, suc, ◌≡◌, ◌+◌, ◌-◌, ◌<◌, ◌≤◌, ◌∷◌, ◌++◌, [], List, Bool, true, false, not, cond, length, replicate}
use Rattle.std.proofs.Common.{Option, None, Some, is_some, arith, refl, sym, ap, ◌∙◌, nat_lt}
use Rattle.std.proofs.Math.ListN.{set}
use Rattle.std.specs.List.{prefix_len, cons_option}
use Rattle.std.proofs.lemmas.List.{length-append, length-replicate, length-set, set-append_left}
use Rattle.std.proofs.lemmas.List.Sums.{prefix_len-le-length}
use Rattle.std.proofs.lemmas.Bool.Decides.{nat_tests}
use Rattle.std.proofs.lemmas.Option.{cond_some}
use Rattle.iox_container.specs.CountedPlaces.{padded, lowest_empty}
use Rattle.iox_container.specs.Recovery.{asked_from}

-- empty places are the first that are empty
none-first : (C : Type 0) (n : ℕ) → prefix_len {X = Option C} (λ place. not (not (is_some place))) (replicate n None) ≡ 0
none-first C zero = refl
none-first C (suc n) = refl

-- the index of the first of n, if that is one of them
abbrev found : ℕ → ℕ → Option ℕ
found index count = cond (nat_lt index count) (Some index) None

found-some : (first count index : ℕ) → found first count ≡ Some index → (first < count) × (first ≡ index)
found-some first count index is =
    let parts = cond_some (nat_lt first count) first index is in (grind (arith, nat_tests, parts.0), parts.1)

none-some : (b : Bool) (x : ℕ) → cond b (Some x) None ≡ None → b ≡ false
none-some true x is = cc
none-some false x is = refl

found-none : (first count : ℕ) → found first count ≡ None → count ≤ first
found-none first count is =
    let no = none-some (nat_lt first count) first is in grind (arith, nat_tests)

found-below : (first count index : ℕ) → first ≡ index → index < count → found first count ≡ Some index
found-below first count index same less =
    let yes : nat_lt first count ≡ true = grind (arith, nat_tests) in rw (yes, same) refl

module _ {C : Type 0} where
  -- there are as many places as were asked for
  length-padded : (count : ℕ) (cells : List (Option C)) → length cells ≤ count → length (padded count cells) ≡ count
  length-padded count cells fits =
      omega (
        arith,
        length-append cells (replicate (count - length cells) None),
        length-replicate {A = Option C} (count - length cells)
            None,
      )

  none-emptied : (n index : ℕ) → set {A = Option C} (replicate n None) index None ≡ replicate n None
  none-emptied zero index = refl
  none-emptied (suc n) zero = refl
  none-emptied (suc n) (suc index) = ap (λ (cells : List (Option C)). None ∷ cells) (none-emptied n index)

  emptied-append : (cells : List (Option C)) (n index : ℕ)
      → set (cells ++ replicate n None) index None ≡ set cells index None ++ replicate n None
  emptied-append [] n index = none-emptied n index
  emptied-append (cell ∷ cells) n zero = refl
  emptied-append (cell ∷ cells) n (suc index) = ap (λ (rest : List (Option C)). cell ∷ rest) (emptied-append cells n index)

  -- a place is emptied
  pub emptied-padded : (count : ℕ) (cells : List (Option C)) (index : ℕ)
      → set (padded count cells) index None ≡ padded count (set cells index None)
  emptied-padded count cells index =
      emptied-append cells (count - length cells) index
      ∙ ap (λ (n : ℕ). set cells index None ++ replicate (count - n) None) (sym (length-set cells index None))

  -- a place that has a cell is filled
  pub filled-padded : (count : ℕ) (cells : List (Option C)) (index : ℕ) (content : C) → index < length cells
      → set (padded count cells) index (Some content) ≡ padded count (set cells index (Some content))
  filled-padded count cells index content less =
      set-append_left cells (replicate (count - length cells) None) index (Some content) less
      ∙ ap (λ (n : ℕ). set cells index (Some content) ++ replicate (count - n) None) (sym (length-set cells index (Some content)))

  filled-append : (cells : List (Option C)) (n : ℕ) (content : C)
      → set (cells ++ replicate (suc n) None) (length cells) (Some content) ≡ (cells ++ Some content ∷ []) ++ replicate n None
  filled-append [] n content = refl
  filled-append (cell ∷ cells) n content = ap (λ (rest : List (Option C)). cell ∷ rest) (filled-append cells n content)

  -- the first place that has no cell is filled
  pub next-padded : (count : ℕ) (cells : List (Option C)) (content : C) → length cells < count
      → set (padded count cells) (length cells) (Some content) ≡ padded count (cells ++ Some content ∷ [])
  next-padded count cells content less =
      let left = count - (length cells + 1) in
      let more : count - length cells ≡ suc left = omega arith in
      let fewer : count - length (cells ++ Some content ∷ []) ≡ left = omega (arith, length-append cells (Some content ∷ [])) in
      ap (λ (n : ℕ). set (cells ++ replicate n None) (length cells) (Some content)) more
      ∙ filled-append cells left content
      ∙ ap (λ (n : ℕ). (cells ++ Some content ∷ []) ++ replicate n None) (sym fewer)

  first-append : (cells : List (Option C)) (n : ℕ)
      → prefix_len (λ place. not (not (is_some place))) (cells ++ replicate n None) ≡ prefix_len (λ place. not (not (is_some place))) cells
  first-append [] n = none-first C n
  first-append (cell ∷ cells) n = ap (λ (k : ℕ). cond (not (not (is_some cell))) (1 + k) 0) (first-append cells n)

  abbrev first : List (Option C) → ℕ
  first cells = prefix_len (λ place. not (not (is_some place))) cells

  lowest-padded : (count : ℕ) (cells : List (Option C)) → length cells ≤ count
      → lowest_empty (padded count cells) ≡ found (first cells) count
  lowest-padded count cells fits =
      ap (λ (n : ℕ). found n (length (padded count cells))) (first-append cells (count - length cells))
      ∙ ap (λ (n : ℕ). found (first cells) n) (length-padded count cells fits)

  -- where a place that has a cell is empty, it is the lowest
  pub lowest-within : (count : ℕ) (cells : List (Option C)) (index : ℕ) → length cells ≤ count → lowest_empty cells ≡ Some index
      → (index < length cells) × (lowest_empty (padded count cells) ≡ Some index)
  lowest-within count cells index fits is =
      let parts = found-some (first cells) (length cells) index is in (
        omega (arith, parts.0, parts.1),
        lowest-padded count cells fits ∙ found-below (first cells) count index parts.1
            (omega (arith, parts.0, parts.1)),
      )

  -- else it is the first that has none
  pub lowest-next : (count : ℕ) (cells : List (Option C)) → lowest_empty cells ≡ None → length cells < count
      → lowest_empty (padded count cells) ≡ Some (length cells)
  lowest-next count cells none more =
      let past = found-none (first cells) (length cells) none in
      let within = prefix_len-le-length (λ (place : Option C). not (not (is_some place))) cells in
      lowest-padded count cells (omega arith) ∙ found-below (first cells) count (length cells) (omega (arith, past, within)) more

-- what is asked about, where nothing is asked about an empty place
module _ {C X : Type 0} (asked : ℕ → Option C → Option X) (silent : (index : ℕ) → asked index None ≡ None) where
  none-asked : (from n : ℕ) → asked_from asked from (replicate n None) ≡ []
  none-asked from zero = refl
  none-asked from (suc n) =
      ap (λ (x : Option X). cons_option x (asked_from asked (from + 1) (replicate n None))) (silent from) ∙ none-asked (from + 1) n

  asked-append : (from : ℕ) (cells : List (Option C)) (n : ℕ)
      → asked_from asked from (cells ++ replicate n None) ≡ asked_from asked from cells
  asked-append from [] n = none-asked from n
  asked-append from (cell ∷ cells) n = ap (λ (xs : List X). cons_option (asked from cell) xs) (asked-append (from + 1) cells n)

  -- the empty ones after add nothing
  pub asked-padded : (from count : ℕ) (cells : List (Option C)) → asked_from asked from (padded count cells) ≡ asked_from asked from cells
  asked-padded from count cells = asked-append from cells (count - length cells)
