-- Of values at places of their own there are at most as many as places.
use Rattle.std.proofs.Common.{arith, ◌≡◌, ◌+◌, ◌<◌, ◌≤◌, ◌||◌, ◌∷◌, [], ℕ, zero, suc, Bool, true, false, cond, if◌then◌else◌, List, length}
use Rattle.std.proofs.Common.{get_or, eqb, refl, sym, ◌∙◌}
use Rattle.std.proofs.lemmas.Bool.{eqb-true}
use Rattle.std.proofs.lemmas.List.Sums.{sum_by-cons}
use Rattle.std.proofs.lemmas.Map.Keys.{IsDistinct-cons}
use Rattle.std.proofs.lemmas.Map.Steps.{length-le_from_distinct_below}
use Rattle.std.specs.List.{AllByRecursion, IsDistinct, count_by, list_any}

module _ {X : Type 0} (test : X → Bool) (none : X) where
  -- the places of those that pass the test
  abbrev spots : List X → (ℕ → ℕ) → List ℕ
  spots [] place = []
  spots (x ∷ xs) place = if test x then place zero ∷ spots xs (λ i. place (suc i)) else spots xs (λ i. place (suc i))

  -- Who is at one of these places.
  record SpotOf (spot : ℕ) (xs : List X) (place : ℕ → ℕ) : Type 0 where
    index : ℕ
    within : index < length xs
    passes : test (get_or xs index none) ≡ true
    is : spot ≡ place index

  spot_of : (spot : ℕ) (xs : List X) (place : ℕ → ℕ) → list_any (eqb spot) (spots xs place) ≡ true → SpotOf spot xs place
  spot_of spot [] place there = let wrong : false ≡ true = there in absurd (cc)
  spot_of spot (x ∷ xs) place there = by (test x) refl there (λ further. spot_of spot xs (λ i. place (suc i)) further)
    where
      later : SpotOf spot xs (λ i. place (suc i)) → SpotOf spot (x ∷ xs) place
      later found = record {
        index = suc found.index;
        within = omega (arith, found.within);
        passes = found.passes;
        is = found.is;
      }

      first : (here : Bool) → test x ≡ true → eqb spot (place zero) ≡ here
          → (here || list_any (eqb spot) (spots xs (λ i. place (suc i)))) ≡ true
          → (list_any (eqb spot) (spots xs (λ i. place (suc i))) ≡ true → SpotOf spot xs (λ i. place (suc i)))
          → SpotOf spot (x ∷ xs) place
      first true passes here there rest = record {
        index = zero;
        within = omega arith;
        passes = passes;
        is = eqb-true spot (place zero) here;
      }
      first false passes here there rest = later (rest there)

      by : (passes : Bool) → test x ≡ passes
          → list_any (eqb spot) (if passes then place zero ∷ spots xs (λ i. place (suc i)) else spots xs (λ i. place (suc i))) ≡ true
          → (list_any (eqb spot) (spots xs (λ i. place (suc i))) ≡ true → SpotOf spot xs (λ i. place (suc i)))
          → SpotOf spot (x ∷ xs) place
      by true passes there rest = first (eqb spot (place zero)) passes refl there rest
      by false passes there rest = later (rest there)

  -- there are as many places as pass the test
  spots_long : (xs : List X) (place : ℕ → ℕ) → length (spots xs place) ≡ count_by test xs
  spots_long [] place = refl
  spots_long (x ∷ xs) place =
      by (test x) (spots_long xs (λ i. place (suc i))) ∙ sym (sum_by-cons (λ one. cond (test one) 1 0) x xs)
    where
      by : (passes : Bool) → length (spots xs (λ i. place (suc i))) ≡ count_by test xs
          → length (if passes then place zero ∷ spots xs (λ i. place (suc i)) else spots xs (λ i. place (suc i)))
          ≡ cond passes 1 0 + count_by test xs
      by true rest = omega (arith, rest)
      by false rest = omega (arith, rest)

  -- No two have the same place.
  record AreAlone (xs : List X) (place : ℕ → ℕ) : Type 0 where
    alone : (one other : ℕ) → one < length xs → other < length xs → test (get_or xs one none) ≡ true
        → test (get_or xs other none) ≡ true → place one ≡ place other → one ≡ other

  alone_later : (x : X) (xs : List X) (place : ℕ → ℕ) → AreAlone (x ∷ xs) place → AreAlone xs (λ i. place (suc i))
  alone_later x xs place apart = record {
    alone = λ one other first second passes too same.
        let both : suc one ≡ suc other
        = apart.alone (suc one) (suc other) (omega (arith, first)) (omega (arith, second)) passes too same in
        omega (arith, both);
  }

  -- a place is none of those of the others
  not_later : (x : X) (xs : List X) (place : ℕ → ℕ) → AreAlone (x ∷ xs) place → test x ≡ true
      → (found : Bool) → list_any (eqb (place zero)) (spots xs (λ i. place (suc i))) ≡ found → found ≡ false
  not_later x xs place apart passes false is = refl
  not_later x xs place apart passes true is =
      let found = spot_of (place zero) xs (λ i. place (suc i)) is in
      let both : zero ≡ suc found.index
      = apart.alone zero (suc found.index) (omega arith) (omega (arith, found.within)) passes found.passes found.is in
      absurd (omega (arith, both))

  none_of : (spot : ℕ) (all : List ℕ) → list_any (eqb spot) all ≡ false → AllByRecursion (λ other. eqb spot other ≡ false) all
  none_of spot [] none_there = tt
  none_of spot (x ∷ xs) none_there = by (eqb spot x) refl none_there (λ rest. none_of spot xs rest)
    where
      by : (here : Bool) → eqb spot x ≡ here → (here || list_any (eqb spot) xs) ≡ false
          → (list_any (eqb spot) xs ≡ false → AllByRecursion (λ other. eqb spot other ≡ false) xs)
          → (eqb spot x ≡ false) × AllByRecursion (λ other. eqb spot other ≡ false) xs
      by true here none_there rest = let wrong : true ≡ false = none_there in absurd (cc)
      by false here none_there rest = (here, rest none_there)

  spots_distinct : (xs : List X) (place : ℕ → ℕ) → AreAlone xs place → IsDistinct eqb (spots xs place)
  unfolding IsDistinct
  spots_distinct [] place apart = tt
  spots_distinct (x ∷ xs) place apart =
      by (test x) refl (spots_distinct xs (λ i. place (suc i)) (alone_later x xs place apart))
    where
      by : (passes : Bool) → test x ≡ passes → IsDistinct eqb (spots xs (λ i. place (suc i)))
          → IsDistinct eqb (if passes then place zero ∷ spots xs (λ i. place (suc i)) else spots xs (λ i. place (suc i)))
      by true passes rest = IsDistinct-cons eqb (place zero) (spots xs (λ i. place (suc i)))
          (none_of (place zero) (spots xs (λ i. place (suc i)))
          (not_later x xs place apart passes (list_any (eqb (place zero)) (spots xs (λ i. place (suc i)))) refl)) rest
      by false passes rest = rest

  -- if those that pass the test have places of their own below a number, there are at most as many
  pub few_at_places : (xs : List X) (place : ℕ → ℕ) (most : ℕ)
      → ((index : ℕ) → index < length xs → test (get_or xs index none) ≡ true → place index < most)
      → ((one other : ℕ) → one < length xs → other < length xs → test (get_or xs one none) ≡ true
      → test (get_or xs other none) ≡ true → place one ≡ place other → one ≡ other)
      → count_by test xs ≤ most
  few_at_places xs place most below apart =
      let few : length (spots xs place) ≤ most
      = length-le_from_distinct_below (spots xs place) most (spots_distinct xs place (record { alone = apart }))
      (λ spot there.
      let found = spot_of spot xs place there in
      omega (arith, found.is, below found.index found.within found.passes)) in
      omega (arith, few, spots_long xs place)
