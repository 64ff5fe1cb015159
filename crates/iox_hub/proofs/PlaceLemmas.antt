-- What lies at places of which one is emptied.
use Rattle.std.proofs.Common.{arith, ◌≡◌, ◌∙◌, ◌<◌, ◌-◌, ℕ, zero, suc, Bool, true, false, List, [], ◌∷◌, Option, None, Some, refl, sym, ap}
use Rattle.std.proofs.lemmas.Bool.{ltb-true, eqb-true, eq-eqb}
use Rattle.std.specs.Option.{option_flatten, option_map}
use Rattle.std.specs.Prelude.{if◌then◌else◌, IsSome, is_some, nat_eq, nat_lt, slice_get, slice_set}
use Rattle.iox_hub.specs.Places.{lies_at, emptied, emptied_if, named, backpressure_of, degradation_of}
use Rattle.iox_hub.specs.declared.given.GivenHandler.{GivenHandler}
use Rattle.iox_hub.specs.declared.given.GivenHandler.TheVariants.{Backpressure, Degradation}

module _ {X : Type 0} where
  within_same : (given : List (Option X)) (i : ℕ) → option_flatten (slice_get (slice_set given i None) i) ≡ None
  within_same [] i = refl
  within_same (x ∷ xs) zero = refl
  within_same (x ∷ xs) (suc i) = within_same xs i

  within_other : (given : List (Option X)) (i j : ℕ) → (j ≡ i → ⊥)
      → option_flatten (slice_get (slice_set given i None) j) ≡ option_flatten (slice_get given j)
  within_other [] i j apart = refl
  within_other (x ∷ xs) zero zero apart = absurd (apart refl)
  within_other (x ∷ xs) zero (suc j) apart = refl
  within_other (x ∷ xs) (suc i) zero apart = refl
  within_other (x ∷ xs) (suc i) (suc j) apart = within_other xs i j (λ same. apart (ap suc same))

  none_chosen : (b : Bool) (o : Option X) → o ≡ None → (if b then o else None) ≡ None
  none_chosen true o is = is
  none_chosen false o is = refl

  same_chosen : (b : Bool) (o p : Option X) → (b ≡ true → o ≡ p) → (if b then o else None) ≡ (if b then p else None)
  same_chosen true o p is = is refl
  same_chosen false o p is = refl

  some_chosen : (b : Bool) (o : Option X) → IsSome (if b then o else None) → b ≡ true
  some_chosen true o lies = refl
  some_chosen false o lies = cc

  -- nothing lies at place 0
  pub above_none : (place : ℕ) (given : List (Option X)) → IsSome (lies_at place given) → 0 < place
  above_none place given lies = ltb-true 0 place (some_chosen (nat_lt 0 place) (option_flatten (slice_get given (place - 1))) lies)

  -- nothing lies at a place that was emptied
  pub gone_there : (place : ℕ) (given : List (Option X)) → lies_at place (emptied place given) ≡ None
  gone_there place given = none_chosen (nat_lt 0 place) (option_flatten (slice_get (emptied place given) (place - 1)))
      (within_same given (place - 1))

  -- at others lies what lay there
  pub stays_elsewhere : (place other : ℕ) (given : List (Option X)) → IsSome (lies_at place given) → (other ≡ place → ⊥)
      → lies_at other (emptied place given) ≡ lies_at other given
  stays_elsewhere place other given lies apart =
      let above = above_none place given lies in
      same_chosen (nat_lt 0 other) (option_flatten (slice_get (emptied place given) (other - 1)))
      (option_flatten (slice_get given (other - 1)))
      (λ is. let positive = ltb-true 0 other is in within_other given (place - 1) (other - 1)
      (λ same. apart (omega (arith, above, positive, same))))

module _ {P D : Type 0} where
  -- where a handler of one kind lies, none of the other does
  one_kind : (o : Option (GivenHandler P D)) → is_some (option_map (λ (handler : P). Some handler) (backpressure_of o)) ≡ true
      → degradation_of o ≡ None
  one_kind None lies = refl
  one_kind (Some (Backpressure handler)) lies = refl
  one_kind (Some (Degradation handler)) lies = cc

  pub backpressure_lies : (o : Option (GivenHandler P D))
      → is_some (option_map (λ (handler : P). Some handler) (backpressure_of o)) ≡ true → IsSome o
  backpressure_lies None lies = cc
  backpressure_lies (Some handler) lies = refl

  pub degradation_lies : (o : Option (GivenHandler P D))
      → is_some (option_map (λ (handler : D). Some handler) (degradation_of o)) ≡ true → IsSome o
  degradation_lies None lies = cc
  degradation_lies (Some handler) lies = refl

  pub some_degradation_lies : (o : Option (GivenHandler P D)) (handler : D) → degradation_of o ≡ Some handler → IsSome o
  some_degradation_lies None handler is = cc
  some_degradation_lies (Some given) handler is = refl

  at_either : (full failure : ℕ) (given : List (Option (GivenHandler P D))) (same : Bool) → nat_eq failure full ≡ same
      → is_some (named (λ lies. backpressure_of lies) (Some full) given) ≡ true
      → degradation_of (lies_at failure (emptied full given)) ≡ degradation_of (lies_at failure given)
  at_either full failure given true is lies =
      let here : failure ≡ full = eqb-true failure full is in
      let gone : lies_at full (emptied full given) ≡ None = gone_there full given in
      let none : degradation_of (lies_at full given) ≡ None = one_kind (lies_at full given) lies in
      rw here (ap (λ o. degradation_of o) gone ∙ sym none)
  at_either full failure given false is lies =
      ap (λ o. degradation_of o) (stays_elsewhere full failure given (backpressure_lies (lies_at full given) lies)
      (λ same. cc (is, eq-eqb failure full same)))

  -- a handler of the other kind lies where it lay
  pub other_kind_stays : (at_full at_failure : Option ℕ) (given : List (Option (GivenHandler P D)))
      → is_some (named (λ lies. backpressure_of lies) at_full given) ≡ true
      → named (λ lies. degradation_of lies) at_failure (emptied_if at_full given) ≡ named (λ lies. degradation_of lies) at_failure given
  other_kind_stays None at_failure given lies = refl
  other_kind_stays (Some full) None given lies = refl
  other_kind_stays (Some full) (Some failure) given lies
      = ap (λ o. option_map (λ (handler : D). Some handler) o) (at_either full failure given (nat_eq failure full) refl lies)
