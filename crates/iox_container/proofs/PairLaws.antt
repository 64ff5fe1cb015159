use Rattle.std.proofs.Common.{Bool, true, false, ℕ, zero, suc, ◌≡◌, inl, inr, ◌<◌, List, [], ◌∷◌, length, slice_get, Option, Some, None}
use Rattle.std.proofs.Common.{refl, sym, arith, ap, ◌∙◌, subst}
use Rattle.std.specs.Prelude.{option_map, IfSome}
use Rattle.std.specs.Cmp.{IsEquivalence}
use Rattle.std.proofs.Math.ListN.{set}
use Rattle.std.proofs.lemmas.Bool.{cases_eq}
use Rattle.std.proofs.lemmas.List.{get_or-set_same, get_or-set_other}
use Rattle.iox_container.specs.SlotTable.{SlotTable, released, stored, value_at}
use Rattle.iox_container.specs.PairTable.{KeysDiffer, place_of, value_of}
use Rattle.iox_container.proofs.Pairs.{place_of-found, place_of-none}

differs : true ≡ false → ⊥
differs e = cc

-- the first of a list that isn't empty is there
first_there : (free : List ℕ) → (free ≡ [] → ⊥) → None ≡ slice_get free 0 → ⊥
first_there [] some is = some refl
first_there (x ∷ xs) some is = absurd (cc)

-- a place that holds something is one of the table
pub held_within : {T : Type 0} (xs : List (Option T)) (i : ℕ) (p : T) → value_at xs i ≡ Some p → i < length xs
held_within [] i p there = absurd (cc)
held_within (x ∷ xs) zero p there = omega arith
held_within (x ∷ xs) (suc i) p there = let rest : i < length xs = held_within xs i p there in omega (arith, rest)

module _ {K V : Type 0} (eq : K → K → Bool) (laws : IsEquivalence eq) where
  -- a search that finds a pair of an equal key finds the one that is there
  found_by : (t : SlotTable (K × V)) (key : K) (i : ℕ) (p : K × V) (o : Option (ℕ × (K × V))) → place_of eq key t ≡ o
      → KeysDiffer eq t.values → value_at t.values i ≡ Some p → eq p.0 key ≡ true → o ≡ Some (i, p)
  found_by t key i p None is differ there equal = absurd (differs (sym equal ∙ place_of-none eq key t i p is there))
  found_by t key i p (Some f) is differ there equal =
      let found : (value_at t.values f.0 ≡ Some f.1) × (eq f.1.0 key ≡ true) = place_of-found eq key t f.0 f.1 is in
      elim (cases_eq f.0 i) as (λ _. Some f ≡ Some (i, p)) [
        | inl at ↦
            let same : Some f.1 ≡ Some p = sym found.0 ∙ ap (λ k. value_at t.values k) at ∙ there in
            let what : f.1 ≡ p = cc in
            let F : ℕ → K × V → Option (ℕ × (K × V)) = λ k q. Some (k, q) in
            ap (λ k. F k f.1) at ∙ ap (λ q. F i q) what
        | inr other ↦
            let alike : eq f.1.0 p.0 ≡ true = laws.congr f.1.0 key p.0 found.1 ∙ laws.symm key p.0 ∙ equal in
            absurd (differs (sym alike ∙ differ f.0 i f.1 p other found.0 there))
      ]

  -- the pair of a key is the one that is there
  place_of-unique : (t : SlotTable (K × V)) (key : K) (i : ℕ) (p : K × V) → KeysDiffer eq t.values → value_at t.values i ≡ Some p
      → eq p.0 key ≡ true → place_of eq key t ≡ Some (i, p)
  place_of-unique t key i p differ there equal = found_by t key i p (place_of eq key t) refl differ there equal

  -- nothing is found of a key to which no pair has an equal one
  absent_by : (t : SlotTable (K × V)) (key : K) (o : Option (ℕ × (K × V))) → place_of eq key t ≡ o
      → ((j : ℕ) (q : K × V) → value_at t.values j ≡ Some q → eq q.0 key ≡ true → ⊥) → o ≡ None
  absent_by t key None is none = refl
  absent_by t key (Some f) is none =
      let found : (value_at t.values f.0 ≡ Some f.1) × (eq f.1.0 key ≡ true) = place_of-found eq key t f.0 f.1 is in
      absurd (none f.0 f.1 found.0 found.1)

  abbrev value_from : Option (ℕ × (K × V)) → Option V
  value_from o = option_map (λ (found : ℕ × (K × V)). found.1.1) o

  -- a search of two tables gives the same where a pair that is found of one stands in both, and none that stands in the second is new
  same_by : (t new : SlotTable (K × V)) (key : K) (o : Option (ℕ × (K × V))) → place_of eq key t ≡ o → KeysDiffer eq new.values
      → ((j : ℕ) (q : K × V) → value_at t.values j ≡ Some q → eq q.0 key ≡ true → value_at new.values j ≡ Some q)
      → ((j : ℕ) (q : K × V) → value_at new.values j ≡ Some q → eq q.0 key ≡ true → value_at t.values j ≡ Some q)
      → place_of eq key new ≡ o
  same_by t new key None is differ stays was =
      absent_by new key (place_of eq key new) refl (λ j q there equal.
      differs (sym equal ∙ place_of-none eq key t j q is (was j q there equal)))
  same_by t new key (Some f) is differ stays was =
      let found : (value_at t.values f.0 ≡ Some f.1) × (eq f.1.0 key ≡ true) = place_of-found eq key t f.0 f.1 is in
      place_of-unique new key f.0 f.1 differ (stays f.0 f.1 found.0 found.1) found.1

  -- after an insertion the value is found of its key
  found_inserted : (t : SlotTable (K × V)) (i : ℕ) (key : K) (value : V) → i < length t.values
      → KeysDiffer eq (stored t i (key, value)).values → value_of eq key (stored t i (key, value)) ≡ Some value
  found_inserted t i key value within differ =
      let here : value_at (set t.values i (Some (key, value))) i ≡ Some (key, value)
      = get_or-set_same t.values i (Some (key, value)) None within in
      ap value_from (place_of-unique (stored t i (key, value)) key i (key, value) differ here (laws.refl key))

  -- and of another key what was found before
  others_inserted : (t : SlotTable (K × V)) (i : ℕ) (key other : K) (value : V) → i < length t.values
      → value_at t.values i ≡ None → KeysDiffer eq (stored t i (key, value)).values → eq key other ≡ false
      → value_of eq other (stored t i (key, value)) ≡ value_of eq other t
  others_inserted t i key other value within free differ apart =
      let here : value_at (set t.values i (Some (key, value))) i ≡ Some (key, value)
      = get_or-set_same t.values i (Some (key, value)) None within in
      ap value_from (same_by t (stored t i (key, value)) other (place_of eq other t) refl differ
      (λ j q there equal. get_or-set_other t.values i j (Some (key, value)) None (λ e. taken j q e there) ∙ there)
      (λ j q there equal. sym (get_or-set_other t.values i j (Some (key, value)) None (λ e. fresh j q here e there equal)) ∙ there))
    where
      taken : (j : ℕ) (q : K × V) → j ≡ i → value_at t.values j ≡ Some q → ⊥
      taken j q e there =
          let bad : None ≡ Some q = sym free ∙ ap (λ k. value_at t.values k) (sym e) ∙ there in cc

      fresh : (j : ℕ) (q : K × V) → value_at (set t.values i (Some (key, value))) i ≡ Some (key, value) → j ≡ i
          → value_at (set t.values i (Some (key, value))) j ≡ Some q → eq q.0 other ≡ true → ⊥
      fresh j q here e there equal =
          let is : Some (key, value) ≡ Some q
          = sym here ∙ ap (λ k. value_at (set t.values i (Some (key, value))) k) (sym e) ∙ there in
          let what : (key, value) ≡ q = cc in
          differs (sym equal ∙ ap (λ (x : K × V). eq x.0 other) (sym what) ∙ apart)

  -- so after an insertion that had room
  pub found_after : (t new : SlotTable (K × V)) (key : K) (value : V) (r : Option ℕ) → KeysDiffer eq new.values
      → IfSome r (λ i. new ≡ stored t i (key, value)) → IfSome r (λ i. i < length t.values) → r ≡ slice_get t.free 0
      → (t.free ≡ [] → ⊥) → value_of eq key new ≡ Some value
  found_after t new key value None differ is within first some = absurd (first_there t.free some first)
  found_after t new key value (Some i) differ is within first some =
      let D : SlotTable (K × V) → Type 0 = λ m. KeysDiffer eq m.values in
      ap (λ m. value_of eq key m) is ∙ found_inserted t i key value within (subst D is differ)

  pub others_after : (t new : SlotTable (K × V)) (key other : K) (value : V) (r : Option ℕ) → KeysDiffer eq new.values
      → IfSome r (λ i. new ≡ stored t i (key, value)) → IfSome r (λ i. i < length t.values)
      → IfSome r (λ i. value_at t.values i ≡ None) → r ≡ slice_get t.free 0
      → (t.free ≡ [] → ⊥) → eq key other ≡ false → value_of eq other new ≡ value_of eq other t
  others_after t new key other value None differ is within free first some apart = absurd (first_there t.free some first)
  others_after t new key other value (Some i) differ is within free first some apart =
      let D : SlotTable (K × V) → Type 0 = λ m. KeysDiffer eq m.values in
      ap (λ m. value_of eq other m) is ∙ others_inserted t i key other value within free (subst D is differ) apart

  -- after a removal nothing is found of the key
  pub gone_removed : (t : SlotTable (K × V)) (i : ℕ) (p : K × V) (key : K) → i < length t.values → KeysDiffer eq t.values
      → place_of eq key t ≡ Some (i, p) → value_of eq key (released t i) ≡ None
  gone_removed t i p key within differ is =
      ap value_from (absent_by (released t i) key (place_of eq key (released t i)) refl (λ j q there equal. left j q there equal))
    where
      left : (j : ℕ) (q : K × V) → value_at (set t.values i None) j ≡ Some q → eq q.0 key ≡ true → ⊥
      left j q there equal =
          let here : value_at (set t.values i None) i ≡ None = get_or-set_same t.values i None None within in
          elim (cases_eq j i) as (λ _. ⊥) [
            | inl e ↦
                let bad : None ≡ Some q = sym here ∙ ap (λ k. value_at (set t.values i None) k) (sym e) ∙ there in cc
            | inr not_i ↦
                let was : value_at t.values j ≡ Some q = sym (get_or-set_other t.values i j None None not_i) ∙ there in
                let again : ◌≡◌ {A = Option (ℕ × (K × V))} (Some (i, p)) (Some (j, q))
                = sym is ∙ place_of-unique t key j q differ was equal in
                let pair : ◌≡◌ {A = ℕ × (K × V)} (i, p) (j, q) = cc in
                not_i (sym (ap (λ (x : ℕ × (K × V)). x.0) pair))
          ]

  -- and of another key what was found before
  pub others_removed : (t : SlotTable (K × V)) (i : ℕ) (p : K × V) (key other : K) → i < length t.values → KeysDiffer eq t.values
      → KeysDiffer eq (released t i).values → place_of eq key t ≡ Some (i, p) → eq key other ≡ false
      → value_of eq other (released t i) ≡ value_of eq other t
  others_removed t i p key other within differ after is apart =
      ap value_from (same_by t (released t i) other (place_of eq other t) refl after
      (λ j q there equal. get_or-set_other t.values i j None None (λ e. kept j q e there equal) ∙ there)
      (λ j q there equal. sym (get_or-set_other t.values i j None None (λ e. emptied j q e there)) ∙ there))
    where
      found : (value_at t.values i ≡ Some p) × (eq p.0 key ≡ true)
      found = place_of-found eq key t i p is

      kept : (j : ℕ) (q : K × V) → j ≡ i → value_at t.values j ≡ Some q → eq q.0 other ≡ true → ⊥
      kept j q e there equal =
          let same : Some p ≡ Some q = sym found.0 ∙ ap (λ k. value_at t.values k) (sym e) ∙ there in
          let what : p ≡ q = cc in
          let equals : eq p.0 other ≡ true = ap (λ (x : K × V). eq x.0 other) what ∙ equal in
          differs (sym equals ∙ laws.congr p.0 key other found.1 ∙ apart)

      emptied : (j : ℕ) (q : K × V) → j ≡ i → value_at (set t.values i None) j ≡ Some q → ⊥
      emptied j q e there =
          let here : value_at (set t.values i None) i ≡ None = get_or-set_same t.values i None None within in
          let bad : None ≡ Some q = sym here ∙ ap (λ k. value_at (set t.values i None) k) (sym e) ∙ there in cc
