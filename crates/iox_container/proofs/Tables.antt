use Rattle.std.proofs.Common.{cond, true, false, ℕ, zero, suc, ◌≡◌, inl, inr, ◌+◌, ◌-◌, ◌<◌, ◌≤◌, List, [], ◌∷◌, length, drop, Option}
use Rattle.std.proofs.Common.{Some, None, get_or, arith, refl, sym, ap, ◌∙◌, subst}
use Rattle.std.specs.Prelude.{is_some, count_by, slice_get, replicate, IsSome}
use Rattle.std.proofs.Math.ListN.{set}
use Rattle.std.specs.List.{range_with_len}
use Rattle.std.proofs.lemmas.Bool.{cases_eq, cases_lt}
use Rattle.std.proofs.lemmas.List.Sums.{sum_by-set}
use Rattle.std.proofs.lemmas.List.{get_or-replicate, get_or-set_same, get_or-set_other, get_or_past, length-replicate, length-set}
use Rattle.std.proofs.lemmas.List.FromFn.{length-range_with_len}
use Rattle.iox_container.specs.SlotTable.{Among, Distinct, FreeKeysAreExact, HasItem, ListsHeldKeys, Rising, SlotTable, held_from}
use Rattle.iox_container.specs.SlotTable.{released, stored, value_at, without}
use Rattle.iox_container.proofs.Keys.{Among-in_range, Among-kept, Among-range, Among-without, Distinct-range, Distinct-without}
use Rattle.iox_container.proofs.Keys.{length-without, without_absent, without_first}

count_none : (T : Type 0) (n : ℕ) → let none : Option T = None in count_by is_some (replicate n none) ≡ 0
count_none T zero = refl
count_none T (suc n) = count_none T n

module _ {T : Type 0} where
  abbrev one_if : Option T → ℕ
  one_if o = cond (is_some o) 1 0

  counts_one : (o : Option T) → (o ≡ None → ⊥) → one_if o ≡ 1
  counts_one None some = absurd (some refl)
  counts_one (Some x) some = refl

  -- a value that comes where there was none is one more
  count_more : (xs : List (Option T)) (i : ℕ) (v : T) → i < length xs → get_or xs i None ≡ None
      → count_by is_some (set xs i (Some v)) ≡ count_by is_some xs + 1
  count_more xs i v within none =
      omega (arith, sum_by-set one_if xs i (Some v) None within, ap one_if none)

  -- a value in the place of another leaves their number
  count_same : (xs : List (Option T)) (i : ℕ) (v : T) → i < length xs → (get_or xs i None ≡ None → ⊥)
      → count_by is_some (set xs i (Some v)) ≡ count_by is_some xs
  count_same xs i v within some =
      omega (arith, sum_by-set one_if xs i (Some v) None within, counts_one (get_or xs i None) some)

  -- a value that goes is one less
  count_less : (xs : List (Option T)) (i : ℕ) → i < length xs → (get_or xs i None ≡ None → ⊥)
      → count_by is_some (set xs i None) + 1 ≡ count_by is_some xs
  count_less xs i within some =
      omega (arith, sum_by-set one_if xs i None None within, counts_one (get_or xs i None) some)

  abbrev nothing : Option T
  nothing = None

  -- a free key holds nothing and is within the table
  pub free_within : (t : SlotTable T) (key : ℕ) → FreeKeysAreExact t → Among key t.free → key < length t.values
  free_within t key table there = ((table.exact key).0 there).0

  pub free_is_none : (t : SlotTable T) (key : ℕ) → FreeKeysAreExact t → Among key t.free → value_at t.values key ≡ None
  free_is_none t key table there = ((table.exact key).0 there).1

  pub none_is_free : (t : SlotTable T) (key : ℕ) → FreeKeysAreExact t → key < length t.values → value_at t.values key ≡ None
      → Among key t.free
  none_is_free t key table within none = (table.exact key).1 (within, none)

  pub held_is_not_free : (t : SlotTable T) (key : ℕ) → FreeKeysAreExact t → (value_at t.values key ≡ None → ⊥) → Among key t.free → ⊥
  held_is_not_free t key table some there = some ((table.exact key).0 there).1

  -- a key that holds something is within the table
  pub held_within : (t : SlotTable T) (key : ℕ) → (value_at t.values key ≡ None → ⊥) → key < length t.values
  held_within t key some =
      elim (cases_lt key (length t.values)) as (λ _. key < length t.values) [
        | inl h ↦ h
        | inr h ↦ absurd (some (get_or_past t.values key None h))
      ]

  -- the table with a value at a key that was free
  pub FreeKeysAreExact-taken : (t : SlotTable T) (key : ℕ) (v : T) → FreeKeysAreExact t → Among key t.free
      → FreeKeysAreExact (stored t key v)
  FreeKeysAreExact-taken t key v table there =
      let within : key < length t.values = free_within t key table there in
      let none : value_at t.values key ≡ None = free_is_none t key table there in
      record {
        exact = λ k. (
          λ h. let kept : Among k t.free × (k ≡ key → ⊥) = Among-without key k t.free h in
              let was : (k < length t.values) × (value_at t.values k ≡ None) = (table.exact k).0 kept.0 in
              (omega (arith, was.0, length-set t.values key (Some v)), get_or-set_other t.values key k (Some v) None kept.1 ∙ was.1),
          λ h. let other : k ≡ key → ⊥ = λ e. let here : value_at (set t.values key (Some v)) key ≡ Some v
              = get_or-set_same t.values key (Some v) None within in
              let V : ℕ → Type 0 = λ j. value_at (set t.values key (Some v)) j ≡ None in
              let gone : value_at (set t.values key (Some v)) key ≡ None = subst V e h.1 in absurd (cc) in
              Among-kept key k t.free
              ((table.exact k).1 (
                omega (arith, h.0, length-set t.values key (Some v)),
                sym
                    (get_or-set_other t.values key k (Some v) None other) ∙ h.1,
              )) other,
        );
        distinct = Distinct-without key t.free table.distinct;
        counted = omega (
          arith,
          count_more t.values key v within none,
          length-without key t.free table.distinct there,
          length-set t.values
              key (Some v),
          table.counted,
        );
      }

  -- the table with another value at a key that held one
  pub FreeKeysAreExact-replaced : (t : SlotTable T) (key : ℕ) (v : T) → FreeKeysAreExact t → (value_at t.values key ≡ None → ⊥)
      → FreeKeysAreExact (record { values = set t.values key (Some v); free = t.free })
  FreeKeysAreExact-replaced t key v table some =
      let within : key < length t.values = held_within t key some in
      record {
        exact = λ k. (
          λ h. let was : (k < length t.values) × (value_at t.values k ≡ None) = (table.exact k).0 h in
              let V : ℕ → Type 0 = λ j. value_at t.values j ≡ None in (
                omega (arith, was.0, length-set t.values key (Some v)),
                get_or-set_other t.values key k (Some v) None
                    (λ e. some (subst V e was.1)) ∙ was.1,
              ),
          λ h. let other : k ≡ key → ⊥ = λ e. let here : value_at (set t.values key (Some v)) key ≡ Some v
              = get_or-set_same t.values key (Some v) None within in
              let V : ℕ → Type 0 = λ j. value_at (set t.values key (Some v)) j ≡ None in
              let gone : value_at (set t.values key (Some v)) key ≡ None = subst V e h.1 in absurd (cc) in
              (table.exact k).1 (
                omega (arith, h.0, length-set t.values key (Some v)),
                sym
                    (get_or-set_other t.values key k (Some v) None other) ∙ h.1,
              ),
        );
        distinct = table.distinct;
        counted = omega (arith, count_same t.values key v within some, length-set t.values key (Some v), table.counted);
      }

  -- where the key held a value, the free keys stay
  pub stored_over : (t : SlotTable T) (key : ℕ) (v : T) → FreeKeysAreExact t → (value_at t.values key ≡ None → ⊥)
      → record { values = set t.values key (Some v); free = t.free } ≡ stored t key v
  stored_over t key v table some =
      let F : List ℕ → SlotTable T = λ free. record { values = set t.values key (Some v); free = free } in
      ap F (sym (without_absent key t.free (held_is_not_free t key table some)))

  -- the table without the value of a key
  pub FreeKeysAreExact-released : (t : SlotTable T) (key : ℕ) → FreeKeysAreExact t → (value_at t.values key ≡ None → ⊥)
      → FreeKeysAreExact (released t key)
  FreeKeysAreExact-released t key table some =
      let within : key < length t.values = held_within t key some in
      let E : ℕ → Type 0 = λ j. (j < length (set t.values key None)) × (value_at (set t.values key None) j ≡ None) in
      record {
        exact = λ k. (
          λ h. elim h as (λ _. E k) [
            | inl e ↦ subst E (sym e) (omega (arith, length-set t.values key None), get_or-set_same t.values key None None within)
            | inr there ↦ let was : (k < length t.values) × (value_at t.values k ≡ None) = (table.exact k).0 there in
                let V : ℕ → Type 0 = λ j. value_at t.values j ≡ None in (
                  omega (arith, was.0, length-set t.values key None),
                  get_or-set_other t.values key k None None
                      (λ e. some (subst V e was.1)) ∙ was.1,
                )
          ],
          λ h. elim (cases_eq k key) as (λ _. Among k (key ∷ t.free)) [
            | inl e ↦ inl e
            | inr other ↦ inr ((table.exact k).1
                (omega (arith, h.0, length-set t.values key None), sym (get_or-set_other t.values key k None None other) ∙ h.1))
          ],
        );
        distinct = (held_is_not_free t key table some, table.distinct);
        counted = omega (arith, count_less t.values key within some, length-set t.values key None, table.counted);
      }

  -- the table that holds nothing
  pub FreeKeysAreExact-empty : (n : ℕ) → FreeKeysAreExact {T = T} (record { values = replicate n nothing; free = range_with_len 0 n })
  FreeKeysAreExact-empty n = record {
    exact = λ k. (
      λ there. let within : (0 ≤ k) × (k < 0 + n) = Among-range 0 n k there in
          (omega (arith, within.1, length-replicate n nothing), get_or-replicate n k nothing nothing (omega (arith, within.1))),
      λ h. Among-in_range 0 n k (omega arith) (omega (arith, h.0, length-replicate n nothing)),
    );
    distinct = Distinct-range 0 n;
    counted = omega (arith, count_none T n, length-range_with_len 0 n, length-replicate n nothing);
  }

-- the first free key is one of them, and the others are what is left without it
pub first_among : (free : List ℕ) (key : ℕ) → slice_get free 0 ≡ Some key → Among key free
first_among [] key e = absurd (cc)
first_among (k ∷ ks) key e = inl (cc)

pub without_is_rest : (free : List ℕ) (key : ℕ) → Distinct free → slice_get free 0 ≡ Some key → without key free ≡ drop 1 free
without_is_rest [] key distinct e = absurd (cc)
without_is_rest (k ∷ ks) key distinct e =
    let same : k ≡ key = cc in
    let F : ℕ → List ℕ = λ j. without j (k ∷ ks) in
    ap F (sym same) ∙ without_first k ks distinct

-- a key that has a value doesn't lack one
pub held_from_some : {T : Type 0} (values : List (Option T)) (key : ℕ) → IsSome (value_at values key) → value_at values key ≡ None → ⊥
held_from_some {T} values key some none =
    let S : Option T → Type 0 = λ o. IsSome o in let bad : false ≡ true = subst S none some in cc

module _ {T : Type 0} where
  -- what stands in the walk from a key on is held at that key or after it
  held_from-told : (at : ℕ) (xs : List (Option T)) (key : ℕ) (value : T) → HasItem key value (held_from at xs)
      → (at ≤ key) × (value_at xs (key - at) ≡ Some value)
  held_from-told at [] key value there = absurd there
  held_from-told at (None ∷ xs) key value there =
      let later : (at + 1 ≤ key) × (value_at xs (key - (at + 1)) ≡ Some value) = held_from-told (at + 1) xs key value there in
      let step : key - at ≡ suc (key - (at + 1)) = omega (arith, later.0) in
      (omega (arith, later.0), ap (λ k. get_or (None ∷ xs) k None) step ∙ later.1)
  held_from-told at (Some x ∷ xs) key value there =
      elim there as (λ _. (at ≤ key) × (value_at (Some x ∷ xs) (key - at) ≡ Some value)) [
        | inl here ↦
            let none : key - at ≡ zero = omega (arith, here.0) in
            (omega (arith, here.0), ap (λ k. get_or (Some x ∷ xs) k None) none ∙ ap (λ y. Some y) (sym here.1))
        | inr behind ↦
            let later : (at + 1 ≤ key) × (value_at xs (key - (at + 1)) ≡ Some value) = held_from-told (at + 1) xs key value behind in
            let step : key - at ≡ suc (key - (at + 1)) = omega (arith, later.0) in
            (omega (arith, later.0), ap (λ k. get_or (Some x ∷ xs) k None) step ∙ later.1)
      ]

  -- and what is held stands in the walk
  held_from-has : (at : ℕ) (xs : List (Option T)) (j key : ℕ) (value : T) → key ≡ at + j → value_at xs j ≡ Some value
      → HasItem key value (held_from at xs)
  held_from-has at [] j key value e held = absurd (cc)
  held_from-has at (None ∷ xs) zero key value e held = absurd (cc)
  held_from-has at (None ∷ xs) (suc j) key value e held = held_from-has (at + 1) xs j key value (omega arith) held
  held_from-has at (Some x ∷ xs) zero key value e held = inl (omega arith, cc)
  held_from-has at (Some x ∷ xs) (suc j) key value e held = inr (held_from-has (at + 1) xs j key value (omega arith) held)

  Rising-held_from : (at : ℕ) (xs : List (Option T)) → Rising (held_from at xs)
  Rising-held_from at [] = tt
  Rising-held_from at (None ∷ xs) = Rising-held_from (at + 1) xs
  Rising-held_from at (Some x ∷ xs) = (
    λ key value there. let told : (at + 1 ≤ key)
        × (value_at xs (key - (at + 1)) ≡ Some value) = held_from-told (at + 1) xs key value there in omega (arith, told.0),
    Rising-held_from (at + 1) xs,
  )

  -- the walk lists the keys that hold a value
  pub ListsHeldKeys-held_from : (xs : List (Option T)) → ListsHeldKeys xs (held_from 0 xs)
  ListsHeldKeys-held_from xs = record {
    exact = λ key value. (
      λ there. let told : (0 ≤ key) × (value_at xs (key - 0) ≡ Some value) = held_from-told 0 xs key value there in
          ap (λ k. value_at xs k) (omega arith) ∙ told.1,
      λ held. held_from-has 0 xs key key value (omega arith) held,
    );
    rising = Rising-held_from 0 xs;
  }
