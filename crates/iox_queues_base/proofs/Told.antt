-- The lists of members and of counts say each place once, rising.
use Rattle.std.proofs.Common.{true, false, Bool, ℕ, zero, suc, ◌≡◌, ◌⊎◌, inl, inr, ◌+◌, ◌-◌, ◌<◌, ◌≤◌, List, [], ◌∷◌, arith, refl, ap, ◌∙◌}
use Rattle.std.specs.Prelude.{Contains, slice_index_or}
use Rattle.std.specs.List.{AllPairs}
use Rattle.std.proofs.lemmas.List.Elements.{Contains-get_or}
use Rattle.std.proofs.lemmas.List.Kept.{AllPairs-cons}
use Rattle.iox_queues_base.specs.declared.bits.BitState.{BitState}
use Rattle.iox_queues_base.specs.Bits.{ListsMembers, ListsCounts, members_from, members, counted_from, counted}

-- what stands in a list is its first item, or stands after it
Contains-cases : {X : Type 0} (x : X) (xs : List X) (y : X) → Contains (x ∷ xs) y → (x ≡ y) ⊎ Contains xs y
Contains-cases x xs y (zero, within, is) = inl is
Contains-cases x xs y (suc k, within, is) = inr (k, omega (arith, within), is)

Contains-first : {X : Type 0} (x : X) (xs : List X) → Contains (x ∷ xs) x
Contains-first x xs = (zero, omega arith, refl)

Contains-behind : {X : Type 0} (x : X) (xs : List X) (y : X) → Contains xs y → Contains (x ∷ xs) y
Contains-behind x xs y (k, within, is) = (suc k, omega (arith, within), is)

-- a member from `at` on is a place that is set there
abbrev MemberFrom : ℕ → List Bool → ℕ → Type 0
MemberFrom at bits i = (at ≤ i) × (slice_index_or bits (i - at) false ≡ true)

member-behind : (at : ℕ) (is_set : Bool) (bits : List Bool) (i : ℕ) → MemberFrom (at + 1) bits i → MemberFrom at (is_set ∷ bits) i
member-behind at is_set bits i later =
    let step : i - at ≡ suc (i - (at + 1)) = omega (arith, later.0) in
    (omega (arith, later.0), ap (λ k. slice_index_or (is_set ∷ bits) k false) step ∙ later.1)

member-told : (at : ℕ) (bits : List Bool) (i : ℕ) → Contains (members_from at bits) i → MemberFrom at bits i
member-told at [] i (k, within, is) = absurd (omega (arith, within))
member-told at (false ∷ bits) i there = member-behind at false bits i (member-told (at + 1) bits i there)
member-told at (true ∷ bits) i there =
    elim (Contains-cases at (members_from (at + 1) bits) i there) as (λ _. MemberFrom at (true ∷ bits) i) [
      | inl here ↦
          let none : i - at ≡ zero = omega (arith, here) in
          (omega (arith, here), ap (λ k. slice_index_or (true ∷ bits) k false) none)
      | inr behind ↦ member-behind at true bits i (member-told (at + 1) bits i behind)
    ]

-- and each place that is set there is a member
member-has : (at : ℕ) (bits : List Bool) (j i : ℕ) → i ≡ at + j → slice_index_or bits j false ≡ true → Contains (members_from at bits) i
member-has at [] j i e is_set = absurd (cc)
member-has at (false ∷ bits) zero i e is_set = absurd (cc)
member-has at (false ∷ bits) (suc j) i e is_set = member-has (at + 1) bits j i (omega (arith, e)) is_set
member-has at (true ∷ bits) zero i e is_set =
    let here : i ≡ at = omega (arith, e) in
    rw here (Contains-first at (members_from (at + 1) bits))
member-has at (true ∷ bits) (suc j) i e is_set =
    Contains-behind at (members_from (at + 1) bits) i (member-has (at + 1) bits j i (omega (arith, e)) is_set)

members-rise : (at : ℕ) (bits : List Bool) → AllPairs (λ i j. i < j) (members_from at bits)
members-rise at [] = λ i j d lt within. absurd (omega (arith, within))
members-rise at (false ∷ bits) = members-rise (at + 1) bits
members-rise at (true ∷ bits) =
    AllPairs-cons (λ i j. i < j) at (members_from (at + 1) bits)
    (λ k d within.
    let later : MemberFrom (at + 1) bits (slice_index_or (members_from (at + 1) bits) k d)
    = member-told (at + 1) bits _ (Contains-get_or (members_from (at + 1) bits) k d within) in
    omega (arith, later.0))
    (members-rise (at + 1) bits)

pub ListsMembers-members : (bits : List Bool) → ListsMembers bits (members bits)
ListsMembers-members bits = record {
  exact = λ i. (
    λ there. let told : MemberFrom 0 bits i = member-told 0 bits i there in
        ap (λ k. slice_index_or bits k false) (omega arith) ∙ told.1,
    λ is_set. member-has 0 bits i i (omega arith) is_set,
  );
  rising = members-rise 0 bits;
}

-- a count from `at` on is that of its place, and above 0
abbrev CountFrom : ℕ → List ℕ → BitState → Type 0
CountFrom at counts s = (at ≤ s.bit) × (0 < s.count) × (slice_index_or counts (s.bit - at) 0 ≡ s.count)

count-behind : (at count : ℕ) (counts : List ℕ) (s : BitState) → CountFrom (at + 1) counts s → CountFrom at (count ∷ counts) s
count-behind at count counts s later =
    let step : s.bit - at ≡ suc (s.bit - (at + 1)) = omega (arith, later.0) in
    (omega (arith, later.0), later.1, ap (λ k. slice_index_or (count ∷ counts) k 0) step ∙ later.2)

count-told : (at : ℕ) (counts : List ℕ) (s : BitState) → Contains (counted_from at counts) s → CountFrom at counts s
count-told at [] s (k, within, is) = absurd (omega (arith, within))
count-told at (zero ∷ counts) s there = count-behind at zero counts s (count-told (at + 1) counts s there)
count-told at (suc n ∷ counts) s there =
    elim (Contains-cases (record { bit = at; count = suc n }) (counted_from (at + 1) counts) s there) as
    (λ _. CountFrom at (suc n ∷ counts) s) [
      | inl here ↦
          let place : at ≡ s.bit = ap (λ t. t.bit) here in
          let count : suc n ≡ s.count = ap (λ t. t.count) here in
          let none : s.bit - at ≡ zero = omega (arith, place) in
          (omega (arith, place), omega (arith, count), ap (λ k. slice_index_or (suc n ∷ counts) k 0) none ∙ count)
      | inr behind ↦ count-behind at (suc n) counts s (count-told (at + 1) counts s behind)
    ]

-- and each place whose count is above 0 is counted
count-has : (at : ℕ) (counts : List ℕ) (j i n : ℕ) → i ≡ at + j → 0 < n → slice_index_or counts j 0 ≡ n
    → Contains (counted_from at counts) (record { bit = i; count = n })
count-has at [] j i n e above is = absurd (omega (arith, above, is))
count-has at (zero ∷ counts) zero i n e above is = absurd (omega (arith, above, is))
count-has at (zero ∷ counts) (suc j) i n e above is = count-has (at + 1) counts j i n (omega (arith, e)) above is
count-has at (suc m ∷ counts) zero i n e above is =
    let here : i ≡ at = omega (arith, e) in
    rw (here, ← is) (Contains-first (record { bit = at; count = suc m }) (counted_from (at + 1) counts))
count-has at (suc m ∷ counts) (suc j) i n e above is =
    Contains-behind (record { bit = at; count = suc m }) (counted_from (at + 1) counts) (record { bit = i; count = n })
    (count-has (at + 1) counts j i n (omega (arith, e)) above is)

counts-rise : (at : ℕ) (counts : List ℕ) → AllPairs (λ s t. s.bit < t.bit) (counted_from at counts)
counts-rise at [] = λ i j d lt within. absurd (omega (arith, within))
counts-rise at (zero ∷ counts) = counts-rise (at + 1) counts
counts-rise at (suc n ∷ counts) =
    AllPairs-cons (λ s t. s.bit < t.bit) (record { bit = at; count = suc n }) (counted_from (at + 1) counts)
    (λ k d within.
    let later : CountFrom (at + 1) counts (slice_index_or (counted_from (at + 1) counts) k d)
    = count-told (at + 1) counts _ (Contains-get_or (counted_from (at + 1) counts) k d within) in
    omega (arith, later.0))
    (counts-rise (at + 1) counts)

pub ListsCounts-counted : (counts : List ℕ) → ListsCounts counts (counted counts)
ListsCounts-counted counts = record {
  exact = λ i n. (
    λ there. let told : CountFrom 0 counts (record { bit = i; count = n }) = count-told 0 counts _ there in
        (told.1, ap (λ k. slice_index_or counts k 0) (omega arith) ∙ told.2),
    λ held. count-has 0 counts i i n (omega arith) held.0 held.1,
  );
  rising = counts-rise 0 counts;
}
