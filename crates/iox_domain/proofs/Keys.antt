-- The keys of a subscriber stay in order.
use Rattle.std.proofs.Common.{arith, ◌≡◌, ◌≢◌, ◌+◌, ◌<◌, ◌≤◌, ◌==◌, ◌∷◌, [], ◌++◌, ℕ, zero, suc, Bool, true, false, List, length, get_or}
use Rattle.std.proofs.Common.{set, remove, replicate, slice_get, Option, None, Some, refl, sym, ap, ◌∙◌, if◌then◌else◌}
use Rattle.std.proofs.lemmas.Bool.{eq-eqb, eqb-true}
use Rattle.iox_domain.specs.DomainSlots.Counting.{times}
use Rattle.iox_domain.proofs.DomainSlots.Counts.{times_cons}
use Rattle.iox_domain.proofs.DomainSlots.Enough.{pigeons}
use Rattle.iox_domain.specs.Container.SlotTable.{without}
use Rattle.iox_domain.specs.Attaching.{keys_at}
use Rattle.iox_domain.specs.Tries.{how_often}

-- what one adds to the count of another
abbrev pub adds : ℕ → ℕ → ℕ
adds key other = if key == other then 1 else 0

pub adds_same : (key other : ℕ) → key ≡ other → adds key other ≡ 1
adds_same key other same = ap (λ b. if b then 1 else 0) (eq-eqb key other same)

pub adds_other : (key other : ℕ) → key ≢ other → adds key other ≡ 0
adds_other key other not = by_case (key == other) refl
  where
    by_case : (b : Bool) → (key == other) ≡ b → adds key other ≡ 0
    by_case true is = absurd (not (eqb-true key other is))
    by_case false is = ap (λ b. if b then 1 else 0) is

pub often_append : (key : ℕ) (xs ys : List ℕ) → how_often key (xs ++ ys) ≡ how_often key xs + how_often key ys
often_append key [] ys = omega arith
often_append key (x ∷ xs) ys = omega (arith, often_append key xs ys)

pub often_end : (key x : ℕ) (xs : List ℕ) → how_often key (xs ++ x ∷ []) ≡ how_often key xs + adds key x
often_end key x xs = omega (arith, often_append key xs (x ∷ []))

pub often_remove : (key at x : ℕ) (xs : List ℕ) → slice_get xs at ≡ Some x → how_often key (remove xs at) + adds key x ≡ how_often key xs
often_remove key at x [] is = cc
often_remove key zero x (y ∷ xs) is = let same : y ≡ x = cc in omega (arith, ap (λ n. adds key n) same)
often_remove key (suc at) x (y ∷ xs) is = omega (arith, often_remove key at x xs is)

pub often_there : (key at : ℕ) (xs : List ℕ) → slice_get xs at ≡ Some key → 0 < how_often key xs
often_there key at xs is = omega (arith, often_remove key at key xs is, adds_same key key refl)

pub length_remove : (at x : ℕ) (xs : List ℕ) → slice_get xs at ≡ Some x → length (remove xs at) + 1 ≡ length xs
length_remove at x [] is = cc
length_remove zero x (y ∷ xs) is = omega arith
length_remove (suc at) x (y ∷ xs) is = omega (arith, length_remove at x xs is)

-- a key is taken out of the free ones
pub often_without : (key out : ℕ) (xs : List ℕ) → key ≢ out → how_often key (without out xs) ≡ how_often key xs
often_without key out [] not = refl
often_without key out (x ∷ xs) not = by_case (x == out) refl (often_without key out xs not)
  where
    by_case : (b : Bool) → (x == out) ≡ b → how_often key (without out xs) ≡ how_often key xs
        → how_often key (if b then without out xs else x ∷ without out xs) ≡ how_often key (x ∷ xs)
    by_case true is rest = omega (arith, rest, adds_other key x (λ same. not (same ∙ eqb-true x out is)))
    by_case false is rest = omega (arith, rest)

pub none_without : (key : ℕ) (xs : List ℕ) → how_often key (without key xs) ≡ 0
none_without key [] = refl
none_without key (x ∷ xs) = by_case (x == key) refl (none_without key xs)
  where
    by_case : (b : Bool) → (x == key) ≡ b → how_often key (without key xs) ≡ 0
        → how_often key (if b then without key xs else x ∷ without key xs) ≡ 0
    by_case true is rest = rest
    by_case false is rest = omega (arith, rest, adds_other key x (λ same. let no : true ≡ false = sym (eq-eqb x key (sym same)) ∙ is in cc))

-- the keys of places
pub keys_untied : (key place out : ℕ) (places : List (Option ℕ)) → get_or places place None ≡ Some out
    → how_often key (keys_at (set places place None)) + adds key out ≡ how_often key (keys_at places)
keys_untied key place out [] is = cc
keys_untied key zero out (None ∷ places) is = cc
keys_untied key zero out (Some there ∷ places) is = let same : there ≡ out = cc in omega (arith, ap (λ n. adds key n) same)
keys_untied key (suc place) out (None ∷ places) is = keys_untied key place out places is
keys_untied key (suc place) out (Some there ∷ places) is = omega (arith, keys_untied key place out places is)

pub keys_tied : (key place new : ℕ) (places : List (Option ℕ)) → place < length places → get_or places place None ≡ None
    → how_often key (keys_at (set places place (Some new))) ≡ how_often key (keys_at places) + adds key new
keys_tied key place new [] within is = absurd (omega (arith, within))
keys_tied key zero new (None ∷ places) within is = omega arith
keys_tied key zero new (Some there ∷ places) within is = cc
keys_tied key (suc place) new (None ∷ places) within is = keys_tied key place new places (omega (arith, within)) is
keys_tied key (suc place) new (Some there ∷ places) within is = omega (arith, keys_tied key place new places (omega (arith, within)) is)

keys_none : (n : ℕ) → keys_at (replicate n None) ≡ []
keys_none zero = refl
keys_none (suc n) = keys_none n

pub keys_reached : (n : ℕ) (places : List (Option ℕ)) → keys_at (places ++ replicate n None) ≡ keys_at places
keys_reached n [] = keys_none n
keys_reached n (None ∷ places) = keys_reached n places
keys_reached n (Some key ∷ places) = ap (λ all. key ∷ all) (keys_reached n places)

pub keys_few : (places : List (Option ℕ)) → length (keys_at places) ≤ length places
keys_few [] = omega arith
keys_few (None ∷ places) = omega (arith, keys_few places)
keys_few (Some key ∷ places) = omega (arith, keys_few places)

pub keys_fewer : (place : ℕ) (places : List (Option ℕ)) → place < length places → get_or places place None ≡ None
    → length (keys_at places) < length places
keys_fewer place [] within is = absurd (omega (arith, within))
keys_fewer zero (None ∷ places) within is = omega (arith, keys_few places)
keys_fewer zero (Some key ∷ places) within is = cc
keys_fewer (suc place) (None ∷ places) within is = omega (arith, keys_fewer place places (omega (arith, within)) is)
keys_fewer (suc place) (Some key ∷ places) within is = omega (arith, keys_fewer place places (omega (arith, within)) is)

pub key_there : (place key : ℕ) (places : List (Option ℕ)) → get_or places place None ≡ Some key → 0 < how_often key (keys_at places)
key_there place key places is = omega (arith, keys_untied key place key places is, adds_same key key refl)

-- the two ways of counting are one
counted_so : (key : ℕ) (xs : List ℕ) → times key xs ≡ how_often key xs
counted_so key [] = refl
counted_so key (x ∷ xs) = omega (arith, times_cons key x xs, counted_so key xs)

-- where each number below a limit stands in a list, the list is as long
pub as_long : (n : ℕ) (xs : List ℕ) → ((key : ℕ) → key < n → 0 < how_often key xs) → n ≤ length xs
as_long n xs all = pigeons 0 n xs (λ key from to. omega (arith, counted_so key xs, all key (omega (arith, to))))
