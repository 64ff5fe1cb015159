-- Lists of free indices, as they are handed out and come back.
use Rattle.std.proofs.Common.{ℕ, zero, suc, ◌≡◌, ◌+◌, ◌<◌, ◌≤◌, ◌∷◌, ◌++◌, [], List, Bool, true, false, not, ◌&&◌, ◌||◌, length, arith}
use Rattle.std.proofs.Common.{refl, sym, ap, ◌∙◌, nat_lt, cond, replicate, reverse}
use Rattle.std.proofs.Math.ListN.{set}
use Rattle.std.proofs.Math.Logic.{⊎_elim}
use Rattle.std.specs.List.{AllByRecursion, IsDistinct, count_by, range_with_len}
use Rattle.std.proofs.lemmas.List.Sums.{sum_by-cons}
use Rattle.std.proofs.Math.Dec.{eqb}
use Rattle.std.proofs.lemmas.Bool.{eq-eqb}
use Rattle.std.proofs.lemmas.Bool.Decides.{eqb_tells, nat_tests}
use Rattle.std.proofs.lemmas.List.{length-set, length-replicate, get_or-replicate, get_or-set_same, get_or-set_other, reverse-append}
use Rattle.std.proofs.lemmas.Map.Steps.{length-le_from_distinct_below}
use Rattle.iox_container.specs.Unique.{UniqueSetState, AreFree, Takes, is_among, is_held}

left-false : (a b : Bool) → (a || b) ≡ false → a ≡ false
left-false false b h = refl
left-false true b h = cc

right-false : (a b : Bool) → (a || b) ≡ false → b ≡ false
right-false false b h = h
right-false true b h = cc

or-true : (a b : Bool) → b ≡ true → (a || b) ≡ true
or-true false b h = h
or-true true b h = refl

-- an index that isn't among others differs from each of them, and the other way round
differs : (index : ℕ) (indices : List ℕ) → is_among index indices ≡ false → AllByRecursion (λ other. eqb index other ≡ false) indices
differs index [] h = tt
differs index (x ∷ indices) h =
    (left-false (eqb index x) (is_among index indices) h, differs index indices (right-false (eqb index x) (is_among index indices) h))

absent : (index : ℕ) (indices : List ℕ) → AllByRecursion (λ other. eqb index other ≡ false) indices → is_among index indices ≡ false
absent index [] h = refl
absent index (x ∷ indices) h = rw h.0 (absent index indices h.1)

distinct-cons : (index : ℕ) (indices : List ℕ) → is_among index indices ≡ false → IsDistinct eqb indices → IsDistinct eqb (index ∷ indices)
unfolding IsDistinct
distinct-cons index indices new rest = (differs index indices new, rest)

distinct-rest : (index : ℕ) (indices : List ℕ) → IsDistinct eqb (index ∷ indices) → IsDistinct eqb indices
unfolding IsDistinct
distinct-rest index indices d = d.1

distinct-head : (index : ℕ) (indices : List ℕ) → IsDistinct eqb (index ∷ indices) → is_among index indices ≡ false
unfolding IsDistinct
distinct-head index indices d = absent index indices d.0

-- what is among the numbers from one on
range-below : (n from index : ℕ) → is_among index (range_with_len from n) ≡ true → index < from + n
range-below zero from index h = cc
range-below (suc n) from index h =
    ⊎_elim (λ same. omega (arith, same.1)) (λ other. let rest = range-below n (from + 1) index (rw other.0 at h) in omega (arith, rest))
    (eqb_tells index from)

range-has : (n from index : ℕ) → from ≤ index → index < from + n → is_among index (range_with_len from n) ≡ true
range-has zero from index low high = absurd (omega arith)
range-has (suc n) from index low high =
    ⊎_elim (λ same. rw same.0 refl)
    (λ other. rw other.0 (range-has n (from + 1) index (grind (arith, other.1)) (omega arith))) (eqb_tells index from)

range-lacks : (n from index : ℕ) → index < from → is_among index (range_with_len from n) ≡ false
range-lacks zero from index low = refl
range-lacks (suc n) from index low =
    ⊎_elim (λ same. absurd (omega (arith, same.1))) (λ other. rw other.0 (range-lacks n (from + 1) index (omega arith)))
    (eqb_tells index from)

distinct-none : IsDistinct eqb []
unfolding IsDistinct
distinct-none = tt

range-distinct : (n from : ℕ) → IsDistinct eqb (range_with_len from n)
range-distinct zero from = distinct-none
range-distinct (suc n) from = distinct-cons from (range_with_len (from + 1) n) (range-lacks n (from + 1) from (omega arith))
    (range-distinct n (from + 1))

-- no index is held at first
pub AreFree-start : (n : ℕ) → AreFree (replicate n false) (range_with_len 0 n)
AreFree-start n = record {
  distinct = range-distinct n 0;
  below = λ index among. rw (length-replicate n false) (omega (arith, range-below n 0 index among));
  marked = λ index less.
      let inside : index < n = rw (length-replicate n false) at less in
      get_or-replicate n index false true inside ∙ sym (ap (λ b. not b) (range-has n 0 index (omega arith) (omega (arith, inside))));
}

-- there is room for each free index
pub AreFree-fits : (held : List Bool) (free : List ℕ) → AreFree held free → length free ≤ length held
AreFree-fits held free f = length-le_from_distinct_below free (length held) f.distinct f.below

pub AreFree-first : (held : List Bool) (index : ℕ) (free : List ℕ) → AreFree held (index ∷ free) → index < length held
AreFree-first held index free f =
    f.below index (rw (eq-eqb index index refl) refl)

-- the first free index gets its holder
pub AreFree-taken : (held : List Bool) (index : ℕ) (free : List ℕ) → AreFree held (index ∷ free) → AreFree (set held index true) free
AreFree-taken held index free f = record {
  distinct = distinct-rest index free f.distinct;
  below = λ other among. rw (length-set held index true) (f.below other (or-true (eqb other index) (is_among other free) among));
  marked = λ other less.
      let inside : other < length held = rw (length-set held index true) at less in
      ⊎_elim
      (λ same. rw same.1 (get_or-set_same held index true true (AreFree-first held index free f) ∙ sym
      (ap (λ b. not b) (distinct-head index free f.distinct))))
      (λ apart. get_or-set_other held index other true true apart.1 ∙ f.marked other inside ∙ ap (λ b. not (b || is_among other free))
      apart.0)
      (eqb_tells other index);
}

-- an index that isn't free becomes the first free one
pub AreFree-freed : (held : List Bool) (index : ℕ) (free : List ℕ) → AreFree held free → index < length held → is_among index free ≡ false
    → AreFree (set held index false) (index ∷ free)
AreFree-freed held index free f less new = record {
  distinct = distinct-cons index free new f.distinct;
  below = λ other among.
      rw (length-set held index false) (
      ⊎_elim (λ same. omega (arith, same.1, less)) (λ apart. f.below other (rw apart.0 at among)) (eqb_tells other index));
  marked = λ other small.
      let inside : other < length held = rw (length-set held index false) at small in
      ⊎_elim
      (λ same. rw (same.1, eq-eqb index index refl) (get_or-set_same held index false true less))
      (λ apart. get_or-set_other held index other false true apart.1 ∙ f.marked other inside ∙ sym
      (ap (λ b. not (b || is_among other free)) apart.0))
      (eqb_tells other index);
}

-- there is room for one more free index where one is held
pub AreFree-room : (held : List Bool) (index : ℕ) (free : List ℕ) → AreFree held free → index < length held → is_among index free ≡ false
    → length free < length held
AreFree-room held index free f less new =
    let fits = AreFree-fits (set held index false) (index ∷ free) (AreFree-freed held index free f less new) in
    let long = length-set held index false in
    omega (arith, fits, long)

and-false : (a b : Bool) → b ≡ false → (a && b) ≡ false
and-false false b h = refl
and-false true b h = h

-- the first free index gets its holder, and no other index is touched
pub Takes-first : (held : List Bool) (index : ℕ) (free : List ℕ) (capacity : ℕ) (before after : Bool) → AreFree held (index ∷ free)
    → capacity ≡ length held
    → Takes index (record { capacity = capacity; free = index ∷ free; locked = before })
    (record { capacity = capacity; free = free; locked = after })
Takes-first held index free capacity before after f whole =
    let less : index < capacity = omega (arith, AreFree-first held index free f, whole) in
    record {
      was_free = and-false (nat_lt index capacity) (not (is_among index (index ∷ free))) (rw (eq-eqb index index refl) refl);
      is_taken = rw (distinct-head index free f.distinct) (grind (arith, nat_tests));
      others = λ other apart.
          ⊎_elim (λ same. absurd (apart same.1))
          (λ differs. ap (λ b. nat_lt other capacity && not (b || is_among other free)) (sym differs.0)) (eqb_tells other index);
    }

-- the last of a list is the first of its reverse
pub reverse-last : (xs ys : List ℕ) (x : ℕ) → xs ≡ ys ++ x ∷ [] → reverse xs ≡ x ∷ reverse ys
reverse-last xs ys x split = ap (λ zs. reverse zs) split ∙ reverse-append ys (x ∷ [])

and-both : (a b : Bool) → (a && b) ≡ true → (a ≡ true) × (b ≡ true)
and-both true b h = (refl, h)
and-both false b h = cc

not-true : (b : Bool) → not b ≡ true → b ≡ false
not-true true h = cc
not-true false h = refl

-- an index that is held is below the capacity, and not free
pub held-means : (index : ℕ) (set : UniqueSetState) → is_held index set ≡ true → (index < set.capacity) × (is_among index set.free ≡ false)
held-means index set h =
    let both = and-both (nat_lt index set.capacity) (not (is_among index set.free)) h in
    (grind (arith, nat_tests, both.0), not-true (is_among index set.free) both.1)

-- how many of these numbers aren't among others
abbrev pub count_absent : List ℕ → List ℕ → ℕ
count_absent indices numbers = count_by (λ number. not (is_among number indices)) numbers

absent-cons : (indices : List ℕ) (number : ℕ) (numbers : List ℕ)
    → count_absent indices (number ∷ numbers) ≡ cond (not (is_among number indices)) 1 0 + count_absent indices numbers
absent-cons indices number numbers = sum_by-cons (λ n. cond (not (is_among n indices)) 1 0) number numbers

-- a number below the range changes nothing
absent-skip : (n from index : ℕ) (indices : List ℕ) → index < from
    → count_absent (index ∷ indices) (range_with_len from n) ≡ count_absent indices (range_with_len from n)
absent-skip zero from index indices low = refl
absent-skip (suc n) from index indices low =
    ⊎_elim (λ same. absurd (omega (arith, same.1)))
    (λ other.
    absent-cons (index ∷ indices) from (range_with_len (from + 1) n)
    ∙ ap (λ b. cond (not (b || is_among from indices)) 1 0 + count_absent (index ∷ indices) (range_with_len (from + 1) n)) other.0
    ∙ ap (λ k. cond (not (is_among from indices)) 1 0 + k) (absent-skip n (from + 1) index indices (omega arith))
    ∙ sym (absent-cons indices from (range_with_len (from + 1) n)))
    (eqb_tells from index)

-- a number of the range that isn't among the others takes one off
absent-one : (n from index : ℕ) (indices : List ℕ) → is_among index indices ≡ false → from ≤ index → index < from + n
    → count_absent (index ∷ indices) (range_with_len from n) + 1 ≡ count_absent indices (range_with_len from n)
absent-one zero from index indices new low high = absurd (omega arith)
absent-one (suc n) from index indices new low high =
    let rest = range_with_len (from + 1) n in
    ⊎_elim
    (λ same.
    let here : ◌≡◌ {A = ℕ} (cond (not (is_among from (index ∷ indices))) 1 0) 0 = rw same.0 refl in
    let was : ◌≡◌ {A = ℕ} (cond (not (is_among from indices)) 1 0) 1 = rw (same.1, new) refl in
    omega (
      arith,
      absent-cons (index ∷ indices) from rest,
      absent-cons indices from rest,
      here,
      was,
      absent-skip n (from + 1) index
          indices (omega (arith, same.1)),
    ))
    (λ other.
    let same : ◌≡◌ {A = ℕ} (cond (not (is_among from (index ∷ indices))) 1 0) (cond (not (is_among from indices)) 1 0) = rw other.0 refl in
    omega (
      arith,
      absent-cons (index ∷ indices) from rest,
      absent-cons indices from rest,
      same,
      absent-one n (from + 1) index indices new
          (omega (arith, other.1)) (omega arith),
    ))
    (eqb_tells from index)

absent-none : (n from : ℕ) → count_absent [] (range_with_len from n) ≡ n
absent-none zero from = refl
absent-none (suc n) from = omega (arith, absent-cons [] from (range_with_len (from + 1) n), absent-none n (from + 1))

-- of the numbers below a bound, as many are absent as are left
absent-rest : (bound : ℕ) (free : List ℕ) → IsDistinct eqb free → ((index : ℕ) → is_among index free ≡ true → index < bound)
    → count_absent free (range_with_len 0 bound) + length free ≡ bound
absent-rest bound [] d below = omega (arith, absent-none bound 0)
absent-rest bound (index ∷ free) d below =
    let first : index < bound = below index (rw (eq-eqb index index refl) refl) in
    omega (
      arith,
      absent-one bound 0 index free (distinct-head index free d) (omega arith) (omega (arith, first)),
      absent-rest bound free (distinct-rest index free d)
          (λ other among. below other (or-true (eqb other index) (is_among other free) among)),
    )

-- below the capacity, what is held is what isn't free
held-absent : (n from : ℕ) (set : UniqueSetState) → from + n ≤ set.capacity
    → count_by (λ index. is_held index set) (range_with_len from n) ≡ count_absent set.free (range_with_len from n)
held-absent zero from set high = refl
held-absent (suc n) from set high =
    let inside : nat_lt from set.capacity ≡ true = grind (arith, nat_tests) in
    sum_by-cons (λ index. cond (is_held index set) 1 0) from (range_with_len (from + 1) n)
    ∙ ap (λ b. cond (b && not (is_among from set.free)) 1 0 + count_by (λ index. is_held index set) (range_with_len (from + 1) n)) inside
    ∙ ap (λ k. cond (not (is_among from set.free)) 1 0 + k) (held-absent n (from + 1) set (omega arith))
    ∙ sym (absent-cons set.free from (range_with_len (from + 1) n))

-- the held indices are as many as are left by the free ones
pub held-counted : (held : List Bool) (set : UniqueSetState) → set.capacity ≡ length held → AreFree held set.free
    → count_by (λ index. is_held index set) (range_with_len 0 set.capacity) + length set.free ≡ set.capacity
held-counted held set whole f =
    omega (
      arith,
      held-absent set.capacity 0 set (omega arith),
      absent-rest set.capacity set.free f.distinct (λ index among. omega (arith, f.below index among, whole)),
    )
