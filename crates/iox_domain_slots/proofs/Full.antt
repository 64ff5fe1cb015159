-- When the places of a segment are all held, and when none of them is.
use Rattle.std.proofs.Common.{rules, arith, ◌≡◌, ◌+◌, ◌-◌, ◌<◌, ◌≤◌, ◌∷◌, [], ◌++◌, ℕ, length, zero, suc, Bool, true, false, not, ◌&&◌}
use Rattle.std.proofs.Common.{List, take, nat_lt, get_or, replicate, Err, refl, sym, subst, ◌∙◌}
use Rattle.std.specs.List.{range_with_len}
use Rattle.std.proofs.Math.ListN.{get_or-replicate}
use Rattle.std.proofs.lemmas.List.{get_or_past, length-replicate, take_all}
use Rattle.iox_container.specs.declared.error.UniqueIndexSetAcquireFailure.{UniqueIndexSetAcquireFailure}
use Rattle.iox_container.specs.Unique.{answer_of, is_among, is_held, new_unique_set}
use Rattle.iox_container.proofs.FreeLists.{AreFree-start}
use Rattle.iox_domain_slots.specs.Counting.{SlotsState}

-- a set of indices that refuses an acquire although it isn't locked has each index held
pub all_held : (free : List ℕ) (capacity : ℕ) (e : UniqueIndexSetAcquireFailure) → Err e ≡ answer_of false free
    → (index : ℕ) → index < capacity → (nat_lt index capacity && not (is_among index free)) ≡ true
all_held [] capacity e answered index below = grind (arith, below)
all_held (x ∷ xs) capacity e answered index below = search (rules, answered)

-- where each place of a segment is held, each of its slots has a use
pub all_used : (references : List ℕ) (first size : ℕ) (held : ℕ → Bool)
    → ((index : ℕ) → index < size → held index ≡ nat_lt 0 (get_or references (first + index) 0))
    → ((index : ℕ) → index < size → held index ≡ true)
    → (slot : ℕ) → first ≤ slot → slot < first + size → 0 < get_or references slot 0
all_used references first size held marks all slot low high =
    let at : first + (slot - first) ≡ slot = omega (arith, low) in
    let below : slot - first < size = omega (arith, low, high) in
    let used : nat_lt 0 (get_or references (first + (slot - first)) 0) ≡ true
    = sym (marks (slot - first) below) ∙ all (slot - first) below in
    let there : 0 < get_or references (first + (slot - first)) 0 = grind (arith, used) in
    subst (λ k. 0 < get_or references k 0) at there

-- the bookkeeping with segments of another size
abbrev pub with_size : SlotsState → ℕ → SlotsState
with_size slots size = record slots { size = size }

-- of a new set no index is held
pub none_held : (size index : ℕ) → index < size → is_held index (new_unique_set size) ≡ false
none_held size index below =
    let free : get_or (replicate size false) index true ≡ not (is_among index (range_with_len 0 size)) =
    (AreFree-start size).marked index (rw (length-replicate size false) below) in
    let off : not (is_among index (range_with_len 0 size)) ≡ false = sym free ∙ get_or-replicate size index false true below in
    grind (arith, off)

none_at : (size index : ℕ) → nat_lt 0 (get_or (replicate size 0) index 0) ≡ false
none_at zero index = refl
none_at (suc size) zero = refl
none_at (suc size) (suc index) = none_at size index

-- of new slots none has a use
pub none_used : (size index : ℕ) → nat_lt 0 (get_or (replicate size 0) (0 + index) 0) ≡ false
none_used size index = none_at size (0 + index)

-- slots without a use after others change nobody's count
pub count_stays : (references : List ℕ) (size slot : ℕ) → get_or (references ++ replicate size 0) slot 0 ≡ get_or references slot 0
count_stays [] zero slot = refl
count_stays [] (suc size) zero = refl
count_stays [] (suc size) (suc slot) = count_stays [] size slot
count_stays (x ∷ references) size zero = refl
count_stays (x ∷ references) size (suc slot) = count_stays references size slot

-- of the slots of a new segment none has a use
pub segment_unused : (references : List ℕ) (size index : ℕ)
    → nat_lt 0 (get_or (references ++ replicate size 0) (length references + index) 0) ≡ false
segment_unused references size index
    = rw (count_stays references size (length references + index))
    (rw (get_or_past references (length references + index) 0 (omega arith)) refl)

-- a list that is filled up to as many more
pub filled_up : (xs : List ℕ) (size : ℕ) → take (length xs + size) xs ++ replicate (length xs + size - length xs) 0 ≡ xs ++ replicate size 0
filled_up xs size =
    let more : length xs + size - length xs ≡ size = omega arith in
    rw (take_all (length xs + size) xs (omega arith)) (rw more refl)
