-- Keys with those after them that aren't made yet.
use Rattle.std.proofs.Common.{ℕ, suc, ◌≡◌, inl, inr, ◌+◌, ◌-◌, ◌<◌, ◌≤◌, [], ◌∷◌, ◌++◌, length, arith, sym, ap, ◌∙◌}
use Rattle.std.proofs.lemmas.Bool.{cases_lt}
use Rattle.std.proofs.lemmas.List.{append_assoc, length-append}
use Rattle.std.proofs.lemmas.List.FromFn.{length-range_with_len}
use Rattle.std.specs.List.{range_with_len}
use Rattle.iox_container.specs.SlotTable.{Among, without}
use Rattle.iox_container.specs.LinkedKeys.{KeysInOrder, all_keys, with_next}
use Rattle.iox_container.proofs.Keys.{Among-append, Among-in_range, Among-left, Among-range, Among-right, without-append}

-- all keys stay where the next one is made
pub all_keys-next : (of : KeysInOrder) → of.made < of.room → all_keys (with_next of) ≡ all_keys of
all_keys-next of more =
    let left = of.room - (of.made + 1) in
    let count : of.room - of.made ≡ suc left = omega arith in
    append_assoc of.keys (of.made ∷ []) (range_with_len (of.made + 1) left)
    ∙ ap (λ n. of.keys ++ range_with_len of.made n) (sym count)

pub length-all_keys : (of : KeysInOrder) → length (all_keys of) ≡ length of.keys + (of.room - of.made)
length-all_keys of =
    length-append of.keys (range_with_len of.made (of.room - of.made)) ∙ ap (λ n. length of.keys + n)
    (length-range_with_len of.made (of.room - of.made))

-- a key that was made is none of those after
pub made-not_behind : (of : KeysInOrder) (key : ℕ) → key < of.made → Among key (range_with_len of.made (of.room - of.made)) → ⊥
made-not_behind of key low there =
    let within : (of.made ≤ key) × (key < of.made + (of.room - of.made))
    = Among-range of.made (of.room - of.made) key there in absurd (omega (arith, within.0))

-- of all keys, one that was made is linked
pub made-linked : (of : KeysInOrder) (key : ℕ) → key < of.made → Among key (all_keys of) → Among key of.keys
made-linked of key low there =
    elim (Among-append key of.keys _ there) as (λ _. Among key of.keys) [
      | inl h ↦ h
      | inr h ↦ absurd (made-not_behind of key low h)
    ]

-- a key that isn't one of all was made, and isn't linked
pub used-made : (of : KeysInOrder) (key : ℕ) → key < of.room → (Among key (all_keys of) → ⊥) → key < of.made
used-made of key within absent =
    elim (cases_lt key of.made) as (λ _. key < of.made) [
      | inl h ↦ h
      | inr h ↦ absurd (absent (Among-right key of.keys _ (Among-in_range of.made (of.room - of.made) key h (omega arith))))
    ]

pub used-not_linked : (of : KeysInOrder) (key : ℕ) → (Among key (all_keys of) → ⊥) → Among key of.keys → ⊥
used-not_linked of key absent there = absent (Among-left key of.keys _ there)

-- all keys without one that was made
pub all_keys-without : (of : KeysInOrder) (key : ℕ) → key < of.made
    → all_keys (record of { keys = without key of.keys }) ≡ without key (all_keys of)
all_keys-without of key low = sym (without-append key of.keys _ (made-not_behind of key low))
