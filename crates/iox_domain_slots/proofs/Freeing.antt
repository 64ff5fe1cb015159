-- The places of a segment while those without a use are freed, from the highest on.
use Rattle.std.proofs.Common.{arith, ◌≡◌, ◌+◌, ◌-◌, ◌<◌, ◌≤◌, ℕ, true, false, List, nat_lt, get_or, refl, sym, subst, ◌∙◌}
use Rattle.std.proofs.Math.Logic.{⊎_elim}
use Rattle.std.proofs.lemmas.Bool.Decides.{eqb_tells}
use Rattle.iox_container.specs.Unique.{UniqueSetState, is_held, freed, settled, Takes}
use Rattle.iox_container.specs.declared.release.ReleaseMode.TheVariants.{Default}

-- n of the highest places are held just where their slots have a use, and all others are held
pub record Freeing (start : UniqueSetState) (references : List ℕ) (first : ℕ) (now : UniqueSetState) (count : ℕ) : Type 0 where
  pub capacity : now.capacity ≡ start.capacity
  pub unlocked : now.locked ≡ false
  pub done : (index : ℕ) → index < start.capacity → start.capacity ≤ index + count
      → is_held index now ≡ nat_lt 0 (get_or references (first + index) 0)
  pub left : (index : ℕ) → index + count < start.capacity → is_held index now ≡ true

-- a place without a use is freed
pub one_freed : (start now : UniqueSetState) (references : List ℕ) (first count index : ℕ) → Freeing start references first now count
    → count < start.capacity
    → index ≡ start.capacity - 1 - count → get_or references (first + index) 0 ≡ 0 → Takes index (freed index now) now
    → Freeing start references first (settled Default (freed index now)) (count + 1)
one_freed start now references first count index so_far within is unused takes = record {
  capacity = so_far.capacity;
  unlocked = rw so_far.unlocked refl;
  done = λ other below behind. ⊎_elim
      (λ same. subst (λ i. is_held i (settled Default (freed index now)) ≡ nat_lt 0 (get_or references (first + i) 0)) (sym same.1)
      (takes.was_free ∙ sym (none (get_or references (first + index) 0) unused)))
      (λ apart. sym (takes.others other apart.1) ∙ so_far.done other below (omega (arith, behind, is, within, apart.1)))
      (eqb_tells other index);
  left = λ other below. sym (takes.others other (λ same. absurd (omega (arith, below, same, is, within)))) ∙ so_far.left other
      (omega (arith, below));
}
  where
    none : (uses : ℕ) → uses ≡ 0 → nat_lt 0 uses ≡ false
    none uses is = grind (arith, is)

-- a place whose slot has a use stays held
pub one_stays : (start now : UniqueSetState) (references : List ℕ) (first count index : ℕ) → Freeing start references first now count
    → count < start.capacity
    → index ≡ start.capacity - 1 - count → 0 < get_or references (first + index) 0 → Freeing start references first now (count + 1)
one_stays start now references first count index so_far within is used = record {
  capacity = so_far.capacity;
  unlocked = so_far.unlocked;
  done = λ other below behind. ⊎_elim
      (λ same. subst (λ i. is_held i now ≡ nat_lt 0 (get_or references (first + i) 0)) (sym same.1)
      (so_far.left index (omega (arith, is, within)) ∙ sym (some (get_or references (first + index) 0) used)))
      (λ apart. so_far.done other below (omega (arith, behind, is, within, apart.1)))
      (eqb_tells other index);
  left = λ other below. so_far.left other (omega (arith, below));
}
  where
    some : (uses : ℕ) → 0 < uses → nat_lt 0 uses ≡ true
    some uses used = grind (arith, used)
