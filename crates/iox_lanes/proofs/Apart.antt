-- Messages of which no two stand in one slot: each may be found after those before it.
use Rattle.std.proofs.Common.{arith, ℕ, zero, suc, ◌≡◌, ◌+◌, ◌<◌, ◌==◌, false, List, [], ◌∷◌, ◌++◌, length, map}
use Rattle.std.proofs.Common.{slice_get, option_map, Option, None, Some, refl, sym, ap, ◌∙◌, inl, inr}
use Rattle.std.proofs.lemmas.Bool.{eqb-false}
use Rattle.std.proofs.lemmas.Bool.Decides.{eqb_tells}
use Rattle.std.proofs.lemmas.Option.{slice_get-map, slice_get_within}
use Rattle.iox_domain.specs.DomainPorts.Messages.{Message}
use Rattle.iox_lanes_machine.specs.LedgerUses.{one_if, count}
use Rattle.iox_lanes_machine.proofs.Ends.{some_is}
use Rattle.iox_lanes_opening.specs.Soundness.{has_twice, share_slot, stands_again}
use Rattle.iox_lanes_opening.proofs.Again.{none_below}

-- each of these numbers is none of those, and none before it among these
abbrev pub AreApart : List ℕ → List ℕ → Type 0
AreApart seen [] = Unit {0}
AreApart seen (slot ∷ slots) = (count slot seen ≡ 0) × AreApart (seen ++ slot ∷ []) slots

pub not_same : (one other : ℕ) → (one ≡ other → ⊥) → (one == other) ≡ false
not_same one other apart = elim (eqb_tells one other) [
  | inl same ↦ absurd (apart same.1)
  | inr other ↦ other.0
]

-- another number more leaves one where it was not
count_last : (y x : ℕ) (seen : List ℕ) → (x ≡ y → ⊥) → count y seen ≡ 0 → count y (seen ++ x ∷ []) ≡ 0
count_last y x [] apart none = ap (λ b. one_if b + 0) (not_same x y apart)
count_last y x (z ∷ seen) apart none = omega (arith, none, count_last y x seen apart (omega (arith, none)))

apart_from : (seen xs : List ℕ) → ((at x : ℕ) → slice_get xs at ≡ Some x → count x seen ≡ 0)
    → ((one other x y : ℕ) → one < other → slice_get xs one ≡ Some x → slice_get xs other ≡ Some y → x ≡ y → ⊥) → AreApart seen xs
apart_from seen [] none pairs = tt
apart_from seen (x ∷ xs) none pairs = (
  none zero x refl,
  apart_from (seen ++ x ∷ []) xs
      (λ at y is. count_last y x seen (pairs zero (suc at) x y (omega arith) refl is) (none (suc at) y is))
      (λ one other y z less is too. pairs (suc one) (suc other) y z (omega (arith, less)) is too),
)

module _ {T U : Type 0} (messages : List (Message T U)) (first : ℕ) (once : has_twice messages ≡ false) where
  own_slot : (at slot : ℕ) → slice_get (map (λ message. first + message.slot) messages) at ≡ Some slot
      → (message : Message T U) × (slice_get messages at ≡ Some message) × (slot ≡ first + message.slot)
  own_slot at slot is = by (slice_get messages at) refl
    where
      by : (there : Option (Message T U)) → slice_get messages at ≡ there
          → (message : Message T U) × (slice_get messages at ≡ Some message) × (slot ≡ first + message.slot)
      by None there = absurd (cc (sym is ∙ slice_get-map (λ message. first + message.slot) messages at ∙ ap
          (option_map (λ message. first + message.slot)) there))
      by (Some message) there = (
        message,
        there,
        some_is slot (first + message.slot) (sym is
            ∙ slice_get-map (λ message. first + message.slot) messages at ∙ ap (option_map (λ message. first + message.slot)) there),
      )

  slots_differ : (one other x y : ℕ) → one < other → slice_get (map (λ message. first + message.slot) messages) one ≡ Some x
      → slice_get (map (λ message. first + message.slot) messages) other ≡ Some y → x ≡ y → ⊥
  slots_differ one other x y less is too same =
      let left = own_slot one x is in
      let right = own_slot other y too in
      let again = none_below (stands_again messages) (length messages) other once (slice_get_within messages other right.0 right.1) in
      let apart = none_below (λ k. share_slot (slice_get messages k) (slice_get messages other)) other one again less in
      let unshared : (left.0.slot == right.0.slot) ≡ false =
      ap (λ a. share_slot a (Some right.0)) (sym left.1) ∙ ap (share_slot (slice_get messages one)) (sym right.1) ∙ apart in
      eqb-false left.0.slot right.0.slot unshared (omega (arith, left.2, right.2, same))

  -- their slots are apart
  pub slots_apart : AreApart [] (map (λ message. first + message.slot) messages)
  slots_apart = apart_from [] (map (λ message. first + message.slot) messages) (λ at x is. refl) slots_differ
