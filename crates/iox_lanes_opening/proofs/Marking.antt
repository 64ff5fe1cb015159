-- Slots that are marked while messages are gone over: which marks there are, and what they tell of the messages.
use Rattle.std.proofs.Common.{arith, ℕ, zero, suc, ◌≡◌, ◌+◌, ◌-◌, ◌*◌, ◌/◌, ◌<◌, ◌≤◌, ◌&&◌, ◌||◌, ◌==◌, ◌∷◌, [], Bool, true, false}
use Rattle.std.proofs.Common.{not, nat_lt, List, length, get_or, set, replicate, slice_get, Some, refl, sym, ap}
use Rattle.std.proofs.Common.{subst, ◌∙◌, inl, inr, if◌then◌else◌}
use Rattle.std.proofs.lemmas.Bool.Decides.{eqb_tells}
use Rattle.std.proofs.lemmas.List.{length-replicate, length-set, get_or-set_same, get_or-set_other}
use Rattle.std.proofs.lemmas.Nat.{div-add-mod', mod_below}
use Rattle.iox_domain.specs.DomainPorts.Messages.{Message}
use Rattle.iox_lanes_opening.specs.SharedSlots.{at_once, is_marked, marked, slots_of, AreApartBelow, AreApartFrom}
use Rattle.iox_lanes_opening.specs.Soundness.{any_below, has_twice, share_slot, stands_again}
use Rattle.iox_lanes_opening.proofs.Again.{any_at, share_at}

-- what is so of none of them, one by one
none_each : (test : ℕ → Bool) (many : ℕ) → ((k : ℕ) → k < many → test k ≡ false) → any_below test many ≡ false
none_each test zero none = refl
none_each test (suc many) none =
    ap (λ b. b || test many) (none_each test many (λ k below. none k (omega (arith, below)))) ∙ none many (omega arith)

some_is : (a b : ℕ) → Some a ≡ Some b → a ≡ b
some_is a b same = cc

both_true : (a b : Bool) → (a && b) ≡ true → (a ≡ true) × (b ≡ true)
both_true true true is = (refl, refl)
both_true true false is = absurd (cc is)
both_true false b is = absurd (cc is)

not_less : (slot first : ℕ) → nat_lt slot first ≡ false → first ≤ slot
not_less slot first less = grind (arith, less)

is_less : (slot first : ℕ) → nat_lt slot first ≡ true → slot < first
is_less slot first less = grind (arith, less)

not_true : (b : Bool) → not b ≡ true → b ≡ false
not_true true is = absurd (cc is)
not_true false is = refl

false_true : false ≡ true → ⊥
false_true same = cc same

self_same : (slot : ℕ) → (slot == slot) ≡ true
self_same slot = elim (eqb_tells slot slot) [
  | inl same ↦ same.0
  | inr other ↦ absurd (other.1 refl)
]

unmarked : (count offset : ℕ) → get_or (replicate count false) offset false ≡ false
unmarked zero offset = refl
unmarked (suc count) zero = refl
unmarked (suc count) (suc offset) = unmarked count offset

module _ {T U : Type 0} where
  pub slot_there : (messages : List (Message T U)) (place : ℕ) → place < length messages
      → (slot : ℕ) × (slice_get (slots_of messages) place ≡ Some slot)
  slot_there [] place below = absurd (omega (arith, below))
  slot_there (message ∷ messages) zero below = (message.slot, refl)
  slot_there (message ∷ messages) (suc place) below = slot_there messages place (omega (arith, below))

  pub slot_within : (messages : List (Message T U)) (place slot : ℕ) → slice_get (slots_of messages) place ≡ Some slot
      → place < length messages
  slot_within [] place slot is = absurd (cc is)
  slot_within (message ∷ messages) zero slot is = omega arith
  slot_within (message ∷ messages) (suc place) slot is = omega (arith, slot_within messages place slot is)

  -- one message or none is in the slot of no other
  pub few_apart : (messages : List (Message T U)) → length messages < 2 → has_twice messages ≡ false
  few_apart [] few = refl
  few_apart (message ∷ []) few = refl
  few_apart (message ∷ next ∷ messages) few = absurd (omega (arith, few))

  -- no part of the slots has a message that is in the slot of an earlier one
  pub all_apart : (messages : List (Message T U)) (limit : ℕ) → AreApartBelow limit messages
      → ((place slot : ℕ) → slice_get (slots_of messages) place ≡ Some slot → slot < limit) → has_twice messages ≡ false
  all_apart messages limit apart below = none_each (stands_again messages) (length messages) (λ place within.
      let there = slot_there messages place within in
      apart place there.0 there.1 (below place there.0 there.1))

  -- one part more
  pub part_apart : (messages : List (Message T U)) (part : ℕ) → AreApartBelow (part * at_once) messages
      → AreApartFrom (part * at_once) messages → AreApartBelow ((part + 1) * at_once) messages
  part_apart messages part before here place slot is below = by (nat_lt slot (part * at_once)) refl
    where
      by : (less : Bool) → nat_lt slot (part * at_once) ≡ less → stands_again messages place ≡ false
      by true less = before place slot is (is_less slot (part * at_once) less)
      by false less = here place slot is (not_less slot (part * at_once) less) (omega (arith, below))

-- the parts reach beyond the largest slot
pub parts_reach : (largest : ℕ) → largest < (largest / 4096 + 1) * 4096
parts_reach largest = omega (arith, div-add-mod' largest 4096, mod_below largest 4096 (omega arith))

-- What is marked, from the slot `first` on, once the messages before `place` were gone over: the slots of these messages. None of them is
-- in the slot of an earlier one.
pub record AreMarked {T U : Type 0} (messages : List (Message T U)) (first place : ℕ) (marks : List Bool) : Type 0 where
  pub many : length marks ≡ at_once
  pub met : (offset : ℕ) → get_or marks offset false ≡ true
      → (k : ℕ) × (k < place) × (slice_get (slots_of messages) k ≡ Some (first + offset))
  pub all : (k slot : ℕ) → k < place → slice_get (slots_of messages) k ≡ Some slot → first ≤ slot → slot < first + at_once
      → get_or marks (slot - first) false ≡ true
  pub apart : (k slot : ℕ) → k < place → slice_get (slots_of messages) k ≡ Some slot → first ≤ slot → slot < first + at_once
      → stands_again messages k ≡ false

module _ {T U : Type 0} (messages : List (Message T U)) (first : ℕ) where
  -- nothing is marked at first
  pub none_marked : (count : ℕ) → count ≡ at_once → AreMarked messages first 0 (replicate count false)
  none_marked count many = record {
    many = length-replicate count false ∙ many;
    met = λ offset is. absurd (false_true (sym (unmarked count offset) ∙ is));
    all = λ k slot below is least most. absurd (omega (arith, below));
    apart = λ k slot below is least most. absurd (omega (arith, below));
  }

  module _ (place slot : ℕ) (marks : List Bool) (before : AreMarked messages first place marks)
      (here : slice_get (slots_of messages) place ≡ Some slot) where
    -- a slot that is marked is that of an earlier message
    pub met_again : place < length messages → is_marked first slot marks ≡ true → has_twice messages ≡ true
    met_again within is =
        let both = both_true (not (nat_lt slot first)) (get_or marks (slot - first) false) is in
        let least = not_less slot first (not_true (nat_lt slot first) both.0) in
        let (k, less, there) = before.met (slot - first) both.1 in
        let at : first + (slot - first) ≡ slot = omega (arith, least) in
        let too : slice_get (slots_of messages) k ≡ Some slot = there ∙ ap (λ n. Some n) at in
        let shared : share_slot (slice_get messages k) (slice_get messages place) ≡ true =
        share_at messages k place slot slot too here ∙ self_same slot in
        let again : stands_again messages place ≡ true =
        any_at (λ other. share_slot (slice_get messages other) (slice_get messages place)) place k less shared in
        any_at (stands_again messages) (length messages) place within again

    -- one that isn't is that of no earlier one
    not_again : place < length messages → get_or marks (slot - first) false ≡ false → first ≤ slot → slot < first + at_once
        → stands_again messages place ≡ false
    not_again within unmarked least most = none_each (λ other. share_slot (slice_get messages other) (slice_get messages place)) place
        (λ other less.
        let there = slot_there messages other (omega (arith, less, within)) in
        share_at messages other place there.0 slot there.1 here ∙ elim (eqb_tells there.0 slot) [
          | inl same ↦
              let too : slice_get (slots_of messages) other ≡ Some slot = there.1 ∙ ap (λ n. Some n) same.1 in
              absurd (false_true (sym unmarked ∙ before.all other slot less too least most))
          | inr apart ↦ apart.0
        ])

    -- the slot of one message more is marked
    pub one_marked : place < length messages → is_marked first slot marks ≡ false
        → AreMarked messages first (place + 1) (marked first slot marks)
    one_marked within un = by (nat_lt slot first) refl
      where
        same_slot : (k other : ℕ) → k ≡ place → slice_get (slots_of messages) k ≡ Some other → other ≡ slot
        same_slot k other is there
            = some_is other slot (sym there ∙ ap (slice_get (slots_of messages)) is ∙ here)

        by : (less : Bool) → nat_lt slot first ≡ less → AreMarked messages first (place + 1) (marked first slot marks)
        by true less =
            let still : marked first slot marks ≡ marks = ap (λ b. if b then marks else set marks (slot - first) true) less in
            subst (AreMarked messages first (place + 1)) (sym still) (record {
              many = before.many;
              met = λ offset is.
                  let (k, less, there) = before.met offset is in
                  (k, omega (arith, less), there);
              all = λ k other below there least most. elim (eqb_tells k place) [
                | inl same ↦ absurd (omega (arith, least, is_less slot first less, same_slot k other same.1 there))
                | inr apart ↦ before.all k other (omega (arith, below, apart.1)) there least most
              ];
              apart = λ k other below there least most. elim (eqb_tells k place) [
                | inl same ↦ absurd (omega (arith, least, is_less slot first less, same_slot k other same.1 there))
                | inr apart ↦ before.apart k other (omega (arith, below, apart.1)) there least most
              ];
            })
        by false less =
            let put : marked first slot marks ≡ set marks (slot - first) true
            = ap (λ b. if b then marks else set marks (slot - first) true) less in
            let not_yet : get_or marks (slot - first) false ≡ false
            = sym (ap (λ b. not b && get_or marks (slot - first) false) less) ∙ un in
            let floor = not_less slot first less in
            subst (AreMarked messages first (place + 1)) (sym put) (record {
              many = length-set marks (slot - first) true ∙ before.many;
              met = λ offset is. elim (eqb_tells offset (slot - first)) [
                | inl same ↦
                    let at : slot ≡ first + offset = omega (arith, same.1, floor) in
                    (place, omega arith, here ∙ ap (λ n. Some n) at)
                | inr apart ↦
                    let (k, less, there) = before.met offset
                    (sym (get_or-set_other marks (slot - first) offset true false apart.1) ∙ is) in
                    (k, omega (arith, less), there)
              ];
              all = λ k other below there least most. elim (eqb_tells (other - first) (slot - first)) [
                | inl same ↦
                    let inside : other - first < length marks = omega (arith, most, least, before.many) in
                    ap (λ n. get_or (set marks (slot - first) true) n false) same.1
                    ∙ get_or-set_same marks (slot - first) true false (omega (arith, inside, same.1))
                | inr apart ↦ elim (eqb_tells k place) [
                  | inl same ↦ absurd (apart.1 (ap (λ n. n - first) (same_slot k other same.1 there)))
                  | inr earlier ↦ get_or-set_other marks (slot - first) (other - first) true false apart.1
                      ∙ before.all k other (omega (arith, below, earlier.1)) there least most
                ]
              ];
              apart = λ k other below there least most. elim (eqb_tells k place) [
                | inl same ↦
                    let is : other ≡ slot = same_slot k other same.1 there in
                    ap (stands_again messages) same.1 ∙ not_again within not_yet floor (omega (arith, most, is))
                | inr apart ↦ before.apart k other (omega (arith, below, apart.1)) there least most
              ];
            })
