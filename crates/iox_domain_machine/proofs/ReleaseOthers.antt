-- What lies in one slot leaves a list, and what lies in others stays.
use Rattle.std.proofs.Common.{◌≡◌, ◌≢◌, ◌≤◌, ◌<◌, ◌+◌, ◌∷◌, [], ℕ, Bool, true, cond, not, List, map, refl, sym, ap, ◌∙◌, arith}
use Rattle.std.proofs.Math.Logic.{⊎_elim}
use Rattle.std.proofs.lemmas.Bool.{eq-eqb, ne_eqb}
use Rattle.std.proofs.lemmas.Bool.Decides.{eqb_tells}
use Rattle.std.specs.List.{position_or_len, remove}
use Rattle.std.specs.Prelude.{filter, find, ◌==◌, Some}
use Rattle.iox_domain.proofs.DomainSlots.Counts.{one, one_same, times_cons}
use Rattle.iox_domain.specs.DomainPorts.Messages.{Message}
use Rattle.iox_domain.specs.DomainSlots.Counting.{times}
use Rattle.iox_domain_machine.specs.Naming.{message_as}
use Rattle.iox_domain_machine.proofs.Loans.{alike}
use Rattle.iox_domain_machine.proofs.Removing.{after_one, but, but_on, but_off}
use Rattle.iox_machine.specs.Message as machine

module _ {X : Type 0} (slot_of : X → ℕ) (slot : ℕ) where
  abbrev here : X → Bool
  here x = slot_of x == slot

  -- what lies in another slot
  abbrev pub in_others : List X → List X
  in_others xs = filter (λ x. not (slot_of x == slot)) xs

  pub others_on : (x : X) (xs : List X) → (slot_of x == slot) ≡ true → in_others (x ∷ xs) ≡ in_others xs
  others_on x xs on = ap (λ b. cond (not b) (x ∷ in_others xs) (in_others xs)) on

  pub others_off : (x : X) (xs : List X) → slot_of x ≢ slot → in_others (x ∷ xs) ≡ x ∷ in_others xs
  others_off x xs off = ap (λ b. cond (not b) (x ∷ in_others xs) (in_others xs)) (ne_eqb (slot_of x) slot off)

  counts_here : (x : X) → slot_of x ≡ slot → one slot (slot_of x) ≡ 1
  counts_here x same = ap (λ b. cond b 1 0) (alike slot (slot_of x) same)

  none_here : (xs : List X) → times slot (map slot_of xs) ≡ 0 → in_others xs ≡ xs
  none_here [] none = refl
  none_here (x ∷ xs) none = ⊎_elim
      (λ same. absurd (omega (arith, none, times_cons slot (slot_of x) (map slot_of xs), counts_here x same.1)))
      (λ off. others_off x xs off.1
      ∙ ap (λ rest. x ∷ rest) (none_here xs (omega (arith, none, times_cons slot (slot_of x) (map slot_of xs)))))
      (eqb_tells (slot_of x) slot)

  -- where one lies there at most, the others are what is left without the first that does
  pub removed_is : (xs : List X) → times slot (map slot_of xs) ≤ 1 → remove xs (position_or_len here xs) ≡ in_others xs
  removed_is [] once = refl
  removed_is (x ∷ xs) once = ⊎_elim
      (λ same.
      ap (λ b. remove (x ∷ xs) (cond (not b) (1 + position_or_len here xs) 0)) same.0
      ∙ sym (others_on x xs same.0
      ∙ none_here xs (omega (arith, once, times_cons slot (slot_of x) (map slot_of xs), counts_here x same.1))))
      (λ off.
      ap (λ b. remove (x ∷ xs) (cond (not b) (1 + position_or_len here xs) 0)) off.0
      ∙ ap (λ count. remove (x ∷ xs) count) (after_one (position_or_len here xs))
      ∙ ap (λ rest. x ∷ rest) (removed_is xs (omega (arith, once, times_cons slot (slot_of x) (map slot_of xs))))
      ∙ sym (others_off x xs off.1))
      (eqb_tells (slot_of x) slot)

  pub slots_in_others : (xs : List X) → map slot_of (in_others xs) ≡ but slot (map slot_of xs)
  slots_in_others [] = refl
  slots_in_others (x ∷ xs) = ⊎_elim
      (λ same. ap (map slot_of) (others_on x xs same.0) ∙ slots_in_others xs
      ∙ sym (but_on slot (slot_of x) (map slot_of xs) same.0))
      (λ off. ap (map slot_of) (others_off x xs off.1) ∙ ap (λ rest. slot_of x ∷ rest) (slots_in_others xs)
      ∙ sym (but_off slot (slot_of x) (map slot_of xs) off.0))
      (eqb_tells (slot_of x) slot)

  pub found_in_others : (other : ℕ) (xs : List X) → other ≢ slot
      → find (λ x. slot_of x == other) (in_others xs) ≡ find (λ x. slot_of x == other) xs
  found_in_others other [] apart = refl
  found_in_others other (x ∷ xs) apart = ⊎_elim
      (λ same.
      ap (find (λ x. slot_of x == other)) (others_on x xs same.0) ∙ found_in_others other xs apart
      ∙ sym (ap (λ b. cond b (Some x) (find (λ x. slot_of x == other) xs))
      (ne_eqb (slot_of x) other (λ it. apart (sym it ∙ same.1)))))
      (λ off.
      ap (find (λ x. slot_of x == other)) (others_off x xs off.1)
      ∙ ap (λ found. cond (slot_of x == other) (Some x) found) (found_in_others other xs apart))
      (eqb_tells (slot_of x) slot)

-- whoever has the name of a slot lies in it
abbrev pub NamesAlone : {T U : Type 0} → (ℕ → ℕ) → ℕ → List (Message T U) → Type 0
NamesAlone name slot messages =
    (other : ℕ) → 0 < times other (map (λ (message : Message _ _). message.slot) messages) → name other ≡ name slot → other ≡ slot

-- the machine gives back by the name what the domain does by the slot
pub named_in_others : {T U : Type 0} (name : ℕ → ℕ) (slot : ℕ) (messages : List (Message T U)) → NamesAlone name slot messages
    → filter (λ (message : machine.Message T). not (message.number == name slot)) (map (message_as name) messages)
    ≡ map (message_as name) (in_others (λ (message : Message T U). message.slot) slot messages)
named_in_others name slot [] alone = refl
named_in_others {T} {U} name slot (message ∷ messages) alone =
    let slot_of : Message T U → ℕ = λ message. message.slot in
    let more : List (machine.Message T) = filter (λ (message : machine.Message T). not (message.number == name slot))
    (map (message_as name) messages) in
    let rest = named_in_others name slot messages (λ other is. alone other (omega (
      arith,
      is,
      times_cons other message.slot (map slot_of messages),
    ))) in
    ⊎_elim
    (λ same.
    ap (λ b. cond (not b) (message_as name message ∷ more) more) (eq-eqb (name message.slot) (name slot) (ap name same.1)) ∙ rest
    ∙ sym (ap (map (message_as name)) (others_on slot_of slot message messages same.0)))
    (λ off.
    ap (λ b. cond (not b) (message_as name message ∷ more) more) (ne_eqb (name message.slot) (name slot)
    (λ same. off.1 (alone message.slot (omega (
      arith,
      times_cons message.slot message.slot (map slot_of messages),
      one_same message.slot,
    )) same)))
    ∙ ap (λ rest. message_as name message ∷ rest) rest
    ∙ sym (ap (map (message_as name)) (others_off slot_of slot message messages off.1)))
    (eqb_tells message.slot slot)
