-- The loans of a publisher, of which the one in a slot changed.
use Rattle.std.proofs.Common.{◌≡◌, ◌≢◌, ◌≤◌, ◌<◌, ◌∷◌, [], ℕ, Bool, true, false, cond, ◌&&◌, ◌||◌, List, map, Option, Some, refl, sym, ap}
use Rattle.std.proofs.Common.{◌∙◌, arith}
use Rattle.std.proofs.Math.Dec.{eqb}
use Rattle.std.proofs.Math.Logic.{⊎_elim}
use Rattle.std.proofs.lemmas.Bool.{eq-eqb, ne_eqb}
use Rattle.std.proofs.lemmas.Bool.Decides.{eqb_tells}
use Rattle.std.specs.List.{list_any}
use Rattle.std.specs.Prelude.{find, option_map, if◌then◌else◌, ◌==◌}
use Rattle.iox_domain.proofs.DomainSlots.Counts.{one, times_cons}
use Rattle.iox_domain.specs.DomainPorts.Messages.{Loan}
use Rattle.iox_domain.specs.DomainSlots.Counting.{times}
use Rattle.iox_domain_machine.proofs.Found.{same_some, never_some}

pub alike : (slot other : ℕ) → other ≡ slot → eqb slot other ≡ true
alike slot other same = eq-eqb slot other (sym same)

pub unlike : (slot other : ℕ) → other ≢ slot → eqb slot other ≡ false
unlike slot other off = ne_eqb slot other (λ same. off (sym same))

or_false : (b : Bool) → (b || false) ≡ b
or_false true = refl
or_false false = refl

module _ {T U : Type 0} where
  -- the slots of loans
  abbrev pub slots : List (Loan T U) → List ℕ
  slots loans = map (λ (loan : Loan T U). loan.slot) loans

  -- the loan in a slot
  abbrev pub in_slot : ℕ → List (Loan T U) → Option (Loan T U)
  in_slot slot loans = find (λ (loan : Loan T U). loan.slot == slot) loans

  -- the loan in a slot changed
  abbrev pub change_in : ℕ → (Loan T U → Loan T U) → List (Loan T U) → List (Loan T U)
  change_in slot change loans = map (λ (loan : Loan T U). if eqb slot loan.slot then change loan else loan) loans

  pub found_head : (slot : ℕ) (loan : Loan T U) (loans : List (Loan T U)) → (loan.slot == slot) ≡ true
      → in_slot slot (loan ∷ loans) ≡ Some loan
  found_head slot loan loans same = ap (λ b. cond b (Some loan) (in_slot slot loans)) same

  pub found_behind : (slot : ℕ) (loan : Loan T U) (loans : List (Loan T U)) → (loan.slot == slot) ≡ false
      → in_slot slot (loan ∷ loans) ≡ in_slot slot loans
  found_behind slot loan loans off = ap (λ b. cond b (Some loan) (in_slot slot loans)) off

  module _ (slot : ℕ) (change : Loan T U → Loan T U) (keeps : (loan : Loan T U) → (change loan).slot ≡ loan.slot) where
    kept_slot : (b : Bool) (loan : Loan T U) → (cond b (change loan) loan).slot ≡ loan.slot
    kept_slot true loan = keeps loan
    kept_slot false loan = refl

    pub slots_same : (loans : List (Loan T U)) → slots (change_in slot change loans) ≡ slots loans
    slots_same [] = refl
    slots_same (loan ∷ loans) =
        ap (λ first. first ∷ slots (change_in slot change loans)) (kept_slot (eqb slot loan.slot) loan)
        ∙ ap (λ more. loan.slot ∷ more) (slots_same loans)

    pub found_changed : (loans : List (Loan T U)) → in_slot slot (change_in slot change loans) ≡ option_map change (in_slot slot loans)
    found_changed [] = refl
    found_changed (loan ∷ loans) = ⊎_elim
        (λ same.
        ap (λ b. in_slot slot (cond b (change loan) loan ∷ change_in slot change loans)) (alike slot loan.slot same.1)
        ∙ found_head slot (change loan) (change_in slot change loans) (ap (λ n. n == slot) (keeps loan) ∙ same.0)
        ∙ sym (ap (option_map change) (found_head slot loan loans same.0)))
        (λ other.
        ap (λ b. in_slot slot (cond b (change loan) loan ∷ change_in slot change loans)) (unlike slot loan.slot other.1)
        ∙ found_behind slot loan (change_in slot change loans) other.0 ∙ found_changed loans
        ∙ sym (ap (option_map change) (found_behind slot loan loans other.0)))
        (eqb_tells loan.slot slot)

    off_by : (b : Bool) (other : ℕ) (loan : Loan T U) (one more : Option (Loan T U)) → ((loan.slot == other) ≡ true → b ≡ false)
        → one ≡ more
        → cond ((cond b (change loan) loan).slot == other) (Some (cond b (change loan) loan)) one ≡ cond (loan.slot == other)
        (Some loan) more
    off_by true other loan one more off same = ⊎_elim
        (λ it. absurd (wrong (off it.0)))
        (λ not. ap (λ n. cond (n == other) (Some (change loan)) one) (keeps loan) ∙ ap (λ b. cond b (Some (change loan)) one) not.0
        ∙ same ∙ sym (ap (λ b. cond b (Some loan) more) not.0))
        (eqb_tells loan.slot other)
      where
        wrong : true ≡ false → ⊥
        wrong e = cc
    off_by false other loan one more off same = ap (λ found. cond (loan.slot == other) (Some loan) found) same

    pub found_other : (other : ℕ) (loans : List (Loan T U)) → other ≢ slot
        → in_slot other (change_in slot change loans) ≡ in_slot other loans
    found_other other [] off = refl
    found_other other (loan ∷ loans) off =
        off_by (eqb slot loan.slot) other loan (in_slot other (change_in slot change loans)) (in_slot other loans)
        (λ same. unlike slot loan.slot (λ it. off (sym (at_slot loan.slot other same) ∙ it))) (found_other other loans off)
      where
        at_slot : (n m : ℕ) → (n == m) ≡ true → n ≡ m
        at_slot n m same = ⊎_elim (λ it. it.1) (λ not. absurd (wrong (sym same ∙ not.0))) (eqb_tells n m)
          where
            wrong : true ≡ false → ⊥
            wrong e = cc

  pub found_there : (slot : ℕ) (loans : List (Loan T U)) → 0 < times slot (slots loans)
      → (loan : Loan T U) × (in_slot slot loans ≡ Some loan)
  found_there slot [] is = absurd (omega (arith, is))
  found_there slot (loan ∷ loans) is = ⊎_elim
      (λ same. (loan, found_head slot loan loans same.0))
      (λ other.
      let none : one slot loan.slot ≡ 0 = ap (λ b. cond b 1 0) (unlike slot loan.slot other.1) in
      let rest = found_there slot loans (omega (arith, is, times_cons slot loan.slot (slots loans), none)) in
      (rest.0, found_behind slot loan loans other.0 ∙ rest.1))
      (eqb_tells loan.slot slot)

  pub none_passes : (slot : ℕ) (test : Loan T U → Bool) (loans : List (Loan T U)) → times slot (slots loans) ≡ 0
      → list_any (λ loan. eqb slot loan.slot && test loan) loans ≡ false
  none_passes slot test [] none = refl
  none_passes slot test (loan ∷ loans) none = ⊎_elim
      (λ same.
      let here : one slot loan.slot ≡ 1 = ap (λ b. cond b 1 0) (alike slot loan.slot same.1) in
      absurd (omega (arith, none, times_cons slot loan.slot (slots loans), here)))
      (λ other.
      let rest = none_passes slot test loans (omega (arith, none, times_cons slot loan.slot (slots loans))) in
      ap (λ b. (b && test loan) || list_any (λ loan. eqb slot loan.slot && test loan) loans) (unlike slot loan.slot other.1) ∙ rest)
      (eqb_tells loan.slot slot)

  -- whether the loan in a slot passes a test
  pub found_passes : (slot : ℕ) (test : Loan T U → Bool) (loans : List (Loan T U)) (found : Loan T U) → in_slot slot loans ≡ Some found
      → times slot (slots loans) ≤ 1 → list_any (λ loan. eqb slot loan.slot && test loan) loans ≡ test found
  found_passes slot test [] found is once = never_some found is
  found_passes slot test (loan ∷ loans) found is once = ⊎_elim
      (λ same.
      let it : loan ≡ found = same_some loan found (sym (found_head slot loan loans same.0) ∙ is) in
      let here : one slot loan.slot ≡ 1 = ap (λ b. cond b 1 0) (alike slot loan.slot same.1) in
      let rest = none_passes slot test loans (omega (arith, once, times_cons slot loan.slot (slots loans), here)) in
      ap (λ b. (b && test loan) || list_any (λ loan. eqb slot loan.slot && test loan) loans) (alike slot loan.slot same.1)
      ∙ ap (λ b. test loan || b) rest ∙ or_false (test loan) ∙ ap test it)
      (λ other.
      ap (λ b. (b && test loan) || list_any (λ loan. eqb slot loan.slot && test loan) loans) (unlike slot loan.slot other.1)
      ∙ found_passes slot test loans found (sym (found_behind slot loan loans other.0)
      ∙ is) (omega (arith, once, times_cons slot loan.slot (slots loans))))
      (eqb_tells loan.slot slot)
