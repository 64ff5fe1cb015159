-- A loan leaves the loans of a publisher, and those that go by numbers.
use Rattle.std.proofs.Common.{◌≡◌, ◌≢◌, ◌≤◌, ◌+◌, ◌∷◌, [], ℕ, suc, Bool, true, false, cond, not, List, length, map, None, Some, refl, sym}
use Rattle.std.proofs.Common.{ap, inl, inr, ◌∙◌, arith, position}
use Rattle.std.proofs.Math.Logic.{⊎_elim}
use Rattle.std.proofs.lemmas.Bool.{cases_Bool, eq-eqb}
use Rattle.std.proofs.lemmas.Bool.Decides.{eqb_tells}
use Rattle.std.proofs.lemmas.List.Elements.{All-head, All-tail}
use Rattle.std.specs.List.{All, position_or_len, remove}
use Rattle.std.specs.Map.{keys_of}
use Rattle.std.specs.Prelude.{filter, find, nat_lt, ◌==◌}
use Rattle.iox_domain.proofs.DomainPorts.Finding.{at_none}
use Rattle.iox_domain.proofs.DomainSlots.Counts.{one, times_cons}
use Rattle.iox_domain.specs.DomainPorts.Messages.{Loan}
use Rattle.iox_domain.specs.DomainSlots.Counting.{times}
use Rattle.iox_domain.specs.Tries.{how_often}
use Rattle.iox_domain_machine.specs.Tables.{LentSlot, slots_lent_by}
use Rattle.iox_domain_machine.proofs.Entries.{hits, IsEither}
use Rattle.iox_domain_machine.proofs.Found.{never_some}
use Rattle.iox_domain_machine.proofs.Loans.{slots, in_slot, found_behind, alike}
use Rattle.iox_machine.specs.Table.{removed}

-- what is found is at some place
pub placed : {X : Type 0} (test : X → Bool) (xs : List X) (found : X) → find test xs ≡ Some found
    → position test xs ≡ Some (position_or_len test xs)
placed test xs found is = ⊎_elim
    (λ within. ap (λ b. cond b (Some (position_or_len test xs)) None) within)
    (λ past. never_some found (sym (at_none test xs (sym (ap (λ b. cond b (Some (position_or_len test xs)) None) past))) ∙ is))
    (cases_Bool (nat_lt (position_or_len test xs) (length xs)))

pub after_one : (n : ℕ) → 1 + n ≡ suc n
after_one n = omega arith

-- the slots but one
abbrev pub but : ℕ → List ℕ → List ℕ
but slot all = filter (λ other. not (other == slot)) all

pub but_on : (slot other : ℕ) (more : List ℕ) → (other == slot) ≡ true → but slot (other ∷ more) ≡ but slot more
but_on slot other more on = ap (λ b. cond (not b) (other ∷ but slot more) (but slot more)) on

pub but_off : (slot other : ℕ) (more : List ℕ) → (other == slot) ≡ false → but slot (other ∷ more) ≡ other ∷ but slot more
but_off slot other more off = ap (λ b. cond (not b) (other ∷ but slot more) (but slot more)) off

but_none : (slot : ℕ) (all : List ℕ) → times slot all ≡ 0 → but slot all ≡ all
but_none slot [] none = refl
but_none slot (other ∷ more) none = ⊎_elim
    (λ same.
    let here : one slot other ≡ 1 = ap (λ b. cond b 1 0) (alike slot other same.1) in
    absurd (omega (arith, none, times_cons slot other more, here)))
    (λ off. but_off slot other more off.0
    ∙ ap (λ rest. other ∷ rest) (but_none slot more (omega (arith, none, times_cons slot other more))))
    (eqb_tells other slot)

pub but_less : (slot which : ℕ) (all : List ℕ) → times which (but slot all) ≤ times which all
but_less slot which [] = omega arith
but_less slot which (other ∷ more) = ⊎_elim
    (λ same. omega (
      arith,
      ap (λ rest. times which rest)
          (but_on slot other more same.0),
      but_less slot which more,
      times_cons which other more,
    ))
    (λ off.
    omega (
      arith,
      ap (λ rest. times which rest)
          (but_off slot other more off.0),
      but_less slot which more,
      times_cons which other more,
      times_cons which other (but slot more),
    ))
    (eqb_tells other slot)

module _ {T U : Type 0} (slot : ℕ) where
  abbrev here : Loan T U → Bool
  here loan = loan.slot == slot

  -- the loans without the first one in the slot
  abbrev pub without : List (Loan T U) → List (Loan T U)
  without loans = remove loans (position_or_len here loans)

  without_on : (loan : Loan T U) (loans : List (Loan T U)) → (loan.slot == slot) ≡ true → without (loan ∷ loans) ≡ loans
  without_on loan loans on = ap (λ b. remove (loan ∷ loans) (cond (not b) (1 + position_or_len here loans) 0)) on

  without_off : (loan : Loan T U) (loans : List (Loan T U)) → (loan.slot == slot) ≡ false → without (loan ∷ loans) ≡ loan ∷ without loans
  without_off loan loans off = ap (λ b. remove (loan ∷ loans) (cond (not b) (1 + position_or_len here loans) 0)) off
      ∙ ap (λ count. remove (loan ∷ loans) count) (after_one (position_or_len here loans))

  pub slots_without : (loans : List (Loan T U)) → times slot (slots loans) ≤ 1 → slots (without loans) ≡ but slot (slots loans)
  slots_without [] once = refl
  slots_without (loan ∷ loans) once = ⊎_elim
      (λ same.
      let first : one slot loan.slot ≡ 1 = ap (λ b. cond b 1 0) (alike slot loan.slot same.1) in
      ap slots (without_on loan loans same.0)
      ∙ sym (but_on slot loan.slot (slots loans) same.0
      ∙ but_none slot (slots loans) (omega (arith, once, times_cons slot loan.slot (slots loans), first))))
      (λ off.
      ap slots (without_off loan loans off.0)
      ∙ ap (λ rest. loan.slot ∷ rest) (slots_without loans (omega (arith, once, times_cons slot loan.slot (slots loans))))
      ∙ sym (but_off slot loan.slot (slots loans) off.0))
      (eqb_tells loan.slot slot)

  pub found_without : (other : ℕ) (loans : List (Loan T U)) → other ≢ slot → in_slot other (without loans) ≡ in_slot other loans
  found_without other [] apart = refl
  found_without other (loan ∷ loans) apart = ⊎_elim
      (λ same.
      let off : (loan.slot == other) ≡ false = ⊎_elim (λ it. absurd (apart (sym it.1 ∙ same.1))) (λ it. it.0) (eqb_tells loan.slot other) in
      ap (in_slot other) (without_on loan loans same.0) ∙ sym (found_behind other loan loans off))
      (λ off.
      ap (in_slot other) (without_off loan loans off.0)
      ∙ ap (λ found. cond (loan.slot == other) (Some loan) found) (found_without other loans apart))
      (eqb_tells loan.slot slot)

-- the loan of a number is gone from those that go by numbers
pub gone_on : {V : Type 0} (number : ℕ) (entry : ℕ × V) (table : List (ℕ × V)) → (entry.0 == number) ≡ true
    → removed number (entry ∷ table) ≡ removed number table
gone_on number entry table on = ap (λ b. cond (not b) (entry ∷ removed number table) (removed number table)) on

pub gone_off : {V : Type 0} (number : ℕ) (entry : ℕ × V) (table : List (ℕ × V)) → (entry.0 == number) ≡ false
    → removed number (entry ∷ table) ≡ entry ∷ removed number table
gone_off number entry table off = ap (λ b. cond (not b) (entry ∷ removed number table) (removed number table)) off

pub often_removed : {V : Type 0} (number which : ℕ) (table : List (ℕ × V))
    → how_often which (keys_of (removed number table)) ≤ how_often which (keys_of table)
often_removed number which [] = omega arith
often_removed number which (entry ∷ table) = ⊎_elim
    (λ same. omega (
      arith,
      ap (λ rest. how_often which (keys_of rest))
          (gone_on number entry table same.0),
      often_removed number which table,
    ))
    (λ off. omega (
      arith,
      ap (λ rest. how_often which (keys_of rest))
          (gone_off number entry table off.0),
      often_removed number which table,
    ))
    (eqb_tells entry.0 number)

lent_on : (publisher : ℕ) (entry : ℕ × LentSlot) (lent : List (ℕ × LentSlot)) → (entry.1.publisher == publisher) ≡ true
    → slots_lent_by publisher (entry ∷ lent) ≡ entry.1.slot ∷ slots_lent_by publisher lent
lent_on publisher entry lent on = ap (λ b. map (λ (it : ℕ × LentSlot). it.1.slot) (cond b (entry ∷ filter (λ
    (it : ℕ × LentSlot). it.1.publisher == publisher) lent) (filter (λ (it : ℕ × LentSlot). it.1.publisher == publisher) lent))) on

lent_off : (publisher : ℕ) (entry : ℕ × LentSlot) (lent : List (ℕ × LentSlot)) → (entry.1.publisher == publisher) ≡ false
    → slots_lent_by publisher (entry ∷ lent) ≡ slots_lent_by publisher lent
lent_off publisher entry lent off = ap (λ b. map (λ (it : ℕ × LentSlot). it.1.slot) (cond b (entry ∷ filter (λ
    (it : ℕ × LentSlot). it.1.publisher == publisher) lent) (filter (λ (it : ℕ × LentSlot). it.1.publisher == publisher) lent))) off

same_eqb : (one other : ℕ) → one ≡ other → (one == other) ≡ true
same_eqb one other same = eq-eqb one other same

one_is : (slot other : ℕ) → other ≡ slot → one slot other ≡ 1
one_is slot other is = ap (λ b. cond b 1 0) (alike slot other is)

module _ (number : ℕ) (out : LentSlot) where
  removed_step : (entry : ℕ × LentSlot) (lent : List (ℕ × LentSlot)) → IsEither number out entry
      → slots_lent_by out.publisher (removed number lent) ≡ but out.slot (slots_lent_by out.publisher lent)
      → slots_lent_by out.publisher (removed number (entry ∷ lent)) ≡ but out.slot (slots_lent_by out.publisher (entry ∷ lent))
  removed_step entry lent (inl it) rest =
      ap (slots_lent_by out.publisher) (gone_on number entry lent it.0) ∙ rest
      ∙ sym (ap (but out.slot) (lent_on out.publisher entry lent (same_eqb entry.1.publisher out.publisher (ap (λ
      (one : LentSlot). one.publisher) it.1)))
      ∙ but_on out.slot entry.1.slot (slots_lent_by out.publisher lent)
      (same_eqb entry.1.slot out.slot (ap (λ (one : LentSlot). one.slot) it.1)))
  removed_step entry lent (inr it) rest =
      ap (slots_lent_by out.publisher) (gone_off number entry lent it.0) ∙ ⊎_elim
      (λ same.
      let off : (entry.1.slot == out.slot) ≡ false = ⊎_elim
      (λ on. absurd (omega (arith, it.1, ap (λ b. cond b (one out.slot entry.1.slot) 0) same.0, one_is out.slot entry.1.slot on.1)))
      (λ off. off.0)
      (eqb_tells entry.1.slot out.slot) in
      lent_on out.publisher entry (removed number lent) same.0 ∙ ap (λ more. entry.1.slot ∷ more) rest
      ∙ sym (ap (but out.slot) (lent_on out.publisher entry lent same.0)
      ∙ but_off out.slot entry.1.slot (slots_lent_by out.publisher lent) off))
      (λ off. lent_off out.publisher entry (removed number lent) off.0 ∙ rest
      ∙ sym (ap (but out.slot) (lent_off out.publisher entry lent off.0)))
      (eqb_tells entry.1.publisher out.publisher)

  pub lent_removed : (lent : List (ℕ × LentSlot)) → All (IsEither number out) lent
      → slots_lent_by out.publisher (removed number lent) ≡ but out.slot (slots_lent_by out.publisher lent)
  lent_removed [] all = refl
  lent_removed (entry ∷ lent) all =
      removed_step entry lent (All-head (IsEither number out) entry lent all) (lent_removed lent (All-tail
      (IsEither number out) entry lent all))

  other_step : (other : ℕ) (entry : ℕ × LentSlot) (lent : List (ℕ × LentSlot)) → other ≢ out.publisher → IsEither number out entry
      → slots_lent_by other (removed number lent) ≡ slots_lent_by other lent
      → slots_lent_by other (removed number (entry ∷ lent)) ≡ slots_lent_by other (entry ∷ lent)
  other_step other entry lent apart (inl it) rest =
      let off : (entry.1.publisher == other) ≡ false = ⊎_elim
      (λ on. absurd (apart (sym on.1 ∙ ap (λ (one : LentSlot). one.publisher) it.1))) (λ off. off.0) (eqb_tells entry.1.publisher other) in
      ap (slots_lent_by other) (gone_on number entry lent it.0) ∙ rest ∙ sym (lent_off other entry lent off)
  other_step other entry lent apart (inr it) rest =
      ap (slots_lent_by other) (gone_off number entry lent it.0) ∙ ⊎_elim
      (λ on. lent_on other entry (removed number lent) on.0 ∙ ap (λ more. entry.1.slot ∷ more) rest ∙ sym (lent_on other entry lent on.0))
      (λ off. lent_off other entry (removed number lent) off.0 ∙ rest ∙ sym (lent_off other entry lent off.0))
      (eqb_tells entry.1.publisher other)

  pub others_lent : (other : ℕ) (lent : List (ℕ × LentSlot)) → other ≢ out.publisher → All (IsEither number out) lent
      → slots_lent_by other (removed number lent) ≡ slots_lent_by other lent
  others_lent other [] apart all = refl
  others_lent other (entry ∷ lent) apart all =
      other_step other entry lent apart (All-head (IsEither number out) entry lent all) (others_lent other lent apart (All-tail
      (IsEither number out) entry lent all))

  mapped_step : {W : Type 0} (f g : LentSlot → W) (entry : ℕ × LentSlot) (lent : List (ℕ × LentSlot))
      → ((other : LentSlot) → hits out other ≡ 0 → g other ≡ f other)
      → IsEither number out entry
      → removed number (map (λ (it : ℕ × LentSlot). (it.0, f it.1)) lent) ≡ map (λ (it : ℕ × LentSlot). (it.0, g it.1))
      (removed number lent)
      → removed number (map (λ (it : ℕ × LentSlot). (it.0, f it.1)) (entry ∷ lent)) ≡ map (λ (it : ℕ × LentSlot). (it.0, g it.1))
      (removed number (entry ∷ lent))
  mapped_step f g entry lent same (inl it) rest =
      gone_on number (entry.0, f entry.1) (map (λ (it : ℕ × LentSlot). (it.0, f it.1)) lent) it.0 ∙ rest
      ∙ sym (ap (map (λ (it : ℕ × LentSlot). (it.0, g it.1))) (gone_on number entry lent it.0))
  mapped_step {W} f g entry lent same (inr it) rest =
      gone_off number (entry.0, f entry.1) (map (λ (it : ℕ × LentSlot). (it.0, f it.1)) lent) it.0
      ∙ ap (λ (w : W). (entry.0, w) ∷ removed number (map (λ (it : ℕ × LentSlot). (it.0, f it.1)) lent)) (sym (same entry.1 it.1))
      ∙ ap (λ more. (entry.0, g entry.1) ∷ more) rest
      ∙ sym (ap (map (λ (it : ℕ × LentSlot). (it.0, g it.1))) (gone_off number entry lent it.0))

  pub removed_mapped : {W : Type 0} (f g : LentSlot → W) (lent : List (ℕ × LentSlot))
      → ((other : LentSlot) → hits out other ≡ 0 → g other ≡ f other)
      → All (IsEither number out) lent
      → removed number (map (λ (it : ℕ × LentSlot). (it.0, f it.1)) lent) ≡ map (λ (it : ℕ × LentSlot). (it.0, g it.1))
      (removed number lent)
  removed_mapped f g [] same all = refl
  removed_mapped f g (entry ∷ lent) same all =
      mapped_step f g entry lent same (All-head (IsEither number out) entry lent all)
      (removed_mapped f g lent same (All-tail (IsEither number out) entry lent all))
