-- A loan gets the number after all others, which don't change.
use Rattle.std.proofs.Common.{◌≡◌, ◌≢◌, ◌+◌, ◌∷◌, [], ◌++◌, ◌&&◌, ℕ, Bool, true, false, cond, List, map, None, Some, refl, sym, ap, ◌∙◌}
use Rattle.std.proofs.Common.{arith}
use Rattle.std.proofs.Math.Logic.{⊎_elim}
use Rattle.std.proofs.lemmas.Bool.{eq-eqb, ne_eqb}
use Rattle.std.proofs.lemmas.Bool.Decides.{eqb_tells}
use Rattle.std.proofs.lemmas.List.{map-append}
use Rattle.std.proofs.lemmas.List.Elements.{filter-append}
use Rattle.std.specs.Map.{keys_of}
use Rattle.std.specs.Prelude.{filter, ◌==◌}
use Rattle.iox_domain.proofs.DomainSlots.Counts.{one, times_cons, one_same}
use Rattle.iox_domain.specs.DomainPorts.Messages.{Loan}
use Rattle.iox_domain.specs.DomainPorts.declared.attached.Taken.{Taken}
use Rattle.iox_domain.specs.DomainSlots.Counting.{times}
use Rattle.iox_domain.specs.Tries.{how_often}
use Rattle.iox_domain_machine.specs.Tables.{LentSlot, slots_lent_by, slots_held_of}
use Rattle.iox_domain_machine.proofs.Entries.{hits, hits_cons}
use Rattle.iox_domain_machine.proofs.Found.{never_some, at_head, at_behind}
use Rattle.iox_domain_machine.proofs.LendingTally.{is_none}
use Rattle.iox_domain_machine.proofs.Loans.{slots, in_slot, found_head, found_behind}
use Rattle.iox_machine.specs.Table.{at}

-- a number that nothing goes by stands nowhere
pub not_there : {V : Type 0} (number : ℕ) (table : List (ℕ × V)) → at number table ≡ None → how_often number (keys_of table) ≡ 0
not_there number [] none = refl
not_there number (entry ∷ table) none = ⊎_elim
    (λ same. never_some entry.1 (sym none ∙ at_head number entry table same.0))
    (λ off.
    let rest = not_there number table (sym (at_behind number entry table off.0) ∙ none) in
    let apart = is_none number entry.0 off.1 in
    omega (arith, rest, apart))
    (eqb_tells entry.0 number)

pub often_end : {V : Type 0} (number : ℕ) (table : List (ℕ × V)) (entry : ℕ × V)
    → how_often number (keys_of (table ++ entry ∷ [])) ≡ how_often number (keys_of table) + one number entry.0
often_end number [] entry = omega arith
often_end number (first ∷ table) entry = omega (arith, often_end number table entry)

module _ {T U : Type 0} where
  pub found_end : (slot : ℕ) (loans : List (Loan T U)) (loan : Loan T U) → times slot (slots loans) ≡ 0 → loan.slot ≡ slot
      → in_slot slot (loans ++ loan ∷ []) ≡ Some loan
  found_end slot [] loan none same = found_head slot loan [] (eq-eqb loan.slot slot same)
  found_end slot (first ∷ loans) loan none same =
      let cons = times_cons slot first.slot (slots loans) in
      let off : first.slot ≢ slot = λ it. absurd (omega (arith, none, cons, ap (one slot) it, one_same slot)) in
      found_behind slot first (loans ++ loan ∷ []) (ne_eqb first.slot slot off) ∙ found_end slot loans loan (omega (arith, none, cons)) same

  pub other_end : (slot : ℕ) (loans : List (Loan T U)) (loan : Loan T U) → loan.slot ≢ slot
      → in_slot slot (loans ++ loan ∷ []) ≡ in_slot slot loans
  other_end slot [] loan off = found_behind slot loan [] (ne_eqb loan.slot slot off)
  other_end slot (first ∷ loans) loan off =
      ap (λ more. cond (first.slot == slot) (Some first) more) (other_end slot loans loan off)

-- where no loan is in a slot, what changes there changes nothing
pub lent_kept : {W : Type 0} (out : LentSlot) (f g : LentSlot → W) (lent : List (ℕ × LentSlot))
    → times out.slot (slots_lent_by out.publisher lent) ≡ 0
    → ((other : LentSlot) → hits out other ≡ 0 → f other ≡ g other)
    → map {B = ℕ × W} (λ (entry : ℕ × LentSlot). (entry.0, f entry.1)) lent
    ≡ map (λ (entry : ℕ × LentSlot). (entry.0, g entry.1)) lent
lent_kept out f g [] none same = refl
lent_kept {W} out f g (entry ∷ lent) none same =
    let cons = hits_cons out entry lent in
    ap (λ (w : W). (entry.0, w) ∷ map {B = ℕ × W} (λ (entry : ℕ × LentSlot). (entry.0, f entry.1)) lent)
    (same entry.1 (omega (arith, none, cons)))
    ∙ ap (λ more. (entry.0, g entry.1) ∷ more) (lent_kept out f g lent (omega (arith, none, cons)) same)

pub lent_end : (loan : ℕ) (out : LentSlot) (lent : List (ℕ × LentSlot))
    → slots_lent_by out.publisher (lent ++ (loan, out) ∷ []) ≡ slots_lent_by out.publisher lent ++ out.slot ∷ []
lent_end loan out lent =
    ap (map (λ (entry : ℕ × LentSlot). entry.1.slot))
    (filter-append (λ (entry : ℕ × LentSlot). entry.1.publisher == out.publisher) lent ((loan, out) ∷ [])
    ∙ ap (λ b. filter (λ (entry : ℕ × LentSlot). entry.1.publisher == out.publisher) lent ++ cond b ((loan, out) ∷ []) [])
    (eq-eqb out.publisher out.publisher refl))
    ∙ map-append (λ (entry : ℕ × LentSlot). entry.1.slot)
    (filter (λ (entry : ℕ × LentSlot). entry.1.publisher == out.publisher) lent) ((loan, out) ∷ [])

pub others_end : (loan other : ℕ) (out : LentSlot) (lent : List (ℕ × LentSlot)) → other ≢ out.publisher
    → slots_lent_by other (lent ++ (loan, out) ∷ []) ≡ slots_lent_by other lent
others_end loan other out lent off =
    ap (map (λ (entry : ℕ × LentSlot). entry.1.slot))
    (filter-append (λ (entry : ℕ × LentSlot). entry.1.publisher == other) lent ((loan, out) ∷ [])
    ∙ ap (λ b. filter (λ (entry : ℕ × LentSlot). entry.1.publisher == other) lent ++ cond b ((loan, out) ∷ []) [])
    (ne_eqb out.publisher other (λ same. off (sym same))))
    ∙ map-append (λ (entry : ℕ × LentSlot). entry.1.slot) (filter (λ (entry : ℕ × LentSlot). entry.1.publisher == other) lent) []
    ∙ end (map (λ (entry : ℕ × LentSlot). entry.1.slot) (filter (λ (entry : ℕ × LentSlot). entry.1.publisher == other) lent))
  where
    end : (all : List ℕ) → all ++ [] ≡ all
    end [] = refl
    end (first ∷ more) = ap (λ rest. first ∷ rest) (end more)

held_by_one : (slot : ℕ) (b : Bool) (entry : ℕ × Taken) (more : List (ℕ × Taken))
    → times slot (map (λ (it : ℕ × Taken). it.1.slot) (cond b (entry ∷ more) more))
    ≡ cond b (one slot entry.1.slot) 0 + times slot (map (λ (it : ℕ × Taken). it.1.slot) more)
held_by_one slot true entry more = times_cons slot entry.1.slot (map (λ (it : ℕ × Taken). it.1.slot) more)
held_by_one slot false entry more = omega arith

-- where nothing in a slot is borrowed, what changes there changes nothing
pub held_kept : {W : Type 0} (number slot : ℕ) (f g : Taken → W) (held : List (ℕ × Taken))
    → ((index : ℕ) → times slot (slots_held_of number index held) ≡ 0)
    → ((taken : Taken) → (taken.publisher ≡ number → taken.slot ≢ slot) → f taken ≡ g taken)
    → map {B = ℕ × W} (λ (entry : ℕ × Taken). (entry.0, f entry.1)) held
    ≡ map (λ (entry : ℕ × Taken). (entry.0, g entry.1)) held
held_kept number slot f g [] none same = refl
held_kept {W} number slot f g (entry ∷ held) none same =
    ap (λ (w : W). (entry.0, w) ∷ map {B = ℕ × W} (λ (entry : ℕ × Taken). (entry.0, f entry.1)) held) (same entry.1 apart)
    ∙ ap (λ more. (entry.0, g entry.1) ∷ more) (held_kept number slot f g held (λ index. rest index) same)
  where
    cons : (index : ℕ) → times slot (slots_held_of number index (entry ∷ held))
        ≡ cond ((entry.1.publisher == number) && (entry.1.index == index)) (one slot entry.1.slot) 0
        + times slot (slots_held_of number index held)
    cons index = held_by_one slot ((entry.1.publisher == number) && (entry.1.index == index)) entry
        (filter (λ (it : ℕ × Taken). (it.1.publisher == number) && (it.1.index == index)) held)

    rest : (index : ℕ) → times slot (slots_held_of number index held) ≡ 0
    rest index = omega (arith, none index, cons index)

    apart : entry.1.publisher ≡ number → entry.1.slot ≢ slot
    apart is it =
        let here : cond ((entry.1.publisher == number) && (entry.1.index == entry.1.index)) (one slot entry.1.slot) 0
        ≡ one slot entry.1.slot =
        ap (λ b. cond (b && (entry.1.index == entry.1.index)) (one slot entry.1.slot) 0) (eq-eqb entry.1.publisher number is)
        ∙ ap (λ b. cond b (one slot entry.1.slot) 0) (eq-eqb entry.1.index entry.1.index refl) in
        absurd (omega (arith, none entry.1.index, cons entry.1.index, here, ap (one slot) it, one_same slot))
