-- Loans of lanes that go by numbers, where one of them ends.
use Rattle.std.proofs.Common.{ℕ, ◌≡◌, ◌<◌, ◌≤◌, ◌==◌, Bool, true, false, not, List, map, slice_get, Some, refl, sym, ◌∙◌}
use Rattle.std.proofs.Common.{ap, subst}
use Rattle.std.proofs.Common.{inl, inr, arith}
use Rattle.std.specs.Prelude.{filter}
use Rattle.std.proofs.lemmas.Bool.{cases_Bool, eqb-true, eq-eqb, ne_eqb}
use Rattle.std.proofs.lemmas.Bool.Decides.{eqb_tells}
use Rattle.iox_lanes_machine.specs.LanesParties.Parties.{PublisherLaneState, is_out, is_written}
use Rattle.iox_lanes_machine.specs.LanesParties.declared.call.Call.{Call}
use Rattle.iox_lanes_machine.specs.FullLoans.{IsHeld}
use Rattle.iox_lanes_machine.specs.Kept.{IsKept}
use Rattle.iox_lanes_machine.specs.LedgerUses.{count, one_if}
use Rattle.iox_lanes_machine.specs.Owned.{IsSlotOf}
use Rattle.iox_lanes_machine.specs.Borrowing.{borrows}
use Rattle.iox_lanes_machine.specs.Resting.{AllBetween}
use Rattle.iox_lanes_machine.specs.World.{World}
use Rattle.iox_lanes_machine.proofs.Ends.{some_is}
use Rattle.iox_lanes_laws.specs.Messages.{payload_held}
use Rattle.iox_lanes_laws.specs.Publishing.{OnlyPublisher, OtherMarksStay, is_loan}
use Rattle.iox_lanes_laws.specs.Turns.{MailStays}
use Rattle.iox_lanes_service.specs.Naming.{LaneNaming, LaneLoan, LaneSample, slots_lent_at, has_written, loan_by_numbers}
use Rattle.iox_lanes_service.specs.Standing.{LanesStandFor}
use Rattle.iox_lanes_service.proofs.Carrying.{loan_kept}
use Rattle.iox_lanes_service.proofs.Publishing.{WriterCall}
use Rattle.iox_lanes_service.proofs.Subscribing.{lent_own, lent_there}
use Rattle.iox_lanes_service.proofs.Tables.{removed_mapped, entries_same, left_entry, left_apart, stands_at_index, same_entry}
use Rattle.iox_lanes_service.proofs.Tables.{removed_slots, kept_slots}
use Rattle.iox_lanes_service.proofs.Tables.{one_in_slot, count_but_same, count_but_other, not_both}
use Rattle.iox_lanes_service.proofs.Used.{held_split, held_waits, held_borrowed, own_apart}
use Rattle.iox_machine.specs.Choices.{Choices}
use Rattle.iox_machine.specs.Service.{Service}
use Rattle.iox_machine.specs.Table.{at, removed}

-- what is held after a call of a publisher that puts nothing was held before
pub held_before : (m n : World) (slot : ℕ) → IsKept m → AllBetween n → MailStays m n → n.subscribers ≡ m.subscribers → n.links ≡ m.links
    → IsHeld n slot → IsHeld m slot
held_before m n slot k between mail subscribers links h = elim (held_split n slot between h) [
  | inl w ↦ held_waits m slot k
      (record { connection = w.connection; some = subst (λ (xs : List ℕ). 0 < count slot xs) (mail w.connection) w.some })
  | inr b ↦ held_borrowed m slot k (record {
    connection = b.connection;
    link = b.link;
    found = sym (ap (λ ls. slice_get ls b.connection) links) ∙ b.found;
    has = sym (ap (λ xs. borrows b.connection slot (slice_get xs (b.link).subscriber)) subscribers) ∙ b.has;
  })
]

module _ {T : Type 0} (choices : Choices T) (value : List ℕ → T) (names : LaneNaming) (lent : List (ℕ × LaneLoan))
    (held : List (ℕ × LaneSample)) (m n : World) (service : Service T) (s : LanesStandFor choices value names lent held m service)
    (number : ℕ) (one : LaneLoan) (there : at number lent ≡ Some one) (c : Call) (before after : PublisherLaneState)
    (w : WriterCall m n one.publisher c before after) (others : OnlyPublisher m one.publisher n) where
  abbrev is_at : LaneLoan → Bool
  is_at loan = loan.publisher == one.publisher

  pub loan_index : (index : ℕ) × (slice_get lent index ≡ Some (number, one))
  loan_index = stands_at_index number one lent there

  abbrev stays : ℕ → Bool
  stays slot = not (slot == one.slot)

  pub its_number : (index : ℕ) (entry : ℕ × LaneLoan) → slice_get lent index ≡ Some entry → entry.0 ≡ number → entry ≡ (number, one)
  its_number index entry is e = same_entry lent s.loans_once index loan_index.0 entry (number, one) is loan_index.1 e

  once_lent : (slot : ℕ) → count slot (slots_lent_at one.publisher lent) ≤ 1
  once_lent slot = elim (cases_Bool (is_loan before slot)) [
    | inl t ↦ omega (arith, s.loans_all one.publisher before slot w.found, ap one_if t)
    | inr f ↦ omega (arith, s.loans_all one.publisher before slot w.found, ap one_if f)
  ]

  -- it is the only one in its slot
  pub its_slot : (index : ℕ) (entry : ℕ × LaneLoan) → slice_get lent index ≡ Some entry → entry.1.publisher ≡ one.publisher
      → entry.1.slot ≡ one.slot → entry ≡ (number, one)
  its_slot index entry is p e =
      one_in_slot (λ (loan : LaneLoan). loan.slot) is_at lent one.slot (once_lent one.slot) index loan_index.0 entry (number, one) is
      loan_index.1 (eq-eqb entry.1.publisher one.publisher p) (eq-eqb one.publisher one.publisher refl) e refl

  left_here : slots_lent_at one.publisher (removed number lent) ≡ filter stays (slots_lent_at one.publisher lent)
  left_here =
      removed_slots (λ (loan : LaneLoan). loan.slot) is_at number stays lent
      (λ index entry is passes. elim (eqb_tells entry.0 number) [
        | inl same ↦ ap not (same.0 ∙ sym (eq-eqb entry.1.slot one.slot
            (ap (λ (x : ℕ × LaneLoan). x.1.slot) (its_number index entry is same.1))))
        | inr apart ↦ ap not (apart.0 ∙ sym (ne_eqb entry.1.slot one.slot (λ e. apart.1
            (ap (λ (x : ℕ × LaneLoan). x.0) (its_slot index entry is (eqb-true entry.1.publisher one.publisher passes) e)))))
      ])

  left_away : (who : ℕ) → (who ≡ one.publisher → ⊥) → slots_lent_at who (removed number lent) ≡ slots_lent_at who lent
  left_away who apart =
      kept_slots (λ (loan : LaneLoan). loan.slot) (λ (loan : LaneLoan). loan.publisher == who) number lent
      (λ index entry is passes. elim (eqb_tells entry.0 number) [
        | inl same ↦ absurd (apart (sym (eqb-true entry.1.publisher who passes)
            ∙ ap (λ (x : ℕ × LaneLoan). x.1.publisher) (its_number index entry is same.1)))
        | inr off ↦ off.0
      ])

  -- the loans that are left are those of the publishers
  pub loans_left : is_loan after one.slot ≡ false → OtherMarksStay before one.slot after → (who : ℕ) (lane : PublisherLaneState)
      (slot : ℕ) → slice_get n.publishers who ≡ Some lane
      → count slot (slots_lent_at who (removed number lent)) ≡ one_if (is_loan lane slot)
  loans_left ended marks who lane slot found = elim (eqb_tells who one.publisher) [
    | inl same ↦
        let is : lane ≡ after = some_is lane after (sym found ∙ ap (slice_get n.publishers) same.1 ∙ w.now) in
        ap (λ (p : ℕ). count slot (slots_lent_at p (removed number lent))) same.1 ∙ ap (count slot) left_here
        ∙ here (slot == one.slot) refl ∙ sym (ap (λ (x : PublisherLaneState). one_if (is_loan x slot)) is)
    | inr apart ↦
        ap (count slot) (left_away who apart.1)
        ∙ s.loans_all who lane slot (sym (others.publishers who apart.1) ∙ found)
  ]
    where
      here : (b : Bool) → (slot == one.slot) ≡ b
          → count slot (filter stays (slots_lent_at one.publisher lent)) ≡ one_if (is_loan after slot)
      here true e =
          let is = eqb-true slot one.slot e in
          ap (λ (x : ℕ). count x (filter stays (slots_lent_at one.publisher lent))) is
          ∙ count_but_same one.slot (slots_lent_at one.publisher lent)
          ∙ sym (ap one_if (ap (is_loan after) is ∙ ended))
      here false e =
          let off : slot ≡ one.slot → ⊥ = λ same. not_both (slot == one.slot) (eq-eqb slot one.slot same) e in
          count_but_other one.slot slot (slots_lent_at one.publisher lent) off
          ∙ s.loans_all one.publisher before slot w.found
          ∙ sym (ap (λ mark. one_if (is_out mark)) (marks slot off))

  -- each other loan is what it was
  pub other_loan : OtherMarksStay before one.slot after
      → ((slot : ℕ) → slot < m.table.sizes.slots → (slot ≡ one.slot → ⊥) → payload_held n.table slot ≡ payload_held m.table slot)
      → (index : ℕ) (entry : ℕ × LaneLoan) → slice_get lent index ≡ Some entry → (entry.0 ≡ number → ⊥)
      → loan_by_numbers value names n entry.1 ≡ loan_by_numbers value names m entry.1
  other_loan marks payloads index entry is apart = elim (eqb_tells entry.1.publisher one.publisher) [
    | inl same ↦
        let off : entry.1.slot ≡ one.slot → ⊥
        = λ e. apart (ap (λ (x : ℕ × LaneLoan). x.0) (its_slot index entry is same.1 e)) in
        loan_kept choices value names m n entry.1
        (ap (has_written entry.1.slot) (ap (slice_get n.publishers) same.1 ∙ w.now)
        ∙ ap is_written (marks entry.1.slot off)
        ∙ sym (ap (has_written entry.1.slot) (ap (slice_get m.publishers) same.1 ∙ w.found)))
        (payloads entry.1.slot below off)
    | inr away ↦
        loan_kept choices value names m n entry.1 (ap (has_written entry.1.slot) (others.publishers entry.1.publisher away.1))
        (elim (eqb_tells entry.1.slot one.slot) [
          | inl e ↦ absurd (away.1 (own_apart m entry.1.publisher one.publisher entry.1.slot w.kept
              (lent_own choices value names lent held m service s index entry is)
              (subst (IsSlotOf m one.publisher) (sym e.1)
              (lent_own choices value names lent held m service s loan_index.0 (number, one) loan_index.1))))
          | inr off ↦ payloads entry.1.slot below off.1
        ])
  ]
    where
      below : entry.1.slot < m.table.sizes.slots
      below = lent_there choices value names lent held m service s w.kept index entry is

  -- so what is left goes by the same loans
  pub same_left : OtherMarksStay before one.slot after
      → ((slot : ℕ) → slot < m.table.sizes.slots → (slot ≡ one.slot → ⊥) → payload_held n.table slot ≡ payload_held m.table slot)
      → removed number service.loans
      ≡ map (λ (entry : ℕ × LaneLoan). (entry.0, loan_by_numbers value names n entry.1)) (removed number lent)
  same_left marks payloads =
      ap (removed number) s.loans ∙ removed_mapped (loan_by_numbers value names m) number lent
      ∙ sym (entries_same (loan_by_numbers value names n) (loan_by_numbers value names m) (removed number lent)
      (λ index entry is.
      let was = left_entry number lent index entry is in
      other_loan marks payloads was.0 entry was.1 (left_apart number lent index entry is)))

  pub left_there : (index : ℕ) (entry : ℕ × LaneLoan) → slice_get (removed number lent) index ≡ Some entry
      → (lane : PublisherLaneState) × (slice_get m.publishers entry.1.publisher ≡ Some lane)
  left_there index entry is = let was = left_entry number lent index entry is in s.loans_there was.0 entry was.1
