-- A write that no other call overlaps is one of the machine.
use Rattle.std.proofs.Common.{ℕ, ◌≡◌, ◌<◌, ◌==◌, Bool, true, List, [], ◌∷◌, map, slice_get, length, Some, None}
use Rattle.std.proofs.Common.{refl, sym}
use Rattle.std.proofs.Common.{◌∙◌, ap, subst, if◌then◌else◌, inl, inr, arith}
use Rattle.std.specs.Prelude.{option_map}
use Rattle.std.proofs.lemmas.Bool.Decides.{eqb_tells}
use Rattle.std.proofs.lemmas.Bool.{eq-eqb}
use Rattle.iox_command.specs.NegotiateBase.DescribeBase.declared.message_type.MessageTypeDetails.{MessageTypeDetails}
use Rattle.iox_command.specs.declared.reply.Reply.TheVariants as reply
use Rattle.iox_lanes_machine.specs.LanesParties.PublisherKeeping.{loan_of}
use Rattle.iox_lanes_machine.specs.LanesParties.Parties.{PublisherLaneState, name_of, is_out, is_written}
use Rattle.iox_lanes_machine.specs.LanesParties.declared.call.Call.{Call}
use Rattle.iox_lanes_machine.specs.LanesParties.declared.call.Call.TheVariants as call
use Rattle.iox_lanes_machine.specs.LanesParties.declared.call.CallName.{CallName}
use Rattle.iox_lanes_machine.specs.LanesParties.declared.call.CallName.TheVariants as name
use Rattle.iox_lanes_machine.specs.LanesParties.declared.publisher.slot_book.LoanMark.TheVariants as mark
use Rattle.iox_lanes_machine.specs.FullLoans.{IsHeld, IsInUse}
use Rattle.iox_lanes_machine.specs.LedgerUses.{count, one_if}
use Rattle.iox_lanes_machine.specs.Slots.{IsLoanAt}
use Rattle.iox_lanes_machine.specs.World.{World}
use Rattle.iox_lanes_machine.proofs.Ends.{some_is}
use Rattle.iox_lanes_machine.proofs.Owned.{histories_are_own}
use Rattle.iox_lanes_laws.specs.Messages.{payload_held}
use Rattle.iox_lanes_laws.specs.Publishing.{OnlyPublisher, HistoryStays, OtherMarksStay, is_loan}
use Rattle.iox_lanes_laws.specs.Turns.{MailStays}
use Rattle.iox_lanes_laws.proofs.Ends.{publisher_there}
use Rattle.iox_lanes_laws.proofs.Payloads.{writes_hold_in_turn}
use Rattle.iox_lanes_laws.proofs.PublisherLaws.{writes_in_turn}
use Rattle.iox_lanes_service.specs.Laws.{WritesAreSteps}
use Rattle.iox_lanes_service.specs.Naming.{LaneNaming, LaneLoan, LaneSample, loan_by_numbers, has_written, slots_lent_at}
use Rattle.iox_lanes_service.specs.Standing.{LanesStandFor}
use Rattle.iox_lanes_service.proofs.Beside.{one_does}
use Rattle.iox_lanes_service.proofs.Carrying.{HoldsSame}
use Rattle.iox_lanes_service.proofs.Dropping.{loans_changed}
use Rattle.iox_lanes_service.proofs.Lent.{held_before, its_number, loan_index, other_loan}
use Rattle.iox_lanes_service.proofs.Numbers.{last_behind}
use Rattle.iox_lanes_service.proofs.Publishing.{WriterCall, sequence_stays, writer_call}
use Rattle.iox_lanes_service.proofs.Subscribing.{one_is}
use Rattle.iox_lanes_service.proofs.Tables.{at_mapped, changed_mapped, counted_stands, entry_counted, named}
use Rattle.iox_lanes_service.proofs.Used.{held_there, slot_there, loan_unheld, loan_forgotten}
use Rattle.iox_machine.specs.Choices.{Choices}
use Rattle.iox_machine.specs.Message.{Loan}
use Rattle.iox_machine.specs.Ports.{Writes}
use Rattle.iox_machine.specs.Service.{Service}
use Rattle.iox_machine.specs.Table.{at, changed}

module _ {T : Type 0} (choices : Choices T) (value : List ℕ → T) (names : LaneNaming) (lent : List (ℕ × LaneLoan))
    (held : List (ℕ × LaneSample)) (m n : World) (service : Service T) (s : LanesStandFor choices value names lent held m service)
    (number : ℕ) (one : LaneLoan) (there : at number lent ≡ Some one) (c : Call) (before after : PublisherLaneState)
    (w : WriterCall m n one.publisher c before after) (named_so : name_of c ≡ name.Write one.slot) (items : List ℕ)
    (holds : payload_held n.table one.slot ≡ items) (others : OnlyPublisher m one.publisher n) (mail : MailStays m n)
    (history : HistoryStays before after) (marks : OtherMarksStay before one.slot after)
    (written : loan_of one.slot after.port.book ≡ mark.Written) where
  was_loan : is_loan before one.slot ≡ true
  was_loan =
      one_is (is_loan before one.slot) (omega (
        arith,
        s.loans_all one.publisher before one.slot w.found,
        entry_counted (λ (loan : LaneLoan). loan.slot) (λ (loan : LaneLoan). loan.publisher == one.publisher) lent
            (loan_index choices value names lent held m n service s number one there c before after w others).0 (number, one)
            (loan_index choices value names lent held m n service s number one there c before after w others).1
            (eq-eqb one.publisher one.publisher refl),
      ))

  loan_there : IsLoanAt m one.publisher one.slot
  loan_there = record { lane = before; found = w.found; out = was_loan }

  -- loans are those that were
  loan_same : (slot : ℕ) → is_loan after slot ≡ is_loan before slot
  loan_same slot = elim (eqb_tells slot one.slot) [
    | inl same ↦ ap (is_loan after) same.1 ∙ ap is_out written ∙ sym was_loan ∙ sym (ap (is_loan before) same.1)
    | inr apart ↦ ap is_out (marks slot apart.1)
  ]

  others_stay : (slot : ℕ) → slot < m.table.sizes.slots → (slot ≡ one.slot → ⊥) → payload_held n.table slot ≡ payload_held m.table slot
  others_stay slot below apart = w.payloads slot below (λ e. apart (same one.slot slot (sym named_so ∙ e)))
    where
      same : (a b : ℕ) → name.Write a ≡ name.Write b → b ≡ a
      same a b e = cc e

  -- no number changes
  slots_stay : (slot : ℕ) → slot < m.table.sizes.slots → (slot ≡ one.slot → ⊥) → HoldsSame names.numbered m n slot
  slots_stay slot below apart = (
    others_stay slot below apart,
    sequence_stays names.numbered m n one.publisher c before after w s.numbers slot below
        (λ e. differ one.slot slot (sym named_so ∙ e)),
  )
    where
      differ : (a b : ℕ) → name.Write a ≡ name.Send b → ⊥
      differ a b e = cc e

  abbrev loan_then : Loan T
  loan_then = record (loan_by_numbers value names m one) { values = map Some (value items ∷ []) }

  written_there : loan_then ≡ loan_by_numbers value names n one
  written_there =
      ap (λ (words : List ℕ). record {
        publisher = names.publisher one.publisher;
        number = names.message one.slot;
        values = Some (value words) ∷ [];
      }) (sym holds)
      ∙ ap (λ (b : Bool). record {
        publisher = names.publisher one.publisher;
        number = names.message one.slot;
        values = (if b then Some (value (payload_held n.table one.slot)) else None) ∷ [];
      }) (sym (ap (has_written one.slot) w.now ∙ ap is_written written))

  same_loans : changed number loan_then service.loans ≡ named (loan_by_numbers value names n) lent
  same_loans =
      ap (changed number loan_then) s.loans
      ∙ changed_mapped (loan_by_numbers value names m) (loan_by_numbers value names n) number loan_then lent
      (λ index entry is e. written_there ∙ ap (λ (x : ℕ × LaneLoan). loan_by_numbers value names n x.1)
      (sym (its_number choices value names lent held m n service s number one there c before after w others index entry is e)))
      (λ index entry is apart. sym (other_loan choices value names lent held m n service s number one there c before after w others marks
      others_stay index entry is apart))

  pub written_stands : LanesStandFor choices value names lent held n (record service { loans = changed number loan_then service.loans })
  written_stands =
      loans_changed choices value names lent held m n service s one.publisher c before after w
      (w.last ∙ ap (λ (called : CallName). last_behind called before.last) named_so)
      (λ slot h. slots_stay slot (held_there m slot w.kept w.few h)
      (λ e. loan_unheld m one.publisher one.slot w.kept w.few loan_there (subst (IsHeld m) e h)))
      (λ who lane slot found some.
      let stands = counted_stands lane.port.book.history slot some in
      slots_stay slot (slot_there m who slot w.kept ((histories_are_own m w.kept w.few who lane found).own stands.0 slot stands.1))
      (λ e. loan_forgotten m one.publisher one.slot who lane w.kept w.few loan_there found
      (subst (λ (x : ℕ). 0 < count x lane.port.book.history) e some)))
      lent (changed number loan_then service.loans) others mail history used same_loans s.loans_once s.loans_there all
    where
      used : (slot : ℕ) → IsInUse n after slot → IsInUse m before slot
      used slot (inl out) = inl (sym (loan_same slot) ∙ out)
      used slot (inr (inl some)) = inr (inl (subst (λ (xs : List ℕ). 0 < count slot xs) history some))
      used slot (inr (inr is)) = inr (inr (held_before m n slot w.kept w.between_then mail others.subscribers w.links is))

      all : (who : ℕ) (lane : PublisherLaneState) (slot : ℕ) → slice_get n.publishers who ≡ Some lane
          → count slot (slots_lent_at who lent) ≡ one_if (is_loan lane slot)
      all who lane slot found = elim (eqb_tells who one.publisher) [
        | inl same ↦
            let is : lane ≡ after = some_is lane after (sym found ∙ ap (slice_get n.publishers) same.1 ∙ w.now) in
            ap (λ (p : ℕ). count slot (slots_lent_at p lent)) same.1
            ∙ s.loans_all one.publisher before slot w.found
            ∙ ap one_if (sym (loan_same slot))
            ∙ sym (ap (λ (x : PublisherLaneState). one_if (is_loan x slot)) is)
        | inr apart ↦ s.loans_all who lane slot (sym (others.publishers who apart.1) ∙ found)
      ]

pub writes_are_steps : {T : Type 0} (choices : Choices T) (value : List ℕ → T) (types : MessageTypeDetails) (buffer : ℕ)
    → WritesAreSteps choices value types buffer
writes_are_steps {T} choices value types buffer = λ names lent held m n service state number one payload user_header s there t.
    let c : Call = call.Write one.slot payload user_header in
    let before = publisher_there m one.publisher c (slice_get m.publishers one.publisher) refl t.begins.0 in
    let w = writer_call m n one.publisher c before.0 t before.1 in
    let law = writes_in_turn m n one.publisher one.slot c before.0 w.0 refl t before.1 w.1.now in
    let holds = writes_hold_in_turn m n one.publisher one.slot payload user_header t in
    let found : at number service.loans ≡ Some (loan_by_numbers value names m one) =
    ap (at number) s.loans ∙ at_mapped (loan_by_numbers value names m) number lent
    ∙ ap (option_map (loan_by_numbers value names m)) there in
    let filled : Loan T = record (loan_by_numbers value names m one) { values = map Some (value payload.items ∷ []) } in (
      law.0,
      (
        record service { loans = changed number filled service.loans },
        one_does (λ (it : Service T). at number it.loans)
            (λ (it : Loan T). Writes number it (length (value payload.items ∷ []) == length it.values)
            (map Some (value payload.items ∷ [])))
            state service (record service { loans = changed number filled service.loans }) reply.Done (loan_by_numbers value names m one)
            found
            (refl, refl),
        written_stands choices value names lent held m n service s number one there c before.0 w.0 w.1 refl payload.items holds law.1 law.2
            law.3 law.4 law.5,
      ),
    )
