-- A loan of a slot that no other call overlaps is one of the machine.
use Rattle.std.proofs.Common.{ℕ, ◌≡◌, ◌+◌, ◌-◌, ◌<◌, ◌≤◌, ◌==◌, ◌&&◌, ◌⊎◌, cond, Bool, true, false, nat_lt, nat_le, List, [], ◌∷◌}
use Rattle.std.proofs.Common.{◌++◌, length, map, slice_get, Option, Some, None, refl, sym, ◌∙◌, ap, subst, if◌then◌else◌, inl}
use Rattle.std.proofs.Common.{inr, arith, append-nil}
use Rattle.std.specs.Prelude.{filter, option_and_then, MatchOption}
use Rattle.std.proofs.lemmas.Bool.{cases_Bool, cases_lt, eq-eqb, ne_eqb}
use Rattle.std.proofs.lemmas.Bool.Decides.{eqb_tells}
use Rattle.std.proofs.lemmas.List.{map-append}
use Rattle.iox_command.specs.DomainValues.Actions.{decision_of}
use Rattle.iox_command.specs.DomainValues.declared.port_error.LoanError.{LoanError}
use Rattle.iox_command.specs.DomainValues.declared.port_error.LoanError.TheVariants as why
use Rattle.iox_command.specs.NegotiateBase.DescribeBase.declared.message_type.MessageTypeDetails.{MessageTypeDetails}
use Rattle.iox_command.specs.declared.command.Command.TheVariants as command
use Rattle.iox_command.specs.declared.refusal.Refusal.TheVariants as refusal
use Rattle.iox_command.specs.declared.reply.Reply.{Reply}
use Rattle.iox_command.specs.declared.reply.Reply.TheVariants as reply
use Rattle.iox_lanes_machine.specs.LanesBase.declared.calls.route.Route.{Route}
use Rattle.iox_lanes_machine.specs.LanesParties.PublisherKeeping.{loan_of}
use Rattle.iox_lanes_machine.specs.LanesParties.Parties.{PublisherLaneState, name_of, is_out, is_written}
use Rattle.iox_lanes_machine.specs.LanesParties.declared.call.Call.TheVariants as call
use Rattle.iox_lanes_machine.specs.LanesParties.declared.call.CallName.TheVariants as name
use Rattle.iox_lanes_machine.specs.LanesParties.declared.publisher.slot_book.LoanAnswer.{LoanAnswer}
use Rattle.iox_lanes_machine.specs.LanesParties.declared.publisher.slot_book.LoanAnswer.TheVariants as loan
use Rattle.iox_lanes_machine.specs.LanesParties.declared.publisher.slot_book.LoanMark.TheVariants as mark
use Rattle.iox_lanes_machine.specs.FullLoans.{IsHeld, IsInUse}
use Rattle.iox_lanes_machine.specs.LedgerRooms.{loans_out}
use Rattle.iox_lanes_machine.specs.LedgerUses.{count, one_if, total, IsOwn}
use Rattle.iox_lanes_machine.specs.Links.{LinkState}
use Rattle.iox_lanes_machine.specs.Owned.{IsSlotOf}
use Rattle.iox_lanes_machine.specs.Resting.{mail_at}
use Rattle.iox_lanes_machine.specs.World.{World}
use Rattle.iox_lanes_machine.proofs.Ends.{some_is}
use Rattle.iox_lanes_machine.proofs.Entries.{count_append}
use Rattle.iox_lanes_machine.proofs.Owned.{histories_are_own}
use Rattle.iox_lanes_laws.specs.Messages.{payload_held}
use Rattle.iox_lanes_laws.specs.Publishing.{OnlyPublisher, HistoryStays, Lends, AllInUse, is_loan}
use Rattle.iox_lanes_laws.specs.Turns.{MailStays}
use Rattle.iox_lanes_laws.proofs.PublisherLaws.{loans_in_turn}
use Rattle.iox_lanes_service.specs.Laws.{LoansAreSteps, IsLaneStep, loan_replied, with_lent_slot}
use Rattle.iox_lanes_service.specs.Naming.{LaneNaming, LaneLoan, LaneSample, reader_name, slot_message, loan_by_numbers, lane_mailbox}
use Rattle.iox_lanes_service.specs.Naming.{slots_held_over, slots_lent_at, has_written, slot_sequence}
use Rattle.iox_lanes_service.specs.Ports.{LanePublisherIs, NumbersOwn, passing_over}
use Rattle.iox_lanes_service.specs.Standing.{LanesStandFor}
use Rattle.iox_lanes_service.proofs.Beside.{one_does, match_some, match_none, match_false}
use Rattle.iox_lanes_service.proofs.Carrying.{HoldsSame, loan_kept, same_message}
use Rattle.iox_lanes_service.proofs.Counting.{counted_contained, contained_counted, many_named, many_is, total_all, total_misses}
use Rattle.iox_lanes_service.proofs.Counting.{filter_keeps}
use Rattle.iox_lanes_service.proofs.Dropping.{own_back, loans_changed}
use Rattle.iox_lanes_service.proofs.Holding.{over_borrowed}
use Rattle.iox_lanes_service.proofs.Lent.{held_before}
use Rattle.iox_lanes_service.proofs.Publishing.{WriterCall, sent_on, sequence_stays, writer_call}
use Rattle.iox_lanes_service.proofs.Subscribing.{lent_own, lent_there, one_is}
use Rattle.iox_lanes_service.proofs.Tables.{at_changed, at_changed_other, map_same, counted_stands, entries_same, appended_entry}
use Rattle.iox_lanes_service.proofs.Tables.{once_appended, entry_counted, named, one_entry, appended_slots}
use Rattle.iox_lanes_service.proofs.Used.{held_waits, held_borrowed, held_there, slot_there, own_is, own_apart}
use Rattle.iox_lanes_service.proofs.Using.{lent_count, used_slots, used_numbers, used_is, used_there}
use Rattle.iox_machine.specs.Choices.{Choices}
use Rattle.iox_machine.specs.Lending.{how_many, in_use, loan_refusal, loans_of}
use Rattle.iox_machine.specs.Message.{Loan}
use Rattle.iox_machine.specs.Ports.{LendsLoan, publisher_in}
use Rattle.iox_machine.specs.Run.{Step}
use Rattle.iox_machine.specs.Service.{Publisher as Writer, Send, Service}
use Rattle.iox_machine.proofs.Shorthands.{with_publisher, IsSkipped, is_static}
use Rattle.iox_machine.specs.State.{State, counted}
use Rattle.iox_machine.specs.Table.{at, contains}

module _ {T : Type 0} (choices : Choices T) (value : List ℕ → T) (names : LaneNaming) (lent : List (ℕ × LaneLoan))
    (held : List (ℕ × LaneSample)) (m n : World) (service : Service T) (s : LanesStandFor choices value names lent held m service)
    (place : ℕ) (before after : PublisherLaneState) (w : WriterCall m n place call.LoanUninit before after)
    (others : OnlyPublisher m place n) (mail : MailStays m n) (history : HistoryStays before after) where
  abbrev who : ℕ
  who = names.publisher place

  pub writer : (it : Writer T) × (at who service.publishers ≡ Some it) × LanePublisherIs choices value names m service place before it
  writer = s.publishers place before w.found

  stays : (x : ℕ) → x < m.table.sizes.slots → payload_held n.table x ≡ payload_held m.table x
  stays x below = w.payloads x below (differ x)
    where
      differ : (x : ℕ) → name_of call.LoanUninit ≡ name.Write x → ⊥
      differ x e = cc e

  own_slot : (x : ℕ) → IsSlotOf m place x → IsOwn before.port.book x
  own_slot x is =
      let same = some_is is.lane before (sym is.found ∙ w.found) in
      let counted = ((w.kept.uses w.few).publishers place before w.found).counted in
      record {
        above = subst (λ (l : PublisherLaneState). l.port.book.first ≤ x) same is.above;
        below = omega (
          arith,
          subst (λ (l : PublisherLaneState). x < l.port.book.first + length l.port.book.loans) same is.below,
          counted.loans_each,
        );
      }

  -- how many messages are in use, as the machine counts them
  abbrev slots : List ℕ
  slots = used_slots choices value names lent held m service s w.kept w.few w.between place before w.found writer.0 writer.2

  abbrev many : ℕ
  many = how_many (filter (nat_le (writer.0).first) (in_use who writer.0 service))

  used_of : (x : ℕ) → 0 < count x slots → IsSlotOf m place x × IsInUse m before x
  used_of = used_is choices value names lent held m service s w.kept w.few w.between place before w.found writer.0 writer.2

  many_are : many ≡ total (λ index. contains slots (before.port.book.first + index)) (length before.port.book.loans)
  many_are =
      ap (λ (xs : List ℕ). how_many (filter (nat_le (writer.0).first) xs))
      (used_numbers choices value names lent held m service s w.kept w.few w.between place before w.found writer.0 writer.2)
      ∙ ap how_many (filter_keeps names.message (writer.0).first slots
      (λ x some. let u = used_of x some in (writer.2).numbers.current x (own_slot x u.0) u.1))
      ∙ many_named names.message slots (λ x y some other e.
      let u = used_of x some in
      let v = used_of y other in
      (writer.2).numbers.apart x y (own_slot x u.0) (own_slot y v.0) u.1 v.1 e)
      ∙ many_is before.port.book.first (length before.port.book.loans) slots (λ x some.
      let u = used_of x some in
      let same = some_is u.0.lane before (sym u.0.found ∙ w.found) in (
        subst (λ (l : PublisherLaneState). l.port.book.first ≤ x) same u.0.above,
        subst (λ (l : PublisherLaneState). x < l.port.book.first + length l.port.book.loans) same u.0.below,
      ))

  own_at : (index : ℕ) → index < length before.port.book.loans → IsSlotOf m place (before.port.book.first + index)
  own_at index below = record { lane = before; found = w.found; above = omega arith; below = omega (arith, below) }

  -- all of them, where each slot is in use
  many_all : AllInUse m before → (writer.0).slots ≤ many
  many_all each = omega (
    arith,
    (writer.2).slots,
    many_are,
    total_all (λ index. contains slots (before.port.book.first + index)) (length before.port.book.loans) (λ index below.
        counted_contained slots (before.port.book.first + index)
        (used_there choices value names lent held m service s w.kept w.few w.between place before w.found writer.0 writer.2
        (before.port.book.first + index) (own_at index below)
        (each (before.port.book.first + index) (own_slot (before.port.book.first + index) (own_at index below))))),
  )

  -- fewer, where one isn't
  many_fewer : (slot : ℕ) → IsOwn before.port.book slot → (IsInUse m before slot → ⊥) → many < (writer.0).slots
  many_fewer slot own not =
      let is = own_is m place slot before w.kept w.few w.found own in
      let range : slot < before.port.book.first + length before.port.book.loans
      = omega (arith, own.below, ((w.kept.uses w.few).publishers place before w.found).counted.loans_each) in
      omega (
        arith,
        (writer.2).slots,
        many_are,
        total_misses (λ index. contains slots (before.port.book.first + index)) (length before.port.book.loans)
            (slot - before.port.book.first) (omega (arith, own.above, range)) (elim (cases_Bool (contains slots
            (before.port.book.first + (slot - before.port.book.first)))) [
              | inr f ↦ f
              | inl t ↦ absurd (not (used_of slot (contained_counted slots slot
                  (ap (contains slots) (omega (arith, own.above)) ∙ t))).1)
            ]),
      )

  -- why the machine refuses, or that it doesn't
  refusal_by : (b c : Bool) → nat_lt (writer.0).room 1 && is_static (writer.0).allocation ≡ false
      → nat_le (writer.0).max_loaned_samples (length (loans_of who service)) ≡ b
      → (nat_le 1 (writer.0).room && nat_le (writer.0).slots many) ≡ c
      → loan_refusal who 1 writer.0 service ≡ (if b then Some why.ExceedsMaxLoans else (if c then Some why.OutOfMemory else None))
  refusal_by b c short e f =
      ap (λ (x : Bool). if x then Some why.ExceedsMaxLoanSize
      else (if nat_le (writer.0).max_loaned_samples (length (loans_of who service)) then Some why.ExceedsMaxLoans
      else (if nat_le 1 (writer.0).room && nat_le (writer.0).slots many then Some why.OutOfMemory else None))) short
      ∙ ap (λ (x : Bool). if x then Some why.ExceedsMaxLoans
      else (if nat_le 1 (writer.0).room && nat_le (writer.0).slots many then Some why.OutOfMemory else None)) e
      ∙ ap (λ (x : Bool). if b then Some why.ExceedsMaxLoans else (if x then Some why.OutOfMemory else None)) f

  has_room : nat_lt (writer.0).room 1 ≡ false
  has_room = grind (arith, (writer.2).room)

  short_enough : (nat_lt (writer.0).room 1 && is_static (writer.0).allocation) ≡ false
  short_enough = ap (λ (b : Bool). b && is_static (writer.0).allocation) has_room

  roomy : nat_le 1 (writer.0).room ≡ true
  roomy = grind (arith, (writer.2).room)

  below_or : (a b : ℕ) → a ≤ b → nat_le a b ≡ true
  below_or a b h = grind (arith, h)

  above_it : (a b : ℕ) → b < a → nat_le a b ≡ false
  above_it a b h = grind (arith, h)

  as_many : length (loans_of who service) ≡ loans_out before.port.book
  as_many = lent_count choices value names lent held m service s w.kept w.few w.between place before w.found

  refused_most : loans_out before.port.book ≡ before.port.book.most_loans → loan_refusal who 1 writer.0 service ≡ Some why.ExceedsMaxLoans
  refused_most full =
      refusal_by true (nat_le 1 (writer.0).room && nat_le (writer.0).slots many) short_enough
      (below_or (writer.0).max_loaned_samples (length (loans_of who service)) (omega (arith, (writer.2).most_loans, as_many, full))) refl

  refused_all : loans_out before.port.book < before.port.book.most_loans → AllInUse m before
      → loan_refusal who 1 writer.0 service ≡ Some why.OutOfMemory
  refused_all fewer each =
      refusal_by false true short_enough
      (above_it (writer.0).max_loaned_samples (length (loans_of who service)) (omega (arith, (writer.2).most_loans, as_many, fewer)))
      (ap (λ (b : Bool). b && nat_le (writer.0).slots many) roomy ∙ below_or (writer.0).slots many (many_all each))

  not_refused : (slot : ℕ) → loans_out before.port.book < before.port.book.most_loans → IsOwn before.port.book slot
      → (IsInUse m before slot → ⊥) → loan_refusal who 1 writer.0 service ≡ None
  not_refused slot fewer own not =
      refusal_by false false short_enough
      (above_it (writer.0).max_loaned_samples (length (loans_of who service)) (omega (arith, (writer.2).most_loans, as_many, fewer)))
      (ap (λ (b : Bool). b && nat_le (writer.0).slots many) roomy ∙ above_it (writer.0).slots many (many_fewer slot own not))

  -- each loan of lanes whose mark stays is what it was
  same_loan : (x : ℕ) (index : ℕ) (entry : ℕ × LaneLoan) → slice_get lent index ≡ Some entry
      → ((y : ℕ) → y ≡ entry.1.slot → entry.1.publisher ≡ place → loan_of y after.port.book ≡ loan_of y before.port.book)
      → has_written entry.1.slot (slice_get n.publishers entry.1.publisher)
      ≡ has_written entry.1.slot (slice_get m.publishers entry.1.publisher)
  same_loan x index entry is marks = elim (eqb_tells entry.1.publisher place) [
    | inl same ↦
        ap (has_written entry.1.slot) (ap (slice_get n.publishers) same.1 ∙ w.now)
        ∙ ap is_written (marks entry.1.slot refl same.1)
        ∙ sym (ap (has_written entry.1.slot) (ap (slice_get m.publishers) same.1 ∙ w.found))
    | inr away ↦ ap (has_written entry.1.slot) (others.publishers entry.1.publisher away.1)
  ]

  history_there : (p : ℕ) (lane : PublisherLaneState) (x : ℕ) → slice_get m.publishers p ≡ Some lane → 0 < count x lane.port.book.history
      → IsSlotOf m p x
  history_there p lane x found some =
      let stands = counted_stands lane.port.book.history x some in
      (histories_are_own m w.kept w.few p lane found).own stands.0 x stands.1

  -- and the same numbers
  same : (x : ℕ) → x < m.table.sizes.slots → HoldsSame names.numbered m n x
  same x below =
      (stays x below, sequence_stays names.numbered m n place call.LoanUninit before after w s.numbers x below (λ e. absurd (cc e)))

  -- where nothing is lent, nothing changes
  pub unchanged : ((x : ℕ) → loan_of x after.port.book ≡ loan_of x before.port.book) → LanesStandFor choices value names lent held n service
  unchanged marks =
      loans_changed choices value names lent held m n service s place call.LoanUninit before after w w.last
      (λ x h. same x (held_there m x w.kept w.few h))
      (λ p lane x found some. same x (slot_there m p x w.kept (history_there p lane x found some)))
      lent service.loans others mail history used
      (s.loans ∙ sym (entries_same (loan_by_numbers value names n) (loan_by_numbers value names m) lent (λ index entry is.
      loan_kept choices value names m n entry.1 (same_loan 0 index entry is (λ y e p. marks y))
      (stays entry.1.slot (lent_there choices value names lent held m service s w.kept index entry is)))))
      s.loans_once s.loans_there all
    where
      used : (x : ℕ) → IsInUse n after x → IsInUse m before x
      used x (inl out) = inl (sym (ap is_out (marks x)) ∙ out)
      used x (inr (inl some)) = inr (inl (subst (λ (xs : List ℕ). 0 < count x xs) history some))
      used x (inr (inr is)) = inr (inr (held_before m n x w.kept w.between_then mail others.subscribers w.links is))

      all : (p : ℕ) (lane : PublisherLaneState) (x : ℕ) → slice_get n.publishers p ≡ Some lane
          → count x (slots_lent_at p lent) ≡ one_if (is_loan lane x)
      all p lane x found = elim (eqb_tells p place) [
        | inl same ↦
            let is : lane ≡ after = some_is lane after (sym found ∙ ap (slice_get n.publishers) same.1 ∙ w.now) in
            ap (λ (q : ℕ). count x (slots_lent_at q lent)) same.1
            ∙ s.loans_all place before x w.found
            ∙ ap (λ mark. one_if (is_out mark)) (sym (marks x))
            ∙ sym (ap (λ (l : PublisherLaneState). one_if (is_loan l x)) is)
        | inr apart ↦ s.loans_all p lane x (sym (others.publishers p apart.1) ∙ found)
      ]

  -- where a slot is lent, it goes by the next numbers
  module _ (loan_number slot : ℕ) (fresh : at loan_number lent ≡ None) (own : IsOwn before.port.book slot)
      (unused : IsInUse m before slot → ⊥)
      (lent_now : loan_of slot after.port.book ≡ mark.Lent)
      (marks : (x : ℕ) → (x ≡ slot → ⊥) → loan_of x after.port.book ≡ loan_of x before.port.book) where
    abbrev pub message_then : ℕ → ℕ
    message_then x = if x == slot then (writer.0).next else names.message x

    abbrev names_now : LaneNaming
    names_now = record names { message = message_then }

    abbrev new_one : LaneLoan
    new_one = record { publisher = place; slot = slot }

    abbrev then_lent : List (ℕ × LaneLoan)
    then_lent = lent ++ (loan_number, new_one) ∷ []

    abbrev writer_then : Writer T
    writer_then = record writer.0 { next = (writer.0).next + 1 }

    abbrev loan_made : Loan T
    loan_made = record { publisher = who; number = (writer.0).next; values = None ∷ [] }

    abbrev pub lent_service : Service T
    lent_service = record (with_publisher who writer_then service) { loans = service.loans ++ (loan_number, loan_made) ∷ [] }

    slot_is : IsSlotOf m place slot
    slot_is = own_is m place slot before w.kept w.few w.found own

    number_same : (x : ℕ) → (x ≡ slot → ⊥) → message_then x ≡ names.message x
    number_same x apart = ap (λ (b : Bool). if b then (writer.0).next else names.message x) (ne_eqb x slot apart)

    number_new : message_then slot ≡ (writer.0).next
    number_new = ap (λ (b : Bool). if b then (writer.0).next else names.message slot) (eq-eqb slot slot refl)

    message_same : (x : ℕ) → (x ≡ slot → ⊥) → x < m.table.sizes.slots
        → slot_message value names_now n.table x ≡ slot_message value names m.table x
    message_same x apart below =
        ap (λ (k : ℕ). record {
          number = k;
          sequence = slot_sequence names.numbered n.table x;
          values = value (payload_held n.table x) ∷ [];
        }) (number_same x apart)
        ∙ same_message choices value names m n x (same x below)

    not_held : (x : ℕ) → IsHeld m x → x ≡ slot → ⊥
    not_held x h e = unused (inr (inr (subst (IsHeld m) e h)))

    held_message : (x : ℕ) → IsHeld m x → slot_message value names_now n.table x ≡ slot_message value names m.table x
    held_message x h = message_same x (not_held x h) (held_there m x w.kept w.few h)

    -- a slot that another publisher uses is another one
    not_others : (p : ℕ) (x : ℕ) → IsSlotOf m p x → (p ≡ place → ⊥) → x ≡ slot → ⊥
    not_others p x is apart e = apart (own_apart m p place x w.kept is (subst (IsSlotOf m place) (sym e) slot_is))

    used_then : (x : ℕ) → IsInUse n after x → IsInUse m before x ⊎ (x ≡ slot)
    used_then x (inl out) = elim (eqb_tells x slot) [
      | inl same ↦ inr same.1
      | inr apart ↦ inl (inl (sym (ap is_out (marks x apart.1)) ∙ out))
    ]
    used_then x (inr (inl some)) = inl (inr (inl (subst (λ (xs : List ℕ). 0 < count x xs) history some)))
    used_then x (inr (inr is)) = inl (inr (inr (held_before m n x w.kept w.between_then mail others.subscribers w.links is)))

    numbers_then : NumbersOwn message_then n after (writer.0).first ((writer.0).next + 1)
    numbers_then = record {
      apart = λ x y own_x own_y used_x used_y e. apart_by x y own_x own_y (used_then x used_x) (used_then y used_y) e;
      current = λ x own_x in_use_x. elim (used_then x in_use_x) [
        | inl was ↦ omega (
          arith,
          number_same x (λ e. unused (subst (IsInUse m before) e was)),
          (writer.2).numbers.current x (own_back m n place call.LoanUninit before after w x own_x) was,
        )
        | inr same ↦ omega (arith, ap message_then same, number_new, (writer.2).numbers.ahead)
      ];
      below = λ x own_x in_use_x. elim (used_then x in_use_x) [
        | inl was ↦ omega (
          arith,
          number_same x (λ e. unused (subst (IsInUse m before) e was)),
          (writer.2).numbers.below x (own_back m n place call.LoanUninit before after w x own_x) was,
        )
        | inr same ↦ omega (arith, ap message_then same, number_new)
      ];
      ahead = omega (arith, (writer.2).numbers.ahead);
    }
      where
        was_below : (x : ℕ) → IsOwn after.port.book x → IsInUse m before x → message_then x < (writer.0).next
        was_below x own_x was = omega (
          arith,
          number_same x (λ e. unused (subst (IsInUse m before) e was)),
          (writer.2).numbers.below x (own_back m n place call.LoanUninit before after w x own_x) was,
        )

        apart_by : (x y : ℕ) → IsOwn after.port.book x → IsOwn after.port.book y → IsInUse m before x ⊎ (x ≡ slot)
            → IsInUse m before y ⊎ (y ≡ slot) → message_then x ≡ message_then y → x ≡ y
        apart_by x y own_x own_y (inl was) (inl is) e =
            (writer.2).numbers.apart x y (own_back m n place call.LoanUninit before after w x own_x)
            (own_back m n place call.LoanUninit before after w y own_y) was is
            (sym (number_same x (λ same. unused (subst (IsInUse m before) same was))) ∙ e
            ∙ number_same y (λ same. unused (subst (IsInUse m before) same is)))
        apart_by x y own_x own_y (inl was) (inr is) e
            = absurd (omega (arith, was_below x own_x was, e, ap message_then is, number_new))
        apart_by x y own_x own_y (inr was) (inl is) e
            = absurd (omega (arith, was_below y own_y is, e, ap message_then was, number_new))
        apart_by x y own_x own_y (inr was) (inr is) e = was ∙ sym is

    own_then : LanePublisherIs choices value names_now n lent_service place after writer_then
    own_then = record {
      stands = (writer.2).stands;
      free = (writer.2).free;
      seen = (writer.2).seen;
      most_loans = (writer.2).most_loans ∙ sym w.port.most_loans;
      kept = (writer.2).kept ∙ sym w.port.kept;
      slots = (writer.2).slots ∙ sym w.port.slots;
      room = (writer.2).room;
      connected = (writer.2).connected
          ∙ sym (ap (λ (rs : List Route). map (λ (route : Route). reader_name names n.links route.connection) rs) w.port.routes
          ∙ ap (λ (ls : List LinkState). map (λ (route : Route). reader_name names ls route.connection) before.port.routes) w.links);
      last = (writer.2).last ∙ sym w.last;
      history = (writer.2).history
          ∙ sym (ap (map (slot_message value names_now n.table)) history
          ∙ map_same (slot_message value names_now n.table) (slot_message value names m.table) before.port.book.history
          (λ x some. message_same x (λ e. unused (inr (inl (subst (λ (y : ℕ). 0 < count y before.port.book.history) e some))))
          (slot_there m place x w.kept (history_there place before x w.found some))));
      numbers = numbers_then;
      decides = λ refuses. subst (λ (fails : Bool). choices.publisher_decides who 0 0
          (decision_of (writer.0).strategy (writer.0).handler) (passing_over fails)) (sym w.port.fails) ((writer.2).decides refuses);
    }

    -- a loan that was goes by the same numbers
    loan_was : (index : ℕ) (entry : ℕ × LaneLoan) → slice_get lent index ≡ Some entry → entry.1.slot ≡ slot → ⊥
    loan_was index entry is e = elim (eqb_tells entry.1.publisher place) [
      | inr away ↦ not_others entry.1.publisher entry.1.slot (lent_own choices value names lent held m service s index entry is) away.1 e
      | inl same ↦ unused (inl (one_is (is_loan before slot) (omega (
        arith,
        s.loans_all place before slot w.found,
        subst (λ (x : ℕ). 0 < count x (slots_lent_at place lent)) e
            (entry_counted (λ (it : LaneLoan). it.slot) (λ (it : LaneLoan). it.publisher == place) lent index entry is same.0),
      ))))
    ]

    old_loan : (index : ℕ) (entry : ℕ × LaneLoan) → slice_get lent index ≡ Some entry
        → loan_by_numbers value names_now n entry.1 ≡ loan_by_numbers value names m entry.1
    old_loan index entry is =
        let apart = loan_was index entry is in
        ap (λ (k : ℕ). record {
          publisher = names.publisher entry.1.publisher;
          number = k;
          values = (if has_written entry.1.slot (slice_get n.publishers entry.1.publisher) then Some
              (value (payload_held n.table entry.1.slot))
              else None) ∷ [];
        }) (number_same entry.1.slot apart)
        ∙ loan_kept choices value names m n entry.1 (same_loan 0 index entry is (λ y e p. marks y (λ same. apart (sym e ∙ same))))
        (stays entry.1.slot (lent_there choices value names lent held m service s w.kept index entry is))

    new_loan : loan_made ≡ loan_by_numbers value names_now n new_one
    new_loan =
        ap (λ (k : ℕ). record { publisher = who; number = k; values = None ∷ [] }) (sym number_new)
        ∙ ap (λ (b : Bool). record {
          publisher = who;
          number = message_then slot;
          values = (if b then Some (value (payload_held n.table slot)) else None) ∷ [];
        }) (sym (ap (has_written slot) w.now ∙ ap is_written lent_now))

    same_then : lent_service.loans ≡ named (loan_by_numbers value names_now n) then_lent
    same_then =
        ap (λ (xs : List (ℕ × Loan T)). xs ++ (loan_number, loan_made) ∷ [])
        (s.loans ∙ sym (entries_same (loan_by_numbers value names_now n) (loan_by_numbers value names m) lent old_loan))
        ∙ ap (λ (it : Loan T). named (loan_by_numbers value names_now n) lent ++ one_entry loan_number it ∷ []) new_loan
        ∙ sym (map-append (λ (entry : ℕ × LaneLoan). one_entry entry.0 (loan_by_numbers value names_now n entry.1)) lent
        ((loan_number, new_one) ∷ []))

    all_then : (p : ℕ) (lane : PublisherLaneState) (x : ℕ) → slice_get n.publishers p ≡ Some lane
        → count x (slots_lent_at p then_lent) ≡ one_if (is_loan lane x)
    all_then p lane x found = elim (eqb_tells p place) [
      | inl same ↦
          let is : lane ≡ after = some_is lane after (sym found ∙ ap (slice_get n.publishers) same.1 ∙ w.now) in
          ap (λ (q : ℕ). count x (slots_lent_at q then_lent)) same.1
          ∙ ap (count x) (appended_slots (λ (it : LaneLoan). it.slot) (λ (it : LaneLoan). it.publisher == place) (loan_number, new_one) lent
          ∙ ap (λ (b : Bool). slots_lent_at place lent ++ cond b (slot ∷ []) []) (eq-eqb place place refl))
          ∙ count_append x (slots_lent_at place lent) (slot ∷ [])
          ∙ here
          ∙ sym (ap (λ (l : PublisherLaneState). one_if (is_loan l x)) is)
      | inr apart ↦
          ap (count x) (appended_slots (λ (it : LaneLoan). it.slot) (λ (it : LaneLoan). it.publisher == p) (loan_number, new_one) lent
          ∙ ap (λ (b : Bool). slots_lent_at p lent ++ cond b (slot ∷ []) []) (ne_eqb place p (λ e. apart.1 (sym e)))
          ∙ append-nil (slots_lent_at p lent))
          ∙ s.loans_all p lane x (sym (others.publishers p apart.1) ∙ found)
    ]
      where
        no_loan : is_loan before slot ≡ false
        no_loan = elim (cases_Bool (is_loan before slot)) [
          | inr f ↦ f
          | inl t ↦ absurd (unused (inl t))
        ]

        here : count x (slots_lent_at place lent) + (one_if (slot == x) + 0) ≡ one_if (is_loan after x)
        here = elim (eqb_tells slot x) [
          | inl same ↦ omega (
            arith,
            ap one_if same.0,
            s.loans_all place before x w.found,
            ap one_if (sym (ap (is_loan before) same.1) ∙ no_loan),
            ap one_if (sym (ap (is_loan after) same.1) ∙ ap is_out lent_now),
          )
          | inr apart ↦ omega (
            arith,
            ap one_if apart.0,
            s.loans_all place before x w.found,
            ap (λ mark. one_if (is_out mark)) (marks x (λ e. apart.1 (sym e))),
          )
        ]

    pub lent_stands : LanesStandFor choices value names_now then_lent held n lent_service
    lent_stands =
        sent_on choices value names message_then lent then_lent held m n place call.LoanUninit before after service
        lent_service.publishers service.mailboxes lent_service.loans (record {
          call = w;
          others = others;
          writers = λ other apart. at_changed_other who other writer_then service.publishers apart;
          own = (writer_then, at_changed who writer_then writer.0 service.publishers writer.1, own_then);
          used = λ p lane x found apart own_x in_use_x. elim in_use_x [
            | inl is ↦ inl is
            | inr (inl is) ↦ inr (inl is)
            | inr (inr is) ↦ inr (inr (held_before m n x w.kept w.between_then mail others.subscribers w.links is))
          ];
          numbered = λ p lane x found apart own_x in_use_x. number_same x
              (not_others p x (own_is m p x lane w.kept w.few found own_x) apart);
          remembered = λ p lane x found apart some.
              let is = history_there p lane x found some in
              message_same x (not_others p x is apart) (slot_there m p x w.kept is);
          messages = held_message;
          boxes = λ connection link found. s.mailboxes connection link found ∙ ap Some (sym (box_same connection link found));
          other_boxes = λ p other lane found joins. refl;
          same = same_then;
          once = once_appended loan_number new_one lent fresh s.loans_once;
          there = appended_entry (loan_number, new_one) lent (λ (entry : ℕ × LaneLoan). (lane : PublisherLaneState)
              × (slice_get m.publishers entry.1.publisher ≡ Some lane)) s.loans_there (before, w.found);
          all = all_then;
        }) s
      where
        box_same : (connection : ℕ) (link : LinkState) → slice_get m.links connection ≡ Some link
            → lane_mailbox value names_now n held connection link ≡ lane_mailbox value names m held connection link
        box_same connection link found =
            ap (λ waiting. record {
              limit = link.limit;
              waiting = waiting;
              borrowed = map (slot_message value names_now n.table) (slots_held_over link held);
            })
            (ap (map (slot_message value names_now n.table)) (mail connection)
            ∙ map_same (slot_message value names_now n.table) (slot_message value names m.table) (mail_at m connection)
            (λ x some. held_message x (held_waits m x w.kept (record { connection = connection; some = some }))))
            ∙ ap (λ borrowed. record {
              limit = link.limit;
              waiting = map (slot_message value names m.table) (mail_at m connection);
              borrowed = borrowed;
            })
            (map_same (slot_message value names_now n.table) (slot_message value names m.table) (slots_held_over link held)
            (λ x some. held_message x (held_borrowed m x w.kept (record {
              connection = connection;
              link = link;
              found = found;
              has = over_borrowed choices value names lent held m service s connection link x found some;
            }))))

  -- the machine's publisher stands, and no send of it waits
  does : (types : MessageTypeDetails) (buffer : ℕ) (state : State T) (new : Service T) (answer : Reply T)
      → LendsLoan (state.made.loans + 1) who 1 None writer.0 service answer new
      → Step types choices buffer (command.LoanUninit who 1) (record state { services = service ∷ [] }) answer
      (record state { made = counted answer state.made; services = new ∷ [] })
  does types buffer state new answer lends =
      one_does (publisher_in who) (λ (it : Writer T) (old : Service T) (answered : Reply T) (new_one : Service T).
      MatchOption it.blocked (LendsLoan (state.made.loans + 1) who 1 None it old answered new_one)
      (λ (send : Send T). IsSkipped old answered new_one)) state service new answer writer.0 stands
      (free_does (writer.0).blocked (writer.2).free)
    where
      stands : publisher_in who service ≡ Some writer.0
      stands =
          ap (option_and_then (λ (it : Writer T). if it.stands then Some it else None)) writer.1
          ∙ ap (λ (b : Bool). if b then Some writer.0 else None) (writer.2).stands

      free_does : (o : Option (Send T)) → o ≡ None
          → MatchOption o (LendsLoan (state.made.loans + 1) who 1 None writer.0 service answer new)
          (λ (send : Send T). IsSkipped service answer new)
      free_does None e = lends
      free_does (Some send) e = absurd (cc e)

  refuses_by : (number : ℕ) (error : LoanError) → loan_refusal who 1 writer.0 service ≡ Some error
      → LendsLoan number who 1 None writer.0 service (reply.Refused (refusal.Loan error)) service
  refuses_by number error e
      = (Some error, writer.0, match_some (loan_refusal who 1 writer.0 service) error _ _ e (refl, refl), (refl, refl))

  lends_by : (number : ℕ) → loan_refusal who 1 writer.0 service ≡ None
      → LendsLoan number who 1 None writer.0 service (reply.LoanMade number)
      (record (with_publisher who (record writer.0 { next = (writer.0).next + 1 }) service) {
        loans = service.loans ++ (number, record { publisher = who; number = (writer.0).next; values = None ∷ [] }) ∷ [];
      })
  lends_by number e = (
    None,
    record writer.0 { next = (writer.0).next + 1 },
    match_none (loan_refusal who 1 writer.0 service) _ _ e (match_false (nat_lt (writer.0).room 1) _ _ has_room (refl, refl)),
    (refl, refl),
  )

  pub step_by : (types : MessageTypeDetails) (buffer : ℕ) (state : State T) (given : LoanAnswer) → Lends m before given after
      → loans_out before.port.book ≤ before.port.book.most_loans → at (state.made.loans + 1) lent ≡ None
      → (message : ℕ → ℕ) × ((x : ℕ) → (given ≡ loan.Slot x → ⊥) → message x ≡ names.message x)
      × IsLaneStep choices value types buffer (command.LoanUninit who 1) (loan_replied (state.made.loans + 1) given) state
      service (record names { message = message }) (with_lent_slot (state.made.loans + 1) place given lent) held n
  step_by types buffer state loan.ExceedsMaxLoans lends few fresh = (
    names.message,
    (λ x apart. refl),
    (
      service,
      does types buffer state service (reply.Refused (refusal.Loan why.ExceedsMaxLoans))
          (refuses_by (state.made.loans + 1) why.ExceedsMaxLoans (refused_most (lends.refused.0 refl))),
      unchanged (λ x. lends.others x (differ x)),
    ),
  )
    where
      differ : (x : ℕ) → loan.ExceedsMaxLoans ≡ loan.Slot x → ⊥
      differ x e = cc e
  step_by types buffer state loan.OutOfMemory lends few fresh = (
    names.message,
    (λ x apart. refl),
    (
      service,
      does types buffer state service (reply.Refused (refusal.Loan why.OutOfMemory))
          (refuses_by (state.made.loans + 1) why.OutOfMemory (refused_all (lends.lacks.0 refl).0 (lends.lacks.0 refl).1)),
      unchanged (λ x. lends.others x (differ x)),
    ),
  )
    where
      differ : (x : ℕ) → loan.OutOfMemory ≡ loan.Slot x → ⊥
      differ x e = cc e
  step_by types buffer state (loan.Slot slot) lends few fresh =
      let g = lends.gives slot refl in (
        message_then (state.made.loans + 1) slot fresh g.0 g.1 g.2 (λ x apart. lends.others x (λ e. apart (same x e))),
        (λ x apart. number_same (state.made.loans + 1) slot fresh g.0 g.1 g.2 (λ y off. lends.others y (λ e. off (same y e))) x
            (λ e. apart (ap loan.Slot (sym e)))),
        (
          lent_service (state.made.loans + 1) slot fresh g.0 g.1 g.2 (λ x apart. lends.others x (λ e. apart (same x e))),
          does types buffer state
              (lent_service (state.made.loans + 1) slot fresh g.0 g.1 g.2 (λ x apart. lends.others x (λ e. apart (same x e))))
              (reply.LoanMade (state.made.loans + 1))
              (lends_by (state.made.loans + 1) (not_refused slot (fewer (cases_lt (loans_out before.port.book) before.port.book.most_loans))
              g.0 g.1)),
          lent_stands (state.made.loans + 1) slot fresh g.0 g.1 g.2 (λ x apart. lends.others x (λ e. apart (same x e))),
        ),
      )
    where
      same : (x : ℕ) → loan.Slot slot ≡ loan.Slot x → x ≡ slot
      same x e = cc e

      not_most : loan.ExceedsMaxLoans ≡ loan.Slot slot → ⊥
      not_most e = cc e

      fewer : (loans_out before.port.book < before.port.book.most_loans) ⊎ (before.port.book.most_loans ≤ loans_out before.port.book)
          → loans_out before.port.book < before.port.book.most_loans
      fewer (inl less) = less
      fewer (inr full) = absurd (not_most (sym (lends.refused.1 (omega (arith, full, few)))))

pub loans_are_steps : {T : Type 0} (choices : Choices T) (value : List ℕ → T) (types : MessageTypeDetails) (buffer : ℕ)
    → LoansAreSteps choices value types buffer
loans_are_steps choices value types buffer = λ names lent held m n service state place before s t found small fresh.
    let w = writer_call m n place call.LoanUninit before t found in
    let law = loans_in_turn m n place before w.0 t found w.1.now small in
    let counts = ((w.1.kept.rooms w.1.few).publishers place before found).counts in (
      law.0,
      law.1,
      step_by choices value names lent held m n service s place before w.0 w.1 law.2 law.3 law.4 types buffer state law.0 law.5
          (omega (arith, counts.few, counts.out (omega (arith, small)))) fresh,
    )
