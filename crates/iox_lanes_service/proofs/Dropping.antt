-- A loan that is given up where no other call overlaps is one of the machine.
use Rattle.std.proofs.Common.{ℕ, ◌≡◌, ◌<◌, ◌≤◌, Bool, List, map, slice_get, Option, Some, refl, sym, ◌∙◌, ap}
use Rattle.std.proofs.Common.{subst, inl}
use Rattle.std.proofs.Common.{inr, arith}
use Rattle.std.specs.Prelude.{option_map}
use Rattle.std.specs.Map.{keys_of}
use Rattle.std.proofs.lemmas.Bool.Decides.{eqb_tells}
use Rattle.iox_command.specs.DomainValues.Actions.{decision_of}
use Rattle.iox_command.specs.NegotiateBase.DescribeBase.declared.message_type.MessageTypeDetails.{MessageTypeDetails}
use Rattle.iox_command.specs.declared.reply.Reply.{Reply}
use Rattle.iox_command.specs.declared.reply.Reply.TheVariants as reply
use Rattle.iox_lanes_machine.specs.LanesBase.declared.calls.route.Route.{Route}
use Rattle.iox_lanes_machine.specs.LanesParties.Parties.{PublisherLaneState, name_of, is_out}
use Rattle.iox_lanes_machine.specs.LanesParties.declared.call.Call.{Call}
use Rattle.iox_lanes_machine.specs.LanesParties.declared.call.Call.TheVariants as call
use Rattle.iox_lanes_machine.specs.LanesParties.declared.call.CallName.TheVariants as name
use Rattle.iox_lanes_machine.specs.FullLoans.{IsHeld, IsInUse}
use Rattle.iox_lanes_machine.specs.LedgerUses.{count, one_if, IsOwn}
use Rattle.iox_lanes_machine.specs.Links.{LinkState}
use Rattle.iox_lanes_machine.specs.Resting.{mail_at}
use Rattle.iox_lanes_machine.specs.World.{World}
use Rattle.iox_lanes_machine.proofs.Owned.{histories_are_own}
use Rattle.iox_lanes_laws.specs.Publishing.{OnlyPublisher, HistoryStays, LoanEnds, is_loan}
use Rattle.iox_lanes_laws.specs.Turns.{MailStays}
use Rattle.iox_lanes_laws.proofs.Ends.{publisher_there}
use Rattle.iox_lanes_laws.proofs.PublisherLaws.{drops_in_turn}
use Rattle.iox_lanes_service.specs.Laws.{DropsAreSteps}
use Rattle.iox_lanes_service.specs.Naming.{LaneNaming, LaneLoan, LaneSample, reader_name, slots_held_over, loan_by_numbers, lane_mailbox}
use Rattle.iox_lanes_service.specs.Naming.{slot_message}
use Rattle.iox_lanes_service.specs.Naming.{slots_lent_at}
use Rattle.iox_lanes_service.specs.Ports.{LanePublisherIs, passing_over}
use Rattle.iox_lanes_service.specs.Standing.{LanesStandFor}
use Rattle.iox_lanes_service.proofs.Beside.{one_does}
use Rattle.iox_lanes_service.proofs.Carrying.{HoldsSame, numbers_kept, same_message}
use Rattle.iox_lanes_service.proofs.Holding.{over_borrowed}
use Rattle.iox_lanes_service.proofs.Lent.{held_before, loans_left, same_left, left_there}
use Rattle.iox_lanes_service.proofs.Publishing.{WriterCall, sent_on, sequence_stays, writer_call}
use Rattle.iox_lanes_service.proofs.Tables.{at_mapped, map_same, counted_stands, once_removed, not_both}
use Rattle.iox_lanes_service.proofs.Used.{held_waits, held_borrowed, held_there, slot_there}
use Rattle.iox_machine.specs.Choices.{Choices}
use Rattle.iox_machine.specs.Mailbox.{Mailbox}
use Rattle.iox_machine.specs.Message.{Loan}
use Rattle.iox_machine.specs.Service.{Publisher as Writer, Service}
use Rattle.iox_machine.specs.Table.{at, removed}

-- the slots of a publisher are those that it had
pub own_back : (m n : World) (place : ℕ) (c : Call) (before after : PublisherLaneState) → WriterCall m n place c before after
    → (slot : ℕ) → IsOwn after.port.book slot → IsOwn before.port.book slot
own_back m n place c before after w slot own =
    let was = ((w.kept.uses w.few).publishers place before w.found).counted in
    let is = ((w.kept_then.uses w.few_then).publishers place after w.now).counted in
    record {
      above = omega (arith, own.above, w.port.first);
      below = omega (arith, own.below, w.port.first, w.port.slots, was.loans_each, is.loans_each);
    }

module _ {T : Type 0} (choices : Choices T) (value : List ℕ → T) (names : LaneNaming) (lent : List (ℕ × LaneLoan))
    (held : List (ℕ × LaneSample)) (m n : World) (service : Service T) (s : LanesStandFor choices value names lent held m service)
    (place : ℕ) (c : Call) (before after : PublisherLaneState) (w : WriterCall m n place c before after)
    (last : after.last ≡ before.last) (held_stays : (slot : ℕ) → IsHeld m slot → HoldsSame names.numbered m n slot)
    (kept_stays : (who : ℕ) (lane : PublisherLaneState) (slot : ℕ) → slice_get m.publishers who ≡ Some lane
    → 0 < count slot lane.port.book.history → HoldsSame names.numbered m n slot) where
  -- messages that are held stay
  pub held_message : (slot : ℕ) → IsHeld m slot → slot_message value names n.table slot ≡ slot_message value names m.table slot
  held_message slot h = same_message choices value names m n slot (held_stays slot h)

  -- so does the mailbox of a connection at which the same waits
  pub same_box : MailStays m n → (connection : ℕ) (link : LinkState) → slice_get m.links connection ≡ Some link
      → lane_mailbox value names n held connection link ≡ lane_mailbox value names m held connection link
  same_box mail connection link found =
      ap (λ waiting. record {
        limit = link.limit;
        waiting = waiting;
        borrowed = map (slot_message value names n.table) (slots_held_over link held);
      })
      (ap (map (slot_message value names n.table)) (mail connection)
      ∙ map_same (slot_message value names n.table) (slot_message value names m.table) (mail_at m connection)
      (λ slot some. held_message slot (held_waits m slot w.kept (record { connection = connection; some = some }))))
      ∙ ap (λ borrowed. record {
        limit = link.limit;
        waiting = map (slot_message value names m.table) (mail_at m connection);
        borrowed = borrowed;
      })
      (map_same (slot_message value names n.table) (slot_message value names m.table) (slots_held_over link held)
      (λ slot some. held_message slot (held_borrowed m slot w.kept (record {
        connection = connection;
        link = link;
        found = found;
        has = over_borrowed choices value names lent held m service s connection link slot found some;
      }))))

  -- the publisher of the call is the same of the machine, where it uses no other slot
  pub own_kept : (publishers : List (ℕ × Writer T)) (mailboxes : ℕ → ℕ → Option (Mailbox T)) (loans : List (ℕ × Loan T))
      (writer : Writer T) → HistoryStays before after
      → ((slot : ℕ) → IsInUse n after slot → IsInUse m before slot)
      → LanePublisherIs choices value names m service place before writer
      → LanePublisherIs choices value names n (record service { publishers = publishers; mailboxes = mailboxes; loans = loans }) place after
      writer
  own_kept publishers mailboxes loans writer history used h = record {
    stands = h.stands;
    free = h.free;
    seen = h.seen;
    most_loans = h.most_loans ∙ sym w.port.most_loans;
    kept = h.kept ∙ sym w.port.kept;
    slots = h.slots ∙ sym w.port.slots;
    room = h.room;
    connected = h.connected
        ∙ sym (ap (λ (rs : List Route). map (λ (route : Route). reader_name names n.links route.connection) rs) w.port.routes
        ∙ ap (λ (ls : List LinkState). map (λ (route : Route). reader_name names ls route.connection) before.port.routes) w.links);
    last = h.last ∙ sym last;
    history = h.history
        ∙ sym (ap (map (slot_message value names n.table)) history
        ∙ map_same (slot_message value names n.table) (slot_message value names m.table) before.port.book.history
        (λ slot some. same_message choices value names m n slot (kept_stays place before slot w.found some)));
    numbers = numbers_kept names.message names.message m n before after writer.first writer.next
        (own_back m n place c before after w) (λ slot own in_use. used slot in_use) (λ slot own in_use. refl) h.numbers;
    decides = λ refuses. subst (λ (fails : Bool). choices.publisher_decides (names.publisher place) 0 0
        (decision_of writer.strategy writer.handler) (passing_over fails)) (sym w.port.fails) (h.decides refuses);
  }

  -- so lanes stand for the same service but for its loans, where nothing is put and no other slot is used
  pub loans_changed : (then_lent : List (ℕ × LaneLoan)) (loans : List (ℕ × Loan T)) → OnlyPublisher m place n → MailStays m n
      → HistoryStays before after → ((slot : ℕ) → IsInUse n after slot → IsInUse m before slot)
      → loans ≡ map (λ (entry : ℕ × LaneLoan). (entry.0, loan_by_numbers value names n entry.1)) then_lent
      → ((number : ℕ) → count number (keys_of then_lent) ≤ 1)
      → ((index : ℕ) (entry : ℕ × LaneLoan) → slice_get then_lent index ≡ Some entry
      → (lane : PublisherLaneState) × (slice_get m.publishers entry.1.publisher ≡ Some lane))
      → ((who : ℕ) (lane : PublisherLaneState) (slot : ℕ) → slice_get n.publishers who ≡ Some lane
      → count slot (slots_lent_at who then_lent) ≡ one_if (is_loan lane slot))
      → LanesStandFor choices value names then_lent held n (record service { loans = loans })
  loans_changed then_lent loans others mail history used same once there all =
      sent_on choices value names names.message lent then_lent held m n place c before after service service.publishers service.mailboxes
      loans (record {
        call = w;
        others = others;
        writers = λ other apart. refl;
        own = let one = s.publishers place before w.found in
            (one.0, one.1, own_kept service.publishers service.mailboxes loans one.0 history used one.2);
        used = λ who lane slot found apart own in_use. elim in_use [
          | inl is ↦ inl is
          | inr (inl is) ↦ inr (inl is)
          | inr (inr is) ↦ inr (inr (held_before m n slot w.kept w.between_then mail others.subscribers w.links is))
        ];
        numbered = λ who lane slot found apart own in_use. refl;
        remembered = λ who lane slot found apart some. same_message choices value names m n slot (kept_stays who lane slot found some);
        messages = held_message;
        boxes = λ connection link found. s.mailboxes connection link found ∙ ap Some (sym (same_box mail connection link found));
        other_boxes = λ who other lane found joins. refl;
        same = same;
        once = once;
        there = there;
        all = all;
      }) s

pub drops_are_steps : {T : Type 0} (choices : Choices T) (value : List ℕ → T) (types : MessageTypeDetails) (buffer : ℕ)
    → DropsAreSteps choices value types buffer
drops_are_steps {T} choices value types buffer = λ names lent held m n service state number one s there t.
    let c : Call = call.DropLoan one.slot in
    let before = publisher_there m one.publisher c (slice_get m.publishers one.publisher) refl t.begins.0 in
    let w = writer_call m n one.publisher c before.0 t before.1 in
    let law = drops_in_turn m n one.publisher one.slot before.0 w.0 t before.1 w.1.now in
    let stays : (slot : ℕ) → slot < m.table.sizes.slots → HoldsSame names.numbered m n slot
    = λ slot below. (
      w.1.payloads slot below (differ one.slot slot),
      sequence_stays names.numbered m n one.publisher c before.0 w.0 w.1 s.numbers slot below (unsent one.slot slot),
    ) in
    let found : at number service.loans ≡ Some (loan_by_numbers value names m one) =
    ap (at number) s.loans ∙ at_mapped (loan_by_numbers value names m) number lent
    ∙ ap (option_map (loan_by_numbers value names m)) there in (
      law.0,
      (
        record service { loans = removed number service.loans },
        one_does (λ (it : Service T). at number it.loans)
            (λ (it : Loan T) (old : Service T) (answered : Reply T) (new : Service T). (answered ≡ reply.Done)
            × (new ≡ record old { loans = removed number old.loans }))
            state service (record service { loans = removed number service.loans }) reply.Done (loan_by_numbers value names m one) found
            (refl, refl),
        loans_changed choices value names lent held m n service s one.publisher c before.0 w.0 w.1 w.1.last
            (λ slot h. stays slot (held_there m slot w.1.kept w.1.few h))
            (λ who lane slot at_it some.
            let stands = counted_stands lane.port.book.history slot some in
            stays slot (slot_there m who slot w.1.kept ((histories_are_own m w.1.kept w.1.few who lane at_it).own stands.0 slot stands.1)))
            (removed number lent) (removed number service.loans) law.1 law.2 law.3
            (used_before m n one.publisher one.slot before.0 w.0 w.1 law.1 law.2 law.3 law.4)
            (same_left choices value names lent held m n service s number one there c before.0 w.0 w.1 law.1 (law.4).others
            (λ slot below off. (stays slot below).0))
            (once_removed number lent s.loans_once)
            (left_there choices value names lent held m n service s number one there c before.0 w.0 w.1 law.1)
            (loans_left choices value names lent held m n service s number one there c before.0 w.0 w.1 law.1 (law.4).ended (law.4).others),
      ),
    )
  where
    differ : (loan slot : ℕ) → name_of (call.DropLoan loan) ≡ name.Write slot → ⊥
    differ loan slot e = cc e

    unsent : (loan slot : ℕ) → name_of (call.DropLoan loan) ≡ name.Send slot → ⊥
    unsent loan slot e = cc e

    used_before : (m n : World) (place loan : ℕ) (before after : PublisherLaneState)
        → WriterCall m n place (call.DropLoan loan) before after → OnlyPublisher m place n → MailStays m n → HistoryStays before after
        → LoanEnds before after loan → (slot : ℕ) → IsInUse n after slot → IsInUse m before slot
    used_before m n place loan before after w others mail history ends slot (inl out) = elim (eqb_tells slot loan) [
      | inl same ↦ not_both (is_loan after slot) out (ap (is_loan after) same.1 ∙ ends.ended)
      | inr apart ↦ inl (sym (ap is_out (ends.others slot apart.1)) ∙ out)
    ]
    used_before m n place loan before after w others mail history ends slot (inr (inl some))
        = inr (inl (subst (λ (xs : List ℕ). 0 < count slot xs) history some))
    used_before m n place loan before after w others mail history ends slot (inr (inr is))
        = inr (inr (held_before m n slot w.kept w.between_then mail others.subscribers w.links is))
