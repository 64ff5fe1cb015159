-- Which loans of lanes in turn are written.
use Rattle.std.proofs.Common.{ℕ, zero, suc, ◌≡◌, ◌+◌, ◌<◌, ◌≤◌, ◌^◌, ◌==◌, ◌||◌, Bool, true, List, slice_get, Option, None}
use Rattle.std.proofs.Common.{Some}
use Rattle.std.proofs.Common.{refl, sym, ◌∙◌, ap, subst, inl, inr, arith}
use Rattle.std.specs.Global.{Vec}
use Rattle.std.proofs.lemmas.Bool.{cases_Bool, eq-eqb}
use Rattle.std.proofs.lemmas.Bool.Decides.{eqb_tells}
use Rattle.iox_command.specs.declared.command.Command.{Command}
use Rattle.iox_command.specs.declared.reply.Reply.{Reply}
use Rattle.iox_lanes_machine.specs.QueuesSteps.declared.order.Placed.{Placed}
use Rattle.iox_lanes_machine.specs.LanesParties.Parties.{PublisherLaneState, SubscriberLaneState, is_out, is_written}
use Rattle.iox_lanes_machine.specs.LanesParties.PublisherKeeping.{loan_of}
use Rattle.iox_lanes_machine.specs.LanesParties.declared.call.Answer.TheVariants as answer
use Rattle.iox_lanes_machine.specs.LanesParties.declared.call.Call.{Call}
use Rattle.iox_lanes_machine.specs.LanesParties.declared.call.Call.TheVariants as call
use Rattle.iox_lanes_machine.specs.LanesParties.declared.call.Move.{Move}
use Rattle.iox_lanes_machine.specs.LanesParties.declared.call.Move.TheVariants.{Begin, GoOn}
use Rattle.iox_lanes_machine.specs.LanesParties.declared.call.Party.TheVariants.{Publisher, Subscriber}
use Rattle.iox_lanes_machine.specs.LanesParties.declared.publisher.slot_book.LoanAnswer.{LoanAnswer}
use Rattle.iox_lanes_machine.specs.LanesParties.declared.publisher.slot_book.LoanAnswer.TheVariants as loan
use Rattle.iox_lanes_machine.specs.LanesParties.declared.publisher.slot_book.LoanMark.{LoanMark}
use Rattle.iox_lanes_machine.specs.LanesParties.declared.publisher.slot_book.LoanMark.TheVariants as mark
use Rattle.iox_lanes_machine.specs.LanesParties.Within.{IsPublisher}
use Rattle.iox_lanes_machine.specs.LedgerUses.{count, one_if}
use Rattle.iox_lanes_machine.specs.World.{World, happens, subscriber_begins, subscriber_goes_on}
use Rattle.iox_lanes_machine.proofs.LanesParties.Rings.{all_at}
use Rattle.iox_lanes_machine.proofs.Paces.{came_kept}
use Rattle.iox_lanes_laws.specs.Publishing.{Lends, LoanEnds, OnlyPublisher, OtherMarksStay, is_loan}
use Rattle.iox_lanes_laws.specs.Turns.{GoesToEnd, IsAnswered, IsInTurn}
use Rattle.iox_lanes_laws.proofs.Ends.{publisher_there}
use Rattle.iox_lanes_laws.proofs.Payloads.{publishers_stay_in_turn}
use Rattle.iox_lanes_laws.proofs.PublisherLaws.{drops_in_turn, loans_in_turn, sends_in_turn, writes_in_turn}
use Rattle.iox_lanes_service.specs.InTurn.{Turns}
use Rattle.iox_lanes_service.specs.Naming.{LaneLoan, has_written, slots_lent_at}
use Rattle.iox_lanes_service.specs.Turning.{AreWritten, TurnsStand, loan_spent, loan_written, loaned}
use Rattle.iox_lanes_service.proofs.Tables.{appended_entry, left_apart, left_entry, one_in_slot, same_entry, stands_at_index}
use Rattle.iox_machine.specs.State.{State}
use Rattle.iox_machine.specs.Table.{at, contains}

-- ---- calls of subscribers

begun_beside : (m : World) (place : ℕ) (asking : Call) (o : Option SubscriberLaneState)
    → (subscriber_begins m place asking o).publishers ≡ m.publishers
begun_beside m place asking None = refl
begun_beside m place asking (Some lane) = refl

gone_beside : (m : World) (place : ℕ) (orders : List (List Placed)) (o : Option SubscriberLaneState)
    → (subscriber_goes_on (record m { orders = orders }) place o).publishers ≡ m.publishers
gone_beside m place orders None = refl
gone_beside m place orders (Some lane) = refl

step_beside : (m : World) (place : ℕ) (step : Move) → (happens m (Subscriber place) step).publishers ≡ m.publishers
step_beside m place (Begin asking) = begun_beside m place asking (slice_get m.subscribers place)
step_beside m place GoOn = gone_beside m place _ (slice_get m.subscribers place)

went_beside : (place more : ℕ) (m n : World) → GoesToEnd (Subscriber place) more m n → n.publishers ≡ m.publishers
went_beside place zero m n goes = ap (λ (w : World). w.publishers) goes.2 ∙ step_beside m place GoOn
went_beside place (suc more) m n goes =
    went_beside place more goes.0 n goes.2 ∙ ap (λ (w : World). w.publishers) (goes.1).2 ∙ step_beside m place GoOn

-- a call of a subscriber leaves publishers as they were
reader_beside : (m n : World) (place : ℕ) (asking : Call) → IsInTurn m (Subscriber place) asking n → n.publishers ≡ m.publishers
reader_beside m n place asking t =
    went_beside place t.more t.begun n t.goes ∙ ap (λ (w : World). w.publishers) (t.begins).2 ∙ step_beside m place (Begin asking)

-- so loans are as written as they were
pub written_beside : (turns new : Turns) (m n : World) (place : ℕ) (asking : Call) → IsInTurn m (Subscriber place) asking n
    → new.lent ≡ turns.lent → new.written ≡ turns.written → new.loans ≡ turns.loans → AreWritten turns m → AreWritten new n
written_beside turns new m n place asking t lent written loans w = record {
  each = λ index entry is has.
      subst (λ (lanes : List PublisherLaneState). has_written entry.1.slot (slice_get lanes entry.1.publisher) ≡ true)
      (sym (reader_beside m n place asking t))
      (w.each index entry (subst (λ (table : List (ℕ × LaneLoan)). slice_get table index ≡ Some entry) lent is)
      (subst (λ (numbers : List ℕ). contains numbers entry.0 ≡ true) written has));
  low = λ number has.
      let most = w.low number (subst (λ (numbers : List ℕ). contains numbers number ≡ true) written has) in
      omega (arith, most, loans);
}

-- ---- calls of publishers

written_out : (it : LoanMark) → is_written it ≡ true → is_out it ≡ true
written_out mark.No is = absurd (cc is)
written_out mark.Lent is = refl
written_out mark.Written is = refl

module _ (turns : Turns) (m n : World) (place : ℕ) (before after : PublisherLaneState) (others : OnlyPublisher m place n)
    (found : slice_get m.publishers place ≡ Some before) (now : slice_get n.publishers place ≡ Some after)
    (w : AreWritten turns m) where
  -- what is written is still, where it is so of the publisher
  still_written : (one : LaneLoan)
      → (one.publisher ≡ place → is_written (loan_of one.slot before.port.book) ≡ true
      → is_written (loan_of one.slot after.port.book) ≡ true)
      → has_written one.slot (slice_get m.publishers one.publisher) ≡ true
      → has_written one.slot (slice_get n.publishers one.publisher) ≡ true
  still_written one here was = elim (eqb_tells one.publisher place) [
    | inl same ↦
        ap (has_written one.slot) (ap (slice_get n.publishers) same.1 ∙ now)
        ∙ here same.1 (sym (ap (has_written one.slot) (ap (slice_get m.publishers) same.1 ∙ found)) ∙ was)
    | inr apart ↦ ap (has_written one.slot) (others.publishers one.publisher apart.1) ∙ was
  ]

  loaned_written : (given : LoanAnswer) → Lends m before given after → AreWritten (loaned place given turns) n
  loaned_written (loan.Slot slot) lends = record {
    each = appended_entry (turns.loans + 1, record { publisher = place; slot = slot }) turns.lent
        (λ entry. contains turns.written entry.0 ≡ true
        → has_written entry.1.slot (slice_get n.publishers entry.1.publisher) ≡ true)
        (λ index entry is has. still_written entry.1 (λ same written.
        ap is_written (lends.others entry.1.slot (λ e. (lends.gives entry.1.slot e).1
        (inl (written_out (loan_of entry.1.slot before.port.book) written)))) ∙ written) (w.each index entry is has))
        (λ has. let most = w.low (turns.loans + 1) has in absurd (omega (arith, most)));
    low = λ number has. let most = w.low number has in omega (arith, most);
  }
  loaned_written loan.ExceedsMaxLoans lends = record {
    each = λ index entry is has. still_written entry.1 (λ same written.
        ap is_written (lends.others entry.1.slot (λ e. cc e)) ∙ written) (w.each index entry is has);
    low = w.low;
  }
  loaned_written loan.OutOfMemory lends = record {
    each = λ index entry is has. still_written entry.1 (λ same written.
        ap is_written (lends.others entry.1.slot (λ e. cc e)) ∙ written) (w.each index entry is has);
    low = w.low;
  }

  module _ (number slot : ℕ) (there : at number turns.lent ≡ Some (record { publisher = place; slot = slot }))
      (state : State (List ℕ)) (s : TurnsStand turns m state) where
    abbrev one : LaneLoan
    one = record { publisher = place; slot = slot }

    abbrev stood : (index : ℕ) × (slice_get turns.lent index ≡ Some (number, one))
    stood = stands_at_index number one turns.lent there

    filled_written : (payload : List ℕ) → number ≤ turns.loans → OtherMarksStay before slot after
        → loan_of slot after.port.book ≡ mark.Written → AreWritten (loan_written number payload turns) n
    filled_written payload low marks marked = record {
      each = λ index entry is has. elim (eqb_tells number entry.0) [
        | inl same ↦
            subst (λ (it : ℕ × LaneLoan). has_written it.1.slot (slice_get n.publishers it.1.publisher) ≡ true)
            (sym (same_entry turns.lent s.stands.loans_once index stood.0 entry (number, one) is stood.1 (sym same.1)))
            (ap (has_written slot) now ∙ ap is_written marked)
        | inr apart ↦
            still_written entry.1 (λ same written. elim (eqb_tells entry.1.slot slot) [
              | inl e ↦ ap (λ (x : ℕ). is_written (loan_of x after.port.book)) e.1 ∙ ap is_written marked
              | inr off ↦ ap is_written (marks entry.1.slot off.1) ∙ written
            ])
            (w.each index entry is (sym (ap (λ (b : Bool). b || contains turns.written entry.0) apart.0) ∙ has))
      ];
      low = λ other has. elim (eqb_tells number other) [
        | inl same ↦ omega (arith, low, same.1)
        | inr apart ↦ w.low other (sym (ap (λ (b : Bool). b || contains turns.written other) apart.0) ∙ has)
      ];
    }

    once : count slot (slots_lent_at place turns.lent) ≤ 1
    once = elim (cases_Bool (is_loan before slot)) [
      | inl t ↦ omega (arith, s.stands.loans_all place before slot found, ap one_if t)
      | inr f ↦ omega (arith, s.stands.loans_all place before slot found, ap one_if f)
    ]

    spent_written : (asked : Command (List ℕ)) (replied : Reply (List ℕ)) → LoanEnds before after slot
        → AreWritten (loan_spent number asked replied turns) n
    spent_written asked replied ends = record {
      each = λ index entry is has.
          let was = left_entry number turns.lent index entry is in
          still_written entry.1 (λ same written.
          ap is_written (ends.others entry.1.slot (λ e. left_apart number turns.lent index entry is
          (ap (λ (it : ℕ × LaneLoan). it.0)
          (one_in_slot (λ (it : LaneLoan). it.slot) (λ (it : LaneLoan). it.publisher == place) turns.lent slot once was.0 stood.0 entry
          (number, one) was.1 stood.1 (eq-eqb entry.1.publisher place same) (eq-eqb place place refl) e refl)))) ∙ written)
          (w.each was.0 entry was.1 has);
      low = w.low;
    }

-- a publisher before and after its call
record Caller (m n : World) (place : ℕ) : Type 0 where
  before : PublisherLaneState
  after : PublisherLaneState
  found : slice_get m.publishers place ≡ Some before
  now : slice_get n.publishers place ≡ Some after

caller : (m n : World) (place : ℕ) (asking : Call) → IsInTurn m (Publisher place) asking n → Caller m n place
caller m n place asking t =
    let there = publisher_there m place asking (slice_get m.publishers place) refl t.begins.0 in
    let stays = publishers_stay_in_turn m n place asking there.0 t there.1 in
    record { before = there.0; after = (stays.1).0; found = there.1; now = (stays.1).1 }

module _ (turns : Turns) (m n : World) (place : ℕ) (w : AreWritten turns m) where
  -- a loan that is lent is unwritten
  pub loan_leaves : (given : LoanAnswer) → IsInTurn m (Publisher place) call.LoanUninit n → m.table.sizes.slots < 2 ^ 64
      → ((other : LoanAnswer) → IsAnswered m (Publisher place) call.LoanUninit (answer.Lent other) n → other ≡ given)
      → AreWritten (loaned place given turns) n
  loan_leaves given t small same =
      let it : Caller m n place = caller m n place call.LoanUninit t in
      let p : IsPublisher m.table.sizes it.before
      = all_at (IsPublisher m.table.sizes) m.publishers place it.before it.found ((came_kept m t.came).0).within.publishers in
      let law = loans_in_turn m n place it.before it.after t it.found it.now (omega (arith, p.slots, small)) in
      loaned_written turns m n place it.before it.after law.2 it.found it.now w given
      (subst (λ (given : LoanAnswer). Lends m it.before given it.after) (same law.0 law.1) law.5)

  module _ (number slot : ℕ) (there : at number turns.lent ≡ Some (record { publisher = place; slot = slot }))
      (state : State (List ℕ)) (s : TurnsStand turns m state) where
    pub write_leaves : (payload user_header : Vec ℕ) → IsInTurn m (Publisher place) (call.Write slot payload user_header) n
        → number ≤ turns.loans → AreWritten (loan_written number payload.items turns) n
    write_leaves payload user_header t low =
        let it : Caller m n place = caller m n place (call.Write slot payload user_header) t in
        let law = writes_in_turn m n place slot (call.Write slot payload user_header) it.before it.after refl t it.found it.now in
        filled_written turns m n place it.before it.after law.1 it.found it.now w number slot there state s payload.items low law.4 law.5

    pub send_leaves : (asked : Command (List ℕ)) (replied : Reply (List ℕ)) → IsInTurn m (Publisher place) (call.Send slot) n
        → AreWritten (loan_spent number asked replied turns) n
    send_leaves asked replied t =
        let it : Caller m n place = caller m n place (call.Send slot) t in
        let law = sends_in_turn m n place slot it.before it.after t it.found it.now in
        spent_written turns m n place it.before it.after law.2 it.found it.now w number slot there state s asked replied (law.3).loans

    pub drop_leaves : (asked : Command (List ℕ)) (replied : Reply (List ℕ)) → IsInTurn m (Publisher place) (call.DropLoan slot) n
        → AreWritten (loan_spent number asked replied turns) n
    drop_leaves asked replied t =
        let it : Caller m n place = caller m n place (call.DropLoan slot) t in
        let law = drops_in_turn m n place slot it.before it.after t it.found it.now in
        spent_written turns m n place it.before it.after law.1 it.found it.now w number slot there state s asked replied law.4
