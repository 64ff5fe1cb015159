-- Calls of lanes that go in turn are steps of the machine, one after the other.
use Rattle.std.proofs.Common.{ℕ, ◌≡◌, ◌+◌, ◌<◌, ◌≤◌, ◌^◌, ◌==◌, ◌&&◌, Bool, true, false, cond, zero, suc, List, [], ◌∷◌, length, find}
use Rattle.std.proofs.Common.{slice_get, option_map, Option, Some, None, refl, sym, ◌∙◌, ap, subst, arith}
use Rattle.std.proofs.Handle.{handle}
use Rattle.std.proofs.lemmas.Bool.{eq-eqb, eqb-true}
use Rattle.std.specs.Global.{Vec}
use Rattle.std.specs.Map.{keys_of}
use Rattle.std.specs.Vec.{vec_items}
use denote.RawPtr.{null_ptr}
use Rattle.iox_command.specs.NegotiateBase.DescribeBase.declared.message_type.MessageTypeDetails.{MessageTypeDetails}
use Rattle.iox_command.specs.declared.command.Command.{Command}
use Rattle.iox_command.specs.declared.command.Command.TheVariants as command
use Rattle.iox_command.specs.declared.reply.Reply.{Reply}
use Rattle.iox_command.specs.declared.reply.Reply.TheVariants as reply
use Rattle.iox_lanes_machine.specs.LanesBase.Table.{TableWords}
use Rattle.iox_lanes_machine.specs.LanesBase.declared.calls.route.Route.{Route}
use Rattle.iox_lanes_machine.specs.LanesBase.declared.calls.subscriber.Receipt.{Receipt}
use Rattle.iox_lanes_machine.specs.LanesBase.declared.calls.subscriber.Receipt.TheVariants as receipt
use Rattle.iox_lanes_machine.specs.LanesBase.Publishing.{publisher_is_idle}
use Rattle.iox_lanes_machine.specs.LanesBase.Subscribing.{subscriber_is_idle}
use Rattle.iox_lanes_machine.specs.LanesParties.Parties.{PublisherLaneState, SubscriberLaneState, is_borrowed, is_out, is_route, is_written}
use Rattle.iox_lanes_machine.specs.LanesParties.Parties.{place_of, publisher_may, route_at, subscriber_may}
use Rattle.iox_lanes_machine.specs.LanesParties.PublisherKeeping.{loan_of}
use Rattle.iox_lanes_machine.specs.LanesParties.declared.call.Answer.{Answer}
use Rattle.iox_lanes_machine.specs.LanesParties.declared.call.Answer.TheVariants as answer
use Rattle.iox_lanes_machine.specs.LanesParties.declared.call.Call.{Call}
use Rattle.iox_lanes_machine.specs.LanesParties.declared.call.Call.TheVariants as call
use Rattle.iox_lanes_machine.specs.LanesParties.declared.call.Move.TheVariants.{Begin}
use Rattle.iox_lanes_machine.specs.LanesParties.declared.call.Party.{Party}
use Rattle.iox_lanes_machine.specs.LanesParties.declared.call.Party.TheVariants.{Publisher, Subscriber}
use Rattle.iox_lanes_machine.specs.LanesParties.declared.call.SendAnswer.{SendAnswer}
use Rattle.iox_lanes_machine.specs.LanesParties.declared.call.SendAnswer.TheVariants as sent
use Rattle.iox_lanes_machine.specs.LanesParties.declared.publisher.slot_book.LoanAnswer.{LoanAnswer}
use Rattle.iox_lanes_machine.specs.LanesParties.declared.publisher.slot_book.LoanAnswer.TheVariants as loan
use Rattle.iox_lanes_machine.specs.LanesParties.declared.publisher.slot_book.LoanMark.{LoanMark}
use Rattle.iox_lanes_machine.specs.LanesParties.declared.publisher.slot_book.LoanMark.TheVariants as mark
use Rattle.iox_lanes_machine.specs.LanesParties.Within.{IsPublisher}
use Rattle.iox_lanes_machine.proofs.LanesParties.Rings.{all_at}
use Rattle.iox_lanes_machine.proofs.Paces.{came_kept}
use Rattle.iox_lanes_machine.specs.Borrowing.{borrows, is_at}
use Rattle.iox_lanes_machine.specs.Kept.{IsKept, IsLinkOf, receiver}
use Rattle.iox_lanes_machine.specs.LedgerUses.{count, one_if}
use Rattle.iox_lanes_machine.specs.World.{World, subscriber_fits_at}
use Rattle.iox_lanes_laws.specs.Messages.{payload_held}
use Rattle.iox_lanes_laws.specs.Publishing.{is_loan}
use Rattle.iox_lanes_laws.specs.Turns.{IsAnswered, IsInTurn}
use Rattle.iox_lanes_laws.proofs.Ends.{publisher_there, subscriber_there}
use Rattle.iox_lanes_laws.proofs.Payloads.{publishers_stay_in_turn, subscribers_stay_in_turn}
use Rattle.iox_lanes_laws.proofs.Publishers.{fits_is}
use Rattle.iox_lanes_laws.proofs.Subscribers.{few_first}
use Rattle.iox_lanes_service.specs.Laws.{AreTaken, loan_replied, payload_read, publisher_over, received_as, send_replied, with_lent_slot}
use Rattle.iox_lanes_service.specs.Laws.{with_received}
use Rattle.iox_lanes_service.specs.Naming.{LaneLoan, LaneSample, came_over}
use Rattle.iox_lanes_service.specs.Standing.{LanesStandFor}
use Rattle.iox_lanes_service.specs.TurnLaws.{AreMade, IsHeldAs, IsLentAs, IsSaid, LaneNumbers, TurnsAreRuns}
use Rattle.iox_lanes_service.proofs.Dropping.{drops_are_steps}
use Rattle.iox_lanes_service.proofs.Holding.{both_left, both_right}
use Rattle.iox_lanes_service.proofs.Lending.{loans_are_steps}
use Rattle.iox_lanes_service.proofs.Reading.{reads_are_steps}
use Rattle.iox_lanes_service.proofs.Receiving.{receives_are_steps}
use Rattle.iox_lanes_service.proofs.Releasing.{releases_are_steps}
use Rattle.iox_lanes_service.proofs.Sending.{sends_are_steps}
use Rattle.iox_lanes_service.proofs.Tables.{appended_entry, counted_entry, left_entry, not_both, same_entry, stands_at_index}
use Rattle.iox_lanes_service.proofs.Writing.{writes_are_steps}
use Rattle.iox_machine.specs.Choices.{Choices}
use Rattle.iox_machine.specs.Run.{Step}
use Rattle.iox_machine.specs.Service.{Service}
use Rattle.iox_machine.specs.State.{State, counted}
use Rattle.iox_machine.specs.Table.{at, removed}

-- ---- what goes by numbers

module _ {V : Type 0} where
  there_by : (b : Bool) (entry : ℕ × V) (rest : Option (ℕ × V)) → b ≡ true
      → option_map (λ (it : ℕ × V). it.1) (cond b (Some entry) rest) ≡ None → ⊥
  there_by true entry rest is none = cc none
  there_by false entry rest is none = not_both false is refl

  behind_by : (b : Bool) (entry : ℕ × V) (rest : Option (ℕ × V)) → (option_map (λ (it : ℕ × V). it.1) rest ≡ None → ⊥)
      → option_map (λ (it : ℕ × V). it.1) (cond b (Some entry) rest) ≡ None → ⊥
  behind_by true entry rest not none = cc none
  behind_by false entry rest not none = not none

  -- what stands somewhere goes by its number
  not_none : (table : List (ℕ × V)) (index : ℕ) (entry : ℕ × V) → slice_get table index ≡ Some entry → at entry.0 table ≡ None → ⊥
  not_none [] index entry is none = absurd (cc is)
  not_none (first ∷ table) zero entry is none =
      there_by (first.0 == entry.0) first (find (λ (it : ℕ × V). it.0 == entry.0) table)
      (eq-eqb first.0 entry.0 (ap (λ (it : ℕ × V). it.0) (same first entry is))) none
    where
      same : (one other : ℕ × V) → ◌≡◌ {A = Option (ℕ × V)} (Some one) (Some other) → one ≡ other
      same one other e = cc e
  not_none (first ∷ table) (suc index) entry is none =
      behind_by (first.0 == entry.0) first (find (λ (it : ℕ × V). it.0 == entry.0) table) (not_none table index entry is) none

  -- and is what goes by it, where no other does
  at_index : (table : List (ℕ × V)) → ((number : ℕ) → count number (keys_of table) ≤ 1) → (index : ℕ) (entry : ℕ × V)
      → slice_get table index ≡ Some entry → at entry.0 table ≡ Some entry.1
  at_index table once index entry is = by (at entry.0 table) refl
    where
      by : (found : Option V) → at entry.0 table ≡ found → at entry.0 table ≡ Some entry.1
      by None none = absurd (not_none table index entry is none)
      by (Some v) found =
          let place = stands_at_index entry.0 v table found in
          found ∙ ap (λ (it : ℕ × V). Some it.1) (same_entry table once place.0 index (entry.0, v) entry place.1 is refl)

  -- a number above all has nothing
  pub none_above : (table : List (ℕ × V)) (most number : ℕ) → ((index : ℕ) (entry : ℕ × V) → slice_get table index ≡ Some entry
      → entry.0 ≤ most) → most < number → at number table ≡ None
  none_above table most number all above = by (at number table) refl
    where
      by : (found : Option V) → at number table ≡ found → found ≡ None
      by None none = refl
      by (Some v) found =
          let place = stands_at_index number v table found in
          let low = all place.0 (number, v) place.1 in
          absurd (omega (arith, low, above))

-- a vector of values, where they fit
pub vector_of : {T : Type 0} (values : List T) → length values < 2 ^ 63 → (made : Vec T) × (vec_items made ≡ values)
vector_of values fits = (
  record {
    ptr = null_ptr;
    len = length values;
    cap = length values;
    alloc = handle;
    items = values;
    ok = (refl, omega arith);
    small = fits;
  },
  refl,
)

-- words and slots are as many as before
pub sizes_stay : (m n : World) (party : Party) (asking : Call) → IsInTurn m party asking n → n.table.sizes ≡ m.table.sizes
sizes_stay m n (Publisher place) asking t =
    let there = publisher_there m place asking (slice_get m.publishers place) refl t.begins.0 in
    (publishers_stay_in_turn m n place asking there.0 t there.1).0.sizes
sizes_stay m n (Subscriber place) asking t =
    let there = subscriber_there m place asking (slice_get m.subscribers place) refl t.begins.0 in
    (subscribers_stay_in_turn m n place asking there.0 t there.1).0.sizes

-- ---- one call

module _ {T : Type 0} (choices : Choices T) (value : List ℕ → T) (types : MessageTypeDetails) (buffer : ℕ) where
  -- values that a receive may have taken
  values_taken : (table : TableWords) (given : Receipt) → (values : Vec T) × AreTaken value table given values
  values_taken table (receipt.Taken place slot) = vector_of (value (payload_held table slot) ∷ []) (omega arith)
  values_taken table receipt.Nothing = ((vector_of [] (omega arith)).0, tt)
  values_taken table receipt.ExceedsMaxBorrows = ((vector_of [] (omega arith)).0, tt)

  -- One call is a step, after which numbers are at most those made.
  record IsStep (old : LaneNumbers) (m n : World) (state : State T) (service : Service T) (party : Party) (asking : Call) : Type 0 where
    given : Answer
    asked : Command T
    replied : Reply T
    new : LaneNumbers
    after : Service T
    answered : IsAnswered m party asking given n
    said : IsSaid value old state.made m n party asking given asked replied new
    step : Step types choices buffer asked (record state { services = service ∷ [] }) replied
        (record state { made = counted replied state.made; services = after ∷ [] })
    stands : LanesStandFor choices value new.names new.lent new.held n after
    made : AreMade new (counted replied state.made)

  module _ (old : LaneNumbers) (m n : World) (service : Service T) (state : State T)
      (s : LanesStandFor choices value old.names old.lent old.held m service) (are : AreMade old state.made)
      (small : m.table.sizes.slots < 2 ^ 64) where
    -- the numbers of a slot that is lent, and of one that is held
    loan_is : (one : LaneLoan) (place slot : ℕ) → (one.publisher == place) ≡ true → one.slot ≡ slot
        → one ≡ record { publisher = place; slot = slot }
    loan_is one place slot is same =
        ap (λ (p : ℕ). record one { publisher = p }) (eqb-true one.publisher place is)
        ∙ ap (λ (x : ℕ). record { publisher = place; slot = x }) same

    loan_number : (place slot : ℕ) (lane : PublisherLaneState) → slice_get m.publishers place ≡ Some lane → is_loan lane slot ≡ true
        → (number : ℕ) × IsLentAs number place slot old
    loan_number place slot lane found out =
        let counted = counted_entry (λ (it : LaneLoan). it.slot) (λ (it : LaneLoan). it.publisher == place) old.lent slot
        (omega (arith, s.loans_all place lane slot found, ap one_if out)) in (
          counted.1.0,
          at_index old.lent s.loans_once counted.0 counted.1 counted.2
              ∙ ap (λ (it : LaneLoan). Some it) (loan_is counted.1.1 place slot counted.3 counted.4),
        )

    sample_number : (place slot index : ℕ) (lane : SubscriberLaneState) (route : Route) → IsKept m
        → slice_get m.subscribers place ≡ Some lane → place_of slot lane ≡ Some index → slice_get lane.port.routes index ≡ Some route
        → (sample : ℕ) × IsHeldAs sample place slot old
    sample_number place slot index lane route kept found placed there =
        let led = all_at (IsLinkOf m.links receiver place) lane.port.routes index route there (kept.within.receivers place lane found) in
        let has : borrows route.connection slot (slice_get m.subscribers (led.link).subscriber) ≡ true =
        ap (λ (who : ℕ). borrows route.connection slot (slice_get m.subscribers who)) led.own
        ∙ ap (borrows route.connection slot) found
        ∙ ap (λ (o : Option ℕ). is_at route.connection (route_at o lane)) placed
        ∙ ap (is_at route.connection) there
        ∙ eq-eqb route.connection route.connection refl in
        let counted = counted_entry (λ (it : LaneSample). it.slot) (came_over led.link) old.held slot
        (omega (arith, s.samples_all route.connection led.link slot led.found, ap one_if has)) in (
          counted.1.0,
          (
            counted.1.1,
            at_index old.held s.samples_once counted.0 counted.1 counted.2,
            eqb-true counted.1.1.subscriber (led.link).subscriber
                (both_right (counted.1.1.publisher == (led.link).publisher) (counted.1.1.subscriber == (led.link).subscriber) counted.3)
                ∙ led.own,
            counted.4,
          ),
        )

    -- ---- of a publisher

    module _ (place : ℕ) (asking : Call) (t : IsInTurn m (Publisher place) asking n) where
      abbrev writer : PublisherLaneState
      writer = (publisher_there m place asking (slice_get m.publishers place) refl t.begins.0).0

      found : slice_get m.publishers place ≡ Some writer
      found = (publisher_there m place asking (slice_get m.publishers place) refl t.begins.0).1

      may : publisher_may writer asking ≡ true
      may = both_right (publisher_is_idle writer.port.call) (publisher_may writer asking) (fits_is m place asking writer found t.begins.0)

      lanes_fit : writer.port.book.first + length writer.port.book.loans < 2 ^ 64
      lanes_fit =
          let p : IsPublisher m.table.sizes writer
          = all_at (IsPublisher m.table.sizes) m.publishers place writer found ((came_kept m t.came).0).within.publishers in
          omega (arith, p.slots, small)

    lends : (place : ℕ) → IsInTurn m (Publisher place) call.LoanUninit n → IsStep old m n state service (Publisher place) call.LoanUninit
    lends place t =
        let fresh = none_above old.lent state.made.loans (state.made.loans + 1) are.loans (omega arith) in
        let law = loans_are_steps choices value types buffer old.names old.lent old.held m n service state place
        (writer place call.LoanUninit t) s t (found place call.LoanUninit t) (lanes_fit place call.LoanUninit t) fresh in
        record {
          given = answer.Lent law.0;
          asked = command.LoanUninit (old.names.publisher place) 1;
          replied = loan_replied (state.made.loans + 1) law.0;
          new = record {
            names = record old.names { message = law.2.0 };
            lent = with_lent_slot (state.made.loans + 1) place law.0 old.lent;
            held = old.held;
          };
          after = law.2.2.0;
          answered = law.1;
          said = (refl, refl, (law.2.0, law.2.1, refl));
          step = law.2.2.1;
          stands = law.2.2.2;
          made = lent_made law.0 law.2.0;
        }
      where
        lent_made : (given : LoanAnswer) (message : ℕ → ℕ) → AreMade (record {
          names = record old.names { message = message };
          lent = with_lent_slot (state.made.loans + 1) place given old.lent;
          held = old.held;
        }) (counted (loan_replied {T = T} (state.made.loans + 1) given) state.made)
        lent_made (loan.Slot slot) message = record {
          loans = appended_entry (state.made.loans + 1, record { publisher = place; slot = slot }) old.lent
              (λ entry. entry.0 ≤ state.made.loans + 1)
              (λ index entry is. let low = are.loans index entry is in omega (arith, low)) (omega arith);
          samples = are.samples;
        }
        lent_made loan.ExceedsMaxLoans message = record { loans = are.loans; samples = are.samples }
        lent_made loan.OutOfMemory message = record { loans = are.loans; samples = are.samples }

    -- a loan goes by no number any longer
    fewer_lent : (number : ℕ) → AreMade (record old { lent = removed number old.lent }) state.made
    fewer_lent number = record {
      loans = λ index entry is. let was = left_entry number old.lent index entry is in are.loans was.0 entry was.1;
      samples = are.samples;
    }

    writes : (place slot : ℕ) (payload user_header : Vec ℕ) → IsInTurn m (Publisher place) (call.Write slot payload user_header) n
        → IsStep old m n state service (Publisher place) (call.Write slot payload user_header)
    writes place slot payload user_header t =
        let c : Call = call.Write slot payload user_header in
        let goes = loan_number place slot (writer place c t) (found place c t)
        (both_left (is_out (loan_of slot (writer place c t).port.book)) _ (both_left (is_out (loan_of slot (writer place c t).port.book)
        && (length payload.items == length (writer place c t).port.payload)) _ (may place c t))) in
        let law = writes_are_steps choices value types buffer old.names old.lent old.held m n service state goes.0
        (record { publisher = place; slot = slot }) payload user_header s goes.1 t in
        record {
          given = answer.Written;
          asked = command.Fill goes.0 (value payload.items ∷ []);
          replied = reply.Done;
          new = old;
          after = law.1.0;
          answered = law.0;
          said = (goes.0, goes.1, refl, refl, refl);
          step = law.1.1;
          stands = law.1.2;
          made = are;
        }

    sends : (place slot : ℕ) → IsInTurn m (Publisher place) (call.Send slot) n
        → IsStep old m n state service (Publisher place) (call.Send slot)
    sends place slot t =
        let c : Call = call.Send slot in
        let goes = loan_number place slot (writer place c t) (found place c t)
        (written_out (loan_of slot (writer place c t).port.book) (may place c t)) in
        let law = sends_are_steps choices value types buffer old.names old.lent old.held m n service state goes.0
        (record { publisher = place; slot = slot }) s goes.1 t in
        record {
          given = answer.Sent law.0;
          asked = command.Send goes.0;
          replied = send_replied law.0;
          new = record old { lent = removed goes.0 old.lent };
          after = law.2.0;
          answered = law.1;
          said = (goes.0, goes.1, refl, refl, refl);
          step = law.2.1;
          stands = law.2.2;
          made = sent_made law.0 goes.0;
        }
      where
        written_out : (one : LoanMark) → is_written one ≡ true → is_out one ≡ true
        written_out mark.No is = is
        written_out mark.Lent is = refl
        written_out mark.Written is = refl

        sent_made : (given : SendAnswer) (number : ℕ)
            → AreMade (record old { lent = removed number old.lent }) (counted (send_replied {T = T} given) state.made)
        sent_made (sent.Delivered delivery) number = fewer_lent number
        sent_made (sent.UnableToDeliver delivery) number = fewer_lent number

    drops : (place slot : ℕ) → IsInTurn m (Publisher place) (call.DropLoan slot) n
        → IsStep old m n state service (Publisher place) (call.DropLoan slot)
    drops place slot t =
        let c : Call = call.DropLoan slot in
        let goes = loan_number place slot (writer place c t) (found place c t) (may place c t) in
        let law = drops_are_steps choices value types buffer old.names old.lent old.held m n service state goes.0
        (record { publisher = place; slot = slot }) s goes.1 t in
        record {
          given = answer.Dropped;
          asked = command.Drop goes.0;
          replied = reply.Done;
          new = record old { lent = removed goes.0 old.lent };
          after = law.1.0;
          answered = law.0;
          said = (goes.0, goes.1, refl, refl, refl);
          step = law.1.1;
          stands = law.1.2;
          made = fewer_lent goes.0;
        }

    -- ---- of a subscriber

    module _ (place : ℕ) (asking : Call) (t : IsInTurn m (Subscriber place) asking n) where
      abbrev reader : SubscriberLaneState
      reader = (subscriber_there m place asking (slice_get m.subscribers place) refl t.begins.0).0

      reader_found : slice_get m.subscribers place ≡ Some reader
      reader_found = (subscriber_there m place asking (slice_get m.subscribers place) refl t.begins.0).1

      reader_may : subscriber_may reader asking ≡ true
      reader_may = both_right (subscriber_is_idle reader.port.call) (subscriber_may reader asking)
          (sym (ap (λ (o : Option SubscriberLaneState). subscriber_fits_at o (Begin asking)) reader_found) ∙ t.begins.0)

    receives : (place : ℕ) → IsInTurn m (Subscriber place) call.Receive n → IsStep old m n state service (Subscriber place) call.Receive
    receives place t =
        let fresh = none_above old.held state.made.samples (state.made.samples + 1) are.samples (omega arith) in
        let lane = reader place call.Receive t in
        let law = receives_are_steps choices value types buffer old.names old.lent old.held m n service state place lane s t
        (reader_found place call.Receive t) fresh in
        let values = values_taken m.table law.0 in
        let step = law.2 values.0 values.1 in
        record {
          given = answer.Received law.0;
          asked = command.Receive (old.names.subscriber place);
          replied = received_as (state.made.samples + 1) values.0 law.0;
          new = record old { held = with_received (state.made.samples + 1) place m.links lane law.0 old.held };
          after = step.0;
          answered = law.1;
          said = (values.0, values.1, refl, refl, (lane, reader_found place call.Receive t, refl));
          step = step.1;
          stands = step.2;
          made = taken_made law.0 values.0 lane;
        }
      where
        taken_made : (given : Receipt) (values : Vec T) (lane : SubscriberLaneState)
            → AreMade (record old { held = with_received (state.made.samples + 1) place m.links lane given old.held })
            (counted (received_as (state.made.samples + 1) values given) state.made)
        taken_made (receipt.Taken at_place slot) values lane = record {
          loans = are.loans;
          samples = appended_entry (
            state.made.samples + 1,
            record {
              publisher = publisher_over m.links (slice_get lane.port.routes at_place);
              subscriber = place;
              slot = slot;
            },
          ) old.held (λ entry. entry.0 ≤ state.made.samples + 1)
              (λ index entry is. let low = are.samples index entry is in omega (arith, low)) (omega arith);
        }
        taken_made receipt.Nothing values lane = record { loans = are.loans; samples = are.samples }
        taken_made receipt.ExceedsMaxBorrows values lane = record { loans = are.loans; samples = are.samples }

    -- where a slot is borrowed of
    routed : (place slot : ℕ) (lane : SubscriberLaneState) (o : Option ℕ) → place_of slot lane ≡ o → is_route (route_at o lane) ≡ true
        → (index : ℕ) × (route : Route) × (place_of slot lane ≡ Some index) × (slice_get lane.port.routes index ≡ Some route)
    routed place slot lane None is led = not_both false led refl
    routed place slot lane (Some index) is led = by (slice_get lane.port.routes index) refl led
      where
        by : (o : Option Route) → slice_get lane.port.routes index ≡ o → is_route o ≡ true
            → (at : ℕ) × (route : Route) × (place_of slot lane ≡ Some at) × (slice_get lane.port.routes at ≡ Some route)
        by None none led = not_both false led refl
        by (Some route) there led = (index, route, is, there)

    borrowed_routed : (place slot : ℕ) (lane : SubscriberLaneState) (o : Option ℕ) → IsKept m → m.moments ≤ 2 ^ 63
        → slice_get m.subscribers place ≡ Some lane → place_of slot lane ≡ o → is_borrowed o ≡ true → is_route (route_at o lane) ≡ true
    borrowed_routed place slot lane None kept few found is borrowed = not_both false borrowed refl
    borrowed_routed place slot lane (Some index) kept few found is borrowed =
        there lane.port.routes index (((kept.uses few).subscribers place lane found).placed slot index is)
      where
        there : (routes : List Route) (at : ℕ) → at < length routes → is_route (slice_get routes at) ≡ true
        there [] at below = absurd (omega (arith, below))
        there (route ∷ routes) zero below = refl
        there (route ∷ routes) (suc at) below = there routes at (omega (arith, below))

    -- what a step at a sample says of it, whoever it is named
    reads : (place slot : ℕ) → IsInTurn m (Subscriber place) (call.Read slot) n
        → IsStep old m n state service (Subscriber place) (call.Read slot)
    reads place slot t =
        let lane = reader place (call.Read slot) t in
        let at_place = reader_found place (call.Read slot) t in
        let kept : IsKept m = (came_kept m t.came).0 in
        let few : m.moments ≤ 2 ^ 63 = few_first m n place (call.Read slot) t in
        let way = routed place slot lane (place_of slot lane) refl
        (borrowed_routed place slot lane (place_of slot lane) kept few at_place refl (reader_may place (call.Read slot) t)) in
        let goes = sample_number place slot way.0 lane way.1 kept at_place way.2 way.3 in
        let turn : IsInTurn m (Subscriber goes.1.0.subscriber) (call.Read goes.1.0.slot) n =
        subst (λ (p : ℕ). IsInTurn m (Subscriber p) (call.Read goes.1.0.slot) n) (sym goes.1.2)
        (subst (λ (x : ℕ). IsInTurn m (Subscriber place) (call.Read x) n) (sym goes.1.3) t) in
        let law = reads_are_steps choices value types buffer old.names old.lent old.held m n service state goes.0 goes.1.0 s goes.1.1 turn
        in
        let values = vector_of (value (payload_read m n) ∷ []) (omega arith) in
        let step = law.1 values.0 values.1 in
        record {
          given = answer.Read (length m.read);
          asked = command.Read goes.0;
          replied = reply.Values values.0;
          new = old;
          after = step.0;
          answered =
              subst (λ (p : ℕ). IsAnswered m (Subscriber p) (call.Read slot) (answer.Read (length m.read)) n) goes.1.2
              (subst (λ (x : ℕ). IsAnswered m (Subscriber goes.1.0.subscriber) (call.Read x) (answer.Read (length m.read)) n) goes.1.3
              law.0);
          said = (goes.0, goes.1, (values.0, values.1, refl, refl, refl));
          step = step.1;
          stands = step.2;
          made = are;
        }

    releases : (place slot : ℕ) → IsInTurn m (Subscriber place) (call.Release slot) n
        → IsStep old m n state service (Subscriber place) (call.Release slot)
    releases place slot t =
        let lane = reader place (call.Release slot) t in
        let at_place = reader_found place (call.Release slot) t in
        let kept : IsKept m = (came_kept m t.came).0 in
        let way = routed place slot lane (place_of slot lane) refl (reader_may place (call.Release slot) t) in
        let goes = sample_number place slot way.0 lane way.1 kept at_place way.2 way.3 in
        let turn : IsInTurn m (Subscriber goes.1.0.subscriber) (call.Release goes.1.0.slot) n =
        subst (λ (p : ℕ). IsInTurn m (Subscriber p) (call.Release goes.1.0.slot) n) (sym goes.1.2)
        (subst (λ (x : ℕ). IsInTurn m (Subscriber place) (call.Release x) n) (sym goes.1.3) t) in
        let law = releases_are_steps choices value types buffer old.names old.lent old.held m n service state goes.0 goes.1.0 s goes.1.1
        turn in
        record {
          given = answer.Released true;
          asked = command.Release goes.0;
          replied = reply.Done;
          new = record old { held = removed goes.0 old.held };
          after = law.1.0;
          answered =
              subst (λ (p : ℕ). IsAnswered m (Subscriber p) (call.Release slot) (answer.Released true) n) goes.1.2
              (subst (λ (x : ℕ). IsAnswered m (Subscriber goes.1.0.subscriber) (call.Release x) (answer.Released true) n) goes.1.3 law.0);
          said = (goes.0, goes.1, refl, refl, refl);
          step = law.1.1;
          stands = law.1.2;
          made = record {
            loans = are.loans;
            samples = λ index entry is. let was = left_entry goes.0 old.held index entry is in are.samples was.0 entry was.1;
          };
        }

    -- a call of either kind; one that isn't a party's own doesn't begin
    one_step : (party : Party) (asking : Call) → IsInTurn m party asking n → IsStep old m n state service party asking
    one_step (Publisher place) call.LoanUninit t = lends place t
    one_step (Publisher place) (call.Write slot payload user_header) t = writes place slot payload user_header t
    one_step (Publisher place) (call.Send slot) t = sends place slot t
    one_step (Publisher place) (call.DropLoan slot) t = drops place slot t
    one_step (Publisher place) call.Receive t = not_both false (may place call.Receive t) refl
    one_step (Publisher place) (call.Read slot) t = not_both false (may place (call.Read slot) t) refl
    one_step (Publisher place) (call.Release slot) t = not_both false (may place (call.Release slot) t) refl
    one_step (Subscriber place) call.LoanUninit t = not_both false (reader_may place call.LoanUninit t) refl
    one_step (Subscriber place) (call.Write slot payload user_header) t =
        not_both false (reader_may place (call.Write slot payload user_header) t) refl
    one_step (Subscriber place) (call.Send slot) t = not_both false (reader_may place (call.Send slot) t) refl
    one_step (Subscriber place) (call.DropLoan slot) t = not_both false (reader_may place (call.DropLoan slot) t) refl
    one_step (Subscriber place) call.Receive t = receives place t
    one_step (Subscriber place) (call.Read slot) t = reads place slot t
    one_step (Subscriber place) (call.Release slot) t = releases place slot t

  -- ---- many

  pub turns_are_runs : TurnsAreRuns choices value types buffer
  turns_are_runs old m n service state [] s are alone small goes = record {
    commands = [];
    replies = [];
    after = state;
    new = old;
    service = service;
    runs = (refl, refl);
    said = (goes, refl);
    alone = alone;
    stands = subst (λ (w : World). LanesStandFor choices value old.names old.lent old.held w service) (sym goes) s;
    made = are;
  }
  turns_are_runs old m n service state (one ∷ more) s are alone small (mid, turn, goes) =
      let first = one_step old m mid service state s are small one.0 one.1 turn in
      let between : State T = record state { made = counted first.replied state.made; services = first.after ∷ [] } in
      let rest = turns_are_runs first.new mid n first.after between more first.stands first.made refl
      (subst (λ sizes. sizes.slots < 2 ^ 64) (sym (sizes_stay m mid one.0 one.1 turn)) small) goes in
      record {
        commands = first.asked ∷ rest.commands;
        replies = first.replied ∷ rest.replies;
        after = rest.after;
        new = rest.new;
        service = rest.service;
        runs = (
          first.replied,
          between,
          rest.replies,
          subst (λ (services : List (Service T)). Step types choices buffer first.asked (record state { services = services })
              first.replied between) (sym alone) first.step,
          rest.runs,
          refl,
        );
        said = (mid, turn, first.given, first.answered, first.new, first.said, rest.said);
        alone = rest.alone;
        stands = rest.stands;
        made = rest.made;
      }
