-- Calls of lanes in turn that fit.
use Rattle.std.proofs.Common.{ℕ, zero, suc, ◌≡◌, ◌+◌, ◌<◌, ◌&&◌, ◌==◌, Bool, true, List, [], ◌∷◌, length, slice_get, Option, None}
use Rattle.std.proofs.Common.{Some}
use Rattle.std.proofs.Common.{refl, sym, ◌∙◌, ap, subst, arith}
use Rattle.std.specs.Global.{Vec}
use Rattle.std.proofs.lemmas.Bool.{eq-eqb, eqb-true}
use Rattle.iox_lanes_machine.specs.QueuesSteps.declared.schedule.Stepped.TheVariants as stepped
use Rattle.iox_lanes_machine.specs.LanesBase.Publishing.{publisher_is_idle}
use Rattle.iox_lanes_machine.specs.LanesBase.Subscribing.{subscriber_is_idle}
use Rattle.iox_lanes_machine.specs.LanesBase.declared.calls.route.Route.{Route}
use Rattle.iox_lanes_machine.specs.LanesParties.Parties.{PublisherLaneState, SubscriberLaneState, is_borrowed, is_route, place_of}
use Rattle.iox_lanes_machine.specs.LanesParties.Parties.{publisher_may, route_at, subscriber_may}
use Rattle.iox_lanes_machine.specs.LanesParties.Within.{IsPublisher}
use Rattle.iox_lanes_machine.specs.LanesParties.declared.call.Call.{Call}
use Rattle.iox_lanes_machine.specs.LanesParties.declared.call.Call.TheVariants as call
use Rattle.iox_lanes_machine.specs.LanesParties.declared.call.Move.TheVariants.{Begin, GoOn}
use Rattle.iox_lanes_machine.specs.LanesParties.declared.call.Party.{Party}
use Rattle.iox_lanes_machine.specs.LanesParties.declared.call.Party.TheVariants.{Publisher, Subscriber}
use Rattle.iox_lanes_machine.specs.Borrowing.{borrows, is_at}
use Rattle.iox_lanes_machine.specs.Fixed.{StaysFixed}
use Rattle.iox_lanes_machine.specs.Resting.{AllBetween}
use Rattle.iox_lanes_machine.specs.World.{World, fits, publisher_fits_at, subscriber_fits_at}
use Rattle.iox_lanes_machine.specs.declared.sizes.LaneSizes.{LaneSizes}
use Rattle.iox_lanes_machine.proofs.Fixed.{fixed_on, steps_fixed}
use Rattle.iox_lanes_machine.proofs.LanesParties.Rings.{all_at}
use Rattle.iox_lanes_machine.proofs.Paces.{came_kept}
use Rattle.iox_lanes_laws.specs.Publishing.{is_loan}
use Rattle.iox_lanes_laws.specs.Turns.{GoesToEnd, IsInTurn}
use Rattle.iox_lanes_service.specs.InTurn.{Turns}
use Rattle.iox_lanes_service.specs.Naming.{LaneLoan, LaneSample, came_over, has_written}
use Rattle.iox_lanes_service.specs.Turning.{AreTurns, TurnsGoOn, TurnsStand, named_so, turn_choices}
use Rattle.iox_lanes_service.specs.declared.in_turn.RanOut.{RanOut}
use Rattle.iox_lanes_service.proofs.Begins.{begun_types, turns_begin}
use Rattle.iox_lanes_service.proofs.Holding.{both_right, over_borrowed}
use Rattle.iox_lanes_service.proofs.Subscribing.{one_is}
use Rattle.iox_lanes_service.proofs.Tables.{entry_counted, stands_at_index}
use Rattle.iox_machine.specs.State.{State}
use Rattle.iox_machine.specs.Table.{at, contains}

-- ---- what no call changes

goes_fixed : (party : Party) (more : ℕ) (m n : World) → GoesToEnd party more m n → StaysFixed m n
goes_fixed party zero m n goes = steps_fixed m party GoOn stepped.Finished n goes
goes_fixed party (suc more) m n goes =
    fixed_on m goes.0 n (steps_fixed m party GoOn stepped.Went goes.0 goes.1) (goes_fixed party more goes.0 n goes.2)

-- how many ports there are, and how many words and slots, is what it was after a call in turn
pub turns_fixed : (m n : World) (party : Party) (asking : Call) → IsInTurn m party asking n → StaysFixed m n
turns_fixed m n party asking t =
    fixed_on m t.begun n (steps_fixed m party (Begin asking) stepped.Went t.begun t.begins) (goes_fixed party t.more t.begun n t.goes)

-- ---- who may begin

-- where there are as many, one stands at a place
stands_there : {X : Type 0} (xs : List X) (place : ℕ) → place < length xs → (x : X) × (slice_get xs place ≡ Some x)
stands_there [] place low = absurd (omega (arith, low))
stands_there (x ∷ xs) zero low = (x, refl)
stands_there (x ∷ xs) (suc place) low = stands_there xs place (omega (arith, low))

-- where nobody is inside a call, what a publisher may do fits
publisher_can : (m : World) (place : ℕ) (asking : Call) (lane : PublisherLaneState) → AllBetween m
    → slice_get m.publishers place ≡ Some lane → publisher_may lane asking ≡ true → fits m (Publisher place) (Begin asking) ≡ true
publisher_can m place asking lane between found may =
    ap (λ (at : Option PublisherLaneState). publisher_fits_at at (Begin asking)) found
    ∙ ap (λ (b : Bool). b && publisher_may lane asking)
    (all_at (λ (it : PublisherLaneState). publisher_is_idle it.port.call ≡ true) m.publishers place lane found between.publishers)
    ∙ may

-- so does what a subscriber may do
subscriber_can : (m : World) (place : ℕ) (asking : Call) (lane : SubscriberLaneState) → AllBetween m
    → slice_get m.subscribers place ≡ Some lane → subscriber_may lane asking ≡ true → fits m (Subscriber place) (Begin asking) ≡ true
subscriber_can m place asking lane between found may =
    ap (λ (at : Option SubscriberLaneState). subscriber_fits_at at (Begin asking)) found
    ∙ ap (λ (b : Bool). b && subscriber_may lane asking)
    (all_at (λ (it : SubscriberLaneState). subscriber_is_idle it.port.call ≡ true) m.subscribers place lane found between.subscribers)
    ∙ may

-- a loan of a publisher that the sizes have fits
pub loan_fits : (sizes : LaneSizes) (m : World) (place : ℕ) → TurnsGoOn sizes m → place < sizes.publishers
    → fits m (Publisher place) (Begin call.LoanUninit) ≡ true
loan_fits sizes m place c low =
    let lane = stands_there m.publishers place (omega (arith, low, c.publishers)) in
    publisher_can m place call.LoanUninit lane.0 c.between lane.1 refl

-- and a receive of a subscriber that they have
pub receive_fits : (sizes : LaneSizes) (m : World) (place : ℕ) → TurnsGoOn sizes m → place < sizes.subscribers
    → fits m (Subscriber place) (Begin call.Receive) ≡ true
receive_fits sizes m place c low =
    let lane = stands_there m.subscribers place (omega (arith, low, c.subscribers)) in
    subscriber_can m place call.Receive lane.0 c.between lane.1 refl

-- ---- what goes by a number

-- a connection that a subscriber borrows a slot of is one of its own
borrower : (o : Option SubscriberLaneState) (connection slot : ℕ) → borrows connection slot o ≡ true
    → (lane : SubscriberLaneState) × (o ≡ Some lane) × (is_borrowed (place_of slot lane) ≡ true)
    × (is_route (route_at (place_of slot lane) lane) ≡ true)
borrower None connection slot is = absurd (cc is)
borrower (Some lane) connection slot is = let both = by_place (place_of slot lane) is in (lane, refl, both.0, both.1)
  where
    by_route : (o : Option Route) → is_at connection o ≡ true → is_route o ≡ true
    by_route None is = absurd (cc is)
    by_route (Some route) is = refl

    by_place : (at : Option ℕ) → is_at connection (route_at at lane) ≡ true
        → (is_borrowed at ≡ true) × (is_route (route_at at lane) ≡ true)
    by_place None is = absurd (cc is)
    by_place (Some index) is = (refl, by_route (slice_get lane.port.routes index) is)

module _ (ran_out : Option RanOut) (turns : Turns) (m : World) (a : AreTurns ran_out turns m) (going : ran_out ≡ None) where
  -- lanes in turn stand for a service
  pub turns_stand : (after : State (List ℕ)) × TurnsStand turns m after
  turns_stand =
      let begins = turns_begin turns.sizes in
      let ran = a.runs begun_types 0 begins.0 begins.1 in
      (ran.0, ran.2 going)

  -- a loan that goes by a number is one of its publisher
  loan_out : (number place slot : ℕ) → at number turns.lent ≡ Some (record { publisher = place; slot = slot })
      → (lane : PublisherLaneState) × (slice_get m.publishers place ≡ Some lane) × (is_loan lane slot ≡ true)
  loan_out number place slot there =
      let s : TurnsStand turns m turns_stand.0 = turns_stand.1 in
      let one : LaneLoan = record { publisher = place; slot = slot } in
      let index = stands_at_index number one turns.lent there in
      let lane = (s.stands).loans_there index.0 (number, one) index.1 in
      let some = entry_counted (λ (loan : LaneLoan). loan.slot) (λ (loan : LaneLoan). loan.publisher == place) turns.lent index.0
      (number, one) index.1 (eq-eqb place place refl) in
      (lane.0, lane.1, one_is (is_loan lane.0 slot) (omega (arith, some, (s.stands).loans_all place lane.0 slot lane.1)))

  -- a sample that goes by a number is borrowed by its subscriber, of one of its connections
  sample_out : (number publisher place slot : ℕ)
      → at number turns.held ≡ Some (record { publisher = publisher; subscriber = place; slot = slot })
      → (lane : SubscriberLaneState) × (slice_get m.subscribers place ≡ Some lane) × (is_borrowed (place_of slot lane) ≡ true)
      × (is_route (route_at (place_of slot lane) lane) ≡ true)
  sample_out number publisher place slot there =
      let s : TurnsStand turns m turns_stand.0 = turns_stand.1 in
      let one : LaneSample = record { publisher = publisher; subscriber = place; slot = slot } in
      let index = stands_at_index number one turns.held there in
      let over = (s.stands).samples_there index.0 (number, one) index.1 in
      let own : place ≡ (over.link).subscriber = eqb-true place (over.link).subscriber
      (both_right (publisher == (over.link).publisher) (place == (over.link).subscriber) over.over) in
      let has : borrows over.connection slot (slice_get m.subscribers (over.link).subscriber) ≡ true =
      over_borrowed turn_choices (λ words. words) (named_so s.message) turns.lent turns.held m s.service s.stands over.connection
      over.link slot over.found
      (entry_counted (λ (sample : LaneSample). sample.slot) (came_over over.link) turns.held index.0 (number, one) index.1 over.over) in
      borrower (slice_get m.subscribers place) over.connection slot
      (subst (λ (who : ℕ). borrows over.connection slot (slice_get m.subscribers who) ≡ true) (sym own) has)

  -- what names it fits
  pub drop_fits : (number place slot : ℕ) → at number turns.lent ≡ Some (record { publisher = place; slot = slot })
      → fits m (Publisher place) (Begin (call.DropLoan slot)) ≡ true
  drop_fits number place slot there =
      let lane = loan_out number place slot there in
      publisher_can m place (call.DropLoan slot) lane.0 (a.goes going).between lane.1 lane.2

  pub read_fits : (number publisher place slot : ℕ)
      → at number turns.held ≡ Some (record { publisher = publisher; subscriber = place; slot = slot })
      → fits m (Subscriber place) (Begin (call.Read slot)) ≡ true
  read_fits number publisher place slot there =
      let lane = sample_out number publisher place slot there in
      subscriber_can m place (call.Read slot) lane.0 (a.goes going).between lane.1 lane.2

  pub release_fits : (number publisher place slot : ℕ)
      → at number turns.held ≡ Some (record { publisher = publisher; subscriber = place; slot = slot })
      → fits m (Subscriber place) (Begin (call.Release slot)) ≡ true
  release_fits number publisher place slot there =
      let lane = sample_out number publisher place slot there in
      subscriber_can m place (call.Release slot) lane.0 (a.goes going).between lane.1 lane.3

  -- and a write, where words are as many as the sizes say
  pub write_fits : (number place slot : ℕ) → at number turns.lent ≡ Some (record { publisher = place; slot = slot })
      → (payload user_header : Vec ℕ) → length payload.items ≡ turns.sizes.payload_words
      → length user_header.items ≡ turns.sizes.user_header_words
      → fits m (Publisher place) (Begin (call.Write slot payload user_header)) ≡ true
  write_fits number place slot there payload user_header words header_words =
      let lane = loan_out number place slot there in
      let c : TurnsGoOn turns.sizes m = a.goes going in
      let p : IsPublisher m.table.sizes lane.0
      = all_at (IsPublisher m.table.sizes) m.publishers place lane.0 lane.1 ((came_kept m c.came).0).within.publishers in
      let payloads : (length payload.items == length (lane.0).port.payload) ≡ true
      = eq-eqb (length payload.items) (length (lane.0).port.payload)
      (words ∙ sym (p.payload ∙ ap (λ sizes. sizes.payload_words) c.table)) in
      let headers : (3 + length user_header.items == length (lane.0).port.head) ≡ true
      = eq-eqb (3 + length user_header.items) (length (lane.0).port.head)
      (ap (λ (x : ℕ). 3 + x) header_words ∙ sym (p.head ∙ ap (λ sizes. 3 + sizes.user_header_words) c.table)) in
      publisher_can m place (call.Write slot payload user_header) lane.0 c.between lane.1 (rw (lane.2, payloads, headers) refl)

  -- a send of what was written fits
  pub send_fits : (number place slot : ℕ) → at number turns.lent ≡ Some (record { publisher = place; slot = slot })
      → contains turns.written number ≡ true → fits m (Publisher place) (Begin (call.Send slot)) ≡ true
  send_fits number place slot there has =
      let lane = loan_out number place slot there in
      let index = stands_at_index number (record { publisher = place; slot = slot }) turns.lent there in
      let written = (a.written going).each index.0 (number, record { publisher = place; slot = slot }) index.1 has in
      publisher_can m place (call.Send slot) lane.0 (a.goes going).between lane.1
      (sym (ap (has_written slot) lane.1) ∙ written)
