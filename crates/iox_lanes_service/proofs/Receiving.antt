-- A receive that no other call overlaps is one of the machine.
use Rattle.std.proofs.Common.{ℕ, ◌≡◌, ◌+◌, ◌<◌, ◌≤◌, ◌==◌, ◌&&◌, Bool, true, false, cond, not, List, [], ◌∷◌, ◌++◌, length, map, get_or}
use Rattle.std.proofs.Common.{slice_get, Option, Some, None, refl, sym, ◌∙◌, ap, subst, if◌then◌else◌, inl, inr, arith, append-nil}
use Rattle.std.specs.Prelude.{find, unwrap_or, option_and_then}
use Rattle.std.specs.Global.{Vec}
use Rattle.std.specs.List.{list_any}
use Rattle.std.specs.Option.{option_map_or}
use Rattle.std.proofs.lemmas.Bool.{cases_Bool, eqb-true, eq-eqb, ne_eqb}
use Rattle.std.proofs.lemmas.Bool.Decides.{eqb_tells}
use Rattle.std.proofs.lemmas.List.{map-append}
use Rattle.iox_command.specs.DomainValues.declared.port_error.ReceiveError.TheVariants.{ExceedsMaxBorrows}
use Rattle.iox_command.specs.DomainValues.declared.port_error.ReceiveError.TheVariants as error
use Rattle.iox_command.specs.NegotiateBase.DescribeBase.declared.message_type.MessageTypeDetails.{MessageTypeDetails}
use Rattle.iox_command.specs.declared.command.Command.TheVariants as command
use Rattle.iox_command.specs.declared.refusal.Refusal.TheVariants as refusal
use Rattle.iox_command.specs.declared.reply.Reply.{Reply}
use Rattle.iox_command.specs.declared.reply.Reply.TheVariants as reply
use Rattle.iox_lanes_machine.specs.LanesBase.declared.calls.route.Route.{Route}
use Rattle.iox_lanes_machine.specs.LanesBase.declared.calls.subscriber.Receipt.{Receipt}
use Rattle.iox_lanes_machine.specs.LanesBase.declared.calls.subscriber.Receipt.TheVariants as receipt
use Rattle.iox_lanes_machine.specs.LanesParties.Parties.{SubscriberLaneState, PublisherLaneState, name_of, route_at}
use Rattle.iox_lanes_machine.specs.LanesParties.declared.call.Call.TheVariants as call
use Rattle.iox_lanes_machine.specs.LanesParties.declared.call.CallName.TheVariants as name
use Rattle.iox_lanes_machine.specs.Borrowing.{borrows, is_at}
use Rattle.iox_lanes_machine.specs.FullLoans.{IsHeld}
use Rattle.iox_lanes_machine.specs.Kept.{IsLinkOf, receiver}
use Rattle.iox_lanes_machine.specs.LedgerUses.{count, one_if, refers_to}
use Rattle.iox_lanes_machine.specs.Links.{LinkState}
use Rattle.iox_lanes_machine.specs.Resting.{mail_at}
use Rattle.iox_lanes_machine.specs.World.{World}
use Rattle.iox_lanes_machine.proofs.Connected.{sends_connected}
use Rattle.iox_lanes_machine.proofs.Ends.{some_is}
use Rattle.iox_lanes_machine.proofs.Entries.{count_append}
use Rattle.iox_lanes_machine.proofs.Mailboxes.{order_there}
use Rattle.iox_lanes_machine.proofs.RestingRings.{mail_is}
use Rattle.iox_lanes_machine.proofs.SubscriberUses.{recorded}
use Rattle.iox_lanes_laws.specs.Subscribing.{OnlySubscriber, Takes, TakesNone, SomeWait, Gives, NoneOf, OneOf, Receives as ReceivesThen}
use Rattle.iox_lanes_laws.proofs.Receives.{receives_in_turn}
use Rattle.iox_lanes_service.specs.Laws.{ReceivesAreSteps, IsLaneStep, AreTaken, received_as, with_received, publisher_over}
use Rattle.iox_lanes_service.specs.Naming.{LaneNaming, LaneLoan, LaneSample, sample_by_numbers, lane_mailbox, slots_held_over, slot_message}
use Rattle.iox_lanes_service.specs.Naming.{came_over, writer_name}
use Rattle.iox_lanes_service.specs.Ports.{LaneSubscriberIs}
use Rattle.iox_lanes_service.specs.Standing.{LanesStandFor, CameOverOne, JoinsNoneOf}
use Rattle.iox_lanes_service.proofs.Shapes.{one_taken}
use Rattle.iox_lanes_service.proofs.Beside.{one_does, nothing_there, both_hold, any_passes, none_passes, box_there, box_of_other}
use Rattle.iox_lanes_service.proofs.Beside.{box_to_other}
use Rattle.iox_lanes_service.proofs.Carrying.{SameReader, same_reader}
use Rattle.iox_lanes_service.proofs.Giving.{link_of, writer_is, data_is, gives_true, gives_false, below_is, below_is_not}
use Rattle.iox_lanes_service.proofs.Holding.{both_left, both_right}
use Rattle.iox_lanes_service.proofs.Holding.{borrows_stay, mail_messages, over_messages, held_message, sample_entries}
use Rattle.iox_lanes_service.proofs.Reading.{same_service}
use Rattle.iox_lanes_service.proofs.Subscribing.{ReaderCall, reader_call, carried}
use Rattle.iox_lanes_service.proofs.Tables.{at_changed, at_changed_other}
use Rattle.iox_lanes_service.proofs.Tables.{appended_entry, appended_slots, once_appended, one_same, map_same, named, one_entry}
use Rattle.iox_lanes_service.proofs.Used.{held_waits, held_borrowed, borrowed_own, waits_own, own_apart}
use Rattle.iox_machine.specs.Choices.{Choices}
use Rattle.iox_machine.specs.Mailbox.{Mailbox}
use Rattle.iox_machine.specs.Message.{Message, Sample}
use Rattle.iox_machine.specs.PortList.{those}
use Rattle.iox_machine.specs.Ports.{subscriber_in}
use Rattle.iox_machine.specs.Run.{Step}
use Rattle.iox_machine.specs.Receiving.{Receives, IsGiver, gives, has_samples, lasting}
use Rattle.iox_machine.specs.Service.{Service, Subscriber as Reader, mailbox, with_mailbox}
use Rattle.iox_machine.proofs.Shorthands.{with_subscriber, has_data}
use Rattle.iox_machine.specs.State.{State, counted}
use Rattle.iox_machine.specs.SubscriberUpdate.{UpdatesFirst}
use Rattle.iox_machine.specs.Table.{at, contains}

module _ {T : Type 0} (choices : Choices T) (value : List ℕ → T) (names : LaneNaming) (lent : List (ℕ × LaneLoan))
    (held : List (ℕ × LaneSample)) (m n : World) (service : Service T) (s : LanesStandFor choices value names lent held m service)
    (place : ℕ) (before after : SubscriberLaneState) (c : ReaderCall m n place before after) (others : OnlySubscriber m place n) where
  abbrev pub number_of : ℕ
  number_of = names.subscriber place

  pub reader : (one : Reader) × (at number_of service.subscribers ≡ Some one) × LaneSubscriberIs choices value names m service before one
  reader = s.subscribers place before c.found

  abbrev pub swept_of : Reader → Service T
  swept_of one = with_subscriber number_of (record one { expired = lasting number_of service one.expired }) service

  no_expired : (one : Reader) → length one.expired ≡ 0 → length (lasting number_of service one.expired) ≡ 0
  no_expired one none = ap (λ xs. length (lasting number_of service xs)) (nothing_there one.expired none)

  -- subscribers of the machine are what they were, but for expired connections, of which there are none
  readers : (other : ℕ) (one : Reader) → at other service.subscribers ≡ Some one
      → (another : Reader) × (at other (swept_of reader.0).subscribers ≡ Some another) × SameReader choices value names one another
  readers other one is = elim (eqb_tells other number_of) [
    | inl same ↦
        let it : one ≡ reader.0 = some_is one reader.0 (sym is ∙ ap (λ (x : ℕ). at x service.subscribers) same.1 ∙ reader.1) in (
          record reader.0 { expired = lasting number_of service (reader.0).expired },
          ap (λ (x : ℕ). at x (swept_of reader.0).subscribers) same.1
              ∙ at_changed number_of (record reader.0 { expired = lasting number_of service (reader.0).expired }) reader.0
              service.subscribers reader.1,
          subst (λ (x : Reader). SameReader choices value names x (record reader.0
              { expired = lasting number_of service (reader.0).expired })) (sym it)
              (record { stands = refl; seen = refl; again = refl; expired = no_expired reader.0; connected = refl }),
        )
    | inr apart ↦ (
      one,
      at_changed_other number_of other (record reader.0 { expired = lasting number_of service (reader.0).expired }) service.subscribers
          apart.1 ∙ is,
      same_reader choices value names one,
    )
  ]

  -- what the machine does where the lane takes nothing
  pub nothing_taken : TakesNone m before n after → LanesStandFor choices value names lent held n (swept_of reader.0)
  nothing_taken none =
      same_service choices value names lent held m n place before after service s c (swept_of reader.0).subscribers others none.mail
      none.samples readers

  -- a publisher that is connected is that of a connection
  gives_none : NoneOf before (Gives m before) → (publisher : ℕ) → contains (those (reader.0).connected) publisher ≡ true
      → gives number_of service publisher ≡ false
  gives_none none publisher is =
      let o = (reader.2).only publisher is in
      let l = link_of choices value names lent held m service s c.kept place before c.found o.place o.route o.at in
      ap (gives number_of service) (sym o.is)
      ∙ gives_false choices value names lent held m service s c.kept place before c.found o.route l (reader.2).most_borrowed
      (none o.place o.route o.at)

  no_giver : NoneOf before (Gives m before) → IsGiver number_of (find (gives number_of service) (reader.0).expired) reader.0 service None
  no_giver none =
      subst (λ (o : Option ℕ). IsGiver number_of o reader.0 service None)
      (sym (ap (find (gives number_of service)) (nothing_there (reader.0).expired (reader.2).expired)))
      (none_passes (gives number_of service) (those (reader.0).connected) (gives_none none))

  -- whether something waits for the subscriber
  asked_of : list_any (λ publisher. has_data (mailbox publisher number_of service)) (those (reader.0).connected)
      ≡ has_samples number_of reader.0 service
  asked_of =
      sym (ap (λ xs. list_any (λ publisher. has_data (mailbox publisher number_of service)) (those (reader.0).connected ++ xs))
      (nothing_there (reader.0).expired (reader.2).expired)
      ∙ ap (list_any (λ publisher. has_data (mailbox publisher number_of service))) (append-nil (those (reader.0).connected)))

  has_none : NoneOf before (SomeWait m) → has_samples number_of reader.0 service ≡ false
  has_none none =
      sym asked_of
      ∙ none_passes (λ publisher. has_data (mailbox publisher number_of service)) (those (reader.0).connected) (λ publisher is.
      let o = (reader.2).only publisher is in
      let l = link_of choices value names lent held m service s c.kept place before c.found o.place o.route o.at in
      ap (λ (p : ℕ). has_data (mailbox p number_of service)) (sym o.is)
      ∙ data_is choices value names lent held m service s c.kept place before c.found o.route l
      ∙ below_is_not 0 (length (mail_at m (o.route).connection)) (none o.place o.route o.at))

  has_one : OneOf before (SomeWait m) → has_samples number_of reader.0 service ≡ true
  has_one o =
      let l = link_of choices value names lent held m service s c.kept place before c.found o.place o.route o.at in
      sym asked_of
      ∙ any_passes (λ publisher. has_data (mailbox publisher number_of service)) (those (reader.0).connected)
      (writer_name names m.links (o.route).connection) ((reader.2).met o.place o.route o.at)
      (data_is choices value names lent held m service s c.kept place before c.found o.route l
      ∙ below_is 0 (length (mail_at m (o.route).connection)) o.is)

  -- where a message is taken
  module _ (sample at_place slot : ℕ) (fresh : at sample held ≡ None) (takes : Takes m before at_place slot n after) where
    abbrev route : Route
    route = takes.route

    pub link_is : IsLinkOf m.links receiver place route
    link_is = link_of choices value names lent held m service s c.kept place before c.found at_place route takes.at

    abbrev link : LinkState
    link = link_is.link

    abbrev new_one : LaneSample
    new_one = record {
      publisher = publisher_over m.links (slice_get before.port.routes at_place);
      subscriber = place;
      slot = slot;
    }

    from_is : new_one.publisher ≡ link.publisher
    from_is =
        ap (publisher_over m.links) takes.at
        ∙ ap (λ (o : Option LinkState). option_map_or (λ (it : LinkState). it.publisher) o 0) link_is.found

    abbrev then_held : List (ℕ × LaneSample)
    then_held = held ++ (sample, new_one) ∷ []

    abbrev from : ℕ
    from = names.publisher link.publisher

    was_box : service.mailboxes from number_of ≡ Some (lane_mailbox value names m held route.connection link)
    was_box =
        ap (λ (r : ℕ). service.mailboxes from (names.subscriber r)) (sym link_is.own)
        ∙ s.mailboxes route.connection link link_is.found

    abbrev box_before : Mailbox T
    box_before = mailbox from number_of service

    abbrev message : Message T
    message = slot_message value names m.table slot

    abbrev more_samples : Service T
    more_samples = record (swept_of reader.0) {
      samples = service.samples ++ (sample, record { publisher = from; subscriber = number_of; message = message }) ∷ [];
    }

    abbrev pub received : Service T
    received = with_mailbox from number_of (one_taken box_before) more_samples

    waits : 0 < count slot (mail_at m route.connection)
    waits = omega (arith, one_same slot, ap (count slot) takes.oldest)

    slot_held : IsHeld m slot
    slot_held = held_waits m slot c.kept (record { connection = route.connection; some = waits })

    message_stays : (x : ℕ) → IsHeld m x → slot_message value names n.table x ≡ slot_message value names m.table x
    message_stays = held_message choices value names lent held m service s n place before after c

    -- what waits at a connection isn't borrowed of it
    not_borrowed : borrows route.connection slot (slice_get m.subscribers link.subscriber) ≡ false
    not_borrowed = elim (cases_Bool (borrows route.connection slot (slice_get m.subscribers link.subscriber))) [
      | inr f ↦ f
      | inl t ↦
          let r = recorded m route.connection link (get_or m.orders route.connection []) link_is.found
          (order_there m route.connection link c.kept link_is.found) (sends_connected m (c.kept.sends c.few)) (c.kept.uses c.few) slot in
          absurd (omega (
            arith,
            r.is,
            one_most (refers_to r.lane.port.book r.place slot),
            ap one_if t,
            waits,
            ap (count slot) (mail_is m route.connection link link_is.found),
          ))
    ]
      where
        one_most : (b : Bool) → one_if b ≤ 1
        one_most true = omega arith
        one_most false = omega arith

    -- whether another connection is the one that gives
    same_link : (connection : ℕ) (other : LinkState) → slice_get m.links connection ≡ Some other → other.publisher ≡ link.publisher
        → other.subscriber ≡ place → connection ≡ route.connection
    same_link connection other found p r =
        (c.kept.uses c.few).pairs connection route.connection other link found link_is.found p (r ∙ sym link_is.own)

    over_it : came_over link new_one ≡ true
    over_it =
        both_hold (new_one.publisher == link.publisher) (place == link.subscriber) (eq-eqb new_one.publisher link.publisher from_is)
        (eq-eqb place link.subscriber (sym link_is.own))

    over_other : (connection : ℕ) (other : LinkState) → slice_get m.links connection ≡ Some other → (connection ≡ route.connection → ⊥)
        → came_over other new_one ≡ false
    over_other connection other found apart = elim (cases_Bool (came_over other new_one)) [
      | inr f ↦ f
      | inl t ↦ absurd (apart (same_link connection other found
          (sym (eqb-true new_one.publisher other.publisher (both_left (new_one.publisher == other.publisher) (place == other.subscriber)
          t)) ∙ from_is)
          (sym (eqb-true place other.subscriber (both_right (new_one.publisher == other.publisher) (place == other.subscriber) t)))))
    ]

    slots_here : slots_held_over link then_held ≡ slots_held_over link held ++ slot ∷ []
    slots_here =
        appended_slots (λ (it : LaneSample). it.slot) (came_over link) (sample, new_one) held
        ∙ ap (λ (b : Bool). slots_held_over link held ++ cond b (slot ∷ []) []) over_it

    slots_there : (connection : ℕ) (other : LinkState) → slice_get m.links connection ≡ Some other → (connection ≡ route.connection → ⊥)
        → slots_held_over other then_held ≡ slots_held_over other held
    slots_there connection other found apart =
        appended_slots (λ (it : LaneSample). it.slot) (came_over other) (sample, new_one) held
        ∙ ap (λ (b : Bool). slots_held_over other held ++ cond b (slot ∷ []) []) (over_other connection other found apart)
        ∙ append-nil (slots_held_over other held)

    -- the slot is borrowed of this connection then, and of no other
    borrowed_now : borrows route.connection slot (Some after) ≡ true
    borrowed_now =
        ap (λ (o : Option ℕ). is_at route.connection (route_at o after)) takes.borrowed
        ∙ ap (is_at route.connection) (ap (λ (rs : List Route). slice_get rs at_place) c.routes ∙ takes.at)
        ∙ eq-eqb route.connection route.connection refl

    of_no_other : (connection : ℕ) (other : LinkState) → slice_get m.links connection ≡ Some other → other.subscriber ≡ place
        → (connection ≡ route.connection → ⊥)
        → borrows connection slot (slice_get m.subscribers other.subscriber) ≡ false
    of_no_other connection other found mine apart =
        elim (cases_Bool (borrows connection slot (slice_get m.subscribers other.subscriber))) [
          | inr f ↦ f
          | inl t ↦ absurd (apart (same_link connection other found
              (own_apart m other.publisher link.publisher slot c.kept
              (borrowed_own m slot c.kept c.few (record { connection = connection; link = other; found = found; has = t }))
              (waits_own m slot route.connection link c.kept c.few link_is.found waits)) mine))
        ]

    samples_then : (connection : ℕ) (other : LinkState) (x : ℕ) → slice_get m.links connection ≡ Some other
        → count x (slots_held_over other then_held) ≡ one_if (borrows connection x (slice_get n.subscribers other.subscriber))
    samples_then connection other x found = elim (eqb_tells connection route.connection) [
      | inl here ↦
          let is : other ≡ link = some_is other link (sym found ∙ ap (slice_get m.links) here.1 ∙ link_is.found) in
          subst (λ (it : LinkState). count x (slots_held_over it then_held) ≡ one_if (borrows connection x
          (slice_get n.subscribers it.subscriber))) (sym is)
          (subst (λ (k : ℕ). count x (slots_held_over link then_held) ≡ one_if (borrows k x (slice_get n.subscribers link.subscriber)))
          (sym here.1) (at_it x))
      | inr apart ↦
          ap (count x) (slots_there connection other found apart.1) ∙ s.samples_all connection other x found
          ∙ ap one_if (elsewhere apart.1)
    ]
      where
        at_it : (y : ℕ) → count y (slots_held_over link then_held)
            ≡ one_if (borrows route.connection y (slice_get n.subscribers link.subscriber))
        at_it y =
            ap (count y) slots_here ∙ count_append y (slots_held_over link held) (slot ∷ [])
            ∙ elim (eqb_tells slot y) [
              | inl same ↦ subst (λ (z : ℕ). count z (slots_held_over link held) + (one_if (slot == z) + 0)
                  ≡ one_if (borrows route.connection z (slice_get n.subscribers link.subscriber))) same.1
                  (omega (
                    arith,
                    one_same slot,
                    s.samples_all route.connection link slot link_is.found,
                    ap one_if not_borrowed,
                    ap one_if (ap (borrows route.connection slot) (ap (slice_get n.subscribers) link_is.own ∙ c.now) ∙ borrowed_now),
                  ))
              | inr apart ↦ omega (
                arith,
                ap one_if apart.0,
                s.samples_all route.connection link y link_is.found,
                ap one_if (borrows_stay m n place before after c others y (takes.others y (λ e. apart.1 (sym e))) route.connection
                    link.subscriber),
              )
            ]

        elsewhere : (connection ≡ route.connection → ⊥)
            → borrows connection x (slice_get m.subscribers other.subscriber)
            ≡ borrows connection x (slice_get n.subscribers other.subscriber)
        elsewhere apart = elim (eqb_tells x slot) [
          | inr off ↦ sym (borrows_stay m n place before after c others x (takes.others x off.1) connection other.subscriber)
          | inl same ↦ elim (eqb_tells other.subscriber place) [
            | inr away ↦ sym (ap (borrows connection x) (others.subscribers other.subscriber away.1))
            | inl mine ↦
                subst (λ (y : ℕ). borrows connection y (slice_get m.subscribers other.subscriber)
                ≡ borrows connection y (slice_get n.subscribers other.subscriber)) (sym same.1)
                (of_no_other connection other found mine.1 apart
                ∙ sym (ap (borrows connection slot) (ap (slice_get n.subscribers) mine.1 ∙ c.now)
                ∙ ap (λ (o : Option ℕ). is_at connection (route_at o after)) takes.borrowed
                ∙ ap (is_at connection) (ap (λ (rs : List Route). slice_get rs at_place) c.routes ∙ takes.at)
                ∙ ne_eqb route.connection connection (λ e. apart (sym e))))
          ]
        ]

    -- the mailboxes then
    boxes_then : (connection : ℕ) (other : LinkState) → slice_get m.links connection ≡ Some other
        → received.mailboxes (names.publisher other.publisher) (names.subscriber other.subscriber)
        ≡ Some (lane_mailbox value names n then_held connection other)
    boxes_then connection other found = elim (eqb_tells connection route.connection) [
      | inl here ↦
          let is : other ≡ link = some_is other link (sym found ∙ ap (slice_get m.links) here.1 ∙ link_is.found) in
          subst (λ (it : LinkState). received.mailboxes (names.publisher it.publisher) (names.subscriber it.subscriber)
          ≡ Some (lane_mailbox value names n then_held connection it)) (sym is)
          (subst (λ (k : ℕ). received.mailboxes from (names.subscriber link.subscriber)
          ≡ Some (lane_mailbox value names n then_held k link))
          (sym here.1) at_it)
      | inr apart ↦
          away apart.1
          ∙ s.mailboxes connection other found
          ∙ ap (λ waiting. Some (record {
            limit = other.limit;
            waiting = waiting;
            borrowed = map (slot_message value names m.table) (slots_held_over other held);
          }))
          (sym (ap (map (slot_message value names n.table)) (takes.elsewhere connection apart.1)
          ∙ mail_messages choices value names lent held m service s n place before after c connection))
          ∙ ap (λ borrowed. Some (record {
            limit = other.limit;
            waiting = map (slot_message value names n.table) (mail_at n connection);
            borrowed = borrowed;
          }))
          (sym (ap (map (slot_message value names n.table)) (slots_there connection other found apart.1)
          ∙ over_messages choices value names lent held m service s n place before after c connection other found))
    ]
      where
        left_messages : map (slot_message value names n.table) (mail_at n route.connection)
            ≡ map (slot_message value names m.table) (mail_at n route.connection)
        left_messages = map_same (slot_message value names n.table) (slot_message value names m.table) (mail_at n route.connection)
            (λ x some. message_stays x (held_waits m x c.kept
            (record { connection = route.connection; some = omega (arith, some, ap (count x) takes.oldest) })))

        held_messages : map (slot_message value names n.table) (slots_held_over link then_held)
            ≡ map (slot_message value names m.table) (slots_held_over link held) ++ slot_message value names m.table slot ∷ []
        held_messages =
            ap (map (slot_message value names n.table)) slots_here
            ∙ map-append (slot_message value names n.table) (slots_held_over link held) (slot ∷ [])
            ∙ ap (λ (xs : List (Message T)). xs ++ slot_message value names n.table slot ∷ [])
            (over_messages choices value names lent held m service s n place before after c route.connection link link_is.found)
            ∙ ap (λ (it : Message T). map (slot_message value names m.table) (slots_held_over link held) ++ it ∷ [])
            (message_stays slot slot_held)

        at_it : received.mailboxes from (names.subscriber link.subscriber)
            ≡ Some (lane_mailbox value names n then_held route.connection link)
        at_it =
            ap (λ (r : ℕ). received.mailboxes from (names.subscriber r)) link_is.own
            ∙ box_there from number_of (one_taken box_before) more_samples
            ∙ ap (λ (o : Option (Mailbox T)). Some (one_taken (unwrap_or o (record { limit = 0; waiting = []; borrowed = [] })))) was_box
            ∙ ap (λ (xs : List ℕ). Some (one_taken (record {
              limit = link.limit;
              waiting = map (slot_message value names m.table) xs;
              borrowed = map (slot_message value names m.table) (slots_held_over link held);
            }))) takes.oldest
            ∙ ap (λ waiting. Some (record {
              limit = link.limit;
              waiting = waiting;
              borrowed = map (slot_message value names m.table) (slots_held_over link held) ++ slot_message value names m.table slot ∷ [];
            })) (sym left_messages)
            ∙ ap (λ borrowed. Some (record {
              limit = link.limit;
              waiting = map (slot_message value names n.table) (mail_at n route.connection);
              borrowed = borrowed;
            })) (sym held_messages)

        away : (connection ≡ route.connection → ⊥)
            → received.mailboxes (names.publisher other.publisher) (names.subscriber other.subscriber)
            ≡ service.mailboxes (names.publisher other.publisher) (names.subscriber other.subscriber)
        away apart =
            let joined = s.joined connection other found in
            let joins = s.joined route.connection link link_is.found in
            elim (eqb_tells other.publisher link.publisher) [
              | inr off ↦ box_of_other from number_of (one_taken box_before) more_samples (names.publisher other.publisher)
                  (names.subscriber other.subscriber)
                  (λ e. off.1 (s.publishers_apart other.publisher link.publisher (joined.0).0 (joins.0).0 (joined.0).1 (joins.0).1 e))
              | inl same ↦ box_to_other from number_of (one_taken box_before) more_samples (names.publisher other.publisher)
                  (names.subscriber other.subscriber)
                  (λ e. apart (same_link connection other found same.1
                  (s.subscribers_apart other.subscriber place (joined.1).0 before (joined.1).1 c.found e)))
            ]

    others_then : (who other : ℕ) (lane : PublisherLaneState) → slice_get m.publishers who ≡ Some lane
        → JoinsNoneOf names m.links who other
        → received.mailboxes (names.publisher who) other ≡ service.mailboxes (names.publisher who) other
    others_then who other lane found joins = elim (eqb_tells other number_of) [
      | inr apart ↦ box_to_other from number_of (one_taken box_before) more_samples (names.publisher who) other apart.1
      | inl same ↦ box_of_other from number_of (one_taken box_before) more_samples (names.publisher who) other
          (λ e.
          let leads = s.joined route.connection link link_is.found in
          joins route.connection link link_is.found
          (s.publishers_apart link.publisher who (leads.0).0 lane (leads.0).1 found (sym e))
          (ap names.subscriber link_is.own ∙ sym same.1))
    ]

    samples_are : received.samples ≡ map (λ (entry : ℕ × LaneSample). (entry.0, sample_by_numbers value names n entry.1)) then_held
    samples_are =
        ap (λ (xs : List (ℕ × Sample T)). xs ++ (sample, record { publisher = from; subscriber = number_of; message = message }) ∷ [])
        (s.samples ∙ sym (sample_entries choices value names lent held m service s n place before after c))
        ∙ ap (λ (it : Sample T). named (sample_by_numbers value names n) held ++ (sample, it) ∷ []) last_is
        ∙ sym (map-append (λ (entry : ℕ × LaneSample). one_entry entry.0 (sample_by_numbers value names n entry.1)) held
        ((sample, new_one) ∷ []))
      where
        last_is : record { publisher = from; subscriber = number_of; message = message } ≡ sample_by_numbers value names n new_one
        last_is =
            ap (λ (p : ℕ). record { publisher = names.publisher p; subscriber = number_of; message = message }) (sym from_is)
            ∙ ap (λ (it : Message T). record {
              publisher = names.publisher new_one.publisher;
              subscriber = number_of;
              message = it;
            }) (sym (message_stays slot slot_held))

    pub received_stands : LanesStandFor choices value names lent then_held n received
    received_stands =
        carried choices value names lent held then_held m n place before after service (swept_of reader.0).subscribers received.mailboxes
        received.samples
        (record {
          call = c;
          others = others;
          readers = readers;
          boxes = boxes_then;
          other_boxes = others_then;
          same = samples_are;
          once = once_appended sample new_one held fresh s.samples_once;
          there = appended_entry (sample, new_one) held (λ (entry : ℕ × LaneSample). CameOverOne m.links entry.1) s.samples_there
              (record { connection = route.connection; link = link; found = link_is.found; over = over_it });
          all = samples_then;
          waits = λ connection x some. elim (eqb_tells connection route.connection) [
            | inl here ↦ subst (λ (k : ℕ). 0 < count x (mail_at m k)) (sym here.1)
                (omega (arith, subst (λ (k : ℕ). 0 < count x (mail_at n k)) here.1 some, ap (count x) takes.oldest))
            | inr apart ↦ subst (λ (xs : List ℕ). 0 < count x xs) (takes.elsewhere connection apart.1) some
          ];
          borrowed = λ x b. elim (eqb_tells x slot) [
            | inl same ↦ subst (IsHeld m) (sym same.1) slot_held
            | inr apart ↦ held_borrowed m x c.kept (record {
              connection = b.connection;
              link = b.link;
              found = sym (ap (λ ls. slice_get ls b.connection) c.links) ∙ b.found;
              has = sym (borrows_stay m n place before after c others x (takes.others x apart.1) b.connection (b.link).subscriber) ∙ b.has;
            })
          ];
        }) s

    -- and the machine takes it
    giver_is : IsGiver number_of (find (gives number_of service) (reader.0).expired) reader.0 service (Some from)
    giver_is =
        subst (λ (o : Option ℕ). IsGiver number_of o reader.0 service (Some from))
        (sym (ap (find (gives number_of service)) (nothing_there (reader.0).expired (reader.2).expired)))
        (both_hold (contains (those (reader.0).connected) from) (gives number_of service from)
        (ap (contains (those (reader.0).connected)) (sym (writer_is choices value names lent held m service s c.kept place before c.found
        route link_is)) ∙ (reader.2).met at_place route takes.at)
        (ap (gives number_of service) (sym (writer_is choices value names lent held m service s c.kept place before c.found route link_is))
        ∙ gives_true choices value names lent held m service s c.kept place before c.found route link_is (reader.2).most_borrowed
        (omega (arith, one_same slot, ap (λ (xs : List ℕ). length xs) takes.oldest), takes.fewer)))

    first_waits : slice_get box_before.waiting 0 ≡ Some message
    first_waits =
        ap (λ (o : Option (Mailbox T)). slice_get (unwrap_or o (record { limit = 0; waiting = []; borrowed = [] })).waiting 0) was_box
        ∙ ap (λ (xs : List ℕ). slice_get (map (slot_message value names m.table) xs) 0) takes.oldest

  -- the machine's subscriber stands, and finds nothing new
  does : (types : MessageTypeDetails) (buffer : ℕ) (state : State T) (new : Service T) (answer : Reply T)
      → Receives number_of (state.made.samples + 1) reader.0 service answer new
      → Step types choices buffer (command.Receive number_of) (record state { services = service ∷ [] }) answer
      (record state { made = counted answer state.made; services = new ∷ [] })
  does types buffer state new answer receives =
      one_does (subscriber_in number_of)
      (UpdatesFirst choices buffer number_of (λ failure. refusal.Receive (error.ConnectionFailure failure))
      (Receives number_of (state.made.samples + 1))) state service new answer reader.0 stands current
    where
      stands : subscriber_in number_of service ≡ Some reader.0
      stands =
          ap (option_and_then (λ (one : Reader). if one.stands then Some one else None)) reader.1
          ∙ ap (λ (b : Bool). if b then Some reader.0 else None) (reader.2).stands

      nothing_new : ((reader.0).seen == service.publisher_list.changes) && not (reader.0).again ≡ true
      nothing_new = both_hold ((reader.0).seen == service.publisher_list.changes) (not (reader.0).again)
          (eq-eqb (reader.0).seen service.publisher_list.changes (reader.2).seen) (ap not (reader.2).done)

      current : UpdatesFirst choices buffer number_of (λ failure. refusal.Receive (error.ConnectionFailure failure))
          (Receives number_of (state.made.samples + 1)) reader.0 service answer new
      current = rw nothing_new receives

  -- what the machine answers and leaves
  pub step_of : (types : MessageTypeDetails) (buffer : ℕ) (state : State T) (given : Receipt) (values : Vec T)
      → at (state.made.samples + 1) held ≡ None → AreTaken value m.table given values → ReceivesThen m before given n after
      → IsLaneStep choices value types buffer (command.Receive number_of) (received_as (state.made.samples + 1) values given) state service
      names lent (with_received (state.made.samples + 1) place m.links before given held) n
  step_of types buffer state (receipt.Taken at_place slot) values fresh are takes =
      let sample : ℕ = state.made.samples + 1 in (
        received sample at_place slot fresh takes,
        does types buffer state (received sample at_place slot fresh takes) (reply.Received sample values) (
          Some (names.publisher (link sample at_place slot fresh takes).publisher),
          giver_is sample at_place slot fresh takes,
          (message sample at_place slot fresh takes, values, first_waits sample at_place slot fresh takes, are, refl, refl),
        ),
        received_stands sample at_place slot fresh takes,
      )
  step_of types buffer state receipt.Nothing values fresh are takes = (
    swept_of reader.0,
    does types buffer state (swept_of reader.0) reply.NothingWaits (
      None,
      no_giver (takes.0).none,
      (
        sym (ap (λ (b : Bool). if b then reply.Refused (refusal.Receive ExceedsMaxBorrows) else reply.NothingWaits) (has_none takes.1)),
        refl,
      ),
    ),
    nothing_taken takes.0,
  )
  step_of types buffer state receipt.ExceedsMaxBorrows values fresh are takes = (
    swept_of reader.0,
    does types buffer state (swept_of reader.0) (reply.Refused (refusal.Receive ExceedsMaxBorrows)) (
      None,
      no_giver (takes.0).none,
      (
        sym (ap (λ (b : Bool). if b then reply.Refused (refusal.Receive ExceedsMaxBorrows) else reply.NothingWaits) (has_one takes.1)),
        refl,
      ),
    ),
    nothing_taken takes.0,
  )

pub receives_are_steps : {T : Type 0} (choices : Choices T) (value : List ℕ → T) (types : MessageTypeDetails) (buffer : ℕ)
    → ReceivesAreSteps choices value types buffer
receives_are_steps choices value types buffer = λ names lent held m n service state place before s t found fresh.
    let c = reader_call m n place call.Receive before t found (λ slot e. absurd (differ slot e)) in
    let law = receives_in_turn m n place before c.0 t found c.1.now in (
      law.0,
      law.1,
      λ values are. step_of choices value names lent held m n service s place before c.0 c.1 law.2 types buffer state law.0 values fresh are
          law.3,
    )
  where
    differ : (slot : ℕ) → name_of call.Receive ≡ name.Write slot → ⊥
    differ slot e = cc e
