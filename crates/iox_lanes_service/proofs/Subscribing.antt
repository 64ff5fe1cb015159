-- What a call of a subscriber leaves of what lanes stand for.
use Rattle.std.proofs.Common.{ℕ, ◌≡◌, ◌<◌, ◌≤◌, ◌^◌, ◌==◌, ◌&&◌, Bool, true, false, List, [], map, slice_get, Option, Some, None, refl, sym}
use Rattle.std.proofs.Common.{◌∙◌, ap, subst, inl, inr, arith}
use Rattle.std.specs.Prelude.{unwrap_or}
use Rattle.std.proofs.lemmas.Bool.{eq-eqb}
use Rattle.std.specs.Map.{keys_of}
use Rattle.std.proofs.lemmas.Bool.Decides.{eqb_tells}
use Rattle.iox_lanes_machine.specs.LanesBase.Subscribing.{subscriber_is_idle}
use Rattle.iox_lanes_machine.specs.LanesBase.declared.words.sizes.TableSizes.{TableSizes}
use Rattle.iox_lanes_machine.specs.LanesParties.Parties.{PublisherLaneState, SubscriberLaneState, name_of}
use Rattle.iox_lanes_machine.specs.LanesParties.declared.call.Call.{Call}
use Rattle.iox_lanes_machine.specs.LanesParties.declared.call.Call.TheVariants as call
use Rattle.iox_lanes_machine.specs.LanesParties.declared.call.CallName.TheVariants as name
use Rattle.iox_lanes_machine.specs.LanesParties.declared.call.Move.TheVariants.{Begin}
use Rattle.iox_lanes_machine.specs.LanesParties.declared.call.Party.TheVariants.{Subscriber}
use Rattle.iox_lanes_machine.specs.Borrowing.{borrows}
use Rattle.iox_lanes_machine.specs.FullLoans.{IsHeld, IsInUse}
use Rattle.iox_lanes_machine.specs.Kept.{IsKept}
use Rattle.iox_lanes_machine.specs.LedgerUses.{count, one_if}
use Rattle.iox_lanes_machine.specs.Links.{LinkState}
use Rattle.iox_lanes_machine.specs.Owned.{IsSlotOf}
use Rattle.iox_lanes_machine.specs.Resting.{AllBetween, mail_at}
use Rattle.iox_lanes_machine.specs.World.{World, fits, subscriber_fits_at}
use Rattle.iox_lanes_machine.proofs.Alone.{loan_within}
use Rattle.iox_lanes_machine.proofs.Ends.{some_is}
use Rattle.iox_lanes_machine.proofs.Owned.{histories_are_own}
use Rattle.iox_lanes_machine.proofs.Paces.{came_kept}
use Rattle.iox_lanes_laws.specs.Messages.{payload_held}
use Rattle.iox_lanes_laws.specs.Publishing.{is_loan}
use Rattle.iox_lanes_laws.specs.Subscribing.{OnlySubscriber}
use Rattle.iox_lanes_laws.specs.Turns.{IsInTurn}
use Rattle.iox_lanes_laws.proofs.Ends.{calls_end_in_turn}
use Rattle.iox_lanes_laws.proofs.Payloads.{payloads_stay_in_turn, subscribers_stay_in_turn}
use Rattle.iox_lanes_laws.proofs.Subscribers.{few_first}
use Rattle.iox_lanes_service.specs.Naming.{LaneNaming, LaneLoan, LaneSample, slots_held_over, has_written, loan_by_numbers}
use Rattle.iox_lanes_service.specs.Naming.{sample_by_numbers, lane_mailbox, number_held}
use Rattle.iox_lanes_service.specs.Ports.{LaneSubscriberIs}
use Rattle.iox_lanes_service.specs.Standing.{LanesStandFor, CameOverOne, JoinsNoneOf, NumbersFit}
use Rattle.iox_lanes_service.proofs.Carrying.{HoldsSame, publisher_kept, subscriber_kept, loan_kept, same_message, SameReader}
use Rattle.iox_lanes_service.proofs.Numbers.{numbers_stay_in_turn, same_sequence, turn_rises}
use Rattle.iox_lanes_service.proofs.Tables.{counted_stands, entries_same, entry_counted}
use Rattle.iox_lanes_service.proofs.Used.{IsBorrowedOf, held_split, held_waits, slot_there}
use Rattle.iox_machine.specs.Choices.{Choices}
use Rattle.iox_machine.specs.Mailbox.{Mailbox}
use Rattle.iox_machine.specs.Message.{Sample}
use Rattle.iox_machine.specs.Service.{Service, Subscriber as Reader}
use Rattle.iox_machine.specs.Table.{at}

-- a call of a subscriber that no other call overlaps, and what it leaves
pub record ReaderCall (m n : World) (place : ℕ) (before after : SubscriberLaneState) : Type 0 where
  pub kept : IsKept m
  pub few : m.moments ≤ 2 ^ 63
  pub between : AllBetween m
  pub kept_then : IsKept n
  pub few_then : n.moments ≤ 2 ^ 63
  pub between_then : AllBetween n
  pub found : slice_get m.subscribers place ≡ Some before
  pub now : slice_get n.subscribers place ≡ Some after
  pub links : n.links ≡ m.links
  pub routes : after.port.routes ≡ before.port.routes
  pub most : after.port.most_borrowed ≡ before.port.most_borrowed
  pub sizes : n.table.sizes ≡ m.table.sizes
  pub rises : m.moments < n.moments
  pub numbers : (slot : ℕ) → slot < m.table.sizes.slots → 1 ≤ m.table.sizes.user_header_words
      → number_held n.table slot ≡ number_held m.table slot
  pub payloads : (slot : ℕ) → slot < m.table.sizes.slots → payload_held n.table slot ≡ payload_held m.table slot

-- a call that a subscriber begins is no send
reader_unsent : (m : World) (place slot : ℕ) (c : Call) → fits m (Subscriber place) (Begin c) ≡ true → name_of c ≡ name.Send slot → ⊥
reader_unsent m place slot call.LoanUninit fit e = cc e
reader_unsent m place slot (call.Write other payload user_header) fit e = cc e
reader_unsent m place slot (call.Send other) fit e = by_lane (slice_get m.subscribers place) fit
  where
    by_idle : (b : Bool) → (b && false) ≡ true → ⊥
    by_idle true e = cc e
    by_idle false e = cc e

    by_lane : (o : Option SubscriberLaneState) → subscriber_fits_at o (Begin (call.Send other)) ≡ true → ⊥
    by_lane None fit = cc fit
    by_lane (Some lane) fit = by_idle (subscriber_is_idle lane.port.call) fit
reader_unsent m place slot (call.DropLoan other) fit e = cc e
reader_unsent m place slot call.Receive fit e = cc e
reader_unsent m place slot (call.Read other) fit e = cc e
reader_unsent m place slot (call.Release other) fit e = cc e

pub reader_call : (m n : World) (place : ℕ) (c : Call) (before : SubscriberLaneState) → IsInTurn m (Subscriber place) c n
    → slice_get m.subscribers place ≡ Some before → ((slot : ℕ) → name_of c ≡ name.Write slot → ⊥)
    → (after : SubscriberLaneState) × ReaderCall m n place before after
reader_call m n place c before t found not =
    let stays = subscribers_stay_in_turn m n place c before t found in
    let ends = calls_end_in_turn m (Subscriber place) c n t in (
      (stays.1).0,
      record {
        kept = (came_kept m t.came).0;
        few = few_first m n place c t;
        between = t.between;
        kept_then = (came_kept n ends.0).0;
        few_then = t.few;
        between_then = ends.1;
        found = found;
        now = (stays.1).1;
        links = stays.0.links;
        routes = (stays.1).2.routes;
        most = (stays.1).2.most_borrowed;
        sizes = stays.0.sizes;
        rises = turn_rises m n (Subscriber place) c t;
        numbers = λ slot there wide. numbers_stay_in_turn m n (Subscriber place) c t slot there wide
            (reader_unsent m place slot c t.begins.0);
        payloads = λ slot there. payloads_stay_in_turn m n (Subscriber place) c t slot there (not slot);
      },
    )

-- slots hold the same, and the same numbers
pub reader_same : (numbered : Bool) (m n : World) (place : ℕ) (before after : SubscriberLaneState) → ReaderCall m n place before after
    → NumbersFit numbered m → (slot : ℕ) → slot < m.table.sizes.slots → HoldsSame numbered m n slot
reader_same numbered m n place before after c fit slot there =
    (c.payloads slot there, same_sequence numbered m n slot (λ is. c.numbers slot there (fit.wide is)))

pub one_is : (b : Bool) → 0 < one_if b → b ≡ true
one_is true some = refl
one_is false some = absurd (omega (arith, some))

-- a loan of lanes is a slot of its publisher
pub lent_own : {T : Type 0} (choices : Choices T) (value : List ℕ → T) (names : LaneNaming) (lent : List (ℕ × LaneLoan))
    (held : List (ℕ × LaneSample)) (m : World) (service : Service T) → LanesStandFor choices value names lent held m service
    → (index : ℕ) (entry : ℕ × LaneLoan) → slice_get lent index ≡ Some entry → IsSlotOf m entry.1.publisher entry.1.slot
lent_own choices value names lent held m service s index entry is =
    let lane = s.loans_there index entry is in
    let some = entry_counted (λ (loan : LaneLoan). loan.slot) (λ (loan : LaneLoan). loan.publisher == entry.1.publisher) lent index entry is
    (eq-eqb entry.1.publisher entry.1.publisher refl) in
    let out : is_loan lane.0 entry.1.slot ≡ true
    = one_is (is_loan lane.0 entry.1.slot) (omega (arith, some, s.loans_all entry.1.publisher lane.0 entry.1.slot lane.1)) in
    let own = loan_within m entry.1.publisher entry.1.slot (record { lane = lane.0; found = lane.1; out = out }) in
    record { lane = lane.0; found = lane.1; above = own.0; below = own.1 }

pub lent_there : {T : Type 0} (choices : Choices T) (value : List ℕ → T) (names : LaneNaming) (lent : List (ℕ × LaneLoan))
    (held : List (ℕ × LaneSample)) (m : World) (service : Service T) → LanesStandFor choices value names lent held m service → IsKept m
    → (index : ℕ) (entry : ℕ × LaneLoan) → slice_get lent index ≡ Some entry → entry.1.slot < m.table.sizes.slots
lent_there choices value names lent held m service s k index entry is =
    slot_there m entry.1.publisher entry.1.slot k (lent_own choices value names lent held m service s index entry is)

module _ {T : Type 0} (choices : Choices T) (value : List ℕ → T) (names : LaneNaming) (lent : List (ℕ × LaneLoan))
    (held then_held : List (ℕ × LaneSample)) (m n : World) (place : ℕ) (before after : SubscriberLaneState) (service : Service T)
    (subscribers : List (ℕ × Reader)) (mailboxes : ℕ → ℕ → Option (Mailbox T)) (samples : List (ℕ × Sample T)) where
  abbrev pub after_service : Service T
  after_service = record service { subscribers = subscribers; mailboxes = mailboxes; samples = samples }

  -- what the machine's part leaves, and the lanes' part
  pub record CarriedBy : Type 0 where
    pub call : ReaderCall m n place before after
    pub others : OnlySubscriber m place n
    pub readers : (other : ℕ) (one : Reader) → at other service.subscribers ≡ Some one
        → (another : Reader) × (at other subscribers ≡ Some another) × SameReader choices value names one another
    pub boxes : (connection : ℕ) (link : LinkState) → slice_get m.links connection ≡ Some link
        → mailboxes (names.publisher link.publisher) (names.subscriber link.subscriber)
        ≡ Some (lane_mailbox value names n then_held connection link)
    pub other_boxes : (who other : ℕ) (lane : PublisherLaneState) → slice_get m.publishers who ≡ Some lane
        → JoinsNoneOf names m.links who other
        → mailboxes (names.publisher who) other ≡ service.mailboxes (names.publisher who) other
    pub same : samples ≡ map (λ (entry : ℕ × LaneSample). (entry.0, sample_by_numbers value names n entry.1)) then_held
    pub once : (number : ℕ) → count number (keys_of then_held) ≤ 1
    pub there : (index : ℕ) (entry : ℕ × LaneSample) → slice_get then_held index ≡ Some entry → CameOverOne m.links entry.1
    pub all : (connection : ℕ) (link : LinkState) (slot : ℕ) → slice_get m.links connection ≡ Some link
        → count slot (slots_held_over link then_held) ≡ one_if (borrows connection slot (slice_get n.subscribers link.subscriber))
    -- what waits did, and what is borrowed was held
    pub waits : (connection slot : ℕ) → 0 < count slot (mail_at n connection) → 0 < count slot (mail_at m connection)
    pub borrowed : (slot : ℕ) → IsBorrowedOf n slot → IsHeld m slot

  used : CarriedBy → (who : ℕ) (lane : PublisherLaneState) (slot : ℕ) → IsInUse n lane slot → IsInUse m lane slot
  used c who lane slot (inl loan) = inl loan
  used c who lane slot (inr (inl kept)) = inr (inl kept)
  used c who lane slot (inr (inr is)) = inr (inr (elim (held_split n slot c.call.between_then is) [
    | inl w ↦ held_waits m slot c.call.kept (record { connection = w.connection; some = c.waits w.connection slot w.some })
    | inr b ↦ c.borrowed slot b
  ]))

  pub carried : CarriedBy → LanesStandFor choices value names lent held m service
      → LanesStandFor choices value names lent then_held n after_service
  carried c s = record {
    between = c.call.between_then;
    numbers = record {
      wide = λ is. subst (λ (sizes : TableSizes). 1 ≤ sizes.user_header_words) (sym c.call.sizes) (s.numbers.wide is);
      each = λ who lane found. s.numbers.each who lane (sym (ap (λ xs. slice_get xs who) c.others.publishers) ∙ found);
      low = λ who lane last found is.
          let was = s.numbers.low who lane last (sym (ap (λ xs. slice_get xs who) c.others.publishers) ∙ found) is in
          omega (arith, was, c.call.rises);
    };
    publishers = λ who lane found.
        let was : slice_get m.publishers who ≡ Some lane = sym (ap (λ xs. slice_get xs who) c.others.publishers) ∙ found in
        let one = s.publishers who lane was in (
          one.0,
          one.1,
          publisher_kept choices value names m n service after_service who lane one.0 c.call.links refl refl
              (λ slot some. same_message choices value names m n slot
              (reader_same names.numbered m n place before after c.call s.numbers slot (remembered who lane slot was some)))
              (λ slot own. used c who lane slot) one.2,
        );
    subscribers = λ who lane found. elim (eqb_tells who place) [
      | inl same ↦
          let was : slice_get m.subscribers who ≡ Some before = ap (slice_get m.subscribers) same.1 ∙ c.call.found in
          let is : after ≡ lane = some_is after lane (sym (ap (slice_get n.subscribers) same.1 ∙ c.call.now) ∙ found) in
          let one = s.subscribers who before was in
          let other = c.readers (names.subscriber who) one.0 one.1 in (
            other.0,
            other.1,
            subst (λ (x : SubscriberLaneState). LaneSubscriberIs choices value names n after_service x other.0) is
                (subscriber_kept choices value names m n service after_service before after one.0 other.0 c.call.links refl refl
                c.call.routes c.call.most other.2 one.2),
          )
      | inr apart ↦
          let was : slice_get m.subscribers who ≡ Some lane = sym (c.others.subscribers who apart.1) ∙ found in
          let one = s.subscribers who lane was in
          let other = c.readers (names.subscriber who) one.0 one.1 in (
            other.0,
            other.1,
            subscriber_kept choices value names m n service after_service lane lane one.0 other.0 c.call.links refl refl refl refl other.2
                one.2,
          )
    ];
    publishers_apart = λ one other lane behind found there e.
        s.publishers_apart one other lane behind (sym (ap (λ xs. slice_get xs one) c.others.publishers) ∙ found)
        (sym (ap (λ xs. slice_get xs other) c.others.publishers) ∙ there) e;
    subscribers_apart = λ one other lane behind found there e.
        let was = came_from one lane found in
        let other_was = came_from other behind there in
        s.subscribers_apart one other was.0 other_was.0 was.1 other_was.1 e;
    joined = λ connection link found.
        let was = s.joined connection link (linked connection link found) in (
          ((was.0).0, ap (λ xs. slice_get xs link.publisher) c.others.publishers ∙ (was.0).1),
          goes_to link.subscriber (was.1).0 (was.1).1,
        );
    mailboxes = λ connection link found. c.boxes connection link (linked connection link found);
    kinds = λ connection link found. s.kinds connection link (linked connection link found);
    others = λ who other lane found joins.
        let links = subst (λ (ls : List LinkState). JoinsNoneOf names ls who other) c.call.links joins in
        let there = sym (ap (λ xs. slice_get xs who) c.others.publishers) ∙ found in
        let was = s.others who other lane there links in
        let same = c.other_boxes who other lane there links in (
          ap (λ (o : Option (Mailbox T)). (unwrap_or o (record { limit = 0; waiting = []; borrowed = [] })).waiting) same ∙ was.0,
          ap (λ (o : Option (Mailbox T)). (unwrap_or o (record { limit = 0; waiting = []; borrowed = [] })).borrowed) same ∙ was.1,
        );
    loans = s.loans ∙ sym (entries_same (loan_by_numbers value names n) (loan_by_numbers value names m) lent
        (λ index entry is. loan_kept choices value names m n entry.1
        (ap (λ xs. has_written entry.1.slot (slice_get xs entry.1.publisher)) c.others.publishers)
        (c.call.payloads entry.1.slot (lent_there choices value names lent held m service s c.call.kept index entry is))));
    loans_once = s.loans_once;
    loans_there = λ index entry is.
        let was = s.loans_there index entry is in
        (was.0, ap (λ xs. slice_get xs entry.1.publisher) c.others.publishers ∙ was.1);
    loans_all = λ who lane slot found.
        s.loans_all who lane slot (sym (ap (λ xs. slice_get xs who) c.others.publishers) ∙ found);
    samples = c.same;
    samples_once = c.once;
    samples_there = λ index entry is. subst (λ ls. CameOverOne ls entry.1) (sym c.call.links) (c.there index entry is);
    samples_all = λ connection link slot found. c.all connection link slot (linked connection link found);
  }
    where
      linked : (connection : ℕ) (link : LinkState) → slice_get n.links connection ≡ Some link → slice_get m.links connection ≡ Some link
      linked connection link found = sym (ap (λ ls. slice_get ls connection) c.call.links) ∙ found

      remembered : (who : ℕ) (lane : PublisherLaneState) (slot : ℕ) → slice_get m.publishers who ≡ Some lane
          → 0 < count slot lane.port.book.history → slot < m.table.sizes.slots
      remembered who lane slot found some =
          let stands = counted_stands lane.port.book.history slot some in
          slot_there m who slot c.call.kept ((histories_are_own m c.call.kept c.call.few who lane found).own stands.0 slot stands.1)

      came_from : (who : ℕ) (lane : SubscriberLaneState) → slice_get n.subscribers who ≡ Some lane
          → (was : SubscriberLaneState) × (slice_get m.subscribers who ≡ Some was)
      came_from who lane found = elim (eqb_tells who place) [
        | inl same ↦ (before, ap (slice_get m.subscribers) same.1 ∙ c.call.found)
        | inr apart ↦ (lane, sym (c.others.subscribers who apart.1) ∙ found)
      ]

      goes_to : (who : ℕ) (lane : SubscriberLaneState) → slice_get m.subscribers who ≡ Some lane
          → (now : SubscriberLaneState) × (slice_get n.subscribers who ≡ Some now)
      goes_to who lane found = elim (eqb_tells who place) [
        | inl same ↦ (after, ap (slice_get n.subscribers) same.1 ∙ c.call.now)
        | inr apart ↦ (lane, c.others.subscribers who apart.1 ∙ found)
      ]
