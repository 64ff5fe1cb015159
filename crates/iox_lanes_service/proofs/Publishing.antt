-- What a call of a publisher leaves of what lanes stand for.
use Rattle.std.proofs.Common.{ℕ, ◌≡◌, ◌+◌, ◌<◌, ◌≤◌, ◌^◌, Bool, List, [], map, is_some, slice_get, Option, Some, None, refl}
use Rattle.std.proofs.Common.{sym}
use Rattle.std.proofs.Common.{◌∙◌, ap, arith}
use Rattle.std.proofs.Common.{subst, inl, inr}
use Rattle.std.specs.Prelude.{unwrap_or}
use Rattle.std.specs.Map.{keys_of}
use Rattle.std.proofs.lemmas.Bool.Decides.{eqb_tells}
use Rattle.iox_lanes_machine.specs.QueuesSteps.Access.{successor}
use Rattle.iox_lanes_machine.specs.LanesBase.declared.calls.route.Route.{Route}
use Rattle.iox_lanes_machine.specs.LanesBase.declared.words.sizes.TableSizes.{TableSizes}
use Rattle.iox_lanes_machine.specs.LanesParties.Parties.{PublisherLaneState, SubscriberLaneState, name_of}
use Rattle.iox_lanes_machine.specs.LanesParties.declared.call.Call.{Call}
use Rattle.iox_lanes_machine.specs.LanesParties.declared.call.CallName.{CallName}
use Rattle.iox_lanes_machine.specs.LanesParties.declared.call.CallName.TheVariants as name
use Rattle.iox_lanes_machine.specs.LanesParties.declared.call.Party.TheVariants.{Publisher}
use Rattle.iox_lanes_machine.specs.Borrowing.{borrows}
use Rattle.iox_lanes_machine.specs.FullLoans.{IsHeld, IsInUse}
use Rattle.iox_lanes_machine.specs.Kept.{IsKept}
use Rattle.iox_lanes_machine.specs.LedgerUses.{count, one_if, IsOwn}
use Rattle.iox_lanes_machine.specs.Links.{LinkState}
use Rattle.iox_lanes_machine.specs.Resting.{AllBetween}
use Rattle.iox_lanes_machine.specs.World.{World}
use Rattle.iox_lanes_machine.proofs.Ends.{some_is}
use Rattle.iox_lanes_machine.proofs.Paces.{came_kept}
use Rattle.iox_lanes_laws.specs.Messages.{payload_held}
use Rattle.iox_lanes_laws.specs.Payloads.{PublisherStays}
use Rattle.iox_lanes_laws.specs.Publishing.{OnlyPublisher, is_loan}
use Rattle.iox_lanes_laws.specs.Turns.{IsInTurn}
use Rattle.iox_lanes_laws.proofs.Ends.{calls_end_in_turn}
use Rattle.iox_lanes_laws.proofs.Payloads.{payloads_stay_in_turn, publishers_stay_in_turn}
use Rattle.iox_lanes_laws.proofs.Publishers.{whole}
use Rattle.iox_lanes_service.specs.Naming.{LaneNaming, LaneLoan, LaneSample, reader_name, slots_lent_at, loan_by_numbers}
use Rattle.iox_lanes_service.specs.Naming.{sample_by_numbers, lane_mailbox, number_held, slot_message, slot_sequence}
use Rattle.iox_lanes_service.specs.Ports.{LanePublisherIs, LaneSubscriberIs}
use Rattle.iox_lanes_service.specs.Standing.{LanesStandFor, CameOverOne, JoinsNoneOf, NumbersFit}
use Rattle.iox_lanes_service.proofs.Carrying.{numbers_kept, subscriber_kept, same_reader}
use Rattle.iox_lanes_service.proofs.Numbers.{last_behind, lasts_in_turn, numbers_stay_in_turn, same_sequence, sent_in_turn, turn_rises}
use Rattle.iox_lanes_service.proofs.Tables.{entries_same, map_same}
use Rattle.iox_lanes_service.proofs.Used.{held_borrowed}
use Rattle.iox_lanes_service.proofs.Holding.{sample_borrowed}
use Rattle.iox_machine.specs.Choices.{Choices}
use Rattle.iox_machine.specs.Mailbox.{Mailbox}
use Rattle.iox_machine.specs.Message.{Loan, Message}
use Rattle.iox_machine.specs.Service.{Publisher as Writer, Service, Subscriber as Reader}
use Rattle.iox_machine.specs.Table.{at}

-- a call of a publisher that no other call overlaps, and what it leaves; `but` is the slot that it writes, if it writes one
pub record WriterCall (m n : World) (place : ℕ) (c : Call) (before after : PublisherLaneState) : Type 0 where
  pub kept : IsKept m
  pub few : m.moments ≤ 2 ^ 63
  pub between : AllBetween m
  pub kept_then : IsKept n
  pub few_then : n.moments ≤ 2 ^ 63
  pub between_then : AllBetween n
  pub found : slice_get m.publishers place ≡ Some before
  pub now : slice_get n.publishers place ≡ Some after
  pub links : n.links ≡ m.links
  pub port : PublisherStays before after
  pub sizes : n.table.sizes ≡ m.table.sizes
  pub rises : m.moments < n.moments
  pub last : after.last ≡ last_behind (name_of c) before.last
  pub numbers : (slot : ℕ) → slot < m.table.sizes.slots → 1 ≤ m.table.sizes.user_header_words → (name_of c ≡ name.Send slot → ⊥)
      → number_held n.table slot ≡ number_held m.table slot
  pub sent : (slot last : ℕ) → name_of c ≡ name.Send slot → 1 ≤ m.table.sizes.user_header_words → before.last ≡ Some last
      → number_held n.table slot ≡ successor last
  pub payloads : (slot : ℕ) → slot < m.table.sizes.slots → (name_of c ≡ name.Write slot → ⊥)
      → payload_held n.table slot ≡ payload_held m.table slot

pub writer_call : (m n : World) (place : ℕ) (c : Call) (before : PublisherLaneState) → IsInTurn m (Publisher place) c n
    → slice_get m.publishers place ≡ Some before → (after : PublisherLaneState) × WriterCall m n place c before after
writer_call m n place c before t found =
    let stays = publishers_stay_in_turn m n place c before t found in
    let ends = calls_end_in_turn m (Publisher place) c n t in
    let w = whole m place c before n (stays.1).0 t found (stays.1).1 in (
      (stays.1).0,
      record {
        kept = (came_kept m t.came).0;
        few = w.few_first;
        between = t.between;
        kept_then = (came_kept n ends.0).0;
        few_then = t.few;
        between_then = ends.1;
        found = found;
        now = (stays.1).1;
        links = stays.0.links;
        port = (stays.1).2;
        sizes = stays.0.sizes;
        rises = turn_rises m n (Publisher place) c t;
        last = lasts_in_turn m n place c before (stays.1).0 t found (stays.1).1;
        numbers = λ slot there wide not. numbers_stay_in_turn m n (Publisher place) c t slot there wide not;
        sent = λ slot last asked wide is. sent_in_turn m n place slot c before t found asked wide last is;
        payloads = λ slot there not. payloads_stay_in_turn m n (Publisher place) c t slot there not;
      },
    )

is_some_after : (called : CallName) (last : Option ℕ) → is_some (last_behind called last) ≡ is_some last
is_some_after name.LoanUninit last = refl
is_some_after (name.Write slot) last = refl
is_some_after (name.Send slot) None = refl
is_some_after (name.Send slot) (Some last) = refl
is_some_after (name.DropLoan slot) last = refl
is_some_after name.Receive last = refl
is_some_after (name.Read slot) last = refl
is_some_after (name.Release slot) last = refl

-- a last number grows by one at most
at_most_next : (called : CallName) (was : Option ℕ) (last : ℕ) → last_behind called was ≡ Some last
    → (old : ℕ) × (was ≡ Some old) × (last ≤ old + 1)
at_most_next name.LoanUninit was last is = (last, is, omega arith)
at_most_next (name.Write slot) was last is = (last, is, omega arith)
at_most_next (name.Send slot) None last is = absurd (cc is)
at_most_next (name.Send slot) (Some old) last is =
    let next : successor old ≡ last = some_is (successor old) last is in
    (old, refl, omega (arith, next))
at_most_next (name.DropLoan slot) was last is = (last, is, omega arith)
at_most_next name.Receive was last is = (last, is, omega arith)
at_most_next (name.Read slot) was last is = (last, is, omega arith)
at_most_next (name.Release slot) was last is = (last, is, omega arith)

-- numbers fit after a call of a publisher
writers_fit : (numbered : Bool) (m n : World) (place : ℕ) (c : Call) (before after : PublisherLaneState)
    → WriterCall m n place c before after → OnlyPublisher m place n → NumbersFit numbered m → NumbersFit numbered n
writers_fit numbered m n place c before after w others h = record {
  wide = λ is. subst (λ (s : TableSizes). 1 ≤ s.user_header_words) (sym w.sizes) (h.wide is);
  each = λ who lane found. elim (eqb_tells who place) [
    | inl same ↦
        let is : lane ≡ after = some_is lane after (sym found ∙ ap (slice_get n.publishers) same.1 ∙ w.now) in
        ap (λ (l : PublisherLaneState). is_some l.last) is ∙ ap (λ (o : Option ℕ). is_some o) w.last
        ∙ is_some_after (name_of c) before.last ∙ h.each place before w.found
    | inr apart ↦ h.each who lane (sym (others.publishers who apart.1) ∙ found)
  ];
  low = λ who lane last found it. elim (eqb_tells who place) [
    | inl same ↦
        let is : lane ≡ after = some_is lane after (sym found ∙ ap (slice_get n.publishers) same.1 ∙ w.now) in
        let old = at_most_next (name_of c) before.last last
        (sym w.last ∙ sym (ap (λ (l : PublisherLaneState). l.last) is) ∙ it) in
        omega (arith, old.2, h.low place before old.0 w.found old.1, w.rises)
    | inr apart ↦ let was = h.low who lane last (sym (others.publishers who apart.1) ∙ found) it in omega (arith, was, w.rises)
  ];
}

-- the number in a slot stays, unless the call sends it
pub sequence_stays : (numbered : Bool) (m n : World) (place : ℕ) (c : Call) (before after : PublisherLaneState)
    → WriterCall m n place c before after → NumbersFit numbered m → (slot : ℕ) → slot < m.table.sizes.slots
    → (name_of c ≡ name.Send slot → ⊥) → slot_sequence numbered n.table slot ≡ slot_sequence numbered m.table slot
sequence_stays numbered m n place c before after w fit slot there not =
    same_sequence numbered m n slot (λ is. w.numbers slot there (fit.wide is) not)

module _ {T : Type 0} (choices : Choices T) (value : List ℕ → T) (names : LaneNaming) (now : ℕ → ℕ) (lent then_lent : List (ℕ × LaneLoan))
    (held : List (ℕ × LaneSample)) (m n : World) (place : ℕ) (c : Call) (before after : PublisherLaneState) (service : Service T)
    (publishers : List (ℕ × Writer T)) (mailboxes : ℕ → ℕ → Option (Mailbox T)) (loans : List (ℕ × Loan T)) where
  abbrev pub names_then : LaneNaming
  names_then = record names { message = now }

  abbrev pub service_then : Service T
  service_then = record service { publishers = publishers; mailboxes = mailboxes; loans = loans }

  -- what the machine's part leaves, and the lanes' part
  pub record SentOn : Type 0 where
    pub call : WriterCall m n place c before after
    pub others : OnlyPublisher m place n
    -- of other publishers nothing changes
    pub writers : (other : ℕ) → (other ≡ names.publisher place → ⊥) → at other publishers ≡ at other service.publishers
    pub own : (writer : Writer T) × (at (names.publisher place) publishers ≡ Some writer)
        × LanePublisherIs choices value names_then n service_then place after writer
    pub used : (who : ℕ) (lane : PublisherLaneState) (slot : ℕ) → slice_get m.publishers who ≡ Some lane → (who ≡ place → ⊥)
        → IsOwn lane.port.book slot → IsInUse n lane slot → IsInUse m lane slot
    -- messages stay where they are remembered by others, or held
    pub numbered : (who : ℕ) (lane : PublisherLaneState) (slot : ℕ) → slice_get m.publishers who ≡ Some lane → (who ≡ place → ⊥)
        → IsOwn lane.port.book slot → IsInUse m lane slot → now slot ≡ names.message slot
    pub remembered : (who : ℕ) (lane : PublisherLaneState) (slot : ℕ) → slice_get m.publishers who ≡ Some lane → (who ≡ place → ⊥)
        → 0 < count slot lane.port.book.history
        → slot_message value names_then n.table slot ≡ slot_message value names m.table slot
    pub messages : (slot : ℕ) → IsHeld m slot → slot_message value names_then n.table slot ≡ slot_message value names m.table slot
    pub boxes : (connection : ℕ) (link : LinkState) → slice_get m.links connection ≡ Some link
        → mailboxes (names.publisher link.publisher) (names.subscriber link.subscriber)
        ≡ Some (lane_mailbox value names_then n held connection link)
    pub other_boxes : (who other : ℕ) (lane : PublisherLaneState) → slice_get m.publishers who ≡ Some lane
        → JoinsNoneOf names m.links who other
        → mailboxes (names.publisher who) other ≡ service.mailboxes (names.publisher who) other
    -- loans go by numbers
    pub same : loans ≡ map (λ (entry : ℕ × LaneLoan). (entry.0, loan_by_numbers value names_then n entry.1)) then_lent
    pub once : (number : ℕ) → count number (keys_of then_lent) ≤ 1
    pub there : (index : ℕ) (entry : ℕ × LaneLoan) → slice_get then_lent index ≡ Some entry
        → (lane : PublisherLaneState) × (slice_get m.publishers entry.1.publisher ≡ Some lane)
    pub all : (who : ℕ) (lane : PublisherLaneState) (slot : ℕ) → slice_get n.publishers who ≡ Some lane
        → count slot (slots_lent_at who then_lent) ≡ one_if (is_loan lane slot)

  -- a publisher that is not the one of the call
  pub other_kept : SentOn → LanesStandFor choices value names lent held m service → (who : ℕ) (lane : PublisherLaneState)
      → (who ≡ place → ⊥) → slice_get m.publishers who ≡ Some lane → (writer : Writer T)
      → LanePublisherIs choices value names m service who lane writer
      → LanePublisherIs choices value names_then n service_then who lane writer
  other_kept d s who lane apart found writer h = record {
    stands = h.stands;
    free = h.free;
    seen = h.seen;
    most_loans = h.most_loans;
    kept = h.kept;
    slots = h.slots;
    room = h.room;
    connected = h.connected ∙ sym (ap (λ (ls : List LinkState). map (λ (route : Route). reader_name names ls route.connection)
        lane.port.routes) d.call.links);
    last = h.last;
    history = h.history ∙ sym (map_same (slot_message value names_then n.table) (slot_message value names m.table) lane.port.book.history
        (λ slot some. d.remembered who lane slot found apart some));
    numbers = numbers_kept names.message now m n lane lane writer.first writer.next (λ slot own. own)
        (λ slot own in_use. d.used who lane slot found apart own in_use)
        (λ slot own in_use. d.numbered who lane slot found apart own in_use)
        h.numbers;
    decides = h.decides;
  }

  reader_named : (lane : SubscriberLaneState) (one : Reader) → LaneSubscriberIs choices value names n service_then lane one
      → LaneSubscriberIs choices value names_then n service_then lane one
  reader_named lane one h = record {
    stands = h.stands;
    seen = h.seen;
    done = h.done;
    expired = h.expired;
    most_borrowed = h.most_borrowed;
    met = h.met;
    only = h.only;
  }

  pub sent_on : SentOn → LanesStandFor choices value names lent held m service
      → LanesStandFor choices value names_then then_lent held n service_then
  sent_on d s = record {
    between = d.call.between_then;
    numbers = writers_fit names.numbered m n place c before after d.call d.others s.numbers;
    publishers = λ who lane found. elim (eqb_tells who place) [
      | inl same ↦
          let is : after ≡ lane = some_is after lane (sym (ap (slice_get n.publishers) same.1 ∙ d.call.now) ∙ found) in
          subst (λ (w : ℕ). (writer : Writer T) × (at (names.publisher w) publishers ≡ Some writer)
          × LanePublisherIs choices value names_then n service_then w lane writer) (sym same.1)
          (subst (λ (x : PublisherLaneState). (writer : Writer T) × (at (names.publisher place) publishers ≡ Some writer)
          × LanePublisherIs choices value names_then n service_then place x writer) is d.own)
      | inr apart ↦
          let was : slice_get m.publishers who ≡ Some lane = sym (d.others.publishers who apart.1) ∙ found in
          let one = s.publishers who lane was in (
            one.0,
            d.writers (names.publisher who) (λ e. apart.1 (s.publishers_apart who place lane before was d.call.found e)) ∙ one.1,
            other_kept d s who lane apart.1 was one.0 one.2,
          )
    ];
    subscribers = λ who lane found.
        let was : slice_get m.subscribers who ≡ Some lane = sym (ap (λ xs. slice_get xs who) d.others.subscribers) ∙ found in
        let one = s.subscribers who lane was in (
          one.0,
          one.1,
          reader_named lane one.0 (subscriber_kept choices value names m n service service_then lane lane one.0 one.0 d.call.links refl refl
              refl refl (same_reader choices value names one.0) one.2),
        );
    publishers_apart = λ one other lane behind found there e.
        let was = came_from one lane found in
        let other_was = came_from other behind there in
        s.publishers_apart one other was.0 other_was.0 was.1 other_was.1 e;
    subscribers_apart = λ one other lane behind found there e.
        s.subscribers_apart one other lane behind (sym (ap (λ xs. slice_get xs one) d.others.subscribers) ∙ found)
        (sym (ap (λ xs. slice_get xs other) d.others.subscribers) ∙ there) e;
    joined = λ connection link found.
        let was = s.joined connection link (linked connection link found) in (
          goes_to link.publisher (was.0).0 (was.0).1,
          ((was.1).0, ap (λ xs. slice_get xs link.subscriber) d.others.subscribers ∙ (was.1).1),
        );
    mailboxes = λ connection link found. d.boxes connection link (linked connection link found);
    kinds = λ connection link found. s.kinds connection link (linked connection link found);
    others = λ who other lane found joins.
        let links = subst (λ (ls : List LinkState). JoinsNoneOf names ls who other) d.call.links joins in
        let was = came_from who lane found in
        let empty = s.others who other was.0 was.1 links in
        let same = d.other_boxes who other was.0 was.1 links in (
          ap (λ (o : Option (Mailbox T)). (unwrap_or o (record { limit = 0; waiting = []; borrowed = [] })).waiting) same ∙ empty.0,
          ap (λ (o : Option (Mailbox T)). (unwrap_or o (record { limit = 0; waiting = []; borrowed = [] })).borrowed) same ∙ empty.1,
        );
    loans = d.same;
    loans_once = d.once;
    loans_there = λ index entry is. let was = d.there index entry is in goes_to entry.1.publisher was.0 was.1;
    loans_all = d.all;
    samples = s.samples ∙ sym (entries_same (sample_by_numbers value names_then n) (sample_by_numbers value names m) held
        (λ index entry is. ap (λ (message : Message T). record {
          publisher = names.publisher entry.1.publisher;
          subscriber = names.subscriber entry.1.subscriber;
          message = message;
        }) (d.messages entry.1.slot (held_borrowed m entry.1.slot d.call.kept
        (sample_borrowed choices value names lent held m service s index entry is)))));
    samples_once = s.samples_once;
    samples_there = λ index entry is. subst (λ (ls : List LinkState). CameOverOne ls entry.1) (sym d.call.links)
        (s.samples_there index entry is);
    samples_all = λ connection link slot found. s.samples_all connection link slot (linked connection link found)
        ∙ sym (ap (λ xs. one_if (borrows connection slot (slice_get xs link.subscriber))) d.others.subscribers);
  }
    where
      linked : (connection : ℕ) (link : LinkState) → slice_get n.links connection ≡ Some link → slice_get m.links connection ≡ Some link
      linked connection link found = sym (ap (λ ls. slice_get ls connection) d.call.links) ∙ found

      came_from : (who : ℕ) (lane : PublisherLaneState) → slice_get n.publishers who ≡ Some lane
          → (was : PublisherLaneState) × (slice_get m.publishers who ≡ Some was)
      came_from who lane found = elim (eqb_tells who place) [
        | inl same ↦ (before, ap (slice_get m.publishers) same.1 ∙ d.call.found)
        | inr apart ↦ (lane, sym (d.others.publishers who apart.1) ∙ found)
      ]

      goes_to : (who : ℕ) (lane : PublisherLaneState) → slice_get m.publishers who ≡ Some lane
          → (lane_then : PublisherLaneState) × (slice_get n.publishers who ≡ Some lane_then)
      goes_to who lane found = elim (eqb_tells who place) [
        | inl same ↦ (after, ap (slice_get n.publishers) same.1 ∙ d.call.now)
        | inr apart ↦ (lane, d.others.publishers who apart.1 ∙ found)
      ]
