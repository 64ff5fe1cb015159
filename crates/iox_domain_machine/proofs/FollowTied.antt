-- A place is tied to the connection of the subscriber that it lists, which gets as much of the history as may wait there.
use Rattle.std.proofs.Common.{◌≡◌, ◌≢◌, ◌≤◌, ◌<◌, ◌+◌, ◌-◌, ◌∷◌, ◌++◌, [], ℕ, zero, suc, true, List, get_or, set, length, map, drop}
use Rattle.std.proofs.Common.{Option, None, Some, refl, inl, inr, sym, ap, subst, ◌∙◌, arith, append-nil, length-append}
use Rattle.std.proofs.lemmas.Bool.{cases_eq, eq-eqb, ne_eqb}
use Rattle.std.proofs.lemmas.List.{get_or-set_other, get_or-set_same, length-set, length-map, drop-map, length-replicate}
use Rattle.std.specs.Option.{option_map_or}
use Rattle.std.specs.Prelude.{is_some, option_map, replicate, unwrap_or, if◌then◌else◌, ◌==◌}
use Rattle.iox_domain.proofs.DomainSlots.Counts.{times_cons}
use Rattle.iox_domain.proofs.Once.{live_within}
use Rattle.iox_domain.proofs.TiedWell.{still_there, long_enough}
use Rattle.iox_domain.specs.Container.declared.container.Member.{Member}
use Rattle.iox_domain.specs.DomainPorts.Messages.{Message}
use Rattle.iox_domain.specs.DomainPorts.MessagesSending.{slots_of}
use Rattle.iox_domain.specs.DomainPorts.Places.{reached}
use Rattle.iox_domain.specs.DomainPorts.Ports.{connection_of, with_connection_of, goes_on, greeted_at, is_live}
use Rattle.iox_domain.specs.DomainPorts.PublisherUpdating.{tied, within_reach}
use Rattle.iox_domain.specs.DomainPorts.Ties.{tie_put}
use Rattle.iox_domain.specs.DomainPorts.declared.publisher_port.PublisherPort.{PublisherPort}
use Rattle.iox_domain.specs.DomainPorts.declared.reader.Reader.{Reader}
use Rattle.iox_domain.specs.DomainPorts.declared.subscriber_entry.SubscriberEntry.{SubscriberEntry}
use Rattle.iox_domain.specs.DomainSlots.Counting.{times}
use Rattle.iox_domain.specs.DomainSlots.Uses.{Connection, nobody, newest, welcomed, held_by, is_there}
use Rattle.iox_domain.specs.PortLawsLaws.{IsTiedWell}
use Rattle.iox_domain_machine.specs.Mailboxes.{MailboxesStandFor, times_held}
use Rattle.iox_domain_machine.specs.Naming.{message_as, mailbox_as}
use Rattle.iox_domain_machine.proofs.FollowBoxes.{StandsAt, ChangesAt, boxes_changed}
use Rattle.iox_domain_machine.proofs.FollowSteps.{emptied, OnlyTied, StepsAt}
use Rattle.iox_domain_machine.proofs.Found.{same_some, never_some, never_true}
use Rattle.iox_domain_machine.proofs.ReleasePort.{live_open, live_isn't_ended}
use Rattle.iox_machine.specs.Mailbox.{Mailbox}
use Rattle.iox_machine.specs.Mailbox as mailbox
use Rattle.iox_machine.specs.Message as machine
use Rattle.iox_machine.specs.Service.{Subscriber}
use Rattle.iox_machine.specs.Table.{at}

-- the mailbox of a new subscriber of this name: the one that it had, or one for as many messages as it allows, with as much of a history as
-- may wait
abbrev pub greeting : {T : Type 0} → List (machine.Message T) → List (ℕ × Subscriber) → ℕ → Option (Mailbox T) → Mailbox T
greeting history subscribers its_name found =
    let box = unwrap_or found (record {
      limit = option_map_or (λ (one : Subscriber). one.buffer_size) (at its_name subscribers) 0;
      waiting = [];
      borrowed = [];
    }) in
    record box { waiting = mailbox.newest box.limit history }

-- the mailbox of one name is that of a new subscriber
abbrev pub greeted_name : {T : Type 0} → List (machine.Message T) → List (ℕ × Subscriber) → ℕ → (ℕ → Option (Mailbox T)) → ℕ
    → Option (Mailbox T)
greeted_name history subscribers its_name mailboxes other =
    if other == its_name then Some (greeting history subscribers its_name (mailboxes its_name)) else mailboxes other

-- what is dropped is there no more often
times_drop : (slot n : ℕ) (xs : List ℕ) → times slot (drop n xs) ≤ times slot xs
times_drop slot zero xs = omega arith
times_drop slot (suc n) [] = omega arith
times_drop slot (suc n) (x ∷ xs) = omega (arith, times_drop slot n xs, times_cons slot x xs)

pub newest_map : {X Y : Type 0} (f : X → Y) (count : ℕ) (xs : List X) → mailbox.newest count (map f xs) ≡ map f (newest count xs)
newest_map f count xs = ap (λ n. drop (n - count) (map f xs)) (length-map xs f) ∙ drop-map f (length xs - count) xs

reached_length : {X : Type 0} (count most : ℕ) (xs : List (Option X)) → length xs ≤ most → count ≤ most
    → length (reached count xs) ≤ most
reached_length {X} count most xs below within =
    let none : Option X = None in
    omega (
      arith,
      below,
      within,
      length-append xs (replicate (count - length xs) none),
      length-replicate {A = Option X} (count - length xs) none,
    )

-- What is known of a publisher once a place may be tied to the connection of its subscriber, to which nothing was delivered.
pub record JoinedAt {T U : Type 0} (name subscriber_name : ℕ → ℕ) (subscribers : List (ℕ × Subscriber)) (place index : ℕ)
    (port joined : PublisherPort T U) (reader new_reader : ℕ → ℕ) (mailboxes : ℕ → Option (Mailbox T)) (subscriber : ℕ) : Type 0 where
  pub only : OnlyTied port joined
  pub ties : joined.ties ≡ (within_reach place port).ties
  pub elsewhere : (other : ℕ) → other ≢ index → connection_of other joined ≡ connection_of other port
  pub reads : (other : ℕ) → other ≢ index → get_or joined.readers other None ≡ get_or port.readers other None
  pub called : (other : ℕ) → other ≢ index → new_reader other ≡ reader other
  pub apart : (other : ℕ) → other ≢ index → is_there (connection_of other port) ≡ true → reader other ≢ new_reader index
  pub same : is_there (connection_of index port) ≡ true → reader index ≡ new_reader index
  pub live : is_live index joined ≡ true
  pub waits : (connection_of index joined).waiting ≡ []
  pub borrows : (connection_of index joined).borrowed ≡ []
  pub borrowed : (connection_of index port).borrowed ≡ []
  pub to : Reader
  pub reads_to : get_or joined.readers index None ≡ Some to
  pub its : new_reader index ≡ subscriber_name to.subscriber
  pub whose : to.subscriber ≡ subscriber
  pub some : subscriber_name to.subscriber ≢ 0
  pub read : to.attached ≡ true → get_or port.readers index None ≡ Some to
  pub free : (other : ℕ) → other ≢ place → get_or port.ties.items other None ≢ Some index
  pub box : greeting (map (message_as name) port.sender.uses.history) subscribers (new_reader index) (mailboxes (new_reader index))
      ≡ mailbox_as name (welcomed port.sender.uses.history (connection_of index joined))

module _ {T U : Type 0} (name subscriber_name reader new_reader : ℕ → ℕ) (next : ℕ) (places : List (Option (Member SubscriberEntry)))
    (subscribers : List (ℕ × Subscriber)) (place index : ℕ) (port joined : PublisherPort T U) (mailboxes : ℕ → Option (Mailbox T))
    (member : Member SubscriberEntry) (is : JoinedAt name subscriber_name subscribers place index port joined reader new_reader mailboxes
    member.value.subscriber)
    (within : place < length places) (untied : get_or port.ties.items place None ≡ None)
    (boxes : MailboxesStandFor name reader subscriber_name port mailboxes subscribers)
    (silent : port.sender.uses.sending ≡ None) (size : length port.ties.items ≤ length places)
    (once : (slot : ℕ) → times slot (slots_of port.sender).history ≤ 1)
    (known : is_some (at (new_reader index) subscribers) ≡ true)
    (alone : (other : ℕ) (one : Member SubscriberEntry) → get_or places other None ≡ Some one
    → subscriber_name one.value.subscriber ≡ new_reader index → other ≡ place)
    (listed : get_or places place None ≡ Some member) (well : IsTiedWell next places (tied place index joined)) where
  abbrev history : List (Message T U)
  history = port.sender.uses.history

  abbrev given : PublisherPort T U
  given = record joined { ties = tie_put place (Some index) joined.ties }

  abbrev was : Connection (Message T U)
  was = connection_of index joined

  abbrev now : Connection (Message T U)
  now = welcomed history was

  abbrev after : PublisherPort T U
  after = with_connection_of index now given

  abbrev new_mailboxes : ℕ → Option (Mailbox T)
  new_mailboxes = greeted_name (map (message_as name) history) subscribers (new_reader index) mailboxes

  same_history : joined.sender.uses.history ≡ history
  same_history = ap (λ (one : PublisherPort T U). one.sender.uses.history) is.only

  tied_is : tied place index joined ≡ after
  tied_is =
      ap (λ b. if b then greeted_at index was.waiting given else given) is.live
      ∙ ap (λ waiting. greeted_at index waiting given) is.waits
      ∙ ap (λ (all : List (Message T U)). with_connection_of index (welcomed all was) given) same_history

  here : connection_of index after ≡ now
  here = get_or-set_same joined.sender.uses.connections index now nobody (live_within index joined is.live)

  elsewhere : (other : ℕ) → other ≢ index → connection_of other after ≡ connection_of other port
  elsewhere other off = get_or-set_other joined.sender.uses.connections index other now nobody off ∙ is.elsewhere other off

  items_are : after.ties.items ≡ set (reached (place + 1) port.ties.items) place (Some index)
  items_are = ap (λ ties. set ties.items place (Some index)) is.ties

  tie_here : get_or after.ties.items place None ≡ Some index
  tie_here =
      ap (λ items. get_or items place None) items_are
      ∙ get_or-set_same (reached (place + 1) port.ties.items) place (Some index) None
      (omega (arith, long_enough port.ties.items (place + 1)))

  items : (other : ℕ) → other ≢ place → get_or after.ties.items other None ≡ get_or port.ties.items other None
  items other off =
      ap (λ items. get_or items other None) items_are
      ∙ get_or-set_other (reached (place + 1) port.ties.items) place other (Some index) None off
      ∙ still_there port.ties.items (place + 1 - length port.ties.items) other

  live_now : is_live index after ≡ true
  live_now = ap (λ (one : Connection (Message T U)). goes_on one.stage) here ∙ is.live

  new_box : new_mailboxes (new_reader index) ≡ Some (mailbox_as name (connection_of index after))
  new_box =
      ap (λ b. if b then Some (greeting (map (message_as name) history) subscribers (new_reader index) (mailboxes (new_reader index)))
      else mailboxes (new_reader index)) (eq-eqb (new_reader index) (new_reader index) refl)
      ∙ ap (λ (one : Mailbox T). Some one) is.box
      ∙ ap (λ (one : Connection (Message T U)). Some (mailbox_as name one)) (sym here)

  held_few : (slot : ℕ) → times_held slot index after ≤ times slot (slots_of port.sender).history
  held_few slot =
      let slot_of = λ (message : Message T U). message.slot in
      let holds : held_by (connection_of index after) ≡ newest was.limit history =
      ap (λ (one : Connection (Message T U)). held_by one) here
      ∙ ap (λ borrowed. newest was.limit history ++ borrowed) is.borrows ∙ append-nil (newest was.limit history) in
      let same = ap (λ (all : List (Message T U)). times slot (map slot_of all)) holds in
      let dropped = ap (times slot) (drop-map slot_of (length history - was.limit) history) in
      omega (arith, same, dropped, times_drop slot (length history - was.limit) (map slot_of history))

  stands_at : StandsAt name subscriber_name after index (new_reader index) (new_mailboxes (new_reader index)) subscribers
  stands_at = record {
    live = λ live. new_box;
    ended = λ ended. live_isn't_ended (connection_of index after).stage live_now ended;
    quiet = λ ended. live_isn't_ended (connection_of index after).stage live_now ended;
    gone = λ isn't_there. never_true (sym isn't_there ∙ live_open (connection_of index after).stage live_now);
    none = λ isn't_there. never_true (sym isn't_there ∙ live_open (connection_of index after).stage live_now);
    known = λ there. known;
    led = λ live. ap is_some is.reads_to;
    read = λ to reads.
        let same = same_some is.to to (sym is.reads_to ∙ reads) in (
          is.its ∙ ap (λ (one : Reader). subscriber_name one.subscriber) same,
          λ none. is.some (ap (λ (one : Reader). subscriber_name one.subscriber) same ∙ none),
        );
    heard = λ to reads. live_now;
    unmet = λ live free. absurd (free place tie_here);
    once = λ slot. let before = once slot in omega (arith, before, held_few slot);
  }

  tie_stays : (other at_place : ℕ) → other ≢ index → get_or port.ties.items at_place None ≡ Some other
      → get_or after.ties.items at_place None ≡ Some other
  tie_stays other at_place off tie = elim (cases_eq at_place place) [
    | inl same ↦ never_some other (sym untied ∙ ap (λ n. get_or port.ties.items n None) (sym same) ∙ tie)
    | inr apart ↦ items at_place apart ∙ tie
  ]

  change : ChangesAt port after reader new_reader mailboxes new_mailboxes index
  change = record {
    standing = ap (λ (one : PublisherPort T U). one.stands) is.only;
    silent = ap (λ (one : PublisherPort T U). one.sender.uses.sending) is.only ∙ silent;
    elsewhere = elsewhere;
    reads = is.reads;
    called = is.called;
    apart = is.apart;
    same = is.same;
    others = λ other off. ap (λ b. if b then Some (greeting (map (message_as name) history) subscribers (new_reader index)
        (mailboxes (new_reader index))) else mailboxes other) (ne_eqb other (new_reader index) off);
    ties = tie_stays;
  }

  its_name : new_reader index ≡ subscriber_name member.value.subscriber
  its_name = is.its ∙ ap subscriber_name is.whose

  steps : StepsAt name subscriber_name next places subscribers place index port (tied place index joined) reader new_reader
      mailboxes new_mailboxes
  steps =
      subst (λ (one : PublisherPort T U). StepsAt name subscriber_name next places subscribers place index port one reader new_reader
      mailboxes new_mailboxes) (sym tied_is)
      (record {
        change = change;
        only = ap (λ (one : PublisherPort T U). record (with_connection_of index now one) { ties = after.ties }) is.only;
        items = items;
        size = ends_within;
        free = is.free;
        borrowed = ap (λ (one : Connection (Message T U)). one.borrowed) here ∙ is.borrows ∙ sym is.borrowed;
        held = λ slot none. omega (arith, none, held_few slot);
        named = λ some. absurd (some is.borrowed);
        read = λ to reads attached.
            let same = same_some is.to to (sym is.reads_to ∙ reads) in
            is.read (ap (λ (one : Reader). one.attached) same ∙ attached) ∙ ap (λ (one : Reader). Some one) same;
        whose = alone;
        lost = λ other unlisted. ap (λ box. option_map emptied box) (change.others other
            (λ same. unlisted place member listed (sym its_name ∙ sym same)));
        well = subst (λ (one : PublisherPort T U). IsTiedWell next places one) tied_is well;
        boxes = boxes_changed name subscriber_name reader new_reader port after index mailboxes new_mailboxes subscribers boxes change
            stands_at;
      })
    where
      ends_within : length after.ties.items ≤ length places
      ends_within = omega (
        arith,
        ap (λ items. length items) items_are,
        length-set (reached (place + 1) port.ties.items) place (Some index),
        reached_length (place + 1) (length places) port.ties.items size (omega (arith, within)),
      )

  -- a place is tied
  pub tied_steps : StepsAt name subscriber_name next places subscribers place index port (tied place index joined) reader new_reader
      mailboxes new_mailboxes × (get_or (tied place index joined).ties.items place None ≡ Some index)
  tied_steps = (steps, ap (λ (one : PublisherPort T U). get_or one.ties.items place None) tied_is ∙ tie_here)
