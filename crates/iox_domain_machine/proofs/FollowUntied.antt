-- The connection of a subscriber that left ends, and all that waits in its mailbox is lost.
use Rattle.std.proofs.Common.{◌≡◌, ◌≢◌, ◌≤◌, ◌++◌, [], ℕ, Bool, true, false, List, get_or, set, length, map, Option, None, Some, refl}
use Rattle.std.proofs.Common.{sym, ap, subst, inl, inr, ◌∙◌, arith}
use Rattle.std.proofs.Math.Logic.{⊎_elim}
use Rattle.std.proofs.lemmas.Bool.{cases_eq, eq-eqb, ne_eqb}
use Rattle.std.proofs.lemmas.List.{get_or-set_other, get_or-set_same, length-set, map-append}
use Rattle.std.specs.Prelude.{option_map, if◌then◌else◌, ◌==◌}
use Rattle.iox_domain.proofs.DomainSlots.Counts.{times_append}
use Rattle.iox_domain.proofs.Once.{live_within}
use Rattle.iox_domain.proofs.TiedWell.{steps_untied}
use Rattle.iox_domain.specs.Container.declared.container.Member.{Member}
use Rattle.iox_domain.specs.DomainPorts.Messages.{Message}
use Rattle.iox_domain.specs.DomainPorts.Places.{leads_to}
use Rattle.iox_domain.specs.DomainPorts.Ports.{connection_of, with_connection_of, goes_on, is_live}
use Rattle.iox_domain.specs.DomainPorts.PublisherUpdating.{let_go_of, untied, is_tie_to}
use Rattle.iox_domain.specs.DomainPorts.Ties.{tie_put}
use Rattle.iox_domain.specs.DomainPorts.declared.publisher_port.PublisherPort.{PublisherPort}
use Rattle.iox_domain.specs.DomainPorts.declared.reader.Reader.{Reader}
use Rattle.iox_domain.specs.DomainPorts.declared.subscriber_entry.SubscriberEntry.{SubscriberEntry}
use Rattle.iox_domain.specs.DomainSlots.Counting.{times}
use Rattle.iox_domain.specs.DomainSlots.Uses.{Connection, nobody, ended, held_by, is_there}
use Rattle.iox_domain.specs.DomainSlots.declared.stage.Stage.TheVariants as stage
use Rattle.iox_domain.specs.PortLawsLaws.{IsTiedWell}
use Rattle.iox_domain_machine.specs.Mailboxes.{IsOnlyHeld, MailboxesStandFor, times_held}
use Rattle.iox_domain_machine.specs.Naming.{message_as, mailbox_as}
use Rattle.iox_domain_machine.proofs.FollowBoxes.{StandsAt, ChangesAt, boxes_changed}
use Rattle.iox_domain_machine.proofs.FollowSteps.{emptied, StepsAt}
use Rattle.iox_domain_machine.proofs.Found.{same_some, never_some, never_true}
use Rattle.iox_domain_machine.proofs.LeavePort.{none_set, ended_stops, ended_waiting, ended_borrowed}
use Rattle.iox_domain_machine.proofs.Quiet.{ended_quiet}
use Rattle.iox_domain_machine.proofs.ReleasePort.{differ, live_open, settles_to}
use Rattle.iox_machine.specs.Mailbox.{Mailbox}
use Rattle.iox_machine.specs.Service.{Subscriber}
use Rattle.iox_machine.specs.Table.{at}

-- all that waits in the mailbox of a name is lost
abbrev pub lost_at : {T : Type 0} → ℕ → (ℕ → Option (Mailbox T)) → ℕ → Option (Mailbox T)
lost_at its_name mailboxes other = if other == its_name then option_map emptied (mailboxes other) else mailboxes other

-- the connection of an index ends, to which a place was tied
abbrev pub cut : {T U : Type 0} → ℕ → ℕ → PublisherPort T U → PublisherPort T U
cut place index port = record (with_connection_of index (ended (connection_of index port)) port) {
  readers = set port.readers index None;
  ties = tie_put place None port.ties;
}

untied_is : {T U : Type 0} (place index : ℕ) (port : PublisherPort T U) → get_or port.ties.items place None ≡ Some index
    → is_live index port ≡ true → untied place port ≡ cut place index port
untied_is place index port tie live =
    ap (λ one. let_go_of place one port) tie
    ∙ ap (λ b. if b then cut place index port else record port { ties = tie_put place None port.ties }) live

pub untied_isn't : {T U : Type 0} (place : ℕ) (port : PublisherPort T U) → get_or port.ties.items place None ≡ None
    → untied place port ≡ port
untied_isn't place port tie = ap (λ one. let_go_of place one port) tie

pub untied_none : {T U : Type 0} (place index : ℕ) (port : PublisherPort T U) → get_or port.ties.items place None ≡ Some index
    → is_live index port ≡ true → get_or (untied place port).ties.items place None ≡ None
untied_none {T} {U} place index port tie live =
    ap (λ (one : PublisherPort T U). get_or one.ties.items place None) (untied_is place index port tie live)
    ∙ none_set port.ties.items place

module _ {T U : Type 0} (name subscriber_name reader : ℕ → ℕ) (next : ℕ) (places : List (Option (Member SubscriberEntry)))
    (subscribers : List (ℕ × Subscriber)) (place index : ℕ) (port : PublisherPort T U) (mailboxes : ℕ → Option (Mailbox T))
    (tie : get_or port.ties.items place None ≡ Some index) (well : IsTiedWell next places port)
    (boxes : MailboxesStandFor name reader subscriber_name port mailboxes subscribers)
    (silent : port.sender.uses.sending ≡ None) (size : length port.ties.items ≤ length places)
    (names_apart : (one other : ℕ) → subscriber_name one ≢ 0 → subscriber_name one ≡ subscriber_name other → one ≡ other)
    (to : Reader) (reads_to : get_or port.readers index None ≡ Some to)
    (gone : (one : Subscriber) → at (subscriber_name to.subscriber) subscribers ≡ Some one → one.stands ≡ false) where
  abbrev after : PublisherPort T U
  after = cut place index port

  abbrev was : Connection (Message T U)
  was = connection_of index port

  abbrev new_mailboxes : ℕ → Option (Mailbox T)
  new_mailboxes = lost_at (reader index) mailboxes

  live : is_live index port ≡ true
  live = well.live place index tie

  here : connection_of index after ≡ ended was
  here = get_or-set_same port.sender.uses.connections index (ended was) nobody (live_within index port live)

  elsewhere : (other : ℕ) → other ≢ index → connection_of other after ≡ connection_of other port
  elsewhere other off = get_or-set_other port.sender.uses.connections index other (ended was) nobody off

  is_name : (reader index ≡ subscriber_name to.subscriber) × (subscriber_name to.subscriber ≢ 0)
  is_name = boxes.read index to reads_to

  new_box : new_mailboxes (reader index) ≡ Some (emptied (mailbox_as name was))
  new_box =
      ap (λ b. if b then option_map emptied (mailboxes (reader index)) else mailboxes (reader index))
      (eq-eqb (reader index) (reader index) refl) ∙ ap (option_map emptied) (boxes.live index live)

  stops : is_live index after ≡ false
  stops = ap (λ (one : Connection (Message T U)). goes_on one.stage) here ∙ ended_stops was

  no_reader : get_or after.readers index None ≡ None
  no_reader = none_set port.readers index

  borrowed_here : (connection_of index after).borrowed ≡ was.borrowed
  borrowed_here = ap (λ (one : Connection (Message T U)). one.borrowed) here ∙ ended_borrowed was

  none_borrowed : is_there (connection_of index after) ≡ false → was.borrowed ≡ []
  none_borrowed isn't_there = ⊎_elim
      (λ kept. never_true (sym isn't_there ∙ ap is_there (here ∙ kept)))
      (λ none. none.1) (settles_to stage.Ended was.limit [] was.borrowed)

  held_less : (slot : ℕ) → times_held slot index after ≤ times_held slot index port
  held_less slot =
      let slot_of = λ (message : Message T U). message.slot in
      let now = ap (λ (one : Connection (Message T U)). times slot (map slot_of (held_by one))) here in
      let holds : held_by (ended was) ≡ was.borrowed =
      ap (λ waiting. waiting ++ (ended was).borrowed) (ended_waiting was) ∙ ended_borrowed was in
      omega (
        arith,
        now,
        ap (λ (all : List (Message T U)). times slot (map slot_of all)) holds,
        ap (times slot) (map-append slot_of was.waiting was.borrowed),
        times_append slot (map slot_of was.waiting) (map slot_of was.borrowed),
      )

  stands_at : StandsAt name subscriber_name after index (reader index) (new_mailboxes (reader index)) subscribers
  stands_at = record {
    live = λ is. never_true (sym stops ∙ is);
    ended = λ is. (
      emptied (mailbox_as name was),
      new_box,
      ap (map (message_as name)) (sym borrowed_here),
      refl,
      λ one is_one. gone one (ap (λ n. at n subscribers) (sym is_name.0) ∙ is_one),
    );
    quiet = λ is. subst (λ (one : Connection (Message T U)). IsOnlyHeld one) (sym here)
        (ended_quiet was (ap (λ (one : Connection (Message T U)). one.stage) (sym here) ∙ is));
    gone = λ isn't_there one is.
        let it = same_some one (emptied (mailbox_as name was)) (sym is ∙ new_box) in (
          ap (λ (box : Mailbox T). box.borrowed) it ∙ ap (map (message_as name)) (none_borrowed isn't_there),
          ap (λ (box : Mailbox T). box.waiting) it,
        );
    none = λ isn't_there whose is stands.
        never_true (sym (gone whose (ap (λ n. at n subscribers) (sym is_name.0) ∙ is)) ∙ stands);
    known = λ there. boxes.known index (live_open was.stage live);
    led = λ is. never_true (sym stops ∙ is);
    read = λ other is. never_some other (sym no_reader ∙ is);
    heard = λ other is. never_some other (sym no_reader ∙ is);
    unmet = λ is. never_true (sym stops ∙ is);
    once = λ slot. let before = boxes.once index slot in omega (arith, before, held_less slot);
  }

  free : (other : ℕ) → other ≢ place → get_or port.ties.items other None ≢ Some index
  free other off is = off (well.apart other place index is tie)

  tie_stays : (other at_place : ℕ) → other ≢ index → get_or port.ties.items at_place None ≡ Some other
      → get_or after.ties.items at_place None ≡ Some other
  tie_stays other at_place off is = elim (cases_eq at_place place) [
    | inl same ↦ absurd (off (same_some other index (sym is ∙ ap (λ n. get_or port.ties.items n None) same ∙ tie)))
    | inr apart ↦ get_or-set_other port.ties.items place at_place None None apart ∙ is
  ]

  change : ChangesAt port after reader reader mailboxes new_mailboxes index
  change = record {
    standing = refl;
    silent = silent;
    elsewhere = elsewhere;
    reads = λ other off. get_or-set_other port.readers index other None None off;
    called = λ other off. refl;
    apart = λ other off there same. off (boxes.apart other index there (live_open was.stage live) same);
    same = λ there. refl;
    others = λ other off. ap (λ b. if b then option_map emptied (mailboxes other) else mailboxes other) (ne_eqb other (reader index) off);
    ties = tie_stays;
  }

  lost_by : (b : Bool) (box : Option (Mailbox T)) → option_map emptied (if b then option_map emptied box else box) ≡ option_map emptied box
  lost_by true None = refl
  lost_by true (Some box) = refl
  lost_by false box = refl

  whose : (other : ℕ) (member : Member SubscriberEntry) → get_or places other None ≡ Some member
      → subscriber_name member.value.subscriber ≡ reader index → other ≡ place
  whose other member listed same = elim (cases_eq other place) [
    | inl at_place ↦ at_place
    | inr apart ↦
        let it : to.subscriber ≡ member.value.subscriber =
        names_apart to.subscriber member.value.subscriber is_name.1 (sym is_name.0 ∙ sym same) in
        let leads : is_tie_to member.value.subscriber (get_or port.ties.items place None) port ≡ true =
        ap (λ one. is_tie_to member.value.subscriber one port) tie ∙ ap (leads_to member.value.subscriber) reads_to
        ∙ eq-eqb to.subscriber member.value.subscriber it in
        differ (sym leads ∙ well.alone other place member listed (λ is. apart (sym is)))
  ]

  -- a place is untied
  pub untied_steps : StepsAt name subscriber_name next places subscribers place index port (untied place port) reader reader mailboxes
      new_mailboxes
  untied_steps =
      subst (λ (one : PublisherPort T U). StepsAt name subscriber_name next places subscribers place index port one reader reader mailboxes
      new_mailboxes) (sym (untied_is place index port tie live))
      (record {
        change = change;
        only = refl;
        items = λ other off. get_or-set_other port.ties.items place other None None off;
        size = omega (arith, size, length-set port.ties.items place None);
        free = free;
        borrowed = borrowed_here;
        held = λ slot none. held_less slot;
        named = λ some. refl;
        read = λ other is. never_some other (sym no_reader ∙ is);
        whose = whose;
        lost = λ other unlisted. lost_by (other == reader index) (mailboxes other);
        well = subst (λ (one : PublisherPort T U). IsTiedWell next places one) (untied_is place index port tie live)
            ((steps_untied next places place port).well well);
        boxes = boxes_changed name subscriber_name reader reader port after index mailboxes new_mailboxes subscribers boxes change
            stands_at;
      })
