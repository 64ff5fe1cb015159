-- A connection ends of which its publisher doesn't know yet: nothing waited or was borrowed there.
use Rattle.std.proofs.Common.{◌≡◌, ◌≢◌, ◌≤◌, ◌⊎◌, ◌==◌, ◌&&◌, ◌++◌, ◌∷◌, [], ℕ, Bool, true, false, List, map, get_or, Option, None}
use Rattle.std.proofs.Common.{Some, refl, sym, ap, subst, inl, inr, ◌∙◌, arith, if◌then◌else◌}
use Rattle.std.proofs.lemmas.Bool.{cases_eq, eq-eqb, ne_eqb}
use Rattle.std.proofs.lemmas.List.{get_or-set_same, get_or-set_other}
use Rattle.std.specs.Prelude.{is_some}
use Rattle.iox_domain.proofs.DomainPorts.Naming.{connection_at_by}
use Rattle.iox_domain.specs.DomainPorts.Messages.{Message}
use Rattle.iox_domain.specs.DomainPorts.MessagesSending.{slots_of, connection_by}
use Rattle.iox_domain.specs.DomainPorts.Ports.{connection_of, goes_on, is_live}
use Rattle.iox_domain.specs.DomainPorts.Publishers.{port_of}
use Rattle.iox_domain.specs.DomainPorts.declared.attached.Taken.{Taken}
use Rattle.iox_domain.specs.DomainPorts.declared.publisher_port.PublisherPort.{PublisherPort}
use Rattle.iox_domain.specs.DomainPorts.declared.reader.Reader.{Reader}
use Rattle.iox_domain.specs.DomainSlots.Counting.{times}
use Rattle.iox_domain.specs.DomainSlots.Uses.{Connection, nobody, ended, held_by, in_use, is_open, is_there, settled}
use Rattle.iox_domain.specs.DomainSlots.declared.stage.Stage.TheVariants as stage
use Rattle.iox_domain.specs.declared.ports.service_ports.ServicePorts.{ServicePorts}
use Rattle.iox_domain_machine.specs.Mailboxes.{IsOnlyHeld, MailboxesStandFor, JoinsNobody, times_held}
use Rattle.iox_domain_machine.specs.Naming.{Naming, message_as, mailbox_as}
use Rattle.iox_domain_machine.specs.Publishers.{PublisherStandsFor}
use Rattle.iox_domain_machine.specs.Standing.{StandsFor, PublisherIs}
use Rattle.iox_domain_machine.specs.Tables.{LentSlot}
use Rattle.iox_domain_machine.proofs.Changing.{all_changed, with_one}
use Rattle.iox_domain_machine.proofs.Found.{same_some, same_everywhere, never_some, never_true}
use Rattle.iox_domain_machine.proofs.Kept.{loans_kept}
use Rattle.iox_domain_machine.proofs.LeavePort.{held_each, none_set, without_reader}
use Rattle.iox_domain_machine.proofs.LeaveSamples.{samples_alike}
use Rattle.iox_domain_machine.proofs.Named.{named_less, lent_used}
use Rattle.iox_domain_machine.proofs.ReleasePort.{differ, live_open, used, within_by}
use Rattle.iox_machine.specs.Mailbox.{Mailbox}
use Rattle.iox_machine.specs.Service.{Publisher, Subscriber, Service}
use Rattle.iox_machine.specs.Table.{at}

-- ---- mailboxes that are taken away

-- The mailbox of a subscriber at a publisher is removed; it contains no waiting message, and nothing of it is borrowed.
pub record WasEmptied {T : Type 0} (subscriber publisher other : ℕ) (before after : ℕ → ℕ → Option (Mailbox T)) : Type 0 where
  pub its : other ≡ subscriber
  pub none : after publisher other ≡ None
  pub empty : (box : Mailbox T) → before publisher other ≡ Some box → (box.waiting ≡ []) × (box.borrowed ≡ [])

-- some such mailboxes of a subscriber are taken away, and the others are the same
abbrev pub AreEmptied : {T : Type 0} → ℕ → (ℕ → ℕ → Option (Mailbox T)) → (ℕ → ℕ → Option (Mailbox T)) → Type 0
AreEmptied subscriber before after =
    (publisher other : ℕ) → (after publisher other ≡ before publisher other) ⊎ WasEmptied subscriber publisher other before after

and_false : (b : Bool) → b && false ≡ false
and_false true = refl
and_false false = refl

module _ {T : Type 0} where
  -- one mailbox is taken away
  abbrev pub emptied_at : ℕ → ℕ → (ℕ → ℕ → Option (Mailbox T)) → ℕ → ℕ → Option (Mailbox T)
  emptied_at publisher subscriber mailboxes one other =
      if (one == publisher) && (other == subscriber) then None else mailboxes one other

  at_it : (publisher subscriber : ℕ) (mailboxes : ℕ → ℕ → Option (Mailbox T))
      → emptied_at publisher subscriber mailboxes publisher subscriber ≡ None
  at_it publisher subscriber mailboxes =
      ap (λ b. if b && (subscriber == subscriber) then None else mailboxes publisher subscriber) (eq-eqb publisher publisher refl)
      ∙ ap (λ b. if b then None else mailboxes publisher subscriber) (eq-eqb subscriber subscriber refl)

  pub beside_it : (publisher subscriber : ℕ) (mailboxes : ℕ → ℕ → Option (Mailbox T)) (one other : ℕ) → other ≢ subscriber
      → emptied_at publisher subscriber mailboxes one other ≡ mailboxes one other
  beside_it publisher subscriber mailboxes one other off =
      ap (λ b. if (one == publisher) && b then None else mailboxes one other) (ne_eqb other subscriber off)
      ∙ ap (λ b. if b then None else mailboxes one other) (and_false (one == publisher))

  pub apart_from_it : (publisher subscriber : ℕ) (mailboxes : ℕ → ℕ → Option (Mailbox T)) (one other : ℕ) → one ≢ publisher
      → emptied_at publisher subscriber mailboxes one other ≡ mailboxes one other
  apart_from_it publisher subscriber mailboxes one other off =
      ap (λ b. if b && (other == subscriber) then None else mailboxes one other) (ne_eqb one publisher off)

  pub here_none : (publisher subscriber : ℕ) (mailboxes : ℕ → ℕ → Option (Mailbox T)) (one other : ℕ) → one ≡ publisher
      → other ≡ subscriber → emptied_at publisher subscriber mailboxes one other ≡ None
  here_none publisher subscriber mailboxes one other same_one same_other =
      ap (λ n. emptied_at publisher subscriber mailboxes n other) same_one
      ∙ ap (λ n. emptied_at publisher subscriber mailboxes publisher n) same_other ∙ at_it publisher subscriber mailboxes

  -- none comes
  pub no_more : (publisher subscriber : ℕ) (mailboxes : ℕ → ℕ → Option (Mailbox T)) (one other : ℕ)
      → is_some (emptied_at publisher subscriber mailboxes one other) ≡ true → is_some (mailboxes one other) ≡ true
  no_more publisher subscriber mailboxes one other = by ((one == publisher) && (other == subscriber))
    where
      by : (b : Bool) → is_some (if b then (let none : Option (Mailbox T) = None in none) else mailboxes one other) ≡ true
          → is_some (mailboxes one other) ≡ true
      by true is = never_true is
      by false is = is

  pub none_emptied : (subscriber : ℕ) (mailboxes : ℕ → ℕ → Option (Mailbox T)) → AreEmptied subscriber mailboxes mailboxes
  none_emptied subscriber mailboxes publisher other = inl refl

  -- one more is taken away
  pub one_emptied : (subscriber publisher : ℕ) (before mailboxes : ℕ → ℕ → Option (Mailbox T)) → AreEmptied subscriber before mailboxes
      → ((box : Mailbox T) → mailboxes publisher subscriber ≡ Some box → (box.waiting ≡ []) × (box.borrowed ≡ []))
      → AreEmptied subscriber before (emptied_at publisher subscriber mailboxes)
  one_emptied subscriber publisher before mailboxes emptied empty one other = by (cases_eq one publisher) (cases_eq other subscriber)
    where
      unchanged : emptied_at publisher subscriber mailboxes one other ≡ mailboxes one other
          → (emptied_at publisher subscriber mailboxes one other ≡ before one other)
          ⊎ WasEmptied subscriber one other before (emptied_at publisher subscriber mailboxes)
      unchanged same = was (emptied one other)
        where
          was : (mailboxes one other ≡ before one other) ⊎ WasEmptied subscriber one other before mailboxes
              → (emptied_at publisher subscriber mailboxes one other ≡ before one other)
              ⊎ WasEmptied subscriber one other before (emptied_at publisher subscriber mailboxes)
          was (inl is) = inl (same ∙ is)
          was (inr gone) = inr (record { its = gone.its; none = same ∙ gone.none; empty = gone.empty })

      still : one ≡ publisher → other ≡ subscriber
          → (mailboxes one other ≡ before one other) ⊎ WasEmptied subscriber one other before mailboxes → (box : Mailbox T)
          → before one other ≡ Some box → (box.waiting ≡ []) × (box.borrowed ≡ [])
      still same_one same_other (inl is) box there =
          empty box (ap (λ n. mailboxes n subscriber) (sym same_one) ∙ ap (λ n. mailboxes one n) (sym same_other) ∙ is ∙ there)
      still same_one same_other (inr gone) box there = gone.empty box there

      by : (one ≡ publisher) ⊎ (one ≢ publisher) → (other ≡ subscriber) ⊎ (other ≢ subscriber)
          → (emptied_at publisher subscriber mailboxes one other ≡ before one other)
          ⊎ WasEmptied subscriber one other before (emptied_at publisher subscriber mailboxes)
      by (inl same_one) (inl same_other) = inr (record {
        its = same_other;
        none = here_none publisher subscriber mailboxes one other same_one same_other;
        empty = still same_one same_other (emptied one other);
      })
      by (inr off) apart = unchanged (apart_from_it publisher subscriber mailboxes one other off)
      by (inl same_one) (inr off) = unchanged (beside_it publisher subscriber mailboxes one other off)

-- ---- one connection of a publisher that stands

nothing_held : {X : Type 0} (xs ys : List X) → xs ++ ys ≡ [] → (xs ≡ []) × (ys ≡ [])
nothing_held [] ys is = (refl, is)
nothing_held (x ∷ xs) ys is = cc

module _ {T U : Type 0} (index : ℕ) (port : PublisherPort T U) (live : is_live index port ≡ true)
    (none_held : held_by (connection_of index port) ≡ []) where
  abbrev pub over : PublisherPort T U
  over = without_reader index port

  abbrev its : Connection (Message T U)
  its = connection_of index port

  nothing : (its.waiting ≡ []) × (its.borrowed ≡ [])
  nothing = nothing_held its.waiting its.borrowed none_held

  -- there is none there any longer
  pub is_over : connection_of index over ≡ nobody
  is_over =
      get_or-set_same port.sender.uses.connections index (ended its) nobody (within_by port.sender.uses.connections index
      (λ none. differ (sym live ∙ ap (λ (connection : Connection (Message T U)). goes_on connection.stage) none)))
      ∙ ap (λ (borrowed : List (Message T U)). settled stage.Ended its.limit [] borrowed) nothing.1

  pub unread : get_or over.readers index None ≡ None
  unread = none_set port.readers index

  -- and all others are as they were
  pub stays : (other : ℕ) → other ≢ index → connection_of other over ≡ connection_of other port
  stays other off = get_or-set_other port.sender.uses.connections index other (ended its) nobody off

  pub reads : (other : ℕ) → other ≢ index → get_or over.readers other None ≡ get_or port.readers other None
  reads other off = get_or-set_other port.readers index other None None off

  not_here : (other : ℕ) → is_there (connection_of other over) ≡ true → other ≢ index
  not_here other there same =
      differ (sym there ∙ ap (λ i. is_there (connection_of i over)) same
      ∙ ap (λ (one : Connection (Message T U)). is_there one) is_over)

  not_live : (other : ℕ) → is_live other over ≡ true → other ≢ index
  not_live other is same =
      differ (sym is ∙ ap (λ i. is_live i over) same ∙ ap (λ (one : Connection (Message T U)). goes_on one.stage) is_over)

  not_ended : (other : ℕ) → (connection_of other over).stage ≡ stage.Ended → other ≢ index
  not_ended other is = not_here other (ap is_open is)

  not_read : (other : ℕ) (to : Reader) → get_or over.readers other None ≡ Some to → other ≢ index
  not_read other to is same = never_some to (sym unread ∙ ap (λ i. get_or over.readers i None) (sym same) ∙ is)

  abbrev slot_of : Message T U → ℕ
  slot_of message = message.slot

  less : (slot other : ℕ) → (other ≡ index) ⊎ (other ≢ index)
      → times slot (held_by (connection_by slot_of (connection_of other over)))
      ≤ times slot (held_by (connection_by slot_of (connection_of other port)))
  less slot other (inl same) =
      let none : times slot (held_by (connection_by slot_of (connection_of other over))) ≡ 0
      = ap (λ i. times slot (held_by (connection_by slot_of (connection_of i over)))) same
      ∙ ap (λ (one : Connection (Message T U)). times slot (held_by (connection_by slot_of one))) is_over in
      omega (arith, none)
  less slot other (inr off) =
      let same = ap (λ (one : Connection (Message T U)). times slot (held_by (connection_by slot_of one))) (stays other off) in
      omega (arith, same)

  fewer_used : (slot : ℕ) → times slot (in_use (slots_of over.sender)) ≤ times slot (in_use (slots_of port.sender))
  fewer_used slot =
      let fewer = held_each slot (slots_of over.sender).connections (slots_of port.sender).connections
      (λ other.
      let now = ap (λ (one : Connection ℕ). times slot (held_by one))
      (connection_at_by (λ loan. loan.slot) slot_of other over.sender.uses) in
      let before = ap (λ (one : Connection ℕ). times slot (held_by one))
      (connection_at_by (λ loan. loan.slot) slot_of other port.sender.uses) in
      omega (arith, now, before, less slot other (cases_eq other index))) in
      omega (arith, fewer, used slot (slots_of over.sender), used slot (slots_of port.sender))

  pub over_port : (name reader : ℕ → ℕ) (most : ℕ) (publisher : Publisher T) → PublisherStandsFor name reader most port publisher
      → PublisherStandsFor name reader most over publisher
  over_port name reader most publisher is = record {
    factory = is.factory;
    stands = is.stands;
    max_loaned_samples = is.max_loaned_samples;
    allocation = is.allocation;
    slots = is.slots;
    room = is.room;
    segments = is.segments;
    last_sequence = is.last_sequence;
    history = is.history;
    once = is.once;
    seen = is.seen;
    connected = is.connected;
    ties = is.ties;
    blocked = is.blocked;
    left = is.left;
    named = named_less name (slots_of port.sender) (slots_of over.sender) publisher.first publisher.next refl refl fewer_used
        (λ slot. omega arith) (λ slot. lent_used (slots_of over.sender) slot) is.named;
    unit = is.unit;
    most_segments = is.most_segments;
    ample = is.ample;
  }

  pub same_borrowed : (other : ℕ) → (connection_of other over).borrowed ≡ (connection_of other port).borrowed
  same_borrowed other = by (cases_eq other index)
    where
      by : (other ≡ index) ⊎ (other ≢ index) → (connection_of other over).borrowed ≡ (connection_of other port).borrowed
      by (inl same) =
          ap (λ i. (connection_of i over).borrowed) same ∙ ap (λ (one : Connection (Message T U)). one.borrowed) is_over
          ∙ sym nothing.1 ∙ ap (λ i. (connection_of i port).borrowed) (sym same)
      by (inr off) = ap (λ (one : Connection (Message T U)). one.borrowed) (stays other off)

  module _ (name reader subscriber : ℕ → ℕ) (mailboxes after : ℕ → Option (Mailbox T)) (subscribers : List (ℕ × Subscriber))
      (boxes : MailboxesStandFor name reader subscriber port mailboxes subscribers)
      (none : after (reader index) ≡ None) (beside : (other : ℕ) → other ≢ reader index → after other ≡ mailboxes other)
      (untied : (place : ℕ) → get_or port.ties.items place None ≢ Some index) where
    there : is_there its ≡ true
    there = live_open its.stage live

    there_before : (other : ℕ) → is_there (connection_of other over) ≡ true → is_there (connection_of other port) ≡ true
    there_before other is =
        ap (λ (one : Connection (Message T U)). is_there one) (sym (stays other (not_here other is))) ∙ is

    -- another connection is that of another subscriber
    other_reader : (other : ℕ) → other ≢ index → is_there (connection_of other port) ≡ true → reader other ≢ reader index
    other_reader other off is same = off (boxes.apart other index is there same)

    joins_before : (other : ℕ) → other ≢ reader index → JoinsNobody reader other over → JoinsNobody reader other port
    joins_before other off joins i is same = by (cases_eq i index)
      where
        by : (i ≡ index) ⊎ (i ≢ index) → ⊥
        by (inl here) = off (sym same ∙ ap reader here)
        by (inr apart) = joins i (ap (λ (one : Connection (Message T U)). is_there one) (stays i apart) ∙ is) same

    live_there : (other : ℕ) → is_live other over ≡ true → is_live other port ≡ true
    live_there other is =
        ap (λ (one : Connection (Message T U)). goes_on one.stage) (sym (stays other (not_live other is))) ∙ is

    others : (other : ℕ) → JoinsNobody reader other over → (box : Mailbox T) → after other ≡ Some box
        → (other ≡ reader index) ⊎ (other ≢ reader index) → (box.borrowed ≡ []) × (port.stands ≡ true → box.waiting ≡ [])
    others other joins box is (inl same) = never_some box (sym (ap after same ∙ none) ∙ is)
    others other joins box is (inr off) = boxes.others other (joins_before other off joins) box (sym (beside other off) ∙ is)

    has_none : (other : ℕ) → JoinsNobody reader other over → port.stands ≡ true → (one : Subscriber) → at other subscribers ≡ Some one
        → one.stands ≡ true → (other ≡ reader index) ⊎ (other ≢ reader index) → after other ≡ None
    has_none other joins standing one is stands (inl same) = ap after same ∙ none
    has_none other joins standing one is stands (inr off) =
        beside other off ∙ boxes.none other (joins_before other off joins) standing one is stands

    held_less : (other slot : ℕ) → (other ≡ index) ⊎ (other ≢ index) → times_held slot other over ≤ times_held slot other port
    held_less other slot (inl same) =
        let nothing_there : times_held slot other over ≡ 0
        = ap (λ i. times_held slot i over) same
        ∙ ap (λ (one : Connection (Message T U)). times slot (map slot_of (held_by one))) is_over in
        omega (arith, nothing_there)
    held_less other slot (inr off) =
        let same : times_held slot other over ≡ times_held slot other port
        = ap (λ (one : Connection (Message T U)). times slot (map slot_of (held_by one))) (stays other off) in
        omega (arith, same)

    pub over_boxes : MailboxesStandFor name reader subscriber over after subscribers
    over_boxes = record {
      live = λ other is.
          let off = not_live other is in
          beside (reader other) (other_reader other off (live_open (connection_of other port).stage (live_there other is)))
          ∙ boxes.live other (live_there other is)
          ∙ ap (λ (one : Connection (Message T U)). Some (mailbox_as name one)) (sym (stays other off));
      ended = λ other is.
          let off = not_ended other is in
          let is_before = ap (λ (one : Connection (Message T U)). one.stage) (sym (stays other off)) ∙ is in
          let before = boxes.ended other is_before in (
            before.0,
            beside (reader other) (other_reader other off (ap is_open is_before)) ∙ before.1,
            before.2 ∙ ap (λ (one : Connection (Message T U)). map (message_as name) one.borrowed) (sym (stays other off)),
            before.3,
          );
      quiet = λ other is.
          let off = not_ended other is in
          subst (λ (one : Connection (Message T U)). IsOnlyHeld one) (sym (stays other off))
          (boxes.quiet other (ap (λ (one : Connection (Message T U)). one.stage) (sym (stays other off)) ∙ is));
      others = λ other joins box is. others other joins box is (cases_eq other (reader index));
      none = λ other joins standing one is stands. has_none other joins standing one is stands (cases_eq other (reader index));
      known = λ other is. boxes.known other (there_before other is);
      apart = λ one other is is_other same. boxes.apart one other (there_before one is) (there_before other is_other) same;
      led = λ other is. ap is_some (reads other (not_live other is)) ∙ boxes.led other (live_there other is);
      read = λ other to is. boxes.read other to (sym (reads other (not_read other to is)) ∙ is);
      heard = λ other to is.
          let off = not_read other to is in
          ap (λ (one : Connection (Message T U)). goes_on one.stage) (stays other off) ∙ boxes.heard other to (sym (reads other off) ∙ is);
      unmet = λ standing other is alone.
          ap (λ (one : Connection (Message T U)). held_by one) (stays other (not_live other is))
          ∙ boxes.unmet standing other (live_there other is) alone;
      once = λ other slot. let before = boxes.once other slot in omega (arith, before, held_less other slot (cases_eq other index));
      due = λ message sending place other from tie.
          let before = boxes.due message sending place other from tie in
          omega (arith, before, held_less other message.slot (cases_eq other index));
    }

-- ---- the ports of a service

module _ {T U : Type 0} (names : Naming) (lent : List (ℕ × LentSlot)) (held : List (ℕ × Taken)) (buffer : ℕ) (old : ServicePorts T U)
    (service : Service T) (number index : ℕ) (port : PublisherPort T U) (stands : StandsFor names lent held buffer old service)
    (there : port_of number old.publishers ≡ Some port) where
  abbrev was : PublisherIs names old service number port
  was = stands.publishers number port there

  abbrev name : ℕ
  name = names.publisher number

  -- the machine's service is the same where a publisher is as it was
  pub same_stands : StandsFor names lent held buffer (with_one number port old) service
  same_stands =
      all_changed names names.message lent lent held held buffer old service number port port was.0 service.publishers service.loans
      service.samples service.mailboxes old.subscribers stands there (λ other off. refl) was.1 (λ other off. refl) was.2 was.3
      (λ other off. refl) (λ one other is. is) (λ other. refl) stands.once_subscribers refl refl refl (stands.keyed number port there)
      (loans_kept number port port old there names lent service.loans refl stands.loans)
      (samples_alike names held old number port port there (λ i. refl) service.samples stands.samples)

  module _ (live : is_live index port ≡ true) (standing : port.stands ≡ true)
      (untied : (place : ℕ) → get_or port.ties.items place None ≢ Some index) where
    pub none_held : held_by (connection_of index port) ≡ []
    none_held = was.3.unmet standing index live untied

    abbrev gone : PublisherPort T U
    gone = over index port live none_held

    abbrev mailboxes : ℕ → ℕ → Option (Mailbox T)
    mailboxes = emptied_at name (names.reader number index) service.mailboxes

    -- nothing waited in its mailbox, and of it nothing was borrowed
    pub was_empty : (box : Mailbox T) → service.mailboxes name (names.reader number index) ≡ Some box
        → (box.waiting ≡ []) × (box.borrowed ≡ [])
    was_empty box is =
        let it : box ≡ mailbox_as (names.message number) (connection_of index port)
        = same_some box (mailbox_as (names.message number) (connection_of index port)) (sym is ∙ was.3.live index live) in
        let none = nothing index port live none_held in (
          ap (λ (one : Mailbox T). one.waiting) it ∙ ap (map (message_as (names.message number))) none.0,
          ap (λ (one : Mailbox T). one.borrowed) it ∙ ap (map (message_as (names.message number))) none.1,
        )

    -- where the connection ends its mailbox is taken away
    pub unmet_stands : StandsFor names lent held buffer (with_one number gone old) (record service { mailboxes = mailboxes })
    unmet_stands =
        all_changed names names.message lent lent held held buffer old service number port gone was.0 service.publishers service.loans
        service.samples mailboxes old.subscribers stands there (λ other off. refl) was.1 (λ other off. refl)
        (over_port index port live none_held (names.message number) (names.reader number) old.sizes.max_subscribers was.0 was.2)
        (over_boxes index port live none_held (names.message number) (names.reader number) names.subscriber (service.mailboxes name)
        (mailboxes name) service.subscribers was.3
        (here_none name (names.reader number index) service.mailboxes name (names.reader number index) refl refl)
        (λ other off. beside_it name (names.reader number index) service.mailboxes name other off) untied)
        (λ other off. same_everywhere (mailboxes other) (service.mailboxes other)
        (λ one. apart_from_it name (names.reader number index) service.mailboxes other one off))
        (no_more name (names.reader number index) service.mailboxes) (λ other. refl) stands.once_subscribers refl refl refl
        (λ i to is attached. stands.keyed number port there i to
        (sym (reads index port live none_held i (not_read index port live none_held i to is)) ∙ is) attached)
        (loans_kept number port gone old there names lent service.loans refl stands.loans)
        (samples_alike names held old number port gone there (same_borrowed index port live none_held) service.samples stands.samples)

-- ---- the mailboxes are put back

module _ {T U : Type 0} (name reader subscriber_name : ℕ → ℕ) (port : PublisherPort T U) (its_name publisher : ℕ)
    (before after : ℕ → ℕ → Option (Mailbox T)) (subscribers : List (ℕ × Subscriber)) (gone : Subscriber)
    (emptied : AreEmptied its_name before after) (there : at its_name subscribers ≡ Some gone) (gone_so : gone.stands ≡ false)
    (boxes : MailboxesStandFor name reader subscriber_name port (after publisher) subscribers) where
  box_back : (other : ℕ) (box : Mailbox T) → after publisher other ≡ Some box → before publisher other ≡ Some box
  box_back other box is = by (emptied publisher other)
    where
      by : (after publisher other ≡ before publisher other) ⊎ WasEmptied its_name publisher other before after
          → before publisher other ≡ Some box
      by (inl same) = sym same ∙ is
      by (inr none) = never_some box (sym none.none ∙ is)

  others_back : (other : ℕ) → JoinsNobody reader other port → (box : Mailbox T) → before publisher other ≡ Some box
      → (after publisher other ≡ before publisher other) ⊎ WasEmptied its_name publisher other before after
      → (box.borrowed ≡ []) × (port.stands ≡ true → box.waiting ≡ [])
  others_back other joins box is (inl same) = boxes.others other joins box (same ∙ is)
  others_back other joins box is (inr none) = let empty = none.empty box is in (empty.1, λ standing. empty.0)

  none_back : (other : ℕ) → JoinsNobody reader other port → port.stands ≡ true → (one : Subscriber) → at other subscribers ≡ Some one
      → one.stands ≡ true → (after publisher other ≡ before publisher other) ⊎ WasEmptied its_name publisher other before after
      → before publisher other ≡ None
  none_back other joins standing one is stands (inl same) = sym same ∙ boxes.none other joins standing one is stands
  none_back other joins standing one is stands (inr none) =
      let it : one ≡ gone = same_some one gone (sym is ∙ ap (λ n. at n subscribers) none.its ∙ there) in
      differ (sym stands ∙ ap (λ (found : Subscriber). found.stands) it ∙ gone_so)

  boxes_back : MailboxesStandFor name reader subscriber_name port (before publisher) subscribers
  boxes_back = record {
    live = λ index is. box_back (reader index) (mailbox_as name (connection_of index port)) (boxes.live index is);
    ended = λ index is.
        let was = boxes.ended index is in (was.0, box_back (reader index) was.0 was.1, was.2, was.3);
    quiet = boxes.quiet;
    others = λ other joins box is. others_back other joins box is (emptied publisher other);
    none = λ other joins standing one is stands. none_back other joins standing one is stands (emptied publisher other);
    known = boxes.known;
    apart = boxes.apart;
    led = boxes.led;
    read = boxes.read;
    heard = boxes.heard;
    unmet = boxes.unmet;
    once = boxes.once;
    due = boxes.due;
  }

module _ {T U : Type 0} (names : Naming) (lent : List (ℕ × LentSlot)) (held : List (ℕ × Taken)) (buffer : ℕ) (ports : ServicePorts T U)
    (service : Service T) (mailboxes : ℕ → ℕ → Option (Mailbox T)) (name : ℕ) (gone : Subscriber)
    (stands : StandsFor names lent held buffer ports (record service { mailboxes = mailboxes }))
    (emptied : AreEmptied name service.mailboxes mailboxes) (there : at name service.subscribers ≡ Some gone)
    (gone_so : gone.stands ≡ false)
    (joined : (one other : ℕ) → is_some (service.mailboxes one other) ≡ true → is_some (at one service.publishers) ≡ true) where
  joins_back : (one other : ℕ) → is_some (service.mailboxes one other) ≡ true
      → (mailboxes one other ≡ service.mailboxes one other) ⊎ WasEmptied name one other service.mailboxes mailboxes
      → (is_some (at one service.publishers) ≡ true) × (is_some (at other service.subscribers) ≡ true)
  joins_back one other is (inl same) = stands.joined one other (ap is_some same ∙ is)
  joins_back one other is (inr none) =
      (joined one other is, ap (λ n. is_some (at n service.subscribers)) none.its ∙ ap is_some there)

  -- once the subscriber left its mailboxes may be put back
  pub put_back : StandsFor names lent held buffer ports service
  put_back = record {
    sizes = stands.sizes;
    publisher_list = stands.publisher_list;
    subscriber_list = stands.subscriber_list;
    named_publishers = stands.named_publishers;
    named_subscribers = stands.named_subscribers;
    unnamed = stands.unnamed;
    publishers = λ number port is.
        let before = stands.publishers number port is in (
          before.0,
          before.1,
          before.2,
          boxes_back (names.message number) (names.reader number) names.subscriber port name (names.publisher number)
              service.mailboxes mailboxes service.subscribers gone emptied there gone_so before.3,
        );
    listed = stands.listed;
    present = stands.present;
    gone_publishers = stands.gone_publishers;
    numbered = stands.numbered;
    once = stands.once;
    once_subscribers = stands.once_subscribers;
    keyed = stands.keyed;
    subscribers = stands.subscribers;
    gone_subscribers = stands.gone_subscribers;
    listed_subscribers = stands.listed_subscribers;
    present_subscribers = stands.present_subscribers;
    sized = stands.sized;
    joined = λ one other is. joins_back one other is (emptied one other);
    loans = stands.loans;
    samples = stands.samples;
  }
