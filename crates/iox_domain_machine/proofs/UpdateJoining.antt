-- A connection of a publisher and a subscriber is made, and the subscriber reads there.
use Rattle.std.proofs.Common.{◌≡◌, ◌≢◌, ◌≤◌, ◌<◌, ◌⊎◌, ◌+◌, ◌∷◌, [], ◌++◌, ◌&&◌, ◌==◌, ℕ, zero, suc, Bool, true, false, cond, List}
use Rattle.std.proofs.Common.{length, map, get_or, set, nat_lt, Option, None, Some, Ok, refl, sym, ap, subst, inl, inr, ◌∙◌, arith}
use Rattle.std.proofs.lemmas.Bool.{cases_eq, eq-eqb, eqb-true, ne_eqb}
use Rattle.std.proofs.lemmas.List.{get_or-set_same, get_or-set_other, get_or_past, get_or_push}
use Rattle.std.proofs.lemmas.List.Sums.{fails_before_first}
use Rattle.std.specs.List.{position, position_or_len}
use Rattle.std.specs.Prelude.{filter, is_some, option_map, if◌then◌else◌}
use Rattle.iox_domain.proofs.DomainPorts.Naming.{placed_by}
use Rattle.iox_domain.proofs.DomainSlots.Counts.{times_append}
use Rattle.iox_domain.proofs.TiedWell.{still_there, long_enough}
use Rattle.iox_domain.proofs.TiedUpdates.{MadeAt, connects_made}
use Rattle.iox_domain.specs.DomainPorts.Messages.{Message}
use Rattle.iox_domain.specs.DomainPorts.MessagesSending.{slots_of}
use Rattle.iox_domain.specs.DomainPorts.Places.{reached, leads_to}
use Rattle.iox_domain.specs.DomainPorts.Ports.{connection_of, connection_to, goes_on, is_live, with_connections, attached_at, Connects}
use Rattle.iox_domain.specs.DomainPorts.Publishers.{port_of, connection_at_port}
use Rattle.iox_domain.specs.DomainPorts.Subscribing as subscribing
use Rattle.iox_domain.specs.DomainPorts.declared.attached.Taken.{Taken}
use Rattle.iox_domain.specs.DomainPorts.declared.publisher_port.PublisherPort.{PublisherPort}
use Rattle.iox_domain.specs.DomainPorts.declared.reader.Reader.{Reader}
use Rattle.iox_domain.specs.DomainPorts.declared.subscriber_port.SubscriberPort.{SubscriberPort}
use Rattle.iox_domain.specs.DomainSlots.Counting.{times}
use Rattle.iox_domain.specs.DomainSlots.Uses.{Connection, nobody, connected, placed, held, held_by, in_use, is_there, is_open}
use Rattle.iox_domain.specs.DomainSlots.declared.stage.Stage.{Stage}
use Rattle.iox_domain.specs.DomainSlots.declared.stage.Stage.TheVariants as stage
use Rattle.iox_domain.specs.Subscribers.{subscriber_of}
use Rattle.iox_domain.specs.declared.ports.service_ports.ServicePorts.{ServicePorts}
use Rattle.iox_domain_machine.specs.Mailboxes.{IsOnlyHeld, MailboxesStandFor, IsKeyed, JoinsNobody, times_held}
use Rattle.iox_domain_machine.specs.Naming.{Naming, with_name, mailbox_as, message_as}
use Rattle.iox_domain_machine.specs.Publishers.{PublisherStandsFor}
use Rattle.iox_domain_machine.specs.Standing.{StandsFor, PublisherIs}
use Rattle.iox_domain_machine.specs.Tables.{LentSlot, LoansStandFor, SamplesStandFor, slots_held_of}
use Rattle.iox_domain_machine.proofs.Changing.{with_one, not_zero}
use Rattle.iox_domain_machine.proofs.Found.{same_some, never_true, same_everywhere}
use Rattle.iox_domain_machine.proofs.Kept.{loans_kept, samples_kept}
use Rattle.iox_domain_machine.proofs.LeaveSamples.{samples_alike}
use Rattle.iox_domain_machine.proofs.Named.{named_less, lent_used}
use Rattle.iox_domain_machine.proofs.ReleasePort.{used}
use Rattle.iox_domain_machine.proofs.UpdatePublisher.{publisher_changed}
use Rattle.iox_machine.specs.Mailbox.{Mailbox}
use Rattle.iox_machine.specs.Service.{Service, Subscriber, with_mailbox}
use Rattle.iox_machine.specs.Table.{at}

-- where none is found that leads to a subscriber, none does
pub nobody_leads : (subscriber : ℕ) (readers : List (Option Reader)) → position (leads_to subscriber) readers ≡ None → (index : ℕ)
    → leads_to subscriber (get_or readers index None) ≡ false
nobody_leads subscriber readers none index = by (nat_lt (position_or_len (leads_to subscriber) readers) (length readers)) refl
  where
    by : (found : Bool) → nat_lt (position_or_len (leads_to subscriber) readers) (length readers) ≡ found
        → leads_to subscriber (get_or readers index None) ≡ false
    by true is =
        let no : Some (position_or_len (leads_to subscriber) readers) ≡ None =
        sym (ap (λ b. cond b (Some (position_or_len (leads_to subscriber) readers)) None) is) ∙ none in
        cc
    by false is = within (nat_lt index (length readers)) refl
      where
        within : (there : Bool) → nat_lt index (length readers) ≡ there → leads_to subscriber (get_or readers index None) ≡ false
        within true below = fails_before_first (leads_to subscriber) readers index None (grind (arith, is, below))
        within false past = ap (leads_to subscriber) (get_or_past readers index None (grind (arith, past)))

-- who reads where a connection leads to a subscriber
pub leads_some : (subscriber : ℕ) (to : Option Reader) → leads_to subscriber to ≡ true
    → (found : Reader) × (to ≡ Some found) × (found.subscriber ≡ subscriber)
leads_some subscriber None is = never_true is
leads_some subscriber (Some to) is = (to, refl, eqb-true to.subscriber subscriber is)

pub leads_within : (subscriber : ℕ) (readers : List (Option Reader)) (index : ℕ) → leads_to subscriber (get_or readers index None) ≡ true
    → index < length readers
leads_within subscriber [] index is = never_true is
leads_within subscriber (reader ∷ readers) zero is = omega arith
leads_within subscriber (reader ∷ readers) (suc index) is = omega (arith, leads_within subscriber readers index is)

-- a connection that came
placed_at : {X : Type 0} (connections : List (Connection X)) (index : ℕ) (connection : Connection X) → index ≤ length connections
    → get_or (placed index connection connections) index nobody ≡ connection
placed_at {X} connections index connection within = by (index == length connections) refl
  where
    by : (last : Bool) → (index == length connections) ≡ last
        → get_or (if last then connections ++ connection ∷ [] else set connections index connection) index nobody ≡ connection
    by true is = get_or_push connections connection nobody index (sym (eqb-true index (length connections) is))
    by false is = get_or-set_same connections index connection nobody (omega (
      arith,
      within,
      λ (same : index ≡ length connections).
          never_true {A = ⊥} (sym is ∙ eq-eqb index (length connections) same),
    ))

nothing_behind : (connections : List (Connection ℕ)) (limit slot : ℕ)
    → times slot (held (connections ++ connected limit ∷ [])) ≡ times slot (held connections)
nothing_behind [] limit slot = refl
nothing_behind (first ∷ rest) limit slot = omega (
  arith,
  nothing_behind rest limit slot,
  times_append slot (held_by first) (held rest),
  times_append slot (held_by first) (held (rest ++ connected limit ∷ [])),
)

nothing_there : (connections : List (Connection ℕ)) (index limit slot : ℕ)
    → times slot (held (set connections index (connected limit))) ≤ times slot (held connections)
nothing_there [] index limit slot = omega arith
nothing_there (first ∷ rest) zero limit slot = omega (arith, times_append slot (held_by first) (held rest))
nothing_there (first ∷ rest) (suc index) limit slot = omega (
  arith,
  nothing_there rest index limit slot,
  times_append slot (held_by first) (held rest),
  times_append slot (held_by first) (held (set rest index (connected limit))),
)

placed_holds : (connections : List (Connection ℕ)) (index limit slot : ℕ)
    → times slot (held (placed index (connected limit) connections)) ≤ times slot (held connections)
placed_holds connections index limit slot = by (index == length connections)
  where
    by : (last : Bool)
        → times slot (held (if last then connections ++ connected limit ∷ [] else set connections index (connected limit)))
        ≤ times slot (held connections)
    by true = omega (arith, nothing_behind connections limit slot)
    by false = nothing_there connections index limit slot

-- where all at places have the same name by two namings
same_names : (one other : ℕ → ℕ) (places : List (Option ℕ))
    → ((place index : ℕ) → get_or places place None ≡ Some index → one index ≡ other index)
    → map (option_map one) places ≡ map (option_map other) places
same_names one other [] same = refl
same_names one other (None ∷ places) same = ap (λ rest. None ∷ rest) (same_names one other places (λ place. same (suc place)))
same_names one other (Some index ∷ places) same =
    ap (λ n. Some n ∷ map (option_map one) places) (same zero index refl)
    ∙ ap (λ rest. Some (other index) ∷ rest) (same_names one other places (λ place. same (suc place)))

-- where no element passes a test
none_pass : {X Y : Type 0} (test : X → Bool) (f : X → Y) (xs : List X) → map f (filter test xs) ≡ [] → (place : ℕ) (d : X)
    → place < length xs → test (get_or xs place d) ≡ false
none_pass test f [] none place d within = absurd (omega (arith, within))
none_pass {X} {Y} test f (x ∷ xs) none place d within = by (test x) refl place within (λ so at_place. none_pass test f xs so at_place d)
  where
    by : (b : Bool) → test x ≡ b → (place : ℕ) → place < length (x ∷ xs)
        → (map f (filter test xs) ≡ [] → (at_place : ℕ) → at_place < length xs → test (get_or xs at_place d) ≡ false)
        → test (get_or (x ∷ xs) place d) ≡ false
    by true is place within rest =
        let no : f x ∷ map f (filter test xs) ≡ [] =
        sym (ap (λ b. map f (if b then x ∷ filter test xs else filter test xs)) is) ∙ none in
        cc
    by false is zero within rest = is
    by false is (suc place) within rest =
        rest (sym (ap (λ b. map f (if b then x ∷ filter test xs else filter test xs)) is) ∙ none) place (omega (arith, within))

module _ {T U : Type 0} (names : Naming) (lent : List (ℕ × LentSlot)) (held_so : List (ℕ × Taken)) (buffer : ℕ) (old : ServicePorts T U)
    (service : Service T) (number subscriber : ℕ) (port joined : PublisherPort T U) (one : Subscriber)
    (stands : StandsFor names lent held_so buffer old service) (there : port_of number old.publishers ≡ Some port)
    (standing : port.stands ≡ true) (one_there : at (names.subscriber subscriber) service.subscribers ≡ Some one)
    (one_stands : one.stands ≡ true) where
  abbrev its : ℕ
  its = names.subscriber subscriber

  abbrev was : PublisherIs names old service number port
  was = stands.publishers number port there

  boxes : MailboxesStandFor (names.message number) (names.reader number) names.subscriber port
      (service.mailboxes (names.publisher number)) service.subscribers
  boxes = was.3

  its_named : its ≢ 0
  its_named = not_zero names.subscriber its one service.subscribers stands.named_subscribers one_there

  -- no connection is that of a subscriber to which none leads
  pub lone : connection_to subscriber port ≡ None → JoinsNobody (names.reader number) its port
  lone none index is same = by (connection_of index port).stage refl
    where
      reads : (to : Option Reader) → get_or port.readers index None ≡ to → is_some to ≡ true → ⊥
      reads None nothing some = never_true some
      reads (Some to) led some =
          let read = boxes.read index to led in
          let own : subscriber ≡ to.subscriber = stands.named_subscribers.apart subscriber to.subscriber its_named (sym same ∙ read.0) in
          never_true (sym (nobody_leads subscriber port.readers none index) ∙ ap (leads_to subscriber) led
          ∙ eq-eqb to.subscriber subscriber (sym own))

      by : (now : Stage) → (connection_of index port).stage ≡ now → ⊥
      by stage.Vacant now = never_true (sym (ap is_open now) ∙ is)
      by stage.Live now = reads (get_or port.readers index None) refl (boxes.led index (ap goes_on now))
      by stage.Ended now = never_true (sym
          (((boxes.ended index now).3 standing).1 one (ap (λ n. at n service.subscribers) same ∙ one_there))
          ∙ one_stands)

  -- so they have no mailbox
  pub no_box : connection_to subscriber port ≡ None → service.mailboxes (names.publisher number) its ≡ None
  no_box none = boxes.none its (lone none) standing one one_there one_stands

  module _ (limit index : ℕ) (none : connection_to subscriber port ≡ None)
      (live_ties : (place tied : ℕ) → get_or port.ties.items place None ≡ Some tied → is_live tied port ≡ true)
      (connects : Connects limit (record { subscriber = subscriber; attached = false }) port (Ok index) joined) where
    made : MadeAt subscriber index port joined
    made = connects_made subscriber limit index false port joined connects

    is : joined ≡ record (with_connections (placed index (connected limit) port.sender.uses.connections) port) { readers = joined.readers }
    is = connects.2 ∙ ap (λ readers. record
        (with_connections (placed index (connected limit) port.sender.uses.connections) port) { readers = readers })
        (sym (ap (λ (it : PublisherPort T U). it.readers) connects.2))

    here : connection_of index joined ≡ connected limit
    here = ap (connection_of index) connects.2 ∙ placed_at port.sender.uses.connections index (connected limit) connects.1

    abbrev reader : ℕ → ℕ → ℕ
    reader = with_name number (with_name index its (names.reader number)) names.reader

    abbrev box : Mailbox T
    box = record { limit = limit; waiting = []; borrowed = [] }

    abbrev service_after : Service T
    service_after = with_mailbox (names.publisher number) its box service

    reads_at : reader number ≡ with_name index its (names.reader number)
    reads_at = ap (λ b. if b then with_name index its (names.reader number) else names.reader number) (eq-eqb number number refl)

    reads_other : (other : ℕ) → other ≢ number → reader other ≡ names.reader other
    reads_other other off = ap (λ b. if b then with_name index its (names.reader number) else names.reader other) (ne_eqb other number off)

    abbrev reader_here : ℕ → ℕ
    reader_here = with_name index its (names.reader number)

    its_reader : reader_here index ≡ its
    its_reader = ap (λ b. if b then its else names.reader number index) (eq-eqb index index refl)

    same_reader : (other : ℕ) → other ≢ index → reader_here other ≡ names.reader number other
    same_reader other off = ap (λ b. if b then its else names.reader number other) (ne_eqb other index off)

    vacant : (other : ℕ) → is_there (connection_of other port) ≡ true → other ≢ index
    vacant other so same = never_true (sym (ap (λ (c : Connection (Message T U)). is_there c)
        (ap (λ n. connection_of n port) same ∙ connects.0)) ∙ so)

    not_live : (other : ℕ) → is_live other port ≡ true → other ≢ index
    not_live other so same = never_true (sym (ap (λ (c : Connection (Message T U)). goes_on c.stage)
        (ap (λ n. connection_of n port) same ∙ connects.0)) ∙ so)

    -- a connection that is there now is the one that came, or was there
    there_before : (other : ℕ) → other ≢ index → is_there (connection_of other joined) ≡ true → is_there (connection_of other port) ≡ true
    there_before other off so = ap is_there (sym (made.others other off)) ∙ so

    now_here : is_there (connection_of index joined) ≡ true
    now_here = ap is_there here

    now_box : service_after.mailboxes (names.publisher number) its ≡ Some box
    now_box =
        ap (λ b. if b && (its == its) then Some box else service.mailboxes (names.publisher number) its)
        (eq-eqb (names.publisher number) (names.publisher number) refl)
        ∙ ap (λ b. if b then Some box else service.mailboxes (names.publisher number) its) (eq-eqb its its refl)

    and_false : (b : Bool) → (b && false) ≡ false
    and_false true = refl
    and_false false = refl

    same_box : (other : ℕ) → other ≢ its
        → service_after.mailboxes (names.publisher number) other ≡ service.mailboxes (names.publisher number) other
    same_box other off =
        ap (λ b. if (names.publisher number == names.publisher number) && b then Some box
        else service.mailboxes (names.publisher number) other) (ne_eqb other its off)
        ∙ ap (λ b. if b then Some box else service.mailboxes (names.publisher number) other) (and_false
        (names.publisher number == names.publisher number))

    other_boxes : (other : ℕ) → other ≢ names.publisher number → service_after.mailboxes other ≡ service.mailboxes other
    other_boxes other off = same_everywhere (service_after.mailboxes other) (service.mailboxes other)
        (λ it. ap (λ b. if b && (it == its) then Some box else service.mailboxes other it) (ne_eqb other (names.publisher number) off))

    -- nobody else's connection is the new one
    not_its : (other : ℕ) → is_there (connection_of other port) ≡ true → names.reader number other ≢ its
    not_its other so = lone none other so

    same_ties : port.ties ≡ joined.ties
    same_ties = sym made.ties

    same_connected : map (option_map (names.reader number)) (reached old.sizes.max_subscribers port.ties.items)
        ≡ map (option_map reader_here) (reached old.sizes.max_subscribers port.ties.items)
    same_connected = same_names (names.reader number) reader_here (reached old.sizes.max_subscribers port.ties.items)
        (λ place tied so.
        let is_tied = sym (still_there port.ties.items _ place) ∙ so in
        sym (same_reader tied (not_live tied (live_ties place tied is_tied))))

    abbrev after : PublisherPort T U
    after = record (with_connections (placed index (connected limit) port.sender.uses.connections) port) { readers = joined.readers }

    fewer : (slot : ℕ) → times slot (in_use (slots_of after.sender)) ≤ times slot (in_use (slots_of port.sender))
    fewer slot = omega (
      arith,
      used slot (slots_of after.sender),
      used slot (slots_of port.sender),
      placed_holds (slots_of port.sender).connections index limit slot,
      ap (λ (all : List (Connection ℕ)). times slot (held all))
          (placed_by (λ (message : Message T U). message.slot) index (connected limit) port.sender.uses.connections),
    )

    port_after : PublisherStandsFor (names.message number) reader_here old.sizes.max_subscribers after was.0
    port_after =
        let before = was.2 in
        record {
          factory = before.factory;
          stands = before.stands;
          max_loaned_samples = before.max_loaned_samples;
          allocation = before.allocation;
          slots = before.slots;
          room = before.room;
          segments = before.segments;
          last_sequence = before.last_sequence;
          history = before.history;
          once = before.once;
          seen = before.seen;
          connected = before.connected ∙ same_connected;
          ties = before.ties;
          blocked = before.blocked;
          left = before.left;
          named = named_less (names.message number) (slots_of port.sender) (slots_of after.sender) was.0.first was.0.next refl refl fewer
              (λ slot. omega arith) (lent_used (slots_of after.sender)) before.named;
          unit = before.unit;
          most_segments = before.most_segments;
          ample = before.ample;
        }

    abbrev boxes_of : ℕ → Option (Mailbox T)
    boxes_of = service_after.mailboxes (names.publisher number)

    box_of : (other : ℕ) → is_there (connection_of other port) ≡ true
        → boxes_of (reader_here other) ≡ service.mailboxes (names.publisher number) (names.reader number other)
    box_of other so = ap boxes_of (same_reader other (vacant other so)) ∙ same_box (names.reader number other) (not_its other so)

    open_of : (now : Stage) → goes_on now ≡ true → is_open now ≡ true
    open_of stage.Live goes = refl
    open_of stage.Vacant goes = never_true goes
    open_of stage.Ended goes = never_true goes

    live_there : (other : ℕ) → is_live other port ≡ true → is_there (connection_of other port) ≡ true
    live_there other so = open_of (connection_of other port).stage so

    ended_there : (other : ℕ) → (connection_of other port).stage ≡ stage.Ended → is_there (connection_of other port) ≡ true
    ended_there other so = ap is_open so

    -- who has none of the connections now had none before, and isn't this subscriber
    before_nobody : (other : ℕ) → JoinsNobody reader_here other joined → JoinsNobody (names.reader number) other port × (other ≢ its)
    before_nobody other joins = (
      λ at_index so same. joins at_index (ap is_there (made.others at_index (vacant at_index so)) ∙ so)
          (same_reader at_index (vacant at_index so) ∙ same),
      λ same. joins index now_here (its_reader ∙ sym same),
    )

    boxes_after : MailboxesStandFor (names.message number) reader_here names.subscriber joined boxes_of service.subscribers
    boxes_after = record {
      live = λ other so. elim (cases_eq other index) [
        | inl same ↦
            ap (λ n. boxes_of (reader_here n)) same ∙ ap boxes_of its_reader ∙ now_box
            ∙ ap (λ (c : Connection (Message T U)). Some (mailbox_as (names.message number) c)) (sym here)
            ∙ ap (λ n. Some (mailbox_as (names.message number) (connection_of n joined))) (sym same)
        | inr off ↦
            let so_before = sym (made.live other off) ∙ so in
            box_of other (live_there other so_before) ∙ boxes.live other so_before
            ∙ ap (λ (c : Connection (Message T U)). Some (mailbox_as (names.message number) c)) (sym (made.others other off))
      ];
      ended = λ other so. elim (cases_eq other index) [
        | inl same ↦
            let no : stage.Live ≡ stage.Ended = ap (λ (c : Connection (Message T U)). c.stage) (sym here)
            ∙ ap (λ n. (connection_of n joined).stage) (sym same) ∙ so in
            absurd (cc)
        | inr off ↦
            let so_before = ap (λ (c : Connection (Message T U)). c.stage) (sym (made.others other off)) ∙ so in
            let it = boxes.ended other so_before in (
              it.0,
              box_of other (ended_there other so_before) ∙ it.1,
              it.2 ∙ ap (λ (c : Connection (Message T U)). map (message_as (names.message number)) c.borrowed)
                  (sym (made.others other off)),
              λ stood. let last = it.3 (sym made.stands ∙ stood) in
                  (last.0, λ found is_found. last.1 found (ap (λ n. at n service.subscribers) (sym (same_reader other off)) ∙ is_found)),
            )
      ];
      quiet = λ other so. elim (cases_eq other index) [
        | inl same ↦
            let no : stage.Live ≡ stage.Ended = ap (λ (c : Connection (Message T U)). c.stage) (sym here)
            ∙ ap (λ n. (connection_of n joined).stage) (sym same) ∙ so in
            absurd (cc)
        | inr off ↦ subst (λ (c : Connection (Message T U)). IsOnlyHeld c) (sym (made.others other off))
            (boxes.quiet other (ap (λ (c : Connection (Message T U)). c.stage) (sym (made.others other off)) ∙ so))
      ];
      others = λ other joins found is_found.
          let before = before_nobody other joins in
          let it = boxes.others other before.0 found (sym (same_box other before.1) ∙ is_found) in
          (it.0, λ stood. it.1 (sym made.stands ∙ stood));
      none = λ other joins stood found is_found found_stands.
          let before = before_nobody other joins in
          same_box other before.1 ∙ boxes.none other before.0 (sym made.stands ∙ stood) found is_found found_stands;
      known = λ other so. elim (cases_eq other index) [
        | inl same ↦
            ap (λ n. is_some (at (reader_here n) service.subscribers)) same ∙ ap (λ n. is_some (at n service.subscribers)) its_reader
            ∙ ap is_some one_there
        | inr off ↦
            ap (λ n. is_some (at n service.subscribers)) (same_reader other off) ∙ boxes.known other (there_before other off so)
      ];
      apart = λ first second is_first is_second same. elim (cases_eq first index) [
        | inl at_first ↦ elim (cases_eq second index) [
          | inl at_second ↦ at_first ∙ sym at_second
          | inr off ↦ absurd (not_its second (there_before second off is_second)
              (sym (same_reader second off) ∙ sym same ∙ ap reader_here at_first ∙ its_reader))
        ]
        | inr off ↦ elim (cases_eq second index) [
          | inl at_second ↦ absurd (not_its first (there_before first off is_first)
              (sym (same_reader first off) ∙ same ∙ ap reader_here at_second ∙ its_reader))
          | inr off_second ↦ boxes.apart first second (there_before first off is_first) (there_before second off_second is_second)
              (sym (same_reader first off) ∙ same ∙ same_reader second off_second)
        ]
      ];
      led = λ other so. elim (cases_eq other index) [
        | inl same ↦ ap (λ n. is_some (get_or joined.readers n None)) same ∙ some_leads (get_or joined.readers index None) made.leads_there
        | inr off ↦ ap is_some (made.readers other off) ∙ boxes.led other (sym (made.live other off) ∙ so)
      ];
      heard = λ other to led. elim (cases_eq other index) [
        | inl same ↦ ap (λ n. is_live n joined) same ∙ made.goes
        | inr off ↦ made.live other off ∙ boxes.heard other to (sym (made.readers other off) ∙ led)
      ];
      read = λ other to led. elim (cases_eq other index) [
        | inl same ↦
            let own : (to.subscriber == subscriber) ≡ true =
            ap (leads_to subscriber) (sym led) ∙ ap (λ n. leads_to subscriber (get_or joined.readers n None)) same ∙ made.leads_there in
            let is_own = eqb-true to.subscriber subscriber own in (
              ap reader_here same ∙ its_reader ∙ ap names.subscriber (sym is_own),
              λ no. its_named (ap names.subscriber (sym is_own) ∙ no),
            )
        | inr off ↦
            let before = boxes.read other to (sym (made.readers other off) ∙ led) in
            (same_reader other off ∙ before.0, before.1)
      ];
      unmet = λ stood other so untied. elim (cases_eq other index) [
        | inl same ↦ ap (λ n. held_by (connection_of n joined)) same ∙ ap (λ (c : Connection (Message T U)). held_by c) here
        | inr off ↦
            ap (λ (c : Connection (Message T U)). held_by c) (made.others other off)
            ∙ boxes.unmet (sym made.stands ∙ stood) other (sym (made.live other off) ∙ so)
            (λ place tied. untied place (ap (λ ties. get_or ties.items place None) made.ties ∙ tied))
      ];
      once = λ other slot. elim (cases_eq other index) [
        | inl same ↦ omega (
          arith,
          ap (λ n. times_held slot n joined) same,
          ap (λ (c : Connection (Message T U)). times slot (map (λ (m : Message T U). m.slot) (held_by c))) here,
        )
        | inr off ↦ let before = boxes.once other slot in omega (
          arith,
          before,
          ap (λ (c : Connection (Message T U)). times slot (map (λ (m : Message T U). m.slot) (held_by c))) (made.others other off),
        )
      ];
      due = λ message sends place tied from is_tied. elim (cases_eq tied index) [
        | inl same ↦ ap (λ n. times_held message.slot n joined) same
            ∙ ap (λ (c : Connection (Message T U)). times message.slot (map (λ (m : Message T U). m.slot) (held_by c))) here
        | inr off ↦
            ap (λ (c : Connection (Message T U)). times message.slot (map (λ (m : Message T U). m.slot) (held_by c))) (made.others tied off)
            ∙ boxes.due message (sym (ap (λ (it : PublisherPort T U). it.sender.uses.sending) is) ∙ sends) place tied
            (subst (λ (it : PublisherPort T U). it.progress.place ≤ place) is from)
            (ap (λ ties. get_or ties.items place None) same_ties ∙ is_tied)
      ];
    }
      where
        some_leads : (to : Option Reader) → leads_to subscriber to ≡ true → is_some to ≡ true
        some_leads None leads = never_true leads
        some_leads (Some to) leads = refl

    joined_keyed : IsKeyed number joined old.subscribers
    joined_keyed other to led attached = elim (cases_eq other index) [
      | inl same ↦ never_true (sym (ap (λ (reads : Reader). reads.attached)
          (same_some to (record { subscriber = subscriber; attached = false })
          (sym led ∙ ap (λ n. get_or joined.readers n None) same ∙ new_reader))) ∙ attached)
      | inr off ↦ stands.keyed number port there other to (sym (made.readers other off) ∙ led) attached
    ]
      where
        new_reader : get_or joined.readers index None ≡ Some (record { subscriber = subscriber; attached = false })
        new_reader =
            ap (λ (it : PublisherPort T U). get_or it.readers index None) connects.2
            ∙ get_or-set_same (reached (length port.sender.uses.connections + 1) port.readers) index
            (Some (record { subscriber = subscriber; attached = false })) None
            (omega (arith, connects.1, long_enough port.readers (length port.sender.uses.connections + 1)))

    nothing_of_it : slots_held_of number index held_so ≡ []
    nothing_of_it =
        stands.samples.all number index ∙ ap (λ found. map (λ (m : Message T U). m.slot) (connection_at_port index found).borrowed) there
        ∙ ap (λ (c : Connection (Message T U)). map (λ (m : Message T U). m.slot) c.borrowed) connects.0

    still_borrowed : (other : ℕ) → (connection_of other joined).borrowed ≡ (connection_of other port).borrowed
    still_borrowed other = elim (cases_eq other index) [
      | inl same ↦ ap (λ n. (connection_of n joined).borrowed) same ∙ ap (λ (c : Connection (Message T U)). c.borrowed) here
          ∙ sym (ap (λ n. (connection_of n port).borrowed) same ∙ ap (λ (c : Connection (Message T U)). c.borrowed) connects.0)
      | inr off ↦ ap (λ (c : Connection (Message T U)). c.borrowed) (made.others other off)
    ]

    samples_after : SamplesStandFor (record names { reader = reader }) (with_one number joined old) held_so service.samples
    samples_after =
        let still = samples_alike names held_so old number port joined there still_borrowed service.samples stands.samples in
        record {
          same = still.same;
          once = still.once;
          all = still.all;
          whose = λ place d within.
              let entry = get_or held_so place d in
              let off : ((entry.1.publisher == number) && (entry.1.index == index)) ≡ false =
              none_pass (λ (entry : ℕ × Taken). (entry.1.publisher == number) && (entry.1.index == index))
              (λ (entry : ℕ × Taken). entry.1.slot) held_so nothing_of_it place d within in
              same_whose entry off ∙ stands.samples.whose place d within;
          counted = still.counted;
        }
      where
        same_whose : (entry : ℕ × Taken) → ((entry.1.publisher == number) && (entry.1.index == index)) ≡ false
            → reader entry.1.publisher entry.1.index ≡ names.reader entry.1.publisher entry.1.index
        same_whose entry off = elim (cases_eq entry.1.publisher number) [
          | inl same ↦
              let apart : (entry.1.index == index) ≡ false =
              sym (ap (λ b. b && (entry.1.index == index)) (eq-eqb entry.1.publisher number same)) ∙ off in
              ap (λ n. reader n entry.1.index) same ∙ ap (λ f. f entry.1.index) reads_at
              ∙ ap (λ b. if b then its else names.reader number entry.1.index) apart ∙ ap (λ n. names.reader n entry.1.index) (sym same)
          | inr apart ↦ ap (λ f. f entry.1.index) (reads_other entry.1.publisher apart)
        ]

    loans_after : LoansStandFor (record names { reader = reader }) (with_one number joined old) lent service.loans
    loans_after =
        let still = loans_kept number port joined old there names lent service.loans
        (ap (λ (it : PublisherPort T U). it.sender.uses.loans) is) stands.loans in
        record { same = still.same; once = still.once; all = still.all }

    -- the machine has a mailbox for the connection that came
    pub joined_stands : StandsFor (record names { reader = reader }) lent held_so buffer (with_one number joined old) service_after
    joined_stands =
        publisher_changed names reader lent held_so buffer old service number port joined service_after.mailboxes stands there
        reads_other made.stands (ap (λ (it : PublisherPort T U). it.place) is) (ap (λ (it : PublisherPort T U). it.number) is)
        (subst (λ read. PublisherStandsFor (names.message number) read old.sizes.max_subscribers joined was.0) (sym reads_at)
        (subst (λ (it : PublisherPort T U). PublisherStandsFor (names.message number) reader_here old.sizes.max_subscribers it was.0)
        (sym is) port_after))
        (subst (λ read. MailboxesStandFor (names.message number) read names.subscriber joined boxes_of service.subscribers)
        (sym reads_at) boxes_after)
        other_boxes
        (λ first second so. elim (cases_eq first (names.publisher number)) [
          | inl same ↦ elim (cases_eq second its) [
            | inl its_own ↦ (
              ap (λ n. is_some (at n service.publishers)) same ∙ ap is_some was.1,
              ap (λ n. is_some (at n service.subscribers)) its_own ∙ ap is_some one_there,
            )
            | inr off ↦ stands.joined first second
                (ap (λ n. is_some (service.mailboxes n second)) same ∙ sym (ap is_some (same_box second off))
                ∙ sym (ap (λ n. is_some (service_after.mailboxes n second)) same) ∙ so)
          ]
          | inr off ↦ stands.joined first second (sym (ap (λ all. is_some (all second)) (other_boxes first off)) ∙ so)
        ])
        joined_keyed loans_after samples_after

module _ {T U : Type 0} (names : Naming) (lent : List (ℕ × LentSlot)) (held_so : List (ℕ × Taken)) (buffer : ℕ) (old : ServicePorts T U)
    (service : Service T) (number subscriber index key : ℕ) (port : PublisherPort T U) (reads : SubscriberPort)
    (stands : StandsFor names lent held_so buffer old service) (there : port_of number old.publishers ≡ Some port)
    (leads : leads_to subscriber (get_or port.readers index None) ≡ true)
    (reads_there : subscriber_of subscriber old.subscribers ≡ Some reads) (reads_stands : reads.stands ≡ true)
    (has_key : subscribing.attached_at key reads ≡ Some (record { publisher = number; index = index })) where
  abbrev now_read : PublisherPort T U
  now_read = attached_at subscriber index port

  abbrev before : PublisherIs names old service number port
  before = stands.publishers number port there

  -- who reads at a connection is the one to whom it leads
  read_by : (readers : List (Option Reader)) (at_index other : ℕ) (to : Reader) → leads_to subscriber (get_or readers at_index None) ≡ true
      → get_or (set readers at_index (Some (record { subscriber = subscriber; attached = true }))) other None ≡ Some to
      → ((other ≡ at_index) × (to ≡ record { subscriber = subscriber; attached = true }))
      ⊎ ((other ≢ at_index) × (get_or readers other None ≡ Some to))
  read_by readers at_index other to is led = elim (cases_eq other at_index) [
    | inl same ↦ inl (
      same,
      same_some to (record { subscriber = subscriber; attached = true }) (sym led
          ∙ ap (λ n. get_or (set readers at_index (Some (record { subscriber = subscriber; attached = true }))) n None) same
          ∙ get_or-set_same readers at_index _ None (leads_within subscriber readers at_index is)),
    )
    | inr off ↦ inr (off, sym (get_or-set_other readers at_index other _ None off) ∙ led)
  ]

  leader : (found : Reader) × (get_or port.readers index None ≡ Some found) × (found.subscriber ≡ subscriber)
  leader = leads_some subscriber (get_or port.readers index None) leads

  pub attached_stands : StandsFor names lent held_so buffer (with_one number now_read old) service
  attached_stands =
      let same = before.2 in
      let boxes_were = before.3 in
      publisher_changed names names.reader lent held_so buffer old service number port now_read service.mailboxes stands there
      (λ other off. refl) refl refl refl
      (record {
        factory = same.factory;
        stands = same.stands;
        max_loaned_samples = same.max_loaned_samples;
        allocation = same.allocation;
        slots = same.slots;
        room = same.room;
        segments = same.segments;
        last_sequence = same.last_sequence;
        history = same.history;
        once = same.once;
        seen = same.seen;
        connected = same.connected;
        ties = same.ties;
        blocked = same.blocked;
        left = same.left;
        named = same.named;
        unit = same.unit;
        most_segments = same.most_segments;
        ample = same.ample;
      })
      (record {
        live = boxes_were.live;
        ended = boxes_were.ended;
        quiet = boxes_were.quiet;
        others = boxes_were.others;
        none = boxes_were.none;
        known = boxes_were.known;
        apart = boxes_were.apart;
        led = λ other is. still_some port.readers index other (boxes_were.led other is);
        heard = λ other to led. elim (read_by port.readers index other to leads led) [
          | inl own ↦ ap (λ n. is_live n port) own.0 ∙ boxes_were.heard index leader.0 leader.1
          | inr was_so ↦ boxes_were.heard other to was_so.1
        ];
        read = λ other to led. elim (read_by port.readers index other to leads led) [
          | inl own ↦
              let was_read = boxes_were.read index leader.0 leader.1 in
              let same_name = ap names.subscriber leader.2 ∙ ap (λ (r : Reader). names.subscriber r.subscriber) (sym own.1) in
              (ap (names.reader number) own.0 ∙ was_read.0 ∙ same_name, λ no. was_read.1 (same_name ∙ no))
          | inr was_so ↦ boxes_were.read other to was_so.1
        ];
        unmet = boxes_were.unmet;
        once = boxes_were.once;
        due = boxes_were.due;
      })
      (λ other off. refl) stands.joined
      (λ other to led attached. elim (read_by port.readers index other to leads led) [
        | inl own ↦ (
          reads,
          ap (λ (r : Reader). subscriber_of r.subscriber old.subscribers) own.1 ∙ reads_there,
          reads_stands,
          key,
          has_key ∙ ap (λ n. Some (record { publisher = number; index = n })) (sym own.0),
        )
        | inr was_so ↦ stands.keyed number port there other to was_so.1 attached
      ])
      (loans_kept number port now_read old there names lent service.loans refl stands.loans)
      (samples_kept number port now_read old there names held_so service.samples refl stands.samples)
    where
      still_some : (readers : List (Option Reader)) (at_index other : ℕ) → is_some (get_or readers other None) ≡ true
          → is_some (get_or (set readers at_index (Some (record { subscriber = subscriber; attached = true }))) other None) ≡ true
      still_some [] at_index other some = some
      still_some (reader ∷ readers) zero zero some = refl
      still_some (reader ∷ readers) zero (suc other) some = some
      still_some (reader ∷ readers) (suc at_index) zero some = some
      still_some (reader ∷ readers) (suc at_index) (suc other) some = still_some readers at_index other some
