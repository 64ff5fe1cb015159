-- The oldest message of a connection is borrowed, at a publisher of a domain and at its mailbox.
use Rattle.std.proofs.Common.{◌≡◌, ◌≢◌, ◌≤◌, ◌<◌, ◌∷◌, [], ◌++◌, ℕ, true, false, List, length, map, get_or, drop, take, Option, None}
use Rattle.std.proofs.Common.{Some, refl, sym, ap, subst, ◌∙◌, arith}
use Rattle.std.proofs.Math.Logic.{⊎_elim}
use Rattle.std.proofs.lemmas.Bool.{cases_eq}
use Rattle.std.proofs.lemmas.List.{get_or-set_other, length-append, map-append}
use Rattle.iox_domain.proofs.BookedTakes.{taken_set}
use Rattle.iox_domain.proofs.DomainPorts.Kept.{take_holds}
use Rattle.iox_domain.proofs.DomainPorts.Naming.{connection_at_by, with_connection_by, taken_by}
use Rattle.iox_domain.specs.DomainPorts.Messages.{Message}
use Rattle.iox_domain.specs.DomainPorts.MessagesSending.{slots_of, connection_by}
use Rattle.iox_domain.specs.DomainPorts.Ports.{connection_of, goes_on, is_live}
use Rattle.iox_domain.specs.DomainPorts.Reading.{taken_at}
use Rattle.iox_domain.specs.DomainPorts.declared.publisher_port.PublisherPort.{PublisherPort}
use Rattle.iox_domain.specs.DomainSlots.Counting.{times}
use Rattle.iox_domain.specs.DomainSlots.Uses.{Connection, Uses, nobody, taken, connection_at, held_by, in_use, is_open, is_there}
use Rattle.iox_domain.specs.DomainSlots.Uses.{with_connection}
use Rattle.iox_domain.specs.DomainSlots.declared.stage.Stage.TheVariants as stage
use Rattle.iox_domain.specs.PortLawsLaws.{IsTidy}
use Rattle.iox_domain_machine.specs.Mailboxes.{IsOnlyHeld, MailboxesStandFor, JoinsNobody, times_held}
use Rattle.iox_domain_machine.specs.Naming.{message_as, mailbox_as}
use Rattle.iox_domain_machine.specs.Publishers.{PublisherStandsFor}
use Rattle.iox_domain_machine.proofs.Found.{never_true}
use Rattle.iox_domain_machine.proofs.Named.{named_less, lent_used}
use Rattle.iox_domain_machine.proofs.ReleasePort.{live_isn't_ended, live_open, less_held, used}
use Rattle.iox_machine.proofs.Shorthands as shorthands
use Rattle.iox_machine.specs.Mailbox.{Mailbox}
use Rattle.iox_machine.specs.Service.{Publisher, Subscriber}
use Rattle.iox_machine.specs.Table.{at}

taken_named : {X Y : Type 0} (f : X → Y) (waiting : List X) → map f (take 1 waiting) ≡ take 1 (map f waiting)
taken_named f [] = refl
taken_named f (one ∷ waiting) = refl

left_named : {X Y : Type 0} (f : X → Y) (waiting : List X) → map f (drop 1 waiting) ≡ drop 1 (map f waiting)
left_named f [] = refl
left_named f (one ∷ waiting) = refl

-- the mailbox of what was taken is the mailbox that was taken of
pub mailbox_taken : {T U : Type 0} (name : ℕ → ℕ) (connection : Connection (Message T U))
    → mailbox_as name (taken connection) ≡ shorthands.taken (mailbox_as name connection)
mailbox_taken {T} name connection =
    ap (λ (borrowed : List _). record {
      limit = connection.limit;
      waiting = map (message_as name) (drop 1 connection.waiting);
      borrowed = borrowed;
    }) (map-append (message_as name) connection.borrowed (take 1 connection.waiting)
    ∙ ap (λ more. map (message_as name) connection.borrowed ++ more) (taken_named (message_as name) connection.waiting))
    ∙ ap (λ (waiting : List _). record {
      limit = connection.limit;
      waiting = waiting;
      borrowed = map (message_as name) connection.borrowed ++ take 1 (map (message_as name) connection.waiting);
    }) (left_named (message_as name) connection.waiting)

module _ {T U : Type 0} (port : PublisherPort T U) (index : ℕ) (goes : is_live index port ≡ true)
    (waits : 0 < length (connection_of index port).waiting) where
  abbrev slot_of : Message T U → ℕ
  slot_of message = message.slot

  abbrev was : Connection (Message T U)
  was = connection_of index port

  abbrev pub after : PublisherPort T U
  after = taken_at index port

  pub here : connection_of index after ≡ taken was
  here = taken_set port.sender.uses.connections index

  pub elsewhere : (other : ℕ) → other ≢ index → connection_of other after ≡ connection_of other port
  elsewhere other off = get_or-set_other port.sender.uses.connections index other (taken was) nobody off

  same_stage : (other : ℕ) → (connection_of other after).stage ≡ (connection_of other port).stage
  same_stage other = ⊎_elim
      (λ same. ap (λ i. (connection_of i after).stage) same ∙ ap (λ (connection : Connection (Message T U)). connection.stage) here
      ∙ sym (ap (λ i. (connection_of i port).stage) same))
      (λ off. ap (λ (connection : Connection (Message T U)). connection.stage) (elsewhere other off))
      (cases_eq other index)

  live_before : (other : ℕ) → is_live other after ≡ true → is_live other port ≡ true
  live_before other live = sym (ap goes_on (same_stage other)) ∙ live

  there_before : (other : ℕ) → is_there (connection_of other after) ≡ true → is_there (connection_of other port) ≡ true
  there_before other there = sym (ap is_open (same_stage other)) ∙ there

  there_still : (other : ℕ) → is_there (connection_of other port) ≡ true → is_there (connection_of other after) ≡ true
  there_still other there = ap is_open (same_stage other) ∙ there

  pub live_still : (other : ℕ) → is_live other port ≡ true → is_live other after ≡ true
  live_still other live = ap goes_on (same_stage other) ∙ live

  is_there_here : is_there was ≡ true
  is_there_here = live_open was.stage goes

  -- as much is used
  abbrev seen : Connection ℕ
  seen = connection_at index (slots_of port.sender)

  seen_is : seen ≡ connection_by slot_of was
  seen_is = connection_at_by (λ loan. loan.slot) slot_of index port.sender.uses

  same_held : (slot : ℕ) → times slot (held_by (connection_by slot_of (taken was))) ≡ times slot (held_by (connection_by slot_of was))
  same_held slot =
      ap (λ (connection : Connection ℕ). times slot (held_by connection)) (taken_by slot_of was)
      ∙ take_holds (connection_by slot_of was) slot

  as_used : (slot : ℕ) → times slot (in_use (slots_of after.sender)) ≤ times slot (in_use (slots_of port.sender))
  as_used slot =
      let uses : Uses ℕ ℕ = slots_of port.sender in
      let taken_slots : Connection ℕ = connection_by slot_of (taken was) in
      let same : slots_of after.sender ≡ with_connection index taken_slots uses =
      with_connection_by (λ loan. loan.slot) slot_of index (taken was) port.sender.uses in
      let same_seen = ap (λ (connection : Connection ℕ). times slot (held_by connection)) seen_is in
      let less = less_held uses.connections index taken_slots slot (omega (arith, same_held slot, same_seen)) in
      omega (
        arith,
        ap (λ (one : Uses ℕ ℕ). times slot (in_use one)) same,
        less,
        used slot uses,
        used slot (with_connection index taken_slots uses),
      )

  pub port_after : (name reader : ℕ → ℕ) (most : ℕ) (publisher : Publisher T) → PublisherStandsFor name reader most port publisher
      → PublisherStandsFor name reader most after publisher
  port_after name reader most publisher is = record {
    factory = is.factory;
    stands = is.stands;
    max_loaned_samples = is.max_loaned_samples;
    allocation = is.allocation;
    slots = is.slots;
    room = is.room;
    segments = is.segments;
    last_sequence = is.last_sequence;
    history = is.history;
    once = is.once;
    seen = is.seen;
    connected = is.connected;
    ties = is.ties;
    blocked = is.blocked;
    left = is.left;
    named = named_less name (slots_of port.sender) (slots_of after.sender) publisher.first publisher.next refl refl as_used
        (λ slot. omega arith) (λ slot. lent_used (slots_of after.sender) slot) is.named;
    unit = is.unit;
    most_segments = is.most_segments;
    ample = is.ample;
  }

  pub tidy_after : IsTidy port → IsTidy after
  tidy_after tidy other vacant = ⊎_elim
      (λ same. never_true (sym (ap goes_on (sym (same_stage other) ∙ vacant)) ∙ ap (λ i. is_live i port) same ∙ goes))
      (λ off. elsewhere other off
      ∙ tidy other (ap (λ (connection : Connection (Message T U)). connection.stage) (sym (elsewhere other off)) ∙ vacant))
      (cases_eq other index)

  split : (connection : Connection (Message T U)) (slot : ℕ)
      → times slot (map slot_of (held_by connection)) ≡ times slot (held_by (connection_by slot_of connection))
  split connection slot = ap (times slot) (map-append slot_of connection.waiting connection.borrowed)

  held_same : (slot i : ℕ) → times_held slot i after ≡ times_held slot i port
  held_same slot i = ⊎_elim
      (λ same.
      ap (λ i. times_held slot i after) same
      ∙ ap (λ (connection : Connection (Message T U)). times slot (map slot_of (held_by connection))) here
      ∙ split (taken was) slot ∙ same_held slot ∙ sym (split was slot) ∙ sym (ap (λ i. times_held slot i port) same))
      (λ off. ap (λ (connection : Connection (Message T U)). times slot (map slot_of (held_by connection))) (elsewhere i off))
      (cases_eq i index)

  module _ (name reader subscriber : ℕ → ℕ) (mailboxes new_mailboxes : ℕ → Option (Mailbox T)) (subscribers : List (ℕ × Subscriber))
      (boxes : MailboxesStandFor name reader subscriber port mailboxes subscribers)
      (now : new_mailboxes (reader index) ≡ Some (mailbox_as name (taken was)))
      (others : (other : ℕ) → other ≢ reader index → new_mailboxes other ≡ mailboxes other) where
    off_reader : (i : ℕ) → i ≢ index → is_there (connection_of i port) ≡ true → reader i ≢ reader index
    off_reader i off there same = off (boxes.apart i index there is_there_here same)

    live : (i : ℕ) → is_live i after ≡ true → new_mailboxes (reader i) ≡ Some (mailbox_as name (connection_of i after))
    live i is = ⊎_elim
        (λ same.
        ap (λ i. new_mailboxes (reader i)) same ∙ now
        ∙ ap (λ (connection : Connection (Message T U)). Some (mailbox_as name connection)) (sym here)
        ∙ ap (λ i. Some (mailbox_as name (connection_of i after))) (sym same))
        (λ off.
        let live_was = live_before i is in
        others (reader i) (off_reader i off (live_open (connection_of i port).stage live_was)) ∙ boxes.live i live_was
        ∙ ap (λ (connection : Connection (Message T U)). Some (mailbox_as name connection)) (sym (elsewhere i off)))
        (cases_eq i index)

    not_ended : {A : Type 0} (i : ℕ) → i ≡ index → (connection_of i port).stage ≡ stage.Ended → A
    not_ended i same is = live_isn't_ended was.stage goes (ap (λ i. (connection_of i port).stage) (sym same) ∙ is)

    abbrev Ended : ℕ → List (Message T U) → Type 0
    Ended i borrowed =
        (box : Mailbox T) × (new_mailboxes (reader i) ≡ Some box) × (box.borrowed ≡ map (message_as name) borrowed)
        × (port.stands ≡ true → (box.waiting ≡ []) × ((one : Subscriber) → at (reader i) subscribers ≡ Some one → one.stands ≡ false))

    ended : (i : ℕ) → (connection_of i after).stage ≡ stage.Ended → Ended i (connection_of i after).borrowed
    ended i is =
        let was_ended : (connection_of i port).stage ≡ stage.Ended = sym (same_stage i) ∙ is in
        ⊎_elim
        (λ same. not_ended i same was_ended)
        (λ off.
        let before = boxes.ended i was_ended in (
          before.0,
          others (reader i) (off_reader i off (ap is_open was_ended)) ∙ before.1,
          before.2
              ∙ ap (λ (connection : Connection (Message T U)). map (message_as name) connection.borrowed) (sym (elsewhere i off)),
          before.3,
        ))
        (cases_eq i index)

    quiet : (i : ℕ) → (connection_of i after).stage ≡ stage.Ended → IsOnlyHeld (connection_of i after)
    quiet i is =
        let was_ended : (connection_of i port).stage ≡ stage.Ended = sym (same_stage i) ∙ is in
        ⊎_elim
        (λ same. not_ended i same was_ended)
        (λ off. subst (λ (connection : Connection (Message T U)). IsOnlyHeld connection) (sym (elsewhere i off))
        (boxes.quiet i was_ended))
        (cases_eq i index)

    joins_before : (other : ℕ) → JoinsNobody reader other after → JoinsNobody reader other port
    joins_before other joins i there = joins i (there_still i there)

    not_this : (other : ℕ) → JoinsNobody reader other after → other ≢ reader index
    not_this other joins same = joins index (there_still index is_there_here) (sym same)

    unmet : port.stands ≡ true → (i : ℕ) → is_live i after ≡ true → ((place : ℕ) → get_or port.ties.items place None ≢ Some i)
        → held_by (connection_of i after) ≡ []
    unmet standing i is untied = ⊎_elim
        (λ same.
        let none = boxes.unmet standing i (live_before i is) untied in
        absurd (omega (
          arith,
          waits,
          length-append was.waiting was.borrowed,
          ap (λ (all : List (Message T U)). length all) none,
          ap (λ i. length (held_by (connection_of i port))) same,
        )))
        (λ off. ap (λ (connection : Connection (Message T U)). held_by connection) (elsewhere i off)
        ∙ boxes.unmet standing i (live_before i is) untied)
        (cases_eq i index)

    pub boxes_after : MailboxesStandFor name reader subscriber after new_mailboxes subscribers
    boxes_after = record {
      live = live;
      ended = ended;
      quiet = quiet;
      others = λ other joins box is.
          boxes.others other (joins_before other joins) box (sym (others other (not_this other joins)) ∙ is);
      none = λ other joins standing one is one_stands.
          others other (not_this other joins) ∙ boxes.none other (joins_before other joins) standing one is one_stands;
      known = λ i there. boxes.known i (there_before i there);
      apart = λ one other is is_other same. boxes.apart one other (there_before one is) (there_before other is_other) same;
      led = λ i is. boxes.led i (live_before i is);
      heard = λ i to is. live_still i (boxes.heard i to is);
      read = boxes.read;
      unmet = unmet;
      once = λ i slot. let before = boxes.once i slot in omega (arith, before, held_same slot i);
      due = λ message sending place i later tied. held_same message.slot i ∙ boxes.due message sending place i later tied;
    }
