-- The connections of a publisher that leaves.
use Rattle.std.proofs.Common.{◌≡◌, ◌≢◌, ◌≤◌, ◌⊎◌, ◌+◌, ◌∷◌, [], ℕ, zero, suc, Bool, true, false, List, length, map, get_or, set, Option}
use Rattle.std.proofs.Common.{None, Some, refl, sym, ap, subst, inl, inr, ◌∙◌, arith}
use Rattle.std.proofs.Math.Logic.{⊎_elim}
use Rattle.std.proofs.lemmas.Bool.{cases_eq}
use Rattle.std.proofs.lemmas.List.{get_or-set_same, get_or-set_other, map-append}
use Rattle.std.specs.Prelude.{is_some, if◌then◌else◌}
use Rattle.iox_domain.proofs.DomainPorts.Kept.{end_holds}
use Rattle.iox_domain.proofs.DomainPorts.Naming.{connection_at_by, ended_by}
use Rattle.iox_domain.proofs.DomainSlots.Counts.{times_append}
use Rattle.iox_domain.specs.DomainPorts.Leaving.{parted_at, parted_from, departed}
use Rattle.iox_domain.specs.DomainPorts.Messages.{Message}
use Rattle.iox_domain.specs.DomainPorts.MessagesSending.{slots_of, connection_by}
use Rattle.iox_domain.specs.DomainPorts.Places.{is_attached}
use Rattle.iox_domain.specs.DomainPorts.Ports.{connection_of, with_connection_of, with_connections, ended_at, goes_on, is_live}
use Rattle.iox_domain.specs.DomainPorts.declared.publisher_port.PublisherPort.{PublisherPort}
use Rattle.iox_domain.specs.DomainPorts.declared.reader.Reader.{Reader}
use Rattle.iox_domain.specs.DomainSlots.Counting.{times}
use Rattle.iox_domain.specs.DomainSlots.Uses.{Connection, nobody, ended, held, held_by, in_use, is_there}
use Rattle.iox_domain.specs.DomainSlots.declared.stage.Stage.TheVariants as stage
use Rattle.iox_domain_machine.specs.Mailboxes.{IsOnlyHeld, MailboxesStandFor, JoinsNobody, times_held}
use Rattle.iox_domain_machine.specs.Naming.{message_as, mailbox_as}
use Rattle.iox_domain_machine.specs.Publishers.{PublisherStandsFor}
use Rattle.iox_domain_machine.proofs.Found.{same_some, never_some, never_true}
use Rattle.iox_domain_machine.proofs.Named.{named_less, lent_used}
use Rattle.iox_domain_machine.proofs.Quiet.{ended_quiet}
use Rattle.iox_domain_machine.proofs.ReleasePort.{differ, used, within_by, settles_to, live_open}
use Rattle.iox_machine.specs.Mailbox.{Mailbox}
use Rattle.iox_machine.specs.Service.{Publisher, Subscriber}

-- A connection that was in use ended, and has no reader then.
pub record HasEnded {T U : Type 0} (index : ℕ) (old new : PublisherPort T U) : Type 0 where
  pub live : is_live index old ≡ true
  pub ends : connection_of index new ≡ ended (connection_of index old)
  pub none : get_or new.readers index None ≡ None

-- A connection and its reader don't change.
pub record HasStayed {T U : Type 0} (index : ℕ) (old new : PublisherPort T U) : Type 0 where
  pub same : connection_of index new ≡ connection_of index old
  pub reads : get_or new.readers index None ≡ get_or old.readers index None

-- Connections without a reader ended, and nothing else changed.
pub record HasParted {T U : Type 0} (old new : PublisherPort T U) : Type 0 where
  pub same : new ≡ record (with_connections new.sender.uses.connections old) { readers = new.readers }
  pub each : (index : ℕ) → HasStayed index old new ⊎ HasEnded index old new

pub none_set : {X : Type 0} (xs : List (Option X)) (index : ℕ) → get_or (set xs index None) index None ≡ None
none_set [] index = refl
none_set (x ∷ xs) zero = refl
none_set (x ∷ xs) (suc index) = none_set xs index

pub ended_stops : {T U : Type 0} (connection : Connection (Message T U)) → goes_on (ended connection).stage ≡ false
ended_stops connection = by connection.borrowed
  where
    by : (borrowed : List (Message _ _)) → goes_on (ended (record connection { borrowed = borrowed })).stage ≡ false
    by [] = refl
    by (message ∷ borrowed) = refl

pub ended_waiting : {X : Type 0} (connection : Connection X) → (ended connection).waiting ≡ []
ended_waiting {X} connection = by connection.borrowed
  where
    by : (borrowed : List X) → (ended (record connection { borrowed = borrowed })).waiting ≡ []
    by [] = refl
    by (message ∷ borrowed) = refl

pub ended_borrowed : {X : Type 0} (connection : Connection X) → (ended connection).borrowed ≡ connection.borrowed
ended_borrowed {X} connection = by connection.borrowed
  where
    by : (borrowed : List X) → (ended (record connection { borrowed = borrowed })).borrowed ≡ borrowed
    by [] = refl
    by (message ∷ borrowed) = refl

module _ {T U : Type 0} where
  stayed : (port : PublisherPort T U) → HasParted port port
  stayed port = record { same = refl; each = λ index. inl (record { same = refl; reads = refl }) }

  -- a connection ended, and nobody reads there
  abbrev pub without_reader : ℕ → PublisherPort T U → PublisherPort T U
  without_reader index port =
      record (with_connection_of index (ended (connection_of index port)) port) { readers = set port.readers index None }

  ends_here : (index : ℕ) (port : PublisherPort T U) → is_live index port ≡ true → HasParted port (without_reader index port)
  ends_here index port live = record { same = refl; each = λ other. each other (cases_eq other index) }
    where
      isn't_nobody : connection_of index port ≢ nobody
      isn't_nobody none = differ (sym live ∙ ap (λ (connection : Connection (Message T U)). goes_on connection.stage) none)

      here : HasEnded index port (without_reader index port)
      here = record {
        live = live;
        ends = get_or-set_same port.sender.uses.connections index (ended (connection_of index port)) nobody
            (within_by port.sender.uses.connections index isn't_nobody);
        none = none_set port.readers index;
      }

      each : (other : ℕ) → (other ≡ index) ⊎ (other ≢ index)
          → HasStayed other port (without_reader index port) ⊎ HasEnded other port (without_reader index port)
      each other (inl same) = inr (subst (λ i. HasEnded i port (without_reader index port)) (sym same) here)
      each other (inr off) = inl (record {
        same = get_or-set_other port.sender.uses.connections index other (ended (connection_of index port)) nobody off;
        reads = get_or-set_other port.readers index other None None off;
      })

  parts_live : (index : ℕ) (port : PublisherPort T U) (live : Bool) → is_live index port ≡ live
      → HasParted port (if live then without_reader index port else port)
  parts_live index port true live = ends_here index port live
  parts_live index port false live = stayed port

  pub ended_parts : (index : ℕ) (port : PublisherPort T U) → HasParted port (ended_at index port)
  ended_parts index port = parts_live index port (is_live index port) refl

  parts_here : (index : ℕ) (port : PublisherPort T U) (attached : Bool) → is_attached (get_or port.readers index None) ≡ attached
      → HasParted port (parted_at index port)
  parts_here index port true is = rw is (stayed port)
  parts_here index port false is = rw is (ended_parts index port)

  each_on : (index : ℕ) (old between new : PublisherPort T U) → HasStayed index old between ⊎ HasEnded index old between
      → HasStayed index between new ⊎ HasEnded index between new → HasStayed index old new ⊎ HasEnded index old new
  each_on index old between new (inl stays) (inl on) = inl (record { same = on.same ∙ stays.same; reads = on.reads ∙ stays.reads })
  each_on index old between new (inl stays) (inr on) = inr (record {
    live = ap (λ (connection : Connection (Message T U)). goes_on connection.stage) (sym stays.same) ∙ on.live;
    ends = on.ends ∙ ap (λ (connection : Connection (Message T U)). ended connection) stays.same;
    none = on.none;
  })
  each_on index old between new (inr ends) (inl on) = inr (record {
    live = ends.live;
    ends = on.same ∙ ends.ends;
    none = on.reads ∙ ends.none;
  })
  each_on index old between new (inr ends) (inr on) =
      differ (sym on.live ∙ ap (λ (connection : Connection (Message T U)). goes_on connection.stage) ends.ends
      ∙ ended_stops (connection_of index old))

  parts_on : (old between new : PublisherPort T U) → HasParted old between → HasParted between new → HasParted old new
  parts_on old between new first then_on = record {
    same = then_on.same
        ∙ ap (λ (port : PublisherPort T U). record (with_connections new.sender.uses.connections port) { readers = new.readers })
        first.same;
    each = λ index. each_on index old between new (first.each index) (then_on.each index);
  }

  parts_from : (count index : ℕ) (port : PublisherPort T U) → HasParted port (parted_from count index port)
  parts_from zero index port = stayed port
  parts_from (suc count) index port =
      parts_on port (parted_at index port) (parted_from count (index + 1) (parted_at index port))
      (parts_here index port (is_attached (get_or port.readers index None)) refl) (parts_from count (index + 1) (parted_at index port))

  pub parts : (port : PublisherPort T U) → HasParted (record port { stands = false }) (departed port)
  parts port = parts_from (length port.sender.uses.connections) 0 (record port { stands = false })

-- where each connection holds no more, all hold no more
pub held_each : (slot : ℕ) (new old : List (Connection ℕ))
    → ((index : ℕ) → times slot (held_by (get_or new index nobody)) ≤ times slot (held_by (get_or old index nobody)))
    → times slot (held new) ≤ times slot (held old)
held_each slot [] old less = omega arith
held_each slot (connection ∷ new) [] less =
    let here = less zero in
    let rest = held_each slot new [] (λ index. less (suc index)) in
    omega (arith, here, rest, times_append slot (held_by connection) (held new))
held_each slot (connection ∷ new) (was ∷ old) less =
    let here = less zero in
    let rest = held_each slot new old (λ index. less (suc index)) in
    omega (arith, here, rest, times_append slot (held_by connection) (held new), times_append slot (held_by was) (held old))

-- a connection that is there is that of somebody, or none is
pub search_reader : {X : Type 0} (connections : List (Connection X)) (reader : ℕ → ℕ) (name : ℕ)
    → ((index : ℕ) × (is_there (get_or connections index nobody) ≡ true) × (reader index ≡ name))
    ⊎ ((index : ℕ) → is_there (get_or connections index nobody) ≡ true → reader index ≢ name)
search_reader [] reader name = inr (λ index there. never_true there)
search_reader {X} (connection ∷ connections) reader name = ⊎_elim
    (λ found. inl (suc found.0, found.1, found.2))
    (λ none. by none (is_there connection) refl (cases_eq (reader 0) name))
    (search_reader connections (λ index. reader (suc index)) name)
  where
    by : ((index : ℕ) → is_there (get_or connections index nobody) ≡ true → reader (suc index) ≢ name) → (there : Bool)
        → is_there connection ≡ there → (reader 0 ≡ name) ⊎ (reader 0 ≢ name)
        → ((index : ℕ) × (is_there (get_or (connection ∷ connections) index nobody) ≡ true) × (reader index ≡ name))
        ⊎ ((index : ℕ) → is_there (get_or (connection ∷ connections) index nobody) ≡ true → reader index ≢ name)
    by none true is (inl same) = inl (zero, is, same)
    by none there is (inr off) = inr (λ index. at_each index)
      where
        at_each : (index : ℕ) → is_there (get_or (connection ∷ connections) index nobody) ≡ true → reader index ≢ name
        at_each zero there = off
        at_each (suc index) there = none index there
    by none false is (inl same) = inr (λ index. at_each index)
      where
        at_each : (index : ℕ) → is_there (get_or (connection ∷ connections) index nobody) ≡ true → reader index ≢ name
        at_each zero there = differ (sym there ∙ is)
        at_each (suc index) there = none index there

module _ {T U : Type 0} (port after : PublisherPort T U) (parted : HasParted (record port { stands = false }) after)
    (silent : port.sender.uses.sending ≡ None) where
  abbrev slot_of : Message T U → ℕ
  slot_of message = message.slot

  -- the publisher with what changed of it
  abbrev left : PublisherPort T U
  left = record (with_connections after.sender.uses.connections (record port { stands = false })) { readers = after.readers }

  split : (connection : Connection (Message T U)) (other : ℕ)
      → times other (map slot_of (held_by connection)) ≡ times other (held_by (connection_by slot_of connection))
  split connection other = ap (times other) (map-append slot_of connection.waiting connection.borrowed)

  less_ended : (connection : Connection (Message T U)) (other : ℕ)
      → times other (held_by (connection_by slot_of (ended connection))) ≤ times other (held_by (connection_by slot_of connection))
  less_ended connection other =
      let same = ap (λ (one : Connection ℕ). times other (held_by one)) (ended_by slot_of connection) in
      omega (arith, same, end_holds (connection_by slot_of connection) other)

  less_by : (index other : ℕ)
      → HasStayed index (record port { stands = false }) after ⊎ HasEnded index (record port { stands = false }) after
      → times other (held_by (connection_by slot_of (connection_of index after)))
      ≤ times other (held_by (connection_by slot_of (connection_of index port)))
  less_by index other (inl stays) =
      let same = ap (λ (one : Connection (Message T U)). times other (held_by (connection_by slot_of one))) stays.same in
      omega (arith, same)
  less_by index other (inr ends) =
      let same = ap (λ (one : Connection (Message T U)). times other (held_by (connection_by slot_of one))) ends.ends in
      omega (arith, same, less_ended (connection_of index port) other)

  fewer_used : (other : ℕ) → times other (in_use (slots_of left.sender)) ≤ times other (in_use (slots_of port.sender))
  fewer_used other =
      let less = held_each other (slots_of left.sender).connections (slots_of port.sender).connections
      (λ index.
      let now = ap (λ (one : Connection ℕ). times other (held_by one))
      (connection_at_by (λ loan. loan.slot) slot_of index left.sender.uses) in
      let before = ap (λ (one : Connection ℕ). times other (held_by one))
      (connection_at_by (λ loan. loan.slot) slot_of index port.sender.uses) in
      omega (arith, now, before, less_by index other (parted.each index))) in
      omega (arith, less, used other (slots_of left.sender), used other (slots_of port.sender))

  pub left_port : (name reader : ℕ → ℕ) (most : ℕ) (publisher : Publisher T) → PublisherStandsFor name reader most port publisher
      → PublisherStandsFor name reader most after (record publisher { stands = false })
  left_port name reader most publisher is =
      subst (λ (one : PublisherPort T U). PublisherStandsFor name reader most one (record publisher { stands = false })) (sym parted.same)
      (record {
        factory = is.factory;
        stands = refl;
        max_loaned_samples = is.max_loaned_samples;
        allocation = is.allocation;
        slots = is.slots;
        room = is.room;
        segments = is.segments;
        last_sequence = is.last_sequence;
        history = is.history;
        once = is.once;
        seen = is.seen;
        connected = is.connected;
        ties = is.ties;
        blocked = is.blocked;
        left = λ off. silent;
        named = named_less name (slots_of port.sender) (slots_of left.sender) publisher.first publisher.next refl refl fewer_used
            (λ slot. omega arith) (λ slot. lent_used (slots_of left.sender) slot) is.named;
        unit = is.unit;
        most_segments = is.most_segments;
        ample = is.ample;
      })

  pub borrowed_same : (index : ℕ) → (connection_of index after).borrowed ≡ (connection_of index port).borrowed
  borrowed_same index = ⊎_elim
      (λ stays. ap (λ (one : Connection (Message T U)). one.borrowed) stays.same)
      (λ ends. ap (λ (one : Connection (Message T U)). one.borrowed) ends.ends ∙ ended_borrowed (connection_of index port))
      (parted.each index)

  pub still_read : (index : ℕ) (to : Reader) → get_or after.readers index None ≡ Some to → get_or port.readers index None ≡ Some to
  still_read index to is = ⊎_elim
      (λ stays. sym stays.reads ∙ is)
      (λ ends. never_some to (sym ends.none ∙ is)) (parted.each index)

  there_before : (index : ℕ) → is_there (connection_of index after) ≡ true → is_there (connection_of index port) ≡ true
  there_before index there = ⊎_elim
      (λ stays. ap is_there (sym stays.same) ∙ there)
      (λ ends. live_open (connection_of index port).stage ends.live) (parted.each index)

  module _ (name reader subscriber : ℕ → ℕ) (mailboxes : ℕ → Option (Mailbox T)) (subscribers : List (ℕ × Subscriber))
      (boxes : MailboxesStandFor name reader subscriber port mailboxes subscribers) where
    live : (index : ℕ) → is_live index after ≡ true → mailboxes (reader index) ≡ Some (mailbox_as name (connection_of index after))
    live index is = ⊎_elim
        (λ stays.
        boxes.live index (ap (λ (one : Connection (Message T U)). goes_on one.stage) (sym stays.same) ∙ is)
        ∙ ap (λ (one : Connection (Message T U)). Some (mailbox_as name one)) (sym stays.same))
        (λ ends. differ (sym is ∙ ap (λ (one : Connection (Message T U)). goes_on one.stage) ends.ends
        ∙ ended_stops (connection_of index port))) (parted.each index)

    abbrev Ended : ℕ → List (Message T U) → Type 0
    Ended index borrowed = (box : Mailbox T) × (mailboxes (reader index) ≡ Some box) × (box.borrowed ≡ map (message_as name) borrowed)

    ended_by_case : (index : ℕ) → (connection_of index after).stage ≡ stage.Ended
        → HasStayed index (record port { stands = false }) after ⊎ HasEnded index (record port { stands = false }) after
        → Ended index (connection_of index port).borrowed
    ended_by_case index is (inl stays) =
        let before = boxes.ended index (ap (λ (one : Connection (Message T U)). one.stage) (sym stays.same) ∙ is) in
        (before.0, before.1, before.2)
    ended_by_case index is (inr ends) = (mailbox_as name (connection_of index port), boxes.live index ends.live, refl)

    alone_borrowed : (other : ℕ) → JoinsNobody reader other left → (box : Mailbox T) → mailboxes other ≡ Some box → box.borrowed ≡ []
    alone_borrowed other joins box is = ⊎_elim
        (λ found. ⊎_elim
        (λ stays. absurd (joins found.0 (ap is_there stays.same ∙ found.1) found.2))
        (λ ends.
        let was = connection_of found.0 port in
        let it : box ≡ mailbox_as name was =
        same_some box (mailbox_as name was) (sym is ∙ ap mailboxes (sym found.2) ∙ boxes.live found.0 ends.live) in
        ap (λ (one : Mailbox T). one.borrowed) it ∙ ap (map (message_as name)) (⊎_elim
        (λ kept. absurd (joins found.0 (ap is_there (ends.ends ∙ kept)) found.2))
        (λ gone. gone.1)
        (settles_to stage.Ended was.limit [] was.borrowed)))
        (parted.each found.0))
        (λ none. (boxes.others other none box is).0)
        (search_reader port.sender.uses.connections reader other)

    held_less : (index slot : ℕ) → times_held slot index left ≤ times_held slot index port
    held_less index slot = omega (
      arith,
      split (connection_of index after) slot,
      split (connection_of index port) slot,
      less_by index slot (parted.each index),
    )

    pub left_boxes : MailboxesStandFor name reader subscriber after mailboxes subscribers
    left_boxes =
        subst (λ (one : PublisherPort T U). MailboxesStandFor name reader subscriber one mailboxes subscribers) (sym parted.same)
        (record {
          live = live;
          ended = λ index is.
              let it = ended_by_case index is (parted.each index) in
              (it.0, it.1, it.2 ∙ ap (map (message_as name)) (sym (borrowed_same index)), λ standing. never_true standing);
          quiet = λ index is. ⊎_elim
              (λ stays. subst (λ (one : Connection (Message T U)). IsOnlyHeld one) (sym stays.same)
              (boxes.quiet index (ap (λ (one : Connection (Message T U)). one.stage) (sym stays.same) ∙ is)))
              (λ ends. subst (λ (one : Connection (Message T U)). IsOnlyHeld one) (sym ends.ends)
              (ended_quiet (connection_of index port) (ap (λ (one : Connection (Message T U)). one.stage) (sym ends.ends) ∙ is)))
              (parted.each index);
          others = λ other joins box is. (alone_borrowed other joins box is, λ standing. never_true standing);
          none = λ other joins standing. never_true standing;
          known = λ index there. boxes.known index (there_before index there);
          apart = λ one other is is_other same. boxes.apart one other (there_before one is) (there_before other is_other) same;
          led = λ index is. ⊎_elim
              (λ stays. ap is_some stays.reads
              ∙ boxes.led index (ap (λ (one : Connection (Message T U)). goes_on one.stage) (sym stays.same) ∙ is))
              (λ ends. differ (sym is ∙ ap (λ (one : Connection (Message T U)). goes_on one.stage) ends.ends
              ∙ ended_stops (connection_of index port))) (parted.each index);
          heard = λ index to is. ⊎_elim
              (λ stays. ap (λ (one : Connection (Message T U)). goes_on one.stage) stays.same
              ∙ boxes.heard index to (sym stays.reads ∙ is))
              (λ ends. never_some to (sym ends.none ∙ is)) (parted.each index);
          read = λ index to is. boxes.read index to (still_read index to is);
          unmet = λ standing. never_true standing;
          once = λ index slot. let before = boxes.once index slot in omega (arith, before, held_less index slot);
          due = λ message sending. never_some message (sym silent ∙ sending);
        })
