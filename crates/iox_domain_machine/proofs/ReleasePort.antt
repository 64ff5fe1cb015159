-- A message is released at a connection of a publisher, and at the mailbox of the machine.
use Rattle.std.proofs.Common.{◌≡◌, ◌≢◌, ◌≤◌, ◌<◌, ◌⊎◌, ◌+◌, ◌∷◌, [], ◌++◌, ℕ, zero, suc, true, false, not, List, length, map, get_or, set}
use Rattle.std.proofs.Common.{Option, None, Some, refl, sym, ap, subst, inl, inr, ◌∙◌, arith}
use Rattle.std.proofs.Math.Logic.{⊎_elim}
use Rattle.std.proofs.lemmas.Bool.{cases_eq}
use Rattle.std.proofs.lemmas.List.{get_or-set_same, get_or-set_other, map-append}
use Rattle.std.specs.List.{position_or_len, remove}
use Rattle.std.specs.Prelude.{filter, option_to_list, ◌==◌}
use Rattle.iox_domain.proofs.DomainPorts.Kept.{give_back_holds}
use Rattle.iox_domain.proofs.DomainPorts.Naming.{connection_at_by, with_connection_by, given_back_by}
use Rattle.iox_domain.proofs.DomainSlots.Counts.{times_append}
use Rattle.iox_domain.proofs.WellKept.{settled_goes}
use Rattle.iox_domain.specs.DomainPorts.Messages.{Message}
use Rattle.iox_domain.specs.DomainPorts.MessagesSending.{slots_of, connection_by}
use Rattle.iox_domain.specs.DomainPorts.Ports.{connection_of, with_connection_of, goes_on, is_live}
use Rattle.iox_domain.specs.DomainPorts.declared.publisher_port.PublisherPort.{PublisherPort}
use Rattle.iox_domain.specs.DomainSlots.Counting.{times}
use Rattle.iox_domain.specs.DomainSlots.Uses.{Connection, Uses, nobody, settled, given_back, connection_at, held, held_by, in_use}
use Rattle.iox_domain.specs.DomainSlots.Uses.{is_open, is_there, with_connection}
use Rattle.iox_domain.specs.DomainSlots.declared.stage.Stage.{Stage}
use Rattle.iox_domain.specs.DomainSlots.declared.stage.Stage.TheVariants as stage
use Rattle.iox_domain.specs.PortLawsLaws.{IsTidy}
use Rattle.iox_domain_machine.specs.Mailboxes.{MailboxesStandFor, JoinsNobody, times_held}
use Rattle.iox_domain_machine.specs.Naming.{message_as, mailbox_as}
use Rattle.iox_domain_machine.specs.Publishers.{PublisherStandsFor, NamesSlots}
use Rattle.iox_domain_machine.proofs.Found.{same_some}
use Rattle.iox_domain_machine.proofs.Named.{named_less, lent_used}
use Rattle.iox_domain_machine.proofs.Quiet.{back_quiet}
use Rattle.iox_domain_machine.proofs.ReleaseOthers.{in_others, removed_is, named_in_others, NamesAlone}
use Rattle.iox_machine.proofs.Shorthands as shorthands
use Rattle.iox_machine.specs.Mailbox.{Mailbox}
use Rattle.iox_machine.specs.Message as messages
use Rattle.iox_machine.specs.Service.{Publisher, Subscriber}
use Rattle.iox_machine.specs.Table.{at}

pub differ : {A : Type 0} → true ≡ false → A
differ e = absurd (wrong e)
  where
    wrong : true ≡ false → ⊥
    wrong e = cc

-- what is held at one connection is held less often, or as often
pub less_held : (connections : List (Connection ℕ)) (index : ℕ) (connection : Connection ℕ) (slot : ℕ)
    → times slot (held_by connection) ≤ times slot (held_by (get_or connections index nobody))
    → times slot (held (set connections index connection)) ≤ times slot (held connections)
less_held [] index connection slot less = omega arith
less_held (first ∷ rest) zero connection slot less =
    omega (arith, less, times_append slot (held_by first) (held rest), times_append slot (held_by connection) (held rest))
less_held (first ∷ rest) (suc index) connection slot less = omega (
  arith,
  less_held rest index connection slot less,
  times_append slot (held_by first) (held rest),
  times_append slot (held_by first) (held (set rest index connection)),
)

borrowed_held : (slot index : ℕ) (connections : List (Connection ℕ))
    → times slot (get_or connections index nobody).borrowed ≤ times slot (held connections)
borrowed_held slot index [] = omega arith
borrowed_held slot zero (first ∷ rest) =
    omega (arith, times_append slot (held_by first) (held rest), times_append slot first.waiting first.borrowed)
borrowed_held slot (suc index) (first ∷ rest) =
    omega (arith, times_append slot (held_by first) (held rest), borrowed_held slot index rest)

pub used : (slot : ℕ) (uses : Uses ℕ ℕ)
    → times slot (in_use uses)
    ≡ times slot (option_to_list uses.sending) + (times slot uses.loans + (times slot uses.history + times slot (held uses.connections)))
used slot uses = omega (
  arith,
  times_append slot (option_to_list uses.sending) (uses.loans ++ (uses.history ++ held uses.connections)),
  times_append slot uses.loans (uses.history ++ held uses.connections),
  times_append slot uses.history (held uses.connections),
)

pub within_by : {X : Type 0} (connections : List (Connection X)) (index : ℕ) → get_or connections index nobody ≢ nobody
    → index < length connections
within_by [] index some = absurd (some refl)
within_by (first ∷ rest) zero some = omega arith
within_by (first ∷ rest) (suc index) some = let more = within_by rest index some in omega (arith, more)

-- A connection after a release: it stays as it is after the release, or it is removed, as it ended and all its messages were
-- released.
abbrev pub SettlesTo : {X : Type 0} → Stage → ℕ → List X → List X → Type 0
SettlesTo now limit waiting borrowed =
    (settled now limit waiting borrowed ≡ record { stage = now; limit = limit; waiting = waiting; borrowed = borrowed })
    ⊎ ((now ≡ stage.Ended) × (borrowed ≡ []) × (settled now limit waiting borrowed ≡ nobody))

pub settles_to : {X : Type 0} (now : Stage) (limit : ℕ) (waiting borrowed : List X) → SettlesTo now limit waiting borrowed
settles_to stage.Vacant limit waiting borrowed = inl refl
settles_to stage.Live limit waiting borrowed = inl refl
settles_to stage.Ended limit waiting [] = inr (refl, refl, refl)
settles_to stage.Ended limit waiting (one ∷ borrowed) = inl refl

pub live_open : (now : Stage) → goes_on now ≡ true → is_open now ≡ true
live_open stage.Vacant is = is
live_open stage.Live is = refl
live_open stage.Ended is = refl

pub live_isn't_ended : {A : Type 0} (now : Stage) → goes_on now ≡ true → now ≡ stage.Ended → A
live_isn't_ended now is ended = differ (sym is ∙ ap goes_on ended)

module _ {T U : Type 0} (port : PublisherPort T U) (index slot : ℕ) (tidy : IsTidy port)
    (counts : 0 < times slot (map (λ (message : Message T U). message.slot) (connection_of index port).borrowed))
    (once : times slot (map (λ (message : Message T U). message.slot) (connection_of index port).borrowed) ≤ 1) where
  abbrev slot_of : Message T U → ℕ
  slot_of message = message.slot

  abbrev was : Connection (Message T U)
  was = connection_of index port

  abbrev back : Connection (Message T U)
  back = given_back (position_or_len (λ (message : Message T U). message.slot == slot) was.borrowed) was

  abbrev pub after : PublisherPort T U
  after = with_connection_of index back port

  abbrev rest : List (Message T U)
  rest = in_others slot_of slot was.borrowed

  some : was ≢ nobody
  some none =
      let nothing = ap (λ (connection : Connection (Message T U)). times slot (map slot_of connection.borrowed)) none in
      absurd (omega (arith, counts, nothing))

  here : connection_of index after ≡ back
  here = get_or-set_same port.sender.uses.connections index back nobody (within_by port.sender.uses.connections index some)

  elsewhere : (other : ℕ) → other ≢ index → connection_of other after ≡ connection_of other port
  elsewhere other off = get_or-set_other port.sender.uses.connections index other back nobody off

  removed : remove was.borrowed (position_or_len (λ (message : Message T U). message.slot == slot) was.borrowed) ≡ rest
  removed = removed_is slot_of slot was.borrowed once

  back_is : back ≡ settled was.stage was.limit was.waiting rest
  back_is = ap (λ (borrowed : List (Message T U)). settled was.stage was.limit was.waiting borrowed) removed

  given : SettlesTo was.stage was.limit was.waiting rest
  given = settles_to was.stage was.limit was.waiting rest

  pub borrowed_now : (connection_of index after).borrowed ≡ rest
  borrowed_now = ap (λ (connection : Connection (Message T U)). connection.borrowed) (here ∙ back_is) ∙ ⊎_elim
      (λ kept. ap (λ (connection : Connection (Message T U)). connection.borrowed) kept)
      (λ gone. ap (λ (connection : Connection (Message T U)). connection.borrowed) gone.2 ∙ sym gone.1) given

  pub borrowed_elsewhere : (other : ℕ) → other ≢ index → (connection_of other after).borrowed ≡ (connection_of other port).borrowed
  borrowed_elsewhere other off = ap (λ (connection : Connection (Message T U)). connection.borrowed) (elsewhere other off)

  -- a connection that goes on then did before
  live_before : (other : ℕ) → is_live other after ≡ true → is_live other port ≡ true
  live_before other live = ⊎_elim
      (λ same. ap (λ i. is_live i port) same
      ∙ sym (settled_goes was.stage was.limit was.waiting _)
      ∙ sym (ap (λ i. is_live i after) same ∙ ap (λ (connection : Connection (Message T U)). goes_on connection.stage) here) ∙ live)
      (λ off. ap (λ (connection : Connection (Message T U)). goes_on connection.stage) (sym (elsewhere other off)) ∙ live)
      (cases_eq other index)

  -- and one that went on before does still
  live_still : (other : ℕ) → is_live other port ≡ true → is_live other after ≡ true
  live_still other live = ⊎_elim
      (λ same. ap (λ i. is_live i after) same ∙ ap (λ (connection : Connection (Message T U)). goes_on connection.stage) here
      ∙ settled_goes was.stage was.limit was.waiting _ ∙ sym (ap (λ i. is_live i port) same) ∙ live)
      (λ off. ap (λ (connection : Connection (Message T U)). goes_on connection.stage) (elsewhere other off) ∙ live)
      (cases_eq other index)

  is_there_here : is_there was ≡ true
  is_there_here = by was.stage refl
    where
      by : (now : Stage) → was.stage ≡ now → is_there was ≡ true
      by stage.Vacant vacant = absurd (some (tidy index vacant))
      by stage.Live is = ap is_open is
      by stage.Ended is = ap is_open is

  there_before : (other : ℕ) → is_there (connection_of other after) ≡ true → is_there (connection_of other port) ≡ true
  there_before other there = ⊎_elim
      (λ same. ap (λ i. is_there (connection_of i port)) same ∙ is_there_here)
      (λ off. ap is_there (sym (elsewhere other off)) ∙ there)
      (cases_eq other index)

  pub tidy_after : IsTidy after
  tidy_after other vacant = ⊎_elim
      (λ same. ap (λ i. connection_of i after) same ∙ here
      ∙ back_is ∙ ⊎_elim
      (λ kept. absurd (some (tidy index (ap (λ (connection : Connection (Message T U)). connection.stage) (sym kept)
      ∙ ap (λ (connection : Connection (Message T U)). connection.stage) (sym back_is)
      ∙ ap (λ (connection : Connection (Message T U)). connection.stage) (sym here)
      ∙ ap (λ i. (connection_of i after).stage) (sym same) ∙ vacant))))
      (λ gone. gone.2) given)
      (λ off. elsewhere other off
      ∙ tidy other (ap (λ (connection : Connection (Message T U)). connection.stage) (sym (elsewhere other off)) ∙ vacant))
      (cases_eq other index)

  -- nothing is used more often
  abbrev seen : Connection ℕ
  seen = connection_at index (slots_of port.sender)

  seen_is : seen ≡ connection_by slot_of was
  seen_is = connection_at_by (λ loan. loan.slot) slot_of index port.sender.uses

  less_back : (other : ℕ) → times other (held_by (connection_by slot_of back)) ≤ times other (held_by (connection_by slot_of was))
  less_back other =
      let place = position_or_len (λ (message : Message T U). message.slot == slot) was.borrowed in
      let same = ap (λ (connection : Connection ℕ). times other (held_by connection)) (given_back_by slot_of place was) in
      omega (arith, same, give_back_holds place (connection_by slot_of was) other)

  fewer_used : (other : ℕ) → times other (in_use (slots_of after.sender)) ≤ times other (in_use (slots_of port.sender))
  fewer_used other =
      let uses : Uses ℕ ℕ = slots_of port.sender in
      let same : slots_of after.sender ≡ with_connection index (connection_by slot_of back) uses =
      with_connection_by (λ loan. loan.slot) slot_of index back port.sender.uses in
      let same_seen = ap (λ (connection : Connection ℕ). times other (held_by connection)) seen_is in
      let less = less_held uses.connections index (connection_by slot_of back) other (omega (arith, less_back other, same_seen)) in
      omega (
        arith,
        ap (λ (one : Uses ℕ ℕ). times other (in_use one)) same,
        less,
        used other uses,
        used other (with_connection index (connection_by slot_of back) uses),
      )

  borrowed_used : (other : ℕ) → 0 < times other (map slot_of was.borrowed) → 0 < times other (in_use (slots_of port.sender))
  borrowed_used other is =
      let same = ap (λ (connection : Connection ℕ). times other connection.borrowed) seen_is in
      omega (
        arith,
        is,
        same,
        borrowed_held other index (slots_of port.sender).connections,
        used other (slots_of port.sender),
      )

  pub port_after : (name reader : ℕ → ℕ) (most : ℕ) (publisher : Publisher T) → PublisherStandsFor name reader most port publisher
      → PublisherStandsFor name reader most after publisher
  port_after name reader most publisher is = record {
    factory = is.factory;
    stands = is.stands;
    max_loaned_samples = is.max_loaned_samples;
    allocation = is.allocation;
    slots = is.slots;
    room = is.room;
    segments = is.segments;
    last_sequence = is.last_sequence;
    history = is.history;
    once = is.once;
    seen = is.seen;
    connected = is.connected;
    ties = is.ties;
    blocked = is.blocked;
    left = is.left;
    named = named_less name (slots_of port.sender) (slots_of after.sender) publisher.first publisher.next refl refl fewer_used
        (λ slot. omega arith) (λ slot. lent_used (slots_of after.sender) slot) is.named;
    unit = is.unit;
    most_segments = is.most_segments;
    ample = is.ample;
  }

  -- whoever has the name of the slot is in it
  pub alone : (name : ℕ → ℕ) (first next : ℕ) → NamesSlots name (slots_of port.sender) first next → NamesAlone name slot was.borrowed
  alone name first next named other is same = named.apart other slot (borrowed_used other is) (borrowed_used slot counts) same

  split : (connection : Connection (Message T U)) (other : ℕ)
      → times other (map slot_of (held_by connection)) ≡ times other (held_by (connection_by slot_of connection))
  split connection other = ap (times other) (map-append slot_of connection.waiting connection.borrowed)

  held_less : (other i : ℕ) → times_held other i after ≤ times_held other i port
  held_less other i = ⊎_elim
      (λ same.
      let now = ap (λ i. times_held other i after) same in
      let before = ap (λ i. times_held other i port) same in
      let at_here = ap (λ (connection : Connection (Message T U)). times other (map slot_of (held_by connection))) here in
      omega (arith, now, before, at_here, split back other, split was other, less_back other))
      (λ off.
      let same = ap (λ (connection : Connection (Message T U)). times other (map slot_of (held_by connection))) (elsewhere i off) in
      omega (arith, same))
      (cases_eq i index)

  module _ (name reader subscriber : ℕ → ℕ) (mailboxes new_mailboxes : ℕ → Option (Mailbox T)) (subscribers : List (ℕ × Subscriber))
      (boxes : MailboxesStandFor name reader subscriber port mailboxes subscribers) (only : NamesAlone name slot was.borrowed)
      (box : Mailbox T) (box_there : mailboxes (reader index) ≡ Some box)
      (now : new_mailboxes (reader index) ≡ Some (shorthands.given_back (name slot) box))
      (others : (other : ℕ) → other ≢ reader index → new_mailboxes other ≡ mailboxes other) where
    abbrev new_box : Mailbox T
    new_box = shorthands.given_back (name slot) box

    filtered : filter (λ (message : messages.Message T). not (message.number == name slot)) (map (message_as name) was.borrowed)
        ≡ map (message_as name) rest
    filtered = named_in_others name slot was.borrowed only

    new_borrowed : box.borrowed ≡ map (message_as name) was.borrowed → new_box.borrowed ≡ map (message_as name) rest
    new_borrowed same =
        ap (λ borrowed. filter (λ (message : messages.Message T). not (message.number == name slot)) borrowed) same ∙ filtered

    -- the box of a connection that ended
    ended_box : was.stage ≡ stage.Ended
        → (box.borrowed ≡ map (message_as name) was.borrowed)
        × (port.stands ≡ true → (box.waiting ≡ []) × ((one : Subscriber) → at (reader index) subscribers ≡ Some one → one.stands ≡ false))
    ended_box is =
        let ended = boxes.ended index is in
        let same : box ≡ ended.0 = same_some box ended.0 (sym box_there ∙ ended.1) in (
          ap (λ (one : Mailbox T). one.borrowed) same ∙ ended.2,
          λ standing. (ap (λ (one : Mailbox T). one.waiting) same ∙ (ended.3 standing).0, (ended.3 standing).1),
        )

    off_reader : (i : ℕ) → i ≢ index → is_there (connection_of i port) ≡ true → reader i ≢ reader index
    off_reader i off there same = off (boxes.apart i index there is_there_here same)

    live : (i : ℕ) → is_live i after ≡ true → new_mailboxes (reader i) ≡ Some (mailbox_as name (connection_of i after))
    live i is = ⊎_elim
        (λ same.
        let live_was : is_live index port ≡ true = ap (λ i. is_live i port) (sym same) ∙ live_before i is in
        let it : box ≡ mailbox_as name was = same_some box (mailbox_as name was) (sym box_there ∙ boxes.live index live_was) in
        ap (λ i. new_mailboxes (reader i)) same ∙ now
        ∙ ap (λ (one : Mailbox T). Some (shorthands.given_back (name slot) one)) it
        ∙ ap (λ (borrowed : List (messages.Message T)). Some (record (mailbox_as name was) { borrowed = borrowed })) filtered
        ∙ ⊎_elim
        (λ kept. ap (λ (connection : Connection (Message T U)). Some (mailbox_as name connection)) (sym (here ∙ back_is ∙ kept)))
        (λ gone. live_isn't_ended was.stage live_was gone.0) given
        ∙ ap (λ i. Some (mailbox_as name (connection_of i after))) (sym same))
        (λ off.
        let live_was = live_before i is in
        others (reader i) (off_reader i off (live_open (connection_of i port).stage live_was)) ∙ boxes.live i live_was
        ∙ ap (λ (connection : Connection (Message T U)). Some (mailbox_as name connection)) (sym (elsewhere i off)))
        (cases_eq i index)

    abbrev Ended : ℕ → List (Message T U) → Type 0
    Ended i borrowed =
        (box : Mailbox T) × (new_mailboxes (reader i) ≡ Some box) × (box.borrowed ≡ map (message_as name) borrowed)
        × (port.stands ≡ true → (box.waiting ≡ []) × ((one : Subscriber) → at (reader i) subscribers ≡ Some one → one.stands ≡ false))

    ended_here : (connection_of index after).stage ≡ stage.Ended → Ended index (connection_of index after).borrowed
    ended_here is =
        let back_ended : (settled was.stage was.limit was.waiting rest).stage ≡ stage.Ended =
        ap (λ (connection : Connection (Message T U)). connection.stage) (sym (here ∙ back_is)) ∙ is in
        let was_ended : was.stage ≡ stage.Ended = ⊎_elim
        (λ kept. ap (λ (connection : Connection (Message T U)). connection.stage) (sym kept) ∙ back_ended)
        (λ gone. gone.0) given in
        let ended = ended_box was_ended in (
          new_box,
          now,
          new_borrowed ended.0 ∙ ap (map (message_as name)) (sym borrowed_now),
          ended.1,
        )

    ended : (i : ℕ) → (connection_of i after).stage ≡ stage.Ended → Ended i (connection_of i after).borrowed
    ended i is = ⊎_elim
        (λ same. subst (λ i. Ended i (connection_of i after).borrowed) (sym same)
        (ended_here (ap (λ i. (connection_of i after).stage) (sym same) ∙ is)))
        (λ off.
        let was_ended : (connection_of i port).stage ≡ stage.Ended =
        ap (λ (connection : Connection (Message T U)). connection.stage) (sym (elsewhere i off)) ∙ is in
        let before = boxes.ended i was_ended in (
          before.0,
          others (reader i) (off_reader i off (ap is_open was_ended)) ∙ before.1,
          before.2 ∙ ap (map (message_as name)) (sym (borrowed_elsewhere i off)),
          before.3,
        ))
        (cases_eq i index)

    joins_before : (other : ℕ) → JoinsNobody reader other after → other ≢ reader index → JoinsNobody reader other port
    joins_before other joins off i there = ⊎_elim
        (λ same same_reader. off (sym same_reader ∙ ap reader same))
        (λ apart. joins i (ap is_there (elsewhere i apart) ∙ there))
        (cases_eq i index)

    -- a mailbox that is no connection's any longer was that of one that ended
    gone_by : (other : ℕ) → JoinsNobody reader other after → other ≡ reader index → (was.stage ≡ stage.Ended) × (rest ≡ [])
    gone_by other joins same = ⊎_elim
        (λ kept. absurd (joins index (ap is_there (here ∙ back_is ∙ kept) ∙ is_there_here) (sym same)))
        (λ gone. (gone.0, gone.1)) given

    alone_boxes : (other : ℕ) → JoinsNobody reader other after → (one : Mailbox T) → new_mailboxes other ≡ Some one
        → (one.borrowed ≡ []) × (port.stands ≡ true → one.waiting ≡ [])
    alone_boxes other joins one is = ⊎_elim
        (λ same.
        let gone = gone_by other joins same in
        let it : one ≡ new_box = same_some one new_box (sym is ∙ ap new_mailboxes same ∙ now) in
        let ended = ended_box gone.0 in (
          ap (λ (one : Mailbox T). one.borrowed) it ∙ new_borrowed ended.0 ∙ ap (map (message_as name)) gone.1,
          λ standing. ap (λ (one : Mailbox T). one.waiting) it ∙ (ended.1 standing).0,
        ))
        (λ off. boxes.others other (joins_before other joins off) one (sym (others other off) ∙ is))
        (cases_eq other (reader index))

    none : (other : ℕ) → JoinsNobody reader other after → port.stands ≡ true → (one : Subscriber) → at other subscribers ≡ Some one
        → one.stands ≡ true → new_mailboxes other ≡ None
    none other joins standing one is one_stands = ⊎_elim
        (λ same.
        let gone = gone_by other joins same in
        differ (sym one_stands ∙ ((ended_box gone.0).1 standing).1 one (ap (λ n. at n subscribers) (sym same) ∙ is)))
        (λ off. others other off ∙ boxes.none other (joins_before other joins off) standing one is one_stands)
        (cases_eq other (reader index))

    unmet : port.stands ≡ true → (i : ℕ) → is_live i after ≡ true → ((place : ℕ) → get_or port.ties.items place None ≢ Some i)
        → held_by (connection_of i after) ≡ []
    unmet standing i is untied = ⊎_elim
        (λ same.
        let none = boxes.unmet standing i (live_before i is) untied in
        absurd (omega (
          arith,
          counts,
          split was slot,
          times_append slot (map slot_of was.waiting) (map slot_of was.borrowed),
          ap (λ (all : List (Message T U)). times slot (map slot_of all)) none,
          ap (λ i. times slot (map slot_of (held_by (connection_of i port)))) same,
        )))
        (λ off. ap (λ (connection : Connection (Message T U)). held_by connection) (elsewhere i off)
        ∙ boxes.unmet standing i (live_before i is) untied)
        (cases_eq i index)

    pub boxes_after : MailboxesStandFor name reader subscriber after new_mailboxes subscribers
    boxes_after = record {
      live = live;
      ended = ended;
      quiet = back_quiet index (position_or_len (λ (message : Message T U). message.slot == slot) was.borrowed) port boxes.quiet;
      others = alone_boxes;
      none = none;
      known = λ i there. boxes.known i (there_before i there);
      apart = λ one other is is_other same. boxes.apart one other (there_before one is) (there_before other is_other) same;
      led = λ i is. boxes.led i (live_before i is);
      heard = λ i to is. live_still i (boxes.heard i to is);
      read = boxes.read;
      unmet = unmet;
      once = λ i other. let before = boxes.once i other in omega (arith, before, held_less other i);
      due = λ message sending place i later tied.
          let before = boxes.due message sending place i later tied in omega (arith, before, held_less message.slot i);
    }
