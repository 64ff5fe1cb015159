-- One connection of an existing publisher is replaced, and so is the mailbox of its subscriber.
use Rattle.std.proofs.Common.{◌≡◌, ◌≢◌, ◌≤◌, [], ℕ, true, false, List, get_or, map, Option, None, Some, sym, ap, subst, inl, inr, ◌∙◌}
use Rattle.std.proofs.lemmas.Bool.{cases_eq}
use Rattle.std.specs.Prelude.{is_some}
use Rattle.iox_domain.proofs.Numbered.{bool_false}
use Rattle.iox_domain.specs.DomainPorts.Messages.{Message}
use Rattle.iox_domain.specs.DomainPorts.Ports.{connection_of, goes_on, is_live}
use Rattle.iox_domain.specs.DomainPorts.declared.publisher_port.PublisherPort.{PublisherPort}
use Rattle.iox_domain.specs.DomainPorts.declared.reader.Reader.{Reader}
use Rattle.iox_domain.specs.DomainSlots.Counting.{times}
use Rattle.iox_domain.specs.DomainSlots.Uses.{Connection, held_by, is_open, is_there}
use Rattle.iox_domain.specs.DomainSlots.declared.stage.Stage.TheVariants as stage
use Rattle.iox_domain_machine.specs.Mailboxes.{IsOnlyHeld, MailboxesStandFor, JoinsNobody, times_held}
use Rattle.iox_domain_machine.specs.Naming.{message_as, mailbox_as}
use Rattle.iox_domain_machine.proofs.Found.{never_some}
use Rattle.iox_domain_machine.proofs.ReleasePort.{live_open}
use Rattle.iox_machine.specs.Mailbox.{Mailbox}
use Rattle.iox_machine.specs.Service.{Subscriber}
use Rattle.iox_machine.specs.Table.{at}

-- what holds of one index, and of each other, holds of all
pub everywhere : (P : ℕ → Type 0) (index : ℕ) → P index → ((other : ℕ) → other ≢ index → P other) → (other : ℕ) → P other
everywhere P index here there other = elim (cases_eq other index) [
  | inl same ↦ subst P (sym same) here
  | inr off ↦ there other off
]

-- What one connection of an existing publisher is in the machine, if its subscriber has this name and this mailbox.
pub record StandsAt {T U : Type 0} (name subscriber_name : ℕ → ℕ) (port : PublisherPort T U) (index its_name : ℕ)
    (box : Option (Mailbox T)) (subscribers : List (ℕ × Subscriber)) : Type 0 where
  pub live : is_live index port ≡ true → box ≡ Some (mailbox_as name (connection_of index port))
  pub ended : (connection_of index port).stage ≡ stage.Ended
      → (one : Mailbox T) × (box ≡ Some one) × (one.borrowed ≡ map (message_as name) (connection_of index port).borrowed)
      × (one.waiting ≡ []) × ((whose : Subscriber) → at its_name subscribers ≡ Some whose → whose.stands ≡ false)
  pub quiet : (connection_of index port).stage ≡ stage.Ended → IsOnlyHeld (connection_of index port)
  pub gone : is_there (connection_of index port) ≡ false → (one : Mailbox T) → box ≡ Some one
      → (one.borrowed ≡ []) × (one.waiting ≡ [])
  pub none : is_there (connection_of index port) ≡ false → (whose : Subscriber) → at its_name subscribers ≡ Some whose
      → whose.stands ≡ true → box ≡ None
  pub known : is_there (connection_of index port) ≡ true → is_some (at its_name subscribers) ≡ true
  pub led : is_live index port ≡ true → is_some (get_or port.readers index None) ≡ true
  pub read : (to : Reader) → get_or port.readers index None ≡ Some to
      → (its_name ≡ subscriber_name to.subscriber) × (subscriber_name to.subscriber ≢ 0)
  pub heard : (to : Reader) → get_or port.readers index None ≡ Some to → is_live index port ≡ true
  pub unmet : is_live index port ≡ true → ((place : ℕ) → get_or port.ties.items place None ≢ Some index)
      → held_by (connection_of index port) ≡ []
  pub once : (slot : ℕ) → times_held slot index port ≤ 1

-- Only one connection of a publisher changed, only its reader, only its name, and only the mailbox of this name.
pub record ChangesAt {T U : Type 0} (port after : PublisherPort T U) (reader new_reader : ℕ → ℕ)
    (mailboxes new_mailboxes : ℕ → Option (Mailbox T)) (index : ℕ) : Type 0 where
  pub standing : after.stands ≡ port.stands
  pub silent : after.sender.uses.sending ≡ None
  pub elsewhere : (other : ℕ) → other ≢ index → connection_of other after ≡ connection_of other port
  pub reads : (other : ℕ) → other ≢ index → get_or after.readers other None ≡ get_or port.readers other None
  pub called : (other : ℕ) → other ≢ index → new_reader other ≡ reader other
  pub apart : (other : ℕ) → other ≢ index → is_there (connection_of other port) ≡ true → reader other ≢ new_reader index
  pub same : is_there (connection_of index port) ≡ true → reader index ≡ new_reader index
  pub others : (other : ℕ) → other ≢ new_reader index → new_mailboxes other ≡ mailboxes other
  pub ties : (other place : ℕ) → other ≢ index → get_or port.ties.items place None ≡ Some other
      → get_or after.ties.items place None ≡ Some other

module _ {T U : Type 0} (name subscriber_name reader new_reader : ℕ → ℕ) (port after : PublisherPort T U) (index : ℕ)
    (mailboxes new_mailboxes : ℕ → Option (Mailbox T)) (subscribers : List (ℕ × Subscriber))
    (boxes : MailboxesStandFor name reader subscriber_name port mailboxes subscribers)
    (change : ChangesAt port after reader new_reader mailboxes new_mailboxes index)
    (here : StandsAt name subscriber_name after index (new_reader index) (new_mailboxes (new_reader index)) subscribers) where
  live_was : (other : ℕ) → other ≢ index → is_live other after ≡ true → is_live other port ≡ true
  live_was other off live = ap (λ (one : Connection (Message T U)). goes_on one.stage) (sym (change.elsewhere other off)) ∙ live

  there_was : (other : ℕ) → other ≢ index → is_there (connection_of other after) ≡ true → is_there (connection_of other port) ≡ true
  there_was other off there = ap is_there (sym (change.elsewhere other off)) ∙ there

  box_same : (other : ℕ) → other ≢ index → is_there (connection_of other port) ≡ true
      → new_mailboxes (new_reader other) ≡ mailboxes (reader other)
  box_same other off there = ap new_mailboxes (change.called other off) ∙ change.others (reader other) (change.apart other off there)

  abbrev Ended : ℕ → Type 0
  Ended other = (connection_of other after).stage ≡ stage.Ended
      → (box : Mailbox T) × (new_mailboxes (new_reader other) ≡ Some box)
      × (box.borrowed ≡ map (message_as name) (connection_of other after).borrowed)
      × (after.stands ≡ true → (box.waiting ≡ [])
      × ((one : Subscriber) → at (new_reader other) subscribers ≡ Some one → one.stands ≡ false))

  ended : (other : ℕ) → Ended other
  ended = everywhere Ended index
      (λ is. let it = here.ended is in (it.0, it.1, it.2, λ standing. (it.3, it.4)))
      (λ other off is.
      let was : (connection_of other port).stage ≡ stage.Ended =
      ap (λ (one : Connection (Message T U)). one.stage) (sym (change.elsewhere other off)) ∙ is in
      let before = boxes.ended other was in (
        before.0,
        box_same other off (ap is_open was) ∙ before.1,
        before.2 ∙ ap (λ (one : Connection (Message T U)). map (message_as name) one.borrowed) (sym (change.elsewhere other off)),
        λ standing.
            let it = before.3 (sym change.standing ∙ standing) in
            (it.0, λ one is_one. it.1 one (ap (λ n. at n subscribers) (sym (change.called other off)) ∙ is_one)),
      ))

  joins_before : (other : ℕ) → JoinsNobody new_reader other after → other ≢ new_reader index → JoinsNobody reader other port
  joins_before other joins off i there = elim (cases_eq i index) [
    | inl at_it ↦ λ same_name. off (sym same_name ∙ ap reader at_it
        ∙ change.same (ap (λ n. is_there (connection_of n port)) (sym at_it) ∙ there))
    | inr apart ↦ λ same_name. joins i (ap is_there (change.elsewhere i apart) ∙ there) (change.called i apart ∙ same_name)
  ]

  -- where nobody is joined by the name of the connection that changed, it isn't there
  isn't_there : (other : ℕ) → other ≡ new_reader index → JoinsNobody new_reader other after
      → is_there (connection_of index after) ≡ false
  isn't_there other same joins = bool_false _ (λ there. joins index there (sym same))

  others : (other : ℕ) → JoinsNobody new_reader other after → (box : Mailbox T) → new_mailboxes other ≡ Some box
      → (box.borrowed ≡ []) × (after.stands ≡ true → box.waiting ≡ [])
  others other joins box is = elim (cases_eq other (new_reader index)) [
    | inl same ↦
        let it = here.gone (isn't_there other same joins) box (ap new_mailboxes (sym same) ∙ is) in
        (it.0, λ standing. it.1)
    | inr off ↦
        let it = boxes.others other (joins_before other joins off) box (sym (change.others other off) ∙ is) in
        (it.0, λ standing. it.1 (sym change.standing ∙ standing))
  ]

  none : (other : ℕ) → JoinsNobody new_reader other after → after.stands ≡ true → (one : Subscriber) → at other subscribers ≡ Some one
      → one.stands ≡ true → new_mailboxes other ≡ None
  none other joins standing one is_one stands = elim (cases_eq other (new_reader index)) [
    | inl same ↦ ap new_mailboxes same
        ∙ here.none (isn't_there other same joins) one (ap (λ n. at n subscribers) (sym same) ∙ is_one) stands
    | inr off ↦ change.others other off
        ∙ boxes.none other (joins_before other joins off) (sym change.standing ∙ standing) one is_one stands
  ]

  apart_from : (other : ℕ) → other ≢ index → is_there (connection_of other after) ≡ true → new_reader other ≢ new_reader index
  apart_from other off there same = change.apart other off (there_was other off there) (sym (change.called other off) ∙ same)

  apart : (one other : ℕ) → is_there (connection_of one after) ≡ true → is_there (connection_of other after) ≡ true
      → new_reader one ≡ new_reader other → one ≡ other
  apart one other is_one is_other same = elim (cases_eq one index) [
    | inl one_here ↦ elim (cases_eq other index) [
      | inl other_here ↦ one_here ∙ sym other_here
      | inr other_off ↦ absurd (apart_from other other_off is_other (sym same ∙ ap new_reader one_here))
    ]
    | inr one_off ↦ elim (cases_eq other index) [
      | inl other_here ↦ absurd (apart_from one one_off is_one (same ∙ ap new_reader other_here))
      | inr other_off ↦ boxes.apart one other (there_was one one_off is_one) (there_was other other_off is_other)
          (sym (change.called one one_off) ∙ same ∙ change.called other other_off)
    ]
  ]

  pub boxes_changed : MailboxesStandFor name new_reader subscriber_name after new_mailboxes subscribers
  boxes_changed = record {
    live = everywhere (λ other. is_live other after ≡ true
        → new_mailboxes (new_reader other) ≡ Some (mailbox_as name (connection_of other after))) index here.live
        (λ other off is.
        let was = live_was other off is in
        box_same other off (live_open (connection_of other port).stage was) ∙ boxes.live other was
        ∙ ap (λ (one : Connection (Message T U)). Some (mailbox_as name one)) (sym (change.elsewhere other off)));
    ended = ended;
    quiet = everywhere (λ other. (connection_of other after).stage ≡ stage.Ended → IsOnlyHeld (connection_of other after)) index
        here.quiet
        (λ other off is. subst (λ (one : Connection (Message T U)). IsOnlyHeld one) (sym (change.elsewhere other off))
        (boxes.quiet other (ap (λ (one : Connection (Message T U)). one.stage) (sym (change.elsewhere other off)) ∙ is)));
    others = others;
    none = none;
    known = everywhere (λ other. is_there (connection_of other after) ≡ true → is_some (at (new_reader other) subscribers) ≡ true) index
        here.known
        (λ other off there. ap (λ n. is_some (at n subscribers)) (change.called other off)
        ∙ boxes.known other (there_was other off there));
    apart = apart;
    led = everywhere (λ other. is_live other after ≡ true → is_some (get_or after.readers other None) ≡ true) index here.led
        (λ other off is. ap is_some (change.reads other off) ∙ boxes.led other (live_was other off is));
    read = everywhere (λ other. (to : Reader) → get_or after.readers other None ≡ Some to
        → (new_reader other ≡ subscriber_name to.subscriber) × (subscriber_name to.subscriber ≢ 0)) index here.read
        (λ other off to is.
        let it = boxes.read other to (sym (change.reads other off) ∙ is) in (change.called other off ∙ it.0, it.1));
    heard = everywhere (λ other. (to : Reader) → get_or after.readers other None ≡ Some to → is_live other after ≡ true) index here.heard
        (λ other off to is. ap (λ (one : Connection (Message T U)). goes_on one.stage) (change.elsewhere other off)
        ∙ boxes.heard other to (sym (change.reads other off) ∙ is));
    unmet = λ standing. everywhere (λ other. is_live other after ≡ true
        → ((place : ℕ) → get_or after.ties.items place None ≢ Some other) → held_by (connection_of other after) ≡ []) index here.unmet
        (λ other off is untied. ap (λ (one : Connection (Message T U)). held_by one) (change.elsewhere other off)
        ∙ boxes.unmet (sym change.standing ∙ standing) other (live_was other off is)
        (λ place tie. untied place (change.ties other place off tie)));
    once = everywhere (λ other. (slot : ℕ) → times_held slot other after ≤ 1) index here.once
        (λ other off slot. subst (λ (one : Connection (Message T U)).
        times slot (map (λ (message : Message T U). message.slot) (held_by one)) ≤ 1) (sym (change.elsewhere other off))
        (boxes.once other slot));
    due = λ message sending. never_some message (sym change.silent ∙ sending);
  }
