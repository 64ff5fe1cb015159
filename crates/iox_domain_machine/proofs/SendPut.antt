-- A message is put at one connection of a publisher, and at its mailbox; the others stay.
use Rattle.std.proofs.Common.{◌≡◌, ◌≢◌, ◌≤◌, ◌<◌, [], ℕ, Bool, true, false, List, get_or, map, Option, None, Some, refl, sym, ap, subst}
use Rattle.std.proofs.Common.{◌∙◌, arith}
use Rattle.std.proofs.Math.Logic.{⊎_elim}
use Rattle.std.proofs.lemmas.Bool.{cases_eq}
use Rattle.std.proofs.lemmas.Bool.Decides.{eqb_tells}
use Rattle.std.proofs.lemmas.List.{get_or-set_same, get_or-set_other}
use Rattle.iox_domain.proofs.DomainSlots.Counts.{one_at_most, one_other}
use Rattle.iox_domain.proofs.Once.{live_within}
use Rattle.iox_domain.specs.DomainPorts.Messages.{Message}
use Rattle.iox_domain.specs.DomainPorts.Ports.{connection_of, is_live, goes_on, with_connection_of}
use Rattle.iox_domain.specs.DomainPorts.Progress.{ProgressState}
use Rattle.iox_domain.specs.DomainPorts.declared.publisher_port.PublisherPort.{PublisherPort}
use Rattle.iox_domain.specs.DomainSlots.Counting.{times}
use Rattle.iox_domain.specs.DomainSlots.Uses.{Connection, nobody, held_by, is_there, is_open, offered}
use Rattle.iox_domain.specs.DomainSlots.declared.stage.Stage.TheVariants as stage
use Rattle.iox_domain.specs.PortLawsLaws.{AreTiesApart}
use Rattle.iox_domain_machine.specs.Mailboxes.{IsOnlyHeld, MailboxesStandFor, JoinsNobody, times_held}
use Rattle.iox_domain_machine.specs.Naming.{message_as, mailbox_as}
use Rattle.iox_domain_machine.proofs.ReleasePort.{live_open, live_isn't_ended}
use Rattle.iox_domain_machine.proofs.LendingUses.{message_slots}
use Rattle.iox_domain_machine.proofs.SendBoxes.{held_more}
use Rattle.iox_machine.specs.Mailbox.{Mailbox}
use Rattle.iox_machine.specs.Service.{Subscriber}
use Rattle.iox_machine.specs.Table.{at}

module _ {T U : Type 0} (name reader subscriber_name : ℕ → ℕ) (port : PublisherPort T U) (progress : ProgressState)
    (mailboxes : ℕ → Option (Mailbox T)) (subscribers : List (ℕ × Subscriber))
    (boxes : MailboxesStandFor name reader subscriber_name port mailboxes subscribers) where
  -- the mailboxes are as they were where a send comes further
  pub further : port.progress.place ≤ progress.place
      → MailboxesStandFor name reader subscriber_name (record port { progress = progress }) mailboxes subscribers
  further on = record {
    live = boxes.live;
    ended = boxes.ended;
    quiet = boxes.quiet;
    others = boxes.others;
    none = boxes.none;
    known = boxes.known;
    apart = boxes.apart;
    led = boxes.led;
    read = boxes.read;
    heard = boxes.heard;
    unmet = boxes.unmet;
    once = boxes.once;
    due = λ message sending place index later tied. boxes.due message sending place index (omega (arith, on, later)) tied;
  }

module _ {T U : Type 0} (port : PublisherPort T U) (overflows : Bool) (message : Message T U) (index : ℕ)
    (live : is_live index port ≡ true) where
  abbrev was : Connection (Message T U)
  was = connection_of index port

  -- the publisher, where the message was put at a connection
  abbrev pub given : PublisherPort T U
  given = with_connection_of index (offered overflows message was) port

  here : connection_of index given ≡ offered overflows message was
  here = get_or-set_same port.sender.uses.connections index (offered overflows message was) nobody (live_within index port live)

  pub elsewhere : (i : ℕ) → i ≢ index → connection_of i given ≡ connection_of i port
  elsewhere i off = get_or-set_other port.sender.uses.connections index i (offered overflows message was) nobody off

  -- what holds of that connection, and of each that is as it was, holds of each
  pub each_given : (P : ℕ → Connection (Message T U) → Type 0) → P index (offered overflows message was)
      → ((i : ℕ) → P i (connection_of i port)) → (i : ℕ) → P i (connection_of i given)
  each_given P it others i = ⊎_elim
      (λ same. subst (λ n. P n (connection_of n given)) (sym same) (subst (P index) (sym here) it))
      (λ off. subst (P i) (sym (elsewhere i off)) (others i))
      (cases_eq i index)

  pub same_stage : (i : ℕ) → (connection_of i given).stage ≡ (connection_of i port).stage
  same_stage = each_given (λ i connection. connection.stage ≡ (connection_of i port).stage) refl (λ i. refl)

  pub same_borrowed : (i : ℕ) → (connection_of i given).borrowed ≡ (connection_of i port).borrowed
  same_borrowed = each_given (λ i connection. connection.borrowed ≡ (connection_of i port).borrowed) refl (λ i. refl)

  live_before : (i : ℕ) → is_live i given ≡ true → is_live i port ≡ true
  live_before i is = ap goes_on (sym (same_stage i)) ∙ is

  there_before : (i : ℕ) → is_there (connection_of i given) ≡ true → is_there (connection_of i port) ≡ true
  there_before i is = ap is_open (sym (same_stage i)) ∙ is

  ended_before : (i : ℕ) → (connection_of i given).stage ≡ stage.Ended → (connection_of i port).stage ≡ stage.Ended
  ended_before i is = sym (same_stage i) ∙ is

  not_here : (i : ℕ) → (connection_of i port).stage ≡ stage.Ended → i ≢ index
  not_here i ended same =
      live_isn't_ended was.stage live (ap (λ n. (connection_of n port).stage) (sym same) ∙ ended)

  there : is_there was ≡ true
  there = live_open was.stage live

  module _ (name reader subscriber_name : ℕ → ℕ) (mailboxes new_mailboxes : ℕ → Option (Mailbox T)) (subscribers : List (ℕ × Subscriber))
      (boxes : MailboxesStandFor name reader subscriber_name port mailboxes subscribers) (progress : ProgressState) (place : ℕ)
      (sending : port.sender.uses.sending ≡ Some message) (apart : AreTiesApart port)
      (tied : get_or port.ties.items place None ≡ Some index) (from : port.progress.place ≤ place) (on : place < progress.place)
      (now : new_mailboxes (reader index) ≡ Some (mailbox_as name (offered overflows message was)))
      (others : (other : ℕ) → other ≢ reader index → new_mailboxes other ≡ mailboxes other) where
    abbrev after : PublisherPort T U
    after = record given { progress = progress }

    off_reader : (i : ℕ) → i ≢ index → is_there (connection_of i port) ≡ true → reader i ≢ reader index
    off_reader i off is same = off (boxes.apart i index is there same)

    live_after : (i : ℕ) → is_live i given ≡ true → new_mailboxes (reader i) ≡ Some (mailbox_as name (connection_of i given))
    live_after i is = ⊎_elim
        (λ same.
        ap (λ n. new_mailboxes (reader n)) same ∙ now
        ∙ sym (ap (λ n. Some (mailbox_as name (connection_of n given))) same
        ∙ ap (λ (connection : Connection (Message T U)). Some (mailbox_as name connection)) here))
        (λ off.
        let before = live_before i is in
        others (reader i) (off_reader i off (live_open (connection_of i port).stage before)) ∙ boxes.live i before
        ∙ ap (λ (connection : Connection (Message T U)). Some (mailbox_as name connection)) (sym (elsewhere i off)))
        (cases_eq i index)

    ended_after : (i : ℕ) → (connection_of i given).stage ≡ stage.Ended
        → (box : Mailbox T) × (new_mailboxes (reader i) ≡ Some box)
        × (box.borrowed ≡ map (message_as name) (connection_of i given).borrowed)
        × (port.stands ≡ true → (box.waiting ≡ [])
        × ((one : Subscriber) → at (reader i) subscribers ≡ Some one → one.stands ≡ false))
    ended_after i is =
        let ended = ended_before i is in
        let before = boxes.ended i ended in (
          before.0,
          others (reader i) (off_reader i (not_here i ended) (ap is_open ended)) ∙ before.1,
          before.2 ∙ ap (map (message_as name)) (sym (same_borrowed i)),
          before.3,
        )

    quiet_after : (i : ℕ) → (connection_of i given).stage ≡ stage.Ended → IsOnlyHeld (connection_of i given)
    quiet_after i is =
        let ended = ended_before i is in
        subst (λ (connection : Connection (Message T U)). IsOnlyHeld connection) (sym (elsewhere i (not_here i ended)))
        (boxes.quiet i ended)

    joins_before : (other : ℕ) → JoinsNobody reader other given → JoinsNobody reader other port
    joins_before other joins i is = joins i (ap is_open (same_stage i) ∙ is)

    not_joined : (other : ℕ) → JoinsNobody reader other given → other ≢ reader index
    not_joined other joins same = joins index (ap is_open (same_stage index) ∙ there) (sym same)

    unmet_after : port.stands ≡ true → (i : ℕ) → is_live i given ≡ true
        → ((one : ℕ) → get_or port.ties.items one None ≢ Some i) → held_by (connection_of i given) ≡ []
    unmet_after standing i is untied =
        ap (λ (connection : Connection (Message T U)). held_by connection)
        (elsewhere i (λ same. untied place (tied ∙ ap (λ n. Some n) (sym same))))
        ∙ boxes.unmet standing i (live_before i is) untied

    -- the message is put there once
    once_here : (slot : ℕ) → times slot (message_slots (held_by (offered overflows message was))) ≤ 1
    once_here slot = ⊎_elim
        (λ same. omega (
          arith,
          held_more message overflows slot was,
          one_at_most slot message.slot,
          boxes.due message sending place index from tied,
          ap (λ n. times n (message_slots (held_by was))) same.1,
        ))
        (λ off. omega (arith, held_more message overflows slot was, one_other slot message.slot off.0, boxes.once index slot))
        (eqb_tells slot message.slot)

    once_after : (i slot : ℕ) → times_held slot i given ≤ 1
    once_after i slot =
        each_given (λ n connection. times slot (message_slots (held_by connection)) ≤ 1) (once_here slot) (λ n. boxes.once n slot) i

    due_after : (sent : Message T U) → port.sender.uses.sending ≡ Some sent → (other i : ℕ) → progress.place ≤ other
        → get_or port.ties.items other None ≡ Some i → times_held sent.slot i given ≡ 0
    due_after sent is other i later tie =
        ap (λ (connection : Connection (Message T U)). times sent.slot (message_slots (held_by connection)))
        (elsewhere i (λ same. absurd (omega (
          arith,
          on,
          later,
          apart other place index (tie ∙ ap (λ n. Some n) same) tied,
        ))))
        ∙ boxes.due sent is other i (omega (arith, from, on, later)) tie

    pub put_boxes : MailboxesStandFor name reader subscriber_name after new_mailboxes subscribers
    put_boxes = record {
      live = live_after;
      ended = ended_after;
      quiet = quiet_after;
      others = λ other joins box is.
          boxes.others other (joins_before other joins) box (sym (others other (not_joined other joins)) ∙ is);
      none = λ other joins standing one is one_stands.
          others other (not_joined other joins) ∙ boxes.none other (joins_before other joins) standing one is one_stands;
      known = λ i is. boxes.known i (there_before i is);
      apart = λ one other is_one is_other same. boxes.apart one other (there_before one is_one) (there_before other is_other) same;
      led = λ i is. boxes.led i (live_before i is);
      read = boxes.read;
      heard = λ i to is. ap goes_on (same_stage i) ∙ boxes.heard i to is;
      unmet = unmet_after;
      once = once_after;
      due = due_after;
    }
