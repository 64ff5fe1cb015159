-- A publisher of the machine has no slot free exactly if that of a domain has none.
use Rattle.std.proofs.Common.{◌≡◌, ◌≢◌, ◌<◌, ◌+◌, ◌++◌, ℕ, true, cond, List, map, nat_le, Option, None, Some, refl, sym, ap, ◌∙◌, arith}
use Rattle.std.proofs.Math.Logic.{⊎_elim}
use Rattle.std.proofs.lemmas.Bool.{cases_Bool}
use Rattle.std.proofs.lemmas.List.{map-append}
use Rattle.std.specs.Prelude.{filter, flat_map, option_map, option_to_list}
use Rattle.iox_domain.proofs.DomainSlots.Counts.{times_append}
use Rattle.iox_domain.specs.DomainPorts.Messages as domain
use Rattle.iox_domain.specs.DomainPorts.MessagesSending.{slots_of}
use Rattle.iox_domain.specs.DomainPorts.Ports.{connection_of, goes_on}
use Rattle.iox_domain.specs.DomainPorts.declared.publisher_port.PublisherPort.{PublisherPort}
use Rattle.iox_domain.specs.DomainSlots.Counting.{times}
use Rattle.iox_domain.specs.DomainSlots.Uses.{Connection, held, held_by, is_there, in_use, is_open}
use Rattle.iox_domain.specs.DomainSlots.declared.stage.Stage.{Stage}
use Rattle.iox_domain.specs.DomainSlots.declared.stage.Stage.TheVariants as stage
use Rattle.iox_domain.specs.PortLawsLaws.{IsTidy}
use Rattle.iox_domain_machine.specs.Mailboxes.{MailboxesStandFor}
use Rattle.iox_domain_machine.specs.Naming.{message_as}
use Rattle.iox_domain_machine.specs.Publishers.{NamesSlots}
use Rattle.iox_domain_machine.proofs.Found.{never_true}
use Rattle.iox_domain_machine.proofs.LendingTally.{some_or_none, Tallies, Tells, tells}
use Rattle.iox_domain_machine.proofs.LendingUses.{named_from, named_to, filtered, message_slots, numbers, numbers_named, held_from}
use Rattle.iox_domain_machine.proofs.LendingUses.{held_to, joins, kept_in, kept_at, kept_from, kept_to}
use Rattle.iox_machine.specs.Lending.{how_many}
use Rattle.iox_machine.specs.Mailbox.{Mailbox}
use Rattle.iox_machine.specs.Message as machine
use Rattle.iox_machine.specs.Service.{Subscriber}

-- how often a slot is in use where no send is blocked
pub used_is : {T U : Type 0} (port : PublisherPort T U) (slot : ℕ) → port.sender.uses.sending ≡ None
    → times slot (in_use (slots_of port.sender))
    ≡ times slot (slots_of port.sender).loans + (times slot (slots_of port.sender).history
    + times slot (held (slots_of port.sender).connections))
used_is {T} {U} port slot free =
    let none : times slot (option_to_list (slots_of port.sender).sending) ≡ 0 =
    ap (λ (sending : Option (domain.Message T U)). times slot (option_to_list
    (option_map (λ (message : domain.Message T U). message.slot) sending))) free in
    omega (
      arith,
      none,
      times_append slot (option_to_list (slots_of port.sender).sending)
          ((slots_of port.sender).loans ++ ((slots_of port.sender).history ++ held (slots_of port.sender).connections)),
      times_append slot (slots_of port.sender).loans ((slots_of port.sender).history ++ held (slots_of port.sender).connections),
      times_append slot (slots_of port.sender).history (held (slots_of port.sender).connections),
    )

module _ {T U : Type 0} (name reader subscriber_name : ℕ → ℕ) (port : PublisherPort T U) (mailboxes : ℕ → Option (Mailbox T))
    (subscribers : List (ℕ × Subscriber)) (boxes : MailboxesStandFor name reader subscriber_name port mailboxes subscribers)
    (standing : port.stands ≡ true) (tidy : IsTidy port) where
  abbrev held_at : ℕ → List ℕ
  held_at index = message_slots (held_by (connection_of index port))

  abbrev all_kept : List (machine.Message T)
  all_kept = flat_map (λ (entry : ℕ × Subscriber). kept_at mailboxes entry.0) subscribers

  -- what is kept for the subscriber at a connection is what is held there
  kept_by : (index : ℕ) (now : Stage) → (connection_of index port).stage ≡ now → is_open now ≡ true
      → numbers (kept_at mailboxes (reader index)) ≡ map name (held_at index)
  kept_by index stage.Vacant is there = never_true there
  kept_by index stage.Live is there =
      ap (λ found. numbers (kept_in found)) (boxes.live index (ap goes_on is))
      ∙ ap numbers (sym (map-append (message_as name) (connection_of index port).waiting (connection_of index port).borrowed))
      ∙ numbers_named name (held_by (connection_of index port))
  kept_by index stage.Ended is there =
      let it = boxes.ended index is in
      ap (λ found. numbers (kept_in found)) it.1
      ∙ ap (λ (waiting : List (machine.Message T)). numbers (waiting ++ it.0.borrowed)) (it.3 standing).0
      ∙ ap numbers it.2
      ∙ numbers_named name (connection_of index port).borrowed
      ∙ ap (λ (waiting : List (domain.Message T U)). map name (message_slots (waiting ++ (connection_of index port).borrowed)))
      (sym (boxes.quiet index is).0)

  kept_there : (index : ℕ) → is_there (connection_of index port) ≡ true
      → numbers (kept_at mailboxes (reader index)) ≡ map name (held_at index)
  kept_there index there = kept_by index (connection_of index port).stage refl there

  nobody_keeps : (number other : ℕ) → ((index : ℕ) → is_there (connection_of index port) ≡ true → reader index ≢ other)
      → (found : Option (Mailbox T)) → mailboxes other ≡ found → times number (numbers (kept_in found)) ≡ 0
  nobody_keeps number other nobody None is = refl
  nobody_keeps number other nobody (Some box) is =
      let it = boxes.others other nobody box is in
      ap (λ (waiting : List (machine.Message T)). times number (numbers (waiting ++ box.borrowed))) (it.1 standing)
      ∙ ap (λ (borrowed : List (machine.Message T)). times number (numbers borrowed)) it.0

  mail_from : (number other : ℕ) → 0 < times number (numbers (kept_at mailboxes other))
      → (index : ℕ) × (0 < times number (map name (held_at index)))
  mail_from number other is = ⊎_elim
      (λ one. (
        one.0,
        omega (
          arith,
          is,
          ap (λ n. times number (numbers (kept_at mailboxes n))) one.2,
          ap (times number) (kept_there one.0 one.1),
        ),
      ))
      (λ none. absurd (omega (arith, is, nobody_keeps number other none (mailboxes other) refl)))
      (joins reader other port.sender.uses.connections)

  mail_by : (slot index : ℕ) (now : Stage) → (connection_of index port).stage ≡ now → 0 < times slot (held_at index)
      → 0 < times (name slot) (numbers all_kept)
  mail_by slot index stage.Vacant is used =
      absurd (omega (
        arith,
        used,
        ap (λ (connection : Connection (domain.Message T U)). times slot (message_slots (held_by connection))) (tidy index is),
      ))
  mail_by slot index stage.Live is used =
      kept_to mailboxes (name slot) (reader index) subscribers (boxes.known index (ap is_open is))
      (omega (arith, named_to name slot (held_at index) used, ap (times (name slot)) (kept_by index stage.Live is refl)))
  mail_by slot index stage.Ended is used =
      kept_to mailboxes (name slot) (reader index) subscribers (boxes.known index (ap is_open is))
      (omega (arith, named_to name slot (held_at index) used, ap (times (name slot)) (kept_by index stage.Ended is refl)))

  module _ (loans : List (machine.Loan T)) (history : List (machine.Message T)) (free : port.sender.uses.sending ≡ None)
      (same_loans : map (λ (loan : machine.Loan T). loan.number) loans ≡ map name (slots_of port.sender).loans)
      (same_history : history ≡ map (message_as name) port.sender.uses.history) where
    -- the messages of the publisher that are in use
    abbrev pub all_numbers : List ℕ
    all_numbers = map (λ (loan : machine.Loan T). loan.number) loans ++ numbers (history ++ all_kept)

    abbrev used : ℕ → ℕ
    used slot = times slot (in_use (slots_of port.sender))

    counted : (number : ℕ) → times number all_numbers
        ≡ times number (map name (slots_of port.sender).loans) + (times number (map name (slots_of port.sender).history)
        + times number (numbers all_kept))
    counted number =
        let named : times number (numbers history) ≡ times number (map name (slots_of port.sender).history) =
        ap (λ (messages : List (machine.Message T)). times number (numbers messages)) same_history
        ∙ ap (times number) (numbers_named name port.sender.uses.history) in
        omega (
          arith,
          times_append number (map (λ (loan : machine.Loan T). loan.number) loans) (numbers (history ++ all_kept)),
          ap (times number) same_loans,
          ap (times number) (map-append (λ (message : machine.Message T). message.number) history all_kept),
          times_append number (numbers history) (numbers all_kept),
          named,
        )

    used_from : (number : ℕ) → 0 < times number all_numbers → (slot : ℕ) × (0 < used slot) × (name slot ≡ number)
    used_from number is = some_or_none (times number (map name (slots_of port.sender).loans))
        (λ lent. let it = named_from name number (slots_of port.sender).loans lent in
        (it.0, omega (arith, it.1, used_is port it.0 free), it.2))
        (λ not_lent. some_or_none (times number (map name (slots_of port.sender).history))
        (λ past. let it = named_from name number (slots_of port.sender).history past in
        (it.0, omega (arith, it.1, used_is port it.0 free), it.2))
        (λ not_past.
        let kept = kept_from mailboxes number subscribers (omega (arith, is, counted number, not_lent, not_past)) in
        let at_one = mail_from number kept.0 kept.1 in
        let it = named_from name number (held_at at_one.0) at_one.1 in
        let there = held_to it.0 at_one.0 port.sender.uses.connections it.1 in
        (it.0, omega (arith, there, used_is port it.0 free), it.2)))

    used_to : (slot : ℕ) → 0 < used slot → 0 < times (name slot) all_numbers
    used_to slot is = some_or_none (times slot (slots_of port.sender).loans)
        (λ lent. omega (arith, named_to name slot (slots_of port.sender).loans lent, counted (name slot)))
        (λ not_lent. some_or_none (times slot (slots_of port.sender).history)
        (λ past. omega (arith, named_to name slot (slots_of port.sender).history past, counted (name slot)))
        (λ not_past.
        let at_one = held_from slot port.sender.uses.connections (omega (arith, is, used_is port slot free, not_lent, not_past)) in
        omega (arith, mail_by slot at_one.0 (connection_of at_one.0 port).stage refl at_one.1, counted (name slot))))

    module _ (first next : ℕ) (named : NamesSlots name (slots_of port.sender) first next) where
      tallies : Tallies used name port.sender.uses.first port.sender.uses.size (filter (nat_le first) all_numbers)
      tallies = record {
        from = λ number is. ⊎_elim
            (λ current.
            let there : 0 < times number all_numbers =
            omega (arith, is, filtered (nat_le first) number all_numbers, ap (λ b. cond b (times number all_numbers) 0) current) in
            let it = used_from number there in
            let low : nat_le port.sender.uses.first it.0 ≡ true = sym (named.current it.0 it.1) ∙ ap (nat_le first) it.2 ∙ current in
            (it.0, grind (arith, low), named.within it.0 it.1, it.1, it.2))
            (λ before. absurd (omega (
              arith,
              is,
              filtered (nat_le first) number all_numbers,
              ap (λ b. cond b (times number all_numbers) 0) before,
            )))
            (cases_Bool (nat_le first number));
        to = λ slot low high is.
            let current : nat_le first (name slot) ≡ true = named.current slot is ∙ grind (arith, low) in
            omega (
              arith,
              used_to slot is,
              filtered (nat_le first) (name slot) all_numbers,
              ap (λ b. cond b (times (name slot) all_numbers) 0) current,
            );
      }

      -- as many different messages of the current segment are in use as slots of it are
      pub tells_full : Tells used port.sender.uses.first port.sender.uses.size (how_many (filter (nat_le first) all_numbers))
      tells_full = tells used name port.sender.uses.first named.apart port.sender.uses.size (filter (nat_le first) all_numbers) tallies
