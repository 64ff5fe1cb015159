-- An unused slot of a publisher is loaned, and its message gets the next name.
use Rattle.std.proofs.Common.{◌≡◌, ◌≢◌, ◌≤◌, ◌<◌, ◌+◌, ◌⊎◌, ◌∷◌, [], ◌++◌, ℕ, true, cond, List, map, nat_le, Option, None, Some, refl}
use Rattle.std.proofs.Common.{sym, ap, subst, inl, inr, ◌∙◌, arith}
use Rattle.std.proofs.lemmas.Bool.{cases_eq, eq-eqb, ne_eqb}
use Rattle.std.proofs.lemmas.List.{map-append}
use Rattle.iox_domain.proofs.DomainSlots.Counts.{one, times_append, times_cons, times_end, one_same}
use Rattle.iox_domain.specs.DomainPorts.Messages as domain
use Rattle.iox_domain.specs.DomainPorts.Messages.{new_loan}
use Rattle.iox_domain.specs.DomainPorts.MessagesSending.{slots_of, with_uses}
use Rattle.iox_domain.specs.DomainPorts.Loaning.{with_sender}
use Rattle.iox_domain.specs.DomainPorts.Ports.{connection_of}
use Rattle.iox_domain.specs.DomainPorts.declared.publisher_port.PublisherPort.{PublisherPort}
use Rattle.iox_domain.specs.DomainSlots.Counting.{times}
use Rattle.iox_domain.specs.DomainSlots.Uses.{Connection, held_by, in_use, loaned}
use Rattle.iox_domain_machine.specs.Mailboxes.{MailboxesStandFor}
use Rattle.iox_domain_machine.specs.Naming.{with_name, message_as, mailbox_as}
use Rattle.iox_domain_machine.specs.Publishers.{PublisherStandsFor, BlockedStandsFor, NamesSlots}
use Rattle.iox_domain_machine.proofs.GivingUp.{none_blocked}
use Rattle.iox_domain_machine.proofs.LendingFull.{used_is}
use Rattle.iox_domain_machine.proofs.LendingTally.{is_none, some_or_none}
use Rattle.iox_domain_machine.proofs.LendingUses.{message_slots, held_to}
use Rattle.iox_machine.specs.Mailbox.{Mailbox}
use Rattle.iox_machine.specs.Message as machine
use Rattle.iox_machine.specs.Service.{Publisher, Subscriber}

module _ (slot next : ℕ) (name : ℕ → ℕ) where
  -- the message in the slot has the next name
  abbrev pub named : ℕ → ℕ
  named = with_name slot next name

  pub named_it : named slot ≡ next
  named_it = ap (λ b. cond b next (name slot)) (eq-eqb slot slot refl)

  pub named_other : (other : ℕ) → other ≢ slot → named other ≡ name other
  named_other other off = ap (λ b. cond b next (name other)) (ne_eqb other slot off)

  module _ {T U : Type 0} where
    -- all other messages have the names that they had
    pub messages_kept : (messages : List (domain.Message T U)) → times slot (message_slots messages) ≡ 0
        → map (message_as name) messages ≡ map (message_as named) messages
    messages_kept [] none = refl
    messages_kept (message ∷ more) none =
        let cons = times_cons slot message.slot (message_slots more) in
        let apart : message.slot ≢ slot = λ same. absurd (omega (arith, none, cons, one_at same)) in
        ap (λ (first : machine.Message T). first ∷ map (message_as name) more) (renamed (sym (named_other message.slot apart)))
        ∙ ap (λ rest. message_as named message ∷ rest) (messages_kept more (omega (arith, none, cons)))
      where
        renamed : name message.slot ≡ named message.slot → ◌≡◌ {A = machine.Message T} (message_as name message) (message_as named message)
        renamed same = ap (λ (n : ℕ). record (message_as name message) { number = n }) same

        one_at : message.slot ≡ slot → one slot message.slot ≡ 1
        one_at same = ap (λ n. one slot n) same ∙ one_same slot

    pub mailbox_kept : (connection : Connection (domain.Message T U)) → times slot (message_slots (held_by connection)) ≡ 0
        → mailbox_as name connection ≡ mailbox_as named connection
    mailbox_kept connection none =
        let both = ap (times slot) (map-append (λ (message : domain.Message T U). message.slot) connection.waiting connection.borrowed) in
        let sum = times_append slot (message_slots connection.waiting) (message_slots connection.borrowed) in
        ap (λ (waiting : List (machine.Message T)). record {
          limit = connection.limit;
          waiting = waiting;
          borrowed = map (message_as name) connection.borrowed;
        }) (messages_kept connection.waiting (omega (arith, none, both, sum)))
        ∙ ap (λ (borrowed : List (machine.Message T)). record {
          limit = connection.limit;
          waiting = map (message_as named) connection.waiting;
          borrowed = borrowed;
        }) (messages_kept connection.borrowed (omega (arith, none, both, sum)))

-- a publisher that lent a slot, of a segment that begins there, in which n values fit
abbrev pub lent_at : {T U : Type 0} → ℕ → ℕ → ℕ → ℕ → ℕ → PublisherPort T U → PublisherPort T U
lent_at slot values room segments first port =
    with_sender (with_uses (loaned (new_loan slot values values port.sender.user_header) (record port.sender.uses { first = first }))
    (record port.sender { room = room; segments = segments; uses = record port.sender.uses { first = first } })) port

module _ {T U : Type 0} (name reader : ℕ → ℕ) (most : ℕ) (port : PublisherPort T U) (publisher : Publisher T)
    (was : PublisherStandsFor name reader most port publisher) (free : port.sender.uses.sending ≡ None) (slot values : ℕ)
    (unused : times slot (in_use (slots_of port.sender)) ≡ 0) where
  abbrev pub other_name : ℕ → ℕ
  other_name = named slot publisher.next name

  pub not_held : (index : ℕ) → times slot (message_slots (held_by (connection_of index port))) ≡ 0
  not_held index = some_or_none (times slot (message_slots (held_by (connection_of index port))))
      (λ some. let there = held_to slot index port.sender.uses.connections some in absurd (omega (
        arith,
        there,
        unused,
        used_is port slot free,
      )))
      (λ none. none)

  pub not_lent : times slot (slots_of port.sender).loans ≡ 0
  not_lent = omega (arith, unused, used_is port slot free)

  module _ (room segments first : ℕ) where
    abbrev after : PublisherPort T U
    after = lent_at slot values room segments first port

    pub loans_end : (slots_of after.sender).loans ≡ (slots_of port.sender).loans ++ slot ∷ []
    loans_end = map-append (λ (loan : domain.Loan T U). loan.slot) port.sender.uses.loans
        (new_loan slot values values port.sender.user_header ∷ [])

    lent_now : (which : ℕ) → times which (slots_of after.sender).loans ≡ times which (slots_of port.sender).loans + one which slot
    lent_now which = ap (times which) loans_end ∙ times_end which (slots_of port.sender).loans slot

    used_now : (which : ℕ) → times which (in_use (slots_of after.sender)) ≡ times which (in_use (slots_of port.sender)) + one which slot
    used_now which = omega (arith, used_is after which free, used_is port which free, lent_now which)

    module _ (machine_first : ℕ) (ahead : machine_first ≤ publisher.next) (grows : port.sender.uses.first ≤ first) (low : first ≤ slot)
        (high : slot < first + port.sender.uses.size)
        (current : (which : ℕ) → 0 < times which (in_use (slots_of port.sender)) → nat_le machine_first (name which) ≡ nat_le first which)
      where
        before : (which : ℕ) → which ≢ slot → 0 < times which (in_use (slots_of after.sender))
            → 0 < times which (in_use (slots_of port.sender))
        before which off is = omega (arith, is, used_now which, is_none which slot (λ same. off (sym same)))

        apart : (one other : ℕ) → 0 < times one (in_use (slots_of after.sender)) → 0 < times other (in_use (slots_of after.sender))
            → other_name one ≡ other_name other → (one ≡ slot) ⊎ (one ≢ slot) → (other ≡ slot) ⊎ (other ≢ slot) → one ≡ other
        apart one other is_one is_other same (inl it) (inl that) = it ∙ sym that
        apart one other is_one is_other same (inl it) (inr off) =
            absurd (omega (
              arith,
              was.named.below other (before other off is_other),
              sym (named_it slot publisher.next name) ∙ sym (ap other_name it) ∙ same ∙ named_other slot publisher.next name other off,
            ))
        apart one other is_one is_other same (inr off) (inl that) =
            absurd (omega (
              arith,
              was.named.below one (before one off is_one),
              sym (named_it slot publisher.next name) ∙ sym (ap other_name that) ∙ sym same ∙ named_other slot publisher.next name one off,
            ))
        apart one other is_one is_other same (inr off) (inr away) =
            was.named.apart one other (before one off is_one) (before other away is_other)
            (sym (named_other slot publisher.next name one off) ∙ same ∙ named_other slot publisher.next name other away)

        below : (which : ℕ) → 0 < times which (in_use (slots_of after.sender)) → (which ≡ slot) ⊎ (which ≢ slot)
            → other_name which < publisher.next + 1
        below which is (inl it) = omega (arith, ap other_name it ∙ named_it slot publisher.next name)
        below which is (inr off) =
            omega (arith, was.named.below which (before which off is), named_other slot publisher.next name which off)

        current_now : (which : ℕ) → 0 < times which (in_use (slots_of after.sender)) → (which ≡ slot) ⊎ (which ≢ slot)
            → nat_le machine_first (other_name which) ≡ nat_le first which
        current_now which is (inl it) =
            let on : nat_le machine_first publisher.next ≡ true = grind (arith, ahead) in
            let at_slot : nat_le first slot ≡ true = grind (arith, low) in
            ap (nat_le machine_first) (ap other_name it ∙ named_it slot publisher.next name) ∙ on ∙ sym (ap (nat_le first) it ∙ at_slot)
        current_now which is (inr off) =
            ap (nat_le machine_first) (named_other slot publisher.next name which off) ∙ current which (before which off is)

        within : (which : ℕ) → 0 < times which (in_use (slots_of after.sender)) → (which ≡ slot) ⊎ (which ≢ slot)
            → which < first + port.sender.uses.size
        within which is (inl it) = omega (arith, it, high)
        within which is (inr off) = omega (arith, was.named.within which (before which off is), grows)

        sole : (which : ℕ) → 0 < times which (slots_of after.sender).loans → (which ≡ slot) ⊎ (which ≢ slot)
            → times which (in_use (slots_of after.sender)) ≡ 1
        sole which is (inl it) = ap (λ n. times n (in_use (slots_of after.sender))) it
            ∙ omega (arith, used_now slot, unused, one_same slot)
        sole which is (inr off) =
            let none = is_none which slot (λ same. off (sym same)) in
            let alone = was.named.sole which (omega (arith, is, lent_now which, none)) in
            omega (arith, used_now which, none, alone)

        pub names_now : NamesSlots other_name (slots_of after.sender) machine_first (publisher.next + 1)
        names_now = record {
          apart = λ one other is_one is_other same. apart one other is_one is_other same (cases_eq one slot) (cases_eq other slot);
          below = λ which is. below which is (cases_eq which slot);
          current = λ which is. current_now which is (cases_eq which slot);
          within = λ which is. within which is (cases_eq which slot);
          sole = λ which is. sole which is (cases_eq which slot);
          ahead = omega (arith, ahead);
        }

        pub port_now : (machine_room machine_segments : ℕ) → machine_room ≡ room → machine_segments ≡ segments
            → PublisherStandsFor other_name reader most after (record publisher {
              room = machine_room;
              segments = machine_segments;
              first = machine_first;
              next = publisher.next + 1;
            })
        port_now machine_room machine_segments same_room same_segments = record {
          factory = was.factory;
          stands = was.stands;
          max_loaned_samples = was.max_loaned_samples;
          allocation = was.allocation;
          slots = was.slots;
          room = same_room;
          segments = same_segments;
          last_sequence = was.last_sequence;
          history = was.history
              ∙ messages_kept slot publisher.next name port.sender.uses.history (omega (arith, unused, used_is port slot free));
          once = was.once;
          seen = was.seen;
          connected = was.connected;
          ties = was.ties;
          blocked = subst (λ (sending : Option (domain.Message T U)). BlockedStandsFor other_name publisher.connected port.progress sending
              publisher.blocked) (sym free)
              (none_blocked name publisher.connected port.progress port.sender.uses.sending publisher.blocked free was.blocked);
          left = λ left. free;
          named = names_now;
          unit = was.unit;
          most_segments = was.most_segments;
          ample = was.ample;
        }

    pub boxes_now : (subscriber_name : ℕ → ℕ) (mailboxes : ℕ → Option (Mailbox T)) (subscribers : List (ℕ × Subscriber))
        → MailboxesStandFor name reader subscriber_name port mailboxes subscribers
        → MailboxesStandFor other_name reader subscriber_name after mailboxes subscribers
    boxes_now subscriber_name mailboxes subscribers boxes = record {
      live = λ index is. boxes.live index is
          ∙ ap (λ (box : Mailbox T). Some box) (mailbox_kept slot publisher.next name (connection_of index port) (not_held index));
      ended = λ index is.
          let it = boxes.ended index is in (
            it.0,
            it.1,
            it.2 ∙ ap (λ (box : Mailbox T). box.borrowed)
                (mailbox_kept slot publisher.next name (connection_of index port) (not_held index)),
            it.3,
          );
      quiet = boxes.quiet;
      others = boxes.others;
      none = boxes.none;
      known = boxes.known;
      apart = boxes.apart;
      led = boxes.led;
      heard = boxes.heard;
      read = boxes.read;
      unmet = boxes.unmet;
      once = boxes.once;
      due = boxes.due;
    }
