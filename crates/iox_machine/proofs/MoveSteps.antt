-- Each step is a list of moves.
use Rattle.std.proofs.lemmas.Bool.{and_right, eqb-true, leb-false, ltb-false, ltb-true, or_parts}
use Rattle.std.proofs.lemmas.List.{length-map, length-replicate, length-set}
use Rattle.std.specs.List.{list_all}
use Rattle.std.specs.Prelude.{◌==◌, nat_le, nat_lt, find, fold, is_some, option_map, replicate, slice_get, take}
use Rattle.std.specs.Prelude.{MatchBool, MatchOption}
use Rattle.std.proofs.Common.{◌<◌, ◌≡◌, ◌≤◌, ◌⊎◌, ◌+◌, ◌^◌, ℕ, Bool, true, false, cond, not, ◌&&◌, ◌||◌, List, [], ◌∷◌, ◌++◌, length, map}
use Rattle.std.proofs.Common.{set, Option, None, Some, refl, sym, ap, subst, inl, inr, arith, ◌∙◌}
use Rattle.iox_machine.proofs.Cases.{both-true, by-bool, by-option, never-some, same-some}
use Rattle.iox_machine.proofs.Sound.{find-passes}
use Rattle.iox_machine.specs.Receiving.{IsGiver, gives, Receives, has_samples, lasting}
use Rattle.iox_machine.specs.RunLaws.{has_begun, is_written, numbered, sent_as}
use Rattle.iox_machine.specs.MessageLaws.{sent_in, begun_by, first_in, is_release_of, next_message}
use Rattle.iox_machine.specs.Sending.{GoesOn, Sends}
use Rattle.iox_command.specs.DomainValues.declared.create_error.PublisherCreateError.TheVariants as publisher_error
use Rattle.iox_command.specs.DomainValues.declared.create_error.SubscriberCreateError.TheVariants as subscriber_error
use Rattle.iox_command.specs.declared.port.PublisherOptions.{PublisherOptions}
use Rattle.iox_command.specs.declared.port.SubscriberOptions.{SubscriberOptions}
use Rattle.std.specs.Global.{Vec}
use Rattle.std.specs.Vec.{vec_items}
use Rattle.iox_machine.proofs.Counts.{of_told, one_if}
use Rattle.iox_machine.proofs.Frames.{PublisherComes, publisher-comes, publisher-stands, subscriber-comes, subscriber-stands}
use Rattle.iox_machine.proofs.MoveForms.{IsFollowing, IsSending, with_send, Loud, Loudly, IsNumbered, IsTurned}
use Rattle.iox_machine.proofs.MoveForms.{Quiets, begun_of, is_port, came_of, releases_of}
use Rattle.iox_machine.proofs.MoveForms as move
use Rattle.iox_machine.proofs.Moving.{IsClosed, IsNegotiated, at-one, closed, creates, opens, opens-or-creates}
use Rattle.iox_machine.proofs.Shorthands.{registered, AtBlocked, AtFree, IsRefused, IsSkipped, factory_of, left, taken}
use Rattle.iox_machine.proofs.Shorthands.{with_publisher, with_subscriber}
use Rattle.iox_machine.proofs.Tables.{at-changed}
use Rattle.iox_machine.specs.Arriving.{PublisherArrives, SubscriberArrives, new_publisher, new_subscriber, worst_case}
use Rattle.iox_machine.specs.Choices.{Choices}
use Rattle.iox_machine.specs.Message.{Loan, Message, Sample}
use Rattle.iox_machine.specs.NumberLaws.{publisher_told}
use Rattle.iox_machine.specs.Phase.{acted}
use Rattle.iox_machine.specs.PortList.{those}
use Rattle.iox_machine.specs.Ports.{LendsLoan, Puts, Releases, SendsLoan, Writes, publisher_in, subscriber_in}
use Rattle.iox_machine.specs.PublisherUpdate as publishing
use Rattle.iox_machine.specs.Run.{AtFactory, Step}
use Rattle.iox_machine.specs.Service.{Publisher, Send, Service, Subscriber, mailbox, with_mailbox}
use Rattle.iox_machine.specs.State.{AtOne, Factory, State, counted, is_service_of, with_phase}
use Rattle.iox_machine.specs.SubscriberUpdate as subscribing
use Rattle.iox_machine.specs.Table.{at, changed, contains, removed}
use Rattle.iox_machine.specs.UseLaws.{IsOpen}
use Rattle.iox_command.specs.DomainValues.Sequences.{next_sequence}
use Rattle.iox_command.specs.DomainValues.declared.connection_failure.ConnectionFailure.{ConnectionFailure}
use Rattle.iox_command.specs.DomainValues.declared.port_error.ReceiveError.TheVariants as receive_error
use Rattle.iox_command.specs.NegotiateBase.DescribeBase.declared.message_type.MessageTypeDetails.{MessageTypeDetails}
use Rattle.iox_command.specs.NegotiateBase.declared.errors.close.CloseError.TheVariants.{StillInUse}
use Rattle.iox_command.specs.declared.command.Command.{Command}
use Rattle.iox_command.specs.declared.command.Command.TheVariants as command
use Rattle.iox_command.specs.declared.port.PortNumber.TheVariants as port
use Rattle.iox_command.specs.declared.refusal.HubError.TheVariants.{OutOfMemory}
use Rattle.iox_command.specs.declared.refusal.Refusal.{Refusal}
use Rattle.iox_command.specs.declared.refusal.Refusal.TheVariants as refusal
use Rattle.iox_command.specs.declared.reply.Reply.{Reply}
use Rattle.iox_command.specs.declared.reply.Reply.TheVariants as reply
use Rattle.iox_machine.proofs.Moves.{Acts, IsTold, Moves, Parts, Sent, Strides, Told, and-right, and-true, attended, attends, begun-loan}
use Rattle.iox_machine.proofs.Moves.{first-is, followed, goes-on, least, loud-walk, numbered-by, publisher-up, quiet-both, quiet-none}
use Rattle.iox_machine.proofs.Moves.{quiet-one, quiet-same, quiet-walk, sends, tells, tells-begun, tells-nothing, unbegun-loan, updates}
use Rattle.iox_machine.proofs.Moves.{walked}

module _ {T : Type 0} where
  -- ---- a command

  module _ (asked : Command T) (old : State T) (answer : Reply T) (new : State T) where
    skips : Told asked old answer [] → IsSkipped old answer new → Parts asked old answer new
    skips told h = (
      ap (λ (s : State T). s.made) h.1 ∙ ap (λ (it : Reply T). counted it old.made) (sym h.0),
      inl (told, inl (ap (λ (s : State T). s.services) h.1, ap (λ (s : State T). s.factories) h.1)),
    )

    -- an answer that tells no number, while no service changes
    answers : (it : Reply T) (mid : State T) → Told asked old answer [] → mid.made ≡ counted it old.made → mid.services ≡ old.services
        → mid.factories ≡ old.factories → (answer ≡ it) × (new ≡ mid) → Parts asked old answer new
    answers it mid told made services factories h = (
      ap (λ (s : State T). s.made) h.1 ∙ (made ∙ ap (λ (r : Reply T). counted r old.made) (sym h.0)),
      inl (told, inl (ap (λ (s : State T). s.services) h.1 ∙ services, ap (λ (s : State T). s.factories) h.1 ∙ factories)),
    )

    negotiates : (factory : Factory) → Told asked old answer [] → IsNegotiated factory old answer new → Parts asked old answer new
    negotiates factory told (inl skipped) = skips told skipped
    negotiates factory told (inr (inl (why, refused))) = answers (reply.Refused why) old told refl refl refl refused
    negotiates factory told (inr (inr (inl (phase, why, refused)))) =
        answers (reply.Refused why) (with_phase factory.pattern factory.name phase old) told refl refl refl refused
    negotiates factory told (inr (inr (inr (phase, said, came)))) = (
      ap (λ (s : State T). s.made) came,
      inl (told, inr (inl (factory, phase, ap (λ (s : State T). s.factories) came, ap (λ (s : State T). s.services) came))),
    )

    closes : (number : ℕ) → Told asked old answer [] → IsClosed number old answer new → Parts asked old answer new
    closes number told (inl skipped) = skips told skipped
    closes number told (inr (inl refused)) = answers (reply.Refused (refusal.Close StillInUse)) old told refl refl refl refused
    closes number told (inr (inr (factory, found, unused, said, came))) = (
      ap (λ (s : State T). s.made) came ∙ ap (λ (it : Reply T). counted it old.made) (sym said),
      inl (
        told,
        inr (inr (
          number,
          factory,
          found,
          unused,
          ap (λ (s : State T). s.factories) came,
          ap (λ (s : State T). s.services) came,
        )),
      ),
    )

    at-one-acts : {V : Type 0} (found : Service T → Option V) (Does : V → Service T → Reply T → Service T → Type 0)
        → (answer ≡ reply.Skipped → Told asked old answer [])
        → ((one : V) (service after : Service T) → find (λ (other : Service T). is_some (found other)) old.services ≡ Some service
        → found service ≡ Some one → Does one service answer after → Acts asked old answer service after)
        → AtOne found Does old answer new → Parts asked old answer new
    at-one-acts found Does silent does h =
        elim (at-one found Does old answer new h) [
          | inl w ↦ skips (silent w.0) w
          | inr w ↦ (
            ap (λ (s : State T). s.made) w.6,
            inr ((λ (other : Service T). is_some (found other)), w.0, w.2, w.3, does w.1 w.0 w.2 w.3 w.4 w.5, w.6),
          )
        ]

    at-free-acts : (number : ℕ) (Does : Publisher T → Service T → Reply T → Service T → Type 0)
        → (answer ≡ reply.Skipped → Told asked old answer [])
        → ((one : Publisher T) (service after : Service T)
        → find (λ (other : Service T). is_some (publisher_in number other)) old.services ≡ Some service
        → publisher_in number service ≡ Some one → one.blocked ≡ None → Does one service answer after
        → Acts asked old answer service after)
        → AtFree number Does old answer new → Parts asked old answer new
    at-free-acts number Does silent does h =
        at-one-acts (publisher_in number)
        (λ (publisher : Publisher T) (service : Service T) (told : Reply T) (after : Service T). MatchOption publisher.blocked
        (Does publisher service told after) (λ send. IsSkipped service told after)) silent
        (λ one service after first is did. elim
        (by-option one.blocked (Does one service answer after) (λ send. IsSkipped service answer after) did) [
          | inl w ↦ does one service after first is w.0 w.1
          | inr w ↦ inl ([], refl, silent w.2.0, quiet-same service after w.2.1)
        ]) h

    module _ (none : (p : ℕ) → begun_by p asked old answer ≡ None) where
      quietly : (service after : Service T) → Quiets service after → Strides asked old answer service after
      quietly service after h = ([], refl, tells-nothing asked old answer none, h)

      at-blocked-acts : (number : ℕ) (Does : Publisher T → Send T → Service T → Reply T → Service T → Type 0)
          → ((one : Publisher T) (send : Send T) (service after : Service T) → IsSending number one send service
          → Does one send service answer after → Quiets service after)
          → AtBlocked number Does old answer new → Parts asked old answer new
      at-blocked-acts number Does does h =
          at-one-acts (publisher_in number)
          (λ (publisher : Publisher T) (service : Service T) (told : Reply T) (after : Service T). MatchOption publisher.blocked
          (IsSkipped service told after) (λ send. Does publisher send service told after)) (λ told. tells-nothing asked old answer none)
          (λ one service after first is did. elim
          (by-option one.blocked (IsSkipped service answer after) (λ send. Does one send service answer after) did) [
            | inl w ↦ inl (quietly service after (quiet-same service after w.1.1))
            | inr w ↦ inl (quietly service after (does one w.0 service after (publisher-stands number service one is, w.1) w.2))
          ]) h

      at-subscriber-acts : (choices : Choices T) (buffer number : ℕ) (told : ConnectionFailure → Refusal)
          (Does : Subscriber → Service T → Reply T → Service T → Type 0)
          → ((one : Subscriber) (service after : Service T) → at number service.subscribers ≡ Some one → one.stands ≡ true
          → Does one service answer after → Strides asked old answer service after)
          → AtOne (subscriber_in number) (subscribing.UpdatesFirst choices buffer number told Does) old answer new
          → Parts asked old answer new
      at-subscriber-acts choices buffer number told Does does h =
          at-one-acts (subscriber_in number) (subscribing.UpdatesFirst choices buffer number told Does)
          (λ told. tells-nothing asked old answer none)
          (λ one service after first is did. inl (attends choices (Strides asked old answer service after) buffer number told Does one
          service answer after (subscriber-stands number service one is).0 (subscriber-stands number service one is).1
          (λ now mid on found up done. let more : Strides asked old answer mid after = does now mid after found up done in
          (more.0, more.1, more.2, quiet-walk old.factories more.0 service mid after on more.3))
          (λ why mid on refused. quietly service after (quiet-both service mid after on (quiet-same mid after refused.1))) did)) h

      at-factory-acts : (types : MessageTypeDetails) (choices : Choices T) (buffer number : ℕ)
          (Does : Service T → Reply T → Service T → Type 0)
          → ((service after : Service T) → IsOpen old.factories service.name number → Does service answer after
          → Acts asked old answer service after)
          → AtFactory types choices buffer number Does old answer new → Parts asked old answer new
      at-factory-acts types choices buffer number Does does h =
          elim (by-option (at number old.factories) (IsSkipped old answer new)
          (λ factory. AtOne (λ (service : Service T). cond (is_service_of factory service) (Some service) None)
          (λ (service : Service T). Does) old answer new) h) [
            | inl w ↦ skips (tells-nothing asked old answer none) w.1
            | inr w ↦ at-one-acts (λ (service : Service T). cond (is_service_of w.0 service) (Some service) None)
                (λ (service : Service T). Does) (λ told. tells-nothing asked old answer none)
                (λ one service after first is did. does service after
                (w.0, w.1, its (is_service_of w.0 service) service one is) did) w.2
          ]
        where
          its : (b : Bool) (service one : Service T) → cond b (Some service) None ≡ Some one → b ≡ true
          its true service one e = refl
          its false service one e = never-some one e

      -- one loud move, that doesn't begin a send
      loudly : (one : Loud T) (service mid after : Service T) → is_port one ≡ false → ((p : ℕ) → begun_of p (one ∷ []) ≡ None)
          → ((p : ℕ) → came_of p (one ∷ []) ≤ of_told (publisher_told answer) p)
          → ((sample : ℕ) → is_release_of sample asked ≡ false → releases_of sample (one ∷ []) ≡ false)
          → IsTold asked old answer one → Loudly old.factories one service mid → Quiets mid after
          → Strides asked old answer service after
      loudly one service mid after beside silent came released each h k = (
        one ∷ [],
        ap (λ (b : Bool). b || false) beside,
        tells asked old answer (one ∷ []) none silent came released refl (each, tt) refl,
        loud-walk old.factories one [] service mid after h k,
      )

      -- a port comes or leaves
      alone : (one : Loud T) (service after : Service T) → is_port one ≡ true → ((p : ℕ) → begun_of p (one ∷ []) ≡ None)
          → ((p : ℕ) → came_of p (one ∷ []) ≤ of_told (publisher_told answer) p)
          → ((sample : ℕ) → releases_of sample (one ∷ []) ≡ false) → IsTold asked old answer one
          → Loudly old.factories one service after → Acts asked old answer service after
      alone one service after is silent came released each h =
          inr (one, is, tells asked old answer (one ∷ []) none silent came (λ sample kept. released sample) refl (each, tt) refl, h)

  -- ---- what each command does at a service

  not-longer : (number : ℕ) (one : Publisher T) (old : Service T) (answer : Reply T) (new : Service T)
      → PublisherArrives number one old answer new → (new ≡ old) ⊎ (one.room < 2 ^ 32)
  not-longer number one old answer new h =
      elim (by-bool (nat_le (2 ^ 32) (worst_case old.settings one.max_loaned_samples) || nat_le (2 ^ 32) one.room)
      (IsRefused (refusal.Publisher publisher_error.UnableToCreateDataSegment) old answer new)
      (MatchBool (list_all is_some old.publisher_list.places)
      (IsRefused (refusal.Publisher publisher_error.ExceedsMaxSupportedPublishers) old answer new)
      (IsRefused (refusal.Publisher publisher_error.UnableToCreateDataSegment) old answer new
      ⊎ PublisherComes number one old answer new)) h) [
        | inl w ↦ inl w.1.1
        | inr w ↦ inr (leb-false (2 ^ 32) one.room
            (or_parts (nat_le (2 ^ 32) (worst_case old.settings one.max_loaned_samples)) (nat_le (2 ^ 32) one.room) w.0).1)
      ]

  not-larger : (buffer number : ℕ) (one : Subscriber) (old : Service T) (answer : Reply T) (new : Service T)
      → SubscriberArrives buffer number one old answer new
      → (new ≡ old) ⊎ (one.buffer_size ≤ old.settings.subscriber_max_buffer_size)
  not-larger buffer number one old answer new h =
      elim (by-bool (nat_lt old.settings.subscriber_max_buffer_size one.buffer_size)
      (IsRefused (refusal.Subscriber subscriber_error.BufferSizeExceedsMaxSupportedBufferSizeOfService) old answer new)
      (MatchBool (list_all is_some old.subscriber_list.places)
      (IsRefused (refusal.Subscriber subscriber_error.ExceedsMaxSupportedSubscribers) old answer new)
      (IsRefused (refusal.Subscriber subscriber_error.OutOfMemory) old answer new
      ⊎ ((place : ℕ) × (slice_get old.subscriber_list.places place ≡ Some None) × (after : Subscriber) × (mid : Service T)
      × subscribing.Follows buffer number one (record old { subscribers = old.subscribers ++ (number, one) ∷ [] }) after mid
      × (answer ≡ reply.SubscriberMade number)
      × (new ≡ record mid { subscriber_list = registered place number mid.subscriber_list })))) h) [
        | inl w ↦ inl w.1.1
        | inr w ↦ inr (ltb-false old.settings.subscriber_max_buffer_size one.buffer_size w.0)
      ]

  giver-gives : (number : ℕ) (subscriber : Subscriber) (service : Service T) (first : Option ℕ) (publisher : ℕ)
      → ((one : ℕ) → first ≡ Some one → gives number service one ≡ true) → IsGiver number first subscriber service (Some publisher)
      → gives number service publisher ≡ true
  giver-gives number subscriber service None publisher on is =
      (both-true (contains (those subscriber.connected) publisher) (gives number service publisher) is).1
  giver-gives number subscriber service (Some one) publisher on is =
      subst (λ (p : ℕ). gives number service p ≡ true) (sym (same-some publisher one is)) (on one refl)

  module _ (asked : Command T) (old : State T) (answer : Reply T) (none : (p : ℕ) → begun_by p asked old answer ≡ None) where
    lends : (loan number count : ℕ) (value : Option T) (one : Publisher T) (service after : Service T)
        → at number service.publishers ≡ Some one → one.stands ≡ true → loan ≡ old.made.loans + 1
        → LendsLoan loan number count value one service answer after
        → Strides asked old answer service after
    lends loan number count value one service after found up next (Some why, then, lent, refused) =
        quietly asked old answer old none service after (quiet-same service after refused.1)
    lends loan number count value one service after found up next (None, then, lent, (told, came)) =
        let made : Loan T = record { publisher = number; number = one.next; values = replicate count value } in
        loudly asked old answer old none (move.Lends number one then loan made) service
        (record (with_publisher number then service) { loans = service.loans ++ (loan, made) ∷ [] }) after refl (λ p. refl)
        (λ p. least (of_told (publisher_told answer) p)) (λ sample kept. refl) (next, told)
        (found, up, (numbered-by number count one service then lent, (count, lent, length-replicate count value)), refl, refl, refl)
        (quiet-same _ after came)

    writes : (loan : ℕ) (one : Loan T) (fit : Bool) (values : List (Option T)) (service after : Service T)
        → at loan service.loans ≡ Some one → (fit ≡ true → length values ≡ length one.values)
        → Writes loan one fit values service answer after → Strides asked old answer service after
    writes loan one false values service after found long skipped =
        quietly asked old answer old none service after (quiet-same service after skipped.1)
    writes loan one true values service after found long (told, came) =
        loudly asked old answer old none (move.Writes loan one values) service
        (record service { loans = changed loan (record one { values = values }) service.loans }) after refl (λ p. refl)
        (λ p. least (of_told (publisher_told answer) p)) (λ sample kept. refl) (long refl) (found, refl) (quiet-same _ after came)

    publishes : (number : ℕ) (options : PublisherOptions) (one : Publisher T) (service after : Service T)
        → one ≡ new_publisher one.factory options service.settings → asked ≡ command.Publisher one.factory options
        → number ≡ old.made.publishers + 1 → IsOpen old.factories service.name one.factory
        → PublisherArrives number one service answer after → Acts asked old answer service after
    publishes number options one service after made asks next open_one h =
        elim (publisher-comes number one service answer after h) [
          | inl same ↦ inl (quietly asked old answer old none service after (quiet-same service after same))
          | inr (place, then, mid, came, is, told, free) ↦ elim (not-longer number one service answer after h) [
            | inl same ↦ inl (quietly asked old answer old none service after (quiet-same service after same))
            | inr short ↦
                let more : Service T = record service { publishers = service.publishers ++ (number, one) ∷ [] } in
                let on : IsFollowing one then × (mid ≡ record (with_publisher number then more) { mailboxes = mid.mailboxes }) =
                followed number one more then mid came in
                alone asked old answer old none (move.Publishes place number options one then) service after refl (λ p. refl)
                (λ p. subst (λ (it : Reply T). one_if (number == p) + 0 ≤ of_told (publisher_told it) p) (sym told)
                (same (one_if (number == p)))) (λ sample. refl) (asks, next, told) (
                  open_one,
                  ((made, short), free, mid, came, is),
                  on.0,
                  subst (λ (s : Service T). s ≡ record (with_publisher number then more) {
                    publisher_list = registered place number service.publisher_list;
                    mailboxes = s.mailboxes;
                  }) (sym is) (ap (λ (s : Service T). record s {
                    publisher_list = registered place number s.publisher_list;
                    mailboxes = mid.mailboxes;
                  }) on.1),
                )
          ]
        ]
      where
        same : (x : ℕ) → x + 0 ≤ x
        same x = omega arith

    subscribes : (buffer number : ℕ) (options : SubscriberOptions) (one : Subscriber) (service after : Service T)
        → one ≡ new_subscriber one.factory options service.settings → asked ≡ command.Subscriber one.factory options
        → number ≡ old.made.subscribers + 1 → IsOpen old.factories service.name one.factory
        → SubscriberArrives buffer number one service answer after → Acts asked old answer service after
    subscribes buffer number options one service after made asks next open_one h =
        elim (subscriber-comes buffer number one service answer after h) [
          | inl same ↦ inl (quietly asked old answer old none service after (quiet-same service after same))
          | inr (place, then, mid, came, is, free, told) ↦
              elim (not-larger buffer number one service answer after h) [
                | inl same ↦ inl (quietly asked old answer old none service after (quiet-same service after same))
                | inr small ↦
                    let more : Service T = record service { subscribers = service.subscribers ++ (number, one) ∷ [] } in
                    let on : IsTurned one then × (mid ≡ record (with_subscriber number then more) { mailboxes = mid.mailboxes }) =
                    attended buffer number one more then mid came in
                    alone asked old answer old none (move.Subscribes buffer place number options one then) service after refl
                    (λ p. refl) (λ p. least (of_told (publisher_told answer) p)) (λ sample. refl) (asks, next, told) (
                      open_one,
                      (made, small, free, mid, came, is),
                      on.0,
                      subst (λ (s : Service T). s ≡ record (with_subscriber number then more) {
                        subscriber_list = registered place number service.subscriber_list;
                        mailboxes = s.mailboxes;
                      }) (sym is) (ap (λ (s : Service T). record s {
                        subscriber_list = registered place number s.subscriber_list;
                        mailboxes = mid.mailboxes;
                      }) on.1),
                    )
              ]
        ]

    receives : (number sample : ℕ) (one : Subscriber) (service after : Service T) → at number service.subscribers ≡ Some one
        → one.stands ≡ true → asked ≡ command.Receive number → sample ≡ old.made.samples + 1
        → Receives number sample one service answer after
        → Strides asked old answer service after
    receives number sample one service after found up asks next h = received h
      where
        later : Subscriber
        later = record one { expired = lasting number service one.expired }

        swept : Service T
        swept = with_subscriber number later service

        sweeps : Quiets service swept
        sweeps = quiet-one (move.Sweeps number one (lasting number service one.expired)) service swept (found, refl)

        few : (publisher : ℕ) → IsGiver number (find (gives number service) one.expired) one service (Some publisher)
            → length (mailbox publisher number service).borrowed < service.settings.subscriber_max_borrowed_samples
        few publisher is =
            ltb-true (length (mailbox publisher number service).borrowed) service.settings.subscriber_max_borrowed_samples
            (both-true (nat_lt 0 (length (mailbox publisher number service).waiting))
            (nat_lt (length (mailbox publisher number service).borrowed) service.settings.subscriber_max_borrowed_samples)
            (giver-gives number one service (find (gives number service) one.expired) publisher
            (λ it there. find-passes (gives number service) one.expired it there) is)).1

        received : Receives number sample one service answer after → Strides asked old answer service after
        received (None, is, (told, came)) =
            quietly asked old answer old none service after (quiet-both service swept after sweeps (quiet-same swept after came))
        received (Some publisher, is, (message, values, first, same, told, came)) =
            let it : Sample T = record { publisher = publisher; subscriber = number; message = message } in
            let on : Strides asked old answer swept after =
            loudly asked old answer old none (move.Takes sample it) swept
            (with_mailbox publisher number (taken (mailbox publisher number swept))
            (record swept { samples = swept.samples ++ (sample, it) ∷ [] })) after refl (λ p. refl)
            (λ p. least (of_told (publisher_told answer) p)) (λ sample kept. refl) (asks, next, (values, same, told))
            ((later, at-changed number later one service.subscribers found, up), (first, few publisher is), refl)
            (quiet-same _ after came) in
            (on.0, on.1, on.2, quiet-walk old.factories on.0 service swept after sweeps on.3)

  -- ---- the sends

  sends-loan : (choices : Choices T) (old : State T) (answer : Reply T) (loan : ℕ) (one : Loan T) (service after : Service T)
      → find (λ (other : Service T). is_some (at loan other.loans)) old.services ≡ Some service → at loan service.loans ≡ Some one
      → SendsLoan choices loan one service answer after → Strides (command.Send loan) old answer service after
  sends-loan choices old answer loan one service after first is h =
      elim (by-option (at one.publisher service.publishers) (IsSkipped service answer after)
      (λ publisher. MatchBool (is_written one && not (is_some publisher.blocked))
      (Sends choices one.publisher (sent_as one) publisher (record service { loans = removed loan service.loans }) answer after)
      (IsSkipped service answer after)) h) [
        | inl w ↦ skipped w.1
        | inr w ↦ elim (by-bool (is_written one && not (is_some w.0.blocked))
            (Sends choices one.publisher (sent_as one) w.0 (record service { loans = removed loan service.loans }) answer after)
            (IsSkipped service answer after) w.2) [
              | inl k ↦ sent (both-true (is_written one) (not (is_some w.0.blocked)) k.0).0 w.0 w.1
                  (sends choices old.factories one.publisher (sent_as one) w.0 mid answer after w.1
                  (unblocked w.0.blocked (and-right (is_written one) (not (is_some w.0.blocked)) k.0)) k.1)
              | inr k ↦ skipped k.1
            ]
      ]
    where
      mid : Service T
      mid = record service { loans = removed loan service.loans }

      asked : Command T
      asked = command.Send loan

      unblocked : (o : Option (Send T)) → not (is_some o) ≡ true → o ≡ None
      unblocked None is = refl
      unblocked (Some send) is = absurd (differ is)
        where
          differ : false ≡ true → ⊥
          differ is = cc

      skipped : IsSkipped service answer after → Strides asked old answer service after
      skipped h = quietly asked old answer old (λ p. unbegun-loan p loan old answer (ap has_begun h.0)) service after
          (quiet-same service after h.1)

      sent : is_written one ≡ true → (publisher : Publisher T) → at one.publisher service.publishers ≡ Some publisher
          → Sent old.factories one.publisher (sent_as one) publisher mid answer after → Strides asked old answer service after
      sent whole publisher there (inl (silent, on)) =
          loudly asked old answer old (λ p. unbegun-loan p loan old answer silent) (move.Spends loan one) service mid after refl (λ p. refl)
          (λ p. least (of_told (publisher_told answer) p)) (λ sample kept. refl) tt (is, refl) on
      sent whole publisher there (inr (begun, sender, last, on)) =
          let loud : List (Loud T) = move.Spends loan one ∷ move.Begins one.publisher sender (sent_as one) ∷ [] in (
            loud,
            refl,
            tells-begun asked old answer one.publisher sender (sent_as one) loud
                (λ p. begun-loan p loan old answer service one first is
                ∙ (ap (λ (b : Bool). cond ((one.publisher == p) && b) (sent_in service one) None) begun
                ∙ (ap (λ (b : Bool). cond b (sent_in service one) None) (and-true (one.publisher == p))
                ∙ (ap (λ (o : Option (Publisher T)). cond (one.publisher == p)
                (option_map (λ it. numbered it (sent_as one)) o) None) there
                ∙ ap (λ (l : Option ℕ). cond (one.publisher == p) (Some (record (sent_as one) { sequence = next_sequence l })) None)
                (sym last)))))
                (λ p. refl) (λ p n. refl) (λ p. refl) (λ sample. refl) refl
                (tt, ((service, one, first, is, refl, whole, refl, begun), tt)) refl,
            loud-walk old.factories (move.Spends loan one) (move.Begins one.publisher sender (sent_as one) ∷ []) service mid after
                (is, refl) on,
          )

  puts : (choices : Choices T) (old : State T) (answer : Reply T) (number : ℕ) (values : List T) (one : Publisher T)
      (service after : Service T)
      → find (λ (other : Service T). is_some (publisher_in number other)) old.services ≡ Some service
      → publisher_in number service ≡ Some one → one.blocked ≡ None
      → Puts choices number values one service answer after → Strides (command.Put number values) old answer service after
  puts choices old answer number values one service after first is free (Some why, then, lent, refused) =
      quietly (command.Put number values) old answer old
      (λ p. ap (λ (b : Bool). cond b (option_map (next_message values) (first_in (publisher_in number) old)) None)
      (and_right (number == p) (has_begun answer) (ap has_begun refused.0))) service after (quiet-same service after refused.1)
  puts choices old answer number values one service after first is free (None, then, lent, h) =
      sent (sends choices old.factories number message then mid answer after (at-changed number then one service.publishers found)
      (ap (λ (it : Publisher T). it.blocked) taking.4 ∙ free) h)
    where
      asked : Command T
      asked = command.Put number values

      message : Message T
      message = record { number = one.next; sequence = None; values = values }

      mid : Service T
      mid = with_publisher number then service

      found : at number service.publishers ≡ Some one
      found = publisher-stands number service one is

      taking : IsNumbered one then
      taking = numbered-by number (length values) one service then lent

      sent : Sent old.factories number message then mid answer after → Strides asked old answer service after
      sent (inl (silent, on)) =
          loudly asked old answer old
          (λ p. ap (λ (b : Bool). cond b (option_map (next_message values) (first_in (publisher_in number) old)) None)
          (and_right (number == p) (has_begun answer) silent)) (move.Numbers number one then) service mid after refl (λ p. refl)
          (λ p. least (of_told (publisher_told answer) p)) (λ sample kept. refl) tt (found, taking, refl) on
      sent (inr (begun, sender, last, on)) =
          let loud : List (Loud T) = move.Numbers number one then ∷ move.Begins number sender message ∷ [] in (
            loud,
            refl,
            tells-begun asked old answer number sender message loud
                (λ p. ap (λ (b : Bool). cond ((number == p) && b) (option_map (next_message values) (first_in (publisher_in number) old))
                None) begun
                ∙ (ap (λ (b : Bool). cond b (option_map (next_message values) (first_in (publisher_in number) old)) None)
                (and-true (number == p))
                ∙ (ap (λ (o : Option (Publisher T)). cond (number == p) (option_map (next_message values) o) None)
                (first-is (publisher_in number) old service one first is)
                ∙ ap (λ (l : Option ℕ). cond (number == p) (Some (record message { sequence = next_sequence l })) None)
                (sym (last ∙ ap (λ (it : Publisher T). it.last_sequence) taking.4)))))
                (λ p. refl) (λ p n. refl) (λ p. refl) (λ sample. refl) refl (tt, ((refl, refl, begun), tt)) refl,
            loud-walk old.factories (move.Numbers number one then) (move.Begins number sender message ∷ []) service mid after
                (found, taking, refl) on,
          )

  -- ---- each command

  module _ (types : MessageTypeDetails) (choices : Choices T) (buffer : ℕ) where
    pub step-parts : (asked : Command T) (old : State T) (answer : Reply T) (new : State T)
        → Step types choices buffer asked old answer new → Parts asked old answer new
    step-parts command.Node old answer new (inl (told, came)) = (
      ap (λ (s : State T). s.made) came,
      inl (
        tells-nothing command.Node old answer (λ p. refl),
        inl (ap (λ (s : State T). s.services) came, ap (λ (s : State T). s.factories) came),
      ),
    )
    step-parts command.Node old answer new (inr refused) =
        answers command.Node old answer new (reply.Refused (refusal.Hub OutOfMemory)) old
        (tells-nothing command.Node old answer (λ p. refl)) refl refl refl refused
    step-parts (command.Create node name options attributes steps) old answer new h =
        let asked : Command T = command.Create node name options attributes steps in
        negotiates asked old answer new (factory_of node name options) (tells-nothing asked old answer (λ p. refl))
        (creates types steps (factory_of node name options) old answer new options attributes h)
    step-parts (command.Open node name options required steps) old answer new h =
        let asked : Command T = command.Open node name options required steps in
        negotiates asked old answer new (factory_of node name options) (tells-nothing asked old answer (λ p. refl))
        (opens types steps (factory_of node name options) old answer new options required h)
    step-parts (command.OpenOrCreate node name options required steps) old answer new h =
        let asked : Command T = command.OpenOrCreate node name options required steps in
        negotiates asked old answer new (factory_of node name options) (tells-nothing asked old answer (λ p. refl))
        (opens-or-creates types steps (factory_of node name options) old answer new options required h)
    step-parts (command.Foreign pattern name steps) old answer new (inl h) =
        let asked : Command T = command.Foreign pattern name steps in
        answers asked old answer new reply.Done
        (with_phase pattern name (fold (acted types pattern) (old.phases pattern name) steps) old)
        (tells-nothing asked old answer (λ p. refl)) refl refl refl h
    step-parts (command.Foreign pattern name steps) old answer new (inr (done, few, refused)) =
        let asked : Command T = command.Foreign pattern name steps in
        answers asked old answer new (reply.Refused (refusal.Hub OutOfMemory))
        (with_phase pattern name (fold (acted types pattern) (old.phases pattern name) (take done steps)) old)
        (tells-nothing asked old answer (λ p. refl)) refl refl refl refused
    step-parts (command.Close factory) old answer new h =
        closes (command.Close factory) old answer new factory (tells-nothing (command.Close factory) old answer (λ p. refl))
        (closed factory old answer new h)
    step-parts (command.Publisher factory options) old answer new h =
        let asked : Command T = command.Publisher factory options in
        at-factory-acts asked old answer new (λ p. refl) types choices buffer factory
        (λ (service : Service T). PublisherArrives (old.made.publishers + 1) (new_publisher factory options service.settings) service)
        (λ service after open_one did. publishes asked old answer (λ p. refl) (old.made.publishers + 1) options
        (new_publisher factory options service.settings) service after refl refl refl open_one did) h
    step-parts (command.Subscriber factory options) old answer new h =
        let asked : Command T = command.Subscriber factory options in
        at-factory-acts asked old answer new (λ p. refl) types choices buffer factory
        (λ (service : Service T). SubscriberArrives buffer (old.made.subscribers + 1)
        (new_subscriber factory options service.settings) service)
        (λ service after open_one did. subscribes asked old answer (λ p. refl) buffer (old.made.subscribers + 1)
        options (new_subscriber factory options service.settings) service after refl refl refl open_one did) h
    step-parts (command.Loan publisher count) old answer new (value, default, h) =
        let asked : Command T = command.Loan publisher count in
        at-free-acts asked old answer new publisher (LendsLoan (old.made.loans + 1) publisher count (Some value))
        (λ told. tells-nothing asked old answer (λ p. refl))
        (λ one service after first is free did. inl (lends asked old answer (λ p. refl) (old.made.loans + 1) publisher count (Some value)
        one service after (publisher-stands publisher service one is) (publisher-up publisher service one is) refl did)) h
    step-parts (command.LoanUninit publisher count) old answer new h =
        let asked : Command T = command.LoanUninit publisher count in
        at-free-acts asked old answer new publisher (LendsLoan (old.made.loans + 1) publisher count None)
        (λ told. tells-nothing asked old answer (λ p. refl))
        (λ one service after first is free did. inl (lends asked old answer (λ p. refl) (old.made.loans + 1) publisher count None one
        service after (publisher-stands publisher service one is) (publisher-up publisher service one is) refl did)) h
    step-parts (command.Set loan place value) old answer new h =
        let asked : Command T = command.Set loan place value in
        at-one-acts asked old answer new (λ (service : Service T). at loan service.loans)
        (λ (one : Loan T). Writes loan one (is_written one && nat_lt place (length one.values)) (set one.values place (Some value)))
        (λ told. tells-nothing asked old answer (λ p. refl))
        (λ one service after first is did. inl (writes asked old answer (λ p. refl) loan one
        (is_written one && nat_lt place (length one.values)) (set one.values place (Some value)) service after is
        (λ fit. length-set one.values place (Some value)) did)) h
    step-parts (command.Fill loan values) old answer new h =
        let asked : Command T = command.Fill loan values in
        at-one-acts asked old answer new (λ (service : Service T). at loan service.loans)
        (λ (one : Loan T). Writes loan one (length values == length one.values) (map Some values))
        (λ told. tells-nothing asked old answer (λ p. refl))
        (λ one service after first is did. inl (writes asked old answer (λ p. refl) loan one (length values == length one.values)
        (map Some values) service after is
        (λ fit. length-map values Some ∙ eqb-true (length values) (length one.values) fit) did)) h
    step-parts (command.Drop loan) old answer new h =
        let asked : Command T = command.Drop loan in
        at-one-acts asked old answer new (λ (service : Service T). at loan service.loans)
        (λ (one : Loan T) (service : Service T) (answered : Reply T) (after : Service T). (answered ≡ reply.Done)
        × (after ≡ record service { loans = removed loan service.loans })) (λ told. tells-nothing asked old answer (λ p. refl))
        (λ one service after first is did. inl (loudly asked old answer new (λ p. refl) (move.Spends loan one) service
        (record service { loans = removed loan service.loans }) after refl (λ p. refl) (λ p. least (of_told (publisher_told answer) p))
        (λ sample kept. refl) tt (is, refl) (quiet-same _ after did.1))) h
    step-parts (command.Send loan) old answer new h =
        at-one-acts (command.Send loan) old answer new (λ (service : Service T). at loan service.loans) (SendsLoan choices loan)
        (λ told. tells-nothing (command.Send loan) old answer (λ p. unbegun-loan p loan old answer (ap has_begun told)))
        (λ one service after first is did. inl (sends-loan choices old answer loan one service after first is did)) h
    step-parts (command.Put publisher values) old answer new h =
        at-free-acts (command.Put publisher values) old answer new publisher (Puts choices publisher values)
        (λ told. tells-nothing (command.Put publisher values) old answer
        (λ p. ap (λ (b : Bool). cond b (option_map (next_message values) (first_in (publisher_in publisher) old)) None)
        (and_right (publisher == p) (has_begun answer) (ap has_begun told))))
        (λ one service after first is free did. inl (puts choices old answer publisher values one service after first is free did)) h
    step-parts (command.Retry publisher nanoseconds) old answer new h =
        at-blocked-acts (command.Retry publisher nanoseconds) old answer new (λ p. refl) publisher
        (λ (one : Publisher T) (send : Send T). GoesOn choices publisher one
        (record send { retries = send.retries + 1; elapsed = nanoseconds }))
        (λ one send service after on did.
        let next : Send T = record send { retries = send.retries + 1; elapsed = nanoseconds } in
        let mid : Service T = with_send publisher one (Some next) service in
        quiet-both service mid after (quiet-one (move.Retries publisher one send nanoseconds) service mid (on, refl))
        (goes-on choices publisher one one next service answer after on.0 did)) h
    step-parts (command.GiveUp publisher) old answer new h =
        at-blocked-acts (command.GiveUp publisher) old answer new (λ p. refl) publisher
        (λ (one : Publisher T) (send : Send T) (service : Service T) (answered : Reply T) (after : Service T).
        (answered ≡ reply.Delivered send.delivered)
        × (after ≡ with_publisher publisher (record one { blocked = None }) service))
        (λ one send service after on did. quiet-one (move.Concludes publisher one) service after (on.0, did.1)) h
    step-parts (command.Receive subscriber) old answer new h =
        let asked : Command T = command.Receive subscriber in
        at-subscriber-acts asked old answer new (λ p. refl) choices buffer subscriber
        (λ failure. refusal.Receive (receive_error.ConnectionFailure failure)) (Receives subscriber (old.made.samples + 1))
        (λ one service after found up did. receives asked old answer (λ p. refl) subscriber (old.made.samples + 1) one service after found
        up refl refl did) h
    step-parts (command.Read sample) old answer new h =
        let asked : Command T = command.Read sample in
        at-one-acts asked old answer new (λ (service : Service T). at sample service.samples)
        (λ (one : Sample T) (service : Service T) (answered : Reply T) (after : Service T). (values : Vec T)
        × (vec_items values ≡ one.message.values) × (answered ≡ reply.Values values) × (after ≡ service))
        (λ told. tells-nothing asked old answer (λ p. refl))
        (λ one service after first is did. inl (quietly asked old answer new (λ p. refl) service after (quiet-same service after did.3))) h
    step-parts (command.Sequence sample) old answer new h =
        let asked : Command T = command.Sequence sample in
        at-one-acts asked old answer new (λ (service : Service T). at sample service.samples)
        (λ (one : Sample T) (service : Service T) (answered : Reply T) (after : Service T).
        (answered ≡ reply.Sequence one.message.sequence) × (after ≡ service)) (λ told. tells-nothing asked old answer (λ p. refl))
        (λ one service after first is did. inl (quietly asked old answer new (λ p. refl) service after (quiet-same service after did.1))) h
    step-parts (command.Release sample) old answer new h =
        let asked : Command T = command.Release sample in
        at-one-acts asked old answer new (λ (service : Service T). at sample service.samples) (Releases sample)
        (λ told. tells-nothing asked old answer (λ p. refl))
        (λ one service after first is did. inl (loudly asked old answer new (λ p. refl) (move.Releases sample one) service after after
        refl (λ p. refl) (λ p. least (of_told (publisher_told answer) p)) (λ other kept. released sample other kept) refl (is, did.1)
        (quiet-none after))) h
      where
        released : (one other : ℕ) → (one == other) ≡ false → ((one == other) || false) ≡ false
        released one other kept = ap (λ (b : Bool). b || false) kept
    step-parts (command.Update (port.Publisher number)) old answer new h =
        let asked : Command T = command.Update (port.Publisher number) in
        at-free-acts asked old answer new number
        (publishing.UpdatesFirst choices number refusal.Connection
        (λ (one : Publisher T) (service : Service T) (answered : Reply T) (after : Service T). (answered ≡ reply.Done) × (after ≡ service)))
        (λ told. tells-nothing asked old answer (λ p. refl))
        (λ one service after first is free did. inl (quietly asked old answer new (λ p. refl) service after
        (updates choices (Quiets service after) number refusal.Connection
        (λ (it : Publisher T) (mid : Service T) (answered : Reply T) (end : Service T). (answered ≡ reply.Done) × (end ≡ mid)) one service
        answer after (publisher-stands number service one is) free
        (λ it mid on there last done. quiet-both service mid after on (quiet-same mid after done.1))
        (λ failure mid on refused. quiet-both service mid after on (quiet-same mid after refused.1)) did))) h
    step-parts (command.Update (port.Subscriber number)) old answer new h =
        let asked : Command T = command.Update (port.Subscriber number) in
        at-subscriber-acts asked old answer new (λ p. refl) choices buffer number refusal.Connection
        (λ (one : Subscriber) (service : Service T) (answered : Reply T) (after : Service T). (answered ≡ reply.Done) × (after ≡ service))
        (λ one service after found up did. quietly asked old answer new (λ p. refl) service after (quiet-same service after did.1)) h
    step-parts (command.Leave (port.Publisher number)) old answer new h =
        let asked : Command T = command.Leave (port.Publisher number) in
        at-free-acts asked old answer new number
        (λ (one : Publisher T) (service : Service T) (answered : Reply T) (after : Service T). (answered ≡ reply.Done)
        × (after ≡ with_publisher number (record one { stands = false })
        (record service { publisher_list = left number service.publisher_list }))) (λ told. tells-nothing asked old answer (λ p. refl))
        (λ one service after first is free did. alone asked old answer new (λ p. refl) (move.Unpublishes number one) service after refl
        (λ p. refl) (λ p. least (of_told (publisher_told answer) p)) (λ sample. refl) tt
        (publisher-stands number service one is, did.1)) h
    step-parts (command.Leave (port.Subscriber number)) old answer new h =
        let asked : Command T = command.Leave (port.Subscriber number) in
        at-one-acts asked old answer new (subscriber_in number)
        (λ (one : Subscriber) (service : Service T) (answered : Reply T) (after : Service T). (answered ≡ reply.Done)
        × (after ≡ with_subscriber number (record one { stands = false })
        (record service { subscriber_list = left number service.subscriber_list }))) (λ told. tells-nothing asked old answer (λ p. refl))
        (λ one service after first is did. alone asked old answer new (λ p. refl) (move.Unsubscribes number one) service after refl
        (λ p. refl) (λ p. least (of_told (publisher_told answer) p)) (λ sample. refl) tt
        ((subscriber-stands number service one is).0, did.1)) h
    step-parts (command.Has subscriber) old answer new h =
        let asked : Command T = command.Has subscriber in
        at-subscriber-acts asked old answer new (λ p. refl) choices buffer subscriber refusal.Connection
        (λ (one : Subscriber) (service : Service T) (answered : Reply T) (after : Service T).
        (answered ≡ reply.Has (has_samples subscriber one service)) × (after ≡ service))
        (λ one service after found up did. quietly asked old answer new (λ p. refl) service after (quiet-same service after did.1)) h

    pub step-moves : (asked : Command T) (old : State T) (answer : Reply T) (new : State T)
        → Step types choices buffer asked old answer new → Moves asked old answer new
    step-moves asked old answer new h = moved (step-parts asked old answer new h)
      where
        moved : Parts asked old answer new → Moves asked old answer new
        moved (made, inl it) = (made, inl it)
        moved (made, inr (has, service, after, first, acts, came)) =
            (made, inr (has, service, after, first, walked asked old answer service after acts, came))
