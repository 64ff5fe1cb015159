-- A publisher does the same where all goes by other numbers.
use Rattle.std.proofs.Common.{◌≡◌, ◌⊎◌, ◌+◌, ℕ, Bool, true, false, cond, not, ◌&&◌, List, [], ◌∷◌, ◌++◌, map, length, Option, None, Some}
use Rattle.std.proofs.Common.{Err, refl, sym, ap, ap₂, subst, inl, inr, ◌∙◌, Result}
use Rattle.std.proofs.lemmas.List.{length-map}
use Rattle.std.specs.Option.{option_map_or}
use Rattle.std.specs.Prelude.{◌==◌, nat_lt, nat_le, option_map, is_some, filter, fold, zip, slice_get}
use Rattle.iox_machine.specs.Choices.{Choices}
use Rattle.iox_machine.proofs.Delivering.{Outcomes, keeping, sending}
use Rattle.iox_machine.specs.Lending.{loans_of, in_use, how_many, loan_refusal, Lends}
use Rattle.iox_machine.specs.Mailbox.{Mailbox, newest, put}
use Rattle.iox_machine.specs.Message.{Message, Loan}
use Rattle.iox_machine.specs.PortList.{those, unless}
use Rattle.iox_machine.specs.PublisherUpdate as publishing
use Rattle.iox_machine.specs.PublisherUpdate.{failure_at, ended, welcome, UpdateAnswers}
use Rattle.iox_machine.specs.Sending.{GoesOn, Begins, Sends, Delivers, MayDecide}
use Rattle.iox_machine.specs.Service.{Service, Publisher, Subscriber, Send, mailbox, with_mailbox, connect}
use Rattle.iox_machine.proofs.Shorthands.{with_publisher, IsRefused, is_static, LendsLonger, is_used_up}
use Rattle.iox_machine.specs.Table.{at, contains}
use Rattle.iox_machine.proofs.Mapped.{cond-of, filter-by, all-by, get-by, flat_map-same, map-same, some-by, or-by}
use Rattle.iox_machine.proofs.Mapped.{map-swap, zip-by, fold-by, over-bool, over-same, over-result}
use Rattle.iox_machine.proofs.Renumbered.{Numbering, Numberings, same-to, same-from, placed, those-by, contained-to, contained-from}
use Rattle.iox_machine.proofs.Renumbered.{other_choices, unless-by, at-by, other_subscriber, subscriber_entry, other_reply, refused-by}
use Rattle.iox_machine.proofs.Renumbered.{other_publisher, other_loan, loan_entry, other_service, publisher-by, box-by, mailbox-by}
use Rattle.iox_machine.proofs.Renumbered.{boxed-by, connect-by, other_send}
use Rattle.iox_command.specs.DomainValues.Actions.{decision_of}
use Rattle.iox_command.specs.DomainValues.declared.backpressure.BackpressureDecision.{BackpressureDecision}
use Rattle.iox_command.specs.DomainValues.declared.backpressure.BackpressureDecision.TheVariants.{Retry, DiscardData, DiscardDataAndFail}
use Rattle.iox_command.specs.DomainValues.declared.connection_failure.ConnectionFailure.{ConnectionFailure}
use Rattle.iox_command.specs.DomainValues.declared.connection_failure.ConnectionFailure.TheVariants.{FailedToEstablishConnection}
use Rattle.iox_command.specs.DomainValues.declared.connection_failure.ZeroCopyCreationError.{ZeroCopyCreationError}
use Rattle.iox_command.specs.DomainValues.declared.connection_failure.ZeroCopyCreationError.TheVariants.{ExpiredConnectionBufferFull}
use Rattle.iox_command.specs.DomainValues.declared.degradation.DegradationAction.{DegradationAction}
use Rattle.iox_command.specs.DomainValues.declared.degradation.DegradationAction.TheVariants.{DegradeAndFail, Warn, Ignore}
use Rattle.iox_command.specs.DomainValues.declared.port_error.LoanError.{LoanError}
use Rattle.iox_command.specs.DomainValues.declared.port_error.LoanError.TheVariants.{OutOfMemory, ExceedsMaxLoans, ExceedsMaxLoanSize}
use Rattle.iox_command.specs.DomainValues.declared.port_error.SendError.TheVariants as error
use Rattle.iox_command.specs.declared.refusal.Refusal.{Refusal}
use Rattle.iox_command.specs.declared.refusal.Refusal.TheVariants as refusal
use Rattle.iox_command.specs.declared.reply.Reply.{Reply}
use Rattle.iox_command.specs.declared.reply.Reply.TheVariants as reply

-- ---- what an update answers

failure-by : (one : Numbering) (listed connected : Option ℕ)
    → failure_at (placed one listed) (placed one connected) ≡ failure_at listed connected
failure-by one None connected = refl
failure-by one (Some listed) None = refl
failure-by one (Some listed) (Some other) =
    ap (λ (b : Bool). cond b None (Some ExpiredConnectionBufferFull)) (same-to one other listed)

answers-placed : (one : Numbering) (May Other : DegradationAction → Type 0) → ((action : DegradationAction) → May action → Other action)
    → (places : List (Option ℕ × Option ℕ)) (outcome : Result (Unit {0}) ConnectionFailure) → UpdateAnswers May places outcome
    → UpdateAnswers Other (map (λ (pair : Option ℕ × Option ℕ). (placed one pair.0, placed one pair.1)) places) outcome
answers-placed one May Other over [] outcome h = h
answers-placed one May Other over (place ∷ more) outcome h =
    over-same (failure_at place.0 place.1) (failure_at (placed one place.0) (placed one place.1)) (failure-by one place.0 place.1)
    (answers-placed one May Other over more outcome) (asked (answers-placed one May Other over more outcome)) h
  where
    asked : (UpdateAnswers May more outcome
        → UpdateAnswers Other (map (λ (pair : Option ℕ × Option ℕ). (placed one pair.0, placed one pair.1)) more) outcome)
        → (failure : ZeroCopyCreationError)
        → (May DegradeAndFail × (outcome ≡ Err (FailedToEstablishConnection failure)))
        ⊎ ((May Warn ⊎ May Ignore) × UpdateAnswers May more outcome)
        → (Other DegradeAndFail × (outcome ≡ Err (FailedToEstablishConnection failure)))
        ⊎ ((Other Warn ⊎ Other Ignore)
        × UpdateAnswers Other (map (λ (pair : Option ℕ × Option ℕ). (placed one pair.0, placed one pair.1)) more) outcome)
    asked rest failure (inl (fails, is)) = inl (over DegradeAndFail fails, is)
    asked rest failure (inr (inl warns, on)) = inr (inl (over Warn warns), rest on)
    asked rest failure (inr (inr ignores, on)) = inr (inr (over Ignore ignores), rest on)

pub over-outcomes : {A C : Unit {0} → Type 0} {B D : ConnectionFailure → Type 0} (one : Numbering) (May Other : DegradationAction → Type 0)
    → ((action : DegradationAction) → May action → Other action) → (listed connected : List (Option ℕ))
    → ((v : Unit {0}) → A v → C v) → ((e : ConnectionFailure) → B e → D e) → Outcomes May (zip listed connected) A B
    → Outcomes Other (zip (map (placed one) listed) (map (placed one) connected)) C D
over-outcomes one May Other over listed connected on_ok on_err (outcome, answers, m) = (
  outcome,
  subst (λ (places : List (Option ℕ × Option ℕ)). UpdateAnswers Other places outcome)
      (sym (zip-by (placed one) (placed one) listed connected))
      (answers-placed one May Other over (zip listed connected) outcome answers),
  over-result outcome outcome refl on_ok on_err m,
)

is-left : (one : Numbering) (left : List ℕ) → is_some (slice_get (map one.to left) 0) ≡ is_some (slice_get left 0)
is-left one left = ap is_some (get-by one.to left 0) ∙ some-by one.to (slice_get left 0)

module _ {T : Type 0} (by : Numberings) where
  -- ---- an update

  ended-by : (number : ℕ) (service : Service T)
      → ended (by.publishers.to number) (other_service by service) ≡ other_service by (ended number service)
  ended-by number service = λ i. record (other_service by service) {
    mailboxes = λ publisher subscriber. cond ((same-from by.publishers publisher number i)
        && not (contained-from by.subscribers service.subscriber_list.places subscriber i))
        (option_map (λ (box : Mailbox T). record box { waiting = [] })
        (service.mailboxes (by.publishers.from publisher) (by.subscribers.from subscriber)))
        (service.mailboxes (by.publishers.from publisher) (by.subscribers.from subscriber));
  }

  welcome-by : (number : ℕ) (history : List (Message T)) (service : Service T) (subscriber : ℕ)
      → welcome (by.publishers.to number) history (other_service by service) (by.subscribers.to subscriber)
      ≡ other_service by (welcome number history service subscriber)
  welcome-by number history service subscriber =
      ap (λ (size : ℕ). greeted (connect size (by.publishers.to number) (by.subscribers.to subscriber) (other_service by service))) limit-by
      ∙ ap greeted (connect-by by limit number subscriber service)
      ∙ ap (λ (box : Mailbox T). with_mailbox (by.publishers.to number) (by.subscribers.to subscriber)
      (record box { waiting = newest box.limit history }) (other_service by met)) (mailbox-by by number subscriber met)
      ∙ boxed-by by number subscriber
      (record (mailbox number subscriber met) { waiting = newest (mailbox number subscriber met).limit history }) met
    where
      limit : ℕ
      limit = option_map_or (λ (one : Subscriber). one.buffer_size) (at subscriber service.subscribers) 0

      met : Service T
      met = connect limit number subscriber service

      greeted : Service T → Service T
      greeted it =
          with_mailbox (by.publishers.to number) (by.subscribers.to subscriber)
          (record (mailbox (by.publishers.to number) (by.subscribers.to subscriber) it) {
            waiting = newest (mailbox (by.publishers.to number) (by.subscribers.to subscriber) it).limit history;
          }) it

      limit-by : option_map_or (λ (one : Subscriber). one.buffer_size)
          (at (by.subscribers.to subscriber) (map (subscriber_entry by) service.subscribers)) 0 ≡ limit
      limit-by =
          ap (λ (found : Option Subscriber). option_map_or (λ (one : Subscriber). one.buffer_size) found 0)
          (at-by by.subscribers (other_subscriber by) subscriber service.subscribers)
          ∙ or-by (other_subscriber by) (λ (one : Subscriber). one.buffer_size) (λ (one : Subscriber). one.buffer_size) 0 (λ one. refl)
          (at subscriber service.subscribers)

  pub follows-by : (number : ℕ) (publisher : Publisher T) (old : Service T) (after : Publisher T) (new : Service T)
      → publishing.Follows number publisher old after new
      → publishing.Follows (by.publishers.to number) (other_publisher by publisher) (other_service by old) (other_publisher by after)
      (other_service by new)
  follows-by number publisher old after new (refused, allowed, is, came) = (
    map by.subscribers.to refused,
    all-by by.subscribers.to
        (λ subscriber. contains (those (map (placed by.subscribers) old.subscriber_list.places)) subscriber
        && not (is_some ((other_service by old).mailboxes (by.publishers.to number) subscriber)))
        (λ subscriber. contains (those old.subscriber_list.places) subscriber && not (is_some (old.mailboxes number subscriber)))
        (λ subscriber. ap₂ (λ (is_listed : Bool) (box : Option (Mailbox T)). is_listed && not (is_some box))
        (contained-to by.subscribers old.subscriber_list.places subscriber) (box-by by number subscriber old)) refused
        ∙ allowed,
    ap (other_publisher by) is
        ∙ ap (λ (places : List (Option ℕ)). record (other_publisher by publisher) {
          seen = old.subscriber_list.changes;
          connected = places;
        })
        (sym (map-swap (placed by.subscribers) (unless (map by.subscribers.to refused)) (unless refused) (placed by.subscribers)
        (λ place. unless-by by.subscribers refused place) old.subscriber_list.places)),
    ap (other_service by) came
        ∙ sym (ap (λ (start : Service T). fold (welcome (by.publishers.to number) publisher.history) start
        (filter (λ subscriber. not (contains (those (map (placed by.subscribers) publisher.connected)) subscriber))
        (those (map (placed by.subscribers) after.connected))))
        (ap (λ (service : Service T). with_publisher (by.publishers.to number) (other_publisher by after) service) (ended-by number old)
        ∙ publisher-by by number after (ended number old))
        ∙ ap (λ (list : List ℕ). fold (welcome (by.publishers.to number) publisher.history)
        (other_service by (with_publisher number after (ended number old))) list) new-ones
        ∙ fold-by (other_service by) by.subscribers.to (welcome (by.publishers.to number) publisher.history)
        (welcome number publisher.history)
        (λ service subscriber. welcome-by number publisher.history service subscriber) (with_publisher number after (ended number old))
        (filter (λ subscriber. not (contains (those publisher.connected) subscriber)) (those after.connected))),
  )
    where
      new-ones : filter (λ subscriber. not (contains (those (map (placed by.subscribers) publisher.connected)) subscriber))
          (those (map (placed by.subscribers) after.connected))
          ≡ map by.subscribers.to
          (filter (λ subscriber. not (contains (those publisher.connected) subscriber)) (those after.connected))
      new-ones =
          ap (filter (λ subscriber. not (contains (those (map (placed by.subscribers) publisher.connected)) subscriber)))
          (those-by by.subscribers after.connected)
          ∙ filter-by by.subscribers.to
          (λ subscriber. not (contains (those (map (placed by.subscribers) publisher.connected)) subscriber))
          (λ subscriber. not (contains (those publisher.connected) subscriber))
          (λ subscriber. ap not (contained-to by.subscribers publisher.connected subscriber)) (those after.connected)

  pub updates-by : (choices : Choices T) (number : ℕ) (told : ConnectionFailure → Refusal)
      (Does Other : Publisher T → Service T → Reply T → Service T → Type 0)
      (publisher : Publisher T) (old : Service T) (answer : Reply T) (new : Service T)
      → ((one : Publisher T) (mid : Service T) → Does one mid answer new
      → Other (other_publisher by one) (other_service by mid) (other_reply by answer) (other_service by new))
      → publishing.UpdatesFirst choices number told Does publisher old answer new
      → publishing.UpdatesFirst (other_choices by choices) (by.publishers.to number) told Other (other_publisher by publisher)
      (other_service by old)
      (other_reply by answer) (other_service by new)
  updates-by choices number told Does Other publisher old answer new does h =
      over-bool (publisher.seen == old.subscriber_list.changes) (publisher.seen == old.subscriber_list.changes) refl
      (does publisher old) followed h
    where
      followed : (after : Publisher T) × (mid : Service T) × publishing.Follows number publisher old after mid
          × Outcomes (choices.publisher_acts number publisher.degradation) (zip old.subscriber_list.places after.connected)
          (λ done. Does after mid answer new) (λ failure. IsRefused (told failure) mid answer new)
          → (after : Publisher T) × (mid : Service T)
          × publishing.Follows (by.publishers.to number) (other_publisher by publisher) (other_service by old) after mid
          × Outcomes ((other_choices by choices).publisher_acts (by.publishers.to number) publisher.degradation)
          (zip (map (placed by.subscribers) old.subscriber_list.places) after.connected)
          (λ done. Other after mid (other_reply by answer) (other_service by new))
          (λ failure. IsRefused (told failure) mid (other_reply by answer) (other_service by new))
      followed (after, mid, follows, end) = (
        other_publisher by after,
        other_service by mid,
        follows-by number publisher old after mid follows,
        over-outcomes by.subscribers (choices.publisher_acts number publisher.degradation)
            ((other_choices by choices).publisher_acts (by.publishers.to number) publisher.degradation)
            (λ action may. (number, refl, may)) old.subscriber_list.places after.connected
            (λ (done : Unit {0}). does after mid)
            (λ (failure : ConnectionFailure). refused-by by (other_service by) (told failure) mid answer new) end,
      )

  -- ---- a send

  counted-by : (number : ℕ) (service : Service T) (subscriber : ℕ)
      → option_map_or (λ (one : Subscriber). one.stands && contains (those one.connected) (by.publishers.to number))
      (at (by.subscribers.to subscriber) (map (subscriber_entry by) service.subscribers)) false
      ≡ option_map_or (λ (one : Subscriber). one.stands && contains (those one.connected) number) (at subscriber service.subscribers) false
  counted-by number service subscriber =
      ap (λ (found : Option Subscriber). option_map_or
      (λ (one : Subscriber). one.stands && contains (those one.connected) (by.publishers.to number)) found false)
      (at-by by.subscribers (other_subscriber by) subscriber service.subscribers)
      ∙ or-by (other_subscriber by) (λ (one : Subscriber). one.stands && contains (those one.connected) (by.publishers.to number))
      (λ (one : Subscriber). one.stands && contains (those one.connected) number) false
      (λ one. ap (λ (b : Bool). one.stands && b) (contained-to by.publishers one.connected number))
      (at subscriber service.subscribers)

  module _ (choices : Choices T) (number : ℕ) (publisher : Publisher T) where
    may-by : (subscriber : ℕ) (send : Send T) (service : Service T) (decision : BackpressureDecision)
        → MayDecide choices number publisher subscriber send service decision
        → MayDecide (other_choices by choices) (by.publishers.to number) (other_publisher by publisher) (by.subscribers.to subscriber)
        (other_send by send) (other_service by service) decision
    may-by subscriber send service decision may =
        over-bool (option_map_or (λ (one : Subscriber). one.stands && contains (those one.connected) number)
        (at subscriber service.subscribers) false)
        (option_map_or (λ (one : Subscriber). one.stands && contains (those one.connected) (by.publishers.to number))
        (at (by.subscribers.to subscriber) (map (subscriber_entry by) service.subscribers)) false)
        (counted-by number service subscriber)
        (λ (chosen : choices.publisher_decides number send.retries send.elapsed (decision_of publisher.strategy publisher.handler)
        decision).
        (number, refl, chosen)) (λ (is : decision ≡ DiscardData). is) may

    delivers-by : (left : List ℕ) (send : Send T) (old : Service T) (after : Send T) (new : Service T)
        → Delivers choices number publisher left send old after new
        → Delivers (other_choices by choices) (by.publishers.to number) (other_publisher by publisher) (map by.subscribers.to left)
        (other_send by send) (other_service by old) (other_send by after) (other_service by new)
    delivers-by [] send old after new (is, same) = (ap (other_send by) is, ap (other_service by) same)
    delivers-by (subscriber ∷ more) send old after new h =
        over-same (put old.settings.enable_safe_overflow send.message (mailbox number subscriber old))
        (put old.settings.enable_safe_overflow send.message
        (mailbox (by.publishers.to number) (by.subscribers.to subscriber) (other_service by old)))
        (ap (put old.settings.enable_safe_overflow send.message) (mailbox-by by number subscriber old))
        (full (λ next. delivers-by more next old after new))
        (λ box. taken box (delivers-by more (record send { retries = 0; elapsed = 0; delivered = send.delivered + 1 })
        (with_mailbox number subscriber box old) after new)) h
      where
        Goes : Send T → Type 0
        Goes next =
            Delivers (other_choices by choices) (by.publishers.to number) (other_publisher by publisher) (map by.subscribers.to more)
            (other_send by next) (other_service by old) (other_send by after) (other_service by new)

        full : ((next : Send T) → Delivers choices number publisher more next old after new → Goes next)
            → (MayDecide choices number publisher subscriber send old Retry × (after ≡ record send { left = subscriber ∷ more })
            × (new ≡ old))
            ⊎ (MayDecide choices number publisher subscriber send old DiscardData
            × Delivers choices number publisher more (record send { retries = 0; elapsed = 0 }) old after new)
            ⊎ (MayDecide choices number publisher subscriber send old DiscardDataAndFail
            × Delivers choices number publisher more (record send { retries = 0; elapsed = 0; fails = true }) old after new)
            → (MayDecide (other_choices by choices) (by.publishers.to number) (other_publisher by publisher) (by.subscribers.to subscriber)
            (other_send by send) (other_service by old) Retry
            × (other_send by after ≡ other_send by (record send { left = subscriber ∷ more }))
            × (other_service by new ≡ other_service by old))
            ⊎ (MayDecide (other_choices by choices) (by.publishers.to number) (other_publisher by publisher) (by.subscribers.to subscriber)
            (other_send by send) (other_service by old) DiscardData
            × Goes (record send { retries = 0; elapsed = 0 }))
            ⊎ (MayDecide (other_choices by choices) (by.publishers.to number) (other_publisher by publisher) (by.subscribers.to subscriber)
            (other_send by send) (other_service by old) DiscardDataAndFail
            × Goes (record send { retries = 0; elapsed = 0; fails = true }))
        full goes (inl (may, is, same)) = inl (may-by subscriber send old Retry may, ap (other_send by) is, ap (other_service by) same)
        full goes (inr (inl (may, on))) =
            inr (inl (
              may-by subscriber send old DiscardData may,
              goes (record send { retries = 0; elapsed = 0 }) on,
            ))
        full goes (inr (inr (may, on))) =
            inr (inr (
              may-by subscriber send old DiscardDataAndFail may,
              goes (record send { retries = 0; elapsed = 0; fails = true }) on,
            ))

        taken : (box : Mailbox T)
            → (Delivers choices number publisher more (record send { retries = 0; elapsed = 0; delivered = send.delivered + 1 })
            (with_mailbox number subscriber box old) after new
            → Delivers (other_choices by choices) (by.publishers.to number) (other_publisher by publisher) (map by.subscribers.to more)
            (other_send by (record send { retries = 0; elapsed = 0; delivered = send.delivered + 1 }))
            (other_service by (with_mailbox number subscriber box old)) (other_send by after) (other_service by new))
            → Delivers choices number publisher more (record send { retries = 0; elapsed = 0; delivered = send.delivered + 1 })
            (with_mailbox number subscriber box old) after new
            → Delivers (other_choices by choices) (by.publishers.to number) (other_publisher by publisher) (map by.subscribers.to more)
            (record (other_send by send) { retries = 0; elapsed = 0; delivered = send.delivered + 1 })
            (with_mailbox (by.publishers.to number) (by.subscribers.to subscriber) box (other_service by old)) (other_send by after)
            (other_service by new)
        taken box goes on =
            subst (λ (mid : Service T). Delivers (other_choices by choices) (by.publishers.to number) (other_publisher by publisher)
            (map by.subscribers.to more) (record (other_send by send) { retries = 0; elapsed = 0; delivered = send.delivered + 1 }) mid
            (other_send by after) (other_service by new)) (sym (boxed-by by number subscriber box old))
            (goes on)

  same-answer : (b c : Bool) (count : ℕ) → other_reply {T = T} by (cond b reply.Blocked
      (cond c (reply.Refused (refusal.Send error.UnableToDeliver)) (reply.Delivered count)))
      ≡ cond b reply.Blocked (cond c (reply.Refused (refusal.Send error.UnableToDeliver)) (reply.Delivered count))
  same-answer true c count = refl
  same-answer false true count = refl
  same-answer false false count = refl

  pub goes-on-by : (choices : Choices T) (number : ℕ) (publisher : Publisher T) (send : Send T) (old : Service T) (answer : Reply T)
      (new : Service T)
      → GoesOn choices number publisher send old answer new
      → GoesOn (other_choices by choices) (by.publishers.to number) (other_publisher by publisher) (other_send by send)
      (other_service by old) (other_reply by answer)
      (other_service by new)
  goes-on-by choices number publisher send old answer new (after, mid, went, told, came) = (
    other_send by after,
    other_service by mid,
    delivers-by choices number publisher send.left send old after mid went,
    ap (other_reply by) told
        ∙ same-answer (is_some (slice_get after.left 0)) after.fails after.delivered
        ∙ ap (λ (b : Bool). cond b reply.Blocked
        (cond after.fails (reply.Refused (refusal.Send error.UnableToDeliver)) (reply.Delivered after.delivered)))
        (sym (is-left by.subscribers after.left)),
    ap (other_service by) came
        ∙ sym (publisher-by by number (record publisher { blocked = cond (is_some (slice_get after.left 0)) (Some after) None }) mid)
        ∙ ap (λ (blocked : Option (Send T)). with_publisher (by.publishers.to number)
        (record (other_publisher by publisher) { blocked = blocked }) (other_service by mid))
        (sym (cond-of (option_map (other_send by)) (is_some (slice_get after.left 0)) (Some after) None))
        ∙ ap (λ (b : Bool). with_publisher (by.publishers.to number)
        (record (other_publisher by publisher) { blocked = cond b (Some (other_send by after)) None }) (other_service by mid))
        (sym (is-left by.subscribers after.left)),
  )

  begins-by : (choices : Choices T) (number : ℕ) (message : Message T) (publisher : Publisher T) (old : Service T) (answer : Reply T)
      (new : Service T)
      → Begins choices number message publisher old answer new
      → Begins (other_choices by choices) (by.publishers.to number) message (other_publisher by publisher) (other_service by old)
      (other_reply by answer)
      (other_service by new)
  begins-by choices number message publisher old answer new h =
      subst (λ (left : List ℕ). GoesOn (other_choices by choices) (by.publishers.to number)
      (keeping message (other_publisher by publisher) (other_service by old))
      (record (sending message publisher) { left = left }) (other_service by old)
      (other_reply by answer) (other_service by new)) (sym (those-by by.subscribers publisher.connected))
      (goes-on-by choices number (keeping message publisher old)
      (sending message publisher)
      old answer new h)

  pub sends-by : (choices : Choices T) (number : ℕ) (message : Message T) (publisher : Publisher T) (old : Service T) (answer : Reply T)
      (new : Service T)
      → Sends choices number message publisher old answer new
      → Sends (other_choices by choices) (by.publishers.to number) message (other_publisher by publisher) (other_service by old)
      (other_reply by answer)
      (other_service by new)
  sends-by choices number message publisher old answer new h =
      over-bool publisher.stands publisher.stands refl
      (over-bool (is_used_up publisher.last_sequence) (is_used_up publisher.last_sequence) refl
      (refused-by by (other_service by) (refusal.Send error.InternalError) old answer new)
      (updates-by choices number (λ failure. refusal.Send (error.ConnectionError failure)) (Begins choices number message)
      (Begins (other_choices by choices) (by.publishers.to number) message) publisher old answer new
      (λ one mid. begins-by choices number message one mid answer new)))
      (refused-by by (other_service by) (refusal.Send error.ConnectionBrokenSinceSenderNoLongerExists) old answer new) h

  -- ---- a loan

  loans-of-by : (number : ℕ) (service : Service T)
      → loans_of (by.publishers.to number) (other_service by service) ≡ map (other_loan by) (loans_of number service)
  loans-of-by number service =
      ap (filter (λ (loan : Loan T). loan.publisher == by.publishers.to number))
      (map-swap (loan_entry by) (λ (entry : ℕ × Loan T). entry.1) (λ (entry : ℕ × Loan T). entry.1) (other_loan by) (λ entry. refl)
      service.loans)
      ∙ filter-by (other_loan by) (λ (loan : Loan T). loan.publisher == by.publishers.to number)
      (λ (loan : Loan T). loan.publisher == number) (λ loan. same-to by.publishers loan.publisher number)
      (map (λ (entry : ℕ × Loan T). entry.1) service.loans)

  in-use-by : (number : ℕ) (publisher : Publisher T) (service : Service T)
      → in_use (by.publishers.to number) (other_publisher by publisher) (other_service by service) ≡ in_use number publisher service
  in-use-by number publisher service =
      ap₂ (λ (lent : List ℕ) (met : List (Message T)). lent ++ map (λ (message : Message T). message.number) (publisher.history ++ met))
      (ap (map (λ (loan : Loan T). loan.number)) (loans-of-by number service)
      ∙ map-same (other_loan by) (λ (loan : Loan T). loan.number) (λ (loan : Loan T). loan.number) (λ loan. refl)
      (loans_of number service))
      (flat_map-same (subscriber_entry by)
      (λ (entry : ℕ × Subscriber). (mailbox (by.publishers.to number) entry.0 (other_service by service)).waiting
      ++ (mailbox (by.publishers.to number) entry.0 (other_service by service)).borrowed)
      (λ (entry : ℕ × Subscriber). (mailbox number entry.0 service).waiting ++ (mailbox number entry.0 service).borrowed)
      (λ entry. ap (λ (box : Mailbox T). box.waiting ++ box.borrowed) (mailbox-by by number entry.0 service)) service.subscribers)

  loan-refusal-by : (number values : ℕ) (publisher : Publisher T) (service : Service T)
      → loan_refusal (by.publishers.to number) values (other_publisher by publisher) (other_service by service)
      ≡ loan_refusal number values publisher service
  loan-refusal-by number values publisher service =
      ap₂ (λ (count : ℕ) (used : List ℕ). cond (nat_lt publisher.room values && is_static publisher.allocation) (Some ExceedsMaxLoanSize)
      (cond (nat_le publisher.max_loaned_samples count) (Some ExceedsMaxLoans)
      (cond (nat_le values publisher.room && nat_le publisher.slots (how_many (filter (nat_le publisher.first) used))) (Some OutOfMemory)
      None)))
      (ap length (loans-of-by number service) ∙ length-map (loans_of number service) (other_loan by))
      (in-use-by number publisher service)

  longer-by : (number values : ℕ) (publisher : Publisher T) (why : Option LoanError) (after : Publisher T)
      → LendsLonger number values publisher why after
      → LendsLonger (by.publishers.to number) values (other_publisher by publisher) why (other_publisher by after)
  longer-by number values publisher why after (inl (told, same)) = inl (told, ap (other_publisher by) same)
  longer-by number values publisher why after (inr (room, fits, few, told, is)) =
      inr (room, fits, few, told, ap (other_publisher by) is)

  lends-next : (publisher : Publisher T) (why : Option LoanError) (after : Publisher T)
      → (why ≡ None) × (after ≡ record publisher { next = publisher.next + 1 })
      → (why ≡ None) × (other_publisher by after ≡ record (other_publisher by publisher) { next = publisher.next + 1 })
  lends-next publisher why after (told, is) = (told, ap (other_publisher by) is)

  lends-none : (publisher : Publisher T) (why : Option LoanError) (after : Publisher T) (it : LoanError)
      → (why ≡ Some it) × (after ≡ publisher) → (why ≡ Some it) × (other_publisher by after ≡ other_publisher by publisher)
  lends-none publisher why after it (told, is) = (told, ap (other_publisher by) is)

  pub lends-by : (number values : ℕ) (publisher : Publisher T) (service : Service T) (why : Option LoanError) (after : Publisher T)
      → Lends number values publisher service why after
      → Lends (by.publishers.to number) values (other_publisher by publisher) (other_service by service) why (other_publisher by after)
  lends-by number values publisher service why after h =
      over-same (loan_refusal number values publisher service)
      (loan_refusal (by.publishers.to number) values (other_publisher by publisher) (other_service by service))
      (loan-refusal-by number values publisher service)
      (over-bool (nat_lt publisher.room values) (nat_lt publisher.room values) refl (longer-by number values publisher why after)
      (lends-next publisher why after)) (lends-none publisher why after) h
