-- What a port leaves as it was in all that it does.
use Rattle.std.proofs.Common.{◌≡◌, ◌⊎◌, ◌+◌, ℕ, Bool, true, false, cond, not, ◌&&◌, List, [], ◌∷◌, ◌++◌, Option, None, Some, refl, sym}
use Rattle.std.proofs.Common.{ap, subst, inl, inr, ◌∙◌}
use Rattle.std.proofs.lemmas.Bool.{eqb-true, eqb-false, eq-eqb, ne_eqb, and_from, and_right, cases_Bool}
use Rattle.std.specs.List.{list_all}
use Rattle.std.specs.Prelude.{◌^◌, ◌||◌, ◌==◌, nat_le, nat_lt, is_some, unwrap_or, option_map, option_and_then, fold, filter, slice_get}
use Rattle.std.specs.Prelude.{MatchBool, drop, zip}
use Rattle.std.specs.Option.{option_map_or}
use Rattle.iox_machine.proofs.Shorthands.{given_back, registered, with_subscriber, with_publisher, IsRefused, IsSkipped}
use Rattle.iox_machine.specs.Choices.{Choices}
use Rattle.iox_machine.proofs.Delivering.{Outcomes, by-outcome, first_of, offered, deliver, goes-on-so, keeping, at_once, by-send, sending}
use Rattle.iox_machine.specs.Arriving.{worst_case, PublisherArrives, SubscriberArrives}
use Rattle.iox_machine.specs.Mailbox.{Mailbox, put, newest}
use Rattle.iox_machine.specs.Message.{Message, Loan}
use Rattle.iox_machine.specs.RunLaws.{is_written, sent_as}
use Rattle.iox_machine.specs.PortList.{those}
use Rattle.iox_machine.specs.Ports.{publisher_in, subscriber_in, LendsLoan, Puts, SendsLoan}
use Rattle.iox_machine.specs.PublisherUpdate as publishing
use Rattle.iox_machine.specs.Sending.{GoesOn, Begins, Sends}
use Rattle.iox_machine.specs.Service.{Service, Publisher, Subscriber, Send, mailbox, with_mailbox, connect}
use Rattle.iox_machine.specs.SubscriberUpdate as subscribing
use Rattle.iox_machine.specs.Table.{at, contains, removed}
use Rattle.iox_machine.proofs.Cases.{by-bool, by-option, same-some, never-some, chosen, both-true}
use Rattle.iox_machine.proofs.Tables.{at-changed, at-changed-other, at-appended-other}
use Rattle.iox_command.specs.DomainValues.declared.backpressure.BackpressureDecision.{BackpressureDecision}
use Rattle.iox_command.specs.DomainValues.declared.backpressure.BackpressureDecision.TheVariants.{Retry, DiscardData, DiscardDataAndFail}
use Rattle.iox_command.specs.DomainValues.declared.connection_failure.ConnectionFailure.{ConnectionFailure}
use Rattle.iox_command.specs.DomainValues.declared.create_error.PublisherCreateError.TheVariants as publisher_error
use Rattle.iox_command.specs.DomainValues.declared.create_error.SubscriberCreateError.TheVariants as subscriber_error
use Rattle.iox_command.specs.DomainValues.declared.port_error.SendError.TheVariants as error
use Rattle.iox_command.specs.declared.refusal.Refusal.{Refusal}
use Rattle.iox_command.specs.declared.refusal.Refusal.TheVariants as refusal
use Rattle.iox_command.specs.declared.reply.Reply.{Reply}
use Rattle.iox_command.specs.declared.reply.Reply.TheVariants as reply

pub publisher-stands : {T : Type 0} (number : ℕ) (service : Service T) (one : Publisher T) → publisher_in number service ≡ Some one
    → at number service.publishers ≡ Some one
publisher-stands {T} number service one e = found (at number service.publishers) e
  where
    found : (o : Option (Publisher T)) → option_and_then (λ (p : Publisher T). cond p.stands (Some p) None) o ≡ Some one → o ≡ Some one
    found None e = never-some one e
    found (Some p) e = elim (chosen p.stands (Some p) None (Some one) e) [
      | inl w ↦ w.1
      | inr w ↦ never-some one w.1
    ]

pub subscriber-stands : {T : Type 0} (number : ℕ) (service : Service T) (one : Subscriber) → subscriber_in number service ≡ Some one
    → (at number service.subscribers ≡ Some one) × (one.stands ≡ true)
subscriber-stands number service one e = found (at number service.subscribers) e
  where
    found : (o : Option Subscriber) → option_and_then (λ (s : Subscriber). cond s.stands (Some s) None) o ≡ Some one
        → (o ≡ Some one) × (one.stands ≡ true)
    found None e = never-some one e
    found (Some s) e = elim (chosen s.stands (Some s) None (Some one) e) [
      | inl w ↦ (w.1, subst (λ (it : Subscriber). it.stands ≡ true) (same-some s one w.1) w.0)
      | inr w ↦ never-some one w.1
    ]

-- of which factory a subscriber is, and whether it stands
abbrev pub holder_of : Subscriber → ℕ × Bool
holder_of subscriber = (subscriber.factory, subscriber.stands)

module _ {T : Type 0} where
  -- what waits in a mailbox, nothing where there is none
  abbrev pub waiting_in : Option (Mailbox T) → List (Message T)
  waiting_in box = (unwrap_or box (record { limit = 0; waiting = []; borrowed = [] })).waiting

  -- the same waits, and there is a mailbox if there was one
  abbrev pub Softer : Option (Mailbox T) → Option (Mailbox T) → Type 0
  Softer old new = (waiting_in new ≡ waiting_in old) × (is_some old ≡ true → is_some new ≡ true)

  abbrev pub holder_at : ℕ → Service T → Option (ℕ × Bool)
  holder_at number service = option_map holder_of (at number service.subscribers)

  -- A publisher did something.
  abbrev pub ByPublisher : ℕ → Service T → Service T → Type 0
  ByPublisher number old new =
      (new.name ≡ old.name) × (new.settings ≡ old.settings) × (new.subscriber_list ≡ old.subscriber_list)
      × (new.subscribers ≡ old.subscribers) × (new.samples ≡ old.samples)
      × ((other : ℕ) → (other ≡ number → ⊥) → at other new.publishers ≡ at other old.publishers)
      × ((other subscriber : ℕ) → (other ≡ number → ⊥) → new.mailboxes other subscriber ≡ old.mailboxes other subscriber)

  -- A subscriber followed the list of publishers.
  abbrev pub BySubscriber : Service T → Service T → Type 0
  BySubscriber old new =
      (new.name ≡ old.name) × (new.settings ≡ old.settings) × (new.subscriber_list ≡ old.subscriber_list)
      × (new.publishers ≡ old.publishers) × (new.samples ≡ old.samples)
      × ((other : ℕ) → holder_at other new ≡ holder_at other old)
      × ((publisher subscriber : ℕ) → Softer (old.mailboxes publisher subscriber) (new.mailboxes publisher subscriber))

  pub by-none : (number : ℕ) (service : Service T) → ByPublisher number service service
  by-none number service = (refl, refl, refl, refl, refl, (λ other off. refl), (λ other subscriber off. refl))

  pub by-both : (number : ℕ) (one two three : Service T) → ByPublisher number one two → ByPublisher number two three
      → ByPublisher number one three
  by-both number one two three h k = (
    k.0 ∙ h.0,
    k.1 ∙ h.1,
    k.2 ∙ h.2,
    k.3 ∙ h.3,
    k.4 ∙ h.4,
    (λ other off. k.5 other off ∙ h.5 other off),
    (λ other subscriber off. k.6 other subscriber off ∙ h.6 other subscriber off),
  )

  pub soft-none : (service : Service T) → BySubscriber service service
  soft-none service = (refl, refl, refl, refl, refl, (λ other. refl), (λ publisher subscriber. (refl, λ h. h)))

  pub soft-both : (one two three : Service T) → BySubscriber one two → BySubscriber two three → BySubscriber one three
  soft-both one two three h k = (
    k.0 ∙ h.0,
    k.1 ∙ h.1,
    k.2 ∙ h.2,
    k.3 ∙ h.3,
    k.4 ∙ h.4,
    (λ other. k.5 other ∙ h.5 other),
    (λ publisher subscriber. (
      (k.6 publisher subscriber).0 ∙ (h.6 publisher subscriber).0,
      λ is. (k.6 publisher subscriber).1 ((h.6 publisher subscriber).1 is),
    )),
  )

  -- ---- mailboxes

  pub box-same : (publisher subscriber : ℕ) (box : Mailbox T) (service : Service T)
      → (with_mailbox publisher subscriber box service).mailboxes publisher subscriber ≡ Some box
  box-same publisher subscriber box service =
      ap (λ (b : Bool). cond b (Some box) (service.mailboxes publisher subscriber))
      (and_from (publisher == publisher) (subscriber == subscriber) (eq-eqb publisher publisher refl) (eq-eqb subscriber subscriber refl))

  pub box-other : (publisher subscriber : ℕ) (box : Mailbox T) (service : Service T) (one other : ℕ) → (one ≡ publisher → ⊥)
      → (with_mailbox publisher subscriber box service).mailboxes one other ≡ service.mailboxes one other
  box-other publisher subscriber box service one other off =
      ap (λ (b : Bool). cond (b && (other == subscriber)) (Some box) (service.mailboxes one other)) (ne_eqb one publisher off)

  pub box-aside : (publisher subscriber : ℕ) (box : Mailbox T) (service : Service T) (one other : ℕ) → (other ≡ subscriber → ⊥)
      → (with_mailbox publisher subscriber box service).mailboxes one other ≡ service.mailboxes one other
  box-aside publisher subscriber box service one other off =
      ap (λ (b : Bool). cond b (Some box) (service.mailboxes one other))
      (and_right (one == publisher) (other == subscriber) (ne_eqb other subscriber off))

  pub softer-box : (publisher subscriber : ℕ) (box : Mailbox T) (service : Service T)
      → Softer (service.mailboxes publisher subscriber) (Some box)
      → (one other : ℕ) → Softer (service.mailboxes one other) ((with_mailbox publisher subscriber box service).mailboxes one other)
  softer-box publisher subscriber box service soft one other =
      step ((one == publisher) && (other == subscriber)) (λ is.
      subst (λ (p : ℕ). Softer (service.mailboxes p other) (Some box))
      (sym (eqb-true one publisher (both-true (one == publisher) (other == subscriber) is).0))
      (subst (λ (s : ℕ). Softer (service.mailboxes publisher s) (Some box))
      (sym (eqb-true other subscriber (both-true (one == publisher) (other == subscriber) is).1)) soft))
    where
      step : (b : Bool) → (b ≡ true → Softer (service.mailboxes one other) (Some box))
          → Softer (service.mailboxes one other) (cond b (Some box) (service.mailboxes one other))
      step true on = on refl
      step false on = (refl, λ h. h)

  given-softer : (number : ℕ) (o : Option (Mailbox T))
      → Softer o (Some (given_back number (unwrap_or o (record { limit = 0; waiting = []; borrowed = [] }))))
  given-softer number o = (refl, λ h. refl)

  pub soft-given : (number publisher subscriber : ℕ) (service : Service T) (one other : ℕ)
      → Softer (service.mailboxes one other)
      ((with_mailbox publisher subscriber (given_back number (mailbox publisher subscriber service)) service).mailboxes one other)
  soft-given number publisher subscriber service =
      softer-box publisher subscriber (given_back number (mailbox publisher subscriber service)) service
      (given-softer number (service.mailboxes publisher subscriber))

  either : (P : Service T → Type 0) (b : Bool) (one other : Service T) → (b ≡ true → P one) → (b ≡ false → P other) → P (cond b one other)
  either P true one other p q = p refl
  either P false one other p q = q refl

  empty-softer : (limit : ℕ) (o : Option (Mailbox T)) → is_some o ≡ false
      → Softer o (Some (record { limit = limit; waiting = []; borrowed = [] }))
  empty-softer limit None e = (refl, λ h. refl)
  empty-softer limit (Some box) e = absurd (differ e)
    where
      differ : true ≡ false → ⊥
      differ e = cc

  pub soft-connect : (limit publisher subscriber : ℕ) (service : Service T)
      → BySubscriber service (connect limit publisher subscriber service)
  soft-connect limit publisher subscriber service =
      either (BySubscriber service) (is_some (service.mailboxes publisher subscriber)) service
      (with_mailbox publisher subscriber (record { limit = limit; waiting = []; borrowed = [] }) service)
      (λ is. soft-none service)
      (λ is. (
        refl,
        refl,
        refl,
        refl,
        refl,
        (λ other. refl),
        softer-box publisher subscriber (record { limit = limit; waiting = []; borrowed = [] }) service
            (empty-softer limit (service.mailboxes publisher subscriber) is),
      ))

  pub by-box : (publisher subscriber : ℕ) (box : Mailbox T) (service : Service T)
      → ByPublisher publisher service (with_mailbox publisher subscriber box service)
  by-box publisher subscriber box service =
      (refl, refl, refl, refl, refl, (λ other off. refl), (λ one other off. box-other publisher subscriber box service one other off))

  pub by-connect : (limit publisher subscriber : ℕ) (service : Service T)
      → ByPublisher publisher service (connect limit publisher subscriber service)
  by-connect limit publisher subscriber service =
      either (ByPublisher publisher service) (is_some (service.mailboxes publisher subscriber)) service
      (with_mailbox publisher subscriber (record { limit = limit; waiting = []; borrowed = [] }) service)
      (λ is. by-none publisher service)
      (λ is. by-box publisher subscriber (record { limit = limit; waiting = []; borrowed = [] }) service)

  -- ---- a publisher

  pub by-set : (number : ℕ) (publisher : Publisher T) (service : Service T) → ByPublisher number service
      (with_publisher number publisher service)
  by-set number publisher service = (
    refl,
    refl,
    refl,
    refl,
    refl,
    (λ other off. at-changed-other number other publisher service.publishers off),
    (λ one other off. refl),
  )

  by-ended : (number : ℕ) (service : Service T) → ByPublisher number service (publishing.ended number service)
  by-ended number service = (
    refl,
    refl,
    refl,
    refl,
    refl,
    (λ other off. refl),
    (λ one other off. ap
        (λ (b : Bool). cond (b && not (contains (those service.subscriber_list.places) other))
        (option_map (λ (box : Mailbox T). record box { waiting = [] }) (service.mailboxes one other)) (service.mailboxes one other))
        (ne_eqb one number off)),
  )

  by-welcome : (number : ℕ) (history : List (Message T)) (service : Service T) (subscriber : ℕ)
      → ByPublisher number service (publishing.welcome number history service subscriber)
  by-welcome number history service subscriber =
      let limit : ℕ = option_map_or (λ (one : Subscriber). one.buffer_size) (at subscriber service.subscribers) 0 in
      let met : Service T = connect limit number subscriber service in
      let box : Mailbox T = mailbox number subscriber met in
      by-both number service met (with_mailbox number subscriber (record box { waiting = newest box.limit history }) met)
      (by-connect limit number subscriber service)
      (by-box number subscriber (record box { waiting = newest box.limit history }) met)

  by-welcomes : (number : ℕ) (history : List (Message T)) (new : List ℕ) (service : Service T)
      → ByPublisher number service (fold (publishing.welcome number history) service new)
  by-welcomes number history [] service = by-none number service
  by-welcomes number history (subscriber ∷ more) service =
      by-both number service (publishing.welcome number history service subscriber)
      (fold (publishing.welcome number history) (publishing.welcome number history service subscriber) more)
      (by-welcome number history service subscriber)
      (by-welcomes number history more (publishing.welcome number history service subscriber))

  pub by-follows : (number : ℕ) (publisher : Publisher T) (old : Service T) (after : Publisher T) (new : Service T)
      → publishing.Follows number publisher old after new → ByPublisher number old new
  by-follows number publisher old after new (refused, allowed, is, came) =
      let begun : Service T = with_publisher number after (publishing.ended number old) in
      let ready : ByPublisher number old begun =
      by-both number old (publishing.ended number old) begun (by-ended number old) (by-set number after (publishing.ended number old)) in
      subst (λ (s : Service T). ByPublisher number old s) (sym came)
      (by-both number old begun
      (fold (publishing.welcome number publisher.history) begun
      (filter (λ subscriber. not (contains (those publisher.connected) subscriber)) (those after.connected)))
      ready
      (by-welcomes number publisher.history
      (filter (λ subscriber. not (contains (those publisher.connected) subscriber)) (those after.connected)) begun))

  by-offered : (number : ℕ) (met : Option (Mailbox T)) (decision : BackpressureDecision) (subscriber : ℕ) (more : List ℕ)
      (goes_on : Send T → Service T → Send T × Service T) (send : Send T) (service : Service T)
      → ((next : Send T) (mid : Service T) → ByPublisher number mid (goes_on next mid).1)
      → ByPublisher number service (offered number met decision subscriber more goes_on send service).1
  by-offered number (Some box) decision subscriber more goes_on send service on =
      by-both number service (with_mailbox number subscriber box service)
      (goes_on (record send { retries = 0; elapsed = 0; delivered = send.delivered + 1 }) (with_mailbox number subscriber box service)).1
      (by-box number subscriber box service)
      (on (record send { retries = 0; elapsed = 0; delivered = send.delivered + 1 }) (with_mailbox number subscriber box service))
  by-offered number None Retry subscriber more goes_on send service on = by-none number service
  by-offered number None DiscardData subscriber more goes_on send service on = on (record send { retries = 0; elapsed = 0 }) service
  by-offered number None DiscardDataAndFail subscriber more goes_on send service on =
      on (record send { retries = 0; elapsed = 0; fails = true }) service

  pub by-deliver : (number : ℕ) (decisions : List BackpressureDecision) (left : List ℕ) (send : Send T) (service : Service T)
      → ByPublisher number service (deliver number decisions left send service).1
  by-deliver number decisions [] send service = by-none number service
  by-deliver number decisions (subscriber ∷ more) send service =
      by-offered number (put service.settings.enable_safe_overflow send.message (mailbox number subscriber service))
      (first_of decisions) subscriber more (deliver number (drop 1 decisions) more) send service
      (λ next mid. by-deliver number (drop 1 decisions) more next mid)

  pub by-goes-on : (choices : Choices T) (number : ℕ) (publisher : Publisher T) (send : Send T) (old : Service T) (answer : Reply T)
      (new : Service T)
      → GoesOn choices number publisher send old answer new → ByPublisher number old new
  by-goes-on choices number publisher send old answer new h =
      let so = goes-on-so choices number publisher send old answer new h in
      let after : Send T × Service T = deliver number so.0 send.left send old in
      let now : Publisher T = record publisher { blocked = cond (is_some (slice_get after.0.left 0)) (Some after.0) None } in
      subst (λ (s : Service T). ByPublisher number old s) (sym so.1.1)
      (by-both number old after.1 (with_publisher number now after.1) (by-deliver number so.0 send.left send old)
      (by-set number now after.1))

  -- ---- a subscriber

  pub soft-set : (number : ℕ) (was subscriber : Subscriber) (service : Service T) → at number service.subscribers ≡ Some was
      → holder_of subscriber ≡ holder_of was → BySubscriber service (with_subscriber number subscriber service)
  soft-set number was subscriber service found same = (
    refl,
    refl,
    refl,
    refl,
    refl,
    (λ other. elim (cases_Bool (other == number)) [
      | inl is ↦ subst (λ (it : ℕ). holder_at it (with_subscriber number subscriber service) ≡ holder_at it service)
          (sym (eqb-true other number is))
          (ap (option_map holder_of) (at-changed number subscriber was service.subscribers found)
          ∙ (ap (λ (it : ℕ × Bool). Some it) same ∙ sym (ap (option_map holder_of) found)))
      | inr is ↦ ap (option_map holder_of) (at-changed-other number other subscriber service.subscribers (eqb-false other number is))
    ]),
    (λ publisher other. (refl, λ h. h)),
  )

  soft-connects : (limit subscriber : ℕ) (publishers : List ℕ) (service : Service T)
      → BySubscriber service (fold (λ (it : Service T) (publisher : ℕ). connect limit publisher subscriber it) service publishers)
  soft-connects limit subscriber [] service = soft-none service
  soft-connects limit subscriber (publisher ∷ more) service =
      soft-both service (connect limit publisher subscriber service)
      (fold (λ (it : Service T) (other : ℕ). connect limit other subscriber it) (connect limit publisher subscriber service) more)
      (soft-connect limit publisher subscriber service)
      (soft-connects limit subscriber more (connect limit publisher subscriber service))

  connect-subscribers : (limit publisher subscriber : ℕ) (service : Service T)
      → (connect limit publisher subscriber service).subscribers ≡ service.subscribers
  connect-subscribers limit publisher subscriber service = (by-connect limit publisher subscriber service).3

  connects-subscribers : (limit subscriber : ℕ) (publishers : List ℕ) (service : Service T)
      → (fold (λ (it : Service T) (publisher : ℕ). connect limit publisher subscriber it) service publishers).subscribers
      ≡ service.subscribers
  connects-subscribers limit subscriber [] service = refl
  connects-subscribers limit subscriber (publisher ∷ more) service =
      connects-subscribers limit subscriber more (connect limit publisher subscriber service)
      ∙ connect-subscribers limit publisher subscriber service

  -- a subscriber that follows is of its factory, and stands, as before
  pub soft-followed : (buffer number : ℕ) (subscriber : Subscriber) (old : Service T) (after : Subscriber) (new : Service T)
      → subscribing.Follows buffer number subscriber old after new
      → BySubscriber (with_subscriber number after old) new × (holder_of after ≡ holder_of subscriber)
      × (new.subscribers ≡ (with_subscriber number after old).subscribers)
  soft-followed buffer number subscriber old after new (refused, allowed, connected, places, is, came) =
      let begun : Service T = with_subscriber number after old in (
        subst (λ (s : Service T). BySubscriber begun s) (sym came)
            (soft-connects subscriber.buffer_size number (those connected) begun),
        ap holder_of is,
        ap (λ (s : Service T). s.subscribers) came ∙ connects-subscribers subscriber.buffer_size number (those connected) begun,
      )

  pub soft-follows : (buffer number : ℕ) (subscriber : Subscriber) (old : Service T) (after : Subscriber) (new : Service T)
      → at number old.subscribers ≡ Some subscriber → subscribing.Follows buffer number subscriber old after new
      → BySubscriber old new × (at number new.subscribers ≡ Some after) × (holder_of after ≡ holder_of subscriber)
  soft-follows buffer number subscriber old after new found came =
      let on : BySubscriber (with_subscriber number after old) new × (holder_of after ≡ holder_of subscriber)
      × (new.subscribers ≡ (with_subscriber number after old).subscribers) = soft-followed buffer number subscriber old after new came in (
        soft-both old (with_subscriber number after old) new (soft-set number subscriber after old found on.1) on.0,
        ap (at number) on.2 ∙ at-changed number after subscriber old.subscribers found,
        on.1,
      )

  -- What a subscriber does after it brought its connections up to date; or it is refused then.
  pub soft-updates : (choices : Choices T) (R : Type 0) (buffer number : ℕ) (told : ConnectionFailure → Refusal)
      (Does : Subscriber → Service T → Reply T → Service T → Type 0) (subscriber : Subscriber) (old : Service T) (answer : Reply T)
      (new : Service T) → at number old.subscribers ≡ Some subscriber
      → ((after : Subscriber) (mid : Service T) → BySubscriber old mid → at number mid.subscribers ≡ Some after
      → holder_of after ≡ holder_of subscriber → Does after mid answer new → R)
      → ((why : Refusal) (mid : Service T) → BySubscriber old mid → IsRefused why mid answer new → R)
      → subscribing.UpdatesFirst choices buffer number told Does subscriber old answer new → R
  soft-updates choices R buffer number told Does subscriber old answer new found does refused h =
      elim (by-bool ((subscriber.seen == old.publisher_list.changes) && not subscriber.again) (Does subscriber old answer new)
      ((after : Subscriber) × (mid : Service T) × subscribing.Follows buffer number subscriber old after mid
      × Outcomes (choices.subscriber_acts number subscriber.degradation) (zip old.publisher_list.places after.connected)
      (λ done. Does after mid answer new) (λ failure. IsRefused (told failure) mid answer new)) h) [
        | inl w ↦ does subscriber old (soft-none old) found refl w.1
        | inr w ↦ followed w.1.0 w.1.1 w.1.2 w.1.3
      ]
    where
      followed : (after : Subscriber) (mid : Service T) → subscribing.Follows buffer number subscriber old after mid
          → Outcomes (choices.subscriber_acts number subscriber.degradation) (zip old.publisher_list.places after.connected)
          (λ done. Does after mid answer new) (λ failure. IsRefused (told failure) mid answer new) → R
      followed after mid came told_so =
          let on : BySubscriber old mid × (at number mid.subscribers ≡ Some after) × (holder_of after ≡ holder_of subscriber) =
          soft-follows buffer number subscriber old after mid found came in
          elim (by-outcome (choices.subscriber_acts number subscriber.degradation) (zip old.publisher_list.places after.connected)
          (λ done. Does after mid answer new) (λ failure. IsRefused (told failure) mid answer new) told_so) [
            | inl r ↦ does after mid on.0 on.1 on.2 r.2
            | inr r ↦ refused (told r.0) mid on.0 r.2
          ]

  -- A publisher so; then it does what it does, or is refused.
  pub by-updates : (choices : Choices T) (R : Type 0) (number : ℕ) (told : ConnectionFailure → Refusal)
      (Does : Publisher T → Service T → Reply T → Service T → Type 0) (publisher : Publisher T) (old : Service T) (answer : Reply T)
      (new : Service T)
      → ((after : Publisher T) (mid : Service T) → ByPublisher number old mid → Does after mid answer new → R)
      → ((why : Refusal) (mid : Service T) → ByPublisher number old mid → IsRefused why mid answer new → R)
      → publishing.UpdatesFirst choices number told Does publisher old answer new → R
  by-updates choices R number told Does publisher old answer new does refused h =
      elim (by-bool (publisher.seen == old.subscriber_list.changes) (Does publisher old answer new)
      ((after : Publisher T) × (mid : Service T) × publishing.Follows number publisher old after mid
      × Outcomes (choices.publisher_acts number publisher.degradation) (zip old.subscriber_list.places after.connected)
      (λ done. Does after mid answer new) (λ failure. IsRefused (told failure) mid answer new)) h) [
        | inl w ↦ does publisher old (by-none number old) w.1
        | inr w ↦ followed w.1.0 w.1.1 w.1.2 w.1.3
      ]
    where
      followed : (after : Publisher T) (mid : Service T) → publishing.Follows number publisher old after mid
          → Outcomes (choices.publisher_acts number publisher.degradation) (zip old.subscriber_list.places after.connected)
          (λ done. Does after mid answer new) (λ failure. IsRefused (told failure) mid answer new) → R
      followed after mid came told_so =
          let on : ByPublisher number old mid = by-follows number publisher old after mid came in
          elim (by-outcome (choices.publisher_acts number publisher.degradation) (zip old.subscriber_list.places after.connected)
          (λ done. Does after mid answer new) (λ failure. IsRefused (told failure) mid answer new) told_so) [
            | inl r ↦ does after mid on r.2
            | inr r ↦ refused (told r.0) mid on r.2
          ]

  -- ---- what a publisher's commands do

  by-begins : (choices : Choices T) (number : ℕ) (message : Message T) (publisher : Publisher T) (old : Service T) (answer : Reply T)
      (new : Service T)
      → Begins choices number message publisher old answer new → ByPublisher number old new
  by-begins choices number message publisher old answer new h =
      by-goes-on choices number (keeping message publisher old)
      (sending message publisher) old answer new h

  by-refused : (number : ℕ) (why : Refusal) (old mid : Service T) (answer : Reply T) (new : Service T) → ByPublisher number old mid
      → IsRefused why mid answer new → ByPublisher number old new
  by-refused number why old mid answer new on refused = subst (λ (s : Service T). ByPublisher number old s) (sym refused.1) on

  pub by-sends : (choices : Choices T) (number : ℕ) (message : Message T) (publisher : Publisher T) (old : Service T) (answer : Reply T)
      (new : Service T)
      → Sends choices number message publisher old answer new → ByPublisher number old new
  by-sends choices number message publisher old answer new h =
      elim (by-send choices number message publisher old answer new h) [
        | inl w ↦ by-updates choices (ByPublisher number old new) number (λ failure. refusal.Send (error.ConnectionError failure))
            (Begins choices number message) publisher old answer new
            (λ after mid on begun. by-both number old mid new on (by-begins choices number message after mid answer new begun))
            (λ why mid on refused. by-refused number why old mid answer new on refused) w
        | inr w ↦ by-refused number (refusal.Send (at_once w.0)) old old answer new
            (by-none number old) w.1
      ]

  pub by-lends-loan : (loan number count : ℕ) (value : Option T) (publisher : Publisher T) (old : Service T) (answer : Reply T)
      (new : Service T) → LendsLoan loan number count value publisher old answer new → ByPublisher number old new
  by-lends-loan loan number count value publisher old answer new (None, after, lent, (told, came)) =
      subst (λ (s : Service T). ByPublisher number old s) (sym came) (by-set number after old)
  by-lends-loan loan number count value publisher old answer new (Some why, after, lent, (told, same)) =
      subst (λ (s : Service T). ByPublisher number old s) (sym same) (by-none number old)

  pub by-puts : (choices : Choices T) (number : ℕ) (values : List T) (publisher : Publisher T) (old : Service T) (answer : Reply T)
      (new : Service T)
      → Puts choices number values publisher old answer new → ByPublisher number old new
  by-puts choices number values publisher old answer new (None, after, lent, sent) =
      by-both number old (with_publisher number after old) new (by-set number after old)
      (by-sends choices number (record { number = publisher.next; sequence = None; values = values }) after
      (with_publisher number after old) answer new sent)
  by-puts choices number values publisher old answer new (Some why, after, lent, (told, same)) =
      subst (λ (s : Service T). ByPublisher number old s) (sym same) (by-none number old)

  pub by-sends-loan : (choices : Choices T) (number : ℕ) (loan : Loan T) (old : Service T) (answer : Reply T) (new : Service T)
      → SendsLoan choices number loan old answer new → ByPublisher loan.publisher old new
  by-sends-loan choices number loan old answer new h =
      elim (by-option (at loan.publisher old.publishers) (IsSkipped old answer new)
      (λ publisher. MatchBool (is_written loan && not (is_some publisher.blocked))
      (Sends choices loan.publisher (sent_as loan) publisher (record old { loans = removed number old.loans }) answer new)
      (IsSkipped old answer new)) h) [
        | inl w ↦ subst (λ (s : Service T). ByPublisher loan.publisher old s) (sym w.1.1) (by-none loan.publisher old)
        | inr w ↦ elim (by-bool (is_written loan && not (is_some w.0.blocked))
            (Sends choices loan.publisher (sent_as loan) w.0 (record old { loans = removed number old.loans }) answer new)
            (IsSkipped old answer new) w.2) [
              | inl k ↦ by-sends choices loan.publisher (sent_as loan) w.0 (record old { loans = removed number old.loans }) answer new k.1
              | inr k ↦ subst (λ (s : Service T). ByPublisher loan.publisher old s) (sym k.1.1) (by-none loan.publisher old)
            ]
      ]

  abbrev pub PublisherComes : ℕ → Publisher T → Service T → Reply T → Service T → Type 0
  PublisherComes number one old answer new =
      (place : ℕ) × (slice_get old.publisher_list.places place ≡ Some None) × (after : Publisher T) × (mid : Service T)
      × publishing.Follows number one (record old { publishers = old.publishers ++ (number, one) ∷ [] }) after mid
      × (answer ≡ reply.PublisherMade number) × (new ≡ record mid { publisher_list = registered place number mid.publisher_list })

  -- A publisher that comes follows and is registered; or it is refused.
  pub publisher-comes : (number : ℕ) (one : Publisher T) (old : Service T) (answer : Reply T) (new : Service T)
      → PublisherArrives number one old answer new
      → (new ≡ old)
      ⊎ ((place : ℕ) × (after : Publisher T) × (mid : Service T)
      × publishing.Follows number one (record old { publishers = old.publishers ++ (number, one) ∷ [] }) after mid
      × (new ≡ record mid { publisher_list = registered place number mid.publisher_list }) × (answer ≡ reply.PublisherMade number)
      × (slice_get old.publisher_list.places place ≡ Some None))
  publisher-comes number one old answer new h =
      elim (by-bool (nat_le (2 ^ 32) (worst_case old.settings one.max_loaned_samples) || nat_le (2 ^ 32) one.room)
      (IsRefused (refusal.Publisher publisher_error.UnableToCreateDataSegment) old answer new)
      (MatchBool (list_all is_some old.publisher_list.places)
      (IsRefused (refusal.Publisher publisher_error.ExceedsMaxSupportedPublishers) old answer new)
      (IsRefused (refusal.Publisher publisher_error.UnableToCreateDataSegment) old answer new
      ⊎ PublisherComes number one old answer new)) h) [
        | inl w ↦ inl w.1.1
        | inr w ↦ elim (by-bool (list_all is_some old.publisher_list.places)
            (IsRefused (refusal.Publisher publisher_error.ExceedsMaxSupportedPublishers) old answer new)
            (IsRefused (refusal.Publisher publisher_error.UnableToCreateDataSegment) old answer new
            ⊎ PublisherComes number one old answer new) w.1) [
              | inl k ↦ inl k.1.1
              | inr k ↦ comes k.1
            ]
      ]
    where
      comes : IsRefused (refusal.Publisher publisher_error.UnableToCreateDataSegment) old answer new
          ⊎ PublisherComes number one old answer new
          → (new ≡ old)
          ⊎ ((place : ℕ) × (after : Publisher T) × (mid : Service T)
          × publishing.Follows number one (record old { publishers = old.publishers ++ (number, one) ∷ [] }) after mid
          × (new ≡ record mid { publisher_list = registered place number mid.publisher_list }) × (answer ≡ reply.PublisherMade number)
          × (slice_get old.publisher_list.places place ≡ Some None))
      comes (inl refused) = inl refused.1
      comes (inr (place, free, after, mid, came, told, is)) = inr (place, after, mid, came, is, told, free)

  pub by-publisher-arrives : (number : ℕ) (one : Publisher T) (old : Service T) (answer : Reply T) (new : Service T)
      → PublisherArrives number one old answer new → ByPublisher number old new
  by-publisher-arrives number one old answer new h =
      elim (publisher-comes number one old answer new h) [
        | inl same ↦ subst (λ (s : Service T). ByPublisher number old s) (sym same) (by-none number old)
        | inr w ↦ subst (λ (s : Service T). ByPublisher number old s) (sym w.4)
            (by-both number old (record old { publishers = old.publishers ++ (number, one) ∷ [] }) w.2 met
            (by-follows number one (record old { publishers = old.publishers ++ (number, one) ∷ [] }) w.1 w.2 w.3))
      ]
    where
      met : ByPublisher number old (record old { publishers = old.publishers ++ (number, one) ∷ [] })
      met = (
        refl,
        refl,
        refl,
        refl,
        refl,
        (λ other off. at-appended-other number other one old.publishers off),
        (λ other subscriber off. refl),
      )

  abbrev pub SubscriberComes : ℕ → ℕ → Subscriber → Service T → Reply T → Service T → Type 0
  SubscriberComes buffer number one old answer new =
      (place : ℕ) × (slice_get old.subscriber_list.places place ≡ Some None) × (after : Subscriber) × (mid : Service T)
      × subscribing.Follows buffer number one (record old { subscribers = old.subscribers ++ (number, one) ∷ [] }) after mid
      × (answer ≡ reply.SubscriberMade number) × (new ≡ record mid { subscriber_list = registered place number mid.subscriber_list })

  -- A subscriber that comes follows and is registered; or it is refused.
  pub subscriber-comes : (buffer number : ℕ) (one : Subscriber) (old : Service T) (answer : Reply T) (new : Service T)
      → SubscriberArrives buffer number one old answer new
      → (new ≡ old)
      ⊎ ((place : ℕ) × (after : Subscriber) × (mid : Service T)
      × subscribing.Follows buffer number one (record old { subscribers = old.subscribers ++ (number, one) ∷ [] }) after mid
      × (new ≡ record mid { subscriber_list = registered place number mid.subscriber_list })
      × (slice_get old.subscriber_list.places place ≡ Some None) × (answer ≡ reply.SubscriberMade number))
  subscriber-comes buffer number one old answer new h =
      elim (by-bool (nat_lt old.settings.subscriber_max_buffer_size one.buffer_size)
      (IsRefused (refusal.Subscriber subscriber_error.BufferSizeExceedsMaxSupportedBufferSizeOfService) old answer new)
      (MatchBool (list_all is_some old.subscriber_list.places)
      (IsRefused (refusal.Subscriber subscriber_error.ExceedsMaxSupportedSubscribers) old answer new)
      (IsRefused (refusal.Subscriber subscriber_error.OutOfMemory) old answer new ⊎ SubscriberComes buffer number one old answer new)) h) [
        | inl w ↦ inl w.1.1
        | inr w ↦ elim (by-bool (list_all is_some old.subscriber_list.places)
            (IsRefused (refusal.Subscriber subscriber_error.ExceedsMaxSupportedSubscribers) old answer new)
            (IsRefused (refusal.Subscriber subscriber_error.OutOfMemory) old answer new
            ⊎ SubscriberComes buffer number one old answer new) w.1) [
              | inl k ↦ inl k.1.1
              | inr k ↦ comes k.1
            ]
      ]
    where
      comes : IsRefused (refusal.Subscriber subscriber_error.OutOfMemory) old answer new ⊎ SubscriberComes buffer number one old answer new
          → (new ≡ old)
          ⊎ ((place : ℕ) × (after : Subscriber) × (mid : Service T)
          × subscribing.Follows buffer number one (record old { subscribers = old.subscribers ++ (number, one) ∷ [] }) after mid
          × (new ≡ record mid { subscriber_list = registered place number mid.subscriber_list })
          × (slice_get old.subscriber_list.places place ≡ Some None) × (answer ≡ reply.SubscriberMade number))
      comes (inl refused) = inl refused.1
      comes (inr (place, free, after, mid, came, told, is)) = inr (place, after, mid, came, is, free, told)
