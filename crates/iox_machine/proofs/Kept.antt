-- What a command leaves of a service: its name, its settings, and what goes by numbers, but for what it makes.
use Rattle.std.proofs.Common.{◌≡◌, ◌⊎◌, ◌+◌, ◌^◌, ℕ, Bool, true, false, cond, not, ◌&&◌, ◌||◌, List, [], ◌∷◌, ◌++◌, length, Option, None}
use Rattle.std.proofs.Common.{Some, refl, sym, subst, inl, inr, ◌∙◌}
use Rattle.std.proofs.lemmas.List.{length-map, length-set}
use Rattle.std.specs.List.{list_any, list_all}
use Rattle.std.specs.Option.{option_map_or}
use Rattle.std.specs.Prelude.{◌==◌, ⊤, nat_lt, nat_le, is_some, filter, slice_get, replicate, MatchBool, drop, zip}
use Rattle.iox_machine.proofs.Shorthands.{given_back, left, registered, with_subscriber, with_publisher, IsRefused, IsSkipped}
use Rattle.iox_machine.specs.Choices.{Choices}
use Rattle.iox_machine.proofs.Delivering.{Outcomes, by-outcome, first_of, offered, deliver, goes-on-so, keeping, at_once, by-send, sending}
use Rattle.iox_machine.specs.Arriving.{worst_case, PublisherArrives, SubscriberArrives}
use Rattle.iox_machine.specs.Mailbox.{Mailbox, newest, put}
use Rattle.iox_machine.specs.Message.{Message, Loan, Sample}
use Rattle.iox_machine.specs.RunLaws.{is_written, sent_as}
use Rattle.iox_machine.specs.NumberLaws.{publisher_told, subscriber_told, loan_told, sample_told}
use Rattle.iox_machine.specs.PortList.{those, unless}
use Rattle.iox_machine.specs.Ports.{LendsLoan, Puts, SendsLoan, Writes, Releases}
use Rattle.iox_machine.specs.PublisherUpdate as publishing
use Rattle.iox_machine.specs.Receiving.{Receives, lasting, has_samples, Takes}
use Rattle.iox_machine.specs.Sending.{GoesOn, Begins, Sends}
use Rattle.iox_machine.specs.Service.{Service, Publisher, Subscriber, Send, mailbox, with_mailbox, connect}
use Rattle.iox_machine.specs.State.{Made}
use Rattle.iox_machine.specs.SubscriberUpdate as subscribing
use Rattle.iox_machine.specs.Table.{at, changed, removed}
use Rattle.iox_machine.proofs.Cases.{by-bool, by-option}
use Rattle.iox_machine.proofs.Counts.{Adds, adds-itself, adds-still, adds-changed, adds-filtered, adds-joined, adds-on}
use Rattle.iox_machine.proofs.Lists.{fold-keeps}
use Rattle.iox_command.specs.DomainValues.declared.backpressure.BackpressureDecision.{BackpressureDecision}
use Rattle.iox_command.specs.DomainValues.declared.backpressure.BackpressureDecision.TheVariants.{Retry, DiscardData, DiscardDataAndFail}
use Rattle.iox_command.specs.DomainValues.declared.connection_failure.ConnectionFailure.{ConnectionFailure}
use Rattle.iox_command.specs.DomainValues.declared.create_error.PublisherCreateError.TheVariants as publisher_error
use Rattle.iox_command.specs.DomainValues.declared.create_error.SubscriberCreateError.TheVariants as subscriber_error
use Rattle.iox_command.specs.DomainValues.declared.port_error.ReceiveError.TheVariants.{ExceedsMaxBorrows}
use Rattle.iox_command.specs.DomainValues.declared.port_error.SendError.TheVariants as error
use Rattle.iox_command.specs.declared.refusal.Refusal.{Refusal}
use Rattle.iox_command.specs.declared.refusal.Refusal.TheVariants as refusal
use Rattle.iox_command.specs.declared.reply.Reply.{Reply}
use Rattle.iox_command.specs.declared.reply.Reply.TheVariants as reply

-- A reply tells the number that comes next, if it tells one.
abbrev pub IsNext : {T : Type 0} → Made → Reply T → Type 0
IsNext made (reply.NodeMade number) = number ≡ made.nodes + 1
IsNext made (reply.FactoryMade number) = number ≡ made.factories + 1
IsNext made (reply.PublisherMade number) = number ≡ made.publishers + 1
IsNext made (reply.SubscriberMade number) = number ≡ made.subscribers + 1
IsNext made (reply.LoanMade number) = number ≡ made.loans + 1
IsNext made (reply.Received number values) = number ≡ made.samples + 1
IsNext made other = ⊤

-- So a reply about a port does, and it tells no number of a node.
abbrev pub IsPortNext : {T : Type 0} → Made → Reply T → Type 0
IsPortNext made (reply.NodeMade number) = ⊥
IsPortNext made other = IsNext made other

pub port-next : {T : Type 0} (made : Made) (answer : Reply T) → IsPortNext made answer → IsNext made answer
port-next made (reply.NodeMade number) next = absurd next
port-next made other next = next

-- What a command leaves of a service: its name, its settings, and what goes by numbers; of that no more, but what the reply tells, by
-- the number that comes next.
pub record Kept {T : Type 0} (made : Made) (old : Service T) (answer : Reply T) (new : Service T) : Type 0 where
  pub name : new.name ≡ old.name
  pub settings : new.settings ≡ old.settings
  pub publisher_places : length new.publisher_list.places ≡ length old.publisher_list.places
  pub subscriber_places : length new.subscriber_list.places ≡ length old.subscriber_list.places
  pub publishers : Adds old.publishers (publisher_told answer) new.publishers
  pub subscribers : Adds old.subscribers (subscriber_told answer) new.subscribers
  pub loans : Adds old.loans (loan_told answer) new.loans
  pub samples : Adds old.samples (sample_told answer) new.samples
  pub next : IsPortNext made answer

module _ {T : Type 0} where
  pub itself : (made : Made) (service : Service T) → Kept made service reply.Done service
  itself made service = record {
    name = refl;
    settings = refl;
    publisher_places = refl;
    subscriber_places = refl;
    publishers = adds-itself service.publishers;
    subscribers = adds-itself service.subscribers;
    loans = adds-itself service.loans;
    samples = adds-itself service.samples;
    next = tt;
  }

module _ {T : Type 0} (counts : Made) (origin : Service T) (answer : Reply T) where
  -- So far nothing was made.
  abbrev K : Service T → Type 0
  K service = Kept counts origin reply.Done service

  -- That is what the command leaves.
  abbrev R : Service T → Type 0
  R service = Kept counts origin answer service

  -- The command did what it does, and it is answered.
  pub ends : (told : Reply T) (mid new : Service T) → K mid → (answer ≡ told) × (new ≡ mid) → IsPortNext counts told → R new
  ends told mid new k (said, came) next =
      subst (λ (it : Reply T). Kept counts origin it new) (sym said)
      (subst (λ (it : Service T). Kept counts origin told it) (sym came) (record {
        name = k.name;
        settings = k.settings;
        publisher_places = k.publisher_places;
        subscriber_places = k.subscriber_places;
        publishers = adds-still origin.publishers mid.publishers (publisher_told told) k.publishers;
        subscribers = adds-still origin.subscribers mid.subscribers (subscriber_told told) k.subscribers;
        loans = adds-still origin.loans mid.loans (loan_told told) k.loans;
        samples = adds-still origin.samples mid.samples (sample_told told) k.samples;
        next = next;
      }))

  pub publisher-turned : (number : ℕ) (publisher : Publisher T) (service : Service T) → K service → K
      (with_publisher number publisher service)
  publisher-turned number publisher service k = record {
    name = k.name;
    settings = k.settings;
    publisher_places = k.publisher_places;
    subscriber_places = k.subscriber_places;
    publishers = adds-changed origin.publishers service.publishers None k.publishers number publisher;
    subscribers = k.subscribers;
    loans = k.loans;
    samples = k.samples;
    next = k.next;
  }

  subscriber-turned : (number : ℕ) (subscriber : Subscriber) (service : Service T) → K service
      → K (with_subscriber number subscriber service)
  subscriber-turned number subscriber service k = record {
    name = k.name;
    settings = k.settings;
    publisher_places = k.publisher_places;
    subscriber_places = k.subscriber_places;
    publishers = k.publishers;
    subscribers = adds-changed origin.subscribers service.subscribers None k.subscribers number subscriber;
    loans = k.loans;
    samples = k.samples;
    next = k.next;
  }

  box-turned : (publisher subscriber : ℕ) (box : Mailbox T) (service : Service T) → K service
      → K (with_mailbox publisher subscriber box service)
  box-turned publisher subscriber box service k = record {
    name = k.name;
    settings = k.settings;
    publisher_places = k.publisher_places;
    subscriber_places = k.subscriber_places;
    publishers = k.publishers;
    subscribers = k.subscribers;
    loans = k.loans;
    samples = k.samples;
    next = k.next;
  }

  either : (b : Bool) (one other : Service T) → K one → K other → K (cond b one other)
  either true one other k l = k
  either false one other k l = l

  connected : (limit publisher subscriber : ℕ) (service : Service T) → K service → K (connect limit publisher subscriber service)
  connected limit publisher subscriber service k =
      either (is_some (service.mailboxes publisher subscriber)) service
      (with_mailbox publisher subscriber (record { limit = limit; waiting = []; borrowed = [] }) service) k
      (box-turned publisher subscriber (record { limit = limit; waiting = []; borrowed = [] }) service k)

  welcomed : (number : ℕ) (history : List (Message T)) (service : Service T) (subscriber : ℕ) → K service
      → K (publishing.welcome number history service subscriber)
  welcomed number history service subscriber k =
      let limit : ℕ = option_map_or (λ (one : Subscriber). one.buffer_size) (at subscriber service.subscribers) 0 in
      let met : Service T = connect limit number subscriber service in
      let box : Mailbox T = mailbox number subscriber met in
      box-turned number subscriber (record box { waiting = newest box.limit history }) met (connected limit number subscriber service k)

  ended-turned : (number : ℕ) (service : Service T) → K service → K (publishing.ended number service)
  ended-turned number service k = record {
    name = k.name;
    settings = k.settings;
    publisher_places = k.publisher_places;
    subscriber_places = k.subscriber_places;
    publishers = k.publishers;
    subscribers = k.subscribers;
    loans = k.loans;
    samples = k.samples;
    next = k.next;
  }

  pub follows : (number : ℕ) (publisher : Publisher T) (old : Service T) (after : Publisher T) (new : Service T) → K old
      → publishing.Follows number publisher old after new → K new
  follows number publisher old after new k (refused, allowed, is, came) =
      subst K (sym came)
      (fold-keeps K (publishing.welcome number publisher.history) (welcomed number publisher.history)
      (filter (λ subscriber. not (list_any (λ other. other == subscriber) (those publisher.connected))) (those after.connected))
      (with_publisher number after (publishing.ended number old))
      (publisher-turned number after (publishing.ended number old) (ended-turned number old k)))

  pub updates-first : (choices : Choices T) (number : ℕ) (told : ConnectionFailure → Refusal)
      (Does : Publisher T → Service T → Reply T → Service T → Type 0)
      (publisher : Publisher T) (old new : Service T) → K old
      → ((one : Publisher T) (mid : Service T) → K mid → Does one mid answer new → R new)
      → publishing.UpdatesFirst choices number told Does publisher old answer new → R new
  updates-first choices number told Does publisher old new k does h =
      elim (by-bool (publisher.seen == old.subscriber_list.changes) (Does publisher old answer new)
      ((after : Publisher T) × (mid : Service T) × publishing.Follows number publisher old after mid
      × Outcomes (choices.publisher_acts number publisher.degradation) (zip old.subscriber_list.places after.connected)
      (λ done. Does after mid answer new) (λ failure. IsRefused (told failure) mid answer new)) h) [
        | inl w ↦ does publisher old k w.1
        | inr w ↦ followed w.1.0 w.1.1 w.1.2 w.1.3
      ]
    where
      followed : (after : Publisher T) (mid : Service T) → publishing.Follows number publisher old after mid
          → Outcomes (choices.publisher_acts number publisher.degradation) (zip old.subscriber_list.places after.connected)
          (λ done. Does after mid answer new) (λ failure. IsRefused (told failure) mid answer new) → R new
      followed after mid came told_so =
          let on : K mid = follows number publisher old after mid k came in
          elim (by-outcome (choices.publisher_acts number publisher.degradation) (zip old.subscriber_list.places after.connected)
          (λ done. Does after mid answer new) (λ failure. IsRefused (told failure) mid answer new) told_so) [
            | inl r ↦ does after mid on r.2
            | inr r ↦ ends (reply.Refused (told r.0)) mid new on r.2 tt
          ]

  -- ---- a send

  next-of : (b : Bool) (one other : Reply T) → IsPortNext counts one → IsPortNext counts other → IsPortNext counts (cond b one other)
  next-of true one other n m = n
  next-of false one other n m = m

  offered-kept : (number : ℕ) (met : Option (Mailbox T)) (decision : BackpressureDecision) (subscriber : ℕ) (more : List ℕ)
      (goes_on : Send T → Service T → Send T × Service T) (send : Send T) (service : Service T)
      → ((next : Send T) (mid : Service T) → K mid → K (goes_on next mid).1) → K service
      → K (offered number met decision subscriber more goes_on send service).1
  offered-kept number (Some box) decision subscriber more goes_on send service on k =
      on (record send { retries = 0; elapsed = 0; delivered = send.delivered + 1 }) (with_mailbox number subscriber box service)
      (box-turned number subscriber box service k)
  offered-kept number None Retry subscriber more goes_on send service on k = k
  offered-kept number None DiscardData subscriber more goes_on send service on k = on (record send { retries = 0; elapsed = 0 }) service k
  offered-kept number None DiscardDataAndFail subscriber more goes_on send service on k =
      on (record send { retries = 0; elapsed = 0; fails = true }) service k

  delivered : (number : ℕ) (decisions : List BackpressureDecision) (left : List ℕ) (send : Send T) (service : Service T) → K service
      → K (deliver number decisions left send service).1
  delivered number decisions [] send service k = k
  delivered number decisions (subscriber ∷ more) send service k =
      offered-kept number (put service.settings.enable_safe_overflow send.message (mailbox number subscriber service))
      (first_of decisions) subscriber more (deliver number (drop 1 decisions) more) send service
      (λ next mid. delivered number (drop 1 decisions) more next mid) k

  pub goes-on : (choices : Choices T) (number : ℕ) (publisher : Publisher T) (send : Send T) (old new : Service T) → K old
      → GoesOn choices number publisher send old answer new → R new
  goes-on choices number publisher send old new k h =
      let so = goes-on-so choices number publisher send old answer new h in
      let after : Send T × Service T = deliver number so.0 send.left send old in
      ends (cond (is_some (slice_get after.0.left 0)) reply.Blocked
      (cond after.0.fails (reply.Refused (refusal.Send error.UnableToDeliver)) (reply.Delivered after.0.delivered)))
      (with_publisher number (record publisher { blocked = cond (is_some (slice_get after.0.left 0)) (Some after.0) None }) after.1) new
      (publisher-turned number (record publisher { blocked = cond (is_some (slice_get after.0.left 0)) (Some after.0) None }) after.1
      (delivered number so.0 send.left send old k)) so.1
      (next-of (is_some (slice_get after.0.left 0)) reply.Blocked
      (cond after.0.fails (reply.Refused (refusal.Send error.UnableToDeliver)) (reply.Delivered after.0.delivered)) tt
      (next-of after.0.fails (reply.Refused (refusal.Send error.UnableToDeliver)) (reply.Delivered after.0.delivered) tt tt))

  begins : (choices : Choices T) (number : ℕ) (message : Message T) (publisher : Publisher T) (old new : Service T) → K old
      → Begins choices number message publisher old answer new → R new
  begins choices number message publisher old new k h =
      goes-on choices number (keeping message publisher old)
      (sending message publisher)
      old new k h

  pub sends : (choices : Choices T) (number : ℕ) (message : Message T) (publisher : Publisher T) (old new : Service T) → K old
      → Sends choices number message publisher old answer new → R new
  sends choices number message publisher old new k h =
      elim (by-send choices number message publisher old answer new h) [
        | inl w ↦ updates-first choices number (λ failure. refusal.Send (error.ConnectionError failure)) (Begins choices number message)
            publisher old new k
            (λ one mid on begun. begins choices number message one mid new on begun) w
        | inr w ↦ ends (reply.Refused (refusal.Send (at_once w.0))) old new k w.1 tt
      ]

  -- ---- loans

  pub lends-loan : (loan number count : ℕ) (value : Option T) (publisher : Publisher T) (old new : Service T) → K old
      → loan ≡ counts.loans + 1 → LendsLoan loan number count value publisher old answer new → R new
  lends-loan loan number count value publisher old new k next (None, after, lent, (told, came)) =
      subst (λ (it : Reply T). Kept counts origin it new) (sym told)
      (subst (λ (it : Service T). Kept counts origin (reply.LoanMade loan) it) (sym came) (record {
        name = k.name;
        settings = k.settings;
        publisher_places = k.publisher_places;
        subscriber_places = k.subscriber_places;
        publishers = adds-changed origin.publishers old.publishers None k.publishers number after;
        subscribers = k.subscribers;
        loans = adds-joined origin.loans old.loans k.loans loan
            (record { publisher = number; number = publisher.next; values = replicate count value });
        samples = k.samples;
        next = next;
      }))
  lends-loan loan number count value publisher old new k next (Some why, after, lent, refused) =
      ends (reply.Refused (refusal.Loan why)) old new k refused tt

  pub puts : (choices : Choices T) (number : ℕ) (values : List T) (publisher : Publisher T) (old new : Service T) → K old
      → Puts choices number values publisher old answer new → R new
  puts choices number values publisher old new k (None, after, lent, sent) =
      sends choices number (record { number = publisher.next; sequence = None; values = values }) after
      (with_publisher number after old) new (publisher-turned number after old k) sent
  puts choices number values publisher old new k (Some why, after, lent, refused) =
      ends (reply.Refused (refusal.Send (error.LoanError why))) old new k refused tt

  loans-fewer : (number : ℕ) (service : Service T) → K service → K (record service { loans = removed number service.loans })
  loans-fewer number service k = record {
    name = k.name;
    settings = k.settings;
    publisher_places = k.publisher_places;
    subscriber_places = k.subscriber_places;
    publishers = k.publishers;
    subscribers = k.subscribers;
    loans = adds-filtered origin.loans service.loans None k.loans (λ (entry : ℕ × Loan T). not (entry.0 == number));
    samples = k.samples;
    next = k.next;
  }

  pub drops : (number : ℕ) (old new : Service T) → K old
      → (answer ≡ reply.Done) × (new ≡ record old { loans = removed number old.loans }) → R new
  drops number old new k h = ends reply.Done (record old { loans = removed number old.loans }) new (loans-fewer number old k) h tt

  pub sends-loan : (choices : Choices T) (number : ℕ) (loan : Loan T) (old new : Service T) → K old
      → SendsLoan choices number loan old answer new → R new
  sends-loan choices number loan old new k h =
      elim (by-option (at loan.publisher old.publishers) (IsSkipped old answer new)
      (λ publisher. MatchBool (is_written loan && not (is_some publisher.blocked))
      (Sends choices loan.publisher (sent_as loan) publisher (record old { loans = removed number old.loans }) answer new)
      (IsSkipped old answer new)) h) [
        | inl w ↦ ends reply.Skipped old new k w.1 tt
        | inr w ↦ sent w.0 w.2
      ]
    where
      sent : (publisher : Publisher T) → MatchBool (is_written loan && not (is_some publisher.blocked))
          (Sends choices loan.publisher (sent_as loan) publisher (record old { loans = removed number old.loans }) answer new)
          (IsSkipped old answer new) → R new
      sent publisher h =
          elim (by-bool (is_written loan && not (is_some publisher.blocked))
          (Sends choices loan.publisher (sent_as loan) publisher (record old { loans = removed number old.loans }) answer new)
          (IsSkipped old answer new) h) [
            | inl w ↦ sends choices loan.publisher (sent_as loan) publisher (record old { loans = removed number old.loans }) new
                (loans-fewer number old k) w.1
            | inr w ↦ ends reply.Skipped old new k w.1 tt
          ]

  pub writes : (number : ℕ) (loan : Loan T) (fit : Bool) (values : List (Option T)) (old new : Service T) → K old
      → Writes number loan fit values old answer new → R new
  writes number loan true values old new k h =
      ends reply.Done (record old { loans = changed number (record loan { values = values }) old.loans }) new (record {
        name = k.name;
        settings = k.settings;
        publisher_places = k.publisher_places;
        subscriber_places = k.subscriber_places;
        publishers = k.publishers;
        subscribers = k.subscribers;
        loans = adds-changed origin.loans old.loans None k.loans number (record loan { values = values });
        samples = k.samples;
        next = tt;
      }) h tt
  writes number loan false values old new k h = ends reply.Skipped old new k h tt

  -- ---- a subscriber

  pub subscriber-follows : (buffer number : ℕ) (subscriber : Subscriber) (old : Service T) (after : Subscriber) (new : Service T) → K old
      → subscribing.Follows buffer number subscriber old after new → K new
  subscriber-follows buffer number subscriber old after new k (refused, allowed, listed, is, turned, came) =
      subst K (sym came)
      (fold-keeps K (λ service publisher. connect subscriber.buffer_size publisher number service)
      (λ service publisher on. connected subscriber.buffer_size publisher number service on)
      (those listed) (with_subscriber number after old) (subscriber-turned number after old k))

  pub subscriber-updates : (choices : Choices T) (buffer number : ℕ) (told : ConnectionFailure → Refusal)
      (Does : Subscriber → Service T → Reply T → Service T → Type 0)
      (subscriber : Subscriber) (old new : Service T) → K old
      → ((one : Subscriber) (mid : Service T) → K mid → Does one mid answer new → R new)
      → subscribing.UpdatesFirst choices buffer number told Does subscriber old answer new → R new
  subscriber-updates choices buffer number told Does subscriber old new k does h =
      elim (by-bool ((subscriber.seen == old.publisher_list.changes) && not subscriber.again) (Does subscriber old answer new)
      ((after : Subscriber) × (mid : Service T) × subscribing.Follows buffer number subscriber old after mid
      × Outcomes (choices.subscriber_acts number subscriber.degradation) (zip old.publisher_list.places after.connected)
      (λ done. Does after mid answer new) (λ failure. IsRefused (told failure) mid answer new)) h) [
        | inl w ↦ does subscriber old k w.1
        | inr w ↦ followed w.1.0 w.1.1 w.1.2 w.1.3
      ]
    where
      followed : (after : Subscriber) (mid : Service T) → subscribing.Follows buffer number subscriber old after mid
          → Outcomes (choices.subscriber_acts number subscriber.degradation) (zip old.publisher_list.places after.connected)
          (λ done. Does after mid answer new) (λ failure. IsRefused (told failure) mid answer new) → R new
      followed after mid came told_so =
          let on : K mid = subscriber-follows buffer number subscriber old after mid k came in
          elim (by-outcome (choices.subscriber_acts number subscriber.degradation) (zip old.publisher_list.places after.connected)
          (λ done. Does after mid answer new) (λ failure. IsRefused (told failure) mid answer new) told_so) [
            | inl r ↦ does after mid on r.2
            | inr r ↦ ends (reply.Refused (told r.0)) mid new on r.2 tt
          ]

  takes : (number sample publisher : ℕ) (old new : Service T) → K old → sample ≡ counts.samples + 1
      → Takes number sample publisher old answer new → R new
  takes number sample publisher old new k next (message, values, first, same, told, came) =
      let one : Sample T = record { publisher = publisher; subscriber = number; message = message } in
      subst (λ (it : Reply T). Kept counts origin it new) (sym told)
      (subst (λ (it : Service T). Kept counts origin (reply.Received sample values) it) (sym came) (record {
        name = k.name;
        settings = k.settings;
        publisher_places = k.publisher_places;
        subscriber_places = k.subscriber_places;
        publishers = k.publishers;
        subscribers = k.subscribers;
        loans = k.loans;
        samples = adds-joined origin.samples old.samples k.samples sample one;
        next = next;
      }))

  pub receives : (number sample : ℕ) (subscriber : Subscriber) (old new : Service T) → K old → sample ≡ counts.samples + 1
      → Receives number sample subscriber old answer new → R new
  receives number sample subscriber old new k next (None, is, h) =
      ends (cond (has_samples number subscriber old) (reply.Refused (refusal.Receive ExceedsMaxBorrows)) reply.NothingWaits)
      (with_subscriber number (record subscriber { expired = lasting number old subscriber.expired }) old) new
      (subscriber-turned number (record subscriber { expired = lasting number old subscriber.expired }) old k) h
      (next-of (has_samples number subscriber old) (reply.Refused (refusal.Receive ExceedsMaxBorrows)) reply.NothingWaits tt tt)
  receives number sample subscriber old new k next (Some publisher, is, took) =
      takes number sample publisher (with_subscriber number (record subscriber { expired = lasting number old subscriber.expired }) old) new
      (subscriber-turned number (record subscriber { expired = lasting number old subscriber.expired }) old k) next took

  pub releases : (number : ℕ) (sample : Sample T) (old new : Service T) → K old → Releases number sample old answer new → R new
  releases number sample old new k h =
      let fewer : Service T = record old { samples = removed number old.samples } in
      let on : K fewer = record {
        name = k.name;
        settings = k.settings;
        publisher_places = k.publisher_places;
        subscriber_places = k.subscriber_places;
        publishers = k.publishers;
        subscribers = k.subscribers;
        loans = k.loans;
        samples = adds-filtered origin.samples old.samples None k.samples (λ (entry : ℕ × Sample T). not (entry.0 == number));
        next = k.next;
      } in
      ends reply.Done (with_mailbox sample.publisher sample.subscriber
      (given_back sample.message.number (mailbox sample.publisher sample.subscriber old)) fewer) new
      (box-turned sample.publisher sample.subscriber (given_back sample.message.number (mailbox sample.publisher sample.subscriber old))
      fewer on) h tt

  pub publisher-leaves : (number : ℕ) (one : Publisher T) (old new : Service T) → K old
      → (answer ≡ reply.Done) × (new ≡ with_publisher number one (record old { publisher_list = left number old.publisher_list }))
      → R new
  publisher-leaves number one old new k h =
      ends reply.Done (with_publisher number one (record old { publisher_list = left number old.publisher_list })) new (record {
        name = k.name;
        settings = k.settings;
        publisher_places = length-map old.publisher_list.places (unless (number ∷ [])) ∙ k.publisher_places;
        subscriber_places = k.subscriber_places;
        publishers = adds-changed origin.publishers old.publishers None k.publishers number one;
        subscribers = k.subscribers;
        loans = k.loans;
        samples = k.samples;
        next = tt;
      }) h tt

  pub subscriber-leaves : (number : ℕ) (one : Subscriber) (old new : Service T) → K old
      → (answer ≡ reply.Done) × (new ≡ with_subscriber number one (record old { subscriber_list = left number old.subscriber_list }))
      → R new
  subscriber-leaves number one old new k h =
      ends reply.Done (with_subscriber number one (record old { subscriber_list = left number old.subscriber_list })) new (record {
        name = k.name;
        settings = k.settings;
        publisher_places = k.publisher_places;
        subscriber_places = length-map old.subscriber_list.places (unless (number ∷ [])) ∙ k.subscriber_places;
        publishers = k.publishers;
        subscribers = adds-changed origin.subscribers old.subscribers None k.subscribers number one;
        loans = k.loans;
        samples = k.samples;
        next = tt;
      }) h tt

module _ {T : Type 0} (counts : Made) (origin : Service T) (answer : Reply T) where
  -- ---- ports that come and go

  -- how a publisher comes, where a place is free
  abbrev PublisherComes : ℕ → Publisher T → Service T → Service T → Type 0
  PublisherComes number one old new =
      IsRefused (refusal.Publisher publisher_error.UnableToCreateDataSegment) old answer new
      ⊎ ((place : ℕ) × (slice_get old.publisher_list.places place ≡ Some None) × (after : Publisher T) × (mid : Service T)
      × publishing.Follows number one (record old { publishers = old.publishers ++ (number, one) ∷ [] }) after mid
      × (answer ≡ reply.PublisherMade number) × (new ≡ record mid { publisher_list = registered place number mid.publisher_list }))

  -- how a subscriber comes, where a place is free
  abbrev SubscriberComes : ℕ → ℕ → Subscriber → Service T → Service T → Type 0
  SubscriberComes buffer number one old new =
      IsRefused (refusal.Subscriber subscriber_error.OutOfMemory) old answer new
      ⊎ ((place : ℕ) × (slice_get old.subscriber_list.places place ≡ Some None) × (after : Subscriber) × (mid : Service T)
      × subscribing.Follows buffer number one (record old { subscribers = old.subscribers ++ (number, one) ∷ [] }) after mid
      × (answer ≡ reply.SubscriberMade number) × (new ≡ record mid { subscriber_list = registered place number mid.subscriber_list }))

  pub publisher-arrives : (number : ℕ) (one : Publisher T) (old new : Service T) → Kept counts origin reply.Done old
      → number ≡ counts.publishers + 1
      → PublisherArrives number one old answer new → Kept counts origin answer new
  publisher-arrives number one old new k next h =
      elim (by-bool (nat_le (2 ^ 32) (worst_case old.settings one.max_loaned_samples) || nat_le (2 ^ 32) one.room)
      (IsRefused (refusal.Publisher publisher_error.UnableToCreateDataSegment) old answer new)
      (MatchBool (list_all is_some old.publisher_list.places)
      (IsRefused (refusal.Publisher publisher_error.ExceedsMaxSupportedPublishers) old answer new)
      (PublisherComes number one old new)) h) [
        | inl w ↦
            ends counts origin answer (reply.Refused (refusal.Publisher publisher_error.UnableToCreateDataSegment)) old new k w.1 tt
        | inr w ↦ elim (by-bool (list_all is_some old.publisher_list.places)
            (IsRefused (refusal.Publisher publisher_error.ExceedsMaxSupportedPublishers) old answer new)
            (PublisherComes number one old new) w.1) [
              | inl v ↦
                  ends counts origin answer (reply.Refused (refusal.Publisher publisher_error.ExceedsMaxSupportedPublishers)) old new
                  k v.1 tt
              | inr v ↦ comes v.1
            ]
      ]
    where
      comes : PublisherComes number one old new → Kept counts origin answer new
      comes (inl refused) =
          ends counts origin answer (reply.Refused (refusal.Publisher publisher_error.UnableToCreateDataSegment)) old new k refused tt
      comes (inr (place, free, after, mid, came, told, is)) =
          let more : Service T = record old { publishers = old.publishers ++ (number, one) ∷ [] } in
          let end : Kept counts more reply.Done mid = follows counts more answer number one more after mid (itself counts more) came in
          subst (λ (it : Reply T). Kept counts origin it new) (sym told)
          (subst (λ (it : Service T). Kept counts origin (reply.PublisherMade number) it) (sym is) (record {
            name = end.name ∙ k.name;
            settings = end.settings ∙ k.settings;
            publisher_places =
                length-set mid.publisher_list.places place (Some number) ∙ (end.publisher_places ∙ k.publisher_places);
            subscriber_places = end.subscriber_places ∙ k.subscriber_places;
            publishers = adds-on origin.publishers more.publishers mid.publishers (Some number) end.publishers
                (adds-joined origin.publishers old.publishers k.publishers number one);
            subscribers = adds-on origin.subscribers old.subscribers mid.subscribers None end.subscribers k.subscribers;
            loans = adds-on origin.loans old.loans mid.loans None end.loans k.loans;
            samples = adds-on origin.samples old.samples mid.samples None end.samples k.samples;
            next = next;
          }))

  pub subscriber-arrives : (buffer number : ℕ) (one : Subscriber) (old new : Service T) → Kept counts origin reply.Done old
      → number ≡ counts.subscribers + 1
      → SubscriberArrives buffer number one old answer new → Kept counts origin answer new
  subscriber-arrives buffer number one old new k next h =
      elim (by-bool (nat_lt old.settings.subscriber_max_buffer_size one.buffer_size)
      (IsRefused (refusal.Subscriber subscriber_error.BufferSizeExceedsMaxSupportedBufferSizeOfService) old answer new)
      (MatchBool (list_all is_some old.subscriber_list.places)
      (IsRefused (refusal.Subscriber subscriber_error.ExceedsMaxSupportedSubscribers) old answer new)
      (SubscriberComes buffer number one old new)) h) [
        | inl w ↦
            ends counts origin answer (reply.Refused
            (refusal.Subscriber subscriber_error.BufferSizeExceedsMaxSupportedBufferSizeOfService)) old new
            k w.1 tt
        | inr w ↦ elim (by-bool (list_all is_some old.subscriber_list.places)
            (IsRefused (refusal.Subscriber subscriber_error.ExceedsMaxSupportedSubscribers) old answer new)
            (SubscriberComes buffer number one old new) w.1) [
              | inl v ↦
                  ends counts origin answer (reply.Refused (refusal.Subscriber subscriber_error.ExceedsMaxSupportedSubscribers)) old new
                  k v.1 tt
              | inr v ↦ comes v.1
            ]
      ]
    where
      comes : SubscriberComes buffer number one old new → Kept counts origin answer new
      comes (inl refused) =
          ends counts origin answer (reply.Refused (refusal.Subscriber subscriber_error.OutOfMemory)) old new k refused tt
      comes (inr (place, free, after, mid, came, told, is)) =
          let more : Service T = record old { subscribers = old.subscribers ++ (number, one) ∷ [] } in
          let end : Kept counts more reply.Done mid =
          subscriber-follows counts more answer buffer number one more after mid (itself counts more) came in
          subst (λ (it : Reply T). Kept counts origin it new) (sym told)
          (subst (λ (it : Service T). Kept counts origin (reply.SubscriberMade number) it) (sym is) (record {
            name = end.name ∙ k.name;
            settings = end.settings ∙ k.settings;
            publisher_places = end.publisher_places ∙ k.publisher_places;
            subscriber_places =
                length-set mid.subscriber_list.places place (Some number) ∙ (end.subscriber_places ∙ k.subscriber_places);
            publishers = adds-on origin.publishers old.publishers mid.publishers None end.publishers k.publishers;
            subscribers = adds-on origin.subscribers more.subscribers mid.subscribers (Some number) end.subscribers
                (adds-joined origin.subscribers old.subscribers k.subscribers number one);
            loans = adds-on origin.loans old.loans mid.loans None end.loans k.loans;
            samples = adds-on origin.samples old.samples mid.samples None end.samples k.samples;
            next = next;
          }))
