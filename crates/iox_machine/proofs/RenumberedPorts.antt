-- A command on a port, a loan or a sample does the same where all goes by other numbers.
use Rattle.std.proofs.Common.{◌≡◌, ◌⊎◌, ◌^◌, ℕ, Bool, true, false, not, ◌&&◌, ◌||◌, List, [], ◌∷◌, ◌++◌, map, length, Option, None, Some}
use Rattle.std.proofs.Common.{refl, sym, ap, ap₂, subst, inl, inr, ◌∙◌}
use Rattle.std.proofs.lemmas.List.{map-append, map-set}
use Rattle.std.specs.List.{list_all}
use Rattle.std.specs.Prelude.{nat_lt, nat_le, option_map, is_some, slice_get, replicate, MatchBool}
use Rattle.iox_machine.proofs.Shorthands.{given_back, left, registered, with_subscriber, with_publisher, IsRefused, IsSkipped}
use Rattle.iox_machine.specs.Choices.{Choices}
use Rattle.iox_machine.specs.Arriving.{worst_case, new_publisher, new_subscriber, PublisherArrives, SubscriberArrives}
use Rattle.iox_machine.specs.Mailbox.{Mailbox}
use Rattle.iox_machine.specs.Message.{Loan, Sample}
use Rattle.iox_machine.specs.RunLaws.{is_written, sent_as}
use Rattle.iox_machine.specs.PortList.{PortList}
use Rattle.iox_machine.specs.Ports.{LendsLoan, Puts, SendsLoan, Writes, Releases}
use Rattle.iox_machine.specs.PublisherUpdate as publishing
use Rattle.iox_machine.specs.Sending.{Sends}
use Rattle.iox_machine.specs.Service.{Service, Publisher, Subscriber, mailbox, with_mailbox}
use Rattle.iox_machine.specs.SubscriberUpdate as subscribing
use Rattle.iox_machine.specs.Table.{at, removed}
use Rattle.iox_machine.proofs.Mapped.{all-by, get-by, replicate-by, some-by, over-bool, over-option}
use Rattle.iox_machine.proofs.Renumbered.{Numbering, Numberings, placed, listed, left-by, at-by, changed-by, removed-by, other_subscriber}
use Rattle.iox_machine.proofs.Renumbered.{other_choices, subscriber_entry, other_reply, refused-by, skipped-by, other_send}
use Rattle.iox_machine.proofs.Renumbered.{other_sample, publisher_entry, loan_entry, other_service, publisher-by, subscriber-by}
use Rattle.iox_machine.proofs.Renumbered.{mailbox-by, boxed-by, other_publisher, other_loan}
use Rattle.iox_machine.proofs.RenumberedPublishers.{follows-by, sends-by, lends-by}
use Rattle.iox_machine.proofs.RenumberedSubscribers.{subscriber-follows-by}
use Rattle.iox_command.specs.DomainValues.declared.create_error.PublisherCreateError.TheVariants as publisher_error
use Rattle.iox_command.specs.DomainValues.declared.create_error.SubscriberCreateError.TheVariants as subscriber_error
use Rattle.iox_command.specs.DomainValues.declared.port_error.SendError.TheVariants as error
use Rattle.iox_command.specs.NegotiateBase.DescribeSettings.declared.static_config.publish_subscribe.StaticConfig.{StaticConfig}
use Rattle.iox_command.specs.declared.port.PublisherOptions.{PublisherOptions}
use Rattle.iox_command.specs.declared.port.SubscriberOptions.{SubscriberOptions}
use Rattle.iox_command.specs.declared.refusal.Refusal.TheVariants as refusal
use Rattle.iox_command.specs.declared.reply.Reply.{Reply}
use Rattle.iox_command.specs.declared.reply.Reply.TheVariants as reply

-- ---- lists of ports

all-taken : (one : Numbering) (places : List (Option ℕ)) → list_all is_some (map (placed one) places) ≡ list_all is_some places
all-taken one places = all-by (placed one) is_some is_some (λ place. some-by one.to place) places

free-by : (one : Numbering) (places : List (Option ℕ)) (place : ℕ) → slice_get places place ≡ Some None
    → slice_get (map (placed one) places) place ≡ Some None
free-by one places place free = get-by (placed one) places place ∙ ap (option_map (placed one)) free

registered-by : (one : Numbering) (place port : ℕ) (list : PortList)
    → registered place (one.to port) (listed one list) ≡ listed one (registered place port list)
registered-by one place port list =
    ap (λ (places : List (Option ℕ)). record (registered place port list) { places = places })
    (sym (map-set (placed one) list.places place (Some port)))

new-subscriber-by : (by : Numberings) (factory : ℕ) (options : SubscriberOptions) (settings : StaticConfig)
    → new_subscriber (by.factories.to factory) options settings ≡ other_subscriber by (new_subscriber factory options settings)
new-subscriber-by by factory options settings =
    ap (λ (places : List (Option ℕ)). record (other_subscriber by (new_subscriber factory options settings)) { connected = places })
    (replicate-by (placed by.publishers) settings.max_publishers None)

module _ {T : Type 0} (by : Numberings) where
  new-publisher-by : (factory : ℕ) (options : PublisherOptions) (settings : StaticConfig)
      → new_publisher (by.factories.to factory) options settings ≡ other_publisher {T = T} by (new_publisher factory options settings)
  new-publisher-by factory options settings =
      ap (λ (places : List (Option ℕ)). record (other_publisher {T = T} by (new_publisher factory options settings)) {
        connected = places;
      }) (replicate-by (placed by.subscribers) settings.max_subscribers None)

  -- ---- loans and samples

  pub lends-loan-by : (loan other_loan number count : ℕ) (value : Option T) (publisher : Publisher T) (old : Service T) (answer : Reply T)
      (new : Service T)
      → (answer ≡ reply.LoanMade loan → by.loans.to loan ≡ other_loan) → LendsLoan loan number count value publisher old answer new
      → LendsLoan other_loan (by.publishers.to number) count value (other_publisher by publisher) (other_service by old)
      (other_reply by answer) (other_service by new)
  lends-loan-by loan other_loan number count value publisher old answer new next (None, after, lent, (told, came)) = (
    None,
    other_publisher by after,
    lends-by by number count publisher old None after lent,
    subst (λ (it : ℕ). (other_reply by answer ≡ reply.LoanMade it)
        × (other_service by new ≡ record (with_publisher (by.publishers.to number) (other_publisher by after) (other_service by old)) {
          loans = map (loan_entry by) old.loans
              ++ (it, record { publisher = by.publishers.to number; number = publisher.next; values = replicate count value }) ∷ [];
        })) (next told) (
          ap (other_reply by) told,
          ap (other_service by) came
              ∙ sym (ap₂ (λ (service : Service T) (loans : List (ℕ × Loan T)). record service { loans = loans })
              (publisher-by by number after old)
              (sym (map-append (loan_entry by) old.loans
              ((loan, record { publisher = number; number = publisher.next; values = replicate count value }) ∷ [])))),
        ),
  )
  lends-loan-by loan other_loan number count value publisher old answer new next (Some why, after, lent, refused) = (
    Some why,
    other_publisher by after,
    lends-by by number count publisher old (Some why) after lent,
    refused-by by (other_service by) (refusal.Loan why) old answer new refused,
  )

  pub puts-by : (choices : Choices T) (number : ℕ) (values : List T) (publisher : Publisher T) (old : Service T) (answer : Reply T)
      (new : Service T)
      → Puts choices number values publisher old answer new
      → Puts (other_choices by choices) (by.publishers.to number) values (other_publisher by publisher) (other_service by old)
      (other_reply by answer)
      (other_service by new)
  puts-by choices number values publisher old answer new (None, after, lent, sent) = (
    None,
    other_publisher by after,
    lends-by by number (length values) publisher old None after lent,
    subst (λ (service : Service T). Sends (other_choices by choices) (by.publishers.to number)
        (record { number = publisher.next; sequence = None; values = values })
        (other_publisher by after) service (other_reply by answer) (other_service by new)) (sym (publisher-by by number after old))
        (sends-by by choices number (record { number = publisher.next; sequence = None; values = values }) after
        (with_publisher number after old) answer new sent),
  )
  puts-by choices number values publisher old answer new (Some why, after, lent, refused) = (
    Some why,
    other_publisher by after,
    lends-by by number (length values) publisher old (Some why) after lent,
    refused-by by (other_service by) (refusal.Send (error.LoanError why)) old answer new refused,
  )

  without-loan : (number : ℕ) (service : Service T)
      → record (other_service by service) { loans = removed (by.loans.to number) (map (loan_entry by) service.loans) }
      ≡ other_service by (record service { loans = removed number service.loans })
  without-loan number service =
      ap (λ (loans : List (ℕ × Loan T)). record (other_service by service) { loans = loans })
      (removed-by by.loans (other_loan by) number service.loans)

  pub drops-by : (number : ℕ) (old : Service T) (answer : Reply T) (new : Service T)
      → (answer ≡ reply.Done) × (new ≡ record old { loans = removed number old.loans })
      → (other_reply by answer ≡ reply.Done)
      × (other_service by new
      ≡ record (other_service by old) { loans = removed (by.loans.to number) (map (loan_entry by) old.loans) })
  drops-by number old answer new (told, came) =
      (ap (other_reply by) told, ap (other_service by) came ∙ sym (without-loan number old))

  pub sends-loan-by : (choices : Choices T) (number : ℕ) (loan : Loan T) (old : Service T) (answer : Reply T) (new : Service T)
      → SendsLoan choices number loan old answer new
      → SendsLoan (other_choices by choices) (by.loans.to number) (other_loan by loan) (other_service by old) (other_reply by answer)
      (other_service by new)
  sends-loan-by choices number loan old answer new h =
      over-option
      (λ (publisher : Publisher T). MatchBool (is_written loan && not (is_some publisher.blocked))
      (Sends (other_choices by choices) (by.publishers.to loan.publisher) (sent_as loan) publisher
      (record (other_service by old) { loans = removed (by.loans.to number) (map (loan_entry by) old.loans) }) (other_reply by answer)
      (other_service by new))
      (IsSkipped (other_service by old) (other_reply by answer) (other_service by new)))
      (other_publisher by) (at loan.publisher old.publishers)
      (at (by.publishers.to loan.publisher) (map (publisher_entry by) old.publishers))
      (at-by by.publishers (other_publisher by) loan.publisher old.publishers)
      (skipped-by by (other_service by) old answer new)
      (λ publisher. over-bool (is_written loan && not (is_some publisher.blocked))
      (is_written loan && not (is_some (option_map (other_send by) publisher.blocked)))
      (ap (λ (b : Bool). is_written loan && not b) (some-by (other_send by) publisher.blocked)) (sends publisher)
      (skipped-by by (other_service by) old answer new)) h
    where
      sends : (publisher : Publisher T)
          → Sends choices loan.publisher (sent_as loan) publisher (record old { loans = removed number old.loans }) answer new
          → Sends (other_choices by choices) (by.publishers.to loan.publisher) (sent_as loan) (other_publisher by publisher)
          (record (other_service by old) { loans = removed (by.loans.to number) (map (loan_entry by) old.loans) }) (other_reply by answer)
          (other_service by new)
      sends publisher sent =
          subst (λ (service : Service T). Sends (other_choices by choices) (by.publishers.to loan.publisher) (sent_as loan)
          (other_publisher by publisher) service
          (other_reply by answer) (other_service by new)) (sym (without-loan number old))
          (sends-by by choices loan.publisher (sent_as loan) publisher (record old { loans = removed number old.loans }) answer new sent)

  pub writes-by : (number : ℕ) (loan : Loan T) (fit : Bool) (values : List (Option T)) (old : Service T) (answer : Reply T)
      (new : Service T)
      → Writes number loan fit values old answer new
      → Writes (by.loans.to number) (other_loan by loan) fit values (other_service by old) (other_reply by answer) (other_service by new)
  writes-by number loan true values old answer new (told, came) = (
    ap (other_reply by) told,
    ap (other_service by) came
        ∙ sym (ap (λ (loans : List (ℕ × Loan T)). record (other_service by old) { loans = loans })
        (changed-by by.loans (other_loan by) number (record loan { values = values }) old.loans)),
  )
  writes-by number loan false values old answer new h = skipped-by by (other_service by) old answer new h

  pub releases-by : (number : ℕ) (sample : Sample T) (old : Service T) (answer : Reply T) (new : Service T)
      → Releases number sample old answer new
      → Releases (by.samples.to number) (other_sample by sample) (other_service by old) (other_reply by answer) (other_service by new)
  releases-by number sample old answer new (told, came) = (
    ap (other_reply by) told,
    ap (other_service by) came
        ∙ sym (ap₂ (λ (box : Mailbox T) (samples : List (ℕ × Sample T)). with_mailbox (by.publishers.to sample.publisher)
        (by.subscribers.to sample.subscriber) (given_back sample.message.number box) (record (other_service by old) { samples = samples }))
        (mailbox-by by sample.publisher sample.subscriber old) (removed-by by.samples (other_sample by) number old.samples)
        ∙ boxed-by by sample.publisher sample.subscriber
        (given_back sample.message.number (mailbox sample.publisher sample.subscriber old))
        (record old { samples = removed number old.samples })),
  )

  -- ---- ports that leave

  pub turns-by : (number : ℕ) (one : Publisher T) (told : Reply T) (service : Service T) (answer : Reply T) (after : Service T)
      → (answer ≡ told) × (after ≡ with_publisher number one service)
      → (other_reply by answer ≡ other_reply by told)
      × (other_service by after ≡ with_publisher (by.publishers.to number) (other_publisher by one) (other_service by service))
  turns-by number one told service answer after (said, came) =
      (ap (other_reply by) said, ap (other_service by) came ∙ sym (publisher-by by number one service))

  pub publisher-leaves-by : (number : ℕ) (one : Publisher T) (service : Service T) (answer : Reply T) (after : Service T)
      → (answer ≡ reply.Done)
      × (after ≡ with_publisher number (record one { stands = false })
      (record service { publisher_list = left number service.publisher_list }))
      → (other_reply by answer ≡ reply.Done)
      × (other_service by after ≡ with_publisher (by.publishers.to number) (record (other_publisher by one) { stands = false })
      (record (other_service by service) {
        publisher_list = left (by.publishers.to number) (listed by.publishers service.publisher_list);
      }))
  publisher-leaves-by number one service answer after (told, came) = (
    ap (other_reply by) told,
    ap (other_service by) came
        ∙ sym (ap (λ (list : PortList). with_publisher (by.publishers.to number) (record (other_publisher by one) { stands = false })
        (record (other_service by service) { publisher_list = list })) (left-by by.publishers number service.publisher_list)
        ∙ publisher-by by number (record one { stands = false })
        (record service { publisher_list = left number service.publisher_list })),
  )

  pub subscriber-leaves-by : (number : ℕ) (one : Subscriber) (service : Service T) (answer : Reply T) (after : Service T)
      → (answer ≡ reply.Done)
      × (after ≡ with_subscriber number (record one { stands = false })
      (record service { subscriber_list = left number service.subscriber_list }))
      → (other_reply by answer ≡ reply.Done)
      × (other_service by after ≡ with_subscriber (by.subscribers.to number) (record (other_subscriber by one) { stands = false })
      (record (other_service by service) {
        subscriber_list = left (by.subscribers.to number) (listed by.subscribers service.subscriber_list);
      }))
  subscriber-leaves-by number one service answer after (told, came) = (
    ap (other_reply by) told,
    ap (other_service by) came
        ∙ sym (ap (λ (list : PortList). with_subscriber (by.subscribers.to number) (record (other_subscriber by one) { stands = false })
        (record (other_service by service) { subscriber_list = list })) (left-by by.subscribers number service.subscriber_list)
        ∙ subscriber-by by number (record one { stands = false })
        (record service { subscriber_list = left number service.subscriber_list })),
  )

  -- ---- ports that come

  abbrev PublisherComes : ℕ → Publisher T → Service T → Reply T → Service T → Type 0
  PublisherComes number publisher old answer new =
      (IsRefused (refusal.Publisher publisher_error.UnableToCreateDataSegment) old answer new)
      ⊎ ((place : ℕ) × (slice_get old.publisher_list.places place ≡ Some None) × (after : Publisher T) × (mid : Service T)
      × publishing.Follows number publisher (record old { publishers = old.publishers ++ (number, publisher) ∷ [] }) after mid
      × (answer ≡ reply.PublisherMade number) × (new ≡ record mid { publisher_list = registered place number mid.publisher_list }))

  publisher-comes : (number other : ℕ) (publisher : Publisher T) (old : Service T) (answer : Reply T) (new : Service T)
      → (answer ≡ reply.PublisherMade number → by.publishers.to number ≡ other) → PublisherComes number publisher old answer new
      → PublisherComes other (other_publisher by publisher) (other_service by old) (other_reply by answer) (other_service by new)
  publisher-comes number other publisher old answer new next (inl refused) =
      inl (refused-by by (other_service by) (refusal.Publisher publisher_error.UnableToCreateDataSegment) old answer new refused)
  publisher-comes number other publisher old answer new next (inr (place, free, after, mid, follows, told, came)) =
      subst (λ (it : ℕ). PublisherComes it (other_publisher by publisher) (other_service by old) (other_reply by answer)
      (other_service by new)) (next told)
      (inr (
        place,
        free-by by.publishers old.publisher_list.places place free,
        other_publisher by after,
        other_service by mid,
        subst (λ (publishers : List (ℕ × Publisher T)). publishing.Follows (by.publishers.to number) (other_publisher by publisher)
            (record (other_service by old) { publishers = publishers }) (other_publisher by after) (other_service by mid))
            (map-append (publisher_entry by) old.publishers ((number, publisher) ∷ []))
            (follows-by by number publisher (record old { publishers = old.publishers ++ (number, publisher) ∷ [] }) after mid follows),
        ap (other_reply by) told,
        ap (other_service by) came
            ∙ ap (λ (list : PortList). record (other_service by mid) { publisher_list = list })
            (sym (registered-by by.publishers place number mid.publisher_list)),
      ))

  pub publisher-arrives-by : (number other factory : ℕ) (options : PublisherOptions) (old : Service T) (answer : Reply T) (new : Service T)
      → (answer ≡ reply.PublisherMade number → by.publishers.to number ≡ other)
      → PublisherArrives number (new_publisher factory options old.settings) old answer new
      → PublisherArrives other (new_publisher (by.factories.to factory) options old.settings) (other_service by old) (other_reply by answer)
      (other_service by new)
  publisher-arrives-by number other factory options old answer new next h =
      over-bool unfit unfit refl
      (refused-by by (other_service by) (refusal.Publisher publisher_error.UnableToCreateDataSegment) old answer new)
      (over-bool (list_all is_some old.publisher_list.places)
      (list_all is_some (map (placed by.publishers) old.publisher_list.places)) (all-taken by.publishers old.publisher_list.places)
      (refused-by by (other_service by) (refusal.Publisher publisher_error.ExceedsMaxSupportedPublishers) old answer new)
      comes) h
    where
      publisher : Publisher T
      publisher = new_publisher factory options old.settings

      unfit : Bool
      unfit = nat_le (2 ^ 32) (worst_case old.settings publisher.max_loaned_samples) || nat_le (2 ^ 32) publisher.room

      comes : PublisherComes number publisher old answer new
          → PublisherComes other (new_publisher (by.factories.to factory) options old.settings) (other_service by old)
          (other_reply by answer) (other_service by new)
      comes did =
          subst (λ (it : Publisher T). PublisherComes other it (other_service by old) (other_reply by answer) (other_service by new))
          (sym (new-publisher-by factory options old.settings))
          (publisher-comes number other publisher old answer new next did)

  abbrev SubscriberComes : ℕ → ℕ → Subscriber → Service T → Reply T → Service T → Type 0
  SubscriberComes buffer number subscriber old answer new =
      (IsRefused (refusal.Subscriber subscriber_error.OutOfMemory) old answer new)
      ⊎ ((place : ℕ) × (slice_get old.subscriber_list.places place ≡ Some None) × (after : Subscriber) × (mid : Service T)
      × subscribing.Follows buffer number subscriber (record old { subscribers = old.subscribers ++ (number, subscriber) ∷ [] }) after mid
      × (answer ≡ reply.SubscriberMade number) × (new ≡ record mid { subscriber_list = registered place number mid.subscriber_list }))

  subscriber-comes : (buffer number other : ℕ) (subscriber : Subscriber) (old : Service T) (answer : Reply T) (new : Service T)
      → (answer ≡ reply.SubscriberMade number → by.subscribers.to number ≡ other)
      → SubscriberComes buffer number subscriber old answer new
      → SubscriberComes buffer other (other_subscriber by subscriber) (other_service by old) (other_reply by answer) (other_service by new)
  subscriber-comes buffer number other subscriber old answer new next (inl refused) =
      inl (refused-by by (other_service by) (refusal.Subscriber subscriber_error.OutOfMemory) old answer new refused)
  subscriber-comes buffer number other subscriber old answer new next (inr (place, free, after, mid, follows, told, came)) =
      subst (λ (it : ℕ). SubscriberComes buffer it (other_subscriber by subscriber) (other_service by old) (other_reply by answer)
      (other_service by new)) (next told)
      (inr (
        place,
        free-by by.subscribers old.subscriber_list.places place free,
        other_subscriber by after,
        other_service by mid,
        subst (λ (subscribers : List (ℕ × Subscriber)). subscribing.Follows buffer (by.subscribers.to number)
            (other_subscriber by subscriber) (record (other_service by old) { subscribers = subscribers }) (other_subscriber by after)
            (other_service by mid))
            (map-append (subscriber_entry by) old.subscribers ((number, subscriber) ∷ []))
            (subscriber-follows-by by buffer number subscriber
            (record old { subscribers = old.subscribers ++ (number, subscriber) ∷ [] }) after mid follows),
        ap (other_reply by) told,
        ap (other_service by) came
            ∙ ap (λ (list : PortList). record (other_service by mid) { subscriber_list = list })
            (sym (registered-by by.subscribers place number mid.subscriber_list)),
      ))

  pub subscriber-arrives-by : (buffer number other factory : ℕ) (options : SubscriberOptions) (old : Service T) (answer : Reply T)
      (new : Service T)
      → (answer ≡ reply.SubscriberMade number → by.subscribers.to number ≡ other)
      → SubscriberArrives buffer number (new_subscriber factory options old.settings) old answer new
      → SubscriberArrives buffer other (new_subscriber (by.factories.to factory) options old.settings) (other_service by old)
      (other_reply by answer) (other_service by new)
  subscriber-arrives-by buffer number other factory options old answer new next h =
      over-bool unfit unfit refl
      (refused-by by (other_service by) (refusal.Subscriber subscriber_error.BufferSizeExceedsMaxSupportedBufferSizeOfService) old answer
      new)
      (over-bool (list_all is_some old.subscriber_list.places)
      (list_all is_some (map (placed by.subscribers) old.subscriber_list.places)) (all-taken by.subscribers old.subscriber_list.places)
      (refused-by by (other_service by) (refusal.Subscriber subscriber_error.ExceedsMaxSupportedSubscribers) old answer new)
      comes) h
    where
      subscriber : Subscriber
      subscriber = new_subscriber factory options old.settings

      unfit : Bool
      unfit = nat_lt old.settings.subscriber_max_buffer_size subscriber.buffer_size

      comes : SubscriberComes buffer number subscriber old answer new
          → SubscriberComes buffer other (new_subscriber (by.factories.to factory) options old.settings) (other_service by old)
          (other_reply by answer) (other_service by new)
      comes did =
          subst (λ (it : Subscriber). SubscriberComes buffer other it (other_service by old) (other_reply by answer) (other_service by new))
          (sym (new-subscriber-by by factory options old.settings))
          (subscriber-comes buffer number other subscriber old answer new next did)
