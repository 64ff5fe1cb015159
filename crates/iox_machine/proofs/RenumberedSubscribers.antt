-- A subscriber does the same where all goes by other numbers.
use Rattle.std.proofs.Common.{◌≡◌, ℕ, Bool, true, false, cond, not, ◌&&◌, List, [], ◌∷◌, ◌++◌, map, length, max, Option, None, Some, refl}
use Rattle.std.proofs.Common.{sym, ap, ap₂, subst, ◌∙◌}
use Rattle.std.proofs.lemmas.List.{length-map, map-append}
use Rattle.std.specs.Global.{Vec}
use Rattle.std.specs.List.{list_any}
use Rattle.std.specs.Option.{option_map_or}
use Rattle.std.specs.Prelude.{◌==◌, nat_lt, is_some, find, filter, fold, zip, filter_map, slice_get}
use Rattle.iox_machine.proofs.Shorthands.{now_at, parting, taken, with_subscriber, IsRefused, has_data, is_unborrowed, gone_from}
use Rattle.iox_machine.specs.Choices.{Choices}
use Rattle.iox_machine.proofs.Delivering.{Outcomes}
use Rattle.iox_machine.specs.Mailbox.{Mailbox, is_idle}
use Rattle.iox_machine.specs.Message.{Sample}
use Rattle.iox_machine.specs.PortList.{those, unless}
use Rattle.iox_machine.specs.Receiving.{has_samples, gives, lasting, IsGiver, Receives, Takes}
use Rattle.iox_machine.specs.Service.{Service, Subscriber, mailbox, with_mailbox, connect}
use Rattle.iox_machine.specs.SubscriberUpdate as subscribing
use Rattle.iox_machine.specs.SubscriberUpdate.{Parted, room_for, part}
use Rattle.iox_machine.specs.Table.{contains}
use Rattle.iox_machine.proofs.Mapped.{cond-of, find-by, filter-by, any-by, all-by, get-by, filter_map-by, some-by, or-by, map-swap}
use Rattle.iox_machine.proofs.Mapped.{zip-by, fold-by, over-bool, over-option}
use Rattle.iox_machine.proofs.Renumbered.{Numbering, Numberings, same-to, placed, those-by, contains-to, contained-to, unless-by}
use Rattle.iox_machine.proofs.Renumbered.{other_choices, other_subscriber, other_reply, refused-by, sample_entry, other_service}
use Rattle.iox_machine.proofs.Renumbered.{mailbox-by, boxed-by, connect-by, subscriber-by, box-by}
use Rattle.iox_machine.proofs.RenumberedPublishers.{over-outcomes}
use Rattle.iox_command.specs.DomainValues.declared.connection_failure.ConnectionFailure.{ConnectionFailure}
use Rattle.iox_command.specs.DomainValues.declared.port_error.ReceiveError.TheVariants.{ExceedsMaxBorrows}
use Rattle.iox_command.specs.declared.refusal.Refusal.{Refusal}
use Rattle.iox_command.specs.declared.refusal.Refusal.TheVariants as refusal
use Rattle.iox_command.specs.declared.reply.Reply.{Reply}
use Rattle.iox_command.specs.declared.reply.Reply.TheVariants as reply

-- ---- who is connected

module _ (one : Numbering) where
  -- who is connected and who is listed at a place, by other numbers
  abbrev both : Option ℕ × Option ℕ → Option ℕ × Option ℕ
  both place = (placed one place.0, placed one place.1)

  gone-by : (place : Option ℕ × Option ℕ) → gone_from (both place) ≡ placed one (gone_from place)
  gone-by place =
      ap (λ (ports : List ℕ). unless ports (placed one place.0)) (those-by one (place.1 ∷ []))
      ∙ unless-by one (those (place.1 ∷ [])) place.0

  parting-by : (places : List (Option ℕ × Option ℕ)) → parting (map both places) ≡ map one.to (parting places)
  parting-by places =
      ap (filter_map gone_from)
      (ap₂ (λ (now none : List (Option ℕ × Option ℕ)). now ++ none)
      (filter-by both (λ (place : Option ℕ × Option ℕ). is_some place.1) (λ (place : Option ℕ × Option ℕ). is_some place.1)
      (λ place. some-by one.to place.1) places)
      (filter-by both (λ (place : Option ℕ × Option ℕ). not (is_some place.1)) (λ (place : Option ℕ × Option ℕ). not (is_some place.1))
      (λ place. ap not (some-by one.to place.1)) places)
      ∙ sym (map-append both (filter (λ (place : Option ℕ × Option ℕ). is_some place.1) places)
      (filter (λ (place : Option ℕ × Option ℕ). not (is_some place.1)) places)))
      ∙ filter_map-by one.to both gone_from gone_from gone-by
      (filter (λ (place : Option ℕ × Option ℕ). is_some place.1) places
      ++ filter (λ (place : Option ℕ × Option ℕ). not (is_some place.1)) places)

  now-by : (staying refused : List ℕ) (place : Option ℕ × Option ℕ)
      → now_at (map one.to staying) (map one.to refused) (both place) ≡ placed one (now_at staying refused place)
  now-by staying refused place =
      ap₂ (λ (b : Bool) (new : Option ℕ). cond b (placed one place.0) new)
      (or-by one.to (contains (map one.to staying)) (contains staying) false (λ port. contains-to one staying port) place.0)
      (unless-by one refused place.1)
      ∙ cond-of (placed one) (option_map_or (contains staying) place.0 false) place.0 (unless refused place.1)

  again-by : (places : List (Option ℕ × Option ℕ))
      → list_any (λ (place : Option ℕ × Option ℕ). is_some place.1 && is_some (gone_from place)) (map both places)
      ≡ list_any (λ (place : Option ℕ × Option ℕ). is_some place.1 && is_some (gone_from place)) places
  again-by places =
      any-by both (λ (place : Option ℕ × Option ℕ). is_some place.1 && is_some (gone_from place))
      (λ (place : Option ℕ × Option ℕ). is_some place.1 && is_some (gone_from place))
      (λ place. ap₂ (λ (b c : Bool). b && c) (some-by one.to place.1)
      (ap is_some (gone-by place) ∙ some-by one.to (gone_from place))) places

  -- expired connections, by other numbers
  abbrev other_parted : Parted → Parted
  other_parted parted = record { expired = map one.to parted.expired; staying = map one.to parted.staying }

  -- what comes of the connection of a publisher that left, by what is asked about it
  abbrev parted_on : Bool → Bool → Option ℕ → Bool → Parted → ℕ → Parted
  parted_on idle few room unborrowed parted publisher =
      cond idle parted
      (cond few (record parted { expired = parted.expired ++ publisher ∷ [] })
      (elim room [
        | Some out ↦ record parted { expired = filter (λ other. not (other == out)) parted.expired ++ publisher ∷ [] }
        | None ↦ cond unborrowed parted (record parted { staying = parted.staying ++ publisher ∷ [] })
      ]))

  parted-on-by : (idle few : Bool) (room : Option ℕ) (unborrowed : Bool) (parted : Parted) (publisher : ℕ)
      → parted_on idle few (placed one room) unborrowed (other_parted parted) (one.to publisher)
      ≡ other_parted (parted_on idle few room unborrowed parted publisher)
  parted-on-by true few room unborrowed parted publisher = refl
  parted-on-by false true room unborrowed parted publisher =
      ap (λ (expired : List ℕ). record (other_parted parted) { expired = expired })
      (sym (map-append one.to parted.expired (publisher ∷ [])))
  parted-on-by false false (Some out) unborrowed parted publisher =
      ap (λ (expired : List ℕ). record (other_parted parted) { expired = expired })
      (ap (λ (others : List ℕ). others ++ one.to publisher ∷ [])
      (filter-by one.to (λ other. not (other == one.to out)) (λ other. not (other == out))
      (λ other. ap not (same-to one other out)) parted.expired)
      ∙ sym (map-append one.to (filter (λ other. not (other == out)) parted.expired) (publisher ∷ [])))
  parted-on-by false false None true parted publisher = refl
  parted-on-by false false None false parted publisher =
      ap (λ (staying : List ℕ). record (other_parted parted) { staying = staying })
      (sym (map-append one.to parted.staying (publisher ∷ [])))

-- ---- an update

module _ {T : Type 0} (by : Numberings) where
  idle-by : (number : ℕ) (service : Service T) (publisher : ℕ)
      → is_idle (mailbox (by.publishers.to publisher) (by.subscribers.to number) (other_service by service))
      ≡ is_idle (mailbox publisher number service)
  idle-by number service publisher = ap is_idle (mailbox-by by publisher number service)

  unborrowed-by : (buffer number : ℕ) (service : Service T) (publisher : ℕ)
      → is_unborrowed buffer (by.subscribers.to number) (other_service by service) (by.publishers.to publisher)
      ≡ is_unborrowed buffer number service publisher
  unborrowed-by buffer number service publisher =
      ap (λ (box : Mailbox T). length box.borrowed == 0) (mailbox-by by publisher number service)

  room-by : (buffer number publisher : ℕ) (expired : List ℕ) (service : Service T)
      → room_for buffer (by.subscribers.to number) (by.publishers.to publisher) (map by.publishers.to expired) (other_service by service)
      ≡ placed by.publishers (room_for buffer number publisher expired service)
  room-by buffer number publisher expired service =
      ap (λ (list : List ℕ). slice_get list 0)
      (ap₂ (λ (idle others : List ℕ). idle ++ others)
      (filter-by by.publishers.to
      (λ other. is_idle (mailbox other (by.subscribers.to number) (other_service by service)))
      (λ other. is_idle (mailbox other number service)) (λ other. idle-by number service other) expired)
      (ap₂ (λ (b : Bool) (list : List ℕ). cond b [] list) (unborrowed-by buffer number service publisher)
      (filter-by by.publishers.to (is_unborrowed buffer (by.subscribers.to number) (other_service by service))
      (is_unborrowed buffer number service) (λ other. unborrowed-by buffer number service other) expired)
      ∙ cond-of (map by.publishers.to) (is_unborrowed buffer number service publisher) []
      (filter (is_unborrowed buffer number service) expired))
      ∙ sym (map-append by.publishers.to (filter (λ other. is_idle (mailbox other number service)) expired)
      (cond (is_unborrowed buffer number service publisher) [] (filter (is_unborrowed buffer number service) expired))))
      ∙ get-by by.publishers.to (filter (λ other. is_idle (mailbox other number service)) expired
      ++ cond (is_unborrowed buffer number service publisher) [] (filter (is_unborrowed buffer number service) expired)) 0

  part-by : (buffer number : ℕ) (service : Service T) (parted : Parted) (publisher : ℕ)
      → part buffer (by.subscribers.to number) (other_service by service) (other_parted by.publishers parted) (by.publishers.to publisher)
      ≡ other_parted by.publishers (part buffer number service parted publisher)
  part-by buffer number service parted publisher =
      (λ i. parted_on by.publishers (idle-by number service publisher i)
      (nat_lt (length-map parted.expired by.publishers.to i) (max buffer service.settings.subscriber_max_borrowed_samples))
      (room-by buffer number publisher parted.expired service i) (unborrowed-by buffer number service publisher i)
      (other_parted by.publishers parted) (by.publishers.to publisher))
      ∙ parted-on-by by.publishers (is_idle (mailbox publisher number service))
      (nat_lt (length parted.expired) (max buffer service.settings.subscriber_max_borrowed_samples))
      (room_for buffer number publisher parted.expired service) (is_unborrowed buffer number service publisher) parted publisher

  pub subscriber-follows-by : (buffer number : ℕ) (subscriber : Subscriber) (old : Service T) (after : Subscriber) (new : Service T)
      → subscribing.Follows buffer number subscriber old after new
      → subscribing.Follows buffer (by.subscribers.to number) (other_subscriber by subscriber) (other_service by old)
      (other_subscriber by after) (other_service by new)
  subscriber-follows-by buffer number subscriber old after new (refused, allowed, connected, listed, is, came) = (
    map by.publishers.to refused,
    all-by by.publishers.to
        (λ publisher. contains (those (map (placed by.publishers) old.publisher_list.places)) publisher
        && not (is_some ((other_service by old).mailboxes publisher (by.subscribers.to number))))
        (λ publisher. contains (those old.publisher_list.places) publisher && not (is_some (old.mailboxes publisher number)))
        (λ publisher. ap₂ (λ (is_listed : Bool) (box : Option (Mailbox T)). is_listed && not (is_some box))
        (contained-to by.publishers old.publisher_list.places publisher) (box-by by publisher number old)) refused
        ∙ allowed,
    map (placed by.publishers) connected,
    ap (map (placed by.publishers)) listed
        ∙ sym (ap₂ (λ (it : Parted) (pairs : List (Option ℕ × Option ℕ)). map (now_at it.staying (map by.publishers.to refused)) pairs)
        all-parted places-by
        ∙ map-swap (both by.publishers) (now_at (map by.publishers.to parted.staying) (map by.publishers.to refused))
        (now_at parted.staying refused) (placed by.publishers) (λ place. now-by by.publishers parted.staying refused place) places),
    ap (other_subscriber by) is
        ∙ ap₂ (λ (again : Bool) (expired : List ℕ). record (other_subscriber by subscriber) {
          seen = old.publisher_list.changes;
          again = again;
          connected = map (placed by.publishers) connected;
          expired = expired;
        })
        (sym (ap (list_any (λ (place : Option ℕ × Option ℕ). is_some place.1 && is_some (gone_from place)))
        (zip-by (placed by.publishers) (placed by.publishers) connected old.publisher_list.places)
        ∙ again-by by.publishers (zip connected old.publisher_list.places)))
        (sym (ap (λ (it : Parted). it.expired) all-parted)),
    ap (other_service by) came
        ∙ sym (ap (λ (start : Service T). fold connects start (those (map (placed by.publishers) connected)))
        (subscriber-by by number after old)
        ∙ ap (λ (list : List ℕ). fold connects (other_service by (with_subscriber number after old)) list)
        (those-by by.publishers connected)
        ∙ fold-by (other_service by) by.publishers.to connects
        (λ service publisher. connect subscriber.buffer_size publisher number service)
        (λ service publisher. connect-by by subscriber.buffer_size publisher number service) (with_subscriber number after old)
        (those connected)),
  )
    where
      places : List (Option ℕ × Option ℕ)
      places = zip subscriber.connected old.publisher_list.places

      parted : Parted
      parted = fold (part buffer number old) (record { expired = subscriber.expired; staying = [] }) (parting places)

      connects : Service T → ℕ → Service T
      connects service publisher = connect subscriber.buffer_size publisher (by.subscribers.to number) service

      places-by : zip (map (placed by.publishers) subscriber.connected) (map (placed by.publishers) old.publisher_list.places)
          ≡ map (both by.publishers) places
      places-by = zip-by (placed by.publishers) (placed by.publishers) subscriber.connected old.publisher_list.places

      all-parted : fold (part buffer (by.subscribers.to number) (other_service by old))
          (record { expired = map by.publishers.to subscriber.expired; staying = [] })
          (parting (zip (map (placed by.publishers) subscriber.connected) (map (placed by.publishers) old.publisher_list.places)))
          ≡ other_parted by.publishers parted
      all-parted =
          ap (λ (list : List ℕ). fold (part buffer (by.subscribers.to number) (other_service by old))
          (record { expired = map by.publishers.to subscriber.expired; staying = [] }) list)
          (ap parting places-by ∙ parting-by by.publishers places)
          ∙ fold-by (other_parted by.publishers) by.publishers.to (part buffer (by.subscribers.to number) (other_service by old))
          (part buffer number old) (λ it publisher. part-by buffer number old it publisher)
          (record { expired = subscriber.expired; staying = [] }) (parting places)

  pub subscriber-updates-by : (choices : Choices T) (buffer number : ℕ) (told : ConnectionFailure → Refusal)
      (Does Other : Subscriber → Service T → Reply T → Service T → Type 0)
      (subscriber : Subscriber) (old : Service T) (answer : Reply T) (new : Service T)
      → ((one : Subscriber) (mid : Service T) → Does one mid answer new
      → Other (other_subscriber by one) (other_service by mid) (other_reply by answer) (other_service by new))
      → subscribing.UpdatesFirst choices buffer number told Does subscriber old answer new
      → subscribing.UpdatesFirst (other_choices by choices) buffer (by.subscribers.to number) told Other (other_subscriber by subscriber)
      (other_service by old)
      (other_reply by answer) (other_service by new)
  subscriber-updates-by choices buffer number told Does Other subscriber old answer new does h =
      over-bool ((subscriber.seen == old.publisher_list.changes) && not subscriber.again)
      ((subscriber.seen == old.publisher_list.changes) && not subscriber.again) refl (does subscriber old) followed h
    where
      followed : (after : Subscriber) × (mid : Service T) × subscribing.Follows buffer number subscriber old after mid
          × Outcomes (choices.subscriber_acts number subscriber.degradation) (zip old.publisher_list.places after.connected)
          (λ done. Does after mid answer new) (λ failure. IsRefused (told failure) mid answer new)
          → (after : Subscriber) × (mid : Service T)
          × subscribing.Follows buffer (by.subscribers.to number) (other_subscriber by subscriber) (other_service by old) after mid
          × Outcomes ((other_choices by choices).subscriber_acts (by.subscribers.to number) subscriber.degradation)
          (zip (map (placed by.publishers) old.publisher_list.places) after.connected)
          (λ done. Other after mid (other_reply by answer) (other_service by new))
          (λ failure. IsRefused (told failure) mid (other_reply by answer) (other_service by new))
      followed (after, mid, follows, end) = (
        other_subscriber by after,
        other_service by mid,
        subscriber-follows-by buffer number subscriber old after mid follows,
        over-outcomes by.publishers (choices.subscriber_acts number subscriber.degradation)
            ((other_choices by choices).subscriber_acts (by.subscribers.to number) subscriber.degradation)
            (λ action may. (number, refl, may)) old.publisher_list.places after.connected
            (λ (done : Unit {0}). does after mid)
            (λ (failure : ConnectionFailure). refused-by by (other_service by) (told failure) mid answer new) end,
      )

  -- ---- a receive

  pub has-by : (number : ℕ) (subscriber : Subscriber) (service : Service T)
      → has_samples (by.subscribers.to number) (other_subscriber by subscriber) (other_service by service)
      ≡ has_samples number subscriber service
  has-by number subscriber service =
      ap (list_any (λ publisher. has_data (mailbox publisher (by.subscribers.to number) (other_service by service))))
      (ap (λ (list : List ℕ). list ++ map by.publishers.to subscriber.expired) (those-by by.publishers subscriber.connected)
      ∙ sym (map-append by.publishers.to (those subscriber.connected) subscriber.expired))
      ∙ any-by by.publishers.to (λ publisher. has_data (mailbox publisher (by.subscribers.to number) (other_service by service)))
      (λ publisher. has_data (mailbox publisher number service)) (λ publisher. ap has_data (mailbox-by by publisher number service))
      (those subscriber.connected ++ subscriber.expired)

  gives-by : (number : ℕ) (service : Service T) (publisher : ℕ)
      → gives (by.subscribers.to number) (other_service by service) (by.publishers.to publisher) ≡ gives number service publisher
  gives-by number service publisher =
      ap (λ (box : Mailbox T). has_data box && nat_lt (length box.borrowed) service.settings.subscriber_max_borrowed_samples)
      (mailbox-by by publisher number service)

  lasting-by : (number : ℕ) (service : Service T) (expired : List ℕ)
      → lasting (by.subscribers.to number) (other_service by service) (map by.publishers.to expired)
      ≡ map by.publishers.to (lasting number service expired)
  lasting-by number service [] = refl
  lasting-by number service (publisher ∷ more) =
      (λ i. cond (gives-by number service publisher i) (map by.publishers.to (publisher ∷ more))
      (cond (idle-by number service publisher i) (lasting-by number service more i)
      (by.publishers.to publisher ∷ lasting-by number service more i)))
      ∙ ap (λ (rest : List ℕ). cond (gives number service publisher) (map by.publishers.to (publisher ∷ more)) rest)
      (cond-of (map by.publishers.to) (is_idle (mailbox publisher number service)) (lasting number service more)
      (publisher ∷ lasting number service more))
      ∙ cond-of (map by.publishers.to) (gives number service publisher) (publisher ∷ more)
      (cond (is_idle (mailbox publisher number service)) (lasting number service more) (publisher ∷ lasting number service more))

  giver-by : (number : ℕ) (first : Option ℕ) (subscriber : Subscriber) (service : Service T) (giver : Option ℕ)
      → IsGiver number first subscriber service giver
      → IsGiver (by.subscribers.to number) (placed by.publishers first) (other_subscriber by subscriber) (other_service by service)
      (placed by.publishers giver)
  giver-by number (Some expired) subscriber service giver is = ap (placed by.publishers) is
  giver-by number None subscriber service None none =
      ap (list_any (gives (by.subscribers.to number) (other_service by service))) (those-by by.publishers subscriber.connected)
      ∙ any-by by.publishers.to (gives (by.subscribers.to number) (other_service by service)) (gives number service)
      (λ publisher. gives-by number service publisher) (those subscriber.connected)
      ∙ none
  giver-by number None subscriber service (Some publisher) is =
      ap₂ (λ (b c : Bool). b && c) (contained-to by.publishers subscriber.connected publisher) (gives-by number service publisher) ∙ is

  takes-by : (number sample other_sample publisher : ℕ) (old : Service T) (answer : Reply T) (new : Service T)
      → ((values : Vec T) → answer ≡ reply.Received sample values → by.samples.to sample ≡ other_sample)
      → Takes number sample publisher old answer new
      → Takes (by.subscribers.to number) other_sample (by.publishers.to publisher) (other_service by old) (other_reply by answer)
      (other_service by new)
  takes-by number sample other_sample publisher old answer new next (message, values, first, same, told, came) =
      subst (λ (it : ℕ). Takes (by.subscribers.to number) it (by.publishers.to publisher) (other_service by old) (other_reply by answer)
      (other_service by new)) (next values told) (
        message,
        values,
        ap (λ (box : Mailbox T). slice_get box.waiting 0) (mailbox-by by publisher number old) ∙ first,
        same,
        ap (other_reply by) told,
        ap (other_service by) came
            ∙ sym (ap₂ (λ (box : Mailbox T) (samples : List (ℕ × Sample T)).
            with_mailbox (by.publishers.to publisher) (by.subscribers.to number)
            (taken box) (record (other_service by old) { samples = samples })) (mailbox-by by publisher number old)
            (sym (map-append (sample_entry by) old.samples
            ((sample, record { publisher = publisher; subscriber = number; message = message }) ∷ [])))
            ∙ boxed-by by publisher number (taken (mailbox publisher number old)) (record old {
              samples = old.samples ++ (sample, record { publisher = publisher; subscriber = number; message = message }) ∷ [];
            })),
      )

  pub receives-by : (number sample other_sample : ℕ) (subscriber : Subscriber) (old : Service T) (answer : Reply T) (new : Service T)
      → ((values : Vec T) → answer ≡ reply.Received sample values → by.samples.to sample ≡ other_sample)
      → Receives number sample subscriber old answer new
      → Receives (by.subscribers.to number) other_sample (other_subscriber by subscriber) (other_service by old) (other_reply by answer)
      (other_service by new)
  receives-by number sample other_sample subscriber old answer new next (giver, is, h) = (
    placed by.publishers giver,
    subst (λ (first : Option ℕ). IsGiver (by.subscribers.to number) first (other_subscriber by subscriber) (other_service by old)
        (placed by.publishers giver))
        (sym (find-by by.publishers.to (gives (by.subscribers.to number) (other_service by old)) (gives number old)
        (λ publisher. gives-by number old publisher) subscriber.expired))
        (giver-by number (find (gives number old) subscriber.expired) subscriber old giver is),
    over-option
        (λ (publisher : ℕ). Takes (by.subscribers.to number) other_sample publisher other_swept (other_reply by answer)
        (other_service by new))
        by.publishers.to giver (placed by.publishers giver) refl nothing takes h,
  )
    where
      swept : Service T
      swept = with_subscriber number (record subscriber { expired = lasting number old subscriber.expired }) old

      other_swept : Service T
      other_swept =
          with_subscriber (by.subscribers.to number) (record (other_subscriber by subscriber) {
            expired = lasting (by.subscribers.to number) (other_service by old) (map by.publishers.to subscriber.expired);
          }) (other_service by old)

      swept-by : other_swept ≡ other_service by swept
      swept-by =
          ap (λ (expired : List ℕ). with_subscriber (by.subscribers.to number)
          (record (other_subscriber by subscriber) { expired = expired }) (other_service by old))
          (lasting-by number old subscriber.expired)
          ∙ subscriber-by by number (record subscriber { expired = lasting number old subscriber.expired }) old

      said-by : (b : Bool) → other_reply {T = T} by (cond b (reply.Refused (refusal.Receive ExceedsMaxBorrows)) reply.NothingWaits)
          ≡ cond b (reply.Refused (refusal.Receive ExceedsMaxBorrows)) reply.NothingWaits
      said-by true = refl
      said-by false = refl

      nothing : (answer ≡ cond (has_samples number subscriber old) (reply.Refused (refusal.Receive ExceedsMaxBorrows)) reply.NothingWaits)
          × (new ≡ swept)
          → (other_reply by answer ≡ cond (has_samples (by.subscribers.to number) (other_subscriber by subscriber) (other_service by old))
          (reply.Refused (refusal.Receive ExceedsMaxBorrows)) reply.NothingWaits)
          × (other_service by new ≡ other_swept)
      nothing (told, came) = (
        ap (other_reply by) told
            ∙ said-by (has_samples number subscriber old)
            ∙ ap (λ (b : Bool). cond b (reply.Refused (refusal.Receive ExceedsMaxBorrows)) reply.NothingWaits)
            (sym (has-by number subscriber old)),
        ap (other_service by) came ∙ sym swept-by,
      )

      takes : (publisher : ℕ) → Takes number sample publisher swept answer new
          → Takes (by.subscribers.to number) other_sample (by.publishers.to publisher) other_swept (other_reply by answer)
          (other_service by new)
      takes publisher did =
          subst (λ (mid : Service T). Takes (by.subscribers.to number) other_sample (by.publishers.to publisher) mid
          (other_reply by answer) (other_service by new)) (sym swept-by)
          (takes-by number sample other_sample publisher swept answer new next did)
