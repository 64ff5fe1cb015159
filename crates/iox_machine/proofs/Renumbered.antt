-- A service in which all goes by other numbers.
use Rattle.std.proofs.Common.{◌≡◌, ℕ, Bool, true, false, cond, not, ◌&&◌, List, [], ◌∷◌, map, Option, None, Some, refl, sym, ap, ap₂, ◌∙◌}
use Rattle.std.proofs.Common.{true≢false}
use Rattle.std.proofs.lemmas.Bool.{eqb-true, eq-eqb, ne_eqb}
use Rattle.std.specs.Prelude.{◌==◌, find, option_map, is_some, unwrap_or}
use Rattle.iox_machine.specs.Choices.{Choices}
use Rattle.iox_machine.specs.Mailbox.{Mailbox}
use Rattle.iox_machine.specs.Message.{Loan, Sample}
use Rattle.iox_machine.specs.Renaming.{Renaming, renamed_reply}
use Rattle.iox_machine.specs.Renumbering.{renumbered_choices, AreRenumbered, renumbered_list, renumbered_loan, renumbered_publisher}
use Rattle.iox_machine.specs.Renumbering.{renumbered_send, renumbered_subscriber, renumbered_sample}
use Rattle.iox_machine.specs.PortList.{PortList, those, unless}
use Rattle.iox_machine.specs.Service.{Service, Publisher, Subscriber, Send, mailbox, with_mailbox, connect}
use Rattle.iox_machine.proofs.Shorthands.{with_publisher, with_subscriber, left, IsSkipped, IsRefused}
use Rattle.iox_machine.specs.Table.{at, changed, removed, contains}
use Rattle.iox_machine.proofs.Mapped.{cond-of, find-by, filter-by, any-by, filter_map-by, map-swap, option-swap}
use Rattle.iox_command.specs.declared.refusal.Refusal.{Refusal}
use Rattle.iox_command.specs.declared.reply.Reply.{Reply}

-- By which number each number goes, and which goes by each: each by one, and none by that of another.
pub record Numbering : Type 0 where
  pub to : ℕ → ℕ
  pub from : ℕ → ℕ
  pub back : (n : ℕ) → from (to n) ≡ n
  pub forth : (n : ℕ) → to (from n) ≡ n

-- by which numbers factories, publishers, subscribers, loans and samples go
pub record Numberings : Type 0 where
  pub factories : Numbering
  pub publishers : Numbering
  pub subscribers : Numbering
  pub loans : Numbering
  pub samples : Numbering

-- ---- numbers

module _ (one : Numbering) where
  -- two numbers are one just if those are by which they go
  pub same-to : (n m : ℕ) → (one.to n == one.to m) ≡ (n == m)
  same-to n m = here (n == m) refl
    where
      here : (b : Bool) → (n == m) ≡ b → (one.to n == one.to m) ≡ b
      here true is = eq-eqb (one.to n) (one.to m) (ap one.to (eqb-true n m is))
      here false is =
          ne_eqb (one.to n) (one.to m)
          (λ same. true≢false (sym (eq-eqb n m (sym (one.back n) ∙ ap one.from same ∙ one.back m)) ∙ is))

  pub same-from : (k n : ℕ) → (k == one.to n) ≡ (one.from k == n)
  same-from k n = ap (λ (it : ℕ). it == one.to n) (sym (one.forth k)) ∙ same-to (one.from k) n

  pub contains-to : (numbers : List ℕ) (n : ℕ) → contains (map one.to numbers) (one.to n) ≡ contains numbers n
  contains-to numbers n = any-by one.to (λ other. other == one.to n) (λ other. other == n) (λ other. same-to other n) numbers

  pub contains-from : (numbers : List ℕ) (k : ℕ) → contains (map one.to numbers) k ≡ contains numbers (one.from k)
  contains-from numbers k =
      any-by one.to (λ other. other == k) (λ other. other == one.from k)
      (λ other. ap (λ (it : ℕ). one.to other == it) (sym (one.forth k)) ∙ same-to other (one.from k)) numbers

  -- the number by which the one at a place goes
  abbrev pub placed : Option ℕ → Option ℕ
  placed place = option_map one.to place

  pub those-by : (places : List (Option ℕ)) → those (map placed places) ≡ map one.to (those places)
  those-by places = filter_map-by one.to placed (λ place. place) (λ place. place) (λ place. refl) places

  pub contained-to : (places : List (Option ℕ)) (n : ℕ) → contains (those (map placed places)) (one.to n) ≡ contains (those places) n
  contained-to places n = ap (λ (ports : List ℕ). contains ports (one.to n)) (those-by places) ∙ contains-to (those places) n

  pub contained-from : (places : List (Option ℕ)) (k : ℕ) → contains (those (map placed places)) k ≡ contains (those places) (one.from k)
  contained-from places k = ap (λ (ports : List ℕ). contains ports k) (those-by places) ∙ contains-from (those places) k

  pub unless-by : (ports : List ℕ) (place : Option ℕ) → unless (map one.to ports) (placed place) ≡ placed (unless ports place)
  unless-by ports None = refl
  unless-by ports (Some port) =
      ap (λ (b : Bool). cond b None (Some (one.to port))) (contains-to ports port) ∙ cond-of placed (contains ports port) None (Some port)

  -- a list of ports that go by other numbers
  abbrev pub listed : PortList → PortList
  listed list = renumbered_list one.to list

  pub left-by : (port : ℕ) (list : PortList) → left (one.to port) (listed list) ≡ listed (left port list)
  left-by port list =
      ap (λ (places : List (Option ℕ)). record (left port list) { places = places })
      (map-swap placed (unless (one.to port ∷ [])) (unless (port ∷ [])) placed (λ place. unless-by (port ∷ []) place) list.places)

  module _ {V W : Type 0} (f : V → W) where
    -- what goes by another number
    abbrev pub entered_by : ℕ × V → ℕ × W
    entered_by entry = (one.to entry.0, f entry.1)

    pub at-by : (n : ℕ) (table : List (ℕ × V)) → at (one.to n) (map entered_by table) ≡ option_map f (at n table)
    at-by n table =
        ap (option_map (λ (entry : ℕ × W). entry.1))
        (find-by entered_by (λ (entry : ℕ × W). entry.0 == one.to n) (λ (entry : ℕ × V). entry.0 == n)
        (λ entry. same-to entry.0 n) table)
        ∙ option-swap entered_by (λ (entry : ℕ × W). entry.1) (λ (entry : ℕ × V). entry.1) f (λ entry. refl)
        (find (λ (entry : ℕ × V). entry.0 == n) table)

    pub changed-by : (n : ℕ) (v : V) (table : List (ℕ × V)) → changed (one.to n) (f v) (map entered_by table)
        ≡ map entered_by (changed n v table)
    changed-by n v table =
        map-swap entered_by (λ (entry : ℕ × W). cond (entry.0 == one.to n) (one.to n, f v) entry)
        (λ (entry : ℕ × V). cond (entry.0 == n) (n, v) entry) entered_by
        (λ entry. ap (λ (b : Bool). cond b (one.to n, f v) (one.to entry.0, f entry.1)) (same-to entry.0 n)
        ∙ cond-of entered_by (entry.0 == n) (n, v) entry) table

    pub removed-by : (n : ℕ) (table : List (ℕ × V)) → removed (one.to n) (map entered_by table) ≡ map entered_by (removed n table)
    removed-by n table =
        filter-by entered_by (λ (entry : ℕ × W). not (entry.0 == one.to n)) (λ (entry : ℕ × V). not (entry.0 == n))
        (λ entry. ap not (same-to entry.0 n)) table

-- ---- a service

module _ (by : Numberings) where
  -- the same numberings, one way
  abbrev pub renaming_of : Renaming
  renaming_of = record {
    factories = by.factories.to;
    publishers = by.publishers.to;
    subscribers = by.subscribers.to;
    loans = by.loans.to;
    samples = by.samples.to;
  }

  -- a subscriber of which all that it names goes by another number
  abbrev pub other_subscriber : Subscriber → Subscriber
  other_subscriber subscriber = renumbered_subscriber renaming_of subscriber

  -- the subscriber of a number, by another
  abbrev pub subscriber_entry : ℕ × Subscriber → ℕ × Subscriber
  subscriber_entry entry = entered_by by.subscribers other_subscriber entry

module _ {T : Type 0} (by : Numberings) where
  -- the reply that tells the other number
  abbrev pub other_reply : Reply T → Reply T
  other_reply answer = renamed_reply (renaming_of by) answer

  -- what may be chosen for ports by their other numbers
  abbrev pub other_choices : Choices T → Choices T
  other_choices choices = renumbered_choices (renaming_of by) choices

  pub refused-by : {S : Type 0} (f : S → S) (why : Refusal) (old : S) (answer : Reply T) (new : S) → IsRefused why old answer new
      → IsRefused why (f old) (other_reply answer) (f new)
  refused-by f why old answer new (told, same) = (ap other_reply told, ap f same)

  pub skipped-by : {S : Type 0} (f : S → S) (old : S) (answer : Reply T) (new : S) → IsSkipped old answer new
      → IsSkipped (f old) (other_reply answer) (f new)
  skipped-by f old answer new (told, same) = (ap other_reply told, ap f same)

  -- a send in progress to subscribers that go by other numbers
  abbrev pub other_send : Send T → Send T
  other_send send = renumbered_send (renaming_of by) send

  -- a publisher of which all that it names goes by another number
  abbrev pub other_publisher : Publisher T → Publisher T
  other_publisher publisher = renumbered_publisher (renaming_of by) publisher

  -- so a loan
  abbrev pub other_loan : Loan T → Loan T
  other_loan loan = renumbered_loan (renaming_of by) loan

  -- so a sample
  abbrev pub other_sample : Sample T → Sample T
  other_sample sample = renumbered_sample (renaming_of by) sample

  -- the publisher of a number, by another
  abbrev pub publisher_entry : ℕ × Publisher T → ℕ × Publisher T
  publisher_entry entry = entered_by by.publishers other_publisher entry

  abbrev pub loan_entry : ℕ × Loan T → ℕ × Loan T
  loan_entry entry = entered_by by.loans other_loan entry

  abbrev pub sample_entry : ℕ × Sample T → ℕ × Sample T
  sample_entry entry = entered_by by.samples other_sample entry

  -- a service in which all goes by other numbers
  abbrev pub other_service : Service T → Service T
  other_service service = record {
    name = service.name;
    settings = service.settings;
    publisher_list = listed by.publishers service.publisher_list;
    subscriber_list = listed by.subscribers service.subscriber_list;
    publishers = map publisher_entry service.publishers;
    subscribers = map (subscriber_entry by) service.subscribers;
    mailboxes = λ publisher subscriber. service.mailboxes (by.publishers.from publisher) (by.subscribers.from subscriber);
    loans = map loan_entry service.loans;
    samples = map sample_entry service.samples;
  }

  pub publisher-by : (number : ℕ) (publisher : Publisher T) (service : Service T)
      → with_publisher (by.publishers.to number) (other_publisher publisher) (other_service service)
      ≡ other_service (with_publisher number publisher service)
  publisher-by number publisher service =
      ap (λ (list : List (ℕ × Publisher T)). record (other_service service) { publishers = list })
      (changed-by by.publishers other_publisher number publisher service.publishers)

  pub subscriber-by : (number : ℕ) (subscriber : Subscriber) (service : Service T)
      → with_subscriber (by.subscribers.to number) (other_subscriber by subscriber) (other_service service)
      ≡ other_service (with_subscriber number subscriber service)
  subscriber-by number subscriber service =
      ap (λ (list : List (ℕ × Subscriber)). record (other_service service) { subscribers = list })
      (changed-by by.subscribers (other_subscriber by) number subscriber service.subscribers)

  pub box-by : (publisher subscriber : ℕ) (service : Service T)
      → (other_service service).mailboxes (by.publishers.to publisher) (by.subscribers.to subscriber)
      ≡ service.mailboxes publisher subscriber
  box-by publisher subscriber service = ap₂ service.mailboxes (by.publishers.back publisher) (by.subscribers.back subscriber)

  pub mailbox-by : (publisher subscriber : ℕ) (service : Service T)
      → mailbox (by.publishers.to publisher) (by.subscribers.to subscriber) (other_service service) ≡ mailbox publisher subscriber service
  mailbox-by publisher subscriber service =
      ap (λ (box : Option (Mailbox T)). unwrap_or box (record { limit = 0; waiting = []; borrowed = [] }))
      (box-by publisher subscriber service)

  pub boxed-by : (publisher subscriber : ℕ) (box : Mailbox T) (service : Service T)
      → with_mailbox (by.publishers.to publisher) (by.subscribers.to subscriber) box (other_service service)
      ≡ other_service (with_mailbox publisher subscriber box service)
  boxed-by publisher subscriber box service = λ i. record (other_service service) {
    mailboxes = λ one other. cond ((same-from by.publishers one publisher i) && (same-from by.subscribers other subscriber i)) (Some box)
        (service.mailboxes (by.publishers.from one) (by.subscribers.from other));
  }

  pub connect-by : (limit publisher subscriber : ℕ) (service : Service T)
      → connect limit (by.publishers.to publisher) (by.subscribers.to subscriber) (other_service service)
      ≡ other_service (connect limit publisher subscriber service)
  connect-by limit publisher subscriber service =
      ap₂ (λ (box : Option (Mailbox T)) (met : Service T). cond (is_some box) (other_service service) met)
      (box-by publisher subscriber service)
      (boxed-by publisher subscriber (record { limit = limit; waiting = []; borrowed = [] }) service)
      ∙ cond-of other_service (is_some (service.mailboxes publisher subscriber)) service
      (with_mailbox publisher subscriber (record { limit = limit; waiting = []; borrowed = [] }) service)

  -- So services are the others but for these numbers.
  pub renumbered : (services : List (Service T)) → AreRenumbered (renaming_of by) services (map other_service services)
  renumbered [] = tt
  renumbered (service ∷ more) = (
    (refl, refl, refl, refl, refl, refl, refl, refl, λ publisher subscriber. box-by publisher subscriber service),
    renumbered more,
  )
