-- What a step does at a service: moves, each of one of these forms. A loud one is told by the command and its answer, or counted by a law;
-- a quiet one isn't.
use Rattle.iox_command.specs.declared.port.PublisherOptions.{PublisherOptions}
use Rattle.iox_command.specs.declared.port.SubscriberOptions.{SubscriberOptions}
use Rattle.iox_machine.specs.Arriving.{new_publisher, new_subscriber}
use Rattle.std.proofs.Common.{◌<◌, ◌≤◌, length, ◌≡◌, ◌⊎◌, ◌+◌, ◌^◌, ℕ, Bool, true, false, cond, ◌&&◌, ◌||◌, List, [], ◌∷◌, ◌++◌, Option}
use Rattle.std.proofs.Common.{None, Some}
use Rattle.std.specs.List.{list_any}
use Rattle.std.specs.Prelude.{◌==◌, slice_get}
use Rattle.iox_machine.proofs.Shorthands.{given_back, left, registered, taken, with_publisher, with_subscriber}
use Rattle.iox_machine.proofs.Counts.{one_if}
use Rattle.iox_machine.proofs.Delivering.{keeping, sending}
use Rattle.iox_machine.specs.UseLaws.{IsOpen}
use Rattle.iox_machine.specs.Lending as lending
use Rattle.iox_machine.specs.Mailbox.{Mailbox, put}
use Rattle.iox_machine.specs.Message.{Loan, Message, Sample}
use Rattle.iox_machine.specs.PublisherUpdate as publishing
use Rattle.iox_machine.specs.SubscriberUpdate as subscribing
use Rattle.iox_machine.specs.RunLaws.{numbered}
use Rattle.iox_machine.specs.Service.{Publisher, Send, Service, Subscriber, mailbox, with_mailbox}
use Rattle.iox_machine.specs.State.{Factory}
use Rattle.iox_machine.specs.Table.{at, changed, removed}

pub data Quiet (T : Type 0) : Type 0 where
  -- of a send of a publisher that is under way: it is tried again; the mailbox of the next subscriber takes its message, or is full and
  -- is passed over, and the others are left; and it is over
  Retries : ℕ → Publisher T → Send T → ℕ → Quiet T
  Puts : ℕ → Publisher T → Send T → ℕ → List ℕ → Mailbox T → Quiet T
  Passes : ℕ → Publisher T → Send T → ℕ → List ℕ → Bool → Quiet T
  Concludes : ℕ → Publisher T → Quiet T
  -- a publisher brings its connections up to date
  Follows : ℕ → Publisher T → Publisher T → Quiet T
  -- so does a subscriber, or connections of it that expired end
  Attends : ℕ → ℕ → Subscriber → Subscriber → Quiet T
  Sweeps : ℕ → Subscriber → List ℕ → Quiet T

pub data Loud (T : Type 0) : Type 0 where
  -- a publisher lends a loan; or takes the number of its next message alone, to put that
  Lends : ℕ → Publisher T → Publisher T → ℕ → Loan T → Loud T
  Numbers : ℕ → Publisher T → Publisher T → Loud T
  -- a loan is written, or is out no longer
  Writes : ℕ → Loan T → List (Option T) → Loud T
  Spends : ℕ → Loan T → Loud T
  -- a send of a message begins
  Begins : ℕ → Publisher T → Message T → Loud T
  -- a sample is taken, or released
  Takes : ℕ → Sample T → Loud T
  Releases : ℕ → Sample T → Loud T
  -- a port comes, or leaves
  Publishes : ℕ → ℕ → PublisherOptions → Publisher T → Publisher T → Loud T
  Subscribes : ℕ → ℕ → ℕ → SubscriberOptions → Subscriber → Subscriber → Loud T
  Unpublishes : ℕ → Publisher T → Loud T
  Unsubscribes : ℕ → Subscriber → Loud T

-- a subscriber but for what it follows
abbrev pub IsTurned : Subscriber → Subscriber → Type 0
IsTurned was after =
    after ≡ record was { seen = after.seen; again = after.again; connected = after.connected; expired = after.expired }

module _ {T : Type 0} where
  -- a publisher with one number more taken, maybe from a new segment
  abbrev pub IsNumbered : Publisher T → Publisher T → Type 0
  IsNumbered was after =
      (room : ℕ) × (segments : ℕ) × (first : ℕ)
      × (((room ≡ was.room) × (segments ≡ was.segments)) ⊎ ((segments ≡ was.segments + 1) × (room < 2 ^ 32)))
      × (after ≡ record was { room = room; segments = segments; first = first; next = was.next + 1 })

  -- a publisher but for what it follows
  abbrev pub IsFollowing : Publisher T → Publisher T → Type 0
  IsFollowing was after = after ≡ record was { seen = after.seen; connected = after.connected }

  -- the send of a publisher stands so
  abbrev pub with_send : ℕ → Publisher T → Option (Send T) → Service T → Service T
  with_send number one blocked service = with_publisher number (record one { blocked = blocked }) service

  abbrev pub IsSending : ℕ → Publisher T → Send T → Service T → Type 0
  IsSending number one send service = (at number service.publishers ≡ Some one) × (one.blocked ≡ Some send)

  abbrev pub Quietly : Quiet T → Service T → Service T → Type 0
  Quietly (Retries number one send elapsed) old new =
      IsSending number one send old
      × (new ≡ with_send number one (Some (record send { retries = send.retries + 1; elapsed = elapsed })) old)
  Quietly (Puts number one send subscriber more box) old new =
      IsSending number one send old × (send.left ≡ subscriber ∷ more)
      × (put old.settings.enable_safe_overflow send.message (mailbox number subscriber old) ≡ Some box)
      × (new ≡ with_mailbox number subscriber box (with_send number one
      (Some (record send { left = more; retries = 0; elapsed = 0; delivered = send.delivered + 1 })) old))
  Quietly (Passes number one send subscriber more fails) old new =
      IsSending number one send old × (send.left ≡ subscriber ∷ more)
      × (put old.settings.enable_safe_overflow send.message (mailbox number subscriber old) ≡ None)
      × (new ≡ with_send number one (Some (record send { left = more; retries = 0; elapsed = 0; fails = fails })) old)
  Quietly (Concludes number one) old new = (at number old.publishers ≡ Some one) × (new ≡ with_send number one None old)
  Quietly (Follows number was after) old new =
      ((at number old.publishers ≡ Some was) × (was.blocked ≡ None)) × publishing.Follows number was old after new × IsFollowing was after
      × (new ≡ record (with_publisher number after old) { mailboxes = new.mailboxes })
  Quietly (Attends buffer number was after) old new =
      (at number old.subscribers ≡ Some was) × subscribing.Follows buffer number was old after new × IsTurned was after
      × (new ≡ record (with_subscriber number after old) { mailboxes = new.mailboxes })
  Quietly (Sweeps number was expired) old new =
      (at number old.subscribers ≡ Some was) × (new ≡ with_subscriber number (record was { expired = expired }) old)

  abbrev pub Loudly : List (ℕ × Factory) → Loud T → Service T → Service T → Type 0
  Loudly factories (Lends number was after loan one) old new =
      (at number old.publishers ≡ Some was) × (was.stands ≡ true)
      × (IsNumbered was after × ((count : ℕ) × lending.Lends number count was old None after × (length one.values ≡ count)))
      × (one.publisher ≡ number) × (one.number ≡ was.next)
      × (new ≡ record (with_publisher number after old) { loans = old.loans ++ (loan, one) ∷ [] })
  Loudly factories (Numbers number was after) old new =
      (at number old.publishers ≡ Some was) × IsNumbered was after × (new ≡ with_publisher number after old)
  Loudly factories (Writes loan one values) old new =
      (at loan old.loans ≡ Some one) × (new ≡ record old { loans = changed loan (record one { values = values }) old.loans })
  Loudly factories (Spends loan one) old new =
      (at loan old.loans ≡ Some one) × (new ≡ record old { loans = removed loan old.loans })
  Loudly factories (Begins number one message) old new =
      (at number old.publishers ≡ Some one) × (one.blocked ≡ None)
      × (new ≡ with_send number (keeping message one old) (Some (sending message one)) old)
  Loudly factories (Takes number sample) old new =
      ((one : Subscriber) × (at sample.subscriber old.subscribers ≡ Some one) × (one.stands ≡ true))
      × ((slice_get (mailbox sample.publisher sample.subscriber old).waiting 0 ≡ Some sample.message)
      × (length (mailbox sample.publisher sample.subscriber old).borrowed < old.settings.subscriber_max_borrowed_samples))
      × (new ≡ with_mailbox sample.publisher sample.subscriber (taken (mailbox sample.publisher sample.subscriber old))
      (record old { samples = old.samples ++ (number, sample) ∷ [] }))
  Loudly factories (Releases number sample) old new =
      (at number old.samples ≡ Some sample)
      × (new ≡ with_mailbox sample.publisher sample.subscriber
      (given_back sample.message.number (mailbox sample.publisher sample.subscriber old))
      (record old { samples = removed number old.samples }))
  Loudly factories (Publishes place number options one after) old new =
      IsOpen factories old.name one.factory
      × (((one ≡ new_publisher one.factory options old.settings) × (one.room < 2 ^ 32))
      × (slice_get old.publisher_list.places place ≡ Some None)
      × (mid : Service T) × publishing.Follows number one (record old { publishers = old.publishers ++ (number, one) ∷ [] }) after mid
      × (new ≡ record mid { publisher_list = registered place number mid.publisher_list }))
      × IsFollowing one after
      × (new ≡ record old {
        publishers = changed number after (old.publishers ++ (number, one) ∷ []);
        publisher_list = registered place number old.publisher_list;
        mailboxes = new.mailboxes;
      })
  Loudly factories (Subscribes buffer place number options one after) old new =
      IsOpen factories old.name one.factory
      × ((one ≡ new_subscriber one.factory options old.settings) × (one.buffer_size ≤ old.settings.subscriber_max_buffer_size)
      × (slice_get old.subscriber_list.places place ≡ Some None) × (mid : Service T)
      × subscribing.Follows buffer number one (record old { subscribers = old.subscribers ++ (number, one) ∷ [] }) after mid
      × (new ≡ record mid { subscriber_list = registered place number mid.subscriber_list }))
      × IsTurned one after
      × (new ≡ record old {
        subscribers = changed number after (old.subscribers ++ (number, one) ∷ []);
        subscriber_list = registered place number old.subscriber_list;
        mailboxes = new.mailboxes;
      })
  Loudly factories (Unpublishes number one) old new =
      (at number old.publishers ≡ Some one)
      × (new ≡ with_publisher number (record one { stands = false })
      (record old { publisher_list = left number old.publisher_list }))
  Loudly factories (Unsubscribes number one) old new =
      (at number old.subscribers ≡ Some one)
      × (new ≡ with_subscriber number (record one { stands = false })
      (record old { subscriber_list = left number old.subscriber_list }))

  -- Quiet moves, one after the other.
  abbrev pub Done : List (Quiet T) → Service T → Service T → Type 0
  Done [] old new = new ≡ old
  Done (one ∷ more) old new = (mid : Service T) × Quietly one old mid × Done more mid new

  abbrev pub Quiets : Service T → Service T → Type 0
  Quiets old new = (moves : List (Quiet T)) × Done moves old new

  -- These loud moves, with quiet ones before, between and behind them.
  abbrev pub Walk : List (ℕ × Factory) → List (Loud T) → Service T → Service T → Type 0
  Walk factories [] old new = Quiets old new
  Walk factories (one ∷ more) old new =
      (before : Service T) × (after : Service T) × Quiets old before × Loudly factories one before after × Walk factories more after new

  -- ---- what loud moves tell

  -- the message of which the send begins, if it is one of this publisher
  abbrev pub begun_of : ℕ → List (Loud T) → Option (Message T)
  begun_of p [] = None
  begun_of p (Begins number one message ∷ more) = cond (number == p) (Some (numbered one message)) None
  begun_of p (other ∷ more) = begun_of p more

  -- one, if it is the message of this number
  abbrev pub if_it : ℕ → Option (Message T) → ℕ
  if_it n None = 0
  if_it n (Some message) = one_if (message.number == n)

  -- what moves weigh together
  abbrev pub sum_of : (Loud T → ℕ) → List (Loud T) → ℕ
  sum_of weight [] = 0
  sum_of weight (one ∷ more) = weight one + sum_of weight more

  -- one, if a message of a publisher goes out of hand: its number is taken alone, or its loan is spent
  abbrev pub gone : ℕ → ℕ → Loud T → ℕ
  gone p n (Numbers number was after) = one_if ((number == p) && (was.next == n))
  gone p n (Spends loan one) = one_if ((one.publisher == p) && (one.number == n))
  gone p n other = 0

  -- one, if a publisher comes
  abbrev pub came : ℕ → Loud T → ℕ
  came p (Publishes place number options one after) = one_if (number == p)
  came p other = 0

  abbrev pub gone_of : ℕ → ℕ → List (Loud T) → ℕ
  gone_of p n = sum_of (gone p n)

  abbrev pub came_of : ℕ → List (Loud T) → ℕ
  came_of p = sum_of (came p)

  -- whether a sample is released
  abbrev pub releases : ℕ → Loud T → Bool
  releases sample (Releases number one) = number == sample
  releases sample other = false

  abbrev pub releases_of : ℕ → List (Loud T) → Bool
  releases_of sample = list_any (releases sample)

  -- whether a send begins, and whether one does before other moves
  abbrev pub is_begin : Loud T → Bool
  is_begin (Begins number one message) = true
  is_begin other = false

  abbrev pub begins_early : List (Loud T) → Bool
  begins_early [] = false
  begins_early (one ∷ []) = false
  begins_early (one ∷ two ∷ more) = is_begin one || begins_early (two ∷ more)

  -- whether a port comes or leaves
  abbrev pub is_port : Loud T → Bool
  is_port (Publishes place number options one after) = true
  is_port (Subscribes buffer place number options one after) = true
  is_port (Unpublishes number one) = true
  is_port (Unsubscribes number one) = true
  is_port other = false

  abbrev pub has_port : List (Loud T) → Bool
  has_port = list_any is_port

  -- whether a move writes a loan, and whether one does behind others
  abbrev pub is_write : Loud T → Bool
  is_write (Writes loan one values) = true
  is_write other = false

  abbrev pub writes_late : List (Loud T) → Bool
  writes_late [] = false
  writes_late (one ∷ more) = list_any is_write more
