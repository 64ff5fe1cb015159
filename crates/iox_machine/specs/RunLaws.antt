-- Theorems about every run of the machine: sizes, messages, samples, and commands that change nothing.
use Rattle.std.specs.Prelude.{ℕ, ◌+◌, ◌*◌, ◌^◌, ◌≡◌, ◌<◌, ◌≤◌, ◌⊎◌, Bool, true, false, min, max, List, [], ◌∷◌, length, filter_map}
use Rattle.std.specs.Prelude.{find, is_some, None, Some, unwrap_or}
use Rattle.std.specs.Global.{Vec}
use Rattle.std.specs.List.{AllByRecursion, list_all}
use Rattle.std.specs.Vec.{vec_items}
use Rattle.iox_machine.specs.Choices.{Choices}
use Rattle.iox_machine.specs.Mailbox.{Mailbox}
use Rattle.iox_machine.specs.Message.{Message, Loan}
use Rattle.iox_machine.specs.Phase.{Phase}
use Rattle.iox_machine.specs.PortList.{those}
use Rattle.iox_machine.specs.Run.{Step, Runs}
use Rattle.iox_machine.specs.Service.{Publisher, Service}
use Rattle.iox_machine.specs.State.{State, new_state, with_phase}
use Rattle.iox_machine.specs.Table.{at}
use Rattle.iox_command.specs.DomainValues.Sequences.{next_sequence}
use Rattle.iox_command.specs.DomainValues.declared.port_error.SendError.TheVariants as error
use Rattle.iox_command.specs.NegotiateBase.DescribeBase.declared.message_type.MessageTypeDetails.{MessageTypeDetails}
use Rattle.iox_command.specs.NegotiateBase.DescribeBase.declared.pattern.MessagingPattern.{MessagingPattern}
use Rattle.iox_command.specs.NegotiateBase.DescribeSettings.declared.static_config.publish_subscribe.StaticConfig.{StaticConfig}
use Rattle.iox_command.specs.Patterns.{pattern_of}
use Rattle.iox_command.specs.declared.command.Command.{Command}
use Rattle.iox_command.specs.declared.command.Command.TheVariants as command
use Rattle.iox_command.specs.declared.port.PublisherOptions.{PublisherOptions}
use Rattle.iox_command.specs.declared.refusal.Refusal.{Refusal}
use Rattle.iox_command.specs.declared.refusal.Refusal.TheVariants as refusal
use Rattle.iox_command.specs.declared.reply.Reply.{Reply}
use Rattle.iox_command.specs.declared.reply.Reply.TheVariants as reply

-- Whether a reply says that a send began: it is blocked, or delivered, or couldn't deliver at a full mailbox.
abbrev pub has_begun : {T : Type 0} → Reply T → Bool
has_begun reply.Blocked = true
has_begun (reply.Delivered count) = true
has_begun (reply.Refused (refusal.Send error.UnableToDeliver)) = true
has_begun other = false

-- Whether each value of a loan is written.
abbrev pub is_written : {T : Type 0} → Loan T → Bool
is_written loan = list_all is_some loan.values

-- The message that a written loan becomes when it is sent, before the send gives it a sequence number.
abbrev pub sent_as : {T : Type 0} → Loan T → Message T
sent_as loan = record { number = loan.number; sequence = None; values = filter_map (λ value. value) loan.values }

-- The message with the publisher's next sequence number, if its service numbers messages.
abbrev pub numbered : {T : Type 0} → Publisher T → Message T → Message T
numbered publisher message = record message { sequence = next_sequence publisher.last_sequence }

-- The command began the send of a message with these values by this publisher.
abbrev pub BeginsToSend : {T : Type 0} → ℕ → List T → Command T → State T → Reply T → Type 0
BeginsToSend publisher values (command.Put number given) old answer = (number ≡ publisher) × (given ≡ values) × (has_begun answer ≡ true)
BeginsToSend {T} publisher values (command.Send loan) old answer =
    (service : Service T) × (one : Loan T) × (find (λ other. is_some (at loan other.loans)) old.services ≡ Some service)
    × (at loan service.loans ≡ Some one) × (one.publisher ≡ publisher) × (is_written one ≡ true) × ((sent_as one).values ≡ values)
    × (has_begun answer ≡ true)
BeginsToSend publisher values other old answer = ⊥

-- Whether the command changes nothing if it is refused: it neither negotiates, nor does actions of other nodes, nor updates connections
-- first.
abbrev pub is_refused_whole : {T : Type 0} → Command T → Bool
is_refused_whole command.Node = true
is_refused_whole (command.Close factory) = true
is_refused_whole (command.Publisher factory options) = true
is_refused_whole (command.Subscriber factory options) = true
is_refused_whole (command.Loan publisher count) = true
is_refused_whole (command.LoanUninit publisher count) = true
is_refused_whole other = false

-- `Is` holds of each message that waits, is borrowed, is kept as history, or is held as a sample, with its publisher.
abbrev pub AllMessages : {T : Type 0} → (ℕ → Message T → Type 0) → Service T → Type 0
AllMessages {T} Is service =
    ((publisher subscriber : ℕ) (box : Mailbox T) → service.mailboxes publisher subscriber ≡ Some box
    → AllByRecursion (Is publisher) box.waiting × AllByRecursion (Is publisher) box.borrowed)
    × AllByRecursion (λ entry. AllByRecursion (Is entry.0) entry.1.history) service.publishers
    × AllByRecursion (λ entry. Is entry.1.publisher entry.1.message) service.samples

-- The command created the publisher with this number, and named these options for it.
abbrev pub ComesAs : {T : Type 0} → ℕ → PublisherOptions → Command T → Reply T → Type 0
ComesAs number options (command.Publisher factory named) answer = (named ≡ options) × (answer ≡ reply.PublisherMade number)
ComesAs number options other answer = ⊥

-- The publisher's loan limit is the named one, or 2. At most `most` of its messages can be in use at once: for each subscriber those that
-- may wait and those that may be borrowed, the history, and the loans. It has that many slots, or as many as were named if these are fewer,
-- but at least 1.
abbrev pub IsSizedAs : {T : Type 0} → PublisherOptions → StaticConfig → Publisher T → Type 0
IsSizedAs options settings publisher =
    let loans = unwrap_or options.max_loaned_samples 2 in
    let most = settings.max_subscribers * (settings.subscriber_max_buffer_size + settings.subscriber_max_borrowed_samples) +
    (settings.history_size + loans) in
    (publisher.max_loaned_samples ≡ loans) × (publisher.slots ≡ max 1 (min most (unwrap_or options.preallocated_samples most)))

-- No more messages wait, are borrowed or are kept as history than the settings of the service allow, and no more publishers and subscribers
-- are listed. The lists have exactly as many places, and each publisher is sized by these settings and by the options named for it.
abbrev pub IsWithinSizes : {T : Type 0} → (ℕ → PublisherOptions → Type 0) → Service T → Type 0
IsWithinSizes {T} Named service =
    ((publisher subscriber : ℕ) (box : Mailbox T) → service.mailboxes publisher subscriber ≡ Some box
    → (length box.waiting ≤ box.limit) × (box.limit ≤ service.settings.subscriber_max_buffer_size)
    × (length box.borrowed ≤ service.settings.subscriber_max_borrowed_samples))
    × AllByRecursion (λ entry. length entry.1.history ≤ service.settings.history_size) service.publishers
    × AllByRecursion (λ entry. entry.1.buffer_size ≤ service.settings.subscriber_max_buffer_size) service.subscribers
    × (length (those service.publisher_list.places) ≤ service.settings.max_publishers)
    × (length (those service.subscriber_list.places) ≤ service.settings.max_subscribers)
    × (length service.publisher_list.places ≡ service.settings.max_publishers)
    × (length service.subscriber_list.places ≡ service.settings.max_subscribers)
    × AllByRecursion (λ entry. (options : PublisherOptions) × Named entry.0 options × IsSizedAs options service.settings entry.1)
    service.publishers

-- The command is one for the service of this pattern and name: it creates or opens the service, or has other nodes do actions there.
abbrev pub IsCallFor : {T : Type 0} → MessagingPattern → List ℕ → Command T → Type 0
IsCallFor pattern name (command.Create node other options attributes steps) = (pattern_of options ≡ pattern) × (other ≡ name)
IsCallFor pattern name (command.Open node other options required steps) = (pattern_of options ≡ pattern) × (other ≡ name)
IsCallFor pattern name (command.OpenOrCreate node other options required steps) = (pattern_of options ≡ pattern) × (other ≡ name)
IsCallFor pattern name (command.Foreign one other steps) = (one ≡ pattern) × (other ≡ name)
IsCallFor pattern name other = ⊥

module _ {T : Type 0} (types : MessageTypeDetails) (choices : Choices T) (buffer : ℕ) where
  -- In the run, the send of a message with these values by this publisher began.
  abbrev pub Began : ℕ → List T → (asked : List (Command T)) (old : State T) (answers : List (Reply T)) (new : State T)
      → Runs types choices buffer asked old answers new → Type 0
  Began publisher values [] old answers new run = ⊥
  Began publisher values (one ∷ more) old answers new run =
      BeginsToSend publisher values one old run.0 ⊎ Began publisher values more run.1 run.2 new run.4

  -- In the run, the publisher with this number was created, and these options were named for it.
  abbrev pub CameAs : ℕ → PublisherOptions → (asked : List (Command T)) (old : State T) (answers : List (Reply T)) (new : State T)
      → Runs types choices buffer asked old answers new → Type 0
  CameAs number options [] old answers new run = ⊥
  CameAs number options (one ∷ more) old answers new run =
      ComesAs number options one run.0 ⊎ CameAs number options more run.1 run.2 new run.4

module _ {T : Type 0} (choices : Choices T) where
  -- A command that is skipped changes nothing.
  abbrev pub SkippedChangesNothing : Type 0
  SkippedChangesNothing = (types : MessageTypeDetails) (buffer : ℕ) (asked : Command T) (old new : State T)
      → Step types choices buffer asked old reply.Skipped new → new ≡ old

  -- A refused command changes nothing, if it is one of those without negotiation, actions of other nodes and updates (`is_refused_whole`).
  abbrev pub RefusedChangesNothing : Type 0
  RefusedChangesNothing = (types : MessageTypeDetails) (buffer : ℕ) (asked : Command T) (old new : State T) (why : Refusal)
      → is_refused_whole asked ≡ true → Step types choices buffer asked old (reply.Refused why) new → new ≡ old

  -- A refused creation, opening or action of other nodes changes at most the phase of its pattern and name: all factories, services and
  -- counts stay.
  abbrev pub RefusedCallsLeaveServices : Type 0
  RefusedCallsLeaveServices = (types : MessageTypeDetails) (buffer : ℕ) (pattern : MessagingPattern) (name : List ℕ) (asked : Command T)
      (old new : State T) (why : Refusal)
      → IsCallFor pattern name asked → Step types choices buffer asked old (reply.Refused why) new
      → (new ≡ old) ⊎ ((phase : Phase) × (new ≡ with_phase pattern name phase old))

  -- In every run of a new machine, what each service uses is within the sizes of its settings. Its lists have as many places as the
  -- settings say. Its publishers have the number of slots and the loan limit that the settings and their commands say.
  abbrev pub SizesAreAgreed : Type 0
  SizesAreAgreed = (types : MessageTypeDetails) (buffer : ℕ) (asked : List (Command T)) (answers : List (Reply T)) (new : State T)
      (run : Runs types choices buffer asked new_state answers new)
      → AllByRecursion (IsWithinSizes (λ number options. CameAs types choices buffer number options asked new_state answers new run))
      new.services

  -- In every run of a new machine, each message that waits, is borrowed, is kept or is held has the values with which its publisher began
  -- to send it.
  abbrev pub MessagesWereSent : Type 0
  MessagesWereSent = (types : MessageTypeDetails) (buffer : ℕ) (asked : List (Command T)) (answers : List (Reply T)) (new : State T)
      (run : Runs types choices buffer asked new_state answers new)
      → AllByRecursion
      (AllMessages (λ publisher message. Began types choices buffer publisher message.values asked new_state answers new run))
      new.services

  -- In every run of a new machine, each message that waits, is borrowed, is kept or is held has fewer than 2^32 values. So the values of
  -- each message fit in a vector.
  abbrev pub MessagesAreShort : Type 0
  MessagesAreShort = (types : MessageTypeDetails) (buffer : ℕ) (asked : List (Command T)) (answers : List (Reply T)) (new : State T)
      → Runs types choices buffer asked new_state answers new
      → AllByRecursion (AllMessages (λ publisher message. length message.values < 2 ^ 32)) new.services

  -- A sample reads the values with which it was received, whatever commands come between.
  abbrev pub SamplesReadTheSame : Type 0
  SamplesReadTheSame = (types : MessageTypeDetails) (buffer : ℕ) (asked : List (Command T)) (answers : List (Reply T)) (old : State T)
      → Runs types choices buffer asked new_state answers old
      → (subscriber sample : ℕ) (values : Vec T) (mid : State T)
      → Step types choices buffer (command.Receive subscriber) old (reply.Received sample values) mid
      → (meanwhile : List (Command T)) (told : List (Reply T)) (later : State T) → Runs types choices buffer meanwhile mid told later
      → (read : Vec T) (new : State T) → Step types choices buffer (command.Read sample) later (reply.Values read) new
      → vec_items read ≡ vec_items values
