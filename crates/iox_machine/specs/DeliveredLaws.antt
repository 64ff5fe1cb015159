-- What a send reports: how many mailboxes took its message, which it went past, and at which subscriber it is blocked.
use Rattle.std.specs.Prelude.{ℕ, ◌+◌, ◌≡◌, ◌⊎◌, Bool, true, false, ◌&&◌, ◌||◌, ◌==◌, nat_lt, List, [], ◌∷◌, ◌++◌, length, filter, find}
use Rattle.std.specs.Prelude.{None, Some, is_some, unwrap_or, Option, if◌then◌else◌}
use Rattle.std.specs.Option.{option_map_or}
use Rattle.iox_machine.specs.Choices.{Choices}
use Rattle.iox_machine.specs.Mailbox.{newest, put}
use Rattle.iox_machine.specs.Message.{Message}
use Rattle.iox_machine.specs.OnceLaws.{is_skipped}
use Rattle.iox_machine.specs.PortList.{those}
use Rattle.iox_machine.specs.Ports.{publisher_in}
use Rattle.iox_machine.specs.RefusalLaws.{IsSentBy, KeepsMessages, KeepsPorts, is_sending, loans_left}
use Rattle.iox_machine.specs.Run.{Runs, Step}
use Rattle.iox_machine.specs.RunLaws.{numbered}
use Rattle.iox_machine.specs.Service.{Publisher, Send, Service, mailbox}
use Rattle.iox_machine.specs.State.{State, new_state, replaced}
use Rattle.iox_machine.specs.Table.{at, changed, contains}
use Rattle.iox_command.specs.DomainValues.Actions.{decision_of}
use Rattle.iox_command.specs.DomainValues.Sequences.{next_sequence}
use Rattle.iox_command.specs.DomainValues.declared.backpressure.BackpressureDecision.{BackpressureDecision}
use Rattle.iox_command.specs.DomainValues.declared.backpressure.BackpressureDecision.TheVariants.{Retry, DiscardData, DiscardDataAndFail}
use Rattle.iox_command.specs.DomainValues.declared.port_error.SendError.TheVariants as error
use Rattle.iox_command.specs.NegotiateBase.DescribeBase.declared.message_type.MessageTypeDetails.{MessageTypeDetails}
use Rattle.iox_command.specs.declared.command.Command.{Command}
use Rattle.iox_command.specs.declared.command.Command.TheVariants as command
use Rattle.iox_command.specs.declared.refusal.Refusal.TheVariants as refusal
use Rattle.iox_command.specs.declared.reply.Reply.{Reply}
use Rattle.iox_command.specs.declared.reply.Reply.TheVariants as reply

-- The number of retries, or the waiting time, with which it is decided at a subscriber what the send does: the counted one if the send is
-- still at the subscriber where it was, and 0 if it has passed others since.
abbrev pub counted_at : List ℕ → ℕ → ℕ
counted_at [] count = count
counted_at (subscriber ∷ more) count = 0

-- Whether the reply says that a send was delivered, that it couldn't be delivered to all, or that it is blocked.
abbrev pub is_going : {T : Type 0} → Reply T → Bool
is_going (reply.Delivered count) = true
is_going (reply.Refused (refusal.Send error.UnableToDeliver)) = true
is_going reply.Blocked = true
is_going other = false

module _ {T : Type 0} where
  -- Whether the mailbox of a publisher and a subscriber takes a message: with safe overflow each does, otherwise one in which fewer wait
  -- than may.
  abbrev pub takes_more : Service T → ℕ → ℕ → Bool
  takes_more service publisher subscriber =
      service.settings.enable_safe_overflow
      || nat_lt (length (mailbox publisher subscriber service).waiting) (mailbox publisher subscriber service).limit

  -- How many mailboxes of the publisher and of one of these subscribers take a message.
  abbrev pub takers : Service T → ℕ → List ℕ → ℕ
  takers service publisher subscribers = length (filter (takes_more service publisher) subscribers)

  -- A publisher's message was offered to these subscribers: each mailbox that takes one has it now, and all other mailboxes are as before.
  abbrev pub IsOffered : ℕ → Message T → List ℕ → Service T → Service T → Type 0
  IsOffered number message subscribers old new = (publisher subscriber : ℕ) → mailbox publisher subscriber new
      ≡ (if (publisher == number) && contains subscribers subscriber
      then unwrap_or (put old.settings.enable_safe_overflow message (mailbox publisher subscriber old)) (mailbox publisher subscriber old)
      else mailbox publisher subscriber old)

  -- Whether this subscriber is open and connected to the publisher.
  abbrev pub listens : Service T → ℕ → ℕ → Bool
  listens service publisher subscriber =
      option_map_or (λ it. it.stands && contains (those it.connected) publisher) (at subscriber service.subscribers) false

  -- The publisher once it began to send a message: its last sequence number is that of the message, if the service numbers messages, and
  -- the message is the newest of its history.
  abbrev pub begun : Message T → Publisher T → Service T → Publisher T
  begun message one service = record one {
    last_sequence = next_sequence one.last_sequence;
    history = newest service.settings.history_size (one.history ++ numbered one message ∷ []);
  }

module _ {T : Type 0} (choices : Choices T) (number : ℕ) where
  -- This may be decided at the full mailbox of a subscriber, given this number of retries and of nanoseconds: what the publisher's strategy
  -- or handler may decide, if the subscriber is open and connected to the publisher; otherwise the message is discarded.
  abbrev pub MayBeDecided : Publisher T → ℕ → (retries elapsed : ℕ) → Service T → BackpressureDecision → Type 0
  MayBeDecided one subscriber retries elapsed service decision =
      ((listens service number subscriber ≡ true)
      × choices.publisher_decides number retries elapsed (decision_of one.strategy one.handler) decision)
      ⊎ ((listens service number subscriber ≡ false) × (decision ≡ DiscardData))

  -- A send went past these subscribers, in order. Only full mailboxes were skipped: at each of them `DiscardData` or `DiscardDataAndFail`
  -- may be decided. `retries` and `elapsed` were counted at the first subscriber before; at each later one they are 0. The send is to fail
  -- at its end if it was to fail before, or if `DiscardDataAndFail` was decided at one of them.
  abbrev pub GoesPast : Publisher T → List ℕ → (retries elapsed : ℕ) → (failed : Bool) → Service T → (fails : Bool) → Type 0
  GoesPast one [] retries elapsed failed service fails = fails ≡ failed
  GoesPast one (subscriber ∷ more) retries elapsed failed service fails =
      ((takes_more service number subscriber ≡ true) × GoesPast one more 0 0 failed service fails)
      ⊎ (((takes_more service number subscriber ≡ false) × MayBeDecided one subscriber retries elapsed service DiscardData
      × GoesPast one more 0 0 failed service fails)
      ⊎ ((takes_more service number subscriber ≡ false) × MayBeDecided one subscriber retries elapsed service DiscardDataAndFail
      × GoesPast one more 0 0 true service fails))

  -- A send of the publisher may be blocked at this subscriber: the subscriber is open and connected to the publisher, their mailbox takes
  -- no message, and the publisher's strategy or handler may decide to try again, given this number of retries and of nanoseconds.
  abbrev pub MayWaitAt : Publisher T → ℕ → (retries elapsed : ℕ) → Service T → Type 0
  MayWaitAt one subscriber retries elapsed service =
      (listens service number subscriber ≡ true) × (takes_more service number subscriber ≡ false)
      × choices.publisher_decides number retries elapsed (decision_of one.strategy one.handler) Retry

  -- The send of a message went to some of these subscribers, in order; `retries` and `elapsed` were counted at the first of them before.
  -- Each mailbox that takes a message has it now, and the others were skipped, as `GoesPast` says. If no subscriber is left, the reply says
  -- how many mailboxes took the message, including earlier ones, or that it couldn't be delivered to all. Otherwise the send is blocked
  -- with that count at the first subscriber that is left, where it may be, and has the retries and the time that were given there. All else
  -- of the service and of the publisher stays.
  abbrev pub TellsTakers : Publisher T → Message T → List ℕ → (before retries elapsed : ℕ) → (failed : Bool) → Service T → Reply T
      → Service T → Type 0
  TellsTakers one message subscribers before retries elapsed failed old answer new =
      (tried : List ℕ) × (left : List ℕ) × (fails : Bool) × (blocked : Option (Send T)) × (subscribers ≡ tried ++ left)
      × IsOffered number message tried old new × GoesPast one tried retries elapsed failed old fails
      × (((left ≡ []) × (blocked ≡ None)
      × (answer ≡ (if fails then reply.Refused (refusal.Send error.UnableToDeliver)
      else reply.Delivered (before + takers old number tried))))
      ⊎ ((answer ≡ reply.Blocked) × (held : Send T) × (blocked ≡ Some held) × (held.message ≡ message) × (held.left ≡ left)
      × (held.delivered ≡ before + takers old number tried) × (held.fails ≡ fails)
      × (held.retries ≡ counted_at tried retries) × (held.elapsed ≡ counted_at tried elapsed)
      × ((subscriber : ℕ) × (more : List ℕ) × (left ≡ subscriber ∷ more)
      × MayWaitAt one subscriber held.retries held.elapsed old)))
      × (new ≡ record old {
        publishers = changed number (record one { blocked = blocked }) old.publishers;
        mailboxes = new.mailboxes;
      })

module _ {T : Type 0} (choices : Choices T) where
  -- In every run of a new machine, a send or put that is delivered, couldn't be delivered to all, or is blocked updated the publisher's
  -- connections, with what a refused update leaves, and then went to the subscribers to which the publisher is connected ever since, as
  -- `TellsTakers` says.
  abbrev pub SendsTellTakers : Type 0
  SendsTellTakers = (types : MessageTypeDetails) (buffer : ℕ) (before : List (Command T)) (told : List (Reply T)) (old : State T)
      → Runs types choices buffer before new_state told old
      → (asked : Command T) (answer : Reply T) (new : State T) → is_sending asked ≡ true → is_going answer ≡ true
      → Step types choices buffer asked old answer new
      → (has : Service T → Bool) × (service : Service T) × (mid : Service T) × (after : Service T)
      × (number : ℕ) × (one : Publisher T) × (message : Message T)
      × (find has old.services ≡ Some service) × (new.services ≡ replaced has after old.services)
      × IsSentBy asked service number message
      × (mid.loans ≡ loans_left asked service.loans) × KeepsPorts service mid × KeepsMessages service mid
      × (at number mid.publishers ≡ Some one) × (one.seen ≡ mid.subscriber_list.changes)
      × TellsTakers choices number (begun message one mid) (numbered one message) (those one.connected) 0 0 0 false mid answer after

  -- In every run of a new machine, a retry that is delivered, couldn't be delivered to all, or is blocked went on with the blocked send
  -- where it was, with one retry more and the elapsed time that was named.
  abbrev pub RetriesTellTakers : Type 0
  RetriesTellTakers = (types : MessageTypeDetails) (buffer : ℕ) (before : List (Command T)) (told : List (Reply T)) (old : State T)
      → Runs types choices buffer before new_state told old
      → (number nanoseconds : ℕ) (answer : Reply T) (new : State T) → is_going answer ≡ true
      → Step types choices buffer (command.Retry number nanoseconds) old answer new
      → (service : Service T) × (after : Service T) × (one : Publisher T) × (send : Send T)
      × (find (λ other. is_some (publisher_in number other)) old.services ≡ Some service)
      × (new.services ≡ replaced (λ other. is_some (publisher_in number other)) after old.services)
      × (publisher_in number service ≡ Some one) × (one.blocked ≡ Some send)
      × TellsTakers choices number one send.message send.left send.delivered (send.retries + 1) nanoseconds send.fails service answer after

  -- A blocked send that is given up is over, and the reply is how many mailboxes took its message. All else stays.
  abbrev pub GivingUpTellsTakers : Type 0
  GivingUpTellsTakers = (types : MessageTypeDetails) (buffer number : ℕ) (old : State T) (answer : Reply T) (new : State T)
      → Step types choices buffer (command.GiveUp number) old answer new → is_skipped answer ≡ false
      → (service : Service T) × (one : Publisher T) × (send : Send T)
      × (find (λ other. is_some (publisher_in number other)) old.services ≡ Some service)
      × (publisher_in number service ≡ Some one) × (one.blocked ≡ Some send) × (answer ≡ reply.Delivered send.delivered)
      × (new ≡ record old {
        services = replaced (λ other. is_some (publisher_in number other))
            (record service { publishers = changed number (record one { blocked = None }) service.publishers }) old.services;
      })
