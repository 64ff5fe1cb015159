-- Theorems about what a refused call leaves.
use Rattle.std.specs.Prelude.{ℕ, zero, suc, ◌≡◌, ◌⊎◌, Bool, true, false, ◌&&◌, ◌==◌, nat_le, List, [], ◌∷◌, ◌++◌, length, take, map}
use Rattle.std.specs.Prelude.{filter, fold, None, Some, find, option_map, unwrap_or, if◌then◌else◌}
use Rattle.std.specs.Option.{option_map_or}
use Rattle.iox_machine.specs.RunLaws.{numbered, sent_as}
use Rattle.iox_machine.specs.Choices.{Choices}
use Rattle.iox_machine.specs.Mailbox.{Mailbox, newest, put}
use Rattle.iox_machine.specs.Message.{Loan, Message}
use Rattle.iox_machine.specs.Named.{has_named}
use Rattle.iox_machine.specs.Phase.{Phase, Absent, acted}
use Rattle.iox_machine.specs.PortList.{those}
use Rattle.iox_machine.specs.Run.{Runs, Step}
use Rattle.iox_machine.specs.Service.{Publisher, Send, Service, Subscriber, mailbox}
use Rattle.iox_machine.specs.State.{State, new_state, replaced}
use Rattle.iox_machine.specs.Table.{at, changed, contains, removed}
use Rattle.iox_command.specs.DomainValues.Actions.{decision_of}
use Rattle.iox_command.specs.DomainValues.Sequences.{next_sequence}
use Rattle.iox_command.specs.DomainValues.declared.backpressure.BackpressureDecision.TheVariants.{DiscardDataAndFail}
use Rattle.iox_command.specs.DomainValues.declared.port_error.SendError.TheVariants as error
use Rattle.iox_command.specs.NegotiateBase.DescribeBase.declared.message_type.MessageTypeDetails.{MessageTypeDetails}
use Rattle.iox_command.specs.NegotiateBase.DescribeBase.declared.pattern.MessagingPattern.{MessagingPattern}
use Rattle.iox_command.specs.Patterns.{pattern_of}
use Rattle.iox_command.specs.declared.command.Command.{Command}
use Rattle.iox_command.specs.declared.command.Command.TheVariants as command
use Rattle.iox_command.specs.declared.refusal.Refusal.{Refusal}
use Rattle.iox_command.specs.declared.refusal.Refusal.TheVariants as refusal
use Rattle.iox_command.specs.declared.reply.Reply.{Reply}
use Rattle.iox_command.specs.declared.reply.Reply.TheVariants as reply
use Rattle.iox_command.specs.declared.step.ForeignStep.{ForeignStep}
use Rattle.iox_command.specs.declared.step.StepBefore.{StepBefore}

-- The phase is as it was, or it was absent and is absent, perhaps with a later lifetime.
abbrev pub IsAsBefore : Phase → Phase → Type 0
IsAsBefore old new = (new ≡ old) ⊎ ((lives : ℕ) × (later : ℕ) × (old ≡ Absent lives) × (new ≡ Absent later))

-- The command creates or opens the service of this pattern and name, and no other node acts meanwhile.
abbrev pub IsQuietCallFor : {T : Type 0} → MessagingPattern → List ℕ → Command T → Type 0
IsQuietCallFor pattern name (command.Create node other options attributes steps) =
    (pattern_of options ≡ pattern) × (other ≡ name) × (steps ≡ [])
IsQuietCallFor pattern name (command.Open node other options required steps) =
    (pattern_of options ≡ pattern) × (other ≡ name) × (steps ≡ [])
IsQuietCallFor pattern name (command.OpenOrCreate node other options required steps) =
    (pattern_of options ≡ pattern) × (other ≡ name) × (steps ≡ [])
IsQuietCallFor pattern name other = ⊥

-- The actions that other nodes are to do before a storage operation; storage operations are numbered from 1.
abbrev pub steps_at : List StepBefore → ℕ → List ForeignStep
steps_at steps access = map (λ before. before.step) (filter (λ before. before.access == access) steps)

-- The actions that other nodes are to do before the first storage operations, up to the one with this number, in order.
abbrev pub steps_through : List StepBefore → ℕ → List ForeignStep
steps_through steps zero = []
steps_through steps (suc accesses) = steps_through steps accesses ++ steps_at steps (suc accesses)

-- The phase is what the actions of other nodes alone made of the old one: for some number of storage operations, all actions before these
-- storage operations, and some of those before the next one. If the phase was absent then, a lifetime may have begun and ended.
abbrev pub IsLeftBySteps : MessageTypeDetails → MessagingPattern → List StepBefore → Phase → Phase → Type 0
IsLeftBySteps types pattern steps old new =
    (accesses : ℕ) × (done : ℕ)
    × IsAsBefore
    (fold (acted types pattern) old (steps_through steps accesses ++ take done (steps_at steps (suc accesses)))) new

-- The command creates or opens the service of this pattern and name, and these are the actions of other nodes meanwhile.
abbrev pub IsCallWith : {T : Type 0} → MessagingPattern → List ℕ → List StepBefore → Command T → Type 0
IsCallWith pattern name steps (command.Create node other options attributes meanwhile) =
    (pattern_of options ≡ pattern) × (other ≡ name) × (meanwhile ≡ steps)
IsCallWith pattern name steps (command.Open node other options required meanwhile) =
    (pattern_of options ≡ pattern) × (other ≡ name) × (meanwhile ≡ steps)
IsCallWith pattern name steps (command.OpenOrCreate node other options required meanwhile) =
    (pattern_of options ≡ pattern) × (other ≡ name) × (meanwhile ≡ steps)
IsCallWith pattern name steps other = ⊥

-- What a refused call leaves of a subscriber: all except how far it follows the list of publishers, and its connections.
abbrev pub subscriber_staying : Subscriber → Subscriber
subscriber_staying one = record one { seen = 0; again = false; connected = []; expired = [] }

module _ {T : Type 0} where
  -- Whether the command is a call of a port that updates its connections first.
  abbrev pub is_updating : Command T → Bool
  is_updating (command.Send loan) = true
  is_updating (command.Put publisher values) = true
  is_updating (command.Receive subscriber) = true
  is_updating (command.Update number) = true
  is_updating (command.Has subscriber) = true
  is_updating other = false

  -- Whether the command is to send.
  abbrev pub is_sending : Command T → Bool
  is_sending (command.Send loan) = true
  is_sending (command.Put publisher values) = true
  is_sending other = false

  -- The loans that exist after a refused call: a send has consumed its own loan.
  abbrev pub loans_left : Command T → List (ℕ × Loan T) → List (ℕ × Loan T)
  loans_left (command.Send loan) loans = removed loan loans
  loans_left other loans = loans

  -- What a refused call leaves of a publisher: all except how far it follows the list of subscribers, its connections, and what a loan
  -- changes.
  abbrev pub publisher_staying : Publisher T → Publisher T
  publisher_staying one = record one { seen = 0; connected = []; room = 0; segments = 0; first = 0; next = 0 }

  -- Name, settings, lists and samples of the service stay, and so does each port, except how far it follows the other list and what a loan
  -- changes.
  abbrev pub KeepsPorts : Service T → Service T → Type 0
  KeepsPorts old new =
      (new.name ≡ old.name) × (new.settings ≡ old.settings)
      × (new.publisher_list ≡ old.publisher_list) × (new.subscriber_list ≡ old.subscriber_list) × (new.samples ≡ old.samples)
      × ((number : ℕ) → option_map publisher_staying (at number new.publishers) ≡ option_map publisher_staying (at number old.publishers))
      × ((number : ℕ)
      → option_map subscriber_staying (at number new.subscribers) ≡ option_map subscriber_staying (at number old.subscribers))

  -- What is borrowed stays. If the publisher was connected to a subscriber that is listed, what waits stays, and a mailbox that existed is
  -- as it was.
  abbrev pub KeepsMessages : Service T → Service T → Type 0
  KeepsMessages old new = (publisher subscriber : ℕ)
      → ((mailbox publisher subscriber new).borrowed ≡ (mailbox publisher subscriber old).borrowed)
      × ((contains (those old.subscriber_list.places) subscriber
      && option_map_or (λ one. contains (those one.connected) subscriber) (at publisher old.publishers) false) ≡ true
      → (mailbox publisher subscriber new).waiting ≡ (mailbox publisher subscriber old).waiting)
      × ((box : Mailbox T) → old.mailboxes publisher subscriber ≡ Some box
      → (contains (those old.subscriber_list.places) subscriber
      && option_map_or (λ one. contains (those one.connected) subscriber) (at publisher old.publishers) false) ≡ true
      → new.mailboxes publisher subscriber ≡ Some box)

  -- The command is to send this message by this publisher. The message, which has no sequence number yet, is that of a loan, or the
  -- publisher's next one with the values of a put.
  abbrev pub IsSentBy : Command T → Service T → ℕ → Message T → Type 0
  IsSentBy (command.Send loan) service number message =
      (lent : Loan T) × (at loan service.loans ≡ Some lent) × (number ≡ lent.publisher) × (message ≡ sent_as lent)
  IsSentBy (command.Put publisher values) service number message =
      (one : Publisher T) × (at publisher service.publishers ≡ Some one) × (number ≡ publisher)
      × (message ≡ record { number = one.next; sequence = None; values = values })
  IsSentBy other service number message = ⊥

  -- The mailbox after a message was put into it, as the last of those that wait; a full mailbox stays as it is.
  abbrev pub offered_to : Message T → Mailbox T → Mailbox T
  offered_to message box = if nat_le box.limit (length box.waiting) then box else record box { waiting = box.waiting ++ message ∷ [] }

  -- At least one of these subscribers didn't get the message: its mailbox is full without safe overflow, it is open and connected, and
  -- `DiscardDataAndFail` may be decided for the publisher.
  abbrev pub LacksOne : Choices T → ℕ → Publisher T → List ℕ → Service T → Type 0
  LacksOne choices number one left service =
      (service.settings.enable_safe_overflow ≡ false)
      × ((retries : ℕ) × (elapsed : ℕ)
      × choices.publisher_decides number retries elapsed (decision_of one.strategy one.handler) DiscardDataAndFail)
      × ((lacking : ℕ) × (contains left lacking ≡ true)
      × (nat_le (mailbox number lacking service).limit (length (mailbox number lacking service).waiting) ≡ true)
      × (option_map_or (λ it. it.stands && contains (those it.connected) number) (at lacking service.subscribers) false ≡ true))

  -- A publisher sent a message to all subscribers that it is connected to, and couldn't deliver it to all. Without safe overflow the
  -- message waits in each mailbox that had capacity, and in no other, and at least one subscriber didn't get it. The message has the
  -- publisher's next sequence number, if the service numbers messages, and is the newest of the history. No send is blocked, and all else
  -- is as before.
  abbrev pub IsUndelivered : Choices T → ℕ → Publisher T → Message T → Service T → Service T → Type 0
  IsUndelivered choices number one message old new =
      LacksOne choices number one (those one.connected) old
      × ((publisher subscriber : ℕ) → mailbox publisher subscriber new
      ≡ (if (publisher == number) && contains (those one.connected) subscriber
      then offered_to (numbered one message) (mailbox publisher subscriber old)
      else mailbox publisher subscriber old))
      × (new ≡ record old {
        publishers = changed number (record one {
          last_sequence = next_sequence one.last_sequence;
          history = newest old.settings.history_size (one.history ++ numbered one message ∷ []);
          blocked = None;
        }) old.publishers;
        mailboxes = new.mailboxes;
      })

  -- A blocked send went to the subscribers that were left, and couldn't deliver to all. Each mailbox with capacity took its message. At
  -- least one subscriber didn't get it, now or before the send was blocked. Now no send is blocked.
  abbrev pub IsRetried : Choices T → ℕ → Publisher T → Send T → Service T → Service T → Type 0
  IsRetried choices number one send old new =
      ((send.fails ≡ true) ⊎ LacksOne choices number one send.left old)
      × ((publisher subscriber : ℕ) → mailbox publisher subscriber new
      ≡ (if (publisher == number) && contains send.left subscriber
      then unwrap_or (put old.settings.enable_safe_overflow send.message (mailbox publisher subscriber old))
      (mailbox publisher subscriber old)
      else mailbox publisher subscriber old))
      × (new ≡ record old { publishers = changed number (record one { blocked = None }) old.publishers; mailboxes = new.mailboxes })

module _ {T : Type 0} (choices : Choices T) where
  -- A send, put, receive, update or look for data that is refused changes only the service that has what it names. A send has consumed its
  -- loan; the other loans stay, and so does what `KeepsPorts` and `KeepsMessages` say. This doesn't apply to a send that couldn't deliver,
  -- which did all else that a send does.
  abbrev pub RefusedPortsLeave : Type 0
  RefusedPortsLeave = (types : MessageTypeDetails) (buffer : ℕ) (asked : Command T) (old new : State T) (why : Refusal)
      → is_updating asked ≡ true → (why ≡ refusal.Send error.UnableToDeliver → ⊥)
      → Step types choices buffer asked old (reply.Refused why) new
      → (service : Service T) × (after : Service T) × (find (has_named old.factories asked) old.services ≡ Some service)
      × (new ≡ record old { services = replaced (has_named old.factories asked) after old.services })
      × (after.loans ≡ loans_left asked service.loans) × KeepsPorts service after × KeepsMessages service after

  -- In every run of a new machine, a send or put that couldn't deliver updated the publisher's connections, with what a refused update
  -- leaves, and then sent its message to all connected subscribers with capacity. The loan is consumed, and all other services stay.
  abbrev pub UndeliveredLeaves : Type 0
  UndeliveredLeaves = (types : MessageTypeDetails) (buffer : ℕ) (before : List (Command T)) (told : List (Reply T)) (old : State T)
      → Runs types choices buffer before new_state told old
      → (asked : Command T) (new : State T) → is_sending asked ≡ true
      → Step types choices buffer asked old (reply.Refused (refusal.Send error.UnableToDeliver)) new
      → (has : Service T → Bool) × (service : Service T) × (mid : Service T) × (after : Service T)
      × (number : ℕ) × (one : Publisher T) × (message : Message T)
      × (find has old.services ≡ Some service) × (new ≡ record old { services = replaced has after old.services })
      × IsSentBy asked service number message
      × (mid.loans ≡ loans_left asked service.loans) × KeepsPorts service mid × KeepsMessages service mid
      × (at number mid.publishers ≡ Some one) × (one.seen ≡ mid.subscriber_list.changes)
      × IsUndelivered choices number one message mid after

  -- In every run of a new machine, a retry that couldn't deliver sent the message of the blocked send to all subscribers that were left,
  -- and changed nothing else.
  abbrev pub RetriesLeave : Type 0
  RetriesLeave = (types : MessageTypeDetails) (buffer : ℕ) (before : List (Command T)) (told : List (Reply T)) (old : State T)
      → Runs types choices buffer before new_state told old
      → (number nanoseconds : ℕ) (new : State T)
      → Step types choices buffer (command.Retry number nanoseconds) old (reply.Refused (refusal.Send error.UnableToDeliver)) new
      → (has : Service T → Bool) × (service : Service T) × (after : Service T) × (one : Publisher T) × (send : Send T)
      × (find has old.services ≡ Some service) × (new ≡ record old { services = replaced has after old.services })
      × (at number service.publishers ≡ Some one) × (one.blocked ≡ Some send) × IsRetried choices number one send service after

  -- In every run of a new machine, a refused creation or opening, while no other node acts, leaves the agreement and the nodes that are in.
  -- If the phase was absent, a lifetime may have begun and ended.
  abbrev pub RefusedCallsLeaveNodes : Type 0
  RefusedCallsLeaveNodes = (types : MessageTypeDetails) (buffer : ℕ) (before : List (Command T)) (told : List (Reply T)) (old : State T)
      → Runs types choices buffer before new_state told old
      → (pattern : MessagingPattern) (name : List ℕ) (asked : Command T) (new : State T) (why : Refusal) → IsQuietCallFor pattern name asked
      → Step types choices buffer asked old (reply.Refused why) new
      → IsAsBefore (old.phases pattern name) (new.phases pattern name)

  -- In every run of a new machine, a refused creation or opening leaves the phase that the actions of other nodes alone made of it. If the
  -- phase was absent then, a lifetime may have begun and ended.
  abbrev pub RefusedCallsLeaveSteps : Type 0
  RefusedCallsLeaveSteps = (types : MessageTypeDetails) (buffer : ℕ) (before : List (Command T)) (told : List (Reply T)) (old : State T)
      → Runs types choices buffer before new_state told old
      → (pattern : MessagingPattern) (name : List ℕ) (steps : List StepBefore) (asked : Command T) (new : State T) (why : Refusal)
      → IsCallWith pattern name steps asked
      → Step types choices buffer asked old (reply.Refused why) new
      → IsLeftBySteps types pattern steps (old.phases pattern name) (new.phases pattern name)
