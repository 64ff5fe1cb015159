-- What a look for data and a receive answer, by what waits in the connections of a subscriber.
use Rattle.std.specs.Prelude.{ℕ, ◌≡◌, ◌≤◌, ◌<◌, ◌⊎◌, Bool, true, false, List, [], ◌∷◌, ◌++◌, length, find, slice_get, is_some, Some}
use Rattle.std.specs.Global.{Vec}
use Rattle.std.specs.List.{AllByRecursion}
use Rattle.std.specs.Vec.{vec_items}
use Rattle.iox_machine.specs.AgreementLaws.{HasOne}
use Rattle.iox_machine.specs.Choices.{Choices}
use Rattle.iox_machine.specs.Message.{Message, Sample}
use Rattle.iox_machine.specs.OnceLaws.{is_skipped}
use Rattle.iox_machine.specs.PortList.{those}
use Rattle.iox_machine.specs.Ports.{subscriber_in}
use Rattle.iox_machine.specs.Run.{MayStop, Step}
use Rattle.iox_machine.specs.Service.{Service, Subscriber, mailbox}
use Rattle.iox_machine.specs.State.{State}
use Rattle.iox_machine.specs.Table.{at, contains}
use Rattle.iox_command.specs.DomainValues.declared.connection_failure.ConnectionFailure.{ConnectionFailure}
use Rattle.iox_command.specs.DomainValues.declared.port_error.ReceiveError.TheVariants as error
use Rattle.iox_command.specs.NegotiateBase.DescribeBase.declared.message_type.MessageTypeDetails.{MessageTypeDetails}
use Rattle.iox_command.specs.declared.command.Command.{Command}
use Rattle.iox_command.specs.declared.command.Command.TheVariants as command
use Rattle.iox_command.specs.declared.port.PortNumber.TheVariants as port
use Rattle.iox_command.specs.declared.refusal.Refusal.TheVariants as refusal
use Rattle.iox_command.specs.declared.reply.Reply.{Reply}
use Rattle.iox_command.specs.declared.reply.Reply.TheVariants as reply

-- The publishers of a subscriber's connections: those at its places, and the closed ones whose connections are expired.
abbrev pub heard_of : Subscriber → List ℕ
heard_of one = those one.connected ++ one.expired

module _ {T : Type 0} (number : ℕ) (service : Service T) where
  -- This message is the oldest that waits in the subscriber's connection to the publisher.
  abbrev pub WaitsFirst : Message T → ℕ → Type 0
  WaitsFirst message publisher = slice_get (mailbox publisher number service).waiting 0 ≡ Some message

  -- Some message waits in the subscriber's connection to the publisher.
  abbrev pub HasData : ℕ → Type 0
  HasData publisher = (message : Message T) × WaitsFirst message publisher

  -- No message waits in the subscriber's connection to the publisher.
  abbrev pub HasNoData : ℕ → Type 0
  HasNoData publisher = (mailbox publisher number service).waiting ≡ []

  -- As many messages of the publisher are borrowed as the service allows.
  abbrev pub IsUsedUp : ℕ → Type 0
  IsUsedUp publisher = service.settings.subscriber_max_borrowed_samples ≤ length (mailbox publisher number service).borrowed

  -- No message of the publisher can be received: none waits, or the maximum is borrowed.
  abbrev pub GivesNothing : ℕ → Type 0
  GivesNothing publisher = HasNoData publisher ⊎ IsUsedUp publisher

  -- The connection to this publisher has its turn: it is the first expired one of which a message can be received; or there is no such
  -- expired one, and the subscriber is connected to the publisher.
  abbrev pub HasItsTurn : Subscriber → ℕ → Type 0
  HasItsTurn one publisher =
      ((before : List ℕ) × (behind : List ℕ) × (one.expired ≡ before ++ publisher ∷ behind) × AllByRecursion GivesNothing before)
      ⊎ (AllByRecursion GivesNothing one.expired × (contains (those one.connected) publisher ≡ true))

  -- What a receive of this subscriber answers, once its connections are updated: that nothing waits, if nothing waits in any connection,
  -- expired ones too; that the maximum is borrowed, if something waits somewhere, and the maximum is borrowed wherever something waits;
  -- otherwise the values of the oldest message of the connection that has its turn.
  abbrev pub ReceiveAnswers : Subscriber → Reply T → Type 0
  ReceiveAnswers one answer =
      ((answer ≡ reply.NothingWaits) × AllByRecursion HasNoData (heard_of one))
      ⊎ (((answer ≡ reply.Refused (refusal.Receive error.ExceedsMaxBorrows)) × HasOne HasData (heard_of one)
      × AllByRecursion GivesNothing (heard_of one))
      ⊎ ((publisher : ℕ) × (message : Message T) × (sample : ℕ) × (values : Vec T)
      × HasItsTurn one publisher × WaitsFirst message publisher
      × (length (mailbox publisher number service).borrowed < service.settings.subscriber_max_borrowed_samples)
      × (vec_items values ≡ message.values) × (answer ≡ reply.Received sample values)))

  -- A message that has values can be received: it is the oldest in the connection that has its turn, and fewer messages of that publisher
  -- are borrowed than the service allows.
  abbrev pub HasValues : Subscriber → Type 0
  HasValues one =
      (publisher : ℕ) × (message : Message T) × HasItsTurn one publisher × WaitsFirst message publisher
      × (length (mailbox publisher number service).borrowed < service.settings.subscriber_max_borrowed_samples)
      × (0 < length message.values)

module _ {T : Type 0} (types : MessageTypeDetails) (choices : Choices T) (buffer number : ℕ) where
  -- An update of the subscriber leads to this state. It is open there, at this service, and these are its connections.
  abbrev pub IsAttended : State T → State T → Service T → Subscriber → Type 0
  IsAttended old new service one =
      Step types choices buffer (command.Update (port.Subscriber number)) old reply.Done new
      × (find (λ other. is_some (subscriber_in number other)) new.services ≡ Some service) × (subscriber_in number service ≡ Some one)

module _ {T : Type 0} (choices : Choices T) where
  -- A look for data updates the subscriber's connections, and changes nothing else. It reports whether a message waits in any of them,
  -- expired ones too.
  abbrev pub HasTellsWhatWaits : Type 0
  HasTellsWhatWaits = (types : MessageTypeDetails) (buffer number : ℕ) (old : State T) (waits : Bool) (new : State T)
      → Step types choices buffer (command.Has number) old (reply.Has waits) new
      → (service : Service T) × (one : Subscriber) × IsAttended types choices buffer number old new service one
      × (waits ≡ true → HasOne (HasData number service) (heard_of one))
      × (waits ≡ false → AllByRecursion (HasNoData number service) (heard_of one))

  -- A receive that isn't skipped updates the subscriber's connections. If that fails, the failure is the answer, as of an update alone.
  -- Otherwise the answer is what `ReceiveAnswers` says of the updated connections.
  abbrev pub ReceivesWhatMayBeBorrowed : Type 0
  ReceivesWhatMayBeBorrowed = (types : MessageTypeDetails) (buffer number : ℕ) (old : State T) (answer : Reply T) (new : State T)
      → Step types choices buffer (command.Receive number) old answer new → is_skipped answer ≡ false
      → ((failure : ConnectionFailure) × (answer ≡ reply.Refused (refusal.Receive (error.ConnectionFailure failure)))
      × Step types choices buffer (command.Update (port.Subscriber number)) old (reply.Refused (refusal.Connection failure)) new)
      ⊎ ((mid : State T) × (service : Service T) × (one : Subscriber) × IsAttended types choices buffer number old mid service one
      × ReceiveAnswers number service one answer)

  -- A run that answered something stops only where there are values to give: before a receive, if a message that has values can be
  -- received once the subscriber's connections are updated; or before a read of a sample whose message has values.
  abbrev pub StopsHaveValues : Type 0
  StopsHaveValues = (types : MessageTypeDetails) (buffer : ℕ) (asked : Command T) (rest : List (Command T)) (old : State T)
      (answers : List (Reply T))
      → MayStop types choices buffer (asked ∷ rest) old answers → (answers ≡ [] → ⊥)
      → ((number : ℕ) × (asked ≡ command.Receive number)
      × (mid : State T) × (service : Service T) × (one : Subscriber) × IsAttended types choices buffer number old mid service one
      × HasValues number service one)
      ⊎ ((sample : ℕ) × (asked ≡ command.Read sample) × (service : Service T) × (one : Sample T)
      × (find (λ other. is_some (at sample other.samples)) old.services ≡ Some service) × (at sample service.samples ≡ Some one)
      × (0 < length one.message.values))
