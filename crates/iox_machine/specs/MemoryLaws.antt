-- That memory may suffice: wherever the machine may run out of memory, it may also go on.
use Rattle.std.specs.Prelude.{ℕ, ◌≤◌, ◌≡◌, ◌⊎◌, Bool, true, false, List, length, find, Some, is_some}
use Rattle.std.specs.Global.{Vec}
use Rattle.std.specs.List.{AllByRecursion}
use Rattle.std.specs.Vec.{vec_items}
use Rattle.iox_machine.specs.Choices.{Choices}
use Rattle.iox_machine.specs.GoingLaws.{AlwaysChoose}
use Rattle.iox_machine.specs.LoanLaws.{MayOpenSegment}
use Rattle.iox_machine.specs.Named.{has_named}
use Rattle.iox_machine.specs.PortRefusalLaws.{IsTooLarge}
use Rattle.iox_machine.specs.Ports.{publisher_in}
use Rattle.iox_machine.specs.Run.{Step}
use Rattle.iox_machine.specs.RunLaws.{AllMessages}
use Rattle.iox_machine.specs.Service.{Publisher, Service}
use Rattle.iox_machine.specs.State.{State}
use Rattle.iox_command.specs.DomainValues.declared.connection_failure.ConnectionFailure.TheVariants.{FailedToEstablishConnection}
use Rattle.iox_command.specs.DomainValues.declared.connection_failure.ZeroCopyCreationError.TheVariants as connection
use Rattle.iox_command.specs.DomainValues.declared.create_error.PublisherCreateError.TheVariants as publisher_error
use Rattle.iox_command.specs.DomainValues.declared.create_error.SubscriberCreateError.TheVariants as subscriber_error
use Rattle.iox_command.specs.DomainValues.declared.port_error.LoanError.TheVariants as loan_error
use Rattle.iox_command.specs.DomainValues.declared.port_error.ReceiveError.TheVariants as receive_error
use Rattle.iox_command.specs.DomainValues.declared.port_error.SendError.TheVariants as send_error
use Rattle.iox_command.specs.NegotiateBase.DescribeBase.declared.message_type.MessageTypeDetails.{MessageTypeDetails}
use Rattle.iox_command.specs.NegotiateBase.declared.errors.event.EventCreateError.TheVariants as event_create
use Rattle.iox_command.specs.NegotiateBase.declared.errors.event.EventOpenError.TheVariants as event_open
use Rattle.iox_command.specs.NegotiateBase.declared.errors.event.EventOpenOrCreateError.TheVariants as event_either
use Rattle.iox_command.specs.NegotiateBase.declared.errors.publish_subscribe.PublishSubscribeCreateError.TheVariants as
    publish_subscribe_create
use Rattle.iox_command.specs.NegotiateBase.declared.errors.publish_subscribe.PublishSubscribeOpenError.TheVariants as publish_subscribe_open
use Rattle.iox_command.specs.NegotiateBase.declared.errors.publish_subscribe.PublishSubscribeOpenOrCreateError.TheVariants as
    publish_subscribe_either
use Rattle.iox_command.specs.NegotiateBase.declared.errors.request_response.RequestResponseCreateError.TheVariants as
    request_response_create
use Rattle.iox_command.specs.NegotiateBase.declared.errors.request_response.RequestResponseOpenError.TheVariants as request_response_open
use Rattle.iox_command.specs.NegotiateBase.declared.errors.request_response.RequestResponseOpenOrCreateError.TheVariants as
    request_response_either
use Rattle.iox_command.specs.declared.command.Command.{Command}
use Rattle.iox_command.specs.declared.command.Command.TheVariants as command
use Rattle.iox_command.specs.declared.refusal.HubError.TheVariants.{OutOfMemory}
use Rattle.iox_command.specs.declared.refusal.Refusal.{Refusal}
use Rattle.iox_command.specs.declared.refusal.Refusal.TheVariants as refusal
use Rattle.iox_command.specs.declared.reply.Reply.{Reply}
use Rattle.iox_command.specs.declared.reply.Reply.TheVariants as reply

-- Whether the refusal is one with which the machine reports that memory ran out: for a node, an action of another node, a service, a port,
-- a segment or a connection.
abbrev pub is_for_memory : Refusal → Bool
is_for_memory (refusal.Hub OutOfMemory) = true
is_for_memory (refusal.PublishSubscribeCreate publish_subscribe_create.OutOfMemory) = true
is_for_memory (refusal.PublishSubscribeOpen publish_subscribe_open.OutOfMemory) = true
is_for_memory (refusal.PublishSubscribeOpenOrCreate
    (publish_subscribe_either.PublishSubscribeOpenError publish_subscribe_open.OutOfMemory)) = true
is_for_memory (refusal.PublishSubscribeOpenOrCreate
    (publish_subscribe_either.PublishSubscribeCreateError publish_subscribe_create.OutOfMemory)) = true
is_for_memory (refusal.EventCreate event_create.OutOfMemory) = true
is_for_memory (refusal.EventOpen event_open.OutOfMemory) = true
is_for_memory (refusal.EventOpenOrCreate (event_either.EventOpenError event_open.OutOfMemory)) = true
is_for_memory (refusal.EventOpenOrCreate (event_either.EventCreateError event_create.OutOfMemory)) = true
is_for_memory (refusal.RequestResponseCreate request_response_create.OutOfMemory) = true
is_for_memory (refusal.RequestResponseOpen request_response_open.OutOfMemory) = true
is_for_memory (refusal.RequestResponseOpenOrCreate
    (request_response_either.RequestResponseOpenError request_response_open.OutOfMemory)) = true
is_for_memory (refusal.RequestResponseOpenOrCreate
    (request_response_either.RequestResponseCreateError request_response_create.OutOfMemory)) = true
is_for_memory (refusal.Publisher publisher_error.UnableToCreateDataSegment) = true
is_for_memory (refusal.Subscriber subscriber_error.OutOfMemory) = true
is_for_memory (refusal.Loan loan_error.OutOfMemory) = true
is_for_memory (refusal.Send (send_error.LoanError loan_error.OutOfMemory)) = true
is_for_memory (refusal.Send (send_error.ConnectionError (FailedToEstablishConnection connection.OutOfMemory))) = true
is_for_memory (refusal.Receive (receive_error.ConnectionFailure (FailedToEstablishConnection connection.OutOfMemory))) = true
is_for_memory (refusal.Connection (FailedToEstablishConnection connection.OutOfMemory)) = true
is_for_memory other = false

-- Whether the reply reports that memory ran out.
abbrev pub reports_memory : {T : Type 0} → Reply T → Bool
reports_memory (reply.Refused why) = is_for_memory why
reports_memory other = false

module _ {T : Type 0} where
  -- More memory is no help for a loan of this many values: it fits the publisher's segment, or no further segment may open.
  abbrev pub IsBeyondMemory : ℕ → ℕ → State T → Type 0
  IsBeyondMemory publisher count old =
      (service : Service T) × (one : Publisher T)
      × (find (λ other. is_some (publisher_in publisher other)) old.services ≡ Some service) × (publisher_in publisher service ≡ Some one)
      × ((count ≤ one.room) ⊎ (MayOpenSegment publisher one service count → ⊥))

  -- More memory is no help for the command: a publisher that it names is too large for its service, or it loans so.
  abbrev pub NeedsMore : Command T → State T → Type 0
  NeedsMore (command.Publisher factory named) old =
      (service : Service T) × (find (has_named old.factories (command.Publisher factory named)) old.services ≡ Some service)
      × IsTooLarge named service.settings
  NeedsMore (command.Loan publisher count) old = IsBeyondMemory publisher count old
  NeedsMore (command.LoanUninit publisher count) old = IsBeyondMemory publisher count old
  NeedsMore (command.Put publisher values) old = IsBeyondMemory publisher (length values) old
  NeedsMore other old = ⊥

module _ {T : Type 0} (choices : Choices T) where
  -- In any state, each command has an answer that doesn't report that memory ran out, unless more memory is no help for it. There must be a
  -- default value, something that may always be chosen for each port, and the values of each message must fit in a vector.
  abbrev pub MemoryMaySuffice : Type 0
  MemoryMaySuffice = (types : MessageTypeDetails) (buffer : ℕ) (default : T) → choices.is_default default → AlwaysChoose choices
      → (old : State T)
      → AllByRecursion (AllMessages (λ publisher message. (values : Vec T) × (vec_items values ≡ message.values))) old.services
      → (asked : Command T) → (answer : Reply T) × (new : State T) × Step types choices buffer asked old answer new
      × (reports_memory answer ≡ true → NeedsMore asked old)
