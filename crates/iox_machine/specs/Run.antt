-- The machine: what each command does, what its reply is, and runs of commands.
use Rattle.std.specs.Prelude.{ℕ, ◌+◌, ◌<◌, ◌≡◌, ◌⊎◌, ◌&&◌, ◌==◌, nat_lt, Bool, false, List, [], ◌∷◌, ◌++◌, length, map, set, Some, None}
use Rattle.std.specs.Prelude.{is_some, MatchBool, MatchOption, if◌then◌else◌}
use Rattle.std.specs.Global.{Vec}
use Rattle.std.specs.List.{list_all}
use Rattle.std.specs.Vec.{vec_items}
use Rattle.iox_machine.specs.Choices.{Choices}
use Rattle.iox_machine.specs.Arriving.{PublisherArrives, SubscriberArrives, new_publisher, new_subscriber}
use Rattle.iox_machine.specs.Closing.{Closes}
use Rattle.iox_machine.specs.Factories.{Acts, CreatesService, OpensService, OpensOrCreatesService}
use Rattle.iox_machine.specs.PortList.{unless}
use Rattle.iox_machine.specs.Ports.{AtPublisher, subscriber_in, LendsLoan, Puts, SendsLoan, Writes, Releases}
use Rattle.iox_machine.specs.PublisherUpdate as publishing
use Rattle.iox_machine.specs.Receiving.{Receives, has_samples}
use Rattle.iox_machine.specs.Sending.{GoesOn}
use Rattle.iox_machine.specs.Service.{Service}
use Rattle.iox_machine.specs.State.{State, new_state, counted, is_service_of, AtOne}
use Rattle.iox_machine.specs.SubscriberUpdate as subscribing
use Rattle.iox_machine.specs.Table.{at, changed, removed}
use Rattle.iox_machine.specs.Replies.{OnlyAnswers}
use Rattle.iox_command.specs.DomainValues.declared.port_error.ReceiveError.TheVariants.{ConnectionFailure}
use Rattle.iox_command.specs.NegotiateBase.DescribeBase.declared.message_type.MessageTypeDetails.{MessageTypeDetails}
use Rattle.iox_command.specs.Patterns.{pattern_of}
use Rattle.iox_command.specs.declared.command.Command.{Command}
use Rattle.iox_command.specs.declared.command.Command.TheVariants as command
use Rattle.iox_command.specs.declared.port.PortNumber.TheVariants as port
use Rattle.iox_command.specs.declared.refusal.HubError.TheVariants.{OutOfMemory}
use Rattle.iox_command.specs.declared.refusal.Refusal.TheVariants as refusal
use Rattle.iox_command.specs.declared.reply.Reply.{Reply}
use Rattle.iox_command.specs.declared.reply.Reply.TheVariants as reply

-- The parameters of a machine: the types of its messages, the choices of others, and the maximum number of expired connections of a
-- subscriber (or the service's borrow limit, if that is larger).
module _ {T : Type 0} (types : MessageTypeDetails) (choices : Choices T) (buffer : ℕ) where
  -- A command that names a factory: `Does` is done at the factory's publish-subscribe service. It is skipped if there is no such factory,
  -- or it has another pattern.
  abbrev pub AtFactory : ℕ → (Service T → Reply T → Service T → Type 0) → State T → Reply T → State T → Type 0
  AtFactory number Does old answer new =
      MatchOption (at number old.factories) (OnlyAnswers reply.Skipped old answer new)
      (λ factory. AtOne (λ service. if is_service_of factory service then Some service else None) (λ service. Does) old answer new)

  -- What each command may do to the state, with this reply.
  abbrev pub Step : Command T → State T → Reply T → State T → Type 0
  Step command.Node old answer new =
      ((answer ≡ reply.NodeMade (old.made.nodes + 1)) × (new ≡ record old { made = counted answer old.made }))
      ⊎ (OnlyAnswers (reply.Refused (refusal.Hub OutOfMemory)) old answer new)
  Step (command.Create node name options attributes steps) old answer new =
      CreatesService types steps (record { pattern = pattern_of options; name = name; node = node }) options attributes old answer new
  Step (command.Open node name options required steps) old answer new =
      OpensService types steps (record { pattern = pattern_of options; name = name; node = node }) options required old answer new
  Step (command.OpenOrCreate node name options required steps) old answer new =
      OpensOrCreatesService types steps (record { pattern = pattern_of options; name = name; node = node }) options required old answer new
  Step (command.Foreign pattern name steps) old answer new = Acts types pattern name steps old answer new
  Step (command.Close factory) old answer new = Closes factory old answer new
  Step (command.Publisher factory options) old answer new =
      AtFactory factory (λ service. PublisherArrives (old.made.publishers + 1)
      (new_publisher factory options service.settings) service) old answer new
  Step (command.Subscriber factory options) old answer new =
      AtFactory factory (λ service. SubscriberArrives buffer (old.made.subscribers + 1)
      (new_subscriber factory options service.settings) service) old answer new
  Step (command.Loan publisher length) old answer new =
      (value : T) × choices.is_default value
      × AtPublisher publisher (LendsLoan (old.made.loans + 1) publisher length (Some value))
      (λ one send. OnlyAnswers reply.Skipped) old answer new
  Step (command.LoanUninit publisher length) old answer new =
      AtPublisher publisher (LendsLoan (old.made.loans + 1) publisher length None)
      (λ one send. OnlyAnswers reply.Skipped) old answer new
  Step (command.Set loan place value) old answer new =
      AtOne (λ service. at loan service.loans)
      (λ one. Writes loan one (list_all is_some one.values && nat_lt place (length one.values))
      (set one.values place (Some value))) old answer new
  Step (command.Fill loan values) old answer new =
      AtOne (λ service. at loan service.loans)
      (λ one. Writes loan one (length values == length one.values) (map Some values)) old answer new
  Step (command.Drop loan) old answer new =
      AtOne (λ service. at loan service.loans)
      (λ one service answered after. (answered ≡ reply.Done) ×
      (after ≡ record service { loans = removed loan service.loans })) old answer new
  Step (command.Send loan) old answer new = AtOne (λ service. at loan service.loans) (SendsLoan choices loan) old answer new
  Step (command.Put publisher values) old answer new =
      AtPublisher publisher (Puts choices publisher values) (λ one send. OnlyAnswers reply.Skipped) old answer new
  Step (command.Retry publisher nanoseconds) old answer new =
      AtPublisher publisher (λ one. OnlyAnswers reply.Skipped)
      (λ one send. GoesOn choices publisher one
      (record send { retries = send.retries + 1; elapsed = nanoseconds })) old answer new
  Step (command.GiveUp publisher) old answer new =
      AtPublisher publisher (λ one. OnlyAnswers reply.Skipped)
      (λ one send service answered after. (answered ≡ reply.Delivered send.delivered) ×
      (after ≡ record service { publishers = changed publisher (record one { blocked = None }) service.publishers })) old answer new
  Step (command.Receive subscriber) old answer new =
      AtOne (subscriber_in subscriber)
      (subscribing.UpdatesFirst choices buffer subscriber (λ failure. refusal.Receive (ConnectionFailure failure))
      (Receives subscriber (old.made.samples + 1))) old answer new
  Step (command.Read sample) old answer new =
      AtOne (λ service. at sample service.samples)
      (λ one service answered after. (values : Vec T) × (vec_items values ≡ one.message.values) × (answered ≡ reply.Values values) ×
      (after ≡ service)) old answer new
  Step (command.Sequence sample) old answer new =
      AtOne (λ service. at sample service.samples)
      (λ one. OnlyAnswers (reply.Sequence one.message.sequence)) old answer new
  Step (command.Release sample) old answer new = AtOne (λ service. at sample service.samples) (Releases sample) old answer new
  Step (command.Update (port.Publisher number)) old answer new =
      AtPublisher number
      (publishing.UpdatesFirst choices number refusal.Connection
      (λ one. OnlyAnswers reply.Done)) (λ one send. OnlyAnswers reply.Skipped) old answer new
  Step (command.Update (port.Subscriber number)) old answer new =
      AtOne (subscriber_in number)
      (subscribing.UpdatesFirst choices buffer number refusal.Connection
      (λ one. OnlyAnswers reply.Done)) old answer new
  Step (command.Leave (port.Publisher number)) old answer new =
      AtPublisher number
      (λ one service answered after. (answered ≡ reply.Done)
      × (after ≡ record service {
        publishers = changed number (record one { stands = false }) service.publishers;
        publisher_list = record {
          places = map (unless (number ∷ [])) service.publisher_list.places;
          changes = service.publisher_list.changes + 1;
        };
      }))
      (λ one send. OnlyAnswers reply.Skipped) old answer new
  Step (command.Leave (port.Subscriber number)) old answer new =
      AtOne (subscriber_in number)
      (λ one service answered after. (answered ≡ reply.Done)
      × (after ≡ record service {
        subscribers = changed number (record one { stands = false }) service.subscribers;
        subscriber_list = record {
          places = map (unless (number ∷ [])) service.subscriber_list.places;
          changes = service.subscriber_list.changes + 1;
        };
      }))
      old answer new
  Step (command.Has subscriber) old answer new =
      AtOne (subscriber_in subscriber)
      (subscribing.UpdatesFirst choices buffer subscriber refusal.Connection
      (λ one service. OnlyAnswers (reply.Has (has_samples subscriber one service)) service)) old answer new

  -- Commands that are done one after the other, each with its reply.
  abbrev pub Runs : List (Command T) → State T → List (Reply T) → State T → Type 0
  Runs [] old answers new = (answers ≡ []) × (new ≡ old)
  Runs (command ∷ more) old answers new =
      (answer : Reply T) × (mid : State T) × (rest : List (Reply T)) × Step command old answer mid × Runs more mid rest new ×
      (answers ≡ answer ∷ rest)

  -- The machine may answer the command with the values of a message that has some: it receives the message, or reads its sample.
  abbrev pub MayGiveValues : Command T → State T → Type 0
  MayGiveValues (command.Receive subscriber) state =
      (sample : ℕ) × (values : Vec T) × (after : State T)
      × Step (command.Receive subscriber) state (reply.Received sample values) after × (0 < length (vec_items values))
  MayGiveValues (command.Read sample) state =
      (values : Vec T) × Step (command.Read sample) state (reply.Values values) state × (0 < length (vec_items values))
  MayGiveValues other state = ⊥

  -- A run may stop in this state, with these commands left and these answers given: if nothing was answered yet, before any command; or
  -- before a command that the machine may answer with values.
  abbrev pub MayStop : List (Command T) → State T → List (Reply T) → Type 0
  MayStop [] state answers = ⊥
  MayStop (asked ∷ rest) state answers = (answers ≡ []) ⊎ MayGiveValues asked state

  -- What a new machine may answer to commands: all of them are answered, or, if it stopped, those before a command at which it may stop.
  abbrev pub Answers : List (Command T) → Bool → List (Reply T) → Type 0
  Answers commands stopped answers =
      (first : List (Command T)) × (rest : List (Command T)) × (after : State T)
      × (commands ≡ first ++ rest) × MatchBool stopped (MayStop rest after answers) (rest ≡ []) × Runs first new_state answers after
