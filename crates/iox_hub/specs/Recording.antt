-- How a hub relates to what it was asked, and how calls change that. No clause that a caller reads cites these definitions.
use Rattle.std.specs.Prelude.{ℕ, ◌≡◌, ◌-◌, ◌^◌, ◌<◌, ◌&&◌, Bool, true, false, List, [], ◌∷◌, ◌++◌, length, nat_lt, Option, None, Some}
use Rattle.std.specs.Prelude.{Result, Ok, Err, not, ◌==◌}
use Rattle.iox_delivery.specs.Holding.{holds_message, loan_found, publisher_blocked}
use Rattle.iox_delivery.specs.DomainPorts.Messages.{Loan}
use Rattle.iox_delivery.specs.DomainPorts.MessagesSending.{is_written_loan}
use Rattle.iox_delivery.specs.DomainPorts.Writing.{values_at}
use Rattle.iox_delivery.specs.declared.port_id.PortId.{PortId}
use Rattle.iox_domain.specs.declared.domain_id.DomainId.{DomainId}
use Rattle.iox_domain.specs.declared.ports.service_ports.ServicePorts.{ServicePorts}
use Rattle.iox_hub_base.specs.AsHome.{hub_ports}
use Rattle.std.specs.Global.{Vec}
use Rattle.std.specs.List.{AllByRecursion}
use Rattle.std.specs.Option.{unwrap_or}
use Rattle.iox_delivery.specs.declared.kind.Slice.{Slice}
use Rattle.iox_delivery.specs.declared.sample.Sample.{Sample}
use Rattle.iox_delivery.specs.declared.sent.Sent.{Sent}
use Rattle.iox_hub_base.specs.Hubs.{is_node}
use Rattle.iox_hub_commands.specs.DomainValues.declared.port_error.ReceiveError.{ReceiveError}
use Rattle.iox_hub_commands.specs.DomainValues.declared.port_error.SendError.{SendError}
use Rattle.iox_hub_machine.specs.TypedServices.{factories_then, told_closed}
use Rattle.iox_hub_machine.specs.TypedSteps.{payload_there, told_sent}
use Rattle.iox_machine.specs.Agreement.{are_within_limits, verdict}
use Rattle.iox_machine.specs.Asked.{settings_of}
use Rattle.iox_negotiate_base.specs.declared.request.Opened.{Opened as Joined}
use Rattle.iox_command.specs.NegotiateBase.declared.errors.close.CloseError.{CloseError}
use Rattle.iox_hub_commands.specs.Asking.{hash_of}
use Rattle.iox_hub_commands.specs.DescribeBase.declared.attribute.Attribute.{Attribute}
use Rattle.iox_hub_commands.specs.DescribeBase.declared.message_type.MessageTypeDetails.{MessageTypeDetails}
use Rattle.iox_hub_base.specs.declared.hub.Hub.{Hub}
use Rattle.iox_hub_base.specs.declared.hub.HubConfig.{HubConfig}
use Rattle.iox_hub_commands.specs.DomainValues.declared.backpressure.BackpressureAction.{BackpressureAction}
use Rattle.iox_hub_commands.specs.DomainValues.declared.backpressure.BackpressureDecision.{BackpressureDecision}
use Rattle.iox_hub_commands.specs.DomainValues.declared.backpressure.BackpressureInfo.{BackpressureInfo}
use Rattle.iox_hub_commands.specs.DomainValues.declared.backpressure_strategy.BackpressureStrategy.{BackpressureStrategy}
use Rattle.iox_hub_commands.specs.DomainValues.declared.degradation.DegradationAction.{DegradationAction}
use Rattle.iox_hub_commands.specs.DomainValues.declared.degradation.DegradationCause.{DegradationCause}
use Rattle.iox_hub_commands.specs.DomainValues.declared.degradation.DegradationInfo.{DegradationInfo}
use Rattle.iox_hub_commands.specs.Lives.{NumbersRise}
use Rattle.iox_hub_commands.specs.Naming.{publisher_handlers, subscriber_handler}
use Rattle.iox_hub_commands.specs.declared.numbered_hub.NumberedHub.{NumberedHub}
use Rattle.iox_hub_machine.specs.ArrivalLaws.{AnswersAsChosen, DecidesAsChosen}
use Rattle.iox_hub_machine.specs.RunLaws.{AsksAmong, all_asked}
use Rattle.iox_hub_machine.specs.TypedRuns.{HasCalled}
use Rattle.iox_negotiate_machine.specs.Laws.{HaveOwnHashes}
use Rattle.iox_command.specs.declared.command.Command.TheVariants as command
use Rattle.iox_command.specs.declared.port.PublisherOptions.{PublisherOptions}
use Rattle.iox_command.specs.declared.port.SubscriberOptions.{SubscriberOptions}
use Rattle.iox_command.specs.declared.refusal.Refusal.{Refusal}
use Rattle.iox_command.specs.declared.refusal.Refusal.TheVariants as refusal
use Rattle.iox_command.specs.declared.command.Command.{Command}
use Rattle.iox_command.specs.declared.reply.Reply.{Reply}
use Rattle.iox_command.specs.declared.reply.Reply.TheVariants as reply
use Rattle.iox_command.specs.declared.service.PublishSubscribeOptions.{PublishSubscribeOptions}
use Rattle.iox_command.specs.declared.service.ServiceOptions.TheVariants as options
use Rattle.iox_container.specs.NumberTable.{NumberTable, inserted, value_at}
use Rattle.iox_hub_commands.specs.Reading.{values_under}
use Rattle.iox_hub_commands.specs.DescribeBase.Attributes.{Required}
use Rattle.iox_hub_commands.specs.ServicesTables.{FactoryTable, no_factories}
use Rattle.iox_hub_commands.specs.Tables.{no_numbers}
use Rattle.iox_hub_commands.specs.declared.ports.made.Made.{Made}
use Rattle.iox_hub_commands.specs.declared.ports.made.MadeSample.{MadeSample}
use Rattle.iox_hub_commands.specs.declared.services.made.MadeFactory.{MadeFactory}
use Rattle.iox_hub.specs.Recorded.{Calls, asked_too}
use Rattle.iox_hub.specs.Turns.{choices_of}
use Rattle.iox_hub_commands.specs.Terms.{Terms}
use Rattle.iox_machine.specs.Choices.{Choices, Handed}

-- The record of a hub that wasn't asked anything yet.
abbrev pub no_calls : {T : Type 0} → HubConfig → Calls T
no_calls config = record {
  asked = [];
  answers = [];
  made = record { publishers = no_numbers; subscribers = no_numbers; loans = no_numbers; samples = no_numbers };
  factories = no_factories;
  received = [];
  config = config;
}

-- The calls with one more, after which the program holds these ports, loans and samples.
abbrev pub asked_with : {T : Type 0} → Made → Command T → Reply T → Calls T → Calls T
asked_with made asked answer calls = record (asked_too asked answer calls) { made = made }

-- A sample with this number was received: the answer to a receive reported it.
pub record HasCome {T : Type 0} (sample : ℕ) (asked : List (Command T)) (answers : List (Reply T)) : Type 0 where
  pub before : List (Command T)
  pub first : List (Reply T)
  pub subscriber : ℕ
  pub values : Vec T
  pub later : List (Command T)
  pub told : List (Reply T)
  pub long : length first ≡ length before
  pub are : asked ≡ before ++ command.Receive subscriber ∷ later
  pub answered : answers ≡ first ++ reply.Received sample values ∷ told

-- Each command has an answer, and each sample that the program holds was received.
pub record HaveTold {T : Type 0} (samples : NumberTable MadeSample) (asked : List (Command T)) (answers : List (Reply T)) : Type 0 where
  pub long : length answers ≡ length asked
  pub came : (number : ℕ) (held : MadeSample) → value_at samples number ≡ Some held → HasCome number asked answers

-- Each received message fits in a vector.
abbrev pub AllFit : {T : Type 0} → List (List T) → Type 0
AllFit received = AllByRecursion (λ values. length values < 2 ^ 63) received

module _ {T : Type 0} where
  -- The reply to a send that perhaps can't be made: that the command is skipped, if no publisher may send, or no blocked send may be tried
  -- again.
  abbrev pub told_sent_if : {U : Type 0} → Option (Result (Sent T U) SendError) → Reply T
  told_sent_if None = reply.Skipped
  told_sent_if (Some answer) = told_sent answer

  -- The reply to a send: how many mailboxes took the message, or that the send is blocked, if the number is None.
  abbrev pub told_came : Option (Result (Option ℕ) SendError) → Reply T
  told_came None = reply.Skipped
  told_came (Some (Ok (Some count))) = reply.Delivered count
  told_came (Some (Ok None)) = reply.Blocked
  told_came (Some (Err why)) = reply.Refused (refusal.Send why)

-- A call is made if it may be; otherwise nothing happens.
abbrev pub IsDoneIf : {A H : Type 0} → Bool → (H → A → H → Type 0) → H → Option A → H → Type 0
IsDoneIf may does old None new = (may ≡ false) × (new ≡ old)
IsDoneIf may does old (Some answer) new = (may ≡ true) × does old answer new

-- A call consumes what it is handed, if it may be made; otherwise nothing happens, and what it was handed is returned.
abbrev pub IsDoneOrBack : {A W H : Type 0} → Bool → W → (H → A → H → Type 0) → H → Result A W → H → Type 0
IsDoneOrBack may waits does old (Ok answer) new = does old answer new
IsDoneOrBack may waits does old (Err back) new = (may ≡ false) × (back ≡ waits) × (new ≡ old)

-- The values of a sample in a hub; an empty list if the sample isn't held.
abbrev pub values_there : {T U B D : Type 0} → Sample T U Slice → Hub T U B D → List T
values_there sample hub = unwrap_or (payload_there sample hub) []

-- The values of the program's newest sample in a hub; an empty list if the sample isn't held.
abbrev pub newest_there : {T U B D : Type 0} → Calls T → Hub T U B D → List T
newest_there calls hub = unwrap_or (values_under hub_ports (value_at calls.made.samples (calls.made.samples.next - 1)) hub) []

-- Whether a sample is held, and its values fit in a vector.
abbrev pub is_known : {T U B D : Type 0} → Sample T U Slice → Hub T U B D → Bool
is_known sample hub = holds_message sample.port.number sample.taken (hub_ports sample.port.domain hub)
    && nat_lt (length (values_there sample hub)) (2 ^ 63)

-- Whether the sample that was just received, if any, is held and fits in a vector.
abbrev pub newest_is_known : {T U B D : Type 0} → Option (Result (Option (Sample T U Slice)) ReceiveError) → Hub T U B D → Bool
newest_is_known None hub = true
newest_is_known (Some (Ok (Some sample))) hub = is_known sample hub
newest_is_known (Some (Ok None)) hub = true
newest_is_known (Some (Err why)) hub = true

-- Whether a loan is written, with this many values.
abbrev pub is_written_with : {T U : Type 0} → Option (Loan T U) → ℕ → Bool
is_written_with loan count = is_written_loan loan && (length (unwrap_or (values_at loan) []) == count)

-- Whether a loan may be sent: it is written, and no send of its publisher is blocked.
abbrev pub may_send : {T U H : Type 0} → (DomainId → H → Option (ServicePorts T U)) → PortId → ℕ → H → Bool
may_send ports_of port slot home = is_written_loan (loan_found port.number slot (ports_of port.domain home))
    && not (publisher_blocked port.number (ports_of port.domain home))

-- The answer to a node that asked for a service: the number of its factory, or the refusal.
abbrev pub told_opened : {E : Type 0} → (E → Refusal) → ℕ → Result MadeFactory E → Result ℕ Refusal
told_opened refused next (Ok factory) = Ok next
told_opened refused next (Err why) = Err (refused why)

-- The factories after that answer: a new one has the next number.
abbrev pub factories_opened : {E : Type 0} → FactoryTable → Result MadeFactory E → FactoryTable
factories_opened table (Ok factory) = inserted table factory
factories_opened table (Err why) = table

-- A node asks for a service as the third argument says, if the node was made. A failure is reported as this refusal; the factories are
-- those that had numbers before.
abbrev pub OpensIf : {T U B D E : Type 0} → (E → Refusal) → ℕ
    → (FactoryTable → Hub T U B D → Result ℕ Refusal → FactoryTable → Hub T U B D → Type 0) → FactoryTable → Hub T U B D
    → Option (Result MadeFactory E) → Hub T U B D → Type 0
OpensIf refused node asks table old None new = (is_node node old.nodes ≡ false) × (new ≡ old)
OpensIf refused node asks table old (Some answer) new = (is_node node old.nodes ≡ true)
    × asks table old (told_opened refused table.next answer) (factories_opened table answer) new

-- The calls with the command of a node that asked for a service.
abbrev pub calls_opened : {T E : Type 0} → Command T → (E → Refusal) → Option (Result MadeFactory E) → Calls T → Calls T
calls_opened asked refused None calls = asked_too asked reply.Skipped calls
calls_opened asked refused (Some (Ok factory)) calls =
    record (asked_too asked (reply.FactoryMade calls.factories.next) calls) { factories = inserted calls.factories factory }
calls_opened asked refused (Some (Err why)) calls = asked_too asked (reply.Refused (refused why)) calls

-- The calls with the command that closes a factory.
abbrev pub calls_closed : {T F : Type 0} → ℕ → Result (Unit {0}) (CloseError × Option F) → Calls T → Calls T
calls_closed number answer calls =
    record (asked_too (command.Close number) (told_closed answer) calls) { factories = factories_then answer number calls.factories }

-- The service is exactly as a node created it: with these settings and attributes, under the hash of this name.
abbrev pub IsMadeAsAsked : MessageTypeDetails → List ℕ → PublishSubscribeOptions → List Attribute → Joined → Type 0
IsMadeAsAsked types name named attributes service =
    (service.description.service_hash ≡ hash_of name (options.PublishSubscribe named)) × (service.description.name ≡ name)
    × (service.description.settings ≡ settings_of types (options.PublishSubscribe named)) × (service.description.attributes ≡ attributes)

-- The service under the hash of this name meets these options and attributes, and is within the limits of settings.
abbrev pub IsMetAsAsked : MessageTypeDetails → List ℕ → PublishSubscribeOptions → Required → Joined → Type 0
IsMetAsAsked types name named required service =
    (service.description.service_hash ≡ hash_of name (options.PublishSubscribe named))
    × (verdict types (options.PublishSubscribe named) required
    (record { settings = service.description.settings; attributes = service.description.attributes }) ≡ Ok tt)
    × (are_within_limits service.description.settings ≡ true)

module _ {T U B D : Type 0} where
  -- The hub with what its program holds, by number.
  abbrev pub numbered : Calls T → Hub T U B D → NumberedHub T U B D
  numbered calls hub = record {
    hub = hub;
    factories = record { made = calls.factories };
    made = calls.made;
    pledged = record { loans = 0; samples = 0 };
  }

-- Whatever the handlers that are made of a port's options may decide and answer may be chosen for the port, whichever number it has.
pub record AreChosen {T B D : Type 0} (choices : Choices T)
    (fixed : BackpressureStrategy → Option BackpressureAction → DegradationAction → B)
    (degrades : B → DegradationCause → DegradationInfo → DegradationAction → Type 0)
    (decides : B → BackpressureInfo → BackpressureDecision → Type 0) (fixed_reader : DegradationAction → D)
    (reader_degrades : D → DegradationCause → DegradationInfo → DegradationAction → Type 0) : Type 0 where
  pub publishers : (number : ℕ) (named : PublisherOptions)
      → DecidesAsChosen choices degrades decides (publisher_handlers fixed named) number named
  pub subscribers : (number : ℕ) (named : SubscriberOptions)
      → AnswersAsChosen choices reader_degrades (subscriber_handler fixed_reader named) number named

-- The parameters: the terms of the hub.
module _ {T U B D : Type 0} (terms : Terms T U B D) where
  -- The calls were a run of the machine that has these handlers, and the hub represents the state that the run reached; the hub has its
  -- configuration, and `fit` is true. This holds for any names that include those that were asked for, and of which no two services share a
  -- hash, if whatever the handlers of ports may decide may be chosen for them.
  abbrev pub IsRun : Handed B D → Bool → Calls T → Hub T U B D → Type 0
  IsRun handed fit calls hub = (names : List (List ℕ))
      → AreChosen (choices_of terms handed) terms.fixed terms.degrades terms.decides terms.fixed_reader terms.reader_degrades
      → HaveOwnHashes names → AllByRecursion (AsksAmong names) calls.asked → all_asked calls.asked < 2 ^ 56 → AllFit calls.received
      → HasCalled terms (choices_of terms handed) names calls.asked calls.answers (numbered calls hub)
      × (hub.expired_connection_buffer ≡ calls.config.expired_connection_buffer)
      × (fit ≡ true)

  -- `IsRun` holds; the numbers of what the program holds rise; the hub has the id of its configuration; if `fit` is true, each received
  -- message fits in a vector; and each sample that the program holds was received.
  pub record IsRecordedBy (handed : Handed B D) (fit : Bool) (calls : Calls T) (hub : Hub T U B D) : Type 0 where
    pub rise : NumbersRise (numbered calls hub)
    pub id : hub.table.id ≡ calls.config.id
    pub all_fit : fit ≡ true → AllFit calls.received
    pub told : HaveTold calls.made.samples calls.asked calls.answers
    pub run : IsRun handed fit calls hub

  -- This holds for any handlers that the machine may have.
  pub record IsRecorded (fit : Bool) (calls : Calls T) (hub : Hub T U B D) : Type 0 where
    pub rise : NumbersRise (numbered calls hub)
    pub id : hub.table.id ≡ calls.config.id
    pub all_fit : fit ≡ true → AllFit calls.received
    pub told : HaveTold calls.made.samples calls.asked calls.answers
    pub run : (handed : Handed B D) → IsRun handed fit calls hub
