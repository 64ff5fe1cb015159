-- What a program reads of a sample is what it received, and what was sent.
use Rattle.std.specs.Prelude.{ℕ, ◌≡◌, ◌⊎◌, ◌+◌, ◌<◌, ◌^◌, ◌++◌, ◌∷◌, [], List, length, take, find, map, slice_get, Option, Some}
use Rattle.std.specs.Prelude.{is_some, false}
use Rattle.std.specs.Global.{Vec}
use Rattle.std.specs.List.{AllByRecursion}
use Rattle.std.specs.Vec.{vec_items}
use Rattle.iox_command.specs.declared.command.Command.{Command}
use Rattle.iox_command.specs.declared.command.Command.TheVariants as command
use Rattle.iox_command.specs.declared.refusal.Refusal.TheVariants as refusal
use Rattle.iox_command.specs.declared.reply.Reply.{Reply}
use Rattle.iox_command.specs.declared.reply.Reply.TheVariants as reply
use Rattle.iox_command.specs.declared.service.PublishSubscribeOptions.{PublishSubscribeOptions}
use Rattle.iox_command.specs.declared.service.ServiceOptions.TheVariants as options
use Rattle.iox_hub_commands.specs.Asked.{required_publish_subscribe}
use Rattle.iox_hub_commands.specs.Asking.{agreed_of, hash_of}
use Rattle.iox_hub_commands.specs.DescribeBase.Attributes.{Required}
use Rattle.iox_hub_commands.specs.DescribeBase.declared.message_type.MessageTypeDetails.{MessageTypeDetails}
use Rattle.iox_hub_commands.specs.DomainValues.declared.backpressure.BackpressureAction.{BackpressureAction}
use Rattle.iox_hub_commands.specs.DomainValues.declared.backpressure.BackpressureDecision.{BackpressureDecision}
use Rattle.iox_hub_commands.specs.DomainValues.declared.backpressure.BackpressureInfo.{BackpressureInfo}
use Rattle.iox_hub_commands.specs.DomainValues.declared.backpressure_strategy.BackpressureStrategy.{BackpressureStrategy}
use Rattle.iox_hub_commands.specs.DomainValues.declared.degradation.DegradationAction.{DegradationAction}
use Rattle.iox_hub_commands.specs.DomainValues.declared.degradation.DegradationCause.{DegradationCause}
use Rattle.iox_hub_commands.specs.DomainValues.declared.degradation.DegradationInfo.{DegradationInfo}
use Rattle.iox_hub_commands.specs.DomainValues.declared.port_error.SendError.TheVariants.{UnableToDeliver}
use Rattle.iox_hub.specs.Recorded.{AreFollowed, Calls, all_handed, none_handed}
use Rattle.iox_hub.specs.RecordedCalls.{IsAsAsked}
use Rattle.iox_hub_machine.specs.RunLaws.{all_asked, names_in}
use Rattle.iox_negotiate.specs.Laws.{IsMet}
use Rattle.iox_negotiate_base.specs.declared.request.Opened.{Opened}
use Rattle.iox_negotiate_machine.specs.Laws.{HaveOwnHashes}
use Rattle.iox_machine.specs.Choices.{Choices, Handed}
use Rattle.iox_machine.specs.Message.{Loan}
use Rattle.iox_machine.specs.Ports.{subscriber_in}
use Rattle.iox_machine.specs.Run.{Answers, Runs}
use Rattle.iox_machine.specs.Service.{Service}
use Rattle.iox_machine.specs.State.{State, new_state}
use Rattle.iox_machine.specs.Table.{at}
use Rattle.iox_negotiate_table.specs.Describe.Within.{HasForm}
use Rattle.iox_negotiate_table.specs.DescribeVerdict.PublishSubscribeClauses as publish_subscribe_clauses
use Rattle.iox_negotiate_table.specs.DescribeVerdict.Verdict.{first_unmet}

-- A subscriber received a sample, and the sample is read after other calls. If the machine may give these answers to all commands, from the
-- first one on, the values that are read are those that were received.
abbrev pub ReadsAsReceived : {T : Type 0} → Choices T → Type 0
ReadsAsReceived {T} choices = (types : MessageTypeDetails) (buffer : ℕ) (before meanwhile : List (Command T))
    (first told : List (Reply T)) (subscriber sample : ℕ) (values read : Vec T) → length first ≡ length before
    → Answers types choices buffer ((before ++ command.Receive subscriber ∷ []) ++ meanwhile ++ command.Read sample ∷ []) false
    ((first ++ reply.Received sample values ∷ []) ++ told ++ reply.Values read ∷ [])
    → vec_items read ≡ vec_items values

-- If the premises hold of the calls, and these are few enough, the premises also hold of the calls followed by one more read.
abbrev pub ReadsAreFollowed : (T : Type 0) → {B D : Type 0} → (BackpressureStrategy → Option BackpressureAction → DegradationAction → B)
    → (B → DegradationCause → DegradationInfo → DegradationAction → Type 0) → (B → BackpressureInfo → BackpressureDecision → Type 0)
    → (DegradationAction → D) → (D → DegradationCause → DegradationInfo → DegradationAction → Type 0) → Type 0
ReadsAreFollowed T {B} {D} fixed degrades decides fixed_reader reader_degrades =
    (handed : Handed B D) (calls : Calls T) (sample : ℕ)
    → AreFollowed fixed degrades decides fixed_reader reader_degrades handed calls → all_asked calls.asked + 1 < 2 ^ 56
    → AreFollowed fixed degrades decides fixed_reader reader_degrades handed
    (record calls { asked = calls.asked ++ command.Read sample ∷ [] })

-- The premises without the one about handlers: no two services of the names that are asked for share a hash, the calls and the actions of
-- other nodes that they name are fewer than 2 ^ 56, and each received message fits in a vector.
abbrev pub StandUndecided : {T : Type 0} → Calls T → Type 0
StandUndecided calls = HaveOwnHashes (names_in calls.asked) × (all_asked calls.asked < 2 ^ 56)
    × AllByRecursion (λ values. length values < 2 ^ 63) calls.received

-- If the premises without the one about handlers hold, all premises hold of a machine whose ports do what their options name: handlers of
-- these types decide by the fixed actions of which they are made.
abbrev pub DecidesForCalls : (T : Type 0) → {B D : Type 0} → (BackpressureStrategy → Option BackpressureAction → DegradationAction → B)
    → (B → DegradationCause → DegradationInfo → DegradationAction → Type 0) → (B → BackpressureInfo → BackpressureDecision → Type 0)
    → (DegradationAction → D) → (D → DegradationCause → DegradationInfo → DegradationAction → Type 0) → Type 0
DecidesForCalls T fixed degrades decides fixed_reader reader_degrades = (calls : Calls T) → StandUndecided calls
    → AreFollowed fixed degrades decides fixed_reader reader_degrades none_handed calls

-- If all handlers of a type are one value, whatever actions they are made of, the premises without the one about handlers are all premises
-- of a machine whose ports have this value.
abbrev pub OneDecidesForCalls : (T : Type 0) → {B D : Type 0} → (BackpressureStrategy → Option BackpressureAction → DegradationAction → B)
    → (B → DegradationCause → DegradationInfo → DegradationAction → Type 0) → (B → BackpressureInfo → BackpressureDecision → Type 0)
    → (DegradationAction → D) → (D → DegradationCause → DegradationInfo → DegradationAction → Type 0) → Type 0
OneDecidesForCalls T {B} {D} fixed degrades decides fixed_reader reader_degrades = (who : B) (reader : D) (calls : Calls T)
    → ((strategy : BackpressureStrategy) (action : Option BackpressureAction) (degrading : DegradationAction)
    → fixed strategy action degrading ≡ who)
    → ((degrading : DegradationAction) → fixed_reader degrading ≡ reader) → StandUndecided calls
    → AreFollowed fixed degrades decides fixed_reader reader_degrades (all_handed who reader) calls

-- The description that was read under the hash of this name meets each clause of these options and attributes, and is within the limits of
-- a description; or it is exactly what is required.
abbrev pub IsMetOrMade : MessageTypeDetails → List ℕ → PublishSubscribeOptions → Required → Opened → Type 0
IsMetOrMade types name named required service =
    IsMet (hash_of name (options.PublishSubscribe named))
    (λ given. first_unmet (publish_subscribe_clauses.clauses (required_publish_subscribe named types required) given)) service
    ⊎ (service.description ≡ agreed_of name (options.PublishSubscribe named) types required.pairs)

-- If a service is as a node asked for it, in the machine's terms, and its description has the form of one, as that of every factory has,
-- then the service is also as asked for in the terms of the code.
abbrev pub AsAskedIsMet : Type 0
AsAskedIsMet = (types : MessageTypeDetails) (name : List ℕ) (named : PublishSubscribeOptions) (required : Required) (service : Opened)
    → HasForm service.description → IsAsAsked types name named required service → IsMetOrMade types name named required service

-- The sample has values that were sent. One of the commands receives the sample, and its answer has these values. An earlier command began
-- their send: a put of them, or the send of a loan that has these values in the machine's state before it. That send was blocked, was
-- delivered, or didn't reach all. In the machine's state before the receive, the publisher that sent them is of the subscriber's own
-- service.
pub record WasSentBefore {T : Type 0} (types : MessageTypeDetails) (choices : Choices T) (buffer sample : ℕ) (values : List T)
    (asked : List (Command T)) (answers : List (Reply T)) : Type 0 where
  pub received : ℕ
  pub subscriber : ℕ
  pub told : Vec T
  pub is_received : slice_get asked received ≡ Some (command.Receive subscriber)
  pub is_told : slice_get answers received ≡ Some (reply.Received sample told)
  pub same : vec_items told ≡ values
  pub sent : ℕ
  pub publisher : ℕ
  pub answer : Reply T
  pub before : sent < received
  pub sending : State T
  pub ran_first : Runs types choices buffer (take sent asked) new_state (take sent answers) sending
  pub is_sent : (slice_get asked sent ≡ Some (command.Put publisher values))
      ⊎ ((loan : ℕ) × (lender : Service T) × (one : Loan T) × (slice_get asked sent ≡ Some (command.Send loan))
      × (find (λ other. is_some (at loan other.loans)) sending.services ≡ Some lender) × (at loan lender.loans ≡ Some one)
      × (one.publisher ≡ publisher) × (one.values ≡ map Some values))
  pub is_answered : slice_get answers sent ≡ Some answer
  pub begun : (answer ≡ reply.Blocked) ⊎ (answer ≡ reply.Refused (refusal.Send UnableToDeliver))
      ⊎ ((count : ℕ) × (answer ≡ reply.Delivered count))
  pub state : State T
  pub ran : Runs types choices buffer (take received asked) new_state (take received answers) state
  pub service : Service T
  pub of_subscriber : find (λ other. is_some (subscriber_in subscriber other)) state.services ≡ Some service
  pub of_publisher : find (λ other. is_some (at publisher other.publishers)) state.services ≡ Some service
