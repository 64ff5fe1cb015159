-- What calls of a recorded hub are told as, in the words of their contracts.
use Rattle.std.proofs.Common.{◌≡◌, ◌∙◌, ℕ, ◌+◌, ◌-◌, ◌^◌, ◌<◌, Bool, true, false, List, [], ◌∷◌, ◌++◌, length, Option, None, Some}
use Rattle.std.proofs.Common.{IfErr, IfOk, IfSome, MatchOption, MatchResult, Result, Ok, Err}
use Rattle.std.proofs.Common.{refl, sym, ap, subst, is_ok, arith}
use Rattle.std.specs.Vec.{vec_items}
use Rattle.std.specs.Option.{option_map_or, unwrap_or}
use Rattle.iox_command.specs.declared.command.Command.{Command}
use Rattle.iox_command.specs.declared.command.Command.TheVariants as command
use Rattle.iox_command.specs.declared.port.PublisherOptions.{PublisherOptions}
use Rattle.iox_command.specs.declared.port.SubscriberOptions.{SubscriberOptions}
use Rattle.iox_command.specs.NegotiateBase.declared.errors.close.CloseError.{CloseError}
use Rattle.iox_command.specs.declared.refusal.HubError.{HubError}
use Rattle.iox_command.specs.declared.refusal.Refusal.{Refusal}
use Rattle.iox_command.specs.declared.refusal.Refusal.TheVariants as refusal
use Rattle.iox_command.specs.declared.reply.Reply.TheVariants as reply
use Rattle.iox_container.proofs.Telling.{put as found_next}
use Rattle.iox_container.specs.NumberTable.{Rises, inserted, removed, value_at}
use Rattle.iox_delivery.specs.Holding.{left_or_given_back}
use Rattle.iox_delivery.specs.Publishing.{RetriesSend, sent_of}
use Rattle.iox_delivery.specs.Slices.{SendsSlice}
use Rattle.iox_delivery.specs.declared.kind.Slice.{Slice}
use Rattle.iox_delivery.specs.declared.port_id.PortId.{PortId}
use Rattle.iox_delivery.specs.declared.sample.Sample.{Sample}
use Rattle.iox_delivery.specs.declared.sent.Sent.{Sent}
use Rattle.iox_delivery.specs.declared.sent.Sent.TheVariants as sent
use Rattle.iox_domain.specs.DomainPorts.declared.meeting.Sent.{Sent as Sending}
use Rattle.iox_domain.specs.DomainPorts.declared.meeting.Sent.TheVariants as sending
use Rattle.iox_domain.specs.declared.domain_id.DomainId.{DomainId}
use Rattle.iox_hub_base.specs.AsHome.{hub_ports, with_hub_ports}
use Rattle.iox_hub_base.specs.Closing.{ClosesIf, spent}
use Rattle.iox_hub_base.specs.declared.hub.Hub.{Hub}
use Rattle.iox_negotiate.specs.declared.factory.Membership.{Membership}
use Rattle.iox_hub_commands.specs.CommandSteps.{publisher_may_decide, publisher_may_degrade}
use Rattle.iox_hub_commands.specs.DomainValues.declared.connection_failure.ConnectionFailure.{ConnectionFailure}
use Rattle.iox_hub_commands.specs.DomainValues.declared.create_error.PublisherCreateError.{PublisherCreateError}
use Rattle.iox_hub_commands.specs.DomainValues.declared.create_error.SubscriberCreateError.{SubscriberCreateError}
use Rattle.iox_hub_commands.specs.DomainValues.declared.backpressure.BackpressureDecision.{BackpressureDecision}
use Rattle.iox_hub_commands.specs.DomainValues.declared.backpressure.BackpressureInfo.{BackpressureInfo}
use Rattle.iox_hub_commands.specs.DomainValues.declared.degradation.DegradationAction.{DegradationAction}
use Rattle.iox_hub_commands.specs.DomainValues.declared.degradation.DegradationCause.{DegradationCause}
use Rattle.iox_hub_commands.specs.DomainValues.declared.degradation.DegradationInfo.{DegradationInfo}
use Rattle.iox_hub_commands.specs.DomainValues.declared.port_error.ReceiveError.{ReceiveError}
use Rattle.iox_hub_commands.specs.DomainValues.declared.port_error.SendError.{SendError}
use Rattle.iox_hub_commands.specs.Numbering.{removed_if}
use Rattle.iox_hub_commands.specs.Replies.{done_reply, foreign_reply, given_up_reply, has_reply, updated_reply}
use Rattle.iox_hub_commands.specs.Reading.{values_under}
use Rattle.iox_hub_commands.specs.declared.ports.made.Made.{Made}
use Rattle.iox_hub_commands.specs.declared.ports.made.MadeSample.{MadeSample}
use Rattle.iox_hub_commands.specs.declared.services.made.MadeFactory.{MadeFactory}
use Rattle.iox_hub.proofs.Recording.{calls_publisher, calls_received, calls_subscriber, vector}
use Rattle.iox_hub.proofs.RecordedRuns.{vector_is}
use Rattle.iox_hub.specs.Recorded.{Calls, asked_too}
use Rattle.iox_hub.specs.RecordedCalls.{IsReceived, answered_as, told_send}
use Rattle.iox_hub.specs.RecordedNames.{as_made, back_by, closed_by, named_by, port_made, received_by}
use Rattle.iox_hub.specs.Recording.{IsDoneIf, IsDoneOrBack, asked_with, calls_closed, calls_opened, newest_there, told_sent_if}
use Rattle.iox_hub.specs.Recording.{values_there}
use Rattle.iox_hub.specs.declared.recorded.named.Named.{Named}
use Rattle.iox_hub.specs.declared.recorded.named.Number.{Number}

-- A blocked send is one of this port.
abbrev pub WaitsAt : {T U : Type 0} → PortId → Sent T U → Type 0
WaitsAt port (sent.Delivered count) = Unit {0}
WaitsAt port (sent.Blocked blocked) = blocked.port ≡ port

-- how a send that is given up is told
pub given_up_so : {T : Type 0} (asked : Command T) (calls : Calls T) (answer : Option ℕ)
    → asked_too asked (given_up_reply answer) calls
    ≡ asked_too asked (option_map_or (λ count. reply.Delivered count) answer reply.Skipped) calls
given_up_so asked calls None = refl
given_up_so asked calls (Some count) = refl

-- the values that a payload gives are those that are found
pub gives_found : {T : Type 0} (values : List T) (found : Option (List T)) → Some values ≡ found → values ≡ unwrap_or found []
gives_found {T} values found is = ap (λ (it : Option (List T)). unwrap_or it []) is

-- what is handed back keeps its number
module _ {S : Type 0} (number : Number) where
  pub handed_back : (it : S) (left : Bool)
      → IfErr (back_by number (left_or_given_back left it)) (λ back. back ≡ record { it = it; number = number })
  handed_back it true = tt
  handed_back it false = refl

-- a blocked send is of the port that sent
module _ (T U : Type 0) (port : PortId) where
  sent_waits : (outcome : Result Sending SendError) → IfOk (sent_of {T = T} {U = U} port outcome) (λ sent. WaitsAt port sent)
  sent_waits (Ok (sending.Delivered count)) = tt
  sent_waits (Ok sending.Blocked) = refl
  sent_waits (Err why) = tt

  pub outcome_waits : (answer : Result (Sent T U) SendError) (outcome : Result Sending SendError) → answer ≡ sent_of port outcome
      → IfOk answer (λ sent. WaitsAt port sent)
  outcome_waits answer outcome is =
      subst (λ (it : Result (Sent T U) SendError). IfOk it (λ sent. WaitsAt port sent)) (sym is) (sent_waits outcome)

module _ {T U B D : Type 0} (degrades : B → DegradationCause → DegradationInfo → DegradationAction → Type 0)
    (decides : B → BackpressureInfo → BackpressureDecision → Type 0) (port : PortId) (values : List T) (old new : Hub T U B D) where
  slice_waits : (answer : Result (Sent T U) SendError)
      → SendsSlice hub_ports with_hub_ports (publisher_may_degrade degrades) (publisher_may_decide decides) port values old answer new
      → IfOk answer (λ sent. WaitsAt port sent)
  slice_waits answer (Ok slot, middle, lends, (later, writes, (outcome, sends, is))) = outcome_waits T U port answer outcome is
  slice_waits answer (Err why, middle, lends, (is, same)) =
      subst (λ (it : Result (Sent T U) SendError). IfOk it (λ sent. WaitsAt port sent)) (sym is) tt

  pub put_waits : (may : Bool) (answer : Option (Result (Sent T U) SendError))
      → IsDoneIf may (SendsSlice hub_ports with_hub_ports (publisher_may_degrade degrades) (publisher_may_decide decides) port values) old
      answer new
      → IfSome answer (λ it. IfOk it (λ sent. WaitsAt port sent))
  put_waits may None done = tt
  put_waits may (Some answer) (so, sends) = slice_waits answer sends

module _ {T U B D W : Type 0} (decides : B → BackpressureInfo → BackpressureDecision → Type 0) (port : PortId) (elapsed : ℕ) (waits : W)
    (old new : Hub T U B D) where
  pub retry_waits : (may : Bool) (answer : Result (Result (Sent T U) SendError) W)
      → IsDoneOrBack may waits (RetriesSend hub_ports with_hub_ports (publisher_may_decide decides) port elapsed) old answer new
      → MatchResult answer (λ it. IfOk it (λ sent. WaitsAt port sent)) (λ back. back ≡ waits)
  retry_waits may (Ok answer) (outcome, tries, is) = outcome_waits T U port answer outcome is
  retry_waits may (Err back) (never, is, same) = is

module _ {T U B D : Type 0} (hub : Hub T U B D) where
  -- the newest sample has these values
  pub gives_newest : (calls : Calls T) (number : ℕ) (made : MadeSample) (values : List T) → value_at calls.made.samples number ≡ Some made
      → Some values ≡ values_under hub_ports (Some made) hub → number + 1 ≡ calls.made.samples.next → values ≡ newest_there calls hub
  gives_newest calls number made values there is last =
      let same : number ≡ calls.made.samples.next - 1 = omega (arith, last) in
      gives_found values (values_under hub_ports (value_at calls.made.samples (calls.made.samples.next - 1)) hub)
      (is ∙ ap (λ (it : Option MadeSample). values_under hub_ports it hub)
      (sym there ∙ ap (λ (it : ℕ). value_at calls.made.samples it) same))

module _ {T U B D : Type 0} (hub : Hub T U B D) (subscriber : ℕ) (calls : Calls T) where
  newest_is : (sample : Sample T U Slice) → Rises 1 calls.made.samples.entries calls.made.samples.next
      → values_there sample hub ≡ newest_there (calls_received hub subscriber (Some (Ok (Some sample))) calls) hub
  newest_is sample rises =
      let it : MadeSample = record { port = sample.port; taken = sample.taken } in
      let same : calls.made.samples.next ≡ (calls.made.samples.next + 1) - 1 = omega arith in
      ap (λ (it : Option MadeSample). unwrap_or (values_under hub_ports it hub) []) (sym (found_next calls.made.samples it rises)
      ∙ ap (λ (n : ℕ). value_at (inserted calls.made.samples it) n) same)

  pub received_so : (answer : Option (Result (Option (Sample T U Slice)) ReceiveError)) (number : Number)
      → Rises 1 calls.made.samples.entries calls.made.samples.next
      → IsReceived (newest_there (calls_received hub subscriber answer calls) hub) subscriber (received_by number answer) calls
      (calls_received hub subscriber answer calls)
  received_so None number rises = refl
  received_so (Some (Ok (Some sample))) number rises = (
    vector (values_there sample hub),
    subst (λ (values : List T). length values < 2 ^ 63 → vec_items (vector (values_there sample hub)) ≡ values) (newest_is sample rises)
        (vector_is (values_there sample hub)),
    ap (λ (values : List T). record (calls_received hub subscriber (Some (Ok (Some sample))) calls) {
      received = calls.received ++ values ∷ [];
    }) (newest_is sample rises),
  )
  received_so (Some (Ok None)) number rises = refl
  received_so (Some (Err why)) number rises = refl

  -- a sample that came goes by its number
  pub sample_goes_by : (answer : Option (Result (Option (Sample T U Slice)) ReceiveError)) (number : Number)
      → number.value ≡ calls.made.samples.next → Rises 1 calls.made.samples.entries calls.made.samples.next
      → IfSome (received_by number answer) (λ some. IfOk some (λ some. IfSome some (λ sample.
      (sample.number.value ≡ calls.made.samples.next)
      × (value_at (calls_received hub subscriber answer calls).made.samples sample.number.value
      ≡ Some (record { port = sample.it.port; taken = sample.it.taken })))))
  sample_goes_by None number is rises = tt
  sample_goes_by (Some (Ok (Some sample))) number is rises = (
    is,
    ap (value_at (calls_received hub subscriber (Some (Ok (Some sample))) calls).made.samples) is
        ∙ found_next calls.made.samples (record { port = sample.port; taken = sample.taken }) rises,
  )
  sample_goes_by (Some (Ok None)) number is rises = tt
  sample_goes_by (Some (Err why)) number is rises = tt

-- what is here is of the hub that was made so
pub here_so : {S E : Type 0} (number : Number) (hub_of : S → ℕ) (id other : ℕ) → id ≡ other → (answer : Option (Result S E))
    → IfSome answer (λ it. IfOk it (λ made. hub_of made ≡ id))
    → IfSome (named_by number answer) (λ it. IfOk it (λ made. hub_of made.it ≡ other))
here_so number hub_of id other same None here = tt
here_so number hub_of id other same (Some (Ok made)) here = here ∙ same
here_so number hub_of id other same (Some (Err why)) here = tt

-- what a factory that isn't closed is handed back as
abbrev pub IsBack : {F : Type 0} → F → Result (Unit {0}) (CloseError × Option F) → Type 0
IsBack factory answer =
    MatchResult answer (λ done. Unit {0}) (λ refused. MatchOption refused.1 (Unit {0}) (λ back. back ≡ factory))

pub closes_back : {T U B D F : Type 0} (used : Bool) (member : Membership) (factory : F) (old new : Hub T U B D)
    (answer : Result (Unit {0}) (CloseError × Option F)) → ClosesIf used member factory old answer new → IsBack factory answer
closes_back true member factory old new answer (is, same) = subst (IsBack factory) (sym is) refl
closes_back false member factory old new answer (closed, leaves, is, same) = subst (IsBack factory) (sym is) (by closed)
  where
    by : (closed : Result (Unit {0}) CloseError) → IsBack factory (spent closed)
    by (Ok done) = tt
    by (Err why) = tt

module _ {T : Type 0} (calls : Calls T) where
  pub sent_so : {U : Type 0} (asked : Command T) (answer : Option (Result (Sent T U) SendError))
      → asked_too asked (told_sent_if answer) calls ≡ asked_too asked (told_send answer) calls
  sent_so asked None = refl
  sent_so asked (Some (Ok (sent.Delivered count))) = refl
  sent_so asked (Some (Ok (sent.Blocked blocked))) = refl
  sent_so asked (Some (Err why)) = refl

  -- how a port is told that was to follow the others
  pub updated_so : (asked : Command T) (answer : Option (Result (Unit {0}) ConnectionFailure))
      → asked_too asked (updated_reply answer) calls
      ≡ answered_as answer asked (λ done. reply.Done) refusal.Connection (λ done after. after) calls
  updated_so asked None = refl
  updated_so asked (Some (Ok done)) = refl
  updated_so asked (Some (Err why)) = refl

  -- how it is told whether messages wait
  pub has_so : (asked : Command T) (answer : Option (Result Bool ConnectionFailure))
      → asked_too asked (has_reply answer) calls
      ≡ answered_as answer asked (λ has. reply.Has has) refusal.Connection (λ has after. after) calls
  has_so asked None = refl
  has_so asked (Some (Ok has)) = refl
  has_so asked (Some (Err why)) = refl

  -- who leaves is told as gone, and its number is spent; else it is handed back
  pub left_so : {S : Type 0} (number : Number) (asked : Command T) (without : Made → Made) (left : Result (Unit {0}) S)
      → MatchResult (back_by number left)
      (λ done. asked_with (removed_if (is_ok left) without calls.made) asked (done_reply (is_ok left)) calls
      ≡ record (asked_too asked reply.Done calls) { made = without calls.made })
      (λ back. asked_with (removed_if (is_ok left) without calls.made) asked (done_reply (is_ok left)) calls
      ≡ asked_too asked reply.Skipped calls)
  left_so number asked without (Ok done) = refl
  left_so number asked without (Err it) = refl

  pub opened_so : {F E : Type 0} (asked : Command T) (refused : E → Refusal) (made : F → MadeFactory) (answer : Option (Result F E))
      (number : Number)
      → calls_opened asked refused (as_made made answer) calls
      ≡ answered_as (named_by number answer) asked (λ factory. reply.FactoryMade calls.factories.next) refused
      (λ factory after. record after { factories = inserted after.factories (made factory.it) }) calls
  opened_so asked refused made None number = refl
  opened_so asked refused made (Some (Ok factory)) number = refl
  opened_so asked refused made (Some (Err why)) number = refl

  -- a factory that came goes by its number
  pub factory_goes_by : {F E : Type 0} (asked : Command T) (refused : E → Refusal) (made : F → MadeFactory)
      (answer : Option (Result F E)) (number : Number)
      → number.value ≡ calls.factories.next → Rises 1 calls.factories.entries calls.factories.next
      → IfSome (named_by number answer) (λ it. IfOk it (λ factory. (factory.number.value ≡ calls.factories.next)
      × (value_at (calls_opened asked refused (as_made made answer) calls).factories factory.number.value ≡ Some (made factory.it))))
  factory_goes_by asked refused made None number is rises = tt
  factory_goes_by asked refused made (Some (Ok factory)) number is rises = (
    is,
    ap (value_at (calls_opened asked refused (Some (Ok (made factory))) calls).factories) is
        ∙ found_next calls.factories (made factory) rises,
  )
  factory_goes_by asked refused made (Some (Err why)) number is rises = tt

  -- how nodes outside the hub are told that were to act
  pub foreign_so : (asked : Command T) (answer : Result (Unit {0}) HubError)
      → asked_too asked (foreign_reply answer) calls
      ≡ answered_as (Some answer) asked (λ done. reply.Done) refusal.Hub (λ done after. after) calls
  foreign_so asked (Ok done) = refl
  foreign_so asked (Err why) = refl

  -- a factory that was to be closed is spent, or handed back
  pub closed_so : {F : Type 0} (factory : Named F) (answer : Result (Unit {0}) (CloseError × Option F))
      → IsBack factory.it answer → MatchResult (closed_by factory.number answer)
      (λ done. calls_closed factory.number.value answer calls ≡ record (asked_too (command.Close factory.number.value) reply.Done calls) {
        factories = removed calls.factories factory.number.value;
      })
      (λ refused. MatchOption refused.1
      (calls_closed factory.number.value answer calls
      ≡ record (asked_too (command.Close factory.number.value) (reply.Refused (refusal.Close refused.0)) calls) {
        factories = removed calls.factories factory.number.value;
      })
      (λ back. (back ≡ factory) × (calls_closed factory.number.value answer calls
      ≡ asked_too (command.Close factory.number.value) (reply.Refused (refusal.Close refused.0)) calls)))
  closed_so factory (Ok done) back = refl
  closed_so factory (Err (why, None)) back = refl
  closed_so factory (Err (why, Some it)) back = (ap (λ it. record { it = it; number = factory.number }) back, refl)

  module _ (U K : Type 0) {S : Type 0} (factory : ℕ) (domain : DomainId) (number : Number) (side : S) where
    pub publisher_so : (named : PublisherOptions) (answer : Option (Result ℕ PublisherCreateError))
        → calls_publisher factory named domain answer calls
        ≡ answered_as (named_by number (port_made {T = T} {U = U} {K = K} domain side answer)) (command.Publisher factory named)
        (λ publisher. reply.PublisherMade calls.made.publishers.next) refusal.Publisher (λ publisher after. record after {
          made = record after.made {
            publishers = inserted after.made.publishers (record { port = publisher.it.port; holds_slices = true });
          };
        }) calls
    publisher_so named None = refl
    publisher_so named (Some (Ok at)) = refl
    publisher_so named (Some (Err why)) = refl

    -- a publisher that came goes by its number
    pub publisher_goes_by : (named : PublisherOptions) (answer : Option (Result ℕ PublisherCreateError))
        → number.value ≡ calls.made.publishers.next → Rises 1 calls.made.publishers.entries calls.made.publishers.next
        → IfSome (named_by number (port_made {T = T} {U = U} {K = K} domain side answer)) (λ it. IfOk it (λ publisher.
        (publisher.number.value ≡ calls.made.publishers.next)
        × (value_at (calls_publisher factory named domain answer calls).made.publishers publisher.number.value
        ≡ Some (record { port = publisher.it.port; holds_slices = true }))
        × (publisher.it.side ≡ side)))
    publisher_goes_by named None is rises = tt
    publisher_goes_by named (Some (Ok at)) is rises = (
      is,
      ap (value_at (calls_publisher factory named domain (Some (Ok at)) calls).made.publishers) is
          ∙ found_next calls.made.publishers (record { port = record { domain = domain; number = at }; holds_slices = true }) rises,
      refl,
    )
    publisher_goes_by named (Some (Err why)) is rises = tt

    pub subscriber_so : (named : SubscriberOptions) (answer : Option (Result ℕ SubscriberCreateError))
        → calls_subscriber factory named domain answer calls
        ≡ answered_as (named_by number (port_made {T = T} {U = U} {K = K} domain side answer)) (command.Subscriber factory named)
        (λ subscriber. reply.SubscriberMade calls.made.subscribers.next) refusal.Subscriber (λ subscriber after. record after {
          made = record after.made { subscribers = inserted after.made.subscribers subscriber.it.port };
        }) calls
    subscriber_so named None = refl
    subscriber_so named (Some (Ok at)) = refl
    subscriber_so named (Some (Err why)) = refl

    -- a subscriber that came goes by its number
    pub subscriber_goes_by : (named : SubscriberOptions) (answer : Option (Result ℕ SubscriberCreateError))
        → number.value ≡ calls.made.subscribers.next → Rises 1 calls.made.subscribers.entries calls.made.subscribers.next
        → IfSome (named_by number (port_made {T = T} {U = U} {K = K} domain side answer)) (λ it. IfOk it (λ subscriber.
        (subscriber.number.value ≡ calls.made.subscribers.next)
        × (value_at (calls_subscriber factory named domain answer calls).made.subscribers subscriber.number.value
        ≡ Some subscriber.it.port)))
    subscriber_goes_by named None is rises = tt
    subscriber_goes_by named (Some (Ok at)) is rises = (
      is,
      ap (value_at (calls_subscriber factory named domain (Some (Ok at)) calls).made.subscribers) is
          ∙ found_next calls.made.subscribers (record { domain = domain; number = at }) rises,
    )
    subscriber_goes_by named (Some (Err why)) is rises = tt

-- a port that came has this side
pub has_side : (T U K : Type 0) {S E : Type 0} (domain : DomainId) (number : Number) (side : S) (answer : Option (Result ℕ E))
    → IfSome (named_by number (port_made {T = T} {U = U} {K = K} domain side answer)) (λ it. IfOk it (λ port. port.it.side ≡ side))
has_side T U K domain number side None = tt
has_side T U K domain number side (Some (Ok at)) = refl
has_side T U K domain number side (Some (Err why)) = tt
