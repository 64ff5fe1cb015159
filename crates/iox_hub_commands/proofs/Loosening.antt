-- What a call does by handlers that answer in some way it does where anything may be answered.
use Rattle.std.proofs.Common.{ℕ, zero, suc, ◌+◌, Bool, true, false, List, [], ◌∷◌, Option, None, Some, Result, Ok, Err, is_ok}
use Rattle.std.specs.declared.alloc.AllocError.{AllocError}
use Rattle.iox_delivery.specs.Domain.Calls.{PortCall, PublisherComes, SubscriberComes, Lends, Writes, GivesLoanUp, PublisherUpdates}
use Rattle.iox_delivery.specs.Domain.Calls.{Sends, Retries, GivesSendUp, PublisherLeaves, SubscriberUpdates, AsksForSamples, Receives}
use Rattle.iox_delivery.specs.Domain.Calls.{Releases, SubscriberLeaves, Happens}
use Rattle.iox_delivery.specs.Domain.Making.{slots_needed, publisher_place, subscriber_place, identity_of, AddsPublisher}
use Rattle.iox_delivery.specs.Domain.Making.{CreatesPublisher, AddsSubscriber, CreatesSubscriber}
use Rattle.iox_delivery.specs.Domain.Ports.{AtPublisher, AtSubscriber}
use Rattle.iox_delivery.specs.Domain.PortsPublishing as publishing
use Rattle.iox_delivery.specs.Domain.Rolls.{RollState}
use Rattle.iox_delivery.specs.Domain.Subscribers.{subscriber_of}
use Rattle.iox_delivery.specs.Domain.PortsSubscribing as subscribing
use Rattle.iox_delivery.specs.Domain.declared.ports.making.PublisherConfig.{PublisherConfig}
use Rattle.iox_delivery.specs.Domain.declared.ports.service_ports.ServicePorts.{ServicePorts}
use Rattle.iox_delivery.specs.DomainPorts.Sending as sending
use Rattle.iox_delivery.specs.DomainPorts.PublisherUpdating as publisher
use Rattle.iox_delivery.specs.DomainPorts.declared.meeting.Meeting.{Meeting}
use Rattle.iox_delivery.specs.DomainPorts.declared.meeting.Meeting.TheVariants as meeting
use Rattle.iox_delivery.specs.DomainPorts.declared.meeting.Sent.{Sent}
use Rattle.iox_delivery.specs.DomainPorts.declared.publisher_port.PublisherPort.{PublisherPort}
use Rattle.iox_delivery.specs.DomainPorts.declared.subscriber_entry.SubscriberEntry.{SubscriberEntry}
use Rattle.iox_delivery.specs.DomainPorts.Arriving.{new_subscriber}
use Rattle.iox_delivery.specs.DomainPorts.Publishers.{port_of}
use Rattle.iox_delivery.specs.DomainPorts.SubscriberUpdating as subscriber
use Rattle.iox_delivery.specs.DomainPorts.declared.attached.Taken.{Taken}
use Rattle.iox_delivery.specs.DomainPorts.declared.publisher_entry.PublisherEntry.{PublisherEntry}
use Rattle.iox_delivery.specs.DomainPorts.declared.subscriber_port.SubscriberPort.{SubscriberPort}
use Rattle.iox_command.specs.DomainValues.Sequences.{is_used_up}
use Rattle.iox_command.specs.DomainValues.Sizes.{buffer_of}
use Rattle.iox_command.specs.DomainValues.declared.backpressure.BackpressureDecision.{BackpressureDecision}
use Rattle.iox_command.specs.DomainValues.declared.backpressure.BackpressureInfo.{BackpressureInfo}
use Rattle.iox_command.specs.DomainValues.declared.connection_failure.ConnectionFailure.{ConnectionFailure}
use Rattle.iox_command.specs.DomainValues.declared.connection_failure.ZeroCopyCreationError.{ZeroCopyCreationError}
use Rattle.iox_command.specs.DomainValues.declared.create_error.PublisherCreateError.{PublisherCreateError}
use Rattle.iox_command.specs.DomainValues.declared.create_error.SubscriberCreateError.{SubscriberCreateError}
use Rattle.iox_command.specs.DomainValues.declared.degradation.DegradationAction.{DegradationAction}
use Rattle.iox_command.specs.DomainValues.declared.degradation.DegradationInfo.{DegradationInfo}
use Rattle.iox_command.specs.DomainValues.declared.port_error.ReceiveError.{ReceiveError}
use Rattle.iox_command.specs.DomainValues.declared.port_error.SendError.{SendError}
use Rattle.iox_command.specs.DomainValues.declared.port_owner.PortOwner.{PortOwner}
use Rattle.iox_delivery.specs.Container.declared.container.Member.{Member}
use Rattle.iox_hub_commands.specs.Grown.{AnySlots, AnyAction, AnyDecision}

asks_of : (may : DegradationInfo → DegradationAction → Type 0) (listed : Option (Member PublisherEntry)) (port : SubscriberPort)
    (found after : Option ConnectionFailure) (outcome : Result (Unit {0}) ZeroCopyCreationError)
    → subscriber.AsksOf may listed port found outcome after → subscriber.AsksOf AnyAction listed port found outcome after
asks_of may None port found after outcome is = is
asks_of may (Some member) port found after (Ok done) is = is
asks_of may (Some member) port found after (Err failure) (action, allowed, is) = (action, tt, is)

module _ {T U : Type 0} (may : DegradationInfo → DegradationAction → Type 0) (decide : BackpressureInfo → BackpressureDecision → Type 0)
  where
    asks : (listed : Option (Member SubscriberEntry)) (port : PublisherPort T U) (found after : Option ConnectionFailure) (fine : Bool)
        → publisher.Asks may listed port found fine after → publisher.Asks AnyAction listed port found fine after
    asks listed port found after true is = is
    asks None port found after false is = is
    asks (Some member) port found after false (action, allowed, is) = (action, tt, is)

    follows_all : (place : ℕ) (listed : List (Option (Member SubscriberEntry))) (found : Option ConnectionFailure)
        (old new : PublisherPort T U) (answer : Result (Unit {0}) ConnectionFailure)
        → publisher.FollowsAll may place listed found old answer new → publisher.FollowsAll AnyAction place listed found old answer new
    follows_all place [] found old new answer follows = follows
    follows_all place (one ∷ rest) found old new answer (outcome, next, after, follows, asked, all) = (
      outcome,
      next,
      after,
      follows,
      asks one next found after (is_ok outcome) asked,
      follows_all (place + 1) rest after next new
          answer all,
    )

    updates_if : (same : Bool) (listed : List (Option (Member SubscriberEntry))) (changes : ℕ) (old new : PublisherPort T U)
        (answer : Result (Unit {0}) ConnectionFailure)
        → publisher.UpdatesIf same may listed changes old answer new → publisher.UpdatesIf same AnyAction listed changes old answer new
    updates_if true listed changes old new answer updates = updates
    updates_if false listed changes old new answer updates = follows_all 0 listed None (record old { seen = changes }) new answer updates

    updates : (listed : List (Option (Member SubscriberEntry))) (changes : ℕ) (old new : PublisherPort T U)
        (answer : Result (Unit {0}) ConnectionFailure)
        → publisher.Updates may listed changes old answer new → publisher.Updates AnyAction listed changes old answer new
    updates listed changes old new answer updated = updates_if _ listed changes old new answer updated

    steps : (met : Meeting) (old new : PublisherPort T U) (went : Bool) → sending.Steps decide met old went new
        → sending.Steps AnyDecision met old went new
    steps meeting.Over old new went is = is
    steps meeting.Passed old new went is = is
    steps meeting.Delivered old new went is = is
    steps (meeting.Full number) old new went (decision, allowed, goes, is) = (decision, tt, goes, is)

    goes_on : (went arrived : Bool) (next new : PublisherPort T U) (one other : Type 0) → (one → other)
        → sending.GoesOn went arrived next new one → sending.GoesOn went arrived next new other
    goes_on false arrived next new one other loosened is = is
    goes_on true arrived next new one other loosened further = loosened further

    delivers : (places : ℕ) (old new : PublisherPort T U) (arrived : Bool) → sending.Delivers decide places old arrived new
        → sending.Delivers AnyDecision places old arrived new
    delivers zero old new arrived is = is
    delivers (suc places) old new arrived (went, next, stepped, further)
        = (went, next, steps _ _ next went stepped, goes_on went arrived next new _ _ (delivers places next new arrived) further)

    finishes : (old new : PublisherPort T U) (answer : Result Sent SendError) → sending.Finishes decide old answer new
        → sending.Finishes AnyDecision old answer new
    finishes old new answer (arrived, gone, delivered, answers, is) = (arrived, gone, delivers _ old gone arrived delivered, answers, is)

    sends_after : (at : ℕ) (outcome : Result (Unit {0}) ConnectionFailure) (updated new : PublisherPort T U)
        (answer : Option (Result Sent SendError)) → sending.SendsAfter decide at outcome updated answer new
        → sending.SendsAfter AnyDecision at outcome updated answer new
    sends_after at (Err failure) updated new answer sends = sends
    sends_after at (Ok done) updated new answer (finished, does, is) = (finished, finishes _ new finished does, is)

    sends_standing : (used_up : Bool) (listed : List (Option (Member SubscriberEntry))) (changes at : ℕ) (old new : PublisherPort T U)
        (answer : Option (Result Sent SendError))
        → sending.SendsStanding used_up may decide listed changes at old answer new
        → sending.SendsStanding used_up AnyAction AnyDecision listed changes at old answer new
    sends_standing true listed changes at old new answer sends = sends
    sends_standing false listed changes at old new answer (outcome, updated, updating, sends) =
        (outcome, updated, updates listed changes old updated outcome updating, sends_after at outcome updated new answer sends)

    sends_if : (stands : Bool) (listed : List (Option (Member SubscriberEntry))) (changes at : ℕ) (old new : PublisherPort T U)
        (answer : Option (Result Sent SendError))
        → sending.SendsIf stands may decide listed changes at old answer new
        → sending.SendsIf stands AnyAction AnyDecision listed changes at old answer new
    sends_if false listed changes at old new answer sends = sends
    sends_if true listed changes at old new answer sends
        = sends_standing (is_used_up old.last_sequence) listed changes at old new answer sends

    sends_at : (listed : List (Option (Member SubscriberEntry))) (changes : ℕ) (at : Option ℕ) (old new : PublisherPort T U)
        (answer : Option (Result Sent SendError))
        → sending.Sends may decide listed changes at old answer new → sending.Sends AnyAction AnyDecision listed changes at old answer new
    sends_at listed changes None old new answer sends = sends
    sends_at listed changes (Some at) old new answer sends = sends_if old.stands listed changes at old new answer sends

    updates_one : (free : Bool) (list : RollState SubscriberEntry) (port after : PublisherPort T U)
        (answer : Option (Result (Unit {0}) ConnectionFailure))
        → publishing.UpdatesIf free may list port answer after → publishing.UpdatesIf free AnyAction list port answer after
    updates_one false list port after answer is = is
    updates_one true list port after answer (listed, is_list, outcome, updated, is)
        = (listed, is_list, outcome, updates listed list.changes port after outcome updated, is)

    sends_one : (list : RollState SubscriberEntry) (slot : ℕ) (port after : PublisherPort T U) (answer : Option (Result Sent SendError))
        → publishing.SendsOne may decide list slot port answer after → publishing.SendsOne AnyAction AnyDecision list slot port answer after
    sends_one list slot port after answer (listed, is_list, sends)
        = (listed, is_list, sends_at listed list.changes _ port after answer sends)

    retries_one : (blocked : Bool) (elapsed : ℕ) (port after : PublisherPort T U) (answer : Option (Result Sent SendError))
        → publishing.RetriesIf blocked decide elapsed port answer after → publishing.RetriesIf blocked AnyDecision elapsed port answer after
    retries_one false elapsed port after answer is = is
    retries_one true elapsed port after answer (outcome, does, is) = (outcome, finishes _ after outcome does, is)

    follows_from : (place : ℕ) (listed : List (Option (Member PublisherEntry))) (found after : Option ConnectionFailure)
        (port new : SubscriberPort) (ports new_ports : List (ℕ × PublisherPort T U))
        → subscriber.FollowsFrom may place listed found port ports after new new_ports
        → subscriber.FollowsFrom AnyAction place listed found port ports after new new_ports
    follows_from place [] found after port new ports new_ports is = is
    follows_from place (one ∷ rest) found after port new ports new_ports (outcome, next, next_ports, then_found, follows, asked, all) = (
      outcome,
      next,
      next_ports,
      then_found,
      follows,
      asks_of may one next found then_found outcome asked,
      follows_from (place + 1)
          rest then_found after next new next_ports new_ports all,
    )

    subscriber_updates_if : (same : Bool) (listed : List (Option (Member PublisherEntry))) (changes : ℕ) (port new : SubscriberPort)
        (ports new_ports : List (ℕ × PublisherPort T U)) (answer : Result (Unit {0}) ConnectionFailure)
        → subscriber.UpdatesIf same may listed changes port ports answer new new_ports
        → subscriber.UpdatesIf same AnyAction listed changes port ports answer new new_ports
    subscriber_updates_if true listed changes port new ports new_ports answer is = is
    subscriber_updates_if false listed changes port new ports new_ports answer (found, between, between_ports, follows, nones, is) =
        (found, between, between_ports, follows_from 0 listed None found _ between ports between_ports follows, nones, is)

    subscriber_updates : (listed : List (Option (Member PublisherEntry))) (changes : ℕ) (port new : SubscriberPort)
        (ports new_ports : List (ℕ × PublisherPort T U)) (answer : Result (Unit {0}) ConnectionFailure)
        → subscriber.Updates may listed changes port ports answer new new_ports
        → subscriber.Updates AnyAction listed changes port ports answer new new_ports
    subscriber_updates listed changes port new ports new_ports answer updated
        = subscriber_updates_if _ listed changes port new ports new_ports answer updated

    follows_one : (stands : Bool) (list : RollState PublisherEntry) (port after : SubscriberPort)
        (ports ports_after : List (ℕ × PublisherPort T U)) (answer : Option (Result (Unit {0}) ConnectionFailure))
        → subscribing.UpdatesIf stands may list port ports answer after ports_after
        → subscribing.UpdatesIf stands AnyAction list port ports answer after ports_after
    follows_one false list port after ports ports_after answer is = is
    follows_one true list port after ports ports_after answer (listed, is_list, outcome, updated, is)
        = (listed, is_list, outcome, subscriber_updates listed list.changes port after ports ports_after outcome updated, is)

    has_one : (stands : Bool) (list : RollState PublisherEntry) (port after : SubscriberPort)
        (ports ports_after : List (ℕ × PublisherPort T U)) (answer : Option (Result Bool ConnectionFailure))
        → subscribing.HasSamplesIf stands may list port ports answer after ports_after
        → subscribing.HasSamplesIf stands AnyAction list port ports answer after ports_after
    has_one false list port after ports ports_after answer is = is
    has_one true list port after ports ports_after answer (listed, is_list, outcome, (updated, updating, told), is) = (
      listed,
      is_list,
      outcome,
      (updated, subscriber_updates listed list.changes port after ports ports_after updated updating, told),
      is,
    )

    receives_one : (stands : Bool) (list : RollState PublisherEntry) (port after : SubscriberPort)
        (ports ports_after : List (ℕ × PublisherPort T U)) (answer : Option (Result (Option Taken) ReceiveError))
        → subscribing.ReceivesIf stands may list port ports answer after ports_after
        → subscribing.ReceivesIf stands AnyAction list port ports answer after ports_after
    receives_one false list port after ports ports_after answer is = is
    receives_one true list port after ports ports_after answer
        (listed, is_list, outcome, received, (updated, between, between_ports, updating, receives), counts, is) = (
          listed,
          is_list,
          outcome,
          received,
          (
            updated,
            between,
            between_ports,
            subscriber_updates listed list.changes port between ports between_ports updated updating,
            receives,
          ),
          counts,
          is,
        )

    adds_publisher : (config : PublisherConfig) (user_header : U) (place slots : ℕ) (old new : ServicePorts T U)
        (outcome : Result ℕ AllocError)
        → AddsPublisher may config user_header place slots old outcome new
        → AddsPublisher AnyAction config user_header place slots old outcome new
    adds_publisher config user_header place slots old new (Err error) is = is
    adds_publisher config user_header place slots old new (Ok number) (listed, is_list, outcome, port, updated, numbers, is)
        = (listed, is_list, outcome, port, updates listed _ _ port outcome updated, numbers, is)

    creates_publisher : (overrides : ℕ → ℕ → Type 0) (config : PublisherConfig) (user_header : U) (needed place : Option ℕ)
        (old new : ServicePorts T U) (answer : Result ℕ PublisherCreateError)
        → CreatesPublisher overrides may config user_header needed place old answer new
        → CreatesPublisher AnySlots AnyAction config user_header needed place old answer new
    creates_publisher overrides config user_header None place old new answer is = is
    creates_publisher overrides config user_header (Some needed) None old new answer is = is
    creates_publisher overrides config user_header (Some needed) (Some place) old new answer (slots, allowed, outcome, adds, is)
        = (slots, tt, outcome, adds_publisher config user_header place _ old new outcome adds, is)

    adds_subscriber : (owner : PortOwner) (place buffer_size : ℕ) (old new : ServicePorts T U) (outcome : Result ℕ AllocError)
        → AddsSubscriber may owner place buffer_size old outcome new → AddsSubscriber AnyAction owner place buffer_size old outcome new
    adds_subscriber owner place buffer_size old new (Err error) is = is
    adds_subscriber owner place buffer_size old new (Ok number)
        (between, (listed, is_list, outcome, after, ports_after, updated, followed), numbers, is) = (
          between,
          (
            listed,
            is_list,
            outcome,
            after,
            ports_after,
            subscriber_updates listed old.publisher_list.changes
                (new_subscriber (identity_of owner place old) buffer_size old.sizes.max_publishers old.sizes.expired_connections) after
                old.publishers ports_after outcome updated,
            followed,
          ),
          numbers,
          is,
        )

    creates_subscriber : (owner : PortOwner) (buffer_size : Result ℕ SubscriberCreateError) (place : Option ℕ)
        (old new : ServicePorts T U) (answer : Result ℕ SubscriberCreateError)
        → CreatesSubscriber may owner buffer_size place old answer new → CreatesSubscriber AnyAction owner buffer_size place old answer new
    creates_subscriber owner (Err refusal) place old new answer is = is
    creates_subscriber owner (Ok buffer_size) None old new answer is = is
    creates_subscriber owner (Ok buffer_size) (Some place) old new answer (outcome, adds, is)
        = (outcome, adds_subscriber owner place buffer_size old new outcome adds, is)

at_publisher : {T U A : Type 0} (number : ℕ) (one other : PublisherPort T U → Option A → PublisherPort T U → Type 0)
    (loosened : (port after : PublisherPort T U) (answer : Option A) → one port answer after → other port answer after)
    (found : Option (PublisherPort T U)) (old new : ServicePorts T U) (answer : Option A) → AtPublisher number one found old answer new
    → AtPublisher number other found old answer new
at_publisher number one other loosened None old new answer is = is
at_publisher number one other loosened (Some port) old new None (after, does, is) = (after, loosened port after None does, is)
at_publisher number one other loosened (Some port) old new (Some value) (after, does, is)
    = (after, loosened port after (Some value) does, is)

at_subscriber : {T U A : Type 0} (number : ℕ)
    (one other : SubscriberPort → List (ℕ × PublisherPort T U) → Option A → SubscriberPort → List (ℕ × PublisherPort T U) → Type 0)
    (loosened : (port after : SubscriberPort) (ports ports_after : List (ℕ × PublisherPort T U)) (answer : Option A)
    → one port ports answer after ports_after → other port ports answer after ports_after)
    (found : Option SubscriberPort) (old new : ServicePorts T U) (answer : Option A) → AtSubscriber number one found old answer new
    → AtSubscriber number other found old answer new
at_subscriber number one other loosened None old new answer is = is
at_subscriber number one other loosened (Some port) old new None (after, ports_after, does, is)
    = (after, ports_after, loosened port after old.publishers ports_after None does, is)
at_subscriber number one other loosened (Some port) old new (Some value) (after, ports_after, does, is)
    = (after, ports_after, loosened port after old.publishers ports_after (Some value) does, is)

-- each call
pub loosened : {T U : Type 0} (overrides : ℕ → ℕ → Type 0) (may : DegradationInfo → DegradationAction → Type 0)
    (decide : BackpressureInfo → BackpressureDecision → Type 0) (call : PortCall T U) (old new : ServicePorts T U)
    → Happens overrides may decide call old new → Happens AnySlots AnyAction AnyDecision call old new
loosened overrides may decide (PublisherComes config user_header answer) old new happens
    = creates_publisher may decide overrides config user_header (slots_needed config old) (publisher_place old) old new answer happens
loosened overrides may decide (SubscriberComes owner buffer_size answer) old new happens
    = creates_subscriber may decide owner (buffer_of buffer_size old.sizes) (subscriber_place old) old new answer happens
loosened overrides may decide (Lends number values elements answer) old new happens = happens
loosened overrides may decide (Writes number slot test change) old new happens = happens
loosened overrides may decide (GivesLoanUp number slot) old new happens = happens
loosened overrides may decide (PublisherUpdates number answer) old new happens =
    at_publisher number (publishing.UpdatesOne may old.subscriber_list) (publishing.UpdatesOne AnyAction old.subscriber_list)
    (λ port after outcome does. updates_one may decide (publishing.is_free port) old.subscriber_list port after outcome does)
    (port_of number old.publishers) old new answer happens
loosened overrides may decide (Sends number slot answer) old new happens =
    at_publisher number (publishing.SendsOne may decide old.subscriber_list slot)
    (publishing.SendsOne AnyAction AnyDecision old.subscriber_list slot)
    (λ port after outcome does. sends_one may decide old.subscriber_list slot port after outcome does)
    (port_of number old.publishers) old new answer happens
loosened overrides may decide (Retries number elapsed answer) old new happens =
    at_publisher number (publishing.RetriesOne decide elapsed) (publishing.RetriesOne AnyDecision elapsed)
    (λ port after outcome does. retries_one may decide (publishing.is_blocked port) elapsed port after outcome does)
    (port_of number old.publishers) old new answer happens
loosened overrides may decide (GivesSendUp number answer) old new happens = happens
loosened overrides may decide (PublisherLeaves number answer) old new happens = happens
loosened overrides may decide (SubscriberUpdates number answer) old new happens =
    at_subscriber number (subscribing.UpdatesOne may old.publisher_list) (subscribing.UpdatesOne AnyAction old.publisher_list)
    (λ port after ports ports_after outcome does. follows_one may decide port.stands old.publisher_list port after ports ports_after
    outcome does)
    (subscriber_of number old.subscribers) old new answer happens
loosened overrides may decide (AsksForSamples number answer) old new happens =
    at_subscriber number (subscribing.HasSamplesOne may old.publisher_list) (subscribing.HasSamplesOne AnyAction old.publisher_list)
    (λ port after ports ports_after outcome does. has_one may decide port.stands old.publisher_list port after ports ports_after
    outcome does)
    (subscriber_of number old.subscribers) old new answer happens
loosened overrides may decide (Receives number answer) old new happens =
    at_subscriber number (subscribing.ReceivesOne may old.publisher_list) (subscribing.ReceivesOne AnyAction old.publisher_list)
    (λ port after ports ports_after outcome does. receives_one may decide port.stands old.publisher_list port after ports
    ports_after outcome does)
    (subscriber_of number old.subscribers) old new answer happens
loosened overrides may decide (Releases number sample answer) old new happens = happens
loosened overrides may decide (SubscriberLeaves number answer) old new happens = happens
