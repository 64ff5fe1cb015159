-- No call of a domain leaves a publisher with a stray tie.
use Rattle.std.proofs.Common.{arith, ◌≡◌, ◌+◌, ◌∷◌, [], ℕ, Bool, true, false, List, Option, None, Some, Result, Ok, Err, refl, sym, ap, ◌∙◌}
use Rattle.std.proofs.Common.{get_or, set, if◌then◌else◌}
use Rattle.std.proofs.lemmas.List.Elements.{All-nil}
use Rattle.std.specs.declared.alloc.AllocError.{AllocError}
use Rattle.iox_domain.proofs.Numbered.{all_came, all_then}
use Rattle.iox_domain.proofs.Walks.{left_all_walk, walked_receives, walked_updates}
use Rattle.iox_domain.specs.Calls.{AsksForSamples, GivesLoanUp, GivesSendUp, Happens, Lends, PortCall, PublisherComes, PublisherLeaves}
use Rattle.iox_domain.specs.Calls.{PublisherUpdates, Receives, Releases, Retries, Sends, SubscriberComes, SubscriberLeaves}
use Rattle.iox_domain.specs.Calls.{SubscriberUpdates, Writes}
use Rattle.iox_domain.specs.Container.declared.container.Member.{Member}
use Rattle.iox_domain.specs.DomainPorts.Arriving.{new_subscriber}
use Rattle.iox_domain.specs.DomainPorts.Leaving.{departed, new_port}
use Rattle.iox_domain.specs.DomainPorts.Publishers.{connection_in, port_of, with_port}
use Rattle.iox_domain.specs.DomainPorts.Reading.{place_of}
use Rattle.iox_domain.specs.DomainPorts.Writing.{changed_if, given_up}
use Rattle.iox_domain.specs.DomainPorts.declared.attached.Taken.{Taken}
use Rattle.iox_domain.specs.DomainPorts.declared.publisher_entry.PublisherEntry.{PublisherEntry}
use Rattle.iox_domain.specs.DomainPorts.declared.publisher_port.PublisherPort.{PublisherPort}
use Rattle.iox_domain.specs.DomainPorts.declared.subscriber_entry.SubscriberEntry.{SubscriberEntry}
use Rattle.iox_domain.specs.DomainPorts.declared.subscriber_port.SubscriberPort.{SubscriberPort}
use Rattle.iox_domain.specs.DomainValues.Sizes.{buffer_of}
use Rattle.iox_domain.specs.DomainValues.declared.backpressure.BackpressureDecision.{BackpressureDecision}
use Rattle.iox_domain.specs.DomainValues.declared.backpressure.BackpressureInfo.{BackpressureInfo}
use Rattle.iox_domain.specs.DomainValues.declared.connection_failure.ConnectionFailure.{ConnectionFailure}
use Rattle.iox_domain.specs.DomainValues.declared.create_error.PublisherCreateError.{PublisherCreateError}
use Rattle.iox_domain.specs.DomainValues.declared.create_error.SubscriberCreateError.{SubscriberCreateError}
use Rattle.iox_domain.specs.DomainValues.declared.degradation.DegradationAction.{DegradationAction}
use Rattle.iox_domain.specs.DomainValues.declared.degradation.DegradationInfo.{DegradationInfo}
use Rattle.iox_domain.specs.DomainValues.declared.port_error.ReceiveError.{ReceiveError}
use Rattle.iox_domain.specs.DomainValues.declared.port_owner.PortOwner.{PortOwner}
use Rattle.iox_domain.specs.DomainValues.declared.service_sizes.ServiceSizes.{ServiceSizes}
use Rattle.iox_domain.specs.Making.{AddsPublisher, AddsSubscriber, CreatesPublisher, CreatesSubscriber, identity_of, publisher_place}
use Rattle.iox_domain.specs.Making.{sender_config, sequence_before, slots_needed, subscriber_place}
use Rattle.iox_domain.specs.Order.{Happen}
use Rattle.iox_domain.specs.Ports.{AtPublisher, AtSubscriber, no_ports, with_publisher}
use Rattle.iox_domain.specs.PortsPublishing as publishing
use Rattle.iox_domain.specs.PortsPublishing.{is_free}
use Rattle.iox_domain.specs.PortsSubscribing as subscribing
use Rattle.iox_domain.specs.Rolls.{RollState, changed_to, is_listed, left, may_change, new_roll}
use Rattle.iox_domain.specs.Subscribers.{subscriber_of}
use Rattle.iox_domain.specs.declared.ports.making.PublisherConfig.{PublisherConfig}
use Rattle.iox_domain.specs.declared.ports.service_ports.ServicePorts.{ServicePorts}
use Rattle.iox_lanes_sound.proofs.StrayLists.{ListGoes, list_changed, list_on, list_released, list_same, list_settled, list_settled_after}
use Rattle.iox_lanes_sound.proofs.StrayLists.{list_leaving, list_takes, list_walks, list_with}
use Rattle.iox_lanes_sound.proofs.Unfollowing.{changed_stays, departed_stays, given_up_stays, gives_up_stay, loans_stay, retries_stay}
use Rattle.iox_lanes_sound.proofs.Untying.{Goes, goes_same, goes_sends_one, goes_updates, goes_updates_one}
use Rattle.iox_lanes_sound.specs.Strays.{AreWithoutStrays, IsEntryWithoutStrays, IsWithoutStrays}

-- What each call does to a service.
record CallGoes {T U : Type 0} (old new : ServicePorts T U) : Type 0 where
  goes : AreWithoutStrays old → AreWithoutStrays new

call_same : {T U : Type 0} (old new : ServicePorts T U) → new ≡ old → CallGoes old new
call_same old new is = rw is (record { goes = λ all. all })

call_to : {T U : Type 0} (old new other : ServicePorts T U) → new ≡ other → CallGoes old other → CallGoes old new
call_to old new other is goes = rw is goes

-- the list of subscribers didn't change
call_list : {T U : Type 0} (old new : ServicePorts T U) → new.subscriber_list ≡ old.subscriber_list
    → ListGoes old.subscriber_list old.publishers new.publishers → CallGoes old new
call_list old new list goes = record { goes = λ all. rw list (goes.goes all) }

-- a call of a publisher
call_publisher : {T U A : Type 0} (number : ℕ) (step : PublisherPort T U → Option A → PublisherPort T U → Type 0)
    (found : Option (PublisherPort T U)) (old new : ServicePorts T U) (answer : Option A)
    → ((port after : PublisherPort T U) (answer : Option A) → step port answer after → Goes old.subscriber_list port after)
    → port_of number old.publishers ≡ found → AtPublisher number step found old answer new → CallGoes old new
call_publisher number step None old new answer goes there happens = call_same old new happens.1
call_publisher number step (Some port) old new None goes there happens = call_same old new happens.2
call_publisher {T} {U} number step (Some port) old new (Some value) goes there happens =
    let after : PublisherPort T U = happens.0 in
    call_to old new (with_publisher number after old) happens.2
    (call_list old (with_publisher number after old) refl
    (list_on old.subscriber_list old.publishers (with_port number old.publishers after) _
    (list_with old.subscriber_list number old.publishers port after there (goes port after (Some value) happens.1))
    (list_settled old.subscriber_list number (with_port number old.publishers after))))

-- a call of a subscriber
call_subscriber : {T U A : Type 0} (number : ℕ)
    (step : SubscriberPort → List (ℕ × PublisherPort T U) → Option A → SubscriberPort → List (ℕ × PublisherPort T U) → Type 0)
    (found : Option SubscriberPort) (old new : ServicePorts T U) (answer : Option A)
    → ((port after : SubscriberPort) (ports ports_after : List (ℕ × PublisherPort T U)) (answer : Option A)
    → step port ports answer after ports_after → ListGoes old.subscriber_list ports ports_after)
    → AtSubscriber number step found old answer new → CallGoes old new
call_subscriber number step None old new answer goes happens = call_same old new happens.1
call_subscriber number step (Some port) old new None goes happens = call_same old new happens.3
call_subscriber number step (Some port) old new (Some value) goes happens =
    let (after, ports_after, steps, is) = happens in
    call_to old new _ is (call_list old _ refl (goes port after old.publishers ports_after (Some value) steps))

updates_goes : {T U : Type 0} (list : RollState SubscriberEntry) (stands : Bool) (may : DegradationInfo → DegradationAction → Type 0)
    (others : RollState PublisherEntry) (port after : SubscriberPort) (ports ports_after : List (ℕ × PublisherPort T U))
    (answer : Option (Result (Unit {0}) ConnectionFailure))
    → subscribing.UpdatesIf stands may others port ports answer after ports_after → ListGoes list ports ports_after
updates_goes list false may others port after ports ports_after answer updates = list_same list ports ports_after updates.2
updates_goes list true may others port after ports ports_after answer updates =
    (walked_updates (list_walks list port.number) may updates.0 others.changes port after ports ports_after updates.2 refl updates.3).walked

has_goes : {T U : Type 0} (list : RollState SubscriberEntry) (stands : Bool) (may : DegradationInfo → DegradationAction → Type 0)
    (others : RollState PublisherEntry) (port after : SubscriberPort) (ports ports_after : List (ℕ × PublisherPort T U))
    (answer : Option (Result Bool ConnectionFailure))
    → subscribing.HasSamplesIf stands may others port ports answer after ports_after → ListGoes list ports ports_after
has_goes list false may others port after ports ports_after answer has = list_same list ports ports_after has.2
has_goes list true may others port after ports ports_after answer has =
    (walked_updates (list_walks list port.number) may has.0 others.changes port after ports ports_after has.3.0 refl has.3.1).walked

receives_goes : {T U : Type 0} (list : RollState SubscriberEntry) (stands : Bool) (may : DegradationInfo → DegradationAction → Type 0)
    (others : RollState PublisherEntry) (port after : SubscriberPort) (ports ports_after : List (ℕ × PublisherPort T U))
    (answer : Option (Result (Option Taken) ReceiveError))
    → subscribing.ReceivesIf stands may others port ports answer after ports_after → ListGoes list ports ports_after
receives_goes list false may others port after ports ports_after answer receives = list_same list ports ports_after receives.2
receives_goes list true may others port after ports ports_after answer receives =
    (walked_receives (list_walks list port.number) (list_takes list) may receives.0 others.changes port receives.3 ports ports_after
    receives.2 refl receives.4).walked

-- a publisher comes
fresh : {T U : Type 0} (list : RollState SubscriberEntry) (port : PublisherPort T U) → port.seen ≡ 0 → port.ties.items ≡ []
    → IsWithoutStrays list port
fresh list port seen items = record {
  seen = omega (arith, seen);
  listed = λ same place index there. let no : None ≡ Some index = sym (ap (λ all. get_or all place None) items) ∙ there in absurd (cc);
}

publisher_added : {T U : Type 0} (may : DegradationInfo → DegradationAction → Type 0) (config : PublisherConfig) (user_header : U)
    (place slots : ℕ) (old new : ServicePorts T U) (outcome : Result ℕ AllocError)
    → AddsPublisher may config user_header place slots old outcome new → CallGoes old new
publisher_added may config user_header place slots old new (Err error) adds = call_same old new adds
publisher_added {T} {U} may config user_header place slots old new (Ok number) adds =
    let (listed, is_list, outcome, port, updates, is_number, is_new) = adds in
    let first : PublisherPort T U = new_port (identity_of config.owner place old) old.sizes.max_subscribers config.allocation
    config.unit (sequence_before config old) (sender_config config slots old) user_header in
    let without : IsWithoutStrays old.subscriber_list port =
    goes_updates old.subscriber_list may listed first port outcome is_list updates (fresh old.subscriber_list first refl refl) in
    call_to old new _ is_new (record {
      goes = λ all. all_came (IsEntryWithoutStrays old.subscriber_list) old.next_port old.publishers port without (λ one is. without) all;
    })

publisher_comes : {T U : Type 0} (overrides : ℕ → ℕ → Type 0) (may : DegradationInfo → DegradationAction → Type 0)
    (config : PublisherConfig) (user_header : U) (needed place : Option ℕ) (old new : ServicePorts T U)
    (answer : Result ℕ PublisherCreateError) → CreatesPublisher overrides may config user_header needed place old answer new
    → CallGoes old new
publisher_comes overrides may config user_header None place old new answer creates = call_same old new creates.1
publisher_comes overrides may config user_header (Some needed) None old new answer creates = call_same old new creates.1
publisher_comes overrides may config user_header (Some needed) (Some place) old new answer creates =
    publisher_added may config user_header place _ old new creates.2 creates.3

-- the list of subscribers changed once more, so no publisher has seen all of it
one_more : {T U : Type 0} (list more : RollState SubscriberEntry) (port : PublisherPort T U) → more.changes ≡ list.changes + 1
    → IsWithoutStrays list port → IsWithoutStrays more port
one_more list more port is without = record {
  seen = omega (arith, is, without.seen);
  listed = λ same place index there. absurd (omega (arith, is, without.seen, same));
}

-- a subscriber comes
subscriber_added : {T U : Type 0} (may : DegradationInfo → DegradationAction → Type 0) (owner : PortOwner) (place buffer_size : ℕ)
    (old new : ServicePorts T U) (outcome : Result ℕ AllocError) → AddsSubscriber may owner place buffer_size old outcome new
    → CallGoes old new
subscriber_added may owner place buffer_size old new (Err error) adds = call_same old new adds
subscriber_added {T} {U} may owner place buffer_size old new (Ok number) adds =
    let (between, follows, is_number, is_new) = adds in
    let (listed, is_list, outcome, after, publishers_after, updates, is_between) = follows in
    let first : SubscriberPort = new_subscriber (identity_of owner place old) buffer_size old.sizes.max_publishers
    old.sizes.expired_connections in
    let list : RollState SubscriberEntry = old.subscriber_list in
    let entry : Member SubscriberEntry = record
    { number = list.changes + 1; owner = 1; value = record { subscriber = old.next_port; buffer_size = buffer_size } } in
    let more : RollState SubscriberEntry = changed_to (set list.places place (Some entry)) list in
    let walked : ListGoes list old.publishers publishers_after =
    (walked_updates (list_walks list first.number) may listed old.publisher_list.changes first after old.publishers publishers_after
    outcome refl updates).walked in
    let are : between.publishers ≡ publishers_after = ap (λ (ports : ServicePorts T U). ports.publishers) is_between in
    let follow : ListGoes list old.publishers between.publishers = rw are walked in
    call_to old new _ is_new (record {
      goes = λ all. all_then (IsEntryWithoutStrays list) (IsEntryWithoutStrays more) between.publishers
          (λ one without. one_more list more one.1 refl without) (follow.goes all);
    })

subscriber_comes : {T U : Type 0} (may : DegradationInfo → DegradationAction → Type 0) (owner : PortOwner)
    (buffer_size : Result ℕ SubscriberCreateError) (place : Option ℕ) (old new : ServicePorts T U) (answer : Result ℕ SubscriberCreateError)
    → CreatesSubscriber may owner buffer_size place old answer new → CallGoes old new
subscriber_comes may owner (Err refusal) place old new answer creates = call_same old new creates.1
subscriber_comes may owner (Ok buffer_size) None old new answer creates = call_same old new creates.1
subscriber_comes may owner (Ok buffer_size) (Some place) old new answer creates =
    subscriber_added may owner place buffer_size old new creates.0 creates.1

-- a publisher leaves
publisher_leaves_by : {T U : Type 0} (free : Bool) (number : ℕ) (port : PublisherPort T U) (old new : ServicePorts T U) (answer : Bool)
    → port_of number old.publishers ≡ Some port → publishing.LeavesPortIf free number port old answer new → CallGoes old new
publisher_leaves_by false number port old new answer there leaves = call_same old new leaves.1
publisher_leaves_by true number port old new answer there leaves =
    call_to old new _ leaves.1 (call_list old _ refl
    (list_on old.subscriber_list old.publishers (with_port number old.publishers (departed port)) _
    (list_with old.subscriber_list number old.publishers port (departed port) there
    (goes_same old.subscriber_list port (departed port) (departed_stays port)))
    (list_settled old.subscriber_list number (with_port number old.publishers (departed port)))))

publisher_leaves : {T U : Type 0} (number : ℕ) (found : Option (PublisherPort T U)) (old new : ServicePorts T U) (answer : Bool)
    → port_of number old.publishers ≡ found → publishing.LeavesAt number found old answer new → CallGoes old new
publisher_leaves number None old new answer there leaves = call_same old new leaves.1
publisher_leaves number (Some port) old new answer there leaves =
    publisher_leaves_by (is_free port) number port old new answer there leaves

-- a subscriber leaves
left_by : {T U : Type 0} (may listed : Bool) (list more : RollState SubscriberEntry) (port : PublisherPort T U)
    → more.changes ≡ list.changes + 1 → IsWithoutStrays list port
    → IsWithoutStrays (if may then (if listed then more else list) else list) port
left_by false listed list more port is without = without
left_by true false list more port is without = without
left_by true true list more port is without = one_more list more port is without

left_goes : {T U : Type 0} (place : ℕ) (list : RollState SubscriberEntry) (port : PublisherPort T U) → IsWithoutStrays list port
    → IsWithoutStrays (left place list) port
left_goes place list port without =
    left_by (may_change list) (is_listed place list) list (changed_to (set list.places place None) list) port refl without

subscriber_leaves_by : {T U : Type 0} (stands : Bool) (number : ℕ) (port : SubscriberPort) (old new : ServicePorts T U) (answer : Bool)
    → subscribing.LeavesPortIf stands number port old answer new → CallGoes old new
subscriber_leaves_by false number port old new answer leaves = call_same old new leaves.1
subscriber_leaves_by {T} {U} true number port old new answer leaves =
    let list : RollState SubscriberEntry = old.subscriber_list in
    let walked = left_all_walk (list_walks {T = T} {U = U} list port.number) (list_leaving list) port.connections.values
    old.publishers in
    call_to old new _ leaves.1 (record {
      goes = λ all. all_then (IsEntryWithoutStrays list) (IsEntryWithoutStrays (left port.place list)) _
          (λ one without. left_goes port.place list one.1 without) (walked.goes all);
    })

subscriber_leaves : {T U : Type 0} (number : ℕ) (found : Option SubscriberPort) (old new : ServicePorts T U) (answer : Bool)
    → subscribing.LeavesAt number found old answer new → CallGoes old new
subscriber_leaves number None old new answer leaves = call_same old new leaves.1
subscriber_leaves number (Some port) old new answer leaves = subscriber_leaves_by port.stands number port old new answer leaves

-- a sample is released
released_by : {T U : Type 0} (number : ℕ) (given : Taken) (place : Option ℕ) (old new : ServicePorts T U) (answer : Bool)
    → subscribing.ReleasesAt number given place old answer new → CallGoes old new
released_by number given None old new answer releases = call_same old new releases.1
released_by number given (Some at) old new answer releases =
    call_to old new _ releases.1 (call_list old _ refl
    (list_released old.subscriber_list given.publisher given.index at old.publishers))

releases_goes : {T U : Type 0} (found : Option SubscriberPort) (number : ℕ) (given : Taken) (old new : ServicePorts T U)
    (answer : Bool) → subscribing.ReleasesOf found number given old answer new → CallGoes old new
releases_goes None number given old new answer releases = call_same old new releases.1
releases_goes (Some port) number given old new answer releases =
    released_by number given (place_of given.slot (connection_in given.publisher given.index old.publishers)) old new answer releases

call_goes : {T U : Type 0} (overrides : ℕ → ℕ → Type 0) (may : DegradationInfo → DegradationAction → Type 0)
    (decide : BackpressureInfo → BackpressureDecision → Type 0) (call : PortCall T U) (old new : ServicePorts T U)
    → Happens overrides may decide call old new → CallGoes old new
call_goes overrides may decide (PublisherComes config user_header answer) old new happens =
    publisher_comes overrides may config user_header (slots_needed config old) (publisher_place old) old new answer happens
call_goes overrides may decide (SubscriberComes owner buffer_size answer) old new happens =
    subscriber_comes may owner (buffer_of buffer_size old.sizes) (subscriber_place old) old new answer happens
call_goes overrides may decide (Lends number values elements answer) old new happens =
    call_publisher number _ (port_of number old.publishers) old new answer
    (λ port after answer loans. goes_same old.subscriber_list port after (loans_stay values elements port after answer loans)) refl happens
call_goes overrides may decide (Writes number slot test change) old new happens =
    call_to old new _ happens (call_list old _ refl
    (list_changed old.subscriber_list number (λ port. changed_if (test port) slot change port) old.publishers
    (λ port. changed_stays (test port) slot change port)))
call_goes overrides may decide (GivesLoanUp number slot) old new happens =
    call_to old new _ happens (call_list old _ refl
    (list_settled_after old.subscriber_list number (given_up slot) old.publishers (given_up_stays slot)))
call_goes overrides may decide (PublisherUpdates number answer) old new happens =
    call_publisher number _ (port_of number old.publishers) old new answer
    (λ port after answer updates. goes_updates_one old.subscriber_list may port after answer updates) refl happens
call_goes overrides may decide (Sends number slot answer) old new happens =
    call_publisher number _ (port_of number old.publishers) old new answer
    (λ port after answer sends. goes_sends_one old.subscriber_list may decide slot port after answer sends) refl happens
call_goes overrides may decide (Retries number elapsed answer) old new happens =
    call_publisher number _ (port_of number old.publishers) old new answer
    (λ port after answer retries. goes_same old.subscriber_list port after (retries_stay decide elapsed port after answer retries)) refl
    happens
call_goes overrides may decide (GivesSendUp number answer) old new happens =
    call_publisher number _ (port_of number old.publishers) old new answer
    (λ port after answer gives. goes_same old.subscriber_list port after (gives_up_stay port after answer gives)) refl happens
call_goes overrides may decide (PublisherLeaves number answer) old new happens =
    publisher_leaves number (port_of number old.publishers) old new answer refl happens
call_goes overrides may decide (SubscriberUpdates number answer) old new happens =
    call_subscriber number _ (subscriber_of number old.subscribers) old new answer
    (λ port after ports ports_after answer updates. updates_goes old.subscriber_list port.stands may old.publisher_list port after
    ports ports_after answer updates) happens
call_goes overrides may decide (AsksForSamples number answer) old new happens =
    call_subscriber number _ (subscriber_of number old.subscribers) old new answer
    (λ port after ports ports_after answer has. has_goes old.subscriber_list port.stands may old.publisher_list port after ports
    ports_after answer has) happens
call_goes overrides may decide (Receives number answer) old new happens =
    call_subscriber number _ (subscriber_of number old.subscribers) old new answer
    (λ port after ports ports_after answer receives. receives_goes old.subscriber_list port.stands may old.publisher_list port after
    ports ports_after answer receives) happens
call_goes overrides may decide (Releases number given answer) old new happens =
    releases_goes (subscribing.taker_of number given old.subscribers) number given old new answer happens
call_goes overrides may decide (SubscriberLeaves number answer) old new happens =
    subscriber_leaves number (subscriber_of number old.subscribers) old new answer happens

pub goes_on : {T U : Type 0} (overrides : ℕ → ℕ → Type 0) (may : DegradationInfo → DegradationAction → Type 0)
    (decide : BackpressureInfo → BackpressureDecision → Type 0) (call : PortCall T U) (old new : ServicePorts T U)
    → Happens overrides may decide call old new → AreWithoutStrays old → AreWithoutStrays new
goes_on overrides may decide call old new happens = (call_goes overrides may decide call old new happens).goes

pub begins : {T U : Type 0} (service : ℕ) (sizes : ServiceSizes) (ports : ServicePorts T U) → ports ≡ no_ports service sizes
    → AreWithoutStrays ports
begins service sizes ports is = rw is (All-nil (IsEntryWithoutStrays (new_roll sizes.max_subscribers)))

-- any calls
pub stay_without : {T U : Type 0} (overrides : ℕ → ℕ → Type 0) (may : DegradationInfo → DegradationAction → Type 0)
    (decide : BackpressureInfo → BackpressureDecision → Type 0) (calls : List (PortCall T U × ServicePorts T U))
    (old new : ServicePorts T U)
    → Happen overrides may decide calls old new → AreWithoutStrays old → AreWithoutStrays new
stay_without overrides may decide [] old new happen without = (call_same old new happen).goes without
stay_without overrides may decide ((call, next) ∷ calls) old new happen without =
    stay_without overrides may decide calls next new happen.1 (goes_on overrides may decide call old next happen.0 without)
