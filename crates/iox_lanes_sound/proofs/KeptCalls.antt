-- Each call of a domain leaves the ports of a service such that each publisher keeps to one where its room doesn't grow.
use Rattle.std.proofs.Common.{arith, ◌≡◌, ◌+◌, ◌-◌, ◌<◌, ◌∷◌, [], ℕ, zero, suc, Bool, true, false, List, Option, None, Some, Result, Ok}
use Rattle.std.proofs.Common.{Err, refl, get_or, max, nat_le, replicate, set, sym, ap, ◌∙◌, if◌then◌else◌}
use Rattle.std.proofs.lemmas.List.Elements.{All-nil}
use Rattle.std.specs.List.{All}
use Rattle.std.specs.declared.alloc.AllocError.{AllocError}
use Rattle.iox_domain.proofs.Numbered.{FoundEntry, all_came, all_gone, all_set, at_number, found_of_all}
use Rattle.iox_domain.specs.Calls.{AsksForSamples, GivesLoanUp, GivesSendUp, Happens, Lends, PortCall, PublisherComes, PublisherLeaves}
use Rattle.iox_domain.specs.Calls.{PublisherUpdates, Receives, Releases, Retries, Sends, SubscriberComes, SubscriberLeaves}
use Rattle.iox_domain.specs.Calls.{SubscriberUpdates, Writes}
use Rattle.iox_domain.specs.Container.declared.container.Member.{Member}
use Rattle.iox_domain.specs.DomainPorts.Arriving.{new_subscriber}
use Rattle.iox_domain.specs.DomainPorts.Leaving.{departed, new_port}
use Rattle.iox_domain.specs.DomainPorts.Publishers.{connection_in, port_of, with_port}
use Rattle.iox_domain.specs.DomainPorts.Reading.{place_of}
use Rattle.iox_domain.specs.DomainPorts.Writing.{changed_if, given_up}
use Rattle.iox_domain.specs.DomainPorts.declared.attached.Taken.{Taken}
use Rattle.iox_domain.specs.DomainPorts.declared.publisher_entry.PublisherEntry.{PublisherEntry}
use Rattle.iox_domain.specs.DomainPorts.declared.publisher_port.PublisherPort.{PublisherPort}
use Rattle.iox_domain.specs.DomainPorts.declared.subscriber_entry.SubscriberEntry.{SubscriberEntry}
use Rattle.iox_domain.specs.DomainPorts.declared.subscriber_port.SubscriberPort.{SubscriberPort}
use Rattle.iox_domain.specs.DomainValues.Sizes.{buffer_of}
use Rattle.iox_domain.specs.DomainValues.declared.backpressure.BackpressureDecision.{BackpressureDecision}
use Rattle.iox_domain.specs.DomainValues.declared.backpressure.BackpressureInfo.{BackpressureInfo}
use Rattle.iox_domain.specs.DomainValues.declared.connection_failure.ConnectionFailure.{ConnectionFailure}
use Rattle.iox_domain.specs.DomainValues.declared.create_error.PublisherCreateError.{PublisherCreateError}
use Rattle.iox_domain.specs.DomainValues.declared.create_error.SubscriberCreateError.{SubscriberCreateError}
use Rattle.iox_domain.specs.DomainValues.declared.degradation.DegradationAction.{DegradationAction}
use Rattle.iox_domain.specs.DomainValues.declared.degradation.DegradationInfo.{DegradationInfo}
use Rattle.iox_domain.specs.DomainValues.declared.port_error.ReceiveError.{ReceiveError}
use Rattle.iox_domain.specs.DomainValues.declared.port_owner.PortOwner.{PortOwner}
use Rattle.iox_domain.specs.DomainValues.declared.service_sizes.ServiceSizes.{ServiceSizes}
use Rattle.iox_domain.specs.Making.{AddsPublisher, AddsSubscriber, CreatesPublisher, CreatesSubscriber, identity_of, publisher_place}
use Rattle.iox_domain.specs.Making.{sender_config, sequence_before, slots_needed, subscriber_place}
use Rattle.iox_domain.specs.Order.{Happen}
use Rattle.iox_domain.specs.Ports.{AtPublisher, AtSubscriber, no_ports, with_both}
use Rattle.iox_domain.specs.PortsPublishing as publishing
use Rattle.iox_domain.specs.PortsPublishing.{is_free}
use Rattle.iox_domain.specs.PortsSubscribing as subscribing
use Rattle.iox_domain.specs.PortsSubscribing.{counted_by, let_go_at}
use Rattle.iox_domain.specs.Rolls.{RollState, changed_to, is_listed, left, may_change}
use Rattle.iox_domain.specs.Subscribers as members
use Rattle.iox_domain.specs.Subscribers.{is_over_in, subscriber_added, subscriber_of, subscriber_removed, with_subscriber}
use Rattle.iox_domain.specs.declared.ports.making.PublisherConfig.{PublisherConfig}
use Rattle.iox_domain.specs.declared.ports.service_ports.ServicePorts.{ServicePorts}
use Rattle.iox_lanes_sound.proofs.Kept.{Keeps, keeps_changed, keeps_departed, keeps_given_up, keeps_gives_up, keeps_loans, keeps_retries}
use Rattle.iox_lanes_sound.proofs.KeptLists.{ListKeeps, kept_changed, kept_left_all, kept_on, kept_released, kept_settled}
use Rattle.iox_lanes_sound.proofs.KeptLists.{kept_settled_after, kept_with}
use Rattle.iox_lanes_sound.proofs.KeptReading.{Read, read_receives, read_updates}
use Rattle.iox_lanes_sound.proofs.KeptUpdates.{AllMayWait, keeps_sends_one, keeps_updates, keeps_updates_one}
use Rattle.iox_lanes_sound.specs.Keeping.{IsKeptToOne, KeepToOneIfStatic, KeepsToOneIfStatic, MayWaitFor}

-- the subscribers of a service
may_set : (number : ℕ) (subscribers : List (ℕ × SubscriberPort)) (after : SubscriberPort) → 0 < after.buffer_size
    → All MayWaitFor subscribers → All MayWaitFor (with_subscriber number subscribers after)
may_set number subscribers after some all = all_set MayWaitFor (at_number number) subscribers after (λ one is. some) all

may_found : (number : ℕ) (subscribers : List (ℕ × SubscriberPort)) (port : SubscriberPort) → All MayWaitFor subscribers
    → subscriber_of number subscribers ≡ Some port → 0 < port.buffer_size
may_found number subscribers port all there =
    let found : FoundEntry MayWaitFor (at_number number) port
    = found_of_all MayWaitFor (at_number number) subscribers port all there in
    found.holds

may_if : (over : Bool) (number : ℕ) (subscribers : List (ℕ × SubscriberPort)) → All MayWaitFor subscribers
    → All MayWaitFor (if over then subscriber_removed number subscribers else subscribers)
may_if true number subscribers all = all_gone MayWaitFor (at_number number) subscribers all
may_if false number subscribers all = all

may_settled : (number : ℕ) (subscribers : List (ℕ × SubscriberPort)) → All MayWaitFor subscribers
    → All MayWaitFor (members.settled number subscribers)
may_settled number subscribers all = may_if (is_over_in number subscribers) number subscribers all

may_let_go : (number : ℕ) (found : Option SubscriberPort) (subscribers : List (ℕ × SubscriberPort))
    → subscriber_of number subscribers ≡ found → All MayWaitFor subscribers → All MayWaitFor (let_go_at number found subscribers)
may_let_go number None subscribers there all = all
may_let_go number (Some port) subscribers there all =
    may_set number subscribers (record port { held = port.held - 1 }) (may_found number subscribers port all there) all

-- the list of subscribers
listed_set : (places : List (Option (Member SubscriberEntry))) (place : ℕ) (item : Option (Member SubscriberEntry))
    → ((member : Member SubscriberEntry) → item ≡ Some member → 0 < member.value.buffer_size) → AllMayWait places
    → AllMayWait (set places place item)
listed_set [] place item own all other member is = all other member is
listed_set (x ∷ xs) zero item own all zero member is = own member is
listed_set (x ∷ xs) zero item own all (suc other) member is = all (suc other) member is
listed_set (x ∷ xs) (suc place) item own all zero member is = all zero member is
listed_set (x ∷ xs) (suc place) item own all (suc other) member is =
    listed_set xs place item own (λ k. all (suc k)) other member is

listed_left_by : (may listed : Bool) (place : ℕ) (list : RollState SubscriberEntry) → AllMayWait list.places
    → AllMayWait (if may then (if listed then changed_to (set list.places place None) list else list) else list).places
listed_left_by false listed place list all = all
listed_left_by true false place list all = all
listed_left_by true true place list all = listed_set list.places place None (λ member is. absurd (cc is)) all

listed_left : (place : ℕ) (list : RollState SubscriberEntry) → AllMayWait list.places → AllMayWait (left place list).places
listed_left place list all = listed_left_by (may_change list) (is_listed place list) place list all

none_listed : (count place : ℕ) (member : Member SubscriberEntry) → get_or (replicate count None) place None ≡ Some member → ⊥
none_listed zero place member is = cc is
none_listed (suc count) zero member is = cc is
none_listed (suc count) (suc place) member is = none_listed count place member is

-- as many as may wait for a subscriber that comes are some
same_ok : {X E : Type 0} (answer : Result X E) (x y : X) → answer ≡ Ok x → answer ≡ Ok y → x ≡ y
same_ok answer x y is too = cc (is, too)

named_some : (fits : Bool) (named n : ℕ) (refusal : SubscriberCreateError) → (if fits then Ok (max named 1) else Err refusal) ≡ Ok n → 0 < n
named_some true named n refusal is = let same : max named 1 ≡ n = cc is in omega (arith, same)
named_some false named n refusal is = absurd (cc is)

buffer_some : (named : Option ℕ) (sizes : ServiceSizes) (n : ℕ) → 0 < sizes.subscriber_max_buffer_size → buffer_of named sizes ≡ Ok n
    → 0 < n
buffer_some None sizes n some is
    = omega (arith, some, same_ok (buffer_of None sizes) sizes.subscriber_max_buffer_size n refl is)
buffer_some (Some named) sizes n some is = named_some (nat_le (max named 1) sizes.subscriber_max_buffer_size) named n _ is

-- what each call does to a service
record CallKeeps {T U : Type 0} (old new : ServicePorts T U) : Type 0 where
  goes : KeepToOneIfStatic old → KeepToOneIfStatic new

call_same : {T U : Type 0} (old new : ServicePorts T U) → new ≡ old → CallKeeps old new
call_same old new is = rw is (record { goes = λ kept. kept })

call_to : {T U : Type 0} (old new other : ServicePorts T U) → new ≡ other → CallKeeps old other → CallKeeps old new
call_to old new other is keeps = rw is keeps

-- only the publishers changed
call_list : {T U : Type 0} (old new : ServicePorts T U) (publishers : List (ℕ × PublisherPort T U))
    → new ≡ record old { publishers = publishers } → (KeepToOneIfStatic old → ListKeeps old.publishers publishers) → CallKeeps old new
call_list old new publishers is keeps = call_to old new _ is (record {
  goes = λ kept. record {
    room = kept.room;
    publishers = (keeps kept).goes kept.publishers;
    subscribers = kept.subscribers;
    listed = kept.listed;
  };
})

-- a call of a publisher
call_publisher : {T U A : Type 0} (number : ℕ) (step : PublisherPort T U → Option A → PublisherPort T U → Type 0)
    (found : Option (PublisherPort T U)) (old new : ServicePorts T U) (answer : Option A)
    → ((port after : PublisherPort T U) (answer : Option A) → AllMayWait old.subscriber_list.places → step port answer after
    → Keeps port after) → port_of number old.publishers ≡ found → AtPublisher number step found old answer new → CallKeeps old new
call_publisher number step None old new answer keeps there happens = call_same old new happens.1
call_publisher number step (Some port) old new None keeps there happens = call_same old new happens.2
call_publisher {T} {U} number step (Some port) old new (Some value) keeps there happens =
    let after : PublisherPort T U = happens.0 in
    call_list old new _ happens.2 (λ kept.
    kept_on old.publishers (with_port number old.publishers after) _
    (kept_with number old.publishers port after there (keeps port after (Some value) kept.listed happens.1))
    (kept_settled number (with_port number old.publishers after)))

-- a call of a subscriber
call_subscriber : {T U A : Type 0} (number : ℕ)
    (step : SubscriberPort → List (ℕ × PublisherPort T U) → Option A → SubscriberPort → List (ℕ × PublisherPort T U) → Type 0)
    (found : Option SubscriberPort) (old new : ServicePorts T U) (answer : Option A)
    → ((port after : SubscriberPort) (ports ports_after : List (ℕ × PublisherPort T U)) (answer : Option A) → 0 < port.buffer_size
    → step port ports answer after ports_after → Read port after ports ports_after) → subscriber_of number old.subscribers ≡ found
    → AtSubscriber number step found old answer new → CallKeeps old new
call_subscriber number step None old new answer reads there happens = call_same old new happens.1
call_subscriber number step (Some port) old new None reads there happens = call_same old new happens.3
call_subscriber {T} {U} number step (Some port) old new (Some value) reads there happens =
    let (after, ports_after, steps, is) = happens in
    call_to old new (with_both number after ports_after old) is (record {
      goes = λ kept.
          let some : 0 < port.buffer_size = may_found number old.subscribers port kept.subscribers there in
          let read : Read port after old.publishers ports_after = reads port after old.publishers ports_after (Some value) some steps in
          record {
            room = kept.room;
            publishers = read.kept.goes kept.publishers;
            subscribers = may_set number old.subscribers after (omega (arith, some, read.same)) kept.subscribers;
            listed = kept.listed;
          };
    })

same_read : {T U : Type 0} (port after : SubscriberPort) (ports ports_after : List (ℕ × PublisherPort T U)) → after ≡ port
    → ports_after ≡ ports → Read port after ports ports_after
same_read port after ports ports_after is are = rw is (rw are (record { same = refl; kept = record { goes = λ all. all } }))

updates_read : {T U : Type 0} (stands : Bool) (may : DegradationInfo → DegradationAction → Type 0) (others : RollState PublisherEntry)
    (port after : SubscriberPort) (ports ports_after : List (ℕ × PublisherPort T U))
    (answer : Option (Result (Unit {0}) ConnectionFailure)) → 0 < port.buffer_size
    → subscribing.UpdatesIf stands may others port ports answer after ports_after → Read port after ports ports_after
updates_read false may others port after ports ports_after answer some updates
    = same_read port after ports ports_after updates.1 updates.2
updates_read true may others port after ports ports_after answer some updates =
    read_updates may updates.0 others.changes port after ports ports_after updates.2 some updates.3

has_read : {T U : Type 0} (stands : Bool) (may : DegradationInfo → DegradationAction → Type 0) (others : RollState PublisherEntry)
    (port after : SubscriberPort) (ports ports_after : List (ℕ × PublisherPort T U)) (answer : Option (Result Bool ConnectionFailure))
    → 0 < port.buffer_size → subscribing.HasSamplesIf stands may others port ports answer after ports_after
    → Read port after ports ports_after
has_read false may others port after ports ports_after answer some has = same_read port after ports ports_after has.1 has.2
has_read true may others port after ports ports_after answer some has =
    read_updates may has.0 others.changes port after ports ports_after has.3.0 some has.3.1

counted_same : (outcome : Result (Option Taken) ReceiveError) (port : SubscriberPort)
    → (counted_by outcome port).buffer_size ≡ port.buffer_size
counted_same (Ok (Some taken)) port = refl
counted_same (Ok None) port = refl
counted_same (Err error) port = refl

receives_read : {T U : Type 0} (stands : Bool) (may : DegradationInfo → DegradationAction → Type 0) (others : RollState PublisherEntry)
    (port after : SubscriberPort) (ports ports_after : List (ℕ × PublisherPort T U))
    (answer : Option (Result (Option Taken) ReceiveError)) → 0 < port.buffer_size
    → subscribing.ReceivesIf stands may others port ports answer after ports_after → Read port after ports ports_after
receives_read false may others port after ports ports_after answer some receives
    = same_read port after ports ports_after receives.1 receives.2
receives_read {T} {U} true may others port after ports ports_after answer some receives =
    let (listed, is, outcome, received, next, is_after, is_answer) = receives in
    let read : Read port received ports ports_after
    = read_receives may listed others.changes port received ports ports_after outcome some next in
    record {
      same = ap (λ (one : SubscriberPort). one.buffer_size) is_after ∙ counted_same outcome received ∙ read.same;
      kept = read.kept;
    }

-- a publisher comes
publisher_added : {T U : Type 0} (may : DegradationInfo → DegradationAction → Type 0) (config : PublisherConfig) (user_header : U)
    (place slots : ℕ) (old new : ServicePorts T U) (outcome : Result ℕ AllocError)
    → AddsPublisher may config user_header place slots old outcome new → CallKeeps old new
publisher_added may config user_header place slots old new (Err error) adds = call_same old new adds
publisher_added {T} {U} may config user_header place slots old new (Ok number) adds =
    let (listed, is_list, outcome, port, updates, is_number, is_new) = adds in
    let first : PublisherPort T U = new_port (identity_of config.owner place old) old.sizes.max_subscribers config.allocation
    config.unit (sequence_before config old) (sender_config config slots old) user_header in
    call_to old new _ is_new (record {
      goes = λ kept.
          let fresh : KeepsToOneIfStatic first
          = record { first = λ is. refl; few = omega arith; some = λ index there. absurd (cc there); room = kept.room } in
          let keeps : Keeps first port = keeps_updates old.subscriber_list may listed first port outcome kept.listed is_list updates in
          let own : KeepsToOneIfStatic port = keeps.goes fresh in
          record {
            room = kept.room;
            publishers = all_came IsKeptToOne old.next_port old.publishers port own (λ one is. own) kept.publishers;
            subscribers = kept.subscribers;
            listed = kept.listed;
          };
    })

publisher_comes : {T U : Type 0} (overrides : ℕ → ℕ → Type 0) (may : DegradationInfo → DegradationAction → Type 0)
    (config : PublisherConfig) (user_header : U) (needed place : Option ℕ) (old new : ServicePorts T U)
    (answer : Result ℕ PublisherCreateError) → CreatesPublisher overrides may config user_header needed place old answer new
    → CallKeeps old new
publisher_comes overrides may config user_header None place old new answer creates = call_same old new creates.1
publisher_comes overrides may config user_header (Some needed) None old new answer creates = call_same old new creates.1
publisher_comes overrides may config user_header (Some needed) (Some place) old new answer creates =
    publisher_added may config user_header place _ old new creates.2 creates.3

-- a subscriber comes for whom one may wait
subscriber_new : {T U : Type 0} (may : DegradationInfo → DegradationAction → Type 0) (owner : PortOwner) (place buffer_size : ℕ)
    (old new : ServicePorts T U) (outcome : Result ℕ AllocError) → (KeepToOneIfStatic old → 0 < buffer_size)
    → AddsSubscriber may owner place buffer_size old outcome new → CallKeeps old new
subscriber_new may owner place buffer_size old new (Err error) some adds = call_same old new adds
subscriber_new {T} {U} may owner place buffer_size old new (Ok number) some adds =
    let (between, follows, is_number, is_new) = adds in
    let (listed, is_list, outcome, after, publishers_after, updates, is_between) = follows in
    let first : SubscriberPort = new_subscriber (identity_of owner place old) buffer_size old.sizes.max_publishers
    old.sizes.expired_connections in
    let entry : Member SubscriberEntry = record
    { number = old.subscriber_list.changes + 1; owner = 1; value = record { subscriber = old.next_port; buffer_size = buffer_size } } in
    call_to old new _ is_new (rw is_between (record {
      goes = λ kept.
          let read : Read first after old.publishers publishers_after
          = read_updates may listed old.publisher_list.changes first after old.publishers publishers_after outcome (some kept) updates in
          record {
            room = kept.room;
            publishers = read.kept.goes kept.publishers;
            subscribers = may_set old.next_port (subscriber_added old.next_port first old.subscribers) after
                (omega (arith, some kept, read.same))
                (all_came MayWaitFor old.next_port old.subscribers first (some kept) (λ one is. some kept) kept.subscribers);
            listed = listed_set old.subscriber_list.places place (Some entry) (λ member is. entry_some entry member is (some kept))
                kept.listed;
          };
    }))
  where
    entry_some : (entry member : Member SubscriberEntry) → Some entry ≡ Some member → 0 < entry.value.buffer_size
        → 0 < member.value.buffer_size
    entry_some entry member is some = let same : entry ≡ member = cc is in rw (sym same) some

subscriber_comes : {T U : Type 0} (may : DegradationInfo → DegradationAction → Type 0) (owner : PortOwner)
    (buffer_size : Result ℕ SubscriberCreateError) (place : Option ℕ) (old new : ServicePorts T U) (answer : Result ℕ SubscriberCreateError)
    → ((n : ℕ) → buffer_size ≡ Ok n → KeepToOneIfStatic old → 0 < n) → CreatesSubscriber may owner buffer_size place old answer new
    → CallKeeps old new
subscriber_comes may owner (Err refusal) place old new answer some creates = call_same old new creates.1
subscriber_comes may owner (Ok buffer_size) None old new answer some creates = call_same old new creates.1
subscriber_comes may owner (Ok buffer_size) (Some place) old new answer some creates =
    subscriber_new may owner place buffer_size old new creates.0 (some buffer_size refl) creates.1

-- a publisher leaves
publisher_leaves_by : {T U : Type 0} (free : Bool) (number : ℕ) (port : PublisherPort T U) (old new : ServicePorts T U) (answer : Bool)
    → port_of number old.publishers ≡ Some port → publishing.LeavesPortIf free number port old answer new → CallKeeps old new
publisher_leaves_by false number port old new answer there leaves = call_same old new leaves.1
publisher_leaves_by true number port old new answer there leaves = call_to old new _ leaves.1 (record {
  goes = λ kept. record {
    room = kept.room;
    publishers = (kept_on old.publishers (with_port number old.publishers (departed port)) _
        (kept_with number old.publishers port (departed port) there (keeps_departed port))
        (kept_settled number (with_port number old.publishers (departed port)))).goes kept.publishers;
    subscribers = kept.subscribers;
    listed = kept.listed;
  };
})

publisher_leaves : {T U : Type 0} (number : ℕ) (found : Option (PublisherPort T U)) (old new : ServicePorts T U) (answer : Bool)
    → port_of number old.publishers ≡ found → publishing.LeavesAt number found old answer new → CallKeeps old new
publisher_leaves number None old new answer there leaves = call_same old new leaves.1
publisher_leaves number (Some port) old new answer there leaves =
    publisher_leaves_by (is_free port) number port old new answer there leaves

-- a subscriber leaves
subscriber_leaves_by : {T U : Type 0} (stands : Bool) (number : ℕ) (port : SubscriberPort) (old new : ServicePorts T U) (answer : Bool)
    → subscriber_of number old.subscribers ≡ Some port → subscribing.LeavesPortIf stands number port old answer new → CallKeeps old new
subscriber_leaves_by false number port old new answer there leaves = call_same old new leaves.1
subscriber_leaves_by true number port old new answer there leaves =
    let gone : SubscriberPort = record port { stands = false } in
    call_to old new _ leaves.1 (record {
      goes = λ kept. record {
        room = kept.room;
        publishers = (kept_left_all port.connections.values old.publishers).goes kept.publishers;
        subscribers = may_settled number (with_subscriber number old.subscribers gone)
            (may_set number old.subscribers gone (may_found number old.subscribers port kept.subscribers there) kept.subscribers);
        listed = listed_left port.place old.subscriber_list kept.listed;
      };
    })

subscriber_leaves : {T U : Type 0} (number : ℕ) (found : Option SubscriberPort) (old new : ServicePorts T U) (answer : Bool)
    → subscriber_of number old.subscribers ≡ found → subscribing.LeavesAt number found old answer new → CallKeeps old new
subscriber_leaves number None old new answer there leaves = call_same old new leaves.1
subscriber_leaves number (Some port) old new answer there leaves =
    subscriber_leaves_by port.stands number port old new answer there leaves

-- a sample is released
released_by : {T U : Type 0} (number : ℕ) (given : Taken) (place : Option ℕ) (old new : ServicePorts T U) (answer : Bool)
    → subscribing.ReleasesAt number given place old answer new → CallKeeps old new
released_by number given None old new answer releases = call_same old new releases.1
released_by number given (Some at) old new answer releases = call_to old new _ releases.1 (record {
  goes = λ kept. record {
    room = kept.room;
    publishers = (kept_released given.publisher given.index at old.publishers).goes kept.publishers;
    subscribers = may_settled number (let_go_at number (subscriber_of number old.subscribers) old.subscribers)
        (may_let_go number (subscriber_of number old.subscribers) old.subscribers refl kept.subscribers);
    listed = kept.listed;
  };
})

releases_keep : {T U : Type 0} (found : Option SubscriberPort) (number : ℕ) (given : Taken) (old new : ServicePorts T U)
    (answer : Bool) → subscribing.ReleasesOf found number given old answer new → CallKeeps old new
releases_keep None number given old new answer releases = call_same old new releases.1
releases_keep (Some port) number given old new answer releases =
    released_by number given (place_of given.slot (connection_in given.publisher given.index old.publishers)) old new answer releases

call_keeps : {T U : Type 0} (overrides : ℕ → ℕ → Type 0) (may : DegradationInfo → DegradationAction → Type 0)
    (decide : BackpressureInfo → BackpressureDecision → Type 0) (call : PortCall T U) (old new : ServicePorts T U)
    → Happens overrides may decide call old new → CallKeeps old new
call_keeps overrides may decide (PublisherComes config user_header answer) old new happens =
    publisher_comes overrides may config user_header (slots_needed config old) (publisher_place old) old new answer happens
call_keeps overrides may decide (SubscriberComes owner buffer_size answer) old new happens =
    subscriber_comes may owner (buffer_of buffer_size old.sizes) (subscriber_place old) old new answer
    (λ n is kept. buffer_some buffer_size old.sizes n kept.room is) happens
call_keeps overrides may decide (Lends number values elements answer) old new happens =
    call_publisher number _ (port_of number old.publishers) old new answer
    (λ port after answer some loans. keeps_loans values elements port after answer loans) refl happens
call_keeps overrides may decide (Writes number slot test change) old new happens =
    call_list old new _ happens (λ kept.
    kept_changed number (λ port. changed_if (test port) slot change port) old.publishers
    (λ port. keeps_changed (test port) slot change port))
call_keeps overrides may decide (GivesLoanUp number slot) old new happens =
    call_list old new _ happens (λ kept. kept_settled_after number (given_up slot) old.publishers (keeps_given_up slot))
call_keeps overrides may decide (PublisherUpdates number answer) old new happens =
    call_publisher number _ (port_of number old.publishers) old new answer
    (λ port after answer some updates. keeps_updates_one old.subscriber_list may port after answer some updates) refl happens
call_keeps overrides may decide (Sends number slot answer) old new happens =
    call_publisher number _ (port_of number old.publishers) old new answer
    (λ port after answer some sends. keeps_sends_one old.subscriber_list may decide slot port after answer some sends) refl happens
call_keeps overrides may decide (Retries number elapsed answer) old new happens =
    call_publisher number _ (port_of number old.publishers) old new answer
    (λ port after answer some retries. keeps_retries decide elapsed port after answer retries) refl happens
call_keeps overrides may decide (GivesSendUp number answer) old new happens =
    call_publisher number _ (port_of number old.publishers) old new answer
    (λ port after answer some gives. keeps_gives_up port after answer gives) refl happens
call_keeps overrides may decide (PublisherLeaves number answer) old new happens =
    publisher_leaves number (port_of number old.publishers) old new answer refl happens
call_keeps overrides may decide (SubscriberUpdates number answer) old new happens =
    call_subscriber number _ (subscriber_of number old.subscribers) old new answer
    (λ port after ports ports_after answer some updates. updates_read port.stands may old.publisher_list port after ports ports_after
    answer some updates) refl happens
call_keeps overrides may decide (AsksForSamples number answer) old new happens =
    call_subscriber number _ (subscriber_of number old.subscribers) old new answer
    (λ port after ports ports_after answer some has. has_read port.stands may old.publisher_list port after ports ports_after answer
    some has) refl happens
call_keeps overrides may decide (Receives number answer) old new happens =
    call_subscriber number _ (subscriber_of number old.subscribers) old new answer
    (λ port after ports ports_after answer some receives. receives_read port.stands may old.publisher_list port after ports ports_after
    answer some receives) refl happens
call_keeps overrides may decide (Releases number given answer) old new happens =
    releases_keep (subscribing.taker_of number given old.subscribers) number given old new answer happens
call_keeps overrides may decide (SubscriberLeaves number answer) old new happens =
    subscriber_leaves number (subscriber_of number old.subscribers) old new answer refl happens

pub goes_on : {T U : Type 0} (overrides : ℕ → ℕ → Type 0) (may : DegradationInfo → DegradationAction → Type 0)
    (decide : BackpressureInfo → BackpressureDecision → Type 0) (call : PortCall T U) (old new : ServicePorts T U)
    → Happens overrides may decide call old new → KeepToOneIfStatic old → KeepToOneIfStatic new
goes_on overrides may decide call old new happens = (call_keeps overrides may decide call old new happens).goes

pub begins : {T U : Type 0} (service : ℕ) (sizes : ServiceSizes) (ports : ServicePorts T U) → 0 < sizes.subscriber_max_buffer_size
    → ports ≡ no_ports service sizes → KeepToOneIfStatic ports
begins service sizes ports some is = rw is (record {
  room = some;
  publishers = All-nil IsKeptToOne;
  subscribers = All-nil MayWaitFor;
  listed = λ place member there. absurd (none_listed sizes.max_subscribers place member there);
})

-- any calls
pub stay_to_one : {T U : Type 0} (overrides : ℕ → ℕ → Type 0) (may : DegradationInfo → DegradationAction → Type 0)
    (decide : BackpressureInfo → BackpressureDecision → Type 0) (calls : List (PortCall T U × ServicePorts T U))
    (old new : ServicePorts T U)
    → Happen overrides may decide calls old new → KeepToOneIfStatic old → KeepToOneIfStatic new
stay_to_one overrides may decide [] old new happen kept = (call_same old new happen).goes kept
stay_to_one overrides may decide ((call, next) ∷ calls) old new happen kept =
    stay_to_one overrides may decide calls next new happen.1 (goes_on overrides may decide call old next happen.0 kept)
