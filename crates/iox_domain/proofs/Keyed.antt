-- The keys of each subscriber of a service stay in order through each call.
use Rattle.std.proofs.Common.{arith, ◌≡◌, ◌+◌, ◌-◌, ◌≤◌, ◌==◌, ◌&&◌, ℕ, Bool, true, false, not, List, length, length-append, length-set}
use Rattle.std.proofs.Common.{replicate, set, Option, None, Some, Result, Ok, Err, refl, sym, ap, ◌∙◌, subst, if◌then◌else◌}
use Rattle.std.proofs.lemmas.List.{length-replicate}
use Rattle.std.proofs.lemmas.List.Elements.{All-nil}
use Rattle.std.specs.List.{All}
use Rattle.std.specs.declared.alloc.AllocError.{AllocError}
use Rattle.iox_domain.specs.Container.declared.container.Member.{Member}
use Rattle.iox_domain.specs.DomainValues.Sizes.{buffer_of}
use Rattle.iox_domain.specs.DomainValues.declared.backpressure.BackpressureDecision.{BackpressureDecision}
use Rattle.iox_domain.specs.DomainValues.declared.backpressure.BackpressureInfo.{BackpressureInfo}
use Rattle.iox_domain.specs.DomainValues.declared.connection_failure.ConnectionFailure.{ConnectionFailure}
use Rattle.iox_domain.specs.DomainValues.declared.create_error.PublisherCreateError.{PublisherCreateError}
use Rattle.iox_domain.specs.DomainValues.declared.create_error.SubscriberCreateError.{SubscriberCreateError}
use Rattle.iox_domain.specs.DomainValues.declared.degradation.DegradationAction.{DegradationAction}
use Rattle.iox_domain.specs.DomainValues.declared.degradation.DegradationInfo.{DegradationInfo}
use Rattle.iox_domain.specs.DomainValues.declared.port_error.ReceiveError.{ReceiveError}
use Rattle.iox_domain.specs.DomainValues.declared.port_owner.PortOwner.{PortOwner}
use Rattle.iox_domain.specs.DomainPorts.declared.publisher_port.PublisherPort.{PublisherPort}
use Rattle.iox_domain.specs.DomainPorts.Arriving.{new_subscriber}
use Rattle.iox_domain.specs.DomainPorts.Publishers.{port_of, connection_in}
use Rattle.iox_domain.specs.DomainPorts.Reading.{place_of}
use Rattle.iox_domain.specs.DomainPorts.SubscriberUpdating.{ReceivesAfter}
use Rattle.iox_domain.specs.DomainPorts.declared.attached.Taken.{Taken}
use Rattle.iox_domain.specs.DomainPorts.declared.publisher_entry.PublisherEntry.{PublisherEntry}
use Rattle.iox_domain.specs.DomainPorts.declared.subscriber_port.SubscriberPort.{SubscriberPort}
use Rattle.iox_domain.specs.Attaching.{KeysFit, IsKeyedEntry, AreKeyed, KeysStay}
use Rattle.iox_domain.specs.Calls as call
use Rattle.iox_domain.specs.Calls.{PortCall, Happens}
use Rattle.iox_domain.specs.Lending.{LoansOne}
use Rattle.iox_domain.specs.Making.{slots_needed, publisher_place, subscriber_place, identity_of, AddsPublisher, CreatesPublisher}
use Rattle.iox_domain.specs.Making.{AddsSubscriber, CreatesSubscriber}
use Rattle.iox_domain.specs.Ports.{AtPublisher, AtSubscriber}
use Rattle.iox_domain.specs.PortsPublishing.{is_free}
use Rattle.iox_domain.specs.PortsPublishing as publishing
use Rattle.iox_domain.specs.Rolls.{RollState, IsListOf, may_change, is_listed, left}
use Rattle.iox_domain.specs.Subscribers.{subscriber_of, with_subscriber, subscriber_added, subscriber_removed, is_over_in}
use Rattle.iox_domain.specs.PortsSubscribing as subscribing
use Rattle.iox_domain.specs.declared.ports.making.PublisherConfig.{PublisherConfig}
use Rattle.iox_domain.specs.declared.ports.service_ports.ServicePorts.{ServicePorts}
use Rattle.iox_domain.proofs.Attaching.{goes_updated, taken_fits, new_fits}
use Rattle.iox_domain.proofs.Fitting.{Goes, goes_same, goes_on}
use Rattle.iox_domain.proofs.Numbered.{at_number, found_of_all, all_set, all_gone, all_came}

-- the entries of the subscribers of a service
abbrev Keyed : ℕ → List (ℕ × SubscriberPort) → Type 0
Keyed places ports = All (IsKeyedEntry places) ports

same_keyed : {T U : Type 0} (old new : ServicePorts T U) → new ≡ old → AreKeyed old → AreKeyed new
same_keyed old new is keyed = rw is keyed

keyed_of : {T U : Type 0} (old new : ServicePorts T U) → new.sizes ≡ old.sizes
    → length new.publisher_list.places ≡ length old.publisher_list.places → AreKeyed old
    → Keyed old.sizes.max_publishers new.subscribers → AreKeyed new
keyed_of old new sizes list keyed all = record {
  list = list ∙ keyed.list ∙ sym (ap (λ one. one.max_publishers) sizes);
  keyed = subst (λ n. Keyed n new.subscribers) (sym (ap (λ one. one.max_publishers) sizes)) all;
}

-- the subscriber of a number is as after a step
with_keyed : (places number : ℕ) (ports : List (ℕ × SubscriberPort)) (after : SubscriberPort) → Keyed places ports → KeysFit after
    × (after.places.room ≡ places) → Keyed places (with_subscriber number ports after)
with_keyed places number ports after keyed fits = all_set (IsKeyedEntry places) (at_number number) ports after (λ one was. fits) keyed

settled_keyed : (places : ℕ) (over : Bool) (number : ℕ) (ports : List (ℕ × SubscriberPort)) → Keyed places ports
    → Keyed places (if over then subscriber_removed number ports else ports)
settled_keyed places true number ports keyed = all_gone (IsKeyedEntry places) (at_number number) ports keyed
settled_keyed places false number ports keyed = keyed

found_keyed : (places number : ℕ) (ports : List (ℕ × SubscriberPort)) (port : SubscriberPort) → Keyed places ports
    → subscriber_of number ports ≡ Some port → KeysFit port × (port.places.room ≡ places)
found_keyed places number ports port keyed there = (found_of_all (IsKeyedEntry places) (at_number number) ports port keyed there).holds

-- what goes on from one that is keyed is keyed
goes_keyed : (places : ℕ) (port after : SubscriberPort) → KeysFit port × (port.places.room ≡ places) → (KeysFit port → Goes port after)
    → KeysFit after × (after.places.room ≡ places)
goes_keyed places port after fits step = let goes = step fits.0 in (goes.fit, goes.room ∙ fits.1)

-- a call of a publisher
by_publisher : {T U A : Type 0} (number : ℕ) (step : PublisherPort T U → Option A → PublisherPort T U → Type 0)
    (found : Option (PublisherPort T U)) (old new : ServicePorts T U) (answer : Option A) → AtPublisher number step found old answer new
    → AreKeyed old → AreKeyed new
by_publisher number step None old new answer happens keyed = same_keyed old new happens.1 keyed
by_publisher number step (Some port) old new None happens keyed = same_keyed old new happens.2 keyed
by_publisher number step (Some port) old new (Some value) happens keyed = rw (happens.2) (record { list = keyed.list; keyed = keyed.keyed })

-- a call of a subscriber
by_subscriber : {T U A : Type 0} (number : ℕ)
    (step : SubscriberPort → List (ℕ × PublisherPort T U) → Option A → SubscriberPort → List (ℕ × PublisherPort T U) → Type 0)
    (found : Option SubscriberPort) (old new : ServicePorts T U) (answer : Option A) → subscriber_of number old.subscribers ≡ found
    → ((port after : SubscriberPort) (ports_after : List (ℕ × PublisherPort T U)) (answer : Option A)
    → step port old.publishers answer after ports_after → length old.publisher_list.places ≤ port.places.room → KeysFit port
    → Goes port after)
    → AtSubscriber number step found old answer new → AreKeyed old → AreKeyed new
by_subscriber number step None old new answer there steps happens keyed = same_keyed old new happens.1 keyed
by_subscriber number step (Some port) old new None there steps happens keyed = same_keyed old new happens.3 keyed
by_subscriber number step (Some port) old new (Some value) there steps (after, ports_after, one, is) keyed =
    let was = found_keyed old.sizes.max_publishers number old.subscribers port keyed.keyed there in
    let now = goes_keyed old.sizes.max_publishers port after was
    (λ fit. steps port after ports_after (Some value) one (omega (arith, keyed.list, was.1)) fit) in
    rw is (record { list = keyed.list; keyed = with_keyed old.sizes.max_publishers number old.subscribers after keyed.keyed now })

-- what is listed is no longer than the list
listed_length : {V : Type 0} (listed : List (Option (Member V))) (list : RollState V) → IsListOf listed list
    → length listed ≤ length list.places
listed_length {V} listed list is =
    let more : ℕ = length list.places - length listed in
    let long = length-append listed (replicate more (let none : Option (Member V) = None in none)) in
    omega (arith, long, ap (λ all. length all) is)

update_goes : {T U : Type 0} (stands : Bool) (may : DegradationInfo → DegradationAction → Type 0) (list : RollState PublisherEntry)
    (port after : SubscriberPort) (ports ports_after : List (ℕ × PublisherPort T U)) (answer : Option (Result (Unit {0}) ConnectionFailure))
    → subscribing.UpdatesIf stands may list port ports answer after ports_after → length list.places ≤ port.places.room → KeysFit port
    → Goes port after
update_goes false may list port after ports ports_after answer updates within fit
    = goes_same port after fit (ap (λ one. one.connections) updates.1) (ap (λ one. one.places) updates.1)
    (ap (λ one. one.expired) updates.1)
update_goes true may list port after ports ports_after answer (listed, is_list, outcome, updates, is) within fit =
    goes_updated ((port.seen == list.changes) && not port.again) may listed list.changes port after ports ports_after outcome fit
    (omega (arith, listed_length listed list is_list, within)) updates

has_goes : {T U : Type 0} (stands : Bool) (may : DegradationInfo → DegradationAction → Type 0) (list : RollState PublisherEntry)
    (port after : SubscriberPort) (ports ports_after : List (ℕ × PublisherPort T U)) (answer : Option (Result Bool ConnectionFailure))
    → subscribing.HasSamplesIf stands may list port ports answer after ports_after → length list.places ≤ port.places.room
    → KeysFit port → Goes port after
has_goes false may list port after ports ports_after answer has within fit
    = goes_same port after fit (ap (λ one. one.connections) has.1) (ap (λ one. one.places) has.1) (ap (λ one. one.expired) has.1)
has_goes true may list port after ports ports_after answer (listed, is_list, outcome, has, is) within fit =
    goes_updated ((port.seen == list.changes) && not port.again) may listed list.changes port after ports ports_after has.0 fit
    (omega (arith, listed_length listed list is_list, within)) has.1

received_goes : {T U : Type 0} (updated : Result (Unit {0}) ConnectionFailure) (port after : SubscriberPort)
    (ports ports_after : List (ℕ × PublisherPort T U)) (answer : Result (Option Taken) ReceiveError)
    → ReceivesAfter updated port ports answer after ports_after → KeysFit port → Goes port after
received_goes (Err failure) port after ports ports_after answer receives fit
    = goes_same port after fit (ap (λ one. one.connections) receives.1) (ap (λ one. one.places) receives.1)
    (ap (λ one. one.expired) receives.1)
received_goes (Ok done) port after ports ports_after answer receives fit = taken_fits port after ports ports_after answer fit receives

counted_goes : (outcome : Result (Option Taken) ReceiveError) (port after : SubscriberPort)
    → after ≡ subscribing.counted_by outcome port → KeysFit port → Goes port after
counted_goes (Ok (Some taken)) port after is fit
    = goes_same port after fit (ap (λ one. one.connections) is) (ap (λ one. one.places) is) (ap (λ one. one.expired) is)
counted_goes (Ok None) port after is fit
    = goes_same port after fit (ap (λ one. one.connections) is) (ap (λ one. one.places) is) (ap (λ one. one.expired) is)
counted_goes (Err error) port after is fit
    = goes_same port after fit (ap (λ one. one.connections) is) (ap (λ one. one.places) is) (ap (λ one. one.expired) is)

receive_goes : {T U : Type 0} (stands : Bool) (may : DegradationInfo → DegradationAction → Type 0) (list : RollState PublisherEntry)
    (port after : SubscriberPort) (ports ports_after : List (ℕ × PublisherPort T U)) (answer : Option (Result (Option Taken) ReceiveError))
    → subscribing.ReceivesIf stands may list port ports answer after ports_after → length list.places ≤ port.places.room → KeysFit port
    → Goes port after
receive_goes false may list port after ports ports_after answer receives within fit
    = goes_same port after fit (ap (λ one. one.connections) receives.1) (ap (λ one. one.places) receives.1)
    (ap (λ one. one.expired) receives.1)
receive_goes {T} {U} true may list port after ports ports_after answer (listed, is_list, outcome, received, receives, is_after, is)
    within fit =
    let (updated, between, between_ports, updates, taken) = receives in
    let one = goes_updated ((port.seen == list.changes) && not port.again) may listed list.changes port between ports between_ports
    updated fit (omega (arith, listed_length listed list is_list, within)) updates in
    let two = received_goes updated between received between_ports ports_after outcome taken one.fit in
    goes_on port between after one (goes_on between received after two (counted_goes outcome received after is_after two.fit))

-- a publisher comes
creates_publisher : {T U : Type 0} (overrides : ℕ → ℕ → Type 0) (may : DegradationInfo → DegradationAction → Type 0)
    (config : PublisherConfig) (user_header : U) (needed place : Option ℕ) (old new : ServicePorts T U)
    (answer : Result ℕ PublisherCreateError)
    → CreatesPublisher overrides may config user_header needed place old answer new → AreKeyed old → AreKeyed new
creates_publisher overrides may config user_header None place old new answer creates keyed = same_keyed old new creates.1 keyed
creates_publisher overrides may config user_header (Some needed) None old new answer creates keyed = same_keyed old new creates.1 keyed
creates_publisher {T} {U} overrides may config user_header (Some needed) (Some place) old new answer creates keyed
    = adds _ creates.2 creates.3
  where
    adds : (slots : ℕ) (outcome : Result ℕ AllocError) → AddsPublisher may config user_header place slots old outcome new → AreKeyed new
    adds slots (Err error) step = same_keyed old new step keyed
    adds slots (Ok number) (listed, is_list, outcome, port, updates, is_number, is_new) =
        rw is_new (record {
          list
              = length-set old.publisher_list.places place
              (Some (record { number = old.publisher_list.changes + 1; owner = 1; value = record { publisher = old.next_port } })) ∙
              keyed.list;
          keyed = keyed.keyed;
        })

-- a subscriber comes
creates_subscriber : {T U : Type 0} (may : DegradationInfo → DegradationAction → Type 0) (owner : PortOwner)
    (buffer_size : Result ℕ SubscriberCreateError) (place : Option ℕ) (old new : ServicePorts T U) (answer : Result ℕ SubscriberCreateError)
    → CreatesSubscriber may owner buffer_size place old answer new → AreKeyed old → AreKeyed new
creates_subscriber may owner (Err refusal) place old new answer creates keyed = same_keyed old new creates.1 keyed
creates_subscriber may owner (Ok buffer_size) None old new answer creates keyed = same_keyed old new creates.1 keyed
creates_subscriber {T} {U} may owner (Ok buffer_size) (Some place) old new answer creates keyed = adds creates.0 creates.1
  where
    adds : (outcome : Result ℕ AllocError) → AddsSubscriber may owner place buffer_size old outcome new → AreKeyed new
    adds (Err error) step = same_keyed old new step keyed
    adds (Ok number) (between, follows, is_number, is_new) =
        let (listed, is_list, outcome, after, publishers_after, updates, is_between) = follows in
        let first : SubscriberPort = new_subscriber (identity_of owner place old) buffer_size old.sizes.max_publishers
        old.sizes.expired_connections in
        let fit : KeysFit first = new_fits (identity_of owner place old) buffer_size old.sizes.max_publishers
        old.sizes.expired_connections in
        let goes : Goes first after = goes_updated ((first.seen == old.publisher_list.changes) && not first.again) may listed
        old.publisher_list.changes first after old.publishers publishers_after outcome fit
        (omega (arith, listed_length listed old.publisher_list is_list, keyed.list)) updates in
        let came : Keyed old.sizes.max_publishers (subscriber_added old.next_port first old.subscribers)
        = all_came (IsKeyedEntry old.sizes.max_publishers) old.next_port old.subscribers first (fit, refl) (λ one was. (fit, refl))
        keyed.keyed in
        rw is_new (rw is_between
        (record {
          list = keyed.list;
          keyed
              = with_keyed old.sizes.max_publishers old.next_port (subscriber_added old.next_port first old.subscribers) after came
              (goes.fit, goes.room);
        }))

-- a port leaves
left_if : {V : Type 0} (may listed : Bool) (places gone : List (Option (Member V))) (roll changed : RollState V) → roll.places ≡ places
    → changed.places ≡ gone → length gone ≡ length places
    → length (if may then (if listed then changed else roll) else roll).places ≡ length places
left_if true true places gone roll changed is is_gone same = ap (λ all. length all) is_gone ∙ same
left_if true false places gone roll changed is is_gone same = ap (λ all. length all) is
left_if false listed places gone roll changed is is_gone same = ap (λ all. length all) is

left_length : {V : Type 0} (place : ℕ) (roll : RollState V) → length (left place roll).places ≡ length roll.places
left_length place roll = left_if (may_change roll) (is_listed place roll) roll.places (set roll.places place None) roll _ refl refl
    (length-set roll.places place None)

publisher_leaves : {T U : Type 0} (found : Option (PublisherPort T U)) (number : ℕ) (old new : ServicePorts T U) (answer : Bool)
    → publishing.LeavesAt number found old answer new → AreKeyed old → AreKeyed new
publisher_leaves None number old new answer leaves keyed = same_keyed old new leaves.1 keyed
publisher_leaves {T} {U} (Some port) number old new answer leaves keyed = at (is_free port) leaves
  where
    at : (free : Bool) → publishing.LeavesPortIf free number port old answer new → AreKeyed new
    at false leaves = same_keyed old new leaves.1 keyed
    at true leaves = rw (leaves.1) (record { list = left_length port.place old.publisher_list ∙ keyed.list; keyed = keyed.keyed })

subscriber_leaves : {T U : Type 0} (found : Option SubscriberPort) (number : ℕ) (old new : ServicePorts T U) (answer : Bool)
    → subscriber_of number old.subscribers ≡ found → subscribing.LeavesAt number found old answer new → AreKeyed old → AreKeyed new
subscriber_leaves None number old new answer there leaves keyed = same_keyed old new leaves.1 keyed
subscriber_leaves {T} {U} (Some port) number old new answer there leaves keyed = at port.stands leaves
  where
    at : (stands : Bool) → subscribing.LeavesPortIf stands number port old answer new → AreKeyed new
    at false leaves = same_keyed old new leaves.1 keyed
    at true leaves =
        let after : SubscriberPort = record port { stands = false } in
        let was = found_keyed old.sizes.max_publishers number old.subscribers port keyed.keyed there in
        let now = goes_keyed old.sizes.max_publishers port after was (λ fit. goes_same port after fit refl refl refl) in
        rw (leaves.1) (record {
          list = keyed.list;
          keyed = settled_keyed old.sizes.max_publishers (is_over_in number (with_subscriber number old.subscribers after)) number
              (with_subscriber number old.subscribers after)
              (with_keyed old.sizes.max_publishers number old.subscribers after keyed.keyed now);
        })

-- a sample is released
let_go_keyed : (places number : ℕ) (found : Option SubscriberPort) (ports : List (ℕ × SubscriberPort))
    → subscriber_of number ports ≡ found → Keyed places ports → Keyed places (subscribing.let_go_at number found ports)
let_go_keyed places number None ports there keyed = keyed
let_go_keyed places number (Some port) ports there keyed =
    let after : SubscriberPort = record port { held = port.held - 1 } in
    with_keyed places number ports after keyed
    (goes_keyed places port after (found_keyed places number ports port keyed there) (λ fit. goes_same port after fit refl refl refl))

released_at : {T U : Type 0} (number : ℕ) (sample : Taken) (place : Option ℕ) (old new : ServicePorts T U) (answer : Bool)
    → subscribing.ReleasesAt number sample place old answer new → AreKeyed old → AreKeyed new
released_at number sample None old new answer releases keyed = same_keyed old new releases.1 keyed
released_at number sample (Some at) old new answer releases keyed =
    rw (releases.1) (record {
      list = keyed.list;
      keyed = settled_keyed old.sizes.max_publishers
          (is_over_in number (subscribing.let_go_at number (subscriber_of number old.subscribers) old.subscribers)) number
          (subscribing.let_go_at number (subscriber_of number old.subscribers) old.subscribers)
          (let_go_keyed old.sizes.max_publishers number (subscriber_of number old.subscribers) old.subscribers refl keyed.keyed);
    })

released_of : {T U : Type 0} (found : Option SubscriberPort) (number : ℕ) (sample : Taken) (old new : ServicePorts T U) (answer : Bool)
    → subscribing.ReleasesOf found number sample old answer new → AreKeyed old → AreKeyed new
released_of None number sample old new answer releases keyed = same_keyed old new releases.1 keyed
released_of (Some port) number sample old new answer releases keyed
    = released_at number sample (place_of sample.slot (connection_in sample.publisher sample.index old.publishers)) old new answer
    releases keyed

calls_keyed : {T U : Type 0} (overrides : ℕ → ℕ → Type 0) (may : DegradationInfo → DegradationAction → Type 0)
    (decide : BackpressureInfo → BackpressureDecision → Type 0) (one : PortCall T U) (old new : ServicePorts T U)
    → Happens overrides may decide one old new → AreKeyed old → AreKeyed new
calls_keyed overrides may decide (call.PublisherComes config user_header answer) old new happens keyed
    = creates_publisher overrides may config user_header (slots_needed config old) (publisher_place old) old new answer happens keyed
calls_keyed overrides may decide (call.SubscriberComes owner buffer_size answer) old new happens keyed
    = creates_subscriber may owner (buffer_of buffer_size old.sizes) (subscriber_place old) old new answer happens keyed
calls_keyed overrides may decide (call.Lends number values elements answer) old new happens keyed
    = by_publisher number (LoansOne values elements) (port_of number old.publishers) old new answer happens keyed
calls_keyed overrides may decide (call.Writes number slot test change) old new happens keyed
    = rw happens (record { list = keyed.list; keyed = keyed.keyed })
calls_keyed overrides may decide (call.GivesLoanUp number slot) old new happens keyed
    = rw happens (record { list = keyed.list; keyed = keyed.keyed })
calls_keyed overrides may decide (call.PublisherUpdates number answer) old new happens keyed
    = by_publisher number (publishing.UpdatesOne may old.subscriber_list) (port_of number old.publishers) old new answer happens keyed
calls_keyed overrides may decide (call.Sends number slot answer) old new happens keyed
    = by_publisher number (publishing.SendsOne may decide old.subscriber_list slot) (port_of number old.publishers) old new answer
    happens keyed
calls_keyed overrides may decide (call.Retries number elapsed answer) old new happens keyed
    = by_publisher number (publishing.RetriesOne decide elapsed) (port_of number old.publishers) old new answer happens keyed
calls_keyed overrides may decide (call.GivesSendUp number answer) old new happens keyed
    = by_publisher number publishing.GivesUpOne (port_of number old.publishers) old new answer happens keyed
calls_keyed overrides may decide (call.PublisherLeaves number answer) old new happens keyed
    = publisher_leaves (port_of number old.publishers) number old new answer happens keyed
calls_keyed overrides may decide (call.SubscriberUpdates number answer) old new happens keyed =
    by_subscriber number (subscribing.UpdatesOne may old.publisher_list) (subscriber_of number old.subscribers) old new answer refl
    (λ port after ports_after answer updates within fit. update_goes port.stands may old.publisher_list port after old.publishers
    ports_after answer updates within fit) happens keyed
calls_keyed overrides may decide (call.AsksForSamples number answer) old new happens keyed =
    by_subscriber number (subscribing.HasSamplesOne may old.publisher_list) (subscriber_of number old.subscribers) old new answer refl
    (λ port after ports_after answer has within fit. has_goes port.stands may old.publisher_list port after old.publishers
    ports_after answer has within fit) happens keyed
calls_keyed overrides may decide (call.Receives number answer) old new happens keyed =
    by_subscriber number (subscribing.ReceivesOne may old.publisher_list) (subscriber_of number old.subscribers) old new answer refl
    (λ port after ports_after answer receives within fit. receive_goes port.stands may old.publisher_list port after old.publishers
    ports_after answer receives within fit) happens keyed
calls_keyed overrides may decide (call.Releases number sample answer) old new happens keyed
    = released_of (subscribing.taker_of number sample old.subscribers) number sample old new answer happens keyed
calls_keyed overrides may decide (call.SubscriberLeaves number answer) old new happens keyed
    = subscriber_leaves (subscriber_of number old.subscribers) number old new answer refl happens keyed

pub keys_stay : {T U : Type 0} (overrides : ℕ → ℕ → Type 0) (may : DegradationInfo → DegradationAction → Type 0)
    (decide : BackpressureInfo → BackpressureDecision → Type 0) → KeysStay T U overrides may decide
keys_stay overrides may decide = record {
  begins = λ service sizes. record {
    list = length-replicate sizes.max_publishers (let none : Option (Member PublisherEntry) = None in none);
    keyed
        = All-nil (IsKeyedEntry sizes.max_publishers);
  };
  goes_on = calls_keyed overrides may decide;
  each = λ ports number port listed keyed there is.
      let found = found_keyed ports.sizes.max_publishers number ports.subscribers port keyed.keyed there in
      (found.0, omega (arith, found.1, keyed.list, listed_length listed ports.publisher_list is));
}
