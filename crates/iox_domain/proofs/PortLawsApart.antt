-- The list of subscribers and the ties of publishers stay apart through each call.
use Rattle.std.proofs.Common.{arith, ◌≡◌, ◌≢◌, ◌+◌, ◌≤◌, ◌⊎◌, [], ℕ, zero, suc, Bool, true, false, not, List, get_or, set, length}
use Rattle.std.proofs.Common.{replicate, Option, None, Some, Result, Ok, Err, refl, sym, ap, ◌∙◌, if◌then◌else◌, inl, inr}
use Rattle.std.proofs.lemmas.Bool.{cases_eq, cases_lt}
use Rattle.std.proofs.lemmas.List.{get_or-set_other, get_or-set_same, get_or_past, length-set, length-replicate}
use Rattle.std.proofs.lemmas.List.Elements.{All-nil}
use Rattle.std.specs.declared.alloc.AllocError.{AllocError}
use Rattle.iox_domain.specs.Container.declared.container.Member.{Member}
use Rattle.iox_domain.specs.DomainValues.declared.backpressure.BackpressureDecision.{BackpressureDecision}
use Rattle.iox_domain.specs.DomainValues.declared.backpressure.BackpressureInfo.{BackpressureInfo}
use Rattle.iox_domain.specs.DomainValues.declared.connection_failure.ConnectionFailure.{ConnectionFailure}
use Rattle.iox_domain.specs.DomainValues.declared.create_error.PublisherCreateError.{PublisherCreateError}
use Rattle.iox_domain.specs.DomainValues.declared.create_error.SubscriberCreateError.{SubscriberCreateError}
use Rattle.iox_domain.specs.DomainValues.declared.degradation.DegradationAction.{DegradationAction}
use Rattle.iox_domain.specs.DomainValues.declared.degradation.DegradationInfo.{DegradationInfo}
use Rattle.iox_domain.specs.DomainValues.declared.port_error.ReceiveError.{ReceiveError}
use Rattle.iox_domain.specs.DomainValues.declared.port_owner.PortOwner.{PortOwner}
use Rattle.iox_domain.specs.DomainValues.declared.service_sizes.ServiceSizes.{ServiceSizes}
use Rattle.iox_domain.specs.DomainPorts.Leaving.{new_port, departed}
use Rattle.iox_domain.specs.DomainPorts.Ports.{goes_on}
use Rattle.iox_domain.specs.DomainPorts.PublisherUpdating.{is_tie_to}
use Rattle.iox_domain.specs.DomainPorts.Writing.{changed_if, given_up}
use Rattle.iox_domain.specs.DomainSlots.Uses.{nobody}
use Rattle.iox_domain.specs.DomainPorts.declared.publisher_port.PublisherPort.{PublisherPort}
use Rattle.iox_domain.specs.DomainPorts.declared.subscriber_entry.SubscriberEntry.{SubscriberEntry}
use Rattle.iox_domain.specs.DomainPorts.Arriving.{new_subscriber}
use Rattle.iox_domain.specs.DomainPorts.Publishers.{port_of, with_port, changed, connection_in}
use Rattle.iox_domain.specs.DomainPorts.Reading.{place_of}
use Rattle.iox_domain.specs.DomainPorts.declared.attached.Taken.{Taken}
use Rattle.iox_domain.specs.DomainPorts.declared.publisher_entry.PublisherEntry.{PublisherEntry}
use Rattle.iox_domain.specs.DomainPorts.declared.subscriber_port.SubscriberPort.{SubscriberPort}
use Rattle.iox_domain.specs.Calls.{PortCall, PublisherComes, SubscriberComes, Lends, Writes, GivesLoanUp, PublisherUpdates, Sends}
use Rattle.iox_domain.specs.Calls.{Retries, GivesSendUp, PublisherLeaves, SubscriberUpdates, AsksForSamples, Receives, Releases}
use Rattle.iox_domain.specs.Calls.{SubscriberLeaves, Happens}
use Rattle.iox_domain.specs.PortLawsLaws.{IsListApart, IsTiedWell, IsWellEntry, IsApart}
use Rattle.iox_domain.specs.DomainValues.Sizes.{buffer_of}
use Rattle.iox_domain.specs.Making.{slots_needed, publisher_place, subscriber_place, identity_of, sender_config, AddsPublisher}
use Rattle.iox_domain.specs.Making.{sequence_before, CreatesPublisher, AddsSubscriber, CreatesSubscriber}
use Rattle.iox_domain.specs.Ports.{AtPublisher, AtSubscriber, no_ports, with_publisher}
use Rattle.iox_domain.specs.PortsPublishing.{is_free}
use Rattle.iox_domain.specs.PortsPublishing as publishing
use Rattle.iox_domain.specs.Rolls.{RollState, changed_to, is_listed, may_change, left}
use Rattle.iox_domain.specs.Subscribers.{subscriber_of}
use Rattle.iox_domain.specs.PortsSubscribing as subscribing
use Rattle.iox_domain.specs.declared.ports.making.PublisherConfig.{PublisherConfig}
use Rattle.iox_domain.specs.declared.ports.service_ports.ServicePorts.{ServicePorts}
use Rattle.iox_domain.proofs.Carrying.{carry_loans, carry_changed, carry_given_up, carry_retries, carry_gives_up}
use Rattle.iox_domain.proofs.Numbered.{bool_false, all_came, all_then}
use Rattle.iox_domain.proofs.TiedUpdates.{updates_well}
use Rattle.iox_domain.proofs.Walks.{walked_updates, walked_receives, left_all_walk}
use Rattle.iox_domain.proofs.WellKept.{Goes, goes_carries, told_same, goes_updates_one, goes_sends_one, goes_departed, ListWell}
use Rattle.iox_domain.proofs.WellKept.{wells_stay, wells_on, wells_with, wells_changed, wells_settled, well_walks, well_takes, well_leaving}
use Rattle.iox_domain.proofs.WellKept.{wells_released}

-- What each step of the publishers changes in a service whose lists and numbers don't change.
record StaysApart {T U : Type 0} (old new : ServicePorts T U) : Type 0 where
  apart : IsApart old → IsApart new

apart_same : {T U : Type 0} (old new : ServicePorts T U) → new ≡ old → StaysApart old new
apart_same old new is = rw is (record { apart = λ apart. apart })

apart_to : {T U : Type 0} (old new other : ServicePorts T U) → new ≡ other → StaysApart old other → StaysApart old new
apart_to old new other is stays = rw is stays

-- neither the list of subscribers nor the next number changed
apart_list : {T U : Type 0} (old new : ServicePorts T U) → new.next_port ≡ old.next_port → new.subscriber_list ≡ old.subscriber_list
    → new.sizes ≡ old.sizes
    → (IsListApart old.next_port old.subscriber_list.places
    → ListWell old.next_port old.subscriber_list.places old.publishers new.publishers) → StaysApart old new
apart_list old new next list sizes wells = record {
  apart = λ apart. record {
    places = ap (λ one. length one.places) list ∙ apart.places ∙ sym (ap (λ one. one.max_subscribers) sizes);
    list = rw (next, list) (apart.list);
    well = rw (next, list) ((wells apart.list).well apart.well);
  };
}

-- a call of a publisher
apart_publisher : {T U A : Type 0} (number : ℕ) (step : PublisherPort T U → Option A → PublisherPort T U → Type 0)
    (found : Option (PublisherPort T U)) (old new : ServicePorts T U) (answer : Option A)
    → ((port after : PublisherPort T U) (answer : Option A) → IsListApart old.next_port old.subscriber_list.places
    → step port answer after → Goes old.next_port old.subscriber_list.places port after)
    → port_of number old.publishers ≡ found → AtPublisher number step found old answer new → StaysApart old new
apart_publisher number step None old new answer goes there happens = apart_same old new happens.1
apart_publisher number step (Some port) old new None goes there happens = apart_same old new happens.2
apart_publisher {T} {U} number step (Some port) old new (Some value) goes there happens =
    let after : PublisherPort T U = happens.0 in
    apart_to old new (with_publisher number after old) happens.2
    (apart_list old (with_publisher number after old) refl refl refl (λ list.
    wells_on old.next_port old.subscriber_list.places old.publishers (with_port number old.publishers after) _
    (wells_with old.next_port old.subscriber_list.places number old.publishers port after there
    (goes port after (Some value) list happens.1))
    (wells_settled old.next_port old.subscriber_list.places number (with_port number old.publishers after))))

-- a call of a subscriber
apart_subscriber : {T U A : Type 0} (number : ℕ)
    (step : SubscriberPort → List (ℕ × PublisherPort T U) → Option A → SubscriberPort → List (ℕ × PublisherPort T U) → Type 0)
    (found : Option SubscriberPort)
    (old new : ServicePorts T U) (answer : Option A)
    → ((port after : SubscriberPort) (ports ports_after : List (ℕ × PublisherPort T U)) (answer : Option A)
    → step port ports answer after ports_after → ListWell old.next_port old.subscriber_list.places ports ports_after)
    → AtSubscriber number step found old answer new → StaysApart old new
apart_subscriber number step None old new answer goes happens = apart_same old new happens.1
apart_subscriber number step (Some port) old new None goes happens = apart_same old new happens.3
apart_subscriber number step (Some port) old new (Some value) goes happens =
    let (after, ports_after, steps, is) = happens in
    apart_to old new _ is (apart_list old _ refl refl refl (λ list. goes port after old.publishers ports_after (Some value) steps))

stays_if : {T U : Type 0} (next : ℕ) (places : List (Option (Member SubscriberEntry))) (ports new : List (ℕ × PublisherPort T U))
    → new ≡ ports → ListWell next places ports new
stays_if next places ports new is = rw is (wells_stay next places ports)

updates_apart : {T U : Type 0} (next : ℕ) (places : List (Option (Member SubscriberEntry))) (stands : Bool)
    (may : DegradationInfo → DegradationAction → Type 0) (list : RollState PublisherEntry) (port after : SubscriberPort)
    (ports ports_after : List (ℕ × PublisherPort T U))
    (answer : Option (Result (Unit {0}) ConnectionFailure)) → subscribing.UpdatesIf stands may list port ports answer after ports_after
    → ListWell next places ports ports_after
updates_apart next places false may list port after ports ports_after answer updates = stays_if next places ports ports_after updates.2
updates_apart next places true may list port after ports ports_after answer updates =
    (walked_updates (well_walks next places port.number) may updates.0 list.changes port after ports ports_after updates.2 refl
    updates.3).walked

has_apart : {T U : Type 0} (next : ℕ) (places : List (Option (Member SubscriberEntry))) (stands : Bool)
    (may : DegradationInfo → DegradationAction → Type 0) (list : RollState PublisherEntry) (port after : SubscriberPort)
    (ports ports_after : List (ℕ × PublisherPort T U))
    (answer : Option (Result Bool ConnectionFailure)) → subscribing.HasSamplesIf stands may list port ports answer after ports_after
    → ListWell next places ports ports_after
has_apart next places false may list port after ports ports_after answer has = stays_if next places ports ports_after has.2
has_apart next places true may list port after ports ports_after answer has =
    (walked_updates (well_walks next places port.number) may has.0 list.changes port after ports ports_after has.3.0 refl has.3.1).walked

receives_apart : {T U : Type 0} (next : ℕ) (places : List (Option (Member SubscriberEntry))) (stands : Bool)
    (may : DegradationInfo → DegradationAction → Type 0) (list : RollState PublisherEntry) (port after : SubscriberPort)
    (ports ports_after : List (ℕ × PublisherPort T U))
    (answer : Option (Result (Option Taken) ReceiveError)) → subscribing.ReceivesIf stands may list port ports answer after ports_after
    → ListWell next places ports ports_after
receives_apart next places false may list port after ports ports_after answer receives = stays_if next places ports ports_after receives.2
receives_apart next places true may list port after ports ports_after answer receives =
    (walked_receives (well_walks next places port.number) (well_takes next places) may receives.0 list.changes port receives.3 ports
    ports_after receives.2 refl receives.4).walked

-- one more number is given out
list_later : (next : ℕ) (places : List (Option (Member SubscriberEntry))) → IsListApart next places → IsListApart (next + 1) places
list_later next places list = record { apart = list.apart; below = λ place member listed. omega (arith, list.below place member listed) }

well_later : {T U : Type 0} (next : ℕ) (places : List (Option (Member SubscriberEntry))) (port : PublisherPort T U)
    → IsTiedWell next places port → IsTiedWell (next + 1) places port
well_later next places port well = record {
  apart = well.apart;
  live = well.live;
  read = well.read;
  alone = well.alone;
  below = λ place subscriber is. omega (arith, well.below place subscriber is);
  room = well.room;
  known = well.known;
  sole = well.sole;
  all = well.all;
}

-- a publisher that is connected to nobody
pub new_well : {T U : Type 0} (next : ℕ) (places : List (Option (Member SubscriberEntry))) (port : PublisherPort T U)
    → port.ties.items ≡ [] → port.readers ≡ [] → port.sender.uses.connections ≡ [] → length places ≤ port.ties.room
    → IsTiedWell next places port
new_well {T} {U} next places port items readers none room = record {
  apart = λ one other index is. absurd (no_tie one index is);
  live = λ place index is. absurd (no_tie place index is);
  read = λ subscriber index leads. let no : false ≡ true = rw readers at leads in absurd (cc);
  alone = λ place other member listed not. ap (λ tie. is_tie_to member.value.subscriber tie port) (ap (λ all. get_or all other None) items);
  below = λ place subscriber is. let no : false ≡ true
      = sym (ap (λ tie. is_tie_to subscriber tie port) (ap (λ all. get_or all place None) items)) ∙ is in absurd (cc);
  room = room;
  known = λ index live.
      let no : false ≡ true = sym (ap (λ all. goes_on (get_or all index nobody).stage) none) ∙ live in absurd (cc);
  sole = λ subscriber one other leads. let no : false ≡ true = rw readers at leads in absurd (cc);
  all = λ index live.
      let no : false ≡ true = sym (ap (λ all. goes_on (get_or all index nobody).stage) none) ∙ live in absurd (cc);
}
  where
    no_tie : (place index : ℕ) → get_or port.ties.items place None ≡ Some index → ⊥
    no_tie place index is = let no : None ≡ Some index = sym (ap (λ all. get_or all place None) items) ∙ is in cc

-- a publisher comes
added_apart : {T U : Type 0} (may : DegradationInfo → DegradationAction → Type 0) (config : PublisherConfig) (user_header : U)
    (place slots : ℕ) (old new : ServicePorts T U) (outcome : Result ℕ AllocError)
    → AddsPublisher may config user_header place slots old outcome new → StaysApart old new
added_apart may config user_header place slots old new (Err error) adds = apart_same old new adds
added_apart {T} {U} may config user_header place slots old new (Ok number) adds =
    let (listed, is_list, outcome, port, updates, is_number, is_new) = adds in
    let first : PublisherPort T U = new_port (identity_of config.owner place old) old.sizes.max_subscribers config.allocation
    config.unit (sequence_before config old) (sender_config config slots old) user_header in
    apart_to old new _ is_new (record {
      apart = λ apart.
          let places = old.subscriber_list.places in
          let list : IsListApart (old.next_port + 1) places = list_later old.next_port places apart.list in
          let well : IsTiedWell (old.next_port + 1) places port =
          (updates_well (old.next_port + 1) places may listed old.subscriber_list.changes first port outcome list
          (λ k within. told_same listed old.subscriber_list is_list k)
          (new_well (old.next_port + 1) places first refl refl refl (omega (arith, apart.places))) updates).1 in
          record {
            places = apart.places;
            list = list;
            well = all_came (IsWellEntry (old.next_port + 1) places) old.next_port old.publishers port (λ stands. well)
                (λ one is stands. well)
                (all_then (IsWellEntry old.next_port places) (IsWellEntry (old.next_port + 1) places) old.publishers
                (λ one is stands. well_later old.next_port places one.1 (is stands)) apart.well);
          };
    })

creates_apart : {T U : Type 0} (overrides : ℕ → ℕ → Type 0) (may : DegradationInfo → DegradationAction → Type 0)
    (config : PublisherConfig) (user_header : U) (needed place : Option ℕ) (old new : ServicePorts T U)
    (answer : Result ℕ PublisherCreateError)
    → CreatesPublisher overrides may config user_header needed place old answer new → StaysApart old new
creates_apart overrides may config user_header None place old new answer creates = apart_same old new creates.1
creates_apart overrides may config user_header (Some needed) None old new answer creates = apart_same old new creates.1
creates_apart overrides may config user_header (Some needed) (Some place) old new answer creates
    = added_apart may config user_header place _ old new creates.2 creates.3

-- what is listed after a place changed
listed_cases : (places : List (Option (Member SubscriberEntry))) (place other : ℕ) (entry : Option (Member SubscriberEntry))
    (member : Member SubscriberEntry) → get_or (set places place entry) other None ≡ Some member
    → ((other ≡ place) × (entry ≡ Some member)) ⊎ ((other ≢ place) × (get_or places other None ≡ Some member))
listed_cases places place other entry member listed = elim (cases_eq other place) [
  | inl same ↦ elim (cases_lt place (length places)) [
    | inl within ↦ inl (
      same,
      sym (get_or-set_same places place entry None within) ∙ ap (λ at. get_or (set places place entry) at None)
          (sym same) ∙ listed,
    )
    | inr past ↦
        let no : None ≡ Some member = sym (get_or_past (set places place entry) other None
        (omega (arith, past, same, length-set places place entry))) ∙ listed in absurd (cc)
  ]
  | inr not ↦ inr (not, sym (get_or-set_other places place other entry None not) ∙ listed)
]

-- a subscriber is listed under the next number
entry_listed : (next place : ℕ) (places : List (Option (Member SubscriberEntry))) (entry : Member SubscriberEntry)
    → entry.value.subscriber ≡ next → IsListApart next places → IsListApart (next + 1) (set places place (Some entry))
entry_listed next place places entry named list = record {
  apart = λ one other first second is_first is_second same. elim (listed_cases places place one (Some entry) first is_first) [
    | inl here ↦ elim (listed_cases places place other (Some entry) second is_second) [
      | inl there ↦ here.0 ∙ sym there.0
      | inr elsewhere ↦
          let is_entry : entry ≡ first = cc in
          absurd (omega (arith, list.below other second elsewhere.1, same, named, ap (λ one. one.value.subscriber) is_entry))
    ]
    | inr elsewhere ↦ elim (listed_cases places place other (Some entry) second is_second) [
      | inl there ↦
          let is_entry : entry ≡ second = cc in
          absurd (omega (arith, list.below one first elsewhere.1, same, named, ap (λ one. one.value.subscriber) is_entry))
      | inr also ↦ list.apart one other first second elsewhere.1 also.1 same
    ]
  ];
  below = λ at member listed. elim (listed_cases places place at (Some entry) member listed) [
    | inl here ↦ let is_entry : entry ≡ member = cc in omega (arith, named, ap (λ one. one.value.subscriber) is_entry)
    | inr elsewhere ↦ omega (arith, list.below at member elsewhere.1)
  ];
}

well_listed : {T U : Type 0} (next place : ℕ) (places : List (Option (Member SubscriberEntry))) (entry : Member SubscriberEntry)
    (port : PublisherPort T U) → entry.value.subscriber ≡ next → IsTiedWell next places port
    → IsTiedWell (next + 1) (set places place (Some entry)) port
well_listed next place places entry port named well = record {
  apart = well.apart;
  live = well.live;
  read = well.read;
  alone = λ one other member listed not. elim (listed_cases places place one (Some entry) member listed) [
    | inl here ↦ bool_false _ (λ is.
        let is_entry : entry ≡ member = cc in
        absurd (omega (arith, well.below other member.value.subscriber is, named, ap (λ one. one.value.subscriber) is_entry)))
    | inr elsewhere ↦ well.alone one other member elsewhere.1 not
  ];
  below = λ one subscriber is. omega (arith, well.below one subscriber is);
  room = omega (arith, well.room, length-set places place (Some entry));
  known = well.known;
  sole = well.sole;
  all = well.all;
}

subscribes_apart : {T U : Type 0} (may : DegradationInfo → DegradationAction → Type 0) (owner : PortOwner) (place buffer_size : ℕ)
    (old new : ServicePorts T U) (outcome : Result ℕ AllocError)
    → AddsSubscriber may owner place buffer_size old outcome new → StaysApart old new
subscribes_apart may owner place buffer_size old new (Err error) adds = apart_same old new adds
subscribes_apart {T} {U} may owner place buffer_size old new (Ok number) adds =
    let (between, follows, is_number, is_new) = adds in
    let (listed, is_list, outcome, after, publishers_after, updates, is_between) = follows in
    let first : SubscriberPort = new_subscriber (identity_of owner place old) buffer_size old.sizes.max_publishers
    old.sizes.expired_connections in
    let next = old.next_port in
    let places = old.subscriber_list.places in
    let entry : Member SubscriberEntry = record
    { number = old.subscriber_list.changes + 1; owner = 1; value = record { subscriber = next; buffer_size = buffer_size } } in
    let walked : ListWell next places old.publishers publishers_after =
    (walked_updates (well_walks next places first.number) may listed old.publisher_list.changes first after old.publishers
    publishers_after outcome refl updates).walked in
    let are : between.publishers ≡ publishers_after = ap (λ ports. ports.publishers) is_between in
    let wells : ListWell next places old.publishers between.publishers = rw are walked in
    apart_to old new _ is_new (record {
      apart = λ apart. record {
        places = length-set places place (Some entry) ∙ apart.places ∙ sym (ap (λ ports. ports.sizes.max_subscribers) is_between);
        list = entry_listed next place places entry refl apart.list;
        well = all_then (IsWellEntry next places) (IsWellEntry (next + 1) (set places place (Some entry))) between.publishers
            (λ one is stands. well_listed next place places entry one.1 refl (is stands)) (wells.well apart.well);
      };
    })

creates_subscriber_apart : {T U : Type 0} (may : DegradationInfo → DegradationAction → Type 0) (owner : PortOwner)
    (buffer_size : Result ℕ SubscriberCreateError) (place : Option ℕ) (old new : ServicePorts T U) (answer : Result ℕ SubscriberCreateError)
    → CreatesSubscriber may owner buffer_size place old answer new → StaysApart old new
creates_subscriber_apart may owner (Err refusal) place old new answer creates = apart_same old new creates.1
creates_subscriber_apart may owner (Ok buffer_size) None old new answer creates = apart_same old new creates.1
creates_subscriber_apart may owner (Ok buffer_size) (Some place) old new answer creates
    = subscribes_apart may owner place buffer_size old new creates.0 creates.1

-- a publisher leaves
leaves_apart : {T U : Type 0} (free : Bool) (number : ℕ) (port : PublisherPort T U) (old new : ServicePorts T U) (answer : Bool)
    → port_of number old.publishers ≡ Some port
    → publishing.LeavesPortIf free number port old answer new → StaysApart old new
leaves_apart false number port old new answer there leaves = apart_same old new leaves.1
leaves_apart true number port old new answer there leaves =
    let next = old.next_port in
    let places = old.subscriber_list.places in
    apart_to old new _ leaves.1 (apart_list old _ refl refl refl (λ list.
    wells_on next places old.publishers (with_port number old.publishers (departed port)) _
    (wells_with next places number old.publishers port (departed port) there (goes_departed next places port))
    (wells_settled next places number (with_port number old.publishers (departed port)))))

leaves_at_apart : {T U : Type 0} (number : ℕ) (found : Option (PublisherPort T U)) (old new : ServicePorts T U) (answer : Bool)
    → port_of number old.publishers ≡ found → publishing.LeavesAt number found old answer new → StaysApart old new
leaves_at_apart number None old new answer there leaves = apart_same old new leaves.1
leaves_at_apart number (Some port) old new answer there leaves = leaves_apart (is_free port) number port old new answer there leaves

-- a list that lists fewer
record Fewer (old new : List (Option (Member SubscriberEntry))) : Type 0 where
  long : length new ≡ length old
  fewer : (place : ℕ) (member : Member SubscriberEntry) → get_or new place None ≡ Some member → get_or old place None ≡ Some member

fewer_same : (places : List (Option (Member SubscriberEntry))) → Fewer places places
fewer_same places = record { long = refl; fewer = λ place member listed. listed }

left_fewer_by : (may listed : Bool) (place : ℕ) (list : RollState SubscriberEntry)
    → Fewer list.places (if may then (if listed then changed_to (set list.places place None) list else list) else list).places
left_fewer_by false listed place list = fewer_same list.places
left_fewer_by true false place list = fewer_same list.places
left_fewer_by true true place list = record {
  long = length-set list.places place None;
  fewer = λ other member is. elim (listed_cases list.places place other None member is) [
    | inl here ↦ let no : None ≡ Some member = here.1 in absurd (cc)
    | inr elsewhere ↦ elsewhere.1
  ];
}

left_fewer : (place : ℕ) (list : RollState SubscriberEntry) → Fewer list.places (left place list).places
left_fewer place list = left_fewer_by (may_change list) (is_listed place list) place list

-- a subscriber leaves
subscriber_leaves_apart : {T U : Type 0} (stands : Bool) (number : ℕ) (port : SubscriberPort) (old new : ServicePorts T U)
    (answer : Bool) → subscribing.LeavesPortIf stands number port old answer new → StaysApart old new
subscriber_leaves_apart false number port old new answer leaves = apart_same old new leaves.1
subscriber_leaves_apart {T} {U} true number port old new answer leaves =
    let next = old.next_port in
    let places = old.subscriber_list.places in
    let fewer : Fewer places (left port.place old.subscriber_list).places = left_fewer port.place old.subscriber_list in
    let walked = left_all_walk (well_walks {T = T} {U = U} next places port.number) (well_leaving next places) port.connections.values
    old.publishers in
    apart_to old new _ leaves.1 (record {
      apart = λ apart. record {
        places = fewer.long ∙ apart.places;
        list = record {
          apart = λ one other first second is_first is_second. apart.list.apart one other first second (fewer.fewer one first is_first)
              (fewer.fewer other second is_second);
          below = λ place member is. apart.list.below place member (fewer.fewer place member is);
        };
        well = all_then (IsWellEntry next places) (IsWellEntry next (left port.place old.subscriber_list).places) _ (λ one is stands.
            let well : IsTiedWell next places one.1 = is stands in
            record {
              apart = well.apart;
              live = well.live;
              read = well.read;
              alone = λ place other member listed not. well.alone place other member (fewer.fewer place member listed) not;
              below = well.below;
              room = omega (arith, well.room, fewer.long);
              known = well.known;
              sole = well.sole;
              all = well.all;
            }) (walked.well apart.well);
      };
    })

subscriber_leaves_at_apart : {T U : Type 0} (number : ℕ) (found : Option SubscriberPort) (old new : ServicePorts T U) (answer : Bool)
    → subscribing.LeavesAt number found old answer new → StaysApart old new
subscriber_leaves_at_apart number None old new answer leaves = apart_same old new leaves.1
subscriber_leaves_at_apart number (Some port) old new answer leaves = subscriber_leaves_apart port.stands number port old new answer leaves

-- a sample is released
released_apart : {T U : Type 0} (number : ℕ) (given : Taken) (place : Option ℕ) (old new : ServicePorts T U) (answer : Bool)
    → subscribing.ReleasesAt number given place old answer new → StaysApart old new
released_apart number given None old new answer releases = apart_same old new releases.1
released_apart number given (Some at) old new answer releases =
    apart_to old new _ releases.1 (apart_list old _ refl refl refl
    (λ list. wells_released old.next_port old.subscriber_list.places given.publisher given.index at old.publishers))

releases_apart : {T U : Type 0} (found : Option SubscriberPort) (number : ℕ) (given : Taken) (old new : ServicePorts T U)
    (answer : Bool) → subscribing.ReleasesOf found number given old answer new → StaysApart old new
releases_apart None number given old new answer releases = apart_same old new releases.1
releases_apart (Some port) number given old new answer releases
    = released_apart number given (place_of given.slot (connection_in given.publisher given.index old.publishers)) old new answer releases

calls_stay : {T U : Type 0} (overrides : ℕ → ℕ → Type 0) (may : DegradationInfo → DegradationAction → Type 0)
    (decide : BackpressureInfo → BackpressureDecision → Type 0) (call : PortCall T U) (old new : ServicePorts T U)
    → Happens overrides may decide call old new → StaysApart old new
calls_stay overrides may decide (PublisherComes config user_header answer) old new happens
    = creates_apart overrides may config user_header (slots_needed config old) (publisher_place old) old new answer happens
calls_stay overrides may decide (SubscriberComes owner buffer_size answer) old new happens
    = creates_subscriber_apart may owner (buffer_of buffer_size old.sizes) (subscriber_place old) old new answer happens
calls_stay overrides may decide (Lends number values elements answer) old new happens =
    apart_publisher number _ (port_of number old.publishers) old new answer
    (λ port after answer list loans. carry_loans (goes_carries old.next_port old.subscriber_list.places) values elements port after
    answer loans) refl happens
calls_stay overrides may decide (Writes number slot test change) old new happens =
    apart_to old new _ happens (apart_list old _ refl refl refl
    (λ list. wells_changed old.next_port old.subscriber_list.places number (λ port. changed_if (test port) slot change port)
    old.publishers
    (λ port. carry_changed (goes_carries old.next_port old.subscriber_list.places) (test port) slot change port)))
calls_stay overrides may decide (GivesLoanUp number slot) old new happens =
    let next = old.next_port in
    let places = old.subscriber_list.places in
    apart_to old new _ happens (apart_list old _ refl refl refl
    (λ list. wells_on next places old.publishers (changed number (given_up slot) old.publishers) _
    (wells_changed next places number (given_up slot) old.publishers (λ port. carry_given_up (goes_carries next places) slot port))
    (wells_settled next places number (changed number (given_up slot) old.publishers))))
calls_stay overrides may decide (PublisherUpdates number answer) old new happens =
    apart_publisher number _ (port_of number old.publishers) old new answer
    (λ port after answer list updates. goes_updates_one old.next_port old.subscriber_list may port after answer list updates) refl
    happens
calls_stay overrides may decide (Sends number slot answer) old new happens =
    apart_publisher number _ (port_of number old.publishers) old new answer
    (λ port after answer list sends. goes_sends_one old.next_port old.subscriber_list may decide slot port after answer list sends)
    refl happens
calls_stay overrides may decide (Retries number elapsed answer) old new happens =
    apart_publisher number _ (port_of number old.publishers) old new answer
    (λ port after answer list retries. carry_retries (goes_carries old.next_port old.subscriber_list.places) decide elapsed port
    after answer retries) refl happens
calls_stay overrides may decide (GivesSendUp number answer) old new happens =
    apart_publisher number _ (port_of number old.publishers) old new answer
    (λ port after answer list gives. carry_gives_up (goes_carries old.next_port old.subscriber_list.places) port after answer gives)
    refl happens
calls_stay overrides may decide (PublisherLeaves number answer) old new happens
    = leaves_at_apart number (port_of number old.publishers) old new answer refl happens
calls_stay overrides may decide (SubscriberUpdates number answer) old new happens =
    apart_subscriber number _ (subscriber_of number old.subscribers) old new answer
    (λ port after ports ports_after answer updates. updates_apart old.next_port old.subscriber_list.places port.stands may
    old.publisher_list port after ports ports_after answer updates) happens
calls_stay overrides may decide (AsksForSamples number answer) old new happens =
    apart_subscriber number _ (subscriber_of number old.subscribers) old new answer
    (λ port after ports ports_after answer has. has_apart old.next_port old.subscriber_list.places port.stands may old.publisher_list
    port after ports ports_after answer has) happens
calls_stay overrides may decide (Receives number answer) old new happens =
    apart_subscriber number _ (subscriber_of number old.subscribers) old new answer
    (λ port after ports ports_after answer receives. receives_apart old.next_port old.subscriber_list.places port.stands may
    old.publisher_list port after ports ports_after answer receives) happens
calls_stay overrides may decide (Releases number given answer) old new happens
    = releases_apart (subscribing.taker_of number given old.subscribers) number given old new answer happens
calls_stay overrides may decide (SubscriberLeaves number answer) old new happens
    = subscriber_leaves_at_apart number (subscriber_of number old.subscribers) old new answer happens

pub stays_apart : {T U : Type 0} (overrides : ℕ → ℕ → Type 0) (may : DegradationInfo → DegradationAction → Type 0)
    (decide : BackpressureInfo → BackpressureDecision → Type 0) (call : PortCall T U) (old new : ServicePorts T U)
    → Happens overrides may decide call old new → IsApart old → IsApart new
stays_apart overrides may decide call old new happens = (calls_stay overrides may decide call old new happens).apart

-- a new list lists nobody
none_listed : (count place : ℕ) (member : Member SubscriberEntry) → get_or (replicate count None) place None ≡ Some member → ⊥
none_listed count place member listed = let no : None ≡ Some member = sym (nothing count place) ∙ listed in cc where
  nothing : (count place : ℕ) → get_or (replicate count None) place None ≡ (let none : Option (Member SubscriberEntry) = None in none)
  nothing zero place = refl
  nothing (suc count) zero = refl
  nothing (suc count) (suc place) = nothing count place

pub new_apart : {T U : Type 0} (service : ℕ) (sizes : ServiceSizes) (ports : ServicePorts T U) → ports ≡ no_ports service sizes
    → IsApart ports
new_apart {T} {U} service sizes ports is =
    let none : Option (Member SubscriberEntry) = None in
    rw is (record {
      places = length-replicate sizes.max_subscribers none;
      list = record {
        apart = λ one other first second is_first. absurd (none_listed sizes.max_subscribers one first is_first);
        below = λ place member listed. absurd (none_listed sizes.max_subscribers place member listed);
      };
      well = All-nil (IsWellEntry 1 (replicate sizes.max_subscribers none));
    })
