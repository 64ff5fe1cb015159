-- What each call of a port leaves held.
use Rattle.std.proofs.Common.{arith, ◌≡◌, ◌≢◌, ◌+◌, ◌==◌, ◌&&◌, [], ℕ, Bool, true, false, List, Option, None, Some, Result, Ok, Err, refl}
use Rattle.std.proofs.Common.{sym, ap, ◌∙◌, subst, is_some}
use Rattle.std.proofs.lemmas.Bool.{eq-eqb}
use Rattle.std.proofs.lemmas.List.Elements.{All-nil}
use Rattle.std.specs.List.{All}
use Rattle.std.specs.declared.alloc.AllocError.{AllocError}
use Rattle.iox_domain.specs.DomainValues.Sequences.{before_first}
use Rattle.iox_domain.specs.DomainValues.declared.backpressure.BackpressureDecision.{BackpressureDecision}
use Rattle.iox_domain.specs.DomainValues.declared.backpressure.BackpressureInfo.{BackpressureInfo}
use Rattle.iox_domain.specs.DomainValues.declared.connection_failure.ConnectionFailure.{ConnectionFailure}
use Rattle.iox_domain.specs.DomainValues.declared.create_error.PublisherCreateError.{PublisherCreateError}
use Rattle.iox_domain.specs.DomainValues.declared.create_error.SubscriberCreateError.{SubscriberCreateError}
use Rattle.iox_domain.specs.DomainValues.declared.degradation.DegradationAction.{DegradationAction}
use Rattle.iox_domain.specs.DomainValues.declared.degradation.DegradationInfo.{DegradationInfo}
use Rattle.iox_domain.specs.DomainValues.declared.port_error.ReceiveError.{ReceiveError}
use Rattle.iox_domain.specs.DomainValues.declared.port_owner.PortOwner.{PortOwner}
use Rattle.iox_domain.specs.DomainPorts.Messages.{Message}
use Rattle.iox_domain.specs.DomainPorts.Leaving.{new_port, departed}
use Rattle.iox_domain.specs.DomainPorts.Writing.{changed_if, given_up}
use Rattle.iox_domain.specs.DomainPorts.declared.publisher_port.PublisherPort.{PublisherPort}
use Rattle.iox_domain.specs.DomainPorts.Arriving.{new_subscriber}
use Rattle.iox_domain.specs.DomainPorts.Publishers.{port_of, with_port, changed, connection_in}
use Rattle.iox_domain.specs.DomainPorts.Reading.{place_of}
use Rattle.iox_domain.specs.DomainPorts.declared.attached.Taken.{Taken}
use Rattle.iox_domain.specs.DomainPorts.declared.subscriber_port.SubscriberPort.{SubscriberPort}
use Rattle.iox_domain.specs.SizeLaws.{IsWithin, IsMadeFor, made_for, allowed_by}
use Rattle.iox_domain.proofs.ListKeeps.{made_still}
use Rattle.iox_domain.specs.Calls.{PortCall, PublisherComes, SubscriberComes, Lends, Writes, GivesLoanUp, PublisherUpdates, Sends}
use Rattle.iox_domain.specs.Calls.{Retries, GivesSendUp, PublisherLeaves, SubscriberUpdates, AsksForSamples, Receives, Releases}
use Rattle.iox_domain.specs.Calls.{SubscriberLeaves, Happens}
use Rattle.iox_domain.specs.PortLawsLaws.{IsTidy, IsSoundEntry, IsSound, gives_back, HeldStays}
use Rattle.iox_domain.specs.DomainValues.Sizes.{buffer_of}
use Rattle.iox_domain.specs.Making.{slots_needed, publisher_place, subscriber_place, identity_of, sender_config, AddsPublisher}
use Rattle.iox_domain.specs.Making.{sequence_before, CreatesPublisher, AddsSubscriber, CreatesSubscriber}
use Rattle.iox_domain.specs.Ports.{AtPublisher, AtSubscriber, with_publisher}
use Rattle.iox_domain.specs.PortsPublishing.{is_free}
use Rattle.iox_domain.specs.PortsPublishing as publishing
use Rattle.iox_domain.specs.Reading.{sample_in, sample_at_port}
use Rattle.iox_domain.specs.Rolls.{RollState}
use Rattle.iox_domain.specs.Subscribers.{subscriber_of}
use Rattle.iox_domain.specs.PortsSubscribing as subscribing
use Rattle.iox_domain.specs.declared.ports.making.PublisherConfig.{PublisherConfig}
use Rattle.iox_domain.specs.declared.ports.service_ports.ServicePorts.{ServicePorts}
use Rattle.iox_domain.specs.DomainPorts.declared.publisher_entry.PublisherEntry.{PublisherEntry}
use Rattle.iox_domain.proofs.PortLawsKeeping.{PortKeeps, nobody_within}
use Rattle.iox_domain.proofs.ListKeeps.{ListKeeps, list_stays, list_on, list_with, list_changed, list_settled, tidy_after, number_found}
use Rattle.iox_domain.proofs.ListKeeps.{held_walks, held_takes, held_leaving}
use Rattle.iox_domain.proofs.Numbered.{other_came, all_came, all_then}
use Rattle.iox_domain.proofs.PublisherKeeps.{port_updates, port_loans, port_changed, port_given_up, port_departed, port_updates_one}
use Rattle.iox_domain.proofs.PublisherKeeps.{port_sends_one, port_retries, port_gives_up}
use Rattle.iox_domain.proofs.Releasing.{back_keeps}
use Rattle.iox_domain.proofs.Walks.{walked_updates, walked_receives, left_all_walk}
use Rattle.iox_domain.specs.DomainPorts.Ports.{connection_of}

-- a call leaves a service sound, and what is held stays, of all samples or of all but one
record CallKeeps {T U : Type 0} (spared : Taken → Type 0) (old new : ServicePorts T U) : Type 0 where
  sound : IsSound old → IsSound new
  held : IsSound old → (sample : Taken) (message : Message T U) → spared sample → sample_in sample old ≡ Some message
      → sample_in sample new ≡ Some message
  sized : All (IsMadeFor (allowed_by old.sizes)) old.publishers → All (IsMadeFor (allowed_by old.sizes)) new.publishers

call_same : {T U : Type 0} (spared : Taken → Type 0) (old new : ServicePorts T U) → new ≡ old → CallKeeps spared old new
call_same spared old new is = rw is (record { sound = λ sound. sound; held = λ sound sample message apart held. held; sized = λ all. all })

-- the publishers changed, and no number was given out
call_list : {T U : Type 0} (spared : Taken → Type 0) (old new : ServicePorts T U) → new.next_port ≡ old.next_port
    → ListKeeps old.publishers new.publishers → CallKeeps spared old new
call_list spared old new next keeps = record {
  sound = λ sound. subst (λ n. All (IsSoundEntry n) new.publishers) (sym next) (keeps.sound old.next_port sound);
  held = λ sound sample message apart held. keeps.held old.next_port sound sample message held;
  sized = keeps.sized (allowed_by old.sizes);
}

call_to : {T U : Type 0} (spared : Taken → Type 0) (old new other : ServicePorts T U) → new ≡ other → CallKeeps spared old other
    → CallKeeps spared old new
call_to spared old new other is keeps = rw is keeps

stepped : {T U : Type 0} (number : ℕ) (ports : List (ℕ × PublisherPort T U)) (port after : PublisherPort T U)
    → port_of number ports ≡ Some port → PortKeeps port after → (old : ServicePorts T U) → old.publishers ≡ ports
    → ListKeeps old.publishers (with_publisher number after old).publishers
stepped number ports port after there keeps old is =
    list_on old.publishers (with_port number old.publishers after) _
    (list_with number old.publishers port after (ap (λ all. port_of number all) is ∙ there) keeps)
    (list_settled number (with_port number old.publishers after))

-- a call of a publisher
at_found : {T U A : Type 0} (spared : Taken → Type 0) (number : ℕ) (step : PublisherPort T U → Option A → PublisherPort T U → Type 0)
    (found : Option (PublisherPort T U)) (old new : ServicePorts T U) (answer : Option A)
    → ((port after : PublisherPort T U) (answer : Option A) → step port answer after → PortKeeps port after)
    → port_of number old.publishers ≡ found → AtPublisher number step found old answer new → CallKeeps spared old new
at_found spared number step None old new answer keeps there happens = call_same spared old new happens.1
at_found spared number step (Some port) old new None keeps there happens = call_same spared old new happens.2
at_found {T} {U} spared number step (Some port) old new (Some value) keeps there happens =
    let after : PublisherPort T U = happens.0 in
    call_to spared old new (with_publisher number after old) happens.2
    (call_list spared old (with_publisher number after old) refl
    (stepped number old.publishers port after there (keeps port after (Some value) happens.1) old refl))

-- a call of a subscriber
at_subscriber : {T U A : Type 0} (spared : Taken → Type 0) (number : ℕ)
    (step : SubscriberPort → List (ℕ × PublisherPort T U) → Option A → SubscriberPort → List (ℕ × PublisherPort T U) → Type 0)
    (found : Option SubscriberPort)
    (old new : ServicePorts T U) (answer : Option A)
    → ((port after : SubscriberPort) (ports ports_after : List (ℕ × PublisherPort T U)) (answer : Option A)
    → step port ports answer after ports_after → ListKeeps ports ports_after)
    → AtSubscriber number step found old answer new → CallKeeps spared old new
at_subscriber spared number step None old new answer keeps happens = call_same spared old new happens.1
at_subscriber spared number step (Some port) old new None keeps happens = call_same spared old new happens.3
at_subscriber spared number step (Some port) old new (Some value) keeps happens =
    let (after, ports_after, steps, is) = happens in
    call_to spared old new _ is (call_list spared old _ refl (keeps port after old.publishers ports_after (Some value) steps))

stays_if : {T U : Type 0} (ports new : List (ℕ × PublisherPort T U)) → new ≡ ports → ListKeeps ports new
stays_if ports new is = rw is (list_stays ports)

updates_keep : {T U : Type 0} (stands : Bool) (may : DegradationInfo → DegradationAction → Type 0) (list : RollState PublisherEntry)
    (port after : SubscriberPort) (ports ports_after : List (ℕ × PublisherPort T U)) (answer : Option (Result (Unit {0}) ConnectionFailure))
    → subscribing.UpdatesIf stands may list port ports answer after ports_after → ListKeeps ports ports_after
updates_keep false may list port after ports ports_after answer updates = stays_if ports ports_after updates.2
updates_keep true may list port after ports ports_after answer updates =
    (walked_updates (held_walks port.number) may updates.0 list.changes port after ports ports_after updates.2 refl updates.3).walked

has_keeps : {T U : Type 0} (stands : Bool) (may : DegradationInfo → DegradationAction → Type 0) (list : RollState PublisherEntry)
    (port after : SubscriberPort) (ports ports_after : List (ℕ × PublisherPort T U)) (answer : Option (Result Bool ConnectionFailure))
    → subscribing.HasSamplesIf stands may list port ports answer after ports_after → ListKeeps ports ports_after
has_keeps false may list port after ports ports_after answer has = stays_if ports ports_after has.2
has_keeps true may list port after ports ports_after answer has =
    (walked_updates (held_walks port.number) may has.0 list.changes port after ports ports_after has.3.0 refl has.3.1).walked

receives_keep : {T U : Type 0} (stands : Bool) (may : DegradationInfo → DegradationAction → Type 0) (list : RollState PublisherEntry)
    (port after : SubscriberPort) (ports ports_after : List (ℕ × PublisherPort T U)) (answer : Option (Result (Option Taken) ReceiveError))
    → subscribing.ReceivesIf stands may list port ports answer after ports_after → ListKeeps ports ports_after
receives_keep false may list port after ports ports_after answer receives = stays_if ports ports_after receives.2
receives_keep true may list port after ports ports_after answer receives =
    (walked_receives (held_walks port.number) held_takes may receives.0 list.changes port receives.3 ports ports_after receives.2 refl
    receives.4).walked

-- a publisher comes
new_tidy : {T U : Type 0} (port after : PublisherPort T U) → port.sender.uses.connections ≡ [] → PortKeeps port after → IsTidy after
new_tidy port after none keeps = tidy_after port after keeps (λ index vacant. rw none refl)

numbered_first : (numbered : Bool) (first : ℕ) → is_some (before_first numbered first) ≡ numbered
numbered_first true first = refl
numbered_first false first = refl

added_keeps : {T U : Type 0} (spared : Taken → Type 0) (may : DegradationInfo → DegradationAction → Type 0) (config : PublisherConfig)
    (user_header : U) (place slots : ℕ) (old new : ServicePorts T U) (outcome : Result ℕ AllocError)
    → AddsPublisher may config user_header place slots old outcome new → CallKeeps spared old new
added_keeps spared may config user_header place slots old new (Err error) adds = call_same spared old new adds
added_keeps {T} {U} spared may config user_header place slots old new (Ok number) adds =
    let (listed, is_list, outcome, port, updates, is_number, is_new) = adds in
    let first : PublisherPort T U = new_port (identity_of config.owner place old) old.sizes.max_subscribers config.allocation
    config.unit (sequence_before config old) (sender_config config slots old) user_header in
    let kept : PortKeeps first port = port_updates may listed old.subscriber_list.changes first port outcome updates in
    let tidy : IsTidy port = new_tidy first port refl kept in
    let made : (made_for port ≡ allowed_by old.sizes)
    × ((index : ℕ) → IsWithin (allowed_by old.sizes) (connection_of index port))
    = made_still (allowed_by old.sizes) first port kept.sizes kept.within (
      ap (λ numbered. record (allowed_by old.sizes) { numbered = numbered })
          (numbered_first old.sizes.sequence_numbers config.first_sequence),
      λ index. nobody_within (Message T U) (allowed_by old.sizes),
    ) in
    call_to spared old new _ is_new (record {
      sound = λ sound. all_came (IsSoundEntry (old.next_port + 1)) old.next_port old.publishers port (omega arith, tidy)
          (λ one is. (is.0, tidy))
          (all_then (IsSoundEntry old.next_port) (IsSoundEntry (old.next_port + 1)) old.publishers
          (λ one is. (omega (arith, is.0), is.1)) sound);
      held = λ sound sample message apart held.
          ap (λ found. sample_at_port sample found)
          (other_came old.next_port sample.publisher old.publishers port (not_new old sample message sound held)) ∙ held;
      sized = λ all. all_came (IsMadeFor (allowed_by old.sizes)) old.next_port old.publishers port made (λ one is. made) all;
    })
  where
    not_new : {T U : Type 0} (old : ServicePorts T U) (sample : Taken) (message : Message T U) → IsSound old
        → sample_in sample old ≡ Some message → sample.publisher ≢ old.next_port
    not_new {T} {U} old sample message sound held = below (port_of sample.publisher old.publishers) refl held where
      below : (found : Option (PublisherPort T U)) → port_of sample.publisher old.publishers ≡ found
          → sample_at_port sample found ≡ Some message → sample.publisher ≢ old.next_port
      below None there held same = cc
      below (Some port) there held same = absurd
          (omega (arith, same, number_found old.next_port sample.publisher old.publishers port sound there))

creates_publisher : {T U : Type 0} (spared : Taken → Type 0) (overrides : ℕ → ℕ → Type 0)
    (may : DegradationInfo → DegradationAction → Type 0) (config : PublisherConfig) (user_header : U) (needed place : Option ℕ)
    (old new : ServicePorts T U) (answer : Result ℕ PublisherCreateError)
    → CreatesPublisher overrides may config user_header needed place old answer new → CallKeeps spared old new
creates_publisher spared overrides may config user_header None place old new answer creates = call_same spared old new creates.1
creates_publisher spared overrides may config user_header (Some needed) None old new answer creates = call_same spared old new creates.1
creates_publisher spared overrides may config user_header (Some needed) (Some place) old new answer creates
    = added_keeps spared may config user_header place _ old new creates.2 creates.3

-- a subscriber comes
subscribes : {T U : Type 0} (spared : Taken → Type 0) (may : DegradationInfo → DegradationAction → Type 0) (owner : PortOwner)
    (place buffer_size : ℕ) (old new : ServicePorts T U) (outcome : Result ℕ AllocError)
    → AddsSubscriber may owner place buffer_size old outcome new → CallKeeps spared old new
subscribes spared may owner place buffer_size old new (Err error) adds = call_same spared old new adds
subscribes {T} {U} spared may owner place buffer_size old new (Ok number) adds =
    let (between, follows, is_number, is_new) = adds in
    let (listed, is_list, outcome, after, publishers_after, updates, is_between) = follows in
    let first : SubscriberPort = new_subscriber (identity_of owner place old) buffer_size old.sizes.max_publishers
    old.sizes.expired_connections in
    let keeps : ListKeeps old.publishers publishers_after
    = (walked_updates (held_walks first.number) may listed old.publisher_list.changes first after old.publishers publishers_after
    outcome refl updates).walked in
    let are : between.publishers ≡ publishers_after = ap (λ ports. ports.publishers) is_between in
    let walked : ListKeeps old.publishers between.publishers = rw are keeps in
    call_to spared old new _ is_new (record {
      sound = λ sound. all_then (IsSoundEntry old.next_port) (IsSoundEntry (old.next_port + 1)) between.publishers
          (λ one is. (omega (arith, is.0), is.1)) (walked.sound old.next_port sound);
      held = λ sound sample message apart held. walked.held old.next_port sound sample message held;
      sized = walked.sized (allowed_by old.sizes);
    })

creates_subscriber : {T U : Type 0} (spared : Taken → Type 0) (may : DegradationInfo → DegradationAction → Type 0) (owner : PortOwner)
    (buffer_size : Result ℕ SubscriberCreateError) (place : Option ℕ) (old new : ServicePorts T U) (answer : Result ℕ SubscriberCreateError)
    → CreatesSubscriber may owner buffer_size place old answer new → CallKeeps spared old new
creates_subscriber spared may owner (Err refusal) place old new answer creates = call_same spared old new creates.1
creates_subscriber spared may owner (Ok buffer_size) None old new answer creates = call_same spared old new creates.1
creates_subscriber spared may owner (Ok buffer_size) (Some place) old new answer creates
    = subscribes spared may owner place buffer_size old new creates.0 creates.1

-- a port leaves
publisher_leaves : {T U : Type 0} (spared : Taken → Type 0) (free : Bool) (number : ℕ) (port : PublisherPort T U)
    (old new : ServicePorts T U) (answer : Bool) → port_of number old.publishers ≡ Some port
    → publishing.LeavesPortIf free number port old answer new → CallKeeps spared old new
publisher_leaves spared false number port old new answer there leaves = call_same spared old new leaves.1
publisher_leaves spared true number port old new answer there leaves =
    call_to spared old new _ leaves.1 (call_list spared old _ refl
    (stepped number old.publishers port (departed port) there (port_departed port) old refl))

publisher_leaves_at : {T U : Type 0} (spared : Taken → Type 0) (number : ℕ) (found : Option (PublisherPort T U))
    (old new : ServicePorts T U) (answer : Bool) → port_of number old.publishers ≡ found
    → publishing.LeavesAt number found old answer new → CallKeeps spared old new
publisher_leaves_at spared number None old new answer there leaves = call_same spared old new leaves.1
publisher_leaves_at spared number (Some port) old new answer there leaves
    = publisher_leaves spared (is_free port) number port old new answer there leaves

subscriber_leaves : {T U : Type 0} (spared : Taken → Type 0) (stands : Bool) (number : ℕ) (port : SubscriberPort)
    (old new : ServicePorts T U) (answer : Bool) → subscribing.LeavesPortIf stands number port old answer new → CallKeeps spared old new
subscriber_leaves spared false number port old new answer leaves = call_same spared old new leaves.1
subscriber_leaves spared true number port old new answer leaves =
    call_to spared old new _ leaves.1 (call_list spared old _ refl
    (left_all_walk (held_walks port.number) held_leaving port.connections.values old.publishers))

subscriber_leaves_at : {T U : Type 0} (spared : Taken → Type 0) (number : ℕ) (found : Option SubscriberPort)
    (old new : ServicePorts T U) (answer : Bool) → subscribing.LeavesAt number found old answer new → CallKeeps spared old new
subscriber_leaves_at spared number None old new answer leaves = call_same spared old new leaves.1
subscriber_leaves_at spared number (Some port) old new answer leaves
    = subscriber_leaves spared port.stands number port old new answer leaves

-- a sample is released
abbrev Apart : Taken → Taken → Type 0
Apart given sample = sample.publisher ≡ given.publisher → sample.index ≡ given.index → sample.slot ≢ given.slot

released_at : {T U : Type 0} (number : ℕ) (given : Taken) (place : Option ℕ) (old new : ServicePorts T U) (answer : Bool)
    → place_of given.slot (connection_in given.publisher given.index old.publishers) ≡ place
    → subscribing.ReleasesAt number given place old answer new → CallKeeps (λ sample. Apart given sample) old new
released_at number given None old new answer there releases = call_same _ old new releases.1
released_at number given (Some at) old new answer there releases =
    let keeps = back_keeps given at old.publishers there in
    call_to _ old new _ releases.1 (record {
      sound = λ sound. keeps.sound old.next_port sound;
      held = λ sound sample message apart held. keeps.held old.next_port sound sample message apart held;
      sized = keeps.sized (allowed_by old.sizes);
    })

released_of : {T U : Type 0} (found : Option SubscriberPort) (number : ℕ) (given : Taken) (old new : ServicePorts T U) (answer : Bool)
    → subscribing.ReleasesOf found number given old answer new → CallKeeps (λ sample. Apart given sample) old new
released_of None number given old new answer releases = call_same _ old new releases.1
released_of (Some port) number given old new answer releases
    = released_at number given (place_of given.slot (connection_in given.publisher given.index old.publishers)) old new answer refl releases

all_true : (a b c : Bool) → a ≡ true → b ≡ true → c ≡ true → a && (b && c) ≡ false → ⊥
all_true true true true a b c not = cc
all_true true true false a b c not = cc
all_true true false c a b is not = cc
all_true false b c is b_is c_is not = cc

apart_of : (given sample : Taken) →
    ((sample.publisher == given.publisher) && ((sample.index == given.index) && (sample.slot == given.slot))) ≡ false → Apart given sample
apart_of given sample not = λ publisher index slot.
    all_true _ _ _ (eq-eqb sample.publisher given.publisher publisher) (eq-eqb sample.index given.index index)
    (eq-eqb sample.slot given.slot slot) not

fewer : {T U : Type 0} (one other : Taken → Type 0) (old new : ServicePorts T U) → ((sample : Taken) → other sample → one sample)
    → CallKeeps one old new → CallKeeps other old new
fewer one other old new follows keeps = record {
  sound = keeps.sound;
  held = λ sound sample message spared held. keeps.held sound sample message (follows sample spared) held;
  sized = keeps.sized;
}

calls_keep : {T U : Type 0} (overrides : ℕ → ℕ → Type 0) (may : DegradationInfo → DegradationAction → Type 0)
    (decide : BackpressureInfo → BackpressureDecision → Type 0) (call : PortCall T U) (old new : ServicePorts T U)
    → Happens overrides may decide call old new → CallKeeps (λ sample. gives_back sample call ≡ false) old new
calls_keep overrides may decide (PublisherComes config user_header answer) old new happens
    = creates_publisher _ overrides may config user_header (slots_needed config old) (publisher_place old) old new answer happens
calls_keep overrides may decide (SubscriberComes owner buffer_size answer) old new happens
    = creates_subscriber _ may owner (buffer_of buffer_size old.sizes) (subscriber_place old) old new answer happens
calls_keep overrides may decide (Lends number values elements answer) old new happens =
    at_found _ number _ (port_of number old.publishers) old new answer
    (λ port after answer loans. port_loans values elements port after answer loans) refl happens
calls_keep overrides may decide (Writes number slot test change) old new happens =
    call_to _ old new _ happens (call_list _ old _ refl
    (list_changed number (λ port. changed_if (test port) slot change port) old.publishers
    (λ port. port_changed (test port) slot change port)))
calls_keep overrides may decide (GivesLoanUp number slot) old new happens =
    call_to _ old new _ happens (call_list _ old _ refl
    (list_on old.publishers (changed number (given_up slot) old.publishers) _
    (list_changed number (given_up slot) old.publishers (port_given_up slot))
    (list_settled number (changed number (given_up slot) old.publishers))))
calls_keep overrides may decide (PublisherUpdates number answer) old new happens =
    at_found _ number _ (port_of number old.publishers) old new answer
    (λ port after answer updates. port_updates_one may old.subscriber_list port after answer updates) refl happens
calls_keep overrides may decide (Sends number slot answer) old new happens =
    at_found _ number _ (port_of number old.publishers) old new answer
    (λ port after answer sends. port_sends_one may decide old.subscriber_list slot port after answer sends) refl happens
calls_keep overrides may decide (Retries number elapsed answer) old new happens =
    at_found _ number _ (port_of number old.publishers) old new answer
    (λ port after answer retries. port_retries decide elapsed port after answer retries) refl happens
calls_keep overrides may decide (GivesSendUp number answer) old new happens =
    at_found _ number _ (port_of number old.publishers) old new answer
    (λ port after answer gives. port_gives_up port after answer gives) refl happens
calls_keep overrides may decide (PublisherLeaves number answer) old new happens
    = publisher_leaves_at _ number (port_of number old.publishers) old new answer refl happens
calls_keep overrides may decide (SubscriberUpdates number answer) old new happens =
    at_subscriber _ number _ (subscriber_of number old.subscribers) old new answer
    (λ port after ports ports_after answer updates. updates_keep port.stands may old.publisher_list port after ports ports_after
    answer updates) happens
calls_keep overrides may decide (AsksForSamples number answer) old new happens =
    at_subscriber _ number _ (subscriber_of number old.subscribers) old new answer
    (λ port after ports ports_after answer has. has_keeps port.stands may old.publisher_list port after ports ports_after answer
    has) happens
calls_keep overrides may decide (Receives number answer) old new happens =
    at_subscriber _ number _ (subscriber_of number old.subscribers) old new answer
    (λ port after ports ports_after answer receives. receives_keep port.stands may old.publisher_list port after ports ports_after
    answer receives) happens
calls_keep overrides may decide (Releases number given answer) old new happens =
    fewer _ _ old new (λ sample not. apart_of given sample not)
    (released_of (subscribing.taker_of number given old.subscribers) number given old new answer happens)
calls_keep overrides may decide (SubscriberLeaves number answer) old new happens
    = subscriber_leaves_at _ number (subscriber_of number old.subscribers) old new answer happens

pub held_stays : {T U : Type 0} (overrides : ℕ → ℕ → Type 0) (may : DegradationInfo → DegradationAction → Type 0)
    (decide : BackpressureInfo → BackpressureDecision → Type 0) → HeldStays T U overrides may decide
held_stays overrides may decide = record {
  begins = λ service sizes ports is. rw is (All-nil (IsSoundEntry 1));
  goes_on = λ call old new happens. (calls_keep overrides may decide call old new happens).sound;
  held = λ call old new sample message happens sound spared held. (calls_keep overrides may decide call old new happens).held sound
      sample message spared held;
}

-- what a call leaves the publishers made for
pub sized_stays : {T U : Type 0} (overrides : ℕ → ℕ → Type 0) (may : DegradationInfo → DegradationAction → Type 0)
    (decide : BackpressureInfo → BackpressureDecision → Type 0) (call : PortCall T U) (old new : ServicePorts T U)
    → Happens overrides may decide call old new → All (IsMadeFor (allowed_by old.sizes)) old.publishers
    → All (IsMadeFor (allowed_by old.sizes)) new.publishers
sized_stays overrides may decide call old new happens = (calls_keep overrides may decide call old new happens).sized
