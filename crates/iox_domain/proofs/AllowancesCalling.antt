-- What each call of a port makes of how many loans may still be made.
use Rattle.std.proofs.Common.{arith, ◌≡◌, ◌+◌, ◌≤◌, ℕ, Bool, true, false, List, Option, None, Some, Result, Ok, Err, refl, sym, ap}
use Rattle.std.specs.declared.alloc.AllocError.{AllocError}
use Rattle.iox_domain.specs.DomainValues.Sizes.{buffer_of}
use Rattle.iox_domain.specs.DomainValues.declared.backpressure.BackpressureDecision.{BackpressureDecision}
use Rattle.iox_domain.specs.DomainValues.declared.backpressure.BackpressureInfo.{BackpressureInfo}
use Rattle.iox_domain.specs.DomainValues.declared.connection_failure.ConnectionFailure.{ConnectionFailure}
use Rattle.iox_domain.specs.DomainValues.declared.create_error.PublisherCreateError.{PublisherCreateError}
use Rattle.iox_domain.specs.DomainValues.declared.create_error.SubscriberCreateError.{SubscriberCreateError}
use Rattle.iox_domain.specs.DomainValues.declared.degradation.DegradationAction.{DegradationAction}
use Rattle.iox_domain.specs.DomainValues.declared.degradation.DegradationInfo.{DegradationInfo}
use Rattle.iox_domain.specs.DomainValues.declared.port_error.ReceiveError.{ReceiveError}
use Rattle.iox_domain.specs.DomainValues.declared.port_owner.PortOwner.{PortOwner}
use Rattle.iox_domain.specs.DomainPorts.Leaving.{new_port, departed}
use Rattle.iox_domain.specs.DomainPorts.Writing.{changed_if, given_up}
use Rattle.iox_domain.specs.DomainPorts.declared.publisher_port.PublisherPort.{PublisherPort}
use Rattle.iox_domain.specs.DomainPorts.Arriving.{new_subscriber}
use Rattle.iox_domain.specs.DomainPorts.Publishers.{port_of, with_port, added, changed, settled, released, connection_in}
use Rattle.iox_domain.specs.DomainPorts.Reading.{place_of}
use Rattle.iox_domain.specs.DomainPorts.Receiving.{left_all}
use Rattle.iox_domain.specs.DomainPorts.declared.attached.Taken.{Taken}
use Rattle.iox_domain.specs.DomainPorts.declared.publisher_entry.PublisherEntry.{PublisherEntry}
use Rattle.iox_domain.specs.DomainPorts.declared.subscriber_port.SubscriberPort.{SubscriberPort}
use Rattle.iox_domain.specs.Lending.{LoansOne}
use Rattle.iox_domain.specs.Making.{slots_needed, publisher_place, subscriber_place, identity_of, sender_config, AddsPublisher}
use Rattle.iox_domain.specs.Making.{sequence_before, CreatesPublisher, AddsSubscriber, CreatesSubscriber}
use Rattle.iox_domain.specs.Ports.{AtPublisher, AtSubscriber}
use Rattle.iox_domain.specs.PortsPublishing.{is_free}
use Rattle.iox_domain.specs.PortsPublishing as publishing
use Rattle.iox_domain.specs.Rolls.{RollState}
use Rattle.iox_domain.specs.Subscribers.{subscriber_of}
use Rattle.iox_domain.specs.PortsSubscribing as subscribing
use Rattle.iox_domain.specs.declared.ports.making.PublisherConfig.{PublisherConfig}
use Rattle.iox_domain.specs.declared.ports.service_ports.ServicePorts.{ServicePorts}
use Rattle.iox_domain.specs.Calls.{PortCall, PublisherComes, SubscriberComes, Lends, Writes, GivesLoanUp, PublisherUpdates, Sends}
use Rattle.iox_domain.specs.Calls.{Retries, GivesSendUp, PublisherLeaves, SubscriberUpdates, AsksForSamples, Receives, Releases}
use Rattle.iox_domain.specs.Calls.{SubscriberLeaves, Happens}
use Rattle.iox_domain.proofs.Calling.{no_value}
use Rattle.iox_domain.proofs.Outliving.{not_true}
use Rattle.iox_domain.proofs.Walks.{walked_updates, walked_receives, left_all_walk}
use Rattle.iox_domain.specs.Loans.{spare_loans, loans_left, lent_by, ended_by, brought_by, LoansLeft}
use Rattle.iox_domain.proofs.Allowing.{as_spare, updates_allows, departed_spares}
use Rattle.iox_domain.proofs.Lending.{loans_spare, changed_spares, given_up_spares, updates_spare, sends_spare, retries_spare}
use Rattle.iox_domain.proofs.Lending.{gives_up_spares}
use Rattle.iox_domain.proofs.Sums.{left_among, put_left, with_left, settled_left, changed_left, added_left}
use Rattle.iox_domain.proofs.Walking.{left_walks, left_leaving, left_takes, released_left}

-- nothing happened, or the publishers alone changed
same_left : {T U : Type 0} (old new : ServicePorts T U) → new ≡ old → loans_left new ≤ loans_left old
same_left old new is = let same : loans_left new ≡ loans_left old = ap loans_left is in omega (arith, same)

list_left : {T U : Type 0} (ended : ℕ) (old new : ServicePorts T U) (ports : List (ℕ × PublisherPort T U)) → new.publishers ≡ ports
    → left_among ports ≤ left_among old.publishers + ended → loans_left new ≤ loans_left old + ended
list_left ended old new ports are few = let same : loans_left new ≡ left_among ports = ap left_among are in omega (arith, same, few)

-- a call of a publisher that answers none does nothing
unanswered : {T U A : Type 0} (number : ℕ) (step : PublisherPort T U → Option A → PublisherPort T U → Type 0)
    (found : Option (PublisherPort T U)) (old new : ServicePorts T U)
    → AtPublisher number step found old None new → loans_left new ≤ loans_left old
unanswered number step None old new at = same_left old new at.1
unanswered number step (Some port) old new (after, steps, is) = same_left old new is

-- one that answers took a step
answered_at : {T U A : Type 0} (lent ended number : ℕ) (step : PublisherPort T U → Option A → PublisherPort T U → Type 0)
    (found : Option (PublisherPort T U)) (old new : ServicePorts T U) (value : A)
    → ((port after : PublisherPort T U) → step port (Some value) after → spare_loans after + lent ≤ spare_loans port + ended)
    → port_of number old.publishers ≡ found
    → AtPublisher number step found old (Some value) new → loans_left new + lent ≤ loans_left old + ended
answered_at lent ended number step None old new value few there at = absurd (no_value value at.0)
answered_at lent ended number step (Some port) old new value few there (after, steps, is) =
    let same : loans_left new ≡ left_among (settled number (with_port number old.publishers after)) = ap loans_left is in
    omega (
      arith,
      same,
      settled_left number (with_port number old.publishers after),
      with_left lent ended number old.publishers port after
          there (few port after steps),
    )

answered : {T U A : Type 0} (lent ended number : ℕ) (step : PublisherPort T U → Option A → PublisherPort T U → Type 0)
    (old new : ServicePorts T U) (value : A)
    → ((port after : PublisherPort T U) → step port (Some value) after → spare_loans after + lent ≤ spare_loans port + ended)
    → AtPublisher number step (port_of number old.publishers) old (Some value) new → loans_left new + lent ≤ loans_left old + ended
answered lent ended number step old new value few at
    = answered_at lent ended number step (port_of number old.publishers) old new value few refl at

-- a call that makes and ends no loan
stepped : {T U A : Type 0} (number : ℕ) (step : PublisherPort T U → Option A → PublisherPort T U → Type 0) (old new : ServicePorts T U)
    (answer : Option A)
    → ((port after : PublisherPort T U) → step port answer after → spare_loans after ≤ spare_loans port)
    → AtPublisher number step (port_of number old.publishers) old answer new → loans_left new ≤ loans_left old
stepped number step old new None few at = unanswered number step (port_of number old.publishers) old new at
stepped number step old new (Some value) few at =
    omega (arith, answered 0 0 number step old new value (λ port after steps. omega (arith, few port after steps)) at)

-- a publisher leaves: what it could still make may no longer be made
departs : {T U : Type 0} (number : ℕ) (port : PublisherPort T U) (old new : ServicePorts T U) → port_of number old.publishers ≡ Some port
    → new.publishers ≡ settled number (with_port number old.publishers (departed port)) → loans_left new + spare_loans port ≡ loans_left old
departs number port old new there are =
    let same : loans_left new ≡ left_among (settled number (with_port number old.publishers (departed port))) = ap left_among are in
    omega (
      arith,
      same,
      settled_left number (with_port number old.publishers (departed port)),
      put_left number old.publishers port
          (departed port) there,
      departed_spares port,
    )

leaves_exactly : {T U : Type 0} (free : Bool) (number : ℕ) (port : PublisherPort T U) (old new : ServicePorts T U)
    → port_of number old.publishers ≡ Some port
    → publishing.LeavesPortIf free number port old true new → loans_left new + spare_loans port ≡ loans_left old
leaves_exactly false number port old new there leaves = absurd (not_true (sym leaves.0))
leaves_exactly true number port old new there leaves = departs number port old new there (ap (λ ports. ports.publishers) leaves.1)

leaves_if : {T U : Type 0} (free : Bool) (number : ℕ) (port : PublisherPort T U) (old new : ServicePorts T U) (answer : Bool)
    → port_of number old.publishers ≡ Some port
    → publishing.LeavesPortIf free number port old answer new → loans_left new ≤ loans_left old
leaves_if false number port old new answer there leaves = same_left old new leaves.1
leaves_if true number port old new answer there leaves
    = omega (arith, departs number port old new there (ap (λ ports. ports.publishers) leaves.1))

leaves_at : {T U : Type 0} (number : ℕ) (found : Option (PublisherPort T U)) (old new : ServicePorts T U) (answer : Bool)
    → port_of number old.publishers ≡ found
    → publishing.LeavesAt number found old answer new → loans_left new ≤ loans_left old
leaves_at number None old new answer there leaves = same_left old new leaves.1
leaves_at number (Some port) old new answer there leaves = leaves_if (is_free port) number port old new answer there leaves

-- a publisher comes
adds : {T U : Type 0} (may : DegradationInfo → DegradationAction → Type 0) (config : PublisherConfig) (user_header : U)
    (place slots number : ℕ) (old new : ServicePorts T U)
    → AddsPublisher may config user_header place slots old (Ok number) new → loans_left new ≤ loans_left old + config.max_loaned_samples
adds {T} {U} may config user_header place slots number old new (listed, is_list, outcome, port, updates, next, is) =
    let first : PublisherPort T U = new_port (identity_of config.owner place old) old.sizes.max_subscribers config.allocation
    config.unit (sequence_before config old) (sender_config config slots old) user_header in
    let same : loans_left new ≡ left_among (added old.next_port port old.publishers) = ap loans_left is in
    omega (
      arith,
      same,
      added_left old.next_port port old.publishers,
      as_spare first port
          (updates_allows may listed old.subscriber_list.changes first outcome port updates),
    )

creates_publisher : {T U : Type 0} (overrides : ℕ → ℕ → Type 0) (may : DegradationInfo → DegradationAction → Type 0)
    (config : PublisherConfig) (user_header : U) (needed place : Option ℕ)
    (old new : ServicePorts T U) (answer : Result ℕ PublisherCreateError)
    → CreatesPublisher overrides may config user_header needed place old answer new
    → loans_left new ≤ loans_left old + brought_by {T = T} {U = U} (PublisherComes config user_header answer)
creates_publisher overrides may config user_header None place old new answer creates = omega (arith, same_left old new creates.1)
creates_publisher overrides may config user_header (Some needed) None old new answer creates = omega (arith, same_left old new creates.1)
creates_publisher overrides may config user_header (Some needed) (Some place) old new answer (slots, allowed, Err error, adding, is)
    = omega (arith, same_left old new adding)
creates_publisher {T} {U} overrides may config user_header (Some needed) (Some place) old new answer
    (slots, allowed, Ok number, adding, is) =
    let brought : brought_by {T = T} {U = U} (PublisherComes config user_header answer) ≡ config.max_loaned_samples =
    ap (λ outcome. brought_by {T = T} {U = U} (PublisherComes config user_header outcome)) is in
    omega (arith, brought, adds may config user_header place _ number old new adding)

-- a call of a subscriber
at_subscriber : {T U A : Type 0} (number : ℕ)
    (step : SubscriberPort → List (ℕ × PublisherPort T U) → Option A → SubscriberPort → List (ℕ × PublisherPort T U) → Type 0)
    (found : Option SubscriberPort)
    (old new : ServicePorts T U) (answer : Option A)
    → ((port after : SubscriberPort) (ports ports_after : List (ℕ × PublisherPort T U)) → step port ports answer after ports_after
    → left_among ports_after ≤ left_among ports)
    → AtSubscriber number step found old answer new → loans_left new ≤ loans_left old
at_subscriber number step None old new answer few at = same_left old new at.1
at_subscriber number step (Some port) old new None few (after, ports_after, steps, is) = same_left old new is
at_subscriber number step (Some port) old new (Some value) few (after, ports_after, steps, is) =
    let same : loans_left new ≡ left_among ports_after = ap loans_left is in
    omega (arith, same, few port after old.publishers ports_after steps)

as_they_were : {T U : Type 0} (ports ports_after : List (ℕ × PublisherPort T U)) → ports_after ≡ ports
    → left_among ports_after ≤ left_among ports
as_they_were ports ports_after are = let same : left_among ports_after ≡ left_among ports = ap left_among are in omega (arith, same)

subscriber_updates : {T U : Type 0} (stands : Bool) (may : DegradationInfo → DegradationAction → Type 0)
    (list : RollState PublisherEntry) (answer : Option (Result (Unit {0}) ConnectionFailure)) (port after : SubscriberPort)
    (ports ports_after : List (ℕ × PublisherPort T U)) → subscribing.UpdatesIf stands may list port ports answer after ports_after
    → left_among ports_after ≤ left_among ports
subscriber_updates false may list answer port after ports ports_after updates = as_they_were ports ports_after updates.2
subscriber_updates true may list answer port after ports ports_after (listed, is_list, outcome, updates, is) =
    (walked_updates (left_walks port.number) may listed list.changes port after ports ports_after outcome refl updates).walked

subscriber_asks : {T U : Type 0} (stands : Bool) (may : DegradationInfo → DegradationAction → Type 0) (list : RollState PublisherEntry)
    (answer : Option (Result Bool ConnectionFailure)) (port after : SubscriberPort)
    (ports ports_after : List (ℕ × PublisherPort T U)) → subscribing.HasSamplesIf stands may list port ports answer after ports_after
    → left_among ports_after ≤ left_among ports
subscriber_asks false may list answer port after ports ports_after asks = as_they_were ports ports_after asks.2
subscriber_asks true may list answer port after ports ports_after (listed, is_list, outcome, (updated, updates, has), is) =
    (walked_updates (left_walks port.number) may listed list.changes port after ports ports_after updated refl updates).walked

subscriber_receives : {T U : Type 0} (stands : Bool) (may : DegradationInfo → DegradationAction → Type 0)
    (list : RollState PublisherEntry) (answer : Option (Result (Option Taken) ReceiveError)) (port after : SubscriberPort)
    (ports ports_after : List (ℕ × PublisherPort T U)) → subscribing.ReceivesIf stands may list port ports answer after ports_after
    → left_among ports_after ≤ left_among ports
subscriber_receives false may list answer port after ports ports_after receives = as_they_were ports ports_after receives.2
subscriber_receives true may list answer port after ports ports_after (listed, is_list, outcome, received, receives, counted, is) =
    (walked_receives (left_walks port.number) left_takes may listed list.changes port received ports ports_after outcome refl
    receives).walked

-- a subscriber comes
adds_subscriber : {T U : Type 0} (may : DegradationInfo → DegradationAction → Type 0) (owner : PortOwner) (place buffer_size : ℕ)
    (old new : ServicePorts T U) (outcome : Result ℕ AllocError)
    → AddsSubscriber may owner place buffer_size old outcome new → loans_left new ≤ loans_left old
adds_subscriber may owner place buffer_size old new (Err error) adding = same_left old new adding
adds_subscriber may owner place buffer_size old new (Ok number)
    (between, (listed, is_list, outcome, after, ports_after, updates, followed), next, is) =
    let first : SubscriberPort = new_subscriber (identity_of owner place old) buffer_size old.sizes.max_publishers
    old.sizes.expired_connections in
    let are : loans_left between ≡ left_among ports_after = ap loans_left followed in
    let same : loans_left new ≡ loans_left between = ap loans_left is in
    let few = (walked_updates (left_walks first.number) may listed old.publisher_list.changes first after old.publishers ports_after
    outcome refl updates).walked in
    omega (arith, same, are, few)

creates_subscriber : {T U : Type 0} (may : DegradationInfo → DegradationAction → Type 0) (owner : PortOwner)
    (buffer_size : Result ℕ SubscriberCreateError) (place : Option ℕ) (old new : ServicePorts T U)
    (answer : Result ℕ SubscriberCreateError) → CreatesSubscriber may owner buffer_size place old answer new
    → loans_left new ≤ loans_left old
creates_subscriber may owner (Err refusal) place old new answer creates = same_left old new creates.1
creates_subscriber may owner (Ok buffer_size) None old new answer creates = same_left old new creates.1
creates_subscriber may owner (Ok buffer_size) (Some place) old new answer (outcome, adding, is)
    = adds_subscriber may owner place buffer_size old new outcome adding

-- a sample is released, and a subscriber leaves
releases_at : {T U : Type 0} (number : ℕ) (sample : Taken) (place : Option ℕ) (old new : ServicePorts T U) (answer : Bool)
    → subscribing.ReleasesAt number sample place old answer new → loans_left new ≤ loans_left old
releases_at number sample None old new answer releases = same_left old new releases.1
releases_at number sample (Some at) old new answer releases =
    let same : loans_left new ≡ left_among (released sample.publisher sample.index (Some at) old.publishers) = ap loans_left releases.1 in
    omega (arith, same, released_left sample.publisher sample.index (Some at) old.publishers)

releases_of : {T U : Type 0} (found : Option SubscriberPort) (number : ℕ) (sample : Taken) (old new : ServicePorts T U) (answer : Bool)
    → subscribing.ReleasesOf found number sample old answer new → loans_left new ≤ loans_left old
releases_of None number sample old new answer releases = same_left old new releases.1
releases_of (Some port) number sample old new answer releases
    = releases_at number sample (place_of sample.slot (connection_in sample.publisher sample.index old.publishers)) old new answer releases

subscriber_leaves_if : {T U : Type 0} (stands : Bool) (number : ℕ) (port : SubscriberPort) (old new : ServicePorts T U) (answer : Bool)
    → subscribing.LeavesPortIf stands number port old answer new → loans_left new ≤ loans_left old
subscriber_leaves_if false number port old new answer leaves = same_left old new leaves.1
subscriber_leaves_if true number port old new answer leaves =
    let same : loans_left new ≡ left_among (left_all port.connections.values old.publishers) = ap loans_left leaves.1 in
    let few = left_all_walk (left_walks port.number) left_leaving port.connections.values old.publishers in
    omega (arith, same, few)

subscriber_leaves_at : {T U : Type 0} (number : ℕ) (found : Option SubscriberPort) (old new : ServicePorts T U) (answer : Bool)
    → subscribing.LeavesAt number found old answer new → loans_left new ≤ loans_left old
subscriber_leaves_at number None old new answer leaves = same_left old new leaves.1
subscriber_leaves_at number (Some port) old new answer leaves = subscriber_leaves_if port.stands number port old new answer leaves

-- each call
module _ {T U : Type 0} (overrides : ℕ → ℕ → Type 0) (may : DegradationInfo → DegradationAction → Type 0)
    (decide : BackpressureInfo → BackpressureDecision → Type 0) where
  goes_on : (call : PortCall T U) (old new : ServicePorts T U) → Happens overrides may decide call old new
      → loans_left new + lent_by call ≤ loans_left old + ended_by call + brought_by call
  goes_on (PublisherComes config user_header answer) old new happens =
      omega (
        arith,
        creates_publisher overrides may config user_header (slots_needed config old) (publisher_place old) old new answer
            happens,
      )
  goes_on (SubscriberComes owner buffer_size answer) old new happens =
      omega (arith, creates_subscriber may owner (buffer_of buffer_size old.sizes) (subscriber_place old) old new answer happens)
  goes_on (Lends number values elements None) old new happens
      = omega (arith, unanswered number (LoansOne values elements) (port_of number old.publishers) old new happens)
  goes_on (Lends number values elements (Some (Ok slot))) old new happens =
      omega (
        arith,
        answered 1 0 number (LoansOne values elements) old new (Ok slot)
            (λ port after loans. omega (arith, loans_spare values elements port (Ok slot) after loans)) happens,
      )
  goes_on (Lends number values elements (Some (Err error))) old new happens =
      omega (
        arith,
        answered 0 0 number (LoansOne values elements) old new (Err error)
            (λ port after loans. omega (arith, loans_spare values elements port (Err error) after loans)) happens,
      )
  goes_on (Writes number slot test change) old new happens =
      let few = changed_left 0 number (λ port. changed_if (test port) slot change port) old.publishers
      (λ port. omega (arith, changed_spares (test port) slot change port)) in
      omega (arith, list_left 0 old new _ (ap (λ ports. ports.publishers) happens) few)
  goes_on (GivesLoanUp number slot) old new happens =
      let gone = settled_left number (changed number (given_up slot) old.publishers) in
      let few = changed_left 1 number (given_up slot) old.publishers (given_up_spares slot) in
      omega (arith, list_left 1 old new _ (ap (λ ports. ports.publishers) happens) (omega (arith, gone, few)))
  goes_on (PublisherUpdates number answer) old new happens =
      omega (
        arith,
        stepped number (publishing.UpdatesOne may old.subscriber_list) old new answer
            (λ port after updates. updates_spare may old.subscriber_list port answer after updates) happens,
      )
  goes_on (Sends number slot None) old new happens
      = omega (
        arith,
        unanswered number (publishing.SendsOne may decide old.subscriber_list slot) (port_of number old.publishers) old new
            happens,
      )
  goes_on (Sends number slot (Some outcome)) old new happens =
      omega (
        arith,
        answered 0 1 number (publishing.SendsOne may decide old.subscriber_list slot) old new outcome
            (λ port after sends. omega (arith, sends_spare may decide old.subscriber_list slot port (Some outcome) after sends)) happens,
      )
  goes_on (Retries number elapsed answer) old new happens =
      omega (
        arith,
        stepped number (publishing.RetriesOne decide elapsed) old new answer
            (λ port after retries. retries_spare decide elapsed port answer after retries) happens,
      )
  goes_on (GivesSendUp number answer) old new happens
      = omega (
        arith,
        stepped number publishing.GivesUpOne old new answer (λ port after gives. gives_up_spares port answer after gives)
            happens,
      )
  goes_on (PublisherLeaves number answer) old new happens
      = omega (arith, leaves_at number (port_of number old.publishers) old new answer refl happens)
  goes_on (SubscriberUpdates number answer) old new happens =
      omega (
        arith,
        at_subscriber number (subscribing.UpdatesOne may old.publisher_list) (subscriber_of number old.subscribers) old new answer
            (λ port after ports ports_after updates. subscriber_updates port.stands may old.publisher_list answer port after ports
            ports_after updates) happens,
      )
  goes_on (AsksForSamples number answer) old new happens =
      omega (
        arith,
        at_subscriber number (subscribing.HasSamplesOne may old.publisher_list) (subscriber_of number old.subscribers) old new answer
            (λ port after ports ports_after asks. subscriber_asks port.stands may old.publisher_list answer port after ports ports_after
            asks) happens,
      )
  goes_on (Receives number answer) old new happens =
      omega (
        arith,
        at_subscriber number (subscribing.ReceivesOne may old.publisher_list) (subscriber_of number old.subscribers) old new answer
            (λ port after ports ports_after receives. subscriber_receives port.stands may old.publisher_list answer port after ports
            ports_after receives) happens,
      )
  goes_on (Releases number sample answer) old new happens
      = omega (arith, releases_of (subscribing.taker_of number sample old.subscribers) number sample old new answer happens)
  goes_on (SubscriberLeaves number answer) old new happens
      = omega (arith, subscriber_leaves_at number (subscriber_of number old.subscribers) old new answer happens)

  pub loans_left_by_calls : LoansLeft T U overrides may decide
  loans_left_by_calls = record {
    begins = λ service sizes. refl;
    goes_on = goes_on;
    leaves = λ number port old new there leaves. leaves_exactly (is_free port) number port old new there leaves;
  }
