-- How often ports came and left: a measure of the ports of a service, of which a port that comes brings six.
use Rattle.std.proofs.Common.{◌≡◌, ℕ, zero, suc, ◌+◌, ◌≤◌, Bool, true, false, cond, List, [], ◌∷◌, Option, None, Some, Result, Ok, Err}
use Rattle.std.proofs.Common.{refl, ap, arith}
use Rattle.std.specs.Prelude.{get_or, is_some, replicate, slice_set}
use Rattle.std.specs.declared.alloc.AllocError.{AllocError}
use Rattle.iox_command.specs.DomainValues.declared.create_error.PublisherCreateError.{PublisherCreateError}
use Rattle.iox_command.specs.DomainValues.declared.create_error.SubscriberCreateError.{SubscriberCreateError}
use Rattle.iox_command.specs.DomainValues.declared.degradation.DegradationAction.{DegradationAction}
use Rattle.iox_command.specs.DomainValues.declared.degradation.DegradationInfo.{DegradationInfo}
use Rattle.iox_command.specs.DomainValues.declared.port_owner.PortOwner.{PortOwner}
use Rattle.iox_command.specs.DomainValues.declared.service_sizes.ServiceSizes.{ServiceSizes}
use Rattle.iox_domain.specs.Calls.{PortCall, PublisherComes, SubscriberComes, Lends, Writes, GivesLoanUp, PublisherUpdates, Sends, Retries}
use Rattle.iox_domain.specs.Calls.{GivesSendUp, PublisherLeaves, SubscriberUpdates, AsksForSamples, Receives, Releases, SubscriberLeaves}
use Rattle.iox_domain.specs.Calls.{Happens}
use Rattle.iox_domain.specs.Lending.{LoansOne}
use Rattle.iox_domain.specs.Making.{AddsPublisher, AddsSubscriber, CreatesPublisher, CreatesSubscriber, publisher_answer, subscriber_answer}
use Rattle.iox_domain.specs.Making.{slots_needed, publisher_place, subscriber_place}
use Rattle.iox_domain.specs.DomainPorts.Publishers.{port_of}
use Rattle.iox_domain.specs.DomainPorts.declared.attached.Taken.{Taken}
use Rattle.iox_domain.specs.DomainPorts.declared.publisher_entry.PublisherEntry.{PublisherEntry}
use Rattle.iox_domain.specs.DomainPorts.declared.subscriber_entry.SubscriberEntry.{SubscriberEntry}
use Rattle.iox_domain.specs.DomainPorts.declared.publisher_port.PublisherPort.{PublisherPort}
use Rattle.iox_domain.specs.DomainPorts.declared.subscriber_port.SubscriberPort.{SubscriberPort}
use Rattle.iox_domain.specs.Ports.{AtPublisher, AtSubscriber, no_ports}
use Rattle.iox_domain.specs.PortsPublishing as publishing
use Rattle.iox_domain.specs.PortsSubscribing as subscribing
use Rattle.iox_domain.specs.Rolls.{RollState, entered, left, may_change, is_listed, changed_to}
use Rattle.iox_domain.specs.Subscribers.{subscriber_of}
use Rattle.iox_domain.specs.declared.ports.making.PublisherConfig.{PublisherConfig}
use Rattle.iox_domain.specs.declared.ports.service_ports.ServicePorts.{ServicePorts}
use Rattle.iox_domain.specs.Container.declared.container.Member.{Member}
use Rattle.iox_domain.specs.DomainValues.Sizes.{buffer_of}
use Rattle.iox_hub_commands.specs.Grown.{AnySlots, AnyAction, AnyDecision}
use Rattle.iox_hub_machine.specs.Ran.{listed, rolled, port_count}
use Rattle.iox_hub_commands.proofs.Measures.{Measure, taken_by, given_by, brought_by, came}

-- ---- a list of ports

pub none_listed : (V : Type 0) (count : ℕ) → listed {V = V} (replicate count None) ≡ 0
none_listed V zero = refl
none_listed V (suc count) = none_listed V count

module _ {V : Type 0} where
  listed_more : (places : List (Option V)) (place : ℕ) (it : V) → listed (slice_set places place (Some it)) ≤ listed places + 1
  listed_more [] place it = omega arith
  listed_more (None ∷ places) zero it = omega arith
  listed_more (Some other ∷ places) zero it = omega arith
  listed_more (None ∷ places) (suc place) it = listed_more places place it
  listed_more (Some other ∷ places) (suc place) it = omega (arith, listed_more places place it)

  listed_less : (places : List (Option V)) (place : ℕ) → is_some (get_or places place None) ≡ true
      → listed (slice_set places place None) + 1 ≤ listed places
  listed_less [] place some = cc
  listed_less (None ∷ places) zero some = cc
  listed_less (Some other ∷ places) zero some = omega arith
  listed_less (None ∷ places) (suc place) some = listed_less places place some
  listed_less (Some other ∷ places) (suc place) some = omega (arith, listed_less places place some)

module _ {V : Type 0} where
  enters : (place : ℕ) (port : V) (roll : RollState V) → rolled (entered place port roll) ≤ rolled roll + 2
  enters place port roll =
      omega (arith, listed_more roll.places place (record { number = roll.changes + 1; owner = 1; value = port }))

  leaves_by : (may there : Bool) (place : ℕ) (roll : RollState V) → is_some (get_or roll.places place None) ≡ there
      → rolled (cond may (cond there (changed_to (slice_set roll.places place None) roll) roll) roll) ≤ rolled roll
  leaves_by false there place roll is = omega arith
  leaves_by true false place roll is = omega arith
  leaves_by true true place roll is = omega (arith, listed_less roll.places place is)

  leaves : (place : ℕ) (roll : RollState V) → rolled (left place roll) ≤ rolled roll
  leaves place roll = leaves_by (may_change roll) (is_listed place roll) place roll refl

-- ---- the ports of a service

module _ {T U : Type 0} where
  at_publisher : {A : Type 0} (number : ℕ) (step : PublisherPort T U → Option A → PublisherPort T U → Type 0)
      (found : Option (PublisherPort T U)) (old new : ServicePorts T U) (answer : Option A) → AtPublisher number step found old answer new
      → port_count new ≡ port_count old
  at_publisher number step None old new answer at = ap port_count at.1
  at_publisher number step (Some port) old new None at = ap port_count at.2
  at_publisher number step (Some port) old new (Some value) at = ap port_count at.2

  at_subscriber : {A : Type 0} (number : ℕ)
      (step : SubscriberPort → List (ℕ × PublisherPort T U) → Option A → SubscriberPort → List (ℕ × PublisherPort T U) → Type 0)
      (found : Option SubscriberPort) (old new : ServicePorts T U) (answer : Option A) → AtSubscriber number step found old answer new
      → port_count new ≡ port_count old
  at_subscriber number step None old new answer at = ap port_count at.1
  at_subscriber number step (Some port) old new None at = ap port_count at.3
  at_subscriber number step (Some port) old new (Some value) at = ap port_count at.3

  publisher_leaves_if : (free : Bool) (number : ℕ) (port : PublisherPort T U) (old new : ServicePorts T U) (answer : Bool)
      → publishing.LeavesPortIf free number port old answer new → port_count new ≤ port_count old
  publisher_leaves_if false number port old new answer h = let same = ap port_count h.1 in omega (arith, same)
  publisher_leaves_if true number port old new answer h =
      let same = ap port_count h.1 in omega (arith, same, leaves port.place old.publisher_list)

  publisher_leaves : (number : ℕ) (found : Option (PublisherPort T U)) (old new : ServicePorts T U) (answer : Bool)
      → publishing.LeavesAt number found old answer new → port_count new ≤ port_count old
  publisher_leaves number None old new answer h = let same = ap port_count h.1 in omega (arith, same)
  publisher_leaves number (Some port) old new answer h = publisher_leaves_if _ number port old new answer h

  subscriber_leaves_if : (stands : Bool) (number : ℕ) (port : SubscriberPort) (old new : ServicePorts T U) (answer : Bool)
      → subscribing.LeavesPortIf stands number port old answer new → port_count new ≤ port_count old
  subscriber_leaves_if false number port old new answer h = let same = ap port_count h.1 in omega (arith, same)
  subscriber_leaves_if true number port old new answer h =
      let same = ap port_count h.1 in omega (arith, same, leaves port.place old.subscriber_list)

  subscriber_leaves : (number : ℕ) (found : Option SubscriberPort) (old new : ServicePorts T U) (answer : Bool)
      → subscribing.LeavesAt number found old answer new → port_count new ≤ port_count old
  subscriber_leaves number None old new answer h = let same = ap port_count h.1 in omega (arith, same)
  subscriber_leaves number (Some port) old new answer h = subscriber_leaves_if port.stands number port old new answer h

  releases_at : (number : ℕ) (sample : Taken) (at : Option ℕ) (old new : ServicePorts T U) (answer : Bool)
      → subscribing.ReleasesAt number sample at old answer new → port_count new ≡ port_count old
  releases_at number sample None old new answer h = ap port_count h.1
  releases_at number sample (Some at) old new answer h = ap port_count h.1

  releases_of : (found : Option SubscriberPort) (number : ℕ) (sample : Taken) (old new : ServicePorts T U) (answer : Bool)
      → subscribing.ReleasesOf found number sample old answer new → port_count new ≡ port_count old
  releases_of None number sample old new answer h = ap port_count h.1
  releases_of (Some port) number sample old new answer h = releases_at number sample _ old new answer h

  adds_publisher : (may : DegradationInfo → DegradationAction → Type 0) (config : PublisherConfig) (user_header : U) (place slots : ℕ)
      (old new : ServicePorts T U) (outcome : Result ℕ AllocError) → AddsPublisher may config user_header place slots old outcome new
      → port_count new ≤ port_count old + came 6 (publisher_answer outcome)
  adds_publisher may config user_header place slots old new (Err error) h = let same = ap port_count h in omega (arith, same)
  adds_publisher may config user_header place slots old new (Ok number) (listed, is_list, outcome, port, updates, is_number, is) =
      let same = ap port_count is in
      omega (arith, same, enters place (record { publisher = old.next_port }) old.publisher_list)

  creates_publisher : (overrides : ℕ → ℕ → Type 0) (may : DegradationInfo → DegradationAction → Type 0) (config : PublisherConfig)
      (user_header : U) (needed place : Option ℕ) (old new : ServicePorts T U) (answer : Result ℕ PublisherCreateError)
      → CreatesPublisher overrides may config user_header needed place old answer new
      → port_count new ≤ port_count old + came 6 answer
  creates_publisher overrides may config user_header None place old new answer h = let same = ap port_count h.1 in omega (arith, same)
  creates_publisher overrides may config user_header (Some needed) None old new answer h =
      let same = ap port_count h.1 in omega (arith, same)
  creates_publisher overrides may config user_header (Some needed) (Some place) old new answer (slots, allowed, outcome, adds, is) =
      rw is (adds_publisher may config user_header place _ old new outcome adds)

  adds_subscriber : (may : DegradationInfo → DegradationAction → Type 0) (owner : PortOwner) (place buffer_size : ℕ)
      (old new : ServicePorts T U) (outcome : Result ℕ AllocError) → AddsSubscriber may owner place buffer_size old outcome new
      → port_count new ≤ port_count old + came 6 (subscriber_answer outcome)
  adds_subscriber may owner place buffer_size old new (Err error) h = let same = ap port_count h in omega (arith, same)
  adds_subscriber may owner place buffer_size old new (Ok number)
      (between, (listed, is_list, outcome, after, publishers_after, updates, is_between), is_number, is) =
      let same = ap port_count is in
      let list = ap (λ (ports : ServicePorts T U). rolled ports.publisher_list) is_between in
      omega (arith, same, list, enters place (record { subscriber = old.next_port; buffer_size = buffer_size }) old.subscriber_list)

  creates_subscriber : (may : DegradationInfo → DegradationAction → Type 0) (owner : PortOwner)
      (buffer_size : Result ℕ SubscriberCreateError) (place : Option ℕ) (old new : ServicePorts T U)
      (answer : Result ℕ SubscriberCreateError) → CreatesSubscriber may owner buffer_size place old answer new
      → port_count new ≤ port_count old + came 6 answer
  creates_subscriber may owner (Err refusal) place old new answer h = let same = ap port_count h.1 in omega (arith, same)
  creates_subscriber may owner (Ok buffer_size) None old new answer h = let same = ap port_count h.1 in omega (arith, same)
  creates_subscriber may owner (Ok buffer_size) (Some place) old new answer (outcome, adds, is) =
      rw is (adds_subscriber may owner place buffer_size old new outcome adds)

  -- ---- each call

  -- what a port that comes brings
  abbrev pub brings : PublisherConfig → ServicePorts T U → ℕ
  brings config ports = 6

  abbrev pub holds : ServicePorts T U → ℕ
  holds ports = 6

  abbrev pub Fits : PortCall T U → ServicePorts T U → ServicePorts T U → Type 0
  Fits call old new = port_count new + taken_by 0 0 call ≤ port_count old + given_by 0 0 call + brought_by brings holds call old

  pub call_counts : (call : PortCall T U) (old new : ServicePorts T U) → Happens AnySlots AnyAction AnyDecision call old new
      → Fits call old new
  call_counts (PublisherComes config user_header answer) old new h =
      omega (
        arith,
        creates_publisher AnySlots AnyAction config user_header (slots_needed config old) (publisher_place old) old new answer
            h,
      )
  call_counts (SubscriberComes owner buffer_size answer) old new h =
      omega (arith, creates_subscriber AnyAction owner (buffer_of buffer_size old.sizes) (subscriber_place old) old new answer h)
  call_counts (Lends number values elements None) old new h =
      let same = at_publisher number (LoansOne values elements) (port_of number old.publishers) old new None h in omega (arith, same)
  call_counts (Lends number values elements (Some (Err error))) old new h =
      let same = at_publisher number (LoansOne values elements) (port_of number old.publishers) old new (Some (Err error)) h in omega
      (arith, same)
  call_counts (Lends number values elements (Some (Ok slot))) old new h =
      let same = at_publisher number (LoansOne values elements) (port_of number old.publishers) old new (Some (Ok slot)) h in omega
      (arith, same)
  call_counts (Writes number slot test change) old new h = let same = ap port_count h in omega (arith, same)
  call_counts (GivesLoanUp number slot) old new h = let same = ap port_count h in omega (arith, same)
  call_counts (PublisherUpdates number answer) old new h =
      let same = at_publisher number (publishing.UpdatesOne AnyAction old.subscriber_list) (port_of number old.publishers) old new answer
      h in omega (arith, same)
  call_counts (Sends number slot answer) old new h =
      let same = at_publisher number (publishing.SendsOne AnyAction AnyDecision old.subscriber_list slot) (port_of number old.publishers)
      old new answer h in omega (arith, same)
  call_counts (Retries number elapsed answer) old new h =
      let same = at_publisher number (publishing.RetriesOne AnyDecision elapsed) (port_of number old.publishers) old new answer h in omega
      (arith, same)
  call_counts (GivesSendUp number answer) old new h =
      let same = at_publisher number publishing.GivesUpOne (port_of number old.publishers) old new answer h in omega (arith, same)
  call_counts (PublisherLeaves number answer) old new h =
      omega (arith, publisher_leaves number (port_of number old.publishers) old new answer h)
  call_counts (SubscriberUpdates number answer) old new h =
      let same = at_subscriber number (subscribing.UpdatesOne AnyAction old.publisher_list) (subscriber_of number old.subscribers) old new
      answer h in omega (arith, same)
  call_counts (AsksForSamples number answer) old new h =
      let same = at_subscriber number (subscribing.HasSamplesOne AnyAction old.publisher_list) (subscriber_of number old.subscribers) old
      new answer h in omega (arith, same)
  call_counts (Receives number None) old new h =
      let same = at_subscriber number (subscribing.ReceivesOne AnyAction old.publisher_list) (subscriber_of number old.subscribers) old
      new None h in omega (arith, same)
  call_counts (Receives number (Some (Err error))) old new h =
      let same = at_subscriber number (subscribing.ReceivesOne AnyAction old.publisher_list) (subscriber_of number old.subscribers) old
      new (Some (Err error)) h in omega (arith, same)
  call_counts (Receives number (Some (Ok None))) old new h =
      let same = at_subscriber number (subscribing.ReceivesOne AnyAction old.publisher_list) (subscriber_of number old.subscribers) old
      new (Some (Ok None)) h in omega (arith, same)
  call_counts (Receives number (Some (Ok (Some taken)))) old new h =
      let same = at_subscriber number (subscribing.ReceivesOne AnyAction old.publisher_list) (subscriber_of number old.subscribers) old
      new (Some (Ok (Some taken))) h in omega (arith, same)
  call_counts (Releases number sample answer) old new h =
      let same = releases_of _ number sample old new answer h in omega (arith, same)
  call_counts (SubscriberLeaves number answer) old new h =
      omega (arith, subscriber_leaves number (subscriber_of number old.subscribers) old new answer h)

pub none_at_first : (T U : Type 0) (service : ℕ) (sizes : ServiceSizes) → port_count {T = T} {U = U} (no_ports service sizes) ≡ 0
none_at_first T U service sizes =
    let publishers = none_listed (Member PublisherEntry) sizes.max_publishers in
    let subscribers = none_listed (Member SubscriberEntry) sizes.max_subscribers in
    omega (arith, publishers, subscribers)

module _ {T U : Type 0} where
  -- as a measure
  abbrev pub port_measure : Measure T U
  port_measure = record {
    count = λ ports. port_count ports;
    Fine = λ ports. Unit {0};
    loan = 0;
    sample = 0;
    brings = brings;
    holds = holds;
    begins = λ service sizes. tt;
    nothing = λ service sizes. none_at_first T U service sizes;
    goes_on = λ call old new happens fine. tt;
    left = λ call old new happens fine. call_counts call old new happens;
  }
