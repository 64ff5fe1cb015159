-- Each port keeps to a number that was given out.
use Rattle.std.proofs.Common.{arith, ◌≡◌, ◌+◌, ◌-◌, ◌<◌, ◌∙◌, ℕ, zero, suc, Bool, true, false, List, [], ◌∷◌, Option, None, Some, Result}
use Rattle.std.proofs.Common.{Ok, Err, if◌then◌else◌, cond, refl, sym, ap, subst}
use Rattle.std.specs.Prelude.{All}
use Rattle.std.specs.BTreeMap.{is_at, insert_entry}
use Rattle.std.specs.Cmp.{nat_cmp_is}
use Rattle.std.specs.Map.{keys_of, lookup}
use Rattle.std.specs.Ordering.{nat_cmp, is_eq}
use Rattle.std.specs.declared.alloc.AllocError.{AllocError}
use Rattle.std.specs.declared.cmp.Ordering.TheVariants.{Greater}
use Rattle.std.proofs.lemmas.Map.{keys-set_value}
use Rattle.std.proofs.lemmas.Map.Views.{All-map-remove_entry, All-keys-insert_entry}
use Rattle.iox_domain.specs.DomainValues.declared.backpressure.BackpressureDecision.{BackpressureDecision}
use Rattle.iox_domain.specs.DomainValues.declared.backpressure.BackpressureInfo.{BackpressureInfo}
use Rattle.iox_domain.specs.DomainValues.declared.create_error.PublisherCreateError.{PublisherCreateError}
use Rattle.iox_domain.specs.DomainValues.declared.create_error.SubscriberCreateError.{SubscriberCreateError}
use Rattle.iox_domain.specs.DomainValues.declared.degradation.DegradationAction.{DegradationAction}
use Rattle.iox_domain.specs.DomainValues.declared.degradation.DegradationInfo.{DegradationInfo}
use Rattle.iox_domain.specs.DomainValues.declared.port_owner.PortOwner.{PortOwner}
use Rattle.iox_domain.specs.DomainPorts.Leaving.{departed}
use Rattle.iox_domain.specs.DomainPorts.Writing.{changed_if, given_up}
use Rattle.iox_domain.specs.DomainPorts.declared.publisher_port.PublisherPort.{PublisherPort}
use Rattle.iox_domain.specs.DomainPorts.Arriving.{new_subscriber}
use Rattle.iox_domain.specs.DomainPorts.Publishers.{port_of, with_port, changed, changed_at_port, is_over_in, settled, connection_in}
use Rattle.iox_domain.specs.DomainPorts.Reading.{place_of}
use Rattle.iox_domain.specs.DomainPorts.declared.attached.Taken.{Taken}
use Rattle.iox_domain.specs.DomainPorts.declared.subscriber_port.SubscriberPort.{SubscriberPort}
use Rattle.iox_domain.specs.Lending.{LoansOne}
use Rattle.iox_domain.specs.Making.{identity_of, CreatesPublisher, CreatesSubscriber, AddsPublisher, AddsSubscriber}
use Rattle.iox_domain.specs.NumberLaws.{IsNumbered, NumbersStay}
use Rattle.iox_domain.specs.Ports.{AtPublisher, AtSubscriber, with_publisher, with_both}
use Rattle.iox_domain.specs.PortsPublishing.{is_free}
use Rattle.iox_domain.specs.PortsPublishing as publishing
use Rattle.iox_domain.specs.Subscribers.{subscriber_of, with_subscriber, subscriber_added, subscriber_removed}
use Rattle.iox_domain.specs.PortsSubscribing.{HasSamplesOne, ReceivesOne, let_go_at, ReleasesAt, ReleasesOf}
use Rattle.iox_domain.specs.PortsSubscribing as subscribing
use Rattle.iox_domain.specs.declared.ports.making.PublisherConfig.{PublisherConfig}
use Rattle.iox_domain.specs.declared.ports.service_ports.ServicePorts.{ServicePorts}
use Rattle.iox_domain.proofs.KeepsLife.{KeepsPorts, put_numbers, gone_numbers, updates_keeps, left_all_keeps, released_keeps}
use Rattle.iox_domain.proofs.Received.{update_made, looked, received_by}

-- each number is below this one
abbrev AllBelow : {X : Type 0} → ℕ → List (ℕ × X) → Type 0
AllBelow next entries = All (λ number. number < next) (keys_of entries)

-- a number that none has is found nowhere
not_found : {X : Type 0} (next : ℕ) (entries : List (ℕ × X)) → AllBelow next entries → lookup (is_at (nat_cmp next)) entries ≡ None
not_found next [] all = refl
not_found next (entry ∷ entries) all =
    let below : entry.0 < next = all zero entry.0 (omega arith) in
    ap (λ order. cond (is_eq order) (Some entry.1) (lookup (is_at (nat_cmp next)) entries)) (sym (nat_cmp_is next entry.0 Greater below))
    ∙ not_found next entries (λ place default within. all (suc place) default (omega (arith, within)))

one_further : {X : Type 0} (next : ℕ) (entries : List (ℕ × X)) → AllBelow next entries → AllBelow (next + 1) entries
one_further next entries all place default within = omega (arith, all place default within)

came : {X : Type 0} (next : ℕ) (entries : List (ℕ × X)) (x : X) → AllBelow next entries
    → AllBelow (next + 1) (insert_entry nat_cmp entries next x)
came next entries x all = All-keys-insert_entry nat_cmp next x (λ number. number < next + 1) entries (one_further next entries all)
    (omega arith)

as_is : {T U : Type 0} (old new : ServicePorts T U) → new ≡ old → IsNumbered old → IsNumbered new
as_is old new is numbered = subst IsNumbered (sym is) numbered

changed_numbers : {T U : Type 0} (number : ℕ) (step : PublisherPort T U → PublisherPort T U) (found : Option (PublisherPort T U))
    (ports : List (ℕ × PublisherPort T U)) (next : ℕ) → AllBelow next ports
    → AllBelow next (changed_at_port number step found ports)
changed_numbers number step None ports next all = all
changed_numbers number step (Some port) ports next all = put_numbers number ports (step port) next all

settled_numbers : {T U : Type 0} (number : ℕ) (ports : List (ℕ × PublisherPort T U)) (next : ℕ) → AllBelow next ports
    → AllBelow next (settled number ports)
settled_numbers number ports next all = gone_numbers (is_over_in number ports) number ports next all

put_numbered : {T U : Type 0} (number : ℕ) (old : ServicePorts T U) (after : PublisherPort T U) → IsNumbered old
    → IsNumbered (with_publisher number after old)
put_numbered number old after numbered
    = (
      settled_numbers number (with_port number old.publishers after) old.next_port
          (put_numbers number old.publishers after old.next_port numbered.0),
      numbered.1,
    )

at_publisher : {T U A : Type 0} (number : ℕ) (step : PublisherPort T U → Option A → PublisherPort T U → Type 0)
    (found : Option (PublisherPort T U)) (old new : ServicePorts T U) (answer : Option A)
    → IsNumbered old → AtPublisher number step found old answer new → IsNumbered new
at_publisher number step None old new answer numbered at = as_is old new at.1 numbered
at_publisher number step (Some port) old new None numbered (after, steps, is) = as_is old new is numbered
at_publisher number step (Some port) old new (Some value) numbered (after, steps, is)
    = as_is (with_publisher number after old) new is (put_numbered number old after numbered)

left_publisher : {T U : Type 0} (number : ℕ) (found : Option (PublisherPort T U)) (old new : ServicePorts T U) (answer : Bool)
    → IsNumbered old → publishing.LeavesAt number found old answer new → IsNumbered new
left_publisher number None old new answer numbered leaves = as_is old new leaves.1 numbered
left_publisher {T} {U} number (Some port) old new answer numbered leaves = at (is_free port) leaves
  where
    at : (free : Bool) → publishing.LeavesPortIf free number port old answer new → IsNumbered new
    at false leaves = as_is old new leaves.1 numbered
    at true leaves = subst IsNumbered (sym leaves.1) (put_numbered number old (departed port) numbered)

put_subscriber : (number : ℕ) (ports : List (ℕ × SubscriberPort)) (after : SubscriberPort) (next : ℕ) → AllBelow next ports
    → AllBelow next (with_subscriber number ports after)
put_subscriber number ports after next all
    = subst (λ keys. All (λ number. number < next) keys) (sym (keys-set_value (is_at (nat_cmp number)) ports after)) all

settled_subscribers : (over : Bool) (number : ℕ) (ports : List (ℕ × SubscriberPort)) (next : ℕ) → AllBelow next ports
    → AllBelow next (if over then subscriber_removed number ports else ports)
settled_subscribers true number ports next all
    = All-map-remove_entry (is_at (nat_cmp number)) (λ (entry : ℕ × SubscriberPort). entry.0) (λ number. number < next) ports all
settled_subscribers false number ports next all = all

both_numbered : {T U : Type 0} (number : ℕ) (old new : ServicePorts T U) (after : SubscriberPort)
    (ports_after : List (ℕ × PublisherPort T U)) → new ≡ with_both number after ports_after old
    → KeepsPorts old.publishers ports_after → IsNumbered old → IsNumbered new
both_numbered number old new after ports_after is keeps numbered =
    as_is (with_both number after ports_after old) new is
    (keeps.numbers old.next_port numbered.0, put_subscriber number old.subscribers after old.next_port numbered.1)

at_subscriber : {T U A : Type 0} (number : ℕ)
    (step : SubscriberPort → List (ℕ × PublisherPort T U) → Option A → SubscriberPort → List (ℕ × PublisherPort T U) → Type 0)
    (found : Option SubscriberPort) (old new : ServicePorts T U) (answer : Option A)
    → ((port : SubscriberPort) (value : A) (after : SubscriberPort) (ports_after : List (ℕ × PublisherPort T U))
    → step port old.publishers (Some value) after ports_after → KeepsPorts old.publishers ports_after)
    → IsNumbered old → AtSubscriber number step found old answer new → IsNumbered new
at_subscriber number step None old new answer keeps numbered at = as_is old new at.1 numbered
at_subscriber number step (Some port) old new None keeps numbered (after, ports_after, steps, is) = as_is old new is numbered
at_subscriber number step (Some port) old new (Some value) keeps numbered (after, ports_after, steps, is)
    = both_numbered number old new after ports_after is (keeps port value after ports_after steps) numbered

left_subscriber : {T U : Type 0} (number : ℕ) (found : Option SubscriberPort) (old new : ServicePorts T U) (answer : Bool)
    → IsNumbered old → subscribing.LeavesAt number found old answer new → IsNumbered new
left_subscriber number None old new answer numbered leaves = as_is old new leaves.1 numbered
left_subscriber {T} {U} number (Some port) old new answer numbered leaves = at port.stands leaves
  where
    at : (stands : Bool) → subscribing.LeavesPortIf stands number port old answer new → IsNumbered new
    at false leaves = as_is old new leaves.1 numbered
    at true leaves = subst IsNumbered (sym leaves.1) (
      (left_all_keeps port.connections.values old.publishers).numbers old.next_port numbered.0,
      settled_subscribers _ number (with_subscriber number old.subscribers (record port { stands = false })) old.next_port
          (put_subscriber number old.subscribers (record port { stands = false }) old.next_port numbered.1),
    )

let_go_numbers : (number : ℕ) (found : Option SubscriberPort) (ports : List (ℕ × SubscriberPort)) (next : ℕ) → AllBelow next ports
    → AllBelow next (let_go_at number found ports)
let_go_numbers number None ports next all = all
let_go_numbers number (Some port) ports next all = put_subscriber number ports (record port { held = port.held - 1 }) next all

released_numbers : {T U : Type 0} (number : ℕ) (sample : Taken) (found : Option SubscriberPort) (old new : ServicePorts T U)
    (answer : Bool) → IsNumbered old → ReleasesOf found number sample old answer new → IsNumbered new
released_numbers number sample None old new answer numbered releases = as_is old new releases.1 numbered
released_numbers {T} {U} number sample (Some port) old new answer numbered releases
    = at (place_of sample.slot (connection_in sample.publisher sample.index old.publishers)) releases
  where
    at : (place : Option ℕ) → ReleasesAt number sample place old answer new → IsNumbered new
    at None releases = as_is old new releases.1 numbered
    at (Some place) releases = subst IsNumbered (sym releases.1) (
      (released_keeps sample.publisher sample.index (Some place) old.publishers).numbers old.next_port numbered.0,
      settled_subscribers _ number (let_go_at number (subscriber_of number old.subscribers) old.subscribers) old.next_port
          (let_go_numbers number (subscriber_of number old.subscribers) old.subscribers old.next_port numbered.1),
    )

adds_publisher : {T U : Type 0} (may : DegradationInfo → DegradationAction → Type 0) (config : PublisherConfig) (user_header : U)
    (place slots : ℕ) (old new : ServicePorts T U) (outcome : Result ℕ AllocError)
    → IsNumbered old → AddsPublisher may config user_header place slots old outcome new → IsNumbered new
adds_publisher may config user_header place slots old new (Err error) numbered adds = as_is old new adds numbered
adds_publisher may config user_header place slots old new (Ok number) numbered (listed, is_list, outcome, port, updates, next, made) =
    subst IsNumbered (sym made) (came old.next_port old.publishers port numbered.0, one_further old.next_port old.subscribers numbered.1)

creates_publisher : {T U : Type 0} (overrides : ℕ → ℕ → Type 0) (may : DegradationInfo → DegradationAction → Type 0)
    (config : PublisherConfig) (user_header : U) (needed place : Option ℕ)
    (old new : ServicePorts T U) (answer : Result ℕ PublisherCreateError) → IsNumbered old
    → CreatesPublisher overrides may config user_header needed place old answer new → IsNumbered new
creates_publisher overrides may config user_header None place old new answer numbered creates = as_is old new creates.1 numbered
creates_publisher overrides may config user_header (Some needed) None old new answer numbered creates = as_is old new creates.1 numbered
creates_publisher overrides may config user_header (Some needed) (Some place) old new answer numbered (slots, allowed, outcome, adds, is) =
    adds_publisher may config user_header place _ old new outcome numbered adds

adds_subscriber : {T U : Type 0} (may : DegradationInfo → DegradationAction → Type 0) (owner : PortOwner) (place buffer_size : ℕ)
    (old new : ServicePorts T U) (outcome : Result ℕ AllocError)
    → IsNumbered old → AddsSubscriber may owner place buffer_size old outcome new → IsNumbered new
adds_subscriber may owner place buffer_size old new (Err error) numbered adds = as_is old new adds numbered
adds_subscriber may owner place buffer_size old new (Ok number) numbered
    (between, (listed, is_list, outcome, after, ports_after, updates, followed), next, made) =
    let port : SubscriberPort = new_subscriber (identity_of owner place old) buffer_size old.sizes.max_publishers
    old.sizes.expired_connections in
    let keeps = updates_keeps may listed old.publisher_list.changes port old.publishers outcome after ports_after updates in
    subst IsNumbered (sym made) (
      subst (λ ports. AllBelow (old.next_port + 1) ports.publishers) (sym followed)
          (one_further old.next_port ports_after (keeps.1.numbers old.next_port numbered.0)),
      subst (λ ports. AllBelow (old.next_port + 1) ports.subscribers) (sym followed)
          (put_subscriber old.next_port (subscriber_added old.next_port port old.subscribers) after (old.next_port + 1)
          (came old.next_port old.subscribers port numbered.1)),
    )

creates_subscriber : {T U : Type 0} (may : DegradationInfo → DegradationAction → Type 0) (owner : PortOwner)
    (buffer_size : Result ℕ SubscriberCreateError) (place : Option ℕ)
    (old new : ServicePorts T U) (answer : Result ℕ SubscriberCreateError) → IsNumbered old
    → CreatesSubscriber may owner buffer_size place old answer new → IsNumbered new
creates_subscriber may owner (Err refusal) place old new answer numbered creates = as_is old new creates.1 numbered
creates_subscriber may owner (Ok buffer_size) None old new answer numbered creates = as_is old new creates.1 numbered
creates_subscriber may owner (Ok buffer_size) (Some place) old new answer numbered (outcome, adds, is)
    = adds_subscriber may owner place buffer_size old new outcome numbered adds

nobody_numbered : (X : Type 0) (next : ℕ) → AllBelow {X = X} next []
nobody_numbered X next place default within = absurd (omega (arith, within))

-- each call keeps to numbers that were given out
pub numbers_stay : {T U : Type 0} (overrides : ℕ → ℕ → Type 0) (may_degrade : DegradationInfo → DegradationAction → Type 0)
    (may : BackpressureInfo → BackpressureDecision → Type 0)
    → NumbersStay T U overrides may_degrade may
numbers_stay {T} {U} overrides may_degrade may = record {
  new = λ service sizes. (nobody_numbered (PublisherPort T U) 1, nobody_numbered SubscriberPort 1);
  next = λ ports numbered. (not_found ports.next_port ports.publishers numbered.0, not_found ports.next_port ports.subscribers numbered.1);
  create_publisher = creates_publisher overrides may_degrade;
  create_subscriber = creates_subscriber may_degrade;
  loan = λ number values elements old new answer numbered at. at_publisher number (LoansOne values elements)
      (port_of number old.publishers) old new answer numbered at;
  write = λ number slot test change old numbered. (
    changed_numbers number (λ port. changed_if (test port) slot change port) (port_of number old.publishers) old.publishers
        old.next_port numbered.0,
    numbered.1,
  );
  drop_loan = λ number slot old numbered. (
    settled_numbers number (changed number (given_up slot) old.publishers) old.next_port
        (changed_numbers number (given_up slot) (port_of number old.publishers) old.publishers old.next_port numbered.0),
    numbered.1,
  );
  update_publisher = λ number old new answer numbered at. at_publisher number (publishing.UpdatesOne may_degrade old.subscriber_list)
      (port_of number old.publishers) old new answer numbered at;
  send = λ number slot old new answer numbered at. at_publisher number (publishing.SendsOne may_degrade may old.subscriber_list slot)
      (port_of number old.publishers) old new answer numbered at;
  retry = λ number elapsed old new answer numbered at. at_publisher number (publishing.RetriesOne may elapsed)
      (port_of number old.publishers) old new answer numbered at;
  give_up = λ number old new answer numbered at. at_publisher number publishing.GivesUpOne (port_of number old.publishers) old new
      answer numbered at;
  leave_publisher = λ number old new answer numbered leaves. left_publisher number (port_of number old.publishers) old new answer
      numbered leaves;
  update_subscriber = λ number old new answer numbered at. at_subscriber number (subscribing.UpdatesOne may_degrade old.publisher_list)
      (subscriber_of number old.subscribers) old new answer
      (λ port value after ports_after step.
      (update_made port.stands may_degrade old.publisher_list port old.publishers value after ports_after step).1) numbered at;
  has_samples = λ number old new answer numbered at. at_subscriber number (HasSamplesOne may_degrade old.publisher_list)
      (subscriber_of number old.subscribers) old new answer
      (λ port value after ports_after step.
      (looked port.stands may_degrade old.publisher_list port old.publishers value after ports_after step).1) numbered at;
  receive = λ number old new answer numbered at. at_subscriber number (ReceivesOne may_degrade old.publisher_list)
      (subscriber_of number old.subscribers) old new answer
      (λ port value after ports_after step.
      (received_by port.stands may_degrade old.publisher_list port old.publishers value after ports_after step).1.1) numbered at;
  release = λ number sample old new answer numbered releases. released_numbers number sample
      (subscribing.taker_of number sample old.subscribers) old new answer numbered releases;
  leave_subscriber = λ number old new answer numbered leaves. left_subscriber number (subscriber_of number old.subscribers) old new
      answer numbered leaves;
}
