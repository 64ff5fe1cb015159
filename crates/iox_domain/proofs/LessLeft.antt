-- No call makes more samples possible than it gives back or brings, and each that comes is one less.
use Rattle.std.proofs.Common.{arith, ◌≡◌, ◌∙◌, ◌+◌, ◌-◌, ◌*◌, ◌≤◌, ◌<◌, ◌∷◌, [], ℕ, zero, suc, Bool, true, false, List, length, replicate}
use Rattle.std.proofs.Common.{Option, None, Some, Result, Ok, Err, if◌then◌else◌, refl, ap, inl, inr}
use Rattle.std.proofs.lemmas.Bool.{cases_eq}
use Rattle.std.proofs.lemmas.List.Sums.{sum_by-cons, sum_by-le-sum_by}
use Rattle.std.proofs.lemmas.Map.Entries.{sum_by-set_value}
use Rattle.std.proofs.lemmas.Nat.{mul-le}
use Rattle.std.specs.BTreeMap.{insert_entry}
use Rattle.std.specs.List.{All}
use Rattle.std.specs.Map.{values_of}
use Rattle.std.specs.Ordering.{nat_cmp, match_ordering}
use Rattle.std.specs.declared.cmp.Ordering.{Ordering}
use Rattle.std.specs.declared.cmp.Ordering.TheVariants.{Less, Equal, Greater}
use Rattle.std.specs.Prelude.{sum_by}
use Rattle.std.specs.declared.alloc.AllocError.{AllocError}
use Rattle.iox_domain.specs.Container.declared.container.Member.{Member}
use Rattle.iox_domain.specs.Attaching.{KeysFit, IsKeyedEntry, AreKeyed}
use Rattle.iox_domain.specs.Calls.{PortCall, PublisherComes, SubscriberComes, Lends, Writes, GivesLoanUp, PublisherUpdates, Sends}
use Rattle.iox_domain.specs.Calls.{Retries, GivesSendUp, PublisherLeaves, SubscriberUpdates, AsksForSamples, Receives, Releases}
use Rattle.iox_domain.specs.Calls.{SubscriberLeaves, Happens}
use Rattle.iox_domain.specs.Lending.{LoansOne}
use Rattle.iox_domain.specs.Making.{slots_needed, publisher_place, subscriber_place, identity_of, publisher_answer, AddsPublisher}
use Rattle.iox_domain.specs.Making.{CreatesPublisher, CreatesSubscriber}
use Rattle.iox_domain.specs.Ports.{AtPublisher, AtSubscriber, with_publisher, with_both}
use Rattle.iox_domain.specs.PortsPublishing.{is_free}
use Rattle.iox_domain.specs.PortsPublishing as publishing
use Rattle.iox_domain.specs.Rolls.{RollState}
use Rattle.iox_domain.specs.Subscribers.{subscriber_of, with_subscriber, subscriber_added, is_over_in}
use Rattle.iox_domain.specs.PortsSubscribing as subscribing
use Rattle.iox_domain.specs.declared.ports.making.PublisherConfig.{PublisherConfig}
use Rattle.iox_domain.specs.declared.ports.service_ports.ServicePorts.{ServicePorts}
use Rattle.iox_domain.specs.DomainPorts.Leaving.{departed}
use Rattle.iox_domain.specs.DomainPorts.Writing.{changed_if, given_up}
use Rattle.iox_domain.specs.DomainPorts.declared.publisher_port.PublisherPort.{PublisherPort}
use Rattle.iox_domain.specs.DomainPorts.Arriving.{new_subscriber}
use Rattle.iox_domain.specs.DomainPorts.Publishers as publishers
use Rattle.iox_domain.specs.DomainPorts.Publishers.{port_of, changed, settled, connection_at_port, connection_in}
use Rattle.iox_domain.specs.DomainPorts.Reading.{place_of, given_back_at}
use Rattle.iox_domain.specs.DomainPorts.Receiving.{left_all}
use Rattle.iox_domain.specs.DomainPorts.declared.attached.Taken.{Taken}
use Rattle.iox_domain.specs.DomainPorts.declared.publisher_entry.PublisherEntry.{PublisherEntry}
use Rattle.iox_domain.specs.DomainPorts.declared.subscriber_port.SubscriberPort.{SubscriberPort}
use Rattle.iox_domain.specs.DomainValues.Sizes.{buffer_of}
use Rattle.iox_domain.specs.DomainValues.declared.backpressure.BackpressureDecision.{BackpressureDecision}
use Rattle.iox_domain.specs.DomainValues.declared.backpressure.BackpressureInfo.{BackpressureInfo}
use Rattle.iox_domain.specs.DomainValues.declared.connection_failure.ConnectionFailure.{ConnectionFailure}
use Rattle.iox_domain.specs.DomainValues.declared.create_error.PublisherCreateError.{PublisherCreateError}
use Rattle.iox_domain.specs.DomainValues.declared.create_error.SubscriberCreateError.{SubscriberCreateError}
use Rattle.iox_domain.specs.DomainValues.declared.degradation.DegradationAction.{DegradationAction}
use Rattle.iox_domain.specs.DomainValues.declared.degradation.DegradationInfo.{DegradationInfo}
use Rattle.iox_domain.specs.DomainValues.declared.port_error.ReceiveError.{ReceiveError}
use Rattle.iox_domain.specs.DomainValues.declared.port_owner.PortOwner.{PortOwner}
use Rattle.iox_domain.specs.PortLawsLaws.{IsSound, IsSoundEntry}
use Rattle.iox_domain.specs.SizeLaws.{AreAllowed}
use Rattle.iox_domain.proofs.Coming.{lookup-came}
use Rattle.iox_domain.proofs.Attaching.{new_fits}
use Rattle.iox_domain.proofs.PortLawsKeeping.{PortKeeps}
use Rattle.iox_domain.proofs.ListKeeps.{list_changed, number_found}
use Rattle.iox_domain.proofs.FewHeld.{apart_held}
use Rattle.iox_domain.proofs.Numbered.{at_number, found_of_all, other_came, same_set}
use Rattle.iox_domain.proofs.PublisherKeeps.{port_loans, port_changed, port_given_up, port_departed, port_updates_one, port_sends_one}
use Rattle.iox_domain.proofs.PublisherKeeps.{port_retries, port_gives_up}
use Rattle.iox_domain.proofs.Carrying.{carry_loans, carry_changed, carry_given_up, carry_retries, carry_gives_up}
use Rattle.iox_domain.proofs.Walks.{left_all_walk}
use Rattle.iox_domain.specs.Samples.{borrowed_at, borrowed_of, spare_samples, samples_left, held_by_one, held_of_one, received_in}
use Rattle.iox_domain.specs.Samples.{received_by, released_by, if_came, brought_by}
use Rattle.iox_domain.specs.Roomy.{AreRoomy}
use Rattle.iox_domain.proofs.Borrowing.{Borrows, borrows_carries, borrows_departed, borrows_updates_one, borrows_sends_one}
use Rattle.iox_domain.proofs.GivingBack.{one_if, names_one, names_of, released_few, borrowed_of_back}
use Rattle.iox_domain.proofs.SamplesLending.{few_stepped, lends_on, lends_stepped, lends_changed, lends_settled, lends_walks, lends_leaving}
use Rattle.iox_domain.proofs.Naming.{few_names}
use Rattle.iox_domain.proofs.Sparing.{More, Spared, borrowed_of_more, spared_updates}
use Rattle.iox_domain.proofs.StayRoomy.{entry_found, stay_roomy}
use Rattle.iox_domain.proofs.SamplesSums.{sum_both, moved, came, gone}
use Rattle.iox_domain.proofs.Taking.{receives_less}

less_same : {T U : Type 0} (old new : ServicePorts T U) → new ≡ old → samples_left new ≤ samples_left old
less_same old new is = omega (arith, ap (λ ports. samples_left ports) is)

-- where of no more publishers no less is borrowed, no more may come
less_by : (stands : Bool) (most all all_after borrowed borrowed_after came : ℕ) → all_after ≤ all → borrowed + came ≤ borrowed_after
    → (stands ≡ true → 0 < came → borrowed_after ≤ all_after * most) → (stands ≡ false → came ≡ 0)
    → ((if stands then all_after * most else 0) - borrowed_after) + came ≤ (if stands then all * most else 0) - borrowed
less_by true most all all_after borrowed borrowed_after zero few more bound none
    = omega (arith, more, mul-le all_after most all most few (omega arith))
less_by true most all all_after borrowed borrowed_after (suc came) few more bound none
    = omega (arith, more, bound refl (omega arith), mul-le all_after most all most few (omega arith))
less_by false most all all_after borrowed borrowed_after came few more bound none = omega (arith, none refl)

spare_samples_less : {T U : Type 0} (most : ℕ) (port : SubscriberPort) (old new : List (ℕ × PublisherPort T U)) → More old new
    → length new ≤ length old → spare_samples most port new ≤ spare_samples most port old
spare_samples_less most port old new more few =
    omega (
      arith,
      less_by port.stands most (length old) (length new) (borrowed_of most port.connections.values old)
          (borrowed_of most port.connections.values new) 0 few
          (omega (arith, borrowed_of_more most port.connections.values old new more)) (λ stands some. absurd (omega (arith, some)))
          (λ left. refl),
    )

-- the publishers changed, and lent
less_list : {T U : Type 0} (old : ServicePorts T U) (publishers : List (ℕ × PublisherPort T U)) → More old.publishers publishers
    → length publishers ≤ length old.publishers
    → sum_by (λ port. spare_samples old.sizes.subscriber_max_borrowed_samples port publishers) (values_of old.subscribers)
    ≤ samples_left old
less_list old publishers more few =
    sum_by-le-sum_by (λ port. spare_samples old.sizes.subscriber_max_borrowed_samples port publishers)
    (λ port. spare_samples old.sizes.subscriber_max_borrowed_samples port old.publishers) (values_of old.subscribers)
    (λ port. spare_samples_less old.sizes.subscriber_max_borrowed_samples port old.publishers publishers more few)

-- a call of a publisher
by_publisher : {T U A : Type 0} (number : ℕ) (step : PublisherPort T U → Option A → PublisherPort T U → Type 0)
    (found : Option (PublisherPort T U)) (old new : ServicePorts T U) (answer : Option A)
    → ((port after : PublisherPort T U) (answer : Option A) → step port answer after → PortKeeps port after × Borrows port after)
    → port_of number old.publishers ≡ found → IsSound old → AtPublisher number step found old answer new
    → samples_left new ≤ samples_left old
by_publisher number step None old new answer keeps there sound happens = less_same old new happens.1
by_publisher number step (Some port) old new None keeps there sound happens = less_same old new happens.2
by_publisher number step (Some port) old new (Some value) keeps there sound (after, one, is) =
    let both = keeps port after (Some value) one in
    let lends = lends_stepped number old.publishers port after there both.0 both.1 in
    omega (
      arith,
      ap (λ ports. samples_left ports) is,
      less_list old (with_publisher number after old).publishers
          (lends.more old.next_port sound) lends.few,
    )

publisher_leaves : {T U : Type 0} (number : ℕ) (found : Option (PublisherPort T U)) (old new : ServicePorts T U) (answer : Bool)
    → port_of number old.publishers ≡ found → IsSound old → publishing.LeavesAt number found old answer new
    → samples_left new ≤ samples_left old
publisher_leaves number None old new answer there sound leaves = less_same old new leaves.1
publisher_leaves {T} {U} number (Some port) old new answer there sound leaves = at (is_free port) leaves
  where
    at : (free : Bool) → publishing.LeavesPortIf free number port old answer new → samples_left new ≤ samples_left old
    at false leaves = less_same old new leaves.1
    at true leaves =
        let lends = lends_stepped number old.publishers port (departed port) there (port_departed port) (borrows_departed port) in
        omega (
          arith,
          ap (λ ports. samples_left ports) leaves.1,
          less_list old (with_publisher number (departed port) old).publishers
              (lends.more old.next_port sound) lends.few,
        )

-- a publisher comes, under a number that none had
more_came : {T U : Type 0} (next : ℕ) (ports : List (ℕ × PublisherPort T U)) (port : PublisherPort T U) → All (IsSoundEntry next) ports
    → More ports (publishers.added next port ports)
more_came {T} {U} next ports port sound number index = elim (cases_eq number next) [
  | inl same ↦ none (port_of number ports) refl same
  | inr apart ↦ omega (arith, ap (λ found. length (connection_at_port index found).borrowed) (other_came next number ports port apart))
]
  where
    none : (found : Option (PublisherPort T U)) → port_of number ports ≡ found → number ≡ next
        → length (connection_in number index ports).borrowed
        ≤ length (connection_in number index (publishers.added next port ports)).borrowed
    none None there same = omega (arith, ap (λ found. length (connection_at_port index found).borrowed) there)
    none (Some found) there same = absurd (omega (arith, same, number_found next number ports found sound there))

-- one publisher more is there
one_more : (stands : Bool) (most all borrowed borrowed_after : ℕ) → borrowed ≤ borrowed_after
    → (if stands then (all + 1) * most else 0) - borrowed_after ≤ ((if stands then all * most else 0) - borrowed) + most
one_more true most all borrowed borrowed_after more = omega (arith, more)
one_more false most all borrowed borrowed_after more = omega arith

length_came : {X : Type 0} (number : ℕ) (es : List (ℕ × X)) (x : X) → length (insert_entry nat_cmp es number x) ≤ length es + 1
length_came number [] x = omega arith
length_came {X} number (e ∷ es) x = by (nat_cmp number e.0) (length_came number es x)
  where
    by : (order : Ordering) → length (insert_entry nat_cmp es number x) ≤ length es + 1
        → length (match_ordering order ((number, x) ∷ e ∷ es) ((e.0, x) ∷ es) (e ∷ insert_entry nat_cmp es number x)) ≤ length (e ∷ es) + 1
    by Less rest = omega arith
    by Equal rest = omega arith
    by Greater rest = omega (arith, rest)

each_more : {T U : Type 0} (most : ℕ) (port : SubscriberPort) (old new : List (ℕ × PublisherPort T U)) → More old new
    → length new ≤ length old + 1 → spare_samples most port new ≤ spare_samples most port old + most
each_more most port old new more few =
    let at_most = less_by port.stands most (length old + 1) (length new) (borrowed_of most port.connections.values new)
    (borrowed_of most port.connections.values new) 0 (omega (arith, few)) (omega arith)
    (λ stands some. absurd (omega (arith, some))) (λ left. refl) in
    omega (
      arith,
      at_most,
      one_more port.stands most (length old) (borrowed_of most port.connections.values old)
          (borrowed_of most port.connections.values new) (borrowed_of_more most port.connections.values old new more),
    )

each_one : {X : Type 0} (most : ℕ) (es : List (ℕ × X)) → sum_by (λ one. most) (values_of es) ≡ length es * most
each_one most [] = omega arith
each_one most (e ∷ es) = omega (arith, sum_by-cons (λ one. most) e.1 (values_of es), each_one most es)

publisher_comes : {T U : Type 0} (overrides : ℕ → ℕ → Type 0) (may : DegradationInfo → DegradationAction → Type 0)
    (config : PublisherConfig) (user_header : U) (needed place : Option ℕ) (old new : ServicePorts T U)
    (answer : Result ℕ PublisherCreateError)
    → IsSound old → CreatesPublisher overrides may config user_header needed place old answer new
    → samples_left new ≤ samples_left old + if_came answer (held_of_one old)
publisher_comes overrides may config user_header None place old new answer sound creates = omega (arith, less_same old new creates.1)
publisher_comes overrides may config user_header (Some needed) None old new answer sound creates
    = omega (arith, less_same old new creates.1)
publisher_comes {T} {U} overrides may config user_header (Some needed) (Some place) old new answer sound creates
    = adds _ creates.2 creates.3 creates.4
  where
    adds : (slots : ℕ) (outcome : Result ℕ AllocError) → AddsPublisher may config user_header place slots old outcome new
        → answer ≡ publisher_answer outcome → samples_left new ≤ samples_left old + if_came answer (held_of_one old)
    adds slots (Err error) step is_answer = omega (arith, less_same old new step)
    adds slots (Ok number) (listed, is_list, outcome, port, updates, is_number, is_new) is_answer =
        let most = old.sizes.subscriber_max_borrowed_samples in
        let after : List (ℕ × PublisherPort T U) = publishers.added old.next_port port old.publishers in
        omega (
          arith,
          ap (λ ports. samples_left ports) is_new,
          sum_both (λ one. spare_samples most one after) (λ one. spare_samples most one old.publishers) (λ one. most)
              (values_of old.subscribers)
              (λ one. each_more most one old.publishers after (more_came old.next_port old.publishers port sound)
              (length_came old.next_port old.publishers port)),
          each_one most old.subscribers,
          ap (λ told. if_came told (held_of_one old)) is_answer,
        )

-- The effect of a call of a subscriber: publishers change only as `More` says, none is added, and each received sample reduces by one
-- those that the subscriber may still borrow.
record Serves {T U : Type 0} (most came : ℕ) (port : SubscriberPort) (ports : List (ℕ × PublisherPort T U)) (after : SubscriberPort)
    (ports_after : List (ℕ × PublisherPort T U)) : Type 0 where
  more : More ports ports_after
  few : length ports_after ≤ length ports
  less : spare_samples most after ports_after + came ≤ spare_samples most port ports

moved_less : {T U : Type 0} (most came number : ℕ) (port after : SubscriberPort) (ports ports_after : List (ℕ × PublisherPort T U))
    (subscribers : List (ℕ × SubscriberPort)) → subscriber_of number subscribers ≡ Some port → Serves most came port ports after ports_after
    → sum_by (λ one. spare_samples most one ports_after) (values_of (with_subscriber number subscribers after)) + came
    ≤ sum_by (λ one. spare_samples most one ports) (values_of subscribers)
moved_less most came number port after ports ports_after subscribers there serves =
    omega (
      arith,
      moved (λ one. spare_samples most one ports_after) (λ one. spare_samples most one ports) (at_number number) subscribers port after
          (λ one. spare_samples_less most one ports ports_after serves.more serves.few) there,
      serves.less,
    )

-- a subscriber that took a step borrows no more than may be of the publishers that are there
abbrev Bounded : {T U : Type 0} → ℕ → SubscriberPort → List (ℕ × PublisherPort T U) → Type 0
Bounded most port ports = port.stands ≡ true → borrowed_of most port.connections.values ports ≤ length ports * most

bounded : {T U : Type 0} (most number : ℕ) (port after : SubscriberPort) (ports_after : List (ℕ × PublisherPort T U))
    (old new : ServicePorts T U) → subscriber_of number old.subscribers ≡ Some port → new ≡ with_both number after ports_after old
    → AreRoomy new
    → Bounded most after ports_after
bounded {T} {U} most number port after ports_after old new there is roomy = λ stands.
    let now : subscriber_of number new.subscribers ≡ Some after
    = ap (λ (ports : ServicePorts T U). subscriber_of number ports.subscribers) is ∙ same_set (at_number number) old.subscribers
    after port there in
    omega (
      arith,
      apart_held most number after new (entry_found number after new now roomy stands),
      ap (λ (ports : ServicePorts T U). borrowed_of most after.connections.values ports.publishers) is,
      ap (λ (ports : ServicePorts T U). length ports.publishers * most) is,
    )

by_subscriber : {T U A : Type 0} (number : ℕ)
    (step : SubscriberPort → List (ℕ × PublisherPort T U) → Option A → SubscriberPort → List (ℕ × PublisherPort T U) → Type 0)
    (came : Option A → ℕ) (found : Option SubscriberPort) (old new : ServicePorts T U) (answer : Option A)
    → came None ≡ 0 → subscriber_of number old.subscribers ≡ found
    → ((port after : SubscriberPort) (ports_after : List (ℕ × PublisherPort T U)) (answer : Option A) → KeysFit port
    → Bounded old.sizes.subscriber_max_borrowed_samples after ports_after → step port old.publishers answer after ports_after
    → Serves old.sizes.subscriber_max_borrowed_samples (came answer) port old.publishers after ports_after)
    → AreKeyed old → AreRoomy new → AtSubscriber number step found old answer new → samples_left new + came answer ≤ samples_left old
by_subscriber number step came None old new answer none there serves keyed roomy happens
    = omega (arith, less_same old new happens.1, ap came happens.0, none)
by_subscriber number step came (Some port) old new None none there serves keyed roomy happens
    = omega (arith, less_same old new happens.3, none)
by_subscriber number step came (Some port) old new (Some value) none there serves keyed roomy (after, ports_after, one, is) =
    let fit = (found_of_all (IsKeyedEntry old.sizes.max_publishers) (at_number number) old.subscribers port keyed.keyed there).holds.0 in
    omega (
      arith,
      ap (λ ports. samples_left ports) is,
      moved_less old.sizes.subscriber_max_borrowed_samples (came (Some value)) number port after old.publishers ports_after
          old.subscribers there (serves port after ports_after (Some value) fit
          (bounded old.sizes.subscriber_max_borrowed_samples number port after ports_after old new there is roomy) one),
    )

-- nothing changed
serves_same : {T U : Type 0} (most : ℕ) (port after : SubscriberPort) (ports ports_after : List (ℕ × PublisherPort T U)) → after ≡ port
    → ports_after ≡ ports → Serves most 0 port ports after ports_after
serves_same most port after ports ports_after is are
    = rw is (rw are (record { more = λ number index. omega arith; few = omega arith; less = omega arith }))

-- an update
stands_less : {T U : Type 0} (most came : ℕ) (port after : SubscriberPort) (ports ports_after : List (ℕ × PublisherPort T U))
    → port.stands ≡ true → after.stands ≡ port.stands → length ports_after ≤ length ports
    → borrowed_of most port.connections.values ports + came ≤ borrowed_of most after.connections.values ports_after
    → (0 < came → borrowed_of most after.connections.values ports_after ≤ length ports_after * most)
    → spare_samples most after ports_after + came ≤ spare_samples most port ports
stands_less most came port after ports ports_after is same few more bound =
    omega (
      arith,
      ap (λ b. if b then length ports_after * most else 0) (same ∙ is),
      ap (λ b. if b then length ports * most else 0) is,
      less_by true most (length ports) (length ports_after) (borrowed_of most port.connections.values ports)
          (borrowed_of most after.connections.values ports_after) came few more (λ stands some. bound some) (λ left. absurd (cc)),
    )

serves_updates : {T U : Type 0} (most : ℕ) (next : ℕ) (may : DegradationInfo → DegradationAction → Type 0)
    (listed : List (Option (Member PublisherEntry))) (changes : ℕ) (port after : SubscriberPort)
    (ports ports_after : List (ℕ × PublisherPort T U)) (outcome : Result (Unit {0}) ConnectionFailure)
    → port.stands ≡ true → All (IsSoundEntry next) ports → KeysFit port → Spared most port ports after ports_after
    → Serves most 0 port ports after ports_after
serves_updates most next may listed changes port after ports ports_after outcome stands sound fit spared = record {
  more = spared.lends.more next sound;
  few = spared.lends.few;
  less = stands_less most 0 port after ports ports_after stands spared.stands spared.lends.few
      (omega (arith, spared.less next sound fit.free)) (λ some. absurd (omega (arith, some)));
}

update_serves : {T U : Type 0} (most next : ℕ) (stands : Bool) (may : DegradationInfo → DegradationAction → Type 0)
    (list : RollState PublisherEntry) (port after : SubscriberPort) (ports ports_after : List (ℕ × PublisherPort T U))
    (answer : Option (Result (Unit {0}) ConnectionFailure))
    → port.stands ≡ stands → All (IsSoundEntry next) ports → KeysFit port
    → subscribing.UpdatesIf stands may list port ports answer after ports_after → Serves most 0 port ports after ports_after
update_serves most next false may list port after ports ports_after answer stands sound fit updates
    = serves_same most port after ports ports_after updates.1 updates.2
update_serves most next true may list port after ports ports_after answer stands sound fit (listed, is_list, outcome, updates, is) =
    serves_updates most next may listed list.changes port after ports ports_after outcome stands sound fit
    (spared_updates most may listed list.changes port after ports ports_after outcome updates)

has_serves : {T U : Type 0} (most next : ℕ) (stands : Bool) (may : DegradationInfo → DegradationAction → Type 0)
    (list : RollState PublisherEntry) (port after : SubscriberPort) (ports ports_after : List (ℕ × PublisherPort T U))
    (answer : Option (Result Bool ConnectionFailure))
    → port.stands ≡ stands → All (IsSoundEntry next) ports → KeysFit port
    → subscribing.HasSamplesIf stands may list port ports answer after ports_after → Serves most 0 port ports after ports_after
has_serves most next false may list port after ports ports_after answer stands sound fit has
    = serves_same most port after ports ports_after has.1 has.2
has_serves most next true may list port after ports ports_after answer stands sound fit (listed, is_list, outcome, has, is) =
    serves_updates most next may listed list.changes port after ports ports_after has.0 stands sound fit
    (spared_updates most may listed list.changes port after ports ports_after has.0 has.1)

-- a receive
counted_same : (outcome : Result (Option Taken) ReceiveError) (port : SubscriberPort)
    → ((subscribing.counted_by outcome port).stands ≡ port.stands) × ((subscribing.counted_by outcome port).connections ≡ port.connections)
counted_same (Ok (Some taken)) port = (refl, refl)
counted_same (Ok None) port = (refl, refl)
counted_same (Err error) port = (refl, refl)

receive_serves : {T U : Type 0} (old : ServicePorts T U) (stands : Bool) (may : DegradationInfo → DegradationAction → Type 0)
    (list : RollState PublisherEntry) (port after : SubscriberPort) (ports_after : List (ℕ × PublisherPort T U))
    (answer : Option (Result (Option Taken) ReceiveError))
    → port.stands ≡ stands → IsSound old → AreAllowed old → KeysFit port
    → Bounded old.sizes.subscriber_max_borrowed_samples after ports_after
    → subscribing.ReceivesIf stands may list port old.publishers answer after ports_after
    → Serves old.sizes.subscriber_max_borrowed_samples (received_in answer) port old.publishers after ports_after
receive_serves old false may list port after ports_after answer stands sound allowed fit bound (is_answer, is, are) =
    let none : received_in answer ≡ 0 = ap (λ told. received_in told) is_answer in
    rw none (serves_same old.sizes.subscriber_max_borrowed_samples port after old.publishers ports_after is are)
receive_serves {T} {U} old true may list port after ports_after answer stands sound allowed fit bound
    (listed, is_list, outcome, received, receives, is_after, is_answer) =
    let most = old.sizes.subscriber_max_borrowed_samples in
    let one = receives_less old.sizes may listed list.changes port received old.publishers ports_after outcome allowed receives in
    let same = counted_same outcome received in
    let still : after.stands ≡ port.stands = ap (λ one. one.stands) is_after ∙ same.0 ∙ one.stands in
    record {
      more = one.lends.more old.next_port sound;
      few = one.lends.few;
      less = stands_less most (received_in answer) port after old.publishers ports_after stands still one.lends.few
          (omega (
            arith,
            one.less old.next_port sound fit.free,
            ap (λ told. received_in told) is_answer,
            ap (λ one. borrowed_of most one.connections.values ports_after) is_after,
            ap (λ keys. borrowed_of most keys.values ports_after) same.1,
          ))
          (λ some. bound (still ∙ stands));
    }

-- a subscriber comes
none_borrowed : {T U : Type 0} (most n : ℕ) (ports : List (ℕ × PublisherPort T U)) → borrowed_of most (replicate n None) ports ≡ 0
none_borrowed most zero ports = omega arith
none_borrowed most (suc n) ports = omega
    (arith, sum_by-cons (λ attached. borrowed_at most attached ports) None (replicate n None), none_borrowed most n ports)

subscriber_comes : {T U : Type 0} (may : DegradationInfo → DegradationAction → Type 0) (owner : PortOwner)
    (buffer_size : Result ℕ SubscriberCreateError) (place : Option ℕ) (old new : ServicePorts T U) (answer : Result ℕ SubscriberCreateError)
    → IsSound old → CreatesSubscriber may owner buffer_size place old answer new
    → samples_left new ≤ samples_left old + if_came answer (held_by_one old)
subscriber_comes may owner (Err refusal) place old new answer sound creates = omega (arith, less_same old new creates.1)
subscriber_comes may owner (Ok buffer_size) None old new answer sound creates = omega (arith, less_same old new creates.1)
subscriber_comes may owner (Ok buffer_size) (Some place) old new answer sound (Err error, step, is_answer)
    = omega (arith, less_same old new step)
subscriber_comes {T} {U} may owner (Ok buffer_size) (Some place) old new answer sound
    (Ok number, (between, (listed, is_list, outcome, after, ports_after, updates, followed), is_number, is_new), is_answer) =
    let most = old.sizes.subscriber_max_borrowed_samples in
    let n : ℕ = old.sizes.max_publishers + old.sizes.expired_connections in
    let first : SubscriberPort = new_subscriber (identity_of owner place old) buffer_size old.sizes.max_publishers
    old.sizes.expired_connections in
    let inserted : List (ℕ × SubscriberPort) = subscriber_added old.next_port first old.subscribers in
    let spared = spared_updates most may listed old.publisher_list.changes first after old.publishers ports_after outcome updates in
    let fit = new_fits (identity_of owner place old) buffer_size old.sizes.max_publishers old.sizes.expired_connections in
    let serves = serves_updates most old.next_port may listed old.publisher_list.changes first after old.publishers ports_after outcome
    refl sound fit spared in
    omega (
      arith,
      ap (λ ports. samples_left ports) is_new,
      ap (λ ports. samples_left ports) followed,
      moved_less most 0 old.next_port first after old.publishers ports_after inserted (lookup-came old.next_port first old.subscribers)
          serves,
      came (λ one. spare_samples most one old.publishers) old.next_port old.subscribers first,
      none_borrowed most n old.publishers,
      ap (λ told. if_came told (held_by_one old)) is_answer,
    )

-- a subscriber leaves: nothing may come for it any more
subscriber_leaves : {T U : Type 0} (number : ℕ) (found : Option SubscriberPort) (old new : ServicePorts T U) (answer : Bool)
    → subscriber_of number old.subscribers ≡ found → IsSound old → subscribing.LeavesAt number found old answer new
    → samples_left new ≤ samples_left old
subscriber_leaves number None old new answer there sound leaves = less_same old new leaves.1
subscriber_leaves {T} {U} number (Some port) old new answer there sound leaves = at port.stands leaves
  where
    at : (stands : Bool) → subscribing.LeavesPortIf stands number port old answer new → samples_left new ≤ samples_left old
    at false leaves = less_same old new leaves.1
    at true leaves =
        let most = old.sizes.subscriber_max_borrowed_samples in
        let ports_after : List (ℕ × PublisherPort T U) = left_all port.connections.values old.publishers in
        let after : SubscriberPort = record port { stands = false } in
        let lends = left_all_walk (lends_walks port.number) lends_leaving port.connections.values old.publishers in
        omega (
          arith,
          ap (λ ports. samples_left ports) leaves.1,
          gone (λ one. spare_samples most one ports_after) (is_over_in number (with_subscriber number old.subscribers after))
              (at_number number) (with_subscriber number old.subscribers after),
          moved_less most 0 number port after old.publishers ports_after old.subscribers there
              (record { more = lends.more old.next_port sound; few = lends.few; less = omega arith }),
        )

-- a sample is released
back_by : (stands : Bool) (most all all_after borrowed borrowed_after names : ℕ) → all_after ≤ all → borrowed ≤ borrowed_after + names
    → (if stands then all_after * most else 0) - borrowed_after
    ≤ ((if stands then all * most else 0) - borrowed) + (if stands then names else 0)
back_by true most all all_after borrowed borrowed_after names few back
    = omega (arith, back, mul-le all_after most all most few (omega arith))
back_by false most all all_after borrowed borrowed_after names few back = omega arith

samples_back : {T U : Type 0} (most publisher index : ℕ) (port : SubscriberPort) (old new : List (ℕ × PublisherPort T U))
    → length new ≤ length old
    → ((number other : ℕ) → length (connection_in number other old).borrowed
    ≤ length (connection_in number other new).borrowed + one_if publisher index number other)
    → spare_samples most port new ≤ spare_samples most port old + names_of publisher index port
samples_back most publisher index port old new few back =
    back_by port.stands most (length old) (length new) (borrowed_of most port.connections.values old)
    (borrowed_of most port.connections.values new) (sum_by (λ attached. names_one publisher index attached) port.connections.values) few
    (borrowed_of_back most publisher index port.connections.values old new back)

let_go_same : {T U : Type 0} (most number : ℕ) (found : Option SubscriberPort) (subscribers : List (ℕ × SubscriberPort))
    (ports : List (ℕ × PublisherPort T U)) → subscriber_of number subscribers ≡ found
    → sum_by (λ one. spare_samples most one ports) (values_of (subscribing.let_go_at number found subscribers))
    ≤ sum_by (λ one. spare_samples most one ports) (values_of subscribers)
let_go_same most number None subscribers ports there = omega arith
let_go_same most number (Some port) subscribers ports there =
    let after : SubscriberPort = record port { held = port.held - 1 } in
    omega (arith, sum_by-set_value (λ one. spare_samples most one ports) (at_number number) subscribers port after there)

released_at : {T U : Type 0} (number : ℕ) (sample : Taken) (place : Option ℕ) (old new : ServicePorts T U) (answer : Bool)
    → AreRoomy old → subscribing.ReleasesAt number sample place old answer new
    → samples_left new ≤ samples_left old + (if answer then 1 else 0)
released_at number sample None old new answer roomy (is_answer, is) = omega (arith, less_same old new is)
released_at {T} {U} number sample (Some at) old new answer roomy (is_answer, is) =
    let most = old.sizes.subscriber_max_borrowed_samples in
    let ports_after : List (ℕ × PublisherPort T U) = publishers.released sample.publisher sample.index (Some at) old.publishers in
    let subscribers : List (ℕ × SubscriberPort) = subscribing.let_go_at number (subscriber_of number old.subscribers) old.subscribers in
    omega (
      arith,
      ap (λ ports. samples_left ports) is,
      gone (λ one. spare_samples most one ports_after) (is_over_in number subscribers) (at_number number) subscribers,
      let_go_same most number (subscriber_of number old.subscribers) old.subscribers ports_after refl,
      sum_both (λ one. spare_samples most one ports_after) (λ one. spare_samples most one old.publishers)
          (λ one. names_of sample.publisher sample.index one) (values_of old.subscribers)
          (λ one. samples_back most sample.publisher sample.index one old.publishers ports_after
          (few_stepped sample.publisher sample.publisher (given_back_at sample.index (Some at))
          (port_of sample.publisher old.publishers) old.publishers)
          (released_few old.next_port sample.publisher sample.index at old.publishers roomy.sound)),
      few_names old sample.publisher sample.index roomy,
      ap {B = ℕ} (λ b. if b then 1 else 0) is_answer,
    )

released_of : {T U : Type 0} (found : Option SubscriberPort) (number : ℕ) (sample : Taken) (old new : ServicePorts T U) (answer : Bool)
    → AreRoomy old → subscribing.ReleasesOf found number sample old answer new
    → samples_left new ≤ samples_left old + (if answer then 1 else 0)
released_of None number sample old new answer roomy releases = omega (arith, less_same old new releases.1)
released_of (Some port) number sample old new answer roomy releases
    = released_at number sample (place_of sample.slot (connection_in sample.publisher sample.index old.publishers)) old new answer roomy
    releases

pub less_left : {T U : Type 0} (overrides : ℕ → ℕ → Type 0) (may : DegradationInfo → DegradationAction → Type 0)
    (decide : BackpressureInfo → BackpressureDecision → Type 0) (call : PortCall T U) (old new : ServicePorts T U)
    → Happens overrides may decide call old new → AreRoomy old
    → samples_left new + received_by call ≤ samples_left old + released_by call + brought_by call old
less_left overrides may decide (PublisherComes config user_header answer) old new happens roomy =
    omega (
      arith,
      publisher_comes overrides may config user_header (slots_needed config old) (publisher_place old) old new answer
          roomy.sound happens,
    )
less_left overrides may decide (SubscriberComes owner buffer_size answer) old new happens roomy =
    omega (arith, subscriber_comes may owner (buffer_of buffer_size old.sizes) (subscriber_place old) old new answer roomy.sound happens)
less_left overrides may decide (Lends number values elements answer) old new happens roomy =
    omega (
      arith,
      by_publisher number (LoansOne values elements) (port_of number old.publishers) old new answer
          (λ port after answer loans.
          (port_loans values elements port after answer loans, carry_loans borrows_carries values elements port after answer loans)) refl
          roomy.sound happens,
    )
less_left overrides may decide (Writes number slot test change) old new happens roomy =
    let lends = lends_changed number (λ port. changed_if (test port) slot change port) old.publishers
    (list_changed number (λ port. changed_if (test port) slot change port) old.publishers
    (λ port. port_changed (test port) slot change port))
    (λ port. carry_changed borrows_carries (test port) slot change port) in
    omega (
      arith,
      ap (λ ports. samples_left ports) happens,
      less_list old
          (changed number (λ port. changed_if (test port) slot change port) old.publishers) (lends.more old.next_port roomy.sound)
          lends.few,
    )
less_left overrides may decide (GivesLoanUp number slot) old new happens roomy =
    let one = lends_changed number (given_up slot) old.publishers
    (list_changed number (given_up slot) old.publishers (port_given_up slot)) (λ port. carry_given_up borrows_carries slot port) in
    let lends = lends_on old.publishers (changed number (given_up slot) old.publishers) _ one
    (lends_settled number (changed number (given_up slot) old.publishers)) in
    omega (
      arith,
      ap (λ ports. samples_left ports) happens,
      less_list old (settled number (changed number (given_up slot) old.publishers))
          (lends.more old.next_port roomy.sound) lends.few,
    )
less_left overrides may decide (PublisherUpdates number answer) old new happens roomy =
    omega (
      arith,
      by_publisher number (publishing.UpdatesOne may old.subscriber_list) (port_of number old.publishers) old new answer
          (λ port after answer updates. (
            port_updates_one may old.subscriber_list port after answer updates,
            borrows_updates_one may old.subscriber_list port after
                answer updates,
          )) refl roomy.sound happens,
    )
less_left overrides may decide (Sends number slot answer) old new happens roomy =
    omega (
      arith,
      by_publisher number (publishing.SendsOne may decide old.subscriber_list slot) (port_of number old.publishers) old new answer
          (λ port after answer sends. (
            port_sends_one may decide old.subscriber_list slot port after answer sends,
            borrows_sends_one may decide old.subscriber_list
                slot port after answer sends,
          )) refl roomy.sound happens,
    )
less_left overrides may decide (Retries number elapsed answer) old new happens roomy =
    omega (
      arith,
      by_publisher number (publishing.RetriesOne decide elapsed) (port_of number old.publishers) old new answer
          (λ port after answer retries.
          (port_retries decide elapsed port after answer retries, carry_retries borrows_carries decide elapsed port after answer retries))
          refl roomy.sound happens,
    )
less_left overrides may decide (GivesSendUp number answer) old new happens roomy =
    omega (
      arith,
      by_publisher number publishing.GivesUpOne (port_of number old.publishers) old new answer
          (λ port after answer gives. (port_gives_up port after answer gives, carry_gives_up borrows_carries port after answer gives))
          refl roomy.sound happens,
    )
less_left overrides may decide (PublisherLeaves number answer) old new happens roomy
    = omega (arith, publisher_leaves number (port_of number old.publishers) old new answer refl roomy.sound happens)
less_left overrides may decide (SubscriberUpdates number answer) old new happens roomy =
    omega (
      arith,
      by_subscriber number (subscribing.UpdatesOne may old.publisher_list) (λ told. 0) (subscriber_of number old.subscribers) old new
          answer refl refl
          (λ port after ports_after answer fit bound updates. update_serves old.sizes.subscriber_max_borrowed_samples old.next_port
          port.stands may old.publisher_list port after old.publishers ports_after answer refl roomy.sound fit updates) roomy.keyed
          (stay_roomy overrides may decide (SubscriberUpdates number answer) old new happens roomy) happens,
    )
less_left overrides may decide (AsksForSamples number answer) old new happens roomy =
    omega (
      arith,
      by_subscriber number (subscribing.HasSamplesOne may old.publisher_list) (λ told. 0) (subscriber_of number old.subscribers) old new
          answer refl refl
          (λ port after ports_after answer fit bound has. has_serves old.sizes.subscriber_max_borrowed_samples old.next_port port.stands
          may old.publisher_list port after old.publishers ports_after answer refl roomy.sound fit has) roomy.keyed
          (stay_roomy overrides may decide (AsksForSamples number answer) old new happens roomy) happens,
    )
less_left overrides may decide (Receives number answer) old new happens roomy =
    omega (
      arith,
      by_subscriber number (subscribing.ReceivesOne may old.publisher_list) (λ told. received_in told)
          (subscriber_of number old.subscribers) old new answer refl refl
          (λ port after ports_after answer fit bound receives. receive_serves old port.stands may old.publisher_list port after
          ports_after answer refl roomy.sound roomy.allowed fit bound receives) roomy.keyed
          (stay_roomy overrides may decide (Receives number answer) old new happens roomy) happens,
    )
less_left overrides may decide (Releases number sample answer) old new happens roomy
    = omega (arith, released_of (subscribing.taker_of number sample old.subscribers) number sample old new answer roomy happens)
less_left overrides may decide (SubscriberLeaves number answer) old new happens roomy
    = omega (arith, subscriber_leaves number (subscriber_of number old.subscribers) old new answer refl roomy.sound happens)
