-- What each call at a subscriber, and each port that comes, does to how much lives.
use Rattle.std.proofs.Common.{arith, ◌≡◌, ◌+◌, ◌-◌, ◌^◌, ◌==◌, ◌&&◌, ◌<◌, ◌∙◌, ℕ, max, min, Bool, true, false, not, List, [], ◌∷◌, Option}
use Rattle.std.proofs.Common.{None, Some, Result, Ok, Err, if◌then◌else◌, cond, refl, sym, ap}
use Rattle.std.specs.Prelude.{sum_by}
use Rattle.std.specs.BTreeMap.{insert_entry, is_at}
use Rattle.std.specs.Map.{lookup, values_of}
use Rattle.std.specs.Ordering.{nat_cmp, is_eq, match_ordering}
use Rattle.std.specs.declared.cmp.Ordering.{Ordering}
use Rattle.std.specs.declared.cmp.Ordering.TheVariants.{Less, Equal, Greater}
use Rattle.std.proofs.lemmas.List.Sums.{sum_by-cons}
use Rattle.std.proofs.lemmas.Map.Entries.{sum_by-set_value, sum_by-remove_entry}
use Rattle.iox_domain.specs.DomainValues.OverrideAnswers.{places}
use Rattle.iox_domain.specs.DomainValues.declared.connection_failure.ConnectionFailure.{ConnectionFailure}
use Rattle.iox_domain.specs.DomainValues.declared.create_error.SubscriberCreateError.{SubscriberCreateError}
use Rattle.iox_domain.specs.DomainValues.declared.degradation.DegradationAction.{DegradationAction}
use Rattle.iox_domain.specs.DomainValues.declared.degradation.DegradationInfo.{DegradationInfo}
use Rattle.iox_domain.specs.DomainValues.declared.port_error.ReceiveError.{ReceiveError}
use Rattle.iox_domain.specs.DomainValues.declared.port_owner.PortOwner.{PortOwner}
use Rattle.iox_domain.specs.DomainPorts.Leaving.{new_port}
use Rattle.iox_domain.specs.DomainPorts.declared.publisher_port.PublisherPort.{PublisherPort}
use Rattle.iox_domain.specs.DomainPorts.Arriving.{new_subscriber}
use Rattle.iox_domain.specs.DomainPorts.Living.{living_of_subscriber, counted, living_publishers}
use Rattle.iox_domain.specs.DomainPorts.Publishers.{port_of, connection_in}
use Rattle.iox_domain.specs.DomainPorts.Reading.{place_of}
use Rattle.iox_domain.specs.DomainPorts.declared.attached.Taken.{Taken}
use Rattle.iox_domain.specs.DomainPorts.declared.publisher_entry.PublisherEntry.{PublisherEntry}
use Rattle.iox_domain.specs.DomainPorts.declared.subscriber_port.SubscriberPort.{SubscriberPort}
use Rattle.iox_domain.specs.Living.{living, living_subscribers}
use Rattle.iox_domain.specs.LivingSteps.{AsMuchLives, OneMoreLives, OneLessLives, ReceivingAdds, SubscriberSteps, CreatingSteps}
use Rattle.iox_domain.specs.Making.{identity_of, sequence_before, sender_config, CreatesPublisher, CreatesSubscriber}
use Rattle.iox_domain.specs.Ports.{AtSubscriber, with_both}
use Rattle.iox_domain.specs.Rolls.{RollState}
use Rattle.iox_domain.specs.Subscribers.{subscriber_of, with_subscriber, subscriber_added, subscriber_removed, is_over, is_over_in, settled}
use Rattle.iox_domain.specs.PortsSubscribing.{UpdatesIf, UpdatesOne, HasSamplesIf, HasSamplesOne, counted_by, ReceivesIf, ReceivesOne}
use Rattle.iox_domain.specs.PortsSubscribing.{let_go_at, ReleasesAt, ReleasesOf, Releases, LeavesPortIf, LeavesAt}
use Rattle.iox_domain.specs.declared.ports.making.PublisherConfig.{PublisherConfig}
use Rattle.iox_domain.specs.declared.ports.service_ports.ServicePorts.{ServicePorts}
use Rattle.iox_domain.proofs.Calling.{no_value, same_value}
use Rattle.iox_domain.proofs.Coming.{lookup-came}
use Rattle.iox_domain.proofs.KeepsLife.{holding_of, Keeps, updates_keeps, receives_next_keeps, has_samples_keeps, left_all_keeps}
use Rattle.iox_domain.proofs.KeepsLife.{released_keeps}
use Rattle.iox_domain.proofs.Lives.{updates_life}
use Rattle.iox_domain.proofs.Outliving.{not_true, counts, count_of_life, counted_more, nothing_counted}

-- what is told of a subscriber counts of an owner
abbrev held_counts : Option ℕ → SubscriberPort → ℕ
held_counts owner port = counted owner port.owner.number (living_of_subscriber port)

nothing_over : (stands : Bool) (held : ℕ) → (not stands && (held == 0)) ≡ true → (if stands then 1 else 0) + held ≡ 0
nothing_over true held over = absurd (not_true over)
nothing_over false held over = grind (arith, over)

-- where a subscriber that is over is gone as much lives
settled_lives : (owner : Option ℕ) (number : ℕ) (ports : List (ℕ × SubscriberPort))
    → living_subscribers owner (settled number ports) ≡ living_subscribers owner ports
settled_lives owner number ports = at (is_over_in number ports) (subscriber_of number ports) refl refl
  where
    at : (over : Bool) (found : Option SubscriberPort) → subscriber_of number ports ≡ found → is_over found ≡ over
        → living_subscribers owner (if over then subscriber_removed number ports else ports) ≡ living_subscribers owner ports
    at false found is over = refl
    at true None is over = absurd (not_true over)
    at true (Some port) is over =
        let gone = sum_by-remove_entry (λ one. held_counts owner one) (is_at (nat_cmp number)) ports in
        let was : held_counts owner port ≡ 0
        = ap (counted owner port.owner.number) (nothing_over port.stands port.held over) ∙ nothing_counted owner port.owner.number in
        let all = rw is at gone in
        omega (arith, all, was)

-- another subscriber stands in the place of one
moved : (owner : Option ℕ) (number : ℕ) (ports : List (ℕ × SubscriberPort)) (port after : SubscriberPort)
    → subscriber_of number ports ≡ Some port
    → living_subscribers owner (with_subscriber number ports after) + held_counts owner port
    ≡ living_subscribers owner ports + held_counts owner after
moved owner number ports port after there = sum_by-set_value (λ one. held_counts owner one) (is_at (nat_cmp number)) ports port after there

holds_as_much : (owner : Option ℕ) (port after : SubscriberPort) → holding_of after ≡ holding_of port
    → held_counts owner after ≡ held_counts owner port
holds_as_much owner port after alike = ap (λ h. counted owner h.number ((if h.stands then 1 else 0) + h.held)) alike

-- a call of a subscriber of which as much lives after it
keeps_both : {T U : Type 0} (number : ℕ) (old new : ServicePorts T U) (port after : SubscriberPort)
    (ports_after : List (ℕ × PublisherPort T U)) → subscriber_of number old.subscribers ≡ Some port
    → new ≡ with_both number after ports_after old → Keeps port old.publishers after ports_after → AsMuchLives old new
keeps_both number old new port after ports_after there is keeps owner =
    omega (
      arith,
      ap (living owner) is,
      moved owner number old.subscribers port after there,
      keeps.1.lives owner,
      holds_as_much owner port
          after keeps.0,
    )

pub update_made : {T U : Type 0} (stands : Bool) (may : DegradationInfo → DegradationAction → Type 0) (list : RollState PublisherEntry)
    (port : SubscriberPort) (ports : List (ℕ × PublisherPort T U))
    (value : Result (Unit {0}) ConnectionFailure) (after : SubscriberPort) (ports_after : List (ℕ × PublisherPort T U))
    → UpdatesIf stands may list port ports (Some value) after ports_after
    → Keeps port ports after ports_after
update_made false may list port ports value after ports_after updates = absurd (no_value value updates.0)
update_made true may list port ports value after ports_after (listed, is_list, outcome, updates, is)
    = updates_keeps may listed list.changes port ports outcome after ports_after updates

update_keeps : {T U : Type 0} (may : DegradationInfo → DegradationAction → Type 0) (number : ℕ) (port : SubscriberPort)
    (old new : ServicePorts T U)
    (answer : Option (Result (Unit {0}) ConnectionFailure)) → subscriber_of number old.subscribers ≡ Some port
    → AtSubscriber number (UpdatesOne may old.publisher_list) (Some port) old answer new → AsMuchLives old new
update_keeps may number port old new None there (after, ports_after, step, is) = λ owner. ap (living owner) is
update_keeps may number port old new (Some value) there (after, ports_after, step, is) =
    keeps_both number old new port after ports_after there is
    (update_made port.stands may old.publisher_list port old.publishers value after ports_after step)

pub looked : {T U : Type 0} (stands : Bool) (may : DegradationInfo → DegradationAction → Type 0) (list : RollState PublisherEntry)
    (port : SubscriberPort) (ports : List (ℕ × PublisherPort T U))
    (value : Result Bool ConnectionFailure) (after : SubscriberPort) (ports_after : List (ℕ × PublisherPort T U))
    → HasSamplesIf stands may list port ports (Some value) after ports_after
    → Keeps port ports after ports_after
looked false may list port ports value after ports_after has = absurd (no_value value has.0)
looked true may list port ports value after ports_after (listed, is_list, outcome, has, is)
    = has_samples_keeps may listed list.changes port ports outcome after ports_after has

look_keeps : {T U : Type 0} (may : DegradationInfo → DegradationAction → Type 0) (number : ℕ) (port : SubscriberPort)
    (old new : ServicePorts T U)
    (answer : Option (Result Bool ConnectionFailure)) → subscriber_of number old.subscribers ≡ Some port
    → AtSubscriber number (HasSamplesOne may old.publisher_list) (Some port) old answer new → AsMuchLives old new
look_keeps may number port old new None there (after, ports_after, step, is) = λ owner. ap (living owner) is
look_keeps may number port old new (Some value) there (after, ports_after, step, is) =
    keeps_both number old new port after ports_after there is
    (looked port.stands may old.publisher_list port old.publishers value after ports_after step)

-- what came of a receive, of what lives: all stays but what is counted
abbrev CameOf : {T U : Type 0} → SubscriberPort → List (ℕ × PublisherPort T U) → Result (Option Taken) ReceiveError → SubscriberPort
    → List (ℕ × PublisherPort T U) → Type 0
CameOf port ports value after ports_after = (received : SubscriberPort) × Keeps port ports received ports_after
    × (after ≡ counted_by value received)

pub received_by : {T U : Type 0} (stands : Bool) (may : DegradationInfo → DegradationAction → Type 0) (list : RollState PublisherEntry)
    (port : SubscriberPort) (ports : List (ℕ × PublisherPort T U))
    (value : Result (Option Taken) ReceiveError) (after : SubscriberPort) (ports_after : List (ℕ × PublisherPort T U))
    → ReceivesIf stands may list port ports (Some value) after ports_after
    → CameOf port ports value after ports_after
received_by false may list port ports value after ports_after receives = absurd (no_value value receives.0)
received_by true may list port ports value after ports_after (listed, is_list, outcome, received, receives, is_counted, is) = (
  received,
  receives_next_keeps may listed list.changes port ports outcome received ports_after receives,
  is_counted ∙ ap
      (λ one. counted_by one received) (sym (same_value value outcome is)),
)

one_held : (owner : Option ℕ) (port received : SubscriberPort) (held : ℕ) → holding_of received ≡ holding_of port → held ≡ port.held + 1
    → held_counts owner (record received { held = held }) ≡ held_counts owner port + counted owner port.owner.number 1
one_held owner port received held alike more =
    ap (λ h. counted owner h.number ((if h.stands then 1 else 0) + held)) alike
    ∙ ap (λ n. counted owner port.owner.number n) (omega (arith, more))
    ∙ counted_more owner port.owner.number (living_of_subscriber port) 1

receive_adds : {T U : Type 0} (may : DegradationInfo → DegradationAction → Type 0) (number : ℕ) (port : SubscriberPort)
    (old new : ServicePorts T U)
    (answer : Option (Result (Option Taken) ReceiveError)) → subscriber_of number old.subscribers ≡ Some port → port.held + 1 < 2 ^ 64
    → AtSubscriber number (ReceivesOne may old.publisher_list) (Some port) old answer new → ReceivingAdds port.owner.number answer old new
receive_adds may number port old new None there few (after, ports_after, step, is) = λ owner. ap (living owner) is
receive_adds may number port old new (Some (Err error)) there few (after, ports_after, step, is) =
    let came = received_by port.stands may old.publisher_list port old.publishers (Err error) after ports_after step in
    keeps_both number old new port after ports_after there is (ap holding_of came.2 ∙ came.1.0, came.1.1)
receive_adds may number port old new (Some (Ok None)) there few (after, ports_after, step, is) =
    let came = received_by port.stands may old.publisher_list port old.publishers (Ok None) after ports_after step in
    keeps_both number old new port after ports_after there is (ap holding_of came.2 ∙ came.1.0, came.1.1)
receive_adds may number port old new (Some (Ok (Some taken))) there few (after, ports_after, step, is) = λ owner.
    let came = received_by port.stands may old.publisher_list port old.publishers (Ok (Some taken)) after ports_after step in
    let held : min (came.0.held + 1) (2 ^ 64 - 1) ≡ port.held + 1 = omega (arith, few, ap (λ h. h.held) came.1.0) in
    let more = ap (held_counts owner) came.2 ∙ one_held owner port came.0 (min (came.0.held + 1) (2 ^ 64 - 1)) came.1.0 held in
    omega (arith, ap (living owner) is, moved owner number old.subscribers port after there, came.1.1.lives owner, more)

-- one less is held, or stands, and a subscriber that is over then is gone
one_less : {T U : Type 0} (number : ℕ) (old new : ServicePorts T U) (port after : SubscriberPort) (owner : Option ℕ)
    → subscriber_of number old.subscribers ≡ Some port
    → living_subscribers owner new.subscribers
    ≡ living_subscribers owner (settled number (with_subscriber number old.subscribers after))
    → living_publishers owner new.publishers ≡ living_publishers owner old.publishers
    → after.owner.number ≡ port.owner.number → living_of_subscriber after + 1 ≡ living_of_subscriber port
    → living owner new + counted owner port.owner.number 1 ≡ living owner old
one_less number old new port after owner there is publishers same count =
    let less : held_counts owner after + counted owner port.owner.number 1 ≡ held_counts owner port =
    ap (λ n. counted owner n (living_of_subscriber after) + counted owner port.owner.number 1) same
    ∙ sym (counted_more owner port.owner.number (living_of_subscriber after) 1) ∙ ap (counted owner port.owner.number) count in
    omega (
      arith,
      is,
      publishers,
      settled_lives owner number (with_subscriber number old.subscribers after),
      moved owner number
          old.subscribers port after there,
      less,
    )

release_takes : {T U : Type 0} (number : ℕ) (sample : Taken) (port : SubscriberPort) (old new : ServicePorts T U)
    → subscriber_of number old.subscribers ≡ Some port → 0 < port.held
    → Releases number sample old true new → OneLessLives port.owner.number old new
release_takes {T} {U} number sample port old new there some releases = found (sample.subscriber == number) releases
  where
    at : (place : Option ℕ) → ReleasesAt number sample place old true new → OneLessLives port.owner.number old new
    at None releases = absurd (not_true (sym releases.0))
    at (Some place) releases = λ owner.
        one_less number old new port (record port { held = port.held - 1 }) owner there
        (ap (λ ports. living_subscribers owner ports.subscribers) releases.1 ∙ ap
        (λ found. living_subscribers owner (settled number (let_go_at number found old.subscribers))) there)
        (ap (λ ports. living_publishers owner ports.publishers) releases.1 ∙
        (released_keeps sample.publisher sample.index (Some place) old.publishers).lives owner)
        refl (omega (arith, some))

    found : (own : Bool) → ReleasesOf (if own then subscriber_of number old.subscribers else None) number sample old true new
        → OneLessLives port.owner.number old new
    found false releases = absurd (not_true (sym releases.0))
    found true releases = at (place_of sample.slot (connection_in sample.publisher sample.index old.publishers)) (rw there at releases)

leave_takes : {T U : Type 0} (number : ℕ) (port : SubscriberPort) (old new : ServicePorts T U)
    → subscriber_of number old.subscribers ≡ Some port
    → LeavesAt number (Some port) old true new → OneLessLives port.owner.number old new
leave_takes {T} {U} number port old new there leaves = at port.stands refl leaves
  where
    at : (stands : Bool) → port.stands ≡ stands → LeavesPortIf stands number port old true new → OneLessLives port.owner.number old new
    at false stands leaves = absurd (not_true (sym leaves.0))
    at true stands leaves = λ owner.
        let on : ◌≡◌ {A = ℕ} (if port.stands then 1 else 0) 1 = ap {B = ℕ} (λ b. if b then 1 else 0) stands in
        one_less number old new port (record port { stands = false }) owner there
        (ap (λ ports. living_subscribers owner ports.subscribers) leaves.1)
        (ap (λ ports. living_publishers owner ports.publishers) leaves.1 ∙ (left_all_keeps port.connections.values old.publishers).lives
        owner)
        refl (omega (arith, on))

-- what comes under a new number is added to a sum
summed_on : {X : Type 0} (f : X → ℕ) (number : ℕ) (x : X) (entry : ℕ × X) (entries : List (ℕ × X)) (order : Ordering)
    → nat_cmp number entry.0 ≡ order
    → lookup (is_at (nat_cmp number)) (entry ∷ entries) ≡ None
    → (lookup (is_at (nat_cmp number)) entries ≡ None
    → sum_by f (values_of (insert_entry nat_cmp entries number x)) ≡ sum_by f (values_of entries) + f x)
    → sum_by f (values_of (match_ordering order ((number, x) ∷ entry ∷ entries) ((entry.0, x) ∷ entries)
    (entry ∷ insert_entry nat_cmp entries number x)))
    ≡ sum_by f (values_of (entry ∷ entries)) + f x
summed_on f number x entry entries Less is new rest = omega (arith, sum_by-cons f x (values_of (entry ∷ entries)))
summed_on f number x entry entries Equal is new rest =
    let wrong : Some entry.1 ≡ None = ap (λ order. cond (is_eq order) (Some entry.1) (lookup (is_at (nat_cmp number)) entries)) (sym is)
    ∙ new in
    absurd (no_value entry.1 wrong)
summed_on f number x entry entries Greater is new rest =
    let further : lookup (is_at (nat_cmp number)) entries ≡ None
    = ap (λ order. cond (is_eq order) (Some entry.1) (lookup (is_at (nat_cmp number)) entries)) (sym is) ∙ new in
    omega (
      arith,
      sum_by-cons f entry.1 (values_of (insert_entry nat_cmp entries number x)),
      sum_by-cons f entry.1 (values_of entries),
      rest further,
    )

summed_came : {X : Type 0} (f : X → ℕ) (number : ℕ) (x : X) (entries : List (ℕ × X)) → lookup (is_at (nat_cmp number)) entries ≡ None
    → sum_by f (values_of (insert_entry nat_cmp entries number x)) ≡ sum_by f (values_of entries) + f x
summed_came f number x [] new = omega (arith, sum_by-cons f x [])
summed_came f number x (entry ∷ entries) new
    = summed_on f number x entry entries (nat_cmp number entry.0) refl new (summed_came f number x entries)

came : {A F : Type 0} (number : A) (failure : F) → Ok number ≡ Err failure → ⊥
came number failure is = cc

publisher_adds : {T U : Type 0} (overrides : ℕ → ℕ → Type 0) (may : DegradationInfo → DegradationAction → Type 0)
    (config : PublisherConfig) (user_header : U) (needed place : Option ℕ) (number : ℕ)
    (old new : ServicePorts T U) → port_of old.next_port old.publishers ≡ None
    → CreatesPublisher overrides may config user_header needed place old (Ok number) new → OneMoreLives config.owner.number old new
publisher_adds overrides may config user_header None place number old new fresh creates = absurd (came number _ creates.0)
publisher_adds overrides may config user_header (Some needed) None number old new fresh creates = absurd (came number _ creates.0)
publisher_adds overrides may config user_header (Some needed) (Some place) number old new fresh (slots, allowed, Err error, adds, is)
    = absurd (came number _ is)
publisher_adds {T} {U} overrides may config user_header (Some needed) (Some place) number old new fresh
    (slots, allowed, Ok other, (listed, is_list, outcome, port, updates, next, made), is) = λ owner.
    let first : PublisherPort T U = new_port (identity_of config.owner place old) old.sizes.max_subscribers config.allocation
    config.unit (sequence_before config old) (sender_config config (places (max needed 1) slots) old) user_header in
    let life = updates_life may listed old.subscriber_list.changes first outcome port updates in
    omega (
      arith,
      ap (living owner) made,
      summed_came (λ one. counts owner one) old.next_port port old.publishers fresh,
      count_of_life
          owner first port life,
    )

subscriber_adds : {T U : Type 0} (may : DegradationInfo → DegradationAction → Type 0) (owner : PortOwner)
    (buffer_size : Result ℕ SubscriberCreateError) (place : Option ℕ) (number : ℕ)
    (old new : ServicePorts T U) → subscriber_of old.next_port old.subscribers ≡ None
    → CreatesSubscriber may owner buffer_size place old (Ok number) new → OneMoreLives owner.number old new
subscriber_adds may owner (Err refusal) place number old new fresh creates = absurd (came number _ creates.0)
subscriber_adds may owner (Ok buffer_size) None number old new fresh creates = absurd (came number _ creates.0)
subscriber_adds may owner (Ok buffer_size) (Some place) number old new fresh (Err error, adds, is) = absurd (came number _ is)
subscriber_adds {T} {U} may owner (Ok buffer_size) (Some place) number old new fresh
    (Ok other, (between, (listed, is_list, outcome, after, ports_after, updates, followed), next, made), is) = λ counted_owner.
    let port : SubscriberPort = new_subscriber (identity_of owner place old) buffer_size old.sizes.max_publishers
    old.sizes.expired_connections in
    let keeps = updates_keeps may listed old.publisher_list.changes port old.publishers outcome after ports_after updates in
    let there : subscriber_of old.next_port (subscriber_added old.next_port port old.subscribers) ≡ Some port
    = lookup-came old.next_port port old.subscribers in
    omega (
      arith,
      ap (living counted_owner) made,
      ap (living counted_owner) followed,
      moved counted_owner old.next_port (subscriber_added old.next_port port old.subscribers) port after there,
      summed_came (λ one. held_counts counted_owner one) old.next_port port old.subscribers fresh,
      keeps.1.lives counted_owner,
      holds_as_much counted_owner port after keeps.0,
    )

-- what each call at a subscriber does
pub subscribing_steps : {T U : Type 0} (may : DegradationInfo → DegradationAction → Type 0) → SubscriberSteps T U may
subscribing_steps may
    = record {
      update = update_keeps may;
      has_samples = look_keeps may;
      receive = receive_adds may;
      release = release_takes;
      leave
          = leave_takes;
    }

-- what each port that comes does
pub coming_steps : {T U : Type 0} (overrides : ℕ → ℕ → Type 0) (may : DegradationInfo → DegradationAction → Type 0)
    → CreatingSteps T U overrides may
coming_steps overrides may = record { publisher = publisher_adds overrides may; subscriber = subscriber_adds may }
