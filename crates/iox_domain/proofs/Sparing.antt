-- A step of a subscriber makes no more samples possible for it.
use Rattle.std.proofs.Common.{arith, ◌≡◌, ◌∙◌, ◌+◌, ◌≤◌, ◌<◌, ◌==◌, ◌&&◌, ◌∷◌, [], ℕ, zero, suc, Bool, true, false, not, List, get_or}
use Rattle.std.proofs.Common.{length, set, slice_get, nat_le, Option, None, Some, Result, Ok, Err, if◌then◌else◌, refl, sym, ap, subst}
use Rattle.std.proofs.Common.{inl, inr}
use Rattle.std.proofs.lemmas.Bool.{cases_eq, eqb-true}
use Rattle.std.proofs.lemmas.List.{get_or-set_other, get_or-set_same, length-set}
use Rattle.std.proofs.lemmas.List.Sums.{sum_by-set, sum_by-le-sum_by}
use Rattle.std.specs.List.{All}
use Rattle.std.specs.declared.alloc.AllocError.{AllocError}
use Rattle.iox_domain.specs.Container.declared.container.Member.{Member}
use Rattle.iox_domain.specs.Container.SlotTable.{SlotTable, value_at, without}
use Rattle.iox_domain.specs.Container.SlotTable as table
use Rattle.iox_domain.specs.DomainPorts.declared.publisher_port.PublisherPort.{PublisherPort}
use Rattle.iox_domain.specs.DomainPorts.Following.{is_unborrowed, is_of, PartsFor, PartsBorrowed, PartsOver, PartsIf, Parts, KeepsAt}
use Rattle.iox_domain.specs.DomainPorts.Following.{ConnectsBy, Connects, unplaced, FollowsFreed, FollowsKey, FollowsAt, freed_if}
use Rattle.iox_domain.specs.DomainPorts.Following.{FollowsNoneAt}
use Rattle.iox_domain.specs.DomainPorts.Publishers.{connection_in}
use Rattle.iox_domain.specs.DomainPorts.Receiving.{is_idle_at, dropped_port, dropped_ports, swept}
use Rattle.iox_domain.specs.DomainPorts.Subscribing.{attached_at, connection_by, is_idle, without_key, ended_key, ended_ports}
use Rattle.iox_domain.specs.DomainPorts.SubscriberUpdating.{FollowsOne, FollowsFrom, FollowsNoneIf, FollowsNones, UpdatesIf, Updates}
use Rattle.iox_domain.specs.DomainPorts.SubscriberUpdating.{is_listed}
use Rattle.iox_domain.specs.DomainPorts.declared.attached.Attached.{Attached}
use Rattle.iox_domain.specs.DomainPorts.declared.publisher_entry.PublisherEntry.{PublisherEntry}
use Rattle.iox_domain.specs.DomainPorts.declared.subscriber_port.SubscriberPort.{SubscriberPort}
use Rattle.iox_domain.specs.DomainValues.declared.connection_failure.ConnectionFailure.{ConnectionFailure}
use Rattle.iox_domain.specs.DomainValues.declared.connection_failure.ZeroCopyCreationError.{ZeroCopyCreationError}
use Rattle.iox_domain.specs.DomainValues.declared.degradation.DegradationAction.{DegradationAction}
use Rattle.iox_domain.specs.DomainValues.declared.degradation.DegradationInfo.{DegradationInfo}
use Rattle.iox_domain.specs.PortLawsLaws.{IsSoundEntry}
use Rattle.iox_domain.specs.Tries.{how_often}
use Rattle.iox_domain.proofs.BookedTakes.{met_gives}
use Rattle.iox_domain.proofs.Keys.{adds_other, often_there, often_without, none_without}
use Rattle.iox_domain.specs.Samples.{borrowed_at, borrowed_of}
use Rattle.iox_domain.proofs.Bools.{both_true}
use Rattle.iox_domain.proofs.SamplesLending.{Lends, lends_on, lends_is, lends_ended, lends_walks}

-- of each connection as much is borrowed as before, or more
abbrev pub More : {T U : Type 0} → List (ℕ × PublisherPort T U) → List (ℕ × PublisherPort T U) → Type 0
More old new = (number index : ℕ) → length (connection_in number index old).borrowed ≤ length (connection_in number index new).borrowed

pub borrowed_more : {T U : Type 0} (most : ℕ) (attached : Option Attached) (old new : List (ℕ × PublisherPort T U)) → More old new
    → borrowed_at most attached old ≤ borrowed_at most attached new
borrowed_more most None old new more = omega arith
borrowed_more most (Some attached) old new more = omega (arith, more attached.publisher attached.index)

pub borrowed_of_more : {T U : Type 0} (most : ℕ) (connections : List (Option Attached)) (old new : List (ℕ × PublisherPort T U))
    → More old new → borrowed_of most connections old ≤ borrowed_of most connections new
borrowed_of_more most connections old new more
    = sum_by-le-sum_by (λ attached. borrowed_at most attached old) (λ attached. borrowed_at most attached new) connections
    (λ attached. borrowed_more most attached old new more)

-- a key that is free holds no connection
abbrev pub FreeFit : SlotTable Attached → Type 0
FreeFit keys = (key : ℕ) → 0 < how_often key keys.free → (key < length keys.values) × (value_at keys.values key ≡ None)

-- The effect of a step of a subscriber: publishers stay sound and no connection has fewer borrowed messages, free keys stay free, and
-- all its keys together have borrowed as much as before, or more.
pub record Spared {T U : Type 0} (most : ℕ) (port : SubscriberPort) (ports : List (ℕ × PublisherPort T U)) (new : SubscriberPort)
    (new_ports : List (ℕ × PublisherPort T U)) : Type 0 where
  pub lends : Lends ports new_ports
  pub stands : new.stands ≡ port.stands
  pub free : FreeFit port.connections → FreeFit new.connections
  pub less : (next : ℕ) → All (IsSoundEntry next) ports → FreeFit port.connections
      → borrowed_of most port.connections.values ports ≤ borrowed_of most new.connections.values new_ports

spared_lent : {T U : Type 0} (most : ℕ) (port new : SubscriberPort) (ports new_ports : List (ℕ × PublisherPort T U))
    → new.connections ≡ port.connections → new.stands ≡ port.stands → Lends ports new_ports → Spared most port ports new new_ports
spared_lent most port new ports new_ports is stands lends = record {
  lends = lends;
  stands = stands;
  free = λ fit. subst FreeFit (sym is) fit;
  less = λ next all fit. omega (
    arith,
    ap (λ keys. borrowed_of most keys.values new_ports) is,
    borrowed_of_more most port.connections.values ports new_ports
        (lends.more next all),
  );
}

spared_rest : {T U : Type 0} (most : ℕ) (port new : SubscriberPort) (ports new_ports : List (ℕ × PublisherPort T U))
    → new.connections ≡ port.connections → new.stands ≡ port.stands → new_ports ≡ ports → Spared most port ports new new_ports
spared_rest most port new ports new_ports is stands are = spared_lent most port new ports new_ports is stands (lends_is ports new_ports are)

spared_same : {T U : Type 0} (most : ℕ) (port new : SubscriberPort) (ports new_ports : List (ℕ × PublisherPort T U)) → new ≡ port
    → new_ports ≡ ports → Spared most port ports new new_ports
spared_same most port new ports new_ports is are
    = spared_rest most port new ports new_ports (ap (λ one. one.connections) is) (ap (λ one. one.stands) is) are

spared_on : {T U : Type 0} (most : ℕ) (port between new : SubscriberPort) (ports between_ports new_ports : List (ℕ × PublisherPort T U))
    → Spared most port ports between between_ports → Spared most between between_ports new new_ports → Spared most port ports new new_ports
spared_on most port between new ports between_ports new_ports one two = record {
  lends = lends_on ports between_ports new_ports one.lends two.lends;
  stands = two.stands ∙ one.stands;
  free = λ fit. two.free (one.free fit);
  less = λ next all fit. omega (arith, one.less next all fit, two.less next (one.lends.keeps.sound next all) (one.free fit));
}

-- a connection of which nothing is borrowed ends
pub within_values : (values : List (Option Attached)) (key : ℕ) (attached : Attached) → value_at values key ≡ Some attached
    → key < length values
within_values [] key attached is = cc
within_values (x ∷ xs) zero attached is = omega arith
within_values (x ∷ xs) (suc key) attached is = omega (arith, within_values xs key attached is)

released_free : (key : ℕ) (attached : Attached) (keys : SlotTable Attached) → value_at keys.values key ≡ Some attached → FreeFit keys
    → FreeFit (table.released keys key)
released_free key attached keys there fit one some = elim (cases_eq one key) [
  | inl same ↦
      let within : key < length keys.values = within_values keys.values key attached there in (
        omega (arith, same, within, length-set keys.values key None),
        ap (λ n. value_at (set keys.values key None) n) same ∙
            get_or-set_same keys.values key None None within,
      )
  | inr apart ↦
      let was = fit one (omega (arith, some, adds_other one key apart)) in
      (omega (arith, was.0, length-set keys.values key None), get_or-set_other keys.values key one None None apart ∙ was.1)
]

spared_without : {T U : Type 0} (most key : ℕ) (found : Option Attached) (port : SubscriberPort) (ports : List (ℕ × PublisherPort T U))
    → attached_at key port ≡ found → length (connection_by found ports).borrowed ≡ 0
    → Spared most port ports (without_key key found port) (ended_ports found ports)
spared_without most key None port ports there none = spared_same most port port ports ports refl refl
spared_without most key (Some attached) port ports there none = record {
  lends = lends_ended attached ports;
  stands = refl;
  free = released_free key attached port.connections there;
  less = λ next all fit. omega (
    arith,
    sum_by-set (λ one. borrowed_at most one ports) port.connections.values key None None
        (within_values port.connections.values key attached there),
    ap (λ one. borrowed_at most one ports) there,
    none,
    borrowed_of_more most (set port.connections.values key None) ports (ended_ports (Some attached) ports)
        ((lends_ended attached ports).more next all),
  );
}

spared_ended : {T U : Type 0} (most key : ℕ) (port : SubscriberPort) (ports : List (ℕ × PublisherPort T U))
    → length (connection_by (attached_at key port) ports).borrowed ≡ 0
    → Spared most port ports (ended_key key port) (ended_ports (attached_at key port) ports)
spared_ended most key port ports none = spared_without most key (attached_at key port) port ports refl none

idle_none : {T U : Type 0} (port : SubscriberPort) (ports : List (ℕ × PublisherPort T U)) (key : ℕ) → is_idle port ports key ≡ true
    → length (connection_by (attached_at key port) ports).borrowed ≡ 0
idle_none port ports key is = eqb-true _ 0 (both_true _ (length (connection_by (attached_at key port) ports).borrowed == 0) is).1

unborrowed_none : {T U : Type 0} (port : SubscriberPort) (ports : List (ℕ × PublisherPort T U)) (key : ℕ)
    → is_unborrowed port ports key ≡ true → length (connection_by (attached_at key port) ports).borrowed ≡ 0
unborrowed_none port ports key is = eqb-true _ 0 is

-- it ends, and then only what doesn't count changes
spared_ended_to : {T U : Type 0} (most key : ℕ) (port new : SubscriberPort) (ports new_ports : List (ℕ × PublisherPort T U))
    → length (connection_by (attached_at key port) ports).borrowed ≡ 0
    → new.connections ≡ (ended_key key port).connections → new.stands ≡ (ended_key key port).stands
    → new_ports ≡ ended_ports (attached_at key port) ports → Spared most port ports new new_ports
spared_ended_to most key port new ports new_ports none is stands are =
    spared_on most port (ended_key key port) new ports (ended_ports (attached_at key port) ports) new_ports
    (spared_ended most key port ports none)
    (spared_rest most (ended_key key port) new (ended_ports (attached_at key port) ports) new_ports is stands are)

-- a connection parts
spared_for : {T U : Type 0} (most : ℕ) (found : Option ℕ) (place key : ℕ) (port new : SubscriberPort)
    (ports new_ports : List (ℕ × PublisherPort T U)) (is_free : Bool) → ((out : ℕ) → found ≡ Some out → is_unborrowed port ports out ≡ true)
    → PartsFor found place key port ports is_free new new_ports → Spared most port ports new new_ports
spared_for most None place key port new ports new_ports is_free idle parts = spared_same most port new ports new_ports parts.1 parts.2
spared_for most (Some out) place key port new ports new_ports is_free idle parts =
    spared_ended_to most out port new ports new_ports (unborrowed_none port ports out (idle out refl))
    (ap (λ one. one.connections) parts.1) (ap (λ one. one.stands) parts.1) parts.2

spared_borrowed : {T U : Type 0} (most : ℕ) (unborrowed : Bool) (key : ℕ) (port new : SubscriberPort)
    (ports new_ports : List (ℕ × PublisherPort T U)) (is_free : Bool) → is_unborrowed port ports key ≡ unborrowed
    → PartsBorrowed unborrowed key port ports is_free new new_ports → Spared most port ports new new_ports
spared_borrowed most true key port new ports new_ports is_free is parts =
    spared_ended_to most key port new ports new_ports (unborrowed_none port ports key is) (ap (λ one. one.connections) parts.1)
    (ap (λ one. one.stands) parts.1) parts.2
spared_borrowed most false key port new ports new_ports is_free is (place, met, parts) =
    spared_for most (slice_get port.expired.items place) place key port new ports new_ports is_free
    (λ out there. met_gives (is_unborrowed port ports) port.expired.items place (Some out) (Some out) out there met refl refl) parts

spared_over : {T U : Type 0} (most : ℕ) (found : Option ℕ) (place key : ℕ) (port new : SubscriberPort)
    (ports new_ports : List (ℕ × PublisherPort T U)) (is_free : Bool) → ((out : ℕ) → found ≡ Some out → is_idle port ports out ≡ true)
    → PartsOver found place key port ports is_free new new_ports → Spared most port ports new new_ports
spared_over most None place key port new ports new_ports is_free idle parts
    = spared_borrowed most (is_unborrowed port ports key) key port new ports new_ports is_free refl parts
spared_over most (Some out) place key port new ports new_ports is_free idle parts =
    spared_ended_to most out port new ports new_ports (idle_none port ports out (idle out refl)) (ap (λ one. one.connections) parts.1)
    (ap (λ one. one.stands) parts.1) parts.2

spared_if : {T U : Type 0} (most : ℕ) (idle full : Bool) (key : ℕ) (port new : SubscriberPort)
    (ports new_ports : List (ℕ × PublisherPort T U)) (is_free : Bool) → is_idle port ports key ≡ idle
    → PartsIf idle full key port ports is_free new new_ports → Spared most port ports new new_ports
spared_if most true full key port new ports new_ports is_free is parts =
    spared_ended_to most key port new ports new_ports (idle_none port ports key is) (ap (λ one. one.connections) parts.1)
    (ap (λ one. one.stands) parts.1) parts.2
spared_if most false false key port new ports new_ports is_free is parts
    = spared_rest most port new ports new_ports (ap (λ one. one.connections) parts.1) (ap (λ one. one.stands) parts.1) parts.2
spared_if most false true key port new ports new_ports is_free is (place, met, parts) =
    spared_over most (slice_get port.expired.items place) place key port new ports new_ports is_free
    (λ out there. met_gives (is_idle port ports) port.expired.items place (Some out) (Some out) out there met refl refl) parts

spared_parts : {T U : Type 0} (most key : ℕ) (port new : SubscriberPort) (ports new_ports : List (ℕ × PublisherPort T U))
    (is_free : Bool) → Parts key port ports is_free new new_ports → Spared most port ports new new_ports
spared_parts most key port new ports new_ports is_free parts
    = spared_if most (is_idle port ports key) (nat_le port.expired.room (length port.expired.items)) key port new ports new_ports
    is_free refl parts

-- the subscriber attaches
stored_free : (new : ℕ) (attached : Attached) (keys : SlotTable Attached) → FreeFit keys → FreeFit (table.stored keys new attached)
stored_free new attached keys fit key some = elim (cases_eq key new) [
  | inl same ↦ absurd (omega (arith, some, ap (λ n. how_often n (without new keys.free)) same, none_without new keys.free))
  | inr apart ↦
      let was = fit key (omega (arith, some, often_without key new keys.free apart)) in (
        omega (arith, was.0, length-set keys.values new (Some attached)),
        get_or-set_other keys.values new key (Some attached) None apart ∙
            was.1,
      )
]

spared_kept : {T U : Type 0} (most place : ℕ) (attached : Attached) (port new : SubscriberPort)
    (ports new_ports : List (ℕ × PublisherPort T U)) → Lends ports new_ports → KeepsAt place attached port new
    → Spared most port ports new new_ports
spared_kept most place attached port new ports new_ports lends (key, first, is) = record {
  lends = lends;
  stands = ap (λ one. one.stands) is;
  free = λ fit. subst FreeFit (sym (ap (λ one. one.connections) is)) (stored_free key attached port.connections fit);
  less = λ next all fit.
      let was = fit key (often_there key 0 port.connections.free first) in
      omega (
        arith,
        ap (λ one. borrowed_of most one.connections.values new_ports) is,
        sum_by-set (λ one. borrowed_at most one new_ports) port.connections.values key (Some attached) None was.0,
        ap (λ one. borrowed_at most one new_ports) was.1,
        borrowed_of_more most port.connections.values ports new_ports (lends.more next all),
      );
}

spared_by : {T U : Type 0} (most place number : ℕ) (answer : Option (Result ℕ AllocError)) (port new : SubscriberPort)
    (ports new_ports : List (ℕ × PublisherPort T U)) → Lends ports new_ports → ConnectsBy place number answer port new
    → Spared most port ports new new_ports
spared_by most place number None port new ports new_ports lends connects
    = spared_lent most port new ports new_ports (ap (λ one. one.connections) connects) (ap (λ one. one.stands) connects) lends
spared_by most place number (Some (Err error)) port new ports new_ports lends connects = absurd connects
spared_by most place number (Some (Ok index)) port new ports new_ports lends connects
    = spared_kept most place (record { publisher = number; index = index }) port new ports new_ports lends connects

spared_connects : {T U : Type 0} (most place number : ℕ) (port new : SubscriberPort) (ports new_ports : List (ℕ × PublisherPort T U))
    (answer : Result (Unit {0}) ZeroCopyCreationError) → Connects place number port ports answer new new_ports
    → Spared most port ports new new_ports
spared_connects most place number port new ports new_ports (Err failure) connects
    = spared_same most port new ports new_ports connects.2 connects.3
spared_connects most place number port new ports new_ports (Ok done) (answer, attaches, by) =
    spared_by most place number answer port new ports new_ports
    ((lends_walks port.number).attach number port.buffer_size ports new_ports answer attaches) by

-- a place is followed
spared_freed : {T U : Type 0} (most : ℕ) (is_free : Bool) (place number : ℕ) (port new : SubscriberPort)
    (ports new_ports : List (ℕ × PublisherPort T U)) (answer : Result (Unit {0}) ZeroCopyCreationError)
    → FollowsFreed is_free place number port ports answer new new_ports → Spared most port ports new new_ports
spared_freed most false place number port new ports new_ports answer follows
    = spared_rest most port new ports new_ports (ap (λ one. one.connections) follows.1) (ap (λ one. one.stands) follows.1) follows.2
spared_freed most true place number port new ports new_ports answer follows =
    spared_on most port (unplaced place port) new ports ports new_ports
    (spared_rest most port (unplaced place port) ports ports refl refl refl)
    (spared_connects most place number (unplaced place port) new ports new_ports answer follows)

spared_key : {T U : Type 0} (most : ℕ) (same : Bool) (key place number : ℕ) (port new : SubscriberPort)
    (ports new_ports : List (ℕ × PublisherPort T U)) (answer : Result (Unit {0}) ZeroCopyCreationError)
    → FollowsKey same key place number port ports answer new new_ports → Spared most port ports new new_ports
spared_key most true key place number port new ports new_ports answer follows
    = spared_same most port new ports new_ports follows.1 follows.2
spared_key most false key place number port new ports new_ports answer (is_free, between, between_ports, parts, freed) =
    spared_on most port between new ports between_ports new_ports (spared_parts most key port between ports between_ports is_free parts)
    (spared_freed most is_free place number between new between_ports new_ports answer freed)

spared_at : {T U : Type 0} (most : ℕ) (found : Option ℕ) (place number : ℕ) (port new : SubscriberPort)
    (ports new_ports : List (ℕ × PublisherPort T U)) (answer : Result (Unit {0}) ZeroCopyCreationError)
    → FollowsAt found place number port ports answer new new_ports → Spared most port ports new new_ports
spared_at most None place number port new ports new_ports answer follows
    = spared_connects most place number port new ports new_ports answer follows
spared_at most (Some key) place number port new ports new_ports answer follows
    = spared_key most (is_of number (attached_at key port)) key place number port new ports new_ports answer follows

spared_one : {T U : Type 0} (most place : ℕ) (listed : Option (Member PublisherEntry)) (port new : SubscriberPort)
    (ports new_ports : List (ℕ × PublisherPort T U)) (outcome : Result (Unit {0}) ZeroCopyCreationError)
    → FollowsOne place listed port ports outcome new new_ports → Spared most port ports new new_ports
spared_one most place None port new ports new_ports outcome follows = spared_same most port new ports new_ports follows.1 follows.2
spared_one most place (Some member) port new ports new_ports outcome follows
    = spared_at most (get_or port.places.items place None) place member.value.publisher port new ports new_ports outcome follows

spared_from : {T U : Type 0} (most : ℕ) (may : DegradationInfo → DegradationAction → Type 0) (place : ℕ)
    (listed : List (Option (Member PublisherEntry))) (found after : Option ConnectionFailure) (port new : SubscriberPort)
    (ports new_ports : List (ℕ × PublisherPort T U))
    → FollowsFrom may place listed found port ports after new new_ports → Spared most port ports new new_ports
spared_from most may place [] found after port new ports new_ports follows = spared_same most port new ports new_ports follows.1 follows.2
spared_from most may place (listed ∷ rest) found after port new ports new_ports
    (outcome, next, next_ports, then_found, one, asks, further) =
    spared_on most port next new ports next_ports new_ports (spared_one most place listed port next ports next_ports outcome one)
    (spared_from most may (place + 1) rest then_found after next new next_ports new_ports further)

-- a place that lists none is followed
spared_freed_if : {T U : Type 0} (most : ℕ) (is_free : Bool) (place : ℕ) (port : SubscriberPort) (ports : List (ℕ × PublisherPort T U))
    → Spared most port ports (freed_if is_free place port) ports
spared_freed_if most true place port ports = spared_rest most port (unplaced place port) ports ports refl refl refl
spared_freed_if most false place port ports = spared_same most port port ports ports refl refl

spared_none_at : {T U : Type 0} (most : ℕ) (found : Option ℕ) (place : ℕ) (port new : SubscriberPort)
    (ports new_ports : List (ℕ × PublisherPort T U)) → FollowsNoneAt found place port ports new new_ports
    → Spared most port ports new new_ports
spared_none_at most None place port new ports new_ports follows = spared_same most port new ports new_ports follows.0 follows.1
spared_none_at most (Some key) place port new ports new_ports (is_free, between, parts, is) =
    spared_on most port between new ports new_ports new_ports (spared_parts most key port between ports new_ports is_free parts)
    (spared_on most between (freed_if is_free place between) new new_ports new_ports new_ports
    (spared_freed_if most is_free place between new_ports)
    (spared_same most (freed_if is_free place between) new new_ports new_ports is refl))

spared_none_if : {T U : Type 0} (most : ℕ) (there : Bool) (place : ℕ) (port new : SubscriberPort)
    (ports new_ports : List (ℕ × PublisherPort T U)) → FollowsNoneIf there place port ports new new_ports
    → Spared most port ports new new_ports
spared_none_if most true place port new ports new_ports follows = spared_same most port new ports new_ports follows.0 follows.1
spared_none_if most false place port new ports new_ports follows
    = spared_none_at most (get_or port.places.items place None) place port new ports new_ports follows

spared_nones : {T U : Type 0} (most : ℕ) (listed : List (Option (Member PublisherEntry))) (place count : ℕ) (port new : SubscriberPort)
    (ports new_ports : List (ℕ × PublisherPort T U)) → FollowsNones listed place count port ports new new_ports
    → Spared most port ports new new_ports
spared_nones most listed place zero port new ports new_ports follows = spared_same most port new ports new_ports follows.0 follows.1
spared_nones most listed place (suc count) port new ports new_ports (next, next_ports, one, further) =
    spared_on most port next new ports next_ports new_ports
    (spared_none_if most (is_listed listed place) place port next ports next_ports one)
    (spared_nones most listed (place + 1) count next new next_ports new_ports further)

-- an update
spared_updates_if : {T U : Type 0} (most : ℕ) (seen : Bool) (may : DegradationInfo → DegradationAction → Type 0)
    (listed : List (Option (Member PublisherEntry))) (changes : ℕ) (port new : SubscriberPort)
    (ports new_ports : List (ℕ × PublisherPort T U))
    (answer : Result (Unit {0}) ConnectionFailure) → UpdatesIf seen may listed changes port ports answer new new_ports
    → Spared most port ports new new_ports
spared_updates_if most true may listed changes port new ports new_ports answer updates
    = spared_same most port new ports new_ports updates.1 updates.2
spared_updates_if most false may listed changes port new ports new_ports answer (found, between, between_ports, follows, nones, is_answer) =
    let begun : SubscriberPort = record port { seen = changes; again = false } in
    spared_on most port begun new ports ports new_ports (spared_rest most port begun ports ports refl refl refl)
    (spared_on most begun between new ports between_ports new_ports
    (spared_from most may 0 listed None found begun between ports between_ports follows)
    (spared_nones most listed 0 (length between.places.items) between new between_ports new_ports nones))

pub spared_updates : {T U : Type 0} (most : ℕ) (may : DegradationInfo → DegradationAction → Type 0)
    (listed : List (Option (Member PublisherEntry))) (changes : ℕ) (port new : SubscriberPort)
    (ports new_ports : List (ℕ × PublisherPort T U))
    (answer : Result (Unit {0}) ConnectionFailure) → Updates may listed changes port ports answer new new_ports
    → Spared most port ports new new_ports
spared_updates most may listed changes port new ports new_ports answer updates
    = spared_updates_if most ((port.seen == changes) && not port.again) may listed changes port new ports new_ports answer updates

-- idle ones among the expired end
spared_dropped : {T U : Type 0} (most place : ℕ) (found : Option ℕ) (port : SubscriberPort) (ports : List (ℕ × PublisherPort T U))
    → is_idle_at found port ports ≡ true → Spared most port ports (dropped_port place found port) (dropped_ports found port ports)
spared_dropped most place None port ports idle = spared_same most port port ports ports refl refl
spared_dropped most place (Some key) port ports idle =
    spared_ended_to most key port (dropped_port place (Some key) port) ports (dropped_ports (Some key) port ports)
    (idle_none port ports key idle) refl refl refl

spared_either : {T U : Type 0} (most : ℕ) (test : Bool) (port : SubscriberPort) (ports : List (ℕ × PublisherPort T U))
    (one other : SubscriberPort × List (ℕ × PublisherPort T U))
    → (test ≡ true → Spared most port ports one.0 one.1) → Spared most port ports other.0 other.1
    → Spared most port ports (if test then one else other).0 (if test then one else other).1
spared_either most true port ports one other spared_one spared_other = spared_one refl
spared_either most false port ports one other spared_one spared_other = spared_other

pub spared_swept : {T U : Type 0} (most place count : ℕ) (port : SubscriberPort) (ports : List (ℕ × PublisherPort T U))
    → Spared most port ports (swept place count (port, ports)).0 (swept place count (port, ports)).1
spared_swept most place zero port ports = spared_same most port port ports ports refl refl
spared_swept most place (suc count) port ports =
    let key = slice_get port.expired.items place in
    spared_either most (is_idle_at key port ports) port ports
    (swept place count (dropped_port place key port, dropped_ports key port ports)) (swept (place + 1) count (port, ports))
    (λ idle. spared_on most port (dropped_port place key port)
    (swept place count (dropped_port place key port, dropped_ports key port ports)).0 ports (dropped_ports key port ports)
    (swept place count (dropped_port place key port, dropped_ports key port ports)).1
    (spared_dropped most place key port ports idle)
    (spared_swept most place count (dropped_port place key port) (dropped_ports key port ports)))
    (spared_swept most (place + 1) count port ports)
