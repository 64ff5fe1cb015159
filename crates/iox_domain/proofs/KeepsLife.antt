-- What a subscriber's steps leave as it was: what lives of itself, and of the publishers.
use Rattle.std.proofs.Common.{subst, sym, ◌<◌, arith, ◌≡◌, ◌+◌, ◌==◌, ◌&&◌, ◌∙◌, ℕ, zero, suc, Bool, true, false, not, List, [], ◌∷◌}
use Rattle.std.proofs.Common.{length, get_or, slice_get, Option, None, Some, Result, Ok, Err, if◌then◌else◌, refl, ap}
use Rattle.std.specs.declared.alloc.AllocError.{AllocError}
use Rattle.std.specs.Prelude.{All}
use Rattle.std.specs.BTreeMap.{is_at}
use Rattle.std.specs.Map.{keys_of}
use Rattle.std.proofs.lemmas.Map.{keys-set_value}
use Rattle.std.proofs.lemmas.Map.Views.{All-map-remove_entry}
use Rattle.std.specs.Ordering.{nat_cmp}
use Rattle.std.proofs.lemmas.Map.Entries.{sum_by-set_value}
use Rattle.iox_domain.specs.Container.declared.container.Member.{Member}
use Rattle.iox_domain.specs.DomainValues.declared.connection_failure.ConnectionFailure.{ConnectionFailure}
use Rattle.iox_domain.specs.DomainValues.declared.connection_failure.ZeroCopyCreationError.{ZeroCopyCreationError}
use Rattle.iox_domain.specs.DomainValues.declared.degradation.DegradationAction.{DegradationAction}
use Rattle.iox_domain.specs.DomainValues.declared.degradation.DegradationInfo.{DegradationInfo}
use Rattle.iox_domain.specs.DomainValues.declared.port_error.ReceiveError.{ReceiveError}
use Rattle.iox_domain.specs.DomainPorts.Ports.{connection_to, ended_at, detached_at, unread_at}
use Rattle.iox_domain.specs.DomainPorts.Ties.{has_tie}
use Rattle.iox_domain.specs.DomainPorts.Ties.{tie_put}
use Rattle.iox_domain.specs.DomainPorts.declared.publisher_port.PublisherPort.{PublisherPort}
use Rattle.iox_domain.specs.DomainPorts.Following.{PartsFor, PartsBorrowed, PartsOver, PartsIf, Parts, ConnectsBy, Connects, FollowsFreed}
use Rattle.iox_domain.specs.DomainPorts.Following.{FollowsKey, FollowsAt, freed_if, FollowsNoneAt, is_of, is_unborrowed}
use Rattle.iox_domain.specs.DomainPorts.Living.{living_publishers}
use Rattle.iox_domain.specs.DomainPorts.Publishers.{removed, ended_if_left, is_over_in, settled, port_of, with_port, changed}
use Rattle.iox_domain.specs.DomainPorts.Publishers.{changed_at_port, released, stands_in, AttachesAtPort}
use Rattle.iox_domain.specs.DomainPorts.Reading.{taken_at, given_back_at}
use Rattle.iox_domain.specs.DomainPorts.Receiving.{is_idle_at, dropped_port, dropped_ports, swept, given_ports, Receives, left_at, left_all}
use Rattle.iox_domain.specs.DomainPorts.Subscribing.{attached_at, is_idle, without_key, ended_key, ended_ports, taken_ports}
use Rattle.iox_domain.specs.DomainPorts.SubscriberUpdating.{FollowsOne, FollowsFrom, is_listed, FollowsNoneIf, FollowsNones, UpdatesIf}
use Rattle.iox_domain.specs.DomainPorts.SubscriberUpdating.{Updates, HasSamples, ReceivesAfter, ReceivesNext}
use Rattle.iox_domain.specs.DomainPorts.declared.attached.Attached.{Attached}
use Rattle.iox_domain.specs.DomainPorts.declared.attached.Taken.{Taken}
use Rattle.iox_domain.specs.DomainPorts.declared.publisher_entry.PublisherEntry.{PublisherEntry}
use Rattle.iox_domain.specs.DomainPorts.declared.subscriber_port.SubscriberPort.{SubscriberPort}
use Rattle.iox_domain.proofs.Lives.{life_of, joins_life, ended_life}
use Rattle.iox_domain.proofs.Outliving.{counts, count_of_life, settled_lives}

-- what lives of a subscriber is told by this: whether it stands, whose it is, and how many samples are held
pub record Holding : Type 0 where
  pub stands : Bool
  pub number : ℕ
  pub held : ℕ

abbrev pub holding_of : SubscriberPort → Holding
holding_of port = record { stands = port.stands; number = port.owner.number; held = port.held }

-- as much lives of the publishers of each owner, and none has another number
pub record KeepsPorts {T U : Type 0} (ports new : List (ℕ × PublisherPort T U)) : Type 0 where
  pub lives : (owner : Option ℕ) → living_publishers owner new ≡ living_publishers owner ports
  pub numbers : (next : ℕ) → All (λ number. number < next) (keys_of ports) → All (λ number. number < next) (keys_of new)

-- as much lives of a subscriber and of the publishers
abbrev pub Keeps : {T U : Type 0} → SubscriberPort → List (ℕ × PublisherPort T U) → SubscriberPort → List (ℕ × PublisherPort T U) → Type 0
Keeps port ports new new_ports = (holding_of new ≡ holding_of port) × KeepsPorts ports new_ports

kept : {T U : Type 0} (ports new : List (ℕ × PublisherPort T U)) → new ≡ ports → KeepsPorts ports new
kept ports new is = record {
  lives = λ owner. ap (living_publishers owner) is;
  numbers
      = λ next all. subst (λ now. All (λ number. number < next) (keys_of now)) (sym is) all;
}

onto : {T U : Type 0} (ports between new : List (ℕ × PublisherPort T U)) → KeepsPorts ports between → KeepsPorts between new
    → KeepsPorts ports new
onto ports between new first second
    = record { lives = λ owner. second.lives owner ∙ first.lives owner; numbers = λ next all. second.numbers next (first.numbers next all) }

-- where a publisher that is over is gone none has another number
pub gone_numbers : {T U : Type 0} (over : Bool) (number : ℕ) (ports : List (ℕ × PublisherPort T U)) (next : ℕ)
    → All (λ number. number < next) (keys_of ports)
    → All (λ number. number < next) (keys_of (if over then removed number ports else ports))
gone_numbers {T} {U} true number ports next all
    = All-map-remove_entry (is_at (nat_cmp number)) (λ (entry : ℕ × PublisherPort T U). entry.0) (λ number. number < next) ports all
gone_numbers false number ports next all = all

pub settled_keeps : {T U : Type 0} (number : ℕ) (ports : List (ℕ × PublisherPort T U)) → KeepsPorts ports (settled number ports)
settled_keeps number ports = record
    { lives = λ owner. settled_lives owner number ports; numbers = gone_numbers (is_over_in number ports) number ports }

-- another publisher under a number that is there
pub put_numbers : {T U : Type 0} (number : ℕ) (ports : List (ℕ × PublisherPort T U)) (after : PublisherPort T U) (next : ℕ)
    → All (λ number. number < next) (keys_of ports)
    → All (λ number. number < next) (keys_of (with_port number ports after))
put_numbers number ports after next all
    = subst (λ keys. All (λ number. number < next) keys) (sym (keys-set_value (is_at (nat_cmp number)) ports after)) all

same : {T U : Type 0} (port new : SubscriberPort) (ports new_ports : List (ℕ × PublisherPort T U)) → new ≡ port → new_ports ≡ ports
    → Keeps port ports new new_ports
same port new ports new_ports is are = (ap holding_of is, kept ports new_ports are)

-- one after the other
onward : {T U : Type 0} (port next new : SubscriberPort) (ports next_ports new_ports : List (ℕ × PublisherPort T U))
    → Keeps port ports next next_ports → Keeps next next_ports new new_ports
    → Keeps port ports new new_ports
onward port next new ports next_ports new_ports first second = (second.0 ∙ first.0, onto ports next_ports new_ports first.1 second.1)

-- another publisher of which as much lives
with_port_keeps : {T U : Type 0} (number : ℕ) (ports : List (ℕ × PublisherPort T U)) (port after : PublisherPort T U)
    → port_of number ports ≡ Some port → life_of after ≡ life_of port
    → KeepsPorts ports (with_port number ports after)
with_port_keeps number ports port after there alike = record {
  lives = λ owner. omega (
    arith,
    sum_by-set_value (λ one. counts owner one) (is_at (nat_cmp number)) ports port after there,
    count_of_life owner port after
        alike,
  );
  numbers = put_numbers number ports after;
}

changed_keeps : {T U : Type 0} (number : ℕ) (step : PublisherPort T U → PublisherPort T U) (ports : List (ℕ × PublisherPort T U))
    → ((port : PublisherPort T U) → life_of (step port) ≡ life_of port)
    → KeepsPorts ports (changed number step ports)
changed_keeps {T} {U} number step ports alike = at (port_of number ports) refl
  where
    at : (found : Option (PublisherPort T U)) → port_of number ports ≡ found → KeepsPorts ports (changed_at_port number step found ports)
    at None is = kept ports ports refl
    at (Some port) is = with_port_keeps number ports port (step port) is (alike port)

if_left_life : {T U : Type 0} (stands : Bool) (index : ℕ) (port : PublisherPort T U)
    → life_of (if stands then port else ended_at index port) ≡ life_of port
if_left_life true index port = refl
if_left_life false index port = ended_life index port

ended_keeps : {T U : Type 0} (attached : Option Attached) (ports : List (ℕ × PublisherPort T U))
    → KeepsPorts ports (ended_ports attached ports)
ended_keeps None ports = kept ports ports refl
ended_keeps (Some attached) ports =
    let changed_ports = changed attached.publisher (ended_if_left attached.index) ports in
    onto ports changed_ports (settled attached.publisher changed_ports)
    (changed_keeps attached.publisher (ended_if_left attached.index) ports (λ port. if_left_life port.stands attached.index port))
    (settled_keeps attached.publisher changed_ports)

taken_keeps : {T U : Type 0} (attached : Option Attached) (ports : List (ℕ × PublisherPort T U))
    → KeepsPorts ports (taken_ports attached ports)
taken_keeps None ports = kept ports ports refl
taken_keeps (Some attached) ports = changed_keeps attached.publisher (taken_at attached.index) ports (λ port. refl)

attaches_keeps : {T U : Type 0} (number subscriber limit : ℕ) (found : Option (PublisherPort T U)) (old : List (ℕ × PublisherPort T U))
    (answer : Option (Result ℕ AllocError))
    (new : List (ℕ × PublisherPort T U)) → port_of number old ≡ found → AttachesAtPort number subscriber limit found old answer new
    → KeepsPorts old new
attaches_keeps number subscriber limit None old answer new is attaches = kept old new attaches.1
attaches_keeps number subscriber limit (Some port) old None new is attaches = absurd attaches
attaches_keeps number subscriber limit (Some port) old (Some (Err error)) new is attaches = kept old new attaches.1
attaches_keeps number subscriber limit (Some port) old (Some (Ok index)) new is (after, (joined, joins, is_after), made) =
    onto old (with_port number old after) new
    (with_port_keeps number old port after is
    (ap life_of is_after ∙ joins_life subscriber _ (connection_to subscriber port) port (Ok index) joined joins))
    (kept (with_port number old after) new made)

connects_by_holds : (place number : ℕ) (answer : Option (Result ℕ AllocError)) (port new : SubscriberPort)
    → ConnectsBy place number answer port new → holding_of new ≡ holding_of port
connects_by_holds place number None port new connects = ap holding_of connects
connects_by_holds place number (Some (Err error)) port new connects = absurd connects
connects_by_holds place number (Some (Ok index)) port new (key, free, is) = ap holding_of is

connects_keeps : {T U : Type 0} (place number : ℕ) (port : SubscriberPort) (ports : List (ℕ × PublisherPort T U))
    (answer : Result (Unit {0}) ZeroCopyCreationError) (new : SubscriberPort)
    (new_ports : List (ℕ × PublisherPort T U)) → Connects place number port ports answer new new_ports → Keeps port ports new new_ports
connects_keeps place number port ports (Err failure) new new_ports connects = same port new ports new_ports connects.2 connects.3
connects_keeps place number port ports (Ok done) new new_ports (answer, attaches, by) = (
  connects_by_holds place number answer port new by,
  attaches_keeps number port.number port.buffer_size (port_of number ports) ports
      answer new_ports refl attaches,
)

without_key_holds : (key : ℕ) (attached : Option Attached) (port : SubscriberPort)
    → holding_of (without_key key attached port) ≡ holding_of port
without_key_holds key None port = refl
without_key_holds key (Some attached) port = refl

ended_key_holds : (key : ℕ) (port : SubscriberPort) → holding_of (ended_key key port) ≡ holding_of port
ended_key_holds key port = without_key_holds key (attached_at key port) port

-- a connection ends
ended_all_keeps : {T U : Type 0} (key : ℕ) (port new : SubscriberPort) (ports new_ports : List (ℕ × PublisherPort T U))
    → new ≡ ended_key key port → new_ports ≡ ended_ports (attached_at key port) ports
    → Keeps port ports new new_ports
ended_all_keeps key port new ports new_ports is are = (
  ap holding_of is ∙ ended_key_holds key port,
  onto ports (ended_ports (attached_at key port) ports) new_ports
      (ended_keeps (attached_at key port) ports) (kept (ended_ports (attached_at key port) ports) new_ports are),
)

-- an expired one ends, and another may expire
replaced_keeps : {T U : Type 0} (out : ℕ) (port new : SubscriberPort) (ports new_ports : List (ℕ × PublisherPort T U))
    → holding_of new ≡ holding_of (ended_key out port)
    → new_ports ≡ ended_ports (attached_at out port) ports → Keeps port ports new new_ports
replaced_keeps out port new ports new_ports is are = (
  is ∙ ended_key_holds out port,
  onto ports (ended_ports (attached_at out port) ports) new_ports
      (ended_keeps (attached_at out port) ports) (kept (ended_ports (attached_at out port) ports) new_ports are),
)

parts_for_keeps : {T U : Type 0} (found : Option ℕ) (place key : ℕ) (port : SubscriberPort) (ports : List (ℕ × PublisherPort T U))
    (is_free : Bool) (new : SubscriberPort)
    (new_ports : List (ℕ × PublisherPort T U)) → PartsFor found place key port ports is_free new new_ports → Keeps port ports new new_ports
parts_for_keeps None place key port ports is_free new new_ports parts = same port new ports new_ports parts.1 parts.2
parts_for_keeps (Some out) place key port ports is_free new new_ports parts
    = replaced_keeps out port new ports new_ports (ap holding_of parts.1) parts.2

parts_borrowed_keeps : {T U : Type 0} (unborrowed : Bool) (key : ℕ) (port : SubscriberPort) (ports : List (ℕ × PublisherPort T U))
    (is_free : Bool) (new : SubscriberPort)
    (new_ports : List (ℕ × PublisherPort T U)) → PartsBorrowed unborrowed key port ports is_free new new_ports
    → Keeps port ports new new_ports
parts_borrowed_keeps true key port ports is_free new new_ports parts = ended_all_keeps key port new ports new_ports parts.1 parts.2
parts_borrowed_keeps false key port ports is_free new new_ports (place, met, parts)
    = parts_for_keeps (slice_get port.expired.items place) place key port ports is_free new new_ports parts

parts_over_keeps : {T U : Type 0} (found : Option ℕ) (place key : ℕ) (port : SubscriberPort) (ports : List (ℕ × PublisherPort T U))
    (is_free : Bool) (new : SubscriberPort)
    (new_ports : List (ℕ × PublisherPort T U)) → PartsOver found place key port ports is_free new new_ports → Keeps port ports new new_ports
parts_over_keeps None place key port ports is_free new new_ports parts
    = parts_borrowed_keeps (is_unborrowed port ports key) key port ports is_free new new_ports parts
parts_over_keeps (Some out) place key port ports is_free new new_ports parts
    = replaced_keeps out port new ports new_ports (ap holding_of parts.1) parts.2

parts_if_keeps : {T U : Type 0} (idle is_full : Bool) (key : ℕ) (port : SubscriberPort) (ports : List (ℕ × PublisherPort T U))
    (is_free : Bool) (new : SubscriberPort)
    (new_ports : List (ℕ × PublisherPort T U)) → PartsIf idle is_full key port ports is_free new new_ports → Keeps port ports new new_ports
parts_if_keeps true is_full key port ports is_free new new_ports parts = ended_all_keeps key port new ports new_ports parts.1 parts.2
parts_if_keeps false false key port ports is_free new new_ports parts = (ap holding_of parts.1, kept ports new_ports parts.2)
parts_if_keeps false true key port ports is_free new new_ports (place, met, parts)
    = parts_over_keeps (slice_get port.expired.items place) place key port ports is_free new new_ports parts

parts_keeps : {T U : Type 0} (key : ℕ) (port : SubscriberPort) (ports : List (ℕ × PublisherPort T U)) (is_free : Bool)
    (new : SubscriberPort)
    (new_ports : List (ℕ × PublisherPort T U)) → Parts key port ports is_free new new_ports → Keeps port ports new new_ports
parts_keeps key port ports is_free new new_ports parts
    = parts_if_keeps (is_idle port ports key) _ key port ports is_free new new_ports parts

freed_keeps : {T U : Type 0} (is_free : Bool) (place number : ℕ) (port : SubscriberPort) (ports : List (ℕ × PublisherPort T U))
    (answer : Result (Unit {0}) ZeroCopyCreationError)
    (new : SubscriberPort) (new_ports : List (ℕ × PublisherPort T U))
    → FollowsFreed is_free place number port ports answer new new_ports → Keeps port ports new new_ports
freed_keeps false place number port ports answer new new_ports follows = (ap holding_of follows.1, kept ports new_ports follows.2)
freed_keeps true place number port ports answer new new_ports follows
    = connects_keeps place number (record port { places = tie_put place None port.places }) ports answer new new_ports follows

key_keeps : {T U : Type 0} (same_one : Bool) (key place number : ℕ) (port : SubscriberPort) (ports : List (ℕ × PublisherPort T U))
    (answer : Result (Unit {0}) ZeroCopyCreationError)
    (new : SubscriberPort) (new_ports : List (ℕ × PublisherPort T U))
    → FollowsKey same_one key place number port ports answer new new_ports → Keeps port ports new new_ports
key_keeps true key place number port ports answer new new_ports follows = same port new ports new_ports follows.1 follows.2
key_keeps false key place number port ports answer new new_ports (is_free, between, between_ports, parts, freed) =
    onward port between new ports between_ports new_ports (parts_keeps key port ports is_free between between_ports parts)
    (freed_keeps is_free place number between between_ports answer new new_ports freed)

at_keeps : {T U : Type 0} (found : Option ℕ) (place number : ℕ) (port : SubscriberPort) (ports : List (ℕ × PublisherPort T U))
    (answer : Result (Unit {0}) ZeroCopyCreationError)
    (new : SubscriberPort) (new_ports : List (ℕ × PublisherPort T U)) → FollowsAt found place number port ports answer new new_ports
    → Keeps port ports new new_ports
at_keeps None place number port ports answer new new_ports follows = connects_keeps place number port ports answer new new_ports follows
at_keeps (Some key) place number port ports answer new new_ports follows
    = key_keeps (is_of number (attached_at key port)) key place number port ports answer new new_ports follows

one_keeps : {T U : Type 0} (place : ℕ) (listed : Option (Member PublisherEntry)) (port : SubscriberPort)
    (ports : List (ℕ × PublisherPort T U)) (outcome : Result (Unit {0}) ZeroCopyCreationError)
    (new : SubscriberPort) (new_ports : List (ℕ × PublisherPort T U)) → FollowsOne place listed port ports outcome new new_ports
    → Keeps port ports new new_ports
one_keeps place None port ports outcome new new_ports follows = same port new ports new_ports follows.1 follows.2
one_keeps place (Some member) port ports outcome new new_ports follows
    = at_keeps (get_or port.places.items place None) place member.value.publisher port ports outcome new new_ports follows

from_keeps : {T U : Type 0} (may : DegradationInfo → DegradationAction → Type 0) (place : ℕ)
    (listed : List (Option (Member PublisherEntry))) (found : Option ConnectionFailure) (port : SubscriberPort)
    (ports : List (ℕ × PublisherPort T U)) (after : Option ConnectionFailure) (new : SubscriberPort)
    (new_ports : List (ℕ × PublisherPort T U))
    → FollowsFrom may place listed found port ports after new new_ports → Keeps port ports new new_ports
from_keeps may place [] found port ports after new new_ports follows = same port new ports new_ports follows.1 follows.2
from_keeps may place (first ∷ rest) found port ports after new new_ports (outcome, next, next_ports, then_found, one, asks, further) =
    onward port next new ports next_ports new_ports (one_keeps place first port ports outcome next next_ports one)
    (from_keeps may (place + 1) rest then_found next next_ports after new new_ports further)

freed_holds : (is_free : Bool) (place : ℕ) (port : SubscriberPort) → holding_of (freed_if is_free place port) ≡ holding_of port
freed_holds true place port = refl
freed_holds false place port = refl

none_at_keeps : {T U : Type 0} (found : Option ℕ) (place : ℕ) (port : SubscriberPort) (ports : List (ℕ × PublisherPort T U))
    (new : SubscriberPort) (new_ports : List (ℕ × PublisherPort T U))
    → FollowsNoneAt found place port ports new new_ports → Keeps port ports new new_ports
none_at_keeps None place port ports new new_ports follows = same port new ports new_ports follows.0 follows.1
none_at_keeps (Some key) place port ports new new_ports (is_free, between, parts, is) =
    let parted = parts_keeps key port ports is_free between new_ports parts in
    (ap holding_of is ∙ freed_holds is_free place between ∙ parted.0, parted.1)

none_if_keeps : {T U : Type 0} (lists : Bool) (place : ℕ) (port : SubscriberPort) (ports : List (ℕ × PublisherPort T U))
    (new : SubscriberPort) (new_ports : List (ℕ × PublisherPort T U))
    → FollowsNoneIf lists place port ports new new_ports → Keeps port ports new new_ports
none_if_keeps true place port ports new new_ports follows = same port new ports new_ports follows.0 follows.1
none_if_keeps false place port ports new new_ports follows
    = none_at_keeps (get_or port.places.items place None) place port ports new new_ports follows

nones_keeps : {T U : Type 0} (listed : List (Option (Member PublisherEntry))) (place count : ℕ) (port : SubscriberPort)
    (ports : List (ℕ × PublisherPort T U)) (new : SubscriberPort)
    (new_ports : List (ℕ × PublisherPort T U)) → FollowsNones listed place count port ports new new_ports → Keeps port ports new new_ports
nones_keeps listed place zero port ports new new_ports follows = same port new ports new_ports follows.0 follows.1
nones_keeps listed place (suc count) port ports new new_ports (next, next_ports, one, further) =
    onward port next new ports next_ports new_ports (none_if_keeps (is_listed listed place) place port ports next next_ports one)
    (nones_keeps listed (place + 1) count next next_ports new new_ports further)

updates_if_keeps : {T U : Type 0} (up_to_date : Bool) (may : DegradationInfo → DegradationAction → Type 0)
    (listed : List (Option (Member PublisherEntry))) (changes : ℕ) (port : SubscriberPort)
    (ports : List (ℕ × PublisherPort T U)) (answer : Result (Unit {0}) ConnectionFailure) (new : SubscriberPort)
    (new_ports : List (ℕ × PublisherPort T U))
    → UpdatesIf up_to_date may listed changes port ports answer new new_ports → Keeps port ports new new_ports
updates_if_keeps true may listed changes port ports answer new new_ports updates = same port new ports new_ports updates.1 updates.2
updates_if_keeps false may listed changes port ports answer new new_ports (found, between, between_ports, follows, nones, is) =
    onward port between new ports between_ports new_ports
    (from_keeps may 0 listed None (record port { seen = changes; again = false }) ports found between between_ports follows)
    (nones_keeps listed 0 (length between.places.items) between between_ports new new_ports nones)

-- an update of a subscriber leaves all that lives
pub updates_keeps : {T U : Type 0} (may : DegradationInfo → DegradationAction → Type 0) (listed : List (Option (Member PublisherEntry)))
    (changes : ℕ) (port : SubscriberPort)
    (ports : List (ℕ × PublisherPort T U)) (answer : Result (Unit {0}) ConnectionFailure) (new : SubscriberPort)
    (new_ports : List (ℕ × PublisherPort T U))
    → Updates may listed changes port ports answer new new_ports → Keeps port ports new new_ports
updates_keeps may listed changes port ports answer new new_ports updates =
    updates_if_keeps ((port.seen == changes) && not port.again) may listed changes port ports answer new new_ports updates

dropped_keeps : {T U : Type 0} (place : ℕ) (found : Option ℕ) (port : SubscriberPort) (ports : List (ℕ × PublisherPort T U))
    → Keeps port ports (dropped_port place found port) (dropped_ports found port ports)
dropped_keeps place None port ports = (refl, kept ports ports refl)
dropped_keeps place (Some key) port ports = (ended_key_holds key port, ended_keeps (attached_at key port) ports)

-- one of them is gone over, and then the rest
swept_on : {T U : Type 0} (idle : Bool) (place count : ℕ) (port : SubscriberPort) (ports : List (ℕ × PublisherPort T U))
    → Keeps port ports (swept place count
    (dropped_port place (slice_get port.expired.items place) port, dropped_ports (slice_get port.expired.items place) port ports)).0
    (swept place count (
      dropped_port place (slice_get port.expired.items place) port,
      dropped_ports (slice_get port.expired.items place)
          port ports,
    )).1
    → Keeps port ports (swept (place + 1) count (port, ports)).0 (swept (place + 1) count (port, ports)).1
    → Keeps port ports
    (if idle then swept place count
    (dropped_port place (slice_get port.expired.items place) port, dropped_ports (slice_get port.expired.items place) port ports) else
    swept (place + 1) count (port, ports)).0
    (if idle then swept place count
    (dropped_port place (slice_get port.expired.items place) port, dropped_ports (slice_get port.expired.items place) port ports) else
    swept (place + 1) count (port, ports)).1
swept_on true place count port ports one other = one
swept_on false place count port ports one other = other

swept_keeps : {T U : Type 0} (place count : ℕ) (port : SubscriberPort) (ports : List (ℕ × PublisherPort T U))
    → Keeps port ports (swept place count (port, ports)).0 (swept place count (port, ports)).1
swept_keeps place zero port ports = (refl, kept ports ports refl)
swept_keeps place (suc count) port ports =
    let out = dropped_port place (slice_get port.expired.items place) port in
    let left = dropped_ports (slice_get port.expired.items place) port ports in
    swept_on (is_idle_at (slice_get port.expired.items place) port ports) place count port ports
    (onward port out (swept place count (out, left)).0 ports left (swept place count (out, left)).1
    (dropped_keeps place (slice_get port.expired.items place) port ports)
    (swept_keeps place count out left))
    (swept_keeps (place + 1) count port ports)

given_keeps : {T U : Type 0} (giver : Option ℕ) (port : SubscriberPort) (ports : List (ℕ × PublisherPort T U))
    → KeepsPorts ports (given_ports giver port ports)
given_keeps None port ports = kept ports ports refl
given_keeps (Some key) port ports = taken_keeps (attached_at key port) ports

receives_keeps : {T U : Type 0} (port : SubscriberPort) (ports : List (ℕ × PublisherPort T U))
    (answer : Result (Option Taken) ReceiveError) (new : SubscriberPort) (new_ports : List (ℕ × PublisherPort T U))
    → Receives port ports answer new new_ports → Keeps port ports new new_ports
receives_keeps port ports answer new new_ports (taken, (met, is_met, giver, is_giver, told, is, are, there), is_answer) =
    let rest = swept_keeps 0 met port (given_ports giver port ports) in
    let gone = (swept 0 met (port, given_ports giver port ports)).1 in (
      ap holding_of is ∙ rest.0,
      onto ports (given_ports giver port ports) new_ports (given_keeps giver port ports)
          (onto (given_ports giver port ports) gone new_ports rest.1 (kept gone new_ports are)),
    )

receives_after_keeps : {T U : Type 0} (updated : Result (Unit {0}) ConnectionFailure) (port : SubscriberPort)
    (ports : List (ℕ × PublisherPort T U)) (answer : Result (Option Taken) ReceiveError)
    (new : SubscriberPort) (new_ports : List (ℕ × PublisherPort T U)) → ReceivesAfter updated port ports answer new new_ports
    → Keeps port ports new new_ports
receives_after_keeps (Err failure) port ports answer new new_ports receives = same port new ports new_ports receives.1 receives.2
receives_after_keeps (Ok done) port ports answer new new_ports receives = receives_keeps port ports answer new new_ports receives

-- what is received isn't counted here yet: else all that lives stays
pub receives_next_keeps : {T U : Type 0} (may : DegradationInfo → DegradationAction → Type 0)
    (listed : List (Option (Member PublisherEntry))) (changes : ℕ) (port : SubscriberPort)
    (ports : List (ℕ × PublisherPort T U)) (answer : Result (Option Taken) ReceiveError) (new : SubscriberPort)
    (new_ports : List (ℕ × PublisherPort T U))
    → ReceivesNext may listed changes port ports answer new new_ports → Keeps port ports new new_ports
receives_next_keeps may listed changes port ports answer new new_ports (updated, between, between_ports, updates, receives) =
    onward port between new ports between_ports new_ports
    (updates_keeps may listed changes port ports updated between between_ports updates)
    (receives_after_keeps updated between between_ports answer new new_ports receives)

pub has_samples_keeps : {T U : Type 0} (may : DegradationInfo → DegradationAction → Type 0)
    (listed : List (Option (Member PublisherEntry))) (changes : ℕ) (port : SubscriberPort)
    (ports : List (ℕ × PublisherPort T U)) (answer : Result Bool ConnectionFailure) (new : SubscriberPort)
    (new_ports : List (ℕ × PublisherPort T U))
    → HasSamples may listed changes port ports answer new new_ports → Keeps port ports new new_ports
has_samples_keeps may listed changes port ports answer new new_ports (updated, updates, after)
    = updates_keeps may listed changes port ports updated new new_ports updates

detached_life : {T U : Type 0} (tied : Bool) (index : ℕ) (port : PublisherPort T U)
    → life_of (if tied then unread_at index port else ended_at index port) ≡ life_of port
detached_life true index port = refl
detached_life false index port = ended_life index port

left_at_keeps : {T U : Type 0} (attached : Option Attached) (ports : List (ℕ × PublisherPort T U))
    → KeepsPorts ports (left_at attached ports)
left_at_keeps None ports = kept ports ports refl
left_at_keeps {T} {U} (Some attached) ports = at (stands_in attached.publisher ports)
  where
    at : (stands : Bool) → KeepsPorts ports
        (if stands then changed attached.publisher (detached_at attached.index) ports else ended_ports (Some attached) ports)
    at true = changed_keeps attached.publisher (detached_at attached.index) ports
        (λ port. detached_life (has_tie attached.index port.ties) attached.index port)
    at false = ended_keeps (Some attached) ports

-- a subscriber that leaves leaves what lives of the publishers
pub left_all_keeps : {T U : Type 0} (all : List (Option Attached)) (ports : List (ℕ × PublisherPort T U))
    → KeepsPorts ports (left_all all ports)
left_all_keeps [] ports = kept ports ports refl
left_all_keeps (attached ∷ rest) ports
    = onto ports (left_at attached ports) (left_all rest (left_at attached ports)) (left_at_keeps attached ports)
    (left_all_keeps rest (left_at attached ports))

given_back_life : {T U : Type 0} (index : ℕ) (place : Option ℕ) (port : PublisherPort T U)
    → life_of (given_back_at index place port) ≡ life_of port
given_back_life index None port = refl
given_back_life index (Some at) port = refl

-- a message that is given back doesn't count to its publisher
pub released_keeps : {T U : Type 0} (number index : ℕ) (place : Option ℕ) (ports : List (ℕ × PublisherPort T U))
    → KeepsPorts ports (released number index place ports)
released_keeps number index None ports = kept ports ports refl
released_keeps number index (Some at) ports =
    let changed_ports = changed number (given_back_at index (Some at)) ports in
    onto ports changed_ports (settled number changed_ports)
    (changed_keeps number (given_back_at index (Some at)) ports (given_back_life index (Some at))) (settled_keeps number changed_ports)
