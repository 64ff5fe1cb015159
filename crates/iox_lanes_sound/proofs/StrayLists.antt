-- The publishers of a service stay without stray ties through each step of a port.
use Rattle.std.proofs.Common.{◌≡◌, ℕ, Bool, true, false, List, Option, None, Some, Result, Ok, Err, refl, if◌then◌else◌}
use Rattle.std.specs.List.{All}
use Rattle.std.specs.declared.alloc.AllocError.{AllocError}
use Rattle.iox_domain.proofs.Numbered.{FoundEntry, all_gone, all_set, at_number, found_of_all}
use Rattle.iox_domain.proofs.Walks.{Walks, WalksTaking, WalksLeaving}
use Rattle.iox_domain.specs.DomainPorts.Ports.{detached_at}
use Rattle.iox_domain.specs.DomainPorts.Publishers.{AttachesAtPort, changed, changed_at_port, ended_if_left, is_over_in, port_of, released}
use Rattle.iox_domain.specs.DomainPorts.Publishers.{removed, settled, with_port}
use Rattle.iox_domain.specs.DomainPorts.Reading.{given_back_at, taken_at}
use Rattle.iox_domain.specs.DomainPorts.declared.publisher_port.PublisherPort.{PublisherPort}
use Rattle.iox_domain.specs.DomainPorts.declared.subscriber_entry.SubscriberEntry.{SubscriberEntry}
use Rattle.iox_domain.specs.Rolls.{RollState}
use Rattle.iox_lanes_sound.proofs.Unfollowing.{attaches_stays, detached_stays, ended_if_stays, followed, given_back_stays}
use Rattle.iox_lanes_sound.proofs.Untying.{Goes, goes_same}
use Rattle.iox_lanes_sound.specs.Strays.{IsEntryWithoutStrays}

-- each publisher of a service is without strays after a step if each was before
pub record ListGoes {T U : Type 0} (list : RollState SubscriberEntry) (old new : List (ℕ × PublisherPort T U)) : Type 0 where
  pub goes : All (IsEntryWithoutStrays list) old → All (IsEntryWithoutStrays list) new

list_stays : {T U : Type 0} (list : RollState SubscriberEntry) (ports : List (ℕ × PublisherPort T U)) → ListGoes list ports ports
list_stays list ports = record { goes = λ all. all }

pub list_same : {T U : Type 0} (list : RollState SubscriberEntry) (ports new : List (ℕ × PublisherPort T U)) → new ≡ ports
    → ListGoes list ports new
list_same list ports new is = rw is (list_stays list ports)

pub list_on : {T U : Type 0} (list : RollState SubscriberEntry) (old between new : List (ℕ × PublisherPort T U)) → ListGoes list old between
    → ListGoes list between new → ListGoes list old new
list_on list old between new one two = record { goes = λ all. two.goes (one.goes all) }

-- the publisher of a number took a step
pub list_with : {T U : Type 0} (list : RollState SubscriberEntry) (number : ℕ) (ports : List (ℕ × PublisherPort T U))
    (port after : PublisherPort T U) → port_of number ports ≡ Some port → Goes list port after
    → ListGoes list ports (with_port number ports after)
list_with {T} {U} list number ports port after there goes = record {
  goes = λ all.
      let found : FoundEntry (IsEntryWithoutStrays list) (at_number number) port
      = found_of_all (IsEntryWithoutStrays list) (at_number number) ports port all there in
      all_set (IsEntryWithoutStrays list) (at_number number) ports after (λ one is. goes found.holds) all;
}

list_found : {T U : Type 0} (list : RollState SubscriberEntry) (number : ℕ) (step : PublisherPort T U → PublisherPort T U)
    (found : Option (PublisherPort T U)) (ports : List (ℕ × PublisherPort T U))
    → ((port : PublisherPort T U) → followed (step port) ≡ followed port) → port_of number ports ≡ found
    → ListGoes list ports (changed_at_port number step found ports)
list_found list number step None ports same there = list_stays list ports
list_found list number step (Some port) ports same there =
    list_with list number ports port (step port) there (goes_same list port (step port) (same port))

pub list_changed : {T U : Type 0} (list : RollState SubscriberEntry) (number : ℕ) (step : PublisherPort T U → PublisherPort T U)
    (ports : List (ℕ × PublisherPort T U)) → ((port : PublisherPort T U) → followed (step port) ≡ followed port)
    → ListGoes list ports (changed number step ports)
list_changed list number step ports same = list_found list number step (port_of number ports) ports same refl

list_if : {T U : Type 0} (list : RollState SubscriberEntry) (test : Bool) (ports one other : List (ℕ × PublisherPort T U))
    → ListGoes list ports one → ListGoes list ports other → ListGoes list ports (if test then one else other)
list_if list true ports one other first second = first
list_if list false ports one other first second = second

-- a publisher that is over is gone
pub list_settled : {T U : Type 0} (list : RollState SubscriberEntry) (number : ℕ) (ports : List (ℕ × PublisherPort T U))
    → ListGoes list ports (settled number ports)
list_settled list number ports =
    list_if list (is_over_in number ports) ports (removed number ports) ports
    (record { goes = λ all. all_gone (IsEntryWithoutStrays list) (at_number number) ports all }) (list_stays list ports)

pub list_settled_after : {T U : Type 0} (list : RollState SubscriberEntry) (number : ℕ) (step : PublisherPort T U → PublisherPort T U)
    (ports : List (ℕ × PublisherPort T U)) → ((port : PublisherPort T U) → followed (step port) ≡ followed port)
    → ListGoes list ports (settled number (changed number step ports))
list_settled_after list number step ports same =
    list_on list ports (changed number step ports) (settled number (changed number step ports))
    (list_changed list number step ports same) (list_settled list number (changed number step ports))

-- a subscriber attaches
list_attaches : {T U : Type 0} (list : RollState SubscriberEntry) (number subscriber limit : ℕ) (found : Option (PublisherPort T U))
    (old new : List (ℕ × PublisherPort T U)) (answer : Option (Result ℕ AllocError)) → port_of number old ≡ found
    → AttachesAtPort number subscriber limit found old answer new → ListGoes list old new
list_attaches list number subscriber limit None old new answer there attaches = list_same list old new attaches.1
list_attaches list number subscriber limit (Some port) old new None there attaches = absurd attaches
list_attaches list number subscriber limit (Some port) old new (Some (Err error)) there attaches = list_same list old new attaches.1
list_attaches {T} {U} list number subscriber limit (Some port) old new (Some (Ok index)) there attaches =
    let after : PublisherPort T U = attaches.0 in
    rw (attaches.2) (list_with list number old port after there
    (goes_same list port after (attaches_stays subscriber _ index port after attaches.1)))

-- so it is with each step of a subscriber
pub list_walks : {T U : Type 0} (list : RollState SubscriberEntry) (subscriber : ℕ)
    → Walks subscriber (λ (old : List (ℕ × PublisherPort T U)) (new : List (ℕ × PublisherPort T U)). ListGoes list old new)
list_walks list subscriber = record {
  stays = list_stays list;
  on = list_on list;
  attach = λ number limit old new answer attaches. list_attaches list number subscriber limit (port_of number old) old new answer refl
      attaches;
  end = λ attached ports. list_settled_after list attached.publisher (ended_if_left attached.index) ports (ended_if_stays attached.index);
}

pub list_leaving : {T U : Type 0} (list : RollState SubscriberEntry)
    → WalksLeaving (λ (old : List (ℕ × PublisherPort T U)) (new : List (ℕ × PublisherPort T U)). ListGoes list old new)
list_leaving list attached ports
    = list_changed list attached.publisher (detached_at attached.index) ports (detached_stays attached.index)

pub list_takes : {T U : Type 0} (list : RollState SubscriberEntry)
    → WalksTaking (λ (old : List (ℕ × PublisherPort T U)) (new : List (ℕ × PublisherPort T U)). ListGoes list old new)
list_takes list attached ports below = list_changed list attached.publisher (taken_at attached.index) ports (λ port. refl)

-- a message is given back
pub list_released : {T U : Type 0} (list : RollState SubscriberEntry) (number index at : ℕ) (ports : List (ℕ × PublisherPort T U))
    → ListGoes list ports (released number index (Some at) ports)
list_released list number index at ports =
    list_settled_after list number (given_back_at index (Some at)) ports (given_back_stays index (Some at))
