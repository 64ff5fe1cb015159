-- Each step of a port leaves the publishers of a service such that each keeps to one where its room doesn't grow.
use Rattle.std.proofs.Common.{arith, ◌≡◌, ◌<◌, ◌∷◌, [], ℕ, Bool, true, false, List, min, Option, None, Some, Result, Ok, Err}
use Rattle.std.proofs.Common.{refl, if◌then◌else◌}
use Rattle.std.specs.List.{All}
use Rattle.std.specs.declared.alloc.AllocError.{AllocError}
use Rattle.iox_domain.proofs.Numbered.{FoundEntry, all_gone, all_set, at_number, found_of_all}
use Rattle.iox_domain.specs.DomainPorts.Ports.{detached_at}
use Rattle.iox_domain.specs.DomainPorts.Publishers.{AttachesAtPort, AttachesTo, changed, changed_at_port, ended_if_left, is_over_in}
use Rattle.iox_domain.specs.DomainPorts.Publishers.{port_of, released, removed, settled, stands_in, with_port}
use Rattle.iox_domain.specs.DomainPorts.Reading.{given_back_at, taken_at}
use Rattle.iox_domain.specs.DomainPorts.Receiving.{left_all, left_at}
use Rattle.iox_domain.specs.DomainPorts.Subscribing.{ended_ports, taken_ports}
use Rattle.iox_domain.specs.DomainPorts.declared.attached.Attached.{Attached}
use Rattle.iox_domain.specs.DomainPorts.declared.publisher_port.PublisherPort.{PublisherPort}
use Rattle.iox_lanes_sound.proofs.Kept.{Keeps, keeps_attaches, keeps_detached, keeps_ended_if, keeps_given_back, keeps_taken}
use Rattle.iox_lanes_sound.specs.Keeping.{IsKeptToOne}

-- each publisher of a service keeps so after a step if each did before
pub record ListKeeps {T U : Type 0} (old new : List (ℕ × PublisherPort T U)) : Type 0 where
  pub goes : All IsKeptToOne old → All IsKeptToOne new

module _ {T U : Type 0} where
  pub kept_stays : (ports : List (ℕ × PublisherPort T U)) → ListKeeps ports ports
  kept_stays ports = record { goes = λ all. all }

  pub kept_same : (ports new : List (ℕ × PublisherPort T U)) → new ≡ ports → ListKeeps ports new
  kept_same ports new is = rw is (kept_stays ports)

  pub kept_on : (old between new : List (ℕ × PublisherPort T U)) → ListKeeps old between → ListKeeps between new → ListKeeps old new
  kept_on old between new one two = record { goes = λ all. two.goes (one.goes all) }

  -- the publisher of a number took a step
  pub kept_with : (number : ℕ) (ports : List (ℕ × PublisherPort T U)) (port after : PublisherPort T U)
      → port_of number ports ≡ Some port → Keeps port after → ListKeeps ports (with_port number ports after)
  kept_with number ports port after there keeps = record {
    goes = λ all.
        let found : FoundEntry IsKeptToOne (at_number number) port
        = found_of_all IsKeptToOne (at_number number) ports port all there in
        all_set IsKeptToOne (at_number number) ports after (λ one is. keeps.goes found.holds) all;
  }

  kept_found : (number : ℕ) (step : PublisherPort T U → PublisherPort T U) (found : Option (PublisherPort T U))
      (ports : List (ℕ × PublisherPort T U)) → ((port : PublisherPort T U) → Keeps port (step port)) → port_of number ports ≡ found
      → ListKeeps ports (changed_at_port number step found ports)
  kept_found number step None ports keeps there = kept_stays ports
  kept_found number step (Some port) ports keeps there = kept_with number ports port (step port) there (keeps port)

  pub kept_changed : (number : ℕ) (step : PublisherPort T U → PublisherPort T U) (ports : List (ℕ × PublisherPort T U))
      → ((port : PublisherPort T U) → Keeps port (step port)) → ListKeeps ports (changed number step ports)
  kept_changed number step ports keeps = kept_found number step (port_of number ports) ports keeps refl

  kept_if : (test : Bool) (ports one other : List (ℕ × PublisherPort T U)) → ListKeeps ports one → ListKeeps ports other
      → ListKeeps ports (if test then one else other)
  kept_if true ports one other first second = first
  kept_if false ports one other first second = second

  -- a publisher that is over is gone
  pub kept_settled : (number : ℕ) (ports : List (ℕ × PublisherPort T U)) → ListKeeps ports (settled number ports)
  kept_settled number ports =
      kept_if (is_over_in number ports) ports (removed number ports) ports
      (record { goes = λ all. all_gone IsKeptToOne (at_number number) ports all }) (kept_stays ports)

  pub kept_settled_after : (number : ℕ) (step : PublisherPort T U → PublisherPort T U) (ports : List (ℕ × PublisherPort T U))
      → ((port : PublisherPort T U) → Keeps port (step port)) → ListKeeps ports (settled number (changed number step ports))
  kept_settled_after number step ports keeps =
      kept_on ports (changed number step ports) (settled number (changed number step ports))
      (kept_changed number step ports keeps) (kept_settled number (changed number step ports))

  -- a subscriber attaches for whom one may wait
  kept_attaches_at : (number subscriber limit : ℕ) (found : Option (PublisherPort T U)) (old new : List (ℕ × PublisherPort T U))
      (answer : Option (Result ℕ AllocError)) → 0 < limit → port_of number old ≡ found
      → AttachesAtPort number subscriber limit found old answer new → ListKeeps old new
  kept_attaches_at number subscriber limit None old new answer some there attaches = kept_same old new attaches.1
  kept_attaches_at number subscriber limit (Some port) old new None some there attaches = absurd attaches
  kept_attaches_at number subscriber limit (Some port) old new (Some (Err error)) some there attaches = kept_same old new attaches.1
  kept_attaches_at number subscriber limit (Some port) old new (Some (Ok index)) some there attaches =
      let after : PublisherPort T U = attaches.0 in
      rw (attaches.2) (kept_with number old port after there
      (keeps_attaches subscriber (min limit port.sender.uses.most_waiting) index port after (λ kept. omega (arith, some, kept.room))
      attaches.1))

  pub kept_attaches : (number subscriber limit : ℕ) (old new : List (ℕ × PublisherPort T U)) (answer : Option (Result ℕ AllocError))
      → 0 < limit → AttachesTo number subscriber limit old answer new → ListKeeps old new
  kept_attaches number subscriber limit old new answer some attaches =
      kept_attaches_at number subscriber limit (port_of number old) old new answer some refl attaches

  -- a connection ends, or gives
  pub kept_ended : (attached : Option Attached) (ports : List (ℕ × PublisherPort T U)) → ListKeeps ports (ended_ports attached ports)
  kept_ended None ports = kept_stays ports
  kept_ended (Some attached) ports =
      kept_settled_after attached.publisher (ended_if_left attached.index) ports (keeps_ended_if attached.index)

  pub kept_taken : (attached : Option Attached) (ports : List (ℕ × PublisherPort T U)) → ListKeeps ports (taken_ports attached ports)
  kept_taken None ports = kept_stays ports
  kept_taken (Some attached) ports = kept_changed attached.publisher (taken_at attached.index) ports (keeps_taken attached.index)

  -- a subscriber leaves its connections
  kept_left : (attached : Option Attached) (ports : List (ℕ × PublisherPort T U)) → ListKeeps ports (left_at attached ports)
  kept_left None ports = kept_stays ports
  kept_left (Some attached) ports =
      kept_if (stands_in attached.publisher ports) ports _ _
      (kept_changed attached.publisher (detached_at attached.index) ports (keeps_detached attached.index))
      (kept_ended (Some attached) ports)

  pub kept_left_all : (all : List (Option Attached)) (ports : List (ℕ × PublisherPort T U)) → ListKeeps ports (left_all all ports)
  kept_left_all [] ports = kept_stays ports
  kept_left_all (one ∷ rest) ports = kept_on ports (left_at one ports) _ (kept_left one ports) (kept_left_all rest (left_at one ports))

  -- a message is given back
  pub kept_released : (number index at : ℕ) (ports : List (ℕ × PublisherPort T U)) → ListKeeps ports (released number index (Some at) ports)
  kept_released number index at ports =
      kept_settled_after number (given_back_at index (Some at)) ports (keeps_given_back index (Some at))
