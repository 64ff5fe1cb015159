-- What counts as living.
use Rattle.std.proofs.Common.{arith, ◌≡◌, ◌==◌, ◌≤◌, ℕ, Bool, true, false, List, [], ◌∷◌, length, get_or, is_some, Option, None, Some}
use Rattle.std.proofs.Common.{if◌then◌else◌, refl}
use Rattle.std.specs.Map.{values_of}
use Rattle.std.proofs.lemmas.List.Sums.{sum_by-le, sum_by-le-sum_by, get_or-le-sum_by}
use Rattle.iox_domain.specs.DomainPorts.declared.publisher_port.PublisherPort.{PublisherPort}
use Rattle.iox_domain.specs.DomainPorts.Living.{living_of_publisher, living_of_subscriber, counted}
use Rattle.iox_domain.specs.DomainPorts.declared.subscriber_port.SubscriberPort.{SubscriberPort}
use Rattle.iox_domain.specs.Living.{living}
use Rattle.iox_domain.specs.LivingLaws.{IsSilent, IsEmptied, NothingLives}
use Rattle.iox_domain.specs.declared.ports.service_ports.ServicePorts.{ServicePorts}

off_of : (b : Bool) → (if b then 1 else 0) ≤ 0 → b ≡ false
off_of true few = absurd (omega (arith, few))
off_of false few = refl

empty_of : {X : Type 0} (xs : List X) → length xs ≤ 0 → xs ≡ []
empty_of [] few = refl
empty_of (x ∷ xs) few = absurd (omega (arith, few))

none_of : {X : Type 0} (one : Option X) → (if is_some one then 1 else 0) ≤ 0 → one ≡ None
none_of None few = refl
none_of (Some x) few = absurd (omega (arith, few))

-- nothing of a publisher lives exactly if it is silent
silent_of : {T U : Type 0} (port : PublisherPort T U) → living_of_publisher port ≤ 0 → IsSilent port
silent_of port few = record {
  left = off_of port.stands (omega (arith, few));
  loans = empty_of port.sender.uses.loans (omega (arith, few));
  sending = none_of port.sender.uses.sending (omega (arith, few));
}

of_silent : {T U : Type 0} (port : PublisherPort T U) → IsSilent port → living_of_publisher port ≤ 0
of_silent port silent = rw silent.left (rw silent.loans (rw silent.sending (omega arith)))

emptied_of : (port : SubscriberPort) → living_of_subscriber port ≤ 0 → IsEmptied port
emptied_of port few = record { left = off_of port.stands (omega (arith, few)); held = omega (arith, few) }

of_emptied : (port : SubscriberPort) → IsEmptied port → living_of_subscriber port ≤ 0
of_emptied port emptied = rw emptied.left (omega (arith, emptied.held))

-- nothing of all lives: nothing of each does
pub all_silent : {T U : Type 0} (ports : ServicePorts T U) → living None ports ≡ 0 → NothingLives ports
all_silent ports none = (
  λ place port below. silent_of (get_or (values_of ports.publishers) place port)
      (omega (arith, none, get_or-le-sum_by living_of_publisher (values_of ports.publishers) place port below)),
  λ place port below. emptied_of (get_or (values_of ports.subscribers) place port)
      (omega (arith, none, get_or-le-sum_by living_of_subscriber (values_of ports.subscribers) place port below)),
)

pub none_of_silent : {T U : Type 0} (ports : ServicePorts T U) → NothingLives ports → living None ports ≡ 0
none_of_silent ports silent =
    omega (
      arith,
      sum_by-le living_of_publisher 0 (values_of ports.publishers)
          (λ place port below. of_silent (get_or (values_of ports.publishers) place port) (silent.0 place port below)),
      sum_by-le living_of_subscriber 0 (values_of ports.subscribers)
          (λ place port below. of_emptied (get_or (values_of ports.subscribers) place port) (silent.1 place port below)),
    )

some_counted : (same : Bool) (count : ℕ) → (if same then count else 0) ≤ count
some_counted true count = omega arith
some_counted false count = omega arith

-- what counts of an owner counts of all
counted_within : (owner number count : ℕ) → counted (Some owner) number count ≤ counted None number count
counted_within owner number count = some_counted (owner == number) count

pub owner_within : {T U : Type 0} (owner : ℕ) (ports : ServicePorts T U) → living (Some owner) ports ≤ living None ports
owner_within {T} {U} owner ports =
    let publishers = sum_by-le-sum_by {X = PublisherPort T U}
    (λ port. counted (Some owner) port.owner.number (living_of_publisher port))
    (λ port. counted None port.owner.number (living_of_publisher port))
    (values_of ports.publishers) (λ port. counted_within owner port.owner.number (living_of_publisher port)) in
    let subscribers = sum_by-le-sum_by {X = SubscriberPort} (λ port. counted (Some owner) port.owner.number (living_of_subscriber port))
    (λ port. counted None port.owner.number (living_of_subscriber port))
    (values_of ports.subscribers) (λ port. counted_within owner port.owner.number (living_of_subscriber port)) in
    omega (arith, publishers, subscribers)
