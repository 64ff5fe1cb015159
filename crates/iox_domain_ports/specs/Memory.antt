-- When an update of a publisher allocates nothing.
use Rattle.std.specs.Prelude.{ℕ, ◌<◌, ◌≡◌, ◌≢◌, is_some, true, false, List, get_or, Option, None, Some, Result, Ok}
use Rattle.std.specs.declared.alloc.AllocError.{AllocError}
use Rattle.iox_domain_slots.specs.Container.declared.container.Member.{Member}
use Rattle.iox_domain_values.specs.declared.connection_failure.ConnectionFailure.{ConnectionFailure}
use Rattle.iox_domain_values.specs.declared.degradation.DegradationAction.{DegradationAction}
use Rattle.iox_domain_values.specs.declared.degradation.DegradationInfo.{DegradationInfo}
use Rattle.iox_domain_ports.specs.Ports.{connection_to}
use Rattle.iox_domain_ports.specs.PublisherUpdating.{is_tie_to, Follows, Updates}
use Rattle.iox_domain_ports.specs.declared.publisher_port.PublisherPort.{PublisherPort}
use Rattle.iox_domain_ports.specs.declared.subscriber_entry.SubscriberEntry.{SubscriberEntry}

-- The publisher has all that this list of subscribers needs: each place that lists a subscriber is within the capacity for
-- ties, a connection to that subscriber exists, and no other place is tied to it, so following another place doesn't end it.
pub record HasRoom {T U : Type 0} (listed : List (Option (Member SubscriberEntry))) (port : PublisherPort T U) : Type 0 where
  pub room : (place : ℕ) (member : Member SubscriberEntry) → get_or listed place None ≡ Some member → place < port.ties.room
  pub connected : (place : ℕ) (member : Member SubscriberEntry) → get_or listed place None ≡ Some member
      → is_some (connection_to member.value.subscriber port) ≡ true
  pub alone : (place other : ℕ) (member : Member SubscriberEntry) → get_or listed place None ≡ Some member → other ≢ place
      → is_tie_to member.value.subscriber (get_or port.ties.items other None) port ≡ false

-- Following a subscriber never fails if its place is within the capacity and a connection to it exists. If that holds for all
-- listed subscribers, an update answers Ok, whatever its handler says.
pub record NeedsNoMemory (T U : Type 0) (may : DegradationInfo → DegradationAction → Type 0) : Type 0 where
  pub place : (place : ℕ) (member : Member SubscriberEntry) (old new : PublisherPort T U) (answer : Result (Unit {0}) AllocError)
      → place < old.ties.room → is_some (connection_to member.value.subscriber old) ≡ true → Follows place (Some member) old answer new
      → answer ≡ Ok tt
  pub update : (listed : List (Option (Member SubscriberEntry))) (changes : ℕ) (old new : PublisherPort T U)
      (answer : Result (Unit {0}) ConnectionFailure)
      → HasRoom listed old → Updates may listed changes old answer new → answer ≡ Ok tt
