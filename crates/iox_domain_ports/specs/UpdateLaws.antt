-- Theorems about updates.
use Rattle.std.specs.Prelude.{ℕ, ◌≡◌, ◌≢◌, List, get_or, Option, None, Result}
use Rattle.iox_domain_slots.specs.Container.declared.container.Member.{Member}
use Rattle.iox_domain_values.specs.declared.connection_failure.ConnectionFailure.{ConnectionFailure}
use Rattle.iox_domain_values.specs.declared.degradation.DegradationAction.{DegradationAction}
use Rattle.iox_domain_values.specs.declared.degradation.DegradationInfo.{DegradationInfo}
use Rattle.iox_domain_ports.specs.PublisherUpdating.{Updates}
use Rattle.iox_domain_ports.specs.declared.publisher_port.PublisherPort.{PublisherPort}
use Rattle.iox_domain_ports.specs.declared.subscriber_entry.SubscriberEntry.{SubscriberEntry}

-- Both lists have the same entry at each place; a place past the end of a list is empty.
abbrev pub TellTheSame : List (Option (Member SubscriberEntry)) → List (Option (Member SubscriberEntry)) → Type 0
TellTheSame one other = (place : ℕ) → get_or one place None ≡ get_or other place None

-- An update does the same over two lists with the same entries, wherever they end. If the list had changed, no place that lists
-- nobody is tied afterwards, whatever the update answers.
pub record FollowsWhoIsListed (T U : Type 0) (may : DegradationInfo → DegradationAction → Type 0) : Type 0 where
  pub same : (one other : List (Option (Member SubscriberEntry))) (changes : ℕ) (old new : PublisherPort T U)
      (answer : Result (Unit {0}) ConnectionFailure)
      → TellTheSame one other → Updates may one changes old answer new → Updates may other changes old answer new
  pub none : (listed : List (Option (Member SubscriberEntry))) (changes place : ℕ) (old new : PublisherPort T U)
      (answer : Result (Unit {0}) ConnectionFailure)
      → old.seen ≢ changes → Updates may listed changes old answer new → get_or listed place None ≡ None
      → get_or new.ties.items place None ≡ None
