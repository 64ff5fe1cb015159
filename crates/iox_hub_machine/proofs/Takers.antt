-- Which subscriber took a sample, and how many samples of a domain go by numbers.
use Rattle.std.proofs.Common.{◌≡◌, ◌≢◌, ◌+◌, ◌≤◌, ◌++◌, ℕ, Bool, cond, List, [], ◌∷◌, length, Option, None, Some, Ok, refl, sym, ap}
use Rattle.std.proofs.Common.{◌∙◌, arith}
use Rattle.std.proofs.lemmas.List.{length-map}
use Rattle.std.proofs.Math.Logic.{⊎_elim}
use Rattle.std.proofs.lemmas.Bool.{eq-eqb}
use Rattle.std.proofs.lemmas.Bool.Decides.{eqb_tells}
use Rattle.std.proofs.lemmas.List.Sums.{sum_by-append, length-filter, count_by-le-length}
use Rattle.std.specs.Prelude.{filter, ◌==◌}
use Rattle.iox_command.specs.DomainValues.declared.degradation.DegradationAction.{DegradationAction}
use Rattle.iox_command.specs.DomainValues.declared.degradation.DegradationInfo.{DegradationInfo}
use Rattle.iox_container.specs.NumberTable.{Rises}
use Rattle.iox_domain.specs.DomainPorts.declared.attached.Taken.{Taken}
use Rattle.iox_domain.specs.DomainPorts.declared.subscriber_port.SubscriberPort.{SubscriberPort}
use Rattle.iox_domain.specs.Ports.{AtSubscriber}
use Rattle.iox_domain.specs.PortsSubscribing.{ReceivesOne}
use Rattle.iox_domain.specs.Steps.{ReceivesBy}
use Rattle.iox_domain.specs.Subscribers.{subscriber_of}
use Rattle.iox_domain.specs.declared.ports.service_ports.ServicePorts.{ServicePorts}
use Rattle.iox_domain_machine.specs.Naming.{Naming}
use Rattle.iox_domain_machine.specs.Services.{those_of}
use Rattle.iox_domain_machine.specs.Standing.{StandsFor}
use Rattle.iox_domain_machine.specs.Tables.{LentSlot, samples_held_by, held_at_port}
use Rattle.iox_domain_machine.proofs.Found.{never_some, other_found}
use Rattle.iox_machine.specs.Service.{Service}

module _ {T U : Type 0} (may : DegradationInfo → DegradationAction → Type 0) (number : ℕ) (old new : ServicePorts T U) (taken : Taken) where
  -- other subscribers are as they were
  other_readers : (found : Option SubscriberPort)
      → AtSubscriber number (ReceivesOne may old.publisher_list) found old (Some (Ok (Some taken))) new
      → (other : ℕ) → other ≢ number → subscriber_of other new.subscribers ≡ subscriber_of other old.subscribers
  other_readers None (never, same) other off = never_some (Ok (Some taken)) (sym never)
  other_readers (Some port) (after, publishers, step, same) other off =
      ap (λ (ports : ServicePorts T U). subscriber_of other ports.subscribers) same
      ∙ other_found number other after old.subscribers off

  -- who received a sample took it: it holds one more
  pub who_took : (names later : Naming) (lent lent_then : List (ℕ × LentSlot)) (held : List (ℕ × Taken)) (buffer sample : ℕ)
      (service after : Service T) → StandsFor names lent held buffer old service
      → StandsFor later lent_then (held ++ (sample, taken) ∷ []) buffer new after → ReceivesBy may number old (Some (Ok (Some taken))) new
      → taken.subscriber ≡ number
  who_took names later lent lent_then held buffer sample service after stands then receives =
      let taker : ℕ = taken.subscriber in
      let one : ◌≡◌ {A = ℕ} (cond (taker == taker) 1 0) 1 = ap (λ (b : Bool). cond b 1 0) (eq-eqb taker taker refl) in
      let counted : samples_held_by taker (held ++ (sample, taken) ∷ [])
      ≡ samples_held_by taker held + samples_held_by taker ((sample, taken) ∷ []) =
      sum_by-append (λ (entry : ℕ × Taken). cond (entry.1.subscriber == taker) 1 0) held ((sample, taken) ∷ []) in
      ⊎_elim (λ same. same.1)
      (λ off. absurd (omega (
        arith,
        one,
        counted,
        stands.samples.counted taker,
        then.samples.counted taker,
        ap held_at_port (other_readers (subscriber_of number old.subscribers) receives taker off.1),
      )))
      (eqb_tells taker number)

-- no more samples of a domain are held than go by numbers
pub samples_within : (domain subscriber : ℕ) (table : List (ℕ × (ℕ × Taken)))
    → samples_held_by subscriber (those_of domain table) ≤ length table
samples_within domain subscriber table =
    let its : List (ℕ × (ℕ × Taken)) = filter (λ (entry : ℕ × (ℕ × Taken)). entry.1.0 == domain) table in
    omega (
      arith,
      count_by-le-length (λ (entry : ℕ × Taken). entry.1.subscriber == subscriber) (those_of domain table),
      length-map {B = ℕ × Taken} its (λ (entry : ℕ × (ℕ × Taken)). (entry.0, entry.1.1)),
      length-filter (λ (entry : ℕ × (ℕ × Taken)). entry.1.0 == domain) table,
      count_by-le-length (λ (entry : ℕ × (ℕ × Taken)). entry.1.0 == domain) table,
    )

-- no more go by numbers than were given
pub rise_within : {V : Type 0} (low next : ℕ) (entries : List (ℕ × V)) → Rises low entries next → low + length entries ≤ next
rise_within low next [] rises = omega (arith, rises)
rise_within low next (entry ∷ rest) rises = omega (arith, rises.0, rise_within (entry.0 + 1) next rest rises.1)
