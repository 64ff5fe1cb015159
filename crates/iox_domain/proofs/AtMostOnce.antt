-- Each message is put into a mailbox at most once.
use Rattle.std.proofs.Common.{◌∷◌, [], ℕ, List, refl, sym, subst}
use Rattle.iox_domain.specs.DomainValues.declared.backpressure.BackpressureDecision.{BackpressureDecision}
use Rattle.iox_domain.specs.DomainValues.declared.backpressure.BackpressureInfo.{BackpressureInfo}
use Rattle.iox_domain.specs.DomainValues.declared.degradation.DegradationAction.{DegradationAction}
use Rattle.iox_domain.specs.DomainValues.declared.degradation.DegradationInfo.{DegradationInfo}
use Rattle.iox_domain.specs.Calls.{PortCall}
use Rattle.iox_domain.specs.Order.{Happen}
use Rattle.iox_domain.specs.PortLawsLaws.{AtMostOnce, ConnectionsAreKnown, IsApart}
use Rattle.iox_domain.specs.Ports.{no_ports}
use Rattle.iox_domain.specs.declared.ports.service_ports.ServicePorts.{ServicePorts}
use Rattle.iox_domain.proofs.PortLawsApart.{new_apart, stays_apart}
use Rattle.iox_domain.proofs.Once.{finishes_once}
use Rattle.iox_domain.proofs.Roomy.{well_of}
use Rattle.iox_domain.proofs.TiedUpdates.{updates_well}
use Rattle.iox_domain.proofs.WellKept.{told_same}

pub at_most_once : {T U : Type 0} (overrides : ℕ → ℕ → Type 0) (may : DegradationInfo → DegradationAction → Type 0)
    (decide : BackpressureInfo → BackpressureDecision → Type 0) → AtMostOnce T U overrides may decide
at_most_once overrides may decide = record {
  begins = new_apart;
  goes_on = stays_apart overrides may decide;
  apart = λ ports number port apart there stands. (well_of ports number port apart there stands).apart;
  update = λ ports number port updated listed outcome apart there stands is updates.
      (updates_well ports.next_port ports.subscriber_list.places may listed ports.subscriber_list.changes port updated outcome
      apart.list (λ k within. told_same listed ports.subscriber_list is k)
      (well_of ports number port apart there stands) updates).1.apart;
  once = finishes_once decide;
}

-- so it is after any calls
happen_apart : {T U : Type 0} (overrides : ℕ → ℕ → Type 0) (may : DegradationInfo → DegradationAction → Type 0)
    (decide : BackpressureInfo → BackpressureDecision → Type 0) (calls : List (PortCall T U × ServicePorts T U))
    (old new : ServicePorts T U) → Happen overrides may decide calls old new → IsApart old → IsApart new
happen_apart overrides may decide [] old new same apart = subst IsApart (sym same) apart
happen_apart overrides may decide ((call, next) ∷ calls) old new happens apart =
    happen_apart overrides may decide calls next new happens.1 (stays_apart overrides may decide call old next happens.0 apart)

-- a connection goes on only where somebody reads, or a place is tied to it
pub connections_are_known : {T U : Type 0} (overrides : ℕ → ℕ → Type 0) (may : DegradationInfo → DegradationAction → Type 0)
    (decide : BackpressureInfo → BackpressureDecision → Type 0) → ConnectionsAreKnown T U overrides may decide
connections_are_known overrides may decide = record {
  known = λ service sizes calls new publisher index port happen there stands live.
      (well_of new publisher port (happen_apart overrides may decide calls (no_ports service sizes) new happen
      (new_apart service sizes (no_ports service sizes) refl)) there stands).known index live;
  apart = λ service sizes calls new publisher port happen there stands.
      let well = well_of new publisher port (happen_apart overrides may decide calls (no_ports service sizes) new happen
      (new_apart service sizes (no_ports service sizes) refl)) there stands in
      (well.sole, well.all);
}
