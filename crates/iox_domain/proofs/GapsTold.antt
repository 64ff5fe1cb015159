-- What the sequence numbers of messages say is true after any calls.
use Rattle.std.proofs.Common.{◌≡◌, ◌∷◌, ◌++◌, ℕ, true, List, is_some, Option, None, Some, refl, sym, ap, ◌∙◌, subst}
use Rattle.iox_domain.specs.DomainValues.declared.backpressure.BackpressureDecision.{BackpressureDecision}
use Rattle.iox_domain.specs.DomainValues.declared.backpressure.BackpressureInfo.{BackpressureInfo}
use Rattle.iox_domain.specs.DomainValues.declared.degradation.DegradationAction.{DegradationAction}
use Rattle.iox_domain.specs.DomainValues.declared.degradation.DegradationInfo.{DegradationInfo}
use Rattle.iox_domain.specs.DomainValues.declared.service_sizes.ServiceSizes.{ServiceSizes}
use Rattle.iox_domain.specs.DomainPorts.Messages.{Message}
use Rattle.iox_domain.specs.DomainPorts.declared.publisher_port.PublisherPort.{PublisherPort}
use Rattle.iox_domain.specs.DomainPorts.Publishers.{port_of, connection_in}
use Rattle.iox_domain.specs.Calls.{PortCall}
use Rattle.iox_domain.specs.Gaps.{Missed, GapsTell}
use Rattle.iox_domain.specs.Order.{IsPartOf, leads_at_port, Account, account_after, Happen, nothing_yet}
use Rattle.iox_domain.specs.Ports.{no_ports}
use Rattle.iox_domain.specs.SizeLaws.{IsMadeFor, allowed_by}
use Rattle.iox_domain.specs.declared.ports.service_ports.ServicePorts.{ServicePorts}
use Rattle.iox_domain.proofs.Gaps.{missed_between}
use Rattle.iox_domain.proofs.InOrder.{Holds, holds_so, order_of}
use Rattle.iox_domain.proofs.Numbered.{at_number, found_of_all}
use Rattle.iox_domain.proofs.Sized.{sizes_agree}

missed_of : {T U : Type 0} (publisher index subscriber low high : ℕ) (one other : Message T U) (earlier later : List (Message T U))
    (account : Account T U) (ports : ServicePorts T U) (found : Option (PublisherPort T U))
    → port_of publisher ports.publishers ≡ found → leads_at_port index subscriber found ≡ true
    → Holds publisher index subscriber account ports → account.taken ≡ earlier ++ one ∷ other ∷ later
    → one.sequence ≡ Some low → other.sequence ≡ Some high
    → Missed one other low high account.sent (account.taken ++ (connection_in publisher index ports.publishers).waiting)
missed_of publisher index subscriber low high one other earlier later account ports None there led holds taken is_low is_high = cc
missed_of {T} {U} publisher index subscriber low high one other earlier later account ports (Some port) there led holds taken
    is_low is_high =
    let waiting : List (Message T U) = (connection_in publisher index ports.publishers).waiting in
    let part = order_of publisher index subscriber account ports (Some port) there led holds in
    subst (λ (had : List (Message T U)). Missed one other low high account.sent (had ++ waiting)) (sym taken)
    (missed_between one other low high earlier later waiting account.sent port.last_sequence (holds.books port there).numbered
    (subst (λ (had : List (Message T U)). IsPartOf (had ++ waiting) account.sent) taken part) is_low is_high)

pub gaps_tell : {T U : Type 0} (overrides : ℕ → ℕ → Type 0) (may : DegradationInfo → DegradationAction → Type 0)
    (decide : BackpressureInfo → BackpressureDecision → Type 0) → GapsTell T U overrides may decide
gaps_tell {T} {U} overrides may decide = record {
  numbered = λ service sizes calls new publisher index subscriber port happen there. (
    ((holds_so publisher index subscriber overrides may decide service sizes calls new happen).books port there).numbered,
    told service sizes calls new publisher port happen there,
  );
  between = λ service sizes calls new publisher index subscriber low high one other earlier later happen led.
      missed_of publisher index subscriber low high one other earlier later
      (account_after publisher index subscriber calls (no_ports service sizes) nothing_yet) new (port_of publisher new.publishers) refl
      led (holds_so publisher index subscriber overrides may decide service sizes calls new happen);
}
  where
    told : (service : ℕ) (sizes : ServiceSizes) (calls : List (PortCall T U × ServicePorts T U)) (new : ServicePorts T U) (publisher : ℕ)
        (port : PublisherPort T U)
        → Happen overrides may decide calls (no_ports service sizes) new → port_of publisher new.publishers ≡ Some port
        → is_some port.last_sequence ≡ sizes.sequence_numbers
    told service sizes calls new publisher port happen there =
        let agree = (sizes_agree {T = T} {U = U} overrides may decide).agree service sizes calls new happen in
        let made = (found_of_all (IsMadeFor (allowed_by new.sizes)) (at_number publisher) new.publishers port agree.1 there).holds.0 in
        ap (λ one. one.numbered) made ∙ ap (λ one. one.sequence_numbers) agree.0
