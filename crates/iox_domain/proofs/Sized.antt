-- What publishers are made for is what their service allows, through any calls.
use Rattle.std.proofs.Common.{◌≡◌, [], ◌∷◌, ℕ, List, refl, sym, subst, ◌∙◌}
use Rattle.std.specs.List.{All}
use Rattle.std.proofs.lemmas.List.Elements.{All-nil}
use Rattle.iox_domain.specs.DomainValues.declared.backpressure.BackpressureDecision.{BackpressureDecision}
use Rattle.iox_domain.specs.DomainValues.declared.backpressure.BackpressureInfo.{BackpressureInfo}
use Rattle.iox_domain.specs.DomainValues.declared.degradation.DegradationAction.{DegradationAction}
use Rattle.iox_domain.specs.DomainValues.declared.degradation.DegradationInfo.{DegradationInfo}
use Rattle.iox_domain.specs.Ports.{no_ports}
use Rattle.iox_domain.specs.declared.ports.service_ports.ServicePorts.{ServicePorts}
use Rattle.iox_domain.specs.Calls.{PortCall, Happens}
use Rattle.iox_domain.specs.Order.{Happen}
use Rattle.iox_domain.specs.SizeLaws.{IsMadeFor, allowed_by, AreAllowed, SizesAgree}
use Rattle.iox_domain.proofs.Held.{sized_stays}
use Rattle.iox_domain.proofs.Serviced.{service_stays}

module _ {T U : Type 0} (overrides : ℕ → ℕ → Type 0) (may : DegradationInfo → DegradationAction → Type 0)
    (decide : BackpressureInfo → BackpressureDecision → Type 0) where
  goes_on : (call : PortCall T U) (old new : ServicePorts T U) → Happens overrides may decide call old new → AreAllowed old → AreAllowed new
  goes_on call old new happens all =
      subst (λ sizes. All (IsMadeFor (allowed_by sizes)) new.publishers)
      (sym ((service_stays {T = T} {U = U} overrides may decide).stays call old new happens).sizes)
      (sized_stays overrides may decide call old new happens all)

  through : (calls : List (PortCall T U × ServicePorts T U)) (old new : ServicePorts T U) → Happen overrides may decide calls old new
      → AreAllowed old → (new.sizes ≡ old.sizes) × AreAllowed new
  through [] old new is all = rw is (refl, all)
  through ((call, next) ∷ calls) old new happen all =
      let rest = through calls next new happen.1 (goes_on call old next happen.0 all) in
      (rest.0 ∙ ((service_stays {T = T} {U = U} overrides may decide).stays call old next happen.0).sizes, rest.1)

  pub sizes_agree : SizesAgree T U overrides may decide
  sizes_agree = record {
    begins = λ service sizes. All-nil (IsMadeFor (allowed_by sizes));
    goes_on = goes_on;
    agree = λ service sizes calls new happen. through calls (no_ports service sizes) new happen (All-nil (IsMadeFor (allowed_by sizes)));
  }
