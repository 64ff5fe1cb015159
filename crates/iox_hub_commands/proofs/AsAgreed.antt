-- What has grown by calls of ports is made for what its service agreed on.
use Rattle.std.proofs.Common.{[], ◌∷◌, ℕ, List, subst}
use Rattle.std.specs.List.{All}
use Rattle.iox_delivery.proofs.Domain.Sized.{sizes_agree}
use Rattle.iox_delivery.specs.Domain.SizeLaws.{IsMadeFor, allowed_by}
use Rattle.iox_delivery.specs.Domain.Sizes.{sizes}
use Rattle.iox_hub_base.specs.declared.presence.Presence.{Presence}
use Rattle.iox_hub_base.specs.declared.presence.Presence.TheVariants.{Here, Out}
use Rattle.iox_hub_commands.specs.Grown.{AnySlots, AnyAction, AnyDecision, HasGrown, HaveGrown, IsAsAgreed, AreAsAgreed}

module _ {T U B D : Type 0} where
  is_as_agreed : (number : ℕ) (presence : Presence T U B D) → HasGrown number presence → IsAsAgreed presence
  is_as_agreed number (Out agreed) grown = tt
  is_as_agreed number (Here domain) (buffer, (calls, happen)) =
      let agree = (sizes_agree {T = T} {U = U} AnySlots AnyAction AnyDecision).agree number (sizes buffer domain.agreed) calls
      domain.state.ports happen in
      subst (λ allowed. All (IsMadeFor (allowed_by allowed)) domain.state.ports.publishers) agree.0 agree.1

  pub are_as_agreed : (services : List (ℕ × Presence T U B D)) → HaveGrown services → AreAsAgreed services
  are_as_agreed [] grown = tt
  are_as_agreed (service ∷ services) (first, rest) = (is_as_agreed service.0 service.1 first, are_as_agreed services rest)
