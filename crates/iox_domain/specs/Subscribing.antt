-- A subscriber is created.
use Rattle.std.specs.Prelude.{ℕ, ◌≡◌, Result, Ok, Err}
use Rattle.iox_domain.specs.DomainValues.declared.create_error.SubscriberCreateError.{SubscriberCreateError}
use Rattle.iox_domain.specs.DomainValues.declared.degradation.DegradationAction.{DegradationAction}
use Rattle.iox_domain.specs.DomainValues.declared.degradation.DegradationInfo.{DegradationInfo}
use Rattle.iox_domain.specs.DomainValues.Sizes.{buffer_of}
use Rattle.iox_domain.specs.Making.{subscriber_place, subscriber_refusal, CreatesSubscriber}
use Rattle.iox_domain.specs.declared.ports.making.SubscriberConfig.{SubscriberConfig}
use Rattle.iox_domain.specs.States.{with_ports}
use Rattle.iox_domain.specs.Kept.{kept}
use Rattle.iox_domain.specs.declared.state.DomainState.{DomainState}

-- What creating a subscriber answers and changes: its handler is stored under its number, which is the next one. The error
-- follows from the state of the ports, and then nothing has changed.
abbrev pub MakesSubscriber : {T U B D : Type 0} → (DegradationInfo → DegradationAction → Type 0) → SubscriberConfig → D
    → DomainState T U B D → Result ℕ SubscriberCreateError → DomainState T U B D → Type 0
MakesSubscriber may config handler old (Err error) new =
    (error ≡ subscriber_refusal (buffer_of config.buffer_size old.ports.sizes) (subscriber_place old.ports)) × (new ≡ old)
MakesSubscriber may config handler old (Ok number) new =
    CreatesSubscriber may config.owner (buffer_of config.buffer_size old.ports.sizes) (subscriber_place old.ports) old.ports (Ok number)
    new.ports
    × (new ≡ record (with_ports new.ports old) { subscriber_handlers = kept old.ports.next_port handler old.subscriber_handlers })
