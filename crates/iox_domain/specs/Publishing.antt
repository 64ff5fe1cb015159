-- A publisher is created, and closed.
use Rattle.std.specs.Prelude.{ℕ, ◌≡◌, Bool, true, false, List, Result, Ok, Err}
use Rattle.iox_domain.specs.DomainValues.declared.create_error.PublisherCreateError.{PublisherCreateError}
use Rattle.iox_domain.specs.DomainValues.declared.degradation.DegradationAction.{DegradationAction}
use Rattle.iox_domain.specs.DomainValues.declared.degradation.DegradationInfo.{DegradationInfo}
use Rattle.iox_domain.specs.Making.{slots_needed, publisher_place, publisher_refusal, CreatesPublisher}
use Rattle.iox_domain.specs.declared.ports.making.PublisherConfig.{PublisherConfig}
use Rattle.iox_domain.specs.States.{with_ports}
use Rattle.iox_domain.specs.Kept.{kept, forgotten}
use Rattle.iox_domain.specs.declared.state.DomainState.{DomainState}

-- What creating a publisher answers and changes: its handlers are stored under its number, which is the next one. The error
-- follows from the state of the ports, and then nothing has changed.
abbrev pub MakesPublisher : {T U B D : Type 0} → (ℕ → ℕ → Type 0) → (DegradationInfo → DegradationAction → Type 0) → PublisherConfig → U
    → B → DomainState T U B D → Result ℕ PublisherCreateError → DomainState T U B D → Type 0
MakesPublisher overrides may config user_header handlers old (Err error) new =
    (error ≡ publisher_refusal (slots_needed config old.ports) (publisher_place old.ports)) × (new ≡ old)
MakesPublisher overrides may config user_header handlers old (Ok number) new =
    CreatesPublisher overrides may config user_header (slots_needed config old.ports) (publisher_place old.ports) old.ports (Ok number)
    new.ports
    × (new ≡ record (with_ports new.ports old) { publisher_handlers = kept old.ports.next_port handlers old.publisher_handlers })

-- The stored handlers after a call that closes a port, or doesn't: if it does, those of the port are removed.
abbrev pub kept_unless : {H : Type 0} → Bool → ℕ → List (ℕ × H) → List (ℕ × H)
kept_unless false number handlers = handlers
kept_unless true number handlers = forgotten number handlers
