-- Which publishers' sends fail at a full mailbox.
use Rattle.std.specs.Prelude.{ℕ, ◌≡◌, Bool, List, map, Option}
use Rattle.iox_domain.specs.DomainValues.declared.backpressure.BackpressureDecision.{BackpressureDecision}
use Rattle.iox_domain.specs.Kept.{kept_under}
use Rattle.iox_domain.specs.declared.domain.Domain.{Domain}
use Rattle.iox_lanes_machine.specs.World.{World}
use Rattle.iox_lanes_opening.specs.Deciding.{would_fail}

-- Whether the sends of each publisher of the lanes fail at a full mailbox, by place.
abbrev pub failing : World → List Bool
failing lanes = map (λ lane. lane.fails) lanes.publishers

-- Whether the handlers of the publisher with each of these numbers make its sends fail at a full mailbox; `decision` is what they decide
-- there.
abbrev pub asked : {B : Type 0} → (B → Option BackpressureDecision) → List (ℕ × B) → List ℕ → List Bool
asked decision handlers numbers = map (λ number. would_fail decision (kept_under number handlers)) numbers

-- The lanes have a publisher for each of these numbers, whose sends fail at a full mailbox exactly if those of the domain's publisher with
-- this number do.
abbrev pub FailAsAsked : {T U B D : Type 0} → (B → Option BackpressureDecision) → Domain T U B D → World → List ℕ → Type 0
FailAsAsked decision domain lanes publishers = failing lanes ≡ asked decision domain.state.publisher_handlers publishers
