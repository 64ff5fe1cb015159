-- What the sequence numbers of messages say about those that a connection missed.
use Rattle.std.specs.Prelude.{ℕ, ◌≡◌, ◌+◌, ◌≤◌, ◌⊎◌, true, List, [], ◌∷◌, ◌++◌, length, is_some, Option, Some}
use Rattle.std.specs.List.{All}
use Rattle.iox_domain.specs.DomainValues.declared.backpressure.BackpressureDecision.{BackpressureDecision}
use Rattle.iox_domain.specs.DomainValues.declared.backpressure.BackpressureInfo.{BackpressureInfo}
use Rattle.iox_domain.specs.DomainValues.declared.degradation.DegradationAction.{DegradationAction}
use Rattle.iox_domain.specs.DomainValues.declared.degradation.DegradationInfo.{DegradationInfo}
use Rattle.iox_domain.specs.DomainValues.declared.service_sizes.ServiceSizes.{ServiceSizes}
use Rattle.iox_domain.specs.DomainValues.Sequences.{next_sequence}
use Rattle.iox_domain.specs.DomainPorts.Messages.{Message}
use Rattle.iox_domain.specs.DomainPorts.declared.publisher_port.PublisherPort.{PublisherPort}
use Rattle.iox_domain.specs.DomainPorts.Publishers.{port_of, connection_in}
use Rattle.iox_domain.specs.Calls.{PortCall}
use Rattle.iox_domain.specs.Order.{leads_in, account_after, Happen, nothing_yet}
use Rattle.iox_domain.specs.Ports.{no_ports}
use Rattle.iox_domain.specs.declared.ports.service_ports.ServicePorts.{ServicePorts}

-- The sequence number after those of the messages, if the first has number `first`; None if messages aren't numbered.
abbrev pub sequence_behind : {X : Type 0} → Option ℕ → List X → Option ℕ
sequence_behind first [] = first
sequence_behind first (message ∷ messages) = sequence_behind (next_sequence first) messages

-- The messages have consecutive sequence numbers from `first` on; if that is None, none of them has a number.
abbrev pub AreNumberedFrom : {T U : Type 0} → Option ℕ → List (Message T U) → Type 0
AreNumberedFrom first [] = Unit {0}
AreNumberedFrom first (message ∷ messages) = (message.sequence ≡ first) × AreNumberedFrom (next_sequence first) messages

-- The messages that a publisher sent so far have consecutive sequence numbers, the last of which is `last`; or none of them has
-- a number, and `last` is None.
abbrev pub AreNumbered : {T U : Type 0} → List (Message T U) → Option ℕ → Type 0
AreNumbered sent last = (first : Option ℕ) × AreNumberedFrom first sent × (sequence_behind first sent ≡ next_sequence last)

-- The sequence number of the message, if it has one, isn't between `low` and `high`.
abbrev pub IsOutside : {T U : Type 0} → ℕ → ℕ → Message T U → Type 0
IsOutside low high message = (number : ℕ) → message.sequence ≡ Some number → (number ≤ low) ⊎ (high ≤ number)

-- What a connection missed between two messages with the numbers `low` and `high`: the messages that the publisher sent between
-- them, which have all numbers between. The connection has given and has none of them, so each was dropped or skipped.
pub record Missed {T U : Type 0} (one other : Message T U) (low high : ℕ) (sent had : List (Message T U)) : Type 0 where
  pub before : List (Message T U)
  pub missed : List (Message T U)
  pub after : List (Message T U)
  pub whole : sent ≡ before ++ one ∷ (missed ++ other ∷ after)
  pub numbers : AreNumberedFrom (Some (low + 1)) missed
  pub count : low + 1 + length missed ≡ high
  pub outside : All (IsOutside low high) had

-- After any calls on a new service: the messages that a publisher sent are numbered consecutively if the service numbers
-- messages, and have no numbers otherwise. Between two messages that a connection gave one after the other it missed exactly
-- the messages that the publisher sent with numbers between theirs.
pub record GapsTell (T U : Type 0) (overrides : ℕ → ℕ → Type 0) (may : DegradationInfo → DegradationAction
    → Type 0) (decide : BackpressureInfo → BackpressureDecision → Type 0) : Type 0 where
  pub numbered : (service : ℕ) (sizes : ServiceSizes) (calls : List (PortCall T U
      × ServicePorts T U)) (new : ServicePorts T U) (publisher index subscriber : ℕ) (port : PublisherPort T U)
      → Happen overrides may decide calls (no_ports service sizes) new → port_of publisher new.publishers ≡ Some port
      → AreNumbered (account_after publisher index subscriber calls (no_ports service sizes) nothing_yet).sent port.last_sequence
      × (is_some port.last_sequence ≡ sizes.sequence_numbers)
  pub between : (service : ℕ) (sizes : ServiceSizes) (calls : List (PortCall T U
      × ServicePorts T U)) (new : ServicePorts T U) (publisher index subscriber low high : ℕ) (one other : Message T U)
      (earlier later : List (Message T U))
      → Happen overrides may decide calls (no_ports service sizes) new → leads_in publisher index subscriber new ≡ true
      → (account_after publisher index subscriber calls (no_ports service sizes) nothing_yet).taken ≡ earlier ++ one ∷ other ∷ later
      → one.sequence ≡ Some low → other.sequence ≡ Some high
      → Missed one other low high (account_after publisher index subscriber calls (no_ports service sizes) nothing_yet).sent
      ((account_after publisher index subscriber calls (no_ports service sizes) nothing_yet).taken
      ++ (connection_in publisher index new.publishers).waiting)
