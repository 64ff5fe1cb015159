-- What publishers and their connections are made for, and what their service allows.
use Rattle.std.specs.Prelude.{ℕ, ◌≡◌, ◌≤◌, Bool, List, length, is_some}
use Rattle.std.specs.List.{All}
use Rattle.iox_domain.specs.DomainValues.declared.backpressure.BackpressureDecision.{BackpressureDecision}
use Rattle.iox_domain.specs.DomainValues.declared.backpressure.BackpressureInfo.{BackpressureInfo}
use Rattle.iox_domain.specs.DomainValues.declared.degradation.DegradationAction.{DegradationAction}
use Rattle.iox_domain.specs.DomainValues.declared.degradation.DegradationInfo.{DegradationInfo}
use Rattle.iox_domain.specs.DomainValues.declared.service_sizes.ServiceSizes.{ServiceSizes}
use Rattle.iox_domain.specs.DomainSlots.Uses.{Connection}
use Rattle.iox_domain.specs.DomainPorts.Ports.{connection_of}
use Rattle.iox_domain.specs.DomainPorts.declared.publisher_port.PublisherPort.{PublisherPort}
use Rattle.iox_domain.specs.Ports.{no_ports}
use Rattle.iox_domain.specs.declared.ports.service_ports.ServicePorts.{ServicePorts}
use Rattle.iox_domain.specs.Calls.{PortCall, Happens}
use Rattle.iox_domain.specs.Order.{Happen}

-- Whether a full mailbox drops its oldest message, how many messages the history keeps, how many messages of a connection may
-- wait and be borrowed, and whether messages are numbered.
pub record MadeFor : Type 0 where
  pub overflows : Bool
  pub history : ℕ
  pub most_waiting : ℕ
  pub most_borrowed : ℕ
  pub numbered : Bool

-- What the publisher and its connections are made for.
abbrev pub made_for : {T U : Type 0} → PublisherPort T U → MadeFor
made_for port = record {
  overflows = port.sender.uses.overflows;
  history = port.sender.uses.kept;
  most_waiting = port.sender.uses.most_waiting;
  most_borrowed = port.sender.uses.most_borrowed;
  numbered = is_some port.last_sequence;
}

-- What the service allows.
abbrev pub allowed_by : ServiceSizes → MadeFor
allowed_by sizes = record {
  overflows = sizes.enable_safe_overflow;
  history = sizes.history_size;
  most_waiting = sizes.subscriber_max_buffer_size;
  most_borrowed = sizes.subscriber_max_borrowed_samples;
  numbered = sizes.sequence_numbers;
}

-- No more messages wait in the connection than its limit, that limit is at most what the sizes allow, and no more messages are
-- borrowed than they allow.
abbrev pub IsWithin : {X : Type 0} → MadeFor → Connection X → Type 0
IsWithin sizes connection = (length connection.waiting ≤ connection.limit) × (connection.limit ≤ sizes.most_waiting)
    × (length connection.borrowed ≤ sizes.most_borrowed)

-- The publisher is made for just these sizes, and each of its connections keeps within them.
abbrev pub IsMadeFor : {T U : Type 0} → MadeFor → ℕ × PublisherPort T U → Type 0
IsMadeFor sizes (number, port) = (made_for port ≡ sizes) × ((index : ℕ) → IsWithin sizes (connection_of index port))

-- Each publisher is made for just what its service allows, and keeps within it.
abbrev pub AreAllowed : {T U : Type 0} → ServicePorts T U → Type 0
AreAllowed ports = All (IsMadeFor (allowed_by ports.sizes)) ports.publishers

-- Each publisher of a new service is made for just what the service allows and keeps within it; each call, and so any calls,
-- preserve this. What the service allows never changes.
pub record SizesAgree (T U : Type 0) (overrides : ℕ → ℕ → Type 0) (may : DegradationInfo → DegradationAction
    → Type 0) (decide : BackpressureInfo → BackpressureDecision → Type 0) : Type 0 where
  pub begins : (service : ℕ) (sizes : ServiceSizes) → AreAllowed {T = T} {U = U} (no_ports service sizes)
  pub goes_on : (call : PortCall T U) (old new : ServicePorts T U) → Happens overrides may decide call old new → AreAllowed old
      → AreAllowed new
  pub agree : (service : ℕ) (sizes : ServiceSizes) (calls : List (PortCall T U × ServicePorts T U)) (new : ServicePorts T U)
      → Happen overrides may decide calls (no_ports service sizes) new → (new.sizes ≡ sizes) × AreAllowed new
