-- How much a subscriber holds doesn't matter to which of its expired connections end.
use Rattle.std.proofs.Common.{◌≡◌, ◌+◌, ℕ, zero, suc, Bool, true, false, List, Option, None, Some, refl, sym, ap, ◌∙◌}
use Rattle.std.specs.List.{remove}
use Rattle.std.specs.Prelude.{slice_get, if◌then◌else◌}
use Rattle.iox_domain.specs.DomainPorts.Receiving.{dropped_port, dropped_ports, is_idle_at, swept}
use Rattle.iox_domain.specs.DomainPorts.Subscribing.{attached_at, is_idle, without_key}
use Rattle.iox_domain.specs.DomainPorts.declared.attached.Attached.{Attached}
use Rattle.iox_domain.specs.DomainPorts.declared.publisher_port.PublisherPort.{PublisherPort}
use Rattle.iox_domain.specs.DomainPorts.declared.subscriber_port.SubscriberPort.{SubscriberPort}

-- a subscriber that holds so much
abbrev pub holding : ℕ → SubscriberPort → SubscriberPort
holding held port = record port { held = held }

dropped_by : (held place key : ℕ) (port : SubscriberPort) (found : Option Attached)
    → record (without_key key found (holding held port)) { expired = record port.expired { items = remove port.expired.items place } }
    ≡ holding held (record (without_key key found port) { expired = record port.expired { items = remove port.expired.items place } })
dropped_by held place key port None = refl
dropped_by held place key port (Some attached) = refl

dropped_holding : (held place key : ℕ) (port : SubscriberPort)
    → dropped_port place (Some key) (holding held port) ≡ holding held (dropped_port place (Some key) port)
dropped_holding held place key port = dropped_by held place key port (attached_at key port)

-- and the publishers beside it
abbrev pub both_holding : {T U : Type 0} → ℕ → SubscriberPort × List (ℕ × PublisherPort T U) → SubscriberPort × List (ℕ × PublisherPort T U)
both_holding held state = (holding held state.0, state.1)

-- what is left is the same but for how much is held
abbrev IsHeld : (T U : Type 0) → ℕ → Type 0
IsHeld T U count = (held place : ℕ) (port : SubscriberPort) (ports : List (ℕ × PublisherPort T U))
    → swept place count (holding held port, ports) ≡ both_holding held (swept place count (port, ports))

module _ {T U : Type 0} where
  -- one expired connection that is met
  abbrev swept_at : Option ℕ → ℕ → ℕ → SubscriberPort → List (ℕ × PublisherPort T U) → SubscriberPort × List (ℕ × PublisherPort T U)
  swept_at found place count port ports =
      if is_idle_at found port ports then swept place count (dropped_port place found port, dropped_ports found port ports)
      else swept (place + 1) count (port, ports)

  met_by : (count held place key : ℕ) (port : SubscriberPort) (ports : List (ℕ × PublisherPort T U)) (idle : Bool)
      → is_idle port ports key ≡ idle → IsHeld T U count
      → swept_at (Some key) place count (holding held port) ports ≡ both_holding held (swept_at (Some key) place count port ports)
  met_by count held place key port ports true idle on =
      ap (λ b. if b then swept place count (dropped_port place (Some key) (holding held port), dropped_ports (Some key) port ports)
      else swept (place + 1) count (holding held port, ports)) idle
      ∙ ap (λ (one : SubscriberPort). swept place count (one, dropped_ports (Some key) port ports)) (dropped_holding held place key port)
      ∙ on held place (dropped_port place (Some key) port) (dropped_ports (Some key) port ports)
      ∙ ap (λ b. both_holding held (if b then swept place count (dropped_port place (Some key) port, dropped_ports (Some key) port ports)
      else swept (place + 1) count (port, ports))) (sym idle)
  met_by count held place key port ports false not_idle on =
      ap (λ b. if b then swept place count (dropped_port place (Some key) (holding held port), dropped_ports (Some key) port ports)
      else swept (place + 1) count (holding held port, ports)) not_idle
      ∙ on held (place + 1) port ports
      ∙ ap (λ b. both_holding held (if b then swept place count (dropped_port place (Some key) port, dropped_ports (Some key) port ports)
      else swept (place + 1) count (port, ports))) (sym not_idle)

  met_one : (count held place : ℕ) (port : SubscriberPort) (ports : List (ℕ × PublisherPort T U)) (found : Option ℕ) → IsHeld T U count
      → swept_at found place count (holding held port) ports ≡ both_holding held (swept_at found place count port ports)
  met_one count held place port ports None on = on held (place + 1) port ports
  met_one count held place port ports (Some key) on =
      met_by count held place key port ports (is_idle port ports key) refl on

  pub swept_holding : (count : ℕ) → IsHeld T U count
  swept_holding zero held place port ports = refl
  swept_holding (suc count) held place port ports =
      met_one count held place port ports (slice_get port.expired.items place) (swept_holding count)

  -- nor does that change how much it holds
  pub swept_holds : (count place : ℕ) (port : SubscriberPort) (ports : List (ℕ × PublisherPort T U))
      → (swept place count (port, ports)).0.held ≡ port.held
  swept_holds count place port ports =
      ap (λ (state : SubscriberPort × List (ℕ × PublisherPort T U)). state.0.held) (swept_holding count port.held place port ports)
