-- What is recorded in the domains of a hub as sends begin.
use Rattle.std.specs.Prelude.{ℕ, ◌≡◌, ◌≢◌, List, [], ◌++◌, Some}
use Rattle.iox_command.specs.DomainValues.declared.backpressure.BackpressureDecision.{BackpressureDecision}
use Rattle.iox_command.specs.DomainValues.declared.backpressure.BackpressureInfo.{BackpressureInfo}
use Rattle.iox_command.specs.DomainValues.declared.degradation.DegradationAction.{DegradationAction}
use Rattle.iox_command.specs.DomainValues.declared.degradation.DegradationCause.{DegradationCause}
use Rattle.iox_command.specs.DomainValues.declared.degradation.DegradationCause.TheVariants.{FailedToEstablishConnection}
use Rattle.iox_command.specs.DomainValues.declared.degradation.DegradationInfo.{DegradationInfo}
use Rattle.iox_domain.specs.Calls.{Happens, PortCall}
use Rattle.iox_domain.specs.DomainValues.declared.service_sizes.ServiceSizes.{ServiceSizes}
use Rattle.iox_domain.specs.Ports.{no_ports}
use Rattle.iox_domain.specs.declared.domain_id.DomainId.{DomainId}
use Rattle.iox_domain.specs.declared.ports.service_ports.ServicePorts.{ServicePorts}
use Rattle.iox_domain.specs.declared.state.DomainState.{DomainState}
use Rattle.iox_domain_machine.specs.SentHeaders.{SentHeader, TellAsSent, headed_as_sent, own_numbers}
use Rattle.iox_hub_base.specs.AsHome.{hub_changed, hub_ports, with_hub_ports}
use Rattle.iox_hub_base.specs.declared.hub.Hub.{Hub}
use Rattle.iox_hub_commands.specs.CommandSteps.{publisher_may_decide, publisher_may_degrade, subscriber_may_degrade}
use Rattle.iox_hub_commands.specs.Grown.{AnyDecision, AnySlots}

module _ {T U B D : Type 0} where
  -- The header of each message in use of a domain of a hub is, by the domain's own numbers, what was recorded when its send began. Nothing
  -- is stated of a domain that isn't in the hub.
  abbrev pub TellInHub : List (SentHeader T U) → DomainId → Hub T U B D → Type 0
  TellInHub sent id hub = (ports : ServicePorts T U) → hub_ports id hub ≡ Some ports → TellAsSent own_numbers sent ports

  -- If a call changes the ports of a domain in the hub and begins a send, what it records of this send is added to what is recorded in this
  -- domain. The override and the handlers may give any answer that they allow.
  abbrev pub AddsTold : (ℕ → ℕ → Type 0) → (DegradationInfo → DegradationAction → Type 0)
      → (BackpressureInfo → BackpressureDecision → Type 0) → DomainId → Hub T U B D → Type 0
  AddsTold overrides may decide id hub = (call : PortCall T U) (ports after : ServicePorts T U) (sent : List (SentHeader T U))
      → hub_ports id hub ≡ Some ports → Happens overrides may decide call ports after → TellInHub sent id hub
      → TellInHub (sent ++ headed_as_sent own_numbers call ports) id (with_hub_ports id after hub)

-- What is recorded in the domains of a hub. A typed call of a port, a loan or a sample is one or more calls of the ports of its domain, as
-- its contract says of the hub as its home. It may also change the handlers of a port. The arguments say what an override, the handlers of
-- a publisher, and the handler of a subscriber may answer.
pub record HubTells (T U : Type 0) {O B D : Type 0} (overrides : O → ℕ → ℕ → Type 0)
    (degrades : B → DegradationCause → DegradationInfo → DegradationAction → Type 0)
    (decides : B → BackpressureInfo → BackpressureDecision → Type 0)
    (reader_degrades : D → DegradationCause → DegradationInfo → DegradationAction → Type 0) : Type 0 where
  -- Before any port was created, no message is in use.
  pub begins : (id : DomainId) (hub : Hub T U B D) (service : ℕ) (sizes : ServiceSizes)
      → hub_ports id hub ≡ Some (no_ports service sizes) → TellInHub [] id hub
  -- A call of a publisher adds what it records, and so does a call of a subscriber: the port's handlers answer.
  pub publishers : (id : DomainId) (number : ℕ) (hub : Hub T U B D)
      → AddsTold AnySlots (publisher_may_degrade degrades id number hub) (publisher_may_decide decides id number hub) id hub
  pub subscribers : (id : DomainId) (number : ℕ) (hub : Hub T U B D)
      → AddsTold AnySlots (subscriber_may_degrade reader_degrades id number hub) AnyDecision id hub
  -- The same holds when a port is created: its new handlers answer.
  pub publisher_comes : (overriding : O) (handlers : B) (id : DomainId) (hub : Hub T U B D)
      → AddsTold (overrides overriding) (degrades handlers FailedToEstablishConnection) AnyDecision id hub
  pub subscriber_comes : (handler : D) (id : DomainId) (hub : Hub T U B D)
      → AddsTold AnySlots (reader_degrades handler FailedToEstablishConnection) AnyDecision id hub
  -- Nothing is added in another domain.
  pub others : (id other : DomainId) (after : ServicePorts T U) (hub : Hub T U B D) (sent : List (SentHeader T U)) → id ≢ other
      → TellInHub sent other hub → TellInHub sent other (with_hub_ports id after hub)
  -- Nothing is added if only the handlers of ports change.
  pub decided : (id other : DomainId) (change : DomainState T U B D → DomainState T U B D) (hub : Hub T U B D)
      (sent : List (SentHeader T U))
      → ((state : DomainState T U B D) → (change state).ports ≡ state.ports) → TellInHub sent other hub
      → TellInHub sent other (hub_changed id change hub)
