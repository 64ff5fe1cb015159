-- The ports of a hub stand where its nodes, its table, its factories, or the phases of the machine are others.
use Rattle.std.proofs.Common.{ℕ, List}
use Rattle.iox_command.specs.DomainValues.declared.backpressure.BackpressureDecision.{BackpressureDecision}
use Rattle.iox_command.specs.DomainValues.declared.backpressure.BackpressureInfo.{BackpressureInfo}
use Rattle.iox_command.specs.DomainValues.declared.degradation.DegradationAction.{DegradationAction}
use Rattle.iox_command.specs.DomainValues.declared.degradation.DegradationCause.{DegradationCause}
use Rattle.iox_command.specs.DomainValues.declared.degradation.DegradationInfo.{DegradationInfo}
use Rattle.iox_command.specs.NegotiateBase.DescribeBase.declared.pattern.MessagingPattern.{MessagingPattern}
use Rattle.iox_domain.specs.declared.ports.service_ports.ServicePorts.{ServicePorts}
use Rattle.iox_domain_machine.specs.Naming.{Naming}
use Rattle.iox_hub_commands.specs.declared.numbered_hub.NumberedHub.{NumberedHub}
use Rattle.iox_hub_commands.specs.declared.room.Pledged.{Pledged}
use Rattle.iox_hub_commands.specs.declared.services.factories.Factories.{Factories}
use Rattle.iox_hub_machine.specs.Standing.{PortsStandFor}
use Rattle.iox_machine.specs.Choices.{Choices}
use Rattle.iox_machine.specs.Phase.{Phase}
use Rattle.iox_machine.specs.State.{State}
use Rattle.iox_negotiate_table.specs.Contents.{Contents}

module _ {T U B D : Type 0} (choices : Choices T) (degrades : B → DegradationCause → DegradationInfo → DegradationAction → Type 0)
    (decides : B → BackpressureInfo → BackpressureDecision → Type 0)
    (reader_degrades : D → DegradationCause → DegradationInfo → DegradationAction → Type 0) where
  pub ports_stay : (naming : ℕ → Naming) (order : List (ℕ × ServicePorts T U)) (hub : NumberedHub T U B D) (state : State T)
      (table : Contents) (nodes nodes_made : ℕ)
      (factories : Factories) (pledged : Pledged) (phases : MessagingPattern → List ℕ → Phase)
      → PortsStandFor choices degrades decides reader_degrades naming order hub state
      → PortsStandFor choices degrades decides reader_degrades naming order
      (record hub { hub = record hub.hub { table = table; nodes = nodes }; factories = factories; pledged = pledged })
      (record state { made = record state.made { nodes = nodes_made }; phases = phases })
  ports_stay naming order hub state table nodes nodes_made factories pledged phases stands = record {
    here = stands.here;
    same = stands.same;
    domains = stands.domains;
    numbers = record {
      publishers = stands.numbers.publishers;
      subscribers = stands.numbers.subscribers;
      loans = stands.numbers.loans;
      samples = stands.numbers.samples;
    };
    loans = stands.loans;
    samples = stands.samples;
    publishers = record { known = stands.publishers.known; each = stands.publishers.each };
    subscribers = record { known = stands.subscribers.known; each = stands.subscribers.each };
    named = record { publishers = stands.named.publishers; subscribers = stands.named.subscribers };
    slices = stands.slices;
    publishers_handled = λ domain number publisher up found.
        let handled = stands.publishers_handled domain number publisher up found in record { full = handled.full; failed = handled.failed };
    subscribers_handled = stands.subscribers_handled;
  }
