-- A hub stands for what it stood for where its tables of numbers have more room.
use Rattle.std.proofs.Common.{ℕ, List}
use Rattle.iox_command.specs.DomainValues.declared.backpressure.BackpressureDecision.{BackpressureDecision}
use Rattle.iox_command.specs.DomainValues.declared.backpressure.BackpressureInfo.{BackpressureInfo}
use Rattle.iox_command.specs.DomainValues.declared.degradation.DegradationAction.{DegradationAction}
use Rattle.iox_command.specs.DomainValues.declared.degradation.DegradationCause.{DegradationCause}
use Rattle.iox_command.specs.DomainValues.declared.degradation.DegradationInfo.{DegradationInfo}
use Rattle.iox_command.specs.NegotiateBase.DescribeBase.declared.pattern.MessagingPattern.{MessagingPattern}
use Rattle.iox_domain.specs.declared.ports.service_ports.ServicePorts.{ServicePorts}
use Rattle.iox_domain_machine.specs.Naming.{Naming}
use Rattle.iox_hub_commands.specs.Tables.{IsRoomier}
use Rattle.iox_hub_commands.specs.declared.numbered_hub.NumberedHub.{NumberedHub}
use Rattle.iox_hub_commands.specs.declared.ports.made.Made.{Made}
use Rattle.iox_hub_commands.specs.declared.room.Pledged.{Pledged}
use Rattle.iox_hub_machine.proofs.PortsStay.{ports_stay}
use Rattle.iox_hub_machine.proofs.Roomier.{roomier_stands}
use Rattle.iox_hub_machine.specs.Services.{HubStandsFor}
use Rattle.iox_machine.specs.Choices.{Choices}
use Rattle.iox_machine.specs.State.{State}

module _ {T U B D : Type 0} (choices : Choices T) (degrades : B → DegradationCause → DegradationInfo → DegradationAction → Type 0)
    (decides : B → BackpressureInfo → BackpressureDecision → Type 0)
    (reader_degrades : D → DegradationCause → DegradationInfo → DegradationAction → Type 0)
    (names : List (List ℕ)) (taken : MessagingPattern → List ℕ → List ℕ) (naming : ℕ → Naming) (order : List (ℕ × ServicePorts T U))
    (old : NumberedHub T U B D) (state : State T)
    (stands : HubStandsFor choices degrades decides reader_degrades names taken naming order old state) where
  pub hub_roomier : (roomier : Made) (pledged : Pledged) → IsRoomier old.made roomier
      → HubStandsFor choices degrades decides reader_degrades names taken naming order (record old { made = roomier; pledged = pledged })
      state
  hub_roomier roomier pledged is = record {
    nodes = stands.nodes;
    table = stands.table;
    id = stands.id;
    factories = record {
      numbers = stands.factories.numbers;
      owners = stands.factories.owners;
      same = stands.factories.same;
      each = stands.factories.each;
      seats = stands.factories.seats;
      counts = stands.factories.counts;
      opened = stands.factories.opened;
    };
    served = stands.served;
    ports = ports_stay choices degrades decides reader_degrades naming order (record old { made = roomier }) state old.hub.table
        old.hub.nodes
        state.made.nodes old.factories pledged state.phases
        (roomier_stands choices degrades decides reader_degrades naming order old state roomier is stands.ports);
  }
