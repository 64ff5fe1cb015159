-- The ports of a hub stand where there is more room for numbers.
use Rattle.std.proofs.Common.{◌≡◌, ℕ, List, sym, subst}
use Rattle.iox_command.specs.DomainValues.declared.backpressure.BackpressureDecision.{BackpressureDecision}
use Rattle.iox_command.specs.DomainValues.declared.backpressure.BackpressureInfo.{BackpressureInfo}
use Rattle.iox_command.specs.DomainValues.declared.degradation.DegradationAction.{DegradationAction}
use Rattle.iox_command.specs.DomainValues.declared.degradation.DegradationCause.{DegradationCause}
use Rattle.iox_command.specs.DomainValues.declared.degradation.DegradationInfo.{DegradationInfo}
use Rattle.iox_container.specs.NumberTable.{NumberTable}
use Rattle.iox_domain.specs.declared.ports.service_ports.ServicePorts.{ServicePorts}
use Rattle.iox_domain_machine.specs.Naming.{Naming}
use Rattle.iox_hub_commands.specs.Tables.{SameNumbers, IsRoomier}
use Rattle.iox_hub_commands.specs.declared.numbered_hub.NumberedHub.{NumberedHub}
use Rattle.iox_hub_commands.specs.declared.ports.made.Made.{Made}
use Rattle.iox_hub_machine.specs.Standing.{PortsStandFor}
use Rattle.iox_machine.specs.State.{State}
use Rattle.iox_machine.specs.Choices.{Choices}

-- a table with another room
abbrev with_room : {V : Type 0} → NumberTable V → NumberTable V → NumberTable V
with_room old new = record { entries = old.entries; next = old.next; room = new.room }

same_table : {V : Type 0} (old new : NumberTable V) → SameNumbers old new → new ≡ with_room old new
same_table old new (entries, next, room) = λ i. record { entries = entries i; next = next i; room = new.room }

abbrev with_rooms : Made → Made → Made
with_rooms old new = record {
  publishers = with_room old.publishers new.publishers;
  subscribers = with_room old.subscribers new.subscribers;
  loans = with_room old.loans new.loans;
  samples = with_room old.samples new.samples;
}

same_made : (old new : Made) → IsRoomier old new → new ≡ with_rooms old new
same_made old new (publishers, subscribers, loans, samples) = λ i. record {
  publishers = same_table old.publishers new.publishers publishers i;
  subscribers = same_table old.subscribers new.subscribers subscribers i;
  loans = same_table old.loans new.loans loans i;
  samples = same_table old.samples new.samples samples i;
}

pub roomier_stands : {T U B D : Type 0} (choices : Choices T)
    (degrades : B → DegradationCause → DegradationInfo → DegradationAction → Type 0)
    (decides : B → BackpressureInfo → BackpressureDecision → Type 0)
    (reader_degrades : D → DegradationCause → DegradationInfo → DegradationAction → Type 0) (naming : ℕ → Naming)
    (order : List (ℕ × ServicePorts T U)) (old : NumberedHub T U B D) (state : State T) (roomier : Made) → IsRoomier old.made roomier
    → PortsStandFor choices degrades decides reader_degrades naming order old state
    → PortsStandFor choices degrades decides reader_degrades naming order (record old { made = roomier }) state
roomier_stands choices degrades decides reader_degrades naming order old state roomier is stands =
    subst (λ (made : Made). PortsStandFor choices degrades decides reader_degrades naming order (record old { made = made }) state)
    (sym (same_made old.made roomier is)) record {
      here = stands.here;
      same = stands.same;
      domains = stands.domains;
      numbers = record {
        publishers = stands.numbers.publishers;
        subscribers = stands.numbers.subscribers;
        loans = stands.numbers.loans;
        samples = stands.numbers.samples;
      };
      loans = stands.loans;
      samples = stands.samples;
      publishers = stands.publishers;
      subscribers = stands.subscribers;
      named = stands.named;
      slices = stands.slices;
      publishers_handled = stands.publishers_handled;
      subscribers_handled = stands.subscribers_handled;
    }
