-- Theorems: at a command on its ports, a hub does what the machine does.
use Rattle.std.specs.Prelude.{ℕ, ◌≡◌, List, Option, Ok}
use Rattle.std.specs.Map.{keys_of}
use Rattle.iox_command.specs.DomainValues.declared.backpressure.BackpressureAction.{BackpressureAction}
use Rattle.iox_command.specs.DomainValues.declared.backpressure.BackpressureDecision.{BackpressureDecision}
use Rattle.iox_command.specs.DomainValues.declared.backpressure.BackpressureInfo.{BackpressureInfo}
use Rattle.iox_command.specs.DomainValues.declared.backpressure_strategy.BackpressureStrategy.{BackpressureStrategy}
use Rattle.iox_command.specs.DomainValues.declared.degradation.DegradationAction.{DegradationAction}
use Rattle.iox_command.specs.DomainValues.declared.degradation.DegradationCause.{DegradationCause}
use Rattle.iox_command.specs.DomainValues.declared.degradation.DegradationInfo.{DegradationInfo}
use Rattle.iox_command.specs.NegotiateBase.DescribeBase.Detail.{Detail}
use Rattle.iox_command.specs.NegotiateBase.DescribeBase.declared.message_type.MessageTypeDetails.{MessageTypeDetails}
use Rattle.iox_command.specs.declared.command.Command.{Command}
use Rattle.iox_command.specs.declared.command.Command.TheVariants as command
use Rattle.iox_command.specs.declared.reply.Reply.{Reply}
use Rattle.iox_domain.specs.declared.ports.service_ports.ServicePorts.{ServicePorts}
use Rattle.iox_domain_machine.specs.Naming.{Naming}
use Rattle.iox_hub_commands.specs.CommandSteps as hub
use Rattle.iox_hub_commands.specs.Grown.{HaveGrown}
use Rattle.iox_hub_commands.specs.declared.numbered_hub.NumberedHub.{NumberedHub}
use Rattle.iox_hub_machine.specs.Standing.{PortsStandFor}
use Rattle.iox_machine.specs.Choices.{Choices}
use Rattle.iox_machine.specs.Run as machine
use Rattle.iox_machine.specs.Service.{Service}
use Rattle.iox_machine.specs.State.{State, counted}

-- The machine's state after a command with this reply that left these services; all else is as it was, except the counts.
abbrev pub answered_with : {T : Type 0} → Reply T → List (Service T) → State T → State T
answered_with answer services state = record state { made = counted answer state.made; services = services }

-- The parameters: the choices, with the default values; which user headers are default ones; and what handlers of a publisher, and of a
-- subscriber, may answer.
module _ {T U B D : Type 0} (choices : Choices T) (is_default_header : U → Type 0)
    (degrades : B → DegradationCause → DegradationInfo → DegradationAction → Type 0)
    (decides : B → BackpressureInfo → BackpressureDecision → Type 0)
    (reader_degrades : D → DegradationCause → DegradationInfo → DegradationAction → Type 0) where
  -- If the ports of a hub represent those of a machine, and the hub gives this reply to this command, the machine may give the reply, too,
  -- and the ports represent those that the machine has then. All else of the machine is as it was, and so is the order of its services.
  -- This holds for any types of messages and user headers, and for any handlers of fixed actions: these only matter where services and
  -- ports are created.
  abbrev pub IsSimulatedFrom : NumberedHub T U B D → Command T → Type 0
  IsSimulatedFrom old asked = (payload user_header : Detail) (types : MessageTypeDetails)
      (fixed : BackpressureStrategy → Option BackpressureAction → DegradationAction → B) (fixed_reader : DegradationAction → D)
      (naming : ℕ → Naming) (order : List (ℕ × ServicePorts T U)) (new : NumberedHub T U B D) (state : State T) (answer : Reply T)
      → PortsStandFor choices degrades decides reader_degrades naming order old state
      → hub.Step (record {
        payload = payload;
        user_header = user_header;
        types = types;
        is_default = choices.is_default;
        is_default_header = is_default_header;
        fixed = fixed;
        degrades = degrades;
        decides = decides;
        fixed_reader = fixed_reader;
        reader_degrades = reader_degrades;
      }) asked old (Ok answer) new
      → (naming_then : ℕ → Naming) × (order_then : List (ℕ × ServicePorts T U)) × (services : List (Service T))
      × (keys_of order_then ≡ keys_of order)
      × machine.Step types choices old.hub.expired_connection_buffer asked state answer (answered_with answer services state)
      × PortsStandFor choices degrades decides reader_degrades naming_then order_then new (answered_with answer services state)

  -- The command is simulated from any hub.
  abbrev pub IsSimulated : Command T → Type 0
  IsSimulated asked = (old : NumberedHub T U B D) → IsSimulatedFrom old asked

  -- The command is simulated from a hub whose domains have grown by calls of ports, as those of each hub have (`GrowsOn`).
  abbrev pub IsSimulatedIfGrown : Command T → Type 0
  IsSimulatedIfGrown asked = (old : NumberedHub T U B D) → HaveGrown old.hub.services.domains → IsSimulatedFrom old asked

  -- Replacing one value of a written loan is simulated.
  abbrev pub SetIsSimulated : Type 0
  SetIsSimulated = (loan place : ℕ) (value : T) → IsSimulated (command.Set loan place value)

  -- Writing all values of a loan is simulated.
  abbrev pub FillIsSimulated : Type 0
  FillIsSimulated = (loan : ℕ) (values : List T) → IsSimulated (command.Fill loan values)

  -- Reading a sample is simulated.
  abbrev pub ReadIsSimulated : Type 0
  ReadIsSimulated = (sample : ℕ) → IsSimulated (command.Read sample)

  -- Reporting the sequence number of a sample's message is simulated.
  abbrev pub SequenceIsSimulated : Type 0
  SequenceIsSimulated = (sample : ℕ) → IsSimulated (command.Sequence sample)

  -- Dropping a loan is simulated.
  abbrev pub DropIsSimulated : Type 0
  DropIsSimulated = (loan : ℕ) → IsSimulatedIfGrown (command.Drop loan)

  -- Releasing a sample is simulated.
  abbrev pub ReleaseIsSimulated : Type 0
  ReleaseIsSimulated = (sample : ℕ) → IsSimulatedIfGrown (command.Release sample)

  -- Giving up a blocked send is simulated.
  abbrev pub GiveUpIsSimulated : Type 0
  GiveUpIsSimulated = (publisher : ℕ) → IsSimulated (command.GiveUp publisher)
