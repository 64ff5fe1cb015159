-- What stays true of a hub during a run.
use Rattle.std.specs.Prelude.{ℕ, ◌+◌, ◌-◌, ◌*◌, ◌<◌, ◌≤◌, List, [], ◌∷◌, Option, None, Some}
use Rattle.std.specs.List.{AllByRecursion}
use Rattle.iox_command.specs.DomainValues.declared.backpressure.BackpressureDecision.{BackpressureDecision}
use Rattle.iox_command.specs.DomainValues.declared.backpressure.BackpressureInfo.{BackpressureInfo}
use Rattle.iox_command.specs.DomainValues.declared.degradation.DegradationAction.{DegradationAction}
use Rattle.iox_command.specs.DomainValues.declared.degradation.DegradationCause.{DegradationCause}
use Rattle.iox_command.specs.DomainValues.declared.degradation.DegradationInfo.{DegradationInfo}
use Rattle.iox_command.specs.NegotiateBase.DescribeBase.declared.message_type.MessageTypeDetails.{MessageTypeDetails}
use Rattle.iox_command.specs.NegotiateBase.DescribeBase.declared.pattern.MessagingPattern.{MessagingPattern}
use Rattle.iox_domain.specs.Rolls.{RollState}
use Rattle.iox_domain.specs.declared.ports.service_ports.ServicePorts.{ServicePorts}
use Rattle.iox_domain_machine.specs.Naming.{Naming}
use Rattle.iox_hub_base.specs.Room.{counted_in}
use Rattle.iox_hub_commands.specs.Agreements.{AreOfOneAgreement}
use Rattle.iox_hub_commands.specs.Grown.{HaveGrown}
use Rattle.iox_hub_commands.specs.Lives.{NumbersRise}
use Rattle.iox_hub_commands.specs.Numbers.{numbers_used}
use Rattle.iox_hub_commands.specs.declared.numbered_hub.NumberedHub.{NumberedHub}
use Rattle.iox_hub_machine.specs.ClosingLaws.{IsCome}
use Rattle.iox_hub_machine.specs.Services.{HubStandsFor}
use Rattle.iox_machine.specs.Choices.{Choices}
use Rattle.iox_machine.specs.State.{State}

-- The number of places that list a port.
abbrev pub listed : {V : Type 0} → List (Option V) → ℕ
listed [] = 0
listed (None ∷ places) = listed places
listed (Some it ∷ places) = 1 + listed places

-- The number of changes of a list, plus the number of ports that it lists.
abbrev pub rolled : {V : Type 0} → RollState V → ℕ
rolled roll = roll.changes + listed roll.places

-- The number of ports of a service that were created, plus the changes and the listed ports of both lists.
abbrev pub port_count : {T U : Type 0} → ServicePorts T U → ℕ
port_count ports = ports.next_port - 1 + rolled ports.publisher_list + rolled ports.subscriber_list

-- Each number is less than all those after it.
abbrev pub AreRising : {X : Type 0} → List (ℕ × X) → Type 0
AreRising [] = Unit {0}
AreRising (entry ∷ entries) = AllByRecursion (λ later. entry.0 < later.0) entries × AreRising entries

module _ {T U B D : Type 0} where
  -- What is true of a hub after at most `most` commands and actions of other nodes.
  pub record RanAtMost (most : ℕ) (hub : NumberedHub T U B D) : Type 0 where
    -- Its domains have grown by calls of ports, its numbers rise, and each service has one agreement.
    pub grown : HaveGrown hub.hub.services.domains
    pub rise : NumbersRise hub
    pub agreed : AreOfOneAgreement hub.factories.made hub.hub
    -- Its services, and the counts of their factories, are ordered by rising numbers.
    pub services : AreRising hub.hub.services.domains
    pub counts : AreRising hub.hub.factory_counts
    -- Each command or action makes at most one node, gives at most one number, takes at most 17 locks, and raises the sum of `port_count`
    -- by at most six. A new hub has a next number, 1, for each of five kinds.
    pub nodes : hub.hub.nodes ≤ most
    pub numbers : numbers_used hub ≤ 5 + most
    pub locks : hub.hub.table.next ≤ 1 + 17 * most
    pub ports : counted_in (λ ports. port_count ports) hub.hub.services.domains ≤ 6 * most

-- The parameters: the types of the messages, the choices, and what handlers may answer.
module _ {T U B D : Type 0} (types : MessageTypeDetails) (choices : Choices T)
    (degrades : B → DegradationCause → DegradationInfo → DegradationAction → Type 0)
    (decides : B → BackpressureInfo → BackpressureDecision → Type 0)
    (reader_degrades : D → DegradationCause → DegradationInfo → DegradationAction → Type 0) where
  -- The hub represents a state, for the names that are asked for; a run of a new machine reaches this state, and the hub had at most `most`
  -- commands and actions of other nodes. This holds of a new hub, and a run keeps it.
  pub record StandsAfter (names : List (List ℕ)) (most : ℕ) (hub : NumberedHub T U B D) (state : State T) : Type 0 where
    -- The numbers that were taken for the services of each name, the names of ports, and the order in which the services were opened.
    pub taken : MessagingPattern → List ℕ → List ℕ
    pub naming : ℕ → Naming
    pub order : List (ℕ × ServicePorts T U)
    pub stands : HubStandsFor choices degrades decides reader_degrades names taken naming order hub state
    pub came : IsCome types choices hub.hub.expired_connection_buffer state
    pub ran : RanAtMost most hub
