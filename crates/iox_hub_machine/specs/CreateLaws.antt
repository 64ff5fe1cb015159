-- A theorem: when a service is created, a hub does what the machine does.
use Rattle.std.specs.Prelude.{ℕ, ◌+◌, List, length}
use Rattle.std.specs.List.{IsAmong}
use Rattle.iox_command.specs.NegotiateBase.DescribeBase.declared.attribute.Attribute.{Attribute}
use Rattle.iox_command.specs.declared.command.Command.TheVariants as command
use Rattle.iox_command.specs.declared.service.ServiceOptions.{ServiceOptions}
use Rattle.iox_command.specs.declared.step.StepBefore.{StepBefore}
use Rattle.iox_hub_machine.specs.OpenLaws.{HasNumbersFor}
use Rattle.iox_hub_machine.specs.ServiceLaws.{Follows}
use Rattle.iox_negotiate_machine.specs.Laws.{HaveOwnHashes}
use Rattle.iox_machine.specs.Choices.{Choices}
use Rattle.iox_hub_commands.specs.Terms.{Terms}

-- The parameters: the terms of the hub, and the choices; the default values are those of the choices.
module _ {T U B D : Type 0} (terms : Terms T U B D) (choices : Choices T) where
  -- The machine does the same when a node creates a service under a name that is asked for, as options ask and with these attributes, while
  -- other nodes act. This requires that no two services of the names that are asked for share a hash, and that numbers are left: for the
  -- factory, for as many locks as the other nodes may take, and for the node's own lock.
  abbrev pub CreateMatches : Type 0
  CreateMatches = (names : List (List ℕ)) (node : ℕ) (name : List ℕ) (options : ServiceOptions) (attributes : List Attribute)
      (steps : List StepBefore) → IsAmong names name → HaveOwnHashes names
      → Follows terms choices names (command.Create node name options attributes steps) (HasNumbersFor (length steps + 1))
