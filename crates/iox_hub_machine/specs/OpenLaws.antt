-- Theorems: when a node opens a service, or creates it if it doesn't exist, a hub does what the machine does.
use Rattle.std.specs.Prelude.{ℕ, ◌+◌, ◌^◌, ◌<◌, List, length}
use Rattle.std.specs.List.{IsAmong}
use Rattle.iox_command.specs.NegotiateBase.DescribeBase.Attributes.{Required}
use Rattle.iox_command.specs.declared.command.Command.TheVariants as command
use Rattle.iox_command.specs.declared.service.ServiceOptions.{ServiceOptions}
use Rattle.iox_command.specs.declared.step.StepBefore.{StepBefore}
use Rattle.iox_container.specs.NumberTable.{Rises}
use Rattle.iox_hub_commands.specs.declared.numbered_hub.NumberedHub.{NumberedHub}
use Rattle.iox_hub_commands.specs.Terms.{Terms}
use Rattle.iox_hub_machine.specs.ServiceLaws.{Follows}
use Rattle.iox_negotiate_machine.specs.Laws.{HaveOwnHashes}
use Rattle.iox_machine.specs.Choices.{Choices}

-- The hub can get one more factory, and its table `count` more locks: the numbers of its factories rise, as those of each hub do, and
-- numbers are left.
pub record HasNumbersFor {T U B D : Type 0} (count : ℕ) (hub : NumberedHub T U B D) : Type 0 where
  pub rise : Rises 1 hub.factories.made.entries hub.factories.made.next
  pub factories : hub.factories.made.next + 1 < 2 ^ 64
  pub locks : hub.hub.table.next + count < 2 ^ 64

-- The parameters: the terms of the hub, and the choices; the default values are those of the choices.
module _ {T U B D : Type 0} (terms : Terms T U B D) (choices : Choices T) where
  -- The machine does the same when a node opens a service by a name that is asked for, if the service is as options ask and has the
  -- required attributes, while other nodes act. This requires that no two services of the names that are asked for share a hash, and that
  -- numbers are left: for the factory, and for as many locks as the other nodes may take.
  abbrev pub OpeningMatches : Type 0
  OpeningMatches = (names : List (List ℕ)) (node : ℕ) (name : List ℕ) (named : ServiceOptions) (required : Required)
      (steps : List StepBefore) → IsAmong names name → HaveOwnHashes names
      → Follows terms choices names (command.Open node name named required steps) (HasNumbersFor (length steps))

  -- The machine does the same when a node opens a service, or creates one that doesn't exist, with the required pairs as its attributes.
  -- The premises are those of `OpeningMatches`, and a number is left for the node's own lock, too.
  abbrev pub OpeningOrCreatingMatches : Type 0
  OpeningOrCreatingMatches = (names : List (List ℕ)) (node : ℕ) (name : List ℕ) (named : ServiceOptions) (required : Required)
      (steps : List StepBefore) → IsAmong names name
      → HaveOwnHashes names
      → Follows terms choices names (command.OpenOrCreate node name named required steps) (HasNumbersFor (length steps + 1))
