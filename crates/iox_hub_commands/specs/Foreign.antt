-- The actions of other nodes that a command names.
use Rattle.std.specs.Prelude.{ℕ, ◌≡◌, ◌⊎◌, List, [], Result, Err}
use Rattle.std.specs.List.{AllByRecursion}
use Rattle.iox_command.specs.declared.refusal.HubError.{HubError}
use Rattle.iox_command.specs.declared.refusal.HubError.TheVariants.{OutOfMemory}
use Rattle.iox_command.specs.declared.step.ForeignStep.{ForeignStep as Named}
use Rattle.iox_hub_base.specs.DescribeBase.Hash.{service_hash_of}
use Rattle.iox_hub_base.specs.DescribeBase.declared.message_type.MessageTypeDetails.{MessageTypeDetails}
use Rattle.iox_hub_base.specs.DescribeBase.declared.pattern.MessagingPattern.{MessagingPattern}
use Rattle.iox_hub_base.specs.Foreign.{ActsOn}
use Rattle.iox_hub_base.specs.declared.hub.Hub.{Hub}
use Rattle.iox_hub_commands.specs.Steps.{PublishesInForm, list_of}

-- The actions are done one after the other on the service of this pattern and name, and what they publish has the form of a description. Or
-- actions are named, memory runs out for their list, and nothing happens.
abbrev pub ActsNamed : {T U B D : Type 0} → MessagingPattern → List ℕ → MessageTypeDetails → List Named → Hub T U B D
    → Result (Unit {0}) HubError → Hub T U B D → Type 0
ActsNamed pattern name types steps old answer new =
    (ActsOn (service_hash_of pattern name) (list_of name types steps) old answer new
    × AllByRecursion PublishesInForm (list_of name types steps))
    ⊎ ((steps ≡ [] → ⊥) × (answer ≡ Err OutOfMemory) × (new ≡ old))
