-- The steps that a command names are those of a table.
use Rattle.std.proofs.Common.{◌≡◌, ℕ, List, map, refl, ap}
use Rattle.iox_command.specs.NegotiateBase.DescribeBase.declared.message_type.MessageTypeDetails.{MessageTypeDetails}
use Rattle.iox_command.specs.declared.step.ForeignStep.{ForeignStep}
use Rattle.iox_command.specs.declared.step.ForeignStep.TheVariants as step
use Rattle.iox_domain_machine.proofs.Found.{same_everywhere}
use Rattle.iox_hub_commands.specs.Steps.{list_of, step_of}
use Rattle.iox_negotiate_machine.specs.Laws.{table_step_of}
use Rattle.iox_negotiate_table.specs.declared.step.ForeignStep.{ForeignStep as TableStep}

pub same_step : (name : List ℕ) (types : MessageTypeDetails) (one : ForeignStep) → step_of name types one ≡ table_step_of types name one
same_step name types (step.Lock node) = refl
same_step name types (step.GiveUp node) = refl
same_step name types (step.Publish node named) = refl
same_step name types (step.PublishV1 node named) = refl
same_step name types (step.Register node) = refl
same_step name types (step.Leave node) = refl
same_step name types (step.Remove node) = refl

-- a list of steps
pub same_list : (name : List ℕ) (types : MessageTypeDetails) (steps : List ForeignStep)
    → list_of name types steps ≡ map (table_step_of types name) steps
same_list name types steps =
    ap (λ (f : ForeignStep → TableStep). map f steps)
    (same_everywhere (step_of name types) (table_step_of types name) (same_step name types))
