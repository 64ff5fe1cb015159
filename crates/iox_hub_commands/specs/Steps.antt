-- The actions of other nodes that a command names.
use Rattle.std.specs.Prelude.{ℕ, zero, suc, ◌+◌, Bool, List, [], ◌∷◌, map, min, max, nat_eq}
use Rattle.std.specs.List.{filter, list_any}
use Rattle.iox_command.specs.declared.step.ForeignStep.{ForeignStep as Named}
use Rattle.iox_command.specs.declared.step.ForeignStep.TheVariants as named
use Rattle.iox_command.specs.declared.step.StepBefore.{StepBefore}
use Rattle.iox_negotiate_table.specs.Describe.Within.{HasForm}
use Rattle.iox_negotiate_table.specs.DescribeBase.declared.message_type.MessageTypeDetails.{MessageTypeDetails}
use Rattle.iox_negotiate_table.specs.declared.step.ForeignStep.{ForeignStep}
use Rattle.iox_negotiate_table.specs.declared.step.ForeignStep.TheVariants as step
use Rattle.iox_hub_commands.specs.Asking.{agreed_of}

-- The action on the service of this name; a service that it publishes has these types.
abbrev pub step_of : List ℕ → MessageTypeDetails → Named → ForeignStep
step_of name types (named.Lock node) = step.Lock node
step_of name types (named.GiveUp node) = step.GiveUp node
step_of name types (named.Publish node options) = step.Publish node (agreed_of name options types [])
step_of name types (named.PublishV1 node options) = step.PublishV1 node (agreed_of name options types [])
step_of name types (named.Register node) = step.Register node
step_of name types (named.Leave node) = step.Leave node
step_of name types (named.Remove node) = step.Remove node

-- What the action publishes, if it publishes, has the form of a description: texts within their limits, a whole hash, numbers of 64 bits.
abbrev pub PublishesInForm : ForeignStep → Type 0
PublishesInForm (step.Publish node agreed) = HasForm agreed
PublishesInForm (step.PublishV1 node agreed) = HasForm agreed
PublishesInForm other = Unit {0}

-- The actions in their order.
abbrev pub list_of : List ℕ → MessageTypeDetails → List Named → List ForeignStep
list_of name types steps = map (step_of name types) steps

-- The actions that are named before one storage operation, in their order.
abbrev pub list_before : List ℕ → MessageTypeDetails → List StepBefore → ℕ → List ForeignStep
list_before name types steps access = map (λ before. step_of name types before.step) (filter (λ before. nat_eq before.access access) steps)

-- The last storage operation before which actions are named; 0 if none are.
abbrev pub last_access : List StepBefore → ℕ
last_access [] = 0
last_access (before ∷ rest) = max before.access (last_access rest)

-- Whether an action is named before the first storage operation.
abbrev pub acts_first : List StepBefore → Bool
acts_first steps = list_any (λ before. nat_eq before.access 1) steps

-- This many numbers, one after the other, from `first` on.
abbrev pub from : ℕ → ℕ → List ℕ
from first zero = []
from first (suc count) = first ∷ from (first + 1) count

-- A list of actions for each storage operation, up to the last before which some are named. Actions before a seventeenth storage operation
-- are left out, since no call makes that many storage operations.
abbrev pub lists_of : List ℕ → MessageTypeDetails → List StepBefore → List (List ForeignStep)
lists_of name types steps = map (list_before name types steps) (from 1 (min (last_access steps) 16))
