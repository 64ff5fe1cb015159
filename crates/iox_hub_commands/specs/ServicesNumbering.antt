-- How a factory gets a number, and what is prepared before the first storage operation.
use Rattle.std.specs.Prelude.{ℕ, ◌≡◌, ◌<◌, ◌≤◌, ◌⊎◌, List, [], length, Option, None, Some, Result, Ok, Err}
use Rattle.std.specs.List.{AllByRecursion}
use Rattle.std.specs.declared.alloc.AllocError.{AllocError}
use Rattle.iox_command.specs.declared.refusal.Refusal.{Refusal}
use Rattle.iox_command.specs.declared.step.StepBefore.{StepBefore}
use Rattle.iox_negotiate_table.specs.Describe.Within.{HasForm}
use Rattle.iox_hub_base.specs.DescribeBase.declared.message_type.MessageTypeDetails.{MessageTypeDetails}
use Rattle.iox_hub_base.specs.DescribeBase.declared.pattern.MessagingPattern.{MessagingPattern}
use Rattle.iox_hub_base.specs.Opening.{Made}
use Rattle.iox_hub_commands.specs.Steps.{PublishesInForm, lists_of}
use Rattle.iox_negotiate_table.specs.declared.step.ForeignStep.{ForeignStep}
use Rattle.iox_container.specs.NumberTable.{inserted}
use Rattle.iox_hub_commands.specs.ServicesTables.{FactoryTable, SameNumbers, pattern_in, parts_of}
use Rattle.iox_hub_commands.specs.declared.services.made.MadeFactory.{MadeFactory}

-- There is capacity for one more factory. Or memory ran out for this capacity, since there was none.
abbrev pub MakesRoom : FactoryTable → Result (Unit {0}) AllocError → FactoryTable → Type 0
MakesRoom old (Ok done) new = SameNumbers old new × (length new.entries < new.room)
MakesRoom old (Err lacking) new = (new ≡ old) × (old.room ≤ length old.entries)

-- There is capacity for one more factory, or the table is as it was; the lists of actions are made, and what the actions publish has the
-- form of a description. Or memory ran out for one of these, since actions are named or there was no capacity.
abbrev pub Prepares : List ℕ → MessageTypeDetails → List StepBefore → FactoryTable → Result (List (List ForeignStep)) AllocError
    → FactoryTable → Type 0
Prepares name types steps old (Ok lists) new = SameNumbers old new × (lists ≡ lists_of name types steps)
    × ((length new.entries < new.room) ⊎ (new ≡ old)) × AllByRecursion (AllByRecursion PublishesInForm) lists
Prepares name types steps old (Err lacking) new = SameNumbers old new × (steps ≡ [] → old.room ≤ length old.entries)

-- A factory that was opened, of a service of this pattern, gets the next number, which is answered; the description that it carries has the
-- form of a description. A refusal is reported, and no number is given.
abbrev pub Numbers : {E : Type 0} → MessagingPattern → (E → Refusal) → Result Made E → FactoryTable → Result ℕ Refusal → FactoryTable
    → Type 0
Numbers pattern refusal (Ok parts) old answer new =
    (factory : MadeFactory) × (pattern_in factory ≡ pattern) × (parts_of factory ≡ parts) × (new ≡ inserted old factory)
    × (answer ≡ Ok old.next)
    × HasForm parts.0.service.description
Numbers pattern refusal (Err error) old answer new = (answer ≡ Err (refusal error)) × (new ≡ old)

-- A service is opened as the third argument says, and its factory gets the next number.
abbrev pub GetsNumber : {H E : Type 0} → MessagingPattern → (E → Refusal) → (H → Result Made E → H → Type 0) → FactoryTable → H
    → Result ℕ Refusal → FactoryTable → H → Type 0
GetsNumber {H} {E} pattern refusal opens table old answer after new = (opened : Result Made E) × opens old opened new
    × Numbers pattern refusal opened table answer after

-- Nothing happens, and nothing is answered.
abbrev pub IsSkipped : {H A : Type 0} → FactoryTable → H → Option A → FactoryTable → H → Type 0
IsSkipped table old answer after new = (answer ≡ None) × (after ≡ table) × (new ≡ old)

-- The call is refused at once for this reason, and nothing else happens.
abbrev pub IsRefusedAtOnce : {H : Type 0} → Refusal → FactoryTable → H → Option (Result ℕ Refusal) → FactoryTable → H → Type 0
IsRefusedAtOnce refusal table old answer after new = (answer ≡ Some (Err refusal)) × (after ≡ table) × (new ≡ old)

-- A refusal is answered, and nothing else happens.
abbrev pub IsRefusedWith : {H : Type 0} → Refusal → FactoryTable → H → Result ℕ Refusal → FactoryTable → H → Type 0
IsRefusedWith refusal table old answer after new = (answer ≡ Err refusal) × (after ≡ table) × (new ≡ old)
