-- Theorems about the numbers of factories: consequences of the contracts of the calls.
use Rattle.std.specs.Prelude.{ℕ, ◌≡◌, ◌≢◌, Bool, List, Option, None, Some, option_map, Result, Ok, Err}
use Rattle.iox_command.specs.Patterns.{pattern_of}
use Rattle.iox_command.specs.declared.refusal.Refusal.{Refusal}
use Rattle.iox_command.specs.declared.step.StepBefore.{StepBefore}
use Rattle.iox_hub_base.specs.DescribeBase.Attributes.{Required}
use Rattle.iox_hub_base.specs.DescribeBase.Detail.{Detail}
use Rattle.iox_hub_base.specs.DescribeBase.declared.attribute.Attribute.{Attribute}
use Rattle.iox_hub_base.specs.DescribeBase.declared.message_type.MessageTypeDetails.{MessageTypeDetails}
use Rattle.iox_hub_base.specs.DescribeBase.declared.pattern.MessagingPattern.{MessagingPattern}
use Rattle.iox_hub_base.specs.declared.hub.Hub.{Hub}
use Rattle.iox_command.specs.NegotiateBase.declared.errors.close.CloseError.{CloseError}
use Rattle.iox_command.specs.NegotiateBase.declared.errors.close.CloseError.TheVariants.{StillInUse}
use Rattle.iox_container.specs.NumberTable.{Rises, value_at}
use Rattle.iox_hub_commands.specs.Closing.{ClosesNumbered}
use Rattle.iox_hub_commands.specs.Creating.{CreatesNumbered}
use Rattle.iox_hub_commands.specs.Either.{EitherNumbered}
use Rattle.iox_hub_commands.specs.Opening.{OpensNumbered}
use Rattle.iox_hub_commands.specs.ServicesTables.{FactoryTable, pattern_in}
use Rattle.iox_hub_commands.specs.declared.services.asked.ServiceAsked.{ServiceAsked}

-- Every number names what it named before.
abbrev pub AllStay : FactoryTable → FactoryTable → Type 0
AllStay old new = (number : ℕ) → value_at new number ≡ value_at old number

-- Every number except this one names what it named before.
abbrev pub OthersStay : ℕ → FactoryTable → FactoryTable → Type 0
OthersStay number old new = (other : ℕ) → other ≢ number → value_at new other ≡ value_at old other

-- A number that is answered named nothing before, and names a factory of this pattern now. With a refusal, or without an answer, every
-- number names what it named before.
abbrev pub IsFound : MessagingPattern → FactoryTable → Option (Result ℕ Refusal) → FactoryTable → Type 0
IsFound pattern old (Some (Ok number)) new = (value_at old number ≡ None) × (option_map pattern_in (value_at new number) ≡ Some pattern)
    × OthersStay number old new
IsFound pattern old (Some (Err refusal)) new = AllStay old new
IsFound pattern old None new = AllStay old new

-- A factory that is still in use stays, and every number names what it named before if nothing is answered. With any other answer the
-- factory's number names nothing any longer.
abbrev pub IsGone : ℕ → FactoryTable → Option (Result (Unit {0}) CloseError) → FactoryTable → Type 0
IsGone number old None new = AllStay old new
IsGone number old (Some (Err StillInUse)) new = AllStay old new
IsGone number old (Some other) new = (value_at new number ≡ None) × OthersStay number old new

-- Factories are found under the numbers that were answered, until they are closed.
pub record FoundUntilClosed (T U B D : Type 0) : Type 0 where
  pub created : (is_there : Bool) (payload user_header : Detail) (types : MessageTypeDetails) (asked : ServiceAsked)
      (attributes : List Attribute) (steps : List StepBefore)
      (table : FactoryTable) (old : Hub T U B D) (answer : Option (Result ℕ Refusal)) (after : FactoryTable) (new : Hub T U B D)
      → Rises 1 table.entries table.next → CreatesNumbered is_there payload user_header types asked attributes steps table old answer
      after new → IsFound (pattern_of asked.options) table answer after
  pub opened : (is_there : Bool) (payload user_header : Detail) (types : MessageTypeDetails) (asked : ServiceAsked)
      (attributes : Required) (steps : List StepBefore)
      (table : FactoryTable) (old : Hub T U B D) (answer : Option (Result ℕ Refusal)) (after : FactoryTable) (new : Hub T U B D)
      → Rises 1 table.entries table.next → OpensNumbered is_there payload user_header types asked attributes steps table old answer
      after new → IsFound (pattern_of asked.options) table answer after
  pub opened_or_created : (is_there : Bool) (payload user_header : Detail) (types : MessageTypeDetails) (asked : ServiceAsked)
      (attributes : Required) (steps : List StepBefore)
      (table : FactoryTable) (old : Hub T U B D) (answer : Option (Result ℕ Refusal)) (after : FactoryTable) (new : Hub T U B D)
      → Rises 1 table.entries table.next → EitherNumbered is_there payload user_header types asked attributes steps table old answer
      after new → IsFound (pattern_of asked.options) table answer after
  pub closed : (number : ℕ) (table : FactoryTable) (old : Hub T U B D) (answer : Option (Result (Unit {0}) CloseError))
      (after : FactoryTable) (new : Hub T U B D)
      → Rises 1 table.entries table.next → ClosesNumbered number (value_at table number) table old answer after new
      → IsGone number table answer after
