-- What the calls that create and open services have in common: their first lookup, and what follows if it isn't a refusal.
use Rattle.std.specs.Prelude.{ℕ, ◌≡◌, Bool, List, Option, Some, Result}
use Rattle.std.specs.declared.alloc.AllocError.{AllocError}
use Rattle.iox_command.specs.NegotiateBase.declared.failure.CreateFailure.{CreateFailure}
use Rattle.iox_command.specs.declared.refusal.Refusal.{Refusal}
use Rattle.iox_command.specs.declared.service.ServiceOptions.{ServiceOptions}
use Rattle.iox_command.specs.declared.step.StepBefore.{StepBefore}
use Rattle.iox_hub_base.specs.DescribeBase.Attributes.{Required}
use Rattle.iox_hub_base.specs.DescribeBase.Detail.{Detail}
use Rattle.iox_hub_base.specs.DescribeBase.declared.attribute.Attribute.{Attribute}
use Rattle.iox_hub_base.specs.DescribeBase.declared.message_type.MessageTypeDetails.{MessageTypeDetails}
use Rattle.iox_hub_base.specs.declared.hub.HashState.{HashState}
use Rattle.iox_hub_base.specs.declared.hub.Hub.{Hub}
use Rattle.iox_machine.specs.Asked.{settings_of}
use Rattle.iox_negotiate_table.specs.declared.step.ForeignStep.{ForeignStep}
use Rattle.iox_hub_commands.specs.Creating.{CreatesAs, CreatesNumbered, CreatesPrepared, create_lacking}
use Rattle.iox_hub_commands.specs.Either.{EitherAs, EitherNumbered, EitherPrepared, either_lacking}
use Rattle.iox_hub_commands.specs.Opening.{OpensAs, OpensNumbered, OpensPrepared, open_lacking}
use Rattle.iox_hub_commands.specs.Refusing.{IsUncreated, create_told, either_told, open_told}
use Rattle.iox_hub_commands.specs.ServicesNumbering.{Prepares}
use Rattle.iox_hub_commands.specs.ServicesTables.{FactoryTable}
use Rattle.iox_hub_commands.specs.declared.services.asked.ServiceAsked.{ServiceAsked}
use Rattle.iox_hub_commands.specs.declared.services.opening_call.OpeningCall.{OpeningCall}
use Rattle.iox_hub_commands.specs.declared.services.opening_call.OpeningCall.TheVariants as opening

-- Which statement applies to the call and its attributes: `creates`, `opens`, or `either` for `open_or_create`.
abbrev pub ByCall : OpeningCall → (List Attribute → Type 0) → (Required → Type 0) → (Required → Type 0) → Type 0
ByCall (opening.Create attributes) creates opens either = creates attributes.now
ByCall (opening.Open attributes) creates opens either = opens attributes
ByCall (opening.OpenOrCreate attributes) creates opens either = either attributes

-- The call opens a service as these options ask, and its factory gets a number.
abbrev pub OpensByCall : {T U B D : Type 0} → OpeningCall → ServiceOptions → Detail → Detail → MessageTypeDetails → ℕ → List ℕ
    → List (List ForeignStep) → FactoryTable → Hub T U B D → Result ℕ Refusal → FactoryTable → Hub T U B D → Type 0
OpensByCall call named payload user_header types node name lists table old answer after new = ByCall call
    (λ attributes. CreatesAs named payload user_header types node name attributes lists table old answer after new)
    (λ attributes. OpensAs named payload user_header types node name attributes lists table old answer after new)
    (λ attributes. EitherAs named payload user_header types node name attributes lists table old answer after new)

-- The refusal of the call if memory runs out before the first storage operation.
abbrev pub lacking_of : OpeningCall → ServiceOptions → Refusal
lacking_of (opening.Create attributes) named = create_lacking named
lacking_of (opening.Open attributes) named = open_lacking named
lacking_of (opening.OpenOrCreate attributes) named = either_lacking named

-- The call opens the service that is asked for, after the lists of actions and the capacity were made; or memory ran out for them.
abbrev pub OpensUnlessLacking : {T U B D : Type 0} → OpeningCall → Detail → Detail → MessageTypeDetails → ServiceAsked → List StepBefore
    → FactoryTable → Hub T U B D → Option (Result ℕ Refusal) → FactoryTable → Hub T U B D → Type 0
OpensUnlessLacking call payload user_header types asked steps table old answer after new =
    (prepared : Result (List (List ForeignStep)) AllocError) × (roomier : FactoryTable) × (reply : Result ℕ Refusal)
    × Prepares asked.name types steps table prepared roomier
    × ByCall call
    (λ attributes. CreatesPrepared prepared payload user_header types asked attributes roomier old reply after new)
    (λ attributes. OpensPrepared prepared payload user_header types asked attributes roomier old reply after new)
    (λ attributes. EitherPrepared prepared payload user_header types asked attributes roomier old reply after new)
    × (answer ≡ Some reply)

-- What the call reports before anything is allocated: why it fails, or nothing. This follows from the settings, if the call may create, and
-- from what its first lookup finds.
abbrev pub IsToldFirst : OpeningCall → MessageTypeDetails → ServiceOptions → Option HashState → Option Refusal → Type 0
IsToldFirst (opening.Create attributes) types named found told =
    (refused : Option CreateFailure) × IsUncreated (settings_of types named) refused × (told ≡ create_told named refused found)
IsToldFirst (opening.Open attributes) types named found told = told ≡ open_told named found
IsToldFirst (opening.OpenOrCreate attributes) types named found told =
    (refused : Option CreateFailure) × IsUncreated (settings_of types named) refused × (told ≡ either_told named refused found)

-- The call is made for the service that is asked for, and its factory gets a number. Nothing happens if the node wasn't made.
abbrev pub CallsNumbered : {T U B D : Type 0} → OpeningCall → Bool → Detail → Detail → MessageTypeDetails → ServiceAsked → List StepBefore
    → FactoryTable → Hub T U B D → Option (Result ℕ Refusal) → FactoryTable → Hub T U B D → Type 0
CallsNumbered call is_there payload user_header types asked steps table old answer after new = ByCall call
    (λ attributes. CreatesNumbered is_there payload user_header types asked attributes steps table old answer after new)
    (λ attributes. OpensNumbered is_there payload user_header types asked attributes steps table old answer after new)
    (λ attributes. EitherNumbered is_there payload user_header types asked attributes steps table old answer after new)
