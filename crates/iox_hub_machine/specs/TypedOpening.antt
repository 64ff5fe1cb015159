-- The typed calls that create a service, open one, or open or create it, and those by which other nodes act, as steps of the machine.
use Rattle.std.specs.Prelude.{ℕ, ◌≡◌, true, List, Some, Result}
use Rattle.std.specs.List.{AllByRecursion}
use Rattle.iox_command.specs.NegotiateBase.DescribeBase.Attributes.{Required}
use Rattle.iox_command.specs.NegotiateBase.DescribeBase.declared.attribute.Attribute.{Attribute}
use Rattle.iox_command.specs.NegotiateBase.DescribeBase.declared.pattern.MessagingPattern.{MessagingPattern}
use Rattle.iox_command.specs.declared.command.Command.TheVariants as command
use Rattle.iox_command.specs.declared.refusal.HubError.{HubError}
use Rattle.iox_command.specs.declared.refusal.Refusal.{Refusal}
use Rattle.iox_command.specs.declared.service.ServiceOptions.{ServiceOptions}
use Rattle.iox_command.specs.declared.step.ForeignStep.{ForeignStep as Named}
use Rattle.iox_command.specs.declared.step.StepBefore.{StepBefore}
use Rattle.iox_hub_base.specs.DescribeBase.Hash.{service_hash_of}
use Rattle.iox_hub_base.specs.Foreign.{ActsOn}
use Rattle.iox_hub_base.specs.Hubs.{is_node}
use Rattle.iox_hub_base.specs.declared.hub.Hub.{Hub}
use Rattle.iox_hub_commands.specs.Creating.{CreatesAs}
use Rattle.iox_hub_commands.specs.Either.{EitherAs}
use Rattle.iox_hub_commands.specs.Opening.{OpensAs}
use Rattle.iox_hub_commands.specs.Replies.{factory_reply, foreign_reply}
use Rattle.iox_hub_commands.specs.ServicesTables.{FactoryTable}
use Rattle.iox_hub_commands.specs.Steps.{PublishesInForm, list_of, lists_of}
use Rattle.iox_hub_commands.specs.Terms.{Terms}
use Rattle.iox_hub_commands.specs.declared.numbered_hub.NumberedHub.{NumberedHub}
use Rattle.iox_hub_machine.specs.TypedServices.{NewNodeIsStep, SubscriberIsStep}
use Rattle.iox_hub_machine.specs.TypedSteps.{IsStepBy, hub_after_call}
use Rattle.iox_machine.specs.Choices.{Choices}

module _ {T U B D : Type 0} where
  -- The hub after a call, with the factories that its program then holds; all else that the program holds is as it was.
  abbrev pub opened_then : NumberedHub T U B D → FactoryTable → Hub T U B D → NumberedHub T U B D
  opened_then old table hub = record old { hub = hub; factories = record { made = table } }

-- A node of a hub asks for a service, as options ask, with lists of actions of other nodes before the storage operations: those that the
-- command names, and what they publish has the form of a description. A new factory gets the next number. The parameters: the terms of the
-- hub.
module _ {T U B D : Type 0} (terms : Terms T U B D) (choices : Choices T) where
  -- Creating a service with these attributes is a step of the machine.
  abbrev pub CreateIsStep : Type 0
  CreateIsStep = (node : ℕ) (name : List ℕ) (named : ServiceOptions) (attributes : List Attribute) (steps : List StepBefore)
      (old : NumberedHub T U B D) (hub : Hub T U B D) (answer : Result ℕ Refusal) (table : FactoryTable)
      → is_node node old.hub.nodes ≡ true
      → AllByRecursion (AllByRecursion PublishesInForm) (lists_of name terms.types steps)
      → CreatesAs named terms.payload terms.user_header terms.types node name attributes (lists_of name terms.types steps)
      old.factories.made old.hub answer table hub
      → IsStepBy terms choices (command.Create node name named attributes steps) old (factory_reply (Some answer))
      (opened_then old table hub)

  -- Opening the service, if it has the required attributes, is a step of the machine.
  abbrev pub OpenIsStep : Type 0
  OpenIsStep = (node : ℕ) (name : List ℕ) (named : ServiceOptions) (required : Required) (steps : List StepBefore)
      (old : NumberedHub T U B D) (hub : Hub T U B D) (answer : Result ℕ Refusal) (table : FactoryTable)
      → is_node node old.hub.nodes ≡ true
      → AllByRecursion (AllByRecursion PublishesInForm) (lists_of name terms.types steps)
      → OpensAs named terms.payload terms.user_header terms.types node name required (lists_of name terms.types steps) old.factories.made
      old.hub answer table hub
      → IsStepBy terms choices (command.Open node name named required steps) old (factory_reply (Some answer)) (opened_then old table hub)

  -- Opening the service, or creating it with the required pairs if it doesn't exist, is a step of the machine.
  abbrev pub OpenOrCreateIsStep : Type 0
  OpenOrCreateIsStep = (node : ℕ) (name : List ℕ) (named : ServiceOptions) (required : Required) (steps : List StepBefore)
      (old : NumberedHub T U B D) (hub : Hub T U B D) (answer : Result ℕ Refusal) (table : FactoryTable)
      → is_node node old.hub.nodes ≡ true
      → AllByRecursion (AllByRecursion PublishesInForm) (lists_of name terms.types steps)
      → EitherAs named terms.payload terms.user_header terms.types node name required (lists_of name terms.types steps) old.factories.made
      old.hub answer table hub
      → IsStepBy terms choices (command.OpenOrCreate node name named required steps) old (factory_reply (Some answer))
      (opened_then old table hub)

  -- Actions of other nodes on the service of a pattern and name are a step of the machine: the actions are those that the command names,
  -- and what they publish has the form of a description.
  abbrev pub ForeignIsStep : Type 0
  ForeignIsStep = (kind : MessagingPattern) (name : List ℕ) (steps : List Named) (old : NumberedHub T U B D) (hub : Hub T U B D)
      (answer : Result (Unit {0}) HubError)
      → AllByRecursion PublishesInForm (list_of name terms.types steps)
      → ActsOn (service_hash_of kind name) (list_of name terms.types steps) old.hub answer hub
      → IsStepBy terms choices (command.Foreign kind name steps) old (foreign_reply answer) (hub_after_call old old.made hub)

  -- Each of these calls is a step, by the command that asks for the same: making a node; creating, opening, or opening or creating a
  -- service; actions of other nodes; and creating a subscriber.
  pub record ServiceCallsAreSteps : Type 0 where
    pub node : NewNodeIsStep terms choices
    pub create : CreateIsStep
    pub opening : OpenIsStep
    pub either : OpenOrCreateIsStep
    pub foreign : ForeignIsStep
    pub subscriber : SubscriberIsStep terms choices
