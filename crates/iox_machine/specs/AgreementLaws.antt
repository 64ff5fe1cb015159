-- Theorems about agreements: what nodes agree on under a pattern and a name, and how a new lifetime starts.
use Rattle.std.specs.Prelude.{ℕ, ◌≡◌, ◌⊎◌, ◌<◌, ◌≤◌, ◌&&◌, true, false, List, [], ◌∷◌, length, Option, None, Some, bytes_eq}
use Rattle.std.specs.List.{AllByRecursion, IsDistinct, list_any}
use Rattle.iox_machine.specs.Choices.{Choices}
use Rattle.iox_machine.specs.Agreement.{Agreement}
use Rattle.iox_machine.specs.Asked.{settings_of}
use Rattle.iox_machine.specs.Phase.{Node, Own, Phase, Absent, BeingMade, Published, Emptied, is_in, same_pattern, has_numbers}
use Rattle.iox_machine.specs.Run.{Step, Runs}
use Rattle.iox_machine.specs.Service.{Service, new_service}
use Rattle.iox_machine.specs.State.{State, Made, Factory, new_state, is_service_of}
use Rattle.iox_command.specs.NegotiateBase.DescribeBase.declared.attribute.Attribute.{Attribute}
use Rattle.iox_command.specs.NegotiateBase.DescribeBase.declared.message_type.MessageTypeDetails.{MessageTypeDetails}
use Rattle.iox_command.specs.NegotiateBase.DescribeBase.declared.pattern.MessagingPattern.{MessagingPattern}
use Rattle.iox_command.specs.NegotiateBase.DescribeBase.declared.pattern.MessagingPattern.TheVariants as pattern
use Rattle.iox_command.specs.NegotiateBase.DescribeSettings.Agreement.{max_nodes_of}
use Rattle.iox_command.specs.NegotiateBase.DescribeSettings.declared.static_config.Settings.TheVariants as settings
use Rattle.iox_command.specs.Patterns.{pattern_of}
use Rattle.iox_command.specs.declared.command.Command.{Command}
use Rattle.iox_command.specs.declared.command.Command.TheVariants as command
use Rattle.iox_command.specs.declared.reply.Reply.{Reply}
use Rattle.iox_command.specs.declared.reply.Reply.TheVariants as reply
use Rattle.iox_command.specs.declared.service.ServiceOptions.{ServiceOptions}
use Rattle.iox_command.specs.declared.step.ForeignStep.{ForeignStep}
use Rattle.iox_command.specs.declared.step.ForeignStep.TheVariants as step
use Rattle.iox_command.specs.declared.step.StepBefore.{StepBefore}

-- The number of the phase's lifetime; for an absent phase, that of the last lifetime, or 0 if there was none.
abbrev pub life_of : Phase → ℕ
life_of (Absent lives) = lives
life_of (BeingMade life by) = life
life_of (Published life agreed nodes) = life
life_of (Emptied life agreed by) = life

-- The agreement of a phase, if the phase has one.
abbrev pub agreed_in : Phase → Option Agreement
agreed_in (Published life agreed nodes) = Some agreed
agreed_in (Emptied life agreed by) = Some agreed
agreed_in other = None

-- The service is published, and `So` holds of its agreement and of the nodes that are in it.
abbrev pub IsPublished : Phase → (Agreement → List (Node × ℕ) → Type 0) → Type 0
IsPublished phase So = (life : ℕ) × (agreed : Agreement) × (nodes : List (Node × ℕ)) × (phase ≡ Published life agreed nodes)
    × So agreed nodes

module _ {T : Type 0} where
  -- No two of these services have the same name.
  abbrev pub AreApart : List (Service T) → Type 0
  AreApart services = IsDistinct (λ (one other : Service T). bytes_eq other.name one.name) services

  -- The service has the settings that are published under its name, and the hub has a factory of it.
  abbrev pub IsAgreed : State T → Service T → Type 0
  IsAgreed state service =
      IsPublished (state.phases pattern.PublishSubscribe service.name)
      (λ agreed nodes. agreed.settings ≡ settings.PublishSubscribe service.settings)
      × (list_any (λ entry. is_service_of entry.1 service) state.factories ≡ true)

  -- The service of the factory is published, and the factory's node is in it. If the service is publish-subscribe, it is open in the hub.
  abbrev pub IsIn : State T → Factory → Type 0
  IsIn state factory =
      IsPublished (state.phases factory.pattern factory.name) (λ agreed nodes. is_in (Own factory.node) nodes ≡ true)
      × (factory.pattern ≡ pattern.PublishSubscribe → list_any (is_service_of factory) state.services ≡ true)

-- Each number of the table is larger than this one.
abbrev pub AreAbove : {V : Type 0} → ℕ → List (ℕ × V) → Type 0
AreAbove number table = AllByRecursion (λ entry. number < entry.0) table

-- The number of each port, loan and sample of the service is larger than these counts.
abbrev pub IsLaterThan : {T : Type 0} → Made → Service T → Type 0
IsLaterThan made service =
    AreAbove made.publishers service.publishers × AreAbove made.subscribers service.subscribers
    × AreAbove made.loans service.loans × AreAbove made.samples service.samples

-- `Is` holds of at least one element of the list.
abbrev pub HasOne : {X : Type 0} → (X → Type 0) → List X → Type 0
HasOne Is [] = ⊥
HasOne Is (x ∷ more) = Is x ⊎ HasOne Is more

module _ (types : MessageTypeDetails) (pattern : MessagingPattern) (agreed : Agreement) where
  -- The action of another node publishes this agreement.
  abbrev pub IsPublishedBy : ForeignStep → Type 0
  IsPublishedBy (step.Publish node options) =
      (pattern_of options ≡ pattern) × (agreed ≡ record { settings = settings_of types options; attributes = [] })
  IsPublishedBy (step.PublishV1 node options) =
      (pattern_of options ≡ pattern) × (agreed ≡ record { settings = settings_of types options; attributes = [] })
      × (has_numbers agreed.settings ≡ false)
  IsPublishedBy other = ⊥

  -- The command describes this agreement under this name: it is to create such a service, or has another node publish it.
  abbrev pub Describes : {T : Type 0} → List ℕ → Command T → Type 0
  Describes name (command.Create node other options attributes steps) =
      (other ≡ name) × (pattern_of options ≡ pattern)
      × ((agreed ≡ record { settings = settings_of types options; attributes = attributes })
      ⊎ HasOne (λ before. IsPublishedBy before.step) steps)
  Describes name (command.Open node other options required steps) =
      (other ≡ name) × (pattern_of options ≡ pattern) × HasOne (λ before. IsPublishedBy before.step) steps
  Describes name (command.OpenOrCreate node other options required steps) =
      (other ≡ name) × (pattern_of options ≡ pattern)
      × ((agreed ≡ record { settings = settings_of types options; attributes = required.pairs })
      ⊎ HasOne (λ before. IsPublishedBy before.step) steps)
  Describes name (command.Foreign one other steps) = (other ≡ name) × (one ≡ pattern) × HasOne IsPublishedBy steps
  Describes name other = ⊥

module _ {T : Type 0} (choices : Choices T) where
  -- In every run of a new machine, no two services have the same name; each has the settings that are published under its name; and each
  -- factory is of a published service in which the factory's node is.
  abbrev pub OneAgreement : Type 0
  OneAgreement = (types : MessageTypeDetails) (buffer : ℕ) (asked : List (Command T)) (answers : List (Reply T)) (new : State T)
      → Runs types choices buffer asked new_state answers new
      → AreApart new.services × AllByRecursion (IsAgreed new) new.services × AllByRecursion (λ entry. IsIn new entry.1) new.factories

  -- In every run of a new machine, no more nodes are in a service than its settings allow, nodes of the hub and others together.
  abbrev pub NodesAreAgreed : Type 0
  NodesAreAgreed = (types : MessageTypeDetails) (buffer : ℕ) (asked : List (Command T)) (answers : List (Reply T)) (new : State T)
      → Runs types choices buffer asked new_state answers new
      → (pattern : MessagingPattern) (name : List ℕ) (life : ℕ) (agreed : Agreement) (nodes : List (Node × ℕ))
      → new.phases pattern name ≡ Published life agreed nodes → length nodes ≤ max_nodes_of agreed.settings

  -- In any run, the number of a lifetime never falls, and within one lifetime the agreement stays as it is.
  abbrev pub AgreementStays : Type 0
  AgreementStays = (types : MessageTypeDetails) (buffer : ℕ) (asked : List (Command T)) (old : State T) (answers : List (Reply T))
      (new : State T)
      → Runs types choices buffer asked old answers new
      → (pattern : MessagingPattern) (name : List ℕ) → life_of (old.phases pattern name) ≤ life_of (new.phases pattern name)
      × ((one other : Agreement) → life_of (new.phases pattern name) ≡ life_of (old.phases pattern name)
      → agreed_in (old.phases pattern name) ≡ Some one → agreed_in (new.phases pattern name) ≡ Some other → other ≡ one)

  -- The agreement under a pattern and a name after a command was the agreement before it, or the command describes it.
  abbrev pub AgreementIsDescribed : Type 0
  AgreementIsDescribed = (types : MessageTypeDetails) (buffer : ℕ) (asked : Command T) (old : State T) (answer : Reply T) (new : State T)
      → Step types choices buffer asked old answer new
      → (pattern : MessagingPattern) (name : List ℕ) (agreed : Agreement) → agreed_in (new.phases pattern name) ≡ Some agreed
      → (agreed_in (old.phases pattern name) ≡ Some agreed) ⊎ Describes types pattern agreed name asked

  -- A service that a node created is published exactly as the command described it, in a new lifetime, with this node alone.
  abbrev pub CreatesAsDescribed : Type 0
  CreatesAsDescribed = (types : MessageTypeDetails) (buffer node : ℕ) (name : List ℕ) (options : ServiceOptions)
      (attributes : List Attribute)
      (steps : List StepBefore) (old : State T) (number : ℕ) (new : State T)
      → Step types choices buffer (command.Create node name options attributes steps) old (reply.FactoryMade number) new
      → (life : ℕ) × (life_of (old.phases (pattern_of options) name) < life)
      × (new.phases (pattern_of options) name
      ≡ Published life (record { settings = settings_of types options; attributes = attributes }) ((Own node, 1) ∷ []))

  -- A service that is open after a command, and wasn't open before it, has no port, no mailbox, no history and no message.
  abbrev pub ServicesStartEmpty : Type 0
  ServicesStartEmpty = (types : MessageTypeDetails) (buffer : ℕ) (asked : Command T) (old : State T) (answer : Reply T) (new : State T)
      → Step types choices buffer asked old answer new
      → AllByRecursion (λ service. (list_any (λ other. bytes_eq other.name service.name) old.services ≡ true)
      ⊎ (service ≡ new_service service.name service.settings)) new.services

  -- If a new machine, after a run, has no factory of a service, it doesn't have the service either. Ports, loans and samples that a later
  -- service of the same name has get numbers that weren't given before.
  abbrev pub LivesStartAnew : Type 0
  LivesStartAnew = (types : MessageTypeDetails) (buffer : ℕ) (before : List (Command T)) (told : List (Reply T)) (old : State T)
      → Runs types choices buffer before new_state told old
      → (name : List ℕ)
      → list_any (λ entry. same_pattern entry.1.pattern pattern.PublishSubscribe && bytes_eq name entry.1.name) old.factories ≡ false
      → (list_any (λ service. bytes_eq service.name name) old.services ≡ false)
      × ((asked : List (Command T)) (answers : List (Reply T)) (new : State T) → Runs types choices buffer asked old answers new
      → AllByRecursion (λ service. bytes_eq service.name name ≡ true → IsLaterThan old.made service) new.services)
