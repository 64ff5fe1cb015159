-- What a creation and an opening answer while other nodes act, and what commands answer that may be refused for memory alone.
use Rattle.std.specs.Prelude.{ℕ, zero, suc, ◌+◌, ◌≡◌, ◌⊎◌, false, ◌||◌, ◌==◌, nat_lt, List, length}
use Rattle.std.specs.Prelude.{fold, MatchBool, MatchOption, MatchResult}
use Rattle.iox_machine.specs.Agreement.{unfit, verdict}
use Rattle.iox_machine.specs.Asked.{settings_of}
use Rattle.iox_machine.specs.Choices.{Choices}
use Rattle.iox_machine.specs.OnceLaws.{is_skipped}
use Rattle.iox_machine.specs.Phase.{Own, Phase, Absent, BeingMade, Published, Emptied, acted, is_in}
use Rattle.iox_machine.specs.RefusalLaws.{steps_at}
use Rattle.iox_machine.specs.Run.{Step}
use Rattle.iox_machine.specs.ServiceReplyLaws.{CreationAnswers, create_told, open_told, unfit_told}
use Rattle.iox_machine.specs.State.{State}
use Rattle.iox_command.specs.NegotiateBase.DescribeBase.Attributes.{Required}
use Rattle.iox_command.specs.NegotiateBase.DescribeBase.declared.attribute.Attribute.{Attribute}
use Rattle.iox_command.specs.NegotiateBase.DescribeBase.declared.message_type.MessageTypeDetails.{MessageTypeDetails}
use Rattle.iox_command.specs.NegotiateBase.DescribeBase.declared.pattern.MessagingPattern.{MessagingPattern}
use Rattle.iox_command.specs.NegotiateBase.DescribeSettings.Agreement.{max_nodes_of}
use Rattle.iox_command.specs.NegotiateBase.declared.errors.event.EventCreateError.TheVariants as event_create
use Rattle.iox_command.specs.NegotiateBase.declared.errors.event.EventOpenError.TheVariants as event_open
use Rattle.iox_command.specs.NegotiateBase.declared.errors.publish_subscribe.PublishSubscribeCreateError.TheVariants as
    publish_subscribe_create
use Rattle.iox_command.specs.NegotiateBase.declared.errors.publish_subscribe.PublishSubscribeOpenError.TheVariants as publish_subscribe_open
use Rattle.iox_command.specs.NegotiateBase.declared.errors.request_response.RequestResponseCreateError.TheVariants as
    request_response_create
use Rattle.iox_command.specs.NegotiateBase.declared.errors.request_response.RequestResponseOpenError.TheVariants as request_response_open
use Rattle.iox_command.specs.Patterns.{pattern_of}
use Rattle.iox_command.specs.declared.command.Command.TheVariants as command
use Rattle.iox_command.specs.declared.refusal.HubError.TheVariants.{OutOfMemory}
use Rattle.iox_command.specs.declared.refusal.Refusal.{Refusal}
use Rattle.iox_command.specs.declared.refusal.Refusal.TheVariants as refusal
use Rattle.iox_command.specs.declared.reply.Reply.{Reply}
use Rattle.iox_command.specs.declared.reply.Reply.TheVariants as reply
use Rattle.iox_command.specs.declared.service.ServiceOptions.{ServiceOptions}
use Rattle.iox_command.specs.declared.step.ForeignStep.{ForeignStep}
use Rattle.iox_command.specs.declared.step.StepBefore.{StepBefore}

-- What other nodes make of a phase before the access of this number.
abbrev pub phase_before : MessageTypeDetails → MessagingPattern → List StepBefore → Phase → ℕ → Phase
phase_before types pattern steps phase access = fold (acted types pattern) phase (steps_at steps access)

module _ {T : Type 0} (answer : Reply T) (number : ℕ) (named : ServiceOptions) where
  -- What a creation answers whose lookup found no service, by the phase that its lock finds: the number of the factory if it is absent
  -- still; that another node creates the service if it is being made; and that the service exists if it is published or emptied.
  abbrev pub LockAnswers : Phase → Type 0
  LockAnswers (Absent lives) = answer ≡ reply.FactoryMade number
  LockAnswers (BeingMade life by) =
      answer ≡ reply.Refused (create_told named publish_subscribe_create.IsBeingCreatedByAnotherInstance
      event_create.IsBeingCreatedByAnotherInstance request_response_create.IsBeingCreatedByAnotherInstance)
  LockAnswers found =
      answer ≡ reply.Refused (create_told named publish_subscribe_create.AlreadyExists event_create.AlreadyExists
      request_response_create.AlreadyExists)

  -- What a creation answers, by the phase that its lookup finds, and the one that its lock finds if there is no service yet.
  abbrev pub CreationAnswersThen : Phase → Phase → Type 0
  CreationAnswersThen (Absent lives) locked = LockAnswers locked
  CreationAnswersThen looked locked = CreationAnswers answer number named looked

module _ {T : Type 0} (answer : Reply T) (number : ℕ) (named : ServiceOptions) (types : MessageTypeDetails) (required : Required)
    (node : ℕ) where
  -- What an opening answers that registers in this lifetime, by the phase that it finds then: the number of the factory, or that too many
  -- nodes are in; or that the service is marked for destruction. If that lifetime is over, `Next` says what the next round answers.
  abbrev pub RegisteringAnswers : ℕ → Type 0 → Phase → Type 0
  RegisteringAnswers life Next (Published now agreed nodes) =
      MatchBool (now == life)
      (MatchBool (is_in (Own node) nodes || nat_lt (length nodes) (max_nodes_of agreed.settings))
      (answer ≡ reply.FactoryMade number)
      (answer ≡ reply.Refused (open_told named publish_subscribe_open.ExceedsMaxNumberOfNodes event_open.ExceedsMaxNumberOfNodes
      request_response_open.ExceedsMaxNumberOfNodes)))
      Next
  RegisteringAnswers life Next (Emptied now agreed by) =
      MatchBool (now == life)
      (answer ≡ reply.Refused (open_told named publish_subscribe_open.IsMarkedForDestruction event_open.IsMarkedForDestruction
      request_response_open.IsMarkedForDestruction))
      Next
  RegisteringAnswers life Next phase = Next

  -- What a round of an opening answers, by the phase that its lookup finds: that the service doesn't exist, or hangs in creation; or the
  -- first clause that isn't met; or what registering answers, by the phase `later` that is there then.
  abbrev pub RoundAnswers : Phase → Type 0 → Phase → Type 0
  RoundAnswers later Next (Absent lives) =
      answer ≡ reply.Refused (open_told named publish_subscribe_open.DoesNotExist event_open.DoesNotExist
      request_response_open.DoesNotExist)
  RoundAnswers later Next (BeingMade life by) =
      answer ≡ reply.Refused (open_told named publish_subscribe_open.HangsInCreation event_open.HangsInCreation
      request_response_open.HangsInCreation)
  RoundAnswers later Next (Published life agreed nodes) =
      MatchResult (verdict types named required agreed) (λ met. RegisteringAnswers life Next later) (λ unmet. answer ≡ reply.Refused unmet)
  RoundAnswers later Next (Emptied life agreed by) =
      MatchResult (verdict types named required agreed) (λ met. RegisteringAnswers life Next later) (λ unmet. answer ≡ reply.Refused unmet)

  -- What at most this many rounds of an opening answer, from a phase and so many accesses on. If the lifetime was over in each, the service
  -- is reported as corrupted.
  abbrev pub RoundsAnswer : List StepBefore → ℕ → Phase → ℕ → Type 0
  RoundsAnswer steps zero phase accesses =
      answer ≡ reply.Refused (open_told named publish_subscribe_open.ServiceInCorruptedState event_open.ServiceInCorruptedState
      request_response_open.ServiceInCorruptedState)
  RoundsAnswer steps (suc rounds) phase accesses =
      let looked = phase_before types (pattern_of named) steps phase (accesses + 1) in
      let later = phase_before types (pattern_of named) steps looked (accesses + 1 + 1) in
      RoundAnswers later (RoundsAnswer steps rounds later (accesses + 1 + 1)) looked

module _ {T : Type 0} (choices : Choices T) where
  -- What a creation answers that isn't skipped, whatever other nodes do before its accesses: why its settings are impossible; otherwise
  -- that memory ran out, or what the phases say that its lookup and its lock find.
  abbrev pub CreationsAnswerMeanwhile : Type 0
  CreationsAnswerMeanwhile = (types : MessageTypeDetails) (buffer node : ℕ) (name : List ℕ) (named : ServiceOptions)
      (attributes : List Attribute) (steps : List StepBefore) (old : State T) (answer : Reply T) (new : State T)
      → is_skipped answer ≡ false → Step types choices buffer (command.Create node name named attributes steps) old answer new
      → MatchOption (unfit (settings_of types named))
      ((answer ≡ reply.Refused (create_told named publish_subscribe_create.OutOfMemory event_create.OutOfMemory
      request_response_create.OutOfMemory))
      ⊎ (let looked = phase_before types (pattern_of named) steps (old.phases (pattern_of named) name) 1 in
      CreationAnswersThen answer (old.made.factories + 1) named looked (phase_before types (pattern_of named) steps looked 2)))
      (λ failure. answer ≡ reply.Refused (unfit_told named failure))

  -- What an opening answers that isn't skipped, whatever other nodes do before its accesses: that memory ran out, or what the phases say
  -- that it finds in at most five rounds.
  abbrev pub OpeningsAnswerMeanwhile : Type 0
  OpeningsAnswerMeanwhile = (types : MessageTypeDetails) (buffer node : ℕ) (name : List ℕ) (named : ServiceOptions) (required : Required)
      (steps : List StepBefore) (old : State T) (answer : Reply T) (new : State T)
      → is_skipped answer ≡ false → Step types choices buffer (command.Open node name named required steps) old answer new
      → (answer ≡ reply.Refused (open_told named publish_subscribe_open.OutOfMemory event_open.OutOfMemory
      request_response_open.OutOfMemory))
      ⊎ RoundsAnswer answer (old.made.factories + 1) named types required node steps 5 (old.phases (pattern_of named) name) 0

  -- A command that makes a node gets the next number, and actions of other nodes are answered `Done`; or memory runs out, which is told as
  -- such.
  abbrev pub NodesAnswerSo : Type 0
  NodesAnswerSo = (types : MessageTypeDetails) (buffer : ℕ) (old : State T) (answer : Reply T) (new : State T)
      → (Step types choices buffer command.Node old answer new
      → (answer ≡ reply.NodeMade (old.made.nodes + 1)) ⊎ (answer ≡ reply.Refused (refusal.Hub OutOfMemory)))
      × ((pattern : MessagingPattern) (name : List ℕ) (steps : List ForeignStep)
      → Step types choices buffer (command.Foreign pattern name steps) old answer new
      → (answer ≡ reply.Done) ⊎ (answer ≡ reply.Refused (refusal.Hub OutOfMemory)))
