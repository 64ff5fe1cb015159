-- What `open_or_create` answers while other nodes act.
use Rattle.std.specs.Prelude.{ℕ, zero, suc, ◌+◌, ◌≡◌, ◌⊎◌, false, List, MatchOption}
use Rattle.iox_machine.specs.Agreement.{unfit}
use Rattle.iox_machine.specs.Asked.{settings_of}
use Rattle.iox_machine.specs.Choices.{Choices}
use Rattle.iox_machine.specs.MeanwhileLaws.{RoundAnswers, phase_before}
use Rattle.iox_machine.specs.OnceLaws.{is_skipped}
use Rattle.iox_machine.specs.Phase.{Phase, Absent}
use Rattle.iox_machine.specs.Run.{Step}
use Rattle.iox_machine.specs.ServiceReplyLaws.{create_told, open_told, told_within, unfit_told}
use Rattle.iox_machine.specs.State.{State}
use Rattle.iox_command.specs.NegotiateBase.DescribeBase.Attributes.{Required}
use Rattle.iox_command.specs.NegotiateBase.DescribeBase.declared.message_type.MessageTypeDetails.{MessageTypeDetails}
use Rattle.iox_command.specs.NegotiateBase.declared.errors.event.EventCreateError.TheVariants as event_create
use Rattle.iox_command.specs.NegotiateBase.declared.errors.event.EventOpenError.TheVariants as event_open
use Rattle.iox_command.specs.NegotiateBase.declared.errors.event.EventOpenOrCreateError.TheVariants as event_either
use Rattle.iox_command.specs.NegotiateBase.declared.errors.publish_subscribe.PublishSubscribeCreateError.TheVariants as
    publish_subscribe_create
use Rattle.iox_command.specs.NegotiateBase.declared.errors.publish_subscribe.PublishSubscribeOpenError.TheVariants as publish_subscribe_open
use Rattle.iox_command.specs.NegotiateBase.declared.errors.publish_subscribe.PublishSubscribeOpenOrCreateError.TheVariants as
    publish_subscribe_either
use Rattle.iox_command.specs.NegotiateBase.declared.errors.request_response.RequestResponseCreateError.TheVariants as
    request_response_create
use Rattle.iox_command.specs.NegotiateBase.declared.errors.request_response.RequestResponseOpenError.TheVariants as request_response_open
use Rattle.iox_command.specs.NegotiateBase.declared.errors.request_response.RequestResponseOpenOrCreateError.TheVariants as
    request_response_either
use Rattle.iox_command.specs.Patterns.{pattern_of}
use Rattle.iox_command.specs.declared.command.Command.TheVariants as command
use Rattle.iox_command.specs.declared.refusal.Refusal.{Refusal}
use Rattle.iox_command.specs.declared.refusal.Refusal.TheVariants as refusal
use Rattle.iox_command.specs.declared.reply.Reply.{Reply}
use Rattle.iox_command.specs.declared.reply.Reply.TheVariants as reply
use Rattle.iox_command.specs.declared.service.ServiceOptions.{ServiceOptions}
use Rattle.iox_command.specs.declared.service.ServiceOptions.TheVariants as options
use Rattle.iox_command.specs.declared.step.StepBefore.{StepBefore}

-- The refusal of an `open_or_create` that found another lifetime in each of its rounds, by the service's pattern.
abbrev pub in_flux : ServiceOptions → Refusal
in_flux (options.PublishSubscribe named) = refusal.PublishSubscribeOpenOrCreate publish_subscribe_either.SystemInFlux
in_flux (options.Event named) = refusal.EventOpenOrCreate event_either.SystemInFlux
in_flux (options.RequestResponse named) = refusal.RequestResponseOpenOrCreate request_response_either.SystemInFlux

module _ {T : Type 0} (told : Reply T) (number : ℕ) (named : ServiceOptions) (types : MessageTypeDetails) (required : Required)
    (node : ℕ) where
  -- The answer, by the phase that the lock finds. If the service is absent, the answer is the number of the new factory. Otherwise another
  -- node came first, and `Next` says what the next round answers.
  abbrev pub LockTells : Type 0 → Phase → Type 0
  LockTells Next (Absent lives) = told ≡ reply.FactoryMade number
  LockTells Next found = Next

  -- The answer of a round, by the phase that its lookup finds and the phase `later` that its second access finds. If the lookup finds no
  -- service, it says why the settings are impossible, or what the lock leads to. Otherwise it is the answer of a round of an opening.
  abbrev pub EitherRoundTells : Phase → Type 0 → Phase → Type 0
  EitherRoundTells later Next (Absent lives) =
      MatchOption (unfit (settings_of types named)) (LockTells Next later) (λ failure. told ≡ reply.Refused (unfit_told named failure))
  EitherRoundTells later Next looked = RoundAnswers told number named types required node later Next looked

  -- The answer of at most this many rounds that begin in this phase, after this many accesses.
  abbrev pub EitherRoundsTell : List StepBefore → ℕ → Phase → ℕ → Type 0
  EitherRoundsTell steps zero phase accesses = told ≡ reply.Refused (in_flux named)
  EitherRoundsTell steps (suc rounds) phase accesses =
      let looked = phase_before types (pattern_of named) steps phase (accesses + 1) in
      let later = phase_before types (pattern_of named) steps looked (accesses + 1 + 1) in
      EitherRoundTells later (EitherRoundsTell steps rounds later (accesses + 1 + 1)) looked

module _ {T : Type 0} (choices : Choices T) where
  -- What an `open_or_create` that isn't skipped answers, whatever other nodes do before its accesses: that memory ran out, or what follows
  -- from the phases that it finds in at most five rounds. It wraps a refusal of an opening or a creation in its own error.
  abbrev pub EitherAnswersMeanwhile : Type 0
  EitherAnswersMeanwhile = (types : MessageTypeDetails) (buffer node : ℕ) (name : List ℕ) (named : ServiceOptions) (required : Required)
      (steps : List StepBefore) (old : State T) (answer : Reply T) (new : State T)
      → is_skipped answer ≡ false → Step types choices buffer (command.OpenOrCreate node name named required steps) old answer new
      → (told : Reply T) × (answer ≡ told_within told)
      × ((told ≡ reply.Refused (open_told named publish_subscribe_open.OutOfMemory event_open.OutOfMemory
      request_response_open.OutOfMemory))
      ⊎ ((told ≡ reply.Refused (create_told named publish_subscribe_create.OutOfMemory event_create.OutOfMemory
      request_response_create.OutOfMemory))
      ⊎ EitherRoundsTell told (old.made.factories + 1) named types required node steps 5 (old.phases (pattern_of named) name) 0))
