-- Runs of commands on one hub, with handed-in handlers, and typed calls between them, as one run of the machine.
use Rattle.std.specs.Prelude.{ℕ, ◌≡◌, ◌^◌, ◌<◌, false, List, ◌++◌, codes, map, Option}
use Rattle.std.specs.List.{AllByRecursion}
use Rattle.iox_hub.specs.DomainValues.declared.backpressure.BackpressureAction.{BackpressureAction}
use Rattle.iox_hub.specs.DomainValues.declared.backpressure.BackpressureDecision.{BackpressureDecision}
use Rattle.iox_hub.specs.DomainValues.declared.backpressure.BackpressureInfo.{BackpressureInfo}
use Rattle.iox_hub.specs.DomainValues.declared.backpressure_strategy.BackpressureStrategy.{BackpressureStrategy}
use Rattle.iox_hub.specs.DomainValues.declared.degradation.DegradationAction.{DegradationAction}
use Rattle.iox_hub.specs.DomainValues.declared.degradation.DegradationCause.{DegradationCause}
use Rattle.iox_hub.specs.DomainValues.declared.degradation.DegradationInfo.{DegradationInfo}
use Rattle.iox_hub.specs.HandledGoing.{HaveTheirHandlers}
use Rattle.iox_hub.specs.Machine.Choices.{Handed}
use Rattle.iox_hub.specs.Machine.Run.{Answers}
use Rattle.iox_hub.specs.Turns.{answered_in, asked_in, choices_of, turns, without_places}
use Rattle.iox_hub.specs.declared.given.GivenHandler.{GivenHandler}
use Rattle.iox_hub.specs.declared.handled_command.HandledCommand.{HandledCommand}
use Rattle.iox_hub_commands.specs.Command.declared.command.Command.{Command}
use Rattle.iox_hub_commands.specs.Command.declared.reply.Reply.{Reply}
use Rattle.iox_hub_commands.specs.Terms.{Terms, terms_of}
use Rattle.iox_hub_commands.specs.declared.numbered_hub.NumberedHub.{NumberedHub}
use Rattle.iox_hub_machine.specs.ArrivalLaws.{AnswersAsFixed, DecidesAsFixed}
use Rattle.iox_hub_machine.specs.RunLaws.{AsksAmong, all_asked}
use Rattle.iox_hub_machine.specs.TypedSteps.{IsStepBy}
use Rattle.iox_negotiate_machine.specs.Laws.{HaveOwnHashes}

-- The terms of a hub whose messages are slices of numbers, with a number as user header, and whose ports have handlers of these kinds.
abbrev pub number_terms : {B D : Type 0} → (BackpressureStrategy → Option BackpressureAction → DegradationAction → B)
    → (B → DegradationCause → DegradationInfo → DegradationAction → Type 0) → (B → BackpressureInfo → BackpressureDecision → Type 0)
    → (DegradationAction → D) → (D → DegradationCause → DegradationInfo → DegradationAction → Type 0) → Terms ℕ ℕ B D
number_terms = terms_of (codes "u64") 8 8 (λ value. value ≡ 0) (codes "u64") 8 8 (λ header. header ≡ 0)

-- A call is a step, by this command and with this answer, of a machine whose ports have any handlers of these kinds.
abbrev pub IsHandledStep : {B D : Type 0} → Terms ℕ ℕ B D → Command ℕ → NumberedHub ℕ ℕ B D → Reply ℕ → NumberedHub ℕ ℕ B D → Type 0
IsHandledStep {B} {D} terms asked old answer new = (handed : Handed B D) → IsStepBy terms (choices_of terms handed) asked old answer new

module _ {B D P : Type 0} (terms : Terms ℕ ℕ B D)
    (handled : BackpressureStrategy → Option BackpressureAction → DegradationAction → Option P → Option D → B) (buffer : ℕ) where
  -- A new machine may give these replies to the commands of both lists, and to those of the typed calls between them. It has any handlers
  -- that are those handed in for the ports that the commands created. This holds if no two services of the names that are asked for share a
  -- hash, commands and actions of other nodes are fewer than 2 ^ 56, and handlers that are made of fixed actions decide by these.
  abbrev pub AreOneRun : List (HandledCommand ℕ) → List (Option (GivenHandler P D)) → List (Reply ℕ) → List (Command ℕ) → List (Reply ℕ)
      → List (HandledCommand ℕ) → List (Option (GivenHandler P D)) → List (Reply ℕ) → Type 0
  AreOneRun first given replies between said second left told =
      let before = turns first replies given in
      let after = turns second told left in
      let all = map (λ command. without_places command) first ++ (between ++ map (λ command. without_places command) second) in
      (handed : Handed B D) (names : List (List ℕ)) → DecidesAsFixed terms.fixed terms.degrades terms.decides
      → AnswersAsFixed terms.fixed_reader terms.reader_degrades
      → HaveOwnHashes names → AllByRecursion (AsksAmong names) all → all_asked all < 2 ^ 56
      → HaveTheirHandlers terms handled handed before → HaveTheirHandlers terms handled handed after
      → Answers terms.types (choices_of terms handed) buffer (asked_in before ++ (between ++ asked_in after)) false
      (answered_in before ++ (said ++ answered_in after))
