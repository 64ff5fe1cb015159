-- Any number of runs with handlers: a run goes on from any state that its hub represents.
use Rattle.std.specs.Prelude.{ℕ, ◌+◌, ◌≡◌, ◌≤◌, ◌^◌, ◌<◌, ◌⊎◌, Bool, true, false, List, [], ◌∷◌, ◌++◌, length, map, Option, Result}
use Rattle.std.specs.Prelude.{Ok, Err}
use Rattle.std.specs.declared.alloc.AllocError.{AllocError}
use Rattle.iox_hub_commands.specs.Command.declared.command.Command.TheVariants as command
use Rattle.std.specs.List.{AllByRecursion}
use Rattle.iox_hub_commands.specs.Command.declared.reply.Reply.{Reply}
use Rattle.iox_hub_commands.specs.Command.declared.reply.Reply.TheVariants as reply
use Rattle.iox_hub_commands.specs.DomainValues.declared.backpressure.BackpressureAction.{BackpressureAction}
use Rattle.iox_hub_commands.specs.DomainValues.declared.backpressure_strategy.BackpressureStrategy.{BackpressureStrategy}
use Rattle.iox_hub_commands.specs.DomainValues.declared.degradation.DegradationAction.{DegradationAction}
use Rattle.iox_hub_commands.specs.Runs.{IsRun}
use Rattle.iox_hub_commands.specs.Terms.{Terms}
use Rattle.iox_hub_commands.specs.declared.numbered_hub.NumberedHub.{NumberedHub}
use Rattle.iox_hub_machine.specs.ArrivalLaws.{AnswersAsFixed, DecidesAsFixed}
use Rattle.iox_hub_machine.specs.GoingOnLaws.{IsOneOn, NewestFits}
use Rattle.iox_hub_machine.specs.Ran.{StandsAfter}
use Rattle.iox_hub_machine.specs.RunLaws.{AsksAmong, all_asked}
use Rattle.iox_hub.specs.Steps.{HandledStep}
use Rattle.iox_hub.specs.Turns.{Turn, answered_in, asked_in, choices_of, finds_handlers, handed_in, turns, without_places}
use Rattle.iox_hub.specs.declared.given.GivenHandler.{GivenHandler}
use Rattle.iox_hub.specs.declared.handled_command.HandledCommand.{HandledCommand}
use Rattle.iox_machine.specs.AgreementLaws.{HasOne}
use Rattle.iox_machine.specs.Choices.{Handed}
use Rattle.iox_machine.specs.Run as machine
use Rattle.iox_machine.specs.State.{State}
use Rattle.iox_negotiate_machine.specs.Laws.{HaveOwnHashes}

-- The parameters: the terms of the hub, and the handlers that are made of handed-in ones.
module _ {T U B D P : Type 0} (terms : Terms T U B D)
    (handled : BackpressureStrategy → Option BackpressureAction → DegradationAction → Option P → Option D → B) where
  -- Each port that one of these turns created has the handlers that were handed in for it there.
  pub record HaveTheirHandlers (handed : Handed B D) (all : List (Turn T P D)) : Type 0 where
    pub publishers : (number : ℕ) → HasOne (λ turn. turn.answer ≡ reply.PublisherMade number) all
        → handed.publishers number ≡ (handed_in handled all).publishers number
    pub subscribers : (number : ℕ) → HasOne (λ turn. turn.answer ≡ reply.SubscriberMade number) all
        → handed.subscribers number ≡ (handed_in handled all).subscribers number

  -- A hub at which a run stopped represents the state that the run reached. Or the run stopped at a receive, the machine may give some
  -- reply to it, and the hub represents the machine's state after it; this holds if the values of the newest sample fit in a vector.
  abbrev pub StandsStopped : Handed B D → List (List ℕ) → ℕ → ℕ → List (HandledCommand T) → List (Reply T) → NumberedHub T U B D → State T
      → Type 0
  StandsStopped handed names most buffer commands replies hub state =
      StandsAfter terms.types (choices_of terms handed) terms.degrades terms.decides terms.reader_degrades names most hub state
      ⊎ ((first : List (HandledCommand T)) × (one : HandledCommand T) × (rest : List (HandledCommand T)) × (subscriber : ℕ)
      × (commands ≡ first ++ one ∷ rest) × (length first ≡ length replies) × (without_places one ≡ command.Receive subscriber)
      × (NewestFits hub → (answer : Reply T) × IsOneOn terms.types (choices_of terms handed) terms.degrades terms.decides
      terms.reader_degrades names most buffer (without_places one) state answer hub))

  -- If a hub represents a state, the machine may give the replies of a run from there, and the hub that gave the last reply represents the
  -- state that the machine reaches; this is the hub after the run, unless the run stopped, and then `StandsStopped` says what the hub
  -- represents. The machine has any handlers that are those of this run for the ports that it creates, so runs one after the other are one
  -- run of a machine that has the handlers of all. This holds if no two services of the names that are asked for share a hash, commands and
  -- actions of other nodes, with those before, are fewer than 2 ^ 56, and handlers that are made of fixed actions decide by these.
  abbrev pub GoesOnWithHandlers : List (HandledCommand T) → NumberedHub T U B D → List (Option (GivenHandler P D)) → List (Reply T) → Bool
      → NumberedHub T U B D → Type 0
  GoesOnWithHandlers commands old given replies stopped new =
      let plain = map (λ command. without_places command) commands in
      let all = turns commands replies given in
      (handed : Handed B D) (names : List (List ℕ)) (most : ℕ) (state : State T)
      → DecidesAsFixed terms.fixed terms.degrades terms.decides → AnswersAsFixed terms.fixed_reader terms.reader_degrades
      → HaveOwnHashes names → AllByRecursion (AsksAmong names) plain → most + all_asked plain < 2 ^ 56 → HaveTheirHandlers handed all
      → StandsAfter terms.types (choices_of terms handed) terms.degrades terms.decides terms.reader_degrades names most old state
      → (after : State T) × (reached : NumberedHub T U B D) × (later : ℕ) × (later ≤ most + all_asked plain)
      × machine.Runs terms.types (choices_of terms handed) old.hub.expired_connection_buffer (asked_in all) state (answered_in all) after
      × StandsAfter terms.types (choices_of terms handed) terms.degrades terms.decides terms.reader_degrades names later reached after
      × (reached.hub.expired_connection_buffer ≡ old.hub.expired_connection_buffer)
      × AllByRecursion (λ turn. finds_handlers turn.command turn.given ≡ false → turn.answer ≡ reply.Skipped) all
      × (stopped ≡ false → reached ≡ new)
      × (stopped ≡ true → StandsStopped handed names later old.hub.expired_connection_buffer commands replies new after)

  -- Each run goes on so.
  abbrev pub HandledRunsGoOn : Type 0
  HandledRunsGoOn = (commands : List (HandledCommand T)) (old new : NumberedHub T U B D × List (Option (GivenHandler P D)))
      (replies : List (Reply T)) (stopped : Bool) → IsRun (HandledStep terms handled) commands old replies stopped new
      → GoesOnWithHandlers commands old.0 old.1 replies stopped new.0

  -- One command goes on as a run of this command alone, which stops if the command has no reply.
  abbrev pub StepGoesOnWithHandlers : HandledCommand T → NumberedHub T U B D → List (Option (GivenHandler P D))
      → Result (Reply T) AllocError → NumberedHub T U B D → Type 0
  StepGoesOnWithHandlers one old given (Ok answer) new = GoesOnWithHandlers (one ∷ []) old given (answer ∷ []) false new
  StepGoesOnWithHandlers one old given (Err lacking) new = GoesOnWithHandlers (one ∷ []) old given [] true new

  -- Two runs that replied to all, one after the other, are one run: the machine may give the replies of both to the commands of both. So
  -- any number of runs and steps are one run, in which the machine has the handlers of all.
  abbrev pub TwoRunsAreOne : Type 0
  TwoRunsAreOne = (first second : List (HandledCommand T)) (old mid new : NumberedHub T U B D)
      (given left : List (Option (GivenHandler P D))) (replies told : List (Reply T))
      → GoesOnWithHandlers first old given replies false mid → GoesOnWithHandlers second mid left told false new
      → let firstly = turns first replies given in
      let secondly = turns second told left in
      let asked = map (λ command. without_places command) first in
      let later = map (λ command. without_places command) second in
      (handed : Handed B D) (names : List (List ℕ)) (most : ℕ) (state : State T)
      → DecidesAsFixed terms.fixed terms.degrades terms.decides → AnswersAsFixed terms.fixed_reader terms.reader_degrades
      → HaveOwnHashes names → AllByRecursion (AsksAmong names) asked → AllByRecursion (AsksAmong names) later
      → most + all_asked asked + all_asked later < 2 ^ 56 → HaveTheirHandlers handed firstly → HaveTheirHandlers handed secondly
      → StandsAfter terms.types (choices_of terms handed) terms.degrades terms.decides terms.reader_degrades names most old state
      → (after : State T) × (count : ℕ) × (count ≤ most + all_asked asked + all_asked later)
      × machine.Runs terms.types (choices_of terms handed) old.hub.expired_connection_buffer (asked_in firstly ++ asked_in secondly) state
      (answered_in firstly ++ answered_in secondly) after
      × StandsAfter terms.types (choices_of terms handed) terms.degrades terms.decides terms.reader_degrades names count new after
      × (new.hub.expired_connection_buffer ≡ old.hub.expired_connection_buffer)
