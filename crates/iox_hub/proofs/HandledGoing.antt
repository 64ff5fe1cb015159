-- A run with handlers goes on from any state that its hub represents.
use Rattle.std.proofs.Common.{◌≡◌, ◌∙◌, ◌++◌, ℕ, Bool, true, false, List, [], ◌∷◌, Option, Result, Ok, Err}
use Rattle.std.proofs.Common.{refl, sym, ap, subst, inr, arith}
use Rattle.std.specs.declared.alloc.AllocError.{AllocError}
use Rattle.iox_hub_commands.specs.Command.declared.command.Command.{Command}
use Rattle.iox_hub_commands.specs.Command.declared.reply.Reply.{Reply}
use Rattle.iox_hub_commands.specs.DescribeBase.declared.message_type.MessageTypeDetails.{MessageTypeDetails}
use Rattle.iox_hub_commands.specs.DomainValues.declared.backpressure.BackpressureAction.{BackpressureAction}
use Rattle.iox_hub_commands.specs.DomainValues.declared.backpressure_strategy.BackpressureStrategy.{BackpressureStrategy}
use Rattle.iox_hub_commands.specs.DomainValues.declared.degradation.DegradationAction.{DegradationAction}
use Rattle.iox_hub_commands.specs.Terms.{Terms}
use Rattle.iox_hub_commands.specs.declared.numbered_hub.NumberedHub.{NumberedHub}
use Rattle.iox_hub_machine.specs.GoingOnLaws.{DecidedRunsGoOn}
use Rattle.iox_hub_machine.specs.Ran.{StandsAfter}
use Rattle.iox_hub.proofs.HandledChoices.{AreKnown}
use Rattle.iox_hub.proofs.HandledRuns.{stopped_goes, whole_goes}
use Rattle.iox_hub.specs.HandledGoing.{HandledRunsGoOn, HaveTheirHandlers, StepGoesOnWithHandlers, TwoRunsAreOne}
use Rattle.iox_hub.specs.Steps.{HandledStep}
use Rattle.iox_hub.specs.Turns.{Turn, answered_in, asked_in, choices_of, turns}
use Rattle.iox_hub.specs.declared.given.GivenHandler.{GivenHandler}
use Rattle.iox_hub.specs.declared.handled_command.HandledCommand.{HandledCommand}
use Rattle.iox_machine.specs.Choices.{Choices, Handed}
use Rattle.iox_machine.specs.Run as machine
use Rattle.iox_machine.specs.State.{Made, State}

module _ {T : Type 0} (types : MessageTypeDetails) (choices : Choices T) (buffer : ℕ) where
  -- a run after a run
  runs_both : (first second : List (Command T)) (old mid new : State T) (answers told : List (Reply T))
      → machine.Runs types choices buffer first old answers mid → machine.Runs types choices buffer second mid told new
      → machine.Runs types choices buffer (first ++ second) old (answers ++ told) new
  runs_both [] second old mid new answers told (none, same) rest =
      subst (λ (these : List (Reply T)). machine.Runs types choices buffer second old (these ++ told) new) (sym none)
      (subst (λ (from : State T). machine.Runs types choices buffer second from told new) same rest)
  runs_both (one ∷ first) second old mid new answers told (answer, between, more, step, runs, is) rest = (
    answer,
    between,
    more ++ told,
    step,
    runs_both first second between mid new more told runs rest,
    ap (λ (these : List (Reply T)). these ++ told) is,
  )

module _ {T U B D P : Type 0} (terms : Terms T U B D)
    (handled : BackpressureStrategy → Option BackpressureAction → DegradationAction → Option P → Option D → B) where
  known : (handed : Handed B D) (all : List (Turn T P D)) (made : Made) → HaveTheirHandlers terms handled handed all
      → AreKnown handled handed all made
  known handed all made have = record {
    publishers = λ number above has. have.publishers number has;
    subscribers = λ number above has. have.subscribers number has;
  }

  differs : {A : Type 0} → true ≡ false → A
  differs is = cc

  pub runs_go_on : ((handed : Handed B D) → DecidedRunsGoOn terms.types (choices_of terms handed) terms.degrades terms.decides
      terms.reader_degrades terms.payload terms.user_header terms.is_default_header)
      → HandledRunsGoOn terms handled
  runs_go_on on commands old new replies false runs handed names most state decides_so answers_so own asks few have stands =
      let it = whole_goes terms handled decides_so answers_so handed (on handed) names own commands most old new state replies asks few
      (known handed _ state.made have) stands runs in
      (it.after, new.0, it.later, it.few, it.runs, it.stands, it.kept, it.skips, (λ is. refl), (λ is. differs (sym is)))
  runs_go_on on commands old new replies true runs handed names most state decides_so answers_so own asks few have stands =
      let (hub, it, stopped) = stopped_goes terms handled decides_so answers_so handed (on handed) names own commands most old new state
      replies asks few (known handed _ state.made have) stands runs in
      (it.after, hub, it.later, it.few, it.runs, it.stands, it.kept, it.skips, (λ is. differs is), (λ is. stopped))

  pub step_goes_on : HandledRunsGoOn terms handled → (one : HandledCommand T)
      (old new : NumberedHub T U B D × List (Option (GivenHandler P D))) (answer : Result (Reply T) AllocError)
      → HandledStep terms handled one old answer new → StepGoesOnWithHandlers terms handled one old.0 old.1 answer new.0
  step_goes_on on one old new (Ok answer) step =
      on (one ∷ []) old new (answer ∷ []) false (answer, new, [], step, (refl, refl), refl)
  step_goes_on on one old new (Err lacking) step =
      on (one ∷ []) old new [] true (inr ([], one, [], old, lacking, refl, (refl, refl), step))

  pub two_are_one : TwoRunsAreOne terms handled
  two_are_one first second old mid new given left replies told goes then handed names most state decides_so answers_so own asks after_asks
      few have also stands =
      let (between, reached, count, most_so, runs, stood, kept, skips, same, stopped) = goes handed names most state decides_so answers_so
      own asks (omega (arith, few)) have stands in
      let is : reached ≡ mid = same refl in
      let stood_mid = subst (λ (hub : NumberedHub T U B D). StandsAfter terms.types (choices_of terms handed) terms.degrades terms.decides
      terms.reader_degrades names count hub between) is stood in
      let (after, there, later, later_so, more, stand, keeps, skipped, equal, ended) = then handed names count between decides_so answers_so
      own after_asks (omega (arith, few, most_so)) also stood_mid in
      let buffer : mid.hub.expired_connection_buffer ≡ old.hub.expired_connection_buffer
      = subst (λ (hub : NumberedHub T U B D). hub.hub.expired_connection_buffer ≡ old.hub.expired_connection_buffer) is kept in
      let now : there ≡ new = equal refl in (
        after,
        later,
        omega (arith, most_so, later_so),
        runs_both terms.types (choices_of terms handed) old.hub.expired_connection_buffer (asked_in (turns first replies given))
            (asked_in (turns second told left)) state between after (answered_in (turns first replies given))
            (answered_in (turns second told left)) runs
            (subst (λ (n : ℕ). machine.Runs terms.types (choices_of terms handed) n (asked_in (turns second told left)) between
            (answered_in (turns second told left)) after) buffer more),
        subst (λ (hub : NumberedHub T U B D). StandsAfter terms.types (choices_of terms handed) terms.degrades terms.decides
            terms.reader_degrades names later hub after) now stand,
        subst (λ (hub : NumberedHub T U B D). hub.hub.expired_connection_buffer ≡ old.hub.expired_connection_buffer) now (keeps ∙ buffer),
      )
