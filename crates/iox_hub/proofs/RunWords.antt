-- What holds of a hub over each command with handlers, and over a run of them.
use Rattle.std.proofs.Common.{List, Option, Result, Bool, refl, inl}
use Rattle.std.specs.declared.alloc.AllocError.{AllocError}
use Rattle.iox_hub_commands.specs.Agreements.{AreOfOneAgreement}
use Rattle.iox_hub_commands.specs.Command.declared.reply.Reply.{Reply}
use Rattle.iox_hub_commands.specs.Grown.{GrowsOn, OneDomainMoves}
use Rattle.iox_hub_commands.specs.DomainValues.declared.backpressure.BackpressureAction.{BackpressureAction}
use Rattle.iox_hub_commands.specs.DomainValues.declared.backpressure_strategy.BackpressureStrategy.{BackpressureStrategy}
use Rattle.iox_hub_commands.specs.DomainValues.declared.degradation.DegradationAction.{DegradationAction}
use Rattle.iox_hub_commands.specs.Lives.{ChangesOneThing, NumbersGoOn}
use Rattle.iox_hub_commands.specs.Runs.{IsRun}
use Rattle.iox_hub_commands.specs.declared.numbered_hub.NumberedHub.{NumberedHub}
use Rattle.iox_hub_commands.specs.Terms.{Terms}
use Rattle.iox_hub_commands.proofs.Grown.{none_serves}
use Rattle.iox_hub_commands.proofs.RunLemmas.{run_goes}
use Rattle.iox_hub_commands.proofs.StepChanges.{step_changes, numbers_still, numbers_go_on, numbers_on_and_on}
use Rattle.iox_hub_commands.proofs.StepMoves.{step_goes}
use Rattle.iox_hub.specs.Steps.{HandledStep}
use Rattle.iox_hub.specs.declared.given.GivenHandler.{GivenHandler}
use Rattle.iox_hub.specs.declared.handled_command.HandledCommand.{HandledCommand}
use Rattle.iox_hub.proofs.StepLemmas.{handled_goes}

module _ {T U B D P : Type 0} (terms : Terms T U B D)
    (handled : BackpressureStrategy → Option BackpressureAction → DegradationAction → Option P → Option D → B) where
  -- of all that goes by numbers there is one more, or one less, or all stays
  pub changes_by_step : (command : HandledCommand T) (old new : NumberedHub T U B D × List (Option (GivenHandler P D)))
      (answer : Result (Reply T) AllocError)
      → HandledStep terms handled command old answer new → ChangesOneThing old.0 new.0
  changes_by_step command old new answer does =
      handled_goes terms handled (λ (old new : NumberedHub T U B D). ChangesOneThing old new)
      (λ hub. inl (inl (refl, refl), ((refl, refl), (refl, refl), (refl, refl), (refl, refl))))
      (λ by by_reader command old new answer step. step_changes (record terms { fixed = by; fixed_reader = by_reader }) command old new
      answer step) command old new answer does

  -- domains grow by calls of ports
  pub grows_by_step : (command : HandledCommand T) (old new : NumberedHub T U B D × List (Option (GivenHandler P D)))
      (answer : Result (Reply T) AllocError)
      → HandledStep terms handled command old answer new → GrowsOn old.0.hub new.0.hub
  grows_by_step command old new answer does =
      handled_goes terms handled (λ (old new : NumberedHub T U B D). GrowsOn old.hub new.hub) (λ hub grown. grown)
      (λ by by_reader command old new answer step. let ((id, moves), agrees)
      = step_goes (record terms { fixed = by; fixed_reader = by_reader }) command old new answer step in moves.1)
      command old new answer does

  -- one domain moves at most
  pub apart_by_step : (command : HandledCommand T) (old new : NumberedHub T U B D × List (Option (GivenHandler P D)))
      (answer : Result (Reply T) AllocError)
      → HandledStep terms handled command old answer new → OneDomainMoves old.0.hub new.0.hub
  apart_by_step command old new answer does =
      handled_goes terms handled (λ (old new : NumberedHub T U B D). OneDomainMoves old.hub new.hub)
      (λ hub. let (id, moves) = none_serves hub.hub hub.hub refl in (id, moves.0))
      (λ by by_reader command old new answer step. let ((id, moves), agrees)
      = step_goes (record terms { fixed = by; fixed_reader = by_reader }) command old new answer step in (id, moves.0))
      command old new answer does

  -- each service has one agreement
  pub agrees_by_step : (command : HandledCommand T) (old new : NumberedHub T U B D × List (Option (GivenHandler P D)))
      (answer : Result (Reply T) AllocError)
      → HandledStep terms handled command old answer new → AreOfOneAgreement old.0.factories.made old.0.hub → AreOfOneAgreement
      new.0.factories.made new.0.hub
  agrees_by_step command old new answer does =
      handled_goes terms handled (λ (old new : NumberedHub T U B D). AreOfOneAgreement old.factories.made old.hub
      → AreOfOneAgreement new.factories.made new.hub) (λ hub are. are)
      (λ by by_reader command old new answer step. let (serves, agrees)
      = step_goes (record terms { fixed = by; fixed_reader = by_reader }) command old new answer step in agrees)
      command old new answer does

  -- no number comes again, through a run
  pub goes_on_by_run : (commands : List (HandledCommand T)) (old new : NumberedHub T U B D × List (Option (GivenHandler P D)))
      (replies : List (Reply T)) (stopped : Bool)
      → IsRun (HandledStep terms handled) commands old replies stopped new → NumbersGoOn old.0 new.0
  goes_on_by_run commands old new replies stopped ran =
      run_goes (HandledStep terms handled) (λ (old new : NumberedHub T U B D × List (Option (GivenHandler P D))). NumbersGoOn old.0 new.0)
      (λ one. numbers_still one.0) (λ old mid new first second. numbers_on_and_on old.0 mid.0 new.0 first second)
      (λ command old new answer does. numbers_go_on old.0 new.0 (changes_by_step command old new answer does))
      commands old new replies stopped ran

  -- domains grow by calls of ports, through a run
  pub grows_by_run : (commands : List (HandledCommand T)) (old new : NumberedHub T U B D × List (Option (GivenHandler P D)))
      (replies : List (Reply T)) (stopped : Bool)
      → IsRun (HandledStep terms handled) commands old replies stopped new → GrowsOn old.0.hub new.0.hub
  grows_by_run commands old new replies stopped ran =
      run_goes (HandledStep terms handled) (λ (old new : NumberedHub T U B D × List (Option (GivenHandler P D))). GrowsOn old.0.hub
      new.0.hub) (λ one grown. grown) (λ old mid new first second grown. second (first grown))
      (λ command old new answer does. grows_by_step command old new answer does)
      commands old new replies stopped ran

  -- each service has one agreement, through a run
  pub agrees_by_run : (commands : List (HandledCommand T)) (old new : NumberedHub T U B D × List (Option (GivenHandler P D)))
      (replies : List (Reply T)) (stopped : Bool)
      → IsRun (HandledStep terms handled) commands old replies stopped new → AreOfOneAgreement old.0.factories.made old.0.hub
      → AreOfOneAgreement new.0.factories.made new.0.hub
  agrees_by_run commands old new replies stopped ran =
      run_goes (HandledStep terms handled) (λ (old new : NumberedHub T U B D × List (Option (GivenHandler P D))). AreOfOneAgreement
      old.0.factories.made old.0.hub → AreOfOneAgreement new.0.factories.made new.0.hub) (λ one are. are)
      (λ old mid new first second are. second (first are))
      (λ command old new answer does. agrees_by_step command old new answer does)
      commands old new replies stopped ran
