-- Theorems about runs with handlers, in terms of the machine of `iox_machine`.
use Rattle.std.specs.Prelude.{ℕ, ◌≡◌, ◌^◌, ◌<◌, Bool, true, List, map, Option}
use Rattle.iox_hub_commands.specs.Command.declared.reply.Reply.{Reply}
use Rattle.iox_hub_commands.specs.DescribeBase.declared.pattern.MessagingPattern.{MessagingPattern}
use Rattle.iox_hub_commands.specs.Domain.declared.ports.service_ports.ServicePorts.{ServicePorts}
use Rattle.iox_hub_commands.specs.DomainValues.declared.backpressure.BackpressureAction.{BackpressureAction}
use Rattle.iox_hub_commands.specs.DomainValues.declared.backpressure_strategy.BackpressureStrategy.{BackpressureStrategy}
use Rattle.iox_hub_commands.specs.DomainValues.declared.degradation.DegradationAction.{DegradationAction}
use Rattle.iox_hub_commands.specs.HubBase.declared.hub.HubConfig.{HubConfig}
use Rattle.iox_hub_commands.specs.Numbers.{IsNew}
use Rattle.iox_hub_commands.specs.Runs.{IsRun, Runs}
use Rattle.iox_hub_commands.specs.declared.numbered_hub.NumberedHub.{NumberedHub}
use Rattle.iox_hub_commands.specs.Terms.{Terms}
use Rattle.iox_domain_machine.specs.Naming.{Naming}
use Rattle.iox_hub_machine.specs.ArrivalLaws.{AnswersAsFixed, DecidesAsFixed}
use Rattle.iox_hub_machine.specs.RunLaws.{all_asked, names_in}
use Rattle.iox_hub_machine.specs.Services.{HubStandsFor}
use Rattle.iox_hub.specs.HandledAnswers.{AnswersWithHandlers}
use Rattle.iox_hub.specs.Room.{HandledStepInRoom}
use Rattle.iox_hub.specs.Turns.{answered_in, asked_in, handed_in, turns, without_places}
use Rattle.iox_hub.specs.declared.given.GivenHandler.{GivenHandler}
use Rattle.iox_hub.specs.declared.handled_command.HandledCommand.{HandledCommand}
use Rattle.iox_hub.specs.Steps.{HandledStep}
use Rattle.iox_machine.specs.Choices.{chosen_by}
use Rattle.iox_machine.specs.Run as machine
use Rattle.iox_machine.specs.State.{State, new_state}
use Rattle.iox_negotiate_machine.specs.Laws.{HaveOwnHashes}

-- The parameters: the terms of the hub, and the handlers that are made of handed-in ones.
module _ {T U B D P : Type 0} (terms : Terms T U B D)
    (handled : BackpressureStrategy → Option BackpressureAction → DegradationAction → Option P → Option D → B) where
  -- The replies of each run of a new hub are ones that a new machine may give (`AnswersWithHandlers`), if in a run that stopped each
  -- command did what `HandledStepInRoom` says.
  abbrev pub HandledRunsAnswer : Type 0
  HandledRunsAnswer = (config : HubConfig) (commands : List (HandledCommand T))
      (old new : NumberedHub T U B D × List (Option (GivenHandler P D))) (replies : List (Reply T)) (stopped : Bool)
      → IsRun (HandledStep terms handled) commands old replies stopped new
      → (stopped ≡ true → IsRun (HandledStepInRoom terms handled) commands old replies stopped new)
      → AnswersWithHandlers terms.types terms.is_default terms.fixed handled terms.degrades terms.decides terms.fixed_reader
      terms.reader_degrades config commands old.0 old.1 replies stopped

  -- A hub that replied to commands represents a state that a new machine, with the same handed-in handlers, reaches with the same replies.
  -- So what holds of each state that a run of the machine reaches holds of the state that this hub represents.
  abbrev pub StandsWithHandlers : HubConfig → List (HandledCommand T) → List (Option (GivenHandler P D)) → NumberedHub T U B D
      → List (Reply T) → Type 0
  StandsWithHandlers config commands given new replies =
      (taken : MessagingPattern → List ℕ → List ℕ) × (naming : ℕ → Naming) × (order : List (ℕ × ServicePorts T U)) × (after : State T)
      × machine.Runs terms.types (chosen_by terms.is_default terms.decides terms.degrades terms.reader_degrades
      (handed_in handled (turns commands replies given)))
      config.expired_connection_buffer (asked_in (turns commands replies given)) new_state
      (answered_in (turns commands replies given)) after
      × HubStandsFor (chosen_by terms.is_default terms.decides terms.degrades terms.reader_degrades
      (handed_in handled (turns commands replies given)))
      terms.degrades terms.decides terms.reader_degrades (names_in (map (λ command. without_places command) commands)) taken naming order
      new after

  -- After each run that doesn't stop, the hub represents a state that a new machine reaches with the same replies (`StandsWithHandlers`).
  -- The premises are those of `AnswersWithHandlers`.
  abbrev pub HandledRunsStand : Type 0
  HandledRunsStand = (config : HubConfig) (commands : List (HandledCommand T))
      (old new : NumberedHub T U B D × List (Option (GivenHandler P D))) (replies : List (Reply T))
      → Runs (HandledStep terms handled) commands old replies new
      → DecidesAsFixed terms.fixed terms.degrades terms.decides → AnswersAsFixed terms.fixed_reader terms.reader_degrades
      → IsNew config old.0 → HaveOwnHashes (names_in (map (λ command. without_places command) commands))
      → all_asked (map (λ command. without_places command) commands) < 2 ^ 56
      → StandsWithHandlers config commands old.1 new.0 replies
