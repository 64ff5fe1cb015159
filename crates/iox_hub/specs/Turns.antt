-- Which commands and replies of a run with handlers are the machine's, and which handlers were handed in for which port.
use Rattle.std.specs.Prelude.{◌-◌, ◌==◌, Bool, true, ◌&&◌, List, [], ◌∷◌, map, filter, fold, Option}
use Rattle.std.specs.Prelude.{None, Some, is_some, unwrap_or, option_and_then, slice_set, if◌then◌else◌}
use Rattle.std.specs.Option.{option_map_or}
use Rattle.iox_hub_commands.specs.Command.declared.command.Command.{Command}
use Rattle.iox_hub_commands.specs.Command.declared.command.Command.TheVariants as command
use Rattle.iox_hub_commands.specs.Command.declared.reply.Reply.{Reply}
use Rattle.iox_hub_commands.specs.Command.declared.reply.Reply.TheVariants as reply
use Rattle.iox_hub_commands.specs.DomainValues.declared.backpressure.BackpressureAction.{BackpressureAction}
use Rattle.iox_hub_commands.specs.DomainValues.declared.backpressure_strategy.BackpressureStrategy.{BackpressureStrategy}
use Rattle.iox_hub_commands.specs.DomainValues.declared.backpressure_strategy.BackpressureStrategy.TheVariants.{RetryUntilDelivered}
use Rattle.iox_hub_commands.specs.DomainValues.declared.degradation.DegradationAction.{DegradationAction}
use Rattle.iox_hub_commands.specs.DomainValues.declared.degradation.DegradationAction.TheVariants.{Warn}
use Rattle.iox_hub.specs.Places.{lies_at, backpressure_of, degradation_of}
use Rattle.iox_hub.specs.Taking.{places_of}
use Rattle.iox_hub.specs.declared.given.GivenHandler.{GivenHandler}
use Rattle.iox_hub.specs.declared.handled_command.HandledCommand.{HandledCommand}
use Rattle.iox_hub.specs.declared.handled_command.HandledCommand.TheVariants as asked
use Rattle.iox_hub_commands.specs.Terms.{Terms}
use Rattle.iox_machine.specs.Choices.{Choices, Handed, chosen_by}

-- The choices by which ports that were handed handlers do what these may answer, and every other port what was named for it.
abbrev pub choices_of : {T U B D : Type 0} → Terms T U B D → Handed B D → Choices T
choices_of terms handed = chosen_by terms.is_default terms.decides terms.degrades terms.reader_degrades handed

-- The command without the places that it names.
abbrev pub without_places : {T : Type 0} → HandledCommand T → Command T
without_places (asked.Plain command) = command
without_places (asked.Publisher factory options at_full at_failure) = command.Publisher factory options
without_places (asked.Subscriber factory options at_failure) = command.Subscriber factory options

-- A turn of a run: a command, its reply, and the handlers that were in their places before.
pub record Turn (T P D : Type 0) : Type 0 where
  pub command : HandledCommand T
  pub answer : Reply T
  pub given : List (Option (GivenHandler P D))

module _ {T P D : Type 0} where
  -- Whether each place that the command names has a handler of that kind.
  abbrev pub finds_handlers : HandledCommand T → List (Option (GivenHandler P D)) → Bool
  finds_handlers (asked.Plain command) given = true
  finds_handlers (asked.Publisher factory options at_full at_failure) given =
      option_map_or (λ place. is_some (backpressure_of (lies_at place given))) at_full true
      && option_map_or (λ place. is_some (degradation_of (lies_at place given))) at_failure true
  finds_handlers (asked.Subscriber factory options at_failure) given = is_some (degradation_of (lies_at at_failure given))

  -- The turns of a run that begins with these handlers in their places. A command that isn't skipped takes the handlers at its places,
  -- which are counted from 1.
  abbrev pub turns : List (HandledCommand T) → List (Reply T) → List (Option (GivenHandler P D)) → List (Turn T P D)
  turns [] replies given = []
  turns (command ∷ commands) [] given = []
  turns (command ∷ commands) (answer ∷ replies) given =
      record { command = command; answer = answer; given = given } ∷ turns commands replies (elim answer [
        | reply.Skipped ↦ given
        | other ↦ fold (λ left place. slice_set left (place - 1) None) given (places_of command)
      ])

  -- The commands that the machine is given: those of the turns that find the handlers that they name, without places.
  abbrev pub asked_in : List (Turn T P D) → List (Command T)
  asked_in all = map (λ turn. without_places turn.command) (filter (λ turn. finds_handlers turn.command turn.given) all)

  -- The replies to the commands that the machine is given.
  abbrev pub answered_in : List (Turn T P D) → List (Reply T)
  answered_in all = map (λ turn. turn.answer) (filter (λ turn. finds_handlers turn.command turn.given) all)

module _ {T B D P : Type 0}
    (handled : BackpressureStrategy → Option BackpressureAction → DegradationAction → Option P → Option D → B) where
  -- The handlers that were handed in for ports, by port number: each by the command in whose reply the number was reported. A publisher's
  -- is made of the handlers at its places, and of what the command names: without a strategy a send is blocked at a full mailbox, and
  -- without an action a failed connection is skipped with a warning. A subscriber's is the handler at its place.
  abbrev pub handed_in : List (Turn T P D) → Handed B D
  handed_in [] = record { publishers = λ number. None; subscribers = λ number. None }
  handed_in (turn ∷ later) = elim turn.answer [
    | reply.PublisherMade told ↦ record (handed_in later) {
      publishers = λ number. if told == number then elim turn.command [
        | asked.Publisher factory options at_full at_failure ↦ Some (handled
            (unwrap_or options.backpressure_strategy RetryUntilDelivered) options.backpressure_handler
            (unwrap_or options.degradation_handler Warn)
            (option_and_then (λ place. backpressure_of (lies_at place turn.given)) at_full)
            (option_and_then (λ place. degradation_of (lies_at place turn.given)) at_failure))
        | other ↦ None
      ] else (handed_in later).publishers number;
    }
    | reply.SubscriberMade told ↦ record (handed_in later) {
      subscribers = λ number. if told == number then elim turn.command [
        | asked.Subscriber factory options at_failure ↦ degradation_of (lies_at at_failure turn.given)
        | other ↦ None
      ] else (handed_in later).subscribers number;
    }
    | other ↦ handed_in later
  ]
