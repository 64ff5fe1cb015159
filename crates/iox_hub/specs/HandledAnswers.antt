-- What a run with handlers replies, in terms of the machine of `iox_machine`.
use Rattle.std.specs.Prelude.{◌≡◌, ◌^◌, ◌<◌, Bool, false, List, length, map, Option, ◌++◌, drop}
use Rattle.std.specs.List.{AllByRecursion}
use Rattle.iox_hub_commands.specs.Command.declared.reply.Reply.{Reply}
use Rattle.iox_hub_commands.specs.Command.declared.reply.Reply.TheVariants as reply
use Rattle.iox_hub_commands.specs.DescribeBase.declared.message_type.MessageTypeDetails.{MessageTypeDetails}
use Rattle.iox_hub_commands.specs.DomainValues.declared.backpressure.BackpressureAction.{BackpressureAction}
use Rattle.iox_hub_commands.specs.DomainValues.declared.backpressure.BackpressureDecision.{BackpressureDecision}
use Rattle.iox_hub_commands.specs.DomainValues.declared.backpressure.BackpressureInfo.{BackpressureInfo}
use Rattle.iox_hub_commands.specs.DomainValues.declared.backpressure_strategy.BackpressureStrategy.{BackpressureStrategy}
use Rattle.iox_hub_commands.specs.DomainValues.declared.degradation.DegradationAction.{DegradationAction}
use Rattle.iox_hub_commands.specs.DomainValues.declared.degradation.DegradationCause.{DegradationCause}
use Rattle.iox_hub_commands.specs.DomainValues.declared.degradation.DegradationInfo.{DegradationInfo}
use Rattle.iox_hub_commands.specs.HubBase.declared.hub.HubConfig.{HubConfig}
use Rattle.iox_hub_commands.specs.Numbers.{IsNew}
use Rattle.iox_hub_commands.specs.declared.numbered_hub.NumberedHub.{NumberedHub}
use Rattle.iox_hub_machine.specs.ArrivalLaws.{AnswersAsFixed, DecidesAsFixed}
use Rattle.iox_hub_machine.specs.RunLaws.{all_asked, names_in}
use Rattle.iox_hub.specs.Turns.{answered_in, asked_in, finds_handlers, handed_in, turns, without_places}
use Rattle.iox_hub.specs.declared.given.GivenHandler.{GivenHandler}
use Rattle.iox_hub.specs.declared.handled_command.HandledCommand.{HandledCommand}
use Rattle.iox_machine.specs.Choices.{chosen_by}
use Rattle.iox_machine.specs.Run as machine
use Rattle.iox_negotiate_machine.specs.Laws.{HaveOwnHashes}

-- The parameters: the types of the messages; which values are default values; the handlers that are made of fixed actions, or of handed-in
-- handlers; and what a handler may answer.
module _ {T U B D P : Type 0} (types : MessageTypeDetails) (is_default : T → Type 0)
    (fixed : BackpressureStrategy → Option BackpressureAction → DegradationAction → B)
    (handled : BackpressureStrategy → Option BackpressureAction → DegradationAction → Option P → Option D → B)
    (degrades : B → DegradationCause → DegradationInfo → DegradationAction → Type 0)
    (decides : B → BackpressureInfo → BackpressureDecision → Type 0)
    (fixed_reader : DegradationAction → D)
    (reader_degrades : D → DegradationCause → DegradationInfo → DegradationAction → Type 0) where
  -- The replies of a new hub to commands with these handed-in handlers are ones that a new machine with these handlers may give: to all
  -- commands, or, if the run stopped, to those before a command at which a run may stop. A command that doesn't find a handler that it
  -- names is skipped, and the machine isn't given it. This holds if no two services of the names that are asked for share a hash, commands
  -- and their actions of other nodes are fewer than 2 ^ 56, and handlers that are made of fixed actions decide by these.
  abbrev pub AnswersWithHandlers : HubConfig → List (HandledCommand T) → NumberedHub T U B D → List (Option (GivenHandler P D))
      → List (Reply T) → Bool → Type 0
  AnswersWithHandlers config commands old given replies stopped =
      let plain = map (λ command. without_places command) commands in
      let left = map (λ command. without_places command) (drop (length replies) commands) in
      let all = turns commands replies given in
      DecidesAsFixed fixed degrades decides → AnswersAsFixed fixed_reader reader_degrades
      → IsNew config old → HaveOwnHashes (names_in plain) → all_asked plain < 2 ^ 56
      → machine.Answers types (chosen_by is_default decides degrades reader_degrades (handed_in handled all))
      config.expired_connection_buffer (asked_in all ++ left) stopped (answered_in all)
      × AllByRecursion (λ turn. finds_handlers turn.command turn.given ≡ false → turn.answer ≡ reply.Skipped) all
