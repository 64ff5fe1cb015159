-- Where a run of commands with handlers may stop, if its ports have capacity for the numbers of loans and samples.
use Rattle.std.specs.Prelude.{ℕ, ◌≡◌, ◌⊎◌, List, slice_get, Option, Some, Result, OnErr}
use Rattle.std.specs.declared.alloc.AllocError.{AllocError}
use Rattle.iox_hub_commands.specs.Command.declared.reply.Reply.{Reply}
use Rattle.iox_hub_commands.specs.DomainValues.declared.backpressure.BackpressureAction.{BackpressureAction}
use Rattle.iox_hub_commands.specs.DomainValues.declared.backpressure_strategy.BackpressureStrategy.{BackpressureStrategy}
use Rattle.iox_hub_commands.specs.DomainValues.declared.degradation.DegradationAction.{DegradationAction}
use Rattle.iox_hub_commands.specs.PortRoom.{HasRoom, KeepsRoom, LacksInRoom}
use Rattle.iox_hub_commands.specs.Room as plain
use Rattle.iox_hub_commands.specs.Terms.{Terms}
use Rattle.iox_hub_commands.specs.declared.numbered_hub.NumberedHub.{NumberedHub}
use Rattle.iox_hub.specs.Steps.{HandledStep}
use Rattle.iox_hub.specs.declared.given.GivenHandler.{GivenHandler}
use Rattle.iox_hub.specs.declared.handled_command.HandledCommand.{HandledCommand}
use Rattle.iox_hub.specs.declared.handled_command.HandledCommand.TheVariants as asked

module _ {T U B D : Type 0} where
  -- The command would reply with the values of a message, and there is at least one. A command that names handlers replies with none.
  abbrev pub GivesValues : HandledCommand T → NumberedHub T U B D → Type 0
  GivesValues (asked.Plain command) hub = plain.GivesValues command hub
  GivesValues (asked.Publisher factory options at_full at_failure) hub = ⊥
  GivesValues (asked.Subscriber factory options at_failure) hub = ⊥

  -- The command after the first `replied` ones would reply with values that the hub has.
  abbrev pub LacksValues : List (HandledCommand T) → ℕ → NumberedHub T U B D → Type 0
  LacksValues commands replied hub = (asked : HandledCommand T) × (slice_get commands replied ≡ Some asked) × GivesValues asked hub

module _ {T U B D X : Type 0} where
  -- A run that stopped after this many replies never began, and nothing changed; or it stopped at a command that would reply with values.
  abbrev pub StopsInTime : List (HandledCommand T) → NumberedHub T U B D × X → ℕ → NumberedHub T U B D × X → Type 0
  StopsInTime commands old replied new = ((replied ≡ 0) × (new ≡ old)) ⊎ LacksValues commands replied new.0

-- What memory ran out for at a command without a reply, if the existing ports have the capacity that they need: the same as for the command
-- without handlers. A command that names handlers always has a reply.
abbrev pub HandledLacks : {T U B D : Type 0} → HandledCommand T → NumberedHub T U B D → NumberedHub T U B D → Type 0
HandledLacks (asked.Plain command) old new = LacksInRoom command old new
HandledLacks (asked.Publisher factory options at_full at_failure) old new = ⊥
HandledLacks (asked.Subscriber factory options at_failure) old new = ⊥

-- What each command does, as `HandledStep` says, and, if the ports have the capacity that they need, that they keep it, and for which
-- values memory ran out where there is no reply.
pub record HandledStepInRoom {T U B D P : Type 0} (terms : Terms T U B D)
    (handled : BackpressureStrategy → Option BackpressureAction → DegradationAction → Option P → Option D → B) (one : HandledCommand T)
    (old : NumberedHub T U B D × List (Option (GivenHandler P D))) (answer : Result (Reply T) AllocError)
    (new : NumberedHub T U B D × List (Option (GivenHandler P D))) : Type 0 where
  pub step : HandledStep terms handled one old answer new
  pub room : KeepsRoom old.0 new.0
  pub lacks : HasRoom old.0 → OnErr answer (HandledLacks one old.0 new.0)
