-- What a run of commands with handlers is, if they name none.
use Rattle.std.specs.Prelude.{◌≡◌, Bool, List, map, Result}
use Rattle.std.specs.declared.alloc.AllocError.{AllocError}
use Rattle.iox_hub_commands.specs.Command.declared.command.Command.{Command}
use Rattle.iox_hub_commands.specs.Command.declared.reply.Reply.{Reply}
use Rattle.iox_hub_commands.specs.Runs.{IsRun}
use Rattle.iox_hub_commands.specs.declared.numbered_hub.NumberedHub.{NumberedHub}
use Rattle.iox_hub.specs.declared.handled_command.HandledCommand.{HandledCommand}
use Rattle.iox_hub.specs.declared.handled_command.HandledCommand.TheVariants as asked

-- A run of commands that name no handler is a run without handlers, and leaves all handlers in their places.
abbrev pub PlainRunsArePlain : {T U B D X : Type 0}
    → (HandledCommand T → NumberedHub T U B D × X → Result (Reply T) AllocError → NumberedHub T U B D × X → Type 0)
    → (Command T → NumberedHub T U B D → Result (Reply T) AllocError → NumberedHub T U B D → Type 0) → Type 0
PlainRunsArePlain {T} {U} {B} {D} {X} handled plain
    = (commands : List (Command T)) (old new : NumberedHub T U B D × X) (replies : List (Reply T)) (stopped : Bool)
    → IsRun handled (map (λ (command : Command T). asked.Plain command) commands) old replies stopped new
    → IsRun plain commands old.0 replies stopped new.0 × (new.1 ≡ old.1)
