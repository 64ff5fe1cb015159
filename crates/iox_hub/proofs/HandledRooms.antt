-- Which commands with handlers may lack memory where the ports have room.
use Rattle.iox_hub_commands.proofs.Rooms.{lacks_values}
use Rattle.iox_hub_commands.specs.declared.numbered_hub.NumberedHub.{NumberedHub}
use Rattle.iox_hub.specs.Room.{GivesValues, HandledLacks}
use Rattle.iox_hub.specs.declared.handled_command.HandledCommand.{HandledCommand}
use Rattle.iox_hub.specs.declared.handled_command.HandledCommand.TheVariants as asked

module _ {T U B D : Type 0} where
  -- a command that isn't replied to, though the ports have room, would reply with values
  pub lacks_for_values : (one : HandledCommand T) (old new : NumberedHub T U B D) → HandledLacks one old new → GivesValues one new
  lacks_for_values (asked.Plain command) old new lacks = lacks_values command old new lacks
  lacks_for_values (asked.Publisher factory options at_full at_failure) old new lacks = absurd lacks
  lacks_for_values (asked.Subscriber factory options at_failure) old new lacks = absurd lacks
