-- Capacity for the numbers of loans and samples, and where a run may stop if its ports have it.
use Rattle.std.specs.Prelude.{ℕ, ◌≡◌, ◌+◌, ◌≤◌, ◌⊎◌, List, length, Some, slice_get}
use Rattle.iox_command.specs.declared.command.Command.{Command}
use Rattle.iox_command.specs.declared.command.Command.TheVariants as command
use Rattle.iox_hub_base.specs.AsHome.{hub_ports}
use Rattle.iox_hub_commands.specs.Messages.{SomeValues}
use Rattle.iox_hub_commands.specs.Reading.{values_under}
use Rattle.iox_hub_commands.specs.Tables.{IsRoomier}
use Rattle.iox_delivery.specs.Container.NumberTable.{NumberTable, value_at}
use Rattle.iox_hub_commands.specs.declared.numbered_hub.NumberedHub.{NumberedHub}

-- The table has capacity for this many more values.
abbrev pub FitsMore : {V : Type 0} → ℕ → NumberTable V → Type 0
FitsMore more table = length table.entries + more ≤ table.room

module _ {T U B D : Type 0} where
  -- Nothing in the hub changed, except that there may be more capacity for numbers, and that other numbers may be reserved.
  abbrev pub OnlyRoomier : NumberedHub T U B D → NumberedHub T U B D → Type 0
  OnlyRoomier old new = IsRoomier old.made new.made × (new ≡ record old { made = new.made; pledged = new.pledged })

  -- The command would reply with the values of a message, and there is at least one: it received the last sample, or reads this sample, and
  -- the hub has the sample's values. No other command replies with values.
  abbrev pub GivesValues : Command T → NumberedHub T U B D → Type 0
  GivesValues (command.Receive subscriber) hub = (number : ℕ) × (hub.made.samples.next ≡ number + 1)
      × SomeValues (values_under hub_ports (value_at hub.made.samples number) hub.hub)
  GivesValues (command.Read sample) hub = SomeValues (values_under hub_ports (value_at hub.made.samples sample) hub.hub)
  GivesValues other hub = ⊥

  -- The command after the first `replied` ones would reply with values that the hub has.
  abbrev pub LacksValues : List (Command T) → ℕ → NumberedHub T U B D → Type 0
  LacksValues commands replied hub = (asked : Command T) × (slice_get commands replied ≡ Some asked) × GivesValues asked hub

  -- A run that stopped after this many replies never began, and nothing changed; or it stopped at a command that would reply with values.
  abbrev pub StopsInTime : List (Command T) → NumberedHub T U B D → ℕ → NumberedHub T U B D → Type 0
  StopsInTime commands old replied new = ((replied ≡ 0) × (new ≡ old)) ⊎ LacksValues commands replied new
