-- What follows from capacity that was made in advance.
use Rattle.iox_hub_base.specs.declared.hub.HubConfig.{HubConfig}
use Rattle.iox_hub_commands.specs.Numbers.{IsNew}
use Rattle.iox_hub_commands.specs.Room.{OnlyRoomier}
use Rattle.iox_hub_commands.specs.declared.numbered_hub.NumberedHub.{NumberedHub}

-- A new hub with more capacity is still a new hub. So what holds in every run of a new hub also holds in every run that made capacity
-- before its first command.
abbrev pub StaysNew : (T U B D : Type 0) → Type 0
StaysNew T U B D = (config : HubConfig) (old roomier : NumberedHub T U B D) → OnlyRoomier old roomier → IsNew config old
    → IsNew config roomier
