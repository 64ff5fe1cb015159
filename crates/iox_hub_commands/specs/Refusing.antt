-- The settings with which no service can be created, and what the first lookup of a call decides before anything is allocated.
use Rattle.std.specs.Prelude.{◌≡◌, ◌⊎◌, List, Option, None, Some, option_map, if◌then◌else◌}
use Rattle.iox_negotiate.specs.Asked.{IsRefusal}
use Rattle.iox_command.specs.declared.refusal.Refusal.{Refusal}
use Rattle.iox_command.specs.declared.refusal.Refusal.TheVariants as refusal
use Rattle.iox_command.specs.declared.service.ServiceOptions.{ServiceOptions}
use Rattle.iox_command.specs.declared.service.ServiceOptions.TheVariants as options
use Rattle.iox_command.specs.declared.step.StepBefore.{StepBefore}
use Rattle.iox_hub_base.specs.DescribeSettings.Agreement.{AreWithinLimits, HasNoRoomForHistory}
use Rattle.iox_hub_base.specs.DescribeSettings.declared.static_config.Settings.{Settings}
use Rattle.iox_command.specs.NegotiateBase.EventErrors as event
use Rattle.iox_command.specs.NegotiateBase.PublishSubscribeErrors as publish_subscribe
use Rattle.iox_command.specs.NegotiateBase.RequestResponseErrors as request_response
use Rattle.iox_command.specs.NegotiateBase.declared.failure.CreateFailure.{CreateFailure}
use Rattle.iox_command.specs.NegotiateBase.declared.failure.CreateFailure.TheVariants as uncreated
use Rattle.iox_command.specs.NegotiateBase.declared.failure.OpenFailure.TheVariants as unopened
use Rattle.iox_command.specs.NegotiateBase.declared.failure.OpenOrCreateFailure.TheVariants.{Create, Open}
use Rattle.iox_hub_base.specs.Hubs.{hash_state}
use Rattle.iox_hub_base.specs.declared.hub.HashState.{HashState}
use Rattle.iox_hub_base.specs.declared.hub.HashState.TheVariants as state
use Rattle.iox_hub_base.specs.declared.hub.Hub.{Hub}
use Rattle.iox_negotiate_table.specs.Contents.{entry_at}
use Rattle.iox_hub_commands.specs.Asking.{hash_of}
use Rattle.iox_hub_commands.specs.Steps.{acts_first}
use Rattle.iox_hub_commands.specs.declared.services.asked.ServiceAsked.{ServiceAsked}

-- Why no service can be created with these settings; none if one can.
abbrev pub IsUncreated : Settings → Option CreateFailure → Type 0
IsUncreated settings failure = IsRefusal (AreWithinLimits settings) (HasNoRoomForHistory settings) failure

-- The refusal that reports this failure of a creation, by the pattern that is asked for.
abbrev pub create_refused : ServiceOptions → CreateFailure → Refusal
create_refused (options.PublishSubscribe named) failure = refusal.PublishSubscribeCreate (publish_subscribe.create_error failure)
create_refused (options.Event named) failure = refusal.EventCreate (event.create_error failure)
create_refused (options.RequestResponse named) failure = refusal.RequestResponseCreate (request_response.create_error failure)

-- The refusal of `open_or_create` that reports this failure of its creation, by the pattern that is asked for.
abbrev pub either_refused : ServiceOptions → CreateFailure → Refusal
either_refused (options.PublishSubscribe named) failure
    = refusal.PublishSubscribeOpenOrCreate (publish_subscribe.open_or_create_error (Create failure))
either_refused (options.Event named) failure = refusal.EventOpenOrCreate (event.open_or_create_error (Create failure))
either_refused (options.RequestResponse named) failure
    = refusal.RequestResponseOpenOrCreate (request_response.open_or_create_error (Create failure))

-- The refusal of an opening if the service doesn't exist, by the pattern that is asked for.
abbrev pub open_absent : ServiceOptions → Refusal
open_absent (options.PublishSubscribe named) = refusal.PublishSubscribeOpen (publish_subscribe.open_error unopened.DoesNotExist)
open_absent (options.Event named) = refusal.EventOpen (event.open_error unopened.DoesNotExist)
open_absent (options.RequestResponse named) = refusal.RequestResponseOpen (request_response.open_error unopened.DoesNotExist)

-- The refusal of an opening if another node is about to create the service.
abbrev pub open_locked : ServiceOptions → Refusal
open_locked (options.PublishSubscribe named) = refusal.PublishSubscribeOpen (publish_subscribe.open_error unopened.HangsInCreation)
open_locked (options.Event named) = refusal.EventOpen (event.open_error unopened.HangsInCreation)
open_locked (options.RequestResponse named) = refusal.RequestResponseOpen (request_response.open_error unopened.HangsInCreation)

-- The refusal of `open_or_create` if another node is about to create the service.
abbrev pub either_locked : ServiceOptions → Refusal
either_locked (options.PublishSubscribe named)
    = refusal.PublishSubscribeOpenOrCreate (publish_subscribe.open_or_create_error (Open unopened.HangsInCreation))
either_locked (options.Event named) = refusal.EventOpenOrCreate (event.open_or_create_error (Open unopened.HangsInCreation))
either_locked (options.RequestResponse named)
    = refusal.RequestResponseOpenOrCreate (request_response.open_or_create_error (Open unopened.HangsInCreation))

-- What the first lookup of the service finds; none if an action is named before that lookup.
abbrev pub first_look : {T U B D : Type 0} → ServiceAsked → List StepBefore → Hub T U B D → Option HashState
first_look asked steps hub = if acts_first steps then None else Some (hash_state (entry_at (hash_of asked.name asked.options) hub.table))

-- Why nothing is opened, if the first lookup decides it: the service doesn't exist, or another node is about to create it.
abbrev pub open_told : ServiceOptions → Option HashState → Option Refusal
open_told named (Some state.Absent) = Some (open_absent named)
open_told named (Some state.Locked) = Some (open_locked named)
open_told named found = None

-- Why nothing is created, if that is already decided: the settings are impossible, or the first lookup finds that another node is about to
-- create the service, or that the service exists.
abbrev pub create_told : ServiceOptions → Option CreateFailure → Option HashState → Option Refusal
create_told named (Some failure) found = Some (create_refused named failure)
create_told named None (Some state.Locked) = Some (create_refused named uncreated.HangsInCreation)
create_told named None (Some state.Described) = Some (create_refused named uncreated.AlreadyExists)
create_told named None found = None

-- Why a creation with possible settings is refused by what its first lookup found: the service exists, or another node is about to create
-- it.
abbrev pub IsInTheWay : Option HashState → CreateFailure → Type 0
IsInTheWay found failure =
    ((found ≡ Some state.Described) × (failure ≡ uncreated.AlreadyExists))
    ⊎ ((found ≡ Some state.Locked) × (failure ≡ uncreated.HangsInCreation))

-- Why the creation is refused before anything is allocated: the settings are impossible; or they are possible, and the first lookup finds
-- that the service exists, or that another node is about to create it. If it is None, the settings are possible, and the first lookup
-- doesn't find that the service exists.
abbrev pub IsRefusedFirst : Settings → Option HashState → Option CreateFailure → Type 0
IsRefusedFirst settings found (Some failure) =
    IsUncreated settings (Some failure) ⊎ (IsUncreated settings None × IsInTheWay found failure)
IsRefusedFirst settings found None = IsUncreated settings None × (found ≡ Some state.Described → ⊥)

-- Why nothing is opened or created, if the first lookup decides it: the service doesn't exist, and can't be created with these settings; or
-- another node is about to create it.
abbrev pub either_told : ServiceOptions → Option CreateFailure → Option HashState → Option Refusal
either_told named refused (Some state.Absent) = option_map (either_refused named) refused
either_told named refused (Some state.Locked) = Some (either_locked named)
either_told named refused found = None
