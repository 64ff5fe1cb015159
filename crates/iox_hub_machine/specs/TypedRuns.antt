-- The calls of a program to a hub are a run of the machine.
use Rattle.std.specs.Prelude.{ℕ, ◌+◌, ◌^◌, ◌<◌, List, [], ◌∷◌, ◌++◌}
use Rattle.iox_command.specs.declared.command.Command.{Command}
use Rattle.iox_command.specs.declared.reply.Reply.{Reply}
use Rattle.iox_hub_base.specs.declared.hub.HubConfig.{HubConfig}
use Rattle.iox_hub_commands.specs.Numbers.{IsNew}
use Rattle.iox_hub_commands.specs.Terms.{Terms}
use Rattle.iox_hub_commands.specs.declared.numbered_hub.NumberedHub.{NumberedHub}
use Rattle.iox_hub_machine.specs.Ran.{StandsAfter}
use Rattle.iox_hub_machine.specs.RunLaws.{AsksAmong, all_asked, steps_named}
use Rattle.iox_hub_machine.specs.TypedSteps.{IsStepBy}
use Rattle.iox_machine.specs.Run.{Runs}
use Rattle.iox_machine.specs.State.{State, new_state}
use Rattle.iox_negotiate_machine.specs.Laws.{HaveOwnHashes}
use Rattle.iox_machine.specs.Choices.{Choices}

-- The parameters: the terms of the hub.
module _ {T U B D : Type 0} (terms : Terms T U B D) (choices : Choices T) where
  -- A program made the calls of these commands to a new hub, and got these answers: the machine may give these answers to these commands,
  -- and the hub, with what the program holds, represents the state that the machine reaches by them.
  pub record HasCalled (names : List (List ℕ)) (asked : List (Command T)) (answers : List (Reply T)) (hub : NumberedHub T U B D) : Type 0
    where
      pub state : State T
      pub run : Runs terms.types choices hub.hub.expired_connection_buffer asked new_state answers state
      pub stands : StandsAfter terms.types choices terms.degrades terms.decides terms.reader_degrades names
          (all_asked asked) hub state

  -- A new hub has had no calls.
  abbrev pub CallsBegin : Type 0
  CallsBegin = (names : List (List ℕ)) (config : HubConfig) (hub : NumberedHub T U B D) → IsNew config hub → HasCalled names [] [] hub

  -- One more call, which is a step, adds one command. This holds if no two services of the names that are asked for share a hash, and
  -- all commands and actions of other nodes are fewer than 2 ^ 56.
  abbrev pub CallsGoOn : Type 0
  CallsGoOn = (names : List (List ℕ)) (asked : List (Command T)) (answers : List (Reply T)) (one : Command T) (answer : Reply T)
      (old new : NumberedHub T U B D)
      → HaveOwnHashes names → AsksAmong names one → all_asked asked + (1 + steps_named one) < 2 ^ 56
      → HasCalled names asked answers old
      → IsStepBy terms choices one old answer new
      → HasCalled names (asked ++ one ∷ []) (answers ++ answer ∷ []) new
