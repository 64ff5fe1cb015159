-- Theorems about the state that a hub represents after a run, from whichever state it represented before.
use Rattle.std.specs.Prelude.{ℕ, ◌+◌, ◌-◌, ◌^◌, ◌<◌, ◌≡◌, ◌⊎◌, Bool, true, false, List, ◌∷◌, ◌++◌, length, map, Option, Some, Result, Ok}
use Rattle.std.specs.List.{AllByRecursion}
use Rattle.std.specs.declared.alloc.AllocError.{AllocError}
use Rattle.iox_command.specs.DomainValues.declared.backpressure.BackpressureAction.{BackpressureAction}
use Rattle.iox_command.specs.DomainValues.declared.backpressure.BackpressureDecision.{BackpressureDecision}
use Rattle.iox_command.specs.DomainValues.declared.backpressure.BackpressureInfo.{BackpressureInfo}
use Rattle.iox_command.specs.DomainValues.declared.backpressure_strategy.BackpressureStrategy.{BackpressureStrategy}
use Rattle.iox_command.specs.DomainValues.declared.degradation.DegradationAction.{DegradationAction}
use Rattle.iox_command.specs.DomainValues.declared.degradation.DegradationCause.{DegradationCause}
use Rattle.iox_command.specs.DomainValues.declared.degradation.DegradationInfo.{DegradationInfo}
use Rattle.iox_command.specs.NegotiateBase.DescribeBase.Detail.{Detail}
use Rattle.iox_command.specs.NegotiateBase.DescribeBase.declared.message_type.MessageTypeDetails.{MessageTypeDetails}
use Rattle.iox_command.specs.declared.command.Command.{Command}
use Rattle.iox_command.specs.declared.command.Command.TheVariants as command
use Rattle.iox_command.specs.declared.reply.Reply.{Reply}
use Rattle.iox_command.specs.declared.reply.Reply.TheVariants as reply
use Rattle.iox_container.specs.NumberTable.{value_at}
use Rattle.iox_hub_base.specs.AsHome.{hub_ports}
use Rattle.iox_hub_base.specs.declared.hub.HubConfig.{HubConfig}
use Rattle.iox_hub_commands.specs.CommandSteps as hub
use Rattle.iox_hub_commands.specs.Naming.{publisher_handlers, subscriber_handler}
use Rattle.iox_hub_commands.specs.Numbers.{IsNew}
use Rattle.iox_hub_commands.specs.Reading.{values_under}
use Rattle.iox_hub_commands.specs.Runs.{IsRun}
use Rattle.iox_hub_commands.specs.declared.numbered_hub.NumberedHub.{NumberedHub}
use Rattle.iox_hub_commands.specs.Terms.{Terms}
use Rattle.iox_hub_machine.specs.ArrivalLaws.{AnswersAsChosen, AnswersAsFixed, DecidesAsChosen, DecidesAsFixed, MayBeNamedLater}
use Rattle.iox_hub_machine.specs.Ran.{StandsAfter}
use Rattle.iox_hub_machine.specs.RunLaws.{AsksAmong, all_asked, steps_named}
use Rattle.iox_machine.specs.Choices.{Choices}
use Rattle.iox_machine.specs.Run as machine
use Rattle.iox_machine.specs.State.{State, new_state}
use Rattle.iox_negotiate_machine.specs.Laws.{HaveOwnHashes}

-- The values of the newest sample fit in a vector, if the sample is held, so they can be returned.
abbrev pub NewestFits : {T U B D : Type 0} → NumberedHub T U B D → Type 0
NewestFits {T} hub = (values : List T)
    → values_under hub_ports (value_at hub.made.samples (hub.made.samples.next - 1)) hub.hub ≡ Some values → length values < 2 ^ 63

-- A new hub represents a new machine, after no command, whatever names are asked for.
abbrev pub NewHubBegins : (U : Type 0) → {T B D : Type 0} → MessageTypeDetails → Choices T
    → (B → DegradationCause → DegradationInfo → DegradationAction → Type 0)
    → (B → BackpressureInfo → BackpressureDecision → Type 0) → (D → DegradationCause → DegradationInfo → DegradationAction → Type 0)
    → Type 0
NewHubBegins U {T} {B} {D} types choices degrades decides reader_degrades = (names : List (List ℕ)) (config : HubConfig)
    (hub : NumberedHub T U B D) → IsNew config hub
    → StandsAfter types choices degrades decides reader_degrades names 0 hub new_state

-- A command, and the handlers of a port that it creates: made of the strategy and the actions that the command names, or handed in.
pub record Decided (T B D : Type 0) : Type 0 where
  pub asked : Command T
  pub fixed : BackpressureStrategy → Option BackpressureAction → DegradationAction → B
  pub fixed_reader : DegradationAction → D

-- The commands without handlers.
abbrev pub asked_of : {T B D : Type 0} → List (Decided T B D) → List (Command T)
asked_of commands = map (λ command. command.asked) commands

-- The parameters: the types of the messages, the choices, and what handlers may answer.
module _ {T U B D : Type 0} (types : MessageTypeDetails) (choices : Choices T)
    (degrades : B → DegradationCause → DegradationInfo → DegradationAction → Type 0)
    (decides : B → BackpressureInfo → BackpressureDecision → Type 0)
    (reader_degrades : D → DegradationCause → DegradationInfo → DegradationAction → Type 0) where
  -- The machine may give this reply to this command, and the hub represents the machine's state afterwards.
  pub record IsOneOn (names : List (List ℕ)) (most buffer : ℕ) (asked : Command T) (state : State T) (answer : Reply T)
      (hub : NumberedHub T U B D) : Type 0 where
    pub after : State T
    pub step : machine.Step types choices buffer asked state answer after
    pub stands : StandsAfter types choices degrades decides reader_degrades names (most + (1 + steps_named asked)) hub after

  -- The machine may give these replies to all these commands, and the hub represents the machine's state afterwards.
  pub record AreAllOn (names : List (List ℕ)) (most buffer : ℕ) (commands : List (Command T)) (state : State T)
      (replies : List (Reply T)) (hub : NumberedHub T U B D) : Type 0 where
    pub after : State T
    pub runs : machine.Runs types choices buffer commands state replies after
    pub stands : StandsAfter types choices degrades decides reader_degrades names (most + all_asked commands) hub after

  -- Some command is the first without a reply. The machine may give these replies to the commands before it, and the hub represents the
  -- machine's state before that command. Or that command receives, the machine may give some reply to it, and the hub represents the
  -- machine's state after it; this holds if the values of the newest sample fit in a vector.
  pub record IsOnUntil (names : List (List ℕ)) (most buffer : ℕ) (commands : List (Command T)) (state : State T)
      (replies : List (Reply T)) (hub : NumberedHub T U B D) : Type 0 where
    pub first : List (Command T)
    pub asked : Command T
    pub rest : List (Command T)
    pub are : commands ≡ first ++ asked ∷ rest
    pub after : State T
    pub runs : machine.Runs types choices buffer first state replies after
    pub stands : StandsAfter types choices degrades decides reader_degrades names (most + all_asked first) hub after
        ⊎ ((subscriber : ℕ) × (asked ≡ command.Receive subscriber)
        × (NewestFits hub → (answer : Reply T) × IsOneOn names (most + all_asked first) buffer asked after answer hub))

  -- What the hub represents after a run: after one that didn't stop (`AreAllOn`), or after one that stopped (`IsOnUntil`).
  abbrev pub RunGoesOn : List (List ℕ) → ℕ → ℕ → List (Command T) → State T → List (Reply T) → Bool → NumberedHub T U B D → Type 0
  RunGoesOn names most buffer commands state replies false hub = AreAllOn names most buffer commands state replies hub
  RunGoesOn names most buffer commands state replies true hub = IsOnUntil names most buffer commands state replies hub

  -- If the command creates a port, which gets the next number, whatever its handlers may decide and answer may be chosen for the port with
  -- this number.
  abbrev pub ComesAsChosen : Command T → (BackpressureStrategy → Option BackpressureAction → DegradationAction → B)
      → (DegradationAction → D) → NumberedHub T U B D → Reply T → Type 0
  ComesAsChosen (command.Publisher factory options) fixed fixed_reader old answer = answer ≡ reply.PublisherMade old.made.publishers.next
      → DecidesAsChosen choices degrades decides (publisher_handlers fixed options) old.made.publishers.next options
  ComesAsChosen (command.Subscriber factory options) fixed fixed_reader old answer = answer ≡ reply.SubscriberMade old.made.subscribers.next
      → AnswersAsChosen choices reader_degrades (subscriber_handler fixed_reader options) old.made.subscribers.next options
  ComesAsChosen other fixed fixed_reader old answer = Unit {0}

  -- The terms on which a command is carried out, if a port that it creates gets these handlers.
  abbrev pub decided_terms : Detail → Detail → (U → Type 0) → (BackpressureStrategy → Option BackpressureAction → DegradationAction → B)
      → (DegradationAction → D) → Terms T U B D
  decided_terms payload user_header is_default_header fixed fixed_reader = record {
    payload = payload;
    user_header = user_header;
    types = types;
    is_default = choices.is_default;
    is_default_header = is_default_header;
    fixed = fixed;
    degrades = degrades;
    decides = decides;
    fixed_reader = fixed_reader;
    reader_degrades = reader_degrades;
  }

  -- What a command does, with the handlers of a port that it creates, and what its reply is. Whatever these handlers may decide and answer
  -- may be chosen.
  abbrev pub DecidedStep : Detail → Detail → (U → Type 0) → Decided T B D → NumberedHub T U B D → Result (Reply T) AllocError
      → NumberedHub T U B D → Type 0
  DecidedStep payload user_header is_default_header command old answer new =
      hub.Step (decided_terms payload user_header is_default_header command.fixed command.fixed_reader) command.asked old answer new
      × ((told : Reply T) → answer ≡ Ok told → ComesAsChosen command.asked command.fixed command.fixed_reader old told)

  -- A hub that represents a state goes on as the machine does from there, whichever handlers new ports get, if whatever they may decide and
  -- answer may be chosen. The machine may give the hub's replies to the commands, or to those before the one at which the run stops, and
  -- the hub then represents the machine's state, or its state after one more command. This holds if no two services of the names that are
  -- asked for share a hash, and all commands and actions of other nodes, with those before the run, are fewer than 2 ^ 56.
  abbrev pub DecidedRunsGoOn : Detail → Detail → (U → Type 0) → Type 0
  DecidedRunsGoOn payload user_header is_default_header = (names : List (List ℕ)) (most : ℕ) (commands : List (Decided T B D))
      (old new : NumberedHub T U B D) (state : State T) (replies : List (Reply T)) (stopped : Bool)
      → HaveOwnHashes names → AllByRecursion (AsksAmong names) (asked_of commands)
      → most + all_asked (asked_of commands) < 2 ^ 56
      → StandsAfter types choices degrades decides reader_degrades names most old state
      → IsRun (DecidedStep payload user_header is_default_header) commands old replies stopped new
      → RunGoesOn names most old.hub.expired_connection_buffer (asked_of commands) state replies stopped new

-- The parameters: the terms of the hub, and the choices; the default values are those of the choices.
module _ {T U B D : Type 0} (terms : Terms T U B D) (choices : Choices T) where
  -- A hub that represents a state goes on as the machine does from there. The machine may give the hub's replies to the commands, or to
  -- those before the one at which the run stops, and the hub then represents the machine's state, or its state after one more command. This
  -- holds if no two services of the names that are asked for share a hash, all commands and actions of other nodes, with those before the
  -- run, are fewer than 2 ^ 56, handlers that are made of fixed actions decide by these, and for each port that is created later what was
  -- named may be chosen.
  abbrev pub RunsGoOn : Type 0
  RunsGoOn = (names : List (List ℕ)) (most : ℕ) (commands : List (Command T)) (old new : NumberedHub T U B D) (state : State T)
      (replies : List (Reply T)) (stopped : Bool)
      → DecidesAsFixed terms.fixed terms.degrades terms.decides → AnswersAsFixed terms.fixed_reader terms.reader_degrades
      → MayBeNamedLater choices old
      → HaveOwnHashes names → AllByRecursion (AsksAmong names) commands
      → most + all_asked commands < 2 ^ 56
      → StandsAfter terms.types choices terms.degrades terms.decides terms.reader_degrades names most old state
      → IsRun (hub.Step (record terms { is_default = choices.is_default })) commands old replies stopped new
      → RunGoesOn terms.types choices terms.degrades terms.decides terms.reader_degrades names most old.hub.expired_connection_buffer
      commands state replies stopped new
