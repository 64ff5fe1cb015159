-- A service does the same among other services as alone.
use Rattle.std.specs.Prelude.{ℕ, ◌≡◌, true, false, List, [], ◌∷◌, ◌++◌}
use Rattle.std.specs.List.{list_any}
use Rattle.iox_machine.specs.Choices.{Choices}
use Rattle.iox_machine.specs.Named.{is_on_ports, has_named}
use Rattle.iox_machine.specs.Run.{Step}
use Rattle.iox_machine.specs.Service.{Service}
use Rattle.iox_machine.specs.State.{State, counted}
use Rattle.iox_command.specs.NegotiateBase.DescribeBase.declared.message_type.MessageTypeDetails.{MessageTypeDetails}
use Rattle.iox_command.specs.declared.command.Command.{Command}
use Rattle.iox_command.specs.declared.reply.Reply.{Reply}
use Rattle.iox_command.specs.declared.reply.Reply.TheVariants as reply

-- The state with these services.
abbrev pub with_services : {T : Type 0} → List (Service T) → State T → State T
with_services services state = record state { services = services }

module _ {T : Type 0} (choices : Choices T) where
  -- A command on ports, loans and samples may do to a service among others what it may do to the service alone, with the same reply, if
  -- none of the others has what the command names. The others stay as they were.
  abbrev pub StepsAmong : Type 0
  StepsAmong = (types : MessageTypeDetails) (buffer : ℕ) (asked : Command T) (state : State T) (answer : Reply T)
      (before behind : List (Service T)) (service after : Service T)
      → is_on_ports asked ≡ true
      → list_any (has_named state.factories asked) before ≡ false → list_any (has_named state.factories asked) behind ≡ false
      → Step types choices buffer asked (with_services (service ∷ []) state) answer
      (record (with_services (after ∷ []) state) { made = counted answer state.made })
      → Step types choices buffer asked (with_services (before ++ service ∷ behind) state) answer
      (record (with_services (before ++ after ∷ behind) state) { made = counted answer state.made })

  -- A command on ports, loans and samples may be skipped, and changes nothing then, if no service has what it names and there is a default
  -- value.
  abbrev pub UnknownIsSkipped : Type 0
  UnknownIsSkipped = (types : MessageTypeDetails) (buffer : ℕ) (asked : Command T) (state : State T) (value : T)
      → choices.is_default value → is_on_ports asked ≡ true → list_any (has_named state.factories asked) state.services ≡ false
      → Step types choices buffer asked state reply.Skipped state
