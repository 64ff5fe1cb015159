-- The replies to a script, line by line.
use Rattle.std.specs.Prelude.{◌≡◌, ◌++◌, ℕ, Bool, List, [], Option, Result, Ok, Err, codes}
use Rattle.std.specs.declared.alloc.AllocError.{AllocError}
use Rattle.iox_hub_commands.specs.Command.declared.command.Command.{Command}
use Rattle.iox_hub_commands.specs.Command.declared.reply.Reply.{Reply}
use Rattle.iox_conversation.specs.Conversation.{BreaksOff, WritesABeginning}
use Rattle.iox_conversation.specs.declared.error.ServeError.{ServeError}
use Rattle.iox_line.specs.DomainValues.Actions.{decision_of}
use Rattle.iox_hub_commands.specs.HubBase.declared.hub.HubConfig.{HubConfig}
use Rattle.iox_hub_commands.specs.declared.handlers.FixedDegradation.{FixedDegradation}
use Rattle.iox_hub_commands.specs.declared.handlers.FixedHandlers.{FixedHandlers}
use Rattle.iox_hub_commands.specs.Numbers.{IsNew, numbers_used}
use Rattle.iox_hub_commands.specs.CommandSteps.{Step}
use Rattle.iox_hub_commands.specs.declared.numbered_hub.NumberedHub.{NumberedHub}
use Rattle.iox_hub_commands.specs.Terms.{Terms, terms_of}
use Rattle.iox_line.specs.LineFault.{fault_text}
use Rattle.iox_line.specs.Outcome.{Answers}
use Rattle.iox_line.specs.ReplyText.{reply_text}
use Rattle.iox_line.specs.declared.error.LineError.{LineError}
use Rattle.iox_script.specs.declared.script.Script.{Script}

-- A hub whose messages are slices of 64-bit numbers with one such number as user header, and whose ports have fixed actions.
abbrev pub ScriptHub : Type 0
ScriptHub = NumberedHub ℕ ℕ FixedHandlers FixedDegradation

-- The terms of this hub: the default value is 0, and so is the default user header.
abbrev pub script_terms : Terms ℕ ℕ FixedHandlers FixedDegradation
script_terms =
    terms_of (codes "u64") 8 8 (λ value. value ≡ 0) (codes "u64") 8 8 (λ header. header ≡ 0)
    (λ strategy backpressure degradation. record { strategy = strategy; backpressure = backpressure; degradation = degradation })
    (λ handlers cause info action. action ≡ handlers.degradation)
    (λ handlers info decision. decision ≡ decision_of handlers.strategy handlers.backpressure)
    (λ degradation. record { action = degradation })
    (λ handler cause info action. action ≡ handler.action)

-- What a command does to this hub.
abbrev pub ScriptStep : Command ℕ → ScriptHub → Result (Reply ℕ) AllocError → ScriptHub → Type 0
ScriptStep = Step script_terms

-- The answer to a command is its reply; a line that isn't a command changes nothing, and the answer says why it isn't one.
abbrev pub AnswersRead : Result (Command ℕ) LineError → ScriptHub → List ℕ → ScriptHub → Type 0
AnswersRead (Ok command) old text new = (reply : Reply ℕ) × ScriptStep command old (Ok reply) new × (text ≡ reply_text reply)
AnswersRead (Err fault) old text new = (text ≡ codes "err " ++ fault_text fault) × (new ≡ old)

-- The answer to a line by the hub that a script drives.
abbrev pub AnswersLine : Script → List ℕ → List ℕ → Script → Type 0
AnswersLine old line text new = (read : Result (Command ℕ) LineError) × Answers line (Ok read) × AnswersRead read old.hub text new.hub

-- The script drives a new hub.
abbrev pub IsNewScript : HubConfig → Script → Type 0
IsNewScript config script = IsNew config script.hub

-- A conversation on a new hub broke off.
abbrev pub BreaksOffAnew : HubConfig → ServeError → Bool → Option (List ℕ) → Option (List ℕ) → Option (List ℕ) → Option (List ℕ) → Type 0
BreaksOffAnew config error ended left leaves held holds =
    (script : Script) × IsNewScript config script
    × BreaksOff AnswersLine (λ script. numbers_used script.hub) error ended (record { machine = script; line = [] }) left leaves held holds

-- What was written is a beginning of the reply lines, in order, of a new hub to the lines that were read whole.
abbrev pub WritesABeginningAnew : HubConfig → Bool → Option (List ℕ) → Option (List ℕ) → Option (List ℕ) → Option (List ℕ) → Type 0
WritesABeginningAnew config ended left leaves held holds =
    (script : Script) × IsNewScript config script × WritesABeginning AnswersLine ended script left leaves held holds
