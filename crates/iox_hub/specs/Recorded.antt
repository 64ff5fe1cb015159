-- What a recorded hub was asked, and what it answered.
use Rattle.std.specs.Prelude.{ℕ, ◌≡◌, ◌^◌, ◌<◌, List, [], ◌∷◌, ◌++◌, length, Option, None, Some, MatchOption}
use Rattle.std.specs.List.{AllByRecursion}
use Rattle.iox_hub_commands.specs.DomainValues.declared.backpressure.BackpressureAction.{BackpressureAction}
use Rattle.iox_hub_commands.specs.DomainValues.declared.backpressure.BackpressureDecision.{BackpressureDecision}
use Rattle.iox_hub_commands.specs.DomainValues.declared.backpressure.BackpressureInfo.{BackpressureInfo}
use Rattle.iox_hub_commands.specs.DomainValues.declared.backpressure_strategy.BackpressureStrategy.{BackpressureStrategy}
use Rattle.iox_hub_commands.specs.DomainValues.declared.degradation.DegradationAction.{DegradationAction}
use Rattle.iox_hub_commands.specs.DomainValues.declared.degradation.DegradationCause.{DegradationCause}
use Rattle.iox_hub_commands.specs.DomainValues.declared.degradation.DegradationInfo.{DegradationInfo}
use Rattle.iox_command.specs.declared.command.Command.{Command}
use Rattle.iox_command.specs.declared.reply.Reply.{Reply}
use Rattle.iox_container.specs.NumberTable.{NumberTable}
use Rattle.iox_hub_base.specs.declared.hub.HubConfig.{HubConfig}
use Rattle.iox_hub_commands.specs.declared.ports.made.Made.{Made}
use Rattle.iox_hub_commands.specs.declared.services.made.MadeFactory.{MadeFactory}
use Rattle.iox_hub_machine.specs.ArrivalLaws.{AnswersAsFixed, DecidesAsFixed}
use Rattle.iox_hub_machine.specs.RunLaws.{all_asked, names_in}
use Rattle.iox_machine.specs.Choices.{Handed}
use Rattle.iox_negotiate_machine.specs.Laws.{HaveOwnHashes}

-- What the hub was asked, as commands, and its answer to each; the ports, loans and samples, and the factories, that its program holds, by
-- the numbers of commands; the values of each received message; and the configuration of the hub.
pub record Calls (T : Type 0) : Type 0 where
  pub asked : List (Command T)
  pub answers : List (Reply T)
  pub made : Made
  pub factories : NumberTable MadeFactory
  pub received : List (List T)
  pub config : HubConfig

-- What proofs know of a recorded hub: its calls, and the values of the newest sample.
pub record HubRecord (T : Type 0) : Type 0 where
  pub calls : Calls T
  pub newest : List T

-- The calls with one more and its answer; what the program holds is as it was.
abbrev pub asked_too : {T : Type 0} → Command T → Reply T → Calls T → Calls T
asked_too asked answer calls = record calls { asked = calls.asked ++ asked ∷ []; answers = calls.answers ++ answer ∷ [] }

-- No port was handed handlers: each does what its options name.
abbrev pub none_handed : {B D : Type 0} → Handed B D
none_handed = record { publishers = λ number. None; subscribers = λ number. None }

-- Each publisher has these handlers, and each subscriber this one.
abbrev pub all_handed : {B D : Type 0} → B → D → Handed B D
all_handed who reader = record { publishers = λ number. Some who; subscribers = λ number. Some reader }

-- The premises of the statement that the machine gives these answers, if it has these handlers. All handlers of ports are the one value
-- that the machine has for the port's number; or the machine has none there, and handlers that are made of fixed actions decide by these.
-- No two services of the names that are asked for share a hash, the calls and the actions of other nodes that they name are fewer than
-- 2 ^ 56, and each received message fits in a vector.
abbrev pub AreFollowed : {T B D : Type 0} → (BackpressureStrategy → Option BackpressureAction → DegradationAction → B)
    → (B → DegradationCause → DegradationInfo → DegradationAction → Type 0) → (B → BackpressureInfo → BackpressureDecision → Type 0)
    → (DegradationAction → D) → (D → DegradationCause → DegradationInfo → DegradationAction → Type 0) → Handed B D → Calls T → Type 0
AreFollowed fixed degrades decides fixed_reader reader_degrades handed calls =
    ((number : ℕ) → MatchOption (handed.publishers number) (DecidesAsFixed fixed degrades decides)
    (λ who. (strategy : BackpressureStrategy) (named : Option BackpressureAction) (degrading : DegradationAction)
    → fixed strategy named degrading ≡ who))
    × ((number : ℕ) → MatchOption (handed.subscribers number) (AnswersAsFixed fixed_reader reader_degrades)
    (λ who. (degrading : DegradationAction) → fixed_reader degrading ≡ who))
    × HaveOwnHashes (names_in calls.asked) × (all_asked calls.asked < 2 ^ 56)
    × AllByRecursion (λ values. length values < 2 ^ 63) calls.received
