-- What the machine leaves to others: which values are default values, and what handlers choose for ports.
use Rattle.std.specs.Prelude.{ℕ, ◌-◌, ◌^◌, ◌≡◌, min, Option, MatchOption}
use Rattle.iox_command.specs.DomainValues.declared.backpressure.BackpressureDecision.{BackpressureDecision}
use Rattle.iox_command.specs.DomainValues.declared.backpressure.BackpressureInfo.{BackpressureInfo}
use Rattle.iox_command.specs.DomainValues.declared.degradation.DegradationAction.{DegradationAction}
use Rattle.iox_command.specs.DomainValues.declared.degradation.DegradationCause.{DegradationCause}
use Rattle.iox_command.specs.DomainValues.declared.degradation.DegradationCause.TheVariants.{FailedToEstablishConnection}
use Rattle.iox_command.specs.DomainValues.declared.degradation.DegradationInfo.{DegradationInfo}

-- What may be chosen: which value is a default value; which decision a publisher with this number gets at a full mailbox, after this many
-- retries and nanoseconds since it was found full; and which action a publisher or a subscriber with this number takes when a connection of
-- it failed. Decisions and actions may depend on what the command named for the port, or its default.
pub record Choices (T : Type 0) : Type 1 where
  pub is_default : T → Type 0
  pub publisher_decides : (publisher retries elapsed : ℕ) → (named decision : BackpressureDecision) → Type 0
  pub publisher_acts : (publisher : ℕ) → (named action : DegradationAction) → Type 0
  pub subscriber_acts : (subscriber : ℕ) → (named action : DegradationAction) → Type 0

-- The choices by which each port does what was named for it.
abbrev pub as_named : {T : Type 0} → (T → Type 0) → Choices T
as_named is_default = record {
  is_default = is_default;
  publisher_decides = λ publisher retries elapsed named decision. decision ≡ named;
  publisher_acts = λ publisher named action. action ≡ named;
  subscriber_acts = λ subscriber named action. action ≡ named;
}

-- The handlers that were handed in for publishers and for subscribers, by port number.
pub record Handed (B D : Type 0) : Type 0 where
  pub publishers : ℕ → Option B
  pub subscribers : ℕ → Option D

-- The choices by which a port with a handed-in handler does what the handler may answer, and every other port what was named for it. A
-- publisher's handler is asked with the elapsed time and the number of retries, or 2^64 - 1 if there were more.
abbrev pub chosen_by : {T B D : Type 0} → (T → Type 0) → (B → BackpressureInfo → BackpressureDecision → Type 0)
    → (B → DegradationCause → DegradationInfo → DegradationAction → Type 0)
    → (D → DegradationCause → DegradationInfo → DegradationAction → Type 0) → Handed B D → Choices T
chosen_by is_default decides degrades reader_degrades handed = record {
  is_default = is_default;
  publisher_decides = λ publisher retries elapsed named decision. MatchOption (handed.publishers publisher) (decision ≡ named)
      (λ who. (info : BackpressureInfo) × (info.retries ≡ min retries (2 ^ 64 - 1)) × (info.elapsed_time ≡ elapsed)
      × decides who info decision);
  publisher_acts = λ publisher named action. MatchOption (handed.publishers publisher) (action ≡ named)
      (λ who. (info : DegradationInfo) × degrades who FailedToEstablishConnection info action);
  subscriber_acts = λ subscriber named action. MatchOption (handed.subscribers subscriber) (action ≡ named)
      (λ who. (info : DegradationInfo) × reader_degrades who FailedToEstablishConnection info action);
}
