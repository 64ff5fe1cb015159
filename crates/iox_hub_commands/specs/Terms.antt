-- What never changes while a hub runs: its payload and header types, and the handlers of its ports.
use Rattle.std.specs.Prelude.{ℕ, List, Option}
use Rattle.iox_command.specs.DomainValues.declared.backpressure.BackpressureAction.{BackpressureAction}
use Rattle.iox_command.specs.DomainValues.declared.backpressure.BackpressureDecision.{BackpressureDecision}
use Rattle.iox_command.specs.DomainValues.declared.backpressure.BackpressureInfo.{BackpressureInfo}
use Rattle.iox_command.specs.DomainValues.declared.backpressure_strategy.BackpressureStrategy.{BackpressureStrategy}
use Rattle.iox_command.specs.DomainValues.declared.degradation.DegradationAction.{DegradationAction}
use Rattle.iox_command.specs.DomainValues.declared.degradation.DegradationCause.{DegradationCause}
use Rattle.iox_command.specs.DomainValues.declared.degradation.DegradationInfo.{DegradationInfo}
use Rattle.iox_delivery.specs.DescribeBase.Detail.{Detail, detail}
use Rattle.iox_delivery.specs.DescribeBase.declared.message_type.MessageTypeDetails.{MessageTypeDetails}
use Rattle.iox_delivery.specs.DescribeBase.declared.type_detail.TypeVariant.TheVariants.{FixedSize}
use Rattle.iox_hub_commands.specs.Asked.{types_of}

-- The terms of a hub: its payload and header types, their default values, and the handlers of its ports.
pub record Terms (T U B D : Type 0) : Type 1 where
  -- The type of a value in memory.
  pub payload : Detail
  -- The type of a user header in memory.
  pub user_header : Detail
  -- The types of a service's messages.
  pub types : MessageTypeDetails
  -- Whether a value is a default value.
  pub is_default : T → Type 0
  -- Whether a user header is a default one.
  pub is_default_header : U → Type 0
  -- The handlers of a publisher with this strategy and these actions.
  pub fixed : BackpressureStrategy → Option BackpressureAction → DegradationAction → B
  -- Whether these handlers of a publisher may give this answer at a failed connection.
  pub degrades : B → DegradationCause → DegradationInfo → DegradationAction → Type 0
  -- Whether these handlers of a publisher may make this decision at a full mailbox.
  pub decides : B → BackpressureInfo → BackpressureDecision → Type 0
  -- The handler of a subscriber with this action.
  pub fixed_reader : DegradationAction → D
  -- Whether this handler of a subscriber may give this answer at a failed connection.
  pub reader_degrades : D → DegradationCause → DegradationInfo → DegradationAction → Type 0

-- The terms of a hub whose values, and whose user headers, have this name, size, alignment and these default values. Messages are slices of
-- such values.
abbrev pub terms_of : {T U B D : Type 0} → List ℕ → ℕ → ℕ → (T → Type 0) → List ℕ → ℕ → ℕ → (U → Type 0)
    → (BackpressureStrategy → Option BackpressureAction → DegradationAction → B)
    → (B → DegradationCause → DegradationInfo → DegradationAction → Type 0) → (B → BackpressureInfo → BackpressureDecision → Type 0)
    → (DegradationAction → D) → (D → DegradationCause → DegradationInfo → DegradationAction → Type 0) → Terms T U B D
terms_of name size alignment is_default header_name header_size header_alignment is_default_header fixed degrades decides fixed_reader
    reader_degrades = record {
      payload = detail FixedSize name size alignment;
      user_header = detail FixedSize header_name header_size header_alignment;
      types = types_of name size alignment header_name header_size header_alignment;
      is_default = is_default;
      is_default_header = is_default_header;
      fixed = fixed;
      degrades = degrades;
      decides = decides;
      fixed_reader = fixed_reader;
      reader_degrades = reader_degrades;
    }
