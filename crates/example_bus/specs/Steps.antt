-- Calls of a bus as steps of the machine.
use Rattle.std.specs.Prelude.{ℕ, ◌≡◌, List, codes}
use Rattle.iox_hub.specs.DescribeBase.declared.type_detail.TypeVariant.TheVariants.{Dynamic}
use Rattle.iox_hub.specs.Domain.Handling.{passes_over, waits}
use Rattle.iox_hub.specs.Domain.declared.nobody.Nobody.{Nobody}
use Rattle.iox_hub.specs.Recorded.{all_handed}
use Rattle.iox_hub.specs.Turns.{choices_of}
use Rattle.iox_hub_commands.specs.Command.declared.command.Command.{Command}
use Rattle.iox_hub_commands.specs.Command.declared.reply.Reply.{Reply}
use Rattle.iox_hub_commands.specs.Terms.{Terms, terms_of}
use Rattle.iox_hub_commands.specs.declared.numbered_hub.NumberedHub.{NumberedHub}
use Rattle.iox_hub_machine.specs.TypedSteps.{IsStepBy}
use Rattle.iox_hub_machine.specs.TypedTerms.{asked_terms}

module _ {T : Type 0} where
  -- The terms of a bus whose values have this name, size, alignment and these default values. Messages are slices of them, with a time
  -- stamp. A port without handlers waits at a full mailbox, and passes over a failed connection with a warning.
  abbrev pub bus_terms : List ℕ → ℕ → ℕ → (T → Type 0) → Terms T ℕ Nobody Nobody
  bus_terms name size alignment is_default =
      asked_terms Dynamic (terms_of name size alignment is_default (codes "u64") 8 8 (λ stamp. stamp ≡ 0)
      (λ strategy action degrading. record {}) (λ handlers. passes_over) (λ handlers. waits) (λ action. record {}) (λ handler. passes_over))

  -- A call of a bus is a step, by this command and with this answer, of a machine whose ports have no handlers either.
  abbrev pub IsBusStep : Terms T ℕ Nobody Nobody → Command T → NumberedHub T ℕ Nobody Nobody → Reply T → NumberedHub T ℕ Nobody Nobody
      → Type 0
  IsBusStep terms = IsStepBy terms (choices_of terms (all_handed (record {}) (record {})))
