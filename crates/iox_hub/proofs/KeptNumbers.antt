-- Where a factory, a port or a sample comes, the others keep their numbers.
use Rattle.std.proofs.Common.{◌≡◌, ℕ, ◌++◌, Bool, true, false, cond, List, [], ◌∷◌, Option, None, Some, Result, Ok, Err}
use Rattle.std.specs.Prelude.{nat_eq}
use Rattle.std.specs.Map.{lookup}
use Rattle.iox_command.specs.declared.command.Command.{Command}
use Rattle.iox_command.specs.declared.port.PublisherOptions.{PublisherOptions}
use Rattle.iox_command.specs.declared.port.SubscriberOptions.{SubscriberOptions}
use Rattle.iox_command.specs.declared.refusal.Refusal.{Refusal}
use Rattle.iox_container.specs.NumberTable.{NumberTable, inserted}
use Rattle.iox_delivery.specs.declared.kind.Slice.{Slice}
use Rattle.iox_delivery.specs.declared.sample.Sample.{Sample}
use Rattle.iox_domain.specs.declared.domain_id.DomainId.{DomainId}
use Rattle.iox_hub_base.specs.declared.hub.Hub.{Hub}
use Rattle.iox_hub_commands.specs.DomainValues.declared.create_error.PublisherCreateError.{PublisherCreateError}
use Rattle.iox_hub_commands.specs.DomainValues.declared.create_error.SubscriberCreateError.{SubscriberCreateError}
use Rattle.iox_hub_commands.specs.DomainValues.declared.port_error.ReceiveError.{ReceiveError}
use Rattle.iox_hub_commands.specs.declared.services.made.MadeFactory.{MadeFactory}
use Rattle.iox_hub.proofs.Recording.{calls_publisher, calls_received, calls_subscriber}
use Rattle.iox_hub.specs.Recorded.{Calls}
use Rattle.iox_hub.specs.RecordedCalls.{KeepNumbers}
use Rattle.iox_hub.specs.Recording.{calls_opened}

module _ {V : Type 0} where
  -- what is found first is found, whatever follows
  found_ahead : (test : ℕ → Bool) (entries more : List (ℕ × V)) (held : V) → lookup test entries ≡ Some held
      → lookup test (entries ++ more) ≡ Some held
  found_ahead test [] more held is = cc
  found_ahead test (entry ∷ rest) more held is = by (test entry.0) is (λ later. found_ahead test rest more held later)
    where
      by : (b : Bool) → cond b (Some entry.1) (lookup test rest) ≡ Some held
          → (lookup test rest ≡ Some held → lookup test (rest ++ more) ≡ Some held)
          → cond b (Some entry.1) (lookup test (rest ++ more)) ≡ Some held
      by true is later = is
      by false is later = later is

  pub one_more_keeps : (table : NumberTable V) (value : V) → KeepNumbers table (inserted table value)
  one_more_keeps table value number held is = found_ahead (nat_eq number) table.entries ((table.next, value) ∷ []) held is

module _ {T : Type 0} (factory : ℕ) (domain : DomainId) (calls : Calls T) where
  pub publishers_keep : (named : PublisherOptions) (answer : Option (Result ℕ PublisherCreateError))
      → KeepNumbers calls.made.publishers (calls_publisher factory named domain answer calls).made.publishers
  publishers_keep named None number held is = is
  publishers_keep named (Some (Ok at)) number held is = one_more_keeps calls.made.publishers _ number held is
  publishers_keep named (Some (Err why)) number held is = is

  pub subscribers_keep : (named : SubscriberOptions) (answer : Option (Result ℕ SubscriberCreateError))
      → KeepNumbers calls.made.subscribers (calls_subscriber factory named domain answer calls).made.subscribers
  subscribers_keep named None number held is = is
  subscribers_keep named (Some (Ok at)) number held is = one_more_keeps calls.made.subscribers _ number held is
  subscribers_keep named (Some (Err why)) number held is = is

module _ {T : Type 0} (calls : Calls T) where
  pub factories_keep : {E : Type 0} (asked : Command T) (refused : E → Refusal) (answer : Option (Result MadeFactory E))
      → KeepNumbers calls.factories (calls_opened asked refused answer calls).factories
  factories_keep asked refused None number held is = is
  factories_keep asked refused (Some (Ok factory)) number held is = one_more_keeps calls.factories factory number held is
  factories_keep asked refused (Some (Err why)) number held is = is

  pub samples_keep : {U B D : Type 0} (hub : Hub T U B D) (subscriber : ℕ)
      (answer : Option (Result (Option (Sample T U Slice)) ReceiveError))
      → KeepNumbers calls.made.samples (calls_received hub subscriber answer calls).made.samples
  samples_keep hub subscriber None number held is = is
  samples_keep hub subscriber (Some (Ok (Some sample))) number held is = one_more_keeps calls.made.samples _ number held is
  samples_keep hub subscriber (Some (Ok None)) number held is = is
  samples_keep hub subscriber (Some (Err why)) number held is = is
