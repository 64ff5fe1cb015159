-- A sample that is released directly after it was received: two steps of the machine.
use Rattle.std.proofs.Common.{◌≡◌, ◌+◌, ◌++◌, ◌∷◌, ◌≤◌, ℕ, Bool, true, false, List, [], Option, None, Some, arith, refl}
use Rattle.std.proofs.lemmas.Bool.Decides.{nat_tests}
use Rattle.std.specs.Map.{lookup}
use Rattle.std.specs.Prelude.{nat_eq}
use Rattle.iox_hub.specs.Delivery.Subscribing.{DropsAt, ReleasesOne, ReleasesSample}
use Rattle.iox_hub.specs.Delivery.declared.kind.Slice.{Slice}
use Rattle.iox_hub.specs.Delivery.declared.port_id.PortId.{PortId}
use Rattle.iox_hub.specs.Delivery.declared.sample.Sample.{Sample}
use Rattle.iox_hub.specs.Domain.AtHomes.{AtDomain}
use Rattle.iox_hub.specs.Domain.declared.ports.service_ports.ServicePorts.{ServicePorts}
use Rattle.iox_hub.specs.DomainPorts.declared.attached.Taken.{Taken}
use Rattle.iox_hub.specs.HubBase.AsHome.{hub_ports, with_hub_ports}
use Rattle.iox_hub.specs.HubBase.declared.hub.Hub.{Hub}
use Rattle.iox_hub.specs.Machine.Choices.{Choices}
use Rattle.iox_hub_commands.specs.Command.declared.command.Command.TheVariants as command
use Rattle.iox_hub_commands.specs.Command.declared.reply.Reply.TheVariants as reply
use Rattle.iox_hub_commands.specs.Container.NumberTable.{NumberTable, Rises, inserted, value_at}
use Rattle.iox_hub_commands.specs.Numbering.{with_sample}
use Rattle.iox_hub_commands.specs.Tables.{without_sample}
use Rattle.iox_hub_commands.specs.Terms.{Terms}
use Rattle.iox_hub_commands.specs.declared.numbered_hub.NumberedHub.{NumberedHub}
use Rattle.iox_hub_machine.specs.TypedSteps.{IsStepBy, hub_after_call}
use Rattle.iox_hub_machine.specs.TypedSubscribing.{SubscriberCallsAreSteps}

module _ {V : Type 0} where
  -- numbers that rise with one more rose before
  rose_before : (low : ℕ) (entries : List (ℕ × V)) (next : ℕ) (value : V) (after : ℕ)
      → Rises low (entries ++ (next, value) ∷ []) after → Rises low entries next
  rose_before low [] next value after rises = rises.0
  rose_before low (entry ∷ entries) next value after rises = (rises.0, rose_before (entry.0 + 1) entries next value after rises.1)

  -- they rise to the next one
  reach : (low : ℕ) (entries : List (ℕ × V)) (next : ℕ) → Rises low entries next → low ≤ next
  reach low [] next rises = rises
  reach low (entry ∷ rest) next rises = let above = reach (entry.0 + 1) rest next rises.1 in omega (arith, rises.0)

  -- what was put last is found
  found_last : (low : ℕ) (entries : List (ℕ × V)) (next : ℕ) (value : V) → Rises low entries next
      → lookup (nat_eq next) (entries ++ (next, value) ∷ []) ≡ Some value
  found_last low [] next value rises = grind (arith, nat_tests)
  found_last low (entry ∷ rest) next value rises =
      at_test (nat_eq next entry.0) refl (found_last (entry.0 + 1) rest next value rises.1)
    where
      at_test : (b : Bool) → nat_eq next entry.0 ≡ b → lookup (nat_eq next) (rest ++ (next, value) ∷ []) ≡ Some value
          → lookup (nat_eq next) (entry ∷ rest ++ (next, value) ∷ []) ≡ Some value
      at_test true same later = let above = reach (entry.0 + 1) rest next rises.1 in absurd (grind (arith, nat_tests))
      at_test false apart later = rw apart later

  found_next : (table : NumberTable V) (value : V) (after : ℕ) → Rises 1 (inserted table value).entries after
      → value_at (inserted table value) table.next ≡ Some value
  found_next table value after rises =
      found_last 1 table.entries table.next value (rose_before 1 table.entries table.next value after rises)

module _ {T U B D : Type 0} where
  -- a sample that is released is dropped
  drops_released : (port : PortId) (taken : Taken) (old new : Hub T U B D) (found : Option (ServicePorts T U))
      → AtDomain (λ (after : ServicePorts T U). with_hub_ports port.domain after old) (ReleasesOne port.number taken) found old (Some tt)
      new
      → DropsAt (λ (after : ServicePorts T U). with_hub_ports port.domain after old) port.number taken found old true new
  drops_released port taken old new None done = cc (done.0)
  drops_released port taken old new (Some ports) (after, releases, is) = (after, releases, is)

module _ {T U B D : Type 0} (terms : Terms T U B D) (choices : Choices T) (steps : SubscriberCallsAreSteps Slice terms choices) where
  pub released_next : (old : NumberedHub T U B D) (sample : Sample T U Slice) (received new : Hub T U B D)
      → ReleasesSample hub_ports with_hub_ports sample.port sample.taken received new
      → IsStepBy terms choices (command.Release old.made.samples.next)
      (hub_after_call old (with_sample sample.port sample.taken old.made) received) reply.Done
      (hub_after_call old (without_sample old.made.samples.next (with_sample sample.port sample.taken old.made)) new)
  released_next old sample received new releases names most state own asks few stands =
      steps.release old.made.samples.next (record { port = sample.port; taken = sample.taken })
      (hub_after_call old (with_sample sample.port sample.taken old.made) received) new true
      (found_next old.made.samples (record { port = sample.port; taken = sample.taken }) (old.made.samples.next + 1) stands.ran.rise.4)
      (drops_released sample.port sample.taken received new (hub_ports sample.port.domain received) releases) names most state own asks few
      stands
