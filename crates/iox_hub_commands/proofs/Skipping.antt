-- A call at a number that stands for nothing is skipped, whatever memory there is.
use Rattle.std.proofs.Common.{arith, ◌≡◌, ℕ, Option, None, Some, Ok, Err, refl}
use Rattle.std.specs.Prelude.{IsSome}
use Rattle.iox_delivery.specs.Domain.declared.ports.service_ports.ServicePorts.{ServicePorts}
use Rattle.iox_delivery.specs.Domain.declared.domain_id.DomainId.{DomainId}
use Rattle.iox_delivery.specs.declared.port_id.PortId.{PortId}
use Rattle.iox_container.specs.NumberTable.{NumberTable}
use Rattle.iox_hub_commands.specs.Growing.{GrowsFirst}
use Rattle.iox_hub_commands.specs.Numbering.{LendsNumbered, LendsWrittenNumbered}
use Rattle.iox_hub_commands.specs.Tables.{SameNumbers, IsRoomier}
use Rattle.iox_hub_commands.specs.declared.ports.made.Made.{Made}

same_numbers : {V : Type 0} (table : NumberTable V) → SameNumbers table table
same_numbers table = (refl, refl, omega arith)

same_room : (made : Made) → IsRoomier made made
same_room made = (same_numbers made.publishers, same_numbers made.subscribers, same_numbers made.loans, same_numbers made.samples)

module _ {T U H : Type 0} (ports_of : DomainId → H → Option (ServicePorts T U)) (with_ports : DomainId → ServicePorts T U → H → H)
    (is_full : Type 0) (made : Made) (home : H) where
  -- nothing is lent
  pub skips_loan_uninit : (elements : ℕ) (port : Option PortId) → port ≡ None
      → GrowsFirst is_full (LendsNumbered ports_of with_ports elements port) made home (Ok None) made home
  skips_loan_uninit elements port none = (made, same_room made, (None, rw none (refl, refl), (refl, refl)))

  pub skips_loan : (elements : ℕ) (value : T) (port : Option PortId) → port ≡ None
      → GrowsFirst is_full (LendsWrittenNumbered ports_of with_ports elements value port) made home (Ok None) made home
  skips_loan elements value port none = (made, same_room made, (None, rw none (refl, refl), (refl, refl)))

-- where a call isn't skipped that is where nothing is found, something is
pub found_else_skipped : {A B E : Type 0} (found : Option A) (error : E) (skipped : B) → (found ≡ None → Err error ≡ Ok skipped)
    → IsSome found
found_else_skipped None error skipped skips = cc (skips refl)
found_else_skipped (Some value) error skipped skips = refl
