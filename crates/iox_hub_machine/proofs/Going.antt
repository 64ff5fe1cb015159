-- Loans and samples of a hub that go by numbers, or by none.
use Rattle.std.proofs.Common.{◌≡◌, ℕ, true, List, None, Some, sym, ap, subst, ◌∙◌}
use Rattle.std.specs.Option.{option_map}
use Rattle.std.specs.Prelude.{find, is_some}
use Rattle.iox_command.specs.DomainValues.declared.backpressure.BackpressureDecision.{BackpressureDecision}
use Rattle.iox_command.specs.DomainValues.declared.backpressure.BackpressureInfo.{BackpressureInfo}
use Rattle.iox_command.specs.DomainValues.declared.degradation.DegradationAction.{DegradationAction}
use Rattle.iox_command.specs.DomainValues.declared.degradation.DegradationCause.{DegradationCause}
use Rattle.iox_command.specs.DomainValues.declared.degradation.DegradationInfo.{DegradationInfo}
use Rattle.iox_container.specs.NumberTable.{value_at}
use Rattle.iox_domain.specs.declared.domain_id.DomainId.{DomainId}
use Rattle.iox_domain.specs.declared.ports.service_ports.ServicePorts.{ServicePorts}
use Rattle.iox_domain_machine.specs.Naming.{Naming}
use Rattle.iox_domain_machine.specs.Services.{those_of, DomainsStandFor}
use Rattle.iox_domain_machine.specs.Standing.{StandsFor}
use Rattle.iox_hub_base.specs.AsHome.{hub_ports}
use Rattle.iox_hub_base.specs.ServicesAsHome.{domain_at, ports_if}
use Rattle.iox_hub_base.specs.declared.hub.Hub.{Hub}
use Rattle.iox_hub_commands.specs.declared.numbered_hub.NumberedHub.{NumberedHub}
use Rattle.iox_hub_commands.specs.declared.ports.made.Made.{Made}
use Rattle.iox_hub_commands.specs.declared.ports.made.MadeLoan.{MadeLoan}
use Rattle.iox_hub_commands.specs.declared.ports.made.MadeSample.{MadeSample}
use Rattle.iox_hub_machine.specs.Standing.{PortsStandFor, lent_slot, held_sample, lent_in, held_in}
use Rattle.iox_hub_machine.proofs.Housed.{some_here, some_ports, stands_here}
use Rattle.iox_hub_machine.proofs.Numbered.{goes_so, is_its_own, no_loan, no_sample}
use Rattle.iox_hub_machine.proofs.Parting.{is_parted, order_has}
use Rattle.iox_hub_machine.proofs.Placed.{IsPlaced, is_placed}
use Rattle.iox_machine.specs.Choices.{Choices}
use Rattle.iox_machine.specs.Service.{Service}
use Rattle.iox_machine.specs.State.{State}
use Rattle.iox_machine.specs.Table.{at}

module _ {T U B D : Type 0} where
  -- the ports of a domain are here, and what goes by a number there is its own
  pub record GoesThere {V : Type 0} (hub : NumberedHub T U B D) (id : DomainId) (number : ℕ) (value : V) (table : List (ℕ × (ℕ × V)))
      : Type 0 where
    pub ports : ServicePorts T U
    pub found : hub_ports id hub.hub ≡ Some ports
    pub goes : at number table ≡ Some (id.service, value)
    pub mine : at number (those_of id.service table) ≡ Some value

  goes_there : {V : Type 0} (hub : NumberedHub T U B D) (id : DomainId) (number : ℕ) (value : V) (table : List (ℕ × (ℕ × V)))
      → is_some (domain_at id hub.hub.services) ≡ true → at number table ≡ Some (id.service, value) → GoesThere hub id number value table
  goes_there hub id number value table here goes =
      let (domain, is) = some_here (domain_at id hub.hub.services) here in record {
        ports = domain.state.ports;
        found = ap ports_if is;
        goes = goes;
        mine = is_its_own id.service number value table goes;
      }

  module _ (choices : Choices T) (degrades : B → DegradationCause → DegradationInfo → DegradationAction → Type 0)
      (decides : B → BackpressureInfo → BackpressureDecision → Type 0)
      (reader_degrades : D → DegradationCause → DegradationInfo → DegradationAction → Type 0) (naming : ℕ → Naming)
      (order : List (ℕ × ServicePorts T U)) (old : NumberedHub T U B D) (state : State T)
      (stands : PortsStandFor choices degrades decides reader_degrades naming order old state)
      (number : ℕ) where
    pub loan_goes : (made : MadeLoan) → value_at old.made.loans number ≡ Some made
        → GoesThere old made.port.domain number (lent_slot made).1 (lent_in old.made)
    loan_goes made there =
        goes_there old made.port.domain number (lent_slot made).1 (lent_in old.made) (stands.loans number made there)
        (goes_so number lent_slot old.made.loans ∙ ap (option_map lent_slot) there)

    pub sample_goes : (made : MadeSample) → value_at old.made.samples number ≡ Some made
        → GoesThere old made.port.domain number (held_sample made).1 (held_in old.made)
    sample_goes made there =
        goes_there old made.port.domain number (held_sample made).1 (held_in old.made) (stands.samples number made there).0
        (goes_so number held_sample old.made.samples ∙ ap (option_map held_sample) there)

    pub no_loan_goes : value_at old.made.loans number ≡ None
        → find (λ (service : Service T). is_some (at number service.loans)) state.services ≡ None
    no_loan_goes none =
        no_loan naming (lent_in old.made) (held_in old.made) old.hub.expired_connection_buffer number
        (goes_so number lent_slot old.made.loans ∙ ap (option_map lent_slot) none)
        order state.services stands.domains.each

    pub no_sample_goes : value_at old.made.samples number ≡ None
        → find (λ (service : Service T). is_some (at number service.samples)) state.services ≡ None
    no_sample_goes none =
        no_sample naming (lent_in old.made) (held_in old.made) old.hub.expired_connection_buffer number
        (goes_so number held_sample old.made.samples ∙ ap (option_map held_sample) none)
        order state.services stands.domains.each

    -- a hub that has the same services and numbers
    pub same_stands : (new : NumberedHub T U B D) → new.hub ≡ old.hub → new.made ≡ old.made
        → PortsStandFor choices degrades decides reader_degrades naming order new state
    same_stands new same made =
        subst (λ (it : Hub T U B D). PortsStandFor choices degrades decides reader_degrades naming order (record new { hub = it }) state)
        (sym same)
        (subst (λ (it : Made). PortsStandFor choices degrades decides reader_degrades naming order
        (record new { hub = old.hub; made = it }) state)
        (sym made) record {
          here = stands.here;
          same = stands.same;
          domains = stands.domains;
          numbers = stands.numbers;
          loans = stands.loans;
          samples = stands.samples;
          publishers = stands.publishers;
          subscribers = stands.subscribers;
          named = stands.named;
          slices = stands.slices;
          publishers_handled = stands.publishers_handled;
          subscribers_handled = stands.subscribers_handled;
        })

  module _ (choices : Choices T) (degrades : B → DegradationCause → DegradationInfo → DegradationAction → Type 0)
      (decides : B → BackpressureInfo → BackpressureDecision → Type 0)
      (reader_degrades : D → DegradationCause → DegradationInfo → DegradationAction → Type 0) (naming : ℕ → Naming)
      (order : List (ℕ × ServicePorts T U)) (old : NumberedHub T U B D) (state : State T)
      (stands : PortsStandFor choices degrades decides reader_degrades naming order old state) where
    -- the service of the machine that a domain is
    pub some_place : (id : DomainId) (ports : ServicePorts T U) → hub_ports id old.hub ≡ Some ports
        → IsPlaced naming (lent_in old.made) (held_in old.made) old.hub.expired_connection_buffer (id.service, ports) state.services
    some_place id ports found =
        let (domain, is, same) = some_ports (domain_at id old.hub.services) ports found in
        let parts = is_parted id.service ports order
        (order_has order old.hub.services.domains stands.here stands.same id.service domain (stands_here id ports old.hub domain is)
        ∙ ap (λ (it : ServicePorts T U). Some it) same) in
        is_placed naming (lent_in old.made) (held_in old.made) old.hub.expired_connection_buffer parts.before parts.behind
        (id.service, ports) state.services
        (subst (λ (domains : List (ℕ × ServicePorts T U)). DomainsStandFor naming (lent_in old.made) (held_in old.made)
        old.hub.expired_connection_buffer domains state.services) parts.now stands.domains)

    -- the ports of a domain stand for some service of the machine
    pub some_service : (id : DomainId) (ports : ServicePorts T U) → hub_ports id old.hub ≡ Some ports
        → (service : Service T) × StandsFor (naming id.service) (those_of id.service (lent_in old.made))
        (those_of id.service (held_in old.made)) old.hub.expired_connection_buffer ports service
    some_service id ports found = let placed = some_place id ports found in (placed.service, placed.stands)
