-- The final state of a service's ports once a `&mut` into a loan has ended.
use Rattle.std.specs.Prelude.{ℕ, Option}
use Rattle.std.specs.Borrow.{Fml, LendsIf, MutBor, RattleType}
use Rattle.iox_domain_ports.specs.Messages.{write_value, write_user_header}
use Rattle.iox_domain.specs.Lending.{loan_changed_in}
use Rattle.iox_domain.specs.declared.ports.service_ports.ServicePorts.{ServicePorts}
use Rattle.iox_domain.specs.contracts.ports.service_ports.ServicePorts.{the_row}

module _ (T U : RattleType) where
  -- When the reference ends, its last value is written at this place of the loan in this slot; if there was no reference, the ports
  -- are unchanged.
  abbrev pub LendsValue : MutBor (ServicePorts T.Denot U.Denot) → ℕ → ℕ → ℕ → Option (MutBor T.Denot) → Fml
  LendsValue ports number slot place answer
      = LendsIf (the_row T U) T ports answer (λ value. loan_changed_in number slot (write_value place value) ports.now) ports.now

  -- When the reference ends, its last user header is in the loan in this slot; if there was no reference, the ports are unchanged.
  abbrev pub LendsUserHeader : MutBor (ServicePorts T.Denot U.Denot) → ℕ → ℕ → Option (MutBor U.Denot) → Fml
  LendsUserHeader ports number slot answer
      = LendsIf (the_row T U) U ports answer (λ user_header. loan_changed_in number slot (write_user_header user_header) ports.now)
      ports.now
