-- The final state of a publisher once a `&mut` into one of its loans has ended.
use Rattle.std.specs.Prelude.{ℕ, Option}
use Rattle.std.specs.Borrow.{Fml, LendsIf, MutBor, RattleType}
use Rattle.iox_domain_ports.specs.Messages.{write_value, write_user_header}
use Rattle.iox_domain_ports.specs.Writing.{changed_there}
use Rattle.iox_domain_ports.specs.declared.publisher_port.PublisherPort.{PublisherPort}
use Rattle.iox_domain_ports.specs.contracts.publisher_port.PublisherPort.{the_row}

module _ (T U : RattleType) where
  -- When the reference ends, its last value is written at this place of the loan in this slot; if there was no reference, the
  -- publisher is unchanged.
  abbrev pub LendsValue : MutBor (PublisherPort T.Denot U.Denot) → ℕ → ℕ → Option (MutBor T.Denot) → Fml
  LendsValue port slot place answer = LendsIf (the_row T U) T port answer
      (λ value. changed_there slot (write_value place value) port.now) port.now

  -- When the reference ends, its last user header is in the loan in this slot; if there was no reference, the publisher is unchanged.
  abbrev pub LendsUserHeader : MutBor (PublisherPort T.Denot U.Denot) → ℕ → Option (MutBor U.Denot) → Fml
  LendsUserHeader port slot answer = LendsIf (the_row T U) U port answer
      (λ user_header. changed_there slot (write_user_header user_header) port.now) port.now
