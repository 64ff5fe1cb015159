-- The final state of a publisher once a `&mut` to a value of a loan has ended.
use Rattle.std.specs.Prelude.{ℕ}
use Rattle.std.specs.Borrow.{Fml, Lends, MutBor, RattleType}
use Rattle.iox_domain_ports.specs.Messages.{write_value, write_user_header}
use Rattle.iox_domain_ports.specs.MessagesSending.{SenderState, with_uses, change_loan}
use Rattle.iox_domain_ports.specs.contracts.messages.sender.Sender.{the_row}

module _ (T U : RattleType) where
  -- When the reference ends, its last value is written at this place of the loan in this slot.
  abbrev pub LendsValue : MutBor (SenderState T.Denot U.Denot) → ℕ → ℕ → MutBor T.Denot → Fml
  LendsValue sender slot place answer
      = Lends (the_row T U) T sender answer (λ value. with_uses (change_loan slot (write_value place value) sender.now.uses) sender.now)

  -- When the reference ends, its last user header is in the loan in this slot.
  abbrev pub LendsUserHeader : MutBor (SenderState T.Denot U.Denot) → ℕ → MutBor U.Denot → Fml
  LendsUserHeader sender slot answer = Lends (the_row T U) U sender answer
      (λ user_header. with_uses (change_loan slot (write_user_header user_header) sender.now.uses) sender.now)
