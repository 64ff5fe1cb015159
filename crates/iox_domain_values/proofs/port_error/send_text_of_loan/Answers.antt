use Rattle.std.proofs.Common.{refl}
use Rattle.iox_domain_values.proofs.port_error.send_text_of_loan.Goals as goal

pub returns-in-OutOfMemory : goal.returns-in-OutOfMemory
returns-in-OutOfMemory c = rw c.in-OutOfMemory.is refl

pub returns-in-ExceedsMaxLoans : goal.returns-in-ExceedsMaxLoans
returns-in-ExceedsMaxLoans c = rw c.in-ExceedsMaxLoans.is refl

pub returns-in-ExceedsMaxLoanSize : goal.returns-in-ExceedsMaxLoanSize
returns-in-ExceedsMaxLoanSize c = rw c.in-ExceedsMaxLoanSize.is refl

pub returns-in-InternalFailure : goal.returns-in-InternalFailure
returns-in-InternalFailure c = rw c.in-InternalFailure.is refl
