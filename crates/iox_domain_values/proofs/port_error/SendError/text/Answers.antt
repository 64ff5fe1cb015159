use Rattle.std.proofs.Common.{refl}
use Rattle.iox_domain_values.proofs.port_error.SendError.text.Goals as goal

pub returns-in-ConnectionBrokenSinceSenderNoLongerExists : goal.returns-in-ConnectionBrokenSinceSenderNoLongerExists
returns-in-ConnectionBrokenSinceSenderNoLongerExists c = rw c.in-ConnectionBrokenSinceSenderNoLongerExists.is refl

pub returns-in-ConnectionCorrupted : goal.returns-in-ConnectionCorrupted
returns-in-ConnectionCorrupted c = rw c.in-ConnectionCorrupted.is refl

pub returns-in-UnableToDeliver : goal.returns-in-UnableToDeliver
returns-in-UnableToDeliver c = rw c.in-UnableToDeliver.is refl

pub returns-in-InternalError : goal.returns-in-InternalError
returns-in-InternalError c = rw c.in-InternalError.is refl
