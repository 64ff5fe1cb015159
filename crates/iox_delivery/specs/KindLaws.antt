-- What may be sent is written, and what may be read is held.
use Rattle.std.proofs.Common.{◌≡◌, ◌==◌, ◌&&◌, ℕ, Bool, true, false, is_some, Option, None, Some, refl}
use Rattle.iox_domain.specs.DomainPorts.Messages.{Loan, Message}
use Rattle.iox_domain.specs.DomainPorts.MessagesSending.{is_written_loan}
use Rattle.iox_domain.specs.DomainPorts.declared.attached.Taken.{Taken}
use Rattle.iox_domain.specs.declared.ports.service_ports.ServicePorts.{ServicePorts}
use Rattle.iox_delivery.specs.Holding.{is_sample, value_found, message_found, subscriber_found, holds_sample, holds_message}

-- If both hold, the first one does.
pub left_of : (a b : Bool) → (a && b) ≡ true → a ≡ true
left_of true b h = refl
left_of false b h = h

-- If both hold, the second one does.
pub right_of : (a b : Bool) → (a && b) ≡ true → b ≡ true
right_of true b h = h
right_of false b h = cc

-- If a message with a value is held, a message is held.
value_of_message : {T U : Type 0} (found : Option (Message T U)) (there own : Bool)
    → ((there && is_some (value_found 0 found)) && own) ≡ true
    → ((there && is_some found) && own) ≡ true
value_of_message None true own holds = holds
value_of_message None false own holds = holds
value_of_message (Some message) true own holds = right_of _ _ holds
value_of_message (Some message) false own holds = holds

-- A sample with a value that is held is a message that is held.
pub sample_is_message : {T U : Type 0} (number : ℕ) (taken : Taken) (ports : Option (ServicePorts T U))
    → holds_sample number taken ports ≡ true → holds_message number taken ports ≡ true
sample_is_message number taken ports holds =
    value_of_message (message_found taken ports) (is_some (subscriber_found number ports)) (taken.subscriber == number) holds

-- A loan that may be sent as a single value is completely written.
pub sample_is_written : {T U : Type 0} (loan : Option (Loan T U)) → is_sample loan ≡ true → is_written_loan loan ≡ true
sample_is_written loan holds = left_of _ _ holds

-- A loan that may be sent as a single value exists.
pub sample_is_loan : {T U : Type 0} (loan : Option (Loan T U)) → is_sample loan ≡ true → is_some loan ≡ true
sample_is_loan None holds = holds
sample_is_loan (Some loan) holds = refl

-- A loan that is completely written exists.
pub written_is_loan : {T U : Type 0} (loan : Option (Loan T U)) → is_written_loan loan ≡ true → is_some loan ≡ true
written_is_loan None holds = holds
written_is_loan (Some loan) holds = refl
