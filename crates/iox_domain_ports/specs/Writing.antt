-- What is in a loan is written and read, and a loan is dropped.
use Rattle.std.specs.Prelude.{ℕ, Bool, List, get_or, ◌==◌, Option, None, Some, if◌then◌else◌}
use Rattle.std.specs.List.{find, position}
use Rattle.iox_domain_ports.specs.Messages.{Loan, is_written, written_of}
use Rattle.iox_domain_ports.specs.MessagesSending.{with_uses, change_loan}
use Rattle.iox_domain_ports.specs.Sending.{dropped_at}
use Rattle.iox_domain_ports.specs.declared.publisher_port.PublisherPort.{PublisherPort}

-- The place in the list of loans of the one in this slot.
abbrev pub place_of : {T U : Type 0} → ℕ → PublisherPort T U → Option ℕ
place_of slot port = position (λ loan. loan.slot == slot) port.sender.uses.loans

-- The loan in this slot.
abbrev pub loan_of : {T U : Type 0} → ℕ → PublisherPort T U → Option (Loan T U)
loan_of slot port = find (λ loan. loan.slot == slot) port.sender.uses.loans

-- The publisher after the loan in this slot was changed.
abbrev pub changed_there : {T U : Type 0} → ℕ → (Loan T U → Loan T U) → PublisherPort T U → PublisherPort T U
changed_there slot change port = record port { sender = with_uses (change_loan slot change port.sender.uses) port.sender }

-- The publisher after the loan in this slot was changed, if that is allowed; otherwise unchanged.
abbrev pub changed_if : {T U : Type 0} → Bool → ℕ → (Loan T U → Loan T U) → PublisherPort T U → PublisherPort T U
changed_if allowed slot change port =
    if allowed then changed_there slot change port else port

-- The value at this place of the loan, if there is a loan and the value is written.
abbrev pub value_at : {T U : Type 0} → ℕ → Option (Loan T U) → Option T
value_at place None = None
value_at place (Some loan) = get_or loan.values place None

-- The values of the loan, if there is one and each of them is written.
abbrev pub values_at : {T U : Type 0} → Option (Loan T U) → Option (List T)
values_at None = None
values_at (Some loan) = if is_written loan then Some (written_of loan.values) else None

-- The publisher after the loan at this place of the list, if one is given, was dropped.
abbrev pub given_up_at : {T U : Type 0} → Option ℕ → PublisherPort T U → PublisherPort T U
given_up_at None port = port
given_up_at (Some at) port = dropped_at at port

-- The publisher after the loan in this slot, if there is one, was dropped.
abbrev pub given_up : {T U : Type 0} → ℕ → PublisherPort T U → PublisherPort T U
given_up slot port = given_up_at (place_of slot port) port
