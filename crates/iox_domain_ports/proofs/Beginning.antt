-- A loan that is out begins to be sent.
use Rattle.std.proofs.Common.{◌≡◌, ◌==◌, ◌∙◌, ℕ, true, slice_get, Option, Some, is_some, sym, ap}
use Rattle.std.proofs.lemmas.List.Folds.{find_at}
use Rattle.iox_domain_values.specs.Sequences.{next_sequence}
use Rattle.iox_domain_slots.specs.Uses.{begun}
use Rattle.iox_domain_ports.specs.Messages.{Loan, sent_as}
use Rattle.iox_domain_ports.specs.MessagesSending.{SenderState, with_uses, is_written_loan, loan_at, place_in}
use Rattle.iox_domain_ports.specs.Progress.{start}
use Rattle.iox_domain_ports.specs.Sending.{begun_at, begun_by}
use Rattle.iox_domain_ports.specs.declared.publisher_port.PublisherPort.{PublisherPort}
use Rattle.iox_domain_ports.proofs.Finding.{found_loan}
use Rattle.iox_domain_ports.proofs.InSlot.{written_there}

-- then a message is being sent
pub under_way : {T U : Type 0} (old new : SenderState T U) (slot : ℕ) (sequence : Option ℕ)
    → is_written_loan (loan_at slot old.uses) ≡ true
    → ((loan : Loan T U) → loan_at slot old.uses ≡ Some loan
    → new ≡ with_uses (begun (place_in slot old.uses) (sent_as sequence loan) old.uses) old)
    → (is_some new.uses.sending ≡ true) × (new.uses.overflows ≡ old.uses.overflows)
under_way old new slot sequence written begins =
    let found = found_loan slot old.uses.loans (written_there slot old.uses written) in
    (ap (λ sender. is_some sender.uses.sending) (begins found.1 found.4), ap (λ sender. sender.uses.overflows) (begins found.1 found.4))

-- the publisher with it, whose last number it has
abbrev with_sending : {T U : Type 0} → Option ℕ → SenderState T U → PublisherPort T U → PublisherPort T U
with_sending sequence sender port = record port { progress = start; last_sequence = sequence; sender = sender }

pub begins_at : {T U : Type 0} (port : PublisherPort T U) (new : SenderState T U) (slot : ℕ) (sequence : Option ℕ)
    → sequence ≡ next_sequence port.last_sequence → is_written_loan (loan_at slot port.sender.uses) ≡ true
    → ((loan : Loan T U) → loan_at slot port.sender.uses ≡ Some loan
    → new ≡ with_uses (begun (place_in slot port.sender.uses) (sent_as sequence loan) port.sender.uses) port.sender)
    → record port { progress = start; last_sequence = sequence; sender = new } ≡ begun_at (place_in slot port.sender.uses) port
begins_at port new slot sequence numbered written begins =
    let found = found_loan slot port.sender.uses.loans (written_there slot port.sender.uses written) in
    let at : slice_get port.sender.uses.loans (place_in slot port.sender.uses) ≡ Some found.1 =
    sym (find_at (λ loan. loan.slot == slot) port.sender.uses.loans) ∙ found.4 in
    ap (λ sender. with_sending sequence sender port) (begins found.1 found.4)
    ∙ ap (λ number. with_sending number
    (with_uses (begun (place_in slot port.sender.uses) (sent_as number found.1) port.sender.uses) port.sender) port) numbered
    ∙ ap (λ loan. begun_by (place_in slot port.sender.uses) loan port) (sym at)
