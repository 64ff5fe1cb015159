use Rattle.std.proofs.Common.{rules, ◌≡◌, ◌∙◌, false, is_some, sym}
use Rattle.iox_domain_ports.proofs.InSlot.{ready_is, written_there}
use Rattle.iox_domain_ports.proofs.publisher_port.PublisherPort.is_ready.Goals as goal

pub returns-then-not-is_sending-clause-ready : goal.returns-then-not-is_sending-clause-ready
returns-then-not-is_sending-clause-ready g c =
    let waits : is_some c.args.self.now.sender.uses.sending ≡ false = search (rules, c.is_sending.ensures, c.if-not-is_sending.true) in
    ready_is c.args.slot c.args.self.now false c.is_written.result waits (sym c.is_written.ensures)

pub returns-then-not-is_sending-clause-loan : goal.returns-then-not-is_sending-clause-loan
returns-then-not-is_sending-clause-loan g c = λ yes. written_there c.args.slot c.args.self.now.sender.uses (sym c.is_written.ensures ∙ yes)
