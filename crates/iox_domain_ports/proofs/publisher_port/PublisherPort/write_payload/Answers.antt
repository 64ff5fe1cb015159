use Rattle.std.proofs.Common.{rules, ◌≡◌, true}
use Rattle.iox_domain_ports.specs.MessagesSending.{has_length}
use Rattle.iox_domain_ports.proofs.Finding.{one_place}
use Rattle.iox_domain_ports.proofs.publisher_port.PublisherPort.write_payload.Goals as goal

pub write-requires : goal.write-requires
write-requires g c =
    let there : has_length c.args.slot 1 c.args.self.now.sender.uses ≡ true
    = search (rules, c.has_length.ensures, c.if-not-has_length.false) in
    one_place c.args.slot c.args.self.now.sender.uses.loans there
