use Rattle.std.proofs.Common.{rules, ◌≡◌, ◌∙◌, false, true, sym, ap}
use Rattle.iox_domain_ports.specs.MessagesSending.{has_place}
use Rattle.iox_domain_ports.specs.Writing.{value_at}
use Rattle.iox_domain_ports.proofs.Finding.{found, missing}
use Rattle.iox_domain_ports.proofs.publisher_port.PublisherPort.value.Goals as goal

pub returns-then-not-has_place : goal.returns-then-not-has_place
returns-then-not-has_place g c =
    let none : has_place c.args.slot c.args.place c.args.self.now.sender.uses ≡ false
    = search (rules, c.has_place.ensures, c.if-not-has_place.true) in
    sym (missing c.args.slot c.args.place c.args.self.now.sender.uses.loans none)

pub returns : goal.returns
returns g c =
    let there : has_place c.args.slot c.args.place c.args.self.now.sender.uses ≡ true
    = search (rules, c.has_place.ensures, c.if-not-has_place.false) in
    let loan = found c.args.slot c.args.place c.args.self.now.sender.uses.loans there in
    c.value.ensures loan.0 loan.1 loan.2 loan.3 ∙ sym (ap (value_at c.args.place) loan.4)
