use Rattle.std.proofs.Common.{◌∷◌, []}
use Rattle.iox_domain.specs.Homes as homes
use Rattle.iox_delivery.proofs.Lent.{ready_is_written, ready_is_free}
use Rattle.iox_delivery.proofs.publisher.Publisher+T+U.send_copy.Goals as goal

pub send-requires-clause-holds : goal.send-requires-clause-holds
send-requires-clause-holds g c = ready_is_written c.args.self.now.port.number 1 c.in_ok-slot.slot (c.args.value ∷ [])
    (homes.ports_of g.H.LendsDomains.domain_of c.args.self.now.port.domain c.loan_value.new.home) c.in_ok-slot.ensures.ready

pub send-requires-clause-free : goal.send-requires-clause-free
send-requires-clause-free g c = ready_is_free c.args.self.now.port.number 1 c.in_ok-slot.slot (c.args.value ∷ [])
    (homes.ports_of g.H.LendsDomains.domain_of c.args.self.now.port.domain c.loan_value.new.home) c.in_ok-slot.ensures.ready
