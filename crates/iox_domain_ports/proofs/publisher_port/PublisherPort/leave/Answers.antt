use Rattle.std.proofs.Common.{arith, length}
use Rattle.iox_domain_ports.specs.Leaving.{departed}
use Rattle.iox_domain_ports.proofs.Parting.{parting_on, parted, none_still}
use Rattle.iox_domain_ports.proofs.publisher_port.PublisherPort.leave.Goals as goal

pub loop-index-preserved : goal.loop-index-preserved
loop-index-preserved g c = record {
  parted = parting_on (length c.args.self.now.sender.uses.connections) c.loop-index.index (departed c.args.self.now)
      c.loop-index.self c.part.new.self
      c.loop-index.invariant.parted (omega (arith, c.loop-index-test.true, c.top-end.ensures.within)) c.part.ensures;
  none = none_still c.top-end.result c.loop-index.index c.loop-index.self c.part.new.self c.loop-index.invariant.none c.part.ensures;
}

pub returns : goal.returns
returns g c = parted (length c.args.self.now.sender.uses.connections) c.loop-index.index (departed c.args.self.now) c.loop-index.self
    c.loop-index.invariant.parted
    (λ other past. c.loop-index.invariant.none other (omega (arith, past, c.loop-index-test.false)))
