use Rattle.std.proofs.Common.{arith}
use Rattle.iox_domain_ports.specs.Progress.{ProgressState}
use Rattle.iox_domain_ports.proofs.Delivering.{none_passed, some_passed}
use Rattle.iox_domain_ports.proofs.progress.Progress.pass_all.Goals as goal

pub returns-then-count-eq0 : goal.returns-then-count-eq0
returns-then-count-eq0 c = none_passed c.args.count c.args.self.now (omega arith)

pub returns : goal.returns
returns c =
    let p = c.self.inside in
    let before : ProgressState = record {
      place = p.place;
      retries = p.retries;
      elapsed = p.elapsed;
      delivered = p.delivered;
      fails = p.fails;
    } in
    rw (← c.self.view_is) (some_passed c.args.count before (omega arith))
