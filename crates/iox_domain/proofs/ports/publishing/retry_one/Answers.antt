use Rattle.std.proofs.Common.{sym, ◌∙◌}
use Rattle.iox_domain.proofs.Lifting.{retries_there}
use Rattle.iox_domain.proofs.ports.publishing.retry_one.Goals as goal

pub returns-clause-retries : goal.returns-clause-retries
returns-clause-retries g c = retries_there _ c.args.elapsed c.args.port.now c.retry.new.self c.retry.result
    (sym c.is_sending.ensures ∙ c.if-not-is_sending.false) c.retry.ensures
