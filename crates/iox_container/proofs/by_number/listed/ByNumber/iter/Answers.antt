use Rattle.std.proofs.Common.{ℕ, length, ap}
use Rattle.std.proofs.iter.runs.Sources.{from_front}
use Rattle.std.specs.Map.Iter.{TakesFirst, deref_pair}
use Rattle.iox_container.proofs.by_number.listed.ByNumber.iter.Goals as goal

pub returns-clause-runs : goal.returns-clause-runs
returns-clause-runs g c =
    from_front (TakesFirst (deref_pair {K = ℕ} {X = g.row.X.Denot})) deref_pair (λ rest. rest) (λ rest after took. ap length took.0)
    (λ rest item after took. took)
