use Rattle.std.proofs.Common.{◌∙◌, sym}
use Rattle.iox_queues.proofs.Single.{load-ends}
use Rattle.iox_queues.proofs.shared.calls.load_single.Goals as goal

pub returns : goal.returns
returns g c =
    let ran = c.run.ensures in (
      ran.0,
      c.run.result,
      ran.1,
      ran.2,
      c.is_over.ensures,
      λ is. load-ends g.M.Memory.answers ran.0 _ _ _ ran.1
          (sym c.is_over.ensures ∙ is),
    )
