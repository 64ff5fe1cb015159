use Rattle.std.proofs.Common.{◌≡◌}
use Rattle.iox_queues.specs.declared.shared.single.Storing.TheVariants as storing
use Rattle.iox_queues.proofs.Single.{store-ends}
use Rattle.iox_queues.proofs.shared.calls.store_single.Goals as goal

pub returns : goal.returns
returns g c =
    let ran = c.run.ensures in
    let stored : c.run.result ≡ storing.Stored = store-ends g.M.Memory.answers ran.0 _ _ _ ran.1 ran.2 in
    (ran.0, rw stored at ran.1)
