use Rattle.std.proofs.Common.{◌<◌, arith, ◌∙◌}
use Rattle.iox_container.proofs.Made.{all_keys-next}
use Rattle.iox_container.proofs.free_keys.make_up_to.Goals as goal

pub loop-keys-preserved : goal.loop-keys-preserved
loop-keys-preserved c =
    let k = c.loop-keys.keys in
    let more : k.made < k.room = omega (arith, c.loop-keys-test.true, c.made.ensures, c.requires, c.loop-keys.invariant.1) in
    rw c.make_next.ensures (all_keys-next k more ∙ c.loop-keys.invariant.0, c.loop-keys.invariant.1, λ _. omega (arith, more))
