use Rattle.std.proofs.Common.{arith}
use Rattle.std.proofs.lemmas.Grind.{common_steps}
use Rattle.iox_robust_steps.proofs.container.state.MemberState.new.Goals as goal

pub returns-in_err-cells : goal.returns-in_err-cells
returns-in_err-cells c = grind (arith, common_steps)

pub returns-in_err-insistent : goal.returns-in_err-insistent
returns-in_err-insistent c = grind (arith, common_steps)

pub returns-in_err-vec : goal.returns-in_err-vec
returns-in_err-vec c = grind (arith, common_steps)

pub returns : goal.returns
returns c = grind (arith, common_steps)
