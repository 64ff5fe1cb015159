use Rattle.std.proofs.Common.{arith}
use Rattle.std.proofs.lemmas.Grind.{common_steps}
use Rattle.iox_describe_settings.proofs.setting.are_same.Goals as goal

pub loop-setting-init : goal.loop-setting-init
loop-setting-init g c = grind (arith, common_steps)

pub returns-then-not-is_same : goal.returns-then-not-is_same
returns-then-not-is_same g c = grind (arith, common_steps)

pub loop-setting-preserved : goal.loop-setting-preserved
loop-setting-preserved g c = grind (arith, common_steps)

pub returns : goal.returns
returns g c = grind (arith, common_steps)
