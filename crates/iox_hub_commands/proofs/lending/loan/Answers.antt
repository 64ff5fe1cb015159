use Rattle.std.proofs.Common.{None}
use Rattle.iox_hub_commands.proofs.Skipping.{found_else_skipped}
use Rattle.iox_hub_commands.proofs.lending.loan.Goals as goal

pub returns-in-Err-clause-lacks : goal.returns-in-Err-clause-lacks
returns-in-Err-clause-lacks g c = found_else_skipped _ c.in-Err.lacking None c.in-Err.ensures.skips
