use Rattle.std.proofs.Common.{Result, length}
use Rattle.std.specs.declared.alloc.AllocError.{AllocError}
use Rattle.iox_negotiate_table.specs.Contents.{Contents}
use Rattle.iox_negotiate_table.specs.Stepped.{ActsAll}
use Rattle.iox_hub_base.proofs.foreign.act_all.Given as goal

-- what the steps that are left do to the table as it is, all do to the table as it was
abbrev pub invariant-loop-split : goal.invariant-loop-split
invariant-loop-split l =
    (result : Result (Unit {0}) AllocError) (last : Contents) → ActsAll l.hash l.rest l.table result last
    → ActsAll l.fn.hash l.fn.steps l.fn.table result last

abbrev pub decreases-loop-split : goal.decreases-loop-split
decreases-loop-split l = length l.rest
