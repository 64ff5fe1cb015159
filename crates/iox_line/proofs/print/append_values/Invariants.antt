use Rattle.std.proofs.Common.{◌≡◌, ◌++◌, length, take, drop}
use Rattle.iox_line.proofs.Shorthands.{values_text}
use Rattle.iox_line.proofs.print.append_values.Given as goal

abbrev pub invariant-loop-value : goal.invariant-loop-value
invariant-loop-value l = (l.out.items ++ values_text (drop l.value-index l.values) ≡ l.fn.out.items ++ values_text l.values)
    × (take (length l.fn.out.items) l.out.items ≡ l.fn.out.items)
