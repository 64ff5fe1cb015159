use Rattle.std.proofs.Common.{arith, rules}
use Rattle.iox_container.proofs.TextRows.{HoldsText-grown, HoldsText-shrunk}
use Rattle.iox_container.proofs.string.row.replace_in_row.Goals as goal

pub returns-then-new_len-len : goal.returns-then-new_len-len
returns-then-new_len-len c =
    HoldsText-shrunk _ c.args.len c.args.from c.args.to _ c.args.cells.now c.args.bytes.now _ _ c.requires.row
    c.requires.start_le_end c.requires.in_bounds c.requires.valid (omega arith) (omega arith) c.splice_cells.ensures
    (c.fill.ensures.after (search rules))

pub returns-else-new_len-len : goal.returns-else-new_len-len
returns-else-new_len-len c =
    HoldsText-grown _ c.args.len c.args.from c.args.to _ c.args.cells.now c.args.bytes.now _ c.requires.row
    c.requires.start_le_end c.requires.in_bounds c.requires.valid (omega arith) (omega arith) (omega arith) c.splice_cells.ensures
