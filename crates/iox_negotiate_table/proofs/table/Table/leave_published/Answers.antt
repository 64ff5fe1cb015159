use borrow.Author.Rules.{rules}
use Rattle.iox_negotiate_table.proofs.Found.{leaves-found}
use Rattle.iox_negotiate_table.proofs.table.Table.leave_published.Goals as goal

pub returns : goal.returns
returns c = leaves-found _ _ _ _ _ _ c.in-Some.segment.now c.leave.new.self _ (search rules) c.leave.ensures.after
    c.leave.ensures.answer (search rules)
