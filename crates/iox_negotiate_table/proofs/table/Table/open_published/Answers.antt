use borrow.Author.Rules.{rules}
use Rattle.iox_negotiate_table.proofs.Found.{opens-found}
use Rattle.iox_negotiate_table.proofs.table.Table.open_published.Goals as goal

pub returns : goal.returns
returns c = opens-found _ _ _ _ _ _ c.in-Some.segment.now c.open.new.self _ (search rules) c.open.ensures (search rules)
