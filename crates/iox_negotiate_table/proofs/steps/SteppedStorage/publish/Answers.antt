use Rattle.std.proofs.Common.{◌≡◌, Ok}
use borrow.Author.Rules.{rules}
use Rattle.iox_negotiate_table.proofs.steps.SteppedStorage.publish.Goals as goal

pub returns-in-Ok : goal.returns-in-Ok
returns-in-Ok c =
    let same : c.run_list.new.self.table ≡ c.self.inside.table = search rules in
    (c.self.inside.table, Ok c.in-Ok.field-0, rw (← same) c.in-Ok.ensures.acts, c.publish.ensures, search rules)
