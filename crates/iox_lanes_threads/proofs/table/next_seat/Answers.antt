use Rattle.std.proofs.Common.{◌<◌, sym, subst, ◌∙◌}
use Rattle.atomic_table.specs.Seated.{TableId}
use Rattle.iox_lanes_threads.proofs.table.next_seat.Goals as goal

pub give_out-requires-clause-table : goal.give_out-requires-clause-table
give_out-requires-clause-table c = (
  c.requires.table.0 ∙ sym c.words.ensures,
  subst (λ (t : TableId). 0 < t.words) (sym c.words.ensures) c.requires.table.1,
)
