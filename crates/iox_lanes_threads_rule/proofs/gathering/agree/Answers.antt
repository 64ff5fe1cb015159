use Rattle.std.proofs.Common.{◌<◌, sym, ◌∙◌, subst}
use Rattle.atomic_table.specs.Seated.{TableId}
use Rattle.iox_lanes_threads_rule.proofs.Agreeing.{agreeing}
use Rattle.iox_lanes_threads_rule.proofs.gathering.agree.Goals as goal

pub load-requires : goal.load-requires
load-requires g c = (
  c.requires.table.0 ∙ sym c.shared.ensures,
  subst (λ (t : TableId). 0 < t.words) (sym c.shared.ensures) c.requires.table.1,
  agreeing c.shared.result.now.table_id.slots c.args.seat.id c.args.seat.me,
)
