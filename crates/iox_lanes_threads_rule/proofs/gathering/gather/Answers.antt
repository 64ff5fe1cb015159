use Rattle.std.proofs.Common.{◌<◌, sym, ◌∙◌, subst}
use Rattle.atomic_table.specs.Seated.{TableId}
use Rattle.iox_lanes_threads_rule.proofs.Agreeing.{joins}
use Rattle.iox_lanes_threads_rule.proofs.gathering.gather.Goals as goal

pub join_seat-requires : goal.join_seat-requires
join_seat-requires g c = (
  c.requires.table.0 ∙ sym c.shared.ensures,
  c.requires.table.1 ∙ sym c.shared.ensures,
  c.requires.alone,
  subst (λ (t : TableId). 0 < t.words) (sym c.shared.ensures) c.requires.table.2,
  joins c.args.seat.now.id c.args.other.id c.args.seat.now.me.0 c.args.other.me.0,
)
