use Rattle.std.proofs.Common.{◌<◌, sym, subst, ◌∙◌}
use Rattle.atomic_table.specs.Seated.{TableId}
use Rattle.iox_lanes_threads_rule.proofs.GivingOut.{gives_with}
use Rattle.iox_lanes_threads_rule.proofs.gathering.give_out.Goals as goal

pub split_seat-requires : goal.split_seat-requires
split_seat-requires g c = (
  c.requires.table.0 ∙ sym c.shared.ensures,
  subst (λ (t : TableId). 0 < t.words) (sym c.shared.ensures) c.requires.table.1,
  gives_with c.args.home.now.id c.args.home.now.me c.requires.waits,
)
