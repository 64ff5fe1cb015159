use Rattle.std.proofs.Common.{ap, ◌∙◌}
use Rattle.iox_lanes_threads.proofs.Giving.{opens_with}
use Rattle.iox_lanes_threads.proofs.table.open_table.Goals as goal

pub open-requires : goal.open-requires
open-requires c = opens_with c.args.lanes.now c.of.result.value c.words.result.now c.of.ensures
    (c.words.ensures ∙ ap (λ z. z.words) c.table.ensures) c.requires
