use Rattle.std.proofs.Common.{sym, ap, ◌∙◌}
use Rattle.iox_container.specs.SlotTable.{without}
use Rattle.iox_container.proofs.Made.{all_keys-without, made-linked}
use Rattle.iox_container.proofs.free_keys.FreeKeys.remove.Goals as goal

pub remove-requires : goal.remove-requires
remove-requires c =
    made-linked c.make_up_to.new.keys c.args.key c.make_up_to.ensures.made
    (rw (← c.self.view_is, sym c.make_up_to.ensures.all) at c.requires.free)

pub returns : goal.returns
returns c =
    let is = all_keys-without c.make_up_to.new.keys c.args.key c.make_up_to.ensures.made in
    let same = ap (λ keys. without c.args.key keys) c.make_up_to.ensures.all in
    rw (← c.self.view_is, c.remove.ensures) (cc (is ∙ same, c.make_up_to.ensures.room))
