use Rattle.std.proofs.Common.{arith, sym, ◌∙◌, length}
use Rattle.iox_lanes_opening.specs.UpToDate.{is_stray}
use Rattle.iox_lanes_opening.proofs.Again.{any_at, none_all, none_next}
use Rattle.iox_lanes_opening.proofs.refusals.up_to_date.has_stray_tie.Goals as goal

pub returns-then-is_stray : goal.returns-then-is_stray
returns-then-is_stray g c = sym (any_at (is_stray c.args.list.now c.args.port.now) (length c.args.port.now.ties.items) c.loop-place.place
    (omega (arith, c.loop-place-test.true, c.len-place-end.ensures)) (sym c.is_stray.ensures ∙ c.if-is_stray.true))

pub loop-place-preserved : goal.loop-place-preserved
loop-place-preserved g c = none_next (is_stray c.args.list.now c.args.port.now) c.loop-place.place c.is_stray.result c.loop-place.invariant
    c.is_stray.ensures c.if-is_stray.false

pub returns : goal.returns
returns g c = sym (none_all (is_stray c.args.list.now c.args.port.now) (length c.args.port.now.ties.items) c.loop-place.place
    (omega (arith, c.loop-place-test.false, c.len-place-end.ensures)) c.loop-place.invariant)
