-- The three types are added one after another.
use Rattle.std.proofs.Common.{[], ◌∷◌}
use Rattle.std.specs.Prelude.{codes}
use Rattle.json.specs.Token.{begin_object, end_object}
use Rattle.iox_describe.specs.Line.{detail_tree}
use Rattle.iox_describe.specs.Writing.{member_tokens}
use Rattle.iox_describe.proofs.Adding.{after, wrote}
use Rattle.iox_describe.proofs.writer.write_types.Goals as goal

pub returns : goal.returns
returns c =
    let r = c.end_object.result in
    let end = c.end_object.new.self in
    let t = c.args.types.now in
    after r (begin_object ∷ []) _ c.args.out.now c.begin_object.new.self end
    (c.in_ok-begin_object.ensures.room.0, c.in_ok-begin_object.ensures.ok)
    (after r (member_tokens (codes "header") (detail_tree t.header)) _ c.begin_object.new.self c.write_detail.new.out end
    c.in_ok-write_detail.ensures
    (after r (member_tokens (codes "payload") (detail_tree t.payload)) _ c.write_detail.new.out c.write_detail-2.new.out end
    c.in_ok-write_detail-2.ensures
    (after r (member_tokens (codes "user_header") (detail_tree t.user_header)) _ c.write_detail-2.new.out c.write_detail-3.new.out end
    c.in_ok-write_detail-3.ensures
    (wrote r end_object c.write_detail-3.new.out end c.end_object.ensures))))
