use Rattle.std.proofs.Common.{◌≡◌, ◌*◌, slice_get, option_copied, Some, ap, subst, sym, ◌∙◌}
use Rattle.iox_lanes.specs.Joined.{row_of}
use Rattle.iox_lanes.specs.Returning.{IsPortLeftIf}
use Rattle.iox_lanes.specs.Spelling.{reading_back}
use Rattle.iox_lanes.proofs.PortsLeft.{port_left}
use Rattle.iox_lanes.proofs.returning.restore_port.Goals as goal

pub returns-clause-left : goal.returns-clause-left
returns-clause-left g c = λ rest joins.
    let found : slice_get c.args.left.now.lanes.now.publishers c.args.place ≡ Some c.in-Some.lane.now
    = sym c.lane_at.ensures ∙ ap option_copied c.in-Some.is in
    subst (λ lane. IsPortLeftIf (reading_back c.args.left.now.numbered g.T.Words.of_parts g.U.Words.of_parts) c.args.left.now.lanes.now
    (c.args.place * c.args.left.now.readers)
    (row_of c.args.left.now.readers c.args.left.now.indices.now c.args.place) lane (Some c.args.port.now) (Some c.restore_lane.new.port))
    (sym found)
    (port_left (reading_back c.args.left.now.numbered g.T.Words.of_parts g.U.Words.of_parts) c.args.left.now.lanes.now c.args.place
    c.args.left.now.readers
    c.args.left.now.indices.now c.in-Some.lane.now
    c.args.port.now c.restore_lane.new.port
    (record {
      within = c.are_of_one_service.ensures.within;
      mail = c.are_of_one_service.ensures.mail;
      room
          = c.are_of_one_service.ensures.room;
      histories = c.are_of_one_service.ensures.histories;
    })
    rest found joins c.restore_lane.ensures.rest
    (rw c.in-Some-row_at.ensures.row.0 at (rw c.in-Some-row_at.ensures.row.1 at c.restore_lane.ensures.restored)))
