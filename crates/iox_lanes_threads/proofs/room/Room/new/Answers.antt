use Rattle.iox_lanes_threads.proofs.Standing.{fitting}
use Rattle.iox_lanes_threads.proofs.room.Room.new.Goals as goal

pub open_table-requires : goal.open_table-requires
open_table-requires c =
    let own = c.are_of_one_service.ensures in
    fitting c.args.lanes.now
    (record {
      within = own.within;
      rows = own.rows;
      named = own.named;
      near = own.near;
      together = own.together;
      rooms = own.rooms;
    }) c.requires.few
