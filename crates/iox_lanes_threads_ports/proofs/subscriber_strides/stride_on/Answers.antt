use Rattle.std.proofs.Common.{refl}
use Rattle.iox_lanes_threads_ports.proofs.Between.{release_short}
use Rattle.iox_lanes_threads_ports.proofs.Striding.{strode_none}
use Rattle.iox_lanes_threads_ports.proofs.SubscriberStriding.{subscriber_goes_ahead}
use Rattle.iox_lanes_threads_ports.proofs.subscriber_strides.stride_on.Goals as goal

pub returns-in-Releasing-default-default-Begun-clause-short : goal.returns-in-Releasing-default-default-Begun-clause-short
returns-in-Releasing-default-default-Begun-clause-short g c =
    let ends = c.ring_stride.ensures.ends in
    release_short c.args.lane.now c.ring_stride.new.lane c.in-Releasing-default-default-Begun.place
    c.in-Releasing-default-default-Begun.route ends.0 ends.1 ends.2 ends.3

pub returns-clause-strode : goal.returns-clause-strode
returns-clause-strode g c = strode_none subscriber_goes_ahead c.args.seat.now.me c.args.lane.now c.requires.seat.0 c.requires.stands

pub returns-2 : goal.returns-2
returns-2 g c = record {
  table = (refl, refl);
  short = c.requires.short;
  strode
      = strode_none subscriber_goes_ahead c.args.seat.now.me c.args.lane.now c.requires.seat.0 c.requires.stands;
}

pub returns-3 : goal.returns-3
returns-3 g c = record {
  table = (refl, refl);
  short = c.requires.short;
  strode
      = strode_none subscriber_goes_ahead c.args.seat.now.me c.args.lane.now c.requires.seat.0 c.requires.stands;
}
