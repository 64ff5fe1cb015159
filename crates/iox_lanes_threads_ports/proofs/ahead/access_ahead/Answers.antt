use Rattle.iox_lanes_threads_ports.proofs.Striding.{strode_access}
use Rattle.iox_lanes_threads_ports.proofs.ahead.access_ahead.Goals as goal

pub returns-clause-strode : goal.returns-clause-strode
returns-clause-strode g c touches p begun made run =
    strode_access c.goes_ahead.ensures p begun made c.args.seat.now.me c.access_as.new.seat.me c.args.lane.now c.args.call c.args.access
    c.access_as.result c.requires.next touches run c.access_as.ensures.told c.access_as.ensures.port
