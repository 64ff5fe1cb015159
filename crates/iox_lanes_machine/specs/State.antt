-- The fields of lanes, as lists and numbers.
use Rattle.iox_lanes_machine.specs.World.{World}
use Rattle.iox_lanes_machine.specs.declared.state.State.{State}

-- The state of lanes in the terms of `World`.
abbrev pub world_of : State → World
world_of s = record {
  table = s.table;
  links = s.links.items;
  publishers = s.publishers.items;
  subscribers = s.subscribers.items;
  orders = s.orders.items;
  moments = s.moments;
  finished = s.finished.items;
  read = s.read.items;
}
