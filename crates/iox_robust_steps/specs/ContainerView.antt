-- The state of a container's machine, as lists and numbers.
use Rattle.iox_robust_steps.specs.ContainerMachine.{ContainerParts}
use Rattle.iox_robust_steps.specs.declared.container.state.MemberState.{MemberState}

-- The state of a container's machine, with its vectors as lists.
abbrev pub parts_of : MemberState → ContainerParts
parts_of s = record {
  indices = s.set;
  values = s.values.items;
  words = s.ring;
  seats = s.seats.items;
  events = s.events.items;
  finished = s.finished.items;
}
