use Rattle.std.proofs.Common.{◌≡◌, length}
use Rattle.iox_lanes_laws.specs.Numbered.{last_number}
use Rattle.iox_lanes_laws.proofs.messages.order.last_number.Given as goal

abbrev pub invariant-loop-number : goal.invariant-loop-number
invariant-loop-number l = (l.last ≡ last_number l.messages l.slot l.moment l.number) × (l.number-end ≡ length l.messages)
