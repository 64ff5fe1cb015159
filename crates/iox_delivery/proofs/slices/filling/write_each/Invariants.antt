use Rattle.std.proofs.Common.{◌≡◌, List, length}
use denote.Param.Always.{always_mut}
use denote.Param.Members.{Called}
use Rattle.iox_delivery.specs.Container.Vectors.{MakesInTurn}
use Rattle.iox_delivery.specs.Slices.{each_written}
use Rattle.iox_delivery.proofs.slices.filling.write_each.Given as goal

-- what the calls so far gave is written
abbrev pub invariant-loop-place : goal.invariant-loop-place
invariant-loop-place g l =
    (values : List g.row.T.Denot) × MakesInTurn (λ p place value q. Called g.F.FnMut p (place, tt) value q) l.initial.make 0 values l.make
    × (length values ≡ l.place)
    × (l.publisher ≡ each_written l.slot 0 values l.initial.publisher)
    × always_mut g.F.FnMut l.make
