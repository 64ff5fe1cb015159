use Rattle.std.proofs.Common.{◌+◌, arith}
use Rattle.iox_container.proofs.Rising.{Rises-higher, Rises-push}
use Rattle.iox_container.proofs.by_number.ring.make_place.Goals.{in-Some, in_default}
use Rattle.iox_container.proofs.by_number.ring.make_place.Goals as goal

pub returns-clause-rises : goal.returns-clause-rises
returns-clause-rises g c =
    let first = c.args.first.now in
    elim c.match-oldest.branch [
      | in-Some w ↦ rw (w.aged-is, w.push_back_reserved.ensures.items)
          (Rises-push 1 first c.args.aged.now.items w.in-Some.value c.requires.rises)
      | in_default w ↦ rw w.aged-is (Rises-higher 1 first (first + 1) c.args.aged.now.items (omega arith) c.requires.rises)
    ]
