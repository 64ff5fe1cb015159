use Rattle.iox_lanes_rows.proofs.in_turn.takes.Goals as goal

pub release-requires : goal.release-requires
release-requires c =
    let read = c.in-Some-Ok.ensures.read in
    let came = rw c.in-Some-Ok-Some.field-0-0-is at (rw c.in-Some-Ok-Some.field-0-is at c.in-Some-Ok-Some.ensures.number) in
    (came.2.0, rw (read.1, came.0) came.2.1)
