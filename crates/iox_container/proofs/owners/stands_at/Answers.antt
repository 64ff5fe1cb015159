use Rattle.std.proofs.Common.{arith}
use Rattle.std.proofs.lemmas.Bool.{not-true}
use Rattle.iox_container.proofs.Listed.{stands-between}
use Rattle.iox_container.proofs.owners.stands_at.Goals as goal
use Rattle.iox_container.proofs.owners.stands_at.Goals.{else-at-gt0-via-then-at-gt0+else-not-is_before, else-at-gt0-via-else-at-gt0}

pub returns-then-at-entries-2 : goal.returns-then-at-entries-2
returns-then-at-entries-2 c last =
    stands-between c.args.entries.now (c.args.owner, c.args.place) c.args.at (0, 0) c.requires c.if-at-entries.false
    (λ more. elim c.else-at-gt0.branch [
      | else-at-gt0-via-then-at-gt0+else-not-is_before w ↦ w.is_before.ensures.yes w.if-not-is_before.false
      | else-at-gt0-via-else-at-gt0 w ↦ absurd (omega (arith, w.if-at-gt0.false))
    ])
    (λ more. absurd (omega (arith, c.if-at-entries-2.true)))

pub returns-else-at-entries-2 : goal.returns-else-at-entries-2
returns-else-at-entries-2 c behind =
    stands-between c.args.entries.now (c.args.owner, c.args.place) c.args.at (0, 0) c.requires c.if-at-entries.false
    (λ more. elim c.else-at-gt0.branch [
      | else-at-gt0-via-then-at-gt0+else-not-is_before w ↦ w.is_before.ensures.yes w.if-not-is_before.false
      | else-at-gt0-via-else-at-gt0 w ↦ absurd (omega (arith, w.if-at-gt0.false))
    ])
    (λ more. c.is_before-else-at-entries-2.ensures.no (not-true c.is_before-else-at-entries-2.result behind))
