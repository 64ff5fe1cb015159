use Rattle.std.proofs.Common.{◌≡◌, ◌-◌, length, get_or, arith, ap}
use Rattle.std.proofs.lemmas.List.{get_or_default}
use Rattle.iox_container.proofs.Numbers.{place-behind}
use Rattle.iox_container.proofs.by_number.entries.place_for.Goals as goal
use Rattle.iox_container.proofs.by_number.entries.place_for.Goals.{then-len-eq0-via-then-len-eq0}
use Rattle.iox_container.proofs.by_number.entries.place_for.Goals.{then-len-eq0-via-else-len-eq0+then-entries-len}

pub returns-then-len-eq0-clause-position : goal.returns-then-len-eq0-clause-position
returns-then-len-eq0-clause-position g c =
    elim c.then-len-eq0.branch [
      | then-len-eq0-via-then-len-eq0 w ↦
          place-behind c.args.number c.args.entries.now c.requires (λ default within. absurd (omega (arith, within, w.if-len-eq0)))
      | then-len-eq0-via-else-len-eq0+then-entries-len w ↦
          place-behind c.args.number c.args.entries.now c.requires (λ default within.
          let last : get_or c.args.entries.now (length c.args.entries.now - 1) default
          ≡ get_or c.args.entries.now (length c.args.entries.now - 1) w.index-entries-len.result
          = get_or_default c.args.entries.now (length c.args.entries.now - 1) default w.index-entries-len.result (omega (arith, within)) in
          let same = ap (λ entry. entry.0) last in
          grind arith)
    ]
