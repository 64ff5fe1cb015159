use Rattle.std.proofs.Common.{arith, ◌≡◌, None, Err}
use Rattle.std.specs.BTreeMap.{is_at}
use Rattle.std.specs.Map.{lookup}
use Rattle.std.specs.Ordering.{nat_cmp}
use Rattle.iox_container.specs.ByNumber.{values_in}
use Rattle.iox_container.proofs.Numbers.{stands-at}
use Rattle.iox_container.proofs.Valued.{found-nowhere}
use Rattle.iox_container.proofs.by_number.entries.sought.Goals as goal

pub unreachable-requires : goal.unreachable-requires
unreachable-requires g c =
    let none : lookup (is_at (nat_cmp c.args.number)) (values_in c.args.entries.now) ≡ None
    = found-nowhere c.args.number c.args.entries.now c.requires.rises (Err c.in-Err.field-0) c.in-Err.ensures.position in
    let there = c.requires.there in
    grind arith

pub returns-clause-found : goal.returns-clause-found
returns-clause-found g c = stands-at c.args.number c.args.entries.now c.requires.rises c.in-Ok.found c.in-Ok.ensures.position
