use Rattle.std.proofs.Common.{rules, ◌≡◌, None, sym}
use Rattle.std.specs.BTreeMap.{is_at}
use Rattle.std.specs.Map.{lookup}
use Rattle.std.specs.Ordering.{nat_cmp}
use Rattle.iox_container.proofs.Numbers.{absent_unchanged}
use Rattle.iox_container.proofs.by_number.listed.ByNumber.replace.Goals as goal

pub returns-in_default : goal.returns-in_default
returns-in_default g c =
    let none : lookup (is_at (nat_cmp c.args.number)) c.args.self.now ≡ None
    = search (rules, c.get_mut.ensures.value, c.in_default.is) in
    sym (absent_unchanged c.args.number c.args.value c.args.self.now none)
