use Rattle.std.proofs.Common.{arith, ◌≡◌, length, true, is_some, refl, sym, ap, ◌∙◌}
use Rattle.std.specs.BTreeMap.{is_at}
use Rattle.std.specs.Map.{lookup}
use Rattle.std.specs.Ordering.{nat_cmp}
use Rattle.iox_container.specs.ByNumber.{values_in}
use Rattle.iox_container.proofs.Numbers.{absent_stays, one_if, others_stay, removed_count, removed_gone}
use Rattle.iox_container.proofs.Valued.{rising_shown}
use Rattle.iox_container.proofs.by_number.listed.ByNumber.remove.Goals as goal

pub invariant_of-self : goal.invariant_of-self
invariant_of-self g c =
    let values = values_in c.self.inside.entries.items in
    let counted = removed_count c.args.number values in
    let there : is_some (lookup (is_at (nat_cmp c.args.number)) values) ≡ true = rw c.self.view_is c.in-Some.ensures.some in
    let one : one_if c.args.number (lookup (is_at (nat_cmp c.args.number)) values) ≡ 1 = rw there refl in
    (c.take_out.ensures.rises, omega (arith, counted, one, c.self.invariant.1, ap length c.take_out.ensures.values))

pub returns-in-Some-clause-gone : goal.returns-in-Some-clause-gone
returns-in-Some-clause-gone g c =
    let items = c.self.inside.entries.items in
    ap (lookup (is_at (nat_cmp c.args.number))) c.take_out.ensures.values
    ∙ removed_gone c.args.number (values_in items) (rising_shown items c.self.invariant.0)

pub returns-in-Some-clause-others : goal.returns-in-Some-clause-others
returns-in-Some-clause-others g c other apart =
    let items = c.self.inside.entries.items in
    rw (← c.self.view_is) (ap (lookup (is_at (nat_cmp other))) c.take_out.ensures.values
    ∙ others_stay c.args.number other (values_in items) (rising_shown items c.self.invariant.0) apart)

pub returns-in_default-clause-new : goal.returns-in_default-clause-new
returns-in_default-clause-new g c = sym (absent_stays (is_at (nat_cmp c.args.number)) c.args.self.now c.in_default.ensures.none)
