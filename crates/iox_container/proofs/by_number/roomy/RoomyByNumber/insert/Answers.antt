use Rattle.std.proofs.Common.{arith, ℕ, ◌≡◌, ◌+◌, length, true, false, Bool, Option, None, Some, is_some, not, refl, sym, ap, ◌∙◌}
use Rattle.std.specs.BTreeMap.{is_at}
use Rattle.std.specs.Borrow.{Bor}
use Rattle.std.specs.Int.{from_bool}
use Rattle.std.specs.Map.{lookup}
use Rattle.std.specs.Option.{option_copied}
use Rattle.std.specs.Ordering.{nat_cmp}
use Rattle.std.specs.Prelude.{if◌then◌else◌}
use Rattle.iox_container.specs.ByNumber.{values_in}
use Rattle.iox_container.proofs.Numbers.{inserted_count}
use Rattle.iox_container.proofs.Valued.{rising_shown, shown-few}
use Rattle.iox_container.proofs.by_number.roomy.RoomyByNumber.insert.Goals as goal

-- it is new, or it is one of those that are there
one_or : (there is_new : Bool) → there ≡ not is_new → from_bool is_new + (if there then 1 else 0) ≡ 1
one_or true true same = cc
one_or true false same = refl
one_or false true same = refl
one_or false false same = cc

-- a value that is read is there
is_read : {X : Type 0} (found : Option (Bor X)) → is_some (option_copied found) ≡ is_some found
is_read None = refl
is_read (Some value) = refl

pub overflow_add-result : goal.overflow_add-result
overflow_add-result g c =
    let added = one_or (is_some c.get.result) c.is_none-is_new.result c.is_none-is_new.ensures in
    omega (
      arith,
      c.self.invariant,
      shown-few c.self.inside.entries.items,
      c.self.inside.entries.ok,
      c.from.ensures,
      added,
    )

pub invariant_of-result : goal.invariant_of-result
invariant_of-result g c =
    let before = values_in c.self.inside.entries.items in
    let added = one_or (is_some c.get.result) c.is_none-is_new.result c.is_none-is_new.ensures in
    let there : is_some (lookup (is_at (nat_cmp c.args.number)) before) ≡ is_some c.get.result =
    ap (λ values. is_some (lookup (is_at (nat_cmp c.args.number)) values)) c.self.view_is
    ∙ ap is_some (sym c.get.ensures) ∙ is_read c.get.result in
    let counted = inserted_count c.args.number c.args.boxed.value before (rising_shown c.self.inside.entries.items c.self.invariant.0) in (
      c.put_in.ensures.rises,
      omega (
        arith,
        counted,
        added,
        ap {B = ℕ} (λ found. if found then 1 else 0) there,
        c.self.invariant.1,
        c.from.ensures,
        ap length c.put_in.ensures.values,
      ),
    )
