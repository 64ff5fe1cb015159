use Rattle.std.proofs.Common.{arith, ◌≡◌, length, None, Some, sym, ap, ◌∙◌}
use Rattle.std.specs.BTreeMap.{is_at}
use Rattle.std.specs.List.Sorted.{IsStrictlySortedBy}
use Rattle.std.specs.Map.{keys_of, lookup, set_value}
use Rattle.std.specs.Option.{option_copied_mut}
use Rattle.std.specs.Ordering.{nat_cmp}
use Rattle.iox_container.specs.ByNumber.{values_in}
use Rattle.iox_container.proofs.Numbers.{changed_inserted, inserted_count, inserted_found, one_if}
use Rattle.iox_container.proofs.Valued.{rising_shown, shown-few}
use Rattle.iox_container.proofs.by_number.listed.ByNumber.insert.Goals as goal

pub returns-in-Some-clause-ok : goal.returns-in-Some-clause-ok
returns-in-Some-clause-ok g c =
    let rising : IsStrictlySortedBy nat_cmp (keys_of c.args.self.now)
    = rw (← c.self.view_is) (rising_shown c.self.inside.entries.items c.self.invariant.0) in
    let there : lookup (is_at (nat_cmp c.args.number)) c.args.self.now ≡ Some c.in-Some.there.now
    = sym c.get_mut.ensures.value ∙ ap option_copied_mut c.in-Some.is in
    ap (set_value (is_at (nat_cmp c.args.number)) c.args.self.now) c.replace.ensures.after
    ∙ changed_inserted c.args.number c.args.value c.in-Some.there.now c.args.self.now rising there

pub returns-in-Some-clause-there : goal.returns-in-Some-clause-there
returns-in-Some-clause-there g c =
    let rising : IsStrictlySortedBy nat_cmp (keys_of c.args.self.now)
    = rw (← c.self.view_is) (rising_shown c.self.inside.entries.items c.self.invariant.0) in
    let there : lookup (is_at (nat_cmp c.args.number)) c.args.self.now ≡ Some c.in-Some.there.now
    = sym c.get_mut.ensures.value ∙ ap option_copied_mut c.in-Some.is in
    ap (lookup (is_at (nat_cmp c.args.number))) (ap (set_value (is_at (nat_cmp c.args.number)) c.args.self.now) c.replace.ensures.after
    ∙ changed_inserted c.args.number c.args.value c.in-Some.there.now c.args.self.now rising there)
    ∙ inserted_found c.args.number c.args.value c.args.self.now

pub returns-in-Some-clause-rises : goal.returns-in-Some-clause-rises
returns-in-Some-clause-rises g c = rw (← c.self.view_is) (rising_shown c.self.inside.entries.items c.self.invariant.0)

pub returns-in_err-boxed-clause-rises : goal.returns-in_err-boxed-clause-rises
returns-in_err-boxed-clause-rises g c = rw (← c.self.view_is) (rising_shown c.self.inside.entries.items c.self.invariant.0)

pub returns-in_err-make_room-clause-rises : goal.returns-in_err-make_room-clause-rises
returns-in_err-make_room-clause-rises g c = rw (← c.self.view_is) (rising_shown c.self.inside.entries.items c.self.invariant.0)

pub overflow_add-self : goal.overflow_add-self
overflow_add-self g c =
    omega (
      arith,
      c.self.invariant.1,
      shown-few c.make_room.new.entries.items,
      ap length c.in_ok-make_room.ensures.values,
      c.in_ok-make_room.ensures.room,
      c.make_room.new.entries.ok.0,
    )

pub invariant_of-self-2 : goal.invariant_of-self-2
invariant_of-self-2 g c =
    let before = values_in c.make_room.new.entries.items in
    let none : lookup (is_at (nat_cmp c.args.number)) before ≡ None =
    ap (lookup (is_at (nat_cmp c.args.number))) (c.in_ok-make_room.ensures.values ∙ c.self-2.view_is)
    ∙ sym c.get_mut.ensures.value ∙ ap option_copied_mut c.in_default.is in
    let counted = inserted_count c.args.number c.in_ok-boxed.boxed.value before
    (rising_shown c.make_room.new.entries.items c.in_ok-make_room.ensures.rises) in
    let nothing = ap (one_if c.args.number) none in (
      c.put_in.ensures.rises,
      omega (
        arith,
        counted,
        nothing,
        c.self-2.invariant.1,
        ap length c.in_ok-make_room.ensures.values,
        ap length c.put_in.ensures.values,
      ),
    )

pub returns-clause-there : goal.returns-clause-there
returns-clause-there g c =
    ap (lookup (is_at (nat_cmp c.args.number))) c.put_in.ensures.values
    ∙ inserted_found c.args.number c.in_ok-boxed.boxed.value (values_in c.make_room.new.entries.items)
    ∙ ap Some c.in_ok-boxed.ensures.ok

pub returns-clause-rises : goal.returns-clause-rises
returns-clause-rises g c = rw (← c.self.view_is) (rising_shown c.self.inside.entries.items c.self.invariant.0)
