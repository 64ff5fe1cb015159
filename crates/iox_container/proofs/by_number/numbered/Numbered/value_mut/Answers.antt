use Rattle.std.proofs.Common.{◌≡◌, ◌+◌, ◌-◌, ◌<◌, ◌++◌, length, None, Some, IsSome, is_some, nat_eq, set, refl, sym, ap, ◌∙◌}
use Rattle.std.proofs.Common.{length-append, arith}
use Rattle.std.specs.Map.{lookup}
use Rattle.std.specs.Option.{option_copied_mut}
use Rattle.std.proofs.lemmas.List.{get_or_read, length-set}
use Rattle.std.proofs.lemmas.Map.{length-set_value}
use Rattle.iox_container.specs.ByNumberPlaces.{present}
use Rattle.iox_container.proofs.Rising.{Rises-set_value, lookup-place, set-place}
use Rattle.iox_container.proofs.Presence.{lookup-present, set-present, has_place}
use Rattle.iox_container.proofs.Joined.{same_table}
use Rattle.iox_container.proofs.Halves.{lookup-aged, lookup-ring, set_value-aged, set_value-ring}
use Rattle.iox_container.proofs.by_number.numbered.Numbered.value_mut.Goals as goal

pub unreachable-requires : goal.unreachable-requires
unreachable-requires g c =
    let t = c.self.inside in
    let none = lookup-aged t.first c.args.number t.aged.items t.places.items c.self.invariant.0 c.if-number-self.true ∙
    c.in_default.ensures.none in
    let found = rw (← c.self.view_is) at c.requires in
    grind arith

pub index_mut-requires-else-number-self : goal.index_mut-requires-else-number-self
index_mut-requires-else-number-self g c =
    let t = c.self.inside in
    let place = c.args.number - t.first in
    let here : c.args.number ≡ t.first + place = omega arith in
    let found = rw (← c.self.view_is) at c.requires in
    let held : IsSome (lookup (nat_eq c.args.number) (present t.first t.places.items))
    = rw (← lookup-ring t.first c.args.number t.aged.items t.places.items c.self.invariant.0 c.if-number-self.false) found in
    omega (arith, has_place c.args.number t.first place t.places.items here held, t.places.ok.0)

pub unwrap-requires : goal.unwrap-requires
unwrap-requires g c =
    let t = c.self.inside in
    let place = c.args.number - t.first in
    let here : c.args.number ≡ t.first + place = omega arith in
    let found = rw (← c.self.view_is) at c.requires in
    let held : IsSome (lookup (nat_eq c.args.number) (present t.first t.places.items))
    = rw (← lookup-ring t.first c.args.number t.aged.items t.places.items c.self.invariant.0 c.if-number-self.false) found in
    let within : place < length t.places.items = has_place c.args.number t.first place t.places.items here held in
    let read = get_or_read t.places.items place c.index_mut-else-number-self.result.now within
    c.index_mut-else-number-self.ensures.value None in
    c.as_mut.ensures.variant ∙ ap is_some (read ∙ sym (lookup-present c.args.number t.first place t.places.items here)) ∙ held

pub invariant_of-self-lent : goal.invariant_of-self-lent
invariant_of-self-lent g c w =
    let t = c.self.inside in
    let entry = c.index_mut.result.now in
    let place = c.in-Some.place in
    let changed = set-place c.args.number entry (ap (λ e. e.0) c.index_mut.ensures.value ∙ c.in-Some.ensures.found _) 1 t.first place w
    t.aged.items c.self.invariant.0 c.in-Some.ensures.within c.index_mut.ensures.value in (
      rw changed (Rises-set_value c.args.number 1 t.first w t.aged.items c.self.invariant.0),
      c.self.invariant.1,
      c.self.invariant.2,
      c.self.invariant.3,
      omega (
        arith,
        c.self.invariant.4,
        length-append t.aged.items (present t.first t.places.items),
        length-append
            (set t.aged.items place (entry.0, w)) (present t.first t.places.items),
        length-set t.aged.items place (entry.0, w),
      ),
      c.self.invariant.5,
    )

pub invariant_of-self-lent-else-number-self : goal.invariant_of-self-lent-else-number-self
invariant_of-self-lent-else-number-self g c w =
    let t = c.self.inside in
    let place = c.args.number - t.first in
    let here : c.args.number ≡ t.first + place = omega arith in
    let found = rw (← c.self.view_is) at c.requires in
    let held : IsSome (lookup (nat_eq c.args.number) (present t.first t.places.items))
    = rw (← lookup-ring t.first c.args.number t.aged.items t.places.items c.self.invariant.0 c.if-number-self.false) found in
    let within : place < length t.places.items = has_place c.args.number t.first place t.places.items here held in
    let read = get_or_read t.places.items place c.index_mut-else-number-self.result.now within
    c.index_mut-else-number-self.ensures.value None in
    let some = sym c.as_mut.ensures.value ∙ ap option_copied_mut c.unwrap.ensures in
    let changed = set-present c.args.number t.first place c.unwrap.result.now w t.places.items here (sym read ∙ some) in
    let places = set t.places.items place (Some w) in
    let as_many = length-set t.places.items place (Some w) in
    let as_long : length (t.aged.items ++ present t.first places) ≡ length (t.aged.items ++ present t.first t.places.items) =
    omega (
      arith,
      length-append t.aged.items (present t.first t.places.items),
      length-append t.aged.items (present t.first places),
      ap
          length changed,
      length-set_value (nat_eq c.args.number) (present t.first t.places.items) w,
    ) in (
      c.self.invariant.0,
      omega (arith, c.self.invariant.1, as_many),
      c.self.invariant.2,
      c.self.invariant.3,
      c.self.invariant.4 ∙ sym as_long,
      c.self.invariant.5,
    )

pub returns-in-Some : goal.returns-in-Some
returns-in-Some g c =
    let t = c.self.inside in
    let ring = present t.first t.places.items in
    let entry = c.index_mut.result.now in
    let place = c.in-Some.place in
    let same = ap (λ e. e.0) c.index_mut.ensures.value ∙ c.in-Some.ensures.found _ in
    let found = lookup-place c.args.number entry same 1 t.first place t.aged.items c.self.invariant.0 c.in-Some.ensures.within
    c.index_mut.ensures.value in (
      (
        refl,
        λ w. rw (← c.self.view_is) (same_table _ _ _ _ _ _
            (ap (λ es. es ++ ring) (set-place c.args.number entry same 1 t.first place w t.aged.items c.self.invariant.0
            c.in-Some.ensures.within c.index_mut.ensures.value)
            ∙ sym (set_value-aged t.first c.args.number t.aged.items t.places.items c.self.invariant.0 c.if-number-self.true w)) refl refl),
      ),
      record {
        writes_back = tt;
        value
            = rw (← c.self.view_is)
            (lookup-aged t.first c.args.number t.aged.items t.places.items c.self.invariant.0 c.if-number-self.true ∙ found);
      },
    )

pub returns-else-number-self : goal.returns-else-number-self
returns-else-number-self g c =
    let t = c.self.inside in
    let place = c.args.number - t.first in
    let here : c.args.number ≡ t.first + place = omega arith in
    let asked = rw (← c.self.view_is) at c.requires in
    let ringed = lookup-ring t.first c.args.number t.aged.items t.places.items c.self.invariant.0 c.if-number-self.false in
    let held : IsSome (lookup (nat_eq c.args.number) (present t.first t.places.items)) = rw (← ringed) asked in
    let within : place < length t.places.items = has_place c.args.number t.first place t.places.items here held in
    let read = get_or_read t.places.items place c.index_mut-else-number-self.result.now within
    c.index_mut-else-number-self.ensures.value None in
    let some = sym read ∙ sym c.as_mut.ensures.value ∙ ap option_copied_mut c.unwrap.ensures in (
      (
        refl,
        λ w. rw (← c.self.view_is) (same_table _ _ _ _ _ _
            (ap (λ es. t.aged.items ++ es) (set-present c.args.number t.first place c.unwrap.result.now w t.places.items here some)
            ∙ sym (set_value-ring t.first c.args.number t.aged.items t.places.items c.self.invariant.0 c.if-number-self.false w))
            (ap (λ many. t.first + many) (length-set t.places.items place (Some w))) refl),
      ),
      record {
        writes_back = tt;
        value
            = rw (← c.self.view_is) (ringed ∙ lookup-present c.args.number t.first place t.places.items here ∙ some);
      },
    )
