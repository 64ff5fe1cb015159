use Rattle.std.proofs.Common.{Bool, true, false, ◌≡◌, ◌+◌, ◌++◌, nat_eq, ap, sym, ◌∙◌, refl, arith}
use Rattle.std.specs.Prelude.{is_some, if◌then◌else◌}
use Rattle.std.specs.Int.{from_bool}
use Rattle.iox_container.specs.ByNumberPlaces.{present}
use Rattle.iox_container.proofs.Rising.{Rises-removed}
use Rattle.iox_container.proofs.Joined.{length-taken, same_table}
use Rattle.iox_container.proofs.Halves.{lookup-aged, lookup-ring, remove-aged, remove-ring}
use Rattle.iox_container.proofs.by_number.numbered.Numbered.remove.Goals as goal

one_if : (b : Bool) → from_bool b ≡ (if b then 1 else 0)
one_if true = refl
one_if false = refl

pub invariant_of-self : goal.invariant_of-self
invariant_of-self g c =
    let t = c.self.inside in
    let ring = present t.first t.places.items in
    let found = c.take_of-value.ensures.value ∙ sym
    (lookup-aged t.first c.args.number t.aged.items t.places.items c.self.invariant.0 c.if-number-self.true) in
    let gone = ap (λ es. es ++ ring) c.take_of-value.ensures.after ∙ sym
    (remove-aged t.first c.args.number t.aged.items t.places.items c.self.invariant.0 c.if-number-self.true) in
    let left = length-taken (nat_eq c.args.number) (t.aged.items ++ ring) (c.take_of-value.new.entries.items ++ ring)
    c.take_of-value.result found gone in
    let counted = c.from.ensures ∙ ap from_bool c.is_some.ensures ∙ one_if (is_some c.take_of-value.result) in (
      rw c.take_of-value.ensures.after (Rises-removed c.args.number 1 t.first t.aged.items c.self.invariant.0),
      c.self.invariant.1,
      omega (arith, c.take_of-value.ensures.capacity, c.self.invariant.2),
      c.self.invariant.3,
      omega (arith, left, counted, c.from.ensures, c.self.invariant.4),
      omega (arith, c.self.invariant.5),
    )

pub invariant_of-self-else-number-self : goal.invariant_of-self-else-number-self
invariant_of-self-else-number-self g c =
    let t = c.self.inside in
    let ring = present t.first t.places.items in
    let found = c.take_in-value.ensures.value ∙ sym
    (lookup-ring t.first c.args.number t.aged.items t.places.items c.self.invariant.0 c.if-number-self.false) in
    let gone = ap (λ es. t.aged.items ++ es) c.take_in-value.ensures.after ∙ sym
    (remove-ring t.first c.args.number t.aged.items t.places.items c.self.invariant.0 c.if-number-self.false) in
    let left = length-taken (nat_eq c.args.number) (t.aged.items ++ ring)
    (t.aged.items ++ present t.first c.take_in-value.new.places.items) c.take_in-value.result found gone in
    let counted = c.from-else-number-self.ensures ∙ ap from_bool c.is_some-else-number-self.ensures ∙ one_if
    (is_some c.take_in-value.result) in (
      c.self.invariant.0,
      omega (arith, c.self.invariant.1, c.take_in-value.ensures.len),
      c.self.invariant.2,
      λ some. omega (arith, c.take_in-value.ensures.capacity, c.self.invariant.3 some),
      omega (arith, left, counted, c.from-else-number-self.ensures, c.self.invariant.4),
      omega (arith, c.self.invariant.5),
    )

pub returns-then-number-self-clause-value : goal.returns-then-number-self-clause-value
returns-then-number-self-clause-value g c =
    let t = c.self.inside in
    rw (← c.self.view_is) (c.take_of-value.ensures.value ∙ sym
    (lookup-aged t.first c.args.number t.aged.items t.places.items c.self.invariant.0 c.if-number-self.true))

pub returns-then-number-self-clause-table : goal.returns-then-number-self-clause-table
returns-then-number-self-clause-table g c =
    let t = c.self.inside in
    rw (← c.self.view_is) (same_table _ _ _ _ _ _
    (ap (λ es. es ++ present t.first t.places.items) c.take_of-value.ensures.after ∙ sym
    (remove-aged t.first c.args.number t.aged.items t.places.items c.self.invariant.0 c.if-number-self.true))
    refl refl)

pub returns-then-number-self-clause-len : goal.returns-then-number-self-clause-len
returns-then-number-self-clause-len g c =
    let t = c.self.inside in
    let ring = present t.first t.places.items in
    let found = c.take_of-value.ensures.value ∙ sym
    (lookup-aged t.first c.args.number t.aged.items t.places.items c.self.invariant.0 c.if-number-self.true) in
    let gone = ap (λ es. es ++ ring) c.take_of-value.ensures.after ∙ sym
    (remove-aged t.first c.args.number t.aged.items t.places.items c.self.invariant.0 c.if-number-self.true) in
    rw (← c.self.view_is) (length-taken (nat_eq c.args.number) (t.aged.items ++ ring) (c.take_of-value.new.entries.items ++ ring)
    c.take_of-value.result found gone)

pub returns-else-number-self-clause-value : goal.returns-else-number-self-clause-value
returns-else-number-self-clause-value g c =
    let t = c.self.inside in
    rw (← c.self.view_is) (c.take_in-value.ensures.value ∙ sym
    (lookup-ring t.first c.args.number t.aged.items t.places.items c.self.invariant.0 c.if-number-self.false))

pub returns-else-number-self-clause-table : goal.returns-else-number-self-clause-table
returns-else-number-self-clause-table g c =
    let t = c.self.inside in
    rw (← c.self.view_is) (same_table _ _ _ _ _ _
    (ap (λ es. t.aged.items ++ es) c.take_in-value.ensures.after ∙ sym
    (remove-ring t.first c.args.number t.aged.items t.places.items c.self.invariant.0 c.if-number-self.false))
    (ap (λ many. t.first + many) c.take_in-value.ensures.len) refl)

pub returns-else-number-self-clause-len : goal.returns-else-number-self-clause-len
returns-else-number-self-clause-len g c =
    let t = c.self.inside in
    let ring = present t.first t.places.items in
    let found = c.take_in-value.ensures.value ∙ sym
    (lookup-ring t.first c.args.number t.aged.items t.places.items c.self.invariant.0 c.if-number-self.false) in
    let gone = ap (λ es. t.aged.items ++ es) c.take_in-value.ensures.after ∙ sym
    (remove-ring t.first c.args.number t.aged.items t.places.items c.self.invariant.0 c.if-number-self.false) in
    rw (← c.self.view_is) (length-taken (nat_eq c.args.number) (t.aged.items ++ ring)
    (t.aged.items ++ present t.first c.take_in-value.new.places.items) c.take_in-value.result found gone)
