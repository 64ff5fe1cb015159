use Rattle.std.proofs.Common.{◌++◌, length, ap, ◌∙◌, refl, sym, arith}
use Rattle.std.proofs.lemmas.List.{length_push}
use Rattle.iox_container.specs.ByNumberPlaces.{present}
use Rattle.iox_container.proofs.Joined.{same_table}
use Rattle.iox_container.proofs.Halves.{pushed}
use Rattle.iox_container.proofs.by_number.numbered.Numbered.insert_next.Goals as goal

pub invariant_of-self : goal.invariant_of-self
invariant_of-self g c =
    let t = c.self.inside in
    let entries = t.aged.items ++ present t.first t.places.items in
    let more = ap length c.push_back_reserved.ensures.items ∙ length_push c.make_place.new.places.items _ in
    let longer = ap length (pushed c.make_place.new.first _ c.make_place.new.aged.items entries c.make_place.new.places.items _
    c.args.value c.make_place.ensures.entries c.push_back_reserved.ensures.items refl) ∙ length_push entries _ in
    let number = rw (← c.self.view_is) at c.requires.number in
    let room = rw (← c.self.view_is) at c.requires.room in (
      c.make_place.ensures.rises,
      omega (arith, more, number, c.make_place.ensures.next),
      omega (arith, c.make_place.ensures.aged_capacity, c.self.invariant.2),
      λ some. omega (arith, c.push_back_reserved.ensures.capacity, c.make_place.ensures.capacity, c.self.invariant.3 some),
      omega (arith, longer, c.self.invariant.4),
      omega (arith, room, c.self.invariant.4),
    )

pub returns-clause-table : goal.returns-clause-table
returns-clause-table g c =
    let t = c.self.inside in
    let entries = t.aged.items ++ present t.first t.places.items in
    let more = ap length c.push_back_reserved.ensures.items ∙ length_push c.make_place.new.places.items _ in
    rw (← c.self.view_is) (same_table _ _ _ _ _ _
    (pushed c.make_place.new.first _ c.make_place.new.aged.items entries c.make_place.new.places.items _ c.args.value
    c.make_place.ensures.entries c.push_back_reserved.ensures.items (sym c.make_place.ensures.next))
    (omega (arith, more, c.make_place.ensures.next))
    refl)

pub returns-clause-len : goal.returns-clause-len
returns-clause-len g c =
    let t = c.self.inside in
    let entries = t.aged.items ++ present t.first t.places.items in
    rw (← c.self.view_is) (ap length (pushed c.make_place.new.first _ c.make_place.new.aged.items entries c.make_place.new.places.items
    _ c.args.value c.make_place.ensures.entries c.push_back_reserved.ensures.items refl) ∙ length_push entries _)
