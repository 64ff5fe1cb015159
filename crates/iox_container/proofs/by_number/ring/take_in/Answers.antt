use Rattle.std.proofs.Common.{◌≡◌, ◌+◌, ◌-◌, ◌<◌, length, None, sym, ◌∙◌, arith}
use Rattle.std.specs.Prelude.{nat_eq}
use Rattle.std.proofs.lemmas.List.{get_or_past, get_or_read}
use Rattle.iox_container.specs.ByNumberPlaces.{present}
use Rattle.iox_container.proofs.Presence.{lookup-present, remove-present}
use Rattle.iox_container.proofs.Joined.{remove-absent}
use Rattle.iox_container.proofs.by_number.ring.take_in.Goals as goal

pub returns-then-place-len-clause-value : goal.returns-then-place-len-clause-value
returns-then-place-len-clause-value g c =
    let place = c.args.number - c.args.first in
    let here : c.args.number ≡ c.args.first + place = omega arith in
    let within : place < length c.args.places.now.items = omega (arith, c.args.places.now.ok.0) in
    c.take.ensures.value ∙ get_or_read c.args.places.now.items place c.index_mut.result.now within c.index_mut.ensures.value None
    ∙ sym (lookup-present c.args.number c.args.first place c.args.places.now.items here)

pub returns-then-place-len-clause-after : goal.returns-then-place-len-clause-after
returns-then-place-len-clause-after g c =
    let place = c.args.number - c.args.first in
    let here : c.args.number ≡ c.args.first + place = omega arith in
    rw c.take.ensures.after (remove-present c.args.number c.args.first place c.args.places.now.items here)

pub returns-else-place-len-clause-value : goal.returns-else-place-len-clause-value
returns-else-place-len-clause-value g c =
    let place = c.args.number - c.args.first in
    let here : c.args.number ≡ c.args.first + place = omega arith in
    sym (lookup-present c.args.number c.args.first place c.args.places.now.items here ∙ get_or_past c.args.places.now.items place None
    (omega arith))

pub returns-else-place-len-clause-after : goal.returns-else-place-len-clause-after
returns-else-place-len-clause-after g c =
    let place = c.args.number - c.args.first in
    let here : c.args.number ≡ c.args.first + place = omega arith in
    sym (remove-absent (nat_eq c.args.number) (present c.args.first c.args.places.now.items)
    (lookup-present c.args.number c.args.first place c.args.places.now.items here ∙ get_or_past c.args.places.now.items place None
    (omega arith)))
