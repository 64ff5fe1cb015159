use Rattle.std.proofs.Common.{◌≡◌, ◌+◌, ◌-◌, ◌<◌, length, None, sym, ◌∙◌, arith}
use Rattle.std.proofs.lemmas.List.{get_or_past, get_or_read}
use Rattle.iox_container.proofs.Presence.{lookup-present}
use Rattle.iox_container.proofs.by_number.ring.value_in.Goals as goal

pub returns-then-place-len : goal.returns-then-place-len
returns-then-place-len g c =
    let place = c.args.number - c.args.first in
    let here : c.args.number ≡ c.args.first + place = omega arith in
    let within : place < length c.args.places.now.items = omega (arith, c.args.places.now.ok.0) in
    c.as_ref.ensures.value ∙ get_or_read c.args.places.now.items place c.index.result.now within c.index.ensures None
    ∙ sym (lookup-present c.args.number c.args.first place c.args.places.now.items here)

pub returns-else-place-len : goal.returns-else-place-len
returns-else-place-len g c =
    let place = c.args.number - c.args.first in
    let here : c.args.number ≡ c.args.first + place = omega arith in
    sym (lookup-present c.args.number c.args.first place c.args.places.now.items here ∙ get_or_past c.args.places.now.items place None
    (omega arith))
