use Rattle.std.proofs.Common.{sym, ap, ◌∙◌}
use Rattle.std.specs.Prelude.{nat_eq}
use Rattle.iox_container.proofs.Rising.{lookup-place, remove-place}
use Rattle.iox_container.proofs.Joined.{remove-absent}
use Rattle.iox_container.proofs.by_number.aged.take_of.Goals as goal

pub returns-in_err-place-clause-after : goal.returns-in_err-place-clause-after
returns-in_err-place-clause-after g c = sym (remove-absent (nat_eq c.args.number) c.args.entries.now.items c.in_err-place.ensures.none)

pub returns-clause-value : goal.returns-clause-value
returns-clause-value g c =
    let here = c.in_ok-_number.ensures.value in
    sym (lookup-place c.args.number (c.in_ok-_number._number, c.in_ok-_number.value)
    (ap (λ e. e.0) here ∙ c.in_ok-place.ensures.found _) 1 c.requires.0 c.in_ok-place.place c.args.entries.now.items c.requires.1
    c.in_ok-place.ensures.within here)

pub returns-clause-after : goal.returns-clause-after
returns-clause-after g c =
    let here = c.in_ok-_number.ensures.value in
    rw c.in_ok-_number.ensures.items (remove-place c.args.number (c.in_ok-_number._number, c.in_ok-_number.value)
    (ap (λ e. e.0) here ∙ c.in_ok-place.ensures.found _) 1 c.requires.0 c.in_ok-place.place c.args.entries.now.items c.requires.1
    c.in_ok-place.ensures.within here)
