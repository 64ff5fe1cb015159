use Rattle.std.proofs.Common.{sym, ap, ◌∙◌}
use Rattle.iox_container.proofs.Rising.{lookup-place}
use Rattle.iox_container.proofs.by_number.aged.value_of.Goals as goal

pub returns-in-Some : goal.returns-in-Some
returns-in-Some g c =
    let here = c.index.ensures in
    sym (lookup-place c.args.number c.index.result.now (ap (λ e. e.0) here ∙ c.in-Some.ensures.found _) 1 c.requires.0 c.in-Some.place
    c.args.entries.now.items c.requires.1 c.in-Some.ensures.within here)
