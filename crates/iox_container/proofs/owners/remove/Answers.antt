use Rattle.std.proofs.Common.{ℕ, List, subst}
use Rattle.iox_container.specs.Owners.{StandsAt}
use Rattle.iox_container.proofs.Listed.{removed}
use Rattle.iox_container.proofs.owners.remove.Goals as goal

pub returns-clause-without : goal.returns-clause-without
returns-clause-without c =
    let stands : StandsAt c.args.entries.now.items (c.args.owner, c.args.place) c.search-at.result =
    subst (λ (es : List (ℕ × ℕ)). StandsAt es (c.args.owner, c.args.place) c.search-at.result) c.as_slice.ensures.value
    c.search-at.ensures in
    rw c.remove.ensures.items (removed c.args.entries.now.items (c.args.owner, c.args.place) c.search-at.result c.requires.rises stands
    c.requires.listed).1
