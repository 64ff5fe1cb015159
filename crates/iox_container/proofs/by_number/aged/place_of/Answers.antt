use Rattle.std.proofs.Common.{rules}
use Rattle.std.proofs.lemmas.List.Sorted.{answers_always}
use Rattle.iox_container.proofs.Searching.{found-at, found-nowhere}
use Rattle.iox_container.proofs.by_number.aged.place_of.Goals as goal

pub returns-clause-found : goal.returns-clause-found
returns-clause-found g c =
    let found = c.binary_search_by_key.ensures.position (λ entry. entry.0) (answers_always _ _ _ (λ f a r after called. search rules)) in
    rw c.ok.ensures.value (found-at c.args.number c.requires.0 c.args.entries.now.items c.requires.1 c.binary_search_by_key.result found)

pub returns-clause-none : goal.returns-clause-none
returns-clause-none g c =
    let found = c.binary_search_by_key.ensures.position (λ entry. entry.0) (answers_always _ _ _ (λ f a r after called. search rules)) in
    rw c.ok.ensures.value (found-nowhere c.args.number c.requires.0 c.args.entries.now.items c.requires.1 c.binary_search_by_key.result
    found)
