use Rattle.std.proofs.Common.{rules}
use Rattle.std.proofs.lemmas.List.Sorted.{answers_always}
use Rattle.iox_domain_ports.proofs.tallies.place_of.Goals as goal

pub returns-clause-position : goal.returns-clause-position
returns-clause-position c = c.binary_search_by_key.ensures.position (λ item. item.0)
    (answers_always _ _ _ (λ f a r after called. search rules))
