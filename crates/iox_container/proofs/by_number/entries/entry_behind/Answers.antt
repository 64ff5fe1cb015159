use Rattle.iox_container.proofs.Numbers.{found-at}
use Rattle.iox_container.proofs.Valued.{found-nowhere}
use Rattle.iox_container.proofs.by_number.entries.entry_behind.Goals as goal

pub returns-clause-found : goal.returns-clause-found
returns-clause-found g c = rw c.ok.ensures.value
    (found-at c.args.number c.args.entries.now c.requires c.search_of.result c.search_of.ensures.position)

pub returns-clause-none : goal.returns-clause-none
returns-clause-none g c = rw c.ok.ensures.value
    (found-nowhere c.args.number c.args.entries.now c.requires c.search_of.result c.search_of.ensures.position)
