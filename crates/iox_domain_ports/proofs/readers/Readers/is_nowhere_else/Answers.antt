use Rattle.std.proofs.Common.{◌∙◌, sym, ap}
use Rattle.std.specs.Prelude.{not}
use Rattle.iox_domain_ports.proofs.Apart.{none_is, nowhere_else}
use Rattle.iox_domain_ports.proofs.readers.Readers.is_nowhere_else.Goals as goal

pub returns-else-leads_to : goal.returns-else-leads_to
returns-else-leads_to c = λ none apart.
    nowhere_else c.args.self.now c.args.subscriber c.args.index
    (sym c.connection_to.ensures ∙ none_is c.connection_to.result (c.is_none.ensures ∙ ap not none))
