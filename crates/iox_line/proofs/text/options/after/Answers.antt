use Rattle.iox_line.proofs.AfterLemmas.{stripped}
use Rattle.iox_line.proofs.text.options.after.Goals as goal

pub returns : goal.returns
returns c = stripped c.args.key.now c.args.word.now c.strip_prefix.result c.strip_prefix.ensures.cases
