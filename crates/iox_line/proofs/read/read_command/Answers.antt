use Rattle.std.proofs.Common.{◌∙◌, None, Some, Ok, ap}
use Rattle.iox_line.specs.Outcome.{takes_memory}
use Rattle.iox_line.proofs.MemoryLemmas.{answered, lacked}
use Rattle.iox_line.proofs.ReadLineLemmas.{other_lacks, other_none, other_some}
use Rattle.iox_line.proofs.read.read_command.Goals as goal

pub returns-in-Ok-Some : goal.returns-in-Ok-Some
returns-in-Ok-Some c = other_some c.args.line.now c.in-Other.other c.in-Ok-Some.command c.in-Other.ensures
    (answered takes_memory c.in-Other.other (Some c.in-Ok-Some.command) c.command.result c.command.ensures
    (c.in-Ok-Some.is ∙ ap (λ o. Ok o) c.in-Ok-Some.field-0-is))

pub returns-in-Ok-None : goal.returns-in-Ok-None
returns-in-Ok-None c = other_none c.args.line.now c.in-Other.other c.in-Other.ensures
    (answered takes_memory c.in-Other.other None c.command.result c.command.ensures
    (c.in-Ok-None.is ∙ ap (λ o. Ok o) c.in-Ok-None.field-0-is))

pub returns-in-Err : goal.returns-in-Err
returns-in-Err c =
    let l = lacked takes_memory c.in-Other.other c.command.result c.in-Err.lacking c.command.ensures c.in-Err.is in
    other_lacks c.args.line.now c.in-Other.other l.0 c.in-Other.ensures l.1 l.2 c.in-Err.lacking
