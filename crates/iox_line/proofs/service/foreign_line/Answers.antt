use Rattle.std.proofs.Common.{◌∙◌, sym}
use Rattle.iox_line.proofs.MemoryLemmas.{foreign_lacks}
use Rattle.iox_line.proofs.service.foreign_line.Goals as goal

pub returns-in-Err : goal.returns-in-Err
returns-in-Err c =
    foreign_lacks c.args.words c.next.new.self c.next-2.new.self c.in-Some.kind.now c.in-Some-next.called.now c.in-Some-pattern.kind
    c.in-Some-name.name c.foreign_steps.result c.in-Err.lacking
    c.in-Some.ensures.some c.in-Some-next.ensures.some (sym c.pattern.ensures ∙ c.in-Some-pattern.is)
    (sym c.name.ensures ∙ c.in-Some-name.is) c.foreign_steps.ensures c.in-Err.is
