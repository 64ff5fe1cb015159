use Rattle.std.proofs.Common.{◌∙◌, refl, sym}
use Rattle.iox_command.specs.declared.command.Command.TheVariants as command
use Rattle.iox_line.specs.Memory.{some}
use Rattle.iox_line.specs.AttributesReading.{specifier_of}
use Rattle.iox_line.proofs.MemoryLemmas.{service_lacks}
use Rattle.iox_line.proofs.service.create_line.Goals as goal

pub returns-in-Err : goal.returns-in-Err
returns-in-Err c =
    service_lacks some (λ s a t. command.Create s.node s.name s.options a t) specifier_of c.args.words c.in-Some.service
    c.pattern.result c.defined_attributes-attributes.result c.listed_steps-steps.result c.in-Err.lacking
    (λ a t. refl) (sym c.named_service.ensures ∙ c.in-Some.is) c.pattern.ensures c.defined_attributes-attributes.ensures
    c.listed_steps-steps.ensures (sym c.together.ensures ∙ c.in-Err.is)
