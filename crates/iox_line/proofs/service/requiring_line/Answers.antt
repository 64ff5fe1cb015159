use Rattle.std.proofs.Common.{◌≡◌, Bool, true, false, ◌||◌, List, ◌∙◌, refl, sym}
use Rattle.iox_describe_base.specs.Attributes.{Required}
use Rattle.iox_command.specs.declared.step.StepBefore.{StepBefore}
use Rattle.iox_line.specs.Memory.{some}
use Rattle.iox_line.specs.Outcome.{takes_memory}
use Rattle.iox_line.specs.AttributesReading.{verifier_of, requires_some}
use Rattle.iox_line.specs.declared.services.service.NamedService.{NamedService}
use Rattle.iox_line.specs.Reading.{opening}
use Rattle.iox_line.proofs.MemoryLemmas.{service_lacks}
use Rattle.iox_line.proofs.service.requiring_line.Goals as goal

takes : (creates : Bool) (s : NamedService) (a : Required) (t : List StepBefore)
    → takes_memory (opening creates s a t) ≡ (requires_some a || some t)
takes true s a t = refl
takes false s a t = refl

pub returns-in-Err : goal.returns-in-Err
returns-in-Err c =
    service_lacks requires_some (opening c.args.creates) verifier_of c.args.words c.in-Some.service
    c.pattern.result c.required_attributes-requirements.result c.listed_steps-steps.result c.in-Err.lacking
    (takes c.args.creates c.in-Some.service) (sym c.named_service.ensures ∙ c.in-Some.is) c.pattern.ensures
    c.required_attributes-requirements.ensures c.listed_steps-steps.ensures (sym c.together.ensures ∙ c.in-Err.is)
