-- Steps that are gathered one after the other.
use Rattle.std.proofs.Common.{◌≡◌, ℕ, Bool, true, false, List, [], ◌∷◌, ◌++◌, Option, None, Some, sym, ap, ◌∙◌}
use Rattle.iox_command.specs.DescribeBase.declared.pattern.MessagingPattern.{MessagingPattern}
use Rattle.iox_command.specs.declared.step.ForeignStep.{ForeignStep}
use Rattle.iox_command.specs.declared.step.StepBefore.{StepBefore}
use Rattle.iox_line.specs.Options.{after}
use Rattle.iox_line.specs.Memory.{prepend}
use Rattle.iox_line.proofs.GatherLemmas.{onto, onto_more}
use Rattle.iox_line.specs.StepsReading.{step_of, each_step, next_access, and_then, listed_step, bar_or_step, lists_from}

-- one more step
pub step_more : (pattern : MessagingPattern) (done : List ForeignStep) (all : Option (List ForeignStep)) (w : List ℕ)
    (ws rest : List (List ℕ)) (s : ForeignStep) → all ≡ onto done (each_step pattern rest)
    → rest ≡ w ∷ ws → Some s ≡ step_of pattern w → all ≡ onto (done ++ s ∷ []) (each_step pattern ws)
step_more pattern done all w ws rest s h e q =
    h ∙ ap (λ l. onto done (each_step pattern l)) e ∙ ap (λ o. onto done (prepend o (each_step pattern ws))) (sym q) ∙ onto_more done s
    (each_step pattern ws)

-- one more step of a list
pub listed_more : (pattern : MessagingPattern) (now : ℕ) (fresh : Bool) (done : List StepBefore) (all : Option (List StepBefore))
    (w : List ℕ) (ws rest : List (List ℕ)) (s : StepBefore)
    → all ≡ onto done (lists_from pattern now fresh rest) → rest ≡ w ∷ ws → after (124 ∷ []) w ≡ None
    → Some s ≡ listed_step pattern now w → all ≡ onto (done ++ s ∷ []) (lists_from pattern now false ws)
listed_more pattern now fresh done all w ws rest s h e n q =
    h ∙ ap (λ l. onto done (lists_from pattern now fresh l)) e
    ∙ ap (λ o. onto done (bar_or_step o (λ text. and_then (next_access fresh now text) (λ i. lists_from pattern i true ws))
    (prepend (listed_step pattern now w) (lists_from pattern now false ws)))) n
    ∙ ap (λ o. onto done (prepend o (lists_from pattern now false ws))) (sym q) ∙ onto_more done s (lists_from pattern now false ws)
