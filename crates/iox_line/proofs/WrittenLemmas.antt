-- Words for steps.
use Rattle.std.proofs.Common.{◌≡◌, ℕ, ◌==◌, Bool, true, false, List, [], ◌∷◌, ◌++◌, refl, cond, codes, decimal}
use Rattle.std.specs.List.{join_with_byte}
use Rattle.iox_command.specs.DescribeBase.declared.pattern.MessagingPattern.{MessagingPattern}
use Rattle.iox_command.specs.declared.step.ForeignStep.{ForeignStep}
use Rattle.iox_command.specs.declared.step.ForeignStep.TheVariants as step
use Rattle.iox_command.specs.declared.step.StepBefore.{StepBefore}
use Rattle.iox_line.proofs.Shorthands.{AllOf, AreWords, WritesSteps, beginning, option_tail}
use Rattle.iox_line.specs.Words.{has_no_space}
use Rattle.iox_line.specs.Numbers.{IsNumber, tag}
use Rattle.iox_line.proofs.NumberLemmas.{decimal_no_space}
use Rattle.iox_line.specs.Services.{service_words}
use Rattle.iox_line.proofs.NoSpaceLemmas.{any_own, both_parts, both_words, service_are_words}
use Rattle.iox_line.specs.Steps.{WritesStep, StepFits, WritesLists, ListsFit}

-- a word for a step, with its options in their order
abbrev pub step_word : ForeignStep → List ℕ
step_word (step.Lock n) = codes "lock:" ++ tag 120 n
step_word (step.GiveUp n) = codes "giveup:" ++ tag 120 n
step_word (step.Publish n o) = codes "publish:" ++ (tag 120 n ++ option_tail (service_words o))
step_word (step.PublishV1 n o) = codes "publish1:" ++ (tag 120 n ++ option_tail (service_words o))
step_word (step.Register n) = codes "register:" ++ tag 120 n
step_word (step.Leave n) = codes "leave:" ++ tag 120 n
step_word (step.Remove n) = codes "remove:" ++ tag 120 n

word_so : (s : ForeignStep) → WritesStep s (step_word s)
word_so (step.Lock n) = refl
word_so (step.GiveUp n) = refl
word_so (step.Publish n o) = (service_words o, any_own (service_words o), refl)
word_so (step.PublishV1 n o) = (service_words o, any_own (service_words o), refl)
word_so (step.Register n) = refl
word_so (step.Leave n) = refl
word_so (step.Remove n) = refl

joined_no_space : (ws : List (List ℕ)) → AreWords ws → has_no_space (join_with_byte 44 ws) ≡ true
joined_no_space [] a = refl
joined_no_space (w ∷ []) a = a.0
joined_no_space (w ∷ v ∷ ws) a = both_parts 32 w (44 ∷ join_with_byte 44 (v ∷ ws)) a.0 (joined_no_space (v ∷ ws) a.1)

tail_no_space : (ws : List (List ℕ)) → AreWords ws → has_no_space (option_tail ws) ≡ true
tail_no_space [] a = refl
tail_no_space (w ∷ ws) a = joined_no_space (w ∷ ws) a

word_no_space : (pattern : MessagingPattern) (s : ForeignStep) → StepFits pattern s → has_no_space (step_word s) ≡ true
word_no_space pattern (step.Lock n) f = decimal_no_space n f
word_no_space pattern (step.GiveUp n) f = decimal_no_space n f
word_no_space pattern (step.Publish n o) f
    = both_parts 32 (tag 120 n) (option_tail (service_words o)) (decimal_no_space n f.0)
    (tail_no_space (service_words o) (service_are_words o f.1))
word_no_space pattern (step.PublishV1 n o) f
    = both_parts 32 (tag 120 n) (option_tail (service_words o)) (decimal_no_space n f.0)
    (tail_no_space (service_words o) (service_are_words o f.1))
word_no_space pattern (step.Register n) f = decimal_no_space n f
word_no_space pattern (step.Leave n) f = decimal_no_space n f
word_no_space pattern (step.Remove n) f = decimal_no_space n f

-- words for steps of a line of their own
abbrev pub foreign_words : List ForeignStep → List (List ℕ)
foreign_words [] = []
foreign_words (s ∷ ss) = step_word s ∷ foreign_words ss

-- they write the steps
pub foreign_so : (ss : List ForeignStep) → WritesSteps ss (foreign_words ss)
foreign_so [] = tt
foreign_so (s ∷ ss) = (word_so s, foreign_so ss)

-- they have no space
pub foreign_are_words : (pattern : MessagingPattern) (ss : List ForeignStep) → AllOf (StepFits pattern) ss → AreWords (foreign_words ss)
foreign_are_words pattern [] f = tt
foreign_are_words pattern (s ∷ ss) f = (word_no_space pattern s f.0, foreign_are_words pattern ss f.1)

-- words for lists of steps
abbrev pub list_words : ℕ → List StepBefore → List (List ℕ)
list_words now [] = []
list_words now (t ∷ ts) = beginning now t.access ++ step_word t.step ∷ list_words t.access ts

-- they write the lists
pub lists_so : (now : ℕ) (ts : List StepBefore) → WritesLists now ts (list_words now ts)
lists_so now [] = refl
lists_so now (t ∷ ts) = (step_word t.step, list_words t.access ts, word_so t.step, lists_so t.access ts, refl)

beginning_at : (access : ℕ) (t : Bool) → IsNumber access → AreWords (cond t [] ((124 ∷ decimal access) ∷ []))
beginning_at access true n = tt
beginning_at access false n = (decimal_no_space access n, tt)

-- they have no space
pub lists_are_words : (pattern : MessagingPattern) (now : ℕ) (ts : List StepBefore) → ListsFit pattern now ts → AreWords (list_words now ts)
lists_are_words pattern now [] f = tt
lists_are_words pattern now (t ∷ ts) f =
    both_words (beginning now t.access) (step_word t.step ∷ list_words t.access ts) (beginning_at t.access (t.access == now) f.2)
    (word_no_space pattern t.step f.3, lists_are_words pattern t.access ts f.4)
