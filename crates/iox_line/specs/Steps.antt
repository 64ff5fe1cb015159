-- How actions of other nodes are written in a line.
use Rattle.std.specs.Prelude.{ℕ, ◌≡◌, ◌≤◌, ◌==◌, List, [], ◌∷◌, ◌++◌, codes, decimal, if◌then◌else◌}
use Rattle.std.specs.List.{join_with_byte}
use Rattle.std.specs.Str.{byte}
use Rattle.iox_command.specs.DescribeBase.declared.pattern.MessagingPattern.{MessagingPattern}
use Rattle.iox_command.specs.declared.step.ForeignStep.{ForeignStep}
use Rattle.iox_command.specs.declared.step.ForeignStep.TheVariants as step
use Rattle.iox_command.specs.declared.step.StepBefore.{StepBefore}
use Rattle.iox_command.specs.Patterns.{pattern_of}
use Rattle.iox_line.specs.Numbers.{IsNumber}
use Rattle.iox_line.specs.Options.{AnyOrder}
use Rattle.iox_line.specs.Services.{service_words, ServiceFits}

-- The word writes the action: its verb, a colon, an `x` and the number of its node; to publish, in either version, also options, if there
-- are any, in any order, after a colon and with commas between them.
abbrev pub WritesStep : ForeignStep → List ℕ → Type 0
WritesStep (step.Lock node) word = word ≡ codes "lock:x" ++ decimal node
WritesStep (step.GiveUp node) word = word ≡ codes "giveup:x" ++ decimal node
WritesStep (step.Publish node options) word = (chosen : List (List ℕ)) × AnyOrder chosen (service_words options)
    × (word ≡ codes "publish:x"
    ++ (decimal node ++ elim chosen [ [] ↦ [] | one ∷ more ↦ codes ":" ++ join_with_byte (byte ",") (one ∷ more) ]))
WritesStep (step.PublishV1 node options) word = (chosen : List (List ℕ)) × AnyOrder chosen (service_words options)
    × (word ≡ codes "publish1:x"
    ++ (decimal node ++ elim chosen [ [] ↦ [] | one ∷ more ↦ codes ":" ++ join_with_byte (byte ",") (one ∷ more) ]))
WritesStep (step.Register node) word = word ≡ codes "register:x" ++ decimal node
WritesStep (step.Leave node) word = word ≡ codes "leave:x" ++ decimal node
WritesStep (step.Remove node) word = word ≡ codes "remove:x" ++ decimal node

-- The numbers of the action are less than 2^64, and a service that it publishes has the command's pattern.
abbrev pub StepFits : MessagingPattern → ForeignStep → Type 0
StepFits pattern (step.Lock node) = IsNumber node
StepFits pattern (step.GiveUp node) = IsNumber node
StepFits pattern (step.Publish node options) = IsNumber node × ServiceFits options × (pattern ≡ pattern_of options)
StepFits pattern (step.PublishV1 node options) = IsNumber node × ServiceFits options × (pattern ≡ pattern_of options)
StepFits pattern (step.Register node) = IsNumber node
StepFits pattern (step.Leave node) = IsNumber node
StepFits pattern (step.Remove node) = IsNumber node

-- The words write lists of actions: the actions in their order, and before the first one of a list a bar and the number of its storage
-- operation; the list of storage operation `now` has begun.
abbrev pub WritesLists : ℕ → List StepBefore → List (List ℕ) → Type 0
WritesLists now [] words = words ≡ []
WritesLists now (t ∷ ts) words = (w : List ℕ) × (ws : List (List ℕ)) × WritesStep t.step w × WritesLists t.access ts ws
    × (words ≡ (if t.access == now then [] else (codes "|" ++ decimal t.access) ∷ []) ++ w ∷ ws)

-- The storage operations are numbered from 1 and never fall, from `now` on, and their numbers are below 2^64.
abbrev pub ListsFit : MessagingPattern → ℕ → List StepBefore → Type 0
ListsFit pattern now [] = Unit {0}
ListsFit pattern now (t ∷ ts) = (1 ≤ t.access) × (now ≤ t.access) × IsNumber t.access × StepFits pattern t.step
    × ListsFit pattern t.access ts
