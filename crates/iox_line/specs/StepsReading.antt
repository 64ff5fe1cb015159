-- How actions of other nodes are read, word by word.
use Rattle.std.specs.Prelude.{ℕ, ◌==◌, Bool, true, false, nat_lt, List, [], ◌∷◌, Option, None, Some, codes, if◌then◌else◌}
use Rattle.std.specs.Option.{option_map}
use Rattle.std.specs.Str.{byte}
use Rattle.iox_command.specs.DescribeBase.declared.pattern.MessagingPattern.{MessagingPattern}
use Rattle.iox_command.specs.declared.service.ServiceOptions.{ServiceOptions}
use Rattle.iox_command.specs.declared.step.ForeignStep.{ForeignStep}
use Rattle.iox_command.specs.declared.step.ForeignStep.TheVariants as step
use Rattle.iox_command.specs.declared.step.StepBefore.{StepBefore}
use Rattle.iox_line.specs.Words.{before, beyond, pieces_left, choice}
use Rattle.iox_line.specs.Numbers.{number_of, tagged}
use Rattle.iox_line.specs.Options.{after}
use Rattle.iox_line.specs.Memory.{prepend}
use Rattle.iox_line.specs.ServicesReading.{options_of}
use Rattle.iox_line.specs.declared.steps.step.StepVerb.{StepVerb}
use Rattle.iox_line.specs.declared.steps.step.StepVerb.TheVariants as verb

-- How the verb of an action is written.
abbrev pub step_verb_word : StepVerb → List ℕ
step_verb_word verb.Lock = codes "lock"
step_verb_word verb.GiveUp = codes "giveup"
step_verb_word verb.Publish = codes "publish"
step_verb_word verb.PublishV1 = codes "publish1"
step_verb_word verb.Register = codes "register"
step_verb_word verb.Leave = codes "leave"
step_verb_word verb.Remove = codes "remove"

-- Each verb of an action with its text.
abbrev pub step_verbs : List (List ℕ × StepVerb)
step_verbs = (codes "lock", verb.Lock) ∷ (codes "publish", verb.Publish) ∷ (codes "register", verb.Register) ∷ (codes "leave", verb.Leave)
    ∷ (codes "remove", verb.Remove) ∷ (codes "giveup", verb.GiveUp) ∷ (codes "publish1", verb.PublishV1) ∷ []

-- The verb of an action that a text spells.
abbrev pub step_verb_of : List ℕ → Option StepVerb
step_verb_of text = choice step_verbs text

-- A node and options, if both were read.
abbrev pub node_and_options : Option ℕ → Option ServiceOptions → Option (ℕ × ServiceOptions)
node_and_options None options = None
node_and_options (Some node) None = None
node_and_options (Some node) (Some options) = Some (node, options)

-- The node that publishes and its options, after the colon of the verb: a node, and options after one more colon, if there is one.
abbrev pub published : MessagingPattern → List ℕ → Option (ℕ × ServiceOptions)
published pattern text = node_and_options (tagged (byte "x") (before (byte ":") text))
    (options_of pattern (pieces_left (byte ",") (beyond (byte ":") text)))

-- The action of a verb and of the text after its colon.
abbrev pub step_at : MessagingPattern → StepVerb → List ℕ → Option ForeignStep
step_at pattern verb.Lock text = option_map (λ n. step.Lock n) (tagged (byte "x") text)
step_at pattern verb.GiveUp text = option_map (λ n. step.GiveUp n) (tagged (byte "x") text)
step_at pattern verb.Publish text = option_map (λ p. step.Publish p.0 p.1) (published pattern text)
step_at pattern verb.PublishV1 text = option_map (λ p. step.PublishV1 p.0 p.1) (published pattern text)
step_at pattern verb.Register text = option_map (λ n. step.Register n) (tagged (byte "x") text)
step_at pattern verb.Leave text = option_map (λ n. step.Leave n) (tagged (byte "x") text)
step_at pattern verb.Remove text = option_map (λ n. step.Remove n) (tagged (byte "x") text)

-- The action of a verb and a text, if there is a verb and a colon.
abbrev pub step_with : MessagingPattern → Option StepVerb → Option (List ℕ) → Option ForeignStep
step_with pattern None text = None
step_with pattern (Some v) None = None
step_with pattern (Some v) (Some text) = step_at pattern v text

-- The action that a word spells.
abbrev pub step_of : MessagingPattern → List ℕ → Option ForeignStep
step_of pattern word = step_with pattern (step_verb_of (before (byte ":") word)) (beyond (byte ":") word)

-- The actions that words spell.
abbrev pub each_step : MessagingPattern → List (List ℕ) → Option (List ForeignStep)
each_step pattern [] = Some []
each_step pattern (w ∷ ws) = prepend (step_of pattern w) (each_step pattern ws)

-- The actions that words spell, if there is at least one word.
abbrev pub steps_of : MessagingPattern → List (List ℕ) → Option (List ForeignStep)
steps_of pattern [] = None
steps_of pattern (w ∷ ws) = each_step pattern (w ∷ ws)

-- The action before this storage operation.
abbrev pub step_before : ℕ → ForeignStep → StepBefore
step_before access step = record { access = access; step = step }

-- The number, if it is above `now`.
abbrev pub above : ℕ → Option ℕ → Option ℕ
above now None = None
above now (Some i) = if nat_lt now i then Some i else None

-- The storage operation of a list that begins with this text, if the list before it has an action.
abbrev pub next_access : Bool → ℕ → List ℕ → Option ℕ
next_access fresh now text = if fresh then None else above now (number_of text)

-- The action that a word spells, if a list has begun.
abbrev pub listed_step : MessagingPattern → ℕ → List ℕ → Option StepBefore
listed_step pattern now word = if now == 0 then None else option_map (λ s. step_before now s) (step_of pattern word)

-- What `make` makes of a value, if there is one.
abbrev pub and_then : {A B : Type 0} → Option A → (A → Option B) → Option B
and_then None make = None
and_then (Some a) make = make a

-- What begins a list, or one more action of the current list.
abbrev pub bar_or_step : {B : Type 0} → Option (List ℕ) → (List ℕ → Option B) → Option B → Option B
bar_or_step None bar step = step
bar_or_step (Some text) bar step = bar text

-- The actions that words spell, after the list of storage operation `now` has begun; `fresh` says that this list has no action yet.
abbrev pub lists_from : MessagingPattern → ℕ → Bool → List (List ℕ) → Option (List StepBefore)
lists_from pattern now fresh [] = if fresh then None else Some []
lists_from pattern now fresh (w ∷ ws)
    = bar_or_step (after ((byte "|") ∷ []) w) (λ text. and_then (next_access fresh now text) (λ i. lists_from pattern i true ws))
    (prepend (listed_step pattern now w) (lists_from pattern now false ws))

-- The lists of actions that words spell.
abbrev pub lists_of : MessagingPattern → List (List ℕ) → Option (List StepBefore)
lists_of pattern words = lists_from pattern 0 false words
