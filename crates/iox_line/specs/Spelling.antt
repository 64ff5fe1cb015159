-- Which bytes spell a command: how a command is written, word by word.
use Rattle.std.specs.Prelude.{ℕ, ◌<◌, ◌≤◌, ◌≡◌, true, List, [], ◌∷◌, ◌++◌, length, codes, decimal, map, IfSome}
use Rattle.std.specs.List.{AllByRecursion, AllZip, join_with_byte}
use Rattle.std.specs.Option.{option_map}
use Rattle.std.specs.Str.{byte}
use Rattle.iox_command.specs.declared.command.Command.{Command}
use Rattle.iox_command.specs.declared.command.Command.TheVariants as command
use Rattle.iox_command.specs.declared.port.PortNumber.TheVariants as port
use Rattle.iox_command.specs.Patterns.{pattern_of}
use Rattle.iox_domain_values.specs.declared.backpressure.BackpressureAction.TheVariants as handler
use Rattle.iox_domain_values.specs.declared.backpressure_strategy.BackpressureStrategy.TheVariants as strategy
use Rattle.iox_domain_values.specs.declared.data_segment.AllocationStrategy.TheVariants as allocation
use Rattle.iox_line.specs.Words.{lacks}
use Rattle.iox_line.specs.Numbers.{IsNumber}
use Rattle.iox_line.specs.Options.{AnyOrder, option_words}
use Rattle.iox_line.specs.Services.{pattern_word, ServiceFits, Names}
use Rattle.iox_line.specs.Attributes.{pair_word, IsKey, IsPair, Requires}
use Rattle.iox_line.specs.Steps.{StepFits, WritesStep, WritesLists, ListsFit}
use Rattle.iox_line.specs.Values.{degradation_word}
use Rattle.iox_line.specs.Visible.{IsVisibleText}

-- The command can be written: its numbers are below 2^64, its name has 1 to 255 visible bytes, it has at most eight pairs and at most eight
-- keys, its lists are in order, and a command of actions of other nodes has at least one.
abbrev pub Fits : Command ℕ → Type 0
Fits (command.Create node name options attributes steps) = IsNumber node × IsVisibleText 1 255 name × ServiceFits options
    × ((length attributes ≤ 8) × AllByRecursion IsPair attributes)
    × ListsFit (pattern_of options) 0 steps
Fits (command.Open node name options required steps) = IsNumber node × IsVisibleText 1 255 name × ServiceFits options
    × ((length required.pairs ≤ 8) × AllByRecursion IsPair required.pairs
    × (length required.keys ≤ 8) × AllByRecursion IsKey required.keys)
    × ListsFit (pattern_of options) 0 steps
Fits (command.OpenOrCreate node name options required steps) = IsNumber node × IsVisibleText 1 255 name × ServiceFits options
    × ((length required.pairs ≤ 8) × AllByRecursion IsPair required.pairs
    × (length required.keys ≤ 8) × AllByRecursion IsKey required.keys)
    × ListsFit (pattern_of options) 0 steps
Fits (command.Foreign pattern name steps) = IsVisibleText 1 255 name × (0 < length steps) × AllByRecursion (StepFits pattern) steps
Fits (command.Close factory) = IsNumber factory
Fits (command.Loan publisher long) = IsNumber publisher × IsNumber long
Fits (command.LoanUninit publisher long) = IsNumber publisher × IsNumber long
Fits (command.Set loan place value) = IsNumber loan × IsNumber place × IsNumber value
Fits (command.Fill loan values) = IsNumber loan × AllByRecursion IsNumber values
Fits (command.Drop loan) = IsNumber loan
Fits (command.Send loan) = IsNumber loan
Fits (command.Put publisher values) = IsNumber publisher × AllByRecursion IsNumber values
Fits (command.Retry publisher nanoseconds) = IsNumber publisher × IsNumber nanoseconds
Fits (command.GiveUp publisher) = IsNumber publisher
Fits (command.Receive subscriber) = IsNumber subscriber
Fits (command.Read sample) = IsNumber sample
Fits (command.Sequence sample) = IsNumber sample
Fits (command.Release sample) = IsNumber sample
Fits (command.Update (port.Publisher publisher)) = IsNumber publisher
Fits (command.Update (port.Subscriber subscriber)) = IsNumber subscriber
Fits (command.Leave (port.Publisher publisher)) = IsNumber publisher
Fits (command.Leave (port.Subscriber subscriber)) = IsNumber subscriber
Fits (command.Has subscriber) = IsNumber subscriber
Fits (command.Publisher factory options) = IsNumber factory
    × (IfSome options.max_loaned_samples IsNumber × IfSome options.preallocated_samples IsNumber
    × IfSome options.initial_max_slice_len IsNumber)
Fits (command.Subscriber factory options) = IsNumber factory × IfSome options.buffer_size IsNumber
Fits command.Node = Unit {0}

-- These words write the command.
abbrev pub Writes : Command ℕ → List (List ℕ) → Type 0
Writes command.Node words = words ≡ codes "node" ∷ []
Writes (command.Create node name options attributes steps) words = (attributed : List (List ℕ)) × (listed : List (List ℕ))
    × (named : List (List ℕ))
    × (attributed ≡ map pair_word attributes) × WritesLists 0 steps listed × Names node name options attributed listed named
    × (words ≡ codes "create" ∷ named)
Writes (command.Open node name options requirements steps) words = (attributed : List (List ℕ)) × (listed : List (List ℕ))
    × (named : List (List ℕ))
    × Requires requirements attributed × WritesLists 0 steps listed × Names node name options attributed listed named
    × (words ≡ codes "open" ∷ named)
Writes (command.OpenOrCreate node name options requirements steps) words = (attributed : List (List ℕ)) × (listed : List (List ℕ))
    × (named : List (List ℕ))
    × Requires requirements attributed × WritesLists 0 steps listed × Names node name options attributed listed named
    × (words ≡ codes "open_or_create" ∷ named)
Writes (command.Foreign pattern name steps) words = (stepped : List (List ℕ)) × AllZip WritesStep steps stepped
    × (words ≡ codes "foreign" ∷ pattern_word pattern ∷ name ∷ stepped)
Writes (command.Close factory) words = words ≡ codes "close" ∷ (codes "f" ++ decimal factory) ∷ []
Writes (command.Loan publisher long) words = words ≡ codes "loan" ∷ (codes "p" ++ decimal publisher) ∷ decimal long ∷ []
Writes (command.LoanUninit publisher long) words = words ≡ codes "loan_uninit" ∷ (codes "p" ++ decimal publisher) ∷ decimal long ∷ []
Writes (command.Set loan place value) words = words ≡ codes "set" ∷ (codes "l" ++ decimal loan) ∷ decimal place ∷ decimal value ∷ []
Writes (command.Fill loan values) words = words ≡ codes "fill" ∷ (codes "l" ++ decimal loan) ∷ map decimal values
Writes (command.Drop loan) words = words ≡ codes "drop" ∷ (codes "l" ++ decimal loan) ∷ []
Writes (command.Send loan) words = words ≡ codes "send" ∷ (codes "l" ++ decimal loan) ∷ []
Writes (command.Put publisher values) words = words ≡ codes "put" ∷ (codes "p" ++ decimal publisher) ∷ map decimal values
Writes (command.Retry publisher nanoseconds) words = words ≡ codes "retry" ∷ (codes "p" ++ decimal publisher) ∷ decimal nanoseconds ∷ []
Writes (command.GiveUp publisher) words = words ≡ codes "giveup" ∷ (codes "p" ++ decimal publisher) ∷ []
Writes (command.Receive subscriber) words = words ≡ codes "receive" ∷ (codes "s" ++ decimal subscriber) ∷ []
Writes (command.Read sample) words = words ≡ codes "read" ∷ (codes "m" ++ decimal sample) ∷ []
Writes (command.Sequence sample) words = words ≡ codes "sequence" ∷ (codes "m" ++ decimal sample) ∷ []
Writes (command.Release sample) words = words ≡ codes "release" ∷ (codes "m" ++ decimal sample) ∷ []
Writes (command.Update (port.Publisher publisher)) words = words ≡ codes "update" ∷ (codes "p" ++ decimal publisher) ∷ []
Writes (command.Update (port.Subscriber subscriber)) words = words ≡ codes "update" ∷ (codes "s" ++ decimal subscriber) ∷ []
Writes (command.Leave (port.Publisher publisher)) words = words ≡ codes "leave" ∷ (codes "p" ++ decimal publisher) ∷ []
Writes (command.Leave (port.Subscriber subscriber)) words = words ≡ codes "leave" ∷ (codes "s" ++ decimal subscriber) ∷ []
Writes (command.Has subscriber) words = words ≡ codes "has" ∷ (codes "s" ++ decimal subscriber) ∷ []
Writes (command.Publisher factory options) words = (chosen : List (List ℕ))
    × AnyOrder chosen (option_words
    (codes "loans=" ∷ codes "strategy=" ∷ codes "slots=" ∷ codes "slice=" ∷ codes "alloc=" ∷ codes "handler=" ∷ codes "degrade=" ∷ [])
    (option_map decimal options.max_loaned_samples ∷ option_map (λ it. elim it [
      | strategy.RetryUntilDelivered ↦ codes "retry"
      | strategy.DiscardData ↦ codes "discard"
    ]) options.backpressure_strategy
    ∷ option_map decimal options.preallocated_samples ∷ option_map decimal options.initial_max_slice_len
    ∷ option_map (λ it. elim it [
      | allocation.Static ↦ codes "static"
      | allocation.BestFit ↦ codes "best"
      | allocation.PowerOfTwo ↦ codes "power"
    ]) options.allocation_strategy
    ∷ option_map (λ it. elim it [
      | handler.FollowBackpressureyStrategy ↦ codes "follow"
      | handler.Retry ↦ codes "retry"
      | handler.DiscardData ↦ codes "discard"
      | handler.DiscardDataAndFail ↦ codes "fail"
    ]) options.backpressure_handler
    ∷ option_map degradation_word options.degradation_handler ∷ []))
    × (words ≡ codes "publisher" ∷ (codes "f" ++ decimal factory) ∷ chosen)
Writes (command.Subscriber factory options) words = (chosen : List (List ℕ))
    × AnyOrder chosen (option_words (codes "buffer=" ∷ codes "degrade=" ∷ [])
    (option_map decimal options.buffer_size ∷ option_map degradation_word options.degradation_handler ∷ []))
    × (words ≡ codes "subscriber" ∷ (codes "f" ++ decimal factory) ∷ chosen)

-- The line consists of the words of the command, none of which has a space, with one space between any two.
pub record Spells (line : List ℕ) (c : Command ℕ) : Type 0 where
  pub words : List (List ℕ)
  pub fits : Fits c
  pub writes : Writes c words
  pub are_words : AllByRecursion (λ word. lacks (byte " ") word ≡ true) words
  pub spaced_so : line ≡ join_with_byte (byte " ") words
