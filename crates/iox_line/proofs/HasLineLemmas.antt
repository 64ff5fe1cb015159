-- Each command that fits has a line.
use Rattle.std.proofs.Common.{◌≡◌, ℕ, true, List, [], ◌∷◌, refl, decimal, map, codes}
use Rattle.iox_command.specs.declared.command.Command.{Command}
use Rattle.iox_command.specs.declared.command.Command.TheVariants as command
use Rattle.iox_command.specs.declared.port.PortNumber.{PortNumber}
use Rattle.iox_command.specs.declared.port.PortNumber.TheVariants as port
use Rattle.iox_command.specs.declared.port.PublisherOptions.{PublisherOptions}
use Rattle.iox_command.specs.declared.port.SubscriberOptions.{SubscriberOptions}
use Rattle.iox_domain_values.specs.declared.backpressure_strategy.BackpressureStrategy.{BackpressureStrategy}
use Rattle.iox_domain_values.specs.declared.backpressure_strategy.BackpressureStrategy.TheVariants as strategy
use Rattle.iox_domain_values.specs.declared.data_segment.AllocationStrategy.{AllocationStrategy}
use Rattle.iox_domain_values.specs.declared.data_segment.AllocationStrategy.TheVariants as allocation
use Rattle.iox_domain_values.specs.declared.backpressure.BackpressureAction.{BackpressureAction}
use Rattle.iox_domain_values.specs.declared.backpressure.BackpressureAction.TheVariants as handler
use Rattle.iox_domain_values.specs.declared.degradation.DegradationAction.{DegradationAction}
use Rattle.iox_domain_values.specs.declared.degradation.DegradationAction.TheVariants as degradation
use Rattle.iox_line.specs.Words.{has_no_space}
use Rattle.iox_line.specs.Numbers.{tag, IsNumber}
use Rattle.iox_line.specs.Values.{degradation_word}
use Rattle.iox_line.proofs.Shorthands.{strategy_word, allocation_word, handler_word}
use Rattle.iox_line.proofs.NumberLemmas.{decimal_no_space}
use Rattle.iox_line.proofs.NoSpaceLemmas.{any_own, options_lack, number_lacks, text_lacks, pattern_no_space, named_words, named_so}
use Rattle.iox_line.proofs.NoSpaceLemmas.{named_are_words}
use Rattle.iox_line.specs.Services.{pattern_word}
use Rattle.iox_line.specs.Attributes.{pair_word}
use Rattle.iox_line.proofs.SpellingLemmas.{pairs_are_words, requirement_words, requirements_so, requirements_are_words}
use Rattle.iox_line.proofs.WrittenLemmas.{foreign_words, foreign_so, foreign_are_words, list_words, lists_so, lists_are_words}
use Rattle.iox_command.specs.Patterns.{pattern_of}
use Rattle.iox_line.proofs.VisibleLemmas.{visible_no_space}
use Rattle.iox_line.specs.Spelling.{Fits, Writes, Spells}
use Rattle.iox_line.proofs.Shorthands.{AllOf, AreWords, IsPort, port_word, publisher_keys, publisher_values, publisher_words}
use Rattle.iox_line.proofs.Shorthands.{subscriber_keys, subscriber_words}
use Rattle.iox_line.proofs.Shorthands.{subscriber_values}
use Rattle.std.specs.Prelude.{IfSome}
use Rattle.iox_line.proofs.Shorthands.{spaced, PublisherFits}

-- words that write a command, with its options in their order
abbrev pub written : Command ℕ → List (List ℕ)
written command.Node = codes "node" ∷ []
written (command.Create node name options attributes steps) = codes "create"
    ∷ named_words node name options (map pair_word attributes) (list_words 0 steps)
written (command.Open node name options requirements steps) = codes "open"
    ∷ named_words node name options (requirement_words requirements) (list_words 0 steps)
written (command.OpenOrCreate node name options requirements steps) = codes "open_or_create"
    ∷ named_words node name options (requirement_words requirements) (list_words 0 steps)
written (command.Foreign pattern name steps) = codes "foreign" ∷ pattern_word pattern ∷ name ∷ foreign_words steps
written (command.Close factory) = codes "close" ∷ tag 102 factory ∷ []
written (command.Publisher factory options) = codes "publisher" ∷ tag 102 factory ∷ publisher_words options
written (command.Subscriber factory options) = codes "subscriber" ∷ tag 102 factory ∷ subscriber_words options
written (command.Loan publisher long) = codes "loan" ∷ tag 112 publisher ∷ decimal long ∷ []
written (command.LoanUninit publisher long) = codes "loan_uninit" ∷ tag 112 publisher ∷ decimal long ∷ []
written (command.Set loan place value) = codes "set" ∷ tag 108 loan ∷ decimal place ∷ decimal value ∷ []
written (command.Fill loan values) = codes "fill" ∷ tag 108 loan ∷ map decimal values
written (command.Drop loan) = codes "drop" ∷ tag 108 loan ∷ []
written (command.Send loan) = codes "send" ∷ tag 108 loan ∷ []
written (command.Put publisher values) = codes "put" ∷ tag 112 publisher ∷ map decimal values
written (command.Retry publisher nanoseconds) = codes "retry" ∷ tag 112 publisher ∷ decimal nanoseconds ∷ []
written (command.GiveUp publisher) = codes "giveup" ∷ tag 112 publisher ∷ []
written (command.Receive subscriber) = codes "receive" ∷ tag 115 subscriber ∷ []
written (command.Read sample) = codes "read" ∷ tag 109 sample ∷ []
written (command.Sequence sample) = codes "sequence" ∷ tag 109 sample ∷ []
written (command.Release sample) = codes "release" ∷ tag 109 sample ∷ []
written (command.Update port) = codes "update" ∷ port_word port ∷ []
written (command.Leave port) = codes "leave" ∷ port_word port ∷ []
written (command.Has subscriber) = codes "has" ∷ tag 115 subscriber ∷ []

writes_so : (c : Command ℕ) → Fits c → Writes c (written c)
writes_so command.Node f = refl
writes_so (command.Create node name options attributes steps) f = (
  map pair_word attributes,
  list_words 0 steps,
  named_words node name options (map pair_word attributes) (list_words 0 steps),
  refl,
  lists_so 0 steps,
  named_so node name options (map pair_word attributes) (list_words 0 steps),
  refl,
)
writes_so (command.Open node name options requirements steps) f = (
  requirement_words requirements,
  list_words 0 steps,
  named_words node name options (requirement_words requirements)
      (list_words 0 steps),
  requirements_so requirements f.3,
  lists_so 0 steps,
  named_so node name options (requirement_words requirements) (list_words 0 steps),
  refl,
)
writes_so (command.OpenOrCreate node name options requirements steps) f = (
  requirement_words requirements,
  list_words 0 steps,
  named_words node name options (requirement_words requirements)
      (list_words 0 steps),
  requirements_so requirements f.3,
  lists_so 0 steps,
  named_so node name options (requirement_words requirements) (list_words 0 steps),
  refl,
)
writes_so (command.Foreign pattern name steps) f = (foreign_words steps, foreign_so steps, refl)
writes_so (command.Close factory) f = refl
writes_so (command.Publisher factory options) f = (publisher_words options, any_own (publisher_words options), refl)
writes_so (command.Subscriber factory options) f = (subscriber_words options, any_own (subscriber_words options), refl)
writes_so (command.Loan publisher long) f = refl
writes_so (command.LoanUninit publisher long) f = refl
writes_so (command.Set loan place value) f = refl
writes_so (command.Fill loan values) f = refl
writes_so (command.Drop loan) f = refl
writes_so (command.Send loan) f = refl
writes_so (command.Put publisher values) f = refl
writes_so (command.Retry publisher nanoseconds) f = refl
writes_so (command.GiveUp publisher) f = refl
writes_so (command.Receive subscriber) f = refl
writes_so (command.Read sample) f = refl
writes_so (command.Sequence sample) f = refl
writes_so (command.Release sample) f = refl
writes_so (command.Update (port.Publisher publisher)) f = refl
writes_so (command.Update (port.Subscriber subscriber)) f = refl
writes_so (command.Leave (port.Publisher publisher)) f = refl
writes_so (command.Leave (port.Subscriber subscriber)) f = refl
writes_so (command.Has subscriber) f = refl

values_are_words : (ns : List ℕ) → AllOf IsNumber ns → AreWords (map decimal ns)
values_are_words [] a = tt
values_are_words (n ∷ ns) a = (decimal_no_space n a.0, values_are_words ns a.1)

port_no_space : (p : PortNumber) → IsPort p → has_no_space (port_word p) ≡ true
port_no_space (port.Publisher n) f = decimal_no_space n f
port_no_space (port.Subscriber n) f = decimal_no_space n f

strategy_no_space : (a : BackpressureStrategy) → has_no_space (strategy_word a) ≡ true
strategy_no_space strategy.RetryUntilDelivered = refl
strategy_no_space strategy.DiscardData = refl

allocation_no_space : (a : AllocationStrategy) → has_no_space (allocation_word a) ≡ true
allocation_no_space allocation.Static = refl
allocation_no_space allocation.BestFit = refl
allocation_no_space allocation.PowerOfTwo = refl

handler_no_space : (a : BackpressureAction) → has_no_space (handler_word a) ≡ true
handler_no_space handler.FollowBackpressureyStrategy = refl
handler_no_space handler.Retry = refl
handler_no_space handler.DiscardData = refl
handler_no_space handler.DiscardDataAndFail = refl

degradation_no_space : (a : DegradationAction) → has_no_space (degradation_word a) ≡ true
degradation_no_space degradation.Ignore = refl
degradation_no_space degradation.Warn = refl
degradation_no_space degradation.DegradeAndFail = refl

publisher_are_words : (o : PublisherOptions) → PublisherFits o → AreWords (publisher_words o)
publisher_are_words o f = options_lack 32 publisher_keys (publisher_values o) refl (
  number_lacks 32 o.max_loaned_samples refl f.0,
  (
    text_lacks 32 strategy_word strategy_no_space o.backpressure_strategy,
    (
      number_lacks 32 o.preallocated_samples refl f.1,
      (
        number_lacks 32 o.initial_max_slice_len refl f.2,
        (
          text_lacks 32 allocation_word allocation_no_space o.allocation_strategy,
          (
            text_lacks 32 handler_word handler_no_space o.backpressure_handler,
            (text_lacks 32 degradation_word degradation_no_space o.degradation_handler, tt),
          ),
        ),
      ),
    ),
  ),
)

subscriber_are_words : (o : SubscriberOptions) → IfSome o.buffer_size IsNumber → AreWords (subscriber_words o)
subscriber_are_words o f = options_lack 32 subscriber_keys (subscriber_values o) refl
    (number_lacks 32 o.buffer_size refl f, (text_lacks 32 degradation_word degradation_no_space o.degradation_handler, tt))

words_so : (c : Command ℕ) → Fits c → AreWords (written c)
words_so command.Node f = (refl, tt)
words_so (command.Create node name options attributes steps) f = (
  refl,
  named_are_words node name options (map pair_word attributes) (list_words 0 steps) f.0 f.1 f.2
      (pairs_are_words attributes f.3.1) (lists_are_words (pattern_of options) 0 steps f.4),
)
words_so (command.Open node name options requirements steps) f = (
  refl,
  named_are_words node name options (requirement_words requirements) (list_words 0 steps) f.0 f.1 f.2
      (requirements_are_words requirements f.3) (lists_are_words (pattern_of options) 0 steps f.4),
)
words_so (command.OpenOrCreate node name options requirements steps) f = (
  refl,
  named_are_words node name options (requirement_words requirements) (list_words 0 steps) f.0 f.1 f.2
      (requirements_are_words requirements f.3) (lists_are_words (pattern_of options) 0 steps f.4),
)
words_so (command.Foreign pattern name steps) f
    = (refl, (pattern_no_space pattern, (visible_no_space 1 255 name f.0, foreign_are_words pattern steps f.2)))
words_so (command.Close factory) f = (refl, (decimal_no_space factory f, tt))
words_so (command.Publisher factory options) f = (refl, (decimal_no_space factory f.0, publisher_are_words options f.1))
words_so (command.Subscriber factory options) f = (refl, (decimal_no_space factory f.0, subscriber_are_words options f.1))
words_so (command.Loan publisher long) f = (refl, (decimal_no_space publisher f.0, (decimal_no_space long f.1, tt)))
words_so (command.LoanUninit publisher long) f = (refl, (decimal_no_space publisher f.0, (decimal_no_space long f.1, tt)))
words_so (command.Set loan place value) f
    = (refl, (decimal_no_space loan f.0, (decimal_no_space place f.1, (decimal_no_space value f.2, tt))))
words_so (command.Fill loan values) f = (refl, (decimal_no_space loan f.0, values_are_words values f.1))
words_so (command.Drop loan) f = (refl, (decimal_no_space loan f, tt))
words_so (command.Send loan) f = (refl, (decimal_no_space loan f, tt))
words_so (command.Put publisher values) f = (refl, (decimal_no_space publisher f.0, values_are_words values f.1))
words_so (command.Retry publisher nanoseconds) f = (refl, (decimal_no_space publisher f.0, (decimal_no_space nanoseconds f.1, tt)))
words_so (command.GiveUp publisher) f = (refl, (decimal_no_space publisher f, tt))
words_so (command.Receive subscriber) f = (refl, (decimal_no_space subscriber f, tt))
words_so (command.Read sample) f = (refl, (decimal_no_space sample f, tt))
words_so (command.Sequence sample) f = (refl, (decimal_no_space sample f, tt))
words_so (command.Release sample) f = (refl, (decimal_no_space sample f, tt))
words_so (command.Update port) f = (refl, (port_no_space port f, tt))
words_so (command.Leave port) f = (refl, (port_no_space port f, tt))
words_so (command.Has subscriber) f = (refl, (decimal_no_space subscriber f, tt))

spelled : (c : Command ℕ) → Fits c → Spells (spaced (written c)) c
spelled c f = record { words = written c; fits = f; writes = writes_so c f; are_words = words_so c f; spaced_so = refl }

-- each command that fits has a line
pub has_line : (c : Command ℕ) → Fits c → (line : List ℕ) × Spells line c
has_line c f = (spaced (written c), spelled c f)
