-- How a line is read, word by word.
use Rattle.std.specs.Prelude.{ℕ, ◌+◌, ◌==◌, length, codes, Bool, List, [], ◌∷◌, Option, None, Some, Result, Ok, Err, if◌then◌else◌}
use Rattle.std.specs.Option.{option_map}
use Rattle.iox_command.specs.declared.command.Command.{Command}
use Rattle.iox_command.specs.declared.command.Command.TheVariants as command
use Rattle.iox_command.specs.declared.port.PortNumber.{PortNumber}
use Rattle.iox_command.specs.declared.port.PortNumber.TheVariants as port
use Rattle.iox_line.specs.Words.{no_words}
use Rattle.iox_line.specs.Numbers.{number_of, tagged}
use Rattle.iox_command.specs.declared.port.PublisherOptions.{PublisherOptions}
use Rattle.iox_command.specs.declared.port.SubscriberOptions.{SubscriberOptions}
use Rattle.iox_domain_values.specs.declared.backpressure_strategy.BackpressureStrategy.{BackpressureStrategy}
use Rattle.iox_domain_values.specs.declared.data_segment.AllocationStrategy.{AllocationStrategy}
use Rattle.iox_domain_values.specs.declared.backpressure.BackpressureAction.{BackpressureAction}
use Rattle.iox_domain_values.specs.declared.degradation.DegradationAction.{DegradationAction}
use Rattle.iox_line.specs.Options.{or_else, find, named, one}
use Rattle.iox_line.specs.Values.{strategy_of, allocation_of, handler_of, degradation_of}
use Rattle.std.specs.declared.alloc.AllocError.{AllocError}
use Rattle.std.specs.Str.{byte}
use Rattle.iox_describe_base.specs.Attributes.{Required}
use Rattle.iox_command.specs.DescribeBase.declared.pattern.MessagingPattern.{MessagingPattern}
use Rattle.iox_command.specs.declared.step.StepBefore.{StepBefore}
use Rattle.iox_command.specs.Patterns.{pattern_of}
use Rattle.iox_line.specs.declared.services.service.NamedService.{NamedService}
use Rattle.iox_line.specs.ServicesReading.{pattern_named, name_of, service_of}
use Rattle.iox_line.specs.AttributesReading.{specifier_of, verifier_of}
use Rattle.iox_line.specs.StepsReading.{steps_of, lists_of}
use Rattle.iox_line.specs.declared.verb.Verb.{Verb}
use Rattle.iox_line.specs.declared.verb.Verb.TheVariants as verb
use Rattle.iox_line.specs.declared.verb.ServiceVerb.{ServiceVerb}
use Rattle.iox_line.specs.declared.verb.OtherVerb.{OtherVerb}
use Rattle.iox_line.specs.declared.verb.OtherVerb.TheVariants as other
use Rattle.iox_line.specs.declared.verb.ServiceVerb.TheVariants as service
use Rattle.iox_line.specs.Verbs.{verb_of, service_verb_of}

-- Both parts, if both were read.
abbrev pub both : {X Y : Type 0} → Option X → Option Y → Option (X × Y)
both None y = None
both (Some x) None = None
both (Some x) (Some y) = Some (x, y)

-- The options of a publisher with these parts.
abbrev pub publisher_options : Option ℕ → Option BackpressureStrategy → Option ℕ → Option ℕ → Option AllocationStrategy
    → Option BackpressureAction → Option DegradationAction → PublisherOptions
publisher_options a b c d e f g = record {
  max_loaned_samples = a;
  backpressure_strategy = b;
  preallocated_samples = c;
  initial_max_slice_len = d;
  allocation_strategy = e;
  backpressure_handler = f;
  degradation_handler = g;
}

-- The options of a subscriber with these parts.
abbrev pub subscriber_options : Option ℕ → Option DegradationAction → SubscriberOptions
subscriber_options a b = record { buffer_size = a; degradation_handler = b }

-- Three numbers, if all were read.
abbrev pub three : Option ℕ → Option ℕ → Option ℕ → Option (ℕ × ℕ × ℕ)
three None y z = None
three (Some x) None z = None
three (Some x) (Some y) None = None
three (Some x) (Some y) (Some z) = Some (x, y, z)

-- The number of a single word, after the letter of its kind.
abbrev pub only : ℕ → List (List ℕ) → Option ℕ
only letter (w ∷ []) = tagged letter w
only letter words = None

-- A number with the letter of its kind, and a second number.
abbrev pub with_number : ℕ → List (List ℕ) → Option (ℕ × ℕ)
with_number letter (w ∷ v ∷ []) = both (tagged letter w) (number_of v)
with_number letter words = None

-- A number with the letter of its kind, and two more numbers.
abbrev pub with_two : ℕ → List (List ℕ) → Option (ℕ × ℕ × ℕ)
with_two letter (w ∷ v ∷ u ∷ []) = three (tagged letter w) (number_of v) (number_of u)
with_two letter words = None

-- The numbers that words spell.
abbrev pub numbers : List (List ℕ) → Option (List ℕ)
numbers [] = Some []
numbers (w ∷ ws) = option_map (λ p. p.0 ∷ p.1) (both (number_of w) (numbers ws))

-- A number with the letter of its kind, and any number of numbers after it.
abbrev pub with_values : ℕ → List (List ℕ) → Option (ℕ × List ℕ)
with_values letter [] = None
with_values letter (w ∷ ws) = both (tagged letter w) (numbers ws)

-- The port that a single word names.
abbrev pub port_of : List (List ℕ) → Option PortNumber
port_of words = or_else (option_map (λ n. port.Publisher n) (only (byte "p") words))
    (option_map (λ n. port.Subscriber n) (only (byte "s") words))

-- What `make` makes of the part that was read, if it was read.
abbrev pub bind : {X Y : Type 0} → Option X → (X → Option Y) → Option Y
bind None make = None
bind (Some x) make = make x

-- The options of a publisher that words spell; none unless there are exactly as many words as options.
abbrev pub publisher_of : List (List ℕ) → Option PublisherOptions
publisher_of ws =
    bind (named number_of (find (codes "loans=") ws)) (λ a. bind (named strategy_of (find (codes "strategy=") ws)) (λ b.
    bind (named number_of (find (codes "slots=") ws)) (λ c. bind (named number_of (find (codes "slice=") ws)) (λ d.
    bind (named allocation_of (find (codes "alloc=") ws)) (λ e. bind (named handler_of (find (codes "handler=") ws)) (λ f.
    bind (named degradation_of (find (codes "degrade=") ws)) (λ g.
    if length ws == one a + one b + one c + one d + one e + one f + one g then Some (publisher_options a b c d e f g) else None)))))))

-- The options of a subscriber that words spell; none unless there are exactly as many words as options.
abbrev pub subscriber_of : List (List ℕ) → Option SubscriberOptions
subscriber_of ws =
    bind (named number_of (find (codes "buffer=") ws)) (λ a. bind (named degradation_of (find (codes "degrade=") ws)) (λ b.
    if length ws == one a + one b then Some (subscriber_options a b) else None))

-- The command that creates a publisher: a factory, and the options.
abbrev pub publisher_command : List (List ℕ) → Option (Command ℕ)
publisher_command [] = None
publisher_command (w ∷ ws) = option_map (λ p. command.Publisher p.0 p.1) (both (tagged (byte "f") w) (publisher_of ws))

-- The command that creates a subscriber: a factory, and the options.
abbrev pub subscriber_command : List (List ℕ) → Option (Command ℕ)
subscriber_command [] = None
subscriber_command (w ∷ ws) = option_map (λ p. command.Subscriber p.0 p.1) (both (tagged (byte "f") w) (subscriber_of ws))

-- The command that is made of a service, of its attributes and of its lists of actions, if all were read.
abbrev pub service_command : {A : Type 0} → (NamedService → A → List StepBefore → Command ℕ) → (List (List ℕ) → Option A)
    → List (List ℕ) → Option (Command ℕ)
service_command make read words = bind (service_of words)
    (λ s. option_map (λ p. make s p.0 p.1) (both (read s.attributes) (lists_of (pattern_of s.options) s.lists)))

-- The command that creates a service.
abbrev pub create_command : List (List ℕ) → Option (Command ℕ)
create_command words = service_command (λ s a t. command.Create s.node s.name s.options a t) specifier_of words

-- The command that opens a service.
abbrev pub open_command : List (List ℕ) → Option (Command ℕ)
open_command words = service_command (λ s a t. command.Open s.node s.name s.options a t) verifier_of words

-- The command that opens or creates a service.
abbrev pub open_or_create_command : List (List ℕ) → Option (Command ℕ)
open_or_create_command words = service_command (λ s a t. command.OpenOrCreate s.node s.name s.options a t) verifier_of words

-- The command that opens a service, or, if `creates`, opens or creates it.
abbrev pub opening : Bool → NamedService → Required → List StepBefore → Command ℕ
opening creates s a t =
    if creates then command.OpenOrCreate s.node s.name s.options a t else command.Open s.node s.name s.options a t

-- The command of words that open a service, or, if `creates`, open or create it.
abbrev pub requiring_command : Bool → List (List ℕ) → Option (Command ℕ)
requiring_command creates words = service_command (λ s a t. opening creates s a t) verifier_of words

-- The command by which other nodes act, if the pattern and the name were read.
abbrev pub foreign_parts : Option MessagingPattern → Option (List ℕ) → List (List ℕ) → Option (Command ℕ)
foreign_parts None name words = None
foreign_parts (Some kind) None words = None
foreign_parts (Some kind) (Some name) words = option_map (λ s. command.Foreign kind name s) (steps_of kind words)

-- The command by which other nodes act.
abbrev pub foreign_command : List (List ℕ) → Option (Command ℕ)
foreign_command [] = None
foreign_command (w ∷ []) = None
foreign_command (w ∷ v ∷ ws) = foreign_parts (pattern_named w) (name_of v) ws

-- The command of a verb that names a service, and of the words after it.
abbrev pub of_service : ServiceVerb → List (List ℕ) → Option (Command ℕ)
of_service service.Create words = create_command words
of_service service.Open words = open_command words
of_service service.OpenOrCreate words = open_or_create_command words
of_service service.Foreign words = foreign_command words

-- The command of a verb and of the words after it.
abbrev pub of_verb : Verb → List (List ℕ) → Option (Command ℕ)
of_verb verb.Node words = if no_words words then Some command.Node else None
of_verb verb.Close words = option_map (λ n. command.Close n) (only (byte "f") words)
of_verb verb.Loan words = option_map (λ p. command.Loan p.0 p.1) (with_number (byte "p") words)
of_verb verb.LoanUninit words = option_map (λ p. command.LoanUninit p.0 p.1) (with_number (byte "p") words)
of_verb verb.Set words = option_map (λ p. command.Set p.0 p.1 p.2) (with_two (byte "l") words)
of_verb verb.Fill words = option_map (λ p. command.Fill p.0 p.1) (with_values (byte "l") words)
of_verb verb.Drop words = option_map (λ n. command.Drop n) (only (byte "l") words)
of_verb verb.Send words = option_map (λ n. command.Send n) (only (byte "l") words)
of_verb verb.Put words = option_map (λ p. command.Put p.0 p.1) (with_values (byte "p") words)
of_verb verb.Retry words = option_map (λ p. command.Retry p.0 p.1) (with_number (byte "p") words)
of_verb verb.GiveUp words = option_map (λ n. command.GiveUp n) (only (byte "p") words)
of_verb verb.Receive words = option_map (λ n. command.Receive n) (only (byte "s") words)
of_verb verb.Read words = option_map (λ n. command.Read n) (only (byte "m") words)
of_verb verb.Sequence words = option_map (λ n. command.Sequence n) (only (byte "m") words)
of_verb verb.Release words = option_map (λ n. command.Release n) (only (byte "m") words)
of_verb verb.Update words = option_map (λ p. command.Update p) (port_of words)
of_verb verb.Leave words = option_map (λ p. command.Leave p) (port_of words)
of_verb verb.Has words = option_map (λ n. command.Has n) (only (byte "s") words)
of_verb verb.Publisher words = publisher_command words
of_verb verb.Subscriber words = subscriber_command words

-- The command of a verb of a command that isn't on an existing port, and of the words after it.
abbrev pub of_other : OtherVerb → List (List ℕ) → Option (Command ℕ)
of_other other.Node words = of_verb verb.Node words
of_other other.Close words = of_verb verb.Close words
of_other other.Publisher words = of_verb verb.Publisher words
of_other other.Subscriber words = of_verb verb.Subscriber words
of_other (other.Service verb) words = of_service verb words

-- The command, if it is one on an existing port; none for any other command.
abbrev pub if_of_port : Option (Command ℕ) → Option (Command ℕ)
if_of_port None = None
if_of_port (Some command.Node) = None
if_of_port (Some (command.Create node name options attributes steps)) = None
if_of_port (Some (command.Open node name options requirements steps)) = None
if_of_port (Some (command.OpenOrCreate node name options requirements steps)) = None
if_of_port (Some (command.Foreign pattern name steps)) = None
if_of_port (Some (command.Close factory)) = None
if_of_port (Some (command.Publisher factory options)) = None
if_of_port (Some (command.Subscriber factory options)) = None
if_of_port other = other

-- The command of a verb that was read, and of the words after it.
abbrev pub of_read : Option Verb → Option ServiceVerb → List (List ℕ) → Option (Command ℕ)
of_read (Some verb) other words = of_verb verb words
of_read None (Some verb) words = of_service verb words
of_read None None words = None

-- The command of all words of a line.
abbrev pub of_words : List (List ℕ) → Option (Command ℕ)
of_words [] = None
of_words (w ∷ ws) = of_read (verb_of w) (service_verb_of w) ws

-- Both parts, if both were read. If one can't be read, there are none, even if an allocation failed for the other.
abbrev pub together : {A B : Type 0} → Result (Option A) AllocError → Result (Option B) AllocError → Result (Option (A × B)) AllocError
together (Ok None) second = Ok None
together (Ok (Some a)) (Ok None) = Ok None
together (Ok (Some a)) (Ok (Some b)) = Ok (Some (a, b))
together (Ok (Some a)) (Err lacking) = Err lacking
together (Err lacking) (Ok None) = Ok None
together (Err lacking) (Ok (Some b)) = Err lacking
together (Err lacking) (Err other) = Err lacking
