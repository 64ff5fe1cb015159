-- What is written of a service has no space in a word, and words are themselves in some order.
use Rattle.std.proofs.Common.{◌≡◌, ℕ, ◌==◌, Bool, true, false, ◌&&◌, not, List, [], ◌∷◌, ◌++◌, Option, None, Some, refl, ap, ◌∙◌, decimal}
use Rattle.std.proofs.Common.{codes}
use Rattle.std.specs.List.{list_all}
use Rattle.std.specs.Option.{option_map}
use Rattle.std.proofs.lemmas.List.Folds.{list_all-append}
use Rattle.iox_command.specs.DescribeBase.declared.pattern.MessagingPattern.{MessagingPattern}
use Rattle.iox_command.specs.DescribeBase.declared.pattern.MessagingPattern.TheVariants as pattern
use Rattle.iox_command.specs.declared.service.NumberOrOff.{NumberOrOff}
use Rattle.iox_command.specs.declared.service.NumberOrOff.TheVariants as value
use Rattle.iox_command.specs.declared.service.PublishSubscribeOptions.{PublishSubscribeOptions}
use Rattle.iox_command.specs.declared.service.EventOptions.{EventOptions}
use Rattle.iox_command.specs.declared.service.RequestResponseOptions.{RequestResponseOptions}
use Rattle.iox_command.specs.declared.service.ServiceOptions.{ServiceOptions}
use Rattle.iox_command.specs.declared.service.ServiceOptions.TheVariants as options
use Rattle.iox_command.specs.Patterns.{pattern_of}
use Rattle.iox_line.specs.Words.{lacks, has_no_space}
use Rattle.iox_line.specs.Numbers.{IsNumber, is_digit, tag}
use Rattle.iox_line.specs.Options.{AnyOrder, option_words}
use Rattle.iox_line.proofs.NumberLemmas.{decimal_lacks, decimal_no_space}
use Rattle.iox_line.proofs.AfterLemmas.{and_left, and_right}
use Rattle.iox_line.proofs.VisibleLemmas.{visible_no_space}
use Rattle.iox_line.specs.Services.{pattern_word, switch_word, number_or_off_word, IsNumberOrOff}
use Rattle.iox_line.specs.Services.{service_words, ServiceFits, Names}
use Rattle.iox_line.proofs.Shorthands.{AreWords, EventFits, IsName, PublishSubscribeFits, RequestResponseFits, publish_subscribe_keys}
use Rattle.iox_line.proofs.Shorthands.{publish_subscribe_values, event_keys, event_values, request_response_keys}
use Rattle.iox_line.proofs.Shorthands.{request_response_values}
use Rattle.std.specs.Prelude.{IfSome}
use Rattle.iox_line.proofs.Shorthands.{AllLack}

-- words are these words in some order
pub any_own : (ws : List (List ℕ)) → AnyOrder ws ws
any_own [] = refl
any_own (w ∷ ws) = ([], ws, refl, any_own ws)

-- a value, where there is one, lacks the byte
abbrev pub IfLacks : ℕ → Option (List ℕ) → Type 0
IfLacks byte None = Unit {0}
IfLacks byte (Some text) = lacks byte text ≡ true

-- no value has the byte
abbrev pub ValuesLack : ℕ → List (Option (List ℕ)) → Type 0
ValuesLack byte [] = Unit {0}
ValuesLack byte (v ∷ vs) = IfLacks byte v × ValuesLack byte vs

-- two texts that lack the byte together
pub both_parts : (byte : ℕ) (a b : List ℕ) → lacks byte a ≡ true → lacks byte b ≡ true → lacks byte (a ++ b) ≡ true
both_parts byte a b p q = list_all-append (λ c. not (c == byte)) a b ∙ ap (λ t. t && lacks byte b) p ∙ q

-- options whose keys and values lack a byte lack it
pub options_lack : (byte : ℕ) (keys : List (List ℕ)) (values : List (Option (List ℕ))) → list_all (λ k. lacks byte k) keys ≡ true
    → ValuesLack byte values
    → AllLack byte (option_words keys values)
options_lack byte [] values k v = tt
options_lack byte (key ∷ keys) [] k v = tt
options_lack byte (key ∷ keys) (None ∷ values) k v
    = options_lack byte keys values (and_right (lacks byte key) (list_all (λ w. lacks byte w) keys) k) v.1
options_lack byte (key ∷ keys) (Some text ∷ values) k v = (
  both_parts byte key text (and_left (lacks byte key) (list_all (λ w. lacks byte w) keys) k) v.0,
  options_lack byte keys values
      (and_right (lacks byte key) (list_all (λ w. lacks byte w) keys) k) v.1,
)

-- a number, where there is one, is written with digits alone
pub number_lacks : (byte : ℕ) (o : Option ℕ) → is_digit byte ≡ false → IfSome o IsNumber → IfLacks byte (option_map decimal o)
number_lacks byte None d f = tt
number_lacks byte (Some n) d f = decimal_lacks byte n d f

-- a value whose text lacks the byte, where there is one, is written without it
pub text_lacks : {A : Type 0} (byte : ℕ) (text : A → List ℕ) → ((a : A) → lacks byte (text a) ≡ true) → (o : Option A)
    → IfLacks byte (option_map text o)
text_lacks byte text t None = tt
text_lacks byte text t (Some a) = t a

-- neither digits nor the letters of `off` have the byte
abbrev Spares : ℕ → Type 0
Spares byte = (is_digit byte ≡ false) × (lacks byte (codes "0") ≡ true) × (lacks byte (codes "1") ≡ true)
    × (lacks byte (codes "off") ≡ true)

switch_lacks : (byte : ℕ) → Spares byte → (s : Bool) → lacks byte (switch_word s) ≡ true
switch_lacks byte p false = p.1
switch_lacks byte p true = p.2

off_lacks : (byte : ℕ) (v : NumberOrOff) → Spares byte → IsNumberOrOff v → lacks byte (number_or_off_word v) ≡ true
off_lacks byte (value.Number n) p f = decimal_lacks byte n p.0 f
off_lacks byte value.Off p f = p.3

if_off_lacks : (byte : ℕ) (o : Option NumberOrOff) → Spares byte → IfSome o IsNumberOrOff → IfLacks byte (option_map number_or_off_word o)
if_off_lacks byte None p f = tt
if_off_lacks byte (Some v) p f = off_lacks byte v p f

-- a pattern is written without a space
pub pattern_no_space : (p : MessagingPattern) → has_no_space (pattern_word p) ≡ true
pattern_no_space pattern.PublishSubscribe = refl
pattern_no_space pattern.Event = refl
pattern_no_space pattern.RequestResponse = refl

publish_subscribe_lack : (byte : ℕ) (o : PublishSubscribeOptions) → Spares byte → PublishSubscribeFits o
    → ValuesLack byte (publish_subscribe_values o)
publish_subscribe_lack byte o p f = (
  number_lacks byte o.max_subscribers p.0 f.0,
  (
    number_lacks byte o.max_publishers p.0 f.1,
    (
      number_lacks byte o.max_nodes p.0 f.2,
      (
        number_lacks byte o.subscriber_max_buffer_size p.0 f.3,
        (
          number_lacks byte o.subscriber_max_borrowed_samples p.0 f.4,
          (
            number_lacks byte o.history_size p.0 f.5,
            (
              text_lacks byte switch_word (switch_lacks byte p) o.enable_safe_overflow,
              (text_lacks byte switch_word (switch_lacks byte p) o.sequence_numbers, tt),
            ),
          ),
        ),
      ),
    ),
  ),
)

event_lack : (byte : ℕ) (o : EventOptions) → Spares byte → EventFits o → ValuesLack byte (event_values o)
event_lack byte o p f = (
  number_lacks byte o.max_notifiers p.0 f.0,
  (
    number_lacks byte o.max_listeners p.0 f.1,
    (
      number_lacks byte o.max_nodes p.0 f.2,
      (
        number_lacks byte o.event_id_max_value p.0 f.3,
        (
          if_off_lacks byte o.deadline p f.4,
          (
            if_off_lacks byte o.notifier_created_event p f.5,
            (if_off_lacks byte o.notifier_dropped_event p f.6, (if_off_lacks byte o.notifier_dead_event p f.7, tt)),
          ),
        ),
      ),
    ),
  ),
)

request_response_lack : (byte : ℕ) (o : RequestResponseOptions) → Spares byte → RequestResponseFits o
    → ValuesLack byte (request_response_values o)
request_response_lack byte o p f = (
  number_lacks byte o.max_servers p.0 f.0,
  (
    number_lacks byte o.max_clients p.0 f.1,
    (
      number_lacks byte o.max_nodes p.0 f.2,
      (
        number_lacks byte o.max_response_buffer_size p.0 f.3,
        (
          number_lacks byte o.max_borrowed_responses_per_pending_response p.0 f.4,
          (
            number_lacks byte o.max_active_requests_per_client p.0 f.5,
            (
              number_lacks byte o.max_loaned_requests p.0 f.6,
              (
                text_lacks byte switch_word (switch_lacks byte p) o.enable_safe_overflow_for_requests,
                (
                  text_lacks byte switch_word (switch_lacks byte p) o.enable_safe_overflow_for_responses,
                  (text_lacks byte switch_word (switch_lacks byte p) o.enable_fire_and_forget_requests, tt),
                ),
              ),
            ),
          ),
        ),
      ),
    ),
  ),
)

-- the options of a service have no space
pub service_are_words : (o : ServiceOptions) → ServiceFits o → AreWords (service_words o)
service_are_words (options.PublishSubscribe o) f
    = options_lack 32 publish_subscribe_keys (publish_subscribe_values o) refl (publish_subscribe_lack 32 o (refl, refl, refl, refl) f)
service_are_words (options.Event o) f = options_lack 32 event_keys (event_values o) refl (event_lack 32 o (refl, refl, refl, refl) f)
service_are_words (options.RequestResponse o) f
    = options_lack 32 request_response_keys (request_response_values o) refl (request_response_lack 32 o (refl, refl, refl, refl) f)

-- nor a comma
pub service_lack_commas : (o : ServiceOptions) → ServiceFits o → AllLack 44 (service_words o)
service_lack_commas (options.PublishSubscribe o) f
    = options_lack 44 publish_subscribe_keys (publish_subscribe_values o) refl (publish_subscribe_lack 44 o (refl, refl, refl, refl) f)
service_lack_commas (options.Event o) f = options_lack 44 event_keys (event_values o) refl (event_lack 44 o (refl, refl, refl, refl) f)
service_lack_commas (options.RequestResponse o) f
    = options_lack 44 request_response_keys (request_response_values o) refl (request_response_lack 44 o (refl, refl, refl, refl) f)

-- words that name a service
abbrev pub named_words : ℕ → List ℕ → ServiceOptions → List (List ℕ) → List (List ℕ) → List (List ℕ)
named_words node name o attributes lists = tag 110 node ∷ pattern_word (pattern_of o) ∷ name ∷ (service_words o ++ (attributes ++ lists))

-- they do so
pub named_so : (node : ℕ) (name : List ℕ) (o : ServiceOptions) (attributes lists : List (List ℕ))
    → Names node name o attributes lists (named_words node name o attributes lists)
named_so node name o attributes lists = (service_words o, any_own (service_words o), refl)

-- words after words are words
pub both_words : (xs ys : List (List ℕ)) → AreWords xs → AreWords ys → AreWords (xs ++ ys)
both_words [] ys x y = y
both_words (w ∷ ws) ys x y = (x.0, both_words ws ys x.1 y)

-- they have no space in a word
pub named_are_words : (node : ℕ) (name : List ℕ) (o : ServiceOptions) (attributes lists : List (List ℕ)) → IsNumber node → IsName name
    → ServiceFits o → AreWords attributes → AreWords lists
    → AreWords (named_words node name o attributes lists)
named_are_words node name o attributes lists n a f t l = (
  decimal_no_space node n,
  (
    pattern_no_space (pattern_of o),
    (
      visible_no_space 1 255 name a,
      both_words (service_words o) (attributes ++ lists) (service_are_words o f)
          (both_words attributes lists t l),
    ),
  ),
)
