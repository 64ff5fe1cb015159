-- How a service is read, word by word.
use Rattle.std.specs.Prelude.{ℕ, ◌+◌, ◌==◌, Bool, true, false, List, [], ◌∷◌, length, Option, None, Some, codes, if◌then◌else◌}
use Rattle.std.specs.Option.{option_map}
use Rattle.std.specs.Str.{byte}
use Rattle.iox_command.specs.DescribeBase.declared.pattern.MessagingPattern.{MessagingPattern}
use Rattle.iox_command.specs.DescribeBase.declared.pattern.MessagingPattern.TheVariants as pattern
use Rattle.iox_command.specs.declared.service.NumberOrOff.{NumberOrOff}
use Rattle.iox_command.specs.declared.service.NumberOrOff.TheVariants as value
use Rattle.iox_command.specs.declared.service.PublishSubscribeOptions.{PublishSubscribeOptions}
use Rattle.iox_command.specs.declared.service.EventOptions.{EventOptions}
use Rattle.iox_command.specs.declared.service.RequestResponseOptions.{RequestResponseOptions}
use Rattle.iox_command.specs.declared.service.ServiceOptions.{ServiceOptions}
use Rattle.iox_command.specs.declared.service.ServiceOptions.TheVariants as options
use Rattle.iox_line.specs.declared.services.service.NamedService.{NamedService}
use Rattle.iox_line.specs.Words.{choice, same, front, back}
use Rattle.iox_line.specs.Visible.{is_visible_text}
use Rattle.iox_line.specs.Numbers.{number_of, tagged}
use Rattle.iox_line.specs.Options.{find, named, one}

-- Two values.
pub record Pair (X Y : Type 0) : Type 0 where
  pub first : X
  pub second : Y

-- Both values, if both were read.
abbrev pub pair : {X Y : Type 0} → Option X → Option Y → Option (Pair X Y)
pair None y = None
pair (Some x) None = None
pair (Some x) (Some y) = Some (record { first = x; second = y })

-- The value, if it passes the test.
abbrev pub only_if : {X : Type 0} → (X → Bool) → Option X → Option X
only_if test None = None
only_if test (Some x) = if test x then Some x else None

-- Each switch with its text.
abbrev pub switches : List (List ℕ × Bool)
switches = (codes "0", false) ∷ (codes "1", true) ∷ []

-- The switch that a word spells.
abbrev pub switch_of : List ℕ → Option Bool
switch_of word = choice switches word

-- The number that a word spells, or `off`.
abbrev pub number_or_off_of : List ℕ → Option NumberOrOff
number_or_off_of word = if same word (codes "off") then Some value.Off else option_map (λ n. value.Number n) (number_of word)

-- Each pattern with its text.
abbrev pub patterns : List (List ℕ × MessagingPattern)
patterns = (codes "ps", pattern.PublishSubscribe) ∷ (codes "ev", pattern.Event) ∷ (codes "rr", pattern.RequestResponse) ∷ []

-- The pattern that a word spells.
abbrev pub pattern_named : List ℕ → Option MessagingPattern
pattern_named word = choice patterns word

-- The word as a name, if it is one.
abbrev pub name_of : List ℕ → Option (List ℕ)
name_of word = if is_visible_text 1 255 word then Some word else None

-- The options of a publish-subscribe service with these parts.
abbrev pub publish_subscribe_options : Pair (Option ℕ)
    (Pair (Option ℕ) (Pair (Option ℕ) (Pair (Option ℕ) (Pair (Option ℕ) (Pair (Option ℕ) (Pair (Option Bool) (Option Bool)))))))
    → PublishSubscribeOptions
publish_subscribe_options p = record {
  max_subscribers = p.first;
  max_publishers = p.second.first;
  max_nodes = p.second.second.first;
  subscriber_max_buffer_size = p.second.second.second.first;
  subscriber_max_borrowed_samples = p.second.second.second.second.first;
  history_size = p.second.second.second.second.second.first;
  enable_safe_overflow = p.second.second.second.second.second.second.first;
  sequence_numbers = p.second.second.second.second.second.second.second;
}

-- The options that words name for a publish-subscribe service, part by part.
abbrev pub publish_subscribe_parts : List (List ℕ)
    → Option (Pair (Option ℕ) (Pair (Option ℕ) (Pair (Option ℕ) (Pair (Option ℕ)
    (Pair (Option ℕ) (Pair (Option ℕ) (Pair (Option Bool) (Option Bool))))))))
publish_subscribe_parts ws = pair (named number_of (find (codes "subscribers=") ws))
    (pair (named number_of (find (codes "publishers=") ws))
    (pair (named number_of (find (codes "nodes=") ws))
    (pair (named number_of (find (codes "buffer=") ws))
    (pair (named number_of (find (codes "borrowed=") ws))
    (pair (named number_of (find (codes "history=") ws))
    (pair (named switch_of (find (codes "overflow=") ws))
    (named switch_of (find (codes "sequence=") ws))))))))

-- How many options of a publish-subscribe service are named.
abbrev pub publish_subscribe_count : PublishSubscribeOptions → ℕ
publish_subscribe_count o = one o.max_subscribers + one o.max_publishers + one o.max_nodes + one o.subscriber_max_buffer_size + one
    o.subscriber_max_borrowed_samples
    + one o.history_size + one o.enable_safe_overflow + one o.sequence_numbers

-- The options of a publish-subscribe service that words spell; none unless there are exactly as many words as options.
abbrev pub publish_subscribe_of : List (List ℕ) → Option PublishSubscribeOptions
publish_subscribe_of ws = only_if (λ o. length ws == publish_subscribe_count o)
    (option_map publish_subscribe_options (publish_subscribe_parts ws))

-- The options of an event service with these parts.
abbrev pub event_options : Pair (Option ℕ)
    (Pair (Option ℕ) (Pair (Option ℕ)
    (Pair (Option ℕ) (Pair (Option NumberOrOff) (Pair (Option NumberOrOff) (Pair (Option NumberOrOff) (Option NumberOrOff)))))))
    → EventOptions
event_options p = record {
  max_notifiers = p.first;
  max_listeners = p.second.first;
  max_nodes = p.second.second.first;
  event_id_max_value = p.second.second.second.first;
  deadline = p.second.second.second.second.first;
  notifier_created_event = p.second.second.second.second.second.first;
  notifier_dropped_event = p.second.second.second.second.second.second.first;
  notifier_dead_event = p.second.second.second.second.second.second.second;
}

-- The options that words name for an event service, part by part.
abbrev pub event_parts : List (List ℕ)
    → Option (Pair (Option ℕ) (Pair (Option ℕ)
    (Pair (Option ℕ) (Pair (Option ℕ)
    (Pair (Option NumberOrOff) (Pair (Option NumberOrOff) (Pair (Option NumberOrOff) (Option NumberOrOff))))))))
event_parts ws = pair (named number_of (find (codes "notifiers=") ws))
    (pair (named number_of (find (codes "listeners=") ws))
    (pair (named number_of (find (codes "nodes=") ws))
    (pair (named number_of (find (codes "maxid=") ws))
    (pair (named number_or_off_of (find (codes "deadline=") ws))
    (pair (named number_or_off_of (find (codes "created=") ws))
    (pair (named number_or_off_of (find (codes "dropped=") ws))
    (named number_or_off_of (find (codes "dead=") ws))))))))

-- How many options of an event service are named.
abbrev pub event_count : EventOptions → ℕ
event_count o = one o.max_notifiers + one o.max_listeners + one o.max_nodes + one o.event_id_max_value + one o.deadline + one
    o.notifier_created_event
    + one o.notifier_dropped_event + one o.notifier_dead_event

-- The options of an event service that words spell; none unless there are exactly as many words as options.
abbrev pub event_of : List (List ℕ) → Option EventOptions
event_of ws = only_if (λ o. length ws == event_count o) (option_map event_options (event_parts ws))

-- The options of a request-response service with these parts.
abbrev pub request_response_options : Pair (Option ℕ)
    (Pair (Option ℕ) (Pair (Option ℕ)
    (Pair (Option ℕ) (Pair (Option ℕ) (Pair (Option ℕ) (Pair (Option ℕ) (Pair (Option Bool) (Pair (Option Bool) (Option Bool)))))))))
    → RequestResponseOptions
request_response_options p = record {
  max_servers = p.first;
  max_clients = p.second.first;
  max_nodes = p.second.second.first;
  max_response_buffer_size = p.second.second.second.first;
  max_borrowed_responses_per_pending_response = p.second.second.second.second.first;
  max_active_requests_per_client = p.second.second.second.second.second.first;
  max_loaned_requests = p.second.second.second.second.second.second.first;
  enable_safe_overflow_for_requests = p.second.second.second.second.second.second.second.first;
  enable_safe_overflow_for_responses = p.second.second.second.second.second.second.second.second.first;
  enable_fire_and_forget_requests = p.second.second.second.second.second.second.second.second.second;
}

-- The options that words name for a request-response service, part by part.
abbrev pub request_response_parts : List (List ℕ)
    → Option (Pair (Option ℕ) (Pair (Option ℕ)
    (Pair (Option ℕ) (Pair (Option ℕ)
    (Pair (Option ℕ) (Pair (Option ℕ) (Pair (Option ℕ) (Pair (Option Bool) (Pair (Option Bool) (Option Bool))))))))))
request_response_parts ws = pair (named number_of (find (codes "servers=") ws))
    (pair (named number_of (find (codes "clients=") ws))
    (pair (named number_of (find (codes "nodes=") ws))
    (pair (named number_of (find (codes "buffer=") ws))
    (pair (named number_of (find (codes "borrowed=") ws))
    (pair (named number_of (find (codes "active=") ws))
    (pair (named number_of (find (codes "loans=") ws))
    (pair (named switch_of (find (codes "overflow_requests=") ws))
    (pair (named switch_of (find (codes "overflow_responses=") ws))
    (named switch_of (find (codes "fire=") ws))))))))))

-- How many options of a request-response service are named.
abbrev pub request_response_count : RequestResponseOptions → ℕ
request_response_count o = one o.max_servers + one o.max_clients + one o.max_nodes + one o.max_response_buffer_size + one
    o.max_borrowed_responses_per_pending_response
    + one o.max_active_requests_per_client + one o.max_loaned_requests + one o.enable_safe_overflow_for_requests
    + one o.enable_safe_overflow_for_responses + one o.enable_fire_and_forget_requests

-- The options of a request-response service that words spell; none unless there are exactly as many words as options.
abbrev pub request_response_of : List (List ℕ) → Option RequestResponseOptions
request_response_of ws = only_if (λ o. length ws == request_response_count o)
    (option_map request_response_options (request_response_parts ws))

-- The options of a service of this pattern that words spell.
abbrev pub options_of : MessagingPattern → List (List ℕ) → Option ServiceOptions
options_of pattern.PublishSubscribe ws = option_map (λ o. options.PublishSubscribe o) (publish_subscribe_of ws)
options_of pattern.Event ws = option_map (λ o. options.Event o) (event_of ws)
options_of pattern.RequestResponse ws = option_map (λ o. options.RequestResponse o) (request_response_of ws)

-- A named service with these parts.
abbrev pub named_service : ℕ → List ℕ → ServiceOptions → List (List ℕ) → List (List ℕ) → NamedService
named_service node name options attributes lists
    = record { node = node; name = name; options = options; attributes = attributes; lists = lists }

-- The service of a node, a pattern, a name and the words after it, if all were read: the lists begin at the first word with a bar, the
-- attributes at the first word with an `@` before that, and the options come before both.
abbrev pub three_parts : Option ℕ → Option MessagingPattern → Option (List ℕ) → List (List ℕ) → Option NamedService
three_parts None kind name ws = None
three_parts (Some node) None name ws = None
three_parts (Some node) (Some kind) None ws = None
three_parts (Some node) (Some kind) (Some name) ws =
    option_map (λ o. named_service node name o (back (byte "@") (front (byte "|") ws)) (back (byte "|") ws))
    (options_of kind (front (byte "@") (front (byte "|") ws)))

-- The service that words name.
abbrev pub service_of : List (List ℕ) → Option NamedService
service_of [] = None
service_of (w ∷ []) = None
service_of (w ∷ v ∷ []) = None
service_of (w ∷ v ∷ u ∷ ws) = three_parts (tagged (byte "n") w) (pattern_named v) (name_of u) ws
