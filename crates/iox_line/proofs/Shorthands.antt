-- Names for parts of definitions: the keys and the values of options, the limits of their numbers, and what is said of words and texts.
use Rattle.std.proofs.Common.{◌≡◌, ◌≤◌, ℕ, true, List, [], ◌∷◌, ◌++◌, Option, codes, decimal, length, map}
use Rattle.std.specs.Prelude.{◌==◌, IfSome, flat_map, if◌then◌else◌}
use Rattle.std.specs.List.{AllByRecursion, AllZip, join_with_byte}
use Rattle.std.specs.Option.{option_map}
use Rattle.std.specs.Str.{byte}
use Rattle.iox_domain_values.specs.declared.backpressure_strategy.BackpressureStrategy.{BackpressureStrategy}
use Rattle.iox_domain_values.specs.declared.backpressure_strategy.BackpressureStrategy.TheVariants as strategy
use Rattle.iox_domain_values.specs.declared.data_segment.AllocationStrategy.{AllocationStrategy}
use Rattle.iox_domain_values.specs.declared.data_segment.AllocationStrategy.TheVariants as allocation
use Rattle.iox_domain_values.specs.declared.backpressure.BackpressureAction.{BackpressureAction}
use Rattle.iox_domain_values.specs.declared.backpressure.BackpressureAction.TheVariants as handler
use Rattle.iox_describe_base.specs.Attributes.{Required}
use Rattle.iox_describe_base.specs.declared.attribute.Attribute.{Attribute}
use Rattle.iox_command.specs.declared.port.PortNumber.{PortNumber}
use Rattle.iox_command.specs.declared.port.PortNumber.TheVariants as port
use Rattle.iox_command.specs.declared.port.PublisherOptions.{PublisherOptions}
use Rattle.iox_command.specs.declared.port.SubscriberOptions.{SubscriberOptions}
use Rattle.iox_command.specs.declared.service.PublishSubscribeOptions.{PublishSubscribeOptions}
use Rattle.iox_command.specs.declared.service.EventOptions.{EventOptions}
use Rattle.iox_command.specs.declared.service.RequestResponseOptions.{RequestResponseOptions}
use Rattle.iox_command.specs.declared.step.ForeignStep.{ForeignStep}
use Rattle.iox_line.specs.Attributes.{IsKey, IsPair, pair_word}
use Rattle.iox_line.specs.Numbers.{IsNumber}
use Rattle.iox_line.specs.Options.{option_words}
use Rattle.iox_line.specs.Services.{IsNumberOrOff, number_or_off_word, switch_word}
use Rattle.iox_line.specs.Steps.{WritesStep}
use Rattle.iox_line.specs.Values.{degradation_word}
use Rattle.iox_line.specs.Visible.{IsVisibleText}
use Rattle.iox_line.specs.Words.{lacks}

-- how a strategy is written
abbrev pub strategy_word : BackpressureStrategy → List ℕ
strategy_word it = elim it [
  | strategy.RetryUntilDelivered ↦ codes "retry"
  | strategy.DiscardData ↦ codes "discard"
]

-- how an allocation strategy is written
abbrev pub allocation_word : AllocationStrategy → List ℕ
allocation_word it = elim it [
  | allocation.Static ↦ codes "static"
  | allocation.BestFit ↦ codes "best"
  | allocation.PowerOfTwo ↦ codes "power"
]

-- how the answer of a handler is written
abbrev pub handler_word : BackpressureAction → List ℕ
handler_word it = elim it [
  | handler.FollowBackpressureyStrategy ↦ codes "follow"
  | handler.Retry ↦ codes "retry"
  | handler.DiscardData ↦ codes "discard"
  | handler.DiscardDataAndFail ↦ codes "fail"
]

-- the keys of a publisher's options
abbrev pub publisher_keys : List (List ℕ)
publisher_keys = codes "loans=" ∷ codes "strategy=" ∷ codes "slots=" ∷ codes "slice=" ∷ codes "alloc=" ∷ codes "handler="
    ∷ codes "degrade=" ∷ []

-- their values
abbrev pub publisher_values : PublisherOptions → List (Option (List ℕ))
publisher_values o = option_map decimal o.max_loaned_samples ∷ option_map strategy_word o.backpressure_strategy
    ∷ option_map decimal o.preallocated_samples
    ∷ option_map decimal o.initial_max_slice_len ∷ option_map allocation_word o.allocation_strategy
    ∷ option_map handler_word o.backpressure_handler
    ∷ option_map degradation_word o.degradation_handler ∷ []

-- the keys of a subscriber's options
abbrev pub subscriber_keys : List (List ℕ)
subscriber_keys = codes "buffer=" ∷ codes "degrade=" ∷ []

-- their values
abbrev pub subscriber_values : SubscriberOptions → List (Option (List ℕ))
subscriber_values o = option_map decimal o.buffer_size ∷ option_map degradation_word o.degradation_handler ∷ []

-- the options of a publisher that are named, each a word
abbrev pub publisher_words : PublisherOptions → List (List ℕ)
publisher_words o = option_words publisher_keys (publisher_values o)

-- the options of a subscriber that are named, each a word
abbrev pub subscriber_words : SubscriberOptions → List (List ℕ)
subscriber_words o = option_words subscriber_keys (subscriber_values o)

-- the words write these steps, in their order
abbrev pub WritesSteps : List ForeignStep → List (List ℕ) → Type 0
WritesSteps steps words = AllZip WritesStep steps words

-- the keys of a publish-subscribe service's options
abbrev pub publish_subscribe_keys : List (List ℕ)
publish_subscribe_keys = codes "subscribers=" ∷ codes "publishers=" ∷ codes "nodes=" ∷ codes "buffer=" ∷ codes "borrowed="
    ∷ codes "history=" ∷ codes "overflow=" ∷ codes "sequence=" ∷ []

-- their values
abbrev pub publish_subscribe_values : PublishSubscribeOptions → List (Option (List ℕ))
publish_subscribe_values o = option_map decimal o.max_subscribers ∷ option_map decimal o.max_publishers ∷ option_map decimal o.max_nodes
    ∷ option_map decimal o.subscriber_max_buffer_size ∷ option_map decimal o.subscriber_max_borrowed_samples
    ∷ option_map decimal o.history_size
    ∷ option_map switch_word o.enable_safe_overflow ∷ option_map switch_word o.sequence_numbers ∷ []

-- the keys of an event service's options
abbrev pub event_keys : List (List ℕ)
event_keys = codes "notifiers=" ∷ codes "listeners=" ∷ codes "nodes=" ∷ codes "maxid=" ∷ codes "deadline=" ∷ codes "created="
    ∷ codes "dropped=" ∷ codes "dead="
    ∷ []

-- their values
abbrev pub event_values : EventOptions → List (Option (List ℕ))
event_values o = option_map decimal o.max_notifiers ∷ option_map decimal o.max_listeners ∷ option_map decimal o.max_nodes
    ∷ option_map decimal o.event_id_max_value
    ∷ option_map number_or_off_word o.deadline ∷ option_map number_or_off_word o.notifier_created_event
    ∷ option_map number_or_off_word o.notifier_dropped_event ∷ option_map number_or_off_word o.notifier_dead_event ∷ []

-- the keys of a request-response service's options
abbrev pub request_response_keys : List (List ℕ)
request_response_keys = codes "servers=" ∷ codes "clients=" ∷ codes "nodes=" ∷ codes "buffer=" ∷ codes "borrowed=" ∷ codes "active="
    ∷ codes "loans="
    ∷ codes "overflow_requests=" ∷ codes "overflow_responses=" ∷ codes "fire=" ∷ []

-- their values
abbrev pub request_response_values : RequestResponseOptions → List (Option (List ℕ))
request_response_values o = option_map decimal o.max_servers ∷ option_map decimal o.max_clients ∷ option_map decimal o.max_nodes
    ∷ option_map decimal o.max_response_buffer_size
    ∷ option_map decimal o.max_borrowed_responses_per_pending_response ∷ option_map decimal o.max_active_requests_per_client
    ∷ option_map decimal o.max_loaned_requests ∷ option_map switch_word o.enable_safe_overflow_for_requests
    ∷ option_map switch_word o.enable_safe_overflow_for_responses ∷ option_map switch_word o.enable_fire_and_forget_requests ∷ []

-- the numbers have 64 bits
abbrev pub PublishSubscribeFits : PublishSubscribeOptions → Type 0
PublishSubscribeFits o = IfSome o.max_subscribers IsNumber × IfSome o.max_publishers IsNumber × IfSome o.max_nodes IsNumber
    × IfSome o.subscriber_max_buffer_size IsNumber
    × IfSome o.subscriber_max_borrowed_samples IsNumber × IfSome o.history_size IsNumber

-- the numbers have 64 bits
abbrev pub EventFits : EventOptions → Type 0
EventFits o = IfSome o.max_notifiers IsNumber × IfSome o.max_listeners IsNumber × IfSome o.max_nodes IsNumber
    × IfSome o.event_id_max_value IsNumber
    × IfSome o.deadline IsNumberOrOff
    × IfSome o.notifier_created_event IsNumberOrOff × IfSome o.notifier_dropped_event IsNumberOrOff
    × IfSome o.notifier_dead_event IsNumberOrOff

-- the numbers have 64 bits
abbrev pub RequestResponseFits : RequestResponseOptions → Type 0
RequestResponseFits o = IfSome o.max_servers IsNumber × IfSome o.max_clients IsNumber × IfSome o.max_nodes IsNumber
    × IfSome o.max_response_buffer_size IsNumber
    × IfSome o.max_borrowed_responses_per_pending_response IsNumber × IfSome o.max_active_requests_per_client IsNumber
    × IfSome o.max_loaned_requests IsNumber

-- the words define these pairs, in their order
abbrev pub Defines : List Attribute → List (List ℕ) → Type 0
Defines pairs words = words ≡ map pair_word pairs

-- the numbers have 64 bits
abbrev pub PublisherFits : PublisherOptions → Type 0
PublisherFits o = IfSome o.max_loaned_samples IsNumber × IfSome o.preallocated_samples IsNumber × IfSome o.initial_max_slice_len IsNumber

-- each of these keeps to it
abbrev pub AllOf : {A : Type 0} → (A → Type 0) → List A → Type 0
AllOf Good xs = AllByRecursion Good xs

-- no byte of any of the words is a space
abbrev pub AreWords : List (List ℕ) → Type 0
AreWords words = AllByRecursion (λ word. lacks (byte " ") word ≡ true) words

-- a name: 1 to 255 bytes of 0x21 to 0x7E
abbrev pub IsName : List ℕ → Type 0
IsName name = IsVisibleText 1 255 name

-- a key alone: @KEY
abbrev pub key_word : List ℕ → List ℕ
key_word key = codes "@" ++ key

-- at most eight pairs
abbrev pub SpecifierFits : List Attribute → Type 0
SpecifierFits pairs = (length pairs ≤ 8) × AllByRecursion IsPair pairs

-- at most eight pairs, and at most eight keys
abbrev pub VerifierFits : Required → Type 0
VerifierFits r = (length r.pairs ≤ 8) × AllByRecursion IsPair r.pairs × (length r.keys ≤ 8) × AllByRecursion IsKey r.keys

-- how the number of a port is written
abbrev pub port_word : PortNumber → List ℕ
port_word (port.Publisher n) = codes "p" ++ decimal n
port_word (port.Subscriber n) = codes "s" ++ decimal n

-- the number of a port has 64 bits
abbrev pub IsPort : PortNumber → Type 0
IsPort (port.Publisher n) = IsNumber n
IsPort (port.Subscriber n) = IsNumber n

-- options after a colon, with a comma between each two; nothing where there are none
abbrev pub option_tail : List (List ℕ) → List ℕ
option_tail [] = []
option_tail (w ∷ ws) = codes ":" ++ join_with_byte (byte ",") (w ∷ ws)

-- what begins the list of an access, where the list that stands is that of another: a bar and the number
abbrev pub beginning : ℕ → ℕ → List (List ℕ)
beginning now access = if access == now then [] else (codes "|" ++ decimal access) ∷ []

-- each value after a space
abbrev pub values_text : List ℕ → List ℕ
values_text values = flat_map (λ value. codes " " ++ decimal value) values

-- none of the texts has this byte
abbrev pub AllLack : ℕ → List (List ℕ) → Type 0
AllLack byte texts = AllOf (λ text. lacks byte text ≡ true) texts

-- words with one space between each two
abbrev pub spaced : List (List ℕ) → List ℕ
spaced words = join_with_byte (byte " ") words

-- a byte of 0x21 to 0x7E
abbrev pub IsVisible : ℕ → Type 0
IsVisible b = (33 ≤ b) × (b ≤ 126)
