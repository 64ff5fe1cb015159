-- How a line names a service: by its node, its pattern, its name and its options.
use Rattle.std.specs.Prelude.{ℕ, ◌≡◌, Bool, true, false, List, [], ◌∷◌, ◌++◌, codes, decimal, IfSome}
use Rattle.std.specs.Option.{option_map}
use Rattle.iox_command.specs.DescribeBase.declared.pattern.MessagingPattern.{MessagingPattern}
use Rattle.iox_command.specs.DescribeBase.declared.pattern.MessagingPattern.TheVariants as pattern
use Rattle.iox_command.specs.declared.service.NumberOrOff.{NumberOrOff}
use Rattle.iox_command.specs.declared.service.NumberOrOff.TheVariants as value
use Rattle.iox_command.specs.declared.service.ServiceOptions.{ServiceOptions}
use Rattle.iox_command.specs.declared.service.ServiceOptions.TheVariants as options
use Rattle.iox_command.specs.Patterns.{pattern_of}
use Rattle.iox_line.specs.Numbers.{IsNumber}
use Rattle.iox_line.specs.Options.{AnyOrder, option_words}

-- How a pattern is written.
abbrev pub pattern_word : MessagingPattern → List ℕ
pattern_word pattern.PublishSubscribe = codes "ps"
pattern_word pattern.Event = codes "ev"
pattern_word pattern.RequestResponse = codes "rr"

-- How a switch is written.
abbrev pub switch_word : Bool → List ℕ
switch_word false = codes "0"
switch_word true = codes "1"

-- How a number, or `off`, is written.
abbrev pub number_or_off_word : NumberOrOff → List ℕ
number_or_off_word (value.Number n) = decimal n
number_or_off_word value.Off = codes "off"

-- The number, if there is one, is below 2^64.
abbrev pub IsNumberOrOff : NumberOrOff → Type 0
IsNumberOrOff (value.Number n) = IsNumber n
IsNumberOrOff value.Off = Unit {0}

-- The words of the options that are named, one for each.
abbrev pub service_words : ServiceOptions → List (List ℕ)
service_words (options.PublishSubscribe o) = option_words
    (codes "subscribers=" ∷ codes "publishers=" ∷ codes "nodes=" ∷ codes "buffer=" ∷ codes "borrowed="
    ∷ codes "history=" ∷ codes "overflow=" ∷ codes "sequence=" ∷ [])
    (option_map decimal o.max_subscribers ∷ option_map decimal o.max_publishers ∷ option_map decimal o.max_nodes
    ∷ option_map decimal o.subscriber_max_buffer_size ∷ option_map decimal o.subscriber_max_borrowed_samples
    ∷ option_map decimal o.history_size
    ∷ option_map switch_word o.enable_safe_overflow ∷ option_map switch_word o.sequence_numbers ∷ [])
service_words (options.Event o) = option_words
    (codes "notifiers=" ∷ codes "listeners=" ∷ codes "nodes=" ∷ codes "maxid=" ∷ codes "deadline=" ∷ codes "created="
    ∷ codes "dropped=" ∷ codes "dead="
    ∷ [])
    (option_map decimal o.max_notifiers ∷ option_map decimal o.max_listeners ∷ option_map decimal o.max_nodes
    ∷ option_map decimal o.event_id_max_value
    ∷ option_map number_or_off_word o.deadline ∷ option_map number_or_off_word o.notifier_created_event
    ∷ option_map number_or_off_word o.notifier_dropped_event ∷ option_map number_or_off_word o.notifier_dead_event ∷ [])
service_words (options.RequestResponse o) = option_words
    (codes "servers=" ∷ codes "clients=" ∷ codes "nodes=" ∷ codes "buffer=" ∷ codes "borrowed=" ∷ codes "active="
    ∷ codes "loans="
    ∷ codes "overflow_requests=" ∷ codes "overflow_responses=" ∷ codes "fire=" ∷ [])
    (option_map decimal o.max_servers ∷ option_map decimal o.max_clients ∷ option_map decimal o.max_nodes
    ∷ option_map decimal o.max_response_buffer_size
    ∷ option_map decimal o.max_borrowed_responses_per_pending_response ∷ option_map decimal o.max_active_requests_per_client
    ∷ option_map decimal o.max_loaned_requests ∷ option_map switch_word o.enable_safe_overflow_for_requests
    ∷ option_map switch_word o.enable_safe_overflow_for_responses ∷ option_map switch_word o.enable_fire_and_forget_requests ∷ [])

-- The numbers of the options are below 2^64.
abbrev pub ServiceFits : ServiceOptions → Type 0
ServiceFits (options.PublishSubscribe o) = IfSome o.max_subscribers IsNumber × IfSome o.max_publishers IsNumber
    × IfSome o.max_nodes IsNumber
    × IfSome o.subscriber_max_buffer_size IsNumber
    × IfSome o.subscriber_max_borrowed_samples IsNumber × IfSome o.history_size IsNumber
ServiceFits (options.Event o) = IfSome o.max_notifiers IsNumber × IfSome o.max_listeners IsNumber × IfSome o.max_nodes IsNumber
    × IfSome o.event_id_max_value IsNumber
    × IfSome o.deadline IsNumberOrOff
    × IfSome o.notifier_created_event IsNumberOrOff × IfSome o.notifier_dropped_event IsNumberOrOff
    × IfSome o.notifier_dead_event IsNumberOrOff
ServiceFits (options.RequestResponse o) = IfSome o.max_servers IsNumber × IfSome o.max_clients IsNumber × IfSome o.max_nodes IsNumber
    × IfSome o.max_response_buffer_size IsNumber
    × IfSome o.max_borrowed_responses_per_pending_response IsNumber × IfSome o.max_active_requests_per_client IsNumber
    × IfSome o.max_loaned_requests IsNumber

-- The words name the service: its node, its pattern, its name, its options in any order, and then the words of attributes and of lists of
-- actions.
abbrev pub Names : ℕ → List ℕ → ServiceOptions → List (List ℕ) → List (List ℕ) → List (List ℕ) → Type 0
Names node name options attributes lists words = (chosen : List (List ℕ)) × AnyOrder chosen (service_words options)
    × (words ≡ (codes "n" ++ decimal node) ∷ pattern_word (pattern_of options) ∷ name ∷ (chosen ++ (attributes ++ lists)))
