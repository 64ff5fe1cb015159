-- The limits that a service sets for its ports.
use Rattle.std.specs.Prelude.{ℕ, ◌+◌, ◌*◌, ◌^◌, max, nat_le, nat_lt, Option, None, Some, Result, Ok, Err, if◌then◌else◌}
use Rattle.iox_domain_values.specs.declared.create_error.SubscriberCreateError.{SubscriberCreateError}
use Rattle.iox_domain_values.specs.declared.create_error.SubscriberCreateError.TheVariants as refusal
use Rattle.iox_domain_values.specs.declared.service_sizes.ServiceSizes.{ServiceSizes}

-- How many messages of a publisher can be in use at once: all that may wait for and be held by the maximum number of
-- subscribers, the history, and the loans.
abbrev pub worst_case : ServiceSizes → ℕ → ℕ
worst_case sizes loans =
    sizes.max_subscribers * (sizes.subscriber_max_buffer_size + sizes.subscriber_max_borrowed_samples) + (sizes.history_size + loans)

-- The number, if it is at most 2^32 - 1.
abbrev pub within : ℕ → Option ℕ
within number = if nat_lt number (2 ^ 32) then Some number else None

-- How many messages of a publisher may wait for a subscriber: as many as the subscriber asks for, at least 1 and at most the
-- service's limit, or that limit if it doesn't ask. Asking for more is an error.
abbrev pub buffer_of : Option ℕ → ServiceSizes → Result ℕ SubscriberCreateError
buffer_of None sizes = Ok sizes.subscriber_max_buffer_size
buffer_of (Some named) sizes = if nat_le (max named 1) sizes.subscriber_max_buffer_size then Ok (max named 1) else Err
    refusal.BufferSizeExceedsMaxSupportedBufferSizeOfService
