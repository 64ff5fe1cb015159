-- How publishers and subscribers are created.
use Rattle.std.specs.Prelude.{ℕ, ◌+◌, ◌*◌, ◌^◌, ◌≡◌, ◌⊎◌, ◌||◌, true, false, nat_lt, nat_le, min, max, [], ◌∷◌, ◌++◌, replicate, set}
use Rattle.std.specs.Prelude.{slice_get, None, Some, is_some, unwrap_or, MatchBool, if◌then◌else◌}
use Rattle.std.specs.List.{list_all}
use Rattle.iox_machine.specs.PublisherUpdate as publishing
use Rattle.iox_machine.specs.Service.{Service, Publisher, Subscriber}
use Rattle.iox_machine.specs.SubscriberUpdate as subscribing
use Rattle.iox_machine.specs.Replies.{OnlyAnswers}
use Rattle.iox_command.specs.DomainValues.declared.backpressure_strategy.BackpressureStrategy.TheVariants.{RetryUntilDelivered}
use Rattle.iox_command.specs.DomainValues.declared.create_error.PublisherCreateError.TheVariants as publisher_error
use Rattle.iox_command.specs.DomainValues.declared.create_error.SubscriberCreateError.TheVariants as subscriber_error
use Rattle.iox_command.specs.DomainValues.declared.data_segment.AllocationStrategy.TheVariants.{Static}
use Rattle.iox_command.specs.DomainValues.declared.degradation.DegradationAction.TheVariants.{Warn}
use Rattle.iox_command.specs.NegotiateBase.DescribeSettings.declared.static_config.publish_subscribe.StaticConfig.{StaticConfig}
use Rattle.iox_command.specs.declared.port.PublisherOptions.{PublisherOptions}
use Rattle.iox_command.specs.declared.port.SubscriberOptions.{SubscriberOptions}
use Rattle.iox_command.specs.declared.refusal.Refusal.TheVariants as refusal
use Rattle.iox_command.specs.declared.reply.Reply.{Reply}
use Rattle.iox_command.specs.declared.reply.Reply.TheVariants as reply

-- The maximum number of messages of a publisher that are in use at once: those that may wait for each subscriber or be borrowed by it, the
-- history, and the loans.
abbrev pub worst_case : StaticConfig → ℕ → ℕ
worst_case settings loans =
    settings.max_subscribers * (settings.subscriber_max_buffer_size + settings.subscriber_max_borrowed_samples) +
    (settings.history_size + loans)

-- A subscriber that isn't connected yet; its buffer size is the one that was named, or the service's, but at least 1.
abbrev pub new_subscriber : ℕ → SubscriberOptions → StaticConfig → Subscriber
new_subscriber factory options settings = record {
  factory = factory;
  stands = true;
  buffer_size = max 1 (unwrap_or options.buffer_size settings.subscriber_max_buffer_size);
  degradation = unwrap_or options.degradation_handler Warn;
  seen = 0;
  again = false;
  connected = replicate settings.max_publishers None;
  expired = [];
}

module _ {T : Type 0} where
  -- A publisher that isn't connected yet; its number of slots is what the worst case needs, or what was named if that is fewer, but at
  -- least 1.
  abbrev pub new_publisher : ℕ → PublisherOptions → StaticConfig → Publisher T
  new_publisher factory options settings =
      let loans = unwrap_or options.max_loaned_samples 2 in
      record {
        factory = factory;
        stands = true;
        max_loaned_samples = loans;
        strategy = unwrap_or options.backpressure_strategy RetryUntilDelivered;
        handler = options.backpressure_handler;
        degradation = unwrap_or options.degradation_handler Warn;
        allocation = unwrap_or options.allocation_strategy Static;
        slots = max 1 (min (worst_case settings loans) (unwrap_or options.preallocated_samples (worst_case settings loans)));
        room = unwrap_or options.initial_max_slice_len 1;
        segments = 1;
        first = 1;
        next = 1;
        last_sequence = if settings.sequence_numbers then Some 0 else None;
        history = [];
        seen = 0;
        connected = replicate settings.max_subscribers None;
        blocked = None;
      }

  -- A publisher is created: it follows the list of subscribers, and is registered at any free place. It is refused if it needs too many
  -- slots or too long ones, if no place is free, or if memory runs out; the first of these is the reason. A connection that fails doesn't
  -- prevent its creation.
  abbrev pub PublisherArrives : ℕ → Publisher T → Service T → Reply T → Service T → Type 0
  PublisherArrives number publisher old answer new =
      MatchBool (nat_le (2 ^ 32) (worst_case old.settings publisher.max_loaned_samples) || nat_le (2 ^ 32) publisher.room)
      (OnlyAnswers (reply.Refused (refusal.Publisher publisher_error.UnableToCreateDataSegment)) old answer new)
      (MatchBool (list_all is_some old.publisher_list.places)
      (OnlyAnswers (reply.Refused (refusal.Publisher publisher_error.ExceedsMaxSupportedPublishers)) old answer new)
      ((OnlyAnswers (reply.Refused (refusal.Publisher publisher_error.UnableToCreateDataSegment)) old answer new)
      ⊎ ((place : ℕ) × (slice_get old.publisher_list.places place ≡ Some None) × (after : Publisher T) × (mid : Service T)
      × publishing.Follows number publisher (record old { publishers = old.publishers ++ (number, publisher) ∷ [] }) after mid
      × (answer ≡ reply.PublisherMade number)
      × (new ≡ record mid {
        publisher_list = record {
          places = set mid.publisher_list.places place (Some number);
          changes = mid.publisher_list.changes + 1;
        };
      }))))

  -- A subscriber is created: it follows the list of publishers, and is registered at any free place. It is refused if its buffer is larger
  -- than the service allows, if no place is free, or if memory runs out; the first of these is the reason. A connection that fails doesn't
  -- prevent its creation.
  abbrev pub SubscriberArrives : ℕ → ℕ → Subscriber → Service T → Reply T → Service T → Type 0
  SubscriberArrives buffer number subscriber old answer new =
      MatchBool (nat_lt old.settings.subscriber_max_buffer_size subscriber.buffer_size)
      (OnlyAnswers (reply.Refused (refusal.Subscriber subscriber_error.BufferSizeExceedsMaxSupportedBufferSizeOfService)) old answer new)
      (MatchBool (list_all is_some old.subscriber_list.places)
      (OnlyAnswers (reply.Refused (refusal.Subscriber subscriber_error.ExceedsMaxSupportedSubscribers)) old answer new)
      ((OnlyAnswers (reply.Refused (refusal.Subscriber subscriber_error.OutOfMemory)) old answer new)
      ⊎ ((place : ℕ) × (slice_get old.subscriber_list.places place ≡ Some None) × (after : Subscriber) × (mid : Service T)
      × subscribing.Follows buffer number subscriber (record old { subscribers = old.subscribers ++ (number, subscriber) ∷ [] }) after mid
      × (answer ≡ reply.SubscriberMade number)
      × (new ≡ record mid {
        subscriber_list = record {
          places = set mid.subscriber_list.places place (Some number);
          changes = mid.subscriber_list.changes + 1;
        };
      }))))
