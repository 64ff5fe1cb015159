-- Which ports are refused.
use Rattle.std.specs.Prelude.{ℕ, ◌+◌, ◌*◌, ◌^◌, ◌<◌, ◌≤◌, ◌≡◌, ◌⊎◌, true, false, find, slice_get, Option, None, Some, is_some, max}
use Rattle.std.specs.Prelude.{unwrap_or}
use Rattle.iox_machine.specs.Choices.{Choices}
use Rattle.iox_machine.specs.Named.{has_named}
use Rattle.iox_machine.specs.OnceLaws.{is_skipped}
use Rattle.iox_machine.specs.PortList.{PortList}
use Rattle.iox_machine.specs.Run.{Step}
use Rattle.iox_machine.specs.Service.{Service}
use Rattle.iox_machine.specs.State.{State}
use Rattle.iox_command.specs.DomainValues.declared.create_error.PublisherCreateError.TheVariants as publisher_error
use Rattle.iox_command.specs.DomainValues.declared.create_error.SubscriberCreateError.TheVariants as subscriber_error
use Rattle.iox_command.specs.NegotiateBase.DescribeBase.declared.message_type.MessageTypeDetails.{MessageTypeDetails}
use Rattle.iox_command.specs.NegotiateBase.DescribeSettings.declared.static_config.publish_subscribe.StaticConfig.{StaticConfig}
use Rattle.iox_command.specs.declared.command.Command.TheVariants as command
use Rattle.iox_command.specs.declared.port.PublisherOptions.{PublisherOptions}
use Rattle.iox_command.specs.declared.port.SubscriberOptions.{SubscriberOptions}
use Rattle.iox_command.specs.declared.refusal.Refusal.TheVariants as refusal
use Rattle.iox_command.specs.declared.reply.Reply.{Reply}
use Rattle.iox_command.specs.declared.reply.Reply.TheVariants as reply

-- A port is listed at each place of the list.
abbrev pub IsFullyTaken : PortList → Type 0
IsFullyTaken list = (place : ℕ) (port : Option ℕ) → slice_get list.places place ≡ Some port → is_some port ≡ true

-- Some place of the list is free.
abbrev pub HasFreePlace : PortList → Type 0
HasFreePlace list = (place : ℕ) × (slice_get list.places place ≡ Some None)

-- A publisher of these options is too large for a service of these settings: what each subscriber may have waiting and borrowed, the
-- history and the loans are 2^32 messages or more, or a message is to have 2^32 values or more.
abbrev pub IsTooLarge : PublisherOptions → StaticConfig → Type 0
IsTooLarge named settings =
    (2 ^ 32 ≤ settings.max_subscribers * (settings.subscriber_max_buffer_size + settings.subscriber_max_borrowed_samples)
    + (settings.history_size + unwrap_or named.max_loaned_samples 2))
    ⊎ (2 ^ 32 ≤ unwrap_or named.initial_max_slice_len 1)

module _ {T : Type 0} (choices : Choices T) where
  -- A publisher is refused if it is too large; or else if each place is taken, and by that name; otherwise it gets the next number, or
  -- memory runs out.
  abbrev pub PublishersAreRefusedSo : Type 0
  PublishersAreRefusedSo = (types : MessageTypeDetails) (buffer factory : ℕ) (named : PublisherOptions) (old : State T) (answer : Reply T)
      (new : State T) → is_skipped answer ≡ false → Step types choices buffer (command.Publisher factory named) old answer new
      → (service : Service T) × (find (has_named old.factories (command.Publisher factory named)) old.services ≡ Some service)
      × ((IsTooLarge named service.settings × (answer ≡ reply.Refused (refusal.Publisher publisher_error.UnableToCreateDataSegment)))
      ⊎ (((IsTooLarge named service.settings → ⊥) × IsFullyTaken service.publisher_list
      × (answer ≡ reply.Refused (refusal.Publisher publisher_error.ExceedsMaxSupportedPublishers)))
      ⊎ ((IsTooLarge named service.settings → ⊥) × HasFreePlace service.publisher_list
      × ((answer ≡ reply.PublisherMade (old.made.publishers + 1))
      ⊎ (answer ≡ reply.Refused (refusal.Publisher publisher_error.UnableToCreateDataSegment))))))

  -- A subscriber is refused if its buffer, of at least 1 message, is larger than the service allows; or else if each place is taken, and by
  -- that name; otherwise it gets the next number, or memory runs out.
  abbrev pub SubscribersAreRefusedSo : Type 0
  SubscribersAreRefusedSo = (types : MessageTypeDetails) (buffer factory : ℕ) (named : SubscriberOptions) (old : State T) (answer : Reply T)
      (new : State T) → is_skipped answer ≡ false → Step types choices buffer (command.Subscriber factory named) old answer new
      → (service : Service T) × (find (has_named old.factories (command.Subscriber factory named)) old.services ≡ Some service)
      × (let most = service.settings.subscriber_max_buffer_size in
      ((most < max 1 (unwrap_or named.buffer_size most))
      × (answer ≡ reply.Refused (refusal.Subscriber subscriber_error.BufferSizeExceedsMaxSupportedBufferSizeOfService)))
      ⊎ (((max 1 (unwrap_or named.buffer_size most) ≤ most) × IsFullyTaken service.subscriber_list
      × (answer ≡ reply.Refused (refusal.Subscriber subscriber_error.ExceedsMaxSupportedSubscribers)))
      ⊎ ((max 1 (unwrap_or named.buffer_size most) ≤ most) × HasFreePlace service.subscriber_list
      × ((answer ≡ reply.SubscriberMade (old.made.subscribers + 1))
      ⊎ (answer ≡ reply.Refused (refusal.Subscriber subscriber_error.OutOfMemory))))))
