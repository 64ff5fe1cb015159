-- What a command asks of a service, by the options that it names.
use Rattle.std.specs.Prelude.{ℕ, List, Option, None, Some, codes}
use Rattle.std.specs.Option.{option_map}
use Rattle.iox_command.specs.declared.service.EventOptions.{EventOptions}
use Rattle.iox_command.specs.declared.service.NumberOrOff.{NumberOrOff}
use Rattle.iox_command.specs.declared.service.NumberOrOff.TheVariants.{Number, Off}
use Rattle.iox_command.specs.declared.service.PublishSubscribeOptions.{PublishSubscribeOptions}
use Rattle.iox_command.specs.declared.service.RequestResponseOptions.{RequestResponseOptions}
use Rattle.iox_negotiate_table.specs.DescribeBase.Attributes.{Required}
use Rattle.iox_negotiate_table.specs.DescribeBase.declared.message_type.MessageTypeDetails.{MessageTypeDetails}
use Rattle.iox_negotiate_table.specs.DescribeBase.declared.type_detail.TypeVariant.TheVariants.{FixedSize, Dynamic}
use Rattle.iox_describe_verdict.specs.declared.requirement.event.Requirement.{Requirement as EventRequirement}
use Rattle.iox_describe_verdict.specs.declared.requirement.publish_subscribe.Requirement.{Requirement as PublishSubscribeRequirement}
use Rattle.iox_describe_verdict.specs.declared.requirement.request_response.Requirement.{Requirement as RequestResponseRequirement}

-- The types of messages that are slices of values with this name, size and alignment, and have a user header with this name, size and
-- alignment.
abbrev pub types_of : List ℕ → ℕ → ℕ → List ℕ → ℕ → ℕ → MessageTypeDetails
types_of name size alignment header_name header_size header_alignment = record {
  header = record { variant = FixedSize; name = codes "Header"; size = 24; alignment = 8 };
  user_header = record { variant = FixedSize; name = header_name; size = header_size; alignment = header_alignment };
  payload = record { variant = Dynamic; name = name; size = size; alignment = alignment };
}

-- The value of a setting that can be off: a number, or none.
abbrev pub set_to : NumberOrOff → Option ℕ
set_to (Number number) = Some number
set_to Off = None

-- The requirement on a publish-subscribe service: each setting that is named, and these attributes.
abbrev pub required_publish_subscribe : PublishSubscribeOptions → MessageTypeDetails → Required → PublishSubscribeRequirement
required_publish_subscribe options types attributes = record {
  types = types;
  attributes = attributes;
  enable_safe_overflow = options.enable_safe_overflow;
  sequence_numbers = options.sequence_numbers;
  max_publishers = options.max_publishers;
  max_subscribers = options.max_subscribers;
  subscriber_max_buffer_size = options.subscriber_max_buffer_size;
  history_size = options.history_size;
  subscriber_max_borrowed_samples = options.subscriber_max_borrowed_samples;
  max_nodes = options.max_nodes;
}

-- The requirement on an event service: each setting that is named, and these attributes.
abbrev pub required_event : EventOptions → Required → EventRequirement
required_event options attributes = record {
  attributes = attributes;
  deadline = option_map set_to options.deadline;
  max_notifiers = options.max_notifiers;
  max_listeners = options.max_listeners;
  event_id_max_value = options.event_id_max_value;
  notifier_created_event = option_map set_to options.notifier_created_event;
  notifier_dropped_event = option_map set_to options.notifier_dropped_event;
  notifier_dead_event = option_map set_to options.notifier_dead_event;
  max_nodes = options.max_nodes;
}

-- The requirement on a request-response service: each setting that is named, and these attributes. Requests and responses have the same
-- types.
abbrev pub required_request_response : RequestResponseOptions → MessageTypeDetails → Required → RequestResponseRequirement
required_request_response options types attributes = record {
  request_types = types;
  response_types = types;
  attributes = attributes;
  enable_safe_overflow_for_requests = options.enable_safe_overflow_for_requests;
  enable_safe_overflow_for_responses = options.enable_safe_overflow_for_responses;
  enable_fire_and_forget_requests = options.enable_fire_and_forget_requests;
  max_loaned_requests = options.max_loaned_requests;
  max_active_requests_per_client = options.max_active_requests_per_client;
  max_response_buffer_size = options.max_response_buffer_size;
  max_servers = options.max_servers;
  max_clients = options.max_clients;
  max_borrowed_responses_per_pending_response = options.max_borrowed_responses_per_pending_response;
  max_nodes = options.max_nodes;
}
