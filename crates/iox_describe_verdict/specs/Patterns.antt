-- The settings of each pattern, converted from those of any pattern.
use Rattle.std.specs.Prelude.{◌≡◌, ◌≤◌, ◌<◌, ◌^◌, Option, Some, None}
use Rattle.std.proofs.Common.{ap, arith}
use Rattle.iox_describe_settings.specs.declared.static_config.Settings.{Settings}
use Rattle.iox_describe_settings.specs.declared.static_config.Settings.TheVariants.{RequestResponse, PublishSubscribe, Event}
use Rattle.iox_describe_settings.specs.declared.static_config.request_response.StaticConfig as request_response
use Rattle.iox_describe_settings.specs.declared.static_config.publish_subscribe.StaticConfig as publish_subscribe
use Rattle.iox_describe_settings.specs.declared.static_config.event.StaticConfig as event
use Rattle.iox_describe_settings.specs.declared.static_config.request_response.Setting.TheVariants as request_response_setting
use Rattle.iox_describe_settings.specs.declared.static_config.publish_subscribe.Setting.TheVariants as publish_subscribe_setting
use Rattle.iox_describe_settings.specs.declared.static_config.event.Setting.TheVariants as event_setting
use Rattle.iox_describe_settings.specs.Agreement.{max_nodes_of, AreWithinLimits}

-- The settings, if they are those of a publish-subscribe service.
abbrev pub publish_subscribe_of : Settings → Option publish_subscribe.StaticConfig
publish_subscribe_of (RequestResponse c) = None
publish_subscribe_of (PublishSubscribe c) = Some c
publish_subscribe_of (Event c) = None

-- The settings, if they are those of an event service.
abbrev pub event_of : Settings → Option event.StaticConfig
event_of (RequestResponse c) = None
event_of (PublishSubscribe c) = None
event_of (Event c) = Some c

-- The settings, if they are those of a request-response service.
abbrev pub request_response_of : Settings → Option request_response.StaticConfig
request_response_of (RequestResponse c) = Some c
request_response_of (PublishSubscribe c) = None
request_response_of (Event c) = None

-- If settings are those of a publish-subscribe service, converting them back gives the same settings.
pub found_publish_subscribe : (s : Settings) (c : publish_subscribe.StaticConfig) → publish_subscribe_of s ≡ Some c → PublishSubscribe c ≡ s
found_publish_subscribe (RequestResponse d) c h = absurd cc
found_publish_subscribe (PublishSubscribe d) c h = ap PublishSubscribe (let k : c ≡ d = cc in k)
found_publish_subscribe (Event d) c h = absurd cc

-- If settings are those of an event service, converting them back gives the same settings.
pub found_event : (s : Settings) (c : event.StaticConfig) → event_of s ≡ Some c → Event c ≡ s
found_event (RequestResponse d) c h = absurd cc
found_event (PublishSubscribe d) c h = absurd cc
found_event (Event d) c h = ap Event (let k : c ≡ d = cc in k)

-- If settings are those of a request-response service, converting them back gives the same settings.
pub found_request_response : (s : Settings) (c : request_response.StaticConfig) → request_response_of s ≡ Some c → RequestResponse c ≡ s
found_request_response (RequestResponse d) c h = ap RequestResponse (let k : c ≡ d = cc in k)
found_request_response (PublishSubscribe d) c h = absurd cc
found_request_response (Event d) c h = absurd cc

-- Settings within the limits have at least 1 node and fewer than 2^24.
pub has_nodes : (s : Settings) → AreWithinLimits s → (1 ≤ max_nodes_of s) × (max_nodes_of s < 2 ^ 24)
has_nodes (RequestResponse c) h = h 7 request_response_setting.MaxNodes (omega arith)
has_nodes (PublishSubscribe c) h = h 2 publish_subscribe_setting.MaxNodes (omega arith)
has_nodes (Event c) h = h 3 event_setting.MaxNodes (omega arith)
