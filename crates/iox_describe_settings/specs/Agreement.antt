-- What the nodes of a service agree on.
use Rattle.std.specs.Prelude.{ℕ, List}
use Rattle.iox_describe_base.specs.declared.attribute.Attribute.{Attribute}
use Rattle.iox_describe_base.specs.declared.hash.ServiceHash.{ServiceHash}
use Rattle.iox_describe_base.specs.declared.pattern.MessagingPattern.{MessagingPattern}
use Rattle.iox_describe_base.specs.declared.pattern.MessagingPattern.TheVariants as pattern
use Rattle.iox_describe_settings.specs.declared.static_config.Settings.{Settings}
use Rattle.iox_describe_settings.specs.declared.static_config.Settings.TheVariants.{RequestResponse, PublishSubscribe, Event}
use Rattle.iox_describe_settings.specs.RequestResponseSettings as request_response
use Rattle.iox_describe_settings.specs.PublishSubscribeSettings as publish_subscribe
use Rattle.iox_describe_settings.specs.EventSettings as event

-- What the nodes of a service agree on: its name, hash, settings and attributes.
pub record Agreement : Type 0 where
  pub name : List ℕ
  pub service_hash : ServiceHash
  pub settings : Settings
  pub attributes : List Attribute

-- An agreement with these parts.
abbrev pub agreement : List ℕ → ServiceHash → Settings → List Attribute → Agreement
agreement name service_hash settings attributes =
    record { name = name; service_hash = service_hash; settings = settings; attributes = attributes }

-- The messaging pattern of the settings.
abbrev pub pattern_of : Settings → MessagingPattern
pattern_of (RequestResponse c) = pattern.RequestResponse
pattern_of (PublishSubscribe c) = pattern.PublishSubscribe
pattern_of (Event c) = pattern.Event

-- The maximum number of nodes of the service.
abbrev pub max_nodes_of : Settings → ℕ
max_nodes_of (RequestResponse c) = c.max_nodes
max_nodes_of (PublishSubscribe c) = c.max_nodes
max_nodes_of (Event c) = c.max_nodes

-- The numbers in the settings are within the limits of a description.
abbrev pub AreWithinLimits : Settings → Type 0
AreWithinLimits (RequestResponse c) = request_response.IsWithinLimits c
AreWithinLimits (PublishSubscribe c) = publish_subscribe.IsWithinLimits c
AreWithinLimits (Event c) = event.IsWithinLimits c

-- The history doesn't fit into a buffer that blocks the publisher when it is full; only publish-subscribe has a history.
abbrev pub HasNoRoomForHistory : Settings → Type 0
HasNoRoomForHistory (RequestResponse c) = ⊥
HasNoRoomForHistory (PublishSubscribe c) = publish_subscribe.IsHistoryTooLong c
HasNoRoomForHistory (Event c) = ⊥
