-- The settings that are asked for are within the limits of the machine just if they are within those of a description.
use Rattle.std.proofs.Common.{◌≡◌, ◌≤◌, Bool, true, false, ◌&&◌, refl, arith}
use Rattle.std.proofs.lemmas.Bool.{ltb-true, lt-ltb}
use Rattle.std.proofs.lemmas.List.Elements.{All-from_recursion}
use Rattle.iox_command.specs.NegotiateBase.DescribeBase.declared.message_type.MessageTypeDetails.{MessageTypeDetails}
use Rattle.iox_command.specs.NegotiateBase.DescribeSettings.Agreement.{AreWithinLimits}
use Rattle.iox_command.specs.NegotiateBase.DescribeSettings.EventSettings as event
use Rattle.iox_command.specs.NegotiateBase.DescribeSettings.PublishSubscribeSettings as publish_subscribe
use Rattle.iox_command.specs.NegotiateBase.DescribeSettings.RequestResponseSettings as request_response
use Rattle.iox_command.specs.NegotiateBase.DescribeSettings.Setting.{IsAllowed}
use Rattle.iox_command.specs.NegotiateBase.DescribeSettings.declared.static_config.Settings.{Settings}
use Rattle.iox_command.specs.NegotiateBase.DescribeSettings.declared.static_config.Settings.TheVariants as settings
use Rattle.iox_command.specs.NegotiateBase.DescribeSettings.declared.static_config.event.Setting.TheVariants as event_setting
use Rattle.iox_command.specs.NegotiateBase.DescribeSettings.declared.static_config.publish_subscribe.Setting.TheVariants as
    publish_subscribe_setting
use Rattle.iox_command.specs.NegotiateBase.DescribeSettings.declared.static_config.request_response.Setting.TheVariants as
    request_response_setting
use Rattle.iox_command.specs.declared.service.ServiceOptions.{ServiceOptions}
use Rattle.iox_command.specs.declared.service.ServiceOptions.TheVariants as options
use Rattle.iox_machine.specs.Agreement.{are_within_limits}
use Rattle.iox_machine.specs.Asked.{settings_of}
use Rattle.iox_negotiate.proofs.Maps.{no}

pub both : (b c : Bool) → (b && c) ≡ true → (b ≡ true) × (c ≡ true)
both true c is = (refl, is)
both false c is = no is

pub and-true : (b c : Bool) → b ≡ true → c ≡ true → (b && c) ≡ true
and-true true c is also = also
and-true false c is also = is

-- each number is one at least where 0 can't serve
abbrev CanServe : Settings → Type 0
CanServe (settings.PublishSubscribe c) =
    (1 ≤ c.max_nodes) × (1 ≤ c.max_publishers) × (1 ≤ c.max_subscribers) × (1 ≤ c.subscriber_max_borrowed_samples)
    × (1 ≤ c.subscriber_max_buffer_size)
CanServe (settings.Event c) = (1 ≤ c.max_listeners) × (1 ≤ c.max_nodes) × (1 ≤ c.max_notifiers)
CanServe (settings.RequestResponse c) =
    (1 ≤ c.max_active_requests_per_client) × (1 ≤ c.max_borrowed_responses_per_pending_response) × (1 ≤ c.max_clients)
    × (1 ≤ c.max_loaned_requests) × (1 ≤ c.max_nodes) × (1 ≤ c.max_response_buffer_size) × (1 ≤ c.max_servers)

can-serve : (types : MessageTypeDetails) (named : ServiceOptions) → CanServe (settings_of types named)
can-serve types (options.PublishSubscribe named) = (omega arith, omega arith, omega arith, omega arith, omega arith)
can-serve types (options.Event named) = (omega arith, omega arith, omega arith)
can-serve types (options.RequestResponse named) =
    (omega arith, omega arith, omega arith, omega arith, omega arith, omega arith, omega arith)

limits-there : (s : Settings) → CanServe s → are_within_limits s ≡ true → AreWithinLimits s
limits-there (settings.PublishSubscribe c) (nodes, publishers, subscribers, borrowed, buffer) is =
    let below_nodes = both _ _ is in
    let below_publishers = both _ _ below_nodes.1 in
    let below_subscribers = both _ _ below_publishers.1 in
    let below_buffer = both _ _ below_subscribers.1 in
    let below_borrowed = both _ _ below_buffer.1 in
    All-from_recursion (λ setting. IsAllowed (publish_subscribe.rule setting) (publish_subscribe.value setting c)) publish_subscribe.all (
      tt,
      (
        (omega arith, ltb-true _ _ below_borrowed.1),
        (
          (nodes, ltb-true _ _ below_nodes.0),
          (
            (publishers, ltb-true _ _ below_publishers.0),
            (
              (subscribers, ltb-true _ _ below_subscribers.0),
              (tt, ((borrowed, ltb-true _ _ below_borrowed.0), ((buffer, ltb-true _ _ below_buffer.0), (tt, tt)))),
            ),
          ),
        ),
      ),
    )
limits-there (settings.Event c) (listeners, nodes, notifiers) is =
    All-from_recursion (λ setting. IsAllowed (event.rule setting) (event.value setting c)) event.all
    (tt, ((omega arith, tt), ((listeners, tt), ((nodes, ltb-true _ _ is), ((notifiers, tt), (tt, (tt, (tt, tt))))))))
limits-there (settings.RequestResponse c) (active, borrowed, clients, loaned, nodes, buffer, servers) is =
    All-from_recursion (λ setting. IsAllowed (request_response.rule setting) (request_response.value setting c)) request_response.all (
      tt,
      (
        tt,
        (
          tt,
          (
            (active, tt),
            (
              (borrowed, tt),
              (
                (clients, tt),
                ((loaned, tt), ((nodes, ltb-true _ _ is), ((buffer, tt), ((servers, tt), (tt, (tt, tt)))))),
              ),
            ),
          ),
        ),
      ),
    )

-- what is asked for is within the limits of a description where it is within those of the machine
pub limits-within : (types : MessageTypeDetails) (named : ServiceOptions) → are_within_limits (settings_of types named) ≡ true
    → AreWithinLimits (settings_of types named)
limits-within types named = limits-there (settings_of types named) (can-serve types named)

-- and back, whatever is asked for
pub limits-back : (s : Settings) → AreWithinLimits s → are_within_limits s ≡ true
limits-back (settings.PublishSubscribe c) within =
    and-true _ _ (lt-ltb _ _ (within 2 publish_subscribe_setting.MaxNodes (omega arith)).1)
    (and-true _ _ (lt-ltb _ _ (within 3 publish_subscribe_setting.MaxPublishers (omega arith)).1)
    (and-true _ _ (lt-ltb _ _ (within 4 publish_subscribe_setting.MaxSubscribers (omega arith)).1)
    (and-true _ _ (lt-ltb _ _ (within 7 publish_subscribe_setting.SubscriberMaxBufferSize (omega arith)).1)
    (and-true _ _ (lt-ltb _ _ (within 6 publish_subscribe_setting.SubscriberMaxBorrowedSamples (omega arith)).1)
    (lt-ltb _ _ (within 1 publish_subscribe_setting.HistorySize (omega arith)).1)))))
limits-back (settings.Event c) within = lt-ltb _ _ (within 3 event_setting.MaxNodes (omega arith)).1
limits-back (settings.RequestResponse c) within = lt-ltb _ _ (within 7 request_response_setting.MaxNodes (omega arith)).1
