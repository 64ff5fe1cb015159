-- Settings that aren't named have their defaults, for each pattern.
use Rattle.std.proofs.Common.{Option, None, Some, refl, arith}
use Rattle.iox_machine.proofs.Called.{named-or}
use Rattle.iox_machine.proofs.Phases.{creates-as-described}
use Rattle.iox_machine.specs.Asked.{number_unless_off, settings_of}
use Rattle.iox_machine.specs.Choices.{Choices}
use Rattle.iox_machine.specs.DefaultLaws.{CreatesAsAsked, IsNamedOrOff, SettingsAreAsked}
use Rattle.iox_command.specs.declared.service.NumberOrOff.{NumberOrOff}
use Rattle.iox_command.specs.declared.service.NumberOrOff.TheVariants.{Number, Off}
use Rattle.iox_command.specs.declared.service.ServiceOptions.TheVariants as options

named-or-off : (named : Option NumberOrOff) → IsNamedOrOff named (number_unless_off named)
named-or-off None = refl
named-or-off (Some (Number number)) = refl
named-or-off (Some Off) = refl

pub settings-are-asked : SettingsAreAsked
settings-are-asked types (options.PublishSubscribe named) = (
  refl,
  refl,
  named-or 2 named.max_publishers (omega arith),
  named-or 8 named.max_subscribers (omega arith),
  refl,
  named-or 2 named.subscriber_max_buffer_size (omega arith),
  refl,
  named-or 2 named.subscriber_max_borrowed_samples (omega arith),
  named-or 20 named.max_nodes (omega arith),
)
settings-are-asked types (options.Event named) = (
  named-or-off named.deadline,
  named-or 16 named.max_notifiers (omega arith),
  named-or 16 named.max_listeners (omega arith),
  refl,
  named-or-off named.notifier_created_event,
  named-or-off named.notifier_dropped_event,
  named-or-off named.notifier_dead_event,
  named-or 36 named.max_nodes (omega arith),
)
settings-are-asked types (options.RequestResponse named) = (
  refl,
  refl,
  refl,
  refl,
  refl,
  named-or 2 named.max_loaned_requests (omega arith),
  named-or 4 named.max_active_requests_per_client (omega arith),
  named-or 2 named.max_response_buffer_size (omega arith),
  named-or 2 named.max_servers (omega arith),
  named-or 8 named.max_clients (omega arith),
  named-or 2 named.max_borrowed_responses_per_pending_response (omega arith),
  named-or 20 named.max_nodes (omega arith),
)

pub creates-as-asked : {T : Type 0} (choices : Choices T) → CreatesAsAsked choices
creates-as-asked choices types buffer node name named attributes steps old number new h =
    let came = creates-as-described choices types buffer node name named attributes steps old number new h in
    (came.0, settings_of types named, came.2, settings-are-asked types named)
