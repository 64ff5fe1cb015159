-- What each command does to a hub and to the handlers that are left, and what the reply is.
use Rattle.std.specs.Prelude.{ℕ, ◌≡◌, List, Option, None, Some, Result}
use Rattle.std.specs.declared.alloc.AllocError.{AllocError}
use Rattle.iox_hub_commands.specs.Command.declared.port.PublisherOptions.{PublisherOptions}
use Rattle.iox_hub_commands.specs.Command.declared.port.SubscriberOptions.{SubscriberOptions}
use Rattle.iox_hub_commands.specs.Command.declared.reply.Reply.{Reply}
use Rattle.iox_hub_commands.specs.Command.declared.reply.Reply.TheVariants as reply
use Rattle.iox_hub_commands.specs.DomainValues.declared.backpressure.BackpressureAction.{BackpressureAction}
use Rattle.iox_hub_commands.specs.DomainValues.declared.backpressure_strategy.BackpressureStrategy.{BackpressureStrategy}
use Rattle.iox_hub_commands.specs.DomainValues.declared.degradation.DegradationAction.{DegradationAction}
use Rattle.iox_hub_commands.specs.DomainValues.declared.degradation.DegradationCause.{DegradationCause}
use Rattle.iox_hub_commands.specs.DomainValues.declared.degradation.DegradationInfo.{DegradationInfo}
use Rattle.iox_hub_commands.specs.Domain.declared.ports.service_ports.ServicePorts.{ServicePorts}
use Rattle.iox_hub_commands.specs.HubBase.AsHome.{hub_ports}
use Rattle.iox_hub_commands.specs.HubBase.Opening.{Made as Opened}
use Rattle.iox_hub_commands.specs.HubBase.declared.hub.Hub.{Hub}
use Rattle.iox_hub_commands.specs.Container.NumberTable.{value_at}
use Rattle.iox_hub_commands.specs.ServicesTables.{publish_subscribe_in}
use Rattle.iox_hub_commands.specs.Services.{MakesPublisher, MakesSubscriber, domain_of_factory}
use Rattle.iox_hub_commands.specs.CommandSteps.{IsReplied, Step}
use Rattle.iox_hub_commands.specs.declared.numbered_hub.NumberedHub.{NumberedHub}
use Rattle.iox_hub_commands.specs.Terms.{Terms}
use Rattle.iox_hub.specs.Places.{named, lies_at, backpressure_of, degradation_of, emptied, emptied_if}
use Rattle.iox_hub.specs.declared.given.GivenHandler.{GivenHandler}
use Rattle.iox_hub.specs.declared.handled_command.HandledCommand.{HandledCommand}
use Rattle.iox_hub.specs.declared.handled_command.HandledCommand.TheVariants as asked

-- The ports of a factory's service, if there is a publish-subscribe factory and its domain is in the hub.
abbrev pub ports_of_factory : {T U B D : Type 0} → Option Opened → Hub T U B D → Option (ServicePorts T U)
ports_of_factory None hub = None
ports_of_factory (Some opened) hub = hub_ports (domain_of_factory opened) hub

module _ {T U B D P : Type 0} where
  -- A publisher is created for the service of a factory with the named handlers, which are taken even if the publisher is refused. If one
  -- of the handlers or the ports of the service don't exist, the command is skipped, and nothing changes.
  abbrev pub PublisherTakes : (U → Type 0)
      → (BackpressureStrategy → Option BackpressureAction → DegradationAction → Option P → Option D → B)
      → (B → DegradationCause → DegradationInfo → DegradationAction → Type 0)
      → Option (Option P) → Option (Option D) → Option (ServicePorts T U) → ℕ → PublisherOptions → List (Option (GivenHandler P D))
      → NumberedHub T U B D × List (Option (GivenHandler P D)) → Reply T → NumberedHub T U B D × List (Option (GivenHandler P D)) → Type 0
  PublisherTakes is_default handled degrades None at_failure ports factory options fewer old answer new = (answer ≡ reply.Skipped)
      × (new ≡ old)
  PublisherTakes is_default handled degrades (Some at_full) None ports factory options fewer old answer new = (answer ≡ reply.Skipped)
      × (new ≡ old)
  PublisherTakes is_default handled degrades (Some at_full) (Some at_failure) None factory options fewer old answer new
      = (answer ≡ reply.Skipped) × (new ≡ old)
  PublisherTakes is_default handled degrades (Some at_full) (Some at_failure) (Some ports) factory options fewer old answer new =
      MakesPublisher is_default (λ strategy action degrading. handled strategy action degrading at_full at_failure) degrades factory
      options old.0 answer new.0 × (new.1 ≡ fewer)

  -- A subscriber is created for the service of a factory with the named handler, which is taken even if the subscriber is refused. If the
  -- handler or the ports of the service don't exist, the command is skipped, and nothing changes.
  abbrev pub SubscriberTakes : (D → DegradationCause → DegradationInfo → DegradationAction → Type 0) → Option D
      → Option (ServicePorts T U) → ℕ → SubscriberOptions → List (Option (GivenHandler P D))
      → NumberedHub T U B D × List (Option (GivenHandler P D)) → Reply T → NumberedHub T U B D × List (Option (GivenHandler P D)) → Type 0
  SubscriberTakes degrades None ports factory options fewer old answer new = (answer ≡ reply.Skipped) × (new ≡ old)
  SubscriberTakes degrades (Some handler) None factory options fewer old answer new = (answer ≡ reply.Skipped) × (new ≡ old)
  SubscriberTakes degrades (Some handler) (Some ports) factory options fewer old answer new =
      MakesSubscriber (λ action. handler) degrades factory options old.0 answer new.0 × (new.1 ≡ fewer)

  -- What each command does to a hub and to the handlers that are left in their places, and what its reply is. A command that names no
  -- handler does what `Step` says, and leaves the handlers.
  abbrev pub HandledStep : Terms T U B D → (BackpressureStrategy → Option BackpressureAction → DegradationAction → Option P → Option D → B)
      → HandledCommand T → NumberedHub T U B D × List (Option (GivenHandler P D)) → Result (Reply T) AllocError → NumberedHub T U B D
      × List (Option (GivenHandler P D)) → Type 0
  HandledStep terms handled (asked.Plain command) old answer new =
      Step terms command old.0 answer new.0 × (new.1 ≡ old.1)
  HandledStep terms handled (asked.Publisher factory options at_full at_failure) old answer new =
      IsReplied (λ reply. PublisherTakes terms.is_default_header handled terms.degrades (named backpressure_of at_full old.1)
      (named degradation_of at_failure old.1)
      (ports_of_factory (publish_subscribe_in (value_at old.0.factories.made factory)) old.0.hub) factory options
      (emptied_if at_failure (emptied_if at_full old.1)) old reply new) answer
  HandledStep terms handled (asked.Subscriber factory options at_failure) old answer new =
      IsReplied (λ reply. SubscriberTakes terms.reader_degrades (degradation_of (lies_at at_failure old.1))
      (ports_of_factory (publish_subscribe_in (value_at old.0.factories.made factory)) old.0.hub) factory options
      (emptied at_failure old.1) old reply new) answer
