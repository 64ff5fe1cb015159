-- A command with handlers does what some command without them does, or nothing.
use Rattle.std.proofs.Common.{◌≡◌, ℕ, List, Option, None, Some, Result, Ok, Err, sym, subst}
use Rattle.std.specs.declared.alloc.AllocError.{AllocError}
use Rattle.iox_hub_commands.specs.Command.declared.command.Command.{Command}
use Rattle.iox_hub_commands.specs.Command.declared.command.Command.TheVariants as command
use Rattle.iox_hub_commands.specs.Command.declared.port.PublisherOptions.{PublisherOptions}
use Rattle.iox_hub_commands.specs.Command.declared.port.SubscriberOptions.{SubscriberOptions}
use Rattle.iox_hub_commands.specs.Command.declared.reply.Reply.{Reply}
use Rattle.iox_hub_commands.specs.Domain.declared.ports.service_ports.ServicePorts.{ServicePorts}
use Rattle.iox_hub_commands.specs.DomainValues.declared.backpressure.BackpressureAction.{BackpressureAction}
use Rattle.iox_hub_commands.specs.DomainValues.declared.backpressure_strategy.BackpressureStrategy.{BackpressureStrategy}
use Rattle.iox_hub_commands.specs.DomainValues.declared.degradation.DegradationAction.{DegradationAction}
use Rattle.iox_hub_commands.specs.CommandSteps.{IsReplied, Step}
use Rattle.iox_hub_commands.specs.declared.numbered_hub.NumberedHub.{NumberedHub}
use Rattle.iox_hub_commands.specs.Terms.{Terms}
use Rattle.iox_hub.specs.Steps.{HandledStep, PublisherTakes, SubscriberTakes}
use Rattle.iox_hub.specs.declared.given.GivenHandler.{GivenHandler}
use Rattle.iox_hub.specs.declared.handled_command.HandledCommand.{HandledCommand}
use Rattle.iox_hub.specs.declared.handled_command.HandledCommand.TheVariants as asked

module _ {T U B D P : Type 0} (terms : Terms T U B D)
    (handled : BackpressureStrategy → Option BackpressureAction → DegradationAction → Option P → Option D → B)
    (Goes : NumberedHub T U B D → NumberedHub T U B D → Type 0) (still : (hub : NumberedHub T U B D) → Goes hub hub)
    (steps : (by : BackpressureStrategy → Option BackpressureAction → DegradationAction → B) (by_reader : DegradationAction → D)
    (command : Command T) (old new : NumberedHub T U B D) (answer : Result (Reply T) AllocError)
    → Step (record terms { fixed = by; fixed_reader = by_reader }) command old answer new
    → Goes old new) where
  same_goes : (old new : NumberedHub T U B D × List (Option (GivenHandler P D))) → new ≡ old → Goes old.0 new.0
  same_goes old new is = subst (λ (state : NumberedHub T U B D × List (Option (GivenHandler P D))). Goes old.0 state.0) (sym is)
      (still old.0)

  replied : (does : Reply T → Type 0) (old new : NumberedHub T U B D) (answer : Result (Reply T) AllocError)
      → ((reply : Reply T) → does reply → Goes old new) → IsReplied does answer → Goes old new
  replied does old new (Ok reply) goes done = goes reply done
  replied does old new (Err lacking) goes done = absurd done

  publisher_goes : (at_full : Option (Option P)) (at_failure : Option (Option D)) (ports : Option (ServicePorts T U)) (factory : ℕ)
      (options : PublisherOptions) (fewer : List (Option (GivenHandler P D)))
      (old new : NumberedHub T U B D × List (Option (GivenHandler P D))) (reply : Reply T)
      → PublisherTakes terms.is_default_header handled terms.degrades at_full at_failure ports factory options fewer old reply new
      → Goes old.0 new.0
  publisher_goes None at_failure ports factory options fewer old new reply takes = same_goes old new takes.1
  publisher_goes (Some full) None ports factory options fewer old new reply takes = same_goes old new takes.1
  publisher_goes (Some full) (Some failing) None factory options fewer old new reply takes = same_goes old new takes.1
  publisher_goes (Some full) (Some failing) (Some ports) factory options fewer old new reply takes =
      steps (λ strategy action degrading. handled strategy action degrading full failing) terms.fixed_reader
      (command.Publisher factory options) old.0 new.0 (Ok reply) takes.0

  subscriber_goes : (found : Option D) (ports : Option (ServicePorts T U)) (factory : ℕ) (options : SubscriberOptions)
      (fewer : List (Option (GivenHandler P D)))
      (old new : NumberedHub T U B D × List (Option (GivenHandler P D))) (reply : Reply T)
      → SubscriberTakes terms.reader_degrades found ports factory options fewer old reply new → Goes old.0 new.0
  subscriber_goes None ports factory options fewer old new reply takes = same_goes old new takes.1
  subscriber_goes (Some handler) None factory options fewer old new reply takes = same_goes old new takes.1
  subscriber_goes (Some handler) (Some ports) factory options fewer old new reply takes =
      steps terms.fixed (λ action. handler) (command.Subscriber factory options) old.0 new.0 (Ok reply) takes.0

  -- what holds over each command, whoever decides, holds over each command with handlers
  pub handled_goes : (command : HandledCommand T) (old new : NumberedHub T U B D × List (Option (GivenHandler P D)))
      (answer : Result (Reply T) AllocError)
      → HandledStep terms handled command old answer new → Goes old.0 new.0
  handled_goes (asked.Plain command) old new answer step = steps terms.fixed terms.fixed_reader command old.0 new.0 answer step.0
  handled_goes (asked.Publisher factory options at_full at_failure) old new answer step =
      replied _ old.0 new.0 answer (λ reply takes. publisher_goes _ _ _ factory options _ old new reply takes) step
  handled_goes (asked.Subscriber factory options at_failure) old new answer step =
      replied _ old.0 new.0 answer (λ reply takes. subscriber_goes _ _ factory options _ old new reply takes) step
