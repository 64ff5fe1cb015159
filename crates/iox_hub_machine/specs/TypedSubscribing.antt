-- Each call of a typed subscriber and of its samples as a step of the machine.
use Rattle.std.specs.Prelude.{ℕ, ◌≡◌, Bool, true, Option, Some, Result}
use Rattle.std.specs.Global.{Vec}
use Rattle.std.specs.Vec.{vec_items}
use Rattle.iox_command.specs.DomainValues.declared.connection_failure.ConnectionFailure.{ConnectionFailure}
use Rattle.iox_command.specs.DomainValues.declared.port_error.ReceiveError.{ReceiveError}
use Rattle.iox_command.specs.declared.command.Command.TheVariants as command
use Rattle.iox_command.specs.declared.port.PortNumber.TheVariants as port
use Rattle.iox_command.specs.declared.reply.Reply.{Reply}
use Rattle.iox_command.specs.declared.reply.Reply.TheVariants as reply
use Rattle.iox_container.specs.NumberTable.{value_at}
use Rattle.iox_delivery.specs.Subscribing.{DropsSample, EndsSubscriber, FollowsPublishers, ReceivesSample, TellsSamples}
use Rattle.iox_delivery.specs.declared.port_id.PortId.{PortId}
use Rattle.iox_delivery.specs.declared.sample.Sample.{Sample}
use Rattle.iox_hub_base.specs.AsHome.{hub_ports, with_hub_ports, without_hub_subscriber}
use Rattle.iox_hub_base.specs.declared.hub.Hub.{Hub}
use Rattle.iox_hub_commands.specs.CommandSteps.{subscriber_may_degrade}
use Rattle.iox_hub_commands.specs.Numbering.{removed_if}
use Rattle.iox_hub_commands.specs.Reading.{values_under}
use Rattle.iox_hub_commands.specs.Replies.{done_reply, has_reply, updated_reply}
use Rattle.iox_hub_commands.specs.Tables.{without_sample, without_subscriber}
use Rattle.iox_hub_commands.specs.Terms.{Terms}
use Rattle.iox_hub_commands.specs.declared.numbered_hub.NumberedHub.{NumberedHub}
use Rattle.iox_hub_commands.specs.declared.ports.made.MadeSample.{MadeSample}
use Rattle.iox_hub_machine.specs.TypedSteps.{IsStepBy, IsToldReceived, having_received, hub_after_call}
use Rattle.iox_machine.specs.Choices.{Choices}

-- Subscribers and samples are of one kind: single values, or slices. The parameters: the kind, and the terms of the hub. The subscriber or
-- sample of each call has a number.
module _ {T U B D : Type 0} (K : Type 0) (terms : Terms T U B D) (choices : Choices T) where
  -- Receiving is a step; the reply to a received sample has the values that its `payload` then returns.
  abbrev pub ReceiveIsStep : Type 0
  ReceiveIsStep = (number : ℕ) (receiver : PortId) (old : NumberedHub T U B D) (hub : Hub T U B D)
      (answer : Result (Option (Sample T U K)) ReceiveError) (told : Reply T)
      → value_at old.made.subscribers number ≡ Some receiver
      → ReceivesSample hub_ports with_hub_ports (subscriber_may_degrade terms.reader_degrades) receiver old.hub answer hub
      → IsToldReceived answer old.made hub told
      → IsStepBy terms choices (command.Receive number) old told (hub_after_call old (having_received answer old.made) hub)

  -- Reporting whether some connection of a subscriber has data is a step.
  abbrev pub HasIsStep : Type 0
  HasIsStep = (number : ℕ) (receiver : PortId) (old : NumberedHub T U B D) (hub : Hub T U B D) (answer : Result Bool ConnectionFailure)
      → value_at old.made.subscribers number ≡ Some receiver
      → TellsSamples hub_ports with_hub_ports (subscriber_may_degrade terms.reader_degrades) receiver old.hub answer hub
      → IsStepBy terms choices (command.Has number) old (has_reply (Some answer)) (hub_after_call old old.made hub)

  -- Updating the connections of a subscriber is a step.
  abbrev pub SubscriberUpdateIsStep : Type 0
  SubscriberUpdateIsStep = (number : ℕ) (follower : PortId) (old : NumberedHub T U B D) (hub : Hub T U B D)
      (answer : Result (Unit {0}) ConnectionFailure)
      → value_at old.made.subscribers number ≡ Some follower
      → FollowsPublishers hub_ports with_hub_ports (subscriber_may_degrade terms.reader_degrades) follower old.hub answer hub
      → IsStepBy terms choices (command.Update (port.Subscriber number)) old (updated_reply (Some answer)) (hub_after_call old old.made hub)

  -- Closing a subscriber, which is consumed, is a step. `leave` does this, and so does `drop_with`, which hands the subscriber back if it
  -- can't be closed.
  abbrev pub SubscriberLeaveIsStep : Type 0
  SubscriberLeaveIsStep = (number : ℕ) (leaver : PortId) (old : NumberedHub T U B D) (hub : Hub T U B D) (left : Bool)
      → value_at old.made.subscribers number ≡ Some leaver
      → EndsSubscriber hub_ports with_hub_ports without_hub_subscriber leaver old.hub left hub
      → IsStepBy terms choices (command.Leave (port.Subscriber number)) old (done_reply left)
      (hub_after_call old (removed_if left (without_subscriber number) old.made) hub)

  -- Reading a sample is a step, which changes nothing: the values are those that its `payload` returns.
  abbrev pub PayloadIsStep : Type 0
  PayloadIsStep = (number : ℕ) (made : MadeSample) (old : NumberedHub T U B D) (values : Vec T)
      → value_at old.made.samples number ≡ Some made
      → values_under hub_ports (Some made) old.hub ≡ Some (vec_items values)
      → IsStepBy terms choices (command.Read number) old (reply.Values values) old

  -- Releasing a sample, which is consumed, is a step. `release` does this, and so does `drop_with`, which hands the sample back if it isn't
  -- held.
  abbrev pub ReleaseIsStep : Type 0
  ReleaseIsStep = (number : ℕ) (made : MadeSample) (old : NumberedHub T U B D) (hub : Hub T U B D) (released : Bool)
      → value_at old.made.samples number ≡ Some made
      → DropsSample hub_ports with_hub_ports made.port made.taken old.hub released hub
      → IsStepBy terms choices (command.Release number) old (done_reply true) (hub_after_call old (without_sample number old.made) hub)

  -- Each call of a subscriber and of its samples is a step, by the command that asks for the same.
  pub record SubscriberCallsAreSteps : Type 0 where
    pub receive : ReceiveIsStep
    pub has : HasIsStep
    pub update : SubscriberUpdateIsStep
    pub leave : SubscriberLeaveIsStep
    pub payload : PayloadIsStep
    pub release : ReleaseIsStep
