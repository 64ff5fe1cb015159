-- Ports of a recorded hub follow the others, and it is told whether messages wait.
use Rattle.std.proofs.Common.{◌≡◌, ℕ, Bool, Option, None, Some, Result, IsSome, refl, sym, subst}
use Rattle.iox_command.specs.declared.command.Command.TheVariants as command
use Rattle.iox_command.specs.declared.port.PortNumber.TheVariants as port
use Rattle.iox_command.specs.declared.reply.Reply.TheVariants as reply
use Rattle.iox_container.specs.NumberTable.{value_at}
use Rattle.iox_delivery.specs.Holding.{subscriber_stands}
use Rattle.iox_delivery.specs.Publishing.{FollowsSubscribers}
use Rattle.iox_delivery.specs.Subscribing.{FollowsPublishers, TellsSamples}
use Rattle.iox_delivery.specs.declared.kind.Slice.{Slice}
use Rattle.iox_delivery.specs.declared.port_id.PortId.{PortId}
use Rattle.iox_domain.specs.Steps.{FollowsBy, TellsBy, UpdatesBy}
use Rattle.iox_hub_base.specs.AsHome.{hub_ports, with_hub_ports}
use Rattle.iox_hub_base.specs.declared.hub.Hub.{Hub}
use Rattle.iox_hub_commands.specs.Calls.{AtPort, Follows, may_lend}
use Rattle.iox_hub_commands.specs.CommandSteps.{publisher_may_degrade, subscriber_may_degrade}
use Rattle.iox_hub_commands.specs.DomainValues.declared.connection_failure.ConnectionFailure.{ConnectionFailure}
use Rattle.iox_hub_commands.specs.Replies.{has_reply, updated_reply}
use Rattle.iox_hub_commands.specs.Tables.{port_under}
use Rattle.iox_hub_machine.specs.TypedPublishing.{PublisherUpdateIsStep}
use Rattle.iox_hub_machine.specs.TypedReading.{HeldMayBeUsed}
use Rattle.iox_hub_machine.specs.TypedRuns.{CallsGoOn}
use Rattle.iox_hub_machine.specs.TypedSubscribing.{HasIsStep, SubscriberUpdateIsStep}
use Rattle.iox_hub.proofs.RecordedIds.{at_keeps}
use Rattle.iox_hub.proofs.RecordedRuns.{AreOfSlices, Followed, Recorded, absent_on, may_be_used, plain_on, skipped_on}
use Rattle.iox_hub.proofs.RecordedSkips.{follows_none, never_so}
use Rattle.iox_hub.specs.Recorded.{Calls, asked_too}
use Rattle.iox_hub.specs.Recording.{IsDoneIf, numbered}
use Rattle.iox_hub_commands.specs.Terms.{Terms}
use Rattle.iox_hub.specs.Turns.{choices_of}
use Rattle.iox_machine.specs.Choices.{Handed}

module _ {T U B D : Type 0} (terms : Terms T U B D) (of_slices : AreOfSlices terms) (handed : Handed B D) where
  abbrev GoesOn : Type 0
  GoesOn = CallsGoOn terms (choices_of terms handed)

  abbrev Kept : Bool → Calls T → Hub T U B D → Type 0
  Kept fit calls hub
      = Recorded terms of_slices handed fit calls hub

  pub publisher_updated : {fit : Bool} → GoesOn
      → PublisherUpdateIsStep Slice terms (choices_of terms handed)
      → (old : Calls T) (hub after : Hub T U B D) (number : ℕ) (follower : PortId) (answer : Option (Result (Unit {0}) ConnectionFailure))
      → port_under (value_at old.made.publishers number) ≡ Some follower
      → IsDoneIf (may_lend hub_ports follower hub)
      (FollowsSubscribers hub_ports with_hub_ports (publisher_may_degrade terms.degrades) follower) hub answer after
      → Kept fit old hub → Kept fit (asked_too (command.Update (port.Publisher number)) (updated_reply answer) old) after
  publisher_updated {fit} goes_on steps old hub after number follower None there (never, same) was =
      subst (λ (it : Hub T U B D). Kept fit (asked_too (command.Update (port.Publisher number)) reply.Skipped old) it) (sym same)
      (skipped_on terms of_slices handed goes_on old hub hub (command.Update (port.Publisher number)) refl (λ names most state it. (
        (
          None,
          subst (λ (found : Option PortId). AtPort (Follows hub_ports with_hub_ports (publisher_may_degrade terms.degrades)) found hub None
              hub) (sym there)
              (follows_none (publisher_may_degrade terms.degrades follower.domain follower.number hub) follower hub
              (hub_ports follower.domain hub) refl never),
          refl,
        ),
        refl,
      )) was)
  publisher_updated goes_on steps old hub after number follower (Some answer) there (may, follows) was =
      plain_on terms of_slices handed goes_on old hub after (command.Update (port.Publisher number)) (updated_reply (Some answer))
      (at_keeps follower.domain (UpdatesBy (publisher_may_degrade terms.degrades follower.domain follower.number hub) follower.number)
      (hub_ports follower.domain hub) hub after (Some answer) follows)
      (steps number follower (numbered old hub) after answer there follows) was

  pub subscriber_updated : {fit : Bool} → GoesOn
      → SubscriberUpdateIsStep Slice terms (choices_of terms handed)
      → HeldMayBeUsed terms (choices_of terms handed)
      → (old : Calls T) (hub after : Hub T U B D) (number : ℕ) (follower : PortId) (answer : Option (Result (Unit {0}) ConnectionFailure))
      → value_at old.made.subscribers number ≡ Some follower
      → IsDoneIf (subscriber_stands follower.number (hub_ports follower.domain hub))
      (FollowsPublishers hub_ports with_hub_ports (subscriber_may_degrade terms.reader_degrades) follower) hub answer after
      → Kept fit old hub → Kept fit (asked_too (command.Update (port.Subscriber number)) (updated_reply answer) old) after
  subscriber_updated goes_on steps may_use old hub after number follower None there (never, same) was =
      absent_on terms of_slices handed goes_on may_use old hub after (command.Update (port.Subscriber number)) number follower there never
      same was
  subscriber_updated goes_on steps may_use old hub after number follower (Some answer) there (may, follows) was =
      plain_on terms of_slices handed goes_on old hub after (command.Update (port.Subscriber number)) (updated_reply (Some answer))
      (at_keeps follower.domain (FollowsBy (subscriber_may_degrade terms.reader_degrades follower.domain follower.number hub)
      follower.number) (hub_ports follower.domain hub) hub after (Some answer) follows)
      (steps number follower (numbered old hub) after answer there follows) was

  pub samples_told : {fit : Bool} → GoesOn
      → HasIsStep Slice terms (choices_of terms handed)
      → HeldMayBeUsed terms (choices_of terms handed)
      → (old : Calls T) (hub after : Hub T U B D) (number : ℕ) (asker : PortId) (answer : Option (Result Bool ConnectionFailure))
      → value_at old.made.subscribers number ≡ Some asker
      → IsDoneIf (subscriber_stands asker.number (hub_ports asker.domain hub))
      (TellsSamples hub_ports with_hub_ports (subscriber_may_degrade terms.reader_degrades) asker) hub answer after
      → Kept fit old hub → Kept fit (asked_too (command.Has number) (has_reply answer) old) after
  samples_told goes_on steps may_use old hub after number asker None there (never, same) was =
      absent_on terms of_slices handed goes_on may_use old hub after (command.Has number) number asker there never same was
  samples_told goes_on steps may_use old hub after number asker (Some answer) there (may, tells) was =
      plain_on terms of_slices handed goes_on old hub after (command.Has number) (has_reply (Some answer))
      (at_keeps asker.domain (TellsBy (subscriber_may_degrade terms.reader_degrades asker.domain asker.number hub) asker.number)
      (hub_ports asker.domain hub) hub after (Some answer) tells)
      (steps number asker (numbered old hub) after answer there tells) was

  -- what a subscriber that the program holds is asked is answered
  pub stands_so : {fit : Bool} {A : Type 0} → HeldMayBeUsed terms (choices_of terms handed)
      → (old : Calls T) (hub after : Hub T U B D) (number : ℕ) (who : PortId) (does : Hub T U B D → A → Hub T U B D → Type 0)
      (answer : Option A) → value_at old.made.subscribers number ≡ Some who
      → IsDoneIf (subscriber_stands who.number (hub_ports who.domain hub)) does hub answer after
      → Kept fit old hub
      → Followed terms of_slices handed old → IsSome answer
  stands_so may_use old hub after number who does None there (never, same) was followed =
      never_so (subscriber_stands who.number (hub_ports who.domain hub))
      ((may_be_used terms of_slices handed may_use old hub was followed).subscribers number who there) never
  stands_so may_use old hub after number who does (Some it) there done was followed = refl
