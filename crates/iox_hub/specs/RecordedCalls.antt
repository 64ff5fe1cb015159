-- The calls of a recorded hub, as commands and the answers to them.
use Rattle.std.specs.Prelude.{ℕ, ◌≡◌, ◌⊎◌, ◌^◌, ◌<◌, true, List, [], ◌∷◌, ◌++◌, length, Option, None, Some, Result, Ok, Err}
use Rattle.std.specs.Global.{Vec}
use Rattle.std.specs.Vec.{vec_items}
use Rattle.iox_command.specs.declared.command.Command.{Command}
use Rattle.iox_command.specs.declared.command.Command.TheVariants as command
use Rattle.iox_command.specs.declared.refusal.Refusal.{Refusal}
use Rattle.iox_command.specs.declared.refusal.Refusal.TheVariants as refusal
use Rattle.iox_command.specs.declared.reply.Reply.{Reply}
use Rattle.iox_command.specs.declared.reply.Reply.TheVariants as reply
use Rattle.iox_container.specs.NumberTable.{NumberTable, inserted, value_at}
use Rattle.iox_delivery.specs.declared.kind.Slice.{Slice}
use Rattle.iox_delivery.specs.declared.sample.Sample.{Sample}
use Rattle.iox_delivery.specs.declared.sent.Sent.{Sent}
use Rattle.iox_delivery.specs.declared.sent.Sent.TheVariants as sent
use Rattle.iox_hub_commands.specs.DomainValues.declared.port_error.ReceiveError.{ReceiveError}
use Rattle.iox_hub_commands.specs.DomainValues.declared.port_error.SendError.{SendError}
use Rattle.iox_command.specs.declared.service.PublishSubscribeOptions.{PublishSubscribeOptions}
use Rattle.iox_command.specs.declared.service.ServiceOptions.TheVariants as options
use Rattle.iox_hub_commands.specs.DescribeBase.Attributes.{Required}
use Rattle.iox_hub_commands.specs.DescribeBase.Hash.{service_hash_of}
use Rattle.iox_hub_commands.specs.DescribeBase.declared.message_type.MessageTypeDetails.{MessageTypeDetails}
use Rattle.iox_hub_commands.specs.DescribeBase.declared.pattern.MessagingPattern.TheVariants as pattern
use Rattle.iox_machine.specs.Agreement.{are_within_limits, verdict}
use Rattle.iox_machine.specs.Asked.{settings_of}
use Rattle.iox_negotiate_base.specs.declared.request.Opened.{Opened}
use Rattle.iox_hub.specs.Recorded.{Calls, asked_too}
use Rattle.iox_hub.specs.declared.recorded.named.Named.{Named}

-- Each number that named something still names it.
abbrev pub KeepNumbers : {V : Type 0} → NumberTable V → NumberTable V → Type 0
KeepNumbers {V} old new = (number : ℕ) (held : V) → value_at old number ≡ Some held → value_at new number ≡ Some held

-- The service is as a node asked for it, and has the hash of this name. Either its agreement meets these options and attributes, and its
-- settings are possible ones, within the limits; or the service is exactly as it is created with this name for these options and
-- attributes.
abbrev pub IsAsAsked : MessageTypeDetails → List ℕ → PublishSubscribeOptions → Required → Opened → Type 0
IsAsAsked types name named required service =
    (service.description.service_hash ≡ service_hash_of pattern.PublishSubscribe name)
    × (((verdict types (options.PublishSubscribe named) required
    (record { settings = service.description.settings; attributes = service.description.attributes }) ≡ Ok tt)
    × (are_within_limits service.description.settings ≡ true)
    × ((given : MessageTypeDetails) × (others : PublishSubscribeOptions)
    × (service.description.settings ≡ settings_of given (options.PublishSubscribe others))))
    ⊎ ((service.description.name ≡ name) × (service.description.settings ≡ settings_of types (options.PublishSubscribe named))
    × (service.description.attributes ≡ required.pairs)))

-- A subscriber received, or there is none. A received sample gets the next number, and is recorded with these values, if they fit in a
-- vector.
abbrev pub IsReceived : {T U : Type 0} → List T → ℕ
    → Option (Result (Option (Named (Sample T U Slice))) ReceiveError) → Calls T → Calls T → Type 0
IsReceived values subscriber None old new = new ≡ asked_too (command.Receive subscriber) reply.Skipped old
IsReceived {T} values subscriber (Some (Ok (Some sample))) old new =
    (told : Vec T) × (length values < 2 ^ 63 → vec_items told ≡ values)
    × (new ≡ record (asked_too (command.Receive subscriber) (reply.Received old.made.samples.next told) old) {
      made = record old.made {
        samples = inserted old.made.samples (record { port = sample.it.port; taken = sample.it.taken });
      };
      received = old.received ++ values ∷ [];
    })
IsReceived values subscriber (Some (Ok None)) old new = new ≡ asked_too (command.Receive subscriber) reply.NothingWaits old
IsReceived values subscriber (Some (Err why)) old new =
    new ≡ asked_too (command.Receive subscriber) (reply.Refused (refusal.Receive why)) old

-- The calls with one command and its answer: a success is recorded by `told` and `kept`, a failure as this refusal, and None as a command
-- that was skipped.
abbrev pub answered_as : {T S E : Type 0} → Option (Result S E) → Command T → (S → Reply T) → (E → Refusal) → (S → Calls T → Calls T)
    → Calls T → Calls T
answered_as None asked told refused kept calls = asked_too asked reply.Skipped calls
answered_as (Some (Ok came)) asked told refused kept calls = kept came (asked_too asked (told came) calls)
answered_as (Some (Err why)) asked told refused kept calls = asked_too asked (reply.Refused (refused why)) calls

-- The reply to a send: that the command is skipped, if no publisher may send, or no send is blocked; how many mailboxes took the message;
-- that the send is blocked; or the refusal.
abbrev pub told_send : {T U : Type 0} → Option (Result (Sent T U) SendError) → Reply T
told_send None = reply.Skipped
told_send (Some (Ok (sent.Delivered count))) = reply.Delivered count
told_send (Some (Ok (sent.Blocked blocked))) = reply.Blocked
told_send (Some (Err why)) = reply.Refused (refusal.Send why)
