-- That a service which was created can be opened by the same options.
use Rattle.std.specs.Prelude.{ℕ, ◌+◌, ◌≡◌, ◌⊎◌, ◌≤◌, false, List, [], Ok}
use Rattle.iox_machine.specs.Agreement.{verdict}
use Rattle.iox_machine.specs.Asked.{settings_of}
use Rattle.iox_machine.specs.Choices.{Choices}
use Rattle.iox_machine.specs.OnceLaws.{is_skipped}
use Rattle.iox_machine.specs.Run.{Step}
use Rattle.iox_machine.specs.ServiceReplyLaws.{open_told}
use Rattle.iox_machine.specs.State.{State}
use Rattle.iox_command.specs.NegotiateBase.DescribeBase.Attributes.{Required}
use Rattle.iox_command.specs.NegotiateBase.DescribeBase.declared.attribute.Attribute.{Attribute}
use Rattle.iox_command.specs.NegotiateBase.DescribeBase.declared.message_type.MessageTypeDetails.{MessageTypeDetails}
use Rattle.iox_command.specs.NegotiateBase.DescribeSettings.Agreement.{max_nodes_of}
use Rattle.iox_command.specs.NegotiateBase.declared.errors.event.EventOpenError.TheVariants as event_open
use Rattle.iox_command.specs.NegotiateBase.declared.errors.publish_subscribe.PublishSubscribeOpenError.TheVariants as publish_subscribe_open
use Rattle.iox_command.specs.NegotiateBase.declared.errors.request_response.RequestResponseOpenError.TheVariants as request_response_open
use Rattle.iox_command.specs.declared.command.Command.TheVariants as command
use Rattle.iox_command.specs.declared.reply.Reply.{Reply}
use Rattle.iox_command.specs.declared.reply.Reply.TheVariants as reply
use Rattle.iox_command.specs.declared.service.ServiceOptions.{ServiceOptions}

-- The attributes of a creation as what an opening requires: each pair, and no key with any value.
abbrev pub requiring : List Attribute → Required
requiring attributes = record { pairs = attributes; keys = [] }

-- Settings that were asked for meet what asked for them, whichever pattern it is, and so do the attributes.
abbrev pub AskedMeetsItself : Type 0
AskedMeetsItself = (types : MessageTypeDetails) (named : ServiceOptions) (attributes : List Attribute)
    → verdict types named (requiring attributes) (record { settings = settings_of types named; attributes = attributes }) ≡ Ok tt

module _ {T : Type 0} (choices : Choices T) where
  -- If a node has just created a service, an opening by the same options and attributes that isn't skipped, while no other node acts, gets
  -- the number of its factory; or memory runs out; or it is another node, and the service is for one node alone.
  abbrev pub CreatedMayBeOpened : Type 0
  CreatedMayBeOpened = (types : MessageTypeDetails) (buffer node other : ℕ) (name : List ℕ) (named : ServiceOptions)
      (attributes : List Attribute) (old : State T) (number : ℕ) (mid : State T) (answer : Reply T) (new : State T)
      → Step types choices buffer (command.Create node name named attributes []) old (reply.FactoryMade number) mid
      → is_skipped answer ≡ false → Step types choices buffer (command.Open other name named (requiring attributes) []) mid answer new
      → (answer ≡ reply.FactoryMade (mid.made.factories + 1))
      ⊎ ((answer ≡ reply.Refused (open_told named publish_subscribe_open.OutOfMemory event_open.OutOfMemory
      request_response_open.OutOfMemory))
      ⊎ ((other ≡ node → ⊥) × (max_nodes_of (settings_of types named) ≤ 1)
      × (answer ≡ reply.Refused (open_told named publish_subscribe_open.ExceedsMaxNumberOfNodes event_open.ExceedsMaxNumberOfNodes
      request_response_open.ExceedsMaxNumberOfNodes))))
