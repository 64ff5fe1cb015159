-- Which factory has a number.
use Rattle.std.specs.Prelude.{◌≡◌, [], Option, None, Some}
use Rattle.iox_hub_base.specs.DescribeBase.declared.pattern.MessagingPattern.{MessagingPattern}
use Rattle.iox_hub_base.specs.DescribeBase.declared.pattern.MessagingPattern.TheVariants as pattern
use Rattle.iox_hub_base.specs.Opening.{Made}
use Rattle.iox_container.specs.NumberTable.{NumberTable}
use Rattle.iox_hub_commands.specs.declared.services.made.MadeFactory.{MadeFactory}
use Rattle.iox_hub_commands.specs.declared.services.made.MadeFactory.TheVariants as made

-- Factories by number.
abbrev pub FactoryTable : Type 0
FactoryTable = NumberTable MadeFactory

-- A table without factories and capacity, whose first number is 1.
abbrev pub no_factories : FactoryTable
no_factories = record { entries = []; next = 1; room = 0 }

-- The table has the same factories under the same numbers, and the same next number; only its capacity may differ.
abbrev pub SameNumbers : FactoryTable → FactoryTable → Type 0
SameNumbers old new = (new.entries ≡ old.entries) × (new.next ≡ old.next)

-- The pattern of the factory's service.
abbrev pub pattern_in : MadeFactory → MessagingPattern
pattern_in (made.PublishSubscribe factory) = pattern.PublishSubscribe
pattern_in (made.Event factory) = pattern.Event
pattern_in (made.RequestResponse factory) = pattern.RequestResponse

-- Which node is in which service by the factory, and the factory's own number in its hub.
abbrev pub parts_of : MadeFactory → Made
parts_of (made.PublishSubscribe factory) = (factory.service.membership, factory.owner)
parts_of (made.Event factory) = (factory.service.membership, factory.owner)
parts_of (made.RequestResponse factory) = (factory.service.membership, factory.owner)

-- The parts of the factory of a publish-subscribe service, if it is one.
abbrev pub publish_subscribe_in : Option MadeFactory → Option Made
publish_subscribe_in (Some (made.PublishSubscribe factory)) = Some (factory.service.membership, factory.owner)
publish_subscribe_in other = None
