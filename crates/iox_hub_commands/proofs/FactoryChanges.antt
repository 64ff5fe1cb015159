-- What the commands on services change of the factories' numbers.
use Rattle.std.proofs.Common.{ℕ, Bool, true, false, List, Option, None, Some, Result, Ok, Err, inl, inr, refl}
use Rattle.std.specs.declared.alloc.AllocError.{AllocError}
use Rattle.iox_command.specs.declared.refusal.Refusal.{Refusal}
use Rattle.iox_command.specs.declared.refusal.Refusal.TheVariants as refusal
use Rattle.iox_command.specs.declared.service.ServiceOptions.{ServiceOptions}
use Rattle.iox_command.specs.declared.service.ServiceOptions.TheVariants as options
use Rattle.iox_command.specs.declared.step.StepBefore.{StepBefore}
use Rattle.iox_delivery.specs.DescribeBase.Attributes.{Required}
use Rattle.iox_delivery.specs.DescribeBase.Detail.{Detail}
use Rattle.iox_delivery.specs.DescribeBase.declared.attribute.Attribute.{Attribute}
use Rattle.iox_delivery.specs.DescribeBase.declared.message_type.MessageTypeDetails.{MessageTypeDetails}
use Rattle.iox_delivery.specs.DescribeBase.declared.pattern.MessagingPattern.{MessagingPattern}
use Rattle.iox_delivery.specs.DescribeBase.declared.pattern.MessagingPattern.TheVariants as pattern
use Rattle.iox_hub_base.specs.Opening.{Made}
use Rattle.iox_hub_base.specs.declared.hub.Hub.{Hub}
use Rattle.iox_hub_commands.specs.Closing.{ClosesUnless, ClosesIfOf, ClosesNumbered}
use Rattle.iox_hub_commands.specs.Creating.{CreatesAs, CreatesPrepared, CreatesNumbered}
use Rattle.iox_hub_commands.specs.Either.{EitherAs, EitherPrepared, EitherNumbered}
use Rattle.iox_hub_commands.specs.ServicesNumbering.{Prepares, Numbers}
use Rattle.iox_hub_commands.specs.Opening.{OpensAs, OpensPrepared, OpensNumbered}
use Rattle.iox_hub_commands.specs.ServicesTables.{FactoryTable, parts_of}
use Rattle.iox_hub_commands.specs.declared.services.asked.ServiceAsked.{ServiceAsked}
use Rattle.iox_hub_commands.specs.declared.services.made.MadeFactory.{MadeFactory}
use Rattle.iox_negotiate.specs.declared.factory.Membership.{Membership}
use Rattle.iox_negotiate.specs.NegotiateBase.declared.errors.close.CloseError.{CloseError}
use Rattle.iox_negotiate.specs.NegotiateTable.declared.step.ForeignStep.{ForeignStep}
use Rattle.iox_hub_commands.specs.Lives.{Stays, ChangesOne}
use Rattle.iox_hub_commands.proofs.GoingOn.{same_changes, stays_and_changes}

numbers_change : {E : Type 0} (pattern : MessagingPattern) (refusal : E → Refusal) (opened : Result Made E) (table after : FactoryTable)
    (answer : Result ℕ Refusal) → Numbers pattern refusal opened table answer after → ChangesOne table after
numbers_change pattern refusal (Ok parts) table after answer (factory, is_pattern, is_parts, is_new, is_answer, form)
    = rw is_new (inr (inl (factory, refl, refl)))
numbers_change pattern refusal (Err error) table after answer (is_answer, is_new) = same_changes table after is_new

prepared_same : (name : List ℕ) (types : MessageTypeDetails) (steps : List StepBefore) (old new : FactoryTable)
    (prepared : Result (List (List ForeignStep)) AllocError) → Prepares name types steps old prepared new → Stays old new
prepared_same name types steps old new (Ok lists) (same, is, room, forms) = same
prepared_same name types steps old new (Err lacking) (same, full) = same

module _ {T U B D : Type 0} (payload user_header : Detail) (types : MessageTypeDetails) where
  create_as : (named : ServiceOptions) (node : ℕ) (name : List ℕ) (attributes : List Attribute) (lists : List (List ForeignStep))
      (table after : FactoryTable) (old new : Hub T U B D) (answer : Result ℕ Refusal)
      → CreatesAs named payload user_header types node name attributes lists table old answer after new → ChangesOne table after
  create_as (options.PublishSubscribe named) node name attributes lists table after old new answer (opened, opens, numbers)
      = numbers_change pattern.PublishSubscribe refusal.PublishSubscribeCreate opened table after answer numbers
  create_as (options.Event named) node name attributes lists table after old new answer (opened, opens, numbers)
      = numbers_change pattern.Event refusal.EventCreate opened table after answer numbers
  create_as (options.RequestResponse named) node name attributes lists table after old new answer (opened, opens, numbers)
      = numbers_change pattern.RequestResponse refusal.RequestResponseCreate opened table after answer numbers

  create_prepared : (prepared : Result (List (List ForeignStep)) AllocError) (asked : ServiceAsked) (attributes : List Attribute)
      (table after : FactoryTable) (old new : Hub T U B D) (answer : Result ℕ Refusal)
      → CreatesPrepared prepared payload user_header types asked attributes table old answer after new → ChangesOne table after
  create_prepared (Err lacking) asked attributes table after old new answer does = same_changes table after does.1
  create_prepared (Ok lists) asked attributes table after old new answer does
      = create_as asked.options asked.node asked.name attributes lists table after old new answer does

  pub create_changes : (is_node : Bool) (asked : ServiceAsked) (attributes : List Attribute) (steps : List StepBefore)
      (table after : FactoryTable) (old new : Hub T U B D) (answer : Option (Result ℕ Refusal))
      → CreatesNumbered is_node payload user_header types asked attributes steps table old answer after new → ChangesOne table after
  create_changes false asked attributes steps table after old new answer creates = same_changes table after creates.1
  create_changes true asked attributes steps table after old new answer (Some failure, unfit, (is, same, hub))
      = same_changes table after same
  create_changes true asked attributes steps table after old new answer (None, fit, (prepared, roomier, reply, prepares, creates, is)) =
      stays_and_changes table roomier after (prepared_same asked.name types steps table roomier prepared prepares)
      (create_prepared prepared asked attributes roomier after old new reply creates)

  open_as : (named : ServiceOptions) (node : ℕ) (name : List ℕ) (attributes : Required) (lists : List (List ForeignStep))
      (table after : FactoryTable) (old new : Hub T U B D) (answer : Result ℕ Refusal)
      → OpensAs named payload user_header types node name attributes lists table old answer after new → ChangesOne table after
  open_as (options.PublishSubscribe named) node name attributes lists table after old new answer (opened, opens, numbers)
      = numbers_change pattern.PublishSubscribe refusal.PublishSubscribeOpen opened table after answer numbers
  open_as (options.Event named) node name attributes lists table after old new answer (opened, opens, numbers)
      = numbers_change pattern.Event refusal.EventOpen opened table after answer numbers
  open_as (options.RequestResponse named) node name attributes lists table after old new answer (opened, opens, numbers)
      = numbers_change pattern.RequestResponse refusal.RequestResponseOpen opened table after answer numbers

  open_prepared : (prepared : Result (List (List ForeignStep)) AllocError) (asked : ServiceAsked) (attributes : Required)
      (table after : FactoryTable) (old new : Hub T U B D) (answer : Result ℕ Refusal)
      → OpensPrepared prepared payload user_header types asked attributes table old answer after new → ChangesOne table after
  open_prepared (Err lacking) asked attributes table after old new answer does = same_changes table after does.1
  open_prepared (Ok lists) asked attributes table after old new answer does
      = open_as asked.options asked.node asked.name attributes lists table after old new answer does

  pub open_changes : (is_node : Bool) (asked : ServiceAsked) (attributes : Required) (steps : List StepBefore)
      (table after : FactoryTable) (old new : Hub T U B D) (answer : Option (Result ℕ Refusal))
      → OpensNumbered is_node payload user_header types asked attributes steps table old answer after new → ChangesOne table after
  open_changes false asked attributes steps table after old new answer opens = same_changes table after opens.1
  open_changes true asked attributes steps table after old new answer (inl (told, finds, (is, same, hub))) = same_changes table after same
  open_changes true asked attributes steps table after old new answer (inr (prepared, roomier, reply, prepares, opens, is)) =
      stays_and_changes table roomier after (prepared_same asked.name types steps table roomier prepared prepares)
      (open_prepared prepared asked attributes roomier after old new reply opens)

  either_as : (named : ServiceOptions) (node : ℕ) (name : List ℕ) (attributes : Required) (lists : List (List ForeignStep))
      (table after : FactoryTable) (old new : Hub T U B D) (answer : Result ℕ Refusal)
      → EitherAs named payload user_header types node name attributes lists table old answer after new → ChangesOne table after
  either_as (options.PublishSubscribe named) node name attributes lists table after old new answer (opened, opens, numbers)
      = numbers_change pattern.PublishSubscribe refusal.PublishSubscribeOpenOrCreate opened table after answer numbers
  either_as (options.Event named) node name attributes lists table after old new answer (opened, opens, numbers)
      = numbers_change pattern.Event refusal.EventOpenOrCreate opened table after answer numbers
  either_as (options.RequestResponse named) node name attributes lists table after old new answer (opened, opens, numbers)
      = numbers_change pattern.RequestResponse refusal.RequestResponseOpenOrCreate opened table after answer numbers

  either_prepared : (prepared : Result (List (List ForeignStep)) AllocError) (asked : ServiceAsked) (attributes : Required)
      (table after : FactoryTable) (old new : Hub T U B D) (answer : Result ℕ Refusal)
      → EitherPrepared prepared payload user_header types asked attributes table old answer after new → ChangesOne table after
  either_prepared (Err lacking) asked attributes table after old new answer does = same_changes table after does.1
  either_prepared (Ok lists) asked attributes table after old new answer does
      = either_as asked.options asked.node asked.name attributes lists table after old new answer does

  pub either_changes : (is_node : Bool) (asked : ServiceAsked) (attributes : Required) (steps : List StepBefore)
      (table after : FactoryTable) (old new : Hub T U B D) (answer : Option (Result ℕ Refusal))
      → EitherNumbered is_node payload user_header types asked attributes steps table old answer after new → ChangesOne table after
  either_changes false asked attributes steps table after old new answer either = same_changes table after either.1
  either_changes true asked attributes steps table after old new answer (inl (refused, told, fit, finds, (is, same, hub)))
      = same_changes table after same
  either_changes true asked attributes steps table after old new answer (inr (prepared, roomier, reply, prepares, either, is)) =
      stays_and_changes table roomier after (prepared_same asked.name types steps table roomier prepared prepares)
      (either_prepared prepared asked attributes roomier after old new reply either)

module _ {T U B D : Type 0} where
  close_unless : (used : Bool) (number : ℕ) (member : Membership) (table after : FactoryTable) (old new : Hub T U B D)
      (answer : Option (Result (Unit {0}) CloseError)) → ClosesUnless used number member table old answer after new → ChangesOne table after
  close_unless true number member table after old new answer closes = same_changes table after closes.1
  close_unless false number member table after old new answer (closed, leaves, is_answer, is_after)
      = rw is_after (inr (inr (number, refl, refl)))

  close_if : (is_of : Bool) (number : ℕ) (made : MadeFactory) (table after : FactoryTable) (old new : Hub T U B D)
      (answer : Option (Result (Unit {0}) CloseError)) → ClosesIfOf is_of number made table old answer after new → ChangesOne table after
  close_if false number made table after old new answer closes = same_changes table after closes.1
  close_if true number made table after old new answer closes = close_unless _ number (parts_of made).0 table after old new answer closes

  pub close_changes : (number : ℕ) (found : Option MadeFactory) (table after : FactoryTable) (old new : Hub T U B D)
      (answer : Option (Result (Unit {0}) CloseError)) → ClosesNumbered number found table old answer after new → ChangesOne table after
  close_changes number None table after old new answer closes = same_changes table after closes.1
  close_changes number (Some made) table after old new answer closes = close_if _ number made table after old new answer closes
