-- What goes on with the services of a hub by the commands on them: nothing, one opens, or one is gone.
use Rattle.std.proofs.Common.{◌≡◌, ℕ, Bool, true, false, List, Option, None, Some, Result, Ok, Err, inl, inr, if◌then◌else◌, refl, ap}
use Rattle.std.specs.declared.alloc.AllocError.{AllocError}
use Rattle.iox_command.specs.declared.refusal.HubError.{HubError}
use Rattle.iox_command.specs.declared.refusal.Refusal.{Refusal}
use Rattle.iox_command.specs.declared.service.ServiceOptions.{ServiceOptions}
use Rattle.iox_command.specs.declared.service.ServiceOptions.TheVariants as options
use Rattle.iox_command.specs.declared.step.ForeignStep.{ForeignStep as Named}
use Rattle.iox_command.specs.declared.step.StepBefore.{StepBefore}
use Rattle.iox_delivery.specs.DescribeBase.Attributes.{Required}
use Rattle.iox_delivery.specs.DescribeBase.Detail.{Detail}
use Rattle.iox_delivery.specs.DescribeBase.declared.attribute.Attribute.{Attribute}
use Rattle.iox_delivery.specs.DescribeBase.declared.message_type.MessageTypeDetails.{MessageTypeDetails}
use Rattle.iox_delivery.specs.DescribeBase.declared.pattern.MessagingPattern.{MessagingPattern}
use Rattle.iox_delivery.specs.DescribeSettings.declared.static_config.Settings.{Settings}
use Rattle.iox_hub_base.specs.Closing.{is_last, less_one}
use Rattle.iox_hub_base.specs.Opening.{Made, Enters, Settles, OpensInHub}
use Rattle.iox_hub_base.specs.declared.hub.Hub.{Hub}
use Rattle.iox_hub_base.specs.Open.{OpenServices}
use Rattle.iox_hub_base.specs.ServicesOpening.{Opens, without_service}
use Rattle.iox_hub_commands.specs.Closing.{ClosesUnless, ClosesIfOf, ClosesNumbered}
use Rattle.iox_hub_commands.specs.Creating.{CreatesAs, CreatesPrepared, CreatesNumbered}
use Rattle.iox_hub_commands.specs.Either.{EitherAs, EitherPrepared, EitherNumbered}
use Rattle.iox_hub_commands.specs.Foreign.{ActsNamed}
use Rattle.iox_hub_commands.specs.Opening.{OpensAs, OpensPrepared, OpensNumbered}
use Rattle.iox_hub_commands.specs.ServicesTables.{FactoryTable, parts_of}
use Rattle.iox_hub_commands.specs.declared.services.asked.ServiceAsked.{ServiceAsked}
use Rattle.iox_hub_commands.specs.declared.services.made.MadeFactory.{MadeFactory}
use Rattle.iox_negotiate.specs.declared.factory.Membership.{Membership}
use Rattle.iox_negotiate.specs.NegotiateBase.declared.errors.close.CloseError.{CloseError}
use Rattle.iox_negotiate.specs.NegotiateTable.Stepped.{Steps}
use Rattle.iox_negotiate.specs.NegotiateTable.declared.step.ForeignStep.{ForeignStep}

module _ {T U B D : Type 0} (Goes : OpenServices T U B D → OpenServices T U B D → Type 0)
    (still : (old new : OpenServices T U B D) → new ≡ old → Goes old new)
    (opening : (payload user_header : Detail) (buffer number : ℕ) (settings : Settings) (old new : OpenServices T U B D)
    → Opens payload user_header buffer number settings old (Ok tt) new → Goes old new)
    (closing : (number : ℕ) (old : OpenServices T U B D) → Goes old (without_service number old)) where
  none : (old new : Hub T U B D) → new ≡ old → Goes old.services new.services
  none old new is = still old.services new.services (ap (λ hub. hub.services) is)

  enters_go : (payload user_header : Detail) (member : Membership) (entered : Result Made Bool) (old new : Hub T U B D)
      → Enters payload user_header member old entered new → Goes old.services new.services
  enters_go payload user_header member (Ok made) old new (is_made, opens, is)
      = opening payload user_header old.expired_connection_buffer member.service.number member.service.description.settings old.services
      new.services opens
  enters_go payload user_header member (Err was_new) old new (is_new, wants, (closes, is))
      = still old.services new.services (ap (λ hub. hub.services) is)

  settles_go : {E : Type 0} (payload user_header : Detail) (lacking : Bool → E) (answer : Result Membership E) (old new : Hub T U B D)
      (result : Result Made E) → Settles payload user_header lacking answer old result new → Goes old.services new.services
  settles_go payload user_header lacking (Err error) old new result settles = none old new settles.1
  settles_go payload user_header lacking (Ok member) old new result (entered, enters, is)
      = enters_go payload user_header member entered old new enters

  in_hub : {E : Type 0} (payload user_header : Detail) (can_be : Type 0) (lacking : Bool → E)
      (negotiates : Steps → Result Membership E → Steps → Type 0)
      (lists : List (List ForeignStep)) (old new : Hub T U B D) (result : Result Made E)
      → OpensInHub payload user_header can_be lacking negotiates lists old result new → Goes old.services new.services
  in_hub payload user_header can_be lacking negotiates lists old new result (inr (can, is, same)) = none old new same
  in_hub payload user_header can_be lacking negotiates lists old new result (inl opens)
      = settles_go payload user_header lacking opens.answer (record old { table = opens.mid.table }) new result opens.settled

  create_as : (named : ServiceOptions) (payload user_header : Detail) (types : MessageTypeDetails) (node : ℕ) (name : List ℕ)
      (attributes : List Attribute) (lists : List (List ForeignStep)) (table after : FactoryTable) (old new : Hub T U B D)
      (answer : Result ℕ Refusal)
      → CreatesAs named payload user_header types node name attributes lists table old answer after new → Goes old.services new.services
  create_as (options.PublishSubscribe named) payload user_header types node name attributes lists table after old new answer
      (opened, opens, numbers) = in_hub payload user_header _ _ _ lists old new opened opens
  create_as (options.Event named) payload user_header types node name attributes lists table after old new answer
      (opened, opens, numbers) = in_hub payload user_header _ _ _ lists old new opened opens
  create_as (options.RequestResponse named) payload user_header types node name attributes lists table after old new answer
      (opened, opens, numbers) = in_hub payload user_header _ _ _ lists old new opened opens

  create_prepared : (prepared : Result (List (List ForeignStep)) AllocError) (payload user_header : Detail) (types : MessageTypeDetails)
      (asked : ServiceAsked) (attributes : List Attribute) (table after : FactoryTable) (old new : Hub T U B D) (answer : Result ℕ Refusal)
      → CreatesPrepared prepared payload user_header types asked attributes table old answer after new → Goes old.services new.services
  create_prepared (Err lacking) payload user_header types asked attributes table after old new answer does = none old new does.2
  create_prepared (Ok lists) payload user_header types asked attributes table after old new answer does
      = create_as asked.options payload user_header types asked.node asked.name attributes lists table after old new answer does

  pub create_go : (is_node : Bool) (payload user_header : Detail) (types : MessageTypeDetails) (asked : ServiceAsked)
      (attributes : List Attribute) (steps : List StepBefore) (table after : FactoryTable) (old new : Hub T U B D)
      (answer : Option (Result ℕ Refusal))
      → CreatesNumbered is_node payload user_header types asked attributes steps table old answer after new → Goes old.services new.services
  create_go false payload user_header types asked attributes steps table after old new answer creates = none old new creates.2
  create_go true payload user_header types asked attributes steps table after old new answer (Some failure, unfit, (is, same, hub))
      = none old new hub
  create_go true payload user_header types asked attributes steps table after old new answer
      (None, fit, (prepared, roomier, reply, prepares, creates, is)) =
      create_prepared prepared payload user_header types asked attributes roomier after old new reply creates

  open_as : (named : ServiceOptions) (payload user_header : Detail) (types : MessageTypeDetails) (node : ℕ) (name : List ℕ)
      (attributes : Required) (lists : List (List ForeignStep)) (table after : FactoryTable) (old new : Hub T U B D)
      (answer : Result ℕ Refusal)
      → OpensAs named payload user_header types node name attributes lists table old answer after new → Goes old.services new.services
  open_as (options.PublishSubscribe named) payload user_header types node name attributes lists table after old new answer
      (opened, opens, numbers) = in_hub payload user_header _ _ _ lists old new opened opens
  open_as (options.Event named) payload user_header types node name attributes lists table after old new answer (opened, opens, numbers)
      = in_hub payload user_header _ _ _ lists old new opened opens
  open_as (options.RequestResponse named) payload user_header types node name attributes lists table after old new answer
      (opened, opens, numbers) = in_hub payload user_header _ _ _ lists old new opened opens

  open_prepared : (prepared : Result (List (List ForeignStep)) AllocError) (payload user_header : Detail) (types : MessageTypeDetails)
      (asked : ServiceAsked) (attributes : Required) (table after : FactoryTable) (old new : Hub T U B D) (answer : Result ℕ Refusal)
      → OpensPrepared prepared payload user_header types asked attributes table old answer after new → Goes old.services new.services
  open_prepared (Err lacking) payload user_header types asked attributes table after old new answer does = none old new does.2
  open_prepared (Ok lists) payload user_header types asked attributes table after old new answer does
      = open_as asked.options payload user_header types asked.node asked.name attributes lists table after old new answer does

  pub open_go : (is_node : Bool) (payload user_header : Detail) (types : MessageTypeDetails) (asked : ServiceAsked)
      (attributes : Required) (steps : List StepBefore) (table after : FactoryTable) (old new : Hub T U B D)
      (answer : Option (Result ℕ Refusal))
      → OpensNumbered is_node payload user_header types asked attributes steps table old answer after new → Goes old.services new.services
  open_go false payload user_header types asked attributes steps table after old new answer opens = none old new opens.2
  open_go true payload user_header types asked attributes steps table after old new answer (inl (told, finds, (is, same, hub)))
      = none old new hub
  open_go true payload user_header types asked attributes steps table after old new answer
      (inr (prepared, roomier, reply, prepares, opens, is)) =
      open_prepared prepared payload user_header types asked attributes roomier after old new reply opens

  either_as : (named : ServiceOptions) (payload user_header : Detail) (types : MessageTypeDetails) (node : ℕ) (name : List ℕ)
      (attributes : Required) (lists : List (List ForeignStep)) (table after : FactoryTable) (old new : Hub T U B D)
      (answer : Result ℕ Refusal)
      → EitherAs named payload user_header types node name attributes lists table old answer after new → Goes old.services new.services
  either_as (options.PublishSubscribe named) payload user_header types node name attributes lists table after old new answer
      (opened, opens, numbers) = in_hub payload user_header _ _ _ lists old new opened opens
  either_as (options.Event named) payload user_header types node name attributes lists table after old new answer
      (opened, opens, numbers) = in_hub payload user_header _ _ _ lists old new opened opens
  either_as (options.RequestResponse named) payload user_header types node name attributes lists table after old new answer
      (opened, opens, numbers) = in_hub payload user_header _ _ _ lists old new opened opens

  either_prepared : (prepared : Result (List (List ForeignStep)) AllocError) (payload user_header : Detail) (types : MessageTypeDetails)
      (asked : ServiceAsked) (attributes : Required) (table after : FactoryTable) (old new : Hub T U B D) (answer : Result ℕ Refusal)
      → EitherPrepared prepared payload user_header types asked attributes table old answer after new → Goes old.services new.services
  either_prepared (Err lacking) payload user_header types asked attributes table after old new answer does = none old new does.2
  either_prepared (Ok lists) payload user_header types asked attributes table after old new answer does
      = either_as asked.options payload user_header types asked.node asked.name attributes lists table after old new answer does

  pub either_go : (is_node : Bool) (payload user_header : Detail) (types : MessageTypeDetails) (asked : ServiceAsked)
      (attributes : Required) (steps : List StepBefore) (table after : FactoryTable) (old new : Hub T U B D)
      (answer : Option (Result ℕ Refusal))
      → EitherNumbered is_node payload user_header types asked attributes steps table old answer after new → Goes old.services new.services
  either_go false payload user_header types asked attributes steps table after old new answer either = none old new either.2
  either_go true payload user_header types asked attributes steps table after old new answer
      (inl (refused, told, fit, finds, (is, same, hub))) = none old new hub
  either_go true payload user_header types asked attributes steps table after old new answer
      (inr (prepared, roomier, reply, prepares, either, is)) =
      either_prepared prepared payload user_header types asked attributes roomier after old new reply either

  one_less_at : (number : ℕ) (hub : Hub T U B D) (last : Bool) (fewer less : Hub T U B D)
      → less.services ≡ without_service number hub.services → fewer.services ≡ hub.services
      → Goes hub.services (if last then less else fewer).services
  one_less_at number hub true fewer less is_less same = rw is_less (closing number hub.services)
  one_less_at number hub false fewer less is_less same = still hub.services fewer.services same

  one_less : (number : ℕ) (hub : Hub T U B D) → Goes hub.services (less_one number hub).services
  one_less number hub = one_less_at number hub (is_last number hub.factory_counts) _ _ refl refl

  close_unless : (used : Bool) (number : ℕ) (member : Membership) (table after : FactoryTable) (old new : Hub T U B D)
      (answer : Option (Result (Unit {0}) CloseError)) → ClosesUnless used number member table old answer after new
      → Goes old.services new.services
  close_unless true number member table after old new answer closes = none old new closes.2
  close_unless false number member table after old new answer (closed, (does, is), is_answer, is_after)
      = rw is (one_less member.service.number (record old { table = new.table }))

  close_if : (is_of : Bool) (number : ℕ) (made : MadeFactory) (table after : FactoryTable) (old new : Hub T U B D)
      (answer : Option (Result (Unit {0}) CloseError)) → ClosesIfOf is_of number made table old answer after new
      → Goes old.services new.services
  close_if false number made table after old new answer closes = none old new closes.2
  close_if true number made table after old new answer closes = close_unless _ number (parts_of made).0 table after old new answer closes

  pub close_go : (number : ℕ) (found : Option MadeFactory) (table after : FactoryTable) (old new : Hub T U B D)
      (answer : Option (Result (Unit {0}) CloseError)) → ClosesNumbered number found table old answer after new
      → Goes old.services new.services
  close_go number None table after old new answer closes = none old new closes.2
  close_go number (Some made) table after old new answer closes = close_if _ number made table after old new answer closes

  pub foreign_go : (pattern : MessagingPattern) (name : List ℕ) (types : MessageTypeDetails) (steps : List Named)
      (old new : Hub T U B D) (answer : Result (Unit {0}) HubError) → ActsNamed pattern name types steps old answer new
      → Goes old.services new.services
  foreign_go pattern name types steps old new answer (inl ((acts, is), forms))
      = still old.services new.services (ap (λ hub. hub.services) is)
  foreign_go pattern name types steps old new answer (inr (some, is_answer, is)) = none old new is
