-- Factories are found under the numbers that are answered, until they are closed.
use Rattle.std.proofs.Common.{◌≡◌, ◌∙◌, ℕ, Bool, true, false, List, Option, None, Some, Result, Ok, Err, option_map, refl, sym, ap}
use Rattle.std.proofs.Common.{arith, inl, inr}
use Rattle.std.specs.Prelude.{nat_eq}
use Rattle.std.specs.Map.{lookup}
use Rattle.std.specs.declared.alloc.AllocError.{AllocError}
use Rattle.iox_command.specs.Patterns.{pattern_of}
use Rattle.iox_command.specs.declared.refusal.Refusal.{Refusal}
use Rattle.iox_command.specs.declared.refusal.Refusal.TheVariants as refusal
use Rattle.iox_command.specs.declared.service.ServiceOptions.{ServiceOptions}
use Rattle.iox_command.specs.declared.service.ServiceOptions.TheVariants as options
use Rattle.iox_command.specs.declared.step.StepBefore.{StepBefore}
use Rattle.iox_hub_base.specs.DescribeBase.Attributes.{Required}
use Rattle.iox_hub_base.specs.DescribeBase.Detail.{Detail}
use Rattle.iox_hub_base.specs.DescribeBase.declared.attribute.Attribute.{Attribute}
use Rattle.iox_hub_base.specs.DescribeBase.declared.message_type.MessageTypeDetails.{MessageTypeDetails}
use Rattle.iox_hub_base.specs.DescribeBase.declared.pattern.MessagingPattern.{MessagingPattern}
use Rattle.iox_hub_base.specs.DescribeBase.declared.pattern.MessagingPattern.TheVariants as pattern
use Rattle.iox_hub_base.specs.Opening.{Made}
use Rattle.iox_hub_base.specs.declared.hub.Hub.{Hub}
use Rattle.iox_hub_base.specs.Negotiate.declared.factory.Membership.{Membership}
use Rattle.iox_command.specs.NegotiateBase.declared.errors.close.CloseError.{CloseError}
use Rattle.iox_command.specs.NegotiateBase.declared.errors.close.CloseError.TheVariants as closing
use Rattle.iox_negotiate_table.specs.declared.step.ForeignStep.{ForeignStep}
use Rattle.iox_container.proofs.Telling.{found_and_gone}
use Rattle.iox_container.specs.NumberTable.{Rises, value_at, inserted}
use Rattle.iox_hub_commands.specs.Closing.{Leaves, ClosesUnless, ClosesIfOf, ClosesNumbered}
use Rattle.iox_hub_commands.specs.Creating.{CreatesAs, CreatesPrepared, CreatesNumbered}
use Rattle.iox_hub_commands.specs.Either.{EitherAs, EitherPrepared, EitherNumbered}
use Rattle.iox_hub_commands.specs.FactoryLaws.{AllStay, OthersStay, IsFound, IsGone, FoundUntilClosed}
use Rattle.iox_hub_commands.specs.Refusing.{create_refused}
use Rattle.iox_hub_commands.specs.ServicesNumbering.{Prepares, Numbers}
use Rattle.iox_hub_commands.specs.Opening.{OpensAs, OpensPrepared, OpensNumbered}
use Rattle.iox_hub_commands.specs.ServicesTables.{FactoryTable, SameNumbers, pattern_in, parts_of}
use Rattle.iox_hub_commands.specs.declared.services.asked.ServiceAsked.{ServiceAsked}
use Rattle.iox_hub_commands.specs.declared.services.made.MadeFactory.{MadeFactory}
use Rattle.iox_hub_commands.proofs.Unused.{leaves_unused}

same_finds : (old new : FactoryTable) → new.entries ≡ old.entries → AllStay old new
same_finds old new is number = ap (λ entries. lookup (nat_eq number) entries) is

equal_finds : (old new : FactoryTable) → new ≡ old → AllStay old new
equal_finds old new is number = ap (λ table. value_at table number) is

-- room was made first
roomier_found : (pattern : MessagingPattern) (old roomier : FactoryTable) (answer : Option (Result ℕ Refusal)) (after : FactoryTable)
    → roomier.entries ≡ old.entries → IsFound pattern roomier answer after → IsFound pattern old answer after
roomier_found pattern old roomier None after is stays = λ number. stays number ∙ same_finds old roomier is number
roomier_found pattern old roomier (Some (Err refusal)) after is stays = λ number. stays number ∙ same_finds old roomier is number
roomier_found pattern old roomier (Some (Ok number)) after is (nothing, found, others) =
    (sym (same_finds old roomier is number) ∙ nothing, found, λ other differs. others other differs ∙ same_finds old roomier is other)

-- a factory gets the next number
put_found : (table after : FactoryTable) (factory : MadeFactory) (number : ℕ) → number ≡ table.next → after ≡ inserted table factory
    → Rises 1 table.entries table.next
    → (value_at table number ≡ None) × (value_at after number ≡ Some factory) × OthersStay number table after
put_found table after factory number is is_new rises = (
  ap (λ n. value_at table n) is ∙ (found_and_gone MadeFactory).not_given table table.next rises (omega arith),
  ap (λ n. value_at after n) is ∙ ap (λ one. value_at one table.next) is_new ∙ (found_and_gone MadeFactory).put table factory rises,
  λ other differs. ap (λ one. value_at one other) is_new ∙ (found_and_gone MadeFactory).put_others table factory other
      (λ same. differs (same ∙ sym is)),
)

numbers_found : {E : Type 0} (pattern : MessagingPattern) (refusal : E → Refusal) (opened : Result Made E) (table after : FactoryTable)
    (answer : Result ℕ Refusal) → Rises 1 table.entries table.next
    → Numbers pattern refusal opened table answer after → IsFound pattern table (Some answer) after
numbers_found pattern refusal (Ok parts) table after (Ok number) rises (factory, is_pattern, is_parts, is_new, is_answer, form) =
    let is : number ≡ table.next = cc in
    let (nothing, there, others) = put_found table after factory number is is_new rises in
    (nothing, ap (λ found. option_map pattern_in found) there ∙ ap Some is_pattern, others)
numbers_found pattern refusal (Ok parts) table after (Err other) rises (factory, is_pattern, is_parts, is_new, is_answer, form) = cc
numbers_found pattern refusal (Err error) table after (Ok number) rises (is_answer, is_new) = cc
numbers_found pattern refusal (Err error) table after (Err other) rises (is_answer, is_new) = equal_finds table after is_new

-- a refusal, and no answer
refused_found : (pattern : MessagingPattern) (refusal : Refusal) (table after : FactoryTable) (answer : Result ℕ Refusal)
    → answer ≡ Err refusal → after ≡ table → IsFound pattern table (Some answer) after
refused_found pattern refusal table after (Ok number) is same = cc
refused_found pattern refusal table after (Err other) is same = equal_finds table after same

skipped_found : (pattern : MessagingPattern) (table after : FactoryTable) (answer : Option (Result ℕ Refusal)) → answer ≡ None
    → after ≡ table → IsFound pattern table answer after
skipped_found pattern table after answer is same = rw is (equal_finds table after same)

prepared_rises : (name : List ℕ) (types : MessageTypeDetails) (steps : List StepBefore) (old new : FactoryTable)
    (prepared : Result (List (List ForeignStep)) AllocError) → Prepares name types steps old prepared new → SameNumbers old new
prepared_rises name types steps old new (Ok lists) prepares = prepares.0
prepared_rises name types steps old new (Err lacking) prepares = prepares.0

-- what follows once all is made ready
answered_found : (pattern : MessagingPattern) (old roomier after : FactoryTable) (reply : Result ℕ Refusal)
    (answer : Option (Result ℕ Refusal)) → SameNumbers old roomier → Rises 1 old.entries old.next → answer ≡ Some reply
    → (Rises 1 roomier.entries roomier.next → IsFound pattern roomier (Some reply) after) → IsFound pattern old answer after
answered_found pattern old roomier after reply answer (entries, next) rises is found
    = rw is (roomier_found pattern old roomier (Some reply) after entries (found (rw (entries, next) rises)))

module _ {T U B D : Type 0} (payload user_header : Detail) (types : MessageTypeDetails) where
  create_as : (named : ServiceOptions) (node : ℕ) (name : List ℕ) (attributes : List Attribute) (lists : List (List ForeignStep))
      (table after : FactoryTable) (old new : Hub T U B D) (answer : Result ℕ Refusal) → Rises 1 table.entries table.next
      → CreatesAs named payload user_header types node name attributes lists table old answer after new
      → IsFound (pattern_of named) table (Some answer) after
  create_as (options.PublishSubscribe named) node name attributes lists table after old new answer rises (opened, opens, numbers)
      = numbers_found pattern.PublishSubscribe refusal.PublishSubscribeCreate opened table after answer rises numbers
  create_as (options.Event named) node name attributes lists table after old new answer rises (opened, opens, numbers)
      = numbers_found pattern.Event refusal.EventCreate opened table after answer rises numbers
  create_as (options.RequestResponse named) node name attributes lists table after old new answer rises (opened, opens, numbers)
      = numbers_found pattern.RequestResponse refusal.RequestResponseCreate opened table after answer rises numbers

  create_prepared : (prepared : Result (List (List ForeignStep)) AllocError) (asked : ServiceAsked) (attributes : List Attribute)
      (table after : FactoryTable) (old new : Hub T U B D) (answer : Result ℕ Refusal) → Rises 1 table.entries table.next
      → CreatesPrepared prepared payload user_header types asked attributes table old answer after new
      → IsFound (pattern_of asked.options) table (Some answer) after
  create_prepared (Err lacking) asked attributes table after old new answer rises (is, same, hub)
      = refused_found (pattern_of asked.options) _ table after answer is same
  create_prepared (Ok lists) asked attributes table after old new answer rises creates
      = create_as asked.options asked.node asked.name attributes lists table after old new answer rises creates

  created : (is_there : Bool) (asked : ServiceAsked) (attributes : List Attribute) (steps : List StepBefore) (table : FactoryTable)
      (old : Hub T U B D) (answer : Option (Result ℕ Refusal)) (after : FactoryTable) (new : Hub T U B D)
      → Rises 1 table.entries table.next → CreatesNumbered is_there payload user_header types asked attributes steps table old answer
      after new → IsFound (pattern_of asked.options) table answer after
  created false asked attributes steps table old answer after new rises (is, same, hub)
      = skipped_found (pattern_of asked.options) table after answer is same
  created true asked attributes steps table old answer after new rises (Some failure, unfit, (is, same, hub)) =
      rw is (refused_found (pattern_of asked.options) _ table after (Err (create_refused asked.options failure)) refl same)
  created true asked attributes steps table old answer after new rises (None, fit, (prepared, roomier, reply, prepares, creates, is)) =
      answered_found (pattern_of asked.options) table roomier after reply answer
      (prepared_rises asked.name types steps table roomier prepared prepares) rises is
      (λ rises. create_prepared prepared asked attributes roomier after old new reply rises creates)

  open_as : (named : ServiceOptions) (node : ℕ) (name : List ℕ) (attributes : Required) (lists : List (List ForeignStep))
      (table after : FactoryTable) (old new : Hub T U B D) (answer : Result ℕ Refusal) → Rises 1 table.entries table.next
      → OpensAs named payload user_header types node name attributes lists table old answer after new
      → IsFound (pattern_of named) table (Some answer) after
  open_as (options.PublishSubscribe named) node name attributes lists table after old new answer rises (opened, opens, numbers)
      = numbers_found pattern.PublishSubscribe refusal.PublishSubscribeOpen opened table after answer rises numbers
  open_as (options.Event named) node name attributes lists table after old new answer rises (opened, opens, numbers)
      = numbers_found pattern.Event refusal.EventOpen opened table after answer rises numbers
  open_as (options.RequestResponse named) node name attributes lists table after old new answer rises (opened, opens, numbers)
      = numbers_found pattern.RequestResponse refusal.RequestResponseOpen opened table after answer rises numbers

  open_prepared : (prepared : Result (List (List ForeignStep)) AllocError) (asked : ServiceAsked) (attributes : Required)
      (table after : FactoryTable) (old new : Hub T U B D) (answer : Result ℕ Refusal) → Rises 1 table.entries table.next
      → OpensPrepared prepared payload user_header types asked attributes table old answer after new
      → IsFound (pattern_of asked.options) table (Some answer) after
  open_prepared (Err lacking) asked attributes table after old new answer rises (is, same, hub)
      = refused_found (pattern_of asked.options) _ table after answer is same
  open_prepared (Ok lists) asked attributes table after old new answer rises opens
      = open_as asked.options asked.node asked.name attributes lists table after old new answer rises opens

  opened : (is_there : Bool) (asked : ServiceAsked) (attributes : Required) (steps : List StepBefore) (table : FactoryTable)
      (old : Hub T U B D) (answer : Option (Result ℕ Refusal)) (after : FactoryTable) (new : Hub T U B D)
      → Rises 1 table.entries table.next → OpensNumbered is_there payload user_header types asked attributes steps table old answer
      after new → IsFound (pattern_of asked.options) table answer after
  opened false asked attributes steps table old answer after new rises (is, same, hub)
      = skipped_found (pattern_of asked.options) table after answer is same
  opened true asked attributes steps table old answer after new rises (inl (told, finds, (is, same, hub))) =
      rw is (refused_found (pattern_of asked.options) told table after (Err told) refl same)
  opened true asked attributes steps table old answer after new rises (inr (prepared, roomier, reply, prepares, opens, is)) =
      answered_found (pattern_of asked.options) table roomier after reply answer
      (prepared_rises asked.name types steps table roomier prepared prepares) rises is
      (λ rises. open_prepared prepared asked attributes roomier after old new reply rises opens)

  either_as : (named : ServiceOptions) (node : ℕ) (name : List ℕ) (attributes : Required) (lists : List (List ForeignStep))
      (table after : FactoryTable) (old new : Hub T U B D) (answer : Result ℕ Refusal) → Rises 1 table.entries table.next
      → EitherAs named payload user_header types node name attributes lists table old answer after new
      → IsFound (pattern_of named) table (Some answer) after
  either_as (options.PublishSubscribe named) node name attributes lists table after old new answer rises (opened, opens, numbers)
      = numbers_found pattern.PublishSubscribe refusal.PublishSubscribeOpenOrCreate opened table after answer rises numbers
  either_as (options.Event named) node name attributes lists table after old new answer rises (opened, opens, numbers)
      = numbers_found pattern.Event refusal.EventOpenOrCreate opened table after answer rises numbers
  either_as (options.RequestResponse named) node name attributes lists table after old new answer rises (opened, opens, numbers)
      = numbers_found pattern.RequestResponse refusal.RequestResponseOpenOrCreate opened table after answer rises numbers

  either_prepared : (prepared : Result (List (List ForeignStep)) AllocError) (asked : ServiceAsked) (attributes : Required)
      (table after : FactoryTable) (old new : Hub T U B D) (answer : Result ℕ Refusal) → Rises 1 table.entries table.next
      → EitherPrepared prepared payload user_header types asked attributes table old answer after new
      → IsFound (pattern_of asked.options) table (Some answer) after
  either_prepared (Err lacking) asked attributes table after old new answer rises (is, same, hub)
      = refused_found (pattern_of asked.options) _ table after answer is same
  either_prepared (Ok lists) asked attributes table after old new answer rises either
      = either_as asked.options asked.node asked.name attributes lists table after old new answer rises either

  opened_or_created : (is_there : Bool) (asked : ServiceAsked) (attributes : Required) (steps : List StepBefore) (table : FactoryTable)
      (old : Hub T U B D) (answer : Option (Result ℕ Refusal)) (after : FactoryTable) (new : Hub T U B D)
      → Rises 1 table.entries table.next → EitherNumbered is_there payload user_header types asked attributes steps table old answer
      after new → IsFound (pattern_of asked.options) table answer after
  opened_or_created false asked attributes steps table old answer after new rises (is, same, hub)
      = skipped_found (pattern_of asked.options) table after answer is same
  opened_or_created true asked attributes steps table old answer after new rises (inl (refused, told, fit, finds, (is, same, hub))) =
      rw is (refused_found (pattern_of asked.options) told table after (Err told) refl same)
  opened_or_created true asked attributes steps table old answer after new rises (inr (prepared, roomier, reply, prepares, either, is)) =
      answered_found (pattern_of asked.options) table roomier after reply answer
      (prepared_rises asked.name types steps table roomier prepared prepares) rises is
      (λ rises. either_prepared prepared asked attributes roomier after old new reply rises either)

-- a factory is closed
module _ {T U B D : Type 0} where
  left : (closed : Result (Unit {0}) CloseError) (number : ℕ) (member : Membership) (table after : FactoryTable) (old new : Hub T U B D)
      → Leaves member old closed new → (value_at after number ≡ None) × OthersStay number table after
      → IsGone number table (Some closed) after
  left (Ok done) number member table after old new leaves gone = gone
  left (Err closing.NotThisStorage) number member table after old new leaves gone = gone
  left (Err closing.UnableToRemoveDescription) number member table after old new leaves gone = gone
  left (Err closing.UnableToRemoveSegment) number member table after old new leaves gone = gone
  left (Err closing.StillInUse) number member table after old new leaves gone = absurd (leaves_unused member old new leaves)

  close_unless : (used : Bool) (number : ℕ) (member : Membership) (table : FactoryTable) (old : Hub T U B D)
      (answer : Option (Result (Unit {0}) CloseError)) (after : FactoryTable) (new : Hub T U B D) → Rises 1 table.entries table.next
      → ClosesUnless used number member table old answer after new → IsGone number table answer after
  close_unless true number member table old answer after new rises (is, same, hub) = rw is (equal_finds table after same)
  close_unless false number member table old answer after new rises (closed, leaves, is, is_after) =
      rw is (left closed number member table after old new leaves (
        ap (λ one. value_at one number) is_after ∙ (found_and_gone MadeFactory).gone table number rises,
        λ other differs. ap (λ one. value_at one other) is_after ∙ (found_and_gone MadeFactory).gone_others table number other differs,
      ))

  close_if : (is_of : Bool) (number : ℕ) (made : MadeFactory) (table : FactoryTable) (old : Hub T U B D)
      (answer : Option (Result (Unit {0}) CloseError)) (after : FactoryTable) (new : Hub T U B D) → Rises 1 table.entries table.next
      → ClosesIfOf is_of number made table old answer after new → IsGone number table answer after
  close_if false number made table old answer after new rises (is, same, hub) = rw is (equal_finds table after same)
  close_if true number made table old answer after new rises closes
      = close_unless _ number (parts_of made).0 table old answer after new rises closes

  closed : (number : ℕ) (found : Option MadeFactory) (table : FactoryTable) (old : Hub T U B D)
      (answer : Option (Result (Unit {0}) CloseError)) (after : FactoryTable) (new : Hub T U B D) → Rises 1 table.entries table.next
      → ClosesNumbered number found table old answer after new → IsGone number table answer after
  closed number None table old answer after new rises (is, same, hub) = rw is (equal_finds table after same)
  closed number (Some made) table old answer after new rises closes = close_if _ number made table old answer after new rises closes

pub found_until_closed : (T U B D : Type 0) → FoundUntilClosed T U B D
found_until_closed T U B D = record {
  created = λ is_there payload user_header types asked attributes steps table old answer after new rises creates. created payload
      user_header types is_there asked attributes steps table old answer after new rises creates;
  opened = λ is_there payload user_header types asked attributes steps table old answer after new rises opens. opened payload
      user_header types is_there asked attributes steps table old answer after new rises opens;
  opened_or_created = λ is_there payload user_header types asked attributes steps table old answer after new rises either.
      opened_or_created payload user_header types is_there asked attributes steps table old answer after new rises either;
  closed = λ number table old answer after new rises closes. closed number (value_at table number) table old answer after new rises closes;
}
