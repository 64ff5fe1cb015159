-- How many numbers a command takes of the table of services, and what it leaves of the hub's config and nodes.
use Rattle.std.proofs.Common.{◌≡◌, ℕ, zero, suc, ◌+◌, ◌-◌, ◌*◌, ◌≤◌, Bool, true, false, cond, List, [], ◌∷◌, Option, None, Some, Result}
use Rattle.std.proofs.Common.{Ok, Err}
use Rattle.std.proofs.Common.{refl, sym, ap, subst, arith, ◌∙◌, inl, inr, if◌then◌else◌}
use Rattle.std.proofs.lemmas.List.{length-map}
use Rattle.std.proofs.lemmas.Map.Lookups.{exact_unsigned}
use Rattle.std.specs.BTreeMap.{is_at}
use Rattle.std.specs.Cmp.{nat_cmp_total}
use Rattle.std.specs.List.{filter}
use Rattle.std.specs.Ordering.{nat_cmp}
use Rattle.std.specs.Prelude.{drop, length, map, min, nat_eq}
use Rattle.std.specs.declared.alloc.AllocError.{AllocError}
use Rattle.iox_command.specs.NegotiateBase.Access.{Access, Leave, Lock, Look, MakeSegment, OpenSegment, Publish, RemoveDescription}
use Rattle.iox_command.specs.NegotiateBase.Access.{RemoveSegment, Unlock}
use Rattle.iox_command.specs.NegotiateBase.DescribeBase.Attributes.{Required}
use Rattle.iox_command.specs.NegotiateBase.DescribeBase.Detail.{Detail}
use Rattle.iox_command.specs.NegotiateBase.DescribeBase.declared.attribute.Attribute.{Attribute}
use Rattle.iox_command.specs.NegotiateBase.DescribeBase.declared.hash.ServiceHash.{ServiceHash}
use Rattle.iox_command.specs.NegotiateBase.DescribeBase.declared.message_type.MessageTypeDetails.{MessageTypeDetails}
use Rattle.iox_command.specs.NegotiateBase.DescribeBase.declared.pattern.MessagingPattern.{MessagingPattern}
use Rattle.iox_command.specs.NegotiateBase.DescribeSettings.Agreement.{Agreement as Description}
use Rattle.iox_command.specs.NegotiateBase.Opening.{Opens}
use Rattle.iox_command.specs.NegotiateBase.Runs.{Went}
use Rattle.iox_command.specs.NegotiateBase.declared.answer.LeaveAnswer.{LeaveAnswer}
use Rattle.iox_command.specs.NegotiateBase.declared.answer.LeaveAnswer.TheVariants as leaving
use Rattle.iox_command.specs.NegotiateBase.declared.answer.RemoveAnswer.{RemoveAnswer}
use Rattle.iox_command.specs.NegotiateBase.declared.answer.RemoveAnswer.TheVariants as removing
use Rattle.iox_command.specs.NegotiateBase.declared.errors.close.CloseError.{CloseError}
use Rattle.iox_command.specs.NegotiateBase.declared.failure.CreateFailure.{CreateFailure}
use Rattle.iox_command.specs.NegotiateBase.declared.failure.OpenFailure.{OpenFailure}
use Rattle.iox_command.specs.NegotiateBase.declared.failure.OpenOrCreateFailure.{OpenOrCreateFailure}
use Rattle.iox_command.specs.declared.refusal.HubError.{HubError}
use Rattle.iox_command.specs.declared.refusal.Refusal.{Refusal}
use Rattle.iox_command.specs.declared.service.ServiceOptions.{ServiceOptions}
use Rattle.iox_command.specs.declared.service.ServiceOptions.TheVariants as options
use Rattle.iox_command.specs.declared.step.ForeignStep.{ForeignStep as Named}
use Rattle.iox_command.specs.declared.step.StepBefore.{StepBefore}
use Rattle.iox_domain.specs.Kept.{forgotten, kept}
use Rattle.iox_hub_base.specs.Closing.{is_last, less_one}
use Rattle.iox_hub_base.specs.Hubs.{factories_of}
use Rattle.iox_hub_base.specs.Opening.{Enters, Made, OpensInHub, Settles}
use Rattle.iox_hub_base.specs.ServicesOpening.{without_service}
use Rattle.iox_hub_base.specs.declared.hub.Hub.{Hub}
use Rattle.iox_hub_commands.specs.Closing.{ClosesIfOf, ClosesNumbered, ClosesUnless}
use Rattle.iox_hub_commands.specs.Creating.{CreatesAs, CreatesNumbered, CreatesPrepared}
use Rattle.iox_hub_commands.specs.Either.{EitherAs, EitherNumbered, EitherPrepared}
use Rattle.iox_hub_commands.specs.Foreign.{ActsNamed}
use Rattle.iox_hub_commands.specs.Opening.{OpensAs, OpensNumbered, OpensPrepared}
use Rattle.iox_hub_commands.specs.ServicesNumbering.{Prepares}
use Rattle.iox_hub_commands.specs.ServicesTables.{FactoryTable, parts_of}
use Rattle.iox_hub_commands.specs.Steps.{from, last_access, list_before, list_of, lists_of, step_of}
use Rattle.iox_hub_commands.specs.declared.services.asked.ServiceAsked.{ServiceAsked}
use Rattle.iox_hub_commands.specs.declared.services.made.MadeFactory.{MadeFactory}
use Rattle.iox_negotiate.proofs.Changes.{changes, hash_of}
use Rattle.iox_negotiate.proofs.Maps.{Rising, insert-rising, remove-rising}
use Rattle.iox_negotiate.proofs.NegotiateBase.Counting.{creates-length}
use Rattle.iox_negotiate.proofs.NegotiateBase.RoundLengths.{either-rounds-length, opens-length}
use Rattle.iox_negotiate.specs.Factory.{Closes, LeaveGoes, RemovalGoes, Removes, RemovesSegment}
use Rattle.iox_negotiate.specs.Histories.{Accesses, Steps as StepsOf}
use Rattle.iox_negotiate.specs.Negotiation as built
use Rattle.iox_negotiate.specs.declared.factory.Membership.{Membership}
use Rattle.iox_negotiate_machine.proofs.Acted.{grows}
use Rattle.iox_negotiate_table.specs.Contents.{Contents}
use Rattle.iox_negotiate_table.specs.Sights.{Sight}
use Rattle.iox_negotiate_table.specs.Stepped.{ActsAll, GoesOn, Preceded, Steps, SteppedSight, next_list}
use Rattle.iox_negotiate_table.specs.declared.step.ForeignStep.{ForeignStep}

-- ---- lists of steps

-- how many steps are in some lists
abbrev steps_left : List (List ForeignStep) → ℕ
steps_left [] = 0
steps_left (list ∷ lists) = length list + steps_left lists

steps_spent : (lists : List (List ForeignStep)) → steps_left (drop 1 lists) + length (next_list lists) ≡ steps_left lists
steps_spent [] = refl
steps_spent (list ∷ lists) = omega arith

filter_few : {X : Type 0} (test : X → Bool) (xs : List X) → length (filter test xs) ≤ length xs
filter_few test [] = omega arith
filter_few test (x ∷ xs) = here (test x) (filter_few test xs)
  where
    here : (b : Bool) → length (filter test xs) ≤ length xs
        → length (cond b (x ∷ filter test xs) (filter test xs)) ≤ length (x ∷ xs)
    here true few = omega (arith, few)
    here false few = omega (arith, few)

module _ (name : List ℕ) (types : MessageTypeDetails) (steps : List StepBefore) where
  before_few : (access : ℕ) → length (list_before name types steps access) ≤ length steps
  before_few access =
      let some = filter (λ (before : StepBefore). nat_eq before.access access) steps in
      let same = length-map some (λ (before : StepBefore). step_of name types before.step) in
      let few = filter_few (λ (before : StepBefore). nat_eq before.access access) steps in omega (arith, same, few)

  -- n times as many
  abbrev times_most : ℕ → ℕ
  times_most zero = 0
  times_most (suc count) = length steps + times_most count

  more_most : (one other : ℕ) → one ≤ other → times_most one ≤ times_most other
  more_most zero other less = omega arith
  more_most (suc one) zero less = omega (arith, less)
  more_most (suc one) (suc other) less = let rest = more_most one other (omega (arith, less)) in omega (arith, rest)

  from_few : (first count : ℕ) → steps_left (map (list_before name types steps) (from first count)) ≤ times_most count
  from_few first zero = omega arith
  from_few first (suc count) = let here = before_few first in let rest = from_few (first + 1) count in omega (arith, here, rest)

  lists_few : steps_left (lists_of name types steps) ≤ 16 * length steps
  lists_few =
      let some = from_few 1 (min (last_access steps) 16) in
      let more = more_most (min (last_access steps) 16) 16 (omega arith) in omega (arith, some, more)

-- ---- storage operations

one_sight : (access : Access) (old new : Contents) → Sight old access new → new.next ≤ old.next + 1
one_sight access old new sight = grows (Accesses access) (hash_of (Accesses access)) old new (changes old new (Accesses access) sight)

acts_few : (hash : ServiceHash) (steps : List ForeignStep) (old new : Contents) (result : Result (Unit {0}) AllocError)
    → ActsAll hash steps old result new → new.next ≤ old.next + length steps
acts_few hash [] old new result h = let same = ap (λ (table : Contents). table.next) h.1 in omega (arith, same)
acts_few hash (step ∷ steps) old new result (mid, first, acts, rest) =
    there first (grows (StepsOf hash step) hash old mid (changes old mid (StepsOf hash step) (first, acts))) rest
    (λ went. acts_few hash steps mid new result went)
  where
    there : (first : Result (Unit {0}) AllocError) → mid.next ≤ old.next + 1
        → GoesOn first (ActsAll hash steps mid result new) ((result ≡ first) × (new ≡ mid))
        → (ActsAll hash steps mid result new → new.next ≤ mid.next + length steps) → new.next ≤ old.next + length (step ∷ steps)
    there (Ok done) less rest later = let more = later rest in omega (arith, less, more)
    there (Err lacking) less rest later = let same = ap (λ (table : Contents). table.next) rest.1 in omega (arith, less, same)

-- the number that comes next, and the steps that are still to run
abbrev weighed : Steps → ℕ
weighed steps = steps.table.next + steps_left steps.lists

preceded_few : (hash : ServiceHash) (access : Access) (lacking : Type 0) (old new : Steps) → Preceded hash access lacking old new
    → weighed new ≤ weighed old + 1
preceded_few hash access lacking old new (mid, happened, acts, goes, lists) = there happened goes
  where
    few : mid.next ≤ old.table.next + length (next_list old.lists)
    few = acts_few hash (next_list old.lists) old.table mid happened acts

    left : steps_left new.lists + length (next_list old.lists) ≡ steps_left old.lists
    left = ap (λ (it : List (List ForeignStep)). steps_left it + length (next_list old.lists)) lists ∙ steps_spent old.lists

    there : (happened : Result (Unit {0}) AllocError) → GoesOn happened (Sight mid access new.table) (lacking × (new.table ≡ mid))
        → weighed new ≤ weighed old + 1
    there (Ok done) sight = let one = one_sight access mid new.table sight in omega (arith, one, few, left)
    there (Err lacks) goes = let same = ap (λ (table : Contents). table.next) goes.1 in omega (arith, same, few, left)

alone_few : (access : Access) (old new : Steps) → Sight old.table access new.table → new.lists ≡ old.lists → weighed new ≤ weighed old + 1
alone_few access old new sight lists =
    let one = one_sight access old.table new.table sight in let same = ap steps_left lists in omega (arith, one, same)

stepped_few : (access : Access) (old new : Steps) → SteppedSight old access new → weighed new ≤ weighed old + 1
stepped_few (Look hash answer) old new h = preceded_few hash (Look hash answer) _ old new h
stepped_few (Lock hash node answer) old new h = preceded_few hash (Lock hash node answer) _ old new h
stepped_few (MakeSegment hash number node max_nodes answer) old new h =
    preceded_few hash (MakeSegment hash number node max_nodes answer) _ old new h
stepped_few (Publish hash number bytes answer) old new h = preceded_few hash (Publish hash number bytes answer) _ old new h
stepped_few (OpenSegment hash number node answer) old new h = preceded_few hash (OpenSegment hash number node answer) _ old new h
stepped_few (Unlock hash number) old new h = alone_few (Unlock hash number) old new h.0 h.1
stepped_few (Leave hash number node answer) old new h = alone_few (Leave hash number node answer) old new h.0 h.1
stepped_few (RemoveDescription hash number answer) old new h = alone_few (RemoveDescription hash number answer) old new h.0 h.1
stepped_few (RemoveSegment hash number answer) old new h = alone_few (RemoveSegment hash number answer) old new h.0 h.1

went_few : (made : List Access) (old new : Steps) → Went SteppedSight old made new → weighed new ≤ weighed old + length made
went_few [] old new same = let is = ap weighed same in omega (arith, is)
went_few (access ∷ made) old new (mid, stepped, went) =
    let one = stepped_few access old mid stepped in let rest = went_few made mid new went in omega (arith, one, rest)

table_few : (made : List Access) (old new : Contents) → Went Sight old made new → new.next ≤ old.next + length made
table_few [] old new same = let is = ap (λ (table : Contents). table.next) same in omega (arith, is)
table_few (access ∷ made) old new (mid, sight, went) =
    let one = one_sight access old mid sight in let rest = table_few made mid new went in omega (arith, one, rest)

-- ---- a factory is closed in three storage operations

segment_few : (hash : ServiceHash) (number : ℕ) (made : List Access) (result : Result (Unit {0}) CloseError)
    → RemovesSegment hash number made result → length made ≤ 1
segment_few hash number (RemoveSegment under of answer ∷ rest) result h =
    let none = ap (λ (r : List Access). length r) h.2 in omega (arith, none)
segment_few hash number made result h = absurd h

removal_few : (hash : ServiceHash) (number : ℕ) (answer : RemoveAnswer) (made : List Access) (result : Result (Unit {0}) CloseError)
    → RemovalGoes hash number answer made result → length made ≤ 1
removal_few hash number removing.Removed made result h = segment_few hash number made result h
removal_few hash number removing.Fault made result h = let none = ap (λ (r : List Access). length r) h.0 in omega (arith, none)

removes_few : (hash : ServiceHash) (number : ℕ) (made : List Access) (result : Result (Unit {0}) CloseError)
    → Removes hash number made result → length made ≤ 2
removes_few hash number (RemoveDescription under of answer ∷ rest) result h =
    let some = removal_few hash number answer rest result h.2 in omega (arith, some)
removes_few hash number made result h = absurd h

leave_few : (hash : ServiceHash) (number : ℕ) (answer : LeaveAnswer) (made : List Access) (result : Result (Unit {0}) CloseError)
    → LeaveGoes hash number answer made result → length made ≤ 2
leave_few hash number leaving.Stays made result h = let none = ap (λ (r : List Access). length r) h.0 in omega (arith, none)
leave_few hash number leaving.Emptied made result h = removes_few hash number made result h

closes_few : (hash : ServiceHash) (number node : ℕ) (made : List Access) (result : Result (Unit {0}) CloseError)
    → Closes hash number node made result → length made ≤ 3
closes_few hash number node (Leave under of by answer ∷ rest) result h =
    let some = leave_few hash number answer rest result h.3 in omega (arith, some)
closes_few hash number node made result h = absurd h

-- ---- calls

created_few : {E : Type 0} (storage : ℕ) (hash : ServiceHash) (node : ℕ) (agreed : Description) (is_within is_too_long : Type 0)
    (error : CreateFailure → E) (before after : Steps) (came : Result Membership E)
    → built.Creates SteppedSight storage hash node agreed is_within is_too_long error before came after
    → weighed after ≤ weighed before + 14
created_few storage hash node agreed is_within is_too_long error before after came creates =
    let does = creates.negotiated.done in
    let went = went_few does.made before after does.went in
    let some = creates-length hash node agreed creates.refusal does.made creates.negotiated.answer does.told in omega (arith, went, some)

opened_few : {V E : Type 0} (storage : ℕ) (hash : ServiceHash) (node : ℕ) (verdict : Description → Result (Unit {0}) V)
    (error : OpenFailure V → E) (before after : Steps) (came : Result Membership E)
    → built.Negotiates SteppedSight storage node error (λ made answer. Opens hash node verdict made answer) before came after
    → weighed after ≤ weighed before + 14
opened_few {V} storage hash node verdict error before after came opens =
    let does = opens.done in
    let went = went_few does.made before after does.went in
    let some = opens-length V hash node verdict does.made opens.answer does.told in omega (arith, went, some)

either_few : {V E : Type 0} (storage : ℕ) (hash : ServiceHash) (node : ℕ) (verdict : Description → Result (Unit {0}) V)
    (agreed : Description) (is_within is_too_long : Type 0) (error : OpenOrCreateFailure V → E) (before after : Steps)
    (came : Result Membership E)
    → built.Either SteppedSight storage hash node verdict agreed is_within is_too_long error before came after
    → weighed after ≤ weighed before + 14
either_few {V} storage hash node verdict agreed is_within is_too_long error before after came either =
    let does = either.negotiated.done in
    let went = went_few does.made before after does.went in
    let some = either-rounds-length V hash node verdict agreed either.refusal does.made either.negotiated.answer does.told in
    omega (arith, went, some)

short_lists : (name : List ℕ) (types : MessageTypeDetails) (steps : List StepBefore) (table roomier : FactoryTable)
    (lists : List (List ForeignStep)) → Prepares name types steps table (Ok lists) roomier
    → steps_left lists ≤ 16 * length steps
short_lists name types steps table roomier lists (same, are, room, forms) = rw are (lists_few name types steps)

-- ---- a hub

-- how many numbers a call with n steps takes
abbrev pub most_taken : ℕ → ℕ
most_taken count = 17 + 16 * count

module _ {T U B D : Type 0} where
  -- A command takes at most n numbers of the table; the config and the nodes stay, and counts of factories stand by rising numbers
  -- where they did.
  pub record TakesFew (few : ℕ) (old new : Hub T U B D) : Type 0 where
    pub buffer : new.expired_connection_buffer ≡ old.expired_connection_buffer
    pub nodes : new.nodes ≡ old.nodes
    pub locks : new.table.next ≤ old.table.next + few
    pub rising : Rising nat_cmp old.factory_counts → Rising nat_cmp new.factory_counts

  pub takes_none : (few : ℕ) (old new : Hub T U B D) → new ≡ old → TakesFew few old new
  takes_none few old new same =
      let locks = ap (λ (hub : Hub T U B D). hub.table.next) same in record {
        buffer = ap (λ (hub : Hub T U B D). hub.expired_connection_buffer) same;
        nodes = ap (λ (hub : Hub T U B D). hub.nodes) same;
        locks = omega (arith, locks);
        rising = λ rises. subst (λ (hub : Hub T U B D). Rising nat_cmp hub.factory_counts) (sym same) rises;
      }

  pub takes_more : (few more : ℕ) (old new : Hub T U B D) → few ≤ more → TakesFew few old new → TakesFew more old new
  takes_more few more old new less takes =
      let some = takes.locks in
      record { buffer = takes.buffer; nodes = takes.nodes; locks = omega (arith, some, less); rising = takes.rising }

  enters_few : (payload user_header : Detail) (member : Membership) (entered : Result Made Bool) (old new : Hub T U B D)
      → Enters payload user_header member old entered new → TakesFew 3 old new
  enters_few payload user_header member (Ok made) old new (is_made, opens, is) =
      let locks = ap (λ (hub : Hub T U B D). hub.table.next) is in record {
        buffer = ap (λ (hub : Hub T U B D). hub.expired_connection_buffer) is;
        nodes = ap (λ (hub : Hub T U B D). hub.nodes) is;
        locks = omega (arith, locks);
        rising = λ rises. subst (λ (hub : Hub T U B D). Rising nat_cmp hub.factory_counts) (sym is)
            (insert-rising nat_cmp nat_cmp_total (λ x y same. exact_unsigned x y same) member.service.number _ old.factory_counts rises);
      }
  enters_few payload user_header member (Err was_new) old new (is_new, wants, ((closed, does), is)) =
      let made = table_few does.made old.table new.table does.went in
      let some = closes_few member.service.description.service_hash member.service.number member.node does.made closed does.told in
      let locks = ap (λ (hub : Hub T U B D). hub.table.next) is in record {
        buffer = ap (λ (hub : Hub T U B D). hub.expired_connection_buffer) is;
        nodes = ap (λ (hub : Hub T U B D). hub.nodes) is;
        locks = omega (arith, made, some);
        rising = λ rises. subst (λ (hub : Hub T U B D). Rising nat_cmp hub.factory_counts) (sym is) rises;
      }

  settles_few : {E : Type 0} (payload user_header : Detail) (lacking : Bool → E) (answer : Result Membership E) (old new : Hub T U B D)
      (result : Result Made E) → Settles payload user_header lacking answer old result new → TakesFew 3 old new
  settles_few payload user_header lacking (Err error) old new result settles = takes_none 3 old new settles.1
  settles_few payload user_header lacking (Ok member) old new result (entered, enters, is) =
      enters_few payload user_header member entered old new enters

  module _ (count : ℕ) where
    in_hub : {E : Type 0} (payload user_header : Detail) (can_be : Type 0) (lacking : Bool → E)
        (negotiates : Steps → Result Membership E → Steps → Type 0)
        (lists : List (List ForeignStep)) (old new : Hub T U B D) (result : Result Made E) → steps_left lists ≤ 16 * count
        → OpensInHub payload user_header can_be lacking negotiates lists old result new
        → ((before after : Steps) (came : Result Membership E) → negotiates before came after → weighed after ≤ weighed before + 14)
        → TakesFew (most_taken count) old new
    in_hub payload user_header can_be lacking negotiates lists old new result short (inr (can, is, same)) few =
        takes_none (most_taken count) old new same
    in_hub payload user_header can_be lacking negotiates lists old new result short (inl opens) few =
        let some = few (record { table = old.table; lists = lists }) opens.mid opens.answer opens.negotiated in
        let rest = settles_few payload user_header lacking opens.answer (record old { table = opens.mid.table }) new result opens.settled in
        let last = rest.locks in
        record { buffer = rest.buffer; nodes = rest.nodes; locks = omega (arith, some, last, short); rising = rest.rising }

  module _ (payload user_header : Detail) (types : MessageTypeDetails) (table after : FactoryTable) (old new : Hub T U B D) where
    create_as : (named : ServiceOptions) (count node : ℕ) (name : List ℕ) (attributes : List Attribute) (lists : List (List ForeignStep))
        (answer : Result ℕ Refusal) → steps_left lists ≤ 16 * count
        → CreatesAs named payload user_header types node name attributes lists table old answer after new
        → TakesFew (most_taken count) old new
    create_as (options.PublishSubscribe named) count node name attributes lists answer short (opened, opens, numbers) =
        in_hub count payload user_header _ _ _ lists old new opened short opens
        (λ before after came does. created_few _ _ _ _ _ _ _ before after came does)
    create_as (options.Event named) count node name attributes lists answer short (opened, opens, numbers) =
        in_hub count payload user_header _ _ _ lists old new opened short opens
        (λ before after came does. created_few _ _ _ _ _ _ _ before after came does)
    create_as (options.RequestResponse named) count node name attributes lists answer short (opened, opens, numbers) =
        in_hub count payload user_header _ _ _ lists old new opened short opens
        (λ before after came does. created_few _ _ _ _ _ _ _ before after came does)

    open_as : (named : ServiceOptions) (count node : ℕ) (name : List ℕ) (attributes : Required) (lists : List (List ForeignStep))
        (answer : Result ℕ Refusal) → steps_left lists ≤ 16 * count
        → OpensAs named payload user_header types node name attributes lists table old answer after new
        → TakesFew (most_taken count) old new
    open_as (options.PublishSubscribe named) count node name attributes lists answer short (opened, opens, numbers) =
        in_hub count payload user_header _ _ _ lists old new opened short opens
        (λ before after came does. opened_few _ _ _ _ _ before after came does)
    open_as (options.Event named) count node name attributes lists answer short (opened, opens, numbers) =
        in_hub count payload user_header _ _ _ lists old new opened short opens
        (λ before after came does. opened_few _ _ _ _ _ before after came does)
    open_as (options.RequestResponse named) count node name attributes lists answer short (opened, opens, numbers) =
        in_hub count payload user_header _ _ _ lists old new opened short opens
        (λ before after came does. opened_few _ _ _ _ _ before after came does)

    either_as : (named : ServiceOptions) (count node : ℕ) (name : List ℕ) (attributes : Required) (lists : List (List ForeignStep))
        (answer : Result ℕ Refusal) → steps_left lists ≤ 16 * count
        → EitherAs named payload user_header types node name attributes lists table old answer after new
        → TakesFew (most_taken count) old new
    either_as (options.PublishSubscribe named) count node name attributes lists answer short (opened, opens, numbers) =
        in_hub count payload user_header _ _ _ lists old new opened short opens
        (λ before after came does. either_few _ _ _ _ _ _ _ _ before after came does)
    either_as (options.Event named) count node name attributes lists answer short (opened, opens, numbers) =
        in_hub count payload user_header _ _ _ lists old new opened short opens
        (λ before after came does. either_few _ _ _ _ _ _ _ _ before after came does)
    either_as (options.RequestResponse named) count node name attributes lists answer short (opened, opens, numbers) =
        in_hub count payload user_header _ _ _ lists old new opened short opens
        (λ before after came does. either_few _ _ _ _ _ _ _ _ before after came does)

  module _ (payload user_header : Detail) (types : MessageTypeDetails) (asked : ServiceAsked) (steps : List StepBefore)
      (table after : FactoryTable) (old new : Hub T U B D) where
    create_prepared : (prepared : Result (List (List ForeignStep)) AllocError) (attributes : List Attribute) (roomier : FactoryTable)
        (answer : Result ℕ Refusal) → Prepares asked.name types steps table prepared roomier
        → CreatesPrepared prepared payload user_header types asked attributes roomier old answer after new
        → TakesFew (most_taken (length steps)) old new
    create_prepared (Err lacking) attributes roomier answer prepares does = takes_none _ old new does.2
    create_prepared (Ok lists) attributes roomier answer prepares does =
        create_as payload user_header types roomier after old new asked.options (length steps) asked.node asked.name attributes lists answer
        (short_lists asked.name types steps table roomier lists prepares) does

    open_prepared : (prepared : Result (List (List ForeignStep)) AllocError) (attributes : Required) (roomier : FactoryTable)
        (answer : Result ℕ Refusal) → Prepares asked.name types steps table prepared roomier
        → OpensPrepared prepared payload user_header types asked attributes roomier old answer after new
        → TakesFew (most_taken (length steps)) old new
    open_prepared (Err lacking) attributes roomier answer prepares does = takes_none _ old new does.2
    open_prepared (Ok lists) attributes roomier answer prepares does =
        open_as payload user_header types roomier after old new asked.options (length steps) asked.node asked.name attributes lists answer
        (short_lists asked.name types steps table roomier lists prepares) does

    either_prepared : (prepared : Result (List (List ForeignStep)) AllocError) (attributes : Required) (roomier : FactoryTable)
        (answer : Result ℕ Refusal) → Prepares asked.name types steps table prepared roomier
        → EitherPrepared prepared payload user_header types asked attributes roomier old answer after new
        → TakesFew (most_taken (length steps)) old new
    either_prepared (Err lacking) attributes roomier answer prepares does = takes_none _ old new does.2
    either_prepared (Ok lists) attributes roomier answer prepares does =
        either_as payload user_header types roomier after old new asked.options (length steps) asked.node asked.name attributes lists answer
        (short_lists asked.name types steps table roomier lists prepares) does

    pub create_takes : (is_node : Bool) (attributes : List Attribute) (answer : Option (Result ℕ Refusal))
        → CreatesNumbered is_node payload user_header types asked attributes steps table old answer after new
        → TakesFew (most_taken (length steps)) old new
    create_takes false attributes answer creates = takes_none _ old new creates.2
    create_takes true attributes answer (Some failure, unfit, (is, same, still)) = takes_none _ old new still
    create_takes true attributes answer (None, fit, (prepared, roomier, reply, prepares, creates, is)) =
        create_prepared prepared attributes roomier reply prepares creates

    pub open_takes : (is_node : Bool) (attributes : Required) (answer : Option (Result ℕ Refusal))
        → OpensNumbered is_node payload user_header types asked attributes steps table old answer after new
        → TakesFew (most_taken (length steps)) old new
    open_takes false attributes answer opens = takes_none _ old new opens.2
    open_takes true attributes answer (inl (told, finds, (is, same, still))) = takes_none _ old new still
    open_takes true attributes answer (inr (prepared, roomier, reply, prepares, opens, is)) =
        open_prepared prepared attributes roomier reply prepares opens

    pub either_takes : (is_node : Bool) (attributes : Required) (answer : Option (Result ℕ Refusal))
        → EitherNumbered is_node payload user_header types asked attributes steps table old answer after new
        → TakesFew (most_taken (length steps)) old new
    either_takes false attributes answer either = takes_none _ old new either.2
    either_takes true attributes answer (inl (refused, told, fit, finds, (is, same, still))) = takes_none _ old new still
    either_takes true attributes answer (inr (prepared, roomier, reply, prepares, either, is)) =
        either_prepared prepared attributes roomier reply prepares either

  less_one_keeps : (number : ℕ) (hub : Hub T U B D) → TakesFew 0 hub (less_one number hub)
  less_one_keeps number hub = there (is_last number hub.factory_counts)
    where
      there : (last : Bool) → TakesFew 0 hub (if last then record hub
          { factory_counts = forgotten number hub.factory_counts; services = without_service number hub.services }
          else record hub { factory_counts = kept number (factories_of number hub.factory_counts - 1) hub.factory_counts })
      there true = record {
        buffer = refl;
        nodes = refl;
        locks = omega arith;
        rising = λ rises. remove-rising nat_cmp nat_cmp_total (λ x y same. exact_unsigned x y same) (is_at (nat_cmp number))
            hub.factory_counts rises;
      }
      there false = record {
        buffer = refl;
        nodes = refl;
        locks = omega arith;
        rising = λ rises. insert-rising nat_cmp nat_cmp_total (λ x y same. exact_unsigned x y same) number
            (factories_of number hub.factory_counts - 1)
            hub.factory_counts rises;
      }

  close_unless : (used : Bool) (number : ℕ) (member : Membership) (table after : FactoryTable) (old new : Hub T U B D)
      (answer : Option (Result (Unit {0}) CloseError)) → ClosesUnless used number member table old answer after new → TakesFew 17 old new
  close_unless true number member table after old new answer closes = takes_none 17 old new closes.2
  close_unless false number member table after old new answer (closed, (does, is), is_answer, is_after) =
      let less = less_one_keeps member.service.number (record old { table = new.table }) in
      let made = table_few does.made old.table new.table does.went in
      let some = closes_few member.service.description.service_hash member.service.number member.node does.made closed does.told in
      record {
        buffer = ap (λ (hub : Hub T U B D). hub.expired_connection_buffer) is ∙ less.buffer;
        nodes = ap (λ (hub : Hub T U B D). hub.nodes) is ∙ less.nodes;
        locks = omega (arith, made, some);
        rising = λ rises. subst (λ (hub : Hub T U B D). Rising nat_cmp hub.factory_counts) (sym is) (less.rising rises);
      }

  close_if : (is_of : Bool) (number : ℕ) (made : MadeFactory) (table after : FactoryTable) (old new : Hub T U B D)
      (answer : Option (Result (Unit {0}) CloseError)) → ClosesIfOf is_of number made table old answer after new → TakesFew 17 old new
  close_if false number made table after old new answer closes = takes_none 17 old new closes.2
  close_if true number made table after old new answer closes = close_unless _ number (parts_of made).0 table after old new answer closes

  pub close_takes : (number : ℕ) (found : Option MadeFactory) (table after : FactoryTable) (old new : Hub T U B D)
      (answer : Option (Result (Unit {0}) CloseError)) → ClosesNumbered number found table old answer after new → TakesFew 17 old new
  close_takes number None table after old new answer closes = takes_none 17 old new closes.2
  close_takes number (Some made) table after old new answer closes = close_if _ number made table after old new answer closes

  pub foreign_takes : (pattern : MessagingPattern) (name : List ℕ) (types : MessageTypeDetails) (steps : List Named)
      (old new : Hub T U B D) (answer : Result (Unit {0}) HubError) → ActsNamed pattern name types steps old answer new
      → TakesFew (most_taken (length steps)) old new
  foreign_takes pattern name types steps old new answer (inl (((happened, did, is_answer), is), forms)) =
      let some = acts_few _ (list_of name types steps) old.table new.table happened did in
      let same = length-map steps (step_of name types) in record {
        buffer = ap (λ (hub : Hub T U B D). hub.expired_connection_buffer) is;
        nodes = ap (λ (hub : Hub T U B D). hub.nodes) is;
        locks = omega (arith, some, same);
        rising = λ rises. subst (λ (hub : Hub T U B D). Rising nat_cmp hub.factory_counts) (sym is) rises;
      }
  foreign_takes pattern name types steps old new answer (inr (some, is_answer, is)) = takes_none _ old new is
