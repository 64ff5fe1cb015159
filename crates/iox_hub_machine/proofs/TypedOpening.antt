-- Each typed call that creates a service, opens one, or does either is a step of the machine, and so is each by which nodes outside the hub
-- act on one.
use Rattle.std.proofs.Common.{◌≡◌, ℕ, ◌+◌, Bool, true, List, [], length, Option, None, Some, Result, Ok, Err, refl, sym, ap, ap₂, subst}
use Rattle.std.proofs.Common.{◌∙◌, inl, inr, arith}
use Rattle.std.specs.List.{AllByRecursion}
use Rattle.std.specs.Result.{result_map_both}
use Rattle.iox_command.specs.NegotiateBase.DescribeBase.Detail.{Detail}
use Rattle.iox_command.specs.NegotiateBase.DescribeBase.declared.message_type.MessageTypeDetails.{MessageTypeDetails}
use Rattle.iox_command.specs.NegotiateBase.DescribeBase.declared.type_detail.TypeVariant.{TypeVariant}
use Rattle.iox_command.specs.NegotiateBase.DescribeBase.declared.attribute.Attribute.{Attribute}
use Rattle.iox_command.specs.NegotiateBase.DescribeBase.declared.hash.ServiceHash.{ServiceHash}
use Rattle.iox_command.specs.NegotiateBase.DescribeBase.declared.pattern.MessagingPattern.{MessagingPattern}
use Rattle.iox_command.specs.NegotiateBase.DescribeBase.declared.pattern.MessagingPattern.TheVariants as pattern
use Rattle.iox_command.specs.NegotiateBase.EventErrors as event
use Rattle.iox_command.specs.NegotiateBase.PublishSubscribeErrors as publish_subscribe
use Rattle.iox_command.specs.NegotiateBase.RequestResponseErrors as request_response
use Rattle.iox_command.specs.NegotiateBase.declared.failure.CreateFailure.{CreateFailure}
use Rattle.iox_command.specs.NegotiateBase.declared.failure.CreateFailure.TheVariants.{OutOfMemory}
use Rattle.iox_command.specs.declared.command.Command.TheVariants as command
use Rattle.iox_command.specs.declared.refusal.Refusal.{Refusal}
use Rattle.iox_command.specs.declared.refusal.Refusal.TheVariants as refusal
use Rattle.iox_command.specs.declared.service.ServiceOptions.{ServiceOptions}
use Rattle.iox_command.specs.declared.service.ServiceOptions.TheVariants as options
use Rattle.iox_command.specs.declared.step.StepBefore.{StepBefore}
use Rattle.iox_domain.specs.Fitting.{asked_types}
use Rattle.iox_hub_base.specs.DescribeSettings.Agreement.{Agreement}
use Rattle.iox_hub_base.specs.Hubs.{hash_state, is_node}
use Rattle.iox_hub_base.specs.Opening.{Made as Opened, Settles}
use Rattle.iox_hub_base.specs.declared.hub.HashState.{HashState}
use Rattle.iox_hub_base.specs.declared.hub.HashState.TheVariants as lying
use Rattle.iox_hub_base.specs.declared.hub.Hub.{Hub}
use Rattle.iox_hub_commands.proofs.FirstLook.{none_next}
use Rattle.iox_hub_commands.specs.Asking.{agreed_of, hash_of}
use Rattle.iox_hub_commands.specs.Creating.{CreatesAgreed, CreatesAs, CreatesNumbered, CreatesUnlessRefused}
use Rattle.iox_hub_commands.specs.Either.{EitherNumbered}
use Rattle.iox_hub_commands.specs.Opening.{OpensNumbered}
use Rattle.iox_hub_commands.specs.Refusing.{IsRefusedFirst, IsUncreated, create_refused, first_look}
use Rattle.iox_hub_commands.specs.Replies.{factory_reply, foreign_reply}
use Rattle.iox_hub_commands.specs.ServicesNumbering.{GetsNumber, Numbers, Prepares}
use Rattle.iox_hub_commands.specs.ServicesTables.{FactoryTable}
use Rattle.iox_hub_commands.specs.Steps.{PublishesInForm, lists_of}
use Rattle.iox_hub_commands.specs.Terms.{Terms}
use Rattle.iox_hub_commands.specs.declared.numbered_hub.NumberedHub.{NumberedHub}
use Rattle.iox_hub_commands.specs.declared.services.asked.ServiceAsked.{ServiceAsked}
use Rattle.iox_hub_machine.proofs.Created.{creation_followed}
use Rattle.iox_hub_machine.proofs.CreatedBeside.{beside}
use Rattle.iox_hub_machine.proofs.FoundStanding.{look_finds}
use Rattle.iox_hub_machine.proofs.Running.{came_more}
use Rattle.iox_hub_machine.proofs.TypedSteps.{by_step}
use Rattle.iox_hub_machine.specs.ClosingLaws.{IsCome}
use Rattle.iox_hub_machine.specs.Ran.{RanAtMost}
use Rattle.iox_hub_machine.specs.TypedOpening.{CreateIsStep, ForeignIsStep, OpenIsStep, OpenOrCreateIsStep, opened_then}
use Rattle.iox_hub_machine.specs.TypedSteps.{IsStepBy, hub_after_call}
use Rattle.iox_hub_machine.specs.TypedTerms.{asked_terms}
use Rattle.iox_machine.specs.Asked.{settings_of}
use Rattle.iox_machine.specs.Choices.{Choices}
use Rattle.iox_negotiate.specs.Factory.{membership}
use Rattle.iox_negotiate.specs.declared.factory.Membership.{Membership}
use Rattle.iox_negotiate_table.specs.Contents.{Contents, entry_at}
use Rattle.iox_negotiate_table.specs.NegotiateBase.Creating.{CreatesIf}
use Rattle.iox_negotiate_table.specs.NegotiateBase.Runs.{Went}
use Rattle.iox_negotiate_table.specs.Stepped.{Steps, SteppedSight, next_list}
use Rattle.iox_negotiate_table.specs.declared.step.ForeignStep.{ForeignStep}

-- there are the lists that are named, and nothing more is done for a number
prepared_so : (name : List ℕ) (types : MessageTypeDetails) (steps : List StepBefore) (table : FactoryTable)
    → AllByRecursion (AllByRecursion PublishesInForm) (lists_of name types steps)
    → Prepares name types steps table (Ok (lists_of name types steps)) table
prepared_so name types steps table formed = ((refl, refl), refl, inr refl, formed)

-- after more commands a hub is as it is after fewer
ran_later : {T U B D : Type 0} (most more : ℕ) (hub : NumberedHub T U B D) → RanAtMost most hub → RanAtMost (most + more) hub
ran_later most more hub ran =
    let nodes = ran.nodes in let numbers = ran.numbers in let locks = ran.locks in let ports = ran.ports in record {
      grown = ran.grown;
      rise = ran.rise;
      agreed = ran.agreed;
      services = ran.services;
      counts = ran.counts;
      nodes = omega (arith, nodes);
      numbers = omega (arith, numbers);
      locks = omega (arith, locks);
      ports = omega (arith, ports);
    }

module _ {T U B D E : Type 0} (payload user_header : Detail) (kind : MessagingPattern) (told : E → Refusal) (error : CreateFailure → E)
    (hash : ServiceHash) (node : ℕ) (agreed : Agreement) (lists : List (List ForeignStep)) (table after : FactoryTable)
    (old new : Hub T U B D) (answer : Result ℕ Refusal) where
  -- what is asked of the hub
  abbrev CreatesSo : Result Opened E → Type 0
  CreatesSo opened = CreatesAgreed payload user_header error hash node agreed lists old opened new

  abbrev Gets : Type 0
  Gets = GetsNumber kind told (CreatesAgreed payload user_header error hash node agreed lists) table old answer after new

  -- why nothing is created, if that is told of the settings; where no memory is found before, it isn't
  abbrev refusal_of : (opened : Result Opened E) → CreatesSo opened → Option CreateFailure
  refusal_of opened (inl opens) = opens.negotiated.refusal
  refusal_of opened (inr lacks) = None

  is_refusal : (opened : Result Opened E) (creates : CreatesSo opened) → IsUncreated agreed.settings (refusal_of opened creates)
  is_refusal opened (inl opens) = opens.negotiated.refused
  is_refusal opened (inr lacks) = lacks.0

  -- settings that can't be are refused, and nothing happens
  refused_so : (failure : CreateFailure) (opened : Result Opened E) (creates : CreatesSo opened)
      → Numbers kind told opened table answer after → refusal_of opened creates ≡ Some failure
      → (answer ≡ Err (told (error failure))) × (after ≡ table) × (new ≡ old)
  refused_so failure opened (inr lacks) numbers is = cc
  refused_so failure opened (inl opens) numbers is =
      let negotiated = opens.negotiated.negotiated in
      let (none, fails) = subst (λ (it : Option CreateFailure). CreatesIf hash node agreed it negotiated.done.made negotiated.answer) is
      negotiated.done.told in
      let same : opens.mid ≡ record { table = old.table; lists = lists } =
      subst (λ made. Went SteppedSight (record { table = old.table; lists = lists }) made opens.mid) none negotiated.done.went in
      let failed : opens.answer ≡ Err (error failure)
      = negotiated.told ∙ ap (λ came. result_map_both (membership old.table.id node) error came) fails in
      let (unopened, still) = subst (λ (it : Result Membership E). Settles payload user_header (λ was_new. error OutOfMemory) it
      (record old { table = opens.mid.table }) opened new) failed opens.settled in
      let (refused, kept) = subst (λ (it : Result Opened E). Numbers kind told it table answer after) unopened numbers in
      (refused, kept, still ∙ ap (λ (it : Steps). record old { table = it.table }) same)

  -- Where the settings can be, nothing changes beside a service that stands, if no step is done before the look.
  kept_so : (opened : Result Opened E) (creates : CreatesSo opened) → Numbers kind told opened table answer after
      → refusal_of opened creates ≡ None → next_list lists ≡ [] → hash_state (entry_at hash old.table) ≡ lying.Described
      → (after ≡ table) × (new ≡ old)
  kept_so opened (inr (can, fails, still)) numbers is none stands =
      ((subst (λ (it : Result Opened E). Numbers kind told it table answer after) fails numbers).1, still)
  kept_so opened (inl opens) numbers is none stands =
      let negotiated = opens.negotiated.negotiated in
      let told_so = subst (λ (it : Option CreateFailure). CreatesIf hash node agreed it negotiated.done.made negotiated.answer) is
      negotiated.done.told in
      let (failure, fails, same) = beside hash node agreed negotiated.done.made negotiated.answer
      (record { table = old.table; lists = lists }) opens.mid none stands negotiated.done.went told_so in
      let failed : opens.answer ≡ Err (error failure)
      = negotiated.told ∙ ap (λ came. result_map_both (membership old.table.id node) error came) fails in
      let (unopened, still) = subst (λ (it : Result Membership E). Settles payload user_header (λ was_new. error OutOfMemory) it
      (record old { table = opens.mid.table }) opened new) failed opens.settled in (
        (subst (λ (it : Result Opened E). Numbers kind told it table answer after) unopened numbers).1,
        still ∙ ap (λ (it : Contents). record old { table = it }) same,
      )

module _ {T U B D : Type 0} (variant : TypeVariant) (terms : Terms T U B D) (choices : Choices T) where
  -- the terms of a hub whose messages are values, or slices of them
  abbrev terms_so : Terms T U B D
  terms_so = asked_terms variant terms

  -- the types of the messages: values, or slices of them
  abbrev types : MessageTypeDetails
  types = asked_types variant terms.payload terms.user_header

  module _ (node : ℕ) (name : List ℕ) (steps : List StepBefore) (old : NumberedHub T U B D) (hub : Hub T U B D)
      (answer : Result ℕ Refusal) (table : FactoryTable)
      (formed : AllByRecursion (AllByRecursion PublishesInForm) (lists_of name types steps)) where
    -- ---- creation

    abbrev asked_by : ServiceOptions → ServiceAsked
    asked_by named = record { node = node; name = name; options = named }

    abbrev Unless : ServiceOptions → List Attribute → Option CreateFailure → Type 0
    Unless named attributes refused = CreatesUnlessRefused refused terms.payload terms.user_header types (asked_by named) attributes steps
        old.factories.made old.hub (Some answer) table hub

    -- a first lookup finds that the service stands
    abbrev Stands : ServiceOptions → Type 0
    Stands named = first_look (asked_by named) steps old.hub ≡ Some lying.Described

    -- Why nothing is created, if that is told of the settings, and what follows. Where it isn't, nothing changes beside a service that
    -- stands.
    abbrev Known : ServiceOptions → List Attribute → Type 0
    Known named attributes = (refused : Option CreateFailure) × IsUncreated (settings_of types named) refused
        × Unless named attributes refused × (refused ≡ None → Stands named → (table ≡ old.factories.made) × (hub ≡ old.hub))

    module _ (named : ServiceOptions) (attributes : List Attribute)
        (creates : CreatesAs named terms.payload terms.user_header types node name attributes (lists_of name types steps) old.factories.made
        old.hub
        answer table hub) {E : Type 0} (kind : MessagingPattern) (told : E → Refusal) (error : CreateFailure → E)
        (tells : (failure : CreateFailure) → told (error failure) ≡ create_refused named failure)
        (gets : Gets terms.payload terms.user_header kind told error (hash_of name named) node (agreed_of name named types attributes)
        (lists_of name types steps) old.factories.made table old.hub hub answer) where
      abbrev why_refused : Option CreateFailure
      why_refused = refusal_of terms.payload terms.user_header kind told error (hash_of name named) node
          (agreed_of name named types attributes) (lists_of name types steps) old.factories.made table old.hub hub answer gets.0 gets.1

      unless_by : (refused : Option CreateFailure) → why_refused ≡ refused → Unless named attributes refused
      unless_by None is = (
        Ok (lists_of name types steps),
        old.factories.made,
        answer,
        prepared_so name types steps old.factories.made formed,
        creates,
        refl,
      )
      unless_by (Some failure) is =
          let (refused, kept, still) = refused_so terms.payload terms.user_header kind told error (hash_of name named) node
          (agreed_of name named types attributes) (lists_of name types steps) old.factories.made table old.hub hub answer failure gets.0
          gets.1 gets.2 is in
          (ap (λ (it : Result ℕ Refusal). Some it) (refused ∙ ap (λ (why : Refusal). Err why) (tells failure)), kept, still)

      numbered_by : Known named attributes
      numbered_by = (
        why_refused,
        is_refusal terms.payload terms.user_header kind told error (hash_of name named) node (agreed_of name named types attributes)
            (lists_of name types steps) old.factories.made table old.hub hub answer gets.0 gets.1,
        unless_by why_refused refl,
        λ none finds.
            let it = look_finds (asked_by named) steps old.hub lying.Described finds in
            kept_so terms.payload terms.user_header kind told error (hash_of name named) node (agreed_of name named types attributes)
            (lists_of name types steps) old.factories.made table old.hub hub answer gets.0 gets.1 gets.2 none
            (none_next name types steps it.0) it.1,
      )

    creates_by : (named : ServiceOptions) (attributes : List Attribute)
        → CreatesAs named terms.payload terms.user_header types node name attributes (lists_of name types steps) old.factories.made old.hub
        answer table hub
        → Known named attributes
    creates_by (options.PublishSubscribe one) attributes creates =
        numbered_by (options.PublishSubscribe one) attributes creates pattern.PublishSubscribe refusal.PublishSubscribeCreate
        publish_subscribe.create_error (λ failure. refl) creates
    creates_by (options.Event one) attributes creates =
        numbered_by (options.Event one) attributes creates pattern.Event refusal.EventCreate event.create_error (λ failure. refl) creates
    creates_by (options.RequestResponse one) attributes creates =
        numbered_by (options.RequestResponse one) attributes creates pattern.RequestResponse refusal.RequestResponseCreate
        request_response.create_error (λ failure. refl) creates

    module _ (named : ServiceOptions) (attributes : List Attribute) (there : is_node node old.hub.nodes ≡ true) where
      abbrev IsStep : Type 0
      IsStep = IsStepBy terms_so choices
          (command.Create node name named attributes steps) old (factory_reply (Some answer)) (opened_then old table hub)

      -- it is a step where it does what the command does
      as_commanded : (refused : Option CreateFailure)
          → IsRefusedFirst (settings_of types named) (first_look (asked_by named) steps old.hub) refused → Unless named attributes refused
          → IsStep
      as_commanded refused first unless =
          by_step variant terms choices
          (command.Create node name named attributes steps) tt old (opened_then old table hub) (factory_reply (Some answer))
          (λ names most state it. (
            Some answer,
            subst (λ (b : Bool). CreatesNumbered b terms.payload terms.user_header types (asked_by named) attributes steps
                old.factories.made old.hub (Some answer) table hub) (sym there) (refused, first, unless),
            refl,
            refl,
          ))

      -- Beside a service that stands the call may want memory, where the command doesn't ask for any. So may the machine.
      as_standing : IsUncreated (settings_of types named) None
          → CreatesAs named terms.payload terms.user_header types node name attributes (lists_of name types steps) old.factories.made
          old.hub answer table hub
          → table ≡ old.factories.made → hub ≡ old.hub → IsStep
      as_standing fits creates same still names most state own asks few it =
          let numbers = it.ran.numbers in
          let locks = it.ran.locks in
          let followed = creation_followed variant terms choices names node name named attributes steps asks
          it.taken it.naming it.order old (opened_then old table hub) state own (record {
            rise = it.ran.rise.0;
            factories = omega (arith, few, numbers);
            locks = omega (arith, few, locks);
          }) it.stands there fits (Ok (lists_of name types steps)) old.factories.made answer refl
          (prepared_so name types steps old.factories.made formed) creates in
          let buffer : hub.expired_connection_buffer ≡ old.hub.expired_connection_buffer
          = ap (λ (h : Hub T U B D). h.expired_connection_buffer) still in (
            record {
              after = followed.after;
              step = followed.step;
              stands = record {
                taken = followed.taken;
                naming = followed.naming;
                order = followed.order;
                stands = followed.stands;
                came = subst (λ (n : ℕ). IsCome types choices n followed.after) (sym buffer)
                    (came_more types choices old.hub.expired_connection_buffer
                    (command.Create node name named attributes steps) state followed.after (factory_reply (Some answer)) it.came
                    followed.step);
                ran = subst (λ (h : NumberedHub T U B D). RanAtMost (most + (1 + length steps)) h)
                    (ap₂ (λ (made : FactoryTable) (h : Hub T U B D). opened_then old made h) (sym same) (sym still))
                    (ran_later most (1 + length steps) old it.ran);
              };
            },
            buffer,
          )

      step_so : (refused : Option CreateFailure) → IsUncreated (settings_of types named) refused → Unless named attributes refused
          → CreatesAs named terms.payload terms.user_header types node name attributes (lists_of name types steps) old.factories.made
          old.hub answer table hub
          → (refused ≡ None → Stands named → (table ≡ old.factories.made) × (hub ≡ old.hub)) → (found : Option HashState)
          → first_look (asked_by named) steps old.hub ≡ found → IsStep
      step_so (Some failure) is unless creates keeps found finds = as_commanded (Some failure) (inl is) unless
      step_so None is unless creates keeps None finds = as_commanded None (is, λ stands. differ (sym finds ∙ stands)) unless
        where
          differ : ◌≡◌ {A = Option HashState} None (Some lying.Described) → ⊥
          differ e = cc
      step_so None is unless creates keeps (Some lying.Absent) finds = as_commanded None (is, λ stands. differ (sym finds ∙ stands)) unless
        where
          differ : Some lying.Absent ≡ Some lying.Described → ⊥
          differ e = cc
      step_so None is unless creates keeps (Some lying.Locked) finds = as_commanded None (is, λ stands. differ (sym finds ∙ stands)) unless
        where
          differ : Some lying.Locked ≡ Some lying.Described → ⊥
          differ e = cc
      step_so None is unless creates keeps (Some lying.Described) finds =
          let (same, still) = keeps refl finds in as_standing is creates same still

  pub create_is_step : CreateIsStep terms_so choices
  create_is_step node name named attributes steps old hub answer table there formed creates =
      let (refused, is_refused, unless, keeps) = creates_by node name steps old hub answer table formed named attributes creates in
      step_so node name steps old hub answer table formed named attributes there refused is_refused unless creates keeps
      (first_look (record { node = node; name = name; options = named }) steps old.hub) refl

  pub open_is_step : OpenIsStep terms_so choices
  open_is_step node name named required steps old hub answer table there formed opens =
      by_step variant terms choices (command.Open node name named required steps) tt old (opened_then old table hub) (factory_reply
      (Some answer))
      (λ names most state it. (
        Some answer,
        subst (λ (b : Bool). OpensNumbered b terms.payload terms.user_header types (record { node = node; name = name; options = named })
            required steps old.factories.made old.hub (Some answer) table hub) (sym there) (inr (
              Ok (lists_of name types steps),
              old.factories.made,
              answer,
              prepared_so name types steps old.factories.made formed,
              opens,
              refl,
            )),
        refl,
        refl,
      ))

  pub open_or_create_is_step : OpenOrCreateIsStep terms_so choices
  open_or_create_is_step node name named required steps old hub answer table there formed does =
      by_step variant terms choices
      (command.OpenOrCreate node name named required steps) tt old (opened_then old table hub) (factory_reply (Some answer))
      (λ names most state it. (
        Some answer,
        subst (λ (b : Bool). EitherNumbered b terms.payload terms.user_header types (record { node = node; name = name; options = named })
            required steps old.factories.made old.hub (Some answer) table hub) (sym there) (inr (
              Ok (lists_of name types steps),
              old.factories.made,
              answer,
              prepared_so name types steps old.factories.made formed,
              does,
              refl,
            )),
        refl,
        refl,
      ))

  pub foreign_is_step : ForeignIsStep terms_so choices
  foreign_is_step kind name steps old hub answer formed acts =
      by_step variant terms choices (command.Foreign kind name steps) tt old (hub_after_call old old.made hub) (foreign_reply answer)
      (λ names most state it. (answer, inl (acts, formed), refl, refl))
