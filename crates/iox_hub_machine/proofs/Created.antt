-- A node of a hub creates a service.
use Rattle.std.proofs.Common.{◌≡◌, ◌+◌, ◌&&◌, ℕ, Bool, true, false, List, [], ◌∷◌, Option, None, Some, Result, Ok, Err, length}
use Rattle.std.proofs.Common.{inl, inr, refl, sym, ap, subst, ◌∙◌, arith}
use Rattle.std.specs.List.{AllByRecursion, IsAmong}
use Rattle.std.specs.Prelude.{nat_le, MatchBool}
use Rattle.std.specs.declared.alloc.AllocError.{AllocError}
use Rattle.iox_command.specs.NegotiateBase.DescribeBase.declared.attribute.Attribute.{Attribute}
use Rattle.iox_command.specs.NegotiateBase.DescribeBase.declared.message_type.MessageTypeDetails.{MessageTypeDetails}
use Rattle.iox_command.specs.NegotiateBase.DescribeBase.declared.pattern.MessagingPattern.{MessagingPattern}
use Rattle.iox_command.specs.NegotiateBase.DescribeBase.declared.type_detail.TypeVariant.{TypeVariant}
use Rattle.iox_command.specs.NegotiateBase.DescribeSettings.declared.static_config.Settings.TheVariants as settings
use Rattle.iox_command.specs.NegotiateBase.DescribeSettings.declared.static_config.publish_subscribe.StaticConfig.{StaticConfig}
use Rattle.iox_command.specs.NegotiateBase.EventErrors as event
use Rattle.iox_command.specs.NegotiateBase.PublishSubscribeErrors as publish_subscribe
use Rattle.iox_command.specs.NegotiateBase.RequestResponseErrors as request_response
use Rattle.iox_command.specs.NegotiateBase.declared.failure.CreateFailure.{CreateFailure}
use Rattle.iox_command.specs.NegotiateBase.declared.failure.CreateFailure.TheVariants as uncreated
use Rattle.iox_command.specs.Patterns.{pattern_of}
use Rattle.iox_command.specs.declared.command.Command.TheVariants as command
use Rattle.iox_command.specs.declared.refusal.Refusal.{Refusal}
use Rattle.iox_command.specs.declared.refusal.Refusal.TheVariants as refusal
use Rattle.iox_command.specs.declared.reply.Reply.{Reply}
use Rattle.iox_command.specs.declared.reply.Reply.TheVariants as reply
use Rattle.iox_command.specs.declared.service.ServiceOptions.{ServiceOptions}
use Rattle.iox_command.specs.declared.service.ServiceOptions.TheVariants as options
use Rattle.iox_command.specs.declared.step.StepBefore.{StepBefore}
use Rattle.iox_domain.specs.Fitting.{asked_types}
use Rattle.iox_domain.specs.declared.ports.service_ports.ServicePorts.{ServicePorts}
use Rattle.iox_domain_machine.specs.Naming.{Naming}
use Rattle.iox_hub_base.proofs.SameTable.{went-keeps}
use Rattle.iox_hub_base.specs.Hubs.{is_node}
use Rattle.iox_hub_base.specs.declared.hub.HashState.{HashState}
use Rattle.iox_hub_commands.specs.Asking.{agreed_of, hash_of}
use Rattle.iox_hub_commands.specs.CommandSteps as hub
use Rattle.iox_hub_commands.specs.Creating.{CreatesAgreed, CreatesAs, CreatesNumbered, CreatesPrepared, create_lacking}
use Rattle.iox_hub_commands.specs.Refusing.{IsInTheWay, IsUncreated, create_refused, first_look}
use Rattle.iox_hub_commands.specs.Replies.{factory_reply}
use Rattle.iox_hub_commands.specs.ServicesNumbering.{GetsNumber, IsRefusedWith, Prepares}
use Rattle.iox_hub_commands.specs.ServicesTables.{FactoryTable, SameNumbers}
use Rattle.iox_hub_commands.specs.declared.numbered_hub.NumberedHub.{NumberedHub}
use Rattle.iox_hub_commands.specs.Terms.{Terms}
use Rattle.iox_hub_machine.proofs.Answered.{IsAnswered, answered, lacking_answered, room_lacking}
use Rattle.iox_hub_machine.proofs.EnteredStands.{stands_entered}
use Rattle.iox_hub_machine.proofs.Entering.{created_enters, uncreated_keeps}
use Rattle.iox_hub_machine.proofs.FittingThen.{FitsHere, new_fits}
use Rattle.iox_hub_machine.proofs.Formed.{AreMade, formed_so, listed_so}
use Rattle.iox_hub_machine.proofs.AtOnce.{at_once}
use Rattle.iox_hub_machine.proofs.FoundStanding.{by_some, found_so, look_finds, refuses_to_create}
use Rattle.iox_hub_machine.proofs.Skipping.{by_none, skipped_matches, stands_still}
use Rattle.iox_hub_machine.specs.CreateLaws.{CreateMatches}
use Rattle.iox_hub_machine.specs.OpenLaws.{HasNumbersFor}
use Rattle.iox_hub_machine.specs.ServiceLaws.{IsFollowed}
use Rattle.iox_hub_machine.specs.Services.{HubStandsFor}
use Rattle.iox_hub_machine.specs.TypedTerms.{asked_terms}
use Rattle.iox_machine.proofs.Shorthands.{RefusesNode}
use Rattle.iox_machine.specs.Choices.{Choices}
use Rattle.iox_machine.proofs.Calls.{creates-go}
use Rattle.iox_machine.specs.Agreement.{Agreement, unfit}
use Rattle.iox_machine.specs.Asked.{settings_of}
use Rattle.iox_machine.specs.Negotiation.{Call, Creates}
use Rattle.iox_machine.specs.Phase.{Node, Own, Phase, Published}
use Rattle.iox_machine.specs.Run as machine
use Rattle.iox_machine.specs.State.{State}
use Rattle.iox_negotiate_machine.proofs.CreateCalls.{create-matches}
use Rattle.iox_negotiate_machine.proofs.Refusing.{unfit-is}
use Rattle.iox_negotiate_machine.specs.Laws.{HaveOwnHashes}
use Rattle.iox_negotiate_machine.proofs.Told.{event-create-told, publish-subscribe-create-told, request-response-create-told}
use Rattle.iox_negotiate_table.specs.declared.step.ForeignStep.{ForeignStep as TableStep}
use Rattle.iox_machine.specs.Refusals.{create_refusal}

-- ---- what is created

module _ (types : MessageTypeDetails) (pattern : MessagingPattern) (steps : List StepBefore) (node : Node) (agreed : Agreement) where
  -- in a service that is published this is agreed on
  abbrev IsAgreedIn : Phase → Type 0
  IsAgreedIn phase = (life : ℕ) (other : Agreement) (nodes : List (Node × ℕ)) → phase ≡ Published life other nodes → other ≡ agreed

  new_agreed : (lives : ℕ) → IsAgreedIn (Published (lives + 1) agreed ((node, 1) ∷ []))
  new_agreed lives life other nodes is = cc

  any_steps : (some : List StepBefore)
      → AllByRecursion (λ (one : StepBefore). (phase : Phase) → Unit {0} → Unit {0}) some
  any_steps [] = tt
  any_steps (one ∷ some) = ((λ phase is. tt), any_steps some)

  -- what is agreed on in a service that a call creates is what it asks for
  created_agreed : (call after : Call) (fresh : Bool) → Creates types pattern steps node agreed call (Some (Ok fresh)) after
      → IsAgreedIn after.phase
  created_agreed call after fresh creates =
      creates-go types pattern steps node (λ phase. Unit {0}) IsAgreedIn (any_steps steps) agreed (λ lives is. tt)
      (λ lives is. new_agreed lives) call (Some (Ok fresh)) after tt creates

-- the refusal for want of memory
lacking_is : (named : ServiceOptions) → create_lacking named ≡ create_refusal named uncreated.OutOfMemory
lacking_is (options.PublishSubscribe named) = refl
lacking_is (options.Event named) = refl
lacking_is (options.RequestResponse named) = refl

-- the refusal for the settings
refusal_is : (named : ServiceOptions) (why : CreateFailure) → create_refused named why ≡ create_refusal named why
refusal_is (options.PublishSubscribe named) why = publish-subscribe-create-told named why
refusal_is (options.Event named) why = event-create-told named why
refusal_is (options.RequestResponse named) why = request-response-create-told named why

-- what is done where a test passes
by_true : (P Q : Type 0) (b : Bool) → b ≡ true → P → MatchBool b P Q
by_true P Q b is p = subst (λ (it : Bool). MatchBool it P Q) (sym is) p

module _ {T U B D : Type 0} (variant : TypeVariant) (terms : Terms T U B D) where
  abbrev terms_so : Terms T U B D
  terms_so = asked_terms variant terms

  -- the types of the messages of a hub
  abbrev types : MessageTypeDetails
  types = asked_types variant terms.payload terms.user_header

  -- the settings of a service that is created fit
  fits_so : (named : ServiceOptions) → FitsHere terms.payload terms.user_header (settings_of types named)
  fits_so (options.PublishSubscribe named) = new_fits terms.payload terms.user_header variant named
  fits_so (options.Event named) = λ c is. absurd (differ c is)
    where
      differ : (c : StaticConfig) → settings_of types (options.Event named) ≡ settings.PublishSubscribe c → ⊥
      differ c e = cc
  fits_so (options.RequestResponse named) = λ c is. absurd (differ c is)
    where
      differ : (c : StaticConfig) → settings_of types (options.RequestResponse named) ≡ settings.PublishSubscribe c → ⊥
      differ c e = cc

  module _ (choices : Choices T) (names : List (List ℕ)) (node : ℕ) (name : List ℕ) (named : ServiceOptions) (attributes : List Attribute)
      (steps : List StepBefore)
      (asked : IsAmong names name)
      (taken : MessagingPattern → List ℕ → List ℕ) (naming : ℕ → Naming) (order : List (ℕ × ServicePorts T U))
      (old new : NumberedHub T U B D) (state : State T) (own : HaveOwnHashes names) (ready : HasNumbersFor (length steps + 1) old)
      (stands : HubStandsFor choices terms.degrades terms.decides terms.reader_degrades names taken naming order old state) where
    -- what is to be agreed on
    abbrev agreed_on : Agreement
    agreed_on = record { settings = settings_of types named; attributes = attributes }

    -- what the machine does over its phase
    abbrev Calls : Call → Option (Result Bool CreateFailure) → Call → Type 0
    Calls = Creates types (pattern_of named) steps (Own node) agreed_on

    abbrev Replied : Reply T → Type 0
    Replied = IsAnswered terms.payload terms.user_header choices terms.degrades terms.decides terms.reader_degrades names own
        (pattern_of named) name asked taken naming order
        node old new state stands Calls (create_refusal named) (λ is_new. uncreated.OutOfMemory)

    module _ {E : Type 0} (error : CreateFailure → E) where
      module _ (told : E → Refusal) (tells : (why : CreateFailure) → told (error why) ≡ create_refusal named why)
          (lists : List (List TableStep)) (listed : AreMade types name steps lists) (roomier : FactoryTable)
          (same : SameNumbers old.factories.made roomier) (same_made : new.made ≡ old.made) (result : Result ℕ Refusal) where
        -- a creation over the table of the hub is answered as one of the machine
        created_so : GetsNumber (pattern_of named) told
            (CreatesAgreed terms.payload terms.user_header error (hash_of name named) node (agreed_of name named types attributes) lists)
            roomier old.hub result new.factories.made new.hub
            → Replied (factory_reply (Some result))
        created_so (opened, inr (can, is, still), numbers) =
            room_lacking terms.payload terms.user_header choices terms.degrades terms.decides terms.reader_degrades names own
            (pattern_of named) name asked taken naming
            order node old new state stands Calls (create_refusal named) (λ is_new. uncreated.OutOfMemory) told
            (error uncreated.OutOfMemory) (tells uncreated.OutOfMemory) opened is roomier result same same_made numbers still
        created_so (opened, inl opens, numbers) =
            answered terms.payload terms.user_header choices terms.degrades terms.decides terms.reader_degrades names own
            (pattern_of named) name asked taken naming order node
            old new state stands Calls (create_refusal named) (λ is_new. uncreated.OutOfMemory) error told tells
            (λ was_new. error uncreated.OutOfMemory) (λ fresh. refl)
            (λ why last calls. uncreated_keeps (pattern_of named) name (taken (pattern_of named) name)
            (state.phases (pattern_of named) name) types steps node agreed_on last why calls)
            (λ fresh last calls. created_enters (pattern_of named) name (taken (pattern_of named) name)
            (state.phases (pattern_of named) name) types steps node agreed_on last fresh calls)
            (λ fresh last calls kind life other nodes is. subst (λ (a : Agreement). FitsHere terms.payload terms.user_header a.settings)
            (sym (created_agreed types (pattern_of named) steps (Own node) agreed_on
            (record { phase = state.phases (pattern_of named) name; accesses = 0 }) last fresh calls life other nodes is))
            (fits_so named))
            stands.factories.numbers
            (stands_entered terms.payload terms.user_header choices terms.degrades terms.decides terms.reader_degrades names own
            (pattern_of named) name asked taken naming order
            node old new state stands ready.rise ready.factories)
            roomier same same_made opens.mid.table
            (went-keeps opens.negotiated.negotiated.done.made (record { table = old.hub.table; lists = lists }) opens.mid
            opens.negotiated.negotiated.done.went)
            result opens.answer opened
            (create-matches T E names types name node old.hub.table.id named attributes steps lists taken old.hub.table opens.mid error
            opens.answer state own asked (formed_so types name steps lists listed) (let locks = ready.locks in omega (arith, locks))
            (listed_so types name steps lists listed) stands.table
            opens.negotiated)
            opens.settled numbers

    -- ---- the reply

    abbrev Numbered : Option (Result ℕ Refusal) → Bool → Type 0
    Numbered made is_there = CreatesNumbered is_there terms.payload terms.user_header types (record
        { node = node; name = name; options = named }) attributes steps old.factories.made old.hub made new.factories.made new.hub

    module _ (roomier : FactoryTable) (same : SameNumbers old.factories.made roomier) (same_made : new.made ≡ old.made)
        (result : Result ℕ Refusal) where
      abbrev GetsBy : {E : Type 0} → (E → Refusal) → (CreateFailure → E) → List (List TableStep) → ServiceOptions → Type 0
      GetsBy told error lists it = GetsNumber (pattern_of it) told
          (CreatesAgreed terms.payload terms.user_header error (hash_of name it) node (agreed_of name it types attributes) lists) roomier
          old.hub result
          new.factories.made new.hub

      by_options : (it : ServiceOptions) → it ≡ named → (lists : List (List TableStep)) → AreMade types name steps lists
          → CreatesAs it terms.payload terms.user_header types node name attributes lists roomier old.hub result new.factories.made
          new.hub
          → Replied (factory_reply (Some result))
      by_options (options.PublishSubscribe one) is lists listed creates =
          created_so publish_subscribe.create_error refusal.PublishSubscribeCreate
          (λ why. publish-subscribe-create-told one why ∙ ap (λ (it : ServiceOptions). create_refusal it why) is)
          lists listed roomier same same_made result
          (subst (GetsBy refusal.PublishSubscribeCreate publish_subscribe.create_error lists) is creates)
      by_options (options.Event one) is lists listed creates =
          created_so event.create_error refusal.EventCreate
          (λ why. event-create-told one why ∙ ap (λ (it : ServiceOptions). create_refusal it why) is)
          lists listed roomier same same_made result
          (subst (GetsBy refusal.EventCreate event.create_error lists) is creates)
      by_options (options.RequestResponse one) is lists listed creates =
          created_so request_response.create_error refusal.RequestResponseCreate
          (λ why. request-response-create-told one why ∙ ap (λ (it : ServiceOptions). create_refusal it why) is)
          lists listed roomier same same_made result
          (subst (GetsBy refusal.RequestResponseCreate request_response.create_error lists) is creates)

    by_prepared : (prepared : Result (List (List TableStep)) AllocError) (roomier : FactoryTable) (result : Result ℕ Refusal)
        → new.made ≡ old.made → Prepares name types steps old.factories.made prepared roomier
        → CreatesPrepared prepared terms.payload terms.user_header types (record { node = node; name = name; options = named }) attributes
        roomier old.hub result new.factories.made new.hub
        → Replied (factory_reply (Some result))
    by_prepared (Err lacking) roomier result same_made prepares creates =
        lacking_answered terms.payload terms.user_header choices terms.degrades terms.decides terms.reader_degrades names own
        (pattern_of named) name asked taken naming order
        node old new state stands Calls (create_refusal named) (λ is_new. uncreated.OutOfMemory) roomier result prepares.0 same_made
        (subst (λ (why : Refusal). IsRefusedWith why roomier old.hub result new.factories.made new.hub) (lacking_is named) creates)
    by_prepared (Ok lists) roomier result same_made prepares creates =
        by_options roomier prepares.0 same_made result named refl lists (prepares.1, prepares.3) creates

    abbrev Followed : Reply T → Type 0
    Followed answer = IsFollowed terms_so choices names (command.Create node name named attributes steps) old new state answer

    abbrev StepsTo : Reply T → Type 0
    StepsTo answer = hub.Step (record terms_so { is_default = choices.is_default }) (command.Create node name named attributes steps) old
        (Ok answer) new

    -- where the first lookup finds what is in the way the machine refuses, too
    standing_so : (failure : CreateFailure)
        → IsInTheWay (first_look (record { node = node; name = name; options = named }) steps old.hub) failure
        → IsUncreated (settings_of types named) None → new.hub ≡ old.hub → new.factories.made ≡ old.factories.made
        → new.made ≡ old.made → Replied (factory_reply (Some (Err (create_refused named failure))))
    standing_so failure way fits still same same_made =
        among (first_look (record { node = node; name = name; options = named }) steps old.hub) refl way
      where
        among : (found : Option HashState) → first_look (record { node = node; name = name; options = named }) steps old.hub ≡ found
            → IsInTheWay found failure → Replied (factory_reply (Some (Err (create_refused named failure))))
        among None finds (inl (is, told)) = absurd cc
        among None finds (inr (is, told)) = absurd cc
        among (Some it) finds so =
            let (none, is) = look_finds (record { node = node; name = name; options = named }) steps old.hub it finds in
            let stands_so = found_so (pattern_of named) name old.hub.table (state.phases (pattern_of named) name)
            (taken (pattern_of named) name) (stands.table.phases (pattern_of named) name asked).lies in
            at_once terms choices names own (pattern_of named) name asked taken naming order node old new state stands Calls
            (create_refusal named) (λ is_new. uncreated.OutOfMemory) failure (create_refused named failure) (refusal_is named failure)
            (refuses_to_create types (pattern_of named) steps (Own node) agreed_on (state.phases (pattern_of named) name) failure
            (subst (λ (s : HashState). IsInTheWay (Some s) failure) (sym is ∙ stands_so) so) none (unfit-is types named None fits))
            still same same_made

    -- where it isn't refused first, the machine goes on as the call does
    pub creation_followed : is_node node old.hub.nodes ≡ true → IsUncreated (settings_of types named) None
        → (prepared : Result (List (List TableStep)) AllocError) (roomier : FactoryTable) (result : Result ℕ Refusal)
        → new.made ≡ old.made → Prepares name types steps old.factories.made prepared roomier
        → CreatesPrepared prepared terms.payload terms.user_header types (record { node = node; name = name; options = named }) attributes
        roomier
        old.hub result new.factories.made new.hub
        → Followed (factory_reply (Some result))
    creation_followed is fits prepared roomier result same_made prepares creates =
        let it = by_prepared prepared roomier result same_made prepares creates in record {
          taken = it.taken_then;
          naming = it.naming_then;
          order = it.order_then;
          after = it.after;
          step = by_none (λ why. RefusesNode node (create_refusal named why) state (factory_reply (Some result)) it.after)
              (unfit (settings_of types named)) (unfit-is types named None fits)
              (by_true _ _ (nat_le 1 node && nat_le node state.made.nodes)
              (ap (λ (n : ℕ). nat_le 1 node && nat_le node n) (sym stands.nodes) ∙ is) it.came);
          stands = it.stands_then;
        }

    by_node : (is_there : Bool) → is_node node old.hub.nodes ≡ is_there → (made : Option (Result ℕ Refusal)) → Numbered made is_there
        → new.made ≡ old.made → (answer : Reply T) → answer ≡ factory_reply made → StepsTo answer → Followed answer
    by_node true is made (Some failure, inl unfitting, (made_is, same, still)) same_made answer replied does = record {
      taken = taken;
      naming = naming;
      order = order;
      after = state;
      step = by_some _ (λ failure. RefusesNode node (create_refusal named failure) state answer state) (unfit (settings_of types named))
          failure (unfit-is types named (Some failure) unfitting)
          (by_true _ _ (nat_le 1 node && nat_le node state.made.nodes)
          (ap (λ (n : ℕ). nat_le 1 node && nat_le node n) (sym stands.nodes) ∙ is) (
            replied ∙ ap factory_reply made_is ∙ ap (λ (why : Refusal). factory_reply {T = T} (Some (Err why))) (refusal_is named failure),
            refl,
          ));
      stands = stands_still terms_so choices names taken naming order old new state stands still same same_made;
    }
    by_node true is made (Some failure, inr (fits, way), (made_is, same, still)) same_made answer replied does =
        let it = standing_so failure way fits still same same_made in
        record {
          taken = it.taken_then;
          naming = it.naming_then;
          order = it.order_then;
          after = it.after;
          step = subst (λ (a : Reply T). machine.Step types choices old.hub.expired_connection_buffer
              (command.Create node name named attributes steps) state a it.after)
              (sym (replied ∙ ap factory_reply made_is))
              (by_none (λ why. RefusesNode node (create_refusal named why) state (factory_reply (Some (Err (create_refused named failure))))
              it.after)
              (unfit (settings_of types named)) (unfit-is types named None fits)
              (by_true _ _ (nat_le 1 node && nat_le node state.made.nodes)
              (ap (λ (n : ℕ). nat_le 1 node && nat_le node n) (sym stands.nodes) ∙ is) it.came));
          stands = it.stands_then;
        }
    by_node true is made (None, (fits, apart), (prepared, roomier, result, prepares, creates, made_is)) same_made answer replied does =
        subst (λ (a : Reply T). Followed a) (sym (replied ∙ ap factory_reply made_is))
        (creation_followed is fits prepared roomier result same_made prepares creates)
    by_node false is made skipped same_made answer replied does =
        let is_skipped : answer ≡ reply.Skipped = replied ∙ ap factory_reply skipped.0 in
        let it = skipped_matches terms_so choices names (command.Create node name named attributes steps) taken naming order old new state
        tt stands
        (subst StepsTo is_skipped does) in
        record {
          taken = taken;
          naming = naming;
          order = order;
          after = state;
          step = subst (λ (a : Reply T). machine.Step types choices old.hub.expired_connection_buffer
              (command.Create node name named attributes steps) state a state) (sym is_skipped) it.0;
          stands = it.1;
        }

    pub followed : (answer : Reply T) → StepsTo answer → Followed answer
    followed answer (made, numbered, same_made, replied) =
        by_node (is_node node old.hub.nodes) refl made numbered same_made answer replied (made, numbered, same_made, replied)

  pub create_matches : (choices : Choices T) → CreateMatches terms_so choices
  create_matches choices names node name named attributes steps asked own taken naming order old new state answer ready stands does =
      followed choices names node name named attributes steps asked taken naming order old new state own ready stands answer does
