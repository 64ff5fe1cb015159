-- A node opens a service, or creates it where none stands: what a hub does is what a machine does.
use Rattle.std.proofs.Common.{◌≡◌, ℕ, ◌+◌, ◌^◌, ◌<◌, ◌&&◌, Bool, true, false, List, length, Option, None, Some, Result, Ok, Err}
use Rattle.std.proofs.Common.{refl, sym, ap, subst, ◌∙◌, inl, inr, arith}
use Rattle.std.proofs.Math.Logic.{⊎_elim}
use Rattle.std.specs.List.{IsAmong}
use Rattle.std.specs.Prelude.{nat_le}
use Rattle.std.specs.declared.alloc.AllocError.{AllocError}
use Rattle.iox_command.specs.NegotiateBase.DescribeBase.Attributes.{Required}
use Rattle.iox_command.specs.NegotiateBase.DescribeBase.Hash.{service_hash_of}
use Rattle.iox_command.specs.NegotiateBase.DescribeBase.declared.message_type.MessageTypeDetails.{MessageTypeDetails}
use Rattle.iox_command.specs.NegotiateBase.DescribeBase.declared.pattern.MessagingPattern.{MessagingPattern}
use Rattle.iox_command.specs.NegotiateBase.DescribeBase.declared.pattern.MessagingPattern.TheVariants as pattern
use Rattle.iox_command.specs.NegotiateBase.DescribeSettings.Agreement.{Agreement as Description, AreWithinLimits, HasNoRoomForHistory}
use Rattle.iox_command.specs.NegotiateBase.DescribeVerdict.EventClauses as event_clauses
use Rattle.iox_command.specs.NegotiateBase.DescribeVerdict.PublishSubscribeClauses as publish_subscribe_clauses
use Rattle.iox_command.specs.NegotiateBase.DescribeVerdict.RequestResponseClauses as request_response_clauses
use Rattle.iox_command.specs.NegotiateBase.DescribeVerdict.Verdict.{first_unmet}
use Rattle.iox_command.specs.NegotiateBase.EventErrors as event
use Rattle.iox_command.specs.NegotiateBase.PublishSubscribeErrors as publish_subscribe
use Rattle.iox_command.specs.NegotiateBase.RequestResponseErrors as request_response
use Rattle.iox_command.specs.NegotiateBase.declared.failure.CreateFailure.{CreateFailure}
use Rattle.iox_command.specs.NegotiateBase.declared.failure.OpenOrCreateFailure.{OpenOrCreateFailure}
use Rattle.iox_command.specs.NegotiateBase.declared.failure.OpenFailure.TheVariants as unopened
use Rattle.iox_command.specs.NegotiateBase.declared.failure.OpenOrCreateFailure.TheVariants as neither
use Rattle.iox_command.specs.Patterns.{pattern_of}
use Rattle.iox_command.specs.NegotiateBase.DescribeBase.declared.type_detail.TypeVariant.{TypeVariant}
use Rattle.iox_command.specs.declared.command.Command.TheVariants as command
use Rattle.iox_command.specs.declared.refusal.Refusal.{Refusal}
use Rattle.iox_command.specs.declared.refusal.Refusal.TheVariants as refusal
use Rattle.iox_command.specs.declared.reply.Reply.{Reply}
use Rattle.iox_command.specs.declared.reply.Reply.TheVariants as reply
use Rattle.iox_command.specs.declared.service.EventOptions.{EventOptions}
use Rattle.iox_command.specs.declared.service.PublishSubscribeOptions.{PublishSubscribeOptions}
use Rattle.iox_command.specs.declared.service.RequestResponseOptions.{RequestResponseOptions}
use Rattle.iox_command.specs.declared.service.ServiceOptions.{ServiceOptions}
use Rattle.iox_command.specs.declared.service.ServiceOptions.TheVariants as options
use Rattle.iox_command.specs.declared.step.StepBefore.{StepBefore}
use Rattle.iox_domain.specs.Fitting.{asked_types}
use Rattle.iox_domain.specs.declared.ports.service_ports.ServicePorts.{ServicePorts}
use Rattle.iox_domain_machine.specs.Naming.{Naming}
use Rattle.iox_hub_base.proofs.SameTable.{went-keeps}
use Rattle.iox_hub_base.specs.Hubs.{is_node}
use Rattle.iox_hub_base.specs.Opening.{Made, OpensInHub, lacking_either}
use Rattle.iox_hub_base.specs.declared.hub.HashState.{HashState}
use Rattle.iox_hub_commands.specs.Asked.{required_event, required_publish_subscribe, required_request_response}
use Rattle.iox_hub_commands.specs.Asking.{agreed_of}
use Rattle.iox_hub_commands.specs.Either.{EitherAs, EitherNumbered, EitherPrepared, either_lacking}
use Rattle.iox_hub_commands.specs.Refusing.{IsUncreated, either_told, first_look}
use Rattle.iox_hub_commands.specs.Replies.{factory_reply}
use Rattle.iox_hub_commands.specs.ServicesNumbering.{IsRefusedWith, Numbers, Prepares}
use Rattle.iox_hub_commands.specs.ServicesTables.{FactoryTable, SameNumbers}
use Rattle.iox_hub_commands.specs.declared.numbered_hub.NumberedHub.{NumberedHub}
use Rattle.iox_hub_commands.specs.Terms.{Terms}
use Rattle.iox_hub_machine.proofs.Answered.{Came, IsAnswered, StandsEntered, answered, lacking_answered}
use Rattle.iox_hub_machine.proofs.Answered.{room_lacking, with_factory_in}
use Rattle.iox_hub_machine.proofs.AtOnce.{at_once}
use Rattle.iox_hub_machine.proofs.EnteredStands.{stands_entered}
use Rattle.iox_hub_machine.proofs.Entering.{either_enters, neither_keeps}
use Rattle.iox_hub_machine.proofs.FewHeld.{few_held}
use Rattle.iox_hub_machine.proofs.FittingThen.{FitsHere, met_fits, new_fits}
use Rattle.iox_hub_machine.proofs.Formed.{AreMade, formed_so, listed_so}
use Rattle.iox_hub_machine.proofs.Openings.{agreed_there, by_true, is_event, is_request_response}
use Rattle.iox_hub_machine.proofs.FoundStanding.{found_so, look_finds, refuses_either}
use Rattle.iox_hub_machine.proofs.Skipping.{skipped_matches}
use Rattle.iox_hub_machine.proofs.Verdicts.{event_judge, publish_subscribe_judge, request_response_judge}
use Rattle.iox_hub_machine.proofs.Verdicts.{new_agreement, same_event_verdict, same_publish_subscribe_verdict}
use Rattle.iox_hub_machine.proofs.Verdicts.{same_request_response_verdict}
use Rattle.iox_hub_machine.specs.OpenLaws.{HasNumbersFor, OpeningOrCreatingMatches}
use Rattle.iox_hub_machine.specs.ServiceLaws.{IsFollowed}
use Rattle.iox_hub_machine.specs.Services.{HubStandsFor, factory_as}
use Rattle.iox_hub_machine.specs.TypedTerms.{asked_terms}
use Rattle.iox_machine.specs.Choices.{Choices}
use Rattle.iox_machine.proofs.Names.{phase-there}
use Rattle.iox_machine.proofs.Opened.{either-meets-asked}
use Rattle.iox_machine.specs.Agreement.{Agreement, verdict}
use Rattle.iox_machine.specs.Asked.{settings_of}
use Rattle.iox_machine.proofs.Shorthands as told_of
use Rattle.iox_machine.specs.Factories.{Negotiates, OpensOrCreatesService}
use Rattle.iox_machine.specs.Refusals.{either_refusal}
use Rattle.iox_machine.specs.Negotiation.{Call}
use Rattle.iox_machine.specs.OpeningLaws.{IsAgreedOn}
use Rattle.iox_machine.specs.Phase.{Node, Own, Published}
use Rattle.iox_machine.specs.Run as machine
use Rattle.iox_machine.specs.State.{Factory, State}
use Rattle.iox_negotiate.specs.Negotiation as built
use Rattle.iox_negotiate_machine.proofs.OpenCalls.{open-or-create-matches}
use Rattle.iox_negotiate_machine.proofs.Refusing.{unfit-is}
use Rattle.iox_negotiate_machine.proofs.Told.{either-told, event-either-told, event_clause, publish-subscribe-either-told}
use Rattle.iox_negotiate_machine.proofs.Told.{publish_subscribe_clause, request-response-either-told, request_response_clause}
use Rattle.iox_negotiate_machine.specs.Laws.{HaveOwnHashes}
use Rattle.iox_negotiate_machine.specs.Standing.{description_of}
use Rattle.iox_negotiate_table.specs.Stepped.{SteppedSight}
use Rattle.iox_negotiate_table.specs.declared.step.ForeignStep.{ForeignStep as TableStep}
use Rattle.iox_machine.proofs.Shorthands.{OpensOrCreates}

module _ {T U B D : Type 0} (variant : TypeVariant) (terms : Terms T U B D) (choices : Choices T) where
  abbrev terms_so : Terms T U B D
  terms_so = asked_terms variant terms

  abbrev types : MessageTypeDetails
  types = asked_types variant terms.payload terms.user_header

  module _ (names : List (List ℕ)) (node : ℕ) (name : List ℕ) (required : Required) (steps : List StepBefore)
      (asked : IsAmong names name)
      (taken : MessagingPattern → List ℕ → List ℕ) (naming : ℕ → Naming) (order : List (ℕ × ServicePorts T U))
      (old new : NumberedHub T U B D) (state : State T) (own : HaveOwnHashes names) (fit : HasNumbersFor (length steps + 1) old)
      (stands : HubStandsFor choices terms.degrades terms.decides terms.reader_degrades names taken naming order old state)
      (there : is_node node old.hub.nodes ≡ true) where
    made_node : (nat_le 1 node && nat_le node state.made.nodes) ≡ true
    made_node = ap (λ (n : ℕ). nat_le 1 node && nat_le node n) (sym stands.nodes) ∙ there

    entering : (kind : MessagingPattern)
        → StandsEntered terms.payload terms.user_header choices terms.degrades terms.decides terms.reader_degrades names own kind name
        asked taken naming order node old new state stands
    entering kind = stands_entered terms.payload terms.user_header choices terms.degrades terms.decides terms.reader_degrades names own
        kind name asked taken naming order node
        old new state stands fit.rise fit.factories

    room : (next some : ℕ) → next + (some + 1) < 2 ^ 64 → next + some + 1 < 2 ^ 64
    room next some few = omega (arith, few)

    -- what is told for want of memory
    same_lacking : {V : Type 0} (fresh : Bool)
        → ◌≡◌ {A = OpenOrCreateFailure V} (lacking_either fresh) (told_of.either_lacking fresh)
    same_lacking true = refl
    same_lacking false = refl

    module _ (named : ServiceOptions) {V E : Type 0} (judge : Description → Result (Unit {0}) V)
        (verdict : Agreement → Result (Unit {0}) V)
        (judged : (agreed : Agreement) → judge (description_of (pattern_of named) name agreed) ≡ verdict agreed)
        (error : OpenOrCreateFailure V → E) (refused : E → Refusal) where
      abbrev kind : MessagingPattern
      kind = pattern_of named

      -- what is agreed on in a service that is new
      abbrev fresh_one : Agreement
      fresh_one = new_agreement types required name named

      -- the call of the machine
      abbrev Goes : Call → Option (Result Bool (OpenOrCreateFailure V)) → Call → Type 0
      Goes = OpensOrCreates types kind steps (Own node) verdict fresh_one

      -- what is told of a failure
      abbrev tell : OpenOrCreateFailure V → Refusal
      tell why = refused (error why)

      abbrev Is : Reply T → Type 0
      Is = IsAnswered terms.payload terms.user_header choices terms.degrades terms.decides terms.reader_degrades names own kind name asked
          taken naming order node old new state
          stands Goes tell told_of.either_lacking

      either_so : {can_be : Type 0} (fits : (fresh : Bool) (last : Call)
          → Goes (record { phase = state.phases kind name; accesses = 0 }) (Some (Ok fresh)) last
          → kind ≡ pattern.PublishSubscribe → (life : ℕ) (agreed : Agreement) (nodes : List (Node × ℕ))
          → last.phase ≡ Published life agreed nodes → FitsHere terms.payload terms.user_header agreed.settings)
          → (lists : List (List TableStep)) → AreMade types name steps lists
          → (roomier : FactoryTable) → SameNumbers old.factories.made roomier → new.made ≡ old.made → (result : Result ℕ Refusal)
          → (opened : Result Made E)
          → OpensInHub terms.payload terms.user_header can_be (λ was_new. error (lacking_either was_new))
          (λ before came after. built.Either SteppedSight before.table.id (service_hash_of kind name) node judge
          (agreed_of name named types required.pairs) (AreWithinLimits (settings_of types named))
          (HasNoRoomForHistory (settings_of types named)) error before came after)
          lists old.hub opened new.hub
          → Numbers kind refused opened roomier result new.factories.made
          → Is (factory_reply (Some result))
      either_so fits lists listed roomier same same_made result opened (inr (can, is, still)) numbers =
          room_lacking terms.payload terms.user_header choices terms.degrades terms.decides terms.reader_degrades names own kind name
          asked taken naming order node old new state stands Goes tell told_of.either_lacking refused (error (lacking_either false))
          (ap (λ (why : OpenOrCreateFailure V). refused (error why)) (same_lacking false)) opened is roomier result same same_made numbers
          still
      either_so fits lists listed roomier same same_made result opened (inl does) numbers =
          answered terms.payload terms.user_header choices terms.degrades terms.decides terms.reader_degrades names own kind name asked
          taken naming order node old new
          state
          stands Goes tell told_of.either_lacking error refused (λ why. refl) (λ was_new. error (lacking_either was_new))
          (λ fresh. ap error (same_lacking fresh))
          (λ why last goes. neither_keeps kind name (taken kind name) (state.phases kind name) types steps node verdict last fresh_one why
          goes)
          (λ fresh last goes. either_enters kind name (taken kind name) (state.phases kind name) types steps node verdict last fresh_one
          fresh goes)
          fits stands.factories.numbers (entering kind) roomier same same_made does.mid.table
          (went-keeps does.negotiated.negotiated.done.made (record { table = old.hub.table; lists = lists }) does.mid
          does.negotiated.negotiated.done.went)
          result does.answer opened
          (open-or-create-matches T V E names types name node old.hub.table.id judge verdict named required.pairs steps lists taken
          old.hub.table does.mid error does.answer state own asked (formed_so types name steps lists listed)
          (room old.hub.table.next (length steps) fit.locks)
          (listed_so types name steps lists listed) stands.table
          (few_held kind name node (state.phases kind name) old.factories.made.entries old.factories.made.next factory_as state.factories
          fit.rise fit.factories stands.factories.same (stands.factories.seats kind name node asked))
          judged does.negotiated)
          does.settled numbers

    -- ---- by pattern

    abbrev Followed : ServiceOptions → Reply T → Type 0
    Followed named answer = IsFollowed terms_so choices names (command.OpenOrCreate node name named required steps) old new state answer

    module _ (named : ServiceOptions) (kind : MessagingPattern) {F : Type 0} (Calls : Call → Option (Result Bool F) → Call → Type 0)
        (told : F → Refusal) (lacks : Bool → F) (answer : Reply T)
        (steps_so : (after : State T)
        → Came terms.payload terms.user_header choices terms.degrades terms.decides terms.reader_degrades names own kind name asked taken
        naming order node old new state stands
        Calls told lacks answer after
        → machine.Step types choices old.hub.expired_connection_buffer (command.OpenOrCreate node name named required steps) state
        answer after)
      where
        followed_by : IsAnswered terms.payload terms.user_header choices terms.degrades terms.decides terms.reader_degrades names own kind
            name asked taken naming order node
            old new
            state stands Calls told lacks answer
            → Followed named answer
        followed_by it = record {
          taken = it.taken_then;
          naming = it.naming_then;
          order = it.order_then;
          after = it.after;
          step = steps_so it.after it.came;
          stands = it.stands_then;
        }

    -- the factory that the node gets
    abbrev factory_in : MessagingPattern → Factory
    factory_in kind = record { pattern = kind; name = name; node = node }

    -- what comes of the call of a machine whose clauses are told so is a step of the machine
    module _ (answer : Reply T) (after : State T) where
      publish_subscribe_step : (named : PublishSubscribeOptions)
          → Negotiates (OpensOrCreates types pattern.PublishSubscribe steps (Own node) (publish_subscribe_judge types required name named)
          (new_agreement types required name (options.PublishSubscribe named)))
          (λ why. refusal.PublishSubscribeOpenOrCreate (publish_subscribe.open_or_create_error why)) told_of.either_lacking
          (factory_in pattern.PublishSubscribe) state answer after
          → OpensOrCreatesService types steps (factory_in pattern.PublishSubscribe) (options.PublishSubscribe named) required state answer
          after
      publish_subscribe_step named =
          either-told types steps (factory_in pattern.PublishSubscribe) (options.PublishSubscribe named) required publish_subscribe_clause
          (publish_subscribe_judge types required name named) (λ agreed. same_publish_subscribe_verdict types required name named agreed)
          state answer after
          (λ why. refusal.PublishSubscribeOpenOrCreate (publish_subscribe.open_or_create_error why)) (publish-subscribe-either-told named)

      event_step : (named : EventOptions)
          → Negotiates (OpensOrCreates types pattern.Event steps (Own node) (event_judge types required name named)
          (new_agreement types required name (options.Event named)))
          (λ why. refusal.EventOpenOrCreate (event.open_or_create_error why)) told_of.either_lacking
          (factory_in pattern.Event) state answer after
          → OpensOrCreatesService types steps (factory_in pattern.Event) (options.Event named) required state answer after
      event_step named =
          either-told types steps (factory_in pattern.Event) (options.Event named) required event_clause
          (event_judge types required name named) (λ agreed. same_event_verdict types required name named agreed)
          state answer after
          (λ why. refusal.EventOpenOrCreate (event.open_or_create_error why)) (event-either-told named)

      request_response_step : (named : RequestResponseOptions)
          → Negotiates (OpensOrCreates types pattern.RequestResponse steps (Own node) (request_response_judge types required name named)
          (new_agreement types required name (options.RequestResponse named)))
          (λ why. refusal.RequestResponseOpenOrCreate (request_response.open_or_create_error why)) told_of.either_lacking
          (factory_in pattern.RequestResponse) state answer after
          → OpensOrCreatesService types steps (factory_in pattern.RequestResponse) (options.RequestResponse named) required state answer
          after
      request_response_step named =
          either-told types steps (factory_in pattern.RequestResponse) (options.RequestResponse named) required request_response_clause
          (request_response_judge types required name named) (λ agreed. same_request_response_verdict types required name named agreed)
          state answer after
          (λ why. refusal.RequestResponseOpenOrCreate (request_response.open_or_create_error why)) (request-response-either-told named)

    -- what is opened is as it was asked for, and what is created is so
    either_fits : (named : PublishSubscribeOptions) (fresh : Bool) (last : Call)
        → OpensOrCreates types pattern.PublishSubscribe steps (Own node) (publish_subscribe_judge types required name named)
        (new_agreement types required name (options.PublishSubscribe named))
        (record { phase = state.phases pattern.PublishSubscribe name; accesses = 0 }) (Some (Ok fresh)) last
        → pattern.PublishSubscribe ≡ pattern.PublishSubscribe → (life : ℕ) (agreed : Agreement) (nodes : List (Node × ℕ))
        → last.phase ≡ Published life agreed nodes → FitsHere terms.payload terms.user_header agreed.settings
    either_fits named fresh last goes is life agreed nodes phase_is =
        ⊎_elim (λ met. met_fits terms.payload terms.user_header variant required named agreed
        (agreed_there (λ one. verdict types (options.PublishSubscribe named) required one ≡ Ok tt) last.phase life agreed nodes phase_is
        (subst (IsAgreedOn (λ one. verdict types (options.PublishSubscribe named) required one ≡ Ok tt))
        (phase-there pattern.PublishSubscribe name last.phase state) met)))
        (λ new_one. subst (λ (one : Agreement). FitsHere terms.payload terms.user_header one.settings) (same_agreed new_one.0 life
        (new_agreement types required name (options.PublishSubscribe named)) agreed _ nodes
        (sym new_one.2 ∙ phase-there pattern.PublishSubscribe name last.phase state ∙ phase_is))
        (new_fits terms.payload terms.user_header variant named))
        ((either-meets-asked choices types old.hub.expired_connection_buffer node name (options.PublishSubscribe named) required steps
        state (reply.FactoryMade (state.made.factories + 1)) then
        (publish_subscribe_step (reply.FactoryMade (state.made.factories + 1)) then named
        (by_true _ _ _ made_node (inr (Ok fresh, last, goes, inl (refl, refl)))))).0 (state.made.factories + 1) refl)
      where
        then : State T
        then = with_factory_in terms.payload terms.user_header choices terms.degrades terms.decides terms.reader_degrades names own
            pattern.PublishSubscribe name asked taken
            naming order node old new state stands last.phase

        same_agreed : (one other : ℕ) (agreed another : Agreement) (some others : List (Node × ℕ))
            → Published one agreed some ≡ Published other another others → agreed ≡ another
        same_agreed one other agreed another some others e = cc

    either_as : (named : ServiceOptions) (lists : List (List TableStep)) → AreMade types name steps lists
        → (roomier : FactoryTable) → SameNumbers old.factories.made roomier → new.made ≡ old.made → (result : Result ℕ Refusal)
        → EitherAs named terms.payload terms.user_header types node name required lists roomier old.hub result new.factories.made new.hub
        → Followed named (factory_reply (Some result))
    either_as (options.PublishSubscribe named) lists listed roomier same same_made result (opened, does, numbers) =
        followed_by (options.PublishSubscribe named) pattern.PublishSubscribe _ _ _ _
        (λ after came. publish_subscribe_step (factory_reply (Some result)) after named (by_true _ _ _ made_node came))
        (either_so (options.PublishSubscribe named)
        (λ given. first_unmet (publish_subscribe_clauses.clauses (required_publish_subscribe named types required) given))
        (publish_subscribe_judge types required name named) (λ agreed. refl)
        publish_subscribe.open_or_create_error refusal.PublishSubscribeOpenOrCreate (either_fits named) lists listed roomier same
        same_made result opened does
        numbers)
    either_as (options.Event named) lists listed roomier same same_made result (opened, does, numbers) =
        followed_by (options.Event named) pattern.Event _ _ _ _
        (λ after came. event_step (factory_reply (Some result)) after named (by_true _ _ _ made_node came))
        (either_so (options.Event named)
        (λ given. first_unmet (event_clauses.clauses (required_event named required) given))
        (event_judge types required name named) (λ agreed. refl)
        event.open_or_create_error refusal.EventOpenOrCreate (λ fresh last goes is. absurd (is_event is)) lists listed roomier same
        same_made result opened
        does numbers)
    either_as (options.RequestResponse named) lists listed roomier same same_made result (opened, does, numbers) =
        followed_by (options.RequestResponse named) pattern.RequestResponse _ _ _ _
        (λ after came. request_response_step (factory_reply (Some result)) after named (by_true _ _ _ made_node came))
        (either_so (options.RequestResponse named)
        (λ given. first_unmet (request_response_clauses.clauses (required_request_response named types required) given))
        (request_response_judge types required name named) (λ agreed. refl)
        request_response.open_or_create_error refusal.RequestResponseOpenOrCreate (λ fresh last goes is. absurd (is_request_response is))
        lists listed roomier
        same same_made result opened does numbers)

    -- the refusal for want of memory
    lacking_is : (named : ServiceOptions) → either_lacking named ≡ either_refusal named (neither.Open unopened.OutOfMemory)
    lacking_is (options.PublishSubscribe named) = refl
    lacking_is (options.Event named) = refl
    lacking_is (options.RequestResponse named) = refl

    lacks_as : (named : ServiceOptions) (lacking : AllocError) (roomier : FactoryTable) → SameNumbers old.factories.made roomier
        → new.made ≡ old.made → (result : Result ℕ Refusal)
        → IsRefusedWith (either_lacking named) roomier old.hub result new.factories.made new.hub
        → Followed named (factory_reply (Some result))
    lacks_as named lacking roomier same same_made result does =
        followed_by named (pattern_of named)
        (OpensOrCreates types (pattern_of named) steps (Own node) (verdict types named required) (new_agreement types required name named))
        (either_refusal named) told_of.either_lacking _ (λ after came. by_true _ _ _ made_node came)
        (lacking_answered terms.payload terms.user_header choices terms.degrades terms.decides terms.reader_degrades names own
        (pattern_of named) name asked taken naming order node old new state stands
        (OpensOrCreates types (pattern_of named) steps (Own node) (verdict types named required) (new_agreement types required name named))
        (either_refusal named) told_of.either_lacking roomier result same same_made
        (subst (λ (why : Refusal). IsRefusedWith why roomier old.hub result new.factories.made new.hub) (lacking_is named) does))

    prepared_so : (named : ServiceOptions) (prepared : Result (List (List TableStep)) AllocError) (roomier : FactoryTable)
        → new.made ≡ old.made → (result : Result ℕ Refusal)
        → Prepares name types steps old.factories.made prepared roomier
        → EitherPrepared prepared terms.payload terms.user_header types (record { node = node; name = name; options = named }) required
        roomier old.hub
        result new.factories.made new.hub
        → Followed named (factory_reply (Some result))
    prepared_so named (Ok lists) roomier same_made result prepares does =
        either_as named lists (prepares.1, prepares.3) roomier prepares.0 same_made result does
    prepared_so named (Err lacking) roomier same_made result prepares does =
        lacks_as named lacking roomier prepares.0 same_made result does

    -- what the first lookup tells
    told_so : (named : ServiceOptions) (refused : Option CreateFailure) (why : Refusal) → IsUncreated (settings_of types named) refused
        → either_told named refused (first_look (record { node = node; name = name; options = named }) steps old.hub) ≡ Some why
        → new.hub ≡ old.hub → new.factories.made ≡ old.factories.made → new.made ≡ old.made
        → Followed named (factory_reply (Some (Err why)))
    told_so named refused why fits told still same same_made =
        among (first_look (record { node = node; name = name; options = named }) steps old.hub) refl told
      where
        among : (found : Option HashState) → first_look (record { node = node; name = name; options = named }) steps old.hub ≡ found
            → either_told named refused found ≡ Some why → Followed named (factory_reply (Some (Err why)))
        among None finds told_now = absurd cc
        among (Some it) finds told_now =
            let (none, is) = look_finds (record { node = node; name = name; options = named }) steps old.hub it finds in
            let stands_so = found_so (pattern_of named) name old.hub.table (state.phases (pattern_of named) name)
            (taken (pattern_of named) name) (stands.table.phases (pattern_of named) name asked).lies in
            let (failure, told_is, opens) = refuses_either types (pattern_of named) steps (Own node) named (verdict types named required)
            (new_agreement types required name named) (state.phases (pattern_of named) name) refused (unfit-is types named refused fits) why
            (ap (λ (s : HashState). either_told named refused (Some s)) (sym stands_so ∙ is) ∙ told_now) none in
            followed_by named (pattern_of named)
            (OpensOrCreates types (pattern_of named) steps (Own node) (verdict types named required)
            (new_agreement types required name named))
            (either_refusal named) told_of.either_lacking _ (λ after came. by_true _ _ _ made_node came)
            (at_once terms choices names own (pattern_of named) name asked taken naming order node old new state stands
            (OpensOrCreates types (pattern_of named) steps (Own node) (verdict types named required)
            (new_agreement types required name named))
            (either_refusal named) told_of.either_lacking failure why told_is opens still same same_made)

  pub openings_or_creations_match : OpeningOrCreatingMatches terms_so choices
  openings_or_creations_match names node name named required steps asked own taken naming order old new state answer fit stands
      (made, does, same_made, told) =
      by_node (is_node node old.hub.nodes) refl does
    where
      Now : Reply T → Type 0
      Now given = IsFollowed terms_so choices names (command.OpenOrCreate node name named required steps) old new state given

      by_node : (b : Bool) → is_node node old.hub.nodes ≡ b
          → EitherNumbered b terms.payload terms.user_header types (record { node = node; name = name; options = named }) required steps
          old.factories.made old.hub made new.factories.made new.hub
          → Now answer
      by_node true is (inl (refused, why, fits, finds, (made_is, same, still))) =
          subst Now (sym (told ∙ ap factory_reply made_is))
          (told_so names node name required steps asked taken naming order old new state own fit stands is named refused why fits finds
          still same same_made)
      by_node true is (inr (prepared, roomier, result, prepares, opens, made_is)) =
          subst Now (sym (told ∙ ap factory_reply made_is))
          (prepared_so names node name required steps asked taken naming order old new state own fit stands is named prepared roomier
          same_made result prepares opens)
      by_node false is (none, table_is, hub_is) =
          let replied : answer ≡ reply.Skipped = told ∙ ap factory_reply none in
          let so = skipped_matches terms_so choices names (command.OpenOrCreate node name named required steps) taken naming order old new
          state tt stands
          (made, does, same_made, sym replied ∙ told) in
          subst Now (sym replied)
          (record { taken = taken; naming = naming; order = order; after = state; step = so.0; stands = so.1 })
