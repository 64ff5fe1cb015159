-- A node opens a service: what a hub does is what a machine does.
use Rattle.std.proofs.Common.{◌≡◌, ℕ, ◌+◌, ◌&&◌, Bool, true, false, List, length, Option, None, Some, Result, Ok, Err}
use Rattle.std.proofs.Common.{refl, sym, ap, subst, ◌∙◌, inl, inr}
use Rattle.std.specs.List.{IsAmong}
use Rattle.std.specs.Prelude.{nat_le, MatchBool}
use Rattle.std.specs.declared.alloc.AllocError.{AllocError}
use Rattle.iox_command.specs.NegotiateBase.DescribeBase.Attributes.{Required}
use Rattle.iox_command.specs.NegotiateBase.DescribeBase.Hash.{service_hash_of}
use Rattle.iox_command.specs.NegotiateBase.DescribeBase.declared.message_type.MessageTypeDetails.{MessageTypeDetails}
use Rattle.iox_command.specs.NegotiateBase.DescribeBase.declared.pattern.MessagingPattern.{MessagingPattern}
use Rattle.iox_command.specs.NegotiateBase.DescribeBase.declared.pattern.MessagingPattern.TheVariants as pattern
use Rattle.iox_command.specs.NegotiateBase.DescribeSettings.Agreement.{Agreement as Description}
use Rattle.iox_command.specs.NegotiateBase.DescribeVerdict.EventClauses as event_clauses
use Rattle.iox_command.specs.NegotiateBase.DescribeVerdict.PublishSubscribeClauses as publish_subscribe_clauses
use Rattle.iox_command.specs.NegotiateBase.DescribeVerdict.RequestResponseClauses as request_response_clauses
use Rattle.iox_command.specs.NegotiateBase.DescribeVerdict.Verdict.{first_unmet}
use Rattle.iox_command.specs.NegotiateBase.EventErrors as event
use Rattle.iox_command.specs.NegotiateBase.PublishSubscribeErrors as publish_subscribe
use Rattle.iox_command.specs.NegotiateBase.RequestResponseErrors as request_response
use Rattle.iox_command.specs.NegotiateBase.declared.failure.OpenFailure.{OpenFailure}
use Rattle.iox_command.specs.NegotiateBase.declared.failure.OpenFailure.TheVariants as unopened
use Rattle.iox_command.specs.NegotiateBase.DescribeBase.declared.type_detail.TypeVariant.{TypeVariant}
use Rattle.iox_command.specs.Patterns.{pattern_of}
use Rattle.iox_command.specs.declared.command.Command.TheVariants as command
use Rattle.iox_command.specs.declared.refusal.Refusal.{Refusal}
use Rattle.iox_command.specs.declared.refusal.Refusal.TheVariants as refusal
use Rattle.iox_command.specs.declared.reply.Reply.{Reply}
use Rattle.iox_command.specs.declared.reply.Reply.TheVariants as reply
use Rattle.iox_command.specs.declared.service.EventOptions.{EventOptions}
use Rattle.iox_command.specs.declared.service.PublishSubscribeOptions.{PublishSubscribeOptions}
use Rattle.iox_command.specs.declared.service.RequestResponseOptions.{RequestResponseOptions}
use Rattle.iox_command.specs.declared.service.ServiceOptions.{ServiceOptions}
use Rattle.iox_command.specs.declared.service.ServiceOptions.TheVariants as options
use Rattle.iox_command.specs.declared.step.StepBefore.{StepBefore}
use Rattle.iox_domain.specs.Fitting.{asked_types}
use Rattle.iox_domain.specs.declared.ports.service_ports.ServicePorts.{ServicePorts}
use Rattle.iox_domain_machine.proofs.Found.{same_some}
use Rattle.iox_domain_machine.specs.Naming.{Naming}
use Rattle.iox_hub_base.proofs.SameTable.{went-keeps}
use Rattle.iox_hub_base.specs.Hubs.{is_node}
use Rattle.iox_hub_base.specs.Opening.{Made, OpensInHub}
use Rattle.iox_hub_base.specs.declared.hub.HashState.{HashState}
use Rattle.iox_hub_commands.specs.Asked.{required_event, required_publish_subscribe, required_request_response}
use Rattle.iox_hub_commands.specs.Opening.{OpensAs, OpensNumbered, OpensPrepared, open_lacking}
use Rattle.iox_hub_commands.specs.Refusing.{first_look, open_told}
use Rattle.iox_hub_commands.specs.Replies.{factory_reply}
use Rattle.iox_hub_commands.specs.ServicesNumbering.{IsRefusedWith, Numbers, Prepares}
use Rattle.iox_hub_commands.specs.ServicesTables.{FactoryTable, SameNumbers}
use Rattle.iox_hub_commands.specs.declared.numbered_hub.NumberedHub.{NumberedHub}
use Rattle.iox_hub_commands.specs.Terms.{Terms}
use Rattle.iox_hub_machine.proofs.Answered.{Came, IsAnswered, StandsEntered, answered, lacking_answered}
use Rattle.iox_hub_machine.proofs.Answered.{room_lacking, with_factory_in}
use Rattle.iox_hub_machine.proofs.AtOnce.{at_once}
use Rattle.iox_hub_machine.proofs.EnteredStands.{stands_entered}
use Rattle.iox_hub_machine.proofs.Entering.{opened_enters, unopened_keeps}
use Rattle.iox_hub_machine.proofs.FewHeld.{few_held}
use Rattle.iox_hub_machine.proofs.FittingThen.{FitsHere, met_fits}
use Rattle.iox_hub_machine.proofs.Formed.{AreMade, formed_so, listed_so}
use Rattle.iox_hub_machine.proofs.FoundStanding.{found_so, look_finds, refuses_to_open}
use Rattle.iox_hub_machine.proofs.Skipping.{skipped_matches}
use Rattle.iox_hub_machine.proofs.Verdicts.{event_judge, publish_subscribe_judge, request_response_judge}
use Rattle.iox_hub_machine.proofs.Verdicts.{same_event_verdict, same_publish_subscribe_verdict, same_request_response_verdict}
use Rattle.iox_hub_machine.specs.OpenLaws.{HasNumbersFor, OpeningMatches}
use Rattle.iox_hub_machine.specs.ServiceLaws.{IsFollowed}
use Rattle.iox_hub_machine.specs.Services.{HubStandsFor, factory_as}
use Rattle.iox_hub_machine.specs.TypedTerms.{asked_terms}
use Rattle.iox_machine.specs.Choices.{Choices}
use Rattle.iox_machine.proofs.Names.{phase-there}
use Rattle.iox_machine.proofs.Opened.{opened-meets-asked}
use Rattle.iox_machine.specs.Agreement.{Agreement, verdict}
use Rattle.iox_machine.specs.AgreementLaws.{agreed_in}
use Rattle.iox_machine.specs.Negotiation.{Call}
use Rattle.iox_machine.specs.Factories.{Negotiates, OpensService}
use Rattle.iox_machine.specs.OpeningLaws.{IsAgreedOn}
use Rattle.iox_machine.specs.Refusals.{open_refusal}
use Rattle.iox_machine.specs.Phase.{Node, Own, Phase, Published}
use Rattle.iox_machine.specs.Run as machine
use Rattle.iox_machine.specs.State.{Factory, State}
use Rattle.iox_negotiate.specs.Negotiation as built
use Rattle.iox_negotiate_machine.proofs.OpenCalls.{open-matches}
use Rattle.iox_negotiate_machine.proofs.Told.{event-open-told, event_clause, opening-told, publish-subscribe-open-told}
use Rattle.iox_negotiate_machine.proofs.Told.{publish_subscribe_clause, request-response-open-told, request_response_clause}
use Rattle.iox_negotiate_machine.specs.Laws.{HaveOwnHashes}
use Rattle.iox_negotiate_machine.specs.Standing.{description_of}
use Rattle.iox_negotiate_table.specs.NegotiateBase.Opening as rounds
use Rattle.iox_negotiate_table.specs.Stepped.{SteppedSight}
use Rattle.iox_negotiate_table.specs.declared.step.ForeignStep.{ForeignStep as TableStep}
use Rattle.iox_machine.proofs.Shorthands.{Opens}

-- what is done where a test is passed
pub by_true : (P Q : Type 0) (b : Bool) → b ≡ true → P → MatchBool b P Q
by_true P Q true is p = p
by_true P Q false is p = absurd (differ is)
  where
    differ : false ≡ true → ⊥
    differ e = cc

-- what is agreed on in a phase of which it is known
pub agreed_there : (So : Agreement → Type 0) (phase : Phase) (life : ℕ) (agreed : Agreement) (nodes : List (Node × ℕ))
    → phase ≡ Published life agreed nodes → IsAgreedOn So phase → So agreed
agreed_there So phase life agreed nodes is (one, known, so) =
    subst So (same_some one agreed (sym known ∙ ap agreed_in is)) so

pub is_event : pattern.Event ≡ pattern.PublishSubscribe → ⊥
is_event e = cc

pub is_request_response : pattern.RequestResponse ≡ pattern.PublishSubscribe → ⊥
is_request_response e = cc

module _ {T U B D : Type 0} (variant : TypeVariant) (terms : Terms T U B D) (choices : Choices T) where
  abbrev terms_so : Terms T U B D
  terms_so = asked_terms variant terms

  abbrev types : MessageTypeDetails
  types = asked_types variant terms.payload terms.user_header

  module _ (names : List (List ℕ)) (node : ℕ) (name : List ℕ) (required : Required) (steps : List StepBefore)
      (asked : IsAmong names name)
      (taken : MessagingPattern → List ℕ → List ℕ) (naming : ℕ → Naming) (order : List (ℕ × ServicePorts T U))
      (old new : NumberedHub T U B D) (state : State T) (own : HaveOwnHashes names) (fit : HasNumbersFor (length steps) old)
      (stands : HubStandsFor choices terms.degrades terms.decides terms.reader_degrades names taken naming order old state)
      (there : is_node node old.hub.nodes ≡ true) where
    made_node : (nat_le 1 node && nat_le node state.made.nodes) ≡ true
    made_node = ap (λ (n : ℕ). nat_le 1 node && nat_le node n) (sym stands.nodes) ∙ there

    entering : (kind : MessagingPattern)
        → StandsEntered terms.payload terms.user_header choices terms.degrades terms.decides terms.reader_degrades names own kind name
        asked taken naming order node old new state stands
    entering kind = stands_entered terms.payload terms.user_header choices terms.degrades terms.decides terms.reader_degrades names own
        kind name asked taken naming order node
        old new state stands fit.rise fit.factories

    module _ (kind : MessagingPattern) {V E : Type 0} (judge : Description → Result (Unit {0}) V)
        (verdict : Agreement → Result (Unit {0}) V)
        (judged : (agreed : Agreement) → judge (description_of kind name agreed) ≡ verdict agreed) (error : OpenFailure V → E)
        (refused : E → Refusal) where
      -- the call of the machine
      abbrev Goes : Call → Option (Result Bool (OpenFailure V)) → Call → Type 0
      Goes = Opens types kind steps (Own node) verdict

      -- what is told of a failure
      abbrev tell : OpenFailure V → Refusal
      tell why = refused (error why)

      abbrev Is : Reply T → Type 0
      Is = IsAnswered terms.payload terms.user_header choices terms.degrades terms.decides terms.reader_degrades names own kind name asked
          taken naming order node old new state
          stands Goes tell (λ is_new. unopened.OutOfMemory)

      opened_so : {can_be : Type 0} (fits : (fresh : Bool) (last : Call)
          → Goes (record { phase = state.phases kind name; accesses = 0 }) (Some (Ok fresh)) last
          → kind ≡ pattern.PublishSubscribe → (life : ℕ) (agreed : Agreement) (nodes : List (Node × ℕ))
          → last.phase ≡ Published life agreed nodes → FitsHere terms.payload terms.user_header agreed.settings)
          → (lists : List (List TableStep)) → AreMade types name steps lists
          → (roomier : FactoryTable) → SameNumbers old.factories.made roomier → new.made ≡ old.made → (result : Result ℕ Refusal)
          → (opened : Result Made E)
          → OpensInHub terms.payload terms.user_header can_be (λ was_new. error unopened.OutOfMemory)
          (λ before came after. built.Negotiates SteppedSight before.table.id node error
          (λ made answer. rounds.Opens (service_hash_of kind name) node judge made answer) before came after) lists old.hub opened new.hub
          → Numbers kind refused opened roomier result new.factories.made
          → Is (factory_reply (Some result))
      opened_so fits lists listed roomier same same_made result opened (inr (can, is, still)) numbers =
          room_lacking terms.payload terms.user_header choices terms.degrades terms.decides terms.reader_degrades names own kind name
          asked taken naming order node old
          new state stands Goes tell (λ is_new. unopened.OutOfMemory) refused (error unopened.OutOfMemory) refl opened is roomier result
          same same_made numbers still
      opened_so fits lists listed roomier same same_made result opened (inl does) numbers =
          answered terms.payload terms.user_header choices terms.degrades terms.decides terms.reader_degrades names own kind name asked
          taken naming order node old new state
          stands Goes tell (λ is_new. unopened.OutOfMemory) error refused (λ why. refl) (λ was_new. error unopened.OutOfMemory)
          (λ fresh. refl)
          (λ why last goes. unopened_keeps kind name (taken kind name) (state.phases kind name) types steps node verdict last why goes)
          (λ fresh last goes. opened_enters kind name (taken kind name) (state.phases kind name) types steps node verdict last fresh goes)
          fits stands.factories.numbers (entering kind) roomier same same_made does.mid.table
          (went-keeps does.negotiated.done.made (record { table = old.hub.table; lists = lists }) does.mid does.negotiated.done.went)
          result does.answer opened
          (open-matches T V E names types kind name node old.hub.table.id judge verdict steps lists taken old.hub.table does.mid error
          does.answer state own asked (formed_so types name steps lists listed) fit.locks
          (listed_so types name steps lists listed) stands.table
          (few_held kind name node (state.phases kind name) old.factories.made.entries old.factories.made.next factory_as state.factories
          fit.rise fit.factories stands.factories.same (stands.factories.seats kind name node asked))
          judged does.negotiated)
          does.settled numbers

    -- ---- by pattern

    abbrev Followed : ServiceOptions → Reply T → Type 0
    Followed named answer = IsFollowed terms_so choices names (command.Open node name named required steps) old new state answer

    module _ (named : ServiceOptions) (kind : MessagingPattern) {F : Type 0} (Calls : Call → Option (Result Bool F) → Call → Type 0)
        (told : F → Refusal) (lacks : Bool → F) (answer : Reply T)
        (steps_so : (after : State T)
        → Came terms.payload terms.user_header choices terms.degrades terms.decides terms.reader_degrades names own kind name asked taken
        naming order node old new state stands
        Calls told lacks answer after
        → machine.Step types choices old.hub.expired_connection_buffer (command.Open node name named required steps) state answer after)
      where
        followed_by : IsAnswered terms.payload terms.user_header choices terms.degrades terms.decides terms.reader_degrades names own kind
            name asked taken naming order node
            old new
            state stands Calls told lacks answer
            → Followed named answer
        followed_by it = record {
          taken = it.taken_then;
          naming = it.naming_then;
          order = it.order_then;
          after = it.after;
          step = steps_so it.after it.came;
          stands = it.stands_then;
        }

    -- the factory that the node gets
    abbrev factory_in : MessagingPattern → Factory
    factory_in kind = record { pattern = kind; name = name; node = node }

    -- what comes of the call of a machine whose clauses are told so is a step of the machine
    module _ (answer : Reply T) (after : State T) where
      publish_subscribe_step : (named : PublishSubscribeOptions)
          → Negotiates (Opens types pattern.PublishSubscribe steps (Own node) (publish_subscribe_judge types required name named))
          (λ why. refusal.PublishSubscribeOpen (publish_subscribe.open_error why)) (λ is_new. unopened.OutOfMemory)
          (factory_in pattern.PublishSubscribe) state answer after
          → OpensService types steps (factory_in pattern.PublishSubscribe) (options.PublishSubscribe named) required state answer after
      publish_subscribe_step named =
          opening-told types steps (factory_in pattern.PublishSubscribe) (options.PublishSubscribe named) required publish_subscribe_clause
          (publish_subscribe_judge types required name named) (λ agreed. same_publish_subscribe_verdict types required name named agreed)
          state answer after
          (λ why. refusal.PublishSubscribeOpen (publish_subscribe.open_error why)) (publish-subscribe-open-told named)

      event_step : (named : EventOptions)
          → Negotiates (Opens types pattern.Event steps (Own node) (event_judge types required name named))
          (λ why. refusal.EventOpen (event.open_error why))
          (λ is_new. unopened.OutOfMemory) (factory_in pattern.Event) state answer after
          → OpensService types steps (factory_in pattern.Event) (options.Event named) required state answer after
      event_step named =
          opening-told types steps (factory_in pattern.Event) (options.Event named) required event_clause
          (event_judge types required name named)
          (λ agreed. same_event_verdict types required name named agreed) state answer after
          (λ why. refusal.EventOpen (event.open_error why)) (event-open-told named)

      request_response_step : (named : RequestResponseOptions)
          → Negotiates (Opens types pattern.RequestResponse steps (Own node) (request_response_judge types required name named))
          (λ why. refusal.RequestResponseOpen (request_response.open_error why)) (λ is_new. unopened.OutOfMemory)
          (factory_in pattern.RequestResponse) state answer after
          → OpensService types steps (factory_in pattern.RequestResponse) (options.RequestResponse named) required state answer after
      request_response_step named =
          opening-told types steps (factory_in pattern.RequestResponse) (options.RequestResponse named) required request_response_clause
          (request_response_judge types required name named) (λ agreed. same_request_response_verdict types required name named agreed)
          state answer after
          (λ why. refusal.RequestResponseOpen (request_response.open_error why)) (request-response-open-told named)

    -- what is opened is as it was asked for
    opened_fits : (named : PublishSubscribeOptions) (fresh : Bool) (last : Call)
        → Opens types pattern.PublishSubscribe steps (Own node) (publish_subscribe_judge types required name named)
        (record { phase = state.phases pattern.PublishSubscribe name; accesses = 0 }) (Some (Ok fresh)) last
        → pattern.PublishSubscribe ≡ pattern.PublishSubscribe → (life : ℕ) (agreed : Agreement) (nodes : List (Node × ℕ))
        → last.phase ≡ Published life agreed nodes → FitsHere terms.payload terms.user_header agreed.settings
    opened_fits named fresh last goes is life agreed nodes phase_is =
        met_fits terms.payload terms.user_header variant required named agreed
        (agreed_there (λ one. verdict types (options.PublishSubscribe named) required one ≡ Ok tt) last.phase life agreed nodes phase_is
        (subst (IsAgreedOn (λ one. verdict types (options.PublishSubscribe named) required one ≡ Ok tt))
        (phase-there pattern.PublishSubscribe name last.phase state)
        ((opened-meets-asked choices types old.hub.expired_connection_buffer node name (options.PublishSubscribe named) required steps
        state (reply.FactoryMade (state.made.factories + 1)) then
        (publish_subscribe_step (reply.FactoryMade (state.made.factories + 1)) then named
        (by_true _ _ _ made_node (inr (Ok fresh, last, goes, inl (refl, refl)))))).0 (state.made.factories + 1) refl)))
      where
        then : State T
        then = with_factory_in terms.payload terms.user_header choices terms.degrades terms.decides terms.reader_degrades names own
            pattern.PublishSubscribe name asked taken
            naming order node old new state stands last.phase

    opens_as : (named : ServiceOptions) (lists : List (List TableStep)) → AreMade types name steps lists
        → (roomier : FactoryTable) → SameNumbers old.factories.made roomier → new.made ≡ old.made → (result : Result ℕ Refusal)
        → OpensAs named terms.payload terms.user_header types node name required lists roomier old.hub result new.factories.made new.hub
        → Followed named (factory_reply (Some result))
    opens_as (options.PublishSubscribe named) lists listed roomier same same_made result (opened, does, numbers) =
        followed_by (options.PublishSubscribe named) pattern.PublishSubscribe _ _ _ _
        (λ after came. publish_subscribe_step (factory_reply (Some result)) after named (by_true _ _ _ made_node came))
        (opened_so pattern.PublishSubscribe
        (λ given. first_unmet (publish_subscribe_clauses.clauses (required_publish_subscribe named types required) given))
        (publish_subscribe_judge types required name named) (λ agreed. refl)
        publish_subscribe.open_error refusal.PublishSubscribeOpen (opened_fits named) lists listed roomier same same_made result opened does
        numbers)
    opens_as (options.Event named) lists listed roomier same same_made result (opened, does, numbers) =
        followed_by (options.Event named) pattern.Event _ _ _ _
        (λ after came. event_step (factory_reply (Some result)) after named (by_true _ _ _ made_node came))
        (opened_so pattern.Event (λ given. first_unmet (event_clauses.clauses (required_event named required) given))
        (event_judge types required name named) (λ agreed. refl)
        event.open_error refusal.EventOpen (λ fresh last goes is. absurd (is_event is)) lists listed roomier same same_made result opened
        does numbers)
    opens_as (options.RequestResponse named) lists listed roomier same same_made result (opened, does, numbers) =
        followed_by (options.RequestResponse named) pattern.RequestResponse _ _ _ _
        (λ after came. request_response_step (factory_reply (Some result)) after named (by_true _ _ _ made_node came))
        (opened_so pattern.RequestResponse
        (λ given. first_unmet (request_response_clauses.clauses (required_request_response named types required) given))
        (request_response_judge types required name named) (λ agreed. refl)
        request_response.open_error refusal.RequestResponseOpen (λ fresh last goes is. absurd (is_request_response is)) lists listed roomier
        same same_made result opened does numbers)

    -- the refusal for want of memory
    lacking_is : (named : ServiceOptions) → open_lacking named ≡ open_refusal named unopened.OutOfMemory
    lacking_is (options.PublishSubscribe named) = refl
    lacking_is (options.Event named) = refl
    lacking_is (options.RequestResponse named) = refl

    lacks_as : (named : ServiceOptions) (lacking : AllocError) (roomier : FactoryTable) → SameNumbers old.factories.made roomier
        → new.made ≡ old.made → (result : Result ℕ Refusal)
        → IsRefusedWith (open_lacking named) roomier old.hub result new.factories.made new.hub
        → Followed named (factory_reply (Some result))
    lacks_as named lacking roomier same same_made result does =
        followed_by named (pattern_of named) (Opens types (pattern_of named) steps (Own node) (verdict types named required))
        (open_refusal named) (λ is_new. unopened.OutOfMemory) _ (λ after came. by_true _ _ _ made_node came)
        (lacking_answered terms.payload terms.user_header choices terms.degrades terms.decides terms.reader_degrades names own
        (pattern_of named) name asked taken naming
        order node old new state stands (Opens types (pattern_of named) steps (Own node) (verdict types named required))
        (open_refusal named) (λ is_new. unopened.OutOfMemory) roomier result same same_made
        (subst (λ (why : Refusal). IsRefusedWith why roomier old.hub result new.factories.made new.hub) (lacking_is named) does))

    prepared_so : (named : ServiceOptions) (prepared : Result (List (List TableStep)) AllocError) (roomier : FactoryTable)
        → new.made ≡ old.made → (result : Result ℕ Refusal)
        → Prepares name types steps old.factories.made prepared roomier
        → OpensPrepared prepared terms.payload terms.user_header types (record { node = node; name = name; options = named }) required
        roomier old.hub
        result new.factories.made new.hub
        → Followed named (factory_reply (Some result))
    prepared_so named (Ok lists) roomier same_made result prepares does =
        opens_as named lists (prepares.1, prepares.3) roomier prepares.0 same_made result does
    prepared_so named (Err lacking) roomier same_made result prepares does =
        lacks_as named lacking roomier prepares.0 same_made result does

    -- what the first lookup tells
    told_so : (named : ServiceOptions) (why : Refusal)
        → open_told named (first_look (record { node = node; name = name; options = named }) steps old.hub) ≡ Some why
        → new.hub ≡ old.hub → new.factories.made ≡ old.factories.made → new.made ≡ old.made
        → Followed named (factory_reply (Some (Err why)))
    told_so named why told still same same_made =
        among (first_look (record { node = node; name = name; options = named }) steps old.hub) refl told
      where
        among : (found : Option HashState) → first_look (record { node = node; name = name; options = named }) steps old.hub ≡ found
            → open_told named found ≡ Some why → Followed named (factory_reply (Some (Err why)))
        among None finds told_now = absurd cc
        among (Some it) finds told_now =
            let (none, is) = look_finds (record { node = node; name = name; options = named }) steps old.hub it finds in
            let stands_so = found_so (pattern_of named) name old.hub.table (state.phases (pattern_of named) name)
            (taken (pattern_of named) name) (stands.table.phases (pattern_of named) name asked).lies in
            let (failure, told_is, opens) = refuses_to_open types (pattern_of named) steps (Own node) named (verdict types named required)
            (state.phases (pattern_of named) name) why
            (ap (λ (s : HashState). open_told named (Some s)) (sym stands_so ∙ is) ∙ told_now) none in
            followed_by named (pattern_of named) (Opens types (pattern_of named) steps (Own node) (verdict types named required))
            (open_refusal named) (λ is_new. unopened.OutOfMemory) _ (λ after came. by_true _ _ _ made_node came)
            (at_once terms choices names own (pattern_of named) name asked taken naming order node old new state stands
            (Opens types (pattern_of named) steps (Own node) (verdict types named required)) (open_refusal named)
            (λ is_new. unopened.OutOfMemory) failure why told_is opens still same same_made)

  pub openings_match : OpeningMatches terms_so choices
  openings_match names node name named required steps asked own taken naming order old new state answer fit stands
      (made, does, same_made, told) =
      by_node (is_node node old.hub.nodes) refl does
    where
      Now : Reply T → Type 0
      Now given = IsFollowed terms_so choices names (command.Open node name named required steps) old new state given

      by_node : (b : Bool) → is_node node old.hub.nodes ≡ b
          → OpensNumbered b terms.payload terms.user_header types (record { node = node; name = name; options = named }) required steps
          old.factories.made old.hub made new.factories.made new.hub
          → Now answer
      by_node true is (inl (why, finds, (made_is, same, still))) =
          subst Now (sym (told ∙ ap factory_reply made_is))
          (told_so names node name required steps asked taken naming order old new state own fit stands is named why finds still same
          same_made)
      by_node true is (inr (prepared, roomier, result, prepares, opens, made_is)) =
          subst Now (sym (told ∙ ap factory_reply made_is))
          (prepared_so names node name required steps asked taken naming order old new state own fit stands is named prepared roomier
          same_made result prepares opens)
      by_node false is (none, table_is, hub_is) =
          let replied : answer ≡ reply.Skipped = told ∙ ap factory_reply none in
          let so = skipped_matches terms_so choices names (command.Open node name named required steps) taken naming order old new state
          tt stands
          (made, does, same_made, sym replied ∙ told) in
          subst Now (sym replied)
          (record { taken = taken; naming = naming; order = order; after = state; step = so.0; stands = so.1 })
