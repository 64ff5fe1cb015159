-- What a call that opens or creates a service comes to in a hub, and in a machine.
use Rattle.std.proofs.Common.{◌≡◌, ◌⊎◌, ℕ, ◌+◌, ◌&&◌, Bool, true, false, cond, List, [], ◌∷◌, ◌++◌, Some, Result, Ok, Err, IfOk}
use Rattle.std.proofs.Common.{refl, sym, ap, subst, ◌∙◌, inl, inr, MatchResult}
use Rattle.std.specs.List.{IsAmong}
use Rattle.std.specs.Result.{result_map_both}
use Rattle.iox_command.specs.DomainValues.declared.backpressure.BackpressureDecision.{BackpressureDecision}
use Rattle.iox_command.specs.DomainValues.declared.backpressure.BackpressureInfo.{BackpressureInfo}
use Rattle.iox_command.specs.DomainValues.declared.degradation.DegradationAction.{DegradationAction}
use Rattle.iox_command.specs.DomainValues.declared.degradation.DegradationCause.{DegradationCause}
use Rattle.iox_command.specs.DomainValues.declared.degradation.DegradationInfo.{DegradationInfo}
use Rattle.iox_command.specs.NegotiateBase.DescribeBase.Detail.{Detail}
use Rattle.iox_command.specs.NegotiateBase.DescribeBase.declared.hash.ServiceHash.{ServiceHash}
use Rattle.iox_command.specs.NegotiateBase.DescribeBase.declared.pattern.MessagingPattern.{MessagingPattern}
use Rattle.iox_command.specs.NegotiateBase.DescribeBase.declared.pattern.MessagingPattern.TheVariants.{PublishSubscribe}
use Rattle.iox_command.specs.NegotiateBase.DescribeSettings.Agreement.{Agreement as Description}
use Rattle.iox_command.specs.NegotiateBase.declared.errors.close.CloseError.{CloseError}
use Rattle.iox_command.specs.NegotiateBase.declared.request.Opened.{Opened}
use Rattle.iox_command.specs.declared.refusal.Refusal.{Refusal}
use Rattle.iox_command.specs.declared.reply.Reply.{Reply}
use Rattle.iox_command.specs.declared.reply.Reply.TheVariants as reply
use Rattle.iox_container.specs.NumberTable.{inserted}
use Rattle.iox_domain.specs.declared.ports.service_ports.ServicePorts.{ServicePorts}
use Rattle.iox_domain_machine.specs.Naming.{Naming}
use Rattle.iox_hub_base.proofs.SameTable.{sights-keep}
use Rattle.iox_hub_base.specs.Hubs.{one_more, with_factory}
use Rattle.iox_hub_base.specs.Opening.{Enters, IsClosedAgain, Made, Settles, WantsDomain}
use Rattle.iox_hub_base.specs.ServicesOpening.{Opens}
use Rattle.iox_hub_base.specs.declared.hub.Hub.{Hub}
use Rattle.iox_hub_commands.specs.Replies.{factory_reply}
use Rattle.iox_hub_commands.specs.ServicesNumbering.{IsRefusedWith, Numbers}
use Rattle.iox_hub_commands.specs.ServicesTables.{FactoryTable, SameNumbers, parts_of, pattern_in}
use Rattle.iox_hub_commands.specs.declared.numbered_hub.NumberedHub.{NumberedHub}
use Rattle.iox_hub_commands.specs.declared.services.made.MadeFactory.{MadeFactory}
use Rattle.iox_hub_machine.proofs.ClosedAgain.{AreSome, closed_keeps, some_for}
use Rattle.iox_hub_machine.proofs.Entering.{IsEntered, KeepsHeld}
use Rattle.iox_hub_machine.proofs.FittingThen.{FitsHere}
use Rattle.iox_hub_machine.proofs.PhaseThen.{hub_after, roomier_stands}
use Rattle.iox_hub_machine.specs.Services.{HubStandsFor}
use Rattle.iox_machine.specs.Choices.{Choices}
use Rattle.iox_machine.proofs.Names.{phase-there}
use Rattle.iox_machine.specs.Agreement.{Agreement}
use Rattle.iox_machine.specs.Factories as machine
use Rattle.iox_machine.specs.Factories.{with_open}
use Rattle.iox_machine.specs.Negotiation.{Answer, Call}
use Rattle.iox_machine.specs.Phase.{Node, Own, Phase, Published, entered, same_pattern}
use Rattle.iox_machine.proofs.Shorthands.{IsRefused, closed_by}
use Rattle.iox_machine.specs.State.{Factory, State, counted, with_phase}
use Rattle.std.specs.Prelude.{bytes_eq}
use Rattle.iox_negotiate.specs.Factory.{Closes, membership}
use Rattle.iox_negotiate.specs.declared.factory.Membership.{Membership}
use Rattle.iox_negotiate_machine.proofs.Acting.{last-then}
use Rattle.iox_negotiate_machine.proofs.Closing.{close-matches}
use Rattle.iox_negotiate_machine.proofs.OwnSeats.{entered-in}
use Rattle.iox_negotiate_machine.specs.CallLaws.{CallMatches, IsServiceIn, newness_of}
use Rattle.iox_negotiate_machine.specs.Laws.{GoOn, HaveOwnHashes}
use Rattle.iox_negotiate_machine.specs.Standing.{PhaseStands, TableStands}
use Rattle.iox_negotiate_table.specs.Contents.{Contents}
use Rattle.iox_negotiate_table.specs.NegotiateBase.Runs.{Does}
use Rattle.iox_negotiate_table.specs.Sights.{Sight}

module _ {T U B D : Type 0} (payload user_header : Detail)
    (choices : Choices T) (degrades : B → DegradationCause → DegradationInfo → DegradationAction → Type 0)
    (decides : B → BackpressureInfo → BackpressureDecision → Type 0)
    (reader_degrades : D → DegradationCause → DegradationInfo → DegradationAction → Type 0)
    (names : List (List ℕ)) (own : HaveOwnHashes names) (pattern : MessagingPattern) (name : List ℕ) (asked : IsAmong names name)
    (taken : MessagingPattern → List ℕ → List ℕ) (naming : ℕ → Naming) (order : List (ℕ × ServicePorts T U)) (node : ℕ)
    (old new : NumberedHub T U B D) (state : State T)
    (stands : HubStandsFor choices degrades decides reader_degrades names taken naming order old state) where
  -- the factory that the node gets
  abbrev pub factory : Factory
  factory = record { pattern = pattern; name = name; node = node }

  -- the call as it begins
  abbrev begun : Call
  begun = record { phase = state.phases pattern name; accesses = 0 }

  -- the machine with a factory more
  abbrev pub with_factory_in : Phase → State T
  with_factory_in phase = record (with_phase pattern name phase state) {
    made = counted {T = T} (reply.FactoryMade (state.made.factories + 1)) state.made;
    factories = state.factories ++ (state.made.factories + 1, factory) ∷ [];
    services = with_open name phase state.services;
  }

  -- So the hub stands where a node got a factory of a service: that is in the phase then, the table stands for it, and the hub has one
  -- factory more.
  pub record HasEntered (phase : Phase) (service : Opened) (roomier : FactoryTable) : Type 0 where
    pub since : MessagingPattern → List ℕ → List ℕ
    pub goes_on : GoOn taken since
    pub end : Contents
    pub stands_then : TableStands names since end (with_phase pattern name phase state)
    pub id : end.id ≡ old.hub.table.id
    pub enters : IsEntered pattern name (taken pattern name) (state.phases pattern name) node phase
    pub serves : IsServiceIn node pattern name phase (since pattern name) service
    pub fits : pattern ≡ PublishSubscribe → (life : ℕ) (agreed : Agreement) (nodes : List (Node × ℕ)) → phase ≡ Published life agreed nodes
        → FitsHere payload user_header agreed.settings
    pub made : MadeFactory
    pub kind : pattern_in made ≡ pattern
    pub parts : parts_of made ≡ (membership old.hub.table.id node service, one_more old.hub.factories)
    pub numbered : SameNumbers old.factories.made roomier
    pub inserts : new.factories.made ≡ inserted roomier made
    pub same_made : new.made ≡ old.made
    pub opens : Opens payload user_header old.hub.expired_connection_buffer service.number service.description.settings
        old.hub.services (Ok tt) new.hub.services
    pub is : new.hub ≡ record old.hub {
      table = end;
      factories = one_more old.hub.factories;
      factory_counts = with_factory service.number old.hub.factory_counts;
      services = new.hub.services;
    }

  -- The hub stands for a machine with a factory more.
  abbrev pub StandsEntered : Type 0
  StandsEntered = (phase : Phase) (service : Opened) (roomier : FactoryTable) → HasEntered phase service roomier
      → (since : MessagingPattern → List ℕ → List ℕ) × (naming_then : ℕ → Naming) × (order_then : List (ℕ × ServicePorts T U))
      × HubStandsFor choices degrades decides reader_degrades names since naming_then order_then new (with_factory_in phase)

  module _ {F : Type 0} (Calls : Call → Answer F → Call → Type 0) (told : F → Refusal) (lacks : Bool → F) where
    -- What a machine's call comes to, of whose node it is known that it was made.
    abbrev pub Came : Reply T → State T → Type 0
    Came answer after =
        IsRefused (told (lacks false)) state answer after
        ⊎ ((found : Result Bool F) × (last : Call) × Calls begun (Some found) last
        × MatchResult found
        (λ is_new. machine.Enters factory last.phase (told (lacks is_new)) state answer after)
        (λ failure. IsRefused (told failure) (with_phase pattern name last.phase state) answer after))

    -- The call of the machine comes to this answer, and the hub stands for what it leads to.
    pub record IsAnswered (answer : Reply T) : Type 0 where
      pub taken_then : MessagingPattern → List ℕ → List ℕ
      pub naming_then : ℕ → Naming
      pub order_then : List (ℕ × ServicePorts T U)
      pub after : State T
      pub came : Came answer after
      pub stands_then : HubStandsFor choices degrades decides reader_degrades names taken_then naming_then order_then new after

    hub_is : (hub : Hub T U B D) → new.hub ≡ hub → new.made ≡ old.made → SameNumbers old.factories.made new.factories.made
        → record old {
          hub = hub;
          factories = record { made = record old.factories.made { room = new.factories.made.room } };
          pledged = new.pledged;
        } ≡ new
    hub_is hub same_hub same_made same = sym (λ i. record {
      hub = same_hub i;
      factories = record { made = record { entries = same.0 i; next = same.1 i; room = new.factories.made.room } };
      made = same_made i;
      pledged = new.pledged;
    })

    numbers_stay : (roomier : FactoryTable) → SameNumbers old.factories.made roomier → new.factories.made ≡ roomier
        → SameNumbers old.factories.made new.factories.made
    numbers_stay roomier same is =
        (ap (λ (table : FactoryTable). table.entries) is ∙ same.0, ap (λ (table : FactoryTable). table.next) is ∙ same.1)

    -- no memory was found before the first storage operation
    pub lacking_answered : (roomier : FactoryTable) (result : Result ℕ Refusal) → SameNumbers old.factories.made roomier
        → new.made ≡ old.made
        → IsRefusedWith (told (lacks false)) roomier old.hub result new.factories.made new.hub
        → IsAnswered (factory_reply (Some result))
    lacking_answered roomier result same same_made (refused, is, same_hub) = record {
      taken_then = taken;
      naming_then = naming;
      order_then = order;
      after = state;
      came = inl (ap (λ (r : Result ℕ Refusal). factory_reply {T = T} (Some r)) refused, refl);
      stands_then = subst (λ (hub : NumberedHub T U B D). HubStandsFor choices degrades decides reader_degrades names taken naming order
          hub state)
          (hub_is old.hub same_hub same_made (numbers_stay roomier same is))
          (roomier_stands choices degrades decides reader_degrades names taken naming order old new.factories.made.room new.pledged state
          stands);
    }

    -- the same, of a call that the hub refused before its table was touched
    pub room_lacking : {E : Type 0} (refusal : E → Refusal) (error : E) → refusal error ≡ told (lacks false)
        → (opened : Result Made E) → opened ≡ Err error
        → (roomier : FactoryTable) (result : Result ℕ Refusal) → SameNumbers old.factories.made roomier → new.made ≡ old.made
        → Numbers pattern refusal opened roomier result new.factories.made → new.hub ≡ old.hub → IsAnswered (factory_reply (Some result))
    room_lacking {E} refusal error is_told opened is roomier result same same_made numbers same_hub =
        let (refused, kept) = subst (λ (o : Result Made E). Numbers pattern refusal o roomier result new.factories.made) is numbers in
        lacking_answered roomier result same same_made (refused ∙ ap (λ (why : Refusal). Err why) is_told, kept, same_hub)

    -- a phase that keeps what the hub has
    module _ (phase : Phase) (held : KeepsHeld pattern name (taken pattern name) (state.phases pattern name) phase) (end : Contents)
        (id : end.id ≡ old.hub.table.id) (since : MessagingPattern → List ℕ → List ℕ) (goes_on : GoOn taken since)
        (stands_then : TableStands names since end (with_phase pattern name phase state)) (roomier : FactoryTable)
        (same : SameNumbers old.factories.made roomier) (is : new.factories.made ≡ roomier) (same_made : new.made ≡ old.made)
        (same_hub : new.hub ≡ record old.hub { table = end }) where
      kept_stands : HubStandsFor choices degrades decides reader_degrades names since naming order new (with_phase pattern name phase state)
      kept_stands =
          subst (λ (hub : NumberedHub T U B D). HubStandsFor choices degrades decides reader_degrades names since naming order hub
          (with_phase pattern name phase state))
          (hub_is (record old.hub { table = end }) same_hub same_made (numbers_stay roomier same is))
          (hub_after names own pattern name asked taken state phase held choices degrades decides reader_degrades naming order old end
          new.factories.made.room new.pledged stands id since goes_on stands_then)

    -- ---- what is closed again

    one_phase : (node_then : ℕ) (phase : Phase) (one : MessagingPattern) (other : List ℕ)
        → (with_phase pattern name (closed_by node_then ((with_phase pattern name phase state).phases pattern name))
        (with_phase pattern name phase state)).phases one other
        ≡ (with_phase pattern name (closed_by node_then phase) state).phases one other
    one_phase node_then phase one other = there (same_pattern one pattern && bytes_eq other name)
      where
        there : (b : Bool) → cond b (closed_by node_then ((with_phase pattern name phase state).phases pattern name))
            (cond b phase (state.phases one other)) ≡ cond b (closed_by node_then phase) (state.phases one other)
        there true = ap (closed_by node_then) (phase-there pattern name phase state)
        there false = refl

    closed_table : (phase : Phase) (service : Opened) (since : MessagingPattern → List ℕ → List ℕ) (end last : Contents)
        → IsEntered pattern name (taken pattern name) (state.phases pattern name) node phase
        → TableStands names since end (with_phase pattern name phase state)
        → IsServiceIn node pattern name phase (since pattern name) service → (closed : Result (Unit {0}) CloseError)
        → Does Sight end (λ made. Closes service.description.service_hash service.number node made closed) last
        → TableStands names since last (with_phase pattern name (closed_by node phase) state)
    closed_table phase service since end last it stands_then serves closed does =
        let so : IsServiceIn node pattern name (Published it.life it.agreed (entered (Own node) it.nodes)) (since pattern name) service =
        subst (λ (p : Phase). IsServiceIn node pattern name p (since pattern name) service) it.is serves in
        let closes = close-matches T names pattern name node service.number it.life it.agreed (entered (Own node) it.nodes) since end last
        closed (with_phase pattern name phase state) own asked stands_then (phase-there pattern name phase state ∙ it.is)
        (entered-in (Own node) it.nodes)
        (last-then (since pattern name) so.1 (λ number is. sym is))
        (record {
          made = does.made;
          went = does.went;
          told = subst (λ (hash : ServiceHash). Closes hash service.number node does.made closed)
              (ap (λ (d : Description). d.service_hash) so.2) does.told;
        }) in
        record {
          reached = closes.1.reached;
          phases = λ one other among. subst (λ (p : Phase). PhaseStands one other last (since one other) p)
              (one_phase node phase one other) (closes.1.phases one other among);
        }

    -- ---- all of it

    module _ {E : Type 0} (error : F → E) (refusal : E → Refusal) (named : (why : F) → refusal (error why) ≡ told why)
        (lacking : Bool → E) (lacking_is : (fresh : Bool) → lacking fresh ≡ error (lacks fresh))
        (keeps : (why : F) (last : Call) → Calls begun (Some (Err why)) last
        → KeepsHeld pattern name (taken pattern name) (state.phases pattern name) last.phase)
        (enters : (fresh : Bool) (last : Call) → Calls begun (Some (Ok fresh)) last
        → IsEntered pattern name (taken pattern name) (state.phases pattern name) node last.phase)
        (fits : (fresh : Bool) (last : Call) → Calls begun (Some (Ok fresh)) last
        → pattern ≡ PublishSubscribe → (life : ℕ) (agreed : Agreement) (nodes : List (Node × ℕ))
        → last.phase ≡ Published life agreed nodes → FitsHere payload user_header agreed.settings)
        (next : old.factories.made.next ≡ state.made.factories + 1)
        (entering : StandsEntered)
        (roomier : FactoryTable) (same : SameNumbers old.factories.made roomier) (same_made : new.made ≡ old.made)
        (end : Contents) (id : end.id ≡ old.hub.table.id) (result : Result ℕ Refusal) where
      refused_answer : (why : F) → result ≡ Err (refusal (error why))
          → factory_reply {T = T} (Some result) ≡ reply.Refused (told why)
      refused_answer why is =
          ap (λ (r : Result ℕ Refusal). factory_reply {T = T} (Some r)) is ∙ ap (λ (r : Refusal). reply.Refused r) (named why)

      -- what the storage operations came to
      module _ (since : MessagingPattern → List ℕ → List ℕ) (goes_on : GoOn taken since) (last : Call)
          (stands_then : TableStands names since end (with_phase pattern name last.phase state)) where
        failed : (why : F) (opened : Result Made E) → Calls begun (Some (Err why)) last
            → (opened ≡ Err (error why)) × (new.hub ≡ record old.hub { table = end })
            → Numbers pattern refusal opened roomier result new.factories.made → IsAnswered (factory_reply (Some result))
        failed why opened calls (is, same_hub) numbers =
            let (refused, table_is) : (result ≡ Err (refusal (error why))) × (new.factories.made ≡ roomier) =
            subst (λ (o : Result Made E). Numbers pattern refusal o roomier result new.factories.made) is numbers in
            record {
              taken_then = since;
              naming_then = naming;
              order_then = order;
              after = with_phase pattern name last.phase state;
              came = inr (Err why, last, calls, (refused_answer why refused, refl));
              stands_then = kept_stands last.phase (keeps why last calls) end id since goes_on stands_then roomier same table_is same_made
                  same_hub;
            }

        closed_again : (service : Opened) (opened : Result Made E) (was_new : Bool) → Calls begun (Some (Ok service.is_new)) last
            → IsServiceIn node pattern name last.phase (since pattern name) service
            → (was_new ≡ service.is_new)
            × WantsDomain payload user_header (membership old.hub.table.id node service) (record old.hub { table = end })
            × IsClosedAgain (membership old.hub.table.id node service) (record old.hub { table = end }) new.hub
            → opened ≡ Err (lacking was_new)
            → Numbers pattern refusal opened roomier result new.factories.made → IsAnswered (factory_reply (Some result))
        closed_again service opened was_new calls serves (fresh, wants, ((closed, does), same_hub)) is numbers =
            let it = enters service.is_new last calls in
            let (refused, table_is) : (result ≡ Err (refusal (error (lacks service.is_new)))) × (new.factories.made ≡ roomier) =
            subst (λ (o : Result Made E). Numbers pattern refusal o roomier result new.factories.made)
            (is ∙ ap (λ (b : Bool). Err (lacking b)) fresh ∙ ap (λ (e : E). Err e) (lacking_is service.is_new)) numbers in
            record {
              taken_then = since;
              naming_then = naming;
              order_then = order;
              after = with_phase pattern name (closed_by node last.phase) state;
              came = inr (Ok service.is_new, last, calls, inr (refused_answer (lacks service.is_new) refused, refl));
              stands_then = kept_stands (closed_by node last.phase)
                  (closed_keeps pattern name (taken pattern name) (state.phases pattern name) node last.phase
                  (subst AreSome (sym (stands.factories.seats pattern name node asked)) (some_for _)) it)
                  new.hub.table (sights-keep does.made end new.hub.table does.went ∙ id) since goes_on
                  (closed_table last.phase service since end new.hub.table it stands_then serves closed does) roomier same table_is
                  same_made same_hub;
            }

        made_one : (service : Opened) (opened : Result Made E) (made : Made) → Calls begun (Some (Ok service.is_new)) last
            → IsServiceIn node pattern name last.phase (since pattern name) service
            → Enters payload user_header (membership old.hub.table.id node service) (record old.hub { table = end }) (Ok made) new.hub
            → opened ≡ Ok made
            → Numbers pattern refusal opened roomier result new.factories.made → IsAnswered (factory_reply (Some result))
        made_one service opened made calls serves (made_is, opens, same_hub) is numbers =
            let (one, kind, parts, inserts, replied, form) : Numbers pattern refusal (Ok made) roomier result new.factories.made =
            subst (λ (o : Result Made E). Numbers pattern refusal o roomier result new.factories.made) is numbers in
            let so = entering last.phase service roomier (record {
              since = since;
              goes_on = goes_on;
              end = end;
              stands_then = stands_then;
              id = id;
              enters = enters service.is_new last calls;
              serves = serves;
              fits = fits service.is_new last calls;
              made = one;
              kind = kind;
              parts = parts ∙ made_is;
              numbered = same;
              inserts = inserts;
              same_made = same_made;
              opens = opens;
              is = same_hub;
            }) in
            let number : factory_reply {T = T} (Some result) ≡ reply.FactoryMade (state.made.factories + 1) =
            ap (λ (r : Result ℕ Refusal). factory_reply {T = T} (Some r)) replied
            ∙ ap (λ (n : ℕ). reply.FactoryMade n) (same.1 ∙ next) in
            record {
              taken_then = so.0;
              naming_then = so.1;
              order_then = so.2;
              after = with_factory_in last.phase;
              came = inr (
                Ok service.is_new,
                last,
                calls,
                inl (
                  number,
                  ap (λ (answer : Reply T). record (with_phase pattern name last.phase state) {
                    made = counted answer state.made;
                    factories = state.factories ++ (state.made.factories + 1, factory) ∷ [];
                    services = with_open name last.phase state.services;
                  }) (sym number),
                ),
              );
              stands_then = so.3;
            }

        by_entered : (service : Opened) (opened : Result Made E) (entered_then : Result Made Bool)
            → Calls begun (Some (Ok service.is_new)) last
            → IsServiceIn node pattern name last.phase (since pattern name) service
            → Enters payload user_header (membership old.hub.table.id node service) (record old.hub { table = end }) entered_then new.hub
            → opened ≡ result_map_both (λ made. made) lacking entered_then
            → Numbers pattern refusal opened roomier result new.factories.made → IsAnswered (factory_reply (Some result))
        by_entered service opened (Ok made) calls serves enters_so is numbers =
            made_one service opened made calls serves enters_so is numbers
        by_entered service opened (Err was_new) calls serves closes is numbers =
            closed_again service opened was_new calls serves closes is numbers

        by_found : (found : Result Opened F) (came : Result Membership E) (opened : Result Made E)
            → Calls begun (Some (newness_of found)) last
            → IfOk found (λ service. IsServiceIn node pattern name last.phase (since pattern name) service)
            → came ≡ result_map_both (membership old.hub.table.id node) error found
            → Settles payload user_header lacking came (record old.hub { table = end }) opened new.hub
            → Numbers pattern refusal opened roomier result new.factories.made → IsAnswered (factory_reply (Some result))
        by_found (Err why) came opened calls serves is settles numbers =
            failed why opened calls
            (subst (λ (c : Result Membership E). Settles payload user_header lacking c (record old.hub { table = end }) opened new.hub)
            is settles) numbers
        by_found (Ok service) came opened calls serves is settles numbers =
            let (entered_then, enters_so, opened_is) : Settles payload user_header lacking
            (Ok (membership old.hub.table.id node service)) (record old.hub { table = end }) opened new.hub =
            subst (λ (c : Result Membership E). Settles payload user_header lacking c (record old.hub { table = end }) opened new.hub)
            is settles in
            by_entered service opened entered_then calls serves enters_so opened_is numbers

      -- what a call over the table of a hub comes to is what one of the machine comes to
      pub answered : (came : Result Membership E) (opened : Result Made E)
          → CallMatches names pattern name taken old.hub.table.id node error state Calls came end
          → Settles payload user_header lacking came (record old.hub { table = end }) opened new.hub
          → Numbers pattern refusal opened roomier result new.factories.made → IsAnswered (factory_reply (Some result))
      answered came opened matches settles numbers =
          by_found matches.later matches.goes_on matches.after matches.stands matches.found came opened matches.calls matches.opened
          matches.told settles numbers
