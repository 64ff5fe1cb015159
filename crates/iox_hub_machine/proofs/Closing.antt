-- A factory of a hub is closed.
use Rattle.std.proofs.Common.{◌≡◌, ◌-◌, ℕ, Bool, true, false, cond, not, ◌&&◌, ◌||◌, List, [], ◌∷◌, ◌++◌, Option, None, Some, Result}
use Rattle.std.proofs.Common.{refl, sym, ap, subst, ◌∙◌}
use Rattle.iox_hub_commands.specs.AgreementLaws.{carried_by, service_of, FactoriesAgree}
use Rattle.iox_hub_commands.specs.ServicesTables.{parts_of, pattern_in}
use Rattle.iox_hub_machine.proofs.InUse.{distinct_once, only, used_so, unused_so}
use Rattle.std.specs.Prelude.{◌==◌, filter, flat_map, MatchBool, MatchOption, bytes_eq}
use Rattle.std.specs.List.{AllByRecursion, IsDistinct, list_any}
use Rattle.std.proofs.lemmas.Bool.{eq-eqb}
use Rattle.std.specs.Option.{option_map}
use Rattle.iox_command.specs.NegotiateBase.DescribeBase.declared.hash.ServiceHash.{ServiceHash}
use Rattle.iox_command.specs.NegotiateBase.DescribeBase.declared.pattern.MessagingPattern.{MessagingPattern}
use Rattle.iox_command.specs.NegotiateBase.DescribeBase.declared.pattern.MessagingPattern.TheVariants as pattern
use Rattle.iox_command.specs.NegotiateBase.DescribeSettings.Agreement.{Agreement as Description}
use Rattle.iox_command.specs.NegotiateBase.declared.errors.close.CloseError.{CloseError}
use Rattle.iox_command.specs.NegotiateBase.declared.request.Opened.{Opened}
use Rattle.iox_command.specs.NegotiateBase.declared.errors.close.CloseError.TheVariants.{StillInUse}
use Rattle.iox_command.specs.declared.command.Command.TheVariants as command
use Rattle.iox_command.specs.declared.refusal.Refusal.TheVariants as refusal
use Rattle.iox_command.specs.declared.reply.Reply.{Reply}
use Rattle.iox_command.specs.declared.reply.Reply.TheVariants as reply
use Rattle.iox_container.specs.NumberTable.{removed, value_at}
use Rattle.iox_domain.specs.Kept.{forgotten, kept}
use Rattle.iox_domain.specs.declared.ports.service_ports.ServicePorts.{ServicePorts}
use Rattle.iox_domain_machine.specs.Naming.{Naming}
use Rattle.iox_domain_machine.specs.Services.{ComesOnce}
use Rattle.iox_hub_base.proofs.SameTable.{sights-keep}
use Rattle.iox_hub_base.specs.Closing.{in_use, is_last, less_one}
use Rattle.iox_hub_base.specs.Hubs.{factories_of}
use Rattle.iox_hub_base.specs.Open.{OpenServices}
use Rattle.iox_hub_base.specs.declared.hub.Hub.{Hub}
use Rattle.iox_hub_base.specs.ServicesOpening.{without_service}
use Rattle.iox_hub_commands.proofs.OneAgreement.{agreement_is_one}
use Rattle.iox_hub_commands.specs.Closing.{ClosesIfOf, ClosesNumbered, ClosesUnless}
use Rattle.iox_hub_commands.specs.Replies.{closed_reply}
use Rattle.iox_hub_commands.specs.declared.numbered_hub.NumberedHub.{NumberedHub}
use Rattle.iox_hub_commands.specs.declared.services.made.MadeFactory.{MadeFactory}
use Rattle.iox_hub_commands.specs.Terms.{Terms}
use Rattle.iox_hub_machine.proofs.Closed.{none_left, others_left}
use Rattle.iox_hub_machine.proofs.Departed.{after, ends, ends_elsewhere, goes_on, its_own, less_hub, some}
use Rattle.iox_hub_machine.proofs.ComesServed.{here_found, is_another, is_its_own, none_passing}
use Rattle.iox_hub_machine.proofs.Ended.{all_kept, one_dropped}
use Rattle.iox_hub_machine.proofs.Numbered.{goes_so}
use Rattle.iox_hub_machine.proofs.Skipping.{by_false, by_none, stands_still}
use Rattle.iox_hub_machine.specs.ClosingLaws.{ClosingMatches, HasEachOnce, IsCome}
use Rattle.iox_hub_machine.specs.ServiceLaws.{IsFollowed}
use Rattle.iox_hub_machine.specs.Services.{HubStandsFor, IsServedBy, factory_as}
use Rattle.iox_machine.specs.Choices.{Choices}
use Rattle.iox_machine.proofs.Counted.{numbers-name-one}
use Rattle.iox_machine.proofs.LenderSteps.{use-is-owned}
use Rattle.iox_machine.specs.Agreement.{Agreement}
use Rattle.iox_machine.specs.Closing as machine
use Rattle.iox_machine.specs.Phase.{Node, Own, Phase, Published, is_in, same_pattern}
use Rattle.iox_machine.proofs.Shorthands.{closed_by}
use Rattle.iox_machine.specs.NumberLaws.{numbers_in}
use Rattle.iox_machine.specs.Service.{Service}
use Rattle.iox_machine.specs.State.{State, Factory, is_service_of, with_phase}
use Rattle.iox_machine.specs.Table as table
use Rattle.iox_machine.specs.Table.{at}
use Rattle.iox_machine.specs.UseLaws.{IsOfOpenFactories}
use Rattle.iox_negotiate.specs.Factory.{Closes}
use Rattle.iox_negotiate_machine.proofs.Closing.{close-matches}
use Rattle.iox_negotiate_machine.specs.CallLaws.{IsServiceIn}
use Rattle.iox_negotiate_machine.specs.Laws.{HaveOwnHashes}
use Rattle.iox_negotiate_machine.specs.Standing.{IsLast, TableStands, description_of}
use Rattle.iox_negotiate_table.specs.NegotiateBase.Runs.{Does}
use Rattle.iox_negotiate_table.specs.Sights.{Sight}

flipped : (number : ℕ) (taken : List ℕ) → IsLast (λ last. number ≡ last) taken → IsLast (λ last. last ≡ number) taken
flipped number [] is = absurd is
flipped number (last ∷ before) is = sym is

-- what a node is in is published
published_of : (node : ℕ) (pattern : MessagingPattern) (name taken : List ℕ) (phase : Phase) (opened : Opened)
    → IsServiceIn node pattern name phase taken opened
    → (life : ℕ) × (agreed : Agreement) × (nodes : List (Node × ℕ)) × (phase ≡ Published life agreed nodes)
    × (is_in (Own node) nodes ≡ true) × IsLast (λ last. last ≡ opened.number) taken
    × (opened.description ≡ description_of pattern name agreed)
published_of node pattern name taken (Published life agreed nodes) opened is =
    (life, agreed, nodes, refl, is.0, flipped opened.number taken is.1, is.2)
published_of node pattern name taken other opened is = absurd is

-- what is done where a test passes
by_true : (P Q : Type 0) (b : Bool) → b ≡ true → P → MatchBool b P Q
by_true P Q true is p = p
by_true P Q false is p = absurd (differ is)
  where
    differ : false ≡ true → ⊥
    differ e = cc

-- what is done where something is found
by_some : {V : Type 0} (P : Type 0) (Q : V → Type 0) (found : Option V) (v : V) → found ≡ Some v → Q v → MatchOption found P Q
by_some {V} P Q found v is q = subst (λ (it : Option V). MatchOption it P Q) (sym is) q

module _ {T U B D : Type 0} (terms : Terms T U B D) (choices : Choices T) where
  module _ (names : List (List ℕ)) (number : ℕ) (taken : MessagingPattern → List ℕ → List ℕ) (naming : ℕ → Naming)
      (order : List (ℕ × ServicePorts T U)) (old new : NumberedHub T U B D) (state : State T) (answer : Reply T)
      (own : HaveOwnHashes names) (agree : FactoriesAgree old.factories.made) (each_once : HasEachOnce old.hub)
      (come : IsCome terms.types choices old.hub.expired_connection_buffer state)
      (stands : HubStandsFor choices terms.degrades terms.decides terms.reader_degrades names taken naming order old state)
      (same : new.made ≡ old.made) where
    abbrev IsClosed : Type 0
    IsClosed = IsFollowed terms choices names (command.Close number) old new state answer

    -- all that is in use is of open factories
    owned : AllByRecursion (IsOfOpenFactories state.factories) state.services
    owned = use-is-owned choices terms.types old.hub.expired_connection_buffer come.0 come.1 state come.2

    publishers : IsDistinct (λ one other. one == other) (flat_map (λ (one : Service T). numbers_in one.publishers) state.services)
    publishers = (numbers-name-one choices terms.types old.hub.expired_connection_buffer come.0 come.1 state come.2).1.0

    subscribers : IsDistinct (λ one other. one == other) (flat_map (λ (one : Service T). numbers_in one.subscribers) state.services)
    subscribers = (numbers-name-one choices terms.types old.hub.expired_connection_buffer come.0 come.1 state come.2).2.0

    once : ComesOnce state.factories
    once =
        distinct_once (numbers_in state.factories)
        (numbers-name-one choices terms.types old.hub.expired_connection_buffer come.0 come.1 state come.2).0.0

    module _ (made : MadeFactory) (there : value_at old.factories.made number ≡ Some made) where
      machine_has : at number state.factories ≡ Some (factory_as made)
      machine_has = ap (at number) stands.factories.same ∙ goes_so number factory_as old.factories.made ∙ ap (option_map factory_as) there

      -- it is in use, and stays
      stays : in_use (service_of made) (parts_of made).1 old.hub ≡ true → answer ≡ reply.Refused (refusal.Close StillInUse)
          → new.hub ≡ old.hub → new.factories.made ≡ old.factories.made → IsClosed
      stays used told same_hub same_factories = record {
        taken = taken;
        naming = naming;
        order = order;
        after = state;
        step = by_some _ _ (at number state.factories) (factory_as made) machine_has
            (by_true _ _ _ (used_so choices terms.degrades terms.decides terms.reader_degrades names taken naming order old state stands
            agree owned publishers subscribers number made there used) (told, refl));
        stands = stands_still terms choices names taken naming order old new state stands same_hub same_factories same;
      }

      -- it goes, and whatever stood for the hub without it is what is answered
      module _ (life : ℕ) (agreed : Agreement) (nodes : List (Node × ℕ))
          (phase_is : state.phases (pattern_in made) (carried_by made).name ≡ Published life agreed nodes)
          (seated : is_in (Own (parts_of made).0.node) nodes ≡ true) (id : new.hub.table.id ≡ old.hub.table.id)
          (table_then : TableStands names taken new.hub.table (with_phase (pattern_in made) (carried_by made).name
          (closed_by (parts_of made).0.node (state.phases (pattern_in made) (carried_by made).name)) state))
          (spare : in_use (service_of made) (parts_of made).1 old.hub ≡ false) (told : answer ≡ reply.Done)
          (gone : new.factories.made ≡ removed old.factories.made number) where
        abbrev then : List (Service T) → State T
        then services = after choices terms.degrades terms.decides terms.reader_degrades names taken naming order old state stands agree
            number made there once life agreed nodes phase_is seated new.hub.table id table_then new.pledged services

        abbrev others : Bool
        others = list_any (λ (entry : ℕ × Factory). same_pattern entry.1.pattern (pattern_in made)
            && bytes_eq entry.1.name (carried_by made).name) (table.removed number state.factories)

        abbrev remaining : List (Service T)
        remaining = filter (λ (service : Service T). not (is_service_of (factory_as made) service)) state.services

        closes : (services : List (Service T)) → services ≡ cond others state.services remaining
            → machine.Closes number state answer (then services)
        closes services are =
            by_some _ _ (at number state.factories) (factory_as made) machine_has
            (by_false _ _ _ (unused_so choices terms.degrades terms.decides terms.reader_degrades names taken naming order old state
            stands agree owned publishers subscribers number made there spare) (told, ap then are))

        follows : (services : List (Service T)) (order_then : List (ℕ × ServicePorts T U)) (counts : List (ℕ × ℕ))
            (open_then : OpenServices T U B D)
            → new.hub ≡ record old.hub { table = new.hub.table; factory_counts = counts; services = open_then }
            → services ≡ cond others state.services remaining
            → HubStandsFor choices terms.degrades terms.decides terms.reader_degrades names taken naming order_then
            (less_hub choices terms.degrades terms.decides terms.reader_degrades names taken naming order old state stands agree number
            made there once life agreed nodes phase_is seated new.hub.table id table_then new.pledged counts open_then) (then services)
            → IsClosed
        follows services order_then counts open_then same_hub are it = record {
          taken = taken;
          naming = naming;
          order = order_then;
          after = then services;
          step = closes services are;
          stands = subst (λ (hub : NumberedHub T U B D). HubStandsFor choices terms.degrades terms.decides terms.reader_degrades names
              taken naming order_then hub (then services)) (sym (λ i. record {
                hub = same_hub i;
                factories = record { made = gone i };
                made = same i;
                pledged = new.pledged;
              })) it;
        }

        abbrev fewer : List (ℕ × ℕ)
        fewer = kept (service_of made) (factories_of (service_of made) old.hub.factory_counts - 1) old.hub.factory_counts

        abbrev none : List (ℕ × ℕ)
        none = forgotten (service_of made) old.hub.factory_counts

        abbrev without : OpenServices T U B D
        without = without_service (service_of made) old.hub.services

        abbrev hub_by : Bool → Hub T U B D
        hub_by last = cond last (record old.hub { table = new.hub.table; factory_counts = none; services = without })
            (record old.hub { table = new.hub.table; factory_counts = fewer })

        -- another factory of the service is left
        stays_open : is_last (service_of made) old.hub.factory_counts ≡ false
            → new.hub ≡ less_one (service_of made) (record old.hub { table = new.hub.table }) → IsClosed
        stays_open more same_hub =
            follows state.services order fewer old.hub.services (same_hub ∙ ap hub_by more)
            (sym (ap (λ (b : Bool). cond b state.services remaining)
            (others_left choices terms.degrades terms.decides terms.reader_degrades names taken naming order old state stands agree number
            made there once
            (some choices terms.degrades terms.decides terms.reader_degrades names taken naming order old state stands agree number made
            there once life agreed nodes phase_is seated new.hub.table id table_then new.pledged more))))
            (goes_on choices terms.degrades terms.decides terms.reader_degrades names taken naming order old state stands agree number
            made there once life agreed nodes phase_is seated new.hub.table id table_then new.pledged more)

        -- it was the last
        ends_so : is_last (service_of made) old.hub.factory_counts ≡ true
            → new.hub ≡ less_one (service_of made) (record old.hub { table = new.hub.table }) → IsClosed
        ends_so last same_hub = kind_by (pattern_in made) refl
          where
            alone : (other : ℕ) (which : MadeFactory) → value_at old.factories.made other ≡ Some which
                → service_of which ≡ service_of made → other ≡ number
            alone other which found is =
                only choices terms.degrades terms.decides terms.reader_degrades names taken naming order old state stands agree owned
                publishers subscribers number made there last other which found is

            none_is : others ≡ false
            none_is =
                none_left choices terms.degrades terms.decides terms.reader_degrades names taken naming order old state stands agree
                number made there once alone

            now_hub : new.hub ≡ hub_by true
            now_hub = same_hub ∙ ap hub_by last

            elsewhere : (pattern_in made ≡ pattern.PublishSubscribe → ⊥)
                → same_pattern (pattern_in made) pattern.PublishSubscribe ≡ false → IsClosed
            elsewhere off is =
                follows state.services order none without now_hub
                (sym (ap (λ (b : Bool). cond b state.services remaining) none_is
                ∙ all_kept (is_service_of (factory_as made)) state.services (none_at state.services)))
                (ends_elsewhere choices terms.degrades terms.decides terms.reader_degrades names taken naming order old state stands agree
                number made there once life
                agreed nodes phase_is seated new.hub.table id table_then new.pledged last each_once.0 each_once.1 alone off)
              where
                none_at : (services : List (Service T)) → list_any (is_service_of (factory_as made)) services ≡ false
                none_at [] = refl
                none_at (service ∷ services) =
                    ap (λ (b : Bool). (b && bytes_eq service.name (carried_by made).name)
                    || list_any (is_service_of (factory_as made)) services) is
                    ∙ none_at services

            here : pattern_in made ≡ pattern.PublishSubscribe → IsClosed
            here kind =
                let (domain, found) = here_found (service_of made) old.hub.services.domains stands.ports.here
                (stands.factories.opened number made there kind) in
                let mine = its_own choices terms.degrades terms.decides terms.reader_degrades names taken naming order old state stands
                agree number made there once
                life agreed nodes phase_is seated new.hub.table id table_then new.pledged last each_once.0 each_once.1 alone domain found
                spare in
                follows (mine.first ++ mine.last) (mine.before ++ mine.behind) none without now_hub
                (sym (ap (λ (b : Bool). cond b state.services remaining) none_is
                ∙ ap (filter (λ (service : Service T). not (is_service_of (factory_as made) service))) mine.are
                ∙ one_dropped (is_service_of (factory_as made)) mine.first mine.service mine.last
                (none_passing old.factories.made old.hub.services (is_service_of (factory_as made)) (service_of made) (other_is kind)
                mine.before mine.first mine.off_before mine.served_before)
                (is_its_own choices terms.degrades terms.decides terms.reader_degrades names taken naming order old state stands agree
                number made there kind mine.service mine.served)
                (none_passing old.factories.made old.hub.services (is_service_of (factory_as made)) (service_of made) (other_is kind)
                mine.behind mine.last mine.off_behind mine.served_behind)))
                (ends choices terms.degrades terms.decides terms.reader_degrades names taken naming order old state stands agree number
                made there once life agreed
                nodes phase_is seated new.hub.table id table_then new.pledged last each_once.0 each_once.1 alone domain found spare)
              where
                other_is : pattern_in made ≡ pattern.PublishSubscribe → (other : ℕ) (service : Service T)
                    → (other ≡ service_of made → ⊥) → IsServedBy old.factories.made old.hub.services other service
                    → is_service_of (factory_as made) service ≡ false
                other_is its other service off served =
                    is_another choices terms.degrades terms.decides terms.reader_degrades names taken naming order old state stands agree
                    number made there its other service off served

            kind_by : (which : MessagingPattern) → pattern_in made ≡ which → IsClosed
            kind_by pattern.PublishSubscribe is = here is
            kind_by pattern.Event is =
                elsewhere (λ e. differ (sym is ∙ e)) (ap (λ (p : MessagingPattern). same_pattern p pattern.PublishSubscribe) is)
              where
                differ : pattern.Event ≡ pattern.PublishSubscribe → ⊥
                differ e = cc
            kind_by pattern.RequestResponse is =
                elsewhere (λ e. differ (sym is ∙ e)) (ap (λ (p : MessagingPattern). same_pattern p pattern.PublishSubscribe) is)
              where
                differ : pattern.RequestResponse ≡ pattern.PublishSubscribe → ⊥
                differ e = cc

        gone_by : (b : Bool) → is_last (service_of made) old.hub.factory_counts ≡ b
            → new.hub ≡ less_one (service_of made) (record old.hub { table = new.hub.table }) → IsClosed
        gone_by true last same_hub = ends_so last same_hub
        gone_by false more same_hub = stays_open more same_hub

      goes : (closed : Option (Result (Unit {0}) CloseError)) → in_use (service_of made) (parts_of made).1 old.hub ≡ false
          → ClosesUnless false number (parts_of made).0 old.factories.made old.hub closed new.factories.made new.hub
          → answer ≡ closed_reply closed → IsClosed
      goes closed spare (result, (acts, same_hub), answers, gone) told =
          let its = stands.factories.each number made there in
          let (life, agreed, nodes, phase_is, seated, last, described) = published_of (parts_of made).0.node (pattern_in made)
          (carried_by made).name (taken (pattern_in made) (carried_by made).name)
          (state.phases (pattern_in made) (carried_by made).name) (parts_of made).0.service its.serves in
          let (done, table_then) = close-matches T names (pattern_in made) (carried_by made).name (parts_of made).0.node (service_of made)
          life agreed nodes taken old.hub.table new.hub.table result state own its.asked stands.table phase_is seated last
          (subst (λ (hash : ServiceHash). Does Sight old.hub.table
          (λ accesses. Closes hash (service_of made) (parts_of made).0.node accesses result) new.hub.table)
          (ap (λ (d : Description). d.service_hash) described) acts) in
          gone_by life agreed nodes phase_is seated (sights-keep acts.made old.hub.table new.hub.table acts.went) table_then spare
          (told ∙ ap closed_reply (answers ∙ ap (λ (r : Result (Unit {0}) CloseError). Some r) done)) gone
          (is_last (service_of made) old.hub.factory_counts) refl same_hub

      unless_by : (b : Bool) (closed : Option (Result (Unit {0}) CloseError)) → in_use (service_of made) (parts_of made).1 old.hub ≡ b
          → ClosesUnless b number (parts_of made).0 old.factories.made old.hub closed new.factories.made new.hub
          → answer ≡ closed_reply closed → IsClosed
      unless_by true closed used does told = stays used (told ∙ ap closed_reply does.0) does.2 does.1
      unless_by false closed spare does told = goes closed spare does told

      of_by : (b : Bool) (closed : Option (Result (Unit {0}) CloseError)) → b ≡ true
          → ClosesIfOf b number made old.factories.made old.hub closed new.factories.made new.hub
          → answer ≡ closed_reply closed → IsClosed
      of_by true closed is does told =
          unless_by (in_use (service_of made) (parts_of made).1 old.hub) closed refl does told
      of_by false closed is does told = absurd (differ is)
        where
          differ : false ≡ true → ⊥
          differ e = cc

    close_by : (found : Option MadeFactory) (closed : Option (Result (Unit {0}) CloseError)) → value_at old.factories.made number ≡ found
        → ClosesNumbered number found old.factories.made old.hub closed new.factories.made new.hub
        → answer ≡ closed_reply closed → IsClosed
    close_by None closed none does told = record {
      taken = taken;
      naming = naming;
      order = order;
      after = state;
      step = subst (λ (it : Reply T). machine.Closes number state it state) (sym (told ∙ ap closed_reply does.0)) skipped;
      stands = stands_still terms choices names taken naming order old new state stands does.2 does.1 same;
    }
      where
        skipped : machine.Closes number state reply.Skipped state
        skipped =
            by_none _ _ (ap (at number) stands.factories.same ∙ goes_so number factory_as old.factories.made
            ∙ ap (option_map factory_as) none) (refl, refl)
    close_by (Some made) closed there does told =
        of_by made there _ closed (eq-eqb _ _ (stands.factories.each number made there).storage) does told

  pub closing_follows : ClosingMatches terms choices
  closing_follows names number taken naming order old new state answer own agreed each_once come stands (closed, does, same, told) =
      close_by names number taken naming order old new state answer own (agreement_is_one old.factories.made old.hub agreed).0 each_once
      come stands
      same (value_at old.factories.made number) closed refl does told
