-- A command on services is skipped.
use Rattle.std.proofs.Common.{◌≡◌, ℕ, ◌&&◌, Bool, true, false, List, Option, None, Some, Result, Ok, Err, refl, sym, ap, subst, ◌∙◌}
use Rattle.std.proofs.Common.{inl, inr}
use Rattle.std.proofs.lemmas.Bool.{eq-eqb}
use Rattle.std.specs.Option.{option_map}
use Rattle.std.specs.Prelude.{nat_le, MatchBool, MatchOption}
use Rattle.iox_command.specs.NegotiateBase.DescribeBase.Attributes.{Required}
use Rattle.iox_command.specs.NegotiateBase.DescribeBase.declared.attribute.Attribute.{Attribute}
use Rattle.iox_command.specs.NegotiateBase.DescribeBase.declared.pattern.MessagingPattern.{MessagingPattern}
use Rattle.iox_command.specs.NegotiateBase.declared.errors.close.CloseError.{CloseError}
use Rattle.iox_command.specs.NegotiateBase.declared.errors.close.CloseError.TheVariants.{StillInUse}
use Rattle.iox_command.specs.declared.command.Command.{Command}
use Rattle.iox_command.specs.declared.command.Command.TheVariants as command
use Rattle.iox_command.specs.declared.refusal.Refusal.{Refusal}
use Rattle.iox_command.specs.declared.reply.Reply.{Reply}
use Rattle.iox_command.specs.declared.reply.Reply.TheVariants as reply
use Rattle.iox_command.specs.declared.service.ServiceOptions.{ServiceOptions}
use Rattle.iox_command.specs.declared.service.ServiceOptions.TheVariants as options
use Rattle.iox_command.specs.declared.step.StepBefore.{StepBefore}
use Rattle.iox_container.specs.NumberTable.{value_at}
use Rattle.iox_domain.specs.declared.ports.service_ports.ServicePorts.{ServicePorts}
use Rattle.iox_domain_machine.specs.Naming.{Naming}
use Rattle.iox_hub_base.specs.Hubs.{is_node}
use Rattle.iox_hub_commands.specs.CommandSteps as hub
use Rattle.iox_hub_commands.specs.Closing.{ClosesIfOf, ClosesNumbered, ClosesUnless}
use Rattle.iox_hub_commands.specs.Creating.{CreatesNumbered}
use Rattle.iox_hub_commands.specs.Either.{EitherNumbered}
use Rattle.iox_hub_commands.specs.Opening.{OpensNumbered}
use Rattle.iox_hub_commands.specs.Refusing.{create_refused}
use Rattle.iox_hub_commands.specs.Replies.{closed_reply, factory_reply}
use Rattle.iox_hub_commands.specs.ServicesTables.{parts_of}
use Rattle.iox_hub_commands.specs.declared.numbered_hub.NumberedHub.{NumberedHub}
use Rattle.iox_hub_commands.specs.declared.services.asked.ServiceAsked.{ServiceAsked}
use Rattle.iox_hub_commands.specs.declared.services.made.MadeFactory.{MadeFactory}
use Rattle.iox_hub_commands.specs.Terms.{Terms}
use Rattle.iox_hub_machine.proofs.Numbered.{goes_so}
use Rattle.iox_hub_machine.proofs.PortsStay.{ports_stay}
use Rattle.iox_hub_machine.specs.ServiceLaws.{IsOnServices, SkippedMatches}
use Rattle.iox_hub_machine.specs.Services.{HubStandsFor, factory_as}
use Rattle.iox_machine.proofs.Shorthands.{RefusesNode, factory_of}
use Rattle.iox_machine.specs.Choices.{Choices}
use Rattle.iox_machine.specs.Agreement.{unfit}
use Rattle.iox_machine.specs.Asked.{settings_of}
use Rattle.iox_machine.specs.Factories.{OpensOrCreatesService, OpensService}
use Rattle.iox_machine.specs.Run as machine
use Rattle.iox_machine.specs.State.{State}
use Rattle.iox_machine.specs.Table.{at}
use Rattle.iox_negotiate.specs.declared.factory.Membership.{Membership}
use Rattle.iox_machine.specs.Refusals.{create_refusal}

-- what isn't skipped
made_something : {T X : Type 0} (made : Result ℕ Refusal) → ◌≡◌ {A = Reply T} reply.Skipped (factory_reply (Some made)) → X
made_something {T} {X} (Ok number) is = absurd (differ is)
  where
    differ : ◌≡◌ {A = Reply T} reply.Skipped (reply.FactoryMade number) → ⊥
    differ e = cc
made_something {T} {X} (Err why) is = absurd (differ is)
  where
    differ : ◌≡◌ {A = Reply T} reply.Skipped (reply.Refused why) → ⊥
    differ e = cc

closed_something : {T X : Type 0} (closed : Result (Unit {0}) CloseError)
    → ◌≡◌ {A = Reply T} reply.Skipped (closed_reply (Some closed)) → X
closed_something {T} {X} (Ok done) is = absurd (differ is)
  where
    differ : ◌≡◌ {A = Reply T} reply.Skipped reply.Done → ⊥
    differ e = cc
closed_something {T} {X} (Err error) is = absurd (differ is)
  where
    differ : ◌≡◌ {A = Reply T} reply.Skipped (closed_reply (Some (Err error))) → ⊥
    differ e = cc

-- what is done where a test fails
pub by_false : (P Q : Type 0) (b : Bool) → b ≡ false → Q → MatchBool b P Q
by_false P Q true is q = absurd (differ is)
  where
    differ : true ≡ false → ⊥
    differ e = cc
by_false P Q false is q = q

-- what is done where nothing is found
pub by_none : {V : Type 0} {P : Type 0} (Q : V → Type 0) (found : Option V) → found ≡ None → P → MatchOption found P Q
by_none Q None is p = p
by_none Q (Some v) is p = absurd (differ is)
  where
    differ : Some v ≡ None → ⊥
    differ e = cc

-- what is done whatever is found
by_each : {V : Type 0} {P : Type 0} (Q : V → Type 0) (found : Option V) → P → ((v : V) → Q v) → MatchOption found P Q
by_each Q None p q = p
by_each Q (Some v) p q = q v

module _ {T U B D : Type 0} (terms : Terms T U B D) (choices : Choices T) where
  module _ (names : List (List ℕ)) (taken : MessagingPattern → List ℕ → List ℕ) (naming : ℕ → Naming)
      (order : List (ℕ × ServicePorts T U)) (old new : NumberedHub T U B D)
      (state : State T) (stands : HubStandsFor choices terms.degrades terms.decides terms.reader_degrades names taken naming order old
      state) where
    -- a hub stands still where others may be pledged
    pub stands_still : new.hub ≡ old.hub → new.factories.made ≡ old.factories.made → new.made ≡ old.made
        → HubStandsFor choices terms.degrades terms.decides terms.reader_degrades names taken naming order new state
    stands_still same_hub same_factories same_made =
        subst (λ (hub : NumberedHub T U B D). HubStandsFor choices terms.degrades terms.decides terms.reader_degrades names taken naming
        order hub state) (sym (λ i. record {
          hub = same_hub i;
          factories = record { made = same_factories i };
          made = same_made i;
          pledged = new.pledged;
        }))
        (record {
          nodes = stands.nodes;
          table = stands.table;
          id = stands.id;
          factories = record {
            numbers = stands.factories.numbers;
            owners = stands.factories.owners;
            same = stands.factories.same;
            each = stands.factories.each;
            seats = stands.factories.seats;
            counts = stands.factories.counts;
            opened = stands.factories.opened;
          };
          served = stands.served;
          ports = ports_stay choices terms.degrades terms.decides terms.reader_degrades naming order old state old.hub.table old.hub.nodes
              state.made.nodes old.factories new.pledged state.phases stands.ports;
        })

    -- a node that isn't one of the hub isn't one of the machine
    no_node : (node : ℕ) → is_node node old.hub.nodes ≡ false → (nat_le 1 node && nat_le node state.made.nodes) ≡ false
    no_node node is = ap (λ (n : ℕ). nat_le 1 node && nat_le node n) (sym stands.nodes) ∙ is

    -- a factory that isn't one of the hub isn't one of the machine
    no_factory : (number : ℕ) → value_at old.factories.made number ≡ None → at number state.factories ≡ None
    no_factory number is =
        ap (at number) stands.factories.same ∙ goes_so number factory_as old.factories.made ∙ ap (option_map factory_as) is

    -- what the hub does where it answers so
    create_skipped : (b : Bool) (asked : ServiceAsked) (attributes : List Attribute) (steps : List StepBefore)
        (made : Option (Result ℕ Refusal))
        → CreatesNumbered b terms.payload terms.user_header terms.types asked attributes steps old.factories.made old.hub made
        new.factories.made new.hub
        → ◌≡◌ {A = Reply T} reply.Skipped (factory_reply made)
        → (b ≡ false) × (new.factories.made ≡ old.factories.made) × (new.hub ≡ old.hub)
    create_skipped false asked attributes steps made does is = (refl, does.1, does.2)
    create_skipped true asked attributes steps made (Some failure, unfit_so, (answers, same, still)) is =
        made_something (Err (create_refused asked.options failure)) (is ∙ ap factory_reply answers)
    create_skipped true asked attributes steps made (None, fit, (prepared, roomier, told, prepares, creates, answers)) is =
        made_something told (is ∙ ap factory_reply answers)

    open_skipped : (b : Bool) (asked : ServiceAsked) (required : Required) (steps : List StepBefore) (made : Option (Result ℕ Refusal))
        → OpensNumbered b terms.payload terms.user_header terms.types asked required steps old.factories.made old.hub made
        new.factories.made new.hub
        → ◌≡◌ {A = Reply T} reply.Skipped (factory_reply made)
        → (b ≡ false) × (new.factories.made ≡ old.factories.made) × (new.hub ≡ old.hub)
    open_skipped false asked required steps made does is = (refl, does.1, does.2)
    open_skipped true asked required steps made (inl (why, finds, (answers, same, still))) is =
        made_something (Err why) (is ∙ ap factory_reply answers)
    open_skipped true asked required steps made (inr (prepared, roomier, told, prepares, opens, answers)) is =
        made_something told (is ∙ ap factory_reply answers)

    either_skipped : (b : Bool) (asked : ServiceAsked) (required : Required) (steps : List StepBefore) (made : Option (Result ℕ Refusal))
        → EitherNumbered b terms.payload terms.user_header terms.types asked required steps old.factories.made old.hub made
        new.factories.made new.hub
        → ◌≡◌ {A = Reply T} reply.Skipped (factory_reply made)
        → (b ≡ false) × (new.factories.made ≡ old.factories.made) × (new.hub ≡ old.hub)
    either_skipped false asked required steps made does is = (refl, does.1, does.2)
    either_skipped true asked required steps made (inl (refused, why, fit, finds, (answers, same, still))) is =
        made_something (Err why) (is ∙ ap factory_reply answers)
    either_skipped true asked required steps made (inr (prepared, roomier, told, prepares, opens, answers)) is =
        made_something told (is ∙ ap factory_reply answers)

    unless_skipped : (b : Bool) (number : ℕ) (member : Membership) (closed : Option (Result (Unit {0}) CloseError))
        → ClosesUnless b number member old.factories.made old.hub closed new.factories.made new.hub
        → ◌≡◌ {A = Reply T} reply.Skipped (closed_reply closed) → ⊥
    unless_skipped true number member closed does is = closed_something (Err StillInUse) (is ∙ ap closed_reply does.0)
    unless_skipped false number member closed (told, leaves, answers, gone) is = closed_something told (is ∙ ap closed_reply answers)

    of_skipped : (b : Bool) (number : ℕ) (made : MadeFactory) (closed : Option (Result (Unit {0}) CloseError)) → b ≡ true
        → ClosesIfOf b number made old.factories.made old.hub closed new.factories.made new.hub
        → ◌≡◌ {A = Reply T} reply.Skipped (closed_reply closed) → ⊥
    of_skipped true number made closed own does is = unless_skipped _ number (parts_of made).0 closed does is
    of_skipped false number made closed own does is = differ own
      where
        differ : false ≡ true → ⊥
        differ e = cc

    close_skipped : (number : ℕ) (found : Option MadeFactory) (closed : Option (Result (Unit {0}) CloseError))
        → value_at old.factories.made number ≡ found
        → ClosesNumbered number found old.factories.made old.hub closed new.factories.made new.hub
        → ◌≡◌ {A = Reply T} reply.Skipped (closed_reply closed)
        → (found ≡ None) × (new.factories.made ≡ old.factories.made) × (new.hub ≡ old.hub)
    close_skipped number None closed there does is = (refl, does.1, does.2)
    close_skipped number (Some made) closed there does is =
        absurd (of_skipped _ number made closed (eq-eqb _ _ (stands.factories.each number made there).storage) does is)

    -- what the machine does then
    opens_so : (named : ServiceOptions) (node : ℕ) (name : List ℕ) (required : Required) (steps : List StepBefore)
        → is_node node old.hub.nodes ≡ false
        → OpensService terms.types steps (factory_of node name named) named required state reply.Skipped state
    opens_so (options.PublishSubscribe named) node name required steps is = by_false _ _ _ (no_node node is) (refl, refl)
    opens_so (options.Event named) node name required steps is = by_false _ _ _ (no_node node is) (refl, refl)
    opens_so (options.RequestResponse named) node name required steps is = by_false _ _ _ (no_node node is) (refl, refl)

    either_so : (named : ServiceOptions) (node : ℕ) (name : List ℕ) (required : Required) (steps : List StepBefore)
        → is_node node old.hub.nodes ≡ false
        → OpensOrCreatesService terms.types steps (factory_of node name named) named required state reply.Skipped state
    either_so (options.PublishSubscribe named) node name required steps is = by_false _ _ _ (no_node node is) (refl, refl)
    either_so (options.Event named) node name required steps is = by_false _ _ _ (no_node node is) (refl, refl)
    either_so (options.RequestResponse named) node name required steps is = by_false _ _ _ (no_node node is) (refl, refl)

    abbrev Followed : Command T → Type 0
    Followed asked = machine.Step terms.types choices old.hub.expired_connection_buffer asked state reply.Skipped state
        × HubStandsFor choices terms.degrades terms.decides terms.reader_degrades names taken naming order new state

    pub skips : (asked : Command T) → IsOnServices asked
        → hub.Step (record terms { is_default = choices.is_default }) asked old (Ok reply.Skipped) new
        → Followed asked
    skips (command.Create node name named attributes steps) is (made, does, same, told) =
        let so = create_skipped _ _ attributes steps made does told in (
          by_each (λ failure. RefusesNode node (create_refusal named failure) state reply.Skipped state)
              (unfit (settings_of terms.types named))
              (by_false _ _ _ (no_node node so.0) (refl, refl)) (λ failure. by_false _ _ _ (no_node node so.0) (refl, refl)),
          stands_still so.2 so.1 same,
        )
    skips (command.Open node name named required steps) is (made, does, same, told) =
        let so = open_skipped _ _ required steps made does told in
        (opens_so named node name required steps so.0, stands_still so.2 so.1 same)
    skips (command.OpenOrCreate node name named required steps) is (made, does, same, told) =
        let so = either_skipped _ _ required steps made does told in
        (either_so named node name required steps so.0, stands_still so.2 so.1 same)
    skips (command.Close factory) is (closed, does, same, told) =
        let so = close_skipped factory _ closed refl does told in
        (by_none _ _ (no_factory factory so.0) (refl, refl), stands_still so.2 so.1 same)
    skips other is does = absurd is

  pub skipped_matches : SkippedMatches terms choices
  skipped_matches names asked taken naming order old new state is stands does
      = skips names taken naming order old new state stands asked is does
