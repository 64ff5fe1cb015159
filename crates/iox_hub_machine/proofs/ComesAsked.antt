-- A subscriber is to come by a command, and does, or is refused, or nothing happens.
use Rattle.std.proofs.Common.{◌≡◌, ◌+◌, ℕ, Bool, false, cond, List, [], ◌∷◌, Option, None, Some, Result, Ok, Err, refl, sym, ap, subst, ◌∙◌}
use Rattle.std.specs.Option.{option_map}
use Rattle.std.specs.Prelude.{find, is_some, MatchOption}
use Rattle.iox_command.specs.DomainValues.declared.create_error.SubscriberCreateError.{SubscriberCreateError}
use Rattle.iox_command.specs.DomainValues.declared.create_error.SubscriberCreateError.TheVariants as error
use Rattle.iox_command.specs.DomainValues.declared.degradation.DegradationAction.{DegradationAction}
use Rattle.iox_command.specs.DomainValues.declared.degradation.DegradationCause.TheVariants.{FailedToEstablishConnection}
use Rattle.iox_command.specs.DomainValues.declared.degradation.DegradationInfo.{DegradationInfo}
use Rattle.iox_command.specs.DomainValues.declared.port_owner.PortOwner.{PortOwner}
use Rattle.iox_command.specs.NegotiateBase.DescribeBase.declared.pattern.MessagingPattern.{MessagingPattern}
use Rattle.iox_command.specs.NegotiateBase.DescribeBase.declared.pattern.MessagingPattern.TheVariants.{PublishSubscribe}
use Rattle.iox_command.specs.declared.command.Command.{Command}
use Rattle.iox_command.specs.declared.command.Command.TheVariants as command
use Rattle.iox_command.specs.declared.port.SubscriberOptions.{SubscriberOptions}
use Rattle.iox_command.specs.declared.refusal.Refusal.TheVariants as refusal
use Rattle.iox_command.specs.declared.reply.Reply.{Reply}
use Rattle.iox_command.specs.declared.reply.Reply.TheVariants as reply
use Rattle.iox_container.specs.NumberTable.{value_at}
use Rattle.iox_domain.specs.AtHomes.{MakesAt}
use Rattle.iox_domain.specs.DomainValues.Sizes.{buffer_of}
use Rattle.iox_domain.specs.Making.{CreatesSubscriber, subscriber_place, subscriber_refusal}
use Rattle.iox_domain.specs.States.{subscriber_kept, with_ports}
use Rattle.iox_domain.specs.Steps as steps
use Rattle.iox_domain.specs.declared.domain_id.DomainId.{DomainId}
use Rattle.iox_domain.specs.declared.ports.making.SubscriberConfig.{SubscriberConfig}
use Rattle.iox_domain.specs.declared.ports.service_ports.ServicePorts.{ServicePorts}
use Rattle.iox_domain_machine.specs.Naming.{Naming}
use Rattle.iox_hub_base.specs.AsHome.{hub_ports, with_hub_ports, with_hub_subscriber}
use Rattle.iox_hub_base.specs.declared.hub.Hub.{Hub}
use Rattle.iox_hub_commands.specs.Making.{NumbersPort, with_subscriber}
use Rattle.iox_hub_commands.specs.Naming.{subscriber_config, subscriber_handler}
use Rattle.iox_hub_commands.specs.Replies.{subscriber_reply}
use Rattle.iox_hub_commands.specs.Services.{SubscriberComes}
use Rattle.iox_hub_commands.specs.ServicesTables.{parts_of, pattern_in, publish_subscribe_in}
use Rattle.iox_hub_commands.specs.Tables.{IsRoomier}
use Rattle.iox_hub_commands.specs.declared.numbered_hub.NumberedHub.{NumberedHub}
use Rattle.iox_hub_commands.specs.declared.ports.made.Made.{Made}
use Rattle.iox_hub_commands.specs.declared.services.made.MadeFactory.{MadeFactory}
use Rattle.iox_hub_commands.specs.declared.services.made.MadeFactory.TheVariants as made
use Rattle.iox_hub_commands.specs.Terms.{Terms}
use Rattle.iox_hub_machine.proofs.Amidst.{at_one_skips}
use Rattle.iox_hub_machine.proofs.ComesHouse.{changed_again}
use Rattle.iox_hub_machine.proofs.ComesRoomier.{hub_roomier}
use Rattle.iox_hub_machine.proofs.ComesSubscriber.{follows_so, found, ports, refused_so}
use Rattle.iox_hub_machine.proofs.Numbered.{goes_so}
use Rattle.iox_hub_machine.specs.ArrivalLaws.{AnswersAsChosen, MayCome, SubscriberComingIsFollowed}
use Rattle.iox_hub_machine.specs.ServiceLaws.{IsFollowed}
use Rattle.iox_hub_machine.specs.Services.{HubStandsFor, factory_as}
use Rattle.iox_machine.specs.Choices.{Choices}
use Rattle.iox_machine.specs.Arriving.{SubscriberArrives, new_subscriber}
use Rattle.iox_machine.proofs.Shorthands.{IsSkipped}
use Rattle.iox_machine.specs.Run as machine
use Rattle.iox_machine.specs.Service.{Service}
use Rattle.iox_machine.specs.State.{Factory, State, AtOne, is_service_of}
use Rattle.iox_machine.specs.Table.{at}

-- ---- whether it comes

-- the number that is answered, if one is
abbrev number_in : Result ℕ SubscriberCreateError → ℕ → ℕ
number_in (Ok number) other = number
number_in (Err why) other = other

module _ {T U : Type 0} (may : DegradationInfo → DegradationAction → Type 0) (owner : PortOwner) where
  -- who comes gets the next number
  came_number : (size : Result ℕ SubscriberCreateError) (place : Option ℕ) (old new : ServicePorts T U) (number : ℕ)
      → CreatesSubscriber may owner size place old (Ok number) new → number ≡ old.next_port
  came_number (Err why) place old new number (is, same) = absurd (differ is)
    where
      differ : ◌≡◌ {A = Result ℕ SubscriberCreateError} (Ok number) (Err why) → ⊥
      differ e = cc
  came_number (Ok size) None old new number (is, same) = absurd (differ is)
    where
      differ : ◌≡◌ {A = Result ℕ SubscriberCreateError} (Ok number) (Err error.ExceedsMaxSupportedSubscribers) → ⊥
      differ e = cc
  came_number (Ok size) (Some place) old new number (Err lacking, adds, is) = absurd (differ is)
    where
      differ : ◌≡◌ {A = Result ℕ SubscriberCreateError} (Ok number) (Err error.OutOfMemory) → ⊥
      differ e = cc
  came_number (Ok size) (Some place) old new number (Ok one, (between, follows, same, becomes), is) =
      ap (λ (answer : Result ℕ SubscriberCreateError). number_in answer number) is ∙ same

  -- why it doesn't come is what is answered
  why_refused : (size : Result ℕ SubscriberCreateError) (place : Option ℕ) (old : ServicePorts T U)
      → CreatesSubscriber may owner size place old (Err (subscriber_refusal size place)) old
  why_refused (Err why) place old = (refl, refl)
  why_refused (Ok size) None old = (refl, refl)
  why_refused (Ok size) (Some place) old = (Err (record {}), refl, refl)

-- no service is that of a factory of another pattern
pub none_of_others : {T : Type 0} (factory : Factory) → ((service : Service T) → is_service_of factory service ≡ false)
    → (services : List (Service T))
    → find (λ (service : Service T). is_some (cond (is_service_of factory service) (Some service) None)) services ≡ None
none_of_others factory off [] = refl
none_of_others factory off (service ∷ services) =
    ap (λ (b : Bool). cond (is_some (cond b (Some service) None)) (Some service)
    (find (λ (one : Service _). is_some (cond (is_service_of factory one) (Some one) None)) services)) (off service)
    ∙ none_of_others factory off services

module _ {T U B D : Type 0} (terms : Terms T U B D) (choices : Choices T) (names : List (List ℕ)) (factory : ℕ)
    (options : SubscriberOptions)
    (taken : MessagingPattern → List ℕ → List ℕ) (naming : ℕ → Naming) (order : List (ℕ × ServicePorts T U))
    (old new : NumberedHub T U B D) (state : State T) (answer : Reply T) (may_come : MayCome old)
    (stands : HubStandsFor choices terms.degrades terms.decides terms.reader_degrades names taken naming order old state)
    (answers : answer ≡ reply.SubscriberMade (state.made.subscribers + 1)
    → AnswersAsChosen choices terms.reader_degrades (subscriber_handler terms.fixed_reader options) (state.made.subscribers + 1)
    options) where
  abbrev asked : Command T
  asked = command.Subscriber factory options

  abbrev Followed : Reply T → NumberedHub T U B D → Type 0
  Followed told later = IsFollowed terms choices names asked old later state told

  -- where nothing happens, and the machine skips the command
  skipped : machine.Step terms.types choices old.hub.expired_connection_buffer asked state reply.Skipped state → Followed reply.Skipped
      old
  skipped step = record { taken = taken; naming = naming; order = order; after = state; step = step; stands = stands }

  machine_has : at factory state.factories ≡ option_map factory_as (value_at old.factories.made factory)
  machine_has = ap (at factory) stands.factories.same ∙ goes_so factory factory_as old.factories.made

  abbrev Does : Service T → Service T → Reply T → Service T → Type 0
  Does one service = SubscriberArrives old.hub.expired_connection_buffer (state.made.subscribers + 1)
      (new_subscriber factory options service.settings) service

  -- a factory of another pattern has no service that takes ports
  skipped_of : (made_one : MadeFactory) → value_at old.factories.made factory ≡ Some made_one
      → ((service : Service T) → is_service_of (factory_as made_one) service ≡ false)
      → machine.Step terms.types choices old.hub.expired_connection_buffer asked state reply.Skipped state
  skipped_of made_one there off =
      subst (λ (found : Option Factory). MatchOption found (IsSkipped {T = T} state reply.Skipped state)
      (λ one. AtOne (λ (service : Service T). cond (is_service_of one service) (Some service) None) Does state reply.Skipped state))
      (sym (machine_has ∙ ap (option_map factory_as) there))
      (at_one_skips (λ (service : Service T). cond (is_service_of (factory_as made_one) service) (Some service) None) Does state
      (none_of_others (factory_as made_one) off state.services))

  skipped_none : value_at old.factories.made factory ≡ None
      → machine.Step terms.types choices old.hub.expired_connection_buffer asked state reply.Skipped state
  skipped_none none =
      subst (λ (found : Option Factory). MatchOption found (IsSkipped {T = T} state reply.Skipped state)
      (λ one. AtOne (λ (service : Service T). cond (is_service_of one service) (Some service) None) Does state reply.Skipped state))
      (sym (machine_has ∙ ap (option_map factory_as) none)) nothing
    where
      nothing : IsSkipped {T = T} state reply.Skipped state
      nothing = (refl, refl)

  module _ (made_one : MadeFactory) (there : value_at old.factories.made factory ≡ Some made_one)
      (kind : pattern_in made_one ≡ PublishSubscribe) (roomier : Made) (room : IsRoomier old.made roomier) where
    abbrev its_id : DomainId
    its_id = record { hub = (parts_of made_one).0.storage; service = (parts_of made_one).0.service.number }

    abbrev config : SubscriberConfig
    config = subscriber_config (record { number = (parts_of made_one).1; node_id = (parts_of made_one).0.node }) options

    abbrev handler : D
    handler = subscriber_handler terms.fixed_reader options

    -- the hub once there is room for a number
    abbrev mid : NumberedHub T U B D
    mid = record old { made = roomier; pledged = new.pledged }

    stands_mid : HubStandsFor choices terms.degrades terms.decides terms.reader_degrades names taken naming order mid state
    stands_mid = hub_roomier choices terms.degrades terms.decides terms.reader_degrades names taken naming order old state stands roomier
        new.pledged room

    may_mid : MayCome mid
    may_mid = record { grown = may_come.grown; agreed = may_come.agreed; counted = may_come.counted }

    abbrev its_ports : ServicePorts T U
    its_ports = ports choices terms.degrades terms.decides terms.reader_degrades names taken naming order mid state stands_mid may_mid
        factory made_one there kind terms.types options terms.fixed_reader

    its_found : hub_ports its_id old.hub ≡ Some its_ports
    its_found = found choices terms.degrades terms.decides terms.reader_degrades names taken naming order mid state stands_mid may_mid
        factory made_one there kind terms.types options terms.fixed_reader

    abbrev Creates : Result ℕ SubscriberCreateError → ServicePorts T U → Type 0
    Creates told after = CreatesSubscriber (terms.reader_degrades handler FailedToEstablishConnection) config.owner
        (buffer_of config.buffer_size its_ports.sizes) (subscriber_place its_ports) its_ports told after

    abbrev Makes : Option (ServicePorts T U) → Option (Result ℕ SubscriberCreateError) → Hub T U B D → Type 0
    Makes where_to came later = MakesAt (λ after. with_hub_ports its_id after old.hub)
        (λ number. with_hub_subscriber its_id number handler)
        (steps.SubscriberComes (terms.reader_degrades handler FailedToEstablishConnection) config) (steps.why_no_subscriber config)
        where_to old.hub came later

    refused_then : (why : SubscriberCreateError) → Creates (Err why) its_ports → Followed (reply.Refused (refusal.Subscriber why)) mid
    refused_then why creates = record {
      taken = taken;
      naming = naming;
      order = order;
      after = state;
      step = refused_so choices terms.degrades terms.decides terms.reader_degrades names taken naming order mid state stands_mid may_mid
          factory made_one there kind terms.types options terms.fixed_reader why creates;
      stands = stands_mid;
    }

    came_then : (after : ServicePorts T U) → Creates (Ok its_ports.next_port) after
        → answer ≡ reply.SubscriberMade (state.made.subscribers + 1)
        → Followed (reply.SubscriberMade (state.made.subscribers + 1)) (record mid {
          hub = with_hub_subscriber its_id its_ports.next_port handler (with_hub_ports its_id after old.hub);
          made = with_subscriber its_id its_ports.next_port roomier;
        })
    came_then after creates came =
        let (naming_then, order_then, state_then, step, so) =
        follows_so choices terms.degrades terms.decides terms.reader_degrades names taken naming order mid state stands_mid may_mid
        factory made_one there kind terms.types options terms.fixed_reader after creates (answers came) in record {
          taken = taken;
          naming = naming_then;
          order = order_then;
          after = state_then;
          step = step;
          stands = subst (λ (it : Hub T U B D). HubStandsFor choices terms.degrades terms.decides terms.reader_degrades names taken
              naming_then order_then (record mid { hub = it; made = with_subscriber its_id its_ports.next_port roomier }) state_then)
              (sym (changed_again its_id (with_ports after) (subscriber_kept its_ports.next_port handler) old.hub)) so;
        }

    module _ (same : new.factories ≡ old.factories) where
      is_so : (hub_is : Hub T U B D) (made_is : Made) → new.hub ≡ hub_is → new.made ≡ made_is
          → new ≡ record mid { hub = hub_is; made = made_is }
      is_so hub_is made_is so also = λ i. record { hub = so i; factories = same i; made = also i; pledged = new.pledged }

      by_answer : (first came : Option (Result ℕ SubscriberCreateError)) → Makes (Some its_ports) first new.hub
          → NumbersPort (with_subscriber its_id) old.made.subscribers.next first roomier came new.made → answer ≡ subscriber_reply came
          → Followed answer new
      by_answer None came makes numbers told = absurd makes
      by_answer (Some (Err why)) came (is, same_hub) (replied, same_made) told =
          subst (λ (it : Reply T). Followed it new) (sym (told ∙ ap subscriber_reply replied))
          (subst (Followed (reply.Refused (refusal.Subscriber why))) (sym (is_so old.hub roomier same_hub same_made))
          (refused_then why (subst (λ (it : SubscriberCreateError). Creates (Err it) its_ports) (sym is)
          (why_refused (terms.reader_degrades handler FailedToEstablishConnection) config.owner
          (buffer_of config.buffer_size its_ports.sizes) (subscriber_place its_ports) its_ports))))
      by_answer (Some (Ok number)) came (after, creates, hub_is) (replied, made_is) told =
          let next : number ≡ its_ports.next_port =
          came_number (terms.reader_degrades handler FailedToEstablishConnection) config.owner
          (buffer_of config.buffer_size its_ports.sizes) (subscriber_place its_ports) its_ports after number creates in
          let was : answer ≡ reply.SubscriberMade (state.made.subscribers + 1) =
          told ∙ ap subscriber_reply replied ∙ ap (λ (it : ℕ). reply.SubscriberMade it) stands.ports.numbers.subscribers in
          subst (λ (it : Reply T). Followed it new)
          (sym was)
          (subst (Followed (reply.SubscriberMade (state.made.subscribers + 1)))
          (sym (is_so (with_hub_subscriber its_id its_ports.next_port handler (with_hub_ports its_id after old.hub))
          (with_subscriber its_id its_ports.next_port roomier)
          (hub_is ∙ ap (λ (it : ℕ). with_hub_subscriber its_id it handler (with_hub_ports its_id after old.hub)) next)
          (made_is ∙ ap (λ (it : ℕ). with_subscriber its_id it roomier) next)))
          (came_then after (subst (λ (it : ℕ). Creates (Ok it) after) next creates) was))

      by_home : (first came : Option (Result ℕ SubscriberCreateError)) → Makes (hub_ports its_id old.hub) first new.hub
          → NumbersPort (with_subscriber its_id) old.made.subscribers.next first roomier came new.made → answer ≡ subscriber_reply came
          → Followed answer new
      by_home first came makes numbers told =
          by_answer first came (subst (λ (it : Option (ServicePorts T U)). Makes it first new.hub) its_found makes) numbers told

  by_factory : (one : Option MadeFactory) → value_at old.factories.made factory ≡ one
      → SubscriberComes terms.fixed_reader terms.reader_degrades (publish_subscribe_in one) options old answer new → Followed answer new
  by_factory None none (told, same) =
      subst (λ (it : Reply T). Followed it new) (sym told) (subst (Followed reply.Skipped) (sym same) (skipped (skipped_none none)))
  by_factory (Some (made.PublishSubscribe one)) there ((came, (roomier, room, (first, makes, numbers)), told), same) =
      by_home (made.PublishSubscribe one) there refl roomier room same first came makes numbers told
  by_factory (Some (made.Event one)) there (told, same) =
      subst (λ (it : Reply T). Followed it new) (sym told)
      (subst (Followed reply.Skipped) (sym same) (skipped (skipped_of (made.Event one) there (λ service. refl))))
  by_factory (Some (made.RequestResponse one)) there (told, same) =
      subst (λ (it : Reply T). Followed it new) (sym told)
      (subst (Followed reply.Skipped) (sym same) (skipped (skipped_of (made.RequestResponse one) there (λ service. refl))))

pub subscriber_coming_followed : {T U B D : Type 0} (terms : Terms T U B D) (choices : Choices T)
    → SubscriberComingIsFollowed terms choices
subscriber_coming_followed terms choices names factory options taken naming order old new state answer (may_come, answers) stands does =
    by_factory terms choices names factory options taken naming order old new state answer may_come stands
    (subst (λ (n : ℕ). answer ≡ reply.SubscriberMade n
    → AnswersAsChosen choices terms.reader_degrades (subscriber_handler terms.fixed_reader options) n options)
    stands.ports.numbers.subscribers answers) (value_at old.factories.made factory) refl does
