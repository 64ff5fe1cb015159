-- One domain of a hub does something, and the machine does the same at the service that the domain is.
use Rattle.std.proofs.Common.{◌≡◌, ℕ, Bool, true, false, cond, List, ◌∷◌, ◌++◌, Option, None, Some, refl, sym, ap, subst, ◌∙◌}
use Rattle.std.proofs.Math.Logic.{⊎_elim}
use Rattle.std.proofs.lemmas.Bool.Decides.{eqb_tells}
use Rattle.std.specs.Option.{option_map, option_map_or}
use Rattle.std.specs.Map.{lookup, keys_of}
use Rattle.std.specs.Prelude.{is_some, nat_eq}
use Rattle.iox_command.specs.DomainValues.declared.backpressure.BackpressureDecision.{BackpressureDecision}
use Rattle.iox_command.specs.DomainValues.declared.backpressure.BackpressureInfo.{BackpressureInfo}
use Rattle.iox_command.specs.DomainValues.declared.degradation.DegradationAction.{DegradationAction}
use Rattle.iox_command.specs.DomainValues.declared.degradation.DegradationCause.{DegradationCause}
use Rattle.iox_command.specs.DomainValues.declared.degradation.DegradationInfo.{DegradationInfo}
use Rattle.iox_command.specs.NegotiateBase.DescribeBase.declared.message_type.MessageTypeDetails.{MessageTypeDetails}
use Rattle.iox_command.specs.declared.command.Command.{Command}
use Rattle.iox_command.specs.declared.reply.Reply.{Reply}
use Rattle.iox_container.specs.NumberTable.{value_at}
use Rattle.iox_delivery.specs.Holding.{publisher_stands, subscriber_stands}
use Rattle.iox_domain.specs.Handling.{kept_decides, kept_degrades}
use Rattle.iox_domain.specs.declared.domain.Domain.{Domain}
use Rattle.iox_domain.specs.declared.domain_id.DomainId.{DomainId}
use Rattle.iox_domain.specs.declared.ports.service_ports.ServicePorts.{ServicePorts}
use Rattle.iox_domain_machine.specs.Laws.{Matches}
use Rattle.iox_domain_machine.specs.Naming.{Naming, with_name}
use Rattle.iox_domain_machine.specs.ServiceLaws.{NamesOf, ChangesAt}
use Rattle.iox_domain_machine.specs.Services.{those_of, DomainsStandFor}
use Rattle.iox_domain_machine.specs.Standing.{StandsFor}
use Rattle.iox_domain_machine.proofs.Found.{same_some, never_some}
use Rattle.iox_domain_machine.proofs.Services.{among_others}
use Rattle.iox_hub_base.specs.AsHome.{hub_ports, with_hub_ports}
use Rattle.iox_hub_base.specs.Open.{OpenServices, with_domain}
use Rattle.iox_hub_base.specs.ServicesAsHome.{domain_at, ports_if}
use Rattle.iox_hub_base.specs.declared.hub.Hub.{Hub}
use Rattle.iox_hub_commands.specs.declared.numbered_hub.NumberedHub.{NumberedHub}
use Rattle.iox_hub_commands.specs.declared.ports.made.MadeLoan.{MadeLoan}
use Rattle.iox_hub_commands.specs.declared.ports.made.MadeSample.{MadeSample}
use Rattle.iox_hub_commands.specs.Tables.{port_under}
use Rattle.iox_hub_machine.specs.Laws.{answered_with}
use Rattle.iox_hub_machine.specs.Ports.{ports_here, AreHere, among}
use Rattle.iox_hub_machine.specs.Standing.{PortsStandFor, AreAsMany, PublisherIsHandled, SubscriberIsHandled, publisher_is_up}
use Rattle.iox_hub_machine.specs.Standing.{subscriber_is_up, lent_in, held_in}
use Rattle.iox_hub_machine.proofs.Handled.{handled_on, reader_handled_on}
use Rattle.iox_hub_machine.proofs.Deciding.{Deciding, deciding, Acting, acting, DecideAlike}
use Rattle.iox_hub_machine.proofs.Housed.{one_or_other, some_ports, became, stands_here, put_there, found_there, found_elsewhere}
use Rattle.iox_hub_machine.proofs.Housed.{still_here, same_publisher_handlers, same_subscriber_handler}
use Rattle.iox_hub_machine.proofs.Parting.{OrderChanges, order_changes, stay_here}
use Rattle.iox_hub_machine.proofs.Placed.{is_placed, publisher_up, subscriber_up, publisher_as, subscriber_as}
use Rattle.iox_hub_machine.proofs.Within.{stay_within}
use Rattle.iox_machine.specs.Choices.{Choices}
use Rattle.iox_machine.proofs.Among.{steps-among}
use Rattle.iox_machine.specs.Run.{Step}
use Rattle.iox_machine.specs.Service.{Service, Publisher, Subscriber}
use Rattle.iox_machine.specs.State.{State, counted}
use Rattle.iox_machine.specs.Table.{at}

up_by : {T : Type 0} (found : Option (Publisher T))
    → publisher_up found ≡ option_map_or (λ (it : Deciding). it.stands) (option_map deciding found) false
up_by None = refl
up_by (Some publisher) = refl

reader_up_by : (found : Option Subscriber)
    → subscriber_up found ≡ option_map_or (λ (it : Acting). it.stands) (option_map acting found) false
reader_up_by None = refl
reader_up_by (Some subscriber) = refl

-- what a value that was changed was
pub mapped_some : {V W : Type 0} (f : V → W) (found : Option V) (w : W) → option_map f found ≡ Some w
    → (v : V) × (found ≡ Some v) × (f v ≡ w)
mapped_some f None w is = never_some w is
mapped_some f (Some v) w is = (v, refl, same_some (f v) w is)

module _ {T U B D : Type 0} (degrades : B → DegradationCause → DegradationInfo → DegradationAction → Type 0)
    (decides : B → BackpressureInfo → BackpressureDecision → Type 0)
    (reader_degrades : D → DegradationCause → DegradationInfo → DegradationAction → Type 0) (types : MessageTypeDetails)
    (choices : Choices T) (naming : ℕ → Naming) (order : List (ℕ × ServicePorts T U)) (old new : NumberedHub T U B D)
    (state : State T) (asked : Command T)
    (answer : Reply T) (id : DomainId) (ports after : ServicePorts T U) (names_then : Naming)
    (stands : PortsStandFor choices degrades decides reader_degrades naming order old state)
    (found : hub_ports id old.hub ≡ Some ports)
    (changes : new.hub ≡ with_hub_ports id after old.hub)
    (same_publishers : names_then.publisher ≡ (naming id.service).publisher)
    (same_subscribers : names_then.subscriber ≡ (naming id.service).subscriber) where
  abbrev buffer : ℕ
  buffer = old.hub.expired_connection_buffer

  abbrev changed : Hub T U B D
  changed = with_hub_ports id after old.hub

  abbrev pub naming_then : ℕ → Naming
  naming_then = with_name id.service names_then naming

  abbrev its : (domain : Domain T U B D) × (domain_at id old.hub.services ≡ Some domain) × (domain.state.ports ≡ ports)
  its = some_ports (domain_at id old.hub.services) ports found

  abbrev pub between : OrderChanges order id.service its.0.state.ports after (with_domain id.service old.hub.services.domains
      (became id after old.hub its.0 its.1))
  between = order_changes order old.hub.services.domains stands.here stands.same id.service its.0
      (stands_here id after old.hub its.0 its.1) (became id after old.hub its.0 its.1)

  pub ports_before : order ≡ between.before ++ (id.service, ports) ∷ between.behind
  ports_before = between.now ∙ ap (λ (it : ServicePorts T U). between.before ++ (id.service, it) ∷ between.behind) its.2

  -- the ports of all services then
  abbrev pub order_then : List (ℕ × ServicePorts T U)
  order_then = between.before ++ (id.service, after) ∷ between.behind

  same_then : (number : ℕ) → at number order_then ≡ at number (ports_here changed.services.domains)
  same_then number =
      between.same number
      ∙ sym (ap (λ (services : OpenServices T U B D). at number (ports_here services.domains)) (put_there id after old.hub its.0 its.1))

  -- each domain names its ports as it did
  same_name : (other : ℕ) → (naming_then other).publisher ≡ (naming other).publisher
  same_name other = ⊎_elim
      (λ is. ap (λ (b : Bool). (cond b names_then (naming other)).publisher) is.0
      ∙ same_publishers ∙ ap (λ (it : ℕ). (naming it).publisher) (sym is.1))
      (λ off. ap (λ (b : Bool). (cond b names_then (naming other)).publisher) off.0) (eqb_tells other id.service)

  same_reader_name : (other : ℕ) → (naming_then other).subscriber ≡ (naming other).subscriber
  same_reader_name other = ⊎_elim
      (λ is. ap (λ (b : Bool). (cond b names_then (naming other)).subscriber) is.0
      ∙ same_subscribers ∙ ap (λ (it : ℕ). (naming it).subscriber) (sym is.1))
      (λ off. ap (λ (b : Bool). (cond b names_then (naming other)).subscriber) off.0) (eqb_tells other id.service)

  module _ (services : List (Service T)) (alike : DecideAlike state.services services)
      (all : DomainsStandFor naming_then (lent_in new.made) (held_in new.made) buffer order_then services) where
    all_before : DomainsStandFor naming (lent_in old.made) (held_in old.made) buffer
        (between.before ++ (id.service, ports) ∷ between.behind) state.services
    all_before = subst (λ (domains : List (ℕ × ServicePorts T U)). DomainsStandFor naming (lent_in old.made) (held_in old.made) buffer
        domains
        state.services) ports_before stands.domains

    abbrev publishers_in : List (Service T) → ℕ → Option (Publisher T)
    publishers_in these number = among (λ (service : Service T). service.publishers) number these

    abbrev subscribers_in : List (Service T) → ℕ → Option Subscriber
    subscribers_in these number = among (λ (service : Service T). service.subscribers) number these

    up_there : (number : ℕ) → publisher_stands number (Some after) ≡ publisher_stands number (Some ports)
    up_there number =
        let was = is_placed naming (lent_in old.made) (held_in old.made) buffer between.before between.behind (id.service, ports)
        state.services all_before in
        let is = is_placed naming_then (lent_in new.made) (held_in new.made) buffer between.before between.behind (id.service, after)
        services all in
        publisher_as (naming_then id.service) _ _ buffer after is.service is.stands number
        ∙ ap publisher_up (sym (is.publishers number))
        ∙ ap (λ (name : ℕ → ℕ). publisher_up (publishers_in services (name number))) (same_name id.service)
        ∙ up_by (publishers_in services ((naming id.service).publisher number))
        ∙ ap (λ (it : Option Deciding). option_map_or (λ (one : Deciding). one.stands) it false)
        (alike.publishers ((naming id.service).publisher number))
        ∙ sym (up_by (publishers_in state.services ((naming id.service).publisher number)))
        ∙ ap publisher_up (was.publishers number)
        ∙ sym (publisher_as (naming id.service) _ _ buffer ports was.service was.stands number)

    reader_up_there : (number : ℕ) → subscriber_stands number (Some after) ≡ subscriber_stands number (Some ports)
    reader_up_there number =
        let was = is_placed naming (lent_in old.made) (held_in old.made) buffer between.before between.behind (id.service, ports)
        state.services all_before in
        let is = is_placed naming_then (lent_in new.made) (held_in new.made) buffer between.before between.behind (id.service, after)
        services all in
        subscriber_as (naming_then id.service) _ _ buffer after is.service is.stands number
        ∙ ap subscriber_up (sym (is.subscribers number))
        ∙ ap (λ (name : ℕ → ℕ). subscriber_up (subscribers_in services (name number))) (same_reader_name id.service)
        ∙ reader_up_by (subscribers_in services ((naming id.service).subscriber number))
        ∙ ap (λ (it : Option Acting). option_map_or (λ (one : Acting). one.stands) it false)
        (alike.subscribers ((naming id.service).subscriber number))
        ∙ sym (reader_up_by (subscribers_in state.services ((naming id.service).subscriber number)))
        ∙ ap subscriber_up (was.subscribers number)
        ∙ sym (subscriber_as (naming id.service) _ _ buffer ports was.service was.stands number)

    -- each port stands as it did
    up_still : (other : DomainId) (number : ℕ) → publisher_is_up changed other number ≡ publisher_is_up old.hub other number
    up_still other number = ⊎_elim
        (λ same. ap (λ (it : DomainId). publisher_is_up changed it number) (sym same)
        ∙ ap (λ (it : Option (Domain T U B D)). publisher_stands number (ports_if it)) (found_there id after old.hub its.0 its.1)
        ∙ up_there number ∙ ap (publisher_stands number) (sym found) ∙ ap (λ (it : DomainId). publisher_is_up old.hub it number) same)
        (λ off. ap (λ (it : Option (Domain T U B D)). publisher_stands number (ports_if it))
        (found_elsewhere id after old.hub its.0 its.1 other off)) (one_or_other id other)

    reader_up_still : (other : DomainId) (number : ℕ) → subscriber_is_up changed other number ≡ subscriber_is_up old.hub other number
    reader_up_still other number = ⊎_elim
        (λ same. ap (λ (it : DomainId). subscriber_is_up changed it number) (sym same)
        ∙ ap (λ (it : Option (Domain T U B D)). subscriber_stands number (ports_if it)) (found_there id after old.hub its.0 its.1)
        ∙ reader_up_there number ∙ ap (subscriber_stands number) (sym found)
        ∙ ap (λ (it : DomainId). subscriber_is_up old.hub it number) same)
        (λ off. ap (λ (it : Option (Domain T U B D)). subscriber_stands number (ports_if it))
        (found_elsewhere id after old.hub its.0 its.1 other off)) (one_or_other id other)

    handled : (other : DomainId) (number : ℕ) (publisher : Publisher T) → publisher_is_up changed other number ≡ true
        → publishers_in services ((naming_then other.service).publisher number) ≡ Some publisher
        → PublisherIsHandled choices degrades decides changed other number ((naming_then other.service).publisher number) publisher
    handled other number publisher up there =
        let now : publishers_in services ((naming other.service).publisher number) ≡ Some publisher =
        ap (λ (name : ℕ → ℕ). publishers_in services (name number)) (sym (same_name other.service)) ∙ there in
        let (one, was, same) = mapped_some deciding (publishers_in state.services ((naming other.service).publisher number))
        (deciding publisher) (sym (alike.publishers ((naming other.service).publisher number)) ∙ ap (option_map deciding) now) in
        handled_on choices old.hub changed other number ((naming other.service).publisher number)
        ((naming_then other.service).publisher number) (ap (λ (it : ℕ → ℕ). it number) (sym (same_name other.service))) degrades decides one
        publisher same
        (λ info decision may. subst (λ (it : Option B). kept_decides decides it info decision)
        (same_publisher_handlers id after old.hub its.0 its.1 other number) may)
        (λ info action may. subst (λ (it : Option B). kept_degrades degrades it info action)
        (same_publisher_handlers id after old.hub its.0 its.1 other number) may)
        (stands.publishers_handled other number one (sym (up_still other number) ∙ up) was)

    reader_handled : (other : DomainId) (number : ℕ) (subscriber : Subscriber) → subscriber_is_up changed other number ≡ true
        → subscribers_in services ((naming_then other.service).subscriber number) ≡ Some subscriber
        → SubscriberIsHandled choices reader_degrades changed other number ((naming_then other.service).subscriber number) subscriber
    reader_handled other number subscriber up there =
        let now : subscribers_in services ((naming other.service).subscriber number) ≡ Some subscriber =
        ap (λ (name : ℕ → ℕ). subscribers_in services (name number)) (sym (same_reader_name other.service)) ∙ there in
        let (one, was, same) = mapped_some acting (subscribers_in state.services ((naming other.service).subscriber number))
        (acting subscriber) (sym (alike.subscribers ((naming other.service).subscriber number)) ∙ ap (option_map acting) now) in
        reader_handled_on choices old.hub changed other number ((naming other.service).subscriber number)
        ((naming_then other.service).subscriber number) (ap (λ (it : ℕ → ℕ). it number) (sym (same_reader_name other.service)))
        reader_degrades one subscriber same
        (λ info action may. subst (λ (it : Option D). kept_degrades reader_degrades it info action)
        (same_subscriber_handler id after old.hub its.0 its.1 other number) may)
        (stands.subscribers_handled other number one (sym (reader_up_still other number) ∙ up) was)

    module _ (publishers : new.made.publishers.entries ≡ old.made.publishers.entries)
        (subscribers : new.made.subscribers.entries ≡ old.made.subscribers.entries)
        (numbers : AreAsMany new.made (counted answer state.made))
        (loans : (number : ℕ) (made : MadeLoan) → value_at new.made.loans number ≡ Some made
        → is_some (domain_at made.port.domain old.hub.services) ≡ true)
        (samples : (number : ℕ) (made : MadeSample) → value_at new.made.samples number ≡ Some made
        → (is_some (domain_at made.port.domain old.hub.services) ≡ true) × (made.taken.subscriber ≡ made.port.number)) where
      stands_changed : PortsStandFor choices degrades decides reader_degrades naming_then order_then (record new { hub = changed })
          (answered_with answer services state)
      stands_changed = record {
        here = subst (λ (these : OpenServices T U B D). AreHere these.domains) (sym (put_there id after old.hub its.0 its.1))
            (stay_here id.service old.hub.services.domains (became id after old.hub its.0 its.1) stands.here);
        same = same_then;
        domains = all;
        numbers = numbers;
        loans = λ number made there. still_here id after old.hub its.0 its.1 made.port.domain (loans number made there);
        samples = λ number made there.
            (still_here id after old.hub its.0 its.1 made.port.domain (samples number made there).0, (samples number made there).1);
        publishers = record {
          known = λ number port there.
              let was = stands.publishers.known number port
              (ap (λ entries. port_under (lookup (nat_eq number) entries)) (sym publishers) ∙ there) in (
                ap (λ (name : ℕ → ℕ). name port.number) (same_name port.domain.service) ∙ was.0,
                up_still port.domain port.number ∙ was.1,
              );
          each = λ domain number up.
              ap (λ (name : ℕ → ℕ). port_under (value_at new.made.publishers (name number))) (same_name domain.service)
              ∙ ap (λ entries. port_under (lookup (nat_eq ((naming domain.service).publisher number)) entries)) publishers
              ∙ stands.publishers.each domain number (sym (up_still domain number) ∙ up);
        };
        subscribers = record {
          known = λ number port there.
              let was = stands.subscribers.known number port (ap (lookup (nat_eq number)) (sym subscribers) ∙ there) in (
                ap (λ (name : ℕ → ℕ). name port.number) (same_reader_name port.domain.service) ∙ was.0,
                reader_up_still port.domain port.number ∙ was.1,
              );
          each = λ domain number up.
              ap (λ (name : ℕ → ℕ). value_at new.made.subscribers (name number)) (same_reader_name domain.service)
              ∙ ap (lookup (nat_eq ((naming domain.service).subscriber number))) subscribers
              ∙ stands.subscribers.each domain number (sym (reader_up_still domain number) ∙ up);
        };
        named = stay_within naming naming_then answer state.made same_name same_reader_name stands.named;
        slices = λ number made there. stands.slices number made (ap (lookup (nat_eq number)) (sym publishers) ∙ there);
        publishers_handled = handled;
        subscribers_handled = reader_handled;
      }

      pub stands_then : PortsStandFor choices degrades decides reader_degrades naming_then order_then new
          (answered_with answer services state)
      stands_then = subst (λ (hub : Hub T U B D). PortsStandFor choices degrades decides reader_degrades naming_then order_then
          (record new { hub = hub })
          (answered_with answer services state)) (sym changes) stands_changed

  -- what the machine does, where the domain's own ports match
  pub machine_does : NamesOf id.service (naming id.service) (lent_in old.made) (held_in old.made) asked
      → ChangesAt id.service (lent_in old.made) (lent_in new.made) → ChangesAt id.service (held_in old.made) (held_in new.made)
      → ((first : List (Service T)) (service : Service T) (last : List (Service T)) → state.services ≡ first ++ service ∷ last
      → StandsFor (naming id.service) (those_of id.service (lent_in old.made)) (those_of id.service (held_in old.made)) buffer ports service
      → Matches T U choices types buffer asked answer state service names_then (those_of id.service (lent_in new.made))
      (those_of id.service (held_in new.made)) after)
      → ((services : List (Service T)) → Step types choices buffer asked state answer (answered_with answer services state)
      → DecideAlike state.services services)
      → new.made.publishers.entries ≡ old.made.publishers.entries
      → new.made.subscribers.entries ≡ old.made.subscribers.entries
      → AreAsMany new.made (counted answer state.made)
      → ((number : ℕ) (made : MadeLoan) → value_at new.made.loans number ≡ Some made
      → is_some (domain_at made.port.domain old.hub.services) ≡ true)
      → ((number : ℕ) (made : MadeSample) → value_at new.made.samples number ≡ Some made
      → (is_some (domain_at made.port.domain old.hub.services) ≡ true) × (made.taken.subscriber ≡ made.port.number))
      → (order_after : List (ℕ × ServicePorts T U)) × (services : List (Service T)) × (keys_of order_after ≡ keys_of order)
      × Step types choices buffer asked state answer (answered_with answer services state)
      × PortsStandFor choices degrades decides reader_degrades naming_then order_after new (answered_with answer services state)
  machine_does named lent held matches alike publishers subscribers numbers loans samples =
      let (services, does, all) = among_others T U choices (steps-among choices) types buffer naming (lent_in old.made)
      (lent_in new.made) (held_in old.made) (held_in new.made) between.before between.behind id.service ports after state asked answer
      names_then
      (subst (λ (domains : List (ℕ × ServicePorts T U)). DomainsStandFor naming (lent_in old.made) (held_in old.made) buffer domains
      state.services) ports_before stands.domains)
      named same_publishers same_subscribers lent held matches in (
        order_then,
        services,
        between.keys,
        does,
        stands_then services (alike services does) all publishers subscribers numbers loans
            samples,
      )

module _ {T U B D : Type 0} (degrades : B → DegradationCause → DegradationInfo → DegradationAction → Type 0)
    (decides : B → BackpressureInfo → BackpressureDecision → Type 0)
    (reader_degrades : D → DegradationCause → DegradationInfo → DegradationAction → Type 0) (types : MessageTypeDetails)
    (choices : Choices T) (naming : ℕ → Naming) (order : List (ℕ × ServicePorts T U)) (old : NumberedHub T U B D) (state : State T)
    (asked : Command T)
    (answer : Reply T) (stands : PortsStandFor choices degrades decides reader_degrades naming order old state) where
  -- the machine replies so, and the ports of a hub stand for what it has then
  abbrev pub IsMatched : NumberedHub T U B D → Type 0
  IsMatched new = (naming_then : ℕ → Naming) × (order_then : List (ℕ × ServicePorts T U)) × (services : List (Service T))
      × (keys_of order_then ≡ keys_of order)
      × Step types choices old.hub.expired_connection_buffer asked state answer (answered_with answer services state)
      × PortsStandFor choices degrades decides reader_degrades naming_then order_then new (answered_with answer services state)

  -- the ports of one domain change, and nothing else of the hub
  pub ports_alone : (new : NumberedHub T U B D) (id : DomainId) (ports after : ServicePorts T U) → hub_ports id old.hub ≡ Some ports
      → new ≡ record old { hub = with_hub_ports id after old.hub } → counted answer state.made ≡ state.made
      → NamesOf id.service (naming id.service) (lent_in old.made) (held_in old.made) asked
      → ((first : List (Service T)) (service : Service T) (last : List (Service T)) → state.services ≡ first ++ service ∷ last
      → StandsFor (naming id.service) (those_of id.service (lent_in old.made)) (those_of id.service (held_in old.made))
      old.hub.expired_connection_buffer ports service
      → Matches T U choices types old.hub.expired_connection_buffer asked answer state service (naming id.service)
      (those_of id.service (lent_in old.made)) (those_of id.service (held_in old.made)) after)
      → ((services : List (Service T))
      → Step types choices old.hub.expired_connection_buffer asked state answer (answered_with answer services state)
      → DecideAlike state.services services)
      → IsMatched new
  ports_alone new id ports after found same count named matches alike =
      let (order_then, services, keys, does, then) = machine_does degrades decides reader_degrades types choices naming order old
      (record old { hub = with_hub_ports id after old.hub }) state asked answer id ports after (naming id.service) stands found refl refl
      refl
      named (λ other off. refl, stands.domains.loans) (λ other off. refl, stands.domains.samples) matches alike refl refl
      (subst (AreAsMany old.made) (sym count) stands.numbers) stands.loans stands.samples in
      subst IsMatched (sym same) (with_name id.service (naming id.service) naming, order_then, services, keys, does, then)
