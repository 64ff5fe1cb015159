-- A port goes from a domain of a hub: others go by their names as they did, and who decides for them does so still.
use Rattle.std.proofs.Common.{◌≡◌, ◌≢◌, ℕ, Bool, true, List, ◌∷◌, ◌++◌, Option, None, Some, refl, sym, ap, subst, ◌∙◌, true≢false, false}
use Rattle.std.proofs.Math.Logic.{⊎_elim}
use Rattle.std.proofs.lemmas.Bool.Decides.{eqb_tells}
use Rattle.std.specs.Map.{keys_of}
use Rattle.std.specs.Option.{option_map}
use Rattle.std.specs.Prelude.{is_some, if◌then◌else◌}
use Rattle.iox_command.specs.DomainValues.declared.backpressure.BackpressureDecision.{BackpressureDecision}
use Rattle.iox_command.specs.DomainValues.declared.backpressure.BackpressureInfo.{BackpressureInfo}
use Rattle.iox_command.specs.DomainValues.declared.degradation.DegradationAction.{DegradationAction}
use Rattle.iox_command.specs.DomainValues.declared.degradation.DegradationCause.{DegradationCause}
use Rattle.iox_command.specs.DomainValues.declared.degradation.DegradationInfo.{DegradationInfo}
use Rattle.iox_command.specs.NegotiateBase.DescribeBase.declared.message_type.MessageTypeDetails.{MessageTypeDetails}
use Rattle.iox_command.specs.declared.command.Command.{Command}
use Rattle.iox_command.specs.declared.reply.Reply.TheVariants as reply
use Rattle.iox_container.specs.NumberTable.{NumberTable, value_at}
use Rattle.iox_delivery.specs.Holding.{publisher_stands, subscriber_stands}
use Rattle.iox_delivery.specs.declared.port_id.PortId.{PortId}
use Rattle.iox_domain.specs.Domains.{in_state}
use Rattle.iox_domain.specs.Handling.{kept_decides, kept_degrades}
use Rattle.iox_domain.specs.Kept.{kept_under}
use Rattle.iox_domain.specs.States.{with_ports}
use Rattle.iox_domain.specs.declared.domain.Domain.{Domain}
use Rattle.iox_domain.specs.declared.domain_id.DomainId.{DomainId}
use Rattle.iox_domain.specs.declared.ports.service_ports.ServicePorts.{ServicePorts}
use Rattle.iox_domain.specs.declared.state.DomainState.{DomainState}
use Rattle.iox_domain_machine.specs.Laws.{Matches}
use Rattle.iox_domain_machine.specs.Naming.{Naming, with_name}
use Rattle.iox_domain_machine.specs.ServiceLaws.{NamesOf}
use Rattle.iox_domain_machine.specs.Services.{those_of, DomainsStandFor}
use Rattle.iox_domain_machine.specs.Standing.{StandsFor}
use Rattle.iox_domain_machine.proofs.Found.{same_some, never_some, same_everywhere}
use Rattle.iox_domain_machine.proofs.Services.{among_others}
use Rattle.iox_hub_base.specs.AsHome.{hub_ports, hub_changed, with_hub_ports}
use Rattle.iox_hub_base.specs.HomeLaws.{again, stepped_here, stepped_elsewhere}
use Rattle.iox_hub_base.specs.Open.{OpenServices, with_domain}
use Rattle.iox_hub_base.specs.ServicesAsHome.{domain_at, ports_if, stepped_if, publisher_handlers_in, subscriber_handler_in}
use Rattle.iox_hub_base.specs.declared.hub.Hub.{Hub}
use Rattle.iox_hub_commands.specs.Tables.{port_under}
use Rattle.iox_hub_commands.specs.declared.numbered_hub.NumberedHub.{NumberedHub}
use Rattle.iox_hub_commands.specs.declared.ports.made.MadePublisher.{MadePublisher}
use Rattle.iox_hub_machine.specs.Laws.{answered_with}
use Rattle.iox_hub_machine.specs.Ports.{ports_here, AreHere, among}
use Rattle.iox_hub_machine.specs.Standing.{GoByNames, PortsStandFor, lent_in, held_in, publisher_is_up, subscriber_is_up}
use Rattle.iox_hub_machine.proofs.Handled.{handled_on, reader_handled_on}
use Rattle.iox_hub_machine.proofs.Deciding.{deciding, acting}
use Rattle.iox_hub_machine.proofs.Housed.{one_or_other, some_ports, stands_here}
use Rattle.iox_hub_machine.proofs.Parting.{OrderChanges, order_changes, stay_here}
use Rattle.iox_machine.specs.Choices.{Choices}
use Rattle.iox_machine.specs.Run.{Step}
use Rattle.iox_machine.specs.Service.{Service, Publisher, Subscriber}
use Rattle.iox_machine.specs.State.{State}
use Rattle.iox_machine.specs.Table.{at}
use Rattle.iox_machine.proofs.Among.{steps-among}

-- ---- names

-- A port goes that went by a number: nothing goes by that then, and all else is as it was.
module _ (name : ℕ → ℕ → ℕ) (up up_then : DomainId → ℕ → Bool) (under under_then : ℕ → Option PortId) (goes : GoByNames name up under)
    (number : ℕ) (port : PortId) (there : under number ≡ Some port) (gone : under_then number ≡ None)
    (others : (other : ℕ) → other ≢ number → under_then other ≡ under other) (down : up_then port.domain port.number ≡ false)
    (stays : (id : DomainId) (place : ℕ) → (port.domain ≡ id → port.number ≡ place → ⊥) → up_then id place ≡ up id place) where
  pub not_it : (id : DomainId) (place : ℕ) → up_then id place ≡ true → port.domain ≡ id → port.number ≡ place → ⊥
  not_it id place is domains places =
      true≢false (sym is ∙ sym (ap (λ (it : DomainId). up_then it place) domains) ∙ sym (ap (up_then port.domain) places) ∙ down)

  -- who stands stood before
  pub was_up : (id : DomainId) (place : ℕ) → up_then id place ≡ true → up id place ≡ true
  was_up id place is = sym (stays id place (not_it id place is)) ∙ is

  -- and has another number
  pub name_apart : (id : DomainId) (place : ℕ) → up_then id place ≡ true → name id.service place ≢ number
  name_apart id place is same =
      let one : PortId = record { domain = id; number = place } in
      let it : port ≡ one = same_some port one (sym there ∙ ap under (sym same) ∙ goes.each id place (was_up id place is)) in
      not_it id place is (ap (λ (p : PortId). p.domain) it) (ap (λ (p : PortId). p.number) it)

  pub goes_less : GoByNames name up_then under_then
  goes_less = record {
    known = λ other found is. ⊎_elim
        (λ same. never_some found (sym gone ∙ ap under_then (sym same.1) ∙ is))
        (λ off.
        let was = goes.known other found (sym (others other off.1) ∙ is) in (
          was.0,
          stays found.domain found.number (λ domains places. off.1 (sym was.0
              ∙ sym (ap (λ (it : DomainId). name it.service found.number) domains)
              ∙ sym (ap (name port.domain.service) places) ∙ (goes.known number port there).0))
              ∙ was.1,
        )) (eqb_tells other number);
    each = λ id place is. others (name id.service place) (name_apart id place is) ∙ goes.each id place (was_up id place is);
  }

-- all ports stand as they stood
pub names_still : (name : ℕ → ℕ → ℕ) (up up_then : DomainId → ℕ → Bool) (under : ℕ → Option PortId) → GoByNames name up under
    → ((id : DomainId) (place : ℕ) → up_then id place ≡ up id place) → GoByNames name up_then under
names_still name up up_then under goes same = record {
  known = λ number port there.
      let was = goes.known number port there in (was.0, same port.domain port.number ∙ was.1);
  each = λ id place is. goes.each id place (sym (same id place) ∙ is);
}

mapped_back : {V W : Type 0} (f : V → W) (found : Option V) (w : W) → option_map f found ≡ Some w
    → (v : V) × (found ≡ Some v) × (f v ≡ w)
mapped_back f None w is = never_some w is
mapped_back f (Some v) w is = (v, refl, same_some (f v) w is)

-- a name that is given again changes none
same_names : (number : ℕ) (naming : ℕ → Naming) → with_name number (naming number) naming ≡ naming
same_names number naming = same_everywhere (with_name number (naming number) naming) naming
    (λ other. ⊎_elim (λ same. ap (λ (b : Bool). if b then naming number else naming other) same.0 ∙ ap naming (sym same.1))
    (λ off. ap (λ (b : Bool). if b then naming number else naming other) off.0) (eqb_tells other number))

-- what is kept for ports, as it is
abbrev pub as_kept : {K : Type 0} → List (ℕ × K) → List (ℕ × K)
as_kept kept = kept

-- ---- a domain that has other ports, for which others decide

module _ {T U B D : Type 0} (id : DomainId) (after : ServicePorts T U) (handlers : List (ℕ × B) → List (ℕ × B))
    (readers : List (ℕ × D) → List (ℕ × D)) where
  -- others decide for its ports
  abbrev pub with_deciders : DomainState T U B D → DomainState T U B D
  with_deciders lent = record lent {
    publisher_handlers = handlers lent.publisher_handlers;
    subscriber_handlers = readers lent.subscriber_handlers;
  }

  abbrev both : DomainState T U B D → DomainState T U B D
  both lent = with_deciders (with_ports after lent)

  abbrev pub hub_with_deciders : Hub T U B D → Hub T U B D
  hub_with_deciders hub = hub_changed id with_deciders (with_hub_ports id after hub)

  module _ (hub : Hub T U B D) (domain : Domain T U B D) (is : domain_at id hub.services ≡ Some domain) where
    abbrev became : Domain T U B D
    became = in_state both domain

    one_step : (hub_with_deciders hub).services ≡ (hub_changed id both hub).services
    one_step = again id (with_ports after) with_deciders hub.services

    put_there : (hub_with_deciders hub).services ≡ record hub.services { domains = with_domain id.service hub.services.domains became }
    put_there = one_step ∙ ap (λ (found : Option (Domain T U B D)). stepped_if found id.service (in_state both) hub.services) is

    pub found_there : domain_at id (hub_with_deciders hub).services ≡ Some became
    found_there = ap (domain_at id) one_step ∙ stepped_here id (in_state both) hub.services ∙ ap (option_map (in_state both)) is

    pub found_elsewhere : (other : DomainId) → (id ≡ other → ⊥) → domain_at other (hub_with_deciders hub).services
        ≡ domain_at other hub.services
    found_elsewhere other off = ap (domain_at other) one_step ∙ stepped_elsewhere id other (in_state both) hub.services off

    still_here : (other : DomainId) → is_some (domain_at other hub.services) ≡ true
        → is_some (domain_at other (hub_with_deciders hub).services) ≡ true
    still_here other was = ⊎_elim
        (λ same. ap (λ (it : DomainId). is_some (domain_at it (hub_with_deciders hub).services)) (sym same) ∙ ap is_some found_there)
        (λ off. ap is_some (found_elsewhere other off) ∙ was) (one_or_other id other)

-- ---- a hub from which a port went

module _ {T U B D : Type 0} (choices : Choices T) (degrades : B → DegradationCause → DegradationInfo → DegradationAction → Type 0)
    (decides : B → BackpressureInfo → BackpressureDecision → Type 0)
    (reader_degrades : D → DegradationCause → DegradationInfo → DegradationAction → Type 0) (naming : ℕ → Naming)
    (order : List (ℕ × ServicePorts T U)) (old : NumberedHub T U B D) (state : State T)
    (stands : PortsStandFor choices degrades decides reader_degrades naming order old state) (id : DomainId)
    (ports after : ServicePorts T U)
    (found : hub_ports id old.hub ≡ Some ports) (handlers : List (ℕ × B) → List (ℕ × B)) (readers : List (ℕ × D) → List (ℕ × D)) where
  abbrev pub changed : Hub T U B D
  changed = hub_with_deciders id after handlers readers old.hub

  abbrev its : (domain : Domain T U B D) × (domain_at id old.hub.services ≡ Some domain) × (domain.state.ports ≡ ports)
  its = some_ports (domain_at id old.hub.services) ports found

  abbrev became_so : Domain T U B D
  became_so = became id after handlers readers old.hub its.0 its.1

  pub between : OrderChanges order id.service its.0.state.ports after (with_domain id.service old.hub.services.domains became_so)
  between = order_changes order old.hub.services.domains stands.here stands.same id.service its.0 (stands_here id after old.hub its.0 its.1)
      became_so

  abbrev pub order_then : List (ℕ × ServicePorts T U)
  order_then = between.before ++ (id.service, after) ∷ between.behind

  pub keys_then : keys_of order_then ≡ keys_of order
  keys_then = between.keys

  ports_before : order ≡ between.before ++ (id.service, ports) ∷ between.behind
  ports_before = between.now ∙ ap (λ (it : ServicePorts T U). between.before ++ (id.service, it) ∷ between.behind) its.2

  same_then : (number : ℕ) → at number order_then ≡ at number (ports_here changed.services.domains)
  same_then number =
      between.same number
      ∙ sym (ap (λ (services : OpenServices T U B D). at number (ports_here services.domains))
      (put_there id after handlers readers old.hub its.0 its.1))

  -- ports of the domain stand as its ports tell, and those of others as they stood
  pub up_here : (number : ℕ) → publisher_is_up changed id number ≡ publisher_stands number (Some after)
  up_here number = ap (λ (it : Option (Domain T U B D)). publisher_stands number (ports_if it))
      (found_there id after handlers readers old.hub its.0 its.1)

  pub up_elsewhere : (other : DomainId) (number : ℕ) → (id ≡ other → ⊥)
      → publisher_is_up changed other number ≡ publisher_is_up old.hub other number
  up_elsewhere other number off = ap (λ (it : Option (Domain T U B D)). publisher_stands number (ports_if it))
      (found_elsewhere id after handlers readers old.hub its.0 its.1 other off)

  pub reader_up_here : (number : ℕ) → subscriber_is_up changed id number ≡ subscriber_stands number (Some after)
  reader_up_here number = ap (λ (it : Option (Domain T U B D)). subscriber_stands number (ports_if it))
      (found_there id after handlers readers old.hub its.0 its.1)

  pub reader_up_elsewhere : (other : DomainId) (number : ℕ) → (id ≡ other → ⊥)
      → subscriber_is_up changed other number ≡ subscriber_is_up old.hub other number
  reader_up_elsewhere other number off = ap (λ (it : Option (Domain T U B D)). subscriber_stands number (ports_if it))
      (found_elsewhere id after handlers readers old.hub its.0 its.1 other off)

  -- where the same decide for a port of the domain, so it is of the hub
  pub same_handlers : (place : ℕ) → ((kept : List (ℕ × B)) → kept_under place (handlers kept) ≡ kept_under place kept)
      → publisher_handlers_in place (domain_at id changed.services) ≡ publisher_handlers_in place (domain_at id old.hub.services)
  same_handlers place same =
      ap (publisher_handlers_in place) (found_there id after handlers readers old.hub its.0 its.1)
      ∙ same its.0.state.publisher_handlers ∙ sym (ap (publisher_handlers_in place) its.1)

  pub same_readers : (place : ℕ) → ((kept : List (ℕ × D)) → kept_under place (readers kept) ≡ kept_under place kept)
      → subscriber_handler_in place (domain_at id changed.services) ≡ subscriber_handler_in place (domain_at id old.hub.services)
  same_readers place same =
      ap (subscriber_handler_in place) (found_there id after handlers readers old.hub its.0 its.1)
      ∙ same its.0.state.subscriber_handlers ∙ sym (ap (subscriber_handler_in place) its.1)

  pub handlers_elsewhere : (other : DomainId) (place : ℕ) → (id ≡ other → ⊥)
      → publisher_handlers_in place (domain_at other changed.services) ≡ publisher_handlers_in place (domain_at other old.hub.services)
  handlers_elsewhere other place off = ap (publisher_handlers_in place)
      (found_elsewhere id after handlers readers old.hub its.0 its.1 other off)

  pub readers_elsewhere : (other : DomainId) (place : ℕ) → (id ≡ other → ⊥)
      → subscriber_handler_in place (domain_at other changed.services) ≡ subscriber_handler_in place (domain_at other old.hub.services)
  readers_elsewhere other place off = ap (subscriber_handler_in place)
      (found_elsewhere id after handlers readers old.hub its.0 its.1 other off)

  -- what the machine does
  pub machine_left : (types : MessageTypeDetails) (asked : Command T)
      → NamesOf id.service (naming id.service) (lent_in old.made) (held_in old.made) asked
      → ((service : Service T)
      → StandsFor (naming id.service) (those_of id.service (lent_in old.made)) (those_of id.service (held_in old.made))
      old.hub.expired_connection_buffer ports service
      → Matches T U choices types old.hub.expired_connection_buffer asked reply.Done state service (naming id.service)
      (those_of id.service (lent_in old.made)) (those_of id.service (held_in old.made)) after)
      → (services : List (Service T))
      × Step types choices old.hub.expired_connection_buffer asked state reply.Done (answered_with reply.Done services state)
      × DomainsStandFor naming (lent_in old.made) (held_in old.made) old.hub.expired_connection_buffer order_then services
  machine_left types asked named matches =
      let (services, does, all) = among_others T U choices (steps-among choices) types old.hub.expired_connection_buffer naming
      (lent_in old.made) (lent_in old.made) (held_in old.made) (held_in old.made) between.before between.behind id.service ports after state
      asked reply.Done (naming id.service)
      (subst (λ (domains : List (ℕ × ServicePorts T U)). DomainsStandFor naming (lent_in old.made) (held_in old.made)
      old.hub.expired_connection_buffer domains state.services) ports_before stands.domains)
      named refl refl (λ other off. refl, stands.domains.loans) (λ other off. refl, stands.domains.samples)
      (λ first service last are it. matches service it) in (
        services,
        does,
        subst (λ (names : ℕ → Naming). DomainsStandFor names (lent_in old.made) (held_in old.made)
            old.hub.expired_connection_buffer order_then services) (same_names id.service naming) all,
      )

  abbrev publishers_in : List (Service T) → ℕ → Option (Publisher T)
  publishers_in these number = among (λ (service : Service T). service.publishers) number these

  abbrev subscribers_in : List (Service T) → ℕ → Option Subscriber
  subscribers_in these number = among (λ (service : Service T). service.subscribers) number these

  module _ (new : NumberedHub T U B D) (publishers : NumberTable MadePublisher) (subscribers : NumberTable PortId)
      (services : List (Service T)) where
    -- the hub, where these ports go by numbers
    abbrev pub became_hub : NumberedHub T U B D
    became_hub = record new { hub = changed; made = record old.made { publishers = publishers; subscribers = subscribers } }

    pub stands_without : DomainsStandFor naming (lent_in old.made) (held_in old.made) old.hub.expired_connection_buffer order_then services
        → publishers.next ≡ old.made.publishers.next → subscribers.next ≡ old.made.subscribers.next
        → GoByNames (λ service. (naming service).publisher) (publisher_is_up changed) (λ number. port_under (value_at publishers number))
        → GoByNames (λ service. (naming service).subscriber) (subscriber_is_up changed) (value_at subscribers)
        → ((number : ℕ) (made : MadePublisher) → value_at publishers number ≡ Some made
        → value_at old.made.publishers number ≡ Some made)
        → ((other : DomainId) (place : ℕ) → publisher_is_up changed other place ≡ true
        → (publisher_is_up old.hub other place ≡ true)
        × (option_map deciding (publishers_in services ((naming other.service).publisher place))
        ≡ option_map deciding (publishers_in state.services ((naming other.service).publisher place)))
        × (publisher_handlers_in place (domain_at other changed.services)
        ≡ publisher_handlers_in place (domain_at other old.hub.services)))
        → ((other : DomainId) (place : ℕ) → subscriber_is_up changed other place ≡ true
        → (subscriber_is_up old.hub other place ≡ true)
        × (option_map acting (subscribers_in services ((naming other.service).subscriber place))
        ≡ option_map acting (subscribers_in state.services ((naming other.service).subscriber place)))
        × (subscriber_handler_in place (domain_at other changed.services)
        ≡ subscriber_handler_in place (domain_at other old.hub.services)))
        → PortsStandFor choices degrades decides reader_degrades naming order_then became_hub (answered_with reply.Done services state)
    stands_without all publishers_next subscribers_next goes reader_goes were stay readers_stay = record {
      here = subst (λ (these : OpenServices T U B D). AreHere these.domains)
          (sym (put_there id after handlers readers old.hub its.0 its.1))
          (stay_here id.service old.hub.services.domains became_so stands.here);
      same = same_then;
      domains = all;
      numbers = record {
        publishers = publishers_next ∙ stands.numbers.publishers;
        subscribers = subscribers_next ∙ stands.numbers.subscribers;
        loans = stands.numbers.loans;
        samples = stands.numbers.samples;
      };
      loans = λ number made there.
          still_here id after handlers readers old.hub its.0 its.1 made.port.domain (stands.loans number made there);
      samples = λ number made there. (
        still_here id after handlers readers old.hub its.0 its.1 made.port.domain (stands.samples number made there).0,
        (stands.samples number made there).1,
      );
      publishers = goes;
      subscribers = reader_goes;
      named = stands.named;
      slices = λ number made there. stands.slices number made (were number made there);
      publishers_handled = λ other place publisher up there.
          let (was_up, alike, same_kept) = stay other place up in
          let (one, was, same) = mapped_back deciding (publishers_in state.services ((naming other.service).publisher place))
          (deciding publisher) (sym alike ∙ ap (option_map deciding) there) in
          let its_name = (naming other.service).publisher place in
          handled_on choices old.hub became_hub.hub other place its_name its_name refl degrades decides one publisher same
          (λ info decision may. subst (λ (it : Option B). kept_decides decides it info decision) same_kept may)
          (λ info action may. subst (λ (it : Option B). kept_degrades degrades it info action) same_kept may)
          (stands.publishers_handled other place one was_up was);
      subscribers_handled = λ other place subscriber up there.
          let (was_up, alike, same_kept) = readers_stay other place up in
          let (one, was, same) = mapped_back acting (subscribers_in state.services ((naming other.service).subscriber place))
          (acting subscriber) (sym alike ∙ ap (option_map acting) there) in
          let its_name = (naming other.service).subscriber place in
          reader_handled_on choices old.hub became_hub.hub other place its_name its_name refl reader_degrades one subscriber same
          (λ info action may. subst (λ (it : Option D). kept_degrades reader_degrades it info action) same_kept may)
          (stands.subscribers_handled other place one was_up was);
    }
