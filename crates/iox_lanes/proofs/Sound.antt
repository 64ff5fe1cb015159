-- Of a domain that nothing keeps from becoming lanes no port is listed twice, and each publisher is made for what is agreed.
use Rattle.std.proofs.Common.{ℕ, zero, suc, ◌≡◌, ◌+◌, ◌<◌, ◌≤◌, ◌==◌, ◌||◌, Bool, true, false, not, nat_lt, List, [], ◌∷◌}
use Rattle.std.proofs.Common.{slice_get, get_or, length, option_map, Option, Some, None, refl, sym, ap, ◌∙◌, subst, arith}
use Rattle.std.proofs.lemmas.Bool.{eqb-true, ltb-false}
use Rattle.std.proofs.lemmas.Option.{slice_get-get_or}
use Rattle.std.specs.BTreeMap.{is_at}
use Rattle.std.specs.List.{list_any}
use Rattle.std.specs.Ordering.{nat_cmp}
use Rattle.iox_domain.specs.DomainValues.declared.backpressure.BackpressureDecision.{BackpressureDecision}
use Rattle.iox_domain.specs.Container.declared.container.Member.{Member}
use Rattle.iox_domain.specs.DomainPorts.Messages.{Message}
use Rattle.iox_domain.specs.DomainPorts.Ports.{connection_of}
use Rattle.iox_domain.specs.DomainPorts.Publishers.{port_of}
use Rattle.iox_domain.specs.DomainPorts.declared.publisher_port.PublisherPort.{PublisherPort}
use Rattle.iox_domain.specs.DomainPorts.declared.subscriber_port.SubscriberPort.{SubscriberPort}
use Rattle.iox_domain.specs.DomainSlots.Uses.{Connection, nobody}
use Rattle.iox_domain.specs.DomainValues.declared.service_sizes.ServiceSizes.{ServiceSizes}
use Rattle.iox_domain.specs.Subscribers.{subscriber_of}
use Rattle.iox_domain.specs.declared.domain.Domain.{Domain}
use Rattle.iox_domain.specs.declared.ports.service_ports.ServicePorts.{ServicePorts}
use Rattle.iox_lanes_machine.proofs.Ends.{some_is}
use Rattle.iox_lanes_opening.specs.Deciding.{has_handlers, is_retrying}
use Rattle.iox_lanes_opening.specs.Lingering.{is_lingering}
use Rattle.iox_lanes_opening.specs.Listed.{of_each_listed}
use Rattle.iox_lanes_opening.specs.Refusals.{first_reason, has_growing, is_blocked}
use Rattle.iox_lanes_opening.specs.Slices.{has_slices}
use Rattle.iox_lanes_opening.specs.Soundness.{are_placed, is_misfit, is_publisher_place, is_publisher_placed, is_subscriber_place}
use Rattle.iox_lanes_opening.specs.Soundness.{attaches_twice, has_twice, is_misnumbered, is_subscriber_placed, is_unsound, remembers_ill}
use Rattle.iox_lanes_opening.specs.Soundness.{waits_ill}
use Rattle.iox_lanes_opening.specs.UpToDate.{is_up_to_date}
use Rattle.iox_lanes.specs.Holding.{numbers_of}
use Rattle.iox_lanes.specs.Joined.{place_if, AreListedOnce}
use Rattle.iox_lanes.proofs.PortsLeft.{first_place}
use Rattle.iox_lanes.proofs.Presence.{both, neither, no_reason, none_under, not_no}

-- ports each of which stands at the place where it is listed are listed once
module _ {V : Type 0} (number_of : V → ℕ) (holds : ℕ → V → Bool) (at : ℕ → Option ℕ)
    (stands : (place : ℕ) (value : V) → holds place value ≡ true → at (number_of value) ≡ Some place) where
  stands_from : (first : ℕ) (places : List (Option (Member V))) → of_each_listed holds first places ≡ true → (index number : ℕ)
      → slice_get (numbers_of number_of places) index ≡ Some number → (place : ℕ) × (first ≤ place) × (at number ≡ Some place)
  stands_from first [] all index number is = absurd (cc is)
  stands_from first (None ∷ rest) all index number is =
      let later = stands_from (first + 1) rest all index number is in
      (later.0, omega (arith, later.1), later.2)
  stands_from first (Some member ∷ rest) all zero number is = (
    first,
    omega arith,
    ap at (sym (some_is (number_of member.value) number is))
        ∙ stands first member.value (both (holds first member.value) (of_each_listed holds (first + 1) rest) all).0,
  )
  stands_from first (Some member ∷ rest) all (suc index) number is =
      let later = stands_from (first + 1) rest (both (holds first member.value) (of_each_listed holds (first + 1) rest) all).1 index
      number is in
      (later.0, omega (arith, later.1), later.2)

  one_place : (first : ℕ) (number : ℕ) → at number ≡ Some first → (place : ℕ) × (first + 1 ≤ place) × (at number ≡ Some place) → ⊥
  one_place first number here later =
      let same : first ≡ later.0 = some_is first later.0 (sym here ∙ later.2) in
      omega (arith, same, later.1)

  once_from : (first : ℕ) (places : List (Option (Member V))) → of_each_listed holds first places ≡ true → (one other number : ℕ)
      → slice_get (numbers_of number_of places) one ≡ Some number → slice_get (numbers_of number_of places) other ≡ Some number
      → one ≡ other
  once_from first [] all one other number is too = absurd (cc is)
  once_from first (None ∷ rest) all one other number is too = once_from (first + 1) rest all one other number is too
  once_from first (Some member ∷ rest) all zero zero number is too = refl
  once_from first (Some member ∷ rest) all zero (suc other) number is too =
      let parts = both (holds first member.value) (of_each_listed holds (first + 1) rest) all in
      absurd (one_place first number (ap at (sym (some_is (number_of member.value) number is)) ∙ stands first member.value parts.0)
      (stands_from (first + 1) rest parts.1 other number too))
  once_from first (Some member ∷ rest) all (suc one) zero number is too =
      let parts = both (holds first member.value) (of_each_listed holds (first + 1) rest) all in
      absurd (one_place first number (ap at (sym (some_is (number_of member.value) number too)) ∙ stands first member.value parts.0)
      (stands_from (first + 1) rest parts.1 one number is))
  once_from first (Some member ∷ rest) all (suc one) (suc other) number is too =
      ap suc (once_from (first + 1) rest (both (holds first member.value) (of_each_listed holds (first + 1) rest) all).1 one other
      number is too)

publisher_stands : {T U : Type 0} (place : ℕ) (port : Option (PublisherPort T U)) → is_publisher_place place port ≡ true
    → option_map (λ p. p.place) port ≡ Some place
publisher_stands place None h = absurd (cc h)
publisher_stands place (Some port) h = ap Some (eqb-true port.place place h)

subscriber_stands : (place : ℕ) (port : Option SubscriberPort) → is_subscriber_place place port ≡ true
    → option_map (λ p. p.place) port ≡ Some place
subscriber_stands place None h = absurd (cc h)
subscriber_stands place (Some port) h = ap Some (eqb-true port.place place h)

-- a number that is listed once is first where it stands
pub first_listed : (numbers : List ℕ) (place : ℕ) → AreListedOnce numbers → place < length numbers
    → place_if (slice_get numbers place) numbers ≡ Some place
first_listed numbers place once below =
    let there = slice_get-get_or numbers place 0 below in
    ap (λ at. place_if at numbers) there ∙ first_place numbers place _ there
    (λ k less same. let equal : k ≡ place = once k place _ same there in omega (arith, less, equal))

none_ill : {T U : Type 0} (sizes : ServiceSizes) (connections : List (Connection (Message T U))) (index : ℕ)
    → list_any (waits_ill sizes) connections ≡ false → waits_ill sizes (get_or connections index nobody) ≡ false
none_ill sizes [] index none = refl
none_ill sizes (connection ∷ rest) zero none = (neither (waits_ill sizes connection) (list_any (waits_ill sizes) rest) none).0
none_ill sizes (connection ∷ rest) (suc index) none =
    none_ill sizes rest index (neither (waits_ill sizes connection) (list_any (waits_ill sizes) rest) none).1

-- A publisher has slots of one segment, keeps as many messages as agreed at most, no two in one slot, and its connections are made for what
-- is agreed.
pub record IsFit {T U : Type 0} (sizes : ServiceSizes) (port : PublisherPort T U) : Type 0 where
  pub first : port.sender.uses.first ≡ 0
  pub kept : port.sender.uses.kept ≡ sizes.history_size
  pub few : length port.sender.uses.history ≤ sizes.history_size
  pub once : has_twice port.sender.uses.history ≡ false
  pub waiting : (index : ℕ) → waits_ill sizes (connection_of index port) ≡ false

module _ {T U B D : Type 0} (decision : B → Option BackpressureDecision) (asks : D → Bool)
    (domain : Domain T U B D) (none : first_reason decision asks domain ≡ None) where
  abbrev ports : ServicePorts T U
  ports = domain.state.ports

  -- the ports are such as calls leave
  record AreSound : Type 0 where
    pub at_places : not (are_placed ports) ≡ false
    pub made : list_any (λ (entry : ℕ × PublisherPort T U). is_misfit ports.sizes entry.1) ports.publishers ≡ false
    pub attached : list_any (λ (entry : ℕ × SubscriberPort). attaches_twice entry.1) ports.subscribers ≡ false

  sound : AreSound
  sound =
      let blocked = no_reason (is_blocked ports) _ _ none in
      let current = no_reason (not (is_up_to_date ports)) _ _ blocked.1 in
      let growing = no_reason (has_growing ports) _ _ current.1 in
      let handled = no_reason (has_handlers decision asks domain) _ _ growing.1 in
      let retrying = no_reason (is_retrying decision domain) _ _ handled.1 in
      let lingering = no_reason (is_lingering ports) _ _ retrying.1 in
      let sliced = no_reason (has_slices domain) _ _ lingering.1 in
      let places = neither (not (are_placed ports)) (list_any (λ (entry : ℕ × PublisherPort T U). is_misfit ports.sizes entry.1)
      ports.publishers || list_any (λ (entry : ℕ × SubscriberPort). attaches_twice entry.1) ports.subscribers)
      (no_reason (is_unsound ports) _ _ sliced.1).0 in
      let rest = neither (list_any (λ (entry : ℕ × PublisherPort T U). is_misfit ports.sizes entry.1) ports.publishers)
      (list_any (λ (entry : ℕ × SubscriberPort). attaches_twice entry.1) ports.subscribers) places.1 in
      record { at_places = places.0; made = rest.0; attached = rest.1 }

  placed : (of_each_listed (is_publisher_placed ports) 0 ports.publisher_list.places ≡ true)
      × (of_each_listed (is_subscriber_placed ports) 0 ports.subscriber_list.places ≡ true)
  placed = both (of_each_listed (is_publisher_placed ports) 0 ports.publisher_list.places)
      (of_each_listed (is_subscriber_placed ports) 0 ports.subscriber_list.places) (not_no (are_placed ports) sound.at_places)

  -- no publisher is listed twice
  pub publishers_once : (numbers : List ℕ) → numbers ≡ numbers_of (λ entry. entry.publisher) ports.publisher_list.places
      → AreListedOnce numbers
  publishers_once numbers is = subst AreListedOnce (sym is)
      (once_from (λ entry. entry.publisher) (is_publisher_placed ports) (λ number. option_map (λ p. p.place)
      (port_of number ports.publishers))
      (λ place entry h. publisher_stands place (port_of entry.publisher ports.publishers) h) 0 ports.publisher_list.places placed.0)

  -- and no subscriber
  pub subscribers_once : (numbers : List ℕ) → numbers ≡ numbers_of (λ entry. entry.subscriber) ports.subscriber_list.places
      → AreListedOnce numbers
  subscribers_once numbers is = subst AreListedOnce (sym is)
      (once_from (λ entry. entry.subscriber) (is_subscriber_placed ports) (λ number. option_map (λ p. p.place)
      (subscriber_of number ports.subscribers))
      (λ place entry h. subscriber_stands place (subscriber_of entry.subscriber ports.subscribers) h) 0 ports.subscriber_list.places
      placed.1)

  -- a publisher is made for what is agreed, and its messages keep to that
  pub fits : (number : ℕ) (port : PublisherPort T U) → port_of number ports.publishers ≡ Some port → IsFit ports.sizes port
  fits number port is =
      let misfit = none_under (λ (entry : ℕ × PublisherPort T U). is_misfit ports.sizes entry.1) (is_at (nat_cmp number)) ports.publishers
      port sound.made is in
      let numbered = neither (is_misnumbered ports.sizes port) (nat_lt 0 port.sender.uses.first
      || (not (port.sender.uses.kept == ports.sizes.history_size) || (remembers_ill ports.sizes port
      || list_any (waits_ill ports.sizes) port.sender.uses.connections))) misfit.1 in
      let one = neither (nat_lt 0 port.sender.uses.first) (not (port.sender.uses.kept == ports.sizes.history_size)
      || (remembers_ill ports.sizes port || list_any (waits_ill ports.sizes) port.sender.uses.connections)) numbered.1 in
      let made = neither (not (port.sender.uses.kept == ports.sizes.history_size))
      (remembers_ill ports.sizes port || list_any (waits_ill ports.sizes) port.sender.uses.connections) one.1 in
      let messages = neither (remembers_ill ports.sizes port) (list_any (waits_ill ports.sizes) port.sender.uses.connections) made.1 in
      let history = neither (nat_lt ports.sizes.history_size (length port.sender.uses.history)) (has_twice port.sender.uses.history)
      messages.0 in
      record {
        first = omega (arith, ltb-false 0 port.sender.uses.first one.0);
        kept = eqb-true port.sender.uses.kept ports.sizes.history_size (not_no (port.sender.uses.kept == ports.sizes.history_size)
            made.0);
        few = ltb-false ports.sizes.history_size (length port.sender.uses.history) history.0;
        once = history.1;
        waiting = λ index. none_ill ports.sizes port.sender.uses.connections index messages.1;
      }

  -- no two connections of a subscriber come from one publisher
  pub attached_once : (number : ℕ) (port : SubscriberPort) → subscriber_of number ports.subscribers ≡ Some port
      → attaches_twice port ≡ false
  attached_once number port is = (none_under (λ (entry : ℕ × SubscriberPort). attaches_twice entry.1) (is_at (nat_cmp number))
      ports.subscribers port sound.attached is).1
