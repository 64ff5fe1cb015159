-- Of a domain that nothing keeps from becoming lanes each listed publisher is there, and nothing of a publisher is out.
use Rattle.std.proofs.Common.{ℕ, zero, suc, ◌≡◌, ◌+◌, ◌==◌, ◌&&◌, ◌||◌, Bool, true, false, not, nat_lt, is_some, if◌then◌else◌, List, []}
use Rattle.std.proofs.Common.{◌∷◌, length, get_or, slice_get, Option, Some, None, refl, sym, ap, ◌∙◌, subst, arith}
use Rattle.std.proofs.lemmas.Bool.{cond-true, cond-false, eqb-true, ltb-false}
use Rattle.std.specs.BTreeMap.{is_at}
use Rattle.std.specs.List.{list_any}
use Rattle.std.specs.Map.{lookup}
use Rattle.std.specs.Ordering.{nat_cmp}
use Rattle.iox_domain.specs.DomainValues.declared.backpressure.BackpressureDecision.{BackpressureDecision}
use Rattle.iox_domain.specs.Container.declared.container.Member.{Member}
use Rattle.iox_domain.specs.DomainPorts.Messages.{Message}
use Rattle.iox_domain.specs.DomainPorts.Ports.{connection_of}
use Rattle.iox_domain.specs.DomainPorts.Publishers.{port_of}
use Rattle.iox_domain.specs.DomainPorts.declared.publisher_port.PublisherPort.{PublisherPort}
use Rattle.iox_domain.specs.DomainSlots.Uses.{Connection, nobody}
use Rattle.iox_domain.specs.DomainPorts.declared.subscriber_port.SubscriberPort.{SubscriberPort}
use Rattle.iox_domain.specs.PortsPublishing as publishing
use Rattle.iox_domain.specs.Subscribers.{subscriber_of}
use Rattle.iox_domain.specs.declared.domain.Domain.{Domain}
use Rattle.iox_domain.specs.declared.ports.service_ports.ServicePorts.{ServicePorts}
use Rattle.iox_lanes_machine.proofs.Ends.{some_is}
use Rattle.iox_lanes_opening.specs.Listed.{of_each_listed}
use Rattle.iox_lanes_opening.specs.Deciding.{has_handlers, is_retrying}
use Rattle.iox_lanes_opening.specs.Lingering.{connection_lingers, has_ended, has_out, is_lingering, is_listed_publisher}
use Rattle.iox_lanes_opening.specs.Lingering.{publisher_lingers, subscriber_lingers}
use Rattle.iox_lanes_opening.specs.Refusals.{first_reason, has_growing, is_blocked}
use Rattle.iox_lanes_opening.specs.Restored.{IsRested}
use Rattle.iox_lanes_opening.specs.Slices.{deals_in_slices, has_slices, is_slice, keeps_slice, slice_waits}
use Rattle.iox_lanes_opening.specs.UpToDate.{is_current_port, is_current_publisher, is_current_reader, is_current_subscriber, is_up_to_date}
use Rattle.iox_lanes.specs.Holding.{numbers_of, AreThere}

pub no_reason : {E : Type 0} (test : Bool) (reason : E) (rest : Option E) → (if test then Some reason else rest) ≡ None → (test ≡ false)
    × (rest ≡ None)
no_reason true reason rest none = absurd (cc none)
no_reason false reason rest none = (refl, none)

pub not_no : (b : Bool) → not b ≡ false → b ≡ true
not_no true h = refl
not_no false h = absurd (cc h)

pub both : (a b : Bool) → (a && b) ≡ true → (a ≡ true) × (b ≡ true)
both true b h = (refl, h)
both false b h = absurd (cc h)

-- each port is up to date
pub is_current : {T U B D : Type 0} (decision : B → Option BackpressureDecision) (asks : D → Bool)
    (domain : Domain T U B D) → first_reason decision asks domain ≡ None
    → is_up_to_date domain.state.ports ≡ true
is_current decision asks domain none = not_no (is_up_to_date domain.state.ports)
    (no_reason (not (is_up_to_date domain.state.ports)) _ _ (no_reason (is_blocked domain.state.ports) _ _ none).1).0

some_current : {T U : Type 0} (ports : ServicePorts T U) (place number : ℕ) (port : Option (PublisherPort T U))
    → is_current_port ports place number port ≡ true → is_some port ≡ true
some_current ports place number None h = h
some_current ports place number (Some port) h = refl

some_reader : {T U : Type 0} (ports : ServicePorts T U) (port : Option SubscriberPort) → is_current_reader ports port ≡ true
    → is_some port ≡ true
some_reader ports None h = h
some_reader ports (Some port) h = refl

-- what follows for each number of what holds of each listed port
each_there : {V : Type 0} (number_of : V → ℕ) (holds : ℕ → V → Bool) (P : ℕ → Type 0)
    → ((first : ℕ) (value : V) → holds first value ≡ true → P (number_of value)) → (first : ℕ) (places : List (Option (Member V)))
    → of_each_listed holds first places ≡ true → (place number : ℕ) → slice_get (numbers_of number_of places) place ≡ Some number → P number
each_there number_of holds P follows first [] all place number is = absurd (cc is)
each_there number_of holds P follows first (None ∷ rest) all place number is
    = each_there number_of holds P follows (first + 1) rest all place number is
each_there number_of holds P follows first (Some member ∷ rest) all zero number is =
    subst P (some_is (number_of member.value) number is)
    (follows first member.value (both (holds first member.value) (of_each_listed holds (first + 1) rest) all).0)
each_there number_of holds P follows first (Some member ∷ rest) all (suc place) number is =
    each_there number_of holds P follows (first + 1) rest
    (both (holds first member.value) (of_each_listed holds (first + 1) rest) all).1 place number is

-- so is the publisher of each listed number
pub are_there : {T U B D : Type 0} (decision : B → Option BackpressureDecision) (asks : D → Bool)
    (domain : Domain T U B D) (numbers : List ℕ)
    → first_reason decision asks domain ≡ None → numbers ≡ numbers_of (λ entry. entry.publisher) domain.state.ports.publisher_list.places
    → AreThere domain.state.ports.publishers numbers
are_there decision asks domain numbers none is =
    let current = both (of_each_listed (is_current_publisher domain.state.ports) 0 domain.state.ports.publisher_list.places)
    (of_each_listed (λ place entry. is_current_subscriber domain.state.ports entry) 0 domain.state.ports.subscriber_list.places)
    (is_current decision asks domain none) in
    subst (AreThere domain.state.ports.publishers) (sym is)
    (each_there (λ entry. entry.publisher) (is_current_publisher domain.state.ports)
    (λ number. is_some (port_of number domain.state.ports.publishers) ≡ true)
    (λ first entry current. some_current domain.state.ports first entry.publisher
    (port_of entry.publisher domain.state.ports.publishers) current) 0 domain.state.ports.publisher_list.places current.0)

-- and the subscriber
pub readers_there : {T U B D : Type 0} (decision : B → Option BackpressureDecision) (asks : D → Bool)
    (domain : Domain T U B D) (numbers : List ℕ)
    → first_reason decision asks domain ≡ None → numbers ≡ numbers_of (λ entry. entry.subscriber) domain.state.ports.subscriber_list.places
    → (place number : ℕ) → slice_get numbers place ≡ Some number
    → is_some (subscriber_of number domain.state.ports.subscribers) ≡ true
readers_there decision asks domain numbers none is place number there =
    let current = both (of_each_listed (is_current_publisher domain.state.ports) 0 domain.state.ports.publisher_list.places)
    (of_each_listed (λ place entry. is_current_subscriber domain.state.ports entry) 0 domain.state.ports.subscriber_list.places)
    (is_current decision asks domain none) in
    each_there (λ entry. entry.subscriber) (λ place entry. is_current_subscriber domain.state.ports entry)
    (λ number. is_some (subscriber_of number domain.state.ports.subscribers) ≡ true)
    (λ first entry current. some_reader domain.state.ports (subscriber_of entry.subscriber domain.state.ports.subscribers) current) 0
    domain.state.ports.subscriber_list.places current.1
    place number (ap (λ numbers. slice_get numbers place) (sym is) ∙ there)

pub neither : (a b : Bool) → (a || b) ≡ false → (a ≡ false) × (b ≡ false)
neither true b h = absurd (cc h)
neither false b h = (refl, h)

-- what is found in a list passes no test that nothing there passes
pub none_under : {K V : Type 0} (fails : K × V → Bool) (test : K → Bool) (entries : List (K × V)) (value : V)
    → list_any fails entries ≡ false → lookup test entries ≡ Some value → (key : K) × (fails (key, value) ≡ false)
none_under fails test [] value none is = absurd (cc is)
none_under {K} {V} fails test ((key, first) ∷ rest) value none is = by (test key) refl (none_under fails test rest value apart.1)
  where
    apart : (fails (key, first) ≡ false) × (list_any fails rest ≡ false)
    apart = neither (fails (key, first)) (list_any fails rest) none

    by : (here : Bool) → test key ≡ here → (lookup test rest ≡ Some value → (other : K) × (fails (other, value) ≡ false)) → (other : K)
        × (fails (other, value) ≡ false)
    by true here beyond = (
      key,
      subst (λ (v : V). fails (key, v) ≡ false)
          (some_is first value (sym (cond-true (test key) (Some first) (lookup test rest) here) ∙ is)) apart.0,
    )
    by false here beyond = beyond (sym (cond-false (test key) (Some first) (lookup test rest) here) ∙ is)

nothing : {X : Type 0} (at : Option X) → is_some at ≡ false → at ≡ None
nothing None h = refl
nothing (Some x) h = absurd (cc h)

empty : {X : Type 0} (xs : List X) → nat_lt 0 (length xs) ≡ false → xs ≡ []
empty [] h = refl
empty (x ∷ xs) h = absurd (omega (arith, ltb-false 0 (length (x ∷ xs)) h))

none_borrowed : {X : Type 0} (connections : List (Connection X)) (index : ℕ) → list_any connection_lingers connections ≡ false
    → (get_or connections index nobody).borrowed ≡ []
none_borrowed [] index none = refl
none_borrowed (connection ∷ rest) zero none =
    let this = neither (connection_lingers connection) (list_any connection_lingers rest) none in
    empty connection.borrowed (neither (has_ended connection.stage) (nat_lt 0 (length connection.borrowed)) this.0).1
none_borrowed (connection ∷ rest) (suc index) none
    = none_borrowed rest index (neither (connection_lingers connection) (list_any connection_lingers rest) none).1

-- what no value of a list passes none at a place passes
none_in : {X : Type 0} (test : X → Bool) (xs : List X) (at : ℕ) (x : X) → list_any test xs ≡ false → slice_get xs at ≡ Some x
    → test x ≡ false
none_in test [] at x none there = absurd (cc there)
none_in test (first ∷ rest) zero x none there
    = subst (λ y. test y ≡ false) (some_is first x there) (neither (test first) (list_any test rest) none).0
none_in test (first ∷ rest) (suc at) x none there = none_in test rest at x (neither (test first) (list_any test rest) none).1 there

none_waits : {T U : Type 0} (connections : List (Connection (Message T U))) (index : ℕ) → list_any slice_waits connections ≡ false
    → slice_waits (get_or connections index nobody) ≡ false
none_waits [] index none = refl
none_waits (connection ∷ rest) zero none = (neither (slice_waits connection) (list_any slice_waits rest) none).0
none_waits (connection ∷ rest) (suc index) none
    = none_waits rest index (neither (slice_waits connection) (list_any slice_waits rest) none).1

one_value : {T U : Type 0} (message : Message T U) → is_slice message ≡ false → (value : T) × (message.values ≡ value ∷ [])
one_value {T} message single = by message.values refl
  where
    many : length message.values ≡ 1
    many = eqb-true (length message.values) 1 (not_no (length message.values == 1) single)

    by : (values : List T) → message.values ≡ values → (value : T) × (message.values ≡ value ∷ [])
    by [] is = absurd (omega (arith, many, ap length is))
    by (value ∷ []) is = (value, is)
    by (value ∷ other ∷ rest) is = absurd (omega (arith, many, ap length is))

-- no publisher deals in slices
no_slices : {T U B D : Type 0} (decision : B → Option BackpressureDecision) (asks : D → Bool)
    (domain : Domain T U B D) (number : ℕ) (port : PublisherPort T U)
    → first_reason decision asks domain ≡ None → port_of number domain.state.ports.publishers ≡ Some port → (port.sender.room ≡ 1)
    × (keeps_slice port ≡ false)
no_slices {T} {U} decision asks domain number port none is =
    let ports : ServicePorts T U = domain.state.ports in
    let blocked = no_reason (is_blocked ports) _ _ none in
    let current = no_reason (not (is_up_to_date ports)) _ _ blocked.1 in
    let growing = no_reason (has_growing ports) _ _ current.1 in
    let handled = no_reason (has_handlers decision asks domain) _ _ growing.1 in
    let retrying = no_reason (is_retrying decision domain) _ _ handled.1 in
    let lingering = no_reason (is_lingering ports) _ _ retrying.1 in
    let sliced = no_reason (has_slices domain) _ _ lingering.1 in
    let slices = none_under (λ (entry : ℕ × PublisherPort T U). deals_in_slices entry.1) (is_at (nat_cmp number)) ports.publishers port
    sliced.0 is in
    let unit = neither (not (port.unit == 1)) (not (port.sender.room == 1) || keeps_slice port) slices.1 in
    let one = neither (not (port.sender.room == 1)) (keeps_slice port) unit.1 in
    (eqb-true port.sender.room 1 (not_no (port.sender.room == 1) one.0), one.1)

-- so a message that it keeps, or that waits at a connection of it, is one value
pub remembers_one : {T U B D : Type 0} (decision : B → Option BackpressureDecision) (asks : D → Bool)
    (domain : Domain T U B D) (number : ℕ) (port : PublisherPort T U)
    → first_reason decision asks domain ≡ None → port_of number domain.state.ports.publishers ≡ Some port → (at : ℕ) (message : Message T U)
    → slice_get port.sender.uses.history at ≡ Some message
    → (value : T) × (message.values ≡ value ∷ [])
remembers_one decision asks domain number port none is at message there =
    one_value message (none_in is_slice port.sender.uses.history at message
    (neither (list_any is_slice port.sender.uses.history) (list_any slice_waits port.sender.uses.connections)
    (no_slices decision asks domain number port none is).1).0 there)

pub waits_one : {T U B D : Type 0} (decision : B → Option BackpressureDecision) (asks : D → Bool)
    (domain : Domain T U B D) (number : ℕ) (port : PublisherPort T U)
    → first_reason decision asks domain ≡ None → port_of number domain.state.ports.publishers ≡ Some port
    → (index at : ℕ) (message : Message T U)
    → slice_get (connection_of index port).waiting at ≡ Some message
    → (value : T) × (message.values ≡ value ∷ [])
waits_one decision asks domain number port none is index at message there =
    one_value message (none_in is_slice (connection_of index port).waiting at message
    (none_waits port.sender.uses.connections index
    (neither (list_any is_slice port.sender.uses.history) (list_any slice_waits port.sender.uses.connections)
    (no_slices decision asks domain number port none is).1).1) there)

-- nothing of a publisher is out, and it has room for a value in each slot
pub rested : {T U B D : Type 0} (decision : B → Option BackpressureDecision) (asks : D → Bool)
    (domain : Domain T U B D) (number : ℕ) (port : PublisherPort T U)
    → first_reason decision asks domain ≡ None → port_of number domain.state.ports.publishers ≡ Some port → IsRested port.sender
rested {T} {U} decision asks domain number port none is =
    let ports : ServicePorts T U = domain.state.ports in
    let blocked = no_reason (is_blocked ports) _ _ none in
    let current = no_reason (not (is_up_to_date ports)) _ _ blocked.1 in
    let growing = no_reason (has_growing ports) _ _ current.1 in
    let handled = no_reason (has_handlers decision asks domain) _ _ growing.1 in
    let retrying = no_reason (is_retrying decision domain) _ _ handled.1 in
    let lingering = no_reason (is_lingering ports) _ _ retrying.1 in
    let sends = none_under (λ (entry : ℕ × PublisherPort T U). publishing.is_blocked entry.1) (is_at (nat_cmp number)) ports.publishers
    port blocked.0 is in
    let lingers = none_under (publisher_lingers ports.publisher_list) (is_at (nat_cmp number)) ports.publishers port
    (neither (list_any (publisher_lingers ports.publisher_list) ports.publishers)
    (list_any (subscriber_lingers ports.subscriber_list ports.publishers) ports.subscribers) lingering.0).0 is in
    let stands = neither (not port.stands) (not (is_listed_publisher ports.publisher_list lingers.0 port) || has_out port) lingers.1 in
    let listed = neither (not (is_listed_publisher ports.publisher_list lingers.0 port)) (has_out port) stands.1 in
    let out = neither (nat_lt 0 (length port.sender.uses.loans)) (list_any connection_lingers port.sender.uses.connections) listed.1 in
    record {
      quiet = record {
        idle = nothing port.sender.uses.sending sends.1;
        unlent = empty port.sender.uses.loans out.0;
        room = omega (arith, (no_slices decision asks domain number port none is).0);
      };
      none = λ index. none_borrowed port.sender.uses.connections index out.1;
    }
