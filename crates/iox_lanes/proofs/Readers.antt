-- The subscribers of lanes that are built of a domain go over their connections as the domain's do.
use Rattle.std.proofs.Common.{arith, ℕ, zero, suc, ◌≡◌, ◌+◌, ◌*◌, ◌<◌, ◌≤◌, ◌||◌, Bool, true, false, not, nat_lt, List, [], ◌∷◌, length}
use Rattle.std.proofs.Common.{get_or, slice_get, slice_index, is_some, count_by, take, Option, None, Some, refl, sym, ap, ◌∙◌, subst}
use Rattle.std.proofs.Common.{inl, inr}
use Rattle.std.specs.List.{list_any}
use Rattle.std.proofs.lemmas.Bool.{eqb-true}
use Rattle.std.proofs.lemmas.Bool.Decides.{eqb_tells}
use Rattle.std.proofs.lemmas.List.{get_or_past}
use Rattle.std.proofs.lemmas.Nat.{row_fits}
use Rattle.std.proofs.lemmas.Option.{slice_get-get_or, slice_get_within}
use Rattle.iox_domain.specs.DomainValues.declared.backpressure.BackpressureDecision.{BackpressureDecision}
use Rattle.iox_domain.specs.Container.declared.container.Member.{Member}
use Rattle.iox_domain.specs.DomainPorts.Publishers.{port_of, port_stands, stands_in}
use Rattle.iox_domain.specs.DomainPorts.Subscribing.{attached_at}
use Rattle.iox_domain.specs.DomainPorts.declared.attached.Attached.{Attached}
use Rattle.iox_domain.specs.DomainPorts.declared.publisher_entry.PublisherEntry.{PublisherEntry}
use Rattle.iox_domain.specs.DomainPorts.declared.publisher_port.PublisherPort.{PublisherPort}
use Rattle.iox_domain.specs.DomainPorts.declared.subscriber_port.SubscriberPort.{SubscriberPort}
use Rattle.iox_domain.specs.Kept.{kept_under}
use Rattle.iox_domain.specs.Subscribers.{subscriber_of}
use Rattle.iox_domain.specs.declared.domain.Domain.{Domain}
use Rattle.iox_lanes_machine.specs.LanesBase.declared.calls.route.Route.{Route}
use Rattle.iox_lanes_machine.specs.LanesBase.declared.words.sizes.TableSizes.{TableSizes}
use Rattle.iox_lanes_machine.specs.LanesParties.Parties.{SubscriberLaneState}
use Rattle.iox_lanes_machine.specs.Findings.{swapped_of, with_found}
use Rattle.iox_lanes_machine.specs.Links.{LinkState}
use Rattle.iox_lanes_machine.specs.Made.{route_to, subscriber_at, table_sizes}
use Rattle.iox_lanes_machine.specs.TakenIn.{new_buffer, place_before, route_with}
use Rattle.iox_lanes_machine.specs.World.{World}
use Rattle.iox_lanes_machine.specs.declared.found.Found.{Found}
use Rattle.iox_lanes_machine.specs.declared.found.Found.TheVariants as found
use Rattle.iox_lanes_machine.proofs.Ends.{some_is}
use Rattle.iox_lanes_machine.proofs.Start.{listed_at, listed_is}
use Rattle.iox_lanes_machine.proofs.StartUses.{start_kept}
use Rattle.iox_lanes_opening.specs.Deciding.{would_fail}
use Rattle.iox_lanes_opening.specs.Lingering.{has_left_over, has_out, is_listed_publisher, is_listed_subscriber, leads_nowhere}
use Rattle.iox_lanes_opening.specs.Lingering.{publisher_lingers, subscriber_lingers}
use Rattle.iox_lanes_opening.specs.Listed.{is_member}
use Rattle.iox_lanes_opening.specs.Refusals.{first_reason}
use Rattle.iox_lanes.specs.Behind.{behind_findings, behind_finding}
use Rattle.iox_lanes.specs.Built.{AreBuilt}
use Rattle.iox_lanes.specs.Holding.{numbers_of, reader_if, FollowIf, IsRouteIf, Leads, ReaderHolds}
use Rattle.iox_lanes.specs.Laid.{first_slot, flat_listed, history_findings, link_findings}
use Rattle.iox_lanes.specs.Laid.{publisher_behind, sender_behind, slot_in, slots_in}
use Rattle.iox_lanes.specs.Ordered.{keys_behind, reader_behind, readers_behind, swap_behind}
use Rattle.iox_lanes.specs.Sized.{AreSized}
use Rattle.iox_lanes.specs.Spelling.{Spelling}
use Rattle.iox_lanes.specs.Tied.{tie_for}
use Rattle.iox_lanes.proofs.Booked.{some_at}
use Rattle.iox_lanes.proofs.Counting.{are_counted, leads_at}
use Rattle.iox_lanes.proofs.Each.{each_leaves, each_of, each_word, readers_leave, Each}
use Rattle.iox_lanes.proofs.Linked.{same_connection}
use Rattle.iox_lanes.proofs.Moving.{behind_by, behind_fits, set_other}
use Rattle.iox_lanes.proofs.Orders.{all_ordered, AreAll, IsOrdered}
use Rattle.iox_lanes.proofs.Placing.{so_far}
use Rattle.iox_lanes.proofs.Presence.{neither, not_no, readers_there}
use Rattle.iox_lanes.proofs.Sound.{attached_once}
use Rattle.iox_lanes.proofs.Tied.{lingers, none_at}
use Rattle.iox_lanes.proofs.Wording.{steady_on, taken_in, AreSteady}

-- a finding changes no order
abbrev LeavesOrder : Found → Type 0
LeavesOrder (found.Waiting publisher place slot) = Unit {0}
LeavesOrder (found.GivenBack publisher place slot) = Unit {0}
LeavesOrder (found.Newest publisher slot) = Unit {0}
LeavesOrder (found.Held slot word value) = Unit {0}
LeavesOrder (found.Buffer publisher place messages) = Unit {0}
LeavesOrder (found.Slots publisher slots most_loans) = Unit {0}
LeavesOrder (found.Sender publisher node_id publisher_id fails last) = Unit {0}
LeavesOrder (found.Swapped subscriber one other) = ⊥

before_is : (f : Found) (who at : ℕ) → LeavesOrder f → place_before f who at ≡ at
before_is (found.Waiting publisher place slot) who at leaves = refl
before_is (found.GivenBack publisher place slot) who at leaves = refl
before_is (found.Newest publisher slot) who at leaves = refl
before_is (found.Held slot word value) who at leaves = refl
before_is (found.Buffer publisher place messages) who at leaves = refl
before_is (found.Slots publisher slots most_loans) who at leaves = refl
before_is (found.Sender publisher node_id publisher_id fails last) who at leaves = refl
before_is (found.Swapped subscriber one other) who at leaves = absurd leaves

some_index : {V : Type 0} (number_of : V → ℕ) (places : List (Option (Member V))) (place : ℕ) (member : Member V)
    → get_or places place None ≡ Some member → (at : ℕ) × (slice_get (numbers_of number_of places) at ≡ Some (number_of member.value))
some_index number_of [] place member is = absurd (cc is)
some_index number_of (None ∷ rest) zero member is = absurd (cc is)
some_index number_of (Some own ∷ rest) zero member is = (zero, ap (λ (m : Member _). Some (number_of m.value)) (some_is own member is))
some_index number_of (None ∷ rest) (suc place) member is = some_index number_of rest place member is
some_index number_of (Some own ∷ rest) (suc place) member is =
    let later = some_index number_of rest place member is in
    (suc later.0, later.1)

none_got : {X : Type 0} (test : Option X → Bool) (xs : List (Option X)) (at : ℕ) (x : X) → list_any test xs ≡ false
    → get_or xs at None ≡ Some x → test (Some x) ≡ false
none_got test [] at x none is = absurd (cc is)
none_got test (y ∷ ys) zero x none is = ap test (sym is) ∙ (neither (test y) (list_any test ys) none).0
none_got test (y ∷ ys) (suc at) x none is = none_got test ys at x (neither (test y) (list_any test ys) none).1 is

module _ {T U B D : Type 0} (decision : B → Option BackpressureDecision) (asks : D → Bool) (spelling : Spelling T U)
    (domain : Domain T U B D) (publishers subscribers : List ℕ) (lanes : World)
    (built : AreBuilt decision spelling domain publishers subscribers lanes)
    (sized : AreSized domain.state.ports.sizes (length publishers) (length subscribers) spelling.payload_count spelling.middle_count lanes)
    (none : first_reason decision asks domain ≡ None)
    (numbered : publishers ≡ numbers_of (λ entry. entry.publisher) domain.state.ports.publisher_list.places)
    (read : subscribers ≡ numbers_of (λ entry. entry.subscriber) domain.state.ports.subscriber_list.places)
    (who : ℕ) (below : who < length subscribers) where
  abbrev table : TableSizes
  table = table_sizes (built.sized).sizes

  abbrev readers : ℕ
  readers = length subscribers

  abbrev ports : List (ℕ × PublisherPort T U)
  ports = domain.state.ports.publishers

  abbrev tie : PublisherPort T U → ℕ → ℕ
  tie own other = tie_for own (subscriber_of (slice_index subscribers other) domain.state.ports.subscribers)

  linked : (place : ℕ) → place < length publishers → (link : LinkState) × (slice_get lanes.links (place * readers + who) ≡ Some link)
      × (link.publisher ≡ place) × (link.subscriber ≡ who)
  linked place within =
      let count = (are_counted _ _ _ _ _ _ sized).link_count in
      let row = row_fits place readers (length publishers) readers within (omega arith) in
      let link = some_at lanes.links (place * readers + who) (omega (arith, count, row, below)) in
      let leads = subst (Leads domain.state.ports.sizes.enable_safe_overflow place who) link.1 (leads_at _ _ _ _ _ _ sized place who
      below) in
      (link.0, link.1, leads.0, leads.1)

  -- the subscriber has a connection from each publisher
  record HasRoutes (m : World) : Type 0 where
    pub steady : AreSteady table m
    pub lane : SubscriberLaneState
    pub there : slice_get m.subscribers who ≡ Some lane
    pub all : AreAll table publishers readers who lanes linked lane.port.routes

  routes_on : (m : World) (f : Found) → LeavesOrder f → HasRoutes m → HasRoutes (behind_finding m f)
  routes_on m f leaves has = behind_by HasRoutes m f has (λ fits.
      let taken = taken_in m f fits (has.steady).kept in
      let now = some_at (with_found m f).subscribers who
      (omega (arith, taken.as_many_receive, slice_get_within m.subscribers who has.lane has.there)) in
      let knows = (taken.subscribers who has.lane now.0 has.there now.1).routes in
      record {
        steady = subst (AreSteady table) (behind_fits m f fits) (steady_on table m f has.steady);
        lane = now.0;
        there = now.1;
        all = record {
          only = λ at route is.
              let was = some_at (has.lane).port.routes at
              (omega (arith, knows.as_many, slice_get_within (now.0).port.routes at route is)) in
              let now_is = knows.each at was.0 (ap (slice_get (has.lane).port.routes) (before_is f who at leaves) ∙ was.1) in
              let same = some_is route (route_with (new_buffer m f (was.0).connection) was.0) (sym is ∙ now_is) in
              let own = (has.all).only at was.0 was.1 in (
                own.0,
                own.1,
                ap (λ (r : Route). r.connection) same
                    ∙ same_connection (new_buffer m f (was.0).connection) was.0 ∙ own.2,
              );
          has = λ place within.
              let own = (has.all).has place within in (
                own.0,
                route_with (new_buffer m f (own.1).connection) own.1,
                knows.each own.0 own.1 (ap (slice_get (has.lane).port.routes) (before_is f who own.0 leaves) ∙ own.2),
                same_connection (new_buffer m f (own.1).connection) own.1 ∙ own.3,
              );
        };
      })

  list_routes : (fs : List Found) (m : World) → Each LeavesOrder fs → HasRoutes m → HasRoutes (behind_findings m fs)
  list_routes fs m leave has = each_leaves LeavesOrder HasRoutes routes_on fs m leave has

  lay_one : (m : World) (place : ℕ) (fails : Bool) (own : Option (PublisherPort T U)) → HasRoutes m
      → HasRoutes (publisher_behind spelling domain.state.ports.subscribers subscribers m place fails own)
  lay_one m place fails None has = has
  lay_one m place fails (Some own) has =
      list_routes (flat_listed (λ other. link_findings spelling place other first own (tie own other)) (length subscribers))
      (behind_findings begun (history_findings spelling place first own own.sender.uses.history)) leave.1
      (list_routes (history_findings spelling place first own own.sender.uses.history) begun leave.0
      (routes_on (behind_finding m (found.Slots place (slots_in own) own.sender.uses.most_loans))
      (found.Sender place own.owner.node_id own.number fails own.last_sequence) tt
      (routes_on m (found.Slots place (slots_in own) own.sender.uses.most_loans) tt has)))
    where
      begun : World
      begun = sender_behind m place fails own

      first : ℕ
      first = first_slot (slice_get begun.publishers place)

      leave : Each LeavesOrder (history_findings spelling place first own own.sender.uses.history)
          × Each LeavesOrder (flat_listed
          (λ other. link_findings spelling place other first own (tie own other)) (length subscribers))
      leave = each_of spelling LeavesOrder place first own (tie own) (length subscribers)
          (λ k message is. each_word spelling LeavesOrder (slot_in first message.slot)
          own.owner.node_id own.number message.elements (message.sequence, message.user_header) message.values tt tt tt
          (λ word within. tt) (λ word within value there. tt))
          (λ reader within k message is. each_word spelling LeavesOrder
          (slot_in first message.slot) own.owner.node_id own.number message.elements (message.sequence, message.user_header)
          message.values tt tt tt
          (λ word within. tt) (λ word within value there. tt))
          (λ slot. tt) (λ reader slot. tt) (λ reader messages. tt)

  lay_all : (reached : ℕ)
      → HasRoutes (so_far decision spelling domain publishers subscribers lanes built reached)
  lay_all zero = record {
    steady = record {
      moments = refl;
      table = refl;
      kept = start_kept (built.sized).sizes ((built.sized).found).some ((built.sized).found).ports ((built.sized).found).small;
    };
    lane = subscriber_at (built.sized).sizes who;
    there = listed_at (subscriber_at (built.sized).sizes) ((built.sized).sizes).subscribers who
        (omega (arith, below, ((built.sized).are_agreed).as_many_subscribers));
    all = record {
      only = λ at route is.
          let own = listed_is (λ place. route_to (built.sized).sizes (place * ((built.sized).sizes).subscribers + who))
          ((built.sized).sizes).publishers at route
          is in (
            at,
            omega (arith, own.0, ((built.sized).are_agreed).as_many_publishers),
            ap (λ (r : Route). r.connection) own.1
                ∙ ap (λ n. at * n + who) ((built.sized).are_agreed).as_many_subscribers,
          );
      has = λ place within. (
        place,
        route_to (built.sized).sizes (place * ((built.sized).sizes).subscribers + who),
        listed_at (λ at. route_to (built.sized).sizes (at * ((built.sized).sizes).subscribers + who)) ((built.sized).sizes).publishers place
            (omega (arith, within, ((built.sized).are_agreed).as_many_publishers)),
        ap (λ n. place * n + who) ((built.sized).are_agreed).as_many_subscribers,
      );
    };
  }
  lay_all (suc reached) = lay_one (so_far decision spelling domain publishers subscribers lanes built
      reached) reached (would_fail decision (kept_under (slice_index publishers reached) domain.state.publisher_handlers))
      (port_of (slice_index publishers reached) ports) (lay_all reached)

  module _ (port : SubscriberPort) (number : ℕ) (listed : slice_get subscribers who ≡ Some number)
      (found_port : subscriber_of number domain.state.ports.subscribers ≡ Some port) where
    -- each connection comes from a listed publisher
    comes : (key : ℕ) (attached : Attached) → attached_at key port ≡ Some attached
        → (place : ℕ) × (slice_get publishers place ≡ Some attached.publisher)
    comes key attached is =
        let left = neither (list_any (publisher_lingers domain.state.ports.publisher_list) ports)
        (list_any (subscriber_lingers domain.state.ports.subscriber_list ports) domain.state.ports.subscribers) (lingers decision asks
        domain none) in
        let apart = none_at (subscriber_lingers domain.state.ports.subscriber_list ports) number domain.state.ports.subscribers port left.1
        found_port in
        let stays = neither (not port.stands)
        (not (is_listed_subscriber domain.state.ports.subscriber_list number port) || has_left_over ports port) apart in
        let over = neither (not (is_listed_subscriber domain.state.ports.subscriber_list number port)) (has_left_over ports port) stays.1 in
        let nowhere = neither _ _ (neither _ _ over.1).1 in
        let stands = not_no (stands_in attached.publisher ports)
        (none_got (leads_nowhere ports) port.connections.values key attached nowhere.1 is) in
        by (port_of attached.publisher ports) refl stands left.0
      where
        by : (own : Option (PublisherPort T U)) → port_of attached.publisher ports ≡ own → stands_in attached.publisher ports ≡ true
            → list_any (publisher_lingers domain.state.ports.publisher_list) ports ≡ false
            → (place : ℕ) × (slice_get publishers place ≡ Some attached.publisher)
        by None there stands left = absurd (cc (sym stands ∙ ap port_stands there))
        by (Some own) there stands left =
            let apart = none_at (publisher_lingers domain.state.ports.publisher_list) attached.publisher ports own left there in
            let stays = neither (not own.stands)
            (not (is_listed_publisher domain.state.ports.publisher_list attached.publisher own) || has_out own) apart in
            let is_listed = not_no (is_listed_publisher domain.state.ports.publisher_list attached.publisher own)
            (neither (not (is_listed_publisher domain.state.ports.publisher_list attached.publisher own)) (has_out own) stays.1).0 in
            member (get_or domain.state.ports.publisher_list.places own.place None) refl is_listed
          where
            member : (at : Option (Member PublisherEntry)) → get_or domain.state.ports.publisher_list.places own.place None ≡ at
                → is_member (λ entry. entry.publisher) attached.publisher at ≡ true
                → (place : ℕ) × (slice_get publishers place ≡ Some attached.publisher)
            member None at is_one = absurd (cc is_one)
            member (Some one) at is_one =
                let index = some_index (λ entry. entry.publisher) domain.state.ports.publisher_list.places own.place one at in (
                  index.0,
                  ap (λ ns. slice_get ns index.0) numbered ∙ index.1
                      ∙ ap Some (eqb-true one.value.publisher attached.publisher is_one),
                )

    abbrev Ordered : ℕ → World → Type 0
    Ordered reached m = IsOrdered table publishers readers who lanes linked port (attached_once decision asks domain none number port
        found_port) comes
        reached m

    ordered_other : (m : World) (other one two reached : ℕ) → (other ≡ who → ⊥) → Ordered reached m
        → Ordered reached (behind_finding m (found.Swapped other one two))
    ordered_other m other one two reached apart ordered = behind_by (Ordered reached) m (found.Swapped other one two) ordered (λ fits.
        record {
          steady = subst (AreSteady table) (behind_fits m (found.Swapped other one two) fits)
              (steady_on table m (found.Swapped other one two) ordered.steady);
          links = swap_links m other one two (slice_get m.subscribers other) ∙ ordered.links;
          lane = ordered.lane;
          there = swap_there m other one two (slice_get m.subscribers other) apart ∙ ordered.there;
          all = ordered.all;
          follows = ordered.follows;
        })
      where
        swap_links : (m : World) (other one two : ℕ) (lane : Option SubscriberLaneState)
            → (swapped_of m other one two lane).links ≡ m.links
        swap_links m other one two None = refl
        swap_links m other one two (Some lane) = refl

        swap_there : (m : World) (other one two : ℕ) (lane : Option SubscriberLaneState) → (other ≡ who → ⊥)
            → slice_get (swapped_of m other one two lane).subscribers who ≡ slice_get m.subscribers who
        swap_there m other one two None apart = refl
        swap_there m other one two (Some lane) apart = set_other m.subscribers other who _ apart

    keys_other : (other : ℕ) (values : List (Option Attached)) (m : World) (reached limit : ℕ) → (other ≡ who → ⊥) → Ordered reached m
        → Ordered reached (keys_behind publishers other values m limit)
    keys_other other values m reached zero apart ordered = ordered
    keys_other other values m reached (suc limit) apart ordered =
        by (get_or values limit None) (keys_other other values m reached limit apart ordered)
      where
        by : (at : Option Attached) → Ordered reached (keys_behind publishers other values m limit)
            → Ordered reached (swap_behind publishers other (count_by is_some (take limit values))
            (keys_behind publishers other values m limit) at)
        by None ordered = ordered
        by (Some attached) ordered =
            ordered_other (keys_behind publishers other values m limit) other (count_by is_some (take limit values)) _ reached apart ordered

    reader_other : (other : ℕ) (m : World) (reached : ℕ) (at : Option SubscriberPort) → (other ≡ who → ⊥) → Ordered reached m
        → Ordered reached (reader_behind publishers other m at)
    reader_other other m reached None apart ordered = ordered
    reader_other other m reached (Some own) apart ordered =
        keys_other other own.connections.values m reached (length own.connections.values) apart ordered

    record IsOrderedTo (m : World) (count : ℕ) : Type 0 where
      pub fresh : count ≤ who → Ordered 0 m
      pub done : who < count → Ordered (length port.connections.values) m

    order_all : (m : World) (count : ℕ) → Ordered 0 m
        → IsOrderedTo (readers_behind publishers domain.state.ports.subscribers subscribers m count) count
    order_all m zero ordered = record { fresh = λ few. ordered; done = λ less. absurd (omega (arith, less)) }
    order_all m (suc count) ordered =
        let sofar = order_all m count ordered in
        let there = readers_behind publishers domain.state.ports.subscribers subscribers m count in
        record {
          fresh = λ few. reader_other count there 0 (reader_if domain.state.ports.subscribers (slice_get subscribers count))
              (λ same. absurd (omega (arith, few, same))) (sofar.fresh (omega (arith, few)));
          done = λ less. elim (eqb_tells count who) [
            | inl same ↦
                let own : reader_if domain.state.ports.subscribers (slice_get subscribers count) ≡ Some port =
                ap (λ n. reader_if domain.state.ports.subscribers (slice_get subscribers n)) same.1
                ∙ ap (reader_if domain.state.ports.subscribers) listed ∙ found_port in
                subst (λ p. Ordered (length port.connections.values) (reader_behind publishers count there p)) (sym own)
                (subst (λ n. Ordered (length port.connections.values) (keys_behind publishers n port.connections.values there
                (length port.connections.values))) (sym same.1)
                (all_ordered table publishers readers who lanes linked port (attached_once decision asks domain none number port
                found_port) comes there
                (length port.connections.values) (omega arith) (sofar.fresh (omega (arith, same.1)))))
            | inr apart ↦ reader_other count there (length port.connections.values)
                (reader_if domain.state.ports.subscribers (slice_get subscribers count)) apart.1 (sofar.done (omega (arith, less, apart.1)))
          ];
        }

    abbrev base : World
    base = so_far decision spelling domain publishers subscribers lanes built (length publishers)

    same_links : lanes.links ≡ base.links
    same_links = ap (λ (w : World). w.links) built.behind
        ∙ readers_leave (λ w. w.links ≡ base.links)
        (λ m other one two is. behind_by (λ w. w.links ≡ base.links) m (found.Swapped other one two) is
        (λ fits. links_of m other one two (slice_get m.subscribers other) ∙ is))
        publishers domain.state.ports.subscribers subscribers base (length subscribers) refl
      where
        links_of : (m : World) (other one two : ℕ) (lane : Option SubscriberLaneState) → (swapped_of m other one two lane).links ≡ m.links
        links_of m other one two None = refl
        links_of m other one two (Some lane) = refl

    ends_ordered : Ordered (length port.connections.values) lanes
    ends_ordered =
        let has = lay_all (length publishers) in
        subst (Ordered (length port.connections.values)) (sym built.behind)
        ((order_all base (length subscribers) (record {
          steady = has.steady;
          links = sym same_links;
          lane = has.lane;
          there = has.there;
          all = has.all;
          follows = λ key less. absurd (omega (arith, less));
        })).done below)

    follows_all : FollowIf lanes publishers who (Some port) (slice_get lanes.subscribers who)
    follows_all = subst (FollowIf lanes publishers who (Some port)) (sym ends_ordered.there)
        (λ key. by key (nat_lt key (length port.connections.values)) refl)
      where
        by : (key : ℕ) (less : Bool) → nat_lt key (length port.connections.values) ≡ less
            → IsRouteIf lanes publishers who (attached_at key port)
            (slice_get (ends_ordered.lane).port.routes (count_by is_some (take key port.connections.values)))
        by key true less = ends_ordered.follows key (grind (arith, less))
        by key false less = subst (λ a. IsRouteIf lanes publishers who a
            (slice_get (ends_ordered.lane).port.routes (count_by is_some (take key port.connections.values))))
            (sym (get_or_past port.connections.values key None (grind (arith, less)))) tt

  follows_by : (number : ℕ) (port : Option SubscriberPort) → slice_get subscribers who ≡ Some number
      → subscriber_of number domain.state.ports.subscribers ≡ port → is_some port ≡ true
      → FollowIf lanes publishers who port (slice_get lanes.subscribers who)
  follows_by number None listed found some = absurd (cc some)
  follows_by number (Some port) listed found some = follows_all port number listed found

  -- a subscriber of the lanes goes over its connections as the domain's does
  pub reader_holds : ReaderHolds domain lanes publishers subscribers who
  reader_holds =
      let listed = slice_get-get_or subscribers who 0 below in
      let number = get_or subscribers who 0 in
      subst (λ at. FollowIf lanes publishers who (reader_if domain.state.ports.subscribers at) (slice_get lanes.subscribers who))
      (sym listed) (follows_by number (subscriber_of number domain.state.ports.subscribers) listed refl
      (readers_there decision asks domain subscribers none read who number listed))
