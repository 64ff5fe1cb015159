-- Every step keeps ports, connections and words to those of one service.
use Rattle.std.proofs.Common.{ℕ, ◌≡◌, zero, suc, Bool, true, false, ◌==◌, if◌then◌else◌, List, [], ◌∷◌, ◌++◌, length, set, slice_get}
use Rattle.std.proofs.Common.{Option, Some, None, refl, sym, ◌∙◌, ap, subst, inl, inr}
use Rattle.std.specs.List.{All}
use Rattle.std.proofs.lemmas.Bool.Decides.{eqb_tells}
use Rattle.std.proofs.lemmas.List.{length-set}
use Rattle.std.proofs.lemmas.List.Elements.{All-set}
use Rattle.iox_lanes_machine.specs.QueuesSteps.Order.{at}
use Rattle.iox_lanes_machine.specs.QueuesSteps.declared.order.Act.{Act}
use Rattle.iox_lanes_machine.specs.QueuesSteps.declared.order.Placed.{Placed}
use Rattle.iox_lanes_machine.specs.LanesBase.Numbers.{number_of, words_of}
use Rattle.iox_lanes_machine.specs.LanesBase.Table.{TableWords, held_by, stored_in, after_shared}
use Rattle.iox_lanes_machine.specs.LanesBase.declared.words.sizes.TableSizes.{TableSizes}
use Rattle.iox_lanes_machine.specs.LanesBase.declared.words.access.SharedAccess.{SharedAccess}
use Rattle.iox_lanes_machine.specs.LanesBase.declared.words.access.SharedAccess.TheVariants.{Load, Store, Exchange, Local}
use Rattle.iox_lanes_machine.specs.LanesBase.Publishing.{publisher_next}
use Rattle.iox_lanes_machine.specs.LanesBase.Subscribing.{subscriber_next, subscriber_change, subscriber_is_over}
use Rattle.iox_lanes_machine.specs.LanesBase.declared.calls.route.Route.{Route}
use Rattle.iox_lanes_machine.specs.LanesBase.declared.calls.subscriber.SubscriberCall.{SubscriberCall}
use Rattle.iox_lanes_machine.specs.LanesBase.declared.calls.subscriber.SubscriberCall.TheVariants as subscribing
use Rattle.iox_lanes_machine.specs.LanesBase.declared.calls.subscriber.SubscriberChange.{SubscriberChange}
use Rattle.iox_lanes_machine.specs.LanesBase.declared.calls.subscriber.SubscriberChange.TheVariants as change
use Rattle.iox_lanes_machine.specs.LanesParties.Keeping.{SubscriberState, changed}
use Rattle.iox_lanes_machine.specs.LanesParties.Parties.{PublisherLaneState, SubscriberLaneState, publisher_begun, publisher_after}
use Rattle.iox_lanes_machine.specs.LanesParties.Parties.{subscriber_begun, subscriber_after, release_begun, place_of, route_at}
use Rattle.iox_lanes_machine.specs.LanesParties.Parties.{words_read}
use Rattle.iox_lanes_machine.specs.LanesParties.Within.{IsPublisher, IsSubscriber}
use Rattle.iox_lanes_machine.specs.LanesParties.declared.call.Call.{Call}
use Rattle.iox_lanes_machine.specs.LanesParties.declared.call.Call.TheVariants as call
use Rattle.iox_lanes_machine.specs.LanesParties.declared.call.Move.{Move}
use Rattle.iox_lanes_machine.specs.LanesParties.declared.call.Move.TheVariants.{Begin, GoOn}
use Rattle.iox_lanes_machine.specs.LanesParties.declared.call.Party.{Party}
use Rattle.iox_lanes_machine.specs.LanesParties.declared.call.Party.TheVariants.{Publisher, Subscriber}
use Rattle.iox_lanes_machine.proofs.LanesParties.Rings.{all_at}
use Rattle.iox_lanes_machine.proofs.LanesParties.PublishersWithin.{publishers_stay_within}
use Rattle.iox_lanes_machine.proofs.LanesParties.SubscribersWithin.{subscribers_stay_within}
use Rattle.iox_lanes_machine.specs.World.{World, added, added_to, placed, fits, party_ends, happens, publisher_begins, publisher_goes_on}
use Rattle.iox_lanes_machine.specs.World.{subscriber_begins, subscriber_goes_on, publisher_given, subscriber_given, publisher_fits_at}
use Rattle.iox_lanes_machine.specs.World.{subscriber_fits_at, subscriber_ends_at, words_ending, words_ending_at}
use Rattle.iox_lanes_machine.specs.Kept.{IsLink, IsLinkOf, sender, receiver, IsWithin}
use Rattle.iox_lanes_machine.specs.Links.{LinkState}

pub set_other : {X : Type 0} (xs : List X) (i j : ℕ) (x : X) → (j ≡ i → ⊥) → slice_get (set xs i x) j ≡ slice_get xs j
set_other [] i j x h = refl
set_other (y ∷ ys) zero zero x h = absurd (h refl)
set_other (y ∷ ys) zero (suc j) x h = refl
set_other (y ∷ ys) (suc i) zero x h = refl
set_other (y ∷ ys) (suc i) (suc j) x h = set_other ys i j x (λ e. h (ap (λ (n : ℕ). suc n) e))

pub set_same : {X : Type 0} (xs : List X) (i : ℕ) (x y : X) → slice_get xs i ≡ Some y → slice_get (set xs i x) i ≡ Some x
set_same [] i x y h = absurd (cc)
set_same (z ∷ zs) zero x y h = refl
set_same (z ∷ zs) (suc i) x y h = set_same zs i x y h

pub added_length : (orders : List (List Placed)) (connection : Option ℕ) (moment : ℕ) (acts : List Act)
    → length (added orders connection moment acts) ≡ length orders
added_length orders None moment acts = refl
added_length orders (Some connection) moment acts = by_order (slice_get orders connection)
  where
    by_order : (order : Option (List Placed)) → length (added_to orders connection moment acts order) ≡ length orders
    by_order None = refl
    by_order (Some order) = length-set orders connection (order ++ at moment acts)

-- the order that grows is another's
pub placed_within : (m : World) (party : Party) → IsWithin m → IsWithin (placed m party)
placed_within m party k = record {
  publishers = k.publishers;
  subscribers = k.subscribers;
  senders = k.senders;
  receivers = k.receivers;
  links = k.links;
  orders = added_length m.orders _ m.moments _ ∙ k.orders;
  words = k.words;
}

-- a step that ends no call ends no read
no_words_read : (c : SubscriberCall) (words : List ℕ) → subscriber_is_over c ≡ false → words_read c words ≡ []
no_words_read subscribing.Idle words h = refl
no_words_read (subscribing.Receiving place route pop waits) words h = refl
no_words_read (subscribing.Received receipt) words h = refl
no_words_read (subscribing.Reading slot word extent) words h = refl
no_words_read (subscribing.WasRead slot) words h = absurd (cc)
no_words_read (subscribing.Releasing place route push) words h = refl
no_words_read (subscribing.Released done) words h = refl

no_words_at : (at : Option SubscriberLaneState) → subscriber_ends_at at ≡ false → words_ending_at at ≡ []
no_words_at None h = refl
no_words_at (Some lane) h = no_words_read lane.port.call lane.port.words h

pub no_words : (m : World) (party : Party) → party_ends m party ≡ false → words_ending m party ≡ []
no_words m (Publisher place) h = refl
no_words m (Subscriber place) h = no_words_at (slice_get m.subscribers place) h

-- an access keeps the sizes of the table
pub sizes_stay : (table : TableWords) (access : SharedAccess) → ((after_shared table access).sizes ≡ table.sizes)
    × (length (after_shared table access).words ≡ length table.words)
sizes_stay table (Load word) = (refl, refl)
sizes_stay table (Store word value) = (refl, length-set table.words (number_of table.sizes word) value)
sizes_stay table (Exchange word old new) = by_test (held_by table word == old)
  where
    by_test : (won : Bool) → ((if won then stored_in table word new else table).sizes ≡ table.sizes)
        × (length (if won then stored_in table word new else table).words ≡ length table.words)
    by_test true = (refl, length-set table.words (number_of table.sizes word) new)
    by_test false = (refl, refl)
sizes_stay table Local = (refl, refl)

-- the connections of ports stay
pub publisher_routes : (moment : ℕ) (c : Call) (lane : PublisherLaneState) → (publisher_begun moment c lane).port.routes ≡ lane.port.routes
publisher_routes moment call.LoanUninit lane = refl
publisher_routes moment (call.Write loan payload user_header) lane = refl
publisher_routes moment (call.Send loan) lane = refl
publisher_routes moment (call.DropLoan loan) lane = refl
publisher_routes moment call.Receive lane = refl
publisher_routes moment (call.Read sample) lane = refl
publisher_routes moment (call.Release sample) lane = refl

released_routes : (moment sample : ℕ) (place : Option ℕ) (route : Option Route) (lane : SubscriberLaneState)
    → (release_begun moment sample place route lane).port.routes ≡ lane.port.routes
released_routes moment sample None route lane = refl
released_routes moment sample (Some place) None lane = refl
released_routes moment sample (Some place) (Some route) lane = refl

pub subscriber_routes : (moment : ℕ) (c : Call) (lane : SubscriberLaneState)
    → (subscriber_begun moment c lane).port.routes ≡ lane.port.routes
subscriber_routes moment call.LoanUninit lane = refl
subscriber_routes moment (call.Write loan payload user_header) lane = refl
subscriber_routes moment (call.Send loan) lane = refl
subscriber_routes moment (call.DropLoan loan) lane = refl
subscriber_routes moment call.Receive lane = refl
subscriber_routes moment (call.Read sample) lane = refl
subscriber_routes moment (call.Release sample) lane
    = released_routes moment sample (place_of sample lane) (route_at (place_of sample lane) lane) lane

pub changed_routes : (c : SubscriberChange) (state : SubscriberState) → ((changed c state).routes ≡ state.routes)
    × ((changed c state).call ≡ state.call)
changed_routes change.Nothing state = (refl, refl)
changed_routes (change.Borrow place slot) state = (refl, refl)
changed_routes (change.Note word value) state = (refl, refl)
changed_routes (change.GiveBack place slot) state = (refl, refl)

-- what holds of the routes of each port holds after one changed and kept its routes
pub at_each : {X : Type 0} (routes : X → List Route) (P : ℕ → List Route → Type 0) (xs : List X) (place : ℕ) (x y : X)
    → slice_get xs place ≡ Some x → routes y ≡ routes x
    → ((i : ℕ) (z : X) → slice_get xs i ≡ Some z → P i (routes z)) → (i : ℕ) (z : X) → slice_get (set xs place y) i ≡ Some z
    → P i (routes z)
at_each {X} routes P xs place x y found same all i z e =
    elim (eqb_tells i place) [
      | inl here ↦ subst (λ (j : ℕ). P j (routes z)) (sym here.1)
          (subst (P place) (sym (ap routes (some_is
          (sym e ∙ subst (λ (j : ℕ). slice_get (set xs place y) j ≡ Some y) (sym here.1) (set_same xs place y x found))) ∙ same))
          (all place x found))
      | inr there ↦ all i z (sym (set_other xs place i y there.1) ∙ e)
    ]
  where
    some_is : {z w : X} → Some z ≡ Some w → z ≡ w
    some_is h = cc h

-- a step of a publisher, at which it stays within the service and keeps its connections
pub publisher_within : (m n : World) (place : ℕ) (lane after : PublisherLaneState) → slice_get m.publishers place ≡ Some lane
    → IsPublisher m.table.sizes after → after.port.routes ≡ lane.port.routes
    → n.publishers ≡ set m.publishers place after → n.subscribers ≡ m.subscribers → n.links ≡ m.links → length n.orders ≡ length m.orders
    → n.table.sizes ≡ m.table.sizes → length n.table.words ≡ length m.table.words → IsWithin m → IsWithin n
publisher_within m n place lane after found is routes p s l o t w k = record {
  publishers = subst (λ (sizes : TableSizes). All (IsPublisher sizes) n.publishers) (sym t)
      (subst (All (IsPublisher m.table.sizes)) (sym p) (All-set (IsPublisher m.table.sizes) m.publishers place after is k.publishers));
  subscribers = subst (λ (sizes : TableSizes). All (IsSubscriber sizes) n.subscribers) (sym t)
      (subst (All (IsSubscriber m.table.sizes)) (sym s) k.subscribers);
  senders = subst (λ (links : List LinkState). (i : ℕ) (z : PublisherLaneState) → slice_get n.publishers i ≡ Some z
      → All (IsLinkOf links sender i) z.port.routes) (sym l)
      (subst (λ (xs : List PublisherLaneState). (i : ℕ) (z : PublisherLaneState) → slice_get xs i ≡ Some z
      → All (IsLinkOf m.links sender i) z.port.routes) (sym p)
      (at_each (λ (z : PublisherLaneState). z.port.routes) (λ i rs. All (IsLinkOf m.links sender i) rs) m.publishers place lane after
      found routes k.senders));
  receivers = subst (λ (links : List LinkState). (i : ℕ) (z : SubscriberLaneState) → slice_get n.subscribers i ≡ Some z
      → All (IsLinkOf links receiver i) z.port.routes) (sym l)
      (subst (λ (xs : List SubscriberLaneState). (i : ℕ) (z : SubscriberLaneState) → slice_get xs i ≡ Some z
      → All (IsLinkOf m.links receiver i) z.port.routes) (sym s) k.receivers);
  links = subst (λ (sizes : TableSizes). (c : ℕ) (link : LinkState) → slice_get n.links c ≡ Some link → IsLink sizes c link) (sym t)
      (subst (λ (links : List LinkState). (c : ℕ) (link : LinkState) → slice_get links c ≡ Some link → IsLink m.table.sizes c link)
      (sym l) k.links);
  orders = o ∙ k.orders ∙ ap (λ (links : List LinkState). length links) (sym l);
  words = w ∙ k.words ∙ ap words_of (sym t);
}

subscriber_within : (m n : World) (place : ℕ) (lane after : SubscriberLaneState) → slice_get m.subscribers place ≡ Some lane
    → IsSubscriber m.table.sizes after → after.port.routes ≡ lane.port.routes
    → n.subscribers ≡ set m.subscribers place after → n.publishers ≡ m.publishers → n.links ≡ m.links → length n.orders ≡ length m.orders
    → n.table.sizes ≡ m.table.sizes → length n.table.words ≡ length m.table.words → IsWithin m → IsWithin n
subscriber_within m n place lane after found is routes p s l o t w k = record {
  publishers = subst (λ (sizes : TableSizes). All (IsPublisher sizes) n.publishers) (sym t)
      (subst (All (IsPublisher m.table.sizes)) (sym s) k.publishers);
  subscribers = subst (λ (sizes : TableSizes). All (IsSubscriber sizes) n.subscribers) (sym t)
      (subst (All (IsSubscriber m.table.sizes)) (sym p) (All-set (IsSubscriber m.table.sizes) m.subscribers place after is k.subscribers));
  senders = subst (λ (links : List LinkState). (i : ℕ) (z : PublisherLaneState) → slice_get n.publishers i ≡ Some z
      → All (IsLinkOf links sender i) z.port.routes) (sym l)
      (subst (λ (xs : List PublisherLaneState). (i : ℕ) (z : PublisherLaneState) → slice_get xs i ≡ Some z
      → All (IsLinkOf m.links sender i) z.port.routes) (sym s) k.senders);
  receivers = subst (λ (links : List LinkState). (i : ℕ) (z : SubscriberLaneState) → slice_get n.subscribers i ≡ Some z
      → All (IsLinkOf links receiver i) z.port.routes) (sym l)
      (subst (λ (xs : List SubscriberLaneState). (i : ℕ) (z : SubscriberLaneState) → slice_get xs i ≡ Some z
      → All (IsLinkOf m.links receiver i) z.port.routes) (sym p)
      (at_each (λ (z : SubscriberLaneState). z.port.routes) (λ i rs. All (IsLinkOf m.links receiver i) rs) m.subscribers place lane
      after found routes k.receivers));
  links = subst (λ (sizes : TableSizes). (c : ℕ) (link : LinkState) → slice_get n.links c ≡ Some link → IsLink sizes c link) (sym t)
      (subst (λ (links : List LinkState). (c : ℕ) (link : LinkState) → slice_get links c ≡ Some link → IsLink m.table.sizes c link)
      (sym l) k.links);
  orders = o ∙ k.orders ∙ ap (λ (links : List LinkState). length links) (sym l);
  words = w ∙ k.words ∙ ap words_of (sym t);
}

begun_publisher : (m : World) (place : ℕ) (c : Call) (at : Option PublisherLaneState) → slice_get m.publishers place ≡ at
    → publisher_fits_at at (Begin c) ≡ true → IsWithin m
    → IsWithin (publisher_begins m place c at)
begun_publisher m place c None e fit k = k
begun_publisher m place c (Some lane) e fit k =
    let own : IsPublisher m.table.sizes lane = all_at (IsPublisher m.table.sizes) m.publishers place lane e k.publishers in
    publisher_within m (publisher_begins m place c (Some lane)) place lane (publisher_begun m.moments c lane) e
    ((publishers_stay_within m.table.sizes lane own).0 m.moments c fit) (publisher_routes m.moments c lane) refl refl refl refl refl
    refl k

begun_subscriber : (m : World) (place : ℕ) (c : Call) (at : Option SubscriberLaneState) → slice_get m.subscribers place ≡ at
    → subscriber_fits_at at (Begin c) ≡ true → IsWithin m
    → IsWithin (subscriber_begins m place c at)
begun_subscriber m place c None e fit k = k
begun_subscriber m place c (Some lane) e fit k =
    let own : IsSubscriber m.table.sizes lane = all_at (IsSubscriber m.table.sizes) m.subscribers place lane e k.subscribers in
    subscriber_within m (subscriber_begins m place c (Some lane)) place lane (subscriber_begun m.moments c lane) e
    ((subscribers_stay_within m.table.sizes lane own).0 m.moments c fit) (subscriber_routes m.moments c lane) refl refl refl refl
    refl refl k

gone_publisher : (m : World) (place : ℕ) (at : Option PublisherLaneState) → slice_get m.publishers place ≡ at → IsWithin m
    → IsWithin (publisher_goes_on m place at)
gone_publisher m place None e k = k
gone_publisher m place (Some lane) e k =
    let own : IsPublisher m.table.sizes lane = all_at (IsPublisher m.table.sizes) m.publishers place lane e k.publishers in
    let sizes = sizes_stay m.table (publisher_next lane.port.call) in
    publisher_within m (publisher_goes_on m place (Some lane)) place lane (publisher_after (publisher_given m.table lane) lane) e
    ((publishers_stay_within m.table.sizes lane own).1 (publisher_given m.table lane)) refl refl refl refl refl sizes.0 sizes.1 k

gone_subscriber : (m : World) (place : ℕ) (at : Option SubscriberLaneState) → slice_get m.subscribers place ≡ at → IsWithin m
    → IsWithin (subscriber_goes_on m place at)
gone_subscriber m place None e k = k
gone_subscriber m place (Some lane) e k =
    let own : IsSubscriber m.table.sizes lane = all_at (IsSubscriber m.table.sizes) m.subscribers place lane e k.subscribers in
    let sizes = sizes_stay m.table (subscriber_next lane.port.call) in
    subscriber_within m (subscriber_goes_on m place (Some lane)) place lane (subscriber_after (subscriber_given m.table lane) lane) e
    ((subscribers_stay_within m.table.sizes lane own).1 (subscriber_given m.table lane))
    ((changed_routes (subscriber_change lane.port.call (subscriber_given m.table lane)) _).0) refl refl refl refl sizes.0 sizes.1 k

pub happens_within : (m : World) (party : Party) (step : Move) → fits m party step ≡ true → IsWithin m → IsWithin (happens m party step)
happens_within m (Publisher place) (Begin c) fit k = begun_publisher m place c (slice_get m.publishers place) refl fit k
happens_within m (Subscriber place) (Begin c) fit k = begun_subscriber m place c (slice_get m.subscribers place) refl fit k
happens_within m (Publisher place) GoOn fit k
    = gone_publisher (placed m (Publisher place)) place (slice_get m.publishers place) refl (placed_within m (Publisher place) k)
happens_within m (Subscriber place) GoOn fit k
    = gone_subscriber (placed m (Subscriber place)) place (slice_get m.subscribers place) refl (placed_within m (Subscriber place) k)
