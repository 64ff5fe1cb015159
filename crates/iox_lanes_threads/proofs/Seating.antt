-- Ports take their seats one after the other.
use Rattle.std.proofs.Common.{ℕ, ◌≡◌, ◌+◌, ◌≤◌, List, [], ◌∷◌, ◌++◌, length, Some, refl, sym, ◌∙◌, ap, subst, arith, length-append}
use Rattle.std.proofs.Common.{append_assoc}
use Rattle.std.specs.List.{All}
use Rattle.std.specs.Option.{option_to_list}
use Rattle.std.proofs.lemmas.List.Elements.{All-pop}
use Rattle.atomic_table.specs.Seated.{TableId}
use Rattle.atomic_table.specs.Table.{Me}
use Rattle.iox_lanes_machine.specs.LanesBase.declared.words.sizes.TableSizes.{TableSizes}
use Rattle.iox_lanes_machine.specs.LanesParties.Parties.{PublisherLaneState, SubscriberLaneState}
use Rattle.iox_lanes_machine.specs.LanesParties.declared.call.Move.{Move}
use Rattle.iox_lanes_machine.specs.LanesParties.declared.call.Party.TheVariants.{Publisher, Subscriber}
use Rattle.iox_lanes_machine.specs.World.{World}
use Rattle.iox_lanes_threads_ports.specs.LanesThreadsRule.Acts.{first_port}
use Rattle.iox_lanes_threads_ports.specs.LanesThreadsRule.Seats.{waits, others_wait, IsWaiting}
use Rattle.iox_lanes_threads_ports.specs.LanesThreadsRule.declared.view.PortParty.TheVariants as party
use Rattle.iox_lanes_threads_ports.specs.LanesThreadsRule.declared.view.View.{View}
use Rattle.iox_lanes_threads_ports.specs.Values.{HasRoom}
use Rattle.iox_lanes_threads.specs.Opening.{opened, publishers_from, subscribers_from}
use Rattle.iox_lanes_threads.specs.Ports.{BoardPublisher, BoardSubscriber, opened_publishers, opened_subscribers}
use Rattle.iox_lanes_threads.specs.Standing.{PublishersStand, SubscribersStand}

-- a publisher as it is opened
abbrev pub opened_publisher : ℕ → TableId → World → ℕ → PublisherLaneState → BoardPublisher
opened_publisher board table m place lane
    = record {
      board = board;
      place = place;
      own
          = record { table = table; port = opened m place (Publisher place) (party.Publisher lane); lane = lane };
    }

abbrev pub opened_subscriber : ℕ → TableId → World → ℕ → SubscriberLaneState → BoardSubscriber
opened_subscriber board table m place lane =
    record {
      board = board;
      place = place;
      own
          = record {
            table = table;
            port = opened m (length m.publishers + place) (Subscriber place) (party.Subscriber lane);
            lane
                = lane;
            words = [];
          };
    }

-- publishers of whom some have their seats, and the rest wait
pub record Publishers (m : World) (board : ℕ) (sizes : TableSizes) (table now : TableId) (me : Me ℕ View)
    (rest : List PublisherLaneState) (shares : List TableId) (writes : List Move) (seated : List BoardPublisher) (capacity : ℕ) : Type 0
  where
    pub same : now ≡ table
    pub waiting : me ≡ (waits (length seated) (publishers_from m (length seated) rest ++ subscribers_from m 0 m.subscribers), [])
    pub stand : PublishersStand m (length seated) rest
    pub are : seated ++ opened_publishers board table m (length seated) rest ≡ opened_publishers board table m 0 m.publishers
    pub shares_are : All (λ (share : TableId). share ≡ table) shares
    pub shares_many : length shares ≡ length rest
    pub writes_are : All (HasRoom sizes) writes
    pub writes_many : length writes ≡ length rest
    pub room : length seated + length rest ≤ capacity
    pub many : length seated + length rest ≡ length m.publishers

-- one more has its seat
pub publisher_seated : (m : World) (board : ℕ) (sizes : TableSizes) (table now now' : TableId) (me me' : Me ℕ View)
    (lane : PublisherLaneState) (rest : List PublisherLaneState) (shares shares' : List TableId) (share : TableId)
    (writes writes' : List Move) (asked : Move) (seated seated' : List BoardPublisher) (capacity : ℕ)
    → Publishers m board sizes table now me (lane ∷ rest) shares writes seated capacity → now' ≡ now → me' ≡ (others_wait me.0, [])
    → shares ≡ shares' ++ option_to_list (Some share) → writes ≡ writes' ++ option_to_list (Some asked)
    → seated' ≡ seated ++ opened_publisher board table m (length seated) lane ∷ []
    → Publishers m board sizes table now' me' rest shares' writes' seated' capacity
publisher_seated m board sizes table now now' me me' lane rest shares shares' share writes writes' asked seated seated' capacity k same
    moved shares_is writes_is seated_is =
    let longer : length seated' ≡ length seated + 1
    = ap (λ (xs : List BoardPublisher). length xs) seated_is ∙ omega
    (arith, length-append seated (opened_publisher board table m (length seated) lane ∷ [])) in
    let shares_fewer : length shares ≡ length shares' + 1
    = ap (λ (xs : List TableId). length xs) shares_is ∙ omega (arith, length-append shares' (share ∷ [])) in
    let writes_fewer : length writes ≡ length writes' + 1
    = ap (λ (xs : List Move). length xs) writes_is ∙ omega (arith, length-append writes' (asked ∷ [])) in
    let view : me.0 ≡ waits (length seated) (publishers_from m (length seated) (lane ∷ rest) ++ subscribers_from m 0 m.subscribers)
    = ap (λ (z : Me ℕ View). z.0) k.waiting in
    record {
      same = same ∙ k.same;
      waiting = moved ∙ ap (λ (v : View). (others_wait v, [])) view ∙ ap
          (λ (n : ℕ). (waits n (publishers_from m n rest ++ subscribers_from m 0 m.subscribers), [])) (sym longer);
      stand = subst (λ (n : ℕ). PublishersStand m n rest) (sym longer) k.stand.1;
      are = subst (λ (xs : List BoardPublisher). xs ++ opened_publishers board table m (length seated') rest
          ≡ opened_publishers board table m 0 m.publishers) (sym seated_is)
          (ap (λ (n : ℕ). (seated ++ opened_publisher board table m (length seated) lane ∷ [])
          ++ opened_publishers board table m n rest) longer
          ∙ append_assoc seated (opened_publisher board table m (length seated) lane ∷ [])
          (opened_publishers board table m (length seated + 1) rest) ∙ k.are);
      shares_are = (All-pop (λ (share : TableId). share ≡ table) shares shares' (Some share) shares_is k.shares_are).0;
      shares_many = omega (arith, shares_fewer, k.shares_many);
      writes_are = (All-pop (HasRoom sizes) writes writes' (Some asked) writes_is k.writes_are).0;
      writes_many = omega (arith, writes_fewer, k.writes_many);
      room = omega (arith, k.room, longer);
      many = omega (arith, k.many, longer);
    }

-- the first that waits
pub publisher_waits : (m : World) (board : ℕ) (sizes : TableSizes) (table now : TableId) (me : Me ℕ View) (lane : PublisherLaneState)
    (rest : List PublisherLaneState) (shares : List TableId)
    (writes : List Move) (seated : List BoardPublisher) (capacity : ℕ)
    → Publishers m board sizes table now me (lane ∷ rest) shares writes seated capacity → IsWaiting me
    × (first_port me.0.waiting ≡ opened m (length seated) (Publisher (length seated)) (party.Publisher lane))
publisher_waits m board sizes table now me lane rest shares writes seated capacity k = (
  subst IsWaiting (sym k.waiting) refl,
  ap (λ (z : Me ℕ View). first_port z.0.waiting) k.waiting,
)

-- subscribers of whom some have their seats, and the rest wait
pub record Subscribers (m : World) (board : ℕ) (sizes : TableSizes) (table now : TableId) (me : Me ℕ View)
    (rest : List SubscriberLaneState) (shares : List TableId) (seated : List BoardSubscriber) (capacity : ℕ) : Type 0 where
  pub same : now ≡ table
  pub waiting : me ≡ (waits (length m.publishers + length seated) (subscribers_from m (length seated) rest), [])
  pub stand : SubscribersStand m (length seated) rest
  pub are : seated ++ opened_subscribers board table m (length seated) rest ≡ opened_subscribers board table m 0 m.subscribers
  pub shares_are : All (λ (share : TableId). share ≡ table) shares
  pub shares_many : length shares ≡ length rest
  pub room : length seated + length rest ≤ capacity

pub subscriber_seated : (m : World) (board : ℕ) (sizes : TableSizes) (table now now' : TableId) (me me' : Me ℕ View)
    (lane : SubscriberLaneState) (rest : List SubscriberLaneState) (shares shares' : List TableId) (share : TableId)
    (seated seated' : List BoardSubscriber) (capacity : ℕ)
    → Subscribers m board sizes table now me (lane ∷ rest) shares seated capacity → now' ≡ now → me' ≡ (others_wait me.0, [])
    → shares ≡ shares' ++ option_to_list (Some share)
    → seated' ≡ seated ++ opened_subscriber board table m (length seated) lane ∷ []
    → Subscribers m board sizes table now' me' rest shares' seated' capacity
subscriber_seated m board sizes table now now' me me' lane rest shares shares' share seated seated' capacity k same moved shares_is
    seated_is =
    let longer : length seated' ≡ length seated + 1
    = ap (λ (xs : List BoardSubscriber). length xs) seated_is ∙ omega
    (arith, length-append seated (opened_subscriber board table m (length seated) lane ∷ [])) in
    let shares_fewer : length shares ≡ length shares' + 1
    = ap (λ (xs : List TableId). length xs) shares_is ∙ omega (arith, length-append shares' (share ∷ [])) in
    let view : me.0 ≡ waits (length m.publishers + length seated) (subscribers_from m (length seated) (lane ∷ rest))
    = ap (λ (z : Me ℕ View). z.0) k.waiting in
    let behind : length m.publishers + length seated + 1 ≡ length m.publishers + length seated' = omega (arith, longer) in
    record {
      same = same ∙ k.same;
      waiting = moved ∙ ap (λ (v : View). (others_wait v, [])) view ∙ ap
          (λ (n : ℕ). (waits n (subscribers_from m (length seated + 1) rest), [])) behind
          ∙ ap (λ (n : ℕ). (waits (length m.publishers + length seated') (subscribers_from m n rest), [])) (sym longer);
      stand = subst (λ (n : ℕ). SubscribersStand m n rest) (sym longer) k.stand.1;
      are = subst (λ (xs : List BoardSubscriber). xs ++ opened_subscribers board table m (length seated') rest
          ≡ opened_subscribers board table m 0 m.subscribers) (sym seated_is)
          (ap (λ (n : ℕ). (seated ++ opened_subscriber board table m (length seated) lane ∷ [])
          ++ opened_subscribers board table m n rest) longer
          ∙ append_assoc seated (opened_subscriber board table m (length seated) lane ∷ [])
          (opened_subscribers board table m (length seated + 1) rest) ∙ k.are);
      shares_are = (All-pop (λ (share : TableId). share ≡ table) shares shares' (Some share) shares_is k.shares_are).0;
      shares_many = omega (arith, shares_fewer, k.shares_many);
      room = omega (arith, k.room, longer);
    }

pub subscriber_waits : (m : World) (board : ℕ) (sizes : TableSizes) (table now : TableId) (me : Me ℕ View) (lane : SubscriberLaneState)
    (rest : List SubscriberLaneState) (shares : List TableId)
    (seated : List BoardSubscriber) (capacity : ℕ)
    → Subscribers m board sizes table now me (lane ∷ rest) shares seated capacity
    → IsWaiting me × (first_port me.0.waiting
    ≡ opened m (length m.publishers + length seated) (Subscriber (length seated)) (party.Subscriber lane))
subscriber_waits m board sizes table now me lane rest shares seated capacity k = (
  subst IsWaiting (sym k.waiting) refl,
  ap (λ (z : Me ℕ View). first_port z.0.waiting) k.waiting,
)
