-- Lanes whose moments are taken anew hold together as before: it is the bound on positions that counts.
use Rattle.std.proofs.Common.{ℕ, zero, suc, ◌≡◌, ◌+◌, ◌-◌, ◌<◌, ◌^◌, List, [], ◌∷◌, map, slice_get, Some}
use Rattle.std.proofs.Common.{refl, ◌∙◌, ap, subst, arith}
use Rattle.std.proofs.lemmas.List.{length-map}
use Rattle.iox_lanes_machine.specs.QueuesSteps.Order.{Acts, after_acts, acts_of, Rises}
use Rattle.iox_lanes_machine.specs.QueuesSteps.declared.access.Word.TheVariants.{Write}
use Rattle.iox_lanes_machine.specs.QueuesSteps.declared.order.Act.{Act}
use Rattle.iox_lanes_machine.specs.QueuesSteps.declared.order.Placed.{Placed}
use Rattle.iox_lanes_machine.specs.QueuesSteps.Ends.{overflows, cells_of, Shape}
use Rattle.iox_lanes_machine.specs.LanesBase.Table.{TableWords, held_by}
use Rattle.iox_lanes_machine.specs.LanesBase.declared.words.word.ConnectionRing.TheVariants.{Submission, Completion}
use Rattle.iox_lanes_machine.specs.LanesBase.declared.calls.publisher.PublisherCall.{PublisherCall}
use Rattle.iox_lanes_machine.specs.LanesBase.declared.calls.subscriber.SubscriberCall.{SubscriberCall}
use Rattle.iox_lanes_machine.specs.LanesParties.Parties.{PublisherLaneState}
use Rattle.iox_lanes_machine.specs.Kept.{IsKeptAt, AreKept}
use Rattle.iox_lanes_machine.specs.Borrowing.{borrows}
use Rattle.iox_lanes_machine.specs.LedgerUses.{one_if, count, refers_to}
use Rattle.iox_lanes_machine.specs.Links.{LinkState}
use Rattle.iox_lanes_machine.specs.Returns.{AreReturning}
use Rattle.iox_lanes_machine.specs.Rings.{ring_in, waiting, push_on, pop_on, sent_word}
use Rattle.iox_lanes_machine.specs.Rooms.{RoomsKept}
use Rattle.iox_lanes_machine.specs.Together.{HoldTogether}
use Rattle.iox_lanes_machine.specs.Uses.{aside_at, given_back, IsBalanced, PublisherUses}
use Rattle.iox_lanes_machine.specs.World.{World, publisher_stage, subscriber_stage}
use Rattle.iox_lanes_threads_rule.specs.Lanes.{IsEarly}

-- an act at the first moment
abbrev untimed : Placed → Placed
untimed placed = record placed { moment = 0 }

-- the lanes as if they had made n steps, and all acts stood at the first moment
abbrev pub retimed : World → World
retimed m = record m { orders = map (λ order. map untimed order) m.orders; moments = 2 ^ 63 - 1 }

-- what a mapped list has is the image of what the list has
pub mapped_is : {X Y : Type 0} (f : X → Y) (xs : List X) (i : ℕ) (y : Y) → slice_get (map f xs) i ≡ Some y → (x : X)
    × (slice_get xs i ≡ Some x) × (f x ≡ y)
mapped_is f [] i y e = absurd (cc e)
mapped_is f (x ∷ xs) zero y e = (x, refl, some_is e)
  where
    some_is : Some (f x) ≡ Some y → f x ≡ y
    some_is h = cc h
mapped_is f (x ∷ xs) (suc i) y e = mapped_is f xs i y e

acts_same : (order : List Placed) → acts_of order ≡ acts_of (map untimed order)
acts_same [] = refl
acts_same (placed ∷ order) = ap (λ (acts : List Act). placed.act ∷ acts) (acts_same order)

rises_anew : (order : List Placed) (high : ℕ) → Rises 0 (map untimed order) high
rises_anew [] high = omega arith
rises_anew (placed ∷ order) high = (omega arith, rises_anew order high)

waiting_same : (link : LinkState) (order : List Placed) → waiting link order ≡ waiting link (map untimed order)
waiting_same link order = ap (after_acts (overflows link.kind) link.limit link.found) (acts_same order)

kept_anew : (table : TableWords) (moments connection : ℕ) (link : LinkState) (order : List Placed) (sends : PublisherCall)
    (receives : SubscriberCall) → held_by table (sent_word connection Write) < 2 ^ 64 - 1
    → IsKeptAt table moments connection link order sends receives
    → IsKeptAt table (2 ^ 63 - 1) connection link (map untimed order) sends receives
kept_anew table moments connection link order sends receives early k = record {
  mailbox = record {
    acts = subst (Acts (overflows link.kind) link.limit link.found) (acts_same order) k.mailbox.acts;
    rises = rises_anew order (2 ^ 63 - 1);
  };
  shape = subst (λ (list : List ℕ). Shape link.kind link.limit (ring_in table connection (cells_of link.kind link.limit)) list
      (push_on connection link.kind sends) (pop_on connection link.kind receives)) (waiting_same link order) k.shape;
  few = omega (arith, early);
}

module _ (m : World) (early : IsEarly m.table) (k : HoldTogether m) where
  rings_anew : AreKept (retimed m)
  rings_anew connection link order found got =
      let was = mapped_is (λ (o : List Placed). map untimed o) m.orders connection order got in
      let near : held_by m.table (sent_word connection Write) < 2 ^ 64 - 1
      = early connection Submission (k.within.links connection link found).connection_is in
      subst (λ (o : List Placed). IsKeptAt m.table (2 ^ 63 - 1) connection link o
      (publisher_stage (slice_get m.publishers link.publisher)) (subscriber_stage (slice_get m.subscribers link.subscriber))) was.2
      (kept_anew m.table m.moments connection link was.0 (publisher_stage (slice_get m.publishers link.publisher))
      (subscriber_stage (slice_get m.subscribers link.subscriber)) near (k.rings connection link was.0 found was.1))

  returning_anew : AreReturning (retimed m)
  returning_anew connection link found =
      let was = k.returns.rings k.few connection link found in
      let near = early connection Completion (k.within.links connection link found).connection_is in
      record { list = was.list; shape = was.shape; few = omega (arith, near) }

  balanced_anew : (lane : PublisherLaneState) → IsBalanced m lane → IsBalanced (retimed m) lane
  balanced_anew lane b place route link order at found got slot =
      let was = mapped_is (λ (o : List Placed). map untimed o) m.orders route.connection order got in
      let same : waiting link was.0 ≡ waiting link order = waiting_same link was.0 ∙ ap (waiting link) was.2 in
      subst (λ (list : List ℕ). count slot list + count slot (aside_at m.table route.connection link lane.port.call)
      + one_if (borrows route.connection slot (slice_get m.subscribers link.subscriber))
      + count slot (given_back m.table route.connection) ≡ one_if (refers_to lane.port.book place slot)) same
      (b place route link was.0 at found was.1 slot)

  uses_anew : (place : ℕ) (lane : PublisherLaneState) → slice_get m.publishers place ≡ Some lane → PublisherUses (retimed m) lane
  uses_anew place lane found =
      let was = k.uses.publishers place lane found in
      record { counted = was.counted; lacking = was.lacking; balanced = balanced_anew lane was.balanced }

  pub anew : HoldTogether (retimed m)
  anew = record {
    few = omega arith;
    within = record {
      publishers = k.within.publishers;
      subscribers = k.within.subscribers;
      senders = k.within.senders;
      receivers = k.within.receivers;
      links = k.within.links;
      orders = length-map m.orders (λ (o : List Placed). map untimed o) ∙ k.within.orders;
      words = k.within.words;
    };
    rings = rings_anew;
    returns = record {
      some = k.returns.some;
      publishers = k.returns.publishers;
      subscribers = k.returns.subscribers;
      rings = λ few. returning_anew;
    };
    connections = k.connections;
    loans = record { stages = k.loans.stages; rows = k.loans.rows };
    uses = record {
      publishers = uses_anew;
      subscribers = λ place lane found. let was = k.uses.subscribers place lane found in
          record { all = was.all; borrowed = was.borrowed; placed = was.placed };
      senders = k.uses.senders;
      pairs = k.uses.pairs;
    };
    reads = record { each = k.reads.each; all = k.reads.all; rooms = k.reads.rooms };
    held = k.held;
  }

-- the room at connections has no moments
pub rooms_anew : (m : World) → RoomsKept m → RoomsKept (retimed m)
rooms_anew m r = record {
  publishers = r.publishers;
  subscribers = r.subscribers;
  receivers = r.receivers;
  cells = r.cells;
  releases = r.releases;
}
