-- Ports in threads as callers see them, and how they are made from lanes.
use Rattle.std.specs.Prelude.{ℕ, ◌≡◌, ◌+◌, ◌≤◌, ◌^◌, List, [], ◌∷◌, length}
use Rattle.atomic_table.specs.Seated.{TableId}
use Rattle.iox_lanes_machine.specs.LanesParties.Parties.{PublisherLaneState, SubscriberLaneState}
use Rattle.iox_lanes_machine.specs.LanesParties.declared.call.Party.TheVariants.{Publisher, Subscriber}
use Rattle.iox_lanes_machine.specs.Resting.{AllBetween, NoneOut}
use Rattle.iox_lanes_machine.specs.World.{World}
use Rattle.iox_lanes_threads_ports.specs.LanesThreadsRule.declared.view.PortParty.TheVariants as party
use Rattle.iox_lanes_threads_ports.specs.Values.{PublisherPort, SubscriberPort, SamePublisher, SameSubscriber}
use Rattle.iox_lanes_threads.specs.Opening.{opened}

-- A publisher of a board: the board's number, its place among the publishers, and the port itself.
pub record BoardPublisher : Type 0 where
  pub board : ℕ
  pub place : ℕ
  pub own : PublisherPort

-- A subscriber of a board: the board's number, its place among the subscribers, and the port itself.
pub record BoardSubscriber : Type 0 where
  pub board : ℕ
  pub place : ℕ
  pub own : SubscriberPort

-- A board: its number, its words, and how many publishers and subscribers it has.
pub record BoardState : Type 0 where
  pub number : ℕ
  pub table : TableId
  pub publishers : ℕ
  pub subscribers : ℕ

-- The publisher has the same board and place, and is the same port on the same table.
abbrev pub StaysPublisher : BoardPublisher → BoardPublisher → Type 0
StaysPublisher old new = (new.board ≡ old.board) × (new.place ≡ old.place) × SamePublisher old.own new.own

-- The subscriber has the same board and place, and is the same port on the same table.
abbrev pub StaysSubscriber : BoardSubscriber → BoardSubscriber → Type 0
StaysSubscriber old new = (new.board ≡ old.board) × (new.place ≡ old.place) × SameSubscriber old.own new.own

-- The publishers of a board that was opened from these lanes, the first of them at this place.
abbrev pub opened_publishers : ℕ → TableId → World → ℕ → List PublisherLaneState → List BoardPublisher
opened_publishers board table m place [] = []
opened_publishers board table m place (lane ∷ lanes) =
    record {
      board = board;
      place = place;
      own
          = record { table = table; port = opened m place (Publisher place) (party.Publisher lane); lane = lane };
    }
    ∷ opened_publishers board table m (place + 1) lanes

-- The subscribers of a board that was opened from these lanes, the first of them at this place.
abbrev pub opened_subscribers : ℕ → TableId → World → ℕ → List SubscriberLaneState → List BoardSubscriber
opened_subscribers board table m place [] = []
opened_subscribers board table m place (lane ∷ lanes) =
    record {
      board = board;
      place = place;
      own
          = record {
            table = table;
            port = opened m (length m.publishers + place) (Subscriber place) (party.Subscriber lane);
            lane
                = lane;
            words = [];
          };
    }
    ∷ opened_subscribers board table m (place + 1) lanes

-- The lanes may be opened for threads: no port is inside a call, no loan or sample is out, and at most 2^63 steps were made.
pub record MayOpen (m : World) : Type 0 where
  pub between : AllBetween m
  pub none_out : NoneOut m
  pub few : m.moments ≤ 2 ^ 63
