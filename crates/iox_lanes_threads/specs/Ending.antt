-- What it means that these ports are all ports of a board.
use Rattle.std.specs.Prelude.{ℕ, ◌≡◌, ◌<◌, ◌==◌, ◌&&◌, Bool, true, List, length}
use Rattle.std.specs.List.{All, list_any, list_all}
use Rattle.iox_lanes_threads.specs.Ports.{BoardPublisher, BoardSubscriber, BoardState}

-- One of the publishers is the board's publisher at this place.
abbrev pub has_publisher : BoardState → ℕ → List BoardPublisher → Bool
has_publisher board place ports = list_any (λ p. (p.board == board.number) && (p.place == place)) ports

-- One of the subscribers is the board's subscriber at this place.
abbrev pub has_subscriber : BoardState → ℕ → List BoardSubscriber → Bool
has_subscriber board place ports = list_any (λ p. (p.board == board.number) && (p.place == place)) ports

-- The board knows all of these publishers by its number.
abbrev pub knows_publishers : BoardState → List BoardPublisher → Bool
knows_publishers board ports = list_all (λ p. p.board == board.number) ports

-- The board knows all of these subscribers by its number.
abbrev pub knows_subscribers : BoardState → List BoardSubscriber → Bool
knows_subscribers board ports = list_all (λ p. p.board == board.number) ports

-- If the publisher has the board's number, it steps on the board's words.
abbrev pub IsPublisherOf : BoardState → BoardPublisher → Type 0
IsPublisherOf board p = p.board ≡ board.number → p.own.table ≡ board.table

-- If the subscriber has the board's number, it steps on the board's words.
abbrev pub IsSubscriberOf : BoardState → BoardSubscriber → Type 0
IsSubscriberOf board p = p.board ≡ board.number → p.own.table ≡ board.table

-- Each of these publishers that has the board's number steps on the board's words.
abbrev pub ArePublishersOf : BoardState → List BoardPublisher → Type 0
ArePublishersOf board ports = All (IsPublisherOf board) ports

-- Each of these subscribers that has the board's number steps on the board's words.
abbrev pub AreSubscribersOf : BoardState → List BoardSubscriber → Type 0
AreSubscribersOf board ports = All (IsSubscriberOf board) ports

-- These are all ports of the board: as many as it has, all with its number, and one at each place.
pub record AreAll (board : BoardState) (ps : List BoardPublisher) (ss : List BoardSubscriber) : Type 0 where
  pub publishers_many : length ps ≡ board.publishers
  pub subscribers_many : length ss ≡ board.subscribers
  pub publishers_known : knows_publishers board ps ≡ true
  pub subscribers_known : knows_subscribers board ss ≡ true
  pub publishers : (place : ℕ) → place < board.publishers → has_publisher board place ps ≡ true
  pub subscribers : (place : ℕ) → place < board.subscribers → has_subscriber board place ss ≡ true
