-- Lanes as they are made: each publisher has a connection to each subscriber, and nothing was done yet.
use Rattle.std.specs.Prelude.{ℕ, false, zero, suc, ◌+◌, ◌*◌, ◌/◌, ◌%◌, ◌<◌, ◌^◌, List, [], ◌∷◌, ◌++◌, replicate, None}
use Rattle.iox_lanes_machine.specs.QueuesSteps.Ends.{cells_of}
use Rattle.iox_lanes_machine.specs.LanesBase.Numbers.{words_of}
use Rattle.iox_lanes_machine.specs.LanesBase.declared.words.sizes.TableSizes.{TableSizes}
use Rattle.iox_lanes_machine.specs.LanesBase.declared.calls.route.Route.{Route}
use Rattle.iox_lanes_machine.specs.LanesParties.PublisherKeeping.{new_book}
use Rattle.iox_lanes_machine.specs.LanesParties.Publishers.{new_publisher}
use Rattle.iox_lanes_machine.specs.LanesParties.Keeping.{new_subscriber}
use Rattle.iox_lanes_machine.specs.LanesParties.Parties.{PublisherLaneState, SubscriberLaneState}
use Rattle.iox_lanes_machine.specs.LanesParties.declared.call.CallName.TheVariants as name
use Rattle.iox_lanes_machine.specs.World.{World}
use Rattle.iox_lanes_machine.specs.Links.{LinkState}
use Rattle.iox_lanes_machine.specs.declared.sizes.LaneSizes.{LaneSizes}

-- The values of `f` for the first `count` numbers.
abbrev pub listed : {X : Type 0} → (ℕ → X) → ℕ → List X
listed f zero = []
listed f (suc count) = listed f count ++ f count ∷ []

-- The number of cells of a completion ring: one for each message that may wait or be borrowed, and one more.
abbrev pub cells_back : LaneSizes → ℕ
cells_back sizes = sizes.buffer + sizes.most_borrowed + 1

-- The sizes of the table; a submission ring has the cells that its kind needs.
abbrev pub table_sizes : LaneSizes → TableSizes
table_sizes sizes = record {
  connections = sizes.publishers * sizes.subscribers;
  submission_cells = cells_of sizes.kind sizes.buffer;
  completion_cells = cells_back sizes;
  slots = sizes.publishers * sizes.slots;
  user_header_words = sizes.user_header_words;
  payload_words = sizes.payload_words;
}

-- The numbers of all connections, of all slots, and of the words of a slot are less than 2^64.
pub record AreCounted (sizes : LaneSizes) : Type 0 where
  pub connections : sizes.publishers * sizes.subscribers < 2 ^ 64
  pub slots : sizes.publishers * sizes.slots < 2 ^ 64
  pub words : 3 + sizes.user_header_words + sizes.payload_words < 2 ^ 64

-- The link of a connection. Connections are numbered publisher by publisher, and for each publisher subscriber by subscriber.
abbrev pub link_at : LaneSizes → ℕ → LinkState
link_at sizes connection = record {
  publisher = connection / sizes.subscribers;
  subscriber = connection % sizes.subscribers;
  kind = sizes.kind;
  limit = sizes.buffer;
  found = [];
}

-- A connection as its ports know it.
abbrev pub route_to : LaneSizes → ℕ → Route
route_to sizes connection = record {
  connection = connection;
  kind = sizes.kind;
  limit = sizes.buffer;
  submission_cells = cells_of sizes.kind sizes.buffer;
  completion_cells = cells_back sizes;
}

-- The connections of a publisher, in the order of the subscribers.
abbrev pub sending_routes : LaneSizes → ℕ → ℕ → List Route
sending_routes sizes publisher count = listed (λ subscriber. route_to sizes (publisher * sizes.subscribers + subscriber)) count

-- The connections of a subscriber, in the order of the publishers.
abbrev pub receiving_routes : LaneSizes → ℕ → ℕ → List Route
receiving_routes sizes subscriber count = listed (λ publisher. route_to sizes (publisher * sizes.subscribers + subscriber)) count

-- The header of a publisher's messages, which names no node, its own number and one element, followed by a user header of zeros.
abbrev pub first_head : LaneSizes → ℕ → List ℕ
first_head sizes publisher = (0 ∷ publisher ∷ 1 ∷ []) ++ replicate sizes.user_header_words 0

-- A publisher whose slots follow those of the publishers before it, and whose sends don't fail at a full mailbox.
abbrev pub publisher_at : LaneSizes → ℕ → PublisherLaneState
publisher_at sizes publisher = record {
  port = new_publisher (sending_routes sizes publisher sizes.subscribers)
      (new_book (publisher * sizes.slots) sizes.slots sizes.subscribers sizes.most_loans sizes.history)
      sizes.payload_words (3 + sizes.user_header_words);
  fails = false;
  last = None;
  heads = replicate sizes.slots (first_head sizes publisher);
  call = name.LoanUninit;
  first = 0;
}

-- A subscriber that borrows nothing.
abbrev pub subscriber_at : LaneSizes → ℕ → SubscriberLaneState
subscriber_at sizes subscriber = record {
  port = new_subscriber (receiving_routes sizes subscriber sizes.publishers) (sizes.publishers * sizes.slots)
      (record { user_header_words = sizes.user_header_words; payload_words = sizes.payload_words })
      (3 + sizes.user_header_words + sizes.payload_words) sizes.most_borrowed;
  call = name.Receive;
  first = 0;
}

-- Lanes of these sizes.
abbrev pub start : LaneSizes → World
start sizes = record {
  table = record { sizes = table_sizes sizes; words = replicate (words_of (table_sizes sizes)) 0 };
  links = listed (link_at sizes) (sizes.publishers * sizes.subscribers);
  publishers = listed (publisher_at sizes) sizes.publishers;
  subscribers = listed (subscriber_at sizes) sizes.subscribers;
  orders = listed (λ connection. []) (sizes.publishers * sizes.subscribers);
  moments = 0;
  finished = [];
  read = [];
}
