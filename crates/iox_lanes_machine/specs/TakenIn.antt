-- When lanes take a finding in, and what it adds: to the messages that wait at a connection, the samples in its completion ring, a history,
-- a word of a slot, the buffer of a connection, the slots or the headers of a publisher and whether its sends fail, or the places of a
-- subscriber's connections.
use Rattle.std.specs.Prelude.{ℕ, ◌≡◌, ◌+◌, ◌<◌, ◌≤◌, ◌==◌, ◌&&◌, if◌then◌else◌, Bool, true, false, List, [], ◌∷◌, ◌++◌, length, get_or}
use Rattle.std.specs.Prelude.{slice_get, Option, Some, None}
use Rattle.iox_lanes_machine.specs.QueuesSteps.Access.{RingWords}
use Rattle.iox_lanes_machine.specs.QueuesSteps.Ends.{cells_of}
use Rattle.iox_lanes_machine.specs.LanesBase.Numbers.{IsWord}
use Rattle.iox_lanes_machine.specs.LanesBase.Table.{held_by}
use Rattle.iox_lanes_machine.specs.LanesBase.declared.words.word.SlotWord.{SlotWord}
use Rattle.iox_lanes_machine.specs.LanesBase.declared.words.word.SharedWord.TheVariants.{Slot}
use Rattle.iox_lanes_machine.specs.LanesBase.declared.calls.route.Route.{Route}
use Rattle.iox_lanes_machine.specs.LanesParties.PublisherKeeping.{loan_of}
use Rattle.iox_lanes_machine.specs.LanesParties.Parties.{PublisherLaneState, SubscriberLaneState}
use Rattle.iox_lanes_machine.specs.Borrowing.{is_at}
use Rattle.iox_lanes_machine.specs.Stored.{between}
use Rattle.iox_lanes_machine.specs.LedgerUses.{one_if, count, entry, refers_to, IsOwn}
use Rattle.iox_lanes_machine.specs.Links.{LinkState}
use Rattle.iox_lanes_machine.specs.Returns.{back_ring}
use Rattle.iox_lanes_machine.specs.Rings.{ring_in}
use Rattle.iox_lanes_machine.specs.Uses.{given_back}
use Rattle.iox_lanes_machine.specs.World.{World}
use Rattle.iox_lanes_machine.specs.declared.found.Found.{Found}
use Rattle.iox_lanes_machine.specs.declared.found.Found.TheVariants as found

-- A slot may be found at the connection of this place of a publisher: it is the publisher's, and neither waits there nor is in the
-- completion ring; and the slots that wait or are in the completion ring there are together fewer than the cells of this ring.
pub record MayStand (m : World) (who place slot : ℕ) : Type 0 where
  pub lane : PublisherLaneState
  pub publisher : slice_get m.publishers who ≡ Some lane
  pub route : Route
  pub at : slice_get lane.port.routes place ≡ Some route
  pub link : LinkState
  pub connection : slice_get m.links route.connection ≡ Some link
  pub own : IsOwn lane.port.book slot
  pub lacks : count slot link.found + count slot (given_back m.table route.connection) ≡ 0
  pub room : length link.found + length (given_back m.table route.connection) < m.table.sizes.completion_cells

-- A slot may be found to be the newest of a publisher's history: it is the publisher's and not yet in the history, and the history has
-- fewer slots than its maximum.
pub record MayBeNewest (m : World) (who slot : ℕ) : Type 0 where
  pub lane : PublisherLaneState
  pub publisher : slice_get m.publishers who ≡ Some lane
  pub own : IsOwn lane.port.book slot
  pub lacks : count slot lane.port.book.history ≡ 0
  pub room : length lane.port.book.history < lane.port.book.kept

-- A slot may be found to wait: it may be found at the connection (`MayStand`), and fewer messages wait there than the connection's maximum.
pub record MayBeMessage (m : World) (who place slot : ℕ) : Type 0 where
  pub stands : MayStand m who place slot
  pub fewer : length stands.link.found < stands.link.limit

-- The connection of this place of a publisher may be found to have a buffer, for at least one message and for no more than its present
-- maximum: nothing waits there yet, and its completion ring is empty.
pub record MayHaveBuffer (m : World) (who place messages : ℕ) : Type 0 where
  pub lane : PublisherLaneState
  pub publisher : slice_get m.publishers who ≡ Some lane
  pub route : Route
  pub at : slice_get lane.port.routes place ≡ Some route
  pub link : LinkState
  pub connection : slice_get m.links route.connection ≡ Some link
  pub some : 0 < messages
  pub fits : messages ≤ link.limit
  pub no_message : link.found ≡ []
  pub no_sample : given_back m.table route.connection ≡ []

-- A publisher may be found to have this many slots: no more than it has. Nothing was found of it yet: its history is empty, and at its
-- connections nothing waits and the completion rings are empty.
pub record MayHaveSlots (m : World) (who slots : ℕ) : Type 0 where
  pub lane : PublisherLaneState
  pub publisher : slice_get m.publishers who ≡ Some lane
  pub fits : slots ≤ length lane.port.book.uses
  pub no_history : lane.port.book.history ≡ []
  pub empty : (place : ℕ) (route : Route) (link : LinkState) → slice_get lane.port.routes place ≡ Some route
      → slice_get m.links route.connection ≡ Some link → (link.found ≡ []) × (given_back m.table route.connection ≡ [])

-- The connections at two places of a subscriber may be swapped, since it has both.
pub record MayChangePlaces (m : World) (who one other : ℕ) : Type 0 where
  pub lane : SubscriberLaneState
  pub subscriber : slice_get m.subscribers who ≡ Some lane
  pub has_one : one < length lane.port.routes
  pub has_other : other < length lane.port.routes

-- This may be found if no step was made yet; that condition isn't part of this definition. For a word, the slot must have this word; for a
-- sender, the publisher must exist.
abbrev pub MayBeFound : World → Found → Type 0
MayBeFound m (found.Waiting publisher place slot) = MayBeMessage m publisher place slot
MayBeFound m (found.GivenBack publisher place slot) = MayStand m publisher place slot
MayBeFound m (found.Newest publisher slot) = MayBeNewest m publisher slot
MayBeFound m (found.Held slot word value) = IsWord m.table.sizes (Slot slot word)
MayBeFound m (found.Buffer publisher place messages) = MayHaveBuffer m publisher place messages
MayBeFound m (found.Slots publisher slots most_loans) = MayHaveSlots m publisher slots
MayBeFound m (found.Sender publisher node_id publisher_id fails last) =
    (lane : PublisherLaneState) × (slice_get m.publishers publisher ≡ Some lane)
MayBeFound m (found.Swapped subscriber one other) = MayChangePlaces m subscriber one other

-- This may be found; nothing may be found after the first step.
pub record IsFirst (m : World) (f : Found) : Type 0 where
  pub first : m.moments ≡ 0
  pub may : MayBeFound m f

-- Whether the connection at this place of a publisher has this number.
abbrev pub leads_of : Option PublisherLaneState → ℕ → ℕ → Bool
leads_of None place connection = false
leads_of (Some lane) place connection = is_at connection (slice_get lane.port.routes place)

-- The slot alone if the test holds, otherwise no slot.
abbrev pub slot_if : Bool → ℕ → List ℕ
slot_if true slot = slot ∷ []
slot_if false slot = []

-- What a finding adds to the messages that wait at a connection.
abbrev pub more_messages : World → Found → ℕ → List ℕ
more_messages m (found.Waiting publisher place slot) connection
    = slot_if (leads_of (slice_get m.publishers publisher) place connection) slot
more_messages m (found.GivenBack publisher place slot) connection = []
more_messages m (found.Newest publisher slot) connection = []
more_messages m (found.Held slot word value) connection = []
more_messages m (found.Buffer publisher place messages) connection = []
more_messages m (found.Slots publisher slots most_loans) connection = []
more_messages m (found.Sender publisher node_id publisher_id fails last) connection = []
more_messages m (found.Swapped subscriber one other) connection = []

-- What a finding adds to the samples in the completion ring of a connection.
abbrev pub more_samples : World → Found → ℕ → List ℕ
more_samples m (found.Waiting publisher place slot) connection = []
more_samples m (found.GivenBack publisher place slot) connection
    = slot_if (leads_of (slice_get m.publishers publisher) place connection) slot
more_samples m (found.Newest publisher slot) connection = []
more_samples m (found.Held slot word value) connection = []
more_samples m (found.Buffer publisher place messages) connection = []
more_samples m (found.Slots publisher slots most_loans) connection = []
more_samples m (found.Sender publisher node_id publisher_id fails last) connection = []
more_samples m (found.Swapped subscriber one other) connection = []

-- What a finding adds to the history of a publisher.
abbrev pub more_history : Found → ℕ → List ℕ
more_history (found.Waiting publisher place slot) who = []
more_history (found.GivenBack publisher place slot) who = []
more_history (found.Newest publisher slot) who = slot_if (publisher == who) slot
more_history (found.Held slot word value) who = []
more_history (found.Buffer publisher place messages) who = []
more_history (found.Slots publisher slots most_loans) who = []
more_history (found.Sender publisher node_id publisher_id fails last) who = []
more_history (found.Swapped subscriber one other) who = []

-- What a finding adds to the slots that, by the publisher's record, the connection at a place has.
abbrev pub more_referred : Found → ℕ → ℕ → List ℕ
more_referred (found.Waiting publisher place slot) who at = slot_if ((publisher == who) && (place == at)) slot
more_referred (found.GivenBack publisher place slot) who at = slot_if ((publisher == who) && (place == at)) slot
more_referred (found.Newest publisher slot) who at = []
more_referred (found.Held slot word value) who at = []
more_referred (found.Buffer publisher place messages) who at = []
more_referred (found.Slots publisher slots most_loans) who at = []
more_referred (found.Sender publisher node_id publisher_id fails last) who at = []
more_referred (found.Swapped subscriber one other) who at = []

-- The slot of a publisher to which a finding adds a use.
abbrev pub more_uses : Found → ℕ → List ℕ
more_uses (found.Waiting publisher place slot) who = slot_if (publisher == who) slot
more_uses (found.GivenBack publisher place slot) who = slot_if (publisher == who) slot
more_uses (found.Newest publisher slot) who = slot_if (publisher == who) slot
more_uses (found.Held slot word value) who = []
more_uses (found.Buffer publisher place messages) who = []
more_uses (found.Slots publisher slots most_loans) who = []
more_uses (found.Sender publisher node_id publisher_id fails last) who = []
more_uses (found.Swapped subscriber one other) who = []

-- The number if the test holds, otherwise none.
abbrev pub number_if : Bool → ℕ → Option ℕ
number_if true number = Some number
number_if false number = None

-- The buffer size that a finding gives to a connection, if any.
abbrev pub new_buffer : World → Found → ℕ → Option ℕ
new_buffer m (found.Waiting publisher place slot) connection = None
new_buffer m (found.GivenBack publisher place slot) connection = None
new_buffer m (found.Newest publisher slot) connection = None
new_buffer m (found.Held slot word value) connection = None
new_buffer m (found.Buffer publisher place messages) connection
    = number_if (leads_of (slice_get m.publishers publisher) place connection) messages
new_buffer m (found.Slots publisher slots most_loans) connection = None
new_buffer m (found.Sender publisher node_id publisher_id fails last) connection = None
new_buffer m (found.Swapped subscriber one other) connection = None

-- The number that a finding gives, or the number before if it gives none.
abbrev pub number_with : Option ℕ → ℕ → ℕ
number_with None number = number
number_with (Some given) number = given

-- A connection as its port knows it after a finding: with this buffer size, if there is one, and exactly the cells that it needs.
abbrev pub route_with : Option ℕ → Route → Route
route_with None route = route
route_with (Some messages) route = record route { limit = messages; submission_cells = cells_of route.kind messages }

-- The number of slots that a finding gives to a publisher, if any.
abbrev pub new_slots : Found → ℕ → Option ℕ
new_slots (found.Waiting publisher place slot) who = None
new_slots (found.GivenBack publisher place slot) who = None
new_slots (found.Newest publisher slot) who = None
new_slots (found.Held slot word value) who = None
new_slots (found.Buffer publisher place messages) who = None
new_slots (found.Slots publisher slots most_loans) who = number_if (publisher == who) slots
new_slots (found.Sender publisher node_id publisher_id fails last) who = None
new_slots (found.Swapped subscriber one other) who = None

-- The loan limit that a finding gives to a publisher, if any.
abbrev pub new_loans : Found → ℕ → Option ℕ
new_loans (found.Waiting publisher place slot) who = None
new_loans (found.GivenBack publisher place slot) who = None
new_loans (found.Newest publisher slot) who = None
new_loans (found.Held slot word value) who = None
new_loans (found.Buffer publisher place messages) who = None
new_loans (found.Slots publisher slots most_loans) who = number_if (publisher == who) most_loans
new_loans (found.Sender publisher node_id publisher_id fails last) who = None
new_loans (found.Swapped subscriber one other) who = None

-- The node that a finding gives to the headers of a publisher's messages, if any.
abbrev pub new_node : Found → ℕ → Option ℕ
new_node (found.Waiting publisher place slot) who = None
new_node (found.GivenBack publisher place slot) who = None
new_node (found.Newest publisher slot) who = None
new_node (found.Held slot word value) who = None
new_node (found.Buffer publisher place messages) who = None
new_node (found.Slots publisher slots most_loans) who = None
new_node (found.Sender publisher node_id publisher_id fails last) who = number_if (publisher == who) node_id
new_node (found.Swapped subscriber one other) who = None

-- The publisher that a finding gives to the headers of a publisher's messages, if any.
abbrev pub new_publisher : Found → ℕ → Option ℕ
new_publisher (found.Waiting publisher place slot) who = None
new_publisher (found.GivenBack publisher place slot) who = None
new_publisher (found.Newest publisher slot) who = None
new_publisher (found.Held slot word value) who = None
new_publisher (found.Buffer publisher place messages) who = None
new_publisher (found.Slots publisher slots most_loans) who = None
new_publisher (found.Sender publisher node_id publisher_id fails last) who = number_if (publisher == who) publisher_id
new_publisher (found.Swapped subscriber one other) who = None

-- Whether the sends of a publisher fail at a full mailbox after a finding, if `fails` says so before.
abbrev pub fails_behind : Found → ℕ → Bool → Bool
fails_behind (found.Waiting publisher place slot) who fails = fails
fails_behind (found.GivenBack publisher place slot) who fails = fails
fails_behind (found.Newest publisher slot) who fails = fails
fails_behind (found.Held slot word value) who fails = fails
fails_behind (found.Buffer publisher place messages) who fails = fails
fails_behind (found.Slots publisher slots most_loans) who fails = fails
fails_behind (found.Sender publisher node_id publisher_id given last) who fails = if publisher == who then given else fails
fails_behind (found.Swapped subscriber one other) who fails = fails

-- The last sequence number of a publisher after a finding, if it was `last` before; none where messages have none.
abbrev pub last_behind : Found → ℕ → Option ℕ → Option ℕ
last_behind (found.Waiting publisher place slot) who last = last
last_behind (found.GivenBack publisher place slot) who last = last
last_behind (found.Newest publisher slot) who last = last
last_behind (found.Held slot word value) who last = last
last_behind (found.Buffer publisher place messages) who last = last
last_behind (found.Slots publisher slots most_loans) who last = last
last_behind (found.Sender publisher node_id publisher_id fails given) who last = if publisher == who then given else last
last_behind (found.Swapped subscriber one other) who last = last

-- The connection at this place after a swap of two places was at the returned place before the swap.
abbrev pub other_place : ℕ → ℕ → ℕ → ℕ
other_place one other place = if place == one then other else if place == other then one else place

-- As `other_place`, if the test holds; otherwise the same place.
abbrev pub place_if : Bool → ℕ → ℕ → ℕ → ℕ
place_if true one other place = other_place one other place
place_if false one other place = place

-- Where a connection of a subscriber was before a finding, if it is at this place after it: elsewhere only if the finding swaps two places
-- of this subscriber, and this is one of them.
abbrev pub place_before : Found → ℕ → ℕ → ℕ
place_before (found.Waiting publisher place slot) who at = at
place_before (found.GivenBack publisher place slot) who at = at
place_before (found.Newest publisher slot) who at = at
place_before (found.Held slot word value) who at = at
place_before (found.Buffer publisher place messages) who at = at
place_before (found.Slots publisher slots most_loans) who at = at
place_before (found.Sender publisher node_id publisher_id fails last) who at = at
place_before (found.Swapped subscriber one other) who at = place_if (subscriber == who) one other at

-- A port knows each of its connections at its place after the finding, with its buffer; nothing else of them changes.
pub record RoutesKnow (m : World) (f : Found) (before : ℕ → ℕ) (was now : List Route) : Type 0 where
  pub each : (place : ℕ) (route : Route) → slice_get was (before place) ≡ Some route
      → slice_get now place ≡ Some (route_with (new_buffer m f route.connection) route)
  pub as_many : length now ≡ length was

-- The ring has these slots after those that it had, and its read position is the same.
pub record RingGrows (was now : RingWords) (more : List ℕ) : Type 0 where
  pub list : between now ≡ between was ++ more
  pub read : now.read ≡ was.read
  pub write : now.write ≡ was.write + length more

-- The link, if there is one, with these slots waiting too, and with this buffer size, if there is one.
abbrev pub link_with : List ℕ → Option ℕ → Option LinkState → Option LinkState
link_with more buffer None = None
link_with more buffer (Some link) = Some (record link { found = link.found ++ more; limit = number_with buffer link.limit })

-- A header names the node and the publisher that a finding gives it, if any; none of its other words changes.
pub record HeadSays (node_id publisher_id : Option ℕ) (was now : List ℕ) : Type 0 where
  pub node : get_or now 0 0 ≡ number_with node_id (get_or was 0 0)
  pub publisher : get_or now 1 0 ≡ number_with publisher_id (get_or was 1 0)
  pub others : (word : ℕ) → 1 < word → get_or now word 0 ≡ get_or was word 0
  pub as_many : length now ≡ length was

-- The headers of a publisher's slots name what a finding gives them, and their number is that of the slots.
pub record HeadsSay (f : Found) (who : ℕ) (was now : List (List ℕ)) : Type 0 where
  pub each : (slot : ℕ) (before behind : List ℕ) → slice_get was slot ≡ Some before → slice_get now slot ≡ Some behind
      → HeadSays (new_node f who) (new_publisher f who) before behind
  pub as_many : length now ≡ number_with (new_slots f who) (length was)

-- A publisher after a finding. Its history, what its record says of its connections, and the uses of its slots grow by what the finding
-- adds. It has the slots and the loan limit that it is given; which slots are loans stays the same. It knows the buffers of its
-- connections; its headers name what they are given; its sends fail if the finding says so; and its last sequence number is the one that it
-- is given. Nothing else of it changes.
pub record PublisherGrows (m : World) (f : Found) (who : ℕ) (was now : PublisherLaneState) : Type 0 where
  pub routes : RoutesKnow m f (λ place. place) was.port.routes now.port.routes
  pub history : now.port.book.history ≡ was.port.book.history ++ more_history f who
  pub referred : (place slot : ℕ) → one_if (refers_to now.port.book place slot)
      ≡ one_if (refers_to was.port.book place slot) + count slot (more_referred f who place)
  pub uses : (slot : ℕ) → entry now.port.book.first now.port.book.uses slot 0
      ≡ entry was.port.book.first was.port.book.uses slot 0 + count slot (more_uses f who)
  pub slots : length now.port.book.uses ≡ number_with (new_slots f who) (length was.port.book.uses)
  pub marks : length now.port.book.loans ≡ number_with (new_slots f who) (length was.port.book.loans)
  pub loans : (slot : ℕ) → loan_of slot now.port.book ≡ loan_of slot was.port.book
  pub most : now.port.book.most_loans ≡ number_with (new_loans f who) was.port.book.most_loans
  pub heads : HeadsSay f who was.heads now.heads
  pub fails : now.fails ≡ fails_behind f who was.fails
  pub last : now.last ≡ last_behind f who was.last
  pub same : now ≡ record was {
    fails = now.fails;
    heads = now.heads;
    last = now.last;
    port = record was.port {
      routes = now.port.routes;
      book = record was.port.book {
        most_loans = now.port.book.most_loans;
        loans = now.port.book.loans;
        history = now.port.book.history;
        referred
            = now.port.book.referred;
        uses = now.port.book.uses;
      };
    };
  }

-- A subscriber after a finding knows the buffers of its connections, each at its place; nothing else of it changes.
pub record SubscriberKnows (m : World) (f : Found) (who : ℕ) (was now : SubscriberLaneState) : Type 0 where
  pub routes : RoutesKnow m f (place_before f who) was.port.routes now.port.routes
  pub same : now ≡ record was { port = record was.port { routes = now.port.routes } }

-- The lanes after they took in a finding: it is at the end of the list that it is about, or the word, connection, publisher or subscriber
-- that it is about has what it says; all else is as it was.
pub record IsTakenIn (m : World) (f : Found) (n : World) : Type 0 where
  pub links : (connection : ℕ) → slice_get n.links connection
      ≡ link_with (more_messages m f connection) (new_buffer m f connection) (slice_get m.links connection)
  pub messages : (connection : ℕ) (link : LinkState) → slice_get m.links connection ≡ Some link
      → RingGrows (ring_in m.table connection (cells_of link.kind link.limit))
      (ring_in n.table connection (cells_of link.kind (number_with (new_buffer m f connection) link.limit)))
      (more_messages m f connection)
  pub samples : (connection : ℕ) (link : LinkState) → slice_get m.links connection ≡ Some link
      → RingGrows (back_ring m.table connection m.table.sizes.completion_cells)
      (back_ring n.table connection m.table.sizes.completion_cells) (more_samples m f connection)
  pub word : (slot : ℕ) (word : SlotWord) (value : ℕ) → f ≡ found.Held slot word value → held_by n.table (Slot slot word) ≡ value
  pub words : (slot : ℕ) (word : SlotWord) → IsWord m.table.sizes (Slot slot word) → ((value : ℕ) → f ≡ found.Held slot word value → ⊥)
      → held_by n.table (Slot slot word) ≡ held_by m.table (Slot slot word)
  pub publishers : (who : ℕ) (was now : PublisherLaneState) → slice_get m.publishers who ≡ Some was
      → slice_get n.publishers who ≡ Some now → PublisherGrows m f who was now
  pub as_many : length n.publishers ≡ length m.publishers
  pub subscribers : (who : ℕ) (was now : SubscriberLaneState) → slice_get m.subscribers who ≡ Some was
      → slice_get n.subscribers who ≡ Some now → SubscriberKnows m f who was now
  pub as_many_receive : length n.subscribers ≡ length m.subscribers
  pub same : n ≡ record m
      { table = record m.table { words = n.table.words }; links = n.links; publishers = n.publishers; subscribers = n.subscribers }

-- The answer of lanes that are told to find something, and the lanes afterwards: they take it in exactly if it may be found.
abbrev pub TakesIn : World → Found → Bool → World → Type 0
TakesIn m f true n = IsFirst m f × IsTakenIn m f n
TakesIn m f false n = (IsFirst m f → ⊥) × (n ≡ m)

-- The finding is a waiting message, which is appended to a list.
abbrev pub IsAppended : Found → Type 0
IsAppended (found.Waiting publisher place slot) = Unit {0}
IsAppended (found.GivenBack publisher place slot) = ⊥
IsAppended (found.Newest publisher slot) = ⊥
IsAppended (found.Held slot word value) = ⊥
IsAppended (found.Buffer publisher place messages) = ⊥
IsAppended (found.Slots publisher slots most_loans) = ⊥
IsAppended (found.Sender publisher node_id publisher_id fails last) = ⊥
IsAppended (found.Swapped subscriber one other) = ⊥

-- An allocation may fail only for a finding that would be taken in, and is appended to a list.
abbrev pub WantsMemory : World → Found → Type 0
WantsMemory m f = IsFirst m f × IsAppended f
