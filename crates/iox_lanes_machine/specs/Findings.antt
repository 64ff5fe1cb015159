-- What lanes may find before their first step, and the lanes after they found it: messages that wait, samples in completion rings,
-- histories, words of slots, buffers of connections, slots and headers of publishers, and places of connections.
use Rattle.std.specs.Prelude.{ℕ, ◌≡◌, ◌-◌, ◌==◌, ◌&&◌, Bool, true, false, nat_lt, nat_le, List, [], ◌∷◌, ◌++◌, length, set, slice_get}
use Rattle.std.specs.Prelude.{Option, Some, None, Option}
use Rattle.iox_lanes_machine.specs.QueuesSteps.Access.{successor}
use Rattle.iox_lanes_machine.specs.QueuesSteps.declared.access.Word.TheVariants.{Write, Cell}
use Rattle.iox_lanes_machine.specs.QueuesSteps.Ends.{cells_of}
use Rattle.iox_lanes_machine.specs.LanesBase.Table.{TableWords, held_by, stored_in}
use Rattle.iox_lanes_machine.specs.LanesBase.declared.words.sizes.TableSizes.{TableSizes}
use Rattle.iox_lanes_machine.specs.LanesBase.declared.words.word.ConnectionRing.{ConnectionRing}
use Rattle.iox_lanes_machine.specs.LanesBase.declared.words.word.ConnectionRing.TheVariants.{Submission, Completion}
use Rattle.iox_lanes_machine.specs.LanesBase.declared.words.word.SlotWord.{SlotWord}
use Rattle.iox_lanes_machine.specs.LanesBase.declared.words.word.SlotWord.TheVariants.{Header, UserHeader, Payload}
use Rattle.iox_lanes_machine.specs.LanesBase.declared.words.word.SharedWord.TheVariants.{Ring, Slot}
use Rattle.iox_lanes_machine.specs.LanesBase.declared.calls.route.Route.{Route}
use Rattle.iox_lanes_machine.specs.LanesParties.PublisherKeeping.{may_have, may_remember, may_resize}
use Rattle.iox_lanes_machine.specs.LanesParties.Parties.{PublisherLaneState, SubscriberLaneState, lane_found, lane_remembers}
use Rattle.iox_lanes_machine.specs.LanesParties.Parties.{lane_resized, lane_named, lane_meets, receiver_meets, receiver_swapped}
use Rattle.iox_lanes_machine.specs.Links.{LinkState}
use Rattle.iox_lanes_machine.specs.World.{World}
use Rattle.iox_lanes_machine.specs.declared.found.Found.{Found}
use Rattle.iox_lanes_machine.specs.declared.found.Found.TheVariants as found

-- How many samples were found in the completion ring of a connection, which is its write position.
abbrev pub back_found : TableWords → ℕ → ℕ
back_found table connection = held_by table (Ring connection Completion Write)

-- Whether a connection takes one more slot: waiting messages and samples in its completion ring are together fewer than the cells of this
-- ring.
abbrev pub takes_more : World → ℕ → LinkState → Bool
takes_more m connection link = nat_lt (length link.found) (m.table.sizes.completion_cells - back_found m.table connection)

-- Whether there is a connection, and one more message may wait there.
abbrev pub may_wait : World → ℕ → Option LinkState → Bool
may_wait m connection None = false
may_wait m connection (Some link) = nat_lt (length link.found) link.limit && takes_more m connection link

-- Whether there is a connection, and one more sample may be in its completion ring.
abbrev pub may_be_back : World → ℕ → Option LinkState → Bool
may_be_back m connection None = false
may_be_back m connection (Some link) = takes_more m connection link

-- Whether the slot may be found to wait at the connection of this place of a publisher.
abbrev pub waits_at : World → ℕ → ℕ → PublisherLaneState → Option Route → Bool
waits_at m place slot lane None = false
waits_at m place slot lane (Some route) = may_have place slot lane.port.book
    && may_wait m route.connection (slice_get m.links route.connection)

-- Whether the slot may be found in the completion ring of the connection of this place of a publisher.
abbrev pub back_at : World → ℕ → ℕ → PublisherLaneState → Option Route → Bool
back_at m place slot lane None = false
back_at m place slot lane (Some route) = may_have place slot lane.port.book
    && may_be_back m route.connection (slice_get m.links route.connection)

-- Whether there is a publisher, and the slot may be found to wait at its connection of this place.
abbrev pub waits_of : World → ℕ → ℕ → Option PublisherLaneState → Bool
waits_of m place slot None = false
waits_of m place slot (Some lane) = waits_at m place slot lane (slice_get lane.port.routes place)

-- Whether there is a publisher, and the slot may be found in the completion ring of its connection of this place.
abbrev pub back_of : World → ℕ → ℕ → Option PublisherLaneState → Bool
back_of m place slot None = false
back_of m place slot (Some lane) = back_at m place slot lane (slice_get lane.port.routes place)

-- Whether there is a publisher, and the slot may be found to be the newest of its history.
abbrev pub newest_of : ℕ → Option PublisherLaneState → Bool
newest_of slot None = false
newest_of slot (Some lane) = may_remember slot lane.port.book

-- Whether a connection may have a buffer of this many messages: at least one, and no more than its present maximum; and nothing waits
-- there, and no sample is in its completion ring.
abbrev pub takes_buffer : TableWords → ℕ → ℕ → LinkState → Bool
takes_buffer table connection messages link = nat_lt 0 messages && nat_le messages link.limit && (length link.found == 0)
    && (back_found table connection == 0)

-- Whether there is a connection, and it may have a buffer of this many messages.
abbrev pub may_buffer : World → ℕ → ℕ → Option LinkState → Bool
may_buffer m connection messages None = false
may_buffer m connection messages (Some link) = takes_buffer m.table connection messages link

-- Whether there is a connection at a publisher's place, and it may have a buffer of this many messages.
abbrev pub buffers_at : World → ℕ → Option Route → Bool
buffers_at m messages None = false
buffers_at m messages (Some route) = may_buffer m route.connection messages (slice_get m.links route.connection)

-- Whether there is a publisher, and its connection of this place may have a buffer of this many messages.
abbrev pub buffers_of : World → ℕ → ℕ → Option PublisherLaneState → Bool
buffers_of m place messages None = false
buffers_of m place messages (Some lane) = buffers_at m messages (slice_get lane.port.routes place)

-- Whether there is a publisher, and it may be reduced to this many slots.
abbrev pub resizes_of : ℕ → Option PublisherLaneState → Bool
resizes_of slots None = false
resizes_of slots (Some lane) = may_resize slots lane.port.book

-- Whether there is a publisher.
abbrev pub is_there : Option PublisherLaneState → Bool
is_there None = false
is_there (Some lane) = true

-- Whether there is a subscriber, and it has connections at both places.
abbrev pub swaps_of : ℕ → ℕ → Option SubscriberLaneState → Bool
swaps_of one other None = false
swaps_of one other (Some lane) = nat_lt one (length lane.port.routes) && nat_lt other (length lane.port.routes)

-- Whether a slot has the word.
abbrev pub has_word : TableSizes → SlotWord → Bool
has_word sizes (Header word) = nat_lt word 3
has_word sizes (UserHeader word) = nat_lt word sizes.user_header_words
has_word sizes (Payload word) = nat_lt word sizes.payload_words

-- Whether this may be found, but for the condition that no step was made.
abbrev pub finds_now : World → Found → Bool
finds_now m (found.Waiting publisher place slot) = waits_of m place slot (slice_get m.publishers publisher)
finds_now m (found.GivenBack publisher place slot) = back_of m place slot (slice_get m.publishers publisher)
finds_now m (found.Newest publisher slot) = newest_of slot (slice_get m.publishers publisher)
finds_now m (found.Held slot word value) = nat_lt slot m.table.sizes.slots && has_word m.table.sizes word
finds_now m (found.Buffer publisher place messages) = buffers_of m place messages (slice_get m.publishers publisher)
finds_now m (found.Slots publisher slots most_loans) = resizes_of slots (slice_get m.publishers publisher)
finds_now m (found.Sender publisher node_id publisher_id fails last) = is_there (slice_get m.publishers publisher)
finds_now m (found.Swapped subscriber one other) = swaps_of one other (slice_get m.subscribers subscriber)

-- Whether this may be found; nothing may be found after the first step.
abbrev pub finds : World → Found → Bool
finds m f = (m.moments == 0) && finds_now m f

-- The table after the slot was stored in a cell of a ring, and the position after that cell in the ring's write position.
abbrev pub laid : TableWords → ℕ → ConnectionRing → ℕ → ℕ → TableWords
laid table connection ring cell slot
    = stored_in (stored_in table (Ring connection ring (Cell cell)) slot) (Ring connection ring Write) (successor cell)

-- The lanes after a message was found to wait at a connection, after those found there before.
abbrev pub waiting_in : World → ℕ → ℕ → ℕ → PublisherLaneState → ℕ → Option LinkState → World
waiting_in m publisher place slot lane connection None = m
waiting_in m publisher place slot lane connection (Some link) = record m {
  table = laid m.table connection Submission (length link.found) slot;
  links = set m.links connection (record link { found = link.found ++ slot ∷ [] });
  publishers = set m.publishers publisher (lane_found place slot lane);
}

-- The lanes after a message was found to wait at the connection of a publisher's place; the publisher's record then has the slot.
abbrev pub waiting_at : World → ℕ → ℕ → ℕ → PublisherLaneState → Option Route → World
waiting_at m publisher place slot lane None = m
waiting_at m publisher place slot lane (Some route)
    = waiting_in m publisher place slot lane route.connection (slice_get m.links route.connection)

-- The lanes after a message was found to wait at a connection of this publisher, if there is one.
abbrev pub waiting_of : World → ℕ → ℕ → ℕ → Option PublisherLaneState → World
waiting_of m publisher place slot None = m
waiting_of m publisher place slot (Some lane) = waiting_at m publisher place slot lane (slice_get lane.port.routes place)

-- The lanes after a sample was found in the completion ring of a connection, after those found there before.
abbrev pub given_at : World → ℕ → ℕ → ℕ → PublisherLaneState → Option Route → World
given_at m publisher place slot lane None = m
given_at m publisher place slot lane (Some route) = record m {
  table = laid m.table route.connection Completion (back_found m.table route.connection) slot;
  publishers = set m.publishers publisher (lane_found place slot lane);
}

-- The lanes after a sample was found in the completion ring of a connection of this publisher, if there is one.
abbrev pub given_of : World → ℕ → ℕ → ℕ → Option PublisherLaneState → World
given_of m publisher place slot None = m
given_of m publisher place slot (Some lane) = given_at m publisher place slot lane (slice_get lane.port.routes place)

-- The lanes after a slot was found to be the newest of its publisher's history.
abbrev pub remembered_of : World → ℕ → ℕ → Option PublisherLaneState → World
remembered_of m publisher slot None = m
remembered_of m publisher slot (Some lane) = record m { publishers = set m.publishers publisher (lane_remembers slot lane) }

-- The connection as its ends know it, with a buffer of this many messages and exactly the cells that these need.
abbrev pub with_buffer : ℕ → Route → Route
with_buffer messages route = record route { limit = messages; submission_cells = cells_of route.kind messages }

-- The subscribers, after this one's connection with the number of `route` was replaced by `route`, if there is such a subscriber.
abbrev pub subscribers_meet : List SubscriberLaneState → ℕ → Route → Option SubscriberLaneState → List SubscriberLaneState
subscribers_meet subscribers who route None = subscribers
subscribers_meet subscribers who route (Some lane) = set subscribers who (receiver_meets route lane)

-- The lanes after a connection was found to have a buffer of this many messages, which both its ends know.
abbrev pub buffered_in : World → ℕ → ℕ → PublisherLaneState → Route → Option LinkState → World
buffered_in m publisher messages lane route None = m
buffered_in m publisher messages lane route (Some link) = record m {
  links = set m.links route.connection (record link { limit = messages });
  publishers = set m.publishers publisher (lane_meets (with_buffer messages route) lane);
  subscribers = subscribers_meet m.subscribers link.subscriber (with_buffer messages route) (slice_get m.subscribers link.subscriber);
}

-- The lanes after the connection of a publisher's place was found to have a buffer of this many messages.
abbrev pub buffered_at : World → ℕ → ℕ → PublisherLaneState → Option Route → World
buffered_at m publisher messages lane None = m
buffered_at m publisher messages lane (Some route) = buffered_in m publisher messages lane route (slice_get m.links route.connection)

-- The lanes after a connection of this publisher, if there is one, was found to have a buffer of this many messages.
abbrev pub buffered_of : World → ℕ → ℕ → ℕ → Option PublisherLaneState → World
buffered_of m publisher place messages None = m
buffered_of m publisher place messages (Some lane) = buffered_at m publisher messages lane (slice_get lane.port.routes place)

-- The lanes after a publisher was found to have only its first slots, and this loan limit.
abbrev pub resized_of : World → ℕ → ℕ → ℕ → Option PublisherLaneState → World
resized_of m publisher slots most_loans None = m
resized_of m publisher slots most_loans (Some lane) = record m
    { publishers = set m.publishers publisher (lane_resized slots most_loans lane) }

-- The lanes after they found what the headers of a publisher's messages name, whether its sends fail at a full mailbox, and its last
-- sequence number.
abbrev pub named_of : World → ℕ → ℕ → ℕ → Bool → Option ℕ → Option PublisherLaneState → World
named_of m publisher node_id publisher_id fails last None = m
named_of m publisher node_id publisher_id fails last (Some lane) = record m {
  publishers = set m.publishers publisher (lane_named node_id publisher_id fails last lane);
}

-- The lanes after two connections of a subscriber were found swapped.
abbrev pub swapped_of : World → ℕ → ℕ → ℕ → Option SubscriberLaneState → World
swapped_of m subscriber one other None = m
swapped_of m subscriber one other (Some lane) = record m { subscribers = set m.subscribers subscriber (receiver_swapped one other lane) }

-- The lanes after this was found.
abbrev pub with_found : World → Found → World
with_found m (found.Waiting publisher place slot) = waiting_of m publisher place slot (slice_get m.publishers publisher)
with_found m (found.GivenBack publisher place slot) = given_of m publisher place slot (slice_get m.publishers publisher)
with_found m (found.Newest publisher slot) = remembered_of m publisher slot (slice_get m.publishers publisher)
with_found m (found.Held slot word value) = record m { table = stored_in m.table (Slot slot word) value }
with_found m (found.Buffer publisher place messages) = buffered_of m publisher place messages (slice_get m.publishers publisher)
with_found m (found.Slots publisher slots most_loans) = resized_of m publisher slots most_loans (slice_get m.publishers publisher)
with_found m (found.Sender publisher node_id publisher_id fails last) =
    named_of m publisher node_id publisher_id fails last (slice_get m.publishers publisher)
with_found m (found.Swapped subscriber one other) = swapped_of m subscriber one other (slice_get m.subscribers subscriber)

-- The answer of lanes that are told to find something, and the lanes afterwards.
abbrev pub FindsTo : World → Found → Bool → World → Type 0
FindsTo m f true n = (finds m f ≡ true) × (n ≡ with_found m f)
FindsTo m f false n = (finds m f ≡ false) × (n ≡ m)

-- The lanes after a list of findings, each of which may be found when its turn comes.
abbrev pub AreFound : World → List Found → World → Type 0
AreFound m [] n = n ≡ m
AreFound m (f ∷ fs) n = (finds m f ≡ true) × AreFound (with_found m f) fs n
