-- The memory that all ports of lanes need in threads.
use Rattle.std.specs.Prelude.{◌≡◌, ◌≤◌, [], length, vec_capacity}
use Rattle.atomic_table.specs.Seated.{TableId}
use Rattle.std.specs.List.{All}
use Rattle.iox_lanes_machine.specs.LanesBase.Numbers.{words_of, IsSmall}
use Rattle.iox_lanes_machine.specs.World.{World}
use Rattle.iox_lanes_threads_ports.specs.Values.{HasRoom}
use Rattle.iox_lanes_threads.specs.Opening.{first_view}
use Rattle.iox_lanes_threads.specs.declared.room.Room.{Room}

-- All ports of the lanes wait at one seat of a table with the lanes' words; each port has a share of the table, each publisher a write with
-- memory for its words, and there is memory for all ports.
pub record IsRoomFor (m : World) (room : Room) : Type 0 where
  pub of_is : room.of.value ≡ m
  pub table : room.home.table_id ≡ room.words
  pub wide : room.home.table_id.words ≡ words_of room.sizes
  pub waiting : room.home.me ≡ (first_view m, [])
  pub sizes_are : room.sizes ≡ m.table.sizes
  pub small : IsSmall room.sizes
  pub publisher_shares : All (λ (share : TableId). share ≡ room.home.table_id) room.publisher_shares.items
  pub publisher_shares_many : length room.publisher_shares.items ≡ length m.publishers
  pub subscriber_shares : All (λ (share : TableId). share ≡ room.home.table_id) room.subscriber_shares.items
  pub subscriber_shares_many : length room.subscriber_shares.items ≡ length m.subscribers
  pub writes : All (HasRoom room.sizes) room.writes.items
  pub writes_many : length room.writes.items ≡ length m.publishers
  pub publishers : (room.publishers.items ≡ []) × (length m.publishers ≤ vec_capacity room.publishers)
  pub subscribers : (room.subscribers.items ≡ []) × (length m.subscribers ≤ vec_capacity room.subscribers)
  pub publisher_room : (room.publisher_room.items ≡ []) × (length m.publishers ≤ vec_capacity room.publisher_room)
  pub subscriber_room : (room.subscriber_room.items ≡ []) × (length m.subscribers ≤ vec_capacity room.subscriber_room)
