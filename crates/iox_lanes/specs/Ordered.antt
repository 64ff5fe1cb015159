-- The order in which the subscribers of a domain that becomes lanes go over their connections.
use Rattle.std.specs.Prelude.{ℕ, zero, suc, ◌-◌, ◌^◌, ◌==◌, Bool, false, is_some, count_by, List, take, length, get_or, slice_get}
use Rattle.std.specs.Prelude.{unwrap_or, Option, None, Some}
use Rattle.std.specs.List.{position}
use Rattle.iox_domain.specs.DomainPorts.declared.attached.Attached.{Attached}
use Rattle.iox_domain.specs.DomainPorts.declared.subscriber_port.SubscriberPort.{SubscriberPort}
use Rattle.iox_lanes_machine.specs.LanesBase.declared.calls.route.Route.{Route}
use Rattle.iox_lanes_machine.specs.LanesParties.Parties.{SubscriberLaneState}
use Rattle.iox_lanes_machine.specs.Links.{LinkState}
use Rattle.iox_lanes_machine.specs.World.{World}
use Rattle.iox_lanes_machine.specs.declared.found.Found.TheVariants as found
use Rattle.iox_lanes.specs.Behind.{behind_finding}
use Rattle.iox_lanes.specs.Holding.{reader_if}

-- Whether there is a number, and it is this one.
abbrev pub is_this_number : ℕ → Option ℕ → Bool
is_this_number number None = false
is_this_number number (Some other) = other == number

-- Whether there is a link, and it comes from the publisher with this number.
abbrev pub comes_from : List ℕ → ℕ → Option LinkState → Bool
comes_from publishers number None = false
comes_from publishers number (Some link) = is_this_number number (slice_get publishers link.publisher)

-- Whether the connection of this route comes from the publisher with this number.
abbrev pub leads_here : World → List ℕ → ℕ → Route → Bool
leads_here lanes publishers number route = comes_from publishers number (slice_get lanes.links route.connection)

-- The place at which a subscriber of the lanes has the connection from the publisher with this number; 2^64 - 1 if it has none.
abbrev pub route_place : World → List ℕ → ℕ → Option SubscriberLaneState → ℕ
route_place lanes publishers number None = 2 ^ 64 - 1
route_place lanes publishers number (Some lane) = unwrap_or (position (leads_here lanes publishers number) lane.port.routes) (2 ^ 64 - 1)

-- The lanes after the subscriber's connection from its publisher changed places with the connection at place `to`; the lanes as they are if
-- there is no connection.
abbrev pub swap_behind : List ℕ → ℕ → ℕ → World → Option Attached → World
swap_behind publishers subscriber to m None = m
swap_behind publishers subscriber to m (Some attached) =
    behind_finding m (found.Swapped subscriber to (route_place m publishers attached.publisher (slice_get m.subscribers subscriber)))

-- The lanes after the subscriber's connections with the first `count` keys were moved to their places: each to the place whose number is
-- the number of connections with earlier keys.
abbrev pub keys_behind : List ℕ → ℕ → List (Option Attached) → World → ℕ → World
keys_behind publishers subscriber values m zero = m
keys_behind publishers subscriber values m (suc count) =
    swap_behind publishers subscriber (count_by is_some (take count values)) (keys_behind publishers subscriber values m count)
    (get_or values count None)

-- The lanes after all connections of the subscriber at this place were moved to their places, if the subscriber is in the domain.
abbrev pub reader_behind : List ℕ → ℕ → World → Option SubscriberPort → World
reader_behind publishers subscriber m None = m
reader_behind publishers subscriber m (Some port) =
    keys_behind publishers subscriber port.connections.values m (length port.connections.values)

-- The lanes after all connections of the first `count` subscribers of the list were moved to their places.
abbrev pub readers_behind : List ℕ → List (ℕ × SubscriberPort) → List ℕ → World → ℕ → World
readers_behind publishers readers subscribers m zero = m
readers_behind publishers readers subscribers m (suc count) =
    reader_behind publishers count (readers_behind publishers readers subscribers m count) (reader_if readers (slice_get subscribers count))
