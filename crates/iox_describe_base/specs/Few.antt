-- A list of at most eight values, whose memory is allocated with the first value.
use Rattle.std.specs.Prelude.{◌≤◌, List, [], length, Option, None, Some}
use Rattle.std.specs.Global.{Vec}
use Rattle.std.specs.Vec.{vec_items, vec_capacity}

-- The values in the memory, or none if it isn't allocated yet.
abbrev pub held : {T : Type 0} → Option (Vec T) → List T
held None = []
held (Some room) = vec_items room

-- The memory, if it is allocated, has capacity for eight values and holds at most eight.
abbrev pub HasRoom : {T : Type 0} → Option (Vec T) → Type 0
HasRoom None = Unit {0}
HasRoom (Some room) = (length (vec_items room) ≤ 8) × (8 ≤ vec_capacity room)
