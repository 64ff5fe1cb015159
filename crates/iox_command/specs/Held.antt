-- A list for which memory is allocated with its first value.
use Rattle.std.specs.Prelude.{List, [], Option, None, Some}
use Rattle.std.specs.Global.{Vec}
use Rattle.std.specs.Vec.{vec_items}

-- The values of the list; none if no memory is allocated yet.
abbrev pub held : {T : Type 0} → Option (Vec T) → List T
held None = []
held (Some room) = vec_items room
