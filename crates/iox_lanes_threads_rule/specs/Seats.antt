-- The words as threads share them, and the seat at which ports wait for seats of their own.
use Rattle.std.specs.Prelude.{ℕ, ◌≡◌, ◌+◌, List, [], ◌∷◌}
use Rattle.atomic_table.specs.Seated.{TableId}
use Rattle.atomic_table.specs.Table.{Me}
use Rattle.iox_lanes_threads_rule.specs.Acts.{first_port}
use Rattle.iox_lanes_threads_rule.specs.Rule.{one}
use Rattle.iox_lanes_threads_rule.specs.declared.view.Port.{Port}
use Rattle.iox_lanes_threads_rule.specs.declared.view.View.{View}

-- The words that threads share, identified by their table.
pub record WordsState : Type 0 where
  pub table_id : TableId

-- The view in which the first `from` ports have seats of their own, and these wait for one.
abbrev pub waits : ℕ → List Port → View
waits from ports = record { from = from; waiting = ports; ports = [] }

-- The ports after the first.
abbrev pub behind_first : List Port → List Port
behind_first [] = []
behind_first (p ∷ ps) = ps

-- The view after the first waiting port was given out.
abbrev pub others_wait : View → View
others_wait v = waits (v.from + 1) (behind_first v.waiting)

-- The view of the seat that the first waiting port was given.
abbrev pub first_seated : View → View
first_seated v = one (first_port v.waiting)

-- At least one port waits at the seat, and no port sits there.
abbrev pub IsWaiting : Me ℕ View → Type 0
IsWaiting me = me ≡ (waits me.0.from (first_port me.0.waiting ∷ behind_first me.0.waiting), [])
