-- What ports agree on that were gathered in one seat.
use Rattle.std.specs.Prelude.{ℕ, ◌≡◌, ◌-◌, ◌<◌, ◌^◌, List, [], ◌++◌, slice_get, Some}
use mathlib.Core.Option.{some}
use lib.ListN.{get_elem?}
use Rattle.atomic_table.specs.Table.{Me, Step}
use Rattle.iox_lanes_machine.specs.QueuesSteps.declared.access.Word.TheVariants.{Write}
use Rattle.iox_lanes_machine.specs.LanesBase.declared.words.word.ConnectionRing.{ConnectionRing}
use Rattle.iox_lanes_machine.specs.LanesBase.declared.words.word.SharedWord.{SharedWord}
use Rattle.iox_lanes_machine.specs.LanesBase.declared.words.word.SharedWord.TheVariants.{Ring}
use Rattle.iox_lanes_threads_rule.specs.Rule.{held}
use Rattle.iox_lanes_threads_rule.specs.Service.{Stores}
use Rattle.iox_lanes_threads_rule.specs.declared.service.Service.{Service}
use Rattle.iox_lanes_threads_rule.specs.declared.view.Port.{Port}
use Rattle.iox_lanes_threads_rule.specs.declared.view.View.{View}

-- The views of two seats in one.
abbrev pub both_views : View → View → View
both_views one other = record { from = 0; waiting = []; ports = one.ports ++ other.ports }

-- The view of a seat without ports.
abbrev pub no_view : View
no_view = record { from = 0; waiting = []; ports = [] }

-- Each write position is stored by one of these ports, which knows that it isn't 2^64 - 1.
abbrev pub KnowEarly : Service → List Port → Type 0
KnowEarly s ports = (connection : ℕ) (ring : ConnectionRing) → connection < s.sizes.connections
    → (at : ℕ) × (p : Port) × (get_elem? ports at ≡ some p) × Stores s p.name (Ring connection ring Write)
    × (held s p.known (Ring connection ring Write) < 2 ^ 64 - 1)

-- If one of these ports has loaded a word of a sample that it still holds, its value is the one that the port which stores the word knows,
-- provided that this port is one of them too. This holds as long as they know that no write position is 2^64 - 1.
abbrev pub Agree : List Port → Type 0
Agree ports = (at number place : ℕ) (q p : Port) (w : SharedWord) → get_elem? ports at ≡ some q → get_elem? ports number ≡ some p
    → KnowEarly q.service ports → slice_get q.seen place ≡ Some w → Stores q.service p.name w
    → held q.service q.known w ≡ held q.service p.known w

-- What a seat knows after a load of a word by one of its ports: the seat is as it was before, and its ports agree (`Agree`).
abbrev pub agreed : Step ℕ → Me ℕ View → ℕ → Me ℕ View → Type 0
agreed step before found me = (me ≡ before) × Agree before.0.ports
