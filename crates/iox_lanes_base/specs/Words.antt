-- The shared words of a service, and an access of a ring's end as one to them.
use Rattle.std.specs.Prelude.{ℕ, ◌%◌}
use Rattle.iox_queues_steps.specs.declared.access.Word.{Word}
use Rattle.iox_queues_steps.specs.declared.access.Word.TheVariants.{Write, Read, Cell}
use Rattle.iox_queues_steps.specs.declared.access.Access.{Access}
use Rattle.iox_queues_steps.specs.declared.access.Access.TheVariants as own
use Rattle.iox_lanes_base.specs.declared.words.word.ConnectionRing.{ConnectionRing}
use Rattle.iox_lanes_base.specs.declared.words.word.SharedWord.{SharedWord}
use Rattle.iox_lanes_base.specs.declared.words.word.SharedWord.TheVariants.{Ring}
use Rattle.iox_lanes_base.specs.declared.words.access.SharedAccess.{SharedAccess}
use Rattle.iox_lanes_base.specs.declared.words.access.SharedAccess.TheVariants.{Load, Store, Exchange, Local}

-- The word of a ring with this many cells: positions go round its cells.
abbrev pub cell_word : ℕ → Word → Word
cell_word cells Write = Write
cell_word cells Read = Read
cell_word cells (Cell position) = Cell (position % cells)

-- A word of a ring as a word of its connection.
abbrev pub in_ring : ℕ → ConnectionRing → ℕ → Word → SharedWord
in_ring connection ring cells word = Ring connection ring (cell_word cells word)

-- An access of a ring's end as one to the ring of a connection.
abbrev pub on_ring : ℕ → ConnectionRing → ℕ → Access → SharedAccess
on_ring connection ring cells (own.Load word) = Load (in_ring connection ring cells word)
on_ring connection ring cells (own.Store word value) = Store (in_ring connection ring cells word) value
on_ring connection ring cells (own.Exchange word old new) = Exchange (in_ring connection ring cells word) old new
on_ring connection ring cells own.Local = Local
