-- The rule of the words: what is true of them, and of what each port knows, between any two steps.
use Rattle.std.specs.Prelude.{ℕ, ◌≡◌, ◌+◌, ◌<◌, ◌≤◌, List, [], ◌∷◌, length, slice_get, slice_index, Some}
use mathlib.Core.Option.{some}
use lib.ListN.{get_elem?}
use Rattle.atomic_table.specs.Table.{State}
use Rattle.iox_lanes_parties.specs.QueuesSteps.declared.rings.ends.RingKind.TheVariants.{Overflowing}
use Rattle.iox_lanes_parties.specs.LanesBase.Numbers.{number_of, words_of, IsWord}
use Rattle.iox_lanes_parties.specs.LanesBase.declared.words.word.SharedWord.{SharedWord}
use Rattle.iox_lanes_parties.specs.declared.call.Party.TheVariants.{Subscriber}
use Rattle.iox_lanes_threads_rule.specs.Service.{number_among, Stores, IsPosition, IsCell, RangesInRows, write_word, read_word}
use Rattle.iox_lanes_threads_rule.specs.declared.service.Line.{Line}
use Rattle.iox_lanes_threads_rule.specs.declared.service.Service.{Service}
use Rattle.iox_lanes_threads_rule.specs.declared.view.Port.{Port}
use Rattle.iox_lanes_threads_rule.specs.declared.view.View.{View}

-- The value that the list has for a word: its value, if these are the words; what a port knows of it, if these are the port's.
abbrev pub held : Service → List ℕ → SharedWord → ℕ
held s words w = slice_index words (number_of s.sizes w)

-- The port is one of the service at its number, and knows something of each word.
pub record IsPort (s : Service) (at : ℕ) (p : Port) : Type 0 where
  pub service : p.service ≡ s
  pub number : p.number ≡ at
  pub name : number_among s p.name ≡ at
  pub wide : length p.known ≡ words_of s.sizes

-- The connection is one of the service, and its submission ring overflows.
pub record Overflows (s : Service) (connection : ℕ) (line : Line) : Type 0 where
  pub there : connection < s.sizes.connections
  pub found : slice_get s.lines connection ≡ Some line
  pub kind : line.kind ≡ Overflowing

-- Words and ports fit. Each word that only one port stores is what that port knows of it. No port knows more of a position than it has come
-- to. Each cell names a slot. In an overflowing ring the read position is at most the write position, and below it if the subscriber
-- doesn't know of the read position's last move.
pub record Fits (s : Service) (words : List ℕ) (all : List Port) : Type 0 where
  pub rows : RangesInRows s
  pub spare : slice_index words 0 ≡ 0
  pub wide : length words ≡ words_of s.sizes
  pub ports : (number : ℕ) (p : Port) → get_elem? all number ≡ some p → IsPort s number p
  pub copied : (number : ℕ) (p : Port) (w : SharedWord) → get_elem? all number ≡ some p → IsWord s.sizes w → Stores s p.name w
      → held s p.known w ≡ held s words w
  pub grows : (number : ℕ) (p : Port) (w : SharedWord) → get_elem? all number ≡ some p → IsWord s.sizes w → IsPosition w
      → held s p.known w ≤ held s words w
  pub cells : (w : SharedWord) → IsWord s.sizes w → IsCell w → 0 < s.sizes.slots → held s words w < s.sizes.slots
  pub shared : (connection : ℕ) (line : Line) → Overflows s connection line
      → held s words (read_word connection) ≤ held s words (write_word connection)
  pub moved : (connection : ℕ) (line : Line) (number : ℕ) (p : Port) → Overflows s connection line → get_elem? all number ≡ some p
      → p.name ≡ Subscriber line.subscriber
      → (held s p.known (read_word connection) ≡ held s words (read_word connection) → ⊥)
      → held s words (read_word connection) < held s words (write_word connection)

-- This seat has the port, which is the one with its number in the list.
abbrev pub Sits : (ℕ → ℕ) → List Port → ℕ → Port → Type 0
Sits owner ports seat p = (owner p.number ≡ seat) × (get_elem? ports p.number ≡ some p)

-- There is a list of all ports that fits the words, and each port is on one seat; those that wait on a seat have numbers one after the
-- other.
pub record Ruled (fits : List ℕ → List Port → Type 0) {S : Type 0} (state : State S View) : Type 0 where
  pub ports : List Port
  pub owner : ℕ → ℕ
  pub fit : fits state.words ports
  pub waiting : (seat : ℕ) (v : View) (i : ℕ) (p : Port) → get_elem? state.views seat ≡ some v → get_elem? v.waiting i ≡ some p
      → (p.number ≡ v.from + i) × Sits owner ports seat p
  pub seated : (seat : ℕ) (v : View) (i : ℕ) (p : Port) → get_elem? state.views seat ≡ some v → get_elem? v.ports i ≡ some p
      → Sits owner ports seat p

-- The view of a seat with one port.
abbrev pub one : Port → View
one p = record { from = 0; waiting = []; ports = p ∷ [] }
