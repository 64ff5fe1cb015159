-- What both kinds of port meet: places of lists, tests that hold, and an access of a ring as one to words of the service.
use Rattle.std.proofs.Common.{ℕ, ◌≡◌, ◌<◌, ◌≤◌, Bool, true, false, ◌&&◌, List, slice_get, Some, refl, subst, arith}
use Rattle.std.proofs.lemmas.Nat.{mod_below}
use Rattle.std.proofs.lemmas.Option.{slice_get_within, get_or_from_slice_get}
use Rattle.std.proofs.lemmas.List.Elements.{All-get_or}
use Rattle.std.specs.List.{All}
use Rattle.iox_lanes_parties.specs.QueuesSteps.declared.access.Word.{Word}
use Rattle.iox_lanes_parties.specs.QueuesSteps.declared.access.Word.TheVariants.{Write, Read, Cell}
use Rattle.iox_lanes_parties.specs.QueuesSteps.declared.access.Access.{Access}
use Rattle.iox_lanes_parties.specs.QueuesSteps.declared.access.Access.TheVariants as own
use Rattle.iox_lanes_parties.specs.LanesBase.Numbers.{most_cells, IsRingWord}
use Rattle.iox_lanes_parties.specs.LanesBase.Table.{IsOfTable}
use Rattle.iox_lanes_parties.specs.LanesBase.Words.{cell_word, on_ring}
use Rattle.iox_lanes_parties.specs.LanesBase.declared.words.sizes.TableSizes.{TableSizes}
use Rattle.iox_lanes_parties.specs.LanesBase.declared.words.word.ConnectionRing.{ConnectionRing}

pub and_left : (a b : Bool) → (a && b) ≡ true → a ≡ true
and_left true b h = refl
and_left false b h = absurd (cc)

pub and_right : (a b : Bool) → (a && b) ≡ true → b ≡ true
and_right true b h = h
and_right false b h = absurd (cc)

-- what holds of all holds of the one at a place
pub all_at : {X : Type 0} (P : X → Type 0) (xs : List X) (at : ℕ) (x : X) → slice_get xs at ≡ Some x → All P xs → P x
all_at P xs at x e h = subst P (get_or_from_slice_get xs at x x e) (All-get_or P xs at x (slice_get_within xs at x e) h)

round_within : (cells most : ℕ) (word : Word) → 0 < cells → cells ≤ most → IsRingWord most (cell_word cells word)
round_within cells most Write some room = tt
round_within cells most Read some room = tt
round_within cells most (Cell position) some room = omega (arith, mod_below position cells some)

-- an access of a ring's end is one to words of the service
pub ring_within : (sizes : TableSizes) (connection : ℕ) (ring : ConnectionRing) (cells : ℕ) (access : Access)
    → connection < sizes.connections → 0 < cells → cells ≤ most_cells sizes ring
    → IsOfTable sizes (on_ring connection ring cells access)
ring_within sizes connection ring cells (own.Load word) there some room = (there, round_within cells (most_cells sizes ring) word some room)
ring_within sizes connection ring cells (own.Store word value) there some room
    = (there, round_within cells (most_cells sizes ring) word some room)
ring_within sizes connection ring cells (own.Exchange word old new) there some room
    = (there, round_within cells (most_cells sizes ring) word some room)
ring_within sizes connection ring cells own.Local there some room = tt
