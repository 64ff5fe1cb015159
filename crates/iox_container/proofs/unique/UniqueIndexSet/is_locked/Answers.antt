use Rattle.std.proofs.Common.{ℕ, ◌≡◌, ◌-◌, List, Bool, false, length, reverse, arith}
use Rattle.std.proofs.lemmas.Bool.{false_from_ne_true}
use Rattle.iox_container.specs.Unique.{UniqueSetState, AreFree, is_held}
use Rattle.iox_container.proofs.FreeLists.{AreFree-room, held-means}
use Rattle.iox_container.proofs.unique.UniqueIndexSet.is_locked.Goals as goal

nobody : (held : List Bool) (free : List ℕ) (locked : Bool) (index : ℕ) → AreFree held free → length held - length free ≡ 0
    → is_held index (record { capacity = length held; free = free; locked = locked }) ≡ false
nobody held free locked index f none =
    let set : UniqueSetState = record { capacity = length held; free = free; locked = locked } in
    false_from_ne_true (is_held index set)
    (λ h. let means = held-means index set h in let room = AreFree-room held index free f means.0 means.1 in omega (arith, room, none))

pub returns-clause-unheld : goal.returns-clause-unheld
returns-clause-unheld c = λ locked index.
    rw (← c.self.view_is) (nobody c.self.inside.held.items (reverse c.self.inside.free.items) c.self.inside.locked index
    c.self.invariant.0 (c.self.invariant.2 locked))
