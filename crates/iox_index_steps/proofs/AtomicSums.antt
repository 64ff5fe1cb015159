-- What one more step adds to the times_moved, and to the words that were put, made current or found.
use Rattle.std.proofs.Common.{◌≡◌, ℕ, ◌+◌, List, [], ◌∷◌, ◌++◌, refl, arith}
use Rattle.iox_queues.specs.declared.bits.machine.Event.{Event}
use Rattle.iox_index_steps.specs.AtomicTold.{current_after, current_by, found_after, found_by, times_moved, moved_by, put_after, put_by}

pub more_moved : (events : List Event) (e : Event) → times_moved (events ++ e ∷ []) ≡ times_moved events + moved_by e.access
more_moved [] e = omega arith
more_moved (x ∷ events) e = omega (arith, more_moved events e)

pub more_put : (put : List ℕ) (events : List Event) (e : Event) → put_after put (events ++ e ∷ []) ≡ put_by e.access (put_after put events)
more_put put [] e = refl
more_put put (x ∷ events) e = more_put (put_by x.access put) events e

pub more_current : (put current : List ℕ) (events : List Event) (e : Event)
    → current_after put current (events ++ e ∷ []) ≡ current_by e.access (put_after put events) (current_after put current events)
more_current put current [] e = refl
more_current put current (x ∷ events) e = more_current (put_by x.access put) (current_by x.access put current) events e

pub more_found : (found : List ℕ) (events : List Event) (e : Event)
    → found_after found (events ++ e ∷ []) ≡ found_by e.access e.answer (found_after found events)
more_found found [] e = refl
more_found found (x ∷ events) e = more_found (found_by x.access x.answer found) events e
