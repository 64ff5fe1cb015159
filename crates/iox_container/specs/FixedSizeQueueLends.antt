-- What a queue of fixed size holds after a mutable reference to its oldest item ends.
use Rattle.std.specs.Prelude.{List, Option, slice_set}
use Rattle.std.specs.Borrow.{Fml, LendsIf, MutBor, RattleType}
use Rattle.iox_container.specs.contracts.queue.fixed_size_queue.FixedSizeQueue.{the_row}

module _ (T CAPACITY : RattleType) where
  -- When the reference ends, the queue has its last value as the oldest item; an empty queue stays as it was.
  abbrev pub LendsOldest : MutBor (List T.Denot) → Option (MutBor T.Denot) → Fml
  LendsOldest queue answer = LendsIf (the_row T CAPACITY) T queue answer (slice_set queue.now 0) queue.now
