-- What a queue holds after a mutable reference to its oldest item ends.
use Rattle.std.specs.Prelude.{Option, slice_set}
use Rattle.std.specs.Borrow.{Fml, LendsIf, MutBor, RattleType}
use Rattle.iox_container.specs.BoundedList.{BoundedList}
use Rattle.iox_container.specs.contracts.queue.Queue.{the_row}

-- The queue with another oldest item.
abbrev pub with_oldest : {T : Type 0} → BoundedList T → T → BoundedList T
with_oldest queue oldest = record { items = slice_set queue.items 0 oldest; capacity = queue.capacity }

module _ (T : RattleType) where
  -- When the reference ends, the queue has its last value as the oldest item; an empty queue stays as it was.
  abbrev pub LendsOldest : MutBor (BoundedList T.Denot) → Option (MutBor T.Denot) → Fml
  LendsOldest queue answer = LendsIf (the_row T) T queue answer (with_oldest queue.now) queue.now
