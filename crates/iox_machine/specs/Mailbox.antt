-- The mailbox of a connection.
use Rattle.std.specs.Prelude.{ℕ, ◌-◌, Bool, not, ◌&&◌, ◌==◌, nat_le, nat_lt, List, [], ◌∷◌, ◌++◌, length, drop, Option}
use Rattle.std.specs.Prelude.{None, Some, if◌then◌else◌}
use Rattle.iox_machine.specs.Message.{Message}

-- A mailbox: the maximum number of waiting messages, the messages that wait, and those that its subscriber has borrowed, both oldest first.
pub record Mailbox (T : Type 0) : Type 0 where
  pub limit : ℕ
  pub waiting : List (Message T)
  pub borrowed : List (Message T)

-- The last `count` elements of the list; the whole list, if it has fewer.
abbrev pub newest : {X : Type 0} → ℕ → List X → List X
newest count xs = drop (length xs - count) xs

module _ {T : Type 0} where
  -- Whether no message waits in the mailbox, and none of its messages is borrowed.
  abbrev pub is_idle : Mailbox T → Bool
  is_idle box = not (nat_lt 0 (length box.waiting)) && length box.borrowed == 0

  -- The mailbox after a message was put into it, as the last of those that wait. With safe overflow, the oldest message is dropped if more
  -- than `limit` would wait; without safe overflow, a full mailbox refuses the message (`None`).
  abbrev pub put : Bool → Message T → Mailbox T → Option (Mailbox T)
  put overflows message box =
      if not overflows && nat_le box.limit (length box.waiting) then None
      else Some (record box { waiting = newest box.limit (box.waiting ++ message ∷ []) })
