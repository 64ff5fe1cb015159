-- The sequence numbers that a publisher's sends give its messages.
use Rattle.std.specs.Prelude.{ℕ, ◌+◌, ◌-◌, ◌^◌, ◌==◌, max, Bool, false, option_map, Option, None, Some, if◌then◌else◌}

-- The sequence number after the last one; None if messages aren't numbered.
abbrev pub next_sequence : Option ℕ → Option ℕ
next_sequence last = option_map (λ number. number + 1) last

-- Whether the sequence numbers are used up, because the last one is 2^64 - 1.
abbrev pub is_used_up : Option ℕ → Bool
is_used_up None = false
is_used_up (Some number) = number == 2 ^ 64 - 1

-- The number before the first message of a publisher, or None if messages aren't numbered. The first message gets the number
-- `first`, but 0 counts as 1.
abbrev pub before_first : Bool → ℕ → Option ℕ
before_first numbered first = if numbered then Some (max first 1 - 1) else None
