-- The sequence numbers that a publisher's sends give its messages, if messages have them.
use Rattle.std.specs.Prelude.{ℕ, if◌then◌else◌, nat_lt, List, length, set, Option, Some, None}
use Rattle.iox_lanes_base.specs.QueuesSteps.Access.{successor}

-- The sequence number after the last one, at most 2^64 - 1; none where messages have none.
abbrev pub number_after : Option ℕ → Option ℕ
number_after None = None
number_after (Some last) = Some (successor last)

-- The words of header and user header with this sequence number, if there is one, as the fourth word.
abbrev pub with_number : Option ℕ → List ℕ → List ℕ
with_number None head = head
with_number (Some number) head = if nat_lt 3 (length head) then set head 3 number else head
