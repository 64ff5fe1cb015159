-- Calls that make capacity for one more value before they do anything else.
use Rattle.std.specs.Prelude.{◌≡◌, Result, Ok, Err}
use Rattle.std.specs.declared.alloc.AllocError.{AllocError}
use Rattle.iox_hub_commands.specs.Tables.{IsRoomier}
use Rattle.iox_hub_commands.specs.declared.ports.made.Made.{Made}

-- A call is made after there is capacity, and making the capacity changes nothing else. If memory runs out for it, nothing happens;
-- capacity is only made if the table is full.
abbrev pub GrowsFirst : {H A : Type 0} → Type 0 → (Made → H → A → Made → H → Type 0) → Made → H → Result A AllocError → Made → H → Type 0
GrowsFirst is_full call made old (Err error) made_after new = is_full × (made_after ≡ made) × (new ≡ old)
GrowsFirst is_full call made old (Ok answer) made_after new = (roomier : Made) × IsRoomier made roomier
    × call roomier old answer made_after new
