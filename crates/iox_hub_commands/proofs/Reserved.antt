-- How far the capacity of a table grows where some is reserved.
use Rattle.std.proofs.Common.{arith, ◌≡◌, ◌≤◌, ◌+◌, ◌-◌, ◌^◌, ℕ, length, min, max, Result, Ok, Err, ap}
use Rattle.std.specs.Prelude.{OnOk, OnErr}
use Rattle.iox_delivery.specs.Container.NumberTable.{NumberTable, with_room}
use Rattle.iox_hub_commands.specs.PortRoom.{GrowsTwice}
use Rattle.iox_hub_commands.specs.Tables.{SameNumbers}

-- what a table had is within what it may have
pub stays_within : (room wanted : ℕ) → room ≤ max room wanted
stays_within room wanted = omega arith

-- a table for which so much was asked has no more than that, or what it had
pub grows_to : {V A E : Type 0} (result : Result A E) (old new : NumberTable V) (room : ℕ) → OnOk result (new ≡ with_room old room)
    → OnErr result (new ≡ old) → new.room ≤ max old.room room
grows_to (Ok value) old new room reserved same = let is = ap (λ table. table.room) reserved in omega (arith, is)
grows_to (Err error) old new room reserved same = let is = ap (λ table. table.room) same in omega (arith, is)

-- what is needed at least adds nothing to twice as many
pub grows_twice : {V : Type 0} (old mid new : NumberTable V) (left more factories : ℕ) → SameNumbers old mid
    → GrowsTwice (length old.entries + left + more) factories old mid
    → new.room ≤ max mid.room (length mid.entries + (left + more) + 1)
    → GrowsTwice (length old.entries + left + more) (factories + 1) old new
grows_twice old mid new left more factories same twice least = let is = ap length same.0 in omega (arith, is, twice, least)

-- a table that stays hasn't grown
pub grows_nowhere : {V : Type 0} (table : NumberTable V) (reserved beside : ℕ) → GrowsTwice reserved beside table table
grows_nowhere table reserved beside = omega arith

-- what is left is counted up to the largest number
pub grows_as_left : {V : Type 0} (old new : NumberTable V) (count left all more beside : ℕ) → left ≡ min all (2 ^ 64 - 1)
    → GrowsTwice (count + left + more) beside old new → GrowsTwice (count + all + more) beside old new
grows_as_left old new count left all more beside is grows = omega (arith, is, grows)

-- twice as many as are known to be reserved are no more than twice as many as are reserved
pub grows_as_more : {V : Type 0} (old new : NumberTable V) (count all more beside : ℕ) → GrowsTwice (count + more) beside old new
    → GrowsTwice (count + all + more) (beside + 1) old new
grows_as_more old new count all more beside grows = omega (arith, grows)
