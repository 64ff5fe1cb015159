-- The numbers of lanes' connections, slots and words are counted before ports are made, so no sum or product of them wraps.
use Rattle.std.proofs.Common.{ℕ, ◌≡◌, ◌*◌, ◌≤◌, ◌<◌, zero, suc, subst, arith}
use Rattle.std.proofs.Math.Nat.{le-mul_of_pos_right}
use Rattle.iox_lanes_machine.specs.LanesBase.Numbers.{connection_words, slot_words, IsSmall}
use Rattle.iox_lanes_machine.specs.LanesBase.declared.words.sizes.TableSizes.{TableSizes}
use Rattle.iox_lanes_machine.specs.Made.{AreCounted, table_sizes}
use Rattle.iox_lanes_machine.specs.declared.sizes.LaneSizes.{LaneSizes}

-- a table whose words are counted has fewer connections and slots than words
pub counted : (sizes : LaneSizes) (table : TableSizes) → table ≡ table_sizes sizes → IsSmall table → AreCounted sizes
counted sizes table e small =
    let counts : IsSmall (table_sizes sizes) = subst IsSmall e small in
    let connections : sizes.publishers * sizes.subscribers ≤ sizes.publishers * sizes.subscribers * connection_words (table_sizes sizes)
    = le-mul_of_pos_right (sizes.publishers * sizes.subscribers) (omega arith) in
    let slots : sizes.publishers * sizes.slots ≤ sizes.publishers * sizes.slots * slot_words (table_sizes sizes)
    = le-mul_of_pos_right (sizes.publishers * sizes.slots) (omega arith) in
    record {
      connections = omega (arith, connections, counts.all);
      slots = omega (arith, slots, counts.all);
      words = counts.slot;
    }

-- where there is a connection there is a subscriber
pub some_subscriber : (publishers subscribers count connection : ℕ) → count ≡ publishers * subscribers → connection < count
    → 0 < subscribers
some_subscriber publishers zero count connection e h =
    let none : publishers * 0 ≡ 0 = omega arith in
    absurd (omega (arith, e, none, h))
some_subscriber publishers (suc subscribers) count connection e h = omega arith
