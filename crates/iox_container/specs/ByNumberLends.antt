-- What a list of values by number is, once a `&mut` to one of its values has ended.
use Rattle.std.specs.Prelude.{ℕ, List, Option}
use Rattle.std.specs.Borrow.{Fml, Lends, LendsIf, MutBor, RattleType}
use Rattle.std.specs.BTreeMap.{is_at}
use Rattle.std.specs.Map.{set_value}
use Rattle.std.specs.Ordering.{nat_cmp}
use Rattle.iox_container.specs.contracts.by_number.listed.ByNumber.{the_row}

-- The number has a value, and once the reference has ended, its value is the last one that was written through the reference.
abbrev pub LendsStanding : (X : RattleType) → MutBor (List (ℕ × X.Denot)) → ℕ → MutBor X.Denot → Fml
LendsStanding X lent number answer = Lends (the_row X) X lent answer (set_value (is_at (nat_cmp number)) lent.now)

-- Once the reference has ended, the number's value is the last one that was written through the reference. If the number had no value,
-- nothing has changed.
abbrev pub LendsUnder : (X : RattleType) → MutBor (List (ℕ × X.Denot)) → ℕ → Option (MutBor X.Denot) → Fml
LendsUnder X lent number answer = LendsIf (the_row X) X lent answer (set_value (is_at (nat_cmp number)) lent.now) lent.now
