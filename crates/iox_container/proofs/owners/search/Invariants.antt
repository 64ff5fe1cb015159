use Rattle.std.proofs.Common.{ℕ, ◌≤◌, ◌<◌, ◌-◌, ◌≡◌, length, get_or}
use Rattle.iox_container.specs.Owners.{IsBefore, IsBehind}
use Rattle.iox_container.proofs.owners.search.Given as goal

abbrev pub invariant-loop-low : goal.invariant-loop-low
invariant-loop-low l =
    record {
      order : l.low ≤ l.high;
      within : l.high ≤ length l.fn.entries;
      owner : l.owner ≡ l.fn.owner;
      place : l.place ≡ l.fn.place;
      before : (k : ℕ) (default : ℕ × ℕ) → k < l.low → IsBefore (get_or l.fn.entries k default) (l.fn.owner, l.fn.place);
      behind : (k : ℕ) (default : ℕ × ℕ) → l.high ≤ k → k < length l.fn.entries
          → IsBehind (get_or l.fn.entries k default) (l.fn.owner, l.fn.place);
    }

abbrev pub decreases-loop-low : goal.decreases-loop-low
decreases-loop-low l = l.high - l.low
