use Rattle.std.proofs.Common.{ap, subst, get_or, map, true, Ok, Err, Option, List, ◌≡◌, ◌<◌, ℕ, Result, None}
use Rattle.std.specs.Prelude.{is_some, IfOk}
use Rattle.std.specs.declared.alloc.AllocError.{AllocError}
use Rattle.iox_domain_slots.specs.Uses.{nobody, is_there, Connection}
use Rattle.iox_domain_slots.specs.Links.{LinkState, seen}
use Rattle.iox_domain_slots.proofs.AllSlots.{seen_there}
use Rattle.iox_domain_slots.proofs.uses.SlotUses.connect.Goals as goal

-- below the index that was answered each has a connection, as seen
lowest_seen : (links : List (Option LinkState)) (connections : List (Connection ℕ)) (result : Result ℕ AllocError)
    → map seen links ≡ connections
    → IfOk result (λ index. (lower : ℕ) → lower < index → is_some (get_or links lower None) ≡ true)
    → IfOk result (λ index. (lower : ℕ) → lower < index → is_there (get_or connections lower nobody) ≡ true)
lowest_seen links connections (Err error) is lowest = lowest
lowest_seen links connections (Ok index) is lowest = λ lower below.
    subst (λ all. is_there (get_or all lower nobody) ≡ true) is (seen_there links lower (lowest lower below))

pub returns-clause-lowest : goal.returns-clause-lowest
returns-clause-lowest c = lowest_seen c.self.inside.links.links c.args.self.now.connections c.connect.result
    (ap (λ uses. uses.connections) c.self.view_is) c.connect.ensures.lowest
