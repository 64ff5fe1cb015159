-- Each borrowed, waiting or remembered message is in an existing slot.
use Rattle.std.proofs.Common.{arith, ℕ, zero, suc, ◌≡◌, ◌+◌, ◌<◌, ◌≤◌, ◌==◌, ◌∷◌, [], ◌++◌, List, length, get_or, option_to_list}
use Rattle.std.proofs.Common.{None, Some, Bool, true, false, cond, is_some, nat_lt, position, slice_get, rules, refl, sym, ◌∙◌}
use Rattle.std.specs.List.{position_or_len}
use Rattle.iox_container.specs.Unique.{is_among}
use Rattle.iox_domain_slots.specs.Counting.{times}
use Rattle.iox_domain_slots.specs.Uses.{Uses, Connection, held_by, held, in_use, nobody, connection_at}
use Rattle.iox_domain_slots.proofs.Counts.{times_append, times_cons, one_same}
use Rattle.iox_domain_slots.proofs.Borrowing.{among_counted}
use Rattle.iox_domain_slots.proofs.Linking.{head_times}
use Rattle.iox_domain_ports.proofs.Seen.{any_first}
use Rattle.iox_domain_ports.specs.MessagesSending.{Store, IsSender}

-- what one connection has borrowed is held
borrowed_held : (slot index : ℕ) (connections : List (Connection ℕ))
    → times slot (get_or connections index nobody).borrowed ≤ times slot (held connections)
borrowed_held slot index [] = omega arith
borrowed_held slot zero (connection ∷ connections) =
    omega (arith, times_append slot (held_by connection) (held connections), times_append slot connection.waiting connection.borrowed)
borrowed_held slot (suc index) (connection ∷ connections) =
    omega (arith, times_append slot (held_by connection) (held connections), borrowed_held slot index connections)

-- what a connection has borrowed is in use
borrowed_used : (slot index : ℕ) (uses : Uses ℕ ℕ) → times slot (connection_at index uses).borrowed ≤ times slot (in_use uses)
borrowed_used slot index uses =
    omega (
      arith,
      borrowed_held slot index uses.connections,
      times_append slot (option_to_list uses.sending) (uses.loans ++ (uses.history ++ held uses.connections)),
      times_append slot uses.loans (uses.history ++ held uses.connections),
      times_append slot uses.history (held uses.connections),
    )

-- what is borrowed stands in a slot that there is
pub borrowed_inside : {T U : Type 0} (store : Store T U) (uses : Uses ℕ ℕ) (slot index : ℕ) → IsSender store uses
    → is_among slot (connection_at index uses).borrowed ≡ true → slot < uses.first + uses.size
borrowed_inside store uses slot index sender there = sender.within slot (omega (
  arith,
  among_counted slot (connection_at index uses).borrowed there,
  borrowed_used slot index uses,
))

-- whether a slot is among those of a list is told by where it is first
pub among_first : (slot : ℕ) (xs : List ℕ) → is_among slot xs ≡ is_some (position (λ other. other == slot) xs)
among_first slot xs =
    sym (any_first (λ other. other) slot xs)
    ∙ at (nat_lt (position_or_len (λ other. other == slot) xs) (length xs)) (position_or_len (λ other. other == slot) xs)
  where
    at : (before : Bool) (n : ℕ) → before ≡ is_some (cond before (Some n) None)
    at true n = refl
    at false n = refl

-- what is found at a place of a list stands there once at least
found_there : (xs : List ℕ) (at slot : ℕ) → slice_get xs at ≡ Some slot → 0 < times slot xs
found_there [] at slot found = search (rules, found)
found_there (x ∷ xs) zero slot found = omega (arith, head_times (x ∷ xs) slot found slot, one_same slot)
found_there (x ∷ xs) (suc at) slot found = omega (arith, times_cons slot x xs, found_there xs at slot found)

-- what waits at one connection is held
waiting_held : (slot index : ℕ) (connections : List (Connection ℕ))
    → times slot (get_or connections index nobody).waiting ≤ times slot (held connections)
waiting_held slot index [] = omega arith
waiting_held slot zero (connection ∷ connections) =
    omega (arith, times_append slot (held_by connection) (held connections), times_append slot connection.waiting connection.borrowed)
waiting_held slot (suc index) (connection ∷ connections) =
    omega (arith, times_append slot (held_by connection) (held connections), waiting_held slot index connections)

-- what waits at a connection stands in a slot that there is
pub waiting_inside : {T U : Type 0} (store : Store T U) (uses : Uses ℕ ℕ) (index at slot : ℕ) → IsSender store uses
    → slice_get (connection_at index uses).waiting at ≡ Some slot → slot < uses.first + uses.size
waiting_inside store uses index at slot sender found = sender.within slot (omega (
  arith,
  found_there (connection_at index uses).waiting at slot found,
  waiting_held slot index uses.connections,
  times_append slot (option_to_list uses.sending) (uses.loans ++ (uses.history ++ held uses.connections)),
  times_append slot uses.loans (uses.history ++ held uses.connections),
  times_append slot uses.history (held uses.connections),
))

-- what is remembered stands in a slot that there is
pub remembered_inside : {T U : Type 0} (store : Store T U) (uses : Uses ℕ ℕ) (at slot : ℕ) → IsSender store uses
    → slice_get uses.history at ≡ Some slot → slot < uses.first + uses.size
remembered_inside store uses at slot sender found = sender.within slot (omega (
  arith,
  found_there uses.history at slot found,
  times_append slot (option_to_list uses.sending) (uses.loans ++ (uses.history ++ held uses.connections)),
  times_append slot uses.loans (uses.history ++ held uses.connections),
  times_append slot uses.history (held uses.connections),
))
