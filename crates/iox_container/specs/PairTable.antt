-- A flat map: pairs of a key and a value, each at a place.
use Rattle.std.specs.Prelude.{ℕ, ◌≡◌, ◌≢◌, ◌+◌, List, [], ◌∷◌, Bool, false, Option, Some, None, slice_set, option_map, if◌then◌else◌}
use Rattle.iox_container.specs.declared.callback_progression.CallbackProgression.{CallbackProgression}
use Rattle.iox_container.specs.Callback.{CallsUntilStop}
use Rattle.iox_container.specs.SlotTable.{SlotTable, value_at}

module _ {K V : Type 0} where
  -- The pairs in the places, in the order of the places.
  abbrev pub pairs : List (Option (K × V)) → List (K × V)
  pairs [] = []
  pairs (None ∷ rest) = pairs rest
  pairs (Some pair ∷ rest) = pair ∷ pairs rest

  -- No two places hold pairs with equal keys.
  abbrev pub KeysDiffer : (K → K → Bool) → List (Option (K × V)) → Type 0
  KeysDiffer eq places =
      (i j : ℕ) (p q : K × V) → i ≢ j → value_at places i ≡ Some p → value_at places j ≡ Some q → eq p.0 q.0 ≡ false

  -- The first pair whose key passes the test, with its place, where `at` is the number of the first place.
  abbrev pub place_from : (K → Bool) → ℕ → List (Option (K × V)) → Option (ℕ × (K × V))
  place_from test at [] = None
  place_from test at (None ∷ rest) = place_from test (at + 1) rest
  place_from test at (Some pair ∷ rest) = if test pair.0 then Some (at, pair) else place_from test (at + 1) rest

  -- The pair with this key and its place, if there is one.
  abbrev pub place_of : (K → K → Bool) → K → SlotTable (K × V) → Option (ℕ × (K × V))
  place_of eq key table = place_from (λ k. eq k key) 0 table.values

  -- The value under this key, if there is one.
  abbrev pub value_of : (K → K → Bool) → K → SlotTable (K × V) → Option V
  value_of eq key table = option_map (λ (found : ℕ × (K × V)). found.1.1) (place_of eq key table)

  -- The table with another value in the pair that was found, or the table as it was if none was found.
  abbrev pub with_value_at : Option (ℕ × (K × V)) → SlotTable (K × V) → V → SlotTable (K × V)
  with_value_at None table value = table
  with_value_at (Some found) table value = record { values = slice_set table.values found.0 (Some (found.1.0, value)); free = table.free }

  -- The table with another value under this key, or the table as it was if it lacks the key.
  abbrev pub with_value_of : (K → K → Bool) → K → SlotTable (K × V) → V → SlotTable (K × V)
  with_value_of eq key table value = with_value_at (place_of eq key table) table value

-- The callback was called with the keys of the pairs in order, until it returned `Stop` or no key was left; `last` is its state after it.
abbrev pub CallsAtKeys : {F K V : Type 0} → (F → K → CallbackProgression → F → Type 0) → F → List (K × V) → F → Type 0
CallsAtKeys step first table last = CallsUntilStop (λ p pair answer q. step p pair.0 answer q) first table last
