-- How a compatibility check finds the first unmet clause by one scan of a pattern's settings, in any order.
use Rattle.std.specs.Prelude.{◌≡◌, List, [], ◌∷◌, if◌then◌else◌, Bool, true, ◌&&◌, map, Option, Some, None}
use Rattle.std.specs.Ordering.{is_eq, is_lt, ord_min}
use Rattle.std.specs.declared.cmp.Ordering.{Ordering}

-- The clause with this error, if a clause of the list has it.
abbrev pub clause_with : {E : Type 0} → (E → E → Ordering) → E → List (Bool × E) → Option (Bool × E)
clause_with order error [] = None
clause_with order error (clause ∷ more) = if is_eq (order error clause.1) then Some clause else clause_with order error more

-- Each clause of the first list is in the second list, and is found there by its error.
abbrev pub AreAmong : {E : Type 0} → (E → E → Ordering) → List (Bool × E) → List (Bool × E) → Type 0
AreAmong order some others = map (λ clause. clause_with order clause.1 others) some ≡ map Some some

-- Two lists have the same clauses, in any order.
abbrev pub AreSame : {E : Type 0} → (E → E → Ordering) → List (Bool × E) → List (Bool × E) → Type 0
AreSame order some others = AreAmong order some others × AreAmong order others some

-- Whether the errors of the clauses are in rising order.
abbrev pub rise : {E : Type 0} → (E → E → Ordering) → List (Bool × E) → Bool
rise order [] = true
rise order (clause ∷ []) = true
rise order (clause ∷ next ∷ more) = is_lt (order clause.1 next.1) && rise order (next ∷ more)

-- The earlier one of two errors, where there may be no first one.
abbrev pub earlier : {E : Type 0} → (E → E → Ordering) → Option E → E → E
earlier order None error = error
earlier order (Some first) error = ord_min order first error

-- The earliest error among those of the unmet clauses and `first`, if there is one.
abbrev pub earliest : {E : Type 0} → (E → E → Ordering) → Option E → List (Bool × E) → Option E
earliest order first [] = first
earliest order first (clause ∷ more) = earliest order (if clause.0 then first else Some (earlier order first clause.1)) more
