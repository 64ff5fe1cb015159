-- What a call of a domain's ports answers and changes in the domain's home.
use Rattle.std.specs.Prelude.{ℕ, ◌≡◌, Bool, true, false, Option, None, Some, Result, Ok, Err}

-- What a call answers and changes at a domain; if the home doesn't contain the domain, the answer is None and nothing changes.
abbrev pub AtDomain : {P H A : Type 0} → (P → H) → (P → Option A → P → Type 0) → Option P → H → Option A → H → Type 0
AtDomain with_ports step None old answer new = (answer ≡ None) × (new ≡ old)
AtDomain {P} with_ports step (Some ports) old answer new = (after : P) × step ports answer after × (new ≡ with_ports after)

-- The home after the handlers of a port were dropped, if the port was closed.
abbrev pub dropped_if : {H : Type 0} → Bool → (H → H) → H → H
dropped_if false without home = home
dropped_if true without home = without home

-- What closing a port of a domain answers and changes; if the home doesn't contain the domain, the answer is false and nothing
-- changes.
abbrev pub LeavesDomain : {P H : Type 0} → (P → H) → (H → H) → (P → Bool → P → Type 0) → Option P → H → Bool → H → Type 0
LeavesDomain with_ports without step None old answer new = (answer ≡ false) × (new ≡ old)
LeavesDomain {P} with_ports without step (Some ports) old answer new = (after : P) × step ports answer after
    × (new ≡ dropped_if answer without (with_ports after))

-- What creating a port in a domain answers and changes: the port's handlers are stored under its number. If the call fails, or
-- the home doesn't contain the domain, nothing changes.
abbrev pub MakesAt : {P H E : Type 0} → (P → H) → (ℕ → H → H) → (P → ℕ → P → Type 0) → (P → E) → Option P → H → Option (Result ℕ E) → H
    → Type 0
MakesAt with_ports keeping step refusal None old answer new = (answer ≡ None) × (new ≡ old)
MakesAt with_ports keeping step refusal (Some ports) old None new = ⊥
MakesAt with_ports keeping step refusal (Some ports) old (Some (Err error)) new = (error ≡ refusal ports) × (new ≡ old)
MakesAt {P} with_ports keeping step refusal (Some ports) old (Some (Ok number)) new = (after : P) × step ports number after
    × (new ≡ keeping number (with_ports after))
