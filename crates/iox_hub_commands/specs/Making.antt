-- How ports are created in a domain, and get numbers.
use Rattle.std.specs.Prelude.{ℕ, ◌≡◌, Bool, Option, None, Some, Result, Ok, Err}
use Rattle.iox_container.specs.NumberTable.{inserted}
use Rattle.iox_delivery.specs.Domain.declared.domain_id.DomainId.{DomainId}
use Rattle.iox_hub_commands.specs.Tables.{IsRoomier}
use Rattle.iox_hub_commands.specs.declared.ports.made.Made.{Made}

-- A publisher of a domain gets the next number.
abbrev pub with_publisher : DomainId → Bool → ℕ → Made → Made
with_publisher domain holds_slices number made =
    record made {
      publishers
          = inserted made.publishers (record { port = record { domain = domain; number = number }; holds_slices = holds_slices });
    }

-- A subscriber of a domain gets the next number.
abbrev pub with_subscriber : DomainId → ℕ → Made → Made
with_subscriber domain number made = record made { subscribers = inserted made.subscribers (record { domain = domain; number = number }) }

-- A new port gets the next number, which is answered; otherwise no number is given.
abbrev pub NumbersPort : {E : Type 0} → (ℕ → Made → Made) → ℕ → Option (Result ℕ E) → Made → Option (Result ℕ E) → Made → Type 0
NumbersPort numbered next None old answer new = (answer ≡ None) × (new ≡ old)
NumbersPort numbered next (Some (Err error)) old answer new = (answer ≡ Some (Err error)) × (new ≡ old)
NumbersPort numbered next (Some (Ok number)) old answer new = (answer ≡ Some (Ok next)) × (new ≡ numbered number old)

-- A port is created in a home, and gets a number.
abbrev pub MakesNumbered : {H E : Type 0} → (H → Option (Result ℕ E) → H → Type 0) → (ℕ → Made → Made) → ℕ → Made → H
    → Option (Result ℕ E) → Made → H → Type 0
MakesNumbered {H} {E} comes numbered next made old answer made_after new =
    (came : Option (Result ℕ E)) × comes old came new × NumbersPort numbered next came made answer made_after

-- A port is created in a home, and gets a number, after there is capacity for the number; making the capacity changes nothing else. If
-- memory runs out for the capacity, the port is refused just as if memory ran out for the port itself.
abbrev pub MakesRoomFirst : {H E : Type 0} → (H → Option (Result ℕ E) → H → Type 0) → (ℕ → Made → Made) → ℕ → Made → H
    → Option (Result ℕ E) → Made → H → Type 0
MakesRoomFirst comes numbered next made old answer made_after new =
    (roomier : Made) × IsRoomier made roomier × MakesNumbered comes numbered next roomier old answer made_after new
