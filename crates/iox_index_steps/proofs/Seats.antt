-- The stage of each party after a party made a step.
use Rattle.std.proofs.Common.{◌≡◌, ℕ, ◌<◌, Option, Some, None, List, length, set, slice_get, slice_index_or, refl, sym, ◌∙◌}
use Rattle.std.specs.Option.{unwrap_or}
use Rattle.std.proofs.Math.Seq.{get_or-set_same, get_or-set_other}
use Rattle.std.proofs.lemmas.Option.{unwrap_or-slice_get}
use Rattle.iox_index_steps.specs.Machine.{idle_seat, seat_at, seat_of}
use Rattle.iox_index_steps.specs.declared.state.Seat.{Seat}

pub seat_is : (seats : List Seat) (i : ℕ) → seat_at seats i ≡ slice_index_or seats i idle_seat
seat_is seats i = of (slice_get seats i) ∙ unwrap_or-slice_get seats i idle_seat
  where
    of : (o : Option Seat) → seat_of o ≡ unwrap_or o idle_seat
    of None = refl
    of (Some seat) = refl

pub seat_here : (seats : List Seat) (i : ℕ) (seat : Seat) → i < length seats → seat_at (set seats i seat) i ≡ seat
seat_here seats i seat within = seat_is (set seats i seat) i ∙ get_or-set_same seats i seat idle_seat within

pub seat_else : (seats : List Seat) (i j : ℕ) (seat : Seat) → (j ≡ i → ⊥) → seat_at (set seats i seat) j ≡ seat_at seats j
seat_else seats i j seat differs = seat_is (set seats i seat) j ∙ get_or-set_other seats i j seat idle_seat differs ∙ sym (seat_is seats j)
