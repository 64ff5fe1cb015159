-- The stage of each party after a party made a step.
use Rattle.std.proofs.Common.{◌≡◌, ℕ, ◌<◌, ⊎_elim, Bool, true, false, nat_lt, Option, Some, None, List, length, set, slice_get}
use Rattle.std.proofs.Common.{slice_index_or, replicate, refl, sym, ◌∙◌, subst, arith}
use Rattle.std.specs.Option.{unwrap_or}
use Rattle.std.proofs.Math.Seq.{get_or-set_same, get_or-set_other}
use Rattle.std.proofs.lemmas.Bool.{cases_eq, ltb-true, ltb-false}
use Rattle.std.proofs.lemmas.List.{length-replicate, get_or-replicate, get_or_past}
use Rattle.std.proofs.lemmas.Option.{unwrap_or-slice_get}
use Rattle.iox_robust_steps.specs.Machine.{idle_seat, seat_at, seat_of}
use Rattle.iox_robust_steps.specs.declared.state.Seat.{Seat}

pub seat_is : (seats : List Seat) (i : ℕ) → seat_at seats i ≡ slice_index_or seats i idle_seat
seat_is seats i = of (slice_get seats i) ∙ unwrap_or-slice_get seats i idle_seat
  where
    of : (o : Option Seat) → seat_of o ≡ unwrap_or o idle_seat
    of None = refl
    of (Some seat) = refl

pub seat_here : (seats : List Seat) (i : ℕ) (seat : Seat) → i < length seats → seat_at (set seats i seat) i ≡ seat
seat_here seats i seat within = seat_is (set seats i seat) i ∙ get_or-set_same seats i seat idle_seat within

pub seat_else : (seats : List Seat) (i j : ℕ) (seat : Seat) → (j ≡ i → ⊥) → seat_at (set seats i seat) j ≡ seat_at seats j
seat_else seats i j seat differs = seat_is (set seats i seat) j ∙ get_or-set_other seats i j seat idle_seat differs ∙ sym (seat_is seats j)

-- what holds of each party's seat holds after one was set
pub each_seat : (P P' : ℕ → Seat → Type 0) (seats : List Seat) (party : ℕ) (seat : Seat) → party < length seats
    → ((q : ℕ) → P q (seat_at seats q)) → ((q : ℕ) → (party ≡ q → ⊥) → P q (seat_at seats q) → P' q (seat_at seats q)) → P' party seat
    → (q : ℕ) → P' q (seat_at (set seats party seat) q)
each_seat P P' seats party seat within before keeps here q =
    ⊎_elim
    (λ (same : party ≡ q). subst (λ (q : ℕ). P' q (seat_at (set seats party seat) q)) same
    (subst (P' party) (sym (seat_here seats party seat within)) here))
    (λ (differs : party ≡ q → ⊥). subst (P' q) (sym (seat_else seats party q seat (λ same. differs (sym same))))
    (keeps q differs (before q)))
    (cases_eq party q)

pub all_idle : (parties q : ℕ) → seat_at (replicate parties idle_seat) q ≡ idle_seat
all_idle parties q = seat_is (replicate parties idle_seat) q ∙ at (nat_lt q parties) refl
  where
    at : (b : Bool) → nat_lt q parties ≡ b → slice_index_or (replicate parties idle_seat) q idle_seat ≡ idle_seat
    at true e = get_or-replicate {A = Seat} parties q idle_seat idle_seat (ltb-true q parties e)
    at false e = get_or_past (replicate parties idle_seat) q idle_seat
        (omega (arith, ltb-false q parties e, length-replicate {A = Seat} parties idle_seat))
