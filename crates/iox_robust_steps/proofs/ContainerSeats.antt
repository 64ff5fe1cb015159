-- The stage of each party of a container, after a party made a step.
use Rattle.std.proofs.Common.{◌≡◌, ℕ, ◌<◌, ⊎_elim, Bool, true, false, nat_lt, Option, Some, None, List, length, set, slice_get}
use Rattle.std.proofs.Common.{slice_index_or, replicate, refl, sym, ◌∙◌, subst, arith}
use Rattle.std.specs.Option.{unwrap_or}
use Rattle.std.proofs.Math.Seq.{get_or-set_same, get_or-set_other}
use Rattle.std.proofs.lemmas.Bool.{cases_eq, ltb-true, ltb-false}
use Rattle.std.proofs.lemmas.List.{length-replicate, get_or-replicate, get_or_past}
use Rattle.std.proofs.lemmas.Option.{unwrap_or-slice_get}
use Rattle.iox_robust_steps.specs.ContainerMachine.{member_seat, member_seat_of, resting}
use Rattle.iox_robust_steps.specs.declared.container.state.MemberSeat.{MemberSeat}

seat_is : (seats : List MemberSeat) (i : ℕ) → member_seat seats i ≡ slice_index_or seats i resting
seat_is seats i = of (slice_get seats i) ∙ unwrap_or-slice_get seats i resting
  where
    of : (o : Option MemberSeat) → member_seat_of o ≡ unwrap_or o resting
    of None = refl
    of (Some seat) = refl

pub member_seat_here : (seats : List MemberSeat) (i : ℕ) (seat : MemberSeat) → i < length seats → member_seat (set seats i seat) i ≡ seat
member_seat_here seats i seat within = seat_is (set seats i seat) i ∙ get_or-set_same seats i seat resting within

pub member_seat_else : (seats : List MemberSeat) (i j : ℕ) (seat : MemberSeat) → (j ≡ i → ⊥)
    → member_seat (set seats i seat) j ≡ member_seat seats j
member_seat_else seats i j seat differs
    = seat_is (set seats i seat) j ∙ get_or-set_other seats i j seat resting differs ∙ sym (seat_is seats j)

-- what holds of each party's seat holds after one was set
pub each_member_seat : (P P' : ℕ → MemberSeat → Type 0) (seats : List MemberSeat) (party : ℕ) (seat : MemberSeat) → party < length seats
    → ((q : ℕ) → P q (member_seat seats q)) → ((q : ℕ) → (party ≡ q → ⊥) → P q (member_seat seats q) → P' q (member_seat seats q))
    → P' party seat → (q : ℕ) → P' q (member_seat (set seats party seat) q)
each_member_seat P P' seats party seat within before keeps here q =
    ⊎_elim
    (λ (same : party ≡ q). subst (λ (q : ℕ). P' q (member_seat (set seats party seat) q)) same
    (subst (P' party) (sym (member_seat_here seats party seat within)) here))
    (λ (differs : party ≡ q → ⊥). subst (P' q) (sym (member_seat_else seats party q seat (λ same. differs (sym same))))
    (keeps q differs (before q)))
    (cases_eq party q)

pub all_resting : (parties q : ℕ) → member_seat (replicate parties resting) q ≡ resting
all_resting parties q = seat_is (replicate parties resting) q ∙ at (nat_lt q parties) refl
  where
    at : (b : Bool) → nat_lt q parties ≡ b → slice_index_or (replicate parties resting) q resting ≡ resting
    at true e = get_or-replicate {A = MemberSeat} parties q resting resting (ltb-true q parties e)
    at false e = get_or_past (replicate parties resting) q resting
        (omega (arith, ltb-false q parties e, length-replicate {A = MemberSeat} parties resting))
