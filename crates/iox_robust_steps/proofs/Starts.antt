-- A new set that knows its holders keeps what every machine keeps.
use Rattle.std.proofs.Common.{◌∙◌}
use Rattle.std.proofs.Common.{◌≡◌, ℕ, zero, suc, ◌+◌, ◌^◌, ◌<◌, ◌≤◌, ⊎_elim, inr, Bool, List, [], take, drop, replicate}
use Rattle.std.proofs.Common.{slice_index}
use Rattle.std.proofs.Common.{refl, sym, ap, subst, arith}
use Rattle.std.specs.Global.{Vec}
use Rattle.std.proofs.lemmas.Bool.{cases_lt}
use Rattle.std.proofs.lemmas.List.{get_or-replicate, get_or_past, length-replicate}
use Rattle.iox_queues.specs.Told.{own}
use Rattle.iox_robust_steps.specs.Steps.{call_in_hand}
use Rattle.iox_robust_steps.specs.Told.{IsAskedSoFar, TakesTurns}
use Rattle.iox_robust_steps.specs.Machine.{CellFits, one_if_held, place_of, start, start_words}
use Rattle.iox_robust_steps.specs.Kept.{FreesSoFar, IsKept, IsQuiet, Knows}
use Rattle.iox_robust_steps.specs.declared.state.Place.{Place}
use Rattle.iox_robust_steps.specs.declared.state.Place.TheVariants as place
use Rattle.iox_robust_steps.specs.declared.state.Seat.{Seat}
use Rattle.iox_robust_steps.proofs.OfCalls.{start_counted}
use Rattle.iox_robust_steps.proofs.Seats.{all_idle}

all_empty : (n i : ℕ) → place_of (replicate n place.Empty) i ≡ place.Empty
all_empty n i = ⊎_elim (λ (below : i < n). get_or-replicate {A = Place} n i place.Empty place.Empty below)
    (λ (past : n ≤ i). get_or_past (replicate n place.Empty) i place.Empty
    (omega (arith, past, length-replicate {A = Place} n place.Empty))) (cases_lt i n)

no_turns : (i k : ℕ) → TakesTurns i (take k [])
no_turns i zero = (omega arith, omega arith)
no_turns i (suc k) = (omega arith, omega arith)

pub start_kept : (capacity parties : ℕ) (decisions : List (Vec Bool)) (may_insist : Bool) → capacity < 2 ^ 62
    → IsKept (start capacity parties decisions may_insist)
start_kept capacity parties decisions may_insist small = record {
  small = small;
  cells = length-replicate {A = ℕ} (capacity + 1) 0;
  places = length-replicate {A = Place} capacity place.Empty;
  began = λ q. omega (arith, ap (λ (s : Seat). s.first) (all_idle parties q));
  recorded = record {
    answered = refl;
    among = tt;
    ended = tt;
    frees = tt;
    going = λ q. subst (λ (s : Seat). IsAskedSoFar capacity decisions may_insist q (call_in_hand s.stage) s.stage (own q (drop s.first [])))
        (sym (all_idle parties q)) tt;
  };
  counted = start_counted capacity parties decisions may_insist;
  sound = λ few. record {
    whole = record {
      cells = λ i below. subst (λ (p : Place). CellFits p (slice_index (replicate (capacity + 1) 0) i)) (sym (all_empty capacity i))
          (get_or-replicate {A = ℕ} (capacity + 1) i 0 0 (omega (arith, below)));
      quiet = λ locked i below. subst IsQuiet (sym (all_empty capacity i)) tt;
      count = inr (omega arith);
      balance = λ i. omega (arith, ap one_if_held (all_empty capacity i));
      turns = no_turns;
      holders = λ i p is. absurd (let wrong : place.Empty ≡ place.Held p = sym (all_empty capacity i) ∙ is in cc);
    };
    knows = λ q. subst (λ (s : Seat). Knows capacity (start_words capacity) (replicate capacity place.Empty) [] q (own q (drop s.first []))
        s.stage) (sym (all_idle parties q)) tt;
    told = tt;
    named = λ i p is. absurd (let wrong : place.Empty ≡ place.Held p = sym (all_empty capacity i) ∙ is in cc);
    locked_by = λ locked. absurd (cc);
    frees = λ q. subst (λ (s : Seat). FreesSoFar capacity decisions [] (replicate (capacity + 1) 0) s.stage) (sym (all_idle parties q)) tt;
    freed = tt;
  };
}
