-- A new single value keeps what every machine keeps.
use Rattle.std.proofs.Common.{◌≡◌, ℕ, zero, suc, ◌+◌, inl, Bool, true, false, nat_lt, List, [], ◌∷◌, ◌++◌, length, slice_index_or}
use Rattle.std.proofs.Common.{take, drop, replicate, refl, sym, ◌∙◌, ap, subst, arith, length-append}
use Rattle.std.specs.Global.{Vec}
use Rattle.std.proofs.lemmas.Bool.{ltb-true, ltb-false}
use Rattle.std.proofs.lemmas.List.{get_or-replicate, get_or_append_left, get_or_past, length-replicate}
use Rattle.iox_queues.specs.Values.{table_value}
use Rattle.iox_index_steps.specs.AtomicTold.{IsAskedSoFar, call_in_hand, current_of}
use Rattle.iox_queues.specs.Told.{own}
use Rattle.iox_index_steps.specs.AtomicMachine.{idle_seat, seat_at, start}
use Rattle.iox_index_steps.specs.AtomicKept.{IsKept, Knows}
use Rattle.iox_index_steps.specs.declared.atomic.state.Seat.{Seat}
use Rattle.iox_index_steps.proofs.AtomicOfCalls.{start_counted}
use Rattle.iox_index_steps.proofs.AtomicSeats.{seat_is}

all_idle : (parties q : ℕ) → seat_at (replicate parties idle_seat) q ≡ idle_seat
all_idle parties q = seat_is (replicate parties idle_seat) q ∙ at (nat_lt q parties) refl
  where
    at : (b : Bool) → nat_lt q parties ≡ b → slice_index_or (replicate parties idle_seat) q idle_seat ≡ idle_seat
    at true e = get_or-replicate {A = Seat} parties q idle_seat idle_seat (ltb-true q parties e)
    at false e = get_or_past (replicate parties idle_seat) q idle_seat
        (omega (arith, ltb-false q parties e, length-replicate {A = Seat} parties idle_seat))

none_yet : (initial : List ℕ) (k : ℕ) → current_of initial (take k []) ≡ initial
none_yet initial zero = refl
none_yet initial (suc k) = refl

pub start_kept : (values : List (Vec ℕ)) (parties : ℕ) → IsKept (start values parties)
start_kept values parties = record {
  size = length-append (table_value values 0) (table_value values 0 ++ 0 ∷ []) ∙ ap (λ (k : ℕ). length (table_value values 0) + k)
      (length-append (table_value values 0) (0 ∷ []));
  began = λ q. omega (arith, ap (λ (s : Seat). s.first) (all_idle parties q));
  recorded = record {
    answered = refl;
    among = tt;
    ended = tt;
    going = λ q. subst (λ (s : Seat). IsAskedSoFar (length (table_value values 0)) values q (call_in_hand s.stage) s.stage
        (own q (drop s.first []))) (sym (all_idle parties q)) tt;
  };
  counted = start_counted values parties;
  sound = λ few. record {
    fit = record {
      counter = refl;
      wide = refl;
      few = omega arith;
      shows = λ i h. get_or_append_left (table_value values 0) (table_value values 0 ++ 0 ∷ []) 0 i h;
      filled = λ i h. absurd (omega (arith, h));
    };
    rest = λ none. refl;
    knows = λ q. subst (λ (s : Seat). Knows values 1 (start values parties).producer [] q s.first s.stage) (sym (all_idle parties q)) tt;
    told = tt;
    whole = λ k. inl (none_yet (table_value values 0) k);
  };
}
