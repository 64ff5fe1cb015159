-- A new set keeps what every machine keeps.
use Rattle.std.proofs.Common.{◌≡◌, ℕ, zero, suc, ◌+◌, ◌^◌, ◌<◌, ◌≤◌, inl, Bool, true, false, if◌then◌else◌, ◌==◌, nat_lt, Option, None}
use Rattle.std.proofs.Common.{List, [], ◌∷◌, ◌++◌, length, slice_index, slice_index_or, take, drop, replicate, refl, sym, ◌∙◌, ap, subst}
use Rattle.std.proofs.Common.{arith}
use Rattle.std.specs.List.{range_with_len}
use Rattle.std.proofs.lemmas.Bool.{and_parts, eqb-true, eqb-false, ltb-true, ltb-false}
use Rattle.std.proofs.lemmas.List.{length-replicate, get_or-replicate, get_or_past}
use Rattle.std.proofs.lemmas.List.FromFn.{length-range_with_len, get_or-range_with_len}
use Rattle.iox_queues.specs.Told.{own}
use Rattle.iox_index_steps.specs.Steps.{borrowed_count, lock_mark, next_free}
use Rattle.iox_index_steps.specs.Told.{IsAskedSoFar, TakesTurns}
use Rattle.iox_index_steps.specs.Machine.{holder_of, idle_seat, seat_at, start, start_words}
use Rattle.iox_index_steps.specs.Kept.{HasCells, IsKept, Knows, LeadsThrough, count_taken, one_if_taken, times_among}
use Rattle.iox_index_steps.specs.Machine.{one_if_holder}
use Rattle.iox_index_steps.specs.declared.state.Seat.{Seat}
use Rattle.iox_index_steps.proofs.OfCalls.{start_counted}
use Rattle.iox_index_steps.proofs.Seats.{seat_is}

-- one number more at the end
up_to : (a n j : ℕ) → a + n ≡ j → range_with_len a (suc n) ≡ range_with_len a n ++ j ∷ []
up_to a zero j e = let same : a ≡ j = omega arith in ap (λ (k : ℕ). k ∷ []) same
up_to a (suc n) j e = ap (λ (l : List ℕ). a ∷ l) (up_to (a + 1) n j (omega arith))

pub one_longer : (n : ℕ) → range_with_len 1 (n + 1) ≡ range_with_len 1 n ++ (n + 1) ∷ []
one_longer n = let more : n + 1 ≡ suc n = omega arith in ap (range_with_len 1) more ∙ up_to 1 n (n + 1) (omega arith)

-- each index leads to the next one
leads_up : (n : ℕ) (cells : List ℕ) → ((i : ℕ) → i < n → slice_index cells i ≡ i + 1) → (from k : ℕ) → from + k ≡ n
    → LeadsThrough n cells from (range_with_len from k)
leads_up n cells next from zero e = omega arith
leads_up n cells next from (suc k) e = (
  refl,
  omega arith,
  subst (λ (i : ℕ). LeadsThrough n cells i (range_with_len (from + 1) k)) (sym (next from (omega arith)))
      (leads_up n cells next (from + 1) k (omega arith)),
)

below_range : (i from k : ℕ) → i < from → times_among i (range_with_len from k) ≡ 0
below_range i from zero h = refl
below_range i from (suc k) h = test (from == i) refl (below_range i (from + 1) k (omega arith))
  where
    test : (b : Bool) → (from == i) ≡ b → times_among i (range_with_len (from + 1) k) ≡ 0
        → (if b then 1 else 0) + times_among i (range_with_len (from + 1) k) ≡ 0
    test true e rest = absurd (omega (arith, eqb-true from i e, h))
    test false e rest = omega (arith, rest)

inside_range : (i from k : ℕ) → from ≤ i → i < from + k → times_among i (range_with_len from k) ≡ 1
inside_range i from zero h g = absurd (omega arith)
inside_range i from (suc k) h g = test (from == i) refl (λ past. inside_range i (from + 1) k past (omega arith))
  where
    test : (b : Bool) → (from == i) ≡ b → (from + 1 ≤ i → times_among i (range_with_len (from + 1) k) ≡ 1)
        → (if b then 1 else 0) + times_among i (range_with_len (from + 1) k) ≡ 1
    test true e rest = omega (arith, below_range i (from + 1) k (omega (arith, eqb-true from i e)))
    test false e rest = omega (arith, rest (past (eqb-false from i e)))
      where
        past : (from ≡ i → ⊥) → from + 1 ≤ i
        past differs = omega (arith, h, differs)

none_taken_yet : (capacity : ℕ) → count_taken (replicate capacity None) ≡ 0
none_taken_yet zero = refl
none_taken_yet (suc capacity) = omega (arith, none_taken_yet capacity)

no_holder : (capacity i : ℕ) → holder_of (replicate capacity None) i ≡ None
no_holder capacity i = at (nat_lt i capacity) refl
  where
    at : (b : Bool) → nat_lt i capacity ≡ b → holder_of (replicate capacity None) i ≡ None
    at true e = get_or-replicate {A = Option ℕ} capacity i None None (ltb-true i capacity e)
    at false e = get_or_past (replicate capacity None) i None
        (omega (arith, ltb-false i capacity e, length-replicate {A = Option ℕ} capacity None))

all_idle : (parties q : ℕ) → seat_at (replicate parties idle_seat) q ≡ idle_seat
all_idle parties q = seat_is (replicate parties idle_seat) q ∙ at (nat_lt q parties) refl
  where
    at : (b : Bool) → nat_lt q parties ≡ b → slice_index_or (replicate parties idle_seat) q idle_seat ≡ idle_seat
    at true e = get_or-replicate {A = Seat} parties q idle_seat idle_seat (ltb-true q parties e)
    at false e = get_or_past (replicate parties idle_seat) q idle_seat
        (omega (arith, ltb-false q parties e, length-replicate {A = Seat} parties idle_seat))

no_turns : (i k : ℕ) → TakesTurns i (take k [])
no_turns i zero = (omega arith, omega arith)
no_turns i (suc k) = (omega arith, omega arith)

pub start_kept : (capacity parties : ℕ) → capacity < 2 ^ 24 → IsKept (start capacity parties)
start_kept capacity parties small =
    let long : length (range_with_len 1 capacity) ≡ capacity = length-range_with_len 1 capacity in
    let next : (i : ℕ) → i < capacity → slice_index (range_with_len 1 capacity) i ≡ i + 1
    = λ i within. omega (arith, get_or-range_with_len 1 capacity i 0 within) in
    record {
      few = omega (arith, long, small);
      size = length-replicate {A = Option ℕ} capacity None ∙ sym long;
      began = λ q. omega (arith, ap (λ (s : Seat). s.first) (all_idle parties q));
      cells = λ q. subst (λ (s : Seat). HasCells (length (range_with_len 1 capacity)) s.stage) (sym (all_idle parties q)) tt;
      recorded = record {
        answered = ap start_words (sym long);
        among = tt;
        ended = tt;
        going = λ q. subst (λ (s : Seat). IsAskedSoFar (length (range_with_len 1 capacity)) q s.stage (own q (drop s.first [])))
            (sym (all_idle parties q)) tt;
      };
      counted = start_counted capacity parties;
      sound = λ few. record {
        whole = record {
          free = range_with_len 0 capacity;
          leads = subst (λ (n : ℕ). LeadsThrough n (range_with_len 1 capacity) 0 (range_with_len 0 capacity)) (sym long)
              (leads_up capacity (range_with_len 1 capacity) next 0 capacity (omega arith));
          once = λ i within. omega
              (arith, inside_range i 0 capacity (omega arith) (omega (arith, within, long)), ap one_if_taken (no_holder capacity i));
          changes = refl;
          counts = inl (sym (none_taken_yet capacity));
          taken = λ i. omega (arith, ap one_if_taken (no_holder capacity i));
          each = λ p i. omega (arith, ap (one_if_holder p) (no_holder capacity i));
          turns = no_turns;
        };
        knows = λ q. subst (λ (s : Seat). Knows (start capacity parties).words (start capacity parties).holders [] q s.first s.stage)
            (sym (all_idle parties q)) tt;
        told = tt;
        locked_by = λ locked.
            let marked : ◌≡◌ {A = Bool} false true
            = (and_parts (nat_lt (next_free (start_words capacity).read) (length (range_with_len 1 capacity)))
            (borrowed_count (start_words capacity).read == lock_mark) locked).1 in absurd (cc);
      };
    }
