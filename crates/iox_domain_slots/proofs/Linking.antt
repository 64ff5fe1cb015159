-- The slots of a connection, counted.
use Rattle.std.proofs.Common.{rules, arith, ◌≡◌, ◌+◌, ◌<◌, ◌∷◌, [], ◌++◌, ℕ, List, length, drop, slice_get, Some, refl, ap, ◌∙◌}
use Rattle.iox_domain_slots.specs.Counting.{SlotsState, Moves, Covers, times, uses_of}
use Rattle.iox_domain_slots.specs.Links.{LinkState, all_of}
use Rattle.iox_domain_slots.proofs.Counts.{one, times_append, times_cons}

pub times_all : (k : ℕ) (waiting borrowed returned : List ℕ)
    → times k (waiting ++ (borrowed ++ returned)) ≡ times k waiting + (times k borrowed + times k returned)
times_all k waiting borrowed returned = omega (arith, times_append k waiting (borrowed ++ returned), times_append k borrowed returned)

-- the first of a list and the rest
pub head_times : (xs : List ℕ) (x : ℕ) → slice_get xs 0 ≡ Some x → (k : ℕ) → times k xs ≡ one k x + times k (drop 1 xs)
head_times [] x first k = search (rules, first)
head_times (y ∷ ys) x first k = times_cons k y ys ∙ ap (λ z. one k z + times k ys) (some_is first)
  where
    some_is : Some y ≡ Some x → y ≡ x
    some_is same = search (rules, same)

-- what leaves a queue is the first of it
pub first_is : {xs rest : List ℕ} {x : ℕ} → xs ≡ x ∷ rest → slice_get xs 0 ≡ Some x
first_is same = rw same refl

-- and the rest stays
pub rest_is : {xs rest : List ℕ} {x : ℕ} → xs ≡ x ∷ rest → rest ≡ drop 1 xs
rest_is same = rw same refl

-- a slot that a connection uses has a use that is neither a loan nor of the history
pub covered_use : (slots : SlotsState) (all : List ℕ) (slot : ℕ) → Covers slots all → 0 < times slot all
    → times slot slots.loans + times slot slots.history < uses_of slot slots
covered_use slots all slot covers some = omega (arith, covers slot, some)

-- what was covered stays covered when counts move
pub covers_after : (old new : SlotsState) (before after : List ℕ) → Covers old before → Moves old before new after → Covers new after
covers_after old new before after covers moves = λ k.
    let loans : new.loans ≡ old.loans = ap (λ s. s.loans) moves.same in
    let history : new.history ≡ old.history = ap (λ s. s.history) moves.same in
    omega (arith, covers k, moves.moved k, ap (times k) loans, ap (times k) history)

-- one move after another
pub moves_on : (old mid new : SlotsState) (before between after : List ℕ) → Moves old before mid between → Moves mid between new after
    → Moves old before new after
moves_on old mid new before between after first second = record {
  same =
      let on : (record mid { references = new.references }) ≡ record old { references = new.references } = rw first.same refl in
      second.same ∙ on;
  length = second.length ∙ first.length;
  moved = λ k. omega (arith, first.moved k, second.moved k);
}

-- some of those that came back are taken back, `count` of `end`
pub record TakingBack (first : LinkState) (slots : SlotsState) (link : LinkState) (now : SlotsState) (count end : ℕ) : Type 0 where
  pub same : link ≡ record first { returned = link.returned }
  pub left : length link.returned + count ≡ length first.returned
  pub moved : Moves slots (all_of first) now (all_of link)

-- some of those that wait are lost, `count` of `end`
pub record Losing (first : LinkState) (slots : SlotsState) (link : LinkState) (now : SlotsState) (count end : ℕ) : Type 0 where
  pub same : link ≡ record first { waiting = link.waiting }
  pub left : length link.waiting + count ≡ length first.waiting
  pub moved : Moves slots (all_of first) now (all_of link)
