-- Counts that move from one list to another.
use Rattle.std.proofs.Common.{arith, rules, ◌≡◌, ◌+◌, ◌-◌, ◌<◌, ◌≤◌, ◌∷◌, [], ◌++◌, ℕ, Bool, true, false, IsTrue, ◌↔◌, if◌then◌else◌}
use Rattle.std.proofs.Common.{List, length, get_or, refl, sym, subst, ap, ◌∙◌}
use Rattle.std.proofs.Math.Logic.{⊎_elim}
use Rattle.std.proofs.lemmas.Bool.Decides.{eqb_tells}
use Rattle.std.proofs.lemmas.List.{length-set}
use Rattle.iox_domain_slots.specs.Counting.{SlotsState, Moves, times, uses_of, referred, let_go}
use Rattle.iox_domain_slots.proofs.Counts.{one, times_end, one_more, one_less, one_at_most, one_other}

-- a queue with room has a slot more once it was pushed
pub pushed : (items after : List ℕ) (slot capacity : ℕ) (answer : Bool) → IsTrue answer ↔ (length items < capacity)
    → length items < capacity
    → after ≡ (if answer then items ++ slot ∷ [] else items) → after ≡ items ++ slot ∷ []
pushed items after slot capacity true told room is = is
pushed items after slot capacity false told room is = let answer : false ≡ true = told.1 room in search (rules, answer)

-- a use more of a slot that is at the end of the list then
pub refer_moves : (old : SlotsState) (slot : ℕ) (before after : List ℕ) → 0 < uses_of slot old
    → ((k : ℕ) → times k after ≡ times k before + one k slot) → Moves old before (referred slot old) after
refer_moves old slot before after used more = record {
  same = refl;
  length = length-set old.references slot (uses_of slot old + 1);
  moved = λ k. omega (arith, one_more old.references slot k used, more k);
}

-- a use less of a slot that left the list
pub let_go_moves : (old : SlotsState) (slot : ℕ) (before after : List ℕ) → 0 < uses_of slot old
    → ((k : ℕ) → times k after + one k slot ≡ times k before) → Moves old before (let_go slot old) after
let_go_moves old slot before after used less = record {
  same = refl;
  length = length-set old.references slot (uses_of slot old - 1);
  moved = λ k. omega (arith, one_less old.references slot k used, less k);
}

-- a slot with a further use becomes the newest of a history in which room was made
pub remember_moves : (old mid new : SlotsState) (slot : ℕ) → 0 < uses_of slot old
    → Moves (referred slot old) old.history (record mid { history = old.history }) mid.history
    → new ≡ record mid { history = mid.history ++ slot ∷ [] }
    → Moves old old.history (record new { history = old.history }) new.history
remember_moves old mid new slot used room is = rw is (record {
  same = room.same;
  length = room.length ∙ length-set old.references slot (uses_of slot old + 1);
  moved = λ k. omega (arith, room.moved k, one_more old.references slot k used, times_end k mid.history slot);
})

-- a further use of a slot stays a further one when the oldest of the history leaves
pub still_further : (old mid : SlotsState) (slot : ℕ) → times slot old.loans + times slot old.history < uses_of slot old
    → Moves (referred slot old) old.history (record mid { history = old.history }) mid.history
    → times slot mid.loans + times slot mid.history < uses_of slot mid
still_further old mid slot further room =
    let loans : mid.loans ≡ old.loans = ap (λ s. s.loans) room.same in
    omega (arith, further, ap (times slot) loans, room.moved slot, one_more old.references slot slot (omega (arith, further)))

-- a further use of a slot is given to the history
pub with_further : (references loans history : List ℕ) (slot : ℕ) → times slot loans + times slot history < get_or references slot 0
    → ((k : ℕ) → times k loans + times k history ≤ get_or references k 0)
    → (k : ℕ) → times k loans + times k (history ++ slot ∷ []) ≤ get_or references k 0
with_further references loans history slot further covers k = ⊎_elim
    (λ same. omega (
      arith,
      times_end k history slot,
      one_at_most k slot,
      subst
          (λ s. times s loans + times s history < get_or references s 0) (sym same.1) further,
    ))
    (λ other. omega (arith, times_end k history slot, covers k, one_other k slot other.0))
    (eqb_tells k slot)
