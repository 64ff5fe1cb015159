-- A slot is put into the mailbox of a connection.
use Rattle.std.proofs.Common.{rules, arith, ◌≡◌, ◌+◌, ◌^◌, ◌<◌, ◌≤◌, ◌∷◌, [], ◌++◌, ℕ, Bool, true, false, List, length, get_or, drop}
use Rattle.std.proofs.Common.{nat_lt, if◌then◌else◌, refl, sym, subst}
use Rattle.iox_domain_slots.specs.Counting.{SlotsState, Moves, Covers, times, uses_of, referred, let_go}
use Rattle.iox_domain_slots.specs.Links.{LinkState, all_of, put_into, put_answer}
use Rattle.iox_domain_slots.specs.declared.mailbox.Put.TheVariants.{Taken, TakenFor, Refused}
use Rattle.iox_domain_slots.proofs.Counts.{one, times_append, times_cons, times_end, one_same}
use Rattle.iox_domain_slots.proofs.Moving.{refer_moves, let_go_moves}
use Rattle.iox_domain_slots.proofs.Linking.{covered_use, covers_after, moves_on}

-- what waits once a put was taken
pub taken_waits : (overflows : Bool) (limit : ℕ) (waiting : List ℕ) (slot : ℕ) → Taken ≡ put_answer overflows limit waiting slot
    → put_into overflows limit waiting slot ≡ waiting ++ slot ∷ []
taken_waits overflows limit waiting slot answer = go (nat_lt (length waiting) limit) overflows answer
  where
    go : (fits overflows : Bool) → Taken
        ≡ (if fits then Taken else if overflows then TakenFor (get_or (waiting ++ slot ∷ []) 0 0) else Refused)
        → (if overflows then (if fits then waiting ++ slot ∷ [] else drop 1 (waiting ++ slot ∷ [])) else
        (if fits then waiting ++ slot ∷ [] else waiting)) ≡ waiting ++ slot ∷ []
    go true true same = refl
    go true false same = refl
    go false true same = search (rules, same)
    go false false same = search (rules, same)

-- what waits once a put was taken for the oldest, and which was the oldest
pub taken_for_waits : (overflows : Bool) (limit : ℕ) (waiting : List ℕ) (slot oldest : ℕ)
    → TakenFor oldest ≡ put_answer overflows limit waiting slot
    → (put_into overflows limit waiting slot ≡ drop 1 (waiting ++ slot ∷ [])) × (oldest ≡ get_or (waiting ++ slot ∷ []) 0 0)
taken_for_waits overflows limit waiting slot oldest answer = go (nat_lt (length waiting) limit) overflows answer
  where
    go : (fits overflows : Bool) → TakenFor oldest
        ≡ (if fits then Taken else if overflows then TakenFor (get_or (waiting ++ slot ∷ []) 0 0) else Refused)
        → ((if overflows then (if fits then waiting ++ slot ∷ [] else drop 1 (waiting ++ slot ∷ [])) else
        (if fits then waiting ++ slot ∷ [] else waiting)) ≡ drop 1 (waiting ++ slot ∷ []))
        × (oldest ≡ get_or (waiting ++ slot ∷ []) 0 0)
    go true true same = search (rules, same)
    go true false same = search (rules, same)
    go false true same = (refl, search (rules, same))
    go false false same = search (rules, same)

-- the oldest of a list to which a slot was added, and the rest
pub head_of_end : (k slot : ℕ) (waiting : List ℕ)
    → times k (drop 1 (waiting ++ slot ∷ [])) + one k (get_or (waiting ++ slot ∷ []) 0 0) ≡ times k (waiting ++ slot ∷ [])
head_of_end k slot [] = omega (arith, times_cons k slot [])
head_of_end k slot (x ∷ xs) = omega (arith, times_cons k x (xs ++ slot ∷ []))

-- a slot that is used elsewhere stays used when some that came back are taken back
pub still_used : (old new : SlotsState) (slot : ℕ) (before after : List ℕ) → Moves old before new after
    → times slot before < uses_of slot old → 0 < uses_of slot new
still_used old new slot before after moves besides = omega (arith, moves.moved slot, besides)

pub still_room : (old new : SlotsState) (slot : ℕ) (before after : List ℕ) → Moves old before new after
    → times slot after ≤ times slot before
    → uses_of slot old + 1 < 2 ^ 64 → uses_of slot new + 1 < 2 ^ 64
still_room old new slot before after moves fewer room = omega (arith, moves.moved slot, fewer, room)

-- the slot is one of those that the connection uses then
pub put_moves : (old mid new : SlotsState) (slot : ℕ) (before waiting others : List ℕ) → Moves old before mid (waiting ++ others)
    → 0 < uses_of slot mid
    → new ≡ referred slot mid → Moves old before new ((waiting ++ slot ∷ []) ++ others)
put_moves old mid new slot before waiting others moves used is
    = rw is (moves_on old mid (referred slot mid) before (waiting ++ others) ((waiting ++ slot ∷ []) ++ others) moves
    (refer_moves mid slot (waiting ++ others) ((waiting ++ slot ∷ []) ++ others) used
    (λ k. omega (arith, times_append k waiting others, times_append k (waiting ++ slot ∷ []) others, times_end k waiting slot))))

-- the oldest of those that wait then has a use that can be taken off
pub oldest_further : (mid new : SlotsState) (slot oldest : ℕ) (before waiting others : List ℕ) → Covers mid before
    → Moves mid before new ((waiting ++ slot ∷ []) ++ others)
    → oldest ≡ get_or (waiting ++ slot ∷ []) 0 0 → times oldest new.loans + times oldest new.history < uses_of oldest new
oldest_further mid new slot oldest before waiting others covers moves is =
    covered_use new ((waiting ++ slot ∷ []) ++ others) oldest (covers_after mid new before ((waiting ++ slot ∷ []) ++ others) covers moves)
    (let head : times oldest (drop 1 (waiting ++ slot ∷ [])) + one oldest oldest ≡ times oldest (waiting ++ slot ∷ []) =
    subst (λ x. times oldest (drop 1 (waiting ++ slot ∷ [])) + one oldest x ≡ times oldest (waiting ++ slot ∷ [])) (sym is)
    (head_of_end oldest slot waiting) in
    omega (arith, head, one_same oldest, times_append oldest (waiting ++ slot ∷ []) others))

-- and it is none of them any longer once that use is off
pub lost_moves : (old mid new : SlotsState) (slot oldest : ℕ) (before waiting others : List ℕ)
    → Moves old before mid ((waiting ++ slot ∷ []) ++ others) → 0 < uses_of oldest mid
    → new ≡ let_go oldest mid → oldest ≡ get_or (waiting ++ slot ∷ []) 0 0 → Moves old before new (drop 1 (waiting ++ slot ∷ []) ++ others)
lost_moves old mid new slot oldest before waiting others moves used is which
    = rw is (moves_on old mid (let_go oldest mid) before ((waiting ++ slot ∷ []) ++ others) (drop 1 (waiting ++ slot ∷ []) ++ others) moves
    (let_go_moves mid oldest ((waiting ++ slot ∷ []) ++ others) (drop 1 (waiting ++ slot ∷ []) ++ others) used
    (λ k.
    let head : times k (drop 1 (waiting ++ slot ∷ [])) + one k oldest ≡ times k (waiting ++ slot ∷ []) =
    subst (λ x. times k (drop 1 (waiting ++ slot ∷ [])) + one k x ≡ times k (waiting ++ slot ∷ [])) (sym which)
    (head_of_end k slot waiting) in
    omega (arith, head, times_append k (waiting ++ slot ∷ []) others, times_append k (drop 1 (waiting ++ slot ∷ [])) others))))

-- the slots of a connection in whose mailbox something else waits
pub put_all : (old new : LinkState) (waiting : List ℕ) → new.waiting ≡ waiting → new.borrowed ≡ old.borrowed → new.returned ≡ old.returned
    → all_of new ≡ waiting ++ (old.borrowed ++ old.returned)
put_all old new waiting same borrowed returned = rw same (rw borrowed (rw returned refl))
