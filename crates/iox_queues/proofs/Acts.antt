-- The count of a place changes at just those steps that count it once more or take it out.
use Rattle.std.proofs.Common.{◌≡◌, ℕ, ◌+◌, ◌-◌, ◌%◌, ◌^◌, ◌<◌, Bool, true, false, if◌then◌else◌, ◌==◌, ◌&&◌, nat_lt, List, [], ◌∷◌}
use Rattle.std.proofs.Common.{◌++◌, length, slice_index, refl, subst, arith}
use Rattle.std.proofs.lemmas.Bool.{eqb-true, ltb-true}
use Rattle.iox_queues_steps.specs.Access.{RingWords, after_access, answer_of, successor}
use Rattle.iox_queues.specs.Steps.{call_next}
use Rattle.iox_queues.specs.Sums.{hits, raised_by, taken_by}
use Rattle.iox_queues.specs.Recorded.{Answered}
use Rattle.iox_queues.specs.Asked.{ChangesBy, ChangesPlaces, EachChanges}
use Rattle.iox_queues.specs.Kept.{Knows}
use Rattle.iox_queues.specs.declared.bits.call.SetCall.{SetCall}
use Rattle.iox_queues.specs.declared.bits.call.SetCall.TheVariants.{Idle, Add, Adding, Next, Sweep, Taking, Found, Done}
use Rattle.iox_queues.specs.declared.bits.machine.Event.{Event}
use Rattle.iox_queues.proofs.Balance.{one_step}

pub unchanged : (k : ℕ) → ChangesBy 0 0 k k
unchanged k = record { raises = λ some. absurd (omega arith); takes = λ some. absurd (omega arith); stays = λ none no. refl }

by_balance : (raised taken before after : ℕ) → after + taken ≡ before + raised → (0 < raised → (raised ≡ 1) × (taken ≡ 0))
    → (0 < taken → (raised ≡ 0) × (before ≡ taken)) → ChangesBy raised taken before after
by_balance raised taken before after balance one all = record {
  raises = λ some. omega (arith, balance, (one some).0, (one some).1);
  takes = λ some. ((all some).1, omega (arith, balance, (all some).0, (all some).1));
  stays = λ none no. omega (arith, balance, none, no);
}

-- an exchange to a higher count takes nothing, and raises once at most
nothing : (b : Bool) (k : ℕ) → k ≡ 0 → (if b then k else 0) ≡ 0
nothing true k none = none
nothing false k none = refl

once_at_most : (b : Bool) → ◌<◌ 0 (if b then 1 else 0) → ◌≡◌ {A = ℕ} (if b then 1 else 0) 1
once_at_most true some = refl
once_at_most false some = absurd (omega arith)

-- an exchange to 0 raises nothing, and takes all that was there
never : (b b' : Bool) → b' ≡ false → ◌≡◌ {A = ℕ} (if b && b' then 1 else 0) 0
never true true e = absurd (cc)
never true false e = refl
never false b' e = refl

not_below : (count : ℕ) (b : Bool) → nat_lt count 0 ≡ b → b ≡ false
not_below count true e = absurd (omega (arith, ltb-true count 0 e))
not_below count false e = refl

takes_all : (cells : List ℕ) (j i count : ℕ) (a b : Bool) → (j == i) ≡ a → (slice_index cells j == count) ≡ b
    → 0 < (if a && b then count - 0 else 0) → slice_index cells i ≡ (if a && b then count - 0 else 0)
takes_all cells j i count true true e e' some =
    let here : slice_index cells i ≡ count
    = subst (λ (k : ℕ). slice_index cells k ≡ count) (eqb-true j i e) (eqb-true (slice_index cells j) count e') in
    omega (arith, here)
takes_all cells j i count true false e e' some = absurd (omega arith)
takes_all cells j i count false b e e' some = absurd (omega arith)

-- one access of a call
pub one_act : (max : ℕ) (words : RingWords) (own : List Event) (stage : SetCall) → max < 2 ^ 64
    → Knows max (length words.cells) own stage → (party : ℕ)
    → ChangesPlaces (length words.cells) words
    (record { party = party; access = call_next stage; answer = answer_of words (call_next stage) })
one_act max words own Idle small k party i there = unchanged (slice_index words.cells i)
one_act max words own (Add place top) small k party i there = unchanged (slice_index words.cells i)
one_act max words own (Adding place top count) small k party i there =
    let n : ℕ = length words.cells in
    let answer : ℕ = slice_index words.cells (place % n) in
    let none : taken_by n i (call_next (Adding place top count)) answer ≡ 0
    = nothing (hits n i place answer count) (count - successor count) (omega (arith, k.4, small)) in
    by_balance (raised_by n i (call_next (Adding place top count)) answer) (taken_by n i (call_next (Adding place top count)) answer) _ _
    (one_step words (Adding place top count) i (omega (arith, there)) there)
    (λ some. (once_at_most (hits n i place answer count && nat_lt count (successor count)) some, none))
    (λ some. absurd (omega (arith, some, none)))
one_act max words own (Next capacity) small k party i there = unchanged (slice_index words.cells i)
one_act max words own (Sweep place left capacity all) small k party i there = unchanged (slice_index words.cells i)
one_act max words own (Taking place left capacity all count) small k party i there =
    let n : ℕ = length words.cells in
    let answer : ℕ = slice_index words.cells (place % n) in
    let none : raised_by n i (call_next (Taking place left capacity all count)) answer ≡ 0
    = never (hits n i place answer count) (nat_lt count 0) (not_below count (nat_lt count 0) refl) in
    by_balance (raised_by n i (call_next (Taking place left capacity all count)) answer)
    (taken_by n i (call_next (Taking place left capacity all count)) answer) _ _
    (one_step words (Taking place left capacity all count) i (omega (arith, there)) there)
    (λ some. absurd (omega (arith, some, none)))
    (λ some. (none, takes_all words.cells (place % n) i count (place % n == i) (answer == count) refl refl some))
one_act max words own (Found place after) small k party i there = unchanged (slice_index words.cells i)
one_act max words own (Done c answered) small k party i there = unchanged (slice_index words.cells i)

-- one step more
pub each_on : (n : ℕ) (words now : RingWords) (events : List Event) (e : Event) → Answered words events now → ChangesPlaces n now e
    → EachChanges n words events → EachChanges n words (events ++ e ∷ [])
each_on n words now [] e is changes h = (subst (λ (w : RingWords). ChangesPlaces n w e) is changes, tt)
each_on n words now (x ∷ events) e is changes h = (h.0, each_on n (after_access words x.access) now events e is.1 changes h.1)
