-- Every access of a call keeps the balance of each place.
use Rattle.std.proofs.Common.{◌≡◌, ℕ, ◌+◌, ◌-◌, ◌%◌, ◌<◌, ◌≤◌, ◌^◌, Bool, true, false, if◌then◌else◌, ◌==◌, ◌&&◌, nat_lt, List, length}
use Rattle.std.proofs.Common.{set, slice_index, refl, sym, subst, arith, length-set}
use Rattle.std.proofs.Math.Seq.{get_or-set_same, get_or-set_other}
use Rattle.std.proofs.lemmas.Bool.{ltb-true, ltb-false, eqb-true, eqb-false}
use Rattle.std.proofs.lemmas.Nat.{mod_below}
use Rattle.iox_queues_steps.specs.Access.{RingWords, successor, answer_of, after_access}
use Rattle.iox_queues.specs.Steps.{call_next}
use Rattle.iox_queues.specs.Sums.{raised_by, taken_by, cleared_by, hits}
use Rattle.iox_queues.specs.Kept.{Knows}
use Rattle.iox_queues.specs.declared.bits.call.SetCall.{SetCall}
use Rattle.iox_queues.specs.declared.bits.call.SetCall.TheVariants.{Idle, Add, Adding, Next, Sweep, Taking, Found, Done}
use Rattle.iox_queues.specs.declared.bits.machine.Event.{Event}

-- what one exchange does to one place
exchanged : (words : RingWords) (j i old new : ℕ) → j < length words.cells → i < length words.cells → (old < new → new ≡ old + 1)
    → (b b2 b3 : Bool) → (slice_index words.cells j == old) ≡ b → (j == i) ≡ b2 → nat_lt old new ≡ b3
    → slice_index (if b then record words { cells = set words.cells j new } else words).cells i + (if b2 && b then old - new else 0)
    ≡ slice_index words.cells i + (if (b2 && b) && b3 then 1 else 0)
exchanged words j i old new at there one true true true e e2 e3 =
    let same : j ≡ i = eqb-true j i e2 in
    let now : slice_index words.cells j ≡ old = eqb-true (slice_index words.cells j) old e in
    let less : old < new = ltb-true old new e3 in
    let stored : slice_index (set words.cells j new) j ≡ new = get_or-set_same words.cells j new 0 at in
    let here : slice_index (set words.cells j new) i ≡ new = subst (λ (k : ℕ). slice_index (set words.cells j new) k ≡ new) same stored in
    let before : slice_index words.cells i ≡ old = subst (λ (k : ℕ). slice_index words.cells k ≡ old) same now in
    let on : new ≡ old + 1 = one less in
    omega arith
exchanged words j i old new at there one true true false e e2 e3 =
    let same : j ≡ i = eqb-true j i e2 in
    let now : slice_index words.cells j ≡ old = eqb-true (slice_index words.cells j) old e in
    let le : new ≤ old = ltb-false old new e3 in
    let stored : slice_index (set words.cells j new) j ≡ new = get_or-set_same words.cells j new 0 at in
    let here : slice_index (set words.cells j new) i ≡ new = subst (λ (k : ℕ). slice_index (set words.cells j new) k ≡ new) same stored in
    let before : slice_index words.cells i ≡ old = subst (λ (k : ℕ). slice_index words.cells k ≡ old) same now in
    omega arith
exchanged words j i old new at there one true false b3 e e2 e3 =
    let differ : j ≡ i → ⊥ = eqb-false j i e2 in
    let other : slice_index (set words.cells j new) i ≡ slice_index words.cells i
    = get_or-set_other words.cells j i new 0 (λ same. differ (sym same)) in
    omega arith
exchanged words j i old new at there one false true b3 e e2 e3 = refl
exchanged words j i old new at there one false false b3 e e2 e3 = refl

kept_length : (words : RingWords) (j new : ℕ) (b : Bool)
    → length (if b then record words { cells = set words.cells j new } else words).cells ≡ length words.cells
kept_length words j new true = length-set words.cells j new
kept_length words j new false = refl

pub same_length : (words : RingWords) (stage : SetCall) → length (after_access words (call_next stage)).cells ≡ length words.cells
same_length words Idle = refl
same_length words (Add place max) = refl
same_length words (Adding place max count)
    = kept_length words (place % length words.cells) (successor count) (slice_index words.cells (place % length words.cells) == count)
same_length words (Next capacity) = refl
same_length words (Sweep place left capacity all) = refl
same_length words (Taking place left capacity all count)
    = kept_length words (place % length words.cells) 0 (slice_index words.cells (place % length words.cells) == count)
same_length words (Found place after) = refl
same_length words (Done c answered) = refl

-- what one step does to one place
pub one_step : (words : RingWords) (stage : SetCall) (i : ℕ) → 0 < length words.cells → i < length words.cells
    → slice_index (after_access words (call_next stage)).cells i + taken_by (length words.cells) i (call_next stage)
    (answer_of words (call_next stage))
    ≡ slice_index words.cells i + raised_by (length words.cells) i (call_next stage) (answer_of words (call_next stage))
one_step words Idle i some there = refl
one_step words (Add place max) i some there = refl
one_step words (Adding place max count) i some there =
    exchanged words (place % length words.cells) i count (successor count) (mod_below place (length words.cells) some) there
    (λ less. omega arith)
    (slice_index words.cells (place % length words.cells) == count) (place % length words.cells == i) (nat_lt count (successor count))
    refl refl refl
one_step words (Next capacity) i some there = refl
one_step words (Sweep place left capacity all) i some there = refl
one_step words (Taking place left capacity all count) i some there =
    exchanged words (place % length words.cells) i count 0 (mod_below place (length words.cells) some) there (λ less. omega arith)
    (slice_index words.cells (place % length words.cells) == count) (place % length words.cells == i) (nat_lt count 0) refl refl refl
one_step words (Found place after) i some there = refl
one_step words (Done c answered) i some there = refl

-- no place passes the largest count
stored : (cells : List ℕ) (j i new max : ℕ) → j < length cells → new ≤ max → ((k : ℕ) → k < length cells → slice_index cells k ≤ max)
    → i < length cells → (b : Bool) → (j == i) ≡ b → slice_index (set cells j new) i ≤ max
stored cells j i new max at small within there true e =
    let here : slice_index (set cells j new) i ≡ new
    = subst (λ (k : ℕ). slice_index (set cells j new) k ≡ new) (eqb-true j i e) (get_or-set_same cells j new 0 at) in
    omega arith
stored cells j i new max at small within there false e =
    let other : slice_index (set cells j new) i ≡ slice_index cells i
    = get_or-set_other cells j i new 0 (λ same. eqb-false j i e (sym same)) in
    omega (arith, within i there)

stored_if : (words : RingWords) (j i new max : ℕ) (b : Bool) → j < length words.cells → new ≤ max
    → ((k : ℕ) → k < length words.cells → slice_index words.cells k ≤ max) → i < length words.cells
    → slice_index (if b then record words { cells = set words.cells j new } else words).cells i ≤ max
stored_if words j i new max true at small within there = stored words.cells j i new max at small within there (j == i) refl
stored_if words j i new max false at small within there = within i there

pub keeps_within : (max : ℕ) (words : RingWords) (own : List Event) (stage : SetCall) (i : ℕ) → max < 2 ^ 64 → 0 < length words.cells
    → Knows max (length words.cells) own stage
    → ((k : ℕ) → k < length words.cells → slice_index words.cells k ≤ max) → i < length words.cells
    → slice_index (after_access words (call_next stage)).cells i ≤ max
keeps_within max words own Idle i small some k within there = within i there
keeps_within max words own (Add place top) i small some k within there = within i there
keeps_within max words own (Adding place top count) i small some k within there =
    stored_if words (place % length words.cells) i (successor count) max (slice_index words.cells (place % length words.cells) == count)
    (mod_below place (length words.cells) some) (omega (arith, k.4)) within there
keeps_within max words own (Next capacity) i small some k within there = within i there
keeps_within max words own (Sweep place left capacity all) i small some k within there = within i there
keeps_within max words own (Taking place left capacity all count) i small some k within there =
    stored_if words (place % length words.cells) i 0 max (slice_index words.cells (place % length words.cells) == count)
    (mod_below place (length words.cells) some) (omega arith) within there
keeps_within max words own (Found place after) i small some k within there = within i there
keeps_within max words own (Done c answered) i small some k within there = within i there

less_of : (k m : ℕ) (b : Bool) → k ≤ m → (if b then k else 0) ≤ m
less_of k m true h = h
less_of k m false h = omega arith

won_below : (k count m : ℕ) (a b : Bool) → (k == count) ≡ b → k ≤ m → (if a && b then count - 0 else 0) ≤ m
won_below k count m true true e h = let same : k ≡ count = eqb-true k count e in omega arith
won_below k count m true false e h = omega arith
won_below k count m false b e h = omega arith

-- where no place passes 1, no step takes more
takes_one : (words : RingWords) (own : List Event) (stage : SetCall) (i max : ℕ) → Knows max (length words.cells) own stage → max ≤ 1
    → 0 < length words.cells → ((k : ℕ) → k < length words.cells → slice_index words.cells k ≤ max)
    → taken_by (length words.cells) i (call_next stage) (answer_of words (call_next stage)) ≤ 1
takes_one words own Idle i max k one some within = omega arith
takes_one words own (Add place top) i max k one some within = omega arith
takes_one words own (Adding place top count) i max k one some within =
    less_of (count - successor count) 1 (hits (length words.cells) i place (slice_index words.cells (place % length words.cells)) count)
    (omega (arith, k.4, one))
takes_one words own (Next capacity) i max k one some within = omega arith
takes_one words own (Sweep place left capacity all) i max k one some within = omega arith
takes_one words own (Taking place left capacity all count) i max k one some within =
    won_below (slice_index words.cells (place % length words.cells)) count 1 (place % length words.cells == i)
    (slice_index words.cells (place % length words.cells) == count) refl
    (omega (arith, within (place % length words.cells) (mod_below place (length words.cells) some)))
takes_one words own (Found place after) i max k one some within = omega arith
takes_one words own (Done c answered) i max k one some within = omega arith

once : (k : ℕ) (b : Bool) → nat_lt 0 k ≡ b → k ≤ 1 → ◌≡◌ {A = ℕ} (if b then 1 else 0) k
once k true e h = let lt : 0 < k = ltb-true 0 k e in omega arith
once k false e h = let le : k ≤ 0 = ltb-false 0 k e in omega arith

pub clears_once : (words : RingWords) (own : List Event) (stage : SetCall) (i max : ℕ) → Knows max (length words.cells) own stage
    → max ≤ 1 → 0 < length words.cells → ((k : ℕ) → k < length words.cells → slice_index words.cells k ≤ max)
    → cleared_by (length words.cells) i (call_next stage) (answer_of words (call_next stage))
    ≡ taken_by (length words.cells) i (call_next stage) (answer_of words (call_next stage))
clears_once words own stage i max k one some within =
    once (taken_by (length words.cells) i (call_next stage) (answer_of words (call_next stage)))
    (nat_lt 0 (taken_by (length words.cells) i (call_next stage) (answer_of words (call_next stage)))) refl
    (takes_one words own stage i max k one some within)
