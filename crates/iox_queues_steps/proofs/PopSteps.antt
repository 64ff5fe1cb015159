-- What a pop's or a look's step does to the numbers that wait and to the one that lies aside.
use Rattle.std.proofs.Common.{◌≡◌, ℕ, ◌+◌, ◌≤◌, Bool, true, false, if◌then◌else◌, ◌==◌, List, [], ◌∷◌, ◌++◌, length, drop, Some, None}
use Rattle.std.proofs.Common.{refl, sym, inl, inr, arith, append-nil}
use Rattle.std.proofs.lemmas.Bool.{eqb-true}
use Rattle.iox_queues_steps.specs.Access.{RingWords, after_access}
use Rattle.iox_queues_steps.specs.Order.{after_acts}
use Rattle.iox_queues_steps.specs.declared.order.PushAnswer.TheVariants.{Kept}
use Rattle.iox_queues_steps.specs.declared.order.PopAnswer.TheVariants.{Got}
use Rattle.iox_queues_steps.specs.declared.order.Act.TheVariants.{Put, Take}
use Rattle.iox_queues_steps.specs.Overflowing as overflowing
use Rattle.iox_queues_steps.specs.OverflowingRing.{IsLate, PushKnows, PopKnows, Shape as OverflowingShape, placed_by_pop, late_put}
use Rattle.iox_queues_steps.specs.declared.rings.overflowing.push.Push.{Push as OverflowingPush}
use Rattle.iox_queues_steps.specs.declared.rings.overflowing.push.Push.TheVariants as push
use Rattle.iox_queues_steps.specs.declared.rings.overflowing.pop.Pop.{Pop as OverflowingPop}
use Rattle.iox_queues_steps.specs.declared.rings.overflowing.pop.Pop.TheVariants as pop
use Rattle.iox_queues_steps.proofs.OverflowingPush.{put_over-room}
use Rattle.iox_queues_steps.proofs.OverflowingPop.{span, empty_since}
use Rattle.iox_queues_steps.specs.Refusing as refusing
use Rattle.iox_queues_steps.specs.declared.rings.refusing.push.Push.{Push as RefusingPush}
use Rattle.iox_queues_steps.specs.declared.rings.refusing.pop.Pop.{Pop as RefusingPop}
use Rattle.iox_queues_steps.specs.declared.rings.refusing.pop.Pop.TheVariants as refusing_pop
use Rattle.iox_queues_steps.specs.Moves.{numbers, MovesOut}
use Rattle.iox_queues_steps.proofs.PushSteps.{none_aside}

nothing_left : (q : List ℕ) → length q ≡ 0 → drop 1 q ≡ q
nothing_left [] h = refl
nothing_left (x ∷ q) h = absurd (omega arith)

emptied : (o : Bool) (limit : ℕ) (q beside : List ℕ) (b : Bool) → (b ≡ true → length q ≡ 0)
    → MovesOut q beside (after_acts o limit q ((if b then Take (Got None) ∷ [] else []) ++ [])) beside
emptied o limit q beside true none = inl (nothing_left q (none refl), refl)
emptied o limit q beside false none = inl (refl, refl)

-- when the head is out, what lay aside is after the rest, and nothing lies aside
late : (limit : ℕ) (words : RingWords) (x : ℕ) (rest : List ℕ) (next value seen : ℕ) (b : Bool) → (words.read == seen) ≡ b
    → next ≡ words.read + 1 → length (x ∷ rest) ≤ limit → IsLate limit words (x ∷ rest) value seen
    → (after_acts true limit rest (if b then Put value Kept ∷ [] else []) ≡ rest ++ numbers (if b then Put value Kept ∷ [] else []))
    × (numbers (if next == seen then Put value Kept ∷ [] else []) ≡ [])
late limit words x rest next value seen true e on room l =
    let same : words.read ≡ seen = eqb-true words.read seen e in
    (put_over-room limit rest value (omega arith), none_aside next seen value (λ back. omega arith))
late limit words x rest next value seen false e on room l =
    let before : seen ≤ words.read = l.seen_before in
    (sym (append-nil rest), none_aside next seen value (λ back. omega arith))

late_up : (limit : ℕ) (words : RingWords) (x : ℕ) (rest : List ℕ) (next : ℕ) (p : OverflowingPush) → next ≡ words.read + 1
    → length (x ∷ rest) ≤ limit → PushKnows limit words (x ∷ rest) p
    → (after_acts true limit rest (late_put words.read p) ≡ rest ++ numbers (late_put words.read p)) × (numbers (late_put next p) ≡ [])
late_up limit words x rest next push.Idle on room k = (sym (append-nil rest), refl)
late_up limit words x rest next (push.Begun l value) on room k = (sym (append-nil rest), refl)
late_up limit words x rest next (push.SawWrite l value write n) on room k = (sym (append-nil rest), refl)
late_up limit words x rest next (push.SawRead l value write n seen) on room k = (sym (append-nil rest), refl)
late_up limit words x rest next (push.Filled l value write n seen) on room k = (sym (append-nil rest), refl)
late_up limit words x rest next (push.Full value seen n) on room k
    = late limit words x rest next value seen (words.read == seen) refl on room k.0
late_up limit words x rest next (push.SawOldest value seen n oldest) on room k
    = late limit words x rest next value seen (words.read == seen) refl on room k.0
late_up limit words x rest next (push.Pushed value answer) on room k = (sym (append-nil rest), refl)

swapped : (limit : ℕ) (words : RingWords) (q : List ℕ) (p : OverflowingPush) (seen next value : ℕ) (b : Bool) → (words.read == seen) ≡ b
    → OverflowingShape limit words q p (pop.SawCell seen next value)
    → MovesOut q (numbers (late_put words.read p))
    (after_acts true limit q ((if b then Take (Got (Some value)) ∷ [] else []) ++ (if b then late_put words.read p else [])))
    (numbers (late_put (if b then record words { read = next } else words).read p))
swapped limit words [] p seen next value true e s =
    let k : PopKnows words.read [] (pop.SawCell seen next value) = s.pop_knows in absurd (omega (arith, k))
swapped limit words (x ∷ rest) p seen next value true e s =
    let k : PopKnows words.read (x ∷ rest) (pop.SawCell seen next value) = s.pop_knows in
    let same : words.read ≡ seen = eqb-true words.read seen e in
    let up = late_up limit words x rest next p (omega (arith, k)) s.room s.push_knows in
    inr (x, rest, refl, up.0, up.1)
swapped limit words q p seen next value false e s = inl (refl, refl)

pub overflowing_moves_out : (limit : ℕ) (words : RingWords) (q : List ℕ) (p : OverflowingPush) (c : OverflowingPop)
    → OverflowingShape limit words q p c
    → MovesOut q (numbers (late_put words.read p)) (after_acts true limit q (placed_by_pop words p c))
    (numbers (late_put (after_access words (overflowing.pop_next c)).read p))
overflowing_moves_out limit words q p pop.Idle s = inl (refl, refl)
overflowing_moves_out limit words q p pop.Begun s = inl (refl, refl)
overflowing_moves_out limit words q p (pop.SawRead seen) s =
    let k : PopKnows words.read q (pop.SawRead seen) = s.pop_knows in
    emptied true limit q (numbers (late_put words.read p)) (words.write == seen)
    (λ t. let same : words.write ≡ seen
    = eqb-true words.write seen t in empty_since limit words q s.some (span limit words q p s.push_knows) (omega (arith, k)))
overflowing_moves_out limit words q p (pop.Nonempty seen next) s = inl (refl, refl)
overflowing_moves_out limit words q p (pop.SawCell seen next value) s = swapped limit words q p seen next value (words.read == seen) refl s
overflowing_moves_out limit words q p (pop.Popped got) s = inl (refl, refl)
overflowing_moves_out limit words q p pop.LookBegun s = inl (refl, refl)
overflowing_moves_out limit words q p (pop.LookRead seen) s = inl (refl, refl)
overflowing_moves_out limit words q p (pop.Looked some) s = inl (refl, refl)

taken : (limit : ℕ) (words : RingWords) (q : List ℕ) (p : RefusingPush) (next value : ℕ)
    → refusing.Shape limit words q p (refusing_pop.SawCell next value) → MovesOut q [] (drop 1 q) []
taken limit words [] p next value s =
    let k : refusing.PopKnows words.read [] (refusing_pop.SawCell next value) = s.pop_knows in absurd (omega (arith, k))
taken limit words (x ∷ rest) p next value s = inr (x, rest, refl, sym (append-nil rest), refl)

pub refusing_moves_out : (limit : ℕ) (words : RingWords) (q : List ℕ) (p : RefusingPush) (c : RefusingPop)
    → refusing.Shape limit words q p c
    → MovesOut q [] (after_acts false limit q (refusing.placed_by_pop words.write c ++ [])) []
refusing_moves_out limit words q p refusing_pop.Idle s = inl (refl, refl)
refusing_moves_out limit words q p refusing_pop.Begun s = inl (refl, refl)
refusing_moves_out limit words q p (refusing_pop.SawRead seen) s =
    let k : refusing.PopKnows words.read q (refusing_pop.SawRead seen) = s.pop_knows in
    let level : words.read + length q ≡ words.write = s.level in
    emptied false limit q [] (words.write == seen) (λ t. let same : words.write ≡ seen = eqb-true words.write seen t in omega (arith, k))
refusing_moves_out limit words q p (refusing_pop.Nonempty seen next) s = inl (refl, refl)
refusing_moves_out limit words q p (refusing_pop.SawCell next value) s = taken limit words q p next value s
refusing_moves_out limit words q p (refusing_pop.Popped got) s = inl (refl, refl)
refusing_moves_out limit words q p refusing_pop.LookBegun s = inl (refl, refl)
refusing_moves_out limit words q p (refusing_pop.LookRead seen) s = inl (refl, refl)
refusing_moves_out limit words q p (refusing_pop.Looked some) s = inl (refl, refl)
