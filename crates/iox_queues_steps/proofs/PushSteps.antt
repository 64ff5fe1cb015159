-- What a push's step does to the numbers that wait and to the one that lies aside.
use Rattle.std.proofs.Common.{◌≡◌, ℕ, ◌+◌, ◌-◌, ◌<◌, ◌≤◌, Bool, true, false, if◌then◌else◌, ◌==◌, nat_lt, List, [], ◌∷◌, length, refl}
use Rattle.std.proofs.Common.{sym, ap, inl, inr, arith}
use Rattle.std.proofs.lemmas.Bool.{ltb-true, ltb-false, lt-ltb, le-ltb, eqb-true, eq-eqb, ne_eqb, cond-true, cond-false}
use Rattle.iox_queues_steps.specs.Access.{RingWords, answer_of, after_access, successor}
use Rattle.iox_queues_steps.specs.Order.{after_acts}
use Rattle.iox_queues_steps.specs.declared.order.PushAnswer.TheVariants.{Kept, LeftOut, Refused}
use Rattle.iox_queues_steps.specs.declared.order.Act.TheVariants.{Put}
use Rattle.iox_queues_steps.specs.Overflowing as overflowing
use Rattle.iox_queues_steps.specs.OverflowingRing.{IsLate, PushKnows, Shape as OverflowingShape, placed_by_push, late_put}
use Rattle.iox_queues_steps.specs.declared.rings.overflowing.push.Push.{Push as OverflowingPush}
use Rattle.iox_queues_steps.specs.declared.rings.overflowing.push.Push.TheVariants as push
use Rattle.iox_queues_steps.specs.declared.rings.overflowing.pop.Pop.{Pop as OverflowingPop}
use Rattle.iox_queues_steps.proofs.OverflowingPush.{put_over-room, put_over-full}
use Rattle.iox_queues_steps.specs.Refusing as refusing
use Rattle.iox_queues_steps.specs.declared.rings.refusing.push.Push.{Push as RefusingPush}
use Rattle.iox_queues_steps.specs.declared.rings.refusing.push.Push.TheVariants as refusing_push
use Rattle.iox_queues_steps.specs.declared.rings.refusing.pop.Pop.{Pop as RefusingPop}
use Rattle.iox_queues_steps.specs.Moves.{numbers, Moves}

-- a put that waits, where the read position is still the one seen
one_aside : (read seen value : ℕ) → read ≡ seen → numbers (if read == seen then Put value Kept ∷ [] else []) ≡ value ∷ []
one_aside read seen value same = ap numbers (cond-true (read == seen) (Put value Kept ∷ []) [] (eq-eqb read seen same))

-- a put that stands already
pub none_aside : (read seen value : ℕ) → (read ≡ seen → ⊥) → numbers (if read == seen then Put value Kept ∷ [] else []) ≡ []
none_aside read seen value differ = ap numbers (cond-false (read == seen) (Put value Kept ∷ []) [] (ne_eqb read seen differ))

filled : (limit : ℕ) (words : RingWords) (q : List ℕ) (l value write next seen : ℕ) (b b2 : Bool) → nat_lt limit (next - words.read) ≡ b
    → nat_lt l (next - seen) ≡ b2 → length q ≤ limit
    → PushKnows limit words q (push.Filled l value write next seen)
    → Moves q [] (after_acts true limit q (if b then [] else Put value Kept ∷ []))
    (numbers (late_put words.read (if b2 then push.Full value seen (successor seen) else push.Pushed value Kept)))
filled limit words q l value write next seen true true e e2 room k =
    let h1 : limit < next - words.read = ltb-true limit (next - words.read) e in
    inr (inr (value, refl, refl, one_aside words.read seen value (omega (arith, k))))
filled limit words q l value write next seen true false e e2 room k =
    absurd (omega (arith, k, ltb-true limit (next - words.read) e, ltb-false l (next - seen) e2))
filled limit words q l value write next seen false true e e2 room k =
    let h1 : next - words.read ≤ limit = ltb-false limit (next - words.read) e in
    let h2 : l < next - seen = ltb-true l (next - seen) e2 in
    inr (inl (
      value,
      refl,
      put_over-room limit q value (omega (arith, k)),
      none_aside words.read seen value
          (λ same. omega (arith, k, same)),
    ))
filled limit words q l value write next seen false false e e2 room k =
    let h1 : next - words.read ≤ limit = ltb-false limit (next - words.read) e in
    inr (inl (value, refl, put_over-room limit q value (omega (arith, k)), refl))

swapped : (limit : ℕ) (words : RingWords) (q : List ℕ) (value seen next oldest : ℕ) (b : Bool) → (words.read == seen) ≡ b → 0 < limit
    → IsLate limit words q value seen
    → Moves q (numbers (if b then Put value Kept ∷ [] else []))
    (after_acts true limit q (if b then Put value (LeftOut oldest) ∷ [] else [])) []
swapped limit words [] value seen next oldest true e some late =
    let full : length {A = ℕ} [] ≡ limit = late.full (sym (eqb-true words.read seen e)) in absurd (omega arith)
swapped limit words (x ∷ rest) value seen next oldest true e some late =
    let full : length (x ∷ rest) ≡ limit = late.full (sym (eqb-true words.read seen e)) in
    inl (inr (x, rest, refl, put_over-full limit (x ∷ rest) value (omega arith), refl))
swapped limit words q value seen next oldest false e some late = inl (inl (refl, refl))

pub overflowing_moves : (limit : ℕ) (words : RingWords) (q : List ℕ) (p : OverflowingPush) (c : OverflowingPop)
    → OverflowingShape limit words q p c
    → Moves q (numbers (late_put words.read p)) (after_acts true limit q (placed_by_push limit words.read p))
    (numbers (late_put (after_access words (overflowing.push_next p)).read
    (overflowing.push_take p (answer_of words (overflowing.push_next p)))))
overflowing_moves limit words q push.Idle c s = inl (inl (refl, refl))
overflowing_moves limit words q (push.Begun l value) c s = inl (inl (refl, refl))
overflowing_moves limit words q (push.SawWrite l value write next) c s = inl (inl (refl, refl))
overflowing_moves limit words q (push.SawRead l value write next seen) c s = inl (inl (refl, refl))
overflowing_moves limit words q (push.Filled l value write next seen) c s
    = filled limit words q l value write next seen (nat_lt limit (next - words.read)) (nat_lt l (next - seen)) refl refl s.room s.push_knows
overflowing_moves limit words q (push.Full value seen next) c s = inl (inl (refl, refl))
overflowing_moves limit words q (push.SawOldest value seen next oldest) c s =
    let k : PushKnows limit words q (push.SawOldest value seen next oldest) = s.push_knows in
    swapped limit words q value seen next oldest (words.read == seen) refl s.some k.0
overflowing_moves limit words q (push.Pushed value answer) c s = inl (inl (refl, refl))

measured : (limit : ℕ) (q : List ℕ) (value : ℕ) (b : Bool) → (b ≡ false → limit ≤ length q)
    → Moves q [] (after_acts false limit q (if b then [] else Put value Refused ∷ [])) []
measured limit q value true full = inl (inl (refl, refl))
measured limit q value false full = inl (inl (cond-false (nat_lt (length q) limit) _ _ (le-ltb (length q) limit (full refl)), refl))

pub refusing_moves : (limit : ℕ) (words : RingWords) (q : List ℕ) (p : RefusingPush) (c : RefusingPop) → refusing.Shape limit words q p c
    → Moves q [] (after_acts false limit q (refusing.placed_by_push words.read p)) []
refusing_moves limit words q refusing_push.Idle c s = inl (inl (refl, refl))
refusing_moves limit words q (refusing_push.Begun l value) c s = inl (inl (refl, refl))
refusing_moves limit words q (refusing_push.SawWrite l value write next) c s =
    let k : refusing.PushKnows limit words q (refusing_push.SawWrite l value write next) = s.push_knows in
    let level : words.read + length q ≡ words.write = s.level in
    measured limit q value (nat_lt (write - words.read) l)
    (λ e. let h : l ≤ write - words.read = ltb-false (write - words.read) l e in omega (arith, k))
refusing_moves limit words q (refusing_push.SawRoom value write next) c s = inl (inl (refl, refl))
refusing_moves limit words q (refusing_push.Filled value next) c s =
    let k : refusing.PushKnows limit words q (refusing_push.Filled value next) = s.push_knows in
    inr (inl (value, refl, cond-true (nat_lt (length q) limit) _ _ (lt-ltb (length q) limit k.1), refl))
refusing_moves limit words q (refusing_push.Pushed value answer) c s = inl (inl (refl, refl))
