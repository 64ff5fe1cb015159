-- What waits at a connection, and what lies aside there, stands in the cells between the two positions of its ring.
use Rattle.std.proofs.Common.{ℕ, ◌≡◌, ◌+◌, ◌-◌, ◌<◌, ◌≤◌, ◌==◌, ◌%◌, Bool, true, false, if◌then◌else◌, List, [], ◌∷◌, ◌++◌, length}
use Rattle.std.proofs.Common.{slice_index, length-append, refl, sym, ◌∙◌, ap, subst, inl, inr, arith}
use Rattle.std.proofs.lemmas.Bool.{cases_lt, eqb-true, eqb-false}
use Rattle.std.proofs.lemmas.List.{append-nil}
use Rattle.iox_lanes_machine.specs.QueuesSteps.Access.{RingWords}
use Rattle.iox_lanes_machine.specs.QueuesSteps.Ends.{Shape}
use Rattle.iox_lanes_machine.specs.QueuesSteps.Kept.{Held}
use Rattle.iox_lanes_machine.specs.QueuesSteps.OverflowingRing as overflowing_ring
use Rattle.iox_lanes_machine.specs.QueuesSteps.OverflowingRing.{IsLate, PushKnows}
use Rattle.iox_lanes_machine.specs.QueuesSteps.declared.order.Act.TheVariants.{Put}
use Rattle.iox_lanes_machine.specs.QueuesSteps.declared.order.PushAnswer.TheVariants.{Kept}
use Rattle.iox_lanes_machine.specs.QueuesSteps.declared.rings.ends.RingKind.{RingKind}
use Rattle.iox_lanes_machine.specs.QueuesSteps.declared.rings.ends.RingKind.TheVariants as kind
use Rattle.iox_lanes_machine.specs.QueuesSteps.declared.rings.ends.Push.{Push}
use Rattle.iox_lanes_machine.specs.QueuesSteps.declared.rings.ends.Push.TheVariants as push
use Rattle.iox_lanes_machine.specs.QueuesSteps.declared.rings.ends.Pop.{Pop}
use Rattle.iox_lanes_machine.specs.QueuesSteps.declared.rings.ends.Pop.TheVariants as pop
use Rattle.iox_lanes_machine.specs.QueuesSteps.declared.rings.overflowing.push.Push as overflowing_push_type
use Rattle.iox_lanes_machine.specs.QueuesSteps.declared.rings.overflowing.push.Push.TheVariants as overflowing_push
use Rattle.iox_lanes_machine.proofs.QueuesSteps.Held.{held-push}
use Rattle.iox_lanes_machine.specs.Stored.{put_in, aside, cells_from, between}
use Rattle.iox_lanes_machine.proofs.Rings.{cells_are}

level_between : (words : RingWords) (q : List ℕ) → Held (length words.cells) words.cells words.read q
    → words.read + length q ≡ words.write → between words ≡ q
level_between words q held level =
    let size : words.write - words.read ≡ length q = omega (arith, level) in
    ap (cells_from words words.read) size ∙ cells_are words words.read q held

-- and nothing lies aside
level_all : (words : RingWords) (q : List ℕ) → Held (length words.cells) words.cells words.read q → words.read + length q ≡ words.write
    → between words ≡ q ++ []
level_all words q held level = level_between words q held level ∙ sym (append-nil q)

late_all : (limit : ℕ) (words : RingWords) (q : List ℕ) (value seen : ℕ) (b : Bool) → (words.read == seen) ≡ b
    → length words.cells ≡ limit + 1 → Held (limit + 1) words.cells words.read q → IsLate limit words q value seen
    → between words ≡ q ++ put_in (if b then Put value Kept ∷ [] else [])
late_all limit words q value seen true e size held late =
    let same : words.read ≡ seen = eqb-true words.read seen e in
    let full : length q ≡ limit = late.full (sym same) in
    let last : slice_index words.cells ((words.read + length q) % (limit + 1)) ≡ value
    = subst (λ (n : ℕ). slice_index words.cells ((words.read + n) % (limit + 1)) ≡ value) (sym full) (late.behind (sym same)) in
    let more : Held (length words.cells) words.cells words.read (q ++ value ∷ [])
    = subst (λ (n : ℕ). Held n words.cells words.read (q ++ value ∷ [])) (sym size)
    (held-push (limit + 1) words.cells words.read q value held last) in
    level_between words (q ++ value ∷ []) more (omega (arith, length-append q (value ∷ []), full, late.written, same))
late_all limit words q value seen false e size held late =
    let off : words.read ≡ seen → ⊥ = eqb-false words.read seen e in
    let less : seen < words.read = later late.seen_before off in
    level_all words q (subst (λ (n : ℕ). Held n words.cells words.read q) (sym size) held) (late.moved less)
  where
    later : seen ≤ words.read → (words.read ≡ seen → ⊥) → seen < words.read
    later le off = elim (cases_lt seen words.read) [
      | inl lt ↦ lt
      | inr ge ↦ absurd (off (omega (arith, le, ge)))
    ]

push_all : (limit : ℕ) (words : RingWords) (q : List ℕ) (p : overflowing_push_type.Push) → length words.cells ≡ limit + 1
    → Held (limit + 1) words.cells words.read q → PushKnows limit words q p
    → between words ≡ q ++ put_in (overflowing_ring.late_put words.read p)
push_all limit words q overflowing_push.Idle size held h
    = level_all words q (subst (λ (n : ℕ). Held n words.cells words.read q) (sym size) held) h
push_all limit words q (overflowing_push.Begun l value) size held h
    = level_all words q (subst (λ (n : ℕ). Held n words.cells words.read q) (sym size) held) h.0
push_all limit words q (overflowing_push.SawWrite l value write next) size held h
    = level_all words q (subst (λ (n : ℕ). Held n words.cells words.read q) (sym size) held) h.0
push_all limit words q (overflowing_push.SawRead l value write next seen) size held h
    = level_all words q (subst (λ (n : ℕ). Held n words.cells words.read q) (sym size) held) h.0
push_all limit words q (overflowing_push.Filled l value write next seen) size held h
    = level_all words q (subst (λ (n : ℕ). Held n words.cells words.read q) (sym size) held) h.0
push_all limit words q (overflowing_push.Full value seen next) size held h
    = late_all limit words q value seen (words.read == seen) refl size held h.0
push_all limit words q (overflowing_push.SawOldest value seen next oldest) size held h
    = late_all limit words q value seen (words.read == seen) refl size held h.0
push_all limit words q (overflowing_push.Pushed value answer) size held h
    = level_all words q (subst (λ (n : ℕ). Held n words.cells words.read q) (sym size) held) h

pub between_all : (k : RingKind) (limit : ℕ) (words : RingWords) (q : List ℕ) (p : Push) (c : Pop) → Shape k limit words q p c
    → between words ≡ q ++ aside words.read p
between_all kind.Overflowing limit words q (push.Overflowing p) (pop.Overflowing c) s
    = push_all limit words q p s.size s.held s.push_knows
between_all kind.Overflowing limit words q (push.Overflowing p) (pop.Refusing c) s = absurd s
between_all kind.Overflowing limit words q (push.Refusing p) (pop.Overflowing c) s = absurd s
between_all kind.Overflowing limit words q (push.Refusing p) (pop.Refusing c) s = absurd s
between_all kind.Refusing limit words q (push.Overflowing p) (pop.Overflowing c) s = absurd s
between_all kind.Refusing limit words q (push.Overflowing p) (pop.Refusing c) s = absurd s
between_all kind.Refusing limit words q (push.Refusing p) (pop.Overflowing c) s = absurd s
between_all kind.Refusing limit words q (push.Refusing p) (pop.Refusing c) s = level_all words q s.held s.level
