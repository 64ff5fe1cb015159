-- A push and a pop of the ring that hands its oldest number out, access by access.
use Rattle.std.proofs.Common.{ℕ, ◌≡◌, ◌+◌, ◌-◌, ◌^◌, ◌<◌, ◌≤◌, ◌==◌, nat_lt, Bool, false, Option, Some, None, List, [], ◌∷◌, ◌++◌, length}
use Rattle.std.proofs.Common.{ap, arith, length-append, refl, subst, sym}
use Rattle.std.proofs.lemmas.Bool.{lt-ltb, le-ltb, eq-eqb, ne_eqb, cond-true, cond-false}
use Rattle.iox_queues.specs.Calls.{left_by, taken}
use Rattle.iox_queues.specs.QueuesSteps.Runs.{Runs}
use Rattle.iox_queues.specs.QueuesSteps.declared.access.Access.{Access}
use Rattle.iox_queues_steps.specs.Access.{successor}
use Rattle.iox_queues_steps.specs.Overflowing.{pop_emptied, pop_is_over, pop_next, pop_swapped, pop_take}
use Rattle.iox_queues_steps.specs.Overflowing.{push_filled, push_is_over, push_next, push_swapped, push_take}
use Rattle.iox_queues_steps.specs.declared.access.Word.TheVariants.{Write, Read, Cell}
use Rattle.iox_queues_steps.specs.declared.access.Access.TheVariants.{Load, Store, Exchange}
use Rattle.iox_queues_steps.specs.declared.order.PushAnswer.TheVariants.{Kept}
use Rattle.iox_queues_steps.specs.declared.rings.overflowing.push.Push.{Push}
use Rattle.iox_queues_steps.specs.declared.rings.overflowing.push.Push.TheVariants as push
use Rattle.iox_queues_steps.specs.declared.rings.overflowing.pop.Pop.{Pop}
use Rattle.iox_queues_steps.specs.declared.rings.overflowing.pop.Pop.TheVariants as pop

-- the accesses of one run, and then those of another
joined : {M S : Type 0} (answers : M → Access → ℕ → M → Type 0) (asks : S → Access) (takes : S → ℕ → S) (over : S → Bool)
    (given more : List ℕ) (memory : M) (stage : S) (between : M) (reached : S) (after : M) (end : S)
    → Runs answers asks takes over given memory stage between reached → Runs answers asks takes over more between reached after end
    → Runs answers asks takes over (given ++ more) memory stage after end
joined {M} {S} answers asks takes over [] more memory stage between reached after end first later =
    subst (λ (m : M). Runs answers asks takes over more m stage after end) first.0
    (subst (λ (s : S). Runs answers asks takes over more between s after end) first.1 later)
joined answers asks takes over (answer ∷ given) more memory stage between reached after end first later = (
  first.0,
  (
    first.1.0,
    first.1.1,
    joined answers asks takes over given more first.1.0 (takes stage answer) between reached after end first.1.2 later,
  ),
)

-- A push. It loads both positions, and stores the number and then the next write position.
module _ {M : Type 0} (answers : M → Access → ℕ → M → Type 0) (limit value write read a b next : ℕ) (m n o p q : M)
    (first : answers m (Load Write) write n) (second : answers n (Load Read) read o) (third : answers o (Store (Cell write) value) a p)
    (is : next ≡ successor write) (fourth : answers p (Store Write next) b q) where
  abbrev Pushes : List ℕ → M → Push → Type 0
  Pushes given after end = Runs answers push_next push_take push_is_over given m (push.Begun limit value) after end

  -- what a push comes to
  abbrev PushLeaves : M → Option ℕ → Type 0
  PushLeaves after left = (given : List ℕ) × (end : Push) × Pushes given after end × (push_is_over end ≡ false → length given ≡ 6)
      × (left ≡ left_by end)

  stored : Pushes (write ∷ read ∷ a ∷ b ∷ []) q (push_filled limit value next read)
  stored = (refl, (n, first, (refl, (o, second, (refl, (p, third, (refl, (q, moved, (refl, same)))))))))
    where
      moved : answers p (Store Write (successor write)) b q
      moved = subst (λ (k : ℕ). answers p (Store Write k) b q) is fourth

      same : push_filled limit value next read ≡ push_filled limit value (successor write) read
      same = ap (λ (k : ℕ). push_filled limit value k read) is

  -- that is all where no more than `limit` numbers can wait
  pub kept : next - read ≤ limit → PushLeaves q None
  kept room = (write ∷ read ∷ a ∷ b ∷ [], push.Pushed value Kept, ran, λ more. absurd (cc), refl)
    where
      ran : Pushes (write ∷ read ∷ a ∷ b ∷ []) q (push.Pushed value Kept)
      ran =
          subst (Pushes (write ∷ read ∷ a ∷ b ∷ []) q) (cond-false (nat_lt limit (next - read)) _ _ (le-ltb limit (next - read) room))
          stored

  -- otherwise it loads the oldest number, and exchanges the read position
  module _ (full : limit < next - read) (oldest after found : ℕ) (r s : M) (fifth : answers q (Load (Cell read)) oldest r)
      (goes : after ≡ successor read) (sixth : answers r (Exchange Read read after) found s) where
    exchanged : Pushes (write ∷ read ∷ a ∷ b ∷ oldest ∷ found ∷ []) s (push_swapped value (found == read) oldest)
    exchanged =
        joined answers push_next push_take push_is_over (write ∷ read ∷ a ∷ b ∷ []) (oldest ∷ found ∷ []) m (push.Begun limit value) q
        (push.Full value read (successor read)) s (push_swapped value (found == read) oldest)
        (subst (Pushes (write ∷ read ∷ a ∷ b ∷ []) q) (cond-true (nat_lt limit (next - read)) _ _ (lt-ltb limit (next - read) full)) stored)
        (refl, (r, fifth, (refl, (s, subst (λ (k : ℕ). answers r (Exchange Read read k) found s) goes sixth, (refl, refl)))))

    leaves : (left : Option ℕ) → left ≡ left_by (push_swapped value (found == read) oldest) → PushLeaves s left
    leaves left is =
        (write ∷ read ∷ a ∷ b ∷ oldest ∷ found ∷ [], push_swapped value (found == read) oldest, exchanged, λ more. refl, is)

    pub removed : found ≡ read → PushLeaves s (Some oldest)
    removed won = leaves (Some oldest) (ap (λ (b : Bool). left_by (push_swapped value b oldest)) (sym (eq-eqb found read won)))

    pub lost : (found ≡ read → ⊥) → PushLeaves s None
    lost other = leaves None (ap (λ (b : Bool). left_by (push_swapped value b oldest)) (sym (ne_eqb found read other)))

-- A pop. It loads both positions.
module _ {M : Type 0} (answers : M → Access → ℕ → M → Type 0) (read write : ℕ) (m n o : M) (first : answers m (Load Read) read n)
    (second : answers n (Load Write) write o) where
  abbrev Pops : List ℕ → M → Pop → Type 0
  Pops given after end = Runs answers pop_next pop_take pop_is_over given m pop.Begun after end

  -- what a pop comes to
  abbrev PopTakes : M → Option ℕ → Type 0
  PopTakes after got = (given : List ℕ) × (end : Pop) × Pops given after end × (pop_is_over end ≡ false → length given ≡ 2 ^ 21 + 2)
      × (got ≡ taken end)

  loaded : Pops (read ∷ write ∷ []) o (pop_emptied (write == read) read)
  loaded = (refl, (n, first, (refl, (o, second, (refl, refl)))))

  -- that is all where they are equal
  pub emptied : write ≡ read → PopTakes o None
  emptied same = (read ∷ write ∷ [], pop.Popped None, ran, λ more. absurd (cc), refl)
    where
      ran : Pops (read ∷ write ∷ []) o (pop.Popped None)
      ran = subst (Pops (read ∷ write ∷ []) o) (cond-true (write == read) _ _ (eq-eqb write read same)) loaded

  -- otherwise it loads the cell, and exchanges the read position
  module _ (other : write ≡ read → ⊥) (value after found : ℕ) (p q : M) (third : answers o (Load (Cell read)) value p)
      (goes : after ≡ successor read) (fourth : answers p (Exchange Read read after) found q) where
    tried : Pops (read ∷ write ∷ value ∷ found ∷ []) q (pop_swapped (found == read) found value)
    tried =
        joined answers pop_next pop_take pop_is_over (read ∷ write ∷ []) (value ∷ found ∷ []) m pop.Begun o
        (pop.Nonempty read (successor read)) q (pop_swapped (found == read) found value)
        (subst (Pops (read ∷ write ∷ []) o) (cond-false (write == read) _ _ (ne_eqb write read other)) loaded)
        (refl, (p, third, (refl, (q, subst (λ (k : ℕ). answers p (Exchange Read read k) found q) goes fourth, (refl, refl)))))

    pub took : found ≡ read → PopTakes q (Some value)
    took won = (read ∷ write ∷ value ∷ found ∷ [], pop.Popped (Some value), ran, λ more. absurd (cc), refl)
      where
        ran : Pops (read ∷ write ∷ value ∷ found ∷ []) q (pop.Popped (Some value))
        ran = subst (Pops (read ∷ write ∷ value ∷ found ∷ []) q) (cond-true (found == read) _ _ (eq-eqb found read won)) tried

    -- a lost exchange is followed by further tries
    pub retried : (found ≡ read → ⊥) → (given : List ℕ) (end : Pop) (r : M) (got : Option ℕ)
        → Runs answers pop_next pop_take pop_is_over given q (pop.Nonempty found (successor found)) r end
        → (pop_is_over end ≡ false → length given ≡ 2 ^ 21 - 2) → got ≡ taken end → PopTakes r got
    retried lost given end r got later all is = (
      (read ∷ write ∷ value ∷ found ∷ []) ++ given,
      end,
      joined answers pop_next pop_take pop_is_over (read ∷ write ∷ value ∷ found ∷ []) given m pop.Begun q
          (pop.Nonempty found (successor found)) r end ran later,
      λ more. omega (arith, all more, length-append (read ∷ write ∷ value ∷ found ∷ []) given),
      is,
    )
      where
        ran : Pops (read ∷ write ∷ value ∷ found ∷ []) q (pop.Nonempty found (successor found))
        ran = subst (Pops (read ∷ write ∷ value ∷ found ∷ []) q) (cond-false (found == read) _ _ (ne_eqb found read lost)) tried
