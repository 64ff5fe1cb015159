-- Where a store and a load of a single value end.
use Rattle.std.proofs.Common.{true, false, Bool, ℕ, ◌≡◌, ◌==◌, List, [], ◌∷◌, length, arith, refl, ap}
use Rattle.std.proofs.lemmas.Grind.{common_steps}
use Rattle.iox_queues.specs.QueuesSteps.Runs.{Runs}
use Rattle.iox_queues.specs.QueuesSteps.declared.access.Access.{Access}
use Rattle.iox_queues.specs.Single.{EndsUnmoved, load_is_over, load_next, load_seen, load_take, store_is_over, store_next, store_take}
use Rattle.iox_queues.specs.declared.shared.single.Storing.{Storing}
use Rattle.iox_queues.specs.declared.shared.single.Storing.TheVariants as storing
use Rattle.iox_queues.specs.declared.shared.single.Loading.{Loading}
use Rattle.iox_queues.specs.declared.shared.single.Loading.TheVariants as loading

module _ {M : Type 0} (answers : M → Access → ℕ → M → Type 0) where
  abbrev pub Stores : List ℕ → M → Storing → M → Storing → Type 0
  Stores given memory stage after end = Runs answers store_next store_take store_is_over given memory stage after end

  abbrev pub Loads : List ℕ → M → Loading → M → Loading → Type 0
  Loads given memory stage after end = Runs answers load_next load_take load_is_over given memory stage after end

  -- three accesses end a store, and no fourth is made
  pub store-ends : (given : List ℕ) (memory after : M) (end : Storing) → Stores given memory storing.Begun after end
      → (store_is_over end ≡ false → length given ≡ 3) → end ≡ storing.Stored
  store-ends [] memory after end runs most = absurd (omega (arith, most (ap store_is_over runs.1)))
  store-ends (a ∷ []) memory after end runs most = absurd (omega (arith, most (ap store_is_over runs.1.2.1)))
  store-ends (a ∷ b ∷ []) memory after end runs most = absurd (omega (arith, most (ap store_is_over runs.1.2.1.2.1)))
  store-ends (a ∷ b ∷ d ∷ []) memory after end runs most = runs.1.2.1.2.1.2.1
  store-ends (a ∷ b ∷ d ∷ e ∷ given) memory after end runs most = absurd (let bad : true ≡ false = runs.1.2.1.2.1.2.0 in cc)

  -- a list that ends so does with one more answer before it
  before-one : (a : ℕ) (given : List ℕ) → EndsUnmoved given → EndsUnmoved (a ∷ given)
  before-one a given ends = (a ∷ ends.0, ends.1, ends.2, ap (λ rest. a ∷ rest) ends.3)

  -- a load that saw this position and this value, and then that position; where that moved, it goes on from there
  from-seen : (write value found : ℕ) (given : List ℕ) (memory after : M) (end : Loading) (unmoved : Bool) → (found == write) ≡ unmoved
      → Loads given memory (load_seen unmoved found) after end
      → (Loads given memory (loading.SawWrite found) after end → EndsUnmoved (found ∷ given)) → EndsUnmoved (write ∷ value ∷ found ∷ given)
  from-seen write value found [] memory after end true same runs again =
      let is : found ≡ write = grind (arith, common_steps, same) in
      rw is ([], write, value, refl)
  from-seen write value found (more ∷ given) memory after end true same runs again = absurd (let bad : true ≡ false = runs.0 in cc)
  from-seen write value found given memory after end false same runs again =
      before-one write (value ∷ found ∷ given) (before-one value (found ∷ given) (again runs))

  mutual
    -- a load that saw this position
    from-write : (write : ℕ) (given : List ℕ) (memory after : M) (end : Loading) → Loads given memory (loading.SawWrite write) after end
        → load_is_over end ≡ true → EndsUnmoved (write ∷ given)
    from-write write [] memory after end runs over = absurd (let bad : load_is_over end ≡ false = ap load_is_over runs.1 in cc)
    from-write write (value ∷ given) memory after end runs over = from-value write value given runs.1.0 after end runs.1.2 over

    -- a load that saw this position, and then this value
    from-value : (write value : ℕ) (given : List ℕ) (memory after : M) (end : Loading)
        → Loads given memory (loading.SawValue write) after end
        → load_is_over end ≡ true → EndsUnmoved (write ∷ value ∷ given)
    from-value write value [] memory after end runs over = absurd (let bad : load_is_over end ≡ false = ap load_is_over runs.1 in cc)
    from-value write value (found ∷ given) memory after end runs over =
        from-seen write value found given runs.1.0 after end (found == write) refl runs.1.2
        (λ again. from-write found given runs.1.0 after end again over)

  -- a load that is over saw the same position before and after its last look at the cell
  pub load-ends : (given : List ℕ) (memory after : M) (end : Loading) → Loads given memory loading.Begun after end
      → load_is_over end ≡ true → EndsUnmoved given
  load-ends [] memory after end runs over = absurd (let bad : load_is_over end ≡ false = ap load_is_over runs.1 in cc)
  load-ends (write ∷ given) memory after end runs over = from-write write given runs.1.0 after end runs.1.2 over
