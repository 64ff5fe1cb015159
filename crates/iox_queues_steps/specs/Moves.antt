-- What a step of either end does to the waiting numbers and to the number aside.
use Rattle.std.specs.Prelude.{ℕ, ◌≡◌, ◌+◌, ◌^◌, ◌<◌, ◌⊎◌, List, [], ◌∷◌, ◌++◌}
use Rattle.iox_queues_steps.specs.Access.{RingWords, answer_of, after_access}
use Rattle.iox_queues_steps.specs.Order.{after_acts}
use Rattle.iox_queues_steps.specs.declared.order.Act.{Act}
use Rattle.iox_queues_steps.specs.declared.order.Act.TheVariants.{Put, Take}
use Rattle.iox_queues_steps.specs.Ends.{overflows, Shape, late_put, placed_by_push, placed_by_pop, push_next, push_take, pop_next}
use Rattle.iox_queues_steps.specs.declared.rings.ends.RingKind.{RingKind}
use Rattle.iox_queues_steps.specs.declared.rings.ends.Push.{Push}
use Rattle.iox_queues_steps.specs.declared.rings.ends.Pop.{Pop}

-- The numbers of the puts among these acts.
abbrev pub numbers : List Act → List ℕ
numbers [] = []
numbers (Put value answer ∷ acts) = value ∷ numbers acts
numbers (Take answer ∷ acts) = numbers acts

-- The number whose put takes effect at the next move of the read position, if there is one.
abbrev pub aside : ℕ → Push → List ℕ
aside read push = numbers (late_put read push)

-- Nothing changes, or the oldest number is removed and the number aside is appended.
abbrev pub MovesOut : List ℕ → List ℕ → List ℕ → List ℕ → Type 0
MovesOut q beside q' beside' =
    ((q' ≡ q) × (beside' ≡ beside))
    ⊎ ((head : ℕ) × (rest : List ℕ) × (q ≡ head ∷ rest) × (q' ≡ rest ++ beside) × (beside' ≡ []))

-- Nothing changes, or the oldest number is removed and the number aside is appended; or no number is aside, and a number is appended or put
-- aside.
abbrev pub Moves : List ℕ → List ℕ → List ℕ → List ℕ → Type 0
Moves q beside q' beside' =
    MovesOut q beside q' beside'
    ⊎ (((value : ℕ) × (beside ≡ []) × (q' ≡ q ++ value ∷ []) × (beside' ≡ []))
    ⊎ ((value : ℕ) × (beside ≡ []) × (q' ≡ q) × (beside' ≡ value ∷ [])))

-- Every step of a push in a consistent state moves the numbers in one of these ways.
abbrev pub PushMoves : Type 0
PushMoves = (kind : RingKind) (limit : ℕ) (words : RingWords) (q : List ℕ) (push : Push) (pop : Pop) → words.write + 1 < 2 ^ 64
    → Shape kind limit words q push pop
    → Moves q (aside words.read push) (after_acts (overflows kind) limit q (placed_by_push limit words.read push))
    (aside (after_access words (push_next push)).read (push_take push (answer_of words (push_next push))))

-- Every step of a pop or a look in a consistent state removes the oldest number and appends the number aside, or changes nothing.
abbrev pub PopMoves : Type 0
PopMoves = (kind : RingKind) (limit : ℕ) (words : RingWords) (q : List ℕ) (push : Push) (pop : Pop) → words.write + 1 < 2 ^ 64
    → Shape kind limit words q push pop
    → MovesOut q (aside words.read push) (after_acts (overflows kind) limit q (placed_by_pop words push pop))
    (aside (after_access words (pop_next pop)).read push)
