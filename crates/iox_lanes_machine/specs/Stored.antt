-- What a connection's two rings contain besides the messages that wait there: delayed puts, which lie aside, and the samples that came
-- back.
use Rattle.std.specs.Prelude.{ℕ, zero, suc, ◌+◌, ◌-◌, ◌%◌, List, [], ◌∷◌, ◌++◌, length, slice_index}
use Rattle.iox_lanes_parties.specs.QueuesSteps.Access.{RingWords}
use Rattle.iox_lanes_parties.specs.QueuesSteps.declared.order.Act.{Act}
use Rattle.iox_lanes_parties.specs.QueuesSteps.declared.order.Act.TheVariants.{Put, Take}
use Rattle.iox_lanes_parties.specs.QueuesSteps.declared.order.PushAnswer.{PushAnswer}
use Rattle.iox_lanes_parties.specs.QueuesSteps.declared.order.PushAnswer.TheVariants.{Kept, LeftOut, Refused}
use Rattle.iox_lanes_parties.specs.QueuesSteps.Ends.{late_put}
use Rattle.iox_lanes_parties.specs.QueuesSteps.declared.rings.ends.Push.{Push}

-- The value that was put, unless it was refused.
abbrev pub taken_in : ℕ → PushAnswer → List ℕ
taken_in value Kept = value ∷ []
taken_in value (LeftOut oldest) = value ∷ []
taken_in value Refused = []

-- The values of these puts that were taken.
abbrev pub put_in : List Act → List ℕ
put_in [] = []
put_in (Put value answer ∷ acts) = taken_in value answer ++ put_in acts
put_in (Take answer ∷ acts) = put_in acts

-- What lies aside: the value that a push has stored, if its put waits for the next move of the read position.
abbrev pub aside : ℕ → Push → List ℕ
aside read push = put_in (late_put read push)

-- This many cells of a ring, from a position on.
abbrev pub cells_from : RingWords → ℕ → ℕ → List ℕ
cells_from words position zero = []
cells_from words position (suc more) = slice_index words.cells (position % length words.cells) ∷ cells_from words (position + 1) more

-- What is in a ring between its two positions.
abbrev pub between : RingWords → List ℕ
between words = cells_from words words.read (words.write - words.read)
