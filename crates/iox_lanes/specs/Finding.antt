-- Lanes to which nothing happened except that they found something.
use Rattle.std.specs.Prelude.{◌+◌, ◌<◌, ◌^◌, ◌≡◌, Bool, true, false, List, [], ◌∷◌, set}
use Rattle.iox_lanes_machine.specs.Findings.{AreFound}
use Rattle.iox_lanes_machine.specs.Made.{start}
use Rattle.iox_lanes_machine.specs.World.{World}
use Rattle.iox_lanes_machine.specs.declared.found.Found.{Found}
use Rattle.iox_lanes_machine.specs.declared.found.Found.TheVariants as found
use Rattle.iox_lanes_machine.specs.declared.sizes.LaneSizes.{LaneSizes}

-- Lanes before their first step, with the sizes that they were made of.
pub record Beginning : Type 0 where
  pub sizes : LaneSizes
  pub lanes : World

-- Whether the finding is a sample in a completion ring.
abbrev pub is_given_back : Found → Bool
is_given_back (found.Waiting publisher place slot) = false
is_given_back (found.GivenBack publisher place slot) = true
is_given_back (found.Newest publisher slot) = false
is_given_back (found.Held slot word value) = false
is_given_back (found.Buffer publisher place messages) = false
is_given_back (found.Slots publisher slots most_loans) = false
is_given_back (found.Sender publisher node_id publisher_id fails last) = false
is_given_back (found.Swapped subscriber one other) = false

-- None of the findings is a sample in a completion ring.
abbrev pub NoneCameBack : List Found → Type 0
NoneCameBack [] = Unit {0}
NoneCameBack (first ∷ rest) = (is_given_back first ≡ false) × NoneCameBack rest

-- The lanes were made of these sizes, and then found this list.
pub record WasFound (sizes : LaneSizes) (m : World) : Type 0 where
  pub some : 0 < sizes.buffer
  pub ports : sizes.subscribers < 2 ^ 61
  pub small : sizes.buffer + sizes.most_borrowed + 1 < 2 ^ 62
  pub found : List Found
  pub finds : AreFound (start sizes) found m

-- The lanes were made of these sizes, and then found a list without samples in completion rings.
pub record NothingCameBack (sizes : LaneSizes) (m : World) : Type 0 where
  pub was : WasFound sizes m
  pub none : NoneCameBack was.found

-- Whether the sends of each publisher fail, after this was found.
abbrev pub failing_behind : Found → List Bool → List Bool
failing_behind (found.Waiting publisher place slot) all = all
failing_behind (found.GivenBack publisher place slot) all = all
failing_behind (found.Newest publisher slot) all = all
failing_behind (found.Held slot word value) all = all
failing_behind (found.Buffer publisher place messages) all = all
failing_behind (found.Slots publisher slots most_loans) all = all
failing_behind (found.Sender publisher node_id publisher_id fails last) all = set all publisher fails
failing_behind (found.Swapped subscriber one other) all = all
