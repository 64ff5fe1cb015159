-- Lanes after they found something.
use Rattle.std.specs.Prelude.{if◌then◌else◌, List, [], ◌∷◌}
use Rattle.iox_lanes_machine.specs.Findings.{finds, with_found}
use Rattle.iox_lanes_machine.specs.World.{World}
use Rattle.iox_lanes_machine.specs.declared.found.Found.{Found}

-- The lanes after they found this, if it may be found; otherwise the lanes as they are.
unfoldable pub behind_finding : World → Found → World
behind_finding m f = if finds m f then with_found m f else m

-- The lanes after they found each item of a list, in its order.
unfoldable pub behind_findings : World → List Found → World
behind_findings m [] = m
behind_findings m (f ∷ fs) = behind_findings (behind_finding m f) fs
