-- Commands one after the other.
use Rattle.std.specs.Prelude.{◌≡◌, ◌<◌, ◌⊎◌, Bool, true, false, List, [], ◌∷◌, ◌++◌, length, Result, Ok, Err}
use Rattle.std.specs.declared.alloc.AllocError.{AllocError}

module _ {C R S : Type 0} (step : C → S → Result R AllocError → S → Type 0) where
  -- Each command is carried out on the state that the one before it left, and has its reply.
  abbrev pub Runs : List C → S → List R → S → Type 0
  Runs [] old replies new = (replies ≡ []) × (new ≡ old)
  Runs (command ∷ commands) old replies new =
      (reply : R) × (mid : S) × (rest : List R) × step command old (Ok reply) mid × Runs commands mid rest new × (replies ≡ reply ∷ rest)

  -- There are commands, but none is carried out: memory ran out for the list of their replies.
  abbrev pub NeverBegins : List C → S → List R → S → Type 0
  NeverBegins commands old replies new = (0 < length commands) × (replies ≡ []) × (new ≡ old)

  -- A command without a reply ends the run; those before it are a run, with these replies.
  abbrev pub EndsAt : List C → S → List R → S → Type 0
  EndsAt commands old replies new =
      (first : List C) × (command : C) × (rest : List C) × (mid : S) × (lacking : AllocError)
      × (commands ≡ first ++ command ∷ rest) × Runs first old replies mid × step command mid (Err lacking) new

  -- The commands are a run with these replies; or the run stopped.
  abbrev pub IsRun : List C → S → List R → Bool → S → Type 0
  IsRun commands old replies false new = Runs commands old replies new
  IsRun commands old replies true new = NeverBegins commands old replies new ⊎ EndsAt commands old replies new
