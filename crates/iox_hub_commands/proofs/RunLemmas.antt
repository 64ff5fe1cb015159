-- A run goes on by one more command; and what holds over each command, and over one thing after another, holds over a run.
use Rattle.std.proofs.Common.{List, [], ◌∷◌, ◌++◌, Bool, true, false, Result, Ok, Err, inl, inr, refl, ap}
use Rattle.std.specs.declared.alloc.AllocError.{AllocError}
use Rattle.iox_hub_commands.specs.Runs.{Runs, IsRun}

module _ {C R S : Type 0} (step : C → S → Result R AllocError → S → Type 0) where
  pub runs_more : (first : List C) (command : C) (old mid new : S) (replies : List R) (reply : R) → Runs step first old replies mid
      → step command mid (Ok reply) new → Runs step (first ++ command ∷ []) old (replies ++ reply ∷ []) new
  runs_more [] command old mid new replies reply (none, same) steps
      = (reply, new, [], rw same at steps, (refl, refl), ap (λ all. all ++ reply ∷ []) none)
  runs_more (one ∷ rest) command old mid new replies reply (its, between, others, goes, runs, is) steps = (
    its,
    between,
    others ++ reply
        ∷ [],
    goes,
    runs_more rest command between mid new others reply runs steps,
    ap (λ all. all ++ reply ∷ []) is,
  )

  module _ (Goes : S → S → Type 0) (still : (one : S) → Goes one one)
      (on_and_on : (old mid new : S) → Goes old mid → Goes mid new → Goes old new)
      (steps : (command : C) (old new : S) (answer : Result R AllocError) → step command old answer new → Goes old new) where
    runs_go : (commands : List C) (old new : S) (replies : List R) → Runs step commands old replies new → Goes old new
    runs_go [] old new replies (none, same) = rw same (still old)
    runs_go (command ∷ commands) old new replies (reply, mid, rest, does, runs, is)
        = on_and_on old mid new (steps command old mid (Ok reply) does) (runs_go commands mid new rest runs)

    pub run_goes : (commands : List C) (old new : S) (replies : List R) (stopped : Bool) → IsRun step commands old replies stopped new
        → Goes old new
    run_goes commands old new replies false runs = runs_go commands old new replies runs
    run_goes commands old new replies true (inl (some, none, same)) = rw same (still old)
    run_goes commands old new replies true (inr (first, command, rest, mid, lacking, is, runs, does))
        = on_and_on old mid new (runs_go first old mid replies runs) (steps command mid new (Err lacking) does)
