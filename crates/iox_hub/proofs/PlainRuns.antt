-- A run of commands that name no handler.
use Rattle.std.proofs.Common.{◌≡◌, ◌∙◌, ◌<◌, ◌++◌, true, false, List, [], ◌∷◌, map, Option, Err, refl, sym, ap, subst, inl, inr}
use Rattle.std.proofs.lemmas.List.{length-map}
use Rattle.std.specs.declared.alloc.AllocError.{AllocError}
use Rattle.iox_hub_commands.specs.Command.declared.command.Command.{Command}
use Rattle.iox_hub_commands.specs.Command.declared.reply.Reply.{Reply}
use Rattle.iox_hub_commands.specs.DomainValues.declared.backpressure.BackpressureAction.{BackpressureAction}
use Rattle.iox_hub_commands.specs.DomainValues.declared.backpressure_strategy.BackpressureStrategy.{BackpressureStrategy}
use Rattle.iox_hub_commands.specs.DomainValues.declared.degradation.DegradationAction.{DegradationAction}
use Rattle.iox_hub_commands.specs.Runs.{Runs, IsRun}
use Rattle.iox_hub_commands.specs.CommandSteps.{Step}
use Rattle.iox_hub_commands.specs.declared.numbered_hub.NumberedHub.{NumberedHub}
use Rattle.iox_hub_commands.specs.Terms.{Terms}
use Rattle.iox_hub.specs.RunLaws.{PlainRunsArePlain}
use Rattle.iox_hub.specs.Steps.{HandledStep}
use Rattle.iox_hub.specs.declared.given.GivenHandler.{GivenHandler}
use Rattle.iox_hub.specs.declared.handled_command.HandledCommand.{HandledCommand}
use Rattle.iox_hub.specs.declared.handled_command.HandledCommand.TheVariants as asked

-- where a list of values goes apart, those that it was made of do
record Apart {A C : Type 0} (f : A → C) (all : List A) (first : List C) (one : C) : Type 0 where
  before : List A
  at : A
  after : List A
  is : all ≡ before ++ at ∷ after
  is_first : first ≡ map f before
  is_one : one ≡ f at

tail_of : {C : Type 0} (x y : C) (xs ys : List C) → x ∷ xs ≡ y ∷ ys → (x ≡ y) × (xs ≡ ys)
tail_of x y xs ys is = (cc, cc)

apart : {A C : Type 0} (f : A → C) (all : List A) (first : List C) (one : C) (rest : List C) → map f all ≡ first ++ one ∷ rest
    → Apart f all first one
apart f [] [] one rest is = cc
apart f [] (other ∷ first) one rest is = cc
apart f (a ∷ all) [] one rest is = record
    { before = []; at = a; after = all; is = refl; is_first = refl; is_one = sym (tail_of (f a) one (map f all) rest is).0 }
apart f (a ∷ all) (other ∷ first) one rest is =
    let same = tail_of (f a) other (map f all) (first ++ one ∷ rest) is in
    let deeper = apart f all first one rest same.1 in
    record {
      before = a ∷ deeper.before;
      at = deeper.at;
      after = deeper.after;
      is = ap (λ others. a ∷ others) deeper.is;
      is_first
          = cc (sym same.0, deeper.is_first);
      is_one = deeper.is_one;
    }

module _ {T U B D P : Type 0} (terms : Terms T U B D)
    (handled : BackpressureStrategy → Option BackpressureAction → DegradationAction → Option P → Option D → B) where
  runs_plain : (commands : List (Command T)) (old new : NumberedHub T U B D × List (Option (GivenHandler P D))) (replies : List (Reply T))
      → Runs (HandledStep terms handled) (map (λ (command : Command T). asked.Plain command) commands) old replies new
      → Runs (Step terms) commands old.0 replies new.0 × (new.1 ≡ old.1)
  runs_plain [] old new replies (none, same) = (
    (none, ap (λ (state : NumberedHub T U B D × List (Option (GivenHandler P D))). state.0) same),
    ap
        (λ (state : NumberedHub T U B D × List (Option (GivenHandler P D))). state.1) same,
  )
  runs_plain (command ∷ commands) old new replies (answer, mid, rest, does, runs, is) =
      let later = runs_plain commands mid new rest runs in
      ((answer, mid.0, rest, does.0, later.0, is), later.1 ∙ does.1)

  -- a run that stopped
  stops_plain : (commands : List (Command T)) (first : List (HandledCommand T)) (command : HandledCommand T)
      (old mid new : NumberedHub T U B D × List (Option (GivenHandler P D))) (replies : List (Reply T)) (lacking : AllocError)
      → Apart (λ (one : Command T). asked.Plain one) commands first command
      → Runs (HandledStep terms handled) first old replies mid
      → HandledStep terms handled command mid (Err lacking) new
      → IsRun (Step terms) commands old.0 replies true new.0 × (new.1 ≡ old.1)
  stops_plain commands first command old mid new replies lacking parts runs does =
      let ran = runs_plain parts.before old mid replies
      (subst (λ (all : List (HandledCommand T)). Runs
      (HandledStep terms handled) all old replies mid) parts.is_first runs) in
      let last : HandledStep terms handled (asked.Plain parts.at) mid (Err lacking) new =
      subst (λ (one : HandledCommand T). HandledStep terms handled one mid (Err lacking) new) parts.is_one does in
      (inr (parts.before, parts.at, parts.after, mid.0, lacking, parts.is, ran.0, last.0), last.1 ∙ ran.1)

  pub plain_runs : PlainRunsArePlain (HandledStep terms handled) (Step terms)
  plain_runs commands old new replies false runs = runs_plain commands old new replies runs
  plain_runs commands old new replies true (inl (some, none, same)) = (
    inl (
      subst (λ n. 0 < n) (length-map commands (λ (command : Command T). asked.Plain command)) some,
      none,
      ap
          (λ (state : NumberedHub T U B D × List (Option (GivenHandler P D))). state.0) same,
    ),
    ap (λ (state : NumberedHub T U B D × List (Option (GivenHandler P D))). state.1) same,
  )
  plain_runs commands old new replies true (inr (first, command, rest, mid, lacking, is, runs, does)) =
      stops_plain commands first command old mid new replies lacking
      (apart (λ (one : Command T). asked.Plain one) commands first command rest is) runs does
