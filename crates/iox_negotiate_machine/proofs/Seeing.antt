-- The look of a call, with the steps before it.
use Rattle.std.proofs.Common.{◌≡◌, ℕ, ◌+◌, List, ◌++◌, length, fold, take, sym, subst, ◌⊎◌, inl, inr}
use Rattle.iox_command.specs.NegotiateBase.DescribeBase.Hash.{service_hash_of}
use Rattle.iox_command.specs.NegotiateBase.DescribeBase.declared.hash.ServiceHash.{ServiceHash}
use Rattle.iox_command.specs.NegotiateBase.DescribeBase.declared.message_type.MessageTypeDetails.{MessageTypeDetails}
use Rattle.iox_command.specs.NegotiateBase.DescribeBase.declared.pattern.MessagingPattern.{MessagingPattern}
use Rattle.iox_command.specs.declared.step.StepBefore.{StepBefore}
use Rattle.iox_machine.specs.Negotiation.{Call}
use Rattle.iox_machine.specs.Phase.{Phase, Absent, BeingMade, Published, Emptied, acted}
use Rattle.iox_negotiate_machine.proofs.Acting.{OwnHash}
use Rattle.iox_negotiate_machine.proofs.Looking.{looks-shown}
use Rattle.iox_negotiate_machine.proofs.Preceding.{Comes, Ends, UnderWay, ends-with-all, meanwhile, next_call, preceded}
use Rattle.iox_negotiate_machine.specs.LookLaws.{ShowsPhase}
use Rattle.iox_negotiate_machine.specs.CallLaws.{HaveStepForms}
use Rattle.iox_negotiate_machine.specs.Standing.{IsLast, description_of}
use Rattle.iox_negotiate_table.specs.Contents.{Contents}
use Rattle.iox_negotiate_table.specs.NegotiateBase.Access.{Look}
use Rattle.iox_negotiate_table.specs.NegotiateBase.Sight.{IsSight}
use Rattle.iox_negotiate_table.specs.NegotiateBase.declared.answer.LookAnswer.{LookAnswer}
use Rattle.iox_negotiate_table.specs.NegotiateBase.declared.answer.LookAnswer.TheVariants as look
use Rattle.iox_negotiate_table.specs.NegotiateBase.declared.sight.Sight.{Sight as Shown}
use Rattle.iox_negotiate_table.specs.NegotiateBase.declared.sight.Sight.TheVariants as shown
use Rattle.iox_negotiate_table.specs.NegotiateBase.declared.sight.SightFailure.TheVariants as failure
use Rattle.iox_negotiate_table.specs.Stepped.{Steps, SteppedSight}

module _ (types : MessageTypeDetails) (pattern : MessagingPattern) (name : List ℕ) (own : OwnHash pattern name) (steps : List StepBefore)
    (form : HaveStepForms types name steps) (old : Contents) (taken : List ℕ) where
  abbrev hash : ServiceHash
  hash = service_hash_of pattern name

  abbrev Under : ℕ → ℕ → Contents → Steps → Call → Type 0
  Under left locks table after call = UnderWay types pattern name own steps form old taken left locks table after.lists call

  abbrev next : Call → Call
  next call = next_call types pattern name own steps form old taken call

  -- what is shown of a phase where memory is found
  abbrev pub Sees : Phase → List ℕ → Shown → Type 0
  Sees (Absent lives) numbers sight = sight ≡ shown.Absent
  Sees (BeingMade life by) numbers sight = sight ≡ shown.Failed failure.HangsInCreation
  Sees (Published life agreed nodes) numbers sight
      = IsLast (λ number. sight ≡ shown.Standing number (description_of pattern name agreed)) numbers
  Sees (Emptied life agreed by) numbers sight
      = IsLast (λ number. sight ≡ shown.Standing number (description_of pattern name agreed)) numbers

  with-memory : (phase : Phase) (numbers : List ℕ) (sight : Shown) → ShowsPhase pattern name phase numbers sight
      → Sees phase numbers sight ⊎ (sight ≡ shown.Failed failure.OutOfMemory)
  with-memory (Absent lives) numbers sight so = inl so
  with-memory (BeingMade life by) numbers sight so = inl so
  with-memory (Published life agreed nodes) numbers sight so = so
  with-memory (Emptied life agreed by) numbers sight so = so

  -- The effect of a lookup: it shows the phase that the machine has then; or memory runs out.
  abbrev pub SightComes : ℕ → ℕ → Call → Shown → Steps → Type 0
  SightComes left locks call sight after =
      ((under : Under left locks after.table after (next call)) × Sees (next call).phase (under.ends.more ++ taken) sight)
      ⊎ ((done : ℕ)
      × Ends pattern name old taken after.table
      (fold (acted types pattern) call.phase (take done (meanwhile types pattern name own steps form old taken call)))
      × (sight ≡ shown.Failed failure.OutOfMemory))

  pub sees : (answer : LookAnswer) (sight : Shown) (left locks : ℕ) (call : Call) (before after : Steps)
      → Under (1 + left) locks before.table before call → SteppedSight before (Look hash answer) after → IsSight hash answer sight
      → SightComes left locks call sight after
  sees answer sight left locks call before after under h seen =
      there (preceded types pattern name own steps form old taken (Look hash answer) (answer ≡ look.OutOfMemory) left locks call before
      after under h)
    where
      found : (mid : Contents) (now : Under left locks mid after (next call)) → after.table ≡ mid
          → Sees (next call).phase (now.ends.more ++ taken) sight ⊎ (sight ≡ shown.Failed failure.OutOfMemory)
          → SightComes left locks call sight after
      found mid now is (inl so) = inl
          (subst (λ (t : Contents). (u : Under left locks t after (next call)) × Sees (next call).phase (u.ends.more ++ taken) sight)
          (sym is) (now, so))
      found mid now is (inr lacking) = inr (
        length (meanwhile types pattern name own steps form old taken call),
        subst (λ (t : Contents). Ends pattern name old taken t (fold (acted types pattern) call.phase
            (take (length (meanwhile types pattern name own steps form old taken call))
            (meanwhile types pattern name own steps form old taken call))))
            (sym is) (ends-with-all types pattern name own steps form old taken call mid now.ends),
        lacking,
      )

      there : Comes types pattern name own steps form old taken left locks call under.ends.more (Look hash answer)
          (answer ≡ look.OutOfMemory) after
          → SightComes left locks call sight after
      there (inl (mid, now, looks, since)) =
          found mid now looks.1 (with-memory (next call).phase (now.ends.more ++ taken) sight
          (looks-shown pattern name mid (now.ends.more ++ taken) (next call).phase now.ends.stands answer sight looks.0 seen))
      there (inr (done, ends, lacking)) = inr (done, ends, subst (λ (a : LookAnswer). IsSight hash a sight) lacking seen)
