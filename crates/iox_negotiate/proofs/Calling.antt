-- Whole calls, one after another: each open factory stays valid.
use Rattle.std.proofs.Common.{◌≡◌, ℕ, List, [], ◌∷◌, ◌++◌, Option, Result, Ok, Err, sym, subst}
use Rattle.std.proofs.lemmas.List.{append-nil}
use Rattle.iox_negotiate_table.specs.DescribeBase.declared.hash.ServiceHash.{ServiceHash}
use Rattle.iox_negotiate_table.specs.DescribeSettings.Agreement.{Agreement}
use Rattle.iox_negotiate_table.specs.NegotiateBase.Access.{Access, Look, Lock, MakeSegment, Publish, Unlock, OpenSegment, Leave}
use Rattle.iox_negotiate_table.specs.NegotiateBase.Access.{RemoveDescription, RemoveSegment}
use Rattle.iox_negotiate_table.specs.NegotiateBase.Creating.{CreatesIf}
use Rattle.iox_negotiate_table.specs.NegotiateBase.Opening.{OpenRound, Opens, EitherRound, OpensOrCreates}
use Rattle.iox_negotiate_table.specs.NegotiateBase.Runs.{Went}
use Rattle.iox_negotiate_table.specs.NegotiateBase.declared.answer.LeaveAnswer.{LeaveAnswer}
use Rattle.iox_negotiate_table.specs.NegotiateBase.declared.failure.CreateFailure.{CreateFailure}
use Rattle.iox_negotiate_table.specs.NegotiateBase.declared.failure.OpenFailure.{OpenFailure}
use Rattle.iox_negotiate_table.specs.NegotiateBase.declared.failure.OpenOrCreateFailure.{OpenOrCreateFailure}
use Rattle.iox_negotiate_table.specs.NegotiateBase.declared.request.Opened.{Opened}
use Rattle.iox_negotiate.specs.NegotiateBase.declared.errors.close.CloseError.{CloseError}
use Rattle.iox_negotiate.specs.Factory.{Closes}
use Rattle.iox_negotiate_table.specs.Contents.{Contents, empty_table}
use Rattle.iox_negotiate_table.specs.Stepped.{Steps, SteppedSight}
use Rattle.iox_negotiate.specs.Factories.{Factory}
use Rattle.iox_negotiate.specs.Calls.{Call, Creates, Opening, Either, Closing, Between, opened_too, Tells, MayBegin, kept, open_after}
use Rattle.iox_negotiate.specs.Calls.{Goes, Called, OpenFactoriesStand, StandInsideCalls}
use Rattle.iox_negotiate.proofs.Tables.{new-table, sees}
use Rattle.iox_negotiate.proofs.Standing.{fewer-stand, leave-stand}
use Rattle.iox_negotiate.proofs.Stepping.{quiet-front}
use Rattle.iox_negotiate.proofs.Quiet.{creates-quiet, round-quiet, either-quiet, rounds-quiet, leave-goes-quiet}
use Rattle.iox_negotiate.proofs.Ending.{World, world-step, world-quiet, creates-ends, opens-ends, either-ends}

-- ---- closing

module _ (before after : List Factory) (factory : Factory) (old new : Steps) where
  -- after the leave
  left-world : (answer : LeaveAnswer) → World (before ++ (factory ∷ after)) old.table
      → SteppedSight old (Leave factory.agreed.service_hash factory.number factory.node answer) new → World (before ++ after) new.table
  left-world answer w h = record {
    is = sees old.table new.table w.is (Leave factory.agreed.service_hash factory.number factory.node answer) h.0;
    stand = leave-stand before after factory old.table new.table answer w.stand h.0;
  }

-- any front of what a closing does keeps the others
closing-front : (before after : List Factory) (factory : Factory) (result : Result (Unit {0}) CloseError) (done rest : List Access)
    (old new : Steps) → World (before ++ (factory ∷ after)) old.table
    → Closes factory.agreed.service_hash factory.number factory.node (done ++ rest) result → Went SteppedSight old done new
    → World (before ++ after) new.table
closing-front before after factory result [] rest old new w told went =
    subst (λ s. World (before ++ after) s.table) (sym went)
    (record { is = w.is; stand = fewer-stand before after factory old.table w.stand })
closing-front before after factory result (Leave under of by answer ∷ done) rest old new w (own, same, who, goes) (mid, leaves, went) =
    let leave = subst (λ d. SteppedSight old (Leave factory.agreed.service_hash factory.number d answer) mid) who
    (subst (λ n. SteppedSight old (Leave factory.agreed.service_hash n by answer) mid) same
    (subst (λ h. SteppedSight old (Leave h of by answer) mid) own leaves)) in
    world-quiet (before ++ after) done mid new
    (quiet-front done rest (leave-goes-quiet factory.agreed.service_hash factory.number answer (done ++ rest) result goes))
    (left-world before after factory old mid answer w leave) went
closing-front before after factory result (Look under answer ∷ done) rest old new w told went = absurd told
closing-front before after factory result (Lock under by answer ∷ done) rest old new w told went = absurd told
closing-front before after factory result (MakeSegment under of by room answer ∷ done) rest old new w told went = absurd told
closing-front before after factory result (Publish under of bytes answer ∷ done) rest old new w told went = absurd told
closing-front before after factory result (Unlock under of ∷ done) rest old new w told went = absurd told
closing-front before after factory result (OpenSegment under of by answer ∷ done) rest old new w told went = absurd told
closing-front before after factory result (RemoveDescription under of answer ∷ done) rest old new w told went = absurd told
closing-front before after factory result (RemoveSegment under of answer ∷ done) rest old new w told went = absurd told

-- ---- calls

moved : (held : List Factory) (new : Contents) (end : Steps) → new ≡ end.table → World held end.table → World held new
moved held new end is w = subst (λ t. World held t) (sym is) w

creates-world : (node : ℕ) (agreed : Agreement) (refusal : Option CreateFailure) (result : Result Opened CreateFailure)
    (held : List Factory) (made : List Access) (old new : Steps) → World held old.table
    → CreatesIf agreed.service_hash node agreed refusal made result → Went SteppedSight old made new
    → World (opened_too node result held) new.table
creates-world node agreed refusal (Ok service) held made old new w told went
    = creates-ends held node agreed old new w refusal made service told went
creates-world node agreed refusal (Err failure) held made old new w told went
    = world-quiet held made old new (creates-quiet agreed.service_hash node agreed refusal made (Err failure) told) w went

opens-world : {V : Type 0} (hash : ServiceHash) (node : ℕ) (verdict : Agreement → Result (Unit {0}) V)
    (result : Result Opened (OpenFailure V)) (held : List Factory) (made : List Access) (old new : Steps)
    → World held old.table → Opens hash node verdict made result → Went SteppedSight old made new
    → World (opened_too node result held) new.table
opens-world hash node verdict (Ok service) held made old new w told went
    = opens-ends hash node verdict held made service old new w told went
opens-world hash node verdict (Err failure) held made old new w told went =
    world-quiet held made old new (rounds-quiet (OpenRound hash node verdict) (round-quiet hash node verdict) _ made (Err failure) told)
    w went

either-world : {V : Type 0} (node : ℕ) (verdict : Agreement → Result (Unit {0}) V) (agreed : Agreement) (refusal : Option CreateFailure)
    (result : Result Opened (OpenOrCreateFailure V)) (held : List Factory)
    (made : List Access) (old new : Steps) → World held old.table
    → OpensOrCreates agreed.service_hash node verdict agreed refusal made result → Went SteppedSight old made new
    → World (opened_too node result held) new.table
either-world node verdict agreed refusal (Ok service) held made old new w told went
    = either-ends node verdict agreed refusal held made service old new w told went
either-world node verdict agreed refusal (Err failure) held made old new w told went =
    world-quiet held made old new (rounds-quiet (EitherRound agreed.service_hash node verdict agreed refusal)
    (either-quiet agreed.service_hash node verdict agreed refusal) _ made (Err failure) told) w went

pub fresh-world : (id : ℕ) → World [] (empty_table id)
fresh-world id = record { is = new-table id; stand = λ f in_it. absurd in_it }

module _ {V : ℕ → Type 0} where
  -- any front of what a call does keeps the factories that are open through it
  pub call-front : (call : Call V) (held : List Factory) (done rest : List Access) (old new : Steps) → World held old.table
      → MayBegin call held → Tells call (done ++ rest) → Went SteppedSight old done new
      → World (kept call held) new.table
  call-front (Creates node agreed refusal result) held done rest old new w may told went =
      world-quiet held done old new (quiet-front done rest
      (creates-quiet agreed.service_hash node agreed refusal (done ++ rest) result told)) w went
  call-front (Opening kind hash node verdict result) held done rest old new w may told went =
      world-quiet held done old new (quiet-front done rest
      (rounds-quiet (OpenRound hash node verdict) (round-quiet hash node verdict) _ (done ++ rest) result told)) w went
  call-front (Either kind node verdict agreed refusal result) held done rest old new w may told went =
      world-quiet held done old new (quiet-front done rest
      (rounds-quiet (EitherRound agreed.service_hash node verdict agreed refusal)
      (either-quiet agreed.service_hash node verdict agreed refusal) _ (done ++ rest) result told)) w went
  call-front (Closing before factory after result) held done rest old new w may told went =
      closing-front before after factory result done rest old new (subst (λ h. World h old.table) may w) told went
  call-front (Between hash step) held [] rest old new w may told went = subst (λ s. World held s.table) (sym went) w
  call-front (Between hash step) held (access ∷ done) rest old new w may told went = absurd (differ told)
    where
      differ : access ∷ (done ++ rest) ≡ [] → ⊥
      differ e = cc

  pub call-world : (call : Call V) (held : List Factory) (old new : Contents) → World held old → MayBegin call held → Goes call old new
      → World (open_after call held) new
  call-world (Creates node agreed refusal result) held old new w may (lists, end, does, is) =
      moved (opened_too node result held) new end is
      (creates-world node agreed refusal result held does.made (record { table = old; lists = lists }) end w does.told does.went)
  call-world (Opening kind hash node verdict result) held old new w may (lists, end, does, is) =
      moved (opened_too node result held) new end is
      (opens-world hash node verdict result held does.made (record { table = old; lists = lists }) end w does.told does.went)
  call-world (Either kind node verdict agreed refusal result) held old new w may (lists, end, does, is) =
      moved (opened_too node result held) new end is
      (either-world node verdict agreed refusal result held does.made (record { table = old; lists = lists }) end w does.told does.went)
  call-world (Closing before factory after result) held old new w may (lists, end, does, is) =
      moved (before ++ after) new end is (closing-front before after factory result does.made [] (record { table = old; lists = lists })
      end (subst (λ h. World h old) may w)
      (subst (λ m. Closes factory.agreed.service_hash factory.number factory.node m result) (sym (append-nil does.made)) does.told)
      does.went)
  call-world (Between hash step) held old new w may (result, acts) = world-step held hash step result old new w acts

  called : (calls : List (Call V)) (table new : Contents) (held after : List Factory) → World held table
      → Called table held calls new after → World after new
  called [] table new held after w h = subst (λ a. World a new) (sym h.1) (subst (λ t. World held t) (sym h.0) w)
  called (call ∷ calls) table new held after w (may, mid, goes, rest)
      = called calls mid new (open_after call held) after (call-world call held table mid w may goes) rest

pub factories-stand : (V : ℕ → Type 0) → OpenFactoriesStand V
factories-stand V id calls table held happened = (called calls (empty_table id) table [] held (fresh-world id) happened).stand

pub stand-inside : (V : ℕ → Type 0) → StandInsideCalls V
stand-inside V id calls table held call lists mid done rest happened may told went =
    (call-front call held done rest (record { table = table; lists = lists }) mid
    (called calls (empty_table id) table [] held (fresh-world id) happened) may told went).stand
