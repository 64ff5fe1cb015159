-- A round of who opens or creates a service.
use Rattle.std.proofs.Common.{◌≡◌, ℕ, ◌+◌, ◌≤◌, List, [], ◌∷◌, ◌++◌, Option, None, Some, Result, Ok, Err, MatchOption, refl, sym, subst}
use Rattle.std.proofs.Common.{◌∙◌, inl, inr}
use Rattle.iox_command.specs.NegotiateBase.Describe.Within.{IsWithinLimits}
use Rattle.iox_command.specs.NegotiateBase.DescribeBase.Hash.{service_hash_of}
use Rattle.iox_command.specs.NegotiateBase.DescribeBase.declared.hash.ServiceHash.{ServiceHash}
use Rattle.iox_command.specs.NegotiateBase.DescribeBase.declared.message_type.MessageTypeDetails.{MessageTypeDetails}
use Rattle.iox_command.specs.NegotiateBase.DescribeBase.declared.pattern.MessagingPattern.{MessagingPattern}
use Rattle.iox_command.specs.NegotiateBase.DescribeSettings.Agreement.{Agreement as Description, pattern_of}
use Rattle.iox_command.specs.declared.step.StepBefore.{StepBefore}
use Rattle.iox_machine.proofs.Shorthands as shorthands
use Rattle.iox_machine.specs.Agreement.{Agreement, unfit}
use Rattle.iox_machine.specs.Negotiation as machine
use Rattle.iox_machine.specs.Negotiation.{Call, Answer}
use Rattle.iox_machine.specs.Phase.{Own, Phase, Absent, BeingMade, Published, Emptied}
use Rattle.iox_negotiate.proofs.Tables.{room-of}
use Rattle.iox_negotiate_machine.proofs.Acting.{OwnHash, last}
use Rattle.iox_negotiate_machine.proofs.Attempting.{IsCome, attempts}
use Rattle.iox_negotiate_machine.proofs.Meanwhile.{few-factories}
use Rattle.iox_negotiate_machine.proofs.Opening.{Looks, looked}
use Rattle.iox_negotiate_machine.proofs.Preceding.{Ends, UnderWay, meanwhile, next_call, stopped}
use Rattle.iox_negotiate_machine.proofs.Rounds.{Next, Round, round_answer}
use Rattle.iox_negotiate_machine.proofs.Seeing.{Sees, SightComes, sees}
use Rattle.iox_negotiate_machine.specs.CallLaws.{HasFewFactories, HaveStepForms, newness_of}
use Rattle.iox_negotiate_machine.specs.Standing.{description_of}
use Rattle.iox_negotiate_table.specs.Contents.{Contents}
use Rattle.iox_negotiate_table.specs.NegotiateBase.Access.{Access, Look}
use Rattle.iox_negotiate_table.specs.NegotiateBase.Failing.{created, created_or_again, open_failure_of, opened_or_again}
use Rattle.iox_negotiate_table.specs.NegotiateBase.Opening as rounds
use Rattle.iox_negotiate_table.specs.NegotiateBase.Runs.{Went}
use Rattle.iox_negotiate_table.specs.NegotiateBase.declared.creation.Attempt.{Attempt}
use Rattle.iox_negotiate_table.specs.NegotiateBase.declared.creation.Attempt.TheVariants as attempt
use Rattle.iox_negotiate_table.specs.NegotiateBase.declared.failure.CreateFailure.{CreateFailure}
use Rattle.iox_negotiate_table.specs.NegotiateBase.declared.failure.CreateFailure.TheVariants as uncreated
use Rattle.iox_negotiate_table.specs.NegotiateBase.declared.failure.OpenFailure.{OpenFailure}
use Rattle.iox_negotiate_table.specs.NegotiateBase.declared.failure.OpenFailure.TheVariants as unopened
use Rattle.iox_negotiate_table.specs.NegotiateBase.declared.failure.OpenOrCreateFailure.{OpenOrCreateFailure}
use Rattle.iox_negotiate_table.specs.NegotiateBase.declared.failure.OpenOrCreateFailure.TheVariants as neither
use Rattle.iox_negotiate_table.specs.NegotiateBase.declared.request.Opened.{Opened}
use Rattle.iox_negotiate_table.specs.NegotiateBase.declared.sight.Sight.{Sight as Shown}
use Rattle.iox_negotiate_table.specs.NegotiateBase.declared.sight.Sight.TheVariants as shown
use Rattle.iox_negotiate_table.specs.NegotiateBase.declared.sight.SightFailure.{SightFailure}
use Rattle.iox_negotiate_table.specs.NegotiateBase.declared.sight.SightFailure.TheVariants as failure
use Rattle.iox_negotiate_table.specs.Stepped.{Steps, SteppedSight}

module _ (types : MessageTypeDetails) (pattern : MessagingPattern) (name : List ℕ) (own : OwnHash pattern name) (steps : List StepBefore)
    (form : HaveStepForms types name steps) (old : Contents) (taken : List ℕ)
    (node : ℕ) (V : Type 0) (judge : Description → Result (Unit {0}) V) (verdict : Agreement → Result (Unit {0}) V)
    (judged : (agreed : Agreement) → judge (description_of pattern name agreed) ≡ verdict agreed) (asked : Agreement) where
  abbrev hash : ServiceHash
  hash = service_hash_of pattern name

  abbrev description : Description
  description = description_of pattern name asked

  abbrev Under : ℕ → ℕ → Steps → Call → Type 0
  Under left locks now call = UnderWay types pattern name own steps form old taken left locks now.table now.lists call

  abbrev next : Call → Call
  next call = next_call types pattern name own steps form old taken call

  abbrev Came : Type 0
  Came = Option (Result Opened (OpenOrCreateFailure V))

  abbrev at_phase : Phase → ℕ → Call
  at_phase phase accesses = record { phase = phase; accesses = accesses }

  abbrev After : (Call → Answer (OpenOrCreateFailure V) → Call → Type 0) → ℕ → ℕ → Call → Came → Steps → Type 0
  After = Round types pattern name own steps form old taken node (OpenOrCreateFailure V)

  abbrev EitherLooks : Phase → Call → Answer (OpenOrCreateFailure V) → Call → Type 0
  EitherLooks = machine.EitherLooks types pattern steps (Own node) verdict asked

  abbrev pub EitherOnce : Call → Answer (OpenOrCreateFailure V) → Call → Type 0
  EitherOnce = machine.Access types pattern steps (Own node) (neither.Open unopened.OutOfMemory) EitherLooks

  -- nothing is done but to tell why
  tells : (Goes : Call → Answer (OpenOrCreateFailure V) → Call → Type 0) (left locks : ℕ) (call stopped : Call)
      (why : OpenOrCreateFailure V)
      (came : Came) (rest : List Access) (mid end : Steps) → Goes call (Some (Err why)) stopped
      → Ends pattern name old taken mid.table stopped.phase → (rest ≡ []) × (came ≡ Some (Err why)) → Went SteppedSight mid rest end
      → After Goes left locks call came end
  tells Goes left locks call stopped why came rest mid end goes ends told went =
      subst (λ (c : Came). After Goes left locks call c end) (sym told.1) (
        stopped,
        goes,
        subst (λ (s : Steps). Ends pattern name old taken s.table stopped.phase)
            (sym (subst (λ (l : List Access). Went SteppedSight mid l end) told.0 went)) ends,
        tt,
      )

  -- ---- it is opened

  opened-answer : (answer : Option (Result Opened (OpenFailure V)))
      → round_answer {F = OpenOrCreateFailure V} (opened_or_again answer)
      ≡ shorthands.opened {V = V} (round_answer {F = OpenFailure V} answer)
  opened-answer None = refl
  opened-answer (Some (Ok service)) = refl
  opened-answer (Some (Err why)) = refl

  opened-next : (left locks : ℕ) (end : Steps) (after : Call) (more : List ℕ) (answer : Option (Result Opened (OpenFailure V)))
      → Next types pattern name own steps form old taken node (OpenFailure V) left locks end after more answer
      → Next types pattern name own steps form old taken node (OpenOrCreateFailure V) left locks end after more (opened_or_again answer)
  opened-next left locks end after more None so = so
  opened-next left locks end after more (Some (Ok service)) so = so
  opened-next left locks end after more (Some (Err why)) so = tt

  -- as what is opened alone
  abbrev AsOpened : Phase → Call → Answer (OpenOrCreateFailure V) → Call → Type 0
  AsOpened phase call answer after =
      (found : Answer (OpenFailure V)) × Looks types pattern name own steps form old taken node V judge verdict judged phase call found
      after
      × (answer ≡ shorthands.opened found)

  opens-as : (phase : Phase) (accesses left locks : ℕ) (sight : Shown) (came : Came) (rest : List Access) (start end : Steps)
      → (now : Under (1 + left) locks start (at_phase phase accesses)) → HasFewFactories node phase
      → Sees types pattern name own steps form old taken phase (now.ends.more ++ taken) sight
      → (answer : Option (Result Opened (OpenFailure V))) × rounds.OpensSeen hash node judge sight rest answer
      × (came ≡ opened_or_again answer)
      → Went SteppedSight start rest end → After (AsOpened phase) left locks (at_phase phase accesses) came end
  opens-as phase accesses left locks sight came rest start end now few seen (answer, told, is) went =
      let goes = looked types pattern name own steps form old taken node V judge verdict judged phase accesses left locks sight answer
      rest start end now
      few seen told went in
      subst (λ (c : Came). After (AsOpened phase) left locks (at_phase phase accesses) c end) (sym is)
      (goes.0, (round_answer answer, goes.1, opened-answer answer), goes.2, opened-next left locks end goes.0 goes.2.more answer goes.3)

  module _ (refusal : Option CreateFailure) (kind : pattern_of asked.settings ≡ pattern)
      (within : refusal ≡ None → IsWithinLimits description) (fit : unfit asked.settings ≡ refusal) (locks : ℕ) (some : 1 ≤ locks) where
    standing-as : (number : ℕ) (other : Description) (rest : List Access) (came : Came)
        → rounds.EitherSeen hash node judge description refusal (shown.Standing number other) rest came
        → (answer : Option (Result Opened (OpenFailure V))) × rounds.OpensSeen hash node judge (shown.Standing number other) rest answer
        × (came ≡ opened_or_again answer)
    standing-as number other rest came told = told

    failed-as : (why : SightFailure) (rest : List Access) (came : Came)
        → rounds.EitherSeen hash node judge description refusal (shown.Failed why) rest came
        → (answer : Option (Result Opened (OpenFailure V))) × rounds.OpensSeen hash node judge (shown.Failed why) rest answer
        × (came ≡ opened_or_again answer)
    failed-as why rest came told = (Some (Err (open_failure_of why)), (told.0, refl), told.1)

    -- ---- it is created

    created-answer : (left locks : ℕ) (end : Steps) (after : Call) (more : List ℕ) (tried : Attempt)
        → IsCome types pattern name own steps form old taken node asked left locks end after more tried
        → round_answer {F = OpenOrCreateFailure V} (created_or_again tried) ≡ machine.created {V = V} (Some (newness_of (created tried)))
    created-answer left locks end after more (attempt.Made service) come = refl
    created-answer left locks end after more attempt.IsLocked come = refl
    created-answer left locks end after more attempt.Exists come = refl
    created-answer left locks end after more (attempt.Failed why) come =
        subst (λ (f : CreateFailure). ◌≡◌ {A = Answer (OpenOrCreateFailure V)} (Some (Err (neither.Create f)))
        (machine.created {V = V} (Some (Err f)))) (sym come) refl

    created-next : (left locks : ℕ) (end : Steps) (after : Call) (more : List ℕ) (tried : Attempt)
        → IsCome types pattern name own steps form old taken node asked left locks end after more tried
        → Next types pattern name own steps form old taken node (OpenOrCreateFailure V) left locks end after more (created_or_again tried)
    created-next left locks end after more (attempt.Made service) come = come
    created-next left locks end after more attempt.IsLocked come = come
    created-next left locks end after more attempt.Exists come = come
    created-next left locks end after more (attempt.Failed why) come = tt

    abbrev Creating : Option CreateFailure → Call → Answer (OpenOrCreateFailure V) → Call → Type 0
    Creating unfitting call answer after =
        MatchOption unfitting
        ((made : Answer CreateFailure)
        × machine.Access types pattern steps (Own node) uncreated.OutOfMemory (machine.Locks types pattern steps (Own node) asked) call
        made after
        × (answer ≡ machine.created made))
        (λ why. machine.Fails (neither.Create why) call answer after)

    fitting : (which : Option CreateFailure) → refusal ≡ which → (call after : Call) (answer : Answer (OpenOrCreateFailure V))
        → Creating which call answer after → Creating (unfit asked.settings) call answer after
    fitting which is call after answer goes = subst (λ (o : Option CreateFailure). Creating o call answer after) (sym (fit ∙ is)) goes

    creates-as : (which : Option CreateFailure) → refusal ≡ which → (lives accesses left : ℕ) (came : Came) (rest : List Access)
        (start end : Steps) → Under (1 + left) locks start (at_phase (Absent lives) accesses)
        → rounds.EitherCreates hash node judge description refusal which rest came → Went SteppedSight start rest end
        → After (EitherLooks (Absent lives)) left locks (at_phase (Absent lives) accesses) came end
    creates-as (Some why) is lives accesses left came rest start end now told went =
        tells (EitherLooks (Absent lives)) left locks (at_phase (Absent lives) accesses) (at_phase (Absent lives) accesses)
        (neither.Create why) came
        rest start end
        (fitting (Some why) is (at_phase (Absent lives) accesses) (at_phase (Absent lives) accesses) (Some (Err (neither.Create why)))
        (refl, refl))
        now.ends told went
    creates-as None is lives accesses left came rest start end now (tried, locked, so) went =
        let came_to = attempts types pattern name own steps form old taken node asked kind (within is)
        (room-of asked.settings (within is).limits)
        left locks some rest tried (at_phase (Absent lives) accesses) start end now tt locked went in
        subst (λ (c : Came). After (EitherLooks (Absent lives)) left locks (at_phase (Absent lives) accesses) c end) (sym so) (
          came_to.after,
          fitting None is (at_phase (Absent lives) accesses) came_to.after (round_answer (created_or_again tried)) (
            Some (newness_of (created tried)),
            came_to.access,
            created-answer left locks end came_to.after came_to.ends.more tried came_to.is_come,
          ),
          came_to.ends,
          created-next left locks end came_to.after came_to.ends.more tried came_to.is_come,
        )

    -- ---- what follows a look

    either-looked : (phase : Phase) (accesses left : ℕ) (sight : Shown) (came : Came) (rest : List Access) (start end : Steps)
        → (now : Under (1 + left) locks start (at_phase phase accesses)) → HasFewFactories node phase
        → Sees types pattern name own steps form old taken phase (now.ends.more ++ taken) sight
        → rounds.EitherSeen hash node judge description refusal sight rest came → Went SteppedSight start rest end
        → After (EitherLooks phase) left locks (at_phase phase accesses) came end
    either-looked (Absent lives) accesses left sight came rest start end now few seen told went =
        creates-as refusal refl lives accesses left came rest start end now
        (subst (λ (s : Shown). rounds.EitherSeen hash node judge description refusal s rest came) seen told) went
    either-looked (BeingMade life by) accesses left sight came rest start end now few seen told went =
        opens-as (BeingMade life by) accesses left locks sight came rest start end
        now
        few seen
        (subst (λ (s : Shown). (answer : Option (Result Opened (OpenFailure V))) × rounds.OpensSeen hash node judge s rest answer
        × (came ≡ opened_or_again answer)) (sym seen) (failed-as failure.HangsInCreation rest came
        (subst (λ (s : Shown). rounds.EitherSeen hash node judge description refusal s rest came) seen told))) went
    either-looked (Published life agreed nodes) accesses left sight came rest start end now few seen told went =
        let it = last (now.ends.more ++ taken) seen in
        opens-as (Published life agreed nodes) accesses left locks sight came rest start end
        now few seen
        (subst (λ (s : Shown). (answer : Option (Result Opened (OpenFailure V))) × rounds.OpensSeen hash node judge s rest answer
        × (came ≡ opened_or_again answer)) (sym it.1) (standing-as it.0 (description_of pattern name agreed) rest came
        (subst (λ (s : Shown). rounds.EitherSeen hash node judge description refusal s rest came) it.1 told))) went
    either-looked (Emptied life agreed by) accesses left sight came rest start end now few seen told went =
        let it = last (now.ends.more ++ taken) seen in
        opens-as (Emptied life agreed by) accesses left locks sight came rest start end
        now few seen
        (subst (λ (s : Shown). (answer : Option (Result Opened (OpenFailure V))) × rounds.OpensSeen hash node judge s rest answer
        × (came ≡ opened_or_again answer)) (sym it.1) (standing-as it.0 (description_of pattern name agreed) rest came
        (subst (λ (s : Shown). rounds.EitherSeen hash node judge description refusal s rest came) it.1 told))) went

    -- ---- a round

    pub either-once : (left : ℕ) (made : List Access) (came : Came) (call : Call) (start end : Steps)
        → Under (1 + (1 + left)) locks start call → HasFewFactories node call.phase
        → rounds.EitherRound hash node judge description refusal made came → Went SteppedSight start made end
        → After EitherOnce left locks call came end
    either-once left (Look under answer ∷ rest) came call start end now few (sight, own_hash, seen, told) (mid, looks, went) =
        there (sees types pattern name own steps form old taken answer sight (1 + left) locks call start mid now
        (subst (λ (h : ServiceHash). SteppedSight start (Look h answer) mid) own_hash looks) seen)
      where
        there : SightComes types pattern name own steps form old taken (1 + left) locks call sight mid
            → After EitherOnce left locks call came end
        there (inl (then_under, shows)) =
            let goes = either-looked (next call).phase (call.accesses + 1) left sight came rest mid end then_under
            (few-factories types pattern node call.phase (meanwhile types pattern name own steps form old taken call) few) shows told went
            in
            (goes.0, inl goes.1, goes.2, goes.3)
        there (inr (done, ends, lacking)) =
            tells EitherOnce left locks call
            (stopped types pattern name own steps form old taken done call)
            (neither.Open unopened.OutOfMemory) came rest mid end (inr (done, (refl, refl))) ends
            (subst (λ (s : Shown). rounds.EitherSeen hash node judge description refusal s rest came) lacking told) went
    either-once left made came call start end now few told went = absurd told
