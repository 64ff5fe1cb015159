-- A service is created: the lookup, and the attempt if the service doesn't exist.
use Rattle.std.proofs.Common.{◌≡◌, ℕ, ◌+◌, List, [], ◌∷◌, ◌++◌, Option, None, Some, Result, Err, IfOk, MatchOption, refl, sym, subst, inl}
use Rattle.std.proofs.Common.{inr, arith}
use Rattle.iox_command.specs.NegotiateBase.Describe.Within.{IsWithinLimits}
use Rattle.iox_command.specs.NegotiateBase.DescribeBase.Hash.{service_hash_of}
use Rattle.iox_command.specs.NegotiateBase.DescribeBase.declared.hash.ServiceHash.{ServiceHash}
use Rattle.iox_command.specs.NegotiateBase.DescribeBase.declared.message_type.MessageTypeDetails.{MessageTypeDetails}
use Rattle.iox_command.specs.NegotiateBase.DescribeBase.declared.pattern.MessagingPattern.{MessagingPattern}
use Rattle.iox_command.specs.NegotiateBase.DescribeSettings.Agreement.{Agreement as Description, pattern_of}
use Rattle.iox_command.specs.declared.step.StepBefore.{StepBefore}
use Rattle.iox_machine.specs.Agreement.{Agreement, unfit}
use Rattle.iox_machine.specs.Negotiation as machine
use Rattle.iox_machine.specs.Negotiation.{Call}
use Rattle.iox_machine.specs.Phase.{Own, Phase, Absent, BeingMade, Published, Emptied}
use Rattle.iox_negotiate.proofs.Tables.{room-of}
use Rattle.iox_negotiate_machine.proofs.Acting.{OwnHash, last}
use Rattle.iox_negotiate_machine.proofs.Attempting.{IsCome, attempts}
use Rattle.iox_negotiate_machine.proofs.Preceding.{Ends, UnderWay, next_call, stopped}
use Rattle.iox_negotiate_machine.proofs.Seeing.{Sees, SightComes, sees}
use Rattle.iox_negotiate_machine.specs.CallLaws.{HaveStepForms, IsServiceIn, newness_of}
use Rattle.iox_negotiate_machine.specs.Standing.{description_of}
use Rattle.iox_negotiate_table.specs.Contents.{Contents}
use Rattle.iox_negotiate_table.specs.NegotiateBase.Access.{Access, Look}
use Rattle.iox_negotiate_table.specs.NegotiateBase.Creating as creating
use Rattle.iox_negotiate_table.specs.NegotiateBase.Failing.{created, refusal_seen}
use Rattle.iox_negotiate_table.specs.NegotiateBase.Runs.{Went}
use Rattle.iox_negotiate_table.specs.NegotiateBase.declared.creation.Attempt.{Attempt}
use Rattle.iox_negotiate_table.specs.NegotiateBase.declared.creation.Attempt.TheVariants as attempt
use Rattle.iox_negotiate_table.specs.NegotiateBase.declared.failure.CreateFailure.{CreateFailure}
use Rattle.iox_negotiate_table.specs.NegotiateBase.declared.failure.CreateFailure.TheVariants as uncreated
use Rattle.iox_negotiate_table.specs.NegotiateBase.declared.request.Opened.{Opened}
use Rattle.iox_negotiate_table.specs.NegotiateBase.declared.sight.Sight.{Sight as Shown}
use Rattle.iox_negotiate_table.specs.Stepped.{Steps, SteppedSight}

module _ (types : MessageTypeDetails) (pattern : MessagingPattern) (name : List ℕ) (own : OwnHash pattern name) (steps : List StepBefore)
    (form : HaveStepForms types name steps) (old : Contents) (taken : List ℕ)
    (node : ℕ) (agreed : Agreement) where
  abbrev hash : ServiceHash
  hash = service_hash_of pattern name

  abbrev description : Description
  description = description_of pattern name agreed

  abbrev Under : ℕ → ℕ → Steps → Call → Type 0
  Under left locks now call = UnderWay types pattern name own steps form old taken left locks now.table now.lists call

  abbrev next : Call → Call
  next call = next_call types pattern name own steps form old taken call

  -- what was opened, if something was, is the service of the phase
  abbrev pub IsOpened : Phase → List ℕ → Result Opened CreateFailure → Type 0
  IsOpened phase numbers result = IfOk result (λ service. IsServiceIn node pattern name phase numbers service)

  -- The result of a creation is the machine's result, and a created service is that of the phase then.
  pub record Created (call : Call) (result : Result Opened CreateFailure) (end : Steps) : Type 0 where
    pub after : Call
    pub creates : machine.Creates types pattern steps (Own node) agreed call (Some (newness_of result)) after
    pub ends : Ends pattern name old taken end.table after.phase
    pub opened : IsOpened after.phase (ends.more ++ taken) result

  -- so it is of what follows a look
  abbrev Looked : Phase → ℕ → Result Opened CreateFailure → Steps → Type 0
  Looked phase accesses result end =
      (after : Call)
      × machine.CreateLooks types pattern steps (Own node) agreed phase (record { phase = phase; accesses = accesses })
      (Some (newness_of result)) after
      × (ends : Ends pattern name old taken end.table after.phase) × IsOpened after.phase (ends.more ++ taken) result

  come-opened : (end : Steps) (after : Call) (more : List ℕ) (came : Attempt)
      → IsCome types pattern name own steps form old taken node agreed 0 1 end after more came
      → IsOpened after.phase (more ++ taken) (created came)
  come-opened end after more (attempt.Made service) is = is
  come-opened end after more attempt.IsLocked is = tt
  come-opened end after more attempt.Exists is = tt
  come-opened end after more (attempt.Failed failure) is = tt

  none-opened : (phase : Phase) (numbers : List ℕ) (came : Attempt) (why : CreateFailure) → came ≡ attempt.Failed why
      → IsOpened phase numbers (created came)
  none-opened phase numbers came why is = subst (λ (a : Attempt). IsOpened phase numbers (created a)) (sym is) tt

  -- a look that shows why nothing is created
  refuses : (phase : Phase) (accesses : ℕ) (why : CreateFailure) (came : Attempt) (rest : List Access) (mid end : Steps)
      → machine.CreateLooks types pattern steps (Own node) agreed phase (record { phase = phase; accesses = accesses }) (Some (Err why))
      (record { phase = phase; accesses = accesses })
      → Ends pattern name old taken mid.table phase → (rest ≡ []) × (came ≡ attempt.Failed why) → Went SteppedSight mid rest end
      → Looked phase accesses (created came) end
  refuses phase accesses why came rest mid end looks ends goes went =
      subst (λ (a : Attempt). Looked phase accesses (created a) end) (sym goes.1) (
        record { phase = phase; accesses = accesses },
        looks,
        subst (λ (s : Steps). Ends pattern name old taken s.table phase)
            (sym (subst (λ (l : List Access). Went SteppedSight mid l end) goes.0 went)) ends,
        tt,
      )

  module _ (kind : pattern_of agreed.settings ≡ pattern) (within : IsWithinLimits description) where
    -- what follows a look, by the phase then
    looked : (phase : Phase) (accesses : ℕ) (sight : Shown) (came : Attempt) (rest : List Access) (mid end : Steps) (numbers : List ℕ)
        → Under 1 1 mid (record { phase = phase; accesses = accesses })
        → Sees types pattern name own steps form old taken phase numbers sight
        → creating.CreatesSeen hash node description (refusal_seen sight) rest came → Went SteppedSight mid rest end
        → Looked phase accesses (created came) end
    looked (Absent lives) accesses sight came rest mid end numbers under seen goes went =
        let tried = attempts types pattern name own steps form old taken node agreed kind within (room-of agreed.settings within.limits) 0
        1 (omega arith) rest came
        (record { phase = Absent lives; accesses = accesses }) mid end under tt
        (subst (λ (s : Shown). creating.CreatesSeen hash node description (refusal_seen s) rest came) seen goes) went in
        (tried.after, tried.access, tried.ends, come-opened end tried.after tried.ends.more came tried.is_come)
    looked (BeingMade life by) accesses sight came rest mid end numbers under seen goes went =
        refuses (BeingMade life by) accesses uncreated.HangsInCreation came rest mid end (refl, refl) under.ends
        (subst (λ (s : Shown). creating.CreatesSeen hash node description (refusal_seen s) rest came) seen goes) went
    looked (Published life given nodes) accesses sight came rest mid end numbers under seen goes went =
        refuses (Published life given nodes) accesses uncreated.AlreadyExists came rest mid end (refl, refl) under.ends
        (subst (λ (s : Shown). creating.CreatesSeen hash node description (refusal_seen s) rest came) (last numbers seen).1 goes) went
    looked (Emptied life given by) accesses sight came rest mid end numbers under seen goes went =
        refuses (Emptied life given by) accesses uncreated.AlreadyExists came rest mid end (refl, refl) under.ends
        (subst (λ (s : Shown). creating.CreatesSeen hash node description (refusal_seen s) rest came) (last numbers seen).1 goes) went

    -- where its settings are not refused
    creates-allowed : (call : Call) (made : List Access) (result : Result Opened CreateFailure) (start end : Steps)
        → unfit agreed.settings ≡ None
        → Under 2 1 start call → creating.CreatesIf hash node description None made result → Went SteppedSight start made end
        → Created call result end
    creates-allowed call (Look under answer ∷ rest) result start end fit now (sight, came, own_hash, seen, goes, is) (mid, looks, went) =
        subst (λ (r : Result Opened CreateFailure). Created call r end) (sym is)
        (there (sees types pattern name own steps form old taken answer sight 1 1 call start mid now
        (subst (λ (h : ServiceHash). SteppedSight start (Look h answer) mid) own_hash looks) seen))
      where
        CreateAccess : Call → Type 0
        CreateAccess after =
            machine.Access types pattern steps (Own node) uncreated.OutOfMemory
            (machine.CreateLooks types pattern steps (Own node) agreed) call
            (Some (newness_of (created came))) after

        fitting : (after : Call) → CreateAccess after
            → machine.Creates types pattern steps (Own node) agreed call (Some (newness_of (created came))) after
        fitting after access =
            subst (λ (o : Option CreateFailure). MatchOption o (CreateAccess after)
            (λ failure. machine.Fails failure call (Some (newness_of (created came))) after)) (sym fit) access

        there : SightComes types pattern name own steps form old taken 1 1 call sight mid → Created call (created came) end
        there (inl (under_way, shows)) =
            let found = looked (next call).phase (call.accesses + 1) sight came rest mid end (under_way.ends.more ++ taken) under_way
            shows goes went in
            record { after = found.0; creates = fitting found.0 (inl found.1); ends = found.2; opened = found.3 }
        there (inr (done, ends, lacking)) =
            let over = subst (λ (s : Shown). creating.CreatesSeen hash node description (refusal_seen s) rest came) lacking goes in
            let after : Call = stopped types pattern name own steps form old taken done call in
            record {
              after = after;
              creates = fitting after
                  (subst (λ (a : Attempt). machine.Access types pattern steps (Own node) uncreated.OutOfMemory
                  (machine.CreateLooks types pattern steps (Own node) agreed) call (Some (newness_of (created a))) after) (sym over.1)
                  (inr (done, (refl, refl))));
              ends = subst (λ (s : Steps). Ends pattern name old taken s.table after.phase)
                  (sym (subst (λ (l : List Access). Went SteppedSight mid l end) over.0 went)) ends;
              opened = none-opened after.phase _ came uncreated.OutOfMemory over.1;
            }
    creates-allowed call made result start end fit now told went = absurd told

  -- where they are
  creates-refused : (call : Call) (why : CreateFailure) (made : List Access) (result : Result Opened CreateFailure) (start end : Steps)
      → unfit agreed.settings ≡ Some why
      → Under 2 1 start call → creating.CreatesIf hash node description (Some why) made result → Went SteppedSight start made end
      → Created call result end
  creates-refused call why made result start end unfitting now told went =
      subst (λ (r : Result Opened CreateFailure). Created call r end) (sym told.1) (record {
        after = call;
        creates = subst (λ (o : Option CreateFailure). MatchOption o
            (machine.Access types pattern steps (Own node) uncreated.OutOfMemory
            (machine.CreateLooks types pattern steps (Own node) agreed) call
            (Some (Err why)) call)
            (λ failure. machine.Fails failure call (Some (Err why)) call)) (sym unfitting) (refl, refl);
        ends = subst (λ (s : Steps). Ends pattern name old taken s.table call.phase)
            (sym (subst (λ (l : List Access). Went SteppedSight start l end) told.0 went)) now.ends;
        opened = tt;
      })

  -- a whole creation
  pub creates : (call : Call) (refusal : Option CreateFailure) (made : List Access) (result : Result Opened CreateFailure)
      (start end : Steps)
      → pattern_of agreed.settings ≡ pattern → (refusal ≡ None → IsWithinLimits description) → unfit agreed.settings ≡ refusal
      → Under 2 1 start call → creating.CreatesIf hash node description refusal made result → Went SteppedSight start made end
      → Created call result end
  creates call None made result start end kind within fit now told went =
      creates-allowed kind (within refl) call made result start end fit now told went
  creates call (Some why) made result start end kind within fit now told went
      = creates-refused call why made result start end fit now told went
