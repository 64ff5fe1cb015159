-- A service is opened, or created if it doesn't exist: what follows a lookup, and whole rounds.
use Rattle.std.proofs.Common.{◌≡◌, ℕ, ◌+◌, List, [], ◌∷◌, ◌++◌, append_assoc, Option, Some, Result, Ok, Err, MatchResult, length, refl}
use Rattle.std.proofs.Common.{sym, ap, subst, ◌∙◌, inl, inr, arith}
use Rattle.iox_command.specs.NegotiateBase.DescribeBase.Hash.{service_hash_of}
use Rattle.iox_command.specs.NegotiateBase.DescribeBase.declared.hash.ServiceHash.{ServiceHash}
use Rattle.iox_command.specs.NegotiateBase.DescribeBase.declared.message_type.MessageTypeDetails.{MessageTypeDetails}
use Rattle.iox_command.specs.NegotiateBase.DescribeBase.declared.pattern.MessagingPattern.{MessagingPattern}
use Rattle.iox_command.specs.NegotiateBase.DescribeSettings.Agreement.{Agreement as Description}
use Rattle.iox_command.specs.declared.step.StepBefore.{StepBefore}
use Rattle.iox_machine.specs.Agreement.{Agreement}
use Rattle.iox_machine.specs.AgreementLaws.{life_of}
use Rattle.iox_machine.specs.Negotiation as machine
use Rattle.iox_machine.specs.Negotiation.{Call, Answer, registered}
use Rattle.iox_machine.specs.Phase.{Own, Phase, Absent, BeingMade, Published, Emptied}
use Rattle.iox_negotiate.specs.Histories.{Accesses}
use Rattle.iox_negotiate_machine.proofs.Acted.{Leaves, left-by, left-then}
use Rattle.iox_negotiate_machine.proofs.Acting.{OwnHash}
use Rattle.iox_negotiate_machine.proofs.Meanwhile.{IsSince, few-factories, since}
use Rattle.iox_negotiate_machine.proofs.Preceding.{Comes, Ends, UnderWay, lacks-itself, meanwhile, next_call, preceded, stopped}
use Rattle.iox_negotiate_machine.proofs.Registering.{Means, Registers, StillOrLater, registers, still-or-later}
use Rattle.iox_negotiate_machine.proofs.Rounds.{Next, Round, round_answer}
use Rattle.iox_negotiate_machine.proofs.Seeing.{Sees, SightComes, sees}
use Rattle.iox_negotiate_machine.specs.CallLaws.{HasFewFactories, HaveStepForms}
use Rattle.iox_negotiate_machine.specs.Standing.{AreFalling, IsLast, description_of}
use Rattle.iox_negotiate_table.specs.Contents.{Contents}
use Rattle.iox_negotiate_table.specs.NegotiateBase.Access.{Access, Look, OpenSegment}
use Rattle.iox_negotiate_table.specs.NegotiateBase.Failing.{entered}
use Rattle.iox_negotiate_table.specs.NegotiateBase.Opening as rounds
use Rattle.iox_negotiate_table.specs.NegotiateBase.Runs.{Went}
use Rattle.iox_negotiate_table.specs.NegotiateBase.declared.answer.OpenSegmentAnswer.{OpenSegmentAnswer}
use Rattle.iox_negotiate_table.specs.NegotiateBase.declared.answer.OpenSegmentAnswer.TheVariants as opening
use Rattle.iox_negotiate_table.specs.NegotiateBase.declared.failure.OpenFailure.{OpenFailure}
use Rattle.iox_negotiate_table.specs.NegotiateBase.declared.failure.OpenFailure.TheVariants as unopened
use Rattle.iox_negotiate_table.specs.NegotiateBase.declared.request.Opened.{Opened}
use Rattle.iox_negotiate_table.specs.NegotiateBase.declared.sight.Sight.{Sight as Shown}
use Rattle.iox_negotiate_table.specs.Sights.{Sight}
use Rattle.iox_negotiate_table.specs.Stepped.{Steps, SteppedSight}

module _ (types : MessageTypeDetails) (pattern : MessagingPattern) (name : List ℕ) (own : OwnHash pattern name) (steps : List StepBefore)
    (form : HaveStepForms types name steps) (old : Contents) (taken : List ℕ)
    (node : ℕ) (V : Type 0) (judge : Description → Result (Unit {0}) V) (verdict : Agreement → Result (Unit {0}) V)
    (judged : (agreed : Agreement) → judge (description_of pattern name agreed) ≡ verdict agreed) where
  abbrev hash : ServiceHash
  hash = service_hash_of pattern name

  abbrev Under : ℕ → ℕ → Steps → Call → Type 0
  Under left locks now call = UnderWay types pattern name own steps form old taken left locks now.table now.lists call

  abbrev next : Call → Call
  next call = next_call types pattern name own steps form old taken call

  abbrev Came : Type 0
  Came = Option (Result Opened (OpenFailure V))

  -- the call once it looked
  abbrev at_phase : Phase → ℕ → Call
  at_phase phase accesses = record { phase = phase; accesses = accesses }

  -- a look and what follows it are those of the machine
  abbrev pub After : (Call → Answer (OpenFailure V) → Call → Type 0) → ℕ → ℕ → Call → Came → Steps → Type 0
  After = Round types pattern name own steps form old taken node (OpenFailure V)

  -- nothing is done but to tell why
  tells : (Goes : Call → Answer (OpenFailure V) → Call → Type 0) (left locks : ℕ) (call stopped : Call) (why : OpenFailure V) (came : Came)
      (rest : List Access) (mid end : Steps) → Goes call (Some (Err why)) stopped → Ends pattern name old taken mid.table stopped.phase
      → (rest ≡ []) × (came ≡ Some (Err why)) → Went SteppedSight mid rest end → After Goes left locks call came end
  tells Goes left locks call stopped why came rest mid end goes ends told went =
      subst (λ (c : Came). After Goes left locks call c end) (sym told.1) (
        stopped,
        goes,
        subst (λ (s : Steps). Ends pattern name old taken s.table stopped.phase)
            (sym (subst (λ (l : List Access). Went SteppedSight mid l end) told.0 went)) ends,
        tt,
      )

  -- ---- the node registers

  module _ (seen : Phase) (accesses : ℕ) (number : ℕ) (agreed : Agreement) where
    -- the call that saw it
    abbrev from_seen : Call
    from_seen = at_phase seen accesses

    abbrev description : Description
    description = description_of pattern name agreed

    -- how the machine registers
    abbrev Registered : Phase → Call → Answer (OpenFailure V) → Call → Type 0
    Registered phase now found later =
        (found ≡ (registered {V = V} (life_of seen) (Own node) phase).0)
        × (later ≡ record now { phase = (registered {V = V} (life_of seen) (Own node) phase).1 })

    abbrev RegisterAccess : Call → Answer (OpenFailure V) → Call → Type 0
    RegisterAccess from answer after = machine.Access types pattern steps (Own node) unopened.OutOfMemory Registered from answer after

    -- what an answer leads to
    means-next : (left locks : ℕ) (answer : OpenSegmentAnswer) (end : Steps) (after : Call) (more : List ℕ)
        → (answer ≡ opening.Absent → Under left locks end after)
        → Means types pattern name node number (life_of seen) agreed V answer after.phase (more ++ taken)
        → Next types pattern name own steps form old taken node (OpenFailure V) left locks end after more
        (entered number description answer)
    means-next left locks opening.Registered end after more under means = means
    means-next left locks opening.Absent end after more under means = (under refl, means)
    means-next left locks opening.Marked end after more under means = tt
    means-next left locks opening.Full end after more under means = tt
    means-next left locks opening.Denied end after more under means = tt
    means-next left locks opening.Fault end after more under means = tt
    means-next left locks opening.OutOfMemory end after more under means = tt

    module _ (left locks : ℕ) (answer : OpenSegmentAnswer) (start end : Steps) (now : Under (1 + left) locks start from_seen)
        (few : HasFewFactories node seen) (held : IsSince types pattern (life_of seen) agreed seen)
        (at : IsLast (λ one. one ≡ number) (now.ends.more ++ taken)) where
      later-numbers : (phase : Phase) (mid : Contents) (ends : Ends pattern name old taken mid phase) (since_then : List ℕ)
          → ends.more ≡ since_then ++ now.ends.more
          → StillOrLater (life_of seen) number (life_of phase) (ends.more ++ taken)
      later-numbers phase mid ends since_then is =
          subst (λ (l : List ℕ). StillOrLater (life_of seen) number (life_of phase) l) (sym whole)
          (still-or-later (life_of seen) number (life_of phase) mid.next since_then (now.ends.more ++ taken) now.ends.stands.lives at
          (ends.stands.lives ∙ ap (λ (l : List ℕ). length l) whole)
          (subst (λ (l : List ℕ). AreFalling mid.next l) whole ends.stands.falling))
        where
          whole : ends.more ++ taken ≡ since_then ++ (now.ends.more ++ taken)
          whole = ap (λ (l : List ℕ). l ++ taken) is ∙ append_assoc since_then now.ends.more taken

      registers-there : SteppedSight start (OpenSegment hash number node answer) end
          → After RegisterAccess left locks from_seen (entered number description answer) end
      registers-there sight =
          there (preceded types pattern name own steps form old taken (OpenSegment hash number node answer) (answer ≡ opening.OutOfMemory)
          left locks from_seen
          start end now sight)
        where
          then : Phase
          then = (next from_seen).phase

          leaves : (mid : Contents) → UnderWay types pattern name own steps form old taken left locks mid end.lists (next from_seen)
              → Sight mid (OpenSegment hash number node answer) end.table → Leaves hash old end.table
          leaves mid then_under found = left-then hash old mid end.table then_under.ends.leaves
              (left-by (Accesses (OpenSegment hash number node answer)) mid end.table then_under.ends.leaves.reached found)

          lacking : (stopped : Call) → RegisterAccess from_seen (Some (Err unopened.OutOfMemory)) stopped
              → Ends pattern name old taken end.table stopped.phase → answer ≡ opening.OutOfMemory
              → After RegisterAccess left locks from_seen (entered number description answer) end
          lacking stopped goes ends is =
              subst (λ (a : OpenSegmentAnswer). After RegisterAccess left locks from_seen (entered number description a) end) (sym is)
              (stopped, goes, ends, tt)

          by : (mid : Contents) (then_under : UnderWay types pattern name own steps form old taken left locks mid end.lists
              (next from_seen))
              → Sight mid (OpenSegment hash number node answer) end.table
              → Registers types pattern name node number (life_of seen) agreed V answer mid end.table (then_under.ends.more ++ taken) then
              → After RegisterAccess left locks from_seen (entered number description answer) end
          by mid then_under found (inl (told, stands, same, means)) = (
            record (next from_seen) { phase = (registered {V = V} (life_of seen) (Own node) then).1 },
            inl (told, refl),
            record { leaves = leaves mid then_under found; more = then_under.ends.more; stands = stands },
            means-next left locks answer end (record (next from_seen) { phase = (registered {V = V} (life_of seen) (Own node) then).1 })
                then_under.ends.more
                (λ absent. record {
                  ends = record { leaves = leaves mid then_under found; more = then_under.ends.more; stands = stands };
                  listed = then_under.listed;
                  room = omega (arith, then_under.room, same);
                  early = then_under.early;
                }) means,
          )
          by mid then_under found (inr (is, stands)) =
              lacking (record from_seen { phase = then })
              (lacks-itself types pattern name own steps form old taken (Own node) unopened.OutOfMemory Registered from_seen)
              (record { leaves = leaves mid then_under found; more = then_under.ends.more; stands = stands }) is

          there : Comes types pattern name own steps form old taken left locks from_seen now.ends.more (OpenSegment hash number node answer)
              (answer ≡ opening.OutOfMemory) end
              → After RegisterAccess left locks from_seen (entered number description answer) end
          there (inl (mid, under, found, since_then)) =
              by mid under found
              (registers types pattern name node number (life_of seen) agreed V mid end.table (under.ends.more ++ taken) answer then
              under.ends.stands (few-factories types pattern node seen (meanwhile types pattern name own steps form old taken from_seen)
              few)
              (since types pattern (life_of seen) agreed seen (meanwhile types pattern name own steps form old taken from_seen) held)
              (later-numbers then mid under.ends since_then.0 since_then.1) found)
          there (inr (done, ends, is)) =
              lacking (stopped types pattern name own steps form old taken done from_seen)
              (inr (done, (refl, refl))) ends is

    -- a service that was seen is opened if it meets what is asked
    opens-found : (left locks : ℕ) (came : Came) (rest : List Access) (start end : Steps) (now : Under (1 + left) locks start from_seen)
        → HasFewFactories node seen → IsSince types pattern (life_of seen) agreed seen
        → IsLast (λ one. one ≡ number) (now.ends.more ++ taken)
        → rounds.OpensJudged hash node judge number description (judge description) rest came → Went SteppedSight start rest end
        → After (machine.OpensFound types pattern steps (Own node) verdict (life_of seen) agreed) left locks from_seen came end
    opens-found left locks came rest start end now few held at told went =
        there (verdict agreed) refl (subst
        (λ (v : Result (Unit {0}) V). rounds.OpensJudged hash node judge number description v rest came) (judged agreed) told)
      where
        Goes : Result (Unit {0}) V → Call → Answer (OpenFailure V) → Call → Type 0
        Goes v from answer after = MatchResult v (λ met. RegisterAccess from answer after)
            (λ unmet. machine.Fails (unopened.Clause unmet) from answer after)

        registering : (rest : List Access) → rounds.Registers hash node judge number description rest came
            → Went SteppedSight start rest end
            → After RegisterAccess left locks from_seen came end
        registering (OpenSegment under of by answer ∷ more) (own_hash, same, whose, none, is) (mid, sight, went) =
            subst (λ (c : Came). After RegisterAccess left locks from_seen c end) (sym is)
            (subst (λ (s : Steps). After RegisterAccess left locks from_seen (entered number description answer) s)
            (sym (subst (λ (l : List Access). Went SteppedSight mid l end) none went))
            (registers-there left locks answer start mid now few held at
            (subst (λ (w : ℕ). SteppedSight start (OpenSegment hash number w answer) mid) whose
            (subst (λ (n : ℕ). SteppedSight start (OpenSegment hash n by answer) mid) same
            (subst (λ (h : ServiceHash). SteppedSight start (OpenSegment h of by answer) mid) own_hash sight)))))
        registering made told went = absurd told

        there : (v : Result (Unit {0}) V) → verdict agreed ≡ v → rounds.OpensJudged hash node judge number description v rest came
            → After (machine.OpensFound types pattern steps (Own node) verdict (life_of seen) agreed) left locks from_seen came end
        there (Ok met) is told =
            let goes = registering rest told went in
            (goes.0, subst (λ (v : Result (Unit {0}) V). Goes v from_seen (round_answer came) goes.0) (sym is) goes.1, goes.2, goes.3)
        there (Err unmet) is told =
            tells (machine.OpensFound types pattern steps (Own node) verdict (life_of seen) agreed) left locks from_seen from_seen
            (unopened.Clause unmet) came rest
            start end (subst (λ (v : Result (Unit {0}) V). Goes v from_seen (Some (Err (unopened.Clause unmet))) from_seen) (sym is)
            (refl, refl)) now.ends told went

  -- ---- what follows a look

  -- the number that was taken last, as it was shown
  shown-last : {So : ℕ → Type 0} (numbers : List ℕ) → IsLast So numbers → (number : ℕ) × So number × IsLast (λ one. one ≡ number) numbers
  shown-last [] so = absurd so
  shown-last (number ∷ before) so = (number, so, refl)

  abbrev pub Looks : Phase → Call → Answer (OpenFailure V) → Call → Type 0
  Looks phase = machine.OpenLooks types pattern steps (Own node) verdict phase

  pub looked : (phase : Phase) (accesses left locks : ℕ) (sight : Shown) (came : Came) (rest : List Access) (start end : Steps)
      → (now : Under (1 + left) locks start (at_phase phase accesses)) → HasFewFactories node phase
      → Sees types pattern name own steps form old taken phase (now.ends.more ++ taken) sight
      → rounds.OpensSeen hash node judge sight rest came → Went SteppedSight start rest end
      → After (Looks phase) left locks (at_phase phase accesses) came end
  looked (Absent lives) accesses left locks sight came rest start end now few seen told went =
      tells (Looks (Absent lives)) left locks (at_phase (Absent lives) accesses) (at_phase (Absent lives) accesses) unopened.DoesNotExist
      came rest
      start end (refl, refl) now.ends (subst (λ (s : Shown). rounds.OpensSeen hash node judge s rest came) seen told) went
  looked (BeingMade life by) accesses left locks sight came rest start end now few seen told went =
      tells (Looks (BeingMade life by)) left locks (at_phase (BeingMade life by) accesses) (at_phase (BeingMade life by) accesses)
      unopened.HangsInCreation came rest start end (refl, refl) now.ends
      (subst (λ (s : Shown). rounds.OpensSeen hash node judge s rest came) seen told) went
  looked (Published life agreed nodes) accesses left locks sight came rest start end now few seen told went =
      let it = shown-last (now.ends.more ++ taken) seen in
      opens-found (Published life agreed nodes) accesses it.0 agreed left locks came rest start end now few (inr (refl, refl)) it.2
      (subst (λ (s : Shown). rounds.OpensSeen hash node judge s rest came) it.1 told) went
  looked (Emptied life agreed by) accesses left locks sight came rest start end now few seen told went =
      let it = shown-last (now.ends.more ++ taken) seen in
      opens-found (Emptied life agreed by) accesses it.0 agreed left locks came rest start end now few (inr (refl, refl)) it.2
      (subst (λ (s : Shown). rounds.OpensSeen hash node judge s rest came) it.1 told) went

  -- ---- a round

  abbrev pub OpensOnce : Call → Answer (OpenFailure V) → Call → Type 0
  OpensOnce = machine.Access types pattern steps (Own node) unopened.OutOfMemory (machine.OpenLooks types pattern steps (Own node) verdict)

  pub opens-once : (left locks : ℕ) (made : List Access) (came : Came) (call : Call) (start end : Steps)
      → Under (1 + (1 + left)) locks start call
      → HasFewFactories node call.phase → rounds.OpenRound hash node judge made came → Went SteppedSight start made end
      → After OpensOnce left locks call came end
  opens-once left locks (Look under answer ∷ rest) came call start end now few (sight, own_hash, seen, told) (mid, looks, went) =
      there (sees types pattern name own steps form old taken answer sight (1 + left) locks call start mid now
      (subst (λ (h : ServiceHash). SteppedSight start (Look h answer) mid) own_hash looks) seen)
    where
      there : SightComes types pattern name own steps form old taken (1 + left) locks call sight mid
          → After OpensOnce left locks call came end
      there (inl (then_under, shows)) =
          let goes = looked (next call).phase (call.accesses + 1) left locks sight came rest mid end then_under
          (few-factories types pattern node call.phase (meanwhile types pattern name own steps form old taken call) few) shows told went in
          (goes.0, inl goes.1, goes.2, goes.3)
      there (inr (done, ends, lacking)) =
          tells OpensOnce left locks call
          (stopped types pattern name own steps form old taken done call)
          unopened.OutOfMemory came rest mid end (inr (done, (refl, refl))) ends
          (subst (λ (s : Shown). rounds.OpensSeen hash node judge s rest came) lacking told) went
  opens-once left locks made came call start end now few told went = absurd told
