-- An attempt to create a service: a lock, and what follows.
use Rattle.std.proofs.Common.{◌≡◌, ℕ, ◌+◌, ◌-◌, ◌^◌, ◌≤◌, ◌<◌, Bool, true, false, List, [], ◌∷◌, ◌++◌, Option, None, Some, fold, nat_eq}
use Rattle.std.proofs.Common.{take, refl, sym, subst, ◌⊎◌, inl, inr, arith}
use Rattle.iox_command.specs.NegotiateBase.Describe.Within.{IsWithinLimits}
use Rattle.iox_command.specs.NegotiateBase.DescribeBase.Hash.{service_hash_of}
use Rattle.iox_command.specs.NegotiateBase.DescribeBase.declared.hash.ServiceHash.{ServiceHash}
use Rattle.iox_command.specs.NegotiateBase.DescribeBase.declared.message_type.MessageTypeDetails.{MessageTypeDetails}
use Rattle.iox_command.specs.NegotiateBase.DescribeBase.declared.pattern.MessagingPattern.{MessagingPattern}
use Rattle.iox_command.specs.NegotiateBase.DescribeSettings.Agreement.{Agreement as Description, max_nodes_of, pattern_of}
use Rattle.iox_command.specs.declared.step.StepBefore.{StepBefore}
use Rattle.iox_machine.specs.Agreement.{Agreement}
use Rattle.iox_machine.specs.Negotiation as machine
use Rattle.iox_machine.specs.Negotiation.{Call}
use Rattle.iox_machine.specs.Phase.{Own, Phase, Absent, BeingMade, Published, Emptied, acted}
use Rattle.iox_negotiate.proofs.Maps.{on}
use Rattle.iox_negotiate.proofs.Tables.{digest-self}
use Rattle.iox_negotiate.specs.Histories.{Accesses}
use Rattle.iox_negotiate_machine.proofs.Acted.{left-by, left-then}
use Rattle.iox_negotiate_machine.proofs.Acting.{OwnHash, last, less-apart, undescribed}
use Rattle.iox_negotiate_machine.proofs.Locking.{HasLock, IsPublished, Makes, makes}
use Rattle.iox_negotiate_machine.proofs.Meanwhile.{few-factories}
use Rattle.iox_negotiate_machine.proofs.Preceding.{Comes, Ends, UnderWay, lacks-itself, meanwhile, next_call, preceded, stopped, to_come}
use Rattle.iox_negotiate_machine.proofs.Seats.{node-itself}
use Rattle.iox_negotiate_machine.specs.CallLaws.{HasFewFactories, HaveStepForms, IsServiceIn, newness_of}
use Rattle.iox_negotiate_machine.specs.Standing.{PhaseStands, description_of}
use Rattle.iox_negotiate_table.proofs.Entries.{lookup-added}
use Rattle.iox_negotiate_table.specs.Contents.{Contents, entry_at, digest_cmp, with_lock}
use Rattle.iox_negotiate_table.specs.NegotiateBase.Access.{Access, Lock}
use Rattle.iox_negotiate_table.specs.NegotiateBase.Creating as creating
use Rattle.iox_negotiate_table.specs.NegotiateBase.Failing.{brought_about, created, lock_gives}
use Rattle.iox_negotiate_table.specs.NegotiateBase.Runs.{Went}
use Rattle.iox_negotiate_table.specs.NegotiateBase.declared.answer.LockAnswer.{LockAnswer}
use Rattle.iox_negotiate_table.specs.NegotiateBase.declared.answer.LockAnswer.TheVariants as lock
use Rattle.iox_negotiate_table.specs.NegotiateBase.declared.creation.Attempt.{Attempt}
use Rattle.iox_negotiate_table.specs.NegotiateBase.declared.creation.Attempt.TheVariants as attempt
use Rattle.iox_negotiate_table.specs.NegotiateBase.declared.failure.CreateFailure.TheVariants as uncreated
use Rattle.iox_negotiate_table.specs.Sights as sights
use Rattle.iox_negotiate_table.specs.Sights.{Sight}
use Rattle.iox_negotiate_table.specs.Stepped.{Steps, SteppedSight}
use Rattle.iox_negotiate_table.specs.declared.entry.Entry.{Entry}
use Rattle.iox_negotiate_table.specs.declared.entry.Entry.TheVariants.{Locked}
use Rattle.iox_negotiate_table.specs.declared.node.Node.TheVariants as table_node

module _ (types : MessageTypeDetails) (pattern : MessagingPattern) (name : List ℕ) (own : OwnHash pattern name) (steps : List StepBefore)
    (form : HaveStepForms types name steps) (old : Contents) (taken : List ℕ)
    (node : ℕ) (agreed : Agreement) where
  abbrev hash : ServiceHash
  hash = service_hash_of pattern name

  abbrev description : Description
  description = description_of pattern name agreed

  abbrev Under : ℕ → ℕ → Steps → Call → Type 0
  Under left locks now call = UnderWay types pattern name own steps form old taken left locks now.table now.lists call

  abbrev next : Call → Call
  next call = next_call types pattern name own steps form old taken call

  -- What an attempt means to the call: its service is that of the phase then; where another's lock or a service was in the way the call may
  -- go on; and it fails for want of memory alone.
  abbrev pub IsCome : ℕ → ℕ → Steps → Call → List ℕ → Attempt → Type 0
  IsCome left locks end after more (attempt.Made service) = IsServiceIn node pattern name after.phase (more ++ taken) service
  IsCome left locks end after more attempt.IsLocked = Under left locks end after × HasFewFactories node after.phase
  IsCome left locks end after more attempt.Exists = Under left locks end after × HasFewFactories node after.phase
  IsCome left locks end after more (attempt.Failed failure) = failure ≡ uncreated.OutOfMemory

  -- An attempt is a storage operation of the machine that locks.
  pub record Attempted (left locks : ℕ) (call : Call) (came : Attempt) (end : Steps) : Type 0 where
    pub after : Call
    pub access : machine.Access types pattern steps (Own node) uncreated.OutOfMemory
        (machine.Locks types pattern steps (Own node) agreed) call
        (Some (newness_of (created came))) after
    pub ends : Ends pattern name old taken end.table after.phase
    pub is_come : IsCome left locks end after ends.more came

  -- so it is once the steps before it are done; or it finds no memory, and nothing is done
  abbrev LocksIn : ℕ → ℕ → Phase → ℕ → Attempt → Steps → Type 0
  LocksIn left locks phase accesses came end =
      ((after : Call)
      × machine.Locks types pattern steps (Own node) agreed phase (record { phase = phase; accesses = accesses })
      (Some (newness_of (created came))) after
      × (ends : Ends pattern name old taken end.table after.phase) × IsCome left locks end after ends.more came)
      ⊎ ((came ≡ attempt.Failed uncreated.OutOfMemory) × Ends pattern name old taken end.table phase)

  -- ---- what a lock finds

  abbrev Finds : Phase → Contents → LockAnswer → Contents → Type 0
  Finds (Absent lives) table answer after =
      ((answer ≡ lock.Taken table.next) × (after ≡ with_lock hash (table_node.Own node) table))
      ⊎ ((answer ≡ lock.OutOfMemory) × (after ≡ table))
  Finds (BeingMade life by) table answer after = (answer ≡ lock.IsLocked) × (after ≡ table)
  Finds other table answer after = (answer ≡ lock.Exists) × (after ≡ table)

  finds : (phase : Phase) (numbers : List ℕ) (table : Contents) (answer : LockAnswer) (after : Contents)
      → PhaseStands pattern name table numbers phase → table.next < 2 ^ 64 - 1
      → sights.LocksAt (entry_at hash table) hash (table_node.Own node) table answer after → Finds phase table answer after
  finds (Absent lives) numbers table answer after stands room h =
      there (nat_eq table.next (2 ^ 64 - 1)) (less-apart table.next (2 ^ 64 - 1) room)
      (subst (λ (e : Option Entry). sights.LocksAt e hash (table_node.Own node) table answer after) stands.lies h)
    where
      there : (b : Bool) → b ≡ false → sights.LocksFree b hash (table_node.Own node) table answer after
          → Finds (Absent lives) table answer after
      there true is h = on is
      there false is h = h
  finds (BeingMade life by) numbers table answer after stands room h =
      subst (λ (e : Option Entry). sights.LocksAt e hash (table_node.Own node) table answer after) (last numbers stands.lies).1 h
  finds (Published life given nodes) numbers table answer after stands room h =
      subst (λ (e : Option Entry). sights.LocksAt e hash (table_node.Own node) table answer after)
      (last numbers stands.lies).1.0.described h
  finds (Emptied life given by) numbers table answer after stands room h =
      subst (λ (e : Option Entry). sights.LocksAt e hash (table_node.Own node) table answer after)
      (last numbers stands.lies).1.0.described h

  -- a lock that was taken
  has-lock : (lives : ℕ) (table after : Contents) → Ends pattern name old taken table (Absent lives)
      → Sight table (Lock hash node (lock.Taken table.next)) after → after ≡ with_lock hash (table_node.Own node) table
      → HasLock pattern name old taken node table.next lives None after
  has-lock lives table after ends sight is = record {
    leaves = left-then hash old table after ends.leaves
        (left-by (Accesses (Lock hash node (lock.Taken table.next))) table after ends.leaves.reached sight);
    more = ends.more;
    lived = ends.stands.lives;
    falling = rw is (omega arith, ends.stands.falling);
    lies = rw is (lookup-added digest_cmp hash.digest (Locked (table_node.Own node) table.next) table.entries (digest-self hash.digest));
    seat = rw is (ends.stands.segments table.next (undescribed hash table ends.stands.lies table.next refl));
    others = λ n differ. rw is (ends.stands.segments n (undescribed hash table ends.stands.lies n refl));
  }

  module _ (kind : pattern_of agreed.settings ≡ pattern) (within : IsWithinLimits description) (roomy : 1 ≤ max_nodes_of agreed.settings)
      (left locks : ℕ) (some : 1 ≤ locks) where
    -- what a lock that was taken comes to
    locked : (lives accesses : ℕ) (answer : LockAnswer) (table : Contents) (rest : List Access) (came : Attempt) (mid end : Steps)
        → Ends pattern name old taken table (Absent lives) → Sight table (Lock hash node answer) mid.table
        → answer ≡ lock.Taken table.next → mid.table ≡ with_lock hash (table_node.Own node) table
        → creating.LockGoes hash node description (lock_gives answer) rest came → Went SteppedSight mid rest end
        → LocksIn left locks (Absent lives) accesses came end
    locked lives accesses answer table rest came mid end ends sight taken_is after goes went =
        there (makes pattern name old taken node table.next lives agreed kind within roomy rest came mid end
        (has-lock lives table mid.table ends (subst (λ (a : LockAnswer). Sight table (Lock hash node a) mid.table) taken_is sight) after)
        (subst (λ (a : LockAnswer). creating.LockGoes hash node description (lock_gives a) rest came) taken_is goes) went)
      where
        Here : Attempt → Type 0
        Here which = LocksIn left locks (Absent lives) accesses which end

        made : IsPublished pattern name old taken node table.next lives agreed kind within roomy end.table
            → Here (attempt.Made (brought_about table.next description))
        made so = inl (
          record { phase = Published (lives + 1) agreed ((Own node, 1) ∷ []); accesses = accesses },
          inl (refl, refl),
          so.0,
          (rw (node-itself (Own node)) refl, so.1, refl),
        )

        there : Makes pattern name old taken node table.next lives agreed kind within roomy came end.table → Here came
        there (inl (is, so)) = subst Here (sym is) (made so)
        there (inr (is, gone)) = subst Here (sym is) (inl (
          record { phase = Absent (lives + 1); accesses = accesses },
          inr (refl, refl),
          gone,
          refl,
        ))

    -- what is in the way leads on
    in-the-way : (phase : Phase) (accesses : ℕ) (which came : Attempt) (rest : List Access) (table : Contents) (mid end : Steps)
        → machine.Locks types pattern steps (Own node) agreed phase (record { phase = phase; accesses = accesses })
        (Some (newness_of (created which))) (record { phase = phase; accesses = accesses })
        → ((now : Under left locks end (record { phase = phase; accesses = accesses }))
        → IsCome left locks end (record { phase = phase; accesses = accesses }) now.ends.more which)
        → UnderWay types pattern name own steps form old taken left locks table mid.lists (record { phase = phase; accesses = accesses })
        → mid.table ≡ table → (rest ≡ []) × (came ≡ which) → Went SteppedSight mid rest end
        → LocksIn left locks phase accesses came end
    in-the-way phase accesses which came rest table mid end access come under is goes went =
        subst (λ (a : Attempt). LocksIn left locks phase accesses a end) (sym goes.1)
        (inl (record { phase = phase; accesses = accesses }, access, now.ends, come now))
      where
        now : Under left locks end (record { phase = phase; accesses = accesses })
        now = subst (λ (s : Steps). Under left locks s (record { phase = phase; accesses = accesses }))
            (sym (subst (λ (l : List Access). Went SteppedSight mid l end) goes.0 went))
            (subst (λ (t : Contents). UnderWay types pattern name own steps form old taken left locks t mid.lists
            (record { phase = phase; accesses = accesses }))
            (sym is) under)

    lacking-now : (phase : Phase) (accesses : ℕ) (rest : List Access) (came : Attempt) (table : Contents) (mid end : Steps)
        → Ends pattern name old taken table phase → mid.table ≡ table
        → (rest ≡ []) × (came ≡ attempt.Failed uncreated.OutOfMemory) → Went SteppedSight mid rest end
        → LocksIn left locks phase accesses came end
    lacking-now phase accesses rest came table mid end ends is goes went = inr (
      goes.1,
      subst (λ (s : Steps). Ends pattern name old taken s.table phase)
          (sym (subst (λ (l : List Access). Went SteppedSight mid l end) goes.0 went))
          (subst (λ (t : Contents). Ends pattern name old taken t phase) (sym is) ends),
    )

    -- what the lock finds, by the phase then
    locks-in : (phase : Phase) (accesses : ℕ) (answer : LockAnswer) (table : Contents) (rest : List Access) (came : Attempt)
        (mid end : Steps)
        → UnderWay types pattern name own steps form old taken left locks table mid.lists
        (record { phase = phase; accesses = accesses })
        → HasFewFactories node phase → Sight table (Lock hash node answer) mid.table
        → creating.LockGoes hash node description (lock_gives answer) rest came → Went SteppedSight mid rest end
        → Finds phase table answer mid.table → LocksIn left locks phase accesses came end
    locks-in (Absent lives) accesses answer table rest came mid end under few sight goes went (inl (is, after)) =
        locked lives accesses answer table rest came mid end under.ends sight is after goes went
    locks-in (Absent lives) accesses answer table rest came mid end under few sight goes went (inr (is, after)) =
        lacking-now (Absent lives) accesses rest came table mid end under.ends after
        (subst (λ (a : LockAnswer). creating.LockGoes hash node description (lock_gives a) rest came) is goes) went
    locks-in (BeingMade life by) accesses answer table rest came mid end under few sight goes went (is, after) =
        in-the-way (BeingMade life by) accesses attempt.IsLocked came rest table mid end (refl, refl) (λ now. (now, few))
        under after
        (subst (λ (a : LockAnswer). creating.LockGoes hash node description (lock_gives a) rest came) is goes) went
    locks-in (Published life given nodes) accesses answer table rest came mid end under few sight goes went (is, after) =
        in-the-way (Published life given nodes) accesses attempt.Exists came rest table mid end (refl, refl) (λ now. (now, few))
        under after
        (subst (λ (a : LockAnswer). creating.LockGoes hash node description (lock_gives a) rest came) is goes) went
    locks-in (Emptied life given by) accesses answer table rest came mid end under few sight goes went (is, after) =
        in-the-way (Emptied life given by) accesses attempt.Exists came rest table mid end (refl, refl) (λ now. (now, few))
        under after
        (subst (λ (a : LockAnswer). creating.LockGoes hash node description (lock_gives a) rest came) is goes) went

    -- ---- the whole attempt

    pub attempts : (made : List Access) (came : Attempt) (call : Call) (start end : Steps) → Under (1 + left) locks start call
        → HasFewFactories node call.phase → creating.Locks hash node description made came → Went SteppedSight start made end
        → Attempted left locks call came end
    attempts (Lock under of answer ∷ rest) came call start end now few (own_hash, whose, goes) (mid, sight, went) =
        there (preceded types pattern name own steps form old taken (Lock hash node answer) (answer ≡ lock.OutOfMemory) left locks
        call start mid now
        (subst (λ (w : ℕ). SteppedSight start (Lock hash w answer) mid) whose
        (subst (λ (h : ServiceHash). SteppedSight start (Lock h of answer) mid) own_hash sight)))
      where
        room : (table : Contents) → table.next + to_come (call.accesses + 1) steps + locks < 2 ^ 64 → table.next < 2 ^ 64 - 1
        room table less = omega (arith, less, some)

        by : LocksIn left locks (next call).phase (call.accesses + 1) came end → Attempted left locks call came end
        by (inl (after, access, ends, come)) = record { after = after; access = inl access; ends = ends; is_come = come }
        by (inr (is, ends)) = subst (λ (a : Attempt). Attempted left locks call a end) (sym is) (record {
          after = record call { phase = (next call).phase };
          access = lacks-itself types pattern name own steps form old taken (Own node) uncreated.OutOfMemory
              (machine.Locks types pattern steps (Own node) agreed) call;
          ends = ends;
          is_come = refl;
        })

        there : Comes types pattern name own steps form old taken left locks call now.ends.more (Lock hash node answer)
            (answer ≡ lock.OutOfMemory)
            mid
            → Attempted left locks call came end
        there (inl (table, under_way, found, since)) =
            by (locks-in (next call).phase (call.accesses + 1) answer table rest came mid end under_way
            (few-factories types pattern node call.phase (meanwhile types pattern name own steps form old taken call) few) found goes went
            (finds (next call).phase (under_way.ends.more ++ taken) table answer mid.table under_way.ends.stands
            (room table under_way.room) found))
        there (inr (done, ends, lacking)) =
            let over = (subst (λ (a : LockAnswer). creating.LockGoes hash node description (lock_gives a) rest came) lacking goes) in
            subst (λ (a : Attempt). Attempted left locks call a end) (sym over.1) (record {
              after = stopped types pattern name own steps form old taken done call;
              access = inr (done, (refl, refl));
              ends = subst (λ (s : Steps). Ends pattern name old taken s.table
                  (fold (acted types pattern) call.phase (take done (meanwhile types pattern name own steps form old taken call))))
                  (sym (subst (λ (l : List Access). Went SteppedSight mid l end) over.0 went)) ends;
              is_come = refl;
            })
    attempts made came call start end now few told went = absurd told
