-- A refused call leaves what other nodes made of its phase meanwhile.
use Rattle.std.proofs.Common.{◌≡◌, ◌⊎◌, ◌+◌, ℕ, zero, suc, Bool, true, false, cond, ◌&&◌, ◌||◌, List, [], ◌∷◌, ◌++◌, length, take, None}
use Rattle.std.proofs.Common.{Some, Result, Ok, Err, refl, sym, ap, subst, inl, inr, arith, ◌∙◌, append-nil, true≢false}
use Rattle.std.specs.Prelude.{◌==◌, nat_le, nat_lt, fold, MatchResult}
use Rattle.iox_machine.specs.Choices.{Choices}
use Rattle.iox_machine.specs.Agreement.{Agreement, unfit, verdict}
use Rattle.iox_machine.specs.Asked.{settings_of}
use Rattle.iox_machine.specs.Factories.{Negotiates, Enters, OpensService, OpensOrCreatesService}
use Rattle.iox_machine.specs.Negotiation.{Call, Answer, Fails, Rounds, Access, Locks, CreateLooks, Creates, OpensFound, OpenLooks}
use Rattle.iox_machine.specs.Negotiation.{EitherLooks, registered, created}
use Rattle.iox_machine.specs.Phase.{Own, Phase, Absent, BeingMade, Published, Emptied, is_in, entered, acted}
use Rattle.iox_machine.specs.RefusalLaws.{IsAsBefore, IsLeftBySteps, RefusedCallsLeaveSteps, steps_at, steps_through}
use Rattle.iox_machine.proofs.Shorthands.{IsSkipped, IsRefused, closed_by, factory_of, either_lacking, Opens, OpensOrCreates, opened}
use Rattle.iox_machine.specs.Refusals.{open_refusal, either_refusal, create_refusal}
use Rattle.iox_machine.specs.State.{State, Factory, new_state, with_phase}
use Rattle.iox_machine.proofs.Cases.{by-bool, by-option, by-result}
use Rattle.iox_machine.proofs.Unfit.{by-fitness}
use Rattle.iox_machine.proofs.Names.{phase-there}
use Rattle.iox_machine.proofs.Unmoved.{Whole, acted-whole, closed-entered, closed-made, runs-whole, tells_refused}
use Rattle.iox_command.specs.NegotiateBase.DescribeBase.Attributes.{Required}
use Rattle.iox_command.specs.NegotiateBase.DescribeBase.declared.message_type.MessageTypeDetails.{MessageTypeDetails}
use Rattle.iox_command.specs.NegotiateBase.DescribeBase.declared.pattern.MessagingPattern.{MessagingPattern}
use Rattle.iox_command.specs.NegotiateBase.DescribeSettings.Agreement.{max_nodes_of}
use Rattle.iox_command.specs.NegotiateBase.declared.failure.CreateFailure.{CreateFailure}
use Rattle.iox_command.specs.NegotiateBase.declared.failure.CreateFailure.TheVariants as uncreated
use Rattle.iox_command.specs.NegotiateBase.declared.failure.OpenFailure.{OpenFailure}
use Rattle.iox_command.specs.NegotiateBase.declared.failure.OpenFailure.TheVariants as unopened
use Rattle.iox_command.specs.NegotiateBase.declared.failure.OpenOrCreateFailure.{OpenOrCreateFailure}
use Rattle.iox_command.specs.NegotiateBase.declared.failure.OpenOrCreateFailure.TheVariants as neither
use Rattle.iox_command.specs.Patterns.{pattern_of}
use Rattle.iox_command.specs.declared.command.Command.TheVariants as command
use Rattle.iox_command.specs.declared.refusal.Refusal.{Refusal}
use Rattle.iox_command.specs.declared.reply.Reply.{Reply}
use Rattle.iox_command.specs.declared.reply.Reply.TheVariants as reply
use Rattle.iox_command.specs.declared.service.ServiceOptions.{ServiceOptions}
use Rattle.iox_command.specs.declared.step.ForeignStep.{ForeignStep}
use Rattle.iox_command.specs.declared.step.StepBefore.{StepBefore}

next-is : (n : ℕ) → n + 1 ≡ suc n
next-is n = omega arith

fold-joined : {A X : Type 0} (f : A → X → A) (a : A) (xs ys : List X) → fold f a (xs ++ ys) ≡ fold f (fold f a xs) ys
fold-joined f a [] ys = refl
fold-joined f a (x ∷ xs) ys = fold-joined f (f a x) xs ys

module _ (types : MessageTypeDetails) (pattern : MessagingPattern) (steps : List StepBefore) (node : ℕ) (start : Phase)
    (whole : Whole start) where
  -- what is made of the phase before n storage operations
  abbrev so_far : ℕ → Phase
  so_far accesses = fold (acted types pattern) start (steps_through steps accesses)

  abbrev IsAt : Call → Type 0
  IsAt call = call.phase ≡ so_far call.accesses

  abbrev Over : Phase → Type 0
  Over phase = IsLeftBySteps types pattern steps start phase

  abbrev Ends : {F : Type 0} → Answer F → Call → Type 0
  Ends None call = IsAt call
  Ends (Some (Ok new)) call = Over (closed_by node call.phase)
  Ends (Some (Err failure)) call = Over call.phase

  -- who creates and then may open goes on, where another was first
  abbrev LockEnds : Answer CreateFailure → Call → Type 0
  LockEnds None call = IsAt call
  LockEnds (Some (Ok new)) call = Over (closed_by node call.phase)
  LockEnds (Some (Err uncreated.IsBeingCreatedByAnotherInstance)) call = IsAt call
  LockEnds (Some (Err uncreated.AlreadyExists)) call = IsAt call
  LockEnds (Some (Err failure)) call = Over call.phase

  acts-whole : (done : List ForeignStep) (phase : Phase) → Whole phase → Whole (fold (acted types pattern) phase done)
  acts-whole [] phase is = is
  acts-whole (one ∷ more) phase is = acts-whole more (acted types pattern phase one) (acted-whole types pattern phase one is)

  over : (accesses : ℕ) (phase : Phase) → IsAsBefore (so_far accesses) phase → Over phase
  over accesses phase so = (
    accesses,
    0,
    subst (λ (done : List ForeignStep). IsAsBefore (fold (acted types pattern) start done) phase)
        (sym (append-nil (steps_through steps accesses))) so,
  )

  at-over : (call : Call) → IsAt call → Over call.phase
  at-over call is = over call.accesses call.phase (inl is)

  fails-so : {F : Type 0} (failure : F) (call : Call) (answer : Answer F) (after : Call) → Over call.phase
      → Fails failure call answer after → Ends {F = F} answer after
  fails-so {F} failure call answer after so (told, came) =
      subst (λ (it : Answer F). Ends {F = F} it after) (sym told) (subst (λ (it : Call). Over it.phase) (sym came) so)

  accesses-go : {F : Type 0} (End : Answer F → Call → Type 0) (lacking : F) (Found : Phase → Call → Answer F → Call → Type 0)
      → ((call : Call) → Over call.phase → End (Some (Err lacking)) call)
      → ((phase : Phase) (accesses : ℕ) (answer : Answer F) (after : Call) → phase ≡ so_far accesses
      → Found phase (record { phase = phase; accesses = accesses }) answer after → End answer after)
      → (call : Call) (answer : Answer F) (after : Call) → IsAt call
      → Access types pattern steps (Own node) lacking Found call answer after → End answer after
  accesses-go {F} End lacking Found lacks on call answer after is (inl found) =
      on (fold (acted types pattern) call.phase (steps_at steps (call.accesses + 1))) (call.accesses + 1) answer after
      (ap (λ (phase : Phase). fold (acted types pattern) phase (steps_at steps (call.accesses + 1))) is
      ∙ (ap (λ (k : ℕ). fold (acted types pattern) (so_far call.accesses) (steps_at steps k)) (next-is call.accesses)
      ∙ (sym (fold-joined (acted types pattern) start (steps_through steps call.accesses) (steps_at steps (suc call.accesses)))
      ∙ ap so_far (sym (next-is call.accesses)))))
      found
  accesses-go {F} End lacking Found lacks on call answer after is (inr (done, (told, came))) =
      subst (λ (it : Answer F). End it after) (sym told)
      (lacks after
      (subst (λ (it : Call). Over it.phase) (sym came) (
        call.accesses,
        done,
        inl (ap (λ (phase : Phase). fold (acted types pattern) phase (take done (steps_at steps (call.accesses + 1)))) is
            ∙ (ap (λ (k : ℕ). fold (acted types pattern) (so_far call.accesses) (take done (steps_at steps k))) (next-is call.accesses)
            ∙ sym (fold-joined (acted types pattern) start (steps_through steps call.accesses)
            (take done (steps_at steps (suc call.accesses)))))),
      )))

  rounds-go : {F : Type 0} (Round : Call → Answer F → Call → Type 0) (exhausted : F)
      → ((call : Call) (answer : Answer F) (after : Call) → IsAt call → Round call answer after → Ends {F = F} answer after)
      → (count : ℕ) (call : Call) (answer : Answer F) (after : Call) → IsAt call → Rounds Round exhausted count call answer after
      → Ends {F = F} answer after
  rounds-go {F} Round exhausted goes zero call answer after is failed =
      fails-so {F = F} exhausted call answer after (at-over call is) failed
  rounds-go {F} Round exhausted goes (suc count) call answer after is (mid, None, went, more) =
      rounds-go {F = F} Round exhausted goes count mid answer after (goes call None mid is went) more
  rounds-go {F} Round exhausted goes (suc count) call answer after is (mid, Some found, went, (told, came)) =
      subst (λ (it : Answer F). Ends {F = F} it after) (sym told)
      (subst (λ (it : Call). Ends {F = F} (Some found) it) (sym came) (goes call (Some found) mid is went))

  -- ---- a creation

  lock-ends : (answer : Answer CreateFailure) (call : Call) → LockEnds answer call → Ends {F = CreateFailure} answer call
  lock-ends None call e = e
  lock-ends (Some (Ok new)) call e = e
  lock-ends (Some (Err uncreated.IsBeingCreatedByAnotherInstance)) call e = at-over call e
  lock-ends (Some (Err uncreated.AlreadyExists)) call e = at-over call e
  lock-ends (Some (Err failure)) call e = e

  first-so : (failure : CreateFailure) (call : Call) (answer : Answer CreateFailure) (after : Call)
      → LockEnds (Some (Err failure)) call → Fails failure call answer after → LockEnds answer after
  first-so failure call answer after so (told, came) =
      subst (λ (it : Answer CreateFailure). LockEnds it after) (sym told)
      (subst (λ (it : Call). LockEnds (Some (Err failure)) it) (sym came) so)

  module _ (agreed : Agreement) where
    locks-go : (phase : Phase) (accesses : ℕ) (answer : Answer CreateFailure) (after : Call) → phase ≡ so_far accesses
        → Locks types pattern steps (Own node) agreed phase (record { phase = phase; accesses = accesses }) answer after
        → LockEnds answer after
    locks-go (Absent lives) accesses answer after is (inl (told, came)) =
        subst (λ (it : Answer CreateFailure). LockEnds it after) (sym told)
        (subst (λ (it : Call). Over (closed_by node it.phase)) (sym came)
        (subst Over (sym (closed-made node (lives + 1) agreed))
        (over accesses (Absent (lives + 1)) (inr (lives, lives + 1, sym is, refl)))))
    locks-go (Absent lives) accesses answer after is (inr failed) =
        first-so uncreated.OutOfMemory (record { phase = Absent (lives + 1); accesses = accesses }) answer after
        (over accesses (Absent (lives + 1)) (inr (lives, lives + 1, sym is, refl))) failed
    locks-go (BeingMade life by) accesses answer after is failed =
        first-so uncreated.IsBeingCreatedByAnotherInstance (record { phase = BeingMade life by; accesses = accesses }) answer after is
        failed
    locks-go (Published life standing nodes) accesses answer after is failed =
        first-so uncreated.AlreadyExists (record { phase = Published life standing nodes; accesses = accesses }) answer after is failed
    locks-go (Emptied life standing by) accesses answer after is failed =
        first-so uncreated.AlreadyExists (record { phase = Emptied life standing by; accesses = accesses }) answer after is failed

    locked-go : (call : Call) (answer : Answer CreateFailure) (after : Call) → IsAt call
        → Access types pattern steps (Own node) uncreated.OutOfMemory (Locks types pattern steps (Own node) agreed) call answer after
        → LockEnds answer after
    locked-go =
        accesses-go LockEnds uncreated.OutOfMemory (Locks types pattern steps (Own node) agreed) (λ call so. so) locks-go

    create-looks-go : (phase : Phase) (accesses : ℕ) (answer : Answer CreateFailure) (after : Call) → phase ≡ so_far accesses
        → CreateLooks types pattern steps (Own node) agreed phase (record { phase = phase; accesses = accesses }) answer after
        → Ends {F = CreateFailure} answer after
    create-looks-go (Absent lives) accesses answer after is h =
        lock-ends answer after (locked-go (record { phase = Absent lives; accesses = accesses }) answer after is h)
    create-looks-go (BeingMade life by) accesses answer after is failed =
        fails-so {F = CreateFailure} uncreated.HangsInCreation (record { phase = BeingMade life by; accesses = accesses }) answer after
        (over accesses (BeingMade life by) (inl is)) failed
    create-looks-go (Published life standing nodes) accesses answer after is failed =
        fails-so {F = CreateFailure} uncreated.AlreadyExists (record { phase = Published life standing nodes; accesses = accesses })
        answer after (over accesses (Published life standing nodes) (inl is)) failed
    create-looks-go (Emptied life standing by) accesses answer after is failed =
        fails-so {F = CreateFailure} uncreated.AlreadyExists (record { phase = Emptied life standing by; accesses = accesses }) answer after
        (over accesses (Emptied life standing by) (inl is)) failed

    creates-go : (call : Call) (answer : Answer CreateFailure) (after : Call) → IsAt call
        → Creates types pattern steps (Own node) agreed call answer after → Ends {F = CreateFailure} answer after
    creates-go call answer after is h =
        elim (by-option (unfit agreed.settings)
        (Access types pattern steps (Own node) uncreated.OutOfMemory (CreateLooks types pattern steps (Own node) agreed) call answer after)
        (λ failure. Fails failure call answer after) h) [
          | inl w ↦ accesses-go (Ends {F = CreateFailure}) uncreated.OutOfMemory (CreateLooks types pattern steps (Own node) agreed)
              (λ it so. so) create-looks-go call answer after is w.1
          | inr w ↦ fails-so {F = CreateFailure} w.0 call answer after (at-over call is) w.2
        ]

  -- ---- an opening

  module _ {V : Type 0} (verdict : Agreement → Result (Unit {0}) V) where
    registered-ends : (life : ℕ) (phase : Phase) (accesses : ℕ) → phase ≡ so_far accesses
        → Ends {F = OpenFailure V} (registered {V = V} life (Own node) phase).0
        (record { phase = (registered {V = V} life (Own node) phase).1; accesses = accesses })
    registered-ends life (Absent lives) accesses is = is
    registered-ends life (BeingMade now by) accesses is = is
    registered-ends life (Published now agreed nodes) accesses is =
        found (now == life) (is_in (Own node) nodes || nat_lt (length nodes) (max_nodes_of agreed.settings)) (Some (Ok false), joined)
        (Some (Err unopened.ExceedsMaxNumberOfNodes), same) (None, same) (over accesses (closed_by node joined) (inl kept))
        (over accesses same (inl is)) is
      where
        joined : Phase
        joined = Published now agreed (entered (Own node) nodes)

        same : Phase
        same = Published now agreed nodes

        kept : closed_by node joined ≡ so_far accesses
        kept =
            closed-entered node now agreed nodes (subst Whole (sym is) (acts-whole (steps_through steps accesses) start whole)) ∙ is

        Ending : Answer (OpenFailure V) × Phase → Type 0
        Ending it = Ends {F = OpenFailure V} it.0 (record { phase = it.1; accesses = accesses })

        found : (b c : Bool) (one two three : Answer (OpenFailure V) × Phase) → Ending one → Ending two → Ending three
            → Ending (cond b (cond c one two) three)
        found true true one two three p q r = p
        found true false one two three p q r = q
        found false c one two three p q r = r
    registered-ends life (Emptied now agreed by) accesses is = found (now == life)
      where
        found : (b : Bool) → Ends {F = OpenFailure V} (cond b (Some (Err unopened.IsMarkedForDestruction)) None)
            (record { phase = Emptied now agreed by; accesses = accesses })
        found true = over accesses (Emptied now agreed by) (inl is)
        found false = is

    opens-found-go : (life : ℕ) (agreed : Agreement) (call : Call) (answer : Answer (OpenFailure V)) (after : Call) → IsAt call
        → OpensFound types pattern steps (Own node) verdict life agreed call answer after → Ends {F = OpenFailure V} answer after
    opens-found-go life agreed call answer after is h =
        elim (by-result (verdict agreed)
        (λ met. Access types pattern steps (Own node) unopened.OutOfMemory
        (λ phase now found later. (found ≡ (registered {V = V} life (Own node) phase).0) ×
        (later ≡ record now { phase = (registered {V = V} life (Own node) phase).1 })) call answer after)
        (λ unmet. Fails (unopened.Clause unmet) call answer after) h) [
          | inl w ↦ accesses-go (Ends {F = OpenFailure V}) unopened.OutOfMemory
              (λ phase now found later. (found ≡ (registered {V = V} life (Own node) phase).0) ×
              (later ≡ record now { phase = (registered {V = V} life (Own node) phase).1 }))
              (λ it so. so)
              (λ phase accesses found later good it.
              subst (λ (given : Answer (OpenFailure V)). Ends {F = OpenFailure V} given later) (sym it.0)
              (subst (λ (end : Call). Ends {F = OpenFailure V} (registered {V = V} life (Own node) phase).0 end) (sym it.1)
              (registered-ends life phase accesses good)))
              call answer after is w.2
          | inr w ↦ fails-so {F = OpenFailure V} (unopened.Clause w.0) call answer after (at-over call is) w.2
        ]

    open-looks-go : (phase : Phase) (call : Call) (answer : Answer (OpenFailure V)) (after : Call) → IsAt call
        → OpenLooks types pattern steps (Own node) verdict phase call answer after → Ends {F = OpenFailure V} answer after
    open-looks-go (Absent lives) call answer after is failed =
        fails-so {F = OpenFailure V} unopened.DoesNotExist call answer after (at-over call is) failed
    open-looks-go (BeingMade life by) call answer after is failed =
        fails-so {F = OpenFailure V} unopened.HangsInCreation call answer after (at-over call is) failed
    open-looks-go (Published life agreed nodes) call answer after is h = opens-found-go life agreed call answer after is h
    open-looks-go (Emptied life agreed by) call answer after is h = opens-found-go life agreed call answer after is h

    opens-go : (call : Call) (answer : Answer (OpenFailure V)) (after : Call) → IsAt call
        → Opens types pattern steps (Own node) verdict call answer after → Ends {F = OpenFailure V} answer after
    opens-go =
        rounds-go {F = OpenFailure V}
        (Access types pattern steps (Own node) unopened.OutOfMemory (OpenLooks types pattern steps (Own node) verdict))
        unopened.ServiceInCorruptedState
        (accesses-go (Ends {F = OpenFailure V}) unopened.OutOfMemory (OpenLooks types pattern steps (Own node) verdict) (λ it so. so)
        (λ phase accesses answer after is h.
        open-looks-go phase (record { phase = phase; accesses = accesses }) answer after is h)) 5

    created-ends : (made : Answer CreateFailure) (call : Call) → LockEnds made call
        → Ends {F = OpenOrCreateFailure V} (created {V = V} made) call
    created-ends None call e = e
    created-ends (Some (Ok new)) call e = e
    created-ends (Some (Err uncreated.IsBeingCreatedByAnotherInstance)) call e = e
    created-ends (Some (Err uncreated.AlreadyExists)) call e = e
    created-ends (Some (Err failure)) call e = e

    opened-ends : (found : Answer (OpenFailure V)) (call : Call) → Ends {F = OpenFailure V} found call
        → Ends {F = OpenOrCreateFailure V} (opened {V = V} found) call
    opened-ends None call e = e
    opened-ends (Some (Ok new)) call e = e
    opened-ends (Some (Err failure)) call e = e

    module _ (agreed : Agreement) where
      opened-so : (phase : Phase) (call : Call) (answer : Answer (OpenOrCreateFailure V)) (after : Call) → IsAt call
          → (found : Answer (OpenFailure V)) × OpenLooks types pattern steps (Own node) verdict phase call found after
          × (answer ≡ opened found) → Ends {F = OpenOrCreateFailure V} answer after
      opened-so phase call answer after is (found, looked, told) =
          subst (λ (it : Answer (OpenOrCreateFailure V)). Ends {F = OpenOrCreateFailure V} it after) (sym told)
          (opened-ends found after (open-looks-go phase call found after is looked))

      either-looks-go : (phase : Phase) (accesses : ℕ) (answer : Answer (OpenOrCreateFailure V)) (after : Call) → phase ≡ so_far accesses
          → EitherLooks types pattern steps (Own node) verdict agreed phase (record { phase = phase; accesses = accesses }) answer after
          → Ends {F = OpenOrCreateFailure V} answer after
      either-looks-go (Absent lives) accesses answer after is h =
          elim (by-option (unfit agreed.settings)
          ((made : Answer CreateFailure)
          × Access types pattern steps (Own node) uncreated.OutOfMemory (Locks types pattern steps (Own node) agreed)
          (record { phase = Absent lives; accesses = accesses }) made after × (answer ≡ created made))
          (λ failure. Fails (neither.Create failure) (record { phase = Absent lives; accesses = accesses }) answer after) h) [
            | inl w ↦ subst (λ (it : Answer (OpenOrCreateFailure V)). Ends {F = OpenOrCreateFailure V} it after) (sym w.1.2)
                (created-ends w.1.0 after
                (locked-go agreed (record { phase = Absent lives; accesses = accesses }) w.1.0 after is w.1.1))
            | inr w ↦ fails-so {F = OpenOrCreateFailure V} (neither.Create w.0) (record { phase = Absent lives; accesses = accesses })
                answer after (over accesses (Absent lives) (inl is)) w.2
          ]
      either-looks-go (BeingMade life by) accesses answer after is h =
          opened-so (BeingMade life by) (record { phase = BeingMade life by; accesses = accesses }) answer after is h
      either-looks-go (Published life standing nodes) accesses answer after is h =
          opened-so (Published life standing nodes) (record { phase = Published life standing nodes; accesses = accesses }) answer after is
          h
      either-looks-go (Emptied life standing by) accesses answer after is h =
          opened-so (Emptied life standing by) (record { phase = Emptied life standing by; accesses = accesses }) answer after is h

      opens-or-creates-go : (call : Call) (answer : Answer (OpenOrCreateFailure V)) (after : Call) → IsAt call
          → OpensOrCreates types pattern steps (Own node) verdict agreed call answer after → Ends {F = OpenOrCreateFailure V} answer after
      opens-or-creates-go =
          rounds-go {F = OpenOrCreateFailure V}
          (Access types pattern steps (Own node) (neither.Open unopened.OutOfMemory)
          (EitherLooks types pattern steps (Own node) verdict agreed))
          neither.SystemInFlux
          (accesses-go (Ends {F = OpenOrCreateFailure V}) (neither.Open unopened.OutOfMemory)
          (EitherLooks types pattern steps (Own node) verdict agreed) (λ it so. so) either-looks-go) 5

-- ---- the commands

module _ {T : Type 0} (types : MessageTypeDetails) (steps : List StepBefore) (factory : Factory) (old : State T) (why : Refusal)
    (new : State T) (whole : Whole (old.phases factory.pattern factory.name)) where
  abbrev start : Phase
  start = old.phases factory.pattern factory.name

  abbrev IsLeftSo : Phase → Type 0
  IsLeftSo phase = IsLeftBySteps types factory.pattern steps start phase

  abbrev Goes : {F : Type 0} → (Call → Answer F → Call → Type 0) → Type 0
  Goes {F} Calls = (answer : Answer F) (after : Call) → Calls (record { phase = start; accesses = 0 }) answer after
      → Ends types factory.pattern steps factory.node start whole {F = F} answer after

  abbrev refused_so : Reply T
  refused_so = reply.Refused why

  abbrev Called : {F : Type 0} → (Call → Answer F → Call → Type 0) → (F → Refusal) → (Bool → F) → Type 0
  Called {F} Calls told lacking =
      IsRefused (told (lacking false)) old refused_so new
      ⊎ ((found : Result Bool F) × (after : Call) × Calls (record { phase = start; accesses = 0 }) (Some found) after
      × MatchResult found
      (λ is_new. Enters factory after.phase (told (lacking is_new)) old refused_so new)
      (λ failure. IsRefused (told failure) (with_phase factory.pattern factory.name after.phase old) refused_so new))

  unmoved : (other : Refusal) → IsRefused other old refused_so new → IsLeftSo (new.phases factory.pattern factory.name)
  unmoved other refused =
      subst IsLeftSo (sym (ap (λ (state : State T). state.phases factory.pattern factory.name) refused.1)) (0, 0, inl refl)

  settles : {F : Type 0} (Calls : Call → Answer F → Call → Type 0) (told : F → Refusal) (lacking : Bool → F) → Goes {F = F} Calls
      → Negotiates Calls told lacking factory old (reply.Refused why) new → IsLeftSo (new.phases factory.pattern factory.name)
  settles {F} Calls told lacking goes h =
      elim (by-bool (nat_le 1 factory.node && nat_le factory.node old.made.nodes)
      (Called {F = F} Calls told lacking)
      (IsSkipped old (reply.Refused why) new) h) [
        | inl w ↦ called w.1
        | inr w ↦ absurd (true≢false (ap tells_refused w.1.0))
      ]
    where
      there : (phase : Phase) → IsLeftSo phase → new ≡ with_phase factory.pattern factory.name phase old
          → IsLeftSo (new.phases factory.pattern factory.name)
      there phase so came =
          subst IsLeftSo
          (sym (ap (λ (state : State T). state.phases factory.pattern factory.name) came
          ∙ phase-there factory.pattern factory.name phase old)) so

      called : Called {F = F} Calls told lacking → IsLeftSo (new.phases factory.pattern factory.name)
      called (inl refused) = unmoved (told (lacking false)) refused
      called (inr (Ok is_new, after, went, inl (made, came))) = absurd (true≢false (ap tells_refused made))
      called (inr (Ok is_new, after, went, inr refused)) =
          there (closed_by factory.node after.phase) (goes (Some (Ok is_new)) after went) refused.1
      called (inr (Err failure, after, went, refused)) = there after.phase (goes (Some (Err failure)) after went) refused.1

  open-leaves : (named : ServiceOptions) (required : Required)
      → OpensService types steps factory named required old (reply.Refused why) new → IsLeftSo (new.phases factory.pattern factory.name)
  open-leaves named required h =
      settles (Opens types factory.pattern steps (Own factory.node) (verdict types named required))
      (open_refusal named) (λ is_new. unopened.OutOfMemory)
      (λ answer after went. opens-go types factory.pattern steps factory.node start whole (verdict types named required)
      (record { phase = start; accesses = 0 }) answer after refl went) h

  either-leaves : (named : ServiceOptions) (required : Required)
      → OpensOrCreatesService types steps factory named required old (reply.Refused why) new
      → IsLeftSo (new.phases factory.pattern factory.name)
  either-leaves named required h =
      settles (OpensOrCreates types factory.pattern steps (Own factory.node) (verdict types named required)
      (record { settings = settings_of types named; attributes = required.pairs }))
      (either_refusal named) either_lacking
      (λ answer after went. opens-or-creates-go types factory.pattern steps factory.node start whole
      (verdict types named required)
      (record { settings = settings_of types named; attributes = required.pairs })
      (record { phase = start; accesses = 0 }) answer after refl went) h

at-same : {T : Type 0} (types : MessageTypeDetails) (old new : State T) (one pattern : MessagingPattern) (other name : List ℕ)
    (these steps : List StepBefore) → one ≡ pattern → other ≡ name → these ≡ steps
    → IsLeftBySteps types one these (old.phases one other) (new.phases one other)
    → IsLeftBySteps types pattern steps (old.phases pattern name) (new.phases pattern name)
at-same types old new one pattern other name these steps same is all so =
    subst (λ (p : MessagingPattern). IsLeftBySteps types p steps (old.phases p name) (new.phases p name)) same
    (subst (λ (n : List ℕ). IsLeftBySteps types one steps (old.phases one n) (new.phases one n)) is
    (subst (λ (l : List StepBefore). IsLeftBySteps types one l (old.phases one other) (new.phases one other)) all so))

pub refused-calls-leave-steps : {T : Type 0} (choices : Choices T) → RefusedCallsLeaveSteps choices
refused-calls-leave-steps {T} choices types buffer before told old run pattern name steps
    (command.Create node other named attributes meanwhile) new why (same, is, all) h =
    let whole : Whole (old.phases (pattern_of named) other) =
    runs-whole types choices buffer before new_state told old run (λ one another. tt) (pattern_of named) other in
    at-same types old new (pattern_of named) pattern other name meanwhile steps same is all
    (elim (by-fitness types meanwhile (factory_of node other named) named attributes old (reply.Refused why) new h) [
      | inl negotiates ↦ settles types meanwhile (factory_of node other named) old why new whole {F = CreateFailure}
          (Creates types (pattern_of named) meanwhile (Own node) (record { settings = settings_of types named; attributes = attributes }))
          (create_refusal named) (λ is_new. uncreated.OutOfMemory)
          (λ answer after went. creates-go types (pattern_of named) meanwhile node (old.phases (pattern_of named) other) whole
          (record { settings = settings_of types named; attributes = attributes })
          (record { phase = old.phases (pattern_of named) other; accesses = 0 }) answer after refl went) negotiates
      | inr (inl skipped) ↦ absurd (true≢false (ap tells_refused skipped.0))
      | inr (inr refused) ↦ unmoved types meanwhile (factory_of node other named) old why new whole refused.0 refused.1
    ])
refused-calls-leave-steps {T} choices types buffer before told old run pattern name steps
    (command.Open node other named required meanwhile) new why (same, is, all) h =
    at-same types old new (pattern_of named) pattern other name meanwhile steps same is all
    (open-leaves types meanwhile (factory_of node other named) old why new
    (runs-whole types choices buffer before new_state told old run (λ one another. tt) (pattern_of named) other) named required h)
refused-calls-leave-steps {T} choices types buffer before told old run pattern name steps
    (command.OpenOrCreate node other named required meanwhile) new why (same, is, all) h =
    at-same types old new (pattern_of named) pattern other name meanwhile steps same is all
    (either-leaves types meanwhile (factory_of node other named) old why new
    (runs-whole types choices buffer before new_state told old run (λ one another. tt) (pattern_of named) other) named required h)
refused-calls-leave-steps choices types buffer before told old run pattern name steps asked new why never h = absurd never
