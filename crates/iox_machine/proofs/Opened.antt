-- What is opened meets what is asked, and a refusal names the first clause that isn't met.
use Rattle.std.proofs.Common.{◌≡◌, ◌≤◌, ◌⊎◌, ◌+◌, ℕ, zero, suc, Bool, true, false, cond, ◌&&◌, ◌||◌, List, length, map, take, Option}
use Rattle.std.proofs.Common.{None, Some, Result, Ok, Err, arith, refl, sym, ap, subst, inl, inr, ◌∙◌, true≢false}
use Rattle.std.proofs.lemmas.Bool.{eqb-true}
use Rattle.std.specs.Prelude.{◌==◌, filter, fold, nat_le, nat_lt, unwrap_or, MatchResult}
use Rattle.iox_machine.specs.Choices.{Choices}
use Rattle.iox_machine.specs.Agreement.{Agreement, verdict, unfit}
use Rattle.iox_machine.specs.AgreementLaws.{agreed_in, life_of}
use Rattle.iox_machine.specs.Asked.{settings_of}
use Rattle.iox_machine.specs.Factories.{Enters, Negotiates}
use Rattle.iox_machine.specs.Negotiation.{Access, Answer, Call, EitherLooks, Fails, Locks, OpenLooks, OpensFound}
use Rattle.iox_machine.specs.Negotiation.{Rounds, created, registered}
use Rattle.iox_machine.specs.OpeningLaws.{EitherMeetsAsked, EitherNamesUnmet, IsAgreedOn, IsNewWith, NamesUnmet, OpenedMeetsAsked}
use Rattle.iox_machine.specs.Phase.{Absent, BeingMade, Emptied, Node, Own, Phase, Published, acted, entered, is_in}
use Rattle.iox_machine.proofs.Shorthands.{IsSkipped, IsRefused, factory_of, either_lacking, Opens, OpensOrCreates, opened}
use Rattle.iox_machine.specs.Refusals.{open_refusal, either_refusal}
use Rattle.iox_machine.specs.State.{Factory, State, with_phase}
use Rattle.iox_machine.proofs.Calls.{fold-all}
use Rattle.iox_machine.proofs.Cases.{by-bool, by-option, by-result}
use Rattle.iox_machine.proofs.Names.{phase-there}
use Rattle.iox_machine.proofs.Phases.{Since, each-all, since-acted, since-itself, stays-told}
use Rattle.iox_command.specs.NegotiateBase.DescribeBase.declared.message_type.MessageTypeDetails.{MessageTypeDetails}
use Rattle.iox_command.specs.NegotiateBase.DescribeBase.declared.pattern.MessagingPattern.{MessagingPattern}
use Rattle.iox_command.specs.NegotiateBase.DescribeSettings.Agreement.{max_nodes_of}
use Rattle.iox_command.specs.NegotiateBase.declared.failure.CreateFailure.{CreateFailure}
use Rattle.iox_command.specs.NegotiateBase.declared.failure.CreateFailure.TheVariants as uncreated
use Rattle.iox_command.specs.NegotiateBase.declared.failure.OpenFailure.{OpenFailure}
use Rattle.iox_command.specs.NegotiateBase.declared.failure.OpenFailure.TheVariants as unopened
use Rattle.iox_command.specs.NegotiateBase.declared.failure.OpenOrCreateFailure.{OpenOrCreateFailure}
use Rattle.iox_command.specs.NegotiateBase.declared.failure.OpenOrCreateFailure.TheVariants as neither
use Rattle.iox_command.specs.declared.refusal.Refusal.{Refusal}
use Rattle.iox_command.specs.declared.reply.Reply.{Reply}
use Rattle.iox_command.specs.declared.reply.Reply.TheVariants as reply
use Rattle.iox_command.specs.declared.step.ForeignStep.{ForeignStep}
use Rattle.iox_command.specs.declared.step.StepBefore.{StepBefore}

module _ (types : MessageTypeDetails) (pattern : MessagingPattern) (steps : List StepBefore) (node : Node) where
  -- ---- calls of any kind

  -- what is said of an answer, and of the phase then
  abbrev Says : Type 0 → Type 1
  Says F = Answer F → Phase → Type 0

  fails-so : {F : Type 0} (Tells : Says F) (failure : F) (call : Call) (answer : Answer F) (after : Call)
      → Tells (Some (Err failure)) call.phase → Fails failure call answer after → Tells answer after.phase
  fails-so Tells failure call answer after so (told, came) =
      subst (λ (it : Answer _). Tells it after.phase) (sym told) (subst (λ (it : Call). Tells (Some (Err failure)) it.phase) (sym came) so)

  access-so : {F : Type 0} (Tells : Says F) (lacking : F) (Found : Phase → Call → Answer F → Call → Type 0)
      → ((phase : Phase) → Tells (Some (Err lacking)) phase) → (call : Call) (answer : Answer F) (after : Call)
      → ((phase : Phase) (accesses : ℕ) → Since call.phase phase → Found phase (record { phase = phase; accesses = accesses }) answer after
      → Tells answer after.phase)
      → Access types pattern steps node lacking Found call answer after → Tells answer after.phase
  access-so Tells lacking Found lacks call answer after on (inl found) =
      on (fold (acted types pattern) call.phase
      (map (λ (before : StepBefore). before.step) (filter (λ (before : StepBefore). before.access == call.accesses + 1) steps)))
      (call.accesses + 1)
      (fold-all (Since call.phase) (acted types pattern)
      (map (λ (before : StepBefore). before.step) (filter (λ (before : StepBefore). before.access == call.accesses + 1) steps))
      (each-all (λ (one : ForeignStep). (phase : Phase) → Since call.phase phase → Since call.phase (acted types pattern phase one))
      (λ one phase since. since-acted types pattern call.phase phase one since)
      (map (λ (before : StepBefore). before.step) (filter (λ (before : StepBefore). before.access == call.accesses + 1) steps)))
      call.phase (since-itself call.phase))
      found
  access-so Tells lacking Found lacks call answer after on (inr (done, failed)) =
      fails-so Tells lacking (record call {
        phase = fold (acted types pattern) call.phase (take done
            (map (λ (before : StepBefore). before.step) (filter (λ (before : StepBefore). before.access == call.accesses + 1) steps)));
      }) answer after
      (lacks (fold (acted types pattern) call.phase (take done
      (map (λ (before : StepBefore). before.step) (filter (λ (before : StepBefore). before.access == call.accesses + 1) steps))))) failed

  rounds-so : {F : Type 0} (Tells : Says F) (Round : Call → Answer F → Call → Type 0) (exhausted : F)
      → ((phase : Phase) → Tells (Some (Err exhausted)) phase)
      → ((call : Call) (answer : Answer F) (after : Call) → Tells None call.phase → Round call answer after → Tells answer after.phase)
      → (count : ℕ) (call : Call) (answer : Answer F) (after : Call) → Tells None call.phase
      → Rounds Round exhausted count call answer after → Tells answer after.phase
  rounds-so Tells Round exhausted ends goes zero call answer after so failed =
      fails-so Tells exhausted call answer after (ends call.phase) failed
  rounds-so Tells Round exhausted ends goes (suc count) call answer after so (mid, None, went, more) =
      rounds-so Tells Round exhausted ends goes count mid answer after (goes call None mid so went) more
  rounds-so Tells Round exhausted ends goes (suc count) call answer after so (mid, Some found, went, (told, came)) =
      subst (λ (it : Answer _). Tells it after.phase) (sym told)
      (subst (λ (it : Call). Tells (Some found) it.phase) (sym came) (goes call (Some found) mid so went))

  -- what is later than a phase is in no earlier life
  later : (least : ℕ) (from phase : Phase) → least ≤ life_of from → Since from phase → least ≤ life_of phase
  later least from phase low since = reaches least (life_of from) (life_of phase) low (stays-told from phase since).0
    where
      reaches : (a b c : ℕ) → a ≤ b → b ≤ c → a ≤ c
      reaches a b c h k = omega (arith, h, k)

  -- ---- openings

  -- Of each phase that is met, and of each answer, it is told with this life: none is of a life before it.
  module _ {V : Type 0} (verdict : Agreement → Result (Unit {0}) V) (least : ℕ) where
    abbrev Tells : Answer (OpenFailure V) → Phase → Type 0
    Tells None phase = least ≤ life_of phase
    Tells (Some (Ok new)) phase = IsAgreedOn (λ agreed. verdict agreed ≡ Ok tt) phase
    Tells (Some (Err failure)) phase = NamesUnmet verdict failure phase

    abbrev TellsBoth : Answer (OpenFailure V) × Phase → Type 0
    TellsBoth both = Tells both.0 both.1

    chosen-tells : (b : Bool) (one other : Answer (OpenFailure V) × Phase) → (b ≡ true → TellsBoth one) → (b ≡ false → TellsBoth other)
        → TellsBoth (cond b one other)
    chosen-tells true one other on off = on refl
    chosen-tells false one other on off = off refl

    -- who registers in the life that was found is in a service of that agreement
    registers-so : (from : Phase) (agreed : Agreement) → agreed_in from ≡ Some agreed → verdict agreed ≡ Ok tt → (phase : Phase)
        → Since from phase → least ≤ life_of phase → TellsBoth (registered {V = V} (life_of from) node phase)
    registers-so from agreed known met (Absent lives) since low = low
    registers-so from agreed known met (BeingMade life by) since low = low
    registers-so from agreed known met (Emptied now other by) since low = found (now == life_of from)
      where
        found : (b : Bool) → Tells (cond b (Some (Err unopened.IsMarkedForDestruction)) None) (Emptied now other by)
        found true = tt
        found false = low
    registers-so from agreed known met (Published now other nodes) since low =
        let joined : Answer (OpenFailure V) × Phase = (Some (Ok false), Published now other (entered node nodes)) in
        let full : Answer (OpenFailure V) × Phase = (Some (Err unopened.ExceedsMaxNumberOfNodes), Published now other nodes) in
        let none : Answer (OpenFailure V) × Phase = (None, Published now other nodes) in
        chosen-tells (now == life_of from)
        (cond (is_in node nodes || nat_lt (length nodes) (max_nodes_of other.settings)) joined full) none
        (λ same. chosen-tells (is_in node nodes || nat_lt (length nodes) (max_nodes_of other.settings)) joined full
        (λ room. (
          other,
          refl,
          ap verdict ((stays-told from (Published now other nodes) since).1 agreed other (eqb-true now (life_of from) same) known refl)
              ∙ met,
        )) (λ off. tt)) (λ off. low)

    found-so : (call : Call) (agreed : Agreement) → agreed_in call.phase ≡ Some agreed → least ≤ life_of call.phase
        → (answer : Answer (OpenFailure V)) (after : Call)
        → OpensFound types pattern steps node verdict (life_of call.phase) agreed call answer after → Tells answer after.phase
    found-so call agreed known low answer after h =
        elim (by-result (verdict agreed)
        (λ met. Access types pattern steps node unopened.OutOfMemory
        (λ phase now found later. (found ≡ (registered {V = V} (life_of call.phase) node phase).0)
        × (later ≡ record now { phase = (registered {V = V} (life_of call.phase) node phase).1 })) call answer after)
        (λ unmet. Fails (unopened.Clause unmet) call answer after) h) [
          | inl w ↦ access-so Tells unopened.OutOfMemory
              (λ phase now found later. (found ≡ (registered {V = V} (life_of call.phase) node phase).0)
              × (later ≡ record now { phase = (registered {V = V} (life_of call.phase) node phase).1 }))
              (λ phase. tt) call answer after
              (λ phase accesses since it. subst (λ (given : Answer (OpenFailure V)). Tells given after.phase) (sym it.0)
              (subst (λ (end : Call). Tells (registered {V = V} (life_of call.phase) node phase).0 end.phase) (sym it.1)
              (registers-so call.phase agreed known w.1 phase since (later least call.phase phase low since)))) w.2
          | inr w ↦ fails-so Tells (unopened.Clause w.0) call answer after (agreed, known, w.1) w.2
        ]

    looks-so : (phase : Phase) (accesses : ℕ) → least ≤ life_of phase → (answer : Answer (OpenFailure V)) (after : Call)
        → OpenLooks types pattern steps node verdict phase (record { phase = phase; accesses = accesses }) answer after
        → Tells answer after.phase
    looks-so (Absent lives) accesses low answer after failed =
        fails-so Tells unopened.DoesNotExist (record { phase = Absent lives; accesses = accesses }) answer after tt failed
    looks-so (BeingMade life by) accesses low answer after failed =
        fails-so Tells unopened.HangsInCreation (record { phase = BeingMade life by; accesses = accesses }) answer after tt failed
    looks-so (Published life agreed nodes) accesses low answer after h =
        found-so (record { phase = Published life agreed nodes; accesses = accesses }) agreed refl low answer after h
    looks-so (Emptied life agreed by) accesses low answer after h =
        found-so (record { phase = Emptied life agreed by; accesses = accesses }) agreed refl low answer after h

    opens-so : (call : Call) (answer : Answer (OpenFailure V)) (after : Call) → least ≤ life_of call.phase
        → Opens types pattern steps node verdict call answer after → Tells answer after.phase
    opens-so call answer after low h =
        rounds-so Tells (Access types pattern steps node unopened.OutOfMemory (OpenLooks types pattern steps node verdict))
        unopened.ServiceInCorruptedState (λ phase. tt)
        (λ one told then low_then round. access-so Tells unopened.OutOfMemory (OpenLooks types pattern steps node verdict) (λ phase. tt)
        one told then
        (λ phase accesses since looked. looks-so phase accesses (later least one.phase phase low_then since) told then looked) round) 5
        call answer after low h

    -- ---- openings or creations

    module _ (asked : Agreement) where
      abbrev TellsEither : Answer (OpenOrCreateFailure V) → Phase → Type 0
      TellsEither None phase = least ≤ life_of phase
      TellsEither (Some (Ok new)) phase = IsAgreedOn (λ agreed. verdict agreed ≡ Ok tt) phase ⊎ IsNewWith node asked least phase
      TellsEither (Some (Err failure)) phase = EitherNamesUnmet verdict failure phase

      abbrev TellsMade : Answer CreateFailure → Phase → Type 0
      TellsMade made phase = TellsEither (created {V = V} made) phase

      locks-so : (phase : Phase) (accesses : ℕ) → least ≤ life_of phase → (made : Answer CreateFailure) (after : Call)
          → Locks types pattern steps node asked phase (record { phase = phase; accesses = accesses }) made after
          → TellsMade made after.phase
      locks-so (Absent lives) accesses low made after (inl (told, came)) =
          subst (λ (it : Answer CreateFailure). TellsMade it after.phase) (sym told)
          (subst (λ (it : Call). TellsMade (Some (Ok true)) it.phase) (sym came) (inr (lives + 1, omega (arith, low), refl)))
      locks-so (Absent lives) accesses low made after (inr failed) =
          fails-so TellsMade uncreated.OutOfMemory (record { phase = Absent (lives + 1); accesses = accesses }) made after tt failed
      locks-so (BeingMade life by) accesses low made after failed =
          fails-so TellsMade uncreated.IsBeingCreatedByAnotherInstance (record { phase = BeingMade life by; accesses = accesses }) made
          after low failed
      locks-so (Published life standing nodes) accesses low made after failed =
          fails-so TellsMade uncreated.AlreadyExists (record { phase = Published life standing nodes; accesses = accesses }) made after low
          failed
      locks-so (Emptied life standing by) accesses low made after failed =
          fails-so TellsMade uncreated.AlreadyExists (record { phase = Emptied life standing by; accesses = accesses }) made after low
          failed

      opened-tells : (found : Answer (OpenFailure V)) (phase : Phase) → Tells found phase → TellsEither (opened {V = V} found) phase
      opened-tells None phase so = so
      opened-tells (Some (Ok new)) phase so = inl so
      opened-tells (Some (Err failure)) phase so = so

      opened-so : (phase : Phase) (accesses : ℕ) → least ≤ life_of phase → (answer : Answer (OpenOrCreateFailure V)) (after : Call)
          → (found : Answer (OpenFailure V))
          × OpenLooks types pattern steps node verdict phase (record { phase = phase; accesses = accesses }) found after
          × (answer ≡ opened found)
          → TellsEither answer after.phase
      opened-so phase accesses low answer after (found, looked, told) =
          subst (λ (it : Answer (OpenOrCreateFailure V)). TellsEither it after.phase) (sym told)
          (opened-tells found after.phase (looks-so phase accesses low found after looked))

      unfit-so : (phase : Phase) (answer : Answer (OpenOrCreateFailure V)) (after : Call) (failure : CreateFailure) (call : Call)
          → Fails (neither.Create failure) call answer after → TellsEither answer after.phase
      unfit-so phase answer after failure call failed = fails-so TellsEither (neither.Create failure) call answer after tt failed

      either-so : (phase : Phase) (accesses : ℕ) → least ≤ life_of phase → (answer : Answer (OpenOrCreateFailure V)) (after : Call)
          → EitherLooks types pattern steps node verdict asked phase (record { phase = phase; accesses = accesses }) answer after
          → TellsEither answer after.phase
      either-so (Absent lives) accesses low answer after h =
          elim (by-option (unfit asked.settings)
          ((made : Answer CreateFailure)
          × Access types pattern steps node uncreated.OutOfMemory (Locks types pattern steps node asked)
          (record { phase = Absent lives; accesses = accesses }) made after × (answer ≡ created made))
          (λ failure. Fails (neither.Create failure) (record { phase = Absent lives; accesses = accesses }) answer after) h) [
            | inl w ↦ subst (λ (it : Answer (OpenOrCreateFailure V)). TellsEither it after.phase) (sym w.1.2)
                (access-so TellsMade uncreated.OutOfMemory (Locks types pattern steps node asked) (λ phase. tt)
                (record { phase = Absent lives; accesses = accesses }) w.1.0 after
                (λ phase count since locked. locks-so phase count (later least (Absent lives) phase low since) w.1.0 after locked) w.1.1)
            | inr w ↦ unfit-so (Absent lives) answer after w.0 (record { phase = Absent lives; accesses = accesses }) w.2
          ]
      either-so (BeingMade life by) accesses low answer after h = opened-so (BeingMade life by) accesses low answer after h
      either-so (Published life standing nodes) accesses low answer after h =
          opened-so (Published life standing nodes) accesses low answer after h
      either-so (Emptied life standing by) accesses low answer after h = opened-so (Emptied life standing by) accesses low answer after h

      opens-or-creates-so : (call : Call) (answer : Answer (OpenOrCreateFailure V)) (after : Call) → least ≤ life_of call.phase
          → OpensOrCreates types pattern steps node verdict asked call answer after → TellsEither answer after.phase
      opens-or-creates-so call answer after low h =
          rounds-so TellsEither
          (Access types pattern steps node (neither.Open unopened.OutOfMemory) (EitherLooks types pattern steps node verdict asked))
          neither.SystemInFlux (λ phase. tt)
          (λ one told then low_then round. access-so TellsEither (neither.Open unopened.OutOfMemory)
          (EitherLooks types pattern steps node verdict asked) (λ phase. tt) one told then
          (λ phase accesses since looked. either-so phase accesses (later least one.phase phase low_then since) told then looked) round) 5
          call answer after low h

-- ---- the commands

module _ {T : Type 0} where
  abbrev tells_factory : Reply T → Bool
  tells_factory (reply.FactoryMade number) = true
  tells_factory other = false

  abbrev tells_refused : Reply T → Bool
  tells_refused (reply.Refused why) = true
  tells_refused other = false

  abbrev why_told : Reply T → Option Refusal
  why_told (reply.Refused why) = Some why
  why_told other = None

  -- What a negotiation comes to: where it makes a factory it is well, and what a refusal tells is so.
  abbrev Comes : (F : Type 0) → (F → Refusal) → (Phase → Type 0) → (F → Phase → Type 0) → Reply T → Phase → Type 0
  Comes F told Well Names answer phase =
      ((number : ℕ) → answer ≡ reply.FactoryMade number → Well phase)
      × ((why : Refusal) → answer ≡ reply.Refused why → (failure : F) × (why ≡ told failure) × Names failure phase)

  came-well : (F : Type 0) (told : F → Refusal) (Well : Phase → Type 0) (Names : F → Phase → Type 0) (answer : Reply T) (phase : Phase)
      → tells_refused answer ≡ false → Well phase → Comes F told Well Names answer phase
  came-well F told Well Names answer phase silent well =
      ((λ number made. well), (λ why refused. absurd (true≢false (sym (ap tells_refused refused) ∙ silent))))

  came-refused : (F : Type 0) (told : F → Refusal) (Well : Phase → Type 0) (Names : F → Phase → Type 0) (failure : F) (answer : Reply T)
      (phase : Phase) → answer ≡ reply.Refused (told failure) → Names failure phase → Comes F told Well Names answer phase
  came-refused F told Well Names failure answer phase is names = (
    (λ number made. absurd (true≢false (ap tells_factory (sym made ∙ is)))),
    (λ why refused. (failure, ap (λ (it : Reply T). unwrap_or (why_told it) why) (sym refused ∙ is), names)),
  )

  negotiates-so : {F : Type 0} (Calls : Call → Answer F → Call → Type 0) (told : F → Refusal) (lacking : Bool → F)
      (Well : Phase → Type 0) (Names : F → Phase → Type 0) (factory : Factory) (old : State T) (answer : Reply T) (new : State T)
      → ((is_new : Bool) (phase : Phase) → Names (lacking is_new) phase)
      → ((after : Call) (is_new : Bool)
      → Calls (record { phase = old.phases factory.pattern factory.name; accesses = 0 }) (Some (Ok is_new)) after → Well after.phase)
      → ((after : Call) (failure : F)
      → Calls (record { phase = old.phases factory.pattern factory.name; accesses = 0 }) (Some (Err failure)) after
      → Names failure after.phase)
      → Negotiates Calls told lacking factory old answer new
      → Comes F told Well Names answer (new.phases factory.pattern factory.name)
  negotiates-so {F} Calls told lacking Well Names factory old answer new lacks well names h =
      elim (by-bool (nat_le 1 factory.node && nat_le factory.node old.made.nodes) Called (IsSkipped old answer new) h) [
        | inl w ↦ called w.1
        | inr w ↦ (
          (λ number made. absurd (true≢false (ap tells_factory (sym made ∙ w.1.0)))),
          (λ why refused. absurd (true≢false (ap tells_refused (sym refused ∙ w.1.0)))),
        )
      ]
    where
      Called : Type 0
      Called =
          IsRefused (told (lacking false)) old answer new
          ⊎ ((found : Result Bool F) × (after : Call)
          × Calls (record { phase = old.phases factory.pattern factory.name; accesses = 0 }) (Some found) after
          × MatchResult found
          (λ is_new. Enters factory after.phase (told (lacking is_new)) old answer new)
          (λ failure. IsRefused (told failure) (with_phase factory.pattern factory.name after.phase old) answer new))

      called : Called → Comes F told Well Names answer (new.phases factory.pattern factory.name)
      called (inl refused) =
          came-refused F told Well Names (lacking false) answer (new.phases factory.pattern factory.name) refused.0
          (lacks false (new.phases factory.pattern factory.name))
      called (inr (Ok is_new, after, went, inl (made, came))) =
          came-well F told Well Names answer (new.phases factory.pattern factory.name) (ap tells_refused made)
          (subst Well (sym (ap (λ (it : State T). it.phases factory.pattern factory.name) came
          ∙ phase-there factory.pattern factory.name after.phase old)) (well after is_new went))
      called (inr (Ok is_new, after, went, inr refused)) =
          came-refused F told Well Names (lacking is_new) answer (new.phases factory.pattern factory.name) refused.0
          (lacks is_new (new.phases factory.pattern factory.name))
      called (inr (Err failure, after, went, refused)) =
          came-refused F told Well Names failure answer (new.phases factory.pattern factory.name) refused.0
          (subst (Names failure) (sym (ap (λ (it : State T). it.phases factory.pattern factory.name) refused.1
          ∙ phase-there factory.pattern factory.name after.phase old)) (names after failure went))

  module _ {V : Type 0} (types : MessageTypeDetails) (steps : List StepBefore) (factory : Factory)
      (verdict : Agreement → Result (Unit {0}) V) (old : State T) (answer : Reply T) (new : State T) where
    opening-so : (told : OpenFailure V → Refusal)
        → Negotiates (Opens types factory.pattern steps (Own factory.node) verdict) told (λ is_new. unopened.OutOfMemory) factory old answer
        new
        → Comes (OpenFailure V) told (IsAgreedOn (λ agreed. verdict agreed ≡ Ok tt)) (NamesUnmet verdict) answer
        (new.phases factory.pattern factory.name)
    opening-so told h =
        negotiates-so (Opens types factory.pattern steps (Own factory.node) verdict) told (λ is_new. unopened.OutOfMemory)
        (IsAgreedOn (λ agreed. verdict agreed ≡ Ok tt)) (NamesUnmet verdict) factory old answer new (λ is_new phase. tt)
        (λ after is_new went. opens-so types factory.pattern steps (Own factory.node) verdict 0
        (record { phase = old.phases factory.pattern factory.name; accesses = 0 }) (Some (Ok is_new)) after (omega arith) went)
        (λ after failure went. opens-so types factory.pattern steps (Own factory.node) verdict 0
        (record { phase = old.phases factory.pattern factory.name; accesses = 0 }) (Some (Err failure)) after (omega arith) went) h

    lacking-none : (is_new : Bool) (phase : Phase) → EitherNamesUnmet verdict (either_lacking is_new) phase
    lacking-none true phase = tt
    lacking-none false phase = tt

    either-opening-so : (asked : Agreement) (told : OpenOrCreateFailure V → Refusal)
        → Negotiates (OpensOrCreates types factory.pattern steps (Own factory.node) verdict asked) told either_lacking factory old answer
        new
        → Comes (OpenOrCreateFailure V) told
        (λ phase. IsAgreedOn (λ agreed. verdict agreed ≡ Ok tt) phase
        ⊎ IsNewWith (Own factory.node) asked (life_of (old.phases factory.pattern factory.name)) phase)
        (EitherNamesUnmet verdict) answer (new.phases factory.pattern factory.name)
    either-opening-so asked told h =
        negotiates-so (OpensOrCreates types factory.pattern steps (Own factory.node) verdict asked) told either_lacking
        (λ phase. IsAgreedOn (λ agreed. verdict agreed ≡ Ok tt) phase
        ⊎ IsNewWith (Own factory.node) asked (life_of (old.phases factory.pattern factory.name)) phase)
        (EitherNamesUnmet verdict) factory old answer new lacking-none
        (λ after is_new went. opens-or-creates-so types factory.pattern steps (Own factory.node) verdict
        (life_of (old.phases factory.pattern factory.name)) asked
        (record { phase = old.phases factory.pattern factory.name; accesses = 0 }) (Some (Ok is_new)) after (omega arith) went)
        (λ after failure went. opens-or-creates-so types factory.pattern steps (Own factory.node) verdict
        (life_of (old.phases factory.pattern factory.name)) asked
        (record { phase = old.phases factory.pattern factory.name; accesses = 0 }) (Some (Err failure)) after (omega arith) went) h

pub opened-meets-asked : {T : Type 0} (choices : Choices T) → OpenedMeetsAsked choices
opened-meets-asked choices types buffer node name named required steps old answer new h =
    opening-so types steps (factory_of node name named) (verdict types named required) old
    answer new (open_refusal named) h

pub either-meets-asked : {T : Type 0} (choices : Choices T) → EitherMeetsAsked choices
either-meets-asked choices types buffer node name named required steps old answer new h =
    either-opening-so types steps (factory_of node name named) (verdict types named required)
    old answer new (record { settings = settings_of types named; attributes = required.pairs })
    (either_refusal named) h
