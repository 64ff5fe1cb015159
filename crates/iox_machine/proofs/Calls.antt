-- What a call that creates or opens a service makes of its phase.
use Rattle.std.proofs.Common.{◌≡◌, ◌⊎◌, ◌+◌, ℕ, zero, suc, Bool, true, false, cond, ◌&&◌, ◌||◌, List, [], ◌∷◌, ◌++◌, length, take, map}
use Rattle.std.proofs.Common.{None, Some, Result, Ok, Err, refl, sym, subst, inl, inr}
use Rattle.std.specs.List.{AllByRecursion}
use Rattle.std.specs.Prelude.{◌==◌, nat_le, nat_lt, filter, fold, MatchResult}
use Rattle.iox_machine.specs.Agreement.{Agreement, unfit, verdict}
use Rattle.iox_machine.specs.Asked.{settings_of}
use Rattle.iox_machine.specs.Factories.{Negotiates, Enters, CreatesService, OpensService, OpensOrCreatesService, with_open}
use Rattle.iox_machine.specs.Negotiation.{Call, Answer, Fails, Rounds, Access, Locks, CreateLooks, Creates, OpensFound, OpenLooks}
use Rattle.iox_machine.specs.Negotiation.{EitherLooks, registered, created}
use Rattle.iox_machine.specs.Phase.{Node, Own, Phase, Absent, BeingMade, Published, Emptied, is_in, entered, acted}
use Rattle.iox_machine.proofs.Shorthands.{IsSkipped, IsRefused, closed_by, either_lacking, Opens, OpensOrCreates, opened}
use Rattle.iox_machine.specs.Refusals.{open_refusal, either_refusal, create_refusal}
use Rattle.iox_machine.specs.State.{State, Factory, counted, with_phase}
use Rattle.iox_machine.proofs.Cases.{by-bool, by-option, by-result}
use Rattle.iox_machine.proofs.Lists.{all-filtered, all-taken}
use Rattle.iox_machine.proofs.Unfit.{by-fitness}
use Rattle.iox_command.specs.NegotiateBase.DescribeBase.Attributes.{Required}
use Rattle.iox_command.specs.NegotiateBase.DescribeBase.declared.attribute.Attribute.{Attribute}
use Rattle.iox_command.specs.NegotiateBase.DescribeBase.declared.message_type.MessageTypeDetails.{MessageTypeDetails}
use Rattle.iox_command.specs.NegotiateBase.DescribeBase.declared.pattern.MessagingPattern.{MessagingPattern}
use Rattle.iox_command.specs.NegotiateBase.DescribeSettings.Agreement.{max_nodes_of}
use Rattle.iox_command.specs.NegotiateBase.declared.failure.CreateFailure.{CreateFailure}
use Rattle.iox_command.specs.NegotiateBase.declared.failure.CreateFailure.TheVariants as uncreated
use Rattle.iox_command.specs.NegotiateBase.declared.failure.OpenFailure.{OpenFailure}
use Rattle.iox_command.specs.NegotiateBase.declared.failure.OpenFailure.TheVariants as unopened
use Rattle.iox_command.specs.NegotiateBase.declared.failure.OpenOrCreateFailure.{OpenOrCreateFailure}
use Rattle.iox_command.specs.NegotiateBase.declared.failure.OpenOrCreateFailure.TheVariants as neither
use Rattle.iox_command.specs.declared.refusal.Refusal.{Refusal}
use Rattle.iox_command.specs.declared.reply.Reply.{Reply}
use Rattle.iox_command.specs.declared.reply.Reply.TheVariants as reply
use Rattle.iox_command.specs.declared.service.ServiceOptions.{ServiceOptions}
use Rattle.iox_command.specs.declared.step.ForeignStep.{ForeignStep}
use Rattle.iox_command.specs.declared.step.StepBefore.{StepBefore}

-- A node is in, or there is room for it.
abbrev pub HasRoom : Node → Agreement → List (Node × ℕ) → Type 0
HasRoom node agreed nodes = (is_in node nodes || nat_lt (length nodes) (max_nodes_of agreed.settings)) ≡ true

pub fold-all : {A X : Type 0} (P : A → Type 0) (f : A → X → A) (xs : List X) → AllByRecursion (λ (x : X). (a : A) → P a → P (f a x)) xs
    → (a : A) → P a → P (fold f a xs)
fold-all P f [] all a p = p
fold-all P f (x ∷ xs) all a p = fold-all P f xs all.1 (f a x) (all.0 a p)

all-mapped : {X Y : Type 0} (P : Y → Type 0) (g : X → Y) (xs : List X) → AllByRecursion (λ x. P (g x)) xs → AllByRecursion P (map g xs)
all-mapped P g [] all = tt
all-mapped P g (x ∷ xs) all = (all.0, all-mapped P g xs all.1)

module _ (types : MessageTypeDetails) (pattern : MessagingPattern) (steps : List StepBefore) (node : Node) (R Q : Phase → Type 0)
    (acts : AllByRecursion (λ (before : StepBefore). (phase : Phase) → R phase → R (acted types pattern phase before.step)) steps) where
  -- Where a call comes to an answer that is well the one holds of the phase, else the other.
  abbrev pub Ends : {F : Type 0} → Answer F → Phase → Type 0
  Ends None phase = R phase
  Ends (Some (Ok new)) phase = Q phase
  Ends (Some (Err failure)) phase = R phase

  abbrev pub Goes : {F : Type 0} → (Call → Answer F → Call → Type 0) → Type 0
  Goes {F} Round = (call : Call) (answer : Answer F) (after : Call) → R call.phase → Round call answer after
      → Ends {F = F} answer after.phase

  fails : {F : Type 0} (failure : F) → Goes {F = F} (Fails failure)
  fails {F} failure call answer after r (told, came) =
      subst (λ (it : Answer F). Ends {F = F} it after.phase) (sym told) (subst (λ (it : Call). R it.phase) (sym came) r)

  meanwhile : (test : StepBefore → Bool)
      → AllByRecursion (λ (step : ForeignStep). (phase : Phase) → R phase → R (acted types pattern phase step))
      (map (λ (before : StepBefore). before.step) (filter test steps))
  meanwhile test =
      all-mapped (λ (step : ForeignStep). (phase : Phase) → R phase → R (acted types pattern phase step))
      (λ (before : StepBefore). before.step) (filter test steps)
      (all-filtered (λ (before : StepBefore). (phase : Phase) → R phase → R (acted types pattern phase before.step)) test steps acts)

  accesses-go : {F : Type 0} (lacking : F) (Found : Phase → Call → Answer F → Call → Type 0)
      → ((phase : Phase) (accesses : ℕ) (answer : Answer F) (after : Call) → R phase
      → Found phase (record { phase = phase; accesses = accesses }) answer after → Ends {F = F} answer after.phase)
      → Goes {F = F} (Access types pattern steps node lacking Found)
  accesses-go {F} lacking Found on call answer after r (inl found) =
      on (fold (acted types pattern) call.phase
      (map (λ (before : StepBefore). before.step) (filter (λ (before : StepBefore). before.access == call.accesses + 1) steps)))
      (call.accesses + 1) answer after
      (fold-all R (acted types pattern)
      (map (λ (before : StepBefore). before.step) (filter (λ (before : StepBefore). before.access == call.accesses + 1) steps))
      (meanwhile (λ (before : StepBefore). before.access == call.accesses + 1)) call.phase r)
      found
  accesses-go {F} lacking Found on call answer after r (inr (done, failed)) =
      let made : List ForeignStep = take done
      (map (λ (before : StepBefore). before.step) (filter (λ (before : StepBefore). before.access == call.accesses + 1) steps)) in
      fails {F = F} lacking (record call { phase = fold (acted types pattern) call.phase made }) answer after
      (fold-all R (acted types pattern) made
      (all-taken (λ (step : ForeignStep). (phase : Phase) → R phase → R (acted types pattern phase step)) done
      (map (λ (before : StepBefore). before.step) (filter (λ (before : StepBefore). before.access == call.accesses + 1) steps))
      (meanwhile (λ (before : StepBefore). before.access == call.accesses + 1))) call.phase r)
      failed

  rounds-go : {F : Type 0} (Round : Call → Answer F → Call → Type 0) (exhausted : F) → Goes {F = F} Round → (count : ℕ)
      → Goes {F = F} (Rounds Round exhausted count)
  rounds-go {F} Round exhausted goes zero call answer after r failed = fails {F = F} exhausted call answer after r failed
  rounds-go {F} Round exhausted goes (suc count) call answer after r (mid, None, went, more) =
      rounds-go {F = F} Round exhausted goes count mid answer after (goes call None mid r went) more
  rounds-go {F} Round exhausted goes (suc count) call answer after r (mid, Some found, went, (told, came)) =
      subst (λ (it : Answer F). Ends {F = F} it after.phase) (sym told)
      (subst (λ (it : Call). Ends {F = F} (Some found) it.phase) (sym came) (goes call (Some found) mid r went))

  module _ (agreed : Agreement) (lost : (lives : ℕ) → R (Absent lives) → R (Absent (lives + 1)))
      (won : (lives : ℕ) → R (Absent lives) → Q (Published (lives + 1) agreed ((node, 1) ∷ []))) where
    locks-go : (phase : Phase) (accesses : ℕ) (answer : Answer CreateFailure) (after : Call) → R phase
        → Locks types pattern steps node agreed phase (record { phase = phase; accesses = accesses }) answer after
        → Ends {F = CreateFailure} answer after.phase
    locks-go (Absent lives) accesses answer after r (inl (told, came)) =
        subst (λ (it : Answer CreateFailure). Ends {F = CreateFailure} it after.phase) (sym told)
        (subst (λ (it : Call). Q it.phase) (sym came) (won lives r))
    locks-go (Absent lives) accesses answer after r (inr failed) =
        fails {F = CreateFailure} uncreated.OutOfMemory (record { phase = Absent (lives + 1); accesses = accesses }) answer after
        (lost lives r) failed
    locks-go (BeingMade life by) accesses answer after r failed =
        fails {F = CreateFailure} uncreated.IsBeingCreatedByAnotherInstance (record { phase = BeingMade life by; accesses = accesses })
        answer after r failed
    locks-go (Published life standing nodes) accesses answer after r failed =
        fails {F = CreateFailure} uncreated.AlreadyExists
        (record { phase = Published life standing nodes; accesses = accesses }) answer after
        r failed
    locks-go (Emptied life standing by) accesses answer after r failed =
        fails {F = CreateFailure} uncreated.AlreadyExists (record { phase = Emptied life standing by; accesses = accesses }) answer after
        r failed

    create-looks-go : (phase : Phase) (accesses : ℕ) (answer : Answer CreateFailure) (after : Call) → R phase
        → CreateLooks types pattern steps node agreed phase (record { phase = phase; accesses = accesses }) answer after
        → Ends {F = CreateFailure} answer after.phase
    create-looks-go (Absent lives) accesses answer after r h =
        accesses-go {F = CreateFailure} uncreated.OutOfMemory (Locks types pattern steps node agreed) locks-go
        (record { phase = Absent lives; accesses = accesses }) answer after r h
    create-looks-go (BeingMade life by) accesses answer after r failed =
        fails {F = CreateFailure} uncreated.HangsInCreation
        (record { phase = BeingMade life by; accesses = accesses }) answer after r failed
    create-looks-go (Published life standing nodes) accesses answer after r failed =
        fails {F = CreateFailure} uncreated.AlreadyExists
        (record { phase = Published life standing nodes; accesses = accesses }) answer after
        r failed
    create-looks-go (Emptied life standing by) accesses answer after r failed =
        fails {F = CreateFailure} uncreated.AlreadyExists (record { phase = Emptied life standing by; accesses = accesses }) answer after
        r failed

    pub creates-go : Goes {F = CreateFailure} (Creates types pattern steps node agreed)
    creates-go call answer after r h =
        elim (by-option (unfit agreed.settings)
        (Access types pattern steps node uncreated.OutOfMemory (CreateLooks types pattern steps node agreed) call answer after)
        (λ failure. Fails failure call answer after) h) [
          | inl w ↦ accesses-go {F = CreateFailure} uncreated.OutOfMemory (CreateLooks types pattern steps node agreed) create-looks-go
              call answer after r w.1
          | inr w ↦ fails {F = CreateFailure} w.0 call answer after r w.2
        ]

  module _ {V : Type 0} (verdict : Agreement → Result (Unit {0}) V)
      (entering : (life : ℕ) (agreed : Agreement) (nodes : List (Node × ℕ)) → HasRoom node agreed nodes → R (Published life agreed nodes)
      → Q (Published life agreed (entered node nodes))) where
    registered-ends : (life : ℕ) (phase : Phase) → R phase
        → Ends {F = OpenFailure V} (registered {V = V} life node phase).0 (registered {V = V} life node phase).1
    registered-ends life (Absent lives) r = r
    registered-ends life (BeingMade now by) r = r
    registered-ends life (Published now agreed nodes) r =
        found (now == life) (is_in node nodes || nat_lt (length nodes) (max_nodes_of agreed.settings)) (Some (Ok false), joined)
        (Some (Err unopened.ExceedsMaxNumberOfNodes), same) (None, same) (λ room. entering now agreed nodes room r) r r
      where
        joined : Phase
        joined = Published now agreed (entered node nodes)

        same : Phase
        same = Published now agreed nodes

        found : (b c : Bool) (one two three : Answer (OpenFailure V) × Phase) → (c ≡ true → Ends {F = OpenFailure V} one.0 one.1)
            → Ends {F = OpenFailure V} two.0 two.1 → Ends {F = OpenFailure V} three.0 three.1
            → Ends {F = OpenFailure V} (cond b (cond c one two) three).0 (cond b (cond c one two) three).1
        found true true one two three p q r = p refl
        found true false one two three p q r = q
        found false c one two three p q r = r
    registered-ends life (Emptied now agreed by) r = found (now == life)
      where
        found : (b : Bool) → Ends {F = OpenFailure V} (cond b (Some (Err unopened.IsMarkedForDestruction)) None) (Emptied now agreed by)
        found true = r
        found false = r

    opens-found-go : (life : ℕ) (agreed : Agreement) → Goes {F = OpenFailure V}
        (OpensFound types pattern steps node verdict life agreed)
    opens-found-go life agreed call answer after r h =
        elim (by-result (verdict agreed)
        (λ met. Access types pattern steps node unopened.OutOfMemory
        (λ phase now found later. (found ≡ (registered {V = V} life node phase).0) ×
        (later ≡ record now { phase = (registered {V = V} life node phase).1 })) call answer after)
        (λ unmet. Fails (unopened.Clause unmet) call answer after) h) [
          | inl w ↦ accesses-go {F = OpenFailure V} unopened.OutOfMemory
              (λ phase now found later. (found ≡ (registered {V = V} life node phase).0) ×
              (later ≡ record now { phase = (registered {V = V} life node phase).1 }))
              (λ phase accesses found later good it.
              subst (λ (given : Answer (OpenFailure V)). Ends {F = OpenFailure V} given later.phase) (sym it.0)
              (subst (λ (end : Call). Ends {F = OpenFailure V} (registered {V = V} life node phase).0 end.phase) (sym it.1)
              (registered-ends life phase good)))
              call answer after r w.2
          | inr w ↦ fails {F = OpenFailure V} (unopened.Clause w.0) call answer after r w.2
        ]

    open-looks-go : (phase : Phase) (call : Call) (answer : Answer (OpenFailure V)) (after : Call) → R call.phase
        → OpenLooks types pattern steps node verdict phase call answer after → Ends {F = OpenFailure V} answer after.phase
    open-looks-go (Absent lives) call answer after r failed = fails {F = OpenFailure V} unopened.DoesNotExist call answer after r failed
    open-looks-go (BeingMade life by) call answer after r failed =
        fails {F = OpenFailure V} unopened.HangsInCreation call answer after r failed
    open-looks-go (Published life agreed nodes) call answer after r h = opens-found-go life agreed call answer after r h
    open-looks-go (Emptied life agreed by) call answer after r h = opens-found-go life agreed call answer after r h

    pub opens-go : Goes {F = OpenFailure V} (Opens types pattern steps node verdict)
    opens-go =
        rounds-go {F = OpenFailure V}
        (Access types pattern steps node unopened.OutOfMemory (OpenLooks types pattern steps node verdict)) unopened.ServiceInCorruptedState
        (accesses-go {F = OpenFailure V} unopened.OutOfMemory (OpenLooks types pattern steps node verdict)
        (λ phase accesses answer after r h. open-looks-go phase (record { phase = phase; accesses = accesses }) answer after r h)) 5

    created-ends : (made : Answer CreateFailure) (phase : Phase) → Ends {F = CreateFailure} made phase
        → Ends {F = OpenOrCreateFailure V} (created {V = V} made) phase
    created-ends None phase e = e
    created-ends (Some (Ok new)) phase e = e
    created-ends (Some (Err uncreated.IsBeingCreatedByAnotherInstance)) phase e = e
    created-ends (Some (Err uncreated.AlreadyExists)) phase e = e
    created-ends (Some (Err failure)) phase e = e

    opened-ends : (found : Answer (OpenFailure V)) (phase : Phase) → Ends {F = OpenFailure V} found phase
        → Ends {F = OpenOrCreateFailure V} (opened {V = V} found) phase
    opened-ends None phase e = e
    opened-ends (Some (Ok new)) phase e = e
    opened-ends (Some (Err failure)) phase e = e

    module _ (agreed : Agreement) (lost : (lives : ℕ) → R (Absent lives) → R (Absent (lives + 1)))
        (won : (lives : ℕ) → R (Absent lives) → Q (Published (lives + 1) agreed ((node, 1) ∷ []))) where
      opened-so : (phase : Phase) (call : Call) (answer : Answer (OpenOrCreateFailure V)) (after : Call) → R call.phase
          → (found : Answer (OpenFailure V)) × OpenLooks types pattern steps node verdict phase call found after × (answer ≡ opened found)
          → Ends {F = OpenOrCreateFailure V} answer after.phase
      opened-so phase call answer after r (found, looked, told) =
          subst (λ (it : Answer (OpenOrCreateFailure V)). Ends {F = OpenOrCreateFailure V} it after.phase) (sym told)
          (opened-ends found after.phase (open-looks-go phase call found after r looked))

      either-looks-go : (phase : Phase) (accesses : ℕ) (answer : Answer (OpenOrCreateFailure V)) (after : Call) → R phase
          → EitherLooks types pattern steps node verdict agreed phase (record { phase = phase; accesses = accesses }) answer after
          → Ends {F = OpenOrCreateFailure V} answer after.phase
      either-looks-go (Absent lives) accesses answer after r h =
          elim (by-option (unfit agreed.settings)
          ((made : Answer CreateFailure)
          × Access types pattern steps node uncreated.OutOfMemory (Locks types pattern steps node agreed)
          (record { phase = Absent lives; accesses = accesses }) made after × (answer ≡ created made))
          (λ failure. Fails (neither.Create failure) (record { phase = Absent lives; accesses = accesses }) answer after) h) [
            | inl w ↦ subst (λ (it : Answer (OpenOrCreateFailure V)). Ends {F = OpenOrCreateFailure V} it after.phase) (sym w.1.2)
                (created-ends w.1.0 after.phase
                (accesses-go {F = CreateFailure} uncreated.OutOfMemory (Locks types pattern steps node agreed)
                (locks-go agreed lost won) (record { phase = Absent lives; accesses = accesses }) w.1.0 after r w.1.1))
            | inr w ↦ fails {F = OpenOrCreateFailure V} (neither.Create w.0) (record { phase = Absent lives; accesses = accesses })
                answer after r w.2
          ]
      either-looks-go (BeingMade life by) accesses answer after r h =
          opened-so (BeingMade life by) (record { phase = BeingMade life by; accesses = accesses }) answer after r h
      either-looks-go (Published life standing nodes) accesses answer after r h =
          opened-so (Published life standing nodes) (record { phase = Published life standing nodes; accesses = accesses }) answer after r h
      either-looks-go (Emptied life standing by) accesses answer after r h =
          opened-so (Emptied life standing by) (record { phase = Emptied life standing by; accesses = accesses }) answer after r h

      pub opens-or-creates-go : Goes {F = OpenOrCreateFailure V} (OpensOrCreates types pattern steps node verdict agreed)
      opens-or-creates-go =
          rounds-go {F = OpenOrCreateFailure V}
          (Access types pattern steps node (neither.Open unopened.OutOfMemory) (EitherLooks types pattern steps node verdict agreed))
          neither.SystemInFlux
          (accesses-go {F = OpenOrCreateFailure V} (neither.Open unopened.OutOfMemory)
          (EitherLooks types pattern steps node verdict agreed) either-looks-go) 5

-- ---- the commands

module _ {T : Type 0} (types : MessageTypeDetails) (steps : List StepBefore) (factory : Factory) (R Q : Phase → Type 0)
    (acts : AllByRecursion (λ (before : StepBefore). (phase : Phase) → R phase → R (acted types factory.pattern phase before.step)) steps)
    (old : State T) (answer : Reply T) (new : State T) (ready : R (old.phases factory.pattern factory.name)) where
  -- What a negotiation comes to: it is skipped or refused, with another phase of the service at most; or its node has a factory.
  abbrev pub IsSettled : Type 0
  IsSettled =
      IsSkipped old answer new
      ⊎ (((why : Refusal) × IsRefused why old answer new)
      ⊎ (((phase : Phase) × (why : Refusal) × R phase × IsRefused why (with_phase factory.pattern factory.name phase old) answer new)
      ⊎ (((phase : Phase) × (why : Refusal) × Q phase
      × IsRefused why (with_phase factory.pattern factory.name (closed_by factory.node phase) old) answer new)
      ⊎ ((phase : Phase) × Q phase × (answer ≡ reply.FactoryMade (old.made.factories + 1))
      × (new ≡ record (with_phase factory.pattern factory.name phase old) {
        made = counted answer old.made;
        factories = old.factories ++ (old.made.factories + 1, factory) ∷ [];
        services = with_open factory.name phase old.services;
      })))))

  abbrev Called : {F : Type 0} → (Call → Answer F → Call → Type 0) → (F → Refusal) → (Bool → F) → Type 0
  Called {F} Calls told lacking =
      IsRefused (told (lacking false)) old answer new
      ⊎ ((found : Result Bool F) × (after : Call)
      × Calls (record { phase = old.phases factory.pattern factory.name; accesses = 0 }) (Some found) after
      × MatchResult found
      (λ is_new. Enters factory after.phase (told (lacking is_new)) old answer new)
      (λ failure. IsRefused (told failure) (with_phase factory.pattern factory.name after.phase old) answer new))

  settles : {F : Type 0} (Calls : Call → Answer F → Call → Type 0) (told : F → Refusal) (lacking : Bool → F)
      → Goes types factory.pattern steps (Own factory.node) R Q acts {F = F} Calls → Negotiates Calls told lacking factory old answer new
      → IsSettled
  settles {F} Calls told lacking goes h =
      elim (by-bool (nat_le 1 factory.node && nat_le factory.node old.made.nodes) (Called {F = F} Calls told lacking)
      (IsSkipped old answer new) h) [
        | inl w ↦ called w.1
        | inr w ↦ inl w.1
      ]
    where
      enters : (why : Refusal) (phase : Phase) → Q phase → Enters factory phase why old answer new → IsSettled
      enters why phase q (inl (made, came)) = inr (inr (inr (inr (phase, q, made, came))))
      enters why phase q (inr refused) = inr (inr (inr (inl (phase, why, q, refused))))

      called : Called {F = F} Calls told lacking → IsSettled
      called (inl refused) = inr (inl (told (lacking false), refused))
      called (inr (Ok is_new, after, went, entered_so)) =
          enters (told (lacking is_new)) after.phase
          (goes (record { phase = old.phases factory.pattern factory.name; accesses = 0 }) (Some (Ok is_new)) after ready went) entered_so
      called (inr (Err failure, after, went, refused)) =
          inr (inr (inl (
            after.phase,
            told failure,
            goes (record { phase = old.phases factory.pattern factory.name; accesses = 0 }) (Some (Err failure)) after ready went,
            refused,
          )))

  pub create-settles : (named : ServiceOptions) (attributes : List Attribute)
      → ((lives : ℕ) → R (Absent lives) → R (Absent (lives + 1)))
      → ((lives : ℕ) → R (Absent lives)
      → Q (Published (lives + 1) (record { settings = settings_of types named; attributes = attributes }) ((Own factory.node, 1) ∷ [])))
      → CreatesService types steps factory named attributes old answer new → IsSettled
  create-settles named attributes lost won h =
      elim (by-fitness types steps factory named attributes old answer new h) [
        | inl negotiates ↦ settles {F = CreateFailure}
            (Creates types factory.pattern steps (Own factory.node)
            (record { settings = settings_of types named; attributes = attributes }))
            (create_refusal named) (λ is_new. uncreated.OutOfMemory)
            (creates-go types factory.pattern steps (Own factory.node) R Q acts
            (record { settings = settings_of types named; attributes = attributes }) lost won) negotiates
        | inr (inl skipped) ↦ inl skipped
        | inr (inr refused) ↦ inr (inl refused)
      ]

  abbrev Entering : Type 0
  Entering = (life : ℕ) (agreed : Agreement) (nodes : List (Node × ℕ)) → HasRoom (Own factory.node) agreed nodes
      → R (Published life agreed nodes)
      → Q (Published life agreed (entered (Own factory.node) nodes))

  pub open-settles : (named : ServiceOptions) (required : Required) → Entering
      → OpensService types steps factory named required old answer new → IsSettled
  open-settles named required entering h =
      settles (Opens types factory.pattern steps (Own factory.node) (verdict types named required))
      (open_refusal named) (λ is_new. unopened.OutOfMemory)
      (opens-go types factory.pattern steps (Own factory.node) R Q acts (verdict types named required) entering) h

  pub either-settles : (named : ServiceOptions) (required : Required) → Entering
      → ((lives : ℕ) → R (Absent lives) → R (Absent (lives + 1)))
      → ((lives : ℕ) → R (Absent lives)
      → Q (Published (lives + 1) (record { settings = settings_of types named; attributes = required.pairs }) ((Own factory.node, 1) ∷ [])))
      → OpensOrCreatesService types steps factory named required old answer new → IsSettled
  either-settles named required entering lost won h =
      settles (OpensOrCreates types factory.pattern steps (Own factory.node) (verdict types named required)
      (record { settings = settings_of types named; attributes = required.pairs }))
      (either_refusal named) either_lacking
      (opens-or-creates-go types factory.pattern steps (Own factory.node) R Q acts (verdict types named required) entering
      (record { settings = settings_of types named; attributes = required.pairs }) lost won) h
