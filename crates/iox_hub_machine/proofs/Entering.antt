-- What a call that creates or opens a service leaves of what the hub has in its phase.
use Rattle.std.proofs.Common.{◌≡◌, ℕ, ◌+◌, Bool, true, false, cond, ◌||◌, List, [], ◌∷◌, Some, Result, Ok, Err, refl, sym, ap, subst, ◌∙◌}
use Rattle.std.specs.List.{AllByRecursion}
use Rattle.iox_command.specs.NegotiateBase.DescribeBase.declared.message_type.MessageTypeDetails.{MessageTypeDetails}
use Rattle.iox_command.specs.NegotiateBase.DescribeBase.declared.pattern.MessagingPattern.{MessagingPattern}
use Rattle.iox_command.specs.NegotiateBase.declared.failure.CreateFailure.{CreateFailure}
use Rattle.iox_command.specs.NegotiateBase.declared.failure.OpenFailure.{OpenFailure}
use Rattle.iox_command.specs.NegotiateBase.declared.failure.OpenOrCreateFailure.{OpenOrCreateFailure}
use Rattle.iox_command.specs.NegotiateBase.declared.request.Opened.{Opened}
use Rattle.iox_command.specs.declared.step.ForeignStep.{ForeignStep}
use Rattle.iox_command.specs.declared.step.StepBefore.{StepBefore}
use Rattle.iox_domain_machine.proofs.Found.{never_true}
use Rattle.iox_hub_machine.proofs.Meantime.{seats_stay, service_stays}
use Rattle.iox_hub_machine.specs.Seats.{seats_in}
use Rattle.iox_machine.proofs.Calls.{HasRoom, creates-go, opens-go, opens-or-creates-go}
use Rattle.iox_machine.specs.Agreement.{Agreement}
use Rattle.iox_machine.specs.AgreementLaws.{life_of}
use Rattle.iox_machine.specs.Negotiation.{Call, Creates}
use Rattle.iox_machine.specs.Phase.{Node, Own, Phase, Absent, Published, acted, entered, is_in, same_node}
use Rattle.iox_negotiate_machine.proofs.Seats.{Entry, node-is}
use Rattle.iox_negotiate_machine.specs.CallLaws.{IsServiceIn}
use Rattle.iox_machine.proofs.Shorthands.{Opens, OpensOrCreates}

module _ (node other : Node) where
  still_there : (entry : Entry) (nodes : List Entry) (b : Bool) → same_node entry.0 node ≡ b
      → (is_in other nodes ≡ true → is_in other (entered node nodes) ≡ true) → is_in other (entry ∷ nodes) ≡ true
      → is_in other (cond b ((node, entry.1 + 1) ∷ nodes) (entry ∷ entered node nodes)) ≡ true
  still_there entry nodes true same later is =
      ap (λ (n : Node). same_node n other || is_in other nodes) (sym (node-is entry.0 node same)) ∙ is
  still_there entry nodes false same later is = first (same_node entry.0 other) is
    where
      first : (b : Bool) → (b || is_in other nodes) ≡ true → (b || is_in other (entered node nodes)) ≡ true
      first true is = refl
      first false is = later is

  -- who is in is so still where one comes in
  still_in : (nodes : List Entry) → is_in other nodes ≡ true → is_in other (entered node nodes) ≡ true
  still_in [] is = never_true is
  still_in (entry ∷ nodes) is =
      still_there entry nodes (same_node entry.0 node) refl (λ later. still_in nodes later) is

module _ (pattern : MessagingPattern) (name taken : List ℕ) (before : Phase) where
  -- A phase has what the hub has in the one before: each node of the hub is in with as many factories, and what one opened is of the same
  -- life.
  pub record KeepsHeld (phase : Phase) : Type 0 where
    pub seats : (node : ℕ) → seats_in node phase ≡ seats_in node before
    pub services : (node : ℕ) (opened : Opened) → IsServiceIn node pattern name before taken opened
        → (life_of phase ≡ life_of before) × IsServiceIn node pattern name phase taken opened

  -- A node got a factory of the service of a phase that has what the hub has in the one before.
  pub record IsEntered (node : ℕ) (phase : Phase) : Type 0 where
    pub life : ℕ
    pub agreed : Agreement
    pub nodes : List (Node × ℕ)
    pub had : KeepsHeld (Published life agreed nodes)
    pub is : phase ≡ Published life agreed (entered (Own node) nodes)

  -- what a node of the hub opened is of the same life where one comes in
  pub entered_services : (node : ℕ) (phase : Phase) → IsEntered node phase → (other : ℕ) (opened : Opened)
      → IsServiceIn other pattern name before taken opened
      → (life_of phase ≡ life_of before) × IsServiceIn other pattern name phase taken opened
  entered_services node phase it other opened is =
      subst (λ (now : Phase). (life_of now ≡ life_of before) × IsServiceIn other pattern name now taken opened) (sym it.is)
      (let was = it.had.services other opened is in
      (was.0, (still_in (Own node) (Own other) it.nodes was.1.0, was.1.1, was.1.2)))

  pub keeps_itself : KeepsHeld before
  keeps_itself = record { seats = λ node. refl; services = λ node opened is. (refl, is) }

  -- a life that begins and ends
  lives_on : (lives : ℕ) → KeepsHeld (Absent lives) → KeepsHeld (Absent (lives + 1))
  lives_on lives held = record { seats = held.seats; services = λ node opened is. absurd (held.services node opened is).1 }

  -- a service that is new has nodes none of which was in before
  is_new : (node : ℕ) (agreed : Agreement) (lives : ℕ) → KeepsHeld (Absent lives)
      → IsEntered node (Published (lives + 1) agreed ((Own node, 1) ∷ []))
  is_new node agreed lives held = record {
    life = lives + 1;
    agreed = agreed;
    nodes = [];
    had = record { seats = held.seats; services = λ other opened is. absurd (held.services other opened is).1 };
    is = refl;
  }

  comes_in : (node life : ℕ) (agreed : Agreement) (nodes : List (Node × ℕ)) → HasRoom (Own node) agreed nodes
      → KeepsHeld (Published life agreed nodes) → IsEntered node (Published life agreed (entered (Own node) nodes))
  comes_in node life agreed nodes room held = record { life = life; agreed = agreed; nodes = nodes; had = held; is = refl }

  module _ (types : MessageTypeDetails) (steps : List StepBefore) (node : ℕ) where
    step_keeps : (one : ForeignStep) (phase : Phase) → KeepsHeld phase → KeepsHeld (acted types pattern phase one)
    step_keeps one phase held = record {
      seats = λ other. seats_stay types pattern other phase (one ∷ []) ∙ held.seats other;
      services = λ other opened is.
          let was = held.services other opened is in
          let now = service_stays types pattern other name taken opened phase (one ∷ []) was.1 in
          (now.0 ∙ was.0, now.1);
    }

    steps_keep : (some : List StepBefore)
        → AllByRecursion (λ (one : StepBefore). (phase : Phase) → KeepsHeld phase → KeepsHeld (acted types pattern phase one.step)) some
    steps_keep [] = tt
    steps_keep (one ∷ some) = (step_keeps one.step, steps_keep some)

    -- the call as it begins
    abbrev begun : Call
    begun = record { phase = before; accesses = 0 }

    module _ {V : Type 0} (verdict : Agreement → Result (Unit {0}) V) (after : Call) where
      -- where nothing is opened the hub has what it had
      pub unopened_keeps : (why : OpenFailure V) → Opens types pattern steps (Own node) verdict begun (Some (Err why)) after
          → KeepsHeld after.phase
      unopened_keeps why opens =
          opens-go types pattern steps (Own node) KeepsHeld (IsEntered node) (steps_keep steps) verdict (comes_in node) begun
          (Some (Err why)) after keeps_itself opens

      -- who opens a service is in
      pub opened_enters : (fresh : Bool) → Opens types pattern steps (Own node) verdict begun (Some (Ok fresh)) after
          → IsEntered node after.phase
      opened_enters fresh opens =
          opens-go types pattern steps (Own node) KeepsHeld (IsEntered node) (steps_keep steps) verdict (comes_in node) begun
          (Some (Ok fresh)) after keeps_itself opens

      module _ (agreed : Agreement) where
        -- so it is where nothing is opened nor created
        pub neither_keeps : (why : OpenOrCreateFailure V)
            → OpensOrCreates types pattern steps (Own node) verdict agreed begun (Some (Err why)) after → KeepsHeld after.phase
        neither_keeps why opens =
            opens-or-creates-go types pattern steps (Own node) KeepsHeld (IsEntered node) (steps_keep steps) verdict (comes_in node)
            agreed lives_on (is_new node agreed) begun (Some (Err why)) after keeps_itself opens

        -- who opens or creates a service is in
        pub either_enters : (fresh : Bool)
            → OpensOrCreates types pattern steps (Own node) verdict agreed begun (Some (Ok fresh)) after → IsEntered node after.phase
        either_enters fresh opens =
            opens-or-creates-go types pattern steps (Own node) KeepsHeld (IsEntered node) (steps_keep steps) verdict (comes_in node)
            agreed lives_on (is_new node agreed) begun (Some (Ok fresh)) after keeps_itself opens

    module _ (agreed : Agreement) (after : Call) where
      -- so it is where nothing is created
      pub uncreated_keeps : (why : CreateFailure) → Creates types pattern steps (Own node) agreed begun (Some (Err why)) after
          → KeepsHeld after.phase
      uncreated_keeps why creates =
          creates-go types pattern steps (Own node) KeepsHeld (IsEntered node) (steps_keep steps) agreed lives_on (is_new node agreed) begun
          (Some (Err why)) after keeps_itself creates

      -- who creates a service is in
      pub created_enters : (fresh : Bool) → Creates types pattern steps (Own node) agreed begun (Some (Ok fresh)) after
          → IsEntered node after.phase
      created_enters fresh creates =
          creates-go types pattern steps (Own node) KeepsHeld (IsEntered node) (steps_keep steps) agreed lives_on (is_new node agreed) begun
          (Some (Ok fresh)) after keeps_itself creates
