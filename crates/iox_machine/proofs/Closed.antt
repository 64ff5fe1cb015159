-- When a factory is closed, and that a name of which the hub has no factory is free, or of other processes.
use Rattle.std.proofs.Common.{◌≡◌, ◌≤◌, ◌⊎◌, ◌+◌, ℕ, Bool, true, false, cond, not, ◌&&◌, ◌||◌, List, [], ◌∷◌, length, Option, None}
use Rattle.std.proofs.Common.{Some, refl, sym, ap, subst, inl, inr, arith, ◌∙◌, true≢false}
use Rattle.std.proofs.lemmas.Bool.{eq-eqb, eqb-true, or_cases, or_left, or_parts, or_right}
use Rattle.std.specs.List.{AllByRecursion, list_any}
use Rattle.std.specs.Option.{option_map_or}
use Rattle.std.specs.Prelude.{⊤, ◌==◌, bytes_eq, filter, is_some, nat_lt, slice_get, MatchBool}
use Rattle.iox_machine.proofs.Agreed.{new-stands, runs-stand}
use Rattle.iox_machine.proofs.Cases.{both-true, by-bool, by-option, never-some, same-some}
use Rattle.iox_machine.proofs.Counts.{one_if}
use Rattle.iox_machine.proofs.Names.{and-true}
use Rattle.iox_machine.proofs.Phases.{Begins, chosen-phase, each-all, phases-move}
use Rattle.iox_machine.proofs.Shares.{Counts, Full, node-itself, share}
use Rattle.iox_machine.proofs.Shorthands.{IsRefused, IsSkipped, closed_by}
use Rattle.iox_machine.proofs.Standing.{tally}
use Rattle.iox_machine.proofs.Stands.{Stands}
use Rattle.iox_machine.proofs.Tables.{gone-removed}
use Rattle.iox_machine.proofs.Waiting.{any-one}
use Rattle.iox_machine.specs.Agreement.{Agreement, are_within_limits}
use Rattle.iox_machine.specs.AgreementLaws.{HasOne}
use Rattle.iox_machine.specs.Asked.{settings_of}
use Rattle.iox_machine.specs.Choices.{Choices}
use Rattle.iox_machine.specs.ClosedLaws.{ClosesUnlessUsed, HasPartsOf, IsFreeOrOfOthers, IsOfOthers, NamesBecomeFree}
use Rattle.iox_machine.specs.Closing.{is_used_by}
use Rattle.iox_machine.specs.IndependenceLaws.{is_factory_of}
use Rattle.iox_machine.specs.Message.{Loan, Sample}
use Rattle.iox_machine.specs.Phase.{Absent, BeingMade, Emptied, Foreign, Node, Own, Phase, Published, acted, entered, has_numbers, is_in}
use Rattle.iox_machine.specs.Phase.{left}
use Rattle.iox_machine.specs.Phase.{published_by, removed_by, same_node, same_pattern}
use Rattle.iox_machine.specs.Run.{Runs}
use Rattle.iox_machine.specs.Service.{Publisher, Service, Subscriber}
use Rattle.iox_machine.specs.State.{Factory, State, is_service_of, new_state, with_phase}
use Rattle.iox_machine.specs.Table.{at, removed}
use Rattle.iox_command.specs.NegotiateBase.DescribeBase.declared.message_type.MessageTypeDetails.{MessageTypeDetails}
use Rattle.iox_command.specs.NegotiateBase.DescribeBase.declared.pattern.MessagingPattern.{MessagingPattern}
use Rattle.iox_command.specs.NegotiateBase.DescribeSettings.Agreement.{max_nodes_of}
use Rattle.iox_command.specs.NegotiateBase.declared.errors.close.CloseError.TheVariants.{StillInUse}
use Rattle.iox_command.specs.Patterns.{pattern_of}
use Rattle.iox_command.specs.declared.command.Command.{Command}
use Rattle.iox_command.specs.declared.command.Command.TheVariants as command
use Rattle.iox_command.specs.declared.refusal.Refusal.TheVariants as refusal
use Rattle.iox_command.specs.declared.reply.Reply.{Reply}
use Rattle.iox_command.specs.declared.reply.Reply.TheVariants as reply
use Rattle.iox_command.specs.declared.service.ServiceOptions.{ServiceOptions}
use Rattle.iox_command.specs.declared.step.ForeignStep.{ForeignStep}
use Rattle.iox_command.specs.declared.step.ForeignStep.TheVariants as step
use Rattle.iox_command.specs.declared.step.StepBefore.{StepBefore}

-- ---- lists

pub one-any : {X : Type 0} (P : X → Type 0) (test : X → Bool) → ((x : X) → P x → test x ≡ true) → (xs : List X) → HasOne P xs
    → list_any test xs ≡ true
one-any P test on [] h = absurd h
one-any P test on (x ∷ xs) (inl p) = or_left (test x) (list_any test xs) (on x p)
one-any P test on (x ∷ xs) (inr h) = or_right (test x) (list_any test xs) (one-any P test on xs h)

found-some : {V : Type 0} (test : V → Bool) (o : Option V) → option_map_or test o false ≡ true
    → (v : V) × (o ≡ Some v) × (test v ≡ true)
found-some test None e = absurd (true≢false (sym e))
found-some test (Some v) e = (v, refl, e)

some-found : {V : Type 0} (test : V → Bool) (o : Option V) (v : V) → o ≡ Some v → test v ≡ true → option_map_or test o false ≡ true
some-found test o v is h = ap (λ (it : Option _). option_map_or test it false) is ∙ h

module _ {T : Type 0} (number : ℕ) (service : Service T) where
  abbrev opens_one : ℕ × Publisher T → Bool
  opens_one entry = entry.1.stands && entry.1.factory == number

  abbrev opens_other : ℕ × Subscriber → Bool
  opens_other entry = entry.1.stands && entry.1.factory == number

  abbrev lends : ℕ × Loan T → Bool
  lends entry = option_map_or (λ (one : Publisher T). one.factory == number) (at entry.1.publisher service.publishers) false

  abbrev holds : ℕ × Sample T → Bool
  holds entry = option_map_or (λ (one : Subscriber). one.factory == number) (at entry.1.subscriber service.subscribers) false

  abbrev IsOne : ℕ × Publisher T → Type 0
  IsOne entry = (entry.1.stands ≡ true) × (entry.1.factory ≡ number)

  abbrev IsOther : ℕ × Subscriber → Type 0
  IsOther entry = (entry.1.stands ≡ true) × (entry.1.factory ≡ number)

  abbrev Lends : ℕ × Loan T → Type 0
  Lends entry = (one : Publisher T) × (at entry.1.publisher service.publishers ≡ Some one) × (one.factory ≡ number)

  abbrev Holds : ℕ × Sample T → Type 0
  Holds entry = (one : Subscriber) × (at entry.1.subscriber service.subscribers ≡ Some one) × (one.factory ≡ number)

  used-parts : is_used_by number service ≡ true → HasPartsOf number service
  used-parts used =
      elim (or_cases (list_any opens_one service.publishers)
      (list_any opens_other service.subscribers || (list_any lends service.loans || list_any holds service.samples)) used) [
        | inl is ↦ inl (any-one IsOne opens_one (λ entry e.
            let both = both-true entry.1.stands (entry.1.factory == number) e in (both.0, eqb-true entry.1.factory number both.1))
            service.publishers is)
        | inr more ↦ elim (or_cases (list_any opens_other service.subscribers)
            (list_any lends service.loans || list_any holds service.samples) more) [
              | inl is ↦ inr (inl (any-one IsOther opens_other (λ entry e.
                  let both = both-true entry.1.stands (entry.1.factory == number) e in (both.0, eqb-true entry.1.factory number both.1))
                  service.subscribers is))
              | inr last ↦ elim (or_cases (list_any lends service.loans) (list_any holds service.samples) last) [
                | inl is ↦ inr (inr (inl (any-one Lends lends (λ entry e.
                    let found = found-some (λ (one : Publisher T). one.factory == number) (at entry.1.publisher service.publishers) e in
                    (found.0, found.1, eqb-true found.0.factory number found.2)) service.loans is)))
                | inr is ↦ inr (inr (inr (any-one Holds holds (λ entry e.
                    let found = found-some (λ (one : Subscriber). one.factory == number) (at entry.1.subscriber service.subscribers) e in
                    (found.0, found.1, eqb-true found.0.factory number found.2)) service.samples is)))
              ]
            ]
      ]

  parts-used : HasPartsOf number service → is_used_by number service ≡ true
  parts-used (inl h) =
      or_left (list_any opens_one service.publishers)
      (list_any opens_other service.subscribers || (list_any lends service.loans || list_any holds service.samples))
      (one-any IsOne opens_one (λ entry is. and-true entry.1.stands (entry.1.factory == number) is.0
      (eq-eqb entry.1.factory number is.1)) service.publishers h)
  parts-used (inr (inl h)) =
      or_right (list_any opens_one service.publishers)
      (list_any opens_other service.subscribers || (list_any lends service.loans || list_any holds service.samples))
      (or_left (list_any opens_other service.subscribers) (list_any lends service.loans || list_any holds service.samples)
      (one-any IsOther opens_other (λ entry is. and-true entry.1.stands (entry.1.factory == number) is.0
      (eq-eqb entry.1.factory number is.1)) service.subscribers h))
  parts-used (inr (inr (inl h))) =
      or_right (list_any opens_one service.publishers)
      (list_any opens_other service.subscribers || (list_any lends service.loans || list_any holds service.samples))
      (or_right (list_any opens_other service.subscribers) (list_any lends service.loans || list_any holds service.samples)
      (or_left (list_any lends service.loans) (list_any holds service.samples)
      (one-any Lends lends (λ entry is. some-found (λ (one : Publisher T). one.factory == number)
      (at entry.1.publisher service.publishers) is.0 is.1 (eq-eqb is.0.factory number is.2)) service.loans h)))
  parts-used (inr (inr (inr h))) =
      or_right (list_any opens_one service.publishers)
      (list_any opens_other service.subscribers || (list_any lends service.loans || list_any holds service.samples))
      (or_right (list_any opens_other service.subscribers) (list_any lends service.loans || list_any holds service.samples)
      (or_right (list_any lends service.loans) (list_any holds service.samples)
      (one-any Holds holds (λ entry is. some-found (λ (one : Subscriber). one.factory == number)
      (at entry.1.subscriber service.subscribers) is.0 is.1 (eq-eqb is.0.factory number is.2)) service.samples h)))

pub closes-unless-used : {T : Type 0} (choices : Choices T) → ClosesUnlessUsed choices
closes-unless-used {T} choices types buffer number factory old answer new found h =
    elim (by-option (at number old.factories) (IsSkipped old answer new) Closing h) [
      | inl w ↦ never-some factory (sym w.0 ∙ found)
      | inr w ↦ closing w.0 (same-some w.0 factory (sym w.1 ∙ found)) w.2
    ]
  where
    is_used : Factory → Service T → Bool
    is_used one service = is_service_of one service && is_used_by number service

    ended : Factory → State T
    ended one = record (with_phase one.pattern one.name (closed_by one.node (old.phases one.pattern one.name)) old) {
      factories = removed number old.factories;
      services = cond (list_any (λ (entry : ℕ × Factory). same_pattern entry.1.pattern one.pattern && bytes_eq entry.1.name one.name)
          (removed number old.factories))
          old.services (filter (λ (service : Service T). not (is_service_of one service)) old.services);
    }

    Closing : Factory → Type 0
    Closing one =
        MatchBool (list_any (is_used one) old.services) (IsRefused (refusal.Close StillInUse) old answer new)
        ((answer ≡ reply.Done) × (new ≡ ended one))

    Uses : Service T → Type 0
    Uses service = (is_service_of factory service ≡ true) × HasPartsOf number service

    gone : (o : Option Factory) → at number (removed number old.factories) ≡ o → o ≡ None
    gone None is = refl
    gone (Some one) is = gone-removed number one old.factories is

    closing : (one : Factory) → one ≡ factory → Closing one
        → ((answer ≡ reply.Done) × (at number new.factories ≡ None) × (HasOne Uses old.services → ⊥))
        ⊎ ((answer ≡ reply.Refused (refusal.Close StillInUse)) × HasOne Uses old.services)
    closing one same did =
        elim (by-bool (list_any (is_used one) old.services) (IsRefused (refusal.Close StillInUse) old answer new)
        ((answer ≡ reply.Done) × (new ≡ ended one)) did) [
          | inl k ↦ inr (
            k.1.0,
            any-one Uses (is_used factory) (λ service e.
                let both = both-true (is_service_of factory service) (is_used_by number service) e in
                (both.0, used-parts number service both.1)) old.services
                (subst (λ (it : Factory). list_any (is_used it) old.services ≡ true) same k.0),
          )
          | inr k ↦ inl (
            k.1.0,
            ap (λ (state : State T). at number state.factories) k.1.1 ∙ gone (at number (removed number old.factories)) refl,
            (λ uses. true≢false (sym (one-any Uses (is_used factory)
                (λ service is. and-true (is_service_of factory service) (is_used_by number service) is.0
                (parts-used number service is.1)) old.services uses)
                ∙ subst (λ (it : Factory). list_any (is_used it) old.services ≡ false) same k.0)),
          )
        ]

-- ---- who has a name

-- What is made or emptied is so by another process, and what is published has some node.
abbrev Kept : Phase → Type 0
Kept (Absent lives) = ⊤
Kept (BeingMade life by) = IsOfOthers by
Kept (Published life agreed nodes) = is_some (slice_get nodes 0) ≡ true
Kept (Emptied life agreed by) = IsOfOthers by

entered-some : (node : Node) (nodes : List (Node × ℕ)) → is_some (slice_get (entered node nodes) 0) ≡ true
entered-some node [] = refl
entered-some node (entry ∷ more) = here (same_node entry.0 node)
  where
    here : (b : Bool) → is_some (slice_get (cond b ((node, entry.1 + 1) ∷ more) (entry ∷ entered node more)) 0) ≡ true
    here true = refl
    here false = refl

left-kept : (life : ℕ) (agreed : Agreement) (number : ℕ) (nodes : List (Node × ℕ))
    → Kept (elim nodes [ [] ↦ Emptied life agreed (Foreign number) | entry ∷ more ↦ Published life agreed (entry ∷ more) ])
left-kept life agreed number [] = (number, refl)
left-kept life agreed number (entry ∷ more) = refl

left-closed : (life : ℕ) (agreed : Agreement) (number : ℕ) (nodes : List (Node × ℕ))
    → Kept (removed_by (Own number)
    (elim nodes [ [] ↦ Emptied life agreed (Own number) | entry ∷ more ↦ Published life agreed (entry ∷ more) ]))
left-closed life agreed number [] =
    subst (λ (b : Bool). Kept (cond b (Absent life) (Emptied life agreed (Own number)))) (sym (node-itself (Own number))) tt
left-closed life agreed number (entry ∷ more) = refl

closed-kept : (number : ℕ) (phase : Phase) → Kept phase → Kept (closed_by number phase)
closed-kept number (Absent lives) kept = tt
closed-kept number (BeingMade life by) kept = kept
closed-kept number (Published life agreed nodes) kept =
    chosen-phase (λ (phase : Phase). Kept (removed_by (Own number) phase)) (is_in (Own number) nodes)
    (elim (left (Own number) nodes) [ [] ↦ Emptied life agreed (Own number) | entry ∷ more ↦ Published life agreed (entry ∷ more) ])
    (Published life agreed nodes) (left-closed life agreed number (left (Own number) nodes)) kept
closed-kept number (Emptied life agreed by) kept =
    chosen-phase Kept (same_node by (Own number)) (Absent life) (Emptied life agreed by) tt kept

published-kept : (types : MessageTypeDetails) (pattern : MessagingPattern) (life : ℕ) (by : Node) (node : ℕ) (named : ServiceOptions)
    → IsOfOthers by → Kept (published_by types pattern life by node named)
published-kept types pattern life by node named kept =
    chosen-phase Kept
    (same_node by (Foreign node) && (same_pattern (pattern_of named) pattern && are_within_limits (settings_of types named)))
    (Published life (record { settings = settings_of types named; attributes = [] }) ((Foreign node, 1) ∷ [])) (BeingMade life by)
    refl kept

acted-kept : (types : MessageTypeDetails) (pattern : MessagingPattern) (phase : Phase) (one : ForeignStep) → Kept phase
    → Kept (acted types pattern phase one)
acted-kept types pattern (Absent lives) (step.Lock node) kept = (node, refl)
acted-kept types pattern (BeingMade life by) (step.GiveUp node) kept =
    chosen-phase Kept (same_node by (Foreign node)) (Absent life) (BeingMade life by) tt kept
acted-kept types pattern (BeingMade life by) (step.Publish node named) kept = published-kept types pattern life by node named kept
acted-kept types pattern (BeingMade life by) (step.PublishV1 node named) kept =
    chosen-phase Kept (has_numbers (settings_of types named)) (BeingMade life by) (published_by types pattern life by node named) kept
    (published-kept types pattern life by node named kept)
acted-kept types pattern (Published life agreed nodes) (step.Register node) kept =
    chosen-phase Kept (not (is_in (Foreign node) nodes) && nat_lt (length nodes) (max_nodes_of agreed.settings))
    (Published life agreed (entered (Foreign node) nodes)) (Published life agreed nodes) (entered-some (Foreign node) nodes) kept
acted-kept types pattern (Published life agreed nodes) (step.Leave node) kept =
    chosen-phase Kept (is_in (Foreign node) nodes)
    (elim (left (Foreign node) nodes) [ [] ↦ Emptied life agreed (Foreign node) | entry ∷ more ↦ Published life agreed (entry ∷ more) ])
    (Published life agreed nodes) (left-kept life agreed node (left (Foreign node) nodes)) kept
acted-kept types pattern (Emptied life agreed by) (step.Remove node) kept =
    chosen-phase Kept (same_node by (Foreign node)) (Absent life) (Emptied life agreed by) tt kept
acted-kept types pattern phase other kept = kept

-- ---- a run

abbrev KeptOf : MessagingPattern → List ℕ → Phase → Type 0
KeptOf pattern name phase = Kept phase

acts-kept : (types : MessageTypeDetails) (pattern : MessagingPattern) (steps : List StepBefore)
    → AllByRecursion (λ (before : StepBefore). (phase : Phase) → Kept phase → Kept (acted types pattern phase before.step)) steps
acts-kept types pattern steps =
    each-all (λ (before : StepBefore). (phase : Phase) → Kept phase → Kept (acted types pattern phase before.step))
    (λ before phase kept. acted-kept types pattern phase before.step kept) steps

begins-kept : {T : Type 0} (types : MessageTypeDetails) (asked : Command T) → Begins types KeptOf asked
begins-kept types (command.Create node name named attributes steps) = (acts-kept types (pattern_of named) steps, λ lives kept. refl)
begins-kept types (command.Open node name named required steps) = acts-kept types (pattern_of named) steps
begins-kept types (command.OpenOrCreate node name named required steps) = (acts-kept types (pattern_of named) steps, λ lives kept. refl)
begins-kept types (command.Foreign pattern name steps) =
    each-all (λ (one : ForeignStep). (phase : Phase) → Kept phase → Kept (acted types pattern phase one))
    (λ one phase kept. acted-kept types pattern phase one kept) steps
begins-kept types other = tt

runs-kept : {T : Type 0} (types : MessageTypeDetails) (choices : Choices T) (buffer : ℕ) (asked : List (Command T)) (old : State T)
    (answers : List (Reply T)) (new : State T) → Runs types choices buffer asked old answers new
    → ((pattern : MessagingPattern) (name : List ℕ) → Kept (old.phases pattern name))
    → (pattern : MessagingPattern) (name : List ℕ) → Kept (new.phases pattern name)
runs-kept types choices buffer [] old answers new run all =
    subst (λ (state : State _). (pattern : MessagingPattern) (name : List ℕ) → Kept (state.phases pattern name)) (sym run.1) all
runs-kept types choices buffer (one ∷ more) old answers new run all =
    runs-kept types choices buffer more run.1 run.2 new run.4
    (phases-move types KeptOf (λ pattern name lives kept. tt)
    (λ pattern name node life agreed nodes room kept. entered-some node nodes)
    (λ pattern name node phase kept. closed-kept node phase kept)
    choices buffer one old run.0 run.1 (begins-kept types one) run.3 all)

-- ---- no factory is left

tally-none : (pattern : MessagingPattern) (name : List ℕ) (factories : List (ℕ × Factory)) (node : ℕ)
    → list_any (λ (entry : ℕ × Factory). is_factory_of pattern name entry.1) factories ≡ false → tally pattern name factories node ≡ 0
tally-none pattern name [] node none = refl
tally-none pattern name (entry ∷ more) node none =
    let both = or_parts (is_factory_of pattern name entry.1)
    (list_any (λ (it : ℕ × Factory). is_factory_of pattern name it.1) more) none in
    here (is_factory_of pattern name entry.1) both.0 (tally-none pattern name more node both.1)
  where
    here : (b : Bool) → b ≡ false → tally pattern name more node ≡ 0
        → one_if (b && (entry.1.node == node)) + tally pattern name more node ≡ 0
    here true is rest = absurd (true≢false is)
    here false is rest = omega (arith, rest)

others-alone : (nodes : List (Node × ℕ)) → Full nodes → ((m : ℕ) → share (Own m) nodes ≡ 0)
    → AllByRecursion (λ (entry : Node × ℕ). IsOfOthers entry.0) nodes
others-alone [] full none = tt
others-alone (entry ∷ more) full none =
    (here entry.0 refl, others-alone more full.1 (λ m. rest (cond (same_node entry.0 (Own m)) entry.1 0) (share (Own m) more) (none m)))
  where
    rest : (x y : ℕ) → x + y ≡ 0 → y ≡ 0
    rest x y h = omega (arith, h)

    differ : (x y : ℕ) → 1 ≤ x → x + y ≡ 0 → ⊥
    differ x y h k = omega (arith, h, k)

    here : (node : Node) → entry.0 ≡ node → IsOfOthers node
    here (Own m) is =
        absurd (differ entry.1 (share (Own m) more) full.0
        (sym (ap (λ (b : Bool). cond b entry.1 0 + share (Own m) more)
        (ap (λ (it : Node). same_node it (Own m)) is ∙ node-itself (Own m))) ∙ none m))
    here (Foreign number) is = (number, refl)

free-or-of-others : (f : ℕ → ℕ) (phase : Phase) → ((m : ℕ) → f m ≡ 0) → Kept phase → Counts f phase → IsFreeOrOfOthers phase
free-or-of-others f (Absent lives) none kept counts = tt
free-or-of-others f (BeingMade life by) none kept counts = kept
free-or-of-others f (Published life agreed nodes) none kept counts =
    (kept, others-alone nodes counts.0 (λ m. counts.1 m ∙ none m))
free-or-of-others f (Emptied life agreed by) none kept counts = kept

pub names-become-free : {T : Type 0} (choices : Choices T) → NamesBecomeFree choices
names-become-free {T} choices types buffer asked answers new run pattern name none =
    let stands : Stands new = runs-stand types choices buffer asked new_state answers new run new-stands in
    free-or-of-others (tally pattern name new.factories) (new.phases pattern name)
    (λ node. tally-none pattern name new.factories node none)
    (runs-kept types choices buffer asked new_state answers new run (λ one other. tt) pattern name) (stands.fits pattern name).counts
