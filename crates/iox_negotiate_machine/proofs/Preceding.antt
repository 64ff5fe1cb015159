-- A storage operation of a call, with the steps of nodes outside the hub that come before it.
use Rattle.std.proofs.Common.{◌≡◌, ℕ, ◌+◌, ◌^◌, ◌≤◌, ◌<◌, Bool, true, false, cond, Some, List, [], ◌∷◌, ◌++◌, Result, Ok, Err, length}
use Rattle.std.proofs.Common.{map, fold, take, drop, drop-drop, take_all, nat_lt, refl, sym, ap, subst, ◌∙◌, ◌⊎◌, inl, inr, arith}
use Rattle.std.proofs.lemmas.Bool.Decides.{nat_tests}
use Rattle.std.proofs.lemmas.List.{length-map}
use Rattle.std.specs.List.{filter}
use Rattle.std.specs.Prelude.{◌==◌}
use Rattle.std.specs.declared.alloc.AllocError.{AllocError}
use Rattle.iox_command.specs.NegotiateBase.DescribeBase.Hash.{service_hash_of}
use Rattle.iox_command.specs.NegotiateBase.DescribeBase.declared.hash.ServiceHash.{ServiceHash}
use Rattle.iox_command.specs.NegotiateBase.DescribeBase.declared.message_type.MessageTypeDetails.{MessageTypeDetails}
use Rattle.iox_command.specs.NegotiateBase.DescribeBase.declared.pattern.MessagingPattern.{MessagingPattern}
use Rattle.iox_command.specs.declared.step.ForeignStep.{ForeignStep}
use Rattle.iox_command.specs.declared.step.StepBefore.{StepBefore}
use Rattle.iox_machine.specs.Negotiation.{Call, Answer, Access}
use Rattle.iox_machine.specs.Phase.{Node, Phase, acted}
use Rattle.iox_negotiate.proofs.Changes.{changes}
use Rattle.iox_negotiate.specs.Histories.{IsReached, Steps as StepsOf}
use Rattle.iox_negotiate_machine.proofs.Acted.{Leaves, Result_of, acts-all, grows, joined, left-none, left-then}
use Rattle.iox_negotiate_machine.proofs.Acting.{OwnHash}
use Rattle.iox_negotiate_machine.specs.CallLaws.{AreListed, HaveStepForms}
use Rattle.iox_machine.specs.RefusalLaws.{steps_at}
use Rattle.iox_negotiate_machine.specs.Laws.{table_step_of}
use Rattle.iox_negotiate_machine.specs.Standing.{PhaseStands}
use Rattle.iox_negotiate_table.specs.Contents.{Contents}
use Rattle.iox_negotiate_table.specs.NegotiateBase.Access.{Access as TableAccess}
use Rattle.iox_negotiate_table.specs.Sights.{Sight}
use Rattle.iox_negotiate_table.specs.Stepped.{ActsAll, GoesOn, Preceded, Steps, next_list}
use Rattle.iox_negotiate_table.specs.declared.step.ForeignStep.{ForeignStep as TableStep}

-- ---- how many steps are to come

-- how many steps are named before storage operations after these
abbrev pub to_come : ℕ → List StepBefore → ℕ
to_come accesses [] = 0
to_come accesses (before ∷ more) = cond (nat_lt accesses before.access) 1 0 + to_come accesses more

one-comes : (a x : ℕ) → cond (nat_lt a x) 1 0 ≡ cond (x == a + 1) 1 0 + cond (nat_lt (a + 1) x) 1 0
one-comes a x = grind (arith, nat_tests)

one-more : (before : StepBefore) (some : List StepBefore) (b : Bool)
    → length (map (λ (s : StepBefore). s.step) (cond b (before ∷ some) some)) ≡ cond b 1 0 + length (map (λ (s : StepBefore). s.step) some)
one-more before some true = omega arith
one-more before some false = omega arith

-- those before the next storage operation are some of them
spent : (accesses : ℕ) (steps : List StepBefore)
    → to_come accesses steps ≡ length (steps_at steps (accesses + 1)) + to_come (accesses + 1) steps
spent accesses [] = refl
spent accesses (before ∷ more) =
    let here : length (steps_at (before ∷ more) (accesses + 1))
    ≡ cond (before.access == accesses + 1) 1 0 + length (steps_at more (accesses + 1)) =
    one-more before (filter (λ (s : StepBefore). s.access == accesses + 1) more) (before.access == accesses + 1) in
    omega (arith, here, one-comes accesses before.access, spent accesses more)

one-at-most : (b : Bool) → cond b 1 0 ≤ 1
one-at-most true = omega arith
one-at-most false = omega arith

-- no more than there are
few-come : (accesses : ℕ) (steps : List StepBefore) → to_come accesses steps ≤ length steps
few-come accesses [] = omega arith
few-come accesses (before ∷ more) = omega (arith, one-at-most (nat_lt accesses before.access), few-come accesses more)

-- each step takes one number at most
grown : (hash : ServiceHash) (steps : List TableStep) (old new : Contents) (result : Result (Unit {0}) AllocError)
    → ActsAll hash steps old result new → new.next ≤ old.next + length steps
grown hash [] old new result h = rw h.1 (omega arith)
grown hash (step ∷ steps) old new result (mid, first, acts, rest) = there first one rest (λ went. grown hash steps mid new result went)
  where
    one : mid.next ≤ old.next + 1
    one = grows (StepsOf hash step) hash old mid (changes old mid (StepsOf hash step) (first, acts))

    there : (first : Result (Unit {0}) AllocError) → mid.next ≤ old.next + 1
        → GoesOn first (ActsAll hash steps mid result new) ((result ≡ first) × (new ≡ mid))
        → (ActsAll hash steps mid result new → new.next ≤ mid.next + length steps) → new.next ≤ old.next + length (step ∷ steps)
    there (Ok done) less rest later = omega (arith, less, later rest)
    there (Err lacking) less rest later = rw rest.1 (omega (arith, less))

-- The table after a part of a call: it has this phase under the hash, and other hashes don't change.
pub record Ends (pattern : MessagingPattern) (name : List ℕ) (old : Contents) (taken : List ℕ) (table : Contents) (phase : Phase) : Type
    0 where
  pub leaves : Leaves (service_hash_of pattern name) old table
  pub more : List ℕ
  pub stands : PhaseStands pattern name table (more ++ taken) phase

module _ (types : MessageTypeDetails) (pattern : MessagingPattern) (name : List ℕ) (own : OwnHash pattern name) (steps : List StepBefore)
    (form : HaveStepForms types name steps) (old : Contents) (taken : List ℕ) where
  -- the steps before the next storage operation
  abbrev pub meanwhile : Call → List ForeignStep
  meanwhile call = steps_at steps (call.accesses + 1)

  -- the phase after them
  abbrev pub next_phase : Call → Phase
  next_phase call = fold (acted types pattern) call.phase (meanwhile call)

  -- the call after them
  abbrev pub next_call : Call → Call
  next_call call = record { phase = next_phase call; accesses = call.accesses + 1 }

  -- the call after some of them
  abbrev pub stopped : ℕ → Call → Call
  stopped done call = record call { phase = fold (acted types pattern) call.phase (take done (meanwhile call)) }

  -- A call in progress: the table contains what the machine's phase says, the lists are those of the next `left` storage operations, and
  -- enough numbers are left for the remaining steps and for `locks` locks. It makes at most sixteen storage operations.
  pub record UnderWay (left locks : ℕ) (table : Contents) (lists : List (List TableStep)) (call : Call) : Type 0 where
    pub ends : Ends pattern name old taken table call.phase
    pub listed : (made : ℕ) → made < left
        → next_list (drop made lists) ≡ map (table_step_of types name) (steps_at steps (call.accesses + (made + 1)))
    pub room : table.next + to_come call.accesses steps + locks < 2 ^ 64
    pub early : call.accesses + left ≤ 16

  -- The effect of the steps before a storage operation: they are made, numbers may have been taken, and the storage operation is made; or
  -- memory runs out in one of them, and it isn't made.
  abbrev pub Comes : ℕ → ℕ → Call → List ℕ → TableAccess → Type 0 → Steps → Type 0
  Comes left locks call before access lacking after =
      ((mid : Contents) × (now : UnderWay left locks mid after.lists (next_call call)) × Sight mid access after.table
      × ((since : List ℕ) × (now.ends.more ≡ since ++ before)))
      ⊎ ((done : ℕ) × Ends pattern name old taken after.table (fold (acted types pattern) call.phase (take done (meanwhile call)))
      × lacking)

  pub preceded : (access : TableAccess) (lacking : Type 0) (left locks : ℕ) (call : Call) (before after : Steps)
      → (under : UnderWay (1 + left) locks before.table before.lists call)
      → Preceded (service_hash_of pattern name) access lacking before after
      → Comes left locks call under.ends.more access lacking after
  preceded access lacking left locks call before after under (mid, happened, acts, goes, lists) =
      there happened listed-acts
      (acts-all types pattern name own (meanwhile call) before.table mid (under.ends.more ++ taken) call.phase happened
      under.ends.leaves.reached
      (form call.accesses (omega (arith, under.early))) (omega (arith, under.room, come)) under.ends.stands listed-acts) goes
    where
      come : to_come call.accesses steps ≡ length (meanwhile call) + to_come (call.accesses + 1) steps
      come = spent call.accesses steps

      listed-acts : ActsAll (service_hash_of pattern name) (map (table_step_of types name) (meanwhile call)) before.table happened mid
      listed-acts = subst (λ (l : List TableStep). ActsAll (service_hash_of pattern name) l before.table happened mid)
          (under.listed 0 (omega arith)) acts

      bound : mid.next ≤ before.table.next + length (meanwhile call)
      bound =
          let less : mid.next ≤ before.table.next + length (map (table_step_of types name) (meanwhile call)) =
          grown (service_hash_of pattern name) (map (table_step_of types name) (meanwhile call)) before.table mid happened listed-acts in
          omega (arith, less, length-map (meanwhile call) (table_step_of types name))

      later : (made : ℕ) → made < left
          → next_list (drop made after.lists) ≡ map (table_step_of types name) (steps_at steps (call.accesses + 1 + (made + 1)))
      later made less =
          ap (λ (l : List (List TableStep)). next_list (drop made l)) lists
          ∙ ap next_list (drop-drop made 1 before.lists)
          ∙ under.listed (1 + made) (omega (arith, less))
          ∙ ap (λ (n : ℕ). map (table_step_of types name) (steps_at steps n)) (omega arith)

      there : (happened : Result (Unit {0}) AllocError)
          → ActsAll (service_hash_of pattern name) (map (table_step_of types name) (meanwhile call)) before.table happened mid
          → Leaves (service_hash_of pattern name) before.table mid
          × Result_of types pattern name own happened (meanwhile call) mid (under.ends.more ++ taken) call.phase
          → GoesOn happened (Sight mid access after.table) (lacking × (after.table ≡ mid))
          → Comes left locks call under.ends.more access lacking after
      there (Ok done) acts all sight = inl (
        mid,
        record {
          ends = record {
            leaves = left-then (service_hash_of pattern name) old before.table mid under.ends.leaves all.0;
            more = all.1.0 ++ under.ends.more;
            stands = subst (λ (l : List ℕ). PhaseStands pattern name mid l (next_phase call)) (joined all.1.0 under.ends.more taken)
                all.1.1;
          };
          listed = later;
          room = omega (arith, bound, under.room, come);
          early = omega (arith, under.early);
        },
        sight,
        (all.1.0, refl),
      )
      there (Err lacks) acts all goes = inr (
        all.1.1,
        rw goes.1 (record {
          leaves = left-then (service_hash_of pattern name) old before.table mid under.ends.leaves all.0;
          more = all.1.0 ++ under.ends.more;
          stands = subst (λ (l : List ℕ). PhaseStands pattern name mid l
              (fold (acted types pattern) call.phase (take all.1.1 (meanwhile call))))
              (joined all.1.0 under.ends.more taken) all.1.3;
        }),
        goes.0,
      )

  -- a machine's storage operation that finds no memory of its own, after all steps before it
  pub lacks-itself : {F : Type 0} (node : Node) (lacking : F) (Found : Phase → Call → Answer F → Call → Type 0) (call : Call)
      → Access types pattern steps node lacking Found call (Some (Err lacking)) (record call { phase = next_phase call })
  lacks-itself node lacking Found call = inr (
    length (meanwhile call),
    (
      refl,
      ap (λ (l : List ForeignStep). record call { phase = fold (acted types pattern) call.phase l })
          (sym (take_all (length (meanwhile call)) (meanwhile call) (omega arith))),
    ),
  )

  -- a call that begins
  pub begins : (left locks : ℕ) (lists : List (List TableStep)) (phase : Phase) → IsReached old → PhaseStands pattern name old taken phase
      → AreListed types name steps lists → left ≤ 16 → old.next + length steps + locks < 2 ^ 64
      → UnderWay left locks old lists (record { phase = phase; accesses = 0 })
  begins left locks lists phase was stands listed few room = record {
    ends = record {
      leaves = left-none (service_hash_of pattern name) old old was refl;
      more = [];
      stands = stands;
    };
    listed = λ made less. listed made (omega (arith, less, few))
        ∙ ap (λ (n : ℕ). map (table_step_of types name) (steps_at steps n)) (omega arith);
    room = omega (arith, room, few-come 0 steps);
    early = omega (arith, few);
  }

  -- what ends with all steps before a storage operation ends with the first of them that are as many
  pub ends-with-all : (call : Call) (table : Contents) → Ends pattern name old taken table (next_phase call)
      → Ends pattern name old taken table (fold (acted types pattern) call.phase (take (length (meanwhile call)) (meanwhile call)))
  ends-with-all call table ends =
      subst (λ (l : List ForeignStep). Ends pattern name old taken table (fold (acted types pattern) call.phase l))
      (sym (take_all (length (meanwhile call)) (meanwhile call) (omega arith))) ends
