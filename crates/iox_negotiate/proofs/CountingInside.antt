-- After each storage operation inside a call registered are the factories that were open before it, or those that are open after it.
use Rattle.std.proofs.Common.{◌≡◌, ℕ, List, [], ◌∷◌, ◌++◌, Option, None, Some, Result, refl, sym, ap, subst, ◌∙◌, ◌⊎◌, inl, inr}
use Rattle.std.proofs.Math.Logic.{⊎_elim}
use Rattle.std.proofs.lemmas.List.{append-nil}
use Rattle.iox_negotiate_table.specs.NegotiateBase.Access.{Access, Look, Lock, MakeSegment, Publish, Unlock, OpenSegment, Leave}
use Rattle.iox_negotiate_table.specs.NegotiateBase.Access.{RemoveDescription, RemoveSegment}
use Rattle.iox_negotiate_table.specs.NegotiateBase.Opening.{OpenRound, EitherRound}
use Rattle.iox_negotiate_table.specs.NegotiateBase.Runs.{Went}
use Rattle.iox_negotiate_table.specs.NegotiateBase.declared.answer.OpenSegmentAnswer.TheVariants as opening
use Rattle.iox_negotiate_table.specs.NegotiateBase.declared.answer.MakeSegmentAnswer.TheVariants as making
use Rattle.iox_negotiate_table.specs.NegotiateBase.declared.answer.PublishAnswer.TheVariants as publishing
use Rattle.iox_negotiate_table.specs.NegotiateBase.declared.request.Opened.{Opened}
use Rattle.iox_negotiate.specs.NegotiateBase.declared.errors.close.CloseError.{CloseError}
use Rattle.iox_negotiate.specs.Factory.{Closes}
use Rattle.iox_negotiate_table.specs.declared.step.ForeignStep.{ForeignStep}
use Rattle.iox_negotiate_table.specs.Contents.{Contents}
use Rattle.iox_negotiate_table.specs.Stepped.{Steps, SteppedSight}
use Rattle.iox_negotiate.specs.Factories.{Factory}
use Rattle.iox_negotiate.specs.Calls.{Call, Creates, Opening, Either, Closing, Between, Tells, MayBegin, open_after, Goes}
use Rattle.iox_negotiate.specs.Counts.{CountedInsideCalls}
use Rattle.iox_negotiate.proofs.Ending.{World}
use Rattle.iox_negotiate.proofs.Calling.{call-front, call-world}
use Rattle.iox_negotiate.proofs.Gaining.{Calm, AllCalm, Last, Entrance, Publication, Gains, won, creates-gains, rounds-gains, round-gains}
use Rattle.iox_negotiate.proofs.Gaining.{either-gains, leave-goes-calm}
use Rattle.iox_negotiate.proofs.Counting.{calm-keeps, leave-owned, Exact, call-owned, exactly, exact-after}

calm-front : (front back : List Access) → AllCalm (front ++ back) → AllCalm front
calm-front [] back calm = tt
calm-front (access ∷ front) back calm = (calm.0, calm-front front back calm.1)

-- any front of the last storage operations registers nothing, or is all of them
last-front : (node number : ℕ) (made : List Access) → Last node number made → (done rest : List Access) → done ++ rest ≡ made
    → AllCalm done ⊎ (rest ≡ [])
last-front node number made last [] rest all = inl tt
last-front node number made (Entrance hash is) (access ∷ []) rest all = inr (ends (all ∙ is))
  where
    ends : access ∷ rest ≡ OpenSegment hash number node opening.Registered ∷ [] → rest ≡ []
    ends e = cc
last-front node number made (Entrance hash is) (access ∷ next ∷ done) rest all = absurd (differ (all ∙ is))
  where
    differ : access ∷ next ∷ (done ++ rest) ≡ OpenSegment hash number node opening.Registered ∷ [] → ⊥
    differ e = cc
last-front node number made (Publication hash room bytes is) (access ∷ []) rest all
    = inl (subst (λ a. Calm a) (sym (first (all ∙ is))) (tt, λ at by. refl), tt)
  where
    first : access ∷ rest ≡ MakeSegment hash number node room making.Made ∷ Publish hash number bytes publishing.Published ∷ []
        → access ≡ MakeSegment hash number node room making.Made
    first e = cc
last-front node number made (Publication hash room bytes is) (access ∷ next ∷ []) rest all = inr (ends (all ∙ is))
  where
    ends : access ∷ next ∷ rest ≡ MakeSegment hash number node room making.Made ∷ Publish hash number bytes publishing.Published ∷ []
        → rest ≡ []
    ends e = cc
last-front node number made (Publication hash room bytes is) (access ∷ next ∷ third ∷ done) rest all = absurd (differ (all ∙ is))
  where
    differ : access ∷ next ∷ third ∷ (done ++ rest) ≡ MakeSegment hash number node room making.Made
        ∷ Publish hash number bytes publishing.Published ∷ [] → ⊥
    differ e = cc

-- and so is any front of the storage operations of a call
gain-front : (node number : ℕ) (last : List Access) → Last node number last → (front done rest : List Access) → AllCalm front
    → done ++ rest ≡ front ++ last → AllCalm done ⊎ (rest ≡ [])
gain-front node number last ends [] done rest calm all = last-front node number last ends done rest all
gain-front node number last ends (access ∷ front) [] rest calm all = inl tt
gain-front node number last ends (access ∷ front) (other ∷ done) rest calm all
    = there (gain-front node number last ends front done rest calm.1 (tail all))
  where
    head : other ∷ (done ++ rest) ≡ access ∷ (front ++ last) → other ≡ access
    head e = cc

    tail : other ∷ (done ++ rest) ≡ access ∷ (front ++ last) → done ++ rest ≡ front ++ last
    tail e = cc

    there : AllCalm done ⊎ (rest ≡ []) → AllCalm (other ∷ done) ⊎ (rest ≡ [])
    there (inl calm-done) = inl (subst (λ a. Calm a) (sym (head all)) calm.0, calm-done)
    there (inr none) = inr none

calm-or-whole : (node : ℕ) (service : Option Opened) (done rest : List Access) → Gains node service (done ++ rest) → AllCalm done
    ⊎ (rest ≡ [])
calm-or-whole node None done rest g = inl (calm-front done rest g)
calm-or-whole node (Some service) done rest g = gain-front node service.number g.last g.ends g.front done rest g.calm g.is

module _ {V : ℕ → Type 0} (call : Call V) (held : List Factory) (done rest : List Access) (old new : Steps) where
  abbrev Inside : Type 0
  Inside = Exact held new.table ⊎ Exact (open_after call held) new.table

  -- a call that opens a factory or none
  opens-inside : (node : ℕ) (service : Option Opened) → Gains node service (done ++ rest) → Exact held old.table → World held new.table
      → Went SteppedSight old done new → Tells call (done ++ rest)
      → (Tells call done → Exact (open_after call held) new.table) → Inside
  opens-inside node service gains x world went told whole = ⊎_elim
      (λ calm. inl (record { world = world; owned = calm-keeps held done old new calm x.owned went }))
      (λ none. inr (whole (subst (λ m. Tells call m) (ap (λ r. done ++ r) none ∙ append-nil done) told)))
      (calm-or-whole node service done rest gains)

closing-inside : (before after : List Factory) (factory : Factory) (result : Result (Unit {0}) CloseError) (done rest : List Access)
    (old new : Steps) → Exact (before ++ (factory ∷ after)) old.table
    → World (before ++ after) new.table → Closes factory.agreed.service_hash factory.number factory.node (done ++ rest) result
    → Went SteppedSight old done new
    → Exact (before ++ (factory ∷ after)) new.table ⊎ Exact (before ++ after) new.table
closing-inside before after factory result [] rest old new x world told went
    = inl (subst (λ s. Exact (before ++ (factory ∷ after)) s.table) (sym went) x)
closing-inside before after factory result (Leave under of by answer ∷ done) rest old new x world (own, same, who, goes)
    (mid, stepped, went) =
    let leave = subst (λ d. SteppedSight old (Leave factory.agreed.service_hash factory.number d answer) mid) who
    (subst (λ n. SteppedSight old (Leave factory.agreed.service_hash n by answer) mid) same
    (subst (λ h. SteppedSight old (Leave h of by answer) mid) own stepped)) in
    inr (record {
      world = world;
      owned = calm-keeps (before ++ after) done mid new
          (calm-front done rest (leave-goes-calm factory.agreed.service_hash factory.number answer (done ++ rest) result goes))
          (leave-owned before after factory old.table mid.table answer x.world x.owned leave.0) went;
    })
closing-inside before after factory result (Look under answer ∷ done) rest old new x world told went = absurd told
closing-inside before after factory result (Lock under by answer ∷ done) rest old new x world told went = absurd told
closing-inside before after factory result (MakeSegment under of by room answer ∷ done) rest old new x world told went = absurd told
closing-inside before after factory result (Publish under of bytes answer ∷ done) rest old new x world told went = absurd told
closing-inside before after factory result (Unlock under of ∷ done) rest old new x world told went = absurd told
closing-inside before after factory result (OpenSegment under of by answer ∷ done) rest old new x world told went = absurd told
closing-inside before after factory result (RemoveDescription under of answer ∷ done) rest old new x world told went = absurd told
closing-inside before after factory result (RemoveSegment under of answer ∷ done) rest old new x world told went = absurd told

-- before the first storage operation
abbrev start : Contents → List (List ForeignStep) → Steps
start table lists = record { table = table; lists = lists }

module _ {V : ℕ → Type 0} (held : List Factory) (table : Contents) (lists : List (List ForeignStep)) (new : Steps)
    (done rest : List Access) (x : Exact held table) where
  -- after a whole call
  whole-call : (call : Call V) → MayBegin call held → Goes call table new.table → Exact (open_after call held) new.table
  whole-call call may goes
      = record { world = call-world call held table new.table x.world may goes; owned = call-owned call held table new.table x may goes }

  inside : (call : Call V) → MayBegin call held → Tells call (done ++ rest)
      → Went SteppedSight (record { table = table; lists = lists }) done new → Exact held new.table ⊎ Exact (open_after call held) new.table
  inside (Creates node agreed refusal result) may told went =
      opens-inside {V = V} (Creates node agreed refusal result) held done rest (start table lists) new node (won result)
      (creates-gains agreed.service_hash node agreed refusal (done ++ rest) result told) x
      (call-front {V = V} (Creates node agreed refusal result) held done rest (start table lists) new x.world may told went) went told
      (λ all. whole-call (Creates node agreed refusal result) may (lists, new, record { made = done; went = went; told = all }, refl))
  inside (Opening kind hash node verdict result) may told went =
      opens-inside {V = V} (Opening kind hash node verdict result) held done rest (start table lists) new node (won result)
      (rounds-gains node (OpenRound hash node verdict) (round-gains hash node verdict) _ (done ++ rest) result told) x
      (call-front {V = V} (Opening kind hash node verdict result) held done rest (start table lists) new x.world may told went) went told
      (λ all. whole-call (Opening kind hash node verdict result) may (lists, new, record { made = done; went = went; told = all }, refl))
  inside (Either kind node verdict agreed refusal result) may told went =
      opens-inside {V = V} (Either kind node verdict agreed refusal result) held done rest (start table lists) new node (won result)
      (rounds-gains node (EitherRound agreed.service_hash node verdict agreed refusal)
      (either-gains agreed.service_hash node verdict agreed refusal) _ (done ++ rest) result told) x
      (call-front {V = V} (Either kind node verdict agreed refusal result) held done rest (start table lists) new x.world may told went)
      went told
      (λ all. whole-call (Either kind node verdict agreed refusal result) may
      (lists, new, record { made = done; went = went; told = all }, refl))
  inside (Closing before factory after result) may told went =
      let there = subst (λ h. Exact h table) may x in
      ⊎_elim (λ still. inl (subst (λ h. Exact h new.table) (sym may) still)) (λ fewer. inr fewer)
      (closing-inside before after factory result done rest (start table lists) new there
      (call-front {V = V} (Closing before factory after result) held done rest (start table lists) new x.world may told went) told went)
  inside (Between hash step) may told went = inl (there done told went)
    where
      there : (accesses : List Access) → accesses ++ rest ≡ []
          → Went SteppedSight (record { table = table; lists = lists }) accesses new → Exact held new.table
      there [] none none-made = subst (λ s. Exact held s.table) (sym none-made) x
      there (access ∷ accesses) none made = absurd (differ none)
        where
          differ : access ∷ (accesses ++ rest) ≡ [] → ⊥
          differ e = cc

pub counted-inside : (V : ℕ → Type 0) → CountedInsideCalls V
counted-inside V id calls table held call lists mid done rest happened may told went =
    ⊎_elim (λ before. inl (exactly held mid.table before)) (λ after. inr (exactly (open_after call held) mid.table after))
    (inside held table lists mid done rest (exact-after id calls table held happened) call may told went)
