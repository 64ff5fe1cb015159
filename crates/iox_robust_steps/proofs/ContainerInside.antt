-- If no count is exchanged, a member stays until its own party removes it.
use Rattle.std.proofs.Common.{◌≡◌, ℕ, Option, List, [], ◌∷◌, ◌++◌}
use Rattle.std.proofs.Common.{refl, ◌∙◌, ap, subst}
use Rattle.iox_queues_steps.specs.declared.access.Word.TheVariants.{Write, Read, Cell}
use Rattle.iox_queues_steps.specs.declared.access.Access.{Access}
use Rattle.iox_queues_steps.specs.declared.access.Access.TheVariants.{Load, Store, Exchange, Local}
use Rattle.iox_queues.specs.declared.bits.machine.Event.{Event}
use Rattle.iox_robust_steps.specs.ContainerInside.{MayBeMadeSo, StaysTillOut, inside_after, inside_by}
use Rattle.iox_robust_steps.specs.ContainerRecovering.{IsCalmAccess}
use Rattle.iox_robust_steps.specs.ContainerRecovering.{IsCalm}
use Rattle.iox_robust_steps.specs.ContainerStays.{MayBeMade, StaysTillTakenOut, stored_by, whose_after}

-- one more step
pub inside_more : (place : ℕ) (now : Option ℕ) (events : List Event) (e : Event) → inside_after place now (events ++ e ∷ [])
    ≡ inside_by place e.party e.access e.answer (inside_after place now events)
inside_more place now [] e = refl
inside_more place now (x ∷ events) e = inside_more place (inside_by place x.party x.access x.answer now) events e

pub till_out_more : (n width place : ℕ) (now : Option ℕ) (events : List Event) (e : Event) → StaysTillOut n width place now events
    → MayBeMadeSo n width place (inside_after place now events) e.party e.access e.answer
    → StaysTillOut n width place now (events ++ e ∷ [])
till_out_more n width place now [] e h may = (may, tt)
till_out_more n width place now (x ∷ events) e h may =
    (h.0, till_out_more n width place (inside_by place x.party x.access x.answer now) events e h.1 may)

pub calm_more : (events : List Event) (e : Event) → IsCalm events → IsCalmAccess e.access → IsCalm (events ++ e ∷ [])
calm_more [] e h calm = (calm, tt)
calm_more (x ∷ events) e h calm = (h.0, calm_more events e h.1 calm)

module _ (place party answer : ℕ) where
  stored_same : (now : Option ℕ) (a : Access) → IsCalmAccess a → inside_by place party a answer now ≡ stored_by place party a now
  stored_same now (Load word) calm = refl
  stored_same now (Store Write value) calm = refl
  stored_same now (Store Read value) calm = refl
  stored_same now (Store (Cell cell) value) calm = refl
  stored_same now (Exchange Write old new) calm = refl
  stored_same now (Exchange Read old new) calm = refl
  stored_same now (Exchange (Cell cell) old new) calm = absurd calm
  stored_same now Local calm = refl

  may_same : (n width : ℕ) (now : Option ℕ) (a : Access) → IsCalmAccess a → MayBeMadeSo n width place now party a answer
      → MayBeMade n width place now party a
  may_same n width now (Load word) calm may = tt
  may_same n width now (Store Write value) calm may = tt
  may_same n width now (Store Read value) calm may = tt
  may_same n width now (Store (Cell cell) value) calm may = may
  may_same n width now (Exchange Write old new) calm may = tt
  may_same n width now (Exchange Read old new) calm may = tt
  may_same n width now (Exchange (Cell cell) old new) calm may = absurd calm
  may_same n width now Local calm may = tt

-- whose member is in, where no count is exchanged
pub inside_is : (place : ℕ) (now : Option ℕ) (events : List Event) → IsCalm events
    → inside_after place now events ≡ whose_after place now events
inside_is place now [] calm = refl
inside_is place now (e ∷ events) calm =
    ap (λ (o : Option ℕ). inside_after place o events) (stored_same place e.party e.answer now e.access calm.0)
    ∙ inside_is place (stored_by place e.party e.access now) events calm.1

pub stays_calm : (n width place : ℕ) (now : Option ℕ) (events : List Event) → IsCalm events → StaysTillOut n width place now events
    → StaysTillTakenOut n width place now events
stays_calm n width place now [] calm h = tt
stays_calm n width place now (e ∷ events) calm h = (
  may_same place e.party e.answer n width now e.access calm.0 h.0,
  stays_calm n width place (stored_by place e.party e.access now) events calm.1
      (subst (λ (o : Option ℕ). StaysTillOut n width place o events) (stored_same place e.party e.answer now e.access calm.0) h.1),
)
