-- What a call on a single value knows, after a step of another party.
use Rattle.std.proofs.Common.{◌≡◌, ℕ, ◌<◌, ◌≤◌, ◌⊎◌, inl, inr, ⊎_elim, Option, Some, List, [], ◌∷◌, ◌++◌, length, slice_index}
use Rattle.std.proofs.Common.{drop, sym, ◌∙◌, ap, arith, append_assoc}
use Rattle.std.specs.Global.{Vec}
use Rattle.iox_queues.specs.Told.{own}
use Rattle.iox_queues.specs.declared.bits.machine.Event.{Event}
use Rattle.iox_queues.specs.Values.{table_value}
use Rattle.iox_index_steps.specs.AtomicTold.{Tells, current_of, found_after, put_after}
use Rattle.iox_index_steps.specs.AtomicKept.{HoldsNone, Knows}
use Rattle.iox_index_steps.specs.declared.atomic.call.Call.{Call}
use Rattle.iox_index_steps.specs.declared.atomic.call.Call.TheVariants as call
use Rattle.iox_index_steps.specs.declared.atomic.call.AtomicCall.{AtomicCall}
use Rattle.iox_index_steps.specs.declared.atomic.call.AtomicCall.TheVariants as stage
use Rattle.iox_queues.proofs.OwnSteps.{own_else, own_else_since}

-- what a step of another party leaves to party q: its store in hand, and the current words unless the counter moved on
pub record LeavesToOther (q : ℕ) (producer producer' : Option ℕ) (write write' : ℕ) (put put' current current' : List ℕ) : Type 0 where
  pub kept : producer ≡ Some q → (producer' ≡ Some q) × (put' ≡ put) × (write' ≡ write)
  pub going : (write < write') ⊎ ((write' ≡ write) × (current' ≡ current))

-- a told call stays told
tells_else : (values : List (Vec ℕ)) (q first : ℕ) (events : List Event) (e : Event) → (e.party ≡ q → ⊥) → (c : Call)
    → Tells values q first events c → Tells values q first (events ++ e ∷ []) c
tells_else values q first events e differs (call.Store number) t = record {
  before = t.before;
  moment = t.moment;
  after = t.after ++ e ∷ [];
  whole = ap (λ (es : List Event). es ++ e ∷ []) t.whole ∙ append_assoc t.before (t.moment ∷ t.after) (e ∷ []);
  inside = t.inside;
  its = t.its;
  moves = t.moves;
  makes = t.makes;
  last = own_else q t.after e differs ∙ t.last;
}
tells_else values q first events e differs call.Load t = record {
  before = t.before;
  look = t.look;
  after = t.after ++ e ∷ [];
  whole = ap (λ (es : List Event). es ++ e ∷ []) t.whole ∙ append_assoc t.before (t.look ∷ t.after) (e ∷ []);
  inside = t.inside;
  its = t.its;
  looks = t.looks;
  sees = t.sees;
  last = own_else q t.after e differs ∙ t.last;
}

module _ (values : List (Vec ℕ)) (q first : ℕ) (events : List Event) (e : Event) (differs : e.party ≡ q → ⊥)
    (began : first ≤ length events) (producer producer' : Option ℕ) (write write' : ℕ)
    (l : LeavesToOther q producer producer' write write' (put_after [] events) (put_after [] (events ++ e ∷ []))
    (current_of (table_value values 0) events) (current_of (table_value values 0) (events ++ e ∷ []))) where
  found_same : found_after [] (own q (drop first (events ++ e ∷ []))) ≡ found_after [] (own q (drop first events))
  found_same = ap (found_after []) (own_else_since q first events e began differs)

  holds_else : (c : Call) → HoldsNone producer (put_after [] events) q c → HoldsNone producer' (put_after [] (events ++ e ∷ [])) q c
  holds_else (call.Store number) h = ((l.kept h.0).0, (l.kept h.0).1 ∙ h.1)
  holds_else call.Load h = tt

  pub knows_else : (s : AtomicCall) → Knows values write producer events q first s
      → Knows values write' producer' (events ++ e ∷ []) q first s
  knows_else stage.Idle k = tt
  knows_else (stage.Store number) k = (k.0, (l.kept k.1).0, (l.kept k.1).1 ∙ k.2)
  knows_else (stage.Fill number counter next) k = (
    k.0,
    (l.kept k.1).0,
    (l.kept k.1).1 ∙ k.2,
    k.3 ∙ sym (l.kept k.1).2,
    k.4,
  )
  knows_else stage.Load k = tt
  knows_else (stage.Gather counter next) k = (
    ap (λ (found : List ℕ). length found) found_same ∙ k.0,
    k.1,
    ⊎_elim (λ (more : write < write'). omega (arith, k.2, more))
        (λ (same : (write' ≡ write) × (current_of (table_value values 0) (events ++ e ∷ []) ≡ current_of (table_value values 0) events)).
        omega (arith, k.2, same.0)) l.going,
    λ is i within. ap (λ (found : List ℕ). slice_index found i) found_same ∙ still l.going is i within,
  )
    where
      still : (write < write')
          ⊎ ((write' ≡ write) × (current_of (table_value values 0) (events ++ e ∷ []) ≡ current_of (table_value values 0) events))
          → counter ≡ write' → (i : ℕ) → i < next
          → slice_index (found_after [] (own q (drop first events))) i
          ≡ slice_index (current_of (table_value values 0) (events ++ e ∷ [])) i
      still (inl more) is i within = absurd (omega (arith, more, is, k.2))
      still (inr same) is i within = k.3 (is ∙ same.0) i within ∙ ap (λ (xs : List ℕ). slice_index xs i) (sym same.1)
  knows_else (stage.Done c) k = (holds_else c k.0, tells_else values q first events e differs c k.1)
