-- What a call knows after a step of another party.
use Rattle.std.proofs.Common.{◌≡◌, ℕ, ◌<◌, ◌⊎◌, inl, inr, Bool, true, false, ◌==◌, Ok, Err, List, [], ◌∷◌, ◌++◌}
use Rattle.std.proofs.Common.{slice_index, refl, sym, ◌∙◌, arith}
use Rattle.std.proofs.lemmas.Bool.{eqb-true, eq-eqb, or_left, or_parts}
use Rattle.std.proofs.lemmas.List.Folds.{list_any-append}
use Rattle.iox_container.specs.declared.error.UniqueIndexSetAcquireFailure.TheVariants.{OutOfIndices, IsLocked}
use Rattle.iox_container.specs.declared.release.ReleaseMode.TheVariants.{LockIfLastIndex, Default}
use Rattle.iox_container.specs.declared.release.ReleaseState.TheVariants.{Locked, Unlocked}
use Rattle.iox_queues_steps.specs.Access.{RingWords}
use Rattle.iox_queues.specs.declared.bits.machine.Event.{Event}
use Rattle.iox_robust_steps.specs.Steps.{lock_mark, reserved}
use Rattle.iox_robust_steps.specs.Told.{Tells}
use Rattle.iox_robust_steps.specs.Machine.{is_lost, place_of}
use Rattle.iox_robust_steps.specs.Kept.{IsOwner, IsQuiet, Knows, QuietBelow, StandsSo}
use Rattle.iox_robust_steps.specs.declared.call.Answer.{Answer}
use Rattle.iox_robust_steps.specs.declared.call.Answer.TheVariants.{Acquired, Settled}
use Rattle.iox_robust_steps.specs.declared.call.Call.{Call}
use Rattle.iox_robust_steps.specs.declared.call.Call.TheVariants as call
use Rattle.iox_robust_steps.specs.declared.call.RobustCall.{RobustCall}
use Rattle.iox_robust_steps.specs.declared.call.RobustCall.TheVariants as stage
use Rattle.iox_robust_steps.specs.declared.state.Place.{Place}
use Rattle.iox_robust_steps.specs.declared.state.Place.TheVariants as place
use Rattle.iox_robust_steps.proofs.Whole.{BelongsTo, LeavesTo}

-- an answer stays told, since a locked set stays locked
pub tells_locked : (n : ℕ) (l l' : Bool) (es : List Event) → (l ≡ true → l' ≡ true) → (c : Call) (a : Answer) → Tells n l es c a
    → Tells n l' es c a
tells_locked n l l' es on (call.Acquire owner) (Acquired (Ok i)) t = t
tells_locked n l l' es on (call.Acquire owner) (Acquired (Err OutOfIndices)) t = t
tells_locked n l l' es on (call.Acquire owner) (Acquired (Err IsLocked)) t = (t.0, on t.1)
tells_locked n l l' es on (call.Acquire owner) (Settled state) t = t
tells_locked n l l' es on (call.Release owner i LockIfLastIndex) (Acquired got) t = t
tells_locked n l l' es on (call.Release owner i Default) (Acquired got) t = t
tells_locked n l l' es on (call.Release owner i LockIfLastIndex) (Settled Locked) t = (t.0, on t.1)
tells_locked n l l' es on (call.Release owner i Default) (Settled Locked) t = t
tells_locked n l l' es on (call.Release owner i LockIfLastIndex) (Settled Unlocked) t = t
tells_locked n l l' es on (call.Release owner i Default) (Settled Unlocked) t = t
tells_locked n l l' es on (call.Recover owner number LockIfLastIndex) (Acquired got) t = t
tells_locked n l l' es on (call.Recover owner number Default) (Acquired got) t = t
tells_locked n l l' es on (call.Recover owner number LockIfLastIndex) (Settled Locked) t = (t.0, on t.1)
tells_locked n l l' es on (call.Recover owner number Default) (Settled Locked) t = t
tells_locked n l l' es on (call.Recover owner number LockIfLastIndex) (Settled Unlocked) t = t
tells_locked n l l' es on (call.Recover owner number Default) (Settled Unlocked) t = t

pub mark_on : (read read' : ℕ) → (read ≡ lock_mark → read' ≡ lock_mark) → (read == lock_mark) ≡ true → (read' == lock_mark) ≡ true
mark_on read read' on h = eq-eqb read' lock_mark (on (eqb-true read lock_mark h))

module _ (n q : ℕ) (words words' : RingWords) (places places' : List Place) (lost : List ℕ) (es : List Event)
    (l : LeavesTo q words words' places places' lost) where
  stands_on : (owner i : ℕ) (stand : Place) (cell : ℕ) → IsOwner owner → BelongsTo q stand → (cell ≡ owner) ⊎ (cell ≡ reserved owner)
      → StandsSo words places lost owner i stand cell → StandsSo words' places' lost owner i stand cell
  stands_on owner i stand cell owns its value k = λ live.
      let before : (place_of places i ≡ stand) × (slice_index words.cells i ≡ cell) = k live in
      let after : (place_of places' i ≡ stand) × (slice_index words'.cells i ≡ slice_index words.cells i)
      = l.keeps owner i stand live owns its before.0 (holds value before.1) in (after.0, after.1 ∙ before.1)
    where
      holds : (cell ≡ owner) ⊎ (cell ≡ reserved owner) → slice_index words.cells i ≡ cell
          → (slice_index words.cells i ≡ owner) ⊎ (slice_index words.cells i ≡ reserved owner)
      holds (inl h) is = inl (is ∙ h)
      holds (inr h) is = inr (is ∙ h)

  quiet_on : (count m : ℕ) → QuietBelow words places count m → QuietBelow words' places' count m
  quiet_on count m k = of l.quiets
    where
      of : ((words'.read ≡ words.read) × ((j : ℕ) → IsQuiet (place_of places j) → IsQuiet (place_of places' j)))
          ⊎ (words.read < words'.read) → QuietBelow words' places' count m
      of (inl h) = (k.0, omega (arith, k.1, h.0), λ is j below. h.1 j (k.2 (sym h.0 ∙ is) j below))
      of (inr h) = (k.0, omega (arith, k.1, h), λ is j below. absurd (omega (arith, k.1, h, is)))

  pub knows_else : (s : RobustCall) → Knows n words places lost q es s → Knows n words' places' lost q es s
  knows_else stage.Idle k = tt
  knows_else (stage.Acquire owner) k = k
  knows_else (stage.Claim owner i count) k = k
  knows_else (stage.Count owner i count) k
      = (k.0, k.1, k.2, k.3, stands_on owner i (place.Claimed q) (reserved owner) k.0 refl (inr refl) k.4)
  knows_else (stage.Confirm owner i) k = (k.0, k.1, k.2, stands_on owner i (place.Counted q) (reserved owner) k.0 refl (inr refl) k.3)
  knows_else (stage.Undo owner i) k
      = (k.0, k.1, k.2, l.locked k.3, stands_on owner i (place.Claimed q) (reserved owner) k.0 refl (inr refl) k.4)
  knows_else (stage.Free owner i mode) k = (k.0, k.1, k.2, stands_on owner i (place.Held q) owner k.0 refl (inl refl) k.3)
  knows_else (stage.Look owner number mode i) k = k
  knows_else (stage.Clear owner number mode i seen) k = k
  knows_else (stage.Settle c) k = k
  knows_else (stage.Scan c i count) k = (k.0, k.1, quiet_on count i k.2)
  knows_else (stage.Lock c count) k = (k.0, quiet_on count n k.1)
  knows_else (stage.Done c answer) k =
      tells_locked n (words.read == lock_mark) (words'.read == lock_mark) es (mark_on words.read words'.read l.locked) c answer k

-- one more recovery began
pub lost_before : (owner other : ℕ) (lost : List ℕ) → is_lost owner (lost ++ other ∷ []) ≡ false → is_lost owner lost ≡ false
lost_before owner other lost h =
    (or_parts (is_lost owner lost) (is_lost owner (other ∷ [])) (sym (list_any-append (λ (o : ℕ). o == owner) lost (other ∷ [])) ∙ h)).0

pub lost_still : (owner other : ℕ) (lost : List ℕ) → is_lost owner lost ≡ true → is_lost owner (lost ++ other ∷ []) ≡ true
lost_still owner other lost h =
    list_any-append (λ (o : ℕ). o == owner) lost (other ∷ []) ∙ or_left (is_lost owner lost) (is_lost owner (other ∷ [])) h

module _ (n q : ℕ) (words : RingWords) (places : List Place) (lost : List ℕ) (other : ℕ) (es : List Event) where
  pub knows_lost : (s : RobustCall) → Knows n words places lost q es s → Knows n words places (lost ++ other ∷ []) q es s
  knows_lost stage.Idle k = tt
  knows_lost (stage.Acquire owner) k = k
  knows_lost (stage.Claim owner i count) k = k
  knows_lost (stage.Count owner i count) k = (k.0, k.1, k.2, k.3, λ live. k.4 (lost_before owner other lost live))
  knows_lost (stage.Confirm owner i) k = (k.0, k.1, k.2, λ live. k.3 (lost_before owner other lost live))
  knows_lost (stage.Undo owner i) k = (k.0, k.1, k.2, k.3, λ live. k.4 (lost_before owner other lost live))
  knows_lost (stage.Free owner i mode) k = (k.0, k.1, k.2, λ live. k.3 (lost_before owner other lost live))
  knows_lost (stage.Look owner number mode i) k = (k.0, k.1, k.2, lost_still owner other lost k.3)
  knows_lost (stage.Clear owner number mode i seen) k = (k.0, k.1, k.2, lost_still owner other lost k.3, k.4)
  knows_lost (stage.Settle c) k = k
  knows_lost (stage.Scan c i count) k = k
  knows_lost (stage.Lock c count) k = k
  knows_lost (stage.Done c answer) k = k
