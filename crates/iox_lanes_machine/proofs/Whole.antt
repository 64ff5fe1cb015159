-- Every step keeps all that lanes keep.
use Rattle.std.proofs.Common.{◌≡◌, ◌<◌, ◌^◌, Bool, true, false, refl, sym, subst, arith}
use Rattle.iox_lanes_machine.specs.QueuesSteps.declared.schedule.Stepped.{Stepped}
use Rattle.iox_lanes_machine.specs.QueuesSteps.declared.schedule.Stepped.TheVariants as stepped
use Rattle.iox_lanes_machine.specs.LanesParties.declared.call.Move.{Move}
use Rattle.iox_lanes_machine.specs.LanesParties.declared.call.Party.{Party}
use Rattle.iox_lanes_machine.specs.Alone.{UsedSlotsStay}
use Rattle.iox_lanes_machine.specs.Kept.{IsKept}
use Rattle.iox_lanes_machine.specs.World.{World, fits, happens, ends, StepsTo}
use Rattle.iox_lanes_machine.proofs.Connected.{sends_connected}
use Rattle.iox_lanes_machine.proofs.Alone.{used_stay}
use Rattle.iox_lanes_machine.proofs.Apart.{steps_apart}
use Rattle.iox_lanes_machine.proofs.Held.{happens_held}
use Rattle.iox_lanes_machine.proofs.Left.{happens_left}
use Rattle.iox_lanes_machine.proofs.UsesSteps.{happens_uses}
use Rattle.iox_lanes_machine.proofs.Calls.{happens_calls}
use Rattle.iox_lanes_machine.proofs.Opening.{happens_named}
use Rattle.iox_lanes_machine.proofs.ReadWords.{happens_reads}
use Rattle.iox_lanes_machine.proofs.Receipts.{happens_gives}
use Rattle.iox_lanes_machine.proofs.ReturnSteps.{happens_returns}
use Rattle.iox_lanes_machine.proofs.RoomKept.{happens_rooms}
use Rattle.iox_lanes_machine.proofs.SendSteps.{happens_sends}
use Rattle.iox_lanes_machine.proofs.Slots.{happens_loans, slots_stay}
use Rattle.iox_lanes_machine.proofs.Steps.{happens_rings, happens_moments}
use Rattle.iox_lanes_machine.proofs.Within.{happens_within}

-- a step that fits is made
pub step_made : (m : World) (party : Party) (step : Move) → fits m party step ≡ true → (b : Bool) → ends m party step ≡ b
    → (r : Stepped) × StepsTo m party step r (happens m party step)
step_made m party step fit true e = (stepped.Finished, (fit, e, refl))
step_made m party step fit false e = (stepped.Went, (fit, e, refl))

-- it leaves the words of each slot that has a use
pub step_uses : (m : World) (party : Party) (step : Move) → fits m party step ≡ true → IsKept m → UsedSlotsStay m (happens m party step)
step_uses m party step fit k =
    let made = step_made m party step fit (ends m party step) refl in
    used_stay m party (happens m party step) k
    (slots_stay m party step made.0 (happens m party step) k.loans
    (steps_apart m party step made.0 (happens m party step) made.1 k.within))

pub happens_keeps : (m : World) (party : Party) (step : Move) → fits m party step ≡ true → IsKept m → IsKept (happens m party step)
happens_keeps m party step fit k = record {
  within = happens_within m party step fit k.within;
  rings = λ few. let bound : m.moments < 2 ^ 63 = omega (arith, happens_moments m party step fit, few) in
      happens_rings m party step fit bound k.within (k.rings (omega (arith, bound)));
  receipts = λ few. let bound : m.moments < 2 ^ 63 = omega (arith, happens_moments m party step fit, few) in
      happens_gives m party step fit bound k.within (k.rings (omega (arith, bound))) (k.receipts (omega (arith, bound)));
  calls = λ few. let bound : m.moments < 2 ^ 63 = omega (arith, happens_moments m party step fit, few) in
      happens_calls m party step fit bound (k.calls (omega (arith, bound)));
  sends = λ few. let bound : m.moments < 2 ^ 63 = omega (arith, happens_moments m party step fit, few) in
      happens_sends m party step fit bound k.within (k.rings (omega (arith, bound))) (k.calls (omega (arith, bound)))
      (k.sends (omega (arith, bound)));
  loans = happens_loans m party step fit k.loans;
  returns = happens_returns m party step fit (λ few. omega (arith, happens_moments m party step fit, few)) k.within k.returns;
  reads = happens_reads m party step k.reads;
  uses = λ few. let bound : m.moments < 2 ^ 63 = omega (arith, happens_moments m party step fit, few) in
      happens_uses m party step fit bound k.within (k.rings (omega (arith, bound))) k.returns (k.returns.rings (omega (arith, bound)))
      (sends_connected m (k.sends (omega (arith, bound)))) k.loans (k.uses (omega (arith, bound)));
  held = λ few. let bound : m.moments < 2 ^ 63 = omega (arith, happens_moments m party step fit, few) in
      happens_held m party step k.within (k.uses (omega (arith, bound))) k.reads (step_uses m party step fit k) (omega (arith, bound))
      (k.held (omega (arith, bound)));
  rooms = λ few. let bound : m.moments < 2 ^ 63 = omega (arith, happens_moments m party step fit, few) in
      happens_rooms m party step fit bound k.within (k.rings (omega (arith, bound))) k.returns (k.returns.rings (omega (arith, bound)))
      (sends_connected m (k.sends (omega (arith, bound)))) k.loans (k.uses (omega (arith, bound))) (k.rooms (omega (arith, bound)));
  left = λ few. let bound : m.moments < 2 ^ 63 = omega (arith, happens_moments m party step fit, few) in
      let made = step_made m party step fit (ends m party step) refl in
      let apart = steps_apart m party step made.0 (happens m party step) made.1 k.within in
      happens_left m party step fit k.within k.loans (k.uses (omega (arith, bound)))
      (slots_stay m party step made.0 (happens m party step) k.loans apart) (k.left (omega (arith, bound)));
  named = happens_named m party step fit k.within k.named;
  fresh = λ none. absurd (omega (arith, happens_moments m party step fit, none));
}

pub steps_keep : (m : World) (party : Party) (step : Move) (r : Stepped) (n : World) → StepsTo m party step r n → IsKept m → IsKept n
steps_keep m party step stepped.Went n h k = subst IsKept (sym h.2) (happens_keeps m party step h.0 k)
steps_keep m party step stepped.Finished n h k = subst IsKept (sym h.2) (happens_keeps m party step h.0 k)
steps_keep m party step stepped.Skipped n h k = subst IsKept (sym h.1) k
steps_keep m party step stepped.NoMemory n h k = subst IsKept (sym h.2) k
