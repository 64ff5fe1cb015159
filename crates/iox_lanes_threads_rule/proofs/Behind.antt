-- The lanes that words and ports represent, after one access of a party.
use Rattle.std.proofs.Common.{◌≡◌, ◌<◌, ◌^◌, true, refl, sym, ◌∙◌, ap, subst, arith}
use Rattle.iox_lanes_machine.specs.LanesBase.Table.{TableWords, after_shared}
use Rattle.iox_lanes_machine.specs.LanesBase.declared.words.access.SharedAccess.{SharedAccess}
use Rattle.iox_lanes_machine.specs.LanesBase.declared.words.access.SharedAccess.TheVariants.{Local}
use Rattle.iox_lanes_machine.specs.LanesParties.declared.call.Move.{Move}
use Rattle.iox_lanes_machine.specs.LanesParties.declared.call.Party.{Party}
use Rattle.iox_lanes_machine.specs.LanesParties.declared.call.Party.TheVariants.{Publisher, Subscriber}
use Rattle.iox_lanes_machine.specs.Apart.{OthersStay}
use Rattle.iox_lanes_machine.specs.Rooms.{RoomsKept}
use Rattle.iox_lanes_machine.specs.Together.{HoldTogether}
use Rattle.iox_lanes_machine.specs.World.{World, fits, happens}
use Rattle.iox_lanes_machine.proofs.RoomKept.{happens_rooms}
use Rattle.iox_lanes_threads_rule.specs.Lanes.{IsEarly}
use Rattle.iox_lanes_threads_rule.proofs.Anew.{retimed, anew, rooms_anew}
use Rattle.iox_lanes_threads_rule.proofs.Together.{happens_together}

-- lanes after an access of one party: they hold together, have room at each connection, and all others are as they were
pub record AfterAccess (m : World) (who : Party) (access : SharedAccess) (n : World) : Type 0 where
  pub together : HoldTogether n
  pub rooms : RoomsKept n
  pub few : n.moments < 2 ^ 63
  pub table : n.table ≡ after_shared m.table access
  pub others : OthersStay m who n
  pub links : n.links ≡ m.links

others_on : (m n o : World) (who : Party) → OthersStay m who n → OthersStay n who o → OthersStay m who o
others_on m n o (Publisher place) h g = (g.0 ∙ h.0, (λ other off. g.1 other off ∙ h.1 other off))
others_on m n o (Subscriber place) h g = (g.0 ∙ h.0, (λ other off. g.1 other off ∙ h.1 other off))

others_same : (m : World) (who : Party) → OthersStay m who m
others_same m (Publisher place) = (refl, (λ other off. refl))
others_same m (Subscriber place) = (refl, (λ other off. refl))

anew_others : (m n : World) (who : Party) → OthersStay m who n → OthersStay m who (retimed n)
anew_others m n (Publisher place) h = h
anew_others m n (Subscriber place) h = h

-- no access, and then one
pub went_on : (m n o : World) (who : Party) (access : SharedAccess) → AfterAccess m who Local n → AfterAccess n who access o
    → AfterAccess m who access o
went_on m n o who access h g = record {
  together = g.together;
  rooms = g.rooms;
  few = g.few;
  table = g.table ∙ ap (λ (t : TableWords). after_shared t access) h.table;
  others = others_on m n o who h.others g.others;
  links = g.links ∙ h.links;
}

-- nothing is done
pub went_nowhere : (m : World) (who : Party) → HoldTogether m → RoomsKept m → m.moments < 2 ^ 63 → AfterAccess m who Local m
went_nowhere m who k rooms few = record { together = k; rooms = rooms; few = few; table = refl; others = others_same m who; links = refl }

-- a step of lanes, taken anew
pub stepped_anew : (m : World) (who : Party) (step : Move) (access : SharedAccess) → fits m who step ≡ true → m.moments < 2 ^ 63
    → HoldTogether m → RoomsKept m → (happens m who step).table ≡ after_shared m.table access → IsEarly (after_shared m.table access)
    → AfterAccess m who access (retimed (happens m who step))
stepped_anew m who step access fit bound k rooms table early =
    let made = happens_together m who step fit bound k in
    record {
      together = anew (happens m who step) (subst IsEarly (sym table) early) made.0;
      rooms = rooms_anew (happens m who step) (happens_rooms m who step fit bound k.within k.rings k.returns (k.returns.rings k.few)
          k.connections k.loans k.uses rooms);
      few = omega arith;
      table = table;
      others = anew_others m (happens m who step) who made.1;
      links = made.2;
    }
