-- The words and ports that lanes are opened as represent these lanes.
use Rattle.std.proofs.Common.{ℕ, zero, suc, ◌≡◌, ◌+◌, List, [], ◌∷◌, slice_get, Some, refl, sym, ◌∙◌, ap, subst, inl, inr, arith}
use Rattle.std.specs.List.{All}
use Rattle.std.proofs.lemmas.List.Elements.{All-nil}
use mathlib.Core.Option.{some, some-injective}
use lib.ListN.{get_elem?}
use Rattle.iox_lanes_machine.specs.LanesParties.Parties.{PublisherLaneState, SubscriberLaneState}
use Rattle.iox_lanes_machine.specs.Rooms.{RoomsKept}
use Rattle.iox_lanes_machine.specs.Together.{HoldTogether}
use Rattle.iox_lanes_machine.specs.World.{World}
use Rattle.iox_lanes_threads_ports.specs.LanesThreadsRule.Lanes.{HasParty, IsSeen, IsBacked}
use Rattle.iox_lanes_threads_ports.specs.LanesThreadsRule.declared.view.Port.{Port}
use Rattle.iox_lanes_threads_rule.proofs.Anew.{retimed, anew, rooms_anew}
use Rattle.iox_lanes_threads.specs.Opening.{service_of, publishers_from, subscribers_from, ports_of}
use Rattle.iox_lanes_threads_rule.proofs.Lists.{none_there, in_either}

module _ (m : World) where
  publisher_back : (lanes : List PublisherLaneState) (place i : ℕ) (p : Port)
      → ((j : ℕ) (lane : PublisherLaneState) → slice_get lanes j ≡ Some lane → slice_get m.publishers (place + j) ≡ Some lane)
      → get_elem? (publishers_from m place lanes) i ≡ some p → HasParty (retimed m) p.name p.party × (p.seen ≡ [])
  publisher_back [] place i p there e = absurd (none_there p i e)
  publisher_back (lane ∷ lanes) place zero p there e =
      let here : place ≡ place + 0 = omega arith in
      subst (λ (q : Port). HasParty (retimed m) q.name q.party × (q.seen ≡ [])) (some-injective _ p e)
      ((lane.first, ap (slice_get m.publishers) here ∙ there 0 lane refl), refl)
  publisher_back (lane ∷ lanes) place (suc i) p there e =
      publisher_back lanes (place + 1) i p
      (λ j x f. let next : place + 1 + j ≡ place + suc j = omega arith in ap (slice_get m.publishers) next ∙ there (suc j) x f) e

  subscriber_back : (lanes : List SubscriberLaneState) (place i : ℕ) (p : Port)
      → ((j : ℕ) (lane : SubscriberLaneState) → slice_get lanes j ≡ Some lane → slice_get m.subscribers (place + j) ≡ Some lane)
      → get_elem? (subscribers_from m place lanes) i ≡ some p → HasParty (retimed m) p.name p.party × (p.seen ≡ [])
  subscriber_back [] place i p there e = absurd (none_there p i e)
  subscriber_back (lane ∷ lanes) place zero p there e =
      let here : place ≡ place + 0 = omega arith in
      subst (λ (q : Port). HasParty (retimed m) q.name q.party × (q.seen ≡ [])) (some-injective _ p e)
      ((lane.first, ap (slice_get m.subscribers) here ∙ there 0 lane refl), refl)
  subscriber_back (lane ∷ lanes) place (suc i) p there e =
      subscriber_back lanes (place + 1) i p
      (λ j x f. let next : place + 1 + j ≡ place + suc j = omega arith in ap (slice_get m.subscribers) next ∙ there (suc j) x f) e

  port_back : (i : ℕ) (p : Port) → get_elem? (ports_of m) i ≡ some p → HasParty (retimed m) p.name p.party × (p.seen ≡ [])
  port_back i p e = elim (in_either (publishers_from m 0 m.publishers) (subscribers_from m 0 m.subscribers) i p e) [
    | inl here ↦ publisher_back m.publishers 0 i p
        (λ j lane f. let same : 0 + j ≡ j = omega arith in ap (slice_get m.publishers) same ∙ f) here
    | inr there ↦ subscriber_back m.subscribers 0 there.0 p
        (λ j lane f. let same : 0 + j ≡ j = omega arith in ap (slice_get m.subscribers) same ∙ f) there.2
  ]

  pub lanes_back : HoldTogether m → RoomsKept m → IsBacked (service_of m) m.table.words (ports_of m)
  lanes_back k rooms early = record {
    lanes = retimed m;
    together = anew m early k;
    rooms = rooms_anew m rooms;
    few = omega arith;
    table = refl;
    lines = refl;
    ports = λ number p at. (port_back number p at).0;
    seen = λ number p at. subst (All (IsSeen (service_of m) m.table.words p)) (sym (port_back number p at).1)
        (All-nil (IsSeen (service_of m) m.table.words p));
  }
