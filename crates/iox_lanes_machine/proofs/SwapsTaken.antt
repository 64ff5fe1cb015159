-- Connections of a subscriber that change places are all that changes.
use Rattle.std.proofs.Common.{ℕ, ◌≡◌, Bool, true, nat_lt, length, set, slice_get, Option, Some, None, refl, sym, ◌∙◌, ap, subst, inl, inr}
use Rattle.std.proofs.Common.{arith}
use Rattle.std.specs.List.{swap}
use Rattle.std.proofs.lemmas.Bool.{lt-ltb}
use Rattle.std.proofs.lemmas.List.{append-nil, length-set}
use Rattle.std.proofs.lemmas.List.Edits.{length-swap}
use Rattle.iox_lanes_machine.specs.LanesParties.Parties.{SubscriberLaneState, receiver_swapped}
use Rattle.iox_lanes_machine.specs.Findings.{swaps_of, swapped_of}
use Rattle.iox_lanes_machine.specs.TakenIn.{MayChangePlaces, other_place, place_if, place_before, RoutesKnow, PublisherGrows}
use Rattle.iox_lanes_machine.specs.TakenIn.{SubscriberKnows, IsTakenIn}
use Rattle.iox_lanes_machine.specs.World.{World}
use Rattle.iox_lanes_machine.specs.declared.found.Found.{Found}
use Rattle.iox_lanes_machine.specs.declared.found.Found.TheVariants as found
use Rattle.iox_lanes_machine.proofs.BuffersTaken.{link_same, itself, both, differs, none_more, heads_stay}
use Rattle.iox_lanes_machine.proofs.Ends.{some_is}
use Rattle.iox_lanes_machine.proofs.FoundFresh.{set_cases}
use Rattle.iox_lanes_machine.proofs.Swaps.{MaySwap, may_swap_is, swapped_at}

swap_taken : (m : World) (who one other : ℕ) (lane : SubscriberLaneState) → MaySwap one other lane
    → slice_get m.subscribers who ≡ Some lane → IsTakenIn m (found.Swapped who one other) (swapped_of m who one other (Some lane))
swap_taken m who one other lane may stands = record {
  links = λ d. link_same (slice_get m.links d);
  messages = λ d link e. none_more _;
  samples = λ d link e. none_more _;
  word = λ slot word value e. absurd (cc e);
  words = λ slot word there not. refl;
  publishers = λ i was now before behind. subst (PublisherGrows m f i was) (some_is was now (sym before ∙ behind)) (record {
    routes = record { each = λ at r e. e; as_many = refl };
    history = sym (append-nil was.port.book.history);
    referred = λ at slot. omega arith;
    uses = λ slot. omega arith;
    slots = refl;
    marks = refl;
    loans = λ slot. refl;
    most = refl;
    heads = heads_stay f i was.heads refl refl refl;
    fails = refl;
    last = refl;
    same = refl;
  });
  as_many = refl;
  subscribers = knows;
  as_many_receive = length-set m.subscribers who now';
  same = refl;
}
  where
    f : Found
    f = found.Swapped who one other

    now' : SubscriberLaneState
    now' = receiver_swapped one other lane

    moved : RoutesKnow m f (place_before f who) lane.port.routes (swap lane.port.routes one other)
    moved = record {
      each = λ at r e.
          let before : place_before f who at ≡ other_place one other at = ap (λ (b : Bool). place_if b one other at) (itself who) in
          swapped_at lane.port.routes one other at may.low may.high ∙ ap (slice_get lane.port.routes) (sym before) ∙ e;
      as_many = length-swap lane.port.routes one other;
    }

    knows : (i : ℕ) (was now : SubscriberLaneState) → slice_get m.subscribers i ≡ Some was
        → slice_get (set m.subscribers who now') i ≡ Some now → SubscriberKnows m f i was now
    knows i was now before behind = elim (set_cases m.subscribers who lane now' stands i now behind) [
      | inl here ↦
          let was_is : lane ≡ was = some_is lane was (sym stands ∙ ap (slice_get m.subscribers) (sym here.0) ∙ before) in
          let own : SubscriberKnows m f who lane now' = record { routes = moved; same = refl } in
          subst (SubscriberKnows m f i was) here.1
          (subst (λ (l : SubscriberLaneState). SubscriberKnows m f i l now') was_is
          (subst (λ (x : ℕ). SubscriberKnows m f x lane now') (sym here.0) own))
      | inr off ↦ subst (SubscriberKnows m f i was) (some_is was now (sym before ∙ off.1)) (record {
        routes = record {
          each = λ at r e.
              let stays : place_before f i at ≡ at = ap (λ (b : Bool). place_if b one other at) (differs who i off.0) in
              ap (slice_get was.port.routes) (sym stays) ∙ e;
          as_many = refl;
        };
        same = refl;
      })
    ]

pub swaps_taken : (m : World) (who one other : ℕ) (at : Option SubscriberLaneState) → slice_get m.subscribers who ≡ at
    → swaps_of one other at ≡ true → IsTakenIn m (found.Swapped who one other) (swapped_of m who one other (slice_get m.subscribers who))
swaps_taken m who one other None e fit = absurd (cc fit)
swaps_taken m who one other (Some lane) e fit =
    subst (IsTakenIn m (found.Swapped who one other)) (sym (ap (swapped_of m who one other) e))
    (swap_taken m who one other lane (may_swap_is one other lane fit) e)

-- what the tests of it say, and where it may be found they say so
pub swaps_may : (m : World) (who one other : ℕ) (at : Option SubscriberLaneState) → slice_get m.subscribers who ≡ at
    → swaps_of one other at ≡ true → MayChangePlaces m who one other
swaps_may m who one other None e fit = absurd (cc fit)
swaps_may m who one other (Some lane) e fit =
    let is = may_swap_is one other lane fit in
    record { lane = lane; subscriber = e; has_one = is.low; has_other = is.high }

pub swaps_say : (m : World) (who one other : ℕ) → MayChangePlaces m who one other → swaps_of one other (slice_get m.subscribers who) ≡ true
swaps_say m who one other is =
    let many : ℕ = length is.lane.port.routes in
    ap (swaps_of one other) is.subscriber ∙ both (nat_lt one many) (nat_lt other many) (lt-ltb one many is.has_one)
    (lt-ltb other many is.has_other)
