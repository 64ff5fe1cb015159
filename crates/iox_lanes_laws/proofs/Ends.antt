-- After a call that no other call overlaps nobody is inside a call.
use Rattle.std.proofs.Common.{ℕ, ◌≡◌, true, List, slice_get, Option, Some, None, refl, sym, ◌∙◌, ap, subst, inl, inr}
use Rattle.std.specs.List.{All}
use Rattle.std.proofs.lemmas.Bool.Decides.{eqb_tells}
use Rattle.iox_lanes_machine.specs.LanesBase.Publishing.{publisher_is_idle}
use Rattle.iox_lanes_machine.specs.LanesBase.Subscribing.{subscriber_is_idle}
use Rattle.iox_lanes_machine.specs.LanesParties.Parties.{PublisherLaneState, SubscriberLaneState}
use Rattle.iox_lanes_machine.specs.LanesParties.declared.call.Call.{Call}
use Rattle.iox_lanes_machine.specs.LanesParties.declared.call.Move.TheVariants.{Begin}
use Rattle.iox_lanes_machine.specs.LanesParties.declared.call.Party.{Party}
use Rattle.iox_lanes_machine.specs.LanesParties.declared.call.Party.TheVariants.{Publisher, Subscriber}
use Rattle.iox_lanes_machine.proofs.LanesParties.Rings.{all_at}
use Rattle.iox_lanes_machine.specs.Resting.{AllBetween}
use Rattle.iox_lanes_machine.specs.WholeReads.{CameTo}
use Rattle.iox_lanes_machine.specs.World.{World, publisher_fits_at, subscriber_fits_at}
use Rattle.iox_lanes_machine.proofs.Ends.{some_is}
use Rattle.iox_lanes_machine.proofs.Runs.{came_on}
use Rattle.iox_lanes_laws.specs.Turns.{IsInTurn, CallsEndInTurn}
use Rattle.iox_lanes_laws.proofs.Chains.{all_came, all_from}
use Rattle.iox_lanes_laws.proofs.Publishers as publishers
use Rattle.iox_lanes_laws.proofs.Subscribers as subscribers

-- who may begin is there
pub publisher_there : (m : World) (place : ℕ) (c : Call) (at : Option PublisherLaneState) → slice_get m.publishers place ≡ at
    → publisher_fits_at at (Begin c) ≡ true → (lane : PublisherLaneState) × (slice_get m.publishers place ≡ Some lane)
publisher_there m place c None e fit = absurd (cc fit)
publisher_there m place c (Some lane) e fit = (lane, e)

pub subscriber_there : (m : World) (place : ℕ) (c : Call) (at : Option SubscriberLaneState) → slice_get m.subscribers place ≡ at
    → subscriber_fits_at at (Begin c) ≡ true → (lane : SubscriberLaneState) × (slice_get m.subscribers place ≡ Some lane)
subscriber_there m place c None e fit = absurd (cc fit)
subscriber_there m place c (Some lane) e fit = (lane, e)

publisher_rests : (m n : World) (place : ℕ) (c : Call) (before after : PublisherLaneState)
    → publishers.WholeCall m place c before n after → slice_get n.publishers place ≡ Some after → AllBetween m → AllBetween n
publisher_rests m n place c before after w now between = record {
  publishers = all_from (λ (x : PublisherLaneState). publisher_is_idle x.port.call ≡ true) n.publishers
      (λ at x there. elim (eqb_tells at place) [
        | inl same ↦ subst (λ (y : PublisherLaneState). publisher_is_idle y.port.call ≡ true)
            (some_is after x (sym now ∙ ap (slice_get n.publishers) (sym same.1) ∙ there)) w.idle
        | inr other ↦ all_at (λ (y : PublisherLaneState). publisher_is_idle y.port.call ≡ true) m.publishers at x
            (sym (w.others.publishers at other.1) ∙ there) between.publishers
      ]);
  subscribers = subst (λ (xs : List SubscriberLaneState). All (λ lane. subscriber_is_idle lane.port.call ≡ true) xs)
      (sym w.others.subscribers) between.subscribers;
}

subscriber_rests : (m n : World) (place : ℕ) (c : Call) (before after : SubscriberLaneState)
    → subscribers.WholeCall m place c before (λ k lane. Unit {0}) n after → slice_get n.subscribers place ≡ Some after → AllBetween m
    → AllBetween n
subscriber_rests m n place c before after w now between = record {
  publishers = subst (λ (xs : List PublisherLaneState). All (λ lane. publisher_is_idle lane.port.call ≡ true) xs)
      (sym w.others.publishers) between.publishers;
  subscribers = all_from (λ (x : SubscriberLaneState). subscriber_is_idle x.port.call ≡ true) n.subscribers
      (λ at x there. elim (eqb_tells at place) [
        | inl same ↦ subst (λ (y : SubscriberLaneState). subscriber_is_idle y.port.call ≡ true)
            (some_is after x (sym now ∙ ap (slice_get n.subscribers) (sym same.1) ∙ there)) w.idle
        | inr other ↦ all_at (λ (y : SubscriberLaneState). subscriber_is_idle y.port.call ≡ true) m.subscribers at x
            (sym (w.others.subscribers at other.1) ∙ there) between.subscribers
      ]);
}

rests : (m : World) (party : Party) (c : Call) (n : World) → IsInTurn m party c n → AllBetween n
rests m (Publisher place) c n t =
    let before = publisher_there m place c (slice_get m.publishers place) refl t.begins.0 in
    let after = publishers.ends_there m place c before.0 n t before.1 in
    publisher_rests m n place c before.0 after.0 (publishers.whole m place c before.0 n after.0 t before.1 after.1) after.1 t.between
rests m (Subscriber place) c n t =
    let before = subscriber_there m place c (slice_get m.subscribers place) refl t.begins.0 in
    let after = subscribers.ends_there m place c before.0 n t before.1 in
    subscriber_rests m n place c before.0 after.0
    (subscribers.whole m place c before.0 (λ k lane. Unit {0}) n after.0 (λ k lane a a' bound next over s. tt) (λ may k bound. tt) t
    before.1 after.1) after.1 t.between

pub calls_end_in_turn : CallsEndInTurn
calls_end_in_turn = λ m party c n t. (
  all_came party t.more t.begun n t.goes (subst CameTo (sym t.begins.2) (came_on m party (Begin c) t.came t.begins.0)),
  rests m party c n t,
)
