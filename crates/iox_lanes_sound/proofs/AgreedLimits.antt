-- The subscribers of a domain's lanes may borrow as many samples as agreed, whatever is run.
use Rattle.std.proofs.Common.{ℕ, ◌≡◌, Bool, true, List, ◌∷◌, ◌++◌, slice_get, Option, Some, None, refl, sym, ◌∙◌, ap, subst}
use Rattle.iox_domain_values.specs.declared.service_sizes.ServiceSizes.{ServiceSizes}
use Rattle.iox_lanes.specs.Sized.{AreSized}
use Rattle.iox_lanes_laws.proofs.FinishedReceives.{finished_receives_follow}
use Rattle.iox_lanes_laws.proofs.StandingSubscribers.{entries_keep_limits, runs_keep_limits}
use Rattle.iox_lanes_laws.specs.FinishedReceives.{WasReceived}
use Rattle.iox_lanes_laws.specs.StandingSubscribers.{StaysThere}
use Rattle.iox_lanes_machine.specs.LanesParties.Parties.{SubscriberLaneState}
use Rattle.iox_lanes_machine.specs.LanesParties.declared.call.Call.TheVariants as call
use Rattle.iox_lanes_machine.specs.LanesParties.declared.call.Entry.{Entry}
use Rattle.iox_lanes_machine.specs.LanesParties.declared.call.FinishedCall.{FinishedCall}
use Rattle.iox_lanes_machine.specs.LanesParties.declared.call.Move.TheVariants.{Begin, GoOn}
use Rattle.iox_lanes_machine.specs.LanesParties.declared.call.Party.TheVariants.{Subscriber}
use Rattle.iox_lanes_machine.specs.Paces.{after_entry, led}
use Rattle.iox_lanes_machine.specs.WholeReads.{CameTo}
use Rattle.iox_lanes_machine.specs.World.{World, RunsTo, fits, subscriber_fits_at}
use Rattle.iox_lanes_sound.specs.AgreedLimits.{AgreedLimitsStay, ReceivesLookAsAgreed}

-- a subscriber that stays was there, and may borrow as many
limit_was : (at : Option SubscriberLaneState) (lane : SubscriberLaneState) (most : ℕ) → StaysThere at (Some lane)
    → ((before : SubscriberLaneState) → at ≡ Some before → before.port.most_borrowed ≡ most) → lane.port.most_borrowed ≡ most
limit_was None lane most stays h = absurd stays
limit_was (Some before) lane most stays h = stays.most_borrowed ∙ h before refl

-- it is there, and may borrow as many
limit_is : (at : Option SubscriberLaneState) (lane : SubscriberLaneState) (most : ℕ) → StaysThere (Some lane) at
    → ((after : SubscriberLaneState) → at ≡ Some after → after.port.most_borrowed ≡ most) → lane.port.most_borrowed ≡ most
limit_is None lane most stays h = absurd stays
limit_is (Some after) lane most stays h = sym stays.most_borrowed ∙ h after refl

pub agreed_limits_stay : AgreedLimitsStay
agreed_limits_stay = λ agreed publishers subscribers payload header begun is schedule made m runs place lane found.
    limit_was (slice_get begun.subscribers place) lane agreed.subscriber_max_borrowed_samples
    (subst (StaysThere (slice_get begun.subscribers place)) found (runs_keep_limits begun schedule made m runs place))
    (λ before there. is.borrowing place before there)

-- where a receive that ended came, its subscriber is still
still_there : (m : World) (ended : FinishedCall) (w : WasReceived m ended)
    → StaysThere (Some w.lane) (slice_get m.subscribers w.place)
still_there m ended w =
    let rest : List Entry = w.during ++ record { party = Subscriber w.place; step = GoOn } ∷ w.behind in
    let first : Entry = record { party = Subscriber w.place; step = Begin call.Receive } in
    let fit : fits w.before (Subscriber w.place) (Begin call.Receive) ≡ true
    = ap (λ (at : Option SubscriberLaneState). subscriber_fits_at at (Begin call.Receive)) w.found ∙ w.may in
    let led_to : led w.before (first ∷ rest) ≡ m = ap (λ (b : Bool). led (after_entry b w.before first) rest) fit ∙ w.leads in
    subst (λ (at : Option SubscriberLaneState). StaysThere at (slice_get m.subscribers w.place)) w.found
    (subst (λ (v : World). StaysThere (slice_get (w.before).subscribers w.place) (slice_get v.subscribers w.place)) led_to
    (entries_keep_limits w.before (first ∷ rest) w.place))

came_to : (agreed : ServiceSizes) (publishers subscribers payload header : ℕ) (begun : World)
    → AreSized agreed publishers subscribers payload header begun → (schedule : List Entry) (made : ℕ) (m : World)
    → RunsTo begun schedule made m → CameTo m
came_to agreed publishers subscribers payload header begun is schedule made m runs = record {
  sizes = is.sizes;
  some = (is.found).some;
  ports = (is.found).ports;
  small = (is.found).small;
  found = (is.found).found;
  begun = begun;
  finds = (is.found).finds;
  schedule = schedule;
  made = made;
  runs = runs;
}

pub receives_look_as_agreed : ReceivesLookAsAgreed
receives_look_as_agreed = λ agreed publishers subscribers payload header begun is schedule made m runs few ended has asked.
    let w = finished_receives_follow m (came_to agreed publishers subscribers payload header begun is schedule made m runs) few ended has
    asked in (
      w,
      limit_is (slice_get m.subscribers w.place) w.lane agreed.subscriber_max_borrowed_samples (still_there m ended w)
          (λ after there. agreed_limits_stay agreed publishers subscribers payload header begun is schedule made m runs w.place after
          there),
    )
