-- The borrow limits of the subscribers of a domain's lanes, whatever is run on them.
use Rattle.std.specs.Prelude.{ℕ, ◌≡◌, ◌≤◌, ◌^◌, List, Contains, slice_get, Some}
use Rattle.iox_domain_values.specs.declared.service_sizes.ServiceSizes.{ServiceSizes}
use Rattle.iox_lanes.specs.Sized.{AreSized}
use Rattle.iox_lanes_laws.specs.FinishedReceives.{WasReceived}
use Rattle.iox_lanes_machine.specs.LanesParties.Parties.{SubscriberLaneState}
use Rattle.iox_lanes_machine.specs.LanesParties.declared.call.CallName.TheVariants as name
use Rattle.iox_lanes_machine.specs.LanesParties.declared.call.Entry.{Entry}
use Rattle.iox_lanes_machine.specs.LanesParties.declared.call.FinishedCall.{FinishedCall}
use Rattle.iox_lanes_machine.specs.World.{World, RunsTo}

-- Whatever is run on lanes with the agreed sizes, each subscriber still has the agreed borrow limit.
abbrev pub AgreedLimitsStay : Type 0
AgreedLimitsStay = (agreed : ServiceSizes) (publishers subscribers payload_count header_count : ℕ) (begun : World)
    → AreSized agreed publishers subscribers payload_count header_count begun
    → (schedule : List Entry) (made : ℕ) (m : World) → RunsTo begun schedule made m
    → (place : ℕ) (lane : SubscriberLaneState) → slice_get m.subscribers place ≡ Some lane
    → lane.port.most_borrowed ≡ agreed.subscriber_max_borrowed_samples

-- On the lanes that `into_lanes` makes, each receive that ended kept to the agreed borrow limit: at each connection it only looked if the
-- agreed maximum of samples was borrowed, and took if fewer were. This holds as long as at most 2^63 steps were made.
abbrev pub ReceivesLookAsAgreed : Type 0
ReceivesLookAsAgreed = (agreed : ServiceSizes) (publishers subscribers payload_count header_count : ℕ) (begun : World)
    → AreSized agreed publishers subscribers payload_count header_count begun
    → (schedule : List Entry) (made : ℕ) (m : World) → RunsTo begun schedule made m → m.moments ≤ 2 ^ 63
    → (ended : FinishedCall) → Contains m.finished ended → ended.call ≡ name.Receive
    → (was : WasReceived m ended) × ((was.lane).port.most_borrowed ≡ agreed.subscriber_max_borrowed_samples)
