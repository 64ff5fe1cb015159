-- What findings make of the publishers of lanes: each of at most the one that it is about.
use Rattle.std.proofs.Common.{ℕ, zero, suc, ◌≡◌, ◌⊎◌, Bool, true, false, List, [], ◌∷◌, map, set, slice_get, if◌then◌else◌, Option, Some}
use Rattle.std.proofs.Common.{None, refl, sym, ◌∙◌, ap, inl, inr}
use Rattle.std.proofs.Math.Seq.{map-set_same}
use Rattle.std.proofs.lemmas.Bool.{cond-true}
use Rattle.std.proofs.lemmas.Option.{get_or_from_slice_get}
use Rattle.iox_lanes_machine.specs.LanesBase.declared.calls.route.Route.{Route}
use Rattle.iox_lanes_machine.specs.LanesParties.Parties.{PublisherLaneState, lane_found, lane_meets, lane_named, lane_remembers}
use Rattle.iox_lanes_machine.specs.LanesParties.Parties.{lane_resized}
use Rattle.iox_lanes_machine.specs.Findings.{buffered_at, buffered_in, buffered_of, finds, given_at, given_of, named_of, remembered_of}
use Rattle.iox_lanes_machine.specs.Findings.{resized_of, swapped_of, waiting_at, waiting_in, waiting_of, with_buffer, with_found}
use Rattle.iox_lanes_machine.specs.Links.{LinkState}
use Rattle.iox_lanes_machine.specs.LanesParties.Parties.{SubscriberLaneState}
use Rattle.iox_lanes_machine.specs.World.{World}
use Rattle.iox_lanes_machine.specs.declared.found.Found.{Found}
use Rattle.iox_lanes_machine.specs.declared.found.Found.TheVariants as found
use Rattle.iox_lanes.specs.Behind.{behind_finding}

-- the place of the publisher that a finding is about; 0 where it is about none
abbrev pub who_of : Found → ℕ
who_of (found.Waiting publisher place slot) = publisher
who_of (found.GivenBack publisher place slot) = publisher
who_of (found.Newest publisher slot) = publisher
who_of (found.Held slot word value) = 0
who_of (found.Buffer publisher place messages) = publisher
who_of (found.Slots publisher slots most_loans) = publisher
who_of (found.Sender publisher node_id publisher_id fails last) = publisher
who_of (found.Swapped subscriber one other) = 0

-- what it makes of that publisher; of none it makes nothing
abbrev pub Moves : Found → PublisherLaneState → PublisherLaneState → Type 0
Moves (found.Waiting publisher place slot) lane after = after ≡ lane_found place slot lane
Moves (found.GivenBack publisher place slot) lane after = after ≡ lane_found place slot lane
Moves (found.Newest publisher slot) lane after = after ≡ lane_remembers slot lane
Moves (found.Held slot word value) lane after = ⊥
Moves (found.Buffer publisher place messages) lane after = (route : Route) × (after ≡ lane_meets route lane)
Moves (found.Slots publisher slots most_loans) lane after = after ≡ lane_resized slots most_loans lane
Moves (found.Sender publisher node_id publisher_id fails last) lane after = after ≡ lane_named node_id publisher_id fails last lane
Moves (found.Swapped subscriber one other) lane after = ⊥

-- the publishers stay as they are, or one becomes another
abbrev Goes : World → ℕ → (PublisherLaneState → PublisherLaneState → Type 0) → World → Type 0
Goes m who moves n = (n.publishers ≡ m.publishers)
    ⊎ ((lane : PublisherLaneState) × (after : PublisherLaneState) × (slice_get m.publishers who ≡ Some lane) × moves lane after
    × (n.publishers ≡ set m.publishers who after))

waits_in : (m : World) (who place slot : ℕ) (lane : PublisherLaneState) (connection : ℕ) (link : Option LinkState)
    → slice_get m.publishers who ≡ Some lane
    → Goes m who (λ was after. after ≡ lane_found place slot was) (waiting_in m who place slot lane connection link)
waits_in m who place slot lane connection None there = inl refl
waits_in m who place slot lane connection (Some link) there = inr (lane, lane_found place slot lane, there, refl, refl)

waits_at : (m : World) (who place slot : ℕ) (lane : PublisherLaneState) (route : Option Route) → slice_get m.publishers who ≡ Some lane
    → Goes m who (λ was after. after ≡ lane_found place slot was) (waiting_at m who place slot lane route)
waits_at m who place slot lane None there = inl refl
waits_at m who place slot lane (Some route) there
    = waits_in m who place slot lane route.connection (slice_get m.links route.connection) there

waits_of : (m : World) (who place slot : ℕ) (at : Option PublisherLaneState) → slice_get m.publishers who ≡ at
    → Goes m who (λ was after. after ≡ lane_found place slot was) (waiting_of m who place slot at)
waits_of m who place slot None there = inl refl
waits_of m who place slot (Some lane) there = waits_at m who place slot lane (slice_get lane.port.routes place) there

gives_at : (m : World) (who place slot : ℕ) (lane : PublisherLaneState) (route : Option Route) → slice_get m.publishers who ≡ Some lane
    → Goes m who (λ was after. after ≡ lane_found place slot was) (given_at m who place slot lane route)
gives_at m who place slot lane None there = inl refl
gives_at m who place slot lane (Some route) there = inr (lane, lane_found place slot lane, there, refl, refl)

gives_of : (m : World) (who place slot : ℕ) (at : Option PublisherLaneState) → slice_get m.publishers who ≡ at
    → Goes m who (λ was after. after ≡ lane_found place slot was) (given_of m who place slot at)
gives_of m who place slot None there = inl refl
gives_of m who place slot (Some lane) there = gives_at m who place slot lane (slice_get lane.port.routes place) there

remembers_of : (m : World) (who slot : ℕ) (at : Option PublisherLaneState) → slice_get m.publishers who ≡ at
    → Goes m who (λ was after. after ≡ lane_remembers slot was) (remembered_of m who slot at)
remembers_of m who slot None there = inl refl
remembers_of m who slot (Some lane) there = inr (lane, lane_remembers slot lane, there, refl, refl)

buffers_in : (m : World) (who messages : ℕ) (lane : PublisherLaneState) (route : Route) (link : Option LinkState)
    → slice_get m.publishers who ≡ Some lane
    → Goes m who (λ was after. (met : Route) × (after ≡ lane_meets met was)) (buffered_in m who messages lane route link)
buffers_in m who messages lane route None there = inl refl
buffers_in m who messages lane route (Some link) there
    = inr (lane, lane_meets (with_buffer messages route) lane, there, (with_buffer messages route, refl), refl)

buffers_at : (m : World) (who messages : ℕ) (lane : PublisherLaneState) (route : Option Route) → slice_get m.publishers who ≡ Some lane
    → Goes m who (λ was after. (met : Route) × (after ≡ lane_meets met was)) (buffered_at m who messages lane route)
buffers_at m who messages lane None there = inl refl
buffers_at m who messages lane (Some route) there = buffers_in m who messages lane route (slice_get m.links route.connection) there

buffers_of : (m : World) (who place messages : ℕ) (at : Option PublisherLaneState) → slice_get m.publishers who ≡ at
    → Goes m who (λ was after. (met : Route) × (after ≡ lane_meets met was)) (buffered_of m who place messages at)
buffers_of m who place messages None there = inl refl
buffers_of m who place messages (Some lane) there = buffers_at m who messages lane (slice_get lane.port.routes place) there

resizes_of : (m : World) (who slots most_loans : ℕ) (at : Option PublisherLaneState) → slice_get m.publishers who ≡ at
    → Goes m who (λ was after. after ≡ lane_resized slots most_loans was) (resized_of m who slots most_loans at)
resizes_of m who slots most_loans None there = inl refl
resizes_of m who slots most_loans (Some lane) there = inr (lane, lane_resized slots most_loans lane, there, refl, refl)

names_of : (m : World) (who node_id publisher_id : ℕ) (fails : Bool) (last : Option ℕ) (at : Option PublisherLaneState) → slice_get
    m.publishers who ≡ at
    → Goes m who (λ was after. after ≡ lane_named node_id publisher_id fails last was) (named_of m who node_id publisher_id fails last at)
names_of m who node_id publisher_id fails last None there = inl refl
names_of m who node_id publisher_id fails last (Some lane) there = inr
    (lane, lane_named node_id publisher_id fails last lane, there, refl, refl)

pub swaps_of : (m : World) (who one other : ℕ) (at : Option SubscriberLaneState) → (swapped_of m who one other at).publishers ≡ m.publishers
swaps_of m who one other None = refl
swaps_of m who one other (Some lane) = refl

moved : (m : World) (f : Found) → Goes m (who_of f) (Moves f) (with_found m f)
moved m (found.Waiting who place slot) = waits_of m who place slot (slice_get m.publishers who) refl
moved m (found.GivenBack who place slot) = gives_of m who place slot (slice_get m.publishers who) refl
moved m (found.Newest who slot) = remembers_of m who slot (slice_get m.publishers who) refl
moved m (found.Held slot word value) = inl refl
moved m (found.Buffer who place messages) = buffers_of m who place messages (slice_get m.publishers who) refl
moved m (found.Slots who slots most_loans) = resizes_of m who slots most_loans (slice_get m.publishers who) refl
moved m (found.Sender who node_id publisher_id fails last) = names_of m who node_id publisher_id fails last (slice_get m.publishers who)
    refl
moved m (found.Swapped who one other) = inl (swaps_of m who one other (slice_get m.subscribers who))

-- what is seen of each publisher is as it was, where the finding leaves that as it was of the one that it is about
pub seen_same : {X : Type 0} (see : PublisherLaneState → X) (m : World) (f : Found)
    → ((lane after : PublisherLaneState) → Moves f lane after → see after ≡ see lane)
    → map see (with_found m f).publishers ≡ map see m.publishers
seen_same see m f same = elim (moved m f) [
  | inl is ↦ ap (map see) is
  | inr goes ↦ ap (map see) goes.4 ∙ map-set_same see m.publishers (who_of f) goes.1 goes.0
      (same goes.0 goes.1 goes.3 ∙ ap see (sym (get_or_from_slice_get m.publishers (who_of f) goes.0 goes.0 goes.2)))
]

pub set_other : {X : Type 0} (xs : List X) (at other : ℕ) (x : X) → (at ≡ other → ⊥) → slice_get (set xs at x) other ≡ slice_get xs other
set_other [] at other x apart = refl
set_other (y ∷ ys) zero zero x apart = absurd (apart refl)
set_other (y ∷ ys) zero (suc other) x apart = refl
set_other (y ∷ ys) (suc at) zero x apart = refl
set_other (y ∷ ys) (suc at) (suc other) x apart = set_other ys at other x (λ same. apart (ap suc same))

-- and each other publisher is as it was
pub others_same : (m : World) (f : Found) (other : ℕ) → ((lane after : PublisherLaneState) → Moves f lane after → who_of f ≡ other → ⊥)
    → slice_get (with_found m f).publishers other ≡ slice_get m.publishers other
others_same m f other apart = elim (moved m f) [
  | inl is ↦ ap (λ xs. slice_get xs other) is
  | inr goes ↦ ap (λ xs. slice_get xs other) goes.4 ∙ set_other m.publishers (who_of f) other goes.1 (apart goes.0 goes.1 goes.3)
]

-- what holds of lanes, and of them with a finding that may be found, holds after it
pub behind_by : (P : World → Type 0) (m : World) (f : Found) → P m → (finds m f ≡ true → P (with_found m f)) → P (behind_finding m f)
unfolding behind_finding
behind_by P m f was now = by (finds m f) refl
  where
    by : (fits : Bool) → finds m f ≡ fits → P (if fits then with_found m f else m)
    by true fits = now fits
    by false fits = was

pub behind_fits : (m : World) (f : Found) → finds m f ≡ true → behind_finding m f ≡ with_found m f
unfolding behind_finding
behind_fits m f fits = cond-true (finds m f) (with_found m f) m fits
