-- Which connections of a subscriber of lanes give are those that give of the machine's.
use Rattle.std.proofs.Common.{ℕ, ◌≡◌, ◌+◌, ◌<◌, ◌&&◌, Bool, true, false, nat_lt, List, [], length, slice_get, Option, Some}
use Rattle.std.proofs.Common.{None, refl, sym}
use Rattle.std.proofs.Common.{◌∙◌, ap, inl, inr, arith}
use Rattle.std.specs.Prelude.{unwrap_or}
use Rattle.std.specs.Option.{option_map_or}
use Rattle.std.proofs.lemmas.Bool.{cases_Bool, ltb-true}
use Rattle.std.proofs.lemmas.List.{length-map}
use Rattle.iox_lanes_machine.specs.LanesBase.declared.calls.route.Route.{Route}
use Rattle.iox_lanes_machine.specs.LanesParties.Parties.{SubscriberLaneState, place_of, route_at}
use Rattle.iox_lanes_machine.proofs.LanesParties.Rings.{all_at}
use Rattle.iox_lanes_machine.specs.Borrowing.{borrows, is_at}
use Rattle.iox_lanes_machine.specs.Kept.{IsKept, IsLinkOf, receiver}
use Rattle.iox_lanes_machine.specs.LedgerRooms.{borrowed_of}
use Rattle.iox_lanes_machine.specs.LedgerUses.{count, one_if}
use Rattle.iox_lanes_machine.specs.Links.{LinkState}
use Rattle.iox_lanes_machine.specs.Resting.{mail_at}
use Rattle.iox_lanes_machine.specs.World.{World}
use Rattle.iox_lanes_machine.proofs.Samples.{borrowed_within}
use Rattle.iox_lanes_machine.proofs.Sums.{sum_same, sum_count, total_is}
use Rattle.iox_lanes_laws.specs.Subscribing.{Gives}
use Rattle.iox_lanes_service.specs.Naming.{LaneNaming, LaneLoan, LaneSample, writer_name, slots_held_over, slot_message, lane_mailbox}
use Rattle.iox_lanes_service.specs.Standing.{LanesStandFor}
use Rattle.iox_lanes_service.proofs.Beside.{both_hold}
use Rattle.iox_lanes_service.proofs.Holding.{over_borrowed}
use Rattle.iox_machine.specs.Choices.{Choices}
use Rattle.iox_machine.specs.Mailbox.{Mailbox}
use Rattle.iox_machine.specs.Receiving.{gives}
use Rattle.iox_machine.specs.Service.{Service, mailbox}
use Rattle.iox_machine.proofs.Shorthands.{has_data}

-- what a subscriber borrows of a connection lies in its samples
pub borrowed_below : (lane : SubscriberLaneState) (connection slot : ℕ) → borrows connection slot (Some lane) ≡ true
    → slot < length lane.port.samples
borrowed_below lane connection slot has = by_place (place_of slot lane) refl has
  where
    by_place : (o : Option ℕ) → place_of slot lane ≡ o → is_at connection (route_at o lane) ≡ true → slot < length lane.port.samples
    by_place None e h = absurd (cc h)
    by_place (Some place) e h = borrowed_within lane.port.samples place slot e

-- a number below another, or not
pub below_is : (a b : ℕ) → a < b → nat_lt a b ≡ true
below_is a b h = grind (arith, h)

pub below_is_not : (a b : ℕ) → (a < b → ⊥) → nat_lt a b ≡ false
below_is_not a b h = elim (cases_Bool (nat_lt a b)) [
  | inl t ↦ absurd (h (ltb-true a b t))
  | inr f ↦ f
]

module _ {T : Type 0} (choices : Choices T) (value : List ℕ → T) (names : LaneNaming) (lent : List (ℕ × LaneLoan))
    (held : List (ℕ × LaneSample)) (m : World) (service : Service T) (s : LanesStandFor choices value names lent held m service)
    (k : IsKept m) (place : ℕ) (before : SubscriberLaneState) (found : slice_get m.subscribers place ≡ Some before) where
  -- the connection at a place of the subscriber
  pub link_of : (at : ℕ) (route : Route) → slice_get before.port.routes at ≡ Some route → IsLinkOf m.links receiver place route
  link_of at route is = all_at (IsLinkOf m.links receiver place) before.port.routes at route is (k.within.receivers place before found)

  pub writer_is : (route : Route) (l : IsLinkOf m.links receiver place route)
      → writer_name names m.links route.connection ≡ names.publisher (l.link).publisher
  writer_is route l = ap (λ (o : Option LinkState). option_map_or (λ (link : LinkState). names.publisher link.publisher) o 0) l.found

  -- its mailbox
  pub box_is : (route : Route) (l : IsLinkOf m.links receiver place route)
      → mailbox (writer_name names m.links route.connection) (names.subscriber place) service
      ≡ lane_mailbox value names m held route.connection l.link
  box_is route l =
      ap (λ (p : ℕ). mailbox p (names.subscriber place) service) (writer_is route l)
      ∙ ap (λ (r : ℕ). mailbox (names.publisher (l.link).publisher) (names.subscriber r) service) (sym l.own)
      ∙ ap (λ (o : Option (Mailbox T)). unwrap_or o (record { limit = 0; waiting = []; borrowed = [] }))
      (s.mailboxes route.connection l.link l.found)

  pub data_is : (route : Route) (l : IsLinkOf m.links receiver place route)
      → has_data (mailbox (writer_name names m.links route.connection) (names.subscriber place) service)
      ≡ nat_lt 0 (length (mail_at m route.connection))
  data_is route l =
      ap has_data (box_is route l)
      ∙ ap (nat_lt 0) (length-map (mail_at m route.connection) (slot_message value names m.table))

  -- as many samples of it go by numbers as are borrowed of it
  pub borrowed_is : (route : Route) (l : IsLinkOf m.links receiver place route)
      → length (slots_held_over l.link held) ≡ borrowed_of route.connection before
  borrowed_is route l =
      sym (sum_count 0 (length before.port.samples) (slots_held_over l.link held)
      (λ slot some. (omega arith, omega (arith, borrowed_below before route.connection slot (mine slot some)))))
      ∙ sum_same (λ slot. count (0 + slot) (slots_held_over l.link held)) (λ slot. one_if (borrows route.connection slot (Some before)))
      (length before.port.samples) (λ slot below. ap (λ (x : ℕ). count x (slots_held_over l.link held)) (omega arith)
      ∙ s.samples_all route.connection l.link slot l.found ∙ ap (λ at. one_if (borrows route.connection slot at)) own_lane)
      ∙ sym (total_is (λ slot. borrows route.connection slot (Some before)) (length before.port.samples))
    where
      own_lane : slice_get m.subscribers (l.link).subscriber ≡ Some before
      own_lane = ap (slice_get m.subscribers) l.own ∙ found

      mine : (slot : ℕ) → 0 < count slot (slots_held_over l.link held) → borrows route.connection slot (Some before) ≡ true
      mine slot some =
          sym (ap (borrows route.connection slot) own_lane)
          ∙ over_borrowed choices value names lent held m service s route.connection l.link slot l.found some

  pub gives_is : (route : Route) (l : IsLinkOf m.links receiver place route)
      → service.settings.subscriber_max_borrowed_samples ≡ before.port.most_borrowed
      → gives (names.subscriber place) service (writer_name names m.links route.connection)
      ≡ (nat_lt 0 (length (mail_at m route.connection)) && nat_lt (borrowed_of route.connection before) before.port.most_borrowed)
  gives_is route l most =
      ap (λ (b : Bool). b && nat_lt
      (length (mailbox (writer_name names m.links route.connection) (names.subscriber place) service).borrowed)
      service.settings.subscriber_max_borrowed_samples) (data_is route l)
      ∙ ap (λ (n : ℕ). nat_lt 0 (length (mail_at m route.connection)) && nat_lt n service.settings.subscriber_max_borrowed_samples)
      (ap (λ (box : Mailbox T). length box.borrowed) (box_is route l)
      ∙ length-map (slots_held_over l.link held) (slot_message value names m.table) ∙ borrowed_is route l)
      ∙ ap (λ (n : ℕ). nat_lt 0 (length (mail_at m route.connection)) && nat_lt (borrowed_of route.connection before) n) most

  pub gives_true : (route : Route) (l : IsLinkOf m.links receiver place route)
      → service.settings.subscriber_max_borrowed_samples ≡ before.port.most_borrowed → Gives m before route
      → gives (names.subscriber place) service (writer_name names m.links route.connection) ≡ true
  gives_true route l most g =
      gives_is route l most
      ∙ both_hold (nat_lt 0 (length (mail_at m route.connection)))
      (nat_lt (borrowed_of route.connection before) before.port.most_borrowed)
      (below_is 0 (length (mail_at m route.connection)) g.0)
      (below_is (borrowed_of route.connection before) before.port.most_borrowed g.1)

  pub gives_false : (route : Route) (l : IsLinkOf m.links receiver place route)
      → service.settings.subscriber_max_borrowed_samples ≡ before.port.most_borrowed → (Gives m before route → ⊥)
      → gives (names.subscriber place) service (writer_name names m.links route.connection) ≡ false
  gives_false route l most not =
      gives_is route l most
      ∙ by_tests (nat_lt 0 (length (mail_at m route.connection))) refl
      (nat_lt (borrowed_of route.connection before) before.port.most_borrowed) refl
    where
      by_tests : (a : Bool) → nat_lt 0 (length (mail_at m route.connection)) ≡ a → (b : Bool)
          → nat_lt (borrowed_of route.connection before) before.port.most_borrowed ≡ b → (a && b) ≡ false
      by_tests true t true u = absurd (not (
        ltb-true 0 (length (mail_at m route.connection)) t,
        ltb-true (borrowed_of route.connection before) before.port.most_borrowed u,
      ))
      by_tests true t false u = refl
      by_tests false t b u = refl
