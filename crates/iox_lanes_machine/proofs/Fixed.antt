-- No step changes the connections, the sizes, or which slots a publisher has.
use Rattle.std.proofs.Common.{ℕ, ◌≡◌, ◌-◌, Bool, true, false, if◌then◌else◌, nat_lt, List, [], ◌∷◌, ◌++◌, length, remove, set, get_or}
use Rattle.std.proofs.Common.{slice_get, Option, Some, None, option_map, refl, sym, ◌∙◌, ap, subst, inl, inr, length-set}
use Rattle.std.proofs.lemmas.Bool.Decides.{eqb_tells}
use Rattle.iox_lanes_machine.specs.QueuesSteps.declared.order.Placed.{Placed}
use Rattle.iox_lanes_machine.specs.QueuesSteps.declared.schedule.Stepped.{Stepped}
use Rattle.iox_lanes_machine.specs.QueuesSteps.declared.schedule.Stepped.TheVariants as stepped
use Rattle.iox_lanes_machine.specs.LanesBase.Publishing.{publisher_next, publisher_change}
use Rattle.iox_lanes_machine.specs.LanesBase.Subscribing.{subscriber_next}
use Rattle.iox_lanes_machine.specs.LanesBase.declared.calls.publisher.PublisherChange.{PublisherChange}
use Rattle.iox_lanes_machine.specs.LanesBase.declared.calls.publisher.PublisherChange.TheVariants as change
use Rattle.iox_lanes_machine.specs.LanesParties.PublisherKeeping.{BookState, changed, lent, lent_from, first_free, counted_down, dropped}
use Rattle.iox_lanes_machine.specs.LanesParties.PublisherKeeping.{newest_of, unlent, remembered}
use Rattle.iox_lanes_machine.specs.LanesParties.declared.publisher.slot_book.LoanAnswer.TheVariants as answer
use Rattle.iox_lanes_machine.specs.LanesParties.Parties.{PublisherLaneState, SubscriberLaneState, publisher_begun, publisher_after}
use Rattle.iox_lanes_machine.specs.LanesParties.Parties.{subscriber_begun, subscriber_after}
use Rattle.iox_lanes_machine.specs.LanesParties.declared.call.Call.{Call}
use Rattle.iox_lanes_machine.specs.LanesParties.declared.call.Call.TheVariants as call
use Rattle.iox_lanes_machine.specs.LanesParties.declared.call.Move.{Move}
use Rattle.iox_lanes_machine.specs.LanesParties.declared.call.Move.TheVariants.{Begin, GoOn}
use Rattle.iox_lanes_machine.specs.LanesParties.declared.call.Party.{Party}
use Rattle.iox_lanes_machine.specs.LanesParties.declared.call.Party.TheVariants.{Publisher, Subscriber}
use Rattle.iox_lanes_machine.specs.Fixed.{fixed_slots, StaysFixed}
use Rattle.iox_lanes_machine.specs.World.{World, happens, publisher_begins, publisher_goes_on, publisher_given, subscriber_begins}
use Rattle.iox_lanes_machine.specs.World.{subscriber_goes_on, subscriber_given, StepsTo}
use Rattle.iox_lanes_machine.proofs.Slots.{begun_slots, changed_slots}
use Rattle.iox_lanes_machine.proofs.Within.{set_other, set_same, sizes_stay}

-- nor how many may be lent at once, or remembered
record SameLimits (book after : BookState) : Type 0 where
  most_loans : after.most_loans ≡ book.most_loans
  kept : after.kept ≡ book.kept

same_limits : (book : BookState) → SameLimits book book
same_limits book = record { most_loans = refl; kept = refl }

lent_limits : (book : BookState) → SameLimits book (lent book)
lent_limits book = by_test (nat_lt book.out book.most_loans)
  where
    by_free : (at : Option ℕ) → SameLimits book (lent_from book at)
    by_free None = record { most_loans = refl; kept = refl }
    by_free (Some index) = record { most_loans = refl; kept = refl }

    by_test : (b : Bool) → SameLimits book
        (if b then lent_from book (first_free book.uses 0) else record book { answer = Some answer.ExceedsMaxLoans })
    by_test true = by_free (first_free book.uses 0)
    by_test false = record { most_loans = refl; kept = refl }

newest_limits : (slot : ℕ) (book : BookState) → SameLimits book (newest_of slot book)
newest_limits slot book = by_test (nat_lt (length book.history) book.kept)
  where
    by_test : (b : Bool) → SameLimits book
        (if b then record book { history = book.history ++ slot ∷ [] } else record book
        { history = remove book.history 0 ++ slot ∷ []; uses = counted_down book.uses (get_or book.history 0 0 - book.first) })
    by_test true = record { most_loans = refl; kept = refl }
    by_test false = record { most_loans = refl; kept = refl }

remembered_limits : (slot : ℕ) (book : BookState) → SameLimits book (remembered slot book)
remembered_limits slot book = by_test (nat_lt 0 book.kept)
  where
    by_test : (b : Bool) → SameLimits book (if b then newest_of slot (unlent slot book) else dropped slot book)
    by_test true = let newest = newest_limits slot (unlent slot book) in record { most_loans = newest.most_loans; kept = newest.kept }
    by_test false = record { most_loans = refl; kept = refl }

changed_limits : (c : PublisherChange) (book : BookState) → SameLimits book (changed c book)
changed_limits change.Nothing book = same_limits book
changed_limits change.Lend book = lent_limits book
changed_limits (change.Mark slot) book = record { most_loans = refl; kept = refl }
changed_limits (change.Remember slot) book = remembered_limits slot book
changed_limits (change.TakenBack place slot) book = record { most_loans = refl; kept = refl }
changed_limits (change.Put place slot) book = record { most_loans = refl; kept = refl }
changed_limits (change.LeftOut place slot) book = record { most_loans = refl; kept = refl }
changed_limits (change.DropLoan slot) book = record { most_loans = refl; kept = refl }

begun_limits : (moment : ℕ) (c : Call) (lane : PublisherLaneState) → SameLimits lane.port.book (publisher_begun moment c lane).port.book
begun_limits moment call.LoanUninit lane = same_limits lane.port.book
begun_limits moment (call.Write loan payload user_header) lane = same_limits lane.port.book
begun_limits moment (call.Send loan) lane = same_limits lane.port.book
begun_limits moment (call.DropLoan loan) lane = same_limits lane.port.book
begun_limits moment call.Receive lane = same_limits lane.port.book
begun_limits moment (call.Read sample) lane = same_limits lane.port.book
begun_limits moment (call.Release sample) lane = same_limits lane.port.book

begun_fixed : (moment : ℕ) (c : Call) (lane : PublisherLaneState) → fixed_slots (publisher_begun moment c lane) ≡ fixed_slots lane
begun_fixed moment c lane =
    let slots = begun_slots moment c lane in
    let limits = begun_limits moment c lane in
    cc (slots.first, slots.loans, limits.most_loans, limits.kept)

gone_fixed : (given : ℕ) (lane : PublisherLaneState) → fixed_slots (publisher_after given lane) ≡ fixed_slots lane
gone_fixed given lane =
    let slots = changed_slots (publisher_change lane.port.call given) lane.port.book in
    let limits = changed_limits (publisher_change lane.port.call given) lane.port.book in
    cc (slots.first, slots.loans, limits.most_loans, limits.kept)

-- one publisher changed, and kept its slots
rows_fixed : (lanes : List PublisherLaneState) (place i : ℕ) (lane after : PublisherLaneState) → slice_get lanes place ≡ Some lane
    → fixed_slots after ≡ fixed_slots lane
    → option_map fixed_slots (slice_get (set lanes place after) i) ≡ option_map fixed_slots (slice_get lanes i)
rows_fixed lanes place i lane after found same = elim (eqb_tells i place) [
  | inl here ↦ subst (λ (j : ℕ). option_map fixed_slots (slice_get (set lanes place after) j)
      ≡ option_map fixed_slots (slice_get lanes j)) (sym here.1)
      (ap (option_map fixed_slots) (set_same lanes place after lane found) ∙ ap Some same ∙ sym (ap (option_map fixed_slots) found))
  | inr there ↦ ap (option_map fixed_slots) (set_other lanes place i after there.1)
]

stays : (m n : World) → n.links ≡ m.links → n.table.sizes ≡ m.table.sizes → n.publishers ≡ m.publishers
    → length n.subscribers ≡ length m.subscribers → StaysFixed m n
stays m n links sizes publishers subscribers = record {
  links = links;
  sizes = sizes;
  publishers = λ place. ap (λ (xs : List PublisherLaneState). option_map fixed_slots (slice_get xs place)) publishers;
  publisher_count = ap (λ (xs : List PublisherLaneState). length xs) publishers;
  subscriber_count = subscribers;
}

pub same_fixed : (m : World) → StaysFixed m m
same_fixed m = stays m m refl refl refl refl

-- after what stays fixed, the next stays fixed
pub fixed_on : (m n o : World) → StaysFixed m n → StaysFixed n o → StaysFixed m o
fixed_on m n o first next = record {
  links = next.links ∙ first.links;
  sizes = next.sizes ∙ first.sizes;
  publishers = λ place. next.publishers place ∙ first.publishers place;
  publisher_count = next.publisher_count ∙ first.publisher_count;
  subscriber_count = next.subscriber_count ∙ first.subscriber_count;
}

begun_publisher : (m : World) (place : ℕ) (c : Call) (at : Option PublisherLaneState) → slice_get m.publishers place ≡ at
    → StaysFixed m (publisher_begins m place c at)
begun_publisher m place c None e = same_fixed m
begun_publisher m place c (Some lane) e = record {
  links = refl;
  sizes = refl;
  publishers = λ i. rows_fixed m.publishers place i lane (publisher_begun m.moments c lane) e (begun_fixed m.moments c lane);
  publisher_count = length-set m.publishers place (publisher_begun m.moments c lane);
  subscriber_count = refl;
}

gone_publisher : (m : World) (place : ℕ) (orders : List (List Placed)) (at : Option PublisherLaneState)
    → slice_get m.publishers place ≡ at → StaysFixed m (publisher_goes_on (record m { orders = orders }) place at)
gone_publisher m place orders None e = stays m (record m { orders = orders }) refl refl refl refl
gone_publisher m place orders (Some lane) e = record {
  links = refl;
  sizes = (sizes_stay m.table (publisher_next lane.port.call)).0;
  publishers = λ i. rows_fixed m.publishers place i lane (publisher_after (publisher_given m.table lane) lane) e
      (gone_fixed (publisher_given m.table lane) lane);
  publisher_count = length-set m.publishers place (publisher_after (publisher_given m.table lane) lane);
  subscriber_count = refl;
}

begun_subscriber : (m : World) (place : ℕ) (c : Call) (at : Option SubscriberLaneState) → StaysFixed m (subscriber_begins m place c at)
begun_subscriber m place c None = same_fixed m
begun_subscriber m place c (Some lane)
    = stays m (subscriber_begins m place c (Some lane)) refl refl refl (length-set m.subscribers place (subscriber_begun m.moments c lane))

gone_subscriber : (m : World) (place : ℕ) (orders : List (List Placed)) (at : Option SubscriberLaneState)
    → StaysFixed m (subscriber_goes_on (record m { orders = orders }) place at)
gone_subscriber m place orders None = stays m (record m { orders = orders }) refl refl refl refl
gone_subscriber m place orders (Some lane)
    = stays m (subscriber_goes_on (record m { orders = orders }) place (Some lane)) refl
    (sizes_stay m.table (subscriber_next lane.port.call)).0 refl
    (length-set m.subscribers place (subscriber_after (subscriber_given m.table lane) lane))

happens_fixed : (m : World) (party : Party) (step : Move) → StaysFixed m (happens m party step)
happens_fixed m (Publisher place) (Begin c) = begun_publisher m place c (slice_get m.publishers place) refl
happens_fixed m (Subscriber place) (Begin c) = begun_subscriber m place c (slice_get m.subscribers place)
happens_fixed m (Publisher place) GoOn = gone_publisher m place _ (slice_get m.publishers place) refl
happens_fixed m (Subscriber place) GoOn = gone_subscriber m place _ (slice_get m.subscribers place)

pub steps_fixed : (m : World) (party : Party) (step : Move) (r : Stepped) (n : World) → StepsTo m party step r n → StaysFixed m n
steps_fixed m party step stepped.Went n h = subst (StaysFixed m) (sym h.2) (happens_fixed m party step)
steps_fixed m party step stepped.Finished n h = subst (StaysFixed m) (sym h.2) (happens_fixed m party step)
steps_fixed m party step stepped.Skipped n h = subst (StaysFixed m) (sym h.1) (same_fixed m)
steps_fixed m party step stepped.NoMemory n h = subst (StaysFixed m) (sym h.2) (same_fixed m)
