-- How little a step touches.
use Rattle.std.proofs.Common.{ℕ, ◌≡◌, ◌+◌, ◌==◌, Bool, true, false, if◌then◌else◌, List, length, slice_get, Option, Some, None, is_some}
use Rattle.std.proofs.Common.{refl, sym, ◌∙◌, ap, subst, arith, length-append}
use Rattle.std.proofs.lemmas.List.{get_or-set_other}
use Rattle.iox_lanes_machine.specs.QueuesSteps.declared.order.Placed.{Placed}
use Rattle.iox_lanes_machine.specs.QueuesSteps.declared.schedule.Stepped.{Stepped}
use Rattle.iox_lanes_machine.specs.QueuesSteps.declared.schedule.Stepped.TheVariants as stepped
use Rattle.iox_lanes_machine.specs.LanesBase.Numbers.{number_of, IsWord}
use Rattle.iox_lanes_machine.specs.LanesBase.Table.{TableWords, held_by, stored_in, after_shared, IsOfTable}
use Rattle.iox_lanes_machine.specs.LanesBase.declared.words.access.SharedAccess.{SharedAccess}
use Rattle.iox_lanes_machine.specs.LanesBase.declared.words.access.SharedAccess.TheVariants.{Load, Store, Exchange, Local}
use Rattle.iox_lanes_machine.specs.LanesBase.declared.words.word.SharedWord.{SharedWord}
use Rattle.iox_lanes_machine.proofs.LanesBase.Numbering.{apart}
use Rattle.iox_lanes_machine.specs.LanesBase.Publishing.{publisher_next, publisher_is_over}
use Rattle.iox_lanes_machine.specs.LanesBase.Subscribing.{subscriber_next, subscriber_is_over}
use Rattle.iox_lanes_machine.specs.LanesBase.declared.calls.publisher.PublisherCall.{PublisherCall}
use Rattle.iox_lanes_machine.specs.LanesBase.declared.calls.publisher.PublisherCall.TheVariants as publishing
use Rattle.iox_lanes_machine.specs.LanesBase.declared.calls.subscriber.SubscriberCall.{SubscriberCall}
use Rattle.iox_lanes_machine.specs.LanesBase.declared.calls.subscriber.SubscriberCall.TheVariants as subscribing
use Rattle.iox_lanes_machine.specs.LanesParties.declared.publisher.slot_book.LoanAnswer.{LoanAnswer}
use Rattle.iox_lanes_machine.specs.LanesParties.Parties.{PublisherLaneState, SubscriberLaneState, publisher_begun, publisher_after}
use Rattle.iox_lanes_machine.specs.LanesParties.Parties.{publisher_answer, subscriber_begun, subscriber_after, subscriber_answer}
use Rattle.iox_lanes_machine.specs.LanesParties.Within.{IsPublisher, IsSubscriber}
use Rattle.iox_lanes_machine.specs.LanesParties.declared.call.Answer.{Answer}
use Rattle.iox_lanes_machine.specs.LanesParties.declared.call.Call.{Call}
use Rattle.iox_lanes_machine.specs.LanesParties.declared.call.CallName.{CallName}
use Rattle.iox_lanes_machine.specs.LanesParties.declared.call.Move.{Move}
use Rattle.iox_lanes_machine.specs.LanesParties.declared.call.Move.TheVariants.{Begin, GoOn}
use Rattle.iox_lanes_machine.specs.LanesParties.declared.call.Party.{Party}
use Rattle.iox_lanes_machine.specs.LanesParties.declared.call.Party.TheVariants.{Publisher, Subscriber}
use Rattle.iox_lanes_machine.proofs.LanesParties.Rings.{all_at}
use Rattle.iox_lanes_machine.proofs.LanesParties.PublishersWithin.{publishers_stay_within}
use Rattle.iox_lanes_machine.proofs.LanesParties.SubscribersWithin.{subscribers_stay_within}
use Rattle.iox_lanes_machine.specs.Apart.{publisher_access, subscriber_access, access_of, OthersHold, OthersStay, OrdersStay, grows_at}
use Rattle.iox_lanes_machine.specs.Apart.{more_ended, StaysApart}
use Rattle.iox_lanes_machine.specs.Kept.{IsWithin}
use Rattle.iox_lanes_machine.specs.World.{World, connection_at, acts_at, placed, fits, ends, publisher_fits_at, subscriber_fits_at}
use Rattle.iox_lanes_machine.specs.World.{publisher_ends_at, subscriber_ends_at, ended, publisher_given, subscriber_given}
use Rattle.iox_lanes_machine.specs.World.{publisher_ending, publisher_begins, subscriber_begins, publisher_goes_on, subscriber_goes_on}
use Rattle.iox_lanes_machine.specs.World.{happens, StepsTo}
use Rattle.iox_lanes_machine.proofs.Steps.{added_other}
use Rattle.iox_lanes_machine.proofs.Within.{set_other}

stored_apart : (table : TableWords) (touched : SharedWord) (value : ℕ) → IsWord table.sizes touched
    → OthersHold table (Store touched value) (stored_in table touched value)
stored_apart table touched value there
    = λ word is not. get_or-set_other table.words (number_of table.sizes touched) (number_of table.sizes word) value 0
    (λ same. not (apart table.sizes word touched is there same))

others_hold : (table : TableWords) (access : SharedAccess) → IsOfTable table.sizes access
    → OthersHold table access (after_shared table access)
others_hold table (Load word) there = λ other is not. refl
others_hold table (Store word value) there = stored_apart table word value there
others_hold table (Exchange word old new) there = λ other is not. by_test (held_by table word == old) other is not
  where
    by_test : (won : Bool) (other : SharedWord) → IsWord table.sizes other → (other ≡ word → ⊥)
        → held_by (if won then stored_in table word new else table) other ≡ held_by table other
    by_test true other is not = stored_apart table word new there other is not
    by_test false other is not = refl
others_hold table Local there = λ other is not. refl

-- what a step of a publisher leaves
record PublisherApart (m : World) (place : ℕ) (access : SharedAccess) (orders : List (List Placed)) (calls : ℕ) (n : World) : Type 0 where
  words : OthersHold m.table access n.table
  others : (other : ℕ) → (other ≡ place → ⊥) → slice_get n.publishers other ≡ slice_get m.publishers other
  subscribers : n.subscribers ≡ m.subscribers
  orders_are : n.orders ≡ orders
  ended_calls : length n.finished ≡ length m.finished + calls

record SubscriberApart (m : World) (place : ℕ) (access : SharedAccess) (orders : List (List Placed)) (calls : ℕ) (n : World) : Type 0 where
  words : OthersHold m.table access n.table
  others : (other : ℕ) → (other ≡ place → ⊥) → slice_get n.subscribers other ≡ slice_get m.subscribers other
  publishers : n.publishers ≡ m.publishers
  orders_are : n.orders ≡ orders
  ended_calls : length n.finished ≡ length m.finished + calls

nothing_more : (n : ℕ) → n ≡ n + 0
nothing_more n = omega arith

begun_publisher : (m : World) (place : ℕ) (c : Call) (at : Option PublisherLaneState) → publisher_fits_at at (Begin c) ≡ true
    → PublisherApart m place Local m.orders 0 (publisher_begins m place c at)
begun_publisher m place c None fit = absurd (cc)
begun_publisher m place c (Some lane) fit = record {
  words = λ word is not. refl;
  others = λ other not. set_other m.publishers place other (publisher_begun m.moments c lane) not;
  subscribers = refl;
  orders_are = refl;
  ended_calls = nothing_more (length m.finished);
}

begun_subscriber : (m : World) (place : ℕ) (c : Call) (at : Option SubscriberLaneState) → subscriber_fits_at at (Begin c) ≡ true
    → SubscriberApart m place Local m.orders 0 (subscriber_begins m place c at)
begun_subscriber m place c None fit = absurd (cc)
begun_subscriber m place c (Some lane) fit = record {
  words = λ word is not. refl;
  others = λ other not. set_other m.subscribers place other (subscriber_begun m.moments c lane) not;
  publishers = refl;
  orders_are = refl;
  ended_calls = nothing_more (length m.finished);
}

-- a call has an answer exactly where its next step is its last
pub publisher_answers : (fails : Bool) (call : PublisherCall) (loan : Option LoanAnswer)
    → is_some (publisher_answer fails call loan) ≡ publisher_is_over call
publisher_answers fails publishing.Idle loan = refl
publisher_answers fails (publishing.LoanReclaims place route pop) loan = refl
publisher_answers fails publishing.Lending loan = refl
publisher_answers fails (publishing.Writing slot word value) loan = refl
publisher_answers fails (publishing.Written slot) loan = refl
publisher_answers fails (publishing.Heading slot word value) loan = refl
publisher_answers fails (publishing.Remembering slot) loan = refl
publisher_answers fails (publishing.SendReclaims slot place route pop) loan = refl
publisher_answers fails (publishing.Pushing slot place route push delivery) loan = refl
publisher_answers fails (publishing.Sent slot delivery) loan = refl
publisher_answers fails (publishing.Dropping slot) loan = refl

pub subscriber_answers : (call : SubscriberCall) (from : ℕ) → is_some (subscriber_answer call from) ≡ subscriber_is_over call
subscriber_answers subscribing.Idle from = refl
subscriber_answers (subscribing.Receiving place route pop waits) from = refl
subscriber_answers (subscribing.Received receipt) from = refl
subscriber_answers (subscribing.Reading slot word extent) from = refl
subscriber_answers (subscribing.WasRead slot) from = refl
subscriber_answers (subscribing.Releasing place route push) from = refl
subscriber_answers (subscribing.Released done) from = refl

ended_length : (party : Party) (call : CallName) (first last : ℕ) (answer : Option Answer)
    → length (ended party call first last answer) ≡ (if is_some answer then 1 else 0)
ended_length party call first last None = refl
ended_length party call first last (Some answer) = refl

gone_publisher : (m : World) (place : ℕ) (orders : List (List Placed)) (at : Option PublisherLaneState)
    → slice_get m.publishers place ≡ at → publisher_fits_at at GoOn ≡ true → IsWithin m
    → PublisherApart m place (publisher_access at) orders (if publisher_ends_at at then 1 else 0)
    (publisher_goes_on (record m { orders = orders }) place at)
gone_publisher m place orders None e fit w = absurd (cc)
gone_publisher m place orders (Some lane) e fit w =
    let is : IsPublisher m.table.sizes lane = all_at (IsPublisher m.table.sizes) m.publishers place lane e w.publishers in
    record {
      words = others_hold m.table (publisher_next lane.port.call) ((publishers_stay_within m.table.sizes lane is).2);
      others = λ other not. set_other m.publishers place other (publisher_after (publisher_given m.table lane) lane) not;
      subscribers = refl;
      orders_are = refl;
      ended_calls = length-append m.finished (ended (Publisher place) lane.call lane.first m.moments (publisher_ending m.table lane))
          ∙ ap (λ (k : ℕ). length m.finished + k)
          (ended_length (Publisher place) lane.call lane.first m.moments (publisher_ending m.table lane)
          ∙ ap (λ (b : Bool). if b then 1 else 0)
          (publisher_answers lane.fails lane.port.call (publisher_after (publisher_given m.table lane) lane).port.book.answer));
    }

gone_subscriber : (m : World) (place : ℕ) (orders : List (List Placed)) (at : Option SubscriberLaneState)
    → slice_get m.subscribers place ≡ at → subscriber_fits_at at GoOn ≡ true → IsWithin m
    → SubscriberApart m place (subscriber_access at) orders (if subscriber_ends_at at then 1 else 0)
    (subscriber_goes_on (record m { orders = orders }) place at)
gone_subscriber m place orders None e fit w = absurd (cc)
gone_subscriber m place orders (Some lane) e fit w =
    let is : IsSubscriber m.table.sizes lane = all_at (IsSubscriber m.table.sizes) m.subscribers place lane e w.subscribers in
    record {
      words = others_hold m.table (subscriber_next lane.port.call) ((subscribers_stay_within m.table.sizes lane is).2);
      others = λ other not. set_other m.subscribers place other (subscriber_after (subscriber_given m.table lane) lane) not;
      publishers = refl;
      orders_are = refl;
      ended_calls = length-append m.finished
          (ended (Subscriber place) lane.call lane.first m.moments (subscriber_answer lane.port.call (length m.read)))
          ∙ ap (λ (k : ℕ). length m.finished + k)
          (ended_length (Subscriber place) lane.call lane.first m.moments (subscriber_answer lane.port.call (length m.read))
          ∙ ap (λ (b : Bool). if b then 1 else 0) (subscriber_answers lane.port.call (length m.read)));
    }

-- a step that is made stays apart, with one call more exactly if it is the last of one
record IsApart (m : World) (party : Party) (step : Move) (n : World) : Type 0 where
  words : OthersHold m.table (access_of m party step) n.table
  parties : OthersStay m party n
  orders : OrdersStay m (grows_at m party step) n
  calls : length n.finished ≡ length m.finished + (if ends m party step then 1 else 0)

happens_apart : (m : World) (party : Party) (step : Move) → fits m party step ≡ true → IsWithin m
    → IsApart m party step (happens m party step)
happens_apart m (Publisher place) (Begin c) fit w =
    let g = begun_publisher m place c (slice_get m.publishers place) fit in
    record {
      words = g.words;
      parties = (g.subscribers, g.others);
      orders
          = λ other not. ap (λ (os : List (List Placed)). slice_get os other) g.orders_are;
      calls = g.ended_calls;
    }
happens_apart m (Subscriber place) (Begin c) fit w =
    let g = begun_subscriber m place c (slice_get m.subscribers place) fit in
    record {
      words = g.words;
      parties = (g.publishers, g.others);
      orders
          = λ other not. ap (λ (os : List (List Placed)). slice_get os other) g.orders_are;
      calls = g.ended_calls;
    }
happens_apart m (Publisher place) GoOn fit w =
    let g = gone_publisher m place (placed m (Publisher place)).orders (slice_get m.publishers place) refl fit w in
    record {
      words = g.words;
      parties = (g.subscribers, g.others);
      orders = λ other not. ap (λ (os : List (List Placed)). slice_get os other) g.orders_are ∙ added_other m.orders
          (connection_at m (Publisher place)) m.moments (acts_at m (Publisher place)) other not;
      calls = g.ended_calls;
    }
happens_apart m (Subscriber place) GoOn fit w =
    let g = gone_subscriber m place (placed m (Subscriber place)).orders (slice_get m.subscribers place) refl fit w in
    record {
      words = g.words;
      parties = (g.publishers, g.others);
      orders = λ other not. ap (λ (os : List (List Placed)). slice_get os other) g.orders_are ∙ added_other m.orders
          (connection_at m (Subscriber place)) m.moments (acts_at m (Subscriber place)) other not;
      calls = g.ended_calls;
    }

-- a step that isn't made changes nothing
none_stay : (m : World) (party : Party) → OthersStay m party m
none_stay m (Publisher place) = (refl, λ other not. refl)
none_stay m (Subscriber place) = (refl, λ other not. refl)

made_apart : (m : World) (party : Party) (step : Move) (r : Stepped) (ending : Bool) → fits m party step ≡ true
    → ends m party step ≡ ending → more_ended r ≡ (if ending then 1 else 0) → IsWithin m → StaysApart m party step r (happens m party step)
made_apart m party step r ending fit e more w =
    let g = happens_apart m party step fit w in
    record {
      words = g.words;
      parties = g.parties;
      orders = g.orders;
      calls = g.calls ∙ ap (λ (k : ℕ). length m.finished + k) (ap (λ (b : Bool). if b then 1 else 0) e ∙ sym more);
    }

pub steps_apart : (m : World) (party : Party) (step : Move) (r : Stepped) (n : World) → StepsTo m party step r n → IsWithin m
    → StaysApart m party step r n
steps_apart m party step stepped.Went n h w
    = subst (StaysApart m party step stepped.Went) (sym h.2) (made_apart m party step stepped.Went false h.0 h.1 refl w)
steps_apart m party step stepped.Finished n h w
    = subst (StaysApart m party step stepped.Finished) (sym h.2) (made_apart m party step stepped.Finished true h.0 h.1 refl w)
steps_apart m party step stepped.Skipped n h w
    = subst (StaysApart m party step stepped.Skipped) (sym h.1)
    (record {
      words = λ word is not. refl;
      parties = none_stay m party;
      orders = λ other not. refl;
      calls
          = nothing_more (length m.finished);
    })
steps_apart m party step stepped.NoMemory n h w
    = subst (StaysApart m party step stepped.NoMemory) (sym h.2)
    (record {
      words = λ word is not. refl;
      parties = none_stay m party;
      orders = λ other not. refl;
      calls
          = nothing_more (length m.finished);
    })
