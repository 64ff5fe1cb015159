-- Every step keeps that a read has loaded what its slot holds.
use Rattle.std.proofs.Common.{ℕ, ◌≡◌, ◌+◌, ◌-◌, ◌<◌, ◌≤◌, ◌^◌, ◌||◌, Bool, true, false, if◌then◌else◌, nat_lt, List, [], ◌∷◌, ◌++◌}
use Rattle.std.proofs.Common.{length, set, get_or, slice_get, Option, Some, None, refl, sym, ◌∙◌, ap, subst, inl, inr, arith}
use Rattle.std.proofs.Common.{length-append}
use Rattle.std.proofs.lemmas.Bool.{cases_lt, ltb-true, ltb-false, eq-eqb}
use Rattle.std.proofs.lemmas.Bool.Decides.{eqb_tells}
use Rattle.std.proofs.lemmas.List.{ext_get_or, get_or_past}
use Rattle.std.proofs.lemmas.Option.{slice_get-get_or}
use Rattle.iox_lanes_machine.specs.QueuesSteps.Access.{successor}
use Rattle.iox_lanes_machine.specs.QueuesSteps.declared.order.Placed.{Placed}
use Rattle.iox_lanes_machine.specs.QueuesSteps.declared.order.PushAnswer.{PushAnswer}
use Rattle.iox_lanes_machine.specs.QueuesSteps.declared.order.PushAnswer.TheVariants.{Kept, LeftOut, Refused}
use Rattle.iox_lanes_machine.specs.QueuesSteps.declared.order.PopAnswer.{PopAnswer}
use Rattle.iox_lanes_machine.specs.QueuesSteps.declared.order.PopAnswer.TheVariants.{Got, Saw}
use Rattle.iox_lanes_machine.specs.QueuesSteps.declared.schedule.Stepped.{Stepped}
use Rattle.iox_lanes_machine.specs.QueuesSteps.declared.schedule.Stepped.TheVariants as stepped
use Rattle.iox_lanes_machine.specs.QueuesSteps.Refusing as refusing
use Rattle.iox_lanes_machine.specs.QueuesSteps.declared.rings.refusing.push.Push as refusing_push_type
use Rattle.iox_lanes_machine.specs.QueuesSteps.Ends.{pop_take}
use Rattle.iox_lanes_machine.specs.QueuesSteps.declared.rings.ends.Pop.{Pop}
use Rattle.iox_lanes_machine.specs.LanesBase.Numbers.{IsSlotWord}
use Rattle.iox_lanes_machine.specs.LanesBase.Table.{TableWords, held_by, shared_answer, after_shared}
use Rattle.iox_lanes_machine.specs.LanesBase.declared.words.sizes.TableSizes.{TableSizes}
use Rattle.iox_lanes_machine.specs.LanesBase.declared.words.word.SharedWord.TheVariants.{Slot}
use Rattle.iox_lanes_machine.specs.LanesBase.declared.words.word.SlotWord.TheVariants.{Header, UserHeader, Payload}
use Rattle.iox_lanes_machine.specs.LanesBase.Answers.{pop_answer, refusing_push_answer}
use Rattle.iox_lanes_machine.specs.LanesBase.Publishing.{publisher_is_over, publisher_next}
use Rattle.iox_lanes_machine.specs.LanesBase.Subscribing.{word_at, subscriber_is_over, subscriber_next, subscriber_take}
use Rattle.iox_lanes_machine.specs.LanesBase.Subscribing.{subscriber_change, receive_from, received, is_full_at, released}
use Rattle.iox_lanes_machine.specs.LanesBase.declared.calls.publisher.PublisherCall.{PublisherCall}
use Rattle.iox_lanes_machine.specs.LanesBase.declared.calls.publisher.PublisherCall.TheVariants as publishing
use Rattle.iox_lanes_machine.specs.LanesBase.declared.calls.route.Route.{Route}
use Rattle.iox_lanes_machine.specs.LanesBase.declared.calls.subscriber.SlotExtent.{SlotExtent}
use Rattle.iox_lanes_machine.specs.LanesBase.declared.calls.subscriber.SubscriberCall.{SubscriberCall}
use Rattle.iox_lanes_machine.specs.LanesBase.declared.calls.subscriber.SubscriberCall.TheVariants as subscribing
use Rattle.iox_lanes_machine.specs.LanesBase.declared.calls.subscriber.SubscriberChange.{SubscriberChange}
use Rattle.iox_lanes_machine.specs.LanesBase.declared.calls.subscriber.SubscriberChange.TheVariants as change
use Rattle.iox_lanes_machine.specs.LanesParties.PublisherKeeping.{put_at}
use Rattle.iox_lanes_machine.specs.LanesParties.Keeping.{SubscriberState, changed}
use Rattle.iox_lanes_machine.specs.LanesParties.Parties.{PublisherLaneState, SubscriberLaneState, is_borrowed, place_of, route_at}
use Rattle.iox_lanes_machine.specs.LanesParties.Parties.{release_begun, subscriber_begun, subscriber_after, words_read}
use Rattle.iox_lanes_machine.specs.LanesParties.Within.{IsExtent, IsSubscriber, IsSubscribing}
use Rattle.iox_lanes_machine.specs.LanesParties.declared.call.Call.{Call}
use Rattle.iox_lanes_machine.specs.LanesParties.declared.call.Call.TheVariants as call
use Rattle.iox_lanes_machine.specs.LanesParties.declared.call.CallName.{CallName}
use Rattle.iox_lanes_machine.specs.LanesParties.declared.call.CallName.TheVariants as name
use Rattle.iox_lanes_machine.specs.LanesParties.declared.call.FinishedCall.{FinishedCall}
use Rattle.iox_lanes_machine.specs.LanesParties.declared.call.Move.{Move}
use Rattle.iox_lanes_machine.specs.LanesParties.declared.call.Move.TheVariants.{Begin, GoOn}
use Rattle.iox_lanes_machine.specs.LanesParties.declared.call.Party.{Party}
use Rattle.iox_lanes_machine.specs.LanesParties.declared.call.Party.TheVariants.{Publisher, Subscriber}
use Rattle.iox_lanes_machine.proofs.LanesParties.Rings.{all_at}
use Rattle.iox_lanes_machine.specs.Borrowing.{is_at, borrows, UsesBorrowed}
use Rattle.iox_lanes_machine.specs.LedgerUses.{one_if}
use Rattle.iox_lanes_machine.proofs.Entries.{put_at_same, put_at_other}
use Rattle.iox_lanes_machine.proofs.Samples.{borrows_is}
use Rattle.iox_lanes_machine.specs.Alone.{IsAtConnection, UsedSlotsStay}
use Rattle.iox_lanes_machine.specs.Calls.{IsStageOf, IsReceiverStageOf, CallsFollow}
use Rattle.iox_lanes_machine.specs.Held.{extent_of, slot_held, HoldsFirst, LoadsHeld, ReadsHold, ReadsWhole}
use Rattle.iox_lanes_machine.specs.Kept.{IsLinkOf, receiver, IsWithin}
use Rattle.iox_lanes_machine.specs.Reads.{width, ReadsLie}
use Rattle.iox_lanes_machine.specs.Told.{BegunCall, begun, call_of, publisher_call, subscriber_call, Told, EndTold}
use Rattle.iox_lanes_machine.specs.Uses.{SubscriberUses, UsesKept}
use Rattle.iox_lanes_machine.specs.World.{World, happens, ends, publisher_ends_at, subscriber_ends_at, publisher_begins}
use Rattle.iox_lanes_machine.specs.World.{publisher_goes_on, subscriber_given, subscriber_begins, subscriber_goes_on, placed, StepsTo}
use Rattle.iox_lanes_machine.proofs.Calls.{set_is}
use Rattle.iox_lanes_machine.proofs.Ends.{some_is}
use Rattle.iox_lanes_machine.proofs.PublisherUses.{order_there}
use Rattle.iox_lanes_machine.proofs.Start.{listed_get, listed_length}
use Rattle.iox_lanes_machine.proofs.Within.{set_other, changed_routes, sizes_stay}

-- a slot has each of its words
pub word_is : (sizes : TableSizes) (word : ℕ) (b d : Bool) → nat_lt word 3 ≡ b → nat_lt (word - 3) sizes.user_header_words ≡ d
    → word < width sizes
    → IsSlotWord sizes (if b then Header word else if d then UserHeader (word - 3) else Payload (word - 3 - sizes.user_header_words))
word_is sizes word true d e f h = ltb-true word 3 e
word_is sizes word false true e f h = ltb-true (word - 3) sizes.user_header_words f
word_is sizes word false false e f h = omega (arith, ltb-false word 3 e, ltb-false (word - 3) sizes.user_header_words f, h)

-- a connection of a list
route_there : (xs : List Route) (i : ℕ) (at : Option Route) → slice_get xs i ≡ at → i < length xs → (route : Route)
    × (slice_get xs i ≡ Some route)
route_there [] i None e below = absurd (omega (arith, below))
route_there (x ∷ xs) i None e below = absurd (cc (sym (slice_get-get_or (x ∷ xs) i x below) ∙ e))
route_there xs i (Some route) e below = (route, e)

-- a sample that is borrowed stands at a connection
pub borrowed_there : (m : World) (who : ℕ) (lane : SubscriberLaneState) → slice_get m.subscribers who ≡ Some lane → IsWithin m
    → SubscriberUses m lane → (slot : ℕ) (at : Option ℕ) → get_or lane.port.samples slot None ≡ at → is_borrowed at ≡ true
    → IsAtConnection m slot
borrowed_there m who lane found w u slot None e h = absurd (cc h)
borrowed_there m who lane found w u slot (Some place) e h =
    let there = route_there lane.port.routes place (slice_get lane.port.routes place) refl (u.placed slot place e) in
    let mine : IsLinkOf m.links receiver who there.0
    = all_at (IsLinkOf m.links receiver who) lane.port.routes place there.0 there.1 (w.receivers who lane found) in
    let has : borrows (there.0).connection slot (slice_get m.subscribers mine.link.subscriber) ≡ true =
    ap (borrows (there.0).connection slot) (ap (slice_get m.subscribers) mine.own ∙ found) ∙ borrows_is lane (there.0).connection slot
    (Some place) e ∙ ap (is_at (there.0).connection) there.1 ∙ eq-eqb (there.0).connection (there.0).connection refl in
    record {
      connection = (there.0).connection;
      link = mine.link;
      order = get_or m.orders (there.0).connection [];
      found = mine.found;
      got = order_there m (there.0).connection mine.link mine.found w;
      has = omega (arith, ap one_if has);
    }

-- and is a slot of the service
borrowed_slot : (m : World) (lane : SubscriberLaneState) → SubscriberUses m lane → (slot : ℕ)
    → is_borrowed (get_or lane.port.samples slot None) ≡ true → slot < m.table.sizes.slots
borrowed_slot m lane u slot h = elim (cases_lt slot (length lane.port.samples)) [
  | inl lt ↦ omega (arith, lt, u.all)
  | inr past ↦ absurd (cc (sym h ∙ ap is_borrowed (get_or_past lane.port.samples slot None past)))
]

-- what a slot with a use holds, it holds after any step
held_stays : (m n : World) (slot words : ℕ) (list : List ℕ) → n.table.sizes ≡ m.table.sizes → UsedSlotsStay m n → m.moments ≤ 2 ^ 63
    → IsAtConnection m slot → slot < m.table.sizes.slots → words ≤ width m.table.sizes → HoldsFirst m.table slot words list
    → HoldsFirst n.table slot words list
held_stays m n slot words list e stay few used there le h = λ word below.
    let is : IsSlotWord m.table.sizes (word_at (extent_of m.table.sizes) word)
    = word_is m.table.sizes word (nat_lt word 3) (nat_lt (word - 3) m.table.sizes.user_header_words) refl refl
    (omega (arith, below, le)) in
    h word below ∙ sym (stay few slot (word_at (extent_of m.table.sizes) word) (there, is) (inr used)) ∙ ap
    (λ (sizes : TableSizes). held_by n.table (Slot slot (word_at (extent_of sizes) word))) (sym e)

-- a step of another party leaves what was loaded
loads_stay : (m n : World) (who : ℕ) (lane : SubscriberLaneState) (c : SubscriberCall) → lane.port.call ≡ c
    → slice_get m.subscribers who ≡ Some lane → IsWithin m → SubscriberUses m lane → n.table.sizes ≡ m.table.sizes → UsedSlotsStay m n
    → m.moments ≤ 2 ^ 63
    → IsSubscribing m.table.sizes lane.port.routes c → UsesBorrowed lane.port.samples c → LoadsHeld m.table lane.port.words c
    → LoadsHeld n.table lane.port.words c
loads_stay m n who lane subscribing.Idle is found w u e stay few within b h = tt
loads_stay m n who lane (subscribing.Receiving place route p waits) is found w u e stay few within b h = tt
loads_stay m n who lane (subscribing.Received given) is found w u e stay few within b h = tt
loads_stay m n who lane (subscribing.Reading slot word extent) is found w u e stay few within b h =
    held_stays m n slot word lane.port.words e stay few
    (borrowed_there m who lane found w u slot (get_or lane.port.samples slot None) refl b) within.0 (omega (arith, within.1)) h
loads_stay m n who lane (subscribing.WasRead slot) is found w u e stay few within b h =
    subst (λ (sizes : TableSizes). HoldsFirst n.table slot (width sizes) lane.port.words) (sym e)
    (held_stays m n slot (width m.table.sizes) lane.port.words e stay few
    (borrowed_there m who lane found w u slot (get_or lane.port.samples slot None) refl b) (borrowed_slot m lane u slot b)
    (omega arith) h)
loads_stay m n who lane (subscribing.Releasing place route p) is found w u e stay few within b h = tt
loads_stay m n who lane (subscribing.Released done) is found w u e stay few within b h = tt

-- the words after a change
abbrev words_after : SubscriberChange → List ℕ → List ℕ
words_after change.Nothing words = words
words_after (change.Borrow place slot) words = words
words_after (change.Note word value) words = put_at words word value
words_after (change.GiveBack place slot) words = words

words_are : (c : SubscriberChange) (state : SubscriberState) → (changed c state).words ≡ words_after c state.words
words_are change.Nothing state = refl
words_are (change.Borrow place slot) state = refl
words_are (change.Note word value) state = refl
words_are (change.GiveBack place slot) state = refl

from_loads : (table : TableWords) (list : List ℕ) (place : ℕ) (full waits : Bool) (at : Option Route)
    → LoadsHeld table list (receive_from place full waits at)
from_loads table list place full waits None = tt
from_loads table list place full waits (Some route) = tt

received_loads : (table : TableWords) (list : List ℕ) (routes : List Route) (borrowed : List ℕ) (most place : ℕ) (route : Route)
    (p : Pop) (waits : Bool) (a : Option PopAnswer) → LoadsHeld table list (received routes borrowed most place route p waits a)
received_loads table list routes borrowed most place route p waits None = tt
received_loads table list routes borrowed most place route p waits (Some (Got (Some slot))) = tt
received_loads table list routes borrowed most place route p waits (Some (Got None))
    = from_loads table list (successor place) (is_full_at borrowed most (successor place)) waits (slice_get routes (successor place))
received_loads table list routes borrowed most place route p waits (Some (Saw some))
    = from_loads table list (successor place) (is_full_at borrowed most (successor place)) (waits || some)
    (slice_get routes (successor place))

released_loads : (table : TableWords) (list : List ℕ) (place : ℕ) (route : Route) (p : refusing_push_type.Push) (a : Option PushAnswer)
    → LoadsHeld table list (released place route p a)
released_loads table list place route p None = tt
released_loads table list place route p (Some Kept) = tt
released_loads table list place route p (Some (LeftOut oldest)) = tt
released_loads table list place route p (Some Refused) = tt

-- a read loads one word more
read_loads : (table : TableWords) (list : List ℕ) (slot word : ℕ) (extent : SlotExtent) (test : Bool)
    → nat_lt (successor word) (3 + extent.user_header_words + extent.payload_words) ≡ test → IsExtent table.sizes extent
    → HoldsFirst table slot (word + 1) list
    → LoadsHeld table list (if test then subscribing.Reading slot (successor word) extent else subscribing.WasRead slot)
read_loads table list slot word extent true e is h = λ at below. h at (omega (arith, below, next_le word))
  where
    next_le : (n : ℕ) → successor n ≤ n + 1
    next_le n = omega arith
read_loads table list slot word extent false e is h
    = λ at below. h at (omega (
      arith,
      below,
      ltb-false (successor word) (3 + extent.user_header_words + extent.payload_words) e,
      is.user_header,
      is.payload,
      next_le
          word,
    ))
  where
    next_le : (n : ℕ) → successor n ≤ n + 1
    next_le n = omega arith

noted : (table : TableWords) (list : List ℕ) (slot word : ℕ) (extent : SlotExtent) (a : ℕ) → word < length list
    → IsExtent table.sizes extent → a ≡ held_by table (Slot slot (word_at extent word)) → HoldsFirst table slot word list
    → HoldsFirst table slot (word + 1) (put_at list word a)
noted table list slot word extent a room is e h = λ at below. elim (eqb_tells at word) [
  | inl same ↦
      ap (λ (k : ℕ). get_or (put_at list word a) k 0) same.1 ∙ put_at_same list word a 0 room ∙ e ∙ ap
      (λ (n : ℕ). held_by table (Slot slot
      (if nat_lt word 3 then Header word else if nat_lt (word - 3) n then UserHeader (word - 3) else Payload (word - 3 - n))))
      is.user_header
      ∙ ap (λ (k : ℕ). held_by table (Slot slot (word_at (extent_of table.sizes) k))) (sym same.1)
  | inr other ↦ put_at_other list word at a 0 other.1 ∙ h at (omega (arith, below, other.1))
]

own_loads : (table : TableWords) (routes : List Route) (borrowed : List ℕ) (most : ℕ) (list : List ℕ) (c : SubscriberCall)
    → IsSubscribing table.sizes routes c → length list ≡ width table.sizes → LoadsHeld table list c
    → LoadsHeld (after_shared table (subscriber_next c))
    (words_after (subscriber_change c (shared_answer table (subscriber_next c))) list)
    (subscriber_take routes borrowed most c (shared_answer table (subscriber_next c)))
own_loads table routes borrowed most list subscribing.Idle is room h = tt
own_loads table routes borrowed most list (subscribing.Receiving place route p waits) is room h
    = received_loads (after_shared table (subscriber_next (subscribing.Receiving place route p waits)))
    (words_after (subscriber_change (subscribing.Receiving place route p waits)
    (shared_answer table (subscriber_next (subscribing.Receiving place route p waits)))) list) routes borrowed most place route
    (pop_take p (shared_answer table (subscriber_next (subscribing.Receiving place route p waits)))) waits
    (pop_answer (pop_take p (shared_answer table (subscriber_next (subscribing.Receiving place route p waits)))))
own_loads table routes borrowed most list (subscribing.Received given) is room h = tt
own_loads table routes borrowed most list (subscribing.Reading slot word extent) is room h =
    read_loads table (put_at list word (held_by table (Slot slot (word_at extent word)))) slot word extent
    (nat_lt (successor word) (3 + extent.user_header_words + extent.payload_words)) refl is.2
    (noted table list slot word extent (held_by table (Slot slot (word_at extent word))) (omega (arith, is.1, room)) is.2 refl h)
own_loads table routes borrowed most list (subscribing.WasRead slot) is room h = tt
own_loads table routes borrowed most list (subscribing.Releasing place route p) is room h
    = released_loads (after_shared table (subscriber_next (subscribing.Releasing place route p)))
    (words_after (subscriber_change (subscribing.Releasing place route p)
    (shared_answer table (subscriber_next (subscribing.Releasing place route p)))) list) place route
    (refusing.push_take p (shared_answer table (subscriber_next (subscribing.Releasing place route p))))
    (refusing_push_answer (refusing.push_take p (shared_answer table (subscriber_next (subscribing.Releasing place route p)))))
own_loads table routes borrowed most list (subscribing.Released done) is room h = tt

-- a begin has loaded nothing
release_loads : (table : TableWords) (moment sample : ℕ) (at : Option ℕ) (to : Option Route) (lane : SubscriberLaneState)
    → LoadsHeld table lane.port.words lane.port.call
    → LoadsHeld table (release_begun moment sample at to lane).port.words (release_begun moment sample at to lane).port.call
release_loads table moment sample None to lane h = h
release_loads table moment sample (Some place) None lane h = h
release_loads table moment sample (Some place) (Some route) lane h = tt

begun_read : (table : TableWords) (list : List ℕ) (slot : ℕ) (extent : SlotExtent) (test : Bool)
    → nat_lt 0 (3 + extent.user_header_words + extent.payload_words) ≡ test
    → LoadsHeld table list (if test then subscribing.Reading slot 0 extent else subscribing.WasRead slot)
begun_read table list slot extent true e = λ at below. absurd (omega (arith, below))
begun_read table list slot extent false e = let none
    = ltb-false 0 (3 + extent.user_header_words + extent.payload_words) e in absurd (omega (arith, none))

begun_loads : (table : TableWords) (moment : ℕ) (c : Call) (lane : SubscriberLaneState) → LoadsHeld table lane.port.words lane.port.call
    → LoadsHeld table (subscriber_begun moment c lane).port.words (subscriber_begun moment c lane).port.call
begun_loads table moment call.LoanUninit lane h = h
begun_loads table moment (call.Write loan payload user_header) lane h = h
begun_loads table moment (call.Send loan) lane h = h
begun_loads table moment (call.DropLoan loan) lane h = h
begun_loads table moment call.Receive lane h
    = from_loads table lane.port.words 0 (is_full_at lane.port.borrowed lane.port.most_borrowed 0) false (slice_get lane.port.routes 0)
begun_loads table moment (call.Read sample) lane h
    = begun_read table lane.port.words sample lane.port.extent
    (nat_lt 0 (3 + lane.port.extent.user_header_words + lane.port.extent.payload_words)) refl
begun_loads table moment (call.Release sample) lane h
    = release_loads table moment sample (place_of sample lane) (route_at (place_of sample lane) lane) lane h

-- every lane whose party doesn't step
others_hold : (m n : World) (who : ℕ) (lane : SubscriberLaneState) → slice_get m.subscribers who ≡ Some lane → IsWithin m → UsesKept m
    → n.table.sizes ≡ m.table.sizes → UsedSlotsStay m n → m.moments ≤ 2 ^ 63 → ReadsHold m
    → LoadsHeld n.table lane.port.words lane.port.call
others_hold m n who lane found w u e stay few h =
    let is : IsSubscriber m.table.sizes lane = all_at (IsSubscriber m.table.sizes) m.subscribers who lane found w.subscribers in
    let uses : SubscriberUses m lane = u.subscribers who lane found in
    loads_stay m n who lane lane.port.call refl found w uses e stay few is.call uses.borrowed (h who lane found)

gone_own : (m n : World) (place : ℕ) (lane : SubscriberLaneState) → slice_get m.subscribers place ≡ Some lane
    → n.table ≡ after_shared m.table (subscriber_next lane.port.call) → IsWithin m → ReadsLie m → ReadsHold m
    → LoadsHeld n.table (subscriber_after (subscriber_given m.table lane) lane).port.words
    (subscriber_after (subscriber_given m.table lane) lane).port.call
gone_own m n place lane found table w r h =
    let is : IsSubscriber m.table.sizes lane = all_at (IsSubscriber m.table.sizes) m.subscribers place lane found w.subscribers in
    subst (λ (t : TableWords). LoadsHeld t (subscriber_after (subscriber_given m.table lane) lane).port.words
    (subscriber_after (subscriber_given m.table lane) lane).port.call) (sym table)
    (subst (λ (ws : List ℕ). LoadsHeld (after_shared m.table (subscriber_next lane.port.call)) ws
    (subscriber_after (subscriber_given m.table lane) lane).port.call)
    (sym (words_are (subscriber_change lane.port.call (subscriber_given m.table lane)) _))
    (subst (LoadsHeld (after_shared m.table (subscriber_next lane.port.call))
    (words_after (subscriber_change lane.port.call (subscriber_given m.table lane)) lane.port.words))
    (sym ((changed_routes (subscriber_change lane.port.call (subscriber_given m.table lane)) _).1))
    (own_loads m.table lane.port.routes lane.port.borrowed lane.port.most_borrowed lane.port.words lane.port.call is.call
    (r.rooms place lane found) (h place lane found))))

-- what a step leaves of the table's sizes and of the subscribers
begun_publisher_same : (m : World) (place : ℕ) (c : Call) (at : Option PublisherLaneState)
    → ((publisher_begins m place c at).table ≡ m.table) × ((publisher_begins m place c at).subscribers ≡ m.subscribers)
begun_publisher_same m place c None = (refl, refl)
begun_publisher_same m place c (Some lane) = (refl, refl)

gone_publisher_same : (m : World) (place : ℕ) (orders : List (List Placed)) (at : Option PublisherLaneState)
    → ((publisher_goes_on (record m { orders = orders }) place at).table.sizes ≡ m.table.sizes)
    × ((publisher_goes_on (record m { orders = orders }) place at).subscribers ≡ m.subscribers)
gone_publisher_same m place orders None = (refl, refl)
gone_publisher_same m place orders (Some lane) = ((sizes_stay m.table (publisher_next lane.port.call)).0, refl)

gone_subscriber_same : (m : World) (place : ℕ) (orders : List (List Placed)) (at : Option SubscriberLaneState)
    → ((subscriber_goes_on (record m { orders = orders }) place at).table.sizes ≡ m.table.sizes)
    × ((subscriber_goes_on (record m { orders = orders }) place at).subscribers ≡ (subscriber_goes_on m place at).subscribers)
    × ((subscriber_goes_on (record m { orders = orders }) place at).table ≡ (subscriber_goes_on m place at).table)
gone_subscriber_same m place orders None = (refl, refl, refl)
gone_subscriber_same m place orders (Some lane) = ((sizes_stay m.table (subscriber_next lane.port.call)).0, refl, refl)

gone_subscriber : (m : World) (place : ℕ) (at : Option SubscriberLaneState) → slice_get m.subscribers place ≡ at → IsWithin m
    → UsesKept m → ReadsLie m → UsedSlotsStay m (happens m (Subscriber place) GoOn) → m.moments ≤ 2 ^ 63 → ReadsHold m
    → (n : World) → n ≡ happens m (Subscriber place) GoOn → n.table.sizes ≡ m.table.sizes
    → n.subscribers ≡ (subscriber_goes_on m place at).subscribers → n.table ≡ (subscriber_goes_on m place at).table → ReadsHold n
gone_subscriber m place None e w u r stay few h n is sizes subs table = λ who lane found.
    let was : slice_get m.subscribers who ≡ Some lane = ap (λ (xs : List SubscriberLaneState). slice_get xs who) (sym subs) ∙ found in
    subst (λ (t : TableWords). LoadsHeld t lane.port.words lane.port.call) (sym table) (h who lane was)
gone_subscriber m place (Some own) e w u r stay few h n is sizes subs table = λ who lane found. elim (eqb_tells who place) [
  | inl same ↦
      let got : slice_get (set m.subscribers place (subscriber_after (subscriber_given m.table own) own)) who ≡ Some lane
      = ap (λ (xs : List SubscriberLaneState). slice_get xs who) (sym subs) ∙ found in
      let now : lane ≡ subscriber_after (subscriber_given m.table own) own
      = set_is m.subscribers place who own (subscriber_after (subscriber_given m.table own) own) lane e same.1 got in
      subst (λ (x : SubscriberLaneState). LoadsHeld n.table x.port.words x.port.call) (sym now) (gone_own m n place own e table w r h)
  | inr other ↦
      let got : slice_get (set m.subscribers place (subscriber_after (subscriber_given m.table own) own)) who ≡ Some lane
      = ap (λ (xs : List SubscriberLaneState). slice_get xs who) (sym subs) ∙ found in
      let was : slice_get m.subscribers who ≡ Some lane
      = sym (set_other m.subscribers place who (subscriber_after (subscriber_given m.table own) own) other.1) ∙ got in
      others_hold m n who lane was w u sizes (subst (UsedSlotsStay m) (sym is) stay) few h
]

begun_subscriber : (m : World) (place : ℕ) (c : Call) (at : Option SubscriberLaneState) → slice_get m.subscribers place ≡ at
    → ReadsHold m → ReadsHold (subscriber_begins m place c at)
begun_subscriber m place c None e h = h
begun_subscriber m place c (Some own) e h = λ who lane found. elim (eqb_tells who place) [
  | inl same ↦
      let now : lane ≡ subscriber_begun m.moments c own
      = set_is m.subscribers place who own (subscriber_begun m.moments c own) lane e same.1 found in
      subst (λ (x : SubscriberLaneState). LoadsHeld m.table x.port.words x.port.call) (sym now)
      (begun_loads m.table m.moments c own (h place own e))
  | inr other ↦ h who lane (sym (set_other m.subscribers place who (subscriber_begun m.moments c own) other.1) ∙ found)
]

same_hold : (m n : World) → n.table ≡ m.table → n.subscribers ≡ m.subscribers → ReadsHold m → ReadsHold n
same_hold m n table subs h = λ who lane found.
    subst (λ (t : TableWords). LoadsHeld t lane.port.words lane.port.call) (sym table)
    (h who lane (ap (λ (xs : List SubscriberLaneState). slice_get xs who) (sym subs) ∙ found))

pub happens_held : (m : World) (party : Party) (step : Move) → IsWithin m → UsesKept m → ReadsLie m
    → UsedSlotsStay m (happens m party step) → m.moments ≤ 2 ^ 63 → ReadsHold m → ReadsHold (happens m party step)
happens_held m (Publisher place) (Begin c) w u r stay few h =
    let same = begun_publisher_same m place c (slice_get m.publishers place) in same_hold m (happens m (Publisher place) (Begin c))
    same.0 same.1 h
happens_held m (Subscriber place) (Begin c) w u r stay few h = begun_subscriber m place c (slice_get m.subscribers place) refl h
happens_held m (Publisher place) GoOn w u r stay few h = λ who lane found.
    let same = gone_publisher_same m place (placed m (Publisher place)).orders (slice_get m.publishers place) in
    others_hold m (happens m (Publisher place) GoOn) who lane
    (ap (λ (xs : List SubscriberLaneState). slice_get xs who) (sym same.1) ∙ found) w u same.0 stay few h
happens_held m (Subscriber place) GoOn w u r stay few h =
    let same = gone_subscriber_same m place (placed m (Subscriber place)).orders (slice_get m.subscribers place) in
    gone_subscriber m place (slice_get m.subscribers place) refl w u r stay few h (happens m (Subscriber place) GoOn) refl same.0 same.1
    same.2

-- a call that ends is the one that its party began
pub same_last : (xs : List FinishedCall) (a b : FinishedCall) → xs ++ a ∷ [] ≡ xs ++ b ∷ [] → a ≡ b
same_last xs a b e = cc (sym (last_of xs a) ∙ ap (λ (ys : List FinishedCall). slice_get ys (length xs)) e ∙ last_of xs b)
  where
    last_of : (ys : List FinishedCall) (c : FinishedCall) → slice_get (ys ++ c ∷ []) (length ys) ≡ Some c
    last_of [] c = refl
    last_of (y ∷ ys) c = last_of ys c

pub none_more : (xs : List FinishedCall) (a : FinishedCall) → xs ≡ xs ++ a ∷ [] → ⊥
none_more xs a e = absurd (omega (arith, ap (λ (ys : List FinishedCall). length ys) e, length-append xs (a ∷ [])))

-- a publisher reads nothing
publisher_never_reads : (call : CallName) (c : PublisherCall) (sample : ℕ) → publisher_is_over c ≡ true → IsStageOf call c
    → call ≡ name.Read sample → ⊥
publisher_never_reads call publishing.Idle sample over h e = absurd (cc over)
publisher_never_reads call (publishing.LoanReclaims place route p) sample over h e = absurd (cc over)
publisher_never_reads call publishing.Lending sample over h e = absurd (cc (sym h ∙ e))
publisher_never_reads call (publishing.Writing slot word value) sample over h e = absurd (cc over)
publisher_never_reads call (publishing.Written slot) sample over h e = absurd (cc (sym h ∙ e))
publisher_never_reads call (publishing.Heading slot word value) sample over h e = absurd (cc over)
publisher_never_reads call (publishing.Remembering slot) sample over h e = absurd (cc over)
publisher_never_reads call (publishing.SendReclaims slot place route p) sample over h e = absurd (cc over)
publisher_never_reads call (publishing.Pushing slot place route p delivery) sample over h e = absurd (cc over)
publisher_never_reads call (publishing.Sent slot delivery) sample over h e = absurd (cc (sym h ∙ e))
publisher_never_reads call (publishing.Dropping slot) sample over h e = absurd (cc (sym h ∙ e))

-- a subscriber whose read ends stands after its last word
reads_slot : (call : CallName) (c : SubscriberCall) (sample : ℕ) → subscriber_is_over c ≡ true → IsReceiverStageOf call c
    → call ≡ name.Read sample → c ≡ subscribing.WasRead sample
reads_slot call subscribing.Idle sample over h e = absurd (cc over)
reads_slot call (subscribing.Receiving place route p waits) sample over h e = absurd (cc over)
reads_slot call (subscribing.Received given) sample over h e = absurd (cc (sym h ∙ e))
reads_slot call (subscribing.Reading slot word extent) sample over h e = absurd (cc over)
reads_slot call (subscribing.WasRead slot) sample over h e =
    let same : slot ≡ sample = cc (sym h ∙ e) in ap (λ (s : ℕ). subscribing.WasRead s) same
reads_slot call (subscribing.Releasing place route p) sample over h e = absurd (cc over)
reads_slot call (subscribing.Released done) sample over h e = absurd (cc (sym (h.1) ∙ e))

held_words : (table : TableWords) (slot : ℕ) (list : List ℕ) → length list ≡ width table.sizes
    → HoldsFirst table slot (width table.sizes) list → list ≡ slot_held table slot
held_words table slot list size h =
    ext_get_or 0 list (slot_held table slot)
    (size ∙ sym (listed_length (λ word. held_by table (Slot slot (word_at (extent_of table.sizes) word))) (width table.sizes)))
    (λ i below. let within : i < width table.sizes
    = omega (arith, below, size) in h i within ∙ sym
    (listed_get (λ word. held_by table (Slot slot (word_at (extent_of table.sizes) word))) (width table.sizes) i 0 within))

read_ends : (m : World) (place : ℕ) (at : Option SubscriberLaneState) → slice_get m.subscribers place ≡ at
    → subscriber_ends_at at ≡ true → (call : CallName) (first sample : ℕ) → subscriber_call at ≡ Some (begun call first)
    → call ≡ name.Read sample
    → IsWithin m → UsesKept m → ReadsLie m → CallsFollow m → ReadsHold m
    → ((subscriber_goes_on (placed m (Subscriber place)) place at).read ≡ m.read ++ slot_held m.table sample) × IsAtConnection m sample
read_ends m place None e over call first sample of is w u r c h = absurd (cc over)
read_ends m place (Some lane) e over call first sample of is w u r c h =
    let own : lane.call ≡ name.Read sample
    = ap (λ (b : BegunCall). b.call) (some_is (begun lane.call lane.first) (begun call first) of) ∙ is in
    let stage : lane.port.call ≡ subscribing.WasRead sample
    = reads_slot lane.call lane.port.call sample over (c.subscribers place lane e).0 own in
    let loaded : HoldsFirst m.table sample (width m.table.sizes) lane.port.words
    = subst (LoadsHeld m.table lane.port.words) stage (h place lane e) in
    let uses : SubscriberUses m lane = u.subscribers place lane e in
    let borrowed : is_borrowed (get_or lane.port.samples sample None) ≡ true
    = subst (UsesBorrowed lane.port.samples) stage uses.borrowed in (
      ap (λ (x : SubscriberCall). m.read ++ words_read x lane.port.words) stage ∙ ap (λ (ws : List ℕ). m.read ++ ws)
          (held_words m.table sample lane.port.words (r.rooms place lane e) loaded),
      borrowed_there m place lane e w uses sample (get_or lane.port.samples sample None) refl borrowed,
    )

publisher_ends : (m : World) (place : ℕ) (at : Option PublisherLaneState) → slice_get m.publishers place ≡ at
    → publisher_ends_at at ≡ true → (call : CallName) (first sample : ℕ) → publisher_call at ≡ Some (begun call first)
    → call ≡ name.Read sample → CallsFollow m → ⊥
publisher_ends m place None e over call first sample of is c = absurd (cc over)
publisher_ends m place (Some lane) e over call first sample of is c =
    let own : lane.call ≡ name.Read sample
    = ap (λ (b : BegunCall). b.call) (some_is (begun lane.call lane.first) (begun call first) of) ∙ is in
    publisher_never_reads lane.call lane.port.call sample over (c.publishers place lane e).0 own

ended_read : (m : World) (party : Party) (step : Move) → ends m party step ≡ true → (call : CallName) (first sample : ℕ)
    → call_of m party ≡ Some (begun call first) → call ≡ name.Read sample → IsWithin m → UsesKept m → ReadsLie m → CallsFollow m
    → ReadsHold m
    → ((happens m party step).read ≡ m.read ++ slot_held m.table sample) × IsAtConnection m sample
ended_read m party (Begin c) over call first sample of is w u r k h = absurd (cc over)
ended_read m (Publisher place) GoOn over call first sample of is w u r k h
    = absurd (publisher_ends m place (slice_get m.publishers place) refl over call first sample of is k)
ended_read m (Subscriber place) GoOn over call first sample of is w u r k h
    = read_ends m place (slice_get m.subscribers place) refl over call first sample of is w u r k h

pub reads_whole : (m : World) (party : Party) (step : Move) (r : Stepped) (n : World) → StepsTo m party step r n → Told m party step r n
    → IsWithin m → (m.moments ≤ 2 ^ 63 → UsesKept m) → ReadsLie m → (m.moments ≤ 2 ^ 63 → CallsFollow m)
    → (m.moments ≤ 2 ^ 63 → ReadsHold m) → ReadsWhole m n
reads_whole m party step stepped.Went n h told w u r c held
    = λ few call sample more is. absurd (none_more m.finished call (sym told.2 ∙ more))
reads_whole m party step stepped.Finished n h told w u r c held = λ few call sample more is.
    let end : EndTold m party n = told.2 in
    let same : end.call ≡ call = same_last m.finished end.call call (sym end.more ∙ more) in
    let own : (end.call).call ≡ name.Read sample = ap (λ (x : FinishedCall). x.call) same ∙ is in
    let got = ended_read m party step h.1 (end.call).call (end.call).first sample end.of own w (u few) r (c few) (held few) in
    (ap (λ (x : World). x.read) h.2 ∙ got.0, got.1)
reads_whole m party step stepped.Skipped n h told w u r c held
    = λ few call sample more is. absurd (none_more m.finished call (sym (ap (λ (x : World). x.finished) h.1) ∙ more))
reads_whole m party step stepped.NoMemory n h told w u r c held
    = λ few call sample more is. absurd (none_more m.finished call (sym (ap (λ (x : World). x.finished) h.2) ∙ more))
