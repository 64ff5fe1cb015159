-- Each send has a message, from its begin on; and each message that is found waiting has one.
use Rattle.std.proofs.Common.{ℕ, zero, suc, ◌≡◌, ◌+◌, ◌-◌, ◌<◌, ◌≤◌, ◌^◌, ◌&&◌, ◌⊎◌, Bool, true, false, not}
use Rattle.std.proofs.Common.{if◌then◌else◌, List, [], ◌∷◌, ◌++◌, length, get_or, slice_get, Option, None, Some, refl, sym}
use Rattle.std.proofs.Common.{◌∙◌, ap, ap₂, subst, inl, inr, arith}
use Rattle.std.proofs.lemmas.Bool.{eq-eqb, le-leb, lt-ltb}
use Rattle.std.proofs.lemmas.Bool.Decides.{eqb_tells}
use Rattle.std.proofs.lemmas.Option.{slice_get-get_or, slice_get_within}
use Rattle.iox_lanes_machine.specs.LanesBase.Publishing.{publisher_is_idle}
use Rattle.iox_lanes_machine.specs.LanesParties.Parties.{PublisherLaneState, SubscriberLaneState, publisher_begun}
use Rattle.iox_lanes_machine.specs.LanesParties.Parties.{publisher_fits}
use Rattle.iox_lanes_machine.specs.LanesParties.declared.call.Answer.{Answer}
use Rattle.iox_lanes_machine.specs.LanesParties.declared.call.Call.{Call}
use Rattle.iox_lanes_machine.specs.LanesParties.declared.call.Call.TheVariants as call
use Rattle.iox_lanes_machine.specs.LanesParties.declared.call.CallName.{CallName}
use Rattle.iox_lanes_machine.specs.LanesParties.declared.call.CallName.TheVariants as name
use Rattle.iox_lanes_machine.specs.LanesParties.declared.call.Entry.{Entry}
use Rattle.iox_lanes_machine.specs.LanesParties.declared.call.FinishedCall.{FinishedCall}
use Rattle.iox_lanes_machine.specs.LanesParties.declared.call.Move.{Move}
use Rattle.iox_lanes_machine.specs.LanesParties.declared.call.Move.TheVariants.{Begin, GoOn}
use Rattle.iox_lanes_machine.specs.LanesParties.declared.call.Party.{Party}
use Rattle.iox_lanes_machine.specs.LanesParties.declared.call.Party.TheVariants.{Publisher, Subscriber}
use Rattle.iox_lanes_machine.specs.QueuesSteps.declared.order.Placed.{Placed}
use Rattle.iox_lanes_machine.specs.Held.{slot_held}
use Rattle.iox_lanes_machine.specs.Kept.{IsKept}
use Rattle.iox_lanes_machine.specs.LedgerUses.{entry, one_if, refers, refers_to, references}
use Rattle.iox_lanes_machine.specs.Links.{LinkState}
use Rattle.iox_lanes_machine.specs.Uses.{PublisherUses}
use Rattle.iox_lanes_machine.specs.World.{World, fits, happens, ended, publisher_begins, publisher_goes_on, publisher_fits_at}
use Rattle.iox_lanes_machine.specs.World.{placed, subscriber_begins, subscriber_goes_on}
use Rattle.iox_lanes_machine.proofs.Calls.{set_is}
use Rattle.iox_lanes_machine.proofs.Connected.{sends_connected}
use Rattle.iox_lanes_machine.proofs.Ends.{some_is}
use Rattle.iox_lanes_machine.proofs.Entries.{entry_is, refers_own, total_none}
use Rattle.iox_lanes_machine.proofs.SubscriberUses.{recorded}
use Rattle.iox_lanes_machine.proofs.Within.{set_other}
use Rattle.iox_lanes_laws.specs.Messages.{MessageState, begun_messages, message_of, sent_by}
use Rattle.iox_lanes_laws.specs.Numbered.{found_before, found_first, found_in, found_messages, found_of, last_number, was_sent_by}
use Rattle.iox_lanes_laws.specs.Recorded.{RecordState, recorded_after, RecordsRun}
use Rattle.iox_lanes_laws.proofs.NumberedOrders.{kept_at}
use Rattle.iox_lanes_laws.proofs.NumberedRuns.{counted_at}

-- some message was sent or found in a slot by a moment
pub record Has (ms : List MessageState) (slot moment : ℕ) : Type 0 where
  pub number : ℕ
  pub message : MessageState
  pub there : slice_get ms number ≡ Some message
  pub same : message.slot ≡ slot
  pub early : message.moment ≤ moment

pub has_later : (ms : List MessageState) (slot early late : ℕ) → early ≤ late → Has ms slot early → Has ms slot late
has_later ms slot early late up h
    = record { number = h.number; message = h.message; there = h.there; same = h.same; early = omega (arith, h.early, up) }

pub has_more : (ms more : List MessageState) (slot moment : ℕ) → Has ms slot moment → Has (ms ++ more) slot moment
has_more ms more slot moment h = record {
  number = h.number;
  message = h.message;
  there = kept_at ms more h.number (slice_get_within ms h.number h.message h.there) ∙ h.there;
  same = h.same;
  early = h.early;
}

-- what stands after a list
pub at_behind : {X : Type 0} (xs more : List X) (k : ℕ) → slice_get (xs ++ more) (length xs + k) ≡ slice_get more k
at_behind [] more k = ap (slice_get more) (omega arith)
at_behind (x ∷ xs) more k =
    let next : length (x ∷ xs) + k ≡ suc (length xs + k) = omega arith in
    ap (slice_get (x ∷ (xs ++ more))) next ∙ at_behind xs more k

pub has_behind : (ms more : List MessageState) (slot moment : ℕ) → Has more slot moment → Has (ms ++ more) slot moment
has_behind ms more slot moment h = record {
  number = length ms + h.number;
  message = h.message;
  there = at_behind ms more h.number ∙ h.there;
  same = h.same;
  early = h.early;
}

was_sent : (ms : List MessageState) (slot moment : ℕ) (h : Has ms slot moment) → was_sent_by slot moment (slice_get ms h.number) ≡ true
was_sent ms slot moment h = ap (was_sent_by slot moment) h.there
    ∙ ap₂ (λ (b c : Bool). b && c) (eq-eqb (h.message).slot slot h.same) (le-leb (h.message).moment moment h.early)

-- so the slot has a number by then
numbered_by : (ms : List MessageState) (slot moment many : ℕ) (h : Has ms slot moment) → h.number < many
    → (k : ℕ) × (last_number ms slot moment many ≡ Some k)
numbered_by ms slot moment zero h below = absurd (omega (arith, below))
numbered_by ms slot moment (suc many) h below = by_test (numbered_by ms slot moment many h)
    (was_sent_by slot moment (slice_get ms many)) refl
  where
    by_test : (h.number < many → (k : ℕ) × (last_number ms slot moment many ≡ Some k)) → (b : Bool)
        → was_sent_by slot moment (slice_get ms many) ≡ b → (k : ℕ) × (last_number ms slot moment (suc many) ≡ Some k)
    by_test before true is = (many, ap (λ (b : Bool). if b then Some many else last_number ms slot moment many) is)
    by_test before false is = elim (eqb_tells h.number many) [
      | inl same ↦
          let sent : was_sent_by slot moment (slice_get ms many) ≡ true
          = ap (λ (n : ℕ). was_sent_by slot moment (slice_get ms n)) (sym same.1) ∙ was_sent ms slot moment h in
          absurd (cc (sym is ∙ sent))
      | inr other ↦
          let rest = before (omega (arith, below, other.1)) in
          (rest.0, ap (λ (b : Bool). if b then Some many else last_number ms slot moment many) is ∙ rest.1)
    ]

pub has_number : (ms : List MessageState) (slot moment : ℕ) → Has ms slot moment
    → (k : ℕ) × (last_number ms slot moment (length ms) ≡ Some k)
has_number ms slot moment h
    = numbered_by ms slot moment (length ms) h (slice_get_within ms h.number h.message h.there)

-- what a slot of a publisher has is found
module _ (m : World) (publisher : ℕ) where
  one_in : (slot uses : ℕ) → 0 < uses → Has (found_in m publisher slot uses) slot m.moments
  one_in slot uses some =
      let message : MessageState
      = record { publisher = publisher; slot = slot; moment = m.moments; words = slot_held m.table slot } in
      subst (λ (b : Bool). Has (if b then message ∷ [] else []) slot m.moments) (sym (lt-ltb 0 uses some))
      (record { number = 0; message = message; there = refl; same = refl; early = omega arith })

  in_first : (lane : PublisherLaneState) (many k : ℕ) → k < many → 0 < get_or lane.port.book.uses k 0
      → Has (found_first m publisher lane many) (lane.port.book.first + k) m.moments
  in_first lane zero k below some = absurd (omega (arith, below))
  in_first lane (suc many) k below some =
      let now = found_in m publisher (lane.port.book.first + many) (get_or lane.port.book.uses many 0) in
      elim (eqb_tells k many) [
        | inl same ↦ has_behind (found_first m publisher lane many) now (lane.port.book.first + k) m.moments
            (subst (λ (n : ℕ). Has now (lane.port.book.first + n) m.moments) (sym same.1)
            (one_in (lane.port.book.first + many) (get_or lane.port.book.uses many 0)
            (subst (λ (n : ℕ). 0 < get_or lane.port.book.uses n 0) same.1 some)))
        | inr other ↦ has_more (found_first m publisher lane many) now (lane.port.book.first + k) m.moments
            (in_first lane many k (omega (arith, below, other.1)) some)
      ]

in_before : (m : World) (many place slot moment : ℕ) (lane : PublisherLaneState) → place < many
    → slice_get m.publishers place ≡ Some lane → Has (found_of m place (Some lane)) slot moment → Has (found_before m many) slot moment
in_before m zero place slot moment lane below found h = absurd (omega (arith, below))
in_before m (suc many) place slot moment lane below found h =
    let now = found_of m many (slice_get m.publishers many) in
    elim (eqb_tells place many) [
      | inl same ↦ has_behind (found_before m many) now slot moment
          (subst (λ (xs : List MessageState). Has xs slot moment)
          (ap (found_of m place) (sym found) ∙ ap (λ (n : ℕ). found_of m n (slice_get m.publishers n)) same.1) h)
      | inr other ↦ has_more (found_before m many) now slot moment
          (in_before m many place slot moment lane (omega (arith, below, other.1)) found h)
    ]

is_referred : (b : Bool) (n : ℕ) → n ≡ one_if b → 0 < n → b ≡ true
is_referred true n e some = refl
is_referred false n e some = absurd (omega (arith, e, some))

-- a message that waits before the first step is found
pub found_has : (m : World) (connection at slot : ℕ) (link : LinkState) → IsKept m → m.moments ≡ 0
    → slice_get m.links connection ≡ Some link → slice_get link.found at ≡ Some slot → Has (found_messages m) slot 0
found_has m connection at slot link k none linked waits =
    let few : m.moments ≤ 2 ^ 63 = omega (arith, none) in
    let order : List Placed = get_or m.orders connection [] in
    let ordered : slice_get m.orders connection ≡ Some order = slice_get-get_or m.orders connection []
    (omega (arith, slice_get_within m.links connection link linked, (k.within).orders)) in
    let empty : order ≡ [] = (k.fresh none).orders connection order ordered in
    let got : slice_get m.orders connection ≡ Some [] = ordered ∙ ap (λ (o : List Placed). Some o) empty in
    let r = recorded m connection link [] linked got (sends_connected m (k.sends few)) (k.uses few) slot in
    let book = ((r.lane).port).book in
    let connections = length ((r.lane).port).routes in
    let own : PublisherUses m r.lane = (k.uses few).publishers link.publisher r.lane r.found in
    let has : refers_to book r.place slot ≡ true
    = is_referred (refers_to book r.place slot) _ r.is (omega (arith, counted_at link.found at slot waits)) in
    let bounds = refers_own book.first (length book.uses) book.referred r.place slot has in
    let there : r.place < connections = slice_get_within ((r.lane).port).routes r.place r.route r.at in
    let some : 0 < references book.first (length book.uses) book.referred connections slot =
    positive (references book.first (length book.uses) book.referred connections slot)
    (λ none. cc (sym has ∙ total_none (λ place. refers book.first (length book.uses) book.referred place slot) connections r.place none
    there)) in
    let used : 0 < entry book.first book.uses slot 0 = omega (arith, ((own.counted).each slot).counted, some) in
    let here : 0 < get_or book.uses (slot - book.first) 0
    = subst (λ (n : ℕ). 0 < n) (entry_is book.first slot book.uses 0 bounds.0) used in
    let below : slot - book.first < length book.loans = omega (arith, bounds.0, bounds.1, (own.counted).loans_each) in
    let one = in_first m link.publisher r.lane (length book.loans) (slot - book.first) below here in
    let same : book.first + (slot - book.first) ≡ slot = omega (arith, bounds.0) in
    subst (λ (n : ℕ). Has (found_messages m) slot n) none (in_before m (length m.publishers) link.publisher slot m.moments r.lane
    (slice_get_within m.publishers link.publisher r.lane r.found) r.found
    (subst (λ (n : ℕ). Has (found_first m link.publisher r.lane (length book.loans)) n m.moments) same one))
  where
    positive : (n : ℕ) → (n ≡ 0 → ⊥) → 0 < n
    positive zero h = absurd (h refl)
    positive (suc n) h = omega arith

-- Each send that ended, and each that goes on, has a message as it began.
pub record SentHave (m : World) (ms : List MessageState) : Type 0 where
  pub ended : (at who slot : ℕ) (call : FinishedCall) → slice_get m.finished at ≡ Some call → call.party ≡ Publisher who
      → call.call ≡ name.Send slot → Has ms slot call.first
  pub going : (who slot : ℕ) (lane : PublisherLaneState) → slice_get m.publishers who ≡ Some lane
      → publisher_is_idle lane.port.call ≡ false → lane.call ≡ name.Send slot → Has ms slot lane.first

-- what has them still has them with more messages, if no call ended and none began
none_sent : (m n : World) (ms more : List MessageState) → n.finished ≡ m.finished → n.publishers ≡ m.publishers → SentHave m ms
    → SentHave n (ms ++ more)
none_sent m n ms more ends stand h = record {
  ended = λ at who slot call found own asked. has_more ms more slot call.first
      (h.ended at who slot call (ap (λ (cs : List FinishedCall). slice_get cs at) (sym ends) ∙ found) own asked);
  going = λ who slot lane found inside asked. has_more ms more slot lane.first
      (h.going who slot lane (ap (λ (ls : List PublisherLaneState). slice_get ls who) (sym stand) ∙ found) inside asked);
}

-- no other call than a send begins with a message
never : (b : Bool) → b && false ≡ true → ⊥
never true h = cc h
never false h = cc h

-- a publisher that begins a call: if it is a send, it has its message
begun_has : (m : World) (place slot : ℕ) (c : Call) (lane : PublisherLaneState) (ms : List MessageState)
    → publisher_fits lane (Begin c) ≡ true → (publisher_begun m.moments c lane).call ≡ name.Send slot
    → Has (ms ++ sent_by m place c (Some lane)) slot (publisher_begun m.moments c lane).first
begun_has m place slot call.LoanUninit lane ms fit asked = absurd (cc asked)
begun_has m place slot (call.Write loan payload user_header) lane ms fit asked = absurd (cc asked)
begun_has m place slot (call.Send loan) lane ms fit asked =
    let message : MessageState = message_of m.table m.moments place loan lane in
    let same : loan ≡ slot = cc asked in
    has_behind ms (message ∷ []) slot m.moments
    (record { number = 0; message = message; there = refl; same = same; early = omega arith })
begun_has m place slot (call.DropLoan loan) lane ms fit asked = absurd (cc asked)
begun_has m place slot call.Receive lane ms fit asked = absurd (never (publisher_is_idle lane.port.call) fit)
begun_has m place slot (call.Read sample) lane ms fit asked = absurd (never (publisher_is_idle lane.port.call) fit)
begun_has m place slot (call.Release sample) lane ms fit asked = absurd (never (publisher_is_idle lane.port.call) fit)

begins_have : (m : World) (place : ℕ) (c : Call) (ms : List MessageState) (at : Option PublisherLaneState)
    → slice_get m.publishers place ≡ at → publisher_fits_at at (Begin c) ≡ true → SentHave m ms
    → SentHave (publisher_begins m place c at) (ms ++ sent_by m place c at)
begins_have m place c ms None e fit h = absurd (cc fit)
begins_have m place c ms (Some lane) e fit h = record {
  ended = λ at who slot call found own asked. has_more ms (sent_by m place c (Some lane)) slot call.first
      (h.ended at who slot call found own asked);
  going = λ who slot now found inside asked. elim (eqb_tells who place) [
    | inl same ↦
        let is : now ≡ publisher_begun m.moments c lane
        = set_is m.publishers place who lane (publisher_begun m.moments c lane) now e same.1 found in
        subst (λ (x : PublisherLaneState). Has (ms ++ sent_by m place c (Some lane)) slot x.first) (sym is)
        (begun_has m place slot c lane ms fit (ap (λ (x : PublisherLaneState). x.call) (sym is) ∙ asked))
    | inr other ↦ has_more ms (sent_by m place c (Some lane)) slot now.first
        (h.going who slot now (sym (set_other m.publishers place who (publisher_begun m.moments c lane) other.1) ∙ found) inside asked)
  ];
}

in_either : (xs ys : List FinishedCall) (at : ℕ) (x : FinishedCall) → slice_get (xs ++ ys) at ≡ Some x
    → (slice_get xs at ≡ Some x) ⊎ ((k : ℕ) × (slice_get ys k ≡ Some x))
in_either [] ys at x h = inr (at, h)
in_either (y ∷ xs) ys zero x h = inl h
in_either (y ∷ xs) ys (suc at) x h = in_either xs ys at x h

-- a call that ends is the one that its party was in
record IsEnding (party : Party) (asked : CallName) (first : ℕ) (call : FinishedCall) : Type 0 where
  own : call.party ≡ party
  same : call.call ≡ asked
  begun : call.first ≡ first

is_ending : (party : Party) (asked : CallName) (first last k : ℕ) (answer : Option Answer) (call : FinishedCall)
    → slice_get (ended party asked first last answer) k ≡ Some call → IsEnding party asked first call
is_ending party asked first last k None call h = absurd (cc h)
is_ending party asked first last zero (Some answer) call h =
    let is = some_is (record { party = party; call = asked; answer = answer; first = first; last = last }) call h in
    record {
      own = ap (λ (x : FinishedCall). x.party) (sym is);
      same = ap (λ (x : FinishedCall). x.call) (sym is);
      begun = ap (λ (x : FinishedCall). x.first) (sym is);
    }
is_ending party asked first last (suc k) (Some answer) call h = absurd (cc h)

not_idle : (b : Bool) → not b ≡ true → b ≡ false
not_idle true h = absurd (cc h)
not_idle false h = refl

-- a publisher that goes on
goes_have : (m : World) (place : ℕ) (ms : List MessageState) (at : Option PublisherLaneState) → slice_get m.publishers place ≡ at
    → publisher_fits_at at GoOn ≡ true → SentHave m ms → SentHave (publisher_goes_on m place at) (ms ++ [])
goes_have m place ms None e fit h = absurd (cc fit)
goes_have m place ms (Some lane) e fit h = record {
  ended = λ at who slot call found own asked. has_more ms [] slot call.first (elim (in_either m.finished _ at call found) [
    | inl was ↦ h.ended at who slot call was own asked
    | inr new ↦
        let is = is_ending (Publisher place) lane.call lane.first m.moments new.0 _ call new.1 in
        subst (λ (n : ℕ). Has ms slot n) (sym is.begun)
        (h.going place slot lane e (not_idle (publisher_is_idle lane.port.call) fit) (sym is.same ∙ asked))
  ]);
  going = λ who slot now found inside asked. has_more ms [] slot now.first (elim (eqb_tells who place) [
    | inl same ↦
        let is = set_is m.publishers place who lane _ now e same.1 found in
        subst (λ (n : ℕ). Has ms slot n) (ap (λ (x : PublisherLaneState). x.first) (sym is))
        (h.going place slot lane e (not_idle (publisher_is_idle lane.port.call) fit) (ap (λ (x : PublisherLaneState). x.call) (sym is)
        ∙ asked))
    | inr other ↦ h.going who slot now (sym (set_other m.publishers place who _ other.1) ∙ found) inside asked
  ]);
}

-- a subscriber that goes on
reads_have : (m : World) (place : ℕ) (ms : List MessageState) (at : Option SubscriberLaneState) → SentHave m ms
    → SentHave (subscriber_goes_on m place at) (ms ++ [])
reads_have m place ms None h = none_sent m m ms [] refl refl h
reads_have m place ms (Some lane) h = record {
  ended = λ at who slot call found own asked. has_more ms [] slot call.first (elim (in_either m.finished _ at call found) [
    | inl was ↦ h.ended at who slot call was own asked
    | inr new ↦
        let is = is_ending (Subscriber place) lane.call lane.first m.moments new.0 _ call new.1 in
        absurd (cc (sym own ∙ is.own))
  ]);
  going = λ who slot now found inside asked. has_more ms [] slot now.first (h.going who slot now found inside asked);
}

reader_begins : (m : World) (place : ℕ) (c : Call) (ms : List MessageState) (at : Option SubscriberLaneState) → SentHave m ms
    → SentHave (subscriber_begins m place c at) (ms ++ [])
reader_begins m place c ms None h = none_sent m m ms [] refl refl h
reader_begins m place c ms (Some lane) h = none_sent m (subscriber_begins m place c (Some lane)) ms [] refl refl h

step_have : (m : World) (party : Party) (step : Move) (ms : List MessageState) → fits m party step ≡ true → SentHave m ms
    → SentHave (happens m party step) (ms ++ begun_messages m party step)
step_have m (Publisher place) (Begin c) ms fit h = begins_have m place c ms (slice_get m.publishers place) refl fit h
step_have m (Subscriber place) (Begin c) ms fit h = reader_begins m place c ms (slice_get m.subscribers place) h
step_have m (Publisher place) GoOn ms fit h = goes_have (placed m (Publisher place)) place ms (slice_get m.publishers place) refl fit
    (record { ended = h.ended; going = h.going })
step_have m (Subscriber place) GoOn ms fit h = reads_have (placed m (Subscriber place)) place ms (slice_get m.subscribers place)
    (record { ended = h.ended; going = h.going })

pub run_have : (r : RecordState) (entries : List Entry) (made : ℕ) (n : RecordState) → RecordsRun r entries made n
    → SentHave r.lanes r.messages → SentHave n.lanes n.messages
run_have r [] made n run h = subst (λ (x : RecordState). SentHave x.lanes x.messages) (sym run.1) h
run_have r (entry ∷ entries) made n (inl run) h = run_have r entries made n run.1 h
run_have r (entry ∷ entries) made n (inr (inl run)) h = run_have (recorded_after r entry.party entry.step) entries (run.1).0 n (run.1).2
    (step_have r.lanes entry.party entry.step r.messages run.0 h)
run_have r (entry ∷ entries) made n (inr (inr run)) h = run_have r entries made n run.2 h

-- before the first step no send has ended, and none goes on
pub start_have : (m : World) (ms : List MessageState) → IsKept m → m.moments ≡ 0 → SentHave m ms
start_have m ms k none = record {
  ended = λ at who slot call found own asked.
      absurd (cc (sym found ∙ ap (λ (cs : List FinishedCall). slice_get cs at) (k.fresh none).finished));
  going = λ who slot lane found inside asked.
      absurd (cc (sym inside ∙ ap publisher_is_idle ((k.fresh none).publishers who lane found).idle));
}

-- and a message that was kept stays
pub run_keeps : (r : RecordState) (entries : List Entry) (made : ℕ) (n : RecordState) → RecordsRun r entries made n
    → (slot moment : ℕ) → Has r.messages slot moment → Has n.messages slot moment
run_keeps r [] made n run slot moment h = subst (λ (x : RecordState). Has x.messages slot moment) (sym run.1) h
run_keeps r (entry ∷ entries) made n (inl run) slot moment h = run_keeps r entries made n run.1 slot moment h
run_keeps r (entry ∷ entries) made n (inr (inl run)) slot moment h
    = run_keeps (recorded_after r entry.party entry.step) entries (run.1).0 n (run.1).2 slot moment
    (has_more r.messages (begun_messages r.lanes entry.party entry.step) slot moment h)
run_keeps r (entry ∷ entries) made n (inr (inr run)) slot moment h = run_keeps r entries made n run.2 slot moment h
