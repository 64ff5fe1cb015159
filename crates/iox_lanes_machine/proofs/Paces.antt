-- Loans and sends end in n steps of their publisher.
use Rattle.std.proofs.Common.{ℕ, ◌≡◌, ◌+◌, ◌-◌, ◌*◌, ◌<◌, ◌≤◌, ◌^◌, ◌⊎◌, not, Bool, true, false, List, [], ◌∷◌, length, set, slice_get}
use Rattle.std.proofs.Common.{Option, Some, None, refl, sym, ◌∙◌, ap, subst, inl, inr, arith}
use Rattle.std.proofs.lemmas.Bool.Decides.{eqb_tells}
use Rattle.iox_lanes_machine.specs.QueuesSteps.Access.{successor}
use Rattle.iox_lanes_machine.specs.QueuesSteps.declared.order.Placed.{Placed}
use Rattle.iox_lanes_machine.specs.LanesBase.Table.{after_shared}
use Rattle.iox_lanes_machine.specs.LanesBase.declared.words.sizes.TableSizes.{TableSizes}
use Rattle.iox_lanes_machine.specs.LanesBase.Publishing.{publisher_is_idle, publisher_next}
use Rattle.iox_lanes_machine.specs.LanesBase.declared.calls.publisher.PublisherCall.{PublisherCall}
use Rattle.iox_lanes_machine.specs.LanesBase.declared.calls.publisher.PublisherCall.TheVariants as publishing
use Rattle.iox_lanes_machine.specs.LanesBase.declared.calls.route.Route.{Route}
use Rattle.iox_lanes_machine.specs.LanesParties.PublisherKeeping.{BookState}
use Rattle.iox_lanes_machine.specs.LanesParties.Publishers.{words_of}
use Rattle.iox_lanes_machine.specs.LanesParties.Parties.{PublisherLaneState, SubscriberLaneState, publisher_may, publisher_fits}
use Rattle.iox_lanes_machine.specs.LanesParties.Parties.{publisher_begun, publisher_after, head_of}
use Rattle.iox_lanes_machine.specs.LanesParties.Within.{IsPublisher, IsPublishing}
use Rattle.iox_lanes_machine.specs.LanesParties.declared.call.Call.{Call}
use Rattle.iox_lanes_machine.specs.LanesParties.declared.call.Call.TheVariants as call
use Rattle.iox_lanes_machine.specs.LanesParties.declared.call.CallName.{CallName}
use Rattle.iox_lanes_machine.specs.LanesParties.declared.call.CallName.TheVariants as name
use Rattle.iox_lanes_machine.specs.LanesParties.declared.call.Entry.{Entry}
use Rattle.iox_lanes_machine.specs.LanesParties.declared.call.Move.{Move}
use Rattle.iox_lanes_machine.specs.LanesParties.declared.call.Move.TheVariants.{Begin, GoOn}
use Rattle.iox_lanes_machine.specs.LanesParties.declared.call.Party.{Party}
use Rattle.iox_lanes_machine.specs.LanesParties.declared.call.Party.TheVariants.{Publisher, Subscriber}
use Rattle.iox_lanes_machine.proofs.LanesParties.Rings.{all_at, and_right}
use Rattle.iox_lanes_machine.specs.Pace.{sweeps_left, steps_left}
use Rattle.iox_lanes_machine.specs.LedgerUses.{one_if}
use Rattle.iox_lanes_machine.proofs.Pace.{StoresWord, steps_fall, loan_left, head_left}
use Rattle.iox_lanes_machine.specs.Calls.{IsStageOf}
use Rattle.iox_lanes_machine.specs.Kept.{IsKept}
use Rattle.iox_lanes_machine.specs.Made.{table_sizes, publisher_at, route_to, start}
use Rattle.iox_lanes_machine.specs.Paces.{after_entry, led, one_of, own_steps, IsInCall, LoansEndSoon, SendsEndSoon}
use Rattle.iox_lanes_machine.specs.Sends.{is_sender}
use Rattle.iox_lanes_machine.specs.WholeReads.{CameTo}
use Rattle.iox_lanes_machine.specs.World.{World, fits, happens, placed, publisher_fits_at, publisher_given, publisher_begins}
use Rattle.iox_lanes_machine.specs.World.{publisher_goes_on, subscriber_begins, subscriber_goes_on, RunsTo}
use Rattle.iox_lanes_machine.proofs.Connected.{sends_connected}
use Rattle.iox_lanes_machine.specs.declared.sizes.LaneSizes.{LaneSizes}
use Rattle.iox_lanes_machine.specs.Findings.{AreFound, with_found}
use Rattle.iox_lanes_machine.specs.declared.found.Found.{Found}
use Rattle.iox_lanes_machine.proofs.Ends.{some_is}
use Rattle.iox_lanes_machine.proofs.FoundKeptWhole.{all_found, found_routes}
use Rattle.iox_lanes_machine.proofs.PublisherUses as publishers
use Rattle.iox_lanes_machine.proofs.ReturnSteps.{happens_ends}
use Rattle.iox_lanes_machine.proofs.SlotMoves.{told}
use Rattle.iox_lanes_machine.proofs.Start.{listed_is, listed_length}
use Rattle.iox_lanes_machine.proofs.StartUses.{start_kept}
use Rattle.iox_lanes_machine.proofs.Steps.{happens_moments}
use Rattle.iox_lanes_machine.proofs.Whole.{happens_keeps}
use Rattle.iox_lanes_machine.proofs.WholeReads.{run_keeps}
use Rattle.iox_lanes_machine.proofs.Within.{set_other, set_same, publisher_routes}

-- the lanes are of these sizes: each publisher has a connection to each subscriber
pub record IsSized (sizes : LaneSizes) (m : World) : Type 0 where
  pub table : m.table.sizes ≡ table_sizes sizes
  pub routes : (place : ℕ) (lane : PublisherLaneState) → slice_get m.publishers place ≡ Some lane
      → length lane.port.routes ≡ sizes.subscribers

not_true : (b : Bool) → not b ≡ true → b ≡ false
not_true true h = absurd (cc)
not_true false h = refl

-- what a step does to a publisher: nothing, or it begins a call, or goes on inside one
abbrev pub Turn : World → Party → Move → ℕ → World → Type 0
Turn m party step place n =
    ((slice_get n.publishers place ≡ slice_get m.publishers place) × (is_sender party place ≡ false))
    ⊎ (((c : Call) × (lane : PublisherLaneState) × (slice_get m.publishers place ≡ Some lane) × (publisher_fits lane (Begin c) ≡ true)
    × (slice_get n.publishers place ≡ Some (publisher_begun m.moments c lane)))
    ⊎ ((lane : PublisherLaneState) × (slice_get m.publishers place ≡ Some lane) × (publisher_is_idle lane.port.call ≡ false)
    × (slice_get n.publishers place ≡ Some (publisher_after (publisher_given m.table lane) lane)) × (is_sender party place ≡ true)
    × (n.table ≡ after_shared m.table (publisher_next lane.port.call))))

begins_turn : (m : World) (own place : ℕ) (c : Call) (at : Option PublisherLaneState) → slice_get m.publishers own ≡ at
    → publisher_fits_at at (Begin c) ≡ true → Turn m (Publisher own) (Begin c) place (publisher_begins m own c at)
begins_turn m own place c None e fit = absurd (cc)
begins_turn m own place c (Some lane) e fit = elim (eqb_tells own place) [
  | inl same ↦ inr (inl (
    c,
    lane,
    ap (slice_get m.publishers) (sym same.1) ∙ e,
    fit,
    ap
        (slice_get (set m.publishers own (publisher_begun m.moments c lane))) (sym same.1) ∙ set_same m.publishers own
        (publisher_begun m.moments c lane) lane e,
  ))
  | inr other ↦ inl (set_other m.publishers own place (publisher_begun m.moments c lane) (λ h. other.1 (sym h)), other.0)
]

goes_turn : (m : World) (own place : ℕ) (orders : List (List Placed)) (at : Option PublisherLaneState) → slice_get m.publishers own ≡ at
    → publisher_fits_at at GoOn ≡ true → Turn m (Publisher own) GoOn place (publisher_goes_on (record m { orders = orders }) own at)
goes_turn m own place orders None e fit = absurd (cc)
goes_turn m own place orders (Some lane) e fit = elim (eqb_tells own place) [
  | inl same ↦ inr (inr (
    lane,
    ap (slice_get m.publishers) (sym same.1) ∙ e,
    not_true (publisher_is_idle lane.port.call) fit,
    ap (slice_get (set m.publishers own (publisher_after (publisher_given m.table lane) lane))) (sym same.1) ∙ set_same m.publishers own
        (publisher_after (publisher_given m.table lane) lane) lane e,
    same.0,
    refl,
  ))
  | inr other ↦ inl (set_other m.publishers own place (publisher_after (publisher_given m.table lane) lane) (λ h. other.1 (sym h)), other.0)
]

subscriber_begins_same : (m : World) (own : ℕ) (c : Call) (at : Option SubscriberLaneState)
    → (subscriber_begins m own c at).publishers ≡ m.publishers
subscriber_begins_same m own c None = refl
subscriber_begins_same m own c (Some lane) = refl

subscriber_goes_same : (m : World) (own : ℕ) (orders : List (List Placed)) (at : Option SubscriberLaneState)
    → (subscriber_goes_on (record m { orders = orders }) own at).publishers ≡ m.publishers
subscriber_goes_same m own orders None = refl
subscriber_goes_same m own orders (Some lane) = refl

pub turn : (m : World) (party : Party) (step : Move) (place : ℕ) → fits m party step ≡ true → Turn m party step place (happens m party step)
turn m (Publisher own) (Begin c) place fit = begins_turn m own place c (slice_get m.publishers own) refl fit
turn m (Subscriber own) (Begin c) place fit
    = inl (ap (λ (xs : List PublisherLaneState). slice_get xs place) (subscriber_begins_same m own c (slice_get m.subscribers own)), refl)
turn m (Publisher own) GoOn place fit = goes_turn m own place (placed m (Publisher own)).orders (slice_get m.publishers own) refl fit
turn m (Subscriber own) GoOn place fit
    = inl (
      ap (λ (xs : List PublisherLaneState). slice_get xs place)
          (subscriber_goes_same m own (placed m (Subscriber own)).orders (slice_get m.subscribers own)),
      refl,
    )

-- sizes stay
sized_on : (sizes : LaneSizes) (m : World) (party : Party) (step : Move) → fits m party step ≡ true → IsKept m → IsSized sizes m
    → IsSized sizes (happens m party step)
sized_on sizes m party step fit k s = record {
  table = (happens_ends m party step fit k.returns).sizes ∙ s.table;
  routes = λ place lane found. elim (turn m party step place fit) [
    | inl same ↦ s.routes place lane (sym same.0 ∙ found)
    | inr (inl began) ↦
        let is : publisher_begun m.moments began.0 began.1 ≡ lane = some_is _ lane (sym began.4 ∙ found) in
        ap (λ (x : PublisherLaneState). length x.port.routes) (sym is) ∙ ap (λ (rs : List Route). length rs)
        (publisher_routes m.moments began.0 began.1) ∙ s.routes place began.1 began.2
    | inr (inr went) ↦
        let is : publisher_after (publisher_given m.table went.0) went.0 ≡ lane = some_is _ lane (sym went.3 ∙ found) in
        ap (λ (x : PublisherLaneState). length x.port.routes) (sym is) ∙ s.routes place went.0 went.1
  ];
}

start_sized : (sizes : LaneSizes) → IsSized sizes (start sizes)
start_sized sizes = record {
  table = refl;
  routes = λ place lane found. ap (λ (x : PublisherLaneState). length x.port.routes)
      ((listed_is (publisher_at sizes) sizes.publishers place lane found).1)
      ∙ listed_length (λ subscriber. route_to sizes (place * sizes.subscribers + subscriber)) sizes.subscribers;
}

-- so it is after what was found
found_sized : (sizes : LaneSizes) (m : World) (fs : List Found) (n : World) → AreFound m fs n → IsSized sizes m → IsSized sizes n
found_sized sizes m [] n h s = subst (IsSized sizes) (sym h) s
found_sized sizes m (f ∷ fs) n h s =
    let same = found_routes m f in
    found_sized sizes (with_found m f) fs n h.1 (record {
      table = same.sizes ∙ s.table;
      routes = λ place lane found. let was = same.routes place lane found in was.2 ∙ s.routes place was.0 was.1;
    })

run_sized : (sizes : LaneSizes) (m : World) (entries : List Entry) (made : ℕ) (n : World) → RunsTo m entries made n → IsKept m
    → IsSized sizes m → IsSized sizes n
run_sized sizes m [] made n h k s = subst (IsSized sizes) (sym h.1) s
run_sized sizes m (entry ∷ entries) made n (inl h) k s = run_sized sizes m entries made n h.1 k s
run_sized sizes m (entry ∷ entries) made n (inr (inl h)) k s
    = run_sized sizes (happens m entry.party entry.step) entries (h.1).0 n (h.1).2 (happens_keeps m entry.party entry.step h.0 k)
    (sized_on sizes m entry.party entry.step h.0 k s)
run_sized sizes m (entry ∷ entries) made n (inr (inr h)) k s = run_sized sizes m entries made n h.2 k s

-- a loan stores no word, and a send those of header and user header
abbrev IsPaced : CallName → Type 0
IsPaced called = (called ≡ name.LoanUninit) ⊎ ((loan : ℕ) × (called ≡ name.Send loan))

not_written : (called : CallName) (slot : ℕ) → IsPaced called → called ≡ name.Write slot → ⊥
not_written called slot (inl is) e = absurd (cc (sym is ∙ e))
not_written called slot (inr is) e = absurd (cc (sym is.1 ∙ e))

stores_word : (sizes : TableSizes) (routes : List Route) (stored : List ℕ) (called : CallName) (c : PublisherCall)
    → sizes.user_header_words < 2 ^ 61 ⊎ (called ≡ name.LoanUninit) → IsPaced called → IsStageOf called c
    → IsPublishing sizes routes stored c → StoresWord (3 + sizes.user_header_words) c
stores_word sizes routes stored called publishing.Idle few paced stage is = tt
stores_word sizes routes stored called (publishing.LoanReclaims at route p) few paced stage is = tt
stores_word sizes routes stored called publishing.Lending few paced stage is = tt
stores_word sizes routes stored called (publishing.Writing slot word value) few paced stage is
    = absurd (not_written called slot paced stage)
stores_word sizes routes stored called (publishing.Written slot) few paced stage is = tt
stores_word sizes routes stored called (publishing.Heading slot word value) (inl few) paced stage is = (is.1, omega (arith, is.1, few))
stores_word sizes routes stored called (publishing.Heading slot word value) (inr loan) paced stage is = absurd (cc (sym loan ∙ stage))
stores_word sizes routes stored called (publishing.Remembering slot) few paced stage is = tt
stores_word sizes routes stored called (publishing.SendReclaims slot at route p) few paced stage is = tt
stores_word sizes routes stored called (publishing.Pushing slot at route push delivery) few paced stage is = tt
stores_word sizes routes stored called (publishing.Sent slot delivery) few paced stage is = tt
stores_word sizes routes stored called (publishing.Dropping slot) few paced stage is = tt

-- a publisher's next step leaves it fewer
own_falls : (m : World) (place : ℕ) (lane : PublisherLaneState) (words : ℕ) → slice_get m.publishers place ≡ Some lane
    → publisher_is_idle lane.port.call ≡ false → m.moments < 2 ^ 63 → IsKept m → StoresWord words lane.port.call
    → steps_left m.table.sizes.completion_cells (length lane.port.routes) words
    (publisher_after (publisher_given m.table lane) lane).port.book (publisher_after (publisher_given m.table lane) lane).port.call
    < steps_left m.table.sizes.completion_cells (length lane.port.routes) words lane.port.book lane.port.call
own_falls m place lane words e busy bound k stores =
    let few : m.moments ≤ 2 ^ 63 = omega (arith, bound) in
    let setting = publishers.setting_of m place lane e bound k.within (k.rings few) k.returns (k.returns.rings few)
    (sends_connected m (k.sends few)) in
    let uses = (k.uses few).publishers place lane e in
    let is : IsPublisher m.table.sizes lane = all_at (IsPublisher m.table.sizes) m.publishers place lane e (k.within).publishers in
    let fit = publishers.change_fits m place lane.port.routes (words_of lane.port) lane.port.book lane.port.call setting
    (k.loans.stages place lane e) uses.lacking uses.balanced in
    steps_fall m.table.sizes.completion_cells words lane.port.routes (words_of lane.port) lane.port.book lane.port.call
    (told m lane.port.call) busy (publishers.is_there m.table.sizes lane.port.routes (words_of lane.port) lane.port.call is.call)
    stores fit uses.counted
    ((k.rooms few).publishers place lane e)

-- what every step keeps of the pace of a call
record Paced (sizes : LaneSizes) (place first most : ℕ) (called : CallName) (m : World) (made : ℕ) : Type 0 where
  kept : IsKept m
  sized : IsSized sizes m
  past : first < m.moments
  left : (lane : PublisherLaneState) → slice_get m.publishers place ≡ Some lane → lane.first ≡ first
      → publisher_is_idle lane.port.call ≡ false
      → (lane.call ≡ called) × (made + steps_left (sizes.buffer + sizes.most_borrowed + 1) sizes.subscribers
      (3 + sizes.user_header_words) lane.port.book lane.port.call ≤ most)

-- a call that begins now began at no moment before
pub begun_first : (moment : ℕ) (c : Call) (lane : PublisherLaneState) → publisher_fits lane (Begin c) ≡ true
    → (publisher_begun moment c lane).first ≡ moment
begun_first moment call.LoanUninit lane fit = refl
begun_first moment (call.Write loan payload user_header) lane fit = refl
begun_first moment (call.Send loan) lane fit = refl
begun_first moment (call.DropLoan loan) lane fit = refl
begun_first moment call.Receive lane fit = absurd (cc (and_right (publisher_is_idle lane.port.call) (publisher_may lane call.Receive) fit))
begun_first moment (call.Read sample) lane fit
    = absurd (cc (and_right (publisher_is_idle lane.port.call) (publisher_may lane (call.Read sample)) fit))
begun_first moment (call.Release sample) lane fit
    = absurd (cc (and_right (publisher_is_idle lane.port.call) (publisher_may lane (call.Release sample)) fit))

pub one_more : (n : ℕ) → n < 2 ^ 63 → successor n ≡ n + 1
one_more n h = omega arith

paced_on : (sizes : LaneSizes) (place first most : ℕ) (called : CallName) (m : World) (made : ℕ) (party : Party) (step : Move)
    → fits m party step ≡ true → m.moments < 2 ^ 63 → sizes.user_header_words < 2 ^ 61 ⊎ (called ≡ name.LoanUninit) → IsPaced called
    → Paced sizes place first most called m made
    → Paced sizes place first most called (happens m party step) (made + one_if (is_sender party place))
paced_on sizes place first most called m made party step fit bound few paced p =
    let next : (happens m party step).moments ≡ m.moments + 1 = happens_moments m party step fit ∙ one_more m.moments bound in
    record {
      kept = happens_keeps m party step fit p.kept;
      sized = sized_on sizes m party step fit p.kept p.sized;
      past = omega (arith, next, p.past);
      left = λ lane found since busy. elim (turn m party step place fit) [
        | inl same ↦
            let was = p.left lane (sym same.0 ∙ found) since busy in
            (was.0, omega (arith, was.1, ap one_if same.1))
        | inr (inl began) ↦
            let is : publisher_begun m.moments began.0 began.1 ≡ lane = some_is _ lane (sym began.4 ∙ found) in
            let now : m.moments ≡ first = sym (begun_first m.moments began.0 began.1 began.3) ∙ ap (λ (x : PublisherLaneState). x.first)
            is ∙ since in
            absurd (omega (arith, now, p.past))
        | inr (inr went) ↦
            let is : publisher_after (publisher_given m.table went.0) went.0 ≡ lane = some_is _ lane (sym went.3 ∙ found) in
            let was = p.left went.0 went.1 (ap (λ (x : PublisherLaneState). x.first) is ∙ since) went.2 in
            let in_table : IsPublisher m.table.sizes went.0
            = all_at (IsPublisher m.table.sizes) m.publishers place went.0 went.1 ((p.kept).within).publishers in
            let stage : IsStageOf called went.0.port.call
            = subst (λ (c : CallName). IsStageOf c went.0.port.call) was.0
            ((((p.kept).calls (omega (arith, bound))).publishers place went.0 went.1).0) in
            let user : m.table.sizes.user_header_words ≡ sizes.user_header_words
            = ap (λ (t : TableSizes). t.user_header_words) (p.sized).table in
            let stores : StoresWord (3 + sizes.user_header_words) went.0.port.call
            = subst (λ (n : ℕ). StoresWord (3 + n) went.0.port.call) user
            (stores_word m.table.sizes went.0.port.routes (words_of went.0.port) called went.0.port.call (few_there user few) paced
            stage in_table.call) in
            let fall = own_falls m place went.0 (3 + sizes.user_header_words) went.1 went.2 bound p.kept stores in
            let sized : steps_left (sizes.buffer + sizes.most_borrowed + 1) sizes.subscribers (3 + sizes.user_header_words)
            lane.port.book lane.port.call
            < steps_left (sizes.buffer + sizes.most_borrowed + 1) sizes.subscribers (3 + sizes.user_header_words) went.0.port.book
            went.0.port.call =
            subst (λ (x : PublisherLaneState). steps_left (sizes.buffer + sizes.most_borrowed + 1) sizes.subscribers
            (3 + sizes.user_header_words) x.port.book x.port.call < steps_left (sizes.buffer + sizes.most_borrowed + 1)
            sizes.subscribers (3 + sizes.user_header_words) went.0.port.book went.0.port.call) is
            (subst (λ (n : ℕ). steps_left (sizes.buffer + sizes.most_borrowed + 1) n (3 + sizes.user_header_words)
            (publisher_after (publisher_given m.table went.0) went.0).port.book
            (publisher_after (publisher_given m.table went.0) went.0).port.call
            < steps_left (sizes.buffer + sizes.most_borrowed + 1) n (3 + sizes.user_header_words) went.0.port.book went.0.port.call)
            ((p.sized).routes place went.0 went.1)
            (subst (λ (t : TableSizes). steps_left t.completion_cells (length went.0.port.routes) (3 + sizes.user_header_words)
            (publisher_after (publisher_given m.table went.0) went.0).port.book
            (publisher_after (publisher_given m.table went.0) went.0).port.call
            < steps_left t.completion_cells (length went.0.port.routes) (3 + sizes.user_header_words) went.0.port.book went.0.port.call)
            (p.sized).table fall)) in
            (ap (λ (x : PublisherLaneState). x.call) (sym is) ∙ was.0, omega (arith, was.1, sized, one_if_le (is_sender party place)))
      ];
    }
  where
    one_if_le : (b : Bool) → one_if b ≤ 1
    one_if_le true = omega arith
    one_if_le false = omega arith

    few_there : m.table.sizes.user_header_words ≡ sizes.user_header_words → sizes.user_header_words < 2 ^ 61
        ⊎ (called ≡ name.LoanUninit) → m.table.sizes.user_header_words < 2 ^ 61 ⊎ (called ≡ name.LoanUninit)
    few_there user (inl h) = inl (omega (arith, user, h))
    few_there user (inr h) = inr h

-- moments only grow
pub later : (m : World) (entries : List Entry) → (led m entries).moments ≤ 2 ^ 63 → m.moments ≤ (led m entries).moments
later m [] few = omega arith
later m (entry ∷ entries) few = by_fit (fits m entry.party entry.step) refl
    (later (after_entry (fits m entry.party entry.step) m entry) entries few)
  where
    by_fit : (b : Bool) → fits m entry.party entry.step ≡ b → (after_entry b m entry).moments ≤ (led m (entry ∷ entries)).moments
        → m.moments ≤ (led m (entry ∷ entries)).moments
    by_fit true e h =
        let next = happens_moments m entry.party entry.step e in
        omega (arith, next, h, few)
    by_fit false e h = h

-- so it is after an entry, and after all of them
entry_paced : (sizes : LaneSizes) (place first most : ℕ) (called : CallName) (m : World) (made : ℕ) (entry : Entry) (end : ℕ)
    → end ≤ 2 ^ 63 → sizes.user_header_words < 2 ^ 61 ⊎ (called ≡ name.LoanUninit) → IsPaced called
    → (b : Bool) → fits m entry.party entry.step ≡ b → (after_entry b m entry).moments ≤ end
    → Paced sizes place first most called m made
    → Paced sizes place first most called (after_entry b m entry) (made + one_of b place entry.party)
entry_paced sizes place first most called m made entry end few words paced true e h p =
    paced_on sizes place first most called m made entry.party entry.step e
    (omega (arith, happens_moments m entry.party entry.step e, h, few)) words paced p
entry_paced sizes place first most called m made entry end few words paced false e h p
    = subst (Paced sizes place first most called m) (omega arith) p

all_paced : (sizes : LaneSizes) (place first most : ℕ) (called : CallName) (m : World) (made : ℕ) (entries : List Entry)
    → (led m entries).moments ≤ 2 ^ 63 → sizes.user_header_words < 2 ^ 61 ⊎ (called ≡ name.LoanUninit) → IsPaced called
    → Paced sizes place first most called m made → Paced sizes place first most called (led m entries) (made + own_steps m place entries)
all_paced sizes place first most called m made [] few words paced p = subst (Paced sizes place first most called m) (omega arith) p
all_paced sizes place first most called m made (entry ∷ entries) few words paced p =
    let b : Bool = fits m entry.party entry.step in
    let rest = all_paced sizes place first most called (after_entry b m entry) (made + one_of b place entry.party) entries few words paced
    (entry_paced sizes place first most called m made entry (led m (entry ∷ entries)).moments few words paced b refl
    (later (after_entry b m entry) entries few) p) in
    let e : made + one_of b place entry.party + own_steps (after_entry b m entry) place entries
    ≡ made + (one_of b place entry.party + own_steps (after_entry b m entry) place entries) = omega arith in
    subst (Paced sizes place first most called (led m (entry ∷ entries))) e rest

-- a publisher that may begin is there
pub may_begin : (m : World) (place : ℕ) (c : Call) (at : Option PublisherLaneState) → slice_get m.publishers place ≡ at
    → publisher_fits_at at (Begin c) ≡ true
    → (lane : PublisherLaneState) × (slice_get m.publishers place ≡ Some lane) × (publisher_fits lane (Begin c) ≡ true)
    × (slice_get (publisher_begins m place c at).publishers place ≡ Some (publisher_begun m.moments c lane))
may_begin m place c None e fit = absurd (cc)
may_begin m place c (Some lane) e fit = (lane, e, fit, set_same m.publishers place (publisher_begun m.moments c lane) lane e)

-- a call in progress has a step left
some_left : (cells connections words : ℕ) (book : BookState) (c : PublisherCall) → publisher_is_idle c ≡ false
    → 0 < steps_left cells connections words book c
some_left cells connections words book publishing.Idle busy = absurd (cc busy)
some_left cells connections words book (publishing.LoanReclaims at route p) busy = omega arith
some_left cells connections words book publishing.Lending busy = omega arith
some_left cells connections words book (publishing.Writing slot word value) busy = omega arith
some_left cells connections words book (publishing.Written slot) busy = omega arith
some_left cells connections words book (publishing.Heading slot word value) busy = omega arith
some_left cells connections words book (publishing.Remembering slot) busy = omega arith
some_left cells connections words book (publishing.SendReclaims slot at route p) busy = omega arith
some_left cells connections words book (publishing.Pushing slot at route push delivery) busy = omega arith
some_left cells connections words book (publishing.Sent slot delivery) busy = omega arith
some_left cells connections words book (publishing.Dropping slot) busy = omega arith

-- what lanes that came from their start keep
pub came_kept : (m : World) (came : CameTo m) → IsKept m × IsSized came.sizes m
came_kept m came =
    let first = all_found (start came.sizes) came.found came.begun came.finds (start_kept came.sizes came.some came.ports came.small) in (
      run_keeps came.begun came.schedule came.made m came.runs first,
      run_sized came.sizes came.begun came.schedule came.made m came.runs
          first (found_sized came.sizes (start came.sizes) came.found came.begun came.finds (start_sized came.sizes)),
    )

-- a call from its begin on: it makes no more steps than were left at its begin
ends_within : (m : World) (came : CameTo m) (place most : ℕ) (c : Call) (called : CallName) (entries : List Entry)
    → fits m (Publisher place) (Begin c) ≡ true → (led (happens m (Publisher place) (Begin c)) entries).moments ≤ 2 ^ 63
    → came.sizes.user_header_words < 2 ^ 61 ⊎ (called ≡ name.LoanUninit) → IsPaced called
    → ((lane : PublisherLaneState) → (publisher_begun m.moments c lane).call ≡ called)
    → ((lane : PublisherLaneState) → slice_get m.publishers place ≡ Some lane → m.moments < 2 ^ 63
    → steps_left (came.sizes.buffer + came.sizes.most_borrowed + 1) came.sizes.subscribers (3 + came.sizes.user_header_words)
    (publisher_begun m.moments c lane).port.book (publisher_begun m.moments c lane).port.call ≤ most)
    → IsInCall (led (happens m (Publisher place) (Begin c)) entries) place m.moments
    → own_steps (happens m (Publisher place) (Begin c)) place entries + 1 ≤ most
ends_within m came place most c called entries fit few words paced asked first inside =
    let k = came_kept m came in
    let next = happens_moments m (Publisher place) (Begin c) fit in
    let after = later (happens m (Publisher place) (Begin c)) entries few in
    let bound : m.moments < 2 ^ 63 = omega (arith, next, after, few) in
    let began = may_begin m place c (slice_get m.publishers place) refl fit in
    let now : Paced came.sizes place m.moments most called (happens m (Publisher place) (Begin c)) 0 = record {
      kept = happens_keeps m (Publisher place) (Begin c) fit k.0;
      sized = sized_on came.sizes m (Publisher place) (Begin c) fit k.0 k.1;
      past = omega (arith, next, one_more m.moments bound);
      left = λ lane found since busy.
          let is : publisher_begun m.moments c began.0 ≡ lane = some_is _ lane (sym began.3 ∙ found) in (
            ap (λ (x : PublisherLaneState). x.call) (sym is) ∙ asked began.0,
            subst (λ (x : PublisherLaneState). 0 + steps_left (came.sizes.buffer + came.sizes.most_borrowed + 1) came.sizes.subscribers
                (3 + came.sizes.user_header_words) x.port.book x.port.call ≤ most) is (omega (arith, first began.0 began.1 bound)),
          );
    } in
    let end = all_paced came.sizes place m.moments most called (happens m (Publisher place) (Begin c)) 0 entries few words paced now in
    let at = end.left inside.lane inside.found inside.since inside.busy in
    omega (
      arith,
      at.1,
      some_left (came.sizes.buffer + came.sizes.most_borrowed + 1) came.sizes.subscribers
          (3 + came.sizes.user_header_words) inside.lane.port.book inside.lane.port.call inside.busy,
    )

loan_bound : (s c : ℕ) → s * (4 * c + 2) + 2 ≤ 4 * s * (c + 1) + 2
loan_bound s c = omega arith

send_bound : (s c u : ℕ) → s * (4 * c + 2) + 6 * s + u + 6 ≤ 4 * s * (c + 2) + u + 7
send_bound s c u = omega arith

pub loans_end_soon : LoansEndSoon
loans_end_soon = λ m came place entries fit few inside.
    let k = came_kept m came in
    let cells : ℕ = came.sizes.buffer + came.sizes.most_borrowed + 1 in
    let s : ℕ = came.sizes.subscribers in
    let done = ends_within m came place (sweeps_left cells s + 1) call.LoanUninit name.LoanUninit entries fit few (inr refl) (inl refl)
    (λ lane. refl)
    (λ lane found bound.
    let rooms = (((k.0).rooms (omega (arith, bound))).publishers place lane found) in
    let size : length lane.port.routes ≡ s = (k.1).routes place lane found in
    let wide : m.table.sizes.completion_cells ≡ cells = ap (λ (t : TableSizes). t.completion_cells) (k.1).table in
    let all : length lane.port.routes - 0 ≡ length lane.port.routes = omega arith in
    let left = loan_left cells (3 + came.sizes.user_header_words) lane.port.routes lane.port.book 0 (slice_get lane.port.routes 0) refl
    (λ at below. omega (arith, rooms.most at below, wide)) in
    subst (λ (n : ℕ). steps_left cells n (3 + came.sizes.user_header_words) (publisher_begun m.moments call.LoanUninit lane).port.book
    (publisher_begun m.moments call.LoanUninit lane).port.call ≤ sweeps_left cells n + 1) size
    (omega (arith, left, ap (sweeps_left cells) all))) inside in
    let e : cells + 1 ≡ came.sizes.buffer + came.sizes.most_borrowed + 2 = omega arith in
    subst (λ (n : ℕ). 1 + own_steps (happens m (Publisher place) (Begin call.LoanUninit)) place entries + 1 ≤ 4 * s * n + 2) e
    (omega (arith, done, loan_bound s cells))

pub sends_end_soon : SendsEndSoon
sends_end_soon = λ m came place loan entries user fit few inside.
    let k = came_kept m came in
    let cells : ℕ = came.sizes.buffer + came.sizes.most_borrowed + 1 in
    let s : ℕ = came.sizes.subscribers in
    let u : ℕ = came.sizes.user_header_words in
    let done = ends_within m came place (3 + u + sweeps_left cells s + 6 * s + 2) (call.Send loan) (name.Send loan) entries fit few
    (inl user) (inr (loan, refl)) (λ lane. refl)
    (λ lane found bound. omega (arith, head_left cells s (3 + u) lane.port.book loan 0 (slice_get (head_of loan lane) 0))) inside in
    let e : cells + 2 ≡ came.sizes.buffer + came.sizes.most_borrowed + 3 = omega arith in
    subst (λ (n : ℕ). 1 + own_steps (happens m (Publisher place) (Begin (call.Send loan))) place entries + 1 ≤ 4 * s * n + u + 7) e
    (omega (arith, done, send_bound s cells u))
