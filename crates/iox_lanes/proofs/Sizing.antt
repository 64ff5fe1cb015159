-- Lanes have the sizes that they were made of, and what laws say by those holds by what was agreed.
use Rattle.std.proofs.Common.{ℕ, Bool, ◌≡◌, ◌+◌, ◌-◌, ◌*◌, ◌<◌, ◌≤◌, ◌^◌, List, [], ◌∷◌, true, false, length, get_or, slice_get, option_map}
use Rattle.std.proofs.Common.{unwrap_or, Option, Some, None, refl, sym, ◌∙◌, ap, subst, inl, inr, arith}
use Rattle.std.proofs.lemmas.Option.{slice_get_within, slice_get-get_or}
use Rattle.iox_domain_values.specs.declared.service_sizes.ServiceSizes.{ServiceSizes}
use Rattle.iox_lanes_machine.specs.LanesBase.declared.words.sizes.TableSizes.{TableSizes}
use Rattle.iox_lanes_machine.specs.LanesParties.Parties.{PublisherLaneState, SubscriberLaneState}
use Rattle.iox_lanes_machine.specs.LanesParties.declared.call.Call.TheVariants as call
use Rattle.iox_lanes_machine.specs.LanesParties.declared.call.Entry.{Entry}
use Rattle.iox_lanes_machine.specs.LanesParties.declared.call.Move.{Move}
use Rattle.iox_lanes_machine.specs.LanesParties.declared.call.Move.TheVariants.{Begin}
use Rattle.iox_lanes_machine.specs.LanesParties.declared.call.Party.{Party}
use Rattle.iox_lanes_machine.specs.LanesParties.declared.call.Party.TheVariants.{Publisher}
use Rattle.iox_lanes_machine.specs.QueuesSteps.declared.schedule.Stepped.TheVariants as stepped
use Rattle.iox_lanes_machine.specs.Findings.{with_found, AreFound}
use Rattle.iox_lanes_machine.specs.Fixed.{FixedSlots, StaysFixed, fixed_slots}
use Rattle.iox_lanes_machine.specs.Kept.{IsKept}
use Rattle.iox_lanes_machine.specs.Made.{publisher_at, subscriber_at, start, table_sizes}
use Rattle.iox_lanes_machine.specs.Paces.{own_steps}
use Rattle.iox_lanes_machine.specs.TakenIn.{IsTakenIn}
use Rattle.iox_lanes_machine.specs.WholeReads.{CameTo}
use Rattle.iox_lanes_machine.specs.World.{World, ends, fits, happens, RunsTo}
use Rattle.iox_lanes_machine.specs.declared.found.Found.{Found}
use Rattle.iox_lanes_machine.specs.declared.sizes.LaneSizes.{LaneSizes}
use Rattle.iox_lanes_machine.proofs.Fixed.{fixed_on, same_fixed, steps_fixed}
use Rattle.iox_lanes_machine.proofs.FoundKeptWhole.{all_found}
use Rattle.iox_lanes_machine.proofs.Paces.{IsSized, came_kept, loans_end_soon, sends_end_soon}
use Rattle.iox_lanes_machine.proofs.PermittedLoans.{loans_end_as_begun}
use Rattle.iox_lanes_machine.proofs.Start.{listed_is}
use Rattle.iox_lanes_machine.proofs.StartUses.{start_kept}
use Rattle.iox_lanes_machine.proofs.TakenInPlaces.{takes_in}
use Rattle.iox_lanes.specs.Finding.{WasFound}
use Rattle.iox_lanes.specs.Sized.{most_waiting, most_at, AreAgreed, AreSized, AgreedLoansEndSoon, AgreedSendsEndSoon, AgreedSlotsSuffice}

-- each publisher keeps as many messages, and each subscriber may borrow as many samples, as these sizes say
record Keeps (sizes : LaneSizes) (m : World) : Type 0 where
  pub kept : (place : ℕ) (lane : PublisherLaneState) → slice_get m.publishers place ≡ Some lane → lane.port.book.kept ≡ sizes.history
  pub borrowing : (place : ℕ) (lane : SubscriberLaneState) → slice_get m.subscribers place ≡ Some lane
      → lane.port.most_borrowed ≡ sizes.most_borrowed

start_keeps : (sizes : LaneSizes) → Keeps sizes (start sizes)
start_keeps sizes = record {
  kept = λ place lane e. ap (λ (x : PublisherLaneState). x.port.book.kept) (listed_is (publisher_at sizes) sizes.publishers place lane e).1;
  borrowing = λ place lane e. ap (λ (x : SubscriberLaneState). x.port.most_borrowed)
      (listed_is (subscriber_at sizes) sizes.subscribers place lane e).1;
}

was_there : {X : Type 0} (xs ys : List X) (at : ℕ) (y : X) → length ys ≡ length xs → slice_get ys at ≡ Some y
    → slice_get xs at ≡ Some (get_or xs at y)
was_there xs ys at y as_many e = slice_get-get_or xs at y (omega (arith, slice_get_within ys at y e, as_many))

taken_keeps : (sizes : LaneSizes) (m : World) (f : Found) (n : World) → IsTakenIn m f n → Keeps sizes m → Keeps sizes n
taken_keeps sizes m f n t k = record {
  kept = λ place lane e.
      let was = was_there m.publishers n.publishers place lane t.as_many e in
      ap (λ (x : PublisherLaneState). x.port.book.kept) (t.publishers place (get_or m.publishers place lane) lane was e).same ∙ k.kept
      place (get_or m.publishers place lane) was;
  borrowing = λ place lane e.
      let was = was_there m.subscribers n.subscribers place lane t.as_many_receive e in
      ap (λ (x : SubscriberLaneState). x.port.most_borrowed) (t.subscribers place (get_or m.subscribers place lane) lane was e).same ∙
      k.borrowing place (get_or m.subscribers place lane) was;
}

found_keeps : (sizes : LaneSizes) (m : World) (fs : List Found) (n : World) → AreFound m fs n → IsKept m → Keeps sizes m → Keeps sizes n
found_keeps sizes m [] n h kept k = subst (Keeps sizes) (sym h) k
found_keeps sizes m (f ∷ fs) n h kept k =
    found_keeps sizes (with_found m f) fs n h.1 (all_found m (f ∷ []) (with_found m f) (h.0, refl) kept)
    (taken_keeps sizes m f (with_found m f) (takes_in m f true (with_found m f) (h.0, refl) kept).1 k)

most_is : (agreed : ServiceSizes) (publishers subscribers payload header : ℕ) (sizes : LaneSizes)
    → AreAgreed agreed publishers subscribers payload header sizes → sizes.buffer + sizes.most_borrowed ≡ most_at agreed
most_is agreed publishers subscribers payload header sizes a =
    ap (λ (n : ℕ). n + sizes.most_borrowed) a.buffer ∙ ap (λ (n : ℕ). most_waiting agreed + n) a.most_borrowed

-- where steps bring lanes that were found
came_on : (sizes : LaneSizes) (begun : World) (schedule : List Entry) (made : ℕ) (m : World) → WasFound sizes begun
    → RunsTo begun schedule made m → CameTo m
came_on sizes begun schedule made m w runs =
    record {
      sizes = sizes;
      some = w.some;
      ports = w.ports;
      small = w.small;
      found = w.found;
      begun = begun;
      finds = w.finds;
      schedule
          = schedule;
      made = made;
      runs = runs;
    }

-- their table has the sizes that they were made of
pub table_is : (sizes : LaneSizes) (m : World) → WasFound sizes m → m.table.sizes ≡ table_sizes sizes
unfolding came_on
table_is sizes m w = (came_kept m (came_on sizes m [] 0 m w (refl, refl))).1.table

-- lanes that were made of agreed sizes are as large as agreed
pub are_sized : (agreed : ServiceSizes) (publishers subscribers payload header : ℕ) (sizes : LaneSizes) (m : World)
    → AreAgreed agreed publishers subscribers payload header sizes → WasFound sizes m
    → AreSized agreed publishers subscribers payload header m
unfolding came_on
are_sized agreed publishers subscribers payload header sizes m a w =
    let keeps : Keeps sizes m = found_keeps sizes (start sizes) w.found m w.finds (start_kept sizes w.some w.ports w.small)
    (start_keeps sizes) in
    let sized : IsSized sizes m = (came_kept m (came_on sizes m [] 0 m w (refl, refl))).1 in
    record {
      sizes = sizes;
      are_agreed = a;
      found = w;
      cells = ap (λ (t : TableSizes). t.completion_cells) sized.table ∙ ap (λ (n : ℕ). n + 1)
          (most_is agreed publishers subscribers payload header sizes a);
      routes = λ place lane e. sized.routes place lane e ∙ a.as_many_subscribers;
      kept = λ place lane e. keeps.kept place lane e ∙ a.history;
      borrowing = λ place lane e. keeps.borrowing place lane e ∙ a.most_borrowed;
    }

-- of just these sizes
pub sized_by : (agreed : ServiceSizes) (publishers subscribers payload header : ℕ) (sizes : LaneSizes) (m : World)
    → AreAgreed agreed publishers subscribers payload header sizes → WasFound sizes m
    → (is : AreSized agreed publishers subscribers payload header m) × (is.sizes ≡ sizes)
unfolding are_sized
sized_by agreed publishers subscribers payload header sizes m a w
    = (are_sized agreed publishers subscribers payload header sizes m a w, refl)

-- so are those that were made of sizes that no finding changed since
pub built : (agreed : ServiceSizes) (publishers subscribers payload header : ℕ) (sizes last : LaneSizes) (m : World)
    → AreAgreed agreed publishers subscribers payload header sizes → WasFound last m → last ≡ sizes
    → AreSized agreed publishers subscribers payload header m
built agreed publishers subscribers payload header sizes last m a w same
    = are_sized agreed publishers subscribers payload header sizes m a (subst (λ (s : LaneSizes). WasFound s m) same w)

pub agreed_loans_end_soon : AgreedLoansEndSoon
unfolding came_on
agreed_loans_end_soon = λ agreed publishers subscribers payload header begun is schedule made m runs place entries fit few inside.
    let steps : ℕ = 1 + own_steps (happens m (Publisher place) (Begin call.LoanUninit)) place entries + 1 in
    let done : steps ≤ 4 * (is.sizes).subscribers * ((is.sizes).buffer + (is.sizes).most_borrowed + 2) + 2 =
    loans_end_soon m (came_on is.sizes begun schedule made m is.found runs) place entries fit few inside in
    subst (λ (n : ℕ). steps ≤ 4 * n * (most_at agreed + 2) + 2) (is.are_agreed).as_many_subscribers
    (subst (λ (n : ℕ). steps ≤ 4 * (is.sizes).subscribers * (n + 2) + 2)
    (most_is agreed publishers subscribers payload header is.sizes is.are_agreed) done)

pub agreed_sends_end_soon : AgreedSendsEndSoon
unfolding came_on
agreed_sends_end_soon = λ agreed publishers subscribers payload header begun is few_words schedule made m runs place loan entries fit few
    inside.
    let steps : ℕ = 1 + own_steps (happens m (Publisher place) (Begin (call.Send loan))) place entries + 1 in
    let words : (is.sizes).user_header_words ≡ header = (is.are_agreed).user_header in
    let done : steps ≤ 4 * (is.sizes).subscribers * ((is.sizes).buffer + (is.sizes).most_borrowed + 3) + (is.sizes).user_header_words + 7 =
    sends_end_soon m (came_on is.sizes begun schedule made m is.found runs) place loan entries
    (subst (λ (n : ℕ). n < 2 ^ 61) (sym words) few_words) fit few inside in
    subst (λ (n : ℕ). steps ≤ 4 * n * (most_at agreed + 3) + header + 7) (is.are_agreed).as_many_subscribers
    (subst (λ (n : ℕ). steps ≤ 4 * (is.sizes).subscribers * (n + 3) + header + 7)
    (most_is agreed publishers subscribers payload header is.sizes is.are_agreed)
    (subst (λ (n : ℕ). steps ≤ 4 * (is.sizes).subscribers * ((is.sizes).buffer + (is.sizes).most_borrowed + 3) + n + 7) words done))

-- a step that fits
went_fixed : (m : World) (party : Party) (step : Move) (over : Bool) → ends m party step ≡ over → fits m party step ≡ true
    → StaysFixed m (happens m party step)
went_fixed m party step false e fit = steps_fixed m party step stepped.Went (happens m party step) (fit, e, refl)
went_fixed m party step true e fit = steps_fixed m party step stepped.Finished (happens m party step) (fit, e, refl)

run_fixed : (m : World) (entries : List Entry) (made : ℕ) (n : World) → RunsTo m entries made n → StaysFixed m n
run_fixed m [] made n h = subst (StaysFixed m) (sym h.1) (same_fixed m)
run_fixed m (entry ∷ entries) made n (inl h) = run_fixed m entries made n h.1
run_fixed m (entry ∷ entries) made n (inr (inl h)) =
    fixed_on m (happens m entry.party entry.step) n (went_fixed m entry.party entry.step (ends m entry.party entry.step) refl h.0)
    (run_fixed (happens m entry.party entry.step) entries (h.1).0 n (h.1).2)
run_fixed m (entry ∷ entries) made n (inr (inr h)) = run_fixed m entries made n h.2

some_mapped : (at : Option PublisherLaneState) (slots : FixedSlots) → option_map fixed_slots at ≡ Some slots
    → (lane : PublisherLaneState) × (at ≡ Some lane) × (fixed_slots lane ≡ slots)
some_mapped None slots h = absurd (cc)
some_mapped (Some lane) slots h = (lane, refl, ap (λ (o : Option FixedSlots). unwrap_or o slots) h)

-- a publisher keeps as many messages after steps as before
kept_on : (m n : World) (place : ℕ) (lane : PublisherLaneState) (most : ℕ) → StaysFixed m n → slice_get n.publishers place ≡ Some lane
    → ((was : PublisherLaneState) → slice_get m.publishers place ≡ Some was → was.port.book.kept ≡ most) → lane.port.book.kept ≡ most
kept_on m n place lane most stays found kept =
    let was = some_mapped (slice_get m.publishers place) (fixed_slots lane)
    (sym (stays.publishers place) ∙ ap (option_map fixed_slots) found) in
    ap (λ (slots : FixedSlots). slots.kept) (sym was.2) ∙ kept was.0 was.1

pub agreed_slots_suffice : AgreedSlotsSuffice
unfolding came_on
agreed_slots_suffice = λ agreed publishers subscribers payload header begun is schedule made m runs place entries fit few inside ended
    ends given gives lane found named fewer enough.
    let on : CameTo m = came_on is.sizes begun schedule made m is.found runs in
    let sized : IsSized is.sizes m = (came_kept m on).1 in
    let cells : m.table.sizes.completion_cells ≡ most_at agreed + 1 =
    ap (λ (t : TableSizes). t.completion_cells) sized.table ∙ ap (λ (n : ℕ). n + 1)
    (most_is agreed publishers subscribers payload header is.sizes is.are_agreed) in
    let most : m.table.sizes.completion_cells - 1 ≡ most_at agreed = omega (arith, cells) in
    let at_all : length lane.port.routes * (m.table.sizes.completion_cells - 1) ≡ subscribers * most_at agreed =
    ap (λ (n : ℕ). n * (m.table.sizes.completion_cells - 1)) (sized.routes place lane found ∙ (is.are_agreed).as_many_subscribers) ∙ ap
    (λ (n : ℕ). subscribers * n) most in
    let kept : lane.port.book.kept ≡ agreed.history_size
    = kept_on begun m place lane agreed.history_size (run_fixed begun schedule made m runs) found (is.kept place) in
    (loans_end_as_begun m on place entries fit few inside ended ends given gives lane found named).permitted fewer
    (omega (arith, enough, at_all, kept))
