-- A loan ends as its publisher's record says when it begins.
use Rattle.std.proofs.Common.{ℕ, ◌≡◌, ◌+◌, ◌-◌, ◌*◌, ◌<◌, ◌≤◌, ◌^◌, ◌==◌, Bool, true, false, List, [], ◌∷◌, length, get_or, slice_get}
use Rattle.std.proofs.Common.{Some, refl, sym, ◌∙◌, ap, subst, inl, inr, arith}
use Rattle.iox_lanes_machine.specs.QueuesSteps.Access.{successor}
use Rattle.iox_lanes_machine.specs.QueuesSteps.Refusing as refusing
use Rattle.iox_lanes_machine.specs.QueuesSteps.declared.rings.refusing.pop.Pop.TheVariants as pop
use Rattle.iox_lanes_machine.specs.LanesBase.declared.words.sizes.TableSizes.{TableSizes}
use Rattle.iox_lanes_machine.specs.LanesBase.Answers.{refusing_pop_answer}
use Rattle.iox_lanes_machine.specs.LanesBase.Publishing.{publisher_is_idle, publisher_take, publisher_change, taken_back, loan_reclaimed}
use Rattle.iox_lanes_machine.specs.LanesBase.declared.calls.publisher.PublisherCall.{PublisherCall}
use Rattle.iox_lanes_machine.specs.LanesBase.declared.calls.publisher.PublisherCall.TheVariants as publishing
use Rattle.iox_lanes_machine.specs.LanesBase.declared.calls.publisher.PublisherChange.TheVariants as change
use Rattle.iox_lanes_machine.specs.LanesBase.declared.calls.route.Route.{Route}
use Rattle.iox_lanes_machine.specs.LanesParties.PublisherKeeping.{BookState, changed, lent}
use Rattle.iox_lanes_machine.specs.LanesParties.Publishers.{words_of}
use Rattle.iox_lanes_machine.specs.LanesParties.declared.publisher.slot_book.LoanMark.{LoanMark}
use Rattle.iox_lanes_machine.specs.LanesParties.declared.publisher.slot_book.LoanMark.TheVariants as mark
use Rattle.iox_lanes_machine.specs.LanesParties.Parties as parties
use Rattle.iox_lanes_machine.specs.LanesParties.Parties.{PublisherLaneState, publisher_begun, publisher_after}
use Rattle.iox_lanes_machine.specs.LanesParties.declared.call.Answer.{Answer}
use Rattle.iox_lanes_machine.specs.LanesParties.declared.call.Call.TheVariants as call
use Rattle.iox_lanes_machine.specs.LanesParties.declared.call.Entry.{Entry}
use Rattle.iox_lanes_machine.specs.LanesParties.declared.call.Move.{Move}
use Rattle.iox_lanes_machine.specs.LanesParties.declared.call.Move.TheVariants.{Begin, GoOn}
use Rattle.iox_lanes_machine.specs.LanesParties.declared.call.Party.{Party}
use Rattle.iox_lanes_machine.specs.LanesParties.declared.call.Party.TheVariants.{Publisher}
use Rattle.iox_lanes_machine.specs.LedgerRooms.{loans_out, CallGoes, HasRooms}
use Rattle.iox_lanes_machine.specs.LedgerUses.{total}
use Rattle.iox_lanes_machine.proofs.Rooms.{same_slots}
use Rattle.iox_lanes_machine.specs.Kept.{IsKept}
use Rattle.iox_lanes_machine.specs.Loans.{worst_case}
use Rattle.iox_lanes_machine.specs.Paces.{after_entry, led}
use Rattle.iox_lanes_machine.specs.PermittedLoans.{LoansEndAsBegun}
use Rattle.iox_lanes_machine.specs.World.{World, fits, happens, publisher_given}
use Rattle.iox_lanes_machine.proofs.Ends.{some_is}
use Rattle.iox_lanes_machine.proofs.FullLoans.{IsLoan, loan_next}
use Rattle.iox_lanes_machine.proofs.Loans.{finds, lends_at, goes, lent_as_found}
use Rattle.iox_lanes_machine.proofs.Paces.{turn, begun_first, one_more, later, may_begin, came_kept}
use Rattle.iox_lanes_machine.proofs.ReturnSteps.{happens_ends}
use Rattle.iox_lanes_machine.proofs.Steps.{happens_moments}
use Rattle.iox_lanes_machine.proofs.Whole.{happens_keeps}

-- the loans and the sizes of a record are those of another
record SameLoans (book after : BookState) : Type 0 where
  loans : after.loans ≡ book.loans
  most : after.most_loans ≡ book.most_loans
  kept : after.kept ≡ book.kept
  first : after.first ≡ book.first
  slots : length after.uses ≡ length book.uses

same_loans : (book : BookState) → SameLoans book book
same_loans book = record { loans = refl; most = refl; kept = refl; first = refl; slots = refl }

-- a step of a loan that goes on
record GoesOn (book after : BookState) (call : PublisherCall) : Type 0 where
  loan : IsLoan call
  same : SameLoans book after

loan_steps : (routes : List Route) (stored : List ℕ) (book : BookState) (c : PublisherCall) (a : ℕ) → CallGoes book c → IsLoan c
    → publisher_is_idle (publisher_take routes stored c a) ≡ false
    → GoesOn book (changed (publisher_change c a) book) (publisher_take routes stored c a)
loan_steps routes stored book publishing.Idle a goes loan busy = absurd loan
loan_steps routes stored book (publishing.LoanReclaims at route pop.Idle) a goes loan busy = absurd goes
loan_steps routes stored book (publishing.LoanReclaims at route pop.Begun) a goes loan busy = record { loan = tt; same = same_loans book }
loan_steps routes stored book (publishing.LoanReclaims at route (pop.SawRead seen)) a goes loan busy = by_test (a == seen)
  where
    by_test : (b : Bool) → GoesOn book (changed (taken_back at (refusing_pop_answer (refusing.pop_emptied b seen))) book)
        (loan_reclaimed routes at route (refusing.pop_emptied b seen) (refusing_pop_answer (refusing.pop_emptied b seen)))
    by_test true = record { loan = loan_next (successor at) (slice_get routes (successor at)); same = same_loans book }
    by_test false = record { loan = tt; same = same_loans book }
loan_steps routes stored book (publishing.LoanReclaims at route (pop.Nonempty seen next)) a goes loan busy
    = record { loan = tt; same = same_loans book }
loan_steps routes stored book (publishing.LoanReclaims at route (pop.SawCell next value)) a goes loan busy =
    record {
      loan = tt;
      same
          = record { loans = refl; most = refl; kept = refl; first = refl; slots = (same_slots (change.TakenBack at value) book).slots };
    }
loan_steps routes stored book (publishing.LoanReclaims at route (pop.Popped got)) a goes loan busy = absurd goes
loan_steps routes stored book (publishing.LoanReclaims at route pop.LookBegun) a goes loan busy = absurd goes
loan_steps routes stored book (publishing.LoanReclaims at route (pop.LookRead seen)) a goes loan busy = absurd goes
loan_steps routes stored book (publishing.LoanReclaims at route (pop.Looked some)) a goes loan busy = absurd goes
loan_steps routes stored book publishing.Lending a goes loan busy = absurd (cc busy)
loan_steps routes stored book (publishing.Writing slot word value) a goes loan busy = absurd loan
loan_steps routes stored book (publishing.Written slot) a goes loan busy = absurd loan
loan_steps routes stored book (publishing.Heading slot word value) a goes loan busy = absurd loan
loan_steps routes stored book (publishing.Remembering slot) a goes loan busy = absurd loan
loan_steps routes stored book (publishing.SendReclaims slot at route p) a goes loan busy = absurd loan
loan_steps routes stored book (publishing.Pushing slot at route push delivery) a goes loan busy = absurd loan
loan_steps routes stored book (publishing.Sent slot delivery) a goes loan busy = absurd loan
loan_steps routes stored book (publishing.Dropping slot) a goes loan busy = absurd loan

-- a publisher in a loan, and what it was when the loan began
record IsSteady (before lane : PublisherLaneState) : Type 0 where
  loan : IsLoan lane.port.call
  routes : lane.port.routes ≡ before.port.routes
  same : SameLoans before.port.book lane.port.book

record Steadied (place first : ℕ) (sizes : TableSizes) (before : PublisherLaneState) (m : World) : Type 0 where
  kept : IsKept m
  sizes_are : m.table.sizes ≡ sizes
  past : first < m.moments
  steady : (lane : PublisherLaneState) → slice_get m.publishers place ≡ Some lane → lane.first ≡ first
      → publisher_is_idle lane.port.call ≡ false → IsSteady before lane

after_same : (one two three : BookState) → SameLoans one two → SameLoans two three → SameLoans one three
after_same one two three h g = record
    { loans = g.loans ∙ h.loans; most = g.most ∙ h.most; kept = g.kept ∙ h.kept; first = g.first ∙ h.first; slots = g.slots ∙ h.slots }

steadied_on : (place first : ℕ) (sizes : TableSizes) (before : PublisherLaneState) (m : World) (party : Party) (step : Move)
    → fits m party step ≡ true → m.moments < 2 ^ 63 → Steadied place first sizes before m
    → Steadied place first sizes before (happens m party step)
steadied_on place first sizes before m party step fit bound p =
    let next : (happens m party step).moments ≡ m.moments + 1 = happens_moments m party step fit ∙ one_more m.moments bound in
    let few : m.moments ≤ 2 ^ 63 = omega (arith, bound) in
    record {
      kept = happens_keeps m party step fit p.kept;
      sizes_are = (happens_ends m party step fit p.kept.returns).sizes ∙ p.sizes_are;
      past = omega (arith, next, p.past);
      steady = λ lane found since busy. elim (turn m party step place fit) [
        | inl same ↦ p.steady lane (sym same.0 ∙ found) since busy
        | inr (inl began) ↦
            let is : publisher_begun m.moments began.0 began.1 ≡ lane = some_is _ lane (sym began.4 ∙ found) in
            let now : m.moments ≡ first = sym (begun_first m.moments began.0 began.1 began.3) ∙ ap (λ (x : PublisherLaneState). x.first)
            is ∙ since in
            absurd (omega (arith, now, p.past))
        | inr (inr went) ↦
            let is : publisher_after (publisher_given m.table went.0) went.0 ≡ lane = some_is _ lane (sym went.3 ∙ found) in
            let was = p.steady went.0 went.1 (ap (λ (x : PublisherLaneState). x.first) is ∙ since) went.2 in
            let on = loan_steps went.0.port.routes (words_of went.0.port) went.0.port.book went.0.port.call
            (publisher_given m.table went.0) ((p.kept.rooms few).publishers place went.0 went.1).takes was.loan
            (ap (λ (x : PublisherLaneState). publisher_is_idle x.port.call) is ∙ busy) in
            subst (IsSteady before) is
            (record { loan = on.loan; routes = was.routes; same = after_same before.port.book went.0.port.book _ was.same on.same })
      ];
    }

all_steadied : (place first : ℕ) (sizes : TableSizes) (before : PublisherLaneState) (m : World) (entries : List Entry)
    → (led m entries).moments ≤ 2 ^ 63 → Steadied place first sizes before m → Steadied place first sizes before (led m entries)
all_steadied place first sizes before m [] few p = p
all_steadied place first sizes before m (entry ∷ entries) few p =
    all_steadied place first sizes before (after_entry (fits m entry.party entry.step) m entry) entries few
    (by_fit (fits m entry.party entry.step) refl (later (after_entry (fits m entry.party entry.step) m entry) entries few))
  where
    by_fit : (b : Bool) → fits m entry.party entry.step ≡ b → (after_entry b m entry).moments ≤ (led m (entry ∷ entries)).moments
        → Steadied place first sizes before (after_entry b m entry)
    by_fit true e h = steadied_on place first sizes before m entry.party entry.step e
        (omega (arith, happens_moments m entry.party entry.step e, h, few)) p
    by_fit false e h = p

abbrev out_of : List LoanMark → ℕ
out_of loans = total (λ index. parties.is_out (get_or loans index mark.No)) (length loans)

out_same : (book after : BookState) → SameLoans book after → loans_out after ≡ loans_out book
out_same book after h = ap out_of h.loans

pub loans_end_as_begun : LoansEndAsBegun
loans_end_as_begun = λ m came place entries fit few inside ended more given answered lane found small.
    let k = came_kept m came in
    let next = happens_moments m (Publisher place) (Begin call.LoanUninit) fit in
    let after = later (happens m (Publisher place) (Begin call.LoanUninit)) entries few in
    let bound : m.moments < 2 ^ 63 = omega (arith, next, after, few) in
    let began = may_begin m place call.LoanUninit (slice_get m.publishers place) refl fit in
    let same : lane ≡ began.0 = some_is lane began.0 (sym found ∙ began.1) in
    let start : Steadied place m.moments m.table.sizes lane (happens m (Publisher place) (Begin call.LoanUninit)) = record {
      kept = happens_keeps m (Publisher place) (Begin call.LoanUninit) fit k.0;
      sizes_are = (happens_ends m (Publisher place) (Begin call.LoanUninit) fit ((k.0).returns)).sizes;
      past = omega (arith, next, one_more m.moments bound);
      steady = λ now there since busy.
          let is : publisher_begun m.moments call.LoanUninit lane ≡ now
          = ap (publisher_begun m.moments call.LoanUninit) same ∙ some_is _ now (sym began.3 ∙ there) in
          subst (IsSteady lane) is
          (record { loan = loan_next 0 (slice_get lane.port.routes 0); routes = refl; same = same_loans lane.port.book });
    } in
    let end = all_steadied place m.moments m.table.sizes lane (happens m (Publisher place) (Begin call.LoanUninit)) entries few start in
    let n : World = led (happens m (Publisher place) (Begin call.LoanUninit)) entries in
    let z = end.steady inside.lane inside.found inside.since inside.busy in
    let last = goes n place (slice_get n.publishers place) inside.lane ended refl inside.found more in
    let says = lends_at inside.lane.fails inside.lane.port.call
    (publisher_after (publisher_given n.table inside.lane) inside.lane).port.book.answer given
    (last.answered ∙ ap (λ (a : Answer). Some a) answered) in
    let book_is : (publisher_after (publisher_given n.table inside.lane) inside.lane).port.book ≡ lent inside.lane.port.book
    = ap (λ (c : PublisherCall). changed (publisher_change c (publisher_given n.table inside.lane)) inside.lane.port.book) says.0 in
    let small_now : inside.lane.port.book.first + length inside.lane.port.book.loans < 2 ^ 64
    = omega (arith, small, z.same.first, ap (λ (xs : List LoanMark). length xs) z.same.loans) in
    let is = lent_as_found n (happens n (Publisher place) GoOn) place inside.lane given inside.found end.kept.within
    ((end.kept.uses few).publishers place inside.lane inside.found)
    (subst (HasRooms n.table.sizes.completion_cells (length inside.lane.port.routes) inside.lane.port.book) says.0
    ((end.kept.rooms few).publishers place inside.lane inside.found)) small_now
    (publisher_after (publisher_given n.table inside.lane) inside.lane) last.after book_is
    (finds inside.lane.port.book given (ap (λ (b : BookState). parties.lent b.answer) (sym book_is) ∙ says.1)) in
    let out : loans_out inside.lane.port.book ≡ loans_out lane.port.book = out_same lane.port.book inside.lane.port.book z.same in
    let worst : worst_case n inside.lane ≡ worst_case m lane =
    ap (λ (t : TableSizes). length inside.lane.port.routes * (t.completion_cells - 1) + inside.lane.port.book.kept +
    inside.lane.port.book.most_loans) end.sizes_are
    ∙ ap (λ (rs : List Route). length rs * (m.table.sizes.completion_cells - 1) + inside.lane.port.book.kept +
    inside.lane.port.book.most_loans) z.routes
    ∙ ap (λ (x : ℕ). length lane.port.routes * (m.table.sizes.completion_cells - 1) + x + inside.lane.port.book.most_loans) z.same.kept
    ∙ ap (λ (x : ℕ). length lane.port.routes * (m.table.sizes.completion_cells - 1) + lane.port.book.kept + x) z.same.most in
    record {
      refused = λ e. sym out ∙ is.refused e ∙ z.same.most;
      refuses = λ e. is.refuses (out ∙ e ∙ sym z.same.most);
      permitted = λ room slots. is.permitted (omega (arith, room, out, z.same.most)) (omega (arith, slots, worst, z.same.slots));
    }
