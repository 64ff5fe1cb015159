-- A loan has no other use.
use Rattle.std.proofs.Common.{ℕ, ◌≡◌, ◌+◌, ◌<◌, ◌≤◌, ◌⊎◌, Bool, true, false, List, length, slice_get, Some, refl, sym, ◌∙◌, ap}
use Rattle.std.proofs.Common.{subst, inl, inr, arith}
use Rattle.std.proofs.lemmas.Bool.{cases_lt}
use Rattle.std.proofs.lemmas.Option.{slice_get_within}
use Rattle.iox_lanes_machine.specs.QueuesSteps.declared.order.Placed.{Placed}
use Rattle.iox_lanes_machine.specs.LanesParties.declared.publisher.slot_book.LoanMark.TheVariants as mark
use Rattle.iox_lanes_machine.specs.LanesParties.Parties.{PublisherLaneState, is_out}
use Rattle.iox_lanes_machine.specs.LanesParties.declared.call.Party.{Party}
use Rattle.iox_lanes_machine.specs.LanesParties.declared.call.Party.TheVariants.{Publisher, Subscriber}
use Rattle.iox_lanes_machine.specs.LedgerUses.{one_if, count, entry, refers_to}
use Rattle.iox_lanes_machine.proofs.Changes.{loan_lacks}
use Rattle.iox_lanes_machine.proofs.Entries.{entry_own, refers_own}
use Rattle.iox_lanes_machine.specs.Alone.{InNoHistory, AtNoConnection, LoansStandAlone, IsRemembered, IsAtConnection, UsedSlotsStay}
use Rattle.iox_lanes_machine.specs.Kept.{IsKept}
use Rattle.iox_lanes_machine.specs.Sends.{AreConnected}
use Rattle.iox_lanes_machine.specs.Slots.{IsLoanAt, IsLoanOf, SlotsStay, LoansStand}
use Rattle.iox_lanes_machine.specs.Uses.{PublisherUses, UsesKept}
use Rattle.iox_lanes_machine.specs.World.{World}
use Rattle.iox_lanes_machine.proofs.Connected.{sends_connected}
use Rattle.iox_lanes_machine.specs.Links.{LinkState}
use Rattle.iox_lanes_machine.proofs.Ends.{some_is}
use Rattle.iox_lanes_machine.proofs.SubscriberUses.{Standing, recorded}

-- a loan lies among its publisher's slots
pub loan_within : (m : World) (place slot : ℕ) (loan : IsLoanAt m place slot) → ((loan.lane).port.book.first ≤ slot)
    × (slot < (loan.lane).port.book.first + length (loan.lane).port.book.loans)
loan_within m place slot loan = entry_own (loan.lane).port.book.first slot (loan.lane).port.book.loans mark.No
    (λ none. cc (sym loan.out ∙ ap is_out none))

-- no other publisher has it among its own
pub only_one : (m : World) (place who slot : ℕ) (loan : IsLoanAt m place slot) (z : PublisherLaneState) → LoansStand m
    → slice_get m.publishers who ≡ Some z → z.port.book.first ≤ slot → slot < z.port.book.first + length z.port.book.loans → who ≡ place
only_one m place who slot loan z l found above below =
    let own = loan_within m place slot loan in
    elim (cases_lt who place) [
      | inl lt ↦ absurd (let row = l.rows who place z loan.lane found loan.found lt in omega (arith, row, below, own.0))
      | inr ge ↦ elim (cases_lt place who) [
        | inl gt ↦ absurd (let row = l.rows place who loan.lane z loan.found found gt in omega (arith, row, own.1, above))
        | inr le ↦ omega (arith, ge, le)
      ]
    ]

in_no_history : (m : World) (place slot : ℕ) (loan : IsLoanAt m place slot) → LoansStand m → UsesKept m → InNoHistory m slot
in_no_history m place slot loan l u = λ who z found.
    let uses : PublisherUses m z = u.publishers who z found in
    let clause = uses.counted.each slot in
    elim (cases_lt 0 (count slot z.port.book.history)) [
      | inl some ↦
          let used : 0 < entry z.port.book.first z.port.book.uses slot 0 = omega (arith, clause.counted, some) in
          let own = entry_own z.port.book.first slot z.port.book.uses 0 (λ none. absurd (omega (arith, none, used))) in
          let same : who ≡ place = only_one m place who slot loan z l found own.0 (omega (arith, own.1, uses.counted.loans_each)) in
          let is : loan.lane ≡ z = some_is loan.lane z (sym loan.found ∙ ap (slice_get m.publishers) (sym same) ∙ found) in
          (clause.alone (subst (λ (x : PublisherLaneState). is_out (entry x.port.book.first x.port.book.loans slot mark.No) ≡ true) is
          loan.out)).0
      | inr none ↦ omega (arith, none)
    ]

refers_not : (m : World) (place slot connection : ℕ) (link : LinkState) (loan : IsLoanAt m place slot) (z : PublisherLaneState) (at : ℕ)
    → LoansStand m → UsesKept m → slice_get m.publishers link.publisher ≡ Some z → at < length z.port.routes
    → (b : Bool) → refers_to z.port.book at slot ≡ b → b ≡ false
refers_not m place slot connection link loan z at l u found there false e = refl
refers_not m place slot connection link loan z at l u found there true e =
    let uses : PublisherUses m z = u.publishers link.publisher z found in
    let own = refers_own z.port.book.first (length z.port.book.uses) z.port.book.referred at slot e in
    let same : link.publisher ≡ place = only_one m place link.publisher slot loan z l found own.0
    (omega (arith, own.1, uses.counted.loans_each)) in
    let is : loan.lane ≡ z = some_is loan.lane z (sym loan.found ∙ ap (slice_get m.publishers) (sym same) ∙ found) in
    let out : is_out (entry z.port.book.first z.port.book.loans slot mark.No) ≡ true
    = subst (λ (x : PublisherLaneState). is_out (entry x.port.book.first x.port.book.loans slot mark.No) ≡ true) is loan.out in
    sym e ∙ loan_lacks (length z.port.routes) slot z.port.book out uses.counted at there

is_none : (b : Bool) → one_if b ≡ 0 → b ≡ false
is_none true h = absurd (omega (arith, h))
is_none false h = refl

stands_not : (m : World) (place slot : ℕ) (loan : IsLoanAt m place slot) → AreConnected m → LoansStand m → UsesKept m
    → (connection : ℕ) (link : LinkState) (order : List Placed) → slice_get m.links connection ≡ Some link
    → slice_get m.orders connection ≡ Some order → Standing m connection link order slot ≡ 0
stands_not m place slot loan s l u connection link order found got =
    let r = recorded m connection link order found got s u slot in
    r.is ∙ ap one_if (refers_not m place slot connection link loan r.lane r.place l u r.found
    (slice_get_within (r.lane).port.routes r.place r.route r.at) (refers_to (r.lane).port.book r.place slot) refl)

at_no_connection : (m : World) (place slot : ℕ) (loan : IsLoanAt m place slot) → AreConnected m → LoansStand m → UsesKept m
    → AtNoConnection m slot
at_no_connection m place slot loan s l u = λ connection link order found got.
    let none = stands_not m place slot loan s l u connection link order found got in
    record {
      waits = omega (arith, none);
      aside = omega (arith, none);
      borrowed = is_none _ (omega (arith, none));
      given_back = omega (arith, none);
    }

pub loans_alone : (m : World) → IsKept m → LoansStandAlone m
loans_alone m k = λ few place slot loan. (
  in_no_history m place slot loan k.loans (k.uses few),
  at_no_connection m place slot loan (sends_connected m (k.sends few)) k.loans
      (k.uses few),
)

-- so a slot with a use is no loan
pub not_used : (m : World) (place slot : ℕ) → IsLoanAt m place slot → AreConnected m → LoansStand m → UsesKept m → IsRemembered m slot
    ⊎ IsAtConnection m slot → ⊥
not_used m place slot loan s l u (inl history) =
    let none = in_no_history m place slot loan l u history.place history.lane history.found in
    absurd (omega (arith, none, history.has))
not_used m place slot loan s l u (inr there) =
    let none = stands_not m place slot loan s l u there.connection there.link there.order there.found there.got in
    absurd (omega (arith, none, there.has))

no_loan : (m : World) (party : Party) (slot : ℕ) → AreConnected m → LoansStand m → UsesKept m → IsRemembered m slot ⊎ IsAtConnection m slot
    → IsLoanOf m party slot → ⊥
no_loan m (Publisher place) slot s l u used loan = not_used m place slot loan s l u used
no_loan m (Subscriber place) slot s l u used loan = loan

pub uses_stay : (m : World) (party : Party) (n : World) → AreConnected m → LoansStand m → UsesKept m → SlotsStay m party n
    → UsedSlotsStay m n
uses_stay m party n s l u stay = λ few slot word there used. stay slot word there (λ loan. no_loan m party slot s l u used loan)

pub used_stay : (m : World) (party : Party) (n : World) → IsKept m → SlotsStay m party n → UsedSlotsStay m n
used_stay m party n k stay = λ few. uses_stay m party n (sends_connected m (k.sends few)) k.loans (k.uses few) stay few
