-- Words of slots are stored of loans alone.
use Rattle.std.proofs.Common.{ℕ, ◌≡◌, ◌<◌, ◌^◌, true, List, length, slice_get, get_or, None, refl, sym, ◌∙◌, ap, subst, inr}
use Rattle.iox_lanes_machine.specs.LanesBase.Publishing.{publisher_next, publisher_change}
use Rattle.iox_lanes_machine.specs.LanesBase.declared.calls.publisher.PublisherCall.{PublisherCall}
use Rattle.iox_lanes_machine.specs.LanesBase.declared.calls.publisher.PublisherCall.TheVariants as publishing
use Rattle.iox_lanes_machine.specs.LanesBase.declared.words.access.SharedAccess.{SharedAccess}
use Rattle.iox_lanes_machine.specs.LanesBase.declared.words.access.SharedAccess.TheVariants.{Store, Local}
use Rattle.iox_lanes_machine.specs.LanesBase.declared.words.word.SharedWord.TheVariants.{Slot}
use Rattle.iox_lanes_machine.specs.LanesBase.declared.words.word.SlotWord.{SlotWord}
use Rattle.iox_lanes_machine.specs.LanesParties.PublisherKeeping.{BookState, changed, loan_of}
use Rattle.iox_lanes_machine.specs.LanesParties.Parties.{PublisherLaneState, SubscriberLaneState, publisher_after, is_out}
use Rattle.iox_lanes_machine.specs.LanesParties.declared.call.Party.{Party}
use Rattle.iox_lanes_machine.specs.LanesParties.declared.call.Party.TheVariants.{Publisher, Subscriber}
use Rattle.iox_lanes_machine.specs.Apart.{MayChange}
use Rattle.iox_lanes_machine.specs.LedgerUses.{refers_to}
use Rattle.iox_lanes_machine.specs.Rooms.{RoomsKept}
use Rattle.iox_lanes_machine.specs.Slots.{IsLoanAt}
use Rattle.iox_lanes_machine.specs.Together.{HoldTogether}
use Rattle.iox_lanes_machine.specs.World.{World}
use Rattle.iox_lanes_machine.proofs.Alone.{not_used}
use Rattle.iox_lanes_machine.proofs.Changes.{loan_lacks}
use Rattle.iox_lanes_machine.proofs.Held.{borrowed_there}
use Rattle.iox_lanes_machine.proofs.Slots.{ring_touches, publisher_touches, subscriber_touches}
use Rattle.iox_lanes_threads_rule.specs.Lanes.{MakesNext, IsEarly, HasParty}
use Rattle.iox_lanes_threads_rule.specs.Slots.{IsSampleOf, IsLoneLoanOf, SlotStoresAreOfLoans}
use Rattle.iox_lanes_threads_rule.specs.declared.view.PortParty.{PortParty}
use Rattle.iox_lanes_threads_rule.specs.declared.view.PortParty.TheVariants as party
use Rattle.iox_lanes_threads_rule.proofs.Behind.{AfterAccess}
use Rattle.iox_lanes_threads_rule.proofs.PublisherBehind.{publisher_reaches}

-- a store of a word of a slot leaves its publisher's book
book_stays : (lane : PublisherLaneState) (c : PublisherCall) (slot : ℕ) (word : SlotWord) → lane.port.call ≡ c
    → MayChange (publisher_next c) (Slot slot word) → (publisher_after 0 lane).port.book ≡ lane.port.book
book_stays lane publishing.Idle slot word e t = absurd t
book_stays lane (publishing.LoanReclaims place route pop) slot word e t = absurd (ring_touches _ _ _ _ slot word t)
book_stays lane publishing.Lending slot word e t = absurd t
book_stays lane (publishing.Writing s w v) slot word e t =
    ap (λ (c : PublisherCall). changed (publisher_change c 0) lane.port.book) e
book_stays lane (publishing.Written s) slot word e t = absurd t
book_stays lane (publishing.Heading s w v) slot word e t =
    ap (λ (c : PublisherCall). changed (publisher_change c 0) lane.port.book) e
book_stays lane (publishing.Remembering s) slot word e t = absurd t
book_stays lane (publishing.SendReclaims s place route pop) slot word e t = absurd (ring_touches _ _ _ _ slot word t)
book_stays lane (publishing.Pushing s place route push delivery) slot word e t = absurd (ring_touches _ _ _ _ slot word t)
book_stays lane (publishing.Sent s delivery) slot word e t = absurd t
book_stays lane (publishing.Dropping s) slot word e t = absurd t

-- no party of lanes has a loan as a sample
loan_unheld : (m : World) (place slot : ℕ) → IsLoanAt m place slot → HoldTogether m → (name : Party) (own : PortParty) → HasParty m name own
    → IsSampleOf own slot → ⊥
loan_unheld m place slot loan k (Publisher other) (party.Publisher lane) has sample = sample
loan_unheld m place slot loan k (Publisher other) (party.Subscriber lane) has sample = has
loan_unheld m place slot loan k (Subscriber other) (party.Publisher lane) has sample = sample
loan_unheld m place slot loan k (Subscriber other) (party.Subscriber lane) has sample =
    not_used m place slot loan k.connections k.loans k.uses
    (inr (borrowed_there m other (record lane { first = has.0 }) has.1 k.within
    (k.uses.subscribers other (record lane { first = has.0 }) has.1) slot (get_or lane.port.samples slot None) refl sample))

-- no other party has become one that has it
unheld_before : (m n : World) (place slot : ℕ) → AfterAccess m (Publisher place) Local n → IsLoanAt n place slot → (name : Party)
    (own : PortParty) → HasParty m name own → IsSampleOf own slot → ⊥
unheld_before m n place slot went loan (Publisher other) (party.Publisher lane) has sample = sample
unheld_before m n place slot went loan (Publisher other) (party.Subscriber lane) has sample = has
unheld_before m n place slot went loan (Subscriber other) (party.Publisher lane) has sample = sample
unheld_before m n place slot went loan (Subscriber other) (party.Subscriber lane) has sample =
    loan_unheld n place slot loan went.together (Subscriber other) (party.Subscriber lane)
    (has.0, ap (λ (xs : List SubscriberLaneState). slice_get xs other) went.others.0 ∙ has.1) sample

-- a party that stores a word of a slot next
storing : (m : World) (name : Party) (own : PortParty) (slot new : ℕ) (word : SlotWord) (after : ℕ → PortParty)
    → HoldTogether m → RoomsKept m → m.moments < 2 ^ 63 → IsEarly m.table → HasParty m name own
    → MakesNext own (Store (Slot slot word) new) after
    → IsLoneLoanOf (after 0) slot
    × ((other : Party) (theirs : PortParty) → HasParty m other theirs → IsSampleOf theirs slot → ⊥)
storing m (Publisher place) (party.Publisher lane) slot new word after k rooms few early has acts =
    let r = publisher_reaches m place lane acts.now k rooms few early has acts.comes in
    let now : PublisherLaneState = acts.now in
    let touched : MayChange (publisher_next now.port.call) (Slot slot word)
    = subst (λ (a : SharedAccess). MayChange a (Slot slot word)) (sym acts.next) refl in
    let stage = (r.1).together.loans.stages place (record now { first = (r.2).0 }) (r.2).1 in
    let out : is_out (loan_of slot now.port.book) ≡ true = publisher_touches now.port.book now.port.call slot word stage touched in
    let same : (publisher_after 0 now).port.book ≡ now.port.book = book_stays now now.port.call slot word refl touched in
    let uses = (r.1).together.uses.publishers place (record now { first = (r.2).0 }) (r.2).1 in
    let lone : IsLoneLoanOf (party.Publisher (publisher_after 0 now)) slot = (
      ap (λ (b : BookState). is_out (loan_of slot b)) same ∙ out,
      (λ at below. ap (λ (b : BookState). refers_to b at slot) same
          ∙ loan_lacks (length now.port.routes) slot now.port.book out uses.counted at below),
    ) in
    let loan : IsLoanAt r.0 place slot = record { lane = record now { first = (r.2).0 }; found = (r.2).1; out = out } in (
      subst (λ (x : PortParty). IsLoneLoanOf x slot) (sym (acts.after_is 0)) lone,
      (λ other theirs there sample. unheld_before m r.0 place slot r.1 loan other theirs there sample),
    )
storing m (Publisher place) (party.Subscriber lane) slot new word after k rooms few early has acts = absurd has
storing m (Subscriber place) (party.Publisher lane) slot new word after k rooms few early has acts = absurd has
storing m (Subscriber place) (party.Subscriber lane) slot new word after k rooms few early has acts =
    absurd (subscriber_touches acts.now.port.call slot word
    (subst (λ (a : SharedAccess). MayChange a (Slot slot word)) (sym acts.next) refl))

pub slot_stores_are_of_loans : SlotStoresAreOfLoans
slot_stores_are_of_loans s words ports p slot word new after back early at next =
    let b = back early in
    let same : IsEarly (b.lanes).table = subst IsEarly (sym b.table) early in
    let t = storing b.lanes p.name p.party slot new word after b.together b.rooms b.few same (b.ports p.number p at) next in
    (t.0, (λ number q there sample. t.1 q.name q.party (b.ports number q there) sample))
