-- No subscriber holds a loan.
use Rattle.std.proofs.Common.{ℕ, ◌≡◌, ◌<◌, ◌^◌, Bool, true, false, if◌then◌else◌, List, slice_get, get_or, None, refl, sym, ◌∙◌, ap}
use Rattle.std.proofs.Common.{subst, inr}
use Rattle.iox_lanes_base.specs.declared.words.access.SharedAccess.TheVariants.{Local}
use Rattle.iox_lanes_parties.specs.PublisherKeeping.{loan_of}
use Rattle.iox_lanes_parties.specs.Parties.{PublisherLaneState, SubscriberLaneState, is_out}
use Rattle.iox_lanes_parties.specs.declared.call.Party.{Party}
use Rattle.iox_lanes_parties.specs.declared.call.Party.TheVariants.{Publisher, Subscriber}
use Rattle.iox_lanes_machine.specs.Rooms.{RoomsKept}
use Rattle.iox_lanes_machine.specs.Slots.{IsLoanAt}
use Rattle.iox_lanes_machine.specs.Together.{HoldTogether}
use Rattle.iox_lanes_machine.specs.World.{World}
use Rattle.iox_lanes_machine.proofs.Alone.{not_used}
use Rattle.iox_lanes_machine.proofs.Held.{borrowed_there}
use Rattle.iox_lanes_threads_rule.specs.Lanes.{IsEarly, HasParty, HasPublisher, ComesToPublisher}
use Rattle.iox_lanes_threads_rule.specs.Slots.{IsSampleOf}
use Rattle.iox_lanes_threads_rule.specs.declared.view.Port.{Port}
use Rattle.iox_lanes_threads_rule.specs.declared.view.PortParty.{PortParty}
use Rattle.iox_lanes_threads_rule.specs.declared.view.PortParty.TheVariants as party
use Rattle.iox_lanes_threads_rule.proofs.Behind.{AfterAccess}
use Rattle.iox_lanes_threads_rule.proofs.PublisherBehind.{publisher_reaches}
use Rattle.iox_lanes_threads_ports.specs.Ports.{PublisherStands}
use Rattle.iox_lanes.specs.HeldByNone.{IsHeldByNone}
use Rattle.iox_lanes.specs.Typed.{TypedPublisher, Token, is_loan_of}
use Rattle.iox_lanes.specs.TypedCalls.{is_mine}

-- no subscriber of lanes has a loan as a sample
unheld_by : (m : World) (place slot : ℕ) → IsLoanAt m place slot → HoldTogether m → (name : Party) (own : PortParty) → HasParty m name own
    → IsSampleOf own slot → ⊥
unheld_by m place slot loan k (Publisher other) (party.Publisher lane) has sample = sample
unheld_by m place slot loan k (Publisher other) (party.Subscriber lane) has sample = has
unheld_by m place slot loan k (Subscriber other) (party.Publisher lane) has sample = sample
unheld_by m place slot loan k (Subscriber other) (party.Subscriber lane) has sample =
    not_used m place slot loan k.connections k.loans k.uses
    (inr (borrowed_there m other (record lane { first = has.0 }) has.1 k.within
    (k.uses.subscribers other (record lane { first = has.0 }) has.1) slot (get_or lane.port.samples slot None) refl sample))

-- nor had it one before steps of the publisher on no shared word
unheld_since : (m n : World) (place slot : ℕ) → AfterAccess m (Publisher place) Local n → IsLoanAt n place slot → (name : Party)
    (own : PortParty) → HasParty m name own → IsSampleOf own slot → ⊥
unheld_since m n place slot went loan (Publisher other) (party.Publisher lane) has sample = sample
unheld_since m n place slot went loan (Publisher other) (party.Subscriber lane) has sample = has
unheld_since m n place slot went loan (Subscriber other) (party.Publisher lane) has sample = sample
unheld_since m n place slot went loan (Subscriber other) (party.Subscriber lane) has sample =
    unheld_by n place slot loan went.together (Subscriber other) (party.Subscriber lane)
    (has.0, ap (λ (xs : List SubscriberLaneState). slice_get xs other) went.others.0 ∙ has.1) sample

-- lanes go on to where the party comes
reached : (m : World) (place : ℕ) (own : PortParty) (lane : PublisherLaneState) → HoldTogether m → RoomsKept m → m.moments < 2 ^ 63
    → IsEarly m.table → HasParty m (Publisher place) own → ComesToPublisher own lane
    → (n : World) × AfterAccess m (Publisher place) Local n × HasPublisher n place lane
reached m place (party.Publisher before) lane k rooms few early has comes =
    publisher_reaches m place before lane k rooms few early has comes
reached m place (party.Subscriber before) lane k rooms few early has comes = absurd comes

pub loan_is_held_by_none : (p : Port) (lane : PublisherLaneState) (slot : ℕ) → PublisherStands p lane
    → is_out (loan_of slot lane.port.book) ≡ true → IsHeldByNone p slot
loan_is_held_by_none p lane slot stands out words ports at number q back early here there sample =
    let b = back early in
    let same : IsEarly (b.lanes).table = subst IsEarly (sym b.table) early in
    let has : HasParty b.lanes (Publisher stands.place) p.party
    = subst (λ (n : Party). HasParty b.lanes n p.party) stands.name (b.ports at p here) in
    let r = reached b.lanes stands.place p.party lane b.together b.rooms b.few same has stands.comes in
    let loan : IsLoanAt r.0 stands.place slot
    = record { lane = record lane { first = (r.2).0 }; found = (r.2).1; out = out } in
    unheld_since b.lanes r.0 stands.place slot r.1 loan q.name q.party (b.ports number q there) sample

-- a loan of a publisher that knows its types is out
pub mine_is_out : (publisher : TypedPublisher) (loan : Token) → is_mine publisher loan ≡ true
    → is_out (loan_of loan.slot publisher.port.own.lane.port.book) ≡ true
mine_is_out publisher loan mine =
    by_test (is_loan_of publisher loan) (is_out (loan_of loan.slot publisher.port.own.lane.port.book)) mine
  where
    by_test : (test out : Bool) → (if test then out else false) ≡ true → out ≡ true
    by_test true out is = is
    by_test false out is = absurd (cc is)
