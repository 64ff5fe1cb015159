-- Every step keeps that what is used holds the message that was sent there.
use Rattle.std.proofs.Common.{ℕ, ◌≡◌, ◌≤◌, ◌^◌, true, List, length, set, slice_get, Option, Some, None, refl, sym, ◌∙◌, ap, subst, inl, inr}
use Rattle.std.proofs.lemmas.Bool.Decides.{eqb_tells}
use Rattle.iox_lanes_machine.specs.LanesBase.Numbers.{IsWord}
use Rattle.iox_lanes_machine.specs.LanesBase.Table.{TableWords, held_by}
use Rattle.iox_lanes_machine.specs.LanesBase.declared.words.word.SharedWord.TheVariants.{Slot}
use Rattle.iox_lanes_machine.specs.LanesBase.declared.words.word.SlotWord.{SlotWord}
use Rattle.iox_lanes_machine.specs.LanesBase.declared.words.word.SlotWord.TheVariants.{Payload}
use Rattle.iox_lanes_machine.specs.LanesBase.Publishing.{publisher_next, publisher_change}
use Rattle.iox_lanes_machine.specs.LanesParties.PublisherKeeping.{loan_of}
use Rattle.iox_lanes_machine.specs.LanesParties.Publishers.{words_of}
use Rattle.iox_lanes_machine.specs.LanesParties.Parties.{PublisherLaneState, is_out, publisher_begun, publisher_after}
use Rattle.iox_lanes_machine.specs.LanesParties.Within.{IsPublisher}
use Rattle.iox_lanes_machine.specs.LanesParties.declared.call.Call.{Call}
use Rattle.iox_lanes_machine.specs.LanesParties.declared.call.Call.TheVariants as call
use Rattle.iox_lanes_machine.specs.LanesParties.declared.call.Move.{Move}
use Rattle.iox_lanes_machine.specs.LanesParties.declared.call.Move.TheVariants.{Begin, GoOn}
use Rattle.iox_lanes_machine.specs.LanesParties.declared.call.Party.{Party}
use Rattle.iox_lanes_machine.specs.LanesParties.declared.call.Party.TheVariants.{Publisher, Subscriber}
use Rattle.iox_lanes_machine.proofs.LanesParties.Rings.{all_at}
use Rattle.iox_lanes_machine.proofs.LanesParties.PublishersWithin.{publishers_stay_within}
use Rattle.iox_lanes_machine.specs.Apart.{MayChange, OthersHold, publisher_access}
use Rattle.iox_lanes_machine.specs.Kept.{IsKept, IsWithin}
use Rattle.iox_lanes_machine.specs.Left.{StoresHold}
use Rattle.iox_lanes_machine.specs.Slots.{IsLoanAt, SlotsStay, LoansStand}
use Rattle.iox_lanes_machine.specs.Uses.{PublisherUses, UsesKept}
use Rattle.iox_lanes_machine.specs.World.{World, fits, happens, ends, publisher_fits_at, publisher_given, publisher_begins}
use Rattle.iox_lanes_machine.specs.World.{publisher_goes_on, placed}
use Rattle.iox_lanes_machine.proofs.Alone.{only_one}
use Rattle.iox_lanes_machine.proofs.Apart.{steps_apart}
use Rattle.iox_lanes_machine.proofs.Calls.{set_is}
use Rattle.iox_lanes_machine.proofs.Ends.{some_is}
use Rattle.iox_lanes_machine.proofs.ReturnSteps.{happens_ends}
use Rattle.iox_lanes_machine.proofs.Slots.{slots_stay}
use Rattle.iox_lanes_machine.proofs.Whole.{step_made}
use Rattle.iox_lanes_machine.proofs.Within.{set_other}
use Rattle.iox_lanes_laws.specs.Messages.{message_of, sent_by, begun_messages, last_in}
use Rattle.iox_lanes_laws.proofs.MessagesBooks.{given_or_was}
use Rattle.iox_lanes_laws.proofs.Stages.{sending, sent_before, payload_spared, GivesAt, gives_at, puts_own}
use Rattle.iox_lanes_laws.proofs.Words.{holds_stays, sent_stays, sent_holds, last_other}
use Rattle.iox_lanes_laws.proofs.Lanes.{LaneSent, AllSent, IsOf, used_own, used_not_out, stage_own, own_there, lane_stays, begun_loan}
use Rattle.iox_lanes_laws.proofs.Lanes.{lane_begins}

-- the words of slots that an access may not change
abbrev SparedBy : World → TableWords → PublisherLaneState → Type 0
SparedBy m u lane = (slot : ℕ) (word : SlotWord) → IsWord m.table.sizes (Slot slot word)
    → (MayChange (publisher_next lane.port.call) (Slot slot word) → ⊥) → held_by u (Slot slot word) ≡ held_by m.table (Slot slot word)

-- a publisher that goes on
lane_goes_on : (m : World) (u : TableWords) (sent : ℕ → List ℕ) (place : ℕ) (lane : PublisherLaneState) (given : ℕ)
    → slice_get m.publishers place ≡ Some lane → IsWithin m → LoansStand m → UsesKept m → StoresHold m → u.sizes ≡ m.table.sizes
    → SparedBy m u lane → ((slot : ℕ) (word : SlotWord) → IsWord m.table.sizes (Slot slot word) → (IsLoanAt m place slot → ⊥)
    → held_by u (Slot slot word) ≡ held_by m.table (Slot slot word))
    → LaneSent m.table sent lane → LaneSent u sent (publisher_after given lane)
lane_goes_on m u sent place lane given found w l k stores e spared stays h = record {
  stage = λ slot at.
      let before : sending lane.port.call ≡ Some slot = sent_before lane.port.routes (words_of lane.port) lane.port.call given slot at in
      let there = own_there m place lane slot found w (stage_own m place lane slot found l k before) in
      sent_stays m.table u (sent slot) lane.port.head slot e
      (λ word below. spared slot (Payload word) (there, below) (payload_spared lane.port.call slot slot word before))
      (h.stage slot before);
  used = λ slot at. elim (given_or_was (length lane.port.routes) lane.port.book (publisher_change lane.port.call given) slot
      (puts_own (length lane.port.routes) lane.port.book lane.port.call given uses.lacking) at) [
        | inl was ↦
            let own = used_own (length lane.port.routes) lane slot uses.counted was in
            let not : IsLoanAt m place slot → ⊥ = λ loan.
            let is : loan.lane ≡ lane = some_is loan.lane lane (sym loan.found ∙ found) in
            used_not_out (length lane.port.routes) lane slot uses.counted was
            (subst (λ (x : PublisherLaneState). is_out (loan_of slot x.port.book) ≡ true) is loan.out) in
            holds_stays m.table u slot (sent slot) e (own_there m place lane slot found w own) (λ word is. stays slot word is not)
            (h.used slot was)
        | inr is ↦
            let gives : GivesAt m.table lane.port.sends lane.port.payload lane.port.head lane.port.call slot
            = gives_at m.table lane.port.sends lane.port.payload lane.port.head (length lane.port.routes) lane.port.book lane.port.call
            given slot uses.lacking is in
            let there = own_there m place lane slot found w (stage_own m place lane slot found l k gives.sent) in
            holds_stays m.table u slot (sent slot) e there (λ word at. spared slot word at (gives.spared slot word))
            (sent_holds m.table (sent slot) lane.port.head slot (h.stage slot gives.sent) (gives.stored (stores place lane found)))
      ];
}
  where
    uses : PublisherUses m lane
    uses = k.publishers place lane found

-- what the message of a begin leaves as it was: every slot that is no loan of its publisher
begun_other : (m : World) (place : ℕ) (c : Call) (at : Option PublisherLaneState) (before : List ℕ) (slot : ℕ)
    → slice_get m.publishers place ≡ at → publisher_fits_at at (Begin c) ≡ true → (IsLoanAt m place slot → ⊥)
    → last_in before (sent_by m place c at) slot ≡ before
begun_other m place c None before slot e fit not = refl
begun_other m place call.LoanUninit (Some lane) before slot e fit not = refl
begun_other m place (call.Write loan payload user_header) (Some lane) before slot e fit not = refl
begun_other m place (call.Send loan) (Some lane) before slot e fit not
    = last_other before (message_of m.table m.moments place loan lane) slot
    (λ same. not (subst (IsLoanAt m place) same (begun_loan m place loan lane e fit)))
begun_other m place (call.DropLoan loan) (Some lane) before slot e fit not = refl
begun_other m place call.Receive (Some lane) before slot e fit not = refl
begun_other m place (call.Read sample) (Some lane) before slot e fit not = refl
begun_other m place (call.Release sample) (Some lane) before slot e fit not = refl

-- another publisher's slots are no loans of this one
not_its : (m : World) (place who : ℕ) (lane : PublisherLaneState) (slot : ℕ) → slice_get m.publishers who ≡ Some lane
    → (who ≡ place → ⊥) → LoansStand m → IsOf lane slot → IsLoanAt m place slot → ⊥
not_its m place who lane slot found other l own loan = other (only_one m place who slot loan lane l found own.0 own.1)

-- a publisher begins a call
begins : (m : World) (sent : ℕ → List ℕ) (place : ℕ) (c : Call) (at : Option PublisherLaneState) → slice_get m.publishers place ≡ at
    → publisher_fits_at at (Begin c) ≡ true → IsWithin m → LoansStand m → UsesKept m → AllSent m sent
    → AllSent (publisher_begins m place c at) (λ slot. last_in (sent slot) (sent_by m place c at) slot)
begins m sent place c None e fit w l u h = absurd (cc fit)
begins m sent place c (Some own) e fit w l u h = λ who lane found. elim (eqb_tells who place) [
  | inl same ↦
      let now : lane ≡ publisher_begun m.moments c own
      = set_is m.publishers place who own (publisher_begun m.moments c own) lane e same.1 found in
      let is : IsPublisher m.table.sizes own = all_at (IsPublisher m.table.sizes) m.publishers place own e w.publishers in
      subst (LaneSent m.table (λ slot. last_in (sent slot) (sent_by m place c (Some own)) slot)) (sym now)
      (lane_begins m sent place c own e fit l u ((publishers_stay_within m.table.sizes own is).0 m.moments c fit) (h place own e))
  | inr other ↦
      let was : slice_get m.publishers who ≡ Some lane
      = sym (set_other m.publishers place who (publisher_begun m.moments c own) other.1) ∙ found in
      lane_stays m m.table sent (λ slot. last_in (sent slot) (sent_by m place c (Some own)) slot) who lane was w l u refl
      (λ slot own_slot. record {
        words = λ word is. refl;
        same = begun_other m place c (Some own) (sent slot) slot e fit (not_its m place who lane slot was other.1 l own_slot);
      })
      (h who lane was)
]

-- a publisher goes on
goes_on : (m n : World) (sent : ℕ → List ℕ) (place : ℕ) (at : Option PublisherLaneState) → slice_get m.publishers place ≡ at
    → publisher_fits_at at GoOn ≡ true → IsWithin m → LoansStand m → UsesKept m → StoresHold m → n.table.sizes ≡ m.table.sizes
    → SlotsStay m (Publisher place) n → ((own : PublisherLaneState) → at ≡ Some own → SparedBy m n.table own)
    → n.publishers ≡ (publisher_goes_on m place at).publishers → AllSent m sent → AllSent n sent
goes_on m n sent place None e fit w l u stores sizes stay spared lanes h = absurd (cc fit)
goes_on m n sent place (Some own) e fit w l u stores sizes stay spared lanes h = λ who lane found.
    let got : slice_get (set m.publishers place (publisher_after (publisher_given m.table own) own)) who ≡ Some lane
    = ap (λ (xs : List PublisherLaneState). slice_get xs who) (sym lanes) ∙ found in
    elim (eqb_tells who place) [
      | inl same ↦
          let now : lane ≡ publisher_after (publisher_given m.table own) own
          = set_is m.publishers place who own (publisher_after (publisher_given m.table own) own) lane e same.1 got in
          subst (LaneSent n.table sent) (sym now)
          (lane_goes_on m n.table sent place own (publisher_given m.table own) e w l u stores sizes (spared own refl) stay
          (h place own e))
      | inr other ↦
          let was : slice_get m.publishers who ≡ Some lane
          = sym (set_other m.publishers place who (publisher_after (publisher_given m.table own) own) other.1) ∙ got in
          lane_stays m n.table sent sent who lane was w l u sizes
          (λ slot own_slot. record
          { words = λ word is. stay slot word is (not_its m place who lane slot was other.1 l own_slot); same = refl }) (h who lane was)
    ]

-- a subscriber steps
receives : (m n : World) (sent : ℕ → List ℕ) (place : ℕ) → IsWithin m → LoansStand m → UsesKept m → n.table.sizes ≡ m.table.sizes
    → SlotsStay m (Subscriber place) n → n.publishers ≡ m.publishers → AllSent m sent → AllSent n sent
receives m n sent place w l u sizes stay lanes h = λ who lane found.
    let was : slice_get m.publishers who ≡ Some lane = ap (λ (xs : List PublisherLaneState). slice_get xs who) (sym lanes) ∙ found in
    lane_stays m n.table sent sent who lane was w l u sizes
    (λ slot own. record { words = λ word is. stay slot word is (λ none. none); same = refl }) (h who lane was)

publishers_same : (m : World) (place : ℕ) (at : Option PublisherLaneState)
    → (publisher_goes_on (placed m (Publisher place)) place at).publishers ≡ (publisher_goes_on m place at).publishers
publishers_same m place None = refl
publishers_same m place (Some lane) = refl

-- what a step of a publisher spares, by its own access
spares : (m : World) (place : ℕ) (n : World) (at : Option PublisherLaneState) → slice_get m.publishers place ≡ at
    → OthersHold m.table (publisher_access at) n.table → (own : PublisherLaneState) → at ≡ Some own → SparedBy m n.table own
spares m place n None e holds own is = absurd (cc is)
spares m place n (Some lane) e holds own is
    = λ slot word there not. holds (Slot slot word) there
    (λ may. not (subst (λ (x : PublisherLaneState). MayChange (publisher_next x.port.call) (Slot slot word)) (some_is lane own is) may))

pub step_sent : (m : World) (sent : ℕ → List ℕ) (party : Party) (step : Move) → fits m party step ≡ true → IsKept m → m.moments ≤ 2 ^ 63
    → AllSent m sent
    → AllSent (happens m party step) (λ slot. last_in (sent slot) (begun_messages m party step) slot)
step_sent m sent (Publisher place) (Begin c) fit k few h
    = begins m sent place c (slice_get m.publishers place) refl fit k.within k.loans (k.uses few) h
step_sent m sent (Publisher place) GoOn fit k few h =
    let made = step_made m (Publisher place) GoOn fit (ends m (Publisher place) GoOn) refl in
    let apart = steps_apart m (Publisher place) GoOn made.0 (happens m (Publisher place) GoOn) made.1 k.within in
    goes_on m (happens m (Publisher place) GoOn) sent place (slice_get m.publishers place) refl fit k.within k.loans (k.uses few)
    (k.left few) (happens_ends m (Publisher place) GoOn fit k.returns).sizes
    (slots_stay m (Publisher place) GoOn made.0 (happens m (Publisher place) GoOn) k.loans apart)
    (spares m place (happens m (Publisher place) GoOn) (slice_get m.publishers place) refl apart.words)
    (publishers_same m place (slice_get m.publishers place)) h
step_sent m sent (Subscriber place) step fit k few h =
    let made = step_made m (Subscriber place) step fit (ends m (Subscriber place) step) refl in
    let apart = steps_apart m (Subscriber place) step made.0 (happens m (Subscriber place) step) made.1 k.within in
    receives m (happens m (Subscriber place) step) sent place k.within k.loans (k.uses few)
    (happens_ends m (Subscriber place) step fit k.returns).sizes
    (slots_stay m (Subscriber place) step made.0 (happens m (Subscriber place) step) k.loans apart) apart.parties.0 h
