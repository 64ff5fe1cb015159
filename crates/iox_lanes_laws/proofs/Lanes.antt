-- What of each publisher stands in its slots: what it sends is its message, and what is used holds its message.
use Rattle.std.proofs.Common.{ℕ, ◌≡◌, ◌+◌, ◌<◌, ◌≤◌, ◌&&◌, Bool, true, false, List, length, slice_get, Some, refl, sym, ◌∙◌, ap, subst}
use Rattle.std.proofs.Common.{inl, inr, arith}
use Rattle.iox_lanes_machine.specs.LanesBase.Numbers.{IsWord}
use Rattle.iox_lanes_machine.specs.LanesBase.Table.{TableWords, held_by}
use Rattle.iox_lanes_machine.specs.LanesBase.declared.words.word.SharedWord.TheVariants.{Slot}
use Rattle.iox_lanes_machine.specs.LanesBase.declared.words.word.SlotWord.{SlotWord}
use Rattle.iox_lanes_machine.specs.LanesBase.declared.words.word.SlotWord.TheVariants.{Payload}
use Rattle.iox_lanes_machine.specs.LanesParties.PublisherKeeping.{loan_of}
use Rattle.iox_lanes_machine.specs.LanesParties.declared.publisher.slot_book.LoanMark as mark_type
use Rattle.iox_lanes_machine.specs.LanesParties.declared.publisher.slot_book.LoanMark.TheVariants as mark
use Rattle.iox_lanes_machine.specs.LanesParties.Parties.{PublisherLaneState, is_out, is_written, publisher_fits, publisher_begun, head_of}
use Rattle.iox_lanes_machine.specs.LanesParties.Within.{IsPublisher}
use Rattle.iox_lanes_machine.specs.LanesParties.declared.call.Call.{Call}
use Rattle.iox_lanes_machine.specs.LanesParties.declared.call.Call.TheVariants as call
use Rattle.iox_lanes_machine.specs.LanesParties.declared.call.Move.TheVariants.{Begin}
use Rattle.iox_lanes_machine.specs.LanesBase.Publishing.{publisher_is_idle}
use Rattle.iox_lanes_machine.specs.LedgerUses.{entry, UsesCounted}
use Rattle.iox_lanes_machine.proofs.Changes.{loan_lacks}
use Rattle.iox_lanes_machine.proofs.Entries.{entry_own, refers_own}
use Rattle.iox_lanes_machine.proofs.LanesParties.Rings.{all_at}
use Rattle.iox_lanes_machine.specs.Kept.{IsWithin}
use Rattle.iox_lanes_machine.specs.Slots.{IsLoanAt, LoansStand}
use Rattle.iox_lanes_machine.specs.Uses.{PublisherUses, UsesKept}
use Rattle.iox_lanes_machine.specs.World.{World}
use Rattle.iox_lanes_machine.proofs.Alone.{only_one}
use Rattle.iox_lanes_machine.proofs.Ends.{some_is}
use Rattle.iox_lanes_laws.specs.Messages.{message_of, sent_by, last_in}
use Rattle.iox_lanes_laws.proofs.MessagesBooks.{IsUsed}
use Rattle.iox_lanes_laws.proofs.Stages.{sending, sends_own, loan_begins, write_sends, head_sends}
use Rattle.iox_lanes_laws.proofs.Words.{Holds, IsSent, holds_stays, sent_stays, message_sent, last_same, last_other}

-- of a publisher, for the words that each slot was sent with
pub record LaneSent (table : TableWords) (sent : ℕ → List ℕ) (lane : PublisherLaneState) : Type 0 where
  pub stage : (slot : ℕ) → sending lane.port.call ≡ Some slot → IsSent table (sent slot) lane.port.head slot
  pub used : (slot : ℕ) → IsUsed (length lane.port.routes) lane.port.book slot → Holds table slot (sent slot)

-- of all
abbrev pub AllSent : World → (ℕ → List ℕ) → Type 0
AllSent m sent = (place : ℕ) (lane : PublisherLaneState) → slice_get m.publishers place ≡ Some lane → LaneSent m.table sent lane

-- a slot of a publisher
abbrev pub IsOf : PublisherLaneState → ℕ → Type 0
IsOf lane slot = (lane.port.book.first ≤ slot) × (slot < lane.port.book.first + length lane.port.book.loans)

-- what a publisher has a use for is its own
pub used_own : (connections : ℕ) (lane : PublisherLaneState) (slot : ℕ) → UsesCounted connections lane.port.book
    → IsUsed connections lane.port.book slot → IsOf lane slot
used_own connections lane slot k (inl some) =
    let clause = k.each slot in
    let used : 0 < entry lane.port.book.first lane.port.book.uses slot 0 = omega (arith, clause.counted, some) in
    let own = entry_own lane.port.book.first slot lane.port.book.uses 0 (λ none. absurd (omega (arith, none, used))) in
    omega (arith, own.0, own.1, k.loans_each)
used_own connections lane slot k (inr at) =
    let own = refers_own lane.port.book.first (length lane.port.book.uses) lane.port.book.referred at.0 slot at.2 in
    omega (arith, own.0, own.1, k.loans_each)

-- a slot that a publisher has a use for is no loan of its own
pub used_not_out : (connections : ℕ) (lane : PublisherLaneState) (slot : ℕ) → UsesCounted connections lane.port.book
    → IsUsed connections lane.port.book slot → is_out (loan_of slot lane.port.book) ≡ true → ⊥
used_not_out connections lane slot k (inl some) out =
    let none = ((k.each slot).alone out).0 in
    absurd (omega (arith, none, some))
used_not_out connections lane slot k (inr at) out = absurd (cc (sym at.2 ∙ loan_lacks connections slot lane.port.book out k at.0 at.1))

-- nor of any publisher
pub used_no_loan : (m : World) (who place : ℕ) (lane : PublisherLaneState) (slot : ℕ) → slice_get m.publishers who ≡ Some lane
    → LoansStand m → UsesKept m → IsUsed (length lane.port.routes) lane.port.book slot → IsLoanAt m place slot → ⊥
used_no_loan m who place lane slot found l u used loan =
    let uses : PublisherUses m lane = u.publishers who lane found in
    let own = used_own (length lane.port.routes) lane slot uses.counted used in
    let same : who ≡ place = only_one m place who slot loan lane l found own.0 own.1 in
    let is : loan.lane ≡ lane = some_is loan.lane lane (sym loan.found ∙ ap (slice_get m.publishers) (sym same) ∙ found) in
    used_not_out (length lane.port.routes) lane slot uses.counted used
    (subst (λ (x : PublisherLaneState). is_out (loan_of slot x.port.book) ≡ true) is loan.out)

-- what a publisher sends is its own
pub stage_own : (m : World) (who : ℕ) (lane : PublisherLaneState) (slot : ℕ) → slice_get m.publishers who ≡ Some lane → LoansStand m
    → UsesKept m → sending lane.port.call ≡ Some slot → IsOf lane slot
stage_own m who lane slot found l u at =
    let uses : PublisherUses m lane = u.publishers who lane found in
    sends_own (length lane.port.routes) lane.port.book lane.port.call slot at (l.stages who lane found) uses.lacking uses.counted

-- a slot of a publisher is one of the service
pub own_there : (m : World) (who : ℕ) (lane : PublisherLaneState) (slot : ℕ) → slice_get m.publishers who ≡ Some lane → IsWithin m
    → IsOf lane slot → slot < m.table.sizes.slots
own_there m who lane slot found w own =
    let is : IsPublisher m.table.sizes lane = all_at (IsPublisher m.table.sizes) m.publishers who lane found w.publishers in
    omega (arith, own.1, is.slots)

-- a loan is one of the service
pub loan_there : (m : World) (place loan : ℕ) (lane : PublisherLaneState) → slice_get m.publishers place ≡ Some lane
    → is_out (loan_of loan lane.port.book) ≡ true → IsWithin m → loan < m.table.sizes.slots
loan_there m place loan lane found out w
    = own_there m place lane loan found w
    (entry_own lane.port.book.first loan lane.port.book.loans mark.No (λ none. cc (sym out ∙ ap is_out none)))

-- of a slot nothing changed: neither a word, nor what it was sent with
pub record IsUntouched (t u : TableWords) (sent after : ℕ → List ℕ) (slot : ℕ) : Type 0 where
  pub words : (word : SlotWord) → IsWord t.sizes (Slot slot word) → held_by u (Slot slot word) ≡ held_by t (Slot slot word)
  pub same : after slot ≡ sent slot

-- a publisher that stands where it stood, and of whose slots nothing changed
pub lane_stays : (m : World) (u : TableWords) (sent after : ℕ → List ℕ) (who : ℕ) (lane : PublisherLaneState)
    → slice_get m.publishers who ≡ Some lane → IsWithin m → LoansStand m → UsesKept m → u.sizes ≡ m.table.sizes
    → ((slot : ℕ) → IsOf lane slot → IsUntouched m.table u sent after slot) → LaneSent m.table sent lane → LaneSent u after lane
lane_stays m u sent after who lane found w l uses e untouched h = record {
  stage = λ slot at.
      let own = stage_own m who lane slot found l uses at in
      let is = untouched slot own in
      let there = own_there m who lane slot found w own in
      subst (λ (words : List ℕ). IsSent u words lane.port.head slot) (sym is.same)
      (sent_stays m.table u (sent slot) lane.port.head slot e (λ word below. is.words (Payload word) (there, below)) (h.stage slot at));
  used = λ slot at.
      let own = used_own (length lane.port.routes) lane slot (uses.publishers who lane found).counted at in
      let is = untouched slot own in
      subst (Holds u slot) (sym is.same) (holds_stays m.table u slot (sent slot) e (own_there m who lane slot found w own) is.words
      (h.used slot at));
}

-- no other call than a send begins with a message
never : (b : Bool) → b && false ≡ true → ⊥
never true h = cc h
never false h = cc h

both : (a b : Bool) → a && b ≡ true → b ≡ true
both true b h = h
both false b h = absurd (cc h)

written_out : (m : mark_type.LoanMark) → is_written m ≡ true → is_out m ≡ true
written_out mark.No h = absurd (cc h)
written_out mark.Lent h = refl
written_out mark.Written h = refl

-- the loan of a send that begins
pub begun_loan : (m : World) (place loan : ℕ) (lane : PublisherLaneState) → slice_get m.publishers place ≡ Some lane
    → publisher_fits lane (Begin (call.Send loan)) ≡ true → IsLoanAt m place loan
begun_loan m place loan lane found fit
    = record {
      lane = lane;
      found = found;
      out
          = written_out (loan_of loan lane.port.book)
          (both (publisher_is_idle lane.port.call) (is_written (loan_of loan lane.port.book)) fit);
    }

-- a publisher that begins a call
pub lane_begins : (m : World) (sent : ℕ → List ℕ) (place : ℕ) (c : Call) (lane : PublisherLaneState)
    → slice_get m.publishers place ≡ Some lane → publisher_fits lane (Begin c) ≡ true → LoansStand m → UsesKept m
    → IsPublisher m.table.sizes (publisher_begun m.moments c lane) → LaneSent m.table sent lane
    → LaneSent m.table (λ slot. last_in (sent slot) (sent_by m place c (Some lane)) slot) (publisher_begun m.moments c lane)
lane_begins m sent place call.LoanUninit lane found fit l u is h = record {
  stage = λ slot at. absurd (cc (sym (loan_begins lane.port.routes) ∙ at));
  used = h.used;
}
lane_begins m sent place (call.Write loan payload user_header) lane found fit l u is h = record {
  stage = λ slot at. absurd (cc (sym (write_sends loan 0 (slice_get payload.items 0)) ∙ at));
  used = h.used;
}
lane_begins m sent place (call.Send loan) lane found fit l u is h = record {
  stage = λ slot at.
      let same : loan ≡ slot = some_is loan slot (sym (head_sends loan 0 (slice_get (head_of loan lane) 0)) ∙ at) in
      subst (λ (words : List ℕ). IsSent m.table words (head_of loan lane) slot)
      (sym (last_same (sent slot) (message_of m.table m.moments place loan lane) slot same))
      (subst (IsSent m.table (message_of m.table m.moments place loan lane).words (head_of loan lane)) same
      (message_sent m.table loan (head_of loan lane) is.head));
  used = λ slot at.
      let not : loan ≡ slot → ⊥ = λ same. used_no_loan m place place lane slot found l u at
      (subst (IsLoanAt m place) same (begun_loan m place loan lane found fit)) in
      subst (Holds m.table slot) (sym (last_other (sent slot) (message_of m.table m.moments place loan lane) slot not)) (h.used slot at);
}
lane_begins m sent place (call.DropLoan loan) lane found fit l u is h = record {
  stage = λ slot at. absurd (cc at);
  used = h.used;
}
lane_begins m sent place call.Receive lane found fit l u is h = absurd (never (publisher_is_idle lane.port.call) fit)
lane_begins m sent place (call.Read sample) lane found fit l u is h = absurd (never (publisher_is_idle lane.port.call) fit)
lane_begins m sent place (call.Release sample) lane found fit l u is h = absurd (never (publisher_is_idle lane.port.call) fit)
