-- A number is written in the slot of a loan, whose send begins.
use Rattle.std.proofs.Common.{arith, ◌≡◌, ◌==◌, ◌<◌, ◌∷◌, [], ℕ, List, Bool, true, false, length, get_or, set, map, slice_get}
use Rattle.std.proofs.Common.{Option, None, Some, if◌then◌else◌, refl, sym, subst, ap, ◌∙◌}
use Rattle.std.proofs.Math.Dec.{eqb}
use Rattle.std.proofs.lemmas.List.{get_or-set_same, length-set}
use Rattle.std.proofs.lemmas.List.Folds.{find_at}
use Rattle.iox_domain_slots.specs.Uses.{Uses, begun}
use Rattle.iox_domain_slots.specs.Loans.{place_in as place_among}
use Rattle.iox_domain_slots.specs.Counting.{times}
use Rattle.iox_domain_ports.specs.Payloads.{payload_at}
use Rattle.iox_domain_ports.specs.Messages.{Loan, sent_as}
use Rattle.iox_domain_ports.specs.MessagesSending.{SenderState, Store, IsSender, seen_sender, with_uses, message_in, is_written_loan}
use Rattle.iox_domain_ports.specs.MessagesSending.{loan_at, place_in}
use Rattle.iox_domain_ports.specs.declared.messages.slot_header.SlotHeader.{SlotHeader}
use Rattle.iox_domain_ports.proofs.InSlot.{lent_there, place_there, places_are, written_there}
use Rattle.iox_domain_ports.proofs.Kept.{begin_kept}
use Rattle.iox_domain_ports.proofs.MessagesWriting.{ChangedAt, header_changed, change_seen}
use Rattle.iox_domain_ports.proofs.Readings.{begin_seen}
use Rattle.iox_domain_ports.proofs.Seen.{loan_below, loan_lent, none_sends}

-- a header with another number
abbrev pub with_number : {U : Type 0} → Option ℕ → SlotHeader U → SlotHeader U
with_number sequence header = record header { sequence = sequence }

-- a number was written in a slot, and nothing else
pub record NumberPut {T U : Type 0} (old : Store T U) (slot : ℕ) (sequence : Option ℕ) (new : Store T U) : Type 0 where
  pub headers : new.headers ≡ set old.headers slot (with_number sequence (get_or old.headers slot old.blank))
  pub values : new.values ≡ old.values
  pub written : new.written ≡ old.written
  pub blank : new.blank ≡ old.blank

-- no loan changes by it, and no message in another slot
number_written : {T U : Type 0} (old new : Store T U) (slot : ℕ) (sequence : Option ℕ) → slot < length old.headers
    → NumberPut old slot sequence new → ChangedAt old slot (λ loan. loan) new
number_written old new slot sequence below put =
    header_changed old new slot (λ loan. loan) (with_number sequence (get_or old.headers slot old.blank)) below (λ vs. refl) put.headers
    put.values put.written put.blank

-- loans that are changed into themselves
unchanged : {T U : Type 0} (slot : ℕ) (loans : List (Loan T U))
    → map (λ loan. if eqb slot loan.slot then loan else loan) loans ≡ loans
unchanged slot [] = refl
unchanged {T} {U} slot (loan ∷ loans) =
    ap (λ one. one ∷ map (λ loan. if eqb slot loan.slot then loan else loan) loans) (either (eqb slot loan.slot))
    ∙ ap (λ rest. loan ∷ rest) (unchanged slot loans)
  where
    either : (same : Bool) → ◌≡◌ {A = Loan T U} (if same then loan else loan) loan
    either true = refl
    either false = refl

-- so nothing that is seen changes where only a loan stands in the slot
number_seen : {T U : Type 0} (old new : Store T U) (uses : Uses ℕ ℕ) (state : SenderState T U) (slot : ℕ) (sequence : Option ℕ)
    → seen_sender old uses ≡ state → IsSender old uses → 0 < times slot uses.loans → slot < length old.headers
    → NumberPut old slot sequence new → seen_sender new uses ≡ state
number_seen old new uses state slot sequence is sender lent below put =
    change_seen old new uses state slot (λ loan. loan) is sender lent (number_written old new slot sequence below put)
    ∙ ap (λ loans. with_uses (record state.uses { loans = loans }) state) (unchanged slot state.uses.loans)

-- what holds of a publisher holds then
number_kept : {T U : Type 0} (old new : Store T U) (uses : Uses ℕ ℕ) (slot : ℕ) (sequence : Option ℕ) → IsSender old uses
    → NumberPut old slot sequence new → IsSender new uses
number_kept old new uses slot sequence sender put = record {
  values = ap (λ v. length v.payloads) put.values ∙ sender.values;
  written = ap (λ v. length v.payloads) put.written ∙ sender.written;
  headers = ap length put.headers ∙ length-set old.headers slot (with_number sequence (get_or old.headers slot old.blank)) ∙ sender.headers;
  values_size = ap (λ v. v.size) put.values ∙ sender.values_size;
  written_size = ap (λ v. v.size) put.written ∙ sender.written_size;
  room = ap (λ v. v.room) put.written ∙ sender.room ∙ sym (ap (λ v. v.room) put.values);
  segments = ap (λ v. v.segments) put.written ∙ sender.segments ∙ sym (ap (λ v. v.segments) put.values);
  most_segments = ap (λ v. v.most_segments) put.written ∙ sender.most_segments ∙ sym (ap (λ v. v.most_segments) put.values);
  marks = λ k. ap (λ v. length (payload_at k v)) put.written ∙ sender.marks k ∙ sym (ap (λ v. length (payload_at k v)) put.values);
  sole = sender.sole;
  within = sender.within;
}

-- the number stands in the slot
number_stands : {T U : Type 0} (old new : Store T U) (slot : ℕ) (sequence : Option ℕ) → slot < length old.headers
    → NumberPut old slot sequence new → (message_in new slot).sequence ≡ sequence
number_stands old new slot sequence below put =
    ap (λ headers. (get_or headers slot new.blank).sequence) put.headers
    ∙ ap (λ header. header.sequence)
    (get_or-set_same old.headers slot (with_number sequence (get_or old.headers slot old.blank)) new.blank below)

-- the send of a written loan begins, once its number was written in its slot
pub begins_numbered : {T U : Type 0} (old new : Store T U) (uses after : Uses ℕ ℕ) (state : SenderState T U) (slot : ℕ)
    (sequence : Option ℕ) → seen_sender old uses ≡ state → IsSender old uses → state.uses.sending ≡ None
    → is_written_loan (loan_at slot state.uses) ≡ true → NumberPut old slot sequence new
    → after ≡ begun (place_among slot uses.loans) slot uses
    → IsSender new after × ((loan : Loan T U) → loan_at slot state.uses ≡ Some loan
    → seen_sender new after ≡ with_uses (begun (place_in slot state.uses) (sent_as sequence loan) state.uses) state)
begins_numbered old new uses after state slot sequence is sender alone written put made =
    let there = written_there slot state.uses written in
    let place = place_there slot uses.loans (lent_there old uses state slot is ∙ there) in
    let same = places_are old uses state slot is in
    let below : slot < length old.headers = omega (arith, loan_below old uses state slot is sender there, sender.headers) in
    let kept = number_kept old new uses slot sequence sender put in
    let seen = number_seen old new uses state slot sequence is sender (loan_lent old uses state slot is there) below put in
    let begins : after ≡ begun (place_among slot uses.loans) (get_or uses.loans (place_among slot uses.loans) 0) uses
    = made ∙ ap (λ at. begun (place_among slot uses.loans) at uses) (sym place.1) in (
      subst (IsSender new) (sym begins)
          (begin_kept new uses (place_among slot uses.loans) place.0 (none_sends old uses state is alone) kept),
      λ loan found.
          begin_seen new uses after state (place_among slot uses.loans) sequence loan seen kept
          (ap (λ at. (message_in new at).sequence) place.1 ∙ number_stands old new slot sequence below put)
          (ap (slice_get state.uses.loans) same ∙ sym (find_at (λ loan. loan.slot == slot) state.uses.loans) ∙ found)
          (sym (ap is_written_loan found) ∙ written) begins
          ∙ ap (λ at. with_uses (begun at (sent_as sequence loan) state.uses) state) same,
    )
