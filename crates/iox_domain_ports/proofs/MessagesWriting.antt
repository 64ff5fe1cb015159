-- A loan is written in its slot.
use Rattle.std.proofs.Common.{rules, arith, ◌≡◌, ◌≢◌, ◌+◌, ◌<◌, ◌∷◌, [], ◌&&◌, ◌||◌, ◌⊎◌, inl, inr, ℕ, zero, suc, Bool, true, false, cond}
use Rattle.std.proofs.Common.{if◌then◌else◌, List, length, get_or, set, map, replicate, is_some, Option, None, Some, refl, sym, ap, ◌∙◌}
use Rattle.std.specs.Option.{option_to_list}
use Rattle.std.specs.List.{list_any}
use Rattle.std.proofs.Math.Logic.{⊎_elim}
use Rattle.std.proofs.Math.Dec.{eqb}
use Rattle.std.proofs.lemmas.Bool.Decides.{eqb_tells}
use Rattle.std.proofs.lemmas.List.{get_or-set_same, get_or-set_other, set-get_or, length-set}
use Rattle.iox_domain_slots.specs.Uses.{Uses, held}
use Rattle.iox_domain_slots.specs.Counting.{times}
use Rattle.iox_domain_slots.proofs.Counts.{times_cons}
use Rattle.iox_domain_slots.proofs.Publishing.{in_use_times}
use Rattle.iox_domain_ports.specs.Payloads.{payload_at, with_payload}
use Rattle.iox_domain_ports.specs.Messages.{Message, Loan, write_value, write_all, write_user_header}
use Rattle.iox_domain_ports.specs.MessagesSending.{SenderState, Store, IsSender, seen_sender, sender_of, with_uses, uses_by, change_loan}
use Rattle.iox_domain_ports.specs.MessagesSending.{loan_in, message_in, masked}
use Rattle.iox_domain_ports.specs.declared.messages.slot_header.SlotHeader.{SlotHeader}
use Rattle.iox_domain_ports.proofs.Agreeing.{messages_agree, other_uses}
use Rattle.iox_domain_ports.proofs.Putting.{loan_of, message_of, other_payload, this_payload}

either : (a b : Bool) → a || b ≡ true → (a ≡ true) ⊎ (b ≡ true)
either true b is = inl refl
either false b is = inr is

both : (a b : Bool) → a && b ≡ true → (a ≡ true) × (b ≡ true)
both true true is = (refl, refl)
both true false is = search (rules, is)
both false b is = search (rules, is)

pub same_of : (slot x : ℕ) → eqb slot x ≡ true → slot ≡ x
same_of slot x is = ⊎_elim (λ same. same.1) (λ other. search (rules, is)) (eqb_tells slot x)

-- a loan that is seen in a slot is one that stands there
pub lent_at : {T U : Type 0} (store : Store T U) (slot : ℕ) (xs : List ℕ)
    → list_any (λ loan. eqb slot loan.slot) (map (loan_in store) xs) ≡ true → 0 < times slot xs
lent_at store slot [] is = search (rules, is)
lent_at store slot (x ∷ xs) is = ⊎_elim
    (λ here. omega (arith, times_cons slot x xs, ap {B = ℕ} (λ b. cond b 1 0) here))
    (λ later. omega (arith, times_cons slot x xs, lent_at store slot xs later))
    (either (eqb slot x) (list_any (λ loan. eqb slot loan.slot) (map (loan_in store) xs)) is)

-- a loan that is seen in a slot and passes a test is the one that stands there
pub test_at : {T U : Type 0} (store : Store T U) (slot : ℕ) (test : Loan T U → Bool) (xs : List ℕ)
    → list_any (λ loan. eqb slot loan.slot && test loan) (map (loan_in store) xs) ≡ true
    → (0 < times slot xs) × (test (loan_in store slot) ≡ true)
test_at store slot test [] is = search (rules, is)
test_at store slot test (x ∷ xs) is = ⊎_elim
    (λ here.
    let it = both (eqb slot x) (test (loan_in store x)) here in (
      omega (arith, times_cons slot x xs, ap {B = ℕ} (λ b. cond b 1 0) it.0),
      ap (λ k. test (loan_in store k)) (same_of slot x it.0) ∙ it.1,
    ))
    (λ later. let rest = test_at store slot test xs later in (omega (arith, times_cons slot x xs, rest.0), rest.1))
    (either (eqb slot x && test (loan_in store x)) (list_any (λ loan. eqb slot loan.slot && test loan) (map (loan_in store) xs)) is)

pub masked_length : {T : Type 0} (marks : List Bool) (values : List T) → length marks ≡ length values
    → length (masked marks values) ≡ length values
masked_length [] [] same = refl
masked_length [] (value ∷ values) same = absurd (omega (arith, same))
masked_length (mark ∷ marks) [] same = absurd (omega (arith, same))
masked_length (mark ∷ marks) (value ∷ values) same = ap suc (masked_length marks values (omega (arith, same)))

masked_set : {T : Type 0} (marks : List Bool) (values : List T) (place : ℕ) (value : T) → length marks ≡ length values
    → masked (set marks place true) (set values place value) ≡ set (masked marks values) place (Some value)
masked_set [] values place value same = refl
masked_set (mark ∷ marks) [] place value same = absurd (omega (arith, same))
masked_set (mark ∷ marks) (old ∷ values) zero value same = refl
masked_set (mark ∷ marks) (old ∷ values) (suc place) value same
    = ap (λ rest. (if mark then Some old else None) ∷ rest) (masked_set marks values place value (omega (arith, same)))

-- what a loan's slot has, has the loan
pub value_there : {T U : Type 0} (store : Store T U) (slot place : ℕ) (old : Uses ℕ ℕ) → IsSender store old
    → place < length (loan_in store slot).values
    → (place < length (payload_at slot store.values)) × (place < length (payload_at slot store.written))
value_there store slot place old is inside =
    let long = masked_length (payload_at slot store.written) (payload_at slot store.values) (is.marks slot) in
    (omega (arith, inside, long), omega (arith, inside, long, is.marks slot))

-- only what stands in one slot changed
pub record ChangedAt {T U : Type 0} (old : Store T U) (slot : ℕ) (change : Loan T U → Loan T U) (new : Store T U) : Type 0 where
  pub loans : (k : ℕ) → k ≢ slot → loan_in new k ≡ loan_in old k
  pub messages : (k : ℕ) → k ≢ slot → message_in new k ≡ message_in old k
  pub loan : loan_in new slot ≡ change (loan_in old slot)
  pub frame : (blank : SlotHeader U) (uses : Uses (Loan T U) (Message T U))
      → sender_of new.values blank uses ≡ sender_of old.values blank uses
  pub blank : new.blank ≡ old.blank

loans_changed : {T U : Type 0} (old new : Store T U) (slot : ℕ) (change : Loan T U → Loan T U) (xs : List ℕ) → ChangedAt old slot change new
    → map (loan_in new) xs ≡ map (λ loan. if eqb slot loan.slot then change loan else loan) (map (loan_in old) xs)
loans_changed old new slot change [] at = refl
loans_changed old new slot change (x ∷ xs) at =
    ap (λ loan. loan ∷ map (loan_in new) xs) (⊎_elim
    (λ same. rw same.0 (rw (sym same.1) at.loan))
    (λ other. rw other.0 (at.loans x (λ same. other.1 (sym same))))
    (eqb_tells slot x))
    ∙ ap (λ rest. (if eqb slot x then change (loan_in old x) else loan_in old x) ∷ rest) (loans_changed old new slot change xs at)

-- one loan is seen to change
pub change_seen : {T U : Type 0} (old new : Store T U) (uses : Uses ℕ ℕ) (state : SenderState T U) (slot : ℕ)
    (change : Loan T U → Loan T U) → seen_sender old uses ≡ state
    → IsSender old uses → 0 < times slot uses.loans → ChangedAt old slot change new
    → seen_sender new uses ≡ with_uses (change_loan slot change state.uses) state
change_seen old new uses state slot change is sender lent at =
    ap (λ loans. sender_of new.values new.blank (other_uses loans (message_in new) uses)) (loans_changed old new slot change uses.loans at)
    ∙ ap (λ others. sender_of new.values new.blank others)
    (messages_agree (map (λ loan. if eqb slot loan.slot then change loan else loan) (map (loan_in old) uses.loans)) (message_in new)
    (message_in old) uses
    (λ k used. at.messages k (apart k used)))
    ∙ at.frame new.blank (change_loan slot change (uses_by (loan_in old) (message_in old) uses))
    ∙ ap (λ blank. sender_of old.values blank (change_loan slot change (uses_by (loan_in old) (message_in old) uses))) at.blank
    ∙ ap (λ s. with_uses (change_loan slot change s.uses) s) is
  where
    apart : (k : ℕ) → 0 < times k (option_to_list uses.sending) + (times k uses.history + times k (held uses.connections)) → k ≢ slot
    apart k used same = absurd (omega (
      arith,
      used,
      lent,
      sender.sole slot lent,
      in_use_times uses slot,
      ap (λ j. times j (option_to_list uses.sending)) same,
      ap (λ j. times j uses.history) same,
      ap (λ j. times j (held uses.connections)) same,
    ))

-- other values and marks stand in a slot
values_changed : {T U : Type 0} (old new : Store T U) (slot : ℕ) (change : Loan T U → Loan T U) (values : List T) (marks : List Bool)
    → slot < length old.values.payloads → slot < length old.written.payloads
    → new.values ≡ with_payload slot values old.values → new.written ≡ with_payload slot marks old.written → new.headers ≡ old.headers
    → new.blank ≡ old.blank
    → loan_of slot (get_or old.headers slot old.blank) (masked marks values) ≡ change (loan_in old slot) → ChangedAt old slot change new
values_changed {T = T} old new slot change values marks below here values_are marks_are headers blank changes = record {
  loans = λ k apart.
      told k (masked (payload_at k new.written) (payload_at k new.values))
      ∙ ap (λ ms. loan_of k (get_or old.headers k old.blank) (masked ms (payload_at k new.values)))
      (other_payload old.written new.written slot k marks marks_are apart)
      ∙ ap (λ vs. loan_of k (get_or old.headers k old.blank) (masked (payload_at k old.written) vs))
      (other_payload old.values new.values slot k values values_are apart);
  messages = λ k apart.
      ap (λ hs. message_of k (get_or hs k new.blank) (payload_at k new.values)) headers
      ∙ ap (λ b. message_of k (get_or old.headers k b) (payload_at k new.values)) blank
      ∙ ap (λ vs. message_of k (get_or old.headers k old.blank) vs) (other_payload old.values new.values slot k values values_are apart);
  loan =
      told slot (masked (payload_at slot new.written) (payload_at slot new.values))
      ∙ ap (λ ms. loan_of slot (get_or old.headers slot old.blank) (masked ms (payload_at slot new.values)))
      (this_payload old.written new.written slot marks marks_are here)
      ∙ ap (λ vs. loan_of slot (get_or old.headers slot old.blank) (masked marks vs))
      (this_payload old.values new.values slot values values_are below)
      ∙ changes;
  frame = λ b uses. ap (λ v. sender_of v b uses) values_are;
  blank = blank;
}
  where
    told : (k : ℕ) (vs : List (Option T)) → loan_of k (get_or new.headers k new.blank) vs ≡ loan_of k (get_or old.headers k old.blank) vs
    told k vs = ap (λ hs. loan_of k (get_or hs k new.blank) vs) headers ∙ ap (λ b. loan_of k (get_or old.headers k b) vs) blank

-- a value is written in a slot
pub value_written : {T U : Type 0} (old new : Store T U) (slot place : ℕ) (value : T)
    → length (payload_at slot old.written) ≡ length (payload_at slot old.values)
    → slot < length old.values.payloads → slot < length old.written.payloads
    → new.values ≡ with_payload slot (set (payload_at slot old.values) place value) old.values
    → new.written ≡ with_payload slot (set (payload_at slot old.written) place true) old.written
    → new.headers ≡ old.headers → new.blank ≡ old.blank → ChangedAt old slot (write_value place value) new
value_written old new slot place value marks below here values written headers blank =
    values_changed old new slot (write_value place value) (set (payload_at slot old.values) place value)
    (set (payload_at slot old.written) place true) below here values written headers blank
    (ap (loan_of slot (get_or old.headers slot old.blank))
    (masked_set (payload_at slot old.written) (payload_at slot old.values) place value marks))

masked_all : {T : Type 0} (count : ℕ) (values : List T) → length values ≡ count → masked (replicate count true) values ≡ map Some values
masked_all zero [] long = refl
masked_all zero (value ∷ values) long = absurd (omega (arith, long))
masked_all (suc count) [] long = absurd (omega (arith, long))
masked_all (suc count) (value ∷ values) long = ap (λ rest. Some value ∷ rest) (masked_all count values (omega (arith, long)))

-- all values are written in a slot
pub all_written_at : {T U : Type 0} (old new : Store T U) (slot : ℕ) (values : List T)
    → length values ≡ length (payload_at slot old.written)
    → slot < length old.values.payloads → slot < length old.written.payloads
    → new.values ≡ with_payload slot values old.values
    → new.written ≡ with_payload slot (replicate (length (payload_at slot old.written)) true) old.written
    → new.headers ≡ old.headers → new.blank ≡ old.blank → ChangedAt old slot (write_all values) new
all_written_at old new slot values long below here values_are written headers blank =
    values_changed old new slot (write_all values) values (replicate (length (payload_at slot old.written)) true) below here values_are
    written headers blank
    (ap (loan_of slot (get_or old.headers slot old.blank)) (masked_all (length (payload_at slot old.written)) values long))

abbrev with_header : {U : Type 0} → SlotHeader U → U → SlotHeader U
with_header header user_header = record header { user_header = user_header }

pub same_with : {U : Type 0} (a b : SlotHeader U) (user_header : U) → a ≡ b → with_header a user_header ≡ with_header b user_header
same_with a b user_header same = ap (λ header. with_header header user_header) same

-- another header stands in a slot, of which a loan there tells as it is changed
pub header_changed : {T U : Type 0} (old new : Store T U) (slot : ℕ) (change : Loan T U → Loan T U) (header : SlotHeader U)
    → slot < length old.headers
    → ((values : List (Option T)) → loan_of slot header values ≡ change (loan_of slot (get_or old.headers slot old.blank) values))
    → new.headers ≡ set old.headers slot header → new.values ≡ old.values → new.written ≡ old.written → new.blank ≡ old.blank
    → ChangedAt old slot change new
header_changed old new slot change header below changes headers values written blank = record {
  loans = λ k apart.
      ap (λ hs. loan_of k (get_or hs k new.blank) (masked (payload_at k new.written) (payload_at k new.values))) headers
      ∙ ap (λ h. loan_of k h (masked (payload_at k new.written) (payload_at k new.values)))
      (get_or-set_other old.headers slot k header new.blank apart)
      ∙ ap (λ b. loan_of k (get_or old.headers k b) (masked (payload_at k new.written) (payload_at k new.values))) blank
      ∙ ap (λ w. loan_of k (get_or old.headers k old.blank) (masked (payload_at k w) (payload_at k new.values))) written
      ∙ ap (λ v. loan_of k (get_or old.headers k old.blank) (masked (payload_at k old.written) (payload_at k v))) values;
  messages = λ k apart.
      ap (λ hs. message_of k (get_or hs k new.blank) (payload_at k new.values)) headers
      ∙ ap (λ h. message_of k h (payload_at k new.values)) (get_or-set_other old.headers slot k header new.blank apart)
      ∙ ap (λ b. message_of k (get_or old.headers k b) (payload_at k new.values)) blank
      ∙ ap (λ v. message_of k (get_or old.headers k old.blank) (payload_at k v)) values;
  loan =
      ap (λ hs. loan_of slot (get_or hs slot new.blank) (masked (payload_at slot new.written) (payload_at slot new.values))) headers
      ∙ ap (λ h. loan_of slot h (masked (payload_at slot new.written) (payload_at slot new.values)))
      (get_or-set_same old.headers slot header new.blank below)
      ∙ changes (masked (payload_at slot new.written) (payload_at slot new.values))
      ∙ ap (λ w. change (loan_of slot (get_or old.headers slot old.blank)
      (masked (payload_at slot w) (payload_at slot new.values)))) written
      ∙ ap (λ v. change (loan_of slot (get_or old.headers slot old.blank) (masked (payload_at slot old.written) (payload_at slot v))))
      values;
  frame = λ b uses. ap (λ v. sender_of v b uses) values;
  blank = blank;
}

-- a user header is written in a slot
pub header_written : {T U : Type 0} (old new : Store T U) (slot : ℕ) (header : SlotHeader U) (user_header : U) → slot < length old.headers
    → header ≡ record (get_or old.headers slot old.blank) { user_header = user_header }
    → new.headers ≡ set old.headers slot header → new.values ≡ old.values → new.written ≡ old.written → new.blank ≡ old.blank
    → ChangedAt old slot (write_user_header user_header) new
header_written old new slot header user_header below made headers values written blank =
    header_changed old new slot (write_user_header user_header) header below (λ vs. ap (λ h. loan_of slot h vs) made) headers values written
    blank

-- what holds of a publisher holds after other values and as many marks were put into a slot
pub values_kept : {T U : Type 0} (old new : Store T U) (uses : Uses ℕ ℕ) (slot : ℕ) (values : List T) (marks : List Bool)
    → IsSender old uses → slot < uses.first + uses.size
    → new.values ≡ with_payload slot values old.values → new.written ≡ with_payload slot marks old.written → new.headers ≡ old.headers
    → length marks ≡ length values → IsSender new uses
values_kept old new uses slot values marks is below values_are marks_are headers long = record {
  values = ap (λ v. length v.payloads) values_are ∙ length-set old.values.payloads slot values ∙ is.values;
  written = ap (λ v. length v.payloads) marks_are ∙ length-set old.written.payloads slot marks ∙ is.written;
  headers = ap length headers ∙ is.headers;
  values_size = ap (λ v. v.size) values_are ∙ is.values_size;
  written_size = ap (λ v. v.size) marks_are ∙ is.written_size;
  room = ap (λ v. v.room) marks_are ∙ is.room ∙ sym (ap (λ v. v.room) values_are);
  segments = ap (λ v. v.segments) marks_are ∙ is.segments ∙ sym (ap (λ v. v.segments) values_are);
  most_segments = ap (λ v. v.most_segments) marks_are ∙ is.most_segments ∙ sym (ap (λ v. v.most_segments) values_are);
  marks = λ k. ⊎_elim (λ same. rw same.1 here) (λ other. there k other.1) (eqb_tells k slot);
  sole = is.sole;
  within = is.within;
}
  where
    here : length (payload_at slot new.written) ≡ length (payload_at slot new.values)
    here = ap length (this_payload old.written new.written slot marks marks_are (omega (arith, below, is.written)))
        ∙ long ∙ sym (ap length (this_payload old.values new.values slot values values_are (omega (arith, below, is.values))))

    there : (k : ℕ) → k ≢ slot → length (payload_at k new.written) ≡ length (payload_at k new.values)
    there k apart = ap length (other_payload old.written new.written slot k marks marks_are apart) ∙ is.marks k
        ∙ sym (ap length (other_payload old.values new.values slot k values values_are apart))

-- a value is written exactly where its mark is set
pub marked : {T : Type 0} (marks : List Bool) (values : List T) (place : ℕ) → length marks ≡ length values
    → is_some (get_or (masked marks values) place None) ≡ get_or marks place false
marked [] values place same = refl
marked (mark ∷ marks) [] place same = absurd (omega (arith, same))
marked (true ∷ marks) (value ∷ values) zero same = refl
marked (false ∷ marks) (value ∷ values) zero same = refl
marked (mark ∷ marks) (value ∷ values) (suc place) same = marked marks values place (omega (arith, same))

pub marked_within : (marks : List Bool) (place : ℕ) → get_or marks place false ≡ true → place < length marks
marked_within [] place on = search (rules, on)
marked_within (mark ∷ marks) zero on = omega arith
marked_within (mark ∷ marks) (suc place) on = omega (arith, marked_within marks place on)

-- a written value is written again in a slot
pub value_changed : {T U : Type 0} (old new : Store T U) (slot place : ℕ) (value : T)
    → length (payload_at slot old.written) ≡ length (payload_at slot old.values)
    → slot < length old.values.payloads → slot < length old.written.payloads → get_or (payload_at slot old.written) place false ≡ true
    → new.values ≡ with_payload slot (set (payload_at slot old.values) place value) old.values
    → new.written ≡ old.written → new.headers ≡ old.headers → new.blank ≡ old.blank → ChangedAt old slot (write_value place value) new
value_changed old new slot place value marks below here on values written headers blank =
    value_written old new slot place value marks below here values
    (written ∙ sym (ap (λ ms. with_payload slot ms old.written) still ∙ again)) headers blank
  where
    still : set (payload_at slot old.written) place true ≡ payload_at slot old.written
    still = ap (set (payload_at slot old.written) place) (sym on) ∙ set-get_or (payload_at slot old.written) place false

    again : with_payload slot (payload_at slot old.written) old.written ≡ old.written
    again = ap (λ payloads. record old.written { payloads = payloads }) (set-get_or old.written.payloads slot [])
