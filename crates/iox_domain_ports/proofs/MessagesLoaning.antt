-- A loan is made in a slot that contains nothing in use.
use Rattle.std.proofs.Common.{arith, ◌≡◌, ◌≢◌, ◌+◌, ◌<◌, ◌∷◌, [], ℕ, zero, suc, Bool, false, List, length, get_or, set, replicate, None}
use Rattle.std.proofs.Common.{Some, refl, sym, subst, ap, ◌∙◌}
use Rattle.std.proofs.Math.Logic.{⊎_elim}
use Rattle.std.proofs.Math.Dec.{eqb}
use Rattle.std.proofs.lemmas.Bool.Decides.{eqb_tells}
use Rattle.std.proofs.lemmas.List.{get_or-set_same, length-set, length-replicate}
use Rattle.iox_domain_slots.specs.Uses.{Uses, in_use, loaned}
use Rattle.iox_domain_slots.specs.Counting.{times, LoanUse}
use Rattle.iox_domain_slots.proofs.Counts.{one, times_end, one_same, one_other}
use Rattle.iox_domain_slots.proofs.Publishing.{in_use_times}
use Rattle.iox_domain_ports.specs.Payloads.{PayloadsState, payload_at, with_payload}
use Rattle.iox_domain_ports.specs.Messages.{Message, Loan, new_loan}
use Rattle.iox_domain_ports.specs.MessagesSending.{SenderState, Store, IsSender, LoanMade, seen_sender, sender_of, slots_of, with_uses}
use Rattle.iox_domain_ports.specs.MessagesSending.{uses_by, loan_in, message_in, masked}
use Rattle.iox_domain_ports.proofs.Agreeing.{uses_agree, slots_seen}
use Rattle.iox_domain_ports.proofs.Naming.{loaned_by}
use Rattle.iox_domain_ports.proofs.Putting.{SlotPut, other_payload, this_payload, loan_of, loan_stays, message_stays}

-- no loan is made
pub none_made : {T U : Type 0} (store : Store T U) (old new : Uses ℕ ℕ) (state : SenderState T U) (values elements : ℕ)
    → seen_sender store old ≡ state
    → LoanUse old None new → LoanMade state values elements None (seen_sender store new)
none_made store old new state values elements is loan = (
  (λ slot low high.
      let used : 0 < times slot (in_use old)
      = loan.0 slot (omega (arith, low, ap (λ s. s.uses.first) is))
      (omega (arith, high, ap (λ s. s.uses.first) is, ap (λ s. s.uses.size) is)) in
      omega (arith, used, ap (λ uses. times slot (in_use uses)) (slots_seen store old), ap (λ s. times slot (in_use (slots_of s))) is)),
  ap (seen_sender store) loan.1 ∙ is,
)

-- values of which none is written
unwritten : {T : Type 0} (values : List T) (count : ℕ) → length values ≡ count
    → masked (replicate count false) values ≡ replicate count None
unwritten values zero long = refl
unwritten [] (suc count) long = absurd (omega (arith, long))
unwritten (value ∷ values) (suc count) long = ap (λ rest. None ∷ rest) (unwritten values count (omega (arith, long)))

set_twice : {X : Type 0} (xs : List X) (index : ℕ) (a b : X) → set (set xs index a) index b ≡ set xs index b
set_twice [] index a b = refl
set_twice (x ∷ xs) zero a b = refl
set_twice (x ∷ xs) (suc index) a b = ap (λ ys. x ∷ ys) (set_twice xs index a b)

-- marks of which there are n are all the same then
pub marks_are : (old between new : PayloadsState Bool) (slot count : ℕ) (mark : Bool) → length (payload_at slot between) ≡ count
    → between ≡ with_payload slot (payload_at slot between) old
    → new ≡ with_payload slot (replicate (length (payload_at slot between)) mark) between
    → new ≡ with_payload slot (replicate count mark) old
marks_are old between new slot count mark long length_is filled =
    filled
    ∙ ap (λ n. with_payload slot (replicate n mark) between) long
    ∙ ap (with_payload slot (replicate count mark)) length_is
    ∙ ap (λ payloads. record old { payloads = payloads }) (set_twice old.payloads slot (payload_at slot between) (replicate count mark))

-- what stands in the slots once a loan is made in one
pub record LoanPut {T U : Type 0} (old : Store T U) (slot count elements : ℕ) (new : Store T U) : Type 0 where
  pub long : length (payload_at slot new.values) ≡ count
  pub values : new.values ≡ with_payload slot (payload_at slot new.values) old.values
  pub written : new.written ≡ with_payload slot (replicate count false) old.written
  pub headers : new.headers ≡ set old.headers slot (record { elements = elements; user_header = old.blank.user_header; sequence = None })
  pub blank : new.blank ≡ old.blank

-- a loan that was put is what was put into its slot
put_of : {T U : Type 0} (old new : Store T U) (slot count elements : ℕ) → LoanPut old slot count elements new
    → SlotPut old slot (record { elements = elements; user_header = old.blank.user_header; sequence = None }) (payload_at slot new.values)
    (replicate count false) new
put_of old new slot count elements put = record { values = put.values; written = put.written; headers = put.headers; blank = put.blank }

loan_stands : {T U : Type 0} (old new : Store T U) (slot count elements : ℕ) → LoanPut old slot count elements new
    → slot < length old.headers → slot < length old.written.payloads
    → loan_in new slot ≡ new_loan slot count elements old.blank.user_header
loan_stands old new slot count elements put below here =
    ap (λ headers. loan_of slot (get_or headers slot new.blank) (masked (payload_at slot new.written) (payload_at slot new.values)))
    put.headers
    ∙ ap (λ header. loan_of slot header (masked (payload_at slot new.written) (payload_at slot new.values)))
    (get_or-set_same old.headers slot (record { elements = elements; user_header = old.blank.user_header; sequence = None })
    new.blank below)
    ∙ ap (λ marks. loan_of slot (record { elements = elements; user_header = old.blank.user_header; sequence = None })
    (masked marks (payload_at slot new.values))) (this_payload old.written new.written slot (replicate count false) put.written here)
    ∙ ap (loan_of slot (record { elements = elements; user_header = old.blank.user_header; sequence = None }))
    (unwritten (payload_at slot new.values) count put.long)

-- a loan is made
pub loan_made : {T U : Type 0} (before store : Store T U) (old new : Uses ℕ ℕ) (state : SenderState T U) (slot count elements : ℕ)
    → seen_sender before old ≡ state
    → IsSender before old → LoanUse old (Some slot) new → LoanPut before slot count elements store
    → LoanMade state count elements (Some slot) (seen_sender store new)
loan_made {T = T} {U = U} before store old new state slot count elements is sender loan put = (
  omega (arith, loan.0, ap (λ s. s.uses.first) is),
  omega (arith, loan.1, ap (λ s. s.uses.first) is, ap (λ s. s.uses.size) is),
  omega (arith, loan.2, ap (λ uses. times slot (in_use uses)) (slots_seen before old), ap (λ s. times slot (in_use (slots_of s))) is),
  ap (seen_sender store) loan.3
      ∙ ap (λ uses. sender_of store.values store.blank uses) named
      ∙ ap (λ values. sender_of values store.blank after) put.values
      ∙ ap (λ blank. sender_of before.values blank after) put.blank
      ∙ ap (λ s. with_uses (loaned (new_loan slot count elements s.user_header) s.uses) s) is,
)
  where
    after : Uses (Loan T U) (Message T U)
    after = loaned (new_loan slot count elements before.blank.user_header) (uses_by (loan_in before) (message_in before) old)

    apart : (k : ℕ) → 0 < times k (in_use old) → k ≢ slot
    apart k used same = absurd (omega (arith, used, loan.2, ap (λ j. times j (in_use old)) same))

    others : uses_by (loan_in store) (message_in store) old ≡ uses_by (loan_in before) (message_in before) old
    others = uses_agree (loan_in store) (loan_in before) (message_in store) (message_in before) old
        (λ k used. (
          loan_stays before store slot (record { elements = elements; user_header = before.blank.user_header; sequence = None })
              (payload_at slot store.values) (replicate count false) k (put_of before store slot count elements put) (apart k used),
          message_stays before store slot (record { elements = elements; user_header = before.blank.user_header; sequence = None })
              (payload_at slot store.values) (replicate count false) k (put_of before store slot count elements put) (apart k used),
        ))

    below : slot < old.first + old.size
    below = loan.1

    named : uses_by (loan_in store) (message_in store) (loaned slot old) ≡ after
    named = loaned_by (loan_in store) (message_in store) slot old
        ∙ ap (loaned (loan_in store slot)) others
        ∙ ap (λ one. loaned one (uses_by (loan_in before) (message_in before) old))
        (loan_stands before store slot count elements put (omega (arith, below, sender.headers)) (omega (arith, below, sender.written)))

-- what holds of a publisher holds after a loan
pub loan_kept : {T U : Type 0} (before store : Store T U) (old new : Uses ℕ ℕ) (slot count elements : ℕ)
    → IsSender before old → LoanUse old (Some slot) new → LoanPut before slot count elements store → IsSender store new
loan_kept before store old new slot count elements sender loan put = subst (IsSender store) (sym loan.3) (record {
  values = ap (λ v. length v.payloads) put.values ∙ length-set before.values.payloads slot (payload_at slot store.values) ∙ sender.values;
  written = ap (λ v. length v.payloads) put.written ∙ length-set before.written.payloads slot (replicate count false) ∙ sender.written;
  headers = ap length put.headers ∙ length-set before.headers slot
      (record { elements = elements; user_header = before.blank.user_header; sequence = None }) ∙ sender.headers;
  values_size = ap (λ v. v.size) put.values ∙ sender.values_size;
  written_size = ap (λ v. v.size) put.written ∙ sender.written_size;
  room = ap (λ v. v.room) put.written ∙ sender.room ∙ sym (ap (λ v. v.room) put.values);
  segments = ap (λ v. v.segments) put.written ∙ sender.segments ∙ sym (ap (λ v. v.segments) put.values);
  most_segments = ap (λ v. v.most_segments) put.written ∙ sender.most_segments ∙ sym (ap (λ v. v.most_segments) put.values);
  marks = λ k. ⊎_elim (λ same. rw same.1 (marks_here)) (λ other. marks_there k other.1) (eqb_tells k slot);
  sole = λ k lent. ⊎_elim (λ same. rw same.1 (once)) (λ other. still k other.0 lent) (eqb_tells k slot);
  within = λ k used. ⊎_elim (λ same. rw same.1 loan.1)
      (λ other. sender.within k (omega (arith, used, counted k, one_other k slot other.0))) (eqb_tells k slot);
})
  where
    marks_here : length (payload_at slot store.written) ≡ length (payload_at slot store.values)
    marks_here = ap length (this_payload before.written store.written slot (replicate count false) put.written
        (omega (arith, loan.1, sender.written)))
        ∙ length-replicate count false ∙ sym put.long

    marks_there : (k : ℕ) → k ≢ slot → length (payload_at k store.written) ≡ length (payload_at k store.values)
    marks_there k apart = ap length (other_payload before.written store.written slot k (replicate count false) put.written apart) ∙
        sender.marks k
        ∙ sym (ap length (other_payload before.values store.values slot k (payload_at slot store.values) put.values apart))

    counted : (k : ℕ) → times k (in_use (loaned slot old)) ≡ times k (in_use old) + one k slot
    counted k = omega (arith, in_use_times old k, in_use_times (loaned slot old) k, times_end k old.loans slot)

    once : times slot (in_use (loaned slot old)) ≡ 1
    once = omega (arith, counted slot, one_same slot, loan.2)

    still : (k : ℕ) → eqb k slot ≡ false → 0 < times k (loaned slot old).loans → times k (in_use (loaned slot old)) ≡ 1
    still k other lent = omega (
      arith,
      counted k,
      one_other k slot other,
      times_end k old.loans slot,
      sender.sole k
          (omega (arith, lent, times_end k old.loans slot, one_other k slot other)),
    )
