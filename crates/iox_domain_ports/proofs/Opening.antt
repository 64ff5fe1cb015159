-- A further segment of slots.
use Rattle.std.proofs.Common.{rules, arith, ◌≡◌, ◌≤◌, ◌+◌, ◌-◌, ◌∷◌, [], ◌++◌, ℕ, zero, suc, Bool, if◌then◌else◌, List, length}
use Rattle.std.proofs.Common.{length-append, get_or, take, replicate, Result, Ok, Err, IsOk, is_ok, refl, sym, subst, ap, ◌∙◌, inl, inr}
use Rattle.std.proofs.lemmas.Bool.{cases_lt}
use Rattle.std.specs.declared.alloc.AllocError.{AllocError}
use Rattle.std.proofs.lemmas.List.{length-replicate, take_all}
use Rattle.iox_domain_slots.specs.Uses.{Uses, in_use, segment_opened}
use Rattle.iox_domain_slots.specs.Counting.{times}
use Rattle.iox_domain_ports.specs.Payloads.{PayloadsState, payload_at}
use Rattle.iox_domain_ports.specs.MessagesSending.{SenderState, Store, IsSender, seen_sender, sender_of, slots_of, opened_for, uses_by}
use Rattle.iox_domain_ports.specs.MessagesSending.{loan_in, message_in, masked}
use Rattle.iox_domain_ports.specs.Rows.{RowsState}
use Rattle.iox_domain_ports.proofs.Segments.{with_segment}
use Rattle.iox_domain_ports.proofs.Agreeing.{uses_agree, slots_seen}
use Rattle.iox_domain_ports.proofs.Putting.{loan_of, message_of}

-- a segment without a value after the others
abbrev pub one_more_segment : {T : Type 0} → ℕ → PayloadsState T → PayloadsState T
one_more_segment room payloads = record payloads
    { segments = payloads.segments + 1; room = room; payloads = payloads.payloads ++ replicate payloads.size [] }

-- what stands in the slots once a segment is opened
pub record SegmentPut {T U : Type 0} (old : Store T U) (room : ℕ) (new : Store T U) : Type 0 where
  pub values : new.values ≡ one_more_segment room old.values
  pub written : new.written ≡ one_more_segment room old.written
  pub headers : new.headers ≡ old.headers ++ replicate old.values.size old.blank
  pub blank : new.blank ≡ old.blank

none_behind : {T : Type 0} (payloads : List (List T)) (size slot : ℕ)
    → get_or (payloads ++ replicate size []) slot [] ≡ get_or payloads slot []
none_behind [] zero slot = refl
none_behind [] (suc size) zero = refl
none_behind [] (suc size) (suc slot) = none_behind [] size slot
none_behind (x ∷ payloads) size zero = refl
none_behind (x ∷ payloads) size (suc slot) = none_behind payloads size slot

blank_behind : {X : Type 0} (headers : List X) (size slot : ℕ) (blank : X)
    → get_or (headers ++ replicate size blank) slot blank ≡ get_or headers slot blank
blank_behind [] zero slot blank = refl
blank_behind [] (suc size) zero blank = refl
blank_behind [] (suc size) (suc slot) blank = blank_behind [] size slot blank
blank_behind (x ∷ headers) size zero blank = refl
blank_behind (x ∷ headers) size (suc slot) blank = blank_behind headers size slot blank

payload_stays : {T : Type 0} (old new : PayloadsState T) (room slot : ℕ) → new ≡ one_more_segment room old
    → payload_at slot new ≡ payload_at slot old
payload_stays old new room slot is = ap (payload_at slot) is ∙ none_behind old.payloads old.size slot

header_stays : {T U : Type 0} (old new : Store T U) (room slot : ℕ) → SegmentPut old room new
    → get_or new.headers slot new.blank ≡ get_or old.headers slot old.blank
header_stays old new room slot put =
    ap (λ headers. get_or headers slot new.blank) put.headers ∙ ap
    (λ blank. get_or (old.headers ++ replicate old.values.size old.blank) slot blank) put.blank
    ∙ blank_behind old.headers old.values.size slot old.blank

loan_stays : {T U : Type 0} (old new : Store T U) (room slot : ℕ) → SegmentPut old room new → loan_in new slot ≡ loan_in old slot
loan_stays old new room slot put =
    ap (λ header. loan_of slot header (masked (payload_at slot new.written) (payload_at slot new.values)))
    (header_stays old new room slot put)
    ∙ ap (λ marks. loan_of slot (get_or old.headers slot old.blank) (masked marks (payload_at slot new.values)))
    (payload_stays old.written new.written room slot put.written)
    ∙ ap (λ values. loan_of slot (get_or old.headers slot old.blank) (masked (payload_at slot old.written) values))
    (payload_stays old.values new.values room slot put.values)

message_stays : {T U : Type 0} (old new : Store T U) (room slot : ℕ) → SegmentPut old room new → message_in new slot ≡ message_in old slot
message_stays old new room slot put =
    ap (λ header. message_of slot header (payload_at slot new.values)) (header_stays old new room slot put)
    ∙ ap (λ values. message_of slot (get_or old.headers slot old.blank) values) (payload_stays old.values new.values room slot put.values)

-- a segment is opened
pub open_seen : {T U : Type 0} (old new : Store T U) (uses later : Uses ℕ ℕ) (state : SenderState T U) (room : ℕ)
    → seen_sender old uses ≡ state
    → later ≡ segment_opened uses → SegmentPut old room new → seen_sender new later ≡ opened_for room state
open_seen old new uses later state room is opened put =
    ap (seen_sender new) opened
    ∙ ap (sender_of new.values new.blank) (uses_agree (loan_in new) (loan_in old) (message_in new) (message_in old) (segment_opened uses)
    (λ slot used. (loan_stays old new room slot put, message_stays old new room slot put)))
    ∙ ap (λ values. sender_of values new.blank (segment_opened (uses_by (loan_in old) (message_in old) uses))) put.values
    ∙ ap (λ blank. sender_of (one_more_segment room old.values) blank (segment_opened (uses_by (loan_in old) (message_in old) uses)))
    put.blank
    ∙ ap (opened_for room) is

-- what holds of a publisher holds then
pub open_kept : {T U : Type 0} (old new : Store T U) (uses later : Uses ℕ ℕ) (room : ℕ) → IsSender old uses
    → later ≡ segment_opened uses → SegmentPut old room new → IsSender new later
open_kept {T = T} {U = U} old new uses later room is opened put = subst (IsSender new) (sym opened) (record {
  values = omega (
    arith,
    ap (λ v. length v.payloads) put.values,
    length-append old.values.payloads (replicate old.values.size []),
    length-replicate {A = List T} old.values.size [],
    is.values,
    is.values_size,
  );
  written = omega (
    arith,
    ap (λ v. length v.payloads) put.written,
    length-append old.written.payloads (replicate old.written.size []),
    length-replicate {A = List Bool} old.written.size [],
    is.written,
    is.written_size,
  );
  headers = omega (
    arith,
    ap length put.headers,
    length-append old.headers (replicate old.values.size old.blank),
    length-replicate
        old.values.size old.blank,
    is.headers,
    is.values_size,
  );
  values_size = ap (λ v. v.size) put.values ∙ is.values_size;
  written_size = ap (λ v. v.size) put.written ∙ is.written_size;
  room = ap (λ v. v.room) put.written ∙ sym (ap (λ v. v.room) put.values);
  segments = ap (λ v. v.segments) put.written ∙ ap (λ n. n + 1) is.segments ∙ sym (ap (λ v. v.segments) put.values);
  most_segments = ap (λ v. v.most_segments) put.written ∙ is.most_segments ∙ sym (ap (λ v. v.most_segments) put.values);
  marks = λ slot. ap length (payload_stays old.written new.written room slot put.written) ∙ is.marks slot ∙ sym
      (ap length (payload_stays old.values new.values room slot put.values));
  sole = is.sole;
  within = λ slot used. omega (arith, is.within slot used);
})

-- and none of its slots is in use yet
pub opened_free : {T U : Type 0} (old new : Store T U) (uses later : Uses ℕ ℕ) → IsSender old uses → later ≡ segment_opened uses
    → (slot : ℕ) → later.first ≤ slot → times slot (in_use (slots_of (seen_sender new later))) ≡ 0
opened_free old new uses later is opened slot above =
    let none : times slot (in_use uses) ≡ 0 = elim (cases_lt 0 (times slot (in_use uses))) [
      | inl used ↦ absurd (omega (arith, is.within slot used, above, ap (λ u. u.first) opened))
      | inr unused ↦ omega (arith, unused)
    ] in
    ap (λ u. times slot (in_use u)) (slots_seen new later) ∙ ap (λ u. times slot (in_use u)) opened ∙ none

-- a list that is filled up to as many more
filled_up : {X : Type 0} (xs : List X) (size : ℕ) (blank : X)
    → take (length xs + size) xs ++ replicate (length xs + size - length xs) blank ≡ xs ++ replicate size blank
filled_up xs size blank =
    let more : length xs + size - length xs ≡ size = omega arith in
    rw (take_all (length xs + size) xs (omega arith)) (rw more refl)

-- both are given a segment, and the headers as many more
pub opened_put : {T U : Type 0} (old new : Store T U) (room size : ℕ) (values : RowsState T) (written : RowsState Bool)
    → size ≡ old.values.size → old.written.size ≡ old.values.size
    → values ≡ (record { room = room; rows = replicate size [] }) → written ≡ (record { room = room; rows = replicate size [] })
    → new.values ≡ with_segment values old.values → new.written ≡ with_segment written old.written
    → (new.headers ≡ old.headers ++ replicate size old.blank) → new.blank ≡ old.blank → SegmentPut old room new
opened_put old new room size values written size_is same values_are written_are put marks headers blank = record {
  values = put ∙ ap (λ s. with_segment s old.values) values_are ∙ ap
      (λ n. with_segment (record { room = room; rows = replicate n [] }) old.values) size_is;
  written = marks ∙ ap (λ s. with_segment s old.written) written_are ∙ ap
      (λ n. with_segment (record { room = room; rows = replicate n [] }) old.written) (size_is ∙ sym same);
  headers = headers ∙ ap (λ n. old.headers ++ replicate n old.blank) size_is;
  blank = blank;
}

-- a list that was filled up to as many more, where there was room
pub resized_is : {X : Type 0} (result : Result (Unit {0}) AllocError) (new xs : List X) (size : ℕ) (blank : X) → IsOk result
    → new ≡ (if is_ok result then take (length xs + size) xs ++ replicate (length xs + size - length xs) blank else xs)
    → new ≡ xs ++ replicate size blank
resized_is (Ok done) new xs size blank ok is = is ∙ filled_up xs size blank
resized_is (Err error) new xs size blank ok is = search (rules, ok)
