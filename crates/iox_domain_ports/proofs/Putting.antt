-- What the slots contain after something was put into one of them.
use Rattle.std.proofs.Common.{◌≡◌, ◌≢◌, ◌<◌, ℕ, Bool, List, [], length, get_or, set, Option, ap, ◌∙◌}
use Rattle.std.proofs.lemmas.List.{get_or-set_same, get_or-set_other}
use Rattle.iox_domain_ports.specs.Payloads.{PayloadsState, payload_at, with_payload}
use Rattle.iox_domain_ports.specs.Messages.{Message, Loan}
use Rattle.iox_domain_ports.specs.MessagesSending.{Store, loan_in, message_in, masked}
use Rattle.iox_domain_ports.specs.declared.messages.slot_header.SlotHeader.{SlotHeader}

-- these values, marks and header were put into a slot
pub record SlotPut {T U : Type 0} (old : Store T U) (slot : ℕ) (header : SlotHeader U) (payload : List T) (marks : List Bool)
    (new : Store T U) : Type 0 where
  pub values : new.values ≡ with_payload slot payload old.values
  pub written : new.written ≡ with_payload slot marks old.written
  pub headers : new.headers ≡ set old.headers slot header
  pub blank : new.blank ≡ old.blank

-- what stands in other slots stays
pub other_payload : {T : Type 0} (old new : PayloadsState T) (slot k : ℕ) (values : List T) → new ≡ with_payload slot values old
    → k ≢ slot → payload_at k new ≡ payload_at k old
other_payload old new slot k values is apart = ap (payload_at k) is ∙ get_or-set_other old.payloads slot k values [] apart

pub this_payload : {T : Type 0} (old new : PayloadsState T) (slot : ℕ) (values : List T) → new ≡ with_payload slot values old
    → slot < length old.payloads → payload_at slot new ≡ values
this_payload old new slot values is below = ap (payload_at slot) is ∙ get_or-set_same old.payloads slot values [] below

abbrev pub loan_of : {T U : Type 0} → ℕ → SlotHeader U → List (Option T) → Loan T U
loan_of slot header values = record { slot = slot; elements = header.elements; user_header = header.user_header; values = values }

abbrev pub message_of : {T U : Type 0} → ℕ → SlotHeader U → List T → Message T U
message_of slot header values = record {
  slot = slot;
  sequence = header.sequence;
  elements = header.elements;
  user_header = header.user_header;
  values = values;
}

-- a loan in another slot stays
pub loan_stays : {T U : Type 0} (old new : Store T U) (slot : ℕ) (header : SlotHeader U) (values : List T) (marks : List Bool) (k : ℕ)
    → SlotPut old slot header values marks new → k ≢ slot → loan_in new k ≡ loan_in old k
loan_stays old new slot header values marks k put apart =
    ap (λ headers. loan_of k (get_or headers k new.blank) (masked (payload_at k new.written) (payload_at k new.values))) put.headers
    ∙ ap (λ blank. loan_of k (get_or (set old.headers slot header) k blank)
    (masked (payload_at k new.written) (payload_at k new.values))) put.blank
    ∙ ap (λ it. loan_of k it (masked (payload_at k new.written) (payload_at k new.values)))
    (get_or-set_other old.headers slot k header old.blank apart)
    ∙ ap (λ it. loan_of k (get_or old.headers k old.blank) (masked it (payload_at k new.values)))
    (other_payload old.written new.written slot k marks put.written apart)
    ∙ ap (λ it. loan_of k (get_or old.headers k old.blank) (masked (payload_at k old.written) it))
    (other_payload old.values new.values slot k values put.values apart)

-- a message in another slot stays
pub message_stays : {T U : Type 0} (old new : Store T U) (slot : ℕ) (header : SlotHeader U) (values : List T) (marks : List Bool) (k : ℕ)
    → SlotPut old slot header values marks new → k ≢ slot → message_in new k ≡ message_in old k
message_stays old new slot header values marks k put apart =
    ap (λ headers. message_of k (get_or headers k new.blank) (payload_at k new.values)) put.headers
    ∙ ap (λ blank. message_of k (get_or (set old.headers slot header) k blank) (payload_at k new.values)) put.blank
    ∙ ap (λ it. message_of k it (payload_at k new.values)) (get_or-set_other old.headers slot k header old.blank apart)
    ∙ ap (λ it. message_of k (get_or old.headers k old.blank) it) (other_payload old.values new.values slot k values put.values apart)

-- what was put is the message of the slot
pub message_stands : {T U : Type 0} (old new : Store T U) (slot : ℕ) (header : SlotHeader U) (values : List T) (marks : List Bool)
    → SlotPut old slot header values marks new → slot < length old.headers → slot < length old.values.payloads
    → message_in new slot ≡ message_of slot header values
message_stands old new slot header values marks put below here =
    ap (λ headers. message_of slot (get_or headers slot new.blank) (payload_at slot new.values)) put.headers
    ∙ ap (λ it. message_of slot it (payload_at slot new.values)) (get_or-set_same old.headers slot header new.blank below)
    ∙ ap (message_of slot header) (this_payload old.values new.values slot values put.values here)
