-- A message is sent again, in a slot that contains nothing except this message.
use Rattle.std.proofs.Common.{rules, arith, ◌≡◌, ◌≢◌, ◌+◌, ◌<◌, ◌∷◌, [], ℕ, zero, suc, Bool, false, ◌||◌, List, length, map, set, None}
use Rattle.std.proofs.Common.{Some, refl, sym, subst, ap, ◌∙◌}
use Rattle.std.specs.List.{All, list_any}
use Rattle.std.specs.Option.{option_to_list}
use Rattle.std.proofs.Math.Logic.{⊎_elim}
use Rattle.std.proofs.Math.Dec.{eqb}
use Rattle.std.proofs.lemmas.Bool.Decides.{eqb_tells}
use Rattle.std.proofs.lemmas.List.{length-set}
use Rattle.std.proofs.lemmas.List.Elements.{All-head, All-tail}
use Rattle.iox_domain_slots.specs.Uses.{Uses, Connection, held, held_by, in_use}
use Rattle.iox_domain_slots.specs.Counting.{times}
use Rattle.iox_domain_slots.proofs.Counts.{one, times_append, times_cons, times_one, one_other}
use Rattle.iox_domain_slots.proofs.Publishing.{in_use_times}
use Rattle.iox_domain_ports.specs.Payloads.{PayloadsState, payload_at, with_payload}
use Rattle.iox_domain_ports.specs.Messages.{Message, Loan}
use Rattle.iox_domain_ports.specs.MessagesSending.{SenderState, Store, IsSender, IsIfInSlot, StandsAlone, has_loan, seen_sender}
use Rattle.iox_domain_ports.specs.MessagesSending.{sender_of, with_uses, uses_by, connection_by, loan_in, message_in}
use Rattle.iox_domain_ports.specs.declared.messages.slot_header.SlotHeader.{SlotHeader}
use Rattle.iox_domain_ports.proofs.Agreeing.{map_agree, messages_agree, other_uses}
use Rattle.iox_domain_ports.proofs.Putting.{SlotPut, message_of, loan_stays, message_stays, message_stands, other_payload, this_payload}

-- values that were put in the place of as many
pub values_are : {T : Type 0} (old between new : PayloadsState T) (slot : ℕ) (values : List T)
    → between ≡ with_payload slot (payload_at slot between) old → new ≡ with_payload slot values between
    → new ≡ with_payload slot values old
values_are old between new slot values between_is new_is =
    new_is ∙ ap (with_payload slot values) between_is ∙ ap (λ payloads. record old { payloads = payloads })
    (set_twice old.payloads slot (payload_at slot between) values)
  where
    set_twice : {X : Type 0} (xs : List X) (index : ℕ) (a b : X) → set (set xs index a) index b ≡ set xs index b
    set_twice [] index a b = refl
    set_twice (x ∷ xs) zero a b = refl
    set_twice (x ∷ xs) (suc index) a b = ap (λ ys. x ∷ ys) (set_twice xs index a b)

-- what holds of each name in a list holds of that of a slot in it
all_at : {Y : Type 0} (P : Y → Type 0) (name : ℕ → Y) (xs : List ℕ) (k : ℕ) → All P (map name xs) → 0 < times k xs → P (name k)
all_at P name [] k all inside = absurd (omega (arith, inside))
all_at P name (x ∷ xs) k all inside = ⊎_elim
    (λ same. subst (λ j. P (name j)) (sym same.1) (All-head P (name x) (map name xs) all))
    (λ other. all_at P name xs k (All-tail P (name x) (map name xs) all) (omega (arith, inside, times_cons k x xs, one_other k x other.0)))
    (eqb_tells k x)

-- what holds of each message of a connection
abbrev AllOf : {Y : Type 0} → (Y → Type 0) → Connection Y → Type 0
AllOf P connection = All P connection.waiting × All P connection.borrowed

-- what holds of each message of the connections holds of that of a slot that they hold
all_held : {Y : Type 0} (P : Y → Type 0) (name : ℕ → Y) (connections : List (Connection ℕ)) (k : ℕ)
    → All (AllOf P) (map (connection_by name) connections)
    → 0 < times k (held connections) → P (name k)
all_held P name [] k all inside = absurd (omega (arith, inside))
all_held P name (c ∷ rest) k all inside = at (times k c.waiting) (times k c.borrowed) refl refl
    (λ further. all_held P name rest k (All-tail (AllOf P) (connection_by name c) (map (connection_by name) rest) all) further)
  where
    first : AllOf P (connection_by name c)
    first = All-head (AllOf P) (connection_by name c) (map (connection_by name) rest) all

    at : (waits borrowed : ℕ) → times k c.waiting ≡ waits → times k c.borrowed ≡ borrowed → (0 < times k (held rest) → P (name k))
        → P (name k)
    at (suc waits) borrowed is also behind = all_at P name c.waiting k first.0 (omega (arith, is))
    at zero (suc borrowed) is also behind = all_at P name c.borrowed k first.1 (omega (arith, also))
    at zero zero is also behind = behind
        (omega (arith, inside, is, also, times_append k (held_by c) (held rest), times_append k c.waiting c.borrowed))

-- no loan is found in a slot that none stands in
pub none_lent : {T U : Type 0} (store : Store T U) (slot : ℕ) (xs : List ℕ)
    → list_any (λ loan. eqb slot loan.slot) (map (loan_in store) xs) ≡ false → times slot xs ≡ 0
none_lent store slot [] none = refl
none_lent store slot (x ∷ xs) none = ⊎_elim
    (λ same. let wrong = sym (ap (λ b. b || list_any (λ loan. eqb slot loan.slot) (map (loan_in store) xs)) same.0) ∙ none in search
    (rules, wrong))
    (λ other. omega (
      arith,
      times_cons slot x xs,
      one_other slot x other.0,
      none_lent store slot xs (sym (ap (λ b. b || list_any (λ loan. eqb slot loan.slot) (map (loan_in store) xs)) other.0) ∙ none),
    ))
    (eqb_tells slot x)

module _ {T U : Type 0} (before store : Store T U) (old : Uses ℕ ℕ) (slot : ℕ) (header : SlotHeader U) (values : List T)
    (marks : List Bool) where
  -- no loan stands in the slot
  unlent : (state : SenderState T U) → seen_sender before old ≡ state → StandsAlone (message_of slot header values) state.uses
      → times slot old.loans ≡ 0
  unlent state is alone = none_lent before slot old.loans (ap (λ s. has_loan slot s.uses) is ∙ alone.loans)

  -- what is seen of all but the send stays
  others : (state : SenderState T U) → seen_sender before old ≡ state → IsSender before old → slot < old.first + old.size
      → old.sending ≡ None
      → StandsAlone (message_of slot header values) state.uses → SlotPut before slot header values marks store
      → uses_by (loan_in store) (message_in store) old ≡ uses_by (loan_in before) (message_in before) old
  others state is sender below idle alone put =
      ap (λ loans. other_uses loans (message_in store) old) (map_agree (loan_in store) (loan_in before) old.loans
      (λ k lent. loan_stays before store slot header values marks k put
      (λ same. absurd (omega (arith, lent, unlent state is alone, ap (λ j. times j old.loans) same)))))
      ∙ messages_agree (map (loan_in before) old.loans) (message_in store) (message_in before) old
      (λ k used. ⊎_elim
      (λ same. subst (λ j. message_in store j ≡ message_in before j) (sym same.1) (stands ∙ sym (is_it k used same.1)))
      (λ apart. message_stays before store slot header values marks k put apart.1)
      (eqb_tells k slot))
    where
      stands : message_in store slot ≡ message_of slot header values
      stands = message_stands before store slot header values marks put (omega (arith, below, sender.headers))
          (omega (arith, below, sender.values))

      one_of : (remembered : ℕ) → times slot old.history ≡ remembered → 0 < remembered + times slot (held old.connections)
          → message_in before slot ≡ message_of slot header values
      one_of zero is_none used = all_held (IsIfInSlot (message_of slot header values)) (message_in before) old.connections slot
          (subst (λ s. All (AllOf (IsIfInSlot (message_of slot header values))) s.uses.connections) (sym is) alone.connections)
          (omega (arith, used)) refl
      one_of (suc more) is_some used = all_at (IsIfInSlot (message_of slot header values)) (message_in before) old.history slot
          (subst (λ s. All (IsIfInSlot (message_of slot header values)) s.uses.history) (sym is) alone.history) (omega (arith, is_some))
          refl

      is_it : (k : ℕ) → 0 < times k (option_to_list old.sending) + (times k old.history + times k (held old.connections)) → k ≡ slot
          → message_in before slot ≡ message_of slot header values
      is_it k used same = one_of (times slot old.history) refl (omega (
        arith,
        used,
        ap (λ s. times k (option_to_list s)) idle,
        ap (λ j. times j old.history) same,
        ap (λ j. times j (held old.connections)) same,
      ))

  -- what is seen once the message is sent again
  pub again_seen : (new : Uses ℕ ℕ) (state : SenderState T U) → seen_sender before old ≡ state → IsSender before old
      → slot < old.first + old.size → old.sending ≡ None
      → new ≡ record old { sending = Some slot } → StandsAlone (message_of slot header values) state.uses
      → SlotPut before slot header values marks store
      → seen_sender store new ≡ with_uses (record state.uses { sending = Some (message_of slot header values) }) state
  again_seen new state is sender below idle made alone put =
      ap (seen_sender store) made
      ∙ ap (λ uses. sender_of store.values store.blank (sends (message_in store slot) uses)) (others state is sender below idle alone put)
      ∙ ap (λ message. sender_of store.values store.blank (sends message (uses_by (loan_in before) (message_in before) old)))
      (message_stands before store slot header values marks put (omega (arith, below, sender.headers))
      (omega (arith, below, sender.values)))
      ∙ ap (λ payloads. sender_of payloads store.blank
      (sends (message_of slot header values) (uses_by (loan_in before) (message_in before) old))) put.values
      ∙ ap (λ blank. sender_of before.values blank
      (sends (message_of slot header values) (uses_by (loan_in before) (message_in before) old))) put.blank
      ∙ ap (λ s. with_uses (sends (message_of slot header values) s.uses) s) is
    where
      sends : Message T U → Uses (Loan T U) (Message T U) → Uses (Loan T U) (Message T U)
      sends message uses = record uses { sending = Some message }

  -- what holds of a publisher holds then
  pub again_kept : (new : Uses ℕ ℕ) (state : SenderState T U) → seen_sender before old ≡ state → IsSender before old
      → slot < old.first + old.size → old.sending ≡ None
      → new ≡ record old { sending = Some slot } → StandsAlone (message_of slot header values) state.uses → length marks ≡ length values
      → SlotPut before slot header values marks store → IsSender store new
  again_kept new state is sender below idle made alone long put = subst (IsSender store) (sym made) (record {
    values = ap (λ v. length v.payloads) put.values ∙ length-set before.values.payloads slot values ∙ sender.values;
    written = ap (λ v. length v.payloads) put.written ∙ length-set before.written.payloads slot marks ∙ sender.written;
    headers = ap length put.headers ∙ length-set before.headers slot header ∙ sender.headers;
    values_size = ap (λ v. v.size) put.values ∙ sender.values_size;
    written_size = ap (λ v. v.size) put.written ∙ sender.written_size;
    room = ap (λ v. v.room) put.written ∙ sender.room ∙ sym (ap (λ v. v.room) put.values);
    segments = ap (λ v. v.segments) put.written ∙ sender.segments ∙ sym (ap (λ v. v.segments) put.values);
    most_segments = ap (λ v. v.most_segments) put.written ∙ sender.most_segments ∙ sym (ap (λ v. v.most_segments) put.values);
    marks = λ k. ⊎_elim (λ same. subst (λ j. length (payload_at j store.written) ≡ length (payload_at j store.values)) (sym same.1)
        marks_here) (λ other. marks_there k other.1) (eqb_tells k slot);
    sole = λ k lent. omega (arith, counted k, one_other k slot (apart k lent), sender.sole k lent);
    within = λ k used. ⊎_elim (λ same. rw same.1 below)
        (λ other. sender.within k (omega (arith, used, counted k, one_other k slot other.0))) (eqb_tells k slot);
  })
    where
      after : Uses ℕ ℕ
      after = record old { sending = Some slot }

      counted : (k : ℕ) → times k (in_use after) ≡ times k (in_use old) + one k slot
      counted k = omega (arith, in_use_times old k, in_use_times after k, times_one k slot, ap (λ s. times k (option_to_list s)) idle)

      apart : (k : ℕ) → 0 < times k old.loans → eqb k slot ≡ false
      apart k lent = ⊎_elim
          (λ same. absurd (omega (arith, lent, unlent state is alone, ap (λ j. times j old.loans) same.1)))
          (λ other. other.0)
          (eqb_tells k slot)

      marks_here : length (payload_at slot store.written) ≡ length (payload_at slot store.values)
      marks_here = ap length (this_payload before.written store.written slot marks put.written (omega (arith, below, sender.written)))
          ∙ long ∙ sym (ap length (this_payload before.values store.values slot values put.values (omega (arith, below, sender.values))))

      marks_there : (k : ℕ) → k ≢ slot → length (payload_at k store.written) ≡ length (payload_at k store.values)
      marks_there k distinct = ap length (other_payload before.written store.written slot k marks put.written distinct) ∙ sender.marks k
          ∙ sym (ap length (other_payload before.values store.values slot k values put.values distinct))
