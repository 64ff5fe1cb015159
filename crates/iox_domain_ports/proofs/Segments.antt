-- Rows of several segments.
use Rattle.std.proofs.Common.{subst, arith, ◌≡◌, ◌+◌, ◌*◌, ◌-◌, ◌/◌, ◌%◌, ◌<◌, ◌≤◌, ◌∷◌, [], ◌++◌, ℕ, zero, suc, Bool, true, false}
use Rattle.std.proofs.Common.{nat_lt, List, length, length-append, get_or, set, refl, sym, ap, ◌∙◌, append-nil, append_assoc}
use Rattle.std.proofs.Math.Nat.{div-add-mod, mod-lt, mul_comm, mul-le-mul_right}
use Rattle.std.proofs.Math.Seq.{get_or-append_seam}
use Rattle.std.proofs.Math.Logic.{⊎_elim}
use Rattle.std.proofs.lemmas.Bool.Decides.{eqb_tells}
use Rattle.std.proofs.lemmas.List.{get_or_default, get_or_append_left, get_or-append-add, get_or-set_same, get_or-set_other, get_or_past}
use Rattle.std.proofs.lemmas.List.{length-set, set-append_left, set-append_right}
use Rattle.iox_domain_ports.specs.Rows.{RowsState, row_at, with_row}
use Rattle.iox_domain_ports.specs.Payloads.{PayloadsState, payload_at, with_payload, all_rows, no_rows, last_segment, AllOfSize}
use Rattle.iox_domain_ports.proofs.RowsIn.{one_more}

-- where the values of a slot stand
pub record Placed {T : Type 0} (size : ℕ) (segments : List (RowsState T)) (slot segment row : ℕ) : Type 0 where
  pub positive : 0 < size
  pub segment_is : segment < length segments
  pub row_is : row < size
  pub at : segment * size + row ≡ slot

rest_of_size : {T : Type 0} (size : ℕ) (first : RowsState T) (segments : List (RowsState T)) → AllOfSize size (first ∷ segments)
    → AllOfSize size segments
rest_of_size size first segments all index below = all (suc index) (omega (arith, below))

pub all_length : {T : Type 0} (size : ℕ) (segments : List (RowsState T)) → AllOfSize size segments
    → length (all_rows segments) ≡ length segments * size
all_length size [] all = omega arith
all_length size (first ∷ segments) all = omega (
  arith,
  length-append first.rows (all_rows segments),
  all zero (omega arith),
  all_length size segments (rest_of_size size first segments all),
  one_more (length segments) size,
)

positive_of : (size many slot : ℕ) → slot < many * size → 0 < size
positive_of zero many slot below = absurd (omega (arith, below))
positive_of (suc size) many slot below = omega arith

-- each slot is placed
pub placed : {T : Type 0} (size : ℕ) (segments : List (RowsState T)) (slot : ℕ) → AllOfSize size segments
    → slot < length (all_rows segments)
    → Placed size segments slot (slot / size) (slot % size)
placed size segments slot all below =
    let few : slot < length segments * size = omega (arith, below, all_length size segments all) in
    let positive : 0 < size = positive_of size (length segments) slot few in
    let at : slot / size * size + slot % size ≡ slot = omega (arith, div-add-mod slot size, mul_comm size (slot / size)) in
    record {
      positive = positive;
      segment_is = within (slot / size) at few;
      row_is = mod-lt slot positive;
      at = at;
    }
  where
    within : (segment : ℕ) → segment * size + slot % size ≡ slot → slot < length segments * size → segment < length segments
    within segment at few = at_case (nat_lt segment (length segments)) refl
      where
        at_case : (there : Bool) → nat_lt segment (length segments) ≡ there → segment < length segments
        at_case true there = grind (arith, there)
        at_case false there =
            let past : length segments ≤ segment = grind (arith, there) in
            absurd (omega (arith, mul-le-mul_right size past, at, few))

-- what stands in a slot
pub read : {T : Type 0} (size : ℕ) (segments : List (RowsState T)) (slot segment row : ℕ) → AllOfSize size segments
    → Placed size segments slot segment row
    → get_or (all_rows segments) slot [] ≡ row_at row (get_or segments segment no_rows)
read size [] slot segment row all place = absurd (omega (arith, place.segment_is))
read size (first ∷ segments) slot zero row all place =
    let same : slot ≡ row = omega (arith, place.at) in
    rw same (get_or_append_left first.rows (all_rows segments) [] row (omega (arith, place.row_is, all zero (omega arith))))
read size (first ∷ segments) slot (suc segment) row all place =
    let count : length first.rows ≡ size = all zero (omega arith) in
    let behind : slot ≡ length first.rows + (segment * size + row) = omega (arith, place.at, one_more segment size, count) in
    let rest : Placed size segments (segment * size + row) segment row
    = record { positive = place.positive; segment_is = omega (arith, place.segment_is); row_is = place.row_is; at = refl } in
    rw behind (get_or-append-add first.rows (all_rows segments) (segment * size + row) [] ∙ read size segments (segment * size + row)
    segment row (rest_of_size size first segments all) rest)

-- other values in a slot
pub changed : {T : Type 0} (size : ℕ) (segments : List (RowsState T)) (slot segment row : ℕ) (values : List T) → AllOfSize size segments
    → Placed size segments slot segment row
    → all_rows (set segments segment (with_row row values (get_or segments segment no_rows))) ≡ set (all_rows segments) slot values
changed size [] slot segment row values all place = absurd (omega (arith, place.segment_is))
changed size (first ∷ segments) slot zero row values all place =
    let same : slot ≡ row = omega (arith, place.at) in
    rw same (sym (set-append_left first.rows (all_rows segments) row values (omega (arith, place.row_is, all zero (omega arith)))))
changed size (first ∷ segments) slot (suc segment) row values all place =
    let count : length first.rows ≡ size = all zero (omega arith) in
    let past : size ≤ slot = omega (arith, place.at, one_more segment size) in
    let less : segment * size + row ≡ slot - size = omega (arith, place.at, one_more segment size) in
    let rest : Placed size segments (slot - size) segment row
    = record { positive = place.positive; segment_is = omega (arith, place.segment_is); row_is = place.row_is; at = less } in
    ap (λ rows. first.rows ++ rows) (changed size segments (slot - size) segment row values (rest_of_size size first segments all) rest)
    ∙ sym (set-append_right first.rows (all_rows segments) size slot values count past)

-- the room of a segment stays
room_at : {T : Type 0} (xs : List (RowsState T)) (index row : ℕ) (values : List T)
    → (get_or (set xs index (with_row row values (get_or xs index no_rows))) index no_rows).room ≡ (get_or xs index no_rows).room
room_at [] index row values = refl
room_at (x ∷ xs) zero row values = refl
room_at (x ∷ xs) (suc index) row values = room_at xs index row values

pub room_stays : {T : Type 0} (segments : List (RowsState T)) (segment row : ℕ) (values : List T)
    → (last_segment (set segments segment (with_row row values (get_or segments segment no_rows)))).room ≡ (last_segment segments).room
room_stays segments segment row values =
    rw (length-set segments segment (with_row row values (get_or segments segment no_rows))) (⊎_elim
    (λ same. rw same.1 (room_at segments segment row values))
    (λ other. ap (λ s. s.room) (get_or-set_other segments segment (length segments - 1)
    (with_row row values (get_or segments segment no_rows)) no_rows other.1))
    (eqb_tells (length segments - 1) segment))

-- what is seen of segments
abbrev pub seen_of : {T : Type 0} → ℕ → ℕ → List (RowsState T) → PayloadsState T
seen_of size most segments = record
    { size = size; segments = length segments; most_segments = most; room = (last_segment segments).room; payloads = all_rows segments }

pub seen_placed : {T : Type 0} (state : PayloadsState T) (size most : ℕ) (segments : List (RowsState T)) (slot : ℕ)
    → seen_of size most segments ≡ state
    → AllOfSize size segments → slot < length state.payloads → Placed size segments slot (slot / size) (slot % size)
seen_placed state size most segments slot is all below
    = placed size segments slot all (omega (arith, below, ap (λ s. length s.payloads) is))

pub seen_row : {T : Type 0} (state : PayloadsState T) (size most : ℕ) (segments : List (RowsState T)) (slot : ℕ)
    → seen_of size most segments ≡ state
    → AllOfSize size segments → Placed size segments slot (slot / size) (slot % size)
    → payload_at slot state ≡ row_at (slot % size) (get_or segments (slot / size) no_rows)
seen_row state size most segments slot is all place
    = ap (payload_at slot) (sym is) ∙ read size segments slot (slot / size) (slot % size) all place

-- a segment after others
rows_behind : {T : Type 0} (segment : RowsState T) (xs : List (RowsState T)) → all_rows (xs ++ segment ∷ []) ≡ all_rows xs ++ segment.rows
rows_behind segment [] = append-nil segment.rows
rows_behind segment (x ∷ xs) = ap (λ rows. x.rows ++ rows) (rows_behind segment xs) ∙ sym (append_assoc x.rows (all_rows xs) segment.rows)

last_behind : {T : Type 0} (segment : RowsState T) (xs : List (RowsState T)) → last_segment (xs ++ segment ∷ []) ≡ segment
last_behind segment xs =
    let count : length (xs ++ segment ∷ []) - 1 ≡ length xs = omega (arith, length-append xs (segment ∷ [])) in
    rw count (get_or-append_seam xs segment [] no_rows)

-- a segment comes after the others
abbrev pub with_segment : {T : Type 0} → RowsState T → PayloadsState T → PayloadsState T
with_segment segment state = record state { segments = state.segments + 1; room = segment.room; payloads = state.payloads ++ segment.rows }

-- a segment is added after the others
pub segment_added : {T : Type 0} (state : PayloadsState T) (size most : ℕ) (old new : List (RowsState T)) (added : RowsState T)
    → seen_of size most old ≡ state
    → new ≡ old ++ added ∷ []
    → seen_of size most new ≡ with_segment added state
segment_added state size most old new added is pushed =
    ap (seen_of size most) pushed
    ∙ ap (λ count. record (seen_of size most (old ++ added ∷ [])) { segments = count }) (length-append old (added ∷ []))
    ∙ ap (λ rows. record (seen_of size most (old ++ added ∷ [])) { segments = length old + 1; payloads = rows }) (rows_behind added old)
    ∙ ap (λ last. record {
      size = size;
      segments = length old + 1;
      most_segments = most;
      room = last.room;
      payloads = all_rows old
          ++ added.rows;
    }) (last_behind added old)
    ∙ ap (with_segment added) is

all_behind : {T : Type 0} (size : ℕ) (segment : RowsState T) (xs : List (RowsState T)) → AllOfSize size xs → length segment.rows ≡ size
    → AllOfSize size (xs ++ segment ∷ [])
all_behind size segment xs all long index below = at (nat_lt index (length xs)) refl
  where
    at : (inside : Bool) → nat_lt index (length xs) ≡ inside → length (get_or (xs ++ segment ∷ []) index no_rows).rows ≡ size
    at true is =
        let within : index < length xs = grind (arith, is) in
        ap (λ s. length s.rows) (get_or_append_left xs (segment ∷ []) no_rows index within) ∙ all index within
    at false is =
        let past : length xs ≤ index = grind (arith, is) in
        let same : index ≡ length xs = omega (arith, past, below, length-append xs (segment ∷ [])) in
        rw same (ap (λ s. length s.rows) (get_or-append_seam xs segment [] no_rows) ∙ long)

pub sizes_with : {T : Type 0} (size : ℕ) (segment : RowsState T) (old new : List (RowsState T)) → AllOfSize size old
    → length segment.rows ≡ size → new ≡ old ++ segment ∷ [] → AllOfSize size new
sizes_with size segment old new all long is = subst (AllOfSize size) (sym is) (all_behind size segment old all long)

-- a slot of the last segment stands there
pub in_last : {T : Type 0} (size : ℕ) (segments : List (RowsState T)) (slot segment row : ℕ) → AllOfSize size segments
    → Placed size segments slot segment row
    → length (all_rows segments) ≤ slot + size → segment ≡ length segments - 1
in_last size segments slot segment row all place last = at (nat_lt (segment + 1) (length segments)) refl
  where
    at : (less : Bool) → nat_lt (segment + 1) (length segments) ≡ less → segment ≡ length segments - 1
    at true less =
        let further : segment + 2 ≤ length segments = grind (arith, less) in
        absurd (omega (
          arith,
          mul-le-mul_right size further,
          last,
          all_length size segments all,
          place.at,
          place.row_is,
          one_more segment
              size,
          one_more (segment + 1) size,
        ))
    at false less =
        let end : length segments ≤ segment + 1 = grind (arith, less) in
        omega (arith, end, place.segment_is)

-- other values in a slot, as it is seen
pub seen_changed : {T : Type 0} (state : PayloadsState T) (size most : ℕ) (segments : List (RowsState T)) (slot : ℕ) (values : List T)
    (new : RowsState T)
    → seen_of size most segments ≡ state → AllOfSize size segments → Placed size segments slot (slot / size) (slot % size)
    → new ≡ with_row (slot % size) values (get_or segments (slot / size) no_rows)
    → seen_of size most (set segments (slot / size) new) ≡ with_payload slot values state
seen_changed state size most segments slot values new is all place made =
    ap (λ n. seen_of size most (set segments (slot / size) n)) made
    ∙ ap (λ count. record (seen_of size most
    (set segments (slot / size) (with_row (slot % size) values (get_or segments (slot / size) no_rows)))) { segments = count })
    (length-set segments (slot / size) (with_row (slot % size) values (get_or segments (slot / size) no_rows)))
    ∙ ap (λ r. record {
      size = size;
      segments = length segments;
      most_segments = most;
      room = r;
      payloads
          = all_rows (set segments (slot / size) (with_row (slot % size) values (get_or segments (slot / size) no_rows)));
    }) (room_stays segments (slot / size) (slot % size) values)
    ∙ ap (λ rows. record {
      size = size;
      segments = length segments;
      most_segments = most;
      room = (last_segment segments).room;
      payloads
          = rows;
    }) (changed size segments slot (slot / size) (slot % size) values all place)
    ∙ ap (with_payload slot values) is

-- what stands in a slot whose values were changed
pub payload_changed : {T : Type 0} (state : PayloadsState T) (slot : ℕ) (values : List T) → slot < length state.payloads
    → payload_at slot (with_payload slot values state) ≡ values
payload_changed state slot values below = get_or-set_same state.payloads slot values [] below

-- a slot with a value is one of the slots
pub slot_within : {T : Type 0} (payloads : List (List T)) (slot place : ℕ) → place < length (get_or payloads slot [])
    → slot < length payloads
slot_within payloads slot place inside = at (nat_lt slot (length payloads)) refl
  where
    at : (there : Bool) → nat_lt slot (length payloads) ≡ there → slot < length payloads
    at true there = grind (arith, there)
    at false there =
        let past : length payloads ≤ slot = grind (arith, there) in
        absurd (omega (arith, inside, ap length (get_or_past payloads slot [] past)))

-- the segment of a slot, as a call is handed it: where the slot stands in it, and what comes of other values there
pub record Found {T : Type 0} (state : PayloadsState T) (size most : ℕ) (segments : List (RowsState T)) (slot index row : ℕ)
    (segment : RowsState T) : Type 0 where
  pub within : index < length segments
  pub row_is : row < length segment.rows
  pub last : length state.payloads ≤ slot + state.size → segment.room ≡ state.room
  pub holds : row_at row segment ≡ payload_at slot state
  pub changed : (values : List T) (new : RowsState T) → new ≡ with_row row values segment
      → seen_of size most (set segments index new) ≡ with_payload slot values state

found_there : {T : Type 0} (state : PayloadsState T) (size most : ℕ) (segments : List (RowsState T)) (slot : ℕ) (segment : RowsState T)
    → seen_of size most segments ≡ state
    → AllOfSize size segments → slot < length state.payloads → segment ≡ get_or segments (slot / size) segment
    → Found state size most segments slot (slot / size) (slot % size) segment
found_there state size most segments slot segment is all below same = record {
  within = place.segment_is;
  row_is = omega (arith, place.row_is, all (slot / size) place.segment_is, ap (λ s. length s.rows) it);
  last = λ behind.
      ap (λ s. s.room) it
      ∙ ap (λ index. (get_or segments index no_rows).room)
      (in_last size segments slot (slot / size) (slot % size) all place
      (omega (arith, behind, ap (λ s. length s.payloads) is, ap (λ s. s.size) is)))
      ∙ ap (λ s. s.room) is;
  holds = ap (row_at (slot % size)) it ∙ sym (seen_row state size most segments slot is all place);
  changed = λ values new made. seen_changed state size most segments slot values new is all place
      (made ∙ ap (with_row (slot % size) values) it);
}
  where
    place : Placed size segments slot (slot / size) (slot % size)
    place = seen_placed state size most segments slot is all below

    it : segment ≡ get_or segments (slot / size) no_rows
    it = same ∙ get_or_default segments (slot / size) segment no_rows place.segment_is

pub found : {T : Type 0} (state : PayloadsState T) (size most : ℕ) (segments : List (RowsState T)) (slot index row : ℕ)
    (segment : RowsState T) → seen_of size most segments ≡ state
    → AllOfSize size segments → slot < length state.payloads → index ≡ slot / size → row ≡ slot % size
    → segment ≡ get_or segments index segment → Found state size most segments slot index row segment
found state size most segments slot index row segment is all below is_index is_row same =
    subst (λ i. Found state size most segments slot i row segment) (sym is_index)
    (subst (λ r. Found state size most segments slot (slot / size) r segment) (sym is_row)
    (found_there state size most segments slot segment is all below (same ∙ ap (λ i. get_or segments i segment) is_index)))

-- there is a segment then, and its size isn't 0
pub some_size : {T : Type 0} (state : PayloadsState T) (size most : ℕ) (segments : List (RowsState T)) (slot : ℕ)
    → seen_of size most segments ≡ state → AllOfSize size segments → slot < length state.payloads → 0 < size
some_size state size most segments slot is all below = (seen_placed state size most segments slot is all below).positive

-- and it is one of them
pub is_within : {T : Type 0} (state : PayloadsState T) (size most : ℕ) (segments : List (RowsState T)) (slot index : ℕ)
    → seen_of size most segments ≡ state → AllOfSize size segments → slot < length state.payloads
    → index ≡ slot / size → index < length segments
is_within state size most segments slot index is all below is_index
    = omega (arith, (seen_placed state size most segments slot is all below).segment_is, is_index)
