-- Slots whose values are marked all at once.
use Rattle.std.proofs.Common.{arith, ◌≡◌, ◌+◌, ◌<◌, ◌≤◌, ◌++◌, ◌∷◌, [], ℕ, zero, suc, Bool, true, false, nat_lt, ◌==◌, List, length}
use Rattle.std.proofs.Common.{get_or, set, replicate, refl, sym, ap, ◌∙◌}
use Rattle.std.proofs.lemmas.List.{get_or_default, get_or-set_same, get_or-set_other, length-replicate, length-set}
use Rattle.std.specs.List.{list_all}
use Rattle.iox_domain_ports.specs.Rows.{RowsState}
use Rattle.iox_domain_ports.specs.Payloads.{PayloadsState, payload_at, with_payload}
use Rattle.iox_domain_ports.specs.Marks.{marks_of, all_marks}
use Rattle.iox_domain_ports.specs.declared.messages.marks.Marking.{Marking}
use Rattle.iox_domain_ports.specs.declared.messages.marks.Marking.TheVariants.{Unwritten, Written, EachMarked}

-- as many marks as values
pub as_many : (marking : Marking) (row : List Bool) → length (marks_of marking row) ≡ length row
as_many Unwritten row = length-replicate (length row) false
as_many Written row = length-replicate (length row) true
as_many EachMarked row = refl

no_marks : (marking : Marking) → marks_of marking [] ≡ []
no_marks Unwritten = refl
no_marks Written = refl
no_marks EachMarked = refl

pub as_many_rows : (markings : List Marking) (rows : List (List Bool)) → length (all_marks markings rows) ≡ length rows
as_many_rows [] rows = refl
as_many_rows (marking ∷ markings) [] = refl
as_many_rows (marking ∷ markings) (row ∷ rows) = ap suc (as_many_rows markings rows)

-- the marks of a slot
pub marks_at : (markings : List Marking) (rows : List (List Bool)) (slot : ℕ)
    → get_or (all_marks markings rows) slot [] ≡ marks_of (get_or markings slot EachMarked) (get_or rows slot [])
marks_at [] rows slot = refl
marks_at (marking ∷ markings) [] slot = sym (no_marks (get_or (marking ∷ markings) slot EachMarked))
marks_at (marking ∷ markings) (row ∷ rows) zero = refl
marks_at (marking ∷ markings) (row ∷ rows) (suc slot) = marks_at markings rows slot

-- other values in a slot
pub row_set : (markings : List Marking) (rows : List (List Bool)) (slot : ℕ) (row : List Bool)
    → all_marks markings (set rows slot row) ≡ set (all_marks markings rows) slot (marks_of (get_or markings slot EachMarked) row)
row_set [] rows slot row = refl
row_set (marking ∷ markings) [] slot row = refl
row_set (marking ∷ markings) (first ∷ rows) zero row = refl
row_set (marking ∷ markings) (first ∷ rows) (suc slot) row = ap (λ rest. marks_of marking first ∷ rest) (row_set markings rows slot row)

-- another marking of a slot
pub marking_set : (markings : List Marking) (rows : List (List Bool)) (slot : ℕ) (marking : Marking) → slot < length markings
    → all_marks (set markings slot marking) rows ≡ set (all_marks markings rows) slot (marks_of marking (get_or rows slot []))
marking_set [] rows slot marking below = absurd (search (arith, below))
marking_set (first ∷ markings) [] zero marking below = refl
marking_set (first ∷ markings) [] (suc slot) marking below = refl
marking_set (first ∷ markings) (row ∷ rows) zero marking below = refl
marking_set (first ∷ markings) (row ∷ rows) (suc slot) marking below
    = ap (λ rest. marks_of first row ∷ rest) (marking_set markings rows slot marking (omega (arith, below)))

-- further slots, of which each value has its mark
each_kept : (markings : List Marking) (rows : List (List Bool)) → ((slot : ℕ) → get_or markings slot EachMarked ≡ EachMarked)
    → all_marks markings rows ≡ rows
each_kept [] rows each = refl
each_kept (marking ∷ markings) [] each = refl
each_kept (marking ∷ markings) (row ∷ rows) each =
    ap (λ one. marks_of one row ∷ all_marks markings rows) (each zero) ∙ ap (λ rest. row ∷ rest)
    (each_kept markings rows (λ slot. each (suc slot)))

pub rows_added : (markings : List Marking) (rows more : List (List Bool))
    → ((slot : ℕ) → length rows ≤ slot → get_or markings slot EachMarked ≡ EachMarked)
    → all_marks markings (rows ++ more) ≡ all_marks markings rows ++ more
rows_added [] rows more each = refl
rows_added (marking ∷ markings) [] more each = each_kept (marking ∷ markings) more (λ slot. each slot (omega arith))
rows_added (marking ∷ markings) (row ∷ rows) more each
    = ap (λ rest. marks_of marking row ∷ rest) (rows_added markings rows more (λ slot past. each (suc slot) (omega (arith, past))))

-- a slot that is written out, and then written
pub written_at : (markings : List Marking) (rows : List (List Bool)) (slot : ℕ) (before after : List Bool) → slot < length markings
    → all_marks (set markings slot EachMarked) (set (set rows slot before) slot after) ≡ set (all_marks markings rows) slot after
written_at [] rows slot before after below = absurd (search (arith, below))
written_at (first ∷ markings) [] zero before after below = refl
written_at (first ∷ markings) [] (suc slot) before after below = refl
written_at (first ∷ markings) (row ∷ rows) zero before after below = refl
written_at (first ∷ markings) (row ∷ rows) (suc slot) before after below
    = ap (λ rest. marks_of first row ∷ rest) (written_at markings rows slot before after (omega (arith, below)))

-- what is seen of marks
abbrev pub seen_marks : List Marking → PayloadsState Bool → PayloadsState Bool
seen_marks markings rows = record rows { payloads = all_marks markings rows.payloads }

no_rows_seen : (markings : List Marking) → all_marks markings [] ≡ []
no_rows_seen [] = refl
no_rows_seen (marking ∷ markings) = refl

-- no slots yet
pub none_seen : (markings : List Marking) (rows : PayloadsState Bool) (size most : ℕ)
    → rows ≡ (record { size = size; segments = 0; most_segments = most; room = 0; payloads = [] })
    → seen_marks markings rows ≡ (record { size = size; segments = 0; most_segments = most; room = 0; payloads = [] })
none_seen markings rows size most is
    = ap (seen_marks markings) is ∙ ap
    (λ payloads. record { size = size; segments = 0; most_segments = most; room = 0; payloads = payloads }) (no_rows_seen markings)

-- a slot is one of the rows, and has a marking
pub slot_there : (markings : List Marking) (rows state : PayloadsState Bool) (slot : ℕ) → seen_marks markings rows ≡ state
    → slot < length state.payloads → slot < length rows.payloads
slot_there markings rows state slot is below = omega (arith, below, ap (λ s. length s.payloads) is, as_many_rows markings rows.payloads)

pub marking_there : (markings : List Marking) (rows state : PayloadsState Bool) (slot more : ℕ) → seen_marks markings rows ≡ state
    → length rows.payloads + more ≤ length markings → slot < length state.payloads → slot < length markings
marking_there markings rows state slot more is enough below = omega (arith, slot_there markings rows state slot is below, enough)

-- the marks of a slot by how it is marked
pub marks_by : (markings : List Marking) (rows state : PayloadsState Bool) (slot more : ℕ) (marking : Marking)
    → seen_marks markings rows ≡ state → length rows.payloads + more ≤ length markings → slot < length state.payloads
    → marking ≡ get_or markings slot marking → payload_at slot state ≡ marks_of marking (payload_at slot rows)
marks_by markings rows state slot more marking is enough below same =
    ap (payload_at slot) (sym is) ∙ marks_at markings rows.payloads slot
    ∙ ap (λ one. marks_of one (payload_at slot rows))
    (get_or_default markings slot EachMarked marking (marking_there markings rows state slot more is enough below) ∙ sym same)

-- a segment is added
pub push_seen : (markings : List Marking) (rows new state : PayloadsState Bool) (segment : RowsState Bool)
    → seen_marks markings rows ≡ state
    → ((slot : ℕ) → length rows.payloads ≤ slot → get_or markings slot EachMarked ≡ EachMarked)
    → new ≡ (record rows { segments = rows.segments + 1; room = segment.room; payloads = rows.payloads ++ segment.rows })
    → seen_marks markings new ≡ (record state
    { segments = state.segments + 1; room = segment.room; payloads = state.payloads ++ segment.rows })
push_seen markings rows new state segment is each added =
    ap (seen_marks markings) added
    ∙ ap (λ (payloads : List (List Bool)). record rows { segments = rows.segments + 1; room = segment.room; payloads = payloads })
    (rows_added markings rows.payloads segment.rows each)
    ∙ ap (λ (s : PayloadsState Bool). record s { segments = s.segments + 1; room = segment.room; payloads = s.payloads ++ segment.rows }) is

-- other values in a slot
pub row_seen : (markings : List Marking) (rows new state : PayloadsState Bool) (slot : ℕ) → seen_marks markings rows ≡ state
    → new ≡ with_payload slot (payload_at slot new) rows
    → seen_marks markings new ≡ with_payload slot (payload_at slot (seen_marks markings new)) state
row_seen markings rows new state slot is put =
    ap (seen_marks markings) put
    ∙ ap (λ payloads. record rows { payloads = payloads }) (row_set markings rows.payloads slot (payload_at slot new))
    ∙ ap (λ row. with_payload slot row (seen_marks markings rows)) (sym (marks_at markings new.payloads slot))
    ∙ ap (with_payload slot (payload_at slot (seen_marks markings new))) is

pub row_long : (markings : List Marking) (new : PayloadsState Bool) (slot count : ℕ) → length (payload_at slot new) ≡ count
    → length (payload_at slot (seen_marks markings new)) ≡ count
row_long markings new slot count long
    = ap length (marks_at markings new.payloads slot) ∙ as_many (get_or markings slot EachMarked) (payload_at slot new) ∙ long

-- all values of a slot are marked at once
pub filled_seen : (markings : List Marking) (rows state : PayloadsState Bool) (slot more : ℕ) (marking : Marking) (mark : Bool)
    → seen_marks markings rows ≡ state → length rows.payloads + more ≤ length markings → slot < length state.payloads
    → ((row : List Bool) → marks_of marking row ≡ replicate (length row) mark)
    → seen_marks (set markings slot marking) rows ≡ with_payload slot (replicate (length (payload_at slot state)) mark) state
filled_seen markings rows state slot more marking mark is enough below all =
    let long : length (payload_at slot state) ≡ length (payload_at slot rows) =
    ap (λ s. length (payload_at slot s)) (sym is) ∙ ap length (marks_at markings rows.payloads slot) ∙ as_many
    (get_or markings slot EachMarked) (payload_at slot rows) in
    ap (λ payloads. record rows { payloads = payloads })
    (marking_set markings rows.payloads slot marking (marking_there markings rows state slot more is enough below))
    ∙ ap (λ row. with_payload slot row (seen_marks markings rows)) (all (payload_at slot rows) ∙ ap (λ n. replicate n mark) (sym long))
    ∙ ap (with_payload slot (replicate (length (payload_at slot state)) mark)) is

-- then the slots to come have room still
pub still_enough : (markings : List Marking) (rows state : PayloadsState Bool) (slot more : ℕ) (marking : Marking)
    → seen_marks markings rows ≡ state → slot < length state.payloads → length rows.payloads + more ≤ length markings
    → ((other : ℕ) → length rows.payloads ≤ other → get_or markings other EachMarked ≡ EachMarked)
    → (length rows.payloads + more ≤ length (set markings slot marking))
    × ((other : ℕ) → length rows.payloads ≤ other → get_or (set markings slot marking) other EachMarked ≡ EachMarked)
still_enough markings rows state slot more marking is below enough each = (
  omega (arith, enough, length-set markings slot marking),
  λ other past. get_or-set_other markings slot other marking EachMarked
      (omega (arith, past, slot_there markings rows state slot is below)) ∙ each other past,
)

-- a value of a slot is marked, after the slot was written out
pub written_row : (markings : List Marking) (rows out state : PayloadsState Bool) (slot more : ℕ) (marking : Marking)
    → seen_marks markings rows ≡ state → length rows.payloads + more ≤ length markings → slot < length state.payloads
    → marking ≡ get_or markings slot marking → out ≡ with_payload slot (marks_of marking (payload_at slot rows)) rows
    → payload_at slot out ≡ payload_at slot state
written_row markings rows out state slot more marking is enough below same written =
    ap (payload_at slot) written ∙ get_or-set_same rows.payloads slot (marks_of marking (payload_at slot rows)) []
    (slot_there markings rows state slot is below)
    ∙ sym (marks_by markings rows state slot more marking is enough below same)

pub written_seen : (markings : List Marking) (rows out new state : PayloadsState Bool) (slot more place : ℕ) (marking : Marking)
    (mark : Bool) → seen_marks markings rows ≡ state → length rows.payloads + more ≤ length markings
    → slot < length state.payloads → marking ≡ get_or markings slot marking
    → out ≡ with_payload slot (marks_of marking (payload_at slot rows)) rows
    → new ≡ with_payload slot (set (payload_at slot out) place mark) out
    → seen_marks (set markings slot EachMarked) new ≡ with_payload slot (set (payload_at slot state) place mark) state
written_seen markings rows out new state slot more place marking mark is enough below same written put =
    ap (seen_marks (set markings slot EachMarked)) (put ∙ ap (with_payload slot (set (payload_at slot out) place mark)) written)
    ∙ ap (λ payloads. record rows { payloads = payloads })
    (written_at markings rows.payloads slot (marks_of marking (payload_at slot rows)) (set (payload_at slot out) place mark)
    (marking_there markings rows state slot more is enough below))
    ∙ ap (λ row. with_payload slot (set row place mark) (seen_marks markings rows))
    (written_row markings rows out state slot more marking is enough below same written)
    ∙ ap (with_payload slot (set (payload_at slot state) place mark)) is

-- all marks of a slot that is marked at once
pub all_true : (n : ℕ) → list_all (λ mark. mark) (replicate n true) ≡ true
all_true zero = refl
all_true (suc n) = all_true n

pub none_true : (n place : ℕ) → get_or (replicate n false) place false ≡ false
none_true zero place = refl
none_true (suc n) zero = refl
none_true (suc n) (suc place) = none_true n place

pub true_within : (n place : ℕ) → nat_lt place n ≡ get_or (replicate n true) place false
true_within zero place = grind arith
true_within (suc n) zero = grind arith
true_within (suc n) (suc place) =
    let less : nat_lt (suc place) (suc n) ≡ nat_lt place n = grind arith in
    less ∙ true_within n place

pub false_all : (n : ℕ) → (n == 0) ≡ list_all (λ mark. mark) (replicate n false)
false_all zero = refl
false_all (suc n) = grind arith
