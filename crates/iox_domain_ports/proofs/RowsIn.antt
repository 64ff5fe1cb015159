-- Rows that a list contains.
use Rattle.std.proofs.Common.{arith, ◌≡◌, ◌+◌, ◌*◌, ◌<◌, ◌≤◌, ◌∷◌, [], ◌++◌, ℕ, zero, suc, Bool, true, false, nat_lt, List, Vec, length}
use Rattle.std.proofs.Common.{get_or, set, take, drop, replicate, refl, sym, ap, ◌∙◌}
use Rattle.std.proofs.lemmas.List.{get_or-drop, get_or-take, get_or-set_same, get_or_past, length-append, length-set, length-take-le}
use Rattle.std.proofs.lemmas.List.{length-drop, drop-set-lt, drop-set-add, take_at, take-set-le, with_items_is}
use Rattle.std.proofs.Math.Nat.{suc-mul}
use Rattle.std.proofs.Math.Seq.{take-set-lt}
use Rattle.std.proofs.lemmas.Slice.{drop-append-drop}
use Rattle.std.specs.Vec.{with_items}
use Rattle.std.proofs.Math.Seq.{drop-nil}
use Rattle.iox_domain_ports.specs.Rows.{RowsState, row_at, with_row, rows_in, AllWithin}

pub rows_length : {T : Type 0} (room : ℕ) (lengths : List ℕ) (values : List T) → length (rows_in room lengths values) ≡ length lengths
rows_length room [] values = refl
rows_length room (count ∷ lengths) values = ap suc (rows_length room lengths (drop room values))

pub one_more : (row room : ℕ) → suc row * room ≡ room + row * room
one_more row room = omega (arith, suc-mul row room)

-- what stands in a row ends before the rows do
pub row_within : (row rows room count : ℕ) → row < rows → count ≤ room → row * room + count ≤ rows * room
row_within row zero room count below fits = absurd (omega (arith, below))
row_within zero (suc rows) room count below fits = omega (arith, fits, one_more rows room)
row_within (suc row) (suc rows) room count below fits =
    omega (arith, row_within row rows room count (omega (arith, below)) fits, one_more rows room, one_more row room)

drop_more : {T : Type 0} (n m : ℕ) (xs : List T) → drop m (drop n xs) ≡ drop (n + m) xs
drop_more zero m xs = ap (λ k. drop k xs) (omega arith)
drop_more (suc n) m [] = drop-nil m ∙ sym (drop-nil (suc n + m))
drop_more (suc n) m (x ∷ xs) =
    let more : suc (n + m) ≡ suc n + m = omega arith in
    drop_more n m xs ∙ ap (λ k. drop k (x ∷ xs)) more

none : (room : ℕ) → 0 ≡ 0 * room
none room = omega arith

-- a row is what its room begins with
pub row_is : {T : Type 0} (room : ℕ) (lengths : List ℕ) (values : List T) (row : ℕ) → row < length lengths
    → get_or (rows_in room lengths values) row [] ≡ take (get_or lengths row 0) (drop (row * room) values)
row_is room [] values row below = absurd (omega (arith, below))
row_is room (count ∷ lengths) values zero below = ap (λ k. take count (drop k values)) (none room)
row_is room (count ∷ lengths) values (suc row) below =
    row_is room lengths (drop room values) row (omega (arith, below))
    ∙ ap (take (get_or lengths row 0)) (drop_more room (row * room) values)
    ∙ ap (λ k. take (get_or lengths row 0) (drop k values)) (sym (one_more row room))

-- a row of another length
pub lengthened : {T : Type 0} (room : ℕ) (lengths : List ℕ) (values : List T) (row count : ℕ) → row < length lengths
    → rows_in room (set lengths row count) values ≡ set (rows_in room lengths values) row (take count (drop (row * room) values))
lengthened room [] values row count below = absurd (omega (arith, below))
lengthened room (old ∷ lengths) values zero count below
    = ap (λ k. take count (drop k values) ∷ rows_in room lengths (drop room values)) (none room)
lengthened room (old ∷ lengths) values (suc row) count below =
    ap (λ rest. take old values ∷ rest) (
    lengthened room lengths (drop room values) row count (omega (arith, below))
    ∙ ap (λ part. set (rows_in room lengths (drop room values)) row (take count part)) (
    drop_more room (row * room) values ∙ ap (λ k. drop k values) (sym (one_more row room))
    )
    )

-- a value is put at a place of a row
pub written : {T : Type 0} (room : ℕ) (lengths : List ℕ) (values : List T) (row place : ℕ) (value : T) → row < length lengths
    → AllWithin room lengths
    → place < get_or lengths row 0
    → rows_in room lengths (set values (row * room + place) value)
    ≡ set (rows_in room lengths values) row (set (get_or (rows_in room lengths values) row []) place value)
written room [] values row place value below fits inside = absurd (omega (arith, below))
written room (count ∷ lengths) values zero place value below fits inside =
    let at : 0 * room + place ≡ place = omega arith in
    rw at (rw (take-set-lt count values place value inside) (
    rw (drop-set-lt room values place value (omega (arith, inside, fits zero))) refl
    ))
written room (count ∷ lengths) values (suc row) place value below fits inside =
    let at : suc row * room + place ≡ room + (row * room + place) = omega (arith, one_more row room) in
    let first : count ≤ room + (row * room + place) = omega (arith, fits zero) in
    rw at (
    rw (take-set-le count values (room + (row * room + place)) value first) (
    rw (drop-set-add room values (row * room + place) value) (
    ap (λ rest. take count values ∷ rest)
    (written room lengths (drop room values) row place value (omega (arith, below)) (λ k. fits (suc k)) inside)
    )
    )
    )

-- rows without a value
pub rows_empty : {T : Type 0} (room count : ℕ) (values : List T) → rows_in room (replicate count 0) values ≡ replicate count []
rows_empty room zero values = refl
rows_empty room (suc count) values = ap (λ rest. [] ∷ rest) (rows_empty room count (drop room values))

-- a row with another length is as long as that
pub row_length : {T : Type 0} (values : List T) (start count : ℕ) → start + count ≤ length values
    → length (take count (drop start values)) ≡ count
row_length values start count fits = length-take-le count (drop start values) (omega (arith, fits, length-drop start values))

-- a row that is seen is one that there is
pub there_is : {T : Type 0} (state : RowsState T) (room : ℕ) (lengths : List ℕ) (values : List T) (row : ℕ)
    → (record { room = room; rows = rows_in room lengths values }) ≡ state → row < length state.rows → row < length lengths
there_is state room lengths values row is below = omega (arith, below, ap (λ s. length s.rows) is, rows_length room lengths values)

-- what is seen of a row
pub row_seen : {T : Type 0} (state : RowsState T) (room : ℕ) (lengths : List ℕ) (values : List T) (row : ℕ)
    → (record { room = room; rows = rows_in room lengths values }) ≡ state → row < length lengths
    → row_at row state ≡ take (get_or lengths row 0) (drop (row * room) values)
row_seen state room lengths values row is below = ap (row_at row) (sym is) ∙ row_is room lengths values row below

-- a place of a row is one of a row that there is, and within its length
pub place_within : {T : Type 0} (state : RowsState T) (room : ℕ) (lengths : List ℕ) (values : List T) (row place : ℕ)
    → (record { room = room; rows = rows_in room lengths values }) ≡ state → length values ≡ length lengths * room → AllWithin room lengths
    → place < length (row_at row state) → (row < length lengths) × (place < get_or lengths row 0)
place_within state room lengths values row place is full fits inside = at (nat_lt row (length lengths)) refl
  where
    at : (there : Bool) → nat_lt row (length lengths) ≡ there → (row < length lengths) × (place < get_or lengths row 0)
    at true there =
        let below : row < length lengths = grind (arith, there) in (
          below,
          omega (
            arith,
            inside,
            ap length (row_seen state room lengths values row is below),
            row_length values (row * room)
                (get_or lengths row 0) (omega (arith, full, row_within row (length lengths) room (get_or lengths row 0) below (fits row))),
          ),
        )
    at false there =
        let past : length lengths ≤ row = grind (arith, there) in
        let none : row_at row state ≡ [] = ap (row_at row) (sym is) ∙ get_or_past (rows_in room lengths values) row []
        (omega (arith, past, rows_length room lengths values)) in
        absurd (omega (arith, inside, ap length none))

-- that place in the one list
pub place_in_values : {T : Type 0} (state : RowsState T) (room : ℕ) (lengths : List ℕ) (values : List T) (row place : ℕ)
    → (record { room = room; rows = rows_in room lengths values }) ≡ state → length values ≡ length lengths * room → AllWithin room lengths
    → place < length (row_at row state) → row * room + place < length values
place_in_values state room lengths values row place is full fits inside =
    let at = place_within state room lengths values row place is full fits inside in
    omega (arith, at.1, full, row_within row (length lengths) room (get_or lengths row 0) at.0 (fits row))

-- after a row got another length
pub set_length_count : {T : Type 0} (room : ℕ) (lengths : List ℕ) (values : List T) (row count : ℕ) → row < length lengths → count ≤ room
    → length values ≡ length lengths * room
    → length (row_at row (record { room = room; rows = rows_in room (set lengths row count) values })) ≡ count
set_length_count room lengths values row count below few full =
    let there : row < length (set lengths row count) = omega (arith, below, length-set lengths row count) in
    ap length (row_is room (set lengths row count) values row there)
    ∙ ap (λ n. length (take n (drop (row * room) values))) (get_or-set_same lengths row count 0 below)
    ∙ row_length values (row * room) count (omega (arith, full, row_within row (length lengths) room count below few))

pub set_length_rest : {T : Type 0} (state : RowsState T) (room : ℕ) (lengths : List ℕ) (values : List T) (row count : ℕ)
    → (record { room = room; rows = rows_in room lengths values }) ≡ state → row < length lengths
    → (record { room = room; rows = rows_in room (set lengths row count) values })
    ≡ with_row row (row_at row (record { room = room; rows = rows_in room (set lengths row count) values })) state
set_length_rest state room lengths values row count is below =
    let there : row < length (set lengths row count) = omega (arith, below, length-set lengths row count) in
    let new : row_at row (record { room = room; rows = rows_in room (set lengths row count) values })
    ≡ take count (drop (row * room) values) =
    row_is room (set lengths row count) values row there ∙ ap (λ n. take n (drop (row * room) values))
    (get_or-set_same lengths row count 0 below) in
    ap (λ rows. record { room = room; rows = rows }) (lengthened room lengths values row count below)
    ∙ ap (λ part. with_row row part (record { room = room; rows = rows_in room lengths values })) (sym new)
    ∙ ap (with_row row (row_at row (record { room = room; rows = rows_in room (set lengths row count) values }))) is

-- after a value was put at a place of a row
pub write_rest : {T : Type 0} (state : RowsState T) (room : ℕ) (lengths : List ℕ) (values : List T) (row place : ℕ) (value : T)
    → (record { room = room; rows = rows_in room lengths values }) ≡ state → length values ≡ length lengths * room → AllWithin room lengths
    → place < length (row_at row state)
    → (record { room = room; rows = rows_in room lengths (set values (row * room + place) value) })
    ≡ with_row row (set (row_at row state) place value) state
write_rest state room lengths values row place value is full fits inside =
    let at = place_within state room lengths values row place is full fits inside in
    ap (λ rows. record { room = room; rows = rows }) (written room lengths values row place value at.0 fits at.1)
    ∙ ap (λ s. with_row row (set (row_at row s) place value) s) is

-- values in the place of as many, from a place on
abbrev pub put_at : {T : Type 0} → ℕ → List T → List T → List T
put_at start xs values = take start values ++ (xs ++ drop (length xs) (drop start values))

pub put_is : {T : Type 0} (start count : ℕ) (xs values new : List T) → length xs ≡ count
    → new ≡ take start values ++ (xs ++ drop (start + count) values) → new ≡ put_at start xs values
put_is start count xs values new long is =
    is
    ∙ ap (λ n. take start values ++ (xs ++ drop (start + n) values)) (sym long)
    ∙ ap (λ rest. take start values ++ (xs ++ rest)) (sym (drop_more start (length xs) values))

take_put : {T : Type 0} (count start : ℕ) (xs values : List T) → count ≤ start → start ≤ length values
    → take count (put_at start xs values) ≡ take count values
take_put zero start xs values few long = refl
take_put (suc count) zero xs values few long = absurd (omega (arith, few))
take_put (suc count) (suc start) xs [] few long = absurd (omega (arith, long))
take_put (suc count) (suc start) xs (v ∷ values) few long
    = ap (λ rest. v ∷ rest) (take_put count start xs values (omega (arith, few)) (omega (arith, long)))

drop_put : {T : Type 0} (room start : ℕ) (xs values : List T) → room ≤ length values
    → drop room (put_at (room + start) xs values) ≡ put_at start xs (drop room values)
drop_put zero start xs values long =
    let same : 0 + start ≡ start = omega arith in
    ap (λ k. put_at k xs values) same
drop_put (suc room) start xs [] long = absurd (omega (arith, long))
drop_put (suc room) start xs (v ∷ values) long =
    let more : suc room + start ≡ suc (room + start) = omega arith in
    ap (λ k. drop (suc room) (put_at k xs (v ∷ values))) more ∙ drop_put room start xs values (omega (arith, long))

-- values are put into a row
pub copied : {T : Type 0} (room : ℕ) (lengths : List ℕ) (values : List T) (row : ℕ) (xs : List T) → row < length lengths
    → AllWithin room lengths
    → length values ≡ length lengths * room → length xs ≡ get_or lengths row 0
    → rows_in room lengths (put_at (row * room) xs values) ≡ set (rows_in room lengths values) row xs
copied room [] values row xs below fits full long = absurd (omega (arith, below))
copied room (count ∷ lengths) values zero xs below fits full long =
    ap (λ k. rows_in room (count ∷ lengths) (put_at k xs values)) (sym (none room))
    ∙ ap (λ first. first ∷ rows_in room lengths (drop room (xs ++ drop (length xs) values)))
    (take_at xs (drop (length xs) values) count long)
    ∙ ap (λ rest. xs ∷ rows_in room lengths rest) (drop-append-drop (length xs) values xs room (omega (arith, long, fits zero)) refl)
copied room (count ∷ lengths) values (suc row) xs below fits full long =
    ap (λ k. rows_in room (count ∷ lengths) (put_at k xs values)) (one_more row room)
    ∙ ap (λ first. first ∷ rows_in room lengths (drop room (put_at (room + row * room) xs values)))
    (take_put count (room + row * room) xs values (omega (arith, fits zero)) start)
    ∙ ap (λ rest. take count values ∷ rows_in room lengths rest) (drop_put room (row * room) xs values (omega (arith, start)))
    ∙ ap (λ rest. take count values ∷ rest)
    (copied room lengths (drop room values) row xs (omega (arith, below)) (λ k. fits (suc k)) shorter long)
  where
    start : room + row * room ≤ length values
    start = omega (arith, full, row_within (suc row) (suc (length lengths)) room 0 below (omega arith), one_more row room)

    shorter : length (drop room values) ≡ length lengths * room
    shorter = omega (arith, full, length-drop room values, one_more (length lengths) room)

-- how many values stand in a row that is seen
pub seen_length : {T : Type 0} (state : RowsState T) (room : ℕ) (lengths : List ℕ) (values : List T) (row : ℕ)
    → (record { room = room; rows = rows_in room lengths values }) ≡ state → length values ≡ length lengths * room
    → AllWithin room lengths → row < length lengths
    → length (row_at row state) ≡ get_or lengths row 0
seen_length state room lengths values row is full fits below =
    ap length (row_seen state room lengths values row is below)
    ∙ row_length values (row * room) (get_or lengths row 0)
    (omega (arith, full, row_within row (length lengths) room (get_or lengths row 0) below (fits row)))

put_length : {T : Type 0} (start : ℕ) (xs values : List T) → start + length xs ≤ length values
    → length (put_at start xs values) ≡ length values
put_length start xs values fits = omega (
  arith,
  fits,
  length-append (take start values) (xs ++ drop (length xs) (drop start values)),
  length-append xs (drop (length xs) (drop start values)),
  length-take-le start values (omega (arith, fits)),
  length-drop start values,
  length-drop (length xs) (drop start values),
)

-- after values were put into a row
pub copy_rest : {T Z : Type 0} (state : RowsState T) (room : ℕ) (lengths : List ℕ) (values : Vec T Z) (row : ℕ) (xs new : List T)
    → (record { room = room; rows = rows_in room lengths values.items }) ≡ state → length values.items ≡ length lengths * room
    → AllWithin room lengths → row < length lengths
    → length xs ≡ get_or lengths row 0 → new ≡ put_at (row * room) xs values.items
    → (record { room = room; rows = rows_in room lengths (with_items values new).items }) ≡ with_row row xs state
copy_rest state room lengths values row xs new is full fits below long made =
    ap (λ vs. record { room = room; rows = rows_in room lengths vs }) (with_items_is values new same ∙ made)
    ∙ ap (λ rows. record { room = room; rows = rows }) (copied room lengths values.items row xs below fits full long)
    ∙ ap (with_row row xs) is
  where
    inside : row * room + length xs ≤ length values.items
    inside = omega (arith, full, long, row_within row (length lengths) room (get_or lengths row 0) below (fits row))

    same : length new ≡ values.len
    same = ap length made ∙ put_length (row * room) xs values.items inside ∙ sym values.ok.0

-- the value at a place of a row
pub value_in_row : {T : Type 0} (state : RowsState T) (room : ℕ) (lengths : List ℕ) (values : List T) (row place : ℕ) (value : T)
    → (record { room = room; rows = rows_in room lengths values }) ≡ state → length values ≡ length lengths * room → AllWithin room lengths
    → place < length (row_at row state) → value ≡ get_or values (row * room + place) value → value ≡ get_or (row_at row state) place value
value_in_row state room lengths values row place value is full fits inside there =
    let at = place_within state room lengths values row place is full fits inside in
    there
    ∙ sym (get_or-drop (row * room) values place value)
    ∙ sym (get_or-take (get_or lengths row 0) (drop (row * room) values) place value at.1)
    ∙ ap (λ xs. get_or xs place value) (sym (row_seen state room lengths values row is at.0))
