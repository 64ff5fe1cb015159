use Rattle.std.proofs.Common.{ℕ, ◌≡◌, ◌+◌, ◌-◌, ◌<◌, ◌≤◌, ◌++◌, List, length, take, drop, replicate, arith, refl, sym, ap, ◌∙◌, subst}
use Rattle.std.proofs.lemmas.List.{append_assoc, drop-drop, drop-replicate, drop_at, length-append, length-drop, length-replicate}
use Rattle.std.proofs.lemmas.List.{length-take-le, replicate-append-replicate, take-take, take_at}
use Rattle.std.proofs.lemmas.List.Elements.{All-append, All-drop, All-take}
use Rattle.std.proofs.lemmas.Slice.{between_is}
use borrow.Rule.Slice.PartMut.{put_mid}
use Rattle.iox_container.specs.StringBytes.{IsStringByte, IsStringBytes}
use Rattle.iox_container.specs.Text.{range_replaced}
use Rattle.iox_container.specs.TextRow.{HoldsText, IsTextRow}

-- a text and then zeros, as many as fill the capacity, are a row of that text
pub HoldsText-of_text : (capacity n : ℕ) (text cells : List ℕ) → length text ≡ n → n ≤ capacity → IsStringBytes text
    → cells ≡ text ++ replicate (capacity - n) 0 → HoldsText capacity n text cells
HoldsText-of_text capacity n text cells long fits valid e =
    let P : List ℕ → Type 0 = λ xs. HoldsText capacity n text xs in
    let reads : take n (text ++ replicate (capacity - n) 0) ≡ text = take_at text _ n long in
    subst P (sym e) (record {
      row = record {
        within = fits;
        full = length-append text _ ∙ ap (λ m. length text + m) (length-replicate (capacity - n) 0) ∙ omega arith;
        zeros = drop_at text _ n long;
        valid = rw reads valid;
      };
      reads = reads;
    })

-- a text written over the front of a row of zeros
pub IsTextRow-copy : (capacity : ℕ) (text : List ℕ) → length text ≤ capacity → IsStringBytes text
    → IsTextRow capacity (length text) (text ++ drop (length text) (replicate capacity 0))
IsTextRow-copy capacity text fits valid =
    (HoldsText-of_text capacity _ text _ refl fits valid (ap (λ zs. text ++ zs) (drop-replicate (length text) capacity 0))).row

-- valid bytes stay so where others replace a part of them
pub IsStringBytes-range_replaced : (text : List ℕ) (from to : ℕ) (bytes : List ℕ) → IsStringBytes text → IsStringBytes bytes
    → IsStringBytes (range_replaced text from to bytes)
IsStringBytes-range_replaced text from to bytes valid added =
    All-append IsStringByte (take from text) (bytes ++ drop to text) (All-take IsStringByte from text valid)
    (All-append IsStringByte bytes (drop to text) added (All-drop IsStringByte to text valid))

pub length-range_replaced : (text : List ℕ) (from to : ℕ) (bytes : List ℕ) → from ≤ to → to ≤ length text
    → length (range_replaced text from to bytes) ≡ length text - (to - from) + length bytes
length-range_replaced text from to bytes ordered within =
    omega (
      arith,
      length-append (take from text) (bytes ++ drop to text),
      length-append bytes (drop to text),
      length-take-le from text
          (omega arith),
      length-drop to text,
    )

-- what a splice leaves is the new text, and then the cells past it
pub spliced_cells : (len from to n : ℕ) (cells bytes : List ℕ) → from ≤ to → to ≤ len → from + length bytes + (len - to) ≡ n
    → take from cells ++ (bytes ++ (take (len - to) (drop to cells) ++ drop (from + length bytes + (len - to)) cells))
    ≡ range_replaced (take len cells) from to bytes ++ drop n cells
spliced_cells len from to n cells bytes ordered within e =
    rw (e, between_is cells to len, ← take-take from len cells (omega arith), append_assoc, append_assoc)

-- the text that a splice makes has its length
length-spliced : (len from to n : ℕ) (cells bytes : List ℕ) → len ≤ length cells → from ≤ to → to ≤ len
    → from + length bytes + (len - to) ≡ n
    → length (range_replaced (take len cells) from to bytes) ≡ n
length-spliced len from to n cells bytes filled ordered within e =
    let front : length (take len cells) ≡ len = length-take-le len cells filled in
    omega (arith, length-range_replaced (take len cells) from to bytes ordered (omega arith))

-- past a point after the text, a row is zeros
drop-row : (capacity len n : ℕ) (cells : List ℕ) → IsTextRow capacity len cells → len ≤ n → drop n cells ≡ replicate (capacity - n) 0
drop-row capacity len n cells row behind =
    let there : n ≡ len + (n - len) = omega arith in
    let left : capacity - len - (n - len) ≡ capacity - n = omega arith in
    ap (λ k. drop k cells) there
    ∙ sym (drop-drop (n - len) len cells)
    ∙ ap (λ xs. drop (n - len) xs) row.zeros
    ∙ drop-replicate (n - len) (capacity - len) 0
    ∙ ap (λ k. replicate k 0) left

-- the row after a splice that makes the text no shorter
pub HoldsText-grown : (capacity len from to n : ℕ) (cells bytes new : List ℕ) → IsTextRow capacity len cells → from ≤ to → to ≤ len
    → IsStringBytes bytes → from + length bytes + (len - to) ≡ n → len ≤ n → n ≤ capacity
    → new ≡ take from cells ++ (bytes ++ (take (len - to) (drop to cells) ++ drop (from + length bytes + (len - to)) cells))
    → HoldsText capacity n (range_replaced (take len cells) from to bytes) new
HoldsText-grown capacity len from to n cells bytes new row ordered within valid long longer fits e =
    let text : List ℕ = range_replaced (take len cells) from to bytes in
    let now : new ≡ text ++ drop n cells = e ∙ spliced_cells len from to n cells bytes ordered within long in
    let filled : len ≤ length cells = omega (arith, row.within, row.full) in
    HoldsText-of_text capacity n text new (length-spliced len from to n cells bytes filled ordered within long) fits
    (IsStringBytes-range_replaced (take len cells) from to bytes row.valid valid)
    (now ∙ ap (λ zs. text ++ zs) (drop-row capacity len n cells row longer))

-- the row after a splice that makes the text shorter, once the cells that it left are zero
pub HoldsText-shrunk : (capacity len from to n : ℕ) (cells bytes new zeros : List ℕ) → IsTextRow capacity len cells → from ≤ to → to ≤ len
    → IsStringBytes bytes → from + length bytes + (len - to) ≡ n → n < len
    → new ≡ take from cells ++ (bytes ++ (take (len - to) (drop to cells) ++ drop (from + length bytes + (len - to)) cells))
    → zeros ≡ replicate (length (take (len - n) (drop n new))) 0
    → HoldsText capacity n (range_replaced (take len cells) from to bytes) (put_mid n (len - n) new zeros)
HoldsText-shrunk capacity len from to n cells bytes new zeros row ordered within valid long shorter e cleared =
    let text : List ℕ = range_replaced (take len cells) from to bytes in
    let now : new ≡ text ++ drop n cells = e ∙ spliced_cells len from to n cells bytes ordered within long in
    let filled : len ≤ length cells = omega (arith, row.within, row.full) in
    let measured : length text ≡ n = length-spliced len from to n cells bytes filled ordered within long in
    let front : take n new ≡ text = ap (λ xs. take n xs) now ∙ take_at text (drop n cells) n measured in
    let back : drop n new ≡ drop n cells = ap (λ xs. drop n xs) now ∙ drop_at text (drop n cells) n measured in
    let as_long : length new ≡ capacity
    = ap length now ∙ omega (arith, length-append text (drop n cells), length-drop n cells, measured, row.full, row.within) in
    let left_over : length (take (len - n) (drop n new)) ≡ len - n =
    length-take-le (len - n) (drop n new) (omega (arith, length-drop n new, as_long, row.within)) in
    let there : n + (len - n) ≡ len = omega arith in
    let left : len - n + (capacity - len) ≡ capacity - n = omega (arith, row.within) in
    let rest : drop (len - n) (drop n new) ≡ replicate (capacity - len) 0 =
    ap (λ xs. drop (len - n) xs) back ∙ drop-drop (len - n) n cells ∙ ap (λ k. drop k cells) there ∙ row.zeros in
    let tail : zeros ++ drop (len - n) (drop n new) ≡ replicate (capacity - n) 0 =
    ap (λ zs. zs ++ drop (len - n) (drop n new)) (cleared ∙ ap (λ k. replicate k 0) left_over)
    ∙ ap (λ xs. replicate (len - n) 0 ++ xs) rest
    ∙ replicate-append-replicate (len - n) (capacity - len) 0
    ∙ ap (λ k. replicate k 0) left in
    HoldsText-of_text capacity n text (put_mid n (len - n) new zeros) measured (omega (arith, row.within))
    (IsStringBytes-range_replaced (take len cells) from to bytes row.valid valid)
    (ap (λ xs. xs ++ (zeros ++ drop (len - n) (drop n new))) front ∙ ap (λ zs. text ++ zs) tail)
