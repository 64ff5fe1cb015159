-- The words of a connection's ring lie in the table of all words: an access of one of its ends is one of the ring, and any other
-- access leaves the ring as it is.
use Rattle.std.proofs.Common.{ℕ, ◌≡◌, ◌+◌, ◌-◌, ◌<◌, ◌≤◌, ◌%◌, ◌==◌, Bool, true, false, if◌then◌else◌, List, length, take, drop, set}
use Rattle.std.proofs.Common.{slice_index, refl, sym, ◌∙◌, ap, subst, inl, inr, arith}
use Rattle.std.proofs.lemmas.Bool.{cases_lt}
use Rattle.std.proofs.lemmas.Nat.{mod_below}
use Rattle.std.proofs.lemmas.List.{length-take, length-drop, get_or-take, get_or-drop, get_or-set_same, get_or-set_other, drop-set-lt}
use Rattle.std.proofs.lemmas.List.{drop-set-add, take-set-le}
use Rattle.std.proofs.Math.Seq.{take-set-lt}
use Rattle.iox_lanes_machine.specs.QueuesSteps.Access.{RingWords, word_of, after_store, answer_of, after_access}
use Rattle.iox_lanes_machine.specs.QueuesSteps.declared.access.Word.{Word}
use Rattle.iox_lanes_machine.specs.QueuesSteps.declared.access.Word.TheVariants.{Write, Read, Cell}
use Rattle.iox_lanes_machine.specs.QueuesSteps.declared.access.Access.{Access}
use Rattle.iox_lanes_machine.specs.QueuesSteps.declared.access.Access.TheVariants as own
use Rattle.iox_lanes_machine.specs.LanesBase.Numbers.{number_of, words_of, most_cells, IsWord}
use Rattle.iox_lanes_machine.specs.LanesBase.Table.{TableWords, held_by, stored_in, shared_answer, after_shared}
use Rattle.iox_lanes_machine.specs.LanesBase.Words.{in_ring, on_ring}
use Rattle.iox_lanes_machine.specs.LanesBase.declared.words.access.SharedAccess.{SharedAccess}
use Rattle.iox_lanes_machine.specs.LanesBase.declared.words.access.SharedAccess.TheVariants.{Load, Store, Exchange, Local}
use Rattle.iox_lanes_machine.specs.LanesBase.declared.words.word.ConnectionRing.{ConnectionRing}
use Rattle.iox_lanes_machine.specs.LanesBase.declared.words.word.ConnectionRing.TheVariants.{Submission, Completion}
use Rattle.iox_lanes_machine.specs.LanesBase.declared.words.word.SharedWord.{SharedWord}
use Rattle.iox_lanes_machine.specs.LanesBase.declared.words.word.SharedWord.TheVariants.{Ring, Slot}
use Rattle.iox_lanes_machine.proofs.LanesBase.Numbering.{apart, within}

-- a ring with n cells lies in the table
pub record IsSeat (ring : ConnectionRing) (table : TableWords) (connection cells : ℕ) : Type 0 where
  pub there : connection < table.sizes.connections
  pub some : 0 < cells
  pub room : cells ≤ most_cells table.sizes ring
  pub words : length table.words ≡ words_of table.sizes

-- where its first cell lies
abbrev pub start : ConnectionRing → TableWords → ℕ → ℕ
start ring table connection = number_of table.sizes (Ring connection ring (Cell 0))

-- the cells of a ring, if there are n
abbrev cells_in : ConnectionRing → TableWords → ℕ → ℕ → List ℕ
cells_in ring table connection cells = take cells (drop (start ring table connection) table.words)

-- the ring
abbrev ring_in : ConnectionRing → TableWords → ℕ → ℕ → RingWords
ring_in ring table connection cells = record {
  cells = cells_in ring table connection cells;
  write = held_by table (Ring connection ring Write);
  read = held_by table (Ring connection ring Read);
}

pub ends_below : (ring : ConnectionRing) (table : TableWords) (connection cells : ℕ) → IsSeat ring table connection cells
    → start ring table connection + cells ≤ length table.words
ends_below ring table connection cells s =
    let last : number_of table.sizes (Ring connection ring (Cell (cells - 1))) < words_of table.sizes
    = (within table.sizes (Ring connection ring (Cell (cells - 1))) (s.there, omega (arith, s.some, s.room))).1 in
    omega (arith, last, s.words, s.some)

pub cells_length : (ring : ConnectionRing) (table : TableWords) (connection cells : ℕ) → IsSeat ring table connection cells
    → length (cells_in ring table connection cells) ≡ cells
cells_length ring table connection cells s =
    omega (
      arith,
      length-take cells (drop (start ring table connection) table.words),
      length-drop (start ring table connection)
          table.words,
      ends_below ring table connection cells s,
    )

pub cell_held : (ring : ConnectionRing) (table : TableWords) (connection cells k : ℕ) → k < cells
    → slice_index (cells_in ring table connection cells) k ≡ held_by table (Ring connection ring (Cell k))
cell_held ring table connection cells k h =
    let e : start ring table connection + k ≡ number_of table.sizes (Ring connection ring (Cell k)) = omega arith in
    get_or-take cells (drop (start ring table connection) table.words) k 0 h ∙ get_or-drop (start ring table connection) table.words k 0
    ∙ ap (slice_index table.words) e

-- what a word of the ring holds
pub word_held : (ring : ConnectionRing) (table : TableWords) (connection cells : ℕ) (word : Word) → IsSeat ring table connection cells
    → word_of (ring_in ring table connection cells) word ≡ held_by table (in_ring connection ring cells word)
word_held ring table connection cells Write s = refl
word_held ring table connection cells Read s = refl
word_held ring table connection cells (Cell position) s =
    subst (λ (n : ℕ). slice_index (cells_in ring table connection cells) (position % n)
    ≡ held_by table (Ring connection ring (Cell (position % cells))))
    (sym (cells_length ring table connection cells s))
    (cell_held ring table connection cells (position % cells) (mod_below position cells s.some))

abbrev ring_words : List ℕ → ℕ → ℕ → RingWords
ring_words cells write read = record { cells = cells; write = write; read = read }

pub same_ring : (cells cells' : List ℕ) (write write' read read' : ℕ) → cells ≡ cells' → write ≡ write' → read ≡ read'
    → ring_words cells write read ≡ ring_words cells' write' read'
same_ring cells cells' write write' read read' e f g = cc (e, f, g)

pub write_below : (ring : ConnectionRing) (table : TableWords) (connection : ℕ)
    → number_of table.sizes (Ring connection ring Write) + 1 < start ring table connection
write_below ring table connection = omega arith

read_is : (ring : ConnectionRing) (table : TableWords) (connection : ℕ)
    → number_of table.sizes (Ring connection ring Read) ≡ number_of table.sizes (Ring connection ring Write) + 1
read_is ring table connection = omega arith

pub read_below : (ring : ConnectionRing) (table : TableWords) (connection : ℕ)
    → number_of table.sizes (Ring connection ring Read) < start ring table connection
read_below ring table connection = omega arith

-- a store below the cells leaves them
cells_stay : (ring : ConnectionRing) (table : TableWords) (connection cells i value : ℕ) → i < start ring table connection
    → take cells (drop (start ring table connection) (set table.words i value)) ≡ cells_in ring table connection cells
cells_stay ring table connection cells i value h
    = ap (λ (ws : List ℕ). take cells ws) (drop-set-lt (start ring table connection) table.words i value h)

-- a store in the ring
pub word_stored : (ring : ConnectionRing) (table : TableWords) (connection cells : ℕ) (word : Word) (value : ℕ)
    → IsSeat ring table connection cells
    → after_store (ring_in ring table connection cells) word value
    ≡ ring_in ring (stored_in table (in_ring connection ring cells word) value) connection cells
word_stored ring table connection cells Write value s =
    let w : ℕ = number_of table.sizes (Ring connection ring Write) in
    same_ring (cells_in ring table connection cells) _ value _ (held_by table (Ring connection ring Read)) _
    (sym (cells_stay ring table connection cells w value (omega (arith, write_below ring table connection))))
    (sym (get_or-set_same table.words w value 0
    (omega (arith, write_below ring table connection, ends_below ring table connection cells s))))
    (sym (get_or-set_other table.words w (number_of table.sizes (Ring connection ring Read)) value 0
    (λ same. absurd (omega (arith, same, read_is ring table connection)))))
word_stored ring table connection cells Read value s =
    let r : ℕ = number_of table.sizes (Ring connection ring Read) in
    same_ring (cells_in ring table connection cells) _ (held_by table (Ring connection ring Write)) _ value _
    (sym (cells_stay ring table connection cells r value (read_below ring table connection)))
    (sym (get_or-set_other table.words r (number_of table.sizes (Ring connection ring Write)) value 0
    (λ same. absurd (omega (arith, same, read_is ring table connection)))))
    (sym (get_or-set_same table.words r value 0
    (omega (arith, read_below ring table connection, ends_below ring table connection cells s))))
word_stored ring table connection cells (Cell position) value s =
    let k : ℕ = position % cells in
    let below : k < cells = mod_below position cells s.some in
    let i : ℕ = number_of table.sizes (Ring connection ring (Cell k)) in
    let at : i ≡ start ring table connection + k = omega arith in
    let put : take cells (drop (start ring table connection) (set table.words i value))
    ≡ set (cells_in ring table connection cells) k value =
    ap (λ (j : ℕ). take cells (drop (start ring table connection) (set table.words j value))) at
    ∙ ap (λ (ws : List ℕ). take cells ws) (drop-set-add (start ring table connection) table.words k value)
    ∙ take-set-lt cells (drop (start ring table connection) table.words) k value below in
    same_ring _ _ (held_by table (Ring connection ring Write)) _ (held_by table (Ring connection ring Read)) _
    (ap (λ (n : ℕ). set (cells_in ring table connection cells) (position % n) value) (cells_length ring table connection cells s) ∙ sym put)
    (sym (get_or-set_other table.words i (number_of table.sizes (Ring connection ring Write)) value 0
    (λ same. absurd (omega (arith, same, at, write_below ring table connection)))))
    (sym (get_or-set_other table.words i (number_of table.sizes (Ring connection ring Read)) value 0
    (λ same. absurd (omega (arith, same, at, read_below ring table connection)))))

-- an access of an end of the ring has the ring's answer
pub access_answer : (ring : ConnectionRing) (table : TableWords) (connection cells : ℕ) (access : Access)
    → IsSeat ring table connection cells
    → answer_of (ring_in ring table connection cells) access ≡ shared_answer table (on_ring connection ring cells access)
access_answer ring table connection cells (own.Load word) s = word_held ring table connection cells word s
access_answer ring table connection cells (own.Store word value) s = refl
access_answer ring table connection cells (own.Exchange word old new) s = word_held ring table connection cells word s
access_answer ring table connection cells own.Local s = refl

stored_if : (ring : ConnectionRing) (table : TableWords) (connection cells : ℕ) (word : Word) (value : ℕ) (won : Bool)
    → IsSeat ring table connection cells
    → (if won then after_store (ring_in ring table connection cells) word value else ring_in ring table connection cells)
    ≡ ring_in ring (if won then stored_in table (in_ring connection ring cells word) value else table) connection cells
stored_if ring table connection cells word value true s = word_stored ring table connection cells word value s
stored_if ring table connection cells word value false s = refl

-- and does to the ring in the table what it does to the ring
pub access_after : (ring : ConnectionRing) (table : TableWords) (connection cells : ℕ) (access : Access)
    → IsSeat ring table connection cells
    → after_access (ring_in ring table connection cells) access
    ≡ ring_in ring (after_shared table (on_ring connection ring cells access)) connection cells
access_after ring table connection cells (own.Load word) s = refl
access_after ring table connection cells (own.Store word value) s = word_stored ring table connection cells word value s
access_after ring table connection cells (own.Exchange word old new) s =
    ap (λ (found : ℕ). if found == old then after_store (ring_in ring table connection cells) word new else ring_in ring table
    connection cells) (word_held ring table connection cells word s)
    ∙ stored_if ring table connection cells word new (held_by table (in_ring connection ring cells word) == old) s
access_after ring table connection cells own.Local s = refl

-- the word is none of a ring of a connection
abbrev pub IsElsewhere : ConnectionRing → ℕ → SharedWord → Type 0
IsElsewhere Submission connection (Ring other Submission word) = other ≡ connection → ⊥
IsElsewhere Submission connection (Ring other Completion word) = Unit {0}
IsElsewhere Submission connection (Slot slot word) = Unit {0}
IsElsewhere Completion connection (Ring other Submission word) = Unit {0}
IsElsewhere Completion connection (Ring other Completion word) = other ≡ connection → ⊥
IsElsewhere Completion connection (Slot slot word) = Unit {0}

-- the access is to such a word of the service, or to none
abbrev pub GoesElsewhere : ConnectionRing → TableWords → ℕ → SharedAccess → Type 0
GoesElsewhere ring table connection (Load word) = Unit {0}
GoesElsewhere ring table connection (Store word value) = IsWord table.sizes word × IsElsewhere ring connection word
GoesElsewhere ring table connection (Exchange word old new) = IsWord table.sizes word × IsElsewhere ring connection word
GoesElsewhere ring table connection Local = Unit {0}

not_here : (ring : ConnectionRing) (connection : ℕ) (word : SharedWord) (here : Word) → IsElsewhere ring connection word
    → word ≡ Ring connection ring here → ⊥
not_here Submission connection (Ring other Submission word) here h e = h (cc e)
not_here Submission connection (Ring other Completion word) here h e = absurd (cc e)
not_here Submission connection (Slot slot word) here h e = absurd (cc e)
not_here Completion connection (Ring other Submission word) here h e = absurd (cc e)
not_here Completion connection (Ring other Completion word) here h e = h (cc e)
not_here Completion connection (Slot slot word) here h e = absurd (cc e)

differs : (ring : ConnectionRing) (table : TableWords) (connection : ℕ) (word : SharedWord) (here : Word) → IsWord table.sizes word
    → IsElsewhere ring connection word → IsWord table.sizes (Ring connection ring here)
    → number_of table.sizes word ≡ number_of table.sizes (Ring connection ring here) → ⊥
differs ring table connection word here is h there e
    = not_here ring connection word here h (apart table.sizes word (Ring connection ring here) is there e)

stored_elsewhere : (ring : ConnectionRing) (table : TableWords) (connection cells : ℕ) (word : SharedWord) (value : ℕ)
    → IsSeat ring table connection cells → IsWord table.sizes word → IsElsewhere ring connection word
    → ring_in ring (stored_in table word value) connection cells ≡ ring_in ring table connection cells
stored_elsewhere ring table connection cells word value s is h =
    let i : ℕ = number_of table.sizes word in
    same_ring _ (cells_in ring table connection cells) _ (held_by table (Ring connection ring Write)) _
    (held_by table (Ring connection ring Read))
    (elim (cases_lt i (start ring table connection)) [
      | inl lt ↦ cells_stay ring table connection cells i value lt
      | inr ge ↦ behind i refl ge
    ])
    (get_or-set_other table.words i (number_of table.sizes (Ring connection ring Write)) value 0
    (λ same. differs ring table connection word Write is h (s.there, tt) (sym same)))
    (get_or-set_other table.words i (number_of table.sizes (Ring connection ring Read)) value 0
    (λ same. differs ring table connection word Read is h (s.there, tt) (sym same)))
  where
    behind : (i : ℕ) → i ≡ number_of table.sizes word → start ring table connection ≤ i
        → take cells (drop (start ring table connection) (set table.words i value)) ≡ cells_in ring table connection cells
    behind i e ge =
        let k : ℕ = i - start ring table connection in
        let at : i ≡ start ring table connection + k = omega (arith, ge) in
        let past : cells ≤ k = elim (cases_lt k cells) [
          | inl lt ↦ absurd (differs ring table connection word (Cell k) is h (s.there, omega (arith, lt, s.room))
              (sym e ∙ omega (arith, at)))
          | inr over ↦ over
        ] in
        ap (λ (j : ℕ). take cells (drop (start ring table connection) (set table.words j value))) at
        ∙ ap (λ (ws : List ℕ). take cells ws) (drop-set-add (start ring table connection) table.words k value)
        ∙ take-set-le cells (drop (start ring table connection) table.words) k value past

-- any other access leaves the ring as it is
pub access_elsewhere : (ring : ConnectionRing) (table : TableWords) (connection cells : ℕ) (access : SharedAccess)
    → IsSeat ring table connection cells → GoesElsewhere ring table connection access
    → ring_in ring (after_shared table access) connection cells ≡ ring_in ring table connection cells
access_elsewhere ring table connection cells (Load word) s h = refl
access_elsewhere ring table connection cells (Store word value) s h = stored_elsewhere ring table connection cells word value s h.0 h.1
access_elsewhere ring table connection cells (Exchange word old new) s h = by_test (held_by table word == old)
  where
    by_test : (won : Bool) → ring_in ring (if won then stored_in table word new else table) connection cells
        ≡ ring_in ring table connection cells
    by_test true = stored_elsewhere ring table connection cells word new s h.0 h.1
    by_test false = refl
access_elsewhere ring table connection cells Local s h = refl
