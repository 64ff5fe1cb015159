-- What is written for what is read. `answers` says what the answer to a line is, and how it changes the machine that answers; `used` counts
-- how many of the numbers below 2^64 the machine has given.
use Rattle.std.specs.Prelude.{◌≡◌, ◌⊎◌, ℕ, ◌+◌, ◌^◌, ◌<◌, ◌≤◌, ◌==◌, Bool, true, false, not, List, [], ◌∷◌, ◌++◌, Option, length}
use Rattle.std.specs.List.{list_all}
use Rattle.std.specs.Io.KnownBytes.{Consumes, Appends, IsAtEnd}
use Rattle.iox_conversation.specs.Lines.{heard_whole}
use Rattle.iox_conversation.specs.declared.error.ServeError.{ServeError}
use Rattle.iox_conversation.specs.declared.error.ServeError.TheVariants.{ReadFault, WriteFault, OutOfMemory}

-- The output answers these lines, one output line for each, in order.
abbrev pub Served : {M : Type 0} → (M → List ℕ → List ℕ → M → Type 0) → M → List (List ℕ) → List ℕ → M → Type 0
Served answers old [] out new = (out ≡ []) × (new ≡ old)
Served {M} answers old (line ∷ lines) out new =
    (text : List ℕ) × (rest : List ℕ) × (mid : M) × answers old line text mid × Served answers mid lines rest new
    × (out ≡ text ++ (10 ∷ rest))

-- The output answers each line of the input, from this state of the machine on.
abbrev pub IsConversation : {M : Type 0} → (M → List ℕ → List ℕ → M → Type 0) → M → List ℕ → List ℕ → Type 0
IsConversation {M} answers start input out = (final : M) × Served answers start (heard_whole true input) out final

-- A conversation in progress: the machine that answers, and what was heard of the line that isn't whole yet.
pub record SessionState (M : Type 0) : Type 0 where
  pub machine : M
  pub line : List ℕ

-- The bytes were read, and the output answers each line that they complete, whatever comes next.
pub record Advances {M : Type 0} (answers : M → List ℕ → List ℕ → M → Type 0) (used : M
    → ℕ) (old : SessionState M) (bytes out : List ℕ) (new : SessionState M) : Type 0 where
  pub done : List (List ℕ)
  pub served : Served answers old.machine done out new.machine
  pub lines : (rest : List ℕ) → heard_whole true (old.line ++ (bytes ++ rest)) ≡ done ++ heard_whole true (new.line ++ rest)
  pub counts : used new.machine ≤ used old.machine + length bytes

-- The output answers each line that the first of the bytes complete, and the remaining bytes end a line.
pub record StopsShort {M : Type 0} (answers : M → List ℕ → List ℕ → M → Type 0) (used : M
    → ℕ) (old : SessionState M) (bytes out : List ℕ) : Type 0 where
  pub first : List ℕ
  pub more : List ℕ
  pub mid : SessionState M
  pub all : bytes ≡ first ++ more
  pub advances : Advances answers used old first out mid
  pub whole : list_all (λ b. not (b == 10)) mid.line ≡ true
  pub due : list_all (λ b. not (b == 10)) more ≡ false

-- The bytes are the last that were read, and the output answers each line.
pub record Ends {M : Type 0} (answers : M → List ℕ → List ℕ → M → Type 0) (old : SessionState M) (bytes out : List ℕ) : Type 0 where
  pub final : M
  pub served : Served answers old.machine (heard_whole true (old.line ++ bytes)) out final

-- A conversation from this state to the end of the input: the bytes that the reader still had, at most 2^36, were read to their end, and
-- what was written answers them.
pub record Converses {M : Type 0} (answers : M → List ℕ → List ℕ → M → Type 0) (used : M
    → ℕ) (old : SessionState M) (left leaves held holds : Option (List ℕ)) : Type 0 where
  pub bytes : List ℕ
  pub text : List ℕ
  pub last : List ℕ
  pub mid : SessionState M
  pub consumed : Consumes left leaves bytes
  pub all : IsAtEnd leaves
  pub few : length bytes ≤ 2 ^ 36
  pub written : Appends held holds (text ++ last)
  pub advances : Advances answers used old bytes text mid
  pub ends : Ends answers mid [] last

-- The bytes are a beginning of the answers to the lines that a last piece completes; or those that its first bytes complete, if memory ran
-- out for the next line, or, at the end of the input, for the last line.
abbrev pub AreBegun : {M : Type 0} → (M → List ℕ → List ℕ → M → Type 0) → (M → ℕ) → Bool → SessionState M → List ℕ → List ℕ → Type 0
AreBegun {M} answers used ended old piece part =
    (rest : List ℕ) × (((first : List ℕ) × (more : List ℕ) × (new : SessionState M) × (piece ≡ first ++ more)
    × Advances answers used old first (part ++ rest) new × (list_all (λ b. not (b == 10)) new.line ≡ true))
    ⊎ ((piece ≡ []) × (ended ≡ true) × Ends answers old [] (part ++ rest)))

-- A line has to be answered next: these bytes end it, or it is the last one and isn't empty.
abbrev pub IsDue : {M : Type 0} → Bool → SessionState M → List ℕ → Type 0
IsDue ended session piece = (list_all (λ b. not (b == 10)) piece ≡ false) ⊎ ((piece ≡ []) × (ended ≡ true) × (0 < length session.line))

-- A conversation from this state that broke off, of at most 2^36 bytes. All that was read before a last piece is answered. After a read
-- fault there is no such piece, and after a write fault a beginning of its answers is written. If memory ran out, nothing was read yet, or
-- that piece ends the first line that isn't answered.
pub record BreaksOff {M : Type 0} (answers : M → List ℕ → List ℕ → M → Type 0) (used : M → ℕ) (error : ServeError) (ended : Bool)
    (old : SessionState M) (left leaves held holds : Option (List ℕ)) : Type 0 where
  pub bytes : List ℕ
  pub text : List ℕ
  pub piece : List ℕ
  pub part : List ℕ
  pub mid : SessionState M
  pub consumed : Consumes left leaves (bytes ++ piece)
  pub few : length (bytes ++ piece) ≤ 2 ^ 36
  pub written : Appends held holds (text ++ part)
  pub advances : Advances answers used old bytes text mid
  pub whole : list_all (λ b. not (b == 10)) mid.line ≡ true
  pub short : length piece ≤ 65536
  pub read : error ≡ ReadFault → piece ≡ []
  pub begun : (part ≡ []) ⊎ ((error ≡ WriteFault) × AreBegun answers used ended mid piece part)
  pub due : error ≡ OutOfMemory → IsDue ended mid piece ⊎ ((bytes ≡ []) × (piece ≡ []))

-- What was written is a beginning of the reply lines, in order, to lines that were read whole: the first of them, one reply line for each.
-- At most 2^36 bytes of the input were read.
pub record WritesABeginning {M : Type 0} (answers : M → List ℕ → List ℕ → M
    → Type 0) (ended : Bool) (start : M) (left leaves held holds : Option (List ℕ)) : Type 0 where
  pub read : List ℕ
  pub written : List ℕ
  pub unwritten : List ℕ
  pub lines : List (List ℕ)
  pub others : List (List ℕ)
  pub final : M
  pub consumed : Consumes left leaves read
  pub few : length read ≤ 2 ^ 36
  pub appended : Appends held holds written
  pub whole : heard_whole ended read ≡ lines ++ others
  pub served : Served answers start lines (written ++ unwritten) final
