-- The lines that were read whole where a conversation breaks off.
use Rattle.std.proofs.Common.{ℕ, ◌≡◌, ◌<◌, ◌==◌, ◌⊎◌, ◌∷◌, ◌++◌, ◌∙◌, Bool, true, false, List, [], length, take, refl, sym, ap, inl, inr}
use Rattle.std.proofs.Common.{arith, append_assoc, length-append}
use Rattle.std.proofs.lemmas.List.{append-nil}
use Rattle.std.proofs.lemmas.Grind.{common_steps}
use Rattle.iox_conversation.proofs.Shorthands.{heard}
use Rattle.iox_conversation.proofs.LineLemmas.{heard-whole, is_unbroken, lines_of-alone, unbroken-append}
use Rattle.iox_conversation.proofs.WholeLineLemmas.{heard_whole-done, heard_whole-more}
use Rattle.iox_conversation.specs.Lines.{heard_whole}

-- bytes up to their first newline, and those after it
abbrev SplitsAtNewline : List ℕ → Type 0
SplitsAtNewline bytes = (first : List ℕ) × (more : List ℕ) × (bytes ≡ first ++ (10 ∷ more)) × (is_unbroken first ≡ true)

split-at_first : (newline : Bool) (b : ℕ) (bytes : List ℕ) → (b == 10) ≡ newline → (is_unbroken bytes ≡ false → SplitsAtNewline bytes)
    → is_unbroken (b ∷ bytes) ≡ false → SplitsAtNewline (b ∷ bytes)
split-at_first true b bytes is later broken =
    let newline : b ≡ 10 = grind (arith, common_steps) in ([], bytes, ap (λ c. c ∷ bytes) newline, refl)
split-at_first false b bytes is later broken =
    let split = later (grind (arith, common_steps)) in
    let unbroken = split.3 in (b ∷ split.0, split.1, ap (λ l. b ∷ l) split.2, grind (arith, common_steps))

split-at_newline : (bytes : List ℕ) → is_unbroken bytes ≡ false → SplitsAtNewline bytes
split-at_newline [] broken = absurd (grind (arith, common_steps))
split-at_newline (b ∷ bytes) broken = split-at_first (b == 10) b bytes refl (split-at_newline bytes) broken

-- bytes that end a line are heard as one line more
ended-line : (bytes first line rest : List ℕ) (done : List (List ℕ)) → is_unbroken line ≡ true → is_unbroken first ≡ true
    → ((rest : List ℕ) → heard (bytes ++ rest) ≡ done ++ heard (line ++ rest))
    → heard ((bytes ++ (first ++ 10 ∷ [])) ++ rest) ≡ (done ++ take 1025 (line ++ first) ∷ []) ++ heard rest
ended-line bytes first line rest done unbroken more heards =
    rw (
      append_assoc bytes (first ++ 10 ∷ []) rest,
      append_assoc first (10 ∷ []) rest,
      heards (first ++ 10 ∷ rest),
      ← append_assoc line first (10 ∷ rest),
      heard-whole (line ++ first) rest (unbroken-append line first unbroken more),
    ) (sym (append_assoc done (take 1025 (line ++ first) ∷ []) (heard rest)))

heard-some : (line : List ℕ) → 0 < length line → is_unbroken line ≡ true → 0 < length (heard line)
heard-some [] some unbroken = absurd (omega (arith, some))
heard-some (b ∷ line) some unbroken = rw (lines_of-alone b line unbroken) (omega arith)

-- where a line has to be answered next, more lines were read whole than those before the piece
pub due-longer : (ended : Bool) (bytes piece line : List ℕ) (done : List (List ℕ)) → is_unbroken line ≡ true
    → ((rest : List ℕ) → heard (bytes ++ rest) ≡ done ++ heard (line ++ rest))
    → (is_unbroken piece ≡ false) ⊎ ((piece ≡ []) × (ended ≡ true) × (0 < length line))
    → length (heard_whole false bytes) < length (heard_whole ended (bytes ++ piece))
due-longer ended bytes piece line done unbroken heards (inl newline) =
    let parts = split-at_newline piece newline in
    let before = bytes ++ (parts.0 ++ 10 ∷ []) in
    let here : bytes ++ piece ≡ before ++ parts.1 =
    ap (λ l. bytes ++ l) (parts.2 ∙ sym (append_assoc parts.0 (10 ∷ []) parts.1)) ∙ sym (append_assoc bytes (parts.0 ++ 10 ∷ []) parts.1) in
    let one_more = heard_whole-done before [] (done ++ take 1025 (line ++ parts.0) ∷ []) refl
    (λ rest. ended-line bytes parts.0 line rest done unbroken parts.3 heards) in
    let others = heard_whole-more ended before parts.1 in
    omega (
      arith,
      ap (λ (all : List (List ℕ)). length all) (heard_whole-done bytes line done unbroken heards),
      ap (λ (l : List ℕ). length (heard_whole ended l)) here,
      ap (λ (all : List (List ℕ)). length all) others.1,
      ap (λ (all : List (List ℕ)). length all) one_more,
      length-append (heard_whole false before) others.0,
      length-append done (take 1025 (line ++ parts.0) ∷ []),
    )
due-longer ended bytes piece line done unbroken heards (inr (none, at_end, some)) =
    let last : 0 < length (heard (line ++ [])) = rw (append-nil line) (heard-some line some unbroken) in
    rw (none, at_end) (omega (
      arith,
      ap (λ (all : List (List ℕ)). length all) (heard_whole-done bytes line done unbroken heards),
      ap (λ (all : List (List ℕ)). length all) (heards []),
      length-append done (heard (line ++ [])),
      last,
    ))

-- the lines that the first bytes of a piece end come after those before it, and others after them
pub whole-by : (ended : Bool) (bytes piece first more line then : List ℕ) (done lines : List (List ℕ)) → is_unbroken line ≡ true
    → is_unbroken then ≡ true → piece ≡ first ++ more → ((rest : List ℕ) → heard (bytes ++ rest) ≡ done ++ heard (line ++ rest))
    → ((rest : List ℕ) → heard (line ++ (first ++ rest)) ≡ lines ++ heard (then ++ rest))
    → (others : List (List ℕ)) × (heard_whole ended (bytes ++ piece) ≡ heard_whole false bytes ++ (lines ++ others))
whole-by ended bytes piece first more line then done lines unbroken unbroken_then all heards heards_then =
    let before = heard_whole-done bytes line done unbroken heards in
    let both = heard_whole-done (bytes ++ first) then (done ++ lines) unbroken_then
    (λ rest. rw (append_assoc bytes first rest, heards (first ++ rest), heards_then rest)
    (sym (append_assoc done lines (heard (then ++ rest))))) in
    let others = heard_whole-more ended (bytes ++ first) more in (
      others.0,
      ap (λ l. heard_whole ended l) (ap (λ l. bytes ++ l) all ∙ sym (append_assoc bytes first more))
          ∙ (others.1 ∙ (ap (λ l. l ++ others.0) (both ∙ ap (λ l. l ++ lines) (sym before))
          ∙ append_assoc (heard_whole false bytes) lines others.0)),
    )

-- at the end of the input the last line comes after those before it
pub whole-at_end : (ended : Bool) (bytes piece line : List ℕ) (done : List (List ℕ)) → is_unbroken line ≡ true → piece ≡ []
    → ended ≡ true → ((rest : List ℕ) → heard (bytes ++ rest) ≡ done ++ heard (line ++ rest))
    → heard_whole ended (bytes ++ piece) ≡ heard_whole false bytes ++ (heard (line ++ []) ++ [])
whole-at_end ended bytes piece line done unbroken none at_end heards =
    rw (none, at_end, append-nil (heard (line ++ [])))
    (heards [] ∙ ap (λ l. l ++ heard (line ++ [])) (sym (heard_whole-done bytes line done unbroken heards)))
