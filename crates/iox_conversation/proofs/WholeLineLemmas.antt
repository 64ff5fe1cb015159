-- What is heard of lines that were read whole.
use Rattle.std.proofs.Common.{◌≡◌, ℕ, ◌==◌, Bool, true, false, List, [], ◌∷◌, ◌++◌, ◌∙◌, map, take, refl, sym, ap, arith, if◌then◌else◌}
use Rattle.std.proofs.lemmas.Grind.{common_steps}
use Rattle.iox_conversation.proofs.Shorthands.{before_first_of, ended_lines_of, heard, lines_of, onto_first}
use Rattle.iox_conversation.proofs.LineLemmas.{is_unbroken, heard-whole}
use Rattle.iox_conversation.specs.Lines.{heard_whole}

-- a byte before some lines is one before the first of them, or before the first of the others
onto-more : (b : ℕ) (lines others : List (List ℕ)) → (more : List (List ℕ))
    × (onto_first b (lines ++ others) ≡ before_first_of b lines ++ more)
onto-more b [] others = (onto_first b others, refl)
onto-more b (line ∷ lines) others = (others, refl)

before-more : (b : ℕ) (lines others : List (List ℕ)) → (more : List (List ℕ))
    × (before_first_of b (lines ++ others) ≡ before_first_of b lines ++ more)
before-more b [] others = (before_first_of b others, refl)
before-more b (line ∷ lines) others = (others, refl)

onto-last : (b : ℕ) (lines : List (List ℕ)) (last : List ℕ) → (end : List ℕ)
    × (onto_first b (lines ++ last ∷ []) ≡ before_first_of b lines ++ end ∷ [])
onto-last b [] last = (b ∷ last, refl)
onto-last b (line ∷ lines) last = (last, refl)

-- one more byte of what newlines end and of what stands after it
onto-more-if : (is_newline : Bool) (b : ℕ) (all ended others : List (List ℕ)) → all ≡ ended ++ others
    → (more : List (List ℕ)) × ((if is_newline then [] ∷ all else onto_first b all)
    ≡ (if is_newline then [] ∷ ended else before_first_of b ended) ++ more)
onto-more-if true b all ended others is = (others, ap (λ l. [] ∷ l) is)
onto-more-if false b all ended others is = let here = onto-more b ended others in (here.0, ap (λ l. onto_first b l) is ∙ here.1)

before-more-if : (is_newline : Bool) (b : ℕ) (all ended others : List (List ℕ)) → all ≡ ended ++ others
    → (more : List (List ℕ)) × ((if is_newline then [] ∷ all else before_first_of b all)
    ≡ (if is_newline then [] ∷ ended else before_first_of b ended) ++ more)
before-more-if true b all ended others is = (others, ap (λ l. [] ∷ l) is)
before-more-if false b all ended others is = let here = before-more b ended others in (here.0, ap (λ l. before_first_of b l) is ∙ here.1)

onto-last-if : (is_newline : Bool) (b : ℕ) (all ended : List (List ℕ)) (last : List ℕ) → all ≡ ended ++ last ∷ []
    → (end : List ℕ) × ((if is_newline then [] ∷ all else onto_first b all)
    ≡ (if is_newline then [] ∷ ended else before_first_of b ended) ++ end ∷ [])
onto-last-if true b all ended last is = (last, ap (λ l. [] ∷ l) is)
onto-last-if false b all ended last is = let here = onto-last b ended last in (here.0, ap (λ l. onto_first b l) is ∙ here.1)

-- whatever comes next, the lines that newlines end are the first lines
pub lines_of-more : (xs ys : List ℕ) → (more : List (List ℕ)) × (lines_of (xs ++ ys) ≡ ended_lines_of xs ++ more)
lines_of-more [] ys = (lines_of ys, refl)
lines_of-more (x ∷ xs) ys = let next
    = lines_of-more xs ys in onto-more-if (x == 10) x (lines_of (xs ++ ys)) (ended_lines_of xs) next.0 next.1

pub ended_lines_of-more : (xs ys : List ℕ) → (more : List (List ℕ)) × (ended_lines_of (xs ++ ys) ≡ ended_lines_of xs ++ more)
ended_lines_of-more [] ys = (ended_lines_of ys, refl)
ended_lines_of-more (x ∷ xs) ys = let next
    = ended_lines_of-more xs ys in before-more-if (x == 10) x (ended_lines_of (xs ++ ys)) (ended_lines_of xs) next.0 next.1

-- with one more newline there is one more line
pub lines_of-ended : (xs : List ℕ) → (last : List ℕ) × (lines_of (xs ++ 10 ∷ []) ≡ ended_lines_of xs ++ last ∷ [])
lines_of-ended [] = ([], refl)
lines_of-ended (x ∷ xs) = let next = lines_of-ended xs in onto-last-if (x == 10) x (lines_of (xs ++ 10 ∷ [])) (ended_lines_of xs) next.0
    next.1

map-append : (xs ys : List (List ℕ))
    → map (λ line. take 1025 line) (xs ++ ys) ≡ map (λ line. take 1025 line) xs ++ map (λ line. take 1025 line) ys
map-append [] ys = refl
map-append (x ∷ xs) ys = ap (λ l. take 1025 x ∷ l) (map-append xs ys)

-- whatever comes next, what is heard of the lines that newlines end is heard first
pub heard_whole-more : (ended : Bool) (xs ys : List ℕ) → (more : List (List ℕ))
    × (heard_whole ended (xs ++ ys) ≡ heard_whole false xs ++ more)
heard_whole-more true xs ys =
    let all = lines_of-more xs ys in
    (map (λ line. take 1025 line) all.0, ap (λ l. map (λ line. take 1025 line) l) all.1 ∙ map-append (ended_lines_of xs) all.0)
heard_whole-more false xs ys =
    let all = ended_lines_of-more xs ys in
    (map (λ line. take 1025 line) all.0, ap (λ l. map (λ line. take 1025 line) l) all.1 ∙ map-append (ended_lines_of xs) all.0)

-- lists that are the same with one more line each are the same
init-same : (xs ys : List (List ℕ)) (x y : List ℕ) → xs ++ x ∷ [] ≡ ys ++ y ∷ [] → xs ≡ ys
init-same [] [] x y same = refl
init-same [] (l ∷ []) x y same = grind (arith, common_steps)
init-same [] (l ∷ m ∷ ys) x y same = grind (arith, common_steps)
init-same (l ∷ []) [] x y same = grind (arith, common_steps)
init-same (l ∷ m ∷ xs) [] x y same = grind (arith, common_steps)
init-same (l ∷ xs) (m ∷ ys) x y same = grind (arith, common_steps, init-same xs ys x y)

-- lines after which a line with no newline is in progress are those that newlines end
pub heard_whole-done : (bytes line : List ℕ) (done : List (List ℕ)) → is_unbroken line ≡ true
    → ((rest : List ℕ) → heard (bytes ++ rest) ≡ done ++ heard (line ++ rest)) → heard_whole false bytes ≡ done
heard_whole-done bytes line done unbroken lines =
    let ended = lines_of-ended bytes in
    let left : heard (bytes ++ 10 ∷ []) ≡ heard_whole false bytes ++ take 1025 ended.0 ∷ [] =
    ap (λ l. map (λ line. take 1025 line) l) ended.1 ∙ map-append (ended_lines_of bytes) (ended.0 ∷ []) in
    let right : heard (bytes ++ 10 ∷ []) ≡ done ++ take 1025 line ∷ []
    = lines (10 ∷ []) ∙ ap (λ l. done ++ l) (heard-whole line [] unbroken) in
    init-same (heard_whole false bytes) done (take 1025 ended.0) (take 1025 line) (sym left ∙ right)
