use Rattle.std.proofs.Common.{ℕ, ◌≡◌, ◌+◌, ◌<◌, ◌≤◌, ◌++◌, ◌∷◌, [], List, Bool, true, false, cond, length, take, drop, arith, refl, sym}
use Rattle.std.proofs.Common.{ap, ◌∙◌, subst}
use Rattle.std.proofs.Math.ListN.{get_or, set}
use Rattle.std.specs.List.{items_where_true}
use Rattle.std.specs.List.Retain.{IsFiltered, ReturnsInTurn}
use Rattle.iox_container.specs.Retained.{KeepsAsAnswered}
use Rattle.std.proofs.lemmas.List.{append-nil, drop-drop, drop-set-lt, get_or-drop, length-set, length-take-le, length_push, take_all}
use Rattle.std.proofs.lemmas.List.{take_more, take_more_set}

-- the items at which the answers say true, once one more item has its answer
items_where_true-push : {X : Type 0} (bs : List Bool) (xs : List X) (b : Bool) (x : X) → length bs ≡ length xs
    → items_where_true (bs ++ b ∷ []) (xs ++ x ∷ []) ≡ items_where_true bs xs ++ cond b (x ∷ []) []
items_where_true-push [] [] true x same = refl
items_where_true-push [] [] false x same = refl
items_where_true-push [] (y ∷ ys) b x same = absurd (omega arith)
items_where_true-push (c ∷ bs) [] b x same = absurd (omega arith)
items_where_true-push (true ∷ bs) (y ∷ ys) b x same = ap (λ zs. y ∷ zs) (items_where_true-push bs ys b x (omega arith))
items_where_true-push (false ∷ bs) (y ∷ ys) b x same = items_where_true-push bs ys b x (omega arith)

module _ {X P : Type 0} (R : P → X → Bool → P → Type 0) where
  -- one more call after the others
  ReturnsInTurn-push : (p : P) (bs : List Bool) (xs : List X) (q : P) (b : Bool) (x : X) (r : P) → length bs ≡ length xs
      → ReturnsInTurn R p bs xs q → R q x b r → ReturnsInTurn R p (bs ++ b ∷ []) (xs ++ x ∷ []) r
  ReturnsInTurn-push p [] [] q b x r same calls last = (r, let S : P → Type 0 = λ s. R s x b r in subst S (sym calls) last, refl)
  ReturnsInTurn-push p [] (y ∷ ys) q b x r same calls last = absurd (omega arith)
  ReturnsInTurn-push p (c ∷ bs) [] q b x r same calls last = absurd calls
  ReturnsInTurn-push p (c ∷ bs) (y ∷ ys) q b x r same calls last =
      (calls.0, calls.1, ReturnsInTurn-push calls.0 bs ys q b x r (omega arith) calls.2 last)

  -- the first `at` items have been asked about: what was kept stands in front, and the rest is as it was
  pub record RetainedSoFar (first : P) (old new : List X) (now : P) (kept at : ℕ) : Type 0 where
    pub answers : List Bool
    pub count : length answers ≡ at
    pub calls : ReturnsInTurn R first answers (take at old) now
    pub front : take kept new ≡ items_where_true answers (take at old)
    pub rest : drop at new ≡ drop at old
    pub behind : kept ≤ at
    pub within : at ≤ length old
    pub long : length new ≡ length old

  pub RetainedSoFar-none : (first : P) (xs : List X) → RetainedSoFar first xs xs first 0 0
  RetainedSoFar-none first xs = record {
    answers = [];
    count = refl;
    calls = refl;
    front = refl;
    rest = refl;
    behind = omega arith;
    within = omega arith;
    long = refl;
  }

  pub RetainedSoFar-all : (first : P) (old new : List X) (now : P) (kept at : ℕ) → RetainedSoFar first old new now kept at → length old ≤ at
      → IsFiltered R first old (take kept new)
  RetainedSoFar-all first old new now kept at s done =
      let whole : take at old ≡ old = take_all at old done in
      let C : List X → Type 0 = λ xs. ReturnsInTurn R first s.answers xs now in
      (s.answers, now, s.count ∙ omega (arith, s.within), subst C whole s.calls, s.front ∙ ap (λ xs. items_where_true s.answers xs) whole)

  -- the same, with the state that just these calls leave
  pub RetainedSoFar-asked : (first : P) (old new : List X) (now : P) (kept at : ℕ) → RetainedSoFar first old new now kept at
      → length old ≤ at
      → KeepsAsAnswered R first old (take kept new) now
  RetainedSoFar-asked first old new now kept at s done =
      let whole : take at old ≡ old = take_all at old done in
      let C : List X → Type 0 = λ xs. ReturnsInTurn R first s.answers xs now in
      (s.answers, s.count ∙ omega (arith, s.within), subst C whole s.calls, s.front ∙ ap (λ xs. items_where_true s.answers xs) whole)

  -- the calls so far and one more, whatever it answers
  next_calls : (first : P) (old new : List X) (now : P) (kept at : ℕ) (x : X) (b : Bool) (next : P)
      (s : RetainedSoFar first old new now kept at)
      → take (at + 1) old ≡ take at old ++ x ∷ [] → R now x b next → ReturnsInTurn R first (s.answers ++ b ∷ []) (take (at + 1) old) next
  next_calls first old new now kept at x b next s taken call =
      let C : List X → Type 0 = λ xs. ReturnsInTurn R first (s.answers ++ b ∷ []) xs next in
      subst C (sym taken) (ReturnsInTurn-push first s.answers (take at old) now b x next
      (s.count ∙ sym (length-take-le at old s.within)) s.calls call)

  -- what was kept so far and the next item, if it is kept
  next_front : (first : P) (old new : List X) (now : P) (kept at : ℕ) (x : X) (b : Bool) (s : RetainedSoFar first old new now kept at)
      → take (at + 1) old ≡ take at old ++ x ∷ []
      → take kept new ++ cond b (x ∷ []) [] ≡ items_where_true (s.answers ++ b ∷ []) (take (at + 1) old)
  next_front first old new now kept at x b s taken =
      ap (λ xs. xs ++ cond b (x ∷ []) []) s.front
      ∙ sym (items_where_true-push s.answers (take at old) b x (s.count ∙ sym (length-take-le at old s.within)))
      ∙ ap (λ xs. items_where_true (s.answers ++ b ∷ []) xs) (sym taken)

  next_rest : (old new : List X) (at : ℕ) → drop at new ≡ drop at old → drop (at + 1) new ≡ drop (at + 1) old
  next_rest old new at rest = sym (drop-drop 1 at new) ∙ ap (λ xs. drop 1 xs) rest ∙ drop-drop 1 at old

  -- the item that is read stands in the old list too
  next_taken : (old new : List X) (at : ℕ) (d x : X) → drop at new ≡ drop at old → at < length old → x ≡ get_or new at d
      → take (at + 1) old ≡ take at old ++ x ∷ []
  next_taken old new at d x rest more read =
      let here : get_or new at d ≡ get_or old at d =
      ap (λ k. get_or new k d) (omega arith) ∙ sym (get_or-drop at new 0 d) ∙ ap (λ xs. get_or xs 0 d) rest ∙ get_or-drop at old 0 d ∙
      ap (λ k. get_or old k d) (omega arith) in
      take_more old at d more ∙ ap (λ y. take at old ++ y ∷ []) (sym (read ∙ here))

  -- the item at `at` goes
  pub RetainedSoFar-drop : (first : P) (old new : List X) (now : P) (kept at : ℕ) (d x : X) (next : P)
      → RetainedSoFar first old new now kept at
      → at < length old → x ≡ get_or new at d → R now x false next → RetainedSoFar first old new next kept (at + 1)
  RetainedSoFar-drop first old new now kept at d x next s more read call =
      let taken : take (at + 1) old ≡ take at old ++ x ∷ [] = next_taken old new at d x s.rest more read in
      record {
        answers = s.answers ++ false ∷ [];
        count = length_push s.answers false ∙ ap (λ n. n + 1) s.count;
        calls = next_calls first old new now kept at x false next s taken call;
        front = sym (append-nil (take kept new)) ∙ next_front first old new now kept at x false s taken;
        rest = next_rest old new at s.rest;
        behind = omega (arith, s.behind);
        within = omega arith;
        long = s.long;
      }

  -- the item at `at` is kept
  pub RetainedSoFar-keep : (first : P) (old new : List X) (now : P) (kept at : ℕ) (d x : X) (next : P)
      → RetainedSoFar first old new now kept at
      → at < length old → x ≡ get_or new at d → R now x true next → RetainedSoFar first old (set new kept x) next (kept + 1) (at + 1)
  RetainedSoFar-keep first old new now kept at d x next s more read call =
      let taken : take (at + 1) old ≡ take at old ++ x ∷ [] = next_taken old new at d x s.rest more read in
      record {
        answers = s.answers ++ true ∷ [];
        count = length_push s.answers true ∙ ap (λ n. n + 1) s.count;
        calls = next_calls first old new now kept at x true next s taken call;
        front = take_more_set new kept x (omega (arith, s.long, s.behind)) ∙ next_front first old new now kept at x true s taken;
        rest = drop-set-lt (at + 1) new kept x (omega (arith, s.behind)) ∙ next_rest old new at s.rest;
        behind = omega (arith, s.behind);
        within = omega arith;
        long = length-set new kept x ∙ s.long;
      }
