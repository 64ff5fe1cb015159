-- A copy shows each member that is in the container at each moment of the copy, with its value, whoever is recovered.
use Rattle.std.proofs.Common.{◌≡◌, ℕ, ◌+◌, ◌*◌, ◌%◌, ◌^◌, ◌<◌, ◌≤◌, Bool, true, false, if◌then◌else◌, ◌==◌, ◌&&◌, Option, Some}
use Rattle.std.proofs.Common.{None}
use Rattle.std.proofs.Common.{List, [], ◌∷◌, ◌++◌, length, set, slice_index, take, drop, refl, sym, ◌∙◌, ap, subst, arith, append_assoc}
use Rattle.std.proofs.Common.{length-append, mod-eq_of_lt, length-take-le, take-append-drop}
use Rattle.std.specs.Global.{Vec}
use Rattle.std.proofs.Math.Seq.{get_or-set_other, get_or-set_same}
use Rattle.std.proofs.lemmas.Bool.{eq-eqb, eqb-false, eqb-true}
use Rattle.std.proofs.lemmas.List.{drop-append-le, take-append-le}
use Rattle.iox_queues_steps.specs.Access.{RingWords, after_access, after_store, answer_of, word_of}
use Rattle.iox_queues_steps.specs.declared.access.Access.{Access}
use Rattle.iox_queues_steps.specs.declared.access.Access.TheVariants.{Load, Store, Exchange, Local}
use Rattle.iox_queues_steps.specs.declared.access.Word.TheVariants.{Write, Read, Cell}
use Rattle.iox_queues.specs.Moments.{words_after}
use Rattle.iox_queues.specs.Recorded.{Answered}
use Rattle.iox_queues.specs.Told.{own}
use Rattle.iox_queues.specs.declared.bits.machine.Event.{Event}
use Rattle.iox_robust_steps.specs.ContainerInside.{EachShowsInside, IsInside, MayBeMadeSo, ShowsInside, StaysTillOut, inside_after}
use Rattle.iox_robust_steps.specs.ContainerInside.{inside_by}
use Rattle.iox_robust_steps.specs.ContainerSteps.{is_shown, value_cell}
use Rattle.iox_robust_steps.specs.ContainerStays.{MayBeStored}
use Rattle.iox_robust_steps.specs.ContainerThroughout.{IfCopied, IsSoUpTo, ShowsStaying}
use Rattle.iox_robust_steps.specs.ContainerTold.{AreMembersTold, CopyIsTrue, MemberTells, WasSo, shown_at}
use Rattle.iox_robust_steps.specs.declared.container.call.MemberAnswer.{MemberAnswer}
use Rattle.iox_robust_steps.specs.declared.container.call.MemberAnswer.TheVariants.{Added, Removed, Updated}
use Rattle.iox_robust_steps.specs.declared.container.call.MemberCall.{MemberCall}
use Rattle.iox_robust_steps.specs.declared.container.call.MemberCall.TheVariants as call
use Rattle.iox_robust_steps.specs.declared.container.MemberFinished.{MemberFinished}
use Rattle.iox_robust_steps.proofs.ContainerMoments.{length_after, words_behind}
use Rattle.iox_robust_steps.proofs.Ending.{same_cells}

-- some steps, and then others
pub inside_behind : (place : ℕ) (now : Option ℕ) (xs ys : List Event)
    → inside_after place now (xs ++ ys) ≡ inside_after place (inside_after place now xs) ys
inside_behind place now [] ys = refl
inside_behind place now (x ∷ xs) ys = inside_behind place (inside_by place x.party x.access x.answer now) xs ys

pub out_behind : (n width place : ℕ) (now : Option ℕ) (xs ys : List Event) → StaysTillOut n width place now (xs ++ ys)
    → StaysTillOut n width place (inside_after place now xs) ys
out_behind n width place now [] ys h = h
out_behind n width place now (x ∷ xs) ys h = out_behind n width place (inside_by place x.party x.access x.answer now) xs ys h.1

pub out_before : (n width place : ℕ) (now : Option ℕ) (xs ys : List Event) → StaysTillOut n width place now (xs ++ ys)
    → StaysTillOut n width place now xs
out_before n width place now [] ys h = tt
out_before n width place now (x ∷ xs) ys h = (h.0, out_before n width place (inside_by place x.party x.access x.answer now) xs ys h.1)

-- each step got what its word held
abbrev pub AreAnswered : RingWords → List Event → Type 0
AreAnswered words events = Answered words events (words_after words events)

pub answered_all : (words end : RingWords) (events : List Event) → Answered words events end → AreAnswered words events
answered_all words end [] h = refl
answered_all words end (x ∷ events) h = (h.0, answered_all (after_access words x.access) end events h.1)

pub answered_before : (words : RingWords) (xs ys : List Event) → AreAnswered words (xs ++ ys) → AreAnswered words xs
answered_before words [] ys h = refl
answered_before words (x ∷ xs) ys h = (h.0, answered_before (after_access words x.access) xs ys h.1)

pub answered_behind : (words : RingWords) (xs ys : List Event) → AreAnswered words (xs ++ ys) → AreAnswered (words_after words xs) ys
answered_behind words [] ys h = h
answered_behind words (x ∷ xs) ys h = answered_behind (after_access words x.access) xs ys h.1

-- the first steps
pub first_stay : (n width k i : ℕ) (events : List Event) → StaysTillOut n width i None events
    → StaysTillOut n width i None (take k events)
first_stay n width k i events h = out_before n width i None (take k events) (drop k events)
    (subst (λ (es : List Event). StaysTillOut n width i None es) (sym (take-append-drop k events)) h)

pub first_answered : (start : RingWords) (k : ℕ) (events : List Event) → AreAnswered start events → AreAnswered start (take k events)
first_answered start k events h = answered_before start (take k events) (drop k events)
    (subst (AreAnswered start) (sym (take-append-drop k events)) h)

-- what the count of a place says of whose member is in
abbrev Says : Option ℕ → ℕ → Type 0
Says None count = is_shown count ≡ false
Says (Some owner) count = is_shown count ≡ true

said_by : (q count : ℕ) (b : Bool) → is_shown count ≡ b → Says (if b then Some q else None) count
said_by q count true h = h
said_by q count false h = h

module _ (n width place : ℕ) (within : place < n) where
  module _ (words : RingWords) (size : length words.cells ≡ n + (n * width + 1)) where
    at_cell : (cell : ℕ) → cell < n + n * width → cell % length words.cells ≡ cell
    at_cell cell low = mod-eq_of_lt (omega (arith, size, low))

    stored_here : (cell value : ℕ) → cell < n + n * width → cell ≡ place
        → slice_index (set words.cells (cell % length words.cells) value) place ≡ value
    stored_here cell value low same = ap (λ (k : ℕ). slice_index (set words.cells k value) place) (at_cell cell low ∙ same)
        ∙ get_or-set_same words.cells place value 0 (omega (arith, size, within))

    stored_else : (cell value c : ℕ) → cell < n + n * width → (c ≡ cell → ⊥)
        → slice_index (set words.cells (cell % length words.cells) value) c ≡ slice_index words.cells c
    stored_else cell value c low other = ap (λ (k : ℕ). slice_index (set words.cells k value) c) (at_cell cell low)
        ∙ get_or-set_other words.cells cell c value 0 other

    says_after : (q answer : ℕ) (a : Access) (now : Option ℕ) → answer ≡ answer_of words a
        → MayBeMadeSo n width place now q a answer → Says now (slice_index words.cells place)
        → Says (inside_by place q a answer now) (slice_index (after_access words a).cells place)
    says_after q answer (Load word) now got may h = h
    says_after q answer (Store Write value) now got may h = h
    says_after q answer (Store Read value) now got may h = h
    says_after q answer (Store (Cell cell) value) now got may h = of (cell == place) refl
      where
        of : (b : Bool) → (cell == place) ≡ b → Says (if b then (if is_shown value then Some q else None) else now)
            (slice_index (set words.cells (cell % length words.cells) value) place)
        of true is = subst (Says (if is_shown value then Some q else None)) (sym (stored_here cell value may.0 (eqb-true cell place is)))
            (said_by q value (is_shown value) refl)
        of false is = subst (Says now) (sym (stored_else cell value place may.0 (λ equal. eqb-false cell place is (sym equal)))) h
    says_after q answer (Exchange Write old new) now got may h = of (words.write == old)
      where
        of : (b : Bool) → Says now (slice_index (if b then record words { write = new } else words).cells place)
        of true = h
        of false = h
    says_after q answer (Exchange Read old new) now got may h = of (words.read == old)
      where
        of : (b : Bool) → Says now (slice_index (if b then record words { read = new } else words).cells place)
        of true = h
        of false = h
    says_after q answer (Exchange (Cell cell) old new) now got may h =
        of (word_of words (Cell cell) == old) (cell == place) (answer == old) refl refl refl
      where
        low : cell < n + n * width
        low = omega (arith, may.0)

        of : (b c d : Bool) → (word_of words (Cell cell) == old) ≡ b → (cell == place) ≡ c → (answer == old) ≡ d
            → Says (if c && d then None else now)
            (slice_index (if b then after_store words (Cell cell) new else words).cells place)
        of true true true won is e = ap is_shown (stored_here cell new low (eqb-true cell place is)) ∙ may.2
        of true true false won is e = absurd (eqb-false answer old e (got ∙ eqb-true (word_of words (Cell cell)) old won))
        of true false d won is e =
            subst (Says now) (sym (stored_else cell new place low (λ equal. eqb-false cell place is (sym equal)))) h
        of false true true won is e = absurd (eqb-false (word_of words (Cell cell)) old won (sym got ∙ eqb-true answer old e))
        of false true false won is e = h
        of false false d won is e = h
    says_after q answer Local now got may h = h

  says_along : (events : List Event) (now : Option ℕ) (words : RingWords) → length words.cells ≡ n + (n * width + 1)
      → AreAnswered words events → StaysTillOut n width place now events → Says now (slice_index words.cells place)
      → Says (inside_after place now events) (slice_index (words_after words events).cells place)
  says_along [] now words size answered stays h = h
  says_along (e ∷ events) now words size answered stays h =
      says_along events (inside_by place e.party e.access e.answer now) (after_access words e.access) (same_cells words e.access ∙ size)
      answered.1 stays.1 (says_after words size e.party e.answer e.access now answered.0 stays.0 h)

  -- a cell that no step stores that leaves the party's member in
  module _ (p c : ℕ) (untouched : (q cell value : ℕ) → MayBeStored n width place (Some p) q cell value
      → inside_by place q (Store (Cell cell) value) 0 (Some p) ≡ Some p → c ≡ cell → ⊥)
      (no_count : (cell : ℕ) → cell < n → (cell ≡ place → ⊥) → c ≡ cell → ⊥) where
    same_after : (q answer : ℕ) (a : Access) (words : RingWords) → length words.cells ≡ n + (n * width + 1) → answer ≡ answer_of words a
        → MayBeMadeSo n width place (Some p) q a answer → inside_by place q a answer (Some p) ≡ Some p
        → slice_index (after_access words a).cells c ≡ slice_index words.cells c
    same_after q answer (Load word) words size got may kept = refl
    same_after q answer (Store Write value) words size got may kept = refl
    same_after q answer (Store Read value) words size got may kept = refl
    same_after q answer (Store (Cell cell) value) words size got may kept =
        stored_else words size cell value c may.0 (untouched q cell value may.1 kept)
    same_after q answer (Exchange Write old new) words size got may kept = of (words.write == old)
      where
        of : (b : Bool) → slice_index (if b then record words { write = new } else words).cells c ≡ slice_index words.cells c
        of true = refl
        of false = refl
    same_after q answer (Exchange Read old new) words size got may kept = of (words.read == old)
      where
        of : (b : Bool) → slice_index (if b then record words { read = new } else words).cells c ≡ slice_index words.cells c
        of true = refl
        of false = refl
    same_after q answer (Exchange (Cell cell) old new) words size got may kept = of (word_of words (Cell cell) == old) refl
      where
        -- an exchange that is won takes out another place's member
        elsewhere : (word_of words (Cell cell) == old) ≡ true → cell ≡ place → ⊥
        elsewhere won same =
            let both : ((cell == place) && (answer == old)) ≡ true
            = ap (λ (b : Bool). b && (answer == old)) (eq-eqb cell place same)
            ∙ eq-eqb answer old (got ∙ eqb-true (word_of words (Cell cell)) old won) in
            let wrong : ◌≡◌ {A = Option ℕ} None (Some p) = sym (ap (λ (b : Bool). if b then None else Some p) both) ∙ kept in cc

        of : (b : Bool) → (word_of words (Cell cell) == old) ≡ b
            → slice_index (if b then after_store words (Cell cell) new else words).cells c ≡ slice_index words.cells c
        of true won = stored_else words size cell new c (omega (arith, may.0)) (no_count cell may.0 (elsewhere won))
        of false won = refl
    same_after q answer Local words size got may kept = refl

    same_along : (events : List Event) (words : RingWords) → length words.cells ≡ n + (n * width + 1) → AreAnswered words events
        → StaysTillOut n width place (Some p) events
        → ((xs ys : List Event) → events ≡ xs ++ ys → inside_after place (Some p) xs ≡ Some p)
        → slice_index (words_after words events).cells c ≡ slice_index words.cells c
    same_along [] words size answered stays along = refl
    same_along (e ∷ events) words size answered stays along =
        let kept : inside_by place e.party e.access e.answer (Some p) ≡ Some p = along (e ∷ []) events refl in
        same_along events (after_access words e.access) (same_cells words e.access ∙ size) answered.1
        (subst (λ (o : Option ℕ). StaysTillOut n width place o events) kept stays.1)
        (λ xs ys same. ap (λ (o : Option ℕ). inside_after place o xs) (sym kept)
        ∙ along (e ∷ xs) ys (ap (λ (es : List Event). e ∷ es) same))
        ∙ same_after e.party e.answer e.access words size answered.0 stays.0 kept

  -- a store that takes the member out
  not_out : (p q cell value : ℕ) → cell ≡ place → is_shown value ≡ false
      → inside_by place q (Store (Cell cell) value) 0 (Some p) ≡ Some p → ⊥
  not_out p q cell value same hidden kept =
      let wrong : ◌≡◌ {A = Option ℕ} None (Some p)
      = sym (ap (λ (b : Bool). if b then (if is_shown value then Some q else None) else Some p) (eq-eqb cell place same)
      ∙ ap (λ (b : Bool). if b then Some q else None) hidden) ∙ kept in cc

  pub count_along : (p : ℕ) (events : List Event) (words : RingWords) → length words.cells ≡ n + (n * width + 1) → AreAnswered words events
      → StaysTillOut n width place (Some p) events
      → ((xs ys : List Event) → events ≡ xs ++ ys → inside_after place (Some p) xs ≡ Some p)
      → slice_index (words_after words events).cells place ≡ slice_index words.cells place
  count_along p = same_along p place
      (λ q cell value may kept same. not_out p q cell value (sym same) (may.0 (sym same)).1 kept)
      (λ cell low other same. other (sym same))

  pub value_along : (small : n < 2 ^ 62) (p j : ℕ) → j < width → (events : List Event) (words : RingWords)
      → length words.cells ≡ n + (n * width + 1) → AreAnswered words events → StaysTillOut n width place (Some p) events
      → ((xs ys : List Event) → events ≡ xs ++ ys → inside_after place (Some p) xs ≡ Some p)
      → slice_index (words_after words events).cells (value_cell n width place j) ≡ slice_index words.cells (value_cell n width place j)
  value_along small p j low = same_along p (value_cell n width place j)
      (λ q cell value may kept same. may.1 j low (sym same))
      (λ cell count other same. omega (arith, same, count, small))

  -- a copy of which the member of this party is in at each moment
  module _ (small : n < 2 ^ 62) (p : ℕ) (start : RingWords) (size : length start.cells ≡ n + (n * width + 1))
      (out : is_shown (slice_index start.cells place) ≡ false) (first : ℕ) (events : List Event) (began : first ≤ length events)
      (answered : AreAnswered start events)
      (stays : StaysTillOut n width place None events) (theirs : IsSoUpTo (IsInside p place) first events) where
    abbrev base : List Event
    base = take first events

    abbrev since : List Event
    since = drop first events

    split : events ≡ base ++ since
    split = sym (take-append-drop first events)

    long : length base ≡ first
    long = length-take-le first events began

    whose_base : inside_after place None base ≡ Some p
    whose_base = theirs base since split (omega (arith, long))

    stays_split : StaysTillOut n width place None (base ++ since)
    stays_split = subst (λ (es : List Event). StaysTillOut n width place None es) split stays

    answered_split : AreAnswered start (base ++ since)
    answered_split = subst (AreAnswered start) split answered

    stays_since : StaysTillOut n width place (Some p) since
    stays_since = subst (λ (o : Option ℕ). StaysTillOut n width place o since) whose_base
        (out_behind n width place None base since stays_split)

    base_size : length (words_after start base).cells ≡ n + (n * width + 1)
    base_size = length_after start base ∙ size

    in_since : (xs ys : List Event) → since ≡ xs ++ ys → inside_after place (Some p) xs ≡ Some p
    in_since xs ys same =
        sym (inside_behind place None base xs ∙ ap (λ (o : Option ℕ). inside_after place o xs) whose_base)
        ∙ theirs (base ++ xs) ys
        (split ∙ ap (λ (es : List Event). base ++ es) same ∙ sym (append_assoc base xs ys))
        (omega (arith, long, length-append base xs))

    -- the steps of a moment of the copy are those before it and some of its time
    module _ (steps rest : List Event) (same : events ≡ steps ++ rest) (inside : first ≤ length steps) where
      abbrev meanwhile : List Event
      meanwhile = drop first steps

      front : take first steps ≡ base
      front = sym (ap (take first) same ∙ take-append-le first steps rest inside)

      whole : steps ≡ base ++ meanwhile
      whole = sym (take-append-drop first steps) ∙ ap (λ (es : List Event). es ++ meanwhile) front

      back : since ≡ meanwhile ++ rest
      back = ap (drop first) same ∙ drop-append-le first steps rest inside

      words_then : words_after start steps ≡ words_after (words_after start base) meanwhile
      words_then = ap (words_after start) whole ∙ words_behind start base meanwhile

      stays_then : StaysTillOut n width place (Some p) meanwhile
      stays_then = out_before n width place (Some p) meanwhile rest
          (subst (λ (es : List Event). StaysTillOut n width place (Some p) es) back stays_since)

      answered_then : AreAnswered (words_after start base) meanwhile
      answered_then = answered_before (words_after start base) meanwhile rest
          (subst (AreAnswered (words_after start base)) back (answered_behind start base since answered_split))

      in_then : (xs ys : List Event) → meanwhile ≡ xs ++ ys → inside_after place (Some p) xs ≡ Some p
      in_then xs ys is = in_since xs (ys ++ rest)
          (back ∙ ap (λ (es : List Event). es ++ rest) is ∙ append_assoc xs ys rest)

      count_then : slice_index (words_after start steps).cells place ≡ slice_index (words_after start base).cells place
      count_then = ap (λ (w : RingWords). slice_index w.cells place) words_then
          ∙ count_along p meanwhile (words_after start base) base_size answered_then stays_then in_then

      value_then : (j : ℕ) → j < width → slice_index (words_after start steps).cells (value_cell n width place j)
          ≡ slice_index (words_after start base).cells (value_cell n width place j)
      value_then j low = ap (λ (w : RingWords). slice_index w.cells (value_cell n width place j)) words_then
          ∙ value_along small p j low meanwhile (words_after start base) base_size answered_then stays_then in_then

    abbrev count : ℕ
    count = slice_index (words_after start base).cells place

    is_in_then : is_shown count ≡ true
    is_in_then = subst (λ (o : Option ℕ). Says o count) whose_base
        (says_along base None start size (answered_before start base since answered_split)
        (out_before n width place None base since stays_split) out)

    at_moment : (moment : ℕ) → first ≤ moment → moment ≤ length events → first ≤ length (take moment events)
    at_moment moment low high = omega (arith, low, length-take-le moment events high)

    shows_inside : (mine : List Event) → CopyIsTrue n width start first events mine
        → ShowsStaying n width start first events place (shown_at n place mine)
    shows_inside mine copy =
        let same : (shown_at n place mine).count ≡ count
        = copy.shows place count within (λ moment low high. count_then (take moment events) (drop moment events)
        (sym (take-append-drop moment events)) (at_moment moment low high)) in
        let is : is_shown (shown_at n place mine).count ≡ true = ap is_shown same ∙ is_in_then in
        let was : WasSo n width start first events place (shown_at n place mine) = copy.was_in place within is in record {
          is_in = is;
          value = λ steps rest whole inside j low. value_then steps rest whole inside j low
              ∙ sym (value_then (take was.moment events) (drop was.moment events) (sym (take-append-drop was.moment events))
              (at_moment was.moment was.after was.before) j low)
              ∙ was.value is j low;
        }

-- a call that ended
module _ (n width : ℕ) (small : n < 2 ^ 62) (values : List (Vec ℕ)) (start : RingWords) (size : length start.cells ≡ n + (n * width + 1))
    (out : (i : ℕ) → i < n → is_shown (slice_index start.cells i) ≡ false) where
  shows_of : (party first : ℕ) (events mine : List Event) (c : MemberCall) (a : MemberAnswer) → first ≤ length events
      → AreAnswered start events
      → MemberTells n width values start 1 party first events mine c a
      → ((i : ℕ) → i < n → StaysTillOut n width i None events)
      → IfCopied c a (ShowsInside n width start first events mine)
  shows_of party first events mine (call.Add number owner) a began answered told stays = tt
  shows_of party first events mine (call.Remove owner index mode) a began answered told stays = tt
  shows_of party first events mine call.Update (Added got) began answered told stays = tt
  shows_of party first events mine call.Update (Removed state) began answered told stays = tt
  shows_of party first events mine call.Update (Updated true) began answered told stays = λ owner place within theirs.
      shows_inside n width place within small owner start size (out place within) first events began answered (stays place within) theirs
      mine told
  shows_of party first events mine call.Update (Updated false) began answered told stays = tt
  shows_of party first events mine (call.Recover owner number mode) a began answered told stays = tt

  pub each_shows_inside : (events : List Event) (finished : List MemberFinished) → AreAnswered start events
      → AreMembersTold n width values start events finished → ((i : ℕ) → i < n → StaysTillOut n width i None events)
      → EachShowsInside n width start events finished
  each_shows_inside events [] answered told stays = tt
  each_shows_inside events (f ∷ finished) answered told stays = (
    shows_of f.party f.first (take f.last events) (own f.party (drop f.first (take f.last events))) f.call f.answer
        (omega (arith, told.0.1.begun, told.0.1.ended, length-take-le f.last events (omega (arith, told.0.1.ended))))
        (first_answered start f.last events answered) told.0.0 (λ i within. first_stay n width f.last i events (stays i within)),
    each_shows_inside events finished answered told.1 stays,
  )
