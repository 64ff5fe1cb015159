-- A copy shows each member that is in the container at each moment of the copy, with its value.
use Rattle.std.proofs.Common.{◌≡◌, ℕ, ◌+◌, ◌*◌, ◌%◌, ◌<◌, ◌≤◌, Bool, true, false, if◌then◌else◌, ◌==◌, Option, Some, None, List, [], ◌∷◌}
use Rattle.std.proofs.Common.{◌++◌, length, set, slice_index, take, drop, refl, sym, ◌∙◌, ap, subst, arith, append_assoc, length-append}
use Rattle.std.proofs.Common.{mod-eq_of_lt, length-take-le, take-append-drop}
use Rattle.std.specs.Global.{Vec}
use Rattle.std.proofs.Math.Seq.{get_or-set_other, get_or-set_same}
use Rattle.std.proofs.lemmas.Bool.{eqb-false, eqb-true}
use Rattle.std.proofs.lemmas.List.{drop-append-le, take-append-le}
use Rattle.iox_queues_steps.specs.Access.{RingWords, after_access}
use Rattle.iox_queues_steps.specs.declared.access.Access.{Access}
use Rattle.iox_queues_steps.specs.declared.access.Access.TheVariants.{Load, Store, Exchange, Local}
use Rattle.iox_queues_steps.specs.declared.access.Word.TheVariants.{Write, Read, Cell}
use Rattle.iox_queues.specs.Moments.{words_after}
use Rattle.iox_queues.specs.Told.{own}
use Rattle.iox_queues.specs.declared.bits.machine.Event.{Event}
use Rattle.iox_robust_steps.specs.ContainerSteps.{is_shown, value_cell}
use Rattle.iox_robust_steps.specs.ContainerStays.{MayBeMade, StaysTillTakenOut, stored_by, whose_after}
use Rattle.iox_robust_steps.specs.ContainerThroughout.{EachShowsWhoStays, IfCopied, IsSoUpTo, IsTheirs, ShowsStaying, ShowsWhoStays}
use Rattle.iox_robust_steps.specs.ContainerTold.{AreMembersTold, CopyIsTrue, MemberTells, WasSo, shown_at}
use Rattle.iox_robust_steps.specs.declared.container.call.MemberAnswer.{MemberAnswer}
use Rattle.iox_robust_steps.specs.declared.container.call.MemberAnswer.TheVariants.{Added, Removed, Updated}
use Rattle.iox_robust_steps.specs.declared.container.call.MemberCall.{MemberCall}
use Rattle.iox_robust_steps.specs.declared.container.call.MemberCall.TheVariants as call
use Rattle.iox_robust_steps.specs.declared.container.MemberFinished.{MemberFinished}
use Rattle.iox_robust_steps.proofs.ContainerMoments.{count_along, length_after, stays_before, stays_behind, stays_first, value_along}
use Rattle.iox_robust_steps.proofs.ContainerMoments.{whose_behind, words_behind}
use Rattle.iox_robust_steps.proofs.Ending.{same_cells}

-- what the count of a place says of whose member is in
abbrev Says : Option ℕ → ℕ → Type 0
Says None count = is_shown count ≡ false
Says (Some owner) count = is_shown count ≡ true

said_by : (q count : ℕ) (b : Bool) → is_shown count ≡ b → Says (if b then Some q else None) count
said_by q count true h = h
said_by q count false h = h

module _ (n width place : ℕ) (within : place < n) where
  says_after : (q : ℕ) (a : Access) (now : Option ℕ) (words : RingWords) → length words.cells ≡ n + (n * width + 1)
      → MayBeMade n width place now q a → Says now (slice_index words.cells place)
      → Says (stored_by place q a now) (slice_index (after_access words a).cells place)
  says_after q (Load word) now words size may h = h
  says_after q (Store Write value) now words size may h = h
  says_after q (Store Read value) now words size may h = h
  says_after q (Store (Cell cell) value) now words size may h = of (cell == place) refl
    where
      at_cell : cell % length words.cells ≡ cell
      at_cell = mod-eq_of_lt (omega (arith, size, may.0))

      of : (b : Bool) → (cell == place) ≡ b → Says (if b then (if is_shown value then Some q else None) else now)
          (slice_index (set words.cells (cell % length words.cells) value) place)
      of true is =
          let same : slice_index (set words.cells (cell % length words.cells) value) place ≡ value
          = ap (λ (k : ℕ). slice_index (set words.cells k value) place) (at_cell ∙ eqb-true cell place is)
          ∙ get_or-set_same words.cells place value 0 (omega (arith, size, within)) in
          subst (Says (if is_shown value then Some q else None)) (sym same) (said_by q value (is_shown value) refl)
      of false is =
          let same : slice_index (set words.cells (cell % length words.cells) value) place ≡ slice_index words.cells place
          = ap (λ (k : ℕ). slice_index (set words.cells k value) place) at_cell
          ∙ get_or-set_other words.cells cell place value 0 (λ equal. eqb-false cell place is (sym equal)) in
          subst (Says now) (sym same) h
  says_after q (Exchange Write old new) now words size may h = of (words.write == old)
    where
      of : (b : Bool) → Says now (slice_index (if b then record words { write = new } else words).cells place)
      of true = h
      of false = h
  says_after q (Exchange Read old new) now words size may h = of (words.read == old)
    where
      of : (b : Bool) → Says now (slice_index (if b then record words { read = new } else words).cells place)
      of true = h
      of false = h
  says_after q (Exchange (Cell cell) old new) now words size may h = absurd may
  says_after q Local now words size may h = h

  says_along : (events : List Event) (now : Option ℕ) (words : RingWords) → length words.cells ≡ n + (n * width + 1)
      → StaysTillTakenOut n width place now events → Says now (slice_index words.cells place)
      → Says (whose_after place now events) (slice_index (words_after words events).cells place)
  says_along [] now words size stays h = h
  says_along (e ∷ events) now words size stays h = says_along events (stored_by place e.party e.access now) (after_access words e.access)
      (same_cells words e.access ∙ size) stays.1 (says_after e.party e.access now words size stays.0 h)

  -- a copy of which the member of this party is in at each moment
  module _ (p : ℕ) (start : RingWords) (size : length start.cells ≡ n + (n * width + 1))
      (out : is_shown (slice_index start.cells place) ≡ false) (first : ℕ) (events : List Event) (began : first ≤ length events)
      (stays : StaysTillTakenOut n width place None events) (theirs : IsSoUpTo (IsTheirs p place) first events) where
    abbrev base : List Event
    base = take first events

    abbrev since : List Event
    since = drop first events

    split : events ≡ base ++ since
    split = sym (take-append-drop first events)

    long : length base ≡ first
    long = length-take-le first events began

    whose_base : whose_after place None base ≡ Some p
    whose_base = theirs base since split (omega (arith, long))

    stays_since : StaysTillTakenOut n width place (Some p) since
    stays_since = subst (λ (o : Option ℕ). StaysTillTakenOut n width place o since) whose_base
        (stays_behind n width place None base since (subst (λ (es : List Event). StaysTillTakenOut n width place None es) split stays))

    base_size : length (words_after start base).cells ≡ n + (n * width + 1)
    base_size = length_after start base ∙ size

    in_since : (xs ys : List Event) → since ≡ xs ++ ys → whose_after place (Some p) xs ≡ Some p
    in_since xs ys same =
        sym (whose_behind place None base xs ∙ ap (λ (o : Option ℕ). whose_after place o xs) whose_base)
        ∙ theirs (base ++ xs) ys
        (split ∙ ap (λ (es : List Event). base ++ es) same ∙ sym (append_assoc base xs ys))
        (omega (arith, long, length-append base xs))

    -- the steps of a moment of the copy are those before it and some of its time
    module _ (steps rest : List Event) (same : events ≡ steps ++ rest) (inside : first ≤ length steps) where
      abbrev meanwhile : List Event
      meanwhile = drop first steps

      front : take first steps ≡ base
      front = sym (ap (take first) same ∙ take-append-le first steps rest inside)

      whole : steps ≡ base ++ meanwhile
      whole = sym (take-append-drop first steps) ∙ ap (λ (es : List Event). es ++ meanwhile) front

      back : since ≡ meanwhile ++ rest
      back = ap (drop first) same ∙ drop-append-le first steps rest inside

      words_then : words_after start steps ≡ words_after (words_after start base) meanwhile
      words_then = ap (words_after start) whole ∙ words_behind start base meanwhile

      stays_then : StaysTillTakenOut n width place (Some p) meanwhile
      stays_then = stays_before n width place (Some p) meanwhile rest
          (subst (λ (es : List Event). StaysTillTakenOut n width place (Some p) es) back stays_since)

      in_then : (xs ys : List Event) → meanwhile ≡ xs ++ ys → whose_after place (Some p) xs ≡ Some p
      in_then xs ys is = in_since xs (ys ++ rest)
          (back ∙ ap (λ (es : List Event). es ++ rest) is ∙ append_assoc xs ys rest)

      count_then : slice_index (words_after start steps).cells place ≡ slice_index (words_after start base).cells place
      count_then = ap (λ (w : RingWords). slice_index w.cells place) words_then
          ∙ count_along n p width place within meanwhile (words_after start base) base_size stays_then in_then

      value_then : (j : ℕ) → j < width → slice_index (words_after start steps).cells (value_cell n width place j)
          ≡ slice_index (words_after start base).cells (value_cell n width place j)
      value_then j low = ap (λ (w : RingWords). slice_index w.cells (value_cell n width place j)) words_then
          ∙ value_along n p width place within j low meanwhile (words_after start base) base_size stays_then in_then

    abbrev count : ℕ
    count = slice_index (words_after start base).cells place

    is_in_then : is_shown count ≡ true
    is_in_then = subst (λ (o : Option ℕ). Says o count) whose_base
        (says_along base None start size
        (stays_before n width place None base since (subst (λ (es : List Event). StaysTillTakenOut n width place None es) split stays))
        out)

    at_moment : (moment : ℕ) → first ≤ moment → moment ≤ length events → first ≤ length (take moment events)
    at_moment moment low high = omega (arith, low, length-take-le moment events high)

    shows_staying : (mine : List Event) → CopyIsTrue n width start first events mine
        → ShowsStaying n width start first events place (shown_at n place mine)
    shows_staying mine copy =
        let same : (shown_at n place mine).count ≡ count
        = copy.shows place count within (λ moment low high. count_then (take moment events) (drop moment events)
        (sym (take-append-drop moment events)) (at_moment moment low high)) in
        let is : is_shown (shown_at n place mine).count ≡ true = ap is_shown same ∙ is_in_then in
        let was : WasSo n width start first events place (shown_at n place mine) = copy.was_in place within is in record {
          is_in = is;
          value = λ steps rest whole inside j low. value_then steps rest whole inside j low
              ∙ sym (value_then (take was.moment events) (drop was.moment events) (sym (take-append-drop was.moment events))
              (at_moment was.moment was.after was.before) j low)
              ∙ was.value is j low;
        }

-- a call that ended
module _ (n width : ℕ) (values : List (Vec ℕ)) (start : RingWords) (size : length start.cells ≡ n + (n * width + 1))
    (out : (i : ℕ) → i < n → is_shown (slice_index start.cells i) ≡ false) where
  shows_of : (party first : ℕ) (events mine : List Event) (c : MemberCall) (a : MemberAnswer) → first ≤ length events
      → MemberTells n width values start 1 party first events mine c a
      → ((i : ℕ) → i < n → StaysTillTakenOut n width i None events)
      → IfCopied c a (ShowsWhoStays n width start first events mine)
  shows_of party first events mine (call.Add number owner) a began told stays = tt
  shows_of party first events mine (call.Remove owner index mode) a began told stays = tt
  shows_of party first events mine call.Update (Added got) began told stays = tt
  shows_of party first events mine call.Update (Removed state) began told stays = tt
  shows_of party first events mine call.Update (Updated true) began told stays = λ owner place within theirs.
      shows_staying n width place within owner start size (out place within) first events began (stays place within) theirs mine told
  shows_of party first events mine call.Update (Updated false) began told stays = tt
  shows_of party first events mine (call.Recover owner number mode) a began told stays = tt

  pub each_shows : (events : List Event) (finished : List MemberFinished) → AreMembersTold n width values start events finished
      → ((i : ℕ) → i < n → StaysTillTakenOut n width i None events) → EachShowsWhoStays n width start events finished
  each_shows events [] told stays = tt
  each_shows events (f ∷ finished) told stays = (
    shows_of f.party f.first (take f.last events) (own f.party (drop f.first (take f.last events))) f.call f.answer
        (omega (arith, told.0.1.begun, told.0.1.ended, length-take-le f.last events (omega (arith, told.0.1.ended)))) told.0.0
        (λ i within. stays_first n width i None f.last events (stays i within)),
    each_shows events finished told.1 stays,
  )
