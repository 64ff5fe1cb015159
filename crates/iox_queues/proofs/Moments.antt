-- Each call that ended did what it answered at moments of its own.
use Rattle.std.proofs.Common.{◌≡◌, ℕ, ◌+◌, ◌%◌, ◌<◌, ◌≤◌, inl, inr, Bool, true, false, if◌then◌else◌, ◌==◌, ◌&&◌, ◌||◌, nat_lt, nat_le}
use Rattle.std.proofs.Common.{Some}
use Rattle.std.proofs.Common.{None, List, [], ◌∷◌, ◌++◌, length, slice_index, take, drop, refl, sym, ◌∙◌, ap, subst, arith}
use Rattle.std.proofs.Common.{length-append, length-set, append_assoc}
use Rattle.std.specs.List.{list_any}
use Rattle.std.proofs.lemmas.Bool.{and_parts, eqb-false, eqb-true, leb-true, ltb-false, ltb-true}
use Rattle.std.proofs.lemmas.List.{length-replicate, length-take-le, take-append-drop}
use Rattle.iox_queues_steps.specs.Access.{RingWords, after_access, answer_of, word_of}
use Rattle.iox_queues_steps.specs.declared.access.Access.{Access}
use Rattle.iox_queues_steps.specs.declared.access.Access.TheVariants.{Load, Store, Exchange, Local}
use Rattle.iox_queues_steps.specs.declared.access.Word.{Word}
use Rattle.iox_queues_steps.specs.declared.access.Word.TheVariants.{Write, Read, Cell}
use Rattle.iox_queues.specs.Sums.{increments, raised_by, taken_by, taken_out}
use Rattle.iox_queues.specs.Told.{Tells, finds_full, finds_none, own, shows}
use Rattle.iox_queues.specs.Recorded.{Answered}
use Rattle.iox_queues.specs.Machine.{AreTold, IsToldBy, SetState, start_words}
use Rattle.iox_queues.specs.Asked.{ChangesBy, ChangesPlaces, EachChanges}
use Rattle.iox_queues.specs.Kept.{IsKept}
use Rattle.iox_queues.specs.Moments.{CallsHaveMoments, EachHasMoments, HasMoment, IsAtLargest, IsAtZero, IsAtZeroOrTakenOut, IsOneMore}
use Rattle.iox_queues.specs.Moments.{IsTakenOut}
use Rattle.iox_queues.specs.Moments.{MomentsOf, words_after}
use Rattle.iox_queues.specs.declared.bits.call.Answer.{Answer}
use Rattle.iox_queues.specs.declared.bits.call.Answer.TheVariants.{Added, Taken, Swept}
use Rattle.iox_queues.specs.declared.bits.call.Call.{Call}
use Rattle.iox_queues.specs.declared.bits.call.Call.TheVariants as call
use Rattle.iox_queues.specs.declared.bits.machine.Event.{Event}
use Rattle.iox_queues.specs.declared.bits.machine.Finished.{Finished}

-- no access changes how many places there are
stored_length : (words : RingWords) (word : Word) (new : ℕ) → length (after_access words (Store word new)).cells ≡ length words.cells
stored_length words Write new = refl
stored_length words Read new = refl
stored_length words (Cell place) new = length-set words.cells (place % length words.cells) new

either_length : (words : RingWords) (word : Word) (new : ℕ) (b : Bool)
    → length (if b then after_access words (Store word new) else words).cells ≡ length words.cells
either_length words word new true = stored_length words word new
either_length words word new false = refl

access_length : (words : RingWords) (access : Access) → length (after_access words access).cells ≡ length words.cells
access_length words (Load word) = refl
access_length words (Store word new) = stored_length words word new
access_length words (Exchange word old new) = either_length words word new (word_of words word == old)
access_length words Local = refl

words_length : (words : RingWords) (events : List Event) → length (words_after words events).cells ≡ length words.cells
words_length words [] = refl
words_length words (x ∷ events) = words_length (after_access words x.access) events ∙ access_length words x.access

-- what stands of all steps stands of one of them
answered_then : (words end : RingWords) (earlier : List Event) (e : Event) (later : List Event)
    → Answered words (earlier ++ e ∷ later) end → e.answer ≡ answer_of (words_after words earlier) e.access
answered_then words end [] e later h = h.0
answered_then words end (x ∷ earlier) e later h = answered_then (after_access words x.access) end earlier e later h.1

changed_then : (n : ℕ) (words : RingWords) (earlier : List Event) (e : Event) (later : List Event)
    → EachChanges n words (earlier ++ e ∷ later) → ChangesPlaces n (words_after words earlier) e
changed_then n words [] e later h = h.0
changed_then n words (x ∷ earlier) e later h = changed_then n (after_access words x.access) earlier e later h.1

-- one of a party's steps is so: it lies among all steps
abbrev Lies : (Event → Bool) → ℕ → List Event → Type 0
Lies test p events = (earlier : List Event) × (e : Event) × (later : List Event) × (events ≡ earlier ++ e ∷ later) × (e.party ≡ p)
    × (test e ≡ true)

behind : (test : Event → Bool) (p : ℕ) (x : Event) (events : List Event) → Lies test p events → Lies test p (x ∷ events)
behind test p x events f = (x ∷ f.0, f.1, f.2, ap (λ (es : List Event). x ∷ es) f.3, f.4, f.5)

lies_here : (test : Event → Bool) (p : ℕ) (x : Event) (events : List Event) (b : Bool) → test x ≡ b → x.party ≡ p
    → (list_any test (own p events) ≡ true → Lies test p events)
    → (b || list_any test (own p events)) ≡ true → Lies test p (x ∷ events)
lies_here test p x events true is its later h = ([], x, events, refl, its, is)
lies_here test p x events false is its later h = behind test p x events (later h)

lies_if : (test : Event → Bool) (p : ℕ) (x : Event) (events : List Event) (b : Bool) → (x.party == p) ≡ b
    → (list_any test (own p events) ≡ true → Lies test p events)
    → list_any test (if b then x ∷ own p events else own p events) ≡ true → Lies test p (x ∷ events)
lies_if test p x events true same later h = lies_here test p x events (test x) refl (eqb-true x.party p same) later h
lies_if test p x events false same later h = behind test p x events (later h)

lies_in : (test : Event → Bool) (p : ℕ) (events : List Event) → list_any test (own p events) ≡ true → Lies test p events
lies_in test p [] h = absurd (cc)
lies_in test p (x ∷ events) h = lies_if test p x events (x.party == p) refl (lies_in test p events) h

-- where steps add up to something, one of them adds something
adds_some : (f : Event → ℕ) (x : Event) (rest : ℕ) (any : Bool) (b : Bool) → nat_lt 0 (f x) ≡ b → (0 < rest → any ≡ true)
    → 0 < f x + rest → (b || any) ≡ true
adds_some f x rest any true e h some = refl
adds_some f x rest any false e h some = h (omega (arith, some, ltb-false 0 (f x) e))

one_raises : (n i : ℕ) (events : List Event) → 0 < increments n i events
    → list_any (λ (e : Event). nat_lt 0 (raised_by n i e.access e.answer)) events ≡ true
one_raises n i [] some = absurd (omega arith)
one_raises n i (x ∷ events) some =
    adds_some (λ (e : Event). raised_by n i e.access e.answer) x (increments n i events)
    (list_any (λ (e : Event). nat_lt 0 (raised_by n i e.access e.answer)) events) (nat_lt 0 (raised_by n i x.access x.answer)) refl
    (one_raises n i events) some

one_takes : (n i : ℕ) (events : List Event) → 0 < taken_out n i events
    → list_any (λ (e : Event). nat_lt 0 (taken_by n i e.access e.answer)) events ≡ true
one_takes n i [] some = absurd (omega arith)
one_takes n i (x ∷ events) some =
    adds_some (λ (e : Event). taken_by n i e.access e.answer) x (taken_out n i events)
    (list_any (λ (e : Event). nat_lt 0 (taken_by n i e.access e.answer)) events) (nat_lt 0 (taken_by n i x.access x.answer)) refl
    (one_takes n i events) some

-- the step found place i at 0
abbrev shows_none : ℕ → ℕ → Event → Bool
shows_none n i e = shows n i e.access && (e.answer == 0)

-- steps that take nothing out of a place, and found none, found it at 0
shown_or_later : (shown : Bool) (taken : ℕ) (any any' : Bool) (b : Bool) → nat_lt 0 taken ≡ b → taken ≡ 0 → (any ≡ true → any' ≡ true)
    → ((shown || b) || any) ≡ true → (shown || any') ≡ true
shown_or_later true taken any any' b e none later h = refl
shown_or_later false taken any any' true e none later h = absurd (omega (arith, ltb-true 0 taken e, none))
shown_or_later false taken any any' false e none later h = later h

shown_none : (n i : ℕ) (events : List Event) → taken_out n i events ≡ 0 → list_any (finds_none n i) events ≡ true
    → list_any (shows_none n i) events ≡ true
shown_none n i [] none h = absurd (cc)
shown_none n i (x ∷ events) none h =
    shown_or_later (shows_none n i x) (taken_by n i x.access x.answer) (list_any (finds_none n i) events)
    (list_any (shows_none n i) events) (nat_lt 0 (taken_by n i x.access x.answer)) refl (omega (arith, none))
    (shown_none n i events (omega (arith, none))) h

-- the answer is what the place held
held : (words : RingWords) (n i : ℕ) (access : Access) → length words.cells ≡ n → shows n i access ≡ true
    → answer_of words access ≡ slice_index words.cells i
held words n i (Load Write) size shown = absurd (cc)
held words n i (Load Read) size shown = absurd (cc)
held words n i (Load (Cell place)) size shown =
    ap (λ (k : ℕ). slice_index words.cells (place % k)) size ∙ ap (λ (k : ℕ). slice_index words.cells k) (eqb-true (place % n) i shown)
held words n i (Store word new) size shown = absurd (cc)
held words n i (Exchange Write old new) size shown = absurd (cc)
held words n i (Exchange Read old new) size shown = absurd (cc)
held words n i (Exchange (Cell place) old new) size shown =
    ap (λ (k : ℕ). slice_index words.cells (place % k)) size ∙ ap (λ (k : ℕ). slice_index words.cells k) (eqb-true (place % n) i shown)
held words n i Local size shown = absurd (cc)

-- what one step found and left, by the words then
module _ (n : ℕ) (words : RingWords) (e : Event) (i : ℕ) (there : i < n) (size : length words.cells ≡ n)
    (answered : e.answer ≡ answer_of words e.access) (changes : ChangesPlaces n words e) where
  abbrev before : ℕ
  before = slice_index words.cells i

  abbrev after : ℕ
  after = slice_index (after_access words e.access).cells i

  by : ChangesBy (raised_by n i e.access e.answer) (taken_by n i e.access e.answer) before after
  by = changes i there

  one_more : nat_lt 0 (raised_by n i e.access e.answer) ≡ true → IsOneMore before after
  one_more is = by.raises (ltb-true 0 (raised_by n i e.access e.answer) is)

  taken_away : nat_lt 0 (taken_by n i e.access e.answer) ≡ true → IsTakenOut before after
  taken_away is =
      let some : 0 < taken_by n i e.access e.answer = ltb-true 0 (taken_by n i e.access e.answer) is in
      let all : (before ≡ taken_by n i e.access e.answer) × (after ≡ 0) = by.takes some in
      (omega (arith, some, all.0), all.1)

  found_full : (max : ℕ) → finds_full max n i e ≡ true → IsAtLargest max before after
  found_full max is =
      let parts : (shows n i e.access ≡ true) × (nat_le max e.answer ≡ true) = and_parts (shows n i e.access) (nat_le max e.answer) is in
      omega (arith, leb-true max e.answer parts.1, answered, held words n i e.access size parts.0)

  found_none : shows_none n i e ≡ true → IsAtZero before after
  found_none is =
      let parts : (shows n i e.access ≡ true) × ((e.answer == 0) ≡ true) = and_parts (shows n i e.access) (e.answer == 0) is in
      sym (held words n i e.access size parts.0) ∙ sym answered ∙ eqb-true e.answer 0 parts.1

  none_or_taken : finds_none n i e ≡ true → IsAtZeroOrTakenOut before after
  none_or_taken is = test (shows_none n i e) refl is
    where
      test : (b : Bool) → shows_none n i e ≡ b → (b || nat_lt 0 (taken_by n i e.access e.answer)) ≡ true → IsAtZeroOrTakenOut before after
      test true shown h = inl (found_none shown)
      test false shown h = inr (taken_away h)

-- the moments of a call whose steps lie among these
module _ (max n : ℕ) (end : RingWords) (party first : ℕ) (events : List Event) (began : first ≤ length events)
    (answered : Answered (start_words n) events end) (changes : EachChanges n (start_words n) events) where
  placed : (i : ℕ) (test : Event → Bool) (IsSo : ℕ → ℕ → Type 0) → list_any test (own party (drop first events)) ≡ true
      → ((words : RingWords) (e : Event) → length words.cells ≡ n → e.answer ≡ answer_of words e.access → ChangesPlaces n words e
      → test e ≡ true → IsSo (slice_index words.cells i) (slice_index (after_access words e.access).cells i))
      → HasMoment (start_words n) party first i IsSo events
  placed i test IsSo any so =
      let f : Lies test party (drop first events) = lies_in test party (drop first events) any in
      let earlier : List Event = take first events ++ f.0 in
      let whole : events ≡ earlier ++ f.1 ∷ f.2 = sym (take-append-drop first events)
      ∙ ap (λ (es : List Event). take first events ++ es) f.3 ∙ sym (append_assoc (take first events) f.0 (f.1 ∷ f.2)) in
      record {
        earlier = earlier;
        event = f.1;
        later = f.2;
        whole = whole;
        inside = omega (arith, length-append (take first events) f.0, length-take-le first events began);
        its = f.4;
        so = so (words_after (start_words n) earlier) f.1
            (words_length (start_words n) earlier ∙ length-replicate {A = ℕ} n 0)
            (answered_then (start_words n) end earlier f.1 f.2
            (subst (λ (es : List Event). Answered (start_words n) es end) whole answered))
            (changed_then n (start_words n) earlier f.1 f.2
            (subst (λ (es : List Event). EachChanges n (start_words n) es) whole changes)) f.5;
      }

  counted_once : (i : ℕ) (b : Bool) → (i == i) ≡ b → increments n i (own party (drop first events)) ≡ (if b then 1 else 0)
      → 0 < increments n i (own party (drop first events))
  counted_once i true e h = omega (arith, h)
  counted_once i false e h = absurd (eqb-false i i e refl)

  moments_of : (c : Call) (answer : Answer) → Tells max n c answer (own party (drop first events))
      → MomentsOf max n party first c answer events
  moments_of (call.Set place) (Added true) t =
      placed place (λ (e : Event). nat_lt 0 (raised_by n place e.access e.answer)) IsOneMore
      (one_raises n place (own party (drop first events)) (counted_once place (place == place) refl (t.1 place)))
      (λ words e size answered changes. one_more n words e place t.0 size answered changes)
  moments_of (call.Set place) (Added false) t =
      placed place (finds_full max n place) (IsAtLargest max) t.3
      (λ words e size answered changes. found_full n words e place t.0 size answered changes max)
  moments_of (call.Set place) (Taken got) t = t
  moments_of (call.Set place) Swept t = t
  moments_of call.ResetNext (Taken (Some place)) t =
      placed place (λ (e : Event). nat_lt 0 (taken_by n place e.access e.answer)) IsTakenOut
      (one_takes n place (own party (drop first events)) t.2)
      (λ words e size answered changes. taken_away n words e place t.1 size answered changes)
  moments_of call.ResetNext (Taken None) t = λ place there.
      placed place (shows_none n place) IsAtZero (shown_none n place (own party (drop first events)) (t.1 place) (t.2 place there))
      (λ words e size answered changes. found_none n words e place there size answered changes)
  moments_of call.ResetNext (Added added) t = t
  moments_of call.ResetNext Swept t = t
  moments_of call.ResetAll Swept t = λ place there.
      placed place (finds_none n place) IsAtZeroOrTakenOut (t.1 place there)
      (λ words e size answered changes. none_or_taken n words e place there size answered changes)
  moments_of call.ResetAll (Added added) t = t
  moments_of call.ResetAll (Taken got) t = t

-- the first of some steps
answered_front : (words end : RingWords) (xs ys : List Event) → Answered words (xs ++ ys) end → Answered words xs (words_after words xs)
answered_front words end [] ys h = refl
answered_front words end (x ∷ xs) ys h = (h.0, answered_front (after_access words x.access) end xs ys h.1)

changes_front : (n : ℕ) (words : RingWords) (xs ys : List Event) → EachChanges n words (xs ++ ys) → EachChanges n words xs
changes_front n words [] ys h = tt
changes_front n words (x ∷ xs) ys h = (h.0, changes_front n (after_access words x.access) xs ys h.1)

each_has : (max n : ℕ) (end : RingWords) (events : List Event) → Answered (start_words n) events end
    → EachChanges n (start_words n) events → (finished : List Finished) → AreTold max n events finished
    → EachHasMoments max n events finished
each_has max n end events answered changes [] h = tt
each_has max n end events answered changes (f ∷ finished) h =
    let t : IsToldBy max n events f = h.0 in
    let whole : events ≡ take f.last events ++ drop f.last events = sym (take-append-drop f.last events) in (
      moments_of max n (words_after (start_words n) (take f.last events)) f.party f.first (take f.last events)
          (omega (arith, t.begun, t.ended, length-take-le f.last events (omega (arith, t.ended))))
          (answered_front (start_words n) end (take f.last events) (drop f.last events)
          (subst (λ (es : List Event). Answered (start_words n) es end) whole answered))
          (changes_front n (start_words n) (take f.last events) (drop f.last events)
          (subst (λ (es : List Event). EachChanges n (start_words n) es) whole changes)) f.call f.answer t.tells,
      each_has max n end events answered changes finished h.1,
    )

pub have_moments : (m : SetState) → IsKept m → CallsHaveMoments m
have_moments m k = each_has m.max (length m.words.cells) m.words m.events k.recorded.answered k.acts m.finished k.told
