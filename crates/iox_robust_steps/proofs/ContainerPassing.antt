-- Each finished addition and each finished removal takes effect at a step of its own, whoever is recovered: stated by what calls
-- permit, and by how long members stay.
use Rattle.std.proofs.Common.{◌≡◌, ℕ, ◌+◌, ◌*◌, ◌^◌, ◌<◌, ◌≤◌, ◌⊎◌, inl, inr, ⊎_elim, Bool, true, false, if◌then◌else◌, ◌==◌, ◌&&◌}
use Rattle.std.proofs.Common.{nat_lt, Ok, Err, Option, Some, None, List, [], ◌∷◌, ◌++◌, length, slice_index, take, drop, refl, sym, ◌∙◌}
use Rattle.std.proofs.Common.{ap, subst, append_assoc}
use Rattle.std.specs.Global.{Vec}
use Rattle.std.proofs.lemmas.Bool.{cases_eq, eq-eqb, eqb-false, eqb-true, lt-ltb}
use Rattle.std.proofs.lemmas.List.{drop-append-le}
use Rattle.iox_queues_steps.specs.Access.{RingWords, after_access}
use Rattle.iox_queues_steps.specs.declared.access.Access.{Access}
use Rattle.iox_queues_steps.specs.declared.access.Access.TheVariants.{Load, Store, Exchange, Local}
use Rattle.iox_queues_steps.specs.declared.access.Word.TheVariants.{Write, Read, Cell}
use Rattle.iox_queues.specs.Moments.{words_after}
use Rattle.iox_queues.specs.Told.{own}
use Rattle.iox_queues.specs.Values.{table_value}
use Rattle.iox_queues.specs.declared.bits.machine.Event.{Event}
use Rattle.iox_robust_steps.specs.ContainerInside.{MayBeMadeSo, StaysTillOut, inside_after, inside_by}
use Rattle.iox_robust_steps.specs.ContainerKept.{EachWasIn, WasIn}
use Rattle.iox_robust_steps.specs.ContainerMoments.{AddsAt, EachHasItsMoment, IsExpelledIn, IsIn, IsInWith, IsNotIn, IsSoFrom, MomentOf}
use Rattle.iox_robust_steps.specs.ContainerMoments.{RemovesAt, expels}
use Rattle.iox_robust_steps.specs.ContainerSteps.{is_shown, value_cell}
use Rattle.iox_robust_steps.specs.ContainerStays.{EachLetsPass, MayBeStored, Passing, passed_by, passed_in, passed_with}
use Rattle.iox_robust_steps.specs.ContainerThroughout.{IsSoUpTo}
use Rattle.iox_robust_steps.specs.ContainerTold.{AreMembersTold, ComesIn, GoesOut, MemberTells}
use Rattle.iox_robust_steps.specs.Machine.{is_lost}
use Rattle.iox_robust_steps.specs.declared.container.call.MemberAnswer.{MemberAnswer}
use Rattle.iox_robust_steps.specs.declared.container.call.MemberAnswer.TheVariants.{Added, Removed, Updated}
use Rattle.iox_robust_steps.specs.declared.container.call.MemberCall.{MemberCall}
use Rattle.iox_robust_steps.specs.declared.container.call.MemberCall.TheVariants as call
use Rattle.iox_robust_steps.specs.declared.container.MemberFinished.{MemberFinished}
use Rattle.iox_robust_steps.proofs.ContainerMoments.{length_after, words_behind}
use Rattle.iox_robust_steps.proofs.ContainerShows.{AreAnswered, answered_before, answered_behind, count_along, first_answered, first_stay}
use Rattle.iox_robust_steps.proofs.ContainerShows.{inside_behind, out_before, out_behind, value_along}
use Rattle.iox_robust_steps.proofs.Ending.{same_cells}

-- lists of what passes
none_of_both : (xs ys : List Passing) → xs ++ ys ≡ [] → (xs ≡ []) × (ys ≡ [])
none_of_both [] ys h = (refl, h)
none_of_both (x ∷ xs) ys h = absurd (cc)

one_of_three : (xs ys : List Passing) (x y : Passing) → xs ++ x ∷ ys ≡ y ∷ [] → (xs ≡ []) × (x ≡ y) × (ys ≡ [])
one_of_three [] ys x y h = (refl, cc, cc)
one_of_three (z ∷ []) ys x y h = absurd (cc)
one_of_three (z ∷ u ∷ xs) ys x y h = absurd (cc)

-- steps of a party, and what they let pass at one of n places
module _ (n p : ℕ) where
  abbrev Lets : List Event → List Passing
  Lets events = passed_in n (own p events)

  abbrev among : Event → List Event → Bool → List Passing
  among e events b = passed_in n (if b then e ∷ own p events else own p events)

  one_behind : (x : Event) (xs ys : List Event) (b : Bool) → Lets (xs ++ ys) ≡ Lets xs ++ Lets ys
      → among x (xs ++ ys) b ≡ among x xs b ++ Lets ys
  one_behind x xs ys true h = ap (λ (ps : List Passing). passed_by n x.access ++ ps) h
      ∙ sym (append_assoc (passed_by n x.access) (Lets xs) (Lets ys))
  one_behind x xs ys false h = h

  lets_behind : (xs ys : List Event) → Lets (xs ++ ys) ≡ Lets xs ++ Lets ys
  lets_behind [] ys = refl
  lets_behind (x ∷ xs) ys = one_behind x xs ys (x.party == p) (lets_behind xs ys)

  its_lets : (e : Event) (events : List Event) → e.party ≡ p → Lets (e ∷ events) ≡ passed_by n e.access ++ Lets events
  its_lets e events its = ap (among e events) (eq-eqb e.party p its)

  none_first : (e : Event) (events : List Event) → Lets (e ∷ events) ≡ []
      → (e.party ≡ p → passed_by n e.access ≡ []) × (Lets events ≡ [])
  none_first e events h = of (e.party == p) refl
    where
      of : (b : Bool) → (e.party == p) ≡ b → (e.party ≡ p → passed_by n e.access ≡ []) × (Lets events ≡ [])
      of true is =
          let both : (passed_by n e.access ≡ []) × (Lets events ≡ [])
          = none_of_both (passed_by n e.access) (Lets events) (sym (ap (among e events) is) ∙ h) in
          (λ its. both.0, both.1)
      of false is = (λ its. absurd (eqb-false e.party p is its), sym (ap (among e events) is) ∙ h)

  none_behind : (xs ys : List Event) → Lets (xs ++ ys) ≡ [] → (Lets xs ≡ []) × (Lets ys ≡ [])
  none_behind xs ys h = none_of_both (Lets xs) (Lets ys) (sym (lets_behind xs ys) ∙ h)

  -- at one of the places
  module _ (width place : ℕ) (within : place < n) where
    passes_here : (cell value : ℕ) → cell ≡ place → passed_by n (Store (Cell cell) value) ≡ [] → ⊥
    passes_here cell value same none =
        let low : nat_lt cell n ≡ true = subst (λ (c : ℕ). nat_lt c n ≡ true) (sym same) (lt-ltb place n within) in
        let one : ◌≡◌ {A = List Passing} (record { place = cell; comes_in = is_shown value } ∷ []) []
        = sym (ap (λ (b : Bool). if b then record { place = cell; comes_in = is_shown value } ∷ [] else []) low) ∙ none in cc

    -- whose member is in after a step that lets nothing of this party pass was in before
    came_before : (q answer : ℕ) (a : Access) (now : Option ℕ) → (q ≡ p → passed_by n a ≡ []) → inside_by place q a answer now ≡ Some p
        → now ≡ Some p
    came_before q answer (Load word) now quiet h = h
    came_before q answer (Store Write value) now quiet h = h
    came_before q answer (Store Read value) now quiet h = h
    came_before q answer (Store (Cell cell) value) now quiet h = of (cell == place) refl h
      where
        shows : cell ≡ place → (b : Bool) → (if b then Some q else None) ≡ Some p → now ≡ Some p
        shows same true g =
            let both : Some q ≡ Some p = g in absurd (passes_here cell value same (quiet (let mine : q ≡ p = cc in mine)))
        shows same false g = absurd (cc)

        of : (b : Bool) → (cell == place) ≡ b → (if b then (if is_shown value then Some q else None) else now) ≡ Some p → now ≡ Some p
        of true is g = shows (eqb-true cell place is) (is_shown value) g
        of false is g = g
    came_before q answer (Exchange Write old new) now quiet h = h
    came_before q answer (Exchange Read old new) now quiet h = h
    came_before q answer (Exchange (Cell cell) old new) now quiet h = of ((cell == place) && (answer == old)) h
      where
        of : (b : Bool) → (if b then None else now) ≡ Some p → now ≡ Some p
        of true g = absurd (cc)
        of false g = g
    came_before q answer Local now quiet h = h

    never_came : (events : List Event) (now : Option ℕ) → Lets events ≡ [] → inside_after place now events ≡ Some p → now ≡ Some p
    never_came [] now none h = h
    never_came (e ∷ events) now none h =
        let both : (e.party ≡ p → passed_by n e.access ≡ []) × (Lets events ≡ []) = none_first e events none in
        came_before e.party e.answer e.access now both.0
        (never_came events (inside_by place e.party e.access e.answer now) both.1 h)

    -- and whose member is in before such a step is in afterwards, unless it takes that out by an exchange
    is_or_out : (q answer : ℕ) (a : Access) → MayBeMadeSo n width place (Some p) q a answer → (q ≡ p → passed_by n a ≡ [])
        → (inside_by place q a answer (Some p) ≡ Some p) ⊎ (expels place a answer ≡ true)
    is_or_out q answer (Load word) may quiet = inl refl
    is_or_out q answer (Store Write value) may quiet = inl refl
    is_or_out q answer (Store Read value) may quiet = inl refl
    is_or_out q answer (Store (Cell cell) value) may quiet = inl (of (cell == place) refl)
      where
        of : (b : Bool) → (cell == place) ≡ b → (if b then (if is_shown value then Some q else None) else Some p) ≡ Some p
        of true is =
            let same : cell ≡ place = eqb-true cell place is in absurd (passes_here cell value same (quiet (may.1.0 same).0))
        of false is = refl
    is_or_out q answer (Exchange Write old new) may quiet = inl refl
    is_or_out q answer (Exchange Read old new) may quiet = inl refl
    is_or_out q answer (Exchange (Cell cell) old new) may quiet = of ((cell == place) && (answer == old))
      where
        of : (b : Bool) → (◌≡◌ {A = Option ℕ} (if b then None else Some p) (Some p)) ⊎ (b ≡ true)
        of true = inr refl
        of false = inl refl
    is_or_out q answer Local may quiet = inl refl

    stays_or_out : (events : List Event) → StaysTillOut n width place (Some p) events → Lets events ≡ []
        → (inside_after place (Some p) events ≡ Some p) ⊎ IsExpelledIn place events
    stays_or_out [] stays none = inl refl
    stays_or_out (e ∷ events) stays none =
        let both : (e.party ≡ p → passed_by n e.access ≡ []) × (Lets events ≡ []) = none_first e events none in
        ⊎_elim
        (λ (is : inside_by place e.party e.access e.answer (Some p) ≡ Some p). ⊎_elim
        (λ (still : inside_after place (Some p) events ≡ Some p).
        inl (ap (λ (o : Option ℕ). inside_after place o events) is ∙ still))
        (λ (out : IsExpelledIn place events). inr (inr out))
        (stays_or_out events (subst (λ (o : Option ℕ). StaysTillOut n width place o events) is stays.1) both.1))
        (λ (out : expels place e.access e.answer ≡ true). inr (inl out))
        (is_or_out e.party e.answer e.access stays.0 both.0)

    -- so it was in at each moment before
    along_back : (events xs ys : List Event) → Lets events ≡ [] → inside_after place (Some p) events ≡ Some p → events ≡ xs ++ ys
        → inside_after place (Some p) xs ≡ Some p
    along_back events xs ys none is same =
        let both : (Lets xs ≡ []) × (Lets ys ≡ []) = none_behind xs ys (ap Lets (sym same) ∙ none) in
        never_came ys (inside_after place (Some p) xs) both.1
        (sym (inside_behind place (Some p) xs ys) ∙ ap (inside_after place (Some p)) (sym same) ∙ is)

    -- nobody is in after an exchange that takes a member out
    out_then : (q answer : ℕ) (a : Access) (now : Option ℕ) → expels place a answer ≡ true → inside_by place q a answer now ≡ None
    out_then q answer (Load word) now h = absurd (cc)
    out_then q answer (Store word value) now h = absurd (cc)
    out_then q answer (Exchange Write old new) now h = absurd (cc)
    out_then q answer (Exchange Read old new) now h = absurd (cc)
    out_then q answer (Exchange (Cell cell) old new) now h = ap (λ (b : Bool). if b then None else now) h
    out_then q answer Local now h = absurd (cc)

    -- who is in at the end was taken out by none of these steps
    never_out : (events : List Event) (now : Option ℕ) → Lets events ≡ [] → inside_after place now events ≡ Some p
        → IsExpelledIn place events → ⊥
    never_out [] now none h out = out
    never_out (e ∷ events) now none h (inl out) =
        let both : (e.party ≡ p → passed_by n e.access ≡ []) × (Lets events ≡ []) = none_first e events none in
        let wrong : ◌≡◌ {A = Option ℕ} None (Some p)
        = sym (out_then e.party e.answer e.access now out)
        ∙ never_came events (inside_by place e.party e.access e.answer now) both.1 h in cc
    never_out (e ∷ events) now none h (inr out) =
        let both : (e.party ≡ p → passed_by n e.access ≡ []) × (Lets events ≡ []) = none_first e events none in
        never_out events (inside_by place e.party e.access e.answer now) both.1 h out

    -- a call of the party, which lets one pass by storing the count
    module _ (small : n < 2 ^ 62) (start : RingWords) (size : length start.cells ≡ n + (n * width + 1)) (first : ℕ)
        (earlier later : List Event) (e : Event)
        (inside : first ≤ length earlier) (its : e.party ≡ p) (answered : AreAnswered start (earlier ++ e ∷ later))
        (stays : StaysTillOut n width place None (earlier ++ e ∷ later))
        (comes : Bool) (one : Lets (drop first (earlier ++ e ∷ later)) ≡ record { place = place; comes_in = comes } ∷ [])
        (count : ℕ) (stores : e.access ≡ Store (Cell place) count) where
      abbrev then_words : RingWords
      then_words = words_after start earlier

      abbrev whose : Option ℕ
      whose = inside_after place None earlier

      from_there : StaysTillOut n width place whose (e ∷ later)
      from_there = out_behind n width place None earlier (e ∷ later) stays

      its_passing : passed_by n e.access ≡ record { place = place; comes_in = is_shown count } ∷ []
      its_passing = ap (passed_by n) stores
          ∙ ap (λ (b : Bool). if b then record { place = place; comes_in = is_shown count } ∷ [] else []) (lt-ltb place n within)

      parts : Lets (drop first earlier) ++ record { place = place; comes_in = is_shown count } ∷ Lets later
          ≡ record { place = place; comes_in = comes } ∷ []
      parts = ap (λ (ps : List Passing). Lets (drop first earlier) ++ (ps ++ Lets later)) (sym its_passing)
          ∙ ap (λ (ps : List Passing). Lets (drop first earlier) ++ ps) (sym (its_lets e later its))
          ∙ sym (lets_behind (drop first earlier) (e ∷ later))
          ∙ ap Lets (sym (drop-append-le first earlier (e ∷ later) inside)) ∙ one

      only : (Lets (drop first earlier) ≡ [])
          × (◌≡◌ {A = Passing} (record { place = place; comes_in = is_shown count }) (record { place = place; comes_in = comes }))
          × (Lets later ≡ [])
      only = one_of_three (Lets (drop first earlier)) (Lets later) (record { place = place; comes_in = is_shown count })
          (record { place = place; comes_in = comes }) parts

      shows : is_shown count ≡ comes
      shows = ap (λ (x : Passing). x.comes_in) only.1

      may : MayBeStored n width place whose e.party place count
      may = of (subst (λ (a : Access). MayBeMadeSo n width place whose e.party a e.answer) stores from_there.0)
        where
          of : MayBeMadeSo n width place whose e.party (Store (Cell place) count) e.answer
              → MayBeStored n width place whose e.party place count
          of h = h.1

      none_till : (steps rest : List Event) → earlier ≡ steps ++ rest → first ≤ length steps → Lets rest ≡ []
      none_till steps rest same began =
          let both : (Lets (drop first steps) ≡ []) × (Lets rest ≡ [])
          = none_behind (drop first steps) rest (ap Lets (sym (drop-append-le first steps rest began))
          ∙ ap (λ (es : List Event). Lets (drop first es)) (sym same) ∙ only.0) in both.1

      none_from : (steps rest : List Event) → later ≡ steps ++ rest → Lets steps ≡ []
      none_from steps rest same =
          let both : (Lets steps ≡ []) × (Lets rest ≡ []) = none_behind steps rest (ap Lets (sym same) ∙ only.2) in both.0

      stays_till : (steps rest : List Event) → earlier ≡ steps ++ rest → (o : Option ℕ) → inside_after place None steps ≡ o
          → StaysTillOut n width place o rest
      stays_till steps rest same o is_whose = subst (λ (o : Option ℕ). StaysTillOut n width place o rest) is_whose
          (out_behind n width place None steps rest
          (subst (λ (es : List Event). StaysTillOut n width place None es) same
          (out_before n width place None earlier (e ∷ later) stays)))

      -- whose member is in after the step that stores the count
      whose_then : (now : Option ℕ) → (if comes then Some e.party else None) ≡ now → inside_after place None (earlier ++ e ∷ []) ≡ now
      whose_then now is_now = inside_behind place None earlier (e ∷ [])
          ∙ ap (λ (a : Access). inside_by place e.party a e.answer whose) stores
          ∙ ap (λ (b : Bool). if b then (if is_shown count then Some e.party else None) else whose) (eq-eqb place place refl)
          ∙ ap (λ (b : Bool). if b then Some e.party else None) shows ∙ is_now

      words_then : words_after start (earlier ++ e ∷ []) ≡ after_access then_words e.access
      words_then = words_behind start earlier (e ∷ [])

      whose_from : (steps rest : List Event) → earlier ≡ steps ++ rest
          → whose ≡ inside_after place (inside_after place None steps) rest
      whose_from steps rest same = ap (inside_after place None) same ∙ inside_behind place None steps rest

      -- an addition: nobody was in, and its member is in from then on
      adds_none_in : comes ≡ true → whose ≡ None
      adds_none_in comes_in = of whose may
        where
          of : (o : Option ℕ) → MayBeStored n width place o e.party place count → o ≡ None
          of None stored = refl
          of (Some owner) stored = absurd (let wrong : true ≡ false = sym comes_in ∙ sym shows ∙ (stored.0 refl).1 in cc)

      adds_not_yet : comes ≡ true → (steps rest : List Event) → earlier ≡ steps ++ rest → first ≤ length steps
          → IsNotIn p place steps ⊎ IsExpelledIn place rest
      adds_not_yet comes_in steps rest same began = of (inside_after place None steps) refl
        where
          of_mine : inside_after place None steps ≡ Some p → IsNotIn p place steps ⊎ IsExpelledIn place rest
          of_mine mine = ⊎_elim
              (λ (is : inside_after place (Some p) rest ≡ Some p). absurd (
              let wrong : ◌≡◌ {A = Option ℕ} None (Some p) = sym (adds_none_in comes_in) ∙ whose_from steps rest same
              ∙ ap (λ (o : Option ℕ). inside_after place o rest) mine ∙ is in cc))
              (λ (out : IsExpelledIn place rest). inr out)
              (stays_or_out rest (stays_till steps rest same (Some p) mine) (none_till steps rest same began))

          of : (o : Option ℕ) → inside_after place None steps ≡ o → IsNotIn p place steps ⊎ IsExpelledIn place rest
          of None h = inl (λ mine. let wrong : ◌≡◌ {A = Option ℕ} None (Some p) = sym h ∙ mine in cc)
          of (Some q) h = ⊎_elim
              (λ (same : q ≡ p). of_mine (h ∙ ap (λ (r : ℕ). Some r) same))
              (λ (differs : q ≡ p → ⊥). inl (λ mine.
              let both : Some q ≡ Some p = sym h ∙ mine in differs (let is : q ≡ p = cc in is)))
              (cases_eq q p)

      mine_then : comes ≡ true → inside_after place None (earlier ++ e ∷ []) ≡ Some p
      mine_then comes_in = whose_then (Some p) (ap (λ (c : Bool). if c then Some e.party else None) comes_in
          ∙ ap (λ (q : ℕ). Some q) its)

      stays_later : comes ≡ true → StaysTillOut n width place (Some p) later
      stays_later comes_in = subst (λ (o : Option ℕ). StaysTillOut n width place o later)
          (sym (inside_behind place None earlier (e ∷ [])) ∙ mine_then comes_in) from_there.1

      long_then : length (after_access then_words e.access).cells ≡ n + (n * width + 1)
      long_then = same_cells then_words e.access ∙ length_after start earlier ∙ size

      answered_later : AreAnswered (after_access then_words e.access) later
      answered_later = of (answered_behind start earlier (e ∷ later) answered)
        where
          of : AreAnswered then_words (e ∷ later) → AreAnswered (after_access then_words e.access) later
          of h = h.1

      adds_from_then : comes ≡ true → is_shown (slice_index (after_access then_words e.access).cells place) ≡ true → (value : List ℕ)
          → ((j : ℕ) → j < width
          → slice_index (after_access then_words e.access).cells (value_cell n width place j) ≡ slice_index value j)
          → (steps rest : List Event) → later ≡ steps ++ rest
          → IsInWith n width start p place value ((earlier ++ e ∷ []) ++ steps) ⊎ IsExpelledIn place steps
      adds_from_then comes_in is value has steps rest same =
          let still : StaysTillOut n width place (Some p) steps = out_before n width place (Some p) steps rest
          (subst (λ (es : List Event). StaysTillOut n width place (Some p) es) same (stays_later comes_in)) in
          let got : AreAnswered (after_access then_words e.access) steps = answered_before (after_access then_words e.access) steps rest
          (subst (AreAnswered (after_access then_words e.access)) same answered_later) in
          let none : Lets steps ≡ [] = none_from steps rest same in
          let words : words_after start ((earlier ++ e ∷ []) ++ steps) ≡ words_after (after_access then_words e.access) steps
          = words_behind start (earlier ++ e ∷ []) steps ∙ ap (λ (w : RingWords). words_after w steps) words_then in
          ⊎_elim
          (λ (in_still : inside_after place (Some p) steps ≡ Some p). inl (record {
            is_in = record {
              its = inside_behind place None (earlier ++ e ∷ []) steps
                  ∙ ap (λ (o : Option ℕ). inside_after place o steps) (mine_then comes_in) ∙ in_still;
              shown = ap (λ (w : RingWords). is_shown (slice_index w.cells place)) words
                  ∙ ap is_shown (count_along n width place within p steps (after_access then_words e.access) long_then got still
                  (λ xs ys is. along_back steps xs ys none in_still is)) ∙ is;
            };
            has = λ j low. ap (λ (w : RingWords). slice_index w.cells (value_cell n width place j)) words
                ∙ value_along n width place within small p j low steps (after_access then_words e.access) long_then got still
                (λ xs ys is. along_back steps xs ys none in_still is) ∙ has j low;
          }))
          (λ (out : IsExpelledIn place steps). inr out)
          (stays_or_out steps still none)

      adds_till_end : comes ≡ true → inside_after place None (earlier ++ e ∷ later) ≡ Some p → IsExpelledIn place later → ⊥
      adds_till_end comes_in at_end out = never_out later (Some p) only.2
          (ap (λ (o : Option ℕ). inside_after place o later)
          (sym (mine_then comes_in) ∙ inside_behind place None earlier (e ∷ []))
          ∙ sym (inside_behind place None earlier (e ∷ later)) ∙ at_end) out

      -- a removal: the party's member was in, and none of it is from then on
      mine_so_far : comes ≡ false → whose ≡ Some p
      mine_so_far goes_out = of whose may
        where
          of : (o : Option ℕ) → MayBeStored n width place o e.party place count → o ≡ Some p
          of None stored = absurd (let wrong : true ≡ false = sym (stored refl) ∙ shows ∙ goes_out in cc)
          of (Some owner) stored = ap (λ (q : ℕ). Some q) (sym (stored.0 refl).0 ∙ its)

      removes_till_then : comes ≡ false → is_shown (slice_index then_words.cells place) ≡ true → IsSoUpTo (IsIn start p place) first earlier
      removes_till_then goes_out was = λ steps rest same began.
          let none : Lets rest ≡ [] = none_till steps rest same began in
          let mine : inside_after place None steps ≡ Some p
          = never_came rest (inside_after place None steps) none (sym (whose_from steps rest same) ∙ mine_so_far goes_out) in
          let at_end : inside_after place (Some p) rest ≡ Some p
          = ap (λ (o : Option ℕ). inside_after place o rest) (sym mine) ∙ sym (whose_from steps rest same) ∙ mine_so_far goes_out in
          let got : AreAnswered (words_after start steps) rest = answered_behind start steps rest
          (subst (AreAnswered start) same (answered_before start earlier (e ∷ later) answered)) in
          let count : slice_index then_words.cells place ≡ slice_index (words_after start steps).cells place
          = ap (λ (es : List Event). slice_index (words_after start es).cells place) same
          ∙ ap (λ (w : RingWords). slice_index w.cells place) (words_behind start steps rest)
          ∙ count_along n width place within p rest (words_after start steps) (length_after start steps ∙ size) got
          (stays_till steps rest same (Some p) mine)
          (λ xs ys is. along_back rest xs ys none at_end is) in
          record { its = mine; shown = ap is_shown (sym count) ∙ was }

      removes_no_more : comes ≡ false → IsSoFrom (IsNotIn p place) (earlier ++ e ∷ []) later
      removes_no_more goes_out = λ steps rest same mine.
          let then_mine : inside_after place None (earlier ++ e ∷ []) ≡ Some p
          = never_came steps (inside_after place None (earlier ++ e ∷ [])) (none_from steps rest same)
          (sym (inside_behind place None (earlier ++ e ∷ []) steps) ∙ mine) in
          let none_then : inside_after place None (earlier ++ e ∷ []) ≡ None
          = whose_then None (ap (λ (c : Bool). if c then Some e.party else None) goes_out) in
          let wrong : ◌≡◌ {A = Option ℕ} None (Some p) = sym none_then ∙ then_mine in cc

-- a call that ended
module _ (n width : ℕ) (small : n < 2 ^ 62) (values : List (Vec ℕ)) (start : RingWords)
    (size : length start.cells ≡ n + (n * width + 1)) where
  module _ (party first index : ℕ) (events : List Event) (within : index < n) (answered : AreAnswered start events)
      (stays : StaysTillOut n width index None events) where
    adds_at : (gone : Bool) (value : List ℕ) → ComesIn n width start party first events index value
        → passed_in n (own party (drop first events)) ≡ record { place = index; comes_in = true } ∷ []
        → (gone ≡ false → inside_after index None events ≡ Some party)
        → AddsAt n width start gone party first events index value
    adds_at gone value c one at_end =
        let answered_so : AreAnswered start (c.earlier ++ c.event ∷ c.later) = subst (AreAnswered start) c.whole answered in
        let stays_so : StaysTillOut n width index None (c.earlier ++ c.event ∷ c.later)
        = subst (λ (es : List Event). StaysTillOut n width index None es) c.whole stays in
        let one_so : passed_in n (own party (drop first (c.earlier ++ c.event ∷ c.later))) ≡ record { place = index; comes_in = true } ∷ []
        = subst (λ (es : List Event). passed_in n (own party (drop first es)) ≡ record { place = index; comes_in = true } ∷ []) c.whole
        one in record {
          earlier = c.earlier;
          moment = c.event;
          later = c.later;
          whole = c.whole;
          inside = c.inside;
          its = c.its;
          none_in = adds_none_in n party width index within small start size first c.earlier c.later c.event c.inside c.its answered_so
              stays_so true one_so c.count c.stores refl;
          not_yet = adds_not_yet n party width index within small start size first c.earlier c.later c.event c.inside c.its answered_so
              stays_so true one_so c.count c.stores refl;
          from_then = adds_from_then n party width index within small start size first c.earlier c.later c.event c.inside c.its
              answered_so stays_so true one_so c.count c.stores refl c.in_then value c.is;
          till_end = λ live. adds_till_end n party width index within small start size first c.earlier c.later c.event c.inside c.its
              answered_so stays_so true one_so c.count c.stores refl
              (ap (inside_after index None) (sym c.whole) ∙ at_end live);
        }

    removes_at : GoesOut start party first events index
        → passed_in n (own party (drop first events)) ≡ record { place = index; comes_in = false } ∷ []
        → RemovesAt start party first events index
    removes_at g one =
        let answered_so : AreAnswered start (g.earlier ++ g.event ∷ g.later) = subst (AreAnswered start) g.whole answered in
        let stays_so : StaysTillOut n width index None (g.earlier ++ g.event ∷ g.later)
        = subst (λ (es : List Event). StaysTillOut n width index None es) g.whole stays in
        let one_so : passed_in n (own party (drop first (g.earlier ++ g.event ∷ g.later))) ≡ record { place = index; comes_in = false } ∷ []
        = subst (λ (es : List Event). passed_in n (own party (drop first es)) ≡ record { place = index; comes_in = false } ∷ []) g.whole
        one in record {
          earlier = g.earlier;
          moment = g.event;
          later = g.later;
          whole = g.whole;
          inside = g.inside;
          its = g.its;
          till_then = removes_till_then n party width index within small start size first g.earlier g.later g.event g.inside g.its
              answered_so stays_so false one_so g.count g.stores refl g.in_before;
          no_more = removes_no_more n party width index within small start size first g.earlier g.later g.event g.inside g.its
              answered_so stays_so false one_so g.count g.stores refl;
        }

  moment_of : (lost : List ℕ) (party first : ℕ) (events : List Event) (c : MemberCall) (a : MemberAnswer)
      → AreAnswered start events
      → MemberTells n width values start 1 party first events (own party (drop first events)) c a
      → passed_in n (own party (drop first events)) ≡ passed_with c a
      → ((i : ℕ) → i < n → StaysTillOut n width i None events) → WasIn lost party events c a
      → MomentOf n width values start lost party first events c a
  moment_of lost party first events (call.Add number owner) (Added (Ok index)) answered told one stays was =
      adds_at party first index events told.0 answered (stays index told.0) (is_lost owner lost) (table_value values number) told.1 one was
  moment_of lost party first events (call.Add number owner) (Added (Err why)) answered told one stays was = tt
  moment_of lost party first events (call.Add number owner) (Removed state) answered told one stays was = tt
  moment_of lost party first events (call.Add number owner) (Updated copied) answered told one stays was = tt
  moment_of lost party first events (call.Remove owner index mode) (Added got) answered told one stays was = tt
  moment_of lost party first events (call.Remove owner index mode) (Removed state) answered told one stays was =
      removes_at party first index events told.0 answered (stays index told.0) told.1 one
  moment_of lost party first events (call.Remove owner index mode) (Updated copied) answered told one stays was = tt
  moment_of lost party first events call.Update a answered told one stays was = tt
  moment_of lost party first events (call.Recover owner number mode) a answered told one stays was = tt

  pub each_moment : (lost : List ℕ) (events : List Event) (finished : List MemberFinished) → AreAnswered start events
      → AreMembersTold n width values start events finished → EachLetsPass n events finished
      → ((i : ℕ) → i < n → StaysTillOut n width i None events) → EachWasIn lost events finished
      → EachHasItsMoment n width values start lost events finished
  each_moment lost events [] answered told passes stays was = tt
  each_moment lost events (f ∷ finished) answered told passes stays was = (
    moment_of lost f.party f.first (take f.last events) f.call f.answer (first_answered start f.last events answered) told.0.0 passes.0
        (λ i within. first_stay n width f.last i events (stays i within)) was.0,
    each_moment lost events finished answered told.1 passes.1 stays was.1,
  )
