-- Each step is one of one call, after one more step, for calls of any kind.
use Rattle.std.proofs.Common.{◌≡◌, ℕ, suc, ◌+◌, ◌<◌, ◌⊎◌, inl, inr, ⊎_elim, Bool, true, false, if◌then◌else◌, ◌==◌, ◌&&◌}
use Rattle.std.proofs.Common.{Option, Some, None, List, [], ◌∷◌, ◌++◌, length, take, drop, refl, sym, ◌∙◌, ap, subst, arith}
use Rattle.std.proofs.Common.{append_assoc, append-nil, length-append, take_all}
use Rattle.std.proofs.Math.Seq.{drop-append_seam}
use Rattle.std.proofs.lemmas.Bool.{cases_eq}
use Rattle.std.proofs.lemmas.List.{take-append-le}
use Rattle.iox_queues.specs.Told.{own}
use Rattle.iox_queues.specs.Spans.{AreOfCalls, AreWithin, EachIsOfCall, Span, bound_in_hand, bounds, bounds_of, is_local, local_number}
use Rattle.iox_queues.specs.Spans.{local_numbers, span_in_hand, span_of, spans}
use Rattle.iox_queues.specs.declared.bits.machine.Event.{Event}
use Rattle.iox_queues.proofs.Knowing.{eqb_differs, eqb_same}
use Rattle.iox_queues.proofs.OwnSteps.{own_else, own_else_since, own_more, own_more_since}

-- the calls that ended keep their steps, and others come after them
spans_on : (p : ℕ) (events : List Event) (e : Event) (ended : List Span) → AreWithin events ended
    → spans p (events ++ e ∷ []) ended ≡ spans p events ended
spans_on p events e [] h = refl
spans_on p events e (s ∷ ended) h =
    ap (λ (es : List Event). (if s.party == p then own p (drop s.first es) else []) ++ spans p (events ++ e ∷ []) ended)
    (take-append-le (s.last + 1) events (e ∷ []) (omega (arith, h.0.ended)))
    ∙ ap (λ (es : List Event). span_of p events s ++ es) (spans_on p events e ended h.1)

spans_append : (p : ℕ) (events : List Event) (xs ys : List Span) → spans p events (xs ++ ys) ≡ spans p events xs ++ spans p events ys
spans_append p events [] ys = refl
spans_append p events (x ∷ xs) ys =
    ap (λ (es : List Event). span_of p events x ++ es) (spans_append p events xs ys)
    ∙ sym (append_assoc (span_of p events x) (spans p events xs) (spans p events ys))

spans_more : (p : ℕ) (events : List Event) (e : Event) (ended added : List Span) → AreWithin events ended
    → spans p (events ++ e ∷ []) (ended ++ added) ≡ spans p events ended ++ spans p (events ++ e ∷ []) added
spans_more p events e ended added among =
    spans_append p (events ++ e ∷ []) ended added
    ∙ ap (λ (es : List Event). es ++ spans p (events ++ e ∷ []) added) (spans_on p events e ended among)

bounds_append : (p : ℕ) (xs ys : List Span) → bounds p (xs ++ ys) ≡ bounds p xs ++ bounds p ys
bounds_append p [] ys = refl
bounds_append p (x ∷ xs) ys =
    ap (λ (ns : List ℕ). bounds_of p x ++ ns) (bounds_append p xs ys) ∙ sym (append_assoc (bounds_of p x) (bounds p xs) (bounds p ys))

numbers_more : (p from : ℕ) (xs : List Event) (e : Event)
    → local_numbers p from (xs ++ e ∷ []) ≡ local_numbers p from xs ++ local_number p (from + length xs) e
numbers_more p from [] e = append-nil (local_number p from e) ∙ ap (λ (n : ℕ). local_number p n e) (here from)
  where
    here : (from : ℕ) → from ≡ from + 0
    here from = omega arith
numbers_more p from (x ∷ xs) e =
    ap (λ (ns : List ℕ). local_number p from x ++ ns)
    (numbers_more p (from + 1) xs e ∙ ap (λ (n : ℕ). local_numbers p (from + 1) xs ++ local_number p n e) (on from (length xs)))
    ∙ sym (append_assoc (local_number p from x) (local_numbers p (from + 1) xs) (local_number p (from + length (x ∷ xs)) e))
  where
    on : (from n : ℕ) → from + 1 + n ≡ from + (suc n)
    on from n = omega arith

within_on : (events : List Event) (e : Event) (ended : List Span) → AreWithin events ended → AreWithin (events ++ e ∷ []) ended
within_on events e [] h = tt
within_on events e (s ∷ ended) h = (
  record { begun = h.0.begun; ended = omega (arith, h.0.ended, length-append events (e ∷ [])) },
  within_on events e ended h.1,
)

within_append : (events : List Event) (xs ys : List Span) → AreWithin events xs → AreWithin events ys → AreWithin events (xs ++ ys)
within_append events [] ys h g = g
within_append events (x ∷ xs) ys h g = (h.0, within_append events xs ys h.1 g)

itself : (p : ℕ) → (p == p) ≡ true
itself p = eqb_same p p (p == p) refl refl

-- what a step is to the calls of its party: it begins one, goes on inside one, or ends one
abbrev pub IsOneOf : Event → ℕ → Option ℕ → Option ℕ → List Span → Type 0
IsOneOf e number before after added =
    ((before ≡ None) × (is_local e.access ≡ true) × (after ≡ Some number) × (added ≡ []))
    ⊎ (((first : ℕ) × (before ≡ Some first) × (is_local e.access ≡ false) × (after ≡ Some first) × (added ≡ []))
    ⊎ ((first : ℕ) × (before ≡ Some first) × (is_local e.access ≡ true) × (after ≡ None)
    × (added ≡ record { party = e.party; first = first; last = number } ∷ [])))

-- the same of a step that may touch a word or none
abbrev pub IsStepOf : Event → ℕ → Option ℕ → Option ℕ → List Span → Type 0
IsStepOf e number before after added =
    ((before ≡ None) × (after ≡ Some number) × (added ≡ []))
    ⊎ (((first : ℕ) × (before ≡ Some first) × (after ≡ Some first) × (added ≡ []))
    ⊎ ((first : ℕ) × (before ≡ Some first) × (after ≡ None)
    × (added ≡ record { party = e.party; first = first; last = number } ∷ [])))

step_of : (e : Event) (number : ℕ) (before after : Option ℕ) (added : List Span) → IsOneOf e number before after added
    → IsStepOf e number before after added
step_of e number before after added (inl h) = inl (h.0, h.2, h.3)
step_of e number before after added (inr (inl h)) = inr (inl (h.0, h.1, h.3, h.4))
step_of e number before after added (inr (inr h)) = inr (inr (h.0, h.1, h.3, h.4))

module _ (events : List Event) (e : Event) where
  abbrev more : List Event
  more = events ++ e ∷ []

  length_more : length more ≡ length events + 1
  length_more = length-append events (e ∷ [])

  span_grows : (before after : Option ℕ) (added : List Span) → ((first : ℕ) → before ≡ Some first → first < length events)
      → IsStepOf e (length events) before after added
      → span_in_hand e.party events before ++ e ∷ [] ≡ spans e.party more added ++ span_in_hand e.party more after
  span_grows before after added began (inl h) =
      ap (λ (o : Option ℕ). span_in_hand e.party events o ++ e ∷ []) h.0
      ∙ sym (ap (own e.party) (drop-append_seam events (e ∷ [])) ∙ own_more e.party [] e refl)
      ∙ ap (λ (o : Option ℕ). span_in_hand e.party more o) (sym h.1)
      ∙ ap (λ (s : List Span). spans e.party more s ++ span_in_hand e.party more after) (sym h.2)
  span_grows before after added began (inr (inl h)) =
      ap (λ (o : Option ℕ). span_in_hand e.party events o ++ e ∷ []) h.1
      ∙ sym (own_more_since e.party h.0 events e (omega (arith, began h.0 h.1)) refl)
      ∙ ap (λ (o : Option ℕ). span_in_hand e.party more o) (sym h.2)
      ∙ ap (λ (s : List Span). spans e.party more s ++ span_in_hand e.party more after) (sym h.3)
  span_grows before after added began (inr (inr h)) =
      ap (λ (o : Option ℕ). span_in_hand e.party events o ++ e ∷ []) h.1
      ∙ sym (own_more_since e.party h.0 events e (omega (arith, began h.0 h.1)) refl)
      ∙ ap (λ (es : List Event). own e.party (drop h.0 es)) (sym (take_all (length events + 1) more (omega (arith, length_more))))
      ∙ ap (λ (b : Bool). if b then own e.party (drop h.0 (take (length events + 1) more)) else []) (sym (itself e.party))
      ∙ sym (append-nil (span_of e.party more (record { party = e.party; first = h.0; last = length events })))
      ∙ sym (append-nil (span_of e.party more (record { party = e.party; first = h.0; last = length events }) ++ []))
      ∙ ap (λ (o : Option ℕ). spans e.party more (record { party = e.party; first = h.0; last = length events } ∷ [])
      ++ span_in_hand e.party more o) (sym h.2)
      ∙ ap (λ (s : List Span). spans e.party more s ++ span_in_hand e.party more after) (sym h.3)

  here : (first : List ℕ) (is : Bool) → is_local e.access ≡ is
      → first ++ local_number e.party (0 + length events) e ≡ first ++ (if is then length events ∷ [] else [])
  here first is same =
      ap (λ (b : Bool). first ++ (if b && is_local e.access then (0 + length events) ∷ [] else [])) (itself e.party)
      ∙ ap (λ (b : Bool). first ++ (if b then (0 + length events) ∷ [] else [])) same
      ∙ ap (λ (n : ℕ). first ++ (if is then n ∷ [] else [])) zero_more
    where
      zero_more : 0 + length events ≡ length events
      zero_more = omega arith

  bound_grows : (before after : Option ℕ) (added : List Span) → IsOneOf e (length events) before after added
      → bound_in_hand before ++ local_number e.party (0 + length events) e ≡ bounds e.party added ++ bound_in_hand after
  bound_grows before after added (inl h) =
      here (bound_in_hand before) true h.1
      ∙ ap (λ (o : Option ℕ). bound_in_hand o ++ length events ∷ []) h.0
      ∙ ap (λ (o : Option ℕ). bound_in_hand o) (sym h.2)
      ∙ ap (λ (s : List Span). bounds e.party s ++ bound_in_hand after) (sym h.3)
  bound_grows before after added (inr (inl h)) =
      here (bound_in_hand before) false h.2
      ∙ append-nil (bound_in_hand before)
      ∙ ap (λ (o : Option ℕ). bound_in_hand o) (h.1 ∙ sym h.3)
      ∙ ap (λ (s : List Span). bounds e.party s ++ bound_in_hand after) (sym h.4)
  bound_grows before after added (inr (inr h)) =
      here (bound_in_hand before) true h.2
      ∙ ap (λ (o : Option ℕ). bound_in_hand o ++ length events ∷ []) h.1
      ∙ ap (λ (b : Bool). if b then h.0 ∷ length events ∷ [] else []) (sym (itself e.party))
      ∙ sym (append-nil (bounds_of e.party (record { party = e.party; first = h.0; last = length events })))
      ∙ sym (append-nil (bounds_of e.party (record { party = e.party; first = h.0; last = length events }) ++ []))
      ∙ ap (λ (o : Option ℕ). bounds e.party (record { party = e.party; first = h.0; last = length events } ∷ []) ++ bound_in_hand o)
      (sym h.3)
      ∙ ap (λ (s : List Span). bounds e.party s ++ bound_in_hand after) (sym h.4)

  -- what ended with it is of its party
  not_of : (q : ℕ) (before after : Option ℕ) (added : List Span) → (e.party ≡ q → ⊥) → IsStepOf e (length events) before after added
      → (spans q more added ≡ []) × (bounds q added ≡ [])
  not_of q before after added differs (inl h) =
      (ap (λ (s : List Span). spans q more s) h.2, ap (λ (s : List Span). bounds q s) h.2)
  not_of q before after added differs (inr (inl h)) =
      (ap (λ (s : List Span). spans q more s) h.3, ap (λ (s : List Span). bounds q s) h.3)
  not_of q before after added differs (inr (inr h)) =
      let other : (e.party == q) ≡ false = eqb_differs e.party q (e.party == q) refl differs in (
        ap (λ (s : List Span). spans q more s) h.3
            ∙ ap (λ (b : Bool). (if b then own q (drop h.0 (take (length events + 1) more)) else []) ++ []) other,
        ap (λ (s : List Span). bounds q s) h.3 ∙ ap (λ (b : Bool). (if b then h.0 ∷ length events ∷ [] else []) ++ []) other,
      )

  added_within : (before after : Option ℕ) (added : List Span) → ((first : ℕ) → before ≡ Some first → first < length events)
      → IsStepOf e (length events) before after added → AreWithin more added
  added_within before after added began (inl h) = subst (AreWithin more) (sym h.2) tt
  added_within before after added began (inr (inl h)) = subst (AreWithin more) (sym h.3) tt
  added_within before after added began (inr (inr h)) = subst (AreWithin more) (sym h.3) (
    record { begun = omega (arith, began h.0 h.1); ended = omega (arith, length_more) },
    tt,
  )

  begun_on : (before after : Option ℕ) (added : List Span) → ((first : ℕ) → before ≡ Some first → first < length events)
      → IsStepOf e (length events) before after added → (first : ℕ) → after ≡ Some first → first < length more
  begun_on before after added began (inl h) first is =
      let same : Some (length events) ≡ Some first = sym h.1 ∙ is in
      let number : length events ≡ first = cc in omega (arith, length_more, number)
  begun_on before after added began (inr (inl h)) first is = omega (arith, began first (h.1 ∙ sym h.2 ∙ is), length_more)
  begun_on before after added began (inr (inr h)) first is = absurd (let none : None ≡ Some first = sym h.2 ∙ is in cc)

  -- one more step is of one call, whether it touches a word or none
  pub each_of_call_on : (ended added : List Span) (going going' : ℕ → Option ℕ) → EachIsOfCall events ended going
      → IsStepOf e (length events) (going e.party) (going' e.party) added
      → ((q : ℕ) → (e.party ≡ q → ⊥) → going' q ≡ going q)
      → EachIsOfCall more (ended ++ added) going'
  each_of_call_on ended added going going' k one others = record {
    steps = λ q. ⊎_elim (λ same. subst (λ (q : ℕ). own q more ≡ spans q more (ended ++ added) ++ span_in_hand q more (going' q)) same its)
        (else_steps q) (cases_eq e.party q);
    within = within_append more ended added (within_on events e ended k.within)
        (added_within (going e.party) (going' e.party) added (k.begun e.party) one);
    begun = λ q first is. ⊎_elim
        (λ (same : e.party ≡ q). begun_on (going e.party) (going' e.party) added (k.begun e.party) one first (ap going' same ∙ is))
        (λ (differs : e.party ≡ q → ⊥). omega (arith, k.begun q first (sym (others q differs) ∙ is), length_more)) (cases_eq e.party q);
  }
    where
      its : own e.party more ≡ spans e.party more (ended ++ added) ++ span_in_hand e.party more (going' e.party)
      its =
          own_more e.party events e refl ∙ ap (λ (es : List Event). es ++ e ∷ []) (k.steps e.party)
          ∙ append_assoc (spans e.party events ended) (span_in_hand e.party events (going e.party)) (e ∷ [])
          ∙ ap (λ (es : List Event). spans e.party events ended ++ es)
          (span_grows (going e.party) (going' e.party) added (k.begun e.party) one)
          ∙ sym (append_assoc (spans e.party events ended) (spans e.party more added) (span_in_hand e.party more (going' e.party)))
          ∙ ap (λ (es : List Event). es ++ span_in_hand e.party more (going' e.party))
          (sym (spans_more e.party events e ended added k.within))

      kept_hand : (q : ℕ) (o : Option ℕ) → (e.party ≡ q → ⊥) → ((first : ℕ) → o ≡ Some first → first < length events)
          → span_in_hand q more o ≡ span_in_hand q events o
      kept_hand q None differs began = refl
      kept_hand q (Some first) differs began = own_else_since q first events e (omega (arith, began first refl)) differs

      else_steps : (q : ℕ) → (e.party ≡ q → ⊥) → own q more ≡ spans q more (ended ++ added) ++ span_in_hand q more (going' q)
      else_steps q differs =
          own_else q events e differs ∙ k.steps q
          ∙ ap (λ (es : List Event). es ++ span_in_hand q events (going q))
          (sym (spans_more q events e ended added k.within ∙ ap (λ (es : List Event). spans q events ended ++ es)
          (not_of q (going e.party) (going' e.party) added differs one).0 ∙ append-nil (spans q events ended)))
          ∙ ap (λ (es : List Event). spans q more (ended ++ added) ++ es) (sym (kept_hand q (going q) differs (k.begun q)))
          ∙ ap (λ (o : Option ℕ). spans q more (ended ++ added) ++ span_in_hand q more o) (sym (others q differs))

  -- one more step is of one call
  pub of_calls_on : (ended added : List Span) (going going' : ℕ → Option ℕ) → AreOfCalls events ended going
      → IsOneOf e (length events) (going e.party) (going' e.party) added
      → ((q : ℕ) → (e.party ≡ q → ⊥) → going' q ≡ going q)
      → AreOfCalls more (ended ++ added) going'
  of_calls_on ended added going going' k one others = record {
    steps = each.steps;
    locals = λ q. ⊎_elim (λ same. subst (λ (q : ℕ). local_numbers q 0 more ≡ bounds q (ended ++ added) ++ bound_in_hand (going' q)) same
        its_locals) (else_locals q) (cases_eq e.party q);
    within = each.within;
    begun = each.begun;
  }
    where
      as_step : IsStepOf e (length events) (going e.party) (going' e.party) added
      as_step = step_of e (length events) (going e.party) (going' e.party) added one

      each : EachIsOfCall more (ended ++ added) going'
      each = each_of_call_on ended added going going' (record { steps = k.steps; within = k.within; begun = k.begun }) as_step others

      its_locals : local_numbers e.party 0 more ≡ bounds e.party (ended ++ added) ++ bound_in_hand (going' e.party)
      its_locals =
          numbers_more e.party 0 events e
          ∙ ap (λ (ns : List ℕ). ns ++ local_number e.party (0 + length events) e) (k.locals e.party)
          ∙ append_assoc (bounds e.party ended) (bound_in_hand (going e.party)) (local_number e.party (0 + length events) e)
          ∙ ap (λ (ns : List ℕ). bounds e.party ended ++ ns) (bound_grows (going e.party) (going' e.party) added one)
          ∙ sym (append_assoc (bounds e.party ended) (bounds e.party added) (bound_in_hand (going' e.party)))
          ∙ ap (λ (ns : List ℕ). ns ++ bound_in_hand (going' e.party)) (sym (bounds_append e.party ended added))

      else_locals : (q : ℕ) → (e.party ≡ q → ⊥) → local_numbers q 0 more ≡ bounds q (ended ++ added) ++ bound_in_hand (going' q)
      else_locals q differs =
          numbers_more q 0 events e
          ∙ ap (λ (b : Bool). local_numbers q 0 events ++ (if b && is_local e.access then (0 + length events) ∷ [] else []))
          (eqb_differs e.party q (e.party == q) refl differs)
          ∙ append-nil (local_numbers q 0 events) ∙ k.locals q
          ∙ ap (λ (ns : List ℕ). ns ++ bound_in_hand (going q))
          (sym (bounds_append q ended added ∙ ap (λ (ns : List ℕ). bounds q ended ++ ns)
          (not_of q (going e.party) (going' e.party) added differs as_step).1 ∙ append-nil (bounds q ended)))
          ∙ ap (λ (o : Option ℕ). bounds q (ended ++ added) ++ bound_in_hand o) (sym (others q differs))
