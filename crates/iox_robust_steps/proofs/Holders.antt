-- No index has two holders, since its acquires and releases alternate.
use Rattle.std.proofs.Common.{◌+◌}
use Rattle.std.proofs.Common.{◌≡◌, ℕ, ◌<◌, ◌≤◌, ⊎_elim, List, [], ◌∷◌, ◌++◌, length, take, refl, sym, ◌∙◌, ap, subst}
use Rattle.std.proofs.Common.{arith}
use Rattle.std.proofs.Math.Seq.{take-append_seam}
use Rattle.std.proofs.lemmas.Bool.{cases_lt}
use Rattle.iox_queues_steps.specs.declared.access.Access.{Access}
use Rattle.iox_queues_steps.specs.declared.access.Access.TheVariants.{Load, Store, Exchange, Local}
use Rattle.iox_queues_steps.specs.declared.access.Word.TheVariants.{Write, Read, Cell}
use Rattle.iox_queues.specs.declared.bits.machine.Event.{Event}
use Rattle.iox_robust_steps.specs.Changes.{gave_by, times_given, times_taken, took_by}
use Rattle.iox_robust_steps.specs.Told.{Holds, TakesTurns}
use Rattle.iox_robust_steps.specs.Machine.{one_if_held}
use Rattle.iox_robust_steps.specs.declared.state.Place.{Place}
use Rattle.iox_robust_steps.specs.declared.state.Place.TheVariants as place
use Rattle.iox_robust_steps.proofs.Counts.{more_given, more_taken}

-- where one list is cut in two ways, the second taking lies in the first one's rest, or is the first one
pub record Beyond (xs ys : List Event) (a b : Event) (zs : List Event) : Type 0 where
  pub middle : List Event
  pub rest : List Event
  pub first : ys ≡ xs ++ a ∷ middle
  pub second : zs ≡ middle ++ b ∷ rest

module _ (a b : Event) where
  head_is : (x y : Event) (xs ys : List Event) → ◌≡◌ {A = List Event} (x ∷ xs) (y ∷ ys) → x ≡ y
  head_is x y xs ys e = cc

  tail_is : (x y : Event) (xs ys : List Event) → ◌≡◌ {A = List Event} (x ∷ xs) (y ∷ ys) → xs ≡ ys
  tail_is x y xs ys e = cc

  pub beyond : (xs ys us vs : List Event) → xs ++ a ∷ us ≡ ys ++ b ∷ vs → length xs < length ys → Beyond xs ys a b us
  beyond [] [] us vs e less = absurd (omega (arith, less))
  beyond [] (y ∷ ys) us vs e less = record {
    middle = ys;
    rest = vs;
    first = ap (λ (x : Event). x ∷ ys) (sym (head_is a y us (ys ++ b ∷ vs) e));
    second = tail_is a y us (ys ++ b ∷ vs) e;
  }
  beyond (x ∷ xs) [] us vs e less = absurd (omega (arith, less))
  beyond (x ∷ xs) (y ∷ ys) us vs e less =
      let within : Beyond xs ys a b us
      = beyond xs ys us vs (tail_is x y (xs ++ a ∷ us) (ys ++ b ∷ vs) e) (omega (arith, less)) in
      record {
        middle = within.middle;
        rest = within.rest;
        first = ap (λ (z : Event). z ∷ ys) (sym (head_is x y (xs ++ a ∷ us) (ys ++ b ∷ vs) e))
            ∙ ap (λ (zs : List Event). x ∷ zs) within.first;
        second = within.second;
      }

  pub at_once : (xs ys us vs : List Event) → xs ++ a ∷ us ≡ ys ++ b ∷ vs → length xs ≡ length ys → a ≡ b
  at_once [] [] us vs e same = head_is a b us vs e
  at_once [] (y ∷ ys) us vs e same = absurd (omega (arith, same))
  at_once (x ∷ xs) [] us vs e same = absurd (omega (arith, same))
  at_once (x ∷ xs) (y ∷ ys) us vs e same =
      at_once xs ys us vs (tail_is x y (xs ++ a ∷ us) (ys ++ b ∷ vs) e) (omega (arith, same))

-- a step that takes an index gives none back
none_given : (i : ℕ) (e : Event) → took_by i e.access ≡ 1 → gave_by i e.access e.answer ≡ 0
none_given i e h = go e.access h
  where
    go : (access : Access) → took_by i access ≡ 1 → gave_by i access e.answer ≡ 0
    go (Load word) h = refl
    go (Store word value) h = refl
    go (Exchange Write old new) h = refl
    go (Exchange Read old new) h = refl
    go (Exchange (Cell place) old new) h = absurd (omega (arith, h))
    go Local h = refl

-- two takings without a giving back between them
never_twice : (i p q : ℕ) (events : List Event) → ((k : ℕ) → TakesTurns i (take k events)) → (h : Holds p i events) → (g : Holds q i events)
    → length h.before < length g.before → ⊥
never_twice i p q events turns h g less =
    let b : Beyond h.before g.before h.taking g.taking h.after
    = beyond h.taking g.taking h.before g.before h.after g.after (sym h.whole ∙ g.whole) less in
    let until : TakesTurns i (g.before ++ g.taking ∷ [])
    = subst (TakesTurns i) (ap (take (length (g.before ++ g.taking ∷ []))) (g.whole ∙ sym (joined g.before g.taking g.after))
    ∙ take-append_seam (g.before ++ g.taking ∷ []) g.after) (turns (length (g.before ++ g.taking ∷ []))) in
    let before : TakesTurns i h.before
    = subst (TakesTurns i) (ap (take (length h.before)) h.whole ∙ take-append_seam h.before (h.taking ∷ h.after))
    (turns (length h.before)) in
    omega (
      arith,
      until.1,
      before.0,
      more_taken i g.before (g.taking ∷ []),
      more_given i g.before (g.taking ∷ []),
      ap (times_taken i) b.first ∙ more_taken i h.before (h.taking ∷ b.middle),
      ap (times_given i) b.first ∙ more_given i h.before (h.taking ∷ b.middle),
      ap (times_given i) b.second ∙ more_given i b.middle (g.taking ∷ b.rest),
      h.takes,
      g.takes,
      h.keeps,
      none_given i h.taking h.takes,
      none_given i g.taking g.takes,
    )
  where
    joined : (xs : List Event) (x : Event) (ys : List Event) → (xs ++ x ∷ []) ++ ys ≡ xs ++ x ∷ ys
    joined [] x ys = refl
    joined (z ∷ xs) x ys = ap (λ (zs : List Event). z ∷ zs) (joined xs x ys)

pub one_holds : (i p q : ℕ) (events : List Event) → ((k : ℕ) → TakesTurns i (take k events)) → Holds p i events → Holds q i events → p ≡ q
one_holds i p q events turns h g = ⊎_elim
    (λ (less : length h.before < length g.before). absurd (never_twice i p q events turns h g less))
    (λ (more : length g.before ≤ length h.before). ⊎_elim
    (λ (less : length g.before < length h.before). absurd (never_twice i q p events turns g h less))
    (λ (no_more : length h.before ≤ length g.before).
    let same : h.taking ≡ g.taking
    = at_once h.taking g.taking h.before g.before h.after g.after (sym h.whole ∙ g.whole) (omega (arith, more, no_more)) in
    sym h.its ∙ ap (λ (e : Event). e.party) same ∙ g.its)
    (cases_lt (length g.before) (length h.before)))
    (cases_lt (length h.before) (length g.before))

-- who took an index, which nobody gave back since, is its holder
pub holder_is : (i p : ℕ) (events : List Event) (x : Place) → ((k : ℕ) → TakesTurns i (take k events))
    → times_taken i events ≡ times_given i events + one_if_held x → ((q : ℕ) → x ≡ place.Held q → Holds q i events) → Holds p i events
    → x ≡ place.Held p
holder_is i p events x turns balance holders h = of x balance holders
  where
    before : TakesTurns i h.before
    before = subst (TakesTurns i) (ap (take (length h.before)) h.whole ∙ take-append_seam h.before (h.taking ∷ h.after))
        (turns (length h.before))

    more : times_given i events + 1 ≤ times_taken i events
    more = omega (
      arith,
      before.0,
      h.takes,
      h.keeps,
      none_given i h.taking h.takes,
      ap (times_taken i) h.whole ∙ more_taken i h.before (h.taking ∷ h.after),
      ap (times_given i) h.whole ∙ more_given i h.before (h.taking ∷ h.after),
    )

    of : (x : Place) → times_taken i events ≡ times_given i events + one_if_held x → ((q : ℕ) → x ≡ place.Held q → Holds q i events)
        → x ≡ place.Held p
    of place.Empty balance holders = absurd (omega (arith, more, balance))
    of (place.Claimed q) balance holders = absurd (omega (arith, more, balance))
    of (place.Counted q) balance holders = absurd (omega (arith, more, balance))
    of (place.Held q) balance holders = ap (λ (r : ℕ). place.Held r) (one_holds i q p events turns (holders q refl) h)
