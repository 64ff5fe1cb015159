-- What a machine did that has one service alone.
use Rattle.std.proofs.Common.{◌≡◌, ◌⊎◌, Bool, true, false, cond, List, [], ◌∷◌, Option, None, Some, refl, sym, ap, subst, inl, inr, ◌∙◌}
use Rattle.std.specs.Prelude.{is_some, find, MatchBool, MatchOption}
use Rattle.iox_command.specs.declared.reply.Reply.{Reply}
use Rattle.iox_command.specs.declared.reply.Reply.TheVariants as reply
use Rattle.iox_domain_machine.specs.Laws.{with_alone}
use Rattle.iox_domain_machine.proofs.Found.{same_some, never_some}
use Rattle.iox_machine.proofs.Shorthands.{IsSkipped}
use Rattle.iox_machine.specs.Service.{Service}
use Rattle.iox_machine.specs.State.{State, AtOne, counted, replaced}

pub by_bool : (b : Bool) (A B : Type 0) → MatchBool b A B → ((b ≡ true) × A) ⊎ ((b ≡ false) × B)
by_bool true A B m = inl (refl, m)
by_bool false A B m = inr (refl, m)

pub by_option : {V : Type 0} (o : Option V) (A : Type 0) (B : V → Type 0) → MatchOption o A B
    → ((o ≡ None) × A) ⊎ ((v : V) × (o ≡ Some v) × B v)
by_option None A B m = inl (refl, m)
by_option (Some v) A B m = inr (v, refl, m)

-- the first of a list, or else another
abbrev first_or : {X : Type 0} → X → List X → X
first_or other [] = other
first_or other (x ∷ xs) = x

-- whether the one service has what is looked for
none_there : {X V : Type 0} (x : X) (o : Option V) → cond (is_some o) (Some x) None ≡ None → o ≡ None
none_there x None e = refl
none_there x (Some v) e = never_some x (sym e)

one_there : {X V : Type 0} (x y : X) (o : Option V) → cond (is_some o) (Some x) None ≡ Some y → (is_some o ≡ true) × (x ≡ y)
one_there x y None e = never_some y e
one_there x y (Some v) e = (refl, same_some x y e)

module _ {T V : Type 0} (found : Service T → Option V) (Does : V → Service T → Reply T → Service T → Type 0) (state : State T)
    (old new : Service T) (answer : Reply T) where
  abbrev has : Service T → Bool
  has service = is_some (found service)

  abbrev became : State T
  became = record (with_alone new state) { made = counted answer state.made }

  abbrev Found : Service T → Type 0
  Found service =
      (after : Service T) × MatchOption (found service) ⊥ (λ one. Does one service answer after)
      × (became ≡ record (with_alone old state) { made = counted answer state.made; services = replaced has after (old ∷ []) })

  -- the service had what the command names, and did it; or the command was skipped
  pub alone_did : AtOne found Does (with_alone old state) answer became
      → ((one : V) × (found old ≡ Some one) × Does one old answer new)
      ⊎ ((found old ≡ None) × (answer ≡ reply.Skipped) × (new ≡ old))
  alone_did h = elim (by_option (find has (old ∷ [])) (IsSkipped (with_alone old state) answer became) Found h) [
    | inl w ↦ inr (none_there old (found old) w.0, w.1.0, ap (λ (s : State T). first_or old s.services) w.1.1)
    | inr w ↦ did w.0 (one_there old w.0 (found old) w.1) w.2.0 w.2.1 w.2.2
  ]
    where
      did : (service : Service T) → (is_some (found old) ≡ true) × (old ≡ service) → (after : Service T)
          → MatchOption (found service) ⊥ (λ one. Does one service answer after)
          → became ≡ record (with_alone old state) { made = counted answer state.made; services = replaced has after (old ∷ []) }
          → ((one : V) × (found old ≡ Some one) × Does one old answer new)
          ⊎ ((found old ≡ None) × (answer ≡ reply.Skipped) × (new ≡ old))
      did service is after does came =
          let here = subst (λ (one : Service T). MatchOption (found one) ⊥ (λ it. Does it one answer after)) (sym is.1) does in
          let same : new ≡ after = ap (λ (s : State T). first_or old s.services) came
          ∙ ap (λ b. first_or old (cond b (after ∷ []) (old ∷ []))) is.0 in
          elim (by_option (found old) ⊥ (λ it. Does it old answer after) here) [
            | inl v ↦ absurd v.1
            | inr v ↦ inl (v.0, v.1, subst (λ (one : Service T). Does v.0 old answer one) (sym same) v.2)
          ]
