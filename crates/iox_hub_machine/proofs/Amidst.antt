-- What goes by a number in a table of some service of a machine.
use Rattle.std.proofs.Common.{◌≡◌, ◌⊎◌, ℕ, Bool, true, false, cond, List, [], ◌∷◌, ◌++◌, Option, None, Some, refl, sym, ap, inl, inr, ◌∙◌}
use Rattle.std.specs.Option.{option_or, option_map}
use Rattle.std.specs.Prelude.{find, is_some, MatchOption}
use Rattle.iox_command.specs.declared.reply.Reply.{Reply}
use Rattle.iox_command.specs.declared.reply.Reply.TheVariants as reply
use Rattle.iox_domain_machine.proofs.AloneDid.{by_option}
use Rattle.iox_domain_machine.proofs.Found.{same_some, never_some}
use Rattle.iox_hub_machine.specs.Ports.{among}
use Rattle.iox_machine.specs.Service.{Service}
use Rattle.iox_machine.specs.State.{State, AtOne, counted, replaced}
use Rattle.iox_machine.proofs.Shorthands.{IsSkipped}
use Rattle.iox_machine.specs.Table.{at}

pub is_none : {V : Type 0} (o : Option V) → (is_some o ≡ true → ⊥) → o ≡ None
is_none None never = refl
is_none (Some v) never = absurd (never refl)

neither : {V : Type 0} (one other : Option V) → option_or one other ≡ None → (one ≡ None) × (other ≡ None)
neither None other none = (refl, none)
neither (Some v) other none = never_some v (sym none)

or_none : {V : Type 0} (one : Option V) → option_or one None ≡ one
or_none None = refl
or_none (Some v) = refl

module _ {T V : Type 0} (table : Service T → List (ℕ × V)) (number : ℕ) where
  -- what none of the first has the others have
  among_behind : (first last : List (Service T)) → among table number first ≡ None
      → among table number (first ++ last) ≡ among table number last
  among_behind [] last none = refl
  among_behind (service ∷ first) last none =
      let (here, later) = neither (at number (table service)) (among table number first) none in
      ap (λ (o : Option V). option_or o (among table number (first ++ last))) here ∙ among_behind first last later

  -- what no other has one has
  pub among_one : (first : List (Service T)) (service : Service T) (last : List (Service T)) → among table number first ≡ None
      → among table number last ≡ None → among table number (first ++ service ∷ last) ≡ at number (table service)
  among_one first service last before behind =
      among_behind first (service ∷ last) before
      ∙ ap (λ (o : Option V). option_or (at number (table service)) o) behind ∙ or_none (at number (table service))

  module _ {W : Type 0} (f : V → W) where
    same_or : (one other same : Option V) → option_map f one ≡ option_map f other
        → option_map f (option_or one same) ≡ option_map f (option_or other same)
    same_or None None same is = refl
    same_or None (Some v) same is = never_some (f v) is
    same_or (Some v) None same is = never_some (f v) (sym is)
    same_or (Some v) (Some w) same is = is

    then_or : (one other rest : Option V) → option_map f other ≡ option_map f rest
        → option_map f (option_or one other) ≡ option_map f (option_or one rest)
    then_or None other rest is = is
    then_or (Some v) other rest is = refl

    replaced_by : (b : Bool) (has : Service T → Bool) (service after : Service T) (services : List (Service T)) (one : Service T)
        → cond b (Some service) (find has services) ≡ Some one
        → option_map f (at number (table after)) ≡ option_map f (at number (table one))
        → (find has services ≡ Some one
        → option_map f (among table number (replaced has after services)) ≡ option_map f (among table number services))
        → option_map f (among table number (cond b (after ∷ services) (service ∷ replaced has after services)))
        ≡ option_map f (among table number (service ∷ services))
    replaced_by true has service after services one found same rest =
        same_or (at number (table after)) (at number (table service)) (among table number services)
        (same ∙ ap (λ (it : Service T). option_map f (at number (table it))) (sym (same_some service one found)))
    replaced_by false has service after services one found same rest =
        then_or (at number (table service)) (among table number (replaced has after services)) (among table number services) (rest found)

    -- where one service is another, all have what they had, as far as it has
    pub replaced_alike : (has : Service T → Bool) (after one : Service T) (services : List (Service T)) → find has services ≡ Some one
        → option_map f (at number (table after)) ≡ option_map f (at number (table one))
        → option_map f (among table number (replaced has after services)) ≡ option_map f (among table number services)
    replaced_alike has after one [] found same = never_some one found
    replaced_alike has after one (service ∷ services) found same =
        replaced_by (has service) has service after services one found same (λ later. replaced_alike has after one services later same)

-- A command does to the services of a machine what keeps this of what goes by a number: where the service that has what it names keeps it.
pub at_one_keeps : {T V W X : Type 0} (found : Service T → Option X) (Does : X → Service T → Reply T → Service T → Type 0)
    (table : Service T → List (ℕ × V)) (f : V → W) (old new : State T) (answer : Reply T) (number : ℕ)
    → ((it : X) (service after : Service T) → found service ≡ Some it → Does it service answer after
    → option_map f (at number (table after)) ≡ option_map f (at number (table service)))
    → AtOne found Does old answer new
    → option_map f (among table number new.services) ≡ option_map f (among table number old.services)
at_one_keeps {T} {V} {W} {X} found Does table f old new answer number keeps did =
    elim (by_option (find has old.services) (IsSkipped old answer new) Did did) [
      | inl none ↦ ap (λ (state : State T). option_map f (among table number state.services)) none.1.1
      | inr one ↦ ap (λ (state : State T). option_map f (among table number state.services)) one.2.2
          ∙ replaced_alike table number f has one.2.0 one.0 old.services one.1
          (alike one.0 one.2.0 (by_option (found one.0) ⊥ (λ it. Does it one.0 answer one.2.0) one.2.1))
    ]
  where
    has : Service T → Bool
    has service = is_some (found service)

    Did : Service T → Type 0
    Did service = (after : Service T) × MatchOption (found service) ⊥ (λ it. Does it service answer after)
        × (new ≡ record old { made = counted answer old.made; services = replaced has after old.services })

    alike : (service after : Service T)
        → ((found service ≡ None) × ⊥) ⊎ ((it : X) × (found service ≡ Some it) × Does it service answer after)
        → option_map f (at number (table after)) ≡ option_map f (at number (table service))
    alike service after (inl none) = absurd none.1
    alike service after (inr one) = keeps one.0 service after one.1 one.2

-- So it is with all tables.
pub at_one_alike : {T V W X : Type 0} (found : Service T → Option X) (Does : X → Service T → Reply T → Service T → Type 0)
    (table : Service T → List (ℕ × V)) (f : V → W) (old new : State T) (answer : Reply T)
    → ((it : X) (service after : Service T) → found service ≡ Some it → Does it service answer after → (number : ℕ)
    → option_map f (at number (table after)) ≡ option_map f (at number (table service)))
    → AtOne found Does old answer new → (number : ℕ)
    → option_map f (among table number new.services) ≡ option_map f (among table number old.services)
at_one_alike found Does table f old new answer keeps did number =
    at_one_keeps found Does table f old new answer number (λ it service after is does. keeps it service after is does number) did

-- a command is skipped that names what no service has
pub at_one_skips : {T X : Type 0} (found : Service T → Option X) (Does : X → Service T → Reply T → Service T → Type 0) (state : State T)
    → find (λ (service : Service T). is_some (found service)) state.services ≡ None → AtOne found Does state reply.Skipped state
at_one_skips found Does state none = rw none (refl, refl)
