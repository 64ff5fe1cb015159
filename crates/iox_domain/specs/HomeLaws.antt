-- Theorems about a domain as the home of its own ports.
use Rattle.std.proofs.Common.{◌≡◌, Bool, true, false, Option, None, Some, refl, sym, ap, ◌∙◌, cond}
use Rattle.std.proofs.lemmas.Bool.{eqb-true}
use Rattle.std.specs.Option.{option_map}
use Rattle.std.specs.Prelude.{◌==◌, ◌&&◌}
use Rattle.iox_domain.specs.declared.domain_id.DomainId.{DomainId}
use Rattle.iox_domain.specs.AsHome.{same_id, own_state, own_changed}
use Rattle.iox_domain.specs.Domains.{in_state}
use Rattle.iox_domain.specs.declared.domain.Domain.{Domain}
use Rattle.iox_domain.specs.declared.state.DomainState.{DomainState}

-- Ids that `same_id` finds the same are equal.
one_id : (a b : DomainId) → same_id a b ≡ true → a ≡ b
one_id a b same = both (a.hub == b.hub) (a.service == b.service) refl refl same
  where
    both : (hub service : Bool) → (a.hub == b.hub) ≡ hub → (a.service == b.service) ≡ service → (hub && service) ≡ true → a ≡ b
    both true true hub service same =
        ap (λ h. record { hub = h; service = a.service }) (eqb-true a.hub b.hub hub) ∙ ap (λ s. record { hub = b.hub; service = s })
        (eqb-true a.service b.service service)
    both true false hub service same = cc
    both false true hub service same = cc
    both false false hub service same = cc

module _ {T U B D : Type 0} where
  -- The case of `changed_found` in which `here` says whether the home has this id.
  found_where : (here : Bool) (id : DomainId) (step : DomainState T U B D → DomainState T U B D) (home : Domain T U B D)
      → same_id home.id id ≡ here
      → own_state id (cond here (in_state step home) home) ≡ option_map step (cond here (Some home.state) None)
  found_where true id step home is = rw is refl
  found_where false id step home is = rw is refl

  -- After a step of the state with this id, the home contains the state that the step made of it.
  pub changed_found : (id : DomainId) (step : DomainState T U B D → DomainState T U B D) (home : Domain T U B D)
      → own_state id (own_changed id step home) ≡ option_map step (own_state id home)
  changed_found id step home = found_where (same_id home.id id) id step home refl

  -- The case of `others_stay` in which `here` and `there` say which of both ids the home has.
  others_where : (here there : Bool) (id other : DomainId) (step : DomainState T U B D → DomainState T U B D) (home : Domain T U B D)
      → same_id home.id id ≡ here → same_id home.id other ≡ there → (id ≡ other → ⊥)
      → own_state other (cond here (in_state step home) home) ≡ own_state other home
  others_where true true id other step home is also apart = absurd (apart (sym (one_id home.id id is) ∙ one_id home.id other also))
  others_where true false id other step home is also apart = rw also refl
  others_where false there id other step home is also apart = refl

  -- A step of the state with one id doesn't change the state with another id.
  pub others_stay : (id other : DomainId) (step : DomainState T U B D → DomainState T U B D) (home : Domain T U B D) → (id ≡ other → ⊥)
      → own_state other (own_changed id step home) ≡ own_state other home
  others_stay id other step home apart = others_where (same_id home.id id) (same_id home.id other) id other step home refl refl apart

  -- The case of `alike` in which `here` says whether the home has this id.
  alike_where : (here : Bool) (one other : DomainState T U B D → DomainState T U B D) (home : Domain T U B D)
      → option_map one (cond here (Some home.state) None) ≡ option_map other (cond here (Some home.state) None)
      → cond here (in_state one home) home ≡ cond here (in_state other home) home
  alike_where true one other home same = ap (λ state. record home { state = state }) (one_value same)
    where
      value_or : DomainState T U B D → Option (DomainState T U B D) → DomainState T U B D
      value_or default None = default
      value_or default (Some value) = value

      one_value : {x y : DomainState T U B D} → Some x ≡ Some y → x ≡ y
      one_value {x} {y} same = ap (value_or x) same
  alike_where false one other home same = refl

  -- Two steps that make the same of the state with this id make the same of the home.
  pub alike : (id : DomainId) (one other : DomainState T U B D → DomainState T U B D) (home : Domain T U B D)
      → option_map one (own_state id home) ≡ option_map other (own_state id home) → own_changed id one home ≡ own_changed id other home
  alike id one other home same = alike_where (same_id home.id id) one other home same

  -- The case of `unchanged` in which `here` says whether the home has this id.
  unchanged_where : (here : Bool) (home : Domain T U B D) → cond here (in_state (λ state. state) home) home ≡ home
  unchanged_where true home = refl
  unchanged_where false home = refl

  -- A step that changes nothing leaves the home as it is.
  pub unchanged : (id : DomainId) (home : Domain T U B D) → own_changed id (λ state. state) home ≡ home
  unchanged id home = unchanged_where (same_id home.id id) home

  -- The case of `again` in which `here` says whether the home has this id.
  again_where : (here : Bool) (id : DomainId) (first second : DomainState T U B D → DomainState T U B D) (home : Domain T U B D)
      → same_id home.id id ≡ here
      → own_changed id second (cond here (in_state first home) home) ≡ cond here (in_state (λ state. second (first state)) home) home
  again_where true id first second home is = rw is refl
  again_where false id first second home is = rw is refl

  -- Two steps one after the other are the same as both in one.
  pub again : (id : DomainId) (first second : DomainState T U B D → DomainState T U B D) (home : Domain T U B D)
      → own_changed id second (own_changed id first home) ≡ own_changed id (λ state. second (first state)) home
  again id first second home = again_where (same_id home.id id) id first second home refl
