-- An update goes from place to place.
use Rattle.std.proofs.Common.{arith, ◌≡◌, ◌+◌, ◌-◌, ◌<◌, ◌≤◌, ℕ, zero, suc, Bool, true, false, List, ◌∷◌, length, drop, get_or, Result}
use Rattle.std.proofs.Common.{Option, None, refl, sym, ap, subst, ◌∙◌}
use Rattle.std.proofs.lemmas.List.{drop_more, drop_all, get_or_default}
use Rattle.iox_domain_values.specs.declared.connection_failure.ConnectionFailure.{ConnectionFailure}
use Rattle.iox_domain_values.specs.declared.connection_failure.ZeroCopyCreationError.{ZeroCopyCreationError}
use Rattle.iox_domain_values.specs.declared.degradation.DegradationAction.{DegradationAction}
use Rattle.iox_domain_values.specs.declared.degradation.DegradationInfo.{DegradationInfo}
use Rattle.iox_domain_slots.specs.Container.declared.container.Member.{Member}
use Rattle.iox_domain_ports.specs.declared.publisher_port.PublisherPort.{PublisherPort}
use Rattle.iox_domain_ports.specs.Following.{FollowsNoneAt}
use Rattle.iox_domain_ports.specs.SubscriberUpdating.{is_listed, FollowsExactly, AsksOf, FollowsEach, FollowsNoneIf, FollowsNones}
use Rattle.iox_domain_ports.specs.declared.publisher_entry.PublisherEntry.{PublisherEntry}
use Rattle.iox_domain_ports.specs.declared.subscriber_port.SubscriberPort.{SubscriberPort}

-- The state of an update before it reaches a place: what the rest of the places results in is the result of all places.
pub record Following {T U : Type 0} (may : DegradationInfo → DegradationAction → Type 0) (is_new : Bool)
    (listed : List (Option (Member PublisherEntry))) (first : SubscriberPort) (first_ports : List (ℕ × PublisherPort T U))
    (found : Option ConnectionFailure) (now : SubscriberPort) (now_ports : List (ℕ × PublisherPort T U)) (place : ℕ) : Type 0 where
  pub rest : (after : Option ConnectionFailure) (new : SubscriberPort) (new_ports : List (ℕ × PublisherPort T U))
      → FollowsEach may is_new place (drop place listed) found now now_ports after new new_ports
      → FollowsEach may is_new 0 listed None first first_ports after new new_ports

-- nothing was followed yet
pub following_none : {T U : Type 0} (may : DegradationInfo → DegradationAction → Type 0) (is_new : Bool)
    (listed : List (Option (Member PublisherEntry))) (first : SubscriberPort) (first_ports : List (ℕ × PublisherPort T U))
    → Following may is_new listed first first_ports None first first_ports 0
following_none may is_new listed first first_ports = record { rest = λ after new new_ports further. further }

-- one place more is followed
pub following_on : {T U : Type 0} (may : DegradationInfo → DegradationAction → Type 0) (is_new : Bool)
    (listed : List (Option (Member PublisherEntry)))
    (first now next : SubscriberPort)
    (first_ports now_ports next_ports : List (ℕ × PublisherPort T U)) (place : ℕ) (member asked : Option (Member PublisherEntry))
    (found after : Option ConnectionFailure) (outcome : Result (Unit {0}) ZeroCopyCreationError)
    → Following may is_new listed first first_ports found now now_ports place → place < length listed → member ≡ get_or listed place member
    → asked ≡ get_or listed place asked
    → FollowsExactly is_new place member now now_ports outcome next next_ports → AsksOf may asked next found outcome after
    → Following may is_new listed first first_ports after next next_ports (place + 1)
following_on may is_new listed first now next first_ports now_ports next_ports place member asked found after outcome so_far within
    is_member is_asked follows asks =
    let left : drop place listed ≡ member ∷ drop (place + 1) listed
    = drop_more listed place member within ∙ ap (λ one. one ∷ drop (place + 1) listed) (sym is_member) in
    let one : asked ≡ member = is_asked ∙ get_or_default listed place asked member within ∙ sym is_member in
    let asks_of : AsksOf may member next found outcome after = rw (← one) asks in
    record {
      rest = λ last new new_ports further. so_far.rest last new new_ports
          (rw left (outcome, next, next_ports, after, follows, asks_of, further));
    }

-- no place is left
pub followed : {T U : Type 0} (may : DegradationInfo → DegradationAction → Type 0) (is_new : Bool)
    (listed : List (Option (Member PublisherEntry)))
    (first now : SubscriberPort) (first_ports now_ports : List (ℕ × PublisherPort T U))
    (place : ℕ) (found : Option ConnectionFailure) → Following may is_new listed first first_ports found now now_ports place
    → length listed ≤ place
    → FollowsEach may is_new 0 listed None first first_ports found now now_ports
followed may is_new listed first now first_ports now_ports place found so_far over
    = so_far.rest found now now_ports (rw (drop_all place listed over) (refl, refl, refl))

-- The state of the second walk, at the places without a listed publisher, before it reaches a place.
abbrev pub Clearing : {T U : Type 0} → List (Option (Member PublisherEntry)) → ℕ → SubscriberPort → List (ℕ × PublisherPort T U)
    → SubscriberPort → List (ℕ × PublisherPort T U) → ℕ → Type 0
Clearing {T} {U} listed count first first_ports now now_ports place = (new : SubscriberPort) (new_ports : List (ℕ × PublisherPort T U))
    → FollowsNones listed place (count - place) now now_ports new new_ports
    → FollowsNones listed 0 count first first_ports new new_ports

pub clearing_on : {T U : Type 0} (listed : List (Option (Member PublisherEntry))) (count : ℕ) (first now next : SubscriberPort)
    (first_ports now_ports next_ports : List (ℕ × PublisherPort T U)) (place : ℕ)
    → Clearing listed count first first_ports now now_ports place → place < count
    → FollowsNoneIf (is_listed listed place) place now now_ports next next_ports
    → Clearing listed count first first_ports next next_ports (place + 1)
clearing_on listed count first now next first_ports now_ports next_ports place so_far within follows new new_ports further =
    let left : count - place ≡ suc (count - (place + 1)) = omega (arith, within) in
    so_far new new_ports (rw left (next, next_ports, follows, further))

pub cleared : {T U : Type 0} (listed : List (Option (Member PublisherEntry))) (count : ℕ) (first now : SubscriberPort)
    (first_ports now_ports : List (ℕ × PublisherPort T U)) (place : ℕ)
    → Clearing listed count first first_ports now now_ports place → count ≤ place
    → FollowsNones listed 0 count first first_ports now now_ports
cleared listed count first now first_ports now_ports place so_far over =
    let none : count - place ≡ zero = omega (arith, over) in
    so_far now now_ports (rw none (refl, refl))

-- places that are tied to none stay as they are
none_cleared : {T U : Type 0} (listed : List (Option (Member PublisherEntry))) (place count : ℕ) (port : SubscriberPort)
    (ports : List (ℕ × PublisherPort T U)) → ((other : ℕ) → place ≤ other → get_or port.places.items other None ≡ None)
    → FollowsNones listed place count port ports port ports
none_cleared listed place zero port ports none = (refl, refl)
none_cleared {T} {U} listed place (suc count) port ports none =
    let further : FollowsNones listed (place + 1) count port ports port ports
    = none_cleared listed (place + 1) count port ports (λ other past. none other (omega (arith, past))) in
    (port, ports, here (is_listed listed place), further)
  where
    here : (is_there : Bool) → FollowsNoneIf is_there place port ports port ports
    here true = (refl, refl)
    here false = subst (λ tie. FollowsNoneAt tie place port ports port ports) (sym (none place (omega arith))) (refl, refl)

-- no place from one on is tied
pub cleared_past : {T U : Type 0} (listed : List (Option (Member PublisherEntry))) (count : ℕ) (first now : SubscriberPort)
    (first_ports now_ports : List (ℕ × PublisherPort T U)) (place : ℕ)
    → Clearing listed count first first_ports now now_ports place
    → ((other : ℕ) → place ≤ other → get_or now.places.items other None ≡ None)
    → FollowsNones listed 0 count first first_ports now now_ports
cleared_past listed count first now first_ports now_ports place so_far none =
    so_far now now_ports (none_cleared listed place (count - place) now now_ports none)
