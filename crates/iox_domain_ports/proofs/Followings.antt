-- An update goes from place to place.
use Rattle.std.proofs.Common.{◌≡◌, ◌+◌, ◌<◌, ◌≤◌, arith, zero, suc, ◌-◌, ℕ, Bool, List, ◌∷◌, length, drop, get_or, Result, Option, None}
use Rattle.std.proofs.Common.{refl, sym, ap, ◌∙◌}
use Rattle.std.proofs.lemmas.List.{drop_more, drop_all, get_or_default}
use Rattle.std.specs.Prelude.{is_ok}
use Rattle.std.specs.declared.alloc.AllocError.{AllocError}
use Rattle.iox_domain_values.specs.declared.connection_failure.ConnectionFailure.{ConnectionFailure}
use Rattle.iox_domain_values.specs.declared.degradation.DegradationAction.{DegradationAction}
use Rattle.iox_domain_values.specs.declared.degradation.DegradationInfo.{DegradationInfo}
use Rattle.iox_domain_slots.specs.Container.declared.container.Member.{Member}
use Rattle.iox_domain_ports.specs.Ports.{with_connections}
use Rattle.iox_domain_ports.specs.PublisherUpdating.{Follows, Asks, FollowsAll, OnlyConnections, untied, untied_from}
use Rattle.iox_domain_ports.specs.PublisherUpdating.{update_answer, let_go_of}
use Rattle.iox_domain_ports.specs.declared.publisher_port.PublisherPort.{PublisherPort}
use Rattle.iox_domain_ports.specs.declared.subscriber_entry.SubscriberEntry.{SubscriberEntry}

-- only connections changed in one step, and in the next
pub only_still : {T U : Type 0} (first now next : PublisherPort T U) → OnlyConnections first now → OnlyConnections now next
    → OnlyConnections first next
only_still {T} {U} first now next one two = two ∙ ap (changed next) one where
  changed : PublisherPort T U → PublisherPort T U → PublisherPort T U
  changed after before = record (with_connections after.sender.uses.connections before)
      { seen = after.seen; ties = after.ties; readers = after.readers }

-- The state of an update before it reaches a place: what the rest of the places results in is the result of all places.
pub record Following {T U : Type 0} (may : DegradationInfo → DegradationAction → Type 0)
    (listed : List (Option (Member SubscriberEntry))) (first : PublisherPort T U)
    (found : Option ConnectionFailure) (now : PublisherPort T U) (place : ℕ) : Type 0 where
  pub rest : (answer : Result (Unit {0}) ConnectionFailure) (new : PublisherPort T U)
      → FollowsAll may place (drop place listed) found now answer new → FollowsAll may 0 listed None first answer new
  pub only : OnlyConnections first now

-- nothing was followed yet
pub following_none : {T U : Type 0} (may : DegradationInfo → DegradationAction → Type 0)
    (listed : List (Option (Member SubscriberEntry))) (first : PublisherPort T U) → Following may listed first None first 0
following_none may listed first = record { rest = λ answer new further. further; only = refl }

-- one place more is followed
pub following_on : {T U : Type 0} (may : DegradationInfo → DegradationAction → Type 0) (listed : List (Option (Member SubscriberEntry)))
    (first now next : PublisherPort T U) (place : ℕ)
    (member asked : Option (Member SubscriberEntry)) (found after : Option ConnectionFailure) (outcome : Result (Unit {0}) AllocError)
    (is_made : Bool)
    → Following may listed first found now place → place < length listed → member ≡ get_or listed place member
    → asked ≡ get_or listed place asked → is_made ≡ is_ok outcome
    → Follows place member now outcome next → OnlyConnections now next → Asks may asked next found is_made after
    → Following may listed first after next (place + 1)
following_on may listed first now next place member asked found after outcome is_made so_far within is_member is_asked is_outcome
    follows only asks =
    let left : drop place listed ≡ member ∷ drop (place + 1) listed
    = drop_more listed place member within ∙ ap (λ one. one ∷ drop (place + 1) listed) (sym is_member) in
    let one : asked ≡ member = is_asked ∙ get_or_default listed place asked member within ∙ sym is_member in
    let asks_of : Asks may member next found (is_ok outcome) after = rw (← one) (rw (← is_outcome) asks) in
    record {
      rest = λ answer new further. so_far.rest answer new (rw left (outcome, next, after, follows, asks_of, further));
      only = only_still first now next so_far.only only;
    }

-- no place of the list is left
pub followed : {T U : Type 0} (may : DegradationInfo → DegradationAction → Type 0) (listed : List (Option (Member SubscriberEntry)))
    (first now new : PublisherPort T U) (place : ℕ) (found : Option ConnectionFailure)
    (answer : Result (Unit {0}) ConnectionFailure)
    → Following may listed first found now place → place ≤ length listed → length listed ≤ place → answer ≡ update_answer found
    → new ≡ untied_from (length now.ties.items - length listed) (length listed) now → FollowsAll may 0 listed None first answer new
followed may listed first now new place found answer so_far within over is_answer is_new =
    let same : length listed ≡ place = omega (arith, within, over) in
    so_far.rest answer new (rw (drop_all place listed over) (is_answer, rw same at is_new))

-- The state of the untying before it reaches a place: what the rest of the places results in is the result of all places.
pub record Untying {T U : Type 0} (whole first now : PublisherPort T U) (count place : ℕ) : Type 0 where
  pub rest : untied_from (count - place) place now ≡ whole
  pub only : OnlyConnections first now

-- none is untied yet
pub untying_none : {T U : Type 0} (first : PublisherPort T U) (count place : ℕ)
    → Untying (untied_from (count - place) place first) first first count place
untying_none first count place = record { rest = refl; only = refl }

-- one place more is untied
pub untying_on : {T U : Type 0} (whole first now next : PublisherPort T U) (count place : ℕ) → Untying whole first now count place
    → place < count → next ≡ untied place now → OnlyConnections now next
    → Untying whole first next count (place + 1)
untying_on whole first now next count place so_far within is_next only =
    let left : count - place ≡ suc (count - (place + 1)) = omega (arith, within) in
    record {
      rest = ap (λ port. untied_from (count - (place + 1)) (place + 1) port) is_next ∙ sym (ap (λ n. untied_from n place now) left) ∙
          so_far.rest;
      only = only_still first now next so_far.only only;
    }

-- no place is left
pub untying_over : {T U : Type 0} (whole first now : PublisherPort T U) (count place : ℕ) → Untying whole first now count place
    → count ≤ place → now ≡ whole
untying_over whole first now count place so_far over =
    let left : count - place ≡ zero = omega (arith, over) in
    sym (ap (λ n. untied_from n place now) left) ∙ so_far.rest

-- places that are tied to none stay as they are
none_untied : {T U : Type 0} (count place : ℕ) (port : PublisherPort T U)
    → ((other : ℕ) → place ≤ other → get_or port.ties.items other None ≡ None) → untied_from count place port ≡ port
none_untied zero place port none = refl
none_untied (suc count) place port none =
    ap (λ tie. untied_from count (place + 1) (let_go_of place tie port)) (none place (omega arith))
    ∙ none_untied count (place + 1) port (λ other past. none other (omega (arith, past)))

-- no place from one on is tied
pub untying_past : {T U : Type 0} (whole first now : PublisherPort T U) (count place : ℕ) → Untying whole first now count place
    → ((other : ℕ) → place ≤ other → get_or now.ties.items other None ≡ None) → now ≡ whole
untying_past whole first now count place so_far none = sym (none_untied (count - place) place now none) ∙ so_far.rest
