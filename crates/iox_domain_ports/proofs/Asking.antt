-- Each connection is asked once whether it gives, has data or is idle.
use Rattle.std.proofs.Common.{arith, ◌≡◌, ◌⊎◌, ◌+◌, ◌-◌, ◌<◌, ◌≤◌, ◌∙◌, inl, inr, ℕ, zero, suc, Bool, true, false, List, slice_get, is_some}
use Rattle.std.proofs.Common.{length, get_or, unwrap_or, Option, None, Some, refl, sym, ap, subst}
use Rattle.std.proofs.Common.{Result}
use Rattle.std.proofs.Math.Logic.{⊎_elim}
use Rattle.std.proofs.lemmas.Option.{get_or_from_slice_get, slice_get_within, slice_get-get_or}
use Rattle.iox_domain_values.specs.declared.port_error.ReceiveError.{ReceiveError}
use Rattle.iox_domain_slots.proofs.Loaned.{not_true}
use Rattle.iox_domain_ports.specs.declared.attached.Taken.{Taken}
use Rattle.iox_domain_ports.specs.declared.publisher_port.PublisherPort.{PublisherPort}
use Rattle.iox_domain_ports.specs.declared.subscriber_port.SubscriberPort.{SubscriberPort}
use Rattle.iox_domain_ports.specs.Keys.{IsKeyOf}
use Rattle.iox_domain_ports.specs.Subscribing.{gives, has_data, is_idle}
use Rattle.iox_domain_ports.specs.Receiving.{IsFirst, IsMet, IsGiver, IsBusy, IsOneAmong, IsOne, first_of, is_idle_at, swept}
use Rattle.iox_domain_ports.specs.Receiving.{nothing_taken, Receives}
use Rattle.iox_domain_ports.proofs.First.{NonePasses, one_fails}

-- one that passes among the numbers below a count; none if none of them does
abbrev pub IsOneBelow : (ℕ → Bool) → ℕ → Option ℕ → Type 0
IsOneBelow test count None = NonePasses test count
IsOneBelow test count (Some key) = test key ≡ true

-- How far the walk through all connections by key is, after `met` expired ones: none gave a message, and which of them and of the
-- expired ones has data.
pub record LookedSoFar {T U : Type 0} (port : SubscriberPort) (ports : List (ℕ × PublisherPort T U)) (met key : ℕ) (unread : Option ℕ)
    : Type 0 where
  pub none : NonePasses (gives port ports) key
  pub below : IsOneBelow (has_data port ports) key unread
  pub expired : IsOneAmong (has_data port ports) port.expired.items met unread

-- How far the walk through the expired connections is: none gave a message; which one was idle first, and which one has data.
pub record MetSoFar {T U : Type 0} (port : SubscriberPort) (ports : List (ℕ × PublisherPort T U)) (place : ℕ) (idle unread : Option ℕ)
    : Type 0 where
  pub none : NonePasses (λ at. gives port ports (get_or port.expired.items at 0)) place
  pub few : unwrap_or idle place ≤ place
  pub busy : IsBusy port ports (unwrap_or idle place)
  pub has : IsOneAmong (has_data port ports) port.expired.items place unread

-- what is told of a key of a list holds at its place there
at_place : (test : ℕ → Bool) (keys : List ℕ) (place key : ℕ) (told : Bool) → Some key ≡ slice_get keys place → test key ≡ told
    → test (get_or keys place 0) ≡ told
at_place test keys place key told here is = ap test (get_or_from_slice_get keys place key 0 (sym here)) ∙ is

-- one more of a list is asked
one_more_of : (test : ℕ → Bool) (keys : List ℕ) (place key : ℕ) (unread : Option ℕ) (passes : Bool) → Some key ≡ slice_get keys place
    → test key ≡ passes → IsOneAmong test keys place unread → IsOneAmong test keys (place + 1) (first_of unread key passes)
one_more_of test keys place key (Some first) passes here is so_far = so_far
one_more_of test keys place key None true here is so_far = is
one_more_of test keys place key None false here is so_far
    = one_fails (λ at. test (get_or keys at 0)) place so_far (at_place test keys place key false here is)

-- one more number is asked
one_more_below : (test : ℕ → Bool) (key : ℕ) (unread : Option ℕ) (passes : Bool) → test key ≡ passes → IsOneBelow test key unread
    → IsOneBelow test (key + 1) (first_of unread key passes)
one_more_below test key (Some first) passes is so_far = so_far
one_more_below test key None true is so_far = is
one_more_below test key None false is so_far = one_fails test key so_far is

-- the first idle one, after one more was asked
idle_on : {T U : Type 0} (port : SubscriberPort) (ports : List (ℕ × PublisherPort T U)) (place key : ℕ) (idle : Option ℕ) (passes : Bool)
    → Some key ≡ slice_get port.expired.items place → is_idle port ports key ≡ passes → unwrap_or idle place ≤ place
    → IsBusy port ports (unwrap_or idle place)
    → (unwrap_or (first_of idle place passes) (place + 1) ≤ place + 1)
    × IsBusy port ports (unwrap_or (first_of idle place passes) (place + 1))
idle_on port ports place key (Some first) passes here is few busy = (omega (arith, few), busy)
idle_on port ports place key None true here is few busy = (omega arith, busy)
idle_on port ports place key None false here is few busy = (
  omega arith,
  one_fails (λ at. is_idle_at (slice_get port.expired.items at) port ports) place busy
      (ap (λ found. is_idle_at found port ports) (sym here) ∙ is),
)

-- one more expired connection is met
pub met_on : {T U : Type 0} (port : SubscriberPort) (ports : List (ℕ × PublisherPort T U)) (place key : ℕ)
    (idle unread next_idle next_unread : Option ℕ) (gave rests has : Bool) → MetSoFar port ports place idle unread
    → key ≡ get_or port.expired.items place 0 → place < length port.expired.items
    → gave ≡ gives port ports key → gave ≡ false → has ≡ has_data port ports key → rests ≡ is_idle port ports key
    → next_idle ≡ first_of idle place rests → next_unread ≡ first_of unread key has
    → MetSoFar port ports (place + 1) next_idle next_unread
met_on {T} {U} port ports place key idle unread next_idle next_unread gave rests has so_far here within is_gave none is_data is_idle_there
    idle_is unread_is =
    let there : Some key ≡ slice_get port.expired.items place = ap Some here ∙ sym (slice_get-get_or port.expired.items place 0 within) in
    let next = idle_on port ports place key idle rests there (sym is_idle_there) so_far.few so_far.busy in
    record {
      none = one_fails (λ at. gives port ports (get_or port.expired.items at 0)) place so_far.none
          (at_place (gives port ports) port.expired.items place key false there (sym is_gave ∙ none));
      few = subst (λ (found : Option ℕ). unwrap_or found (place + 1) ≤ place + 1) (sym idle_is) next.0;
      busy = subst (λ (found : Option ℕ). IsBusy port ports (unwrap_or found (place + 1))) (sym idle_is) next.1;
      has = subst (λ (found : Option ℕ). IsOneAmong (has_data port ports) port.expired.items (place + 1) found) (sym unread_is)
          (one_more_of (has_data port ports) port.expired.items place key unread has there (sym is_data) so_far.has);
    }

-- what has data among a list still has, or one more does
has_still : (test : ℕ → Bool) (keys : List ℕ) (count key : ℕ) (unread : Option ℕ) (passes : Bool) → test key ≡ passes
    → IsOneAmong test keys count unread → IsOneAmong test keys count (first_of unread key passes)
has_still test keys count key (Some first) passes is has = has
has_still test keys count key None true is has = is
has_still test keys count key None false is has = has

below_none : (test : ℕ → Bool) (keys : List ℕ) (met : ℕ) (unread : Option ℕ) → IsOneAmong test keys met unread → IsOneBelow test 0 unread
below_none test keys met (Some first) has = has
below_none test keys met None has = λ key below. absurd (omega (arith, below))

-- no key is looked at yet
pub looked_none : {T U : Type 0} (port : SubscriberPort) (ports : List (ℕ × PublisherPort T U)) (met : ℕ) (unread : Option ℕ)
    → IsOneAmong (has_data port ports) port.expired.items met unread → LookedSoFar port ports met 0 unread
looked_none port ports met unread has = record {
  none = λ key below. absurd (omega (arith, below));
  below = below_none (has_data port ports) port.expired.items met unread has;
  expired = has;
}

-- one more key is looked at
pub looked_on : {T U : Type 0} (port : SubscriberPort) (ports : List (ℕ × PublisherPort T U)) (met key : ℕ) (unread next : Option ℕ)
    (gave has : Bool) → LookedSoFar port ports met key unread → gave ≡ gives port ports key → gave ≡ false
    → has ≡ has_data port ports key → next ≡ first_of unread key has → LookedSoFar port ports met (key + 1) next
looked_on {T} {U} port ports met key unread next gave has so_far is_gave none is_data is =
    subst (λ (found : Option ℕ). LookedSoFar port ports met (key + 1) found) (sym is) (record {
      none = one_fails (gives port ports) key so_far.none (sym is_gave ∙ none);
      below = one_more_below (has_data port ports) key unread has (sym is_data) so_far.below;
      expired = has_still (has_data port ports) port.expired.items met key unread has (sym is_data) so_far.expired;
    })

-- of which none has data the next has none either
none_past : (test : ℕ → Bool) (keys : List ℕ) (met key : ℕ) (unread : Option ℕ)
    → (((place : ℕ) → place < met → test (get_or keys place 0) ≡ false) → test key ≡ false)
    → IsOneBelow test key unread → IsOneAmong test keys met unread → IsOneBelow test (key + 1) unread
none_past test keys met key (Some first) fails below expired = below
none_past test keys met key None fails below expired = one_fails test key below (fails expired)

-- where all expired ones were met, one of them is passed over
pub looked_past : {T U : Type 0} (port : SubscriberPort) (ports : List (ℕ × PublisherPort T U)) (met key : ℕ) (unread next : Option ℕ)
    → LookedSoFar port ports met key unread → IsMet (gives port ports) port.expired.items met
    → slice_get port.expired.items met ≡ None → IsKeyOf key port.expired.items → next ≡ unread
    → LookedSoFar port ports met (key + 1) next
looked_past {T} {U} port ports met key unread next so_far meets over (place, here) is =
    subst (λ (found : Option ℕ). LookedSoFar port ports met (key + 1) found) (sym is) (record {
      none = one_fails (gives port ports) key so_far.none (fails (gives port ports) meets.0);
      below = none_past (has_data port ports) port.expired.items met key unread (fails (has_data port ports)) so_far.below so_far.expired;
      expired = so_far.expired;
    })
  where
    all : length port.expired.items ≤ met
    all = ⊎_elim
        (λ whole. omega (arith, whole))
        (λ one. let wrong : Some (get_or port.expired.items met 0) ≡ None
        = sym (slice_get-get_or port.expired.items met 0 one.0) ∙ over in cc)
        meets.1

    within : place < met
    within = omega (arith, all, slice_get_within port.expired.items place key here)

    fails : (test : ℕ → Bool) → ((at : ℕ) → at < met → test (get_or port.expired.items at 0) ≡ false) → test key ≡ false
    fails test none = ap test (sym (get_or_from_slice_get port.expired.items place key 0 here)) ∙ none place within

-- where none of them is idle none ends
none_swept : {T U : Type 0} (port : SubscriberPort) (ports : List (ℕ × PublisherPort T U)) (count place rest : ℕ)
    → ((at : ℕ) → place ≤ at → at < place + count → is_idle_at (slice_get port.expired.items at) port ports ≡ false)
    → swept place (count + rest) (port, ports) ≡ swept (place + count) rest (port, ports)
none_swept port ports zero place rest busy =
    let few : 0 + rest ≡ rest = omega arith in
    let here : place ≡ place + 0 = omega arith in
    ap (λ n. swept place n (port, ports)) few ∙ ap (λ at. swept at rest (port, ports)) here
none_swept port ports (suc count) place rest busy =
    let longer : suc count + rest ≡ suc (count + rest) = omega arith in
    let behind : place + 1 + count ≡ place + suc count = omega arith in
    let one : swept place (suc (count + rest)) (port, ports) ≡ swept (place + 1) (count + rest) (port, ports)
    = rw (busy place (omega arith) (omega arith)) refl in
    ap (λ n. swept place n (port, ports)) longer ∙ one
    ∙ none_swept port ports count (place + 1) rest (λ at low high. busy at (omega (arith, low)) (omega (arith, high)))
    ∙ ap (λ at. swept at rest (port, ports)) behind

-- those before the first that is idle stay
pub swept_from : {T U : Type 0} (port : SubscriberPort) (ports : List (ℕ × PublisherPort T U)) (first count : ℕ) → first ≤ count
    → IsBusy port ports first → swept 0 count (port, ports) ≡ swept first (count - first) (port, ports)
swept_from port ports first count few busy =
    let whole : count ≡ first + (count - first) = omega (arith, few) in
    let there : 0 + first ≡ first = omega arith in
    ap (λ n. swept 0 n (port, ports)) whole
    ∙ none_swept port ports first 0 (count - first) (λ at low high. busy at (omega (arith, high)))
    ∙ ap (λ at. swept at (count - first) (port, ports)) there

-- the first that passes, where one does
first_up_to : (test : ℕ → Bool) (count : ℕ) → ((key : ℕ) × IsFirst test (Some key)) ⊎ NonePasses test count
first_up_to test zero = inr (λ key below. absurd (omega (arith, below)))
first_up_to test (suc count) = ⊎_elim (λ first. inl first) (λ none. at none (test count) refl) (first_up_to test count)
  where
    at : NonePasses test count → (passes : Bool) → test count ≡ passes
        → ((key : ℕ) × IsFirst test (Some key)) ⊎ NonePasses test (suc count)
    at none true is = inl (count, (is, none))
    at none false is = inr (λ key below. one_fails test count none is key (omega (arith, below)))

-- a refusal tells that some connection has data, whichever it is
first_of_one : (test : ℕ → Bool) (unread : Option ℕ) → IsOne test unread
    → (first : Option ℕ) × IsFirst test first × (nothing_taken unread ≡ nothing_taken first)
first_of_one test None none = (None, none, refl)
first_of_one test (Some key) passes = ⊎_elim
    (λ first. (Some first.0, first.1, refl))
    (λ none. absurd (not_true (sym (none key (omega arith)) ∙ passes)))
    (first_up_to test (key + 1))

no_giver : {T U : Type 0} (port : SubscriberPort) (ports : List (ℕ × PublisherPort T U)) (met first : ℕ) (giver : Option ℕ)
    (unread : Option ℕ)
    → is_some giver ≡ false → IsMet (gives port ports) port.expired.items met
    → IsGiver (slice_get port.expired.items met) (gives port ports) giver → met ≤ first → IsBusy port ports first
    → (giver ≡ None → IsOne (has_data port ports) unread) → Receives port ports (nothing_taken unread) port ports
no_giver port ports met first (Some key) unread none meets is_giver all busy has = absurd (not_true (sym none))
no_giver port ports met first None unread none meets is_giver all busy has =
    let nothing : met - met ≡ 0 = omega arith in
    let ended : swept 0 met (port, ports) ≡ (port, ports)
    = swept_from port ports met met (omega arith) (λ at below. busy at (omega (arith, below, all)))
    ∙ ap (λ n. swept met n (port, ports)) nothing in
    let (one, is_first, same) = first_of_one (has_data port ports) unread (has refl) in (
      None,
      (met, meets, None, is_giver, refl, sym (ap (λ state. state.0) ended), sym (ap (λ state. state.1) ended), tt),
      (one, is_first, same),
    )

-- where nothing gives and no expired connection is idle, nothing changes
pub receives_nothing : {T U : Type 0} (port : SubscriberPort) (ports : List (ℕ × PublisherPort T U)) (met first : ℕ) (giver : Option ℕ)
    (unread : Option ℕ) (answer : Result (Option Taken) ReceiveError)
    → is_some giver ≡ false → IsMet (gives port ports) port.expired.items met
    → IsGiver (slice_get port.expired.items met) (gives port ports) giver → met ≤ first → IsBusy port ports first
    → (giver ≡ None → IsOne (has_data port ports) unread) → answer ≡ nothing_taken unread → Receives port ports answer port ports
receives_nothing port ports met first giver unread answer none meets is_giver all busy has is =
    subst (λ told. Receives port ports told port ports) (sym is)
    (no_giver port ports met first giver unread none meets is_giver all busy has)
