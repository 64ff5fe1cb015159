-- A message that is received leaves idle connections idle, and others as they were.
use Rattle.std.proofs.Common.{arith, ◌≡◌, ◌+◌, ◌-◌, ◌<◌, ◌≤◌, ◌==◌, ◌&&◌, ◌++◌, ◌∷◌, [], ◌∙◌, ℕ, zero, suc, Bool, true, false, cond}
use Rattle.std.proofs.Common.{List, length, get_or, set, take, drop, slice_get, is_some, Option, None, Some, refl, sym, ap, subst}
use Rattle.std.proofs.Common.{length-append}
use Rattle.std.specs.BTreeMap.{is_at}
use Rattle.std.specs.FinMap.{nat_cmp-IsAntisymmetric}
use Rattle.std.specs.Map.{set_value}
use Rattle.std.specs.Ordering.{nat_cmp, is_eq}
use Rattle.std.specs.declared.cmp.Ordering.{Ordering}
use Rattle.std.specs.declared.cmp.Ordering.TheVariants.{Less, Equal, Greater}
use Rattle.std.specs.Cmp.{eq_by_cmp_equiv}
use Rattle.std.proofs.lemmas.Cmp.{nat_cmp_total}
use Rattle.std.proofs.lemmas.Map.{lookup-set_value}
use Rattle.std.proofs.lemmas.Bool.Decides.{eqb_tells}
use Rattle.std.proofs.Math.Logic.{⊎_elim}
use Rattle.iox_domain_slots.specs.Uses.{Connection, nobody, taken}
use Rattle.iox_domain_ports.specs.Messages.{Message}
use Rattle.iox_domain_ports.specs.Ports.{connection_of}
use Rattle.iox_domain_ports.specs.Publishers.{port_of, changed, changed_at_port, connection_at_port}
use Rattle.iox_domain_ports.specs.Reading.{taken_at}
use Rattle.iox_domain_ports.specs.Receiving.{IsMet, IsGiver, IsBusy, IsGiverThere, is_idle_at, given, given_ports, swept, Serves}
use Rattle.iox_domain_ports.specs.Subscribing.{attached_at, connection_by, gives, is_idle, taken_ports}
use Rattle.iox_domain_ports.specs.declared.attached.Attached.{Attached}
use Rattle.iox_domain_ports.specs.declared.attached.Taken.{Taken}
use Rattle.iox_domain_ports.specs.declared.publisher_port.PublisherPort.{PublisherPort}
use Rattle.iox_domain_ports.specs.declared.subscriber_port.SubscriberPort.{SubscriberPort}
use Rattle.iox_domain_ports.proofs.Asking.{swept_from}

-- whether nothing waits and nothing is borrowed of a connection
abbrev is_idle_connection : {T U : Type 0} → Connection (Message T U) → Bool
is_idle_connection connection = (length connection.waiting == 0) && (length connection.borrowed == 0)

some_is_not_none : (n : ℕ) → 0 < n → n == 0 ≡ false
some_is_not_none n some = ⊎_elim (λ same. absurd (omega (arith, some, same.1))) (λ differs. differs.0) (eqb_tells n 0)

-- it depends on how many there are of both
by_sum : (waiting borrowed : ℕ) → (waiting == 0) && (borrowed == 0) ≡ (waiting + borrowed == 0)
by_sum zero borrowed = let same : borrowed ≡ 0 + borrowed = omega arith in ap (λ n. n == 0) same
by_sum (suc waiting) borrowed =
    let some : suc waiting == 0 ≡ false = some_is_not_none (suc waiting) (omega arith) in
    let more : suc waiting + borrowed == 0 ≡ false = some_is_not_none (suc waiting + borrowed) (omega arith) in
    ap (λ one. one && (borrowed == 0)) some ∙ sym more

as_many : {X : Type 0} (waiting borrowed : List X)
    → length (drop 1 waiting) + length (borrowed ++ take 1 waiting) ≡ length waiting + length borrowed
as_many [] borrowed = omega (arith, length-append borrowed [])
as_many (x ∷ rest) borrowed = omega (arith, length-append borrowed (x ∷ []))

rests_taken : {T U : Type 0} (connection : Connection (Message T U)) → is_idle_connection (taken connection) ≡ is_idle_connection connection
rests_taken connection =
    by_sum (length (taken connection).waiting) (length (taken connection).borrowed)
    ∙ ap (λ n. n == 0) (as_many connection.waiting connection.borrowed)
    ∙ sym (by_sum (length connection.waiting) (length connection.borrowed))

-- the connection at an index, where what stands at another or the same one changed and rests as before
rests_set : {T U : Type 0} (connections : List (Connection (Message T U))) (at index : ℕ) (new : Connection (Message T U))
    → is_idle_connection new ≡ is_idle_connection (get_or connections at nobody)
    → is_idle_connection (get_or (set connections at new) index nobody) ≡ is_idle_connection (get_or connections index nobody)
rests_set [] at index new same = refl
rests_set (one ∷ rest) zero zero new same = same
rests_set (one ∷ rest) zero (suc index) new same = refl
rests_set (one ∷ rest) (suc at) zero new same = refl
rests_set (one ∷ rest) (suc at) (suc index) new same = rests_set rest at index new same

equal_order : (order : Ordering) → is_eq order ≡ true → order ≡ Equal
equal_order Less is = cc
equal_order Equal is = refl
equal_order Greater is = cc

-- what holds of a publisher that is found holds after one changed, if it holds of the changed one
holds_changed : {T U : Type 0} (P : Option (PublisherPort T U) → Type 0) (number changing : ℕ)
    (step : PublisherPort T U → PublisherPort T U) (ports : List (ℕ × PublisherPort T U))
    → ((port : PublisherPort T U) → P (Some port) → P (Some (step port)))
    → P (port_of number ports) → P (port_of number (changed changing step ports))
holds_changed {T} {U} P number changing step ports steps holds = at (port_of changing ports) refl
  where
    at : (found : Option (PublisherPort T U)) → port_of changing ports ≡ found
        → P (port_of number (changed_at_port changing step found ports))
    at None is = holds
    at (Some port) is = subst P (sym after) (by (is_at (nat_cmp changing) number) refl)
      where
        after : port_of number (set_value (is_at (nat_cmp changing)) ports (step port))
            ≡ cond (is_at (nat_cmp changing) number) (Some (step port)) (port_of number ports)
        after = let same = eq_by_cmp_equiv nat_cmp_total in
            lookup-set_value same (is_at (nat_cmp changing)) (same.congr changing) number (step port) ports (ap is_some is)

        by : (here : Bool) → is_at (nat_cmp changing) number ≡ here → P (cond here (Some (step port)) (port_of number ports))
        by true here =
            let one : changing ≡ number = nat_cmp-IsAntisymmetric changing number (equal_order (nat_cmp changing number) here) in
            let found : port_of number ports ≡ Some port = ap (λ n. port_of n ports) (sym one) ∙ is in
            steps port (subst P found holds)
        by false here = holds

-- a connection rests after a message was received through any as it did before
rests_as_before : {T U : Type 0} (port : SubscriberPort) (ports : List (ℕ × PublisherPort T U)) (giver one : Option Attached)
    → is_idle_connection (connection_by one (taken_ports giver ports)) ≡ is_idle_connection (connection_by one ports)
rests_as_before port ports giver None = refl
rests_as_before port ports None (Some one) = refl
rests_as_before {T} {U} port ports (Some giver) (Some one)
    = holds_changed
    (λ found. is_idle_connection (connection_at_port one.index found) ≡ is_idle_connection (connection_by (Some one) ports))
    one.publisher giver.publisher (taken_at giver.index) ports
    (λ publisher holds. rests_set publisher.sender.uses.connections giver.index one.index
    (taken (connection_of giver.index publisher)) (rests_taken (connection_of giver.index publisher)) ∙ holds)
    refl

idle_as_before : {T U : Type 0} (port : SubscriberPort) (ports : List (ℕ × PublisherPort T U)) (giver : Option ℕ) (key : ℕ)
    → is_idle port (given_ports giver port ports) key ≡ is_idle port ports key
idle_as_before port ports None key = refl
idle_as_before port ports (Some giver) key = rests_as_before port ports (attached_at giver port) (attached_at key port)

busy_as_before : {T U : Type 0} (port : SubscriberPort) (ports : List (ℕ × PublisherPort T U)) (giver key : Option ℕ)
    → is_idle_at key port ports ≡ false → is_idle_at key port (given_ports giver port ports) ≡ false
busy_as_before port ports giver None busy = refl
busy_as_before port ports giver (Some key) busy = idle_as_before port ports giver key ∙ busy

-- a giver gives, and of those that were met the idle ones end from the first on
pub serves_from : {T U : Type 0} (port port_after : SubscriberPort) (ports between ports_after : List (ℕ × PublisherPort T U))
    (met first : ℕ) (giver : Option ℕ) (answer : Option Taken)
    → IsMet (gives port ports) port.expired.items met → first ≤ met → IsBusy port ports first
    → IsGiver (slice_get port.expired.items met) (gives port ports) giver → IsGiverThere giver port ports
    → answer ≡ given giver port ports → between ≡ given_ports giver port ports
    → port_after ≡ (swept first (met - first) (port, between)).0 → ports_after ≡ (swept first (met - first) (port, between)).1
    → Serves port ports answer port_after ports_after
serves_from {T} {U} port port_after ports between ports_after met first giver answer meets few busy is_giver there is_answer is_between
    is_after are_after =
    let all : swept 0 met (port, given_ports giver port ports) ≡ swept first (met - first) (port, between)
    = swept_from port (given_ports giver port ports) first met few
    (λ at below. busy_as_before port ports giver (slice_get port.expired.items at) (busy at below))
    ∙ ap (λ (now : List (ℕ × PublisherPort T U)). swept first (met - first) (port, now)) (sym is_between) in
    (met, meets, giver, is_giver, is_answer, is_after ∙ sym (ap (λ state. state.0) all), are_after ∙ sym (ap (λ state. state.1) all), there)
