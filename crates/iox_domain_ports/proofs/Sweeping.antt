-- Expired connections are ended, and left, one by one.
use Rattle.std.proofs.Common.{arith, ◌≡◌, ◌+◌, ◌-◌, ◌<◌, ◌≤◌, ◌∷◌, [], ℕ, zero, suc, Bool, true, false, List, length, get_or, drop}
use Rattle.std.proofs.Common.{slice_get, Option, None, refl, sym, ap, ◌∙◌}
use Rattle.std.proofs.lemmas.List.{drop_more, get_or-drop}
use Rattle.iox_domain_ports.specs.declared.publisher_port.PublisherPort.{PublisherPort}
use Rattle.iox_domain_ports.specs.Receiving.{is_idle_at, dropped_port, dropped_ports, swept, left_at, left_all, SweepsAt}
use Rattle.iox_domain_ports.specs.declared.attached.Attached.{Attached}
use Rattle.iox_domain_ports.specs.declared.subscriber_port.SubscriberPort.{SubscriberPort}

-- How far the walk through the expired connections is: the rest of it has the result of the whole.
pub record Sweeping {T U : Type 0} (count : ℕ) (whole now : SubscriberPort × List (ℕ × PublisherPort T U)) (place done : ℕ) : Type 0 where
  pub rest : swept place (count - done) now ≡ whole
  pub few : place ≤ done

abbrev both : {T U : Type 0} → SubscriberPort → List (ℕ × PublisherPort T U) → SubscriberPort × List (ℕ × PublisherPort T U)
both port ports = (port, ports)

pair : {T U : Type 0} (port next_port : SubscriberPort) (ports next_ports : List (ℕ × PublisherPort T U)) → next_port ≡ port
    → next_ports ≡ ports → both next_port next_ports ≡ both port ports
pair port next_port ports next_ports one two = ap (λ p. both p next_ports) one ∙ ap (both port) two

-- one more is gone over
pub swept_on : {T U : Type 0} (count : ℕ) (whole : SubscriberPort × List (ℕ × PublisherPort T U)) (port next_port : SubscriberPort)
    (ports next_ports : List (ℕ × PublisherPort T U)) (place next done : ℕ)
    → Sweeping count whole (port, ports) place done → done < count
    → SweepsAt (is_idle_at (slice_get port.expired.items place) port ports) place port ports next next_port next_ports
    → Sweeping count whole (next_port, next_ports) next (done + 1)
swept_on {T} {U} count whole port next_port ports next_ports place next done so_far within sweeps
    = at (is_idle_at (slice_get port.expired.items place) port ports) refl sweeps
  where
    left : count - done ≡ suc (count - (done + 1))
    left = omega (arith, within)

    further : swept place (suc (count - (done + 1))) (port, ports) ≡ whole
    further = ap (λ n. swept place n (port, ports)) (sym left) ∙ so_far.rest

    at : (idle : Bool) → is_idle_at (slice_get port.expired.items place) port ports ≡ idle
        → SweepsAt idle place port ports next next_port next_ports → Sweeping count whole (next_port, next_ports) next (done + 1)
    at true is step =
        let same : swept place (suc (count - (done + 1))) (port, ports)
        ≡ swept place (count - (done + 1))
        (dropped_port place (slice_get port.expired.items place) port, dropped_ports (slice_get port.expired.items place) port ports)
        = rw is refl in
        record {
          rest = ap (λ p. swept p (count - (done + 1)) (next_port, next_ports)) step.0 ∙ ap (swept place (count - (done + 1)))
              (pair (dropped_port place (slice_get port.expired.items place) port) next_port
              (dropped_ports (slice_get port.expired.items place) port ports) next_ports step.1 step.2)
              ∙ sym same ∙ further;
          few = omega (arith, so_far.few, step.0);
        }
    at false is step =
        let same : swept place (suc (count - (done + 1))) (port, ports) ≡ swept (place + 1) (count - (done + 1)) (port, ports)
        = rw is refl in
        record {
          rest = ap (λ p. swept p (count - (done + 1)) (next_port, next_ports)) step.0 ∙ ap (swept (place + 1) (count - (done + 1)))
              (pair port next_port ports next_ports step.1 step.2)
              ∙ sym same ∙ further;
          few = omega (arith, so_far.few, step.0);
        }

-- all are gone over
pub swept_all : {T U : Type 0} (count : ℕ) (whole now : SubscriberPort × List (ℕ × PublisherPort T U)) (place done : ℕ)
    → Sweeping count whole now place done → count ≤ done → now ≡ whole
swept_all count whole now place done so_far over =
    let none : count - done ≡ zero = omega (arith, over) in
    ap (λ n. swept place n now) (sym none) ∙ so_far.rest

-- one more is left
pub left_on : {T U : Type 0} (all : List (Option Attached)) (first now next : List (ℕ × PublisherPort T U)) (key : ℕ)
    → left_all (drop key all) now ≡ left_all all first → key < length all
    → next ≡ left_at (get_or all key None) now → left_all (drop (key + 1) all) next ≡ left_all all first
left_on all first now next key so_far within made =
    ap (left_all (drop (key + 1) all)) made
    ∙ sym (ap (λ rest. left_all rest now) (drop_more all key None within))
    ∙ so_far

-- keys that hold no connection are left as they are
none_left : {T U : Type 0} (rest : List (Option Attached)) (ports : List (ℕ × PublisherPort T U))
    → ((key : ℕ) → get_or rest key None ≡ None) → left_all rest ports ≡ ports
none_left [] ports none = refl
none_left (attached ∷ rest) ports none =
    ap (λ one. left_all rest (left_at one ports)) (none 0) ∙ none_left rest ports (λ key. none (suc key))

-- all are left where no key from one on holds a connection
pub all_left : {T U : Type 0} (all : List (Option Attached)) (first now : List (ℕ × PublisherPort T U)) (key : ℕ)
    → left_all (drop key all) now ≡ left_all all first
    → ((other : ℕ) → key ≤ other → get_or all other None ≡ None) → now ≡ left_all all first
all_left all first now key so_far none =
    sym (none_left (drop key all) now (λ more. get_or-drop key all more None ∙ none (key + more) (omega arith))) ∙ so_far
