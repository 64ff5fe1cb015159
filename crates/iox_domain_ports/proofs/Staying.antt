-- Publishers of which none changes stay as they are.
use Rattle.std.proofs.Common.{rules, ◌≡◌, ◌∷◌, [], ℕ, Bool, true, false, cond, is_some, List, Option, None, Some, Result, Ok, Err, min}
use Rattle.std.proofs.Common.{refl, sym, ap, ◌∙◌}
use Rattle.std.specs.Ordering.{nat_cmp}
use Rattle.std.specs.BTreeMap.{is_at}
use Rattle.std.specs.declared.alloc.AllocError.{AllocError}
use Rattle.std.specs.Map.{lookup, set_value}
use Rattle.iox_domain_ports.specs.declared.publisher_port.PublisherPort.{PublisherPort}
use Rattle.iox_domain_ports.specs.Ports.{Attaches}
use Rattle.iox_domain_ports.specs.Reading.{given_back_at}
use Rattle.iox_domain_ports.specs.Publishers.{port_of, with_port, changed, changed_at_port, released, AttachesAtPort}

same_entry : {K X : Type 0} (test : K → Bool) (entries : List (K × X)) (value : X) → lookup test entries ≡ Some value
    → set_value test entries value ≡ entries
same_entry test [] value there = refl
same_entry test (entry ∷ entries) value there = at (test entry.0) refl (λ found. same_entry test entries value found)
  where
    at : (here : Bool) → test entry.0 ≡ here → (lookup test entries ≡ Some value → set_value test entries value ≡ entries)
        → set_value test (entry ∷ entries) value ≡ entry ∷ entries
    at true is later =
        let found : Some entry.1 ≡ Some value = ap (λ b. cond b (Some entry.1) (lookup test entries)) (sym is) ∙ there in
        let same : value ≡ entry.1 = search (rules, found) in
        rw is (ap (λ v. (entry.0, v) ∷ entries) same)
    at false is later =
        let found : lookup test entries ≡ Some value = ap (λ b. cond b (Some entry.1) (lookup test entries)) (sym is) ∙ there in
        rw is (ap (λ es. entry ∷ es) (later found))

nothing_changed : {T U : Type 0} (number index : ℕ) (ports : List (ℕ × PublisherPort T U)) (port : Option (PublisherPort T U))
    → port_of number ports ≡ port
    → changed_at_port number (given_back_at index None) port ports ≡ ports
nothing_changed number index ports None is = refl
nothing_changed number index ports (Some port) is = same_entry (is_at (nat_cmp number)) ports port is

-- where nothing is given back nothing changes
pub nothing_given : {T U : Type 0} (number index : ℕ) (place : Option ℕ) (ports new : List (ℕ × PublisherPort T U)) → is_some place ≡ false
    → new ≡ changed number (given_back_at index place) ports → new ≡ released number index place ports
nothing_given number index (Some at) ports new none is = search (rules, none)
nothing_given number index None ports new none is = is ∙ nothing_changed number index ports (port_of number ports) refl

found_same_by : {K X : Type 0} (test : K → Bool) (passes : Bool) (entry : K × X) (entries : List (K × X)) (x y : X) → test entry.0 ≡ passes
    → (lookup test entries ≡ Some y → lookup test (set_value test entries x) ≡ Some x)
    → cond passes (Some entry.1) (lookup test entries) ≡ Some y
    → lookup test (cond passes ((entry.0, x) ∷ entries) (entry ∷ set_value test entries x)) ≡ Some x
found_same_by test true entry entries x y is rest there = ap (λ b. cond b (Some x) (lookup test entries)) is
found_same_by test false entry entries x y is rest there
    = ap (λ b. cond b (Some entry.1) (lookup test (set_value test entries x))) is ∙ rest there

-- what was put in the place of a value is found there
pub found_same : {K X : Type 0} (test : K → Bool) (entries : List (K × X)) (x y : X) → lookup test entries ≡ Some y
    → lookup test (set_value test entries x) ≡ Some x
found_same test [] x y there = cc
found_same test (entry ∷ entries) x y there
    = found_same_by test (test entry.0) entry entries x y refl (found_same test entries x y) there

-- where the attaching is refused nothing changes
pub attaches_there : {T U : Type 0} (number subscriber limit : ℕ) (old : List (ℕ × PublisherPort T U)) (port after : PublisherPort T U)
    (answer : Result ℕ AllocError) → port_of number old ≡ Some port
    → Attaches subscriber (min limit port.sender.uses.most_waiting) port answer after
    → AttachesAtPort number subscriber limit (Some port) old (Some answer) (with_port number old after)
attaches_there number subscriber limit old port after (Err error) there refused
    = (refused.0, ap (with_port number old) refused.1 ∙ same_entry (is_at (nat_cmp number)) old port there)
attaches_there number subscriber limit old port after (Ok index) there attaches = (after, attaches, refl)
