-- How many loans the publishers of a list may still make after one changed, went or came.
use Rattle.std.proofs.Common.{arith, ◌≡◌, ◌+◌, ◌≤◌, ◌∷◌, [], ◌&&◌, ℕ, Bool, true, false, not, List, Option, None, Some, if◌then◌else◌}
use Rattle.std.proofs.Common.{refl, ap, ◌∙◌}
use Rattle.std.specs.Prelude.{sum_by}
use Rattle.std.specs.BTreeMap.{insert_entry, is_at}
use Rattle.std.specs.Map.{values_of}
use Rattle.std.specs.Ordering.{nat_cmp, match_ordering}
use Rattle.std.specs.declared.cmp.Ordering.{Ordering}
use Rattle.std.specs.declared.cmp.Ordering.TheVariants.{Less, Equal, Greater}
use Rattle.std.proofs.lemmas.List.Sums.{sum_by-cons}
use Rattle.std.proofs.lemmas.Map.Entries.{sum_by-set_value, sum_by-remove_entry}
use Rattle.iox_domain.specs.DomainPorts.declared.publisher_port.PublisherPort.{PublisherPort}
use Rattle.iox_domain.specs.DomainPorts.Publishers.{port_of, with_port, added, removed, changed, changed_at_port, is_over_port}
use Rattle.iox_domain.specs.DomainPorts.Publishers.{is_over_in, settled}
use Rattle.iox_domain.specs.DomainPorts.Reading.{is_over}
use Rattle.iox_domain.proofs.Outliving.{not_true}
use Rattle.iox_domain.specs.Loans.{spare_loans}

-- how many loans the publishers of a list may still make
abbrev pub left_among : {T U : Type 0} → List (ℕ × PublisherPort T U) → ℕ
left_among ports = sum_by (λ port. spare_loans port) (values_of ports)

-- another publisher stands in the place of one
pub put_left : {T U : Type 0} (number : ℕ) (ports : List (ℕ × PublisherPort T U)) (port after : PublisherPort T U)
    → port_of number ports ≡ Some port
    → left_among (with_port number ports after) + spare_loans port ≡ left_among ports + spare_loans after
put_left number ports port after there = sum_by-set_value (λ one. spare_loans one) (is_at (nat_cmp number)) ports port after there

pub with_left : {T U : Type 0} (lent ended number : ℕ) (ports : List (ℕ × PublisherPort T U)) (port after : PublisherPort T U)
    → port_of number ports ≡ Some port
    → spare_loans after + lent ≤ spare_loans port + ended → left_among (with_port number ports after) + lent ≤ left_among ports + ended
with_left lent ended number ports port after there few = omega (arith, few, put_left number ports port after there)

-- a publisher that is over may make no loan
none_spare : (stands rest : Bool) (count : ℕ) → (not stands && rest) ≡ true → (if stands then count else 0) ≡ 0
none_spare true rest count over = absurd (not_true over)
none_spare false rest count over = refl

over_spares : {T U : Type 0} (port : PublisherPort T U) → is_over port ≡ true → spare_loans port ≡ 0
over_spares port over = none_spare port.stands _ _ over

-- where a publisher that is over is gone as many may be made
pub settled_left : {T U : Type 0} (number : ℕ) (ports : List (ℕ × PublisherPort T U)) → left_among (settled number ports) ≡ left_among ports
settled_left {T} {U} number ports = at (is_over_in number ports) (port_of number ports) refl refl
  where
    at : (over : Bool) (found : Option (PublisherPort T U)) → port_of number ports ≡ found → is_over_port found ≡ over
        → left_among (if over then removed number ports else ports) ≡ left_among ports
    at false found is over = refl
    at true None is over = absurd (not_true over)
    at true (Some port) is over =
        let gone = rw is at (sum_by-remove_entry (λ one. spare_loans one) (is_at (nat_cmp number)) ports) in
        omega (arith, gone, over_spares port over)

-- one publisher took a step, if there is one
pub changed_left : {T U : Type 0} (ended number : ℕ) (step : PublisherPort T U → PublisherPort T U) (ports : List (ℕ × PublisherPort T U))
    → ((port : PublisherPort T U) → spare_loans (step port) ≤ spare_loans port + ended)
    → left_among (changed number step ports) ≤ left_among ports + ended
changed_left {T} {U} ended number step ports few = at (port_of number ports) refl
  where
    at : (found : Option (PublisherPort T U)) → port_of number ports ≡ found
        → left_among (changed_at_port number step found ports) ≤ left_among ports + ended
    at None is = omega arith
    at (Some port) is = omega (arith, with_left 0 ended number ports port (step port) is (omega (arith, few port)))

-- what comes under a number is added to a sum at most
summed_on : {X : Type 0} (f : X → ℕ) (number : ℕ) (x : X) (entry : ℕ × X) (entries : List (ℕ × X)) (order : Ordering)
    → sum_by f (values_of (insert_entry nat_cmp entries number x)) ≤ sum_by f (values_of entries) + f x
    → sum_by f (values_of (match_ordering order ((number, x) ∷ entry ∷ entries) ((entry.0, x) ∷ entries)
    (entry ∷ insert_entry nat_cmp entries number x)))
    ≤ sum_by f (values_of (entry ∷ entries)) + f x
summed_on f number x entry entries Less rest = omega (arith, sum_by-cons f x (values_of (entry ∷ entries)))
summed_on f number x entry entries Equal rest
    = omega (arith, sum_by-cons f x (values_of entries), sum_by-cons f entry.1 (values_of entries))
summed_on f number x entry entries Greater rest =
    omega (
      arith,
      rest,
      sum_by-cons f entry.1 (values_of (insert_entry nat_cmp entries number x)),
      sum_by-cons f entry.1
          (values_of entries),
    )

summed_came : {X : Type 0} (f : X → ℕ) (number : ℕ) (x : X) (entries : List (ℕ × X))
    → sum_by f (values_of (insert_entry nat_cmp entries number x)) ≤ sum_by f (values_of entries) + f x
summed_came f number x [] = omega (arith, sum_by-cons f x [])
summed_came f number x (entry ∷ entries) = summed_on f number x entry entries (nat_cmp number entry.0) (summed_came f number x entries)

-- a publisher comes
pub added_left : {T U : Type 0} (number : ℕ) (port : PublisherPort T U) (ports : List (ℕ × PublisherPort T U))
    → left_among (added number port ports) ≤ left_among ports + spare_loans port
added_left number port ports = summed_came (λ one. spare_loans one) number port ports

-- the first of a list, and the others
pub first_left : {T U : Type 0} (ports rest : List (ℕ × PublisherPort T U)) (first : ℕ × PublisherPort T U) → ports ≡ first ∷ rest
    → left_among ports ≡ spare_loans first.1 + left_among rest
first_left ports rest first is = ap left_among is ∙ sum_by-cons (λ one. spare_loans one) first.1 (values_of rest)

pub none_left : {T U : Type 0} (ports : List (ℕ × PublisherPort T U)) → ports ≡ [] → left_among ports ≡ 0
none_left ports is = ap left_among is
