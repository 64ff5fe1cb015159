-- Of each connection one key at most is, of one subscriber.
use Rattle.std.proofs.Common.{arith, ◌≡◌, ◌∙◌, ◌≤◌, ◌<◌, ◌==◌, ◌&&◌, ◌∷◌, [], ℕ, zero, suc, Bool, true, false, List, get_or, Option, None}
use Rattle.std.proofs.Common.{Some, if◌then◌else◌, refl, sym, ap, inl, inr}
use Rattle.std.proofs.lemmas.Bool.{cases_eq, eqb-true}
use Rattle.std.proofs.lemmas.List.Elements.{All-head, All-tail}
use Rattle.std.proofs.lemmas.List.Sums.{sum_by-cons}
use Rattle.std.specs.List.{All}
use Rattle.std.specs.Map.{keys_of, values_of}
use Rattle.std.specs.Prelude.{sum_by}
use Rattle.iox_domain.specs.Container.SlotTable.{value_at}
use Rattle.iox_domain.specs.declared.ports.service_ports.ServicePorts.{ServicePorts}
use Rattle.iox_domain.specs.DomainPorts.declared.publisher_port.PublisherPort.{PublisherPort}
use Rattle.iox_domain.specs.DomainPorts.declared.reader.Reader.{Reader}
use Rattle.iox_domain.specs.DomainPorts.declared.attached.Attached.{Attached}
use Rattle.iox_domain.specs.DomainPorts.declared.subscriber_port.SubscriberPort.{SubscriberPort}
use Rattle.iox_domain.specs.Tries.{how_often}
use Rattle.iox_domain.proofs.Keys.{adds_same}
use Rattle.iox_domain.specs.Roomy.{IsAttached, ReadsApartEntry, AreRoomy}
use Rattle.iox_domain.proofs.Bools.{both_true}
use Rattle.iox_domain.proofs.GivingBack.{names_one, names_of}

-- a key that is counted names the connection
one_true : (test : Bool) → 0 < (if test then 1 else 0) → test ≡ true
one_true true some = refl
one_true false some = absurd (omega (arith, some))

one_most : (test : Bool) → (if test then 1 else 0) ≤ 1
one_most true = omega arith
one_most false = omega arith

named_one : (publisher index : ℕ) (attached : Option Attached) → 0 < names_one publisher index attached
    → attached ≡ Some (record { publisher = publisher; index = index })
named_one publisher index None some = absurd (omega (arith, some))
named_one publisher index (Some attached) some =
    let both = both_true (attached.publisher == publisher) (attached.index == index) (one_true _ some) in
    let is_publisher : attached.publisher ≡ publisher = eqb-true attached.publisher publisher both.0 in
    let is_index : attached.index ≡ index = eqb-true attached.index index both.1 in
    ap (λ n. Some (record { publisher = n; index = attached.index })) is_publisher ∙ ap
    (λ n. Some (record { publisher = publisher; index = n })) is_index

names_most : (publisher index : ℕ) (attached : Option Attached) → names_one publisher index attached ≤ 1
names_most publisher index None = omega arith
names_most publisher index (Some attached) = one_most ((attached.publisher == publisher) && (attached.index == index))

-- where some key names the connection, one is found
named_some : (publisher index : ℕ) (values : List (Option Attached))
    → 0 < sum_by (λ attached. names_one publisher index attached) values → (key : ℕ)
    × (value_at values key ≡ Some (record { publisher = publisher; index = index }))
named_some publisher index [] some = absurd (omega (arith, some))
named_some publisher index (x ∷ xs) some = elim (cases_eq (names_one publisher index x) 0) [
  | inl none ↦
      let rest = named_some publisher index xs
      (omega (arith, some, none, sum_by-cons (λ attached. names_one publisher index attached) x xs)) in
      (suc rest.0, rest.1)
  | inr here ↦ (zero, named_one publisher index x (omega (arith, here)))
]

-- where no two keys name the same, one key at most does
named_once : (publisher index : ℕ) (values : List (Option Attached))
    → ((key other : ℕ) (attached : Attached) → value_at values key ≡ Some attached → value_at values other ≡ Some attached → key ≡ other)
    → sum_by (λ attached. names_one publisher index attached) values ≤ 1
named_once publisher index [] apart = omega arith
named_once publisher index (x ∷ xs) apart =
    let cons = sum_by-cons (λ attached. names_one publisher index attached) x xs in
    elim (cases_eq (names_one publisher index x) 0) [
      | inl none ↦
          let rest = named_once publisher index xs
          (λ key other attached is_key is_other. let same : suc key ≡ suc other
          = apart (suc key) (suc other) attached is_key is_other in omega (arith, same)) in
          omega (arith, cons, none, rest)
      | inr here ↦ elim (cases_eq (sum_by (λ attached. names_one publisher index attached) xs) 0) [
        | inl none ↦ omega (arith, cons, none, names_most publisher index x)
        | inr there ↦
            let rest = named_some publisher index xs (omega (arith, there)) in
            let same : zero ≡ suc rest.0 = apart zero (suc rest.0) (record { publisher = publisher; index = index })
            (named_one publisher index x (omega (arith, here))) rest.1 in
            absurd (omega (arith, same))
      ]
    ]

if_some : (test : Bool) (count : ℕ) → 0 < (if test then count else 0) → (test ≡ true) × (0 < count)
if_some true count some = (refl, some)
if_some false count some = absurd (omega (arith, some))

if_most : (test : Bool) (count : ℕ) → (test ≡ true → count ≤ 1) → (if test then count else 0) ≤ 1
if_most true count few = few refl
if_most false count few = omega arith

-- a subscriber that counts reads from the connection
counted_reads : {T U : Type 0} (ports : ServicePorts T U) (publisher index : ℕ) (number : ℕ) (port : SubscriberPort)
    → ReadsApartEntry ports (number, port) → 0 < names_of publisher index port
    → IsAttached number (record { publisher = publisher; index = index }) ports.publishers
counted_reads ports publisher index number port entry some =
    let both = if_some port.stands _ some in
    let found = named_some publisher index port.connections.values both.1 in
    (entry both.0).reads found.0 (record { publisher = publisher; index = index }) found.1

counted_once : {T U : Type 0} (ports : ServicePorts T U) (publisher index : ℕ) (number : ℕ) (port : SubscriberPort)
    → ReadsApartEntry ports (number, port) → names_of publisher index port ≤ 1
counted_once ports publisher index number port entry
    = if_most port.stands _ (λ stands. named_once publisher index port.connections.values
    (λ key other attached is_key is_other. (entry stands).apart key other attached attached is_key is_other refl))

-- two who read from one connection are one
abbrev read_by : Option Reader → ℕ
read_by None = 0
read_by (Some reader) = reader.subscriber

pub reads_same : {T U : Type 0} (one other : ℕ) (attached : Attached) (ports : List (ℕ × PublisherPort T U))
    → IsAttached one attached ports → IsAttached other attached ports → one ≡ other
reads_same {T} {U} one other attached ports (port, there, reads) (second, is_second, second_reads) =
    let both : Some port ≡ Some second = sym there ∙ is_second in
    let same : port ≡ second = cc in
    let readers = sym reads.reader ∙ ap (λ (p : PublisherPort T U). get_or p.readers attached.index None) same ∙ second_reads.reader in
    ap (λ reader. read_by reader) readers

none_else : {T U : Type 0} (ports : ServicePorts T U) (publisher index number : ℕ) (entries : List (ℕ × SubscriberPort))
    → All (ReadsApartEntry ports) entries → how_often number (keys_of entries) ≡ 0
    → IsAttached number (record { publisher = publisher; index = index }) ports.publishers
    → sum_by (λ port. names_of publisher index port) (values_of entries) ≡ 0
none_else ports publisher index number [] all none reads = refl
none_else ports publisher index number (entry ∷ entries) all none reads =
    let rest = none_else ports publisher index number entries (All-tail (ReadsApartEntry ports) entry entries all) (omega (arith, none))
    reads in
    let cons = sum_by-cons (λ port. names_of publisher index port) entry.1 (values_of entries) in
    elim (cases_eq (names_of publisher index entry.1) 0) [
      | inl here ↦ omega (arith, rest, cons, here)
      | inr some ↦
          let other = counted_reads ports publisher index entry.0 entry.1 (All-head (ReadsApartEntry ports) entry entries all)
          (omega (arith, some)) in
          let same : number ≡ entry.0 = reads_same number entry.0 (record { publisher = publisher; index = index }) ports.publishers
          reads other in
          absurd (omega (arith, none, adds_same number entry.0 same))
    ]

few_of : {T U : Type 0} (ports : ServicePorts T U) (publisher index : ℕ) (entries : List (ℕ × SubscriberPort))
    → All (ReadsApartEntry ports) entries → ((number : ℕ) → how_often number (keys_of entries) ≤ 1)
    → sum_by (λ port. names_of publisher index port) (values_of entries) ≤ 1
few_of ports publisher index [] all once = omega arith
few_of ports publisher index (entry ∷ entries) all once =
    let head = All-head (ReadsApartEntry ports) entry entries all in
    let tail = All-tail (ReadsApartEntry ports) entry entries all in
    let cons = sum_by-cons (λ port. names_of publisher index port) entry.1 (values_of entries) in
    elim (cases_eq (names_of publisher index entry.1) 0) [
      | inl none ↦
          let rest = few_of ports publisher index entries tail (λ number. omega (arith, once number)) in
          omega (arith, cons, none, rest)
      | inr some ↦
          let reads = counted_reads ports publisher index entry.0 entry.1 head (omega (arith, some)) in
          let none = none_else ports publisher index entry.0 entries tail (omega (arith, once entry.0, adds_same entry.0 entry.0 refl))
          reads in
          omega (arith, cons, none, counted_once ports publisher index entry.0 entry.1 head)
    ]

pub few_names : {T U : Type 0} (ports : ServicePorts T U) (publisher index : ℕ) → AreRoomy ports
    → sum_by (λ port. names_of publisher index port) (values_of ports.subscribers) ≤ 1
few_names ports publisher index roomy = few_of ports publisher index ports.subscribers roomy.apart roomy.once
