-- A release: one less is borrowed of one connection.
use Rattle.std.proofs.Common.{arith, ◌≡◌, ◌≢◌, ◌∙◌, ◌+◌, ◌≤◌, ◌==◌, ◌&&◌, ◌∷◌, [], ℕ, zero, suc, Bool, true, false, not, List, get_or}
use Rattle.std.proofs.Common.{length, set, remove, is_some, Option, None, Some, if◌then◌else◌, refl, sym, ap, inl, inr}
use Rattle.std.proofs.lemmas.Bool.{cases_eq, eq-eqb}
use Rattle.std.proofs.lemmas.List.{get_or-set_other}
use Rattle.std.specs.List.{All, list_any}
use Rattle.std.specs.Prelude.{sum_by}
use Rattle.iox_domain.specs.DomainPorts.Ports.{connection_of}
use Rattle.iox_domain.specs.DomainPorts.declared.publisher_port.PublisherPort.{PublisherPort}
use Rattle.iox_domain.specs.DomainPorts.Messages.{Message}
use Rattle.iox_domain.specs.DomainSlots.Uses.{Connection, nobody, is_there, settled, given_back}
use Rattle.iox_domain.specs.DomainSlots.declared.stage.Stage.{Stage}
use Rattle.iox_domain.specs.DomainSlots.declared.stage.Stage.TheVariants as stage
use Rattle.iox_domain.specs.DomainPorts.Publishers as publishers
use Rattle.iox_domain.specs.DomainPorts.Publishers.{port_of, with_port, changed_at_port, is_over_in, is_over_port, released, removed}
use Rattle.iox_domain.specs.DomainPorts.Publishers.{connection_at_port, connection_in}
use Rattle.iox_domain.specs.DomainPorts.Reading.{is_over, given_back_at}
use Rattle.iox_domain.specs.DomainPorts.declared.attached.Attached.{Attached}
use Rattle.iox_domain.specs.DomainPorts.declared.subscriber_port.SubscriberPort.{SubscriberPort}
use Rattle.iox_domain.specs.PortLawsLaws.{IsTidy, IsSoundEntry}
use Rattle.iox_domain.proofs.ListKeeps.{tidy_found, none_there, last_of}
use Rattle.iox_domain.proofs.Numbered.{at_number, other_fails, other_set, same_set, other_gone}
use Rattle.iox_domain.specs.Samples.{borrowed_at, borrowed_of}
use Rattle.iox_domain.proofs.Borrowing.{settled_borrowed}
use Rattle.iox_domain.proofs.SamplesSums.{sum_both}

-- 1 if these are the publisher and the index, else 0
abbrev pub one_if : ℕ → ℕ → ℕ → ℕ → ℕ
one_if publisher index number other = if (number == publisher) && (other == index) then 1 else 0

-- how often a key names a connection
abbrev pub names_one : ℕ → ℕ → Option Attached → ℕ
names_one publisher index None = 0
names_one publisher index (Some attached) = one_if publisher index attached.publisher attached.index

-- how many keys of a subscriber that stands name a connection
abbrev pub names_of : ℕ → ℕ → SubscriberPort → ℕ
names_of publisher index port = if port.stands then sum_by (λ attached. names_one publisher index attached) port.connections.values else 0

one_same : (publisher index : ℕ) → one_if publisher index publisher index ≡ 1
one_same publisher index = ap (λ b. if b && (index == index) then 1 else 0) (eq-eqb publisher publisher refl) ∙ ap
    (λ b. if b then 1 else 0) (eq-eqb index index refl)

-- one of a list goes
removed_few : {X : Type 0} (xs : List X) (at : ℕ) → length xs ≤ length (remove xs at) + 1
removed_few [] zero = omega arith
removed_few [] (suc at) = omega arith
removed_few (x ∷ xs) zero = omega arith
removed_few (x ∷ xs) (suc at) = omega (arith, removed_few xs at)

set_here : {X : Type 0} (connections : List (Connection X)) (index : ℕ) (connection : Connection X)
    → length (get_or connections index nobody).borrowed ≤ length connection.borrowed + 1
    → length (get_or connections index nobody).borrowed ≤ length (get_or (set connections index connection) index nobody).borrowed + 1
set_here [] index connection few = omega arith
set_here (x ∷ xs) zero connection few = few
set_here (x ∷ xs) (suc index) connection few = set_here xs index connection few

-- at the connection one less is borrowed, and at no other
back_here : {T U : Type 0} (index at : ℕ) (port : PublisherPort T U)
    → length (connection_of index port).borrowed ≤ length (connection_of index (given_back_at index (Some at) port)).borrowed + 1
back_here index at port =
    let old = connection_of index port in
    set_here port.sender.uses.connections index (given_back at old)
    (omega (
      arith,
      removed_few old.borrowed at,
      ap (λ all. length all)
          (settled_borrowed old.stage old.limit old.waiting (remove old.borrowed at)),
    ))

back_other : {T U : Type 0} (index at other : ℕ) (port : PublisherPort T U) → other ≢ index
    → connection_of other (given_back_at index (Some at) port) ≡ connection_of other port
back_other index at other port not = get_or-set_other port.sender.uses.connections index other
    (given_back at (connection_of index port)) nobody not

-- where there is no connection then, nothing is borrowed of it
quiet_settled : {X : Type 0} (now : Stage) (limit : ℕ) (waiting borrowed : List X) → (now ≡ stage.Vacant → borrowed ≡ [])
    → is_there (settled now limit waiting borrowed) ≡ false → length (settled now limit waiting borrowed).borrowed ≡ 0
quiet_settled stage.Ended limit waiting [] none there = refl
quiet_settled stage.Ended limit waiting (x ∷ xs) none there = cc
quiet_settled stage.Live limit waiting borrowed none there = cc
quiet_settled stage.Vacant limit waiting borrowed none there = ap (λ all. length all) (none refl)

removed_none : {X : Type 0} (xs : List X) (at : ℕ) → xs ≡ [] → remove xs at ≡ []
removed_none xs zero is = rw is refl
removed_none xs (suc at) is = rw is refl

quiet_stage : {T U : Type 0} (now : Stage) (connection : Connection (Message T U)) → connection.stage ≡ now
    → (connection.stage ≡ stage.Vacant → connection ≡ nobody) → is_there connection ≡ false → length connection.borrowed ≡ 0
quiet_stage stage.Vacant connection is tidy there = ap (λ one. length one.borrowed) (tidy is)
quiet_stage {T} {U} stage.Live connection is tidy there = let no : true ≡ false
    = sym (ap (λ now. is_there {X = Message T U} (record connection { stage = now })) is) ∙ there in absurd (cc)
quiet_stage {T} {U} stage.Ended connection is tidy there = let no : true ≡ false
    = sym (ap (λ now. is_there {X = Message T U} (record connection { stage = now })) is) ∙ there in absurd (cc)

-- what holds of each connection holds of each after one changed
set_each : {X : Type 0} (P : Connection X → Type 0) (connections : List (Connection X)) (index : ℕ) (connection : Connection X)
    → ((other : ℕ) → P (get_or connections other nobody)) → P connection → (other : ℕ)
    → P (get_or (set connections index connection) other nobody)
set_each P [] index connection all here other = all other
set_each P (x ∷ xs) zero connection all here zero = here
set_each P (x ∷ xs) zero connection all here (suc other) = all (suc other)
set_each P (x ∷ xs) (suc index) connection all here zero = all zero
set_each P (x ∷ xs) (suc index) connection all here (suc other) = set_each P xs index connection (λ one. all (suc one)) here other

back_quiet : {T U : Type 0} (index at : ℕ) (port : PublisherPort T U) → IsTidy port
    → is_over (given_back_at index (Some at) port) ≡ true → (other : ℕ)
    → length (connection_of other (given_back_at index (Some at) port)).borrowed ≡ 0
back_quiet {T} {U} index at port tidy over other =
    let old : Connection (Message T U) = connection_of index port in
    let after : PublisherPort T U = given_back_at index (Some at) port in
    let none : list_any is_there after.sender.uses.connections ≡ false
    = last_of after.stands (length after.sender.uses.loans == 0) (is_some after.sender.uses.sending)
    (list_any is_there after.sender.uses.connections) over in
    let P : Connection (Message T U) → Type 0 = λ connection. is_there connection ≡ false → length connection.borrowed ≡ 0 in
    set_each P port.sender.uses.connections index (given_back at old)
    (λ one there. quiet_stage (connection_of one port).stage (connection_of one port) refl (tidy one) there)
    (λ there. quiet_settled old.stage old.limit old.waiting (remove old.borrowed at)
    (λ vacant. removed_none old.borrowed at (ap (λ one. one.borrowed) (tidy index vacant))) there) other
    (none_there after.sender.uses.connections other none)

-- the publisher that is given back is gone if it is over, and then nothing is borrowed of it
gone_quiet : {T U : Type 0} (over : Bool) (number other index : ℕ) (ports : List (ℕ × PublisherPort T U))
    → (over ≡ true → length (connection_in number index ports).borrowed ≡ 0)
    → length (connection_in other index ports).borrowed
    ≤ length (connection_in other index (if over then removed number ports else ports)).borrowed
gone_quiet false number other index ports none = omega arith
gone_quiet true number other index ports none = elim (cases_eq other number) [
  | inl same ↦ omega (arith, none refl, ap (λ n. length (connection_in n index ports).borrowed) same)
  | inr apart ↦
      let now : port_of other (removed number ports) ≡ port_of other ports
      = other_gone (at_number number) (at_number other) ports (other_fails other number apart) in
      omega (arith, ap (λ found. length (connection_at_port index found).borrowed) now)
]

back_with : {T U : Type 0} (publisher index at : ℕ) (port : PublisherPort T U) (ports : List (ℕ × PublisherPort T U))
    → port_of publisher ports ≡ Some port → (number other : ℕ)
    → length (connection_in number other ports).borrowed
    ≤ length (connection_in number other (with_port publisher ports (given_back_at index (Some at) port))).borrowed + one_if
    publisher index number other
back_with {T} {U} publisher index at port ports there number other =
    let after : PublisherPort T U = given_back_at index (Some at) port in
    elim (cases_eq number publisher) [
      | inl same ↦
          let was : port_of number ports ≡ Some port = ap (λ n. port_of n ports) same ∙ there in
          let now : port_of number (with_port publisher ports after) ≡ Some after
          = ap (λ n. port_of n (with_port publisher ports after)) same ∙ same_set (at_number publisher) ports after port there in
          elim (cases_eq other index) [
            | inl here ↦
                omega (
                  arith,
                  back_here index at port,
                  ap (λ found. length (connection_at_port other found).borrowed) was,
                  ap (λ found. length (connection_at_port other found).borrowed) now,
                  ap (λ i. length (connection_of i port).borrowed) here,
                  ap (λ i. length (connection_of i after).borrowed) here,
                  one_same publisher index,
                  ap (λ n. one_if publisher index n other) same,
                  ap (λ i. one_if publisher index publisher i) here,
                )
            | inr not ↦
                omega (
                  arith,
                  ap (λ found. length (connection_at_port other found).borrowed) was,
                  ap (λ found. length (connection_at_port other found).borrowed) now,
                  ap (λ one. length one.borrowed) (back_other index at other port not),
                )
          ]
      | inr apart ↦
          let now : port_of number (with_port publisher ports after) ≡ port_of number ports
          = other_set (at_number publisher) (at_number number) ports after (other_fails number publisher apart) in
          omega (arith, ap (λ found. length (connection_at_port other found).borrowed) now)
    ]

over_of : {T U : Type 0} (number : ℕ) (ports : List (ℕ × PublisherPort T U)) (port : PublisherPort T U)
    → port_of number ports ≡ Some port → is_over_in number ports ≡ true → is_over port ≡ true
over_of number ports port there over = ap (λ found. is_over_port found) (sym there) ∙ over

back_found : {T U : Type 0} (next publisher index at : ℕ) (found : Option (PublisherPort T U)) (ports : List (ℕ × PublisherPort T U))
    → All (IsSoundEntry next) ports → port_of publisher ports ≡ found → (number other : ℕ)
    → length (connection_in number other ports).borrowed
    ≤ length (connection_in number other
    (publishers.settled publisher (changed_at_port publisher (given_back_at index (Some at)) found ports))).borrowed + one_if
    publisher index number other
back_found next publisher index at None ports all there number other =
    let kept = gone_quiet (is_over_in publisher ports) publisher number other ports
    (λ over. ap (λ found. length (connection_at_port other found).borrowed) there) in
    omega (arith, kept)
back_found {T} {U} next publisher index at (Some port) ports all there number other =
    let after : PublisherPort T U = given_back_at index (Some at) port in
    let changed : List (ℕ × PublisherPort T U) = with_port publisher ports after in
    let now : port_of publisher changed ≡ Some after = same_set (at_number publisher) ports after port there in
    let kept = gone_quiet (is_over_in publisher changed) publisher number other changed
    (λ over. ap (λ found. length (connection_at_port other found).borrowed) now ∙ back_quiet index at port
    (tidy_found next publisher ports port all there) (over_of publisher changed after now over) other) in
    omega (arith, kept, back_with publisher index at port ports there number other)

-- of no connection less is borrowed, but of the one that a sample is given back to, of which one less is
pub released_few : {T U : Type 0} (next publisher index at : ℕ) (ports : List (ℕ × PublisherPort T U)) → All (IsSoundEntry next) ports
    → (number other : ℕ)
    → length (connection_in number other ports).borrowed
    ≤ length (connection_in number other (released publisher index (Some at) ports)).borrowed + one_if publisher index number other
released_few next publisher index at ports all number other
    = back_found next publisher index at (port_of publisher ports) ports all refl number other

-- and so at most one less is borrowed by each key that names it
borrowed_back : {T U : Type 0} (most publisher index : ℕ) (attached : Option Attached) (old new : List (ℕ × PublisherPort T U))
    → ((number other : ℕ) → length (connection_in number other old).borrowed
    ≤ length (connection_in number other new).borrowed + one_if publisher index number other)
    → borrowed_at most attached old ≤ borrowed_at most attached new + names_one publisher index attached
borrowed_back most publisher index None old new few = omega arith
borrowed_back most publisher index (Some attached) old new few = omega (arith, few attached.publisher attached.index)

pub borrowed_of_back : {T U : Type 0} (most publisher index : ℕ) (connections : List (Option Attached))
    (old new : List (ℕ × PublisherPort T U))
    → ((number other : ℕ) → length (connection_in number other old).borrowed
    ≤ length (connection_in number other new).borrowed + one_if publisher index number other)
    → borrowed_of most connections old ≤ borrowed_of most connections new + sum_by (λ attached. names_one publisher index attached)
    connections
borrowed_of_back most publisher index connections old new few =
    sum_both (λ attached. borrowed_at most attached old) (λ attached. borrowed_at most attached new)
    (λ attached. names_one publisher index attached) connections
    (λ attached. borrowed_back most publisher index attached old new few)
