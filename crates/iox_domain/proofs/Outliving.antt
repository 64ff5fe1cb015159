-- What a step of a publisher does to how much lives.
use Rattle.std.proofs.Common.{arith, ◌≡◌, ◌+◌, ◌==◌, ◌&&◌, ◌∙◌, ℕ, suc, Bool, true, false, not, List, [], ◌∷◌, length, length-append}
use Rattle.std.proofs.Common.{is_some, Option, None, Some, Result, Ok, Err, if◌then◌else◌, refl, sym, ap}
use Rattle.std.specs.BTreeMap.{is_at}
use Rattle.std.specs.Ordering.{nat_cmp}
use Rattle.std.specs.List.{list_any}
use Rattle.std.proofs.Math.Logic.{⊎_elim}
use Rattle.std.proofs.lemmas.Bool.{cases_Bool}
use Rattle.std.proofs.lemmas.Map.Entries.{sum_by-set_value, sum_by-remove_entry}
use Rattle.iox_domain.specs.DomainValues.declared.data_segment.AllocationStrategy.{AllocationStrategy}
use Rattle.iox_domain.specs.DomainValues.declared.port_error.LoanError.{LoanError}
use Rattle.iox_domain.specs.DomainSlots.Uses.{is_there}
use Rattle.iox_domain.specs.DomainPorts.Messages.{new_loan}
use Rattle.iox_domain.specs.DomainPorts.MessagesSending.{opened_for}
use Rattle.iox_domain.specs.DomainPorts.Loaning.{with_sender, LendsHere, LendsBeyond, LendsWhere, LendsUnless, Lends, first_refusal}
use Rattle.iox_domain.specs.DomainPorts.Loaning.{LacksMemory}
use Rattle.iox_domain.specs.DomainPorts.declared.publisher_port.PublisherPort.{PublisherPort}
use Rattle.iox_domain.specs.DomainPorts.Living.{living_of_publisher, counted, living_publishers}
use Rattle.iox_domain.specs.DomainPorts.Publishers.{port_of, with_port, removed, is_over_port, is_over_in, settled}
use Rattle.iox_domain.specs.DomainPorts.Reading.{is_over}
use Rattle.iox_domain.specs.Living.{living}
use Rattle.iox_domain.specs.LivingSteps.{AsMuchLives, OneMoreLives, OneLessLives}
use Rattle.iox_domain.specs.Ports.{with_publisher}
use Rattle.iox_domain.specs.declared.ports.service_ports.ServicePorts.{ServicePorts}
use Rattle.iox_domain.proofs.Lives.{Life, life_of}

-- false isn't true
pub not_true : false ≡ true → ⊥
not_true is = let wrong : ◌≡◌ {A = ℕ} 0 1 = ap (λ b. if b then 1 else 0) is in absurd (omega (arith, wrong))

-- of a publisher that is over nothing lives
nothing_over : {X Y : Type 0} (stands : Bool) (loans : List X) (sending : Option Y) (rest : Bool)
    → (not stands && ((length loans == 0) && (not (is_some sending) && rest))) ≡ true
    → (if stands then 1 else 0) + (length loans + (if is_some sending then 1 else 0)) ≡ 0
nothing_over true loans sending rest over = absurd (not_true over)
nothing_over false [] None rest over = refl
nothing_over false [] (Some message) rest over = absurd (not_true over)
nothing_over false (loan ∷ loans) sending rest over = ⊎_elim
    (λ none. absurd (let some : suc (length loans) ≡ 0 = grind (arith, none) in omega (arith, some)))
    (λ some. absurd (not_true (rw some at over)))
    (cases_Bool (length (loan ∷ loans) == 0))

over_counts : {T U : Type 0} (port : PublisherPort T U) → is_over port ≡ true → living_of_publisher port ≡ 0
over_counts port over = nothing_over port.stands port.sender.uses.loans port.sender.uses.sending
    (not (list_any is_there port.sender.uses.connections)) over

-- nothing counts of nothing
pub nothing_counted : (owner : Option ℕ) (number : ℕ) → counted owner number 0 ≡ 0
nothing_counted None number = refl
nothing_counted (Some owner) number = at (owner == number)
  where
    at : (same : Bool) → ◌≡◌ {A = ℕ} (if same then 0 else 0) 0
    at true = refl
    at false = refl

-- what is told of a publisher counts of an owner
abbrev pub counts : {T U : Type 0} → Option ℕ → PublisherPort T U → ℕ
counts owner port = counted owner port.owner.number (living_of_publisher port)

-- where a publisher that is over is gone as much lives
pub settled_lives : {T U : Type 0} (owner : Option ℕ) (number : ℕ) (ports : List (ℕ × PublisherPort T U))
    → living_publishers owner (settled number ports) ≡ living_publishers owner ports
settled_lives {T} {U} owner number ports = at (is_over_in number ports) (port_of number ports) refl refl
  where
    at : (over : Bool) (found : Option (PublisherPort T U)) → port_of number ports ≡ found → is_over_port found ≡ over
        → living_publishers owner (if over then removed number ports else ports) ≡ living_publishers owner ports
    at false found is over = refl
    at true None is over = absurd (not_true over)
    at true (Some port) is over =
        let gone = sum_by-remove_entry (λ one. counts owner one) (is_at (nat_cmp number)) ports in
        let was : counts owner port ≡ 0 = ap (counted owner port.owner.number) (over_counts port over) ∙ nothing_counted owner
        port.owner.number in
        let all = rw is at gone in
        omega (arith, all, was)

-- another publisher stands in the place of one, and is gone if it is over
pub moved : {T U : Type 0} (owner : Option ℕ) (number : ℕ) (ports : List (ℕ × PublisherPort T U)) (port after : PublisherPort T U)
    → port_of number ports ≡ Some port
    → living_publishers owner (settled number (with_port number ports after)) + counts owner port
    ≡ living_publishers owner ports + counts owner after
moved owner number ports port after there =
    ap (λ n. n + counts owner port) (settled_lives owner number (with_port number ports after))
    ∙ sum_by-set_value (λ one. counts owner one) (is_at (nat_cmp number)) ports port after there

-- of two of which as much lives as much counts
pub count_of_life : {T U : Type 0} (owner : Option ℕ) (port after : PublisherPort T U) → life_of after ≡ life_of port
    → counts owner after ≡ counts owner port
count_of_life owner port after alike
    = ap (λ life. counted owner life.number ((if life.stands then 1 else 0) + (life.loans + (if life.sending then 1 else 0)))) alike

pub counted_more : (owner : Option ℕ) (number one other : ℕ)
    → counted owner number (one + other) ≡ counted owner number one + counted owner number other
counted_more None number one other = refl
counted_more (Some owner) number one other = at (owner == number)
  where
    at : (same : Bool) → (if same then one + other else 0) ≡ (if same then one else 0) + (if same then other else 0)
    at true = refl
    at false = refl

-- a step at a publisher of which as much lives after it
pub as_much : {T U : Type 0} (number : ℕ) (old new : ServicePorts T U) (port after : PublisherPort T U)
    → port_of number old.publishers ≡ Some port → new ≡ with_publisher number after old
    → after.owner.number ≡ port.owner.number → living_of_publisher after ≡ living_of_publisher port → AsMuchLives old new
as_much number old new port after there is same count owner =
    let step = moved owner number old.publishers port after there in
    let made = ap (living owner) is in
    let alike : counts owner after ≡ counts owner port
    = ap (λ n. counted owner n (living_of_publisher after)) same ∙ ap (counted owner port.owner.number) count in
    omega (arith, step, made, alike)

-- one more lives
pub one_more : {T U : Type 0} (number : ℕ) (old new : ServicePorts T U) (port after : PublisherPort T U)
    → port_of number old.publishers ≡ Some port → new ≡ with_publisher number after old
    → after.owner.number ≡ port.owner.number → living_of_publisher after ≡ living_of_publisher port + 1
    → OneMoreLives port.owner.number old new
one_more number old new port after there is same count owner =
    let step = moved owner number old.publishers port after there in
    let made = ap (living owner) is in
    let more : counts owner after ≡ counts owner port + counted owner port.owner.number 1 =
    ap (λ n. counted owner n (living_of_publisher after)) same ∙ ap (counted owner port.owner.number) count ∙ counted_more owner
    port.owner.number (living_of_publisher port) 1 in
    omega (arith, step, made, more)

-- one less lives
pub one_less : {T U : Type 0} (number : ℕ) (old new : ServicePorts T U) (port after : PublisherPort T U)
    → port_of number old.publishers ≡ Some port → new ≡ with_publisher number after old
    → after.owner.number ≡ port.owner.number → living_of_publisher after + 1 ≡ living_of_publisher port
    → OneLessLives port.owner.number old new
one_less number old new port after there is same count owner =
    let step = moved owner number old.publishers port after there in
    let made = ap (living owner) is in
    let less : counts owner after + counted owner port.owner.number 1 ≡ counts owner port =
    ap (λ n. counted owner n (living_of_publisher after) + counted owner port.owner.number 1) same
    ∙ sym (counted_more owner port.owner.number (living_of_publisher after) 1) ∙ ap (counted owner port.owner.number) count in
    omega (arith, step, made, less)

-- how many loans an answer adds
abbrev pub added : Result ℕ LoanError → ℕ
added (Ok slot) = 1
added (Err error) = 0

abbrev pub with_loans : ℕ → Life → Life
with_loans more life = record life { loans = life.loans + more }

no_more : (life : Life) → life ≡ with_loans 0 life
no_more life = ap (λ n. record life { loans = n }) (let same : life.loans ≡ life.loans + 0 = omega arith in same)

lends_here_life : {T U : Type 0} (values elements : ℕ) (old : PublisherPort T U) (answer : Result ℕ LoanError) (new : PublisherPort T U)
    → LendsHere values elements old answer new → life_of new ≡ with_loans (added answer) (life_of old)
lends_here_life values elements old (Ok slot) new lends =
    ap life_of lends.1 ∙ ap (λ sender. life_of (with_sender sender old)) lends.0.3
    ∙ ap (λ n. record (life_of old) { loans = n })
    (length-append old.sender.uses.loans (new_loan slot values elements old.sender.user_header ∷ []))
lends_here_life values elements old (Err error) new lends =
    ap life_of lends.2 ∙ ap (λ sender. life_of (with_sender sender old)) lends.1.1 ∙ no_more (life_of old)

lacks_life : {T U : Type 0} (old : PublisherPort T U) (answer : Result ℕ LoanError) (new : PublisherPort T U)
    → LacksMemory old answer new → life_of new ≡ with_loans (added answer) (life_of old)
lacks_life old answer new lacks = ap life_of lacks.1 ∙ no_more (life_of old) ∙ ap (λ outcome. with_loans (added outcome) (life_of old))
    (sym lacks.0)

lends_beyond_life : {T U : Type 0} (room : Option ℕ) (more : Bool) (values elements : ℕ) (old : PublisherPort T U)
    (answer : Result ℕ LoanError) (new : PublisherPort T U)
    → LendsBeyond room more values elements old answer new → life_of new ≡ with_loans (added answer) (life_of old)
lends_beyond_life None more values elements old answer new lends = lacks_life old answer new lends
lends_beyond_life (Some room) false values elements old answer new lends = lacks_life old answer new lends
lends_beyond_life (Some room) true values elements old answer new lends =
    ⊎_elim (lends_here_life values elements (with_sender (opened_for room old.sender) old) answer new) (lacks_life old answer new) lends

lends_where_life : {T U : Type 0} (fits : Bool) (allocation : AllocationStrategy) (values elements : ℕ) (old : PublisherPort T U)
    (answer : Result ℕ LoanError) (new : PublisherPort T U)
    → LendsWhere fits allocation values elements old answer new → life_of new ≡ with_loans (added answer) (life_of old)
lends_where_life true allocation values elements old answer new lends = lends_here_life values elements old answer new lends
lends_where_life false allocation values elements old answer new (room, length, lends)
    = lends_beyond_life room _ values elements old answer new lends

lends_unless_life : {T U : Type 0} (refused : Option LoanError) (allocation : AllocationStrategy) (values elements : ℕ)
    (old : PublisherPort T U) (answer : Result ℕ LoanError) (new : PublisherPort T U)
    → LendsUnless refused allocation values elements old answer new → life_of new ≡ with_loans (added answer) (life_of old)
lends_unless_life (Some error) allocation values elements old answer new lends
    = ap life_of lends.1 ∙ no_more (life_of old) ∙ ap (λ outcome. with_loans (added outcome) (life_of old)) (sym lends.0)
lends_unless_life None allocation values elements old answer new lends = lends_where_life _ allocation values elements old answer new lends

-- a loan that is made is one loan more, and nothing else changes of what lives
pub lends_life : {T U : Type 0} (allocation : AllocationStrategy) (values elements : ℕ) (old : PublisherPort T U)
    (answer : Result ℕ LoanError) (new : PublisherPort T U)
    → Lends allocation values elements old answer new → life_of new ≡ with_loans (added answer) (life_of old)
lends_life allocation values elements old answer new lends
    = lends_unless_life (first_refusal allocation values elements old) allocation values elements old answer new lends
