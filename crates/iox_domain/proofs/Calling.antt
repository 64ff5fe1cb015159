-- What each call at a publisher does to how much lives.
use Rattle.std.proofs.Common.{rules, arith, ◌≡◌, ◌+◌, ◌==◌, ◌&&◌, ◌||◌, ◌<◌, ◌∙◌, ℕ, Bool, true, false, not, List, [], ◌∷◌, length}
use Rattle.std.proofs.Common.{position, remove, is_some, Option, None, Some, Result, Ok, Err, if◌then◌else◌, refl, sym, ap}
use Rattle.std.specs.BTreeMap.{is_at}
use Rattle.std.specs.Ordering.{nat_cmp}
use Rattle.std.proofs.Math.Logic.{⊎_elim}
use Rattle.std.proofs.lemmas.List.{length-map}
use Rattle.std.proofs.lemmas.List.Edits.{length-remove}
use Rattle.std.proofs.lemmas.List.Quantifiers.{position-Some}
use Rattle.std.proofs.lemmas.Map.Entries.{sum_by-set_value}
use Rattle.std.proofs.lemmas.Option.{none-some, slice_get_cases}
use Rattle.iox_domain.specs.Container.declared.container.Member.{Member}
use Rattle.iox_domain.specs.DomainValues.Sequences.{is_used_up}
use Rattle.iox_domain.specs.DomainValues.declared.backpressure.BackpressureDecision.{BackpressureDecision}
use Rattle.iox_domain.specs.DomainValues.declared.backpressure.BackpressureInfo.{BackpressureInfo}
use Rattle.iox_domain.specs.DomainValues.declared.connection_failure.ConnectionFailure.{ConnectionFailure}
use Rattle.iox_domain.specs.DomainValues.declared.degradation.DegradationAction.{DegradationAction}
use Rattle.iox_domain.specs.DomainValues.declared.degradation.DegradationInfo.{DegradationInfo}
use Rattle.iox_domain.specs.DomainValues.declared.port_error.LoanError.{LoanError}
use Rattle.iox_domain.specs.DomainValues.declared.port_error.SendError.{SendError}
use Rattle.iox_domain.specs.DomainPorts.Messages.{Loan}
use Rattle.iox_domain.specs.DomainPorts.MessagesSending.{is_written_at}
use Rattle.iox_domain.specs.DomainPorts.Leaving.{departed}
use Rattle.iox_domain.specs.DomainPorts.Loaning as lending
use Rattle.iox_domain.specs.DomainPorts.Progress.{tried_again}
use Rattle.iox_domain.specs.DomainPorts.Sending.{ready_at, ready_loan, begun_at, begun_by, dropped_at, with_progress, SendsAfter, SendsIf}
use Rattle.iox_domain.specs.DomainPorts.Sending.{SendsStanding}
use Rattle.iox_domain.specs.DomainPorts.Sending.{Sends}
use Rattle.iox_domain.specs.DomainPorts.Writing.{place_of, changed_if, given_up, given_up_at}
use Rattle.iox_domain.specs.DomainPorts.declared.meeting.Sent.{Sent}
use Rattle.iox_domain.specs.DomainPorts.declared.meeting.Sent.TheVariants as sent
use Rattle.iox_domain.specs.DomainPorts.declared.publisher_port.PublisherPort.{PublisherPort}
use Rattle.iox_domain.specs.DomainPorts.declared.subscriber_entry.SubscriberEntry.{SubscriberEntry}
use Rattle.iox_domain.specs.DomainPorts.Living.{living_of_publisher, counted}
use Rattle.iox_domain.specs.DomainPorts.Publishers.{port_of, changed_at_port, settled}
use Rattle.iox_domain.specs.Lending.{LoansIf, LoansOne, written_in, gave_up_in}
use Rattle.iox_domain.specs.Living.{living}
use Rattle.iox_domain.specs.LivingSteps.{AsMuchLives, OneLessLives, LoanAdds, SendTakes, GivingUpTakes}
use Rattle.iox_domain.specs.Ports.{AtPublisher, with_publisher}
use Rattle.iox_domain.specs.PortsPublishing.{is_blocked, is_free, UpdatesIf, UpdatesOne, SendsOne, RetriesIf, RetriesOne, GivesUpIf}
use Rattle.iox_domain.specs.PortsPublishing.{GivesUpOne, LeavesAt, LeavesPortIf}
use Rattle.iox_domain.specs.declared.ports.service_ports.ServicePorts.{ServicePorts}
use Rattle.iox_domain.proofs.Lives.{Life, life_of, is_ended, life_after, updates_life, finishes_life, departed_life}
use Rattle.iox_domain.proofs.Outliving.{not_true, counts, as_much, one_more, one_less, added, with_loans, lends_life}

-- how much a life counts
abbrev count_of : Life → ℕ
count_of life = (if life.stands then 1 else 0) + (life.loans + (if life.sending then 1 else 0))

pub same_value : {A : Type 0} (one other : A) → Some one ≡ Some other → one ≡ other
same_value one other same = search (rules, same)

pub no_value : {A : Type 0} (one : A) → Some one ≡ None → ⊥
no_value one is = none-some one (sym is)

loan_made : {T U : Type 0} (stands : Bool) (values elements : ℕ) (port : PublisherPort T U) (lent : Result ℕ LoanError)
    (after : PublisherPort T U)
    → LoansIf stands values elements port (Some lent) after → life_of after ≡ with_loans (added lent) (life_of port)
loan_made false values elements port lent after loans = absurd (no_value lent loans.0)
loan_made true values elements port lent after loans = at (is_some port.sender.uses.sending) loans
  where
    at : (sending : Bool) → lending.LoansIf sending port.allocation values elements port (Some lent) after
        → life_of after ≡ with_loans (added lent) (life_of port)
    at true loans = absurd (no_value lent loans.0)
    at false (made, is, lends) =
        lends_life port.allocation values elements port made after lends ∙ ap (λ outcome. with_loans (added outcome) (life_of port))
        (sym (same_value lent made is))

pub loan_adds : {T U : Type 0} (number values elements : ℕ) (port : PublisherPort T U) (old new : ServicePorts T U)
    (answer : Option (Result ℕ LoanError)) → port_of number old.publishers ≡ Some port
    → AtPublisher number (LoansOne values elements) (Some port) old answer new → LoanAdds port.owner.number answer old new
loan_adds number values elements port old new None there (after, step, is) = λ owner. ap (living owner) is
loan_adds number values elements port old new (Some (Ok slot)) there (after, step, is) =
    let life = loan_made port.stands values elements port (Ok slot) after step in
    one_more number old new port after there is (ap (λ l. l.number) life) (omega (arith, ap count_of life))
loan_adds number values elements port old new (Some (Err error)) there (after, step, is) =
    let life = loan_made port.stands values elements port (Err error) after step in
    as_much number old new port after there is (ap (λ l. l.number) life) (omega (arith, ap count_of life))

changed_counts : {T U : Type 0} (owner : Option ℕ) (allowed : Bool) (slot : ℕ) (change : Loan T U → Loan T U) (port : PublisherPort T U)
    → counts owner (changed_if allowed slot change port) ≡ counts owner port
changed_counts owner false slot change port = refl
changed_counts owner true slot change port =
    ap (λ n. counted owner port.owner.number
    ((if port.stands then 1 else 0) + (n + (if is_some port.sender.uses.sending then 1 else 0)))) (length-map port.sender.uses.loans _)

pub write_counts : {T U : Type 0} (number slot : ℕ) (test : PublisherPort T U → Bool) (change : Loan T U → Loan T U)
    (old : ServicePorts T U) → AsMuchLives old (written_in number test slot change old)
write_counts {T} {U} number slot test change old owner = at (port_of number old.publishers) refl
  where
    at : (found : Option (PublisherPort T U)) → port_of number old.publishers ≡ found
        → living owner (record old
        { publishers = changed_at_port number (λ port. changed_if (test port) slot change port) found old.publishers }) ≡ living owner old
    at None is = refl
    at (Some port) is =
        let step = sum_by-set_value (λ one. counts owner one) (is_at (nat_cmp number)) old.publishers port
        (changed_if (test port) slot change port) is in
        omega (arith, step, changed_counts owner (test port) slot change port)

position_below : {X : Type 0} (test : X → Bool) (xs : List X) (at : ℕ) → position test xs ≡ Some at → at < length xs
position_below test [] at is = absurd (no_value at (sym is))
position_below test (x ∷ xs) at is = (position-Some test (x ∷ xs) at x is).0

given_up_life : {T U : Type 0} (slot : ℕ) (place : Option ℕ) (port : PublisherPort T U) → place_of slot port ≡ place → is_some place ≡ true
    → ((given_up_at place port).owner.number ≡ port.owner.number)
    × (living_of_publisher (given_up_at place port) + 1 ≡ living_of_publisher port)
given_up_life slot None port is some = absurd (not_true some)
given_up_life slot (Some at) port is some =
    (refl, omega (arith, length-remove port.sender.uses.loans at (position_below (λ loan. loan.slot == slot) port.sender.uses.loans at is)))

pub drop_takes : {T U : Type 0} (number slot : ℕ) (port : PublisherPort T U) (old : ServicePorts T U)
    → port_of number old.publishers ≡ Some port → is_some (place_of slot port) ≡ true
    → OneLessLives port.owner.number old (gave_up_in number slot old)
drop_takes number slot port old there some =
    let life = given_up_life slot (place_of slot port) port refl some in
    one_less number old (gave_up_in number slot old) port (given_up slot port) there
    (ap (λ found. record old { publishers = settled number (changed_at_port number (given_up slot) found old.publishers) }) there)
    life.0 life.1

update_made : {T U : Type 0} (free : Bool) (may : DegradationInfo → DegradationAction → Type 0) (port : PublisherPort T U) (list : _)
    (value : Result (Unit {0}) ConnectionFailure) (after : PublisherPort T U)
    → UpdatesIf free may list port (Some value) after → life_of after ≡ life_of port
update_made false may port list value after updates = absurd (no_value value updates.0)
update_made true may port list value after (listed, is_list, outcome, updates, is)
    = updates_life may listed list.changes port outcome after updates

pub update_counts : {T U : Type 0} (may : DegradationInfo → DegradationAction → Type 0) (number : ℕ) (port : PublisherPort T U)
    (old new : ServicePorts T U)
    (answer : Option (Result (Unit {0}) ConnectionFailure)) → port_of number old.publishers ≡ Some port
    → AtPublisher number (UpdatesOne may old.subscriber_list) (Some port) old answer new → AsMuchLives old new
update_counts may number port old new None there (after, step, is) = λ owner. ap (living owner) is
update_counts may number port old new (Some value) there (after, step, is) =
    let life = update_made (is_free port) may port old.subscriber_list value after step in
    as_much number old new port after there is (ap (λ l. l.number) life) (omega (arith, ap count_of life))

-- what a send that answers so takes
abbrev took : Result Sent SendError → ℕ
took outcome = if is_ended outcome then 1 else 0

-- what comes of a send, of what lives of its publisher
abbrev Took : {T U : Type 0} → PublisherPort T U → Result Sent SendError → PublisherPort T U → Type 0
Took port outcome after = (after.owner.number ≡ port.owner.number) × (living_of_publisher after + took outcome ≡ living_of_publisher port)

-- the loan at a place is given up by a publisher of which as much lives as before
dropped_takes : {T U : Type 0} (at : ℕ) (port updated after : PublisherPort T U) → at < length port.sender.uses.loans
    → life_of updated ≡ life_of port → after ≡ dropped_at at updated
    → (after.owner.number ≡ port.owner.number) × (living_of_publisher after + 1 ≡ living_of_publisher port)
dropped_takes at port updated after below same is =
    let removed = length-remove updated.sender.uses.loans at (omega (arith, below, ap (λ l. l.loans) same)) in
    (ap (λ p. p.owner.number) is ∙ ap (λ l. l.number) same, omega (arith, ap living_of_publisher is, removed, ap count_of same))

told : {T U : Type 0} (port : PublisherPort T U) (outcome : Result Sent SendError) (error : SendError) (after : PublisherPort T U)
    → Some outcome ≡ Some (Err error)
    → (after.owner.number ≡ port.owner.number) × (living_of_publisher after + 1 ≡ living_of_publisher port) → Took port outcome after
told port outcome error after is less =
    let ended : took outcome ≡ 1 = ap took (same_value outcome (Err error) is) in
    (less.0, ap (λ n. living_of_publisher after + n) ended ∙ less.1)

ended_count : (ended : Bool) (life : Life) → life.sending ≡ true
    → count_of (life_after ended life) + (if ended then 1 else 0) ≡ count_of life
ended_count true life sending = let on : ◌≡◌ {A = ℕ} (if life.sending then 1 else 0) 1
    = ap {B = ℕ} (λ b. if b then 1 else 0) sending in omega (arith, on)
ended_count false life sending = omega arith

ended_number : (ended : Bool) (life : Life) → (life_after ended life).number ≡ life.number
ended_number true life = refl
ended_number false life = refl

begun_life : {T U : Type 0} (at : ℕ) (port : PublisherPort T U) → at < length port.sender.uses.loans
    → life_of (begun_at at port) ≡ record (life_of port) { loans = length (remove port.sender.uses.loans at); sending = true }
begun_life {T} {U} at port below = ⊎_elim
    (λ within. ap (λ loan. life_of (begun_by at loan port)) within.2)
    (λ past. absurd (omega (arith, below, past.0)))
    (slice_get_cases port.sender.uses.loans at).1

sends_after : {T U : Type 0} (may : BackpressureInfo → BackpressureDecision → Type 0) (at : ℕ)
    (result : Result (Unit {0}) ConnectionFailure) (port updated : PublisherPort T U)
    (outcome : Result Sent SendError) (after : PublisherPort T U) → at < length port.sender.uses.loans
    → is_some port.sender.uses.sending ≡ false → life_of updated ≡ life_of port
    → SendsAfter may at result updated (Some outcome) after → Took port outcome after
sends_after may at (Err failure) port updated outcome after below alone same sends =
    told port outcome _ after sends.0 (dropped_takes at port updated after below same sends.1)
sends_after may at (Ok done) port updated outcome after below alone same (finished, finishes, is) =
    let within : at < length updated.sender.uses.loans = omega (arith, below, ap (λ l. l.loans) same) in
    let begun = begun_life at updated within in
    let life = finishes_life may (begun_at at updated) finished after finishes ∙ ap (life_after (is_ended finished)) begun in
    let lent : Life = record (life_of updated) { loans = length (remove updated.sender.uses.loans at); sending = true } in
    let count = ended_count (is_ended finished) lent refl in
    let answer : took outcome ≡ took finished = ap took (same_value outcome finished is) in
    let off : ◌≡◌ {A = ℕ} (if is_some port.sender.uses.sending then 1 else 0) 0 = ap {B = ℕ} (λ b. if b then 1 else 0) alone in (
      ap (λ l. l.number) life ∙ ended_number (is_ended finished) lent ∙ ap (λ l. l.number) same,
      omega (
        arith,
        ap count_of life,
        count,
        answer,
        length-remove updated.sender.uses.loans at within,
        ap count_of same,
        ap
            (λ l. l.loans) same,
        off,
        ap {B = ℕ} (λ l. if l.stands then 1 else 0) same,
      ),
    )

sends_standing : {T U : Type 0} (used : Bool) (may_degrade : DegradationInfo → DegradationAction → Type 0)
    (may : BackpressureInfo → BackpressureDecision → Type 0) (listed : List (Option (Member SubscriberEntry)))
    (changes at : ℕ) (port : PublisherPort T U) (outcome : Result Sent SendError) (after : PublisherPort T U)
    → at < length port.sender.uses.loans → is_some port.sender.uses.sending ≡ false
    → SendsStanding used may_degrade may listed changes at port (Some outcome) after → Took port outcome after
sends_standing true may_degrade may listed changes at port outcome after below alone sends
    = told port outcome _ after sends.0 (dropped_takes at port port after below refl sends.1)
sends_standing false may_degrade may listed changes at port outcome after below alone (result, updated, updates, sends) =
    sends_after may at result port updated outcome after below alone
    (updates_life may_degrade listed changes port result updated updates) sends

sends_if : {T U : Type 0} (stands : Bool) (may_degrade : DegradationInfo → DegradationAction → Type 0)
    (may : BackpressureInfo → BackpressureDecision → Type 0) (listed : List (Option (Member SubscriberEntry)))
    (changes at : ℕ) (port : PublisherPort T U) (outcome : Result Sent SendError) (after : PublisherPort T U)
    → at < length port.sender.uses.loans → is_some port.sender.uses.sending ≡ false
    → SendsIf stands may_degrade may listed changes at port (Some outcome) after → Took port outcome after
sends_if false may_degrade may listed changes at port outcome after below alone sends
    = told port outcome _ after sends.0 (dropped_takes at port port after below refl sends.1)
sends_if true may_degrade may listed changes at port outcome after below alone sends
    = sends_standing (is_used_up port.last_sequence) may_degrade may listed changes at port outcome after below alone sends

-- a loan that may be sent is there, and nothing is being sent
ready_tells : {T U : Type 0} (slot : ℕ) (place : Option ℕ) (at : ℕ) (port : PublisherPort T U) → place_of slot port ≡ place
    → ready_at place port ≡ Some at
    → (at < length port.sender.uses.loans) × (is_some port.sender.uses.sending ≡ false)
ready_tells slot None at port is ready = absurd (no_value at (sym ready))
ready_tells slot (Some first) at port is ready
    = by_case (is_some port.sender.uses.sending) refl (not (is_written_at first port.sender.uses)) ready
  where
    by_case : (sending : Bool) → is_some port.sender.uses.sending ≡ sending → (unwritten : Bool)
        → (if sending || unwritten then None else Some first) ≡ Some at
        → (at < length port.sender.uses.loans) × (is_some port.sender.uses.sending ≡ false)
    by_case true sends unwritten ready = absurd (no_value at (sym ready))
    by_case false sends true ready = absurd (no_value at (sym ready))
    by_case false sends false ready =
        let same = same_value first at ready in
        let below = position_below (λ loan. loan.slot == slot) port.sender.uses.loans first is in
        (omega (arith, below, same), sends)

send_made : {T U : Type 0} (may_degrade : DegradationInfo → DegradationAction → Type 0)
    (may : BackpressureInfo → BackpressureDecision → Type 0) (listed : List (Option (Member SubscriberEntry)))
    (changes slot : ℕ) (ready : Option ℕ) (port : PublisherPort T U) (outcome : Result Sent SendError) (after : PublisherPort T U)
    → ready_loan slot port ≡ ready
    → Sends may_degrade may listed changes ready port (Some outcome) after → Took port outcome after
send_made may_degrade may listed changes slot None port outcome after is sends = absurd (no_value outcome sends.0)
send_made may_degrade may listed changes slot (Some at) port outcome after is sends =
    let tells = ready_tells slot (place_of slot port) at port refl is in
    sends_if port.stands may_degrade may listed changes at port outcome after tells.0 tells.1 sends

-- what a send takes is told by its answer
takes_by : {T U : Type 0} (number : ℕ) (port after : PublisherPort T U) (outcome : Result Sent SendError) (old new : ServicePorts T U)
    → port_of number old.publishers ≡ Some port
    → new ≡ with_publisher number after old → Took port outcome after → SendTakes port.owner.number (Some outcome) old new
takes_by number port after (Ok sent.Blocked) old new there is took
    = as_much number old new port after there is took.0 (omega (arith, took.1))
takes_by number port after (Ok (sent.Delivered connections)) old new there is took
    = one_less number old new port after there is took.0 took.1
takes_by number port after (Err error) old new there is took = one_less number old new port after there is took.0 took.1

pub send_takes : {T U : Type 0} (may_degrade : DegradationInfo → DegradationAction → Type 0)
    (may : BackpressureInfo → BackpressureDecision → Type 0) (number slot : ℕ) (port : PublisherPort T U)
    (old new : ServicePorts T U) (answer : Option (Result Sent SendError)) → port_of number old.publishers ≡ Some port
    → AtPublisher number (SendsOne may_degrade may old.subscriber_list slot) (Some port) old answer new
    → SendTakes port.owner.number answer old new
send_takes may_degrade may number slot port old new None there (after, step, is) = λ owner. ap (living owner) is
send_takes may_degrade may number slot port old new (Some outcome) there (after, (listed, is_list, sends), is) =
    takes_by number port after outcome old new there is
    (send_made may_degrade may listed old.subscriber_list.changes slot (ready_loan slot port) port outcome after refl sends)

retry_made : {T U : Type 0} (blocked : Bool) (may : BackpressureInfo → BackpressureDecision → Type 0) (elapsed : ℕ)
    (port : PublisherPort T U) (outcome : Result Sent SendError) (after : PublisherPort T U)
    → is_blocked port ≡ blocked → RetriesIf blocked may elapsed port (Some outcome) after → Took port outcome after
retry_made false may elapsed port outcome after is retries = absurd (no_value outcome retries.0)
retry_made true may elapsed port outcome after is (finished, finishes, same) =
    let life = finishes_life may (with_progress (tried_again elapsed port.progress) port) finished after finishes in
    let count = ended_count (is_ended finished) (life_of port) is in
    let answer : took outcome ≡ took finished = ap took (same_value outcome finished same) in
    (ap (λ l. l.number) life ∙ ended_number (is_ended finished) (life_of port), omega (arith, ap count_of life, count, answer))

pub retry_takes : {T U : Type 0} (may : BackpressureInfo → BackpressureDecision → Type 0) (number elapsed : ℕ)
    (port : PublisherPort T U) (old new : ServicePorts T U)
    (answer : Option (Result Sent SendError)) → port_of number old.publishers ≡ Some port
    → AtPublisher number (RetriesOne may elapsed) (Some port) old answer new → SendTakes port.owner.number answer old new
retry_takes may number elapsed port old new None there (after, step, is) = λ owner. ap (living owner) is
retry_takes may number elapsed port old new (Some outcome) there (after, step, is) =
    takes_by number port after outcome old new there is (retry_made (is_blocked port) may elapsed port outcome after refl step)

gave_up : {T U : Type 0} (blocked : Bool) (port : PublisherPort T U) (delivered : ℕ) (after : PublisherPort T U)
    → is_blocked port ≡ blocked → GivesUpIf blocked port (Some delivered) after
    → (after.owner.number ≡ port.owner.number) × (living_of_publisher after + 1 ≡ living_of_publisher port)
gave_up false port delivered after is gives = absurd (no_value delivered gives.0)
gave_up true port delivered after is gives =
    let on : ◌≡◌ {A = ℕ} (if is_some port.sender.uses.sending then 1 else 0) 1 = ap {B = ℕ} (λ b. if b then 1 else 0) is in
    (ap (λ p. p.owner.number) gives.1, omega (arith, ap living_of_publisher gives.1, on))

pub give_up_takes : {T U : Type 0} (number : ℕ) (port : PublisherPort T U) (old new : ServicePorts T U) (answer : Option ℕ)
    → port_of number old.publishers ≡ Some port
    → AtPublisher number GivesUpOne (Some port) old answer new → GivingUpTakes port.owner.number answer old new
give_up_takes number port old new None there (after, step, is) = λ owner. ap (living owner) is
give_up_takes number port old new (Some delivered) there (after, step, is) =
    let less = gave_up (is_blocked port) port delivered after refl step in
    one_less number old new port after there is less.0 less.1

free_stands : (stands sending : Bool) → (stands && not sending) ≡ true → stands ≡ true
free_stands true sending free = refl
free_stands false sending free = free

pub leave_takes : {T U : Type 0} (number : ℕ) (port : PublisherPort T U) (old new : ServicePorts T U)
    → port_of number old.publishers ≡ Some port
    → LeavesAt number (Some port) old true new → OneLessLives port.owner.number old new
leave_takes {T} {U} number port old new there leaves = at (is_free port) refl leaves
  where
    at : (free : Bool) → is_free port ≡ free → LeavesPortIf free number port old true new → OneLessLives port.owner.number old new
    at false is leaves = absurd (not_true (sym leaves.0))
    at true is leaves = λ owner.
        let life = departed_life port in
        let on : ◌≡◌ {A = ℕ} (if port.stands then 1 else 0) 1
        = ap {B = ℕ} (λ b. if b then 1 else 0) (free_stands port.stands (is_some port.sender.uses.sending) is) in
        let less = one_less number old (with_publisher number (departed port) old) port (departed port) there refl
        (ap (λ l. l.number) life) (omega (arith, ap count_of life, on)) owner in
        omega (arith, ap (living owner) leaves.1, less)
