-- Of each connection that ended a sample is held, and the slots of a publisher that has seen its list suffice for these besides.
use Rattle.std.proofs.Common.{arith, ◌≡◌, ◌≢◌, ◌+◌, ◌*◌, ◌<◌, ◌≤◌, ◌++◌, ◌∷◌, ◌==◌, [], ℕ, zero, suc, Bool, true, false, cond, List, Option, None}
use Rattle.std.proofs.Common.{Some, Err, find, get_or, length, length-append, map, option_map, option_to_list, if◌then◌else◌}
use Rattle.std.proofs.Common.{refl, ap, subst}
use Rattle.std.proofs.lemmas.List.{length-map}
use Rattle.std.proofs.lemmas.List.Sums.{sum_by-cons}
use Rattle.std.proofs.Math.Logic.{⊎_elim}
use Rattle.std.proofs.Math.Nat.{mul-le-mul_right}
use Rattle.std.specs.List.{AllByRecursion, count_by}
use Rattle.std.specs.Prelude.{sum_by}
use Rattle.iox_domain.proofs.DomainPorts.Lent.{loan_tells}
use Rattle.iox_domain.proofs.DomainSlots.Enough.{pigeons}
use Rattle.iox_domain.proofs.Numbered.{at_number, FoundEntry, found_of_all}
use Rattle.iox_domain.specs.DomainPorts.Lengths.{extent}
use Rattle.iox_domain.specs.DomainPorts.LoanLaws.{IsFull}
use Rattle.iox_domain.specs.DomainPorts.Loaning.{Loans}
use Rattle.iox_domain.specs.DomainPorts.Messages.{Loan, Message}
use Rattle.iox_domain.specs.DomainPorts.MessagesSending.{connection_by, slots_of}
use Rattle.iox_domain.specs.DomainPorts.Ports.{connection_of, goes_on}
use Rattle.iox_domain.specs.DomainPorts.Publishers.{port_of}
use Rattle.iox_domain.specs.DomainPorts.declared.attached.Taken.{Taken}
use Rattle.iox_domain.specs.DomainPorts.declared.publisher_port.PublisherPort.{PublisherPort}
use Rattle.iox_domain.specs.DomainSlots.Uses.{Connection, nobody, held, held_by, in_use}
use Rattle.iox_domain.specs.DomainSlots.declared.stage.Stage.{Stage}
use Rattle.iox_domain.specs.DomainSlots.declared.stage.Stage.TheVariants as stage
use Rattle.iox_domain.specs.DomainValues.Sizes.{worst_case}
use Rattle.iox_domain.specs.DomainValues.declared.data_segment.AllocationStrategy.{AllocationStrategy}
use Rattle.iox_domain.specs.DomainValues.declared.port_error.LoanError.TheVariants as refusal
use Rattle.iox_domain.specs.PortLawsLaws.{IsSoundEntry, IsTidy}
use Rattle.iox_domain.specs.Roomy.{AreRoomy}
use Rattle.iox_domain.specs.SizeLaws.{IsMadeFor, allowed_by}
use Rattle.iox_domain.specs.declared.ports.service_ports.ServicePorts.{ServicePorts}
use Rattle.iox_domain_machine.specs.ConnectionCounts.{has_ended, held_connections, live_connections, samples_if_ended, samples_of_ended}
use Rattle.iox_domain_machine.specs.ConnectionCounts.{slots_always_enough, slots_that_suffice}
use Rattle.iox_domain_machine.specs.Naming.{Naming, message_as}
use Rattle.iox_domain_machine.proofs.Found.{never_some, same_some}
use Rattle.iox_domain_machine.specs.Standing.{StandsFor, PublisherIs}
use Rattle.iox_domain_machine.specs.Tables.{LentSlot}
use Rattle.iox_machine.specs.RunLaws.{IsWithinSizes}
use Rattle.iox_machine.specs.Service.{Publisher, Service}
use Rattle.iox_machine.specs.Table.{at}
use Rattle.iox_command.specs.declared.port.PublisherOptions.{PublisherOptions}

-- a connection that ended, of which something is borrowed, counts no more than that
one_ended : {X : Type 0} (now : Stage) (borrowed : List X) → (now ≡ stage.Ended → borrowed ≢ [])
    → cond (has_ended now) 1 0 ≤ (if has_ended now then length borrowed else 0)
one_ended stage.Vacant borrowed kept = omega arith
one_ended stage.Live borrowed kept = omega arith
one_ended stage.Ended [] kept = absurd (kept refl refl)
one_ended stage.Ended (x ∷ xs) kept = omega arith

few_ended : {X : Type 0} (connections : List (Connection X))
    → ((index : ℕ) → (get_or connections index nobody).stage ≡ stage.Ended → (get_or connections index nobody).borrowed ≢ [])
    → count_by (λ connection. has_ended connection.stage) connections ≤ sum_by (λ connection. samples_if_ended connection) connections
few_ended [] kept = omega arith
few_ended (x ∷ xs) kept = omega (
  arith,
  one_ended x.stage x.borrowed (kept zero),
  few_ended xs (λ index. kept (suc index)),
  sum_by-cons (λ one. cond (has_ended one.stage) 1 0) x xs,
  sum_by-cons (λ one. samples_if_ended one) x xs,
)

-- What is known of a connection that takes so many slots at most.
record IsFew {X : Type 0} (most_waiting most_borrowed : ℕ) (connection : Connection X) : Type 0 where
  vacant : connection.stage ≡ stage.Vacant → connection ≡ nobody
  ended : connection.stage ≡ stage.Ended → connection.waiting ≡ []
  waiting : length connection.waiting ≤ most_waiting
  borrowed : length connection.borrowed ≤ most_borrowed

one_held : {X : Type 0} (now : Stage) (waiting borrowed : List X) (most_waiting most_borrowed : ℕ)
    → (now ≡ stage.Vacant → length (waiting ++ borrowed) ≡ 0) → (now ≡ stage.Ended → waiting ≡ []) → length waiting ≤ most_waiting
    → length borrowed ≤ most_borrowed
    → length (waiting ++ borrowed)
    ≤ cond (goes_on now) 1 0 * (most_waiting + most_borrowed) + (if has_ended now then length borrowed else 0)
one_held stage.Vacant waiting borrowed most_waiting most_borrowed vacant ended few less = omega (arith, vacant refl)
one_held stage.Live waiting borrowed most_waiting most_borrowed vacant ended few less
    = omega (arith, length-append waiting borrowed, few, less)
one_held stage.Ended waiting borrowed most_waiting most_borrowed vacant ended few less =
    let none = ap length (ended refl) in omega (arith, length-append waiting borrowed, none)

add_mul : (n m each : ℕ) → (n + m) * each ≡ n * each + m * each
add_mul n m each = grind arith

-- what connections hold is no more than a live one may hold, for each, and what is held of those that ended
few_held : {X : Type 0} (most_waiting most_borrowed : ℕ) (connections : List (Connection X))
    → ((index : ℕ) → IsFew most_waiting most_borrowed (get_or connections index nobody))
    → length (held connections) ≤ count_by (λ connection. goes_on connection.stage) connections * (most_waiting + most_borrowed)
    + sum_by (λ connection. samples_if_ended connection) connections
few_held most_waiting most_borrowed [] few = omega arith
few_held most_waiting most_borrowed (x ∷ xs) few =
    let here : IsFew most_waiting most_borrowed x = few zero in
    let first = one_held x.stage x.waiting x.borrowed most_waiting most_borrowed
    (λ is. ap (λ one. length (held_by one)) (here.vacant is)) here.ended here.waiting here.borrowed in
    let rest = few_held most_waiting most_borrowed xs (λ index. few (suc index)) in
    let live = ap (λ n. n * (most_waiting + most_borrowed)) (sum_by-cons (λ one. cond (goes_on one.stage) 1 0) x xs) in
    let apart = add_mul (cond (goes_on x.stage) 1 0) (count_by (λ connection. goes_on connection.stage) xs)
    (most_waiting + most_borrowed) in
    omega (
      arith,
      first,
      rest,
      live,
      apart,
      sum_by-cons (λ one. samples_if_ended one) x xs,
      length-append (held_by x) (held xs),
    )

-- by slots as many are held
as_many : {X : Type 0} (slot_of : X → ℕ) (connections : List (Connection X))
    → length (held (map (connection_by slot_of) connections)) ≡ length (held connections)
as_many slot_of [] = refl
as_many slot_of (x ∷ xs) = omega (
  arith,
  as_many slot_of xs,
  length-append (held_by (connection_by slot_of x)) (held (map (connection_by slot_of) xs)),
  length-append (held_by x) (held xs),
  length-append (map slot_of x.waiting) (map slot_of x.borrowed),
  length-append x.waiting x.borrowed,
  length-map x.waiting slot_of,
  length-map x.borrowed slot_of,
)

-- what holds of all holds of the first that passes a test
found_step : {X : Type 0} (P : X → Type 0) (passes : Bool) (first : X) (more : Option X) (x : X)
    → (if passes then Some first else more) ≡ Some x → P first → (more ≡ Some x → P x) → P x
found_step P true first more x is here on = subst P (same_some first x is) here
found_step P false first more x is here on = on is

pub of_found : {X : Type 0} (P : X → Type 0) (test : X → Bool) (xs : List X) (x : X) → find test xs ≡ Some x → AllByRecursion P xs → P x
of_found P test [] x is all = never_some x is
of_found P test (first ∷ xs) x is all =
    found_step P (test first) first (find test xs) x is all.0 (λ more. of_found P test xs x more all.1)

number_step : {V : Type 0} (P : V → Type 0) (passes : Bool) (entry : ℕ × V) (more : Option (ℕ × V)) (v : V)
    → option_map (λ (one : ℕ × V). one.1) (if passes then Some entry else more) ≡ Some v → P entry.1
    → (option_map (λ (one : ℕ × V). one.1) more ≡ Some v → P v) → P v
number_step P true entry more v is here on = subst P (same_some entry.1 v is) here
number_step P false entry more v is here on = on is

of_number : {V : Type 0} (P : V → Type 0) (number : ℕ) (table : List (ℕ × V)) (v : V) → at number table ≡ Some v
    → AllByRecursion (λ (entry : ℕ × V). P entry.1) table → P v
of_number P number [] v is all = never_some v is
of_number {V} P number (entry ∷ table) v is all =
    number_step P (entry.0 == number) entry (find (λ (one : ℕ × V). one.0 == number) table) v is all.0
    (λ more. of_number P number table v more all.1)

module _ {T U : Type 0} (names : Naming) (lent : List (ℕ × LentSlot)) (held_samples : List (ℕ × Taken)) (buffer : ℕ)
    (ports : ServicePorts T U) (service : Service T) (number : ℕ) (port : PublisherPort T U)
    (standing : StandsFor names lent held_samples buffer ports service) (there : port_of number ports.publishers ≡ Some port) where
  represents : PublisherIs names ports service number port
  represents = standing.publishers number port there

  -- no more connections ended than samples of these are held
  pub no_more_ended : held_connections port ≤ samples_of_ended port
  no_more_ended = few_ended port.sender.uses.connections (λ index is. (represents.3.quiet index is).1)

  module _ (roomy : AreRoomy ports) where
    made : IsMadeFor (allowed_by ports.sizes) (number, port)
    made =
        let found : FoundEntry (IsMadeFor (allowed_by ports.sizes)) (at_number number) port =
        found_of_all (IsMadeFor (allowed_by ports.sizes)) (at_number number) ports.publishers port roomy.allowed there in
        found.holds

    tidy : IsTidy port
    tidy =
        let found : FoundEntry (IsSoundEntry ports.next_port) (at_number number) port =
        found_of_all (IsSoundEntry ports.next_port) (at_number number) ports.publishers port roomy.sound there in
        found.holds.1

    is_few : (index : ℕ) → IsFew ports.sizes.subscriber_max_buffer_size ports.sizes.subscriber_max_borrowed_samples
        (connection_of index port)
    is_few index = record {
      vacant = tidy index;
      ended = λ is. (represents.3.quiet index is).0;
      waiting = let (few, limit, borrowed) = made.1 index in omega (arith, few, limit);
      borrowed = let (few, limit, borrowed) = made.1 index in borrowed;
    }

    module _ (Named : ℕ → PublisherOptions → Type 0) (sized : IsWithinSizes Named service)
        (few : live_connections port ≤ ports.sizes.max_subscribers) where
      -- no more messages are kept than the settings say
      few_kept : length port.sender.uses.history ≤ ports.sizes.history_size
      few_kept =
          let kept : length represents.0.history ≤ service.settings.history_size
          = of_number (λ (one : Publisher T). length one.history ≤ service.settings.history_size) (names.publisher number)
          service.publishers represents.0 represents.1 sized.1 in
          let same = ap length represents.2.history in
          let mapped = length-map port.sender.uses.history (message_as (names.message number)) in
          let size = ap (λ sizes. sizes.history_size) standing.sizes in
          omega (arith, kept, same, mapped, size)

      -- with as many slots as suffice one is free
      pub one_free : port.sender.uses.sending ≡ None → length port.sender.uses.loans < port.sender.uses.most_loans
          → slots_that_suffice ports port ≤ port.sender.uses.size → IsFull port.sender → ⊥
      one_free idle room suffices full =
          let each : ℕ = ports.sizes.subscriber_max_buffer_size + ports.sizes.subscriber_max_borrowed_samples in
          let uses = slots_of port.sender in
          let slot_of = λ (message : Message T U). message.slot in
          let all : List (Connection (Message T U)) = port.sender.uses.connections in
          let least : port.sender.uses.size ≤ length (in_use uses)
          = pigeons port.sender.uses.first port.sender.uses.size (in_use uses) full in
          let sending : length (option_to_list uses.sending) ≡ 0
          = ap (λ (s : Option (Message T U)). length (option_to_list (option_map slot_of s))) idle in
          let holding = few_held ports.sizes.subscriber_max_buffer_size ports.sizes.subscriber_max_borrowed_samples all is_few in
          let live : live_connections port * each ≤ ports.sizes.max_subscribers * each = mul-le-mul_right each few in
          omega (
            arith,
            least,
            sending,
            room,
            few_kept,
            holding,
            live,
            suffices,
            as_many slot_of all,
            length-map port.sender.uses.loans (λ (loan : Loan T U). loan.slot),
            length-map port.sender.uses.history slot_of,
            length-append (option_to_list uses.sending) (uses.loans ++ (uses.history ++ held uses.connections)),
            length-append uses.loans (uses.history ++ held uses.connections),
            length-append uses.history (held uses.connections),
          )

      -- so no loan that fits lacks memory
      pub lends_one : (new : PublisherPort T U) (allocation : AllocationStrategy) (values elements : ℕ)
          → slots_that_suffice ports port ≤ port.sender.uses.size → extent port.unit values elements ≤ port.sender.room
          → Loans allocation values elements port (Some (Err refusal.OutOfMemory)) new → ⊥
      lends_one new allocation values elements suffices fits loans =
          let (idle, may, room, lacks) = loan_tells allocation values elements port new (Some (Err refusal.OutOfMemory)) loans in
          ⊎_elim (λ full. one_free idle room suffices full.1) (λ longer. absurd (omega (arith, longer.0, fits))) lacks

  -- where no sample of those is held the slots of the agreement's worst case are enough
  pub none_besides : samples_of_ended port ≡ 0 → worst_case ports.sizes port.sender.uses.most_loans ≤ port.sender.uses.size
      → slots_always_enough ports port ≤ port.sender.uses.size
  none_besides none enough =
      let each : ℕ = ports.sizes.subscriber_max_buffer_size + ports.sizes.subscriber_max_borrowed_samples in
      let zeros : held_connections port ≡ 0 = omega (arith, no_more_ended, none) in
      let nothing = ap (λ n. n * each) zeros in
      omega (arith, nothing, enough)
