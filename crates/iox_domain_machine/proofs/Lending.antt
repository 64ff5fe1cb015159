-- A publisher of a domain loans, and so does the machine's.
use Rattle.std.proofs.Common.{◌≡◌, ◌≢◌, ◌≤◌, ◌<◌, ◌+◌, ◌*◌, ◌∷◌, [], ◌&&◌, ℕ, Bool, true, false, cond, List, length, map, nat_le, nat_lt}
use Rattle.std.proofs.Common.{is_some, Option, None, Some, Result, Ok, Err, refl, sym, ap, subst, inl, inr, ◌∙◌, arith, if◌then◌else◌}
use Rattle.std.proofs.Math.Logic.{⊎_elim}
use Rattle.std.proofs.lemmas.Bool.{cases_Bool, eq-eqb, eqb-true, ltb-true, ne_eqb}
use Rattle.std.proofs.lemmas.Bool.Decides.{eqb_tells}
use Rattle.std.proofs.lemmas.Map.Steps.{set_value_same}
use Rattle.std.specs.Prelude.{◌^◌, ◌==◌, filter, MatchBool, MatchOption}
use Rattle.iox_command.specs.DomainValues.Segments.{SegmentLength}
use Rattle.iox_command.specs.DomainValues.declared.data_segment.AllocationStrategy.{AllocationStrategy}
use Rattle.iox_command.specs.DomainValues.declared.data_segment.AllocationStrategy.TheVariants as strategy
use Rattle.iox_command.specs.DomainValues.declared.port_error.LoanError.{LoanError}
use Rattle.iox_command.specs.DomainValues.declared.port_error.LoanError.TheVariants as error
use Rattle.iox_command.specs.NegotiateBase.DescribeBase.declared.message_type.MessageTypeDetails.{MessageTypeDetails}
use Rattle.iox_command.specs.declared.command.Command.TheVariants as command
use Rattle.iox_command.specs.declared.refusal.Refusal.TheVariants as refusal
use Rattle.iox_command.specs.declared.reply.Reply.{Reply}
use Rattle.iox_command.specs.declared.reply.Reply.TheVariants as reply
use Rattle.iox_domain.proofs.DomainPorts.Counted.{counts_elements}
use Rattle.iox_domain.proofs.DomainPorts.Lent.{new_segment_is_free}
use Rattle.iox_domain.proofs.Numbered.{at_number, found_of_all, same_set}
use Rattle.iox_domain.specs.DomainPorts.Lengths.{extent, SegmentRoom}
use Rattle.iox_domain.specs.DomainPorts.Loaning.{is_too_long, LendsHere, LacksMemory, LendsBeyond, LendsWhere, LendsUnless, LoansIf}
use Rattle.iox_domain.specs.DomainPorts.Loaning.{with_sender}
use Rattle.iox_domain.specs.DomainPorts.Messages.{Message, Loan}
use Rattle.iox_domain.specs.DomainPorts.MessagesSending.{slots_of, SenderState, opened_for}
use Rattle.iox_domain.specs.DomainPorts.Publishers.{port_of, with_port, settled}
use Rattle.iox_domain.specs.DomainPorts.declared.attached.Taken.{Taken}
use Rattle.iox_domain.specs.DomainPorts.declared.publisher_port.PublisherPort.{PublisherPort}
use Rattle.iox_domain.specs.DomainSlots.Counting.{times}
use Rattle.iox_domain.specs.DomainSlots.Uses.{in_use}
use Rattle.iox_domain.specs.Lending as domain_calls
use Rattle.iox_domain.specs.Making.{segments_of}
use Rattle.iox_domain.specs.PortLawsLaws.{IsTidy, IsSound, IsSoundEntry}
use Rattle.iox_domain.specs.Ports.{AtPublisher, with_publisher}
use Rattle.iox_domain.specs.declared.ports.service_ports.ServicePorts.{ServicePorts}
use Rattle.iox_domain_machine.specs.Laws.{Matches}
use Rattle.iox_domain_machine.specs.LendingLaws.{LendUninitMatches, lent_or_not, with_lent_name, with_lent}
use Rattle.iox_domain_machine.specs.Naming.{Naming}
use Rattle.iox_domain_machine.specs.Publishers.{BlockedStandsFor}
use Rattle.iox_domain_machine.specs.Standing.{StandsFor, PublisherIs}
use Rattle.iox_domain_machine.specs.Tables.{LentSlot, loan_as, slots_lent_by, loans_at_port}
use Rattle.iox_domain_machine.proofs.Alone.{alone_does, alone_skips}
use Rattle.iox_domain_machine.proofs.Found.{same_some, never_some, never_true}
use Rattle.iox_domain_machine.proofs.GivingUp.{some_of, is_in, isn't_in, none_blocked, kept_there}
use Rattle.iox_domain_machine.proofs.LendingFull.{tells_full}
use Rattle.iox_domain_machine.proofs.LendingNames.{lent_at}
use Rattle.iox_domain_machine.proofs.LendingStands.{service_after, lent_stands}
use Rattle.iox_domain_machine.proofs.LendingTally.{Tells}
use Rattle.iox_machine.specs.Choices.{Choices}
use Rattle.iox_machine.specs.Lending.{IsRoomFor, how_many, loans_of, loan_refusal, Lends}
use Rattle.iox_machine.specs.Lending as lending
use Rattle.iox_machine.specs.Message as machine
use Rattle.iox_machine.specs.Ports.{publisher_in, LendsLoan}
use Rattle.iox_machine.proofs.Shorthands.{IsSkipped, is_static, LendsLonger}
use Rattle.iox_machine.specs.Service.{Service, Publisher, Send}
use Rattle.iox_machine.specs.State.{State}
use Rattle.iox_machine.specs.Table.{at}

and_false : (b : Bool) → (b && false) ≡ false
and_false true = refl
and_false false = refl

and_true : (b : Bool) → (b && true) ≡ b
and_true true = refl
and_true false = refl

length_mapped : {X Y : Type 0} (f : X → Y) (xs : List X) → length (map f xs) ≡ length xs
length_mapped f [] = refl
length_mapped f (x ∷ xs) = omega (arith, length_mapped f xs)

-- a new segment has the room that the machine gives it
room-for : (allocation : AllocationStrategy) (values room : ℕ) → SegmentLength allocation values (Some room)
    → IsRoomFor allocation values room × (room < 2 ^ 32)
room-for strategy.BestFit values room is = here (nat_lt values (2 ^ 32)) refl is
  where
    here : (b : Bool) → nat_lt values (2 ^ 32) ≡ b → Some room ≡ cond b (Some values) None → (room ≡ values) × (room < 2 ^ 32)
    here true few e = let same = same_some room values e in (same, omega (arith, same, ltb-true values (2 ^ 32) few))
    here false many e = absurd (never_some room (sym e))
room-for strategy.PowerOfTwo values room is = is
room-for strategy.Static values room is = absurd (never_some room (sym is))

-- the loans of a publisher of the machine are those of a domain's
named_by : {T : Type 0} (f : LentSlot → machine.Loan T) (name : ℕ → ℕ) (b c : Bool) (entry : ℕ × LentSlot)
    (loans : List (machine.Loan T)) (more : List (ℕ × LentSlot)) → c ≡ b
    → (b ≡ true → (f entry.1).number ≡ name entry.1.slot)
    → map (λ (loan : machine.Loan T). loan.number) loans ≡ map name (map (λ (one : ℕ × LentSlot). one.1.slot) more)
    → map (λ (loan : machine.Loan T). loan.number) (cond c (f entry.1 ∷ loans) loans)
    ≡ map name (map (λ (one : ℕ × LentSlot). one.1.slot) (cond b (entry ∷ more) more))
named_by {T} f name true c entry loans more same number rest =
    ap (λ d. map (λ (loan : machine.Loan T). loan.number) (cond d (f entry.1 ∷ loans) loans)) same
    ∙ ap (λ n. n ∷ map (λ (loan : machine.Loan T). loan.number) loans) (number refl)
    ∙ ap (λ all. name entry.1.slot ∷ all) rest
named_by {T} f name false c entry loans more same number rest =
    ap (λ d. map (λ (loan : machine.Loan T). loan.number) (cond d (f entry.1 ∷ loans) loans)) same ∙ rest

loans_named : {T : Type 0} (f : LentSlot → machine.Loan T) (name : ℕ → ℕ) (publisher number : ℕ)
    → ((out : LentSlot) → ((f out).publisher == publisher) ≡ (out.publisher == number))
    → ((out : LentSlot) → (out.publisher == number) ≡ true → (f out).number ≡ name out.slot)
    → (lent : List (ℕ × LentSlot))
    → map (λ (loan : machine.Loan T). loan.number) (filter (λ (loan : machine.Loan T). loan.publisher == publisher)
    (map (λ (entry : ℕ × machine.Loan T). entry.1) (map (λ (entry : ℕ × LentSlot). (entry.0, f entry.1)) lent)))
    ≡ map name (slots_lent_by number lent)
loans_named f name publisher number same named [] = refl
loans_named {T} f name publisher number same named (entry ∷ lent) =
    named_by f name (entry.1.publisher == number) ((f entry.1).publisher == publisher) entry
    (filter (λ (loan : machine.Loan T). loan.publisher == publisher)
    (map (λ (one : ℕ × machine.Loan T). one.1) (map (λ (one : ℕ × LentSlot). (one.0, f one.1)) lent)))
    (filter (λ (one : ℕ × LentSlot). one.1.publisher == number) lent) (same entry.1) (named entry.1)
    (loans_named f name publisher number same named lent)

-- why a loan is refused, by what is asked in turn
abbrev refused_by : Bool → Bool → Bool → Option LoanError
refused_by long many full =
    if long then Some error.ExceedsMaxLoanSize
    else (if many then Some error.ExceedsMaxLoans else (if full then Some error.OutOfMemory else None))

module _ {T : Type 0} (name values : ℕ) (publisher : Publisher T) (service : Service T) where
  abbrev too_long : Bool
  too_long = nat_lt publisher.room values && is_static publisher.allocation

  abbrev too_many : Bool
  too_many = nat_le publisher.max_loaned_samples (length (loans_of name service))

  abbrev is_full : Bool
  is_full = nat_le values publisher.room
      && nat_le publisher.slots (how_many (filter (nat_le publisher.first) (lending.in_use name publisher service)))

  refused_is : (long many full : Bool) → too_long ≡ long → too_many ≡ many → is_full ≡ full
      → loan_refusal name values publisher service ≡ refused_by long many full
  refused_is long many full is_long is_many is =
      ap (λ b. refused_by b too_many is_full) is_long ∙ ap (λ b. refused_by long b is_full) is_many
      ∙ ap (λ b. refused_by long many b) is

  -- what the machine's publisher does where it is refused so
  abbrev LendsAs : Option LoanError → Option LoanError → Publisher T → Type 0
  LendsAs found refused after =
      MatchOption found
      (MatchBool (nat_lt publisher.room values) (LendsLonger name values publisher refused after)
      ((refused ≡ None) × (after ≡ record publisher { next = publisher.next + 1 })))
      (λ why. (refused ≡ Some why) × (after ≡ publisher))

  lends_as : (found refused : Option LoanError) (after : Publisher T) → loan_refusal name values publisher service ≡ found
      → LendsAs found refused after → Lends name values publisher service refused after
  lends_as found refused after is lends = subst (λ one. LendsAs one refused after) (sym is) lends

  fits_as : nat_lt publisher.room values ≡ false → LendsAs None None (record publisher { next = publisher.next + 1 })
  fits_as is = rw is (refl, refl)

  longer_as : nat_lt publisher.room values ≡ true → (refused : Option LoanError) (after : Publisher T)
      → LendsLonger name values publisher refused after → LendsAs None refused after
  longer_as is refused after lends = rw is lends

most_by : (allocation : AllocationStrategy) → is_static allocation ≡ false → segments_of allocation ≡ 255
most_by strategy.BestFit is = refl
most_by strategy.PowerOfTwo is = refl
most_by strategy.Static is = never_true (sym is)

module _ {T U : Type 0} (types : MessageTypeDetails) (choices : Choices T) (buffer : ℕ) (names : Naming) (lent : List (ℕ × LentSlot))
    (held : List (ℕ × Taken)) (old : ServicePorts T U) (service : Service T) (state : State T) (number values : ℕ)
    (stands : StandsFor names lent held buffer old service) (fresh : at (state.made.loans + 1) lent ≡ None)
    (known : names.publisher number ≢ 0) where
  abbrev name : ℕ
  name = names.publisher number

  abbrev loan : ℕ
  loan = state.made.loans + 1

  abbrev Does : Publisher T → Service T → Reply T → Service T → Type 0
  Does one before answered after = MatchOption one.blocked (LendsLoan loan name values None one before answered after)
      (λ send. IsSkipped before answered after)

  abbrev Comes : Option (Result ℕ LoanError) → ServicePorts T U → Type 0
  Comes answer new = (next : ℕ) × Matches T U choices types buffer (command.LoanUninit name values) (lent_or_not loan answer) state
      service (with_lent_name number next answer names) (with_lent loan number answer lent) held new

  -- nothing happens where the machine has no such publisher that stands
  skips : publisher_in name service ≡ None → Comes None old
  skips none = (0, (service, alone_skips (publisher_in name) Does state service none, stands))

  skips_left : (publisher : Publisher T) → at name service.publishers ≡ Some publisher → publisher.stands ≡ false → Comes None old
  skips_left publisher is left = skips (isn't_in service name publisher is left)

  there_none : port_of number old.publishers ≡ None → Comes None old
  there_none none =
      let found = some_of (at name service.publishers) (stands.named_publishers.known number known) in
      skips_left found.0 found.1 (stands.gone_publishers number found.0 none found.1)

  module _ (port : PublisherPort T U) (there : port_of number old.publishers ≡ Some port) where
    abbrev was : PublisherIs names old service number port
    was = stands.publishers number port there

    abbrev publisher : Publisher T
    publisher = was.0

    left_skips : port.stands ≡ false → Comes None old
    left_skips left = skips_left publisher was.1 (was.2.stands ∙ left)

    module _ (standing : port.stands ≡ true) where
      in_it : publisher_in name service ≡ Some publisher
      in_it = is_in service name publisher was.1 (was.2.stands ∙ standing)

      blocked_skips : (message : Message T U) → port.sender.uses.sending ≡ Some message → Comes None old
      blocked_skips message waits =
          let blocked = subst (λ (sending : Option (Message T U)). BlockedStandsFor (names.message number) publisher.connected port.progress
          sending publisher.blocked) waits was.2.blocked in (
            0,
            (
              service,
              alone_does (publisher_in name) Does state service service reply.Skipped publisher in_it (rw blocked.1 (refl, refl)),
              stands,
            ),
          )

      module _ (free : port.sender.uses.sending ≡ None) (tidy : IsTidy port) where
        not_blocked : publisher.blocked ≡ None
        not_blocked = none_blocked (names.message number) publisher.connected port.progress port.sender.uses.sending publisher.blocked free
            was.2.blocked

        does : (answered : Reply T) (after : Service T) → LendsLoan loan name values None publisher service answered after
            → Does publisher service answered after
        does answered after lends =
            subst (λ (blocked : Option (Send T)). MatchOption blocked (LendsLoan loan name values None publisher service answered after)
            (λ send. IsSkipped service answered after)) (sym not_blocked) lends

        same_publisher : (out : LentSlot) → ((loan_as names old out).publisher == name) ≡ (out.publisher == number)
        same_publisher out = ⊎_elim
            (λ same. eq-eqb (names.publisher out.publisher) name (ap names.publisher same.1) ∙ sym same.0)
            (λ off. ne_eqb (names.publisher out.publisher) name
            (λ same. off.1 (sym (stands.named_publishers.apart number out.publisher known
            (sym same)))) ∙ sym off.0)
            (eqb_tells out.publisher number)

        same_loans : map (λ (one : machine.Loan T). one.number) (loans_of name service)
            ≡ map (names.message number) (slots_of port.sender).loans
        same_loans =
            ap (λ (loans : List (ℕ × machine.Loan T)). map (λ (one : machine.Loan T). one.number)
            (filter (λ (one : machine.Loan T). one.publisher == name) (map (λ (entry : ℕ × machine.Loan T). entry.1) loans)))
            stands.loans.same
            ∙ loans_named (loan_as names old) (names.message number) name number same_publisher
            (λ out is. ap (λ n. names.message n out.slot) (eqb-true out.publisher number is)) lent
            ∙ ap (map (names.message number)) (stands.loans.all number ∙ ap loans_at_port there)

        as_many : length (loans_of name service) ≡ length port.sender.uses.loans
        as_many =
            sym (length_mapped (λ (one : machine.Loan T). one.number) (loans_of name service)) ∙ ap length same_loans
            ∙ length_mapped (names.message number) (slots_of port.sender).loans
            ∙ length_mapped (λ (one : Loan T U). one.slot) port.sender.uses.loans

        abbrev many : ℕ
        many = how_many (filter (nat_le publisher.first) (lending.in_use name publisher service))

        counts : Tells (λ slot. times slot (in_use (slots_of port.sender))) port.sender.uses.first port.sender.uses.size many
        counts = tells_full (names.message number) (names.reader number) names.subscriber port (service.mailboxes name) service.subscribers
            was.3 standing tidy (loans_of name service) publisher.history free same_loans was.2.history publisher.first publisher.next
            was.2.named

        is_extent : extent port.unit values values ≡ values
        is_extent = ap (λ unit. extent unit values values) was.2.unit ∙ counts_elements.single values

        long_by : (allocation : AllocationStrategy)
            → (nat_lt port.sender.room values && is_static allocation) ≡ is_too_long allocation values values port
        long_by strategy.BestFit = and_false (nat_lt port.sender.room values)
        long_by strategy.PowerOfTwo = and_false (nat_lt port.sender.room values)
        long_by strategy.Static = and_true (nat_lt port.sender.room values) ∙ ap (nat_lt port.sender.room) (sym is_extent)

        same_long : too_long name values publisher service ≡ is_too_long port.allocation values values port
        same_long =
            ap (λ room. nat_lt room values && is_static publisher.allocation) was.2.room
            ∙ ap (λ allocation. nat_lt port.sender.room values && is_static allocation) was.2.allocation ∙ long_by port.allocation

        -- a loan is refused, and nothing changes
        refuses : (why : LoanError) → Lends name values publisher service (Some why) publisher
            → Comes (Some (Err why)) (with_publisher number port old)
        refuses why lends = (
          0,
          (
            service,
            alone_does (publisher_in name) Does state service service (reply.Refused (refusal.Loan why)) publisher in_it
                (does (reply.Refused (refusal.Loan why)) service (Some why, publisher, lends, (refl, refl))),
            subst (λ (ports : List (ℕ × PublisherPort T U)). StandsFor names lent held buffer (record old { publishers = ports }) service)
                (sym (ap (settled number) same ∙ kept_there number port old.publishers there standing)) stands,
          ),
        )
          where
            same : with_port number old.publishers port ≡ old.publishers
            same = set_value_same (at_number number) old.publishers port there

        module _ (slot room segments first machine_room machine_segments machine_first : ℕ)
            (unused : times slot (in_use (slots_of port.sender)) ≡ 0) (same_room : machine_room ≡ room)
            (same_segments : machine_segments ≡ segments) (ahead : machine_first ≤ publisher.next)
            (grows : port.sender.uses.first ≤ first) (low : first ≤ slot) (high : slot < first + port.sender.uses.size)
            (current : (which : ℕ) → 0 < times which (in_use (slots_of port.sender))
            → nat_le machine_first (names.message number which) ≡ nat_le first which) where
          abbrev later : Publisher T
          later = record publisher { room = machine_room; segments = machine_segments; first = machine_first; next = publisher.next + 1 }

          -- a loan is made
          lends : Lends name values publisher service None later
              → Comes (Some (Ok slot)) (with_publisher number (lent_at slot values room segments first port) old)
          lends made =
              let after : PublisherPort T U = lent_at slot values room segments first port in
              let new : Service T = service_after names lent held buffer old service number port loan slot values room segments first stands
              there free unused fresh machine_room machine_segments machine_first same_room same_segments ahead grows low high current in
              let now = same_set (at_number number) old.publishers after port there in (
                publisher.next,
                (
                  new,
                  alone_does (publisher_in name) Does state service new (reply.LoanMade loan) publisher in_it
                      (does (reply.LoanMade loan) new (None, later, made, (refl, refl))),
                  subst (λ (ports : List (ℕ × PublisherPort T U)). StandsFor (with_lent_name number publisher.next (Some (Ok slot)) names)
                      (with_lent loan number (Some (Ok slot)) lent) held buffer (record old { publishers = ports }) new)
                      (sym (kept_there number after (with_port number old.publishers after) now standing))
                      (lent_stands names lent held buffer old service number port loan slot values room segments first stands
                      there free unused fresh machine_room machine_segments machine_first same_room same_segments ahead grows low high
                      current),
                ),
              )

        refused_so : (why : LoanError) → Lends name values publisher service (Some why) publisher → (result : Result ℕ LoanError)
            (after : PublisherPort T U) → result ≡ Err why → after ≡ port → Comes (Some result) (with_publisher number after old)
        refused_so why lends result after is same =
            subst (λ (one : Result ℕ LoanError). Comes (Some one) (with_publisher number after old)) (sym is)
            (subst (λ (one : PublisherPort T U). Comes (Some (Err why)) (with_publisher number one old)) (sym same) (refuses why lends))

        module _ (short : is_too_long port.allocation values values port ≡ false)
            (few : length port.sender.uses.loans < port.sender.uses.most_loans) where
          not_long : too_long name values publisher service ≡ false
          not_long = same_long ∙ short

          not_many : too_many name values publisher service ≡ false
          not_many = grind (arith, few, as_many, was.2.max_loaned_samples)

          by_full : (full : Bool) → is_full name values publisher service ≡ full
              → loan_refusal name values publisher service ≡ refused_by false false full
          by_full full is = refused_is name values publisher service false false full not_long not_many is

          lends_here : values ≤ port.sender.room → (result : Result ℕ LoanError) (after : PublisherPort T U)
              → LendsHere values values port result after → Comes (Some result) (with_publisher number after old)
          lends_here fits (Ok slot) after made =
              let within : nat_le values publisher.room ≡ true = grind (arith, fits, was.2.room) in
              let not_longer : nat_lt publisher.room values ≡ false = grind (arith, fits, was.2.room) in
              let fewer : nat_le publisher.slots many ≡ false = ⊎_elim
              (λ is. let enough : publisher.slots ≤ many = grind (arith, is) in
              let used = counts.full (omega (arith, enough, was.2.slots)) slot made.0.0 made.0.1 in
              absurd (omega (arith, used, made.0.2)))
              (λ isn't. isn't)
              (cases_Bool (nat_le publisher.slots many)) in
              subst (λ (one : PublisherPort T U). Comes (Some (Ok slot)) (with_publisher number one old))
              (sym (made.1 ∙ ap (λ (sender : SenderState T U). with_sender sender port) made.0.3))
              (lends slot port.sender.room port.sender.segments port.sender.uses.first publisher.room publisher.segments publisher.first
              made.0.2 was.2.room was.2.segments was.2.named.ahead (omega arith) made.0.0 made.0.1 was.2.named.current
              (lends_as name values publisher service None None (record publisher { next = publisher.next + 1 })
              (by_full false (ap (λ b. b && nat_le publisher.slots many) within ∙ fewer))
              (fits_as name values publisher service not_longer)))
          lends_here fits (Err why) after made =
              let within : nat_le values publisher.room ≡ true = grind (arith, fits, was.2.room) in
              let enough = counts.all made.1.0 in
              let full : nat_le publisher.slots many ≡ true = grind (arith, enough, was.2.slots) in
              refused_so error.OutOfMemory
              (lends_as name values publisher service (Some error.OutOfMemory) (Some error.OutOfMemory) publisher
              (by_full true (ap (λ b. b && nat_le publisher.slots many) within ∙ full)) (refl, refl))
              (Err why) after (ap (λ one. Err one) made.0)
              (made.2 ∙ ap (λ (sender : SenderState T U). with_sender sender port) made.1.1)

          module _ (long : port.sender.room < values) where
            longer : nat_lt publisher.room values ≡ true
            longer = grind (arith, long, was.2.room)

            not_full : loan_refusal name values publisher service ≡ None
            not_full =
                let outside : nat_le values publisher.room ≡ false = grind (arith, long, was.2.room) in
                by_full false (ap (λ b. b && nat_le publisher.slots many) outside)

            lacks : (result : Result ℕ LoanError) (after : PublisherPort T U) → LacksMemory port result after
                → Comes (Some result) (with_publisher number after old)
            lacks result after lacking =
                refused_so error.OutOfMemory
                (lends_as name values publisher service None (Some error.OutOfMemory) publisher not_full
                (longer_as name values publisher service longer (Some error.OutOfMemory) publisher (inl (refl, refl))))
                result after lacking.0 lacking.1

            not_static : is_static publisher.allocation ≡ false
            not_static = sym (ap (λ b. b && is_static publisher.allocation) longer) ∙ not_long

            length_is : (room : ℕ) → SegmentRoom port.allocation port.unit values values (Some room)
                → IsRoomFor publisher.allocation values room × (room < 2 ^ 32)
            length_is room is =
                let times_one : values ≡ values * 1 = omega arith in
                let opened = counts_elements.opens port.allocation 1 values room
                (subst (λ n. SegmentRoom port.allocation 1 n values (Some room)) times_one
                (subst (λ unit. SegmentRoom port.allocation unit values values (Some room)) was.2.unit is)) in
                let same : opened.0 ≡ room = omega (arith, opened.2) in
                subst (λ allocation. IsRoomFor allocation values room × (room < 2 ^ 32)) (sym was.2.allocation)
                (room-for port.allocation values room (subst (λ n. SegmentLength port.allocation values (Some n)) same opened.1))

            in_new : (room : ℕ) → SegmentRoom port.allocation port.unit values values (Some room)
                → port.sender.segments < port.sender.most_segments → (result : Result ℕ LoanError) (after : PublisherPort T U)
                → LendsHere values values (with_sender (opened_for room port.sender) port) result after
                → Comes (Some result) (with_publisher number after old)
            in_new room is more (Ok slot) after made =
                let most : port.sender.most_segments ≡ 255 =
                was.2.most_segments ∙ most_by port.allocation (ap is_static (sym was.2.allocation) ∙ not_static) in
                let may : nat_lt publisher.segments 255 ≡ true = grind (arith, more, most, was.2.segments) in
                let first = port.sender.uses.first + port.sender.uses.size in
                subst (λ (one : PublisherPort T U). Comes (Some (Ok slot)) (with_publisher number one old))
                (sym (made.1 ∙ ap (λ (sender : SenderState T U). with_sender sender port) made.0.3))
                (lends slot room (port.sender.segments + 1) first room (publisher.segments + 1) publisher.next
                made.0.2 refl (ap (λ n. n + 1) was.2.segments) (omega arith) (omega arith) made.0.0 made.0.1 before
                (lends_as name values publisher service None None (record publisher {
                  room = room;
                  segments = publisher.segments + 1;
                  first = publisher.next;
                  next = publisher.next + 1;
                }) not_full
                (longer_as name values publisher service longer None (record publisher {
                  room = room;
                  segments = publisher.segments + 1;
                  first = publisher.next;
                  next = publisher.next + 1;
                }) (inr (room, length_is room is, may, refl, refl)))))
              where
                before : (which : ℕ) → 0 < times which (in_use (slots_of port.sender))
                    → nat_le publisher.next (names.message number which) ≡ nat_le (port.sender.uses.first + port.sender.uses.size) which
                before which used =
                    let below = was.2.named.below which used in
                    let inside = was.2.named.within which used in
                    let one : nat_le publisher.next (names.message number which) ≡ false = grind (arith, below) in
                    let other : nat_le (port.sender.uses.first + port.sender.uses.size) which ≡ false = grind (arith, inside) in
                    one ∙ sym other
            in_new room is more (Err why) after made =
                absurd (new_segment_is_free room port.sender was.2.named.within (omega (arith, few, was.2.ample)) made.1.0)

            lends_beyond : (room : Option ℕ) (more : Bool) → SegmentRoom port.allocation port.unit values values room
                → nat_lt port.sender.segments port.sender.most_segments ≡ more → (result : Result ℕ LoanError)
                (after : PublisherPort T U) → LendsBeyond room more values values port result after
                → Comes (Some result) (with_publisher number after old)
            lends_beyond None more is left result after lends = lacks result after lends
            lends_beyond (Some room) false is left result after lends = lacks result after lends
            lends_beyond (Some room) true is left result after lends = ⊎_elim
                (λ opened. in_new room is (grind (arith, left)) result after opened)
                (λ lacking. lacks result after lacking)
                lends

          lends_where : (fits : Bool) → nat_le (extent port.unit values values) port.sender.room ≡ fits → (result : Result ℕ LoanError)
              (after : PublisherPort T U) → LendsWhere fits port.allocation values values port result after
              → Comes (Some result) (with_publisher number after old)
          lends_where true is result after lends = lends_here (grind (arith, is, is_extent)) result after lends
          lends_where false is result after lends =
              lends_beyond (grind (arith, is, is_extent)) lends.0 (nat_lt port.sender.segments port.sender.most_segments) lends.1 refl
              result after lends.2

        lends_unless : (long room : Bool) → is_too_long port.allocation values values port ≡ long
            → nat_lt (length port.sender.uses.loans) port.sender.uses.most_loans ≡ room → (result : Result ℕ LoanError)
            (after : PublisherPort T U)
            → LendsUnless (if long then Some error.ExceedsMaxLoanSize else (if room then None else Some error.ExceedsMaxLoans))
            port.allocation values values port result after → Comes (Some result) (with_publisher number after old)
        lends_unless true room long left result after lends =
            refused_so error.ExceedsMaxLoanSize
            (lends_as name values publisher service (Some error.ExceedsMaxLoanSize) (Some error.ExceedsMaxLoanSize) publisher
            (refused_is name values publisher service true (too_many name values publisher service) (is_full name values publisher service)
            (same_long ∙ long) refl refl) (refl, refl)) result after lends.0 lends.1
        lends_unless false false long left result after lends =
            let all : too_many name values publisher service ≡ true = grind (arith, left, as_many, was.2.max_loaned_samples) in
            refused_so error.ExceedsMaxLoans
            (lends_as name values publisher service (Some error.ExceedsMaxLoans) (Some error.ExceedsMaxLoans) publisher
            (refused_is name values publisher service false true (is_full name values publisher service) (same_long ∙ long) all refl)
            (refl, refl)) result after lends.0 lends.1
        lends_unless false true long left result after lends =
            lends_where long (grind (arith, left)) (nat_le (extent port.unit values values) port.sender.room) refl result after lends

      by_waiting : (waiting : Option (Message T U)) → port.sender.uses.sending ≡ waiting → IsTidy port
          → (answer : Option (Result ℕ LoanError)) (new : ServicePorts T U)
          → AtPublisher number (λ (one : PublisherPort T U) (answered : Option (Result ℕ LoanError)) (after : PublisherPort T U).
          LoansIf (is_some waiting) one.allocation values values one answered after) (Some port) old answer new
          → Comes answer new
      by_waiting (Some message) waits tidy None new call = rw call.2 (blocked_skips message waits)
      by_waiting (Some message) waits tidy (Some result) new call = never_some result (sym call.1.0)
      by_waiting None free tidy None new call = never_some call.1.0 call.1.1
      by_waiting None free tidy (Some result) new call =
          let same : result ≡ call.1.0 = same_some result call.1.0 call.1.1 in
          subst (λ (ports : ServicePorts T U). Comes (Some result) ports) (sym call.2)
          (subst (λ (one : Result ℕ LoanError). Comes (Some one) (with_publisher number call.0 old)) (sym same)
          (lends_unless free tidy (is_too_long port.allocation values values port)
          (nat_lt (length port.sender.uses.loans) port.sender.uses.most_loans) refl refl call.1.0 call.0 call.1.2))

    by_standing : (standing : Bool) → port.stands ≡ standing → IsTidy port
        → (answer : Option (Result ℕ LoanError)) (new : ServicePorts T U)
        → AtPublisher number (λ (one : PublisherPort T U) (answered : Option (Result ℕ LoanError)) (after : PublisherPort T U).
        domain_calls.LoansIf standing values values one answered after) (Some port) old answer new → Comes answer new
    by_standing false left tidy None new call = rw call.2 (left_skips left)
    by_standing false left tidy (Some result) new call = never_some result (sym call.1.0)
    by_standing true standing tidy answer new call =
        by_waiting standing port.sender.uses.sending refl tidy answer new call

  by_port : IsSound old → (found : Option (PublisherPort T U)) → port_of number old.publishers ≡ found
      → (answer : Option (Result ℕ LoanError)) (new : ServicePorts T U)
      → AtPublisher number (domain_calls.LoansOne values values) found old answer new → Comes answer new
  by_port sound None none answer new call = rw call.0 (rw call.1 (there_none none))
  by_port sound (Some port) there answer new call =
      by_standing port there port.stands refl
      (found_of_all (IsSoundEntry old.next_port) (at_number number) old.publishers port sound there).holds.1 answer new call

pub lend_uninit_matches : (T U : Type 0) (choices : Choices T) → LendUninitMatches T U choices
lend_uninit_matches T U choices types buffer names lent held old new service state number values answer stands sound known fresh
    call =
    by_port types choices buffer names lent held old service state number values stands fresh known sound
    (port_of number old.publishers) refl answer new call
