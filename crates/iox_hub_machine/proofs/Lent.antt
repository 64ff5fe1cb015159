-- Publishers of a hub lend.
use Rattle.std.proofs.Common.{◌≡◌, ◌+◌, ℕ, Bool, true, false, cond, not, ◌&&◌, ◌||◌, List, [], ◌∷◌, ◌++◌, length, replicate, Option}
use Rattle.std.proofs.Common.{None, Some, Result, Ok, Err, refl, sym, ap, subst, inl, inr, ◌∙◌, true≢false}
use Rattle.std.proofs.Math.Logic.{⊎_elim}
use Rattle.std.proofs.lemmas.List.{length-replicate}
use Rattle.std.specs.Map.{lookup}
use Rattle.std.specs.Option.{option_map}
use Rattle.std.specs.Prelude.{◌==◌, is_some, nat_eq, MatchOption}
use Rattle.std.specs.declared.alloc.AllocError.{AllocError}
use Rattle.iox_command.specs.DomainValues.declared.backpressure.BackpressureDecision.{BackpressureDecision}
use Rattle.iox_command.specs.DomainValues.declared.backpressure.BackpressureInfo.{BackpressureInfo}
use Rattle.iox_command.specs.DomainValues.declared.degradation.DegradationAction.{DegradationAction}
use Rattle.iox_command.specs.DomainValues.declared.degradation.DegradationCause.{DegradationCause}
use Rattle.iox_command.specs.DomainValues.declared.degradation.DegradationInfo.{DegradationInfo}
use Rattle.iox_command.specs.DomainValues.declared.port_error.LoanError.{LoanError}
use Rattle.iox_command.specs.NegotiateBase.DescribeBase.declared.message_type.MessageTypeDetails.{MessageTypeDetails}
use Rattle.iox_command.specs.declared.command.Command.{Command}
use Rattle.iox_command.specs.declared.command.Command.TheVariants as command
use Rattle.iox_command.specs.declared.refusal.Refusal.TheVariants as refusal
use Rattle.iox_command.specs.declared.reply.Reply.{Reply}
use Rattle.iox_command.specs.declared.reply.Reply.TheVariants as reply
use Rattle.iox_container.specs.NumberTable.{Rises, value_at}
use Rattle.iox_delivery.proofs.Lent.{loan_is_fresh}
use Rattle.iox_delivery.specs.Holding.{publisher_blocked}
use Rattle.iox_delivery.specs.Publishing.{AfterLoan, changed_at}
use Rattle.iox_delivery.specs.Slices.{FillsLent, each_written_in}
use Rattle.iox_delivery.specs.declared.port_id.PortId.{PortId}
use Rattle.iox_domain.specs.AtHomes.{AtDomain}
use Rattle.iox_domain.specs.DomainPorts.Messages.{Loan, new_loan}
use Rattle.iox_domain.specs.DomainPorts.Publishers.{port_of}
use Rattle.iox_domain.specs.DomainPorts.declared.publisher_port.PublisherPort.{PublisherPort}
use Rattle.iox_domain.specs.Lending.{LoansOne, passes_port}
use Rattle.iox_domain.specs.PortLawsLaws.{IsSound}
use Rattle.iox_domain.specs.Ports.{AtPublisher}
use Rattle.iox_domain.specs.PortsPublishing.{is_blocked}
use Rattle.iox_domain.specs.States.{with_ports}
use Rattle.iox_domain.specs.Steps.{LoansBy}
use Rattle.iox_domain.specs.declared.domain_id.DomainId.{DomainId}
use Rattle.iox_domain.specs.declared.ports.service_ports.ServicePorts.{ServicePorts}
use Rattle.iox_domain_machine.specs.Laws.{Matches}
use Rattle.iox_domain_machine.specs.LendingLaws.{lent_or_not, with_lent, with_lent_name, with_lent_values, with_values_in}
use Rattle.iox_domain_machine.specs.Naming.{Naming}
use Rattle.iox_domain_machine.specs.ServiceLaws.{NamesOf, ChangesAt}
use Rattle.iox_domain_machine.specs.Services.{those_of}
use Rattle.iox_domain_machine.specs.Standing.{StandsFor}
use Rattle.iox_domain_machine.specs.Tables.{LentSlot}
use Rattle.iox_domain_machine.proofs.AloneDid.{by_option}
use Rattle.iox_domain_machine.proofs.Found.{same_some, at_mapped}
use Rattle.iox_domain_machine.proofs.Lending.{lend_uninit_matches}
use Rattle.iox_domain_machine.proofs.LendingFilled.{lend_matches}
use Rattle.iox_domain_machine.proofs.TableEnds.{at_end}
use Rattle.iox_domain_machine.proofs.Writing.{is_there, loan_found}
use Rattle.iox_hub_base.specs.AsHome.{hub_ports, with_hub_ports}
use Rattle.iox_hub_base.specs.HomeLaws.{again}
use Rattle.iox_hub_base.specs.Open.{OpenServices}
use Rattle.iox_hub_base.specs.ServicesAsHome.{domain_at, ports_if}
use Rattle.iox_hub_base.specs.declared.hub.Hub.{Hub}
use Rattle.iox_hub_commands.specs.Calls.{AtPort, Lends as LendsAt, LendsWritten, ready}
use Rattle.iox_hub_commands.specs.Grown.{HaveGrown}
use Rattle.iox_hub_commands.specs.Numbering.{NumbersLoan, with_loan}
use Rattle.iox_hub_commands.specs.Replies.{loan_reply}
use Rattle.iox_hub_commands.specs.Tables.{IsRoomier, lender, port_under}
use Rattle.iox_hub_commands.specs.declared.numbered_hub.NumberedHub.{NumberedHub}
use Rattle.iox_hub_commands.specs.declared.ports.made.Made.{Made}
use Rattle.iox_hub_commands.specs.declared.ports.made.MadeLoan.{MadeLoan}
use Rattle.iox_hub_commands.specs.declared.ports.made.MadePublisher.{MadePublisher}
use Rattle.iox_hub_machine.specs.Laws.{answered_with}
use Rattle.iox_hub_machine.specs.LoanLaws.{LendUninitIsSimulated, LendIsSimulated}
use Rattle.iox_hub_machine.specs.Standing.{PortsStandFor, AreAsMany, lent_slot, lent_in, held_in}
use Rattle.iox_hub_machine.proofs.Absent.{no_publisher_goes}
use Rattle.iox_hub_machine.proofs.Amidst.{at_one_skips}
use Rattle.iox_hub_machine.proofs.Deciding.{DecideAlike, DecidesAlike, same_ports, publisher_alike, at_one_decides}
use Rattle.iox_hub_machine.proofs.GivenUp.{standing}
use Rattle.iox_hub_machine.proofs.Going.{same_stands}
use Rattle.iox_hub_machine.proofs.Housed.{some_ports, found_there, put_again}
use Rattle.iox_hub_machine.proofs.Known.{GoesByNumber, goes_by_number}
use Rattle.iox_hub_machine.proofs.Lengthened.{none_next, one_added, its_added, changes_more, came_or_was}
use Rattle.iox_hub_machine.proofs.Moving.{IsMatched}
use Rattle.iox_hub_machine.proofs.Numbered.{is_nobodys}
use Rattle.iox_hub_machine.proofs.Renaming.{machine_does_named}
use Rattle.iox_hub_machine.proofs.Roomier.{roomier_stands}
use Rattle.iox_hub_machine.proofs.Rooming.{roomy_there}
use Rattle.iox_hub_machine.proofs.Turning.{lends_decides}
use Rattle.iox_hub_machine.proofs.WrittenWhole.{written_whole}
use Rattle.iox_machine.specs.Choices.{Choices}
use Rattle.iox_machine.specs.Ports.{LendsLoan, publisher_in}
use Rattle.iox_machine.proofs.Shorthands.{IsSkipped, AtFree}
use Rattle.iox_machine.specs.Run.{Step}
use Rattle.iox_machine.specs.Service.{Service, Publisher}
use Rattle.iox_machine.specs.State.{State, counted}
use Rattle.iox_machine.specs.Table.{at}

-- ---- what the machine does leaves how its ports decide

module _ {T : Type 0} (number values loan : ℕ) (value : Option T) where
  abbrev DoesLend : Publisher T → Service T → Reply T → Service T → Type 0
  DoesLend one service answer after =
      MatchOption one.blocked (LendsLoan loan number values value one service answer after) (λ send. IsSkipped service answer after)

  lends_alike : (one : Publisher T) (service after : Service T) (answer : Reply T) → publisher_in number service ≡ Some one
      → LendsLoan loan number values value one service answer after → DecidesAlike service after
  lends_alike one service after answer is (None, later, lends, (told, same)) =
      let alike = publisher_alike number one later service (standing (at number service.publishers) one is)
      (lends_decides number values one service None later lends) in
      subst (DecidesAlike service) (sym same) (record { publishers = alike.publishers; subscribers = alike.subscribers })
  lends_alike one service after answer is (Some why, later, lends, (told, same)) =
      same_ports service after (ap (λ (it : Service T). it.publishers) same) (ap (λ (it : Service T). it.subscribers) same)

  lending_alike : (state new : State T) (answer : Reply T)
      → AtFree number (LendsLoan loan number values value) state answer new → DecideAlike state.services new.services
  lending_alike state new answer did =
      at_one_decides (publisher_in number) DoesLend state new answer
      (λ one service after is does.
      elim (by_option one.blocked (LendsLoan loan number values value one service answer after)
      (λ send. IsSkipped service answer after) does) [
        | inl lends ↦ lends_alike one service after answer is lends.1
        | inr skipped ↦ same_ports service after (ap (λ (it : Service T). it.publishers) skipped.2.1)
            (ap (λ (it : Service T). it.subscribers) skipped.2.1)
      ]) did

-- ---- hubs and their ports

module _ {T U B D : Type 0} where
  -- ports that are put twice are put once
  put_over : (id : DomainId) (one other : ServicePorts T U) (hub : Hub T U B D)
      → with_hub_ports id other (with_hub_ports id one hub) ≡ with_hub_ports id other hub
  put_over id one other hub = ap (λ (services : OpenServices T U B D). record hub { services = services })
      (again id (with_ports one) (with_ports other) hub.services)

  ports_put : (id : DomainId) (ports after : ServicePorts T U) (hub : Hub T U B D) → hub_ports id hub ≡ Some ports
      → hub_ports id (with_hub_ports id after hub) ≡ Some after
  ports_put id ports after hub found =
      let (domain, is, same) = some_ports (domain_at id hub.services) ports found in ap ports_if (found_there id after hub domain is)

  is_here : (id : DomainId) (ports : ServicePorts T U) (hub : Hub T U B D) → hub_ports id hub ≡ Some ports
      → is_some (domain_at id hub.services) ≡ true
  is_here id ports hub found = let (domain, is, same) = some_ports (domain_at id hub.services) ports found in ap is_some is

-- whoever goes by a number may lend slices
pub lender_is : (values : ℕ) (found : Option MadePublisher) → ((made : MadePublisher) → found ≡ Some made → made.holds_slices ≡ true)
    → lender values found ≡ port_under found
lender_is values None slices = refl
lender_is values (Some made) slices =
    ap (λ (holds : Bool). cond (holds || (values == 1)) (Some made.port) None) (slices made refl)

-- where a send is blocked nothing is lent
busy_lends : {T U : Type 0} (number values : ℕ) (ports : ServicePorts T U) (found : Option (PublisherPort T U))
    → passes_port (λ (port : PublisherPort T U). port.stands) found ≡ true → passes_port is_blocked found ≡ true
    → AtPublisher number (LoansOne values values) found ports None ports
busy_lends number values ports None up blocked = absurd (true≢false (sym up))
busy_lends number values ports (Some port) up blocked = (port, rw up (rw blocked (refl, refl)), refl)

-- ---- the laws

module _ {T U B D : Type 0} (choices : Choices T) (is_default_header : U → Type 0)
    (degrades : B → DegradationCause → DegradationInfo → DegradationAction → Type 0)
    (decides : B → BackpressureInfo → BackpressureDecision → Type 0)
    (reader_degrades : D → DegradationCause → DegradationInfo → DegradationAction → Type 0) where
  module _ (types : MessageTypeDetails) (naming : ℕ → Naming) (order : List (ℕ × ServicePorts T U)) (old new : NumberedHub T U B D)
      (state : State T) (stands : PortsStandFor choices degrades decides reader_degrades naming order old state) (number values : ℕ)
      (grown : HaveGrown old.hub.services.domains) (fresh : at (state.made.loans + 1) (lent_in old.made) ≡ None) where
    abbrev buffer : ℕ
    buffer = old.hub.expired_connection_buffer

    -- the loan that is made
    abbrev next : ℕ
    next = state.made.loans + 1

    abbrev Result_of : Command T → Reply T → NumberedHub T U B D → Type 0
    Result_of asked answer later =
        IsMatched degrades decides reader_degrades types choices naming order old state asked answer stands later

    -- nothing happens where no publisher goes by the number
    lends_none : (asked : Command T) (lent told : Option (Result ℕ LoanError))
        → Step types choices buffer asked state reply.Skipped state → lent ≡ None → new.hub ≡ old.hub
        → NumbersLoan None lent old.made told new.made → Result_of asked (loan_reply told) new
    lends_none asked lent told does nothing same numbers =
        let (not_told, made) = subst (λ (it : Option (Result ℕ LoanError)). NumbersLoan None it old.made told new.made) nothing numbers in
        subst (λ (it : Option (Result ℕ LoanError)). Result_of asked (loan_reply it) new) (sym not_told) (
          naming,
          order,
          state.services,
          refl,
          does,
          same_stands choices degrades decides reader_degrades naming order old state stands number new same made,
        )

    module _ (asked : Command T) (port : PortId) (ports after : ServicePorts T U) (found : hub_ports port.domain old.hub ≡ Some ports)
        (named : NamesOf port.domain.service (naming port.domain.service) (lent_in old.made) (held_in old.made) asked)
        (alike : (services : List (Service T)) (answer : Reply T)
        → Step types choices buffer asked state answer (answered_with answer services state) → DecideAlike state.services services)
        (changes : new.hub ≡ with_hub_ports port.domain after old.hub) where
      abbrev id : DomainId
      id = port.domain

      -- what the domain does matches a loan that was made so, or wasn't
      abbrev LentSo : Option (Result ℕ LoanError) → Type 0
      LentSo lent = (service : Service T)
          → StandsFor (naming id.service) (those_of id.service (lent_in old.made)) (those_of id.service (held_in old.made)) buffer ports
          service
          → (name : ℕ) × Matches T U choices types buffer asked (lent_or_not next lent) state service
          (with_lent_name port.number name lent (naming id.service))
          (with_lent next port.number lent (those_of id.service (lent_in old.made))) (those_of id.service (held_in old.made)) after

      unmade : (answer : Reply T) → counted answer state.made ≡ state.made
          → ((service : Service T)
          → StandsFor (naming id.service) (those_of id.service (lent_in old.made)) (those_of id.service (held_in old.made)) buffer ports
          service
          → Matches T U choices types buffer asked answer state service (naming id.service)
          (those_of id.service (lent_in old.made)) (those_of id.service (held_in old.made)) after)
          → new.made ≡ old.made → Result_of asked answer new
      unmade answer same_count matches same =
          subst (λ (it : Made). Result_of asked answer (record new { made = it })) (sym same)
          (machine_does_named degrades decides reader_degrades types choices naming order old (record new { made = old.made }) state
          asked
          answer id ports after stands found changes named (λ other off. refl, stands.domains.loans)
          (λ other off. refl, stands.domains.samples)
          (λ first service last are its. (naming id.service, refl, refl, matches service its))
          (λ services does. alike services answer does) refl refl
          (subst (AreAsMany old.made) (sym same_count) stands.numbers) stands.loans stands.samples)

      module _ (slot : ℕ) where
        abbrev out : LentSlot
        out = record { publisher = port.number; slot = slot }

        one_more : lent_in (with_loan port slot old.made) ≡ lent_in old.made ++ (next, (id.service, out)) ∷ []
        one_more =
            one_added lent_slot old.made.loans.next (record { port = port; slot = slot }) old.made.loans.entries
            ∙ ap (λ (n : ℕ). lent_in old.made ++ (n, (id.service, out)) ∷ []) stands.numbers.loans

        still_here : (other : ℕ) (made : MadeLoan) → value_at (with_loan port slot old.made).loans other ≡ Some made
            → is_some (domain_at made.port.domain old.hub.services) ≡ true
        still_here other made is = ⊎_elim
            (λ same. subst (λ (it : MadeLoan). is_some (domain_at it.port.domain old.hub.services) ≡ true) same
            (is_here id ports old.hub found))
            (λ was. stands.loans other made was)
            (came_or_was other (record { port = port; slot = slot }) made old.made.loans is)

        made_so : LentSo (Some (Ok slot)) → new.made ≡ with_loan port slot old.made → Result_of asked (reply.LoanMade next) new
        made_so matches same =
            subst (λ (it : Made). Result_of asked (reply.LoanMade next) (record new { made = it })) (sym same)
            (machine_does_named degrades decides reader_degrades types choices naming order old
            (record new { made = with_loan port slot old.made }) state asked (reply.LoanMade next) id ports after stands found changes named
            (subst (λ (it : List (ℕ × (ℕ × LentSlot))). ChangesAt id.service (lent_in old.made) it) (sym one_more)
            (changes_more next out id.service (lent_in old.made) stands.domains.loans fresh))
            (λ other off. refl, stands.domains.samples)
            (λ first service last are its.
            let (name, does) = matches service its in (
              with_lent_name port.number name (Some (Ok slot)) (naming id.service),
              refl,
              refl,
              subst (λ (it : List (ℕ × LentSlot)). Matches T U choices types buffer asked (reply.LoanMade next) state service
                  (with_lent_name port.number name (Some (Ok slot)) (naming id.service)) it (those_of id.service (held_in old.made)) after)
                  (sym (ap (those_of id.service) one_more ∙ its_added next out id.service (lent_in old.made))) does,
            ))
            (λ services does. alike services (reply.LoanMade next) does) refl refl
            (record {
              publishers = stands.numbers.publishers;
              subscribers = stands.numbers.subscribers;
              loans = ap (λ (n : ℕ). n + 1) stands.numbers.loans;
              samples = stands.numbers.samples;
            }) still_here stands.samples)

      lends_by : (lent told : Option (Result ℕ LoanError)) → LentSo lent → NumbersLoan (Some port) lent old.made told new.made
          → Result_of asked (loan_reply told) new
      lends_by None told matches (not_told, same) =
          subst (λ (it : Option (Result ℕ LoanError)). Result_of asked (loan_reply it) new) (sym not_told)
          (unmade reply.Skipped refl (λ service its. (matches service its).1) same)
      lends_by (Some (Err why)) told matches (is_told, same) =
          subst (λ (it : Option (Result ℕ LoanError)). Result_of asked (loan_reply it) new) (sym is_told)
          (unmade (reply.Refused (refusal.Loan why)) refl (λ service its. (matches service its).1) same)
      lends_by (Some (Ok slot)) told matches (is_told, same) =
          subst (λ (it : Reply T). Result_of asked it new)
          (sym (ap loan_reply is_told ∙ ap (λ (n : ℕ). reply.LoanMade n) stands.numbers.loans)) (made_so slot matches same)

    module _ (port : PortId) (it : GoesByNumber choices degrades decides reader_degrades naming order old state stands number port) where
      abbrev its_id : DomainId
      its_id = port.domain

      sound : IsSound it.ports
      sound = (roomy_there its_id it.ports old.hub grown it.found).sound

      none_lent : at next (those_of its_id.service (lent_in old.made)) ≡ None
      none_lent = is_nobodys its_id.service next (lent_in old.made) fresh

      abbrev Stands : Service T → Type 0
      Stands service = StandsFor (naming its_id.service) (those_of its_id.service (lent_in old.made))
          (those_of its_id.service (held_in old.made)) buffer it.ports service

      uninit_matches : (lent : Option (Result ℕ LoanError)) (after : ServicePorts T U)
          → LoansBy port.number values values it.ports lent after
          → (service : Service T) → Stands service
          → (name : ℕ) × Matches T U choices types buffer (command.LoanUninit number values) (lent_or_not next lent) state service
          (with_lent_name port.number name lent (naming its_id.service))
          (with_lent next port.number lent (those_of its_id.service (lent_in old.made))) (those_of its_id.service (held_in old.made)) after
      uninit_matches lent after lends service its =
          subst (λ (name : ℕ). (name_of : ℕ) × Matches T U choices types buffer (command.LoanUninit name values) (lent_or_not next lent)
          state service (with_lent_name port.number name_of lent (naming its_id.service))
          (with_lent next port.number lent (those_of its_id.service (lent_in old.made))) (those_of its_id.service (held_in old.made)) after)
          it.named
          (lend_uninit_matches T U choices types buffer (naming its_id.service) (those_of its_id.service (lent_in old.made))
          (those_of its_id.service (held_in old.made)) it.ports after service state port.number values lent its sound it.some none_lent
          lends)

      written_matches : (value : T) → choices.is_default value → (lent : Option (Result ℕ LoanError)) (made : ServicePorts T U)
          → LoansBy port.number values values it.ports lent made → (service : Service T) → Stands service
          → (name : ℕ) × Matches T U choices types buffer (command.Loan number values) (lent_or_not next lent) state service
          (with_lent_name port.number name lent (naming its_id.service))
          (with_lent next port.number lent (those_of its_id.service (lent_in old.made))) (those_of its_id.service (held_in old.made))
          (with_lent_values port.number (replicate values value) lent made)
      written_matches value default lent made lends service its =
          subst (λ (name : ℕ). (name_of : ℕ) × Matches T U choices types buffer (command.Loan name values) (lent_or_not next lent)
          state service (with_lent_name port.number name_of lent (naming its_id.service))
          (with_lent next port.number lent (those_of its_id.service (lent_in old.made))) (those_of its_id.service (held_in old.made))
          (with_lent_values port.number (replicate values value) lent made)) it.named
          (lend_matches T U choices types buffer (naming its_id.service) (those_of its_id.service (lent_in old.made))
          (those_of its_id.service (held_in old.made)) it.ports made service state port.number values value lent its sound it.some none_lent
          default lends)

      -- the hub writes the values one after the other, and the machine at once
      same_written : (value : T) (slot : ℕ) (made : ServicePorts T U) → LoansBy port.number values values it.ports (Some (Ok slot)) made
          → (service : Service T) → Stands service
          → each_written_in port.number slot (replicate values value) made ≡ with_values_in port.number slot (replicate values value) made
      same_written value slot made lends service its =
          let out : LentSlot = record { publisher = port.number; slot = slot } in
          let lent = those_of its_id.service (lent_in old.made) in
          let (name, (after, does, then)) = uninit_matches (Some (Ok slot)) made lends service its in
          let names = with_lent_name port.number name (Some (Ok slot)) (naming its_id.service) in
          let held = those_of its_id.service (held_in old.made) in
          let goes = at_end next out lent none_lent in
          let there = is_there names (with_lent next port.number (Some (Ok slot)) lent) held buffer made after next out then goes in
          let new_one = loan_is_fresh port.number values values slot it.ports made lends in
          let same : there.loan ≡ new_loan slot values values new_one.0.sender.user_header =
          same_some there.loan (new_loan slot values values new_one.0.sender.user_header)
          (sym (loan_found names (with_lent next port.number (Some (Ok slot)) lent) held buffer made after next out then goes)
          ∙ new_one.2) in
          written_whole slot port.number (replicate values value) made there.port there.loan there.there there.found there.once
          (ap (λ (loan : Loan T U). length loan.values) same ∙ length-replicate values None ∙ sym (length-replicate values value))

    uninit_by : (lent told : Option (Result ℕ LoanError)) (found : Option PortId) → port_under (value_at old.made.publishers number) ≡ found
        → AtPort (LendsAt hub_ports with_hub_ports values) found old.hub lent new.hub → NumbersLoan found lent old.made told new.made
        → Result_of (command.LoanUninit number values) (loan_reply told) new
    uninit_by lent told None none (nothing, same) numbers =
        lends_none (command.LoanUninit number values) lent told
        (at_one_skips (publisher_in number) (DoesLend number values next None) state
        (no_publisher_goes choices degrades decides reader_degrades naming order old state stands number none)) nothing same numbers
    uninit_by lent told (Some port) there lends numbers =
        let it = goes_by_number choices degrades decides reader_degrades naming order old state stands number port there in
        let (after, loans, changes) = subst (λ (ports : Option (ServicePorts T U)). AtDomain
        (λ (one : ServicePorts T U). with_hub_ports port.domain one old.hub) (LoansBy port.number values values) ports old.hub lent new.hub)
        it.found lends in
        lends_by (command.LoanUninit number values) port it.ports after it.found
        (port.number, it.named, λ zero. it.some (it.named ∙ zero))
        (λ services answer does. lending_alike number values next None state (answered_with answer services state) answer does) changes
        lent told (λ service its. uninit_matches port it lent after loans service its) numbers

    module _ (value : T) (default : choices.is_default value) where
      abbrev written_asked : Command T
      written_asked = command.Loan number values

      written_alike : (services : List (Service T)) (answer : Reply T)
          → Step types choices buffer written_asked state answer (answered_with answer services state)
          → DecideAlike state.services services
      written_alike services answer (some, is, does) =
          lending_alike number values next (Some some) state (answered_with answer services state) answer does

      -- one that may lend, or of which a send is blocked
      module _ (port : PortId) (it : GoesByNumber choices degrades decides reader_degrades naming order old state stands number port)
          (lent told : Option (Result ℕ LoanError)) where
        abbrev Written : Type 0
        Written = Result_of written_asked (loan_reply told) new

        is_busy : publisher_blocked port.number (hub_ports port.domain old.hub) ≡ true → lent ≡ None → new.hub ≡ old.hub
            → NumbersLoan None lent old.made told new.made → Written
        is_busy blocked nothing same numbers =
            lends_by written_asked port it.ports it.ports it.found (port.number, it.named, λ zero. it.some (it.named ∙ zero))
            written_alike (same ∙ sym (put_again port.domain it.ports old.hub it.found)) None told
            (λ service its. written_matches port it value default None it.ports
            (busy_lends port.number values it.ports (port_of port.number it.ports.publishers) it.up
            (ap (publisher_blocked port.number) (sym it.found) ∙ blocked)) service its)
            (subst (λ (one : Option (Result ℕ LoanError)). NumbersLoan None one old.made told new.made) nothing numbers)

        abbrev filled : ℕ → ServicePorts T U → ServicePorts T U
        filled slot made = each_written_in port.number slot (replicate values value) made

        wrote : (slot : ℕ) (made : ServicePorts T U) (middle : Hub T U B D) → middle ≡ with_hub_ports port.domain made old.hub
            → new.hub ≡ changed_at (λ after. with_hub_ports port.domain after middle) (filled slot) (hub_ports port.domain middle) middle
            → new.hub ≡ with_hub_ports port.domain (filled slot made) old.hub
        wrote slot made middle is writes =
            writes
            ∙ ap (λ (found : Option (ServicePorts T U)). changed_at (λ after. with_hub_ports port.domain after middle) (filled slot) found
            middle) (ap (hub_ports port.domain) is ∙ ports_put port.domain it.ports made old.hub it.found)
            ∙ ap (λ (hub : Hub T U B D). with_hub_ports port.domain (filled slot made) hub) is
            ∙ put_over port.domain made (filled slot made) old.hub

        then_fills : (result lent_so : Result ℕ LoanError) (made : ServicePorts T U) (middle : Hub T U B D)
            → LoansBy port.number values values it.ports (Some lent_so) made → middle ≡ with_hub_ports port.domain made old.hub
            → AfterLoan Err (FillsLent hub_ports with_hub_ports port values value) lent_so middle result new.hub
            → lent ≡ Some result → NumbersLoan (Some port) lent old.made told new.made → Written
        then_fills result (Err why) made middle loans is (refused, same) tells numbers =
            lends_by written_asked port it.ports made it.found (port.number, it.named, λ zero. it.some (it.named ∙ zero))
            written_alike (same ∙ is) (Some (Err why)) told
            (λ service its. written_matches port it value default (Some (Err why)) made loans service its)
            (subst (λ (one : Option (Result ℕ LoanError)). NumbersLoan (Some port) one old.made told new.made)
            (tells ∙ ap (λ (one : Result ℕ LoanError). Some one) refused) numbers)
        then_fills result (Ok slot) made middle loans is ((writes, whole), told_slot) tells numbers =
            lends_by written_asked port it.ports (filled slot made) it.found (port.number, it.named, λ zero. it.some (it.named ∙ zero))
            written_alike (wrote slot made middle is writes) (Some (Ok slot)) told
            (λ service its.
            subst (λ (after : ServicePorts T U). (name : ℕ) × Matches T U choices types buffer written_asked
            (lent_or_not next (Some (Ok slot))) state service
            (with_lent_name port.number name (Some (Ok slot)) (naming port.domain.service))
            (with_lent next port.number (Some (Ok slot)) (those_of port.domain.service (lent_in old.made)))
            (those_of port.domain.service (held_in old.made)) after)
            (sym (same_written port it value slot made loans service its))
            (written_matches port it value default (Some (Ok slot)) made loans service its))
            (subst (λ (one : Option (Result ℕ LoanError)). NumbersLoan (Some port) one old.made told new.made)
            (tells ∙ ap (λ (one : Result ℕ LoanError). Some one) told_slot) numbers)

        fills : LendsWritten hub_ports with_hub_ports values value port old.hub lent new.hub
            → NumbersLoan (Some port) lent old.made told new.made → Written
        fills (result, (lent_so, middle, lends, then), whole, tells) numbers =
            let (made, loans, is) = subst (λ (ports : Option (ServicePorts T U)). AtDomain
            (λ (one : ServicePorts T U). with_hub_ports port.domain one old.hub) (LoansBy port.number values values) ports old.hub
            (Some lent_so) middle) it.found lends in
            then_fills result lent_so made middle loans is then tells numbers

        by_blocked : (blocked : Bool) → publisher_blocked port.number (hub_ports port.domain old.hub) ≡ blocked
            → (found : Option PortId) → found ≡ cond (not blocked) (Some port) None
            → AtPort (LendsWritten hub_ports with_hub_ports values value) found old.hub lent new.hub
            → NumbersLoan found lent old.made told new.made → Written
        by_blocked true is found none goes numbers =
            let (nothing, same) = subst (λ (one : Option PortId). AtPort (LendsWritten hub_ports with_hub_ports values value) one old.hub
            lent
            new.hub) none goes in
            is_busy is nothing same (subst (λ (one : Option PortId). NumbersLoan one lent old.made told new.made) none numbers)
        by_blocked false is found some goes numbers =
            fills (subst (λ (one : Option PortId). AtPort (LendsWritten hub_ports with_hub_ports values value) one old.hub lent new.hub)
            some goes) (subst (λ (one : Option PortId). NumbersLoan one lent old.made told new.made) some numbers)

      written_by : (lent told : Option (Result ℕ LoanError)) (found : Option PortId)
          → port_under (value_at old.made.publishers number) ≡ found
          → AtPort (LendsWritten hub_ports with_hub_ports values value) (ready hub_ports found old.hub) old.hub lent new.hub
          → NumbersLoan (ready hub_ports found old.hub) lent old.made told new.made → Result_of written_asked (loan_reply told) new
      written_by lent told None none (nothing, same) numbers =
          lends_none written_asked lent told (
            value,
            default,
            at_one_skips (publisher_in number) (DoesLend number values next (Some value)) state
                (no_publisher_goes choices degrades decides reader_degrades naming order old state stands number none),
          ) nothing same numbers
      written_by lent told (Some port) there goes numbers =
          let it = goes_by_number choices degrades decides reader_degrades naming order old state stands number port there in
          let blocked : Bool = publisher_blocked port.number (hub_ports port.domain old.hub) in
          by_blocked port it lent told blocked refl (ready hub_ports (Some port) old.hub)
          (ap (λ (up : Bool). cond (up && not blocked) (Some port) None) (stands.publishers.known number port there).1) goes numbers

  module _ (types : MessageTypeDetails) (naming : ℕ → Naming) (order : List (ℕ × ServicePorts T U)) (old : NumberedHub T U B D)
      (state : State T) (stands : PortsStandFor choices degrades decides reader_degrades naming order old state) (number values : ℕ)
      (rises : Rises 1 old.made.loans.entries old.made.loans.next) (roomier : Made) (is : IsRoomier old.made roomier) where
    -- the hub, with more room for numbers
    abbrev roomy : NumberedHub T U B D
    roomy = record old { made = roomier }

    roomy_stands : PortsStandFor choices degrades decides reader_degrades naming order roomy state
    roomy_stands = roomier_stands choices degrades decides reader_degrades naming order old state roomier is stands

    -- no loan goes by the next number
    next_is_free : at (state.made.loans + 1) (lent_in roomier) ≡ None
    next_is_free =
        at_mapped lent_slot (state.made.loans + 1) roomier.loans.entries
        ∙ ap (option_map lent_slot)
        (ap (at (state.made.loans + 1)) is.2.0
        ∙ ap (λ (n : ℕ). at n old.made.loans.entries) (sym stands.numbers.loans)
        ∙ none_next 1 old.made.loans.next old.made.loans.entries rises)

    lender_goes : lender values (value_at old.made.publishers number) ≡ port_under (value_at roomier.publishers number)
    lender_goes = lender_is values (value_at old.made.publishers number) (λ made there. stands.slices number made there)
        ∙ ap (λ (entries : List (ℕ × MadePublisher)). port_under (lookup (nat_eq number) entries)) (sym is.0.0)

  no_reply : {A : Type 0} (answer : Reply T) (lacking : AllocError) → Ok answer ≡ Err lacking → A
  no_reply answer lacking same = absurd (never same)
    where
      never : Ok answer ≡ Err lacking → ⊥
      never e = cc

  ok_reply : (one other : Reply T) → ◌≡◌ {A = Result (Reply T) AllocError} (Ok one) (Ok other) → one ≡ other
  ok_reply one other same = ap (λ (it : Result (Reply T) AllocError). result_or it one) same
    where
      result_or : Result (Reply T) AllocError → Reply T → Reply T
      result_or (Ok reply) other = reply
      result_or (Err lacking) other = other

  pub lend_uninit_simulated : LendUninitIsSimulated choices is_default_header degrades decides reader_degrades
  lend_uninit_simulated number values old grown rise payload user_header types fixed fixed_reader naming order new state answer stands
      ((Err lacking, grows, told), same) = no_reply answer lacking told
  lend_uninit_simulated number values old grown rise payload user_header types fixed fixed_reader naming order new state answer stands
      ((Ok replied, (roomier, is, (lent, lends, numbers)), told), same) =
      let goes = lender_goes types naming order old state stands number values rise.3 roomier is in
      subst (λ (it : Reply T). IsMatched degrades decides reader_degrades types choices naming order old state
      (command.LoanUninit number values) it stands new) (sym (ok_reply answer (loan_reply replied) told))
      (uninit_by types naming order (roomy types naming order old state stands number values rise.3 roomier is) new state
      (roomy_stands types naming order old state stands number values rise.3 roomier is) number values grown
      (next_is_free types naming order old state stands number values rise.3 roomier is) lent replied
      (port_under (value_at roomier.publishers number)) refl
      (subst (λ (port : Option PortId). AtPort (LendsAt hub_ports with_hub_ports values) port old.hub lent new.hub) goes lends)
      (subst (λ (port : Option PortId). NumbersLoan port lent roomier replied new.made) goes numbers))

  pub lend_simulated : LendIsSimulated choices is_default_header degrades decides reader_degrades
  lend_simulated number values old grown rise payload user_header types fixed fixed_reader naming order new state answer stands
      ((value, default, Err lacking, grows, told), same) = no_reply answer lacking told
  lend_simulated number values old grown rise payload user_header types fixed fixed_reader naming order new state answer stands
      ((value, default, Ok replied, (roomier, is, (lent, lends, numbers)), told), same) =
      let goes = lender_goes types naming order old state stands number values rise.3 roomier is in
      subst (λ (it : Reply T). IsMatched degrades decides reader_degrades types choices naming order old state
      (command.Loan number values) it stands new) (sym (ok_reply answer (loan_reply replied) told))
      (written_by types naming order (roomy types naming order old state stands number values rise.3 roomier is) new state
      (roomy_stands types naming order old state stands number values rise.3 roomier is) number values grown
      (next_is_free types naming order old state stands number values rise.3 roomier is) value default lent replied
      (port_under (value_at roomier.publishers number)) refl
      (subst (λ (port : Option PortId). AtPort (LendsWritten hub_ports with_hub_ports values value) (ready hub_ports port old.hub) old.hub
      lent
      new.hub) goes lends)
      (subst (λ (port : Option PortId). NumbersLoan (ready hub_ports port old.hub) lent roomier replied new.made) goes numbers))
