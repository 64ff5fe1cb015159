-- A publisher puts, of a domain and of the machine.
use Rattle.std.proofs.Common.{◌≡◌, ◌≢◌, ◌+◌, ◌∷◌, [], ◌++◌, ℕ, Bool, false, cond, List, length, map, nat_lt, true, Option, None, Some}
use Rattle.std.proofs.Common.{Result, Ok, Err, refl, sym, ap, subst, inl, inr, ◌∙◌, arith, ◌&&◌, if◌then◌else◌, is_some, ⊎_elim}
use Rattle.std.proofs.lemmas.Bool.{cases_Bool, eq-eqb}
use Rattle.std.specs.Prelude.{⊤, filter_map, option_and_then, option_map, option_to_list, MatchBool}
use Rattle.iox_command.specs.DomainValues.declared.backpressure.BackpressureDecision.{BackpressureDecision}
use Rattle.iox_command.specs.DomainValues.declared.backpressure.BackpressureInfo.{BackpressureInfo}
use Rattle.iox_command.specs.DomainValues.declared.degradation.DegradationAction.{DegradationAction}
use Rattle.iox_command.specs.DomainValues.declared.degradation.DegradationInfo.{DegradationInfo}
use Rattle.iox_command.specs.DomainValues.declared.port_error.LoanError.{LoanError}
use Rattle.iox_command.specs.DomainValues.declared.port_error.LoanError.TheVariants.{OutOfMemory}
use Rattle.iox_command.specs.DomainValues.declared.port_error.SendError.{SendError}
use Rattle.iox_command.specs.DomainValues.declared.port_error.SendError.TheVariants as error
use Rattle.iox_command.specs.NegotiateBase.DescribeBase.declared.message_type.MessageTypeDetails.{MessageTypeDetails}
use Rattle.iox_command.specs.declared.command.Command.TheVariants as command
use Rattle.iox_command.specs.declared.refusal.Refusal.TheVariants as refusal
use Rattle.iox_command.specs.declared.reply.Reply.{Reply}
use Rattle.iox_command.specs.declared.reply.Reply.TheVariants as reply
use Rattle.iox_domain.proofs.StayRoomy.{stay_roomy}
use Rattle.iox_domain.specs.Calls.{Lends, Writes}
use Rattle.iox_domain.specs.DomainPorts.Messages.{write_all, written_of}
use Rattle.iox_domain.specs.DomainPorts.MessagesSending.{has_length}
use Rattle.iox_domain.specs.DomainPorts.Publishers.{port_of}
use Rattle.iox_domain.specs.DomainPorts.declared.attached.Taken.{Taken}
use Rattle.iox_domain.specs.DomainPorts.declared.meeting.Sent.{Sent}
use Rattle.iox_domain.specs.DomainPorts.declared.meeting.Sent.TheVariants as sent
use Rattle.iox_domain.specs.DomainPorts.declared.publisher_port.PublisherPort.{PublisherPort}
use Rattle.iox_domain.specs.DomainValues.Sequences.{next_sequence}
use Rattle.iox_domain.specs.Lending.{LoansOne}
use Rattle.iox_domain.specs.Order as order
use Rattle.iox_domain.specs.Ports.{AtPublisher}
use Rattle.iox_domain.specs.Roomy.{AreRoomy}
use Rattle.iox_domain.specs.Steps.{LoansBy, SendsBy}
use Rattle.iox_domain.specs.declared.ports.service_ports.ServicePorts.{ServicePorts}
use Rattle.iox_domain_machine.specs.Laws.{Matches, with_alone}
use Rattle.iox_domain_machine.specs.LendingLaws.{with_lent_name, with_values_in}
use Rattle.iox_domain_machine.specs.Naming.{Naming, message_as, with_name}
use Rattle.iox_domain_machine.specs.PublisherUpdateLaws.{DegradesAs}
use Rattle.iox_domain_machine.specs.PutLaws.{PutMatches}
use Rattle.iox_domain_machine.specs.SendLaws.{sent_or_skipped, DecidesAs}
use Rattle.iox_domain_machine.specs.SentHeaders.{AreStillNamed, PutTells, SentHeader, headed_as_put, headed_where_put, put_from}
use Rattle.iox_domain_machine.specs.Standing.{StandsFor}
use Rattle.iox_domain_machine.specs.Tables.{LentSlot, loan_as}
use Rattle.iox_domain_machine.proofs.AloneDid.{by_bool, by_option}
use Rattle.iox_domain_machine.proofs.Found.{same_some, never_some, at_changed}
use Rattle.iox_domain_machine.proofs.Lending.{lend_uninit_matches}
use Rattle.iox_domain_machine.proofs.LendingBack.{LentBy, service_with, free_does, busy_skips}
use Rattle.iox_domain_machine.proofs.LendingFilled.{LoanMatched, lent_so, none_there, filled_stands}
use Rattle.iox_domain_machine.proofs.PutHeaders.{lends_tell, made_puts}
use Rattle.iox_domain_machine.proofs.PuttingParts.{PutParts, puts_in_parts}
use Rattle.iox_domain_machine.proofs.SendBegins.{written_as}
use Rattle.iox_domain_machine.proofs.SendHeaders.{same_begun}
use Rattle.iox_domain_machine.proofs.SentHeaders.{lends_stays, longer, others_stay}
use Rattle.iox_domain_machine.proofs.SendingBack.{sending_back}
use Rattle.iox_domain_machine.proofs.SendingLoan.{send_matches}
use Rattle.iox_domain_machine.proofs.TableEnds.{at_end, removed_end, numbers_total, none_above}
use Rattle.iox_domain_machine.proofs.Writing.{goes_there}
use Rattle.iox_machine.specs.Choices.{Choices}
use Rattle.iox_machine.specs.Lending.{loan_refusal}
use Rattle.iox_machine.specs.Message as machine
use Rattle.iox_machine.specs.MessageLaws.{begun_by, first_in, next_message}
use Rattle.iox_machine.specs.Ports.{publisher_in, Puts}
use Rattle.iox_machine.specs.RunLaws.{has_begun}
use Rattle.iox_machine.specs.Sending.{Sends}
use Rattle.iox_machine.specs.Service.{Service, Publisher}
use Rattle.iox_machine.proofs.Shorthands.{with_publisher, LendsLonger}
use Rattle.iox_machine.specs.State.{State}
use Rattle.iox_machine.specs.Table.{at, removed}

-- values that are all written are these
values_written : {T : Type 0} (values : List T) → filter_map (λ (value : Option T). value) (map Some values) ≡ values
values_written [] = refl
values_written (value ∷ values) = ap (λ more. value ∷ more) (values_written values)

module _ {T : Type 0} where
  -- a publisher that stands goes by its number
  standing_at : (number : ℕ) (service : Service T) (publisher : Publisher T) → publisher_in number service ≡ Some publisher
      → at number service.publishers ≡ Some publisher
  standing_at number service publisher is = found (at number service.publishers) is
    where
      standing : (one : Publisher T) (stands : Bool) → cond stands (Some one) None ≡ Some publisher → Some one ≡ Some publisher
      standing one true is = is
      standing one false is = never_some publisher is

      found : (one : Option (Publisher T))
          → option_and_then (λ (it : Publisher T). cond it.stands (Some it) None) one ≡ Some publisher → one ≡ Some publisher
      found None is = never_some publisher is
      found (Some one) is = standing one one.stands is

  -- and so it does stand
  standing_there : (number : ℕ) (service : Service T) (publisher : Publisher T) → publisher_in number service ≡ Some publisher
      → publisher.stands ≡ true
  standing_there number service publisher is = found (at number service.publishers) is
    where
      standing : (one : Publisher T) (stands : Bool) → one.stands ≡ stands → cond stands (Some one) None ≡ Some publisher
          → publisher.stands ≡ true
      standing one true up is = ap (λ (it : Publisher T). it.stands) (sym (same_some one publisher is)) ∙ up
      standing one false up is = never_some publisher is

      found : (one : Option (Publisher T))
          → option_and_then (λ (it : Publisher T). cond it.stands (Some it) None) one ≡ Some publisher → publisher.stands ≡ true
      found None is = never_some publisher is
      found (Some one) is = standing one one.stands refl is

  -- how a loan is made that isn't refused
  abbrev MadeHere : Publisher T → Publisher T → Type 0
  MadeHere publisher after = (◌≡◌ {A = Option LoanError} None None) × (after ≡ record publisher { next = publisher.next + 1 })

  abbrev MadeAs : ℕ → ℕ → Publisher T → Publisher T → Type 0
  MadeAs name values publisher after =
      MatchBool (nat_lt publisher.room values) (LendsLonger name values publisher None after) (MadeHere publisher after)

  -- what is kept of a publisher where its messages are lent
  lender_keeps : (P : Publisher T → Type 0)
      → ((one : Publisher T) (room segments first next : ℕ) → P one
      → P (record one { room = room; segments = segments; first = first; next = next }))
      → (name values : ℕ) (service : Service T) (by : LentBy name values service None) → P by.publisher → P by.after
  lender_keeps P keeps name values service by was =
      elim (by_option (loan_refusal name values by.publisher service) (MadeAs name values by.publisher by.after)
      (λ why. (None ≡ Some why) × (by.after ≡ by.publisher)) by.lends) [
        | inl w ↦ lent w.1
        | inr w ↦ never_some w.0 w.2.0
      ]
    where
      longer : LendsLonger name values by.publisher None by.after → P by.after
      longer (inl lacks) = never_some OutOfMemory lacks.0
      longer (inr opened) = subst P (sym opened.4) (keeps by.publisher opened.0 _ _ _ was)

      lent : MadeAs name values by.publisher by.after → P by.after
      lent lends =
          elim (by_bool (nat_lt by.publisher.room values) (LendsLonger name values by.publisher None by.after)
          (MadeHere by.publisher by.after) lends) [
            | inl w ↦ longer w.1
            | inr w ↦ subst P (sym w.1.1) (keeps by.publisher _ _ _ (by.publisher.next + 1) was)
          ]

-- what was sent wasn't skipped
not_skipped : {T : Type 0} (answer : Result Sent SendError) → sent_or_skipped {T = T} (Some answer) ≢ reply.Skipped
not_skipped {T} (Ok (sent.Delivered count)) is = differ is
  where
    differ : ◌≡◌ {A = Reply T} (reply.Delivered count) reply.Skipped → ⊥
    differ e = cc
not_skipped {T} (Ok sent.Blocked) is = differ is
  where
    differ : ◌≡◌ {A = Reply T} reply.Blocked reply.Skipped → ⊥
    differ e = cc
not_skipped {T} (Err why) is = differ is
  where
    differ : ◌≡◌ {A = Reply T} (reply.Refused (refusal.Send why)) reply.Skipped → ⊥
    differ e = cc

module _ {T U : Type 0} (types : MessageTypeDetails) (choices : Choices T) (buffer : ℕ)
    (may_degrade : DegradationInfo → DegradationAction → Type 0) (may : BackpressureInfo → BackpressureDecision → Type 0) (names : Naming)
    (lent : List (ℕ × LentSlot)) (held : List (ℕ × Taken)) (old : ServicePorts T U) (service : Service T) (state : State T)
    (number : ℕ) (values : List T) (stands : StandsFor names lent held buffer old service) (roomy : AreRoomy old)
    (known : names.publisher number ≢ 0)
    (decides : (publisher : Publisher T) → at (names.publisher number) service.publishers ≡ Some publisher → publisher.stands ≡ true
    → DecidesAs choices may (names.publisher number) publisher) where
  abbrev name : ℕ
  name = names.publisher number

  -- a machine that has made as many loans that no loan has the next number
  abbrev before : State T
  before = record state { made = record state.made { loans = numbers_total lent } }

  abbrev loan : ℕ
  loan = before.made.loans + 1

  fresh : at loan lent ≡ None
  fresh = none_above loan lent (omega arith)

  abbrev Comes : Option (Result Sent SendError) → ServicePorts T U → Type 0
  Comes answer new = (message : ℕ → ℕ → ℕ) × (reader : ℕ → ℕ → ℕ)
      × (slot : ℕ) × PutTells names (record names { message = message; reader = reader }) number slot values answer old new service state
      × Matches T U choices types buffer (command.Put name values) (sent_or_skipped answer) state service
      (record names { message = message; reader = reader }) lent held new

  came : (answer : Option (Result ℕ LoanError)) (made : ServicePorts T U)
      → LoansBy number (length values) (length values) old answer made
      → LoanMatched types choices buffer names lent held old made service before number (length values) stands fresh answer
  came answer made lends = lend_uninit_matches T U choices types buffer names lent held old made service before number (length values)
      answer stands roomy.sound known fresh lends

  -- the machine begins no send
  begins_none : (told : Reply T) → has_begun told ≡ false
      → [] ≡ option_to_list (begun_by name (command.Put name values) (with_alone service state) told)
  begins_none told off =
      ap option_to_list (sym (ap (λ (b : Bool). if b && has_begun told then option_map (next_message values)
      (first_in (publisher_in name) (with_alone service state)) else None) (eq-eqb name name refl)
      ∙ ap (λ (b : Bool). if b then option_map (next_message values) (first_in (publisher_in name) (with_alone service state)) else None)
      off))

  -- nobody puts
  none_puts : LoansBy number (length values) (length values) old None old → Comes None old
  none_puts lends =
      let here = came None old lends in
      let busy = lent_so types choices buffer names lent held old old service before number (length values) stands fresh None here in (
        names.message,
        names.reader,
        0,
        record {
          still = others_stay names names old refl refl;
          begins = begins_none reply.Skipped refl;
          goes_on = λ told tell. longer names told [] old tell;
        },
        (service, busy_skips name service state (Puts choices name values) busy.0, stands),
      )

  -- the loan is refused, and nothing changes
  refused_puts : (why : LoanError) (new : ServicePorts T U) → LoansBy number (length values) (length values) old (Some (Err why)) new
      → Comes (Some (Err (error.LoanError why))) new
  refused_puts why new lends =
      let here = came (Some (Err why)) new lends in
      let so = lent_so types choices buffer names lent held old new service before number (length values) stands fresh (Some (Err why))
      here in
      let by = so.0 in (
        names.message,
        names.reader,
        0,
        record {
          still = others_stay names names old refl refl;
          begins = begins_none (reply.Refused (refusal.Send (error.LoanError why))) refl;
          goes_on = λ told tell.
              lends_tell may_degrade may names names told number values old (others_stay names names old refl refl) tell
              (Some (Err why)) new lends [];
        },
        (
          service,
          free_does name service state (Puts choices name values) by.publisher by.there by.free
              (reply.Refused (refusal.Send (error.LoanError why)))
              service (Some why, by.after, by.lends, (refl, refl)),
          subst (λ (it : Service T). StandsFor names lent held buffer new it) so.1 here.1.2,
        ),
      )

  module _ (slot : ℕ) (made : ServicePorts T U) (lends : LoansBy number (length values) (length values) old (Some (Ok slot)) made) where
    abbrev here : LoanMatched types choices buffer names lent held old made service before number (length values) stands fresh
        (Some (Ok slot))
    here = came (Some (Ok slot)) made lends

    abbrev by : LentBy name (length values) service None
    by = (lent_so types choices buffer names lent held old made service before number (length values) stands fresh (Some (Ok slot))
        here).0

    abbrev written : ServicePorts T U
    written = with_values_in number slot values made

    abbrev out : LentSlot
    out = record { publisher = number; slot = slot }

    abbrev names_now : Naming
    names_now = with_lent_name number here.0 (Some (Ok slot)) names

    abbrev lent_now : List (ℕ × LentSlot)
    lent_now = lent ++ (loan, out) ∷ []

    abbrev one : machine.Loan T
    one = record { publisher = name; number = by.publisher.next; values = map Some values }

    abbrev now : Service T
    now = service_with name (length values) loan service (map Some values) by

    none_here : at loan service.loans ≡ None
    none_here = none_there types choices buffer names lent held old made service before number (length values) stands fresh

    -- the loan is written whole, and goes by a number for now
    now_stands : StandsFor names_now lent_now held buffer written now
    now_stands = filled_stands types choices buffer names lent held old made service before number (length values) stands fresh slot
        here values
        refl

    now_roomy : AreRoomy written
    now_roomy =
        stay_roomy (λ from to. ⊤) may_degrade may
        (Writes number slot (λ port. has_length slot (length values) port.sender.uses) (write_all values)) made written refl
        (stay_roomy (λ from to. ⊤) may_degrade may (Lends number (length values) (length values) (Some (Ok slot))) old made lends roomy)

    there_now : at name now.publishers ≡ Some by.after
    there_now = at_changed name by.after by.publisher service.publishers (standing_at name service by.publisher by.there)

    decides_now : (publisher : Publisher T) → at name now.publishers ≡ Some publisher → publisher.stands ≡ true
        → DecidesAs choices may name publisher
    decides_now publisher is up =
        subst (DecidesAs choices may name) (same_some by.after publisher (sym there_now ∙ is))
        (lender_keeps (DecidesAs choices may name) (λ one room segments first next as_before. as_before) name (length values) service by
        (decides by.publisher (standing_at name service by.publisher by.there) (standing_there name service by.publisher by.there)))

    -- what is told of it is told of the message that the machine's publisher puts
    its_number : names_now.message number slot ≡ by.publisher.next
    its_number =
        ap (λ (it : machine.Loan T). it.number)
        (same_some (loan_as names_now written out) one
        (sym (goes_there names_now lent_now held buffer written now loan out now_stands (at_end loan out lent fresh))
        ∙ at_end loan one service.loans none_here))

    its_port : (found : Option (PublisherPort T U)) → port_of number old.publishers ≡ found
        → AtPublisher number (LoansOne (length values) (length values)) found old (Some (Ok slot)) made
        → (port : PublisherPort T U) × (port_of number old.publishers ≡ Some port)
    its_port None none call = never_some (Ok slot) (sym call.0)
    its_port (Some port) there call = (port, there)

    put_is : (port : PublisherPort T U) → port_of number old.publishers ≡ Some port
        → message_as (names_now.message port.number) (put_from slot values port) ≡ next_message values by.publisher
    put_is port there =
        let was = stands.publishers number port there in
        let same : was.0 ≡ by.publisher
        = same_some was.0 by.publisher (sym was.1 ∙ standing_at name service by.publisher by.there) in
        let last : port.last_sequence ≡ by.publisher.last_sequence
        = sym was.2.last_sequence ∙ ap (λ (it : Publisher T). it.last_sequence) same in
        let whole : written_of (map Some values) ≡ values = sym (written_as (map Some values)) ∙ values_written values in
        ap (λ (n : ℕ). record (message_as (names_now.message port.number) (put_from slot values port)) { number = n })
        (ap (λ n. names_now.message n slot) (stands.numbered number port there) ∙ its_number)
        ∙ ap (λ (last : Option ℕ). record (next_message (written_of (map Some values)) by.publisher) { sequence = next_sequence last }) last
        ∙ ap (λ (it : List T). next_message it by.publisher) whole

    put_begins : (told : Reply T) → has_begun told ≡ true
        → begun_by name (command.Put name values) (with_alone service state) told ≡ Some (next_message values by.publisher)
    put_begins told on =
        ap (λ (b : Bool). if b && has_begun told then option_map (next_message values)
        (first_in (publisher_in name) (with_alone service state)) else None) (eq-eqb name name refl)
        ∙ ap (λ (b : Bool). if b then option_map (next_message values) (first_in (publisher_in name) (with_alone service state)) else None)
        on
        ∙ ap (λ (found : Option (Publisher T)). option_map (next_message values)
        (option_and_then (publisher_in name) (cond (is_some found) (Some service) None))) by.there
        ∙ ap (option_map (next_message values)) by.there

    put_told : (answer : Result Sent SendError)
        → map (λ (told : SentHeader T U). told.message) (headed_as_put names_now number slot values (Some answer) old)
        ≡ option_to_list (begun_by name (command.Put name values) (with_alone service state) (sent_or_skipped (Some answer)))
    put_told answer = ⊎_elim
        (λ on.
        let (port, there) = its_port (port_of number old.publishers) refl lends in
        ap (λ (b : Bool). map (λ (told : SentHeader T U). told.message)
        (if b then headed_where_put names_now slot values (port_of number old.publishers) else [])) on
        ∙ ap (λ (found : Option (PublisherPort T U)). map (λ (told : SentHeader T U). told.message)
        (headed_where_put names_now slot values found)) there
        ∙ ap (λ (it : machine.Message T). it ∷ []) (put_is port there)
        ∙ sym (ap option_to_list (put_begins (sent_or_skipped (Some answer)) (same_begun T (Some answer) ∙ on))))
        (λ off.
        ap (λ (b : Bool). map (λ (told : SentHeader T U). told.message)
        (if b then headed_where_put names_now slot values (port_of number old.publishers) else [])) off
        ∙ begins_none (sent_or_skipped (Some answer)) (same_begun T (Some answer) ∙ off))
        (cases_Bool (order.has_begun (Some answer)))

    -- what was in use keeps its names
    still_now : AreStillNamed names names_now old
    still_now = lends_stays names lent held buffer old service stands number (length values) (length values) here.0 (Some (Ok slot)) made
        lends

    -- and is sent
    sends_now : (answer : Result Sent SendError) (new : ServicePorts T U) (reader : ℕ → ℕ → ℕ)
        → Matches T U choices types buffer (command.Send loan) (sent_or_skipped (Some answer)) state now
        (record names_now { reader = reader }) (removed loan lent_now) held new
        → SendsBy may_degrade may number slot written (Some answer) new → Comes (Some answer) new
    sends_now answer new reader sent goes =
        let sends = sending_back choices loan now sent.0 (sent_or_skipped (Some answer)) (not_skipped answer) types buffer state one
        by.after (at_end loan one service.loans none_here) there_now sent.1 in
        let as_put : Sends choices name (record { number = by.publisher.next; sequence = None; values = values }) by.after
        (with_publisher name by.after service)
        (sent_or_skipped (Some answer)) sent.0 =
        subst (λ (loans : List (ℕ × machine.Loan T)). Sends choices name
        (record { number = by.publisher.next; sequence = None; values = values }) by.after
        (record (with_publisher name by.after service) { loans = loans }) (sent_or_skipped (Some answer)) sent.0)
        (removed_end loan one service.loans none_here)
        (subst (λ (it : List T). Sends choices name (record { number = by.publisher.next; sequence = None; values = it }) by.after
        (record now { loans = removed loan now.loans }) (sent_or_skipped (Some answer)) sent.0) (values_written values) sends) in (
          names_now.message,
          reader,
          slot,
          record {
            still = still_now;
            begins = put_told answer;
            goes_on = λ told tell.
                made_puts may_degrade may names names_now told number values old still_now tell slot (port_of number old.publishers) made
                new answer refl lends goes;
          },
          (
            sent.0,
            free_does name service state (Puts choices name values) by.publisher by.there by.free (sent_or_skipped (Some answer)) sent.0
                (None, by.after, by.lends, as_put),
            subst (λ (table : List (ℕ × LentSlot)). StandsFor (record names_now { reader = reader }) table held buffer new sent.0)
                (removed_end loan out lent fresh) sent.2,
          ),
        )

    degrades_now : DegradesAs choices may_degrade name service → DegradesAs choices may_degrade name now
    degrades_now degrades publisher is up =
        subst (λ (it : Publisher T). (info : DegradationInfo) (action : DegradationAction) → may_degrade info action
        → choices.publisher_acts name it.degradation action) (same_some by.after publisher (sym there_now ∙ is))
        (lender_keeps (λ it. (info : DegradationInfo) (action : DegradationAction) → may_degrade info action
        → choices.publisher_acts name it.degradation action) (λ it room segments first next as_before. as_before) name (length values)
        service by
        (degrades by.publisher (standing_at name service by.publisher by.there) (standing_there name service by.publisher by.there)))

  -- whether nobody puts, or the loan is refused, or it is made, written and sent
  pub put_parts_match : DegradesAs choices may_degrade name service
      → (answer : Option (Result Sent SendError)) (new : ServicePorts T U) → PutParts may_degrade may number values old answer new
      → Comes answer new
  put_parts_match degrades answer new (inl busy) =
      subst (λ (told : Option (Result Sent SendError)). Comes told new) (sym busy.0)
      (subst (λ (ports : ServicePorts T U). Comes None ports) (sym busy.1) (none_puts busy.2))
  put_parts_match degrades answer new (inr (inl refused)) =
      subst (λ (told : Option (Result Sent SendError)). Comes told new) (sym refused.1) (refused_puts refused.0 new refused.2)
  put_parts_match degrades answer new (inr (inr (slot, made, result, is, lends, goes))) =
      let sent = send_matches T U choices may may_degrade types buffer (names_now slot made lends) (lent_now slot made lends) held
      (written slot made lends) new (now slot made lends) state loan (out slot made lends) (Some result)
      (now_stands slot made lends) (now_roomy slot made lends) (at_end loan (out slot made lends) lent fresh)
      (decides_now slot made lends) (degrades_now slot made lends degrades) goes in
      subst (λ (told : Option (Result Sent SendError)). Comes told new) (sym is)
      (sends_now slot made lends result new (with_name number sent.0 names.reader) sent.1 goes)

pub put_matches : (T U : Type 0) (choices : Choices T) (may : BackpressureInfo → BackpressureDecision → Type 0)
    (may_degrade : DegradationInfo → DegradationAction → Type 0) → PutMatches T U choices may may_degrade
put_matches T U choices may may_degrade types buffer names lent held old new service state number values answer stands roomy
    known decides degrades call =
    put_parts_match types choices buffer may_degrade may names lent held old service state number values stands roomy known decides
    degrades answer new (puts_in_parts may_degrade may number values old answer new call)
