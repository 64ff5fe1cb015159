-- What a send of a loan reports is of the message whose send the machine's command begins.
use Rattle.std.proofs.Common.{◌≡◌, ◌==◌, ◌&&◌, ◌∷◌, [], ℕ, Bool, false, cond, if◌then◌else◌, List, map, is_some, Option, None, Some}
use Rattle.std.proofs.Common.{Result, Ok, Err, refl, sym, ap, ◌∙◌, ⊎_elim}
use Rattle.std.proofs.lemmas.Bool.{cases_Bool, eq-eqb, eqb-true}
use Rattle.std.specs.Prelude.{filter_map, option_and_then, option_map, option_to_list}
use Rattle.iox_command.specs.declared.command.Command.TheVariants as command
use Rattle.iox_command.specs.declared.reply.Reply.{Reply}
use Rattle.iox_domain.specs.Calls.{Sends}
use Rattle.iox_domain.specs.DomainPorts.Messages as domain
use Rattle.iox_domain.specs.DomainPorts.Publishers.{port_of}
use Rattle.iox_domain.specs.DomainPorts.declared.attached.Taken.{Taken}
use Rattle.iox_domain.specs.DomainPorts.declared.meeting.Sent.{Sent}
use Rattle.iox_domain.specs.DomainPorts.declared.meeting.Sent.TheVariants as sent
use Rattle.iox_domain.specs.DomainPorts.declared.publisher_port.PublisherPort.{PublisherPort}
use Rattle.iox_domain.specs.DomainValues.Sequences.{next_sequence}
use Rattle.iox_domain.specs.DomainValues.declared.port_error.SendError.{SendError}
use Rattle.iox_domain.specs.DomainValues.declared.port_error.SendError.TheVariants as sending
use Rattle.iox_domain.specs.Lending.{loan_in}
use Rattle.iox_domain.specs.Order as order
use Rattle.iox_domain.specs.Order.{message_of, sent_by, sequence_in}
use Rattle.iox_domain.specs.declared.ports.service_ports.ServicePorts.{ServicePorts}
use Rattle.iox_domain_machine.specs.Laws.{with_alone}
use Rattle.iox_domain_machine.specs.Naming.{Naming, message_as}
use Rattle.iox_domain_machine.specs.SendLaws.{sent_or_skipped}
use Rattle.iox_domain_machine.specs.SentHeaders.{SentHeader, headed_as_sent, headed_at_port}
use Rattle.iox_domain_machine.specs.Standing.{PublisherIs, StandsFor}
use Rattle.iox_domain_machine.specs.Tables.{LentSlot, loan_as}
use Rattle.iox_domain_machine.proofs.SendBegins.{found_at, written_as}
use Rattle.iox_domain_machine.proofs.SentHeaders.{headed_is}
use Rattle.iox_domain_machine.proofs.Writing.{IsThere, goes_there, is_there, same_values}
use Rattle.iox_machine.specs.Message as machine
use Rattle.iox_machine.specs.MessageLaws.{begun_by, sent_in}
use Rattle.iox_machine.specs.RunLaws.{has_begun, numbered, sent_as}
use Rattle.iox_machine.specs.Service.{Publisher, Service}
use Rattle.iox_machine.specs.State.{State}
use Rattle.iox_machine.specs.Table.{at}

-- both tell alike whether a send began
pub same_begun : (T : Type 0) (answer : Option (Result Sent SendError))
    → has_begun {T = T} (sent_or_skipped answer) ≡ order.has_begun answer
same_begun T None = refl
same_begun T (Some (Ok (sent.Delivered count))) = refl
same_begun T (Some (Ok sent.Blocked)) = refl
same_begun T (Some (Err sending.ConnectionBrokenSinceSenderNoLongerExists)) = refl
same_begun T (Some (Err sending.ConnectionCorrupted)) = refl
same_begun T (Some (Err (sending.LoanError why))) = refl
same_begun T (Some (Err (sending.ConnectionError failure))) = refl
same_begun T (Some (Err sending.UnableToDeliver)) = refl
same_begun T (Some (Err sending.InternalError)) = refl

module _ {T U : Type 0} (names : Naming) (lent : List (ℕ × LentSlot)) (held : List (ℕ × Taken)) (buffer : ℕ) (ports : ServicePorts T U)
    (service : Service T) (state : State T) (loan : ℕ) (out : LentSlot) (stands : StandsFor names lent held buffer ports service)
    (goes : at loan lent ≡ Some out) where
  abbrev there : IsThere ports out
  there = is_there names lent held buffer ports service loan out stands goes

  abbrev name : ℕ
  name = names.publisher out.publisher

  abbrev was : PublisherIs names ports service out.publisher there.port
  was = stands.publishers out.publisher there.port there.there

  -- the message that the loan becomes, and the machine's
  abbrev message : domain.Message T U
  message = domain.sent_as (next_sequence there.port.last_sequence) there.loan

  abbrev its : machine.Loan T
  its = loan_as names ports out

  abbrev numbered_there : machine.Message T
  numbered_there = numbered was.0 (sent_as its)

  slot_is : out.slot ≡ there.loan.slot
  slot_is =
      sym (eqb-true there.loan.slot out.slot
      (found_at (λ (one : domain.Loan T U). one.slot == out.slot) there.port.sender.uses.loans there.loan there.found).1)

  number_is : names.message out.publisher out.slot ≡ names.message there.port.number there.loan.slot
  number_is = ap (λ slot. names.message out.publisher slot) slot_is
      ∙ sym (ap (λ n. names.message n there.loan.slot) (stands.numbered out.publisher there.port there.there))

  message_is : numbered_there ≡ message_as (names.message there.port.number) message
  message_is =
      ap (λ (n : ℕ). record numbered_there { number = n }) number_is
      ∙ ap (λ (sequence : Option ℕ).
      record numbered_there { number = names.message there.port.number there.loan.slot; sequence = sequence })
      (ap next_sequence was.2.last_sequence)
      ∙ ap (λ (values : List T). record (message_as (names.message there.port.number) message) { values = values })
      (ap (filter_map (λ value. value)) (same_values names lent held buffer ports service loan out stands goes)
      ∙ written_as there.loan.values)

  -- what the machine begins to send, by what is told of its answer
  abbrev begun_with : Bool → Option (machine.Message T)
  begun_with begun = if begun then sent_in service its else None

  machine_begins : (answer : Reply T)
      → begun_by name (command.Send loan) (with_alone service state) answer ≡ begun_with (has_begun answer)
  machine_begins answer =
      ap (λ (found : Option (machine.Loan T)). option_and_then
      (λ (it : Service T). option_and_then
      (λ (one : machine.Loan T). if (one.publisher == name) && has_begun answer then sent_in it one else None) (at loan it.loans))
      (cond (is_some found) (Some service) None)) (goes_there names lent held buffer ports service loan out stands goes)
      ∙ ap (option_and_then
      (λ (one : machine.Loan T). if (one.publisher == name) && has_begun answer then sent_in service one else None))
      (goes_there names lent held buffer ports service loan out stands goes)
      ∙ ap (λ (b : Bool). if b && has_begun answer then sent_in service its else None) (eq-eqb name name refl)

  pub sends_tell : (answer : Option (Result Sent SendError))
      → map (λ (told : SentHeader T U). told.message) (headed_as_sent names (Sends out.publisher out.slot answer) ports)
      ≡ option_to_list (begun_by name (command.Send loan) (with_alone service state) (sent_or_skipped answer))
  sends_tell answer = ⊎_elim
      (λ on.
      ap (map (λ (told : SentHeader T U). told.message))
      (headed_is names out.publisher out.slot answer ports there.port there.loan there.there on there.found)
      ∙ ap (λ (one : machine.Message T). one ∷ []) (sym message_is)
      ∙ ap option_to_list (sym (machine_begins (sent_or_skipped answer)
      ∙ ap begun_with (same_begun T answer ∙ on)
      ∙ ap (option_map (λ (publisher : Publisher T). numbered publisher (sent_as its))) was.1)))
      (λ off.
      ap (λ (messages : List (domain.Message T U)). map (λ (told : SentHeader T U). told.message)
      (headed_at_port names (port_of out.publisher ports.publishers) messages)) (none_sent answer off)
      ∙ ap (λ (found : Option (PublisherPort T U)). map (λ (told : SentHeader T U). told.message) (headed_at_port names found []))
      there.there
      ∙ ap option_to_list (sym (machine_begins (sent_or_skipped answer) ∙ ap begun_with (same_begun T answer ∙ off))))
      (cases_Bool (order.has_begun answer))
    where
      none_sent : (answer : Option (Result Sent SendError)) → order.has_begun answer ≡ false
          → sent_by out.publisher (Sends out.publisher out.slot answer) ports ≡ []
      none_sent answer off =
          ap (λ b. if b && order.has_begun answer then message_of (sequence_in out.publisher ports)
          (loan_in out.publisher out.slot ports) else []) (eq-eqb out.publisher out.publisher refl)
          ∙ ap (λ b. if b then message_of (sequence_in out.publisher ports) (loan_in out.publisher out.slot ports) else []) off
