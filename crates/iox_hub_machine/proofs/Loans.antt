-- Loans of a hub are written.
use Rattle.std.proofs.Common.{◌≡◌, ◌&&◌, ℕ, zero, suc, Bool, true, false, List, [], ◌∷◌, length, get_or, map, set, Option, None, Some}
use Rattle.std.proofs.Common.{refl, sym, ap, subst, inl, inr, ◌∙◌, arith}
use Rattle.std.proofs.lemmas.Bool.Decides.{nat_tests}
use Rattle.std.specs.List.{list_all}
use Rattle.std.specs.Prelude.{is_some, nat_lt, ◌==◌, if◌then◌else◌}
use Rattle.iox_command.specs.DomainValues.declared.backpressure.BackpressureDecision.{BackpressureDecision}
use Rattle.iox_command.specs.DomainValues.declared.backpressure.BackpressureInfo.{BackpressureInfo}
use Rattle.iox_command.specs.DomainValues.declared.degradation.DegradationAction.{DegradationAction}
use Rattle.iox_command.specs.DomainValues.declared.degradation.DegradationCause.{DegradationCause}
use Rattle.iox_command.specs.DomainValues.declared.degradation.DegradationInfo.{DegradationInfo}
use Rattle.iox_command.specs.NegotiateBase.DescribeBase.declared.message_type.MessageTypeDetails.{MessageTypeDetails}
use Rattle.iox_command.specs.declared.command.Command.TheVariants as command
use Rattle.iox_command.specs.declared.reply.Reply.{Reply}
use Rattle.iox_command.specs.declared.reply.Reply.TheVariants as reply
use Rattle.iox_container.specs.NumberTable.{value_at}
use Rattle.iox_delivery.specs.Holding.{loan_found as loan_there}
use Rattle.iox_delivery.specs.Publishing.{changed_at}
use Rattle.iox_domain.specs.DomainPorts.Messages.{Loan, write_value}
use Rattle.iox_domain.specs.DomainPorts.MessagesSending.{has_place, is_written_loan}
use Rattle.iox_domain.specs.DomainPorts.declared.attached.Taken.{Taken}
use Rattle.iox_domain.specs.DomainPorts.declared.publisher_port.PublisherPort.{PublisherPort}
use Rattle.iox_domain.specs.Lending.{passes_port, passes, loan_in, written_in}
use Rattle.iox_domain.specs.declared.ports.service_ports.ServicePorts.{ServicePorts}
use Rattle.iox_domain_machine.specs.Laws.{Matches, done_or_skipped}
use Rattle.iox_domain_machine.specs.Naming.{Naming}
use Rattle.iox_domain_machine.specs.Services.{those_of}
use Rattle.iox_domain_machine.specs.Standing.{StandsFor}
use Rattle.iox_domain_machine.specs.Tables.{LentSlot}
use Rattle.iox_domain_machine.proofs.AloneDid.{by_bool}
use Rattle.iox_domain_machine.proofs.Loans.{found_passes}
use Rattle.iox_domain_machine.proofs.Writing.{is_there, loan_found, written_if, written_is, set_matches, fill_matches}
use Rattle.iox_hub_base.specs.AsHome.{hub_ports, with_hub_ports}
use Rattle.iox_hub_base.specs.declared.hub.Hub.{Hub}
use Rattle.iox_hub_commands.specs.Loans.{loan_under, changed_under, is_set, set_in, is_filled, fits_in, filled_in}
use Rattle.iox_hub_commands.specs.Replies.{done_reply}
use Rattle.iox_hub_commands.specs.declared.numbered_hub.NumberedHub.{NumberedHub}
use Rattle.iox_hub_commands.specs.declared.ports.made.MadeLoan.{MadeLoan}
use Rattle.iox_hub_machine.specs.Laws.{answered_with, SetIsSimulated, FillIsSimulated}
use Rattle.iox_hub_machine.specs.Standing.{PortsStandFor, lent_slot, lent_in, held_in}
use Rattle.iox_hub_machine.proofs.Amidst.{at_one_skips}
use Rattle.iox_hub_machine.proofs.Deciding.{DecideAlike, DecidesAlike, same_ports, at_one_decides}
use Rattle.iox_hub_machine.proofs.Going.{loan_goes, no_loan_goes, same_stands}
use Rattle.iox_hub_machine.proofs.Housed.{put_again}
use Rattle.iox_hub_machine.proofs.Moving.{IsMatched, ports_alone}
use Rattle.iox_machine.specs.Choices.{Choices}
use Rattle.iox_machine.specs.Message as machine
use Rattle.iox_machine.specs.Ports.{Writes}
use Rattle.iox_machine.proofs.Shorthands.{IsSkipped}
use Rattle.iox_machine.specs.Service.{Service}
use Rattle.iox_machine.specs.State.{State, Made, AtOne, counted}
use Rattle.iox_machine.specs.Table.{at, changed}

-- ---- replies

pub done_so : {T : Type 0} (done : Bool) → done_reply {T = T} done ≡ done_or_skipped done
done_so true = refl
done_so false = refl

pub done_counts : (T : Type 0) (done : Bool) (made : Made) → counted {T = T} (done_reply done) made ≡ made
done_counts T true made = refl
done_counts T false made = refl

-- ---- what becomes of a hub whose loan changes

-- the ports of the loan's domain change, or nothing does
pub changed_so : {T U B D : Type 0} (change : ℕ → ℕ → ServicePorts T U → ServicePorts T U) (made : MadeLoan) (hub : Hub T U B D)
    (ports : ServicePorts T U) → hub_ports made.port.domain hub ≡ Some ports → (done : Bool)
    → (if done then changed_under hub_ports with_hub_ports change (Some made) hub else hub)
    ≡ with_hub_ports made.port.domain (if done then change made.port.number made.slot ports else ports) hub
changed_so {T} {U} change made hub ports found true =
    ap (λ (it : Option (ServicePorts T U)). changed_at (λ after. with_hub_ports made.port.domain after hub)
    (change made.port.number made.slot) it hub) found
changed_so change made hub ports found false = sym (put_again made.port.domain ports hub found)

-- ---- what the machine writes in a loan leaves its ports

module _ {T : Type 0} (fit_of : machine.Loan T → Bool) (values_of : machine.Loan T → List (Option T)) (loan : ℕ) where
  abbrev pub WritesSo : machine.Loan T → Service T → Reply T → Service T → Type 0
  WritesSo one = Writes loan one (fit_of one) (values_of one)

  writes_alike : (one : machine.Loan T) (service after : Service T) (answer : Reply T) → WritesSo one service answer after
      → DecidesAlike service after
  writes_alike one service after answer does =
      elim (by_bool (fit_of one)
      ((answer ≡ reply.Done) × (after ≡ record service { loans = changed loan (record one { values = values_of one }) service.loans }))
      (IsSkipped service answer after) does) [
        | inl written ↦ same_ports service after (ap (λ (it : Service T). it.publishers) written.1.1)
            (ap (λ (it : Service T). it.subscribers) written.1.1)
        | inr skipped ↦ same_ports service after (ap (λ (it : Service T). it.publishers) skipped.1.1)
            (ap (λ (it : Service T). it.subscribers) skipped.1.1)
      ]

  pub writing_alike : (state new : State T) (answer : Reply T) → AtOne (λ (one : Service T). at loan one.loans) WritesSo state answer new
      → DecideAlike state.services new.services
  writing_alike state new answer did =
      at_one_decides (λ (one : Service T). at loan one.loans) WritesSo state new answer
      (λ one service after is does. writes_alike one service after answer does) did

-- ---- whether a value may be set

none_below : (n : ℕ) → nat_lt n 0 ≡ false
none_below n = grind (arith, nat_tests)

some_above : (n : ℕ) → nat_lt 0 (suc n) ≡ true
some_above n = grind (arith, nat_tests)

one_up : (m n : ℕ) → nat_lt (suc m) (suc n) ≡ nat_lt m n
one_up m n = grind (arith, nat_tests)

written_there : {V : Type 0} (values : List (Option V)) (place : ℕ) → list_all is_some values ≡ true
    → is_some (get_or values place None) ≡ nat_lt place (length values)
written_there [] place all = sym (none_below place)
written_there (None ∷ values) place all = absurd (never all)
  where
    never : false ≡ true → ⊥
    never e = cc
written_there (Some v ∷ values) zero all = sym (some_above (length values))
written_there (Some v ∷ values) (suc place) all = written_there values place all ∙ sym (one_up place (length values))

and_so : (one other another : Bool) → (one ≡ true → other ≡ another) → (one && other) ≡ (if one then another else false)
and_so true other another same = same refl
and_so false other another same = refl

-- what is written where it fits, told in two ways
told_twice : {A : Type 0} (one other : Bool) (written not : A) → (other ≡ false → written ≡ not)
    → (if one then written else not) ≡ (if (if one then other else false) then written else not)
told_twice true true written not misses = refl
told_twice true false written not misses = misses refl
told_twice false other written not misses = refl

module _ {T U : Type 0} (names : Naming) (lent : List (ℕ × LentSlot)) (held : List (ℕ × Taken)) (buffer : ℕ) (ports : ServicePorts T U)
    (service : Service T) (loan place : ℕ) (value : T) (out : LentSlot) (stands : StandsFor names lent held buffer ports service)
    (goes : at loan lent ≡ Some out) where
  abbrev has : PublisherPort T U → Bool
  has port = has_place out.slot place port.sender.uses

  abbrev pub fits : Bool
  fits = if is_written_loan (loan_in out.publisher out.slot ports) then passes out.publisher has ports else false

  pub fits_so : is_set place (loan_in out.publisher out.slot ports) ≡ fits
  fits_so =
      let gone = is_there names lent held buffer ports service loan out stands goes in
      let found = loan_found names lent held buffer ports service loan out stands goes in
      let passing : passes out.publisher has ports ≡ nat_lt place (length gone.loan.values) =
      ap (passes_port has) gone.there
      ∙ found_passes out.slot (λ (one : Loan T U). nat_lt place (length one.values)) gone.port.sender.uses.loans gone.loan gone.found
      gone.once in
      ap (is_set place) found
      ∙ and_so (list_all is_some gone.loan.values) (is_some (get_or gone.loan.values place None)) (nat_lt place (length gone.loan.values))
      (written_there gone.loan.values place)
      ∙ sym (ap (λ (it : Option (Loan T U)). if is_written_loan it then passes out.publisher has ports else false) found
      ∙ ap (λ (b : Bool). if list_all is_some gone.loan.values then b else false) passing)

  pub set_so : (if is_written_loan (loan_in out.publisher out.slot ports)
      then written_in out.publisher has out.slot (write_value place value) ports else ports)
      ≡ (if fits then written_in out.publisher has out.slot (write_value place value) ports else ports)
  set_so =
      let gone = is_there names lent held buffer ports service loan out stands goes in
      told_twice (is_written_loan (loan_in out.publisher out.slot ports)) (passes out.publisher has ports)
      (written_in out.publisher has out.slot (write_value place value) ports) ports
      (λ misses. written_is has out gone.port (write_value place value) ports gone.there
      ∙ ap (λ (b : Bool). written_if b out gone.port (write_value place value) ports) (sym (ap (passes_port has) gone.there) ∙ misses))

-- ---- the laws

module _ {T U B D : Type 0} (choices : Choices T) (is_default_header : U → Type 0)
    (degrades : B → DegradationCause → DegradationInfo → DegradationAction → Type 0)
    (decides : B → BackpressureInfo → BackpressureDecision → Type 0)
    (reader_degrades : D → DegradationCause → DegradationInfo → DegradationAction → Type 0) where
  module _ (types : MessageTypeDetails) (naming : ℕ → Naming) (order : List (ℕ × ServicePorts T U)) (old new : NumberedHub T U B D)
      (state : State T)
      (stands : PortsStandFor choices degrades decides reader_degrades naming order old state) (loan : ℕ)
      (same : new ≡ record old { hub = new.hub })
    where
      abbrev moved : Hub T U B D → NumberedHub T U B D
      moved hub = record old { hub = hub }

      set_by : (place : ℕ) (value : T) (done : Bool) (found : Option MadeLoan) → value_at old.made.loans loan ≡ found
          → done ≡ is_set place (loan_under hub_ports found old.hub)
          → new.hub ≡ (if done then changed_under hub_ports with_hub_ports (set_in place value) found old.hub else old.hub)
          → IsMatched degrades decides reader_degrades types choices naming order old state (command.Set loan place value)
          (done_reply done)
          stands
          new
      set_by place value true None none is changes = absurd (never is)
        where
          never : true ≡ false → ⊥
          never e = cc
      set_by place value false None none is changes = (
        naming,
        order,
        state.services,
        refl,
        at_one_skips (λ (service : Service T). at loan service.loans)
            (WritesSo (λ one. list_all is_some one.values && nat_lt place (length one.values)) (λ one. set one.values place (Some value))
            loan)
            state (no_loan_goes choices degrades decides reader_degrades naming order old state stands loan none),
        same_stands choices degrades decides reader_degrades naming order old state stands loan new changes
            (ap (λ (it : NumberedHub T U B D). it.made) same),
      )
      set_by place value done (Some made) there is changes =
          let goes = loan_goes choices degrades decides reader_degrades naming order old state stands loan made there in
          let id = made.port.domain in
          let out = (lent_slot made).1 in
          let ports = goes.ports in
          let written : ServicePorts T U = set_in place value made.port.number made.slot ports in
          let after : ServicePorts T U = if done then written else ports in
          ports_alone degrades decides reader_degrades types choices naming order old state (command.Set loan place value)
          (done_reply done)
          stands
          new id ports after goes.found
          (same ∙ ap moved (changes ∙ changed_so (set_in place value) made old.hub ports goes.found done))
          (done_counts T done state.made) (out, goes.goes)
          (λ first service last are its.
          let names = naming id.service in
          let lent = those_of id.service (lent_in old.made) in
          let held = those_of id.service (held_in old.made) in
          let buffer = old.hub.expired_connection_buffer in
          let fit : done ≡ fits names lent held buffer ports service loan place value out its goes.mine =
          is ∙ ap (λ (it : Option (ServicePorts T U)). is_set place (loan_there made.port.number made.slot it)) goes.found
          ∙ fits_so names lent held buffer ports service loan place value out its goes.mine in
          subst (λ (it : ServicePorts T U). Matches T U choices types buffer (command.Set loan place value) (done_reply done) state
          service
          names lent held it)
          (set_so names lent held buffer ports service loan place value out its goes.mine
          ∙ ap (λ (b : Bool). if b then written else ports) (sym fit))
          (subst (λ (it : Reply T). Matches T U choices types buffer (command.Set loan place value) it state service names lent held
          (if is_written_loan (loan_in out.publisher out.slot ports) then written else ports))
          (ap done_or_skipped (sym fit) ∙ sym (done_so done))
          (set_matches T U choices types buffer names lent held ports service state loan place value out its goes.mine)))
          (λ services did. writing_alike (λ one. list_all is_some one.values && nat_lt place (length one.values))
          (λ one. set one.values place (Some value)) loan state (answered_with (done_reply done) services state) (done_reply done) did)

      fill_by : (values : List T) (done : Bool) (found : Option MadeLoan) → value_at old.made.loans loan ≡ found
          → done ≡ is_filled hub_ports values found old.hub
          → new.hub ≡ changed_under hub_ports with_hub_ports (filled_in values) found old.hub
          → IsMatched degrades decides reader_degrades types choices naming order old state (command.Fill loan values) (done_reply done)
          stands new
      fill_by values true None none is changes = absurd (never is)
        where
          never : true ≡ false → ⊥
          never e = cc
      fill_by values false None none is changes = (
        naming,
        order,
        state.services,
        refl,
        at_one_skips (λ (service : Service T). at loan service.loans)
            (WritesSo (λ one. length values == length one.values) (λ one. map Some values) loan)
            state (no_loan_goes choices degrades decides reader_degrades naming order old state stands loan none),
        same_stands choices degrades decides reader_degrades naming order old state stands loan new changes
            (ap (λ (it : NumberedHub T U B D). it.made) same),
      )
      fill_by values done (Some made) there is changes =
          let goes = loan_goes choices degrades decides reader_degrades naming order old state stands loan made there in
          let id = made.port.domain in
          let out = (lent_slot made).1 in
          let ports = goes.ports in
          let written : ServicePorts T U = filled_in values made.port.number made.slot ports in
          ports_alone degrades decides reader_degrades types choices naming order old state (command.Fill loan values)
          (done_reply done) stands
          new id ports written goes.found
          (same ∙ ap moved (changes ∙ changed_so (filled_in values) made old.hub ports goes.found true))
          (done_counts T done state.made) (out, goes.goes)
          (λ first service last are its.
          subst (λ (it : Reply T). Matches T U choices types old.hub.expired_connection_buffer (command.Fill loan values) it state
          service
          (naming id.service) (those_of id.service (lent_in old.made)) (those_of id.service (held_in old.made)) written)
          (sym (done_so done ∙ ap done_or_skipped
          (is ∙ ap (λ (it : Option (ServicePorts T U)). fits_in values made.port.number made.slot it) goes.found)))
          (fill_matches T U choices types old.hub.expired_connection_buffer (naming id.service) (those_of id.service (lent_in old.made))
          (those_of id.service (held_in old.made)) ports service state loan values out its goes.mine))
          (λ services did. writing_alike (λ one. length values == length one.values) (λ one. map Some values) loan state
          (answered_with (done_reply done) services state) (done_reply done) did)

  pub set_simulated : SetIsSimulated choices is_default_header degrades decides reader_degrades
  set_simulated loan place value old payload user_header types fixed fixed_reader naming order new state answer stands
      ((done, is, changes, told), same) =
      subst (λ (it : Reply T). IsMatched degrades decides reader_degrades types choices naming order old state (command.Set loan place
      value) it
      stands new) (sym told)
      (set_by types naming order old new state stands loan same place value done (value_at old.made.loans loan) refl is changes)

  pub fill_simulated : FillIsSimulated choices is_default_header degrades decides reader_degrades
  fill_simulated loan values old payload user_header types fixed fixed_reader naming order new state answer stands
      ((done, is, changes, told), same) =
      subst (λ (it : Reply T). IsMatched degrades decides reader_degrades types choices naming order old state
      (command.Fill loan values) it
      stands new) (sym told)
      (fill_by types naming order old new state stands loan same values done (value_at old.made.loans loan) refl is changes)
