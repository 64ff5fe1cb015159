-- The headers of messages in use say what was reported when their sends began.
use Rattle.std.proofs.Common.{◌≡◌, ◌≢◌, ◌⊎◌, ◌<◌, ◌≤◌, ◌+◌, ◌==◌, ◌&&◌, ◌∷◌, [], ◌++◌, ℕ, Bool, true, false, cond, if◌then◌else◌, List}
use Rattle.std.proofs.Common.{map, Option, None, Some, Result, Ok, Err, Equal, refl, sym, ap, subst, inl, inr, ◌∙◌, All, Contains}
use Rattle.std.proofs.Common.{arith}
use Rattle.std.proofs.Common.{append_assoc, find, is_eq, is_some, get_or}
use Rattle.std.proofs.lemmas.Bool.{cases_eq, eq-eqb, eqb-true, ne_eqb}
use Rattle.std.proofs.lemmas.List.Elements.{All-cons, All-head, All-nil, All-tail, All-weaker, Contains-append_left}
use Rattle.std.proofs.lemmas.List.Elements.{Contains-append_right}
use Rattle.std.proofs.lemmas.List.{map-append}
use Rattle.std.specs.Cmp.{nat_cmp_is}
use Rattle.std.specs.Map.{keys_of, lookup}
use Rattle.std.specs.Option.{option_map_or}
use Rattle.std.specs.Prelude.{option_and_then}
use Rattle.iox_domain.proofs.DomainPorts.Lent.{loan_tells}
use Rattle.iox_domain.proofs.DomainSlots.Counts.{one, one_same, times_append, times_cons}
use Rattle.iox_domain.proofs.Numbered.{at_number, bool_false, found_of_all, number_is}
use Rattle.iox_domain.specs.Calls.{AsksForSamples, GivesLoanUp, GivesSendUp, Happens, Lends, PortCall, PublisherComes, PublisherLeaves}
use Rattle.iox_domain.specs.Calls.{PublisherUpdates, Receives, Releases, Retries, Sends, SubscriberComes, SubscriberLeaves}
use Rattle.iox_domain.specs.Calls.{SubscriberUpdates, Writes}
use Rattle.iox_domain.specs.DescribeBase.declared.header.Header.{Header}
use Rattle.iox_domain.specs.DomainPorts.Messages.{Loan, Message, sent_as}
use Rattle.iox_domain.specs.DomainPorts.MessagesSending.{slots_of}
use Rattle.iox_domain.specs.DomainPorts.Ports.{connection_of}
use Rattle.iox_domain.specs.DomainPorts.Publishers.{port_of}
use Rattle.iox_domain.specs.DomainPorts.Writing.{loan_of}
use Rattle.iox_domain.specs.DomainPorts.declared.attached.Taken.{Taken}
use Rattle.iox_domain.specs.DomainPorts.declared.meeting.Sent.{Sent}
use Rattle.iox_domain.specs.DomainPorts.declared.publisher_port.PublisherPort.{PublisherPort}
use Rattle.iox_domain.specs.DomainSlots.Counting.{times}
use Rattle.iox_domain.specs.DomainSlots.Uses.{held_by, in_use}
use Rattle.iox_domain.specs.DomainValues.Sequences.{next_sequence}
use Rattle.iox_domain.specs.DomainValues.declared.backpressure.BackpressureDecision.{BackpressureDecision}
use Rattle.iox_domain.specs.DomainValues.declared.backpressure.BackpressureInfo.{BackpressureInfo}
use Rattle.iox_domain.specs.DomainValues.declared.create_error.PublisherCreateError.{PublisherCreateError}
use Rattle.iox_domain.specs.DomainValues.declared.degradation.DegradationAction.{DegradationAction}
use Rattle.iox_domain.specs.DomainValues.declared.degradation.DegradationInfo.{DegradationInfo}
use Rattle.iox_domain.specs.DomainValues.declared.port_error.LoanError.{LoanError}
use Rattle.iox_domain.specs.DomainValues.declared.port_error.SendError.{SendError}
use Rattle.iox_domain.specs.Lending as lending
use Rattle.iox_domain.specs.Lending.{LoansOne, loan_at_port, loan_in}
use Rattle.iox_domain.specs.Order.{Happen, has_begun, message_of, sent_by, sequence_at_port, sequence_in}
use Rattle.iox_domain.specs.Ports.{AtPublisher}
use Rattle.iox_domain.specs.Reading.{header_in, header_of, sample_in, sample_at_port}
use Rattle.iox_domain.specs.Steps.{LoansBy}
use Rattle.iox_domain.specs.Tries.{how_often}
use Rattle.iox_domain.specs.declared.ports.service_ports.ServicePorts.{ServicePorts}
use Rattle.iox_domain_machine.specs.ComingPublisherLaws.{with_publisher_came}
use Rattle.iox_domain_machine.specs.LendingLaws.{with_lent_name}
use Rattle.iox_domain_machine.specs.Naming.{Naming, message_as, with_name}
use Rattle.iox_domain_machine.specs.SentHeaders.{AreStillNamed, EachInUse, NamesStay, ReadsAsSent, SentHeader, TellAsSent}
use Rattle.iox_domain_machine.specs.SentHeaders.{headed_as_sent, headed_at_port, headed_by, headed_in, own_numbers}
use Rattle.iox_domain_machine.specs.Standing.{StandsFor}
use Rattle.iox_domain_machine.specs.Tables.{LentSlot, sample_as}
use Rattle.iox_domain_machine.proofs.Found.{never_some, same_some}
use Rattle.iox_domain_machine.proofs.Headers.{header_by}
use Rattle.iox_domain_machine.proofs.LendingFull.{used_is}
use Rattle.iox_domain_machine.proofs.LendingNames.{named_other}
use Rattle.iox_domain_machine.proofs.LendingTally.{some_or_none}
use Rattle.iox_domain_machine.proofs.LendingUses.{held_to, message_slots}
use Rattle.iox_domain_machine.proofs.ListsInUse.{BegunPasses, calls_go}
use Rattle.iox_domain_machine.proofs.Reading.{message_there, sample_there}
use Rattle.iox_domain_machine.proofs.Settling.{none_found}
use Rattle.iox_machine.specs.Message as machine
use Rattle.iox_machine.specs.Message.{Sample}
use Rattle.iox_machine.specs.Service.{Service}
use Rattle.iox_machine.specs.Table.{at}

-- ---- messages in use

module _ {T U : Type 0} (port : PublisherPort T U) where
  each_then : (A B : Message T U → Type 0) → ((message : Message T U) → A message → B message) → EachInUse A port → EachInUse B port
  each_then A B follows each = (
    λ message sends. follows message (each.0 message sends),
    All-weaker A B follows port.sender.uses.history each.1,
    λ index. (
      All-weaker A B follows (connection_of index port).waiting (each.2 index).0,
      All-weaker A B follows (connection_of index port).borrowed (each.2 index).1,
    ),
  )

  all_both : (A B C : Message T U → Type 0) → ((message : Message T U) → A message → B message → C message)
      → (messages : List (Message T U)) → All A messages → All B messages → All C messages
  all_both A B C follows messages one other = λ k d below. follows _ (one k d below) (other k d below)

  each_both : (A B C : Message T U → Type 0) → ((message : Message T U) → A message → B message → C message) → EachInUse A port
      → EachInUse B port → EachInUse C port
  each_both A B C follows one other = (
    λ message sends. follows message (one.0 message sends) (other.0 message sends),
    all_both A B C follows port.sender.uses.history one.1 other.1,
    λ index. (
      all_both A B C follows (connection_of index port).waiting (one.2 index).0 (other.2 index).0,
      all_both A B C follows (connection_of index port).borrowed (one.2 index).1 (other.2 index).1,
    ),
  )

  each_so : (A : Message T U → Type 0) → ((message : Message T U) → A message) → EachInUse A port
  each_so A so = (λ message sends. so message, λ k d below. so _, λ index. (λ k d below. so _, λ k d below. so _))

  -- none of them is in a slot that nothing uses
  apart_all : (slot : ℕ) (messages : List (Message T U)) → times slot (message_slots messages) ≡ 0
      → All (λ (message : Message T U). message.slot ≢ slot) messages
  apart_all slot [] none = All-nil _
  apart_all slot (message ∷ more) none =
      let cons = times_cons slot message.slot (message_slots more) in
      All-cons (λ (one : Message T U). one.slot ≢ slot) message more
      (λ same. absurd (let here = ap (λ n. one slot n) same ∙ one_same slot in omega (arith, none, cons, here)))
      (apart_all slot more (omega (arith, none, cons)))

  each_apart : (slot : ℕ) → port.sender.uses.sending ≡ None → times slot (in_use (slots_of port.sender)) ≡ 0
      → EachInUse (λ (message : Message T U). message.slot ≢ slot) port
  each_apart slot free unused = (
    λ message sends. never_some message (sym free ∙ sends),
    apart_all slot port.sender.uses.history (omega (arith, unused, used_is port slot free)),
    λ index. (
      apart_all slot (connection_of index port).waiting (omega (arith, not_held index, both index, sum index)),
      apart_all slot (connection_of index port).borrowed (omega (arith, not_held index, both index, sum index)),
    ),
  )
    where
      not_held : (index : ℕ) → times slot (message_slots (held_by (connection_of index port))) ≡ 0
      not_held index = some_or_none (times slot (message_slots (held_by (connection_of index port))))
          (λ some. let there = held_to slot index port.sender.uses.connections some in
          absurd (omega (arith, there, unused, used_is port slot free)))
          (λ none. none)

      both : (index : ℕ) → times slot (message_slots (held_by (connection_of index port)))
          ≡ times slot (message_slots (connection_of index port).waiting ++ message_slots (connection_of index port).borrowed)
      both index = ap (times slot)
          (map-append (λ (message : Message T U). message.slot) (connection_of index port).waiting (connection_of index port).borrowed)

      sum : (index : ℕ) → times slot (message_slots (connection_of index port).waiting ++ message_slots (connection_of index port).borrowed)
          ≡ times slot (message_slots (connection_of index port).waiting) + times slot (message_slots (connection_of index port).borrowed)
      sum index = times_append slot (message_slots (connection_of index port).waiting) (message_slots (connection_of index port).borrowed)

-- ---- tables

own_number : (number : ℕ) → at_number number number ≡ true
own_number number = ap is_eq (sym (nat_cmp_is number number Equal refl))

-- what is found goes by a number
found_often : {X : Type 0} (number : ℕ) (entries : List (ℕ × X)) (x : X) → lookup (at_number number) entries ≡ Some x
    → 0 < how_often number (keys_of entries)
found_often number entries x is = some_or_none (how_often number (keys_of entries)) (λ some. some)
    (λ none. never_some x (sym (none_found number entries none) ∙ is))

-- what holds of each entry that is found holds of all, where no number comes twice
each_found : {X : Type 0} (Q : ℕ × X → Type 0) (entries : List (ℕ × X)) → ((number : ℕ) → how_often number (keys_of entries) ≤ 1)
    → ((number : ℕ) (x : X) → lookup (at_number number) entries ≡ Some x → Q (number, x)) → All Q entries
each_found Q [] once each = All-nil Q
each_found {X} Q (entry ∷ more) once each =
    All-cons Q entry more
    (each entry.0 entry.1 (ap (λ b. cond b (Some entry.1) (lookup (at_number entry.0) more)) (own_number entry.0)))
    (each_found Q more (λ number. let all = once number in omega (arith, all))
    (λ number x is. each number x (ap (λ b. cond b (Some entry.1) (lookup (at_number number) more)) (other number x is) ∙ is)))
  where
    other : (number : ℕ) (x : X) → lookup (at_number number) more ≡ Some x → at_number number entry.0 ≡ false
    other number x is = bool_false (at_number number entry.0)
        (λ passes.
        let counted : ◌≡◌ {A = ℕ} (if number == entry.0 then 1 else 0) 1
        = ap (λ b. if b then 1 else 0) (eq-eqb number entry.0 (number_is number entry.0 passes)) in
        let all = once number in
        let there = found_often number more x is in
        absurd (omega (arith, all, there, counted)))

-- ---- names that stay

-- at one publisher names stay for what is in use
abbrev IsStillNamed : {T U : Type 0} → Naming → Naming → ℕ × PublisherPort T U → Type 0
IsStillNamed names names_then entry =
    (names_then.publisher entry.1.number ≡ names.publisher entry.1.number)
    × EachInUse (λ message. names_then.message entry.1.number message.slot ≡ names.message entry.1.number message.slot) entry.1

pub others_stay : {T U : Type 0} (names names_then : Naming) (ports : ServicePorts T U) → names_then.publisher ≡ names.publisher
    → names_then.message ≡ names.message → AreStillNamed names names_then ports
others_stay names names_then ports publishers messages = λ k d below. (
  ap (λ (name : ℕ → ℕ). name (get_or ports.publishers k d).1.number) publishers,
  each_so (get_or ports.publishers k d).1 _
      (λ message. ap (λ (name : ℕ → ℕ → ℕ). name (get_or ports.publishers k d).1.number message.slot) messages),
)

module _ {T U : Type 0} (names : Naming) (lent : List (ℕ × LentSlot)) (held : List (ℕ × Taken)) (buffer : ℕ) (ports : ServicePorts T U)
    (service : Service T) (stands : StandsFor names lent held buffer ports service) where
  -- a loan that is made is in a slot that nothing used
  lent_apart : (number values elements slot : ℕ) (new : ServicePorts T U) (port : PublisherPort T U)
      → port_of number ports.publishers ≡ Some port → LoansBy number values elements ports (Some (Ok slot)) new
      → EachInUse (λ (message : Message T U). message.slot ≢ slot) port
  lent_apart number values elements slot new port there call =
      let (after, loans, is) = subst (λ (found : Option (PublisherPort T U)). AtPublisher number (LoansOne values elements) found ports
      (Some (Ok slot)) new) there call in
      by_standing port.stands after loans
    where
      by_standing : (standing : Bool) (after : PublisherPort T U)
          → lending.LoansIf standing values elements port (Some (Ok slot)) after
          → EachInUse (λ (message : Message T U). message.slot ≢ slot) port
      by_standing false after loans = never_some (Ok slot) (sym loans.0)
      by_standing true after loans =
          let tells = loan_tells port.allocation values elements port after (Some (Ok slot)) loans in
          each_apart port slot tells.0 tells.2.free

  pub lends_stays : (number values elements name : ℕ) (answer : Option (Result ℕ LoanError)) (new : ServicePorts T U)
      → LoansBy number values elements ports answer new → AreStillNamed names (with_lent_name number name answer names) ports
  lends_stays number values elements name None new call = others_stay names names ports refl refl
  lends_stays number values elements name (Some (Err why)) new call = others_stay names names ports refl refl
  lends_stays number values elements name (Some (Ok slot)) new call =
      each_found (IsStillNamed names (with_lent_name number name (Some (Ok slot)) names)) ports.publishers stands.once
      (λ key port there. (refl, by_number port (stands.numbered key port there) there (cases_eq port.number number)))
    where
      by_number : {key : ℕ} (port : PublisherPort T U) → port.number ≡ key → port_of key ports.publishers ≡ Some port
          → (port.number ≡ number) ⊎ (port.number ≢ number)
          → EachInUse (λ message.
          with_name number (with_name slot name (names.message number)) names.message port.number message.slot
          ≡ names.message port.number message.slot) port
      by_number port numbered there (inr off) = each_so port _
          (λ message.
          ap (λ (b : Bool). (cond b (with_name slot name (names.message number)) (names.message port.number)) message.slot)
          (ne_eqb port.number number off))
      by_number port numbered there (inl same) =
          each_then port (λ message. message.slot ≢ slot) _
          (λ message apart.
          ap (λ (b : Bool). (cond b (with_name slot name (names.message number)) (names.message port.number)) message.slot)
          (eq-eqb port.number number same)
          ∙ named_other slot name (names.message number) message.slot apart ∙ ap (λ n. names.message n message.slot) (sym same))
          (lent_apart number values elements slot new port
          (ap (λ n. port_of n ports.publishers) (sym same ∙ numbered) ∙ there) call)

  comes_stays : (name : ℕ) (answer : Result ℕ PublisherCreateError)
      → AreStillNamed names (with_publisher_came ports.next_port name answer names) ports
  comes_stays name (Err why) = others_stay names names ports refl refl
  comes_stays name (Ok came) =
      each_found (IsStillNamed names (with_publisher_came ports.next_port name (Ok came) names)) ports.publishers stands.once
      (λ key port there. (
        ap (λ (b : Bool). cond b name (names.publisher port.number)) (ne_eqb port.number ports.next_port (not_next key port there)),
        each_so port _ (λ message. refl),
      ))
    where
      not_next : (key : ℕ) (port : PublisherPort T U) → port_of key ports.publishers ≡ Some port → port.number ≢ ports.next_port
      not_next key port there same =
          let was = stands.publishers key port there in
          let known = stands.named_publishers.each (names.publisher key) (ap is_some was.1) in
          known.2 (sym (ap names.publisher (stands.numbered key port there)) ∙ (stands.unnamed port.number (omega (arith, same))).0)

pub names_stay : (T U : Type 0) → NamesStay T U
names_stay T U = record {
  others = others_stay;
  lends = λ names lent held buffer old new service number values elements name answer stands call.
      lends_stays names lent held buffer old service stands number values elements name answer new call;
  comes = λ names lent held buffer ports service name answer stands.
      comes_stays names lent held buffer ports service stands name answer;
}

-- ---- what is told

module _ {T U : Type 0} where
  -- what messages in use of a publisher tell is among what was told
  abbrev pub TellsSo : Naming → List (SentHeader T U) → ℕ × PublisherPort T U → Type 0
  TellsSo names sent entry = EachInUse (λ message. Contains sent (headed_by names (header_of entry.1 message) message)) entry.1

  -- it is what is told by other names, if these are the same
  named_so : (names names_then : Naming) (header : Header) (message : Message T U)
      → names_then.publisher header.publisher_id ≡ names.publisher header.publisher_id
      → names_then.message header.publisher_id message.slot ≡ names.message header.publisher_id message.slot
      → headed_by names header message ≡ headed_by names_then header message
  named_so names names_then header message publisher number =
      ap (λ (n : ℕ). record {
        publisher = n;
        message = message_as (names.message header.publisher_id) message;
        header = header;
        user_header = message.user_header;
      }) (sym publisher)
      ∙ ap (λ (n : ℕ). record {
        publisher = names_then.publisher header.publisher_id;
        message = record { number = n; sequence = message.sequence; values = message.values };
        header = header;
        user_header = message.user_header;
      }) (sym number)

  pub renamed : (names names_then : Naming) (sent : List (SentHeader T U)) (ports : ServicePorts T U) → AreStillNamed names names_then ports
      → TellAsSent names sent ports → TellAsSent names_then sent ports
  renamed names names_then sent ports still tell = λ k d below.
      let port = (get_or ports.publishers k d).1 in
      let named = still k d below in
      each_both port _ _ _
      (λ message same told. subst (Contains sent) (named_so names names_then (header_of port message) message named.0 same) told)
      named.1 (tell k d below)

  pub longer : (names : Naming) (sent more : List (SentHeader T U)) (ports : ServicePorts T U) → TellAsSent names sent ports
      → TellAsSent names (sent ++ more) ports
  longer names sent more ports tell = λ k d below.
      each_then (get_or ports.publishers k d).1 _ _ (λ message told. Contains-append_left sent more _ told) (tell k d below)

  -- what a send makes of its loan
  sent_is : (number slot : ℕ) (answer : Option (Result Sent SendError)) (old : ServicePorts T U) (port : PublisherPort T U)
      (loan : Loan T U) → port_of number old.publishers ≡ Some port → has_begun answer ≡ true → loan_of slot port ≡ Some loan
      → sent_by number (Sends number slot answer) old ≡ sent_as (next_sequence port.last_sequence) loan ∷ []
  sent_is number slot answer old port loan there on is =
      ap (λ b. if b && has_begun answer then message_of (sequence_in number old) (loan_in number slot old) else [])
      (eq-eqb number number refl)
      ∙ ap (λ b. if b then message_of (sequence_in number old) (loan_in number slot old) else []) on
      ∙ ap (λ (found : Option (PublisherPort T U)). message_of (sequence_at_port found) (loan_at_port slot found)) there
      ∙ ap (λ (found : Option (Loan T U)). message_of (next_sequence port.last_sequence) found) is

  pub headed_is : (names : Naming) (number slot : ℕ) (answer : Option (Result Sent SendError)) (old : ServicePorts T U)
      (port : PublisherPort T U) (loan : Loan T U) → port_of number old.publishers ≡ Some port → has_begun answer ≡ true
      → loan_of slot port ≡ Some loan
      → headed_as_sent names (Sends number slot answer) old
      ≡ headed_by names (header_of port (sent_as (next_sequence port.last_sequence) loan)) (sent_as (next_sequence port.last_sequence) loan)
      ∷ []
  headed_is names number slot answer old port loan there on is =
      ap (λ (found : Option (PublisherPort T U)). headed_at_port names found (sent_by number (Sends number slot answer) old)) there
      ∙ ap (λ (messages : List (Message T U)). map (λ message. headed_by names (header_of port message) message) messages)
      (sent_is number slot answer old port loan there on is)

  abbrev pub Among : Naming → List (SentHeader T U) → Header → Message T U → Type 0
  Among names sent header message = Contains sent (headed_by names header message)

  begun_among : (names : Naming) (sent : List (SentHeader T U)) (call : PortCall T U) (old : ServicePorts T U)
      → BegunPasses (Among names (sent ++ headed_as_sent names call old)) call old
  begun_among names sent (Sends number slot answer) old = λ port there on loan is.
      let message = sent_as (next_sequence port.last_sequence) loan in
      Contains-append_right sent (headed_as_sent names (Sends number slot answer) old) (headed_by names (header_of port message) message)
      (subst (λ (told : List (SentHeader T U)). Contains told (headed_by names (header_of port message) message))
      (sym (headed_is names number slot answer old port loan there on is)) (0, omega arith, refl))
  begun_among names sent (PublisherComes config user_header answer) old = tt
  begun_among names sent (SubscriberComes owner buffer_size answer) old = tt
  begun_among names sent (Lends number values elements answer) old = tt
  begun_among names sent (Writes number slot test change) old = tt
  begun_among names sent (GivesLoanUp number slot) old = tt
  begun_among names sent (PublisherUpdates number answer) old = tt
  begun_among names sent (Retries number elapsed answer) old = tt
  begun_among names sent (GivesSendUp number answer) old = tt
  begun_among names sent (PublisherLeaves number answer) old = tt
  begun_among names sent (SubscriberUpdates number answer) old = tt
  begun_among names sent (AsksForSamples number answer) old = tt
  begun_among names sent (Receives number answer) old = tt
  begun_among names sent (Releases number given answer) old = tt
  begun_among names sent (SubscriberLeaves number answer) old = tt

  pub headers_go_on : (overrides : ℕ → ℕ → Type 0) (may : DegradationInfo → DegradationAction → Type 0)
      (decide : BackpressureInfo → BackpressureDecision → Type 0) (names names_then : Naming) (sent : List (SentHeader T U))
      (call : PortCall T U) (old new : ServicePorts T U) → Happens overrides may decide call old new → AreStillNamed names names_then old
      → TellAsSent names sent old → TellAsSent names_then (sent ++ headed_as_sent names_then call old) new
  headers_go_on overrides may decide names names_then sent call old new happens still tell =
      calls_go (Among names_then (sent ++ headed_as_sent names_then call old)) overrides may decide call old new happens
      (begun_among names_then sent call old)
      (longer names_then sent (headed_as_sent names_then call old) old (renamed names names_then sent old still tell))

  -- so it is through any calls
  pub headers_through : (overrides : ℕ → ℕ → Type 0) (may : DegradationInfo → DegradationAction → Type 0)
      (decide : BackpressureInfo → BackpressureDecision → Type 0) (sent : List (SentHeader T U))
      (calls : List (PortCall T U × ServicePorts T U)) (old new : ServicePorts T U) → Happen overrides may decide calls old new
      → TellAsSent own_numbers sent old → TellAsSent own_numbers (sent ++ headed_in calls old) new
  headers_through overrides may decide sent [] old new happen tell =
      subst (λ (ports : ServicePorts T U). TellAsSent own_numbers (sent ++ []) ports) (sym happen) (longer own_numbers sent [] old tell)
  headers_through overrides may decide sent ((call, next) ∷ calls) old new happen tell =
      subst (λ (told : List (SentHeader T U)). TellAsSent own_numbers told new)
      (append_assoc sent (headed_as_sent own_numbers call old) (headed_in calls next))
      (headers_through overrides may decide (sent ++ headed_as_sent own_numbers call old) calls next new happen.1
      (headers_go_on overrides may decide own_numbers own_numbers sent call old next happen.0
      (others_stay own_numbers own_numbers old refl refl) tell))

  -- ---- what a sample reads

  found_by : (A : Message T U → Type 0) (test : Message T U → Bool) (b : Bool) (one message : Message T U) (more : Option (Message T U))
      → test one ≡ b → A one → (more ≡ Some message → A message × (test message ≡ true)) → cond b (Some one) more ≡ Some message
      → A message × (test message ≡ true)
  found_by A test true one message more passes here rest is =
      let same = same_some one message is in
      (subst A same here, ap test (sym same) ∙ passes)
  found_by A test false one message more passes here rest is = rest is

  -- what holds of each message holds of the one that is found, and it passes the test
  found_holds : (A : Message T U → Type 0) (test : Message T U → Bool) (messages : List (Message T U)) (message : Message T U)
      → All A messages → find test messages ≡ Some message → A message × (test message ≡ true)
  found_holds A test [] message all is = never_some message is
  found_holds A test (one ∷ more) message all is =
      found_by A test (test one) one message (find test more) refl (All-head A one more all)
      (λ rest. found_holds A test more message (All-tail A one more all) rest) is

  -- What is read of a sample was reported when it was sent: its header and its user header, of a message that was in its slot.
  pub record IsTold (names : Naming) (sent : List (SentHeader T U)) (ports : ServicePorts T U) (taken : Taken) (message : Message T U)
      : Type 0 where
    pub port : PublisherPort T U
    pub there : port_of taken.publisher ports.publishers ≡ Some port
    pub header : header_in taken ports ≡ Some (header_of port message)
    pub among : Contains sent (headed_by names (header_of port message) message)
    pub slot : message.slot ≡ taken.slot

  pub is_told : (names : Naming) (sent : List (SentHeader T U)) (ports : ServicePorts T U) (taken : Taken) (message : Message T U)
      → TellAsSent names sent ports → sample_in taken ports ≡ Some message → IsTold names sent ports taken message
  is_told names sent ports taken message tell is =
      let (port, there, found) = header_by taken message (port_of taken.publisher ports.publishers) is in
      let each = (found_of_all (TellsSo names sent) (at_number taken.publisher) ports.publishers port tell there).holds in
      let here : sample_at_port taken (Some port) ≡ Some message
      = ap (λ (one : Option (PublisherPort T U)). sample_at_port taken one) (sym there) ∙ is in
      let holds = found_holds (λ one. Contains sent (headed_by names (header_of port one) one)) (λ one. one.slot == taken.slot)
      (connection_of taken.index port).borrowed message (each.2 taken.index).1 here in
      record {
        port = port;
        there = there;
        header = found;
        among = holds.0;
        slot = eqb-true message.slot taken.slot holds.1;
      }

  pub reads_so : (names : Naming) (lent : List (ℕ × LentSlot)) (held : List (ℕ × Taken)) (buffer : ℕ) (ports : ServicePorts T U)
      (service : Service T) (sent : List (SentHeader T U)) (number : ℕ) (taken : Taken)
      → StandsFor names lent held buffer ports service → TellAsSent names sent ports → at number held ≡ Some taken
      → (sample : Sample T) × (at number service.samples ≡ Some sample) × ReadsAsSent sent ports taken sample
  reads_so names lent held buffer ports service sent number taken stands tell held_there =
      let (message, is) = message_there names lent held buffer ports service number taken stands held_there in
      let told = is_told names sent ports taken message tell is in
      let own : told.port.number ≡ taken.publisher = stands.numbered taken.publisher told.port told.there in
      let by_number : ℕ → machine.Message T = λ n. record { number = n; sequence = message.sequence; values = message.values } in (
        sample_as names ports taken,
        sample_there names lent held buffer ports service number taken stands held_there,
        record {
          told = headed_by names (header_of told.port message) message;
          among = told.among;
          publisher = ap names.publisher own;
          message =
              ap by_number (ap (λ n. names.message n message.slot) own ∙ ap (λ slot. names.message taken.publisher slot) told.slot)
              ∙ sym (ap (λ (one : Option (Message T U)). record {
                number = names.message taken.publisher taken.slot;
                sequence = option_and_then (λ (it : Message T U). it.sequence) one;
                values = option_map_or (λ (it : Message T U). it.values) one [];
              }) is);
          header = told.header;
          read = message;
          found = is;
          user_header = refl;
        },
      )
