-- The send of a loan begins, of a domain and of the machine.
use Rattle.std.proofs.Common.{◌≡◌, ◌≤◌, ◌<◌, ◌+◌, ◌-◌, ◌∷◌, [], ◌++◌, ℕ, Bool, true, false, cond, not, List, length, drop, map, Option}
use Rattle.std.proofs.Common.{None, Some, Result, refl, sym, ap, subst, ◌∙◌, arith}
use Rattle.std.proofs.Math.Logic.{⊎_elim}
use Rattle.std.proofs.lemmas.Bool.{eqb-true}
use Rattle.std.proofs.lemmas.Bool.Decides.{eqb_tells}
use Rattle.std.specs.List.{position_or_len}
use Rattle.std.specs.Prelude.{filter_map, find, option_to_list, slice_get, ◌==◌}
use Rattle.iox_command.specs.DomainValues.declared.backpressure.BackpressureDecision.{BackpressureDecision}
use Rattle.iox_command.specs.DomainValues.declared.backpressure.BackpressureInfo.{BackpressureInfo}
use Rattle.iox_command.specs.DomainValues.declared.port_error.SendError.{SendError}
use Rattle.iox_domain.proofs.DomainSlots.Counts.{one, times_cons, times_one, one_same, one_at_most, one_other}
use Rattle.iox_domain.proofs.Numbered.{at_number, same_set}
use Rattle.iox_domain.specs.DomainPorts.Messages as domain
use Rattle.iox_domain.specs.DomainPorts.Messages.{written_of}
use Rattle.iox_domain.specs.DomainPorts.MessagesSending.{slots_of}
use Rattle.iox_domain.specs.DomainPorts.Ports.{connection_of}
use Rattle.iox_domain.specs.DomainPorts.Progress.{start}
use Rattle.iox_domain.specs.DomainPorts.Sending.{begun_at, begun_by, Finishes}
use Rattle.iox_domain.specs.DomainPorts.declared.attached.Taken.{Taken}
use Rattle.iox_domain.specs.DomainPorts.declared.meeting.Sent.{Sent}
use Rattle.iox_domain.specs.DomainPorts.declared.publisher_port.PublisherPort.{PublisherPort}
use Rattle.iox_domain.specs.DomainSlots.Counting.{times}
use Rattle.iox_domain.specs.DomainSlots.Uses.{Uses, in_use}
use Rattle.iox_domain.specs.DomainSlots.Uses as uses
use Rattle.iox_domain.specs.DomainValues.Sequences.{next_sequence}
use Rattle.iox_domain.specs.declared.ports.service_ports.ServicePorts.{ServicePorts}
use Rattle.iox_domain_machine.specs.Mailboxes.{MailboxesStandFor, times_held}
use Rattle.iox_domain_machine.specs.Naming.{Naming, message_as}
use Rattle.iox_domain_machine.specs.SendLaws.{sent_or_skipped}
use Rattle.iox_domain_machine.specs.Standing.{StandsFor, PublisherIs}
use Rattle.iox_domain_machine.specs.Tables.{LentSlot, LoansStandFor, loan_as}
use Rattle.iox_domain_machine.proofs.Changing.{with_one}
use Rattle.iox_domain_machine.proofs.Dropping as dropping
use Rattle.iox_domain_machine.proofs.Found.{same_some, never_some}
use Rattle.iox_domain_machine.proofs.Kept.{loans_kept}
use Rattle.iox_domain_machine.proofs.LendingFull.{used_is}
use Rattle.iox_domain_machine.proofs.LendingTally.{none_but, some_or_none}
use Rattle.iox_domain_machine.proofs.LendingUses.{held_to}
use Rattle.iox_domain_machine.proofs.Loans.{slots, in_slot, found_behind}
use Rattle.iox_domain_machine.proofs.Removing.{after_one, but, but_less}
use Rattle.iox_domain_machine.proofs.ReleasePort.{used}
use Rattle.iox_domain_machine.proofs.SendBoxes.{fewer_behind, one_more, newest_as}
use Rattle.iox_domain_machine.proofs.SendEnds.{finishes, set_twice}
use Rattle.iox_domain_machine.proofs.SendNames.{named_still}
use Rattle.iox_domain_machine.proofs.SendReady.{IsReadyToSend}
use Rattle.iox_domain_machine.proofs.Writing.{IsThere, is_there, same_values}
use Rattle.iox_machine.specs.Mailbox.{newest}
use Rattle.iox_machine.specs.RunLaws.{sent_as}
use Rattle.iox_machine.specs.Message as machine
use Rattle.iox_machine.specs.PortList.{those}
use Rattle.iox_machine.specs.Sending.{Begins}
use Rattle.iox_machine.specs.Service.{Service, Publisher, Send}
use Rattle.iox_machine.specs.Table.{at, removed}
use Rattle.iox_machine.specs.Choices.{Choices}

-- what is found is at its place, and passes
found_at_by : {X : Type 0} (test : X → Bool) (b : Bool) (first : X) (rest : List X) (found : X) → test first ≡ b
    → (find test rest ≡ Some found → (slice_get rest (position_or_len test rest) ≡ Some found) × (test found ≡ true))
    → cond b (Some first) (find test rest) ≡ Some found
    → (slice_get (first ∷ rest) (cond (not b) (1 + position_or_len test rest) 0) ≡ Some found) × (test found ≡ true)
found_at_by test true first rest found is more it =
    (it, ap test (sym (same_some first found it)) ∙ is)
found_at_by test false first rest found is more it =
    let behind = more it in
    (ap (slice_get (first ∷ rest)) (after_one (position_or_len test rest)) ∙ behind.0, behind.1)

pub found_at : {X : Type 0} (test : X → Bool) (xs : List X) (found : X) → find test xs ≡ Some found
    → (slice_get xs (position_or_len test xs) ≡ Some found) × (test found ≡ true)
found_at test [] found is = never_some found is
found_at test (first ∷ rest) found is = found_at_by test (test first) first rest found refl (found_at test rest found) is

-- the values of a message are those of its loan that are written
pub written_as : {T : Type 0} (values : List (Option T)) → filter_map (λ value. value) values ≡ written_of values
written_as [] = refl
written_as (None ∷ values) = written_as values
written_as (Some value ∷ values) = ap (λ rest. value ∷ rest) (written_as values)

-- a loan that is found in a slot counts there
found_counts : {T U : Type 0} (slot : ℕ) (loans : List (domain.Loan T U)) (found : domain.Loan T U) → in_slot slot loans ≡ Some found
    → 0 < times slot (slots loans)
found_counts slot [] found is = never_some found is
found_counts slot (loan ∷ loans) found is = ⊎_elim
    (λ same. omega (arith, times_cons slot loan.slot (slots loans), ap (one slot) same.1, one_same slot))
    (λ off. omega (
      arith,
      times_cons slot loan.slot (slots loans),
      found_counts slot loans found (sym (found_behind slot loan loans off.0) ∙ is),
    ))
    (eqb_tells loan.slot slot)

module _ {T U : Type 0} (choices : Choices T) (names : Naming) (lent : List (ℕ × LentSlot)) (held : List (ℕ × Taken)) (buffer : ℕ)
    (ports : ServicePorts T U)
    (service : Service T) (loan : ℕ) (out : LentSlot) (stands : StandsFor names lent held buffer ports service)
    (goes : at loan lent ≡ Some out) (may : BackpressureInfo → BackpressureDecision → Type 0) where
  abbrev there : IsThere ports out
  there = is_there names lent held buffer ports service loan out stands goes

  abbrev whose : PublisherPort T U
  whose = there.port

  abbrev name : ℕ
  name = names.publisher out.publisher

  abbrev naming : ℕ → ℕ
  naming = names.message out.publisher

  abbrev was : PublisherIs names ports service out.publisher whose
  was = stands.publishers out.publisher whose there.there

  abbrev place : ℕ
  place = dropping.place names lent held buffer ports service loan out stands goes

  abbrev dropped : PublisherPort T U
  dropped = dropping.after names lent held buffer ports service loan out stands goes

  abbrev message : domain.Message T U
  message = domain.sent_as (next_sequence whose.last_sequence) there.loan

  -- the publisher that began to send
  abbrev begun : PublisherPort T U
  begun = begun_by place (Some there.loan) whose

  -- the message that the machine is handed, and what it makes of it
  abbrev pub message_there : machine.Message T
  message_there = sent_as (loan_as names ports out)

  abbrev numbered_there : machine.Message T
  numbered_there = record message_there { sequence = next_sequence was.0.last_sequence }

  abbrev before : Service T
  before = record service { loans = removed loan service.loans }

  abbrev publisher : Publisher T
  publisher = record was.0 {
    last_sequence = next_sequence was.0.last_sequence;
    history = newest service.settings.history_size (was.0.history ++ numbered_there ∷ []);
  }

  abbrev send : Send T
  send = record {
    message = numbered_there;
    left = those was.0.connected;
    retries = 0;
    elapsed = 0;
    delivered = 0;
    fails = false;
  }

  in_slot_is : there.loan.slot ≡ out.slot
  in_slot_is =
      eqb-true there.loan.slot out.slot
      (found_at (λ (one : domain.Loan T U). one.slot == out.slot) whose.sender.uses.loans there.loan there.found).1

  sequence_is : next_sequence was.0.last_sequence ≡ next_sequence whose.last_sequence
  sequence_is = ap next_sequence was.2.last_sequence

  message_is : numbered_there ≡ message_as naming message
  message_is =
      ap (λ (n : ℕ). record numbered_there { number = n }) (ap naming (sym in_slot_is))
      ∙ ap (λ (sequence : Option ℕ). record numbered_there { number = naming message.slot; sequence = sequence }) sequence_is
      ∙ ap (λ (values : List T). record (message_as naming message) { values = values })
      (ap (filter_map (λ value. value)) (same_values names lent held buffer ports service loan out stands goes)
      ∙ written_as there.loan.values)

  module _ (free : whose.sender.uses.sending ≡ None) where
    abbrev slots_was : Uses ℕ ℕ
    slots_was = slots_of whose.sender

    abbrev slots_now : Uses ℕ ℕ
    slots_now = slots_of begun.sender

    -- the loan has no other use
    lent_counts : 0 < times out.slot slots_was.loans
    lent_counts = found_counts out.slot whose.sender.uses.loans there.loan there.found

    alone : times out.slot (in_use slots_was) ≡ 1
    alone = was.2.named.sole out.slot lent_counts

    nowhere_else : (times out.slot slots_was.loans ≡ 1) × (times out.slot slots_was.history ≡ 0)
        × (times out.slot (uses.held slots_was.connections) ≡ 0)
    nowhere_else =
        let whole = used_is whose out.slot free in
        (omega (arith, lent_counts, alone, whole), omega (arith, lent_counts, alone, whole), omega (arith, lent_counts, alone, whole))

    -- what is lent then
    lent_now : slots_now.loans ≡ but out.slot slots_was.loans
    lent_now = dropping.fewer names lent held buffer ports service loan out stands goes

    lent_less : (slot : ℕ) → times slot slots_now.loans ≤ times slot slots_was.loans
    lent_less slot = subst (λ (all : List ℕ). times slot all ≤ times slot slots_was.loans) (sym lent_now)
        (but_less out.slot slot slots_was.loans)

    lent_no_longer : times out.slot slots_now.loans ≡ 0
    lent_no_longer = ap (times out.slot) lent_now ∙ none_but out.slot slots_was.loans

    sent_now : (slot : ℕ) → times slot (option_to_list slots_now.sending) ≡ one slot out.slot
    sent_now slot = times_one slot message.slot ∙ ap (one slot) in_slot_is

    history_less : (slot : ℕ) → times slot slots_now.history ≤ times slot slots_was.history + one slot out.slot
    history_less slot =
        let all = whose.sender.uses.history ++ message ∷ [] in
        let fewer = fewer_behind message (length all - whose.sender.uses.kept) slot all in
        omega (arith, fewer, one_more message slot whose.sender.uses.history, ap (one slot) in_slot_is)

    used_then : (slot : ℕ) → 0 < times slot (in_use slots_now) → 0 < times slot (in_use slots_was)
    used_then slot some = ⊎_elim
        (λ same. omega (arith, alone, ap (λ n. times n (in_use slots_was)) same.1))
        (λ off. omega (
          arith,
          some,
          used slot slots_now,
          used_is whose slot free,
          sent_now slot,
          lent_less slot,
          history_less slot,
          one_other slot out.slot off.0,
        ))
        (eqb_tells slot out.slot)

    sole : (slot : ℕ) → 0 < times slot slots_now.loans → times slot (in_use slots_now) ≡ 1
    sole slot some = ⊎_elim
        (λ same. absurd (omega (arith, some, lent_no_longer, ap (λ n. times n slots_now.loans) same.1)))
        (λ off.
        let before_it = was.2.named.sole slot (omega (arith, some, lent_less slot)) in
        omega (
          arith,
          some,
          before_it,
          used slot slots_now,
          used_is whose slot free,
          sent_now slot,
          lent_less slot,
          history_less slot,
          one_other slot out.slot off.0,
        ))
        (eqb_tells slot out.slot)

    once : (slot : ℕ) → times slot slots_now.history ≤ 1
    once slot = ⊎_elim
        (λ same. omega (
          arith,
          history_less slot,
          nowhere_else.1,
          one_at_most slot out.slot,
          ap (λ n. times n slots_was.history) same.1,
        ))
        (λ off. omega (arith, history_less slot, was.2.once slot, one_other slot out.slot off.0))
        (eqb_tells slot out.slot)

    module _ (standing : whose.stands ≡ true) (ready : IsReadyToSend choices may (names.reader out.publisher) name was.0 service whose)
        (within : (index : ℕ) → length (connection_of index whose).waiting ≤ (connection_of index whose).limit) where
      history_is : publisher.history ≡ map (message_as naming) begun.sender.uses.history
      history_is =
          ap (λ (history : List (machine.Message T)). newest service.settings.history_size (history ++ numbered_there ∷ [])) was.2.history
          ∙ ap (λ one. newest service.settings.history_size (map (message_as naming) whose.sender.uses.history ++ one ∷ [])) message_is
          ∙ newest_as naming message service.settings.history_size whose.sender.uses.history
          ∙ ap (λ size. map (message_as naming) (drop (length (whose.sender.uses.history ++ message ∷ []) - size)
          (whose.sender.uses.history ++ message ∷ []))) (sym ready.keeps)

      not_held : (index : ℕ) → times_held message.slot index whose ≡ 0
      not_held index = some_or_none (times_held message.slot index whose)
          (λ some. absurd (omega (
            arith,
            held_to message.slot index whose.sender.uses.connections some,
            nowhere_else.2,
            ap (λ n. times n (uses.held slots_was.connections)) in_slot_is,
          )))
          (λ none. none)

      boxes_begun : MailboxesStandFor naming (names.reader out.publisher) names.subscriber begun (service.mailboxes name)
          service.subscribers
      boxes_begun = record {
        live = was.3.live;
        ended = was.3.ended;
        quiet = was.3.quiet;
        others = was.3.others;
        none = was.3.none;
        known = was.3.known;
        apart = was.3.apart;
        led = was.3.led;
        read = was.3.read;
        heard = was.3.heard;
        unmet = was.3.unmet;
        once = was.3.once;
        due = λ one is at_place index later tied.
            ap (λ (it : domain.Message T U). times_held it.slot index whose) (sym (same_some message one is)) ∙ not_held index;
      }

      loans_begun : LoansStandFor names (with_one out.publisher begun ports) (removed loan lent) (removed loan service.loans)
      loans_begun =
          subst (λ publishers. LoansStandFor names (record ports { publishers = publishers }) (removed loan lent)
          (removed loan service.loans))
          (set_twice (at_number out.publisher) ports.publishers dropped begun)
          (loans_kept out.publisher dropped begun (with_one out.publisher dropped ports)
          (same_set (at_number out.publisher) ports.publishers dropped whose there.there) names (removed loan lent)
          (removed loan service.loans) refl
          (dropping.loans_after names lent held buffer ports service loan out stands goes))

      -- The send of a loan goes through all places, in the domain and in the machine.
      abbrev pub BeginsAlike : Result Sent SendError → PublisherPort T U → Type 0
      BeginsAlike answer after =
          (new : Service T) × Begins choices name message_there was.0 before (sent_or_skipped (Some answer)) new
          × StandsFor names (removed loan lent) held buffer (with_one out.publisher after ports) new × (after.stands ≡ true)

      pub begins : (answer : Result Sent SendError) (after : PublisherPort T U) → Finishes may (begun_at place whose) answer after
          → BeginsAlike answer after
      begins answer after goes_on =
          finishes choices names lent (removed loan lent) held buffer ports service out.publisher whose stands there.there start
          begun.last_sequence publisher.last_sequence begun.sender.uses.loans begun.sender.uses.history publisher.history
          (removed loan service.loans) message send may standing sequence_is history_is once
          (named_still naming slots_was slots_now was.0.first was.0.next refl refl used_then sole was.2.named)
          (record {
            carries = message_is;
            left = refl;
            delivered = refl;
            fails = refl;
            retries = omega arith;
            elapsed = refl;
            untried = λ nobody. (refl, refl);
          })
          boxes_begun within
          (record {
            overflows = ready.overflows;
            keeps = ready.keeps;
            apart = ready.apart;
            live = ready.live;
            readers = ready.readers;
            decides = ready.decides;
          })
          loans_begun answer after
          (subst (λ (found : Option (domain.Loan T U)). Finishes may (begun_by place found whose) answer after)
          (found_at (λ (one : domain.Loan T U). one.slot == out.slot) whose.sender.uses.loans there.loan there.found).0 goes_on)
