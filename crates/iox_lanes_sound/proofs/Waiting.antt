-- Any calls of a domain leave the sequence numbers of what waits going up.
use Rattle.std.proofs.Common.{ℕ, zero, suc, ◌≡◌, ◌+◌, ◌<◌, ◌≤◌, ◌==◌, ◌&&◌, Bool, true, false, if◌then◌else◌, List, [], ◌∷◌, ◌++◌, map}
use Rattle.std.proofs.Common.{unwrap_or, Option, Some, None, refl, sym, ◌∙◌, ap, subst, inl, inr, arith}
use Rattle.std.proofs.lemmas.List.{map-append}
use Rattle.iox_domain.proofs.GapsTold.{gaps_tell}
use Rattle.iox_domain.proofs.InOrder.{in_order}
use Rattle.iox_domain.specs.Calls.{PortCall, PublisherComes, SubscriberComes, Lends, Writes, GivesLoanUp, PublisherUpdates, Sends, Retries}
use Rattle.iox_domain.specs.Calls.{GivesSendUp, PublisherLeaves, SubscriberUpdates, AsksForSamples, Receives, Releases, SubscriberLeaves}
use Rattle.iox_domain.specs.DomainPorts.Messages.{Loan, Message}
use Rattle.iox_domain.specs.DomainPorts.Ports.{connection_of}
use Rattle.iox_domain.specs.DomainPorts.Publishers.{connection_at_port, port_of}
use Rattle.iox_domain.specs.DomainPorts.declared.publisher_port.PublisherPort.{PublisherPort}
use Rattle.iox_domain.specs.DomainValues.Sequences.{next_sequence}
use Rattle.iox_domain.specs.DomainValues.declared.backpressure.BackpressureDecision.{BackpressureDecision}
use Rattle.iox_domain.specs.DomainValues.declared.backpressure.BackpressureInfo.{BackpressureInfo}
use Rattle.iox_domain.specs.DomainValues.declared.degradation.DegradationAction.{DegradationAction}
use Rattle.iox_domain.specs.DomainValues.declared.degradation.DegradationInfo.{DegradationInfo}
use Rattle.iox_domain.specs.Gaps.{AreNumberedFrom, sequence_behind}
use Rattle.iox_domain.specs.Lending.{loan_in}
use Rattle.iox_domain.specs.Order.{Account, IsPartOf, account_after, account_on, has_begun, leads_at_port, message_of, nothing_yet}
use Rattle.iox_domain.specs.Order.{sent_by, sequence_at_port, sequence_in}
use Rattle.iox_domain.specs.Ports.{no_ports}
use Rattle.iox_domain.specs.declared.ports.service_ports.ServicePorts.{ServicePorts}
use Rattle.iox_lanes_laws.specs.Sequences.{GoUpTo}
use Rattle.iox_lanes_machine.proofs.Ends.{some_is}
use Rattle.iox_lanes_sound.specs.Sequences.{SequencesStayUp}

go_up_from : (low lower high : ℕ) (numbers : List ℕ) → lower ≤ low → GoUpTo low numbers high → GoUpTo lower numbers high
go_up_from low lower high [] less up = omega (arith, less, up)
go_up_from low lower high (number ∷ numbers) less up = (omega (arith, less, up.0), up.1)

go_up_behind : (low high : ℕ) (front numbers : List ℕ) → GoUpTo low (front ++ numbers) high → GoUpTo low numbers high
go_up_behind low high [] numbers up = up
go_up_behind low high (number ∷ front) numbers up =
    go_up_from number low high numbers (omega (arith, up.0)) (go_up_behind number high front numbers up.1)

-- a next number isn't 0
next_above : (last : Option ℕ) → next_sequence last ≡ Some 0 → ⊥
next_above None is = cc is
next_above (Some number) is = omega (arith, some_is (number + 1) 0 is)

module _ {T U : Type 0} where
  abbrev sequence : Message T U → ℕ
  sequence message = unwrap_or message.sequence 0

  none_behind : (messages : List (Message T U)) → sequence_behind None messages ≡ None
  none_behind [] = refl
  none_behind (message ∷ messages) = none_behind messages

  -- numbers go on to the last one
  reaches : (from last : ℕ) (sent : List (Message T U)) → sequence_behind (Some from) sent ≡ Some (last + 1) → from ≤ last + 1
  reaches from last [] behind = omega (arith, some_is from (last + 1) behind)
  reaches from last (message ∷ sent) behind = omega (arith, reaches (from + 1) last sent behind)

  -- so those of a part of what was sent go up
  part_up : (low from last : ℕ) (part sent : List (Message T U)) → low < from → AreNumberedFrom (Some from) sent
      → sequence_behind (Some from) sent ≡ Some (last + 1) → IsPartOf part sent → GoUpTo low (map sequence part) last
  part_up low from last [] sent less numbered behind is = omega (arith, less, reaches from last sent behind)
  part_up low from last (x ∷ part) [] less numbered behind is = absurd is
  part_up low from last (x ∷ part) (y ∷ sent) less numbered behind (inl here) =
      let own : sequence x ≡ from = ap sequence here.0 ∙ ap (λ (o : Option ℕ). unwrap_or o 0) numbered.0 in
      subst (λ n. (low < n) × GoUpTo n (map sequence part) last) (sym own)
      (less, part_up from (from + 1) last part sent (omega arith) numbered.1 behind here.1)
  part_up low from last (x ∷ part) (y ∷ sent) less numbered behind (inr later) =
      part_up low (from + 1) last (x ∷ part) sent (omega (arith, less)) numbered.1 behind later

  -- no message has the number 0
  abbrev AreAbove : List (Message T U) → Type 0
  AreAbove [] = Unit {0}
  AreAbove (message ∷ messages) = (message.sequence ≡ Some 0 → ⊥) × AreAbove messages

  all_above : (front rest : List (Message T U)) → AreAbove front → AreAbove rest → AreAbove (front ++ rest)
  all_above [] rest first second = second
  all_above (message ∷ front) rest first second = (first.0, all_above front rest first.1 second)

  port_above : (port : Option (PublisherPort T U)) → sequence_at_port port ≡ Some 0 → ⊥
  port_above None is = cc is
  port_above (Some port) is = next_above port.last_sequence is

  -- so none that a call makes a publisher send
  sent_above : (publisher : ℕ) (call : PortCall T U) (old : ServicePorts T U) → AreAbove (sent_by publisher call old)
  sent_above publisher (PublisherComes config user_header answer) old = tt
  sent_above publisher (SubscriberComes owner buffer_size answer) old = tt
  sent_above publisher (Lends number values elements answer) old = tt
  sent_above publisher (Writes number slot test change) old = tt
  sent_above publisher (GivesLoanUp number slot) old = tt
  sent_above publisher (PublisherUpdates number answer) old = tt
  sent_above publisher (Sends number slot answer) old =
      by ((publisher == number) && has_begun answer) (loan_in number slot old)
    where
      by : (b : Bool) (loan : Option (Loan T U)) → AreAbove (if b then message_of (sequence_in number old) loan else [])
      by false loan = tt
      by true None = tt
      by true (Some loan) = (port_above (port_of number old.publishers), tt)
  sent_above publisher (Retries number elapsed answer) old = tt
  sent_above publisher (GivesSendUp number answer) old = tt
  sent_above publisher (PublisherLeaves number answer) old = tt
  sent_above publisher (SubscriberUpdates number answer) old = tt
  sent_above publisher (AsksForSamples number answer) old = tt
  sent_above publisher (Receives number answer) old = tt
  sent_above publisher (Releases number sample answer) old = tt
  sent_above publisher (SubscriberLeaves number answer) old = tt

  account_above : (publisher index subscriber : ℕ) (calls : List (PortCall T U × ServicePorts T U)) (old : ServicePorts T U)
      (account : Account T U) → AreAbove account.sent → AreAbove (account_after publisher index subscriber calls old account).sent
  account_above publisher index subscriber [] old account above = above
  account_above publisher index subscriber ((call, next) ∷ calls) old account above =
      account_above publisher index subscriber calls next (account_on publisher index subscriber call old account)
      (all_above account.sent (sent_by publisher call old) above (sent_above publisher call old))

  module _ (taken waiting : List (Message T U)) (last : ℕ) where
    abbrev Up : Type 0
    Up = GoUpTo 0 (map sequence waiting) last

    -- the first number isn't 0
    begins : (sent : List (Message T U)) → AreAbove sent → AreNumberedFrom (Some 0) sent
        → sequence_behind (Some 0) sent ≡ Some (last + 1) → Up
    begins [] above numbered behind = absurd (omega (arith, some_is 0 (last + 1) behind))
    begins (y ∷ sent) above numbered behind = absurd (above.0 numbered.0)

    goes_up : (first : Option ℕ) (sent : List (Message T U)) → AreAbove sent → AreNumberedFrom first sent
        → sequence_behind first sent ≡ Some (last + 1) → IsPartOf (taken ++ waiting) sent → Up
    goes_up None sent above numbered behind is = absurd (cc (none_behind sent, behind))
    goes_up (Some zero) sent above numbered behind is = begins sent above numbered behind
    goes_up (Some (suc from)) sent above numbered behind is =
        go_up_behind 0 last (map sequence taken) (map sequence waiting)
        (subst (λ (numbers : List ℕ). GoUpTo 0 numbers last) (map-append sequence taken waiting)
        (part_up 0 (suc from) last (taken ++ waiting) sent (omega arith) numbered behind is))

pub sequences_stay_up : {T U : Type 0} (overrides : ℕ → ℕ → Type 0) (may : DegradationInfo → DegradationAction → Type 0)
    (decide : BackpressureInfo → BackpressureDecision → Type 0) → SequencesStayUp T U overrides may decide
sequences_stay_up {T} {U} overrides may decide = λ service sizes calls new happen number last index subscriber port found last_is
    leads.
    let account : Account T U = account_after number index subscriber calls (no_ports service sizes) nothing_yet in
    let leads_there = ap (leads_at_port index subscriber) found ∙ leads in
    let part : IsPartOf (account.taken ++ (connection_of index port).waiting) account.sent =
    subst (λ (p : Option (PublisherPort T U)). IsPartOf (account.taken ++ (connection_at_port index p).waiting) account.sent) found
    ((in_order overrides may decide).order service sizes calls new number index subscriber happen leads_there) in
    let (numbered, agreed) = (gaps_tell overrides may decide).numbered service sizes calls new number index subscriber port happen found in
    goes_up account.taken (connection_of index port).waiting last numbered.0 account.sent
    (account_above number index subscriber calls (no_ports service sizes) nothing_yet tt) numbered.1
    (numbered.2 ∙ ap next_sequence last_is) part
