-- What a publisher and one of its connections keep of what was sent and taken.
use Rattle.std.proofs.Common.{arith, ◌≡◌, ◌≢◌, ◌≤◌, ◌&&◌, ◌-◌, ◌⊎◌, ◌∷◌, [], ◌++◌, append_assoc, ℕ, Bool, true, false, List, get_or}
use Rattle.std.proofs.Common.{length, drop, nat_lt, None, Some, Result, refl, sym, ap, ◌∙◌, subst, if◌then◌else◌, inl, inr}
use Rattle.iox_domain.specs.DomainValues.declared.backpressure.BackpressureDecision.{BackpressureDecision}
use Rattle.iox_domain.specs.DomainValues.declared.backpressure.BackpressureInfo.{BackpressureInfo}
use Rattle.iox_domain.specs.DomainValues.Sequences.{next_sequence}
use Rattle.iox_domain.specs.DomainValues.declared.port_error.SendError.{SendError}
use Rattle.iox_domain.specs.DomainSlots.Uses.{Connection, nobody, offered}
use Rattle.iox_domain.specs.DomainPorts.Messages.{Message, Loan, sent_as}
use Rattle.iox_domain.specs.DomainPorts.Places.{leads_to}
use Rattle.iox_domain.specs.DomainPorts.Ports.{connection_of, goes_on}
use Rattle.iox_domain.specs.DomainPorts.Sending.{concluded, Finishes, begun_by}
use Rattle.iox_domain.specs.DomainPorts.declared.meeting.Sent.{Sent}
use Rattle.iox_domain.specs.DomainPorts.declared.publisher_port.PublisherPort.{PublisherPort}
use Rattle.iox_domain.specs.PortLawsLaws.{AreTiesApart, GotAtMostOnce}
use Rattle.iox_domain.specs.Order.{IsPartOf, leads_at}
use Rattle.iox_domain.specs.Gaps.{AreNumbered}
use Rattle.iox_domain.proofs.Gaps.{numbered_more}
use Rattle.iox_domain.proofs.Once.{Gone, delivers_got}
use Rattle.iox_domain.proofs.PortLawsParts.{part_same, part_on, part_behind, part_last, part_within, part_drop, before_last}

-- What is true of a publisher that sent the messages `sent`, and of its connection with this index to this subscriber, which took the
-- messages `taken`. The taken and the waiting messages are a part of those sent, without the last one as long as the send hasn't
-- reached a place of this connection. If no place is tied to the connection of a publisher that exists, no message was taken and none
-- waits.
pub record Books {T U : Type 0} (index subscriber : ℕ) (sent taken : List (Message T U)) (port : PublisherPort T U) : Type 0 where
  pub history : IsPartOf port.sender.uses.history sent
  pub numbered : AreNumbered sent port.last_sequence
  pub last : (message : Message T U) → port.sender.uses.sending ≡ Some message → (before : List (Message T U))
      × (sent ≡ before ++ message ∷ [])
  pub left : port.stands ≡ false → port.sender.uses.sending ≡ None
  pub part : leads_at index subscriber port ≡ true → IsPartOf (taken ++ (connection_of index port).waiting) sent
  pub due : leads_at index subscriber port ≡ true → (message : Message T U) (before : List (Message T U))
      → port.sender.uses.sending ≡ Some message → sent ≡ before ++ message ∷ [] → (place : ℕ)
      → port.progress.place ≤ place → get_or port.ties.items place None ≡ Some index
      → IsPartOf (taken ++ (connection_of index port).waiting) before
  pub idle : leads_at index subscriber port ≡ true → port.stands ≡ true → ((place : ℕ) → get_or port.ties.items place None ≢ Some index)
      → taken ++ (connection_of index port).waiting ≡ []

-- If there is no such connection, nothing was taken from it yet, or nothing more will be sent.
abbrev pub Missing : {T U : Type 0} → ℕ → ℕ → List (Message T U) → List (Message T U) → PublisherPort T U → Type 0
Missing index subscriber sent taken port = leads_at index subscriber port ≡ false → (taken ≡ [])
    ⊎ ((port.stands ≡ false) × IsPartOf taken sent)

-- The progress of the publisher's send doesn't change, and the connection, if it exists, existed before with the same waiting
-- messages.
pub record Still {T U : Type 0} (index subscriber : ℕ) (old new : PublisherPort T U) : Type 0 where
  pub sending : new.sender.uses.sending ≡ old.sender.uses.sending
  pub history : new.sender.uses.history ≡ old.sender.uses.history
  pub sequence : new.last_sequence ≡ old.last_sequence
  pub stands : new.stands ≡ old.stands
  pub place : new.progress.place ≡ old.progress.place
  pub ties : new.ties ≡ old.ties
  pub leads : leads_at index subscriber new ≡ true → (leads_at index subscriber old ≡ true)
      × ((connection_of index new).waiting ≡ (connection_of index old).waiting)

pub books_still : {T U : Type 0} (index subscriber : ℕ) (sent taken : List (Message T U)) (old new : PublisherPort T U)
    → Still index subscriber old new → Books index subscriber sent taken old → Books index subscriber sent taken new
books_still {T} {U} index subscriber sent taken old new still books = record {
  history = subst (λ (all : List (Message T U)). IsPartOf all sent) (sym still.history) books.history;
  numbered = subst (λ last. AreNumbered sent last) (sym still.sequence) books.numbered;
  last = λ message sending. books.last message (sym still.sending ∙ sending);
  left = λ left. still.sending ∙ books.left (sym still.stands ∙ left);
  part = λ leads. let was = still.leads leads in subst (λ (all : List (Message T U)). IsPartOf (taken ++ all) sent) (sym was.1)
      (books.part was.0);
  due = λ leads message before sending is place from tie.
      let was = still.leads leads in
      subst (λ (all : List (Message T U)). IsPartOf (taken ++ all) before) (sym was.1)
      (books.due was.0 message before (sym still.sending ∙ sending) is place (omega (arith, from, still.place))
      (ap (λ ties. get_or ties.items place None) (sym still.ties) ∙ tie));
  idle = λ leads stands untied.
      let was = still.leads leads in
      ap (λ all. taken ++ all) was.1 ∙ books.idle was.0 (sym still.stands ∙ stands)
      (λ place tie. untied place (ap (λ ties. get_or ties.items place None) still.ties ∙ tie));
}

-- neither connections nor readers changed
pub leads_same : {T U : Type 0} (index subscriber : ℕ) (old new : PublisherPort T U)
    → new.sender.uses.connections ≡ old.sender.uses.connections → new.readers ≡ old.readers
    → leads_at index subscriber new ≡ leads_at index subscriber old
leads_same index subscriber old new connections readers =
    ap (λ all. goes_on (get_or all index nobody).stage && leads_to subscriber (get_or new.readers index None)) connections
    ∙ ap (λ all. goes_on (get_or old.sender.uses.connections index nobody).stage && leads_to subscriber (get_or all index None)) readers

pub still_same : {T U : Type 0} (index subscriber : ℕ) (old new : PublisherPort T U)
    → new.sender.uses.connections ≡ old.sender.uses.connections → new.readers ≡ old.readers
    → new.sender.uses.sending ≡ old.sender.uses.sending
    → new.sender.uses.history ≡ old.sender.uses.history → new.last_sequence ≡ old.last_sequence → new.stands ≡ old.stands
    → new.progress.place ≡ old.progress.place
    → new.ties ≡ old.ties → Still index subscriber old new
still_same index subscriber old new connections readers sending history sequence stands place ties = record {
  sending = sending;
  history = history;
  sequence = sequence;
  stands = stands;
  place = place;
  ties = ties;
  leads = λ leads. (
    sym (leads_same index subscriber old new connections readers) ∙ leads,
    ap (λ all. (get_or all index nobody).waiting)
        connections,
  );
}

pub still_is : {T U : Type 0} (index subscriber : ℕ) (old new : PublisherPort T U) → new ≡ old → Still index subscriber old new
still_is index subscriber old new is =
    still_same index subscriber old new (ap (λ port. port.sender.uses.connections) is) (ap (λ port. port.readers) is)
    (ap (λ port. port.sender.uses.sending) is) (ap (λ port. port.sender.uses.history) is) (ap (λ port. port.last_sequence) is)
    (ap (λ port. port.stands) is) (ap (λ port. port.progress.place) is) (ap (λ port. port.ties) is)

-- a message is put into a mailbox
put_part : {T U : Type 0} (overflows fits : Bool) (waiting : List (Message T U)) (message : Message T U)
    → IsPartOf (if overflows then (if fits then waiting ++ message ∷ [] else drop 1 (waiting ++ message ∷ [])) else
    (if fits then waiting ++ message ∷ [] else waiting)) (waiting ++ message ∷ [])
put_part true true waiting message = part_same (waiting ++ message ∷ [])
put_part true false waiting message = part_drop 1 (waiting ++ message ∷ [])
put_part false true waiting message = part_same (waiting ++ message ∷ [])
put_part false false waiting message = part_behind waiting waiting (message ∷ []) (part_same waiting)

offered_part : {T U : Type 0} (overflows : Bool) (message : Message T U) (connection : Connection (Message T U))
    → IsPartOf (offered overflows message connection).waiting (connection.waiting ++ message ∷ [])
offered_part overflows message connection
    = put_part overflows (nat_lt (length connection.waiting) connection.limit) connection.waiting message

-- the message that is last came there
put_books : {T U : Type 0} (overflows : Bool) (message : Message T U) (connection : Connection (Message T U))
    (taken before sent : List (Message T U)) → sent ≡ before ++ message ∷ [] → IsPartOf (taken ++ connection.waiting) before
    → IsPartOf (taken ++ (offered overflows message connection).waiting) sent
put_books {T} {U} overflows message connection taken before sent is part =
    let waits = connection.waiting in
    let longer : IsPartOf (taken ++ (offered overflows message connection).waiting) (taken ++ (waits ++ message ∷ [])) =
    part_within taken (offered overflows message connection).waiting (waits ++ message ∷ []) (offered_part overflows message connection) in
    let last : IsPartOf ((taken ++ waits) ++ message ∷ []) (before ++ message ∷ []) = part_last message (taken ++ waits) before part in
    let same : IsPartOf (taken ++ (waits ++ message ∷ [])) (before ++ message ∷ [])
    = subst (λ (all : List (Message T U)). IsPartOf all (before ++ message ∷ [])) (append_assoc taken waits (message ∷ [])) last in
    subst (λ (all : List (Message T U)). IsPartOf (taken ++ (offered overflows message connection).waiting) all) (sym is)
    (part_on _ _ _ longer same)

-- The effect of a message at one connection: its reader is the same, and it got the message at most once.
pub got_leads : {T U : Type 0} (index subscriber : ℕ) (old new : PublisherPort T U)
    → (connection_of index new).stage ≡ (connection_of index old).stage → new.readers ≡ old.readers
    → leads_at index subscriber new ≡ leads_at index subscriber old
got_leads index subscriber old new stages readers =
    ap (λ one. goes_on one && leads_to subscriber (get_or new.readers index None)) stages
    ∙ ap (λ all. goes_on (connection_of index old).stage && leads_to subscriber (get_or all index None)) readers

delivered_books : {T U : Type 0} (index subscriber : ℕ) (sent taken : List (Message T U)) (old new : PublisherPort T U)
    → AreTiesApart old → Gone old new → GotAtMostOnce index old new → Books index subscriber sent taken old
    → Books index subscriber sent taken new
delivered_books {T} {U} index subscriber sent taken old new apart gone (inl same) books =
    let leads_is : leads_at index subscriber new ≡ leads_at index subscriber old
    = got_leads index subscriber old new (ap (λ one. one.stage) same) gone.same.rest.readers in
    let waits : (connection_of index new).waiting ≡ (connection_of index old).waiting = ap (λ one. one.waiting) same in
    record {
      history = subst (λ (all : List (Message T U)). IsPartOf all sent) (sym gone.same.rest.history) books.history;
      numbered = subst (λ last. AreNumbered sent last) (sym gone.same.rest.sequence) books.numbered;
      last = λ message sending. books.last message (sym gone.same.sending ∙ sending);
      left = λ left. gone.same.sending ∙ books.left (sym gone.same.rest.stands ∙ left);
      part = λ leads. subst (λ (all : List (Message T U)). IsPartOf (taken ++ all) sent) (sym waits) (books.part (sym leads_is ∙ leads));
      due = λ leads message before sending is place from tie. subst (λ (all : List (Message T U)). IsPartOf (taken ++ all) before)
          (sym waits)
          (books.due (sym leads_is ∙ leads) message before (sym gone.same.sending ∙ sending) is place
          (omega (arith, from, gone.forward)) (ap (λ ties. get_or ties.items place None) (sym gone.same.ties) ∙ tie));
      idle = λ leads stands untied. ap (λ all. taken ++ all) waits
          ∙ books.idle (sym leads_is ∙ leads) (sym gone.same.rest.stands ∙ stands)
          (λ place tie. untied place (ap (λ ties. get_or ties.items place None) gone.same.ties ∙ tie));
    }
delivered_books {T} {U} index subscriber sent taken old new apart gone (inr (at, message, from, to, tie, sending, is)) books =
    let leads_is : leads_at index subscriber new ≡ leads_at index subscriber old
    = got_leads index subscriber old new (ap (λ one. one.stage) is) gone.same.rest.readers in
    let waits : (connection_of index new).waiting ≡ (offered old.sender.uses.overflows message (connection_of index old)).waiting
    = ap (λ one. one.waiting) is in
    record {
      history = subst (λ (all : List (Message T U)). IsPartOf all sent) (sym gone.same.rest.history) books.history;
      numbered = subst (λ last. AreNumbered sent last) (sym gone.same.rest.sequence) books.numbered;
      last = λ one sends. books.last one (sym gone.same.sending ∙ sends);
      left = λ left. gone.same.sending ∙ books.left (sym gone.same.rest.stands ∙ left);
      part = λ leads.
          let (before, all) = books.last message sending in
          subst (λ (one : List (Message T U)). IsPartOf (taken ++ one) sent) (sym waits)
          (put_books old.sender.uses.overflows message (connection_of index old) taken before sent all
          (books.due (sym leads_is ∙ leads) message before sending all at from tie));
      due = λ leads one before sends all place further there.
          let was : get_or old.ties.items place None ≡ Some index
          = ap (λ ties. get_or ties.items place None) (sym gone.same.ties) ∙ there in
          let same : place ≡ at = apart place at index was tie in
          absurd (omega (arith, same, further, to));
      idle = λ leads stands untied. absurd (untied at (ap (λ ties. get_or ties.items at None) gone.same.ties ∙ tie));
    }

-- a send that came to its end is over
concluded_books : {T U : Type 0} (index subscriber : ℕ) (sent taken : List (Message T U)) (arrived : Bool) (port : PublisherPort T U)
    → Books index subscriber sent taken port → Books index subscriber sent taken (concluded arrived port)
concluded_books index subscriber sent taken false port books = books
concluded_books index subscriber sent taken true port books = record {
  history = books.history;
  numbered = books.numbered;
  last = λ message sending. let no : None ≡ Some message = sending in cc;
  left = λ left. refl;
  part = books.part;
  due = λ leads message before sending is place from tie. let no : None ≡ Some message = sending in cc;
  idle = books.idle;
}

pub finishes_books : {T U : Type 0} (index subscriber : ℕ) (sent taken : List (Message T U))
    (decide : BackpressureInfo → BackpressureDecision → Type 0) (old new : PublisherPort T U) (answer : Result Sent SendError)
    → AreTiesApart old
    → Finishes decide old answer new → Books index subscriber sent taken old → Books index subscriber sent taken new
finishes_books {T} {U} index subscriber sent taken decide old new answer apart finishes books =
    let (arrived, gone, delivers, is_answer, is_new) = finishes in
    let all : Gone old gone = delivers_got decide (length old.ties.items - old.progress.place) old gone arrived apart delivers in
    let delivered = delivered_books index subscriber sent taken old gone apart all (all.got index) books in
    books_still index subscriber sent taken (concluded arrived gone) new (still_is index subscriber (concluded arrived gone) new is_new)
    (concluded_books index subscriber sent taken arrived gone delivered)

pub given_up_books : {T U : Type 0} (index subscriber : ℕ) (sent taken : List (Message T U)) (port : PublisherPort T U)
    → Books index subscriber sent taken port → Books index subscriber sent taken (concluded true port)
given_up_books index subscriber sent taken port books = concluded_books index subscriber sent taken true port books

-- a send begins: its message is the last that was sent
pub begun_books : {T U : Type 0} (index subscriber : ℕ) (sent taken : List (Message T U)) (at : ℕ) (loan : Loan T U)
    (port : PublisherPort T U) → port.stands ≡ true → Books index subscriber sent taken port
    → Books index subscriber (sent ++ sent_as (next_sequence port.last_sequence) loan ∷ []) taken (begun_by at (Some loan) port)
begun_books {T} {U} index subscriber sent taken at loan port stands books =
    let message : Message T U = sent_as (next_sequence port.last_sequence) loan in
    record {
      history = part_on _ (port.sender.uses.history ++ message ∷ []) _
          (part_drop (length (port.sender.uses.history ++ message ∷ []) - port.sender.uses.kept) (port.sender.uses.history ++ message ∷ []))
          (part_last message port.sender.uses.history sent books.history);
      numbered = numbered_more message sent port.last_sequence refl books.numbered;
      last = λ one sending. let same : message ≡ one = cc in (sent, ap (λ m. sent ++ m ∷ []) same);
      left = λ left. let no : true ≡ false = sym stands ∙ left in absurd (cc);
      part = λ leads. part_behind (taken ++ (connection_of index port).waiting) sent (message ∷ []) (books.part leads);
      due = λ leads one before sending is place from tie.
          let same : sent ≡ before = before_last message one sent before is in
          subst (λ (all : List (Message T U)). IsPartOf (taken ++ (connection_of index port).waiting) all) same (books.part leads);
      idle = books.idle;
    }
