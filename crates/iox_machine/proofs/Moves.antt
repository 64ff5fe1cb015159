-- What each step is: moves at a service, or another service.
use Rattle.std.proofs.lemmas.Bool.{and_right, eq-eqb}
use Rattle.std.specs.List.{AllByRecursion, list_any}
use Rattle.std.specs.Prelude.{⊤, ◌==◌, nat_lt, drop, filter, find, fold, is_some, option_and_then, slice_get}
use Rattle.std.specs.Prelude.{zip, MatchBool, bytes_eq}
use Rattle.std.proofs.Common.{◌≡◌, ◌≤◌, ◌⊎◌, ◌+◌, ℕ, Bool, true, false, cond, not, ◌&&◌, List, [], ◌∷◌, ◌++◌, length}
use Rattle.std.proofs.Common.{Option, None, Some, refl, sym, ap, subst, inl, inr, arith, ◌∙◌}
use Rattle.iox_machine.proofs.Cases.{by-bool, by-option, chosen, never-some, same-some}
use Rattle.iox_machine.specs.RunLaws.{BeginsToSend, has_begun, numbered}
use Rattle.iox_machine.specs.MessageLaws.{sent_in, begun_by, first_in, is_release_of}
use Rattle.iox_machine.specs.Sending.{GoesOn, Begins, Sends}
use Rattle.std.specs.Global.{Vec}
use Rattle.std.specs.Vec.{vec_items}
use Rattle.iox_machine.proofs.Counts.{of_told, one_if}
use Rattle.iox_machine.proofs.Delivering.{Outcomes, at-once-silent, by-outcome, by-send, deliver, first_of, goes-on-so, keeping, offered}
use Rattle.iox_machine.proofs.Delivering.{sending}
use Rattle.iox_machine.proofs.MoveForms.{Done, IsFollowing, IsSending, with_send, Loud, Loudly, IsNumbered, IsTurned, Quiet, Quietly}
use Rattle.iox_machine.proofs.MoveForms.{Quiets, Walk, begins_early, begun_of, has_port, is_port, came_of, gone_of, if_it, writes_late}
use Rattle.iox_machine.proofs.MoveForms.{releases_of}
use Rattle.iox_machine.proofs.MoveForms as move
use Rattle.iox_machine.proofs.Shorthands.{IsRefused, LendsLonger, left}
use Rattle.iox_machine.proofs.Shorthands.{with_publisher, with_subscriber}
use Rattle.iox_machine.proofs.Tables.{at-changed}
use Rattle.iox_machine.specs.Choices.{Choices}
use Rattle.iox_machine.specs.Closing.{is_used_by}
use Rattle.iox_machine.specs.Factories.{with_open}
use Rattle.iox_machine.specs.Lending.{Lends, loan_refusal}
use Rattle.iox_machine.specs.Mailbox.{Mailbox, put}
use Rattle.iox_machine.specs.Message.{Loan, Message}
use Rattle.iox_machine.specs.NumberLaws.{publisher_told}
use Rattle.iox_machine.specs.Phase.{Phase, same_pattern}
use Rattle.iox_machine.specs.PortList.{those}
use Rattle.iox_machine.specs.Ports.{publisher_in}
use Rattle.iox_machine.specs.PublisherUpdate as publishing
use Rattle.iox_machine.specs.Service.{Publisher, Send, Service, Subscriber, connect, mailbox, with_mailbox}
use Rattle.iox_machine.specs.State.{Factory, State, counted, is_service_of, replaced}
use Rattle.iox_machine.specs.SubscriberUpdate as subscribing
use Rattle.iox_machine.specs.Table.{at, changed, contains, removed}
use Rattle.iox_command.specs.DomainValues.declared.backpressure.BackpressureDecision.{BackpressureDecision}
use Rattle.iox_command.specs.DomainValues.declared.backpressure.BackpressureDecision.TheVariants.{Retry, DiscardData, DiscardDataAndFail}
use Rattle.iox_command.specs.DomainValues.declared.connection_failure.ConnectionFailure.{ConnectionFailure}
use Rattle.iox_command.specs.DomainValues.declared.port_error.SendError.TheVariants as error
use Rattle.iox_command.specs.declared.command.Command.{Command}
use Rattle.iox_command.specs.declared.command.Command.TheVariants as command
use Rattle.iox_command.specs.declared.refusal.Refusal.{Refusal}
use Rattle.iox_command.specs.declared.refusal.Refusal.TheVariants as refusal
use Rattle.iox_command.specs.declared.reply.Reply.{Reply}
use Rattle.iox_command.specs.declared.reply.Reply.TheVariants as reply

changed-twice : {V : Type 0} (number : ℕ) (was v : V) (table : List (ℕ × V))
    → changed number v (changed number was table) ≡ changed number v table
changed-twice number was v [] = refl
changed-twice {V} number was v (entry ∷ table) = here (entry.0 == number) refl (changed-twice number was v table)
  where
    here : (b : Bool) → (entry.0 == number) ≡ b → changed number v (changed number was table) ≡ changed number v table
        → cond ((cond b (number, was) entry).0 == number) (number, v) (cond b (number, was) entry) ∷ changed number v
        (changed number was table) ≡ cond b (number, v) entry ∷ changed number v table
    here true is on =
        ap (λ (c : Bool). cond c (number, v) (number, was) ∷ changed number v (changed number was table)) (eq-eqb number number refl)
        ∙ ap (λ (l : List (ℕ × V)). (number, v) ∷ l) on
    here false is on =
        ap (λ (c : Bool). cond c (number, v) entry ∷ changed number v (changed number was table)) is
        ∙ ap (λ (l : List (ℕ × V)). entry ∷ l) on

pub least : (x : ℕ) → 0 ≤ x
least x = omega arith

pub and-right : (one other : Bool) → (one && other) ≡ true → other ≡ true
and-right true other e = e
and-right false other e = absurd (differ e)
  where
    differ : false ≡ true → ⊥
    differ e = cc

pub and-true : (b : Bool) → (b && true) ≡ b
and-true true = refl
and-true false = refl

begun-told : (T : Type 0) (waits fails : Bool) (count : ℕ)
    → has_begun {T = T} (cond waits reply.Blocked
    (cond fails (reply.Refused (refusal.Send error.UnableToDeliver)) (reply.Delivered count))) ≡ true
begun-told T true fails count = refl
begun-told T false true count = refl
begun-told T false false count = refl

-- a send that goes on tells that it began
pub going-told : {T : Type 0} (choices : Choices T) (number : ℕ) (publisher : Publisher T) (send : Send T) (old : Service T)
    (answer : Reply T) (new : Service T)
    → GoesOn choices number publisher send old answer new → has_begun answer ≡ true
going-told {T} choices number publisher send old answer new h =
    subst (λ (told : Reply T). has_begun told ≡ true) (sym h.3) (begun-told T (is_some (slice_get h.0.left 0)) h.0.fails h.0.delivered)

pub beginning-told : {T : Type 0} (choices : Choices T) (number : ℕ) (message : Message T) (publisher : Publisher T) (old : Service T)
    (answer : Reply T)
    (new : Service T)
    → Begins choices number message publisher old answer new → has_begun answer ≡ true
beginning-told choices number message publisher old answer new h =
    going-told choices number (keeping message publisher old)
    (sending message publisher) old answer new h

module _ {T : Type 0} where
  pub first-is : {V : Type 0} (found : Service T → Option V) (state : State T) (service : Service T) (one : V)
      → find (λ (other : Service T). is_some (found other)) state.services ≡ Some service → found service ≡ Some one
      → first_in found state ≡ Some one
  first-is found state service one first is = ap (option_and_then found) first ∙ is

  -- which message a send of a loan begins
  pub begun-loan : (p loan : ℕ) (old : State T) (answer : Reply T) (service : Service T) (one : Loan T)
      → find (λ (other : Service T). is_some (at loan other.loans)) old.services ≡ Some service → at loan service.loans ≡ Some one
      → begun_by p (command.Send loan) old answer ≡ cond ((one.publisher == p) && has_begun answer) (sent_in service one) None
  begun-loan p loan old answer service one first is =
      ap (λ (o : Option (Service T)). option_and_then (λ (it : Service T). option_and_then
      (λ (lent : Loan T). cond ((lent.publisher == p) && has_begun answer) (sent_in it lent) None) (at loan it.loans)) o) first
      ∙ ap (λ (o : Option (Loan T)). option_and_then
      (λ (lent : Loan T). cond ((lent.publisher == p) && has_begun answer) (sent_in service lent) None) o) is

  pub unbegun-loan : (p loan : ℕ) (old : State T) (answer : Reply T) → has_begun answer ≡ false
      → begun_by p (command.Send loan) old answer ≡ None
  unbegun-loan p loan old answer silent = here (find (λ (other : Service T). is_some (at loan other.loans)) old.services)
    where
      lent : (service : Service T) (o : Option (Loan T)) → option_and_then
          (λ (one : Loan T). cond ((one.publisher == p) && has_begun answer) (sent_in service one) None) o ≡ None
      lent service None = refl
      lent service (Some one) =
          ap (λ (b : Bool). cond b (sent_in service one) None) (and_right (one.publisher == p) (has_begun answer) silent)

      here : (o : Option (Service T)) → option_and_then (λ (it : Service T). option_and_then
          (λ (one : Loan T). cond ((one.publisher == p) && has_begun answer) (sent_in it one) None) (at loan it.loans)) o ≡ None
      here None = refl
      here (Some service) = lent service (at loan service.loans)

  -- ---- walks

  pub quiet-none : (service : Service T) → Quiets service service
  quiet-none service = ([], refl)

  pub quiet-one : (one : Quiet T) (old new : Service T) → Quietly one old new → Quiets old new
  quiet-one one old new h = (one ∷ [], (new, h, refl))

  done-both : (xs ys : List (Quiet T)) (one two three : Service T) → Done xs one two → Done ys two three → Done (xs ++ ys) one three
  done-both [] ys one two three h k = subst (λ (s : Service T). Done ys s three) h k
  done-both (x ∷ xs) ys one two three (mid, did, h) k = (mid, did, done-both xs ys mid two three h k)

  pub quiet-both : (one two three : Service T) → Quiets one two → Quiets two three → Quiets one three
  quiet-both one two three h k = (h.0 ++ k.0, done-both h.0 k.0 one two three h.1 k.1)

  pub quiet-same : (old new : Service T) → new ≡ old → Quiets old new
  quiet-same old new same = ([], same)

  pub quiet-walk : (factories : List (ℕ × Factory)) (loud : List (Loud T)) (one two three : Service T) → Quiets one two
      → Walk factories loud two three → Walk factories loud one three
  quiet-walk factories [] one two three h k = quiet-both one two three h k
  quiet-walk factories (move ∷ more) one two three h k = (k.0, k.1, quiet-both one two k.0 h k.2, k.3, k.4)

  pub loud-walk : (factories : List (ℕ × Factory)) (one : Loud T) (more : List (Loud T)) (old mid new : Service T)
      → Loudly factories one old mid → Walk factories more mid new → Walk factories (one ∷ more) old new
  loud-walk factories one more old mid new h k = (old, mid, quiet-none old, h, k)

  -- ---- a publisher

  -- Mailboxes alone are others.
  abbrev Boxed : Service T → Service T → Type 0
  Boxed old new = new ≡ record old { mailboxes = new.mailboxes }

  boxed-both : (one two three : Service T) → Boxed one two → Boxed two three → Boxed one three
  boxed-both one two three h k = k ∙ ap (λ (s : Service T). record s { mailboxes = three.mailboxes }) h

  boxed-connect : (limit publisher subscriber : ℕ) (service : Service T) → Boxed service (connect limit publisher subscriber service)
  boxed-connect limit publisher subscriber service = here (is_some (service.mailboxes publisher subscriber))
    where
      here : (b : Bool) → Boxed service (cond b service
          (with_mailbox publisher subscriber (record { limit = limit; waiting = []; borrowed = [] }) service))
      here true = refl
      here false = refl

  boxed-welcomes : (number : ℕ) (history : List (Message T)) (new : List ℕ) (service : Service T)
      → Boxed service (fold (publishing.welcome number history) service new)
  boxed-welcomes number history [] service = refl
  boxed-welcomes number history (subscriber ∷ more) service =
      let mid : Service T = publishing.welcome number history service subscriber in
      boxed-both service mid (fold (publishing.welcome number history) mid more)
      (boxed-both service (connect _ number subscriber service) mid (boxed-connect _ number subscriber service) refl)
      (boxed-welcomes number history more mid)

  pub followed : (number : ℕ) (one : Publisher T) (old : Service T) (after : Publisher T) (new : Service T)
      → publishing.Follows number one old after new
      → IsFollowing one after × (new ≡ record (with_publisher number after old) { mailboxes = new.mailboxes })
  followed number one old after new (refused, allowed, is, came) =
      let parted : Service T = publishing.ended number (with_publisher number after old) in (
        subst (λ (it : Publisher T). it ≡ record one { seen = it.seen; connected = it.connected }) (sym is) refl,
        subst (λ (s : Service T). s ≡ record (with_publisher number after old) { mailboxes = s.mailboxes }) (sym came)
            (boxed-welcomes number one.history
            (filter (λ subscriber. not (contains (those one.connected) subscriber)) (those after.connected)) parted),
      )

  follows : (number : ℕ) (one : Publisher T) (old : Service T) (after : Publisher T) (new : Service T)
      → at number old.publishers ≡ Some one → one.blocked ≡ None → publishing.Follows number one old after new
      → IsFollowing one after × Quiets old new
  follows number one old after new found free came =
      let on : IsFollowing one after × (new ≡ record (with_publisher number after old) { mailboxes = new.mailboxes }) =
      followed number one old after new came in
      (on.0, quiet-one (move.Follows number one after) old new ((found, free), came, on.0, on.1))

  pub updates : (choices : Choices T) (Q : Type 0) (number : ℕ) (told : ConnectionFailure → Refusal)
      (Does : Publisher T → Service T → Reply T → Service T → Type 0) (one : Publisher T) (old : Service T) (answer : Reply T)
      (new : Service T) → at number old.publishers ≡ Some one → one.blocked ≡ None
      → ((after : Publisher T) (mid : Service T) → Quiets old mid → at number mid.publishers ≡ Some after
      → IsFollowing one after → Does after mid answer new → Q)
      → ((failure : ConnectionFailure) (mid : Service T) → Quiets old mid → IsRefused (told failure) mid answer new → Q)
      → publishing.UpdatesFirst choices number told Does one old answer new → Q
  updates choices Q number told Does one old answer new found free does refused h =
      elim (by-bool (one.seen == old.subscriber_list.changes) (Does one old answer new)
      ((after : Publisher T) × (mid : Service T) × publishing.Follows number one old after mid
      × Outcomes (choices.publisher_acts number one.degradation) (zip old.subscriber_list.places after.connected)
      (λ done. Does after mid answer new) (λ failure. IsRefused (told failure) mid answer new)) h) [
        | inl w ↦ does one old (quiet-none old) found refl w.1
        | inr w ↦ came_so w.1.0 w.1.1 w.1.2 w.1.3
      ]
    where
      came_so : (after : Publisher T) (mid : Service T) → publishing.Follows number one old after mid
          → Outcomes (choices.publisher_acts number one.degradation) (zip old.subscriber_list.places after.connected)
          (λ done. Does after mid answer new) (λ failure. IsRefused (told failure) mid answer new) → Q
      came_so after mid came told_so =
          let on : IsFollowing one after × Quiets old mid = follows number one old after mid found free came in
          elim (by-outcome (choices.publisher_acts number one.degradation) (zip old.subscriber_list.places after.connected)
          (λ done. Does after mid answer new) (λ failure. IsRefused (told failure) mid answer new) told_so) [
            | inl r ↦ does after mid on.1 (ap (λ (it : Service T). at number it.publishers) (followed number one old after mid came).1
                ∙ at-changed number after one old.publishers found)
                on.0 r.2
            | inr r ↦ refused r.0 mid on.1 r.2
          ]

  -- what is put, or passed over, with the send under way in its publisher
  abbrev InHand : ℕ → Publisher T → List ℕ → Send T → Service T → Send T × Service T → Type 0
  InHand number one left send service done =
      Quiets (with_send number one (Some (record send { left = left })) service) (with_send number one (Some done.0) done.1)
      × (done.1.publishers ≡ service.publishers)

  is-offered : (number : ℕ) (one was : Publisher T) (met : Option (Mailbox T)) (decision : BackpressureDecision) (subscriber : ℕ)
      (more : List ℕ) (goes_on : Send T → Service T → Send T × Service T) (send : Send T) (service : Service T)
      → at number service.publishers ≡ Some was
      → put service.settings.enable_safe_overflow send.message (mailbox number subscriber service) ≡ met
      → ((next : Send T) (mid : Service T) → at number mid.publishers ≡ Some was → InHand number one more next mid (goes_on next mid))
      → InHand number one (subscriber ∷ more) send service (offered number met decision subscriber more goes_on send service)
  is-offered number one was met decision subscriber more goes_on send service found is on = here met decision is
    where
      now : Send T
      now = record send { left = subscriber ∷ more }

      held : Publisher T
      held = record one { blocked = Some now }

      begun : Service T
      begun = with_send number one (Some now) service

      sends_so : IsSending number held now begun
      sends_so = (at-changed number held was service.publishers found, refl)

      twice : (next : Send T) (mid : Service T) → with_send number one (Some next) mid
          ≡ with_send number held (Some next) (with_send number one (Some now) mid)
      twice next mid = ap (λ (l : List (ℕ × Publisher T)). record mid { publishers = l })
          (sym (changed-twice number held (record one { blocked = Some next }) mid.publishers))

      passed : (fails : Bool) → put service.settings.enable_safe_overflow send.message (mailbox number subscriber service) ≡ None
          → InHand number one (subscriber ∷ more) send service
          (goes_on (record send { retries = 0; elapsed = 0; fails = fails }) service)
      passed fails is =
          let next : Send T = record send { retries = 0; elapsed = 0; fails = fails } in
          let passed_on : Service T = with_send number one (Some (record next { left = more })) service in
          let rest : InHand number one more next service (goes_on next service) = on next service found in (
            quiet-both begun passed_on (with_send number one (Some (goes_on next service).0) (goes_on next service).1)
                (quiet-one (move.Passes number held now subscriber more fails) begun passed_on
                (sends_so, refl, is, twice (record next { left = more }) service)) rest.0,
            rest.1,
          )

      here : (met : Option (Mailbox T)) (decision : BackpressureDecision)
          → put service.settings.enable_safe_overflow send.message (mailbox number subscriber service) ≡ met
          → InHand number one (subscriber ∷ more) send service (offered number met decision subscriber more goes_on send service)
      here (Some box) decision is =
          let next : Send T = record send { retries = 0; elapsed = 0; delivered = send.delivered + 1 } in
          let mid : Service T = with_mailbox number subscriber box service in
          let put_on : Service T = with_send number one (Some (record next { left = more })) mid in
          let rest : InHand number one more next mid (goes_on next mid) = on next mid found in (
            quiet-both begun put_on (with_send number one (Some (goes_on next mid).0) (goes_on next mid).1)
                (quiet-one (move.Puts number held now subscriber more box) begun put_on
                (sends_so, refl, is, twice (record next { left = more }) mid)) rest.0,
            rest.1,
          )
      here None Retry is = (quiet-none begun, refl)
      here None DiscardData is = passed send.fails is
      here None DiscardDataAndFail is = passed true is

  is-delivered : (number : ℕ) (one was : Publisher T) (decisions : List BackpressureDecision) (left : List ℕ) (send : Send T)
      (service : Service T) → at number service.publishers ≡ Some was
      → InHand number one left send service (deliver number decisions left send service)
  is-delivered number one was decisions [] send service found =
      (quiet-none (with_send number one (Some (record send { left = [] })) service), refl)
  is-delivered number one was decisions (subscriber ∷ more) send service found =
      is-offered number one was (put service.settings.enable_safe_overflow send.message (mailbox number subscriber service))
      (first_of decisions) subscriber more (deliver number (drop 1 decisions) more) send service found refl
      (λ next mid there. is-delivered number one was (drop 1 decisions) more next mid there)

  -- a send goes on that stands in its publisher
  pub goes-on : (choices : Choices T) (number : ℕ) (was one : Publisher T) (send : Send T) (old : Service T) (answer : Reply T)
      (new : Service T) → at number old.publishers ≡ Some was → GoesOn choices number one send old answer new
      → Quiets (with_send number one (Some send) old) new
  goes-on choices number was one send old answer new found h =
      let so = goes-on-so choices number one send old answer new h in
      let after : Send T × Service T = deliver number so.0 send.left send old in
      let mid : Service T = with_send number one (Some after.0) after.1 in
      let on : InHand number one send.left send old after = is-delivered number one was so.0 send.left send old found in
      quiet-both (with_send number one (Some send) old) mid new on.0
      (ends (is_some (slice_get after.0.left 0)) after (ap (at number) on.1 ∙ found) so.1.1)
    where
      ends : (waits : Bool) (after : Send T × Service T) → at number after.1.publishers ≡ Some was
          → new ≡ with_send number one (cond waits (Some after.0) None) after.1 → Quiets (with_send number one (Some after.0) after.1) new
      ends true after there same = quiet-same (with_send number one (Some after.0) after.1) new same
      ends false after there same =
          let held : Publisher T = record one { blocked = Some after.0 } in
          quiet-one (move.Concludes number held) (with_send number one (Some after.0) after.1) new (
            at-changed number held was after.1.publishers there,
            same ∙ ap (λ (l : List (ℕ × Publisher T)). record after.1 { publishers = l })
                (sym (changed-twice number held (record one { blocked = None }) after.1.publishers)),
          )

  begins : (choices : Choices T) (factories : List (ℕ × Factory)) (number : ℕ) (message : Message T) (one : Publisher T)
      (old : Service T) (answer : Reply T) (new : Service T)
      → at number old.publishers ≡ Some one → one.blocked ≡ None → Begins choices number message one old answer new
      → Walk factories (move.Begins number one message ∷ []) old new
  begins choices factories number message one old answer new found free h =
      loud-walk factories (move.Begins number one message) [] old
      (with_send number (keeping message one old) (Some (sending message one)) old) new (found, free, refl)
      (goes-on choices number one (keeping message one old) (sending message one) old answer new found h)

  -- What a send comes to: it doesn't begin; or it does, by its publisher after an update.
  abbrev pub Sent : List (ℕ × Factory) → ℕ → Message T → Publisher T → Service T → Reply T → Service T → Type 0
  Sent factories number message one old answer new =
      ((has_begun answer ≡ false) × Quiets old new)
      ⊎ ((has_begun answer ≡ true) × (sender : Publisher T) × (sender.last_sequence ≡ one.last_sequence)
      × Walk factories (move.Begins number sender message ∷ []) old new)

  pub sends : (choices : Choices T) (factories : List (ℕ × Factory)) (number : ℕ) (message : Message T) (one : Publisher T)
      (old : Service T) (answer : Reply T) (new : Service T)
      → at number old.publishers ≡ Some one → one.blocked ≡ None → Sends choices number message one old answer new
      → Sent factories number message one old answer new
  sends choices factories number message one old answer new found free h =
      elim (by-send choices number message one old answer new h) [
        | inl w ↦ updates choices (Sent factories number message one old answer new) number
            (λ failure. refusal.Send (error.ConnectionError failure)) (Begins choices number message) one old answer new found free
            (λ after mid on there is begun. inr (
              beginning-told choices number message after mid answer new begun,
              after,
              ap (λ (it : Publisher T). it.last_sequence) is,
              quiet-walk factories (move.Begins number after message ∷ []) old mid new on
                  (begins choices factories number message after mid answer new there
                  (ap (λ (it : Publisher T). it.blocked) is ∙ free) begun),
            ))
            (λ failure mid on refused. inl (ap has_begun refused.0, quiet-both old mid new on (quiet-same mid new refused.1))) w
        | inr w ↦ inl (ap has_begun w.1.0 ∙ at-once-silent T w.0, quiet-same old new w.1.1)
      ]

  pub numbered-by : (number count : ℕ) (one : Publisher T) (service : Service T) (after : Publisher T)
      → Lends number count one service None after → IsNumbered one after
  numbered-by number count one service after h =
      elim (by-option (loan_refusal number count one service)
      (MatchBool (nat_lt one.room count) (LendsLonger number count one None after)
      ((None ≡ None) × (after ≡ record one { next = one.next + 1 })))
      (λ why. (None ≡ Some why) × (after ≡ one)) h) [
        | inl w ↦ elim (by-bool (nat_lt one.room count) (LendsLonger number count one None after)
            ((None ≡ None) × (after ≡ record one { next = one.next + 1 })) w.1) [
              | inl k ↦ longer k.1
              | inr k ↦ (one.room, one.segments, one.first, inl (refl, refl), k.1.1)
            ]
        | inr w ↦ never-some w.0 w.2.0
      ]
    where
      longer : LendsLonger number count one None after → IsNumbered one after
      longer (inl (told, same)) = never-some _ told
      longer (inr (room, allowed, few, told, same)) = (room, one.segments + 1, one.next, inr (refl, allowed.1), same)

  -- ---- a subscriber

  boxed-connects : (limit subscriber : ℕ) (publishers : List ℕ) (service : Service T)
      → Boxed service (fold (λ (it : Service T) (publisher : ℕ). connect limit publisher subscriber it) service publishers)
  boxed-connects limit subscriber [] service = refl
  boxed-connects limit subscriber (publisher ∷ more) service =
      let mid : Service T = connect limit publisher subscriber service in
      boxed-both service mid (fold (λ (it : Service T) (other : ℕ). connect limit other subscriber it) mid more)
      (boxed-connect limit publisher subscriber service) (boxed-connects limit subscriber more mid)

  pub attended : (buffer number : ℕ) (one : Subscriber) (old : Service T) (after : Subscriber) (new : Service T)
      → subscribing.Follows buffer number one old after new
      → IsTurned one after × (new ≡ record (with_subscriber number after old) { mailboxes = new.mailboxes })
  attended buffer number one old after new (refused, allowed, connected, places, is, came) = (
    subst (λ (it : Subscriber). IsTurned one it) (sym is) refl,
    subst (λ (s : Service T). s ≡ record (with_subscriber number after old) { mailboxes = s.mailboxes }) (sym came)
        (boxed-connects one.buffer_size number (those connected) (with_subscriber number after old)),
  )

  pub attends : (choices : Choices T) (Q : Type 0) (buffer number : ℕ) (told : ConnectionFailure → Refusal)
      (Does : Subscriber → Service T → Reply T → Service T → Type 0) (one : Subscriber) (old : Service T) (answer : Reply T)
      (new : Service T) → at number old.subscribers ≡ Some one → one.stands ≡ true
      → ((after : Subscriber) (mid : Service T) → Quiets old mid → at number mid.subscribers ≡ Some after → after.stands ≡ true
      → Does after mid answer new → Q)
      → ((why : Refusal) (mid : Service T) → Quiets old mid → IsRefused why mid answer new → Q)
      → subscribing.UpdatesFirst choices buffer number told Does one old answer new → Q
  attends choices Q buffer number told Does one old answer new found stands does refused h =
      elim (by-bool ((one.seen == old.publisher_list.changes) && not one.again) (Does one old answer new)
      ((after : Subscriber) × (mid : Service T) × subscribing.Follows buffer number one old after mid
      × Outcomes (choices.subscriber_acts number one.degradation) (zip old.publisher_list.places after.connected)
      (λ done. Does after mid answer new) (λ failure. IsRefused (told failure) mid answer new)) h) [
        | inl w ↦ does one old (quiet-none old) found stands w.1
        | inr w ↦ came_so w.1.0 w.1.1 w.1.2 w.1.3
      ]
    where
      came_so : (after : Subscriber) (mid : Service T) → subscribing.Follows buffer number one old after mid
          → Outcomes (choices.subscriber_acts number one.degradation) (zip old.publisher_list.places after.connected)
          (λ done. Does after mid answer new) (λ failure. IsRefused (told failure) mid answer new) → Q
      came_so after mid came told_so =
          let so : IsTurned one after × (mid ≡ record (with_subscriber number after old) { mailboxes = mid.mailboxes }) =
          attended buffer number one old after mid came in
          let on : Quiets old mid = quiet-one (move.Attends buffer number one after) old mid (found, came, so.0, so.1) in
          elim (by-outcome (choices.subscriber_acts number one.degradation) (zip old.publisher_list.places after.connected)
          (λ done. Does after mid answer new) (λ failure. IsRefused (told failure) mid answer new) told_so) [
            | inl r ↦ does after mid on (ap (λ (it : Service T). at number it.subscribers) so.1
                ∙ at-changed number after one old.subscribers found)
                (ap (λ (it : Subscriber). it.stands) so.0 ∙ stands) r.2
            | inr r ↦ refused (told r.0) mid on r.2
          ]

  -- ---- the hub

  -- What a command and its answer tell of one loud move.
  abbrev pub IsTold : Command T → State T → Reply T → Loud T → Type 0
  IsTold asked old answer (move.Lends number was after loan one) = (loan ≡ old.made.loans + 1) × (answer ≡ reply.LoanMade loan)
  IsTold asked old answer (move.Writes loan one values) = length values ≡ length one.values
  IsTold asked old answer (move.Begins number one message) = BeginsToSend number message.values asked old answer
  IsTold asked old answer (move.Takes number sample) =
      (asked ≡ command.Receive sample.subscriber) × (number ≡ old.made.samples + 1)
      × ((values : Vec T) × (vec_items values ≡ sample.message.values) × (answer ≡ reply.Received number values))
  IsTold asked old answer (move.Releases number sample) = asked ≡ command.Release number
  IsTold asked old answer (move.Publishes place number options one after) =
      (asked ≡ command.Publisher one.factory options) × (number ≡ old.made.publishers + 1) × (answer ≡ reply.PublisherMade number)
  IsTold asked old answer (move.Subscribes buffer place number options one after) =
      (asked ≡ command.Subscriber one.factory options) × (number ≡ old.made.subscribers + 1) × (answer ≡ reply.SubscriberMade number)
  IsTold asked old answer other = ⊤

  -- What a command and its answer tell of the loud moves that a step makes.
  abbrev pub Told : Command T → State T → Reply T → List (Loud T) → Type 0
  Told asked old answer loud =
      ((p : ℕ) → begun_by p asked old answer ≡ begun_of p loud)
      × ((p n : ℕ) → if_it n (begun_of p loud) ≤ gone_of p n loud)
      × ((p : ℕ) → came_of p loud ≤ of_told (publisher_told answer) p)
      × ((sample : ℕ) → is_release_of sample asked ≡ false → releases_of sample loud ≡ false)
      × (writes_late loud ≡ false) × AllByRecursion (IsTold asked old answer) loud × (begins_early loud ≡ false)

  -- What a step does at a service.
  abbrev pub Walks : Command T → State T → Reply T → Service T → Service T → Type 0
  Walks asked old answer service after = (loud : List (Loud T)) × Told asked old answer loud × Walk old.factories loud service after

  -- A step at a service where no port comes or leaves.
  abbrev pub Strides : Command T → State T → Reply T → Service T → Service T → Type 0
  Strides asked old answer service after =
      (loud : List (Loud T)) × (has_port loud ≡ false) × Told asked old answer loud × Walk old.factories loud service after

  -- One where a port does, and nothing else is done.
  abbrev pub Ports : Command T → State T → Reply T → Service T → Service T → Type 0
  Ports asked old answer service after =
      (one : Loud T) × (is_port one ≡ true) × Told asked old answer (one ∷ []) × Loudly old.factories one service after

  abbrev pub Acts : Command T → State T → Reply T → Service T → Service T → Type 0
  Acts asked old answer service after = Strides asked old answer service after ⊎ Ports asked old answer service after

  -- No service changes, nor a factory.
  abbrev pub IsStill : State T → State T → Type 0
  IsStill old new = (new.services ≡ old.services) × (new.factories ≡ old.factories)

  -- One service becomes another, and all others stay.
  abbrev pub OneBecomes : (Service T → Service T → Type 0) → State T → Reply T → State T → Type 0
  OneBecomes Does old answer new =
      (has : Service T → Bool) × (service : Service T) × (after : Service T) × (find has old.services ≡ Some service)
      × Does service after × (new ≡ record old { made = counted answer old.made; services = replaced has after old.services })

  -- A node has a factory more, and its service is open.
  abbrev pub IsOpened : State T → State T → Type 0
  IsOpened old new =
      (factory : Factory) × (phase : Phase) × (new.factories ≡ old.factories ++ (old.made.factories + 1, factory) ∷ [])
      × (new.services ≡ with_open factory.name phase old.services)

  -- A factory of which nothing is used is gone, with its service if no other factory is of that.
  abbrev pub IsShut : State T → State T → Type 0
  IsShut old new =
      (number : ℕ) × (factory : Factory) × (at number old.factories ≡ Some factory)
      × (list_any (λ (service : Service T). is_service_of factory service && is_used_by number service) old.services ≡ false)
      × (new.factories ≡ removed number old.factories)
      × (new.services ≡ cond (list_any (λ (entry : ℕ × Factory). same_pattern entry.1.pattern factory.pattern
      && bytes_eq entry.1.name factory.name) (removed number old.factories))
      old.services (filter (λ (service : Service T). not (is_service_of factory service)) old.services))

  -- What each step is, if a service at which something is done becomes another so.
  abbrev pub Becomes : (Service T → Service T → Type 0) → Command T → State T → Reply T → State T → Type 0
  Becomes Does asked old answer new =
      (new.made ≡ counted answer old.made)
      × ((Told asked old answer [] × (IsStill old new ⊎ (IsOpened old new ⊎ IsShut old new))) ⊎ OneBecomes Does old answer new)

  abbrev pub Moves : Command T → State T → Reply T → State T → Type 0
  Moves asked old answer new = Becomes (Walks asked old answer) asked old answer new

  abbrev pub Parts : Command T → State T → Reply T → State T → Type 0
  Parts asked old answer new = Becomes (Acts asked old answer) asked old answer new

  pub walked : (asked : Command T) (old : State T) (answer : Reply T) (service after : Service T) → Acts asked old answer service after
      → Walks asked old answer service after
  walked asked old answer service after (inl (loud, none, told, walk)) = (loud, told, walk)
  walked asked old answer service after (inr (one, is, told, did)) =
      (one ∷ [], told, loud-walk old.factories one [] service after after did (quiet-none after))

  -- ---- what is told

  -- where no send begins
  pub tells : (asked : Command T) (old : State T) (answer : Reply T) (loud : List (Loud T))
      → ((p : ℕ) → begun_by p asked old answer ≡ None) → ((p : ℕ) → begun_of p loud ≡ None)
      → ((p : ℕ) → came_of p loud ≤ of_told (publisher_told answer) p)
      → ((sample : ℕ) → is_release_of sample asked ≡ false → releases_of sample loud ≡ false)
      → writes_late loud ≡ false → AllByRecursion (IsTold asked old answer) loud → begins_early loud ≡ false → Told asked old answer loud
  tells asked old answer loud none silent came released early each last = (
    (λ p. none p ∙ sym (silent p)),
    (λ p n. subst (λ (o : Option (Message T)). if_it n o ≤ gone_of p n loud) (sym (silent p)) (least (gone_of p n loud))),
    came,
    released,
    early,
    each,
    last,
  )

  pub tells-nothing : (asked : Command T) (old : State T) (answer : Reply T) → ((p : ℕ) → begun_by p asked old answer ≡ None)
      → Told asked old answer []
  tells-nothing asked old answer none =
      tells asked old answer [] none (λ p. refl) (λ p. least (of_told (publisher_told answer) p)) (λ sample kept. refl) refl tt refl

  -- where one does: the message's number was taken just before, or its loan spent
  pub tells-begun : (asked : Command T) (old : State T) (answer : Reply T) (number : ℕ) (sender : Publisher T) (message : Message T)
      (loud : List (Loud T))
      → ((p : ℕ) → begun_by p asked old answer ≡ cond (number == p) (Some (numbered sender message)) None)
      → ((p : ℕ) → begun_of p loud ≡ cond (number == p) (Some (numbered sender message)) None)
      → ((p n : ℕ) → gone_of p n loud ≡ one_if ((number == p) && (message.number == n)) + 0)
      → ((p : ℕ) → came_of p loud ≡ 0) → ((sample : ℕ) → releases_of sample loud ≡ false) → writes_late loud ≡ false
      → AllByRecursion (IsTold asked old answer) loud → begins_early loud ≡ false → Told asked old answer loud
  tells-begun asked old answer number sender message loud begun silent gone came released early each last = (
    (λ p. begun p ∙ sym (silent p)),
    (λ p n. subst (λ (o : Option (Message T)). if_it n o ≤ gone_of p n loud) (sym (silent p))
        (subst (λ (k : ℕ). if_it n (cond (number == p) (Some (numbered sender message)) None) ≤ k) (sym (gone p n))
        (hand (number == p) n))),
    (λ p. subst (λ (k : ℕ). k ≤ of_told (publisher_told answer) p) (sym (came p)) (least (of_told (publisher_told answer) p))),
    (λ sample kept. released sample),
    early,
    each,
    last,
  )
    where
      same : (x : ℕ) → x ≤ x + 0
      same x = omega arith

      hand : (b : Bool) (n : ℕ) → if_it n (cond b (Some (numbered sender message)) None) ≤ one_if (b && (message.number == n)) + 0
      hand true n = same (one_if (message.number == n))
      hand false n = omega arith

  pub publisher-up : (number : ℕ) (service : Service T) (one : Publisher T) → publisher_in number service ≡ Some one → one.stands ≡ true
  publisher-up number service one e = found (at number service.publishers) e
    where
      found : (o : Option (Publisher T)) → option_and_then (λ (p : Publisher T). cond p.stands (Some p) None) o ≡ Some one
          → one.stands ≡ true
      found None e = never-some one e
      found (Some p) e = elim (chosen p.stands (Some p) None (Some one) e) [
        | inl w ↦ subst (λ (it : Publisher T). it.stands ≡ true) (same-some p one w.1) w.0
        | inr w ↦ never-some one w.1
      ]
