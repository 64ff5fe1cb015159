-- What a subscriber is due to get from a publisher stays so in what each of both does, and in what other ports do.
use Rattle.std.proofs.Common.{◌≡◌, ◌⊎◌, ◌+◌, ℕ, Bool, true, false, cond, List, [], ◌∷◌, ◌++◌, Option, None, Some, refl, sym, ap, subst, inl}
use Rattle.std.proofs.Common.{inr, ◌∙◌, append_assoc}
use Rattle.std.proofs.lemmas.Bool.{eqb-false, ne_eqb, or_from}
use Rattle.std.specs.List.{AllByRecursion, IsDistinct}
use Rattle.std.specs.Option.{option_map_or}
use Rattle.std.specs.Prelude.{◌==◌, drop, find, is_some, map, slice_get, zip}
use Rattle.iox_machine.specs.Choices.{Choices}
use Rattle.iox_machine.specs.Lending.{Lends}
use Rattle.iox_machine.specs.LossLaws.{IsDropped, takes_it}
use Rattle.iox_machine.specs.Mailbox.{Mailbox, newest, put}
use Rattle.iox_machine.specs.Message.{Message}
use Rattle.iox_machine.specs.MessageLaws.{begun_by, received_by, with_one}
use Rattle.iox_machine.specs.PortList.{those}
use Rattle.iox_machine.specs.PublisherUpdate as publishing
use Rattle.iox_machine.specs.RunLaws.{has_begun, numbered}
use Rattle.iox_machine.specs.Sending.{Begins, GoesOn, Sends}
use Rattle.iox_machine.specs.SequenceLaws.{has_message, on_way, passed_by, still_brought, to_come, waiting_for}
use Rattle.iox_machine.specs.Service.{Publisher, Send, Service, mailbox, with_mailbox}
use Rattle.iox_machine.specs.State.{Made, State, replaced}
use Rattle.iox_machine.specs.Table.{at, contains}
use Rattle.iox_machine.proofs.Cases.{by-bool, never-some, same-some}
use Rattle.iox_machine.proofs.Causes.{Due, Splits, begun-due, deliver-left, goes-due, opened, way_in}
use Rattle.iox_machine.proofs.CauseUpdates.{DueOf, IsKept, follows-due}
use Rattle.iox_machine.proofs.Delivering.{Outcomes, at-once-silent, at_once, by-outcome, by-send, deliver, first_of, goes-on-so, keeping}
use Rattle.iox_machine.proofs.Delivering.{offered, sending}
use Rattle.iox_machine.proofs.Frames.{by-deliver, waiting_in}
use Rattle.iox_machine.proofs.Gaps.{from-map}
use Rattle.iox_machine.proofs.Lists.{all-weaker}
use Rattle.iox_machine.proofs.Losses.{left-out}
use Rattle.iox_machine.proofs.Order.{BetweenOf, absurd-both, follows-between, follows-publishers, lends-between}
use Rattle.iox_machine.proofs.OrderLaws.{all-behind}
use Rattle.iox_machine.proofs.Moves.{first-is}
use Rattle.iox_machine.proofs.OrderSteps.{IsOfOne, Lacks}
use Rattle.iox_machine.proofs.Parts.{Once}
use Rattle.iox_machine.proofs.Runs.{all-found}
use Rattle.iox_machine.proofs.Moves.{beginning-told}
use Rattle.iox_machine.proofs.Tables.{at-changed}
use Rattle.iox_command.specs.DomainValues.Sequences.{next_sequence}
use Rattle.iox_command.specs.DomainValues.declared.backpressure.BackpressureDecision.{BackpressureDecision}
use Rattle.iox_command.specs.DomainValues.declared.backpressure.BackpressureDecision.TheVariants.{Retry, DiscardData, DiscardDataAndFail}
use Rattle.iox_command.specs.DomainValues.declared.connection_failure.ConnectionFailure.{ConnectionFailure}
use Rattle.iox_command.specs.DomainValues.declared.port_error.LoanError.{LoanError}
use Rattle.iox_command.specs.DomainValues.declared.port_error.SendError.TheVariants as error
use Rattle.iox_command.specs.NegotiateBase.DescribeSettings.declared.static_config.publish_subscribe.StaticConfig.{StaticConfig}
use Rattle.iox_command.specs.declared.command.Command.{Command}
use Rattle.iox_command.specs.declared.refusal.Refusal.{Refusal}
use Rattle.iox_command.specs.declared.refusal.Refusal.TheVariants as refusal
use Rattle.iox_command.specs.declared.reply.Reply.{Reply}
use Rattle.iox_machine.proofs.Shorthands.{IsRefused, with_publisher}
use Rattle.iox_command.specs.declared.reply.Reply.TheVariants as reply

module _ {T : Type 0} (p s : ℕ) where
  abbrev pub HasDue : (Message T → Type 0) → List (Message T) → List (Message T) → Service T → Type 0
  HasDue D sent received service = (one : Publisher T) → at p service.publishers ≡ Some one → DueOf p s D sent received one service

  abbrev pub AreDue : (Message T → Type 0) → List (Message T) → List (Message T) → State T → Type 0
  AreDue D sent received state = Splits p s D sent received × AllByRecursion (HasDue D sent received) state.services

  abbrev pub has_p : Service T → Bool
  has_p service = is_some (at p service.publishers)

  -- ---- messages that are different

  pub map-front : (P : ℕ → Type 0) (xs ys : List (Message T)) → AllByRecursion P (map (λ (x : Message T). x.number) (xs ++ ys))
      → AllByRecursion P (map (λ (x : Message T). x.number) xs)
  map-front P [] ys all = tt
  map-front P (x ∷ xs) ys all = (all.0, map-front P xs ys all.1)

  pub distinct-front : (xs ys : List (Message T))
      → IsDistinct (λ one other. one == other) (map (λ (x : Message T). x.number) (xs ++ ys))
      → IsDistinct (λ one other. one == other) (map (λ (x : Message T). x.number) xs)
  unfolding IsDistinct
  distinct-front [] ys apart = tt
  distinct-front (x ∷ xs) ys apart =
      (map-front (λ (n : ℕ). (x.number == n) ≡ false) xs ys apart.0, distinct-front xs ys apart.1)

  pub last-apart : (xs ys : List (Message T)) (m : Message T)
      → IsDistinct (λ one other. one == other) (map (λ (x : Message T). x.number) (xs ++ m ∷ ys))
      → AllByRecursion (λ x. has_message (m ∷ []) x ≡ false) xs
  unfolding IsDistinct
  last-apart [] ys m apart = tt
  last-apart (x ∷ xs) ys m apart =
      let off : (x.number == m.number) ≡ false =
      (all-behind (λ (y : Message T). (x.number == y.number) ≡ false) xs (m ∷ ys)
      (from-map (λ (n : ℕ). (x.number == n) ≡ false) (xs ++ m ∷ ys) apart.0)).0 in (
        or_from (m.number == x.number) false (ne_eqb m.number x.number (λ same. eqb-false x.number m.number off (sym same))) refl,
        last-apart xs ys m apart.1,
      )

  pub has-one : (D : Message T → Type 0) (sent received : List (Message T)) (service : Service T) (it : Publisher T)
      → at p service.publishers ≡ Some it → DueOf p s D sent received it service → HasDue D sent received service
  has-one D sent received service it found due one there =
      subst (λ (q : Publisher T). DueOf p s D sent received q service) (same-some it one (sym found ∙ there)) due

  -- ---- what a state has of it

  waiting-at : (state : State T) (service : Service T) → find has_p state.services ≡ Some service
      → waiting_for p s state ≡ waiting_in (service.mailboxes p s)
  waiting-at state service first =
      ap (λ (o : Option (Service T)). option_map_or (λ (it : Service T). (mailbox p s it).waiting) o []) first

  coming-at : (state : State T) (service : Service T) (one : Publisher T) → find has_p state.services ≡ Some service
      → at p service.publishers ≡ Some one → to_come p s state ≡ still_brought s one.blocked
  coming-at state service one first found =
      ap (λ (o : Option (Publisher T)). option_map_or (λ (it : Publisher T). still_brought s it.blocked) o [])
      (first-is (λ (it : Service T). at p it.publishers) state service one first found)

  pub way-at : (state : State T) (service : Service T) (one : Publisher T) → find has_p state.services ≡ Some service
      → at p service.publishers ≡ Some one → on_way p s state ≡ way_in p s one.blocked (service.mailboxes p s)
  way-at state service one first found =
      ap (λ (l : List (Message T)). l ++ to_come p s state) (waiting-at state service first)
      ∙ ap (λ (l : List (Message T)). waiting_in (service.mailboxes p s) ++ l) (coming-at state service one first found)

  -- The publisher's service before a command and after it, and the publisher itself.
  pub record Both (old new : State T) (service after : Service T) (one now : Publisher T) : Type 0 where
    pub first : find has_p old.services ≡ Some service
    pub then_first : find has_p new.services ≡ Some after
    pub found : at p service.publishers ≡ Some one
    pub then_found : at p after.publishers ≡ Some now

  pub is-dropped : (asked : Command T) (old : State T) (answer : Reply T) (new : State T) (service after : Service T)
      (one now : Publisher T) (x later : Message T) → Both old new service after one now
      → received_by p s asked answer new ≡ None → has_message (waiting_in (service.mailboxes p s)) x ≡ true
      → has_message (way_in p s now.blocked (after.mailboxes p s)) x ≡ false → after.settings.enable_safe_overflow ≡ true
      → has_message (still_brought s one.blocked ++ with_one (begun_by p asked old answer) []) later ≡ true
      → waiting_in (after.mailboxes p s)
      ≡ newest (opened p s (after.mailboxes p s)).limit (waiting_in (service.mailboxes p s) ++ later ∷ [])
      → IsDropped p s x asked old answer new
  is-dropped asked old answer new service after one now x later both unreceived waited off over brought waits = (
    ap (λ (l : List (Message T)). has_message l x) (waiting-at old service both.first) ∙ waited,
    ap (λ (o : Option (Message T)). has_message (with_one o (on_way p s new)) x) unreceived
        ∙ (ap (λ (l : List (Message T)). has_message l x) (way-at new after now both.then_first both.then_found) ∙ off),
    (
      after,
      later,
      both.then_first,
      over,
      ap (λ (l : List (Message T)). has_message (l ++ with_one (begun_by p asked old answer) []) later)
          (coming-at old service one both.first both.found) ∙ brought,
      waits ∙ ap (λ (l : List (Message T)). newest (opened p s (after.mailboxes p s)).limit (l ++ later ∷ []))
          (sym (waiting-at old service both.first)),
    ),
  )

  pub is-passed : (asked : Command T) (old : State T) (answer : Reply T) (new : State T) (service after : Service T)
      (one now : Publisher T) (x : Message T) → Both old new service after one now
      → has_message (still_brought s one.blocked ++ with_one (begun_by p asked old answer) []) x ≡ true
      → has_message (way_in p s now.blocked (after.mailboxes p s)) x ≡ false
      → has_message (passed_by p s asked old answer new) x ≡ true
  is-passed asked old answer new service after one now x both brought off =
      left-out x (on_way p s new) (to_come p s old ++ with_one (begun_by p asked old answer) [])
      (ap (λ (l : List (Message T)). has_message (l ++ with_one (begun_by p asked old answer) []) x)
      (coming-at old service one both.first both.found) ∙ brought)
      (ap (λ (l : List (Message T)). has_message l x) (way-at new after now both.then_first both.then_found) ∙ off)

  -- ---- the publisher's service is the one at which a command does something

  pub acted : (G : List ℕ → StaticConfig → Message T → Type 0) (made : Made) (sent received : List (Message T)) (has : Service T → Bool)
      (service after : Service T) (one now : Publisher T) (Q : Service T → Type 0) (services : List (Service T))
      → IsOfOne p s G made sent received services → find has services ≡ Some service → at p service.publishers ≡ Some one
      → at p after.publishers ≡ Some now → Q after → ((it : Service T) → at p it.publishers ≡ None → Q it)
      → (find has_p services ≡ Some service) × (find has_p (replaced has after services) ≡ Some after)
      × AllByRecursion Q (replaced has after services)
  acted G made sent received has service after one now Q [] of_one first found there q none = never-some service first
  acted G made sent received has service after one now Q (it ∷ more) (inl (lacks, rest)) first found there q none =
      step (λ same. acted G made sent received has service after one now Q more rest same found there q none) (has it) first
    where
      past : (xs : List (Service T)) → find has_p (it ∷ xs) ≡ find has_p xs
      past xs = ap (λ (o : Option (Publisher T)). cond (is_some o) (Some it) (find has_p xs)) lacks.0

      step : (find has more ≡ Some service → (find has_p more ≡ Some service) × (find has_p (replaced has after more) ≡ Some after)
          × AllByRecursion Q (replaced has after more)) → (b : Bool) → cond b (Some it) (find has more) ≡ Some service
          → (find has_p (it ∷ more) ≡ Some service)
          × (find has_p (cond b (after ∷ more) (it ∷ replaced has after more)) ≡ Some after)
          × AllByRecursion Q (cond b (after ∷ more) (it ∷ replaced has after more))
      step onto true same =
          never-some one (sym (subst (λ (one_of : Service T). at p one_of.publishers ≡ None) (same-some it service same) lacks.0) ∙ found)
      step onto false same =
          let next : (find has_p more ≡ Some service) × (find has_p (replaced has after more) ≡ Some after)
          × AllByRecursion Q (replaced has after more) = onto same in
          (past more ∙ next.0, past (replaced has after more) ∙ next.1, (none it lacks.0, next.2))
  acted G made sent received has service after one now Q (it ∷ more) (inr (fits, all)) first found there q none = step (has it) first
    where
      step : (b : Bool) → cond b (Some it) (find has more) ≡ Some service
          → (find has_p (it ∷ more) ≡ Some service)
          × (find has_p (cond b (after ∷ more) (it ∷ replaced has after more)) ≡ Some after)
          × AllByRecursion Q (cond b (after ∷ more) (it ∷ replaced has after more))
      step true same = (
        ap (λ (o : Option (Publisher T)). cond (is_some o) (Some it) (find has_p more)) fits.0.1 ∙ same,
        ap (λ (o : Option (Publisher T)). cond (is_some o) (Some after) (find has_p more)) there,
        (q, all-weaker (Lacks p s made.subscribers) Q (λ other lacks. none other lacks.0) more all),
      )
      step false same =
          let lacks : Lacks p s made.subscribers service = all-found (Lacks p s made.subscribers) has more service same all in
          never-some one (sym lacks.0 ∙ found)

  -- ---- a send goes on

  deliver-publishers : (decisions : List BackpressureDecision) (left : List ℕ) (send : Send T) (service : Service T)
      → (deliver p decisions left send service).1.publishers ≡ service.publishers
  deliver-publishers decisions [] send service = refl
  deliver-publishers decisions (t ∷ more) send service =
      step (put service.settings.enable_safe_overflow send.message (mailbox p t service)) (first_of decisions)
      (λ next mid. deliver-publishers (drop 1 decisions) more next mid)
    where
      step : (met : Option (Mailbox T)) (decision : BackpressureDecision)
          → ((next : Send T) (mid : Service T) → (deliver p (drop 1 decisions) more next mid).1.publishers ≡ mid.publishers)
          → (offered p met decision t more (deliver p (drop 1 decisions) more) send service).1.publishers ≡ service.publishers
      step (Some box) decision on =
          on (record send { retries = 0; elapsed = 0; delivered = send.delivered + 1 })
          (with_mailbox p t box service)
      step None Retry on = refl
      step None DiscardData on = on (record send { retries = 0; elapsed = 0 }) service
      step None DiscardDataAndFail on = on (record send { retries = 0; elapsed = 0; fails = true }) service

  -- what may be said of a message that leaves a mailbox, and of one that isn't put there
  abbrev pub DropsAt : (Message T → Type 0) → List (Message T) → Option (Mailbox T) → Message T → Service T → Type 0
  DropsAt E brought box m new = (now : Publisher T) → at p new.publishers ≡ Some now → (x : Message T)
      → has_message brought m ≡ true → has_message (waiting_in box) x ≡ true
      → has_message (way_in p s now.blocked (new.mailboxes p s)) x ≡ false → new.settings.enable_safe_overflow ≡ true
      → waiting_in (new.mailboxes p s) ≡ newest (opened p s (new.mailboxes p s)).limit (waiting_in box ++ m ∷ []) → E x

  abbrev pub PassesAt : (Message T → Type 0) → List (Message T) → Service T → Type 0
  PassesAt E brought new = (now : Publisher T) → at p new.publishers ≡ Some now → (x : Message T) → has_message brought x ≡ true
      → has_message (way_in p s now.blocked (new.mailboxes p s)) x ≡ false → contains (those now.connected) s ≡ true
      → takes_it new.settings.enable_safe_overflow x (opened p s (new.mailboxes p s)) ≡ false → E x

  abbrev pub Anew : List (Message T) → List (Message T) → Option (Mailbox T) → Message T → Type 0
  Anew sent received box m = (received ≡ []) × ((e : List (Message T)) × (sent ≡ e ++ (waiting_in box ++ m ∷ [])))

  abbrev pub Comes : (Message T → Type 0) → List (Message T) → List (Message T) → Service T → Type 0
  Comes E sent received new =
      (now : Publisher T) × (at p new.publishers ≡ Some now) × DueOf p s E sent received now new

  module _ (choices : Choices T) (D E : Message T → Type 0) (on : (x : Message T) → D x → E x) where
    pub goes-on-due : (sent received : List (Message T)) (one was : Publisher T) (send : Send T) (old : Service T) (answer : Reply T)
        (new : Service T) → at p old.publishers ≡ Some was → Once s send.left → GoesOn choices p one send old answer new
        → DropsAt E (still_brought s (Some send)) (old.mailboxes p s) send.message new ⊎ Anew sent received (old.mailboxes p s) send.message
        → PassesAt E (still_brought s (Some send)) new
        → Due p s D sent received one.history one.connected (Some send) (old.mailboxes p s) → Comes E sent received new
    goes-on-due sent received one was send old answer new found once h =
        let (decisions, (told, came)) = goes-on-so choices p one send old answer new h in
        let after : Send T × Service T = deliver p decisions send.left send old in
        let now : Publisher T = record one { blocked = cond (is_some (slice_get after.0.left 0)) (Some after.0) None } in
        let there : at p (with_publisher p now after.1).publishers ≡ Some now =
        at-changed p now was after.1.publishers (ap (at p) (deliver-publishers decisions send.left send old) ∙ found) in
        subst (λ (service : Service T). DropsAt E (still_brought s (Some send)) (old.mailboxes p s) send.message service
        ⊎ Anew sent received (old.mailboxes p s) send.message
        → PassesAt E (still_brought s (Some send)) service
        → Due p s D sent received one.history one.connected (Some send) (old.mailboxes p s) → Comes E sent received service) (sym came)
        (λ may pass due. (
          now,
          there,
          goes-due p s D E on old.settings.enable_safe_overflow sent received one.history one.connected send (old.mailboxes p s) after
              (elim may [
                | inl drops ↦ inl (λ x brought waited off over waits. drops now there x brought waited off
                    (ap (λ (c : StaticConfig). c.enable_safe_overflow) (by-deliver p decisions send.left send old).1 ∙ over) waits)
                | inr anew ↦ inr anew
              ])
              (λ x brought off met full. pass now there x brought off met
              (ap (λ (c : StaticConfig). takes_it c.enable_safe_overflow x (opened p s (after.1.mailboxes p s)))
              (by-deliver p decisions send.left send old).1 ∙ full))
              (deliver-left p s old.settings.enable_safe_overflow send.message decisions send.left send old once refl refl) due,
        ))

    -- a send begins
    begins-due : (sent received : List (Message T)) (born : ℕ) (message : Message T) (one : Publisher T) (old : Service T)
        (answer : Reply T) (new : Service T) → at p old.publishers ≡ Some one → one.blocked ≡ None
        → AllByRecursion (λ x. has_message (numbered one message ∷ []) x ≡ false) sent → BetweenOf p s sent received born one old
        → Begins choices p message one old answer new
        → DropsAt E (numbered one message ∷ []) (old.mailboxes p s) (numbered one message) new
        ⊎ Anew (sent ++ numbered one message ∷ []) received (old.mailboxes p s) (numbered one message)
        → PassesAt E (numbered one message ∷ []) new
        → DueOf p s D sent received one old → Comes E (sent ++ numbered one message ∷ []) received new
    begins-due sent received born message one old answer new found free fresh b h may pass due =
        goes-on-due (sent ++ numbered one message ∷ []) received (keeping message one old) one (sending message one) old answer new found
        b.connected_once h
        (elim may [
          | inl drops ↦ inl (λ now there x brought. drops now there x
              (certain (contains (those one.connected) s) (numbered one message) brought))
          | inr anew ↦ inr anew
        ])
        (λ now there x brought. pass now there x (certain (contains (those one.connected) s) x brought))
        (begun-due p s D sent received one.history one.connected (old.mailboxes p s) (sending message one) old.settings.history_size refl
        fresh
        (subst (λ (o : Option (Send T)). Due p s D sent received one.history one.connected o (old.mailboxes p s)) free due))
      where
        certain : (b : Bool) (x : Message T) → has_message (cond b (numbered one message ∷ []) []) x ≡ true
            → has_message (numbered one message ∷ []) x ≡ true
        certain true x is = is
        certain false x is = absurd-both false is refl

    -- ---- a publisher follows the list first

    pub updates-due : (R : Type 0) (sent received : List (Message T)) (born : ℕ) (told : ConnectionFailure → Refusal)
        (Does : Publisher T → Service T → Reply T → Service T → Type 0) (one : Publisher T) (old : Service T) (answer : Reply T)
        (new : Service T) → at p old.publishers ≡ Some one → one.blocked ≡ None → BetweenOf p s sent received born one old
        → DueOf p s D sent received one old
        → ((after : Publisher T) (mid : Service T) → at p mid.publishers ≡ Some after → after.blocked ≡ None
        → BetweenOf p s sent received born after mid → DueOf p s D sent received after mid
        → IsKept p s sent received (old.mailboxes p s) (mid.mailboxes p s) → after.last_sequence ≡ one.last_sequence
        → Does after mid answer new → R)
        → ((failure : ConnectionFailure) (mid : Service T) → Comes D sent received mid → IsRefused (told failure) mid answer new → R)
        → publishing.UpdatesFirst choices p told Does one old answer new → R
    updates-due R sent received born told Does one old answer new found free b due does refused h =
        elim (by-bool (one.seen == old.subscriber_list.changes) (Does one old answer new)
        ((after : Publisher T) × (mid : Service T) × publishing.Follows p one old after mid
        × Outcomes (choices.publisher_acts p one.degradation) (zip old.subscriber_list.places after.connected)
        (λ done. Does after mid answer new) (λ failure. IsRefused (told failure) mid answer new)) h) [
          | inl w ↦ does one old found free b due (inl refl) refl w.1
          | inr w ↦ next w.1.0 w.1.1 w.1.2 w.1.3
        ]
      where
        next : (after : Publisher T) (mid : Service T) → publishing.Follows p one old after mid
            → Outcomes (choices.publisher_acts p one.degradation) (zip old.subscriber_list.places after.connected)
            (λ done. Does after mid answer new) (λ failure. IsRefused (told failure) mid answer new) → R
        next after mid came told_so =
            let there : at p mid.publishers ≡ Some after = follows-publishers p s one old after mid found came in
            let now : BetweenOf p s sent received born after mid × (after.blocked ≡ None) =
            follows-between p s sent received born one old after mid free came b in
            let done : DueOf p s D sent received after mid
            × IsKept p s sent received (old.mailboxes p s) (mid.mailboxes p s) =
            follows-due p s D sent received born one old after mid free came b due in
            elim (by-outcome (choices.publisher_acts p one.degradation) (zip old.subscriber_list.places after.connected)
            (λ done. Does after mid answer new) (λ failure. IsRefused (told failure) mid answer new) told_so) [
              | inl r ↦ does after mid there now.1 now.0 done.0 done.1 (ap (λ (it : Publisher T). it.last_sequence) came.2) r.2
              | inr r ↦ refused r.0 mid (after, there, done.0) r.2
            ]

    -- ---- a publisher sends

    -- It began to send, and what is lost has a cause; or it didn't.
    abbrev pub CameSo : List (Message T) → List (Message T) → Message T → Reply T → Service T → Type 0
    CameSo sent received message answer new =
        ((has_begun answer ≡ true) × Comes E (sent ++ message ∷ []) received new)
        ⊎ ((has_begun answer ≡ false) × Comes D sent received new)

    pub unsent-so : (sent received : List (Message T)) (message : Message T) (why : Refusal) (mid : Service T) (answer : Reply T)
        (new : Service T) → has_begun {T = T} (reply.Refused why) ≡ false → Comes D sent received mid → IsRefused why mid answer new
        → CameSo sent received message answer new
    unsent-so sent received message why mid answer new silent comes refused = inr (
      ap has_begun refused.0 ∙ silent,
      subst (λ (service : Service T). Comes D sent received service) (sym refused.1) comes,
    )

    kept-drops : (sent received : List (Message T)) (box now : Option (Mailbox T)) (m : Message T) (new : Service T)
        → IsKept p s sent received box now → DropsAt E (m ∷ []) box m new
        → DropsAt E (m ∷ []) now m new ⊎ Anew (sent ++ m ∷ []) received now m
    kept-drops sent received box now m new (inl same) drops =
        inl (λ after there x brought waited off over waits. drops after there x brought
        (sym (ap (λ (l : List (Message T)). has_message l x) same) ∙ waited) off over
        (waits ∙ ap (λ (l : List (Message T)). newest (opened p s (new.mailboxes p s)).limit (l ++ m ∷ [])) same))
    kept-drops sent received box now m new (inr (inl none)) drops =
        inl (λ after there x brought waited off over waits. absurd-both (has_message (waiting_in now) x) waited
        (ap (λ (l : List (Message T)). has_message l x) none))
    kept-drops sent received box now m new (inr (inr (none, (e, is)))) drops = inr (
      none,
      (
        e,
        ap (λ (l : List (Message T)). l ++ m ∷ []) is ∙ append_assoc e (waiting_in now) (m ∷ []),
      ),
    )

    pub sends-due : (sent received : List (Message T)) (born : ℕ) (message : Message T) (one : Publisher T) (old : Service T)
        (answer : Reply T) (new : Service T) → at p old.publishers ≡ Some one → one.blocked ≡ None
        → (has_begun answer ≡ true → AllByRecursion (λ x. has_message (message ∷ []) x ≡ false) sent)
        → BetweenOf p s sent received born one old → DueOf p s D sent received one old
        → (has_begun answer ≡ true → DropsAt E (numbered one message ∷ []) (old.mailboxes p s) (numbered one message) new)
        → (has_begun answer ≡ true → PassesAt E (numbered one message ∷ []) new)
        → Sends choices p message one old answer new → CameSo sent received (numbered one message) answer new
    sends-due sent received born message one old answer new found free fresh b due drops passes h =
        elim (by-send choices p message one old answer new h) [
          | inl w ↦ updates-due (CameSo sent received (numbered one message) answer new) sent received born
              (λ failure. refusal.Send (error.ConnectionError failure)) (Begins choices p message) one old answer new found free b due
              (λ after mid there unblocked between due_then kept same begun.
              let told : has_begun answer ≡ true = beginning-told choices p message after mid answer new begun in
              let one_message : numbered after message ≡ numbered one message =
              ap (λ (last : Option ℕ). record message { sequence = next_sequence last }) same in
              inl (
                told,
                subst (λ (m : Message T). Comes E (sent ++ m ∷ []) received new) one_message
                    (begins-due sent received born message after mid answer new there unblocked (fresh told) between begun
                    (subst (λ (m : Message T). DropsAt E (m ∷ []) (mid.mailboxes p s) m new
                    ⊎ Anew (sent ++ m ∷ []) received (mid.mailboxes p s) m)
                    (sym one_message)
                    (kept-drops sent received (old.mailboxes p s) (mid.mailboxes p s) (numbered one message) new kept (drops told)))
                    (subst (λ (m : Message T). PassesAt E (m ∷ []) new) (sym one_message) (passes told)) due_then),
              ))
              (λ failure mid comes refused. unsent-so sent received (numbered one message)
              (refusal.Send (error.ConnectionError failure)) mid answer new refl comes refused) w
          | inr w ↦ unsent-so sent received (numbered one message) (refusal.Send (at_once w.0)) old answer new (at-once-silent T w.0)
              (one, found, due) w.1
        ]

  -- ---- a publisher lends

  pub lends-due : (D : Message T → Type 0) (sent received : List (Message T)) (count : ℕ) (one : Publisher T) (old : Service T)
      (refused : Option LoanError) (after : Publisher T) → Lends p count one old refused after → DueOf p s D sent received one old
      → DueOf p s D sent received after (with_publisher p after old)
  lends-due D sent received count one old refused after lent due =
      lends-between p s p count one old refused after
      (λ history connected blocked last. Due p s D sent received history connected blocked (old.mailboxes p s)) lent due
