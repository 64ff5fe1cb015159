-- What each move does to the order in which a publisher's messages were sent and received.
use Rattle.std.proofs.Common.{◌≡◌, ◌⊎◌, ◌+◌, ℕ, Bool, true, false, cond, List, [], ◌∷◌, ◌++◌, Option, None, Some, refl, sym, ap}
use Rattle.std.proofs.Common.{subst, inl, inr, ◌∙◌, true≢false}
use Rattle.std.proofs.lemmas.Bool.{cases_Bool, eqb-false, eqb-true, or_parts}
use Rattle.std.specs.List.{AllByRecursion}
use Rattle.std.specs.Prelude.{⊤, ◌==◌, is_some, MatchOption}
use Rattle.iox_machine.proofs.Delivering.{keeping, sending}
use Rattle.iox_machine.proofs.Frames.{ByPublisher, BySubscriber, box-aside, box-other, box-same, by-follows, by-set, soft-follows}
use Rattle.iox_machine.proofs.Frames.{soft-given, soft-set, waiting_in}
use Rattle.iox_machine.proofs.Lists.{all-joined}
use Rattle.iox_machine.proofs.MoveForms.{Loud, Loudly, Quiet, Quietly, Walk, begins_early, begun_of, has_port, is_begin, is_port, with_send}
use Rattle.iox_machine.proofs.MoveForms as move
use Rattle.iox_machine.proofs.MoveLaws.{Lasts, by-quiets, quiets-by}
use Rattle.iox_machine.proofs.Moves.{IsTold}
use Rattle.iox_machine.proofs.Order.{BetweenOf, IsUnder, MayCome, Stands, Under, begun-between, follows-between, follows-publishers}
use Rattle.iox_machine.proofs.Order.{free-between, put-waits, sends-so, under-past, under-put}
use Rattle.iox_machine.proofs.OrderSteps.{Alike, Moves, alike-by, alike-none, alike-soft, between-found, lacks-none, made-same, moves-alike}
use Rattle.iox_machine.proofs.OrderSteps.{moves-stands, noted}
use Rattle.iox_machine.proofs.Shorthands.{with_publisher}
use Rattle.iox_machine.proofs.Tables.{at-changed, at-changed-other}
use Rattle.iox_machine.specs.Mailbox.{Mailbox, newest, put}
use Rattle.iox_machine.specs.Message.{Message}
use Rattle.iox_machine.specs.PublisherUpdate as publishing
use Rattle.iox_machine.specs.RunLaws.{BeginsToSend, numbered}
use Rattle.iox_machine.specs.Service.{Publisher, Send, Service, mailbox, with_mailbox}
use Rattle.iox_machine.specs.State.{Factory, Made, State}
use Rattle.iox_machine.specs.Table.{at}
use Rattle.iox_command.specs.NegotiateBase.DescribeSettings.declared.static_config.publish_subscribe.StaticConfig.{StaticConfig}
use Rattle.iox_command.specs.declared.command.Command.{Command}
use Rattle.iox_command.specs.declared.command.Command.TheVariants as command
use Rattle.iox_command.specs.declared.reply.Reply.{Reply}

module _ {T : Type 0} where
  -- Name and settings stay.
  abbrev IsNamed : Service T → Service T → Type 0
  IsNamed old new = (new.name ≡ old.name) × (new.settings ≡ old.settings)

  named-both : (one two three : Service T) → IsNamed one two → IsNamed two three → IsNamed one three
  named-both one two three h k = (k.0 ∙ h.0, k.1 ∙ h.1)

  named-lasts : Lasts IsNamed
  named-lasts = record {
    none = λ service. (refl, refl);
    both = named-both;
    boxed = λ boxes service. (refl, refl);
    alike = λ number was after service found is. (refl, refl);
    turned = λ number was after service found is. (refl, refl);
  }

  named-loud : (factories : List (ℕ × Factory)) (one : Loud T) (old new : Service T) → is_port one ≡ false
      → Loudly factories one old new → IsNamed old new
  named-loud factories (move.Lends number was after loan one) old new beside (found, up, numbers, by, next, came) =
      subst (IsNamed old) (sym came) (refl, refl)
  named-loud factories (move.Numbers number was after) old new beside (found, numbers, came) =
      subst (IsNamed old) (sym came) (refl, refl)
  named-loud factories (move.Writes loan one values) old new beside (found, came) = subst (IsNamed old) (sym came) (refl, refl)
  named-loud factories (move.Spends loan one) old new beside (found, came) = subst (IsNamed old) (sym came) (refl, refl)
  named-loud factories (move.Begins number one message) old new beside (found, free, came) =
      subst (IsNamed old) (sym came) (refl, refl)
  named-loud factories (move.Takes number sample) old new beside (holder, first, came) = subst (IsNamed old) (sym came) (refl, refl)
  named-loud factories (move.Releases number sample) old new beside (found, came) = subst (IsNamed old) (sym came) (refl, refl)
  named-loud factories other old new beside did = absurd (true≢false beside)

  -- Whether it is a command by which no message is received.
  abbrev pub receives_none : Command T → Bool
  receives_none (command.Receive number) = false
  receives_none other = true

  begun-later : (p : ℕ) (one : Loud T) (more : List (Loud T)) → is_begin one ≡ false → begun_of p (one ∷ more) ≡ begun_of p more
  begun-later p (move.Begins number one message) more is = absurd (true≢false is)
  begun-later p other more is = refl

module _ {T : Type 0} (p s : ℕ) (G : List ℕ → StaticConfig → Message T → Type 0) (made : Made) (First : Type 0) where
  stands-set : (sent received : List (Message T)) (number : ℕ) (was after : Publisher T) (old : Service T) → number ≡ p
      → at number old.publishers ≡ Some was → BetweenOf p s sent received made.subscribers after old
      → Stands p s sent received made.subscribers (with_publisher number after old)
  stands-set sent received number was after old is found b =
      subst (λ (k : ℕ). Stands p s sent received made.subscribers (with_publisher k after old)) (sym is)
      (after, at-changed p after was old.publishers (subst (λ (k : ℕ). at k old.publishers ≡ Some was) is found), b)

  -- one move after the other
  moves-both : (sent mid then received : List (Message T)) (one two three : Service T)
      → Moves p s G made made sent received mid received First one two → Moves p s G made made mid received then received First two three
      → Moves p s G made made sent received then received First one three
  moves-both sent mid then received one two three h k = (
    (λ lacks.
        let went = h.0 lacks in
        let on = k.0 went.0 in
        (on.0, on.1 ∙ went.1, on.2 ∙ went.2)),
    (λ fits first. k.1 (h.1 fits first) first),
  )

  module _ (sent received : List (Message T)) where
    abbrev Still : Service T → Service T → Type 0
    Still old new = Moves p s G made made sent received sent received First old new

    still-alike : (old new : Service T) → Alike p s old new → Still old new
    still-alike old new a = moves-alike p s G made made sent received First old new (made-same made) a

    still-none : (service : Service T) → Still service service
    still-none service = still-alike service service (alike-none p s service)

    still-both : (one two three : Service T) → Still one two → Still two three → Still one three
    still-both one two three h k = moves-both sent sent sent received one two three h k

    at-publisher : (number : ℕ) (one : Publisher T) (old new : Service T) → at number old.publishers ≡ Some one → IsNamed old new
        → ((p ≡ number → ⊥) → Alike p s old new)
        → (number ≡ p → BetweenOf p s sent received made.subscribers one old → Stands p s sent received made.subscribers new)
        → Still old new
    at-publisher number one old new found named others own = elim (cases_Bool (number == p)) [
      | inl is ↦ moves-stands p s G made made sent received First old new one (made-same made) named.0 named.1
          (subst (λ (k : ℕ). at k old.publishers ≡ Some one) (eqb-true number p is) found) (own (eqb-true number p is))
      | inr off ↦ still-alike old new (others (λ e. eqb-false number p off (sym e)))
    ]

    pub set-still : (number : ℕ) (was after : Publisher T) (old : Service T) → at number old.publishers ≡ Some was
        → (BetweenOf p s sent received made.subscribers was old → BetweenOf p s sent received made.subscribers after old)
        → Still old (with_publisher number after old)
    set-still number was after old found on =
        at-publisher number was old (with_publisher number after old) found (refl, refl)
        (λ off. alike-by p s number old (with_publisher number after old) off (by-set number after old))
        (λ is b. stands-set sent received number was after old is found (on b))

    -- ---- quiet moves

    under-of : (one : Publisher T) (send : Send T) (old : Service T) → one.blocked ≡ Some send
        → BetweenOf p s sent received made.subscribers one old
        → IsUnder T s (MayCome s made.subscribers old.subscriber_list.places) sent received one.connected (old.mailboxes p s) send
    under-of one send old waits b =
        subst (λ (o : Option (Send T)). MatchOption o ⊤ (IsUnder T s (MayCome s made.subscribers old.subscriber_list.places) sent received
        one.connected (old.mailboxes p s))) waits b.under

    under-left : (one : Publisher T) (send : Send T) (subscriber : ℕ) (more : List ℕ) (old : Service T) (before : List (Message T))
        → send.left ≡ subscriber ∷ more
        → Under T s (MayCome s made.subscribers old.subscriber_list.places) received before send.message one.connected send.left
        (old.mailboxes p s)
        → Under T s (MayCome s made.subscribers old.subscriber_list.places) received before send.message one.connected (subscriber ∷ more)
        (old.mailboxes p s)
    under-left one send subscriber more old before is u =
        subst (λ (l : List ℕ). Under T s (MayCome s made.subscribers old.subscriber_list.places) received before send.message one.connected
        l (old.mailboxes p s)) is u

    puts-own : (one : Publisher T) (send : Send T) (subscriber : ℕ) (more : List ℕ) (box : Mailbox T) (old : Service T)
        → at p old.publishers ≡ Some one → one.blocked ≡ Some send → send.left ≡ subscriber ∷ more
        → put old.settings.enable_safe_overflow send.message (mailbox p subscriber old) ≡ Some box
        → BetweenOf p s sent received made.subscribers one old
        → Stands p s sent received made.subscribers (with_mailbox p subscriber box (with_send p one
        (Some (record send { left = more; retries = 0; elapsed = 0; delivered = send.delivered + 1 })) old))
    puts-own one send subscriber more box old found blocked is took b = (
      record one { blocked = Some next },
      at-changed p (record one { blocked = Some next }) one old.publishers found,
      sends-so p s sent received u.0 made.subscribers one next old end.mailboxes u.1 b (here (cases_Bool (subscriber == s))),
    )
      where
        next : Send T
        next = record send { left = more; retries = 0; elapsed = 0; delivered = send.delivered + 1 }

        end : Service T
        end = with_mailbox p subscriber box old

        May : Type 0
        May = MayCome s made.subscribers old.subscriber_list.places

        u : IsUnder T s May sent received one.connected (old.mailboxes p s) send
        u = under-of one send old blocked b

        v : Under T s May received u.0 send.message one.connected (subscriber ∷ more) (old.mailboxes p s)
        v = under-left one send subscriber more old u.0 is u.2

        put_at : (subscriber == s) ≡ true
            → (limit : ℕ) × (box.waiting ≡ newest limit (waiting_in (old.mailboxes p s) ++ send.message ∷ []))
        put_at same =
            subst (λ (k : ℕ). (limit : ℕ) × (box.waiting ≡ newest limit (waiting_in (old.mailboxes p k) ++ send.message ∷ [])))
            (eqb-true subscriber s same)
            (put-waits p s old.settings.enable_safe_overflow send.message (mailbox p subscriber old) box took)

        here : ((subscriber == s) ≡ true) ⊎ ((subscriber == s) ≡ false)
            → Under T s May received u.0 send.message one.connected more (end.mailboxes p s)
        here (inl same) =
            subst (λ (o : Option (Mailbox T)). Under T s May received u.0 send.message one.connected more o)
            (sym (subst (λ (k : ℕ). end.mailboxes p k ≡ Some box) (eqb-true subscriber s same) (box-same p subscriber box old)))
            (under-put p s May received u.0 send.message one.connected subscriber more (old.mailboxes p s) box same (put_at same) v)
        here (inr other) =
            subst (λ (o : Option (Mailbox T)). Under T s May received u.0 send.message one.connected more o)
            (sym (box-aside p subscriber box old p s (λ e. eqb-false subscriber s other (sym e))))
            (under-past p s May received u.0 send.message one.connected subscriber more (old.mailboxes p s) v)

    still-quiet : (one : Quiet T) (old new : Service T) → Quietly one old new → Still old new
    still-quiet (move.Retries number one send elapsed) old new (on, came) =
        let next : Send T = record send { retries = send.retries + 1; elapsed = elapsed } in
        subst (Still old) (sym came)
        (set-still number one (record one { blocked = Some next }) old on.0
        (λ b. let u = under-of one send old on.1 b in sends-so p s sent received u.0 made.subscribers one next old old.mailboxes u.1 b u.2))
    still-quiet (move.Puts number one send subscriber more box) old new (on, waits, took, came) =
        let next : Send T = record send { left = more; retries = 0; elapsed = 0; delivered = send.delivered + 1 } in
        let mid : Service T = with_send number one (Some next) old in
        subst (Still old) (sym came)
        (at-publisher number one old (with_mailbox number subscriber box mid) on.0 (refl, refl)
        (λ off.
        let same : (with_mailbox number subscriber box mid).mailboxes p s ≡ old.mailboxes p s = box-other number subscriber box mid p s
        off in (
          refl,
          refl,
          at-changed-other number p (record one { blocked = Some next }) old.publishers off,
          refl,
          (ap waiting_in same, λ is. ap is_some same ∙ is),
        ))
        (λ is b. subst (λ (k : ℕ). Stands p s sent received made.subscribers (with_mailbox k subscriber box (with_send k one (Some next)
        old)))
        (sym is)
        (puts-own one send subscriber more box old (subst (λ (k : ℕ). at k old.publishers ≡ Some one) is on.0) on.1 waits
        (subst (λ (k : ℕ). put old.settings.enable_safe_overflow send.message (mailbox k subscriber old) ≡ Some box) is took) b)))
    still-quiet (move.Passes number one send subscriber more fails) old new (on, waits, full, came) =
        let next : Send T = record send { left = more; retries = 0; elapsed = 0; fails = fails } in
        subst (Still old) (sym came)
        (set-still number one (record one { blocked = Some next }) old on.0
        (λ b. let u = under-of one send old on.1 b in
        sends-so p s sent received u.0 made.subscribers one next old old.mailboxes u.1 b
        (under-past p s (MayCome s made.subscribers old.subscriber_list.places) received u.0 send.message one.connected subscriber more
        (old.mailboxes p s) (under-left one send subscriber more old u.0 waits u.2))))
    still-quiet (move.Concludes number one) old new (found, came) =
        subst (Still old) (sym came)
        (set-still number one (record one { blocked = None }) old found
        (λ b. free-between p s sent received made.subscribers one old b))
    still-quiet (move.Follows number was after) old new ((found, free), did, is, came) =
        let by : ByPublisher number old new = by-follows number was old after new did in
        at-publisher number was old new found (by.0, by.1) (λ off. alike-by p s number old new off by)
        (λ same b.
        let own : publishing.Follows p was old after new = subst (λ (k : ℕ). publishing.Follows k was old after new) same did in (
          after,
          follows-publishers p s was old after new (subst (λ (k : ℕ). at k old.publishers ≡ Some was) same found) own,
          (follows-between p s sent received made.subscribers was old after new free own b).0,
        ))
    still-quiet (move.Attends buffer number was after) old new (found, did, is, came) =
        still-alike old new (alike-soft p s old new (soft-follows buffer number was old after new found did).0)
    still-quiet (move.Sweeps number was expired) old new (found, came) =
        still-alike old new (alike-soft p s old new
        (subst (BySubscriber old) (sym came) (soft-set number was (record was { expired = expired }) old found refl)))

  module _ (asked : Command T) (state : State T) (answer : Reply T) (none : receives_none asked ≡ true) where
    -- a move by which no send begins
    still-loud : (sent received : List (Message T)) (factories : List (ℕ × Factory)) (one : Loud T) (old new : Service T)
        → is_port one ≡ false → is_begin one ≡ false → IsTold asked state answer one → Loudly factories one old new
        → Still sent received old new
    still-loud sent received factories (move.Lends number was after loan one) old new beside silent told
        (found, up, ((room, segments, first, grown, is), lent), by, next, came) =
        subst (Still sent received old) (sym came) (set-still sent received number was after old found
        (λ b. subst (λ (q : Publisher T). BetweenOf p s sent received made.subscribers q old) (sym is) b))
    still-loud sent received factories (move.Numbers number was after) old new beside silent told
        (found, (room, segments, first, grown, is), came) =
        subst (Still sent received old) (sym came) (set-still sent received number was after old found
        (λ b. subst (λ (q : Publisher T). BetweenOf p s sent received made.subscribers q old) (sym is) b))
    still-loud sent received factories (move.Writes loan one values) old new beside silent told (found, came) =
        still-alike sent received old new (subst (Alike p s old) (sym came) (alike-none p s old))
    still-loud sent received factories (move.Spends loan one) old new beside silent told (found, came) =
        still-alike sent received old new (subst (Alike p s old) (sym came) (alike-none p s old))
    still-loud sent received factories (move.Releases number sample) old new beside silent told (found, came) =
        still-alike sent received old new (subst (Alike p s old) (sym came)
        (refl, refl, refl, refl, soft-given sample.message.number sample.publisher sample.subscriber old p s))
    still-loud sent received factories (move.Takes number sample) old new beside silent told did =
        absurd (true≢false (sym none ∙ ap (λ (it : Command T). receives_none it) told.0))
    still-loud sent received factories (move.Begins number one message) old new beside silent told did = absurd (true≢false silent)
    still-loud sent received factories other old new beside silent told did = absurd (true≢false beside)

    module _ (origin : Service T)
        (good : (message : Message T) → BeginsToSend p message.values asked state answer → First
        → G origin.name origin.settings message) where
      -- the last move, by which a send may begin
      last-moves : (sent received : List (Message T)) (factories : List (ℕ × Factory)) (one : Loud T) (old new : Service T)
          → IsNamed origin old → is_port one ≡ false → IsTold asked state answer one → Loudly factories one old new
          → Moves p s G made made sent received (noted sent (begun_of p (one ∷ []))) received First old new
      last-moves sent received factories (move.Begins number one message) old new named beside told (found, free, came) =
          here (number == p) refl
        where
          begun : Publisher T
          begun = record (keeping message one old) { blocked = Some (sending message one) }

          sent_one : Message T
          sent_one = numbered one message

          here : (b : Bool) → (number == p) ≡ b
              → Moves p s G made made sent received (noted sent (cond b (Some (numbered one message)) None)) received First old new
          here false off =
              still-alike sent received old new (subst (Alike p s old) (sym came)
              (alike-by p s number old (with_publisher number begun old) (λ e. eqb-false number p off (sym e)) (by-set number begun old)))
          here true same =
              let is : number ≡ p = eqb-true number p same in
              let there : at p old.publishers ≡ Some one = subst (λ (k : ℕ). at k old.publishers ≡ Some one) is found in
              subst (λ (it : Service T). Moves p s G made made sent received (sent ++ sent_one ∷ []) received First old it) (sym came) (
                (λ lacks. lacks-none p s made.subscribers old one there lacks),
                (λ fits first. (
                  stands-set (sent ++ sent_one ∷ []) received number one begun old is found
                      (begun-between p s sent received made.subscribers message one old
                      (between-found p s sent received made.subscribers old one there fits.0)),
                  fits.1,
                  all-joined (G old.name old.settings) sent (sent_one ∷ []) fits.2 (
                    subst (λ (name : List ℕ). G name old.settings sent_one) (sym named.0)
                        (subst (λ (c : StaticConfig). G origin.name c sent_one) (sym named.1)
                        (good sent_one (subst (λ (k : ℕ). BeginsToSend k message.values asked state answer) is told) first)),
                    tt,
                  ),
                )),
              )
      last-moves sent received factories other old new named beside told did =
          still-loud sent received factories other old new beside refl told did

      pub walk-moves : (sent received : List (Message T)) (factories : List (ℕ × Factory)) (loud : List (Loud T)) (old new : Service T)
          → IsNamed origin old → has_port loud ≡ false → begins_early loud ≡ false → AllByRecursion (IsTold asked state answer) loud
          → Walk factories loud old new
          → Moves p s G made made sent received (noted sent (begun_of p loud)) received First old new
      walk-moves sent received factories [] old new named beside early told h =
          quiets-by (Still sent received) (still-none sent received) (still-both sent received) (still-quiet sent received) old new h
      walk-moves sent received factories (one ∷ []) old new named beside early told h =
          let then : List (Message T) = noted sent (begun_of p (one ∷ [])) in
          let parts : (is_port one ≡ false) × (has_port {T = T} [] ≡ false) = or_parts (is_port one) (has_port {T = T} []) beside in
          moves-both sent sent then received old h.0 new
          (quiets-by (Still sent received) (still-none sent received) (still-both sent received) (still-quiet sent received) old h.0 h.2)
          (moves-both sent then then received h.0 h.1 new
          (last-moves sent received factories one h.0 h.1
          (named-both origin old h.0 named (by-quiets IsNamed named-lasts old h.0 h.2)) parts.0 told.0 h.3)
          (quiets-by (Still then received) (still-none then received) (still-both then received) (still-quiet then received) h.1 new h.4))
      walk-moves sent received factories (one ∷ two ∷ more) old new named beside early told h =
          let parts : (is_port one ≡ false) × (has_port (two ∷ more) ≡ false) = or_parts (is_port one) (has_port (two ∷ more)) beside in
          let begins : (is_begin one ≡ false) × (begins_early (two ∷ more) ≡ false) =
          or_parts (is_begin one) (begins_early (two ∷ more)) early in
          let next : IsNamed origin h.1 =
          named-both origin old h.1 named (named-both old h.0 h.1 (by-quiets IsNamed named-lasts old h.0 h.2)
          (named-loud factories one h.0 h.1 parts.0 h.3)) in
          subst (λ (o : Option (Message T)). Moves p s G made made sent received (noted sent o) received First old new)
          (sym (begun-later p one (two ∷ more) begins.0))
          (moves-both sent sent (noted sent (begun_of p (two ∷ more))) received old h.1 new
          (still-both sent received old h.0 h.1
          (quiets-by (Still sent received) (still-none sent received) (still-both sent received) (still-quiet sent received) old h.0 h.2)
          (still-loud sent received factories one h.0 h.1 parts.0 begins.0 told.0 h.3))
          (walk-moves sent received factories (two ∷ more) h.1 new next parts.1 begins.1 told.1 h.4))
