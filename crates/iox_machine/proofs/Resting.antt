-- What stays in all that ports do: what is borrowed, the samples, and how subscribers were named.
use Rattle.std.proofs.Common.{◌≡◌, ◌+◌, ℕ, Bool, true, false, cond, not, ◌&&◌, List, [], ◌∷◌, ◌++◌, length}
use Rattle.std.proofs.Common.{Option, None, Some, refl, sym, ap, subst, inl, inr, ◌∙◌, true≢false}
use Rattle.std.specs.Prelude.{◌==◌, filter, nat_le, option_map, zip}
use Rattle.iox_machine.proofs.Cases.{by-bool, never-some, same-some}
use Rattle.iox_machine.proofs.Delivering.{Outcomes, by-outcome}
use Rattle.iox_machine.proofs.Frames.{by-follows, soft-followed}
use Rattle.iox_machine.proofs.Linking.{changed-view}
use Rattle.iox_machine.proofs.MoveForms.{Loud, Loudly, Quiet, Quietly, Quiets, with_send}
use Rattle.iox_machine.proofs.MoveForms as move
use Rattle.iox_machine.proofs.MoveLaws.{quiets-by}
use Rattle.iox_machine.proofs.Shorthands.{IsRefused, with_publisher, with_subscriber}
use Rattle.iox_machine.proofs.Tables.{at-changed}
use Rattle.iox_machine.proofs.Through.{borrowed-connects, borrowed-ended, borrowed-set, borrowed-welcomes, borrowed_in}
use Rattle.iox_machine.specs.Choices.{Choices}
use Rattle.iox_machine.specs.Mailbox.{Mailbox, newest, put}
use Rattle.iox_machine.specs.Message.{Message}
use Rattle.iox_machine.specs.PortList.{those}
use Rattle.iox_machine.specs.PublisherUpdate as publishing
use Rattle.iox_machine.specs.Service.{Publisher, Send, Service, Subscriber, mailbox, with_mailbox}
use Rattle.iox_machine.specs.State.{Factory}
use Rattle.iox_machine.specs.SubscriberUpdate as subscribing
use Rattle.iox_machine.specs.Table.{at, contains}
use Rattle.iox_command.specs.DomainValues.declared.connection_failure.ConnectionFailure.{ConnectionFailure}
use Rattle.iox_command.specs.DomainValues.declared.degradation.DegradationAction.{DegradationAction}
use Rattle.iox_command.specs.declared.refusal.Refusal.{Refusal}
use Rattle.iox_command.specs.declared.reply.Reply.{Reply}

-- how a subscriber was named: its buffer, and what it does at a failed connection
abbrev pub named_of : Subscriber → ℕ × DegradationAction
named_of one = (one.buffer_size, one.degradation)

module _ {T : Type 0} where
  abbrev pub named_at : ℕ → Service T → Option (ℕ × DegradationAction)
  named_at number service = option_map named_of (at number service.subscribers)

  -- What is borrowed stays, and so do all samples, the settings, and how each subscriber was named.
  abbrev pub Rests : Service T → Service T → Type 0
  Rests old new =
      ((publisher subscriber : ℕ) → (mailbox publisher subscriber new).borrowed ≡ (mailbox publisher subscriber old).borrowed)
      × (new.samples ≡ old.samples) × (new.settings ≡ old.settings)
      × ((number : ℕ) → named_at number new ≡ named_at number old)

  pub rests-itself : (service : Service T) → Rests service service
  rests-itself service = ((λ publisher subscriber. refl), refl, refl, (λ number. refl))

  pub rests-same : (old new : Service T) → new ≡ old → Rests old new
  rests-same old new same = subst (Rests old) (sym same) (rests-itself old)

  pub rests-both : (one two three : Service T) → Rests one two → Rests two three → Rests one three
  rests-both one two three h k = (
    (λ publisher subscriber. k.0 publisher subscriber ∙ h.0 publisher subscriber),
    k.1 ∙ h.1,
    k.2 ∙ h.2,
    (λ number. k.3 number ∙ h.3 number),
  )

  pub rests-publisher : (number : ℕ) (after : Publisher T) (service : Service T) → Rests service (with_publisher number after service)
  rests-publisher number after service = ((λ publisher subscriber. refl), refl, refl, (λ n. refl))

  pub rests-subscriber : (number : ℕ) (was after : Subscriber) (service : Service T) → at number service.subscribers ≡ Some was
      → named_of after ≡ named_of was → Rests service (with_subscriber number after service)
  rests-subscriber number was after service found same = (
    (λ publisher subscriber. refl),
    refl,
    refl,
    (λ n. changed-view named_of number n was after service.subscribers found same),
  )

  rests-box : (p s : ℕ) (box : Mailbox T) (service : Service T) → box.borrowed ≡ (mailbox p s service).borrowed
      → Rests service (with_mailbox p s box service)
  rests-box p s box service same =
      ((λ publisher subscriber. borrowed-set publisher subscriber p s box service same), refl, refl, (λ n. refl))

  put-borrowed : (overflows : Bool) (message : Message T) (box now : Mailbox T) → put overflows message box ≡ Some now
      → now.borrowed ≡ box.borrowed
  put-borrowed overflows message box now is =
      here (newest box.limit (box.waiting ++ message ∷ [])) (not overflows && nat_le box.limit (length box.waiting)) is
    where
      filled : List (Message T) → Mailbox T
      filled waiting = record box { waiting = waiting }

      here : (waiting : List (Message T)) (b : Bool) → cond b None (Some (filled waiting)) ≡ Some now → now.borrowed ≡ box.borrowed
      here waiting true e = never-some now e
      here waiting false e = ap (λ (it : Mailbox T). it.borrowed) (sym (same-some (filled waiting) now e))

  -- ---- updates

  pub rests-follows : (number : ℕ) (was : Publisher T) (old : Service T) (after : Publisher T) (new : Service T)
      → publishing.Follows number was old after new → Rests old new
  rests-follows number was old after new (refused, allowed, is, came) =
      let begun : Service T = with_publisher number after (publishing.ended number old) in
      let news : List ℕ = filter (λ (t : ℕ). not (contains (those was.connected) t)) (those after.connected) in
      let by = by-follows number was old after new (refused, allowed, is, came) in (
        (λ p s. ap (λ (it : Service T). borrowed_in (it.mailboxes p s)) came
            ∙ (borrowed-welcomes p s number was.history news begun ∙ borrowed-ended p s number old)),
        by.4,
        by.1,
        (λ n. ap (λ (table : List (ℕ × Subscriber)). option_map named_of (at n table)) by.3),
      )

  -- what a subscriber leaves that follows the list of publishers
  pub rests-attends : (buffer number : ℕ) (was : Subscriber) (old : Service T) (after : Subscriber) (new : Service T)
      → subscribing.Follows buffer number was old after new → Rests (with_subscriber number after old) new
  rests-attends buffer number was old after new h =
      let soft = soft-followed buffer number was old after new h in (
        (λ p s. ap (λ (it : Service T). borrowed_in (it.mailboxes p s)) h.5
            ∙ borrowed-connects p s was.buffer_size number (those h.2) (with_subscriber number after old)),
        soft.0.4,
        soft.0.1,
        (λ n. ap (λ (table : List (ℕ × Subscriber)). option_map named_of (at n table)) soft.2),
      )

  rests-attended : (buffer number : ℕ) (was : Subscriber) (old : Service T) (after : Subscriber) (new : Service T)
      → at number old.subscribers ≡ Some was → subscribing.Follows buffer number was old after new → Rests old new
  rests-attended buffer number was old after new found h =
      rests-both old (with_subscriber number after old) new (rests-subscriber number was after old found (ap named_of h.4))
      (rests-attends buffer number was old after new h)

  -- A subscriber does something after it updated its connections, or is refused then; `Is` holds then.
  pub rests-attending : (choices : Choices T) (Is : Type 0) (buffer number : ℕ) (told : ConnectionFailure → Refusal)
      (Does : Subscriber → Service T → Reply T → Service T → Type 0) (one : Subscriber) (old : Service T) (answer : Reply T)
      (new : Service T) → at number old.subscribers ≡ Some one
      → ((after : Subscriber) (mid : Service T) → Rests old mid → at number mid.subscribers ≡ Some after → Does after mid answer new → Is)
      → ((why : Refusal) (mid : Service T) → Rests old mid → IsRefused why mid answer new → Is)
      → subscribing.UpdatesFirst choices buffer number told Does one old answer new → Is
  rests-attending choices Is buffer number told Does one old answer new found does refused h =
      elim (by-bool ((one.seen == old.publisher_list.changes) && not one.again) (Does one old answer new)
      ((after : Subscriber) × (mid : Service T) × subscribing.Follows buffer number one old after mid
      × Outcomes (choices.subscriber_acts number one.degradation) (zip old.publisher_list.places after.connected)
      (λ done. Does after mid answer new) (λ failure. IsRefused (told failure) mid answer new)) h) [
        | inl w ↦ does one old (rests-itself old) found w.1
        | inr w ↦ followed w.1.0 w.1.1 w.1.2 w.1.3
      ]
    where
      followed : (after : Subscriber) (mid : Service T) → subscribing.Follows buffer number one old after mid
          → Outcomes (choices.subscriber_acts number one.degradation) (zip old.publisher_list.places after.connected)
          (λ done. Does after mid answer new) (λ failure. IsRefused (told failure) mid answer new) → Is
      followed after mid came said =
          let on : Rests old mid = rests-attended buffer number one old after mid found came in
          elim (by-outcome (choices.subscriber_acts number one.degradation) (zip old.publisher_list.places after.connected)
          (λ done. Does after mid answer new) (λ failure. IsRefused (told failure) mid answer new) said) [
            | inl r ↦ does after mid on
                (ap (at number) (soft-followed buffer number one old after mid came).2 ∙ at-changed number after one old.subscribers found)
                r.2
            | inr r ↦ refused (told r.0) mid on r.2
          ]

  -- ---- each move

  rests-quiet : (one : Quiet T) (old new : Service T) → Quietly one old new → Rests old new
  rests-quiet (move.Retries number one send elapsed) old new (on, came) =
      let next : Send T = record send { retries = send.retries + 1; elapsed = elapsed } in
      subst (Rests old) (sym came) (rests-publisher number (record one { blocked = Some next }) old)
  rests-quiet (move.Puts number one send subscriber more box) old new (on, waits, took, came) =
      let next : Send T = record send { left = more; retries = 0; elapsed = 0; delivered = send.delivered + 1 } in
      let mid : Service T = with_send number one (Some next) old in
      subst (Rests old) (sym came)
      (rests-both old mid (with_mailbox number subscriber box mid) (rests-publisher number (record one { blocked = Some next }) old)
      (rests-box number subscriber box mid
      (put-borrowed old.settings.enable_safe_overflow send.message (mailbox number subscriber old) box took)))
  rests-quiet (move.Passes number one send subscriber more fails) old new (on, waits, full, came) =
      let next : Send T = record send { left = more; retries = 0; elapsed = 0; fails = fails } in
      subst (Rests old) (sym came) (rests-publisher number (record one { blocked = Some next }) old)
  rests-quiet (move.Concludes number one) old new (found, came) =
      subst (Rests old) (sym came) (rests-publisher number (record one { blocked = None }) old)
  rests-quiet (move.Follows number was after) old new ((found, free), did, is, came) = rests-follows number was old after new did
  rests-quiet (move.Attends buffer number was after) old new (found, did, is, came) =
      rests-attended buffer number was old after new found did
  rests-quiet (move.Sweeps number was expired) old new (found, came) =
      subst (Rests old) (sym came) (rests-subscriber number was (record was { expired = expired }) old found refl)

  pub rests-quiets : (old new : Service T) → Quiets old new → Rests old new
  rests-quiets old new h = quiets-by Rests rests-itself rests-both rests-quiet old new h

  -- Whether the move is none by which a sample or a subscriber comes or goes.
  abbrev pub is_resting : Loud T → Bool
  is_resting (move.Takes number sample) = false
  is_resting (move.Releases number sample) = false
  is_resting (move.Subscribes buffer place number options one after) = false
  is_resting other = true

  pub rests-loud : (factories : List (ℕ × Factory)) (one : Loud T) (old new : Service T) → is_resting one ≡ true
      → Loudly factories one old new → Rests old new
  rests-loud factories (move.Lends number was after loan one) old new rests (found, up, numbers, by, next, came) =
      subst (Rests old) (sym came) ((λ publisher subscriber. refl), refl, refl, (λ n. refl))
  rests-loud factories (move.Numbers number was after) old new rests (found, numbers, came) =
      subst (Rests old) (sym came) (rests-publisher number after old)
  rests-loud factories (move.Writes loan one values) old new rests (found, came) =
      subst (Rests old) (sym came) ((λ publisher subscriber. refl), refl, refl, (λ n. refl))
  rests-loud factories (move.Spends loan one) old new rests (found, came) =
      subst (Rests old) (sym came) ((λ publisher subscriber. refl), refl, refl, (λ n. refl))
  rests-loud factories (move.Begins number one message) old new rests (found, free, came) =
      subst (Rests old) (sym came) ((λ publisher subscriber. refl), refl, refl, (λ n. refl))
  rests-loud factories (move.Publishes place number options one after) old new rests
      (open_one, (made, free, mid, did, listed), is, came) =
      let more : Service T = record old { publishers = old.publishers ++ (number, one) ∷ [] } in
      subst (Rests old) (sym listed)
      (rests-both old more mid ((λ publisher subscriber. refl), refl, refl, (λ n. refl)) (rests-follows number one more after mid did))
  rests-loud factories (move.Unpublishes number one) old new rests (found, came) =
      subst (Rests old) (sym came) ((λ publisher subscriber. refl), refl, refl, (λ n. refl))
  rests-loud factories (move.Unsubscribes number one) old new rests (found, came) =
      subst (Rests old) (sym came) (
        (λ publisher subscriber. refl),
        refl,
        refl,
        (λ n. changed-view named_of number n one (record one { stands = false }) old.subscribers found refl),
      )
  rests-loud factories other old new rests did = absurd (true≢false (sym rests))
