-- What a receive borrows.
use Rattle.std.proofs.Common.{◌≡◌, ◌+◌, ℕ, Bool, cond, ◌&&◌, List, [], ◌∷◌, ◌++◌, Option, Some, refl, sym, ap, inl, inr}
use Rattle.std.proofs.Common.{◌∙◌}
use Rattle.std.proofs.lemmas.Bool.{cases_Bool, eqb-true}
use Rattle.std.specs.Prelude.{◌==◌, drop, find, is_some, slice_get, take, unwrap_or}
use Rattle.std.specs.Vec.{vec_items}
use Rattle.iox_machine.proofs.Attending.{Attends, attends-first}
use Rattle.iox_machine.proofs.Cases.{both-true, by-option, never-some, same-some}
use Rattle.iox_machine.proofs.Frames.{box-same}
use Rattle.iox_machine.proofs.Moving.{at-one}
use Rattle.iox_machine.proofs.Runs.{never-received, never-told, number_in, values_in}
use Rattle.iox_machine.proofs.Shorthands.{taken, with_subscriber}
use Rattle.iox_machine.proofs.Waiting.{attended-here}
use Rattle.iox_machine.specs.BorrowedLaws.{IsBorrowed, ReceivesBorrow}
use Rattle.iox_machine.specs.Choices.{Choices}
use Rattle.iox_machine.specs.Mailbox.{Mailbox}
use Rattle.iox_machine.specs.Message.{Message, Sample}
use Rattle.iox_machine.specs.Ports.{subscriber_in}
use Rattle.iox_machine.specs.Receiving.{Receives, Takes, has_samples, lasting}
use Rattle.iox_machine.specs.Service.{Service, Subscriber, mailbox, with_mailbox}
use Rattle.iox_machine.specs.State.{State, replaced}
use Rattle.iox_machine.specs.SubscriberUpdate as subscribing
use Rattle.iox_machine.specs.WaitingLaws.{IsAttended}
use Rattle.iox_command.specs.DomainValues.declared.port_error.ReceiveError.TheVariants as receive_error
use Rattle.iox_command.specs.declared.refusal.Refusal.TheVariants as refusal
use Rattle.iox_command.specs.declared.reply.Reply.{Reply}
use Rattle.iox_command.specs.declared.reply.Reply.TheVariants as reply

-- ---- the oldest that waits

first-dropped : {X : Type 0} (xs : List X) (x : X) → slice_get xs 0 ≡ Some x → xs ≡ x ∷ drop 1 xs
first-dropped [] x e = never-some x e
first-dropped (y ∷ xs) x e = ap (λ (it : _). it ∷ xs) (same-some y x e)

first-taken : {X : Type 0} (xs : List X) (x : X) → slice_get xs 0 ≡ Some x → take 1 xs ≡ x ∷ []
first-taken [] x e = never-some x e
first-taken (y ∷ xs) x e = ap (λ (it : _). it ∷ []) (same-some y x e)

module _ {T : Type 0} (number publisher : ℕ) (message : Message T) (service after : Service T) where
  abbrev there : Mailbox T
  there = mailbox publisher number service

  pub is-borrowed : slice_get there.waiting 0 ≡ Some message
      → after.mailboxes ≡ (with_mailbox publisher number (taken there) service).mailboxes
      → IsBorrowed message publisher number service after
  is-borrowed first came = (
    first-dropped there.waiting message first ∙ ap (λ (box : Mailbox T). message ∷ box.waiting) (sym box),
    ap (λ (it : Mailbox T). it.borrowed) box
        ∙ ap (λ (l : List (Message T)). there.borrowed ++ l) (first-taken there.waiting message first),
    ap (λ (it : Mailbox T). it.limit) box,
    (λ one other off. elim (cases_Bool ((one == publisher) && (other == number))) [
      | inl is ↦
          let both = both-true (one == publisher) (other == number) is in
          absurd (off (eqb-true one publisher both.0, eqb-true other number both.1))
      | inr is ↦ as_box one other
          ∙ ap (λ (b : Bool). unwrap_or (cond b (Some (taken there)) (service.mailboxes one other))
          (record { limit = 0; waiting = []; borrowed = [] })) is
    ]),
  )
    where
      as_box : (one other : ℕ) → mailbox one other after
          ≡ unwrap_or ((with_mailbox publisher number (taken there) service).mailboxes one other)
          (record { limit = 0; waiting = []; borrowed = [] })
      as_box one other =
          ap (λ (boxes : ℕ → ℕ → Option (Mailbox T)). unwrap_or (boxes one other) (record { limit = 0; waiting = []; borrowed = [] })) came

      box : mailbox publisher number after ≡ taken there
      box =
          as_box publisher number
          ∙ ap (λ (o : Option (Mailbox T)). unwrap_or o (record { limit = 0; waiting = []; borrowed = [] }))
          (box-same publisher number (taken there) service)

pub receives-borrow : {T : Type 0} (choices : Choices T) → ReceivesBorrow choices
receives-borrow {T} choices types buffer number sample values old new h =
    elim (at-one (subscriber_in number) (subscribing.UpdatesFirst choices buffer number
    (λ failure. refusal.Receive (receive_error.ConnectionFailure failure)) (Receives number (old.made.samples + 1))) old
    (reply.Received sample values) new h) [
      | inl w ↦ never-told (reply.Received sample values) reply.Skipped w.0 refl refl
      | inr w ↦ elim (attends-first choices buffer number (λ failure. refusal.Receive (receive_error.ConnectionFailure failure))
          (Receives number (old.made.samples + 1)) w.1 w.0 (reply.Received sample values) w.2 w.4 w.5) [
            | inl r ↦ never-told (reply.Received sample values) (reply.Refused (refusal.Receive (receive_error.ConnectionFailure r.0))) r.1
                refl refl
            | inr r ↦ received w.0 w.1 w.2 w.3 w.4 (ap (λ (state : State T). state.services) w.6) r.0 r.1 r.2 r.3 r.4
          ]
    ]
  where
    has : Service T → Bool
    has other = is_some (subscriber_in number other)

    Borrows : Type 0
    Borrows =
        (mid : State T) × (service : Service T) × (one : Subscriber) × (after : Service T) × (publisher : ℕ) × (message : Message T)
        × IsAttended types choices buffer number old mid service one
        × (new.services ≡ replaced has after old.services)
        × (vec_items values ≡ message.values) × IsBorrowed message publisher number service after
        × (after.samples
        ≡ service.samples ++ (sample, record { publisher = publisher; subscriber = number; message = message }) ∷ [])
        × (after ≡ record service { subscribers = after.subscribers; mailboxes = after.mailboxes; samples = after.samples })

    received : (was : Service T) (one : Subscriber) (after : Service T) → find has old.services ≡ Some was
        → subscriber_in number was ≡ Some one → new.services ≡ replaced has after old.services → (next : Subscriber) (service : Service T)
        → subscriber_in number service ≡ Some next → Attends choices buffer number one was reply.Done service
        → Receives number (old.made.samples + 1) next service (reply.Received sample values) after → Borrows
    received was one after first there came next service known attends (giver, is, did) =
        elim (by-option giver
        ((reply.Received sample values
        ≡ cond (has_samples number next service) (reply.Refused (refusal.Receive receive_error.ExceedsMaxBorrows)) reply.NothingWaits)
        × (after ≡ swept)) (λ publisher. Takes number (old.made.samples + 1) publisher swept (reply.Received sample values) after) did) [
          | inl k ↦ never-received sample values (has_samples number next service) (refusal.Receive receive_error.ExceedsMaxBorrows) k.1.0
          | inr k ↦ took k.0 k.2
        ]
      where
        swept : Service T
        swept = with_subscriber number (record next { expired = lasting number service next.expired }) service

        took : (publisher : ℕ) → Takes number (old.made.samples + 1) publisher swept (reply.Received sample values) after → Borrows
        took publisher (message, given, oldest, same, told, turned) = (
          record old { services = replaced has service old.services },
          service,
          next,
          after,
          publisher,
          message,
          attended-here types choices buffer number old was one next service first there attends known,
          came,
          ap (λ (answer : Reply T). vec_items (values_in answer given)) told ∙ same,
          is-borrowed number publisher message service after oldest (ap (λ (end : Service T). end.mailboxes) turned),
          ap (λ (end : Service T). end.samples) turned
              ∙ ap (λ (n : ℕ). service.samples ++ (n, held_so publisher message) ∷ []) (sym (ap number_in told)),
          turned ∙ (λ i. record service {
            subscribers = sym (ap (λ (end : Service T). end.subscribers) turned) i;
            mailboxes = sym (ap (λ (end : Service T). end.mailboxes) turned) i;
            samples = sym (ap (λ (end : Service T). end.samples) turned) i;
          }),
        )
          where
            held_so : ℕ → Message T → Sample T
            held_so from what = record { publisher = from; subscriber = number; message = what }
