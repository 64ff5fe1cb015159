-- A receive ends only connections that are emptied.
use Rattle.std.proofs.Common.{◌≡◌, ◌+◌, ℕ, Bool, true, false, cond, not, ◌||◌, List, [], ◌∷◌, length, None, Some}
use Rattle.std.proofs.Common.{refl, sym, ap, subst, inl, inr, ◌∙◌, true≢false}
use Rattle.std.proofs.lemmas.Bool.{eqb-true}
use Rattle.std.specs.Prelude.{◌==◌, is_some, nat_lt}
use Rattle.iox_machine.proofs.Attending.{attends-first}
use Rattle.iox_machine.proofs.Cases.{both-true}
use Rattle.iox_machine.proofs.Parting.{empty-list}
use Rattle.iox_machine.proofs.Frames.{subscriber-stands}
use Rattle.iox_machine.proofs.Moving.{at-one}
use Rattle.iox_machine.proofs.Tables.{at-changed}
use Rattle.iox_machine.proofs.Updated.{subscriber-standing}
use Rattle.iox_machine.proofs.Waiting.{attended-here, nothing-there}
use Rattle.iox_machine.specs.Choices.{Choices}
use Rattle.iox_machine.specs.ExpiredLaws.{IsIdle, ReceivesEndEmptied}
use Rattle.iox_machine.specs.Mailbox.{is_idle}
use Rattle.iox_machine.specs.MessageLaws.{IsPartOf}
use Rattle.iox_machine.specs.OnceLaws.{is_skipped}
use Rattle.iox_machine.specs.Ports.{subscriber_in}
use Rattle.iox_machine.specs.Receiving.{Receives, gives, lasting}
use Rattle.iox_machine.specs.Service.{Service, Subscriber, mailbox}
use Rattle.iox_machine.specs.State.{State, replaced}
use Rattle.iox_machine.specs.SubscriberUpdate as subscribing
use Rattle.iox_machine.specs.Table.{at, changed, contains}
use Rattle.iox_command.specs.DomainValues.declared.port_error.ReceiveError.TheVariants as error
use Rattle.iox_command.specs.declared.refusal.Refusal.TheVariants as refusal
use Rattle.iox_command.specs.declared.reply.Reply.{Reply}

module _ {T : Type 0} (number : ℕ) (service : Service T) where
  idle-emptied : (publisher : ℕ) → is_idle (mailbox publisher number service) ≡ true → IsIdle number service publisher
  idle-emptied publisher e =
      let both = both-true (not (nat_lt 0 (length (mailbox publisher number service).waiting)))
      (length (mailbox publisher number service).borrowed == 0) e in (
        nothing-there (mailbox publisher number service).waiting
            (off (nat_lt 0 (length (mailbox publisher number service).waiting)) both.0),
        empty-list (mailbox publisher number service).borrowed both.1,
      )
    where
      off : (b : Bool) → not b ≡ true → b ≡ false
      off true e = sym e
      off false e = refl

  -- which expired connections last, in their order
  lasting-part : (expired : List ℕ) → IsPartOf (lasting number service expired) expired
  lasting-part [] = refl
  lasting-part (publisher ∷ more) =
      here (gives number service publisher) (is_idle (mailbox publisher number service)) (lasting-part more)
    where
      all : (xs : List ℕ) → IsPartOf xs xs
      all [] = refl
      all (x ∷ xs) = inr (xs, refl, all xs)

      here : (b c : Bool) → IsPartOf (lasting number service more) more
          → IsPartOf (cond b (publisher ∷ more) (cond c (lasting number service more) (publisher ∷ lasting number service more)))
          (publisher ∷ more)
      here true c on = all (publisher ∷ more)
      here false true on = inl on
      here false false on = inr (lasting number service more, refl, on)

  lasting-ends : (expired : List ℕ) (publisher : ℕ) → contains expired publisher ≡ true
      → contains (lasting number service expired) publisher ≡ false → is_idle (mailbox publisher number service) ≡ true
  lasting-ends [] publisher there off = absurd (true≢false (sym there))
  lasting-ends (one ∷ more) publisher there off =
      here (gives number service one) (is_idle (mailbox one number service)) refl (one == publisher) refl there off
      (lasting-ends more publisher)
    where
      here : (b c : Bool) → is_idle (mailbox one number service) ≡ c → (d : Bool) → (one == publisher) ≡ d
          → (d || contains more publisher) ≡ true
          → contains (cond b (one ∷ more) (cond c (lasting number service more) (one ∷ lasting number service more))) publisher ≡ false
          → (contains more publisher ≡ true → contains (lasting number service more) publisher ≡ false
          → is_idle (mailbox publisher number service) ≡ true)
          → is_idle (mailbox publisher number service) ≡ true
      here true c idle d same there off on =
          absurd (true≢false (sym there ∙ (ap (λ (b : Bool). b || contains more publisher) (sym same) ∙ off)))
      here false true idle true same there off on =
          subst (λ (it : ℕ). is_idle (mailbox it number service) ≡ true) (eqb-true one publisher same) idle
      here false true idle false same there off on = on there off
      here false false idle true same there off on =
          absurd (true≢false (ap (λ (b : Bool). b || contains (lasting number service more) publisher) (sym same) ∙ off))
      here false false idle false same there off on =
          on there (ap (λ (b : Bool). b || contains (lasting number service more) publisher) (sym same) ∙ off)

  receives-known : (sample : ℕ) (one : Subscriber) (answer : Reply T) (new : Service T) → subscriber_in number service ≡ Some one
      → Receives number sample one service answer new
      → subscriber_in number new ≡ Some (record one { expired = lasting number service one.expired })
  receives-known sample one answer new there h =
      let was : (at number service.subscribers ≡ Some one) × (one.stands ≡ true) = subscriber-stands number service one there in
      subscriber-standing swept (at number new.subscribers) was.1
      (ap (at number) (same h) ∙ at-changed number swept one service.subscribers was.0)
    where
      swept : Subscriber
      swept = record one { expired = lasting number service one.expired }

      same : Receives number sample one service answer new → new.subscribers ≡ changed number swept service.subscribers
      same (None, giver, (told, came)) = ap (λ (end : Service T). end.subscribers) came
      same (Some publisher, giver, took) = ap (λ (end : Service T). end.subscribers) took.5

pub receives-end-emptied : {T : Type 0} (choices : Choices T) → ReceivesEndEmptied choices
receives-end-emptied {T} choices types buffer number old answer new h unskipped =
    elim (at-one (subscriber_in number) (subscribing.UpdatesFirst choices buffer number
    (λ failure. refusal.Receive (error.ConnectionFailure failure)) (Receives number (old.made.samples + 1))) old answer new h) [
      | inl w ↦ absurd (true≢false (sym (ap is_skipped w.0) ∙ unskipped))
      | inr w ↦ elim (attends-first choices buffer number (λ failure. refusal.Receive (error.ConnectionFailure failure))
          (Receives number (old.made.samples + 1)) w.1 w.0 answer w.2 w.4 w.5) [
            | inl r ↦ inl (r.0, r.1)
            | inr r ↦ inr (
              record old { services = replaced (λ (other : Service T). is_some (subscriber_in number other)) r.1 old.services },
              r.1,
              r.0,
              w.2,
              record r.0 { expired = lasting number r.1 r.0.expired },
              attended-here types choices buffer number old w.0 w.1 r.0 r.1 w.3 w.4 r.3 r.2,
              ap (λ (state : State T). state.services) w.6,
              receives-known number r.1 (old.made.samples + 1) r.0 answer w.2 r.2 r.4,
              lasting-part number r.1 r.0.expired,
              (λ publisher there off. idle-emptied number r.1 publisher (lasting-ends number r.1 r.0.expired publisher there off)),
            )
          ]
    ]
