-- What is received was sent by the publisher from whose mailbox it was taken.
use Rattle.std.proofs.Common.{◌≡◌, ◌+◌, ℕ, Bool, true, false, cond, ◌||◌, List, [], ◌∷◌, ◌++◌, Option, None, Some, refl, sym, ap, subst}
use Rattle.std.proofs.Common.{inl, inr, ◌∙◌, true≢false}
use Rattle.std.proofs.lemmas.Bool.{eq-eqb}
use Rattle.std.specs.Global.{Vec}
use Rattle.std.specs.List.{AllByRecursion}
use Rattle.std.specs.Prelude.{◌==◌, is_some, find, option_and_then, slice_get}
use Rattle.std.specs.Vec.{vec_items}
use Rattle.iox_machine.specs.Choices.{Choices}
use Rattle.iox_machine.specs.Mailbox.{is_idle}
use Rattle.iox_machine.specs.Message.{Message, Sample}
use Rattle.iox_machine.specs.MessageLaws.{BeganIn, IsTaken, ReceivedWasSent, first_in}
use Rattle.iox_machine.specs.PortList.{those}
use Rattle.iox_machine.specs.Ports.{subscriber_in}
use Rattle.iox_machine.specs.Receiving.{IsGiver, Receives, gives, has_samples, lasting}
use Rattle.iox_machine.specs.Run.{Step}
use Rattle.iox_machine.specs.Service.{Service, Subscriber, mailbox}
use Rattle.iox_machine.proofs.Shorthands.{with_subscriber}
use Rattle.iox_machine.specs.State.{State, counted, new_state, replaced}
use Rattle.iox_machine.specs.SubscriberUpdate as subscribing
use Rattle.iox_machine.specs.Table.{at, contains}
use Rattle.iox_machine.proofs.Cases.{both-true, never-some, same-some}
use Rattle.iox_machine.proofs.Frames.{BySubscriber, holder_of, soft-both, soft-set, soft-updates, subscriber-stands}
use Rattle.iox_machine.proofs.Moving.{at-one}
use Rattle.iox_machine.proofs.OrderLaws.{first-sent, fresh-numbers}
use Rattle.iox_machine.proofs.OrderSends.{first-fresh}
use Rattle.iox_machine.proofs.Runs.{all-found, never-received, never-told, number_in, runs-numbered, values_in}
use Rattle.iox_machine.proofs.Tables.{at-appended, at-changed}
use Rattle.iox_machine.proofs.Updated.{find-replaced}
use Rattle.iox_command.specs.DomainValues.declared.port_error.ReceiveError.TheVariants as receive_error
use Rattle.iox_command.specs.NegotiateBase.DescribeBase.declared.message_type.MessageTypeDetails.{MessageTypeDetails}
use Rattle.iox_command.specs.declared.command.Command.TheVariants as command
use Rattle.iox_command.specs.declared.refusal.Refusal.TheVariants as refusal
use Rattle.iox_command.specs.declared.reply.Reply.{Reply}
use Rattle.iox_command.specs.declared.reply.Reply.TheVariants as reply

-- ---- lists of numbers

contains-first : (number : ℕ) (more : List ℕ) → contains (number ∷ more) number ≡ true
contains-first number more = ap (λ (b : Bool). b || contains more number) (eq-eqb number number refl)

contains-later : (number other : ℕ) (more : List ℕ) → contains more number ≡ true → contains (other ∷ more) number ≡ true
contains-later number other more is = here (other == number)
  where
    here : (b : Bool) → (b || contains more number) ≡ true
    here true = refl
    here false = is

contains-front : (number : ℕ) (front back : List ℕ) → contains front number ≡ true → contains (front ++ back) number ≡ true
contains-front number [] back is = absurd (true≢false (sym is))
contains-front number (one ∷ front) back is = here (one == number) is (contains-front number front back)
  where
    here : (b : Bool) → (b || contains front number) ≡ true
        → (contains front number ≡ true → contains (front ++ back) number ≡ true) → (b || contains (front ++ back) number) ≡ true
    here true is on = refl
    here false is on = on is

contains-back : (number : ℕ) (front back : List ℕ) → contains back number ≡ true → contains (front ++ back) number ≡ true
contains-back number [] back is = is
contains-back number (one ∷ front) back is = contains-later number one (front ++ back) (contains-back number front back is)

module _ {T : Type 0} where
  -- the first expired connection that gives is kept
  lasting-gives : (number publisher : ℕ) (service : Service T) (expired : List ℕ) → find (gives number service) expired ≡ Some publisher
      → contains (lasting number service expired) publisher ≡ true
  lasting-gives number publisher service [] first = never-some publisher first
  lasting-gives number publisher service (one ∷ more) first =
      here (gives number service one) (is_idle (mailbox one number service)) first (lasting-gives number publisher service more)
    where
      here : (b c : Bool) → cond b (Some one) (find (gives number service) more) ≡ Some publisher
          → (find (gives number service) more ≡ Some publisher → contains (lasting number service more) publisher ≡ true)
          → contains (cond b (one ∷ more) (cond c (lasting number service more) (one ∷ lasting number service more))) publisher ≡ true
      here true c is on =
          subst (λ (k : ℕ). contains (one ∷ more) k ≡ true) (same-some one publisher is) (contains-first one more)
      here false true is on = on is
      here false false is on = contains-later publisher one (lasting number service more) (on is)

  -- who gives is connected, or its connection expired and is kept
  giver-connected : (number publisher : ℕ) (one : Subscriber) (service : Service T) (first : Option ℕ)
      → find (gives number service) one.expired ≡ first → IsGiver number first one service (Some publisher)
      → contains (those one.connected ++ lasting number service one.expired) publisher ≡ true
  giver-connected number publisher one service (Some expired) is giver =
      contains-back publisher (those one.connected) (lasting number service one.expired)
      (lasting-gives number publisher service one.expired (is ∙ sym giver))
  giver-connected number publisher one service None is giver =
      contains-front publisher (those one.connected) (lasting number service one.expired)
      (both-true (contains (those one.connected) publisher) (gives number service publisher) giver).0

-- ---- what is taken

stands-still : (now one : Subscriber) → holder_of now ≡ holder_of one → one.stands ≡ true → now.stands ≡ true
stands-still now one same stands = ap (λ (holder : ℕ × Bool). holder.1) same ∙ stands

module _ {T : Type 0} (types : MessageTypeDetails) (choices : Choices T) (buffer : ℕ) where
  abbrev Taken : ℕ → ℕ → Vec T → Service T → State T → Type 0
  Taken subscriber sample values service new =
      (publisher : ℕ) × (message : Message T) × IsTaken publisher subscriber sample message service new
      × (vec_items values ≡ message.values)

  received-taken : (subscriber : ℕ) (old : State T) (sample : ℕ) (values : Vec T) (new : State T)
      → AllByRecursion (λ (other : Service T). at (old.made.samples + 1) other.samples ≡ None) old.services
      → Step types choices buffer (command.Receive subscriber) old (reply.Received sample values) new
      → (service : Service T) × (find (λ (other : Service T). is_some (subscriber_in subscriber other)) old.services ≡ Some service)
      × Taken subscriber sample values service new
  received-taken subscriber old sample values new fresh h =
      elim (at-one (subscriber_in subscriber)
      (subscribing.UpdatesFirst choices buffer subscriber (λ failure. refusal.Receive (receive_error.ConnectionFailure failure))
      (Receives subscriber (old.made.samples + 1))) old (reply.Received sample values) new h) [
        | inl w ↦ never-told (reply.Received sample values) reply.Skipped w.0 refl refl
        | inr w ↦ (w.0, w.3, taken w.0 w.1 w.2 w.3 w.4 w.5 w.6)
      ]
    where
      receives : (service after mid : Service T) (one now : Subscriber)
          → find (λ (other : Service T). is_some (subscriber_in subscriber other)) old.services ≡ Some service → one.stands ≡ true
          → new ≡ record old {
            made = counted (reply.Received sample values) old.made;
            services = replaced (λ (other : Service T). is_some (subscriber_in subscriber other)) after old.services;
          }
          → BySubscriber service mid → at subscriber mid.subscribers ≡ Some now → holder_of now ≡ holder_of one
          → Receives subscriber (old.made.samples + 1) now mid (reply.Received sample values) after
          → Taken subscriber sample values service new
      receives service after mid one now first stands came soft found same (None, giver, (told, is)) =
          never-received sample values (has_samples subscriber now mid) (refusal.Receive receive_error.ExceedsMaxBorrows) told
      receives service after mid one now first stands came soft found same (Some publisher, giver, took) =
          let later : Subscriber = record now { expired = lasting subscriber mid now.expired } in
          let swept : Service T = with_subscriber subscriber later mid in
          let softly : BySubscriber service swept = soft-both service mid swept soft (soft-set subscriber now later mid found refl) in
          let it : Sample T = record { publisher = publisher; subscriber = subscriber; message = took.0 } in
          let unknown : at (old.made.samples + 1) swept.samples ≡ None =
          ap (at (old.made.samples + 1)) softly.4
          ∙ all-found (λ (other : Service T). at (old.made.samples + 1) other.samples ≡ None)
          (λ (other : Service T). is_some (subscriber_in subscriber other)) old.services service first fresh in
          let there : at (old.made.samples + 1) after.samples ≡ Some it =
          ap (λ (end : Service T). at (old.made.samples + 1) end.samples) took.5
          ∙ at-appended (old.made.samples + 1) it swept.samples unknown in
          let seen : first_in (λ (other : Service T). at (old.made.samples + 1) other.samples) new ≡ Some it =
          ap (λ (state : State T). first_in (λ (other : Service T). at (old.made.samples + 1) other.samples) state) came
          ∙ (ap (option_and_then (λ (other : Service T). at (old.made.samples + 1) other.samples))
          (first-fresh (old.made.samples + 1) (λ (other : Service T). is_some (subscriber_in subscriber other)) service after it
          old.services
          fresh first there)
          ∙ there) in
          let known : subscriber_in subscriber after ≡ Some later =
          ap (λ (end : Service T). subscriber_in subscriber end) took.5
          ∙ (ap (λ (o : Option Subscriber). option_and_then (λ (s : Subscriber). cond s.stands (Some s) None) o)
          (at-changed subscriber later now mid.subscribers found)
          ∙ ap (λ (b : Bool). cond b (Some later) None) (stands-still now one same stands)) in
          let listed : first_in (subscriber_in subscriber) new ≡ Some later =
          ap (λ (state : State T). first_in (subscriber_in subscriber) state) came
          ∙ (ap (option_and_then (subscriber_in subscriber))
          (find-replaced (λ (other : Service T). is_some (subscriber_in subscriber other)) service after old.services first
          (ap is_some known))
          ∙ known) in (
            publisher,
            took.0,
            (
              ap (λ (l : List (Message T)). slice_get l 0) (sym (softly.6 publisher subscriber).0) ∙ took.2,
              (later, listed, giver-connected subscriber publisher now mid (find (gives subscriber mid) now.expired) refl giver),
              subst (λ (k : ℕ). first_in (λ (other : Service T). at k other.samples) new ≡ Some it)
                  (sym (ap (λ (answer : Reply T). number_in answer) took.4)) seen,
            ),
            ap (λ (answer : Reply T). vec_items (values_in answer values)) took.4 ∙ took.3,
          )

      taken : (service : Service T) (one : Subscriber) (after : Service T)
          → find (λ (other : Service T). is_some (subscriber_in subscriber other)) old.services ≡ Some service
          → subscriber_in subscriber service ≡ Some one
          → subscribing.UpdatesFirst choices buffer subscriber (λ failure. refusal.Receive (receive_error.ConnectionFailure failure))
          (Receives subscriber (old.made.samples + 1)) one service (reply.Received sample values) after
          → new ≡ record old {
            made = counted (reply.Received sample values) old.made;
            services = replaced (λ (other : Service T). is_some (subscriber_in subscriber other)) after old.services;
          }
          → Taken subscriber sample values service new
      taken service one after first found did came =
          soft-updates choices (Taken subscriber sample values service new) buffer subscriber
          (λ failure. refusal.Receive (receive_error.ConnectionFailure failure)) (Receives subscriber (old.made.samples + 1)) one service
          (reply.Received sample values) after (subscriber-stands subscriber service one found).0
          (λ now mid soft there same took. receives service after mid one now first (subscriber-stands subscriber service one found).1 came
          soft there same took)
          (λ why mid soft refused. never-told (reply.Received sample values) (reply.Refused why) refused.0 refl refl) did

pub received-was-sent : {T : Type 0} (choices : Choices T) → ReceivedWasSent choices
received-was-sent {T} choices types buffer asked answers old run subscriber sample values new h =
    let it : (service : Service T) × (find (λ (other : Service T). is_some (subscriber_in subscriber other)) old.services ≡ Some service)
    × Taken types choices buffer subscriber sample values service new =
    received-taken types choices buffer subscriber old sample values new
    (fresh-numbers 0 subscriber types choices buffer old (runs-numbered types choices buffer asked new_state answers old run tt)) h in
    let sent : (find (λ (other : Service T). is_some (at it.2.0 other.publishers)) old.services ≡ Some it.0)
    × BeganIn types choices buffer it.2.0 it.0.name it.0.settings it.2.1.values asked new_state answers old run =
    first-sent choices types buffer asked answers old run subscriber it.2.0 it.0 it.2.1 it.1 it.2.2.0 in
    (it.2.0, it.0, it.2.1, it.1, sent.0, it.2.2, it.2.3, sent.1)
