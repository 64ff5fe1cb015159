-- Who has seen all changes of a list is connected to all that are listed, but where a connection failed: in every run.
use Rattle.std.proofs.Common.{◌≡◌, ◌⊎◌, ℕ, Bool, false, List, [], ◌∷◌, Option, None, Some, refl, sym, ap, subst, inl, inr}
use Rattle.std.proofs.Common.{true≢false}
use Rattle.std.specs.List.{AllByRecursion}
use Rattle.std.specs.Prelude.{find, is_some, zip}
use Rattle.iox_machine.specs.Choices.{Choices}
use Rattle.iox_machine.specs.FollowLaws.{HasSome, IsConnectedOrFailed, IsConnectedOrStays, PublisherIsConnected, SubscriberIsConnected}
use Rattle.iox_machine.specs.FollowLaws.{WasOnce}
use Rattle.iox_machine.specs.PortList.{PortList}
use Rattle.iox_machine.specs.Ports.{publisher_in, subscriber_in}
use Rattle.iox_machine.specs.Run.{Runs}
use Rattle.iox_machine.specs.Service.{Publisher, Service, Subscriber}
use Rattle.iox_machine.specs.State.{State, new_state}
use Rattle.iox_machine.proofs.Cases.{chosen, never-some, same-some}
use Rattle.iox_machine.proofs.Following.{KeepsUp, PublisherKeepsUp, StaysUp, SubscriberKeepsUp, TellsLacks, all-at, stays-walks, up-moved}
use Rattle.iox_machine.proofs.Following.{up-new}
use Rattle.iox_machine.proofs.Frames.{publisher-stands, subscriber-stands}
use Rattle.iox_machine.proofs.Lists.{all-filtered, all-weaker}
use Rattle.iox_machine.proofs.Moving.{open-keeps, replaced-keeps}
use Rattle.iox_machine.proofs.Runs.{all-found}
use Rattle.iox_machine.proofs.Walks.{Comes, step-comes}
use Rattle.iox_command.specs.NegotiateBase.DescribeBase.declared.message_type.MessageTypeDetails.{MessageTypeDetails}
use Rattle.iox_command.specs.declared.command.Command.{Command}
use Rattle.iox_command.specs.declared.reply.Reply.{Reply}

none-there : {V : Type 0} (o : Option V) → is_some o ≡ false → o ≡ None
none-there None is = refl
none-there (Some v) is = absurd (true≢false is)

module _ (Fails Lacks : ℕ → Type 0) (on : (n : ℕ) → Fails n → Lacks n) where
  weaker-place : (place : Option ℕ × Option ℕ) → IsConnectedOrFailed Fails place → IsConnectedOrFailed Lacks place
  weaker-place (None, connected) so = tt
  weaker-place (Some listed, connected) (inl is) = inl is
  weaker-place (Some listed, connected) (inr (none, failed)) = inr (none, on listed failed)

  weaker-stays : (again : Bool) (place : Option ℕ × Option ℕ) → IsConnectedOrStays Fails again place → IsConnectedOrStays Lacks again place
  weaker-stays again place (inl so) = inl (weaker-place place so)
  weaker-stays again place (inr stays) = inr stays

module _ {T : Type 0} where
  some-found : (Is : Service T → Type 0) (has : Service T → Bool) (services : List (Service T)) (service : Service T)
      → find has services ≡ Some service → Is service → HasSome Is services
  some-found Is has [] service e is = never-some service e
  some-found Is has (one ∷ more) service e is = elim (chosen (has one) (Some one) (find has more) (Some service) e) [
    | inl w ↦ inl (subst Is (sym (same-some one service w.1)) is)
    | inr w ↦ inr (some-found Is has more service w.1 is)
  ]

  -- what is told of failures may be told of more
  weaker-up : (Fails Lacks FailsMore LacksMore : PortList → ℕ → ℕ → Type 0)
      → ((list : PortList) (p s : ℕ) → Fails list p s → FailsMore list p s)
      → ((list : PortList) (s p : ℕ) → Lacks list s p → LacksMore list s p)
      → (service : Service T) → KeepsUp Fails Lacks service → KeepsUp FailsMore LacksMore service
  weaker-up Fails Lacks FailsMore LacksMore on also service up = (
    up.0,
    all-weaker
        (λ (entry : ℕ × Publisher T). PublisherKeepsUp Fails service.subscriber_list entry.0 entry.1.seen entry.1.connected)
        (λ (entry : ℕ × Publisher T). PublisherKeepsUp FailsMore service.subscriber_list entry.0 entry.1.seen
        entry.1.connected)
        (λ entry so. (
          so.0,
          (λ same. (
            (so.1 same).0,
            all-weaker (IsConnectedOrFailed (Fails service.subscriber_list entry.0))
                (IsConnectedOrFailed (FailsMore service.subscriber_list entry.0))
                (λ place it. weaker-place (Fails service.subscriber_list entry.0) (FailsMore service.subscriber_list entry.0)
                (λ s failed. on service.subscriber_list entry.0 s failed) place it)
                (zip service.subscriber_list.places entry.1.connected) (so.1 same).1,
          )),
        )) service.publishers up.1,
    all-weaker
        (λ (entry : ℕ × Subscriber). SubscriberKeepsUp Lacks service.publisher_list entry.0 entry.1.seen entry.1.again
        entry.1.connected)
        (λ (entry : ℕ × Subscriber). SubscriberKeepsUp LacksMore service.publisher_list entry.0 entry.1.seen entry.1.again
        entry.1.connected)
        (λ entry so. (
          so.0,
          so.1,
          (λ same. all-weaker (IsConnectedOrStays (Lacks service.publisher_list entry.0) entry.1.again)
              (IsConnectedOrStays (LacksMore service.publisher_list entry.0) entry.1.again)
              (λ place it. weaker-stays (Lacks service.publisher_list entry.0) (LacksMore service.publisher_list entry.0)
              (λ p failed. also service.publisher_list entry.0 p failed) entry.1.again place it)
              (zip service.publisher_list.places entry.1.connected) (so.2 same)),
        )) service.subscribers up.2,
  )

  module _ (Fails Lacks : PortList → ℕ → ℕ → Type 0) where
    comes-up : (old : State T) (answer : Reply T) (new : State T) → Comes (StaysUp Fails Lacks) (stays-walks Fails Lacks) old answer new
        → ((has : Service T → Bool) (service : Service T) → find has old.services ≡ Some service → TellsLacks Fails Lacks service)
        → AllByRecursion (KeepsUp Fails Lacks) old.services → AllByRecursion (KeepsUp Fails Lacks) new.services
    comes-up old answer new (made, inl same) tells all = subst (AllByRecursion (KeepsUp Fails Lacks)) (sym same) all
    comes-up old answer new (made, inr (inl (has, service, after, first, moved, came))) tells all =
        subst (AllByRecursion (KeepsUp Fails Lacks)) (sym (ap (λ (state : State T). state.services) came))
        (replaced-keeps (KeepsUp Fails Lacks) (KeepsUp Fails Lacks) has service after old.services (λ it up. up)
        (λ up. up-moved Fails Lacks old.made service answer after moved (tells has service first) up) first all)
    comes-up old answer new (made, inr (inr (inl (name, phase, opened)))) tells all =
        subst (AllByRecursion (KeepsUp Fails Lacks)) (sym opened)
        (open-keeps (KeepsUp Fails Lacks) name (λ c. up-new T Fails Lacks name c) phase old.services all)
    comes-up old answer new (made, inr (inr (inr (test, ended)))) tells all =
        subst (AllByRecursion (KeepsUp Fails Lacks)) (sym ended) (all-filtered (KeepsUp Fails Lacks) test old.services all)

  -- a service had this list of subscribers, or of publishers, and no mailbox for these two
  abbrev Unmet : PortList → ℕ → ℕ → Service T → Type 0
  Unmet list p s service = (service.subscriber_list ≡ list) × (service.mailboxes p s ≡ None)

  abbrev Unheard : PortList → ℕ → ℕ → Service T → Type 0
  Unheard list s p service = (service.publisher_list ≡ list) × (service.mailboxes p s ≡ None)

  module _ (types : MessageTypeDetails) (choices : Choices T) (buffer : ℕ) where
    runs-up : (asked : List (Command T)) (old : State T) (answers : List (Reply T)) (new : State T)
        (run : Runs types choices buffer asked old answers new) (Fails Lacks : PortList → ℕ → ℕ → Type 0)
        → AllByRecursion (KeepsUp Fails Lacks) old.services
        → AllByRecursion
        (KeepsUp (λ list p s. Fails list p s ⊎ WasOnce types choices buffer (Unmet list p s) asked old answers new run)
        (λ list s p. Lacks list s p ⊎ WasOnce types choices buffer (Unheard list s p) asked old answers new run)) new.services
    runs-up [] old answers new run Fails Lacks all =
        subst (λ (it : State T). AllByRecursion
        (KeepsUp (λ list p s. Fails list p s ⊎ WasOnce types choices buffer (Unmet list p s) [] old answers new run)
        (λ list s p. Lacks list s p ⊎ WasOnce types choices buffer (Unheard list s p) [] old answers new run)) it.services) (sym run.1)
        (all-weaker (KeepsUp Fails Lacks)
        (KeepsUp (λ list p s. Fails list p s ⊎ WasOnce types choices buffer (Unmet list p s) [] old answers new run)
        (λ list s p. Lacks list s p ⊎ WasOnce types choices buffer (Unheard list s p) [] old answers new run))
        (λ service up. weaker-up Fails Lacks
        (λ list p s. Fails list p s ⊎ WasOnce types choices buffer (Unmet list p s) [] old answers new run)
        (λ list s p. Lacks list s p ⊎ WasOnce types choices buffer (Unheard list s p) [] old answers new run)
        (λ list p s failed. inl failed) (λ list s p failed. inl failed) service up) old.services all)
    runs-up (one ∷ more) old answers new run Fails Lacks all =
        all-weaker
        (KeepsUp (λ list p s. FailsThen list p s ⊎ WasOnce types choices buffer (Unmet list p s) more run.1 run.2 new run.4)
        (λ list s p. LacksThen list s p ⊎ WasOnce types choices buffer (Unheard list s p) more run.1 run.2 new run.4))
        (KeepsUp (λ list p s. Fails list p s ⊎ WasOnce types choices buffer (Unmet list p s) (one ∷ more) old answers new run)
        (λ list s p. Lacks list s p ⊎ WasOnce types choices buffer (Unheard list s p) (one ∷ more) old answers new run))
        (λ service up. weaker-up
        (λ list p s. FailsThen list p s ⊎ WasOnce types choices buffer (Unmet list p s) more run.1 run.2 new run.4)
        (λ list s p. LacksThen list s p ⊎ WasOnce types choices buffer (Unheard list s p) more run.1 run.2 new run.4)
        (λ list p s. Fails list p s ⊎ WasOnce types choices buffer (Unmet list p s) (one ∷ more) old answers new run)
        (λ list s p. Lacks list s p ⊎ WasOnce types choices buffer (Unheard list s p) (one ∷ more) old answers new run)
        (λ list p s failed. either (Fails list p s) (HasSome (Unmet list p s) old.services)
        (WasOnce types choices buffer (Unmet list p s) more run.1 run.2 new run.4) failed)
        (λ list s p failed. either (Lacks list s p) (HasSome (Unheard list s p) old.services)
        (WasOnce types choices buffer (Unheard list s p) more run.1 run.2 new run.4) failed) service up) new.services
        (runs-up more run.1 run.2 new run.4 FailsThen LacksThen
        (comes-up FailsThen LacksThen old run.0 run.1
        (step-comes (StaysUp FailsThen LacksThen) (stays-walks FailsThen LacksThen) types choices buffer one old run.0 run.1 run.3)
        (λ has service first p s none. (
          inr (some-found (Unmet service.subscriber_list p s) has old.services service first
              (refl, none-there (service.mailboxes p s) none)),
          inr (some-found (Unheard service.publisher_list s p) has old.services service first
              (refl, none-there (service.mailboxes p s) none)),
        ))
        (all-weaker (KeepsUp Fails Lacks) (KeepsUp FailsThen LacksThen)
        (λ service up. weaker-up Fails Lacks FailsThen LacksThen (λ list p s failed. inl failed) (λ list s p failed. inl failed) service up)
        old.services all)))
      where
        FailsThen : PortList → ℕ → ℕ → Type 0
        FailsThen list p s = Fails list p s ⊎ HasSome (Unmet list p s) old.services

        LacksThen : PortList → ℕ → ℕ → Type 0
        LacksThen list s p = Lacks list s p ⊎ HasSome (Unheard list s p) old.services

        either : (A B C : Type 0) → (A ⊎ B) ⊎ C → A ⊎ (B ⊎ C)
        either A B C (inl (inl a)) = inl a
        either A B C (inl (inr b)) = inr (inl b)
        either A B C (inr c) = inr (inr c)

    run-up : (asked : List (Command T)) (answers : List (Reply T)) (new : State T)
        (run : Runs types choices buffer asked new_state answers new)
        → AllByRecursion
        (KeepsUp (λ list p s. WasOnce types choices buffer (Unmet list p s) asked new_state answers new run)
        (λ list s p. WasOnce types choices buffer (Unheard list s p) asked new_state answers new run)) new.services
    run-up asked answers new run =
        all-weaker
        (KeepsUp (λ list p s. ⊥ ⊎ WasOnce types choices buffer (Unmet list p s) asked new_state answers new run)
        (λ list s p. ⊥ ⊎ WasOnce types choices buffer (Unheard list s p) asked new_state answers new run))
        (KeepsUp (λ list p s. WasOnce types choices buffer (Unmet list p s) asked new_state answers new run)
        (λ list s p. WasOnce types choices buffer (Unheard list s p) asked new_state answers new run))
        (λ service up. weaker-up
        (λ list p s. ⊥ ⊎ WasOnce types choices buffer (Unmet list p s) asked new_state answers new run)
        (λ list s p. ⊥ ⊎ WasOnce types choices buffer (Unheard list s p) asked new_state answers new run)
        (λ list p s. WasOnce types choices buffer (Unmet list p s) asked new_state answers new run)
        (λ list s p. WasOnce types choices buffer (Unheard list s p) asked new_state answers new run)
        (λ list p s it. second (WasOnce types choices buffer (Unmet list p s) asked new_state answers new run) it)
        (λ list s p it. second (WasOnce types choices buffer (Unheard list s p) asked new_state answers new run) it) service up)
        new.services (runs-up asked new_state answers new run (λ list p s. ⊥) (λ list s p. ⊥) tt)
      where
        second : (A : Type 0) → ⊥ ⊎ A → A
        second A (inl never) = absurd never
        second A (inr a) = a

pub publisher-is-connected : {T : Type 0} (choices : Choices T) → PublisherIsConnected choices
publisher-is-connected {T} choices types buffer asked answers new run number service one first found seen =
    (all-at (λ (n : ℕ) (it : Publisher T). PublisherKeepsUp Fails service.subscriber_list n it.seen it.connected) number one
    service.publishers (publisher-stands number service one found)
    (all-found (KeepsUp Fails Lacks) (λ (other : Service T). is_some (publisher_in number other)) new.services service first
    (run-up types choices buffer asked answers new run)).1).1 seen
  where
    Fails : PortList → ℕ → ℕ → Type 0
    Fails list p s = WasOnce types choices buffer (Unmet list p s) asked new_state answers new run

    Lacks : PortList → ℕ → ℕ → Type 0
    Lacks list s p = WasOnce types choices buffer (Unheard list s p) asked new_state answers new run

pub subscriber-is-connected : {T : Type 0} (choices : Choices T) → SubscriberIsConnected choices
subscriber-is-connected {T} choices types buffer asked answers new run number service one first found seen =
    let so : SubscriberKeepsUp Lacks service.publisher_list number one.seen one.again one.connected =
    all-at (λ (n : ℕ) (it : Subscriber). SubscriberKeepsUp Lacks service.publisher_list n it.seen it.again it.connected)
    number one service.subscribers (subscriber-stands number service one found).0
    (all-found (KeepsUp Fails Lacks) (λ (other : Service T). is_some (subscriber_in number other)) new.services service first
    (run-up types choices buffer asked answers new run)).2 in
    (so.0, so.2 seen)
  where
    Fails : PortList → ℕ → ℕ → Type 0
    Fails list p s = WasOnce types choices buffer (Unmet list p s) asked new_state answers new run

    Lacks : PortList → ℕ → ℕ → Type 0
    Lacks list s p = WasOnce types choices buffer (Unheard list s p) asked new_state answers new run
