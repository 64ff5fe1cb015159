-- What a port does leaves the loans of its service, and the number that each publisher's next message has.
use Rattle.std.proofs.Common.{◌≡◌, ℕ, Bool, true, false, cond, not, List, [], ◌∷◌, Option, None, Some, refl, sym, ap, subst, inl, inr, ◌∙◌}
use Rattle.std.proofs.lemmas.Bool.{eqb-true, eqb-false, cases_Bool}
use Rattle.std.specs.Option.{option_map_or}
use Rattle.std.specs.Prelude.{◌==◌, is_some, option_map, fold, filter}
use Rattle.iox_machine.specs.Mailbox.{Mailbox, newest}
use Rattle.iox_machine.specs.Message.{Message}
use Rattle.iox_machine.specs.PortList.{those}
use Rattle.iox_machine.specs.PublisherUpdate as publishing
use Rattle.iox_machine.specs.Service.{Service, Publisher, Subscriber, mailbox, with_mailbox, connect}
use Rattle.iox_machine.proofs.Shorthands.{with_publisher, with_subscriber}
use Rattle.iox_machine.specs.SubscriberUpdate as subscribing
use Rattle.iox_machine.specs.Table.{at, contains}
use Rattle.iox_machine.proofs.Cases.{never-some}
use Rattle.iox_machine.proofs.Tables.{at-changed, at-changed-other}

module _ {T : Type 0} where
  abbrev pub next_of : Option (Publisher T) → Option ℕ
  next_of o = option_map (λ (publisher : Publisher T). publisher.next) o

  -- the number that the next message of a publisher has
  abbrev pub next_at : ℕ → Service T → Option ℕ
  next_at number service = next_of (at number service.publishers)

  -- Loans and next numbers are as they were.
  abbrev pub Same : Service T → Service T → Type 0
  Same old new = (new.loans ≡ old.loans) × ((number : ℕ) → next_at number new ≡ next_at number old)

  pub same-itself : (service : Service T) → Same service service
  same-itself service = (refl, λ number. refl)

  pub same-both : (one two three : Service T) → Same one two → Same two three → Same one three
  same-both one two three h k = (k.0 ∙ h.0, λ number. k.1 number ∙ h.1 number)

  either : (P : Service T → Type 0) (b : Bool) (one other : Service T) → P one → P other → P (cond b one other)
  either P true one other p q = p
  either P false one other p q = q

  -- ---- a publisher

  pub same-set : (number : ℕ) (publisher : Publisher T) (service : Service T) → next_at number service ≡ Some publisher.next
      → Same service (with_publisher number publisher service)
  same-set number publisher service is = (
    refl,
    λ other. elim (cases_Bool (other == number)) [
      | inl same ↦ subst (λ (k : ℕ). next_at k (with_publisher number publisher service) ≡ next_at k service)
          (sym (eqb-true other number same)) (here (at number service.publishers) refl is)
      | inr off ↦ ap next_of (at-changed-other number other publisher service.publishers (eqb-false other number off))
    ],
  )
    where
      here : (o : Option (Publisher T)) → at number service.publishers ≡ o → next_of o ≡ Some publisher.next
          → next_at number (with_publisher number publisher service) ≡ next_at number service
      here None found known = never-some publisher.next known
      here (Some was) found known =
          ap next_of (at-changed number publisher was service.publishers found) ∙ sym is

  same-connect : (limit publisher subscriber : ℕ) (service : Service T) → Same service (connect limit publisher subscriber service)
  same-connect limit publisher subscriber service =
      either (Same service) (is_some (service.mailboxes publisher subscriber)) service
      (with_mailbox publisher subscriber (record { limit = limit; waiting = []; borrowed = [] }) service) (same-itself service)
      (refl, λ number. refl)

  same-welcome : (number : ℕ) (history : List (Message T)) (service : Service T) (subscriber : ℕ)
      → Same service (publishing.welcome number history service subscriber)
  same-welcome number history service subscriber =
      let limit : ℕ = option_map_or (λ (one : Subscriber). one.buffer_size) (at subscriber service.subscribers) 0 in
      let met : Service T = connect limit number subscriber service in
      let box : Mailbox T = mailbox number subscriber met in
      same-both service met (with_mailbox number subscriber (record box { waiting = newest box.limit history }) met)
      (same-connect limit number subscriber service) (refl, λ other. refl)

  same-welcomes : (number : ℕ) (history : List (Message T)) (new : List ℕ) (service : Service T)
      → Same service (fold (publishing.welcome number history) service new)
  same-welcomes number history [] service = same-itself service
  same-welcomes number history (subscriber ∷ more) service =
      same-both service (publishing.welcome number history service subscriber)
      (fold (publishing.welcome number history) (publishing.welcome number history service subscriber) more)
      (same-welcome number history service subscriber)
      (same-welcomes number history more (publishing.welcome number history service subscriber))

  -- a publisher follows, and nothing changes but that publisher
  pub same-followed : (number : ℕ) (publisher : Publisher T) (old : Service T) (after : Publisher T) (new : Service T)
      → publishing.Follows number publisher old after new
      → Same (with_publisher number after (publishing.ended number old)) new × (after.next ≡ publisher.next)
  same-followed number publisher old after new (refused, allowed, is, came) =
      let begun : Service T = with_publisher number after (publishing.ended number old) in (
        subst (λ (s : Service T). Same begun s) (sym came)
            (same-welcomes number publisher.history
            (filter (λ subscriber. not (contains (those publisher.connected) subscriber)) (those after.connected)) begun),
        ap (λ (p : Publisher T). p.next) is,
      )

  -- ---- a subscriber

  same-connects : (limit subscriber : ℕ) (publishers : List ℕ) (service : Service T)
      → Same service (fold (λ (it : Service T) (publisher : ℕ). connect limit publisher subscriber it) service publishers)
  same-connects limit subscriber [] service = same-itself service
  same-connects limit subscriber (publisher ∷ more) service =
      same-both service (connect limit publisher subscriber service)
      (fold (λ (it : Service T) (other : ℕ). connect limit other subscriber it) (connect limit publisher subscriber service) more)
      (same-connect limit publisher subscriber service)
      (same-connects limit subscriber more (connect limit publisher subscriber service))

  pub same-subscriber-follows : (buffer number : ℕ) (subscriber : Subscriber) (old : Service T) (after : Subscriber) (new : Service T)
      → subscribing.Follows buffer number subscriber old after new → Same old new
  same-subscriber-follows buffer number subscriber old after new (refused, allowed, connected, places, is, came) =
      subst (λ (s : Service T). Same old s) (sym came)
      (same-connects subscriber.buffer_size number (those connected) (with_subscriber number after old))
