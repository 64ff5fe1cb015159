-- How a publisher of the machine follows the list of subscribers doesn't depend on its loans.
use Rattle.std.proofs.Common.{◌≡◌, [], ◌∷◌, ℕ, Bool, true, false, List, refl, sym, ap, ◌∙◌, if◌then◌else◌}
use Rattle.std.specs.Option.{option_map_or}
use Rattle.std.specs.Prelude.{filter, fold, is_some, not}
use Rattle.iox_machine.specs.Mailbox.{Mailbox, newest}
use Rattle.iox_machine.specs.Message.{Message, Loan}
use Rattle.iox_machine.specs.PortList.{those}
use Rattle.iox_machine.specs.PublisherUpdate.{Follows, ended, welcome}
use Rattle.iox_machine.specs.Service.{Service, Publisher, Subscriber, mailbox, with_mailbox}
use Rattle.iox_machine.proofs.Shorthands.{with_publisher}
use Rattle.iox_machine.specs.Table.{at, contains}

module _ {T : Type 0} (number : ℕ) (loans : List (ℕ × Loan T)) where
  -- the service with these loans
  abbrev pub lending : Service T → Service T
  lending service = record service { loans = loans }

  connects_by : (b : Bool) (subscriber : ℕ) (box : Mailbox T) (service : Service T)
      → ◌≡◌ {A = Service T} (if b then lending service else with_mailbox number subscriber box (lending service))
      (lending (if b then service else with_mailbox number subscriber box service))
  connects_by true subscriber box service = refl
  connects_by false subscriber box service = refl

  welcomes : (history : List (Message T)) (service : Service T) (subscriber : ℕ)
      → welcome number history (lending service) subscriber ≡ lending (welcome number history service subscriber)
  welcomes history service subscriber =
      ap (λ met. with_mailbox number subscriber (record (mailbox number subscriber met) {
        waiting = newest (mailbox number subscriber met).limit history;
      }) met)
      (connects_by (is_some (service.mailboxes number subscriber)) subscriber (record {
        limit = option_map_or (λ (one : Subscriber). one.buffer_size) (at subscriber service.subscribers) 0;
        waiting = [];
        borrowed = [];
      }) service)

  all_welcome : (history : List (Message T)) (subscribers : List ℕ) (service : Service T)
      → fold (welcome number history) (lending service) subscribers ≡ lending (fold (welcome number history) service subscribers)
  all_welcome history [] service = refl
  all_welcome history (subscriber ∷ more) service =
      ap (λ one. fold (welcome number history) one more) (welcomes history service subscriber)
      ∙ all_welcome history more (welcome number history service subscriber)

  -- a publisher follows whatever is lent
  pub follows_lending : (publisher after : Publisher T) (old new : Service T) → Follows number publisher old after new
      → Follows number publisher (lending old) after (lending new)
  follows_lending publisher after old new it = (
    it.0,
    it.1,
    it.2,
    ap lending it.3 ∙ sym (all_welcome publisher.history
        (filter (λ subscriber. not (contains (those publisher.connected) subscriber)) (those after.connected))
        (with_publisher number after (ended number old))),
  )
