-- A command that is refused as a whole changes nothing.
use Rattle.std.proofs.Common.{◌≡◌, ◌+◌, ℕ, Bool, true, false, cond, List, Option, None, Some, refl, ap, inl, inr, ◌∙◌}
use Rattle.std.specs.Prelude.{is_some, MatchOption}
use Rattle.iox_machine.proofs.Cases.{by-option}
use Rattle.iox_machine.proofs.Frames.{publisher-comes, subscriber-comes}
use Rattle.iox_machine.proofs.Moving.{IsClosed, at-one, replaced-same, closed}
use Rattle.iox_machine.proofs.Shorthands.{AtFree, IsSkipped}
use Rattle.iox_machine.specs.Arriving.{PublisherArrives, SubscriberArrives, new_publisher, new_subscriber}
use Rattle.iox_machine.specs.Choices.{Choices}
use Rattle.iox_machine.specs.Ports.{publisher_in, LendsLoan}
use Rattle.iox_machine.specs.Run.{Step, AtFactory}
use Rattle.iox_machine.specs.RunLaws.{RefusedChangesNothing, is_refused_whole}
use Rattle.iox_machine.specs.Service.{Service, Publisher, Subscriber}
use Rattle.iox_machine.specs.State.{State, AtOne, is_service_of, replaced}
use Rattle.iox_machine.specs.Table.{at}
use Rattle.iox_command.specs.NegotiateBase.DescribeBase.declared.message_type.MessageTypeDetails.{MessageTypeDetails}
use Rattle.iox_command.specs.declared.command.Command.{Command}
use Rattle.iox_command.specs.declared.command.Command.TheVariants as command
use Rattle.iox_command.specs.declared.refusal.Refusal.{Refusal}
use Rattle.iox_command.specs.declared.reply.Reply.{Reply}
use Rattle.iox_command.specs.declared.reply.Reply.TheVariants as reply

module _ {T : Type 0} (reason : Refusal) where
  abbrev refused_so : Reply T
  refused_so = reply.Refused reason

  abbrev is_refusal : Reply T → Bool
  is_refusal (reply.Refused why) = true
  is_refusal other = false

  -- another reply is no refusal
  never : {A : Type 0} (other : Reply T) → refused_so ≡ other → is_refusal other ≡ false → A
  never other same silent = absurd (differ (ap is_refusal same ∙ silent))
    where
      differ : true ≡ false → ⊥
      differ e = cc

  lends-refused : (loan number count : ℕ) (value : Option T) (publisher : Publisher T) (old new : Service T)
      → LendsLoan loan number count value publisher old refused_so new → new ≡ old
  lends-refused loan number count value publisher old new (None, after, lent, (told, came)) = never (reply.LoanMade loan) told refl
  lends-refused loan number count value publisher old new (Some why, after, lent, (told, same)) = same

  publisher-arrives-refused : (number : ℕ) (one : Publisher T) (old new : Service T) → PublisherArrives number one old refused_so new
      → new ≡ old
  publisher-arrives-refused number one old new h =
      elim (publisher-comes number one old refused_so new h) [
        | inl same ↦ same
        | inr w ↦ never (reply.PublisherMade number) w.5 refl
      ]

  subscriber-arrives-refused : (buffer number : ℕ) (one : Subscriber) (old new : Service T)
      → SubscriberArrives buffer number one old refused_so new → new ≡ old
  subscriber-arrives-refused buffer number one old new h =
      elim (subscriber-comes buffer number one old refused_so new h) [
        | inl same ↦ same
        | inr w ↦ never (reply.SubscriberMade number) w.6 refl
      ]

  -- ---- the state

  at-one-refused : {V : Type 0} (found : Service T → Option V) (Does : V → Service T → Reply T → Service T → Type 0) (old new : State T)
      → ((one : V) (service after : Service T) → Does one service refused_so after → after ≡ service)
      → AtOne found Does old refused_so new → new ≡ old
  at-one-refused found Does old new does h =
      elim (at-one found Does old refused_so new h) [
        | inl w ↦ w.1
        | inr w ↦ w.6
            ∙ (ap (λ (it : Service T). record old { services = replaced (λ (other : Service T). is_some (found other)) it old.services })
            (does w.1 w.0 w.2 w.5)
            ∙ ap (λ (it : List (Service T)). record old { services = it })
            (replaced-same (λ (other : Service T). is_some (found other)) w.0 old.services w.3))
      ]

  at-free-refused : (number : ℕ) (Does : Publisher T → Service T → Reply T → Service T → Type 0) (old new : State T)
      → ((one : Publisher T) (service after : Service T) → Does one service refused_so after → after ≡ service)
      → AtFree number Does old refused_so new → new ≡ old
  at-free-refused number Does old new does h =
      at-one-refused (publisher_in number)
      (λ (publisher : Publisher T) (service : Service T) (told : Reply T) (after : Service T). MatchOption publisher.blocked
      (Does publisher service told after) (λ send. IsSkipped service told after))
      old new
      (λ one service after did. elim (by-option one.blocked (Does one service refused_so after)
      (λ send. IsSkipped service refused_so after) did) [
        | inl w ↦ does one service after w.1
        | inr w ↦ w.2.1
      ])
      h

  closed-refused : (number : ℕ) (old new : State T) → IsClosed number old refused_so new → new ≡ old
  closed-refused number old new (inl skipped) = skipped.1
  closed-refused number old new (inr (inl refused)) = refused.1
  closed-refused number old new (inr (inr (factory, found, unused, told, came))) = never reply.Done told refl

  module _ (types : MessageTypeDetails) (choices : Choices T) (buffer : ℕ) where
    at-factory-refused : (number : ℕ) (Does : Service T → Reply T → Service T → Type 0) (old new : State T)
        → ((service after : Service T) → Does service refused_so after → after ≡ service)
        → AtFactory types choices buffer number Does old refused_so new → new ≡ old
    at-factory-refused number Does old new does h =
        elim (by-option (at number old.factories) (IsSkipped old refused_so new)
        (λ factory. AtOne (λ (service : Service T). cond (is_service_of factory service) (Some service) None)
        (λ (service : Service T). Does)
        old refused_so new) h) [
          | inl w ↦ w.1.1
          | inr w ↦ at-one-refused (λ (service : Service T). cond (is_service_of w.0 service) (Some service) None)
              (λ (service : Service T). Does)
              old new (λ one service after did. does service after did) w.2
        ]

    differ : false ≡ true → ⊥
    differ e = cc

    step-refused : (asked : Command T) (old new : State T) → is_refused_whole asked ≡ true
        → Step types choices buffer asked old refused_so new → new ≡ old
    step-refused command.Node old new whole (inl (told, came)) = never (reply.NodeMade (old.made.nodes + 1)) told refl
    step-refused command.Node old new whole (inr refused) = refused.1
    step-refused (command.Close factory) old new whole h = closed-refused factory old new (closed factory old refused_so new h)
    step-refused (command.Publisher factory options) old new whole h =
        at-factory-refused factory
        (λ (service : Service T). PublisherArrives (old.made.publishers + 1)
        (new_publisher factory options service.settings) service) old new
        (λ service after did. publisher-arrives-refused (old.made.publishers + 1)
        (new_publisher factory options service.settings) service after did) h
    step-refused (command.Subscriber factory options) old new whole h =
        at-factory-refused factory
        (λ (service : Service T). SubscriberArrives buffer (old.made.subscribers + 1)
        (new_subscriber factory options service.settings) service) old new
        (λ service after did. subscriber-arrives-refused buffer (old.made.subscribers + 1)
        (new_subscriber factory options service.settings) service after
        did) h
    step-refused (command.Loan publisher count) old new whole (value, is, h) =
        at-free-refused publisher (LendsLoan (old.made.loans + 1) publisher count (Some value)) old new
        (λ one service after did. lends-refused (old.made.loans + 1) publisher count (Some value) one service after did) h
    step-refused (command.LoanUninit publisher count) old new whole h =
        at-free-refused publisher (LendsLoan (old.made.loans + 1) publisher count None) old new
        (λ one service after did. lends-refused (old.made.loans + 1) publisher count None one service after did) h
    step-refused other old new whole h = absurd (differ whole)

pub refused-changes-nothing : {T : Type 0} (choices : Choices T) → RefusedChangesNothing choices
refused-changes-nothing choices types buffer asked old new reason whole h =
    step-refused reason types choices buffer asked old new whole h
