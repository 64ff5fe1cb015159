-- A publisher that does something first follows the list of subscribers, if that changed.
use Rattle.std.proofs.Common.{◌≡◌, ◌⊎◌, ◌==◌, ℕ, Bool, true, false, List, Option, None, Some, Result, Ok, refl, sym, ap, subst, inl, inr}
use Rattle.std.proofs.Common.{◌∙◌}
use Rattle.std.specs.Prelude.{MatchBool, MatchResult, zip}
use Rattle.iox_command.specs.DomainValues.declared.connection_failure.ConnectionFailure.{ConnectionFailure}
use Rattle.iox_command.specs.DomainValues.declared.degradation.DegradationAction.{DegradationAction}
use Rattle.iox_command.specs.declared.refusal.Refusal.{Refusal}
use Rattle.iox_command.specs.declared.reply.Reply.{Reply}
use Rattle.iox_domain.proofs.DomainPorts.Listing.{follows_who_is_listed}
use Rattle.iox_domain.proofs.WellKept.{told_same}
use Rattle.iox_domain.specs.Container.declared.container.Member.{Member}
use Rattle.iox_domain.specs.DomainPorts.PublisherUpdating as domain
use Rattle.iox_domain.specs.DomainPorts.Publishers.{port_of}
use Rattle.iox_domain.specs.DomainPorts.declared.attached.Taken.{Taken}
use Rattle.iox_domain.specs.DomainPorts.declared.publisher_port.PublisherPort.{PublisherPort}
use Rattle.iox_domain.specs.DomainPorts.declared.subscriber_entry.SubscriberEntry.{SubscriberEntry}
use Rattle.iox_domain.specs.DomainValues.declared.degradation.DegradationInfo.{DegradationInfo}
use Rattle.iox_domain.specs.PortLawsLaws.{IsApart}
use Rattle.iox_domain.specs.Rolls.{IsListOf}
use Rattle.iox_domain.specs.SizeLaws.{AreAllowed}
use Rattle.iox_domain.specs.declared.ports.service_ports.ServicePorts.{ServicePorts}
use Rattle.iox_domain_machine.specs.Naming.{Naming}
use Rattle.iox_domain_machine.specs.Standing.{StandsFor, PublisherIs}
use Rattle.iox_domain_machine.specs.Tables.{LentSlot}
use Rattle.iox_domain_machine.proofs.FollowPort.{HasFollowed}
use Rattle.iox_domain_machine.proofs.FollowStands.{its_update, publisher_after, service_after}
use Rattle.iox_machine.specs.Choices.{Choices}
use Rattle.iox_machine.specs.PublisherUpdate.{Follows, UpdatesFirst, UpdateAnswers}
use Rattle.iox_machine.proofs.Shorthands.{IsRefused}
use Rattle.iox_machine.specs.Service.{Publisher, Service}

module _ {T U : Type 0} (names : Naming) (lent : List (ℕ × LentSlot)) (held : List (ℕ × Taken)) (buffer : ℕ) (old : ServicePorts T U)
    (service : Service T) (stands : StandsFor names lent held buffer old service) (number : ℕ) (port after : PublisherPort T U)
    (there : port_of number old.publishers ≡ Some port) (May : DegradationAction → Type 0)
    (answer : Result (Unit {0}) ConnectionFailure) where
  abbrev name : ℕ
  name = names.publisher number

  abbrev found : PublisherIs names old service number port
  found = stands.publishers number port there

  -- what an update of it comes to where the list changed
  abbrev pub ItsUpdate : Type 0
  ItsUpdate = HasFollowed (names.message number) names.subscriber (names.reader number) old.next_port old.sizes.max_subscribers
      old.sizes.subscriber_max_buffer_size old.subscriber_list port after service name found.0 May answer

  -- whether the list changed since its last update
  abbrev pub has_seen : Bool
  has_seen = port.seen == old.subscriber_list.changes

  -- An update of an existing publisher without a blocked send: nothing happens if the list didn't change; otherwise it followed the
  -- list.
  pub update_is : (may : DegradationInfo → DegradationAction → Type 0) → IsApart old → AreAllowed old → port.stands ≡ true
      → port.sender.uses.sending ≡ None
      → ((info : DegradationInfo) (action : DegradationAction) → may info action → May action)
      → (listed : List (Option (Member SubscriberEntry)))
      → IsListOf listed old.subscriber_list → domain.Updates may listed old.subscriber_list.changes port answer after
      → ((has_seen ≡ true) × (answer ≡ Ok tt) × (after ≡ port)) ⊎ ((has_seen ≡ false) × ItsUpdate)
  update_is may apart allowed standing silent over listed tells call =
      by has_seen refl ((follows_who_is_listed may).same listed old.subscriber_list.places old.subscriber_list.changes port after answer
      (λ place. sym (told_same listed old.subscriber_list tells place)) call)
    where
      by : (seen : Bool) → has_seen ≡ seen
          → domain.UpdatesIf seen may old.subscriber_list.places old.subscriber_list.changes port answer after
          → ((has_seen ≡ true) × (answer ≡ Ok tt) × (after ≡ port)) ⊎ ((has_seen ≡ false) × ItsUpdate)
      by true seen is = inl (seen, is.0, is.1)
      by false seen is = inr (
        seen,
        its_update names lent held buffer old service stands number port after there apart allowed standing silent may May over answer is,
      )

  same_seen : (found.0.seen == service.subscriber_list.changes) ≡ has_seen
  same_seen =
      ap (λ seen. seen == service.subscriber_list.changes) found.2.seen
      ∙ ap (λ list. port.seen == list.changes) stands.subscriber_list

module _ {T U : Type 0} (choices : Choices T) (names : Naming) (lent : List (ℕ × LentSlot)) (held : List (ℕ × Taken)) (buffer : ℕ)
    (old : ServicePorts T U) (service : Service T) (stands : StandsFor names lent held buffer old service) (number : ℕ)
    (port after : PublisherPort T U) (there : port_of number old.publishers ≡ Some port) (answer : Result (Unit {0}) ConnectionFailure)
    (told : ConnectionFailure → Refusal) (Does : Publisher T → Service T → Reply T → Service T → Type 0) (answered : Reply T)
    (later : Service T) where
  abbrev its_name : ℕ
  its_name = names.publisher number

  abbrev its : PublisherIs names old service number port
  its = stands.publishers number port there

  abbrev May : DegradationAction → Type 0
  May = choices.publisher_acts its_name its.0.degradation

  abbrev Follow : Type 0
  Follow =
      (one : Publisher T) × (mid : Service T) × Follows its_name its.0 service one mid
      × ((outcome : Result (Unit {0}) ConnectionFailure) × UpdateAnswers May (zip service.subscriber_list.places one.connected) outcome
      × MatchResult outcome (λ done. Does one mid answered later) (λ failure. IsRefused (told failure) mid answered later))

  first_by : (seen : Bool) → (port.seen == old.subscriber_list.changes) ≡ seen
      → MatchBool seen (Does its.0 service answered later) Follow
      → UpdatesFirst choices its_name told Does its.0 service answered later
  first_by seen is it = subst (λ b. MatchBool b (Does its.0 service answered later) Follow)
      (sym (same_seen names lent held buffer old service stands number port after there May answer ∙ is)) it

  -- the machine's publisher does at once what it does where the list didn't change
  pub does_at_once : (port.seen == old.subscriber_list.changes) ≡ true → Does its.0 service answered later
      → UpdatesFirst choices its_name told Does its.0 service answered later
  does_at_once seen does = first_by true seen does

  -- and else after its update, where that went well
  pub does_then : (port.seen == old.subscriber_list.changes) ≡ false
      → (followed : ItsUpdate names lent held buffer old service stands number port after there May answer)
      → MatchResult answer
      (λ done. Does (publisher_after names lent held buffer old service stands number port after there May answer followed)
      (service_after names lent held buffer old service stands number port after there May answer followed) answered later)
      (λ failure. IsRefused (told failure)
      (service_after names lent held buffer old service stands number port after there May answer followed) answered later)
      → UpdatesFirst choices its_name told Does its.0 service answered later
  does_then seen followed does = first_by false seen (
    publisher_after names lent held buffer old service stands number port after there May answer followed,
    service_after names lent held buffer old service stands number port after there May answer followed,
    followed.follows,
    (answer, followed.answered, does),
  )
