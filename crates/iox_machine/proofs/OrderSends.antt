-- A receive keeps the order in which messages were sent.
use Rattle.std.proofs.Common.{◌≡◌, ◌+◌, ℕ, Bool, true, false, cond, ◌&&◌, List, [], ◌∷◌, Option, None, Some, refl, sym, ap, subst}
use Rattle.std.proofs.Common.{◌∙◌}
use Rattle.std.specs.List.{AllByRecursion}
use Rattle.std.specs.Prelude.{⊤, ◌==◌, is_some, find, option_and_then}
use Rattle.iox_machine.proofs.Cases.{never-some}
use Rattle.iox_machine.proofs.Frames.{BySubscriber, subscriber-stands, soft-both, soft-set, soft-updates}
use Rattle.iox_machine.proofs.OrderPorts.{takes-moves}
use Rattle.iox_machine.proofs.OrderRuns.{Goes, Quiet, alike-goes}
use Rattle.iox_machine.proofs.OrderSteps.{noted, Alike, Moves, has_it, made-later, alike-soft, alike-refused, moves-alike}
use Rattle.iox_machine.proofs.Runs.{all-found}
use Rattle.iox_machine.proofs.Shorthands.{with_subscriber}
use Rattle.iox_machine.proofs.Tables.{at-appended}
use Rattle.iox_machine.specs.Choices.{Choices}
use Rattle.iox_machine.specs.Message.{Message, Sample}
use Rattle.iox_machine.specs.MessageLaws.{first_in, received_by}
use Rattle.iox_machine.specs.Ports.{subscriber_in}
use Rattle.iox_machine.specs.Receiving.{Receives, has_samples, lasting}
use Rattle.iox_machine.specs.Service.{Service, Subscriber}
use Rattle.iox_machine.specs.State.{State, Made, replaced, counted}
use Rattle.iox_machine.specs.SubscriberUpdate as subscribing
use Rattle.iox_machine.specs.Table.{at}
use Rattle.iox_command.specs.DomainValues.declared.port_error.ReceiveError.TheVariants as receive_error
use Rattle.iox_command.specs.NegotiateBase.DescribeSettings.declared.static_config.publish_subscribe.StaticConfig.{StaticConfig}
use Rattle.iox_command.specs.declared.command.Command.TheVariants as command
use Rattle.iox_command.specs.declared.refusal.Refusal.TheVariants as refusal
use Rattle.iox_command.specs.declared.reply.Reply.{Reply}
use Rattle.iox_command.specs.declared.reply.Reply.TheVariants as reply

module _ {T : Type 0} where
  pub first-fresh : (number : ℕ) (has : Service T → Bool) (service after : Service T) (it : Sample T) (services : List (Service T))
      → AllByRecursion (λ (other : Service T). at number other.samples ≡ None) services → find has services ≡ Some service
      → at number after.samples ≡ Some it
      → find (λ (other : Service T). is_some (at number other.samples)) (replaced has after services) ≡ Some after
  first-fresh number has service after it [] fresh first is = never-some service first
  first-fresh number has service after it (other ∷ more) fresh first is =
      step (first-fresh number has service after it more) (has other) first
    where
      step : (AllByRecursion (λ (one : Service T). at number one.samples ≡ None) more → find has more ≡ Some service
          → at number after.samples ≡ Some it
          → find (λ (one : Service T). is_some (at number one.samples)) (replaced has after more) ≡ Some after) → (b : Bool)
          → cond b (Some other) (find has more) ≡ Some service
          → find (λ (one : Service T). is_some (at number one.samples)) (cond b (after ∷ more) (other ∷ replaced has after more))
          ≡ Some after
      step next true same =
          ap (λ (o : Option (Sample T)). cond (is_some o) (Some after)
          (find (λ (one : Service T). is_some (at number one.samples)) more)) is
      step next false same =
          ap (λ (o : Option (Sample T)). cond (is_some o) (Some other)
          (find (λ (one : Service T). is_some (at number one.samples)) (replaced has after more))) fresh.0
          ∙ next fresh.1 same is

module _ {T : Type 0} (p s : ℕ) (G : List ℕ → StaticConfig → Message T → Type 0) (sent received : List (Message T)) where
  abbrev IsFirst : State T → Service T → Type 0
  IsFirst old service = find (has_it p s G) old.services ≡ Some service

  moves-both : (made later : Made) (then_sent then_received : List (Message T)) (First : Type 0) (one two three : Service T)
      → Moves p s G made made sent received sent received First one two
      → Moves p s G made later sent received then_sent then_received ⊤ two three
      → Moves p s G made later sent received then_sent then_received First one three
  moves-both made later then_sent then_received First one two three h k =
      ((λ lacks. k.0 (h.0 lacks).0), (λ fits is_first. k.1 (h.1 fits is_first) tt))

  -- ---- a receive

  pub receive-goes : (choices : Choices T) (buffer number : ℕ) (old : State T) (answer : Reply T) (new : State T) (service : Service T)
      (one : Subscriber)
      (after : Service T)
      → AllByRecursion (λ (other : Service T). at (old.made.samples + 1) other.samples ≡ None) old.services
      → find (λ (other : Service T). is_some (subscriber_in number other)) old.services ≡ Some service
      → subscriber_in number service ≡ Some one
      → new ≡ record old {
        made = counted answer old.made;
        services = replaced (λ (other : Service T). is_some (subscriber_in number other)) after old.services;
      }
      → subscribing.UpdatesFirst choices buffer number (λ failure. refusal.Receive (receive_error.ConnectionFailure failure))
      (Receives number (old.made.samples + 1)) one service answer after
      → Goes p s G sent received old answer None (received_by p s (command.Receive number) answer new) service after
  receive-goes choices buffer number old answer new service one after fresh first is came did =
      soft-updates choices (Goes p s G sent received old answer None (received_by p s (command.Receive number) answer new) service after)
      buffer
      number
      (λ failure. refusal.Receive (receive_error.ConnectionFailure failure)) (Receives number (old.made.samples + 1)) one service answer
      after
      (subscriber-stands number service one is).0
      (λ now mid soft found same h. receives now mid soft found h)
      (λ why mid soft refused. nothing (ap (λ (told : Reply T). received_by p s (command.Receive number) told new) refused.0)
      (alike-goes p s G sent received old answer service after
      (alike-refused p s why service mid answer after (alike-soft p s service mid soft) refused))) did
    where
      nothing : received_by p s (command.Receive number) answer new ≡ None → Quiet p s G sent received old answer service after
          → Goes p s G sent received old answer None (received_by p s (command.Receive number) answer new) service after
      nothing none goes = subst (λ (o : Option (Message T)). Goes p s G sent received old answer None o service after) (sym none) goes

      untaken : (b : Bool) → answer ≡ cond b (reply.Refused (refusal.Receive receive_error.ExceedsMaxBorrows)) reply.NothingWaits
          → received_by p s (command.Receive number) answer new ≡ None
      untaken true e = ap (λ (told : Reply T). received_by p s (command.Receive number) told new) e
      untaken false e = ap (λ (told : Reply T). received_by p s (command.Receive number) told new) e

      receives : (now : Subscriber) (mid : Service T) → BySubscriber service mid → at number mid.subscribers ≡ Some now
          → Receives number (old.made.samples + 1) now mid answer after
          → Goes p s G sent received old answer None (received_by p s (command.Receive number) answer new) service after
      receives now mid soft found (None, gives, (told, is_so)) =
          let later : Subscriber = record now { expired = lasting number mid now.expired } in
          let swept : Service T = with_subscriber number later mid in
          nothing (untaken (has_samples number now mid) told)
          (alike-goes p s G sent received old answer service after
          (subst (λ (it : Service T). Alike p s service it) (sym is_so)
          (alike-soft p s service swept (soft-both service mid swept soft (soft-set number now later mid found refl)))))
      receives now mid soft found (Some publisher, gives, took) =
          let later : Subscriber = record now { expired = lasting number mid now.expired } in
          let swept : Service T = with_subscriber number later mid in
          let softly : BySubscriber service swept = soft-both service mid swept soft (soft-set number now later mid found refl) in
          let it : Sample T = record { publisher = publisher; subscriber = number; message = took.0 } in
          let unknown : at (old.made.samples + 1) swept.samples ≡ None =
          ap (at (old.made.samples + 1)) softly.4
          ∙ all-found (λ (other : Service T). at (old.made.samples + 1) other.samples ≡ None)
          (λ (other : Service T). is_some (subscriber_in number other)) old.services service first fresh in
          let there : at (old.made.samples + 1) after.samples ≡ Some it =
          ap (λ (end : Service T). at (old.made.samples + 1) end.samples) took.5 ∙ at-appended (old.made.samples + 1) it swept.samples
          unknown in
          let seen : first_in (λ (other : Service T). at (old.made.samples + 1) other.samples) new ≡ Some it =
          ap (λ (state : State T). first_in (λ (other : Service T). at (old.made.samples + 1) other.samples) state) came
          ∙ (ap (option_and_then (λ (other : Service T). at (old.made.samples + 1) other.samples))
          (first-fresh (old.made.samples + 1) (λ (other : Service T). is_some (subscriber_in number other)) service after it
          old.services fresh first there)
          ∙ there) in
          let told : received_by p s (command.Receive number) answer new
          ≡ cond ((number == s) && (publisher == p)) (Some took.0) None =
          ap (λ (answered : Reply T). received_by p s (command.Receive number) answered new) took.4
          ∙ ap (λ (o : Option (Sample T)). option_and_then
          (λ (sample : Sample T). cond ((number == s) && (sample.publisher == p)) (Some sample.message) None) o) seen in
          subst (λ (o : Option (Message T)). Goes p s G sent received old answer None o service after) (sym told)
          (moves-both old.made (counted answer old.made) sent
          (noted received (cond ((number == s) && (publisher == p)) (Some took.0) None)) (IsFirst old service) service swept after
          (moves-alike p s G old.made old.made sent received (IsFirst old service) service swept (made-later {T = T} reply.Done old.made)
          (alike-soft p s service swept softly))
          (takes-moves p s G old.made (counted answer old.made) sent received ⊤ number (old.made.samples + 1) publisher swept answer after
          (made-later answer old.made) took))
