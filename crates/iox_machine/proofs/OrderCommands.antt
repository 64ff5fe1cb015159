-- Each step keeps the order in which messages were sent.
use Rattle.std.proofs.Common.{◌≡◌, ◌⊎◌, ◌<◌, ◌+◌, ℕ, Bool, true, false, cond, List, [], ◌∷◌, ◌++◌, Option, None, Some, refl, sym}
use Rattle.std.proofs.Common.{ap}
use Rattle.std.proofs.Common.{subst, inl, inr, arith, ◌∙◌, true≢false}
use Rattle.std.proofs.lemmas.Bool.{cases_Bool, eqb-false, eqb-true}
use Rattle.std.specs.List.{AllByRecursion}
use Rattle.std.specs.Prelude.{◌==◌, filter, find}
use Rattle.iox_machine.proofs.Frames.{by-follows}
use Rattle.iox_machine.proofs.MoveForms.{Loud, Loudly, begun_of, is_port}
use Rattle.iox_machine.proofs.MoveForms as move
use Rattle.iox_machine.proofs.MoveSteps.{step-parts}
use Rattle.iox_machine.proofs.Moves.{IsOpened, IsShut, IsStill, IsTold, Parts}
use Rattle.iox_machine.proofs.OrderMoves.{receives_none, set-still, walk-moves}
use Rattle.iox_machine.proofs.OrderPorts.{all-lack, comes-fits, moves-leaves, moves-subscriber, one-comes}
use Rattle.iox_machine.proofs.OrderRuns.{one-filtered, one-open}
use Rattle.iox_machine.proofs.OrderSends.{receive-goes}
use Rattle.iox_machine.proofs.OrderSteps.{noted, Alike, IsLater, IsOfOne, IsOrdered, Moves, alike-by, has_it, made-later, made-same}
use Rattle.iox_machine.proofs.OrderSteps.{moves-alike, moves-later, ordered-acted, ordered-at-one, ordered-services}
use Rattle.iox_machine.proofs.Shorthands.{registered}
use Rattle.iox_machine.proofs.Tables.{at-appended-other}
use Rattle.iox_machine.specs.Arriving.{new_publisher}
use Rattle.iox_machine.specs.Choices.{Choices}
use Rattle.iox_machine.specs.Message.{Message}
use Rattle.iox_machine.specs.MessageLaws.{begun_by, received_by}
use Rattle.iox_machine.specs.Ports.{subscriber_in}
use Rattle.iox_machine.specs.PublisherUpdate as publishing
use Rattle.iox_machine.specs.Receiving.{Receives}
use Rattle.iox_machine.specs.Run.{Step}
use Rattle.iox_machine.specs.RunLaws.{BeginsToSend}
use Rattle.iox_machine.specs.Service.{Publisher, Service}
use Rattle.iox_machine.specs.State.{Made, State, counted, replaced}
use Rattle.iox_machine.specs.SubscriberUpdate as subscribing
use Rattle.iox_machine.specs.Table.{at}
use Rattle.iox_command.specs.DomainValues.declared.port_error.ReceiveError.TheVariants as receive_error
use Rattle.iox_command.specs.NegotiateBase.DescribeBase.declared.message_type.MessageTypeDetails.{MessageTypeDetails}
use Rattle.iox_command.specs.NegotiateBase.DescribeSettings.declared.static_config.publish_subscribe.StaticConfig.{StaticConfig}
use Rattle.iox_command.specs.declared.command.Command.{Command}
use Rattle.iox_command.specs.declared.command.Command.TheVariants as command
use Rattle.iox_command.specs.declared.port.PublisherOptions.{PublisherOptions}
use Rattle.iox_command.specs.declared.refusal.Refusal.TheVariants as refusal
use Rattle.iox_command.specs.declared.reply.Reply.{Reply}
use Rattle.iox_command.specs.declared.reply.Reply.TheVariants as reply

-- no send begins where a port comes or leaves
port-silent : {T : Type 0} (p : ℕ) (one : Loud T) → is_port one ≡ true → begun_of p (one ∷ []) ≡ None
port-silent p (move.Begins number one message) is = absurd (true≢false (sym is))
port-silent p other is = refl

module _ {T : Type 0} (p s : ℕ) (G : List ℕ → StaticConfig → Message T → Type 0) (sent received : List (Message T)) where
  abbrev First : State T → Service T → Type 0
  First state service = find (has_it p s G) state.services ≡ Some service

  module _ (asked : Command T) (old : State T) (answer : Reply T) (new : State T) where
    -- ---- a port comes or leaves

    module _ (has : Service T → Bool) (service after : Service T) (first : find has old.services ≡ Some service)
        (came : new ≡ record old { made = counted answer old.made; services = replaced has after old.services })
        (ordered : IsOrdered p s G sent received old) where
      quiet-ordered : Moves p s G old.made old.made sent received sent received (First old service) service after
          → IsOrdered p s G sent received new
      quiet-ordered h =
          ordered-acted p s G sent received None None has service after old answer new first
          (moves-later p s G old.made (counted answer old.made) sent received sent (First old service) service after
          (made-later answer old.made) h) came ordered

      early : p ≡ old.made.publishers + 1 → old.made.publishers < p
      early is = omega (arith, is)

      -- the publisher itself comes
      publisher-ordered : (factory place : ℕ) (options : PublisherOptions) (then : Publisher T) (mid : Service T)
          → p ≡ old.made.publishers + 1 → answer ≡ reply.PublisherMade p
          → publishing.Follows p (new_publisher factory options service.settings)
          (record service { publishers = service.publishers ++ (p, new_publisher factory options service.settings) ∷ [] }) then mid
          → after ≡ record mid { publisher_list = registered place p mid.publisher_list } → IsOrdered p s G sent received new
      publisher-ordered factory place options then mid next told did listed =
          let none : (sent ≡ []) × (received ≡ []) = ordered.1 (early next) in
          subst (λ (l : List (Message T)). IsOrdered p s G l received new) (sym none.0)
          (subst (λ (l : List (Message T)). IsOrdered p s G [] l new) (sym none.1)
          (subst (IsOrdered p s G [] []) (sym came) (
            subst (λ (said : Reply T). IsOfOne p s G (counted said old.made) [] [] (replaced has after old.services)) (sym told)
                (one-comes p s G old.made (counted {T = T} (reply.PublisherMade p) old.made) [] []
                (made-later {T = T} (reply.PublisherMade p) old.made) has service after old.services first
                (λ lacks. comes-fits p s G old.made factory options service place then mid after next did listed lacks)
                (all-lack p s G old.made sent received (early next) old.services ordered.0)),
            (λ before. (refl, refl)),
            refl,
            (false, tt),
          )))

      port-ordered : (one : Loud T) → is_port one ≡ true → IsTold asked old answer one → Loudly old.factories one service after
          → IsOrdered p s G sent received new
      port-ordered (move.Publishes place number options one then) is (asks, next, told)
          (open_one, (made, free, mid, did, listed), follows, became) = elim (cases_Bool (number == p)) [
            | inl same ↦
                let it : number ≡ p = eqb-true number p same in
                publisher-ordered one.factory place options then mid (sym it ∙ next)
                (told ∙ ap (λ (n : ℕ). reply.PublisherMade n) it)
                (subst (λ (q : Publisher T). publishing.Follows p q (record service { publishers = service.publishers ++ (p, q) ∷ [] }) then
                mid) made.0
                (subst (λ (n : ℕ). publishing.Follows n one (record service { publishers = service.publishers ++ (n, one) ∷ [] }) then
                mid) it
                did))
                (subst (λ (n : ℕ). after ≡ record mid { publisher_list = registered place n mid.publisher_list }) it listed)
            | inr other ↦
                let off : p ≡ number → ⊥ = λ e. eqb-false number p other (sym e) in
                let more : Service T = record service { publishers = service.publishers ++ (number, one) ∷ [] } in
                let a : Alike p s more mid = alike-by p s number more mid off (by-follows number one more then mid did) in
                let still : Alike p s service mid =
                (a.0, a.1, a.2 ∙ at-appended-other number p one service.publishers off, a.3, a.4) in
                quiet-ordered (moves-alike p s G old.made old.made sent received (First old service) service after (made-same old.made)
                (subst (Alike p s service) (sym listed) still))
          ]
      port-ordered (move.Subscribes buffer place number options one then) is (asks, next, told)
          (open_one, (made, small, free, mid, did, listed), follows, became) =
          ordered-acted p s G sent received None None has service after old answer new first
          (moves-subscriber p s G old.made sent received (First old service) buffer number place one then service mid after answer next did
          listed free told) came ordered
      port-ordered (move.Unpublishes number one) is told (found, became) =
          quiet-ordered (subst (λ (it : Service T). Moves p s G old.made old.made sent received sent received (First old service) service
          it)
          (sym became)
          (set-still p s G old.made (First old service) sent received number one (record one { stands = false }) service found (λ b. b)))
      port-ordered (move.Unsubscribes number one) is told (found, became) =
          quiet-ordered (subst (λ (it : Service T). Moves p s G old.made old.made sent received sent received (First old service) service
          it)
          (sym became) (moves-leaves p s G old.made sent received (First old service) number (record one { stands = false }) service))
      port-ordered other is told did = absurd (true≢false (sym is))

    -- ---- a step by which no message is received

    others-ordered : (IsStill old new ⊎ (IsOpened old new ⊎ IsShut old new)) → IsOfOne p s G old.made sent received old.services
        → IsOfOne p s G old.made sent received new.services
    others-ordered (inl (services, factories)) one =
        subst (λ (l : List (Service T)). IsOfOne p s G old.made sent received l) (sym services) one
    others-ordered (inr (inl (factory, phase, factories, services))) one =
        subst (λ (l : List (Service T)). IsOfOne p s G old.made sent received l) (sym services)
        (one-open p s G sent received old.made factory.name phase old.services one)
    others-ordered (inr (inr (number, factory, found, unused, factories, services))) one =
        subst (λ (l : List (Service T)). IsOfOne p s G old.made sent received l) (sym services) (fewer _ _)
      where
        fewer : (b : Bool) (test : Service T → Bool)
            → IsOfOne p s G old.made sent received (cond b old.services (filter test old.services))
        fewer true test = one
        fewer false test = one-filtered p s G sent received old.made test old.services one

    parts-ordered : receives_none asked ≡ true
        → ((message : Message T) (it : Service T) → BeginsToSend p message.values asked old answer → First old it
        → G it.name it.settings message)
        → Parts asked old answer new → IsOrdered p s G sent received old
        → IsOrdered p s G (noted sent (begun_by p asked old answer)) received new
    parts-ordered none good (made, inl (told, others)) ordered =
        subst (λ (o : Option (Message T)). IsOrdered p s G (noted sent o) received new) (sym (told.0 p))
        (ordered-services p s G sent received old new
        (subst (λ (later : Made). IsLater old.made later) (sym made) (made-later answer old.made))
        (others-ordered others ordered.0) ordered)
    parts-ordered none good (made, inr (has, service, after, first, inl (loud, beside, told, walk), came)) ordered =
        subst (λ (o : Option (Message T)). IsOrdered p s G (noted sent o) received new) (sym (told.0 p))
        (ordered-acted p s G sent received (begun_of p loud) None has service after old answer new first
        (moves-later p s G old.made (counted answer old.made) sent received (noted sent (begun_of p loud)) (First old service) service
        after (made-later answer old.made)
        (walk-moves p s G old.made (First old service) asked old answer none service (λ message begins is. good message service begins is)
        sent received old.factories loud service after (refl, refl) beside told.6 told.5 walk)) came ordered)
    parts-ordered none good (made, inr (has, service, after, first, inr (one, is, told, did), came)) ordered =
        subst (λ (o : Option (Message T)). IsOrdered p s G (noted sent o) received new) (sym (told.0 p ∙ port-silent p one is))
        (port-ordered has service after first came ordered one is told.5.0 did)

  module _ (types : MessageTypeDetails) (choices : Choices T) (buffer : ℕ) where
    -- Each step keeps the order, if the message of which it begins the send is good in its service.
    pub step-ordered : (asked : Command T) (old : State T) (answer : Reply T) (new : State T)
        → ((message : Message T) (it : Service T) → BeginsToSend p message.values asked old answer
        → find (has_it p s G) old.services ≡ Some it → G it.name it.settings message)
        → AllByRecursion (λ (other : Service T). at (old.made.samples + 1) other.samples ≡ None) old.services
        → Step types choices buffer asked old answer new → IsOrdered p s G sent received old
        → IsOrdered p s G (noted sent (begun_by p asked old answer)) (noted received (received_by p s asked answer new)) new
    step-ordered (command.Receive subscriber) old answer new good fresh h ordered =
        ordered-at-one p s G sent received None (received_by p s (command.Receive subscriber) answer new) (subscriber_in subscriber)
        (subscribing.UpdatesFirst choices buffer subscriber (λ failure. refusal.Receive (receive_error.ConnectionFailure failure))
        (Receives subscriber (old.made.samples + 1))) old answer new
        (λ skipped. (refl, ap (λ (told : Reply T). received_by p s (command.Receive subscriber) told new) skipped.0))
        (λ service one after first is did came. receive-goes p s G sent received choices buffer subscriber old answer new service one
        after fresh first is came did) h ordered
    step-ordered asked old answer new good fresh h ordered =
        parts-ordered asked old answer new refl good (step-parts types choices buffer asked old answer new h) ordered
