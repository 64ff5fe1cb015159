-- Services that come and go keep the order in which messages were sent.
use Rattle.std.proofs.Common.{◌≡◌, ℕ, Bool, true, false, cond, List, [], ◌∷◌, ◌++◌, Option, None, Some, refl, sym, ap, subst, inl, inr}
use Rattle.std.specs.List.{AllByRecursion, list_any}
use Rattle.std.specs.Prelude.{find, filter, bytes_eq}
use Rattle.iox_machine.proofs.Lists.{all-joined, all-filtered}
use Rattle.iox_machine.proofs.OrderPorts.{those-none}
use Rattle.iox_machine.proofs.OrderSteps.{Alike, IsOfOne, Lacks, Moves, has_it, made-later, moves-alike, noted}
use Rattle.iox_machine.proofs.Parts.{Once}
use Rattle.iox_machine.specs.Factories.{with_open}
use Rattle.iox_machine.specs.Message.{Message}
use Rattle.iox_machine.specs.Phase.{Phase, Absent, BeingMade, Published, Emptied}
use Rattle.iox_machine.specs.PortList.{those}
use Rattle.iox_machine.specs.Service.{Service, new_service}
use Rattle.iox_machine.specs.State.{State, Made, counted}
use Rattle.iox_machine.specs.Table.{contains}
use Rattle.iox_command.specs.NegotiateBase.DescribeSettings.declared.static_config.Settings.{Settings}
use Rattle.iox_command.specs.NegotiateBase.DescribeSettings.declared.static_config.Settings.TheVariants as settings
use Rattle.iox_command.specs.NegotiateBase.DescribeSettings.declared.static_config.publish_subscribe.StaticConfig.{StaticConfig}
use Rattle.iox_command.specs.declared.reply.Reply.{Reply}

module _ {T : Type 0} where
  module _ (p s : ℕ) (G : List ℕ → StaticConfig → Message T → Type 0) (sent received : List (Message T)) where
    abbrev pub Goes : State T → Reply T → Option (Message T) → Option (Message T) → Service T → Service T → Type 0
    Goes old answer sending receiving service after =
        Moves p s G old.made (counted answer old.made) sent received (noted sent sending) (noted received receiving)
        (find (has_it p s G) old.services ≡ Some service) service after

    abbrev pub Quiet : State T → Reply T → Service T → Service T → Type 0
    Quiet old answer service after = Goes old answer None None service after

    pub alike-goes : (old : State T) (answer : Reply T) (service after : Service T) → Alike p s service after
        → Quiet old answer service after
    alike-goes old answer service after a =
        moves-alike p s G old.made (counted answer old.made) sent received (find (has_it p s G) old.services ≡ Some service) service after
        (made-later answer old.made) a

    -- ---- services that come and go

    lacks-new : (born : ℕ) (name : List ℕ) (c : StaticConfig) → Lacks p s born (new_service {T = T} name c)
    lacks-new born name c =
        let none : those (new_service {T = T} name c).subscriber_list.places ≡ [] = those-none c.max_subscribers in (
          refl,
          refl,
          subst (λ (l : List ℕ). Once s l) (sym none) tt,
          (λ early. ap (λ (l : List ℕ). contains l s) none),
        )

    one-more : (made : Made) (services : List (Service T)) (name : List ℕ) (c : StaticConfig) → IsOfOne p s G made sent received services
        → IsOfOne p s G made sent received (services ++ new_service name c ∷ [])
    one-more made [] name c one = inl (lacks-new made.subscribers name c, tt)
    one-more made (service ∷ more) name c (inl (lacks, one)) = inl (lacks, one-more made more name c one)
    one-more made (service ∷ more) name c (inr (fits, all)) = inr (
      fits,
      all-joined (Lacks p s made.subscribers) more (new_service name c ∷ []) all (lacks-new made.subscribers name c, tt),
    )

    pub one-open : (made : Made) (name : List ℕ) (phase : Phase) (services : List (Service T)) → IsOfOne p s G made sent received services
        → IsOfOne p s G made sent received (with_open name phase services)
    one-open made name (Absent lives) services one = one
    one-open made name (BeingMade life by) services one = one
    one-open made name (Published life agreed nodes) services one = opened agreed.settings
      where
        maybe : (b : Bool) (c : StaticConfig)
            → IsOfOne p s G made sent received (cond b services (services ++ new_service name c ∷ []))
        maybe true c = one
        maybe false c = one-more made services name c one

        opened : (it : Settings) → IsOfOne p s G made sent received (elim it [
          | settings.PublishSubscribe c ↦ cond (list_any (λ (service : Service T). bytes_eq service.name name) services) services
              (services ++ new_service name c ∷ [])
          | settings.Event c ↦ services
          | settings.RequestResponse c ↦ services
        ])
        opened (settings.PublishSubscribe c) = maybe (list_any (λ (service : Service T). bytes_eq service.name name) services) c
        opened (settings.Event c) = one
        opened (settings.RequestResponse c) = one
    one-open made name (Emptied life agreed by) services one = one

    none-of : (made : Made) (services : List (Service T)) → AllByRecursion (Lacks p s made.subscribers) services
        → IsOfOne p s G made sent received services
    none-of made [] all = tt
    none-of made (it ∷ rest) all = inl (all.0, none-of made rest all.1)

    pub one-filtered : (made : Made) (test : Service T → Bool) (services : List (Service T)) → IsOfOne p s G made sent received services
        → IsOfOne p s G made sent received (filter test services)
    one-filtered made test [] one = tt
    one-filtered made test (service ∷ more) (inl (lacks, one)) = step (one-filtered made test more one) (test service)
      where
        step : IsOfOne p s G made sent received (filter test more) → (b : Bool)
            → IsOfOne p s G made sent received (cond b (service ∷ filter test more) (filter test more))
        step on true = inl (lacks, on)
        step on false = on
    one-filtered made test (service ∷ more) (inr (fits, all)) = step (test service)
      where
        step : (b : Bool) → IsOfOne p s G made sent received (cond b (service ∷ filter test more) (filter test more))
        step true = inr (fits, all-filtered (Lacks p s made.subscribers) test more all)
        step false = none-of made (filter test more) (all-filtered (Lacks p s made.subscribers) test more all)
