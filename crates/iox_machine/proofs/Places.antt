-- A port list has as many places as the settings of its service name ports.
use Rattle.std.proofs.Common.{◌≡◌, ◌≤◌, ℕ, List, [], ◌∷◌, length, None, Some, Option, refl, sym, ap, subst, inl, inr, arith, ◌∙◌}
use Rattle.std.proofs.lemmas.List.{length-replicate}
use Rattle.std.specs.List.{AllByRecursion}
use Rattle.iox_machine.proofs.Shorthands.{factory_of}
use Rattle.iox_machine.specs.Choices.{Choices}
use Rattle.iox_machine.specs.PortList.{those}
use Rattle.iox_machine.specs.Run.{Runs, Step}
use Rattle.iox_machine.specs.Service.{Service, new_service}
use Rattle.iox_machine.specs.State.{Made, State}
use Rattle.iox_machine.proofs.Kept.{Kept}
use Rattle.iox_machine.proofs.Moving.{closed, closed-keeps, creates, negotiated-keeps, opens, opens-or-creates, replaced-keeps}
use Rattle.iox_machine.proofs.Ported.{IsBeside, ports-move}
use Rattle.iox_command.specs.NegotiateBase.DescribeBase.declared.message_type.MessageTypeDetails.{MessageTypeDetails}
use Rattle.iox_command.specs.NegotiateBase.DescribeSettings.declared.static_config.publish_subscribe.StaticConfig.{StaticConfig}
use Rattle.iox_command.specs.declared.command.Command.{Command}
use Rattle.iox_command.specs.declared.command.Command.TheVariants as command
use Rattle.iox_command.specs.declared.reply.Reply.{Reply}

those-fewer : (places : List (Option ℕ)) → length (those places) ≤ length places
those-fewer [] = omega arith
those-fewer (None ∷ more) = omega (arith, those-fewer more)
those-fewer (Some port ∷ more) = omega (arith, those-fewer more)

pub listed-few : (places : List (Option ℕ)) (most : ℕ) → length places ≡ most → length (those places) ≤ most
listed-few places most is = subst (λ (n : ℕ). length (those places) ≤ n) is (those-fewer places)

-- Each port list has as many places as the settings name ports.
abbrev pub Placed : {T : Type 0} → Service T → Type 0
Placed service =
    (length service.publisher_list.places ≡ service.settings.max_publishers)
    × (length service.subscriber_list.places ≡ service.settings.max_subscribers)

new-placed : (T : Type 0) (name : List ℕ) (c : StaticConfig) → Placed (new_service {T = T} name c)
new-placed T name c = (length-replicate c.max_publishers None, length-replicate c.max_subscribers None)

module _ {T : Type 0} where
  kept-placed : (made : Made) (service after : Service T) (answer : Reply T) → Kept made service answer after → Placed service
      → Placed after
  kept-placed made service after answer kept placed = (
    kept.publisher_places ∙ (placed.0 ∙ sym (ap (λ (c : StaticConfig). c.max_publishers) kept.settings)),
    kept.subscriber_places ∙ (placed.1 ∙ sym (ap (λ (c : StaticConfig). c.max_subscribers) kept.settings)),
  )

  ports-placed : (asked : Command T) (old : State T) (answer : Reply T) (new : State T) → IsBeside asked old answer new
      → AllByRecursion Placed old.services → AllByRecursion Placed new.services
  ports-placed asked old answer new (inl skipped) all = subst (λ (it : State T). AllByRecursion Placed it.services) (sym skipped.1) all
  ports-placed asked old answer new (inr (has, service, after, first, kept, off, came)) all =
      subst (λ (it : State T). AllByRecursion Placed it.services) (sym came)
      (replaced-keeps Placed Placed has service after old.services (λ it placed. placed)
      (λ placed. kept-placed old.made service after answer kept placed) first all)

  module _ (types : MessageTypeDetails) (choices : Choices T) (buffer : ℕ) where
    step-placed : (asked : Command T) (old : State T) (answer : Reply T) (new : State T) → Step types choices buffer asked old answer new
        → AllByRecursion Placed old.services → AllByRecursion Placed new.services
    step-placed command.Node old answer new (inl (told, came)) all =
        subst (λ (it : State T). AllByRecursion Placed it.services) (sym came) all
    step-placed command.Node old answer new (inr refused) all =
        subst (λ (it : State T). AllByRecursion Placed it.services) (sym refused.1) all
    step-placed (command.Create node name options attributes steps) old answer new h all =
        (negotiated-keeps Placed (factory_of node name options) (new-placed T name) old answer new
        (creates types steps (factory_of node name options) old answer new options attributes h) all).0
    step-placed (command.Open node name options required steps) old answer new h all =
        (negotiated-keeps Placed (factory_of node name options) (new-placed T name) old answer new
        (opens types steps (factory_of node name options) old answer new options required h) all).0
    step-placed (command.OpenOrCreate node name options required steps) old answer new h all =
        (negotiated-keeps Placed (factory_of node name options) (new-placed T name) old answer new
        (opens-or-creates types steps (factory_of node name options) old answer new options required h) all).0
    step-placed (command.Foreign pattern name steps) old answer new (inl (told, came)) all =
        subst (λ (it : State T). AllByRecursion Placed it.services) (sym came) all
    step-placed (command.Foreign pattern name steps) old answer new (inr (done, few, refused)) all =
        subst (λ (it : State T). AllByRecursion Placed it.services) (sym refused.1) all
    step-placed (command.Close factory) old answer new h all =
        (closed-keeps Placed factory old answer new (closed factory old answer new h) all).0
    step-placed asked old answer new h all =
        ports-placed asked old answer new (ports-move types choices buffer asked old answer new refl h) all

    pub runs-placed : (asked : List (Command T)) (old : State T) (answers : List (Reply T)) (new : State T)
        → Runs types choices buffer asked old answers new → AllByRecursion Placed old.services → AllByRecursion Placed new.services
    runs-placed [] old answers new run all = subst (λ (it : State T). AllByRecursion Placed it.services) (sym run.1) all
    runs-placed (one ∷ more) old answers new run all =
        runs-placed more run.1 run.2 new run.4 (step-placed one old run.0 run.1 run.3 all)
