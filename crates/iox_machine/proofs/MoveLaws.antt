-- What holds of each move holds of all that steps do.
use Rattle.std.proofs.Common.{None, ap, ◌∙◌, ◌≡◌, ◌+◌, ℕ, Bool, true, false, cond, not, ◌&&◌, List, [], ◌∷◌, ◌++◌, Option, Some, refl, sym}
use Rattle.std.proofs.Common.{subst, inl, inr}
use Rattle.std.proofs.lemmas.Bool.{or_parts}
use Rattle.std.specs.List.{AllByRecursion, list_any}
use Rattle.std.specs.Prelude.{filter, find, bytes_eq}
use Rattle.iox_machine.proofs.Lists.{all-filtered, all-weaker}
use Rattle.iox_machine.proofs.MoveForms.{with_send, Done, has_port, is_port, IsTurned, Loud, Loudly, Quiet, Quietly, Quiets, Walk}
use Rattle.iox_machine.proofs.MoveForms as move
use Rattle.iox_machine.proofs.MoveSteps.{step-moves}
use Rattle.iox_machine.proofs.Moves.{Becomes, Moves}
use Rattle.iox_machine.proofs.Moving.{Keeps, open-keeps, replaced-keeps}
use Rattle.iox_machine.proofs.Shorthands.{with_publisher, with_subscriber}
use Rattle.iox_machine.specs.Choices.{Choices}
use Rattle.iox_machine.specs.Closing.{is_used_by}
use Rattle.iox_machine.specs.Mailbox.{Mailbox}
use Rattle.iox_machine.specs.Phase.{same_pattern}
use Rattle.iox_machine.specs.Run.{Runs}
use Rattle.iox_machine.specs.Service.{Send, Publisher, Service, Subscriber, new_service}
use Rattle.iox_machine.specs.State.{Factory, State, is_service_of}
use Rattle.iox_machine.specs.Table.{at, removed}
use Rattle.iox_command.specs.NegotiateBase.DescribeBase.declared.message_type.MessageTypeDetails.{MessageTypeDetails}
use Rattle.iox_command.specs.NegotiateBase.DescribeSettings.declared.static_config.publish_subscribe.StaticConfig.{StaticConfig}
use Rattle.iox_command.specs.declared.command.Command.{Command}
use Rattle.iox_command.specs.declared.reply.Reply.{Reply}

module _ {T : Type 0} where
  -- ---- what holds of each move

  -- A relation between services that holds of each quiet move holds of all of them.
  module _ (R : Service T → Service T → Type 0) (none : (service : Service T) → R service service)
      (both : (one two three : Service T) → R one two → R two three → R one three)
      (each : (one : Quiet T) (old new : Service T) → Quietly one old new → R old new) where
    done-by : (moves : List (Quiet T)) (old new : Service T) → Done moves old new → R old new
    done-by [] old new h = subst (λ (s : Service T). R old s) (sym h) (none old)
    done-by (one ∷ more) old new h = both old h.0 new (each one old h.0 h.1) (done-by more h.0 new h.2)

    pub quiets-by : (old new : Service T) → Quiets old new → R old new
    quiets-by old new h = done-by h.0 old new h.1

    -- So of a walk where no port comes or leaves, if it holds of each loud move.
    pub strides-by : (factories : List (ℕ × Factory))
        → ((one : Loud T) (old new : Service T) → is_port one ≡ false → Loudly factories one old new → R old new)
        → (loud : List (Loud T)) (old new : Service T) → has_port loud ≡ false → Walk factories loud old new → R old new
    strides-by factories loudly [] old new beside h = quiets-by old new h
    strides-by factories loudly (one ∷ more) old new beside h =
        let parts : (is_port one ≡ false) × (has_port more ≡ false) = or_parts (is_port one) (has_port more) beside in
        both old h.0 new (quiets-by old h.0 h.2)
        (both h.0 h.1 new (loudly one h.0 h.1 parts.0 h.3) (strides-by factories loudly more h.1 new parts.1 h.4))

  -- ---- quiet moves, for who looks at no mailbox

  -- a publisher but for what it follows and sends
  abbrev pub IsAlike : Publisher T → Publisher T → Type 0
  IsAlike was after = after ≡ record was { seen = after.seen; connected = after.connected; blocked = after.blocked }

  -- A relation between services that holds of each quiet move: mailboxes are others, or a port follows, or sends.
  pub record Lasts (R : Service T → Service T → Type 0) : Type 0 where
    pub none : (service : Service T) → R service service
    pub both : (one two three : Service T) → R one two → R two three → R one three
    pub boxed : (boxes : ℕ → ℕ → Option (Mailbox T)) (service : Service T) → R service (record service { mailboxes = boxes })
    pub alike : (number : ℕ) (was after : Publisher T) (service : Service T) → at number service.publishers ≡ Some was
        → IsAlike was after → R service (with_publisher number after service)
    pub turned : (number : ℕ) (was after : Subscriber) (service : Service T) → at number service.subscribers ≡ Some was
        → IsTurned was after → R service (with_subscriber number after service)

  module _ (R : Service T → Service T → Type 0) (lasts : Lasts R) where
    sends_so : (number : ℕ) (one : Publisher T) (blocked : Option (Send T)) (old : Service T) → at number old.publishers ≡ Some one
        → R old (with_send number one blocked old)
    sends_so number one blocked old found = lasts.alike number one (record one { blocked = blocked }) old found refl

    by-quiet : (one : Quiet T) (old new : Service T) → Quietly one old new → R old new
    by-quiet (move.Retries number one send elapsed) old new (on, came) =
        subst (λ (s : Service T). R old s) (sym came) (sends_so number one _ old on.0)
    by-quiet (move.Puts number one send subscriber more box) old new (on, left, took, came) =
        subst (λ (s : Service T). R old s) (sym came)
        (lasts.both old (with_send number one _ old) _ (sends_so number one _ old on.0) (lasts.boxed _ (with_send number one _ old)))
    by-quiet (move.Passes number one send subscriber more fails) old new (on, left, full, came) =
        subst (λ (s : Service T). R old s) (sym came) (sends_so number one _ old on.0)
    by-quiet (move.Concludes number one) old new (found, came) =
        subst (λ (s : Service T). R old s) (sym came) (sends_so number one None old found)
    by-quiet (move.Follows number was after) old new ((found, free), follows, is, came) =
        subst (λ (s : Service T). R old s) (sym came)
        (lasts.both old (with_publisher number after old) _
        (lasts.alike number was after old found (is ∙ ap (λ (o : Option (Send T)). record was {
          seen = after.seen;
          connected = after.connected;
          blocked = o;
        }) (sym (ap (λ (it : Publisher T). it.blocked) is)))) (lasts.boxed new.mailboxes (with_publisher number after old)))
    by-quiet (move.Attends buffer number was after) old new (found, follows, is, came) =
        subst (λ (s : Service T). R old s) (sym came)
        (lasts.both old (with_subscriber number after old) _ (lasts.turned number was after old found is)
        (lasts.boxed new.mailboxes (with_subscriber number after old)))
    by-quiet (move.Sweeps number was expired) old new (found, came) =
        subst (λ (s : Service T). R old s) (sym came) (lasts.turned number was (record was { expired = expired }) old found refl)

    pub by-quiets : (old new : Service T) → Quiets old new → R old new
    by-quiets old new h = quiets-by R lasts.none lasts.both by-quiet old new h

  -- ---- what holds of each service

  -- With some factories something holds of a service: of each new one, where a factory more is open or an unused one is closed, and with
  -- each move.
  pub record Holds (P : List (ℕ × Factory) → Service T → Type 0) : Type 0 where
    pub fresh : (factories : List (ℕ × Factory)) (name : List ℕ) (c : StaticConfig) → P factories (new_service name c)
    pub opened : (factories more : List (ℕ × Factory)) (service : Service T) → P factories service → P (factories ++ more) service
    pub shut : (number : ℕ) (factory : Factory) (factories : List (ℕ × Factory)) → at number factories ≡ Some factory
        → (service : Service T) → (is_service_of factory service && is_used_by number service) ≡ false → P factories service
        → P (removed number factories) service
    pub quiet : (factories : List (ℕ × Factory)) (old new : Service T) → Quiets old new → P factories old → P factories new
    pub loud : (factories : List (ℕ × Factory)) (one : Loud T) (old new : Service T) → Loudly factories one old new → P factories old
        → P factories new

  module _ (P : List (ℕ × Factory) → Service T → Type 0) (holds : Holds P) where
    pub walk-holds : (factories : List (ℕ × Factory)) (loud : List (Loud T)) (old new : Service T) → Walk factories loud old new
        → P factories old → P factories new
    walk-holds factories [] old new h p = holds.quiet factories old new h p
    walk-holds factories (one ∷ more) old new h p =
        walk-holds factories more h.1 new h.4
        (holds.loud factories one h.0 h.1 h.3 (holds.quiet factories old h.0 h.2 p))

    pub shut-holds : (number : ℕ) (factory : Factory) (factories : List (ℕ × Factory)) → at number factories ≡ Some factory
        → (services : List (Service T))
        → list_any (λ (service : Service T). is_service_of factory service && is_used_by number service) services ≡ false
        → AllByRecursion (P factories) services → AllByRecursion (P (removed number factories)) services
    shut-holds number factory factories found [] unused all = tt
    shut-holds number factory factories found (service ∷ more) unused all =
        let both : ((is_service_of factory service && is_used_by number service) ≡ false)
        × (list_any (λ (it : Service T). is_service_of factory it && is_used_by number it) more ≡ false) =
        or_parts (is_service_of factory service && is_used_by number service)
        (list_any (λ (it : Service T). is_service_of factory it && is_used_by number it) more) unused in
        (holds.shut number factory factories found service both.0 all.0, shut-holds number factory factories found more both.1 all.1)

    pub step-holds : (asked : Command T) (old : State T) (answer : Reply T) (new : State T) → Moves asked old answer new
        → AllByRecursion (P old.factories) old.services → AllByRecursion (P new.factories) new.services
    step-holds asked old answer new (made, inl (told, inl (services, factories))) all =
        subst (λ (l : List (ℕ × Factory)). AllByRecursion (P l) new.services) (sym factories)
        (subst (λ (l : List (Service T)). AllByRecursion (P old.factories) l) (sym services) all)
    step-holds asked old answer new (made, inl (told, inr (inl (factory, phase, factories, services)))) all =
        let more : List (ℕ × Factory) = old.factories ++ (old.made.factories + 1, factory) ∷ [] in
        subst (λ (l : List (ℕ × Factory)). AllByRecursion (P l) new.services) (sym factories)
        (subst (λ (l : List (Service T)). AllByRecursion (P more) l) (sym services)
        (open-keeps (P more) factory.name (holds.fresh more factory.name) phase old.services
        (all-weaker (P old.factories) (P more) (holds.opened old.factories ((old.made.factories + 1, factory) ∷ [])) old.services all)))
    step-holds asked old answer new (made, inl (told, inr (inr (number, factory, found, unused, factories, services)))) all =
        let kept : AllByRecursion (P (removed number old.factories)) old.services =
        shut-holds number factory old.factories found old.services unused all in
        subst (λ (l : List (ℕ × Factory)). AllByRecursion (P l) new.services) (sym factories)
        (subst (λ (l : List (Service T)). AllByRecursion (P (removed number old.factories)) l) (sym services)
        (fewer (removed number old.factories) (list_any (λ (entry : ℕ × Factory). same_pattern entry.1.pattern factory.pattern
        && bytes_eq entry.1.name factory.name) (removed number old.factories))
        (λ (service : Service T). not (is_service_of factory service)) old.services kept))
      where
        fewer : (factories : List (ℕ × Factory)) (b : Bool) (test : Service T → Bool) (services : List (Service T))
            → AllByRecursion (P factories) services → AllByRecursion (P factories) (cond b services (filter test services))
        fewer factories true test services all = all
        fewer factories false test services all = all-filtered (P factories) test services all
    step-holds asked old answer new (made, inr (has, service, after, first, (loud, told, walk), came)) all =
        subst (λ (s : State T). AllByRecursion (P s.factories) s.services) (sym came)
        (replaced-keeps (P old.factories) (P old.factories) has service after old.services (λ it p. p)
        (walk-holds old.factories loud service after walk) first all)

    pub run-holds : (types : MessageTypeDetails) (choices : Choices T) (buffer : ℕ) (asked : List (Command T)) (old : State T)
        (answers : List (Reply T)) (new : State T) → Runs types choices buffer asked old answers new
        → AllByRecursion (P old.factories) old.services → AllByRecursion (P new.factories) new.services
    run-holds types choices buffer [] old answers new run all =
        subst (λ (s : State T). AllByRecursion (P s.factories) s.services) (sym run.1) all
    run-holds types choices buffer (one ∷ more) old answers new run all =
        run-holds types choices buffer more run.1 run.2 new run.4
        (step-holds one old run.0 run.1 (step-moves types choices buffer one old run.0 run.1 run.3) all)

  -- So of what holds of each new service, and of each at which a step does something.
  pub becomes-keeps : (Does : Service T → Service T → Type 0) (Q : Service T → Type 0)
      → ((name : List ℕ) (c : StaticConfig) → Q (new_service name c))
      → (asked : Command T) (old : State T) (answer : Reply T) (new : State T)
      → ((has : Service T → Bool) (service after : Service T) → find has old.services ≡ Some service → Does service after → Q service
      → Q after)
      → Becomes Does asked old answer new → AllByRecursion Q old.services → Keeps Q old answer new
  becomes-keeps Does Q fresh asked old answer new does (made, inl (told, inl (services, factories))) all =
      (subst (λ (l : List (Service T)). AllByRecursion Q l) (sym services) all, made)
  becomes-keeps Does Q fresh asked old answer new does (made, inl (told, inr (inl (factory, phase, factories, services)))) all = (
    subst (λ (l : List (Service T)). AllByRecursion Q l) (sym services)
        (open-keeps Q factory.name (fresh factory.name) phase old.services all),
    made,
  )
  becomes-keeps Does Q fresh asked old answer new does
      (made, inl (told, inr (inr (number, factory, found, unused, factories, services)))) all =
      (subst (λ (l : List (Service T)). AllByRecursion Q l) (sym services) (fewer _ _ all), made)
    where
      fewer : (b : Bool) (test : Service T → Bool) → AllByRecursion Q old.services
          → AllByRecursion Q (cond b old.services (filter test old.services))
      fewer true test all = all
      fewer false test all = all-filtered Q test old.services all
  becomes-keeps Does Q fresh asked old answer new does (made, inr (has, service, after, first, did, came)) all = (
    subst (λ (s : State T). AllByRecursion Q s.services) (sym came)
        (replaced-keeps Q Q has service after old.services (λ it q. q) (does has service after first did) first all),
    made,
  )
