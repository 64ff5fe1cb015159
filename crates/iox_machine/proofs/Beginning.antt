-- A service that stands after a command, and none of its name before, has nothing.
use Rattle.std.proofs.Common.{◌≡◌, ◌⊎◌, ℕ, Bool, true, false, ◌||◌, List, [], ◌∷◌, refl, sym, subst, inl, inr}
use Rattle.std.specs.List.{AllByRecursion, list_any}
use Rattle.iox_machine.proofs.Shorthands.{factory_of}
use Rattle.iox_machine.specs.Choices.{Choices}
use Rattle.iox_machine.specs.AgreementLaws.{ServicesStartEmpty}
use Rattle.iox_machine.specs.Run.{Step}
use Rattle.iox_machine.specs.Service.{Service, new_service}
use Rattle.iox_machine.specs.State.{State, Factory}
use Rattle.std.specs.Prelude.{bytes_eq}
use Rattle.iox_machine.proofs.Lists.{all-weaker}
use Rattle.iox_machine.proofs.Moving.{IsNegotiated, creates, opens, opens-or-creates, negotiated-keeps, closed, closed-keeps}
use Rattle.iox_machine.proofs.Moving.{replaced-keeps}
use Rattle.iox_machine.proofs.Names.{name-itself}
use Rattle.iox_machine.proofs.Ported.{IsBeside, ports-move}
use Rattle.iox_command.specs.NegotiateBase.DescribeBase.declared.message_type.MessageTypeDetails.{MessageTypeDetails}
use Rattle.iox_command.specs.declared.command.Command.{Command}
use Rattle.iox_command.specs.declared.command.Command.TheVariants as command
use Rattle.iox_command.specs.declared.reply.Reply.{Reply}

pub or-first : (b c : Bool) → b ≡ true → (b || c) ≡ true
or-first true c e = refl
or-first false c e = subst (λ (it : Bool). (it || c) ≡ true) (sym e) refl

pub or-second : (b c : Bool) → c ≡ true → (b || c) ≡ true
or-second true c e = refl
or-second false c e = e

module _ {T : Type 0} where
  -- a service of this name is one of these
  abbrev pub Named : List (Service T) → Service T → Type 0
  Named services service = list_any (λ (other : Service T). bytes_eq other.name service.name) services ≡ true

  pub each-named : (services : List (Service T)) → AllByRecursion (Named services) services
  each-named [] = tt
  each-named (one ∷ more) = (
    or-first (bytes_eq one.name one.name) (list_any (λ (other : Service T). bytes_eq other.name one.name) more) (name-itself one.name),
    all-weaker (Named more) (Named (one ∷ more))
        (λ service named. or-second (bytes_eq one.name service.name)
        (list_any (λ (other : Service T). bytes_eq other.name service.name) more) named) more (each-named more),
  )

  -- A service is of a name that was there, or it has nothing.
  abbrev Starts : List (Service T) → Service T → Type 0
  Starts services service = Named services service ⊎ (service ≡ new_service service.name service.settings)

  module _ (types : MessageTypeDetails) (choices : Choices T) (buffer : ℕ) where
    beside : (asked : Command T) (old : State T) (answer : Reply T) (new : State T) → IsBeside asked old answer new
        → AllByRecursion (Starts old.services) new.services
    beside asked old answer new (inl skipped) =
        subst (λ (state : State T). AllByRecursion (Starts old.services) state.services) (sym skipped.1)
        (all-weaker (Named old.services) (Starts old.services) (λ service named. inl named) old.services (each-named old.services))
    beside asked old answer new (inr (has, service, after, first, kept, off, came)) =
        subst (λ (state : State T). AllByRecursion (Starts old.services) state.services) (sym came)
        (replaced-keeps (Named old.services) (Starts old.services) has service after old.services (λ it named. inl named)
        (λ named. inl (subst (λ (name : List ℕ). list_any (λ (other : Service T). bytes_eq other.name name) old.services ≡ true)
        (sym kept.name) named)) first (each-named old.services))

    negotiating : (factory : Factory) (old : State T) (answer : Reply T) (new : State T) → IsNegotiated factory old answer new
        → AllByRecursion (Starts old.services) new.services
    negotiating factory old answer new h =
        (negotiated-keeps (Starts old.services) factory (λ c. inr refl) old answer new h
        (all-weaker (Named old.services) (Starts old.services) (λ service named. inl named) old.services (each-named old.services))).0

    starts : (asked : Command T) (old : State T) (answer : Reply T) (new : State T) → Step types choices buffer asked old answer new
        → AllByRecursion (Starts old.services) new.services
    starts command.Node old answer new (inl (told, came)) =
        subst (λ (state : State T). AllByRecursion (Starts old.services) state.services) (sym came)
        (all-weaker (Named old.services) (Starts old.services) (λ service named. inl named) old.services (each-named old.services))
    starts command.Node old answer new (inr refused) =
        subst (λ (state : State T). AllByRecursion (Starts old.services) state.services) (sym refused.1)
        (all-weaker (Named old.services) (Starts old.services) (λ service named. inl named) old.services (each-named old.services))
    starts (command.Create node name options attributes steps) old answer new h =
        negotiating (factory_of node name options) old answer new
        (creates types steps (factory_of node name options) old answer new options attributes h)
    starts (command.Open node name options required steps) old answer new h =
        negotiating (factory_of node name options) old answer new
        (opens types steps (factory_of node name options) old answer new options required h)
    starts (command.OpenOrCreate node name options required steps) old answer new h =
        negotiating (factory_of node name options) old answer new
        (opens-or-creates types steps (factory_of node name options) old answer new options required h)
    starts (command.Foreign pattern name steps) old answer new (inl (told, came)) =
        subst (λ (state : State T). AllByRecursion (Starts old.services) state.services) (sym came)
        (all-weaker (Named old.services) (Starts old.services) (λ service named. inl named) old.services (each-named old.services))
    starts (command.Foreign pattern name steps) old answer new (inr (done, few, refused)) =
        subst (λ (state : State T). AllByRecursion (Starts old.services) state.services) (sym refused.1)
        (all-weaker (Named old.services) (Starts old.services) (λ service named. inl named) old.services (each-named old.services))
    starts (command.Close factory) old answer new h =
        (closed-keeps (Starts old.services) factory old answer new (closed factory old answer new h)
        (all-weaker (Named old.services) (Starts old.services) (λ service named. inl named) old.services (each-named old.services))).0
    starts asked old answer new h = beside asked old answer new (ports-move types choices buffer asked old answer new refl h)

pub services-start-empty : {T : Type 0} (choices : Choices T) → ServicesStartEmpty choices
services-start-empty choices types buffer asked old answer new h = starts types choices buffer asked old answer new h
