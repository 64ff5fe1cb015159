-- In each run what is in use of a service is within the sizes that its settings name, and each publisher is sized as it was named.
use Rattle.std.proofs.Common.{◌⊎◌, ◌≤◌, ℕ, List, [], ◌∷◌, length, sym, subst, inl, inr}
use Rattle.std.specs.List.{AllByRecursion}
use Rattle.iox_machine.specs.Choices.{Choices}
use Rattle.iox_machine.specs.DefaultLaws.{IsNamedAs, PublishersAreAsNamed}
use Rattle.iox_machine.specs.Run.{Runs}
use Rattle.iox_machine.specs.RunLaws.{CameAs, ComesAs, IsSizedAs, IsWithinSizes, SizesAreAgreed}
use Rattle.iox_machine.specs.Service.{Publisher, Service}
use Rattle.iox_machine.specs.State.{State, new_state}
use Rattle.iox_machine.proofs.Lists.{all-both, all-weaker}
use Rattle.iox_machine.proofs.Places.{Placed, listed-few, runs-placed}
use Rattle.iox_machine.proofs.Runs.{AnyMessage, AnySample}
use Rattle.iox_machine.proofs.Sound.{BoxFits, PublisherFits, Sound}
use Rattle.iox_machine.proofs.Steps.{step-sound}
use Rattle.iox_command.specs.NegotiateBase.DescribeBase.declared.message_type.MessageTypeDetails.{MessageTypeDetails}
use Rattle.iox_command.specs.declared.command.Command.{Command}
use Rattle.iox_command.specs.declared.port.PublisherOptions.{PublisherOptions}
use Rattle.iox_command.specs.declared.reply.Reply.{Reply}

module _ {T : Type 0} where
  -- All services are sound, and so it was named for each publisher.
  abbrev AreNamed : (ℕ → PublisherOptions → Type 0) → State T → Type 0
  AreNamed Named state = AllByRecursion (Sound AnyMessage AnySample Named) state.services

  weaker-named : (Named Known : ℕ → PublisherOptions → Type 0)
      → ((number : ℕ) (options : PublisherOptions) → Named number options → Known number options) → (service : Service T)
      → Sound AnyMessage AnySample Named service → Sound AnyMessage AnySample Known service
  weaker-named Named Known on service sound = (
    sound.0,
    all-weaker (λ (entry : ℕ × Publisher T). PublisherFits AnyMessage AnySample Named service.settings entry.0 entry.1)
        (λ (entry : ℕ × Publisher T). PublisherFits AnyMessage AnySample Known service.settings entry.0 entry.1)
        (λ entry fits. (fits.0, fits.1, fits.2, (fits.3.0, on entry.0 fits.3.0 fits.3.1, fits.3.2))) service.publishers sound.1,
    sound.2,
    sound.3,
  )

  all-weaker-named : (Named Known : ℕ → PublisherOptions → Type 0)
      → ((number : ℕ) (options : PublisherOptions) → Named number options → Known number options) → (state : State T)
      → AreNamed Named state → AreNamed Known state
  all-weaker-named Named Known on state all =
      all-weaker (Sound AnyMessage AnySample Named) (Sound AnyMessage AnySample Known) (weaker-named Named Known on) state.services all

  module _ (types : MessageTypeDetails) (choices : Choices T) (buffer : ℕ) where
    runs-named : (Named : ℕ → PublisherOptions → Type 0) (asked : List (Command T)) (old : State T) (answers : List (Reply T))
        (new : State T) (run : Runs types choices buffer asked old answers new) → AreNamed Named old
        → AreNamed (λ number options. Named number options ⊎ CameAs types choices buffer number options asked old answers new run) new
    runs-named Named [] old answers new run all =
        subst (AreNamed (λ number options. Named number options ⊎ ⊥)) (sym run.1)
        (all-weaker-named Named (λ number options. Named number options ⊎ ⊥) (λ number options named. inl named) old all)
    runs-named Named (one ∷ more) old answers new run all =
        let Next : ℕ → PublisherOptions → Type 0 = λ number options. Named number options ⊎ ComesAs number options one run.0 in
        let mid : AreNamed Next run.1 =
        (step-sound AnyMessage AnySample Next types choices buffer one old run.0 run.1 (λ publisher message begins. tt)
        (λ sample values told same. tt) (λ number options came. inr came) run.3
        (all-weaker-named Named Next (λ number options named. inl named) old all)).0 in
        all-weaker-named
        (λ number options. Next number options ⊎ CameAs types choices buffer number options more run.1 run.2 new run.4)
        (λ number options. Named number options ⊎ CameAs types choices buffer number options (one ∷ more) old answers new run)
        (λ number options it. elim it [
          | inl next ↦ elim next [ inl named ↦ inl named | inr came ↦ inr (inl came) ]
          | inr came ↦ inr (inr came)
        ])
        new (runs-named Next more run.1 run.2 new run.4 mid)

pub sizes-agreed : {T : Type 0} (choices : Choices T) → SizesAreAgreed choices
sizes-agreed {T} choices types buffer asked answers new run =
    let Named : ℕ → PublisherOptions → Type 0 =
    λ number options. CameAs types choices buffer number options asked new_state answers new run in
    all-both (Sound AnyMessage AnySample Named) Placed (IsWithinSizes Named)
    (λ (service : Service T) (sound : Sound AnyMessage AnySample Named service) (placed : Placed service). (
      (λ publisher subscriber box e.
          let fits : BoxFits AnyMessage AnySample Named publisher service.settings box = sound.0 publisher subscriber box e in
          (fits.0, fits.2, fits.1)),
      all-weaker (λ (entry : ℕ × Publisher T). PublisherFits AnyMessage AnySample Named service.settings entry.0 entry.1)
          (λ (entry : ℕ × Publisher T). length entry.1.history ≤ service.settings.history_size)
          (λ entry fits. fits.0) service.publishers sound.1,
      sound.2,
      listed-few service.publisher_list.places service.settings.max_publishers placed.0,
      listed-few service.subscriber_list.places service.settings.max_subscribers placed.1,
      placed.0,
      placed.1,
      all-weaker (λ (entry : ℕ × Publisher T). PublisherFits AnyMessage AnySample Named service.settings entry.0 entry.1)
          (λ (entry : ℕ × Publisher T). (options : PublisherOptions) × Named entry.0 options
          × IsSizedAs options service.settings entry.1)
          (λ entry fits. (fits.3.0, fits.3.1, fits.3.2.0)) service.publishers sound.1,
    ))
    new.services
    (all-weaker-named (λ number options. ⊥ ⊎ Named number options) Named
    (λ number options it. elim it [ inl never ↦ absurd never | inr came ↦ came ]) new
    (runs-named types choices buffer (λ number options. ⊥) asked new_state answers new run tt))
    (runs-placed types choices buffer asked new_state answers new run tt)

pub publishers-as-named : {T : Type 0} (choices : Choices T) → PublishersAreAsNamed choices
publishers-as-named {T} choices types buffer asked answers new run =
    let Named : ℕ → PublisherOptions → Type 0 =
    λ number options. CameAs types choices buffer number options asked new_state answers new run in
    all-weaker (Sound AnyMessage AnySample Named)
    (λ (service : Service T). AllByRecursion (λ (entry : ℕ × Publisher T). (options : PublisherOptions)
    × Named entry.0 options × IsNamedAs options entry.1) service.publishers)
    (λ service sound. all-weaker
    (λ (entry : ℕ × Publisher T). PublisherFits AnyMessage AnySample Named service.settings entry.0 entry.1)
    (λ (entry : ℕ × Publisher T). (options : PublisherOptions) × Named entry.0 options × IsNamedAs options entry.1)
    (λ entry fits. (fits.3.0, fits.3.1, fits.3.2.1)) service.publishers sound.1)
    new.services
    (all-weaker-named (λ number options. ⊥ ⊎ Named number options) Named
    (λ number options it. elim it [ inl never ↦ absurd never | inr came ↦ came ]) new
    (runs-named types choices buffer (λ number options. ⊥) asked new_state answers new run tt))
