-- In every run each subscriber is as it was named.
use Rattle.std.proofs.Common.{◌≡◌, ◌⊎◌, ℕ, true, false, List, [], ◌∷◌, ◌++◌, Option, None, Some, refl, sym}
use Rattle.std.proofs.Common.{ap, subst, inl, inr, ◌∙◌}
use Rattle.std.proofs.lemmas.Bool.{cases_Bool, eqb-false, eqb-true}
use Rattle.std.specs.List.{AllByRecursion}
use Rattle.std.specs.Prelude.{◌==◌, max, option_map, unwrap_or}
use Rattle.iox_machine.proofs.Cases.{never-some, same-some}
use Rattle.iox_machine.proofs.Frames.{soft-followed}
use Rattle.iox_machine.proofs.Lists.{all-weaker}
use Rattle.iox_machine.proofs.MoveForms.{Loud, Loudly, Walk}
use Rattle.iox_machine.proofs.MoveForms as move
use Rattle.iox_machine.proofs.MoveLaws.{becomes-keeps}
use Rattle.iox_machine.proofs.MoveSteps.{step-moves}
use Rattle.iox_machine.proofs.Moves.{IsTold, Walks}
use Rattle.iox_machine.proofs.Resting.{Rests, named_at, named_of, rests-loud, rests-quiets}
use Rattle.iox_machine.proofs.Shorthands.{registered}
use Rattle.iox_machine.proofs.Tables.{at-appended-other, at-changed-either, at-changed-other, at-either}
use Rattle.iox_machine.specs.Choices.{Choices}
use Rattle.iox_machine.specs.DefaultLaws.{ComesAsSubscriber, SubscriberCameAs, SubscribersAreAsNamed}
use Rattle.iox_machine.specs.Run.{Runs, Step}
use Rattle.iox_machine.specs.Service.{Service, Subscriber, new_service}
use Rattle.iox_machine.specs.State.{Factory, State, new_state}
use Rattle.iox_machine.specs.SubscriberUpdate as subscribing
use Rattle.iox_machine.specs.Table.{at, changed}
use Rattle.iox_command.specs.DomainValues.declared.degradation.DegradationAction.{DegradationAction}
use Rattle.iox_command.specs.DomainValues.declared.degradation.DegradationAction.TheVariants.{Warn}
use Rattle.iox_command.specs.NegotiateBase.DescribeBase.declared.message_type.MessageTypeDetails.{MessageTypeDetails}
use Rattle.iox_command.specs.NegotiateBase.DescribeSettings.declared.static_config.publish_subscribe.StaticConfig.{StaticConfig}
use Rattle.iox_command.specs.declared.command.Command.{Command}
use Rattle.iox_command.specs.declared.port.SubscriberOptions.{SubscriberOptions}
use Rattle.iox_command.specs.declared.reply.Reply.{Reply}

-- how a subscriber is to be by what was named for it
abbrev IsViewed : SubscriberOptions → StaticConfig → ℕ × DegradationAction → Type 0
IsViewed options settings view =
    (view.0 ≡ max 1 (unwrap_or options.buffer_size settings.subscriber_max_buffer_size))
    × (view.1 ≡ unwrap_or options.degradation_handler Warn)

was-there : (o : Option Subscriber) (view : ℕ × DegradationAction) → option_map named_of o ≡ Some view
    → (was : Subscriber) × (o ≡ Some was) × (named_of was ≡ view)
was-there None view is = never-some view is
was-there (Some was) view is = (was, refl, same-some (named_of was) view is)

-- each subscriber of the service is as one of the options says that are known to be named for it
abbrev Named : {T : Type 0} → (ℕ → SubscriberOptions → Type 0) → Service T → Type 0
Named Known service = (number : ℕ) (view : ℕ × DegradationAction) → named_at number service ≡ Some view
    → (options : SubscriberOptions) × Known number options × IsViewed options service.settings view

new-named : (T : Type 0) (Known : ℕ → SubscriberOptions → Type 0) (name : List ℕ) (c : StaticConfig)
    → Named {T = T} Known (new_service name c)
new-named T Known name c number view is = never-some view is

module _ {T : Type 0} where
  -- settings stay, and how each subscriber was named
  abbrev Names : Service T → Service T → Type 0
  Names old new = (new.settings ≡ old.settings) × ((number : ℕ) → named_at number new ≡ named_at number old)

  module _ (Known : ℕ → SubscriberOptions → Type 0) where
    named-names : (old new : Service T) → Names old new → Named Known old → Named Known new
    named-names old new on named number view is =
        let it : (options : SubscriberOptions) × Known number options × IsViewed options old.settings view =
        named number view (sym (on.1 number) ∙ is) in
        (it.0, it.1, subst (λ (c : StaticConfig). IsViewed it.0 c view) (sym on.0) it.2)

    named-rests : (old new : Service T) → Rests old new → Named Known old → Named Known new
    named-rests old new on named = named-names old new (on.2, on.3) named

    abbrev AllNamed : State T → Type 0
    AllNamed state = AllByRecursion (Named Known) state.services

  named-better : (Known Later : ℕ → SubscriberOptions → Type 0)
      → ((number : ℕ) (options : SubscriberOptions) → Known number options → Later number options) → (service : Service T)
      → Named Known service → Named Later service
  named-better Known Later on service named number view is =
      let it : (options : SubscriberOptions) × Known number options × IsViewed options service.settings view = named number view is in
      (it.0, on number it.0 it.1, it.2)

  all-better : (Known Later : ℕ → SubscriberOptions → Type 0)
      → ((number : ℕ) (options : SubscriberOptions) → Known number options → Later number options) → (state : State T)
      → AllNamed Known state → AllNamed Later state
  all-better Known Later on state all = all-weaker (Named Known) (Named Later) (named-better Known Later on) state.services all

  -- a subscriber comes
  named-comes : (Known : ℕ → SubscriberOptions → Type 0) (factories : List (ℕ × Factory)) (buffer place number : ℕ)
      (options : SubscriberOptions) (one after : Subscriber) (old new : Service T) → Known number options
      → Loudly factories (move.Subscribes buffer place number options one after) old new → Named Known old → Named Known new
  named-comes Known factories buffer place number options one after old new known
      (open_one, (made, small, free, mid, did, listed), turned, is) named = subst (Named Known) (sym listed) (came did)
    where
      more : Service T
      more = record old { subscribers = old.subscribers ++ (number, one) ∷ [] }

      came : subscribing.Follows buffer number one more after mid
          → Named Known (record mid { subscriber_list = registered place number mid.subscriber_list })
      came follows n view is =
          let settled = soft-followed buffer number one more after mid follows in
          let there : (was : Subscriber) × (at n mid.subscribers ≡ Some was) × (named_of was ≡ view) =
          was-there (at n mid.subscribers) view is in
          let at_it : at n (changed number after more.subscribers) ≡ Some there.0 = sym (ap (at n) settled.2) ∙ there.1 in
          here settled.0.1 there.0 there.2 at_it (cases_Bool (n == number))
        where
          old-one : mid.settings ≡ old.settings → (was : Subscriber) → named_of was ≡ view → at n old.subscribers ≡ Some was
              → (given : SubscriberOptions) × Known n given × IsViewed given mid.settings view
          old-one same was viewed found =
              let it : (given : SubscriberOptions) × Known n given × IsViewed given old.settings view =
              named n view (ap (option_map named_of) found ∙ ap (λ (v : ℕ × DegradationAction). Some v) viewed) in
              (it.0, it.1, subst (λ (c : StaticConfig). IsViewed it.0 c view) (sym same) it.2)

          new-one : mid.settings ≡ old.settings → (was : Subscriber) → named_of was ≡ view → named_of was ≡ named_of one → n ≡ number
              → (given : SubscriberOptions) × Known n given × IsViewed given mid.settings view
          new-one same was viewed alike is_it = (
            options,
            subst (λ (k : ℕ). Known k options) (sym is_it) known,
            subst (λ (c : StaticConfig). IsViewed options c view) (sym same)
                (subst (λ (v : ℕ × DegradationAction). IsViewed options old.settings v) (sym alike ∙ viewed)
                (subst (λ (it : Subscriber). IsViewed options old.settings (named_of it)) (sym made) (refl, refl))),
          )

          here : mid.settings ≡ old.settings → (was : Subscriber) → named_of was ≡ view
              → at n (changed number after more.subscribers) ≡ Some was → ((n == number) ≡ true) ⊎ ((n == number) ≡ false)
              → (given : SubscriberOptions) × Known n given × IsViewed given mid.settings view
          here same was viewed found (inl is_it) =
              elim (at-changed-either number n after was more.subscribers found) [
                | inl before ↦ elim (at-either number n one was old.subscribers before) [
                  | inl older ↦ old-one same was viewed older
                  | inr it ↦ new-one same was viewed (ap named_of it) (eqb-true n number is_it)
                ]
                | inr it ↦ new-one same was viewed (ap named_of it ∙ ap named_of follows.4) (eqb-true n number is_it)
              ]
          here same was viewed found (inr off) =
              old-one same was viewed
              (sym (at-appended-other number n one old.subscribers (eqb-false n number off))
              ∙ (sym (at-changed-other number n after more.subscribers (eqb-false n number off)) ∙ found))

  module _ (Known : ℕ → SubscriberOptions → Type 0) (asked : Command T) (state : State T) (answer : Reply T)
      (knows : (number : ℕ) (options : SubscriberOptions) → ComesAsSubscriber number options asked answer → Known number options) where
    named-loud : (factories : List (ℕ × Factory)) (one : Loud T) (old new : Service T) → IsTold asked state answer one
        → Loudly factories one old new → Named Known old → Named Known new
    named-loud factories (move.Takes number sample) old new told (holder, first, came) named =
        named-names Known old new (subst (Names old) (sym came) (refl, (λ n. refl))) named
    named-loud factories (move.Releases number sample) old new told (found, came) named =
        named-names Known old new (subst (Names old) (sym came) (refl, (λ n. refl))) named
    named-loud factories (move.Subscribes buffer place number options one after) old new (asks, next, told) did named =
        named-comes Known factories buffer place number options one after old new
        (knows number options (subst (λ (it : Command T). ComesAsSubscriber number options it answer) (sym asks) (refl, told))) did named
    named-loud factories other old new told did named = named-rests Known old new (rests-loud factories other old new refl did) named

    named-walk : (factories : List (ℕ × Factory)) (loud : List (Loud T)) (old new : Service T)
        → AllByRecursion (IsTold asked state answer) loud → Walk factories loud old new → Named Known old → Named Known new
    named-walk factories [] old new told h named = named-rests Known old new (rests-quiets old new h) named
    named-walk factories (one ∷ more) old new told h named =
        named-walk factories more h.1 new told.1 h.4
        (named-loud factories one h.0 h.1 told.0 h.3 (named-rests Known old h.0 (rests-quiets old h.0 h.2) named))

  module _ (types : MessageTypeDetails) (choices : Choices T) (buffer : ℕ) where
    step-named : (Known : ℕ → SubscriberOptions → Type 0) (asked : Command T) (old : State T) (answer : Reply T) (new : State T)
        → ((number : ℕ) (options : SubscriberOptions) → ComesAsSubscriber number options asked answer → Known number options)
        → Step types choices buffer asked old answer new → AllNamed Known old → AllNamed Known new
    step-named Known asked old answer new knows h all =
        (becomes-keeps (Walks asked old answer) (Named Known) (new-named T Known) asked old answer new
        (λ has service after first walks named.
        named-walk Known asked old answer knows old.factories walks.0 service after walks.1.5 walks.2 named)
        (step-moves types choices buffer asked old answer new h) all).0

    runs-named : (Known : ℕ → SubscriberOptions → Type 0) (asked : List (Command T)) (old : State T) (answers : List (Reply T))
        (new : State T) (run : Runs types choices buffer asked old answers new) → AllNamed Known old
        → AllNamed (λ number options. Known number options
        ⊎ SubscriberCameAs types choices buffer number options asked old answers new run) new
    runs-named Known [] old answers new run all =
        subst (AllNamed (λ number options. Known number options ⊎ ⊥)) (sym run.1)
        (all-better Known (λ number options. Known number options ⊎ ⊥) (λ number options known. inl known) old all)
    runs-named Known (one ∷ more) old answers new run all =
        let Next : ℕ → SubscriberOptions → Type 0 = λ number options. Known number options ⊎ ComesAsSubscriber number options one run.0 in
        let mid : AllNamed Next run.1 =
        step-named Next one old run.0 run.1 (λ number options came. inr came) run.3
        (all-better Known Next (λ number options known. inl known) old all) in
        all-better
        (λ number options. Next number options ⊎ SubscriberCameAs types choices buffer number options more run.1 run.2 new run.4)
        (λ number options. Known number options ⊎ SubscriberCameAs types choices buffer number options (one ∷ more) old answers new run)
        (λ number options it. elim it [
          | inl next ↦ elim next [ inl known ↦ inl known | inr came ↦ inr (inl came) ]
          | inr came ↦ inr (inr came)
        ])
        new (runs-named Next more run.1 run.2 new run.4 mid)

pub subscribers-as-named : {T : Type 0} (choices : Choices T) → SubscribersAreAsNamed choices
subscribers-as-named {T} choices types buffer asked answers new run =
    let Known : ℕ → SubscriberOptions → Type 0 =
    λ number options. SubscriberCameAs types choices buffer number options asked new_state answers new run in
    all-weaker (Named (λ number options. ⊥ ⊎ Known number options))
    (λ (service : Service T). (number : ℕ) (one : Subscriber) → at number service.subscribers ≡ Some one
    → (options : SubscriberOptions) × Known number options × IsViewed options service.settings (named_of one))
    (λ service named number one found.
    let it : (options : SubscriberOptions) × (⊥ ⊎ Known number options) × IsViewed options service.settings (named_of one) =
    named number (named_of one) (ap (option_map named_of) found) in
    (it.0, (elim it.1 [ inl never ↦ absurd never | inr came ↦ came ]), it.2))
    new.services
    (runs-named types choices buffer (λ number options. ⊥) asked new_state answers new run tt)
