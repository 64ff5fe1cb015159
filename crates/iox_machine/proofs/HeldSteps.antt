-- A sample that isn't released is there to be read, after each step, and so after each run.
use Rattle.std.proofs.Common.{◌≡◌, ◌+◌, ℕ, Bool, true, false, cond, not, ◌&&◌, List, [], ◌∷◌, ◌++◌, Option, None, Some, refl, sym, ap}
use Rattle.std.proofs.Common.{subst, inl, inr, ◌∙◌}
use Rattle.std.proofs.lemmas.Bool.{eqb-true, eqb-false, and_from, or_left, or_right, or_parts, or_cases, cases_Bool}
use Rattle.std.specs.Global.{Vec}
use Rattle.std.specs.List.{AllByRecursion, list_any}
use Rattle.std.specs.Option.{option_map_or}
use Rattle.std.specs.Prelude.{◌||◌, option_map, ◌==◌, is_some, find, filter, MatchOption, bytes_eq}
use Rattle.std.specs.Vec.{vec_items}
use Rattle.iox_machine.proofs.Shorthands.{IsSkipped}
use Rattle.iox_machine.specs.Choices.{Choices}
use Rattle.iox_machine.specs.Closing.{is_used_by}
use Rattle.iox_machine.specs.Factories.{with_open}
use Rattle.iox_machine.specs.Message.{Loan, Sample}
use Rattle.iox_machine.specs.MessageLaws.{is_release_of, HeldIsRead}
use Rattle.iox_machine.specs.Phase.{Phase, Absent, BeingMade, Published, Emptied, same_pattern}
use Rattle.iox_machine.specs.Ports.{subscriber_in}
use Rattle.iox_machine.specs.Receiving.{Receives, has_samples}
use Rattle.iox_machine.specs.Run.{Step, Runs}
use Rattle.iox_machine.specs.Service.{Service, Publisher, Subscriber, new_service}
use Rattle.iox_machine.specs.State.{State, Factory, is_service_of, replaced, counted, new_state}
use Rattle.iox_machine.specs.SubscriberUpdate as subscribing
use Rattle.iox_machine.specs.Table.{at, removed}
use Rattle.iox_machine.specs.UseLaws.{IsOpen}
use Rattle.iox_machine.proofs.Cases.{by-option, same-some, never-some, both-true}
use Rattle.iox_machine.proofs.Frames.{holder_of, holder_at, soft-updates, subscriber-stands}
use Rattle.iox_machine.proofs.Held.{IsOwned, any-at, any-found, any-replaced, any-there, never, holder-at, kept-is-some, owned-more}
use Rattle.iox_machine.proofs.Held.{owned-set}
use Rattle.iox_machine.proofs.Moving.{at-one}
use Rattle.iox_machine.proofs.Runs.{samples-read, never-received, never-told, received-number}
use Rattle.iox_machine.proofs.Tables.{at-removed-other, at-kept, at-either, at-last, at-removed}
use Rattle.iox_command.specs.DomainValues.declared.port_error.ReceiveError.TheVariants as receive_error
use Rattle.iox_command.specs.NegotiateBase.DescribeBase.declared.message_type.MessageTypeDetails.{MessageTypeDetails}
use Rattle.iox_command.specs.NegotiateBase.DescribeBase.declared.pattern.MessagingPattern.{MessagingPattern}
use Rattle.iox_command.specs.NegotiateBase.DescribeBase.declared.pattern.MessagingPattern.TheVariants as pattern
use Rattle.iox_command.specs.NegotiateBase.DescribeSettings.declared.static_config.Settings.{Settings}
use Rattle.iox_command.specs.NegotiateBase.DescribeSettings.declared.static_config.Settings.TheVariants as settings
use Rattle.iox_command.specs.NegotiateBase.DescribeSettings.declared.static_config.publish_subscribe.StaticConfig.{StaticConfig}
use Rattle.iox_command.specs.declared.command.Command.{Command}
use Rattle.iox_command.specs.declared.command.Command.TheVariants as command
use Rattle.iox_command.specs.declared.refusal.Refusal.TheVariants as refusal
use Rattle.iox_command.specs.declared.reply.Reply.{Reply}
use Rattle.iox_command.specs.declared.reply.Reply.TheVariants as reply
use lib.Pointwise.{bytes_decides}
use Rattle.iox_machine.proofs.MoveForms.{Loud, Loudly, Quiets, Walk, releases, releases_of}
use Rattle.iox_machine.proofs.MoveForms as move
use Rattle.iox_machine.proofs.MoveLaws.{Holds, Lasts, by-quiets, step-holds}
use Rattle.iox_machine.proofs.MoveSteps.{step-moves}
use Rattle.iox_machine.proofs.Moves.{Moves}

-- ---- names and patterns

same-patterns : (one other : MessagingPattern) → same_pattern one pattern.PublishSubscribe ≡ true
    → same_pattern other pattern.PublishSubscribe ≡ true → same_pattern one other ≡ true
same-patterns pattern.PublishSubscribe pattern.PublishSubscribe h k = refl
same-patterns pattern.PublishSubscribe pattern.Event h k = never (sym k)
same-patterns pattern.PublishSubscribe pattern.RequestResponse h k = never (sym k)
same-patterns pattern.Event other h k = never (sym h)
same-patterns pattern.RequestResponse other h k = never (sym h)

same-names : (name one other : List ℕ) → bytes_eq name one ≡ true → bytes_eq name other ≡ true → bytes_eq one other ≡ true
same-names name one other h k = (bytes_decides one other).1 (sym ((bytes_decides name one).0 h) ∙ (bytes_decides name other).0 k)

module _ {T : Type 0} (sample : ℕ) where
  abbrev test : Service T → Bool
  test service = is_some (at sample service.samples)

  abbrev pub IsThere : State T → Type 0
  IsThere state = list_any (λ (service : Service T). is_some (at sample service.samples)) state.services ≡ true

  abbrev pub AreOwned : State T → Type 0
  AreOwned state = AllByRecursion (IsOwned state.factories) state.services

  -- All stays owned, and the sample stays there unless it is released.
  abbrev Stays : Bool → State T → State T → Type 0
  Stays releases old new = AreOwned new × (releases ≡ false → IsThere old → IsThere new)

  -- ---- services that come and go

  more-open : (old more : List (ℕ × Factory)) (service : Service T)
      → IsOwned old service → IsOwned (old ++ more) service
  more-open old more service own = (
    (λ number one e stands.
        let it : IsOpen old service.name one.0 = own.0 number one e stands in
        (it.0, at-kept one.0 it.0 old more it.1, it.2)),
    (λ number one e.
        let it : (holder : ℕ × Bool) × (holder_at one.subscriber service ≡ Some holder) × IsOpen old service.name holder.0 =
        own.1 number one e in
        (it.0, it.1, (it.2.0, at-kept it.0.0 it.2.0 old more it.2.1, it.2.2))),
  )

  new-owned : (factories : List (ℕ × Factory)) (name : List ℕ) (c : StaticConfig) → IsOwned factories (new_service {T = T} name c)
  new-owned factories name c = ((λ number one e stands. never-some one e), (λ number one e. never-some one e))

  any-more : (test : Service T → Bool) (services more : List (Service T)) → list_any test services ≡ true
      → list_any test (services ++ more) ≡ true
  any-more test [] more e = never (sym e)
  any-more test (service ∷ services) more e = elim (or_cases (test service) (list_any test services) e) [
    | inl is ↦ or_left (test service) (list_any test (services ++ more)) is
    | inr is ↦ or_right (test service) (list_any test (services ++ more)) (any-more test services more is)
  ]

  any-open : (test : Service T → Bool) (name : List ℕ) (phase : Phase) (services : List (Service T)) → list_any test services ≡ true
      → list_any test (with_open name phase services) ≡ true
  any-open test name (Absent lives) services any = any
  any-open test name (BeingMade life by) services any = any
  any-open test name (Published life agreed nodes) services any = opened agreed.settings
    where
      one-more : (b : Bool) (c : StaticConfig) → list_any test (cond b services (services ++ new_service name c ∷ [])) ≡ true
      one-more true c = any
      one-more false c = any-more test services (new_service name c ∷ []) any

      opened : (s : Settings) → list_any test (elim s [
        | settings.PublishSubscribe c ↦ cond (list_any (λ (service : Service T). bytes_eq service.name name) services) services
            (services ++ new_service name c ∷ [])
        | settings.Event c ↦ services
        | settings.RequestResponse c ↦ services
      ]) ≡ true
      opened (settings.PublishSubscribe c) = one-more (list_any (λ (service : Service T). bytes_eq service.name name) services) c
      opened (settings.Event c) = any
      opened (settings.RequestResponse c) = any
  any-open test name (Emptied life agreed by) services any = any

  -- a factory under whose number something of a service stands isn't closed
  module _ (number : ℕ) (factory : Factory) (factories : List (ℕ × Factory)) (found : at number factories ≡ Some factory) where
    pub used-open : (service : Service T) → (is_service_of factory service && is_used_by number service) ≡ false
        → (holder : ℕ) → IsOpen factories service.name holder → ((holder == number) ≡ true → is_used_by number service ≡ true)
        → (at holder (removed number factories) ≡ at holder factories)
    used-open service unused holder open_one uses = elim (cases_Bool (holder == number)) [
      | inl is ↦ never (sym (and_from (is_service_of factory service) (is_used_by number service) (its is) (uses is)) ∙ unused)
      | inr is ↦ at-removed-other number holder factories (eqb-false holder number is)
    ]
      where
        its : (holder == number) ≡ true → is_service_of factory service ≡ true
        its is =
            subst (λ (it : Factory). is_service_of it service ≡ true)
            (same-some open_one.0 factory (sym open_one.1 ∙ (ap (λ (k : ℕ). at k factories) (eqb-true holder number is) ∙ found)))
            open_one.2

    standing-uses : (service : Service T) (other : ℕ) (one : ℕ × Bool) → holder_at other service ≡ Some one → one.1 ≡ true
        → (one.0 == number) ≡ true → is_used_by number service ≡ true
    standing-uses service other one e stands is =
        let it : (sub : Subscriber) × (at other service.subscribers ≡ Some sub) × (holder_of sub ≡ one) =
        holder-at (at other service.subscribers) one e in
        or_right (list_any (λ (entry : ℕ × Publisher T). entry.1.stands && entry.1.factory == number) service.publishers) _
        (or_left (list_any (λ (entry : ℕ × Subscriber). entry.1.stands && entry.1.factory == number) service.subscribers) _
        (any-at (λ (sub : Subscriber). sub.stands && sub.factory == number) other it.0 service.subscribers it.1
        (subst (λ (h : ℕ × Bool). (h.1 && h.0 == number) ≡ true) (sym it.2) (and_from one.1 (one.0 == number) stands is))))

    sample-uses : (service : Service T) (other : ℕ) (held : Sample T) (holder : ℕ × Bool) → at other service.samples ≡ Some held
        → holder_at held.subscriber service ≡ Some holder → (holder.0 == number) ≡ true → is_used_by number service ≡ true
    sample-uses service other held holder e found_one is =
        let it : (sub : Subscriber) × (at held.subscriber service.subscribers ≡ Some sub) × (holder_of sub ≡ holder) =
        holder-at (at held.subscriber service.subscribers) holder found_one in
        or_right (list_any (λ (entry : ℕ × Publisher T). entry.1.stands && entry.1.factory == number) service.publishers) _
        (or_right (list_any (λ (entry : ℕ × Subscriber). entry.1.stands && entry.1.factory == number) service.subscribers) _
        (or_right (list_any (λ (entry : ℕ × Loan T). option_map_or (λ (publisher : Publisher T). publisher.factory == number)
        (at entry.1.publisher service.publishers) false) service.loans) _
        (any-at (λ (one : Sample T). option_map_or (λ (subscriber : Subscriber). subscriber.factory == number)
        (at one.subscriber service.subscribers) false) other held service.samples e
        (ap (λ (o : Option Subscriber). option_map_or (λ (subscriber : Subscriber). subscriber.factory == number) o false) it.1
        ∙ (ap (λ (h : ℕ × Bool). h.0 == number) it.2 ∙ is)))))

    closing-owned : (service : Service T) → (is_service_of factory service && is_used_by number service) ≡ false
        → IsOwned factories service → IsOwned (removed number factories) service
    closing-owned service unused own = (
      (λ other one e stands.
          let it : IsOpen factories service.name one.0 = own.0 other one e stands in
          (it.0, used-open service unused one.0 it (standing-uses service other one e stands) ∙ it.1, it.2)),
      (λ other held e.
          let it : (holder : ℕ × Bool) × (holder_at held.subscriber service ≡ Some holder) × IsOpen factories service.name holder.0 =
          own.1 other held e in
          (it.0, it.1, (it.2.0, used-open service unused it.0.0 it.2 (sample-uses service other held it.0 e it.1) ∙ it.2.1, it.2.2))),
    )

    -- a service whose samples are out has another factory, where the one that is closed is of it
    has-other : (service : Service T) → (is_service_of factory service && is_used_by number service) ≡ false → IsOwned factories service
        → is_some (at sample service.samples) ≡ true → is_service_of factory service ≡ true
        → list_any (λ (entry : ℕ × Factory). same_pattern entry.1.pattern factory.pattern && bytes_eq entry.1.name factory.name)
        (removed number factories) ≡ true
    has-other service unused own has of_it = with_sample (at sample service.samples) refl has
      where
        with_sample : (o : Option (Sample T)) → at sample service.samples ≡ o → is_some o ≡ true
            → list_any (λ (entry : ℕ × Factory). same_pattern entry.1.pattern factory.pattern && bytes_eq entry.1.name factory.name)
            (removed number factories) ≡ true
        with_sample None e is = never (sym is)
        with_sample (Some held) e is =
            let it : (holder : ℕ × Bool) × (holder_at held.subscriber service ≡ Some holder) × IsOpen factories service.name holder.0 =
            own.1 sample held e in
            let other : Factory = it.2.0 in
            let its : (same_pattern other.pattern pattern.PublishSubscribe ≡ true) × (bytes_eq service.name other.name ≡ true) =
            both-true (same_pattern other.pattern pattern.PublishSubscribe) (bytes_eq service.name other.name) it.2.2 in
            let closing : (same_pattern factory.pattern pattern.PublishSubscribe ≡ true) × (bytes_eq service.name factory.name ≡ true) =
            both-true (same_pattern factory.pattern pattern.PublishSubscribe) (bytes_eq service.name factory.name) of_it in
            any-at (λ (one : Factory). same_pattern one.pattern factory.pattern && bytes_eq one.name factory.name) it.0.0 other
            (removed number factories)
            (used-open service unused it.0.0 it.2 (sample-uses service sample held it.0 e it.1) ∙ it.2.1)
            (and_from (same_pattern other.pattern factory.pattern) (bytes_eq other.name factory.name)
            (same-patterns other.pattern factory.pattern its.0 closing.0) (same-names service.name other.name factory.name its.1 closing.1))

    there-closing : (services : List (Service T))
        → list_any (λ (service : Service T). is_service_of factory service && is_used_by number service) services ≡ false
        → AllByRecursion (IsOwned factories) services
        → list_any (λ (entry : ℕ × Factory). same_pattern entry.1.pattern factory.pattern && bytes_eq entry.1.name factory.name)
        (removed number factories) ≡ false
        → list_any (λ (service : Service T). is_some (at sample service.samples)) services ≡ true
        → list_any (λ (service : Service T). is_some (at sample service.samples))
        (filter (λ (service : Service T). not (is_service_of factory service)) services) ≡ true
    there-closing [] unused all last any = never (sym any)
    there-closing (service ∷ more) unused all last any = step (there-closing more) (is_service_of factory service) refl
      where
        both : ((is_service_of factory service && is_used_by number service) ≡ false)
            × (list_any (λ (it : Service T). is_service_of factory it && is_used_by number it) more ≡ false)
        both =
            or_parts (is_service_of factory service && is_used_by number service)
            (list_any (λ (it : Service T). is_service_of factory it && is_used_by number it) more) unused

        step : (list_any (λ (it : Service T). is_service_of factory it && is_used_by number it) more ≡ false
            → AllByRecursion (IsOwned factories) more
            → list_any (λ (entry : ℕ × Factory). same_pattern entry.1.pattern factory.pattern && bytes_eq entry.1.name factory.name)
            (removed number factories) ≡ false
            → list_any test more ≡ true
            → list_any test (filter (λ (it : Service T). not (is_service_of factory it)) more) ≡ true)
            → (b : Bool) → is_service_of factory service ≡ b
            → list_any test (cond (not b) (service ∷ filter (λ (it : Service T). not (is_service_of factory it)) more)
            (filter (λ (it : Service T). not (is_service_of factory it)) more)) ≡ true
        step on true is = elim (or_cases (test service) (list_any test more) any) [
          | inl has ↦ never (sym (has-other service both.0 all.0 has is) ∙ last)
          | inr has ↦ on both.1 all.1 last has
        ]
        step on false is = elim (or_cases (test service) (list_any test more) any) [
          | inl has ↦ or_left (test service) (list_any test (filter (λ (it : Service T). not (is_service_of factory it)) more)) has
          | inr has ↦ or_right (test service) (list_any test (filter (λ (it : Service T). not (is_service_of factory it)) more))
              (on both.1 all.1 last has)
        ]

  -- ---- moves

  owned-lasts : (factories : List (ℕ × Factory))
      → Lasts (λ (old new : Service T). IsOwned factories old → IsOwned factories new)
  owned-lasts factories = record {
    none = λ service own. own;
    both = λ one two three h k own. k (h own);
    boxed = λ boxes service own. own;
    alike = λ number was after service found is own. own;
    turned = λ number was after service found is own. owned-set factories number after service
        (λ up. own.0 number (holder_of after) (ap (option_map holder_of) found
        ∙ ap (λ (it : Subscriber). Some (it.factory, it.stands)) (sym is)) up)
        (inl (λ it there. ap (λ (s : Subscriber). s.factory) is
        ∙ ap (λ (s : Subscriber). s.factory) (same-some was it (sym found ∙ there)))) own;
  }

  owned-loud : (factories : List (ℕ × Factory)) (one : Loud T) (old new : Service T) → Loudly factories one old new
      → IsOwned factories old → IsOwned factories new
  owned-loud factories (move.Lends number was after loan made) old new (found, up, is, by, next, came) own =
      subst (IsOwned factories) (sym came) own
  owned-loud factories (move.Numbers number was after) old new (found, is, came) own = subst (IsOwned factories) (sym came) own
  owned-loud factories (move.Writes loan one values) old new (found, came) own = subst (IsOwned factories) (sym came) own
  owned-loud factories (move.Spends loan one) old new (found, came) own = subst (IsOwned factories) (sym came) own
  owned-loud factories (move.Begins number one message) old new (found, free, came) own = subst (IsOwned factories) (sym came) own
  owned-loud factories (move.Publishes place number options one after) old new (open_one, follows, is, came) own =
      subst (IsOwned factories) (sym came) own
  owned-loud factories (move.Unpublishes number one) old new (found, came) own = subst (IsOwned factories) (sym came) own
  owned-loud factories (move.Takes number it) old new ((one, found, up), first, came) own =
      subst (IsOwned factories) (sym came) (
        own.0,
        (λ other held e. elim (at-either number other it held old.samples e) [
          | inl was ↦ own.1 other held was
          | inr is ↦ (
            holder_of one,
            ap (λ (sub : Sample T). holder_at sub.subscriber old) is ∙ ap (option_map holder_of) found,
            own.0 it.subscriber (holder_of one) (ap (option_map holder_of) found) up,
          )
        ]),
      )
  owned-loud factories (move.Releases number it) old new (found, came) own =
      subst (IsOwned factories) (sym came) (own.0, (λ other held e. own.1 other held (at-removed number other held old.samples e)))
  owned-loud factories (move.Subscribes buffer place number options one after) old new (open_one, follows, is, came) own =
      let of_it : IsOpen factories old.name after.factory =
      subst (λ (k : ℕ). IsOpen factories old.name k) (sym (ap (λ (it : Subscriber). it.factory) is)) open_one in
      subst (IsOwned factories) (sym came)
      (owned-set factories number after (record old { subscribers = old.subscribers ++ (number, one) ∷ [] }) (λ up. of_it) (inr of_it)
      (owned-more factories number one old open_one own))
  owned-loud factories (move.Unsubscribes number one) old new (found, came) own =
      subst (IsOwned factories) (sym came)
      (owned-set factories number (record one { stands = false }) old (λ up. never (sym up))
      (inl (λ it there. ap (λ (s : Subscriber). s.factory) (same-some one it (sym found ∙ there)))) own)

  owned-holds : Holds (IsOwned {T = T})
  owned-holds = record {
    fresh = new-owned;
    opened = more-open;
    shut = closing-owned;
    quiet = λ factories old new h own. by-quiets (λ (one other : Service T). IsOwned factories one → IsOwned factories other)
        (owned-lasts factories) old new h own;
    loud = owned-loud;
  }

  -- quiet moves leave all samples
  abbrev Samples : Service T → Service T → Type 0
  Samples old new = new.samples ≡ old.samples

  samples-last : Lasts Samples
  samples-last = record {
    none = λ service. refl;
    both = λ one two three h k. k ∙ h;
    boxed = λ boxes service. refl;
    alike = λ number was after service found is. refl;
    turned = λ number was after service found is. refl;
  }

  there-loud : (factories : List (ℕ × Factory)) (one : Loud T) (old new : Service T) → releases_of sample (one ∷ []) ≡ false
      → Loudly factories one old new → test old ≡ true → test new ≡ true
  there-loud factories (move.Takes number it) old new kept (one, first, came) has =
      subst (λ (s : Service T). test s ≡ true) (sym came) (kept-is-some sample old.samples ((number, it) ∷ []) has)
  there-loud factories (move.Releases number it) old new kept (found, came) has =
      subst (λ (s : Service T). test s ≡ true) (sym came)
      (ap is_some (at-removed-other number sample old.samples (λ is. eqb-false number sample (or_parts (number == sample) false kept).0
      (sym is))) ∙ has)
  there-loud factories (move.Lends number was after loan made) old new kept (found, up, is, by, next, came) has =
      subst (λ (s : Service T). test s ≡ true) (sym came) has
  there-loud factories (move.Numbers number was after) old new kept (found, is, came) has =
      subst (λ (s : Service T). test s ≡ true) (sym came) has
  there-loud factories (move.Writes loan one values) old new kept (found, came) has =
      subst (λ (s : Service T). test s ≡ true) (sym came) has
  there-loud factories (move.Spends loan one) old new kept (found, came) has = subst (λ (s : Service T). test s ≡ true) (sym came) has
  there-loud factories (move.Begins number one message) old new kept (found, free, came) has =
      subst (λ (s : Service T). test s ≡ true) (sym came) has
  there-loud factories (move.Publishes place number options one after) old new kept (open_one, follows, is, came) has =
      subst (λ (s : Service T). test s ≡ true) (sym came) has
  there-loud factories (move.Unpublishes number one) old new kept (found, came) has =
      subst (λ (s : Service T). test s ≡ true) (sym came) has
  there-loud factories (move.Subscribes buffer place number options one after) old new kept (open_one, follows, is, came) has =
      subst (λ (s : Service T). test s ≡ true) (sym came) has
  there-loud factories (move.Unsubscribes number one) old new kept (found, came) has =
      subst (λ (s : Service T). test s ≡ true) (sym came) has

  there-quiet : (old new : Service T) → Quiets old new → test old ≡ true → test new ≡ true
  there-quiet old new h has =
      ap (λ (table : List (ℕ × Sample T)). is_some (at sample table)) (by-quiets Samples samples-last old new h) ∙ has

  there-walk : (factories : List (ℕ × Factory)) (loud : List (Loud T)) (old new : Service T) → releases_of sample loud ≡ false
      → Walk factories loud old new → test old ≡ true → test new ≡ true
  there-walk factories [] old new kept h has = there-quiet old new h has
  there-walk factories (one ∷ more) old new kept (before, after, quiet, did, h) has =
      let both : (releases sample one ≡ false) × (releases_of sample more ≡ false) =
      or_parts (releases sample one) (releases_of sample more) kept in
      there-walk factories more after new both.1 h
      (there-loud factories one before after (ap (λ (b : Bool). b || false) both.0) did (there-quiet old before quiet has))

  -- ---- each step

  there-moves : (asked : Command T) (old : State T) (answer : Reply T) (new : State T) → Moves asked old answer new → AreOwned old
      → is_release_of sample asked ≡ false → IsThere old → IsThere new
  there-moves asked old answer new (made, inl (told, inl (services, factories))) all kept there =
      ap (λ (l : List (Service T)). list_any test l) services ∙ there
  there-moves asked old answer new (made, inl (told, inr (inl (factory, phase, factories, services)))) all kept there =
      ap (λ (l : List (Service T)). list_any test l) services ∙ any-open test factory.name phase old.services there
  there-moves asked old answer new (made, inl (told, inr (inr (number, factory, found, unused, factories, services)))) all kept there =
      ap (λ (l : List (Service T)). list_any test l) services
      ∙ shut (list_any (λ (entry : ℕ × Factory). same_pattern entry.1.pattern factory.pattern && bytes_eq entry.1.name factory.name)
      (removed number old.factories)) refl
    where
      shut : (b : Bool)
          → list_any (λ (entry : ℕ × Factory). same_pattern entry.1.pattern factory.pattern && bytes_eq entry.1.name factory.name)
          (removed number old.factories) ≡ b
          → list_any test (cond b old.services (filter (λ (service : Service T). not (is_service_of factory service)) old.services)) ≡ true
      shut true is = there
      shut false is = there-closing number factory old.factories found old.services unused all is there
  there-moves asked old answer new (made, inr (has, service, after, first, (loud, told, walk), came)) all kept there =
      subst (λ (s : State T). IsThere s) (sym came)
      (any-replaced test has service after old.services first (there-walk old.factories loud service after (told.3 sample kept) walk) there)

  module _ (types : MessageTypeDetails) (choices : Choices T) (buffer : ℕ) where
    pub step-stays : (asked : Command T) (old : State T) (answer : Reply T) (new : State T)
        → Step types choices buffer asked old answer new → AreOwned old → Stays (is_release_of sample asked) old new
    step-stays asked old answer new h all =
        let moves : Moves asked old answer new = step-moves types choices buffer asked old answer new h in
        (step-holds IsOwned owned-holds asked old answer new moves all, there-moves asked old answer new moves all)

    -- ---- each run

    pub run-owned : (asked : List (Command T)) (old : State T) (answers : List (Reply T)) (new : State T)
        → Runs types choices buffer asked old answers new → AreOwned old → AreOwned new
    run-owned [] old answers new run all = subst AreOwned (sym run.1) all
    run-owned (one ∷ more) old answers new run all =
        run-owned more run.1 run.2 new run.4 (step-stays one old run.0 run.1 run.3 all).0

    pub run-there : (asked : List (Command T)) (old : State T) (answers : List (Reply T)) (new : State T)
        → Runs types choices buffer asked old answers new → list_any (is_release_of sample) asked ≡ false → AreOwned old → IsThere old
        → IsThere new
    run-there [] old answers new run held all there = subst IsThere (sym run.1) there
    run-there (one ∷ more) old answers new run held all there =
        let kept : (is_release_of sample one ≡ false) × (list_any (is_release_of sample) more ≡ false) =
        or_parts (is_release_of sample one) (list_any (is_release_of sample) more) held in
        let step : Stays (is_release_of sample one) old run.1 = step-stays one old run.0 run.1 run.3 all in
        run-there more run.1 run.2 new run.4 kept.1 step.0 (step.1 kept.0 there)

module _ {T : Type 0} (choices : Choices T) (types : MessageTypeDetails) (buffer : ℕ) where
  receives-there : (number next : ℕ) (one : Subscriber) (old : Service T) (values : Vec T) (new : Service T)
      → Receives number next one old (reply.Received next values) new → is_some (at next new.samples) ≡ true
  receives-there number next one old values new (None, is, (told, came)) =
      never-received next values (has_samples number one old) (refusal.Receive receive_error.ExceedsMaxBorrows) told
  receives-there number next one old values new (Some publisher, is, (message, given, first, same, told, came)) =
      subst (λ (s : Service T). is_some (at next s.samples) ≡ true) (sym came)
      (at-last next (record { publisher = publisher; subscriber = number; message = message }) old.samples)

  -- the sample that a receive makes is there
  pub received-there : (subscriber sample : ℕ) (old : State T) (values : Vec T) (new : State T)
      → Step types choices buffer (command.Receive subscriber) old (reply.Received sample values) new → sample ≡ old.made.samples + 1
      → IsThere sample new
  received-there subscriber sample old values new h is =
      elim (at-one (subscriber_in subscriber)
      (subscribing.UpdatesFirst choices buffer subscriber (λ failure. refusal.Receive (receive_error.ConnectionFailure failure))
      (Receives subscriber (old.made.samples + 1))) old (reply.Received sample values) new h) [
        | inl w ↦ never-told (reply.Received sample values) reply.Skipped w.0 refl refl
        | inr w ↦ subst (λ (s : State T). IsThere sample s) (sym w.6)
            (any-there (λ (it : Service T). is_some (at sample it.samples))
            (λ (other : Service T). is_some (subscriber_in subscriber other))
            w.0 w.2 old.services w.3 (made w.0 w.1 w.2 w.4 w.5))
      ]
    where
      made : (service : Service T) (one : Subscriber) (after : Service T) → subscriber_in subscriber service ≡ Some one
          → subscribing.UpdatesFirst choices buffer subscriber (λ failure. refusal.Receive (receive_error.ConnectionFailure failure))
          (Receives subscriber (old.made.samples + 1)) one service (reply.Received sample values) after
          → is_some (at sample after.samples) ≡ true
      made service one after found did =
          soft-updates choices (is_some (at sample after.samples) ≡ true) buffer subscriber
          (λ failure. refusal.Receive (receive_error.ConnectionFailure failure)) (Receives subscriber (old.made.samples + 1)) one service
          (reply.Received sample values) after (subscriber-stands subscriber service one found).0
          (λ now mid soft there same took. subst (λ (k : ℕ). is_some (at k after.samples) ≡ true) (sym is)
          (receives-there subscriber (old.made.samples + 1) now mid values after
          (subst (λ (k : ℕ). Receives subscriber (old.made.samples + 1) now mid (reply.Received k values) after) is took)))
          (λ why mid soft refused. never-told (reply.Received sample values) (reply.Refused why) refused.0 refl refl) did

pub held-is-read : {T : Type 0} (choices : Choices T) → HeldIsRead choices
held-is-read {T} choices types buffer asked answers old run subscriber sample values mid received meanwhile told later ran held answer new
    h =
    let owned : AreOwned sample old = run-owned sample types choices buffer asked new_state answers old run tt in
    let next : sample ≡ old.made.samples + 1 =
    received-number types choices buffer asked answers old run subscriber sample values mid received in
    let there : IsThere sample later =
    run-there sample types choices buffer meanwhile mid told later ran held
    (step-stays sample types choices buffer (command.Receive subscriber) old (reply.Received sample values) mid received owned).0
    (received-there choices types buffer subscriber sample old values mid received next) in
    elim (by-option (find (λ (service : Service T). is_some (at sample service.samples)) later.services) (IsSkipped later answer new)
    (λ service. (after : Service T) × MatchOption (at sample service.samples) ⊥
    (λ one. (read : Vec T) × (vec_items read ≡ one.message.values) × (answer ≡ reply.Values read) × (after ≡ service))
    × (new ≡ record later {
      made = counted answer later.made;
      services = replaced (λ (other : Service T). is_some (at sample other.samples)) after later.services;
    })) h) [
      | inl w ↦ absurd (any-found (λ (service : Service T). is_some (at sample service.samples)) later.services there w.0)
      | inr w ↦ reads w.0 w.2.0 w.2.1
    ]
  where
    reads : (service after : Service T) → MatchOption (at sample service.samples) ⊥
        (λ one. (read : Vec T) × (vec_items read ≡ one.message.values) × (answer ≡ reply.Values read) × (after ≡ service))
        → (read : Vec T) × (answer ≡ reply.Values read) × (vec_items read ≡ vec_items values)
    reads service after did =
        elim (by-option (at sample service.samples) ⊥
        (λ one. (read : Vec T) × (vec_items read ≡ one.message.values) × (answer ≡ reply.Values read) × (after ≡ service)) did) [
          | inl w ↦ absurd w.1
          | inr w ↦ (
            w.2.0,
            w.2.2,
            samples-read choices types buffer asked answers old run subscriber sample values mid received meanwhile told later ran w.2.0
                new (subst (λ (told_so : Reply T). Step types choices buffer (command.Read sample) later told_so new) w.2.2 h),
          )
        ]
