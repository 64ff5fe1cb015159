-- In every run services and factories stand as phases say.
use Rattle.std.proofs.Common.{◌≡◌, ◌⊎◌, ◌≤◌, ◌+◌, ℕ, Bool, true, false, cond, not, ◌&&◌, ◌||◌, List, [], ◌∷◌, ◌++◌, take, Some, refl, sym}
use Rattle.std.proofs.Common.{ap, subst, inl, inr, arith, ◌∙◌, true≢false}
use Rattle.std.proofs.lemmas.Bool.{eqb-true, eq-eqb, false_from_ne_true}
use Rattle.std.specs.List.{AllByRecursion, IsDistinct, list_any}
use Rattle.std.specs.Prelude.{◌==◌, filter, find, fold, option_map, bytes_eq}
use Rattle.iox_machine.specs.Choices.{Choices}
use Rattle.iox_machine.specs.AgreementLaws.{agreed_in, IsPublished, AreApart, IsAgreed, IsIn, OneAgreement}
use Rattle.iox_machine.specs.Asked.{settings_of}
use Rattle.iox_machine.specs.Factories.{with_open, CreatesService, OpensService, OpensOrCreatesService}
use Rattle.iox_machine.specs.IndependenceLaws.{is_factory_of, is_of}
use Rattle.iox_machine.specs.Phase.{Own, Phase, Absent, BeingMade, Published, Emptied, same_pattern, acted}
use Rattle.iox_machine.proofs.Shorthands.{closed_by, factory_of}
use Rattle.iox_machine.specs.Run.{Step, Runs}
use Rattle.iox_machine.specs.Service.{Service, new_service}
use Rattle.iox_machine.specs.State.{State, Factory, new_state, counted, with_phase, is_service_of}
use Rattle.iox_machine.specs.Table.{at, removed}
use Rattle.iox_machine.proofs.Beginning.{or-first, or-second}
use Rattle.iox_machine.proofs.Calls.{IsSettled, create-settles, open-settles, either-settles, fold-all}
use Rattle.iox_machine.proofs.Cases.{same-some, never-some, both-true}
use Rattle.iox_machine.proofs.Counts.{has, joined-has, one-has, filter-has, one_if}
use Rattle.iox_machine.proofs.Lists.{all-both, all-weaker, all-joined, all-filtered}
use Rattle.iox_machine.proofs.Moving.{closed}
use Rattle.iox_machine.proofs.Names.{pattern-is, name-is, name-itself, and-true, phases-where, at-itself, at-off}
use Rattle.iox_machine.proofs.Phases.{each-all}
use Rattle.iox_machine.proofs.Ported.{ports-move}
use Rattle.iox_machine.proofs.Shares.{Counts, share, more_of, in-share, counts-same}
use Rattle.iox_machine.proofs.Stands.{Stands, any-joined, any-last, any-weaker, each-false, any-filtered, all-passing, all-swapped}
use Rattle.iox_machine.proofs.Stands.{one-there, one-later, distinct-joined, distinct-filtered, tally-some, manned-of, phase-stands}
use Rattle.iox_machine.proofs.Stands.{moved-stands, IsOpened, opened-so}
use Rattle.iox_machine.proofs.Standing.{tally, Apart, tally-joined, tally-removed, removed-none, apart-joined, apart-filtered, Linked}
use Rattle.iox_machine.proofs.Standing.{settings-pattern, Fits, fits-acted, fits-lost, fits-won, fits-entered, fits-closed, absurd-count}
use Rattle.iox_command.specs.NegotiateBase.DescribeBase.declared.message_type.MessageTypeDetails.{MessageTypeDetails}
use Rattle.iox_command.specs.NegotiateBase.DescribeBase.declared.pattern.MessagingPattern.{MessagingPattern}
use Rattle.iox_command.specs.NegotiateBase.DescribeBase.declared.pattern.MessagingPattern.TheVariants as messaging
use Rattle.iox_command.specs.NegotiateBase.DescribeSettings.declared.static_config.Settings.TheVariants as settings
use Rattle.iox_command.specs.NegotiateBase.DescribeSettings.declared.static_config.publish_subscribe.StaticConfig.{StaticConfig}
use Rattle.iox_command.specs.Patterns.{pattern_of}
use Rattle.iox_command.specs.NegotiateBase.DescribeBase.Attributes.{Required}
use Rattle.iox_command.specs.NegotiateBase.DescribeBase.declared.attribute.Attribute.{Attribute}
use Rattle.iox_command.specs.declared.service.ServiceOptions.{ServiceOptions}
use Rattle.iox_command.specs.declared.command.Command.{Command}
use Rattle.iox_command.specs.declared.command.Command.TheVariants as command
use Rattle.iox_command.specs.declared.reply.Reply.{Reply}
use Rattle.iox_command.specs.declared.reply.Reply.TheVariants as reply
use Rattle.iox_command.specs.declared.step.ForeignStep.{ForeignStep}
use Rattle.iox_command.specs.declared.step.StepBefore.{StepBefore}

count-off : (pattern : MessagingPattern) (name : List ℕ) (factory : Factory) (number node : ℕ) (table : List (ℕ × Factory))
    → is_factory_of pattern name factory ≡ false
    → tally pattern name table node ≡ tally pattern name (table ++ (number, factory) ∷ []) node
count-off pattern name factory number node table off =
    none (is_factory_of pattern name factory) off (tally-joined pattern name number factory node table)
  where
    none : (b : Bool) → b ≡ false
        → tally pattern name (table ++ (number, factory) ∷ []) node ≡ tally pattern name table node + one_if (b && (factory.node == node))
        → tally pattern name table node ≡ tally pattern name (table ++ (number, factory) ∷ []) node
    none true is e = absurd (true≢false is)
    none false is e = omega (arith, e)

count-at : (factory : Factory) (number node : ℕ) (table : List (ℕ × Factory))
    → more_of factory.node (tally factory.pattern factory.name table) node
    ≡ tally factory.pattern factory.name (table ++ (number, factory) ∷ []) node
count-at factory number node table =
    sym (tally-joined factory.pattern factory.name number factory node table
    ∙ ap (λ (b : Bool). tally factory.pattern factory.name table node + one_if (b && (factory.node == node)))
    (at-itself factory.pattern factory.name factory refl refl))

linked-other : (pattern : MessagingPattern) (name : List ℕ) (factory : Factory) (c : StaticConfig) (phase : Phase)
    → factory.pattern ≡ messaging.PublishSubscribe
    → (same_pattern pattern factory.pattern && bytes_eq name factory.name) ≡ false
    → (same_pattern pattern messaging.PublishSubscribe && bytes_eq factory.name name) ≡ true → Linked (settings.PublishSubscribe c) phase
linked-other pattern name factory c phase is off of =
    absurd (true≢false (sym (at-itself factory.pattern factory.name (record { pattern = pattern; name = name; node = 0 })
    (pattern-is pattern messaging.PublishSubscribe
    (both-true (same_pattern pattern messaging.PublishSubscribe) (bytes_eq factory.name name) of).0 ∙ sym is)
    (sym (name-is factory.name name
    (both-true (same_pattern pattern messaging.PublishSubscribe) (bytes_eq factory.name name) of).1))) ∙ off))

any-removed : (test : Factory → Bool) (number : ℕ) (factory : Factory) (table : List (ℕ × Factory)) → Apart table
    → at number table ≡ Some factory → list_any (λ (entry : ℕ × Factory). test entry.1) table ≡ true
    → (test factory ≡ true) ⊎ (list_any (λ (entry : ℕ × Factory). test entry.1) (removed number table) ≡ true)
any-removed test number factory [] apart found is = absurd (true≢false (sym is))
any-removed test number factory (entry ∷ more) apart found is =
    here (entry.0 == number) (test entry.1) refl refl found is (any-removed test number factory more apart.1)
  where
    here : (b c : Bool) → (entry.0 == number) ≡ b → test entry.1 ≡ c
        → option_map (λ (e : ℕ × Factory). e.1)
        (cond b (Some entry) (find (λ (other : ℕ × Factory). other.0 == number) more)) ≡ Some factory
        → (c || list_any (λ (it : ℕ × Factory). test it.1) more) ≡ true
        → (at number more ≡ Some factory → list_any (λ (it : ℕ × Factory). test it.1) more ≡ true
        → (test factory ≡ true) ⊎ (list_any (λ (it : ℕ × Factory). test it.1) (removed number more) ≡ true))
        → (test factory ≡ true) ⊎ (list_any (λ (it : ℕ × Factory). test it.1)
        (cond (not b) (entry ∷ removed number more) (removed number more)) ≡ true)
    here true true same passes found is on = inl (ap test (sym (same-some entry.1 factory found)) ∙ passes)
    here true false same passes found is on =
        inr (ap (λ (rest : List (ℕ × Factory)). list_any (λ (it : ℕ × Factory). test it.1) rest)
        (removed-none number more (subst (λ (n : ℕ). has n more ≡ false) (eqb-true entry.0 number same) apart.0)) ∙ is)
    here false true same passes found is on =
        inr (or-first (test entry.1) (list_any (λ (it : ℕ × Factory). test it.1) (removed number more)) passes)
    here false false same passes found is on = elim (on found is) [
      | inl it ↦ inl it
      | inr rest ↦ inr (or-second (test entry.1) (list_any (λ (it : ℕ × Factory). test it.1) (removed number more)) rest)
    ]

published-so : (f : ℕ → ℕ) (node : ℕ) (phase : Phase) → Counts f phase → 1 ≤ f node
    → IsPublished phase (λ agreed nodes. 1 ≤ share (Own node) nodes)
published-so f node (Absent lives) c one = absurd-count (f node) (c node) one
published-so f node (BeingMade life by) c one = absurd-count (f node) (c node) one
published-so f node (Published life agreed nodes) c one =
    (life, agreed, nodes, refl, subst (λ (n : ℕ). 1 ≤ n) (sym (c.1 node)) one)
published-so f node (Emptied life agreed by) c one = absurd-count (f node) (c node) one

each-tally : (table : List (ℕ × Factory))
    → AllByRecursion (λ (entry : ℕ × Factory). 1 ≤ tally entry.1.pattern entry.1.name table entry.1.node) table
each-tally [] = tt
each-tally (entry ∷ more) = (
  one-there (is_factory_of entry.1.pattern entry.1.name entry.1 && (entry.1.node == entry.1.node))
      (tally entry.1.pattern entry.1.name more entry.1.node)
      (and-true (is_factory_of entry.1.pattern entry.1.name entry.1) (entry.1.node == entry.1.node)
      (at-itself entry.1.pattern entry.1.name entry.1 refl refl) (eq-eqb entry.1.node entry.1.node refl)),
  all-weaker (λ (other : ℕ × Factory). 1 ≤ tally other.1.pattern other.1.name more other.1.node)
      (λ (other : ℕ × Factory). 1 ≤ tally other.1.pattern other.1.name (entry ∷ more) other.1.node)
      (λ other one. one-later (one_if (is_factory_of other.1.pattern other.1.name entry.1 && (entry.1.node == other.1.node)))
      (tally other.1.pattern other.1.name more other.1.node) one) more (each-tally more),
)

module _ {T : Type 0} where
  -- ---- a factory more

  -- the state once a node has a factory of a service
  abbrev entered_state : Factory → Phase → State T → Reply T → List (Service T) → State T
  entered_state factory phase old answer services = record (with_phase factory.pattern factory.name phase old) {
    made = counted answer old.made;
    factories = old.factories ++ (old.made.factories + 1, factory) ∷ [];
    services = services;
  }

  -- the factories once a node has one more
  abbrev with_factory : Factory → State T → List (ℕ × Factory)
  with_factory factory old = old.factories ++ (old.made.factories + 1, factory) ∷ []

  entered-stands : (factory : Factory) (phase : Phase) (old : State T) (answer : Reply T) (services : List (Service T)) → Stands old
      → answer ≡ reply.FactoryMade (old.made.factories + 1)
      → Fits (more_of factory.node (tally factory.pattern factory.name old.factories)) factory.pattern factory.name old.services phase
      → IsOpened factory.pattern factory.name phase old.services services
      → Stands (entered_state factory phase old answer services)
  entered-stands factory phase old answer services stands told fits opened = elim opened [
    | inl same ↦ subst (λ (it : List (Service T)). Stands (entered_state factory phase old answer it)) (sym same.0)
        (build old.services (λ pattern name off. (stands.fits pattern name).linked) fits.linked stands.apart
        (all-weaker (λ (service : Service T). list_any (λ (entry : ℕ × Factory). is_service_of entry.1 service) old.factories ≡ true)
        (λ (service : Service T). list_any (λ (entry : ℕ × Factory). is_service_of entry.1 service) (with_factory factory old) ≡ true)
        (λ service manned. any-joined (λ (entry : ℕ × Factory). is_service_of entry.1 service) old.factories
        ((old.made.factories + 1, factory) ∷ []) manned) old.services stands.manned)
        (λ entry served is. served is)
        (λ is. subst (λ (b : Bool). list_any (λ (service : Service T). b && bytes_eq service.name factory.name) old.services ≡ true)
        (sym is) (same.1 is)))
    | inr made ↦ subst (λ (it : List (Service T)). Stands (entered_state factory phase old answer it)) (sym made.1)
        (build (old.services ++ new_service factory.name made.0 ∷ [])
        (λ pattern name off. all-joined
        (λ (service : Service T). is_of pattern name service ≡ true
        → Linked (settings.PublishSubscribe service.settings) (old.phases pattern name)) old.services
        (new_service factory.name made.0 ∷ []) (stands.fits pattern name).linked
        (linked-other pattern name factory made.0 (old.phases pattern name) made.3 off, tt))
        (all-joined
        (λ (service : Service T). is_of factory.pattern factory.name service ≡ true
        → Linked (settings.PublishSubscribe service.settings) phase) old.services (new_service factory.name made.0 ∷ []) fits.linked
        ((λ of. made.4), tt))
        (distinct-joined (new_service factory.name made.0) old.services
        (each-false (λ (service : Service T). bytes_eq service.name factory.name) old.services made.2) stands.apart)
        (all-joined (λ (service : Service T). list_any (λ (entry : ℕ × Factory). is_service_of entry.1 service)
        (with_factory factory old) ≡ true) old.services
        (new_service factory.name made.0 ∷ [])
        (all-weaker (λ (service : Service T). list_any (λ (entry : ℕ × Factory). is_service_of entry.1 service) old.factories ≡ true)
        (λ (service : Service T). list_any (λ (entry : ℕ × Factory). is_service_of entry.1 service) (with_factory factory old) ≡ true)
        (λ service manned. any-joined (λ (entry : ℕ × Factory). is_service_of entry.1 service) old.factories
        ((old.made.factories + 1, factory) ∷ []) manned) old.services stands.manned) (
          any-last (λ (entry : ℕ × Factory). is_service_of {T = T} entry.1 (new_service factory.name made.0)) old.factories
              (old.made.factories + 1, factory) (serves made.0 made.3),
          tt,
        ))
        (λ entry served is. any-joined (is_service_of entry.1) old.services (new_service factory.name made.0 ∷ []) (served is))
        (λ is. any-last (is_service_of factory) old.services (new_service factory.name made.0) (serves made.0 made.3)))
  ]
    where
      serves : (c : StaticConfig) → factory.pattern ≡ messaging.PublishSubscribe
          → is_service_of {T = T} factory (new_service factory.name c) ≡ true
      serves c is =
          and-true (same_pattern factory.pattern messaging.PublishSubscribe) (bytes_eq factory.name factory.name)
          (subst (λ (it : MessagingPattern). same_pattern it messaging.PublishSubscribe ≡ true) (sym is) refl) (name-itself factory.name)

      counted-so : (counted answer old.made).factories ≡ old.made.factories + 1
      counted-so = ap (λ (it : Reply T). (counted it old.made).factories) told

      fresh : has (old.made.factories + 1) old.factories ≡ false
      fresh =
          false_from_ne_true (has (old.made.factories + 1) old.factories)
          (λ is. never (stands.below (old.made.factories + 1) is))
        where
          never : old.made.factories + 1 ≤ old.made.factories → ⊥
          never h = omega (arith, h)

      build : (after : List (Service T))
          → ((pattern : MessagingPattern) (name : List ℕ) → (same_pattern pattern factory.pattern && bytes_eq name factory.name) ≡ false
          → AllByRecursion (λ (service : Service T). is_of pattern name service ≡ true
          → Linked (settings.PublishSubscribe service.settings) (old.phases pattern name)) after)
          → AllByRecursion (λ (service : Service T). is_of factory.pattern factory.name service ≡ true
          → Linked (settings.PublishSubscribe service.settings) phase) after
          → AreApart after
          → AllByRecursion (λ (service : Service T). list_any (λ (entry : ℕ × Factory). is_service_of entry.1 service)
          (with_factory factory old) ≡ true) after
          → ((entry : ℕ × Factory)
          → (same_pattern entry.1.pattern messaging.PublishSubscribe ≡ true → list_any (is_service_of entry.1) old.services ≡ true)
          → same_pattern entry.1.pattern messaging.PublishSubscribe ≡ true → list_any (is_service_of entry.1) after ≡ true)
          → (same_pattern factory.pattern messaging.PublishSubscribe ≡ true → list_any (is_service_of factory) after ≡ true)
          → Stands (entered_state factory phase old answer after)
      build after off at_it apart manned served serves_it = record {
        fits = phases-where (λ (one : MessagingPattern) (other : List ℕ) (it : Phase). Fits
            (tally one other (with_factory factory old)) one other after it)
            factory.pattern factory.name phase old
            (λ pattern name is. record {
              counts = counts-same (tally pattern name old.factories) (tally pattern name (with_factory factory old))
                  (λ node. count-off pattern name factory (old.made.factories + 1) node old.factories (at-off pattern name factory is))
                  (old.phases pattern name) (stands.fits pattern name).counts;
              patterned = (stands.fits pattern name).patterned;
              linked = off pattern name is;
            })
            (record {
              counts = counts-same (more_of factory.node (tally factory.pattern factory.name old.factories))
                  (tally factory.pattern factory.name (with_factory factory old))
                  (λ node. count-at factory (old.made.factories + 1) node old.factories) phase fits.counts;
              patterned = fits.patterned;
              linked = at_it;
            });
        numbers = apart-joined (old.made.factories + 1) factory old.factories fresh stands.numbers;
        below = λ number is. elim (joined-has number old.factories ((old.made.factories + 1, factory) ∷ []) is) [
          | inl was ↦ later number (stands.below number was) counted-so
          | inr last ↦ same number (one-has number (old.made.factories + 1) factory last) counted-so
        ];
        apart = apart;
        manned = manned;
        served = all-joined
            (λ (entry : ℕ × Factory). same_pattern entry.1.pattern messaging.PublishSubscribe ≡ true
            → list_any (is_service_of entry.1) after ≡ true) old.factories ((old.made.factories + 1, factory) ∷ [])
            (all-weaker
            (λ (entry : ℕ × Factory). same_pattern entry.1.pattern messaging.PublishSubscribe ≡ true
            → list_any (is_service_of entry.1) old.services ≡ true)
            (λ (entry : ℕ × Factory). same_pattern entry.1.pattern messaging.PublishSubscribe ≡ true
            → list_any (is_service_of entry.1) after ≡ true) served old.factories stands.served)
            (serves_it, tt);
      }
        where
          later : (number : ℕ) → number ≤ old.made.factories → (counted answer old.made).factories ≡ old.made.factories + 1
              → number ≤ (counted answer old.made).factories
          later number h is = omega (arith, h, is)

          same : (number : ℕ) → old.made.factories + 1 ≡ number → (counted answer old.made).factories ≡ old.made.factories + 1
              → number ≤ (counted answer old.made).factories
          same number h is = omega (arith, h, is)

  -- ---- a factory less

  -- whether another factory of the same service is there
  abbrev remains : ℕ → Factory → State T → Bool
  remains number factory old =
      list_any (λ (entry : ℕ × Factory). is_factory_of factory.pattern factory.name entry.1) (removed number old.factories)

  -- the services without that of a factory
  abbrev others : Factory → State T → List (Service T)
  others factory old = filter (λ (service : Service T). not (is_service_of factory service)) old.services

  closing-stands : (number : ℕ) (factory : Factory) (old : State T) → Stands old → at number old.factories ≡ Some factory
      → Stands (record (with_phase factory.pattern factory.name (closed_by factory.node (old.phases factory.pattern factory.name)) old) {
        factories = removed number old.factories;
        services = cond (list_any (λ (entry : ℕ × Factory). same_pattern entry.1.pattern factory.pattern
            && bytes_eq entry.1.name factory.name)
            (removed number old.factories))
            old.services (filter (λ (service : Service T). not (is_service_of factory service)) old.services);
      })
  closing-stands number factory old stands found = here (remains number factory old) refl
    where
      fewer : (pattern : MessagingPattern) (name : List ℕ) (node : ℕ)
          → tally pattern name old.factories node
          ≡ tally pattern name (removed number old.factories) node + one_if (is_factory_of pattern name factory && (factory.node == node))
      fewer pattern name node = tally-removed pattern name number factory node old.factories stands.numbers found

      off-same : (pattern : MessagingPattern) (name : List ℕ) (node : ℕ) → is_factory_of pattern name factory ≡ false
          → tally pattern name old.factories node ≡ tally pattern name (removed number old.factories) node
      off-same pattern name node off = none (is_factory_of pattern name factory) off (fewer pattern name node)
        where
          none : (b : Bool) → b ≡ false
              → tally pattern name old.factories node ≡ tally pattern name (removed number old.factories) node + one_if
              (b && (factory.node == node))
              → tally pattern name old.factories node ≡ tally pattern name (removed number old.factories) node
          none true is e = absurd (true≢false is)
          none false is e = omega (arith, e)

      at-fewer : (node : ℕ) → tally factory.pattern factory.name old.factories node
          ≡ more_of factory.node (tally factory.pattern factory.name (removed number old.factories)) node
      at-fewer node =
          fewer factory.pattern factory.name node
          ∙ ap (λ (b : Bool). tally factory.pattern factory.name (removed number old.factories) node + one_if (b && (factory.node == node)))
          (at-itself factory.pattern factory.name factory refl refl)

      -- who has another factory of the same service is still there
      other-mans : (service : Service T) → (remains number factory old) ≡ true → is_service_of factory service ≡ true
          → list_any (λ (entry : ℕ × Factory). is_service_of entry.1 service) (removed number old.factories) ≡ true
      other-mans service is of =
          any-weaker (λ (entry : ℕ × Factory). is_factory_of factory.pattern factory.name entry.1)
          (λ (entry : ℕ × Factory). is_service_of entry.1 service)
          (λ entry it.
          and-true (same_pattern entry.1.pattern messaging.PublishSubscribe) (bytes_eq service.name entry.1.name)
          (subst (λ (p : MessagingPattern). same_pattern p messaging.PublishSubscribe ≡ true)
          (sym (pattern-is entry.1.pattern factory.pattern
          (both-true (same_pattern entry.1.pattern factory.pattern) (bytes_eq entry.1.name factory.name) it).0))
          (both-true (same_pattern factory.pattern messaging.PublishSubscribe) (bytes_eq service.name factory.name) of).0)
          (subst (λ (n : List ℕ). bytes_eq service.name n ≡ true)
          (sym (name-is entry.1.name factory.name
          (both-true (same_pattern entry.1.pattern factory.pattern) (bytes_eq entry.1.name factory.name) it).1))
          (both-true (same_pattern factory.pattern messaging.PublishSubscribe) (bytes_eq service.name factory.name) of).1))
          (removed number old.factories) is

      manned-on : (service : Service T) → (is_service_of factory service ≡ true → (remains number factory old) ≡ true)
          → list_any (λ (entry : ℕ × Factory). is_service_of entry.1 service) old.factories ≡ true
          → list_any (λ (entry : ℕ × Factory). is_service_of entry.1 service) (removed number old.factories) ≡ true
      manned-on service on manned =
          elim (any-removed (λ (it : Factory). is_service_of it service) number factory old.factories stands.numbers found manned) [
            | inl it ↦ other-mans service (on it) it
            | inr there ↦ there
          ]

      -- the service of another factory isn't that of this one
      apart-from : (entry : ℕ × Factory) (service : Service T) → is_factory_of factory.pattern factory.name entry.1 ≡ false
          → is_service_of entry.1 service ≡ true → not (is_service_of factory service) ≡ true
      apart-from entry service off of = flip (is_service_of factory service) refl
        where
          flip : (b : Bool) → is_service_of factory service ≡ b → not b ≡ true
          flip true is =
              absurd (true≢false (sym (at-itself factory.pattern factory.name entry.1
              (pattern-is entry.1.pattern messaging.PublishSubscribe
              (both-true (same_pattern entry.1.pattern messaging.PublishSubscribe) (bytes_eq service.name entry.1.name) of).0
              ∙ sym (pattern-is factory.pattern messaging.PublishSubscribe
              (both-true (same_pattern factory.pattern messaging.PublishSubscribe) (bytes_eq service.name factory.name) is).0))
              (sym (name-is service.name entry.1.name
              (both-true (same_pattern entry.1.pattern messaging.PublishSubscribe) (bytes_eq service.name entry.1.name) of).1)
              ∙ name-is service.name factory.name
              (both-true (same_pattern factory.pattern messaging.PublishSubscribe) (bytes_eq service.name factory.name) is).1)) ∙ off))
          flip false is = refl

      unless-of : (service : Service T) → not (is_service_of factory service) ≡ true → is_service_of factory service ≡ true
          → (remains number factory old) ≡ true
      unless-of service off is = absurd (true≢false (sym off ∙ ap not is))

      build : (after : List (Service T))
          → ((P : Service T → Type 0) → AllByRecursion P old.services → AllByRecursion P after)
          → AreApart after
          → AllByRecursion (λ (service : Service T). list_any (λ (entry : ℕ × Factory). is_service_of entry.1 service)
          (removed number old.factories) ≡ true) after
          → AllByRecursion (λ (entry : ℕ × Factory). same_pattern entry.1.pattern messaging.PublishSubscribe ≡ true
          → list_any (is_service_of entry.1) after ≡ true) (removed number old.factories)
          → Stands (record (with_phase factory.pattern factory.name
          (closed_by factory.node (old.phases factory.pattern factory.name)) old) {
            factories = (removed number old.factories);
            services = after;
          })
      build after keeps apart manned served = record {
        fits = phases-where (λ (one : MessagingPattern) (other : List ℕ) (it : Phase). Fits
            (tally one other (removed number old.factories)) one other after it)
            factory.pattern factory.name (closed_by factory.node (old.phases factory.pattern factory.name)) old
            (λ pattern name is. record {
              counts = counts-same (tally pattern name old.factories) (tally pattern name (removed number old.factories))
                  (λ node. off-same pattern name node (at-off pattern name factory is)) (old.phases pattern name)
                  (stands.fits pattern name).counts;
              patterned = (stands.fits pattern name).patterned;
              linked = keeps (λ (service : Service T). is_of pattern name service ≡ true
                  → Linked (settings.PublishSubscribe service.settings) (old.phases pattern name)) (stands.fits pattern name).linked;
            })
            (fits-closed (tally factory.pattern factory.name (removed number old.factories))
            (tally factory.pattern factory.name old.factories) factory.pattern
            factory.name after factory.node (old.phases factory.pattern factory.name) at-fewer (record {
              counts = (stands.fits factory.pattern factory.name).counts;
              patterned = (stands.fits factory.pattern factory.name).patterned;
              linked = keeps (λ (service : Service T). is_of factory.pattern factory.name service ≡ true
                  → Linked (settings.PublishSubscribe service.settings) (old.phases factory.pattern factory.name))
                  (stands.fits factory.pattern factory.name).linked;
            }));
        numbers = apart-filtered (λ (entry : ℕ × Factory). not (entry.0 == number)) old.factories stands.numbers;
        below = λ one is. stands.below one (filter-has one (λ (entry : ℕ × Factory). not (entry.0 == number)) old.factories is);
        apart = apart;
        manned = manned;
        served = served;
      }

      here : (b : Bool) → (remains number factory old) ≡ b
          → Stands (record (with_phase factory.pattern factory.name
          (closed_by factory.node (old.phases factory.pattern factory.name)) old) {
            factories = (removed number old.factories);
            services = cond b old.services (others factory old);
          })
      here true is =
          build old.services (λ P all. all) stands.apart
          (all-weaker (λ (service : Service T). list_any (λ (entry : ℕ × Factory). is_service_of entry.1 service) old.factories ≡ true)
          (λ (service : Service T). list_any (λ (entry : ℕ × Factory). is_service_of entry.1 service) (removed number old.factories) ≡ true)
          (λ service manned. manned-on service (λ of. is) manned) old.services stands.manned)
          (all-filtered (λ (entry : ℕ × Factory). same_pattern entry.1.pattern messaging.PublishSubscribe ≡ true
          → list_any (is_service_of entry.1) old.services ≡ true) (λ (entry : ℕ × Factory). not (entry.0 == number)) old.factories
          stands.served)
      here false is =
          build (others factory old) (λ P all. all-filtered P
          (λ (service : Service T). not (is_service_of factory service)) old.services all)
          (distinct-filtered (λ (service : Service T). not (is_service_of factory service)) old.services stands.apart)
          (all-passing (λ (service : Service T). list_any (λ (entry : ℕ × Factory). is_service_of entry.1 service) old.factories ≡ true)
          (λ (service : Service T). list_any (λ (entry : ℕ × Factory). is_service_of entry.1 service) (removed number old.factories) ≡ true)
          (λ (service : Service T). not (is_service_of factory service))
          (λ service off manned. manned-on service (unless-of service off) manned) old.services stands.manned)
          (all-both (λ (entry : ℕ × Factory). is_factory_of factory.pattern factory.name entry.1 ≡ false)
          (λ (entry : ℕ × Factory). same_pattern entry.1.pattern messaging.PublishSubscribe ≡ true
          → list_any (is_service_of entry.1) old.services ≡ true)
          (λ (entry : ℕ × Factory). same_pattern entry.1.pattern messaging.PublishSubscribe ≡ true
          → list_any (is_service_of entry.1) (others factory old) ≡ true)
          (λ entry off served it. any-filtered (is_service_of entry.1) (λ (service : Service T). not (is_service_of factory service))
          (λ service of. apart-from entry service off of) old.services (served it)) (removed number old.factories)
          (each-false (λ (entry : ℕ × Factory). is_factory_of factory.pattern factory.name entry.1) (removed number old.factories) is)
          (all-filtered (λ (entry : ℕ × Factory). same_pattern entry.1.pattern messaging.PublishSubscribe ≡ true
          → list_any (is_service_of entry.1) old.services ≡ true) (λ (entry : ℕ × Factory). not (entry.0 == number)) old.factories
          stands.served))

  -- ---- steps

  module _ (types : MessageTypeDetails) (choices : Choices T) (buffer : ℕ) where
    pub acts-all : (factory : Factory) (old : State T) (stands : Stands old) (steps : List StepBefore)
        → AllByRecursion (λ (before : StepBefore). (phase : Phase)
        → Fits (tally factory.pattern factory.name old.factories) factory.pattern factory.name old.services phase
        → Fits (tally factory.pattern factory.name old.factories) factory.pattern factory.name old.services
        (acted types factory.pattern phase before.step)) steps
    acts-all factory old stands steps =
        each-all (λ (before : StepBefore). (phase : Phase)
        → Fits (tally factory.pattern factory.name old.factories) factory.pattern factory.name old.services phase
        → Fits (tally factory.pattern factory.name old.factories) factory.pattern factory.name old.services
        (acted types factory.pattern phase before.step))
        (λ before phase fits. fits-acted types (tally factory.pattern factory.name old.factories) factory.pattern factory.name old.services
        (manned-of factory.pattern factory.name old stands) phase before.step fits) steps

    -- what a negotiation comes to, where all stands
    abbrev pub Settled : List StepBefore → Factory → (old : State T) → Reply T → State T → Stands old → Type 0
    Settled steps factory old answer new stands =
        IsSettled types steps factory
        (Fits (tally factory.pattern factory.name old.factories) factory.pattern factory.name old.services)
        (Fits (more_of factory.node (tally factory.pattern factory.name old.factories)) factory.pattern factory.name old.services)
        (acts-all factory old stands steps) old answer new (stands.fits factory.pattern factory.name)

    pub create-view : (node : ℕ) (name : List ℕ) (named : ServiceOptions) (attributes : List Attribute) (steps : List StepBefore)
        (old : State T) (answer : Reply T) (new : State T) (stands : Stands old)
        → CreatesService types steps (factory_of node name named) named attributes old answer new
        → Settled steps (factory_of node name named) old answer new stands
    create-view node name named attributes steps old answer new stands h =
        create-settles types steps (factory_of node name named)
        (Fits (tally (pattern_of named) name old.factories) (pattern_of named) name old.services)
        (Fits (more_of node (tally (pattern_of named) name old.factories)) (pattern_of named) name old.services)
        (acts-all (factory_of node name named) old stands steps) old answer new (stands.fits (pattern_of named) name) named attributes
        (fits-lost types (tally (pattern_of named) name old.factories) (pattern_of named) name old.services
        (manned-of (pattern_of named) name old stands))
        (λ lives fits. fits-won types (tally (pattern_of named) name old.factories) (pattern_of named) name old.services
        (manned-of (pattern_of named) name old stands) node lives
        (record { settings = settings_of types named; attributes = attributes }) (settings-pattern types named) fits) h

    pub open-view : (node : ℕ) (name : List ℕ) (named : ServiceOptions) (required : Required) (steps : List StepBefore)
        (old : State T) (answer : Reply T) (new : State T) (stands : Stands old)
        → OpensService types steps (factory_of node name named) named required old answer new
        → Settled steps (factory_of node name named) old answer new stands
    open-view node name named required steps old answer new stands h =
        open-settles types steps (factory_of node name named)
        (Fits (tally (pattern_of named) name old.factories) (pattern_of named) name old.services)
        (Fits (more_of node (tally (pattern_of named) name old.factories)) (pattern_of named) name old.services)
        (acts-all (factory_of node name named) old stands steps) old answer new (stands.fits (pattern_of named) name) named required
        (λ life agreed nodes room. fits-entered types (tally (pattern_of named) name old.factories) (pattern_of named) name old.services
        (manned-of (pattern_of named) name old stands) node life agreed nodes) h

    pub either-view : (node : ℕ) (name : List ℕ) (named : ServiceOptions) (required : Required) (steps : List StepBefore)
        (old : State T) (answer : Reply T) (new : State T) (stands : Stands old)
        → OpensOrCreatesService types steps (factory_of node name named) named required old answer new
        → Settled steps (factory_of node name named) old answer new stands
    either-view node name named required steps old answer new stands h =
        either-settles types steps (factory_of node name named)
        (Fits (tally (pattern_of named) name old.factories) (pattern_of named) name old.services)
        (Fits (more_of node (tally (pattern_of named) name old.factories)) (pattern_of named) name old.services)
        (acts-all (factory_of node name named) old stands steps) old answer new (stands.fits (pattern_of named) name) named required
        (λ life agreed nodes room. fits-entered types (tally (pattern_of named) name old.factories) (pattern_of named) name old.services
        (manned-of (pattern_of named) name old stands) node life agreed nodes)
        (fits-lost types (tally (pattern_of named) name old.factories) (pattern_of named) name old.services
        (manned-of (pattern_of named) name old stands))
        (λ lives fits. fits-won types (tally (pattern_of named) name old.factories) (pattern_of named) name old.services
        (manned-of (pattern_of named) name old stands) node lives
        (record { settings = settings_of types named; attributes = required.pairs }) (settings-pattern types named) fits) h

    settled : (steps : List StepBefore) (factory : Factory) (old : State T) (answer : Reply T) (new : State T) (stands : Stands old)
        → Settled steps factory old answer new stands → Stands new
    settled steps factory old answer new stands (inl skipped) = subst (λ (it : State T). Stands it) (sym skipped.1) stands
    settled steps factory old answer new stands (inr (inl (why, refused))) = subst (λ (it : State T). Stands it) (sym refused.1) stands
    settled steps factory old answer new stands (inr (inr (inl (phase, why, fits, refused)))) =
        subst (λ (it : State T). Stands it) (sym refused.1) (phase-stands factory.pattern factory.name phase old stands fits)
    settled steps factory old answer new stands (inr (inr (inr (inl (phase, why, fits, refused))))) =
        subst (λ (it : State T). Stands it) (sym refused.1)
        (phase-stands factory.pattern factory.name (closed_by factory.node phase) old stands
        (fits-closed (tally factory.pattern factory.name old.factories)
        (more_of factory.node (tally factory.pattern factory.name old.factories)) factory.pattern factory.name old.services factory.node
        phase (λ m. refl) fits))
    settled steps factory old answer new stands (inr (inr (inr (inr (phase, fits, told, came))))) =
        subst (λ (it : State T). Stands it) (sym came)
        (entered-stands factory phase old answer (with_open factory.name phase old.services) stands told fits
        (opened-so factory.pattern factory.name old.services (more_of factory.node (tally factory.pattern factory.name old.factories))
        factory.node phase (one (factory.node == factory.node) (eq-eqb factory.node factory.node refl)) fits))
      where
        one : (b : Bool) → b ≡ true → 1 ≤ tally factory.pattern factory.name old.factories factory.node + one_if b
        one true is = omega arith
        one false is = absurd (true≢false (sym is))

    pub step-stands : (asked : Command T) (old : State T) (answer : Reply T) (new : State T)
        → Step types choices buffer asked old answer new
        → Stands old → Stands new
    step-stands command.Node old answer new (inl (told, came)) stands =
        subst (λ (it : State T). Stands it) (sym came) (record {
          fits = stands.fits;
          numbers = stands.numbers;
          below = λ number is. subst (λ (n : ℕ). number ≤ n) (sym (ap (λ (it : Reply T). (counted it old.made).factories) told))
              (stands.below number is);
          apart = stands.apart;
          manned = stands.manned;
          served = stands.served;
        })
    step-stands command.Node old answer new (inr refused) stands = subst (λ (it : State T). Stands it) (sym refused.1) stands
    step-stands (command.Create node name named attributes steps) old answer new h stands =
        settled steps (factory_of node name named) old answer new stands
        (create-view node name named attributes steps old answer new stands h)
    step-stands (command.Open node name named required steps) old answer new h stands =
        settled steps (factory_of node name named) old answer new stands
        (open-view node name named required steps old answer new stands h)
    step-stands (command.OpenOrCreate node name named required steps) old answer new h stands =
        settled steps (factory_of node name named) old answer new stands
        (either-view node name named required steps old answer new stands h)
    step-stands (command.Foreign pattern name steps) old answer new (inl (told, came)) stands =
        subst (λ (it : State T). Stands it) (sym came)
        (phase-stands pattern name (fold (acted types pattern) (old.phases pattern name) steps) old stands
        (fold-all (Fits (tally pattern name old.factories) pattern name old.services) (acted types pattern) steps
        (each-all (λ (one : ForeignStep). (phase : Phase) → Fits (tally pattern name old.factories) pattern name old.services phase
        → Fits (tally pattern name old.factories) pattern name old.services (acted types pattern phase one))
        (λ one phase fits. fits-acted types (tally pattern name old.factories) pattern name old.services (manned-of pattern name old stands)
        phase one fits) steps) (old.phases pattern name) (stands.fits pattern name)))
    step-stands (command.Foreign pattern name steps) old answer new (inr (done, few, refused)) stands =
        subst (λ (it : State T). Stands it) (sym refused.1)
        (phase-stands pattern name (fold (acted types pattern) (old.phases pattern name) (take done steps)) old stands
        (fold-all (Fits (tally pattern name old.factories) pattern name old.services) (acted types pattern) (take done steps)
        (each-all (λ (one : ForeignStep). (phase : Phase) → Fits (tally pattern name old.factories) pattern name old.services phase
        → Fits (tally pattern name old.factories) pattern name old.services (acted types pattern phase one))
        (λ one phase fits. fits-acted types (tally pattern name old.factories) pattern name old.services (manned-of pattern name old stands)
        phase one fits) (take done steps)) (old.phases pattern name) (stands.fits pattern name)))
    step-stands (command.Close number) old answer new h stands = elim (closed number old answer new h) [
      | inl skipped ↦ subst (λ (it : State T). Stands it) (sym skipped.1) stands
      | inr more ↦ elim more [
        | inl refused ↦ subst (λ (it : State T). Stands it) (sym refused.1) stands
        | inr w ↦ subst (λ (it : State T). Stands it) (sym w.4) (closing-stands number w.0 old stands w.1)
      ]
    ]
    step-stands asked old answer new h stands =
        moved-stands asked old answer new stands (ports-move types choices buffer asked old answer new refl h)

    pub runs-stand : (asked : List (Command T)) (old : State T) (answers : List (Reply T)) (new : State T)
        → Runs types choices buffer asked old answers new → Stands old → Stands new
    runs-stand [] old answers new run stands = subst (λ (it : State T). Stands it) (sym run.1) stands
    runs-stand (one ∷ more) old answers new run stands =
        runs-stand more run.1 run.2 new run.4 (step-stands one old run.0 run.1 run.3 stands)

  pub new-stands : Stands {T = T} new_state
  unfolding IsDistinct
  new-stands = record {
    fits = λ pattern name. record {
      counts = λ node. refl;
      patterned = λ agreed is. never-some agreed is;
      linked = tt;
    };
    numbers = tt;
    below = λ number is. absurd (true≢false (sym is));
    apart = tt;
    manned = tt;
    served = tt;
  }

  -- ---- what is agreed on

  agreed-so : (state : State T) → Stands state → AllByRecursion (IsAgreed state) state.services
  agreed-so state stands =
      all-both
      (λ (service : Service T). (name : List ℕ) → is_of messaging.PublishSubscribe name service ≡ true
      → Linked (settings.PublishSubscribe service.settings) (state.phases messaging.PublishSubscribe name))
      (λ (service : Service T). list_any (λ (entry : ℕ × Factory). is_service_of entry.1 service) state.factories ≡ true)
      (IsAgreed state) so state.services
      (all-swapped (λ (name : List ℕ) (service : Service T). is_of messaging.PublishSubscribe name service ≡ true
      → Linked (settings.PublishSubscribe service.settings) (state.phases messaging.PublishSubscribe name)) state.services
      (λ name. (stands.fits messaging.PublishSubscribe name).linked)) stands.manned
    where
      so : (service : Service T)
          → ((name : List ℕ) → is_of messaging.PublishSubscribe name service ≡ true
          → Linked (settings.PublishSubscribe service.settings) (state.phases messaging.PublishSubscribe name))
          → list_any (λ (entry : ℕ × Factory). is_service_of entry.1 service) state.factories ≡ true → IsAgreed state service
      so service linked manned =
          let some : (node : ℕ) × (1 ≤ tally messaging.PublishSubscribe service.name state.factories node) =
          tally-some messaging.PublishSubscribe service.name service state.factories (name-itself service.name) manned in
          let is : IsPublished (state.phases messaging.PublishSubscribe service.name) (λ agreed nodes. 1 ≤ share (Own some.0) nodes) =
          published-so (tally messaging.PublishSubscribe service.name state.factories) some.0
          (state.phases messaging.PublishSubscribe service.name) (stands.fits messaging.PublishSubscribe service.name).counts some.1 in
          ((is.0, is.1, is.2, is.3, linked service.name (name-itself service.name) is.1 (ap agreed_in is.3)), manned)

  in-so : (state : State T) → Stands state → AllByRecursion (λ (entry : ℕ × Factory). IsIn state entry.1) state.factories
  in-so state stands =
      all-both (λ (entry : ℕ × Factory). 1 ≤ tally entry.1.pattern entry.1.name state.factories entry.1.node)
      (λ (entry : ℕ × Factory). same_pattern entry.1.pattern messaging.PublishSubscribe ≡ true
      → list_any (is_service_of entry.1) state.services ≡ true) (λ (entry : ℕ × Factory). IsIn state entry.1)
      (λ entry one served. so entry.1 one served) state.factories (each-tally state.factories) stands.served
    where
      so : (factory : Factory) → 1 ≤ tally factory.pattern factory.name state.factories factory.node
          → (same_pattern factory.pattern messaging.PublishSubscribe ≡ true
          → list_any (is_service_of factory) state.services ≡ true) → IsIn state factory
      so factory one served =
          let is : IsPublished (state.phases factory.pattern factory.name) (λ agreed nodes. 1 ≤ share (Own factory.node) nodes) =
          published-so (tally factory.pattern factory.name state.factories) factory.node (state.phases factory.pattern factory.name)
          (stands.fits factory.pattern factory.name).counts one in (
            (is.0, is.1, is.2, is.3, in-share (Own factory.node) is.2 is.4),
            λ same. served (subst (λ (it : MessagingPattern). same_pattern it messaging.PublishSubscribe ≡ true) (sym same) refl),
          )

pub one-agreement : {T : Type 0} (choices : Choices T) → OneAgreement choices
one-agreement choices types buffer asked answers new run =
    let stands : Stands new = runs-stand types choices buffer asked new_state answers new run new-stands in
    (stands.apart, agreed-so new stands, in-so new stands)
