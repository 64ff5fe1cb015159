-- What is asked of one service leaves each other one as it was.
use Rattle.std.proofs.Common.{◌≡◌, ◌≤◌, ◌+◌, ℕ, Bool, true, false, cond, not, ◌&&◌, List, [], ◌∷◌, ◌++◌, Option, Some, refl, sym, ap}
use Rattle.std.proofs.Common.{subst, inl, inr, arith, ◌∙◌, true≢false}
use Rattle.std.proofs.lemmas.Bool.{eqb-true, eq-eqb, false_from_ne_true}
use Rattle.std.specs.List.{list_any}
use Rattle.std.specs.Option.{option_map_or}
use Rattle.std.specs.Prelude.{◌==◌, find, filter, fold, take, option_map, bytes_eq}
use Rattle.iox_machine.specs.Choices.{Choices}
use Rattle.iox_machine.specs.Factories.{with_open}
use Rattle.iox_machine.specs.IndependenceLaws.{is_factory_of, is_of, asks, AsksNothing, IsLeft, OthersAreLeft}
use Rattle.iox_machine.specs.Phase.{Phase, same_pattern, acted}
use Rattle.iox_machine.proofs.Shorthands.{closed_by, factory_of}
use Rattle.iox_machine.specs.Run.{Step, Runs}
use Rattle.iox_machine.specs.Service.{Service, new_service}
use Rattle.iox_machine.specs.State.{State, Factory, new_state, with_phase, replaced, is_service_of}
use Rattle.iox_machine.specs.Table.{at, removed}
use Rattle.iox_machine.proofs.Agreed.{Settled, create-view, open-view, either-view, new-stands, step-stands, runs-stand}
use Rattle.iox_machine.proofs.Cases.{same-some}
use Rattle.iox_machine.proofs.Counts.{has, one_if}
use Rattle.iox_machine.proofs.Moving.{IsClosed, closed}
use Rattle.iox_machine.proofs.Names.{at-off, service-at, and-true, name-itself}
use Rattle.iox_machine.proofs.Ported.{IsBeside, ports-move}
use Rattle.iox_machine.proofs.Shares.{more_of}
use Rattle.iox_machine.proofs.Standing.{Apart, removed-none, tally}
use Rattle.iox_machine.proofs.Stands.{Stands, IsOpened, opened-so}
use Rattle.iox_command.specs.NegotiateBase.DescribeBase.declared.message_type.MessageTypeDetails.{MessageTypeDetails}
use Rattle.iox_command.specs.NegotiateBase.DescribeBase.declared.pattern.MessagingPattern.{MessagingPattern}
use Rattle.iox_command.specs.NegotiateBase.DescribeBase.declared.pattern.MessagingPattern.TheVariants as messaging
use Rattle.iox_command.specs.NegotiateBase.DescribeSettings.declared.static_config.publish_subscribe.StaticConfig.{StaticConfig}
use Rattle.iox_command.specs.declared.command.Command.{Command}
use Rattle.iox_command.specs.declared.command.Command.TheVariants as command
use Rattle.iox_command.specs.declared.reply.Reply.{Reply}
use Rattle.iox_command.specs.declared.step.StepBefore.{StepBefore}

-- ---- lists

pub filter-joined-off : {X : Type 0} (test : X → Bool) (xs : List X) (x : X) → test x ≡ false → filter test (xs ++ x ∷ []) ≡ filter test xs
filter-joined-off {X} test [] x off = ap (λ (b : Bool). cond b (x ∷ []) []) off
filter-joined-off {X} test (y ∷ xs) x off =
    ap (λ (rest : List X). cond (test y) (y ∷ rest) rest) (filter-joined-off test xs x off)

pub filter-twice : {X : Type 0} (test keeps : X → Bool) → ((x : X) → test x ≡ true → keeps x ≡ true) → (xs : List X)
    → filter test (filter keeps xs) ≡ filter test xs
filter-twice test keeps on [] = refl
filter-twice {X} test keeps on (x ∷ xs) = here (test x) (keeps x) refl refl (filter-twice test keeps on xs)
  where
    here : (b c : Bool) → test x ≡ b → keeps x ≡ c → filter test (filter keeps xs) ≡ filter test xs
        → filter test (cond c (x ∷ filter keeps xs) (filter keeps xs)) ≡ cond (test x) (x ∷ filter test xs) (filter test xs)
    here b true is kept rest = ap (λ (ys : List X). cond (test x) (x ∷ ys) ys) rest
    here true false is kept rest = absurd (true≢false (sym (on x is) ∙ kept))
    here false false is kept rest = rest ∙ sym (ap (λ (it : Bool). cond it (x ∷ filter test xs) (filter test xs)) is)

pub filter-removed-off : (test : Factory → Bool) (number : ℕ) (factory : Factory) (table : List (ℕ × Factory)) → Apart table
    → at number table ≡ Some factory → test factory ≡ false
    → filter (λ (entry : ℕ × Factory). test entry.1) (removed number table) ≡ filter (λ (entry : ℕ × Factory). test entry.1) table
filter-removed-off test number factory [] apart found off = refl
filter-removed-off test number factory (entry ∷ more) apart found off =
    here (entry.0 == number) refl found (filter-removed-off test number factory more apart.1)
  where
    here : (b : Bool) → (entry.0 == number) ≡ b
        → option_map (λ (e : ℕ × Factory). e.1)
        (cond b (Some entry) (find (λ (other : ℕ × Factory). other.0 == number) more)) ≡ Some factory
        → (at number more ≡ Some factory → test factory ≡ false
        → filter (λ (it : ℕ × Factory). test it.1) (removed number more) ≡ filter (λ (it : ℕ × Factory). test it.1) more)
        → filter (λ (it : ℕ × Factory). test it.1) (cond (not b) (entry ∷ removed number more) (removed number more))
        ≡ cond (test entry.1) (entry ∷ filter (λ (it : ℕ × Factory). test it.1) more) (filter (λ (it : ℕ × Factory). test it.1) more)
    here true same found on =
        ap (λ (rest : List (ℕ × Factory)). filter (λ (it : ℕ × Factory). test it.1) rest)
        (removed-none number more (subst (λ (n : ℕ). has n more ≡ false) (eqb-true entry.0 number same) apart.0))
        ∙ sym (ap (λ (b : Bool). cond b (entry ∷ filter (λ (it : ℕ × Factory). test it.1) more)
        (filter (λ (it : ℕ × Factory). test it.1) more)) (ap test (same-some entry.1 factory found) ∙ off))
    here false same found on =
        ap (λ (rest : List (ℕ × Factory)). cond (test entry.1) (entry ∷ rest) rest) (on found off)

pub filter-replaced-off : {T : Type 0} (test : List ℕ → Bool) (has_it : Service T → Bool) (service after : Service T)
    (services : List (Service T))
    → after.name ≡ service.name → find has_it services ≡ Some service → test service.name ≡ false
    → filter (λ (it : Service T). test it.name) (replaced has_it after services) ≡ filter (λ (it : Service T). test it.name) services
filter-replaced-off test has_it service after [] same first off = refl
filter-replaced-off {T} test has_it service after (one ∷ more) same first off =
    here (has_it one) first (filter-replaced-off test has_it service after more same)
  where
    here : (b : Bool) → cond b (Some one) (find has_it more) ≡ Some service
        → (find has_it more ≡ Some service → test service.name ≡ false
        → filter (λ (it : Service T). test it.name) (replaced has_it after more) ≡ filter (λ (it : Service T). test it.name) more)
        → filter (λ (it : Service T). test it.name) (cond b (after ∷ more) (one ∷ replaced has_it after more))
        ≡ cond (test one.name) (one ∷ filter (λ (it : Service T). test it.name) more) (filter (λ (it : Service T). test it.name) more)
    here true found on =
        ap (λ (b : Bool). cond b (after ∷ filter (λ (it : Service T). test it.name) more) (filter (λ (it : Service T). test it.name) more))
        (ap test same ∙ off)
        ∙ sym (ap (λ (b : Bool). cond b (one ∷ filter (λ (it : Service T). test it.name) more)
        (filter (λ (it : Service T). test it.name) more))
        (ap (λ (it : Service T). test it.name) (same-some one service found) ∙ off))
    here false found on =
        ap (λ (rest : List (Service T)). cond (test one.name) (one ∷ rest) rest) (on found off)

-- ---- what is left

module _ {T : Type 0} (pattern : MessagingPattern) (name : List ℕ) where
  left-itself : (old new : State T) → new ≡ old → IsLeft pattern name old new
  left-itself old new same = subst (λ (it : State T). IsLeft pattern name old it) (sym same) (refl, refl, refl)

  -- another phase under another name
  phase-off : (one : MessagingPattern) (other : List ℕ) (phase : Phase) (state : State T)
      → (same_pattern one pattern && bytes_eq other name) ≡ false
      → (with_phase one other phase state).phases pattern name ≡ state.phases pattern name
  phase-off one other phase state off =
      ap (λ (b : Bool). cond b phase (state.phases pattern name))
      (at-off one other (record { pattern = pattern; name = name; node = 0 }) off)

  moved-left : (asked : Command T) (old : State T) (answer : Reply T) (new : State T) → asks pattern name asked old ≡ false
      → IsBeside asked old answer new → IsLeft pattern name old new
  moved-left asked old answer new off (inl skipped) = left-itself old new skipped.1
  moved-left asked old answer new off (inr (has_it, service, after, first, kept, beside, came)) =
      subst (λ (it : State T). IsLeft pattern name old it) (sym came) (
        refl,
        refl,
        filter-replaced-off (λ (n : List ℕ). same_pattern pattern messaging.PublishSubscribe && bytes_eq n name) has_it service after
            old.services kept.name first (beside pattern name off),
      )

  -- a service that opens isn't of another pattern or name
  opened-off : (factory : Factory) (phase : Phase) (old opened : List (Service T)) → is_factory_of pattern name factory ≡ false
      → IsOpened factory.pattern factory.name phase old opened → filter (is_of pattern name) opened ≡ filter (is_of pattern name) old
  opened-off factory phase old opened off (inl same) = ap (filter (is_of pattern name)) same.0
  opened-off factory phase old opened off (inr made) =
      ap (filter (is_of pattern name)) made.1
      ∙ filter-joined-off (is_of pattern name) old (new_service factory.name made.0)
      (false_from_ne_true (is_of {T = T} pattern name (new_service factory.name made.0))
      (λ is. true≢false (sym (service-at pattern name (new_service {T = T} factory.name made.0) factory is (serves made.0 made.3)) ∙ off)))
    where
      serves : (c : StaticConfig) → factory.pattern ≡ messaging.PublishSubscribe
          → is_service_of factory (new_service {T = T} factory.name c) ≡ true
      serves c is = and-true (same_pattern factory.pattern messaging.PublishSubscribe)
          (bytes_eq factory.name factory.name)
          (subst (λ (it : MessagingPattern). same_pattern it messaging.PublishSubscribe ≡ true) (sym is) refl)
          (name-itself factory.name)

  module _ (types : MessageTypeDetails) (choices : Choices T) (buffer : ℕ) where
    settled-left : (steps : List StepBefore) (factory : Factory) (old : State T) (answer : Reply T) (new : State T) (stands : Stands old)
        → is_factory_of pattern name factory ≡ false → Settled types choices buffer steps factory old answer new stands
        → IsLeft pattern name old new
    settled-left steps factory old answer new stands off (inl skipped) = left-itself old new skipped.1
    settled-left steps factory old answer new stands off (inr (inl (why, refused))) = left-itself old new refused.1
    settled-left steps factory old answer new stands off (inr (inr (inl (phase, why, fits, refused)))) =
        subst (λ (it : State T). IsLeft pattern name old it) (sym refused.1)
        (phase-off factory.pattern factory.name phase old off, refl, refl)
    settled-left steps factory old answer new stands off (inr (inr (inr (inl (phase, why, fits, refused))))) =
        subst (λ (it : State T). IsLeft pattern name old it) (sym refused.1)
        (phase-off factory.pattern factory.name (closed_by factory.node phase) old off, refl, refl)
    settled-left steps factory old answer new stands off (inr (inr (inr (inr (phase, fits, told, came))))) =
        subst (λ (it : State T). IsLeft pattern name old it) (sym came) (
          phase-off factory.pattern factory.name phase old off,
          filter-joined-off (λ (entry : ℕ × Factory). is_factory_of pattern name entry.1) old.factories (old.made.factories + 1, factory)
              off,
          opened-off factory phase old.services (with_open factory.name phase old.services) off
              (opened-so factory.pattern factory.name old.services
              (more_of factory.node (tally factory.pattern factory.name old.factories)) factory.node phase
              (one (factory.node == factory.node) (eq-eqb factory.node factory.node refl)) fits),
        )
      where
        one : (b : Bool) → b ≡ true → 1 ≤ tally factory.pattern factory.name old.factories factory.node + one_if b
        one true is = omega arith
        one false is = absurd (true≢false (sym is))

    closing-left : (number : ℕ) (old : State T) (answer : Reply T) (new : State T) → Stands old
        → asks pattern name (command.Close number) old ≡ false → IsClosed number old answer new → IsLeft pattern name old new
    closing-left number old answer new stands off (inl skipped) = left-itself old new skipped.1
    closing-left number old answer new stands off (inr (inl refused)) = left-itself old new refused.1
    closing-left number old answer new stands off (inr (inr (factory, found, unused, told, came))) =
        subst (λ (it : State T). IsLeft pattern name old it) (sym came) (
          phase-off factory.pattern factory.name (closed_by factory.node (old.phases factory.pattern factory.name)) old other,
          filter-removed-off (is_factory_of pattern name) number factory old.factories stands.numbers found other,
          either (list_any (λ (entry : ℕ × Factory). same_pattern entry.1.pattern factory.pattern && bytes_eq entry.1.name factory.name)
              (removed number old.factories)),
        )
      where
        other : is_factory_of pattern name factory ≡ false
        other = sym (ap (λ (o : Option Factory). option_map_or (is_factory_of pattern name) o false) found) ∙ off

        stays : (service : Service T) → is_of pattern name service ≡ true → not (is_service_of factory service) ≡ true
        stays service is =
            ap not (false_from_ne_true (is_service_of factory service)
            (λ of. true≢false (sym (service-at pattern name service factory is of) ∙ other)))

        either : (b : Bool)
            → filter (is_of pattern name)
            (cond b old.services (filter (λ (service : Service T). not (is_service_of factory service)) old.services))
            ≡ filter (is_of pattern name) old.services
        either true = refl
        either false =
            filter-twice (is_of pattern name) (λ (service : Service T). not (is_service_of factory service)) stays old.services

    pub step-left : (asked : Command T) (old : State T) (answer : Reply T) (new : State T) → Stands old
        → Step types choices buffer asked old answer new → asks pattern name asked old ≡ false → IsLeft pattern name old new
    step-left command.Node old answer new stands (inl (told, came)) off =
        subst (λ (it : State T). IsLeft pattern name old it) (sym came) (refl, refl, refl)
    step-left command.Node old answer new stands (inr refused) off = left-itself old new refused.1
    step-left (command.Create node other named attributes steps) old answer new stands h off =
        settled-left steps (factory_of node other named) old answer new stands off
        (create-view types choices buffer node other named attributes steps old answer new stands h)
    step-left (command.Open node other named required steps) old answer new stands h off =
        settled-left steps (factory_of node other named) old answer new stands off
        (open-view types choices buffer node other named required steps old answer new stands h)
    step-left (command.OpenOrCreate node other named required steps) old answer new stands h off =
        settled-left steps (factory_of node other named) old answer new stands off
        (either-view types choices buffer node other named required steps old answer new stands h)
    step-left (command.Foreign one other steps) old answer new stands (inl (told, came)) off =
        subst (λ (it : State T). IsLeft pattern name old it) (sym came)
        (phase-off one other (fold (acted types one) (old.phases one other) steps) old off, refl, refl)
    step-left (command.Foreign one other steps) old answer new stands (inr (done, few, refused)) off =
        subst (λ (it : State T). IsLeft pattern name old it) (sym refused.1)
        (phase-off one other (fold (acted types one) (old.phases one other) (take done steps)) old off, refl, refl)
    step-left (command.Close factory) old answer new stands h off =
        closing-left factory old answer new stands off (closed factory old answer new h)
    step-left asked old answer new stands h off =
        moved-left asked old answer new off (ports-move types choices buffer asked old answer new refl h)

runs-left : {T : Type 0} (pattern : MessagingPattern) (name : List ℕ) (types : MessageTypeDetails) (choices : Choices T) (buffer : ℕ)
    (asked : List (Command T)) (old : State T) (answers : List (Reply T)) (new : State T)
    (run : Runs types choices buffer asked old answers new) → Stands old
    → AsksNothing types choices buffer pattern name asked old answers new run → IsLeft pattern name old new
runs-left pattern name types choices buffer [] old answers new run stands none = left-itself pattern name old new run.1
runs-left pattern name types choices buffer (one ∷ more) old answers new run stands none =
    let first : IsLeft pattern name old run.1 =
    step-left pattern name types choices buffer one old run.0 run.1 stands run.3 none.0 in
    let rest : IsLeft pattern name run.1 new =
    runs-left pattern name types choices buffer more run.1 run.2 new run.4
    (step-stands types choices buffer one old run.0 run.1 run.3 stands) none.1 in
    (rest.0 ∙ first.0, rest.1 ∙ first.1, rest.2 ∙ first.2)

pub others-left : {T : Type 0} (choices : Choices T) → OthersAreLeft choices
others-left choices types buffer before told old ran asked answers new run pattern name none =
    runs-left pattern name types choices buffer asked old answers new run
    (runs-stand types choices buffer before new_state told old ran new-stands) none
