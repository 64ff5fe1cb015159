-- The numbers that replies tell are counted on, and what goes by a number is one thing.
use Rattle.std.proofs.Common.{◌≡◌, ◌≤◌, ◌+◌, ℕ, Bool, true, false, cond, ◌&&◌, ◌||◌, List, [], ◌∷◌, ◌++◌, Option, None, Some, refl, sym}
use Rattle.std.proofs.Common.{ap, subst, inl, inr, arith, ◌∙◌, true≢false}
use Rattle.std.proofs.lemmas.Bool.{eqb-true, eq-eqb, false_from_ne_true}
use Rattle.std.specs.List.{AllByRecursion, IsDistinct, cons_option, list_any}
use Rattle.std.specs.Prelude.{◌==◌, not, filter, filter_map, find, flat_map, fold, take, bytes_eq}
use Rattle.iox_machine.specs.Choices.{Choices}
use Rattle.iox_machine.specs.Factories.{with_open}
use Rattle.iox_machine.specs.Message.{Loan, Sample}
use Rattle.iox_machine.specs.NumberLaws.{GoOn, AreToldOnce, NumbersGoUp, NumbersNameOne, numbers_in, node_told, factory_told}
use Rattle.iox_machine.specs.NumberLaws.{publisher_told, subscriber_told, loan_told, sample_told}
use Rattle.iox_machine.specs.Phase.{Phase, Absent, BeingMade, Published, Emptied, acted, same_pattern}
use Rattle.iox_machine.proofs.Shorthands.{closed_by, factory_of}
use Rattle.iox_machine.specs.Run.{Step, Runs}
use Rattle.iox_machine.specs.Service.{Service, Publisher, Subscriber, new_service}
use Rattle.iox_machine.specs.State.{State, Made, Factory, new_state, counted, is_service_of, replaced, with_phase}
use Rattle.iox_machine.specs.Table.{contains, removed}
use Rattle.iox_machine.proofs.Cases.{same-some, never-some}
use Rattle.iox_machine.proofs.Counts.{Adds, adds-itself, adds-filtered, adds-joined, times, of_told, one_if, behind, never-one}
use Rattle.iox_machine.proofs.Kept.{IsNext, port-next}
use Rattle.iox_machine.proofs.Moving.{IsNegotiated, IsClosed, creates, opens, opens-or-creates, closed}
use Rattle.iox_machine.proofs.Ported.{IsBeside, ports-move}
use Rattle.iox_command.specs.NegotiateBase.DescribeBase.declared.message_type.MessageTypeDetails.{MessageTypeDetails}
use Rattle.iox_command.specs.NegotiateBase.DescribeSettings.declared.static_config.Settings.{Settings}
use Rattle.iox_command.specs.NegotiateBase.DescribeSettings.declared.static_config.Settings.TheVariants as settings
use Rattle.iox_command.specs.NegotiateBase.DescribeSettings.declared.static_config.publish_subscribe.StaticConfig.{StaticConfig}
use Rattle.iox_command.specs.NegotiateBase.declared.errors.close.CloseError.TheVariants.{StillInUse}
use Rattle.iox_command.specs.declared.command.Command.{Command}
use Rattle.iox_command.specs.declared.command.Command.TheVariants as command
use Rattle.iox_command.specs.declared.refusal.HubError.TheVariants.{OutOfMemory}
use Rattle.iox_command.specs.declared.refusal.Refusal.TheVariants as refusal
use Rattle.iox_command.specs.declared.reply.Reply.{Reply}
use Rattle.iox_command.specs.declared.reply.Reply.TheVariants as reply

pub times-append : (number : ℕ) (xs ys : List ℕ) → times number (xs ++ ys) ≡ times number xs + times number ys
times-append number [] ys = none (times number ys)
  where
    none : (x : ℕ) → x ≡ 0 + x
    none x = omega arith
times-append number (x ∷ xs) ys =
    behind (one_if (x == number)) (times number (xs ++ ys)) (times number xs) (times number ys) (times-append number xs ys)

-- ---- what stands in all services

module _ {T V : Type 0} (table : Service T → List (ℕ × V)) where
  -- the numbers by which something goes in a table of some service
  abbrev pub standing : List (Service T) → List ℕ
  standing services = flat_map (λ (service : Service T). numbers_in (table service)) services

  standing-replaced : (number : ℕ) (e : ℕ) (has_it : Service T → Bool) (service after : Service T) (services : List (Service T))
      → find has_it services ≡ Some service
      → times number (numbers_in (table after)) ≤ times number (numbers_in (table service)) + e
      → times number (standing (replaced has_it after services)) ≤ times number (standing services) + e
  standing-replaced number e has_it service after [] first few = never-some service first
  standing-replaced number e has_it service after (other ∷ more) first few =
      here (has_it other) first (λ found. standing-replaced number e has_it service after more found few)
    where
      first-grows : (a b r x y e : ℕ) → x ≡ a + r → y ≡ b + r → a ≤ b + e → x ≤ y + e
      first-grows a b r x y e p q h = omega (arith, p, q, h)

      rest-grows : (a r s x y e : ℕ) → x ≡ a + r → y ≡ a + s → r ≤ s + e → x ≤ y + e
      rest-grows a r s x y e p q h = omega (arith, p, q, h)

      here : (b : Bool) → cond b (Some other) (find has_it more) ≡ Some service
          → (find has_it more ≡ Some service → times number (standing (replaced has_it after more)) ≤ times number (standing more) + e)
          → times number (standing (cond b (after ∷ more) (other ∷ replaced has_it after more)))
          ≤ times number (standing (other ∷ more)) + e
      here true found on =
          first-grows (times number (numbers_in (table after))) (times number (numbers_in (table other))) (times number (standing more))
          (times number (standing (after ∷ more))) (times number (standing (other ∷ more))) e
          (times-append number (numbers_in (table after)) (standing more))
          (times-append number (numbers_in (table other)) (standing more))
          (subst (λ (it : Service T). times number (numbers_in (table after)) ≤ times number (numbers_in (table it)) + e)
          (sym (same-some other service found)) few)
      here false found on =
          rest-grows (times number (numbers_in (table other))) (times number (standing (replaced has_it after more)))
          (times number (standing more)) (times number (standing (other ∷ replaced has_it after more)))
          (times number (standing (other ∷ more))) e
          (times-append number (numbers_in (table other)) (standing (replaced has_it after more)))
          (times-append number (numbers_in (table other)) (standing more)) (on found)

  standing-filtered : (number : ℕ) (test : Service T → Bool) (services : List (Service T))
      → times number (standing (filter test services)) ≤ times number (standing services)
  standing-filtered number test [] = omega arith
  standing-filtered number test (one ∷ more) = here (test one) (standing-filtered number test more)
    where
      keeps : (a r s x y : ℕ) → x ≡ a + r → y ≡ a + s → r ≤ s → x ≤ y
      keeps a r s x y p q h = omega (arith, p, q, h)

      drops : (a r s y : ℕ) → y ≡ a + s → r ≤ s → r ≤ y
      drops a r s y q h = omega (arith, q, h)

      here : (b : Bool) → times number (standing (filter test more)) ≤ times number (standing more)
          → times number (standing (cond b (one ∷ filter test more) (filter test more))) ≤ times number (standing (one ∷ more))
      here true on =
          keeps (times number (numbers_in (table one))) (times number (standing (filter test more))) (times number (standing more))
          (times number (standing (one ∷ filter test more))) (times number (standing (one ∷ more)))
          (times-append number (numbers_in (table one)) (standing (filter test more)))
          (times-append number (numbers_in (table one)) (standing more)) on
      here false on =
          drops (times number (numbers_in (table one))) (times number (standing (filter test more))) (times number (standing more))
          (times number (standing (one ∷ more))) (times-append number (numbers_in (table one)) (standing more)) on

  standing-more : (number : ℕ) (one : Service T) (services : List (Service T)) → table one ≡ []
      → times number (standing (services ++ one ∷ [])) ≤ times number (standing services)
  standing-more number one [] none =
      subst (λ (it : List (ℕ × V)). times number (numbers_in it ++ []) ≤ 0) (sym none) (omega arith)
  standing-more number one (other ∷ more) none =
      joins (times number (numbers_in (table other))) (times number (standing (more ++ one ∷ []))) (times number (standing more))
      (times number (standing (other ∷ more ++ one ∷ []))) (times number (standing (other ∷ more)))
      (times-append number (numbers_in (table other)) (standing (more ++ one ∷ [])))
      (times-append number (numbers_in (table other)) (standing more)) (standing-more number one more none)
    where
      joins : (a r s x y : ℕ) → x ≡ a + r → y ≡ a + s → r ≤ s → x ≤ y
      joins a r s x y p q h = omega (arith, p, q, h)

  standing-open : (number : ℕ) (name : List ℕ) (phase : Phase) (services : List (Service T))
      → ((c : StaticConfig) → table (new_service name c) ≡ [])
      → times number (standing (with_open name phase services)) ≤ times number (standing services)
  standing-open number name (Absent lives) services none = omega arith
  standing-open number name (BeingMade life by) services none = omega arith
  standing-open number name (Emptied life agreed by) services none = omega arith
  standing-open number name (Published life agreed nodes) services none = here agreed.settings
    where
      made : (c : StaticConfig) (b : Bool)
          → times number (standing (cond b services (services ++ new_service name c ∷ []))) ≤ times number (standing services)
      made c true = omega arith
      made c false = standing-more number (new_service name c) services (none c)

      here : (s : Settings) → times number (standing (elim s [
        | settings.PublishSubscribe c ↦ cond (list_any (λ (service : Service T). bytes_eq service.name name) services) services
            (services ++ new_service name c ∷ [])
        | settings.Event c ↦ services
        | settings.RequestResponse c ↦ services
      ])) ≤ times number (standing services)
      here (settings.PublishSubscribe c) = made c (list_any (λ (service : Service T). bytes_eq service.name name) services)
      here (settings.Event c) = omega arith
      here (settings.RequestResponse c) = omega arith

-- ---- a step

wider : (x y e : ℕ) → x ≤ y → x ≤ y + e
wider x y e h = omega (arith, h)

-- how what was made last goes on, where a reply tells a number
abbrev IsNextOf : Option ℕ → ℕ → ℕ → Type 0
IsNextOf None low high = high ≡ low
IsNextOf (Some number) low high = (number ≡ low + 1) × (high ≡ low + 1)

one-goes-on : (o : Option ℕ) (low high : ℕ) (rest : List ℕ) → IsNextOf o low high → GoOn high rest → GoOn low (cons_option o rest)
one-goes-on None low high rest is on = subst (λ (n : ℕ). GoOn n rest) is on
one-goes-on (Some number) low high rest is on = (is.0, subst (λ (n : ℕ). GoOn n rest) (is.1 ∙ sym is.0) on)

module _ {T : Type 0} where
  -- So much more stands in a table of some service than before.
  abbrev pub Grows : {V : Type 0} → (Service T → List (ℕ × V)) → Option ℕ → List (Service T) → List (Service T) → Type 0
  Grows {V} table told old new = (number : ℕ)
      → times number (standing table new) ≤ times number (standing table old) + of_told told number

  -- What a step does to all that goes by numbers: no more goes by one, but for what the reply tells, and that is the next one.
  pub record Passes (old : State T) (answer : Reply T) (new : State T) : Type 0 where
    pub next : IsNext old.made answer
    pub made : new.made ≡ counted answer old.made
    pub factories : Adds old.factories (factory_told answer) new.factories
    pub publishers : Grows (λ service. service.publishers) (publisher_told answer) old.services new.services
    pub subscribers : Grows (λ service. service.subscribers) (subscriber_told answer) old.services new.services
    pub loans : Grows (λ service. service.loans) (loan_told answer) old.services new.services
    pub samples : Grows (λ service. service.samples) (sample_told answer) old.services new.services

  -- where services, if they change at all, end or begin without anything
  passes : (told : Reply T) (old mid new : State T) (answer : Reply T) → answer ≡ told → new ≡ mid → IsNext old.made told
      → mid.made ≡ counted told old.made → Adds old.factories (factory_told told) mid.factories
      → ((V : Type 0) (table : Service T → List (ℕ × V)) → ((name : List ℕ) (c : StaticConfig) → table (new_service name c) ≡ [])
      → (number : ℕ) → times number (standing table mid.services) ≤ times number (standing table old.services))
      → Passes old answer new
  passes told old mid new answer said came next made factories fewer =
      subst (λ (it : Reply T). Passes old it new) (sym said) (subst (λ (it : State T). Passes old told it) (sym came) (record {
        next = next;
        made = made;
        factories = factories;
        publishers = λ number. wider (times number (standing (λ (service : Service T). service.publishers) mid.services))
            (times number (standing (λ (service : Service T). service.publishers) old.services)) (of_told (publisher_told told) number)
            (fewer (Publisher T) (λ (service : Service T). service.publishers) (λ name c. refl) number);
        subscribers = λ number. wider (times number (standing (λ (service : Service T). service.subscribers) mid.services))
            (times number (standing (λ (service : Service T). service.subscribers) old.services)) (of_told (subscriber_told told) number)
            (fewer Subscriber (λ (service : Service T). service.subscribers) (λ name c. refl) number);
        loans = λ number. wider (times number (standing (λ (service : Service T). service.loans) mid.services))
            (times number (standing (λ (service : Service T). service.loans) old.services)) (of_told (loan_told told) number)
            (fewer (Loan T) (λ (service : Service T). service.loans) (λ name c. refl) number);
        samples = λ number. wider (times number (standing (λ (service : Service T). service.samples) mid.services))
            (times number (standing (λ (service : Service T). service.samples) old.services)) (of_told (sample_told told) number)
            (fewer (Sample T) (λ (service : Service T). service.samples) (λ name c. refl) number);
      }))

  -- where only phases change, and what was made
  rests : (told : Reply T) (old mid new : State T) (answer : Reply T) → (answer ≡ told) × (new ≡ mid) → IsNext old.made told
      → mid.made ≡ counted told old.made → factory_told told ≡ None → mid.factories ≡ old.factories → mid.services ≡ old.services
      → Passes old answer new
  rests told old mid new answer h next made untold factories services =
      passes told old mid new answer h.0 h.1 next made
      (subst (λ (o : Option ℕ). Adds old.factories o mid.factories) (sym untold)
      (subst (λ (it : List (ℕ × Factory)). Adds old.factories None it) (sym factories) (adds-itself old.factories)))
      (λ V table none number. subst
      (λ (it : List (Service T)). times number (standing table it) ≤ times number (standing table old.services)) (sym services)
      (omega arith))

  beside : (asked : Command T) (old : State T) (answer : Reply T) (new : State T) → IsBeside asked old answer new → Passes old answer new
  beside asked old answer new (inl skipped) = rests reply.Skipped old old new answer skipped tt refl refl refl refl
  beside asked old answer new (inr (has_it, service, after, first, kept, off, came)) =
      subst (λ (it : State T). Passes old answer it) (sym came) (record {
        next = port-next old.made answer kept.next;
        made = refl;
        factories = λ number. wider (times number (numbers_in old.factories)) (times number (numbers_in old.factories))
            (of_told (factory_told answer) number) (omega arith);
        publishers = λ number. standing-replaced (λ (it : Service T). it.publishers) number (of_told (publisher_told answer) number) has_it
            service after old.services first (kept.publishers number);
        subscribers = λ number. standing-replaced (λ (it : Service T). it.subscribers) number (of_told (subscriber_told answer) number)
            has_it service after old.services first (kept.subscribers number);
        loans = λ number. standing-replaced (λ (it : Service T). it.loans) number (of_told (loan_told answer) number) has_it service after
            old.services first (kept.loans number);
        samples = λ number. standing-replaced (λ (it : Service T). it.samples) number (of_told (sample_told answer) number) has_it service
            after old.services first (kept.samples number);
      })

  negotiating : (factory : Factory) (old : State T) (answer : Reply T) (new : State T) → IsNegotiated factory old answer new
      → Passes old answer new
  negotiating factory old answer new (inl skipped) = rests reply.Skipped old old new answer skipped tt refl refl refl refl
  negotiating factory old answer new (inr (inl (why, refused))) =
      rests (reply.Refused why) old old new answer refused tt refl refl refl refl
  negotiating factory old answer new (inr (inr (inl (phase, why, refused)))) =
      rests (reply.Refused why) old (with_phase factory.pattern factory.name phase old) new answer refused tt refl refl refl refl
  negotiating factory old answer new (inr (inr (inr (phase, told, came)))) =
      passes (reply.FactoryMade (old.made.factories + 1)) old (record (with_phase factory.pattern factory.name phase old) {
        made = counted answer old.made;
        factories = old.factories ++ (old.made.factories + 1, factory) ∷ [];
        services = with_open factory.name phase old.services;
      }) new answer told came refl (ap (λ (it : Reply T). counted it old.made) told)
      (adds-joined old.factories old.factories (adds-itself old.factories) (old.made.factories + 1) factory)
      (λ V table none number. standing-open table number factory.name phase old.services (none factory.name))

  closing : (number : ℕ) (old : State T) (answer : Reply T) (new : State T) → IsClosed number old answer new → Passes old answer new
  closing number old answer new (inl skipped) = rests reply.Skipped old old new answer skipped tt refl refl refl refl
  closing number old answer new (inr (inl refused)) =
      rests (reply.Refused (refusal.Close StillInUse)) old old new answer refused tt refl refl refl refl
  closing number old answer new (inr (inr (factory, found, unused, told, came))) =
      passes reply.Done old (record (with_phase factory.pattern factory.name
      (closed_by factory.node (old.phases factory.pattern factory.name)) old) {
        factories = removed number old.factories;
        services = cond (list_any (λ (entry : ℕ × Factory). same_pattern entry.1.pattern factory.pattern
            && bytes_eq entry.1.name factory.name)
            (removed number old.factories))
            old.services (filter (λ (service : Service T). not (is_service_of factory service)) old.services);
      }) new answer told came tt refl
      (adds-filtered old.factories old.factories None (adds-itself old.factories) (λ (entry : ℕ × Factory). not (entry.0 == number)))
      (λ V table none one. fewer table one
      (list_any (λ (entry : ℕ × Factory). same_pattern entry.1.pattern factory.pattern && bytes_eq entry.1.name factory.name)
      (removed number old.factories)))
    where
      fewer : {V : Type 0} (table : Service T → List (ℕ × V)) (one : ℕ) (b : Bool)
          → times one (standing table
          (cond b old.services (filter (λ (service : Service T). not (is_service_of factory service)) old.services)))
          ≤ times one (standing table old.services)
      fewer table one true = omega arith
      fewer table one false = standing-filtered table one (λ (service : Service T). not (is_service_of factory service)) old.services

  node-on : (made : Made) (answer : Reply T) → IsNext made answer → IsNextOf (node_told answer) made.nodes (counted answer made).nodes
  node-on made (reply.NodeMade number) next = (next, refl)
  node-on made other next = refl

  factory-on : (made : Made) (answer : Reply T) → IsNext made answer
      → IsNextOf (factory_told answer) made.factories (counted answer made).factories
  factory-on made (reply.FactoryMade number) next = (next, refl)
  factory-on made other next = refl

  publisher-on : (made : Made) (answer : Reply T) → IsNext made answer
      → IsNextOf (publisher_told answer) made.publishers (counted answer made).publishers
  publisher-on made (reply.PublisherMade number) next = (next, refl)
  publisher-on made other next = refl

  subscriber-on : (made : Made) (answer : Reply T) → IsNext made answer
      → IsNextOf (subscriber_told answer) made.subscribers (counted answer made).subscribers
  subscriber-on made (reply.SubscriberMade number) next = (next, refl)
  subscriber-on made other next = refl

  loan-on : (made : Made) (answer : Reply T) → IsNext made answer → IsNextOf (loan_told answer) made.loans (counted answer made).loans
  loan-on made (reply.LoanMade number) next = (next, refl)
  loan-on made other next = refl

  sample-on : (made : Made) (answer : Reply T) → IsNext made answer
      → IsNextOf (sample_told answer) made.samples (counted answer made).samples
  sample-on made (reply.Received number values) next = (next, refl)
  sample-on made other next = refl

  module _ (types : MessageTypeDetails) (choices : Choices T) (buffer : ℕ) where
    pub step-passes : (asked : Command T) (old : State T) (answer : Reply T) (new : State T)
        → Step types choices buffer asked old answer new
        → Passes old answer new
    step-passes command.Node old answer new (inl (told, came)) =
        rests (reply.NodeMade (old.made.nodes + 1)) old (record old { made = counted answer old.made }) new answer (told, came) refl
        (ap (λ (it : Reply T). counted it old.made) told) refl refl refl
    step-passes command.Node old answer new (inr refused) =
        rests (reply.Refused (refusal.Hub OutOfMemory)) old old new answer refused tt refl refl refl refl
    step-passes (command.Create node name options attributes steps) old answer new h =
        negotiating (factory_of node name options) old answer new
        (creates types steps (factory_of node name options) old answer new options attributes h)
    step-passes (command.Open node name options required steps) old answer new h =
        negotiating (factory_of node name options) old answer new
        (opens types steps (factory_of node name options) old answer new options required h)
    step-passes (command.OpenOrCreate node name options required steps) old answer new h =
        negotiating (factory_of node name options) old answer new
        (opens-or-creates types steps (factory_of node name options) old answer new options required h)
    step-passes (command.Foreign pattern name steps) old answer new (inl h) =
        rests reply.Done old (with_phase pattern name (fold (acted types pattern) (old.phases pattern name) steps) old) new answer h tt refl
        refl refl refl
    step-passes (command.Foreign pattern name steps) old answer new (inr (done, few, refused)) =
        rests (reply.Refused (refusal.Hub OutOfMemory)) old
        (with_phase pattern name (fold (acted types pattern) (old.phases pattern name) (take done steps)) old) new answer refused tt refl
        refl refl refl
    step-passes (command.Close factory) old answer new h = closing factory old answer new (closed factory old answer new h)
    step-passes asked old answer new h = beside asked old answer new (ports-move types choices buffer asked old answer new refl h)

    -- ---- a run

    run-goes-on : (last : Made → ℕ) (told : Reply T → Option ℕ)
        → ((made : Made) (answer : Reply T) → IsNext made answer → IsNextOf (told answer) (last made) (last (counted answer made)))
        → (asked : List (Command T)) (old : State T) (answers : List (Reply T)) (new : State T)
        → Runs types choices buffer asked old answers new → GoOn (last old.made) (filter_map told answers)
    run-goes-on last told on [] old answers new run =
        subst (λ (it : List (Reply T)). GoOn (last old.made) (filter_map told it)) (sym run.0) tt
    run-goes-on last told on (one ∷ more) old answers new run =
        subst (λ (it : List (Reply T)). GoOn (last old.made) (filter_map told it)) (sym run.5)
        (one-goes-on (told run.0) (last old.made) (last run.1.made) (filter_map told run.2)
        (subst (λ (made : Made). IsNextOf (told run.0) (last old.made) (last made)) (sym it.made) (on old.made run.0 it.next))
        (run-goes-on last told on more run.1 run.2 new run.4))
      where
        it : Passes old run.0 run.1
        it = step-passes one old run.0 run.1 run.3

    run-adds : (of : State T → List ℕ) (told : Reply T → Option ℕ)
        → ((old : State T) (answer : Reply T) (new : State T) → Passes old answer new
        → (number : ℕ) → times number (of new) ≤ times number (of old) + of_told (told answer) number)
        → (asked : List (Command T)) (old : State T) (answers : List (Reply T)) (new : State T)
        → Runs types choices buffer asked old answers new
        → (number : ℕ) → times number (of new) ≤ times number (of old) + times number (filter_map told answers)
    run-adds of told on [] old answers new run number =
        subst (λ (it : State T). times number (of it) ≤ times number (of old) + times number (filter_map told answers)) (sym run.1)
        (wider (times number (of old)) (times number (of old)) (times number (filter_map told answers)) (omega arith))
    run-adds of told on (one ∷ more) old answers new run number =
        subst (λ (it : List (Reply T)). times number (of new) ≤ times number (of old) + times number (filter_map told it)) (sym run.5)
        (both (times number (of old)) (times number (of run.1)) (times number (of new)) (of_told (told run.0) number)
        (times number (filter_map told run.2)) (times number (cons_option (told run.0) (filter_map told run.2)))
        (on old run.0 run.1 (step-passes one old run.0 run.1 run.3) number)
        (run-adds of told on more run.1 run.2 new run.4 number) (one-told (told run.0)))
      where
        both : (x y z e r s : ℕ) → y ≤ x + e → z ≤ y + r → s ≡ e + r → z ≤ x + s
        both x y z e r s h k is = omega (arith, h, k, is)

        one-told : (o : Option ℕ) → times number (cons_option o (filter_map told run.2))
            ≡ of_told o number + times number (filter_map told run.2)
        one-told None = omega arith
        one-told (Some n) = refl

-- ---- numbers that go on from one are told once

above : (last : ℕ) (xs : List ℕ) → GoOn last xs → (number : ℕ) → number ≤ last → times number xs ≤ 0
above last [] on number low = omega arith
above last (x ∷ xs) on number low =
    here (x == number) refl (above x xs on.1 number (under number last x low on.0))
  where
    under : (n l y : ℕ) → n ≤ l → y ≡ l + 1 → n ≤ y
    under n l y h is = omega (arith, h, is)

    off : (n l y : ℕ) → n ≤ l → y ≡ l + 1 → y ≡ n → ⊥
    off n l y h is same = omega (arith, h, is, same)

    here : (b : Bool) → (x == number) ≡ b → times number xs ≤ 0 → one_if b + times number xs ≤ 0
    here true is none = absurd (off number last x low on.0 (eqb-true x number is))
    here false is none = plus (times number xs) none
      where
        plus : (y : ℕ) → y ≤ 0 → 0 + y ≤ 0
        plus y h = omega (arith, h)

pub told-once : (last : ℕ) (xs : List ℕ) → GoOn last xs → (number : ℕ) → times number xs ≤ 1
told-once last [] on number = omega arith
told-once last (x ∷ xs) on number = here (x == number) refl (told-once x xs on.1 number)
  where
    plus : (a y e : ℕ) → y ≤ e → a + y ≤ a + e
    plus a y e h = omega (arith, h)

    same : (n y : ℕ) → y ≡ n → n ≤ y
    same n y is = omega (arith, is)

    here : (b : Bool) → (x == number) ≡ b → times number xs ≤ 1 → one_if b + times number xs ≤ 1
    here true is one = plus 1 (times number xs) 0 (above x xs on.1 number (same number x (eqb-true x number is)))
    here false is one = plus 0 (times number xs) 1 one

none-same : (x : ℕ) (ys : List ℕ) → times x ys ≤ 0 → AllByRecursion (λ (y : ℕ). (x == y) ≡ false) ys
none-same x [] none = tt
none-same x (y ∷ ys) none = (
  false_from_ne_true (x == y) (λ is. here (y == x) (eq-eqb y x (sym (eqb-true x y is))) none),
  none-same x ys (rest (one_if (y == x)) (times x ys) none),
)
  where
    rest : (a r : ℕ) → a + r ≤ 0 → r ≤ 0
    rest a r h = omega (arith, h)

    more : (r : ℕ) → 1 + r ≤ 0 → ⊥
    more r h = omega (arith, h)

    here : (b : Bool) → b ≡ true → one_if b + times x ys ≤ 0 → ⊥
    here true is h = more (times x ys) h
    here false is h = true≢false (sym is)

pub distinct : (xs : List ℕ) → ((number : ℕ) → times number xs ≤ 1) → IsDistinct (λ one other. one == other) xs
unfolding IsDistinct
distinct [] once = tt
distinct (x ∷ xs) once = (
  none-same x xs (here (x == x) (eq-eqb x x refl) (once x)),
  distinct xs (λ number. rest (one_if (x == number)) (times number xs) (once number)),
)
  where
    rest : (a r : ℕ) → a + r ≤ 1 → r ≤ 1
    rest a r h = omega (arith, h)

    one : (r : ℕ) → 1 + r ≤ 1 → r ≤ 0
    one r h = omega (arith, h)

    here : (b : Bool) → b ≡ true → one_if b + times x xs ≤ 1 → times x xs ≤ 0
    here true is h = one (times x xs) h
    here false is h = absurd (true≢false (sym is))

contained : (number : ℕ) (told : List ℕ) → 1 ≤ times number told → contains told number ≡ true
contained number [] h = never-one h
contained number (x ∷ xs) h = here (x == number) h (contained number xs)
  where
    here : (b : Bool) → 1 ≤ one_if b + times number xs → (1 ≤ times number xs → contains xs number ≡ true)
        → (b || contains xs number) ≡ true
    here true h on = refl
    here false h on = on (omega (arith, h))

each-told : (told xs : List ℕ) → ((number : ℕ) → times number xs ≤ times number told)
    → AllByRecursion (λ (number : ℕ). contains told number ≡ true) xs
each-told told [] few = tt
each-told told (x ∷ xs) few = (
  contained x told (here (x == x) (eq-eqb x x refl) (few x)),
  each-told told xs (λ number. rest (one_if (x == number)) (times number xs) (times number told) (few number)),
)
  where
    rest : (a r t : ℕ) → a + r ≤ t → r ≤ t
    rest a r t h = omega (arith, h)

    here : (b : Bool) → b ≡ true → one_if b + times x xs ≤ times x told → 1 ≤ times x told
    here true is h = first (times x xs) (times x told) h
      where
        first : (r t : ℕ) → 1 + r ≤ t → 1 ≤ t
        first r t h = omega (arith, h)
    here false is h = absurd (true≢false (sym is))

pub once-each : (told xs : List ℕ) → GoOn 0 told → ((number : ℕ) → times number xs ≤ 0 + times number told) → AreToldOnce told xs
once-each told xs on few = (
  distinct xs (λ number. within (times number xs) (times number told) (few number) (told-once 0 told on number)),
  each-told told xs (λ number. plain (times number xs) (times number told) (few number)),
)
  where
    within : (x t : ℕ) → x ≤ 0 + t → t ≤ 1 → x ≤ 1
    within x t h k = omega (arith, h, k)

    plain : (x t : ℕ) → x ≤ 0 + t → x ≤ t
    plain x t h = omega (arith, h)

-- ---- the laws

pub numbers-go-up : {T : Type 0} (choices : Choices T) → NumbersGoUp choices
numbers-go-up {T} choices types buffer asked answers new run = (
  run-goes-on types choices buffer (λ made. made.nodes) node_told node-on asked new_state answers new run,
  run-goes-on types choices buffer (λ made. made.factories) factory_told factory-on asked new_state answers new run,
  run-goes-on types choices buffer (λ made. made.publishers) publisher_told publisher-on asked new_state answers new run,
  run-goes-on types choices buffer (λ made. made.subscribers) subscriber_told subscriber-on asked new_state answers new run,
  run-goes-on types choices buffer (λ made. made.loans) loan_told loan-on asked new_state answers new run,
  run-goes-on types choices buffer (λ made. made.samples) sample_told sample-on asked new_state answers new run,
)

pub numbers-name-one : {T : Type 0} (choices : Choices T) → NumbersNameOne choices
numbers-name-one {T} choices types buffer asked answers new run =
    let on = numbers-go-up choices types buffer asked answers new run in (
      once-each (filter_map factory_told answers) (numbers_in new.factories) on.1
          (run-adds types choices buffer (λ (state : State T). numbers_in state.factories) factory_told
          (λ old answer next it. it.factories) asked new_state answers new run),
      once-each (filter_map publisher_told answers) (standing (λ (service : Service T). service.publishers) new.services) on.2
          (run-adds types choices buffer (λ (state : State T). standing (λ (service : Service T). service.publishers) state.services)
          publisher_told (λ old answer next it. it.publishers) asked new_state answers new run),
      once-each (filter_map subscriber_told answers) (standing (λ (service : Service T). service.subscribers) new.services) on.3
          (run-adds types choices buffer (λ (state : State T). standing (λ (service : Service T). service.subscribers) state.services)
          subscriber_told (λ old answer next it. it.subscribers) asked new_state answers new run),
      once-each (filter_map loan_told answers) (standing (λ (service : Service T). service.loans) new.services) on.4
          (run-adds types choices buffer (λ (state : State T). standing (λ (service : Service T). service.loans) state.services)
          loan_told (λ old answer next it. it.loans) asked new_state answers new run),
      once-each (filter_map sample_told answers) (standing (λ (service : Service T). service.samples) new.services) on.5
          (run-adds types choices buffer (λ (state : State T). standing (λ (service : Service T). service.samples) state.services)
          sample_told (λ old answer next it. it.samples) asked new_state answers new run),
    )
