-- What a step does to the services of the hub, seen from each of them.
use Rattle.std.proofs.Common.{◌≡◌, ◌⊎◌, ◌+◌, ℕ, Bool, true, false, cond, ◌&&◌, List, [], ◌∷◌, ◌++◌, Option, Some, Result, Ok, Err, sym}
use Rattle.std.proofs.Common.{ap, subst, inl, inr, ◌∙◌}
use Rattle.std.specs.List.{AllByRecursion, list_any}
use Rattle.std.specs.Prelude.{nat_le, is_some, find, filter, not, MatchBool, MatchOption, MatchResult, bytes_eq}
use Rattle.iox_machine.specs.Agreement.{verdict}
use Rattle.iox_machine.specs.Asked.{settings_of}
use Rattle.iox_machine.specs.Closing.{Closes, is_used_by}
use Rattle.iox_machine.specs.Factories.{Negotiates, Enters, CreatesService, OpensService, OpensOrCreatesService, with_open}
use Rattle.iox_machine.specs.Negotiation.{Call, Answer, Creates}
use Rattle.iox_machine.specs.Phase.{Own, Phase, Absent, BeingMade, Published, Emptied, same_pattern}
use Rattle.iox_machine.proofs.Shorthands.{IsSkipped, IsRefused, closed_by, either_lacking, Opens, OpensOrCreates}
use Rattle.iox_machine.specs.Service.{Service, new_service}
use Rattle.iox_machine.specs.Refusals.{open_refusal, either_refusal, create_refusal}
use Rattle.iox_machine.specs.State.{State, Factory, AtOne, replaced, counted, with_phase, is_service_of}
use Rattle.iox_machine.specs.Table.{at, removed}
use Rattle.iox_machine.proofs.Cases.{by-bool, by-option, same-some, never-some}
use Rattle.iox_machine.proofs.Unfit.{by-fitness}
use Rattle.iox_machine.proofs.Lists.{all-weaker, all-joined, all-filtered}
use Rattle.iox_command.specs.NegotiateBase.DescribeBase.Attributes.{Required}
use Rattle.iox_command.specs.NegotiateBase.DescribeBase.declared.attribute.Attribute.{Attribute}
use Rattle.iox_command.specs.NegotiateBase.DescribeBase.declared.message_type.MessageTypeDetails.{MessageTypeDetails}
use Rattle.iox_command.specs.NegotiateBase.DescribeSettings.declared.static_config.Settings.{Settings}
use Rattle.iox_command.specs.NegotiateBase.DescribeSettings.declared.static_config.Settings.TheVariants as settings
use Rattle.iox_command.specs.NegotiateBase.DescribeSettings.declared.static_config.publish_subscribe.StaticConfig.{StaticConfig}
use Rattle.iox_command.specs.NegotiateBase.declared.failure.CreateFailure.TheVariants as uncreated
use Rattle.iox_command.specs.NegotiateBase.declared.failure.OpenFailure.TheVariants as unopened
use Rattle.iox_command.specs.NegotiateBase.declared.errors.close.CloseError.TheVariants.{StillInUse}
use Rattle.iox_command.specs.declared.refusal.Refusal.{Refusal}
use Rattle.iox_command.specs.declared.refusal.Refusal.TheVariants as refusal
use Rattle.iox_command.specs.declared.reply.Reply.{Reply}
use Rattle.iox_command.specs.declared.reply.Reply.TheVariants as reply
use Rattle.iox_command.specs.declared.service.ServiceOptions.{ServiceOptions}
use Rattle.iox_command.specs.declared.step.StepBefore.{StepBefore}

module _ {T : Type 0} where
  -- ---- one service

  -- A command does something at the first service that has what it names.
  abbrev pub IsDone : {V : Type 0} → (Service T → Option V) → (V → Service T → Reply T → Service T → Type 0) → State T → Reply T → State T
      → Type 0
  IsDone {V} found Does old answer new =
      (service : Service T) × (one : V) × (after : Service T) ×
      (find (λ (other : Service T). is_some (found other)) old.services ≡ Some service)
      × (found service ≡ Some one) × Does one service answer after
      × (new ≡ record old {
        made = counted answer old.made;
        services = replaced
            (λ (other : Service T). is_some (found other)) after old.services;
      })

  pub at-one : {V : Type 0} (found : Service T → Option V) (Does : V → Service T → Reply T → Service T → Type 0) (old : State T)
      (answer : Reply T)
      (new : State T) → AtOne found Does old answer new → IsSkipped old answer new ⊎ IsDone found Does old answer new
  at-one found Does old answer new h =
      elim (by-option (find (λ (other : Service T). is_some (found other)) old.services) (IsSkipped old answer new)
      (λ service. (after : Service T) × MatchOption (found service) ⊥ (λ one. Does one service answer after)
      × (new ≡ record old {
        made = counted answer old.made;
        services = replaced
            (λ (other : Service T). is_some (found other)) after old.services;
      })) h) [
        | inl w ↦ inl w.1
        | inr w ↦ inr (does w.0 w.1 w.2.0 w.2.1 w.2.2)
      ]
    where
      does : (service : Service T) → find (λ (other : Service T). is_some (found other)) old.services ≡ Some service → (after : Service T)
          → MatchOption (found service) ⊥ (λ one. Does one service answer after)
          → new ≡ record old {
            made = counted answer old.made;
            services = replaced
                (λ (other : Service T). is_some (found other)) after old.services;
          }
          → IsDone found Does old answer new
      does service first after did came =
          elim (by-option (found service) ⊥ (λ one. Does one service answer after) did) [
            | inl w ↦ absurd w.1
            | inr w ↦ (service, w.0, after, first, w.1, w.2, came)
          ]

  pub replaced-same : (has : Service T → Bool) (service : Service T) (services : List (Service T)) → find has services ≡ Some service
      → replaced has service services ≡ services
  replaced-same has service [] first = never-some service first
  replaced-same has service (other ∷ more) first = same (has other) first (replaced-same has service more)
    where
      same : (b : Bool) → cond b (Some other) (find has more) ≡ Some service →
          (find has more ≡ Some service → replaced has service more ≡ more)
          → cond b (service ∷ more) (other ∷ replaced has service more) ≡ other ∷ more
      same true first on = ap (λ (it : Service T). it ∷ more) (sym (same-some other service first))
      same false first on = ap (λ (rest : List (Service T)). other ∷ rest) (on first)

  pub replaced-keeps : (P Q : Service T → Type 0) (has : Service T → Bool) (service after : Service T) (services : List (Service T))
      → ((it : Service T) → P it → Q it) → (P service → Q after) → find has services ≡ Some service → AllByRecursion P services
      → AllByRecursion Q (replaced has after services)
  replaced-keeps P Q has service after [] weaker on first all = tt
  replaced-keeps P Q has service after (other ∷ more) weaker on first all =
      keeps (has other) first (λ found. replaced-keeps P Q has service after more weaker on found all.1)
    where
      keeps : (b : Bool) → cond b (Some other) (find has more) ≡ Some service
          → (find has more ≡ Some service → AllByRecursion Q (replaced has after more))
          → AllByRecursion Q (cond b (after ∷ more) (other ∷ replaced has after more))
      keeps true first rest = (on (subst P (same-some other service first) all.0), all-weaker P Q weaker more all.1)
      keeps false first rest = (weaker other all.0, rest first)

  skipped-made : (old : State T) (answer : Reply T) (new : State T) → IsSkipped old answer new → new.made ≡ counted answer old.made
  skipped-made old answer new h = ap (λ (state : State T). state.made) h.1 ∙ ap (λ (told : Reply T). counted told old.made) (sym h.0)

  pub refused-made : (why : Refusal) (old : State T) (answer : Reply T) (new : State T) → IsRefused why old answer new
      → new.made ≡ counted answer old.made
  refused-made why old answer new h = ap (λ (state : State T). state.made) h.1 ∙ ap (λ (told : Reply T). counted told old.made) (sym h.0)

  -- All services are such after a step, and one value more was made if the reply tells one.
  abbrev pub Keeps : (Service T → Type 0) → State T → Reply T → State T → Type 0
  Keeps Q old answer new = AllByRecursion Q new.services × (new.made ≡ counted answer old.made)

  pub skipped-keeps : (Q : Service T → Type 0) (old : State T) (answer : Reply T) (new : State T) → IsSkipped old answer new
      → AllByRecursion Q old.services → Keeps Q old answer new
  skipped-keeps Q old answer new h all =
      (subst (λ (state : State T). AllByRecursion Q state.services) (sym h.1) all, skipped-made old answer new h)

  pub refused-keeps : (Q : Service T → Type 0) (why : Refusal) (old : State T) (answer : Reply T) (new : State T)
      → IsRefused why old answer new
      → AllByRecursion Q old.services → Keeps Q old answer new
  refused-keeps Q why old answer new h all =
      (subst (λ (state : State T). AllByRecursion Q state.services) (sym h.1) all, refused-made why old answer new h)

  -- ---- a negotiation

  -- What a negotiation comes to: it is skipped or refused, with another phase of the service at most; or its node has a factory.
  abbrev pub IsNegotiated : Factory → State T → Reply T → State T → Type 0
  IsNegotiated factory old answer new =
      IsSkipped old answer new
      ⊎ (((why : Refusal) × IsRefused why old answer new)
      ⊎ (((phase : Phase) × (why : Refusal) × IsRefused why (with_phase factory.pattern factory.name phase old) answer new)
      ⊎ ((phase : Phase) × (answer ≡ reply.FactoryMade (old.made.factories + 1))
      × (new ≡ record (with_phase factory.pattern factory.name phase old) {
        made = counted answer old.made;
        factories = old.factories ++ (old.made.factories + 1, factory) ∷ [];
        services = with_open factory.name phase old.services;
      }))))

  entered : (factory : Factory) (phase : Phase) (lacking : Refusal) (old : State T) (answer : Reply T) (new : State T)
      → Enters factory phase lacking old answer new → IsNegotiated factory old answer new
  entered factory phase lacking old answer new (inl (told, came)) = inr (inr (inr (phase, told, came)))
  entered factory phase lacking old answer new (inr refused) = inr (inr (inl (closed_by factory.node phase, lacking, refused)))

  pub negotiated : {F : Type 0} (Calls : Call → Answer F → Call → Type 0) (told : F → Refusal) (lacking : Bool → F) (factory : Factory)
      (old : State T)
      (answer : Reply T) (new : State T) → Negotiates Calls told lacking factory old answer new → IsNegotiated factory old answer new
  negotiated {F} Calls told lacking factory old answer new h =
      elim (by-bool (nat_le 1 factory.node && nat_le factory.node old.made.nodes)
      (IsRefused (told (lacking false)) old answer new
      ⊎ ((found : Result Bool F) × (after : Call)
      × Calls (record { phase = old.phases factory.pattern factory.name; accesses = 0 }) (Some found) after
      × MatchResult found
      (λ is_new. Enters factory after.phase (told (lacking is_new)) old answer new)
      (λ failure. IsRefused (told failure) (with_phase factory.pattern factory.name after.phase old) answer new)))
      (IsSkipped old answer new) h) [
        | inl w ↦ calls w.1
        | inr w ↦ inl w.1
      ]
    where
      calls : IsRefused (told (lacking false)) old answer new
          ⊎ ((found : Result Bool F) × (after : Call)
          × Calls (record { phase = old.phases factory.pattern factory.name; accesses = 0 }) (Some found) after
          × MatchResult found
          (λ is_new. Enters factory after.phase (told (lacking is_new)) old answer new)
          (λ failure. IsRefused (told failure) (with_phase factory.pattern factory.name after.phase old) answer new))
          → IsNegotiated factory old answer new
      calls (inl refused) = inr (inl (told (lacking false), refused))
      calls (inr (Ok is_new, after, called, enters)) = entered factory after.phase (told (lacking is_new)) old answer new enters
      calls (inr (Err failure, after, called, refused)) = inr (inr (inl (after.phase, told failure, refused)))

  module _ (types : MessageTypeDetails) (steps : List StepBefore) (factory : Factory) (old : State T) (answer : Reply T)
      (new : State T) where
    pub creates : (named : ServiceOptions) (attributes : List Attribute)
        → CreatesService types steps factory named attributes old answer new
        → IsNegotiated factory old answer new
    creates named attributes h =
        elim (by-fitness types steps factory named attributes old answer new h) [
          | inl negotiates ↦ negotiated (Creates types factory.pattern steps (Own factory.node)
              (record { settings = settings_of types named; attributes = attributes }))
              (create_refusal named) (λ is_new. uncreated.OutOfMemory) factory old answer new negotiates
          | inr (inl skipped) ↦ inl skipped
          | inr (inr refused) ↦ inr (inl refused)
        ]

    pub opens : (named : ServiceOptions) (required : Required) → OpensService types steps factory named required old answer new
        → IsNegotiated factory old answer new
    opens named required h =
        negotiated (Opens types factory.pattern steps (Own factory.node) (verdict types named required))
        (open_refusal named)
        (λ is_new. unopened.OutOfMemory) factory old answer new h

    pub opens-or-creates : (named : ServiceOptions) (required : Required)
        → OpensOrCreatesService types steps factory named required old answer new
        → IsNegotiated factory old answer new
    opens-or-creates named required h =
        negotiated (OpensOrCreates types factory.pattern steps (Own factory.node) (verdict types named required)
        (record { settings = settings_of types named; attributes = required.pairs }))
        (either_refusal named) either_lacking factory old answer new h

  -- ---- services that begin

  one-more : (P : Service T → Type 0) (name : List ℕ) (c : StaticConfig) (b : Bool) (services : List (Service T)) → P (new_service name c)
      → AllByRecursion P services → AllByRecursion P (cond b services (services ++ new_service name c ∷ []))
  one-more P name c true services fresh all = all
  one-more P name c false services fresh all = all-joined P services (new_service name c ∷ []) all (fresh, tt)

  pub open-keeps : (P : Service T → Type 0) (name : List ℕ) → ((c : StaticConfig) → P (new_service name c)) → (phase : Phase)
      (services : List (Service T))
      → AllByRecursion P services → AllByRecursion P (with_open name phase services)
  open-keeps P name fresh (Absent lives) services all = all
  open-keeps P name fresh (BeingMade life by) services all = all
  open-keeps P name fresh (Published life agreed nodes) services all = opened agreed.settings
    where
      opened : (s : Settings) → AllByRecursion P (elim s [
        | settings.PublishSubscribe c ↦ cond (list_any (λ (service : Service T). bytes_eq service.name name) services) services
            (services ++ new_service name c ∷ [])
        | settings.Event c ↦ services
        | settings.RequestResponse c ↦ services
      ])
      opened (settings.PublishSubscribe c) =
          one-more P name c (list_any (λ (service : Service T). bytes_eq service.name name) services) services (fresh c) all
      opened (settings.Event c) = all
      opened (settings.RequestResponse c) = all
  open-keeps P name fresh (Emptied life agreed by) services all = all

  pub negotiated-keeps : (P : Service T → Type 0) (factory : Factory) → ((c : StaticConfig) → P (new_service factory.name c)) →
      (old : State T)
      (answer : Reply T) (new : State T) → IsNegotiated factory old answer new → AllByRecursion P old.services → Keeps P old answer new
  negotiated-keeps P factory fresh old answer new (inl skipped) all = skipped-keeps P old answer new skipped all
  negotiated-keeps P factory fresh old answer new (inr (inl (why, refused))) all = refused-keeps P why old answer new refused all
  negotiated-keeps P factory fresh old answer new (inr (inr (inl (phase, why, refused)))) all =
      refused-keeps P why (with_phase factory.pattern factory.name phase old) answer new refused all
  negotiated-keeps P factory fresh old answer new (inr (inr (inr (phase, told, came)))) all = (
    subst (λ (state : State T). AllByRecursion P state.services) (sym came) (open-keeps P factory.name fresh phase old.services all),
    ap (λ (state : State T). state.made) came,
  )

  -- ---- services that end

  fewer : (P : Service T → Type 0) (b : Bool) (test : Service T → Bool) (services : List (Service T)) → AllByRecursion P services
      → AllByRecursion P (cond b services (filter test services))
  fewer P true test services all = all
  fewer P false test services all = all-filtered P test services all

  -- What a close comes to: it is skipped or refused; or else the factory is gone, with its service if no other factory is of that.
  abbrev pub IsClosed : ℕ → State T → Reply T → State T → Type 0
  IsClosed number old answer new =
      IsSkipped old answer new
      ⊎ (IsRefused (refusal.Close StillInUse) old answer new
      ⊎ ((factory : Factory) × (at number old.factories ≡ Some factory)
      × (list_any (λ (service : Service T). is_service_of factory service && is_used_by number service) old.services ≡ false) ×
      (answer ≡ reply.Done)
      × (new ≡ record (with_phase factory.pattern factory.name (closed_by factory.node (old.phases factory.pattern factory.name)) old) {
        factories = removed number old.factories;
        services = cond (list_any (λ (entry : ℕ × Factory). same_pattern entry.1.pattern factory.pattern
            && bytes_eq entry.1.name factory.name)
            (removed number old.factories))
            old.services (filter (λ (service : Service T). not (is_service_of factory service)) old.services);
      })))

  pub closed : (number : ℕ) (old : State T) (answer : Reply T) (new : State T) → Closes number old answer new
      → IsClosed number old answer new
  closed number old answer new h =
      elim (by-option (at number old.factories) (IsSkipped old answer new)
      (λ factory. MatchBool (list_any (λ (service : Service T). is_service_of factory service && is_used_by number service) old.services)
      (IsRefused (refusal.Close StillInUse) old answer new)
      ((answer ≡ reply.Done)
      × (new ≡ record (with_phase factory.pattern factory.name (closed_by factory.node (old.phases factory.pattern factory.name)) old) {
        factories = removed number old.factories;
        services = cond (list_any (λ (entry : ℕ × Factory). same_pattern entry.1.pattern factory.pattern
            && bytes_eq entry.1.name factory.name)
            (removed number old.factories))
            old.services (filter (λ (service : Service T). not (is_service_of factory service)) old.services);
      }))) h) [
        | inl w ↦ inl w.1
        | inr w ↦ closing w.0 w.1 w.2
      ]
    where
      closing : (factory : Factory) → at number old.factories ≡ Some factory
          → MatchBool (list_any (λ (service : Service T). is_service_of factory service && is_used_by number service) old.services)
          (IsRefused (refusal.Close StillInUse) old answer new)
          ((answer ≡ reply.Done)
          × (new ≡ record (with_phase factory.pattern factory.name (closed_by factory.node (old.phases factory.pattern factory.name)) old) {
            factories = removed number old.factories;
            services = cond (list_any (λ (entry : ℕ × Factory). same_pattern entry.1.pattern factory.pattern
                && bytes_eq entry.1.name factory.name)
                (removed number old.factories))
                old.services (filter (λ (service : Service T). not (is_service_of factory service)) old.services);
          }))
          → IsClosed number old answer new
      closing factory found h =
          elim (by-bool (list_any (λ (service : Service T). is_service_of factory service && is_used_by number service) old.services)
          (IsRefused (refusal.Close StillInUse) old answer new)
          ((answer ≡ reply.Done)
          × (new ≡ record (with_phase factory.pattern factory.name (closed_by factory.node (old.phases factory.pattern factory.name)) old) {
            factories = removed number old.factories;
            services = cond (list_any (λ (entry : ℕ × Factory). same_pattern entry.1.pattern factory.pattern
                && bytes_eq entry.1.name factory.name)
                (removed number old.factories))
                old.services (filter (λ (service : Service T). not (is_service_of factory service)) old.services);
          })) h) [
            | inl w ↦ inr (inl w.1)
            | inr w ↦ inr (inr (factory, found, w.0, w.1.0, w.1.1))
          ]

  pub closed-keeps : (P : Service T → Type 0) (number : ℕ) (old : State T) (answer : Reply T) (new : State T)
      → IsClosed number old answer new
      → AllByRecursion P old.services → Keeps P old answer new
  closed-keeps P number old answer new (inl skipped) all = skipped-keeps P old answer new skipped all
  closed-keeps P number old answer new (inr (inl refused)) all = refused-keeps P (refusal.Close StillInUse) old answer new refused all
  closed-keeps P number old answer new (inr (inr (factory, found, unused, told, came))) all = (
    subst (λ (state : State T). AllByRecursion P state.services) (sym came)
        (fewer P (list_any (λ (entry : ℕ × Factory). same_pattern entry.1.pattern factory.pattern && bytes_eq entry.1.name factory.name)
        (removed number old.factories)) (λ (service : Service T). not (is_service_of factory service)) old.services all),
    ap (λ (state : State T). state.made) came ∙ ap (λ (told_so : Reply T). counted told_so old.made) (sym told),
  )
