-- Services and factories stand as phases say, through each step.
use Rattle.std.proofs.Common.{◌≡◌, ◌⊎◌, ◌≤◌, ◌+◌, ℕ, Bool, true, false, cond, ◌&&◌, ◌||◌, List, [], ◌∷◌, ◌++◌, Some, refl, sym, ap, subst}
use Rattle.std.proofs.Common.{inl, inr, arith, ◌∙◌, true≢false}
use Rattle.std.proofs.lemmas.Bool.{eq-eqb, false_from_ne_true}
use Rattle.std.proofs.lemmas.Map.Keys.{IsDistinct-head, IsDistinct-tail, IsDistinct-cons}
use Rattle.std.specs.List.{AllByRecursion, list_any}
use Rattle.std.specs.Prelude.{◌==◌, filter, find, bytes_eq}
use Rattle.iox_machine.specs.Agreement.{Agreement}
use Rattle.iox_machine.specs.AgreementLaws.{AreApart}
use Rattle.iox_machine.specs.Factories.{with_open}
use Rattle.iox_machine.specs.IndependenceLaws.{is_factory_of, is_of}
use Rattle.iox_machine.specs.Phase.{Phase, Absent, BeingMade, Published, Emptied, same_pattern}
use Rattle.iox_machine.specs.Service.{Service, new_service}
use Rattle.iox_machine.specs.State.{State, Made, Factory, counted, with_phase, is_service_of, replaced}
use Rattle.iox_machine.proofs.Beginning.{or-first, or-second}
use Rattle.iox_machine.proofs.Cases.{same-some}
use Rattle.iox_machine.proofs.Counts.{has, one_if}
use Rattle.iox_machine.proofs.Lists.{all-weaker, all-joined, all-filtered}
use Rattle.iox_machine.proofs.Moving.{replaced-keeps}
use Rattle.iox_machine.proofs.Names.{name-turned, and-true, phases-where, service-at}
use Rattle.iox_machine.proofs.Ported.{IsBeside}
use Rattle.iox_machine.proofs.Shares.{}
use Rattle.iox_machine.proofs.Standing.{both-false, tally, Apart, Linked, Fits, absurd-count}
use Rattle.iox_command.specs.NegotiateBase.DescribeBase.declared.pattern.MessagingPattern.{MessagingPattern}
use Rattle.iox_command.specs.NegotiateBase.DescribeBase.declared.pattern.MessagingPattern.TheVariants as messaging
use Rattle.iox_command.specs.NegotiateBase.DescribeSettings.Agreement as described
use Rattle.iox_command.specs.NegotiateBase.DescribeSettings.declared.static_config.Settings.{Settings}
use Rattle.iox_command.specs.NegotiateBase.DescribeSettings.declared.static_config.Settings.TheVariants as settings
use Rattle.iox_command.specs.NegotiateBase.DescribeSettings.declared.static_config.publish_subscribe.StaticConfig.{StaticConfig}
use Rattle.iox_command.specs.declared.command.Command.{Command}
use Rattle.iox_command.specs.declared.reply.Reply.{Reply}
use Rattle.iox_command.specs.declared.reply.Reply.TheVariants as reply

-- ---- lists

pub any-joined : {X : Type 0} (test : X → Bool) (xs ys : List X) → list_any test xs ≡ true → list_any test (xs ++ ys) ≡ true
any-joined test [] ys e = absurd (true≢false (sym e))
any-joined test (x ∷ xs) ys e = here (test x) e (any-joined test xs ys)
  where
    here : (b : Bool) → (b || list_any test xs) ≡ true → (list_any test xs ≡ true → list_any test (xs ++ ys) ≡ true)
        → (b || list_any test (xs ++ ys)) ≡ true
    here true e on = refl
    here false e on = on e

pub any-last : {X : Type 0} (test : X → Bool) (xs : List X) (y : X) → test y ≡ true → list_any test (xs ++ y ∷ []) ≡ true
any-last test [] y e = or-first (test y) false e
any-last test (x ∷ xs) y e = or-second (test x) (list_any test (xs ++ y ∷ [])) (any-last test xs y e)

pub any-weaker : {X : Type 0} (test other : X → Bool) → ((x : X) → test x ≡ true → other x ≡ true) → (xs : List X) → list_any test xs ≡ true
    → list_any other xs ≡ true
any-weaker test other on [] e = e
any-weaker test other on (x ∷ xs) e = here (test x) refl e (any-weaker test other on xs)
  where
    here : (b : Bool) → test x ≡ b → (b || list_any test xs) ≡ true → (list_any test xs ≡ true → list_any other xs ≡ true)
        → (other x || list_any other xs) ≡ true
    here true is e rest = or-first (other x) (list_any other xs) (on x is)
    here false is e rest = or-second (other x) (list_any other xs) (rest e)

pub each-false : {X : Type 0} (test : X → Bool) (xs : List X) → list_any test xs ≡ false → AllByRecursion (λ (x : X). test x ≡ false) xs
each-false test [] e = tt
each-false test (x ∷ xs) e =
    ((both-false (test x) (list_any test xs) e).0, each-false test xs (both-false (test x) (list_any test xs) e).1)

pub any-filtered : {X : Type 0} (test keeps : X → Bool) → ((x : X) → test x ≡ true → keeps x ≡ true) → (xs : List X)
    → list_any test xs ≡ true
    → list_any test (filter keeps xs) ≡ true
any-filtered test keeps on [] e = e
any-filtered {X} test keeps on (x ∷ xs) e = here (test x) (keeps x) refl refl e (any-filtered test keeps on xs)
  where
    here : (b c : Bool) → test x ≡ b → keeps x ≡ c → (b || list_any test xs) ≡ true
        → (list_any test xs ≡ true → list_any test (filter keeps xs) ≡ true)
        → list_any test (cond c (x ∷ filter keeps xs) (filter keeps xs)) ≡ true
    here true true is kept e rest = or-first (test x) (list_any test (filter keeps xs)) is
    here true false is kept e rest = absurd (true≢false (sym (on x is) ∙ kept))
    here false true is kept e rest = or-second (test x) (list_any test (filter keeps xs)) (rest e)
    here false false is kept e rest = rest e

pub all-passing : {X : Type 0} (P Q : X → Type 0) (test : X → Bool) → ((x : X) → test x ≡ true → P x → Q x) → (xs : List X)
    → AllByRecursion P xs → AllByRecursion Q (filter test xs)
all-passing P Q test on [] all = tt
all-passing {X} P Q test on (x ∷ xs) all = here (test x) refl (all-passing P Q test on xs all.1)
  where
    here : (b : Bool) → test x ≡ b → AllByRecursion Q (filter test xs)
        → AllByRecursion Q (cond b (x ∷ filter test xs) (filter test xs))
    here true is rest = (on x is all.0, rest)
    here false is rest = rest

pub all-swapped : {A X : Type 0} (P : A → X → Type 0) (xs : List X) → ((a : A) → AllByRecursion (P a) xs)
    → AllByRecursion (λ (x : X). (a : A) → P a x) xs
all-swapped P [] h = tt
all-swapped P (x ∷ xs) h = (λ a. (h a).0, all-swapped P xs (λ a. (h a).1))

module _ {T : Type 0} where
  -- whether two services have one name
  abbrev one_name : Service T → Service T → Bool
  one_name one other = bytes_eq other.name one.name

  pub distinct-joined : (one : Service T) (services : List (Service T))
      → AllByRecursion (λ (other : Service T). bytes_eq other.name one.name ≡ false) services → AreApart services
      → AreApart (services ++ one ∷ [])
  distinct-joined one [] none apart = IsDistinct-cons one_name one [] tt apart
  distinct-joined one (other ∷ more) none apart =
      IsDistinct-cons one_name other (more ++ one ∷ [])
      (all-joined (λ (it : Service T). bytes_eq it.name other.name ≡ false) more (one ∷ []) (IsDistinct-head one_name other more apart)
      (false_from_ne_true (bytes_eq one.name other.name) (λ is. true≢false (sym (name-turned one.name other.name is) ∙ none.0)), tt))
      (distinct-joined one more none.1 (IsDistinct-tail one_name other more apart))

  pub distinct-filtered : (test : Service T → Bool) (services : List (Service T)) → AreApart services → AreApart (filter test services)
  distinct-filtered test [] apart = apart
  distinct-filtered test (one ∷ more) apart =
      here (test one) (distinct-filtered test more (IsDistinct-tail one_name one more apart))
    where
      here : (b : Bool) → AreApart (filter test more) → AreApart (cond b (one ∷ filter test more) (filter test more))
      here true on =
          IsDistinct-cons one_name one (filter test more)
          (all-filtered (λ (it : Service T). bytes_eq it.name one.name ≡ false) test more (IsDistinct-head one_name one more apart)) on
      here false on = on

  distinct-replaced : (has_it : Service T → Bool) (service after : Service T) (services : List (Service T)) → after.name ≡ service.name
      → find has_it services ≡ Some service → AreApart services → AreApart (replaced has_it after services)
  distinct-replaced has_it service after [] same first apart = apart
  distinct-replaced has_it service after (one ∷ more) same first apart =
      here (has_it one) first
      (λ found. distinct-replaced has_it service after more same found (IsDistinct-tail one_name one more apart))
    where
      here : (b : Bool) → cond b (Some one) (find has_it more) ≡ Some service
          → (find has_it more ≡ Some service → AreApart (replaced has_it after more))
          → AreApart (cond b (after ∷ more) (one ∷ replaced has_it after more))
      here true found on =
          IsDistinct-cons one_name after more
          (subst (λ (name : List ℕ). AllByRecursion (λ (it : Service T). bytes_eq it.name name ≡ false) more)
          (sym (same ∙ ap (λ (it : Service T). it.name) (sym (same-some one service found))))
          (IsDistinct-head one_name one more apart))
          (IsDistinct-tail one_name one more apart)
      here false found on =
          IsDistinct-cons one_name one (replaced has_it after more)
          (replaced-keeps (λ (it : Service T). bytes_eq it.name one.name ≡ false) (λ (it : Service T). bytes_eq it.name one.name ≡ false)
          has_it service after more (λ it no. no)
          (λ no. subst (λ (name : List ℕ). bytes_eq name one.name ≡ false) (sym same) no) found
          (IsDistinct-head one_name one more apart))
          (on found)

  any-replaced : (test : List ℕ → Bool) (has_it : Service T → Bool) (service after : Service T) (services : List (Service T))
      → after.name ≡ service.name → find has_it services ≡ Some service
      → list_any (λ (it : Service T). test it.name) (replaced has_it after services) ≡ list_any (λ (it : Service T). test it.name) services
  any-replaced test has_it service after [] same first = refl
  any-replaced test has_it service after (one ∷ more) same first =
      here (has_it one) first (any-replaced test has_it service after more same)
    where
      here : (b : Bool) → cond b (Some one) (find has_it more) ≡ Some service
          → (find has_it more ≡ Some service
          → list_any (λ (it : Service T). test it.name) (replaced has_it after more) ≡ list_any (λ (it : Service T). test it.name) more)
          → list_any (λ (it : Service T). test it.name) (cond b (after ∷ more) (one ∷ replaced has_it after more))
          ≡ (test one.name || list_any (λ (it : Service T). test it.name) more)
      here true found on =
          ap (λ (name : List ℕ). test name || list_any (λ (it : Service T). test it.name) more)
          (same ∙ ap (λ (it : Service T). it.name) (sym (same-some one service found)))
      here false found on = ap (λ (rest : Bool). test one.name || rest) (on found)

-- ---- the state

-- Services and factories stand as phases say.
pub record Stands {T : Type 0} (state : State T) : Type 0 where
  pub fits : (pattern : MessagingPattern) (name : List ℕ)
      → Fits (tally pattern name state.factories) pattern name state.services (state.phases pattern name)
  pub numbers : Apart state.factories
  pub below : (number : ℕ) → has number state.factories ≡ true → number ≤ state.made.factories
  pub apart : AreApart state.services
  pub manned : AllByRecursion (λ (service : Service T). list_any (λ (entry : ℕ × Factory). is_service_of entry.1 service) state.factories
      ≡ true) state.services
  pub served : AllByRecursion (λ (entry : ℕ × Factory). same_pattern entry.1.pattern messaging.PublishSubscribe ≡ true
      → list_any (is_service_of entry.1) state.services ≡ true) state.factories

pub one-there : (b : Bool) (rest : ℕ) → b ≡ true → 1 ≤ one_if b + rest
one-there true rest is = omega arith
one-there false rest is = absurd (true≢false (sym is))

pub one-later : (first rest : ℕ) → 1 ≤ rest → 1 ≤ first + rest
one-later first rest h = omega (arith, h)

pub up : (number low high : ℕ) → number ≤ low → low ≤ high → number ≤ high
up number low high h k = omega (arith, h, k)

module _ {T : Type 0} where
  pub tally-some : (pattern : MessagingPattern) (name : List ℕ) (service : Service T) (factories : List (ℕ × Factory))
      → is_of pattern name service ≡ true
      → list_any (λ (entry : ℕ × Factory). is_service_of entry.1 service) factories ≡ true
      → (node : ℕ) × (1 ≤ tally pattern name factories node)
  tally-some pattern name service [] of is = absurd (true≢false (sym is))
  tally-some pattern name service (entry ∷ more) of is =
      here (is_service_of entry.1 service) refl is (tally-some pattern name service more of)
    where
      here : (b : Bool) → is_service_of entry.1 service ≡ b
          → (b || list_any (λ (it : ℕ × Factory). is_service_of it.1 service) more) ≡ true
          → (list_any (λ (it : ℕ × Factory). is_service_of it.1 service) more ≡ true
          → (node : ℕ) × (1 ≤ tally pattern name more node))
          → (node : ℕ) × (1 ≤ one_if (is_factory_of pattern name entry.1 && (entry.1.node == node)) + tally pattern name more node)
      here true found e on = (
        entry.1.node,
        one-there (is_factory_of pattern name entry.1 && (entry.1.node == entry.1.node)) (tally pattern name more entry.1.node)
            (and-true (is_factory_of pattern name entry.1) (entry.1.node == entry.1.node)
            (service-at pattern name service entry.1 of found) (eq-eqb entry.1.node entry.1.node refl)),
      )
      here false found e on =
          let rest : (node : ℕ) × (1 ≤ tally pattern name more node) = on e in (
            rest.0,
            one-later (one_if (is_factory_of pattern name entry.1 && (entry.1.node == rest.0)))
                (tally pattern name more rest.0) rest.1,
          )

  pub manned-of : (pattern : MessagingPattern) (name : List ℕ) (state : State T) → Stands state
      → AllByRecursion (λ (service : Service T). is_of pattern name service ≡ true
      → (node : ℕ) × (1 ≤ tally pattern name state.factories node)) state.services
  manned-of pattern name state stands =
      all-weaker
      (λ (service : Service T). list_any (λ (entry : ℕ × Factory). is_service_of entry.1 service) state.factories ≡ true)
      (λ (service : Service T). is_of pattern name service ≡ true → (node : ℕ) × (1 ≤ tally pattern name state.factories node))
      (λ service manned of. tally-some pattern name service state.factories of manned) state.services stands.manned

  factories-rise : (answer : Reply T) (made : Made) → made.factories ≤ (counted answer made).factories
  factories-rise (reply.FactoryMade number) made = omega arith
  factories-rise (reply.NodeMade number) made = omega arith
  factories-rise (reply.PublisherMade number) made = omega arith
  factories-rise (reply.SubscriberMade number) made = omega arith
  factories-rise (reply.LoanMade number) made = omega arith
  factories-rise (reply.Received number values) made = omega arith
  factories-rise other made = omega arith

  -- ---- another phase

  pub phase-stands : (pattern : MessagingPattern) (name : List ℕ) (phase : Phase) (state : State T) → Stands state
      → Fits (tally pattern name state.factories) pattern name state.services phase
      → Stands (with_phase pattern name phase state)
  phase-stands pattern name phase state stands fits = record {
    fits = phases-where (λ (one : MessagingPattern) (other : List ℕ) (it : Phase).
        Fits (tally one other state.factories) one other state.services it) pattern name phase state
        (λ one other off. stands.fits one other) fits;
    numbers = stands.numbers;
    below = stands.below;
    apart = stands.apart;
    manned = stands.manned;
    served = stands.served;
  }

  -- ---- ports

  pub moved-stands : (asked : Command T) (old : State T) (answer : Reply T) (new : State T) → Stands old → IsBeside asked old answer new
      → Stands new
  moved-stands asked old answer new stands (inl skipped) = subst (λ (it : State T). Stands it) (sym skipped.1) stands
  moved-stands asked old answer new stands (inr (has_it, service, after, first, kept, off, came)) =
      subst (λ (it : State T). Stands it) (sym came) (record {
        fits = λ pattern name. record {
          counts = (stands.fits pattern name).counts;
          patterned = (stands.fits pattern name).patterned;
          linked = replaced-keeps
              (λ (it : Service T). is_of pattern name it ≡ true
              → Linked (settings.PublishSubscribe it.settings) (old.phases pattern name))
              (λ (it : Service T). is_of pattern name it ≡ true
              → Linked (settings.PublishSubscribe it.settings) (old.phases pattern name)) has_it service after old.services
              (λ it linked. linked)
              (λ linked of. subst (λ (c : StaticConfig). Linked (settings.PublishSubscribe c) (old.phases pattern name)) (sym kept.settings)
              (linked (subst (λ (it : List ℕ). (same_pattern pattern messaging.PublishSubscribe && bytes_eq it name)
              ≡ true) kept.name of)))
              first (stands.fits pattern name).linked;
        };
        numbers = stands.numbers;
        below = λ number is. up number old.made.factories (counted answer old.made).factories (stands.below number is)
            (factories-rise answer old.made);
        apart = distinct-replaced has_it service after old.services kept.name first stands.apart;
        manned = replaced-keeps
            (λ (it : Service T). list_any (λ (entry : ℕ × Factory). is_service_of entry.1 it) old.factories ≡ true)
            (λ (it : Service T). list_any (λ (entry : ℕ × Factory). is_service_of entry.1 it) old.factories ≡ true)
            has_it service after old.services (λ it manned. manned)
            (λ manned. subst (λ (name : List ℕ). list_any (λ (entry : ℕ × Factory).
            same_pattern entry.1.pattern messaging.PublishSubscribe && bytes_eq name entry.1.name) old.factories ≡ true) (sym kept.name)
            manned) first stands.manned;
        served = all-weaker
            (λ (entry : ℕ × Factory). same_pattern entry.1.pattern messaging.PublishSubscribe ≡ true
            → list_any (is_service_of entry.1) old.services ≡ true)
            (λ (entry : ℕ × Factory). same_pattern entry.1.pattern messaging.PublishSubscribe ≡ true
            → list_any (is_service_of entry.1) (replaced has_it after old.services) ≡ true)
            (λ entry served is.
            any-replaced (λ (name : List ℕ). same_pattern entry.1.pattern messaging.PublishSubscribe && bytes_eq name entry.1.name) has_it
            service after old.services kept.name first ∙ served is) old.factories stands.served;
      })

  -- ---- a factory more

  -- The services once that of a phase is open: they are the same, and one of the name is there; or a new one is.
  abbrev pub IsOpened : MessagingPattern → List ℕ → Phase → List (Service T) → List (Service T) → Type 0
  IsOpened pattern name phase services opened =
      ((opened ≡ services)
      × (same_pattern pattern messaging.PublishSubscribe ≡ true
      → list_any (λ (service : Service T). bytes_eq service.name name) services ≡ true))
      ⊎ ((c : StaticConfig) × (opened ≡ services ++ new_service name c ∷ [])
      × (list_any (λ (service : Service T). bytes_eq service.name name) services ≡ false)
      × (pattern ≡ messaging.PublishSubscribe) × Linked (settings.PublishSubscribe c) phase)

  -- whether a service has a name
  abbrev pub is_there : List ℕ → List (Service T) → Bool
  is_there name services = list_any (λ (service : Service T). bytes_eq service.name name) services

  pub opened-so : (pattern : MessagingPattern) (name : List ℕ) (services : List (Service T)) (g : ℕ → ℕ) (node : ℕ) (phase : Phase)
      → 1 ≤ g node → Fits g pattern name services phase → IsOpened pattern name phase services (with_open name phase services)
  opened-so pattern name services g node (Absent lives) one fits = absurd-count (g node) (fits.counts node) one
  opened-so pattern name services g node (BeingMade life by) one fits = absurd-count (g node) (fits.counts node) one
  opened-so pattern name services g node (Emptied life agreed by) one fits = absurd-count (g node) (fits.counts node) one
  opened-so pattern name services g node (Published life agreed nodes) one fits = here agreed.settings refl
    where
      other_pattern : (s : Settings) → agreed.settings ≡ s → same_pattern (described.pattern_of s) messaging.PublishSubscribe ≡ false
          → same_pattern pattern messaging.PublishSubscribe ≡ true → (is_there name services) ≡ true
      other_pattern s is off on =
          absurd (true≢false (sym on ∙ (ap (λ (it : MessagingPattern). same_pattern it messaging.PublishSubscribe)
          (sym (fits.patterned agreed refl) ∙ ap described.pattern_of is) ∙ off)))

      new_one : (c : StaticConfig) (b : Bool) → (is_there name services) ≡ b → agreed.settings ≡ settings.PublishSubscribe c
          → IsOpened pattern name (Published life agreed nodes) services (cond b services (services ++ new_service name c ∷ []))
      new_one c true is same = inl (refl, λ on. is)
      new_one c false is same =
          inr (
            c,
            refl,
            is,
            sym (fits.patterned agreed refl) ∙ ap described.pattern_of same,
            λ other told. ap (λ (it : Agreement). it.settings) (sym (same-some agreed other told)) ∙ same,
          )

      here : (s : Settings) → agreed.settings ≡ s
          → IsOpened pattern name (Published life agreed nodes) services (elim s [
            | settings.PublishSubscribe c ↦ cond (is_there name services) services (services ++ new_service name c ∷ [])
            | settings.Event c ↦ services
            | settings.RequestResponse c ↦ services
          ])
      here (settings.PublishSubscribe c) is = new_one c (is_there name services) refl is
      here (settings.Event c) is = inl (refl, other_pattern (settings.Event c) is refl)
      here (settings.RequestResponse c) is = inl (refl, other_pattern (settings.RequestResponse c) is refl)
