-- Lists of which some is left out, and what a machine has that knows of one service alone.
use Rattle.std.proofs.Common.{◌≡◌, ◌⊎◌, ℕ, Bool, true, false, cond, ◌&&◌, ◌||◌, List, [], ◌∷◌, ◌++◌, Option, None, Some, refl, sym, ap}
use Rattle.std.proofs.Common.{subst, inl, inr, ◌∙◌, true≢false}
use Rattle.std.specs.List.{list_any}
use Rattle.std.specs.Prelude.{◌==◌, find, filter, option_map, MatchBool, bytes_eq}
use Rattle.iox_machine.specs.AgreementLaws.{agreed_in}
use Rattle.iox_machine.specs.Agreement.{Agreement}
use Rattle.iox_machine.specs.Factories.{with_open}
use Rattle.iox_machine.specs.IndependenceLaws.{is_factory_of, is_of}
use Rattle.iox_machine.specs.Phase.{Phase, Absent, BeingMade, Published, Emptied, same_pattern}
use Rattle.iox_machine.specs.Service.{Service, new_service}
use Rattle.iox_machine.specs.State.{Factory, replaced}
use Rattle.iox_machine.specs.Table.{at}
use Rattle.iox_machine.proofs.Cases.{same-some, never-some}
use Rattle.iox_machine.proofs.Names.{name-itself, and-true}
use Rattle.iox_command.specs.NegotiateBase.DescribeBase.declared.pattern.MessagingPattern.{MessagingPattern}
use Rattle.iox_command.specs.NegotiateBase.DescribeBase.declared.pattern.MessagingPattern.TheVariants as messaging
use Rattle.iox_command.specs.NegotiateBase.DescribeSettings.Agreement as described
use Rattle.iox_command.specs.NegotiateBase.DescribeSettings.declared.static_config.Settings.{Settings}
use Rattle.iox_command.specs.NegotiateBase.DescribeSettings.declared.static_config.Settings.TheVariants as settings
use Rattle.iox_command.specs.NegotiateBase.DescribeSettings.declared.static_config.publish_subscribe.StaticConfig.{StaticConfig}

pub into-bool : (b : Bool) (A B : Type 0) → ((b ≡ true) × A) ⊎ ((b ≡ false) × B) → MatchBool b A B
into-bool b A B (inl (is, a)) = subst (λ (it : Bool). MatchBool it A B) (sym is) a
into-bool b A B (inr (is, other)) = subst (λ (it : Bool). MatchBool it A B) (sym is) other

-- ---- lists

pub find-own : {X : Type 0} (keeps has : X → Bool) (x : X) → keeps x ≡ true → (xs : List X) → find has xs ≡ Some x
    → find has (filter keeps xs) ≡ Some x
find-own keeps has x is [] first = never-some x first
find-own {X} keeps has x is (y ∷ xs) first = here (has y) (keeps y) refl refl first (find-own keeps has x is xs)
  where
    here : (b c : Bool) → has y ≡ b → keeps y ≡ c → cond b (Some y) (find has xs) ≡ Some x
        → (find has xs ≡ Some x → find has (filter keeps xs) ≡ Some x)
        → find has (cond c (y ∷ filter keeps xs) (filter keeps xs)) ≡ Some x
    here true true passes kept found on = ap (λ (b : Bool). cond b (Some y) (find has (filter keeps xs))) passes ∙ found
    here true false passes kept found on = absurd (true≢false (sym is ∙ (ap keeps (sym (same-some y x found)) ∙ kept)))
    here false true passes kept found on = ap (λ (b : Bool). cond b (Some y) (find has (filter keeps xs))) passes ∙ on found
    here false false passes kept found on = on found

pub find-none : {X : Type 0} (keeps has : X → Bool) (xs : List X) → find has xs ≡ None → find has (filter keeps xs) ≡ None
find-none keeps has [] none = refl
find-none {X} keeps has (y ∷ xs) none = here (has y) (keeps y) refl none (find-none keeps has xs)
  where
    here : (b c : Bool) → has y ≡ b → cond b (Some y) (find has xs) ≡ None → (find has xs ≡ None → find has (filter keeps xs) ≡ None)
        → find has (cond c (y ∷ filter keeps xs) (filter keeps xs)) ≡ None
    here true c passes found on = never-some y (sym found)
    here false true passes found on = ap (λ (b : Bool). cond b (Some y) (find has (filter keeps xs))) passes ∙ on found
    here false false passes found on = on found

pub any-own : {X : Type 0} (keeps test : X → Bool) → ((x : X) → test x ≡ true → keeps x ≡ true) → (xs : List X)
    → list_any test (filter keeps xs) ≡ list_any test xs
any-own keeps test on [] = refl
any-own {X} keeps test on (x ∷ xs) = here (test x) (keeps x) refl refl (any-own keeps test on xs)
  where
    here : (b c : Bool) → test x ≡ b → keeps x ≡ c → list_any test (filter keeps xs) ≡ list_any test xs
        → list_any test (cond c (x ∷ filter keeps xs) (filter keeps xs)) ≡ (test x || list_any test xs)
    here b true passes kept rest = ap (λ (it : Bool). test x || it) rest
    here true false passes kept rest = absurd (true≢false (sym (on x passes) ∙ kept))
    here false false passes kept rest = rest ∙ sym (ap (λ (it : Bool). it || list_any test xs) passes)

pub filter-swap : {X : Type 0} (one other : X → Bool) (xs : List X) → filter one (filter other xs) ≡ filter other (filter one xs)
filter-swap one other [] = refl
filter-swap {X} one other (x ∷ xs) = here (one x) (other x) refl refl (filter-swap one other xs)
  where
    here : (b c : Bool) → one x ≡ b → other x ≡ c → filter one (filter other xs) ≡ filter other (filter one xs)
        → filter one (cond c (x ∷ filter other xs) (filter other xs)) ≡ filter other (cond b (x ∷ filter one xs) (filter one xs))
    here true true is so rest =
        ap (λ (b : Bool). cond b (x ∷ filter one (filter other xs)) (filter one (filter other xs))) is
        ∙ (ap (λ (ys : List X). x ∷ ys) rest
        ∙ sym (ap (λ (b : Bool). cond b (x ∷ filter other (filter one xs)) (filter other (filter one xs))) so))
    here true false is so rest =
        rest ∙ sym (ap (λ (b : Bool). cond b (x ∷ filter other (filter one xs)) (filter other (filter one xs))) so)
    here false true is so rest =
        ap (λ (b : Bool). cond b (x ∷ filter one (filter other xs)) (filter one (filter other xs))) is ∙ rest
    here false false is so rest = rest

pub filter-joined-on : {X : Type 0} (test : X → Bool) (xs : List X) (x : X) → test x ≡ true
    → filter test (xs ++ x ∷ []) ≡ filter test xs ++ x ∷ []
filter-joined-on {X} test [] x on = ap (λ (b : Bool). cond b (x ∷ []) []) on
filter-joined-on {X} test (y ∷ xs) x on = here (test y) (filter-joined-on test xs x on)
  where
    here : (b : Bool) → filter test (xs ++ x ∷ []) ≡ filter test xs ++ x ∷ []
        → cond b (y ∷ filter test (xs ++ x ∷ [])) (filter test (xs ++ x ∷ [])) ≡ cond b (y ∷ filter test xs) (filter test xs) ++ x ∷ []
    here true rest = ap (λ (ys : List X). y ∷ ys) rest
    here false rest = rest

pub replaced-own : {T : Type 0} (test : List ℕ → Bool) (has : Service T → Bool) (service after : Service T) (services : List (Service T))
    → after.name ≡ service.name → test service.name ≡ true → find has services ≡ Some service
    → filter (λ (it : Service T). test it.name) (replaced has after services)
    ≡ replaced has after (filter (λ (it : Service T). test it.name) services)
replaced-own test has service after [] same on first = refl
replaced-own {T} test has service after (one ∷ more) same on first =
    here (has one) (test one.name) refl refl first (replaced-own test has service after more same on)
  where
    here : (b c : Bool) → has one ≡ b → test one.name ≡ c → cond b (Some one) (find has more) ≡ Some service
        → (find has more ≡ Some service → filter (λ (it : Service T). test it.name) (replaced has after more)
        ≡ replaced has after (filter (λ (it : Service T). test it.name) more))
        → filter (λ (it : Service T). test it.name) (cond b (after ∷ more) (one ∷ replaced has after more))
        ≡ replaced has after (cond c (one ∷ filter (λ (it : Service T). test it.name) more)
        (filter (λ (it : Service T). test it.name) more))
    here true true passes kept found rest =
        ap (λ (b : Bool). cond b (after ∷ filter (λ (it : Service T). test it.name) more) (filter (λ (it : Service T). test it.name) more))
        (ap test same ∙ on)
        ∙ sym (ap (λ (b : Bool). cond b (after ∷ filter (λ (it : Service T). test it.name) more)
        (one ∷ replaced has after (filter (λ (it : Service T). test it.name) more))) passes)
    here true false passes kept found rest =
        absurd (true≢false (sym on ∙ (ap (λ (it : Service T). test it.name) (sym (same-some one service found)) ∙ kept)))
    here false true passes kept found rest =
        ap (λ (b : Bool). cond b (one ∷ filter (λ (it : Service T). test it.name) (replaced has after more))
        (filter (λ (it : Service T). test it.name) (replaced has after more))) kept
        ∙ (ap (λ (list : List (Service T)). one ∷ list) (rest found)
        ∙ sym (ap (λ (b : Bool). cond b (after ∷ filter (λ (it : Service T). test it.name) more)
        (one ∷ replaced has after (filter (λ (it : Service T). test it.name) more))) passes))
    here false false passes kept found rest =
        ap (λ (b : Bool). cond b (one ∷ filter (λ (it : Service T). test it.name) (replaced has after more))
        (filter (λ (it : Service T). test it.name) (replaced has after more))) kept ∙ rest found

-- the phases that a machine has that knows of one service alone
abbrev pub own_phases : MessagingPattern → List ℕ → (MessagingPattern → List ℕ → Phase) → MessagingPattern → List ℕ → Phase
own_phases pattern name phases one other = cond (same_pattern one pattern && bytes_eq other name) (phases one other) (Absent 0)

-- a factory of the service that goes by a number
pub own-at : (pattern : MessagingPattern) (name : List ℕ) (number : ℕ) (factory : Factory) (factories : List (ℕ × Factory))
    → is_factory_of pattern name factory ≡ true
    → at number factories ≡ Some factory
    → at number (filter (λ (entry : ℕ × Factory). is_factory_of pattern name entry.1) factories) ≡ Some factory
own-at pattern name number factory factories is found =
    here (find (λ (entry : ℕ × Factory). entry.0 == number) factories) refl found
  where
    here : (o : Option (ℕ × Factory)) → find (λ (entry : ℕ × Factory). entry.0 == number) factories ≡ o
        → option_map (λ (entry : ℕ × Factory). entry.1) o ≡ Some factory
        → at number (filter (λ (entry : ℕ × Factory). is_factory_of pattern name entry.1) factories) ≡ Some factory
    here None same e = never-some factory e
    here (Some entry) same e =
        ap (option_map (λ (it : ℕ × Factory). it.1))
        (find-own (λ (it : ℕ × Factory). is_factory_of pattern name it.1) (λ (it : ℕ × Factory). it.0 == number) entry
        (ap (is_factory_of pattern name) (same-some entry.1 factory e) ∙ is) factories same) ∙ e

-- the services once that of a phase is open, where the phase is of the pattern
pub own-open : {T : Type 0} (pattern : MessagingPattern) (name : List ℕ) (phase : Phase) (services : List (Service T))
    → ((agreed : Agreement) → agreed_in phase ≡ Some agreed → described.pattern_of agreed.settings ≡ pattern)
    → filter (is_of pattern name) (with_open name phase services) ≡ with_open name phase (filter (is_of pattern name) services)
own-open pattern name (Absent lives) services patterned = refl
own-open pattern name (BeingMade life by) services patterned = refl
own-open pattern name (Emptied life agreed by) services patterned = refl
own-open {T} pattern name (Published life agreed nodes) services patterned = here agreed.settings refl
  where
    made : (c : StaticConfig) → pattern ≡ messaging.PublishSubscribe → (b : Bool)
        → filter (is_of pattern name) (cond b services (services ++ new_service name c ∷ []))
        ≡ cond b (filter (is_of pattern name) services) (filter (is_of pattern name) services ++ new_service name c ∷ [])
    made c is true = refl
    made c is false =
        filter-joined-on (is_of pattern name) services (new_service name c)
        (and-true (same_pattern pattern messaging.PublishSubscribe) (bytes_eq name name)
        (subst (λ (p : MessagingPattern). same_pattern p messaging.PublishSubscribe ≡ true) (sym is) refl) (name-itself name))

    here : (s : Settings) → agreed.settings ≡ s
        → filter (is_of pattern name) (elim s [
          | settings.PublishSubscribe c ↦ cond (list_any (λ (service : Service T). bytes_eq service.name name) services) services
              (services ++ new_service name c ∷ [])
          | settings.Event c ↦ services
          | settings.RequestResponse c ↦ services
        ])
        ≡ (elim s [
          | settings.PublishSubscribe c ↦ cond
              (list_any (λ (service : Service T). bytes_eq service.name name) (filter (is_of pattern name) services))
              (filter (is_of pattern name) services) (filter (is_of pattern name) services ++ new_service name c ∷ [])
          | settings.Event c ↦ filter (is_of pattern name) services
          | settings.RequestResponse c ↦ filter (is_of pattern name) services
        ])
    here (settings.PublishSubscribe c) is =
        let same : pattern ≡ messaging.PublishSubscribe = sym (patterned agreed refl) ∙ ap described.pattern_of is in
        made c same (list_any (λ (service : Service T). bytes_eq service.name name) services)
        ∙ ap (λ (b : Bool). cond b (filter (is_of pattern name) services)
        (filter (is_of pattern name) services ++ new_service name c ∷ []))
        (sym (any-own (is_of pattern name) (λ (service : Service T). bytes_eq service.name name)
        (λ service named. and-true (same_pattern pattern messaging.PublishSubscribe) (bytes_eq service.name name)
        (subst (λ (p : MessagingPattern). same_pattern p messaging.PublishSubscribe ≡ true) (sym same) refl) named) services))
    here (settings.Event c) is = refl
    here (settings.RequestResponse c) is = refl
