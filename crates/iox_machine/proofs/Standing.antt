-- What stands in every run: services as their phases say, and factories as many as these count.
use Rattle.std.proofs.Common.{◌≡◌, ◌≤◌, ◌+◌, ℕ, Bool, true, false, cond, not, ◌&&◌, ◌||◌, List, [], ◌∷◌, ◌++◌, length, Some, refl, sym}
use Rattle.std.proofs.Common.{ap, subst, inl, inr, arith, ◌∙◌, true≢false}
use Rattle.std.proofs.lemmas.Bool.{eqb-true, eq-eqb, false_from_ne_true}
use Rattle.std.specs.List.{AllByRecursion}
use Rattle.std.specs.Prelude.{⊤, ◌==◌, nat_lt, filter, find, option_map}
use Rattle.iox_machine.specs.Agreement.{Agreement}
use Rattle.iox_machine.specs.AgreementLaws.{agreed_in, IsPublishedBy}
use Rattle.iox_machine.specs.Asked.{settings_of}
use Rattle.iox_machine.specs.IndependenceLaws.{is_factory_of, is_of}
use Rattle.iox_machine.specs.Phase.{Node, Own, Foreign, Phase, Absent, BeingMade, Published, Emptied, is_in, entered, acted}
use Rattle.iox_machine.proofs.Shorthands.{closed_by}
use Rattle.iox_machine.specs.Service.{Service}
use Rattle.iox_machine.specs.State.{Factory}
use Rattle.iox_machine.specs.Table.{at, removed}
use Rattle.iox_machine.proofs.Cases.{same-some, never-some}
use Rattle.iox_machine.proofs.Counts.{has, joined-has, one-has, filter-has, one_if}
use Rattle.iox_machine.proofs.Lists.{all-both, all-weaker}
use Rattle.iox_machine.proofs.Phases.{chosen-phase, left-by-phase, each-all, agreed-closed, agreed-acted}
use Rattle.iox_machine.proofs.Shares.{Counts, more_of, counts-acted, counts-entered, counts-made, counts-closed}
use Rattle.iox_command.specs.NegotiateBase.DescribeBase.declared.message_type.MessageTypeDetails.{MessageTypeDetails}
use Rattle.iox_command.specs.NegotiateBase.DescribeBase.declared.pattern.MessagingPattern.{MessagingPattern}
use Rattle.iox_command.specs.NegotiateBase.DescribeSettings.Agreement as described
use Rattle.iox_command.specs.NegotiateBase.DescribeSettings.declared.static_config.Settings.{Settings}
use Rattle.iox_command.specs.NegotiateBase.DescribeSettings.declared.static_config.Settings.TheVariants as settings
use Rattle.iox_command.specs.Patterns.{pattern_of}
use Rattle.iox_command.specs.declared.service.ServiceOptions.{ServiceOptions}
use Rattle.iox_command.specs.declared.service.ServiceOptions.TheVariants as options
use Rattle.iox_command.specs.declared.step.ForeignStep.{ForeignStep}
use Rattle.iox_command.specs.declared.step.ForeignStep.TheVariants as step

pub both-false : (b c : Bool) → (b || c) ≡ false → (b ≡ false) × (c ≡ false)
both-false true c e = absurd (true≢false e)
both-false false c e = (refl, e)

-- ---- factories

-- how many factories of a pattern and name a node has
abbrev pub tally : MessagingPattern → List ℕ → List (ℕ × Factory) → ℕ → ℕ
tally pattern name [] node = 0
tally pattern name (entry ∷ more) node = one_if (is_factory_of pattern name entry.1 &&
    (entry.1.node == node)) + tally pattern name more node

-- no two factories go by one number
abbrev pub Apart : List (ℕ × Factory) → Type 0
Apart [] = ⊤
Apart (entry ∷ more) = (has entry.0 more ≡ false) × Apart more

behind : (first one other extra : ℕ) → one ≡ other + extra → first + one ≡ (first + other) + extra
behind first one other extra h = omega (arith, h)

pub tally-joined : (pattern : MessagingPattern) (name : List ℕ) (number : ℕ) (factory : Factory) (node : ℕ) (table : List (ℕ × Factory))
    → tally pattern name (table ++ (number, factory) ∷ []) node
    ≡ tally pattern name table node + one_if (is_factory_of pattern name factory && (factory.node == node))
tally-joined pattern name number factory node [] = last (one_if (is_factory_of pattern name factory && (factory.node == node)))
  where
    last : (n : ℕ) → n + 0 ≡ 0 + n
    last n = omega arith
tally-joined pattern name number factory node (entry ∷ more) =
    behind (one_if (is_factory_of pattern name entry.1 && (entry.1.node == node)))
    (tally pattern name (more ++ (number, factory) ∷ []) node)
    (tally pattern name more node) (one_if (is_factory_of pattern name factory && (factory.node == node)))
    (tally-joined pattern name number factory node more)

pub removed-none : {V : Type 0} (number : ℕ) (table : List (ℕ × V)) → has number table ≡ false → removed number table ≡ table
removed-none number [] none = refl
removed-none {V} number (entry ∷ more) none =
    here (entry.0 == number) (both-false (entry.0 == number) (has number more) none).0
    (removed-none number more (both-false (entry.0 == number) (has number more) none).1)
  where
    here : (b : Bool) → b ≡ false → removed number more ≡ more
        → cond (not b) (entry ∷ removed number more) (removed number more) ≡ entry ∷ more
    here true is on = absurd (true≢false is)
    here false is on = ap (λ (rest : List (ℕ × V)). entry ∷ rest) on

pub tally-removed : (pattern : MessagingPattern) (name : List ℕ) (number : ℕ) (factory : Factory) (node : ℕ) (table : List (ℕ × Factory))
    → Apart table → at number table ≡ Some factory
    → tally pattern name table node
    ≡ tally pattern name (removed number table) node + one_if (is_factory_of pattern name factory && (factory.node == node))
tally-removed pattern name number factory node [] apart found = never-some factory found
tally-removed pattern name number factory node (entry ∷ more) apart found =
    here (entry.0 == number) refl found (tally-removed pattern name number factory node more apart.1)
  where
    swapped : (n m : ℕ) → n + m ≡ m + n
    swapped n m = omega arith

    here : (b : Bool) → (entry.0 == number) ≡ b
        → option_map (λ (e : ℕ × Factory). e.1)
        (cond b (Some entry) (find (λ (other : ℕ × Factory). other.0 == number) more)) ≡ Some factory
        → (at number more ≡ Some factory → tally pattern name more node
        ≡ tally pattern name (removed number more) node + one_if (is_factory_of pattern name factory && (factory.node == node)))
        → one_if (is_factory_of pattern name entry.1 && (entry.1.node == node)) + tally pattern name more node
        ≡ tally pattern name (cond (not b) (entry ∷ removed number more) (removed number more)) node
        + one_if (is_factory_of pattern name factory && (factory.node == node))
    here true is found on =
        subst (λ (it : Factory). one_if (is_factory_of pattern name entry.1 && (entry.1.node == node)) + tally pattern name more node
        ≡ tally pattern name (removed number more) node + one_if (is_factory_of pattern name it && (it.node == node)))
        (same-some entry.1 factory found)
        (subst (λ (rest : List (ℕ × Factory)). one_if (is_factory_of pattern name entry.1 &&
        (entry.1.node == node)) + tally pattern name more node
        ≡ tally pattern name rest node + one_if (is_factory_of pattern name entry.1 && (entry.1.node == node)))
        (sym (removed-none number more
        (subst (λ (n : ℕ). has n more ≡ false) (eqb-true entry.0 number is) apart.0)))
        (swapped (one_if (is_factory_of pattern name entry.1 && (entry.1.node == node))) (tally pattern name more node)))
    here false is found on =
        behind (one_if (is_factory_of pattern name entry.1 && (entry.1.node == node))) (tally pattern name more node)
        (tally pattern name (removed number more) node) (one_if (is_factory_of pattern name factory && (factory.node == node))) (on found)

pub apart-joined : (number : ℕ) (factory : Factory) (table : List (ℕ × Factory)) → has number table ≡ false → Apart table
    → Apart (table ++ (number, factory) ∷ [])
apart-joined number factory [] none apart = (refl, tt)
apart-joined number factory (entry ∷ more) none apart = (
  false_from_ne_true (has entry.0 (more ++ (number, factory) ∷ [])) (λ is. elim (joined-has entry.0 more ((number, factory) ∷ []) is) [
    | inl was ↦ true≢false (sym was ∙ apart.0)
    | inr last ↦ true≢false (sym (eq-eqb entry.0 number (sym (one-has entry.0 number factory last)))
        ∙ (both-false (entry.0 == number) (has number more) none).0)
  ]),
  apart-joined number factory more (both-false (entry.0 == number) (has number more) none).1 apart.1,
)

pub apart-filtered : (test : ℕ × Factory → Bool) (table : List (ℕ × Factory)) → Apart table → Apart (filter test table)
apart-filtered test [] apart = tt
apart-filtered test (entry ∷ more) apart = here (test entry) (apart-filtered test more apart.1)
  where
    here : (b : Bool) → Apart (filter test more) → Apart (cond b (entry ∷ filter test more) (filter test more))
    here true on =
        (false_from_ne_true (has entry.0 (filter test more)) (λ is. true≢false (sym (filter-has entry.0 test more is) ∙ apart.0)), on)
    here false on = on

-- ---- a phase

-- What is agreed on in a phase has these settings.
abbrev pub Linked : Settings → Phase → Type 0
Linked s phase = (agreed : Agreement) → agreed_in phase ≡ Some agreed → agreed.settings ≡ s

pub settings-pattern : (types : MessageTypeDetails) (named : ServiceOptions) → described.pattern_of (settings_of types named)
    ≡ pattern_of named
settings-pattern types (options.PublishSubscribe named) = refl
settings-pattern types (options.Event named) = refl
settings-pattern types (options.RequestResponse named) = refl

published-pattern : (types : MessageTypeDetails) (pattern : MessagingPattern) (agreed : Agreement) (one : ForeignStep)
    → IsPublishedBy types pattern agreed one → described.pattern_of agreed.settings ≡ pattern
published-pattern types pattern agreed (step.Publish node options) (same, is) =
    ap (λ (it : Agreement). described.pattern_of it.settings) is ∙ (settings-pattern types options ∙ same)
published-pattern types pattern agreed (step.PublishV1 node options) (same, is, off) =
    ap (λ (it : Agreement). described.pattern_of it.settings) is ∙ (settings-pattern types options ∙ same)
published-pattern types pattern agreed other never = absurd never

published-acted : (types : MessageTypeDetails) (pattern : MessagingPattern) (life : ℕ) (standing : Agreement) (nodes : List (Node × ℕ))
    (one : ForeignStep) (agreed : Agreement)
    → agreed_in (acted types pattern (Published life standing nodes) one) ≡ Some agreed → Some standing ≡ Some agreed
published-acted types pattern life standing nodes (step.Register node) agreed is =
    chosen-phase (λ (phase : Phase). agreed_in phase ≡ Some agreed → Some standing ≡ Some agreed)
    (not (is_in (Foreign node) nodes) && nat_lt (length nodes) (described.max_nodes_of standing.settings))
    (Published life standing (entered (Foreign node) nodes)) (Published life standing nodes) (λ e. e) (λ e. e) is
published-acted types pattern life standing nodes (step.Leave node) agreed is =
    left-by-phase (λ (phase : Phase). agreed_in phase ≡ Some agreed → Some standing ≡ Some agreed) life standing (Foreign node) nodes
    (λ e. e) (λ others e. e) is
published-acted types pattern life standing nodes other agreed is = is

pub absurd-count : {A : Type 0} (n : ℕ) → n ≡ 0 → 1 ≤ n → A
absurd-count n none one = absurd (never none one)
  where
    never : n ≡ 0 → 1 ≤ n → ⊥
    never none one = omega (arith, none, one)

linked-acted : (types : MessageTypeDetails) (pattern : MessagingPattern) (f : ℕ → ℕ) (s : Settings) (phase : Phase) (one : ForeignStep)
    (node : ℕ) → Counts f phase → 1 ≤ f node → Linked s phase → Linked s (acted types pattern phase one)
linked-acted types pattern f s (Absent lives) one node c has_one linked = absurd-count (f node) (c node) has_one
linked-acted types pattern f s (BeingMade life by) one node c has_one linked = absurd-count (f node) (c node) has_one
linked-acted types pattern f s (Published life standing nodes) one node c has_one linked =
    λ agreed is. linked agreed (published-acted types pattern life standing nodes one agreed is)
linked-acted types pattern f s (Emptied life agreed by) one node c has_one linked = absurd-count (f node) (c node) has_one

-- What a phase says is so of the factories and the services of its pattern and name.
pub record Fits {T : Type 0} (f : ℕ → ℕ) (pattern : MessagingPattern) (name : List ℕ) (services : List (Service T)) (phase : Phase)
    : Type 0 where
  pub counts : Counts f phase
  pub patterned : (agreed : Agreement) → agreed_in phase ≡ Some agreed → described.pattern_of agreed.settings ≡ pattern
  pub linked : AllByRecursion (λ (service : Service T). is_of pattern name service ≡ true
      → Linked (settings.PublishSubscribe service.settings) phase) services

module _ {T : Type 0} (types : MessageTypeDetails) (f : ℕ → ℕ) (pattern : MessagingPattern) (name : List ℕ) (services : List (Service T))
    (manned : AllByRecursion (λ (service : Service T). is_of pattern name service ≡ true → (node : ℕ) × (1 ≤ f node)) services) where
  pub fits-acted : (phase : Phase) (one : ForeignStep) → Fits f pattern name services phase
      → Fits f pattern name services (acted types pattern phase one)
  fits-acted phase one fits = record {
    counts = counts-acted types pattern f phase one fits.counts;
    patterned = λ agreed is. elim (agreed-acted types pattern phase one agreed is) [
      | inl was ↦ fits.patterned agreed was
      | inr published ↦ published-pattern types pattern agreed one published
    ];
    linked = all-both
        (λ (service : Service T). is_of pattern name service ≡ true → (node : ℕ) × (1 ≤ f node))
        (λ (service : Service T). is_of pattern name service ≡ true → Linked (settings.PublishSubscribe service.settings) phase)
        (λ (service : Service T). is_of pattern name service ≡ true
        → Linked (settings.PublishSubscribe service.settings) (acted types pattern phase one))
        (λ service has_one linked is. linked-acted types pattern f (settings.PublishSubscribe service.settings) phase one (has_one is).0
        fits.counts (has_one is).1 (linked is)) services manned fits.linked;
  }

  pub fits-lost : (lives : ℕ) → Fits f pattern name services (Absent lives) → Fits f pattern name services (Absent (lives + 1))
  fits-lost lives fits = record {
    counts = fits.counts;
    patterned = λ agreed is. never-some agreed is;
    linked = each-all (λ (service : Service T). is_of pattern name service ≡ true
        → Linked (settings.PublishSubscribe service.settings) (Absent (lives + 1))) (λ service is agreed e. never-some agreed e) services;
  }

  pub fits-won : (node lives : ℕ) (agreed : Agreement) → described.pattern_of agreed.settings ≡ pattern
      → Fits f pattern name services (Absent lives)
      → Fits (more_of node f) pattern name services (Published (lives + 1) agreed ((Own node, 1) ∷ []))
  fits-won node lives agreed same fits = record {
    counts = counts-made f node (lives + 1) agreed fits.counts;
    patterned = λ other is. ap (λ (it : Agreement). described.pattern_of it.settings) (sym (same-some agreed other is)) ∙ same;
    linked = all-weaker (λ (service : Service T). is_of pattern name service ≡ true → (node : ℕ) × (1 ≤ f node))
        (λ (service : Service T). is_of pattern name service ≡ true
        → Linked (settings.PublishSubscribe service.settings) (Published (lives + 1) agreed ((Own node, 1) ∷ [])))
        (λ service has_one is. absurd-count (f (has_one is).0) (fits.counts (has_one is).0) (has_one is).1) services manned;
  }

  pub fits-entered : (node life : ℕ) (agreed : Agreement) (nodes : List (Node × ℕ))
      → Fits f pattern name services (Published life agreed nodes)
      → Fits (more_of node f) pattern name services (Published life agreed (entered (Own node) nodes))
  fits-entered node life agreed nodes fits = record {
    counts = counts-entered f node life agreed nodes fits.counts;
    patterned = fits.patterned;
    linked = fits.linked;
  }

pub fits-closed : {T : Type 0} (f g : ℕ → ℕ) (pattern : MessagingPattern) (name : List ℕ) (services : List (Service T)) (node : ℕ)
    (phase : Phase) → ((m : ℕ) → g m ≡ more_of node f m) → Fits g pattern name services phase
    → Fits f pattern name services (closed_by node phase)
fits-closed {T} f g pattern name services node phase on fits = record {
  counts = counts-closed f g node phase fits.counts on;
  patterned = λ agreed is. fits.patterned agreed (agreed-closed node phase agreed is);
  linked = all-weaker
      (λ (service : Service T). is_of pattern name service ≡ true → Linked (settings.PublishSubscribe service.settings) phase)
      (λ (service : Service T). is_of pattern name service ≡ true
      → Linked (settings.PublishSubscribe service.settings) (closed_by node phase))
      (λ service linked is agreed e. linked is agreed (agreed-closed node phase agreed e)) services fits.linked;
}
