-- Ports that come back to one seat keep the rule of the words, and agree.
use Rattle.std.proofs.Common.{ℕ, ◌≡◌, ◌+◌, ◌==◌, Bool, if◌then◌else◌, List, set}
use Rattle.std.proofs.Common.{refl, sym}
use Rattle.std.proofs.Common.{◌∙◌, ap, subst, inl, inr, arith}
use Rattle.std.proofs.lemmas.Bool.Decides.{eqb_tells}
use mathlib.Core.Option.{some, none}
use lib.ListN.{get_elem?}
use Rattle.atomic_table.specs.Table.{State, Me, step, Allows, Joins}
use Rattle.atomic_table.specs.Table.Act.{keeps}
use Rattle.atomic_table.proofs.Lists.{at_set, set_else, set_again}
use Rattle.iox_lanes_machine.specs.QueuesSteps.declared.access.Word.TheVariants.{Write}
use Rattle.iox_lanes_machine.specs.LanesBase.declared.words.word.SharedWord.TheVariants.{Ring}
use Rattle.iox_lanes_threads_rule.specs.Acts.{FitSome, Holds}
use Rattle.iox_lanes_threads_rule.specs.Gathered.{both_views, no_view, KnowEarly, Agree, agreed}
use Rattle.iox_lanes_threads_rule.specs.Lanes.{IsEarly, as_table}
use Rattle.iox_lanes_threads_rule.specs.Rule.{held, Sits, Ruled}
use Rattle.iox_lanes_threads_rule.specs.Service.{Stores}
use Rattle.iox_lanes_threads_rule.specs.declared.service.Service.{Service}
use Rattle.iox_lanes_threads_rule.specs.declared.view.Port.{Port}
use Rattle.iox_lanes_threads_rule.specs.declared.view.View.{View}
use Rattle.iox_lanes_threads_rule.proofs.Lists.{none_there, in_either}
use Rattle.iox_lanes_threads_rule.proofs.PortsBehind.{set_held}
use Rattle.iox_lanes_threads_rule.proofs.Seen.{seen_words_stand}

module _ (id other : ℕ) (v w : View) (state : State ℕ View) (ruled : Ruled FitSome state) (mine : get_elem? state.views id ≡ some v)
    (apart : other ≡ id → ⊥) (there : get_elem? (set state.views id (both_views v w)) other ≡ some w) where
  abbrev owner : ℕ → ℕ
  owner number = if ruled.owner number == other then id else ruled.owner number

  owner_kept : (number : ℕ) → (ruled.owner number ≡ other → ⊥) → owner number ≡ ruled.owner number
  owner_kept number off = elim (eqb_tells (ruled.owner number) other) [
    | inl same ↦ absurd (off same.1)
    | inr differs ↦ ap (λ (b : Bool). if b then id else ruled.owner number) differs.0
  ]

  owner_moved : (number : ℕ) → ruled.owner number ≡ other → owner number ≡ id
  owner_moved number is = elim (eqb_tells (ruled.owner number) other) [
    | inl same ↦ ap (λ (b : Bool). if b then id else ruled.owner number) same.0
    | inr differs ↦ absurd (differs.1 is)
  ]

  was : get_elem? state.views other ≡ some w
  was = sym (set_else state.views id other (both_views v w) apart) ∙ there

  abbrev after : List View
  after = set (set state.views id (both_views v w)) other no_view

  -- a port that kept its seat
  stays : (seat : ℕ) (p : Port) → (seat ≡ other → ⊥) → Sits ruled.owner ruled.ports seat p → Sits owner ruled.ports seat p
  stays seat p off sits = (owner_kept p.number (λ e. off (sym sits.0 ∙ e)) ∙ sits.0, sits.1)

  now_waiting : (seat : ℕ) (u : View) (i : ℕ) (p : Port) → get_elem? after seat ≡ some u → get_elem? u.waiting i ≡ some p
      → (p.number ≡ u.from + i) × Sits owner ruled.ports seat p
  now_waiting seat u i p got has = elim (at_set (set state.views id (both_views v w)) other seat no_view u got) [
    | inl here ↦ absurd (none_there p i (ap (λ (z : View). get_elem? z.waiting i) here.1 ∙ has))
    | inr old ↦ elim (at_set state.views id seat (both_views v w) u old.1) [
      | inl here ↦ absurd (none_there p i (ap (λ (z : View). get_elem? z.waiting i) here.1 ∙ has))
      | inr aside ↦ let waits = ruled.waiting seat u i p aside.1 has in (waits.0, stays seat p old.0 waits.1)
    ]
  ]

  now_seated : (seat : ℕ) (u : View) (i : ℕ) (p : Port) → get_elem? after seat ≡ some u → get_elem? u.ports i ≡ some p
      → Sits owner ruled.ports seat p
  now_seated seat u i p got has = elim (at_set (set state.views id (both_views v w)) other seat no_view u got) [
    | inl here ↦ absurd (none_there p i (ap (λ (z : View). get_elem? z.ports i) here.1 ∙ has))
    | inr old ↦ elim (at_set state.views id seat (both_views v w) u old.1) [
      | inl here ↦ elim (in_either v.ports w.ports i p (ap (λ (z : View). get_elem? z.ports i) here.1 ∙ has)) [
        | inl own ↦
            let sits = ruled.seated id v i p mine own in
            (owner_kept p.number (λ e. apart (sym e ∙ sits.0)) ∙ sits.0 ∙ sym here.0, sits.1)
        | inr theirs ↦
            let sits = ruled.seated other w theirs.0 p was theirs.2 in
            (owner_moved p.number sits.0 ∙ sym here.0, sits.1)
      ]
      | inr aside ↦ stays seat p old.0 (ruled.seated seat u i p aside.1 has)
    ]
  ]

pub joins : (id other : ℕ) (v w : View) → Joins Holds id v other w (both_views v w) no_view
joins id other v w state ruled mine apart there = record {
  ports = ruled.ports;
  owner = owner id other v w state ruled mine apart there;
  fit = ruled.fit;
  waiting = now_waiting id other v w state ruled mine apart there;
  seated = now_seated id other v w state ruled mine apart there;
}

module _ (id : ℕ) (v : View) (state : State ℕ View) (ruled : Ruled FitSome state) (mine : get_elem? state.views id ≡ some v) where
  abbrev service : Service
  service = ruled.fit.0

  among : (i : ℕ) (p : Port) → get_elem? v.ports i ≡ some p → get_elem? ruled.ports p.number ≡ some p
  among i p got = (ruled.seated id v i p mine got).1

  early_here : KnowEarly service v.ports → IsEarly (as_table service state.words)
  early_here early connection ring less =
      let e = early connection ring less in
      let same = ruled.fit.1.copied (e.1).number e.1 (Ring connection ring Write) (among e.0 e.1 e.2) (less, tt) e.3 in
      omega (arith, e.4, same)

  pub all_agree : Agree v.ports
  all_agree at number place q p w got there early seen stores =
      let is : q.service ≡ service = (ruled.fit.1.ports q.number q (among at q got)).service in
      let stand = seen_words_stand service state.words ruled.ports q.number p.number place q p w ruled.fit.1 ruled.fit.2
      (early_here (subst (λ (s : Service). KnowEarly s v.ports) is early)) (among at q got) seen in
      subst (λ (s : Service). held s q.known w ≡ held s p.known w) (sym is)
      (stand.1 (among number p there) (subst (λ (s : Service). Stores s p.name w) is stores))

pub agreeing : (slots id : ℕ) (me : Me ℕ View) → Allows Holds slots id me 0 (λ n. n) (agreed (step slots 0 0 0 none) me)
agreeing slots id me state ruled homes mine small = (
  me.0,
  keeps,
  tt,
  subst Holds (λ i. record {
    words = sym (set_held state.words 0) i;
    homes = state.homes;
    views = sym (set_again state.views id me.0 mine) i;
  }) ruled,
  (refl, all_agree id me.0 state ruled mine),
)
