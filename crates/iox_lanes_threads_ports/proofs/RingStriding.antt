-- A port's pops and pushes on its rings, each at once.
use Rattle.std.proofs.Common.{ℕ, ◌≡◌, ◌+◌, Bool, false, ap, subst, sym, ◌∙◌, arith}
use Rattle.atomic_table.specs.Table.{Me}
use Rattle.iox_lanes_machine.specs.QueuesSteps.declared.access.Access.{Access}
use Rattle.iox_lanes_machine.specs.QueuesSteps.declared.access.Access.TheVariants as own
use Rattle.iox_lanes_machine.specs.LanesBase.Words.{on_ring}
use Rattle.iox_lanes_machine.specs.LanesBase.declared.words.access.SharedAccess.{SharedAccess}
use Rattle.iox_lanes_machine.specs.LanesBase.declared.words.word.ConnectionRing.{ConnectionRing}
use Rattle.iox_lanes_threads_rule.specs.declared.view.View.{View}
use Rattle.iox_lanes_threads_ports.specs.Strides.{AsksWord, KeepsPositions, LaneKind, MakesTwo, RunsAhead, StridesOn, StrodeBy, TouchesWord}

touches_ring : (connection : ℕ) (ring : ConnectionRing) (cells : ℕ) (asked : Access) → AsksWord asked
    → TouchesWord (on_ring connection ring cells asked)
touches_ring connection ring cells (own.Load word) asks = tt
touches_ring connection ring cells (own.Store word value) asks = tt
touches_ring connection ring cells (own.Exchange word old new) asks = tt
touches_ring connection ring cells own.Local asks = absurd asks

-- what asks for a word of a ring touches a shared word
pub asked_touches : (connection : ℕ) (ring : ConnectionRing) (cells : ℕ) (asked next : Access) (access : SharedAccess) → asked ≡ next
    → AsksWord next → access ≡ on_ring connection ring cells asked → TouchesWord access
asked_touches connection ring cells asked next access same asks is =
    subst TouchesWord (sym is) (touches_ring connection ring cells asked (subst AsksWord (sym same) asks))

-- steps after steps
pub strides_along : {L C : Type 0} (kind : LaneKind L C) (one more : ℕ) (me mid me' : Me ℕ View) (lane between lane' : L)
    → StridesOn kind one me lane mid between → StridesOn kind more mid between me' lane' → StridesOn kind (one + more) me lane me' lane'
strides_along kind one more me mid me' lane between lane' first second p begun made run =
    let all : made + one + more ≡ made + (one + more) = omega arith in
    subst (λ (n : ℕ). StrodeBy kind p begun n me' lane') all (second p begun (made + one) (first p begun made run))

-- steps to where a lane took an answer are steps to where its call stands then
module _ {L C S : Type 0} (kind : LaneKind L C) (stage : S → C) (asks : S → Access) (takes : S → ℕ → S)
    (goes_on : (lane : L) (state : S) (answer : ℕ) → KeepsPositions (asks state) → AsksWord (asks (takes state answer))
    → kind.after answer (kind.called (stage state) lane) ≡ kind.called (stage (takes state answer)) lane) where
  pub strides_to : (lane from : L) (me me' : Me ℕ View) (more : ℕ) (state next : S) (answer : ℕ) → KeepsPositions (asks state)
      → AsksWord (asks next) → next ≡ takes state answer
      → StridesOn kind more me from me' (kind.after answer (kind.called (stage state) lane))
      → StridesOn kind more me from me' (kind.called (stage next) lane)
  strides_to lane from me me' more state next answer keeps asked is on =
      subst (StridesOn kind more me from me')
      (goes_on lane state answer keeps (subst (λ (s : S). AsksWord (asks s)) is asked)
      ∙ ap (λ (s : S). kind.called (stage s) lane) (sym is)) on

  -- after the first of two accesses a call stands at the second
  pub stands_second : (lane : L) (me mid : Me ℕ View) (state next : S) (answer : ℕ) → MakesTwo asks takes state → next ≡ takes state answer
      → StridesOn kind 1 me (kind.called (stage state) lane) mid (kind.after answer (kind.called (stage state) lane))
      → AsksWord (asks next) × StridesOn kind 1 me (kind.called (stage state) lane) mid (kind.called (stage next) lane)
  stands_second lane me mid state next answer two is on =
      let asked : AsksWord (asks next) = subst (λ (s : S). AsksWord (asks s)) (sym is) (two.second answer) in (
        asked,
        strides_to lane (kind.called (stage state) lane) me mid 1 state next answer two.keeps asked is on,
      )

-- what a pop or a push that isn't over after two accesses does
module _ {S : Type 0} (asks : S → Access) (takes : S → ℕ → S) (over : S → Bool) (begun seen found : S) (a b : ℕ) where
  pub found_more : RunsAhead asks takes over begun → seen ≡ takes begun a → found ≡ takes seen b → over found ≡ false
      → KeepsPositions (asks seen) × MakesTwo asks takes found
  found_more runs first second going =
      let both : found ≡ takes (takes begun a) b = second ∙ ap (λ (s : S). takes s b) first in
      let on : over (takes (takes begun a) b) ≡ false = ap over (sym both) ∙ going in (
        subst (λ (s : S). KeepsPositions (asks s)) (sym first) (runs.keeps a b on),
        subst (MakesTwo asks takes) (sym both) (runs.more a b on),
      )
