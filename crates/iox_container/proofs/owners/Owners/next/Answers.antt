use Rattle.std.proofs.Common.{ℕ, ◌≢◌, ◌≤◌, Some, List, sym, subst}
use Rattle.std.specs.List.{slice_get}
use Rattle.std.specs.Prelude.{IfSome, IfNone}
use Rattle.iox_container.specs.Owners.{Lists, IsNext}
use Rattle.iox_container.proofs.Had.{next-had, none-had}
use Rattle.iox_container.proofs.owners.Owners.next.Goals as goal

pub returns-clause-some : goal.returns-clause-some
returns-clause-some c =
    let lists : Lists c.self.inside.last.items c.as_slice.result.now =
    subst (λ (es : List (ℕ × ℕ)). Lists c.self.inside.last.items es) (sym c.as_slice.ensures.value) c.self.invariant.0 in
    rw (← c.self.view_is)
    (subst (λ (o : ℕ). IfSome c.next_of.result (λ place. IsNext c.self.inside.last.items o c.args.from place)) c.value.ensures.value
    (next-had c.self.inside.last.items c.as_slice.result.now lists c.next_of.ensures.bound c.value.result c.args.from c.next_of.result
    c.next_of.ensures.some))

pub returns-clause-none : goal.returns-clause-none
returns-clause-none c =
    let lists : Lists c.self.inside.last.items c.as_slice.result.now =
    subst (λ (es : List (ℕ × ℕ)). Lists c.self.inside.last.items es) (sym c.as_slice.ensures.value) c.self.invariant.0 in
    rw (← c.self.view_is)
    (subst (λ (o : ℕ). IfNone c.next_of.result ((place : ℕ) → c.args.from ≤ place → slice_get c.self.inside.last.items place ≢ Some o))
    c.value.ensures.value
    (none-had c.self.inside.last.items c.as_slice.result.now lists c.value.result c.args.from c.next_of.result c.next_of.ensures.none))
