use Rattle.std.proofs.Common.{arith, refl, subst, ◌≡◌, ◌∷◌, ℕ, List, reverse, true}
use Rattle.std.proofs.lemmas.List.{length-set}
use Rattle.iox_container.specs.Unique.{AreFree}
use Rattle.iox_container.proofs.FreeLists.{AreFree-fits, AreFree-first, AreFree-taken, Takes-first, reverse-last}
use Rattle.iox_container.proofs.unique.UniqueIndexSet.acquire_raw_index.Goals as goal

pub index_mut-requires : goal.index_mut-requires
index_mut-requires c =
    let C : List ℕ → Type 0 = λ free. AreFree c.self.inside.held.items free in
    let ready : C (c.in-Some.index ∷ reverse c.pop.new.self.items)
    = subst C (reverse-last _ _ _ c.in-Some.ensures.items) c.self.invariant.0 in
    omega (arith, AreFree-first _ _ _ ready, c.self.inside.held.ok.0)

pub invariant_of-self-2 : goal.invariant_of-self-2
invariant_of-self-2 c =
    let C : List ℕ → Type 0 = λ free. AreFree c.self.inside.held.items free in
    let ready : C (c.in-Some.index ∷ reverse c.pop.new.self.items)
    = subst C (reverse-last _ _ _ c.in-Some.ensures.items) c.self.invariant.0 in (
      AreFree-taken _ _ _ ready,
      rw (length-set c.self.inside.held.items c.in-Some.index true) (omega (arith, c.self.invariant.1, c.pop.ensures.capacity)),
      λ locked. cc,
    )

pub returns-clause-taken : goal.returns-clause-taken
returns-clause-taken c =
    let C : List ℕ → Type 0 = λ free. AreFree c.self.inside.held.items free in
    let split : reverse c.self.inside.free.items ≡ c.in-Some.index ∷ reverse c.pop.new.self.items
    = reverse-last _ _ _ c.in-Some.ensures.items in
    let ready : C (c.in-Some.index ∷ reverse c.pop.new.self.items) = subst C split c.self.invariant.0 in
    rw (← c.self.view_is, split, length-set c.self.inside.held.items c.in-Some.index true) (Takes-first _ _ _ _ _ _ ready refl)

pub returns-clause-one_more : goal.returns-clause-one_more
returns-clause-one_more c =
    let C : List ℕ → Type 0 = λ free. AreFree c.self.inside.held.items free in
    let split : reverse c.self.inside.free.items ≡ c.in-Some.index ∷ reverse c.pop.new.self.items
    = reverse-last _ _ _ c.in-Some.ensures.items in
    let ready : C (c.in-Some.index ∷ reverse c.pop.new.self.items) = subst C split c.self.invariant.0 in
    let fits = AreFree-fits _ _ ready in
    rw (← c.self.view_is, split, length-set c.self.inside.held.items c.in-Some.index true) (omega (arith, fits))
