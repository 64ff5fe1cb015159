use Rattle.std.proofs.Common.{ℕ, ◌≡◌, ◌+◌, ◌++◌, ◌∷◌, [], List, length, arith, refl, sym, ◌∙◌, subst}
use Rattle.iox_container.specs.Vectors.{MakesInTurn}

-- one more call after the others
pub MakesInTurn-push : {F X : Type 0} (step : F → ℕ → X → F → Type 0) (first : F) (at : ℕ) (xs : List X) (now : F) (n : ℕ) (x : X)
    (next : F)
    → MakesInTurn step first at xs now → n ≡ at + length xs → step now n x next → MakesInTurn step first at (xs ++ x ∷ []) next
MakesInTurn-push {F} step first at [] now n x next made e call =
    let here : n ≡ at = e ∙ omega arith in
    let S : F → Type 0 = λ f. step f n x next in
    let from_first : step first n x next = subst S (sym made) call in
    let A : ℕ → Type 0 = λ k. step first k x next in
    (next, subst A here from_first, refl)
MakesInTurn-push step first at (y ∷ ys) now n x next made e call =
    (made.0, made.1, MakesInTurn-push step made.0 (at + 1) ys now n x next made.2 (omega arith) call)
