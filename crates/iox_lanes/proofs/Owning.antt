-- What holds of each port of a list holds of those that are left after one was taken out, and of all after one was put.
use Rattle.std.proofs.Common.{ℕ, suc, ◌≡◌, ◌++◌, ◌∷◌, [], List, take, drop, sym, subst}
use Rattle.std.specs.List.{All, remove}
use Rattle.std.proofs.lemmas.List.Elements.{All-append, All-take, All-drop, All-push}

-- those that are left
pub all_left : {X : Type 0} (P : X → Type 0) (xs ys : List X) (at : ℕ) → ys ≡ remove xs at → All P xs → All P ys
all_left P xs ys at left all =
    subst (All P) (sym left) (All-append P (take at xs) (drop (suc at) xs) (All-take P at xs all) (All-drop P (suc at) xs all))

-- one more
pub all_put : {X : Type 0} (P : X → Type 0) (xs ys : List X) (x : X) → ys ≡ xs ++ x ∷ [] → All P xs → P x → All P ys
all_put P xs ys x put all one = subst (All P) (sym put) (All-push P xs x all one)
