-- A text that is written in pieces is written whole, and opens no element.
use Rattle.std.proofs.Common.{◌≡◌, ◌++◌, List, ℕ, subst, refl, ◌∙◌, append_assoc}
use Rattle.std.specs.Prelude.{Result, OnOk, Bool, true, false, ◌==◌, ◌&&◌, [], ◌∷◌, nat_le, codes, if◌then◌else◌}
use Rattle.std.specs.List.{flat_map, list_all}
use Rattle.std.proofs.lemmas.List.Folds.{list_all-append}
use Rattle.example_tracer.specs.Drawing.{escaped, opens_nothing}

-- what a successful write appended, under another name
pub renamed : {T E : Type 0} (r : Result T E) (old new a b : List ℕ) → OnOk r (new ≡ old ++ a) → a ≡ b → OnOk r (new ≡ old ++ b)
renamed r old new a b wrote same = subst (λ text. OnOk r (new ≡ old ++ text)) same wrote

-- three writes, one after the other
pub three : {T E : Type 0} (r : Result T E) (old first second new a b c : List ℕ) → first ≡ old ++ a → second ≡ first ++ b
    → OnOk r (new ≡ second ++ c) → OnOk r (new ≡ old ++ (a ++ b ++ c))
three r old first second new a b c begun went wrote =
    subst (λ text. OnOk r (new ≡ text)) (rw (went, begun) (simp append_assoc refl)) wrote

-- a byte as it is written opens nothing
inert_byte : (less and prints : Bool) (b : ℕ) → (b == 60) ≡ less
    → list_all opens_nothing (if less then codes "&lt;" else if and then codes "&amp;" else if prints then b ∷ [] else codes "?") ≡ true
inert_byte true and prints b is = refl
inert_byte false true prints b is = refl
inert_byte false false true b is = rw is refl
inert_byte false false false b is = refl

-- so does a text
pub inert_text : (text : List ℕ) → list_all opens_nothing (flat_map escaped text) ≡ true
inert_text [] = refl
inert_text (b ∷ bs) =
    list_all-append opens_nothing (escaped b) (flat_map escaped bs) ∙ rw
    (inert_byte (b == 60) (b == 38) (nat_le 32 b && nat_le b 126) b refl) (inert_text bs)
