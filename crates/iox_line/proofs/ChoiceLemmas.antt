-- A word that is chosen for what it names writes it.
use Rattle.std.proofs.Common.{◌≡◌, ℕ, ◌==◌, Bool, true, false, ◌&&◌, List, [], ◌∷◌, Option, None, Some, refl, cond, ap, ◌∙◌, subst}
use Rattle.std.proofs.Common.{eqb-true}
use Rattle.std.specs.Option.{option_map}
use Rattle.iox_line.specs.Words.{same, choice, AreWritten}
use Rattle.iox_line.specs.Options.{named}

same_at : (a b : ℕ) (as' bs : List ℕ) (t : Bool) → (a == b) ≡ t → (t && same as' bs) ≡ true → (same as' bs ≡ true → as' ≡ bs)
    → a ∷ as' ≡ b ∷ bs
same_at a b as' bs true e h more = ap (λ x. x ∷ as') (eqb-true a b e) ∙ ap (λ l. b ∷ l) (more h)
same_at a b as' bs false e h more = cc

-- the same text is the same list
pub same_is : (word text : List ℕ) → same word text ≡ true → word ≡ text
same_is [] [] h = refl
same_is [] (b ∷ bs) h = cc
same_is (a ∷ as') [] h = cc
same_is (a ∷ as') (b ∷ bs) h = same_at a b as' bs (a == b) refl h (same_is as' bs)

choice_at : {A : Type 0} (text : A → List ℕ) (word row : List ℕ) (value a : A) (rest : Option A) (t : Bool) → same word row ≡ t
    → row ≡ text value
    → cond t (Some value) rest ≡ Some a → (rest ≡ Some a → word ≡ text a) → word ≡ text a
choice_at text word row value a rest true e w h more = let same_value : value ≡ a = cc in same_is word row e ∙ w ∙ ap text same_value
choice_at text word row value a rest false e w h more = more h

-- a word that names something writes it
pub choice_some : {A : Type 0} (text : A → List ℕ) (rows : List (List ℕ × A)) (word : List ℕ) (a : A) → AreWritten text rows
    → choice rows word ≡ Some a → word ≡ text a
choice_some text [] word a w h = cc
choice_some text (row ∷ rows) word a w h
    = choice_at text word row.0 row.1 a (choice rows word) (same word row.0) refl w.0 h (choice_some text rows word a w.1)

-- of a value that a function makes, what it is made of
pub map_some : {A B : Type 0} (f : A → B) (o : Option A) (b : B) → option_map f o ≡ Some b → (a : A) × (o ≡ Some a) × (f a ≡ b)
map_some f None b h = cc
map_some f (Some a) b h = (a, refl, cc)

-- what a value that is there keeps to
abbrev pub IfThere : {A : Type 0} → (A → Type 0) → Option A → Type 0
IfThere Good None = Unit {0}
IfThere Good (Some a) = Good a

-- what an option is read as is what its text writes
pub named_some : {A : Type 0} (of : List ℕ → Option A) (text : A → List ℕ) (Good : A → Type 0)
    → ((w : List ℕ) (a : A) → of w ≡ Some a → Good a × (w ≡ text a))
    → (x : Option (List ℕ)) (o : Option A) → named of x ≡ Some o → IfThere Good o × (x ≡ option_map text o)
named_some of text Good some None o h = let e : None ≡ o = cc in subst (λ q. IfThere Good q × (None ≡ option_map text q)) e (tt, refl)
named_some of text Good some (Some t) o h =
    let m = map_some (λ a. Some a) (of t) o h in
    let g = some t m.0 m.1 in
    subst (λ q. IfThere Good q × (Some t ≡ option_map text q)) m.2 (g.0, ap (λ l. Some l) g.1)

-- an option is read from what writes it
pub named_own : {A : Type 0} (of : List ℕ → Option A) (text : A → List ℕ) (Good : A → Type 0) → ((a : A) → Good a → of (text a) ≡ Some a)
    → (o : Option A) → IfThere Good o → named of (option_map text o) ≡ Some o
named_own of text Good own None g = refl
named_own of text Good own (Some a) g = ap (λ x. option_map (λ b. Some b) x) (own a g)
