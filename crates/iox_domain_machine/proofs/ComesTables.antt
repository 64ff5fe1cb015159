-- What comes after the others of a table of the machine, or among those of a domain.
use Rattle.std.proofs.Common.{◌≡◌, ◌≢◌, ◌≤◌, ◌<◌, ◌+◌, ◌∷◌, [], ◌++◌, ℕ, Bool, true, false, cond, List, count_by, refl, sym, ap, ◌∙◌}
use Rattle.std.proofs.Common.{arith, Ordering}
use Rattle.std.proofs.Math.Logic.{⊎_elim}
use Rattle.std.proofs.lemmas.Bool.{ne_eqb}
use Rattle.std.proofs.lemmas.Bool.Decides.{eqb_tells}
use Rattle.std.proofs.lemmas.List.Elements.{All-cons, All-head, All-nil, All-tail}
use Rattle.std.proofs.lemmas.List.Sums.{sum_by-cons}
use Rattle.std.specs.BTreeMap.{insert_entry}
use Rattle.std.specs.List.{All}
use Rattle.std.specs.Map.{keys_of, set_value}
use Rattle.std.specs.Ordering.{nat_cmp, is_eq}
use Rattle.std.specs.declared.cmp.Ordering.TheVariants.{Less, Equal, Greater}
use Rattle.iox_domain.proofs.Keys.{adds, adds_other}
use Rattle.iox_domain.proofs.Numbered.{at_number}
use Rattle.iox_domain.specs.Tries.{how_often}
use Rattle.iox_domain_machine.proofs.Found.{at_head, at_behind}
use Rattle.iox_machine.specs.Table.{at}

module _ {V : Type 0} (number : ℕ) (v : V) where
  pub at_end_other : (other : ℕ) (table : List (ℕ × V)) → other ≢ number → at other (table ++ (number, v) ∷ []) ≡ at other table
  at_end_other other [] off = at_behind other (number, v) [] (ne_eqb number other (λ same. off (sym same)))
  at_end_other other (entry ∷ table) off =
      let rest = at_end_other other table off in
      ⊎_elim
      (λ here. at_head other entry (table ++ (number, v) ∷ []) here.0 ∙ sym (at_head other entry table here.0))
      (λ not. at_behind other entry (table ++ (number, v) ∷ []) not.0 ∙ rest ∙ sym (at_behind other entry table not.0))
      (eqb_tells entry.0 other)

-- a number above all others stands nowhere
pub none_below : (next : ℕ) (keys : List ℕ) → All (λ (key : ℕ). key < next) keys → how_often next keys ≡ 0
none_below next [] all = refl
none_below next (key ∷ keys) all =
    let below : key < next = All-head (λ (key : ℕ). key < next) key keys all in
    omega (
      arith,
      none_below next keys (All-tail (λ (key : ℕ). key < next) key keys all),
      adds_other next key (λ same. absurd (omega (arith, same, below))),
    )

-- an entry that came stands once more at most
pub often_came : {V : Type 0} (other number : ℕ) (v : V) (table : List (ℕ × V))
    → how_often other (keys_of (insert_entry nat_cmp table number v)) ≤ how_often other (keys_of table) + adds other number
often_came other number v [] = omega arith
often_came {V} other number v (entry ∷ table) = by (nat_cmp number entry.0) refl (often_came other number v table)
  where
    by : (order : Ordering) → nat_cmp number entry.0 ≡ order
        → how_often other (keys_of (insert_entry nat_cmp table number v)) ≤ how_often other (keys_of table) + adds other number
        → how_often other (keys_of (insert_entry nat_cmp (entry ∷ table) number v))
        ≤ how_often other (keys_of (entry ∷ table)) + adds other number
    by Less is rest = rw is (omega arith)
    by Equal is rest = rw is (omega arith)
    by Greater is rest = rw is (omega (arith, rest))

-- what is set where something came is the same, whatever came
pub set_came : {V : Type 0} (number : ℕ) (one other w : V) (table : List (ℕ × V)) → at_number number number ≡ true
    → set_value (at_number number) (insert_entry nat_cmp table number one) w
    ≡ set_value (at_number number) (insert_entry nat_cmp table number other) w
set_came number one other w [] self =
    ap (λ b. cond b ((number, w) ∷ []) ((number, one) ∷ [])) self ∙ sym (ap (λ b. cond b ((number, w) ∷ []) ((number, other) ∷ [])) self)
set_came {V} number one other w (entry ∷ table) self = by (nat_cmp number entry.0) refl (set_came number one other w table self)
  where
    by : (order : Ordering) → nat_cmp number entry.0 ≡ order
        → set_value (at_number number) (insert_entry nat_cmp table number one) w
        ≡ set_value (at_number number) (insert_entry nat_cmp table number other) w
        → set_value (at_number number) (insert_entry nat_cmp (entry ∷ table) number one) w
        ≡ set_value (at_number number) (insert_entry nat_cmp (entry ∷ table) number other) w
    by Less is rest = rw is (
        ap (λ b. cond b ((number, w) ∷ entry ∷ table) ((number, one) ∷ set_value (at_number number) (entry ∷ table) w)) self
        ∙ sym (ap (λ b. cond b ((number, w) ∷ entry ∷ table) ((number, other) ∷ set_value (at_number number) (entry ∷ table) w)) self))
    by Equal is rest =
        let here : at_number number entry.0 ≡ true = ap is_eq is in rw is (
        ap (λ b. cond b ((entry.0, w) ∷ table) ((entry.0, one) ∷ set_value (at_number number) table w)) here
        ∙ sym (ap (λ b. cond b ((entry.0, w) ∷ table) ((entry.0, other) ∷ set_value (at_number number) table w)) here))
    by Greater is rest =
        let off : at_number number entry.0 ≡ false = ap is_eq is in
        let less : List (ℕ × V) = insert_entry nat_cmp table number one in
        let more : List (ℕ × V) = insert_entry nat_cmp table number other in
        rw is (ap (λ b. cond b ((entry.0, w) ∷ less) (entry ∷ set_value (at_number number) less w)) off
        ∙ ap (λ all. entry ∷ all) rest
        ∙ sym (ap (λ b. cond b ((entry.0, w) ∷ more) (entry ∷ set_value (at_number number) more w)) off))

-- where none are counted none pass
pub each_fails : {X : Type 0} (test : X → Bool) (xs : List X) → count_by test xs ≡ 0 → All (λ (x : X). test x ≡ false) xs
each_fails test [] none = All-nil (λ x. test x ≡ false)
each_fails {X} test (x ∷ xs) none =
    by (test x) refl (sym (sum_by-cons (λ (one : X). cond (test one) 1 0) x xs) ∙ none) (each_fails test xs)
  where
    by : (b : Bool) → test x ≡ b → cond (test x) 1 0 + count_by test xs ≡ 0
        → (count_by test xs ≡ 0 → All (λ (one : X). test one ≡ false) xs) → All (λ (one : X). test one ≡ false) (x ∷ xs)
    by true is sum rest =
        let count : ℕ = 1 in
        let one : cond (test x) count 0 ≡ count = ap (λ b. cond b count 0) is in
        absurd (omega (arith, sum, one))
    by false is sum rest = All-cons (λ (one : X). test one ≡ false) x xs is (rest (omega (arith, sum)))
