-- Tables whose entries are in slots: which slots they are in, and what of them stays where one entry is removed or another one comes.
use Rattle.std.proofs.Common.{ℕ, zero, suc, ◌≡◌, ◌+◌, ◌<◌, ◌≤◌, ◌==◌, Bool, true, false, cond, not, List, [], ◌∷◌, ◌++◌, map}
use Rattle.std.proofs.Common.{slice_get, Option, Some, None, refl, sym, ◌∙◌, ap, subst, inl, inr, arith}
use Rattle.std.specs.Prelude.{filter, find, option_map}
use Rattle.std.specs.Map.{keys_of}
use Rattle.std.proofs.lemmas.Bool.{cases_Bool, eq-eqb, eqb-true, ne_eqb}
use Rattle.std.proofs.lemmas.Bool.Decides.{eqb_tells}
use Rattle.iox_lanes_machine.specs.LedgerUses.{count, one_if}
use Rattle.iox_lanes_machine.proofs.Ends.{some_is}
use Rattle.iox_machine.specs.Table.{at, changed, removed}

pub one_same : (x : ℕ) → one_if (x == x) ≡ 1
one_same x = ap one_if (eq-eqb x x refl)

pub one_other : (x y : ℕ) → (x ≡ y → ⊥) → one_if (x == y) ≡ 0
one_other x y off = elim (eqb_tells x y) [
  | inl same ↦ absurd (off same.1)
  | inr apart ↦ ap one_if apart.0
]

-- what is counted stands somewhere
pub counted_stands : (xs : List ℕ) (x : ℕ) → 0 < count x xs → (index : ℕ) × (slice_get xs index ≡ Some x)
counted_stands [] x some = absurd (omega (arith, some))
counted_stands (y ∷ xs) x some = elim (eqb_tells y x) [
  | inl same ↦ (0, ap Some same.1)
  | inr apart ↦ let rest = counted_stands xs x (omega (arith, some, ap one_if apart.0)) in (suc rest.0, rest.1)
]

-- a list of the same at each of its members
pub map_same : {X : Type 0} (f g : ℕ → X) (xs : List ℕ) → ((x : ℕ) → 0 < count x xs → f x ≡ g x) → map f xs ≡ map g xs
map_same f g [] same = refl
map_same f g (x ∷ xs) same =
    ap (λ y. y ∷ map f xs) (same x (omega (arith, one_same x)))
    ∙ ap (λ ys. g x ∷ ys) (map_same f g xs (λ y some. same y (omega (arith, some))))

pub not_both : {A : Type 0} (b : Bool) → b ≡ true → b ≡ false → A
not_both b t f = absurd (differ (sym t ∙ f))
  where
    differ : true ≡ false → ⊥
    differ e = cc e

abbrev pub keyed : {W : Type 0} → ℕ → W → List (ℕ × W) → List (ℕ × W)
keyed number w rest = (number, w) ∷ rest

module _ {V : Type 0} where
  abbrev pub named : {W : Type 0} → (V → W) → List (ℕ × V) → List (ℕ × W)
  named {W} f table = map {B = ℕ × W} (λ (it : ℕ × V). (it.0, f it.1)) table

  -- tables of the same at each entry
  pub entries_same : {W : Type 0} (f g : V → W) (table : List (ℕ × V))
      → ((index : ℕ) (entry : ℕ × V) → slice_get table index ≡ Some entry → f entry.1 ≡ g entry.1)
      → named f table ≡ named g table
  entries_same f g [] same = refl
  entries_same {W} f g (entry ∷ table) same =
      ap (λ (w : W). keyed entry.0 w (named f table)) (same 0 entry refl)
      ∙ ap (λ (rest : List (ℕ × W)). keyed entry.0 (g entry.1) rest) (entries_same f g table (λ index it is. same (suc index) it is))

  mapped_by : {W : Type 0} (f : V → W) (b : Bool) (entry : ℕ × V) (one : Option (ℕ × W)) (other : Option (ℕ × V))
      → option_map (λ (it : ℕ × W). it.1) one ≡ option_map f (option_map (λ (it : ℕ × V). it.1) other)
      → option_map (λ (it : ℕ × W). it.1) (cond b (Some (entry.0, f entry.1)) one)
      ≡ option_map f (option_map (λ (it : ℕ × V). it.1) (cond b (Some entry) other))
  mapped_by f true entry one other e = refl
  mapped_by f false entry one other e = e

  -- what goes by a number among those of other values
  pub at_mapped : {W : Type 0} (f : V → W) (number : ℕ) (table : List (ℕ × V))
      → at number (named f table) ≡ option_map f (at number table)
  at_mapped f number [] = refl
  at_mapped {W} f number (entry ∷ table) =
      mapped_by f (entry.0 == number) entry
      (find (λ (it : ℕ × W). it.0 == number) (named f table))
      (find (λ (it : ℕ × V). it.0 == number) table) (at_mapped f number table)

  same_tail : (b : Bool) (entry : ℕ × V) (one other : Option (ℕ × V))
      → option_map (λ (it : ℕ × V). it.1) one ≡ option_map (λ (it : ℕ × V). it.1) other
      → option_map (λ (it : ℕ × V). it.1) (cond b (Some entry) one) ≡ option_map (λ (it : ℕ × V). it.1) (cond b (Some entry) other)
  same_tail true entry one other e = refl
  same_tail false entry one other e = e

  -- another value by a number
  pub at_changed : (number : ℕ) (v was : V) (table : List (ℕ × V)) → at number table ≡ Some was
      → at number (changed number v table) ≡ Some v
  at_changed number v was [] e = absurd (cc e)
  at_changed number v was (entry ∷ table) e = by_test (at_changed number v was table) (entry.0 == number) refl
    where
      by_test : (at number table ≡ Some was → at number (changed number v table) ≡ Some v) → (b : Bool) → (entry.0 == number) ≡ b
          → at number (cond b (number, v) entry ∷ changed number v table) ≡ Some v
      by_test more true is
          = ap (λ (b : Bool). option_map (λ (it : ℕ × V). it.1) (cond b (Some (number, v)) (find (λ (it : ℕ × V). it.0 == number)
          (changed number v table)))) (eq-eqb number number refl)
      by_test more false is =
          ap (λ (b : Bool). option_map (λ (it : ℕ × V). it.1) (cond b (Some entry) (find (λ (it : ℕ × V). it.0 == number)
          (changed number v table)))) is
          ∙ more (sym (ap (λ (b : Bool). option_map (λ (it : ℕ × V). it.1) (cond b (Some entry)
          (find (λ (it : ℕ × V). it.0 == number) table))) is) ∙ e)

  pub at_changed_other : (number other : ℕ) (v : V) (table : List (ℕ × V)) → (other ≡ number → ⊥)
      → at other (changed number v table) ≡ at other table
  at_changed_other number other v [] apart = refl
  at_changed_other number other v (entry ∷ table) apart =
      by_test (at_changed_other number other v table apart) (entry.0 == number) refl
    where
      by_test : at other (changed number v table) ≡ at other table → (b : Bool) → (entry.0 == number) ≡ b
          → at other (cond b (number, v) entry ∷ changed number v table) ≡ at other (entry ∷ table)
      by_test more true is =
          ap (λ (b : Bool). option_map (λ (it : ℕ × V). it.1) (cond b (Some (number, v)) (find (λ (it : ℕ × V). it.0 == other)
          (changed number v table)))) (ne_eqb number other (λ same. apart (sym same)))
          ∙ more
          ∙ sym (ap (λ (b : Bool). option_map (λ (it : ℕ × V). it.1) (cond b (Some entry)
          (find (λ (it : ℕ × V). it.0 == other) table))) (ne_eqb entry.0 other (λ same. apart (sym same ∙ eqb-true entry.0 number is))))
      by_test more false is = same_tail (entry.0 == other) entry (find (λ (it : ℕ × V). it.0 == other) (changed number v table))
          (find (λ (it : ℕ × V). it.0 == other) table) more

  -- another value of one number, among those of other values
  pub changed_mapped : {W : Type 0} (f g : V → W) (number : ℕ) (v : W) (table : List (ℕ × V))
      → ((index : ℕ) (entry : ℕ × V) → slice_get table index ≡ Some entry → entry.0 ≡ number → v ≡ g entry.1)
      → ((index : ℕ) (entry : ℕ × V) → slice_get table index ≡ Some entry → (entry.0 ≡ number → ⊥) → f entry.1 ≡ g entry.1)
      → changed number v (named f table) ≡ named g table
  changed_mapped f g number v [] here away = refl
  changed_mapped {W} f g number v (entry ∷ table) here away =
      ap (λ (rest : List (ℕ × W)). cond {A = ℕ × W} (entry.0 == number) (number, v) (entry.0, f entry.1) ∷ rest)
      (changed_mapped f g number v table (λ index it is. here (suc index) it is) (λ index it is. away (suc index) it is))
      ∙ by_test (entry.0 == number) refl
    where
      by_test : (b : Bool) → (entry.0 == number) ≡ b
          → cond {A = ℕ × W} b (number, v) (entry.0, f entry.1) ∷ named g table ≡ keyed entry.0 (g entry.1) (named g table)
      by_test true e =
          ap (λ (k : ℕ). keyed k v (named g table)) (sym (eqb-true entry.0 number e))
          ∙ ap (λ (w : W). keyed entry.0 w (named g table)) (here 0 entry refl (eqb-true entry.0 number e))
      by_test false e = ap (λ (w : W). keyed entry.0 w (named g table))
          (away 0 entry refl (λ same. not_both (entry.0 == number) (eq-eqb entry.0 number same) e))

  -- and what is left where one is removed
  pub removed_mapped : {W : Type 0} (f : V → W) (number : ℕ) (table : List (ℕ × V))
      → removed number (named f table) ≡ named f (removed number table)
  removed_mapped f number [] = refl
  removed_mapped {W} f number (entry ∷ table) = by_test (entry.0 == number) (removed_mapped f number table)
    where
      by_test : (b : Bool) → removed number (named f table) ≡ named f (removed number table)
          → cond (not b) ((entry.0, f entry.1) ∷ removed number (named f table)) (removed number (named f table))
          ≡ named f (cond (not b) (entry ∷ removed number table) (removed number table))
      by_test true e = e
      by_test false e = ap (λ rest. (entry.0, f entry.1) ∷ rest) e

  abbrev pub one_entry : ℕ → V → ℕ × V
  one_entry number v = (number, v)

  -- what goes by a number stands somewhere
  pub stands_at_index : (number : ℕ) (v : V) (table : List (ℕ × V)) → at number table ≡ Some v
      → (index : ℕ) × (slice_get table index ≡ Some (number, v))
  stands_at_index number v [] is = absurd (cc is)
  stands_at_index number v (entry ∷ table) is = by_test (stands_at_index number v table) (entry.0 == number) refl is
    where
      pair : entry.0 ≡ number → entry.1 ≡ v → entry ≡ (number, v)
      pair a b = ap (λ (k : ℕ). one_entry k entry.1) a ∙ ap (λ (w : V). one_entry number w) b

      by_test : (at number table ≡ Some v → (index : ℕ) × (slice_get table index ≡ Some (number, v))) → (b : Bool)
          → (entry.0 == number) ≡ b
          → option_map (λ (it : ℕ × V). it.1) (cond b (Some entry) (find (λ (it : ℕ × V). it.0 == number) table)) ≡ Some v
          → (index : ℕ) × (slice_get (entry ∷ table) index ≡ Some (number, v))
      by_test more true e h = (0, ap Some (pair (eqb-true entry.0 number e) (some_is entry.1 v h)))
      by_test more false e h = let rest = more h in (suc rest.0, rest.1)

  key_counted : (table : List (ℕ × V)) (index : ℕ) (entry : ℕ × V) → slice_get table index ≡ Some entry
      → 0 < count entry.0 (keys_of table)
  key_counted [] index entry is = absurd (cc is)
  key_counted (first ∷ table) zero entry is = omega (
    arith,
    one_same entry.0,
    ap (λ (it : ℕ × V). one_if (it.0 == entry.0))
        (some_is first entry is),
  )
  key_counted (first ∷ table) (suc index) entry is = omega (arith, key_counted table index entry is)

  -- two entries of one number are one
  pub same_entry : (table : List (ℕ × V)) → ((number : ℕ) → count number (keys_of table) ≤ 1) → (i j : ℕ) (one other : ℕ × V)
      → slice_get table i ≡ Some one → slice_get table j ≡ Some other → one.0 ≡ other.0 → one ≡ other
  same_entry [] once i j one other is at_other e = absurd (cc is)
  same_entry (first ∷ table) once zero zero one other is at_other e = some_is one other (sym is ∙ at_other)
  same_entry (first ∷ table) once zero (suc j) one other is at_other e = absurd (omega (
    arith,
    once one.0,
    one_same one.0,
    ap (λ (it : ℕ × V). one_if (it.0 == one.0)) (some_is first one is),
    key_counted table j other at_other,
    ap (λ (k : ℕ). count k (keys_of table)) e,
  ))
  same_entry (first ∷ table) once (suc i) zero one other is at_other e = absurd (omega (
    arith,
    once other.0,
    one_same other.0,
    ap (λ (it : ℕ × V). one_if (it.0 == other.0)) (some_is first other at_other),
    key_counted table i one is,
    ap (λ (k : ℕ). count k (keys_of table)) e,
  ))
  same_entry (first ∷ table) once (suc i) (suc j) one other is at_other e =
      same_entry table (λ number. omega (arith, once number)) i j one other is at_other e

  -- keys stay apart where one is removed, or another comes
  keys_removed : (number k : ℕ) (table : List (ℕ × V)) → count k (keys_of (removed number table)) ≤ count k (keys_of table)
  keys_removed number k [] = omega arith
  keys_removed number k (entry ∷ table) = by_test (entry.0 == number) (keys_removed number k table)
    where
      by_test : (b : Bool) → count k (keys_of (removed number table)) ≤ count k (keys_of table)
          → count k (keys_of (cond (not b) (entry ∷ removed number table) (removed number table))) ≤ count k (keys_of (entry ∷ table))
      by_test true h = omega (arith, h)
      by_test false h = omega (arith, h)

  pub once_removed : (number : ℕ) (table : List (ℕ × V)) → ((k : ℕ) → count k (keys_of table) ≤ 1)
      → (k : ℕ) → count k (keys_of (removed number table)) ≤ 1
  once_removed number table once k = omega (arith, once k, keys_removed number k table)

  no_key : (number : ℕ) (table : List (ℕ × V)) → at number table ≡ None → count number (keys_of table) ≡ 0
  no_key number [] e = refl
  no_key number (entry ∷ table) e = by_test (no_key number table) (entry.0 == number) refl e
    where
      by_test : (at number table ≡ None → count number (keys_of table) ≡ 0) → (b : Bool) → (entry.0 == number) ≡ b
          → option_map (λ (it : ℕ × V). it.1) (cond b (Some entry) (find (λ (it : ℕ × V). it.0 == number) table)) ≡ None
          → one_if (entry.0 == number) + count number (keys_of table) ≡ 0
      by_test more true is h = absurd (cc h)
      by_test more false is h = omega (arith, ap one_if is, more h)

  keys_appended : (k number : ℕ) (v : V) (table : List (ℕ × V))
      → count k (keys_of (table ++ (number, v) ∷ [])) ≡ count k (keys_of table) + one_if (number == k)
  keys_appended k number v [] = omega arith
  keys_appended k number v (entry ∷ table) = omega (arith, keys_appended k number v table)

  pub once_appended : (number : ℕ) (v : V) (table : List (ℕ × V)) → at number table ≡ None → ((k : ℕ) → count k (keys_of table) ≤ 1)
      → (k : ℕ) → count k (keys_of (table ++ (number, v) ∷ [])) ≤ 1
  once_appended number v table none once k = elim (eqb_tells number k) [
    | inl same ↦ omega (
      arith,
      keys_appended k number v table,
      ap one_if same.0,
      no_key number table none,
      ap (λ (x : ℕ). count x (keys_of table)) same.1,
    )
    | inr apart ↦ omega (arith, keys_appended k number v table, ap one_if apart.0, once k)
  ]

  -- which entries a removal leaves, and an arrival makes
  pub left_entry : (number : ℕ) (table : List (ℕ × V)) (index : ℕ) (entry : ℕ × V) → slice_get (removed number table) index ≡ Some entry
      → (before : ℕ) × (slice_get table before ≡ Some entry)
  left_entry number [] index entry is = absurd (cc is)
  left_entry number (first ∷ table) index entry is =
      by_test (λ i h. left_entry number table i entry h) (first.0 == number) index is
    where
      by_test : ((i : ℕ) → slice_get (removed number table) i ≡ Some entry → (before : ℕ) × (slice_get table before ≡ Some entry))
          → (b : Bool) (i : ℕ)
          → slice_get (cond (not b) (first ∷ removed number table) (removed number table)) i ≡ Some entry
          → (before : ℕ) × (slice_get (first ∷ table) before ≡ Some entry)
      by_test more true i h = let rest = more i h in (suc rest.0, rest.1)
      by_test more false zero h = (0, h)
      by_test more false (suc i) h = let rest = more i h in (suc rest.0, rest.1)

  pub left_apart : (number : ℕ) (table : List (ℕ × V)) (index : ℕ) (entry : ℕ × V) → slice_get (removed number table) index ≡ Some entry
      → entry.0 ≡ number → ⊥
  left_apart number [] index entry is e = absurd (cc is)
  left_apart number (first ∷ table) index entry is e =
      by_test (λ i h. left_apart number table i entry h e) (first.0 == number) refl index is
    where
      by_test : ((i : ℕ) → slice_get (removed number table) i ≡ Some entry → ⊥) → (b : Bool) → (first.0 == number) ≡ b → (i : ℕ)
          → slice_get (cond (not b) (first ∷ removed number table) (removed number table)) i ≡ Some entry → ⊥
      by_test more true t i h = more i h
      by_test more false t zero h = not_both (first.0 == number)
          (eq-eqb first.0 number (ap (λ (x : ℕ × V). x.0) (some_is first entry h) ∙ e)) t
      by_test more false t (suc i) h = more i h

  pub appended_entry : (last : ℕ × V) (table : List (ℕ × V)) (P : ℕ × V → Type 0)
      → ((index : ℕ) (entry : ℕ × V) → slice_get table index ≡ Some entry → P entry) → P last
      → (index : ℕ) (entry : ℕ × V) → slice_get (table ++ last ∷ []) index ≡ Some entry → P entry
  appended_entry last [] P each here zero entry is = subst P (some_is last entry is) here
  appended_entry last [] P each here (suc index) entry is = absurd (cc is)
  appended_entry last (first ∷ table) P each here zero entry is = each 0 entry is
  appended_entry last (first ∷ table) P each here (suc index) entry is
      = appended_entry last table P (λ i it h. each (suc i) it h) here index entry is

-- the slots of those that pass a test
module _ {V : Type 0} (slot : V → ℕ) (test : V → Bool) where
  abbrev pub slots_by : List (ℕ × V) → List ℕ
  slots_by table = map (λ (entry : ℕ × V). slot entry.1) (filter (λ (entry : ℕ × V). test entry.1) table)

  abbrev with_entry : Bool → ℕ × V → List (ℕ × V) → List ℕ
  with_entry b entry table = map (λ (it : ℕ × V). slot it.1) (cond b (entry ∷ filter (λ (it : ℕ × V). test it.1) table)
      (filter (λ (it : ℕ × V). test it.1) table))

  on : (entry : ℕ × V) (table : List (ℕ × V)) → test entry.1 ≡ true → slots_by (entry ∷ table) ≡ slot entry.1 ∷ slots_by table
  on entry table passes = ap (λ (b : Bool). with_entry b entry table) passes

  off : (entry : ℕ × V) (table : List (ℕ × V)) → test entry.1 ≡ false → slots_by (entry ∷ table) ≡ slots_by table
  off entry table fails = ap (λ (b : Bool). with_entry b entry table) fails

  -- an entry that passes has its slot there
  pub entry_counted : (table : List (ℕ × V)) (index : ℕ) (entry : ℕ × V) → slice_get table index ≡ Some entry → test entry.1 ≡ true
      → 0 < count (slot entry.1) (slots_by table)
  entry_counted [] index entry is passes = absurd (cc is)
  entry_counted (first ∷ table) zero entry is passes =
      let same : first ≡ entry = some_is first entry is in
      omega (
        arith,
        one_same (slot entry.1),
        ap (count (slot entry.1)) (on first table (subst (λ (it : ℕ × V). test it.1 ≡ true) (sym same) passes)),
        ap (λ (it : ℕ × V). one_if (slot it.1 == slot entry.1)) same,
      )
  entry_counted (first ∷ table) (suc index) entry is passes =
      let rest = entry_counted table index entry is passes in
      elim (cases_Bool (test first.1)) [
        | inl t ↦ omega (arith, rest, ap (count (slot entry.1)) (on first table t))
        | inr f ↦ omega (arith, rest, ap (count (slot entry.1)) (off first table f))
      ]

  -- and a slot that is there is that of an entry that passes
  pub counted_entry : (table : List (ℕ × V)) (x : ℕ) → 0 < count x (slots_by table)
      → (index : ℕ) × (entry : ℕ × V) × (slice_get table index ≡ Some entry) × (test entry.1 ≡ true) × (slot entry.1 ≡ x)
  counted_entry [] x some = absurd (omega (arith, some))
  counted_entry (first ∷ table) x some = elim (cases_Bool (test first.1)) [
    | inl t ↦ elim (eqb_tells (slot first.1) x) [
      | inl same ↦ (0, first, refl, t, same.1)
      | inr apart ↦
          let rest = counted_entry table x (omega (arith, some, ap (count x) (on first table t), ap one_if apart.0)) in
          (suc rest.0, rest.1, rest.2, rest.3, rest.4)
    ]
    | inr f ↦
        let rest = counted_entry table x (omega (arith, some, ap (count x) (off first table f))) in
        (suc rest.0, rest.1, rest.2, rest.3, rest.4)
  ]

  -- two of them in one slot are one, where it is there once
  pub one_in_slot : (table : List (ℕ × V)) (x : ℕ) → count x (slots_by table) ≤ 1 → (i j : ℕ) (one other : ℕ × V)
      → slice_get table i ≡ Some one → slice_get table j ≡ Some other → test one.1 ≡ true → test other.1 ≡ true
      → slot one.1 ≡ x → slot other.1 ≡ x → one ≡ other
  one_in_slot [] x once i j one other is at_other t u a b = absurd (cc is)
  one_in_slot (first ∷ table) x once zero zero one other is at_other t u a b = some_is one other (sym is ∙ at_other)
  one_in_slot (first ∷ table) x once zero (suc j) one other is at_other t u a b = absurd (omega (
    arith,
    once,
    ap (count x) (on first table (subst (λ (it : ℕ × V). test it.1 ≡ true) (sym (some_is first one is)) t)),
    ap (λ (k : ℕ). one_if (k == x)) (ap (λ (it : ℕ × V). slot it.1) (some_is first one is) ∙ a),
    one_same x,
    entry_counted table j other at_other u,
    ap (λ (k : ℕ). count k (slots_by table)) b,
  ))
  one_in_slot (first ∷ table) x once (suc i) zero one other is at_other t u a b = absurd (omega (
    arith,
    once,
    ap (count x) (on first table (subst (λ (it : ℕ × V). test it.1 ≡ true) (sym (some_is first other at_other)) u)),
    ap (λ (k : ℕ). one_if (k == x)) (ap (λ (it : ℕ × V). slot it.1) (some_is first other at_other) ∙ b),
    one_same x,
    entry_counted table i one is t,
    ap (λ (k : ℕ). count k (slots_by table)) a,
  ))
  one_in_slot (first ∷ table) x once (suc i) (suc j) one other is at_other t u a b =
      one_in_slot table x (elim (cases_Bool (test first.1)) [
        | inl passes ↦ omega (arith, once, ap (count x) (on first table passes))
        | inr fails ↦ omega (arith, once, ap (count x) (off first table fails))
      ]) i j one other is at_other t u a b

  -- without the slots that fail a test, where just the entry of a number is in these
  pub removed_slots : (number : ℕ) (stays : ℕ → Bool) (table : List (ℕ × V))
      → ((index : ℕ) (entry : ℕ × V) → slice_get table index ≡ Some entry → test entry.1 ≡ true
      → not (entry.0 == number) ≡ stays (slot entry.1))
      → slots_by (removed number table) ≡ filter stays (slots_by table)
  removed_slots number stays [] each = refl
  removed_slots number stays (entry ∷ table) each =
      by_tests (test entry.1) refl (entry.0 == number) refl (stays (slot entry.1)) refl
      (removed_slots number stays table (λ index it is passes. each (suc index) it is passes))
    where
      by_tests : (b : Bool) → test entry.1 ≡ b → (c : Bool) → (entry.0 == number) ≡ c → (d : Bool) → stays (slot entry.1) ≡ d
          → slots_by (removed number table) ≡ filter stays (slots_by table)
          → slots_by (cond (not c) (entry ∷ removed number table) (removed number table)) ≡ filter stays (slots_by (entry ∷ table))
      by_tests true t true c d s rest =
          let fails : stays (slot entry.1) ≡ false = sym (each 0 entry refl t) ∙ ap not c in
          rest ∙ sym (ap (filter stays) (on entry table t)
          ∙ ap (λ (b : Bool). cond b (slot entry.1 ∷ filter stays (slots_by table)) (filter stays (slots_by table))) fails)
      by_tests true t false c d s rest =
          let passes : stays (slot entry.1) ≡ true = sym (each 0 entry refl t) ∙ ap not c in
          on entry (removed number table) t ∙ ap (λ xs. slot entry.1 ∷ xs) rest
          ∙ sym (ap (filter stays) (on entry table t)
          ∙ ap (λ (b : Bool). cond b (slot entry.1 ∷ filter stays (slots_by table)) (filter stays (slots_by table))) passes)
      by_tests false t true c d s rest = rest ∙ sym (ap (filter stays) (off entry table t))
      by_tests false t false c d s rest = off entry (removed number table) t ∙ rest ∙ sym (ap (filter stays) (off entry table t))

  -- all of them, where the entry of a number doesn't pass
  pub kept_slots : (number : ℕ) (table : List (ℕ × V))
      → ((index : ℕ) (entry : ℕ × V) → slice_get table index ≡ Some entry → test entry.1 ≡ true → (entry.0 == number) ≡ false)
      → slots_by (removed number table) ≡ slots_by table
  kept_slots number [] each = refl
  kept_slots number (entry ∷ table) each =
      by_tests (test entry.1) refl (entry.0 == number) refl (kept_slots number table (λ index it is passes. each (suc index) it is passes))
    where
      by_tests : (b : Bool) → test entry.1 ≡ b → (c : Bool) → (entry.0 == number) ≡ c → slots_by (removed number table) ≡ slots_by table
          → slots_by (cond (not c) (entry ∷ removed number table) (removed number table)) ≡ slots_by (entry ∷ table)
      by_tests true t true c rest = not_both (entry.0 == number) c (each 0 entry refl t)
      by_tests true t false c rest = on entry (removed number table) t ∙ ap (λ xs. slot entry.1 ∷ xs) rest ∙ sym (on entry table t)
      by_tests false t true c rest = rest ∙ sym (off entry table t)
      by_tests false t false c rest = off entry (removed number table) t ∙ rest ∙ sym (off entry table t)

  -- one more after them, where the new entry passes
  pub appended_slots : (last : ℕ × V) (table : List (ℕ × V))
      → slots_by (table ++ last ∷ []) ≡ slots_by table ++ cond (test last.1) (slot last.1 ∷ []) []
  appended_slots last [] = by_test (test last.1)
    where
      by_test : (b : Bool) → map (λ (it : ℕ × V). slot it.1) (cond b (last ∷ []) []) ≡ cond b (slot last.1 ∷ []) []
      by_test true = refl
      by_test false = refl
  appended_slots last (entry ∷ table) = by_test (appended_slots last table) (test entry.1) refl
    where
      by_test : slots_by (table ++ last ∷ []) ≡ slots_by table ++ cond (test last.1) (slot last.1 ∷ []) [] → (b : Bool)
          → test entry.1 ≡ b
          → slots_by (entry ∷ table ++ last ∷ []) ≡ slots_by (entry ∷ table) ++ cond (test last.1) (slot last.1 ∷ []) []
      by_test more true t =
          on entry (table ++ last ∷ []) t ∙ ap (λ xs. slot entry.1 ∷ xs) more
          ∙ sym (ap (λ xs. xs ++ cond (test last.1) (slot last.1 ∷ []) []) (on entry table t))
      by_test more false t =
          off entry (table ++ last ∷ []) t ∙ more
          ∙ sym (ap (λ xs. xs ++ cond (test last.1) (slot last.1 ∷ []) []) (off entry table t))

-- the slots but one
pub count_but_same : (x : ℕ) (xs : List ℕ) → count x (filter (λ y. not (y == x)) xs) ≡ 0
count_but_same x [] = refl
count_but_same x (y ∷ xs) = by_test (count_but_same x xs) (y == x) refl
  where
    by_test : count x (filter (λ z. not (z == x)) xs) ≡ 0 → (b : Bool) → (y == x) ≡ b
        → count x (cond (not b) (y ∷ filter (λ z. not (z == x)) xs) (filter (λ z. not (z == x)) xs)) ≡ 0
    by_test more true e = more
    by_test more false e = omega (arith, ap one_if e, more)

pub count_but_other : (x z : ℕ) (xs : List ℕ) → (z ≡ x → ⊥) → count z (filter (λ y. not (y == x)) xs) ≡ count z xs
count_but_other x z [] apart = refl
count_but_other x z (y ∷ xs) apart = by_test (count_but_other x z xs apart) (y == x) refl
  where
    by_test : count z (filter (λ y. not (y == x)) xs) ≡ count z xs → (b : Bool) → (y == x) ≡ b
        → count z (cond (not b) (y ∷ filter (λ w. not (w == x)) xs) (filter (λ w. not (w == x)) xs)) ≡ one_if (y == z) + count z xs
    by_test more true e = omega (arith, more, one_other y z (λ same. apart (sym same ∙ eqb-true y x e)))
    by_test more false e = omega (arith, more)

-- a filter after a map, where the tests agree at each member
pub filter_mapped : {X : Type 0} (f : ℕ → X) (stays : X → Bool) (keeps : ℕ → Bool) (xs : List ℕ)
    → ((x : ℕ) → 0 < count x xs → stays (f x) ≡ keeps x) → filter stays (map f xs) ≡ map f (filter keeps xs)
filter_mapped f stays keeps [] same = refl
filter_mapped f stays keeps (x ∷ xs) same =
    ap (λ (b : Bool). cond b (f x ∷ filter stays (map f xs)) (filter stays (map f xs))) (same x (omega (arith, one_same x)))
    ∙ by_test (keeps x) (filter_mapped f stays keeps xs (λ y some. same y (omega (arith, some))))
  where
    by_test : (b : Bool) → filter stays (map f xs) ≡ map f (filter keeps xs)
        → cond b (f x ∷ filter stays (map f xs)) (filter stays (map f xs)) ≡ map f (cond b (x ∷ filter keeps xs) (filter keeps xs))
    by_test true e = ap (λ ys. f x ∷ ys) e
    by_test false e = e
