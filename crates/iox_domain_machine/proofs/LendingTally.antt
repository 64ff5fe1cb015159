-- How many different messages of a segment are in use: as many as slots of it are.
use Rattle.std.proofs.Common.{◌≡◌, ◌≢◌, ◌≤◌, ◌<◌, ◌+◌, ◌∷◌, [], ℕ, zero, suc, true, false, cond, not, List, nat_lt, refl, sym, ap, ◌∙◌}
use Rattle.std.proofs.Common.{arith}
use Rattle.std.proofs.Math.Logic.{⊎_elim}
use Rattle.std.proofs.lemmas.Bool.{cases_Bool}
use Rattle.std.proofs.lemmas.Bool.Decides.{eqb_tells}
use Rattle.std.specs.Prelude.{◌==◌}
use Rattle.iox_domain.proofs.DomainSlots.Counts.{one, times_cons, one_same}
use Rattle.iox_domain.specs.DomainSlots.Counting.{times}
use Rattle.iox_domain_machine.proofs.Loans.{alike, unlike}
use Rattle.iox_domain_machine.proofs.Removing.{but}
use Rattle.iox_machine.specs.Lending.{how_many}
use Rattle.iox_machine.specs.Table.{contains}

is_one : (number other : ℕ) → other ≡ number → one number other ≡ 1
is_one number other same = ap (λ b. cond b 1 0) (alike number other same)

pub is_none : (number other : ℕ) → other ≢ number → one number other ≡ 0
is_none number other off = ap (λ b. cond b 1 0) (unlike number other off)

on : (number other : ℕ) (more : List ℕ) → (other == number) ≡ true → but number (other ∷ more) ≡ but number more
on number other more is = ap (λ b. cond (not b) (other ∷ but number more) (but number more)) is

off : (number other : ℕ) (more : List ℕ) → (other == number) ≡ false → but number (other ∷ more) ≡ other ∷ but number more
off number other more is = ap (λ b. cond (not b) (other ∷ but number more) (but number more)) is

-- the others of a list are there as often without one
times_but : (number which : ℕ) (all : List ℕ) → which ≢ number → times which (but number all) ≡ times which all
times_but number which [] apart = refl
times_but number which (other ∷ more) apart = ⊎_elim
    (λ same. ap (times which) (on number other more same.0)
    ∙ omega (
      arith,
      times_but number which more apart,
      times_cons which other more,
      is_none which other (λ it. apart (sym it ∙ same.1)),
    ))
    (λ not. ap (times which) (off number other more not.0)
    ∙ omega (arith, times_but number which more apart, times_cons which other more, times_cons which other (but number more)))
    (eqb_tells other number)

-- and that one never
pub none_but : (number : ℕ) (all : List ℕ) → times number (but number all) ≡ 0
none_but number [] = refl
none_but number (other ∷ more) = ⊎_elim
    (λ same. ap (times number) (on number other more same.0) ∙ none_but number more)
    (λ not. ap (times number) (off number other more not.0)
    ∙ omega (arith, none_but number more, times_cons number other (but number more), is_none number other not.1))
    (eqb_tells other number)

contained : (number : ℕ) (all : List ℕ) → 0 < times number all → contains all number ≡ true
contained number [] is = absurd (omega (arith, is))
contained number (other ∷ more) is = ⊎_elim
    (λ same. rw same.0 refl)
    (λ not. rw not.0 (contained number more (omega (arith, is, times_cons number other more, is_none number other not.1))))
    (eqb_tells other number)

not_contained : (number : ℕ) (all : List ℕ) → times number all ≡ 0 → contains all number ≡ false
not_contained number [] none = refl
not_contained number (other ∷ more) none = ⊎_elim
    (λ same. absurd (omega (arith, none, times_cons number other more, is_one number other same.1)))
    (λ not. rw not.0 (not_contained number more (omega (arith, none, times_cons number other more))))
    (eqb_tells other number)

many_old : (number : ℕ) (all : List ℕ) → 0 < times number all → how_many (number ∷ all) ≡ how_many all
many_old number all is = ap (λ b. cond b (how_many all) (1 + how_many all)) (contained number all is)

many_new : (number : ℕ) (all : List ℕ) → times number all ≡ 0 → how_many (number ∷ all) ≡ 1 + how_many all
many_new number all none = ap (λ b. cond b (how_many all) (1 + how_many all)) (not_contained number all none)

pub some_or_none : {A : Type 0} (n : ℕ) → (0 < n → A) → (n ≡ 0 → A) → A
some_or_none zero some none = none refl
some_or_none (suc n) some none = some (omega arith)

-- what isn't last lies below
below : (slot end : ℕ) → slot < suc end → slot ≢ end → slot < end
below slot end high not = ⊎_elim (λ is. grind (arith, is))
    (λ isn't. let past : end ≤ slot = grind (arith, isn't) in let same : slot ≡ end = omega (arith, past, high) in absurd (not same))
    (cases_Bool (nat_lt slot end))

-- without one that is there one less is there
one_less : (number : ℕ) (all : List ℕ) → 0 < times number all → how_many all ≡ 1 + how_many (but number all)
one_less number [] is = absurd (omega (arith, is))
one_less number (other ∷ more) is = some_or_none (times other more)
    (λ again. many_old other more again ∙ ⊎_elim
    (λ same. one_less number more (again_is same.1 again) ∙ ap (λ all. 1 + how_many all) (sym (on number other more same.0)))
    (λ not.
    let kept : 0 < times other (but number more) = omega (arith, again, times_but number other more not.1) in
    one_less number more (omega (arith, is, times_cons number other more, is_none number other not.1))
    ∙ ap (λ n. 1 + n) (sym (many_old other (but number more) kept))
    ∙ ap (λ all. 1 + how_many all) (sym (off number other more not.0)))
    (eqb_tells other number))
    (λ first. many_new other more first ∙ ⊎_elim
    (λ same. ap (λ n. 1 + n) (nothing number more (first_is same.1 first))
    ∙ ap (λ all. 1 + how_many all) (sym (on number other more same.0)))
    (λ not.
    let kept : times other (but number more) ≡ 0 = omega (arith, first, times_but number other more not.1) in
    ap (λ n. 1 + n) (one_less number more (omega (arith, is, times_cons number other more, is_none number other not.1)))
    ∙ ap (λ n. 1 + n) (sym (many_new other (but number more) kept))
    ∙ ap (λ all. 1 + how_many all) (sym (off number other more not.0)))
    (eqb_tells other number))
  where
    again_is : other ≡ number → 0 < times other more → 0 < times number more
    again_is same it = omega (arith, it, ap (λ n. times n more) same)

    first_is : other ≡ number → times other more ≡ 0 → times number more ≡ 0
    first_is same it = omega (arith, it, ap (λ n. times n more) same)

    nothing : (number : ℕ) (all : List ℕ) → times number all ≡ 0 → how_many all ≡ how_many (but number all)
    nothing number [] none = refl
    nothing number (head ∷ tail) none =
        let apart : head ≢ number = λ same. absurd (omega (arith, none, times_cons number head tail, is_one number head same)) in
        let rest : times number tail ≡ 0 = omega (arith, none, times_cons number head tail) in
        some_or_none (times head tail)
        (λ some. many_old head tail some ∙ nothing number tail rest
        ∙ sym (many_old head (but number tail) (omega (arith, some, times_but number head tail apart)))
        ∙ ap how_many (sym (off number head tail (test apart))))
        (λ no. many_new head tail no ∙ ap (λ n. 1 + n) (nothing number tail rest)
        ∙ sym (many_new head (but number tail) (omega (arith, no, times_but number head tail apart)))
        ∙ ap how_many (sym (off number head tail (test apart))))
      where
        test : head ≢ number → (head == number) ≡ false
        test apart = ⊎_elim (λ same. absurd (apart same.1)) (λ not. not.0) (eqb_tells head number)

-- The numbers of a list are the names of the used slots of a segment.
pub record Tallies (count name : ℕ → ℕ) (first size : ℕ) (numbers : List ℕ) : Type 0 where
  pub from : (number : ℕ) → 0 < times number numbers
      → (slot : ℕ) × (first ≤ slot) × (slot < first + size) × (0 < count slot) × (name slot ≡ number)
  pub to : (slot : ℕ) → first ≤ slot → slot < first + size → 0 < count slot → 0 < times (name slot) numbers

-- So the number of different used slots is at most the number of the segment's slots, and equals it exactly if each slot is in use.
pub record Tells (count : ℕ → ℕ) (first size many : ℕ) : Type 0 where
  pub most : many ≤ size
  pub full : size ≤ many → (slot : ℕ) → first ≤ slot → slot < first + size → 0 < count slot
  pub all : ((slot : ℕ) → first ≤ slot → slot < first + size → 0 < count slot) → size ≤ many

module _ (count name : ℕ → ℕ) (first : ℕ)
    (apart : (one other : ℕ) → 0 < count one → 0 < count other → name one ≡ name other → one ≡ other) where
  empty : (numbers : List ℕ) → Tallies count name first 0 numbers → how_many numbers ≡ 0
  empty [] tallies = refl
  empty (number ∷ more) tallies =
      let it = tallies.from number (omega (arith, times_cons number number more, one_same number)) in
      absurd (omega (arith, it.1, it.2))

  fewer : (size : ℕ) (numbers : List ℕ) → count (first + size) ≡ 0 → Tallies count name first (suc size) numbers
      → Tallies count name first size numbers
  fewer size numbers none tallies = record {
    from = λ number is.
        let it = tallies.from number is in
        (it.0, it.1, below it.0 (first + size) (omega (arith, it.2)) (not_last it.0 it.3), it.3, it.4);
    to = λ slot low high used. tallies.to slot low (omega (arith, high)) used;
  }
    where
      not_last : (slot : ℕ) → 0 < count slot → slot ≢ first + size
      not_last slot used same = omega (arith, used, none, ap count same)

  without : (size : ℕ) (numbers : List ℕ) → 0 < count (first + size) → Tallies count name first (suc size) numbers
      → Tallies count name first size (but (name (first + size)) numbers)
  without size numbers last tallies = record {
    from = λ number is. found number is;
    to = λ slot low high used.
        let off : name slot ≢ name (first + size) = λ same. under slot high (apart slot (first + size) used last same) in
        omega (
          arith,
          tallies.to slot low (omega (arith, high)) used,
          times_but (name (first + size)) (name slot) numbers off,
        );
  }
    where
      under : (slot : ℕ) → slot < first + size → slot ≡ first + size → ⊥
      under slot high same = omega (arith, high, same)

      found : (number : ℕ) → 0 < times number (but (name (first + size)) numbers)
          → (slot : ℕ) × (first ≤ slot) × (slot < first + size) × (0 < count slot) × (name slot ≡ number)
      found number is =
          let off : number ≢ name (first + size) = λ same. absurd (omega (
            arith,
            is,
            ap (λ n. times n (but (name (first + size)) numbers)) same,
            none_but (name (first + size)) numbers,
          )) in
          let it = tallies.from number (omega (arith, is, times_but (name (first + size)) number numbers off)) in
          (it.0, it.1, below it.0 (first + size) (omega (arith, it.2)) (λ same. off (sym it.4 ∙ ap name same)), it.3, it.4)

  pub tells : (size : ℕ) (numbers : List ℕ) → Tallies count name first size numbers → Tells count first size (how_many numbers)
  tells zero numbers tallies =
      let none = empty numbers tallies in record {
        most = omega (arith, none);
        full = λ many slot low high. absurd (omega (arith, low, high));
        all = λ each. omega arith;
      }
  tells (suc size) numbers tallies = some_or_none (count (first + size))
      (λ last.
      let fewer_one = tells size (but (name (first + size)) numbers) (without size numbers last tallies) in
      let less = one_less (name (first + size)) numbers (tallies.to (first + size) (omega arith) (omega arith) last) in record {
        most = omega (arith, fewer_one.most, less);
        full = λ many slot low high. ⊎_elim
            (λ same. omega (arith, last, ap count same.1))
            (λ not. fewer_one.full (omega (arith, many, less)) slot low (below slot (first + size) (omega (arith, high)) not.1))
            (eqb_tells slot (first + size));
        all = λ each. omega (arith, less, fewer_one.all (λ slot low high. each slot low (omega (arith, high))));
      })
      (λ none.
      let same = tells size numbers (fewer size numbers none tallies) in record {
        most = omega (arith, same.most);
        full = λ many. absurd (omega (arith, many, same.most));
        all = λ each. absurd (omega (arith, none, each (first + size) (omega arith) (omega arith)));
      })
