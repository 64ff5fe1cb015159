-- Places by owner: at which position a place is, and what adding or removing a place changes.
use Rattle.std.proofs.Common.{ℕ, ◌≡◌, ◌≢◌, ◌+◌, ◌-◌, ◌<◌, ◌≤◌, List, length, get_or, arith, sym, ap, subst, ◌∙◌, inl, inr}
use Rattle.std.specs.List.{Contains, insert, remove}
use Rattle.std.proofs.lemmas.Bool.{cases_lt}
use Rattle.std.proofs.lemmas.List.{get_or_default}
use Rattle.std.proofs.lemmas.List.Edits.{length-insert, get_or-insert_below, get_or-insert_at, get_or-insert_above, length-remove}
use Rattle.std.proofs.lemmas.List.Edits.{get_or-remove_below, get_or-remove_above}
use Rattle.iox_container.specs.Owners.{IsBefore, IsBehind, Rises, StandsAt, With, Without}

-- one doesn't come before itself
not_itself : (entry : ℕ × ℕ) → IsBefore entry entry → ⊥
not_itself entry before = omega (arith, before.place (omega arith))

-- nor does one that comes before another stand after it
apart : (one other : ℕ × ℕ) → IsBefore one other → IsBehind one other → ⊥
apart one other before behind = omega (arith, before.place behind.owner, behind.place before.owner)

differs : (one other : ℕ × ℕ) → IsBefore one other → other ≢ one
differs one other before same = not_itself one (subst (λ e. IsBefore one e) same before)

differs-back : (one other : ℕ × ℕ) → IsBefore one other → one ≢ other
differs-back one other before same = differs one other before (sym same)

before-all : (one middle other : ℕ × ℕ) → IsBefore one middle → IsBefore middle other → IsBefore one other
before-all one middle other first second = record {
  owner = omega (arith, first.owner, second.owner);
  place = λ not_higher. omega
      (arith, first.owner, second.owner, first.place (omega (arith, second.owner)), second.place (omega (arith, first.owner)));
}

behind-all : (middle one other : ℕ × ℕ) → IsBehind middle other → IsBefore middle one → IsBehind one other
behind-all middle one other first second = record {
  owner = omega (arith, first.owner, second.owner);
  place = λ not_higher. omega
      (arith, first.owner, second.owner, first.place (omega (arith, second.owner)), second.place (omega (arith, first.owner)));
}

-- what stands before one in the middle is passed with it, and what stands after stays after
module _ (entries : List (ℕ × ℕ)) (entry : ℕ × ℕ) (middle : ℕ) (any : ℕ × ℕ) (rises : Rises entries) (more : middle < length entries) where
  there : (default : ℕ × ℕ) → get_or entries middle default ≡ get_or entries middle any
  there default = get_or_default entries middle default any more

  pub lower-half : IsBefore (get_or entries middle any) entry → (k : ℕ) (default : ℕ × ℕ) → k < middle + 1
      → IsBefore (get_or entries k default) entry
  lower-half before k default less =
      elim (cases_lt k middle) [
        | inl lower ↦
            before-all (get_or entries k default) (get_or entries middle any) entry
            (subst (λ e. IsBefore (get_or entries k default) e) (there default) (rises.before k middle default lower more)) before
        | inr not_lower ↦
            let same : k ≡ middle = omega arith in
            subst (λ e. IsBefore e entry) (sym (ap (λ n. get_or entries n default) same ∙ there default)) before
      ]

  pub upper-half : IsBehind (get_or entries middle any) entry → (k : ℕ) (default : ℕ × ℕ) → middle ≤ k → k < length entries
      → IsBehind (get_or entries k default) entry
  upper-half behind k default least within =
      elim (cases_lt middle k) [
        | inl higher ↦
            behind-all (get_or entries middle any) (get_or entries k default) entry behind
            (subst (λ e. IsBefore e (get_or entries k default)) (there default) (rises.before middle k default higher within))
        | inr not_higher ↦
            let same : k ≡ middle = omega arith in
            subst (λ e. IsBehind e entry) (sym (ap (λ n. get_or entries n default) same ∙ there default)) behind
      ]

-- it stands where what is one below comes before it, and what is there doesn't
pub stands-between : (entries : List (ℕ × ℕ)) (entry : ℕ × ℕ) (at : ℕ) (any : ℕ × ℕ) → Rises entries → at ≤ length entries
    → (0 < at → IsBefore (get_or entries (at - 1) any) entry) → (at < length entries → IsBehind (get_or entries at any) entry)
    → StandsAt entries entry at
stands-between entries entry at any rises within below there = record {
  within = within;
  before = λ k default less. lower-half entries entry (at - 1) any rises (omega arith) (below (omega arith)) k default (omega arith);
  behind = λ k default least more. upper-half entries entry at any rises (omega arith) (there (omega arith)) k default least more;
}

-- what stands where it would and is among them stands there
pub stands-there : (entries : List (ℕ × ℕ)) (entry : ℕ × ℕ) (at : ℕ) → Rises entries → StandsAt entries entry at → Contains entries entry
    → (at < length entries) × (get_or entries at entry ≡ entry)
stands-there entries entry at rises stands there =
    elim (cases_lt there.0 at) [
      | inl before ↦ absurd (not_itself entry (subst (λ e. IsBefore e entry) there.2 (stands.before there.0 entry before)))
      | inr behind ↦ elim (cases_lt at there.0) [
        | inl later ↦ absurd (apart (get_or entries at entry) entry
            (subst (λ e. IsBefore (get_or entries at entry) e) there.2 (rises.before at there.0 entry later there.1))
            (stands.behind at entry (omega arith) (omega (arith, there.1))))
        | inr not_later ↦
            let same : there.0 ≡ at = omega arith in
            (omega (arith, there.1), ap (λ k. get_or entries k entry) (sym same) ∙ there.2)
      ]
    ]

module _ (entries : List (ℕ × ℕ)) (entry : ℕ × ℕ) (at : ℕ) (rises : Rises entries) (stands : StandsAt entries entry at) where
  -- those that stay rise
  stay-rising : at < length entries → Rises (remove entries at)
  stay-rising more = record {
    before = λ i j default less within.
        let long = length-remove entries at more in
        elim (cases_lt j at) [
          | inl j_below ↦
              rw (get_or-remove_below entries at default i (omega arith) more, get_or-remove_below entries at default j j_below more)
              (rises.before i j default less (omega arith))
          | inr j_above ↦ elim (cases_lt i at) [
            | inl i_below ↦
                rw (get_or-remove_below entries at default i i_below more, get_or-remove_above entries at default j j_above more)
                (rises.before i (j + 1) default (omega arith) (omega (arith, long)))
            | inr i_above ↦
                rw (get_or-remove_above entries at default i i_above more, get_or-remove_above entries at default j j_above more)
                (rises.before (i + 1) (j + 1) default (omega arith) (omega (arith, long)))
          ]
        ];
  }

  -- one that is among them leaves
  pub removed : Contains entries entry → (at < length entries) × Without entry entries (remove entries at)
  removed there =
      let found = stands-there entries entry at rises stands there in
      let more = found.0 in
      let long = length-remove entries at more in (
        more,
        record {
          rises = stay-rising more;
          kept = λ other has other_one.
              elim (cases_lt has.0 at) [
                | inl below ↦ (has.0, omega (arith, long), get_or-remove_below entries at other has.0 below more ∙ has.2)
                | inr above ↦ elim (cases_lt at has.0) [
                  | inl later ↦
                      let next : has.0 - 1 + 1 ≡ has.0 = omega arith in (
                        has.0 - 1,
                        omega (arith, long, has.1),
                        get_or-remove_above entries at other (has.0 - 1) (omega arith) more ∙ ap
                            (λ k. get_or entries k other) next ∙ has.2,
                      )
                  | inr not_later ↦
                      let same : has.0 ≡ at = omega arith in
                      absurd (other_one (sym has.2 ∙ ap (λ k. get_or entries k other) same ∙ get_or_default entries at other entry more
                      ∙ found.1))
                ]
              ];
          only = λ other has.
              elim (cases_lt has.0 at) [
                | inl below ↦ (has.0, omega arith, sym (get_or-remove_below entries at other has.0 below more) ∙ has.2)
                | inr above ↦ (has.0 + 1, omega (arith, long, has.1), sym (get_or-remove_above entries at other has.0 above more) ∙ has.2)
              ];
          gone = λ other has.
              elim (cases_lt has.0 at) [
                | inl below ↦
                    let read : get_or entries has.0 other ≡ other = sym (get_or-remove_below entries at other has.0 below more) ∙ has.2 in
                    differs-back other entry (subst (λ e. IsBefore e entry) read (stands.before has.0 other below))
                | inr above ↦
                    let read : get_or entries (has.0 + 1) other ≡ other
                    = sym (get_or-remove_above entries at other has.0 above more) ∙ has.2 in
                    let here : get_or entries at other ≡ entry = get_or_default entries at other entry more ∙ found.1 in
                    let before : IsBefore entry (get_or entries (has.0 + 1) other) =
                    subst (λ e. IsBefore e (get_or entries (has.0 + 1) other)) here
                    (rises.before at (has.0 + 1) other (omega arith) (omega (arith, long, has.1))) in
                    differs entry other (subst (λ e. IsBefore entry e) read before)
              ];
          fewer = long;
        },
      )

  -- what stands after one that isn't among them comes after it
  after_it : (Contains entries entry → ⊥) → (k : ℕ) (default : ℕ × ℕ) → at ≤ k → k < length entries
      → IsBefore entry (get_or entries k default)
  after_it new k default behind within =
      let later = stands.behind k default behind within in
      let other : ((get_or entries k default) ≡ entry)
      → ⊥ = λ same. new (k, within, get_or_default entries k entry default within ∙ same) in
      record {
        owner = later.owner;
        place = λ not_higher.
            elim (cases_lt entry.1 (get_or entries k default).1) [
              | inl less ↦ less
              | inr not_less ↦
                  let owners : (get_or entries k default).0 ≡ entry.0 = omega (arith, later.owner) in
                  let places : (get_or entries k default).1 ≡ entry.1 = omega (arith, later.place not_higher) in
                  absurd (other (ap (λ o. (o, (get_or entries k default).1)) owners ∙ ap (λ p. (entry.0, p)) places))
            ];
      }

  come-rising : (Contains entries entry → ⊥) → Rises (insert entries at entry)
  come-rising new = record {
    before = λ i j default less within.
        let long = length-insert entries at entry stands.within in
        elim (cases_lt j at) [
          | inl j_below ↦
              rw (
                get_or-insert_below entries at entry default i (omega arith) stands.within,
                get_or-insert_below entries at entry default
                    j j_below stands.within,
              )
              (rises.before i j default less (omega (arith, stands.within)))
          | inr j_not_below ↦ elim (cases_lt at j) [
            | inl j_above ↦
                let back : j - 1 + 1 ≡ j = omega arith in
                let read : get_or (insert entries at entry) j default ≡ get_or entries (j - 1) default =
                ap (λ k. get_or (insert entries at entry) k default) (sym back) ∙ get_or-insert_above entries at entry default (j - 1)
                (omega arith) stands.within in
                elim (cases_lt i at) [
                  | inl i_below ↦
                      rw (get_or-insert_below entries at entry default i i_below stands.within, read)
                      (rises.before i (j - 1) default (omega arith) (omega (arith, long)))
                  | inr i_not_below ↦ elim (cases_lt at i) [
                    | inl i_above ↦
                        let back_too : i - 1 + 1 ≡ i = omega arith in
                        let read_too : get_or (insert entries at entry) i default ≡ get_or entries (i - 1) default =
                        ap (λ k. get_or (insert entries at entry) k default) (sym back_too) ∙ get_or-insert_above entries at entry
                        default (i - 1) (omega arith) stands.within in
                        rw (read_too, read) (rises.before (i - 1) (j - 1) default (omega arith) (omega (arith, long)))
                    | inr i_not_above ↦
                        let same : i ≡ at = omega arith in
                        rw (same, get_or-insert_at entries at entry default stands.within, read)
                        (after_it new (j - 1) default (omega arith) (omega (arith, long)))
                  ]
                ]
            | inr j_not_above ↦
                let same : j ≡ at = omega arith in
                rw (
                  same,
                  get_or-insert_at entries at entry default stands.within,
                  get_or-insert_below entries at entry default i
                      (omega arith) stands.within,
                )
                (stands.before i default (omega arith))
          ]
        ];
  }

  -- one that isn't among them comes
  pub inserted : (Contains entries entry → ⊥) → With entry entries (insert entries at entry)
  inserted new =
      let long = length-insert entries at entry stands.within in
      record {
        rises = come-rising new;
        here = (at, omega (arith, long, stands.within), get_or-insert_at entries at entry entry stands.within);
        kept = λ other has.
            elim (cases_lt has.0 at) [
              | inl below ↦ (
                has.0,
                omega (arith, long, has.1),
                get_or-insert_below entries at entry other has.0 below stands.within ∙
                    has.2,
              )
              | inr above ↦ (
                has.0 + 1,
                omega (arith, long, has.1),
                get_or-insert_above entries at entry other has.0 above stands.within ∙
                    has.2,
              )
            ];
        only = λ other has other_one.
            elim (cases_lt has.0 at) [
              | inl below ↦ (
                has.0,
                omega (arith, stands.within),
                sym
                    (get_or-insert_below entries at entry other has.0 below stands.within) ∙ has.2,
              )
              | inr not_below ↦ elim (cases_lt at has.0) [
                | inl above ↦
                    let back : has.0 - 1 + 1 ≡ has.0 = omega arith in (
                      has.0 - 1,
                      omega (arith, long, has.1),
                      sym
                          (get_or-insert_above entries at entry other (has.0 - 1) (omega arith) stands.within) ∙ ap
                          (λ k. get_or (insert entries at entry) k other) back ∙ has.2,
                    )
                | inr not_above ↦
                    let same : has.0 ≡ at = omega arith in
                    absurd (other_one (sym has.2 ∙ ap (λ k. get_or (insert entries at entry) k other) same ∙ get_or-insert_at entries at
                    entry other stands.within))
              ]
            ];
        more = long;
      }

-- where the owner's first place from one on is searched, no place of it is passed
module _ (entries : List (ℕ × ℕ)) (owner from at : ℕ) (rises : Rises entries) (stands : StandsAt entries (owner, from) at) where
  -- the owner's places from there on stand from where it would
  from-there : (place : ℕ) → from ≤ place → (has : Contains entries (owner, place)) → at ≤ has.0
  from-there place least has =
      elim (cases_lt has.0 at) [
        | inl below ↦
            let before : IsBefore (owner, place) (owner, from)
            = subst (λ e. IsBefore e (owner, from)) has.2 (stands.before has.0 (owner, place) below) in
            absurd (omega (arith, before.place (omega arith)))
        | inr not_below ↦ not_below
      ]

  module _ (found : ℕ × ℕ) (more : at < length entries) (read : get_or entries at found ≡ found) where
    -- none of the owner's comes before what was found
    not-before : (place : ℕ) → from ≤ place → (has : Contains entries (owner, place)) → (at < has.0 → IsBefore found (owner, place))
        × (has.0 ≡ at → found ≡ (owner, place))
    not-before place least has = (
      λ later.
          let before = rises.before at has.0 (owner, place) later has.1 in
          subst (λ e. IsBefore found e) has.2
          (subst (λ e. IsBefore e (get_or entries has.0 (owner, place))) (get_or_default entries at (owner, place) found more ∙ read)
          before),
      λ same.
          sym read ∙ get_or_default entries at found (owner, place) more ∙ ap (λ k. get_or entries k (owner, place)) (sym same) ∙ has.2,
    )

    -- another owner's was found
    pub none-found : found.0 ≢ owner → (place : ℕ) → from ≤ place → Contains entries (owner, place) → ⊥
    none-found other place least has =
        let at_least = from-there place least has in
        let facts = not-before place least has in
        let behind : IsBehind found (owner, from)
        = subst (λ e. IsBehind e (owner, from)) read (stands.behind at found (omega arith) more) in
        elim (cases_lt at has.0) [
          | inl later ↦ let before = facts.0 later in other (omega (arith, before.owner, behind.owner))
          | inr not_later ↦ let same : has.0 ≡ at = omega arith in other (ap (λ e. e.0) (facts.1 same))
        ]

    -- one of the owner's was found
    pub found-first : found.0 ≡ owner → Contains entries (owner, found.1) × (from ≤ found.1)
        × ((other : ℕ) → from ≤ other → other < found.1 → Contains entries (owner, other) → ⊥)
    found-first own =
        let behind : IsBehind found (owner, from)
        = subst (λ e. IsBehind e (owner, from)) read (stands.behind at found (omega arith) more) in
        let same : found ≡ (owner, found.1) = ap (λ o. (o, found.1)) own in (
          (at, more, get_or_default entries at (owner, found.1) found more ∙ read ∙ same),
          behind.place (omega arith),
          λ other least less has.
              let at_least = from-there other least has in
              let facts = not-before other least has in
              elim (cases_lt at has.0) [
                | inl later ↦ let before = facts.0 later in omega (arith, before.place (omega arith))
                | inr not_later ↦ let at_it : has.0 ≡ at = omega arith in omega (arith, ap (λ e. e.1) (facts.1 at_it))
              ],
        )
