-- Exactly what becomes of the connections that part at an update of a subscriber.
use Rattle.std.proofs.Common.{◌≡◌, ◌≤◌, ◌⊎◌, ℕ, Bool, true, false, cond, not, ◌&&◌, ◌||◌, List, [], ◌∷◌, ◌++◌, length, map, Option, None}
use Rattle.std.proofs.Common.{Some}
use Rattle.std.proofs.Common.{refl, sym, ap, subst, inl, inr, arith, ◌∙◌, true≢false, append-nil, append_assoc}
use Rattle.std.proofs.lemmas.Bool.{cases_Bool, eqb-true, ltb-false, ltb-true}
use Rattle.std.specs.List.{AllByRecursion, cons_option}
use Rattle.std.specs.Prelude.{◌==◌, filter, filter_map, fold, is_some, max, nat_lt, slice_get, zip}
use Rattle.iox_machine.proofs.Cases.{both-true, never-some, same-some}
use Rattle.iox_machine.proofs.Shorthands.{gone_from, now_at, parting}
use Rattle.iox_machine.specs.ExpiredLaws.{AllPart, IsIdle, IsFirst, IsUnborrowed, Parts, PartsExactly, closed_at}
use Rattle.iox_machine.specs.Mailbox.{is_idle}
use Rattle.iox_machine.specs.Message.{Message}
use Rattle.iox_machine.specs.PortList.{unless}
use Rattle.iox_machine.specs.Service.{Service, Subscriber, mailbox}
use Rattle.iox_machine.specs.SubscriberUpdate as subscribing
use Rattle.iox_machine.specs.SubscriberUpdate.{Parted, part, room_for}
use Rattle.iox_machine.specs.Table.{contains}

-- ---- lists

pub empty-list : {X : Type 0} (xs : List X) → (length xs == 0) ≡ true → xs ≡ []
empty-list [] e = refl
empty-list (x ∷ xs) e = absurd (differ (eqb-true (length (x ∷ xs)) 0 e))
  where
    differ : length (x ∷ xs) ≡ 0 → ⊥
    differ h = omega (arith, h)

-- a list in which nothing waits
none-there : {X : Type 0} (xs : List X) → not (nat_lt 0 (length xs)) ≡ true → xs ≡ []
none-there [] e = refl
none-there (x ∷ xs) e = elim (cases_Bool (nat_lt 0 (length (x ∷ xs)))) [
  | inl lt ↦ absurd (true≢false (sym e ∙ ap not lt))
  | inr ge ↦ absurd (less (ltb-false 0 (length (x ∷ xs)) ge))
]
  where
    less : length (x ∷ xs) ≤ 0 → ⊥
    less h = omega (arith, h)

-- a test that tells of each number whether something holds of it
module _ (Is : ℕ → Type 0) (test : ℕ → Bool) (so : (n : ℕ) → test n ≡ true → Is n) (off : (n : ℕ) → test n ≡ false → Is n → ⊥) where
  abbrev Nowhere : List ℕ → Type 0
  Nowhere xs = AllByRecursion (λ n. Is n → ⊥) xs

  first-is : (xs ys : List ℕ) (x : ℕ) → slice_get (filter test xs ++ ys) 0 ≡ Some x
      → IsFirst Is xs x ⊎ (Nowhere xs × (slice_get ys 0 ≡ Some x))
  first-is [] ys x e = inr (tt, e)
  first-is (y ∷ xs) ys x e = here (test y) refl e (first-is xs ys x)
    where
      here : (b : Bool) → test y ≡ b → slice_get (cond b (y ∷ filter test xs) (filter test xs) ++ ys) 0 ≡ Some x
          → (slice_get (filter test xs ++ ys) 0 ≡ Some x → IsFirst Is xs x ⊎ (Nowhere xs × (slice_get ys 0 ≡ Some x)))
          → IsFirst Is (y ∷ xs) x ⊎ (Nowhere (y ∷ xs) × (slice_get ys 0 ≡ Some x))
      here true is e rest =
          inl (
            [],
            xs,
            ap (λ (n : ℕ). n ∷ xs) (same-some y x e),
            so x (subst (λ (n : ℕ). test n ≡ true) (same-some y x e) is),
            tt,
          )
      here false is e rest = elim (rest e) [
        | inl (before, behind, split, holds, none) ↦
            inl (y ∷ before, behind, ap (λ (l : List ℕ). y ∷ l) split, holds, (off y is, none))
        | inr (none, later) ↦ inr ((off y is, none), later)
      ]

  none-first : (xs ys : List ℕ) → slice_get (filter test xs ++ ys) 0 ≡ None → Nowhere xs × (slice_get ys 0 ≡ None)
  none-first [] ys e = (tt, e)
  none-first (y ∷ xs) ys e = here (test y) refl e (none-first xs ys)
    where
      here : (b : Bool) → test y ≡ b → slice_get (cond b (y ∷ filter test xs) (filter test xs) ++ ys) 0 ≡ None
          → (slice_get (filter test xs ++ ys) 0 ≡ None → Nowhere xs × (slice_get ys 0 ≡ None))
          → Nowhere (y ∷ xs) × (slice_get ys 0 ≡ None)
      here true is e rest = never-some y (sym e)
      here false is e rest = let on = rest e in ((off y is, on.0), on.1)

-- ---- how connections part

module _ {T : Type 0} (buffer number : ℕ) (service : Service T) where
  abbrev idle : ℕ → Bool
  idle publisher = is_idle (mailbox publisher number service)

  abbrev free : ℕ → Bool
  free publisher = length (mailbox publisher number service).borrowed == 0

  abbrev most : ℕ
  most = max buffer service.settings.subscriber_max_borrowed_samples

  idle-so : (publisher : ℕ) → idle publisher ≡ true → IsIdle number service publisher
  idle-so publisher e =
      let both = both-true (not (nat_lt 0 (length (mailbox publisher number service).waiting))) (free publisher) e in (
        none-there (mailbox publisher number service).waiting both.0,
        empty-list (mailbox publisher number service).borrowed both.1,
      )

  idle-off : (publisher : ℕ) → idle publisher ≡ false → IsIdle number service publisher → ⊥
  idle-off publisher off none =
      true≢false (sym (ap (λ (l : List (Message T)). not (nat_lt 0 (length l))
      && length (mailbox publisher number service).borrowed == 0) none.0
      ∙ ap (λ (l : List (Message T)). length l == 0) none.1) ∙ off)

  free-so : (publisher : ℕ) → free publisher ≡ true → IsUnborrowed number service publisher
  free-so publisher e = empty-list (mailbox publisher number service).borrowed e

  free-off : (publisher : ℕ) → free publisher ≡ false → IsUnborrowed number service publisher → ⊥
  free-off publisher off none = true≢false (sym (ap (λ (l : List (Message T)). length l == 0) none) ∙ off)

  -- What one connection that parts comes to: who is expired then, and who stays.
  abbrev PartsTo : Parted → ℕ → Parted → Type 0
  PartsTo parted publisher next =
      (stays : Bool) × Parts number service most publisher parted.expired next.expired stays
      × (next.staying ≡ cond stays (parted.staying ++ publisher ∷ []) parted.staying)

  parts-so : (parted : Parted) (publisher : ℕ) → PartsTo parted publisher (part buffer number service parted publisher)
  parts-so parted publisher =
      here (idle publisher) (nat_lt (length parted.expired) most) (room_for buffer number publisher parted.expired service) (free publisher)
      refl refl refl refl
    where
      later_as : Bool → List ℕ
      later_as b = cond b [] (filter free parted.expired)

      here : (b c : Bool) (o : Option ℕ) (d : Bool) → idle publisher ≡ b → nat_lt (length parted.expired) most ≡ c
          → room_for buffer number publisher parted.expired service ≡ o → free publisher ≡ d
          → PartsTo parted publisher (cond b parted (cond c (record parted { expired = parted.expired ++ publisher ∷ [] }) (elim o [
            | Some out ↦ record parted { expired = filter (λ other. not (other == out)) parted.expired ++ publisher ∷ [] }
            | None ↦ cond d parted (record parted { staying = parted.staying ++ publisher ∷ [] })
          ])))
      here true c o d is few made free_is = (false, inl (idle-so publisher is, refl, refl), refl)
      here false true o d is few made free_is =
          (false, inr (idle-off publisher is, inl (ltb-true (length parted.expired) most few, refl, refl)), refl)
      here false false (Some out) d is few made free_is =
          elim (first-is (IsIdle number service) idle idle-so idle-off parted.expired (later_as (free publisher)) out made) [
            | inl first ↦ (
              false,
              inr (idle-off publisher is, inr (ltb-false (length parted.expired) most few, inl (out, first, refl, refl))),
              refl,
            )
            | inr (none, later) ↦ others d free_is none
                (ap (λ (b : Bool). slice_get (later_as b) 0) (sym free_is) ∙ later)
          ]
        where
          others : (it : Bool) → free publisher ≡ it → AllByRecursion (λ other. IsIdle number service other → ⊥) parted.expired
              → slice_get (later_as it) 0 ≡ Some out
              → PartsTo parted publisher
              (record parted { expired = filter (λ other. not (other == out)) parted.expired ++ publisher ∷ [] })
          others true unborrowed none later = never-some out later
          others false borrowed none later =
              elim (first-is (IsUnborrowed number service) free free-so free-off parted.expired [] out
              (ap (λ (l : List ℕ). slice_get l 0) (append-nil (filter free parted.expired)) ∙ later)) [
                | inl first ↦ (
                  false,
                  inr (
                    idle-off publisher is,
                    inr (
                      ltb-false (length parted.expired) most few,
                      inr (none, inr (free-off publisher borrowed, inl (out, first, refl, refl))),
                    ),
                  ),
                  refl,
                )
                | inr (nothing, never) ↦ never-some out never
              ]
      here false false None d is few made free_is =
          let none = none-first (IsIdle number service) idle idle-so idle-off parted.expired (later_as (free publisher)) made in
          stays d free_is none.0 (ap (λ (b : Bool). slice_get (later_as b) 0) (sym free_is) ∙ none.1)
        where
          stays : (it : Bool) → free publisher ≡ it → AllByRecursion (λ other. IsIdle number service other → ⊥) parted.expired
              → slice_get (later_as it) 0 ≡ None
              → PartsTo parted publisher (cond it parted (record parted { staying = parted.staying ++ publisher ∷ [] }))
          stays true unborrowed none later = (
            false,
            inr (
              idle-off publisher is,
              inr (ltb-false (length parted.expired) most few, inr (none, inl (free-so publisher unborrowed, refl, refl))),
            ),
            refl,
          )
          stays false borrowed none later =
              let nowhere = none-first (IsUnborrowed number service) free free-so free-off parted.expired []
              (ap (λ (l : List ℕ). slice_get l 0) (append-nil (filter free parted.expired)) ∙ later) in (
                true,
                inr (
                  idle-off publisher is,
                  inr (
                    ltb-false (length parted.expired) most few,
                    inr (none, inr (free-off publisher borrowed, inr (nowhere.0, refl, refl))),
                  ),
                ),
                refl,
              )

  all-so : (publishers : List ℕ) (parted : Parted)
      → (staying : List ℕ)
      × AllPart number service most publishers parted.expired (fold (part buffer number service) parted publishers).expired staying
      × ((fold (part buffer number service) parted publishers).staying ≡ parted.staying ++ staying)
  all-so [] parted = ([], (refl, refl), sym (append-nil parted.staying))
  all-so (publisher ∷ more) parted =
      let next : Parted = part buffer number service parted publisher in
      let one : PartsTo parted publisher next = parts-so parted publisher in
      let rest = all-so more next in (
        cond one.0 (publisher ∷ rest.0) rest.0,
        (next.expired, one.0, rest.0, one.1, rest.1, refl),
        rest.2 ∙ (ap (λ (l : List ℕ). l ++ rest.0) one.2 ∙ joined one.0 rest.0),
      )
    where
      joined : (stays : Bool) (later : List ℕ) → cond stays (parted.staying ++ publisher ∷ []) parted.staying ++ later
          ≡ parted.staying ++ cond stays (publisher ∷ later) later
      joined true later = append_assoc parted.staying (publisher ∷ []) later
      joined false later = refl

-- ---- who parts, and who stays

closed-same : (place : Option ℕ × Option ℕ) → gone_from place ≡ closed_at place
closed-same (None, listed) = refl
closed-same (Some publisher, None) = refl
closed-same (Some publisher, Some listed) = here (listed == publisher)
  where
    here : (b : Bool) → cond (b || false) None (Some publisher) ≡ cond b None (Some publisher)
    here true = refl
    here false = refl

all-closed : (places : List (Option ℕ × Option ℕ)) → filter_map gone_from places ≡ filter_map closed_at places
all-closed [] = refl
all-closed (place ∷ more) =
    ap (λ (o : Option ℕ). cons_option o (filter_map gone_from more)) (closed-same place)
    ∙ ap (λ (l : List ℕ). cons_option (closed_at place) l) (all-closed more)

stays-there : (staying refused : List ℕ) (connected listed : List (Option ℕ))
    → AllByRecursion (λ (place : Option ℕ × Option ℕ). (publisher : ℕ) → place.0 ≡ Some publisher → contains staying publisher ≡ true
    → place.1 ≡ Some publisher) (zip connected (map (now_at staying refused) (zip connected listed)))
stays-there staying refused [] listed = tt
stays-there staying refused (one ∷ connected) [] = tt
stays-there staying refused (one ∷ connected) (place ∷ listed) = (
  (λ publisher is stays. ap (λ (o : Option ℕ). now_at staying refused (o, place)) is
      ∙ ap (λ (b : Bool). cond b (Some publisher) (unless refused place)) stays),
  stays-there staying refused connected listed,
)

pub parts-exactly : {T : Type 0} (buffer number : ℕ) (one : Subscriber) (old : Service T) (after : Subscriber) (new : Service T)
    → subscribing.Follows buffer number one old after new → PartsExactly number old buffer one after
parts-exactly {T} buffer number one old after new (refused, allowed, connected, is, turned, came) =
    let begins : Parted = record { expired = one.expired; staying = [] } in
    let publishers : List ℕ = parting (zip one.connected old.publisher_list.places) in
    let all = all-so buffer number old publishers begins in
    let most_expired : ℕ = max buffer old.settings.subscriber_max_borrowed_samples in (
      all.0,
      subst (λ (list : List ℕ). AllPart number old most_expired list one.expired after.expired all.0)
          (all-closed (filter (λ (place : Option ℕ × Option ℕ). is_some place.1) (zip one.connected old.publisher_list.places)
          ++ filter (λ (place : Option ℕ × Option ℕ). not (is_some place.1)) (zip one.connected old.publisher_list.places)))
          (subst (λ (list : List ℕ). AllPart number old most_expired publishers one.expired list all.0)
          (sym (ap (λ (it : Subscriber). it.expired) turned)) all.1),
      subst (λ (places : List (Option ℕ)). AllByRecursion (λ (place : Option ℕ × Option ℕ). (publisher : ℕ) → place.0 ≡ Some publisher
          → contains all.0 publisher ≡ true → place.1 ≡ Some publisher) (zip one.connected places))
          (sym (ap (λ (it : Subscriber). it.connected) turned ∙ is))
          (subst (λ (staying : List ℕ). AllByRecursion (λ (place : Option ℕ × Option ℕ). (publisher : ℕ) → place.0 ≡ Some publisher
          → contains all.0 publisher ≡ true → place.1 ≡ Some publisher)
          (zip one.connected (map (now_at staying refused) (zip one.connected old.publisher_list.places)))) (sym all.2)
          (stays-there all.0 refused one.connected old.publisher_list.places)),
    )
