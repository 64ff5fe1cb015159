-- Each stage of a call knows what the call's own steps did so far.
use Rattle.std.proofs.Common.{◌≡◌, ℕ, ◌+◌, ◌-◌, ◌%◌, ◌^◌, ◌<◌, ◌≤◌, Bool, true, false, if◌then◌else◌, ◌==◌, ◌&&◌, ◌||◌, nat_lt, nat_le}
use Rattle.std.proofs.Common.{List, [], ◌∷◌, ◌++◌, refl, sym, ◌∙◌, ap, subst, arith, mod-eq_of_lt}
use Rattle.std.specs.List.{list_any}
use Rattle.std.proofs.lemmas.Bool.{ltb-true, ltb-false, leb-false, eqb-true, eqb-false}
use Rattle.std.proofs.lemmas.List.Folds.{list_any-append}
use Rattle.iox_queues_steps.specs.Access.{successor}
use Rattle.iox_queues.specs.Steps.{call_begun, call_next, call_take, adding_at, going_on_at, swept_by, sweeping_at, found_at, is_apart}
use Rattle.iox_queues.specs.Sums.{increments, taken_out, cleared, raised_by, taken_by, cleared_by, hits}
use Rattle.iox_queues.specs.Told.{AddNone, TakeNone, shows, finds_none, finds_full}
use Rattle.iox_queues.specs.Kept.{IsBehind, Sweeps, Knows}
use Rattle.iox_queues.specs.Machine.{is_within}
use Rattle.iox_queues_steps.specs.declared.access.Access.TheVariants.{Local}
use Rattle.iox_queues.specs.declared.bits.call.Call.{Call}
use Rattle.iox_queues.specs.declared.bits.call.Call.TheVariants as call
use Rattle.iox_queues.specs.declared.bits.call.Answer.TheVariants.{Added}
use Rattle.iox_queues.specs.declared.bits.call.SetCall.{SetCall}
use Rattle.iox_queues.specs.declared.bits.call.SetCall.TheVariants.{Idle, Add, Adding, Next, Sweep, Taking, Found, Done}
use Rattle.iox_queues.specs.declared.bits.machine.Event.{Event}

pub more_increments : (n i : ℕ) (events : List Event) (e : Event)
    → increments n i (events ++ e ∷ []) ≡ increments n i events + raised_by n i e.access e.answer
more_increments n i [] e = omega arith
more_increments n i (x ∷ events) e = omega (arith, more_increments n i events e)

pub more_taken : (n i : ℕ) (events : List Event) (e : Event)
    → taken_out n i (events ++ e ∷ []) ≡ taken_out n i events + taken_by n i e.access e.answer
more_taken n i [] e = omega arith
more_taken n i (x ∷ events) e = omega (arith, more_taken n i events e)

pub more_cleared : (n i : ℕ) (events : List Event) (e : Event)
    → cleared n i (events ++ e ∷ []) ≡ cleared n i events + cleared_by n i e.access e.answer
more_cleared n i [] e = omega arith
more_cleared n i (x ∷ events) e = omega (arith, more_cleared n i events e)

or_left : (a b : Bool) → a ≡ true → (a || b) ≡ true
or_left true b e = refl
or_left false b e = absurd (cc)

or_right : (a b : Bool) → b ≡ true → (a || b) ≡ true
or_right true b e = refl
or_right false b e = e

any_first : (p : Event → Bool) (events : List Event) (e : Event) → list_any p events ≡ true → list_any p (events ++ e ∷ []) ≡ true
any_first p events e h = list_any-append p events (e ∷ []) ∙ or_left (list_any p events) (list_any p (e ∷ [])) h

any_last : (p : Event → Bool) (events : List Event) (e : Event) → p e ≡ true → list_any p (events ++ e ∷ []) ≡ true
any_last p events e h = list_any-append p events (e ∷ []) ∙ or_right (list_any p events) (list_any p (e ∷ [])) (or_left (p e) false h)

-- a step that raises nothing, and one that takes nothing
adds_on : (n : ℕ) (events : List Event) (e : Event) → AddNone n events → ((i : ℕ) → raised_by n i e.access e.answer ≡ 0)
    → AddNone n (events ++ e ∷ [])
adds_on n events e h none = λ i. omega (arith, more_increments n i events e, h i, none i)

takes_on : (n : ℕ) (events : List Event) (e : Event) → TakeNone n events → ((i : ℕ) → taken_by n i e.access e.answer ≡ 0)
    → TakeNone n (events ++ e ∷ [])
takes_on n events e h none = λ i. omega (arith, more_taken n i events e, h i, none i)

below : (place capacity n : ℕ) (b : Bool) → nat_lt place capacity ≡ b → capacity ≡ n → 0 < n → (if b then place else 0) < n
below place capacity n true e same some = let h : place < capacity = ltb-true place capacity e in omega arith
below place capacity n false e same some = omega arith

-- what is left is at least one
above : (left n : ℕ) → left ≤ n → (left ≡ 0 → ⊥) → 0 < n
above left n few differs = omega (arith, few, differs)

-- to the next place if one is left; else each place has been passed
goes_on : (max n : ℕ) (events : List Event) (place left capacity : ℕ) (all : Bool) → capacity ≡ n → left ≤ n → AddNone n events
    → (all ≡ false → TakeNone n events)
    → (b b2 : Bool) → (left == 0) ≡ b → nat_lt place capacity ≡ b2
    → ((i : ℕ) → i < n → IsBehind n (if b2 then place else 0) left i → list_any (finds_none n i) events ≡ true)
    → Knows max n events (if b then swept_by all else Sweep (if b2 then place else 0) left capacity all)
goes_on max n events place left capacity true same few adds takes true b2 e e2 passed =
    let none : left ≡ 0 = eqb-true left 0 e in (
      adds,
      λ i within. let low : (if b2 then place else 0) < n
          = below place capacity n b2 e2 same (omega (arith, within)) in passed i within ((λ h. omega arith), λ h. omega arith),
    )
goes_on max n events place left capacity false same few adds takes true b2 e e2 passed =
    let none : left ≡ 0 = eqb-true left 0 e in (
      adds,
      takes refl,
      λ i within. let low : (if b2 then place else 0) < n
          = below place capacity n b2 e2 same (omega (arith, within)) in passed i within ((λ h. omega arith), λ h. omega arith),
    )
goes_on max n events place left capacity all same few adds takes false true e e2 passed =
    let h : place < capacity = ltb-true place capacity e2 in
    record { whole = same; there = omega arith; few = few; adds = adds; takes = takes; passed = passed }
goes_on max n events place left capacity all same few adds takes false false e e2 passed =
    let some : 0 < n = above left n few (eqb-false left 0 e) in
    record { whole = same; there = some; few = few; adds = adds; takes = takes; passed = passed }

-- passed before the next place: passed before this one, or this one
behind_next : (n place left i : ℕ) (b : Bool) → n < 2 ^ 64 → place < n → i < n → (place ≡ i → ⊥) → nat_lt (successor place) n ≡ b
    → IsBehind n (if b then successor place else 0) (left - 1) i → IsBehind n place left i
behind_next n place left i true few there within differs e h =
    let lt : successor place < n = ltb-true (successor place) n e in
    let on : successor place ≡ place + 1 = omega arith in
    let ahead : place + 1 ≤ i → place + 1 + (left - 1) ≤ i = λ le. omega (arith, h.0 (omega arith)) in
    let around : i < place + 1 → place + 1 + (left - 1) ≤ i + n = λ l. omega (arith, h.1 (omega arith)) in (
      λ le. let m : place + 1 ≤ i = omega arith in omega (arith, ahead m),
      λ l. omega (arith, around (omega arith)),
    )
behind_next n place left i false few there within differs e h =
    let ge : n ≤ successor place = ltb-false (successor place) n e in
    let last : place + 1 ≡ n = omega arith in
    let low : left - 1 ≤ i = omega (arith, h.0 (omega arith)) in (
      λ le. absurd (differs (omega arith)),
      λ l. omega arith,
    )

-- the place is done with: to the next one
moves_on : (max n : ℕ) (events : List Event) (e : Event) (place left capacity : ℕ) (all : Bool) → n < 2 ^ 64
    → Sweeps n events place left capacity all
    → ((i : ℕ) → raised_by n i e.access e.answer ≡ 0) → (all ≡ false → (i : ℕ) → taken_by n i e.access e.answer ≡ 0)
    → finds_none n place e ≡ true
    → Knows max n (events ++ e ∷ []) (going_on_at (successor place) (left - 1) capacity all)
moves_on max n events e place left capacity all few s adds takes found =
    goes_on max n (events ++ e ∷ []) (successor place) (left - 1) capacity all s.whole (omega (arith, s.few))
    (adds_on n events e s.adds adds)
    (λ one. takes_on n events e (s.takes one) (takes one))
    (left - 1 == 0) (nat_lt (successor place) capacity) refl refl
    (λ i within behind. at i within (place == i) refl
    (subst (λ (c : ℕ). IsBehind n (if nat_lt (successor place) c then successor place else 0) (left - 1) i) s.whole behind))
  where
    at : (i : ℕ) → i < n → (b : Bool) → (place == i) ≡ b
        → IsBehind n (if nat_lt (successor place) n then successor place else 0) (left - 1) i
        → list_any (finds_none n i) (events ++ e ∷ []) ≡ true
    at i within true same behind = subst (λ (k : ℕ). list_any (finds_none n k) (events ++ e ∷ []) ≡ true) (eqb-true place i same)
        (any_last (finds_none n place) events e found)
    at i within false other behind = any_first (finds_none n i) events e
        (s.passed i within (behind_next n place left i (nat_lt (successor place) n) few s.there within (eqb-false place i other) refl
        behind))

-- the place was looked at: 0 is passed over, another is to be taken out
saw : (max n : ℕ) (events : List Event) (e : Event) (place left capacity : ℕ) (all : Bool) → n < 2 ^ 64
    → Sweeps n events place left capacity all
    → ((i : ℕ) → raised_by n i e.access e.answer ≡ 0) → ((i : ℕ) → taken_by n i e.access e.answer ≡ 0) → shows n place e.access ≡ true
    → (b : Bool) → (e.answer == 0) ≡ b
    → Knows max n (events ++ e ∷ []) (if b then going_on_at (successor place) (left - 1) capacity all else Taking place left capacity
    all e.answer)
saw max n events e place left capacity all few s adds takes shown true zero =
    moves_on max n events e place left capacity all few s adds (λ one. takes)
    (or_left (shows n place e.access && (e.answer == 0)) (nat_lt 0 (taken_by n place e.access e.answer))
    (both (shows n place e.access) (e.answer == 0) shown zero))
  where
    both : (a b : Bool) → a ≡ true → b ≡ true → (a && b) ≡ true
    both true b h k = k
    both false b h k = absurd (cc)
saw max n events e place left capacity all few s adds takes shown false zero =
    let differs : e.answer ≡ 0 → ⊥ = eqb-false e.answer 0 zero in (
      (record {
        whole = s.whole;
        there = s.there;
        few = s.few;
        adds = adds_on n events e s.adds adds;
        takes = λ one. takes_on n events e (s.takes one) takes;
        passed = λ i within behind. any_first (finds_none n i) events e (s.passed i within behind);
      }),
      omega arith,
    )

-- what an exchange to 0 raises
none_raised : (b : Bool) (count : ℕ) (b2 : Bool) → nat_lt count 0 ≡ b2 → ◌≡◌ {A = ℕ} (if b && b2 then 1 else 0) 0
none_raised true count true e = let h : count < 0 = ltb-true count 0 e in absurd (omega arith)
none_raised true count false e = refl
none_raised false count b2 e = refl

none_taken : (b b2 : Bool) (count : ℕ) → b2 ≡ false → (if b && b2 then count else 0) ≡ 0
none_taken true true count e = absurd (cc)
none_taken true false count e = refl
none_taken false b2 count e = refl

-- what an exchange that was won takes out of its own place, and of others
own_taken : (b b2 : Bool) (count : ℕ) → b ≡ true → b2 ≡ true → (if b && b2 then count else 0) ≡ count
own_taken true true count e e2 = refl
own_taken true false count e e2 = absurd (cc)
own_taken false b2 count e e2 = absurd (cc)

else_taken : (b b2 : Bool) (count : ℕ) → b ≡ false → (if b && b2 then count else 0) ≡ 0
else_taken true b2 count e = absurd (cc)
else_taken false b2 count e = refl

pub eqb_same : (n m : ℕ) (b : Bool) → (n == m) ≡ b → n ≡ m → b ≡ true
eqb_same n m true e h = refl
eqb_same n m false e h = absurd (eqb-false n m e h)

pub eqb_differs : (n m : ℕ) (b : Bool) → (n == m) ≡ b → (n ≡ m → ⊥) → b ≡ false
eqb_differs n m true e h = absurd (h (eqb-true n m e))
eqb_differs n m false e h = refl

own_place : (place n : ℕ) → place < n → (place % n == place) ≡ true
own_place place n within = eqb_same (place % n) place (place % n == place) refl (mod-eq_of_lt within)

-- where nothing was taken out, nothing was cleared
none_cleared : (n i : ℕ) (events : List Event) → taken_out n i events ≡ 0 → cleared n i events ≡ 0
none_cleared n i [] none = refl
none_cleared n i (x ∷ events) none = of (taken_by n i x.access x.answer) (nat_lt 0 (taken_by n i x.access x.answer)) refl
    (omega (arith, none)) (none_cleared n i events (omega (arith, none)))
  where
    of : (k : ℕ) (b : Bool) → nat_lt 0 k ≡ b → k ≡ 0 → cleared n i events ≡ 0 → (if b then 1 else 0) + cleared n i events ≡ 0
    of k true e zero rest = let some : 0 < k = ltb-true 0 k e in absurd (omega arith)
    of k false e zero rest = omega arith

-- what takes something out clears once
clears : (k : ℕ) (b : Bool) → nat_lt 0 k ≡ b → 0 < k → ◌≡◌ {A = ℕ} (if b then 1 else 0) 1
clears k true e h = refl
clears k false e h = let ge : k ≤ 0 = ltb-false 0 k e in absurd (omega arith)

-- the place was taken out
took : (max n : ℕ) (events : List Event) (e : Event) (place left capacity : ℕ) (all : Bool) (count : ℕ) → n < 2 ^ 64
    → Sweeps n events place left capacity all → 0 < count
    → ((i : ℕ) → raised_by n i e.access e.answer ≡ 0)
    → taken_by n place e.access e.answer ≡ count → ((i : ℕ) → (place ≡ i → ⊥) → taken_by n i e.access e.answer ≡ 0)
    → Knows max n (events ++ e ∷ []) (found_at place left capacity all)
took max n events e place left capacity true count few s some adds here away =
    moves_on max n events e place left capacity true few s adds (λ one. absurd (cc))
    (or_right (shows n place e.access && (e.answer == 0)) (nat_lt 0 (taken_by n place e.access e.answer))
    (lt_test (taken_by n place e.access e.answer) (nat_lt 0 (taken_by n place e.access e.answer)) refl (omega arith)))
  where
    lt_test : (k : ℕ) (b : Bool) → nat_lt 0 k ≡ b → 0 < k → b ≡ true
    lt_test k true e h = refl
    lt_test k false e h = let ge : k ≤ 0 = ltb-false 0 k e in absurd (omega arith)
took max n events e place left capacity false count few s some adds here away = (
  adds_on n events e s.adds adds,
  s.there,
  (omega (arith, more_taken n place events e, s.takes refl place, here)),
  (λ i differs. omega (arith, more_taken n i events e, s.takes refl i, away i differs)),
  omega (
    arith,
    more_cleared n place events e,
    none_cleared n place events (s.takes refl place),
    clears (taken_by n place e.access e.answer) (nat_lt 0 (taken_by n place e.access e.answer)) refl (omega (arith, here, some)),
  ),
)

-- the place was looked at, to count it once more
looked : (max n : ℕ) (events : List Event) (e : Event) (place top : ℕ) → top ≡ max → place < n → AddNone n events → TakeNone n events
    → ((i : ℕ) → raised_by n i e.access e.answer ≡ 0) → ((i : ℕ) → taken_by n i e.access e.answer ≡ 0) → shows n place e.access ≡ true
    → (b : Bool) → nat_lt e.answer top ≡ b
    → Knows max n (events ++ e ∷ []) (if b then Adding place top e.answer else Done (call.Set place) (Added false))
looked max n events e place top same within adds takes adds2 takes2 shown true less =
    let h : e.answer < top = ltb-true e.answer top less in
    (same, within, adds_on n events e adds adds2, takes_on n events e takes takes2, (omega arith))
looked max n events e place top same within adds takes adds2 takes2 shown false less =
    let h : top ≤ e.answer = ltb-false e.answer top less in (
      within,
      adds_on n events e adds adds2,
      takes_on n events e takes takes2,
      any_last (finds_full max n place) events e (full (shows n place e.access) (nat_le max e.answer) shown refl (omega arith)),
    )
  where
    full : (a b : Bool) → a ≡ true → nat_le max e.answer ≡ b → max ≤ e.answer → (a && b) ≡ true
    full true true h k le = refl
    full true false h k le = let lt : e.answer < max = leb-false max e.answer k in absurd (omega arith)
    full false b h k le = absurd (cc)

-- what an exchange to one more raises, where it is won
raised_once : (b b2 b3 : Bool) → b2 ≡ true → b3 ≡ true → ◌≡◌ {A = ℕ} (if (b && b2) && b3 then 1 else 0) (if b then 1 else 0)
raised_once true true true e e2 = refl
raised_once true true false e e2 = absurd (cc)
raised_once true false b3 e e2 = absurd (cc)
raised_once false b2 b3 e e2 = refl

none_of_lost : (b b2 b3 : Bool) → b2 ≡ false → ◌≡◌ {A = ℕ} (if (b && b2) && b3 then 1 else 0) 0
none_of_lost true true b3 e = absurd (cc)
none_of_lost true false b3 e = refl
none_of_lost false b2 b3 e = refl

no_less : (b : Bool) (k : ℕ) → k ≡ 0 → (if b then k else 0) ≡ 0
no_less true k e = e
no_less false k e = refl

lt_is : (k m : ℕ) (b : Bool) → nat_lt k m ≡ b → k < m → b ≡ true
lt_is k m true e h = refl
lt_is k m false e h = let ge : m ≤ k = ltb-false k m e in absurd (omega arith)

-- all places are ahead where n are left
none_behind : (n place left i : ℕ) (b : Bool) → nat_lt i place ≡ b → left ≡ n → i < n → IsBehind n place left i → ⊥
none_behind n place left i true e same within h = let lt : i < place = ltb-true i place e in omega (arith, h.1 lt)
none_behind n place left i false e same within h = let le : place ≤ i = ltb-false i place e in omega (arith, h.0 le)

counts : (max n : ℕ) (events : List Event) (party place top count answer : ℕ) → max < 2 ^ 64
    → Knows max n events (Adding place top count) → (b : Bool) → (answer == count) ≡ b
    → Knows max n (events ++ record { party = party; access = call_next (Adding place top count); answer = answer } ∷ [])
    (if b then Done (call.Set place) (Added true) else adding_at place top answer)
counts max n events party place top count answer small k true won =
    let e : Event = record { party = party; access = call_next (Adding place top count); answer = answer } in
    let up : count < successor count = omega (arith, k.4) in (
      k.1,
      λ i. omega (
        arith,
        more_increments n i events e,
        k.2 i,
        raised_once (place % n == i) (answer == count) (nat_lt count (successor count)) won
            (lt_is count (successor count) (nat_lt count (successor count)) refl up)
            ∙ ap (λ (m : ℕ). if m == i then 1 else 0) (mod-eq_of_lt k.1),
      ),
      takes_on n events e k.3 (λ i. no_less (hits n i place answer count) (count - successor count) (omega arith)),
    )
counts max n events party place top count answer small k false lost =
    let e : Event = record { party = party; access = call_next (Adding place top count); answer = answer } in
    looked max n events e place top k.0 k.1 k.2 k.3
    (λ i. none_of_lost (place % n == i) (answer == count) (nat_lt count (successor count)) lost)
    (λ i. none_taken (place % n == i) (answer == count) (count - successor count) lost)
    (own_place place n k.1) (nat_lt answer top) refl

takes : (max n : ℕ) (events : List Event) (party place left capacity : ℕ) (all : Bool) (count answer : ℕ) → n < 2 ^ 64
    → Knows max n events (Taking place left capacity all count) → (b : Bool) → (answer == count) ≡ b
    → Knows max n (events ++ record { party = party; access = call_next (Taking place left capacity all count); answer = answer } ∷ [])
    (if b then found_at place left capacity all else sweeping_at place left capacity all answer)
takes max n events party place left capacity all count answer few k true won =
    let e : Event = record { party = party; access = call_next (Taking place left capacity all count); answer = answer } in
    let whole : count - 0 ≡ count = omega arith in
    let s : Sweeps n events place left capacity all = k.0 in
    took max n events e place left capacity all count few s k.1
    (λ i. none_raised (hits n i place answer count) count (nat_lt count 0) refl)
    (own_taken (place % n == place) (answer == count) (count - 0) (own_place place n s.there) won ∙ whole)
    (λ i differs. else_taken (place % n == i) (answer == count) (count - 0)
    (eqb_differs (place % n) i (place % n == i) refl (λ same. differs (sym (mod-eq_of_lt s.there) ∙ same))))
takes max n events party place left capacity all count answer few k false lost =
    let e : Event = record { party = party; access = call_next (Taking place left capacity all count); answer = answer } in
    let s : Sweeps n events place left capacity all = k.0 in
    saw max n events e place left capacity all few s
    (λ i. none_raised (hits n i place answer count) count (nat_lt count 0) refl)
    (λ i. none_taken (place % n == i) (answer == count) (count - 0) lost)
    (own_place place n s.there) (answer == 0) refl

-- a call knows its steps after one more
pub knows_on : (max n : ℕ) (events : List Event) (stage : SetCall) (party answer : ℕ) → max < 2 ^ 64 → n < 2 ^ 64 → Knows max n events stage
    → Knows max n (events ++ record { party = party; access = call_next stage; answer = answer } ∷ []) (call_take stage answer)
knows_on max n events Idle party answer small few k = tt
knows_on max n events (Add place top) party answer small few k =
    looked max n events (record { party = party; access = call_next (Add place top); answer = answer }) place top k.0 k.1 k.2 k.3
    (λ i. refl) (λ i. refl) (own_place place n k.1) (nat_lt answer top) refl
knows_on max n events (Adding place top count) party answer small few k
    = counts max n events party place top count answer small k (answer == count) refl
knows_on max n events (Next capacity) party answer small few k =
    let e : Event = record { party = party; access = call_next (Next capacity); answer = answer } in
    goes_on max n (events ++ e ∷ []) answer capacity capacity false k.0 (omega (arith, k.0)) (adds_on n events e k.1 (λ i. refl))
    (λ one. takes_on n events e k.2 (λ i. refl))
    (capacity == 0) (nat_lt answer capacity) refl refl
    (λ i within behind. absurd (none_behind n (if nat_lt answer capacity then answer else 0) capacity i
    (nat_lt i (if nat_lt answer capacity then answer else 0)) refl k.0 within behind))
knows_on max n events (Sweep place left capacity all) party answer small few k =
    saw max n events (record { party = party; access = call_next (Sweep place left capacity all); answer = answer }) place left capacity
    all few k (λ i. refl) (λ i. refl) (own_place place n k.there) (answer == 0) refl
knows_on max n events (Taking place left capacity all count) party answer small few k
    = takes max n events party place left capacity all count answer few k (answer == count) refl
knows_on max n events (Found place after) party answer small few k =
    let e : Event = record { party = party; access = call_next (Found place after); answer = answer } in (
      adds_on n events e k.0 (λ i. refl),
      k.1,
      (omega (arith, more_taken n place events e, k.2)),
      (λ i differs. omega (arith, more_taken n i events e, k.3 i differs)),
      omega (arith, more_cleared n place events e, k.4),
    )
knows_on max n events (Done c answered) party answer small few k = tt

-- a call that begins knows its begin
pub knows_begun : (max n party : ℕ) (c : Call) → is_within n c ≡ true
    → Knows max n (record { party = party; access = Local; answer = 0 } ∷ []) (call_begun max n c)
knows_begun max n party (call.Set place) within = (refl, ltb-true place n within, (λ i. refl), λ i. refl)
knows_begun max n party call.ResetNext within = (refl, (λ i. refl), λ i. refl)
knows_begun max n party call.ResetAll within =
    let event : Event = record { party = party; access = Local; answer = 0 } in
    goes_on max n (event ∷ []) 0 n n true refl (omega arith) (λ i. refl) (λ one. absurd (cc)) (n == 0) (nat_lt 0 n) refl refl
    (λ i there behind. absurd (none_behind n (if nat_lt 0 n then 0 else 0) n i (nat_lt i (if nat_lt 0 n then 0 else 0)) refl refl there
    behind))

-- where a call touches a cell, there is one
pub some_cells : (max n : ℕ) (events : List Event) (stage : SetCall) → Knows max n events stage → is_apart (call_next stage) ≡ false → 0 < n
some_cells max n events Idle k touches = absurd (cc)
some_cells max n events (Add place top) k touches = omega (arith, k.1)
some_cells max n events (Adding place top count) k touches = omega (arith, k.1)
some_cells max n events (Next capacity) k touches = absurd (cc)
some_cells max n events (Sweep place left capacity all) k touches = omega (arith, k.there)
some_cells max n events (Taking place left capacity all count) k touches = omega (arith, k.0.there)
some_cells max n events (Found place after) k touches = omega (arith, k.1)
some_cells max n events (Done c answered) k touches = absurd (cc)
